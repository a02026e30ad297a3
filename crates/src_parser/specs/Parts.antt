-- For the proofs and for private clauses, and for parsers of larger languages: how the part of a statement before its
-- block, or a whole assignment, is read token by token.
use Rattle.std.specs.Prelude.{ℕ, List, [], Option, Some, None}
use Rattle.gr_word.specs.declared.operations.Cmp.{Cmp}
use Rattle.src_lexer.specs.declared.tokens.Kind.{Kind}
use Rattle.src_tree.specs.Trees.{Tree, Test}
use Rattle.src_parser.specs.Grammar.{Limits, comparison_of}
use Rattle.src_parser.specs.Tokenwise.{Advance, Goes, Wrong, TooMuch}
use Rattle.src_parser.specs.Operands.{Reading, At, Wanted, TokenStep, Moves, Stops, Deep, reads, whole, used_of}
use Rattle.src_lexer.specs.declared.tokens.Kind.TheVariants as kind

-- whether a guard belongs to a choice or to a loop
pub data Form : Type 0 where
  ForChoice : Form
  ForLoop : Form

-- the purpose of an expression: a variable's value; an element's index, and then its value; the left and the right side
-- of a guard
pub data Asked : Type 0 where
  Value : (name : List ℕ) → Asked
  Place : (name : List ℕ) → Asked
  Stored : (name : List ℕ) (index : Tree) → Asked
  Left : (form : Form) → Asked
  Right : (form : Form) (cmp : Cmp) (left : Tree) → Asked

-- how far a part was read
pub data Part : Type 0 where
  Target : (name : List ℕ) → Part
  Placed : (name : List ℕ) (index : Tree) (used : ℕ) → Part
  Guarding : (form : Form) → Part
  Inside : (asked : Asked) (reading : Reading) → Part

-- a part that is complete: an assignment, or the guard of a block
pub data Made : Type 0 where
  VariableSet : (name : List ℕ) (value : Tree) → Made
  ElementSet : (name : List ℕ) (index value : Tree) → Made
  GuardRead : (form : Form) (test : Test) → Made

pub data PartState : Type 0 where
  Still : (part : Part) → PartState
  Done : (made : Made) → PartState

-- the effect of a token of an expression: the reading continues, or ends before the token
abbrev pub after_step : {S : Type 0} → (Reading → S) → (Reading → Advance S) → TokenStep → Advance S
after_step on over (Moves x) = Goes (on x)
after_step on over (Stops x) = over x
after_step on over Deep = TooMuch

-- a token after the name in an assignment
abbrev pub targeting : List ℕ → Kind → Advance PartState
targeting name kind.Assign = Goes (Still (Inside (Value name) (At [] 0 0 Wanted)))
targeting name kind.LBracket = Goes (Still (Inside (Place name) (At [] 1 0 Wanted)))
targeting name _ = Wrong

abbrev pub placing : List ℕ → Tree → ℕ → Kind → Advance PartState
placing name index used kind.Assign = Goes (Still (Inside (Stored name index) (At [] 0 used Wanted)))
placing name index used _ = Wrong

abbrev pub guarding : Form → Kind → Advance PartState
guarding form kind.LParen = Goes (Still (Inside (Left form) (At [] 0 0 Wanted)))
guarding form _ = Wrong

-- a comparison, if there is one
abbrev pub comparing : Form → Tree → ℕ → Option Cmp → Advance PartState
comparing form left used (Some cmp) = Goes (Still (Inside (Right form cmp left) (At [] 0 used Wanted)))
comparing form left used None = Wrong

-- a token after the whole expression
abbrev pub behind_expression : Asked → Tree → ℕ → Kind → Advance PartState
behind_expression (Value name) tree used kind.Semi = Goes (Done (VariableSet name tree))
behind_expression (Place name) tree used kind.RBracket = Goes (Still (Placed name tree used))
behind_expression (Stored name index) tree used kind.Semi = Goes (Done (ElementSet name index tree))
behind_expression (Left form) tree used k = comparing form tree used (comparison_of k)
behind_expression (Right form cmp left) tree used kind.RParen =
    Goes (Done (GuardRead form (record { cmp = cmp; left = left; right = tree })))
behind_expression other tree used _ = Wrong

abbrev pub ending_where : Asked → Option Tree → ℕ → Kind → Advance PartState
ending_where asked None used k = Wrong
ending_where asked (Some tree) used k = behind_expression asked tree used k

-- a token in an expression
abbrev pub in_expression : Asked → Kind → TokenStep → Advance PartState
in_expression asked k s =
    after_step (λ x. Still (Inside asked x)) (λ x. ending_where asked (whole x) (used_of x) k) s

-- a token of a part
abbrev pub part_advanced : Limits → Part → Kind → Advance PartState
part_advanced most (Target name) k = targeting name k
part_advanced most (Placed name index used) k = placing name index used k
part_advanced most (Guarding form) k = guarding form k
part_advanced most (Inside asked x) k = in_expression asked k (reads most x k)
