-- The tokens of a whole part of a statement are read as that part, for any result.
use Rattle.std.proofs.Common.{◌≡◌, ◌≢◌, ℕ, ◌+◌, ◌≤◌, List, [], ◌∷◌, ◌++◌, Some, None, refl, ap, ◌∙◌, subst, append_assoc, arith}
use Rattle.gr_word.specs.declared.operations.Cmp.{Cmp}
use Rattle.src_lexer.specs.declared.tokens.Kind.{Kind}
use Rattle.src_tree.specs.Prelude.{Tree, Test}
use Rattle.src_parser.specs.Prelude.{Limits, operator_of, comparison_of, operators, SpellsTree, Compares, Compared, Reading, At, Wanted, Given, Stops, Joins, closing, reads, Goes, Form, Asked, Value, Place, Stored, Left, Right, Part, Target, Placed, Guarding, Inside, VariableSet, ElementSet, GuardRead, PartState, Still, Done, in_expression, part_advanced}
use Rattle.src_parser.proofs.Complete.{Runs, Follows, closer, complete}
use Rattle.src_lexer.specs.declared.tokens.Kind.TheVariants as kind

-- a reading of parts that continues with `part_advanced`, for any result
pub record PartRuns (most : Limits) {R : Type 0} (go : PartState → List Kind → R) : Type 0 where
  pub goes : (part : Part) (s : PartState) (k : Kind) (ks : List Kind) → part_advanced most part k ≡ Goes s
      → go (Still part) (k ∷ ks) ≡ go s ks
  pub same : (asked : Asked) (x y : Reading) (k : Kind) (ks : List Kind) → reads most x k ≡ reads most y k
      → go (Still (Inside asked x)) (k ∷ ks) ≡ go (Still (Inside asked y)) (k ∷ ks)

-- with nothing that waits, an expression ends before any token that isn't an operator
pub stops_whole : (used : ℕ) (tree : Tree) (depth : ℕ) (k : Kind)
    → closing used k (Joins [] tree depth) ≡ Stops (At [] depth used (Given tree))
stops_whole used tree depth kind.RParen = refl
stops_whole used tree depth _ = refl

no_operator : (k : Kind) (cmp : Cmp) → comparison_of k ≡ Some cmp → operator_of k ≡ None
no_operator kind.Eq cmp e = refl
no_operator _ cmp e = cc

no_bracket : (k : Kind) (cmp : Cmp) → comparison_of k ≡ Some cmp → k ≢ kind.LBracket
no_bracket k cmp e is =
    let f : comparison_of kind.LBracket ≡ Some cmp = subst (λ z. comparison_of z ≡ Some cmp) is e in absurd (cc)

pub right_paren : Follows 0 kind.RParen
right_paren = closer 0 kind.RParen (λ e. absurd (cc)) refl

right_bracket : Follows 0 kind.RBracket
right_bracket = closer 0 kind.RBracket (λ e. absurd (cc)) refl

pub semicolon : Follows 0 kind.Semi
semicolon = closer 0 kind.Semi (λ e. absurd (cc)) refl

module _ {R : Type 0} (most : Limits) (go : PartState → List Kind → R) (runs : PartRuns most go) where
  -- an expression in a part is read as its tokens are read
  expression_runs : (asked : Asked) → Runs most (λ x ks. go (Still (Inside asked x)) ks)
  expression_runs asked = record {
    moves = λ x y k ks e. runs.goes (Inside asked x) (Still (Inside asked y)) k ks (ap (in_expression asked k) e);
    same = runs.same asked;
  }

  -- the value of a variable
  pub variable_read : {tokens : List Kind} {value : Tree} (name : List ℕ)
      → SpellsTree most.brackets 0 0 tokens value → operators value ≤ most.operators → (ks : List Kind)
      → go (Still (Target name)) (kind.Assign ∷ (tokens ++ kind.Semi ∷ ks)) ≡ go (Done (VariableSet name value)) ks
  variable_read {value = value} name s fits ks =
      runs.goes (Target name) _ _ _ refl ∙
      (complete most _ (expression_runs (Value name)) s [] 0 (operators value) kind.Semi ks (omega arith) semicolon
      (omega arith) fits ∙ runs.goes (Inside (Value name) (At [] 0 (operators value) (Given value))) _ _ _ refl)

  -- the index and the value of an element
  pub element_read : {at tokens : List Kind} {index value : Tree} (name : List ℕ)
      → SpellsTree most.brackets 1 0 at index → SpellsTree most.brackets 0 0 tokens value
      → operators index + operators value ≤ most.operators → (ks : List Kind)
      → go (Still (Target name)) (kind.LBracket ∷ (at ++ kind.RBracket ∷ kind.Assign ∷ (tokens ++ kind.Semi ∷ ks)))
      ≡ go (Done (ElementSet name index value)) ks
  element_read {tokens = tokens} {index = index} {value = value} name i s fits ks =
      runs.goes (Target name) _ _ _ refl ∙
      (complete most _ (expression_runs (Place name)) i [] 0 (operators index) kind.RBracket
      (kind.Assign ∷ (tokens ++ kind.Semi ∷ ks)) (omega arith) right_bracket (omega arith) (omega arith) ∙
      (runs.goes (Inside (Place name) (At [] 1 (operators index) (Given index))) _ _ _ refl ∙
      (runs.goes (Placed name index (operators index)) _ _ _ refl ∙
      (complete most _ (expression_runs (Stored name index)) s [] (operators index)
      (operators index + operators value) kind.Semi ks (omega arith) semicolon refl fits ∙
      runs.goes (Inside (Stored name index) (At [] 0 (operators index + operators value) (Given value))) _ _ _
      refl))))

  left_ends : (form : Form) (a : Tree) (used : ℕ) (sign : Kind) (cmp : Cmp) → comparison_of sign ≡ Some cmp
      → part_advanced most (Inside (Left form) (At [] 0 used (Given a))) sign
      ≡ Goes (Still (Inside (Right form cmp a) (At [] 0 used Wanted)))
  left_ends form a used sign cmp is = rw (no_operator sign cmp is, stops_whole used a 0 sign, is) refl

  -- a guard
  pub guard_read : {tokens : List Kind} {test : Test} → Compares most tokens test → (form : Form)
      (ks : List Kind) → go (Still (Guarding form)) (kind.LParen ∷ (tokens ++ kind.RParen ∷ ks))
      ≡ go (Done (GuardRead form test)) ks
  guard_read (Compared {left = left} {right = right} {a = a} {b = b} cmp sign is first second fits) form ks =
      rw (append_assoc left (sign ∷ right) (kind.RParen ∷ ks))
      (runs.goes (Guarding form) _ _ _ refl ∙
      (complete most _ (expression_runs (Left form)) first [] 0 (operators a) sign (right ++ kind.RParen ∷ ks)
      (omega arith) (closer 0 sign (no_bracket sign cmp is) (no_operator sign cmp is)) (omega arith) (omega arith) ∙
      (runs.goes (Inside (Left form) (At [] 0 (operators a) (Given a))) _ _ _
      (left_ends form a (operators a) sign cmp is) ∙
      (complete most _ (expression_runs (Right form cmp a)) second [] (operators a) (operators a + operators b)
      kind.RParen ks (omega arith) right_paren refl fits ∙
      runs.goes (Inside (Right form cmp a) (At [] 0 (operators a + operators b) (Given b))) _ _ _ refl))))
