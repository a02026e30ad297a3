-- For the proofs and for private clauses, and for parsers of larger languages: how an expression is read token by
-- token, with a stack.
use Rattle.std.specs.Prelude.{ℕ, ◌+◌, nat_lt, nat_le, Bool, true, false, ◌&&◌, if◌then◌else◌, pos, List, [], ◌∷◌, Option, Some, None}
use Rattle.gr_word.specs.declared.operations.Op.{Op}
use Rattle.gr_word.specs.declared.operations.Op.TheVariants.{Sub}
use Rattle.src_lexer.specs.declared.tokens.Kind.{Kind}
use Rattle.src_tree.specs.Trees.{Tree, Number, Variable, Element, Operation}
use Rattle.src_parser.specs.Grammar.{Limits, operator_of, level_of}
use Rattle.src_lexer.specs.declared.tokens.Kind.TheVariants as kind

-- an item that waits for an operand: a bracket, an index or a sign, each with how many were open before it, or an
-- operation with its left operand
pub data Waiting : Type 0 where
  Open : (depth : ℕ) → Waiting
  Index : (depth : ℕ) (name : List ℕ) → Waiting
  Sign : (depth : ℕ) → Waiting
  Pending : (left : Tree) (op : Op) → Waiting

-- whether an operand is expected, was a name that may get an index, or was read
pub data OperandState : Type 0 where
  Wanted : OperandState
  Named : (name : List ℕ) → OperandState
  Given : (tree : Tree) → OperandState

-- how far an expression was read: what waits, with the last item first; how many brackets and signs are open; and how
-- many operators and signs the statement has used
pub data Reading : Type 0 where
  At : (stack : List Waiting) (depth used : ℕ) (operand : OperandState) → Reading

-- the effect of a token: it is read; the expression doesn't continue with it; it exceeds a limit
pub data TokenStep : Type 0 where
  Moves : (reading : Reading) → TokenStep
  Stops : (reading : Reading) → TokenStep
  Deep : TokenStep

-- a token that is read if there is room
abbrev pub where_room : Bool → Reading → TokenStep
where_room true x = Moves x
where_room false x = Deep

-- the stack and the operand, after everything that binds at this level or tighter has taken its operand
pub data Joint : Type 0 where
  Joins : (stack : List Waiting) (tree : Tree) (depth : ℕ) → Joint

abbrev pub tree_joined : ℕ → List Waiting → Tree → ℕ → Joint
tree_joined level [] tree depth = Joins [] tree depth
tree_joined level (Open d ∷ stack) tree depth = Joins (Open d ∷ stack) tree depth
tree_joined level (Index d name ∷ stack) tree depth = Joins (Index d name ∷ stack) tree depth
tree_joined level (Sign d ∷ stack) tree depth = tree_joined level stack (Operation Sub (Number (pos 0)) tree) d
tree_joined level (Pending left op ∷ stack) tree depth =
    if nat_le level (level_of op) then tree_joined level stack (Operation op left tree) depth
    else Joins (Pending left op ∷ stack) tree depth

-- a token where an operand is expected
abbrev pub wanting : Limits → List Waiting → ℕ → ℕ → Kind → TokenStep
wanting most stack depth used (kind.Num (pos n)) = Moves (At stack depth used (Given (Number (pos n))))
wanting most stack depth used (kind.Word name) = Moves (At stack depth used (Named name))
wanting most stack depth used kind.LParen =
    where_room (nat_lt depth most.brackets) (At (Open depth ∷ stack) (depth + 1) used Wanted)
wanting most stack depth used kind.Minus =
    where_room (nat_lt depth most.brackets && nat_lt used most.operators)
    (At (Sign depth ∷ stack) (depth + 1) (used + 1) Wanted)
wanting most stack depth used _ = Stops (At stack depth used Wanted)

-- an operator after an operand
abbrev pub pending : Limits → Op → ℕ → Joint → TokenStep
pending most op used (Joins stack tree depth) =
    where_room (nat_lt used most.operators) (At (Pending tree op ∷ stack) depth (used + 1) Wanted)

-- any other token after an operand
abbrev pub closing : ℕ → Kind → Joint → TokenStep
closing used kind.RParen (Joins (Open d ∷ stack) tree depth) = Moves (At stack d used (Given tree))
closing used kind.RBracket (Joins (Index d name ∷ stack) tree depth) =
    Moves (At stack d used (Given (Element name tree)))
closing used _ (Joins stack tree depth) = Stops (At stack depth used (Given tree))

-- a token after an operand
abbrev pub having : Limits → List Waiting → ℕ → ℕ → Tree → Kind → Option Op → TokenStep
having most stack depth used tree sign (Some op) = pending most op used (tree_joined (level_of op) stack tree depth)
having most stack depth used tree sign None = closing used sign (tree_joined 0 stack tree depth)

-- a token after a name
abbrev pub naming : Limits → List Waiting → ℕ → ℕ → List ℕ → Kind → TokenStep
naming most stack depth used name kind.LBracket =
    where_room (nat_lt depth most.brackets) (At (Index depth name ∷ stack) (depth + 1) used Wanted)
naming most stack depth used name sign = having most stack depth used (Variable name) sign (operator_of sign)

-- a token of an expression
abbrev pub reads : Limits → Reading → Kind → TokenStep
reads most (At stack depth used Wanted) sign = wanting most stack depth used sign
reads most (At stack depth used (Named name)) sign = naming most stack depth used name sign
reads most (At stack depth used (Given tree)) sign = having most stack depth used tree sign (operator_of sign)

-- the whole expression, if nothing waits
abbrev pub whole : Reading → Option Tree
whole (At [] depth used (Given tree)) = Some tree
whole _ = None

-- the number of operators and signs that were used
abbrev pub used_of : Reading → ℕ
used_of (At stack depth used operand) = used
