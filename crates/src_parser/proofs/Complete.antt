-- The tokens of an expression are read as that expression, from where an operand is expected to where its tree is
-- complete.
use Rattle.std.proofs.Common.{◌≡◌, ◌≢◌, ℕ, ◌+◌, ◌<◌, ◌≤◌, pos, List, [], ◌∷◌, ◌++◌, Option, Some, None, refl, ap, ◌∙◌, subst, append_assoc, arith}
use Rattle.std.specs.Prelude.{◌&&◌, nat_lt}
use Rattle.std.proofs.lemmas.Bool.{and_from, lt-ltb, le-leb, lt-leb}
use Rattle.gr_word.specs.declared.operations.Op.{Op}
use Rattle.gr_word.specs.declared.operations.Op.TheVariants.{Sub}
use Rattle.src_lexer.specs.declared.tokens.Kind.{Kind}
use Rattle.src_tree.specs.Prelude.{Tree, Number, Variable, Operation}
use Rattle.src_parser.specs.Prelude.{Limits, operator_of, level_of, operators, SpellsTree, Numeral, Named, Indexed, Bracketed, Negated, Joined, Waiting, Open, Index, Sign, Pending, Wanted, Given, Reading, At, Moves, Joins, tree_joined, where_room, pending, closing, having, reads}
use Rattle.src_parser.proofs.Levels.{level_low}
use Rattle.src_lexer.specs.declared.tokens.Kind.TheVariants as kind
use Rattle.src_parser.specs.Operands as m

-- the level from which on what waits leaves operators to the operand
abbrev pub top_level : List Waiting → ℕ
top_level [] = 0
top_level (Open d ∷ stack) = 0
top_level (Index d name ∷ stack) = 0
top_level (Sign d ∷ stack) = 6
top_level (Pending left op ∷ stack) = level_of op + 1

-- a token after an expression of this level: it isn't `[`, nor an operator that binds tighter
pub record Follows (level : ℕ) (k : Kind) : Type 0 where
  pub no_index : k ≢ kind.LBracket
  pub looser : (op : Op) → operator_of k ≡ Some op → level_of op ≤ level

-- a reading that continues with `reads`, for any result
pub record Runs (most : Limits) {R : Type 0} (go : Reading → List Kind → R) : Type 0 where
  pub moves : (x y : Reading) (k : Kind) (ks : List Kind) → reads most x k ≡ Moves y → go x (k ∷ ks) ≡ go y ks
  pub same : (x y : Reading) (k : Kind) (ks : List Kind)
      → reads most x k ≡ reads most y k → go x (k ∷ ks) ≡ go y (k ∷ ks)

pub room : (x : Reading) (a b : ℕ) → a < b → where_room (nat_lt a b) x ≡ Moves x
room x a b h = ap (λ t. where_room t x) (lt-ltb a b h)

pub room_both : (x : Reading) (a b c d : ℕ) → a < b → c < d → where_room (nat_lt a b && nat_lt c d) x ≡ Moves x
room_both x a b c d h i = ap (λ t. where_room t x) (and_from _ _ (lt-ltb a b h) (lt-ltb c d i))

-- what waits for tighter operators stays
pub settled : (j : ℕ) (stack : List Waiting) (tree : Tree) (depth : ℕ)
    → top_level stack ≤ j → j < 6 → tree_joined j stack tree depth ≡ Joins stack tree depth
settled j [] tree depth h i = refl
settled j (Sign d ∷ stack) tree depth h i = absurd (omega arith)
settled j (Pending left op ∷ stack) tree depth h i = rw (lt-leb j (level_of op) (omega arith)) refl
settled j _ tree depth h i = refl

-- what doesn't wait for tighter operators takes the operand
pub taken : (j : ℕ) (left : Tree) (op : Op) (stack : List Waiting) (tree : Tree) (depth : ℕ) → j ≤ level_of op →
    tree_joined j (Pending left op ∷ stack) tree depth ≡ tree_joined j stack (Operation op left tree) depth
taken j left op stack tree depth h = rw (le-leb j (level_of op) h) refl

-- after an expression, a name is read like its tree
name_is_tree : (most : Limits) (stack : List Waiting) (depth used : ℕ) (name : List ℕ) (k : Kind) → k
    ≢ kind.LBracket →
    reads most (At stack depth used (m.Named name)) k ≡ reads most (At stack depth used (Given (Variable name))) k
name_is_tree most stack depth used name kind.LBracket h = absurd (h refl)
name_is_tree most stack depth used name _ h = refl

having_signed : (most : Limits) (stack : List Waiting) (depth d used : ℕ) (tree : Tree) (k : Kind) (o : Option Op)
    → having most (Sign d ∷ stack) depth used tree k o
    ≡ having most stack d used (Operation Sub (Number (pos 0)) tree) k o
having_signed most stack depth d used tree k (Some op) = refl
having_signed most stack depth d used tree k None = refl

having_taken : (most : Limits) (stack : List Waiting) (depth used : ℕ) (left tree : Tree) (op : Op) (k : Kind)
    (o : Option Op) → ((other : Op) → o ≡ Some other → level_of other ≤ level_of op)
    → having most (Pending left op ∷ stack) depth used tree k o
    ≡ having most stack depth used (Operation op left tree) k o
having_taken most stack depth used left tree op k (Some other) h =
    ap (pending most other used) (taken (level_of other) left op stack tree depth (h other refl))
having_taken most stack depth used left tree op k None h =
    ap (closing used k) (taken 0 left op stack tree depth (omega arith))

having_operator : (most : Limits) (stack : List Waiting) (depth used : ℕ) (tree : Tree) (k : Kind) (o : Option Op)
    (op : Op) → o ≡ Some op → top_level stack ≤ level_of op → used < most.operators
    → having most stack depth used tree k o ≡ Moves (At (Pending tree op ∷ stack) depth (used + 1) Wanted)
having_operator most stack depth used tree k o op is h r =
    rw (is, settled (level_of op) stack tree depth h (level_low op)) (room _ used most.operators r)

level_of_sign : (sign : Kind) (op : Op) (level : ℕ) → operator_of sign ≡ Some op → level_of op ≤ level
    → (other : Op)
    → operator_of sign ≡ Some other → level_of other ≤ level
level_of_sign sign op level is le other also = let e : op ≡ other = cc in subst (λ o. level_of o ≤ level) e le

not_index : (sign : Kind) (op : Op) → operator_of sign ≡ Some op → sign ≢ kind.LBracket
not_index sign op is e =
    let f : operator_of kind.LBracket ≡ Some op = subst (λ k. operator_of k ≡ Some op) e is in absurd (cc)

pub behind_operator : (sign : Kind) (op : Op) → operator_of sign ≡ Some op → Follows (level_of op) sign
behind_operator sign op is =
    record { no_index = not_index sign op is; looser = level_of_sign sign op (level_of op) is (omega arith) }

-- a token that is neither `[` nor an operator follows at each level
pub closer : (level : ℕ) (k : Kind) → k ≢ kind.LBracket → operator_of k ≡ None → Follows level k
closer level k h n = record { no_index = h; looser = λ op is. absurd (cc) }

follows_higher : (level high : ℕ) (k : Kind) → level ≤ high → Follows level k → Follows high k
follows_higher level high k le f =
    record { no_index = f.no_index; looser = λ op is. let h = f.looser op is in omega arith }

last_bracket : (tokens ks : List Kind) (a k : Kind) → (tokens ++ a ∷ []) ++ k ∷ ks ≡ tokens ++ a ∷ k ∷ ks
last_bracket tokens ks a k = append_assoc tokens (a ∷ []) (k ∷ ks)

right_bracket : Follows 0 kind.RBracket
right_bracket = closer 0 kind.RBracket (λ e. absurd (cc)) refl

right_paren : Follows 0 kind.RParen
right_paren = closer 0 kind.RParen (λ e. absurd (cc)) refl

-- the tokens of a tree are read as that tree
pub complete : {R : Type 0} (most : Limits) (go : Reading → List Kind → R) → Runs most go →
    {depth level : ℕ} {tokens : List Kind} {tree : Tree} → SpellsTree most.brackets depth level tokens tree →
    (stack : List Waiting) (used after : ℕ) (k : Kind) (ks : List Kind) → top_level stack ≤ level
    → Follows level k →
    after ≡ used + operators tree → after ≤ most.operators →
    go (At stack depth used Wanted) (tokens ++ k ∷ ks) ≡ go (At stack depth after (Given tree)) (k ∷ ks)
complete most go runs {depth} (Numeral n) stack used after k ks top f is fits =
    let e : used ≡ after = omega arith in
    runs.moves _ _ _ _ refl ∙ ap (λ u. go (At stack depth u (Given (Number (pos n)))) (k ∷ ks)) e
complete most go runs {depth} (Named name) stack used after k ks top f is fits =
    let e : used ≡ after = omega arith in
    runs.moves _ _ _ _ refl ∙ (runs.same _ _ k ks (name_is_tree most stack depth used name k f.no_index)
    ∙ ap (λ u. go (At stack depth u (Given (Variable name))) (k ∷ ks)) e)
complete most go runs {depth} (Indexed {tokens = tokens} name fit inner) stack used after k ks top f is fits =
    rw (last_bracket tokens ks kind.RBracket k)
    (runs.moves _ (At stack depth used (m.Named name)) _ _ refl ∙
    (runs.moves _ _ _ _ (room (At (Index depth name ∷ stack) (depth + 1) used Wanted) depth most.brackets fit) ∙
    (complete most go runs inner (Index depth name ∷ stack) used after kind.RBracket (k ∷ ks)
    (omega arith) right_bracket is fits ∙
    runs.moves _ _ _ _ refl)))
complete most go runs {depth}
    (Bracketed {tokens = tokens} {tree = tree} fit inner) stack used after k ks top f is fits =
    rw (last_bracket tokens ks kind.RParen k)
    (runs.moves _ _ _ _ (room (At (Open depth ∷ stack) (depth + 1) used Wanted) depth most.brackets fit) ∙
    (complete most go runs inner (Open depth ∷ stack) used after kind.RParen (k ∷ ks)
    (omega arith) right_paren is fits ∙
    runs.moves _ _ _ _ refl))
complete most go runs {depth} {level} (Negated {tree = tree} fit inner) stack used after k ks top f is fits =
    runs.moves _ _ _ _ (room_both (At (Sign depth ∷ stack) (depth + 1) (used + 1) Wanted) depth most.brackets used
    most.operators fit (omega arith)) ∙
    (complete most go runs inner (Sign depth ∷ stack) (used + 1) after k ks (omega arith)
    (record { no_index = f.no_index; looser = λ op e. let h = level_low op in omega arith }) (omega arith) fits ∙
    runs.same _ _ k ks (having_signed most stack (depth + 1) depth after tree k (operator_of k)))
complete most go runs {depth} {level} (Joined {left = left} {right = right} {a = a}
    {b = b} op sign below sign_is first second) stack used after k ks top f is fits =
    let low = level_low op in
    let e = f.looser in
    rw (append_assoc left (sign ∷ right) (k ∷ ks))
    (complete most go runs first stack used (used + operators a) sign (right ++ k ∷ ks) (omega arith)
    (behind_operator sign op sign_is) refl (omega arith) ∙
    (runs.moves _ _ _ _ (having_operator most stack depth (used + operators a) a sign (operator_of sign) op sign_is
    (omega arith) (omega arith)) ∙
    (complete most go runs second (Pending a op ∷ stack) (used + operators a + 1) after k ks (omega arith)
    (follows_higher level (level_of op + 1) k (omega arith) f) (omega arith) fits ∙
    runs.same _ _ k ks (having_taken most stack depth after a b op k (operator_of k)
    (λ other also. let h = f.looser other also in omega arith)))))
