-- What a reading has read: the tokens before its stack, what one more token adds to them, and how they are completed to
-- an expression.
use Rattle.std.proofs.Common.{◌≡◌, ℕ, ◌+◌, ◌<◌, ◌≤◌, pos, Bool, true, false, List, [], ◌∷◌, ◌++◌, Some, refl, sym, subst, append_assoc, arith}
use Rattle.std.specs.Prelude.{nat_le, if◌then◌else◌}
use Rattle.std.proofs.lemmas.List.{append-nil}
use Rattle.gr_word.specs.declared.operations.Op.{Op}
use Rattle.gr_word.specs.declared.operations.Op.TheVariants.{Sub}
use Rattle.src_lexer.specs.declared.tokens.Kind.{Kind}
use Rattle.src_tree.specs.Prelude.{Tree, Number, Element, Operation}
use Rattle.src_parser.specs.Prelude.{operator_of, level_of, operators, SpellsTree, Indexed, Bracketed, Negated, Joined, Waiting, Open, Index, Sign, Pending, Joint, Joins, tree_joined}
use Rattle.src_parser.proofs.Levels.{lower}
use Rattle.src_lexer.specs.declared.tokens.Kind.TheVariants as kind

-- tokens that lead to this stack, from `base` open brackets on: `depth` are open then, and an operand of this level
-- fits
pub data Held (most base : ℕ) : (stack : List Waiting) (depth level : ℕ) → List Kind → Type 0 where
  Start : Held most base [] base 0 []
  Opened : {stack : List Waiting} {depth level : ℕ} {tokens : List Kind}
      → depth < most → Held most base stack depth level tokens
      → Held most base (Open depth ∷ stack) (depth + 1) 0 (tokens ++ kind.LParen ∷ [])
  Chosen : {stack : List Waiting} {depth level : ℕ} {tokens : List Kind} (name : List ℕ)
      → depth < most → Held most base stack depth level tokens
      → Held most base (Index depth name ∷ stack) (depth + 1) 0 (tokens ++ kind.Word name ∷ kind.LBracket ∷ [])
  Signed : {stack : List Waiting} {depth level : ℕ} {tokens : List Kind}
      → depth < most → Held most base stack depth level tokens
      → Held most base (Sign depth ∷ stack) (depth + 1) 6 (tokens ++ kind.Minus ∷ [])
  Waits : {stack : List Waiting} {depth level : ℕ} {tokens left : List Kind} {a : Tree} (op : Op)
      (sign : Kind) →
      level ≤ level_of op → operator_of sign ≡ Some op → SpellsTree most depth (level_of op) left a →
      Held most base stack depth level tokens →
      Held most base (Pending a op ∷ stack) depth (level_of op + 1) (tokens ++ (left ++ sign ∷ []))

-- the number of operators and signs that wait
abbrev pub weight : List Waiting → ℕ
weight [] = 0
weight (Open d ∷ stack) = weight stack
weight (Index d name ∷ stack) = weight stack
weight (Sign d ∷ stack) = weight stack + 1
weight (Pending a op ∷ stack) = weight stack + operators a + 1

-- none of these tokens is a name
abbrev pub HasNoName : List Kind → Type 0
HasNoName [] = Unit {0}
HasNoName (kind.Word name ∷ tokens) = ⊥
HasNoName (k ∷ tokens) = HasNoName tokens

pub no_name_in_both : (ts us : List Kind) → HasNoName ts → HasNoName us → HasNoName (ts ++ us)
no_name_in_both [] us g h = h
no_name_in_both (kind.Word name ∷ ts) us g h = absurd g
no_name_in_both (_ ∷ ts) us g h = no_name_in_both ts us g h

-- these tokens are completed to an expression by tokens that aren't names
pub record GoesOn (most base : ℕ) (tokens : List Kind) (count : ℕ) : Type 0 where
  pub more : List Kind
  pub nameless : HasNoName more
  pub tree : Tree
  pub spells : SpellsTree most base 0 (tokens ++ more) tree
  pub counted : operators tree ≡ count

spell_at : {most depth level : ℕ} {tree : Tree} (xs ys : List Kind)
    → xs ≡ ys → SpellsTree most depth level xs tree → SpellsTree most depth level ys tree
spell_at {most} {depth} {level} {tree} xs ys e s = subst (λ ts. SpellsTree most depth level ts tree) e s

goes_at : {most base count : ℕ} (xs ys : List Kind) → xs ≡ ys → GoesOn most base xs count
    → GoesOn most base ys count
goes_at {most} {base} {count} xs ys e s = subst (λ ts. GoesOn most base ts count) e s

longer : {most base count : ℕ} (tokens next : List Kind) → HasNoName next
    → GoesOn most base (tokens ++ next) count → GoesOn most base tokens count
longer {most} {base} tokens next none g = record {
  more = next ++ g.more;
  nameless = no_name_in_both next g.more none g.nameless;
  tree = g.tree;
  spells = spell_at _ _ (append_assoc tokens next g.more) g.spells;
  counted = g.counted;
}

count_at : {most base : ℕ} {tokens : List Kind} (a b : ℕ)
    → a ≡ b → GoesOn most base tokens a → GoesOn most base tokens b
count_at {most} {base} {tokens} a b e g = subst (λ n. GoesOn most base tokens n) e g

-- a stack and an operand that fits are completed to an expression: what is open is closed
pub closes : {most base : ℕ} {stack : List Waiting} {depth level : ℕ} {tokens : List Kind}
    → Held most base stack depth level tokens → (us : List Kind) (tree : Tree)
    → SpellsTree most depth level us tree
    → GoesOn most base (tokens ++ us) (weight stack + operators tree)
closes {most} {base} Start us tree s =
    record { more = []; nameless = tt; tree = tree; spells = spell_at _ _ (sym (append-nil us)) s; counted = omega arith }
closes {most} {base} (Opened {tokens = ts} fit h) us tree s =
    longer ((ts ++ kind.LParen ∷ []) ++ us) (kind.RParen ∷ []) tt
    (goes_at _ _ (simp append_assoc refl) (closes h (kind.LParen ∷ (us ++ kind.RParen ∷ [])) tree (Bracketed fit s)))
closes {most} {base} (Chosen {tokens = ts} name fit h) us tree s =
    longer ((ts ++ kind.Word name ∷ kind.LBracket ∷ []) ++ us) (kind.RBracket ∷ []) tt
    (goes_at _ _ (simp append_assoc refl)
    (closes h (kind.Word name ∷ kind.LBracket ∷ (us ++ kind.RBracket ∷ [])) (Element name tree) (Indexed name fit s)))
closes {most} {base} (Signed {stack = stack} {tokens = ts} fit h) us tree s =
    count_at (weight stack + (0 + operators tree + 1)) (weight stack + 1 + operators tree) (omega arith)
    (goes_at (ts ++ (kind.Minus ∷ us)) ((ts ++ kind.Minus ∷ []) ++ us) (simp append_assoc refl)
    (closes h (kind.Minus ∷ us) (Operation Sub (Number (pos 0)) tree) (Negated fit s)))
closes {most} {base}
    (Waits {stack = stack} {level = level} {tokens = ts} {left = left} {a = a} op sign below is first h) us tree s =
    count_at (weight stack + (operators a + operators tree + 1)) (weight stack + operators a + 1 + operators tree)
    (omega arith)
    (goes_at (ts ++ (left ++ sign ∷ us)) ((ts ++ (left ++ sign ∷ [])) ++ us) (simp append_assoc refl)
    (closes h (left ++ sign ∷ us) (Operation op a tree) (Joined op sign below is first s)))

-- what is known after operands were taken
pub record Taken (most base j count : ℕ) (tokens : List Kind) (joint : Joint) : Type 0 where
  pub stack : List Waiting
  pub tree : Tree
  pub depth : ℕ
  pub level : ℕ
  pub front : List Kind
  pub back : List Kind
  pub is : joint ≡ Joins stack tree depth
  pub held : Held most base stack depth level front
  pub spells : SpellsTree most depth j back tree
  pub below : level ≤ j
  pub same : tokens ≡ front ++ back
  pub counted : weight stack + operators tree ≡ count

taken_at : {most base j : ℕ} {joint : Joint} (a b : ℕ) (xs ys : List Kind)
    → a ≡ b → xs ≡ ys → Taken most base j a xs joint → Taken most base j b ys joint
taken_at {most} {base} {j} {joint} a b xs ys e f t =
    subst (λ n. Taken most base j n ys joint) e (subst (λ ts. Taken most base j a ts joint) f t)

pending_takes : {most base j : ℕ} (left : Tree) (op : Op) (stack : List Waiting) (tree : Tree) (depth count : ℕ)
    (tokens : List Kind) (b : Bool) → nat_le j (level_of op) ≡ b
    → (j ≤ level_of op → Taken most base j count tokens (tree_joined j stack (Operation op left tree) depth))
    → (level_of op < j → Taken most base j count tokens (Joins (Pending left op ∷ stack) tree depth))
    → Taken most base j count tokens
    (if b then tree_joined j stack (Operation op left tree) depth else Joins (Pending left op ∷ stack) tree depth)
pending_takes left op stack tree depth count tokens true e taking staying = taking (grind arith)
pending_takes left op stack tree depth count tokens false e taking staying = staying (grind arith)

-- what waits stays if it doesn't wait for an operand of this level
stays : {most base : ℕ} {stack : List Waiting} {depth level : ℕ} {tokens : List Kind}
    → Held most base stack depth level tokens
    → (j m : ℕ) (us : List Kind) (tree : Tree) → SpellsTree most depth m us tree → level ≤ j → j ≤ m
    → Taken most base j (weight stack + operators tree) (tokens ++ us) (Joins stack tree depth)
stays {stack = stack} {depth} {level} {tokens} h j m us tree s low below = record {
  stack = stack;
  tree = tree;
  depth = depth;
  level = level;
  front = tokens;
  back = us;
  is = refl;
  held = h;
  spells = lower j below s;
  below = low;
  same = refl;
  counted = refl;
}

-- what waits takes an operand of a high enough level
pub takes : {most base : ℕ} {stack : List Waiting} {depth level : ℕ} {tokens : List Kind}
    → Held most base stack depth level tokens
    → (j m : ℕ) (us : List Kind) (tree : Tree) → SpellsTree most depth m us tree → level ≤ m → j ≤ m
    → Taken most base j (weight stack + operators tree) (tokens ++ us) (tree_joined j stack tree depth)
takes Start j m us tree s fits below = stays Start j m us tree s (omega arith) below
takes (Opened fit h) j m us tree s fits below = stays (Opened fit h) j m us tree s (omega arith) below
takes (Chosen name fit h) j m us tree s fits below = stays (Chosen name fit h) j m us tree s (omega arith) below
takes {most} {base} (Signed {stack = stack} {level = level} {tokens = ts} fit h) j m us tree s fits below =
    taken_at (weight stack + (0 + operators tree + 1)) (weight stack + 1 + operators tree) (ts ++ (kind.Minus ∷ us))
    ((ts ++ kind.Minus ∷ []) ++ us) (omega arith) (simp append_assoc refl)
    (takes h j (level + j) (kind.Minus ∷ us) (Operation Sub (Number (pos 0)) tree) (Negated fit (lower 6 fits s))
    (omega arith) (omega arith))
takes {most} {base} {depth = depth} (Waits {stack = stack} {level = level} {tokens = ts} {left = left}
    {a = a} op sign below_op is first h) j m us tree s fits below =
    pending_takes a op stack tree depth _ _ (nat_le j (level_of op)) refl
    (λ le.
    taken_at (weight stack + (operators a + operators tree + 1)) (weight stack + operators a + 1 + operators tree)
    (ts ++ (left ++ sign ∷ us)) ((ts ++ (left ++ sign ∷ [])) ++ us) (omega arith) (simp append_assoc refl)
    (takes h j (level_of op) (left ++ sign ∷ us) (Operation op a tree)
    (Joined op sign (omega arith) is first (lower (level_of op + 1) fits s)) below_op le))
    (λ lt. stays (Waits op sign below_op is first h) j m us tree s (omega arith) below)
