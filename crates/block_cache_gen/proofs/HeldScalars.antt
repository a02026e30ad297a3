-- Which variables a register holds for the whole run: only declared scalars; and what a register holds stays if another
-- variable is changed.
use Rattle.std.proofs.Common.{◌≡◌, ◌≢◌, ℕ, ◌+◌, ◌-◌, ◌<◌, ◌≤◌, Bool, true, false, cond, ℤ, pos, List, length, get_or, Option, Some, None, refl, sym, ap, ◌∙◌, eq-eqb, arith}
use Rattle.std.specs.Prelude.{nat_lt, if◌then◌else◌}
use Rattle.std.specs.List.{slice_get, position, position_or_len}
use Rattle.std.specs.Option.{option_map}
use Rattle.std.proofs.lemmas.Bool.{le-ltb, ltb-false, true≢false}
use Rattle.std.proofs.lemmas.List.Sums.{fails_before_first}
use Rattle.std.proofs.lemmas.Option.{slice_get_within, get_or_from_slice_get}
use Rattle.gr_word.specs.declared.variables.Label.{Label}
use Rattle.gr_word.specs.declared.variables.Shape.{Shape}
use Rattle.gr_word.specs.declared.variables.Shape.TheVariants.{Scalar, Array}
use Rattle.src_tree.specs.declared.trees.Decl.{Decl}
use Rattle.src_tree.specs.Prelude.{context_of, shape_of, label_and_shape, Store, variable_number, with_word}
use Rattle.src_tree.proofs.VariableNumbers.{kind-of_number}
use Rattle.held_registers.specs.Prelude.{held_at, word_held, is_scalar, register_of_scalar, IsSoundHeld}
use Rattle.held_registers.proofs.Found.{held-high, scalar-held}
use Rattle.block_cache_gen.specs.Prelude.{Held, Setting, register_for}
use Rattle.block_cache_gen.proofs.Stores.{words-other}
use Rattle.held_registers.specs.declared.registers.Held.TheVariants as thing

-- what a register holds, by its place in the list
pub held-listed : (held : List Held) (r : ℕ) (h : Held) → held_at held r ≡ Some h → slice_get held (r - 19) ≡ Some h
held-listed held r h e =
    let low : nat_lt r 19 ≡ false = le-ltb r 19 (held-high held r h e) in
    sym (ap (λ (b : Bool). if b then None else slice_get held (r - 19)) low) ∙ e

-- so its number is below that of the machine's registers
pub held-inside : {decls : List Decl} {held : List Held} → IsSoundHeld decls held → (r : ℕ) (h : Held)
    → held_at held r ≡ Some h → (r < 32) × (0 < length held)
held-inside {held = held} sound r h e =
    let within = slice_get_within held (r - 19) h (held-listed held r h e) in
    let high = held-high held r h e in
    (omega (arith, sound.few, within, high), omega (arith, within))

position-some : {X : Type 0} (p : X → Bool) (xs : List X) (j : ℕ) (y : X) → slice_get xs j ≡ Some y → p y ≡ true
    → position p xs ≡ None → ⊥
position-some p xs j y at passes none =
    let within = slice_get_within xs j y at in
    let here : get_or xs j y ≡ y = get_or_from_slice_get xs j y y at in
    let past = by (nat_lt (position_or_len p xs) (length xs)) refl none in
    true≢false (sym passes ∙ ap p (sym here) ∙ fails_before_first p xs j y (omega (arith, within, past)))
  where
    by : (b : Bool) → nat_lt (position_or_len p xs) (length xs) ≡ b → cond b (Some (position_or_len p xs)) None ≡ None
        → length xs ≤ position_or_len p xs
    by true is e = absurd (let f : ◌≡◌ {A = Option ℕ} (Some (position_or_len p xs)) None = e in cc)
    by false is e = ltb-false (position_or_len p xs) (length xs) is

-- a scalar that a register holds has a register
pub scalar-found : (held : List Held) (n r : ℕ) → held_at held r ≡ Some (thing.Scalar n)
    → register_of_scalar held n ≡ None → ⊥
scalar-found held n r at none =
    position-some (λ h. is_scalar n h) held (r - 19) (thing.Scalar n) (held-listed held r (thing.Scalar n) at)
    (eq-eqb n n refl) (by (position (λ h. is_scalar n h) held) none)
  where
    by : (place : Option ℕ) → option_map (λ j. j + 19) place ≡ None → place ≡ None
    by None e = refl
    by (Some j) e = absurd (let f : ◌≡◌ {A = Option ℕ} (Some (j + 19)) None = e in cc)

-- no register holds an array
pub array-free : (f : Setting) → IsSoundHeld f.decls f.held → (x : List ℕ) (label : Label)
    → context_of f.decls x ≡ Some (label, Array) → register_for f x ≡ None
array-free f sound x label known = by (register_for f x) refl
  where
    one : (label : Label) (s t : Shape) (kind : Label × Shape) → kind ≡ (label, t) → kind.1 ≡ s → s ≡ t
    one label s t kind e is = sym is ∙ ap (λ (k : Label × Shape). k.1) e

    by : (r : Option ℕ) → register_for f x ≡ r → r ≡ None
    by None is = refl
    by (Some r) is =
        let n = variable_number f.decls x in
        let (d, at, none) = sound.scalars r n (scalar-held f.held n r is) in
        let here : get_or f.decls n d ≡ d = get_or_from_slice_get f.decls n d d at in
        let kind : label_and_shape d ≡ (label, Array) =
        ap label_and_shape (sym here) ∙ kind-of_number f.decls x d (label, Array) known in
        let same : Scalar ≡ Array = one label Scalar Array (label_and_shape d) kind (ap shape_of none) in
        absurd (cc)

-- names of one variable have one register
pub register-same : (f : Setting) (x y : List ℕ) (r : ℕ) → variable_number f.decls y ≡ variable_number f.decls x
    → register_for f x ≡ Some r → register_for f y ≡ None → ⊥
register-same f x y r same is none =
    let e : ◌≡◌ {A = Option ℕ} None (Some r) = sym none ∙ ap (register_of_scalar f.held) same ∙ is in cc

-- what registers hold is the same if a variable is changed that has no register
pub held-words : (f : Setting) (x : List ℕ) → register_for f x ≡ None → (store : Store) (n : ℕ) (word : ℤ) (r : ℕ)
    (h : Held) → held_at f.held r ≡ Some h
    → word_held store h ≡ word_held (with_word store (variable_number f.decls x) n word) h
held-words f x free store n word r thing.SecretZero at = refl
held-words f x free store n word r (thing.Number z) at = refl
held-words f x free store n word r (thing.Scalar m) at =
    let k = variable_number f.decls x in
    let other : m ≢ k =
    λ same. scalar-found f.held k r (at ∙ ap (λ v. Some (thing.Scalar v)) same) free in
    ap (λ words. get_or words 0 (pos 0)) (sym (words-other store k n m word other))
