-- What the zeros, the first scalars and some numbers hold is sound.
use Rattle.std.proofs.Common.{◌≡◌, ℕ, ◌+◌, ◌-◌, ◌<◌, ◌⊎◌, inl, inr, ⊎_elim, Bool, true, false, ◌&&◌, ℤ, pos, List, [], ◌∷◌, ◌++◌, length, zero, suc, drop, subst, Option, Some, None, refl, sym, ap, ◌∙◌, arith, length-append}
use Rattle.std.specs.Prelude.{nat_lt, is_none, is_some, if◌then◌else◌}
use Rattle.std.specs.List.{slice_get, position}
use Rattle.std.specs.Option.{option_map}
use Rattle.std.proofs.lemmas.Bool.{ltb-true, ltb-false}
use Rattle.gr_word.specs.Prelude.{IsWord}
use Rattle.src_tree.specs.declared.trees.Decl.{Decl}
use Rattle.held_registers.specs.declared.registers.Held.{Held}
use Rattle.held_registers.specs.declared.registers.Held.TheVariants.{SecretZero, Number, Scalar}
use Rattle.held_registers.specs.Prelude.{is_number, held_at, secret_zero, public_zero, register_of_number, with_scalar, scalars_behind, zeros, held_scalars, with_number, IsSoundHeld}

-- an item is still there if more follow
more-get : {X : Type 0} (xs ys : List X) (j : ℕ) (y : X) → slice_get xs j ≡ Some y → slice_get (xs ++ ys) j ≡ Some y
more-get {X} [] ys j y e = absurd (let f : ◌≡◌ {A = Option X} None (Some y) = e in cc)
more-get (x ∷ xs) ys zero y e = e
more-get (x ∷ xs) ys (suc j) y e = more-get xs ys j y e

-- an item of a list that has one more is one of the list, or that one
last-get : {X : Type 0} (xs : List X) (x : X) (j : ℕ) (y : X) → slice_get (xs ++ x ∷ []) j ≡ Some y
    → (slice_get xs j ≡ Some y) ⊎ ((j ≡ length xs) × (x ≡ y))
last-get {X} [] x zero y e = inr (refl, (let f : ◌≡◌ {A = Option X} (Some x) (Some y) = e in cc))
last-get {X} [] x (suc j) y e = absurd (let f : ◌≡◌ {A = Option X} None (Some y) = e in cc)
last-get (z ∷ xs) x zero y e = inl e
last-get (z ∷ xs) x (suc j) y e =
    ⊎_elim (λ here. inl here) (λ last. inr (ap suc last.0, last.1)) (last-get xs x j y e)

-- the same of registers
pub held-more : (held more : List Held) (r : ℕ) (h : Held) → held_at held r ≡ Some h → held_at (held ++ more) r ≡ Some h
held-more held more r h e = by (nat_lt r 19) e
  where
    by : (low : Bool) → (if low then None else slice_get held (r - 19)) ≡ Some h
        → (if low then None else slice_get (held ++ more) (r - 19)) ≡ Some h
    by true e = e
    by false e = more-get held more (r - 19) h e

pub held-last : (held : List Held) (x : Held) (r : ℕ) (h : Held) → held_at (held ++ x ∷ []) r ≡ Some h
    → (held_at held r ≡ Some h) ⊎ ((r ≡ 19 + length held) × (x ≡ h))
held-last held x r h e = by (nat_lt r 19) refl e
  where
    by : (low : Bool) → nat_lt r 19 ≡ low → (if low then None else slice_get (held ++ x ∷ []) (r - 19)) ≡ Some h
        → ((if low then None else slice_get held (r - 19)) ≡ Some h) ⊎ ((r ≡ 19 + length held) × (x ≡ h))
    by true is e = absurd (let f : ◌≡◌ {A = Option Held} None (Some h) = e in cc)
    by false is e =
        let high = ltb-false r 19 is in
        ⊎_elim (λ here. inl here) (λ last. inr (omega (arith, high, last.0), last.1))
        (last-get held x (r - 19) h e)

-- Sound, with zeros, and each scalar that is held is among the first n variables.
record SoundTo (decls : List Decl) (n : ℕ) (held : List Held) : Type 0 where
  sound : IsSoundHeld decls held
  some : 0 < length held
  below : (r m : ℕ) → held_at held r ≡ Some (Scalar m) → m < n

-- one thing more: one other than a scalar, or a scalar that isn't held
pub more-sound : (decls : List Decl) (held : List Held) (x : Held) → length held < 13 → 0 < length held
    → IsSoundHeld decls held
    → ((n : ℕ) → x ≡ Scalar n → (d : Decl) × (slice_get decls n ≡ Some d) × (d.length ≡ None))
    → ((n r : ℕ) → x ≡ Scalar n → held_at held r ≡ Some (Scalar n) → ⊥)
    → ((z : ℤ) → x ≡ Number z → IsWord z)
    → IsSoundHeld decls (held ++ x ∷ [])
more-sound decls held x room some sound declared fresh word = record {
  few = omega (arith, length-append held (x ∷ []));
  secret = λ filled. held-more held (x ∷ []) secret_zero SecretZero (sound.secret some);
  public = λ filled. held-more held (x ∷ []) public_zero (Number (pos 0)) (sound.public some);
  scalars = λ r n e.
      ⊎_elim (λ here. sound.scalars r n here) (λ last. declared n last.1) (held-last held x r (Scalar n) e);
  once = λ r q n first second.
      ⊎_elim
      (λ here.
      ⊎_elim (λ there. sound.once r q n here there) (λ last. absurd (fresh n r last.1 here))
      (held-last held x q (Scalar n) second))
      (λ end.
      ⊎_elim (λ there. absurd (fresh n q end.1 there)) (λ last. end.0 ∙ sym last.0)
      (held-last held x q (Scalar n) second))
      (held-last held x r (Scalar n) first);
  words = λ r z e.
      ⊎_elim (λ here. sound.words r z here) (λ last. word z last.1) (held-last held x r (Number z) e);
}

scalar-same : (m n : ℕ) → Scalar m ≡ Scalar n → m ≡ n
scalar-same m n e = cc

number-same : (y z : ℤ) → Number y ≡ Number z → y ≡ z
number-same y z e = cc

no_number : (n : ℕ) (z : ℤ) → Scalar n ≡ Number z → ⊥
no_number n z e = cc

no_scalar : (z : ℤ) (n : ℕ) → Number z ≡ Scalar n → ⊥
no_scalar z n e = cc

-- a declaration more
scalar-step : (decls : List Decl) (held : List Held) (n : ℕ) (d : Decl) → slice_get decls n ≡ Some d
    → SoundTo decls n held → SoundTo decls (n + 1) (with_scalar held n d)
scalar-step decls held n d here so_far = by d.length refl (nat_lt (length held) 13) refl
  where
    wider : SoundTo decls (n + 1) held
    wider = record {
      sound = so_far.sound;
      some = so_far.some;
      below = λ r m e. omega (arith, so_far.below r m e);
    }

    by : (l : Option ℕ) → d.length ≡ l → (room : Bool) → nat_lt (length held) 13 ≡ room
        → SoundTo decls (n + 1) (if is_none l && room then held ++ Scalar n ∷ [] else held)
    by (Some l) array room is = wider
    by None is false full = wider
    by None is true left = record {
      sound =
          more-sound decls held (Scalar n) (ltb-true (length held) 13 left) so_far.some so_far.sound
          (λ m e. subst (λ k. (d : Decl) × (slice_get decls k ≡ Some d) × (d.length ≡ None)) (scalar-same n m e)
          (d, here, is))
          (λ m r e at.
          let low = so_far.below r m at in
          absurd (omega (arith, low, scalar-same n m e)))
          (λ z e. absurd (no_number n z e));
      some = omega (arith, so_far.some, length-append held (Scalar n ∷ []));
      below = λ r m e.
          ⊎_elim (λ at. omega (arith, so_far.below r m at)) (λ last. omega (arith, scalar-same n m last.1))
          (held-last held (Scalar n) r (Scalar m) e);
    }

-- all declarations
scalars-sound : (decls ds : List Decl) (held : List Held) (n : ℕ)
    → ((i : ℕ) (d : Decl) → slice_get ds i ≡ Some d → slice_get decls (n + i) ≡ Some d)
    → SoundTo decls n held → IsSoundHeld decls (scalars_behind held n ds)
scalars-sound decls [] held n are so_far = so_far.sound
scalars-sound decls (d ∷ ds) held n are so_far =
    let first : slice_get decls n ≡ Some d =
    subst (λ k. slice_get decls k ≡ Some d) (let z : n + 0 ≡ n = omega arith in z) (are 0 d refl) in
    scalars-sound decls ds (with_scalar held n d) (n + 1)
    (λ i e at.
    subst (λ k. slice_get decls k ≡ Some e) (let z : n + suc i ≡ n + 1 + i = omega arith in z) (are (suc i) e at))
    (scalar-step decls held n d first so_far)

-- no register holds anything
held-nothing : (r : ℕ) (h : Held) → held_at [] r ≡ Some h → ⊥
held-nothing r h e = by (nat_lt r 19) e
  where
    by : (low : Bool) → (if low then None else slice_get {X = Held} [] (r - 19)) ≡ Some h → ⊥
    by true e = let f : ◌≡◌ {A = Option Held} None (Some h) = e in cc
    by false e = let f : ◌≡◌ {A = Option Held} None (Some h) = e in cc

pub nothing-sound : (decls : List Decl) → IsSoundHeld decls []
nothing-sound decls = record {
  few = omega arith;
  secret = λ filled. absurd (omega (arith, filled));
  public = λ filled. absurd (omega (arith, filled));
  scalars = λ r n e. absurd (held-nothing r (Scalar n) e);
  once = λ r q n first second. absurd (held-nothing r (Scalar n) first);
  words = λ r z e. absurd (held-nothing r (Number z) e);
}

-- the zeros
held-zero : (r : ℕ) (h : Held) → held_at zeros r ≡ Some h → (SecretZero ≡ h) ⊎ (Number (pos 0) ≡ h)
held-zero r h e =
    ⊎_elim
    (λ first.
    ⊎_elim (λ none. absurd (held-nothing r h none)) (λ last. inl last.1) (held-last [] SecretZero r h first))
    (λ last. inr last.1)
    (held-last (SecretZero ∷ []) (Number (pos 0)) r h e)

zero-scalar : (r n : ℕ) → held_at zeros r ≡ Some (Scalar n) → ⊥
zero-scalar r n e =
    ⊎_elim (λ secret. let f : SecretZero ≡ Scalar n = secret in cc) (λ public. no_scalar (pos 0) n public)
    (held-zero r (Scalar n) e)

zero-word : (r : ℕ) (z : ℤ) → held_at zeros r ≡ Some (Number z) → IsWord z
zero-word r z e =
    ⊎_elim (λ secret. absurd (let f : SecretZero ≡ Number z = secret in cc))
    (λ public. subst IsWord (number-same (pos 0) z public) (record { sfits = omega arith }))
    (held-zero r (Number z) e)

zeros-sound : (decls : List Decl) → IsSoundHeld decls zeros
zeros-sound decls = record {
  few = omega arith;
  secret = λ filled. refl;
  public = λ filled. refl;
  scalars = λ r n e. absurd (zero-scalar r n e);
  once = λ r q n first second. absurd (zero-scalar r n first);
  words = zero-word;
}

-- the first scalars
pub held_scalars-sound : (decls : List Decl) → IsSoundHeld decls (held_scalars decls)
unfolding held_scalars
held_scalars-sound decls =
    scalars-sound decls decls zeros 0
    (λ i d e. subst (λ k. slice_get decls k ≡ Some d) (let z : i ≡ 0 + i = omega arith in z) e)
    (record { sound = zeros-sound decls; some = omega arith; below = λ r m e. absurd (zero-scalar r m e) })

-- a number more
pub with_number-sound : (decls : List Decl) (held : List Held) (z : ℤ) → 0 < length held → IsWord z
    → IsSoundHeld decls held → IsSoundHeld decls (with_number held z)
with_number-sound decls held z some word sound =
    by (is_some (register_of_number held z)) (nat_lt (length held) 13) refl
  where
    by : (there room : Bool) → nat_lt (length held) 13 ≡ room
        → IsSoundHeld decls (if there then held else (if room then held ++ Number z ∷ [] else held))
    by true room is = sound
    by false false is = sound
    by false true is =
        more-sound decls held (Number z) (ltb-true (length held) 13 is) some sound
        (λ n e. absurd (no_scalar z n e))
        (λ n r e at. no_scalar z n e)
        (λ y e. subst IsWord (number-same z y e) word)

-- before the first declaration
pub scalars-begin : (decls : List Decl) (held : List Held) → held ≡ zeros
    → scalars_behind held 0 (drop 0 decls) ≡ held_scalars decls
unfolding held_scalars
scalars-begin decls held is = ap (λ h. scalars_behind h 0 decls) is

-- a number that a register holds already
pub number-there : (held : List Held) (z : ℤ) (there : Option ℕ) → there ≡ register_of_number held z
    → is_some there ≡ true → held ≡ with_number held z
number-there held z there is some =
    let found : is_some (register_of_number held z) ≡ true = ap is_some (sym is) ∙ some in
    sym (ap (λ (b : Bool). if b then held else (if nat_lt (length held) 13 then held ++ Number z ∷ [] else held)) found)

-- the register of a number, by its place
pub number-register : (held : List Held) (z y : ℤ) (place : Option ℕ) → y ≡ z
    → place ≡ position (λ one. is_number y one) held → option_map (λ j. j + 19) place ≡ register_of_number held z
number-register held z y place same is =
    ap (option_map (λ j. j + 19)) (is ∙ ap (λ v. position (λ one. is_number v one) held) same)
