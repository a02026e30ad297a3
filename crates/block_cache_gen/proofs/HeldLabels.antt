-- The labels of registers that hold something for the whole run.
use Rattle.std.proofs.Common.{◌≡◌, ◌≢◌, ℕ, suc, ◌+◌, ◌-◌, ◌<◌, ◌≤◌, Bool, true, false, pos, List, [], ◌∷◌, length, Option, Some, None, refl, sym, ap, ◌∙◌, arith}
use Rattle.std.specs.Prelude.{if◌then◌else◌, nat_lt, bytes_eq}
use Rattle.std.specs.List.{slice_get}
use Rattle.std.specs.Option.{option_map}
use Rattle.std.proofs.lemmas.Option.{slice_get_within}
use Rattle.gr_word.specs.declared.variables.Label.{Label}
use Rattle.gr_word.specs.declared.variables.Label.TheVariants.{Public, Secret}
use Rattle.gr_word.specs.declared.variables.Shape.{Shape}
use Rattle.src_tree.specs.declared.trees.Decl.{Decl}
use Rattle.src_tree.specs.Prelude.{context_of, label_and_shape, variable_number}
use Rattle.held_registers.specs.declared.registers.Held.TheVariants.{SecretZero, Number, Scalar}
use Rattle.held_registers.specs.Prelude.{held_at, secret_zero, public_zero, IsSoundHeld}
use Rattle.held_registers.proofs.Found.{held-high, scalar-held}
use Rattle.block_cache_gen.specs.Prelude.{Held, Setting, held_label, label_by, register_for, zero_of, first_kept}

-- the label of a declared name, by its number
label_by_name : (same : Bool) (d : Decl) (ds : List Decl) (n : ℕ) (kind : Label × Shape)
    (rest : Option (Label × Shape))
    → (if same then Some (label_and_shape d) else rest) ≡ Some kind
    → (rest ≡ Some kind → option_map (λ (c : Decl). c.label) (slice_get ds n) ≡ Some kind.0)
    → option_map (λ (c : Decl). c.label) (slice_get (d ∷ ds) (if same then 0 else 1 + n)) ≡ Some kind.0
label_by_name true d ds n kind rest e more =
    let f : ◌≡◌ {A = Option (Label × Shape)} (Some (label_and_shape d)) (Some kind) = e in
    let g : label_and_shape d ≡ kind = cc in
    ap (λ (k : Label × Shape). Some k.0) g
label_by_name false d ds n kind rest e more =
    let next : 1 + n ≡ suc n = omega arith in
    ap (λ (k : ℕ). option_map (λ (c : Decl). c.label) (slice_get (d ∷ ds) k)) next ∙ more e

label_by_number : (ds : List Decl) (x : List ℕ) (kind : Label × Shape) → context_of ds x ≡ Some kind
    → option_map (λ (c : Decl). c.label) (slice_get ds (variable_number ds x)) ≡ Some kind.0
label_by_number [] x kind e = absurd (let f : ◌≡◌ {A = Option (Label × Shape)} None (Some kind) = e in cc)
label_by_number (d ∷ ds) x kind e =
    label_by_name (bytes_eq x d.name) d ds (variable_number ds x) kind (context_of ds x) e (label_by_number ds x kind)

-- a register that holds something is one of those from 19 to 31
held_within : (held : List Held) (r : ℕ) (h : Held) → held_at held r ≡ Some h → r - 19 < length held
held_within held r h e = by (nat_lt r 19) e
  where
    by : (low : Bool) → (if low then None else slice_get held (r - 19)) ≡ Some h → r - 19 < length held
    by true e = absurd (let f : ◌≡◌ {A = Option Held} None (Some h) = e in cc)
    by false e = slice_get_within held (r - 19) h e

-- if one holds something, expressions use those below 19
pub held-above : (f : Setting) (r : ℕ) (h : Held) → held_at f.held r ≡ Some h → first_kept f ≤ r
held-above f r h is =
    let within = held_within f.held r h is in
    let high = held-high f.held r h is in
    omega (arith, within, high)

pub label-high : (f : Setting) (r : ℕ) (l : Label) → held_label f r ≡ Some l → first_kept f ≤ r
label-high f r l e = by (held_at f.held r) refl e
  where
    by : (q : Option Held) → held_at f.held r ≡ q → label_by f.decls q ≡ Some l → first_kept f ≤ r
    by None is e = absurd (let f : ◌≡◌ {A = Option Label} None (Some l) = e in cc)
    by (Some h) is e = held-above f r h is

pub one-label : (q : Option Label) (a b : Label) → q ≡ Some a → q ≡ Some b → a ≡ b
one-label q a b first second = let f : ◌≡◌ {A = Option Label} (Some a) (Some b) = sym first ∙ second in cc

module _ (f : Setting) (sound : IsSoundHeld f.decls f.held) where
  pub label-low : (r : ℕ) (l : Label) → held_label f r ≡ Some l → r < 32
  label-low r l e = by (held_at f.held r) refl e
    where
      by : (q : Option Held) → held_at f.held r ≡ q → label_by f.decls q ≡ Some l → r < 32
      by None is e = absurd (let f : ◌≡◌ {A = Option Label} None (Some l) = e in cc)
      by (Some h) is e = let few = sound.few in let within = held_within f.held r h is in omega arith

  -- a scalar isn't in the register of a zero
  pub register-own : (x : List ℕ) (r : ℕ) → register_for f x ≡ Some r → 21 ≤ r
  register-own x r is =
      let n = variable_number f.decls x in
      let holds = scalar-held f.held n r is in
      let high = held-high f.held r (Scalar n) holds in
      let some : 0 < length f.held = (let w = held_within f.held r (Scalar n) holds in omega arith) in
      let first : r ≢ secret_zero = λ same.
      other_secret n (sym (sound.secret some) ∙ sym (ap (held_at f.held) same) ∙ holds) in
      let second : r ≢ public_zero = λ same.
      other_public n (sym (sound.public some) ∙ sym (ap (held_at f.held) same) ∙ holds) in
      omega (arith, first, second)
    where
      other_secret : (n : ℕ) → Some SecretZero ≡ Some (Scalar n) → ⊥
      other_secret n e = let g : ◌≡◌ {A = Option Held} (Some SecretZero) (Some (Scalar n)) = e in cc

      other_public : (n : ℕ) → Some (Number (pos 0)) ≡ Some (Scalar n) → ⊥
      other_public n e = let g : ◌≡◌ {A = Option Held} (Some (Number (pos 0))) (Some (Scalar n)) = e in cc

  -- the register of a scalar has the scalar's label, and each zero its own
  module _ (x : List ℕ) (l : Label) (shape : Shape) (declared : context_of f.decls x ≡ Some (l, shape)) (r : ℕ)
      (is : register_for f x ≡ Some r) where
    register_holds : held_at f.held r ≡ Some (Scalar (variable_number f.decls x))
    register_holds = scalar-held f.held (variable_number f.decls x) r is

    pub register-label : held_label f r ≡ Some l
    register-label = ap (label_by f.decls) register_holds ∙ label_by_number f.decls x (l, shape) declared

    pub register-high : first_kept f ≤ r
    register-high = label-high f r l register-label

    pub register-low : r < 32
    register-low = label-low r l register-label

    pub zero-label : (k : Label) → held_label f (zero_of k) ≡ Some k
    zero-label Public =
        ap (label_by f.decls) (sound.public (let w = held_within f.held r _ register_holds in omega arith))
    zero-label Secret =
        ap (label_by f.decls) (sound.secret (let w = held_within f.held r _ register_holds in omega arith))
