-- What registers hold for the whole run of a compiled program: registers 19 and 20 a secret and a public zero, and those
-- after them scalars and numbers. Expressions use the registers below 19. (This project's layout of compiled code.)
use Rattle.std.specs.Prelude.{◌≡◌, ℕ, ◌+◌, ◌-◌, ◌<◌, ◌≤◌, ◌==◌, ◌&&◌, Bool, false, nat_lt, is_none, is_some, if◌then◌else◌, ℤ, pos, List, [], ◌∷◌, ◌++◌, length, Option, Some, None}
use Rattle.std.specs.List.{slice_get, position}
use Rattle.std.specs.Ordering.{int_eq}
use Rattle.std.specs.Option.{option_map}
use Rattle.gr_word.specs.Words.{IsWord}
use Rattle.gr_word.specs.declared.variables.Label.{Label}
use Rattle.gr_word.specs.declared.variables.Label.TheVariants.{Public, Secret}
use Rattle.src_tree.specs.declared.trees.Decl.{Decl}
use Rattle.src_tree.specs.Meaning.{Store, scalar}
use Rattle.held_registers.specs.declared.registers.Held.{Held}
use Rattle.held_registers.specs.declared.registers.Held.TheVariants.{SecretZero, Number, Scalar}

-- the registers of the two zeros
abbrev pub secret_zero : ℕ
secret_zero = 19

abbrev pub public_zero : ℕ
public_zero = 20

-- what a register holds, by what those from 19 on hold
abbrev pub held_at : List Held → ℕ → Option Held
held_at held r = if nat_lt r 19 then None else slice_get held (r - 19)

-- its label for the check, and its word
abbrev pub label_held : List Decl → Held → Option Label
label_held decls SecretZero = Some Secret
label_held decls (Number z) = Some Public
label_held decls (Scalar n) = option_map (λ d. d.label) (slice_get decls n)

abbrev pub word_held : Store → Held → ℤ
word_held store SecretZero = pos 0
word_held store (Number z) = z
word_held store (Scalar n) = scalar store n

-- the register that holds a scalar or a number, and none if none does
abbrev pub is_scalar : ℕ → Held → Bool
is_scalar n SecretZero = false
is_scalar n (Number z) = false
is_scalar n (Scalar m) = m == n

abbrev pub is_number : ℤ → Held → Bool
is_number z SecretZero = false
is_number z (Number y) = int_eq y z
is_number z (Scalar m) = false

abbrev pub register_of_scalar : List Held → ℕ → Option ℕ
register_of_scalar held n = option_map (λ j. j + 19) (position (λ h. is_scalar n h) held)

abbrev pub register_of_number : List Held → ℤ → Option ℕ
register_of_number held z = option_map (λ j. j + 19) (position (λ h. is_number z h) held)

-- the zeros, and the first scalars: each declaration of a scalar takes a register as long as one is left
abbrev pub takes_register : Decl → ℕ → Bool
takes_register d taken = is_none d.length && nat_lt taken 13

abbrev pub with_scalar : List Held → ℕ → Decl → List Held
with_scalar held n d = if takes_register d (length held) then held ++ Scalar n ∷ [] else held

abbrev pub scalars_behind : List Held → ℕ → List Decl → List Held
scalars_behind held n [] = held
scalars_behind held n (d ∷ ds) = scalars_behind (with_scalar held n d) (n + 1) ds

abbrev pub zeros : List Held
zeros = SecretZero ∷ Number (pos 0) ∷ []

unfoldable pub held_scalars : List Decl → List Held
held_scalars decls = scalars_behind zeros 0 decls

-- one number more, if no register has it and one is left
abbrev pub with_number : List Held → ℤ → List Held
with_number held z =
    if is_some (register_of_number held z) then held
    else (if nat_lt (length held) 13 then held ++ Number z ∷ [] else held)

-- Registers up to 31 hold something, and two zeros if they hold anything; each scalar of a register is declared as one,
-- and has a single register; and each number is a word.
pub record IsSoundHeld (decls : List Decl) (held : List Held) : Type 0 where
  pub few : length held ≤ 13
  pub secret : 0 < length held → held_at held secret_zero ≡ Some SecretZero
  pub public : 0 < length held → held_at held public_zero ≡ Some (Number (pos 0))
  pub scalars : (r n : ℕ) → held_at held r ≡ Some (Scalar n)
      → (d : Decl) × (slice_get decls n ≡ Some d) × (d.length ≡ None)
  pub once : (r q n : ℕ) → held_at held r ≡ Some (Scalar n) → held_at held q ≡ Some (Scalar n) → r ≡ q
  pub words : (r : ℕ) (z : ℤ) → held_at held r ≡ Some (Number z) → IsWord z
