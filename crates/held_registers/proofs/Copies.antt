-- What an instruction does that copies a value of a label: it adds the held zero of that label. In a run the value is
-- copied; for the check, in public code and in an arm, the copy has the label.
use Rattle.std.proofs.Common.{◌≡◌, ℕ, ◌<◌, Bool, true, false, ◌||◌, ℤ, pos, [], ◌∷◌, Option, Some, None, refl, ap, ◌∙◌, arith}
use Rattle.std.specs.Int.{w64, int_wrap}
use Rattle.std.proofs.lemmas.Int.{int_wrap_fits}
use Rattle.std.proofs.Math.IntN.{+ℤ_idr, +ℤ_invr}
use Rattle.gr_word.specs.Prelude.{applied, IsWord}
use Rattle.gr_word.specs.declared.operations.Op.TheVariants.{Add, Sub}
use Rattle.lt_isa.specs.declared.instructions.Instr.TheVariants.{Alu}
use Rattle.lt_isa.specs.Prelude.{Parts, IsInRange, State, register, IsShaped}
use Rattle.symbolic_values.specs.Prelude.{Value}
use Rattle.trace_patterns.specs.Prelude.{applied_trees}
use Rattle.stretches.specs.Prelude.{StandsAt, RunsThrough, Sets}
use Rattle.stretches.proofs.RunningThrough.{runs-one, sets-alu}

-- a word and 0
pub add-nothing : (a : ℤ) → IsWord a → applied Add a (pos 0) ≡ a
add-nothing a word = ap (int_wrap w64) (+ℤ_idr a) ∙ int_wrap_fits w64 a word

-- a word less itself
pub sub-itself : (a : ℤ) → applied Sub a a ≡ pos 0
sub-itself a = ap (int_wrap w64) (+ℤ_invr a) ∙ int_wrap_fits w64 (pos 0) (record { sfits = omega arith })

-- a run
pub runs-copy : (o : Parts) (fits : IsInRange o) (to from zero_register : ℕ) (a : ℤ) (s : State) → IsShaped o s
    → to < 32 → IsWord a → register s from ≡ a → register s zero_register ≡ pos 0
    → StandsAt o s.place (Alu Add to from zero_register ∷ [])
    → RunsThrough o s (Alu Add to from zero_register ∷ []) [] (Sets s to a)
runs-copy o fits to from zero_register a s shaped inside word has none at =
    runs-one s (Alu Add to from zero_register) [] (Sets s to a) at
    (sets-alu o fits s shaped Add to from zero_register a inside
    (ap (λ v. applied Add v (register s zero_register)) has ∙ ap (applied Add a) none ∙ add-nothing a word))

-- the label of a copy that adds a secret, and of one that adds what is public
pub secret_copy : (b : Bool) → (b || true) ≡ true
secret_copy true = refl
secret_copy false = refl

-- In an arm a copy that adds what has no tree has none.
pub hidden_copy : (t : Option Value) → applied_trees Add t None ≡ None
hidden_copy None = refl
hidden_copy (Some t) = refl
