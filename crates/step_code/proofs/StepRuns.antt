-- A run through the code of steps leaves what the steps leave, and shows nothing.
use Rattle.std.proofs.Common.{◌≡◌, ℕ, ◌+◌, ◌<◌, ◌≤◌, ℤ, List, [], ◌∷◌, refl, ap, ◌∙◌, arith}
use Rattle.std.specs.Prelude.{All}
use Rattle.std.proofs.lemmas.List.Elements.{All-head, All-tail}
use Rattle.gr_word.specs.Prelude.{applied}
use Rattle.lt_isa.specs.declared.instructions.Instr.TheVariants.{Li, Alu}
use Rattle.lt_isa.specs.Prelude.{Parts, IsInRange, State, register, IsShaped, Here}
use Rattle.stretches.specs.Prelude.{StandsAt, RunsThrough, Sets}
use Rattle.stretches.proofs.RunningThrough.{runs-cons, runs-weaker, sets-li, sets-alu}
use Rattle.strength_reduction.specs.Prelude.{Step, Constant, Compute, StepFits, replaced, words_after, numbered, code_of}
use Rattle.strength_reduction.proofs.Registers.{numbered-low, numbered-from, numbered-to, set-own}

-- the registers of the steps have these words; those below and above, the slots and the banks are as before
pub record Leaves (base : ℕ) (words : ℕ → ℤ) (s t : State) : Type 0 where
  pub own : (i : ℕ) → i ≤ 2 → register t (numbered base i) ≡ words i
  pub below : (r : ℕ) → r < base → register t r ≡ register s r
  pub above : (r : ℕ) → base + 3 ≤ r → register t r ≡ register s r
  pub slots : t.slots ≡ s.slots
  pub banks : t.banks ≡ s.banks

-- one register was set, and then the rest
leaves-on : {base : ℕ} {words : ℕ → ℤ} {s t u : State} (to : ℕ) (word : ℤ) → to ≤ 2
    → Sets s (numbered base to) word t → Leaves base words t u → Leaves base words s u
leaves-on {base = base} to word low sets rest = record {
  own = rest.own;
  below = λ r under.
      rest.below r under ∙ sets.others r (λ same. absurd (omega (arith, numbered-from base to)));
  above = λ r over.
      rest.above r over ∙ sets.others r (λ same. absurd (omega (arith, numbered-to base 2 to low, over, same)));
  slots = rest.slots ∙ sets.slots;
  banks = rest.banks ∙ sets.banks;
}

module _ (o : Parts) (fits : IsInRange o) (base : ℕ) (room : base + 2 < 32) where
  pub runs-steps : (steps : List Step) (words : ℕ → ℤ) (s : State)
      → All StepFits steps
      → IsShaped o s
      → ((i : ℕ) → i ≤ 2 → register s (numbered base i) ≡ words i)
      → StandsAt o s.place (code_of base steps)
      → RunsThrough o s (code_of base steps) [] (Leaves base (words_after steps words) s)
  runs-steps [] words s low shaped held at = record {
    end = s;
    events = [];
    reaches = Here s;
    shows = refl;
    comes = omega arith;
    by = omega arith;
    shaped = shaped;
    holds = record { own = held; below = λ r under. refl; above = λ r over. refl; slots = refl; banks = refl };
  }
  runs-steps (Constant to value ∷ steps) words s low shaped held at =
      let first = All-head StepFits (Constant to value) steps low in
      let rd = numbered base to in
      let Done : State → Type 0 = Leaves base (words_after steps (replaced words to value)) s in
      runs-cons s (Li rd value) (code_of base steps) [] [] (Sets s rd value) Done at
      (sets-li o fits s shaped rd value (numbered-low base 2 to first.0 room))
      (λ t shape sets at'.
      runs-weaker t (code_of base steps) [] [] (Leaves base (words_after steps (replaced words to value)) t) Done
      (runs-steps steps (replaced words to value) t (All-tail StepFits (Constant to value) steps low) shape
      (set-own base 2 to value (register s) (register t) words sets.value sets.others held) at')
      refl
      (λ u shape' rest. leaves-on to value first.0 sets rest))
  runs-steps (Compute op to left right ∷ steps) words s low shaped held at =
      let first = All-head StepFits (Compute op to left right) steps low in
      let rd = numbered base to in
      let word = applied op (words left) (words right) in
      let Done : State → Type 0 = Leaves base (words_after steps (replaced words to word)) s in
      let is : applied op (register s (numbered base left)) (register s (numbered base right)) ≡ word =
      ap (λ w. applied op w (register s (numbered base right))) (held left first.1)
      ∙ ap (applied op (words left)) (held right first.2) in
      runs-cons s (Alu op rd (numbered base left) (numbered base right)) (code_of base steps) [] [] (Sets s rd word)
      Done at
      (sets-alu o fits s shaped op rd (numbered base left) (numbered base right) word
      (numbered-low base 2 to first.0 room) is)
      (λ t shape sets at'.
      runs-weaker t (code_of base steps) [] [] (Leaves base (words_after steps (replaced words to word)) t) Done
      (runs-steps steps (replaced words to word) t (All-tail StepFits (Compute op to left right) steps low) shape
      (set-own base 2 to word (register s) (register t) words sets.value sets.others held) at')
      refl
      (λ u shape' rest. leaves-on to word first.0 sets rest))
