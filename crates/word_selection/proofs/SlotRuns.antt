-- A run through the code of steps leaves what the steps leave, and shows nothing.
use Rattle.std.proofs.Common.{◌≡◌, ℕ, ◌+◌, ◌<◌, ◌≤◌, ℤ, List, [], ◌∷◌, refl, sym, ap, ◌∙◌, arith}
use Rattle.std.specs.Prelude.{slice_get, slice_set, Some}
use Rattle.std.specs.List.{AllByRecursion}
use Rattle.gr_word.specs.Prelude.{applied}
use Rattle.lt_isa.specs.declared.instructions.Instr.{Instr}
use Rattle.lt_isa.specs.declared.instructions.Instr.TheVariants.{Li, Alu, Ldw, Stw}
use Rattle.lt_isa.specs.Prelude.{Parts, block_words, IsInRange, State, Bound, Slot, register, slot, word_in, greatest_cost, word_named, IsShaped, Here}
use Rattle.stretches.specs.Prelude.{StandsAt, Comes, RunsThrough, Sets}
use Rattle.stretches.proofs.Coming.{comes-stw}
use Rattle.stretches.proofs.RunningThrough.{runs-cons, runs-weaker, sets-li, sets-alu, sets-ldw}
use Rattle.strength_reduction.specs.Prelude.{numbered, replaced}
use Rattle.word_selection.specs.Prelude.{IsBound, SlotStep, Constant, Compute, Combine, IsOutside, Read, Write, StepFits, Contents, after_step, after, code_of, word_of, with_word_at, with_word, slot_at}
use Rattle.strength_reduction.proofs.Registers.{numbered-low, set-own}
use Rattle.word_selection.proofs.Registers.{outside-other}
use Rattle.word_selection.proofs.SlotContents.{still-bound}

-- the registers of the steps and the slots have these contents; the other registers and the banks are as before
pub record Leaves (base most : ℕ) (c : Contents) (s t : State) : Type 0 where
  pub own : (i : ℕ) → i ≤ most → register t (numbered base i) ≡ c.registers i
  pub outside : (r : ℕ) → IsOutside base most r → register t r ≡ register s r
  pub slots : t.slots ≡ c.slots
  pub banks : t.banks ≡ s.banks

-- one register was set, and then the rest
leaves-on : {base most : ℕ} {c : Contents} {s t u : State} (to : ℕ) (word : ℤ) → to ≤ most
    → Sets s (numbered base to) word t → Leaves base most c t u → Leaves base most c s u
leaves-on {base = base} {most = most} to word low sets rest = record {
  own = rest.own;
  outside = λ r apart. rest.outside r apart ∙ sets.others r (outside-other base most to r low apart);
  slots = rest.slots;
  banks = rest.banks ∙ sets.banks;
}

-- the slots have become these, and nothing else has changed
record SetsSlots (s : State) (slots : List Slot) (t : State) : Type 0 where
  same : (r : ℕ) → register t r ≡ register s r
  slots_are : t.slots ≡ slots
  banks : t.banks ≡ s.banks

leaves-written : {base most : ℕ} {c : Contents} {s t u : State} (slots : List Slot)
    → SetsSlots s slots t → Leaves base most c t u → Leaves base most c s u
leaves-written slots sets rest = record {
  own = rest.own;
  outside = λ r apart. rest.outside r apart ∙ sets.same r;
  slots = rest.slots;
  banks = rest.banks ∙ sets.banks;
}

module _ (o : Parts) (fits : IsInRange o) (base most : ℕ) (room : base + most < 32) (Used : ℕ → Type 0) where
  -- a word is written in a slot that is bound
  sets-stw : (s : State) → IsShaped o s → (rs k ro : ℕ) (slots : List Slot) (at word : ℤ)
      → s.slots ≡ slots → IsBound (slot_at slots k) → register s ro ≡ at → register s rs ≡ word
      → slice_get o.code s.place ≡ Some (Stw rs k ro)
      → Comes o s [] (s.place + 1) (greatest_cost o (Stw rs k ro))
      (SetsSlots s (with_word_at (block_words o) slots k at word))
  sets-stw s shaped rs k ro slots at word held bound number value there =
      let now : slot s k ≡ Bound bound.bank bound.block bound.words = ap (λ l. slot_at l k) held ∙ bound.is in
      comes-stw o fits s shaped rs k ro bound.bank bound.block bound.words
      (SetsSlots s (with_word_at (block_words o) slots k at word)) there now
      (record {
        same = λ r. refl;
        slots_are =
            ap (λ l. slice_set l k
            (Bound bound.bank bound.block
            (slice_set bound.words (word_named o (register s ro)) (register s rs)))) held
            ∙ ap (λ w. slice_set slots k
            (Bound bound.bank bound.block (slice_set bound.words (word_named o w) (register s rs)))) number
            ∙ ap (λ w. slice_set slots k
            (Bound bound.bank bound.block (slice_set bound.words (word_named o at) w))) value
            ∙ ap (λ x. slice_set slots k (with_word (block_words o) x at word)) (sym bound.is);
        banks = refl;
      })

  -- a register is set, and then the rest runs
  sets-then : (step : Instr) (code : List Instr) (to : ℕ) (word : ℤ) (c last : Contents) (s : State) → to ≤ most
      → ((i : ℕ) → i ≤ most → register s (numbered base i) ≡ c.registers i)
      → ((r : ℕ) → IsOutside base most r → register s r ≡ c.outside r)
      → s.slots ≡ c.slots
      → StandsAt o s.place (step ∷ code)
      → (slice_get o.code s.place ≡ Some step
      → Comes o s [] (s.place + 1) (greatest_cost o step) (Sets s (numbered base to) word))
      → ((t : State) → IsShaped o t
      → ((i : ℕ) → i ≤ most → register t (numbered base i) ≡ replaced c.registers to word i)
      → ((r : ℕ) → IsOutside base most r → register t r ≡ c.outside r)
      → t.slots ≡ c.slots
      → StandsAt o t.place code
      → RunsThrough o t code [] (Leaves base most last t))
      → RunsThrough o s (step ∷ code) [] (Leaves base most last s)
  sets-then step code to word c last s low held others slots at first rest =
      runs-cons s step code [] [] (Sets s (numbered base to) word) (Leaves base most last s) at first
      (λ t shape sets at'.
      runs-weaker t code [] [] (Leaves base most last t) (Leaves base most last s)
      (rest t shape
      (set-own base most to word (register s) (register t) c.registers sets.value sets.others held)
      (λ r apart. sets.others r (outside-other base most to r low apart) ∙ others r apart)
      (sets.slots ∙ slots) at')
      refl
      (λ u shape' done. leaves-on to word low sets done))

  pub runs-steps : (steps : List SlotStep) (c : Contents) (s : State)
      → AllByRecursion (StepFits base most Used) steps
      → IsShaped o s
      → ((i : ℕ) → i ≤ most → register s (numbered base i) ≡ c.registers i)
      → ((r : ℕ) → IsOutside base most r → register s r ≡ c.outside r)
      → s.slots ≡ c.slots
      → ((k : ℕ) → Used k → IsBound (slot_at c.slots k))
      → StandsAt o s.place (code_of base steps)
      → RunsThrough o s (code_of base steps) [] (Leaves base most (after (block_words o) steps c) s)
  runs-steps [] c s low shaped held others slots bound at = record {
    end = s;
    events = [];
    reaches = Here s;
    shows = refl;
    comes = omega arith;
    by = omega arith;
    shaped = shaped;
    holds = record { own = held; outside = λ r apart. refl; slots = slots; banks = refl };
  }
  runs-steps (Constant to value ∷ steps) c s low shaped held others slots bound at =
      let next = after_step (block_words o) (Constant to value) c in
      sets-then (Li (numbered base to) value) (code_of base steps) to value c (after (block_words o) steps next) s low.0
      held others slots at
      (sets-li o fits s shaped (numbered base to) value (numbered-low base most to low.0 room))
      (λ t shape own apart same at'. runs-steps steps next t low.1 shape own apart same bound at')
  runs-steps (Compute op to left right ∷ steps) c s low shaped held others slots bound at =
      let first = low.0 in
      let rd = numbered base to in
      let word = applied op (c.registers left) (c.registers right) in
      let next = after_step (block_words o) (Compute op to left right) c in
      let is : applied op (register s (numbered base left)) (register s (numbered base right)) ≡ word =
      ap (λ w. applied op w (register s (numbered base right))) (held left first.1)
      ∙ ap (applied op (c.registers left)) (held right first.2) in
      sets-then (Alu op rd (numbered base left) (numbered base right)) (code_of base steps) to word c
      (after (block_words o) steps next) s first.0 held others slots at
      (sets-alu o fits s shaped op rd (numbered base left) (numbered base right) word
      (numbered-low base most to first.0 room) is)
      (λ t shape own apart same at'. runs-steps steps next t low.1 shape own apart same bound at')
  runs-steps (Combine op to left outside ∷ steps) c s low shaped held others slots bound at =
      let first = low.0 in
      let rd = numbered base to in
      let word = applied op (c.registers left) (c.outside outside) in
      let next = after_step (block_words o) (Combine op to left outside) c in
      let is : applied op (register s (numbered base left)) (register s outside) ≡ word =
      ap (λ w. applied op w (register s outside)) (held left first.1)
      ∙ ap (applied op (c.registers left)) (others outside first.2) in
      sets-then (Alu op rd (numbered base left) outside) (code_of base steps) to word c
      (after (block_words o) steps next) s first.0 held others slots at
      (sets-alu o fits s shaped op rd (numbered base left) outside word
      (numbered-low base most to first.0 room) is)
      (λ t shape own apart same at'. runs-steps steps next t low.1 shape own apart same bound at')
  runs-steps (Read to k from ∷ steps) c s low shaped held others slots bound at =
      let first = low.0 in
      let rd = numbered base to in
      let ro = numbered base from in
      let x = bound k first.2 in
      let word = word_of (block_words o) (slot_at c.slots k) (c.registers from) in
      let next = after_step (block_words o) (Read to k from) c in
      let now : slot s k ≡ Bound x.bank x.block x.words = ap (λ l. slot_at l k) slots ∙ x.is in
      let is : word_in x.words (word_named o (register s ro)) ≡ word =
      ap (λ w. word_in x.words (word_named o w)) (held from first.1)
      ∙ ap (λ y. word_of (block_words o) y (c.registers from)) (sym x.is) in
      sets-then (Ldw rd k ro) (code_of base steps) to word c (after (block_words o) steps next) s first.0 held others
      slots at
      (sets-ldw o fits s shaped rd k ro x.bank x.block x.words word (numbered-low base most to first.0 room) now is)
      (λ t shape own apart same at'. runs-steps steps next t low.1 shape own apart same bound at')
  runs-steps (Write from k number ∷ steps) c s low shaped held others slots bound at =
      let first = low.0 in
      let rs = numbered base from in
      let ro = numbered base number in
      let next = after_step (block_words o) (Write from k number) c in
      let Done : State → Type 0 = Leaves base most (after (block_words o) steps next) s in
      runs-cons s (Stw rs k ro) (code_of base steps) [] [] (SetsSlots s next.slots) Done at
      (sets-stw s shaped rs k ro c.slots (c.registers number) (c.registers from) slots (bound k first.2)
      (held number first.1) (held from first.0))
      (λ t shape sets at'.
      runs-weaker t (code_of base steps) [] [] (Leaves base most (after (block_words o) steps next) t) Done
      (runs-steps steps next t low.1 shape
      (λ i le. sets.same (numbered base i) ∙ held i le) (λ r apart. sets.same r ∙ others r apart) sets.slots_are
      (λ j used. still-bound (block_words o) c.slots k j (c.registers number) (c.registers from) (bound j used)) at')
      refl
      (λ u shape' rest. leaves-written next.slots sets rest))
