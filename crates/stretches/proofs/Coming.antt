-- Runs of stretches of code: one step, and stretches in sequence.
use Rattle.std.proofs.Common.{◌≡◌, ℕ, ◌+◌, ◌≤◌, true, false, ℤ, pos, List, [], ◌∷◌, ◌++◌, Option, Some, None, refl, ap, ◌∙◌, arith}
use Rattle.std.specs.Prelude.{slice_get, slice_set}
use Rattle.std.proofs.lemmas.List.{map-append}
use Rattle.gr_word.specs.Prelude.{applied, compared}
use Rattle.gr_word.specs.declared.operations.Op.{Op}
use Rattle.gr_word.specs.declared.operations.Cmp.{Cmp}
use Rattle.lt_isa.specs.declared.instructions.Instr.{Instr}
use Rattle.lt_isa.specs.declared.instructions.Instr.TheVariants.{Li, Alu, Ldb, Stb, Idb, Ldw, Stw, Jmp, Br}
use Rattle.lt_isa.specs.Prelude.{Parts, IsInRange, State, Bound, Observed, register, slot, block_at, word_in, set_register, set_slot, set_block, read_event, write_event, greatest_cost, Goes, executed, step_start, passed, went_on, loaded, with_bound, target_of, block_named, word_named, IsShaped, Stamped, stamped, Here}
use Rattle.stretches.specs.Prelude.{Comes, seen, shown_by}
use Rattle.lt_isa.proofs.Steps.{step-at, step-by}
use Rattle.lt_isa.proofs.Shapes.{step-shaped}
use Rattle.lt_isa.proofs.Stretches.{reaches-step, reaches-append}

-- a run reaches the place where it is
pub comes-here : {o : Parts} (s : State) (most : ℕ) (P : State → Type 0)
    → IsShaped o s → P s → Comes o s [] s.place most P
comes-here s most P shaped holds = record {
  end = s;
  events = [];
  reaches = Here s;
  shows = refl;
  comes = refl;
  by = omega arith;
  shaped = shaped;
  holds = holds;
}

-- one stretch, and another from the state in which the first one ends
pub comes-both : {o : Parts} {s : State} {es : List Observed} {p q c d : ℕ} {P Q : State → Type 0}
    (fs : List Observed) (first : Comes o s es p c P)
    → Comes o first.end fs q d Q → Comes o s (es ++ fs) q (c + d) Q
comes-both {es = es} fs first second = record {
  end = second.end;
  events = first.events ++ second.events;
  reaches = reaches-append first.reaches second.reaches;
  shows =
      map-append (λ (e : Stamped). e.event) first.events second.events
      ∙ ap (λ l. l ++ seen second.events) first.shows
      ∙ ap (λ l. es ++ l) second.shows;
  comes = second.comes;
  by = omega (arith, first.by, second.by);
  shaped = second.shaped;
  holds = second.holds;
}

-- one stretch, and another from any state in which the first one may end
pub comes-on : {o : Parts} {s : State} {es : List Observed} {p c : ℕ} {P : State → Type 0} (fs : List Observed)
    (q d : ℕ) (Q : State → Type 0)
    → Comes o s es p c P → ((t : State) → IsShaped o t → t.place ≡ p → P t → Comes o t fs q d Q)
    → Comes o s (es ++ fs) q (c + d) Q
comes-on fs q d Q first rest = comes-both fs first (rest first.end first.shaped first.comes first.holds)

-- the same with equal events, an equal place, more cycles, and less known of the end
pub comes-weaker : {o : Parts} {s : State} {es : List Observed} {p c : ℕ} {P : State → Type 0} (fs : List Observed)
    (q d : ℕ) (Q : State → Type 0)
    → Comes o s es p c P → es ≡ fs → p ≡ q → c ≤ d → ((t : State) → IsShaped o t → P t → Q t) → Comes o s fs q d Q
comes-weaker fs q d Q run same place more weaker = record {
  end = run.end;
  events = run.events;
  reaches = run.reaches;
  shows = run.shows ∙ same;
  comes = run.comes ∙ place;
  by = omega (arith, run.by, more);
  shaped = run.shaped;
  holds = weaker run.end run.shaped run.holds;
}

seen-stamped : (at : ℕ) (event : Option Observed) → seen (stamped at event) ≡ shown_by event
seen-stamped at None = refl
seen-stamped at (Some event) = refl

-- A run at the place of an instruction: the instruction is one stretch.
module _ (o : Parts) (fits : IsInRange o) (s : State) (shaped : IsShaped o s) where
  -- a step that leads to a state reaches its place, within the instruction's greatest cost
  pub comes-step : (i : Instr) (event : Option Observed) (t : State) (P : State → Type 0)
      → slice_get o.code s.place ≡ Some i
      → executed o s i ≡ Goes event t → P t → Comes o s (shown_by event) t.place (greatest_cost o i) P
  comes-step i event t P at does holds =
      let goes = step-at o s i at ∙ does in
      record {
        end = t;
        events = stamped (step_start o s) event;
        reaches = reaches-step o s event t goes;
        shows = seen-stamped (step_start o s) event;
        comes = refl;
        by = step-by o fits s shaped i at event t goes;
        shaped = step-shaped o fits s shaped event t goes;
        holds = holds;
      }

  -- a constant is written to a register
  pub comes-li : (rd : ℕ) (value : ℤ) (P : State → Type 0) → slice_get o.code s.place ≡ Some (Li rd value)
      → P (set_register (went_on o (Li rd value) s) rd value)
      → Comes o s [] (s.place + 1) (greatest_cost o (Li rd value)) P
  comes-li rd value P at holds = comes-step (Li rd value) None _ P at refl holds

  -- the result of an operation is written to a register
  pub comes-alu : (op : Op) (rd ra rb : ℕ) (P : State → Type 0) → slice_get o.code s.place ≡ Some (Alu op rd ra rb)
      → P (set_register (went_on o (Alu op rd ra rb) s) rd (applied op (register s ra) (register s rb)))
      → Comes o s [] (s.place + 1) (greatest_cost o (Alu op rd ra rb)) P
  comes-alu op rd ra rb P at holds = comes-step (Alu op rd ra rb) None _ P at refl holds

  -- an instruction that needs a bound slot: the number of its block is written to a register
  pub comes-idb : (rd k b a : ℕ) (words : List ℤ) (P : State → Type 0) → slice_get o.code s.place ≡ Some (Idb rd k)
      → slot s k ≡ Bound b a words → P (set_register (went_on o (Idb rd k) s) rd (pos a))
      → Comes o s [] (s.place + 1) (greatest_cost o (Idb rd k)) P
  comes-idb rd k b a words P at bound holds =
      comes-step (Idb rd k) None (set_register (went_on o (Idb rd k) s) rd (pos a)) P at
      (ap
      (λ found. with_bound found (λ b a words. Goes None (set_register (went_on o (Idb rd k) s) rd (pos a))))
      bound)
      holds

  -- a word of the slot's block is loaded
  pub comes-ldw : (rd k ro b a : ℕ) (words : List ℤ) (P : State → Type 0)
      → slice_get o.code s.place ≡ Some (Ldw rd k ro) → slot s k ≡ Bound b a words
      → P (set_register (went_on o (Ldw rd k ro) s) rd (word_in words (word_named o (register s ro))))
      → Comes o s [] (s.place + 1) (greatest_cost o (Ldw rd k ro)) P
  comes-ldw rd k ro b a words P at bound holds =
      comes-step (Ldw rd k ro) None
      (set_register (went_on o (Ldw rd k ro) s) rd (word_in words (word_named o (register s ro)))) P at
      (ap
      (λ found. with_bound found (λ b a words.
      Goes None (set_register (went_on o (Ldw rd k ro) s) rd (word_in words (word_named o (register s ro))))))
      bound)
      holds

  -- a word is stored in the slot's block
  pub comes-stw : (rs k ro b a : ℕ) (words : List ℤ) (P : State → Type 0)
      → slice_get o.code s.place ≡ Some (Stw rs k ro) → slot s k ≡ Bound b a words
      → P (set_slot (went_on o (Stw rs k ro) s) k
      (Bound b a (slice_set words (word_named o (register s ro)) (register s rs))))
      → Comes o s [] (s.place + 1) (greatest_cost o (Stw rs k ro)) P
  comes-stw rs k ro b a words P at bound holds =
      comes-step (Stw rs k ro) None
      (set_slot (went_on o (Stw rs k ro) s) k
      (Bound b a (slice_set words (word_named o (register s ro)) (register s rs)))) P at
      (ap
      (λ found. with_bound found (λ b a words.
      Goes None
      (set_slot (went_on o (Stw rs k ro) s) k
      (Bound b a (slice_set words (word_named o (register s ro)) (register s rs))))))
      bound)
      holds

  -- a block is loaded
  pub comes-ldb : (k b r a : ℕ) (P : State → Type 0) → slice_get o.code s.place ≡ Some (Ldb k b r)
      → block_named o b (register s r) ≡ a
      → P (loaded (passed o (Ldb k b r) false b (s.place + 1) s) k b a)
      → Comes o s (read_event b a (block_at s b a) ∷ []) (s.place + 1) (greatest_cost o (Ldb k b r)) P
  comes-ldb k b r a P at named holds =
      comes-step (Ldb k b r) (Some (read_event b a (block_at s b a)))
      (loaded (passed o (Ldb k b r) false b (s.place + 1) s) k b a) P at
      (ap
      (λ a.
      Goes (Some (read_event b a (block_at s b a))) (loaded (passed o (Ldb k b r) false b (s.place + 1) s) k b a))
      named)
      holds

  -- a slot's block is stored, and shown
  pub comes-stb : (k b a : ℕ) (words : List ℤ) (P : State → Type 0) → slice_get o.code s.place ≡ Some (Stb k)
      → slot s k ≡ Bound b a words
      → P (set_block (passed o (Stb k) false b (s.place + 1) s) b a words)
      → Comes o s (write_event b a words ∷ []) (s.place + 1) (greatest_cost o (Stb k)) P
  comes-stb k b a words P at bound holds =
      comes-step (Stb k) (Some (write_event b a words))
      (set_block (passed o (Stb k) false b (s.place + 1) s) b a words) P at
      (ap
      (λ found. with_bound found (λ b a words.
      Goes (Some (write_event b a words)) (set_block (passed o (Stb k) false b (s.place + 1) s) b a words)))
      bound)
      holds

  -- a jump
  pub comes-jmp : (offset : ℤ) (P : State → Type 0) → slice_get o.code s.place ≡ Some (Jmp offset)
      → P (passed o (Jmp offset) true 0 (target_of o s.place offset) s)
      → Comes o s [] (target_of o s.place offset) (greatest_cost o (Jmp offset)) P
  comes-jmp offset P at holds = comes-step (Jmp offset) None _ P at refl holds

  -- a branch whose comparison is true is taken
  pub comes-br_taken : (cmp : Cmp) (ra rb : ℕ) (offset : ℤ) (P : State → Type 0)
      → slice_get o.code s.place ≡ Some (Br cmp ra rb offset) → compared cmp (register s ra) (register s rb) ≡ true
      → P (passed o (Br cmp ra rb offset) true 0 (target_of o s.place offset) s)
      → Comes o s [] (target_of o s.place offset) (greatest_cost o (Br cmp ra rb offset)) P
  comes-br_taken cmp ra rb offset P at taken holds =
      comes-step (Br cmp ra rb offset) None
      (passed o (Br cmp ra rb offset) true 0 (target_of o s.place offset) s) P at (rw taken refl) holds

  -- a branch whose comparison is false continues
  pub comes-br_on : (cmp : Cmp) (ra rb : ℕ) (offset : ℤ) (P : State → Type 0)
      → slice_get o.code s.place ≡ Some (Br cmp ra rb offset) → compared cmp (register s ra) (register s rb) ≡ false
      → P (passed o (Br cmp ra rb offset) false 0 (s.place + 1) s)
      → Comes o s [] (s.place + 1) (greatest_cost o (Br cmp ra rb offset)) P
  comes-br_on cmp ra rb offset P at passed_by holds =
      comes-step (Br cmp ra rb offset) None (passed o (Br cmp ra rb offset) false 0 (s.place + 1) s) P at
      (rw passed_by refl) holds
