-- The check passes the code of steps in public code, and knows of its registers what the steps leave.
use Rattle.std.proofs.Common.{◌≡◌, ℕ, ◌+◌, ◌<◌, ◌≤◌, Bool, false, not, ◌&&◌, ◌||◌, List, [], ◌∷◌, length, Some, refl, ap, ◌∙◌, arith, length-set}
use Rattle.std.specs.List.{AllByRecursion}
use Rattle.lt_isa.specs.declared.instructions.Instr.TheVariants.{Li, Alu, Ldw, Stw}
use Rattle.lt_isa.specs.Prelude.{Parts, is_ram}
use Rattle.trace_patterns.specs.Prelude.{Known, is_secret, bank_known, set_secret}
use Rattle.stretches.proofs.Passed.{GoesOn, NoMore, One, rules-li, rules-alu, rules-ldw, rules-stw, secret-same, secret-other}
use Rattle.strength_reduction.specs.Prelude.{replaced, numbered}
use Rattle.word_selection.specs.Prelude.{SlotStep, Constant, Compute, Combine, IsOutside, Read, Write, StepFits, labels_after, MayWrite, code_of}
use Rattle.strength_reduction.proofs.Registers.{numbered-low, set-own}
use Rattle.word_selection.proofs.Registers.{outside-other}

-- what the check knows after code that it passes: the labels of the steps' registers, and the rest as before
pub record Passed (o : Parts) (base most p : ℕ) (steps : List SlotStep) (secret : ℕ → Bool) (k : Known) : Type 0 where
  pub last : Known
  pub goes : GoesOn o p (code_of base steps) k last
  pub own : (i : ℕ) → i ≤ most → is_secret last (numbered base i) ≡ secret i
  pub outside : (r : ℕ) → IsOutside base most r → is_secret last r ≡ is_secret k r
  pub count : length last.secret ≡ length k.secret
  pub banks : last.banks ≡ k.banks

module _ (o : Parts) (base most : ℕ) (room : base + most < 32) (Used : ℕ → Type 0) (bank : ℕ) (labels : ℕ → Bool) where
  -- one label was set, and then the rest is passed
  passed-on : (p to : ℕ) (label : Bool) (step : SlotStep) (steps : List SlotStep) (secret : ℕ → Bool) (k : Known)
      → to ≤ most
      → ((last : Known) → GoesOn o (p + 1) (code_of base steps) (set_secret k (numbered base to) label) last
      → GoesOn o p (code_of base (step ∷ steps)) k last)
      → Passed o base most (p + 1) steps secret (set_secret k (numbered base to) label)
      → Passed o base most p (step ∷ steps) secret k
  passed-on p to label step steps secret k low goes rest = record {
    last = rest.last;
    goes = goes rest.last rest.goes;
    own = rest.own;
    outside = λ r apart.
        rest.outside r apart ∙ secret-other k (numbered base to) r label (outside-other base most to r low apart);
    count = rest.count ∙ length-set k.secret (numbered base to) label;
    banks = rest.banks;
  }

  -- the labels of the steps' registers after one was set
  labelled : (to : ℕ) (label is : Bool) (secret : ℕ → Bool) (k : Known)
      → to ≤ most → length k.secret ≡ 32 → label ≡ is
      → ((i : ℕ) → i ≤ most → is_secret k (numbered base i) ≡ secret i)
      → (i : ℕ) → i ≤ most → is_secret (set_secret k (numbered base to) label) (numbered base i) ≡ replaced secret to is i
  labelled to label is secret k low size same held =
      set-own base most to is (is_secret k) (is_secret (set_secret k (numbered base to) label)) secret
      (secret-same k (numbered base to) label (omega (arith, size, numbered-low base most to low room)) ∙ same)
      (λ r other. secret-other k (numbered base to) r label other) held

  -- the other registers keep theirs
  relabelled : (to : ℕ) (label : Bool) (k : Known) → to ≤ most
      → ((r : ℕ) → IsOutside base most r → is_secret k r ≡ labels r)
      → (r : ℕ) → IsOutside base most r → is_secret (set_secret k (numbered base to) label) r ≡ labels r
  relabelled to label k low others r apart =
      secret-other k (numbered base to) r label (outside-other base most to r low apart) ∙ others r apart

  pub passes-steps : (steps : List SlotStep) (secret : ℕ → Bool) (p : ℕ) (k : Known)
      → AllByRecursion (StepFits base most Used) steps
      → length k.secret ≡ 32
      → ((j : ℕ) → Used j → bank_known k j ≡ Some bank)
      → ((i : ℕ) → i ≤ most → is_secret k (numbered base i) ≡ secret i)
      → ((r : ℕ) → IsOutside base most r → is_secret k r ≡ labels r)
      → MayWrite (is_ram bank) labels steps secret
      → Passed o base most p steps (labels_after (is_ram bank) labels steps secret) k
  passes-steps [] secret p k low size banks held others may = record {
    last = k;
    goes = NoMore p k;
    own = held;
    outside = λ r apart. refl;
    count = refl;
    banks = refl;
  }
  passes-steps (Constant to value ∷ steps) secret p k low size banks held others may =
      let rd = numbered base to in
      passed-on p to false (Constant to value) steps
      (labels_after (is_ram bank) labels steps (replaced secret to false)) k low.0
      (λ last goes. One p (Li rd value) (code_of base steps) k (set_secret k rd false) last (rules-li o p k rd value) goes)
      (passes-steps steps (replaced secret to false) (p + 1) (set_secret k rd false)
      low.1
      (length-set k.secret rd false ∙ size) banks (labelled to false false secret k low.0 size refl held)
      (relabelled to false k low.0 others) may.1)
  passes-steps (Compute op to left right ∷ steps) secret p k low size banks held others may =
      let first = low.0 in
      let rd = numbered base to in
      let ra = numbered base left in
      let rb = numbered base right in
      let label = is_secret k ra || is_secret k rb in
      let is : label ≡ (secret left || secret right) =
      ap (λ b. b || is_secret k rb) (held left first.1) ∙ ap (λ b. secret left || b) (held right first.2) in
      passed-on p to label (Compute op to left right) steps
      (labels_after (is_ram bank) labels steps (replaced secret to (secret left || secret right))) k first.0
      (λ last goes. One p (Alu op rd ra rb) (code_of base steps) k (set_secret k rd label) last
      (rules-alu o p k op rd ra rb) goes)
      (passes-steps steps (replaced secret to (secret left || secret right)) (p + 1) (set_secret k rd label)
      low.1
      (length-set k.secret rd label ∙ size) banks
      (labelled to label (secret left || secret right) secret k first.0 size is held)
      (relabelled to label k first.0 others) may.1)
  passes-steps (Combine op to left outside ∷ steps) secret p k low size banks held others may =
      let first = low.0 in
      let rd = numbered base to in
      let ra = numbered base left in
      let label = is_secret k ra || is_secret k outside in
      let is : label ≡ (secret left || labels outside) =
      ap (λ b. b || is_secret k outside) (held left first.1) ∙ ap (λ b. secret left || b) (others outside first.2) in
      passed-on p to label (Combine op to left outside) steps
      (labels_after (is_ram bank) labels steps (replaced secret to (secret left || labels outside))) k first.0
      (λ last goes. One p (Alu op rd ra outside) (code_of base steps) k (set_secret k rd label) last
      (rules-alu o p k op rd ra outside) goes)
      (passes-steps steps (replaced secret to (secret left || labels outside)) (p + 1) (set_secret k rd label)
      low.1
      (length-set k.secret rd label ∙ size) banks
      (labelled to label (secret left || labels outside) secret k first.0 size is held)
      (relabelled to label k first.0 others) may.1)
  passes-steps (Read to j at ∷ steps) secret p k low size banks held others may =
      let first = low.0 in
      let rd = numbered base to in
      let ro = numbered base at in
      let label = not (is_ram bank) || is_secret k ro in
      let is : label ≡ (not (is_ram bank) || secret at) = ap (λ b. not (is_ram bank) || b) (held at first.1) in
      passed-on p to label (Read to j at) steps
      (labels_after (is_ram bank) labels steps (replaced secret to (not (is_ram bank) || secret at))) k first.0
      (λ last goes. One p (Ldw rd j ro) (code_of base steps) k (set_secret k rd label) last
      (rules-ldw o p k rd j ro bank (banks j first.2)) goes)
      (passes-steps steps (replaced secret to (not (is_ram bank) || secret at)) (p + 1) (set_secret k rd label)
      low.1
      (length-set k.secret rd label ∙ size) banks
      (labelled to label (not (is_ram bank) || secret at) secret k first.0 size is held)
      (relabelled to label k first.0 others) may.1)
  passes-steps (Write from j at ∷ steps) secret p k low size banks held others may =
      let first = low.0 in
      let rs = numbered base from in
      let ro = numbered base at in
      let allowed : (is_ram bank && (is_secret k rs || is_secret k ro)) ≡ false =
      ap (λ b. is_ram bank && (b || is_secret k ro)) (held from first.0)
      ∙ ap (λ b. is_ram bank && (secret from || b)) (held at first.1) ∙ may.0 in
      let rest = passes-steps steps secret (p + 1) k low.1 size
      banks held others may.1 in
      record {
        last = rest.last;
        goes = One p (Stw rs j ro) (code_of base steps) k k rest.last
            (rules-stw o p k rs j ro bank (banks j first.2) allowed) rest.goes;
        own = rest.own;
        outside = rest.outside;
        count = rest.count;
        banks = rest.banks;
      }
