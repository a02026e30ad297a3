-- The check passes the code of steps in public code, and knows of its registers what the steps leave.
use Rattle.std.proofs.Common.{◌≡◌, ℕ, ◌+◌, ◌<◌, ◌≤◌, Bool, false, ◌||◌, List, [], ◌∷◌, length, refl, ap, ◌∙◌, arith, length-set}
use Rattle.std.specs.Prelude.{All}
use Rattle.std.proofs.lemmas.List.Elements.{All-head, All-tail}
use Rattle.lt_isa.specs.declared.instructions.Instr.TheVariants.{Li, Alu}
use Rattle.lt_isa.specs.Prelude.{Parts}
use Rattle.trace_patterns.specs.Prelude.{Known, is_secret, set_secret}
use Rattle.stretches.proofs.Passed.{GoesOn, NoMore, One, rules-li, rules-alu, secret-same, secret-other}
use Rattle.strength_reduction.specs.Prelude.{Step, Constant, Compute, StepFits, replaced, secrets_after, numbered, code_of}
use Rattle.strength_reduction.proofs.Registers.{numbered-low, numbered-from, numbered-to, set-own}

-- what the check knows after code that it passes: the labels of the steps' registers, and the rest as before
pub record Passed (o : Parts) (base p : ℕ) (steps : List Step) (secret : ℕ → Bool) (k : Known) : Type 0 where
  pub last : Known
  pub goes : GoesOn o p (code_of base steps) k last
  pub own : (i : ℕ) → i ≤ 2 → is_secret last (numbered base i) ≡ secret i
  pub below : (r : ℕ) → r < base → is_secret last r ≡ is_secret k r
  pub above : (r : ℕ) → base + 3 ≤ r → is_secret last r ≡ is_secret k r
  pub count : length last.secret ≡ length k.secret
  pub banks : last.banks ≡ k.banks

module _ (o : Parts) (base : ℕ) (room : base + 2 < 32) where
  -- one register got a label, and then the rest is passed
  passed-on : (to : ℕ) (label : Bool) (step : Step) (steps : List Step) (secret : ℕ → Bool) (p : ℕ) (k : Known) → to ≤ 2
      → ((last : Known) → GoesOn o (p + 1) (code_of base steps) (set_secret k (numbered base to) label) last
      → GoesOn o p (code_of base (step ∷ steps)) k last)
      → Passed o base (p + 1) steps secret (set_secret k (numbered base to) label)
      → Passed o base p (step ∷ steps) secret k
  passed-on to label step steps secret p k low goes rest =
      let rd = numbered base to in
      record {
        last = rest.last;
        goes = goes rest.last rest.goes;
        own = rest.own;
        below = λ r under.
            rest.below r under
            ∙ secret-other k rd r label (λ same. absurd (omega (arith, numbered-from base to)));
        above = λ r over.
            rest.above r over
            ∙ secret-other k rd r label (λ same. absurd (omega (arith, numbered-to base 2 to low, over, same)));
        count = rest.count ∙ length-set k.secret rd label;
        banks = rest.banks;
      }

  -- the labels of the steps' registers after one was set
  labelled : (to : ℕ) (label is : Bool) (secret : ℕ → Bool) (k : Known) → to ≤ 2 → length k.secret ≡ 32 → label ≡ is
      → ((i : ℕ) → i ≤ 2 → is_secret k (numbered base i) ≡ secret i)
      → (i : ℕ) → i ≤ 2 → is_secret (set_secret k (numbered base to) label) (numbered base i) ≡ replaced secret to is i
  labelled to label is secret k low size same held =
      set-own base 2 to is (is_secret k) (is_secret (set_secret k (numbered base to) label)) secret
      (secret-same k (numbered base to) label (omega (arith, size, numbered-low base 2 to low room)) ∙ same)
      (λ r other. secret-other k (numbered base to) r label other) held

  pub passes-steps : (steps : List Step) (secret : ℕ → Bool) (p : ℕ) (k : Known)
      → All StepFits steps
      → length k.secret ≡ 32
      → ((i : ℕ) → i ≤ 2 → is_secret k (numbered base i) ≡ secret i)
      → Passed o base p steps (secrets_after steps secret) k
  passes-steps [] secret p k low size held = record {
    last = k;
    goes = NoMore p k;
    own = held;
    below = λ r under. refl;
    above = λ r over. refl;
    count = refl;
    banks = refl;
  }
  passes-steps (Constant to value ∷ steps) secret p k low size held =
      let first = All-head StepFits (Constant to value) steps low in
      let rd = numbered base to in
      let next = set_secret k rd false in
      passed-on to false (Constant to value) steps (secrets_after steps (replaced secret to false)) p k first.0
      (λ last goes. One p (Li rd value) (code_of base steps) k next last (rules-li o p k rd value) goes)
      (passes-steps steps (replaced secret to false) (p + 1) next (All-tail StepFits (Constant to value) steps low)
      (length-set k.secret rd false ∙ size) (labelled to false false secret k first.0 size refl held))
  passes-steps (Compute op to left right ∷ steps) secret p k low size held =
      let first = All-head StepFits (Compute op to left right) steps low in
      let rd = numbered base to in
      let ra = numbered base left in
      let rb = numbered base right in
      let label = is_secret k ra || is_secret k rb in
      let label_is = secret left || secret right in
      let next = set_secret k rd label in
      let is : label ≡ label_is =
      ap (λ b. b || is_secret k rb) (held left first.1) ∙ ap (λ b. secret left || b) (held right first.2) in
      passed-on to label (Compute op to left right) steps (secrets_after steps (replaced secret to label_is)) p k first.0
      (λ last goes. One p (Alu op rd ra rb) (code_of base steps) k next last (rules-alu o p k op rd ra rb) goes)
      (passes-steps steps (replaced secret to label_is) (p + 1) next
      (All-tail StepFits (Compute op to left right) steps low)
      (length-set k.secret rd label ∙ size) (labelled to label label_is secret k first.0 size is held))
