-- The lowest state that two states are at most, and what is known after an instruction from there: no more is secret than
-- after the instruction from one of the two, unless they know different banks of a slot and the address of its block is
-- read.
use Rattle.std.proofs.Common.{◌≡◌, ℕ, ◌<◌, ◌≤◌, ◌||◌, Bool, true, false, not, ◌⊎◌, inl, inr, Option, Some, None, refl, sym, ap, ◌∙◌, ⊎_elim, arith, get_or-set_same, get_or-set_other}
use Rattle.std.proofs.lemmas.Bool.{cases_lt, cases_eq, eqb-true, false≢true}
use Rattle.std.proofs.lemmas.List.{get_or_past}
use Rattle.lt_isa.specs.declared.instructions.Instr.{Instr}
use Rattle.lt_isa.specs.declared.instructions.Instr.TheVariants.{Nop, Halt, Li, Alu, Ldb, Stb, Idb, Ldw, Stw, Jmp, Br}
use Rattle.lt_isa.specs.Prelude.{is_ram}
use Rattle.trace_patterns.specs.Prelude.{Known, is_secret, bank_known, set_secret, set_bank, FitsClaim, known_behind, slot_shows, slot_is_ram}
use Rattle.note_infer.specs.Prelude.{States, IsAtLeast, IsFull, IsHigherOf, BanksUpTo, common_bank}
use Rattle.note_infer.proofs.HigherStates.{is_higher, or_left, or_right, or_either, bank_both}
use Rattle.note_infer.proofs.Meets.{made, length-made, get_or-made, past_secret, past_bank, AllFullIn}

abbrev labels_of_either : Known → Known → ℕ → Bool
labels_of_either one two r = is_secret one r || is_secret two r

abbrev banks_of_both : Known → Known → ℕ → Option ℕ
banks_of_both one two k = common_bank (bank_known one k) (bank_known two k)

pub upper : Known → Known → Known
upper one two = record { secret = made 32 (labels_of_either one two); banks = made 8 (banks_of_both one two) }

upper_made : (one two : Known) → BanksUpTo 8 one two (upper one two)
unfolding upper
upper_made one two = record {
  registers = length-made 32 (labels_of_either one two);
  slots = length-made 8 (banks_of_both one two);
  labels = λ r lt. get_or-made 32 (labels_of_either one two) r true lt;
  banks = λ k lt. get_or-made 8 (banks_of_both one two) k None lt;
  unbound = λ k le.
      get_or_past (made 8 (banks_of_both one two)) k None (omega (arith, le, length-made 8 (banks_of_both one two)));
}

pub upper_is : (one two : Known) → IsFull one → IsFull two → IsHigherOf one two (upper one two)
upper_is one two f g = is_higher one two (upper one two) f g (upper_made one two)

-- one state is known at a place, or another, or both
abbrev pub either_known : Option Known → Option Known → Option Known
either_known None y = y
either_known (Some one) None = Some one
either_known (Some one) (Some two) = Some (upper one two)

pub either_left : (one two : States) (q : ℕ) (low : Known) → AllFullIn (one q) → AllFullIn (two q)
    → IsAtLeast one q low → IsAtLeast (λ x. either_known (one x) (two x)) q low
either_left one two q low f g a = by (two q) refl
  where
    by : (y : Option Known) → two q ≡ y → IsAtLeast (λ x. either_known (one x) (two x)) q low
    by None e = record {
      known = a.known;
      is = ap (λ (x : Option Known). either_known x (two q)) a.is ∙ ap (either_known (Some a.known)) e;
      above = a.above;
    }
    by (Some k) e =
        let high = upper_is a.known k (f a.known a.is) (g k e) in
        record {
          known = upper a.known k;
          is = ap (λ (x : Option Known). either_known x (two q)) a.is ∙ ap (either_known (Some a.known)) e;
          above = record {
            registers = λ r s. high.first.registers r (a.above.registers r s);
            slots = λ j b s. a.above.slots j b (high.first.slots j b s);
          };
        }

pub either_right : (one two : States) (q : ℕ) (low : Known) → AllFullIn (one q) → AllFullIn (two q)
    → IsAtLeast two q low → IsAtLeast (λ x. either_known (one x) (two x)) q low
either_right one two q low f g a = by (one q) refl
  where
    by : (y : Option Known) → one q ≡ y → IsAtLeast (λ x. either_known (one x) (two x)) q low
    by None e = record {
      known = a.known;
      is = ap (λ (x : Option Known). either_known x (two q)) e ∙ a.is;
      above = a.above;
    }
    by (Some k) e =
        let high = upper_is k a.known (f k e) (g a.known a.is) in
        record {
          known = upper k a.known;
          is = ap (λ (x : Option Known). either_known x (two q)) e ∙ ap (either_known (Some k)) a.is;
          above = record {
            registers = λ r s. high.second.registers r (a.above.registers r s);
            slots = λ j b s. a.above.slots j b (high.second.slots j b s);
          };
        }

-- after one instruction
module _ (one two high : Known) (one_full : IsFull one) (two_full : IsFull two) (high_full : IsFull high) where
  upper_secret : (r : ℕ) → is_secret (upper one two) r ≡ true
      → (is_secret one r ≡ true) ⊎ (is_secret two r ≡ true)
  upper_secret r e =
      ⊎_elim
      (λ (lt : r < 32).
      or_either (is_secret one r) (is_secret two r) (sym ((upper_made one two).labels r lt) ∙ e))
      (λ (le : 32 ≤ r). inl (past_secret one one_full r le))
      (cases_lt r 32)

  upper_bank : (j bank : ℕ) → bank_known one j ≡ Some bank → bank_known two j ≡ Some bank
      → bank_known (upper one two) j ≡ Some bank
  upper_bank j bank e f =
      ⊎_elim
      (λ (lt : j < 8). (upper_made one two).banks j lt ∙ bank_both (bank_known one j) (bank_known two j) bank e f)
      (λ (le : 8 ≤ j). past_bank one one_full j bank le e)
      (cases_lt j 8)

  label_upper : (rd : ℕ) (x y z : Bool) → (z ≡ true → (x ≡ true) ⊎ (y ≡ true))
      → FitsClaim (set_secret one rd x) high → FitsClaim (set_secret two rd y) high
      → FitsClaim (set_secret (upper one two) rd z) high
  label_upper rd x y z made f g = record {
    registers = λ r e.
        ⊎_elim
        (λ (lt : r < 32). by r lt e (cases_eq r rd))
        (λ (le : 32 ≤ r). past_secret high high_full r le)
        (cases_lt r 32);
    slots = λ j b e. upper_bank j b (f.slots j b e) (g.slots j b e);
  }
    where
      set_at : (k : Known) → IsFull k → (w : Bool) (r : ℕ) → r < 32 → r ≡ rd → is_secret (set_secret k rd w) r ≡ w
      set_at k full w r lt e =
          ap (is_secret (set_secret k rd w)) e
          ∙ get_or-set_same k.secret rd w true (omega (arith, lt, e, full.registers))

      by : (r : ℕ) → r < 32 → is_secret (set_secret (upper one two) rd z) r ≡ true → (r ≡ rd) ⊎ (r ≡ rd → ⊥)
          → is_secret high r ≡ true
      by r lt e (inl same) =
          ⊎_elim
          (λ (s : x ≡ true). f.registers r (set_at one one_full x r lt same ∙ s))
          (λ (s : y ≡ true). g.registers r (set_at two two_full y r lt same ∙ s))
          (made (sym (set_at (upper one two) (upper_is one two one_full two_full).full z r lt same) ∙ e))
      by r lt e (inr ne) =
          ⊎_elim
          (λ (s : is_secret one r ≡ true). f.registers r (get_or-set_other one.secret rd r x true ne ∙ s))
          (λ (s : is_secret two r ≡ true). g.registers r (get_or-set_other two.secret rd r y true ne ∙ s))
          (upper_secret r (sym (get_or-set_other (upper one two).secret rd r z true ne) ∙ e))

  bank_upper : (slot bank : ℕ) → FitsClaim (set_bank one slot bank) high → FitsClaim (set_bank two slot bank) high
      → FitsClaim (set_bank (upper one two) slot bank) high
  bank_upper slot bank f g = record {
    registers = λ r e. ⊎_elim (f.registers r) (g.registers r) (upper_secret r e);
    slots = λ j b e.
        ⊎_elim
        (λ (lt : j < 8). by j b lt e (cases_eq j slot))
        (λ (le : 8 ≤ j). past_bank high high_full j b le e)
        (cases_lt j 8);
  }
    where
      set_at : (k : Known) → IsFull k → (j : ℕ) → j < 8 → j ≡ slot → bank_known (set_bank k slot bank) j ≡ Some bank
      set_at k full j lt e =
          ap (bank_known (set_bank k slot bank)) e
          ∙ get_or-set_same k.banks slot (Some bank) None (omega (arith, lt, e, full.slots))

      by : (j b : ℕ) → j < 8 → bank_known high j ≡ Some b → (j ≡ slot) ⊎ (j ≡ slot → ⊥)
          → bank_known (set_bank (upper one two) slot bank) j ≡ Some b
      by j b lt e (inl same) =
          set_at (upper one two) (upper_is one two one_full two_full).full j lt same
          ∙ sym (set_at one one_full j lt same) ∙ f.slots j b e
      by j b lt e (inr ne) =
          get_or-set_other (upper one two).banks slot j (Some bank) None ne
          ∙ upper_bank j b (sym (get_or-set_other one.banks slot j (Some bank) None ne) ∙ f.slots j b e)
          (sym (get_or-set_other two.banks slot j (Some bank) None ne) ∙ g.slots j b e)

  sum_secret : (ra rb : ℕ) → (is_secret (upper one two) ra || is_secret (upper one two) rb) ≡ true
      → ((is_secret one ra || is_secret one rb) ≡ true) ⊎ ((is_secret two ra || is_secret two rb) ≡ true)
  sum_secret ra rb e =
      by (or_either (is_secret (upper one two) ra) (is_secret (upper one two) rb) e)
    where
      left : (is_secret one ra ≡ true) ⊎ (is_secret two ra ≡ true)
          → ((is_secret one ra || is_secret one rb) ≡ true) ⊎ ((is_secret two ra || is_secret two rb) ≡ true)
      left (inl s) = inl (or_left (is_secret one ra) (is_secret one rb) s)
      left (inr s) = inr (or_left (is_secret two ra) (is_secret two rb) s)

      right : (is_secret one rb ≡ true) ⊎ (is_secret two rb ≡ true)
          → ((is_secret one ra || is_secret one rb) ≡ true) ⊎ ((is_secret two ra || is_secret two rb) ≡ true)
      right (inl s) = inl (or_right (is_secret one ra) (is_secret one rb) s)
      right (inr s) = inr (or_right (is_secret two ra) (is_secret two rb) s)

      by : (is_secret (upper one two) ra ≡ true) ⊎ (is_secret (upper one two) rb ≡ true)
          → ((is_secret one ra || is_secret one rb) ≡ true) ⊎ ((is_secret two ra || is_secret two rb) ≡ true)
      by (inl s) = left (upper_secret ra s)
      by (inr s) = right (upper_secret rb s)

  -- a bank that is known in a third state, which both are at most, is the same in all
  shown_same : (third : Known) → FitsClaim one third → FitsClaim two third → (slot : ℕ)
      → (bank_known third slot ≡ None → ⊥) → bank_known (upper one two) slot ≡ bank_known one slot
  shown_same third f g slot some = by (bank_known third slot) refl
    where
      by : (x : Option ℕ) → bank_known third slot ≡ x → bank_known (upper one two) slot ≡ bank_known one slot
      by None e = absurd (some e)
      by (Some bank) e =
          upper_bank slot bank (f.slots slot bank e) (g.slots slot bank e) ∙ sym (f.slots slot bank e)

  -- whether a word of a slot is secret
  word_secret : (slot : ℕ) → not (slot_is_ram (bank_known (upper one two) slot)) ≡ true
      → (not (slot_is_ram (bank_known one slot)) ≡ true) ⊎ (not (slot_is_ram (bank_known two slot)) ≡ true)
  word_secret slot e = by (bank_known one slot) (bank_known two slot) refl refl
    where
      both : (a b : ℕ) → bank_known one slot ≡ Some a → bank_known two slot ≡ Some b
          → (s t : Bool) → is_ram a ≡ s → is_ram b ≡ t
          → (not (slot_is_ram (bank_known one slot)) ≡ true) ⊎ (not (slot_is_ram (bank_known two slot)) ≡ true)
      both a b e1 e2 false t is also = inl (ap (λ (x : Option ℕ). not (slot_is_ram x)) e1 ∙ ap not is)
      both a b e1 e2 true false is also = inr (ap (λ (x : Option ℕ). not (slot_is_ram x)) e2 ∙ ap not also)
      both a b e1 e2 true true is also =
          let zero_a : a ≡ 0 = eqb-true a 0 is in
          let zero_b : b ≡ 0 = eqb-true b 0 also in
          let same = upper_bank slot a e1 (e2 ∙ ap Some (zero_b ∙ sym zero_a)) in
          absurd (false≢true (sym (ap (λ (x : Option ℕ). not (slot_is_ram x)) same ∙ ap not is) ∙ e))

      by : (x y : Option ℕ) → bank_known one slot ≡ x → bank_known two slot ≡ y
          → (not (slot_is_ram (bank_known one slot)) ≡ true) ⊎ (not (slot_is_ram (bank_known two slot)) ≡ true)
      by None y e1 e2 = inl (ap (λ (x : Option ℕ). not (slot_is_ram x)) e1)
      by (Some a) None e1 e2 = inr (ap (λ (x : Option ℕ). not (slot_is_ram x)) e2)
      by (Some a) (Some b) e1 e2 = both a b e1 e2 (is_ram a) (is_ram b) refl refl

  load_secret : (slot ro : ℕ)
      → (not (slot_is_ram (bank_known (upper one two) slot)) || is_secret (upper one two) ro) ≡ true
      → ((not (slot_is_ram (bank_known one slot)) || is_secret one ro) ≡ true)
      ⊎ ((not (slot_is_ram (bank_known two slot)) || is_secret two ro) ≡ true)
  load_secret slot ro e =
      by (or_either (not (slot_is_ram (bank_known (upper one two) slot))) (is_secret (upper one two) ro) e)
    where
      left : (not (slot_is_ram (bank_known one slot)) ≡ true) ⊎ (not (slot_is_ram (bank_known two slot)) ≡ true)
          → ((not (slot_is_ram (bank_known one slot)) || is_secret one ro) ≡ true)
          ⊎ ((not (slot_is_ram (bank_known two slot)) || is_secret two ro) ≡ true)
      left (inl s) = inl (or_left (not (slot_is_ram (bank_known one slot))) (is_secret one ro) s)
      left (inr s) = inr (or_left (not (slot_is_ram (bank_known two slot))) (is_secret two ro) s)

      right : (is_secret one ro ≡ true) ⊎ (is_secret two ro ≡ true)
          → ((not (slot_is_ram (bank_known one slot)) || is_secret one ro) ≡ true)
          ⊎ ((not (slot_is_ram (bank_known two slot)) || is_secret two ro) ≡ true)
      right (inl s) = inl (or_right (not (slot_is_ram (bank_known one slot))) (is_secret one ro) s)
      right (inr s) = inr (or_right (not (slot_is_ram (bank_known two slot))) (is_secret two ro) s)

      by : (not (slot_is_ram (bank_known (upper one two) slot)) ≡ true) ⊎ (is_secret (upper one two) ro ≡ true)
          → ((not (slot_is_ram (bank_known one slot)) || is_secret one ro) ≡ true)
          ⊎ ((not (slot_is_ram (bank_known two slot)) || is_secret two ro) ≡ true)
      by (inl s) = left (word_secret slot s)
      by (inr s) = right (upper_secret ro s)

  same_upper : FitsClaim one high → FitsClaim two high → FitsClaim (upper one two) high
  same_upper f g = (upper_is one two one_full two_full).lowest high f g

  pub behind_upper : (third : Known) → FitsClaim one third → FitsClaim two third → (i : Instr)
      → ((rd slot : ℕ) → i ≡ Idb rd slot → bank_known third slot ≡ None → ⊥)
      → FitsClaim (known_behind one i) high → FitsClaim (known_behind two i) high
      → FitsClaim (known_behind (upper one two) i) high
  unfolding known_behind
  behind_upper third first second (Li rd value) some f g =
      label_upper rd false false false (λ e. inl e) f g
  behind_upper third first second (Alu op rd ra rb) some f g =
      label_upper rd (is_secret one ra || is_secret one rb) (is_secret two ra || is_secret two rb)
      (is_secret (upper one two) ra || is_secret (upper one two) rb) (sum_secret ra rb) f g
  behind_upper third first second (Ldb slot bank r) some f g = bank_upper slot bank f g
  behind_upper third first second (Idb rd slot) some f g =
      label_upper rd (not (slot_shows (bank_known one slot))) (not (slot_shows (bank_known two slot)))
      (not (slot_shows (bank_known (upper one two) slot)))
      (λ e. inl (sym (ap (λ (x : Option ℕ). not (slot_shows x))
      (shown_same third first second slot (some rd slot refl))) ∙ e)) f g
  behind_upper third first second (Ldw rd slot ro) some f g =
      label_upper rd (not (slot_is_ram (bank_known one slot)) || is_secret one ro)
      (not (slot_is_ram (bank_known two slot)) || is_secret two ro)
      (not (slot_is_ram (bank_known (upper one two) slot)) || is_secret (upper one two) ro) (load_secret slot ro) f g
  behind_upper third first second other some f g = same_upper f g
