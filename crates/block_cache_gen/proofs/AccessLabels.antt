-- The labels of the registers in the public code of an access: the number of the word, that of its block, and the load.
use Rattle.std.proofs.Common.{◌≡◌, ◌≢◌, ℕ, zero, suc, ◌+◌, ◌<◌, ◌≤◌, Bool, true, false, not, ◌||◌, ◌&&◌, ◌==◌, ℤ, pos, ◌+ℤ◌, List, [], ◌∷◌, ◌++◌, length, Option, None, Some, refl, sym, ap, ◌∙◌, subst, arith}
use Rattle.std.proofs.lemmas.Bool.{ne_eqb}
use Rattle.gr_word.specs.declared.operations.Op.{Op}
use Rattle.gr_word.specs.declared.operations.Op.TheVariants.{Add, Remu, Shr}
use Rattle.gr_word.specs.declared.operations.Cmp.TheVariants.{Eq, Lt}
use Rattle.lt_isa.specs.declared.instructions.Instr.{Instr}
use Rattle.lt_isa.specs.declared.instructions.Instr.TheVariants.{Li, Alu}
use Rattle.lt_isa.specs.Prelude.{Parts}
use Rattle.trace_patterns.specs.Prelude.{Known, is_secret, bank_known, set_secret, set_bank, FitsClaim, Falls, shows_block, claimed_at}
use Rattle.stretches.proofs.Passed.{GoesOn, NoMore, One, goes-then, rules-li, rules-alu, rules-idb, rules-ldb, branch-falls, secret-same, secret-other}
use Rattle.gr_word.specs.declared.variables.Label.TheVariants.{Public}
use Rattle.held_registers.specs.Prelude.{IsSoundHeld}
use Rattle.held_registers.proofs.Found.{number-held}
use Rattle.block_cache_gen.specs.Prelude.{Carries, Home, Setting, label_by, operand_part, operand_register, held_number, applied_code, reducing, reducer, least_word, compared_code, reduced_code, shift_code, fixed_code, load_code, first_kept}
use Rattle.block_cache_gen.proofs.KeptRegisters.{SameBelow, same-itself, same-lower, same-set, same-then, carries-same, or_false}

-- After straight code a register and the next have a label, and the registers below are as before.
pub record Labelled (o : Parts) (f : Setting) (p : ℕ) (code : List Instr) (to : ℕ) (before : Known) (word block : Bool) : Type 0 where
  pub after : Known
  pub goes : GoesOn o p code before after
  pub same : SameBelow f to before after
  pub word_is : is_secret after to ≡ word
  pub block_is : is_secret after (to + 1) ≡ block

-- the same of one register
pub record Placed (o : Parts) (f : Setting) (p : ℕ) (code : List Instr) (to : ℕ) (before : Known) (word : Bool) : Type 0 where
  pub after : Known
  pub goes : GoesOn o p code before after
  pub same : SameBelow f to before after
  pub word_is : is_secret after to ≡ word

-- an operation on a register and a number: the result has the label of the register
pub applied-placed : (o : Parts) (f : Setting) → IsSoundHeld f.decls f.held → (op : Op) (to from own : ℕ) (z : ℤ) (p : ℕ)
    (k : Known) → Carries f k → to ≤ own → own < first_kept f → from ≢ own
    → Placed o f p (applied_code f op to from own z) to k (is_secret k from)
applied-placed o f sound op to from own z p k carries le low apart = by (held_number f z) refl
  where
    by : (q : Option ℕ) → held_number f z ≡ q
        → Placed o f p (operand_part q (Li own z ∷ []) ++ Alu op to from (operand_register q own) ∷ []) to k (is_secret k from)
    by None is =
        let sized = carries.registers in
        let one = set_secret k own false in
        let first = same-set f to k k own false le low (same-itself f to k) in
        let size : length one.secret ≡ 32 = first.sized ∙ sized in
        record {
          after = set_secret one to (is_secret one from || is_secret one own);
          goes = One p _ _ k one _ (rules-li o p k own z)
              (One (p + 1) _ _ one _ _ (rules-alu o (p + 1) one op to from own) (NoMore (p + 1 + 1) _));
          same = same-set f to k one to _ (omega arith) (omega arith) first;
          word_is = secret-same one to (is_secret one from || is_secret one own) (omega arith)
              ∙ ap (λ (b : Bool). b || is_secret one own) (secret-other k own from false apart)
              ∙ ap (λ (b : Bool). is_secret k from || b) (secret-same k own false (omega arith))
              ∙ or_false (is_secret k from);
        }
    by (Some r) is =
        let sized = carries.registers in
        let label = ap (label_by f.decls) (number-held f.held z r is) in
        record {
          after = set_secret k to (is_secret k from || is_secret k r);
          goes = One p _ _ k _ _ (rules-alu o p k op to from r) (NoMore (p + 1) _);
          same = same-set f to k k to _ (omega arith) (omega arith) (same-itself f to k);
          word_is = secret-same k to (is_secret k from || is_secret k r) (omega arith)
              ∙ ap (λ (b : Bool). is_secret k from || b) (carries.held r Public label)
              ∙ or_false (is_secret k from);
        }

-- the code of the numbers of words and blocks
module _ (o : Parts) (f : Setting) (sound : IsSoundHeld f.decls f.held) (to : ℕ) (low : to + 2 < first_kept f) where
  apart_own : to ≢ to + 1
  apart_own e = absurd (omega (arith, e))

  -- the number of the array's first word is added
  pub offset_by : (h : Home) (from : ℕ) → from ≢ to + 1 → (p : ℕ) (k : Known) → Carries f k
      → Placed o f p (applied_code f Add to from (to + 1) (pos h.word)) to k (is_secret k from)
  offset_by h from apart p k carries =
      applied-placed o f sound Add to from (to + 1) (pos h.word) p k carries (omega arith) (omega arith) apart

  -- without a comparison
  pub reduced-numbered : (h : Home) (from : ℕ) → from ≢ to + 1 → (p : ℕ) (k : Known) → Carries f k
      → Placed o f p (reduced_code f h to from) to k (is_secret k from)
  reduced-numbered h from apart p k carries =
      applied-placed o f sound (reducing h) to from (to + 1) (reducer h) p k carries (omega arith) (omega arith) apart

  -- the number of the block is found
  pub shifted-numbered : (h : Home) (p : ℕ) (k : Known) → Carries f k
      → Labelled o f p (shift_code f h to) to k (is_secret k to) (is_secret k to)
  shifted-numbered h p k carries =
      let log = pos f.profile.block_log in
      let shift = applied_code f Shr (to + 1) to (to + 1) log in
      let first = applied-placed o f sound Shr (to + 1) to (to + 1) log p k carries (omega arith) (omega arith)
      apart_own in
      let carried = carries-same f (to + 1) k first.after carries first.same in
      let second = applied-placed o f sound Add (to + 1) (to + 1) (to + 2) (pos h.block) (p + length shift) first.after
      carried (omega arith) (omega arith) (λ e. absurd (omega (arith, e))) in
      let both = same-then f (to + 1) k first.after second.after first.same second.same in
      record {
        after = second.after;
        goes = goes-then o p shift (applied_code f Add (to + 1) (to + 1) (to + 2) (pos h.block)) k first.after
            second.after first.goes second.goes;
        same = same-lower f to (to + 1) k second.after (omega arith) both;
        word_is = both.registers to (omega arith);
        block_is = second.word_is ∙ first.word_is;
      }

module _ (o : Parts) (f : Setting) (to : ℕ) (low : to + 2 < first_kept f) where
  -- the remainder of an index in a register
  module _ (k : Known) (sized : length k.secret ≡ 32) where
    reduced_known : Known
    reduced_known =
        let one = set_secret k (to + 1) false in set_secret one to (is_secret one to || is_secret one (to + 1))

    first_set : SameBelow f to k (set_secret k (to + 1) false)
    first_set = same-set f to k k (to + 1) false (omega arith) (omega arith) (same-itself f to k)

    reduced_same : SameBelow f to k reduced_known
    unfolding reduced_known
    reduced_same = same-set f to k (set_secret k (to + 1) false) to _ (omega arith) (omega arith) first_set

    reduced_word : is_secret reduced_known to ≡ is_secret k to
    unfolding reduced_known
    reduced_word =
        let one = set_secret k (to + 1) false in
        let size : length one.secret ≡ 32 = first_set.sized ∙ sized in
        secret-same one to (is_secret one to || is_secret one (to + 1)) (omega arith)
        ∙ ap (λ (b : Bool). b || is_secret one (to + 1)) (secret-other k (to + 1) to false (λ e. absurd (omega arith)))
        ∙ ap (λ (b : Bool). is_secret k to || b) (secret-same k (to + 1) false (omega arith))
        ∙ or_false (is_secret k to)

    applied_by : (op : Op) (z : ℤ) (p : ℕ)
        → GoesOn o p (Li (to + 1) z ∷ Alu op to to (to + 1) ∷ []) k reduced_known
    unfolding reduced_known
    applied_by op z p =
        let one = set_secret k (to + 1) false in
        One p _ _ k one _ (rules-li o p k (to + 1) z)
        (One (p + 1) _ _ one _ _ (rules-alu o (p + 1) one op to to (to + 1)) (NoMore (p + 1 + 1) _))

  -- A comparison of a public index with the length, and the remainder if it isn't below it.
  module _ (h : Home) (k : Known) (sized : length k.secret ≡ 32) (public : is_secret k to ≡ false) where
    -- what is known after the first instruction, after the sum, and at the branch
    abbrev with_least : Known
    with_least = set_secret k (to + 1) false

    abbrev sum_label : Bool
    sum_label = is_secret with_least (to + 1) || is_secret with_least to

    abbrev with_sum : Known
    with_sum = set_secret with_least (to + 1) sum_label

    pub compared_known : Known
    compared_known = set_secret with_sum (to + 2) false

    -- the lower registers are as before, and so is the index
    pub compared_same : SameBelow f (to + 1) k compared_known
    unfolding compared_known
    compared_same =
        same-set f (to + 1) k with_sum (to + 2) false (omega arith) (omega arith)
        (same-set f (to + 1) k with_least (to + 1) _ (omega arith) (omega arith)
        (same-set f (to + 1) k k (to + 1) false (omega arith) (omega arith) (same-itself f (to + 1) k)))

    pub compared_word : is_secret compared_known to ≡ false
    compared_word = compared_same.registers to (omega arith) ∙ public

    -- what is compared is public
    compared_sum : is_secret compared_known (to + 1) ≡ false
    unfolding compared_known
    compared_sum =
        let size : length with_least.secret ≡ 32 =
        (same-set f to k k (to + 1) false (omega arith) (omega arith) (same-itself f to k)).sized ∙ sized in
        secret-other with_sum (to + 2) (to + 1) false (λ e. absurd (omega arith))
        ∙ secret-same with_least (to + 1) sum_label (omega arith)
        ∙ ap (λ (b : Bool). b || is_secret with_least to) (secret-same k (to + 1) false (omega arith))
        ∙ secret-other k (to + 1) to false (λ e. absurd (omega arith))
        ∙ public

    compared_length : is_secret compared_known (to + 2) ≡ false
    unfolding compared_known
    compared_length =
        let first = same-set f to k k (to + 1) false (omega arith) (omega arith) (same-itself f to k) in
        let second = same-set f to k with_least (to + 1) sum_label (omega arith) (omega arith) first in
        let size : length with_sum.secret ≡ 32 = second.sized ∙ sized in
        secret-same with_sum (to + 2) false (omega arith)

    compared_sized : length compared_known.secret ≡ 32
    compared_sized = compared_same.sized ∙ sized

    -- what is known after the remainder
    pub divided_known : Known
    divided_known = reduced_known compared_known compared_sized

    pub divided_same : SameBelow f to k divided_known
    unfolding divided_known
    divided_same =
        same-then f to k compared_known (reduced_known compared_known compared_sized)
        (record {
          sized = compared_same.sized;
          count = compared_same.count;
          registers = λ r lt. compared_same.registers r (omega arith);
          above = compared_same.above;
          slots = compared_same.slots;
        })
        (reduced_same compared_known compared_sized)

    pub divided_word : is_secret divided_known to ≡ false
    unfolding divided_known
    divided_word = reduced_word compared_known compared_sized ∙ compared_word

    -- both are passed: what is known after the comparison fits the claim of the note that follows
    pub compared-by : (p : ℕ) (claimed : Known) → p + 6 < length o.code → claimed_at o (p + 6) ≡ Some claimed
        → FitsClaim compared_known claimed → GoesOn o p (compared_code h to) k divided_known
    unfolding compared_known divided_known
    compared-by p claimed inside noted fit =
        let one = set_secret k (to + 1) false in
        let two = set_secret one (to + 1) (is_secret one (to + 1) || is_secret one to) in
        let three = set_secret two (to + 2) false in
        let target : (p + 1 + 1 + 1) + 3 ≡ p + 6 = omega arith in
        One p _ _ k one _ (rules-li o p k (to + 1) least_word)
        (One (p + 1) _ _ one two _ (rules-alu o (p + 1) one Add (to + 1) (to + 1) to)
        (One (p + 1 + 1) _ _ two three _ (rules-li o (p + 1 + 1) two (to + 2) (least_word +ℤ pos h.length))
        (One (p + 1 + 1 + 1) _ _ three three _
        (branch-falls o (p + 1 + 1 + 1) three claimed Lt (to + 1) (to + 2) (pos 3) compared_sum compared_length
        (subst (λ (q : ℕ). q < length o.code) (sym target) inside)
        (subst (λ (q : ℕ). claimed_at o q ≡ Some claimed) (sym target) noted) fit)
        (applied_by three compared_sized Remu (pos h.length) (p + 1 + 1 + 1 + 1)))))

  -- both where the index is a number
  pub fixed-numbered : (block_log : ℕ) (h : Home) (z : ℤ) (p : ℕ) (k : Known) → length k.secret ≡ 32
      → Labelled o f p (fixed_code block_log h to z) to k false false
  fixed-numbered block_log h z p k sized =
      let one = set_secret k to false in
      let first = same-set f to k k to false (omega arith) (omega arith) (same-itself f to k) in
      let size : length one.secret ≡ 32 = first.sized ∙ sized in
      record {
        after = set_secret one (to + 1) false;
        goes
            = One p _ _ k one _ (rules-li o p k to _)
            (One (p + 1) _ _ one _ _ (rules-li o (p + 1) one (to + 1) _) (NoMore (p + 1 + 1) _));
        same = same-set f to k one (to + 1) false (omega arith) (omega arith) first;
        word_is = secret-other one (to + 1) to false (λ e. absurd (omega arith)) ∙ secret-same k to false (omega arith);
        block_is = secret-same one (to + 1) false (omega arith);
      }

  shows_low : (bank : ℕ) → bank < 2 → shows_block bank ≡ true
  shows_low zero lt = refl
  shows_low (suc zero) lt = refl
  shows_low (suc (suc n)) lt = absurd (omega arith)

  hides_high : (bank : ℕ) → 2 ≤ bank → shows_block bank ≡ false
  hides_high bank le =
      ap (λ (b : Bool). b || (bank == 1)) (ne_eqb bank 0 (λ e. absurd (omega arith)))
      ∙ ne_eqb bank 1 (λ e. absurd (omega arith))

  -- A load that may be skipped, of a block that is public: what is known after it fits a claim, before it too.
  module _ (h : Home) (k : Known) (sized : length k.secret ≡ 32) where
    -- what is known once the number of the slot's block was asked for
    pub asked_known : Known
    asked_known = set_secret k (to + 2) false

    -- the lower registers are as before
    pub asked_same : SameBelow f (to + 2) k asked_known
    unfolding asked_known
    asked_same = same-set f (to + 2) k k (to + 2) false (omega arith) (omega arith) (same-itself f (to + 2) k)

    -- the number of the slot's block is public
    pub asked_block : is_secret asked_known (to + 2) ≡ false
    unfolding asked_known
    asked_block = secret-same k (to + 2) false (omega arith)

    -- the load is passed, and what is known after it names the slot's bank
    pub skipped_by : (p : ℕ) (claimed : Known) → h.bank < 2 → bank_known k h.slot ≡ Some h.bank
        → is_secret k (to + 1) ≡ false → p + 3 < length o.code → claimed_at o (p + 3) ≡ Some claimed
        → FitsClaim asked_known claimed
        → GoesOn o p (load_code true h to) k (set_bank asked_known h.slot h.bank)
    unfolding asked_known
    skipped_by p claimed cached bound public inside noted fit =
        let one = set_secret k (to + 2) false in
        let target : (p + 1) + 2 ≡ p + 3 = omega arith in
        let shows = shows_low h.bank cached in
        let next : is_secret one (to + 1) ≡ false = secret-other k (to + 2) (to + 1) false
        (λ e. absurd (omega arith)) ∙ public in
        One p _ _ k one _
        (rules-idb o p k (to + 2) h.slot h.bank bound
        ∙ ap (λ (b : Bool). Falls (set_secret k (to + 2) (not b))) shows)
        (One (p + 1) _ _ one one _
        (branch-falls o (p + 1) one claimed Eq (to + 2) (to + 1) (pos 2) (secret-same k (to + 2) false (omega arith))
        next (subst (λ (q : ℕ). q < length o.code) (sym target) inside)
        (subst (λ (q : ℕ). claimed_at o q ≡ Some claimed) (sym target) noted) fit)
        (One (p + 1 + 1) _ _ one _ _
        (rules-ldb o (p + 1 + 1) one h.slot h.bank (to + 1)
        (ap (λ (b : Bool). b && is_secret one (to + 1)) shows ∙ next))
        (NoMore (p + 1 + 1 + 1) _)))

  -- a load of an oblivious bank
  pub loaded-by : (h : Home) (k : Known) (p : ℕ) → 2 ≤ h.bank
      → GoesOn o p (load_code false h to) k (set_bank k h.slot h.bank)
  loaded-by h k p high =
      One p _ _ k _ _
      (rules-ldb o p k h.slot h.bank (to + 1) (ap (λ (b : Bool). b && is_secret k (to + 1)) (hides_high h.bank high)))
      (NoMore (p + 1) _)
