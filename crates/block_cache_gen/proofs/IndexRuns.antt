-- Runs of the code that finds the word of an element and its block.
use Rattle.std.proofs.Common.{◌≡◌, ◌≢◌, ℕ, zero, suc, ◌+◌, ◌-◌, ◌/◌, ◌%◌, ◌^◌, ◌<◌, ◌≤◌, true, Bool, false, not, ◌==◌, ◌&&◌, eqb-true, ℤ, pos, ◌+ℤ◌, [], ◌∷◌, ◌++◌, length, Option, Some, None, refl, sym, ap, ◌∙◌, subst, ⊎_elim, arith}
use Rattle.std.specs.Prelude.{if◌then◌else◌}
use Rattle.std.specs.List.{range_with_len, list_any}
use Rattle.std.proofs.lemmas.Bool.{or_cases, and_parts, false≢true}
use Rattle.gr_word.specs.Prelude.{IsWord, applied, compared, unsigned_of}
use Rattle.gr_word.specs.declared.operations.Op.{Op}
use Rattle.gr_word.specs.declared.operations.Op.TheVariants.{Add, Remu, And, Shr}
use Rattle.gr_word.specs.declared.operations.Cmp.TheVariants.{Lt}
use Rattle.gr_word.proofs.SmallNumbers.{remu_small, and_small, shr_small, add_small}
use Rattle.lt_isa.specs.declared.instructions.Instr.TheVariants.{Li, Alu, Br}
use Rattle.lt_isa.specs.Prelude.{Parts, IsInRange, State, register, IsShaped}
use Rattle.lt_isa.proofs.Shapes.{IsWord-register}
use Rattle.stretches.specs.Prelude.{StandsAt, greatest_costs, RunsThrough, Sets}
use Rattle.stretches.proofs.Standing.{standing-head}
use Rattle.stretches.proofs.Coming.{comes-br_taken, comes-br_on, comes-weaker}
use Rattle.stretches.proofs.RunningThrough.{runs-append, runs-cons, runs-one, runs-weaker, sets-li, sets-alu}
use Rattle.src_tree.specs.Prelude.{Store, evaluated, Tree}
use Rattle.held_registers.proofs.Found.{number-held}
use Rattle.scalar_ranges.specs.Prelude.{is_within, AreWithin}
use Rattle.scalar_ranges.proofs.Values.{within-below}
use Rattle.block_cache_gen.specs.declared.frames.Mode.{Mode}
use Rattle.block_cache_gen.specs.declared.indexes.Numbering.{Numbering}
use Rattle.block_cache_gen.specs.declared.indexes.Numbering.TheVariants.{Compared, Reduced, Within}
use Rattle.block_cache_gen.specs.Prelude.{Home, Setting, StandsFor, numbered_register, is_power, is_masked, is_cached, is_in_place, is_within_home, index_operand, numbering, numbering_by, compares, operand, operand_unless, operand_part, operand_register, held_number, applied_code, reducing, reducer, reduced_code, least_word, compared_code, numbered_code, shift_code, fixed_code, fixed_word, first_kept}
use Rattle.block_cache_gen.proofs.Stands.{stands-like}
use Rattle.block_cache_gen.proofs.HomeFacts.{offset-none}
use Rattle.block_cache_gen.proofs.NearIndexes.{near-index, own-remainder}
use Rattle.block_cache_gen.proofs.Kept.{Keeps, keeps-set, keeps-on, keeps-lower}
use Rattle.block_cache_gen.proofs.OperandRuns.{runs-nothing}
use Rattle.held_registers.specs.declared.registers.Held.TheVariants as thing

-- The number of a word is in register `to`, and that of its block in the next one; the registers below and those
-- that no expression uses, the slots and the banks are as before.
pub record Locates (f : Setting) (to n a : ℕ) (s t : State) : Type 0 where
  pub word : register t to ≡ pos n
  pub block : register t (to + 1) ≡ pos a
  pub keeps : Keeps f to s t

-- only the word, in a register
pub record Numbers (f : Setting) (at to n : ℕ) (s t : State) : Type 0 where
  pub word : register t at ≡ pos n
  pub keeps : Keeps f to s t

abbrev pub Reduces : (f : Setting) (to n : ℕ) (s t : State) → Type 0
Reduces f to n s t = Numbers f to to n s t

-- What a numbering asks of an index and its register: unless the index is reduced, or the number of the array's first
-- word is added to it, it is in register `to`; and it is below the length of its array if it is the number of the word.
pub record FitsNumbering (n : Numbering) (h : Home) (to from : ℕ) (index : ℤ) : Type 0 where
  pub own : is_in_place h n ≡ true → from ≡ to
  pub below : n ≡ Within → unsigned_of index < h.length

-- the register that has the number of a word: of an array that isn't resident, or begins its block, it is `to`
pub numbered-loaded : (n : Numbering) (h : Home) (to from : ℕ) (index : ℤ) → FitsNumbering n h to from index
    → h.resident ≡ false → numbered_register n to from ≡ to
numbered-loaded Compared h to from index by turn = refl
numbered-loaded Reduced h to from index by turn = refl
numbered-loaded Within h to from index by turn = by.own (ap (λ (b : Bool). not (b && not (h.word == 0))) turn)

pub numbered-first : (n : Numbering) (h : Home) (to from : ℕ) (index : ℤ) → FitsNumbering n h to from index
    → (h.word == 0) ≡ true → numbered_register n to from ≡ to
numbered-first Compared h to from index by begins = refl
numbered-first Reduced h to from index by begins = refl
numbered-first Within h to from index by begins = by.own (ap not (offset-none h begins))

pub numbered-apart : (n : Numbering) (to from : ℕ) → from ≢ to + 1 → numbered_register n to from ≢ to + 1
numbered-apart Compared to from apart = λ e. absurd (omega (arith, e))
numbered-apart Reduced to from apart = λ e. absurd (omega (arith, e))
numbered-apart Within to from apart = apart

within-of : (within compares : Bool) → numbering_by within compares ≡ Within → within ≡ true
within-of true compares e = refl
within-of false true e = absurd (let g : ◌≡◌ {A = Numbering} Compared Within = e in cc)
within-of false false e = absurd (let g : ◌≡◌ {A = Numbering} Reduced Within = e in cc)

-- an index that is known to be below the length of its array is below it in each store that is within what is known
pub fits-numbering : (f : Setting) (store : Store) → AreWithin f.ranges store → (mode : Mode) (h : Home) (i : Tree)
    (to : ℕ) → FitsNumbering (numbering f mode h i) h to
    (operand_register (index_operand f (numbering f mode h i) h i) to) (evaluated f.decls store i)
fits-numbering f store within mode h i to = record {
  own = λ e. ap (λ (b : Bool). operand_register (operand_unless b (operand f i)) to) e;
  below = λ e.
      let known : is_within_home f h i ≡ true = within-of (is_within_home f h i) (compares f mode h i) e in
      let cached = (and_parts f.reduces (is_cached h && is_within f.decls f.ranges i h.length) known).1 in
      within-below f.decls f.ranges store within i h.length
      (and_parts (is_cached h) (is_within f.decls f.ranges i h.length) cached).1;
}

-- the result of an operation is in register `to`
pub record Computes (f : Setting) (to : ℕ) (value : ℤ) (s t : State) : Type 0 where
  pub word : register t to ≡ value
  pub keeps : Keeps f to s t

-- the exponent of a power of two
pub power-of : (n : ℕ) → is_power n ≡ true → (k : ℕ) × (k < 21) × (2 ^ k ≡ n)
unfolding is_power
power-of n is = found 0 21 is
  where
    found : (a m : ℕ) → list_any (λ k. 2 ^ k == n) (range_with_len a m) ≡ true → (k : ℕ) × (k < a + m) × (2 ^ k ≡ n)
    found a zero is = absurd (false≢true is)
    found a (suc m) is =
        ⊎_elim
        (λ here. (a, omega arith, eqb-true (2 ^ a) n here))
        (λ later. let rest : (k : ℕ) × (k < a + 1 + m) × (2 ^ k ≡ n) = found (a + 1) m later in
        (rest.0, omega (arith, rest.1), rest.2))
        (or_cases (2 ^ a == n) (list_any (λ k. 2 ^ k == n) (range_with_len (a + 1) m)) is)

module _ (o : Parts) (fits : IsInRange o) (f : Setting) (store : Store) where
  -- an operation on a register and a number, by the register that holds the number
  pub runs-applied : (op : Op) (to from own : ℕ) (z left value : ℤ) (s : State) → IsShaped o s → StandsFor f s store
      → register s from ≡ left → from ≢ own → to ≤ own → own < first_kept f → applied op left z ≡ value
      → StandsAt o s.place (applied_code f op to from own z)
      → RunsThrough o s (applied_code f op to from own z) [] (Computes f to value s)
  runs-applied op to from own z left value s shaped stands has other le low computes at = by (held_number f z) refl at
    where
      by : (q : Option ℕ) → held_number f z ≡ q
          → StandsAt o s.place (operand_part q (Li own z ∷ []) ++ Alu op to from (operand_register q own) ∷ [])
          → RunsThrough o s (operand_part q (Li own z ∷ []) ++ Alu op to from (operand_register q own) ∷ []) []
          (Computes f to value s)
      by None is at =
          runs-cons s (Li own z) (Alu op to from own ∷ []) [] [] (Sets s own z) _ at
          (sets-li o fits s shaped own z (omega arith))
          (λ t shape sets at'.
          let result : applied op (register t from) (register t own) ≡ value =
          ap (λ a. applied op a (register t own)) (sets.others from other ∙ has) ∙ ap (applied op left) sets.value
          ∙ computes in
          runs-weaker t (Alu op to from own ∷ []) [] [] (Sets t to value) _
          (runs-one t (Alu op to from own) [] (Sets t to value) at'
          (sets-alu o fits t shape op to from own value (omega arith) result))
          refl
          (λ u shape' sets'. record {
            word = sets'.value;
            keeps = keeps-on (keeps-set f to sets (omega arith) (omega arith))
                (keeps-set f to sets' (omega arith) (omega arith));
          }))
      by (Some r) is at =
          let number : register s r ≡ z = stands.held r (thing.Number z) (number-held f.held z r is) in
          let result : applied op (register s from) (register s r) ≡ value =
          ap (λ a. applied op a (register s r)) has ∙ ap (applied op left) number ∙ computes in
          runs-weaker s (Alu op to from r ∷ []) [] [] (Sets s to value) _
          (runs-one s (Alu op to from r) [] (Sets s to value) at
          (sets-alu o fits s shaped op to from r value (omega arith) result))
          refl
          (λ u shape' sets. record { word = sets.value; keeps = keeps-set f to sets (omega arith) (omega arith) })

  -- an index modulo the length, by an operation that reduces it
  runs-reducing : (op : Op) (by : ℤ) (h : Home) (to from : ℕ) (s : State) (index : ℤ)
      → IsShaped o s → register s from ≡ index → from ≢ to + 1 → to + 2 < first_kept f
      → applied op index by ≡ pos (unsigned_of index % h.length)
      → StandsAt o s.place (Li (to + 1) by ∷ Alu op to from (to + 1) ∷ []) → RunsThrough o s
      (Li (to + 1) by ∷ Alu op to from (to + 1) ∷ []) [] (Reduces f to (unsigned_of index % h.length) s)
  runs-reducing op by h to from s index shaped has other below reduces at =
      let word = unsigned_of index % h.length in
      runs-cons s (Li (to + 1) by) (Alu op to from (to + 1) ∷ []) [] [] (Sets s (to + 1) by) _ at
      (sets-li o fits s shaped (to + 1) by (omega arith))
      (λ t shape sets at'.
      let result : applied op (register t from) (register t (to + 1)) ≡ pos word =
      ap (λ a. applied op a (register t (to + 1))) (sets.others from other ∙ has) ∙ ap (applied op index) sets.value
      ∙ reduces in
      runs-weaker t (Alu op to from (to + 1) ∷ []) [] [] (Sets t to (pos word)) _
      (runs-one t (Alu op to from (to + 1)) [] (Sets t to (pos word)) at'
      (sets-alu o fits t shape op to from (to + 1) (pos word) (omega arith) result))
      refl
      (λ u shape' sets'. record {
        word = sets'.value;
        keeps = keeps-on (keeps-set f to sets (omega arith) (omega arith)) (keeps-set f to sets' (omega arith) (omega arith));
      }))

  masks : (h : Home) (index : ℤ) → is_power h.length ≡ true
      → applied And index (pos (h.length - 1)) ≡ pos (unsigned_of index % h.length)
  masks h index power =
      let (k, few, is) = power-of h.length power in
      ap (λ n. applied And index (pos (n - 1))) (sym is) ∙ and_small index k (omega arith)
      ∙ ap (λ n. pos (unsigned_of index % n)) is

  -- an index becomes a number of the array's words
  reduces-by : (h : Home) (index : ℤ) → 1 ≤ h.length → h.length ≤ 1048576
      → applied (reducing h) index (reducer h) ≡ pos (unsigned_of index % h.length)
  reduces-by h index least most = by (is_masked h) refl
    where
      by : (masked : Bool) → is_masked h ≡ masked
          → applied (if masked then And else Remu) index (if masked then pos (h.length - 1) else pos h.length)
          ≡ pos (unsigned_of index % h.length)
      by true is = masks h index (and_parts (is_cached h) (is_power h.length) is).1
      by false is = remu_small index h.length least (omega arith)

  pub runs-reduced : (h : Home) (to from : ℕ) (s : State) (index : ℤ) → IsShaped o s → StandsFor f s store
      → register s from ≡ index → from ≢ to + 1 → to + 2 < first_kept f
      → 1 ≤ h.length → h.length ≤ 1048576 → StandsAt o s.place (reduced_code f h to from)
      → RunsThrough o s (reduced_code f h to from) [] (Reduces f to (unsigned_of index % h.length) s)
  runs-reduced h to from s index shaped stands has other below least most at =
      let word = pos (unsigned_of index % h.length) in
      runs-weaker s (reduced_code f h to from) [] [] (Computes f to word s) (Reduces f to (unsigned_of index % h.length) s)
      (runs-applied (reducing h) to from (to + 1) (reducer h) index word s shaped stands has other (omega arith)
      (omega arith) (reduces-by h index least most) at)
      refl
      (λ t shape done. record { word = done.word; keeps = done.keeps })

  -- The branch over the remainder is taken if the index is below the length, and then the index is the number of the
  -- word.
  runs-branch : (h : Home) (to : ℕ) (s t : State) (index : ℤ) → IsShaped o t → register t to ≡ index → Keeps f to s t
      → to + 2 < first_kept f → 1 ≤ h.length → h.length ≤ 1048576
      → (near : Bool) → compared Lt (register t (to + 1)) (register t (to + 2)) ≡ near
      → (near ≡ true → pos (unsigned_of index % h.length) ≡ index)
      → StandsAt o t.place
      (Br Lt (to + 1) (to + 2) (pos 3) ∷ Li (to + 1) (pos h.length) ∷ Alu Remu to to (to + 1) ∷ [])
      → RunsThrough o t
      (Br Lt (to + 1) (to + 2) (pos 3) ∷ Li (to + 1) (pos h.length) ∷ Alu Remu to to (to + 1) ∷ []) []
      (Reduces f to (unsigned_of index % h.length) s)
  runs-branch h to s t index shaped has keeps below least most true is itself at =
      let branch = Br Lt (to + 1) (to + 2) (pos 3) in
      let rest = Li (to + 1) (pos h.length) ∷ Alu Remu to to (to + 1) ∷ [] in
      let Done : State → Type 0 = Reduces f to (unsigned_of index % h.length) s in
      comes-weaker [] (t.place + length (branch ∷ rest)) (greatest_costs o (branch ∷ rest)) Done
      (comes-br_taken o fits t shaped Lt (to + 1) (to + 2) (pos 3) Done (standing-head branch rest at) is
      (record {
        word = has ∙ sym (itself refl);
        keeps = record { below = keeps.below; above = keeps.above; slots = keeps.slots; banks = keeps.banks };
      }))
      refl refl (omega arith) (λ u shape done. done)
  runs-branch h to s t index shaped has keeps below least most false is itself at =
      let branch = Br Lt (to + 1) (to + 2) (pos 3) in
      let rest = Li (to + 1) (pos h.length) ∷ Alu Remu to to (to + 1) ∷ [] in
      let word = unsigned_of index % h.length in
      runs-cons t branch rest [] [] (Keeps f (to + 1) t) (Reduces f to word s) at
      (λ stands. comes-br_on o fits t shaped Lt (to + 1) (to + 2) (pos 3) (Keeps f (to + 1) t) stands is
      (record { below = λ r under. refl; above = λ r over. refl; slots = refl; banks = refl }))
      (λ u shape on at'.
      let same : Keeps f to t u =
      record { below = λ r under. on.below r (omega arith); above = on.above; slots = on.slots; banks = on.banks } in
      runs-weaker u rest [] [] (Reduces f to word u) (Reduces f to word s)
      (runs-reducing Remu (pos h.length) h to to u index shape (on.below to (omega arith) ∙ has)
      (λ same'. absurd (omega arith)) below
      (remu_small index h.length least (omega arith)) at')
      refl
      (λ v shape' reduces. record {
        word = reduces.word;
        keeps = keeps-on keeps (keeps-on same reduces.keeps);
      }))

  -- an index is compared with the length first
  runs-compared : (h : Home) (to : ℕ) (s : State) (index : ℤ) → IsShaped o s → register s to ≡ index
      → to + 2 < first_kept f
      → 1 ≤ h.length → h.length ≤ 1048576 → StandsAt o s.place (compared_code h to)
      → RunsThrough o s (compared_code h to) [] (Reduces f to (unsigned_of index % h.length) s)
  runs-compared h to s index shaped has below least most at =
      let bound = least_word +ℤ pos h.length in
      let sum = applied Add least_word index in
      let add = Alu Add (to + 1) (to + 1) to in
      let rest = Br Lt (to + 1) (to + 2) (pos 3) ∷ Li (to + 1) (pos h.length) ∷ Alu Remu to to (to + 1) ∷ [] in
      let word : IsWord index = subst IsWord has (IsWord-register o s shaped to) in
      let Done : State → Type 0 = Reduces f to (unsigned_of index % h.length) s in
      runs-cons s (Li (to + 1) least_word) (add ∷ Li (to + 2) bound ∷ rest) [] [] (Sets s (to + 1) least_word) Done at
      (sets-li o fits s shaped (to + 1) least_word (omega arith))
      (λ t1 shape1 sets1 at1.
      let has1 : register t1 to ≡ index = sets1.others to (λ same. absurd (omega arith)) ∙ has in
      let added : applied Add (register t1 (to + 1)) (register t1 to) ≡ sum =
      ap (λ a. applied Add a (register t1 to)) sets1.value ∙ ap (applied Add least_word) has1 in
      runs-cons t1 add (Li (to + 2) bound ∷ rest) [] [] (Sets t1 (to + 1) sum) Done at1
      (sets-alu o fits t1 shape1 Add (to + 1) (to + 1) to sum (omega arith) added)
      (λ t2 shape2 sets2 at2.
      let has2 : register t2 to ≡ index = sets2.others to (λ same. absurd (omega arith)) ∙ has1 in
      runs-cons t2 (Li (to + 2) bound) rest [] [] (Sets t2 (to + 2) bound) Done at2
      (sets-li o fits t2 shape2 (to + 2) bound (omega arith))
      (λ t3 shape3 sets3 at3.
      let has3 : register t3 to ≡ index = sets3.others to (λ same. absurd (omega arith)) ∙ has2 in
      let left : register t3 (to + 1) ≡ sum = sets3.others (to + 1) (λ same. absurd (omega arith)) ∙ sets2.value in
      let test : compared Lt (register t3 (to + 1)) (register t3 (to + 2)) ≡ compared Lt sum bound =
      ap (λ a. compared Lt a (register t3 (to + 2))) left ∙ ap (compared Lt sum) sets3.value in
      runs-branch h to s t3 index shape3 has3
      (keeps-on (keeps-set f to sets1 (omega arith) (omega arith))
      (keeps-on (keeps-set f to sets2 (omega arith) (omega arith)) (keeps-set f to sets3 (omega arith) (omega arith))))
      below least most (compared Lt sum bound) test (near-index index h.length word (omega arith)) at3)))

  -- an index that is the number of the word
  runs-within : (h : Home) (to from : ℕ) (s : State) (index : ℤ) → IsShaped o s → register s from ≡ index
      → h.length ≤ 1048576 → unsigned_of index < h.length
      → RunsThrough o s [] [] (Numbers f from to (unsigned_of index % h.length) s)
  runs-within h to from s index shaped has most less =
      let word : IsWord index = subst IsWord has (IsWord-register o s shaped from) in
      runs-nothing s (Numbers f from to (unsigned_of index % h.length) s) shaped
      (record {
        word = has ∙ sym (own-remainder index h.length word (omega arith) less);
        keeps = record { below = λ r under. refl; above = λ r over. refl; slots = refl; banks = refl };
      })

  -- by each numbering
  pub runs-numbered : (n : Numbering) (h : Home) (to from : ℕ) (s : State) (index : ℤ) → IsShaped o s
      → StandsFor f s store → register s from ≡ index → from ≢ to + 1 → FitsNumbering n h to from index
      → to + 2 < first_kept f → 1 ≤ h.length → h.length ≤ 1048576 → StandsAt o s.place (numbered_code n f h to from)
      → RunsThrough o s (numbered_code n f h to from) []
      (Numbers f (numbered_register n to from) to (unsigned_of index % h.length) s)
  runs-numbered Compared h to from s index shaped stands has other by below least most at =
      runs-compared h to s index shaped (ap (register s) (sym (by.own refl)) ∙ has) below least most at
  runs-numbered Reduced h to from s index shaped stands has other by below least most at =
      runs-reduced h to from s index shaped stands has other below least most at
  runs-numbered Within h to from s index shaped stands has other by below least most at =
      runs-within h to from s index shaped has most (by.below refl)

  -- the block, from the word
  pub runs-block : (h : Home) (to : ℕ) (s : State) (word : ℕ) → IsShaped o s → StandsFor f s store
      → register s to ≡ pos word → to + 2 < first_kept f → f.profile.block_log < 64
      → h.block + word / 2 ^ f.profile.block_log < 2 ^ 63 → StandsAt o s.place (shift_code f h to)
      → RunsThrough o s (shift_code f h to) [] (Locates f to word (h.block + word / 2 ^ f.profile.block_log) s)
  runs-block h to s word shaped stands has below log small at =
      let part = word / 2 ^ f.profile.block_log in
      let base = pos f.profile.block_log in
      let shift = applied_code f Shr (to + 1) to (to + 1) base in
      let sum = applied_code f Add (to + 1) (to + 1) (to + 2) (pos h.block) in
      let Done : State → Type 0 = Locates f to word (h.block + part) s in
      let added : applied Add (pos part) (pos h.block) ≡ pos (h.block + part) =
      add_small part h.block (omega arith) ∙ ap pos (omega arith) in
      runs-append s shift sum [] [] (Computes f (to + 1) (pos part) s) Done at
      (runs-applied Shr (to + 1) to (to + 1) base (pos word) (pos part) s shaped stands has
      (λ same. absurd (omega (arith, same))) (omega arith) (omega arith)
      (shr_small word f.profile.block_log log))
      (λ t shape first at'.
      let keeps = first.keeps in
      let stands' = stands-like f s t store keeps.slots keeps.banks keeps.above stands in
      runs-weaker t sum [] [] (Computes f (to + 1) (pos (h.block + part)) t) Done
      (runs-applied Add (to + 1) (to + 1) (to + 2) (pos h.block) (pos part) (pos (h.block + part)) t shape stands'
      first.word (λ same. absurd (omega (arith, same))) (omega arith) (omega arith) added at')
      refl
      (λ u shape' second. record {
        word = second.keeps.below to (omega arith) ∙ keeps.below to (omega arith) ∙ has;
        block = second.word;
        keeps = keeps-lower to (to + 1) (omega arith) (keeps-on keeps second.keeps);
      }))

  -- both, where the index is a number
  pub runs-fixed : (block_log : ℕ) (h : Home) (to : ℕ) (z : ℤ) (s : State) → IsShaped o s → to + 2 < first_kept f
      → StandsAt o s.place (fixed_code block_log h to z) → RunsThrough o s (fixed_code block_log h to z) []
      (Locates f to (fixed_word h z) (h.block + fixed_word h z / 2 ^ block_log) s)
  runs-fixed block_log h to z s shaped below at =
      let word = fixed_word h z in
      let block = h.block + fixed_word h z / 2 ^ block_log in
      runs-cons s (Li to (pos word)) (Li (to + 1) (pos block) ∷ []) [] [] (Sets s to (pos word)) _ at
      (sets-li o fits s shaped to (pos word) (omega arith))
      (λ t shape sets at'.
      runs-weaker t (Li (to + 1) (pos block) ∷ []) [] [] (Sets t (to + 1) (pos block)) _
      (runs-one t (Li (to + 1) (pos block)) [] (Sets t (to + 1) (pos block)) at'
      (sets-li o fits t shape (to + 1) (pos block) (omega arith)))
      refl
      (λ u shape' sets'. record {
        word = sets'.others to (λ same. absurd (omega arith)) ∙ sets.value;
        block = sets'.value;
        keeps = keeps-on (keeps-set f to sets (omega arith) (omega arith)) (keeps-set f to sets' (omega arith) (omega arith));
      }))
