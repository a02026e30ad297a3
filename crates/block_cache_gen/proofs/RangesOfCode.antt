-- The code of expressions, guards and assignments is in its ranges, in all modes.
use Rattle.std.proofs.Common.{◌≡◌, ℕ, zero, suc, ◌+◌, ◌-◌, ◌*◌, ◌/◌, ◌^◌, ◌<◌, ◌≤◌, Bool, true, false, ℤ, pos, negsuc, ◌+ℤ◌, List, [], ◌∷◌, ◌++◌, length, get_or, Option, Some, None, refl, sym, ap, ◌∙◌, subst, ⊎_elim, arith, ◌==◌}
use Rattle.std.specs.Prelude.{All, if◌then◌else◌, is_some, FitsSigned}
use Rattle.std.specs.Int.{w32, w64}
use Rattle.std.specs.List.{slice_get}
use Rattle.std.proofs.lemmas.Bool.{cases_lt}
use Rattle.std.proofs.lemmas.List.{get_or_default, get_or_past}
use Rattle.std.proofs.lemmas.Int.{ints, fits_signed_from_abs}
use Rattle.std.proofs.lemmas.List.Elements.{All-nil, All-cons, All-head, All-tail}
use Rattle.std.proofs.Math.Nat.{mod-lt, div-le_self, mul-le-mul_right}
use Rattle.std.proofs.Math.Pow.{pow_mono}
use Rattle.gr_base.specs.Prelude.{Within}
use Rattle.gr_word.specs.Prelude.{IsWord, unsigned_of}
use Rattle.gr_word.specs.declared.variables.Label.{Label}
use Rattle.gr_word.specs.declared.variables.Shape.{Shape}
use Rattle.gr_word.specs.declared.operations.Op.{Op}
use Rattle.gr_word.specs.declared.operations.Op.TheVariants.{Add, Remu, Shr}
use Rattle.gr_word.specs.declared.operations.Cmp.TheVariants.{Eq, Lt}
use Rattle.lt_isa.specs.declared.instructions.Instr.{Instr}
use Rattle.lt_isa.specs.declared.instructions.Instr.TheVariants.{Li, Alu, Ldb, Stb, Idb, Ldw, Stw, Br}
use Rattle.lt_isa.specs.Prelude.{InstrFits}
use Rattle.src_tree.specs.Prelude.{context_of, height_of, label_of, max_length, Tree, Number, Variable, Element, Operation, Test, SetVariable, SetElement, TypedTree, TypedTest}
use Rattle.block_cache_gen.specs.declared.frames.Mode.{Mode}
use Rattle.block_cache_gen.specs.declared.frames.Mode.TheVariants.{Public, Real, Mirrored}
use Rattle.block_cache_gen.specs.Prelude.{Pin, pin_at, Home, Setting, home_of, register_for, words_a_block, further_slots, slots_of_home, slot_of_word, HasWords, is_masked, held_number, applied_code, reducing, reducer, is_in_place, numbering, least_word, numbered_code, numbered_register, fixed_index, fixed_word, shift_code, fixed_code, located_code, load_code, skips, access_by, placed_code, offset_code, stored_code, access_code, index_operand, indexed_code, operand, operand_part, operand_register, left_operand, expr_code, guard_code, store_code, set_code, operation_code, steps_at, copy_code, scalar_code, write_code, read_by, read_code, stored_among, stored_by, effect_of, straight, scalar_set, straight_code, target, first_kept, room_of}
use Rattle.held_registers.specs.Prelude.{secret_zero, public_zero, IsSoundHeld}
use Rattle.block_cache_gen.specs.declared.indexes.Numbering.{Numbering}
use Rattle.strength_reduction.specs.Prelude.{Step, Constant, Compute, StepFits, numbered, code_of}
use Rattle.strength_reduction.proofs.Registers.{numbered-low}
use Rattle.word_selection.specs.Prelude.{IsOutside, selected_read, selected_write}
use Rattle.word_selection.proofs.StepRanges.{read-in_range, write-in_range}
use Rattle.src_tree.proofs.TreeHeights.{height-some}
use Rattle.held_registers.proofs.Found.{number-held}
use Rattle.block_cache_gen.proofs.HeldScalars.{held-inside}
use Rattle.block_cache_gen.proofs.HeldOperands.{operand-inside, operand-low, operand-outside, operand-unless}
use Rattle.block_cache_gen.proofs.StepsAt.{steps-of}
use Rattle.block_cache_gen.proofs.WordSlots.{few-further, got}
use Rattle.block_cache_gen.proofs.StraightCodes.{straight-by}
use Rattle.gr_word.specs.declared.variables.Label.TheVariants as label
use Rattle.block_cache_gen.specs.declared.indexes.Numbering.TheVariants as numbers
use Rattle.held_registers.specs.declared.registers.Held.TheVariants as thing

-- a home in its ranges, if there are this many banks
pub record HomeFits (banks : ℕ) (h : Home) : Type 0 where
  pub bank : h.bank < banks
  pub block : h.block ≤ 65536
  pub word : h.word < 512
  pub more : (j : ℕ) → j < length (further_slots h) → get_or (further_slots h) j 0 < 8
  pub length : Within 1 max_length h.length
  pub slot : h.slot < 8

-- so is the home of each variable, a block has 512 words at most, and what the registers hold is sound
pub record HomesFit (banks : ℕ) (f : Setting) : Type 0 where
  pub block_log : f.profile.block_log ≤ 9
  pub held : IsSoundHeld f.decls f.held
  pub pins : (slot : ℕ) (p : Pin) → pin_at f slot ≡ Some p → p.bank < 2
  pub homes : (x : List ℕ) (label : Label) (shape : Shape) → context_of f.decls x ≡ Some (label, shape)
      → HomeFits banks (home_of f x)

-- instructions in their ranges, one by one
pub data CodeFits (banks : ℕ) : List Instr → Type 0 where
  NoCode : CodeFits banks []
  Before : (i : Instr) (code : List Instr) → InstrFits banks i → CodeFits banks code → CodeFits banks (i ∷ code)

-- each instruction of code in its ranges is in its range
pub code-all : (banks : ℕ) (code : List Instr) → CodeFits banks code → All (InstrFits banks) code
code-all banks [] NoCode = All-nil (InstrFits banks)
code-all banks (i ∷ code) (Before j more fit rest) = All-cons (InstrFits banks) i code fit (code-all banks code rest)

-- two pieces in their ranges
pub code-both : (banks : ℕ) (xs ys : List Instr) → CodeFits banks xs → CodeFits banks ys → CodeFits banks (xs ++ ys)
code-both banks [] ys NoCode second = second
code-both banks (i ∷ xs) ys (Before j more fit rest) second =
    Before i (xs ++ ys) fit (code-both banks xs ys rest second)

-- instructions each of which is in its range
all-code : (banks : ℕ) (code : List Instr) → All (InstrFits banks) code → CodeFits banks code
all-code banks [] each = NoCode
all-code banks (i ∷ code) each =
    Before i code (All-head (InstrFits banks) i code each)
    (all-code banks code (All-tail (InstrFits banks) i code each))

-- the slots of a home's words
slot-low : (slot : ℕ) (more : List ℕ) (m : ℕ) → slot < 8 → ((j : ℕ) → j < length more → get_or more j 0 < 8)
    → get_or (slot ∷ more) m slot < 8
slot-low slot more zero low each = low
slot-low slot more (suc m) low each =
    ⊎_elim (λ within. subst (λ k. k < 8) (sym (get_or_default more m slot 0 within)) (each m within))
    (λ past. subst (λ k. k < 8) (sym (get_or_past more m slot past)) low)
    (cases_lt m (length more))

word-slot : (banks : ℕ) (f : Setting) (h : Home) → HomeFits banks h → (n : ℕ) → slot_of_word f h n < 8
word-slot banks f h home n = slot-low h.slot (further_slots h) (n / words_a_block f) home.slot home.more

slots-low : (banks : ℕ) (h : Home) → HomeFits banks h → (i k : ℕ) → slice_get (slots_of_home h) i ≡ Some k → k < 8
slots-low banks h home i k is =
    let at = got (slots_of_home h) i k h.slot is in
    subst (λ m. m < 8) at.1 (slot-low h.slot (further_slots h) i home.slot home.more)

-- the words of a few blocks
few-words : (f : Setting) (n : ℕ) → f.profile.block_log ≤ 9 → n ≤ 5 → n * words_a_block f < 2 ^ 63
few-words f n low few =
    let most : n * words_a_block f ≤ 5 * words_a_block f = mul-le-mul_right {m = n} {n = 5} (words_a_block f) few in
    let size : words_a_block f ≤ 512 = pow_mono {i = f.profile.block_log} {j = 9} low in
    omega (arith, most, size)

-- a small number is a word
pub small-word : (n : ℕ) → n < 2 ^ 63 → IsWord (pos n)
small-word n low = fits_signed_from_abs w64 (pos n) low

small_offset : FitsSigned w32 (pos 2)
small_offset = fits_signed_from_abs w32 (pos 2) (omega arith)

small_offset_three : FitsSigned w32 (pos 3)
small_offset_three = fits_signed_from_abs w32 (pos 3) (omega arith)

module _ (banks : ℕ) where
  none : CodeFits banks []
  none = NoCode

  li : (rd : ℕ) (value : ℤ) (code : List Instr) → rd < 32 → IsWord value → CodeFits banks code
      → CodeFits banks (Li rd value ∷ code)
  li rd value code low word rest = Before (Li rd value) code (low, word) rest

  alu : (op : Op) (rd ra rb : ℕ) (code : List Instr) → rd < 32 → ra < 32 → rb < 32 → CodeFits banks code
      → CodeFits banks (Alu op rd ra rb ∷ code)
  alu op rd ra rb code low first second rest =
      Before (Alu op rd ra rb) code (low, first, second) rest

  ldb : (slot bank r : ℕ) (code : List Instr) → slot < 8 → bank < banks → r < 32 → CodeFits banks code
      → CodeFits banks (Ldb slot bank r ∷ code)
  ldb slot bank r code low there register rest =
      Before (Ldb slot bank r) code (low, there, register) rest

  stb : (slot : ℕ) (code : List Instr) → slot < 8 → CodeFits banks code → CodeFits banks (Stb slot ∷ code)
  stb slot code low rest = Before (Stb slot) code low rest

  ldw : (rd slot ro : ℕ) (code : List Instr) → rd < 32 → slot < 8 → ro < 32 → CodeFits banks code
      → CodeFits banks (Ldw rd slot ro ∷ code)
  ldw rd slot ro code register low offset rest =
      Before (Ldw rd slot ro) code (register, low, offset) rest

  stw : (rs slot ro : ℕ) (code : List Instr) → rs < 32 → slot < 8 → ro < 32 → CodeFits banks code
      → CodeFits banks (Stw rs slot ro ∷ code)
  stw rs slot ro code register low offset rest =
      Before (Stw rs slot ro) code (register, low, offset) rest

  both : (xs ys : List Instr) → CodeFits banks xs → CodeFits banks ys → CodeFits banks (xs ++ ys)
  both xs ys first second = code-both banks xs ys first second

  module _ (f : Setting) (homes : HomesFit banks f) (h : Home) (home : HomeFits banks h) (to : ℕ)
      (low : to + 2 < first_kept f) where
    applied_by : (op : Op) (rd from own : ℕ) (z : ℤ) → rd < 32 → from < 32 → own < 32 → IsWord z
        → CodeFits banks (applied_code f op rd from own z)
    applied_by op rd from own z inside source place word = by (held_number f z) refl
      where
        by : (q : Option ℕ) → held_number f z ≡ q
            → CodeFits banks (operand_part q (Li own z ∷ []) ++ Alu op rd from (operand_register q own) ∷ [])
        by None is = li own z _ place word (alu op rd from own [] inside source place none)
        by (Some r) is =
            let there = held-inside homes.held r (thing.Number z) (number-held f.held z r is) in
            alu op rd from r [] inside source there.0 none

    reducer-word : IsWord (reducer h)
    reducer-word = by (is_masked h)
      where
        by : (masked : Bool) → IsWord (if masked then pos (h.length - 1) else pos h.length)
        by true = let most = home.length.1 in small-word (h.length - 1) (omega arith)
        by false = let most = home.length.1 in small-word h.length (omega arith)

    block_by : CodeFits banks (shift_code f h to)
    block_by =
        let block = home.block in
        let few = homes.block_log in
        let log = pos f.profile.block_log in
        both (applied_code f Shr (to + 1) to (to + 1) log) (applied_code f Add (to + 1) (to + 1) (to + 2) (pos h.block))
        (applied_by Shr (to + 1) to (to + 1) log (omega arith) (omega arith) (omega arith)
        (small-word f.profile.block_log (omega arith)))
        (applied_by Add (to + 1) (to + 1) (to + 2) (pos h.block) (omega arith) (omega arith) (omega arith)
        (small-word h.block (omega arith)))

    fixed_by : (block_log : ℕ) (z : ℤ) → CodeFits banks (fixed_code block_log h to z)
    fixed_by block_log z =
        let block = home.block in
        let least = home.length.0 in
        let most = home.length.1 in
        let w = fixed_word h z in
        let below : w < h.length = mod-lt (unsigned_of z) (omega arith) in
        let share : w / 2 ^ block_log ≤ w = div-le_self w (2 ^ block_log) in
        li to (pos w) _ (omega arith) (small-word w (omega arith))
        (li (to + 1) (pos (h.block + w / 2 ^ block_log)) [] (omega arith)
        (small-word (h.block + w / 2 ^ block_log) (omega arith)) none)

    load_by : (skip : Bool) → CodeFits banks (load_code skip h to)
    load_by true =
        let rest = ldb h.slot h.bank (to + 1) [] home.slot home.bank (omega arith) none in
        Before (Idb (to + 2) h.slot) _ (omega arith, home.slot)
        (Before (Br Eq (to + 2) (to + 1) (pos 2)) _ (omega arith, omega arith, small_offset) rest)
    load_by false = ldb h.slot h.bank (to + 1) [] home.slot home.bank (omega arith) none

    -- the length 2^63 less is a word
    bound-word : (n : ℕ) → n ≤ 1048576 → IsWord (least_word +ℤ pos n)
    bound-word n most =
        let is : least_word +ℤ pos n ≡ negsuc (9223372036854775807 - n) = omega (arith, ints) in
        subst IsWord (sym is) (record { sfits = omega arith })

    numbered_by : (near : Numbering) (from : ℕ) → from < 32 → CodeFits banks (numbered_code near f h to from)
    numbered_by numbers.Compared from inside =
        let most = home.length.1 in
        li (to + 1) least_word _ (omega arith) (record { sfits = omega arith })
        (alu Add (to + 1) (to + 1) to _ (omega arith) (omega arith) (omega arith)
        (li (to + 2) (least_word +ℤ pos h.length) _ (omega arith) (bound-word h.length most)
        (Before (Br Lt (to + 1) (to + 2) (pos 3)) _ (omega arith, omega arith, small_offset_three)
        (li (to + 1) (pos h.length) _ (omega arith) (small-word h.length (omega arith))
        (alu Remu to to (to + 1) [] (omega arith) (omega arith) (omega arith) none)))))
    numbered_by numbers.Reduced from inside =
        applied_by (reducing h) to from (to + 1) (reducer h) (omega arith) inside (omega arith) reducer-word
    numbered_by numbers.Within from inside = none

    located_by : (near : Numbering) (from : ℕ) (fixed : Option ℤ) (index : List Instr) → from < 32
        → CodeFits banks index → CodeFits banks (located_code near f h to from fixed index)
    located_by near from (Some z) index inside fit = fixed_by f.profile.block_log z
    located_by near from None index inside fit =
        both index (numbered_code near f h to from ++ shift_code f h to) fit
        (both (numbered_code near f h to from) (shift_code f h to) (numbered_by near from inside) block_by)

    numbered-inside : (near : Numbering) (from : ℕ) → from < 32 → numbered_register near to from < 32
    numbered-inside numbers.Compared from inside = omega arith
    numbered-inside numbers.Reduced from inside = omega arith
    numbered-inside numbers.Within from inside = inside

    offset_by : (from : ℕ) → from < 32 → (first : Bool)
        → CodeFits banks (if first then [] else applied_code f Add to from (to + 1) (pos h.word))
    offset_by from inside true = none
    offset_by from inside false =
        let small = home.word in
        applied_by Add to from (to + 1) (pos h.word) (omega arith) inside (omega arith)
        (small-word h.word (omega arith))

    placed_by : (near : Numbering) (from : ℕ) (fixed : Option ℤ) (index : List Instr) → from < 32 → CodeFits banks index
        → CodeFits banks (placed_code near f h to from fixed index)
    placed_by near from (Some z) index inside fit =
        let small = home.word in
        let least = home.length.0 in
        let most = home.length.1 in
        let below : fixed_word h z < h.length = mod-lt (unsigned_of z) (omega arith) in
        li to (pos (h.word + fixed_word h z)) [] (omega arith) (small-word (h.word + fixed_word h z) (omega arith)) none
    placed_by near from None index inside fit =
        let at = numbered_register near to from in
        both index (numbered_code near f h to from ++ offset_code f h to at) fit
        (both (numbered_code near f h to from) (offset_code f h to at) (numbered_by near from inside)
        (offset_by at (numbered-inside near from inside) (h.word == 0)))

    pub access-fits : (near : Numbering) (mode : Mode) (from : ℕ) (fixed : Option ℤ) (index : List Instr) → from < 32
        → CodeFits banks index → CodeFits banks (access_code near f mode h to from fixed index)
    access-fits near mode from fixed index inside fit = by h.resident
      where
        by : (b : Bool) → CodeFits banks (access_by b near f mode h to from fixed index)
        by true = placed_by near from fixed index inside fit
        by false =
            both (located_code near f h to from fixed index) (load_code (skips mode h) h to)
            (located_by near from fixed index inside fit) (load_by (skips mode h))

  -- steps
  steps-fit : (f : Setting) (to : ℕ) (steps : List Step) → to + 2 < first_kept f → All StepFits steps
      → CodeFits banks (code_of to steps)
  steps-fit f to [] room fit = none
  steps-fit f to (Constant rd value ∷ steps) room fit =
      let first = All-head StepFits (Constant rd value) steps fit in
      li (numbered to rd) value (code_of to steps) (numbered-low to 2 rd first.0 (omega arith)) first.1
      (steps-fit f to steps room (All-tail StepFits (Constant rd value) steps fit))
  steps-fit f to (Compute op rd left right ∷ steps) room fit =
      let first = All-head StepFits (Compute op rd left right) steps fit in
      alu op (numbered to rd) (numbered to left) (numbered to right) (code_of to steps)
      (numbered-low to 2 rd first.0 (omega arith)) (numbered-low to 2 left first.1 (omega arith)) (numbered-low to 2 right first.2 (omega arith))
      (steps-fit f to steps room (All-tail StepFits (Compute op rd left right) steps fit))

  operation-fits : (f : Setting) (op : Op) (to ra rb : ℕ) (b : Tree) (right : List Instr) → to + 2 < first_kept f
      → ra < 32 → rb < 32 → CodeFits banks right → CodeFits banks (operation_code op to ra rb (steps_at f op b) right)
  operation-fits f op to ra rb b right room first second fit = by (steps_at f op b) refl
    where
      by : (found : Option (List Step)) → steps_at f op b ≡ found
          → CodeFits banks (operation_code op to ra rb found right)
      by None e = both right _ fit (alu op to ra rb [] (omega arith) first second none)
      by (Some steps) e =
          let known = steps-of f op b steps e in
          let replaces = known.replaces in
          steps-fit f to steps room replaces.fits

  -- a copy
  copy-fits : (l : Label) (to from : ℕ) → to < 32 → from < 32 → CodeFits banks (copy_code l to from)
  copy-fits label.Public to from low register = alu Add to from public_zero [] low register (omega arith) none
  copy-fits label.Secret to from low register = alu Add to from secret_zero [] low register (omega arith) none

  -- a scalar
  scalar-fits : (h : Home) → HomeFits banks h → (to : ℕ) → to < 32 → (found : Option ℕ)
      → ((r : ℕ) → found ≡ Some r → r < 32) → CodeFits banks (scalar_code found h to)
  scalar-fits h home to low (Some r) register = copy-fits label.Public to r low (register r refl)
  scalar-fits h home to low None register =
      let small = home.word in
      li to (pos h.word) _ low (small-word h.word (omega arith)) (ldw to h.slot to [] low home.slot low none)

  -- the read of an element's word
  read-fits : (f : Setting) (h : Home) → HomeFits banks h → f.profile.block_log ≤ 9 → (to : ℕ) → to + 3 < 32
      → (fixed : Option ℤ) → CodeFits banks (read_code f h fixed to)
  read-fits f h home log to room fixed = by h.resident fixed
    where
      by : (b : Bool) (fixed : Option ℤ) → CodeFits banks (read_by b f h fixed to)
      by false fixed = ldw to h.slot to [] (omega arith) home.slot (omega arith) none
      by true (Some z) =
          let n = h.word + fixed_word h z in
          ldw to (slot_of_word f h n) to [] (omega arith) (word-slot banks f h home n) (omega arith) none
      by true None =
          all-code banks (selected_read (words_a_block f) (slots_of_home h) to)
          (read-in_range banks (words_a_block f) (slots_of_home h) to room
          (few-words f (length (slots_of_home h)) log (omega (arith, few-further h)))
          (slots-low banks h home))

  -- an operand
  operand-fits : (q : Option ℕ) (code : List Instr) → CodeFits banks code → CodeFits banks (operand_part q code)
  operand-fits None code fit = fit
  operand-fits (Some r) code fit = none

  -- an expression
  pub expression-fits : (f : Setting) (mode : Mode) → HomesFit banks f → (to : ℕ) (e : Tree)
      → TypedTree (context_of f.decls) e → HasWords e → to + height_of e ≤ room_of f
      → CodeFits banks (expr_code f mode to e)
  expression-fits f mode homes to (Number z) typed words high = li to z [] (omega arith) words none
  expression-fits f mode homes to (Variable x) typed words high =
      scalar-fits (home_of f x) (homes.homes x typed.0 _ typed.1) to (omega arith) (register_for f x)
      (operand-low f homes.held (Variable x))
  expression-fits f mode homes to (Element x i) typed words high =
      let home = homes.homes x typed.0.0 _ typed.0.1 in
      let near = numbering f mode (home_of f x) i in
      let q = index_operand f near (home_of f x) i in
      both (indexed_code f near mode (home_of f x) to i (expr_code f mode to i)) _
      (access-fits f homes (home_of f x) home to (omega (arith, height-some i)) near mode
      (operand_register q to) (fixed_index (home_of f x) i) (operand_part q (expr_code f mode to i))
      (operand-inside f homes.held i q (operand-unless f i (is_in_place (home_of f x) near)) to (omega arith))
      (operand-fits q (expr_code f mode to i) (expression-fits f mode homes to i typed.1.0 words (omega arith))))
      (read-fits f (home_of f x) home homes.block_log to (omega (arith, height-some i)) (fixed_index (home_of f x) i))
  expression-fits f mode homes to (Operation op a b) typed words high =
      let q = left_operand f op a b in
      let p = operand f b in
      both (operand_part q (expr_code f mode to a)) _
      (operand-fits q (expr_code f mode to a) (expression-fits f mode homes to a typed.0 words.0 (omega arith)))
      (operation-fits f op to (operand_register q to) (operand_register p (to + 1)) b
      (operand_part p (expr_code f mode (to + 1) b)) (omega (arith, height-some b))
      (operand-inside f homes.held a q (operand-unless f a (is_some (steps_at f op b))) to (omega arith))
      (operand-inside f homes.held b p (λ r held. held) (to + 1) (omega (arith, height-some b)))
      (operand-fits p (expr_code f mode (to + 1) b)
      (expression-fits f mode homes (to + 1) b typed.1 words.1 (omega arith))))

  -- a guard
  pub guard-fits : (f : Setting) (mode : Mode) → HomesFit banks f → (to : ℕ) (t : Test)
      → TypedTest (context_of f.decls) t → HasWords t.left → HasWords t.right → to + height_of t.left ≤ room_of f
      → to + 1 + height_of t.right ≤ room_of f → CodeFits banks (guard_code f mode to t)
  guard-fits f mode homes to t typed left right high higher =
      both (expr_code f mode to t.left) (expr_code f mode (to + 1) t.right)
      (expression-fits f mode homes to t.left typed.0 left high)
      (expression-fits f mode homes (to + 1) t.right typed.1 right higher)

  store_by : (once : Bool) (mode : Mode) (slot value : ℕ) → slot < 8 → value < 32
      → CodeFits banks (store_code once mode slot value)
  store_by once Public slot value low inside = stw value slot 1 [] inside low (omega arith) none
  store_by false Real slot value low inside =
      ldw 2 slot 1 _ (omega arith) low (omega arith) (stw value slot 1 [] inside low (omega arith) none)
  store_by true Real slot value low inside = stw value slot 1 [] inside low (omega arith) none
  store_by false Mirrored slot value low inside =
      ldw 2 slot 1 _ (omega arith) low (omega arith) (stw 2 slot 1 [] (omega arith) low (omega arith) none)
  store_by true Mirrored slot value low inside = ldw 0 slot 1 [] (omega arith) low (omega arith) none

  element-fits : (f : Setting) (mode : Mode) (h : Home) → HomeFits banks h → f.profile.block_log ≤ 9 → (value : ℕ)
      → value < 32 → IsOutside 1 4 value → (fixed : Option ℤ) → CodeFits banks (stored_code f mode h fixed value)
  element-fits f mode h home log value inside apart fixed = by h.resident fixed
    where
      among : (more : List ℕ) → further_slots h ≡ more → CodeFits banks (stored_among f mode h.slot more value)
      among [] is = store_by f.reduces mode h.slot value home.slot inside
      among (next ∷ rest) is =
          let count : length (next ∷ rest) ≡ length (further_slots h) = ap length (sym is) in
          all-code banks (selected_write (effect_of mode) (words_a_block f) value (h.slot ∷ next ∷ rest) 1)
          (write-in_range banks (words_a_block f) value (effect_of mode) (h.slot ∷ next ∷ rest) 1 (omega arith) inside apart
          (few-words f (length (h.slot ∷ next ∷ rest)) log (omega (arith, count, few-further h)))
          (λ i k at. slots-low banks h home i k (ap (λ more. slice_get (h.slot ∷ more) i) is ∙ at)))

      by : (b : Bool) (fixed : Option ℤ) → CodeFits banks (stored_by b f mode h fixed value)
      by false fixed =
          both (store_code f.reduces mode h.slot value) (Stb h.slot ∷ []) (store_by f.reduces mode h.slot value home.slot inside)
          (stb h.slot [] home.slot none)
      by true (Some z) =
          let n = h.word + fixed_word h z in
          store_by f.reduces mode (slot_of_word f h n) value (word-slot banks f h home n) inside
      by true None = among (further_slots h) refl

  -- the register of an instruction whose result is for another one
  target-fits : (mode : Mode) (r : ℕ) → r < 32 → target mode r < 32
  target-fits Public r low = low
  target-fits Real r low = low
  target-fits Mirrored r low = omega arith

  write-fits : (once : Bool) (h : Home) → HomeFits banks h → (l : Label) (mode : Mode) (found : Option ℕ)
      → ((r : ℕ) → found ≡ Some r → r < 32) → (value : ℕ) → value < 32
      → CodeFits banks (write_code once found l mode h value)
  write-fits once h home l mode (Some r) register value inside =
      copy-fits l (target mode r) value (target-fits mode r (register r refl)) inside
  write-fits once h home l mode None register value inside =
      let small = home.word in
      li 1 (pos h.word) _ (omega arith) (small-word h.word (omega arith)) (store_by once mode h.slot value home.slot inside)

  -- an operation with its result in any register
  straight-fits : (f : Setting) (mode : Mode) → HomesFit banks f → (to : ℕ) → to < 32 → (op : Op) (a b : Tree)
      → TypedTree (context_of f.decls) (Operation op a b) → HasWords (Operation op a b)
      → height_of (Operation op a b) ≤ room_of f → CodeFits banks (straight_code f mode to (Operation op a b))
  straight-fits f mode homes to inside op a b typed words low =
      let q = operand f a in
      let p = operand f b in
      both (operand_part q (expr_code f mode 0 a)) _
      (operand-fits q (expr_code f mode 0 a) (expression-fits f mode homes 0 a typed.0 words.0 (omega (arith, low))))
      (both (operand_part p (expr_code f mode 1 b)) _
      (operand-fits p (expr_code f mode 1 b) (expression-fits f mode homes 1 b typed.1 words.1 (omega (arith, low))))
      (alu op to (operand_register q 0) (operand_register p 1) [] inside
      (operand-inside f homes.held a q (λ r held. held) 0 (omega arith))
      (operand-inside f homes.held b p (λ r held. held) 1 (omega arith)) none))

  -- assignments
  pub set_variable-fits : (f : Setting) (mode : Mode) → HomesFit banks f → (x : List ℕ) (label : Label) (shape : Shape)
      (e : Tree)
      → context_of f.decls x ≡ Some (label, shape) → TypedTree (context_of f.decls) e → HasWords e
      → height_of e ≤ room_of f
      → CodeFits banks (set_code f mode (SetVariable x e))
  set_variable-fits f mode homes x label shape e declared typed words low = by (straight f x e) refl
    where
      by : (found : Option ℕ) → straight f x e ≡ found → CodeFits banks (scalar_set found f mode x e)
      by (Some r) is =
          straight-by f x e r is
          (λ t. TypedTree (context_of f.decls) t → HasWords t → height_of t ≤ room_of f
          → CodeFits banks (straight_code f mode (target mode r) t))
          (λ op a b known typed_value words_value low_value.
          straight-fits f mode homes (target mode r)
          (target-fits mode r (operand-low f homes.held (Variable x) r known.held)) op a b typed_value words_value low_value)
          typed words low
      by None is =
          let q = operand f e in
          both (operand_part q (expr_code f mode 0 e)) _
          (operand-fits q (expr_code f mode 0 e) (expression-fits f mode homes 0 e typed words (omega arith)))
          (write-fits f.reduces (home_of f x) (homes.homes x label shape declared) (label_of (context_of f.decls) (Variable x)) mode
          (register_for f x) (operand-low f homes.held (Variable x)) (operand_register q 0)
          (operand-inside f homes.held e q (λ r held. held) 0 (omega arith)))

  -- the code of an assignment to an element is in its ranges
  pub set_element-fits : (f : Setting) (mode : Mode) → HomesFit banks f → (x : List ℕ) (i e : Tree)
      → TypedTree (context_of f.decls) (Element x i) → TypedTree (context_of f.decls) e → HasWords i → HasWords e
      → height_of i ≤ 16 → height_of e ≤ room_of f → CodeFits banks (set_code f mode (SetElement x i e))
  set_element-fits f mode homes x i e typed value index words low_index low =
      let home = homes.homes x typed.0.0 _ typed.0.1 in
      let near = numbering f mode (home_of f x) i in
      let q = operand f e in
      let p = index_operand f near (home_of f x) i in
      both (operand_part q (expr_code f mode 0 e)) _
      (operand-fits q (expr_code f mode 0 e) (expression-fits f mode homes 0 e value words (omega arith)))
      (both (indexed_code f near mode (home_of f x) 1 i (expr_code f mode 1 i)) _
      (access-fits f homes (home_of f x) home 1 (omega arith) near mode (operand_register p 1)
      (fixed_index (home_of f x) i) (operand_part p (expr_code f mode 1 i))
      (operand-inside f homes.held i p (operand-unless f i (is_in_place (home_of f x) near)) 1 (omega arith))
      (operand-fits p (expr_code f mode 1 i) (expression-fits f mode homes 1 i typed.1.0 index (omega arith))))
      (element-fits f mode (home_of f x) home homes.block_log (operand_register q 0)
      (operand-inside f homes.held e q (λ r held. held) 0 (omega arith)) (operand-outside f e q (λ r held. held))
      (fixed_index (home_of f x) i)))
