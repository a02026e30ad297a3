-- The code that reads a word of an array with several blocks does what one instruction does that reads a word of a slot: in
-- a run, for the check in public code, and in an arm.
use Rattle.std.proofs.Common.{◌≡◌, ℕ, suc, ◌+◌, ◌-◌, ◌*◌, ◌/◌, ◌%◌, ◌<◌, ◌≤◌, Bool, true, false, not, ◌||◌, pos, List, [], ◌∷◌, ◌++◌, length, Option, Some, None, refl, sym, ap, ◌∙◌, subst, ⊎_elim, arith, mod-lt, inl, inr}
use Rattle.std.specs.Prelude.{slice_get, slice_index_or}
use Rattle.std.specs.List.{AllByRecursion}
use Rattle.std.proofs.lemmas.Bool.{cases_lt}
use Rattle.std.proofs.lemmas.List.{get_or_past}
use Rattle.std.proofs.lemmas.List.Elements.{All-nil}
use Rattle.std.proofs.lemmas.Nat.{pow_pos, shr_split}
use Rattle.std.proofs.lemmas.Option.{same_Some, slice_get-get_or}
use Rattle.std.proofs.Math.Nat.{div-lt_iff_lt-mul}
use Rattle.gr_word.specs.Prelude.{AreWords, IsWord}
use Rattle.gr_word.specs.declared.operations.Op.TheVariants.{Sub, And, Xor, Shr}
use Rattle.lt_isa.specs.declared.instructions.Instr.{Instr}
use Rattle.lt_isa.specs.Prelude.{operation_cost, Parts, block_words, is_ram, IsInRange, Slot, Unbound, Bound, State, register, slot, slot_words, word_in, IsShaped, SlotFits}
use Rattle.lt_isa.specs.declared.profiles.Profile.{Profile}
use Rattle.symbolic_values.specs.Prelude.{Value, Const}
use Rattle.trace_patterns.specs.Prelude.{Known, is_secret, bank_known, SymSlot, AnySlot, RamSlot, EramSlot, OramSlot, SymState, tree_held, slot_held, slot_bank, applied_trees, word_held}
use Rattle.stretches.specs.Prelude.{Show, Gap, StandsAt, RunsThrough}
use Rattle.stretches.proofs.Passed.{GoesOn}
use Rattle.stretches.proofs.RunningThrough.{runs-weaker}
use Rattle.stretches.proofs.ArmCode.{Walked}
use Rattle.strength_reduction.specs.Prelude.{numbered, replaced}
use Rattle.word_selection.specs.Prelude.{IsBound, ReadsWord, SlotStep, Constant, Compute, Combine, Read, Write, Contents, StepFits, IsReading, MayWrite, after, labels_after, trees_after, steps_show, slot_at, choice_steps, choices_steps, read_steps, selected_read, choice_shows, choices_shows, read_shows}
use Rattle.word_selection.proofs.SlotContents.{HaveWords}
use Rattle.word_selection.proofs.SlotRuns.{Leaves, runs-steps}
use Rattle.word_selection.proofs.SlotPasses.{passes-steps}
use Rattle.word_selection.proofs.SlotWalks.{walks-steps}
use Rattle.word_selection.proofs.Reading.{read-word, read-slots}
use Rattle.word_selection.proofs.BlockSizes.{sizes-masked}

-- a slot is one of some slots
pub record IsOneOf (slots : List ℕ) (k : ℕ) : Type 0 where
  pub index : ℕ
  pub is : slice_get slots index ≡ Some k

pub one-of_rest : (first : ℕ) (slots : List ℕ) (k : ℕ) → IsOneOf slots k → IsOneOf (first ∷ slots) k
one-of_rest first slots k one = record { index = suc one.index; is = one.is }

pub first-one : (first : ℕ) (slots : List ℕ) → IsOneOf (first ∷ slots) first
first-one first slots = record { index = 0; is = refl }

-- the slots of a state of a run have words
slot-words : (o : Parts) (x : Slot) → SlotFits o x → AreWords (slot_words x)
slot-words o Unbound fits = All-nil IsWord
slot-words o (Bound bank block words) fits = fits.holds_block.all_words

pub have-words : (o : Parts) (s : State) → IsShaped o s → HaveWords s.slots
have-words o s shaped k =
    ⊎_elim
    (λ (inside : k < length s.slots). slot-words o (slot_at s.slots k) (shaped.slots k Unbound inside))
    (λ (past : length s.slots ≤ k).
    subst (λ x. AreWords (slot_words x)) (sym (get_or_past s.slots k Unbound past)) (All-nil IsWord))
    (cases_lt k (length s.slots))

-- ---- the steps fit

choices-fit : (base : ℕ) (Used : ℕ → Type 0) (size i : ℕ) (slots : List ℕ) (first : ℕ)
    → ((k : ℕ) → IsOneOf (first ∷ slots) k → Used k)
    → AllByRecursion (StepFits base 3 Used) (choices_steps size i (first ∷ slots))
choices-fit base Used size i [] first used = (
  omega arith,
  (
    (omega arith, omega arith, omega arith),
    (
      (omega arith, omega arith, omega arith),
      (
        (omega arith, omega arith, used first (first-one first [])),
        (
          (omega arith, omega arith, omega arith),
          ((omega arith, omega arith, omega arith), ((omega arith, omega arith, omega arith), tt)),
        ),
      ),
    ),
  ),
)
choices-fit base Used size i (next ∷ slots) first used = (
  omega arith,
  (
    (omega arith, omega arith, omega arith),
    (
      (omega arith, omega arith, omega arith),
      (
        (omega arith, omega arith, used first (first-one first (next ∷ slots))),
        (
          (omega arith, omega arith, omega arith),
          (
            (omega arith, omega arith, omega arith),
            (
              (omega arith, omega arith, omega arith),
              choices-fit base Used size (suc i) slots next (λ k one. used k (one-of_rest first (next ∷ slots) k one)),
            ),
          ),
        ),
      ),
    ),
  ),
)

pub read-fits : (base : ℕ) (Used : ℕ → Type 0) (size : ℕ) (slots : List ℕ) → ((k : ℕ) → IsOneOf slots k → Used k)
    → AllByRecursion (StepFits base 3 Used) (read_steps size slots)
read-fits base Used size [] used = tt
read-fits base Used size (slot ∷ []) used = ((omega arith, omega arith, used slot (first-one slot [])), tt)
read-fits base Used size (slot ∷ next ∷ slots) used = (
  (omega arith, omega arith, used slot (first-one slot (next ∷ slots))),
  choices-fit base Used size 1 slots next (λ k one. used k (one-of_rest slot (next ∷ slots) k one)),
)

choices-read : (size i : ℕ) (slots : List ℕ) (first : ℕ) → AllByRecursion IsReading (choices_steps size i (first ∷ slots))
choices-read size i [] first = (tt, (tt, (tt, (tt, (tt, (tt, (tt, tt)))))))
choices-read size i (next ∷ slots) first =
    (tt, (tt, (tt, (tt, (tt, (tt, (tt, choices-read size (suc i) slots next)))))))

pub read-reads : (size : ℕ) (slots : List ℕ) → AllByRecursion IsReading (read_steps size slots)
read-reads size [] = tt
read-reads size (slot ∷ []) = (tt, tt)
read-reads size (slot ∷ next ∷ slots) = (tt, choices-read size 1 slots next)

may-read : (plain : Bool) (others : ℕ → Bool) (steps : List SlotStep) (secret : ℕ → Bool) → AllByRecursion IsReading steps
    → MayWrite plain others steps secret
may-read plain others [] secret reads = tt
may-read plain others (Constant to value ∷ steps) secret reads = (tt, may-read plain others steps (replaced secret to false) reads.1)
may-read plain others (Compute op to left right ∷ steps) secret reads =
    (tt, may-read plain others steps (replaced secret to (secret left || secret right)) reads.1)
may-read plain others (Combine op to left outside ∷ steps) secret reads =
    (tt, may-read plain others steps (replaced secret to (secret left || others outside)) reads.1)
may-read plain others (Read to slot at ∷ steps) secret reads =
    (tt, may-read plain others steps (replaced secret to (not plain || secret at)) reads.1)
may-read plain others (Write from slot at ∷ steps) secret reads = absurd (reads.0)

-- ---- a run

module _ (o : Parts) (fits : IsInRange o) (base : ℕ) (room : base + 3 < 32) (slots : List ℕ) (few : length slots ≤ 8) where
  -- The word of the array becomes that of a register, if its number is in the register: the word of the slot of its
  -- block.
  pub runs-read : (s : State) (n default : ℕ) → IsShaped o s
      → ((i k : ℕ) → slice_get slots i ≡ Some k → IsBound (slot s k))
      → register s base ≡ pos n → n < length slots * block_words o
      → StandsAt o s.place (selected_read (block_words o) slots base)
      → RunsThrough o s (selected_read (block_words o) slots base) []
      (ReadsWord base
      (word_in (slot_words (slot s (slice_index_or slots (n / block_words o) default))) (n % block_words o)) s)
  runs-read s n default shaped bound number inside at =
      let size = block_words o in
      let steps = read_steps size slots in
      let k = slice_index_or slots (n / size) default in
      let masked = sizes-masked o.profile.block_log (length slots) fits.profile.block_log.0 fits.profile.block_log.1 few in
      let c : Contents = record { registers = λ i. register s (numbered base i); outside = register s; slots = s.slots } in
      let found : slice_get slots (n / size) ≡ Some k =
      slice_get-get_or slots (n / size) default
      ((div-lt_iff_lt-mul {k = size} {x = n} {y = length slots} (pow_pos o.profile.block_log)).1 inside) in
      let split : n ≡ n / size * size + n % size = sym (shr_split n o.profile.block_log) in
      let word = word_in (slot_words (slot s k)) (n % size) in
      runs-weaker s (selected_read size slots base) [] [] (Leaves base 3 (after size steps c) s) (ReadsWord base word s)
      (runs-steps o fits base 3 room (IsOneOf slots) steps c s
      (read-fits base (IsOneOf slots) size slots (λ j one. one)) shaped
      (λ i le. refl) (λ r apart. refl) refl (λ j one. bound one.index j one.is) at)
      refl
      (λ t shape leaves. record {
        value =
            leaves.own 0 (omega arith)
            ∙ read-word size (length slots * size) masked n inside slots c (n / size) (n % size) k (omega arith)
            (have-words o s shaped) number split (mod-lt n (pow_pos o.profile.block_log)) found;
        below = λ r under. leaves.outside r (inl under);
        above = λ r over. leaves.outside r (inr over);
        slots = leaves.slots ∙ read-slots size (length slots * size) masked n inside slots c;
        banks = leaves.banks;
      })

-- ---- the check in public code

-- a result of a choice is as secret as the word
mixed : (np w : Bool) → ((np || w) || (((np || w) || (np || w)) || ((false || w) || false))) ≡ (np || w)
mixed true true = refl
mixed true false = refl
mixed false true = refl
mixed false false = refl

-- the label that a choice leaves, by those of the number and the word so far
choice_label : (np a b : Bool) → Bool
choice_label np a b = b || (((np || a) || b) || ((false || a) || false))

choice-label : (np w a b : Bool) → a ≡ w → b ≡ (np || w) → choice_label np a b ≡ (np || w)
unfolding choice_label
choice-label np w a b number so_far =
    ap (λ x. choice_label np x b) number ∙ ap (choice_label np w) so_far ∙ mixed np w

choices-label : (plain w : Bool) (others : ℕ → Bool) (size i : ℕ) (slots : List ℕ) (first : ℕ) (secret : ℕ → Bool)
    → secret 0 ≡ w → secret 1 ≡ (not plain || w)
    → labels_after plain others (choices_steps size i (first ∷ slots)) secret 0 ≡ (not plain || w)
unfolding choice_label
choices-label plain w others size i [] first secret number so_far =
    choice-label (not plain) w (secret 0) (secret 1) number so_far
choices-label plain w others size i (next ∷ slots) first secret number so_far =
    choices-label plain w others size (suc i) slots next (labels_after plain others (choice_steps (i * size) first 1) secret) number
    (choice-label (not plain) w (secret 0) (secret 1) number so_far)

read-label : (plain : Bool) (others : ℕ → Bool) (size : ℕ) (slots : List ℕ) (secret : ℕ → Bool) → 1 ≤ length slots
    → labels_after plain others (read_steps size slots) secret 0 ≡ (not plain || secret 0)
read-label plain others size [] secret some = absurd (omega arith)
read-label plain others size (slot ∷ []) secret some = refl
read-label plain others size (slot ∷ next ∷ slots) secret some =
    choices-label plain (secret 0) others size 1 slots next (replaced secret 1 (not plain || secret 0)) refl refl

-- the word that is read may be secret, unless the slots are bound to plain memory and its number is public
pub record PassesRead (o : Parts) (base bank p : ℕ) (code : List Instr) (k : Known) : Type 0 where
  pub last : Known
  pub goes : GoesOn o p code k last
  pub value : is_secret last base ≡ (not (is_ram bank) || is_secret k base)
  pub below : (r : ℕ) → r < base → is_secret last r ≡ is_secret k r
  pub above : (r : ℕ) → base + 3 < r → is_secret last r ≡ is_secret k r
  pub count : length last.secret ≡ length k.secret
  pub banks : last.banks ≡ k.banks

pub passes-read : (o : Parts) (base size bank p : ℕ) (slots : List ℕ) (k : Known) → base + 3 < 32
    → 1 ≤ length slots
    → length k.secret ≡ 32 → ((i j : ℕ) → slice_get slots i ≡ Some j → bank_known k j ≡ Some bank)
    → PassesRead o base bank p (selected_read size slots base) k
passes-read o base size bank p slots k room some count known =
    let steps = read_steps size slots in
    let passed = passes-steps o base 3 room (IsOneOf slots) bank (is_secret k) steps (λ i. is_secret k (numbered base i)) p k
    (read-fits base (IsOneOf slots) size slots (λ j one. one)) count
    (λ j one. known one.index j one.is) (λ i le. refl) (λ r apart. refl)
    (may-read (is_ram bank) (is_secret k) steps (λ i. is_secret k (numbered base i)) (read-reads size slots)) in
    record {
      last = passed.last;
      goes = passed.goes;
      value =
          passed.own 0 (omega arith)
          ∙ read-label (is_ram bank) (is_secret k) size slots (λ i. is_secret k (numbered base i)) some;
      below = λ r under. passed.outside r (inl under);
      above = λ r over. passed.outside r (inr over);
      count = passed.count;
      banks = passed.banks;
    }

-- ---- an arm

-- a word of a slot that isn't bound to plain memory has no tree
no-word : (o : Parts) (x : SymSlot) (bank : ℕ) (t : Option Value) → slot_bank x ≡ Some bank → 1 ≤ bank
    → word_held o x t ≡ None
no-word o (RamSlot block origin) bank t e some =
    absurd (let same : 0 ≡ bank = same_Some 0 bank e in omega (arith, same, some))
no-word o other bank t e some = refl

-- the tree that a choice leaves
choice_tree : Parts → (limit : ℕ) → SymSlot → (number so_far : Option Value) → Option Value
choice_tree o limit x number so_far =
    applied_trees Xor so_far
    (applied_trees And (applied_trees Xor (word_held o x number) so_far)
    (applied_trees Shr (applied_trees Sub (Some (Const (pos (limit - 1)))) number) (Some (Const (pos (limit - 1))))))

no-choice : (o : Parts) (limit : ℕ) (x : SymSlot) (number so_far : Option Value) → so_far ≡ None
    → choice_tree o limit x number so_far ≡ None
unfolding choice_tree
no-choice o limit x number so_far none = ap (choice_tree o limit x number) none

choices-none : (o : Parts) (s : SymState) (size i : ℕ) (slots : List ℕ) (first : ℕ) (trees : ℕ → Option Value)
    → trees 1 ≡ None → trees_after o s (choices_steps size i (first ∷ slots)) trees 0 ≡ None
unfolding choice_tree
choices-none o s size i [] first trees none = no-choice o (i * size) (slot_held s first) (trees 0) (trees 1) none
choices-none o s size i (next ∷ slots) first trees none =
    choices-none o s size (suc i) slots next (trees_after o s (choice_steps (i * size) first 1) trees)
    (no-choice o (i * size) (slot_held s first) (trees 0) (trees 1) none)

read-none : (o : Parts) (s : SymState) (size bank : ℕ) (slots : List ℕ) (trees : ℕ → Option Value)
    → 1 ≤ length slots → 1 ≤ bank → ((k : ℕ) → IsOneOf slots k → slot_bank (slot_held s k) ≡ Some bank)
    → trees_after o s (read_steps size slots) trees 0 ≡ None
read-none o s size bank [] trees some low known = absurd (omega arith)
read-none o s size bank (slot ∷ []) trees some low known =
    no-word o (slot_held s slot) bank (trees 0) (known slot (first-one slot [])) low
read-none o s size bank (slot ∷ next ∷ slots) trees some low known =
    choices-none o s size 1 slots next (replaced trees 1 (word_held o (slot_held s slot) (trees 0)))
    (no-word o (slot_held s slot) bank (trees 0) (known slot (first-one slot (next ∷ slots))) low)

choices-show : (profile : Profile) (size i : ℕ) (slots : List ℕ) (first : ℕ)
    → steps_show profile (choices_steps size i (first ∷ slots)) ≡ choices_shows profile (suc (length slots))
choices-show profile size i [] first = refl
choices-show profile size i (next ∷ slots) first =
    ap (λ (shows : List Show). choice_shows profile ++ shows) (choices-show profile size (suc i) slots next)

pub read-show : (profile : Profile) (size : ℕ) (slots : List ℕ)
    → steps_show profile (read_steps size slots) ≡ read_shows profile (length slots)
read-show profile size [] = refl
read-show profile size (slot ∷ []) = refl
read-show profile size (slot ∷ next ∷ slots) =
    ap (λ (shows : List Show). Gap profile.word ∷ shows) (choices-show profile size 1 slots next)

-- the word that is read has no tree
pub record WalksRead (o : Parts) (depth base : ℕ) (code : List Instr) (shows : List Show) (s : SymState) : Type 0 where
  pub state : SymState
  pub walked : Walked o depth s code shows state
  pub value : tree_held state base ≡ None
  pub below : (r : ℕ) → r < base → tree_held state r ≡ tree_held s r
  pub above : (r : ℕ) → base + 3 < r → tree_held state r ≡ tree_held s r
  pub slots : state.slots ≡ s.slots
  pub registers : length state.registers ≡ 32

pub walks-read : (o : Parts) (depth base size bank : ℕ) (slots : List ℕ) (s : SymState) → base + 3 < 32
    → 1 ≤ length slots → 1 ≤ bank
    → length s.registers ≡ 32 → ((i k : ℕ) → slice_get slots i ≡ Some k → slot_bank (slot_held s k) ≡ Some bank)
    → WalksRead o depth base (selected_read size slots base) (read_shows o.profile (length slots)) s
walks-read o depth base size bank slots s room some low count known =
    let steps = read_steps size slots in
    let trees : ℕ → Option Value = λ i. tree_held s (numbered base i) in
    let walks = walks-steps o depth base 3 room (IsOneOf slots) bank steps s trees s
    (read-fits base (IsOneOf slots) size slots (λ j one. one))
    (λ none. read-reads size slots) count (λ k. refl) (λ r apart. refl)
    (λ k one. known one.index k one.is) (λ i le. refl) in
    record {
      state = walks.state;
      walked
          = subst (λ (shows : List Show). Walked o depth s (selected_read size slots base) shows walks.state)
          (read-show o.profile size slots) walks.walked;
      value =
          walks.own 0 (omega arith)
          ∙ read-none o s size bank slots trees some low (λ k one. known one.index k one.is);
      below = λ r under. walks.outside r (inl under);
      above = λ r over. walks.outside r (inr over);
      slots = walks.slots;
      registers = walks.registers;
    }
