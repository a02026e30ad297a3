-- The code that writes a word of an array with several blocks does what one instruction does that writes a word in a slot:
-- in a run, for the check in public code, and in an arm. Without effect it leaves every slot as it is.
use Rattle.std.proofs.Common.{◌≡◌, ℕ, suc, ◌+◌, ◌*◌, ◌/◌, ◌%◌, ◌<◌, ◌≤◌, Bool, true, false, not, ◌||◌, ℤ, pos, List, [], ◌∷◌, ◌++◌, length, Option, Some, refl, sym, ap, ◌∙◌, subst, arith, mod-lt, inl, inr}
use Rattle.std.specs.Prelude.{slice_get, slice_index_or, slice_set}
use Rattle.std.specs.List.{AllByRecursion}
use Rattle.std.proofs.lemmas.Nat.{pow_pos, shr_split}
use Rattle.std.proofs.lemmas.Option.{slice_get-get_or}
use Rattle.std.proofs.Math.Nat.{div-lt_iff_lt-mul}
use Rattle.gr_word.specs.Prelude.{IsWord}
use Rattle.gr_word.specs.declared.operations.Op.TheVariants.{Xor}
use Rattle.lt_isa.specs.declared.profiles.Profile.{Profile}
use Rattle.lt_isa.specs.declared.instructions.Instr.{Instr}
use Rattle.lt_isa.specs.Prelude.{Parts, block_words, is_ram, IsInRange, operation_cost, Slot, State, register, slot, IsShaped}
use Rattle.lt_isa.proofs.Shapes.{IsWord-register}
use Rattle.symbolic_values.specs.Prelude.{Value}
use Rattle.trace_patterns.specs.Prelude.{Known, is_secret, bank_known, SymState, tree_held, slot_held, slot_bank}
use Rattle.stretches.specs.Prelude.{Show, Gap, StandsAt, RunsThrough}
use Rattle.stretches.proofs.Passed.{GoesOn}
use Rattle.stretches.proofs.RunningThrough.{runs-weaker}
use Rattle.stretches.proofs.ArmCode.{Walked}
use Rattle.strength_reduction.specs.Prelude.{numbered, replaced}
use Rattle.word_selection.specs.Prelude.{IsBound, WritesWord, SlotStep, Constant, Compute, Combine, Read, IsOutside, Write, Contents, StepFits, MayWrite, after, steps_show, with_word, written_from, mask_register, mask_steps, difference_steps, first_steps, next_mask_steps, exchange_steps, exchanges_steps, write_steps, selected_write, mask_shows, exchange_shows, exchanges_shows, write_shows}
use Rattle.word_selection.specs.declared.effects.Effect.{Effect}
use Rattle.word_selection.specs.declared.effects.Effect.TheVariants.{Stores, Keeps}
use Rattle.word_selection.proofs.SlotRuns.{Leaves, runs-steps}
use Rattle.word_selection.proofs.SlotPasses.{passes-steps}
use Rattle.word_selection.proofs.SlotWalks.{walks-steps}
use Rattle.word_selection.proofs.Writing.{write-word, keeps-slots}
use Rattle.word_selection.proofs.BlockSizes.{sizes-masked}
use Rattle.word_selection.proofs.ReadLaws.{IsOneOf, one-of_rest, first-one, have-words}

-- ---- the steps fit

mask-low : (turn : Bool) → mask_register turn ≤ 4
mask-low true = omega arith
mask-low false = omega arith

from-low : (effect : Effect) → written_from effect ≤ 4
from-low Stores = omega arith
from-low Keeps = omega arith

module _ (base value : ℕ) (apart : IsOutside base 4 value) (Used : ℕ → Type 0) (effect : Effect) (size : ℕ) where
  abbrev Fit : List SlotStep → Type 0
  Fit steps = AllByRecursion (StepFits base 4 Used) steps

  fit-append : (xs ys : List SlotStep) → Fit xs → Fit ys → Fit (xs ++ ys)
  fit-append [] ys first rest = rest
  fit-append (x ∷ xs) ys first rest = (first.0, fit-append xs ys first.1 rest)

  mask-fits : (limit mask : ℕ) → mask ≤ 4 → Fit (mask_steps limit mask)
  mask-fits limit mask low = (omega arith, ((low, omega arith, omega arith), ((low, low, omega arith), tt)))

  difference-fits : (slot mask : ℕ) → mask ≤ 4 → Used slot → Fit (difference_steps value slot mask)
  difference-fits slot mask low used =
      ((omega arith, omega arith, used), ((omega arith, omega arith, apart), ((omega arith, omega arith, low), tt)))

  exchange-fits : (slot mask : ℕ) → mask ≤ 4 → Used slot → Fit (exchange_steps effect value slot mask)
  exchange-fits slot mask low used =
      fit-append (difference_steps value slot mask) (Compute Xor 2 2 1 ∷ Write (written_from effect) slot 0 ∷ [])
      (difference-fits slot mask low used)
      ((omega arith, omega arith, omega arith), ((from-low effect, omega arith, used), tt))

  first-fits : (slot : ℕ) → Used slot → Fit (first_steps effect size value slot)
  first-fits slot used =
      fit-append (mask_steps (1 * size) 3)
      (difference_steps value slot 3 ++ (Combine Xor 2 2 value ∷ Write (written_from effect) slot 0 ∷ []))
      (mask-fits (1 * size) 3 (omega arith))
      (fit-append (difference_steps value slot 3) (Combine Xor 2 2 value ∷ Write (written_from effect) slot 0 ∷ [])
      (difference-fits slot 3 (omega arith) used)
      ((omega arith, omega arith, apart), ((from-low effect, omega arith, used), tt)))

  next-fits : (i : ℕ) (turn : Bool) (slots : List ℕ) → Fit (next_mask_steps size i turn slots)
  next-fits i turn [] = tt
  next-fits i turn (slot ∷ slots) =
      fit-append (mask_steps (suc i * size) (mask_register (not turn)))
      (Compute Xor (mask_register turn) (mask_register turn) (mask_register (not turn)) ∷ [])
      (mask-fits (suc i * size) (mask_register (not turn)) (mask-low (not turn)))
      ((mask-low turn, mask-low turn, mask-low (not turn)), tt)

  exchanges-fit : (slots : List ℕ) (i : ℕ) (turn : Bool) → ((k : ℕ) → IsOneOf slots k → Used k)
      → Fit (exchanges_steps effect size value i turn slots)
  exchanges-fit [] i turn used = tt
  exchanges-fit (slot ∷ slots) i turn used =
      fit-append (next_mask_steps size i turn slots)
      (exchange_steps effect value slot (mask_register turn)
      ++ exchanges_steps effect size value (suc i) (not turn) slots)
      (next-fits i turn slots)
      (fit-append (exchange_steps effect value slot (mask_register turn))
      (exchanges_steps effect size value (suc i) (not turn) slots)
      (exchange-fits slot (mask_register turn) (mask-low turn) (used slot (first-one slot slots)))
      (exchanges-fit slots (suc i) (not turn) (λ k one. used k (one-of_rest slot slots k one))))

  pub write-fits : (slots : List ℕ) → ((k : ℕ) → IsOneOf slots k → Used k) → Fit (write_steps effect size value slots)
  write-fits [] used = tt
  write-fits (slot ∷ slots) used =
      fit-append (first_steps effect size value slot) (exchanges_steps effect size value 1 false slots)
      (first-fits slot (used slot (first-one slot slots)))
      (exchanges-fit slots 1 false (λ k one. used k (one-of_rest slot slots k one)))

-- ---- a run

module _ (o : Parts) (fits : IsInRange o) (to value : ℕ) (room : to + 4 < 32) (apart : IsOutside to 4 value)
    (slots : List ℕ) (few : length slots ≤ 8) (s : State) (shaped : IsShaped o s)
    (bound : (i k : ℕ) → slice_get slots i ≡ Some k → IsBound (slot s k)) where
  contents : Contents
  contents = record { registers = λ i. register s (numbered to i); outside = register s; slots = s.slots }

  -- the code leaves the slots that its steps leave
  runs-left : (effect : Effect) (left : List Slot)
      → StandsAt o s.place (selected_write effect (block_words o) value slots to)
      → (after (block_words o) (write_steps effect (block_words o) value slots) contents).slots ≡ left
      → RunsThrough o s (selected_write effect (block_words o) value slots to) [] (WritesWord to left s)
  unfolding contents
  runs-left effect left at are =
      let size = block_words o in
      let steps = write_steps effect size value slots in
      runs-weaker s (selected_write effect size value slots to) [] [] (Leaves to 4 (after size steps contents) s)
      (WritesWord to left s)
      (runs-steps o fits to 4 room (IsOneOf slots) steps contents s
      (write-fits to value apart (IsOneOf slots) effect size slots (λ j one. one))
      shaped (λ i le. refl) (λ r outer. refl) refl (λ j one. bound one.index j one.is) at)
      refl
      (λ t shape leaves. record {
        below = λ r under. leaves.outside r (inl under);
        above = λ r over. leaves.outside r (inr over);
        slots_are = leaves.slots ∙ are;
        banks = leaves.banks;
      })

  -- The word of the array whose number is in register `to` becomes the value in another register: the word of the slot of
  -- its block.
  pub runs-write : (word : ℤ) (n default : ℕ) → register s value ≡ word → register s to ≡ pos n
      → n < length slots * block_words o
      → StandsAt o s.place (selected_write Stores (block_words o) value slots to)
      → RunsThrough o s (selected_write Stores (block_words o) value slots to) []
      (WritesWord to
      (slice_set s.slots (slice_index_or slots (n / block_words o) default)
      (with_word (block_words o) (slot s (slice_index_or slots (n / block_words o) default)) (pos n) word)) s)
  unfolding contents
  runs-write word n default is number inside at =
      let size = block_words o in
      let k = slice_index_or slots (n / size) default in
      let masked = sizes-masked o.profile.block_log (length slots) fits.profile.block_log.0 fits.profile.block_log.1 few in
      let found : slice_get slots (n / size) ≡ Some k =
      slice_get-get_or slots (n / size) default
      ((div-lt_iff_lt-mul {k = size} {x = n} {y = length slots} (pow_pos o.profile.block_log)).1 inside) in
      let split : n ≡ n / size * size + n % size = sym (shr_split n o.profile.block_log) in
      runs-left Stores (slice_set s.slots k (with_word size (slot s k) (pos n) word)) at
      (write-word size (length slots * size) masked n inside value word
      (subst IsWord is (IsWord-register o s shaped value)) slots contents (n / size) (n % size) k (omega arith)
      (have-words o s shaped) is number split (mod-lt n (pow_pos o.profile.block_log)) found)

  -- without effect
  pub runs-write_back : StandsAt o s.place (selected_write Keeps (block_words o) value slots to)
      → RunsThrough o s (selected_write Keeps (block_words o) value slots to) [] (WritesWord to s.slots s)
  unfolding contents
  runs-write_back at = runs-left Keeps s.slots at (keeps-slots (block_words o) value slots contents)

-- ---- the check in public code, of a bank that isn't plain memory

may-encrypted : (others : ℕ → Bool) (steps : List SlotStep) (secret : ℕ → Bool) → MayWrite false others steps secret
may-encrypted others [] secret = tt
may-encrypted others (Constant to value ∷ steps) secret = (tt, may-encrypted others steps (replaced secret to false))
may-encrypted others (Compute op to left right ∷ steps) secret =
    (tt, may-encrypted others steps (replaced secret to (secret left || secret right)))
may-encrypted others (Combine op to left outside ∷ steps) secret =
    (tt, may-encrypted others steps (replaced secret to (secret left || others outside)))
may-encrypted others (Read to slot at ∷ steps) secret =
    (tt, may-encrypted others steps (replaced secret to (true || secret at)))
may-encrypted others (Write from slot at ∷ steps) secret = (refl, may-encrypted others steps secret)

pub record PassesWrite (o : Parts) (to p : ℕ) (code : List Instr) (k : Known) : Type 0 where
  pub last : Known
  pub goes : GoesOn o p code k last
  pub below : (r : ℕ) → r < to → is_secret last r ≡ is_secret k r
  pub above : (r : ℕ) → to + 4 < r → is_secret last r ≡ is_secret k r
  pub count : length last.secret ≡ length k.secret
  pub banks : last.banks ≡ k.banks

pub passes-write : (o : Parts) (effect : Effect) (to value size bank p : ℕ) (slots : List ℕ) (k : Known) → to + 4 < 32
    → IsOutside to 4 value → is_ram bank ≡ false
    → length k.secret ≡ 32 → ((i j : ℕ) → slice_get slots i ≡ Some j → bank_known k j ≡ Some bank)
    → PassesWrite o to p (selected_write effect size value slots to) k
passes-write o effect to value size bank p slots k room apart encrypted count known =
    let steps = write_steps effect size value slots in
    let secret : ℕ → Bool = λ i. is_secret k (numbered to i) in
    let may : MayWrite (is_ram bank) (is_secret k) steps secret =
    subst (λ b. MayWrite b (is_secret k) steps secret) (sym encrypted) (may-encrypted (is_secret k) steps secret) in
    let passed = passes-steps o to 4 room (IsOneOf slots) bank (is_secret k) steps secret p k
    (write-fits to value apart (IsOneOf slots) effect size slots (λ j one. one))
    count (λ j one. known one.index j one.is) (λ i le. refl) (λ r outer. refl) may in
    record {
      last = passed.last;
      goes = passed.goes;
      below = λ r under. passed.outside r (inl under);
      above = λ r over. passed.outside r (inr over);
      count = passed.count;
      banks = passed.banks;
    }

-- ---- an arm

-- the cycles of the blocks after the first
exchanges-show : (profile : Profile) (effect : Effect) (size value i : ℕ) (turn : Bool) (slots : List ℕ)
    → steps_show profile (exchanges_steps effect size value i turn slots) ≡ exchanges_shows profile (length slots)
exchanges-show profile effect size value i turn [] = refl
exchanges-show profile effect size value i turn (slot ∷ []) = refl
exchanges-show profile effect size value i turn (slot ∷ next ∷ slots) =
    ap (λ (shows : List Show).
    mask_shows profile ++ (Gap (operation_cost profile Xor) ∷ (exchange_shows profile ++ shows)))
    (exchanges-show profile effect size value (suc i) (not turn) (next ∷ slots))

pub write-show : (profile : Profile) (effect : Effect) (size value : ℕ) (slots : List ℕ)
    → steps_show profile (write_steps effect size value slots) ≡ write_shows profile (length slots)
write-show profile effect size value [] = refl
write-show profile effect size value (slot ∷ slots) =
    ap (λ (shows : List Show). mask_shows profile ++ (exchange_shows profile ++ shows))
    (exchanges-show profile effect size value 1 false slots)

pub record WalksWrite (o : Parts) (depth to : ℕ) (code : List Instr) (shows : List Show) (s : SymState) : Type 0 where
  pub state : SymState
  pub walked : Walked o depth s code shows state
  pub below : (r : ℕ) → r < to → tree_held state r ≡ tree_held s r
  pub above : (r : ℕ) → to + 4 < r → tree_held state r ≡ tree_held s r
  pub slots : state.slots ≡ s.slots
  pub registers : length state.registers ≡ 32

pub walks-write : (o : Parts) (effect : Effect) (depth to value size bank : ℕ) (slots : List ℕ) (s : SymState)
    → to + 4 < 32 → IsOutside to 4 value → 1 ≤ bank
    → length s.registers ≡ 32 → ((i k : ℕ) → slice_get slots i ≡ Some k → slot_bank (slot_held s k) ≡ Some bank)
    → WalksWrite o depth to (selected_write effect size value slots to) (write_shows o.profile (length slots)) s
walks-write o effect depth to value size bank slots s room apart low count known =
    let steps = write_steps effect size value slots in
    let trees : ℕ → Option Value = λ i. tree_held s (numbered to i) in
    let walks = walks-steps o depth to 4 room (IsOneOf slots) bank steps s trees s
    (write-fits to value apart (IsOneOf slots) effect size slots (λ j one. one))
    (λ none. absurd (omega (arith, none, low))) count (λ k. refl) (λ r outer. refl)
    (λ k one. known one.index k one.is) (λ i le. refl) in
    record {
      state = walks.state;
      walked
          = subst (λ (shows : List Show). Walked o depth s (selected_write effect size value slots to) shows walks.state)
          (write-show o.profile effect size value slots) walks.walked;
      below = λ r under. walks.outside r (inl under);
      above = λ r over. walks.outside r (inr over);
      slots = walks.slots;
      registers = walks.registers;
    }
