-- Runs of the code of an access: afterwards its block is in its slot, and the access is seen if it wasn't skipped.
use Rattle.std.proofs.Common.{◌≡◌, ◌≢◌, ℕ, ◌+◌, ◌/◌, ◌%◌, ◌^◌, ◌<◌, ◌≤◌, Bool, true, false, cond, ◌&&◌, ◌==◌, eqb-true, eq-eqb, ltb-true, ℤ, pos, List, [], ◌∷◌, ◌++◌, length, get_or, set, append-nil, Option, Some, None, refl, sym, ap, ◌∙◌, subst, ⊎_elim, arith, mod-lt, mod-eq_of_lt}
use Rattle.std.proofs.lemmas.Bool.{cases_Bool, and_from, and_right, false≢true}
use Rattle.std.proofs.lemmas.List.{set-get_or, get_or-set_same}
use Rattle.std.proofs.lemmas.Option.{none-some, cond_some}
use Rattle.gr_word.specs.Prelude.{compared, unsigned_of}
use Rattle.gr_word.specs.declared.variables.Label.{Label}
use Rattle.gr_word.specs.declared.variables.Shape.TheVariants.{Array}
use Rattle.gr_word.specs.declared.operations.Cmp.TheVariants.{Eq}
use Rattle.lt_isa.specs.declared.instructions.Instr.{Instr}
use Rattle.lt_isa.specs.declared.instructions.Instr.TheVariants.{Ldb, Idb, Br}
use Rattle.lt_isa.specs.Prelude.{Parts, blocks_of, IsInRange, State, Slot, Unbound, Bound, register, slot, set_slot, read_event, IsShaped, block_named}
use Rattle.stretches.specs.Prelude.{StandsAt, greatest_costs, RunsThrough, Sets}
use Rattle.stretches.proofs.Standing.{standing-head}
use Rattle.stretches.proofs.Coming.{comes-ldb, comes-br_taken, comes-br_on, comes-weaker}
use Rattle.stretches.proofs.RunningThrough.{runs-cons, runs-one, runs-append, runs-weaker, sets-idb}
use Rattle.src_tree.specs.Prelude.{context_of, Store, evaluated, Tree, Number, Variable, Element, Operation}
use Rattle.scratch_alloc.proofs.Serving.{serves-within}
use Rattle.block_cache_gen.specs.declared.frames.Mode.{Mode}
use Rattle.block_cache_gen.specs.declared.frames.Mode.TheVariants.{Public, Real, Mirrored}
use Rattle.block_cache_gen.specs.declared.indexes.Numbering.{Numbering}
use Rattle.block_cache_gen.specs.Prelude.{Home, Setting, HasHomes, home_of, words_a_block, numbered_register, skips, is_cached, fixed_index, fixed_word, located_code, fixed_code, numbered_code, shift_code, load_code, access_by, StandsFor, FitsHomes, IsBlockOf, ArrayAccess, access_of, accesses, word_number, block_in, slots_after, may_skip, is_held, seen_of, seen_of_all, LeavesWord, first_kept}
use Rattle.block_cache_gen.proofs.AccessLaws.{slots_after-append, seen_of_all-append, may_skip-is, seen_of-unskipped}
use Rattle.block_cache_gen.proofs.HomeFacts.{serves-cached, block-of, block-exists, block-small, profile-fits}
use Rattle.block_cache_gen.proofs.Stands.{stands-like, stands-loaded}
use Rattle.block_cache_gen.proofs.IndexRuns.{FitsNumbering, Locates, Numbers, numbered-loaded, runs-numbered, runs-block, runs-fixed}
use Rattle.block_cache_gen.proofs.Kept.{Keeps, keeps-set}
use Rattle.block_cache_gen.proofs.OperandRuns.{LeavesAt, RunsValue}

-- the block of an access is loaded; the registers up to `to` and those that no expression uses and the banks are as
-- before
pub record Loads (f : Setting) (a : ArrayAccess) (to : ℕ) (s t : State) : Type 0 where
  pub below : (r : ℕ) → r ≤ to → register t r ≡ register s r
  pub above : (r : ℕ) → first_kept f ≤ r → register t r ≡ register s r
  pub banks : t.banks ≡ s.banks
  pub slots : t.slots ≡ slots_after s.banks s.slots (a ∷ [])

loads-after : (f : Setting) (a : ArrayAccess) (to : ℕ) (s t u : State) → Keeps f (to + 1) s t → Loads f a to t u
    → Loads f a to s u
loads-after f a to s t u keeps loads = record {
  below = λ r under. loads.below r under ∙ keeps.below r (omega arith);
  above = λ r over. loads.above r over ∙ keeps.above r over;
  banks = loads.banks ∙ keeps.banks;
  slots =
      loads.slots
      ∙ ap (λ b. slots_after b t.slots (a ∷ [])) keeps.banks
      ∙ ap (λ l. slots_after s.banks l (a ∷ [])) keeps.slots;
}

-- the number of a word and that of its block are found, after some accesses
pub record Finds (f : Setting) (store : Store) (before : List ArrayAccess) (to n b : ℕ) (s t : State) : Type 0 where
  pub word : register t to ≡ pos n
  pub block : register t (to + 1) ≡ pos b
  pub below : (r : ℕ) → r < to → register t r ≡ register s r
  pub banks : t.banks ≡ s.banks
  pub slots : t.slots ≡ slots_after s.banks s.slots before
  pub stands : StandsFor f t store

-- the block of the last of some accesses is in its slot, and the number of the word in register `to`
pub record Accesses (f : Setting) (store : Store) (before : List ArrayAccess) (a : ArrayAccess) (to n : ℕ)
    (s t : State) : Type 0 where
  pub leaves : LeavesWord f store (before ++ a ∷ []) to (pos n) s t
  pub held : slot t a.home.slot ≡ Bound a.home.bank a.block (block_in s.banks a.home.bank a.block)

-- an index that is taken as a number is one
pub fixed-is : (h : Home) (i : Tree) (z : ℤ) → fixed_index h i ≡ Some z → i ≡ Number z
fixed-is h (Number y) z is = ap Number (cond_some (is_cached h) y z is).1
fixed-is h (Variable x) z is = absurd (unknown (is_cached h) is)
  where
    unknown : (b : Bool) → cond b None None ≡ Some z → ⊥
    unknown true e = none-some z e
    unknown false e = none-some z e
fixed-is h (Element x i) z is = absurd (unknown (is_cached h) is)
  where
    unknown : (b : Bool) → cond b None None ≡ Some z → ⊥
    unknown true e = none-some z e
    unknown false e = none-some z e
fixed-is h (Operation op a b) z is = absurd (unknown (is_cached h) is)
  where
    unknown : (b : Bool) → cond b None None ≡ Some z → ⊥
    unknown true e = none-some z e
    unknown false e = none-some z e

module _ (o : Parts) (fits : IsInRange o) (f : Setting) (homes : HasHomes o f) (store : Store)
    (store_fits : FitsHomes f store) (x : List ℕ) (label : Label)
    (known : context_of f.decls x ≡ Some (label, Array)) (turn : (home_of f x).resident ≡ false) where
  -- the number of a word, by the length of the home
  pub word_number-is : (z : ℤ) → unsigned_of z % (home_of f x).length ≡ word_number f store x z
  word_number-is z = ap (λ m. unsigned_of z % m) (sym (store_fits.lengths x label Array known))

  -- the number of a word is one of the array's
  pub word-within : (z : ℤ) → word_number f store x z < (home_of f x).length
  word-within z =
      subst (λ n. n < (home_of f x).length) (word_number-is z)
      (mod-lt (unsigned_of z) (homes.arrays x label known turn).length.0)

  -- the load itself
  runs-ldb : (to n : ℕ) (s : State) → IsShaped o s → n < (home_of f x).length
      → register s (to + 1) ≡ pos ((home_of f x).block + n / words_a_block f)
      → StandsAt o s.place (Ldb (home_of f x).slot (home_of f x).bank (to + 1) ∷ [])
      → RunsThrough o s (Ldb (home_of f x).slot (home_of f x).bank (to + 1) ∷ [])
      (read_event (home_of f x).bank ((home_of f x).block + n / words_a_block f)
      (block_in s.banks (home_of f x).bank ((home_of f x).block + n / words_a_block f))
      ∷ [])
      (Loads f (record { home = home_of f x; block = (home_of f x).block + n / words_a_block f }) to s)
  runs-ldb to n s shaped within has at =
      let h = home_of f x in
      let b = h.block + n / words_a_block f in
      let exists : b < blocks_of o h.bank =
      block-exists o fits f homes label h (homes.arrays x label known turn) n within in
      let named : block_named o h.bank (register s (to + 1)) ≡ b =
      ap (λ word. block_named o h.bank word) has ∙ mod-eq_of_lt exists in
      runs-one s (Ldb h.slot h.bank (to + 1)) (read_event h.bank b (block_in s.banks h.bank b) ∷ [])
      (Loads f (record { home = h; block = b }) to s) at
      (λ stands. comes-ldb o fits s shaped h.slot h.bank (to + 1) b (Loads f (record { home = h; block = b }) to s) stands
      named (record { below = λ r under. refl; above = λ r over. refl; banks = refl; slots = refl }))

  -- the load, where it may be skipped and where it may not
  runs-skipping : (mode : Mode) (to n : ℕ) (s : State) → IsShaped o s → StandsFor f s store → n < (home_of f x).length
      → to + 2 < first_kept f → register s (to + 1) ≡ pos ((home_of f x).block + n / words_a_block f)
      → may_skip mode (home_of f x) ≡ true → (home_of f x).bank < 2
      → StandsAt o s.place (load_code true (home_of f x) to)
      → RunsThrough o s (load_code true (home_of f x) to)
      (seen_of mode s.banks s.slots (record { home = home_of f x; block = (home_of f x).block + n / words_a_block f }))
      (Loads f (record { home = home_of f x; block = (home_of f x).block + n / words_a_block f }) to s)
  runs-skipping mode to n s shaped stands within small has may few at =
      let h = home_of f x in
      let b = h.block + n / words_a_block f in
      let a : ArrayAccess = record { home = h; block = b } in
      let home = homes.arrays x label known turn in
      let bound = stands.bound x label known turn (serves-cached home.slot few) in
      let c = bound.block in
      let branch = Br Eq (to + 2) (to + 1) (pos 2) in
      let load = Ldb h.slot h.bank (to + 1) in
      runs-cons s (Idb (to + 2) h.slot) (branch ∷ load ∷ []) [] (seen_of mode s.banks s.slots a)
      (Sets s (to + 2) (pos c)) (Loads f a to s) at
      (sets-idb o fits s shaped (to + 2) h.slot h.bank c bound.words (omega arith) bound.holds)
      (λ t shape sets at'.
      let keeps : Keeps f (to + 1) s t = keeps-set f (to + 1) sets (omega arith) (omega arith) in
      let has' : register t (to + 1) ≡ pos b = sets.others (to + 1) (λ same. absurd (omega arith)) ∙ has in
      let test : compared Eq (register t (to + 2)) (register t (to + 1)) ≡ (c == b) =
      ap (λ v. compared Eq v (register t (to + 1))) sets.value ∙ ap (λ v. compared Eq (pos c) v) has' in
      ⊎_elim
      (λ hit.
      let same : c ≡ b = eqb-true c b hit in
      let current = stands.current x label c bound.words known turn bound.holds
      (subst (λ m. IsBlockOf (words_a_block f) h m) (sym same) (block-of o fits f homes label h home n within)) in
      let held : slot s h.slot ≡ Bound h.bank b (block_in s.banks h.bank b) =
      bound.holds ∙ ap (λ w. Bound h.bank c w) current ∙ ap (λ m. Bound h.bank m (block_in s.banks h.bank m)) same in
      let unchanged : t.slots ≡ slots_after s.banks s.slots (a ∷ []) =
      sets.slots ∙ sym (set-get_or s.slots h.slot Unbound) ∙ ap (λ v. set s.slots h.slot v) held in
      let skipped : seen_of mode s.banks s.slots a ≡ [] =
      ap (λ v. cond (v && is_held (slot s h.slot) h.bank b) [] (read_event h.bank b (block_in s.banks h.bank b) ∷ []))
      may
      ∙ ap (λ v. cond (is_held v h.bank b) [] (read_event h.bank b (block_in s.banks h.bank b) ∷ [])) held
      ∙ ap (λ v. cond v [] (read_event h.bank b (block_in s.banks h.bank b) ∷ []))
      (and_from (h.bank == h.bank) (b == b) (eq-eqb h.bank h.bank refl) (eq-eqb b b refl)) in
      comes-weaker (seen_of mode s.banks s.slots a) (t.place + length (branch ∷ load ∷ []))
      (greatest_costs o (branch ∷ load ∷ [])) (Loads f a to s)
      (comes-br_taken o fits t shape Eq (to + 2) (to + 1) (pos 2) (Loads f a to s) (standing-head branch (load ∷ []) at')
      (test ∙ hit)
      (record {
        below = λ r under. keeps.below r (omega arith);
        above = keeps.above;
        banks = sets.banks;
        slots = unchanged;
      }))
      (sym skipped) refl (omega arith) (λ u shape' loads. loads))
      (λ miss.
      let seen : seen_of mode s.banks s.slots a ≡ read_event h.bank b (block_in s.banks h.bank b) ∷ [] =
      ap (λ v. cond (may_skip mode h && is_held v h.bank b) [] (read_event h.bank b (block_in s.banks h.bank b) ∷ []))
      bound.holds
      ∙ ap (λ v. cond v [] (read_event h.bank b (block_in s.banks h.bank b) ∷ []))
      (and_right (may_skip mode h) ((h.bank == h.bank) && (c == b)) (and_right (h.bank == h.bank) (c == b) miss)) in
      runs-cons t branch (load ∷ []) [] (seen_of mode s.banks s.slots a) (Keeps f (to + 2) t) (Loads f a to s) at'
      (λ stands'. comes-br_on o fits t shape Eq (to + 2) (to + 1) (pos 2) (Keeps f (to + 2) t) stands' (test ∙ miss)
      (record { below = λ r under. refl; above = λ r over. refl; slots = refl; banks = refl }))
      (λ u shape' keeps' at''.
      let all : Keeps f (to + 1) s u = record {
        below = λ r under. keeps'.below r (omega arith) ∙ keeps.below r under;
        above = λ r over. keeps'.above r over ∙ keeps.above r over;
        slots = keeps'.slots ∙ keeps.slots;
        banks = keeps'.banks ∙ keeps.banks;
      } in
      runs-weaker u (load ∷ []) (read_event h.bank b (block_in u.banks h.bank b) ∷ []) (seen_of mode s.banks s.slots a)
      (Loads f a to u) (Loads f a to s)
      (runs-ldb to n u shape' within (keeps'.below (to + 1) (omega arith) ∙ has') at'')
      (ap (λ l. read_event h.bank b (block_in l h.bank b) ∷ []) all.banks ∙ sym seen)
      (λ v shape'' loads. loads-after f a to s u v all loads)))
      (cases_Bool (c == b)))

  runs-load : (mode : Mode) (to n : ℕ) (s : State) → IsShaped o s → StandsFor f s store → n < (home_of f x).length
      → to + 2 < first_kept f → register s (to + 1) ≡ pos ((home_of f x).block + n / words_a_block f)
      → (skip : Bool) → may_skip mode (home_of f x) ≡ skip → (skip ≡ true → (home_of f x).bank < 2)
      → StandsAt o s.place (load_code skip (home_of f x) to)
      → RunsThrough o s (load_code skip (home_of f x) to)
      (seen_of mode s.banks s.slots (record { home = home_of f x; block = (home_of f x).block + n / words_a_block f }))
      (Loads f (record { home = home_of f x; block = (home_of f x).block + n / words_a_block f }) to s)
  runs-load mode to n s shaped stands within small has true may few at =
      runs-skipping mode to n s shaped stands within small has may (few refl) at
  runs-load mode to n s shaped stands within small has false may few at =
      let h = home_of f x in
      let b = h.block + n / words_a_block f in
      let a : ArrayAccess = record { home = h; block = b } in
      runs-weaker s (Ldb h.slot h.bank (to + 1) ∷ []) (read_event h.bank b (block_in s.banks h.bank b) ∷ [])
      (seen_of mode s.banks s.slots a) (Loads f a to s) (Loads f a to s)
      (runs-ldb to n s shaped within has at)
      (sym (seen_of-unskipped mode s.banks s.slots a may))
      (λ t shape loads. loads)

  -- the word and the block are found
  runs-located : (mode : Mode) (to from : ℕ) (i : Tree) (code : List Instr) (s : State) → IsShaped o s
      → StandsFor f s store → to + 2 < first_kept f → from ≢ to + 1
      → RunsValue o f store mode to from i code s → (way : Numbering)
      → FitsNumbering way (home_of f x) to from (evaluated f.decls store i) → (fixed : Option ℤ)
      → fixed_index (home_of f x) i ≡ fixed
      → StandsAt o s.place (located_code way f (home_of f x) to from fixed code)
      → RunsThrough o s (located_code way f (home_of f x) to from fixed code)
      (seen_of_all mode s.banks s.slots (accesses f store i))
      (Finds f store (accesses f store i) to (word_number f store x (evaluated f.decls store i))
      (access_of f store x (evaluated f.decls store i)).block s)
  runs-located mode to from i code s shaped stands small other run way own (Some z) is at =
      let h = home_of f x in
      let n = word_number f store x z in
      let w = words_a_block f in
      let number : i ≡ Number z = fixed-is h i z is in
      subst
      (λ e.
      RunsThrough o s (fixed_code f.profile.block_log h to z) (seen_of_all mode s.banks s.slots (accesses f store e))
      (Finds f store (accesses f store e) to (word_number f store x (evaluated f.decls store e))
      (access_of f store x (evaluated f.decls store e)).block s))
      (sym number)
      (runs-weaker s (fixed_code f.profile.block_log h to z) [] []
      (Locates f to (fixed_word h z) (h.block + fixed_word h z / w) s)
      (Finds f store [] to n (h.block + n / w) s)
      (runs-fixed o fits f store f.profile.block_log h to z s shaped small at)
      refl
      (λ t shape locates. record {
        word = locates.word ∙ ap pos (word_number-is z);
        block = locates.block ∙ ap (λ m. pos (h.block + m / w)) (word_number-is z);
        below = locates.keeps.below;
        banks = locates.keeps.banks;
        slots = locates.keeps.slots;
        stands = stands-like f s t store locates.keeps.slots locates.keeps.banks locates.keeps.above stands;
      }))
  runs-located mode to from i code s shaped stands small other run way own None is at =
      let h = home_of f x in
      let home = homes.arrays x label known turn in
      let w = words_a_block f in
      let index = evaluated f.decls store i in
      let n = word_number f store x index in
      let before = accesses f store i in
      let seen = seen_of_all mode s.banks s.slots before in
      let Found : State → Type 0 = Finds f store before to n (h.block + n / w) s in
      let log_small : f.profile.block_log < 64 = omega (arith, (profile-fits fits homes).block_log) in
      let block_small : h.block + n / w < 2 ^ 63 =
      omega (arith, block-small o fits f homes label h home n (word-within index)) in
      let number = numbered_code way f h to from in
      runs-weaker s (code ++ (number ++ shift_code f h to)) (seen ++ []) seen Found Found
      (runs-append s code (number ++ shift_code f h to) seen [] (LeavesAt f store before to from index s) Found at run
      (λ t shape leaves at'.
      runs-append t number (shift_code f h to) [] []
      (Numbers f (numbered_register way to from) to (unsigned_of index % h.length) t) Found at'
      (runs-numbered o fits f store way h to from t index shape leaves.stands leaves.value other own small home.length.0 home.length.1)
      (λ u shape' reduces at''.
      let word : register u to ≡ pos n =
      ap (register u) (sym (numbered-loaded way h to from index own turn)) ∙ reduces.word
      ∙ ap pos (word_number-is index) in
      let stands' = stands-like f t u store reduces.keeps.slots reduces.keeps.banks reduces.keeps.above leaves.stands in
      runs-weaker u (shift_code f h to) [] [] (Locates f to n (h.block + n / w) u) Found
      (runs-block o fits f store h to u n shape' stands' word small log_small block_small at'')
      refl
      (λ v shape'' locates.
      let banks = locates.keeps.banks ∙ reduces.keeps.banks in
      let slots = locates.keeps.slots ∙ reduces.keeps.slots in
      record {
        word = locates.word;
        block = locates.block;
        below = λ r under. locates.keeps.below r under ∙ reduces.keeps.below r under ∙ leaves.below r under;
        banks = banks ∙ leaves.banks;
        slots = slots ∙ leaves.slots;
        stands =
            stands-like f t v store slots banks
            (λ r over. locates.keeps.above r over ∙ reduces.keeps.above r over) leaves.stands;
      }))))
      (append-nil seen)
      (λ t shape found. found)

  -- the whole access
  pub runs-access : (way : Numbering) (mode : Mode) (to from : ℕ) (i : Tree) (code : List Instr) (s : State)
      → IsShaped o s → StandsFor f s store → to + 2 < first_kept f → from ≢ to + 1
      → FitsNumbering way (home_of f x) to from (evaluated f.decls store i)
      → RunsValue o f store mode to from i code s → StandsAt o s.place
      (access_by false way f mode (home_of f x) to from (fixed_index (home_of f x) i) code)
      → RunsThrough o s
      (access_by false way f mode (home_of f x) to from (fixed_index (home_of f x) i) code)
      (seen_of_all mode s.banks s.slots (accesses f store i ++ access_of f store x (evaluated f.decls store i) ∷ []))
      (Accesses f store (accesses f store i)
      (access_of f store x (evaluated f.decls store i)) to (word_number f store x (evaluated f.decls store i)) s)
  runs-access way mode to from i code s shaped stands small other own run at =
      let h = home_of f x in
      let home = homes.arrays x label known turn in
      let w = words_a_block f in
      let fixed = fixed_index h i in
      let index = evaluated f.decls store i in
      let n = word_number f store x index in
      let before = accesses f store i in
      let a = access_of f store x index in
      let located = located_code way f h to from fixed code in
      let load = load_code (skips mode h) h to in
      let first = seen_of_all mode s.banks s.slots before in
      let second = seen_of mode s.banks (slots_after s.banks s.slots before) a in
      let Found : State → Type 0 = Finds f store before to n a.block s in
      let Done : State → Type 0 = Accesses f store before a to n s in
      let shown : first ++ second ≡ seen_of_all mode s.banks s.slots (before ++ a ∷ []) =
      ap (λ l. first ++ l) (sym (append-nil second)) ∙ sym (seen_of_all-append mode s.banks s.slots before (a ∷ [])) in
      runs-weaker s (located ++ load) (first ++ second) (seen_of_all mode s.banks s.slots (before ++ a ∷ [])) Done Done
      (runs-append s located load first second Found Done at
      (runs-located mode to from i code s shaped stands small other run way own fixed refl)
      (λ t shape finds at'.
      runs-weaker t load (seen_of mode t.banks t.slots a) second (Loads f a to t) Done
      (runs-load mode to n t shape finds.stands (word-within index) small finds.block (skips mode h)
      (may_skip-is mode h) (cached-bank mode h) at')
      (ap (λ b. seen_of mode b t.slots a) finds.banks ∙ ap (λ l. seen_of mode s.banks l a) finds.slots)
      (λ u shape' loads.
      let served = serves-within home.slot in
      let slots : u.slots ≡ slots_after s.banks s.slots (before ++ a ∷ []) =
      loads.slots
      ∙ ap (λ b. slots_after b t.slots (a ∷ [])) finds.banks
      ∙ ap (λ l. slots_after s.banks l (a ∷ [])) finds.slots
      ∙ sym (slots_after-append s.banks s.slots before (a ∷ [])) in
      let found : Slot = Bound h.bank a.block (block_in t.banks h.bank a.block) in
      record {
        leaves = record {
          value = loads.below to (omega arith) ∙ finds.word;
          below = λ r under. loads.below r (omega arith) ∙ finds.below r under;
          banks = loads.banks ∙ finds.banks;
          slots = slots;
          stands =
              stands-like f (set_slot t h.slot found) u store loads.slots loads.banks loads.above
              (stands-loaded o f homes t shape.slot_count store finds.stands x label known turn a.block);
        };
        held =
            ap (λ l. get_or l h.slot Unbound) loads.slots
            ∙ get_or-set_same t.slots h.slot found Unbound (omega (arith, shape.slot_count, served))
            ∙ ap (λ b. Bound h.bank a.block (block_in b h.bank a.block)) finds.banks;
      })))
      shown
      (λ u shape done. done)
    where
      cached-bank : (mode : Mode) (h : Home) → skips mode h ≡ true → h.bank < 2
      cached-bank Public h is = ltb-true h.bank 2 is
      cached-bank Real h is = absurd (false≢true is)
      cached-bank Mirrored h is = absurd (false≢true is)
