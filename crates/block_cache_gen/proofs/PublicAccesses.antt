-- The public code of an access is passed: the word of an array, with its block in the array's slot.
use Rattle.std.proofs.Common.{pos, ◌==◌, ◌≡◌, ◌≢◌, ℕ, ◌+◌, ◌-◌, ◌<◌, ◌≤◌, Bool, true, false, not, ◌&&◌, ℤ, List, [], ◌∷◌, ◌++◌, length, length-append, append_assoc, Option, Some, None, refl, sym, ap, ◌∙◌, subst, ⊎_elim, arith}
use Rattle.std.specs.Prelude.{if◌then◌else◌}
use Rattle.gr_word.specs.declared.operations.Op.TheVariants.{Add}
use Rattle.std.specs.Option.{option_map}
use Rattle.std.proofs.lemmas.Bool.{cases_lt, ltb-true, ltb-false, and_parts, false≢true}
use Rattle.gr_word.specs.declared.variables.Label.{Label}
use Rattle.gr_word.specs.declared.variables.Shape.TheVariants.{Array}
use Rattle.lt_isa.specs.declared.symbols.Note.{Note}
use Rattle.lt_isa.specs.declared.instructions.Instr.{Instr}
use Rattle.lt_isa.specs.Prelude.{Parts}
use Rattle.src_tree.specs.Prelude.{context_of, label_of, secret_label, height_of, Tree, TypedTree, DeclaredOnce}
use Rattle.trace_patterns.specs.Prelude.{Known, is_secret, bank_known, set_bank, set_secret, FitsClaim, note_known, claimed_at}
use Rattle.stretches.specs.Prelude.{StandsAt, HoldsAt, AsItComes, AsClaimed, Passes, Done, NotesBetween}
use Rattle.stretches.proofs.Standing.{standing-first, standing-rest}
use Rattle.stretches.proofs.Passed.{passes-then, passes-to, passes-goes, passes-noted, no_note-before, no_note-behind, notes-before, notes-behind, no_note-there, notes-within, noted, bank-same, secret-same, rules-li, One, NoMore, LieBetween, lie_wider, lie_both}
use Rattle.block_cache_gen.specs.declared.frames.Mode.TheVariants.{Public}
use Rattle.block_cache_gen.specs.Prelude.{Home, Setting, HasHomes, Serves, home_of, pin_of, is_cached, is_masked, compares, is_within_home, numbering_by, is_in_place, numbering, reducing, reducer, compared_code, numbered_code, numbered_register, applied_code, fixed_index, reduced_code, shift_code, offset_code, placed_code, located_code, load_code, access_by, operand, operand_part, operand_register, operand_unless, index_operand, indexed_code, expr_code, unmarked, access_mask, note_of, compared_notes, loading_code, loaded_notes, load_notes, index_notes, expr_notes, Carries, HasLabel, shows_index, IndexIsPublic, first_kept, room_of}
use Rattle.block_cache_gen.specs.declared.indexes.Numbering.{Numbering}
use Rattle.block_cache_gen.specs.declared.indexes.Numbering.TheVariants.{Compared, Reduced, Within}
use Rattle.block_cache_gen.proofs.HeldOperands.{IsOperandOf, operand-unless, operand-apart}
use Rattle.block_cache_gen.proofs.OperandPasses.{ExprPasses, kept-here, passes-here, operand-passes}
use Rattle.block_cache_gen.proofs.KeptBelow.{LeavesPublic, KeptBelow}
use Rattle.block_cache_gen.proofs.NoteClaims.{leaves-without, leaves-later, claimed-register, note-fits, note-carries}
use Rattle.block_cache_gen.proofs.NotesOfCode.{compared-lie, located-lie, index_length, located-longer, access-longer, load-lies, index-lie, operand-lie, expression-lies}
use Rattle.block_cache_gen.proofs.BaseMarks.{unmarked-same, unmarked-other}
use Rattle.block_cache_gen.proofs.KeptRegisters.{SameBelow, same-itself, same-set, same-bound, carries-same, kept-same}
use Rattle.block_cache_gen.proofs.AccessLabels.{shifted-numbered, reduced-numbered, offset_by, compared_known, compared_same, compared_word, divided_known, divided_same, divided_word, compared-by, fixed-numbered, asked_known, asked_same, asked_block, skipped_by, loaded-by}
use Rattle.block_cache_gen.proofs.IndexRuns.{numbered-apart}
use Rattle.block_cache_gen.proofs.Sizes.{applied_some, compared_some, offset_length, shift_some}
use Rattle.block_cache_gen.proofs.HomeFacts.{offset-none, serves-oblivious, serves-cached, shows-cached, shown-low}
use Rattle.gr_word.specs.declared.variables.Label.TheVariants as label

-- the code of an access, and its notes
abbrev pub array_code : Setting → ℕ → List ℕ → Tree → List Instr
array_code f to x i =
    indexed_code f (numbering f Public (home_of f x) i) Public (home_of f x) to i (expr_code f Public to i)

-- the notes of an access to an array
abbrev pub array_notes : Setting → (mask to p : ℕ) → List ℕ → Tree → List Note
array_notes f mask to p x i =
    index_notes (fixed_index (home_of f x) i)
    (operand_part (index_operand f (numbering f Public (home_of f x) i) (home_of f x) i) (expr_notes f mask to p i))
    ++ load_notes (numbering f Public (home_of f x) i) (fixed_index (home_of f x) i) f (home_of f x) mask to
    (p + length (array_code f to x i))

-- the word is located: where its memory shows addresses, its number and that of its block are public
record LocatedAt (o : Parts) (f : Setting) (h : Home) (mask to : ℕ) (p : ℕ) (k holds : Known) (q : ℕ) : Type 0 where
  last : Known
  passes : Passes o p k q last
  kept : KeptBelow f mask to holds last
  word : h.bank < 2 → is_secret last to ≡ false
  block : h.bank < 2 → is_secret last (to + 1) ≡ false

-- the place of a resident array's word is found: its number is public where it shows
record PlacedAt (o : Parts) (f : Setting) (h : Home) (mask to : ℕ) (p : ℕ) (k holds : Known) (q : ℕ) : Type 0 where
  last : Known
  held : Known
  passes : Passes o p k q last
  here : HoldsAt o q last held
  kept : KeptBelow f mask to holds held
  word : shows_index h ≡ true → is_secret held to ≡ false

-- the number of a word is found, from an index of a label, in a register
record NumberedAt (o : Parts) (f : Setting) (l : Label) (mask to at : ℕ) (p : ℕ) (k holds : Known)
    (q : ℕ) : Type 0 where
  last : Known
  held : Known
  passes : Passes o p k q last
  here : HoldsAt o q last held
  kept : KeptBelow f mask to holds held
  word : l ≡ label.Public → is_secret held at ≡ false

-- the block of the word is in its slot
pub record AccessPassed (o : Parts) (f : Setting) (h : Home) (mask to : ℕ) (p : ℕ) (k holds : Known)
    (q : ℕ) : Type 0 where
  pub last : Known
  pub held : Known
  pub passes : Passes o p k q last
  pub here : HoldsAt o q last held
  pub kept : KeptBelow f mask to holds held
  pub bound : bank_known held h.slot ≡ Some h.bank
  pub word : shows_index h ≡ true → is_secret held to ≡ false

module _ (o : Parts) (f : Setting) (homes : HasHomes o f) (once : DeclaredOnce f.decls) where
  -- The number of a word is found, after the code of the index.
  module _ (h : Home) (l : Label) (mask to : ℕ) (low : to + 2 < first_kept f) (p : ℕ) (comes k holds : Known)
      (here : HoldsAt o p comes k) (leaves : LeavesPublic f mask to holds) (kept : KeptBelow f mask to holds k) where
    -- the mask leaves the registers below and the number of the word public
    leaves_number : (m : Known) → SameBelow f to k m → is_secret m to ≡ false
        → LeavesPublic f (unmarked mask to) (to + 1) m
    leaves_number m same word =
        leaves-without f mask to to (to + 1) m
        (leaves-later f mask to holds m leaves (λ s lt unmarks. same.registers s lt ∙ kept.publics s lt unmarks))
        (omega arith) (omega arith) (omega arith) word

    compared_at : HasLabel k to l → l ≡ label.Public → StandsAt o p (compared_code h to)
        → NotesBetween o p (p + 6 + 1) (note_of f (unmarked mask to) (p + 6) ∷ []) → p + 6 < length o.code
        → NumberedAt o f l mask to to p comes holds (p + 6)
    compared_at labelled public stands between inside =
        let r = p + 6 in
        let note = note_of f (unmarked mask to) r in
        let claim = note_known note in
        let sized = kept.carries.registers in
        let open_index : is_secret k to ≡ false = labelled ∙ ap secret_label public in
        let one = compared_known o f to low h k sized open_index in
        let near = compared_same o f to low h k sized open_index in
        let same_one : SameBelow f to k one = record {
          sized = near.sized;
          count = near.count;
          registers = λ s lt. near.registers s (omega arith);
          above = near.above;
          slots = near.slots;
        } in
        let last = divided_known o f to low h k sized open_index in
        let same = divided_same o f to low h k sized open_index in
        let left = leaves_number one same_one (compared_word o f to low h k sized open_index) in
        let fit_one : FitsClaim one claim = note-fits o f homes once (unmarked mask to) r (to + 1) one
        (carries-same f to k one kept.carries same_one)
        left in
        let fit : FitsClaim last claim = note-fits o f homes once (unmarked mask to) r (to + 1) last
        (carries-same f to k last kept.carries same)
        (leaves_number last same (divided_word o f to low h k sized open_index)) in
        let at : claimed_at o r ≡ Some claim = noted o p (r + 1) note between (omega arith) (omega arith) in
        let goes = compared-by o f to low h k sized open_index p claim inside at fit_one in
        record {
          last = last;
          held = claim;
          passes = passes-here o p (compared_code h to) comes k last here goes stands (omega arith)
              (λ s above below. between s above (omega arith)
              ∙ ap (option_map note_known) (no_note-before (p + 5) (p + 7) s (note ∷ [])
              ((omega arith, omega arith), tt) (omega arith)))
              inside;
          here = AsClaimed last claim at fit;
          kept = record {
            carries = note-carries o f homes once (unmarked mask to) r left.held;
            publics = λ s lt unmarks. claimed-register f (unmarked mask to) r s (omega arith)
                ∙ unmarked-other mask to s (omega arith) (omega arith) (λ e. absurd (omega arith)) ∙ unmarks;
            secrets = λ s lt secret. fit.registers s (same.registers s lt ∙ kept.secrets s lt secret);
          };
          word = λ e. claimed-register f (unmarked mask to) r to (omega arith) ∙ unmarked-same mask to (omega arith);
        }

    -- an index that is compared isn't in a register that holds it for the whole run
    numbered_at : (q : Option ℕ) → operand_register q to ≢ to + 1 → HasLabel k (operand_register q to) l
        → (near : Numbering) → (is_in_place h near ≡ true → q ≡ None) → (near ≡ Compared → l ≡ label.Public)
        → StandsAt o p (numbered_code near f h to (operand_register q to))
        → NotesBetween o p (p + length (numbered_code near f h to (operand_register q to)) + 1)
        (compared_notes near None f mask to (p + length (numbered_code near f h to (operand_register q to))))
        → p + length (numbered_code near f h to (operand_register q to)) < length o.code
        → NumberedAt o f l mask to (numbered_register near to (operand_register q to)) p comes holds
        (p + length (numbered_code near f h to (operand_register q to)))
    numbered_at q apart labelled Compared own public stands between inside =
        compared_at (ap (λ (r : Option ℕ). is_secret k (operand_register r to)) (sym (own refl)) ∙ labelled)
        (public refl) stands between inside
    numbered_at q apart labelled Reduced own public stands between inside =
        let from = operand_register q to in
        let found = reduced-numbered o f homes.held to low h from apart p k kept.carries in
        let some = applied_some f (reducing h) to from (to + 1) (reducer h) in
        record {
          last = found.after;
          held = found.after;
          passes = passes-here o p (reduced_code f h to from) comes k found.after here found.goes stands some
              (λ s above below. between s above (omega arith))
              inside;
          here = AsItComes found.after (between (p + length (reduced_code f h to from)) (omega arith) (omega arith));
          kept = kept-same f mask to holds k found.after kept found.same;
          word = λ e. found.word_is ∙ labelled ∙ ap secret_label e;
        }
    numbered_at q apart labelled Within own public stands between inside =
        let empty : p ≡ p + 0 = omega arith in
        subst (NumberedAt o f l mask to (operand_register q to) p comes holds) empty
        (record {
          last = comes;
          held = k;
          passes = Done p comes;
          here = here;
          kept = kept;
          word = λ e. labelled ∙ ap secret_label e;
        })

  module _ (h : Home) (i : Tree) (typed : TypedTree (context_of f.decls) i) (mask to : ℕ) (low : to + 2 < first_kept f) (p : ℕ)
      (k holds : Known) (here : HoldsAt o p k holds) (carries : Carries f holds)
      (leaves : LeavesPublic f mask to holds) where
    held_kept : KeptBelow f mask to holds holds
    held_kept = kept-here f mask to holds (omega arith) carries leaves

    -- the index, and what its code is
    abbrev index_code : Option ℕ → List Instr
    index_code q = operand_part q (expr_code f Public to i)

    abbrev notes_of_index : Option ℕ → List Note
    notes_of_index q = operand_part q (expr_notes f mask to p i)

    index_notes-lie : (q : Option ℕ) → LieBetween p (p + length (index_code q)) (notes_of_index q)
    index_notes-lie q =
        operand-lie q p (expr_code f Public to i) (expr_notes f mask to p i) (expression-lies f i mask to p)

    apart_of : (q : Option ℕ) → IsOperandOf f i q → operand_register q to ≢ to + 1
    apart_of q is = let apart = operand-apart f i q is to in apart.apart (to + 1) (omega arith) (omega arith)

    -- The number of a word is in register `to` if the array isn't resident, or begins its block.
    number_loaded : (q : Option ℕ) (near : Numbering) → (is_in_place h near ≡ true → q ≡ None) → h.resident ≡ false
        → numbered_register near to (operand_register q to) ≡ to
    number_loaded q Compared own turn = refl
    number_loaded q Reduced own turn = refl
    number_loaded q Within own turn =
        ap (λ (r : Option ℕ). operand_register r to) (own (ap (λ (b : Bool). not (b && not (h.word == 0))) turn))

    number_first : (q : Option ℕ) (near : Numbering) → (is_in_place h near ≡ true → q ≡ None) → (h.word == 0) ≡ true
        → numbered_register near to (operand_register q to) ≡ to
    number_first q Compared own begins = refl
    number_first q Reduced own begins = refl
    number_first q Within own begins = ap (λ (r : Option ℕ). operand_register r to) (own (ap not (offset-none h begins)))

    -- by the code of the index, or as a number
    located_by : (q : Option ℕ) → IsOperandOf f i q → (near : Numbering) → (is_in_place h near ≡ true → q ≡ None)
        → (near ≡ Compared → label_of (context_of f.decls) i ≡ label.Public) → (fixed : Option ℤ)
        → StandsAt o p (located_code near f h to (operand_register q to) fixed (index_code q))
        → NotesBetween o p (p + length (located_code near f h to (operand_register q to) fixed (index_code q)))
        (index_notes fixed (notes_of_index q)
        ++ compared_notes near fixed f mask to
        (p + length (located_code near f h to (operand_register q to) fixed (index_code q))
        - length (shift_code f h to)))
        → p + length (located_code near f h to (operand_register q to) fixed (index_code q)) < length o.code
        → to + height_of i ≤ room_of f → ExprPasses o f i
        → (h.bank < 2 → label_of (context_of f.decls) i ≡ label.Public)
        → h.resident ≡ false
        → LocatedAt o f h mask to p k holds
        (p + length (located_code near f h to (operand_register q to) fixed (index_code q)))
    located_by q is near own open_index (Some z) stands between inside high index public turn =
        let l = fixed-numbered o f to low f.profile.block_log h z p holds carries.registers in
        record {
          last = l.after;
          passes = passes-noted o p _ _ k holds l.after here l.goes stands between inside;
          kept = kept-same f mask to holds holds l.after held_kept l.same;
          word = λ cached. l.word_is;
          block = λ cached. l.block_is;
        }
    located_by q is near own open_index None stands between inside high index public turn =
        let code = index_code q in
        let from = operand_register q to in
        let number = numbered_code near f h to from in
        let shift = shift_code f h to in
        let rest = number ++ shift in
        let mid = p + length code in
        let next = mid + length number in
        let last = p + length (code ++ rest) in
        let size : length (code ++ rest) ≡ length code + length rest = length-append code rest in
        let rest_size : length rest ≡ length number + length shift = length-append number shift in
        let some_number = compared_some near f h to from in
        let more = shift_some f h to in
        let before = notes_of_index q in
        let behind = compared_notes near None f mask to next in
        let place : last - length shift ≡ next = omega arith in
        let all : NotesBetween o p last (before ++ behind) =
        subst (λ (n : ℕ). NotesBetween o p last (before ++ compared_notes near None f mask to n)) place between in
        let lie_before : LieBetween p mid before = index_notes-lie q in
        let lie_behind : LieBetween mid (next + 1) behind =
        compared-lie near f mask to next mid (next + 1) (λ is. omega (arith, some_number is)) (omega arith) in
        let lie_wide : LieBetween mid last behind =
        compared-lie near f mask to next mid last (λ is. omega (arith, some_number is)) (omega arith) in
        let later : NotesBetween o mid last behind =
        notes-behind o p mid last before behind lie_before lie_wide all (omega arith) in
        let first = operand-passes o f homes i typed q is index mask to p k holds high (omega arith) last behind
        (standing-first code rest stands) all lie_wide (omega arith) (omega arith) here carries leaves in
        let stands_rest = standing-rest code rest stands in
        let found = numbered_at h (label_of (context_of f.decls) i) mask to low mid first.last first.held holds
        first.here leaves first.kept q (apart_of q is) first.labelled near own open_index
        (standing-first number shift stands_rest)
        (notes-within o mid last mid (next + 1) behind (omega arith) (omega arith) later) (omega arith) in
        let second = subst
        (λ (at : ℕ). NumberedAt o f (label_of (context_of f.decls) i) mask to at mid first.last holds next)
        (number_loaded q near own turn) found in
        let l = shifted-numbered o f homes.held to low h next second.held second.kept.carries in
        let quiet_after : (r : ℕ) → next < r → r < last → claimed_at o r ≡ None = (λ r above below.
        later r (omega arith) below
        ∙ ap (option_map note_known) (no_note-behind mid (next + 1) r behind lie_behind (omega arith))) in
        let third : Passes o next second.last (next + length shift) l.after =
        passes-here o next shift second.last second.held l.after second.here l.goes
        (standing-rest number shift stands_rest) (omega (arith, more))
        (λ r above below. quiet_after r above (omega arith)) (omega arith) in
        record {
          last = l.after;
          passes
              = passes-to o p k (next + length shift) last l.after (omega arith)
              (passes-then o p k mid first.last first.passes (next + length shift) l.after
              (passes-then o mid first.last next second.last second.passes (next + length shift) l.after third));
          kept = kept-same f mask to holds second.held l.after second.kept l.same;
          word = λ cached. l.word_is ∙ second.word (public cached);
          block = λ cached. l.block_is ∙ second.word (public cached);
        }

    -- the load: one that may be skipped is followed by a note
    module _ (x : List ℕ) (l : Label) (declared : context_of f.decls x ≡ Some (l, Array))
        (turn : (home_of f x).resident ≡ false) (q r : ℕ) (found : Known)
        (kept : KeptBelow f mask to holds found) (word : (home_of f x).bank < 2 → is_secret found to ≡ false)
        (block : (home_of f x).bank < 2 → is_secret found (to + 1) ≡ false) (none : claimed_at o q ≡ None)
        (inside : r < length o.code) where
      serves : Serves (home_of f x).bank (home_of f x).slot
      serves = let h = homes.arrays x l declared turn in h.slot

      loaded_claimed : (home_of f x).bank < 2 → q + 3 ≡ r
          → NotesBetween o q (r + 1) (note_of f (access_mask mask to) r ∷ [])
          → StandsAt o q (load_code true (home_of f x) to)
          → AccessPassed o f (home_of f x) mask to q found holds r
      loaded_claimed cached size between stands =
          let h = home_of f x in
          let claim = note_known (note_of f (access_mask mask to) r) in
          let range = serves-cached serves cached in
          let sized = kept.carries.registers in
          let one = asked_known o f to low h found sized in
          let same = asked_same o f to low h found sized in
          let two = set_bank one h.slot h.bank in
          let bound : bank_known found h.slot ≡ Some h.bank = kept.carries.arrays x l declared turn range in
          let high = range.1 in
          let carried : Carries f one = carries-same f (to + 2) found one kept.carries same in
          let bound_one : bank_known one h.slot ≡ Some h.bank = carried.arrays x l declared turn range in
          let slots = carried.slots in
          let carried_two : Carries f two = carries-same f (to + 2) one two carried
          (same-bound f (to + 2) one one h.slot h.bank (same-itself f (to + 2) one) (omega arith) (λ lt. bound_one)) in
          let later : LeavesPublic f mask to one = leaves-later f mask to holds one leaves
          (λ s lt unmarks. same.registers s (omega arith) ∙ kept.publics s lt unmarks) in
          let first = leaves-without f mask to to (to + 1) one later (omega arith) (omega arith) (omega arith)
          (same.registers to (omega arith) ∙ word cached) in
          let second = leaves-without f (unmarked mask to) (to + 1) (to + 1) (to + 2) one first (omega arith)
          (omega arith)
          (omega arith) (same.registers (to + 1) (omega arith) ∙ block cached) in
          let third = leaves-without f (unmarked (unmarked mask to) (to + 1)) (to + 2) (to + 2) (to + 3) one second
          (omega arith) (omega arith) (omega arith) (asked_block o f to low h found sized) in
          let fit : FitsClaim one claim = note-fits o f homes once (access_mask mask to) r (to + 3) one carried third in
          let fit_two : FitsClaim two claim = note-fits o f homes once (access_mask mask to) r
          (to + 3) two carried_two (record { lower = third.lower; held = third.held }) in
          let at : claimed_at o r ≡ Some claim = noted o q (r + 1) (note_of f (access_mask mask to) r) between
          (omega arith)
          (omega arith) in
          let goes = skipped_by o f to low h found sized q claim cached bound (block cached) (omega arith)
          (subst (λ (s : ℕ). claimed_at o s ≡ Some claim) (sym size) at) fit in
          let quiet : (s : ℕ) → q ≤ s → s < q + 3 → claimed_at o s ≡ None = (λ s above below.
          ⊎_elim
          (λ (lt : q < s). between s lt (omega arith)
          ∙ ap (option_map note_known) (no_note-before (r - 1) (r + 1) s (note_of f (access_mask mask to) r ∷ [])
          ((omega arith, omega arith), tt) (omega arith)))
          (λ (le : s ≤ q). let e : q ≡ s = omega arith in subst (λ (t : ℕ). claimed_at o t ≡ None) e none)
          (cases_lt q s)) in
          record {
            last = two;
            held = claim;
            passes = passes-to o q found (q + 3) r two size (passes-goes o q _ found two goes stands quiet
                (omega arith));
            here = AsClaimed two claim at fit_two;
            kept
                = record {
                  carries = note-carries o f homes once (access_mask mask to) r third.held;
                  publics = λ s lt unmarks. claimed-register f (access_mask mask to) r s (omega arith)
                      ∙ unmarked-other (unmarked (unmarked mask to) (to + 1)) (to + 2) s (omega arith) (omega arith)
                      (λ e. absurd (omega arith))
                      ∙ unmarked-other (unmarked mask to) (to + 1) s (omega arith) (omega arith) (λ e. absurd
                      (omega arith))
                      ∙ unmarked-other mask to s (omega arith) (omega arith) (λ e. absurd (omega arith)) ∙ unmarks;
                  secrets = λ s lt secret. fit.registers s (same.registers s (omega arith) ∙ kept.secrets s lt secret);
                };
            bound = let c = note-carries o f homes once (access_mask mask to) r third.held in c.arrays x l declared turn range;
            word = λ shows. claimed-register f (access_mask mask to) r to (omega arith)
                ∙ unmarked-other (unmarked (unmarked mask to) (to + 1)) (to + 2) to (omega arith) (omega arith)
                (λ e. absurd (omega arith))
                ∙ unmarked-other (unmarked mask to) (to + 1) to (omega arith) (omega arith) (λ e. absurd (omega arith))
                ∙ unmarked-same mask to (omega arith);
          }

      loaded_plainly : 2 ≤ (home_of f x).bank → q + 1 ≡ r → NotesBetween o q (r + 1) []
          → StandsAt o q (load_code false (home_of f x) to) → AccessPassed o f (home_of f x) mask to q found holds r
      loaded_plainly high size between stands =
          let h = home_of f x in
          let six : h.slot ≡ 6 = serves-oblivious serves high in
          let slots = kept.carries.slots in
          let two = set_bank found h.slot h.bank in
          let same : SameBelow f to found two = same-bound f to found found h.slot h.bank (same-itself f to found)
          (omega arith)
          (λ apart. absurd (apart six)) in
          let quiet : (s : ℕ) → q ≤ s → s < q + 1 → claimed_at o s ≡ None = (λ s above below.
          let e : q ≡ s = omega arith in subst (λ (t : ℕ). claimed_at o t ≡ None) e none) in
          record {
            last = two;
            held = two;
            passes
                = passes-to o q found (q + 1) r two size
                (passes-goes o q _ found two (loaded-by o f to low h found q high) stands quiet (omega arith));
            here = AsItComes two (between r (omega arith) (omega arith));
            kept = kept-same f mask to holds found two kept same;
            bound = bank-same found h.slot h.bank (omega arith);
            word = λ shows. absurd (omega (arith, shown-low (home_of f x) shows));
          }

      loaded_if : (cached : Bool) → is_cached (home_of f x) ≡ cached
          → StandsAt o q (load_code cached (home_of f x) to) → q + length (load_code cached (home_of f x) to) ≡ r
          → NotesBetween o q (r + 1) (if cached then note_of f (access_mask mask to) r ∷ [] else [])
          → AccessPassed o f (home_of f x) mask to q found holds r
      loaded_if true is stands size between = loaded_claimed (ltb-true (home_of f x).bank 2 is) size between stands
      loaded_if false is stands size between = loaded_plainly (ltb-false (home_of f x).bank 2 is) size between stands

    -- The place of a resident array's word is found.
    -- the number of the first word is added, unless that is 0
    offset_at : (at : ℕ) → at ≢ to + 1 → (q : ℕ) (comes found : Known) → HoldsAt o q comes found
        → KeptBelow f mask to holds found → (shows_index h ≡ true → is_secret found at ≡ false) → (first : Bool)
        → (first ≡ true → at ≡ to)
        → StandsAt o q (if first then [] else applied_code f Add to at (to + 1) (pos h.word))
        → ((r : ℕ) → q < r
        → r < q + length (if first then [] else applied_code f Add to at (to + 1) (pos h.word)) + 1
        → claimed_at o r ≡ None)
        → q + length (if first then [] else applied_code f Add to at (to + 1) (pos h.word)) < length o.code
        → PlacedAt o f h mask to q comes holds
        (q + length (if first then [] else applied_code f Add to at (to + 1) (pos h.word)))
    offset_at at apart q comes found here kept word true own stands quiet inside =
        let empty : q ≡ q + 0 = omega arith in
        subst (PlacedAt o f h mask to q comes holds) empty
        (record {
          last = comes;
          held = found;
          passes = Done q comes;
          here = here;
          kept = kept;
          word = λ shows. ap (is_secret found) (sym (own refl)) ∙ word shows;
        })
    offset_at at apart q comes found here kept word false own stands quiet inside =
        let offset = applied_code f Add to at (to + 1) (pos h.word) in
        let some = applied_some f Add to at (to + 1) (pos h.word) in
        let l = offset_by o f homes.held to low h at apart q found kept.carries in
        record {
          last = l.after;
          held = l.after;
          passes = passes-here o q offset comes found l.after here l.goes stands some
              (λ r above below. quiet r above (omega arith)) inside;
          here = AsItComes l.after (quiet (q + length offset) (omega arith) (omega arith));
          kept = kept-same f mask to holds found l.after kept l.same;
          word = λ shows. l.word_is ∙ word shows;
        }

    placed_by : (q : Option ℕ) → IsOperandOf f i q → (near : Numbering) → (is_in_place h near ≡ true → q ≡ None)
        → (near ≡ Compared → label_of (context_of f.decls) i ≡ label.Public) → (fixed : Option ℤ)
        → StandsAt o p (placed_code near f h to (operand_register q to) fixed (index_code q))
        → NotesBetween o p (p + length (placed_code near f h to (operand_register q to) fixed (index_code q)) + 1)
        (index_notes fixed (notes_of_index q)
        ++ compared_notes near fixed f mask to
        (p + length (placed_code near f h to (operand_register q to) fixed (index_code q)) - length (offset_code f h to to)))
        → p + length (placed_code near f h to (operand_register q to) fixed (index_code q)) < length o.code
        → to + height_of i ≤ room_of f → ExprPasses o f i
        → (shows_index h ≡ true → label_of (context_of f.decls) i ≡ label.Public)
        → PlacedAt o f h mask to p k holds (p + length (placed_code near f h to (operand_register q to) fixed (index_code q)))
    placed_by q is near own open_index (Some z) stands between inside high index public =
        let one = set_secret holds to false in
        let sized = carries.registers in
        record {
          last = one;
          held = one;
          passes = passes-noted o p _ _ k holds one here
              (One p _ _ holds one one (rules-li o p holds to _) (NoMore (p + 1) one)) stands
              (λ s above below. between s above (omega arith)) inside;
          kept = kept-same f mask to holds holds one held_kept
              (same-set f to holds holds to false (omega arith) (omega arith) (same-itself f to holds));
          word = λ shows. secret-same holds to false (omega arith);
          here = AsItComes one (between (p + 1) (omega arith) (omega arith));
        }
    placed_by q is near own open_index None stands between inside high index public =
        let code = index_code q in
        let from = operand_register q to in
        let number = numbered_code near f h to from in
        let at = numbered_register near to from in
        let offset = offset_code f h to at in
        let rest = number ++ offset in
        let mid = p + length code in
        let next = mid + length number in
        let last = p + length (code ++ rest) in
        let size : length (code ++ rest) ≡ length code + length rest = length-append code rest in
        let rest_size : length rest ≡ length number + length offset = length-append number offset in
        let some_number = compared_some near f h to from in
        let before = notes_of_index q in
        let behind = compared_notes near None f mask to next in
        let place : last - length (offset_code f h to to) ≡ next = omega (arith, offset_length f h to at) in
        let all : NotesBetween o p (last + 1) (before ++ behind) =
        subst (λ (n : ℕ). NotesBetween o p (last + 1) (before ++ compared_notes near None f mask to n)) place between in
        let lie_before : LieBetween p mid before = index_notes-lie q in
        let lie_behind : LieBetween mid (next + 1) behind =
        compared-lie near f mask to next mid (next + 1) (λ is. omega (arith, some_number is)) (omega arith) in
        let lie_wide : LieBetween mid (last + 1) behind =
        compared-lie near f mask to next mid (last + 1) (λ is. omega (arith, some_number is)) (omega arith) in
        let later : NotesBetween o mid (last + 1) behind =
        notes-behind o p mid (last + 1) before behind lie_before lie_wide all (omega arith) in
        let first = operand-passes o f homes i typed q is index mask to p k holds high (omega arith) (last + 1) behind
        (standing-first code rest stands) all lie_wide (omega arith) (omega arith) here carries leaves in
        let stands_rest = standing-rest code rest stands in
        let second = numbered_at h (label_of (context_of f.decls) i) mask to low mid first.last first.held holds
        first.here leaves first.kept q (apart_of q is) first.labelled near own open_index
        (standing-first number offset stands_rest)
        (notes-within o mid (last + 1) mid (next + 1) behind (omega arith) (omega arith) later) (omega arith) in
        let quiet_after : (r : ℕ) → next < r → r < last + 1 → claimed_at o r ≡ None = (λ r above below.
        later r (omega arith) below
        ∙ ap (option_map note_known) (no_note-behind mid (next + 1) r behind lie_behind (omega arith))) in
        let third = offset_at at (numbered-apart near to from (apart_of q is)) next second.last second.held second.here
        second.kept (λ shows. second.word (public shows)) (h.word == 0) (number_first q near own) (standing-rest number offset stands_rest)
        (λ r above below. quiet_after r above (omega arith)) (omega arith) in
        let place_of_end : next + length offset ≡ last = omega arith in
        subst (PlacedAt o f h mask to p k holds) place_of_end
        (record {
          last = third.last;
          held = third.held;
          passes
              = passes-then o p k mid first.last first.passes (next + length offset) third.last
              (passes-then o mid first.last next second.last second.passes (next + length offset) third.last
              third.passes);
          here = third.here;
          kept = third.kept;
          word = third.word;
        })

  -- a whole access, of an array that is resident or isn't
  abbrev code_by : (resident : Bool) → (near : Numbering) → ℕ → List ℕ → Tree → List Instr
  code_by b near to x i =
      access_by b near f Public (home_of f x) to (operand_register (index_operand f near (home_of f x) i) to)
      (fixed_index (home_of f x) i) (operand_part (index_operand f near (home_of f x) i) (expr_code f Public to i))

  -- an index that is copied is an operand in no register that holds it for the whole run
  copied_own : (h : Home) (i : Tree) (near : Numbering) → is_in_place h near ≡ true → index_operand f near h i ≡ None
  copied_own h i near e = ap (λ (b : Bool). operand_unless b (operand f i)) e

  passes_by : (x : List ℕ) (l : Label) (i : Tree) → TypedTree (context_of f.decls) i → (mask to p : ℕ) (k holds : Known)
      → context_of f.decls x ≡ Some (l, Array) → (b : Bool) (near : Numbering) → (home_of f x).resident ≡ b
      → (near ≡ Compared → label_of (context_of f.decls) i ≡ label.Public)
      → (shows_index (home_of f x) ≡ true → label_of (context_of f.decls) i ≡ label.Public)
      → ExprPasses o f i → to + height_of i ≤ room_of f → to + 2 < first_kept f
      → StandsAt o p (code_by b near to x i)
      → NotesBetween o p (p + length (code_by b near to x i) + 1)
      (index_notes (fixed_index (home_of f x) i) (operand_part (index_operand f near (home_of f x) i) (expr_notes f mask to p i))
      ++ loaded_notes b near (fixed_index (home_of f x) i) f (home_of f x) mask to (p + length (code_by b near to x i)))
      → p + length (code_by b near to x i) < length o.code → HoldsAt o p k holds → Carries f holds
      → LeavesPublic f mask to holds
      → AccessPassed o f (home_of f x) mask to p k holds (p + length (code_by b near to x i))
  passes_by x l i typed mask to p k holds declared true near is open_index public index high low stands between inside here
      carries leaves =
      let h = home_of f x in
      let found = placed_by h i typed mask to low p k holds here carries leaves (index_operand f near (home_of f x) i)
      (operand-unless f i (is_in_place h near)) near (copied_own h i near) open_index (fixed_index h i) stands between
      inside high index public in
      let home = homes.residents x l Array declared is in
      let pin = homes.pins h.slot (pin_of h) home.pinned in
      record {
        last = found.last;
        held = found.held;
        passes = found.passes;
        here = found.here;
        kept = found.kept;
        bound = found.kept.carries.pinned h.slot (pin_of h) home.pinned pin.few pin.apart;
        word = found.word;
      }
  passes_by x l i typed mask to p k holds declared false near turn open_index public index high low stands between inside here
      carries leaves =
      let h = home_of f x in
      let fixed = fixed_index h i in
      let q_of_index = index_operand f near (home_of f x) i in
      let from = operand_register q_of_index to in
      let code = operand_part q_of_index (expr_code f Public to i) in
      let shift = shift_code f h to in
      let first = located_code near f h to from fixed code in
      let load = load_code (is_cached h) h to in
      let q = p + length first in
      let r = p + length (first ++ load) in
      let size : length (first ++ load) ≡ length first + length load = length-append first load in
      let longer = located-longer near f h to from fixed code in
      let more = access-longer near f h to from fixed code in
      let notes = index_notes fixed (operand_part q_of_index (expr_notes f mask to p i)) in
      let compared = compared_notes near fixed f mask to (q - length shift) in
      let before = notes ++ compared in
      let behind = if is_cached h then note_of f (access_mask mask to) r ∷ [] else [] in
      let place : r - length (loading_code f h to) ≡ q - length shift =
      omega (arith, size, length-append shift load) in
      let all : NotesBetween o p (r + 1) (before ++ behind) =
      subst (NotesBetween o p (r + 1))
      (ap (λ (n : ℕ). notes ++ (compared_notes near fixed f mask to n ++ behind)) place
      ∙ sym (append_assoc notes compared behind))
      between in
      let lie_before : LieBetween p q before = lie_both p q notes compared
      (lie_wider p (p + index_length fixed code) p q notes (omega arith) (omega arith)
      (index-lie fixed p code (operand_part q_of_index (expr_notes f mask to p i))
      (index_notes-lie h i typed mask to low p k holds here carries leaves q_of_index)))
      (located-lie f h mask to from p near fixed code) in
      let lie_behind : LieBetween q (r + 1) behind = load-lies f h mask to r q (r + 1) (is_cached h) (omega arith)
      (omega arith) in
      let found = located_by h i typed mask to low p k holds here carries leaves
      q_of_index (operand-unless f i (is_in_place h near)) near
      (copied_own h i near) open_index fixed
      (standing-first first load stands)
      (notes-before o p q (r + 1) before behind lie_before lie_behind all (omega arith))
      (omega arith) high index (λ low_bank. public (shows-cached h turn low_bank)) turn in
      let held = loaded_if h i typed mask to low p k holds here carries leaves x l declared turn q r found.last found.kept
      found.word
      found.block (no_note-there o p q (r + 1) before behind lie_before lie_behind all (omega arith) (omega arith))
      inside (is_cached h) refl (standing-rest first load stands) (omega arith)
      (notes-behind o p q (r + 1) before behind lie_before lie_behind all (omega arith)) in
      record {
        last = held.last;
        held = held.held;
        passes = passes-then o p k q found.last found.passes r held.last held.passes;
        here = held.here;
        kept = held.kept;
        bound = held.bound;
        word = held.word;
      }

  -- only public indexes are compared
  label_public : (l : Label) → not (secret_label l) ≡ true → l ≡ label.Public
  label_public label.Public is = refl
  label_public label.Secret is = absurd (false≢true is)

  compares-public : (h : Home) (i : Tree) → compares f Public h i ≡ true
      → label_of (context_of f.decls) i ≡ label.Public
  compares-public h i is =
      let secret = not (secret_label (label_of (context_of f.decls) i)) in
      let part = and_parts f.reduces (not (is_masked h) && secret) is in
      let label = and_parts (not (is_masked h)) secret part.1 in
      label_public (label_of (context_of f.decls) i) label.1

  numbering-public : (h : Home) (i : Tree) → numbering f Public h i ≡ Compared
      → label_of (context_of f.decls) i ≡ label.Public
  numbering-public h i is = by (is_within_home f h i) (compares f Public h i) refl is
    where
      by : (near compared : Bool) → compares f Public h i ≡ compared → numbering_by near compared ≡ Compared
          → label_of (context_of f.decls) i ≡ label.Public
      by true compared e is = absurd (cc)
      by false true e is = compares-public h i e
      by false false e is = absurd (cc)

  pub access-passes : (x : List ℕ) (l : Label) (i : Tree) → TypedTree (context_of f.decls) i → (mask to p : ℕ)
      (k holds : Known) → context_of f.decls x ≡ Some (l, Array) → IndexIsPublic f x i
      → ExprPasses o f i → to + height_of i ≤ room_of f → to + 2 < first_kept f
      → StandsAt o p (array_code f to x i)
      → NotesBetween o p (p + length (array_code f to x i) + 1) (array_notes f mask to p x i)
      → p + length (array_code f to x i) < length o.code → HoldsAt o p k holds → Carries f holds
      → LeavesPublic f mask to holds
      → AccessPassed o f (home_of f x) mask to p k holds (p + length (array_code f to x i))
  access-passes x l i typed mask to p k holds declared public index high low stands between inside here carries leaves =
      passes_by x l i typed mask to p k holds declared (home_of f x).resident (numbering f Public (home_of f x) i) refl
      (numbering-public (home_of f x) i) public index high low stands between inside here carries leaves
