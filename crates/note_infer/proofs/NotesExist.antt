-- Least notes exist, if all places are reachable.
use Rattle.std.proofs.Common.{◌≡◌, ℕ, zero, suc, ◌+◌, ◌*◌, ◌%◌, ◌^◌, ◌<◌, ◌≤◌, ℤ, Bool, true, false, List, [], ◌∷◌, ◌++◌, length, map, slice_get, get_or, set, Option, Some, None, refl, sym, ap, ◌∙◌, subst, ⊎_elim, arith, bit_or, get_or-set_same, get_or-set_other}
use Rattle.std.specs.Prelude.{if◌then◌else◌, replicate}
use Rattle.std.proofs.lemmas.Bool.{cases_eq, cases_lt, ne_eqb, false≢true}
use Rattle.std.proofs.lemmas.List.{ext_get_or, get_or_past, get_or-map, length-map, get_or-replicate}
use Rattle.std.proofs.lemmas.Nat.{or_lt}
use Rattle.std.proofs.lemmas.Option.{slice_get-get_or}
use Rattle.gr_word.specs.declared.operations.Cmp.{Cmp}
use Rattle.lt_isa.specs.declared.symbols.Note.{Note}
use Rattle.lt_isa.specs.declared.instructions.Instr.{Instr}
use Rattle.lt_isa.specs.declared.instructions.Instr.TheVariants.{Nop, Br}
use Rattle.lt_isa.specs.Prelude.{Parts, target_of, IsInRange}
use Rattle.trace_patterns.specs.Prelude.{Known, bank_known, claimed_bank, marks, claims, note_known, without_notes}
use Rattle.trace_patterns.proofs.Masks.{length-marks, marks-set_bit, length-claims, get_or-claims}
use Rattle.note_infer.specs.Prelude.{AllReachable, is_crossed, IsFull, at_places, HasLast, LeastNotesExist, FindsNotes, is_marked_at, Marks, MarksFrom, MarksBelow, NotesBelow}
use Rattle.note_infer.proofs.LeastAccepted.{reachable_renoted}
use Rattle.note_infer.proofs.Marking.{marks_one, marks_nothing, marks_goes, marks_halts, marks_jumps, marks_branches, marks_crossed, marks_begun, marks_more, marks_skip}
use Rattle.note_infer.proofs.Noted.{notes_begun, notes_skip, notes_push}
use Rattle.note_infer.proofs.Inferring.{least_found, bare_in_range, finds}
use Rattle.note_infer.proofs.SameParts.{none_not}
use Rattle.note_infer.proofs.Deciding.{Leads, GoesOn, Halts, Jumps, Branches, leads}
use Rattle.note_infer.proofs.LeastExist.{last_exists}

-- the mask of some labels
record IsMaskOf (labels : List Bool) (n mask : ℕ) : Type 0 where
  small : mask < 2 ^ 32
  below : (r : ℕ) → r < n → get_or (marks 32 mask) r false ≡ get_or labels r false
  above : (r : ℕ) → n ≤ r → get_or (marks 32 mask) r false ≡ false

none_marked : marks 32 0 ≡ replicate 32 false
unfolding marks
none_marked = refl

no_marks : (r : ℕ) → get_or (marks 32 0) r false ≡ false
no_marks r =
    ⊎_elim
    (λ (lt : r < 32). ap (λ (l : List Bool). get_or l r false) none_marked ∙ get_or-replicate 32 r false false lt)
    (λ (le : 32 ≤ r). get_or_past (marks 32 0) r false (omega (arith, le, length-marks 32 0))) (cases_lt r 32)

one_bit : (r : ℕ) → r < 32 → 1 * 2 ^ r % 2 ^ 32 < 2 ^ 32
one_bit r lt = omega arith

mask_of : (labels : List Bool) (n : ℕ) → n ≤ 32 → (mask : ℕ) × IsMaskOf labels n mask
mask_of labels zero le = (
  0,
  record {
    small = omega arith;
    below = λ r lt. absurd (omega (arith, lt));
    above = λ r ge. no_marks r;
  },
)
mask_of labels (suc n) le = by (mask_of labels n (omega (arith, le))) (get_or labels n false) refl
  where
    by : (mask : ℕ) × IsMaskOf labels n mask → (b : Bool) → get_or labels n false ≡ b
        → (mask : ℕ) × IsMaskOf labels (suc n) mask
    by m false e = (
      m.0,
      record {
        small = m.1.small;
        below = λ r lt. ⊎_elim
            (λ (at : r ≡ n). subst (λ (x : ℕ). get_or (marks 32 m.0) x false ≡ get_or labels x false) (sym at)
            (m.1.above n (omega arith) ∙ sym e))
            (λ (ne : r ≡ n → ⊥). m.1.below r (omega (arith, lt, ne))) (cases_eq r n);
        above = λ r ge. m.1.above r (omega (arith, ge));
      },
    )
    by m true e =
        let inside : n < 32 = omega (arith, le) in
        let is = marks-set_bit m.0 n inside in
        let read : (r : ℕ) → get_or (marks 32 (bit_or m.0 (1 * 2 ^ n % 2 ^ 32))) r false
        ≡ get_or (set (marks 32 m.0) n true) r false =
        λ r. ap (λ (l : List Bool). get_or l r false) is in (
          bit_or m.0 (1 * 2 ^ n % 2 ^ 32),
          record {
            small = or_lt 32 m.0 (1 * 2 ^ n % 2 ^ 32) m.1.small (one_bit n inside);
            below = λ r lt. read r ∙ ⊎_elim
                (λ (at : r ≡ n). subst (λ (x : ℕ). get_or (set (marks 32 m.0) n true) x false ≡ get_or labels x false)
                (sym at)
                (get_or-set_same (marks 32 m.0) n true false (omega (arith, inside, length-marks 32 m.0)) ∙ sym e))
                (λ (ne : r ≡ n → ⊥). get_or-set_other (marks 32 m.0) n r true false ne
                ∙ m.1.below r (omega (arith, lt, ne))) (cases_eq r n);
            above = λ r ge. read r ∙ get_or-set_other (marks 32 m.0) n r true false (λ at. omega (arith, ge, at))
                ∙ m.1.above r (omega (arith, ge));
          },
        )

-- the bytes by which a note names some banks
abbrev byte_of : Option ℕ → ℕ
byte_of None = 255
byte_of (Some bank) = bank

byte_claims : (b : Option ℕ) → ((bank : ℕ) → b ≡ Some bank → bank < 255) → claimed_bank (byte_of b) ≡ b
byte_claims None small = refl
byte_claims (Some bank) small =
    ap (λ (c : Bool). let r : Option ℕ = if c then None else Some bank in r)
    (ne_eqb bank 255 (λ e. omega (arith, e, small bank refl)))

bytes_claim : (banks : List (Option ℕ)) → length banks ≡ 8
    → ((slot bank : ℕ) → get_or banks slot None ≡ Some bank → bank < 255) → claims 8 (map byte_of banks) ≡ banks
bytes_claim banks size small =
    ext_get_or None (claims 8 (map byte_of banks)) banks (length-claims 8 (map byte_of banks) ∙ sym size) (λ i lt.
    let inside : i < 8 = omega (arith, lt, length-claims 8 (map byte_of banks)) in
    get_or-claims 8 (map byte_of banks) i None inside
    ∙ ap claimed_bank (get_or-map byte_of banks i None 255 (omega (arith, inside, size)))
    ∙ byte_claims (get_or banks i None) (λ b e. small i b e))

-- the note that claims what is known
note_at : (k : Known) (place : ℕ) → IsFull k → ((slot bank : ℕ) → bank_known k slot ≡ Some bank → bank < 255)
    → (n : Note) × (n.pc ≡ place) × (note_known n ≡ k) × (n.secrets < 2 ^ 32) × (length n.slots ≡ 8)
note_at k place full small =
    let m = mask_of k.secret 32 (omega arith) in
    let secret : marks 32 m.0 ≡ k.secret =
    ext_get_or false (marks 32 m.0) k.secret (length-marks 32 m.0 ∙ sym full.registers)
    (λ i lt. m.1.below i (omega (arith, lt, length-marks 32 m.0))) in
    let banks = bytes_claim k.banks full.slots small in
    let n : Note = record { pc = place; secrets = m.0; slots = map byte_of k.banks } in (
      n,
      refl,
      ap (λ (l : List Bool). let r : Known = record { secret = l; banks = claims 8 (map byte_of k.banks) } in r) secret
          ∙ ap (λ (l : List (Option ℕ)). let r : Known = record { secret = k.secret; banks = l } in r) banks,
      m.1.small,
      length-map k.banks byte_of ∙ full.slots,
    )

module _ (o : Parts) (crossed : List ℕ) (states : List (Option Known)) (range : IsInRange o)
    (last : HasLast o crossed states) where
  -- targets are marked
  Marked : ℕ → Type 0
  Marked place = (marked : List Bool) × MarksBelow o crossed (at_places states) place marked

  marks_target : (marked : List Bool) (target : ℕ) → (after : List Bool) × Marks target marked after
  marks_target marked target =
      ⊎_elim (λ (lt : target < length marked). (set marked target true, marks_one marked target lt))
      (λ (le : length marked ≤ target). (marked, marks_nothing marked target le)) (cases_lt target (length marked))

  From : ℕ → List Bool → Type 0
  From place marked = (after : List Bool) × MarksFrom o crossed place marked after

  from_branch : (place : ℕ) (marked : List Bool) → length marked ≡ length o.code → (cmp : Cmp) (ra rb : ℕ) (offset : ℤ)
      → slice_get o.code place ≡ Some (Br cmp ra rb offset) → (b : Bool) → is_crossed crossed place ≡ b
      → From place marked
  unfolding From
  from_branch place marked size cmp ra rb offset code true among =
      (marked, marks_crossed o crossed place cmp ra rb offset marked code among)
  from_branch place marked size cmp ra rb offset code false apart =
      let m = marks_target marked (target_of o place offset) in
      (m.0, marks_branches o crossed place cmp ra rb offset marked m.0 size code apart m.1)

  from_place : (place : ℕ) (marked : List Bool) → length marked ≡ length o.code → (i : Instr)
      → slice_get o.code place ≡ Some i → Leads i → From place marked
  unfolding From
  from_place place marked size i code (GoesOn g) = (marked, marks_goes o crossed place i marked code g)
  from_place place marked size i code (Halts e) = (marked, marks_halts o crossed place i marked code e)
  from_place place marked size i code (Jumps offset e) =
      let m = marks_target marked (target_of o place offset) in
      (m.0, marks_jumps o crossed place offset marked m.0 size (code ∙ ap Some e) m.1)
  from_place place marked size i code (Branches cmp ra rb offset e) =
      from_branch place marked size cmp ra rb offset (code ∙ ap Some e) (is_crossed crossed place) refl

  next : (place : ℕ) (marked : List Bool) → MarksBelow o crossed (at_places states) (place + 1) marked
      → MarksBelow o crossed (at_places states) (suc place) marked
  next place marked h = subst (λ (n : ℕ). MarksBelow o crossed (at_places states) n marked) (omega arith) h

  mark_more : (place : ℕ) → place < length o.code → Marked place → (x : Option Known) → at_places states place ≡ x
      → Marked (suc place)
  unfolding Marked From
  mark_more place lt m None none = (m.0, next place m.0 (marks_skip o crossed (at_places states) place m.0 none m.1))
  mark_more place lt m (Some k) known =
      let i = get_or o.code place Nop in
      let f = from_place place m.0 m.1.size i (slice_get-get_or o.code place Nop lt) (leads i) in
      (f.0, next place f.0 (marks_more o crossed (at_places states) place k m.0 f.0 known m.1 f.1))

  marked_below : (n : ℕ) → n ≤ length o.code → Marked n
  unfolding Marked
  marked_below zero le = (replicate (length o.code) false, marks_begun o crossed (at_places states) (length o.code) refl)
  marked_below (suc n) le =
      mark_more n (omega (arith, le)) (marked_below n (omega (arith, le))) (at_places states n) refl

  -- notes are made there
  module _ (marked : List Bool) where
    Noted : ℕ → Type 0
    Noted place = (notes : List Note) × NotesBelow o marked (at_places states) place notes

    one_on : (place : ℕ) (notes : List Note) → NotesBelow o marked (at_places states) (place + 1) notes
        → NotesBelow o marked (at_places states) (suc place) notes
    one_on place notes h = subst (λ (n : ℕ). NotesBelow o marked (at_places states) n notes) (omega arith) h

    note_more : (place : ℕ) → place < length o.code → Noted place → (b : Bool) → is_marked_at marked place ≡ b
        → (x : Option Known) → at_places states place ≡ x → Noted (suc place)
    unfolding Noted
    note_more place lt m false off x is =
        (m.0, one_on place m.0 (notes_skip o marked (at_places states) place m.0 (λ k e f. false≢true (sym off ∙ e)) m.1))
    note_more place lt m true here None none =
        (m.0, one_on place m.0 (notes_skip o marked (at_places states) place m.0 (λ k e f. none_not k (sym none ∙ f)) m.1))
    note_more place lt m true here (Some k) known =
        let sound = last.has.sound in
        let n = note_at k place (last.has.least.closed.full place k known)
        (λ slot bank e. let few = (sound place k known).banks slot bank e in
        omega (arith, few, range.bank_count.1)) in (
          m.0 ++ n.0 ∷ [],
          one_on place (m.0 ++ n.0 ∷ []) (notes_push o marked (at_places states) place m.0 n.0
              (omega (arith, lt, range.code_size.1)) (λ j e. sound place j e)
              (record { marked = here; pc = n.1; claim = known ∙ ap Some (sym n.2); secrets = n.3; slot_count = n.4 }) m.1),
        )

    noted_below : (n : ℕ) → n ≤ length o.code → Noted n
    unfolding Noted
    noted_below zero le = ([], notes_begun o marked (at_places states))
    noted_below (suc n) le =
        note_more n (omega (arith, le)) (noted_below n (omega (arith, le))) (is_marked_at marked n) refl
        (at_places states n) refl

-- the least notes are found, for steps that lead to all places of the object without its own
pub notes_found : (o : Parts) → IsInRange o → AllReachable (without_notes o)
    → (notes : List Note) × FindsNotes (without_notes o) notes
unfolding Marked Noted
notes_found o range reachable =
    let bare = without_notes o in
    let bare_range = bare_in_range o range in
    let l = last_exists bare bare_range in
    let size : length bare.code ≤ length bare.code = omega arith in
    let m = marked_below bare l.crossed l.states bare_range l.last (length bare.code) size in
    let n = noted_below bare l.crossed l.states bare_range l.last m.0 (length bare.code) size in
    (n.0, finds bare l.crossed l.states m.0 n.0 bare_range reachable l.last m.1 n.1)

pub least_notes_exist : (o : Parts) → LeastNotesExist o
least_notes_exist o range reachable =
    let n = notes_found o range (λ p lt. reachable_renoted o [] p (reachable p lt)) in
    (n.0, (least_found o n.0 n.1).listed)
