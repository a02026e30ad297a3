-- The code with the targets of its labels: the instructions that the items yield, or the first use of a label that
-- isn't defined.
use Rattle.std.proofs.Common.{◌≡◌, ℕ, ◌+◌, List, [], ◌∷◌, ◌++◌, length, map, get_or, Option, Some, None, Ok, Err, refl, sym, ap, ◌∙◌, append_assoc, arith, length-append}
use Rattle.std.specs.Prelude.{All, is_some, slice_set, option_map}
use Rattle.std.proofs.lemmas.List.Elements.{All-nil, All-cons}
use Rattle.std.proofs.Math.Seq.{set-append_seam, get_or-append_seam}
use Rattle.lt_isa.specs.declared.instructions.Instr.{Instr}
use Rattle.lt_isa.specs.declared.instructions.Instr.TheVariants.{Nop}
use Rattle.lt_assembler.specs.declared.errors.AsmError.TheVariants.{UnknownName}
use Rattle.lt_assembler.specs.Prelude.{Word, offset_to, Use, Labels, place_of, aimed, settled, ToPlace, ToLabel, Item, Nothing, AnObject, ABank, ASymbol, ALabel, ANote, AnInstruction, gathered, instruction_in, LeadsToKnown}
use Rattle.lt_isa.specs.Prelude.{with_offset}
use Rattle.lt_assembler.proofs.Gathered.{listed, raw_in, use_in, SameLabels}

-- the item of this line is the first that uses a label without a place
pub record IsUnknownUse (labels : Labels) (n : ℕ) (items : List Item) (line : ℕ) : Type 0 where
  pub before : List Item
  pub after : List Item
  pub instr : Instr
  pub name : Word
  pub whole : items ≡ before ++ AnInstruction instr (Some (ToLabel name)) ∷ after
  pub number : line ≡ n + length before
  pub nowhere : place_of labels name ≡ None
  pub known : All (LeadsToKnown labels) before

-- either all labels that the items use are defined, and the items yield their final code; or this is the first use of a
-- label without a place
pub data Settles (labels sorted : Labels) (n place : ℕ) (items : List Item) (front code : List Instr)
    (uses : List Use) : Type 0 where
  Known : (final : List Instr)
      → gathered (instruction_in labels) place items ≡ map Some final → settled sorted uses code ≡ Ok (front ++ final)
      → Settles labels sorted n place items front code uses
  Unknown : (line : ℕ) → IsUnknownUse labels n items line → settled sorted uses code ≡ Err (UnknownName line)
      → Settles labels sorted n place items front code uses

later_use : (labels : Labels) (n : ℕ) (item : Item) (items : List Item) (line : ℕ)
    → LeadsToKnown labels item → IsUnknownUse labels (n + 1) items line → IsUnknownUse labels n (item ∷ items) line
later_use labels n item items line known h = record {
  before = item ∷ h.before;
  after = h.after;
  instr = h.instr;
  name = h.name;
  whole = ap (λ (xs : List Item). item ∷ xs) h.whole;
  number = omega (arith, h.number);
  nowhere = h.nowhere;
  known = All-cons (LeadsToKnown labels) item h.before known h.known;
}

module _ (labels sorted : Labels) (same : SameLabels sorted labels) where
  passed : (n place : ℕ) (item : Item) (items : List Item) (front code : List Instr) (uses : List Use)
      → LeadsToKnown labels item
      → gathered (instruction_in labels) place (item ∷ items) ≡ gathered (instruction_in labels) place items
      → Settles labels sorted (n + 1) place items front code uses
      → Settles labels sorted n place (item ∷ items) front code uses
  passed n place item items front code uses known e (Known final is settles) = Known final (e ∙ is) settles
  passed n place item items front code uses known e (Unknown line h settles) =
      Unknown line (later_use labels n item items line known h) settles

  -- an instruction, after its target is known
  moved : (n place : ℕ) (item : Item) (items : List Item) (front raw : List Instr) (x : Instr) (uses : List Use)
      → LeadsToKnown labels item → gathered (instruction_in labels) place (item ∷ items)
      ≡ Some x ∷ gathered (instruction_in labels) (place + 1) items
      → Settles labels sorted (n + 1) (place + 1) items (front ++ x ∷ []) (front ++ x ∷ [] ++ raw) uses
      → Settles labels sorted n place (item ∷ items) front (front ++ x ∷ raw) uses
  moved n place item items front raw x uses known e (Known final is settles) =
      Known (x ∷ final) (e ∙ ap (λ (os : List (Option Instr)). Some x ∷ os) is)
      (ap (settled sorted uses) (sym (append_assoc front (x ∷ []) raw)) ∙ settles
      ∙ ap (λ (xs : List Instr). Ok xs) (append_assoc front (x ∷ []) final))
  moved n place item items front raw x uses known e (Unknown line h settles) =
      Unknown line (later_use labels n item items line known h)
      (ap (settled sorted uses) (sym (append_assoc front (x ∷ []) raw)) ∙ settles)

  no_label : (n place : ℕ) (name : Word) (code : List Instr) (uses : List Use) → place_of labels name ≡ None
      → settled sorted (record { name = name; place = place; line = n } ∷ uses) code ≡ Err (UnknownName n)
  unfolding settled aimed
  no_label n place name code uses none = rw (same name ∙ none) refl

  a_label : (n place to : ℕ) (name : Word) (i : Instr) (front raw : List Instr) (uses : List Use)
      → place ≡ length front → place_of labels name ≡ Some to
      → settled sorted (record { name = name; place = place; line = n } ∷ uses) (front ++ i ∷ raw)
      ≡ settled sorted uses (front ++ with_offset (offset_to to place) i ∷ raw)
  unfolding settled aimed
  a_label n place to name i front raw uses here some =
      let old : get_or (front ++ i ∷ raw) place Nop ≡ i =
      ap (λ k. get_or (front ++ i ∷ raw) k Nop) here ∙ get_or-append_seam front i raw Nop in
      let new : slice_set (front ++ i ∷ raw) place (with_offset (offset_to to place) i)
      ≡ front ++ with_offset (offset_to to place) i ∷ raw =
      ap (λ k. slice_set (front ++ i ∷ raw) k (with_offset (offset_to to place) i)) here
      ∙ set-append_seam front i raw (with_offset (offset_to to place) i) in
      rw (same name ∙ some, old, new) refl

  one_more : (front : List Instr) (x : Instr) (place : ℕ) → place ≡ length front → place + 1 ≡ length (front ++ x ∷ [])
  one_more front x place here = omega (arith, here, length-append front (x ∷ []))

  by_label : (n place : ℕ) (name : Word) (i : Instr) (items : List Item) (front : List Instr) → place ≡ length front
      → ((x : Instr) → Settles labels sorted (n + 1) (place + 1) items (front ++ x ∷ [])
      (front ++ x ∷ [] ++ gathered raw_in (place + 1) items) (listed use_in (n + 1) (place + 1) items))
      → (o : Option ℕ) → place_of labels name ≡ o → Settles labels sorted n place
      (AnInstruction i (Some (ToLabel name)) ∷ items) front (front ++ i ∷ gathered raw_in (place + 1) items)
      (record { name = name; place = place; line = n } ∷ listed use_in (n + 1) (place + 1) items)
  by_label n place name i items front here rest None none =
      Unknown n
      (record {
        before = [];
        after = items;
        instr = i;
        name = name;
        whole = refl;
        number = omega arith;
        nowhere = none;
        known = All-nil (LeadsToKnown labels);
      })
      (no_label n place name (front ++ i ∷ gathered raw_in (place + 1) items)
      (listed use_in (n + 1) (place + 1) items) none)
  by_label n place name i items front here rest (Some to) some =
      let x = with_offset (offset_to to place) i in
      let raw = gathered raw_in (place + 1) items in
      let uses = listed use_in (n + 1) (place + 1) items in
      let first : gathered (instruction_in labels) place (AnInstruction i (Some (ToLabel name)) ∷ items)
      ≡ Some x ∷ gathered (instruction_in labels) (place + 1) items =
      ap (λ o. option_map (λ t. with_offset (offset_to t place) i) o
      ∷ gathered (instruction_in labels) (place + 1) items) some in
      with_use x raw uses (a_label n place to name i front raw uses here some)
      (moved n place (AnInstruction i (Some (ToLabel name))) items front raw x uses
      (ap is_some some) first (rest x))
    where
      with_use : (x : Instr) (raw : List Instr) (uses : List Use)
          → settled sorted (record { name = name; place = place; line = n } ∷ uses) (front ++ i ∷ raw)
          ≡ settled sorted uses (front ++ x ∷ raw) → Settles labels sorted n place
          (AnInstruction i (Some (ToLabel name)) ∷ items) front (front ++ x ∷ raw) uses
          → Settles labels sorted n place (AnInstruction i (Some (ToLabel name)) ∷ items) front (front ++ i ∷ raw)
          (record { name = name; place = place; line = n } ∷ uses)
      with_use x raw uses e (Known final is settles) = Known final is (e ∙ settles)
      with_use x raw uses e (Unknown line h settles) = Unknown line h (e ∙ settles)

  nothing_left : (code : List Instr) → settled sorted [] code ≡ Ok code
  unfolding settled
  nothing_left code = refl

  -- each list of items yields its code, or has an unknown label
  pub settles : (n place : ℕ) (items : List Item) (front : List Instr) → place ≡ length front
      → Settles labels sorted n place items front (front ++ gathered raw_in place items) (listed use_in n place items)
  settles n place [] front here = Known [] refl (nothing_left (front ++ []))
  settles n place (Nothing ∷ items) front here =
      passed n place Nothing items front _ _ tt refl (settles (n + 1) place items front here)
  settles n place (AnObject p ∷ items) front here =
      passed n place (AnObject p) items front _ _ tt refl (settles (n + 1) place items front here)
  settles n place (ABank b ∷ items) front here =
      passed n place (ABank b) items front _ _ tt refl (settles (n + 1) place items front here)
  settles n place (ASymbol s ∷ items) front here =
      passed n place (ASymbol s) items front _ _ tt refl (settles (n + 1) place items front here)
  settles n place (ALabel name ∷ items) front here =
      passed n place (ALabel name) items front _ _ tt refl (settles (n + 1) place items front here)
  settles n place (ANote mask claims ∷ items) front here =
      passed n place (ANote mask claims) items front _ _ tt refl (settles (n + 1) place items front here)
  settles n place (AnInstruction i None ∷ items) front here =
      moved n place (AnInstruction i None) items front _ i _ tt refl
      (settles (n + 1) (place + 1) items (front ++ i ∷ []) (one_more front i place here))
  settles n place (AnInstruction i (Some (ToPlace to)) ∷ items) front here =
      let x = with_offset (offset_to to place) i in
      moved n place (AnInstruction i (Some (ToPlace to))) items front _ x _ tt refl
      (settles (n + 1) (place + 1) items (front ++ x ∷ []) (one_more front x place here))
  settles n place (AnInstruction i (Some (ToLabel name)) ∷ items) front here =
      by_label n place name i items front here
      (λ x. settles (n + 1) (place + 1) items (front ++ x ∷ []) (one_more front x place here))
      (place_of labels name) refl
