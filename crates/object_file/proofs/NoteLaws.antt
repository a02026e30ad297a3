-- The laws of reading notes.
use Rattle.std.proofs.Common.{◌≡◌, ℕ, ◌-◌, ◌^◌, ◌<◌, ◌≤◌, eqb, ltb, List, [], ◌++◌, length, flat_map, Ok, refl, append_assoc, arith, ⊎_elim}
use Rattle.std.specs.Prelude.{All, IsTrue}
use Rattle.std.proofs.lemmas.Bool.{or_cases, ltb-true, eqb-true}
use Rattle.lt_isa.specs.declared.symbols.Note.{Note}
use Rattle.gr_base.specs.Prelude.{Within, EachAfter}
use Rattle.lt_isa.specs.Prelude.{NoteFits, next_place, is_slot_claim}
use Rattle.object_file.specs.Prelude.{number, listed, note, field_at, slots_at, note_at, notes_at}
use Rattle.object_file.proofs.Numbers.{IsBytes}
use Rattle.gr_base.proofs.Results.{IfRead, read_ok, read_then, read_weaker}
use Rattle.object_file.proofs.Readers.{Takes, Takes-then, IsReader, field_read, field_again, numbers, range}
use Rattle.object_file.proofs.ListLaws.{list, items_read, items_again, All-EachAfter, EachAfter-All}

module _ (banks all : ℕ) (few : banks ≤ 10) where
  abbrev IsClaim : ℕ → Type 0
  IsClaim claim = IsTrue (is_slot_claim banks claim)

  claim_below : (claim : ℕ) → IsClaim claim → claim < 256 ^ 1
  claim_below claim h =
      ⊎_elim (λ bank. omega (arith, ltb-true claim banks bank)) (λ any. omega (arith, eqb-true claim 255 any))
      (or_cases (ltb claim banks) (eqb claim 255) h)

  claims : IsReader (field_at 1 all (is_slot_claim banks)) (number 1) IsClaim
  claims = record {
    reads = λ bytes fits.
        read_weaker _ _ _ (field_read 1 all (is_slot_claim banks) bytes fits) (λ x found. (found.0, found.1.1));
    again = λ claim rest h. field_again 1 all (is_slot_claim banks) claim rest (claim_below claim h) h;
  }

  slots_read : (bytes : List ℕ) → IsBytes bytes → IfRead (slots_at banks all bytes)
      (λ x. Takes bytes (flat_map (number 1) x.0) x.1 × (length x.0 ≡ 8) × All IsClaim x.0)
  unfolding slots_at
  slots_read bytes fits =
      read_weaker _ _ _ (items_read (λ before. field_at 1 all (is_slot_claim banks)) (number 1) (λ before. IsClaim)
      (λ before. claims) 8 [] bytes fits) (λ x read.
      let whole : x.0 ≡ read.items = read.whole in
      rw whole (read.takes, read.count, All-EachAfter IsClaim [] read.items read.each))

  slots_again : (slots rest : List ℕ) → length slots ≡ 8 → All IsClaim slots
      → slots_at banks all (flat_map (number 1) slots ++ rest) ≡ Ok (slots, rest)
  unfolding slots_at
  slots_again slots rest count each =
      let again =
      items_again (λ before. field_at 1 all (is_slot_claim banks)) (number 1) (λ before. IsClaim)
      (λ before. claims) slots [] rest (EachAfter-All IsClaim [] slots each) in
      rw count at again

  pub note_reader : (before : List Note) → IsReader (note_at banks all before) note (NoteFits banks before)
  unfolding note_at
  note_reader before =
      let places = range 4 all (next_place before) (2 ^ 32 - 1) (omega arith) in
      let masks = numbers 4 all in
      record {
        reads = λ bytes fits.
            read_then _ _ _ _ (places.reads bytes fits) (λ pc a.
            read_then _ _ _ _ (masks.reads pc.1 a.0.rest_fits) (λ secrets b.
            read_then _ _ _ _ (slots_read secrets.1 b.0.rest_fits) (λ slots c.
            read_ok _ _
            (Takes-then (Takes-then a.0 b.0) c.0, record { pc = a.1; secrets = b.1; slot_count = c.1; slots = c.2 }))));
        again = λ n rest h. simp append_assoc (rw
            (places.again n.pc _ h.pc, masks.again n.secrets _ h.secrets, slots_again n.slots rest h.slot_count h.slots)
            refl);
      }

  -- notes are read from their encoding, and from nothing else
  pub notes : IsReader (notes_at banks all) (listed 4 note)
      (λ ns. Within 0 262144 (length ns) × EachAfter (NoteFits banks) [] ns)
  unfolding notes_at
  notes = list (note_at banks all) note (NoteFits banks) note_reader 4 all 0 262144 (omega arith)
