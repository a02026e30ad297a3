-- The object that is assembled from a text is in range.
use Rattle.std.proofs.Common.{◌≡◌, ℕ, zero, suc, ◌+◌, ◌<◌, ◌≤◌, Bool, true, false, cond, List, [], ◌∷◌, length, get_or, Option, Some, None, Result, Ok, Err, refl, subst, ◌∙◌, ⊎_elim, arith}
use Rattle.std.specs.Prelude.{All, bytes_eq, ℤ}
use Rattle.std.specs.Map.{values_of}
use Rattle.std.proofs.lemmas.Bool.{and_parts, leb-true, lt-ltb, not-true, cases_lt}
use Rattle.std.proofs.lemmas.List.{length-set}
use Rattle.std.proofs.lemmas.List.Elements.{All-set, All-head, All-tail}
use Rattle.lt_isa.specs.declared.profiles.Profile.{Profile}
use Rattle.lt_isa.specs.declared.instructions.Instr.{Instr}
use Rattle.lt_isa.specs.declared.instructions.Instr.TheVariants.{Nop, Jmp, Br}
use Rattle.lt_isa.specs.Prelude.{Parts, SymbolFits, InstrFits, IsOffset, IsInRange, next_place, with_offset}
use Rattle.gr_base.specs.Prelude.{EachAfter, ◌>>=◌}
use Rattle.lt_assembler.specs.declared.errors.AsmError.{AsmError}
use Rattle.lt_assembler.specs.declared.errors.AsmError.TheVariants.{BadLine}
use Rattle.lt_assembler.specs.Prelude.{Word, lines, offset_to, Use, Labels, Draft, empty_draft, place_of, read_lines, width, aimed, settled, parts_of, is_whole, finished_with, finished, assembled}
use Rattle.gr_base.proofs.Results.{IfRead, read_ok, read_err, read_then, some_is}
use Rattle.lt_assembler.proofs.Splitting.{positive}
use Rattle.lt_assembler.proofs.InstructionsRead.{offset_to_fits}
use Rattle.lt_assembler.proofs.HeadLines.{IsPlace, nothing_fits}
use Rattle.lt_assembler.proofs.Waiting.{Waits, Goes, lines_go}

with_offset_fits : (banks : ℕ) (i : Instr) (z : ℤ) → IsOffset z → InstrFits banks i → InstrFits banks (with_offset z i)
with_offset_fits banks (Jmp old) z hz h = hz
with_offset_fits banks (Br cmp ra rb old) z hz h = (h.0, h.1, hz)
with_offset_fits banks _ z hz h = h

all_at : {X : Type 0} (P : X → Type 0) (xs : List X) (i : ℕ) (d : X) → All P xs → P d → P (get_or xs i d)
all_at P [] i d all h = h
all_at P (x ∷ xs) zero d all h = All-head P x xs all
all_at P (x ∷ xs) (suc i) d all h = all_at P xs i d (All-tail P x xs all) h

-- the place of a label
label_place : (labels : Labels) (name : Word)
    → All IsPlace (values_of labels) → (t : ℕ) → place_of labels name ≡ Some t → IsPlace t
label_place [] name all t e = absurd cc
label_place (entry ∷ labels) name all t e =
    by_name (bytes_eq name entry.0)
    (label_place labels name (All-tail IsPlace entry.1 (values_of labels) all) t) e
  where
    by_name : (b : Bool) → (place_of labels name ≡ Some t → IsPlace t)
        → cond b (Some entry.1) (place_of labels name) ≡ Some t → IsPlace t
    by_name true rest h = subst IsPlace (some_is entry.1 t h) (All-head IsPlace entry.1 (values_of labels) all)
    by_name false rest h = rest h

pub record CodeFits (banks size : ℕ) (code : List Instr) : Type 0 where
  pub each : All (InstrFits banks) code
  pub count : length code ≡ size

aimed_fits : (banks size : ℕ) (o : Option ℕ) (u : Use) (code : List Instr)
    → ((t : ℕ) → o ≡ Some t → IsPlace t) → IsPlace u.place → CodeFits banks size code
    → IfRead (aimed o u code) (CodeFits banks size)
unfolding aimed
aimed_fits banks size None u code ht hu h = read_err _ _
aimed_fits banks size (Some t) u code ht hu h =
    let offset = offset_to_fits t u.place (omega (arith, ht t refl)) hu in
    let instr =
    with_offset_fits banks (get_or code u.place Nop) (offset_to t u.place) offset
    (all_at (InstrFits banks) code u.place Nop h.each tt) in
    read_ok _ _ (record {
      each = All-set (InstrFits banks) code u.place _ instr h.each;
      count = length-set code u.place _ ∙ h.count;
    })

settled_fits : (banks size : ℕ) (labels : Labels) (uses : List Use) (code : List Instr)
    → All IsPlace (values_of labels) → All (λ u. IsPlace u.place) uses → CodeFits banks size code
    → IfRead (settled labels uses code) (CodeFits banks size)
unfolding settled
settled_fits banks size labels [] code hl hu h = read_ok _ _ h
settled_fits banks size labels (u ∷ uses) code hl hu h =
    read_then _ _ _ _ (aimed_fits banks size (place_of labels u.name) u code (label_place labels u.name hl)
    (All-head (λ u. IsPlace u.place) u uses hu) h)
    (λ c k. settled_fits banks size labels uses c hl (All-tail (λ u. IsPlace u.place) u uses hu) k)

not_waiting : (d : Draft) → Waits false d → next_place d.notes ≤ length d.code
not_waiting d h =
    ⊎_elim
    (λ lt. absurd (let bad : false ≡ true = h (lt-ltb _ _ lt) in cc))
    (λ le. le)
    (cases_lt (length d.code) (next_place d.notes))

whole_fits : (p : Profile) (d : Draft) → d.profile ≡ Some p → Goes false d → is_whole d ≡ true → (code : List Instr)
    → CodeFits (length d.banks) (length d.code) code → IsInRange (parts_of p d code)
whole_fits p d e h whole code k =
    let w = and_parts _ _ whole in
    let some : 0 < length d.code = positive (length d.code) (not-true _ w.1) in
    record {
      profile = h.fits.head.profile p e;
      bank_count = (leb-true _ _ w.0, h.fits.head.bank_count);
      banks = h.fits.head.banks;
      symbol_count = h.fits.head.symbol_count;
      symbols = subst (λ o. EachAfter (SymbolFits (width o) d.banks) [] d.symbols) e h.fits.head.symbols;
      note_count = h.fits.lines.note_count;
      notes = h.fits.lines.notes;
      code_size = (omega (arith, some, k.count), omega (arith, h.fits.lines.code_count, k.count));
      behind_notes = omega (arith, not_waiting d h.waits, k.count);
      code = k.each;
    }

finished_fits : (n : ℕ) (o : Option Profile) (d : Draft)
    → d.profile ≡ o → Goes false d → IfRead (finished_with n o d) IsInRange
finished_fits n None d e h = read_err _ _
finished_fits n (Some p) d e h = by_test (is_whole d) refl where
  by_test : (b : Bool) → is_whole d ≡ b
      → IfRead (cond b (settled d.labels d.uses d.code >>= (λ code. Ok (parts_of p d code))) (Err (BadLine n)))
      IsInRange
  by_test false t = read_err _ _
  by_test true t =
      read_then _ _ _ _ (settled_fits (length d.banks) (length d.code) d.labels d.uses d.code h.fits.names.labels
      h.fits.names.uses
      (record { each = h.fits.lines.code; count = refl }))
      (λ code k. read_ok _ _ (whole_fits p d e h t code k))

-- the empty draft fits, and no note waits
pub nothing_goes : (follows : Bool) → Goes follows empty_draft
nothing_goes follows = record { fits = nothing_fits; waits = λ noted. absurd (let bad : false ≡ true = noted in cc) }

-- the object of the lines of a text is in range
pub in_range : (ls : List (List ℕ)) (n : ℕ) (d : Draft)
    → read_lines 1 ls empty_draft ≡ Ok d → (o : Parts) → finished n d ≡ Ok o → IsInRange o
unfolding finished
in_range ls n d read o e =
    (finished_fits n d.profile d refl ((lines_go 1 ls empty_draft (nothing_goes _)).then d read).goes).then o e

-- the object of a draft
pub finished_is : (n : ℕ) (d : Draft) (p : Profile) (code : List Instr) → d.profile ≡ Some p → is_whole d ≡ true
    → settled d.labels d.uses d.code ≡ Ok code → finished n d ≡ Ok (parts_of p d code)
unfolding finished
finished_is n d p code e whole here = rw (e, whole, here) refl

-- an error isn't an object
pub no_object : (e : AsmError) (o : Parts) → ◌≡◌ {A = Result Parts AsmError} (Err e) (Ok o) → ⊥
no_object e o h = cc

-- an object that is assembled from a text is in range
pub spelled_in_range : (text : List ℕ) (o : Parts) → assembled text ≡ Ok o → IsInRange o
unfolding assembled
spelled_in_range text o h = of_lines (read_lines 1 (lines text) empty_draft) refl h where
  of_lines : (r : Result Draft AsmError)
      → read_lines 1 (lines text) empty_draft ≡ r → (r >>= finished (length (lines text) + 1)) ≡ Ok o → IsInRange o
  of_lines (Ok d) read g = in_range (lines text) (length (lines text) + 1) d read o g
  of_lines (Err e) read g = absurd (no_object e o g)
