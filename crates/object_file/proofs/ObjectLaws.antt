-- An object is read from its encoding, and from no other bytes.
use Rattle.std.proofs.Common.{◌≡◌, ◌≢◌, ℕ, ◌^◌, max, List, [], ◌++◌, length, Result, Ok, Err, IfOk, MatchResult, refl, sym, ap, ◌∙◌, append_assoc, arith}
use Rattle.std.proofs.Math.Nat.{pow-le-pow_right}
use Rattle.std.proofs.lemmas.Bool.{eqb-true}
use Rattle.std.proofs.lemmas.Nat.{pow_pos}
use Rattle.std.proofs.lemmas.List.{append-nil, nil_from_length}
use Rattle.lt_isa.specs.declared.profiles.BankSpec.{BankSpec}
use Rattle.lt_isa.specs.Prelude.{Parts, BankFits, IsInRange, next_place}
use Rattle.gr_base.specs.Prelude.{Within, EachAfter, ◌>>=◌}
use Rattle.object_file.specs.declared.errors.DecodeError.{DecodeError}
use Rattle.object_file.specs.declared.errors.DecodeError.TheVariants.{Truncated, BadMagic, BadVersion, BadField, TrailingBytes, Memory}
use Rattle.object_file.specs.Prelude.{spelling, Decodes, ended, parts_at, object_at, decoded}
use Rattle.object_file.proofs.Numbers.{IsBytes}
use Rattle.gr_base.proofs.Results.{IfRead, read_ok, read_then, read_if}
use Rattle.object_file.proofs.Readers.{Takes-then}
use Rattle.object_file.proofs.HeaderLaws.{magic_read, magic_again, profiles, banks}
use Rattle.lt_isa.proofs.SymbolPlaces.{blocks_in-banks}
use Rattle.object_file.proofs.SymbolLaws.{IsMemory, symbols}
use Rattle.object_file.proofs.NoteLaws.{notes}
use Rattle.object_file.proofs.InstructionLaws.{codes}

memory_of : (log : ℕ) (bs : List BankSpec) → Within 3 9 log → Within 2 10 (length bs) → EachAfter BankFits [] bs
    → IsMemory (2 ^ log) bs
memory_of log bs size count each =
    record {
      words = (pow_pos log, pow-le-pow_right {n = 2} (omega arith) {i = log} {j = 9} size.1);
      count = count;
      blocks = blocks_in-banks bs each;
    }

-- the bytes begin with the encoding of the parts that are read, which are in range
pub parts_read : (all : ℕ) (bytes : List ℕ) → IsBytes bytes
    → IfRead (parts_at all bytes) (λ x. (bytes ≡ spelling x.0 ++ x.1) × IsInRange x.0)
unfolding parts_at spelling
parts_read all bytes fits =
    read_then _ _ _ _ (magic_read all bytes fits) (λ behind_magic a.
    read_then _ _ _ _ ((profiles all).reads behind_magic a.rest_fits) (λ p c.
    read_then _ _ _ _ ((banks all).reads p.1 c.0.rest_fits) (λ bs d.
    let memory = memory_of p.0.block_log bs.0 c.1.block_log d.1.0 d.1.1 in
    read_then _ _ _ _ ((symbols (2 ^ p.0.block_log) bs.0 all memory).reads bs.1 d.0.rest_fits) (λ ss e.
    read_then _ _ _ _ ((notes (length bs.0) all d.1.0.1).reads ss.1 e.0.rest_fits) (λ ns f.
    read_then _ _ _ _ ((codes (length bs.0) all d.1.0.0 d.1.0.1 (max 1 (next_place ns.0))).reads ns.1 f.0.rest_fits)
    (λ code g.
    read_ok _ _ (
      (Takes-then (Takes-then (Takes-then (Takes-then (Takes-then a c.0) d.0) e.0) f.0) g.0).parts,
      record {
        profile = c.1;
        bank_count = d.1.0;
        banks = d.1.1;
        symbol_count = e.1.0.1;
        symbols = e.1.1;
        note_count = f.1.0.1;
        notes = f.1.1;
        code_size = (omega (arith, g.1.0.0), g.1.0.1);
        behind_notes = omega (arith, g.1.0.0);
        code = g.1.1;
      },
    )))))))

-- the file is the encoding of the object that is read, which is in range
pub object_read : (all : ℕ) (bytes : List ℕ) → IsBytes bytes
    → IfRead (object_at all bytes) (λ o. (bytes ≡ spelling o) × IsInRange o)
unfolding object_at
object_read all bytes fits =
    read_then _ _ _ _ (parts_read all bytes fits) (λ x h.
    read_if _ _ _ _ (λ nothing_left.
    let none : x.1 ≡ [] = nil_from_length x.1 (eqb-true _ _ nothing_left) in
    (h.0 ∙ ap (λ (rest : List ℕ). spelling x.0 ++ rest) none ∙ append-nil (spelling x.0), h.1)))

-- the encoding of an object is read, with any bytes after it
pub parts_again : (all : ℕ) (o : Parts) (rest : List ℕ) → IsInRange o → parts_at all (spelling o ++ rest) ≡ Ok (o, rest)
unfolding parts_at spelling
parts_again all o rest h =
    let memory = memory_of o.profile.block_log o.banks h.profile.block_log h.bank_count h.banks in
    let size : Within (max 1 (next_place o.notes)) 1048576 (length o.code) =
    (omega (arith, h.code_size.0, h.behind_notes), h.code_size.1) in
    simp append_assoc (rw (
      magic_again all,
      (profiles all).again o.profile _ h.profile,
      (banks all).again o.banks _ (h.bank_count, h.banks),
      (symbols (2 ^ o.profile.block_log) o.banks all memory).again o.symbols _
          ((omega arith, h.symbol_count), h.symbols),
      (notes (length o.banks) all h.bank_count.1).again o.notes _ ((omega arith, h.note_count), h.notes),
      (codes (length o.banks) all h.bank_count.0 h.bank_count.1 (max 1 (next_place o.notes))).again o.code _
          (size, h.code),
    ) refl)

object_again : (all : ℕ) (o : Parts) → IsInRange o → object_at all (spelling o) ≡ Ok o
unfolding object_at
object_again all o h =
    ap (λ (t : List ℕ). parts_at all t >>= (λ x. ended all x.0 x.1)) (sym (append-nil (spelling o)))
    ∙ rw (parts_again all o [] h) refl

-- the encoding of an object is decoded to the object
pub decoded-spelling : (o : Parts) → IsInRange o → decoded (spelling o) ≡ Ok o
unfolding decoded
decoded-spelling o h = object_again (length (spelling o)) o h

-- bytes that are decoded to an object are its encoding, and the object is in range
pub spelling-decoded : (bytes : List ℕ) (o : Parts) → IsBytes bytes → decoded bytes ≡ Ok o
    → (bytes ≡ spelling o) × IsInRange o
unfolding decoded
spelling-decoded bytes o fits e = (object_read (length bytes) bytes fits).then o e

-- two objects with the same encoding are equal
pub spelling-injective : (o p : Parts) → IsInRange o → IsInRange p → spelling o ≡ spelling p → o ≡ p
spelling-injective o p ho hp same =
    let left : decoded (spelling o) ≡ Ok o = decoded-spelling o ho in
    let right : decoded (spelling p) ≡ Ok p = decoded-spelling p hp in
    let both : Ok o ≡ Ok p = sym left ∙ ap decoded same ∙ right in
    cc

-- a function whose result is that of reading

-- an object that is found is in range, and the bytes are its encoding
pub is_found : (bytes : List ℕ) (r : Result Parts DecodeError) → IsBytes bytes → Decodes (λ o. o) r (decoded bytes)
    → IfOk r (λ o. IsInRange o × (bytes ≡ spelling o))
is_found bytes (Ok o) fits gives = let h = spelling-decoded bytes o fits gives in (h.1, h.0)
is_found bytes (Err e) fits gives = tt

no_fault : (e : DecodeError) (o : Parts) (read : Result Parts DecodeError) → read ≡ Ok o
    → (e ≢ Memory → read ≡ Err e) → e ≡ Memory
no_fault Memory o read here fails = refl
no_fault other o read here fails = absurd (let bad = fails (λ same. cc) in cc)

-- an object whose encoding the bytes are is found
pub is_only : (bytes : List ℕ) (r : Result Parts DecodeError) (o : Parts) → IsInRange o → bytes ≡ spelling o
    → Decodes (λ p. p) r (decoded bytes) → MatchResult r (λ p. p ≡ o) (λ e. e ≡ Memory)
is_only bytes (Ok p) o h same gives = let here : decoded bytes ≡ Ok o = ap decoded same ∙ decoded-spelling o h in cc
is_only bytes (Err e) o h same gives = no_fault e o (decoded bytes) (ap decoded same ∙ decoded-spelling o h) gives
