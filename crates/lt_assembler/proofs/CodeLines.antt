-- Notes, labels and instructions: the words encode what is read, and it is in range.
use Rattle.std.proofs.Common.{◌≡◌, ℕ, suc, ◌+◌, ◌-◌, ◌^◌, ◌<◌, ◌≤◌, Bool, true, false, not, eqb, ltb, List, [], ◌∷◌, ◌++◌, length, map, Option, Some, None, refl, sym, ap, ◌∙◌, subst, arith, length-append}
use Rattle.std.specs.Prelude.{◌&&◌, ◌||◌, All, IsTrue, bytes_eq, nat_lt, is_none, codes, decimal, option_map, option_and_then}
use Rattle.std.specs.Ordering.{nat_cmp}
use Rattle.std.specs.Cmp.Lexicographic.{slice_cmp}
use Rattle.std.proofs.lemmas.Bool.{and_parts, leb-true, ltb-true, ltb-false, lt-ltb, not-true, eqb-true}
use Rattle.std.proofs.lemmas.Bool.Decides.{nat_tests}
use Rattle.std.proofs.lemmas.List.Elements.{All-nil, All-cons, All-push, All-append}
use Rattle.std.proofs.lemmas.List.{nil_from_length}
use Rattle.std.proofs.lemmas.Map.Views.{All-values-insert_entry}
use Rattle.gr_word.specs.Prelude.{is_name}
use Rattle.lt_isa.specs.declared.symbols.Note.{Note}
use Rattle.lt_isa.specs.Prelude.{NoteFits, InstrFits, next_place, is_slot_claim}
use Rattle.gr_base.proofs.EachAfter.{EachAfter-push}
use Rattle.gr_base.proofs.AtLast.{at_last-push}
use Rattle.lt_assembler.specs.declared.faults.Fault.TheVariants.{WrongForm, RepeatedName, Limit}
use Rattle.lt_assembler.specs.Prelude.{Word, claim_word, hex_word, number_within, claim_of, claims_of, Draft, place_of, takes_code, is_noted, note_read, note_line, label_line, uses_of, with_code, code_line, Coded, ALabel, ANote, AnInstruction, Label, Noted}
use Rattle.lt_assembler.proofs.Added.{takes_code-stage}
use Rattle.lt_assembler.proofs.Found.{read_if, number_from, by_answer}
use Rattle.lt_assembler.proofs.ReadsForm.{ReadsForm, form_ok, no_form, named_then, number_then, form_if, form_read}
use Rattle.gr_base.proofs.Results.{IfRead, read_ok, read_then, some_is}
use Rattle.lt_assembler.proofs.NamedWords.{same_word}
use Rattle.lt_assembler.proofs.WordsRead.{mask_from}
use Rattle.lt_assembler.proofs.InstructionsRead.{instruction_read_so}
use Rattle.lt_assembler.proofs.HeadLines.{IsPlace, DraftFits, Says, said}

-- claims about slots

abbrev IsClaim : ℕ → ℕ → Type 0
IsClaim banks claim = IsTrue (is_slot_claim banks claim)

any_claim : (banks : ℕ) → IsClaim banks 255
any_claim banks = by_second (nat_lt banks 255) (nat_lt 255 banks) where
  by_second : (a b : Bool) → (b || true) ≡ true
  by_second a true = refl
  by_second a false = refl

bank_claim : (banks claim : ℕ) → 2 ≤ banks → claim ≤ banks - 1 → IsClaim banks claim
bank_claim banks claim some le = by_first (nat_lt claim banks) (eqb claim 255) (lt-ltb claim banks (omega arith)) where
  by_first : (a b : Bool) → a ≡ true → (a || b) ≡ true
  by_first a b e = rw e refl

-- a word is a claim
abbrev IsClaimWord : ℕ → Word → ℕ → Type 0
IsClaimWord banks word claim = IsClaim banks claim × (word ≡ claim_word claim)

other_claim : (claim : ℕ) → claim < 255 → eqb claim 255 ≡ false
other_claim claim lt = grind (arith, nat_tests)

-- the word of a claim that names a bank
bank_claim_word : (claim : ℕ) (word : Word) → claim < 255 → word ≡ decimal claim → word ≡ claim_word claim
bank_claim_word claim word lt e = rw (other_claim claim lt) e

claim_from : (banks : ℕ) (word : Word) (claim : ℕ)
    → 2 ≤ banks → banks ≤ 10 → claim_of banks word ≡ Some claim → IsClaimWord banks word claim
unfolding claim_of
claim_from banks word claim some few e =
    by_answer (bytes_eq word (codes "-")) (Some 255) (number_within 0 (banks - 1) word) (IsClaimWord banks word)
    (λ dash z h. subst (IsClaimWord banks word) (some_is 255 z h) (any_claim banks, same_word word (codes "-") dash))
    (λ _ z h.
    let n = number_from 0 (banks - 1) word z h in
    (bank_claim banks z some n.1, bank_claim_word z word (omega (arith, n.1, few)) n.2)) claim e

record AreClaims (banks : ℕ) (words : List Word) (claims : List ℕ) : Type 0 where
  count : length claims ≡ length words
  each : All (IsClaim banks) claims
  spelled : words ≡ map claim_word claims

no_claims : (banks : ℕ) → AreClaims banks [] []
no_claims banks = record { count = refl; each = All-nil (IsClaim banks); spelled = refl }

more_claims : (banks : ℕ) (word : Word) (words : List Word) (claim : ℕ) (claims : List ℕ)
    → IsClaimWord banks word claim → AreClaims banks words claims → AreClaims banks (word ∷ words) (claim ∷ claims)
more_claims banks word words claim claims h k = record {
  count = ap suc k.count;
  each = All-cons (IsClaim banks) claim claims h.0 k.each;
  spelled = ap (λ (w : Word). w ∷ words) h.1 ∙ ap (λ (ws : List Word). claim_word claim ∷ ws) k.spelled;
}

claims_from : (banks : ℕ) (words : List Word)
    → 2 ≤ banks → banks ≤ 10 → (claims : List ℕ) → claims_of banks words ≡ Some claims → AreClaims banks words claims
claims_from banks [] some few claims e = subst (AreClaims banks []) (some_is [] claims e) (no_claims banks)
claims_from banks (word ∷ words) some few claims e =
    behind (claim_of banks word) (claims_of banks words) (λ z h. claim_from banks word z some few h)
    (claims_from banks words some few) claims e
  where
    behind : (first : Option ℕ) (rest : Option (List ℕ)) → ((z : ℕ) → first ≡ Some z → IsClaimWord banks word z)
        → ((zs : List ℕ) → rest ≡ Some zs → AreClaims banks words zs) → (zs : List ℕ)
        → option_and_then (λ z. option_map (λ cs. z ∷ cs) rest) first ≡ Some zs → AreClaims banks (word ∷ words) zs
    behind None rest h k zs e = absurd cc
    behind (Some z) None h k zs e = absurd cc
    behind (Some z) (Some cs) h k zs e =
        subst (AreClaims banks (word ∷ words)) (some_is (z ∷ cs) zs e)
        (more_claims banks word words z cs (h z refl) (k cs refl))

-- the words of a note
abbrev pub IsNoteOf : List Word → Note → Type 0
IsNoteOf words n = codes ".note" ∷ words ≡ codes ".note" ∷ hex_word 8 n.secrets ∷ map claim_word n.slots

-- a note's line has a mask and eight words after its first
pub note_fits : (F : Type 0) (banks place : ℕ) (before : List Note) (words : List Word)
    → 2 ≤ banks → banks ≤ 10 → next_place before ≤ place → place ≤ 1048576
    → ((mask : ℕ) → (claims : List Word) → mask < 2 ^ 32 → length claims ≡ 8 → words ≡ hex_word 8 mask ∷ claims → F)
    → ReadsForm (note_read banks place words) F (λ n. NoteFits banks before n × (n.pc ≡ place) × IsNoteOf words n)
unfolding note_read
note_fits F banks place before [] some most behind few k = no_form _ _
note_fits F banks place before (mask ∷ claims) some most behind few k =
    form_if (eqb (length claims) 8) _ _ _ (λ whole.
    named_then _ _ _ _ _ (mask_from mask) (λ secrets hm.
    let has : F =
    k secrets claims hm.0 (eqb-true _ _ whole) (ap (λ (w : Word). w ∷ claims) hm.1) in
    number_then _ _ _ (AreClaims banks claims) _ has (claims_from banks claims some most) (λ slots hs.
    form_ok _ _ _ has (
      record {
        pc = (behind, omega arith);
        secrets = hm.0;
        slot_count = hs.count ∙ eqb-true _ _ whole;
        slots = hs.each;
      },
      refl,
      ap (λ (w : Word). codes ".note" ∷ w ∷ claims) hm.1
          ∙ ap (λ (ws : List Word). codes ".note" ∷ hex_word 8 secrets ∷ ws) hs.spelled,
    ))))

-- a note at the next place is added to the draft
noted_is : (place : ℕ) (n : Note) (d : Draft) → n.pc ≡ place
    → record d { notes = d.notes ++ n ∷ [] }
    ≡ record d { notes = d.notes ++ record { pc = place; secrets = n.secrets; slots = n.slots } ∷ [] }
noted_is place n d e =
    ap (λ k. record d { notes = d.notes ++ record { pc = k; secrets = n.secrets; slots = n.slots } ∷ [] }) e

-- the words of a note's line encode what is read
pub note_line_fits : (n : ℕ) (follows : Bool) (words : List Word) (d : Draft)
    → DraftFits d → IfRead (note_line follows words d) (Says n (codes ".note" ∷ words) d)
unfolding note_line
note_line_fits n follows words d h =
    read_if WrongForm (takes_code d && (not (is_noted d) && follows)) _ _ (λ there.
    let p = and_parts _ _ there in
    let q = and_parts _ _ p.1 in
    let behind : next_place d.notes ≤ length d.code = ltb-false _ _ (not-true _ q.0) in
    let stands = takes_code-stage d h.headed p.0 in
    read_then _ _ _ _ (form_read _ _ _ (note_fits (Unit {0}) (length d.banks) (length d.code) d.notes words
    (leb-true _ _ p.0) h.head.bank_count behind h.lines.code_count (λ mask claims small eight is. tt))) (λ m found.
    read_if Limit (ltb (length d.notes) 262144) _ _ (λ room.
    let few : length d.notes < 262144 = ltb-true _ _ room in
    read_ok _ _ (said n d _ (ANote m.secrets m.slots) h (Noted m.secrets m.slots) (sym found.2) stands tt
    (noted_is (length d.code) m d found.1) h.head (record {
      note_count = omega (arith, few, length-append d.notes (m ∷ []));
      notes = EachAfter-push (NoteFits (length d.banks)) [] d.notes m h.lines.notes found.0;
      last_note = omega (arith, found.1, at_last-push (λ (x : Note). x.pc + 1) d.notes m);
      code_count = h.lines.code_count;
      code = h.lines.code;
    }) h.names))))

-- a label's line has no other word
alone : (name : Word) (words : List Word) → eqb (length words) 0 ≡ true → words ≡ []
alone name words e = nil_from_length words (eqb-true _ _ e)

-- an option that a test finds to be None
pub none_is : (o : Option ℕ) → is_none o ≡ true → o ≡ None
none_is None e = refl
none_is (Some n) e = absurd cc

-- the words of a label's line encode what is read
pub label_line_fits : (n : ℕ) (name word : Word) (words : List Word) (d : Draft)
    → word ≡ name ++ codes ":" → DraftFits d → IfRead (label_line name words d) (Says n (word ∷ words) d)
unfolding label_line
label_line_fits n name word words d is h =
    read_if WrongForm (takes_code d && (is_name name && eqb (length words) 0)) _ _ (λ there.
    read_if RepeatedName (is_none (place_of d.labels name)) _ _ (λ new.
    let p = and_parts _ _ there in
    let q = and_parts _ _ p.1 in
    let stands = takes_code-stage d h.headed p.0 in
    let line : (name ++ codes ":") ∷ [] ≡ word ∷ words =
    ap (λ (w : Word). w ∷ []) (sym is) ∙ ap (λ (ws : List Word). word ∷ ws) (sym (alone name words q.1)) in
    read_ok _ _ (said n d _ (ALabel name) h (Label name q.0) line stands (none_is (place_of d.labels name) new) refl
    h.head h.lines (record {
      labels = All-values-insert_entry (slice_cmp nat_cmp) name (length d.code) IsPlace d.labels h.names.labels
          h.lines.code_count;
      uses = h.names.uses;
    }))))

uses_fit : (place n : ℕ) (label : Option Word) → place ≤ 1048576 → All (λ u. IsPlace u.place) (uses_of place n label)
uses_fit place n None few = All-nil (λ u. IsPlace u.place)
uses_fit place n (Some name) few =
    All-cons (λ u. IsPlace u.place) (record { name = name; place = place; line = n }) [] few
    (All-nil (λ u. IsPlace u.place))

-- the words of an instruction's line encode what is read
pub code_line_fits : (n : ℕ) (words : List Word) (d : Draft)
    → DraftFits d → IfRead (code_line n words d) (Says n words d)
unfolding code_line
code_line_fits n words d h =
    read_if WrongForm (takes_code d) _ _ (λ there.
    let stands = takes_code-stage d h.headed there in
    read_then _ _ _ _
    (form_read _ _ _ (instruction_read_so (length d.banks) (length d.code) words h.lines.code_count)) (λ coded found.
    read_if Limit (ltb (length d.code) 1048576) _ _ (λ room.
    let few : length d.code < 1048576 = ltb-true _ _ room in
    let size = length-append d.code (coded.instr ∷ []) in
    read_ok _ _ (said n d _ (AnInstruction found.instr found.target) h found.spells refl stands tt
    (ap (λ (c : Coded). with_code n c d) found.is) h.head (record {
      note_count = h.lines.note_count;
      notes = h.lines.notes;
      last_note = omega (arith, size, h.lines.last_note);
      code_count = omega (arith, few, size);
      code = All-push (InstrFits (length d.banks)) d.code coded.instr h.lines.code found.fits;
    }) (record {
      labels = h.names.labels;
      uses = All-append (λ u. IsPlace u.place) d.uses (uses_of (length d.code) n coded.label) h.names.uses
          (uses_fit (length d.code) n coded.label h.lines.code_count);
    })))))
