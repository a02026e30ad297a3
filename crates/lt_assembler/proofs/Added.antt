-- What an item adds to a draft, and the stages of lines.
use Rattle.std.proofs.Common.{◌≡◌, ℕ, ◌+◌, ◌≤◌, Bool, true, false, not, eqb, List, [], ◌∷◌, ◌++◌, length, Option, Some, None, refl, ap, arith, length-append}
use Rattle.std.specs.Prelude.{◌&&◌, ◌||◌, is_some, is_none}
use Rattle.std.specs.Ordering.{nat_cmp, match_ordering}
use Rattle.std.specs.declared.cmp.Ordering.{Ordering}
use Rattle.std.specs.declared.cmp.Ordering.TheVariants.{Less, Equal, Greater}
use Rattle.std.specs.Cmp.Lexicographic.{slice_cmp}
use Rattle.std.proofs.lemmas.Bool.{leb-true}
use Rattle.std.proofs.lemmas.Bool.Decides.{nat_tests}
use Rattle.gr_base.specs.Prelude.{Within}
use Rattle.lt_isa.specs.declared.profiles.Profile.{Profile}
use Rattle.lt_isa.specs.declared.instructions.Instr.{Instr}
use Rattle.lt_assembler.specs.Prelude.{Word, Coded, offset_to, Labels, Draft, empty_draft, place_of, with_label, has_code, takes_bank, takes_symbol, takes_code, with_code, Target, ToPlace, ToLabel, Item, Nothing, AnObject, ABank, ASymbol, ALabel, ANote, AnInstruction, Stands, stage_behind}
use Rattle.lt_isa.specs.Prelude.{with_offset}

-- an instruction at a place, by its target
abbrev pub coded_in : ℕ → Instr → Option Target → Coded
coded_in place i None = record { instr = i; label = None }
coded_in place i (Some (ToPlace to)) = record { instr = with_offset (offset_to to place) i; label = None }
coded_in place i (Some (ToLabel name)) = record { instr = i; label = Some name }

-- the draft with the item of line n
abbrev pub added : ℕ → Item → Draft → Draft
added n Nothing d = d
added n (AnObject profile) d = record d { profile = Some profile }
added n (ABank bank) d = record d { banks = d.banks ++ bank ∷ [] }
added n (ASymbol symbol) d = record d { symbols = d.symbols ++ symbol ∷ [] }
added n (ALabel name) d = record d { labels = with_label name (length d.code) d.labels }
added n (ANote mask claims) d =
    record d { notes = d.notes ++ record { pc = length d.code; secrets = mask; slots = claims } ∷ [] }
added n (AnInstruction instr target) d = with_code n (coded_in (length d.code) instr target) d

-- the draft after a list of items, the first of which is line n's
abbrev pub adds : ℕ → List Item → Draft → Draft
adds n [] d = d
adds n (item ∷ items) d = adds (n + 1) items (added n item d)

-- if an item is a label, the draft doesn't have it yet
abbrev pub IsFresh : Draft → Item → Type 0
IsFresh d (ALabel name) = place_of d.labels name ≡ None
IsFresh d item = Unit {0}

-- no item repeats a label
abbrev pub AreFresh : ℕ → List Item → Draft → Type 0
AreFresh n [] d = Unit {0}
AreFresh n (item ∷ items) d = IsFresh d item × AreFresh (n + 1) items (added n item d)

-- the stage of a draft, by whether it has a first line and code, and whether it has no symbols and no banks
abbrev pub stage_of : Bool → Bool → Bool → Bool → ℕ
stage_of false code symbols banks = 0
stage_of true true symbols banks = 4
stage_of true false false banks = 3
stage_of true false true false = 2
stage_of true false true true = 1

-- the stage that a draft has reached: nothing, the first line, banks, symbols or code
unfoldable pub stage_in : Draft → ℕ
stage_in d = stage_of (is_some d.profile) (has_code d) (eqb (length d.symbols) 0) (eqb (length d.banks) 0)

-- a draft without a first line is empty
abbrev pub IsHeaded : Draft → Type 0
IsHeaded d = d.profile ≡ None → d ≡ empty_draft

-- the stages at which a line is allowed

bank_stage : (p c s b : Bool) → (p && (s && not c)) ≡ true → Within 1 2 (stage_of p c s b)
bank_stage true false true true e = (omega arith, omega arith)
bank_stage true false true false e = (omega arith, omega arith)
bank_stage true true true b e = absurd cc
bank_stage _ _ _ b e = absurd cc

-- a draft that takes a bank is at stage 1 or 2
pub takes_bank-stage : (d : Draft) → takes_bank d ≡ true → Within 1 2 (stage_in d)
unfolding stage_in
takes_bank-stage d e = bank_stage (is_some d.profile) (has_code d) (eqb (length d.symbols) 0) (eqb (length d.banks) 0) e

stage_bank : (p c s b : Bool) → Within 1 2 (stage_of p c s b) → (p && (s && not c)) ≡ true
stage_bank true false true b h = refl
stage_bank true false false b h = absurd (omega (arith, h.1))
stage_bank true true s b h = absurd (omega (arith, h.1))
stage_bank false c s b h = absurd (omega (arith, h.0))

-- a draft at stage 1 or 2 takes a bank
pub stage-takes_bank : (d : Draft) → Within 1 2 (stage_in d) → takes_bank d ≡ true
unfolding stage_in
stage-takes_bank d h = stage_bank (is_some d.profile) (has_code d) (eqb (length d.symbols) 0) (eqb (length d.banks) 0) h

-- a number from 1 on isn't 0
pub not_zero : (n : ℕ) → 1 ≤ n → eqb n 0 ≡ false
not_zero n h = grind (arith, nat_tests)

some_items : {X : Type 0} (xs : List X) → 1 ≤ length xs → eqb (length xs) 0 ≡ false
some_items xs h = not_zero (length xs) h

symbol_stage : (p m c s b : Bool) → b ≡ false → (p && (m && not c)) ≡ true → Within 2 3 (stage_of p c s b)
symbol_stage true true false true false f e = (omega arith, omega arith)
symbol_stage true true false false b f e = (omega arith, omega arith)
symbol_stage _ _ _ _ b f e = absurd cc

-- a draft that takes a symbol is at stage 2 or 3
pub takes_symbol-stage : (d : Draft) → 2 ≤ length d.banks → takes_symbol d ≡ true → Within 2 3 (stage_in d)
unfolding stage_in
takes_symbol-stage d some e =
    symbol_stage (is_some d.profile) (takes_code d) (has_code d) (eqb (length d.symbols) 0) (eqb (length d.banks) 0)
    (some_items d.banks (omega (arith, some))) e

stage_symbol : (p m c s b : Bool) → m ≡ true → Within 2 3 (stage_of p c s b) → (p && (m && not c)) ≡ true
stage_symbol true true false s b e h = refl
stage_symbol true true true s b e h = absurd (omega (arith, h.1))
stage_symbol p false c s b e h = absurd cc
stage_symbol false true c s b e h = absurd (omega (arith, h.0))

-- a draft that takes code takes a symbol at stage 2 or 3
pub stage-takes_symbol : (d : Draft) → takes_code d ≡ true → Within 2 3 (stage_in d) → takes_symbol d ≡ true
unfolding stage_in
stage-takes_symbol d code h =
    stage_symbol (is_some d.profile) (takes_code d) (has_code d) (eqb (length d.symbols) 0)
    (eqb (length d.banks) 0) code h

code_stage : (p c s b : Bool) → p ≡ true → b ≡ false → 2 ≤ stage_of p c s b
code_stage true true s b e f = omega arith
code_stage true false false b e f = omega arith
code_stage true false true false e f = omega arith
code_stage true false true true e f = absurd cc
code_stage false c s b e f = absurd cc

headed : (o : Option Profile) → (o ≡ None → ⊥) → is_some o ≡ true
headed None h = absurd (h refl)
headed (Some p) h = refl

no_banks : (d : Draft) → d ≡ empty_draft → 2 ≤ length d.banks → ⊥
no_banks d e some = absurd (omega (arith, some, ap (λ (x : Draft). length x.banks) e))

-- a draft that takes code is at stage 2 or later
pub takes_code-stage : (d : Draft) → IsHeaded d → takes_code d ≡ true → 2 ≤ stage_in d
unfolding stage_in
takes_code-stage d h e =
    let some : 2 ≤ length d.banks = leb-true 2 (length d.banks) e in
    code_stage (is_some d.profile) (has_code d) (eqb (length d.symbols) 0) (eqb (length d.banks) 0)
    (headed d.profile (λ none. no_banks d (h none) some)) (some_items d.banks (omega (arith, some)))

first_stage : (o : Option Profile) (c s b : Bool) → is_none o ≡ true → stage_of (is_some o) c s b ≡ 0
first_stage None c s b e = refl
first_stage (Some p) c s b e = absurd cc

-- a draft without a first line is at stage 0
pub is_none-stage : (d : Draft) → is_none d.profile ≡ true → stage_in d ≡ 0
unfolding stage_in
is_none-stage d e = first_stage d.profile (has_code d) (eqb (length d.symbols) 0) (eqb (length d.banks) 0) e

stage_first : (o : Option Profile) (c s b : Bool) → stage_of (is_some o) c s b ≡ 0 → o ≡ None
stage_first None c s b e = refl
stage_first (Some p) true s b e = absurd (omega (arith, e))
stage_first (Some p) false false b e = absurd (omega (arith, e))
stage_first (Some p) false true true e = absurd (omega (arith, e))
stage_first (Some p) false true false e = absurd (omega (arith, e))

-- a draft at stage 0 has no first line
pub stage-is_none : (d : Draft) → stage_in d ≡ 0 → d.profile ≡ None
unfolding stage_in
stage-is_none d e = stage_first d.profile (has_code d) (eqb (length d.symbols) 0) (eqb (length d.banks) 0) e

-- the stage after an item

stage_some : (o : Option Profile) (c s b : Bool) → 1 ≤ stage_of (is_some o) c s b → is_some o ≡ true
stage_some None c s b h = absurd (omega (arith, h))
stage_some (Some p) c s b h = refl

-- after the first line
pub stage-is_some : (d : Draft) → 1 ≤ stage_in d → is_some d.profile ≡ true
unfolding stage_in
stage-is_some d h = stage_some d.profile (has_code d) (eqb (length d.symbols) 0) (eqb (length d.banks) 0) h

to_banks : (p c s b : Bool) → Within 1 2 (stage_of p c s b) → stage_of p c s false ≡ 2
to_banks true false true b h = refl
to_banks true false false b h = absurd (omega (arith, h.1))
to_banks true true s b h = absurd (omega (arith, h.1))
to_banks false c s b h = absurd (omega (arith, h.0))

to_symbols : (p c s b : Bool) → Within 2 3 (stage_of p c s b) → stage_of p c false b ≡ 3
to_symbols true false s b h = refl
to_symbols true true s b h = absurd (omega (arith, h.1))
to_symbols false c s b h = absurd (omega (arith, h.0))

to_code : (p c s b : Bool) → p ≡ true → c ≡ true → stage_of p c s b ≡ 4
to_code true true s b e f = refl
to_code true false s b e f = absurd cc
to_code false c s b e f = absurd cc

pushed : {X : Type 0} (xs : List X) (x : X) → eqb (length (xs ++ x ∷ [])) 0 ≡ false
pushed xs x = not_zero (length (xs ++ x ∷ [])) (omega (arith, length-append xs (x ∷ [])))

by_order : (o : Ordering) (a b c : Labels)
    → 1 ≤ length a → 1 ≤ length b → 1 ≤ length c → 1 ≤ length (match_ordering o a b c)
by_order Less a b c h k l = h
by_order Equal a b c h k l = k
by_order Greater a b c h k l = l

-- there is a label after one was added
pub inserted : (labels : Labels) (name : Word) (place : ℕ) → 1 ≤ length (with_label name place labels)
inserted [] name place = omega arith
inserted (e ∷ es) name place =
    by_order (slice_cmp nat_cmp name e.0) ((name, place) ∷ e ∷ es) ((e.0, place) ∷ es) (e ∷ with_label name place es)
    (omega arith) (omega arith) (omega arith)

code_first : (a b : Bool) → a ≡ false → (not a || b) ≡ true
code_first true b e = absurd cc
code_first false b e = refl

code_rest : (a b : Bool) → b ≡ true → (not a || b) ≡ true
code_rest true b e = e
code_rest false b e = refl

code_last : (a b : Bool) → b ≡ false → (not a || not b) ≡ true
code_last true b e = rw e refl
code_last false b e = refl

-- the stage after one more item
pub stage-added : (n : ℕ) (item : Item) (d : Draft)
    → IsHeaded d → Stands (stage_in d) item → stage_in (added n item d) ≡ stage_behind (stage_in d) item
unfolding stage_in
stage-added n Nothing d h stands = refl
stage-added n (AnObject p) d h stands = rw (h (stage-is_none d stands)) refl
stage-added n (ABank b) d h stands =
    rw (pushed d.banks b)
    (to_banks (is_some d.profile) (has_code d) (eqb (length d.symbols) 0) (eqb (length d.banks) 0) stands)
stage-added n (ASymbol s) d h stands =
    rw (pushed d.symbols s)
    (to_symbols (is_some d.profile) (has_code d) (eqb (length d.symbols) 0) (eqb (length d.banks) 0) stands)
stage-added n (ALabel name) d h stands =
    to_code (is_some d.profile) _ (eqb (length d.symbols) 0) (eqb (length d.banks) 0)
    (stage-is_some d (omega (arith, stands)))
    (code_rest (eqb (length d.code) 0) _ (code_last (eqb (length d.notes) 0) _
    (some_items (with_label name (length d.code) d.labels) (inserted d.labels name (length d.code)))))
stage-added n (ANote mask claims) d h stands =
    to_code (is_some d.profile) _ (eqb (length d.symbols) 0) (eqb (length d.banks) 0)
    (stage-is_some d (omega (arith, stands)))
    (code_rest (eqb (length d.code) 0) _ (code_first _ (not (eqb (length d.labels) 0))
    (pushed d.notes (record { pc = length d.code; secrets = mask; slots = claims }))))
stage-added n (AnInstruction i t) d h stands =
    to_code (is_some d.profile) _ (eqb (length d.symbols) 0) (eqb (length d.banks) 0)
    (stage-is_some d (omega (arith, stands)))
    (code_first _ _ (pushed d.code (coded_in (length d.code) i t).instr))

has_first : (o : Option Profile) → is_some o ≡ true → o ≡ None → ⊥
has_first None some e = cc
has_first (Some p) some e = cc

-- one more item leaves no draft without a first line
pub IsHeaded-added : (n : ℕ) (item : Item) (d : Draft)
    → IsHeaded d → Stands (stage_in d) item → IsHeaded (added n item d)
IsHeaded-added n Nothing d h stands = h
IsHeaded-added n (AnObject p) d h stands = λ e. absurd cc
IsHeaded-added n (ABank b) d h stands = λ e. absurd (has_first d.profile (stage-is_some d stands.0) e)
IsHeaded-added n (ASymbol s) d h stands =
    λ e. absurd (has_first d.profile (stage-is_some d (omega (arith, stands.0))) e)
IsHeaded-added n other d h stands =
    λ e. absurd (has_first d.profile (stage-is_some d (omega (arith, stands))) e)
