-- If no place between two places has a claim, no note is between them.
use Rattle.std.proofs.Common.{◌≡◌, ℕ, ◌<◌, ◌==◌, Bool, true, false, ◌&&◌, nat_lt, List, [], ◌∷◌, Option, Some, None, refl, sym, ap, ◌∙◌}
use Rattle.std.specs.Prelude.{if◌then◌else◌}
use Rattle.std.specs.List.{list_any}
use Rattle.std.specs.Option.{option_map}
use Rattle.std.proofs.lemmas.Bool.{or_from, and_parts, ltb-true, eq-eqb}
use Rattle.lt_isa.specs.declared.symbols.Note.{Note}
use Rattle.lt_isa.specs.Prelude.{Parts}
use Rattle.trace_patterns.specs.Prelude.{Known, note_known, has_note_between, note_of_place, claimed_at}

-- no note is found at any place between two places
NoneFound : List Note → ℕ → ℕ → Type 0
NoneFound notes low high = (r : ℕ) → low < r → r < high → note_of_place notes r ≡ None

none_behind : (n : Note) (notes : List Note) (r : ℕ) → note_of_place (n ∷ notes) r ≡ None → note_of_place notes r ≡ None
none_behind n notes r none = by (n.pc == r) refl
  where
    by : (here : Bool) → (n.pc == r) ≡ here → note_of_place notes r ≡ None
    by true is =
        absurd (let f : ◌≡◌ {A = Option Note} (Some n) None =
        sym (ap (λ (b : Bool). if b then Some n else note_of_place notes r) is) ∙ none in cc)
    by false is = sym (ap (λ (b : Bool). if b then Some n else note_of_place notes r) is) ∙ none

none_between : (notes : List Note) (low high : ℕ) → NoneFound notes low high
    → list_any (λ n. nat_lt low n.pc && nat_lt n.pc high) notes ≡ false
unfolding NoneFound
none_between [] low high none = refl
none_between (n ∷ notes) low high none =
    or_from (nat_lt low n.pc && nat_lt n.pc high) (list_any (λ m. nat_lt low m.pc && nat_lt m.pc high) notes)
    (by (nat_lt low n.pc && nat_lt n.pc high) refl)
    (none_between notes low high (λ r after before. none_behind n notes r (none r after before)))
  where
    by : (held : Bool) → (nat_lt low n.pc && nat_lt n.pc high) ≡ held → held ≡ false
    by false is = refl
    by true is =
        let parts = and_parts (nat_lt low n.pc) (nat_lt n.pc high) is in
        let found : note_of_place (n ∷ notes) n.pc ≡ Some n =
        ap (λ (b : Bool). if b then Some n else note_of_place notes n.pc) (eq-eqb n.pc n.pc refl) in
        absurd (let f : ◌≡◌ {A = Option Note} (Some n) None =
        sym found ∙ none n.pc (ltb-true low n.pc parts.0) (ltb-true n.pc high parts.1) in cc)

unclaimed : (found : Option Note) → option_map note_known found ≡ None → found ≡ None
unclaimed None e = refl
unclaimed (Some n) e = absurd (let f : ◌≡◌ {A = Option Known} (Some (note_known n)) None = e in cc)

-- if no place between two places has a claim, no note is between them
pub quiet-unclaimed : (o : Parts) (low high : ℕ) → ((r : ℕ) → low < r → r < high → claimed_at o r ≡ None)
    → has_note_between o low high ≡ false
unfolding claimed_at NoneFound
quiet-unclaimed o low high none =
    none_between o.notes low high (λ r after before. unclaimed (note_of_place o.notes r) (none r after before))
