-- Variables in zones are within their bank, and no two share a word.
use Rattle.std.proofs.Common.{◌≡◌, ℕ, suc, ◌+◌, ◌*◌, ◌-◌, ◌<◌, ◌≤◌, List, [], ◌∷◌, ◌++◌, ◌⊎◌, inl, inr, ap, arith}
use Rattle.std.proofs.lemmas.Bool.{cases_order}
use Rattle.bank_alloc.specs.declared.places.Place.{Place}
use Rattle.bank_alloc.specs.Prelude.{AreApart, start_of_place, end_of_place}
use Rattle.resident_alloc.specs.declared.wants.Want.{Want}
use Rattle.resident_alloc.specs.Prelude.{resident_blocks}
use Rattle.resident_alloc.proofs.Zones.{base, used, used_rise, ScalarsFitBlock, zones_apart, base_rises, base_within}
use Rattle.resident_alloc.proofs.Stored.{LiesIn}

-- a zone ends before any later one begins
later_zone : (size : ℕ) (all : List Want) → ScalarsFitBlock size all → (bank m n : ℕ) → m < n
    → base size all bank m + used size all bank m all ≤ base size all bank n
later_zone size all fit bank m n less =
    let gap : suc m + (n - suc m) ≡ n = omega arith in
    let reached = ap (base size all bank) gap in
    omega (arith, zones_apart size all fit bank m, base_rises size all fit bank (suc m) (n - suc m), reached)

-- a variable ends before its zone does
lies_before_end : (size : ℕ) (all before rest : List Want) (v : Want) (q : Place) → all ≡ (before ++ v ∷ []) ++ rest
    → (l : LiesIn size all before v q)
    → end_of_place size q ≤ base size all q.bank l.zone + used size all q.bank l.zone all
lies_before_end size all before rest v q whole l =
    let more = used_rise size all q.bank l.zone (before ++ v ∷ []) rest in
    let total = ap (used size all q.bank l.zone) whole in
    let end = l.end in
    omega (arith, more, total, end)

pub lies_inside : (size : ℕ) (all before rest : List Want) (v : Want) (q : Place) → ScalarsFitBlock size all
    → all ≡ (before ++ v ∷ []) ++ rest → LiesIn size all before v q
    → end_of_place size q ≤ size * resident_blocks size all q.bank
lies_inside size all before rest v q fit whole l =
    let end = lies_before_end size all before rest v q whole l in
    let next = zones_apart size all fit q.bank l.zone in
    let last = base_within size all fit q.bank (suc l.zone) in
    omega (arith, end, next, last)

-- of two variables, where the first is declared before the second
pub apart_by_zones : (size : ℕ) (all : List Want) → ScalarsFitBlock size all
    → (before rest : List Want) (v : Want) (q : Place) (later end between : List Want) (x : Want) (r : Place)
    → all ≡ (before ++ v ∷ []) ++ rest → all ≡ (later ++ x ∷ []) ++ end → later ≡ (before ++ v ∷ []) ++ between
    → LiesIn size all before v q → LiesIn size all later x r → AreApart size q r
apart_by_zones size all fit before rest v q later end between x r whole whole_later front a b same =
    by (cases_order a.zone b.zone) where
      first : end_of_place size q ≤ base size all q.bank a.zone + used size all q.bank a.zone all
      first = lies_before_end size all before rest v q whole a

      second : end_of_place size r ≤ base size all r.bank b.zone + used size all r.bank b.zone all
      second = lies_before_end size all later end x r whole_later b

      first_here : base size all q.bank b.zone ≡ base size all r.bank b.zone
      first_here = ap (λ k. base size all k b.zone) same

      by : (a.zone ≡ b.zone) ⊎ ((a.zone < b.zone) ⊎ (b.zone < a.zone))
          → (end_of_place size q ≤ start_of_place size r) ⊎ (end_of_place size r ≤ start_of_place size q)
      by (inl equal) =
          let more = used_rise size all q.bank a.zone (before ++ v ∷ []) between in
          let total = ap (used size all q.bank a.zone) front in
          let zone_base = ap (base size all q.bank) equal in
          let zone_used = ap (λ z. used size all q.bank z later) equal in
          let bank_used = ap (λ k. used size all k b.zone later) same in
          let ends = a.end in
          let starts = b.start in
          inl (omega (arith, more, total, zone_base, zone_used, bank_used, ends, starts, first_here))
      by (inr (inl less)) =
          let apart = later_zone size all fit q.bank a.zone b.zone less in
          let starts = b.start in
          inl (omega (arith, first, apart, first_here, starts))
      by (inr (inr more)) =
          let apart = later_zone size all fit r.bank b.zone a.zone more in
          let here = ap (λ k. base size all k a.zone) same in
          let starts = a.start in
          inr (omega (arith, second, apart, here, starts))
