-- What variables want and what is planned for them, one more at a time.
use Rattle.std.proofs.Common.{◌≡◌, ℕ, ◌+◌, ◌<◌, ◌≤◌, List, [], ◌∷◌, ◌++◌, length, map, take, drop, get_or, sym, ap, ◌∙◌, subst, arith, append_assoc}
use Rattle.std.proofs.lemmas.List.{append-nil, take_all, take_more, drop_more, drop_all, length-map}
use Rattle.std.proofs.lemmas.List.Elements.{All-map}
use Rattle.src_tree.specs.declared.trees.Decl.{Decl}
use Rattle.src_tree.specs.Prelude.{IsWithinLimits, words_of, Source}
use Rattle.bank_alloc.specs.Prelude.{class_of}
use Rattle.bank_alloc.proofs.PlacedBehind.{words_fit}
use Rattle.resident_alloc.specs.declared.storages.Planned.{Planned}
use Rattle.resident_alloc.specs.declared.wants.Want.{Want}
use Rattle.resident_alloc.specs.Prelude.{AreShort, planned, planned_behind, wants_of}

-- one variable more
pub planned_more : (size : ℕ) (all : List Want) (i : ℕ) (d : Want) (of_all more : List Planned) (one : Planned)
    → i < length all → one ≡ planned size all (take i all) (get_or all i d) → more ≡ of_all ++ one ∷ []
    → of_all ++ planned_behind size all (take i all) (drop i all) ≡ planned_behind size all [] all
    → more ++ planned_behind size all (take (i + 1) all) (drop (i + 1) all) ≡ planned_behind size all [] all
unfolding planned_behind
planned_more size all i d of_all more one within is pushed so_far =
    let first = planned size all (take i all) (get_or all i d) in
    ap (λ (m : List Planned). m ++ planned_behind size all (take (i + 1) all) (drop (i + 1) all))
    (pushed ∙ ap (λ x. of_all ++ x ∷ []) is)
    ∙ append_assoc of_all (first ∷ []) (planned_behind size all (take (i + 1) all) (drop (i + 1) all))
    ∙ ap (λ (before : List Want). of_all ++ (first ∷ planned_behind size all before (drop (i + 1) all)))
    (take_more all i d within)
    ∙ ap (λ (left : List Want). of_all ++ planned_behind size all (take i all) left) (sym (drop_more all i d within))
    ∙ so_far

pub planned_done : (size : ℕ) (all : List Want) (i : ℕ) (of_all : List Planned) → length all ≤ i
    → of_all ++ planned_behind size all (take i all) (drop i all) ≡ planned_behind size all [] all
    → of_all ≡ planned_behind size all [] all
unfolding planned_behind
planned_done size all i of_all past so_far =
    sym (append-nil of_all)
    ∙ ap (λ (left : List Want). of_all ++ planned_behind size all (take i all) left) (sym (drop_all i all past))
    ∙ so_far

-- what the variables of a program want
abbrev want_of : Source → Decl → Want
want_of p d = record { class = class_of p d; words = words_of d }

wants_short : (p : Source) → IsWithinLimits p → AreShort (wants_of p)
wants_short p limits = record {
  count = omega (arith, length-map p.decls (want_of p), limits.variables);
  lengths = All-map (λ (v : Want). v.words ≤ 1048576) (want_of p) p.decls (words_fit p.decls limits.lengths);
}

pub wants_all : (p : Source) (decls : List Decl) (i : ℕ) (wants : List Want) → IsWithinLimits p → decls ≡ p.decls
    → length decls ≤ i → wants ≡ map (want_of p) (take i decls) → AreShort wants
wants_all p decls i wants limits same past so_far =
    subst AreShort (sym (so_far ∙ ap (map (want_of p)) (take_all i decls past) ∙ ap (map (want_of p)) same))
    (wants_short p limits)
