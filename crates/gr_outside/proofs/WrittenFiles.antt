-- A write to one name leaves all other files as they were.
use Rattle.std.proofs.Common.{◌≡◌, ℕ, Bool, true, false, cond, List, Option, Some, None, refl, sym, ap, ◌∙◌}
use Rattle.std.specs.Ordering.{nat_cmp, eq_by_cmp}
use Rattle.std.specs.Cmp.Lexicographic.{slice_cmp, nat_list_cmp_total}
use Rattle.std.specs.FinMap.{get, remove, same_map, get-insert, get-remove, slice_cmp-IsAntisymmetric, nat_cmp-IsAntisymmetric}
use Rattle.gr_outside.specs.Prelude.{Files, with_file}

covered : (same : Bool) (there : Option (List ℕ)) (bytes : List ℕ)
    → cond same None (cond same (Some bytes) there) ≡ cond same None there
covered true there bytes = refl
covered false there bytes = refl

-- the other files are the same, whether or not one was written
pub remove_with_file : (name bytes : List ℕ) (files : Files)
    → remove (with_file name bytes files) name ≡ remove files name
remove_with_file name bytes files =
    same_map nat_list_cmp_total (slice_cmp-IsAntisymmetric nat_cmp-IsAntisymmetric) _ _
    (λ q. get-remove nat_list_cmp_total (with_file name bytes files) name q
    ∙ ap (cond (eq_by_cmp (slice_cmp nat_cmp) q name) None) (get-insert nat_list_cmp_total files name bytes q)
    ∙ covered (eq_by_cmp (slice_cmp nat_cmp) q name) (get files q) bytes
    ∙ sym (get-remove nat_list_cmp_total files name q))
