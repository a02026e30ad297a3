-- A region of public code that is crossed or blocked, over numbers and over trees.
use Rattle.std.proofs.Common.{◌≡◌, ℕ, ◌-◌, ◌<◌, ℤ, List, length, sym, ap, ◌∙◌, subst, arith}
use Rattle.lt_isa.specs.Prelude.{Parts}
use Rattle.symbolic_values.specs.declared.nodes.Node.{Node}
use Rattle.trace_patterns.specs.declared.reasons.Reason.{Reason}
use Rattle.trace_patterns.specs.Prelude.{Known, over_trees, SymState, at_entry, BlockedAt}
use Rattle.region_walk.specs.declared.states.RegionState.{RegionState}
use Rattle.region_walk.specs.declared.walks.Way.{Way}
use Rattle.region_walk.specs.Prelude.{Crossing, Crosses, Blocked, crossing, walk, sym_of, known_of, IsCrossedBy, IsCrossed}
use Rattle.region_walk.proofs.Numbered.{known_after-sym}
use Rattle.region_walk.proofs.WalkRelations.{CrossingIs, crossing-is}

-- the outcome of the region of a branch in public code, as the relations have it
from_entry : (o : Parts) (p : ℕ) (offset : ℤ) (k : Known) (u : SymState) (c : Crossing) → u ≡ at_entry k
    → crossing o (walk o) 0 (length o.code - 1) p offset u ≡ c
    → CrossingIs o 0 (length o.code - 1) p offset (at_entry k) c
from_entry o p offset k u c entry is =
    subst (CrossingIs o 0 (length o.code - 1) p offset (at_entry k))
    (ap (crossing o (walk o) 0 (length o.code - 1) p offset) (sym entry) ∙ is)
    (crossing-is o 0 (length o.code - 1) p offset (at_entry k) (omega arith))

-- a region that the walk crosses is crossed as the relations have it
pub crossed-in_code : (o : Parts) (end p : ℕ) (offset : ℤ) (k : Known) (nodes new : List Node) (s : RegionState)
    (join : ℕ)
    (way : Way) (known : Known) → end ≡ length o.code - 1 → p < length o.code → sym_of nodes s ≡ at_entry k
    → IsCrossedBy o 0 end p offset nodes s join way new → known ≡ known_of way.state → IsCrossed o p offset k join known
crossed-in_code o end p offset k nodes new s join way known last inside entry h is = record {
  pattern = over_trees new way.pattern;
  state = sym_of new way.state;
  crosses = (from_entry o p offset k (sym_of nodes s)
      (Crosses (over_trees new way.pattern) join (sym_of new way.state)) entry
      (ap (λ (e : ℕ). crossing o (walk o) 0 e p offset (sym_of nodes s)) (sym last) ∙ h.crosses)).0;
  known_is = is ∙ sym (known_after-sym new way.state);
  behind = h.behind;
  inside = omega (arith, h.within);
}

-- a region that the walk doesn't cross is blocked as the relations have it
pub blocked-in_code : (o : Parts) (end p : ℕ) (offset : ℤ) (k : Known) (nodes : List Node) (s : RegionState) (place : ℕ)
    (reason : Reason) → end ≡ length o.code - 1 → sym_of nodes s ≡ at_entry k
    → crossing o (walk o) 0 end p offset (sym_of nodes s) ≡ Blocked place reason
    → BlockedAt o 0 (length o.code - 1) p offset (at_entry k) place reason
blocked-in_code o end p offset k nodes s place reason last entry is =
    from_entry o p offset k (sym_of nodes s) (Blocked place reason) entry
    (ap (λ (e : ℕ). crossing o (walk o) 0 e p offset (sym_of nodes s)) (sym last) ∙ is)
