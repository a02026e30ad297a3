-- The two ways through a region, over numbers and over trees.
use Rattle.std.proofs.Common.{◌≡◌, ℕ, ◌+◌, ◌-◌, ◌*◌, ◌<◌, ◌≤◌, Bool, ℤ, List, length, refl, sym, ap, ◌∙◌, subst, arith}
use Rattle.std.specs.Prelude.{if◌then◌else◌}
use Rattle.std.proofs.lemmas.Bool.{false_from_ne_true}
use Rattle.lt_isa.specs.Prelude.{Parts}
use Rattle.symbolic_values.specs.declared.nodes.Node.{Node}
use Rattle.symbolic_values.specs.Prelude.{IsTable, KeepsTrees}
use Rattle.trace_patterns.specs.declared.events.SymEvent.{SymEvent}
use Rattle.trace_patterns.specs.declared.reasons.Reason.{Reason}
use Rattle.trace_patterns.specs.declared.reasons.Reason.TheVariants.{UnequalArms}
use Rattle.trace_patterns.specs.Prelude.{Shown, no_events, with_gap, TreeEvent, over_trees, NumbersBelow, SymState, common, gap, Arms, shape, untaken_way, taken_way}
use Rattle.region_walk.specs.Prelude.{WalkFound, Walked, Stops, Crossing, Crosses, Blocked, walk, crossing, same_shown, compared_arms, walked_arms, after_pattern, sym_of, StateFits, GapsWithin, WayIsReady, GoesTo, IsCrossedBy, IsRegionWalk, going, IsCompared}
use Rattle.region_walk.proofs.ShownEquality.{decides_shown}
use Rattle.trace_patterns.proofs.EventPatterns.{over_trees-same, over_trees-keeps, numbers_below-none, numbers_below-more}
use Rattle.region_walk.specs.declared.walks.Way.{Way}
use Rattle.region_walk.specs.declared.walks.Region.{Region}
use Rattle.region_walk.specs.declared.states.RegionState.{RegionState}
use Rattle.region_walk.proofs.TableGrowth.{keeps-then, keeps-longer}
use Rattle.region_walk.proofs.Numbered.{sym_of-keeps, state_fits-more}
use Rattle.region_walk.proofs.CommonStates.{sym_of-common, state_fits-common}
use Rattle.region_walk.proofs.WayLaws.{WalksOn, after-walked, after-stops, going-is, going-end, gaps-none}
use Rattle.region_walk.specs.declared.walks.Region.TheVariants as region

-- a way that begins with some cycles and no event is in order
pub ready-from : (q : ℕ) (nodes : List Node) (way : Way) (n : ℕ) (s : RegionState) → IsTable nodes → length nodes
    ≤ 40 + 4 * q
    → StateFits (length nodes) s → way.pattern ≡ with_gap no_events n → way.state ≡ s → n ≤ 128 * q
    → WayIsReady q nodes way
ready-from q nodes way n s table few fits pattern state le = record {
  table = table;
  few = few;
  state = subst (StateFits (length nodes)) (sym state) fits;
  numbers = subst (NumbersBelow (length nodes)) (sym pattern) (numbers_below-none (length nodes));
  gaps = subst (GapsWithin (128 * q)) (sym pattern) (gaps-none (128 * q) n le);
}

-- a walk of an arm, after some cycles
module _ (o : Parts) (depth end start : ℕ) (nodes : List Node) (way : Way) (n : ℕ) (s : SymState)
    (pattern : way.pattern ≡ with_gap no_events n) (state : sym_of nodes way.state ≡ s) where
  arm-is : going o depth end start nodes way ≡ after_pattern (gap n) (walk o depth end start s)
  arm-is =
      going-is o depth end start nodes way
      ∙ ap (λ (p : Shown SymEvent). after_pattern (over_trees nodes p)
      (walk o depth end start (sym_of nodes way.state))) pattern
      ∙ ap (λ (u : SymState). after_pattern (gap n) (walk o depth end start u)) state

  -- an arm whose walk stops
  pub arm-stops : (q : ℕ) (reason : Reason) → going o depth end start nodes way ≡ Stops q reason
      → walk o depth end start s ≡ Stops q reason
  arm-stops q reason e = after-stops (gap n) (walk o depth end start s) q reason (sym arm-is ∙ e)

  -- an arm whose walk reaches its end
  pub arm-walks : (next : ℕ) (new : List Node) (behind : Way) → GoesTo o depth end start nodes way next new behind
      → next ≡ end → WalksOn (gap n) (walk o depth end start s) (over_trees new behind.pattern)
      (sym_of new behind.state)
  arm-walks next new behind h at =
      after-walked (gap n) (walk o depth end start s) (over_trees new behind.pattern) (sym_of new behind.state)
      (sym arm-is ∙ h.same ∙ going-end o depth end next new behind (omega arith))

-- a region of which one arm stops
module _ (o : Parts) (depth end p : ℕ) (offset : ℤ) (s : SymState) (t join : ℕ)
    (arms : shape o depth end p offset ≡ Arms t join) where
  compared-is : (f g : WalkFound) → walk o (depth + 1) (t - 1) (p + 1) s ≡ f → walk o (depth + 1) join t s ≡ g
      → crossing o (walk o) depth end p offset s ≡ compared_arms o p join f g
  compared-is f g first second =
      ap (walked_arms o (walk o) depth p s) arms
      ∙ ap (λ (x : WalkFound). compared_arms o p join x (walk o (depth + 1) join t s)) first
      ∙ ap (compared_arms o p join f) second

  -- a region whose first arm stops is blocked
  pub first-blocks : (q : ℕ) (reason : Reason) → walk o (depth + 1) (t - 1) (p + 1) s ≡ Stops q reason
      → crossing o (walk o) depth end p offset s ≡ Blocked q reason
  first-blocks q reason e = compared-is (Stops q reason) (walk o (depth + 1) join t s) e refl

  -- a region whose second arm stops is blocked
  pub second-blocks : (a : Shown TreeEvent) (u : SymState) (q : ℕ) (reason : Reason)
      → walk o (depth + 1) (t - 1) (p + 1) s ≡ Walked a u → walk o (depth + 1) join t s ≡ Stops q reason
      → crossing o (walk o) depth end p offset s ≡ Blocked q reason
  second-blocks a u q reason first e = compared-is (Walked a u) (Stops q reason) first e

  -- the walks of both arms reach their ends
  module _ (a b : Shown TreeEvent) (u v : SymState) (first : walk o (depth + 1) (t - 1) (p + 1) s ≡ Walked a u)
      (second : walk o (depth + 1) join t s ≡ Walked b v) where
    choice : Bool → Crossing
    choice same = if same then Crosses (untaken_way o a) join (common u v) else Blocked p UnequalArms

    both : crossing o (walk o) depth end p offset s ≡ choice (same_shown (untaken_way o a) (taken_way o b))
    unfolding choice
    both = compared-is (Walked a u) (Walked b v) first second

    pub alike-crosses : untaken_way o a ≡ taken_way o b
        → crossing o (walk o) depth end p offset s ≡ Crosses (untaken_way o a) join (common u v)
    unfolding choice
    alike-crosses e = both ∙ ap choice ((decides_shown (untaken_way o a) (taken_way o b)).1 e)

    pub unlike-blocks : (untaken_way o a ≡ taken_way o b → ⊥)
        → crossing o (walk o) depth end p offset s ≡ Blocked p UnequalArms
    unfolding choice
    unlike-blocks differs =
        both ∙ ap choice (false_from_ne_true (same_shown (untaken_way o a) (taken_way o b))
        (λ e. differs ((decides_shown (untaken_way o a) (taken_way o b)).0 e)))

-- the comparison of the two ways over numbers
module _ (o : Parts) (depth end p : ℕ) (offset : ℤ) (t join : ℕ) (arms : shape o depth end p offset ≡ Arms t join)
    (old mid new : List Node) (s : RegionState) (one two : Way) (first_keeps : KeepsTrees old mid)
    (second_keeps : KeepsTrees mid new)
    (ready : WayIsReady (t - 1) mid one) (ready' : WayIsReady join new two)
    (first : WalksOn (gap 1) (walk o (depth + 1) (t - 1) (p + 1) (sym_of old s)) (over_trees mid one.pattern)
    (sym_of mid one.state))
    (second : WalksOn (gap o.profile.taken) (walk o (depth + 1) join t (sym_of old s))
    (over_trees new two.pattern) (sym_of new two.state)) where
  jump : ℕ
  jump = o.profile.taken

  untaken-is : untaken_way o first.rest ≡ over_trees new (with_gap one.pattern jump)
  unfolding jump
  untaken-is =
      ap (λ (x : Shown TreeEvent). with_gap x o.profile.taken)
      (sym first.whole_is ∙ sym (over_trees-keeps mid new one.pattern second_keeps ready.numbers))

  taken-is : taken_way o second.rest ≡ over_trees new two.pattern
  taken-is = sym second.whole_is

  longer : length mid ≤ length new
  longer = keeps-longer mid new second_keeps

  -- two ways that were compared decide the outcome of the region
  pub ways-compared : (made : Region) → p + 1 < join → join ≤ end → GapsWithin (128 * (join - p)) two.pattern
      → IsCompared p join o.profile.taken one two made → IsRegionWalk o depth end p offset old s made new
  unfolding jump
  ways-compared (region.Crosses at way) behind within gaps h =
      let is = h.1 in
      let alike : untaken_way o first.rest ≡ taken_way o second.rest =
      untaken-is ∙ ap (over_trees new) (sym is.first ∙ is.second) ∙ sym taken-is in
      let fits = state_fits-more (length mid) (length new) one.state longer ready.state in
      let state : common (sym_of mid one.state) (sym_of new two.state) ≡ sym_of new way.state =
      ap (λ (u : SymState). common u (sym_of new two.state))
      (sym (sym_of-keeps mid new second_keeps one.state ready.state))
      ∙ sym (sym_of-common new ready'.table one.state two.state way.state fits ready'.state is.state) in
      subst (λ (q : ℕ). IsCrossedBy o depth end p offset old s q way new) (sym h.0) (record {
        crosses = alike-crosses o depth end p offset (sym_of old s) t join arms first.rest second.rest
            (sym_of mid one.state) (sym_of new two.state) first.walked second.walked alike
            ∙ ap (λ (x : Shown TreeEvent). Crosses x join (common (sym_of mid one.state) (sym_of new two.state)))
            (untaken-is ∙ ap (over_trees new) (sym is.first)) ∙ ap (Crosses (over_trees new way.pattern) join) state;
        behind = behind;
        within = within;
        ready = record {
          table = ready'.table;
          few = ready'.few;
          state = state_fits-common (length new) one.state two.state way.state fits is.state;
          numbers = subst (NumbersBelow (length new)) (sym is.second) ready'.numbers;
          gaps = subst (GapsWithin (128 * join)) (sym is.second) ready'.gaps;
        };
        keeps = keeps-then old mid new first_keeps second_keeps;
        gaps = subst (GapsWithin (128 * (join - p))) (sym is.second) gaps;
      })
  ways-compared (region.Blocked at reason) behind within gaps h =
      let differs : untaken_way o first.rest ≡ taken_way o second.rest → ⊥ = λ e.
      h.2 (over_trees-same new ready'.table (with_gap one.pattern o.profile.taken) two.pattern
      (numbers_below-more (length mid) (length new) one.pattern longer ready.numbers) ready'.numbers
      (sym untaken-is ∙ e ∙ taken-is)) in
      subst (λ (q : ℕ). crossing o (walk o) depth end p offset (sym_of old s) ≡ Blocked q reason) (sym h.0)
      (subst (λ (r : Reason). crossing o (walk o) depth end p offset (sym_of old s) ≡ Blocked p r) (sym h.1)
      (unlike-blocks o depth end p offset (sym_of old s) t join arms first.rest second.rest (sym_of mid one.state)
      (sym_of new two.state) first.walked second.walked differs))
  ways-compared region.Memory behind within gaps h = tt
