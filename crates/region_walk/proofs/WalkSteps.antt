-- A walk continues at a later place exactly as it would have continued before.
use Rattle.std.proofs.Common.{◌≡◌, ℕ, ◌+◌, ◌-◌, ◌*◌, ◌<◌, ◌≤◌, ℤ, List, length, get_or, Some, sym, ap, ◌∙◌, subst, arith}
use Rattle.std.specs.Prelude.{slice_get}
use Rattle.std.proofs.lemmas.Option.{slice_get-get_or}
use Rattle.lt_isa.specs.declared.instructions.Instr.{Instr}
use Rattle.lt_isa.specs.declared.instructions.Instr.TheVariants.{Nop}
use Rattle.lt_isa.specs.Prelude.{Parts}
use Rattle.symbolic_values.specs.declared.nodes.Node.{Node}
use Rattle.trace_patterns.specs.declared.events.SymEvent.{SymEvent}
use Rattle.trace_patterns.specs.declared.reasons.Reason.{Reason}
use Rattle.trace_patterns.specs.Prelude.{Shown, with_gap, with_event, joined, TreeEvent, over_trees, tree_event, NumbersBelow, gap, event, single}
use Rattle.region_walk.specs.Prelude.{Stops, Crossing, Crosses, Blocked, walk, crossing, after_pattern, after_crossing, sym_of, StateFits, ShowsSingle, GoesQuietly, GoesShowing, GapsWithin, WayIsReady, GoesTo, IsNext, IsCrossedBy, going, IsWayOn, GoesOnAt}
use Rattle.trace_patterns.proofs.EventPatterns.{over_trees-event, over_trees-joined, over_trees-keeps, numbers_below-more, numbers_below-event, numbers_below-joined}
use Rattle.region_walk.specs.declared.walks.Way.{Way}
use Rattle.region_walk.specs.declared.states.RegionState.{RegionState}
use Rattle.region_walk.specs.declared.walks.Found.{Found as Found'}
use Rattle.region_walk.specs.declared.walks.Found.TheVariants.{Reaches, Stops as Stops', Memory}
use Rattle.region_walk.proofs.TableGrowth.{keeps-then, keeps-longer}
use Rattle.region_walk.proofs.WayLaws.{gaps-more, gaps-gap, gaps-event, gaps-joined, after-both, after-gap, after-event, going-is, going-next}
use Rattle.trace_patterns.specs.Single as whole

-- two ways in sequence
pub goes_to-then : (o : Parts) (depth end a b c : ℕ) (x y z : List Node) (u v w : Way) → GoesTo o depth end a x u b y v
    → GoesTo o depth end b y v c z w → GoesTo o depth end a x u c z w
goes_to-then o depth end a b c x y z u v w first second = record {
  onward = let one = first.onward in let two = second.onward in omega arith;
  within = second.within;
  ready = second.ready;
  keeps = keeps-then x y z first.keeps second.keeps;
  widens = λ most h.
      let one = first.onward in
      let two = second.onward in
      gaps-more (most + 128 * (b - a) + 128 * (c - b)) (most + 128 * (c - a)) w.pattern (omega arith)
      (second.widens (most + 128 * (b - a)) (first.widens most h));
  same = first.same ∙ second.same;
}

-- one instruction
module _ (o : Parts) (depth end place : ℕ) (old new : List Node) (way : Way) (i : Instr)
    (ready : WayIsReady place old way)
    (before : place < end) (at : slice_get o.code place ≡ Some i) where
  -- an instruction that is refused stops the walk
  pub refused-stops : (reason : Reason) → single o (sym_of old way.state) i ≡ whole.Refuses reason
      → going o depth end place old way ≡ Stops place reason
  refused-stops reason e = going-next o depth end place old way i (whole.Refuses reason) before at e

  goes : (shown : Shown TreeEvent) (behind : RegionState) → ShowsSingle o old way.state i shown new behind
      → going o depth end place old way ≡ after_pattern (over_trees new way.pattern)
      (after_pattern shown (walk o depth end (place + 1) (sym_of new behind)))
  goes shown behind on =
      going-next o depth end place old way i (whole.Goes shown (sym_of new behind)) before at on.goes
      ∙ ap (λ (p : Shown TreeEvent). after_pattern p
      (after_pattern shown (walk o depth end (place + 1) (sym_of new behind))))
      (sym (over_trees-keeps old new way.pattern on.gains.keeps ready.numbers))

  -- the table has few values after the instruction
  few : (shown : Shown TreeEvent) (behind : RegionState) → ShowsSingle o old way.state i shown new behind
      → length new ≤ 40 + 4 * (place + 1)
  few shown behind on = let room = on.gains.room in let held = ready.few in omega arith

  -- an instruction that shows a pattern and makes gaps at most 128 cycles longer
  steps_on : (shown : Shown TreeEvent) (pattern : Shown SymEvent) (behind : RegionState)
      → ShowsSingle o old way.state i shown new behind → NumbersBelow (length new) pattern
      → ((m n : ℕ) → m + 128 ≤ n → GapsWithin m way.pattern → GapsWithin n pattern)
      → after_pattern (over_trees new way.pattern)
      (after_pattern shown (walk o depth end (place + 1) (sym_of new behind)))
      ≡ after_pattern (over_trees new pattern) (walk o depth end (place + 1) (sym_of new behind))
      → GoesTo o depth end place old way (place + 1) new (record { pattern = pattern; state = behind })
  steps_on shown pattern behind on numbers widened same = record {
    onward = omega arith;
    within = omega arith;
    ready = record {
      table = on.gains.table;
      few = few shown behind on;
      state = on.fits;
      numbers = numbers;
      gaps = widened (128 * place) (128 * (place + 1)) (omega arith) ready.gaps;
    };
    keeps = on.gains.keeps;
    widens = λ most. widened most (most + 128 * (place + 1 - place)) (omega arith);
    same = goes shown behind on ∙ same
        ∙ sym (going-is o depth end (place + 1) new (record { pattern = pattern; state = behind }));
  }

  -- the numbers of the pattern so far are in the table
  numbers_on : (shown : Shown TreeEvent) (behind : RegionState) → ShowsSingle o old way.state i shown new behind
      → NumbersBelow (length new) way.pattern
  numbers_on shown behind on =
      numbers_below-more (length old) (length new) way.pattern (keeps-longer old new on.gains.keeps) ready.numbers

  -- an instruction without an event
  pub quietly-on : (cycles : ℕ) (pattern : Shown SymEvent) (behind : RegionState)
      → GoesQuietly o old way.state i cycles new behind → pattern ≡ with_gap way.pattern cycles
      → GoesTo o depth end place old way (place + 1) new (record { pattern = pattern; state = behind })
  quietly-on cycles pattern behind h is =
      steps_on (gap cycles) pattern behind h.on
      (subst (NumbersBelow (length new)) (sym is) (numbers_on (gap cycles) behind h.on))
      (λ m n le gaps. subst (GapsWithin n) (sym is)
      (gaps-more (m + cycles) n (with_gap way.pattern cycles) (let most = h.few in omega arith)
      (gaps-gap m cycles way.pattern gaps)))
      (after-gap (over_trees new way.pattern) cycles (walk o depth end (place + 1) (sym_of new behind))
      ∙ ap (λ (p : Shown SymEvent). after_pattern (over_trees new p)
      (walk o depth end (place + 1) (sym_of new behind))) (sym is))

  -- an instruction with an event
  pub showing-on : (e : SymEvent) (pattern : Shown SymEvent) (behind : RegionState)
      → GoesShowing o old way.state i e new behind → pattern ≡ with_event way.pattern e
      → GoesTo o depth end place old way (place + 1) new (record { pattern = pattern; state = behind })
  showing-on e pattern behind h is =
      steps_on (event (tree_event new e)) pattern behind h.on
      (subst (NumbersBelow (length new)) (sym is)
      (numbers_below-event (length new) way.pattern e (numbers_on (event (tree_event new e)) behind h.on) h.number))
      (λ m n le gaps. subst (GapsWithin n) (sym is)
      (gaps-more m n (with_event way.pattern e) (omega arith) (gaps-event m way.pattern e gaps)))
      (after-event (over_trees new way.pattern) (tree_event new e) (walk o depth end (place + 1) (sym_of new behind))
      ∙ ap (λ (p : Shown TreeEvent). after_pattern p (walk o depth end (place + 1) (sym_of new behind)))
      (sym (over_trees-event new way.pattern e))
      ∙ ap (λ (p : Shown SymEvent). after_pattern (over_trees new p)
      (walk o depth end (place + 1) (sym_of new behind))) (sym is))

-- a region that an instruction opens
module _ (o : Parts) (depth end place : ℕ) (old new : List Node) (way : Way) (i : Instr) (offset : ℤ)
    (ready : WayIsReady place old way) (before : place < end) (at : slice_get o.code place ≡ Some i)
    (branches : single o (sym_of old way.state) i ≡ whole.Branches offset) where
  opens : (c : Crossing) → crossing o (walk o) depth end place offset (sym_of old way.state) ≡ c
      → going o depth end place old way ≡ after_pattern (over_trees old way.pattern)
      (after_crossing c (walk o depth end))
  opens c is =
      going-next o depth end place old way i (whole.Branches offset) before at branches
      ∙ ap (λ (d : Crossing). after_pattern (over_trees old way.pattern) (after_crossing d (walk o depth end))) is

  -- a region that is blocked stops the walk
  pub blocked-stops : (q : ℕ) (reason : Reason)
      → crossing o (walk o) depth end place offset (sym_of old way.state) ≡ Blocked q reason
      → going o depth end place old way ≡ Stops q reason
  blocked-stops q reason e = opens (Blocked q reason) e

  pub crossed-on : (join : ℕ) (crossed after : Way)
      → IsCrossedBy o depth end place offset old way.state join crossed new → IsWayOn way crossed after
      → GoesTo o depth end place old way join new after
  crossed-on join crossed after h is = record {
    onward = let behind = h.behind in omega arith;
    within = h.within;
    ready = record {
      table = h.ready.table;
      few = h.ready.few;
      state = subst (StateFits (length new)) (sym is.state) h.ready.state;
      numbers = subst (NumbersBelow (length new)) (sym is.pattern)
          (numbers_below-joined (length new) way.pattern crossed.pattern
          (numbers_below-more (length old) (length new) way.pattern
          (keeps-longer old new h.keeps) ready.numbers) h.ready.numbers);
      gaps = widened (128 * place) (128 * join) (let behind = h.behind in omega arith) ready.gaps;
    };
    keeps = h.keeps;
    widens = λ most. widened most (most + 128 * (join - place)) (omega arith);
    same = opens (Crosses (over_trees new crossed.pattern) join (sym_of new crossed.state)) h.crosses
        ∙ after-both (over_trees old way.pattern) (over_trees new crossed.pattern)
        (walk o depth end join (sym_of new crossed.state))
        ∙ ap (λ (p : Shown TreeEvent). after_pattern (joined p (over_trees new crossed.pattern))
        (walk o depth end join (sym_of new crossed.state)))
        (sym (over_trees-keeps old new way.pattern h.keeps ready.numbers))
        ∙ ap (λ (p : Shown TreeEvent). after_pattern p (walk o depth end join (sym_of new crossed.state)))
        (sym (over_trees-joined new way.pattern crossed.pattern))
        ∙ ap (λ (p : Shown SymEvent). after_pattern (over_trees new p)
        (walk o depth end join (sym_of new crossed.state))) (sym is.pattern)
        ∙ ap (λ (s : RegionState). after_pattern (over_trees new after.pattern) (walk o depth end join (sym_of new s)))
        (sym is.state) ∙ sym (going-is o depth end join new after);
  }
    where
      widened : (m n : ℕ) → m + 128 * (join - place) ≤ n → GapsWithin m way.pattern → GapsWithin n after.pattern
      widened m n le g =
          subst (GapsWithin n) (sym is.pattern)
          (gaps-more (m + 128 * (join - place)) n (joined way.pattern crossed.pattern) le
          (gaps-joined m (128 * (join - place)) way.pattern crossed.pattern g h.gaps))

-- the instruction at a place
pub read-at : (o : Parts) (code : List Instr) (place : ℕ) → code ≡ o.code → place < length o.code
    → slice_get o.code place ≡ Some (get_or code place Nop)
read-at o code place same inside =
    slice_get-get_or o.code place Nop inside ∙ ap (λ (l : List Instr). Some (get_or l place Nop)) (sym same)

-- the result of a place whose region was crossed, or at which memory ran out
pub crossed-next : (o : Parts) (depth end place : ℕ) (old new : List Node) (way before crossed after : Way) (i : Instr)
    (offset : ℤ) (join : ℕ) (found : Found') → WayIsReady place old way → place < end → slice_get o.code place ≡ Some i
    → single o (sym_of old way.state) i ≡ whole.Branches offset
    → IsCrossedBy o depth end place offset old way.state join crossed new → before.pattern ≡ way.pattern
    → GoesOnAt before crossed join found after → IsNext o depth end place old way found new after
crossed-next o depth end place old new way before crossed after i offset join
    (Reaches next) ready lt at branches h same goes =
    let on = crossed-on o depth end place old new way i offset ready lt at branches join crossed after h
    (record {
      pattern = goes.1.pattern
          ∙ ap (λ (p : Shown SymEvent). joined p crossed.pattern) same;
      state = goes.1.state;
    }) in (
      subst (λ (q : ℕ). GoesTo o depth end place old way q new after)
          (sym goes.0) on,
      let behind = h.behind in let is = goes.0 in omega arith,
    )
crossed-next o depth end place old new way before crossed after i offset join
    (Stops' q reason) ready lt at branches h same goes = absurd goes
crossed-next o depth end place old new way before crossed after i offset join Memory ready lt at branches h same goes =
    tt
