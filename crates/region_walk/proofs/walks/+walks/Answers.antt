use Rattle.std.proofs.Common.{◌≡◌, ℕ, ◌≤◌, ◌+◌, ◌*◌, ◌-◌, ◌∙◌, ℤ, length, refl, ap, subst, sym, arith}
use Rattle.lt_isa.proofs.Offsets.{handed_on}
use Rattle.lt_isa.specs.declared.profiles.Profile.{Profile}
use Rattle.trace_patterns.specs.Prelude.{no_events, with_gap, over_trees, gap, Arms, shape}
use Rattle.region_walk.specs.Prelude.{Blocked, crossing, walk, IsCompared, sym_of, GapsWithin, WayIsReady, IsCrossedBy}
use Rattle.trace_patterns.proofs.Shapes.{IsRegion, shape-arms}
use Rattle.region_walk.proofs.TableGrowth.{keeps-longer}
use Rattle.region_walk.proofs.Numbered.{state_fits-more, sym_of-keeps}
use Rattle.region_walk.proofs.WayLaws.{WalksOn, gaps-first, gaps-none, gaps-more}
use Rattle.region_walk.proofs.WalkSteps.{goes_to-then, refused-stops, quietly-on, showing-on, blocked-stops, crossed-next, read-at}
use Rattle.region_walk.proofs.RegionSteps.{ready-from, arm-stops, arm-walks, first-blocks, second-blocks, ways-compared}
use Rattle.region_walk.proofs.walks.+walks.Goals.{region_of-In-Arms, region_of-In-Reaches}
use Rattle.region_walk.proofs.walks.+walks.Goals as goal

pub walk-loop-place-preserved : goal.walk-loop-place-preserved
walk-loop-place-preserved t c =
    let l = c.loop-place in
    goes_to-then c.args.arm.now.object.now c.args.arm.now.depth c.args.arm.now.end c.args.start l.place c.in-Reaches.next c.args.values.now
    l.values c.next_place.new.values c.args.way.now l.way c.next_place.new.way l.invariant c.in-Reaches.ensures.0

pub next_place-returns-in-Refuses : goal.next_place-returns-in-Refuses
next_place-returns-in-Refuses t c =
    let o = c.args.arm.now.object.now in
    refused-stops o c.args.arm.now.depth c.args.arm.now.end c.args.place c.args.values.now c.args.values.now c.args.way.now _
    c.requires.ready c.requires.order
    (read-at o c.code.result.now c.args.place c.code.ensures.value
    (omega arith)) c.in-Refuses.reason c.in-Refuses.ensures

pub next_place-returns-in-Quiet : goal.next_place-returns-in-Quiet
next_place-returns-in-Quiet t c =
    let o = c.args.arm.now.object.now in (
      quietly-on o c.args.arm.now.depth c.args.arm.now.end c.args.place c.args.values.now c.single_at.new.values c.args.way.now _
          c.requires.ready c.requires.order
          (read-at o c.code.result.now c.args.place c.code.ensures.value (omega arith)) c.in-Quiet.cycles
          c.push_gap.new.self c.single_at.new.state c.in-Quiet.ensures c.push_gap.ensures,
      omega arith,
    )

pub next_place-returns-in-Ok : goal.next_place-returns-in-Ok
next_place-returns-in-Ok t c =
    let o = c.args.arm.now.object.now in (
      showing-on o c.args.arm.now.depth c.args.arm.now.end c.args.place c.args.values.now c.single_at.new.values c.args.way.now _
          c.requires.ready c.requires.order
          (read-at o c.code.result.now c.args.place c.code.ensures.value
          (omega arith)) c.in-Shows.event c.push_event.new.self c.single_at.new.state c.in-Shows.ensures
          c.in-Ok.ensures.added,
      omega arith,
    )

pub beyond_region-go_on-requires : goal.beyond_region-go_on-requires
beyond_region-go_on-requires t c =
    let crossed = c.in-Crosses.ensures in
    let first = gaps-first (128 * c.in-Crosses.join) c.in-Crosses.crossed.pattern crossed.ready.gaps in
    let last = c.requires.ready.gaps.last in
    let size = c.requires.arm.range.code_size.1 in
    let within = crossed.within in
    omega (arith, first, last, size, within, c.requires.arm.inside, c.requires.order)

pub beyond_region-returns-in-Blocked : goal.beyond_region-returns-in-Blocked
beyond_region-returns-in-Blocked t c =
    let o = c.args.arm.now.object.now in
    let old = c.args.values.now in
    let way = c.args.way.now in
    let blocked = Blocked c.in-Blocked.place c.in-Blocked.reason in
    let crosses =
    subst (λ (z : ℤ). crossing o (walk o) c.args.arm.now.depth c.args.arm.now.end c.args.place z (sym_of old way.state) ≡ blocked)
    (handed_on c.args.offset c.requires.offset) c.in-Blocked.ensures in
    blocked-stops o c.args.arm.now.depth c.args.arm.now.end c.args.place old old way c.requires.branches.instr c.args.offset
    c.requires.ready c.requires.order c.requires.branches.at c.requires.branches.branches c.in-Blocked.place
    c.in-Blocked.reason crosses

pub beyond_region-returns-in-Crosses : goal.beyond_region-returns-in-Crosses
beyond_region-returns-in-Crosses t c =
    let o = c.args.arm.now.object.now in
    let old = c.args.values.now in
    let way = c.args.way.now in
    let new = c.region_of.new.values in
    let join = c.in-Crosses.join in
    let crossed = c.in-Crosses.crossed in
    let crosses =
    subst (λ (z : ℤ). IsCrossedBy o c.args.arm.now.depth c.args.arm.now.end c.args.place z old way.state join crossed new)
    (handed_on c.args.offset c.requires.offset) c.in-Crosses.ensures in
    crossed-next o c.args.arm.now.depth c.args.arm.now.end c.args.place old new way way crossed c.go_on.new.way
    c.requires.branches.instr c.args.offset join c.go_on.result c.requires.ready c.requires.order
    c.requires.branches.at c.requires.branches.branches crosses refl c.go_on.ensures

-- the arms that were found are the arms of the branch
arms : (t : ℕ) (c : region_of-In-Arms t)
    → shape c.args.arm.now.object.now c.args.arm.now.depth c.args.arm.now.end c.args.place c.args.offset ≡ Arms c.in-Arms.second c.in-Arms.join
arms t c =
    ap (shape c.args.arm.now.object.now c.args.arm.now.depth c.args.arm.now.end c.args.place)
    (sym (handed_on c.args.offset c.requires.offset))
    ∙ sym c.in-Arms.ensures

region : (t : ℕ) (c : region_of-In-Arms t)
    → IsRegion c.args.arm.now.object.now c.args.arm.now.depth c.args.arm.now.end c.args.place c.args.offset c.in-Arms.second c.in-Arms.join
region t c = shape-arms _ _ _ _ _ _ _ (arms t c)

-- the first arm is walked
first : (t : ℕ) (c : region_of-In-Reaches t)
    → WalksOn (gap 1)
    (walk c.args.arm.now.object.now (c.args.arm.now.depth + 1) (c.in-Arms.second - 1) (c.args.place + 1)
    (sym_of c.args.values.now c.args.state.now))
    (over_trees c.walk.new.values c.walk.new.way.pattern) (sym_of c.walk.new.values c.walk.new.way.state)
first t c =
    arm-walks c.args.arm.now.object.now (c.args.arm.now.depth + 1) (c.in-Arms.second - 1) (c.args.place + 1) c.args.values.now
    c.way_from-untaken.result 1 (sym_of c.args.values.now c.args.state.now) c.way_from-untaken.ensures.pattern
    (ap (sym_of c.args.values.now) c.way_from-untaken.ensures.state) c.in-Reaches.field-0 c.walk.new.values
    c.walk.new.way c.in-Reaches.ensures.0 c.in-Reaches.ensures.1

pub region_of-overflow_sub-first_arm : goal.region_of-overflow_sub-first_arm
region_of-overflow_sub-first_arm t c =
    let around = region t (goal.at.region_of-overflow_sub-first_arm t c).In-Arms in
    omega (arith, around.first)

pub region_of-walk-requires : goal.region_of-walk-requires
region_of-walk-requires t c =
    let around = region t (goal.at.region_of-walk-requires t c).In-Arms in
    let starts = c.way_from-untaken.ensures in
    let ready = c.requires.ready in (
      omega (arith, around.first, around.second, around.ends),
      (
        record {
          range = c.requires.arm.range;
          inside = omega (arith, around.first, around.second, around.in_code);
          around = omega (arith, around.around);
        },
        (
          ready-from (c.args.place + 1) c.args.values.now c.way_from-untaken.result 1 c.args.state.now ready.table
              (omega (arith, ready.few)) ready.state starts.pattern starts.state (omega arith),
          omega (arith, around.first),
        ),
      ),
    )

pub region_of-walk-requires-in-Reaches : goal.region_of-walk-requires-in-Reaches
region_of-walk-requires-in-Reaches t c =
    let around = region t (goal.at.region_of-walk-requires-in-Reaches t c).In-Arms in
    let o = c.args.arm.now.object.now in
    let old = c.args.values.now in
    let s = c.args.state.now in
    let mid = c.walk.new.values in
    let walked = c.in-Reaches.ensures in
    let jump = c.from-jump.ensures ∙ ap (λ (x : Profile). x.taken) c.profile.ensures.value in
    let pattern = c.way_from-taken.ensures.pattern ∙ ap (with_gap no_events) jump in
    let few : o.profile.taken ≤ 32 = c.requires.arm.range.profile.taken.1 in
    let fits = state_fits-more (length old) (length mid) s (keeps-longer old mid walked.0.keeps)
    c.requires.ready.state in (
      omega (arith, around.first, around.second, around.ends),
      (
        record {
          range = c.requires.arm.range;
          inside = omega (arith, around.in_code);
          around = omega (arith, around.around);
        },
        (
          ready-from c.in-Arms.second mid c.way_from-taken.result o.profile.taken s walked.0.ready.table
              (omega (arith, walked.0.ready.few, walked.1, around.first)) fits pattern
              c.way_from-taken.ensures.state (omega (arith, few, around.first)),
          omega (arith, around.second),
        ),
      ),
    )

pub region_of-returns-in-Stops : goal.region_of-returns-in-Stops
region_of-returns-in-Stops t c =
    let o = c.args.arm.now.object.now in
    let old = c.args.values.now in
    let s = sym_of old c.args.state.now in
    let starts = c.way_from-untaken.ensures in
    first-blocks o c.args.arm.now.depth c.args.arm.now.end c.args.place c.args.offset s c.in-Arms.second c.in-Arms.join
    (arms t (goal.at.region_of-returns-in-Stops t c).In-Arms) c.in-Stops.place c.in-Stops.reason
    (arm-stops o (c.args.arm.now.depth + 1) (c.in-Arms.second - 1) (c.args.place + 1) old c.way_from-untaken.result 1 s
    starts.pattern (ap (sym_of old) starts.state) c.in-Stops.place c.in-Stops.reason c.in-Stops.ensures)

pub region_of-returns-in-Stops-walk : goal.region_of-returns-in-Stops-walk
region_of-returns-in-Stops-walk t c =
    let past = goal.at.region_of-returns-in-Stops-walk t c in
    let o = c.args.arm.now.object.now in
    let s = sym_of c.args.values.now c.args.state.now in
    let join = c.in-Arms.join in
    let mid = c.walk.new.values in
    let jump = c.from-jump.ensures ∙ ap (λ (x : Profile). x.taken) c.profile.ensures.value in
    let pattern = c.way_from-taken.ensures.pattern ∙ ap (with_gap no_events) jump in
    let state = ap (sym_of mid) c.way_from-taken.ensures.state
    ∙ sym_of-keeps c.args.values.now mid c.in-Reaches.ensures.0.keeps c.args.state.now c.requires.ready.state in
    let one = first t past.In-Reaches in
    second-blocks o c.args.arm.now.depth c.args.arm.now.end c.args.place c.args.offset s c.in-Arms.second join
    (arms t past.In-Arms) one.rest (sym_of mid c.walk.new.way.state) c.in-Stops-walk.place
    c.in-Stops-walk.reason one.walked
    (arm-stops o (c.args.arm.now.depth + 1) join c.in-Arms.second mid c.way_from-taken.result o.profile.taken s
    pattern state c.in-Stops-walk.place
    c.in-Stops-walk.reason c.in-Stops-walk.ensures)

pub region_of-returns-in-Reaches-walk : goal.region_of-returns-in-Reaches-walk
region_of-returns-in-Reaches-walk t c =
    let past = goal.at.region_of-returns-in-Reaches-walk t c in
    let around = region t past.In-Arms in
    let o = c.args.arm.now.object.now in
    let p = c.args.place in
    let second = c.in-Arms.second in
    let join = c.in-Arms.join in
    let old = c.args.values.now in
    let s = c.args.state.now in
    let mid = c.walk.new.values in
    let one = c.walk.new.way in
    let walked = c.in-Reaches.ensures in
    let jump = c.from-jump.ensures ∙ ap (λ (x : Profile). x.taken) c.profile.ensures.value in
    let pattern = c.way_from-taken.ensures.pattern ∙ ap (with_gap no_events) jump in
    let state = ap (sym_of mid) c.way_from-taken.ensures.state
    ∙ sym_of-keeps c.args.values.now mid c.in-Reaches.ensures.0.keeps c.args.state.now c.requires.ready.state in
    let new = c.walk-in-Reaches.new.values in
    let two = c.walk-in-Reaches.new.way in
    let next = c.in-Reaches-walk.field-0 in
    let walked' = c.in-Reaches-walk.ensures in
    let behind = arm-walks o (c.args.arm.now.depth + 1) join second mid c.way_from-taken.result o.profile.taken
    (sym_of old s) pattern state next new two walked'.0 walked'.1 in
    let ready : WayIsReady (second - 1) mid one = subst (λ (q : ℕ). WayIsReady q mid one) walked.1 walked.0.ready in
    let ready' : WayIsReady join new two = subst (λ (q : ℕ). WayIsReady q new two) walked'.1 walked'.0.ready in
    let few : o.profile.taken ≤ 32 = c.requires.arm.range.profile.taken.1 in
    let start : GapsWithin o.profile.taken c.way_from-taken.result.pattern = subst (GapsWithin o.profile.taken)
    (sym pattern) (gaps-none o.profile.taken o.profile.taken (omega arith)) in
    let gaps : GapsWithin (128 * (join - p)) two.pattern = gaps-more (o.profile.taken + 128 * (next - second))
    (128 * (join - p)) two.pattern (omega (arith, few, walked'.1, around.first, around.second))
    (walked'.0.widens o.profile.taken start) in
    let made : IsCompared p join o.profile.taken one two c.compared.result = subst
    (λ (n : ℕ). IsCompared p join n one two c.compared.result) jump c.compared.ensures in
    ways-compared o c.args.arm.now.depth c.args.arm.now.end p c.args.offset second join (arms t past.In-Arms) old mid new s one
    two walked.0.keeps walked'.0.keeps ready ready' (first t past.In-Reaches) behind c.compared.result
    (omega (arith, around.first, around.second)) around.ends gaps made
