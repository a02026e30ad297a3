-- The states that are kept are under way.
use Rattle.std.proofs.Common.{◌≡◌, ◌∷◌, [], List, Option, IfOk, sym, subst, arith}
use Rattle.trace_patterns.specs.Prelude.{Known}
use Rattle.note_infer.specs.Prelude.{Crossings, LoopHolds, IsApart, ListsJoiners}
use Rattle.note_infer.proofs.RegionWays.{joins_within}
use Rattle.note_infer.proofs.KeptStates.{kept_begins, kept_listed}
use Rattle.note_infer.proofs.kept.join_next.Goals as goal

-- src/kept.rt:45:9
pub stands_apart-apart-requires-clause-before : goal.stands_apart-apart-requires-clause-before
stands_apart-apart-requires-clause-before c =
    (joins_within c.args.object.now c.args.crossed.now.list c.args.states.items c.args.found.place c.args.found.join
    c.requires.lowest.to).0

-- src/kept.rt:45:9
pub stands_apart-apart-requires-clause-inside : goal.stands_apart-apart-requires-clause-inside
stands_apart-apart-requires-clause-inside c =
    let h = joins_within c.args.object.now c.args.crossed.now.list c.args.states.items c.args.found.place
    c.args.found.join c.requires.lowest.to in
    omega (arith, h.1)

-- src/kept.rt:51:9
pub kept_states-requires-clause-before : goal.kept_states-requires-clause-before
kept_states-requires-clause-before c =
    (joins_within c.args.object.now c.args.crossed.now.list c.args.states.items c.args.found.place c.args.found.join
    c.requires.lowest.to).0

-- src/kept.rt:51:9
pub kept_states-requires-clause-inside : goal.kept_states-requires-clause-inside
kept_states-requires-clause-inside c =
    let h = joins_within c.args.object.now c.args.crossed.now.list c.args.states.items c.args.found.place
    c.args.found.join c.requires.lowest.to in
    omega (arith, h.1, c.requires.least.size)

-- src/kept.rt:51:9
pub kept_states-requires-clause-begins : goal.kept_states-requires-clause-begins
kept_states-requires-clause-begins c =
    let o = c.args.object.now in
    let list = c.args.crossed.now.list in
    let place = c.args.found.place in
    let join = c.args.found.join in
    let apart : IsApart o list c.args.states.items place join =
    subst (λ (x : List (Option Known)). IsApart o list x place join) c.deref.ensures.value
    (c.stands_apart-apart.ensures c.if-apart.true) in
    let made : c.join.new.self ≡ record { size = c.args.crossed.now.size; list = place ∷ list } = c.in-Ok.ensures.joined in
    λ after stack w waiting. subst (λ (x : Crossings). LoopHolds o x.list after stack) (sym made)
    (kept_begins o list c.args.states.items after place join c.requires.least c.requires.lowest.to.may
    c.requires.lowest.to.joins apart w c.args.origins.now.last.items c.args.origins.now.before.items
    c.requires.origins stack waiting)

-- src/kept.rt:51:9
pub kept_states-requires-clause-listed : goal.kept_states-requires-clause-listed
kept_states-requires-clause-listed c =
    let o = c.args.object.now in
    let list = c.args.crossed.now.list in
    let place = c.args.found.place in
    let join = c.args.found.join in
    let apart : IsApart o list c.args.states.items place join =
    subst (λ (x : List (Option Known)). IsApart o list x place join) c.deref.ensures.value
    (c.stands_apart-apart.ensures c.if-apart.true) in
    let made : c.join.new.self ≡ record { size = c.args.crossed.now.size; list = place ∷ list } = c.in-Ok.ensures.joined in
    λ after stack w waiting. subst (λ (x : Crossings). ListsJoiners o x.list after stack c.args.joiners.now) (sym made)
    (kept_listed o list c.args.states.items after place join c.requires.least c.requires.lowest.to.may
    c.requires.lowest.to.joins apart w c.args.origins.now.last.items c.args.origins.now.before.items
    c.requires.origins stack waiting c.args.joiners.now c.requires.others)

-- src/kept.rt:21:1
pub returns-then-apart-clause-joiners : goal.returns-then-apart-clause-joiners
returns-then-apart-clause-joiners c =
    let o = c.args.object.now in
    let place = c.args.found.place in
    let made : c.join.new.self ≡ record { size = c.args.crossed.now.size; list = place ∷ c.args.crossed.now.list } =
    c.in-Ok.ensures.joined in
    subst (λ (x : Crossings). IfOk c.kept_states.result
    (λ next. ListsJoiners o x.list next.items [] c.kept_states.new.joiners)) made c.kept_states.ensures.joiners

-- src/kept.rt:21:1
pub returns-else-apart-clause-joiners : goal.returns-else-apart-clause-joiners
returns-else-apart-clause-joiners c =
    let o = c.args.object.now in
    let place = c.args.found.place in
    let made : c.join.new.self ≡ record { size = c.args.crossed.now.size; list = place ∷ c.args.crossed.now.list } =
    c.in-Ok.ensures.joined in
    subst (λ (x : Crossings). IfOk c.least_states.result
    (λ next. ListsJoiners o x.list next.items [] c.least_states.new.joiners)) made c.least_states.ensures.joiners
