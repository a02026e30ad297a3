-- One more branch joins, or none may.
use Rattle.std.proofs.Common.{◌≡◌, ℕ, List, [], ◌∷◌, Option, Some, None, sym, subst, arith}
use Rattle.note_infer.specs.Prelude.{Crossings, GrowthHolds, IsNextToJoin, IsLowestToJoin, ListsJoiners, ListsRest}
use Rattle.trace_patterns.specs.Prelude.{Known}
use Rattle.note_infer.proofs.Growing.{growth_begun, growth_more, growth_ended, left_less, join_apart}
use Rattle.note_infer.proofs.growth.grown_by.Goals.{In-Ok-Some}
use Rattle.note_infer.proofs.growth.grown_by.Goals as goal

pub growing-init : goal.growing-init
growing-init c = record {
  holds = growth_begun c.args.object.now c.args.begun.size c.args.begun.list c.args.first.items c.requires.size
      c.requires.none c.requires.first;
  listed = subst (λ (l : List ℕ). ListsJoiners c.args.object.now l c.args.first.items [] c.args.listed)
      (sym c.requires.none) c.requires.listed;
}

pub returns-in-Ok-None : goal.returns-in-Ok-None
returns-in-Ok-None c =
    let o = c.args.object.now in
    let list = c.growing.crossed.list in
    growth_ended o c.growing.crossed.size list c.growing.states.items c.growing.invariant.holds
    (subst (λ (x : List (Option Known)). IsNextToJoin o list x None) c.deref.ensures.value
    (subst (IsNextToJoin o list c.deref.result.now) c.in-Ok-None.field-0-is c.in-Ok-None.ensures.found))

-- the branch that joins
lowest : (c : In-Ok-Some)
    → IsLowestToJoin c.args.object.now c.growing.crossed.list c.growing.states.items c.in-Ok-Some.found.place
    c.in-Ok-Some.found.join
lowest c =
    let o = c.args.object.now in
    let list = c.growing.crossed.list in
    subst (λ (x : List (Option Known)). IsNextToJoin o list x (Some c.in-Ok-Some.found)) c.deref.ensures.value
    (subst (IsNextToJoin o list c.deref.result.now) c.in-Ok-Some.field-0-is c.in-Ok-Some.ensures.found)

pub next_to_join-requires-clause-listed : goal.next_to_join-requires-clause-listed
next_to_join-requires-clause-listed c =
    subst (λ (x : List (Option Known)). ListsJoiners c.args.object.now c.growing.crossed.list x [] c.growing.joiners)
    (sym c.deref.ensures.value) c.growing.invariant.listed

pub join_next-requires-clause-others : goal.join_next-requires-clause-others
join_next-requires-clause-others c =
    let o = c.args.object.now in
    let list = c.growing.crossed.list in
    subst (λ (x : List (Option Known)). ListsRest o list x c.next_to_join.new.joiners (Some c.in-Ok-Some.found))
    c.deref.ensures.value
    (subst (ListsRest o list c.deref.result.now c.next_to_join.new.joiners) c.in-Ok-Some.field-0-is
    c.in-Ok-Some.ensures.others)

pub growing-smaller : goal.growing-smaller
growing-smaller c =
    let h = lowest (goal.at.growing-smaller c).In-Ok-Some in
    let list = c.growing.crossed.list in
    let found = c.in-Ok-Some.found in
    rw c.in-Ok.ensures.joined
    (left_less c.growing.crossed.size list found.place (omega (arith, h.inside, c.growing.invariant.holds.size_is))
    (join_apart c.args.object.now list c.growing.states.items found.place found.join h))

pub growing-preserved : goal.growing-preserved
growing-preserved c =
    let o = c.args.object.now in
    let next = c.in-Ok.next.items in
    let list = c.growing.crossed.list in
    let found = c.in-Ok-Some.found in
    let made : c.join_next.new.crossed ≡ record { size = c.growing.crossed.size; list = found.place ∷ list } =
    c.in-Ok.ensures.joined in
    record {
      holds = subst (λ (x : Crossings). GrowthHolds o x.size x.list next) (sym made)
          (growth_more o c.growing.crossed.size list c.growing.states.items next found.place found.join
          c.growing.invariant.holds (lowest (goal.at.growing-preserved c).In-Ok-Some) c.in-Ok.ensures.least);
      listed = subst (λ (x : Crossings). ListsJoiners o x.list next [] c.join_next.new.joiners) (sym made)
          c.in-Ok.ensures.joiners;
    }
