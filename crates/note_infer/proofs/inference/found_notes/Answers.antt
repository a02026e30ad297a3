-- A place where nothing is known is dead.
use Rattle.std.proofs.Common.{List, [], Option, None, subst}
use Rattle.trace_patterns.specs.Prelude.{Known}
use Rattle.note_infer.specs.Prelude.{HasLeast, Crossings, ListsJoiners, NothingIsKnown, IsFirstUnknown}
use Rattle.note_infer.proofs.Inferring.{dead_found, all_reached}
use Rattle.note_infer.proofs.inference.found_notes.Goals as goal

pub returns-in-Some-clause-why : goal.returns-in-Some-clause-why
returns-in-Some-clause-why c =
    dead_found c.args.bare.now c.in-Ok-least_states.first.items c.in-Some.place
    (subst (λ (x : Crossings). HasLeast c.args.bare.now x.list c.in-Ok-least_states.first.items) c.in-Ok.ensures
    c.in-Ok-least_states.ensures.least)
    (subst (λ (x : List (Option Known)). NothingIsKnown x c.in-Some.place) c.deref.ensures.value c.in-Some.ensures)

pub notes_from-requires-clause-reachable : goal.notes_from-requires-clause-reachable
notes_from-requires-clause-reachable c =
    all_reached c.args.bare.now c.in-Ok-least_states.first.items
    (subst (λ (x : Crossings). HasLeast c.args.bare.now x.list c.in-Ok-least_states.first.items) c.in-Ok.ensures
    c.in-Ok-least_states.ensures.least)
    (subst (λ (x : List (Option Known)). IsFirstUnknown x None) c.deref.ensures.value c.in-None.ensures)

pub notes_from-requires-clause-listed : goal.notes_from-requires-clause-listed
notes_from-requires-clause-listed c =
    subst (λ (x : Crossings). ListsJoiners c.args.bare.now x.list c.in-Ok-least_states.first.items []
    c.least_states.new.joiners) c.in-Ok.ensures c.in-Ok-least_states.ensures.joiners
