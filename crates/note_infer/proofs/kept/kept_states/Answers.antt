-- The search continues from the kept states.
use Rattle.std.proofs.Common.{[], List, Option, sym, subst, arith}
use Rattle.trace_patterns.specs.Prelude.{Known}
use Rattle.note_infer.specs.Prelude.{HasLeast, ListsJoiners}
use Rattle.note_infer.proofs.Growing.{least_ended, kept_whole}
use Rattle.note_infer.proofs.kept.kept_states.Goals as goal

pub raise_all-requires-clause-holds : goal.raise_all-requires-clause-holds
raise_all-requires-clause-holds c =
    rw c.deref_mut.ensures.value
    (c.requires.begins c.forget_within.new.states.items c.in-Ok.waiting.items c.forget_within.ensures c.in-Ok.ensures)

pub raise_all-requires-clause-listed : goal.raise_all-requires-clause-listed
raise_all-requires-clause-listed c =
    rw c.deref_mut.ensures.value
    (c.requires.listed c.forget_within.new.states.items c.in-Ok.waiting.items c.forget_within.ensures c.in-Ok.ensures)

pub returns-in-Ok-raise_all-clause-least : goal.returns-in-Ok-raise_all-clause-least
returns-in-Ok-raise_all-clause-least c =
    let o = c.args.object.now in
    let new = c.raise_all.new.states in
    let kept = c.forget_within.new.states in
    let h = c.in-Ok-raise_all.ensures.holds in
    let begun = c.requires.begins kept.items c.in-Ok.waiting.items c.forget_within.ensures c.in-Ok.ensures in
    subst (HasLeast o c.args.crossed.now.list)
    (sym (kept_whole kept.len new kept.items (omega (arith, h.size, begun.size, kept.ok))))
    (least_ended o c.args.crossed.now.list new h)

pub returns-in-Ok-raise_all-clause-joiners : goal.returns-in-Ok-raise_all-clause-joiners
returns-in-Ok-raise_all-clause-joiners c =
    let o = c.args.object.now in
    let new = c.raise_all.new.states in
    let kept = c.forget_within.new.states in
    let h = c.in-Ok-raise_all.ensures.holds in
    let begun = c.requires.begins kept.items c.in-Ok.waiting.items c.forget_within.ensures c.in-Ok.ensures in
    subst (λ (x : List (Option Known)). ListsJoiners o c.args.crossed.now.list x [] c.raise_all.new.joiners)
    (sym (kept_whole kept.len new kept.items (omega (arith, h.size, begun.size, kept.ok))))
    c.in-Ok-raise_all.ensures.listed
