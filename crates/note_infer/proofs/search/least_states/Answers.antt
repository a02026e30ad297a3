-- The search begins where only the start is known.
use Rattle.std.proofs.Common.{◌≡◌, ◌<◌, List, length, set, [], Option, Some, sym, subst, ap, ◌∙◌, arith}
use Rattle.lt_isa.specs.declared.instructions.Instr.{Instr}
use Rattle.trace_patterns.specs.Prelude.{Known}
use Rattle.note_infer.specs.Prelude.{HasLeast, ListsJoiners}
use Rattle.note_infer.proofs.JoinersListed.{listed_begun}
use Rattle.note_infer.proofs.Turns.{loop_begun}
use Rattle.note_infer.proofs.Growing.{least_ended, kept_whole}
use Rattle.note_infer.proofs.search.least_states.Goals as goal

-- src/growth.rt:41:33
pub raise_all-requires-clause-holds : goal.raise_all-requires-clause-holds
raise_all-requires-clause-holds c =
    let o = c.args.object.now in
    let size : length c.in-Ok.empty.items ≡ length o.code =
    c.in-Ok.ensures.size ∙ ap (λ (l : List Instr). length l) c.code.ensures.value in
    let some : 0 < length o.code = c.requires.range.code_size.0 in
    rw (c.deref_mut.ensures.value, c.start.ensures, c.in-Ok-push.ensures.items, c.new-stack.ensures.items)
    (loop_begun o c.args.crossed.now.list c.in-Ok.empty.items size some c.in-Ok.ensures.nothing)

-- src/growth.rt:23:1
pub returns-in-Ok-raise_all-clause-least : goal.returns-in-Ok-raise_all-clause-least
returns-in-Ok-raise_all-clause-least c =
    let o = c.args.object.now in
    let new = c.raise_all.new.states in
    let h = c.in-Ok-raise_all.ensures.holds in
    subst (HasLeast o c.args.crossed.now.list)
    (sym (kept_whole c.in-Ok.empty.len new (set c.in-Ok.empty.items 0 (Some c.start.result))
    (omega (
      arith,
      h.size,
      c.in-Ok.ensures.size,
      ap (λ
          (l : List Instr). length l) c.code.ensures.value,
      c.in-Ok.empty.ok,
    ))))
    (least_ended o c.args.crossed.now.list new h)

pub returns-in-Ok-raise_all-clause-joiners : goal.returns-in-Ok-raise_all-clause-joiners
returns-in-Ok-raise_all-clause-joiners c =
    let o = c.args.object.now in
    let new = c.raise_all.new.states in
    let h = c.in-Ok-raise_all.ensures.holds in
    subst (λ (x : List (Option Known)). ListsJoiners o c.args.crossed.now.list x [] c.raise_all.new.joiners)
    (sym (kept_whole c.in-Ok.empty.len new (set c.in-Ok.empty.items 0 (Some c.start.result))
    (omega (
      arith,
      h.size,
      c.in-Ok.ensures.size,
      ap (λ
          (l : List Instr). length l) c.code.ensures.value,
      c.in-Ok.empty.ok,
    ))))
    c.in-Ok-raise_all.ensures.listed

pub raise_all-requires-clause-listed : goal.raise_all-requires-clause-listed
raise_all-requires-clause-listed c =
    rw (c.deref_mut.ensures.value, c.start.ensures, c.in-Ok-push.ensures.items, c.new-stack.ensures.items)
    (listed_begun c.args.object.now c.args.crossed.now.list c.in-Ok.empty.items c.args.joiners.now
    c.in-Ok.ensures.nothing)
