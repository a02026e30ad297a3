use Rattle.std.proofs.Common.{◌++◌, List, ℕ, All, refl, ap, subst, ◌∙◌, arith}
use Rattle.gr_outside.specs.Prelude.{IsWithin}
use Rattle.gr_outside.proofs.NotedCalls.{noted}
use Rattle.gr_outside.proofs.call_log.CallLog.note.Goals as goal

pub returns : goal.returns
returns c =
    let text = c.self.inside.text in
    let notes = c.self.inside.notes.items in
    rw (← c.self.view_is, c.in-Ok-push.ensures.items)
    (noted c.self.inside.is_told text.items c.args.name.now c.args.bytes.now _ notes c.args.writes c.args.done
    c.len-start.result _ _ c.self.inside.room c.self.inside.bytes
    (subst (λ (n : ℕ). All (IsWithin n) notes) text.ok.0 c.self.invariant.2)
    (c.in-Ok-extend_from_slice.ensures.items ∙ ap (λ (t : List ℕ). t ++ c.args.bytes.now) c.in-Ok.ensures.items)
    (c.len-start.ensures ∙ text.ok.0) refl refl c.requires (omega (arith, c.if-self-eq0.false))
    (omega (arith, c.if-self-name.false, c.if-self-name-2.false)))
