use Rattle.std.proofs.Common.{List, ℕ, true, false, inl, inr, ap, subst, Err, ◌∙◌}
use Rattle.call_steps.specs.Prelude.{PutsSaid, Written, NotWritten, Starved}
use Rattle.call_steps.proofs.writing.write_and_say.Goals as goal

pub returns-in-Ok-clause-left : goal.returns-in-Ok-clause-left
returns-in-Ok-clause-left g c =
    Written _ _ _ c.in-Ok.ensures.written
    (subst (λ (t : List ℕ). PutsSaid (g.O.Sink.seen c.args.out.now) (g.O.Sink.seen c.put_text.new.out)
    (record { status = 0; text = t }) c.put_text.result)
    (c.as_bytes.ensures.value ∙ c.in_ok-wrote.ensures) c.put_text.ensures)

pub returns-in-Err-Memory-clause-left : goal.returns-in-Err-Memory-clause-left
returns-in-Err-Memory-clause-left g c =
    let starved = c.in-Err-Memory.ensures.starved (ap Err c.in-Err-Memory.field-0-is) in
    Starved _ _ _ (record {
      others = c.in-Err-Memory.ensures.others;
      tells = c.in-Err-Memory.ensures.tells;
      reads = c.in-Err-Memory.ensures.read_count;
    }) starved.0 starved.1 c.say_no_memory.ensures

pub returns-in-Err-Failed-clause-left : goal.returns-in-Err-Failed-clause-left
returns-in-Err-Failed-clause-left g c =
    let failed = c.in-Err-Failed.ensures.failed (ap Err c.in-Err-Failed.field-0-is) in
    NotWritten _ _ _ (record {
      others = c.in-Err-Failed.ensures.others;
      tells = c.in-Err-Failed.ensures.tells;
      reads = c.in-Err-Failed.ensures.read_count;
    }) failed.0 failed.1
    (subst (λ (t : List ℕ). PutsSaid (g.O.Sink.seen c.args.out.now) (g.O.Sink.seen c.put_text-in-Err-Failed.new.out)
    (record { status = 4; text = t }) c.put_text-in-Err-Failed.result)
    (c.as_bytes-in-Err-Failed.ensures.value ∙ c.in_ok-unwritten.ensures) c.put_text-in-Err-Failed.ensures)

pub returns-in-Ok-clause-calls : goal.returns-in-Ok-clause-calls
returns-in-Ok-clause-calls g c = inr (true, c.in-Ok.ensures.logged)

pub returns-in-Err-Memory-clause-calls : goal.returns-in-Err-Memory-clause-calls
returns-in-Err-Memory-clause-calls g c = inr (false, c.in-Err-Memory.ensures.logged)

pub returns-in-Err-Failed-clause-calls : goal.returns-in-Err-Failed-clause-calls
returns-in-Err-Failed-clause-calls g c = inr (false, c.in-Err-Failed.ensures.logged)

pub returns-in-Ok-clause-noted : goal.returns-in-Ok-clause-noted
returns-in-Ok-clause-noted g c four five = c.in-Ok.ensures.logged

pub returns-in-Err-Memory-clause-noted : goal.returns-in-Err-Memory-clause-noted
returns-in-Err-Memory-clause-noted g c four five =
    elim c.say_no_memory.ensures [ inl five' ↦ absurd (five five'.0) | inr four' ↦ absurd (four four'.0) ]

pub returns-in-Err-Failed-clause-noted : goal.returns-in-Err-Failed-clause-noted
returns-in-Err-Failed-clause-noted g c four five =
    elim c.put_text-in-Err-Failed.ensures [ inl four' ↦ absurd (four four'.0) | inr four' ↦ absurd (four four'.0) ]
