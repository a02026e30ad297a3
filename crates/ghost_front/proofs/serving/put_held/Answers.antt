use Rattle.std.proofs.Common.{Global, Vec, subst, sym, ℕ}
use Rattle.std.specs.List.{All}
use Rattle.std.specs.Option.{option_map}
use Rattle.fault_texts.specs.Plain.{IsPlain}
use Rattle.ghost_front.specs.Prelude.{bytes_of}
use Rattle.ghost_front.proofs.Saying.{echoes_lines}
use Rattle.ghost_front.proofs.serving.put_held.Goals as goal

pub returns-in-Ok : goal.returns-in-Ok
returns-in-Ok g c =
    echoes_lines (g.E.Sink.seen c.args.errors.now) (g.E.Sink.seen c.put_text-in-Ok.new.errors)
    (bytes_of (option_map (λ (t : Vec ℕ Global). t.items) c.args.text.now)) c.as_slice-in-Ok.result.now
    (subst (All IsPlain) (sym c.as_slice-in-Ok.ensures.value) c.in-Ok.ensures) c.put_text-in-Ok.ensures
