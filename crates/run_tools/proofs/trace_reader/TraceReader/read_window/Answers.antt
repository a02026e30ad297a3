use Rattle.std.proofs.Common.{◌≡◌, ◌==◌, ◌&&◌, ◌++◌, Bool, Ok, true, List, nat_lt, length, map, ap, sym, ◌∙◌, subst}
use Rattle.std.proofs.lemmas.Bool.{ltb-true}
use Rattle.std.proofs.lemmas.Bool.Decides.{Decides-eqb}
use Rattle.std.proofs.lemmas.List.{nil_from_length}
use Rattle.banks.specs.Prelude.{accesses_from}
use Rattle.lt_isa.specs.Prelude.{State, Parts, IsInRange, IsShaped, trace_from}
use Rattle.lt_isa.proofs.Ends.{final_shaped}
use Rattle.processor.specs.Prelude.{is_spent, paths_shown, events_in, with_paths}
use Rattle.processor.proofs.TellingPaths.{events_in-with_paths}
use Rattle.run_tools.specs.Prelude.{stamped_of, ahead}
use Rattle.run_tools.specs.declared.recorder.Recorded.{Recorded}
use Rattle.run_tools.proofs.Reading.{all-three}
use Rattle.run_tools.proofs.Windows.{window-read}
use Rattle.run_tools.proofs.trace_reader.TraceReader.read_window.Goals as goal

pub returns-in-Ok-clause-left : goal.returns-in-Ok-clause-left
returns-in-Ok-clause-left g c =
    let r = c.args.self.now in
    let o = c.args.machine.now.object in
    let s = c.args.machine.now.state in
    let n = c.window_end-until.result in
    let now = c.run.new.watch.events.items in
    let how = c.in-Ok.field-0 in
    let tests = all-three c.args.machine.now.live (nat_lt r.reached r.cycles) (length r.waiting.items == 0)
    c.requires.wants_more in
    let more : c.args.machine.now.live && nat_lt r.reached r.cycles ≡ true =
    ap (λ (b : Bool). b && nat_lt r.reached r.cycles) tests.0 ∙ tests.1 in
    let empty = nil_from_length r.waiting.items ((Decides-eqb (length r.waiting.items) 0).0 tests.2) in
    let most = c.window_end-until.ensures.most (ltb-true r.reached r.cycles tests.1) in
    let paths = paths_shown g.B.Bank.shows c.args.machine.now.orams (accesses_from o s n) in
    let recorded : map stamped_of now ≡ trace_from o s n =
    c.in-Ok.ensures.heard
    ∙ ap (λ (l : List Recorded). map stamped_of l ++ events_in (with_paths (trace_from o s n) paths))
    c.new-recorder.ensures.events
    ∙ events_in-with_paths (trace_from o s n) paths in
    ap (λ (b : Bool). map stamped_of now ++ ahead (b && nat_lt n r.cycles) c.run.new.self.object c.run.new.self.state r.cycles)
    c.in-Ok.ensures.live
    ∙ ap (λ (q : Parts). map stamped_of now ++ ahead (is_spent (Ok how) && nat_lt n r.cycles) q c.run.new.self.state r.cycles)
    c.in-Ok.ensures.object
    ∙ ap (λ (t : State). map stamped_of now ++ ahead (is_spent (Ok how) && nat_lt n r.cycles) o t r.cycles)
    c.in-Ok.ensures.state
    ∙ window-read o c.requires.may_read.in_range s c.requires.may_read.shaped n r.cycles most how c.in-Ok.ensures.end
    r.waiting.items now empty recorded (c.args.machine.now.live && nat_lt r.reached r.cycles) more

pub returns-in-Ok-clause-may_read : goal.returns-in-Ok-clause-may_read
returns-in-Ok-clause-may_read g c =
    let o = c.args.machine.now.object in
    let s = c.args.machine.now.state in
    let n = c.window_end-until.result in
    record {
      in_range = subst IsInRange (sym c.in-Ok.ensures.object) c.requires.may_read.in_range;
      shaped =
          subst (λ (q : Parts). IsShaped q c.run.new.self.state) (sym c.in-Ok.ensures.object)
          (subst (IsShaped o) (sym c.in-Ok.ensures.state)
          (final_shaped o c.requires.may_read.in_range s c.requires.may_read.shaped n));
    }
