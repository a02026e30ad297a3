use Rattle.std.proofs.Common.{[], ap, ◌∙◌, subst}
use Rattle.std.proofs.lemmas.Result.{on_ok_weaker}
use Rattle.bus_arbiter.specs.Prelude.{NoneHalted, JoinedOn}
use Rattle.bus_arbiter.proofs.Rounding.{all-joined, all-left}
use Rattle.bus_arbiter.proofs.bus.Bus.run.Goals as goal

pub returns-clause-joined : goal.returns-clause-joined
returns-clause-joined g c =
    let cores = ap (λ b. b.cores) c.self.view_is in
    let live =
    subst NoneHalted cores (c.self.invariant.begins (ap (λ b. b.fresh) c.self.view_is ∙ c.requires.fresh)) in
    let on = c.in-Ok.ensures.joined in
    on_ok_weaker c.finish.result
    (all-joined c.args.self.now.cores c.go_through.new.self.cores on.0 c.args.cycles
    g.W.BusWatch.hears c.args.watch.now c.go_through.new.watch c.finish.new.watch
    (g.met.W.BusWatch.hears_then c.args.watch.now c.go_through.new.watch c.finish.new.watch) live
    (subst (λ l. JoinedOn l c.go_through.new.self.cores [] on.0 c.args.cycles
    (λ told. g.W.BusWatch.hears c.args.watch.now told c.go_through.new.watch)) cores on.1)
    c.in-Ok.ensures.quiet)
    c.finish.ensures.heard

pub returns-clause-left : goal.returns-clause-left
returns-clause-left g c =
    let cores = ap (λ b. b.cores) c.self.view_is in
    let on = c.in-Ok.ensures.joined in
    let joined = subst (λ l. JoinedOn l c.go_through.new.self.cores [] on.0 c.args.cycles
    (λ told. g.W.BusWatch.hears c.args.watch.now told c.go_through.new.watch)) cores on.1 in
    on_ok_weaker c.finish.result
    (all-left c.args.self.now.cores c.go_through.new.self.cores c.finish.new.self.cores joined.more on.0 c.args.cycles
    joined.joined)
    c.finish.ensures.left
