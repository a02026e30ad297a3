use Rattle.std.proofs.Common.{◌≡◌, ℤ, List, length, sym, ap, ap₂, ◌∙◌, subst}
use Rattle.std.proofs.lemmas.List.{length-map}
use Rattle.lt_isa.specs.Prelude.{Parts, Stamped}
use Rattle.bus_arbiter.specs.Prelude.{traces_on, share_of}
use Rattle.bus_arbiter.specs.declared.shares.Share.{Share}
use Rattle.machine_verbs.specs.Prelude.{Read, PutsShared}
use Rattle.machine_verbs.proofs.SharedBus.{begin-count, begin-traces}
use Rattle.machine_verbs.proofs.bus.share_bus.Goals as goal

pub put_bus-requires-clause-all : goal.put_bus-requires-clause-all
put_bus-requires-clause-all g c =
    let read : Read = c.args.cores in
    let objects : c.deref.result.now ≡ read.objects =
    c.deref.ensures.value ∙ ap (λ (r : Read). r.objects) c.cores.view_is in
    begin-count c.args.seed 0 c.deref.result.now c.deref-2.result.now c.in_ok-bus.bus.cores c.in_ok-bus.ensures.begun
    ∙ ap (λ (l : List Parts). length l) objects ∙ sym (length-map read.objects share_of)
    ∙ ap (λ (l : List Share). length l)
    (sym (c.in_ok-bus.ensures.plan ∙ ap (λ (r : Read). r.plan) c.cores.view_is ∙ c.requires.read.planned))

pub returns-clause-shared : goal.returns-clause-shared
returns-clause-shared g c =
    let read : Read = c.args.cores in
    let before = g.O.Sink.seen c.args.out.now in
    let after = g.O.Sink.seen c.put_bus.new.out in
    let objects : c.deref.result.now ≡ read.objects =
    c.deref.ensures.value ∙ ap (λ (r : Read). r.objects) c.cores.view_is in
    let inputs : c.deref-2.result.now ≡ read.inputs =
    c.deref-2.ensures.value ∙ ap (λ (r : Read). r.inputs) c.cores.view_is in
    subst (λ (ts : List (List Stamped)). PutsShared before after ts c.put_bus.result)
    (begin-traces c.args.seed 0 c.args.cycles c.deref.result.now c.deref-2.result.now c.in_ok-bus.bus.cores
    c.in_ok-bus.ensures.begun
    ∙ ap₂ (λ (os : List Parts) (ds : List (List (List ℤ))). traces_on os ds c.args.cycles) objects inputs)
    c.put_bus.ensures
