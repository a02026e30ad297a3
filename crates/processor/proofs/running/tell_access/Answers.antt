use Rattle.std.proofs.Common.{◌≡◌, [], ◌∷◌, ℕ, Option, Some, None, sym, ◌∙◌, subst, arith}
use Rattle.lt_isa.specs.Prelude.{observed_of, seen_at}
use Rattle.gr_base.proofs.Counts.{rose_behind}
use Rattle.banks.specs.Prelude.{oblivious}
use Rattle.processor.specs.Prelude.{Broke, AnEvent, APath, path_behind}
use Rattle.processor.proofs.Progress.{broke_first, broke_second}
use Rattle.processor.proofs.running.tell_access.Goals as goal

pub returns-in-Err-clause-broke : goal.returns-in-Err-clause-broke
returns-in-Err-clause-broke g c =
    broke_first g.W.Watch.hears _ _ _ _ _ c.in-Err.ensures.unheard c.in-Err.ensures.torn

pub returns-in_default-clause-heard : goal.returns-in_default-clause-heard
returns-in_default-clause-heard g c =
    let event = AnEvent (seen_at c.args.stamp (observed_of c.args.event.now)) in
    let none : oblivious (observed_of c.args.event.now) ≡ None =
    sym c.oblivious_bank.ensures ∙ c.in_default.is in
    subst (λ (found : Option ℕ). g.W.Watch.hears c.args.watch.now
    (event ∷ path_behind c.args.stamp found c.args.leaves.now) c.seen.new.self) (sym none) c.in-Ok.ensures.heard

pub returns-in-Ok-path-clause-heard : goal.returns-in-Ok-path-clause-heard
returns-in-Ok-path-clause-heard g c =
    let event = AnEvent (seen_at c.args.stamp (observed_of c.args.event.now)) in
    let some : oblivious (observed_of c.args.event.now) ≡ Some c.in-Some.bank =
    sym c.oblivious_bank.ensures ∙ c.in-Some.is in
    subst (λ (found : Option ℕ). g.W.Watch.hears c.args.watch.now
    (event ∷ path_behind c.args.stamp found c.args.leaves.now) c.path.new.self) (sym some)
    (g.met.W.Watch.hears_then c.args.watch.now c.seen.new.self c.path.new.self (event ∷ [])
    (APath c.args.stamp c.in-Some.bank c.args.leaves.now ∷ []) c.in-Ok.ensures.heard c.in-Ok-path.ensures.heard)

pub returns-in-Err-path-clause-broke : goal.returns-in-Err-path-clause-broke
returns-in-Err-path-clause-broke g c =
    let event = AnEvent (seen_at c.args.stamp (observed_of c.args.event.now)) in
    let some : oblivious (observed_of c.args.event.now) ≡ Some c.in-Some.bank =
    sym c.oblivious_bank.ensures ∙ c.in-Some.is in
    subst (λ (found : Option ℕ). Broke g.W.Watch.hears c.args.watch.now c.path.new.self
    (g.W.Watch.torn c.path.new.self) (event ∷ path_behind c.args.stamp found c.args.leaves.now)) (sym some)
    (broke_second g.W.Watch.hears c.args.watch.now c.path.new.self (g.W.Watch.torn c.path.new.self) event
    (APath c.args.stamp c.in-Some.bank c.args.leaves.now)
    (g.met.W.Watch.hears_then c.args.watch.now c.seen.new.self c.path.new.self (event ∷ []) []
    c.in-Ok.ensures.heard c.in-Err-path.ensures.unheard) c.in-Err-path.ensures.torn)

pub returns-in-Err-path-clause-after : goal.returns-in-Err-path-clause-after
returns-in-Err-path-clause-after g c =
    record {
      told_before = λ tells. c.in-Ok.ensures.told_before (c.in-Err-path.ensures.told_before tells);
      failed =
          rose_behind (g.W.Watch.faults c.args.watch.now) (g.W.Watch.faults c.seen.new.self)
          (g.W.Watch.faults c.path.new.self) c.in-Ok.ensures.count c.in-Err-path.ensures.count
          c.in-Err-path.ensures.failed;
      whole = c.in-Err-path.ensures.whole;
      count = omega (arith, c.in-Ok.ensures.count, c.in-Err-path.ensures.count);
      count_stays = λ full. c.in-Err-path.ensures.count_stays (c.in-Ok.ensures.count_stays full);
      same = g.met.W.Watch.same_through c.args.watch.now c.seen.new.self c.path.new.self c.in-Ok.ensures.same
          c.in-Err-path.ensures.same;
    }
