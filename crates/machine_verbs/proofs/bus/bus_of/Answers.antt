use Rattle.std.proofs.Common.{◌≡◌, ◌≤◌, ◌<◌, ◌+◌, ℕ, ℤ, List, [], ◌∷◌, ◌++◌, None, length, get_or, take, sym, ap, ◌∙◌, subst, arith, length-append}
use Rattle.std.specs.Prelude.{IsTrue}
use Rattle.std.proofs.lemmas.List.{length-take-le, take_all}
use Rattle.lt_isa.specs.Prelude.{Parts, IsInRange, FitsObject}
use Rattle.bus_arbiter.specs.Prelude.{Core}
use Rattle.path_oram.specs.Prelude.{Oram}
use Rattle.rand_chacha.specs.ChaCha.{ChaCha}
use Rattle.call_steps.specs.Prelude.{BankBegins, HasBegun}
use Rattle.machine_verbs.specs.Prelude.{AllBegin}
use Rattle.machine_verbs.proofs.SharedBus.{begin-more, fit-at, fit-count, start-cycle, start-place, take-more}
use Rattle.machine_verbs.proofs.bus.bus_of.Goals as goal

pub bounds-inputs-core : goal.bounds-inputs-core
bounds-inputs-core c =
    omega (
      arith,
      fit-count c.args.objects.now c.args.inputs.now c.requires.fit,
      c.entering-test.true,
      c.entering.auto.core-end,
    )

pub load_seeded-requires-clause-in_range : goal.load_seeded-requires-clause-in_range
load_seeded-requires-clause-in_range c =
    subst IsInRange (sym c.index-objects-core.is)
    (fit-at c.args.objects.now c.args.inputs.now c.requires.fit c.entering.core c.index-objects-core.result
    c.index-inputs-core.result (omega (arith, c.entering-test.true, c.entering.auto.core-end))).0

pub load_seeded-requires-clause-fits : goal.load_seeded-requires-clause-fits
load_seeded-requires-clause-fits c =
    let k = c.entering.core in
    let o = c.index-objects-core.result in
    let d = c.index-inputs-core.result in
    subst (λ (p : Parts). FitsObject p d) (sym c.index-objects-core.is)
    (subst (λ (e : List (List ℤ)). FitsObject (get_or c.args.objects.now k o) e) (sym c.index-inputs-core.is)
    (fit-at c.args.objects.now c.args.inputs.now c.requires.fit k o d
    (omega (arith, c.entering-test.true, c.entering.auto.core-end))).1)

pub enter-requires-clause-place : goal.enter-requires-clause-place
enter-requires-clause-place c =
    ap (λ s. s.place) c.in_ok-machine.ensures.state ∙ start-place c.index-objects-core.result c.index-inputs-core.result

pub enter-requires-clause-cycle : goal.enter-requires-clause-cycle
enter-requires-clause-cycle c =
    ap (λ s. s.cycle) c.in_ok-machine.ensures.state ∙ start-cycle c.index-objects-core.result c.index-inputs-core.result

pub entering-preserved : goal.entering-preserved
entering-preserved c =
    let objects = c.args.objects.now in
    let inputs = c.args.inputs.now in
    let k = c.entering.core in
    let o = c.index-objects-core.result in
    let d = c.index-inputs-core.result in
    let cores : List (Core (Oram ChaCha)) = c.entering.bus.cores in
    let one : Core (Oram ChaCha) = record { machine = c.in_ok-machine.machine; halted = None } in
    let entered = c.in_ok-enter.ensures.entered in
    let within : k < length objects = omega (arith, c.entering-test.true, c.entering.auto.core-end) in
    let inside : k < length inputs = omega (
      arith,
      fit-count objects inputs c.requires.fit,
      c.entering-test.true,
      c.entering.auto.core-end,
    ) in
    let some : take (k + 1) objects ≡ take k objects ++ o ∷ [] =
    take-more objects k o within
    ∙ ap (λ (p : Parts). take k objects ++ p ∷ []) (sym c.index-objects-core.is) in
    let given : take (k + 1) inputs ≡ take k inputs ++ d ∷ [] =
    take-more inputs k d inside
    ∙ ap (λ (e : List (List ℤ)). take k inputs ++ e ∷ []) (sym c.index-inputs-core.is) in
    let number : k ≡ 0 + length (take k objects) =
    omega (arith, length-take-le k objects (omega (arith, within))) in
    record {
      plan = ap (λ b. b.plan) entered ∙ c.entering.invariant.plan;
      sound = subst (λ b. IsTrue b.sound) (sym entered) c.entering.invariant.sound;
      fresh = subst (λ b. IsTrue b.fresh) (sym entered) c.entering.invariant.fresh;
      count = omega (
        arith,
        ap (λ b. length b.cores) entered,
        length-append cores (one ∷ []),
        c.entering.invariant.count,
      );
      begun = subst (λ b. AllBegin c.args.seed 0 (take (k + 1) objects) (take (k + 1) inputs) b.cores) (sym entered)
          (subst (λ os. AllBegin c.args.seed 0 os (take (k + 1) inputs) (cores ++ one ∷ [])) (sym some)
          (subst (λ ds. AllBegin c.args.seed 0 (take k objects ++ o ∷ []) ds (cores ++ one ∷ [])) (sym given)
          (begin-more c.args.seed 0 (take k objects) (take k inputs) cores o d one c.entering.invariant.begun
          (subst (λ (n : ℕ). HasBegun (BankBegins o d c.args.seed n) o d one.machine) number
          c.in_ok-machine.ensures))));
    }

pub returns-clause-begun : goal.returns-clause-begun
returns-clause-begun c =
    let objects = c.args.objects.now in
    let inputs = c.args.inputs.now in
    let k = c.entering.core in
    let past : length objects ≤ k = omega (arith, c.entering-test.false, c.entering.auto.core-end) in
    let same = fit-count objects inputs c.requires.fit in
    subst (λ os. AllBegin c.args.seed 0 os inputs c.entering.bus.cores) (take_all k objects past)
    (subst (λ ds. AllBegin c.args.seed 0 (take k objects) ds c.entering.bus.cores)
    (take_all k inputs (omega (arith, past, same))) c.entering.invariant.begun)
