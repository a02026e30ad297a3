use Rattle.std.proofs.Common.{rules, ◌≡◌, ℤ, refl, ap, ◌∙◌, arith, to_z, of_z}
use Rattle.std.specs.Int.{w128}
use Rattle.std.proofs.lemmas.Int.{to_z-of_z}
use Rattle.object_file.specs.Prelude.{spelling}
use Rattle.src_tree.specs.Prelude.{source_of}
use Rattle.call_laws.proofs.SampleMade.{is-sample}
use Rattle.ghost_cli.proofs.Samples.{file-made, ready-done}
use Rattle.ghost_cli.proofs.sample.sample_of_run.Goals as goal

pub sum_meant-requires-clause-sample : goal.sum_meant-requires-clause-sample
sum_meant-requires-clause-sample c = (
  c.args.items,
  is-sample c.args.items (omega (arith, c.ranges.items))
      (source_of c.args.ready.now.program) c.requires.ready.spells,
)

pub sum_meant-requires-clause-done : goal.sum_meant-requires-clause-done
sum_meant-requires-clause-done c =
    ready-done c.args.fast c.args.items (source_of c.args.ready.now.program) c.args.ready.now.accepted c.args.run.cycles
    c.requires.ready c.requires.halted.halts

pub returns : goal.returns
returns c =
    let p = source_of c.args.ready.now.program in
    let kept : to_z w128 (of_z w128 c.in_ok-sum.sum) ≡ c.in_ok-sum.sum = search (rules, to_z-of_z) in
    file-made c.args.fast c.args.items p c.args.ready.now.accepted c.in_ok-bytes.bytes.items c.args.run _ c.requires.ready
    (c.in_ok-bytes.ensures.spelled ∙ ap spelling c.object.ensures.object) c.requires.halted refl
    (ap (λ (sum : ℤ). record {
      items = c.args.items;
      cycles = c.args.run.cycles;
      ram = c.args.run.counts.ram;
      eram = c.args.run.counts.eram;
      oram2 = c.args.run.counts.oram2;
      sum = sum;
    }) (kept ∙ c.in_ok-sum.ensures))
