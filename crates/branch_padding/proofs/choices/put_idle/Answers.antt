use Rattle.std.proofs.Common.{◌≡◌, subst, arith}
use Rattle.block_cache_gen.specs.Prelude.{Appended, no_notes}
use Rattle.branch_padding.specs.Prelude.{idle}
use Rattle.branch_padding.proofs.EmittedRegions.{idle-more, appended-none}
use Rattle.branch_padding.proofs.GrowingRows.{appended-grows}
use Rattle.branch_padding.proofs.choices.put_idle.Goals as goal

pub loop-done-init : goal.loop-done-init
loop-done-init c = record { within = omega arith; made = appended-none c.args.out.now }

pub loop-done-preserved : goal.loop-done-preserved
loop-done-preserved c = record {
  within = omega arith;
  made =
      idle-more c.args.out.now c.loop-done.out c.put.new.self c.loop-done.done c.loop-done.invariant.made
      c.in_ok-put.ensures.appended;
}

pub returns : goal.returns
returns c =
    let same : c.loop-done.done ≡ c.args.cycles = omega (arith, c.loop-done.invariant.within) in
    record {
      appended = subst (λ n. Appended c.args.out.now c.loop-done.out (idle n) no_notes) same c.loop-done.invariant.made;
      grows =
          appended-grows c.args.out.now c.loop-done.out (idle c.loop-done.done) no_notes c.loop-done.invariant.made;
    }
