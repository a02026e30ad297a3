use Rattle.std.proofs.Common.{◌≡◌, ◌+◌, ◌-◌, [], ◌∷◌, ◌++◌, length, sym, ◌∙◌, subst, arith, length-append}
use Rattle.std.proofs.lemmas.List.{append-nil}
use Rattle.gr_base.specs.Prelude.{Adds}
use Rattle.gr_base.proofs.Added.{Adds-then}
use Rattle.run_data.specs.Prelude.{levels_behind, levels_line}
use Rattle.call_steps.specs.Prelude.{StandNow}
use Rattle.machine_verbs.proofs.LevelLines.{behind-one, cut-so, line-some, stands}
use Rattle.machine_verbs.proofs.Tracing.{one-bank}
use Rattle.machine_verbs.proofs.levels.put_levels.Goals as goal

pub returns-in-Err : goal.returns-in-Err
returns-in-Err g c =
    let orams = c.args.machine.now.orams in
    let so_far = c.loop-bank.invariant in
    let bank = c.in-Err.ensures in
    let number : c.loop-bank.bank ≡ length so_far.levels + 2 = omega (arith, so_far.count, c.loop-bank.auto.bank) in
    let number_is : c.loop-bank.bank ≡ 2 + length so_far.levels = omega (arith, number) in
    let one = length-append so_far.levels (bank.levels ∷ []) in
    record {
      levels = so_far.levels ++ bank.levels ∷ [];
      stand = one-bank (StandNow orams) so_far.levels bank.levels so_far.stand (stands orams c.loop-bank.bank
          (length so_far.levels + 2) c.oram.result.now bank.levels number c.oram.ensures.bank bank.are);
      most = omega (arith, one, so_far.count, c.loop-bank.auto.bank, c.loop-bank-test.true);
      all = tt;
      some = omega (arith, one);
      put = cut-so (g.O.Sink.seen c.args.out.now) (g.O.Sink.seen c.loop-bank.out) (g.O.Sink.seen c.put_bank.new.out)
          (levels_behind [] 2 so_far.levels) (levels_line c.loop-bank.bank bank.levels) [] _ _
          so_far.put so_far.calm
          (line-some c.loop-bank.bank bank.levels) bank.put.cut bank.put.failed bank.put.count bank.put.count_stays
          (append-nil (levels_behind [] 2 so_far.levels ++ levels_line c.loop-bank.bank bank.levels)
          ∙ sym (behind-one so_far.levels bank.levels c.loop-bank.bank number_is));
    }

pub loop-bank-preserved : goal.loop-bank-preserved
loop-bank-preserved g c =
    let orams = c.args.machine.now.orams in
    let so_far = c.loop-bank.invariant in
    let bank = c.in-Ok.ensures in
    let number : c.loop-bank.bank ≡ length so_far.levels + 2 = omega (arith, so_far.count, c.loop-bank.auto.bank) in
    let number_is : c.loop-bank.bank ≡ 2 + length so_far.levels = omega (arith, number) in
    record {
      levels = so_far.levels ++ bank.levels ∷ [];
      count = omega (arith, length-append so_far.levels (bank.levels ∷ []), so_far.count, c.loop-bank.auto.bank);
      stand = one-bank (StandNow orams) so_far.levels bank.levels so_far.stand (stands orams c.loop-bank.bank
          (length so_far.levels + 2) c.oram.result.now bank.levels number c.oram.ensures.bank bank.are);
      put = subst (Adds (g.O.Sink.seen c.args.out.now).held (g.O.Sink.seen c.put_bank.new.out).held)
          (sym (behind-one so_far.levels bank.levels c.loop-bank.bank number_is))
          (Adds-then _ (g.O.Sink.seen c.loop-bank.out).held _ (levels_behind [] 2 so_far.levels)
          (levels_line c.loop-bank.bank bank.levels) so_far.put bank.put.added);
      calm = bank.put.calm ∙ so_far.calm;
    }

pub returns : goal.returns
returns g c =
    let so_far = c.loop-bank.invariant in
    let all : length so_far.levels ≡ c.args.banks - 2 = omega
    (arith, so_far.count, c.loop-bank-test.false, c.loop-bank.auto.bank, c.loop-bank.auto.bank-end, c.requires.least) in
    record {
      levels = so_far.levels;
      stand = so_far.stand;
      most = omega (arith, all);
      all = all;
      some = tt;
      put = record {
        added = so_far.put;
        calm = so_far.calm;
        cut = tt;
        failed = tt;
        count = omega (arith, so_far.calm);
        count_stays = λ full. so_far.calm ∙ full;
      };
    }
