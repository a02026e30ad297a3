use Rattle.std.proofs.Common.{◌<◌, ◌+◌, max, map, drop, sym, ap, ◌∙◌, subst, length, get_or, arith}
use Rattle.std.specs.Prelude.{fold}
use Rattle.lt_isa.specs.Prelude.{no_bank}
use Rattle.lt_isa.proofs.Cycles.{bank-fits}
use Rattle.bus_arbiter.proofs.Longest.{longest-more}
use Rattle.bus_arbiter.proofs.shares.longest.Goals as goal

pub loop-bank-preserved : goal.loop-bank-preserved
loop-bank-preserved c =
    let banks = c.banks-bank-items.result.now in
    let i = c.loop-bank.bank-index in
    let is = c.greater-longest.ensures in
    let fits = bank-fits c.args.object.now c.banks-bank-items.ensures.in_range i
    (subst (λ l. i < length l) c.banks-bank-items.ensures.value c.loop-bank-test.true) in
    let same = ap (λ l. (get_or l i no_bank).latency) c.banks-bank-items.ensures.value in
    record {
      rest =
          ap (λ n. fold max n (map (λ b. b.latency) (drop (i + 1) banks))) is
          ∙ sym (longest-more (λ b. b.latency) banks i no_bank c.loop-bank.longest c.loop-bank-test.true)
          ∙ c.loop-bank.invariant.rest;
      most = omega (arith, is, same, fits.latency.1, c.loop-bank.invariant.most);
      some = λ some. omega (arith, is, same, fits.latency.0);
    }
