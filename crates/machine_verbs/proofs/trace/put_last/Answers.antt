use Rattle.std.proofs.Common.{rules, ◌≡◌, true, false, [], inl, inr, refl, sym, ◌∙◌, subst, arith}
use Rattle.std.proofs.lemmas.Bool.{false≢true}
use Rattle.gr_base.specs.Prelude.{Rose, Adds, AddsLess}
use Rattle.gr_base.proofs.Added.{Adds-then, AddsLess-then}
use Rattle.run_data.specs.Prelude.{levels_behind}
use Rattle.run_data.proofs.PathTexts.{behind-text}
use Rattle.machine_verbs.proofs.LevelLines.{lines-some}
use Rattle.machine_verbs.proofs.trace.put_last.Goals as goal

pub returns-in-Err : goal.returns-in-Err
returns-in-Err g c = record {
  levels = [];
  stand = λ b two less. absurd (omega (arith, two, less));
  none = λ no. refl;
  most = omega arith;
  all = λ yes four. absurd (four refl);
  put = inr (refl, c.in-Err.ensures.failed, c.in-Err.ensures.cut);
}

pub returns-then-not-paths : goal.returns-then-not-paths
returns-then-not-paths g c =
    let off : c.args.paths ≡ false = search rules in
    record {
      levels = [];
      stand = λ b two less. absurd (omega (arith, two, less));
      none = λ no. refl;
      most = omega arith;
      all = λ yes four. absurd (false≢true (sym off ∙ yes));
      put = inl (refl, c.in-Ok.ensures.added, c.in-Ok.ensures.calm);
    }

pub returns-in-Ok-put_levels : goal.returns-in-Ok-put_levels
returns-in-Ok-put_levels g c =
    let on : c.args.paths ≡ true = search rules in
    let put = c.in-Ok-put_levels.ensures in
    record {
      levels = put.levels;
      stand = put.stand;
      none = λ no. absurd (false≢true (sym no ∙ on));
      most = put.most;
      all = λ yes four. put.all;
      put = inl (
        refl,
        subst (Adds (g.O.Sink.seen c.args.out.now).held (g.O.Sink.seen c.put_levels.new.out).held)
            (sym (behind-text c.args.line.now 2 put.levels))
            (Adds-then _ (g.O.Sink.seen c.put.new.self).held _ c.args.line.now
            (levels_behind [] 2 put.levels) c.in-Ok.ensures.added put.put.added),
        put.put.calm ∙ c.in-Ok.ensures.calm,
      );
    }

pub returns-in-Err-put_levels : goal.returns-in-Err-put_levels
returns-in-Err-put_levels g c =
    let on : c.args.paths ≡ true = search rules in
    let put = c.in-Err-put_levels.ensures in
    record {
      levels = put.levels;
      stand = put.stand;
      none = λ no. absurd (false≢true (sym no ∙ on));
      most = put.most;
      all = λ yes four. absurd (four refl);
      put = inr (
        refl,
        subst (λ n. Rose n (g.O.Sink.seen c.put_levels.new.out).faults) c.in-Ok.ensures.calm put.put.failed,
        subst (AddsLess (g.O.Sink.seen c.args.out.now).held (g.O.Sink.seen c.put_levels.new.out).held)
            (sym (behind-text c.args.line.now 2 put.levels))
            (AddsLess-then _ (g.O.Sink.seen c.put.new.self).held _ c.args.line.now
            (levels_behind [] 2 put.levels) c.in-Ok.ensures.added (lines-some put.levels put.some) put.put.cut),
      );
    }
