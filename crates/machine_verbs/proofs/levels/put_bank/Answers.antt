use Rattle.std.proofs.Common.{◌≡◌, ◌+◌, ◌-◌, [], ◌∷◌, ◌++◌, length, refl, sym, ap, ◌∙◌, subst, arith, length-append}
use Rattle.std.specs.Prelude.{codes, flat_map}
use Rattle.gr_base.specs.Prelude.{Adds}
use Rattle.gr_base.proofs.Added.{Adds-then, AddsLess-more}
use Rattle.run_data.specs.Prelude.{level_text, levels_head, levels_line}
use Rattle.run_data.proofs.Pieces.{puts_last}
use Rattle.path_oram.specs.Prelude.{StandsOn}
use Rattle.path_oram.proofs.Existing.{all_levels, one_level}
use Rattle.machine_verbs.proofs.LevelLines.{cut-so, level-some, line-parts, one-more}
use Rattle.machine_verbs.proofs.levels.put_bank.Goals as goal

pub returns-in-Err : goal.returns-in-Err
returns-in-Err g c =
    let places = c.args.oram.now.places in
    let all =
    all_levels (length places.leaves) places c.height.ensures.whole [] (omega arith)
    (λ block less. absurd (omega (arith, less))) in
    let head = levels_head c.args.bank in
    record {
      levels = all.more;
      are = all.are;
      put = record {
        added = tt;
        calm = tt;
        cut = AddsLess-more _ _ (head ++ flat_map level_text all.more) (codes "\n")
            (AddsLess-more _ _ head (flat_map level_text all.more) c.in-Err.ensures.cut);
        failed = c.in-Err.ensures.failed;
        count = c.put_levels_head.ensures.count;
        count_stays = c.put_levels_head.ensures.count_stays;
      };
    }

pub returns-in-Err-put_level : goal.returns-in-Err-put_level
returns-in-Err-put_level g c =
    let places = c.args.oram.now.places in
    let so_far = c.loop-block.invariant in
    let level = c.level.result in
    let first = so_far.levels ++ level ∷ [] in
    let head = levels_head c.args.bank in
    let within : length first + (length places.leaves - length first) ≡ length places.leaves =
    omega (
      arith,
      length-append so_far.levels (level ∷ []),
      so_far.count,
      c.loop-block-test.true,
      c.blocks-block-end.ensures,
      c.height.ensures.leaves,
    ) in
    let stand : StandsOn places (length so_far.levels) level =
    subst (λ b. StandsOn places b level) (sym so_far.count) c.level.ensures.stands in
    let all =
    all_levels (length places.leaves - length first) places c.height.ensures.whole first within
    (one_level places so_far.levels level so_far.stand stand) in
    record {
      levels = first ++ all.more;
      are = all.are;
      put = cut-so (g.O.Sink.seen c.args.out.now) (g.O.Sink.seen c.loop-block.out) (g.O.Sink.seen c.put_level.new.out)
          (head ++ flat_map level_text so_far.levels) (level_text level)
          (flat_map level_text all.more ++ codes "\n") _ _
          so_far.put so_far.calm (level-some level) c.in-Err-put_level.ensures.cut c.in-Err-put_level.ensures.failed
          c.put_level.ensures.count c.put_level.ensures.count_stays
          (ap (λ text. text ++ (flat_map level_text all.more ++ codes "\n")) (sym (one-more head so_far.levels level))
          ∙ line-parts c.args.bank first all.more);
    }

pub loop-block-preserved : goal.loop-block-preserved
loop-block-preserved g c =
    let places = c.args.oram.now.places in
    let so_far = c.loop-block.invariant in
    let level = c.level.result in
    let head = levels_head c.args.bank in
    record {
      levels = so_far.levels ++ level ∷ [];
      count = omega (arith, length-append so_far.levels (level ∷ []), so_far.count);
      stand = one_level places so_far.levels level so_far.stand
          (subst (λ b. StandsOn places b level) (sym so_far.count) c.level.ensures.stands);
      put = subst (Adds (g.O.Sink.seen c.args.out.now).held (g.O.Sink.seen c.put_level.new.out).held)
          (sym (one-more head so_far.levels level))
          (Adds-then _ (g.O.Sink.seen c.loop-block.out).held _ (head ++ flat_map level_text so_far.levels)
          (level_text level) so_far.put c.in-Ok-put_level.ensures.added);
      calm = c.in-Ok-put_level.ensures.calm ∙ so_far.calm;
    }

pub returns : goal.returns
returns g c =
    let places = c.args.oram.now.places in
    let so_far = c.loop-block.invariant in
    let all : length so_far.levels ≡ length places.leaves =
    omega (
      arith,
      so_far.count,
      c.loop-block-test.false,
      c.loop-block.auto.block-end,
      c.blocks-block-end.ensures,
      c.height.ensures.leaves,
    ) in
    record {
      levels = so_far.levels;
      are = record { count = all; each = λ block exists. so_far.stand block (omega (arith, exists, all)) };
      put = puts_last _ _ _ _ _ _ (levels_head c.args.bank ++ flat_map level_text so_far.levels) (codes "\n")
          (levels_line c.args.bank so_far.levels) c.put.result so_far.put (omega arith) refl so_far.calm
          c.put.ensures.added c.put.ensures.calm c.put.ensures.cut c.put.ensures.failed c.put.ensures.count
          c.put.ensures.count_stays;
    }
