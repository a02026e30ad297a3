use Rattle.std.proofs.Common.{◌≤◌, arith}
use Rattle.std.proofs.lemmas.Result.{on_ok_weaker}
use Rattle.src_tree.specs.Prelude.{block_of_all, test_of}
use Rattle.block_cache_gen.specs.declared.frames.Mode.TheVariants.{Public}
use Rattle.branch_padding.proofs.EmittedRegions.{secret-short}
use Rattle.branch_padding.proofs.choices.put_secret_if.Goals as goal

pub returns-clause-short : goal.returns-clause-short
returns-clause-short c =
    let few : c.args.emitter.now.profile.taken ≤ 32 =
    omega (arith, c.taken-taken.ensures.value, c.taken-taken.ensures.most) in
    on_ok_weaker c.put_choice.result
    (secret-short c.args.emitter.now few Public (test_of c.args.guard.now) (block_of_all c.args.first.now)
    (block_of_all c.args.second.now)
    c.args.out.now c.put_choice.new.out c.requires.secret)
    c.put_choice.ensures.emitted
