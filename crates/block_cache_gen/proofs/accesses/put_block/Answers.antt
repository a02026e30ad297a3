use Rattle.std.proofs.Common.{◌≡◌, pos, ap, ◌∙◌, rules, w64, to_z, of_z}
use Rattle.std.proofs.lemmas.Int.{wraps}
use Rattle.std.proofs.lemmas.Result.{on_ok_weaker}
use Rattle.block_cache_gen.specs.Prelude.{home_in}
use Rattle.block_cache_gen.proofs.EmittedTrees.{shift_appended}
use Rattle.block_cache_gen.proofs.accesses.put_block.Goals as goal

pub returns-clause-appended : goal.returns-clause-appended
returns-clause-appended c =
    let h = home_in c.args.array in
    let small : to_z w64 (of_z w64 c.from.result) ≡ pos c.block_log.result = search (rules, wraps) in
    let block : to_z w64 (of_z w64 c.from-2.result) ≡ pos h.block = search (rules, wraps) in
    on_ok_weaker c.put_applied-2.result
    (shift_appended c.args.emitter.now h c.args.to (to_z w64 (of_z w64 c.from.result))
    (to_z w64 (of_z w64 c.from-2.result)) c.args.out.now c.put_applied.new.out c.put_applied-2.new.out
    (small ∙ ap pos c.block_log.ensures.value) block c.in_ok-put_applied.ensures.appended)
    c.put_applied-2.ensures.appended
