use Rattle.std.proofs.Common.{◌≡◌, pos, ◌+ℤ◌, rules, w64, to_z, of_z}
use Rattle.std.proofs.lemmas.Int.{wraps}
use Rattle.std.proofs.lemmas.Result.{on_ok_weaker}
use Rattle.block_cache_gen.specs.Prelude.{least_word, home_in}
use Rattle.block_cache_gen.proofs.EmittedTrees.{compared_noted}
use Rattle.block_cache_gen.proofs.indexes.put_compared.Goals as goal

pub returns-clause-appended : goal.returns-clause-appended
returns-clause-appended c =
    let h = home_in c.args.index.array in
    let bound = to_z w64 (of_z w64 c.lowered_length.result) in
    let size = to_z w64 (of_z w64 c.from.result) in
    let is_bound : bound ≡ least_word +ℤ pos h.length = search (rules, wraps) in
    let is_size : size ≡ pos h.length = search (rules, wraps) in
    on_ok_weaker c.put_note_behind.result
    (compared_noted c.args.emitter.now c.args.index.mask c.args.index.to c.unmarked.result h bound size c.args.out.now
    c.put.new.self c.put_note_behind.new.out c.unmarked.ensures is_bound is_size c.in_ok-put.ensures.appended)
    c.put_note_behind.ensures.appended
