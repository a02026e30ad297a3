use Rattle.std.proofs.Common.{◌≡◌, ◌∙◌, rules, w64, to_z, of_z}
use Rattle.std.proofs.lemmas.Int.{wraps}
use Rattle.std.proofs.lemmas.Result.{on_ok_weaker}
use Rattle.block_cache_gen.specs.Prelude.{fast_setting}
use Rattle.code_gen.proofs.EmittedPrograms.{scalar-placed, scalar-accessed}
use Rattle.code_gen.proofs.programs.put_register.Goals as goal

pub returns-in-Scalar : goal.returns-in-Scalar
returns-in-Scalar c =
    let n = c.in-Scalar.number in
    let value = to_z w64 (of_z w64 c.from-number_of_word.result) in
    let same : value ≡ c.from-number_of_word.result = search (rules, wraps) in
    let slot = c.index-slot.result.now in
    on_ok_weaker c.put-in-Scalar.result
    (scalar-accessed c.args.phase (fast_setting c.args.f.now) c.args.register n c.args.held value slot c.access.result
    c.args.out.now c.put-in-Scalar.new.self c.in-Scalar.is c.access.ensures
    (scalar-placed c.args.f.now c.requires.frame n c.index.result.now slot value
    (c.requires.scalar n c.in-Scalar.is) c.index.ensures c.index-slot.ensures
    (same ∙ c.from-number_of_word.ensures)))
    c.put-in-Scalar.ensures.appended
