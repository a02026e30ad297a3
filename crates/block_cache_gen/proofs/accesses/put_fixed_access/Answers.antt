use Rattle.std.proofs.Common.{◌≡◌, List, rules, w64, to_z, of_z, subst, sym, ap, ◌∙◌}
use Rattle.std.proofs.lemmas.Result.{on_ok_weaker}
use Rattle.std.proofs.lemmas.Int.{wraps}
use Rattle.lt_isa.specs.declared.instructions.Instr.{Instr}
use Rattle.block_cache_gen.specs.Prelude.{fixed_code, Appended, no_notes, home_in}
use Rattle.block_cache_gen.proofs.EmittedTrees.{fixed_loaded}
use Rattle.block_cache_gen.proofs.Emitting.{grows_then}
use Rattle.block_cache_gen.proofs.accesses.put_fixed_access.Goals as goal

pub returns-clause-appended : goal.returns-clause-appended
returns-clause-appended c =
    let f = c.args.emitter.now in
    let a = c.args.access in
    let h = home_in a.array in
    let same : to_z w64 (of_z w64 c.args.index) ≡ c.args.index = search (rules, wraps) in
    on_ok_weaker c.put_load.result
    (fixed_loaded f a.mode h a.mask a.to c.args.index c.args.out.now c.put.new.self c.put_load.new.out
    (sym c.is_resident.ensures ∙ c.if-is_resident.false)
    (subst (λ (code : List Instr). Appended c.args.out.now c.put.new.self code no_notes)
    (c.fixed_code.ensures ∙ ap (fixed_code f.profile.block_log h a.to) same) c.in_ok-put.ensures.appended))
    c.put_load.ensures.appended

pub returns-clause-grows : goal.returns-clause-grows
returns-clause-grows c =
    grows_then c.args.out.now c.put.new.self c.put_load.new.out c.put.ensures.grows c.put_load.ensures.grows
