use Rattle.std.proofs.Common.{sym, ◌∙◌, subst, length, ◌+◌, ◌++◌, None}
use Rattle.std.proofs.lemmas.Result.{on_ok_weaker}
use Rattle.src_tree.specs.Prelude.{expr_tree}
use Rattle.block_cache_gen.specs.declared.indexes.Numbering.{Numbering}
use Rattle.block_cache_gen.specs.Prelude.{numbered_code, numbered_register, offset_code, shift_code, Appended, compared_notes, home_in}
use Rattle.block_cache_gen.proofs.EmittedTrees.{found_placed, found_loaded}
use Rattle.block_cache_gen.proofs.Emitting.{grows_thrice, silent_behind}
use Rattle.block_cache_gen.proofs.accesses.put_found_access.Goals as goal

pub returns-then-is_resident-clause-appended : goal.returns-then-is_resident-clause-appended
returns-then-is_resident-clause-appended c =
    let f = c.args.emitter.now in
    let a = c.args.access in
    let h = home_in a.array in
    let way = c.numbering-numbering.result in
    on_ok_weaker c.put_offset.result
    (λ x.
    found_placed f a.mode h a.mask a.to c.args.from (expr_tree c.args.index.now) c.args.out.now c.put_offset.new.out
    c.requires.from (sym c.is_resident.ensures ∙ c.if-is_resident.true)
    (subst (λ (way : Numbering). Appended c.args.out.now c.put_offset.new.out
    (numbered_code way f h a.to c.args.from ++ offset_code f h a.to (numbered_register way a.to c.args.from))
    (λ place. compared_notes way None f a.mask a.to (place + length (numbered_code way f h a.to c.args.from))))
    c.numbering-numbering.ensures
    (silent_behind c.args.out.now c.put_numbered.new.out c.put_offset.new.out (numbered_code way f h a.to c.args.from)
    (offset_code f h a.to (numbered_register way a.to c.args.from))
    (λ place. compared_notes way None f a.mask a.to (place + length (numbered_code way f h a.to c.args.from)))
    c.in_ok-put_numbered.ensures.appended x)))
    c.put_offset.ensures.appended

pub returns-clause-appended : goal.returns-clause-appended
returns-clause-appended c =
    let f = c.args.emitter.now in
    let a = c.args.access in
    let h = home_in a.array in
    let way = c.numbering-numbering.result in
    on_ok_weaker c.put_load.result
    (found_loaded f a.mode h a.mask a.to c.args.from (expr_tree c.args.index.now) c.args.out.now c.put_block.new.out
    c.put_load.new.out c.requires.from (sym c.is_resident.ensures ∙ c.if-is_resident.false)
    (subst (λ (way : Numbering). Appended c.args.out.now c.put_block.new.out
    (numbered_code way f h a.to c.args.from ++ shift_code f h a.to)
    (λ place. compared_notes way None f a.mask a.to (place + length (numbered_code way f h a.to c.args.from))))
    c.numbering-numbering.ensures
    (silent_behind c.args.out.now c.put_numbered.new.out c.put_block.new.out (numbered_code way f h a.to c.args.from)
    (shift_code f h a.to)
    (λ place. compared_notes way None f a.mask a.to (place + length (numbered_code way f h a.to c.args.from)))
    c.in_ok-put_numbered.ensures.appended c.in_ok-put_block.ensures.appended)))
    c.put_load.ensures.appended

pub returns-clause-grows : goal.returns-clause-grows
returns-clause-grows c =
    grows_thrice c.args.out.now c.put_numbered.new.out c.put_block.new.out c.put_load.new.out c.put_numbered.ensures.grows
    c.put_block.ensures.grows c.put_load.ensures.grows
