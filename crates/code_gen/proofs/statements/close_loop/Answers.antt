use Rattle.std.proofs.Common.{◌≡◌, ◌+◌, length, subst, arith}
use Rattle.std.proofs.lemmas.Result.{on_ok_weaker}
use Rattle.src_tree.specs.Prelude.{test_of}
use Rattle.block_cache_gen.specs.Prelude.{guard_code, EmitsGuard, Setting, ranged}
use Rattle.block_cache_gen.proofs.SomeCode.{guard_code-some}
use Rattle.code_gen.proofs.EmittedParts.{closing-length, closing-short, guard_code-short}
use Rattle.code_gen.proofs.statements.close_loop.Goals.{In_ok-put_guard}
use Rattle.block_cache_gen.specs.declared.frames.Mode.TheVariants as mode
use Rattle.code_gen.proofs.statements.close_loop.Goals as goal

-- what the guard is made for
abbrev at_guard : In_ok-put_guard → Setting
at_guard c = ranged c.args.emitter.now c.args.known.now

-- how long the code is after the guard
long : (c : In_ok-put_guard) → length c.put_guard.new.out.code.items ≡ length c.args.out.now.code.items
    + length (guard_code (at_guard c) mode.Public 0 (test_of c.args.guard.now))
long c =
    closing-length c.args.emitter.now (at_guard c)
    (test_of c.args.guard.now) c.args.out.now c.set_jump.new.self c.put_head_note_unless.new.out
    c.put_guard.new.out c.args.start _ _ c.set_jump.ensures.code c.in_ok-put_head_note_unless.ensures.appended
    (subst (λ f. EmitsGuard f mode.Public 0 (test_of c.args.guard.now) c.put_head_note_unless.new.out
    c.put_guard.new.out) c.at.ensures c.in_ok-put_guard.ensures.emitted)

pub next_place-requires-2 : goal.next_place-requires-2
next_place-requires-2 c =
    let g = (goal.at.next_place-requires-2 c).In_ok-put_guard in
    omega (arith, long g, guard_code-short (at_guard g) (test_of c.args.guard.now), c.requires.room)

pub backward-offset-requires-clause-some : goal.backward-offset-requires-clause-some
backward-offset-requires-clause-some c =
    let g = (goal.at.backward-offset-requires-clause-some c).In_ok-put_guard in
    let some = guard_code-some (at_guard g) mode.Public 0 (test_of c.args.guard.now) in
    omega (arith, long g, some, c.requires.before, c.next_place-2.ensures)

pub backward-offset-requires-clause-few : goal.backward-offset-requires-clause-few
backward-offset-requires-clause-few c =
    let g = (goal.at.backward-offset-requires-clause-few c).In_ok-put_guard in
    let short = guard_code-short (at_guard g) (test_of c.args.guard.now) in
    omega (arith, long g, short, c.requires.room, c.next_place-2.ensures)

pub returns-clause-short : goal.returns-clause-short
returns-clause-short c =
    let g = (goal.at.returns-clause-short c).In_ok-put_guard in
    on_ok_weaker c.put.result
    (closing-short (at_guard g) (test_of c.args.guard.now)
    (length c.args.out.now.code.items) c.put_guard.new.out c.put.new.self _ (long g))
    c.put.ensures.appended

pub returns-clause-words : goal.returns-clause-words
returns-clause-words c = on_ok_weaker c.put.result (λ x. c.in_ok-put_guard.ensures.words) c.put.ensures.appended
