use Rattle.std.proofs.Common.{◌≡◌, ℕ, ◌+◌, ◌*◌, ◌<◌, ◌≤◌, true, length, drop, sym, ap, ◌∙◌, subst, eqb-true, arith}
use Rattle.std.proofs.lemmas.Result.{on_ok_weaker}
use Rattle.gr_word.specs.declared.variables.Label.TheVariants.{Public}
use Rattle.src_tree.specs.Prelude.{context_of, LowBlock, block_weight, statement_weight, block_of_all, statement_of, test_of, Nothing, TypedBlock}
use Rattle.block_cache_gen.specs.Prelude.{no_notes, Setting, ranged, BlockHasWords}
use Rattle.block_cache_gen.proofs.Emitting.{appended_length}
use Rattle.branch_padding.specs.Prelude.{choice_of, within_loop}
use Rattle.code_gen.specs.Prelude.{ClosesChoice, ClosesLoop, EmitsBlock, EmitsStatement, noted_behind, block_ends_noted, ends_noted}
use Rattle.branch_padding.proofs.RegionLengths.{set-behind}
use Rattle.code_gen.proofs.ChoiceLengths.{Leaves, behind-branch, behind-first, behind-head}
use Rattle.code_gen.proofs.EmittedParts.{guard-length, guard_code-short, choice_weight-public, unless-short, noted_behind-none, block-none, block-then, loop-emitted, puts-closed}
use Rattle.code_gen.proofs.EmittedChoices.{block_code-some, block-more, block-past, block-empty, some-items, closes-any, closes-bare, closes-second, choice-emitted}
use Rattle.code_gen.proofs.statements.+statements.Goals.{put_choice-In_ok-noted, put_choice-In_ok-put_head_note, put_loop-In_ok-noted}
use Rattle.code_gen.proofs.statements.+statements.Goals as goal

pub put_block-loop-statement-init : goal.put_block-loop-statement-init
put_block-loop-statement-init t c =
    let f = c.args.emitter.now in
    let begun : c.in_ok-known.known.items ≡ f.ranges = c.in_ok-known.ensures ∙ c.known.ensures in
    record {
      typed = c.requires.typed;
      low = c.requires.low;
      emitted = λ last x.
          subst (λ k. EmitsBlock (ranged f k) (block_of_all c.args.statements.now) c.args.out.now last) begun x;
      words = λ x. x;
      noted = noted_behind-none f.decls (block_of_all c.args.statements.now);
      least = omega arith;
      short = omega arith;
    }

pub put_block-loop-statement-preserved : goal.put_block-loop-statement-preserved
put_block-loop-statement-preserved t c =
    let f = c.args.emitter.now in
    let here = ranged f c.loop-statement.known.items in
    let s = statement_of c.statement-item.result in
    let rest = block_of_all (drop (c.loop-statement.statement-index + 1) c.args.statements.now) in
    let more =
    block-more c.args.statements.now c.loop-statement.statement-index c.statement-item.result c.loop-statement-test.true
    c.statement-item.is in
    let same : c.at.result ≡ here = c.at.ensures ∙ ap (λ k. ranged f k) c.as_slice.ensures.value in
    record {
      typed = (subst (λ b. TypedBlock (context_of f.decls) Public b) more c.loop-statement.invariant.typed).1;
      low = (subst LowBlock more c.loop-statement.invariant.low).1;
      emitted = λ last x.
          c.loop-statement.invariant.emitted last
          (subst (λ b. EmitsBlock here b c.loop-statement.out last) (sym more)
          (block-then here s rest c.loop-statement.out c.put_statement.new.out last
          (subst (λ g. EmitsStatement g s c.loop-statement.out c.put_statement.new.out) same
          c.in_ok-noted.ensures.put.emitted)
          (subst (λ k. EmitsBlock (ranged f k) rest c.put_statement.new.out last) c.learn.ensures x)));
      words = λ x.
          c.loop-statement.invariant.words (subst BlockHasWords (sym more) (c.in_ok-noted.ensures.put.words, x));
      noted =
          ap (λ n. noted_behind f.decls n rest)
          (c.in_ok-noted.ensures.noted ∙ ap (λ (g : Setting). ends_noted g.decls s) same)
          ∙ sym (ap (noted_behind f.decls c.loop-statement.noted) more)
          ∙ c.loop-statement.invariant.noted;
      least =
          omega (arith, ap (λ b. block_weight (context_of f.decls) Public b) more, c.loop-statement.invariant.least);
      short =
          omega (
            arith,
            ap (λ b. block_weight (context_of f.decls) Public b) more,
            ap (λ (g : Setting). statement_weight (context_of g.decls) Public s) same,
            c.in_ok-noted.ensures.put.short,
            c.loop-statement.invariant.short,
          );
    }

pub put_block-returns-clause-emitted : goal.put_block-returns-clause-emitted
put_block-returns-clause-emitted t c =
    let here = ranged c.args.emitter.now c.loop-statement.known.items in
    c.loop-statement.invariant.emitted c.loop-statement.out
    (subst (λ b. EmitsBlock here b c.loop-statement.out c.loop-statement.out)
    (sym (block-past c.args.statements.now c.loop-statement.statement-index c.loop-statement-test.false))
    (block-none here c.loop-statement.out))

pub put_block-returns-clause-words : goal.put_block-returns-clause-words
put_block-returns-clause-words t c =
    c.loop-statement.invariant.words
    (subst BlockHasWords
    (sym (block-past c.args.statements.now c.loop-statement.statement-index c.loop-statement-test.false)) tt)

pub put_choice-next_place-branch-requires : goal.put_choice-next_place-branch-requires
put_choice-next_place-branch-requires t c =
    let f = c.args.emitter.now in
    let test = test_of c.args.guard.now in
    omega (
      arith,
      guard-length f test c.args.out.now c.put_guard.new.out c.in_ok-put_guard.ensures.emitted,
      guard_code-short f test,
      c.requires.fits.room,
    )

-- what the body of a loop is made for
in_body : (t : ℕ) (c : put_loop-In_ok-noted t) → c.at.result
    ≡ within_loop c.args.emitter.now (test_of c.args.guard.now) (block_of_all c.args.body.now)
in_body t c =
    c.at.ensures
    ∙ ap (λ k. ranged c.args.emitter.now k) (c.as_slice.ensures.value ∙ c.in_ok-inner.ensures)

pub put_loop-returns : goal.put_loop-returns
put_loop-returns t c =
    let f = c.args.emitter.now in
    let test = test_of c.args.guard.now in
    let body = block_of_all c.args.body.now in
    let inner = in_body t (goal.at.put_loop-returns t c).In_ok-noted in
    let jump = appended_length c.args.out.now c.put.new.self _ no_notes c.in_ok-put.ensures.appended in
    let head = appended_length c.put.new.self c.put_head_note.new.out _ _ c.in_ok-put_head_note.ensures.appended in
    let weight = ap (λ (g : Setting). block_weight (context_of g.decls) Public body) inner in
    puts-closed f test body c.args.out.now c.put_block.new.out c.close_loop.new.out c.close_loop.result
    (omega (arith, jump, head, weight, c.in_ok-noted.ensures.short)) c.in_ok-noted.ensures.words
    (λ closed.
    loop-emitted f test body c.args.out.now c.put.new.self c.put_head_note.new.out c.put_block.new.out
    c.close_loop.new.out _ c.next_place-start.result c.in_ok-noted.noted c.next_place-start.ensures
    (c.in_ok-noted.ensures.noted ∙ ap (λ (g : Setting). block_ends_noted g.decls body) inner)
    c.in_ok-put.ensures.appended c.in_ok-put_head_note.ensures.appended
    (subst (λ g. EmitsBlock g body c.put_head_note.new.out c.put_block.new.out) inner c.in_ok-noted.ensures.emitted)
    (subst (λ k. ClosesLoop f k test c.next_place-start.result c.in_ok-noted.noted c.put_block.new.out
    c.close_loop.new.out) (c.as_slice-2.ensures.value ∙ c.in_ok-behind.ensures) closed))
    c.close_loop.ensures.closed c.close_loop.ensures.short c.close_loop.ensures.words

pub put_choice-put_block-requires : goal.put_choice-put_block-requires
put_choice-put_block-requires t c =
    let f = c.args.emitter.now in
    let known = context_of f.decls in
    let test = test_of c.args.guard.now in
    let a = block_of_all c.args.first.now in
    let b = block_of_all c.args.second.now in
    let left = behind-branch f test a b c.requires.public c.in_ok-put_guard.ensures.emitted
    c.in_ok-put.ensures.appended in (
      omega (arith, c.decreases, choice_weight-public known test a b c.requires.public),
      (
        subst (λ l. TypedBlock known l a) c.requires.public c.requires.fits.typed.1.0,
        (c.requires.fits.low.1.0, omega (arith, left, c.requires.fits.room)),
      ),
    )

-- this many may still follow the first block
left : (t : ℕ) (c : put_choice-In_ok-noted t)
    → Leaves c.args.emitter.now (test_of c.args.guard.now) (block_of_all c.args.first.now)
    (block_of_all c.args.second.now) c.requires.public c.args.out.now c.put_block.new.out
    (100 + 120 * block_weight (context_of c.args.emitter.now.decls) Public (block_of_all c.args.second.now))
left t c =
    behind-first c.args.emitter.now (test_of c.args.guard.now) (block_of_all c.args.first.now)
    (block_of_all c.args.second.now) c.requires.public c.put_block.new.out c.in_ok-put_guard.ensures.emitted
    c.in_ok-put.ensures.appended c.in_ok-noted.ensures.short

pub put_choice-set_branch_unless-requires-clause-room : goal.put_choice-set_branch_unless-requires-clause-room
put_choice-set_branch_unless-requires-clause-room t c =
    let h = left t (goal.at.put_choice-set_branch_unless-requires-clause-room t c).In_ok-noted in
    omega (arith, h, c.requires.fits.room)

pub put_choice-put_head_note_unless-requires : goal.put_choice-put_head_note_unless-requires
put_choice-put_head_note_unless-requires t c =
    let h = left t (goal.at.put_choice-put_head_note_unless-requires t c).In_ok-noted in
    let set = set-behind c.put_block.new.out.code.items c.set_branch_unless.new.out.code.items _ _
    c.set_branch_unless.ensures.code in
    record { room = omega (arith, h, set, c.requires.fits.room) }

pub put_choice-returns-then-is_empty : goal.put_choice-returns-then-is_empty
put_choice-returns-then-is_empty t c =
    let f = c.args.emitter.now in
    let test = test_of c.args.guard.now in
    let a = block_of_all c.args.first.now in
    let b = block_of_all c.args.second.now in
    let none : b ≡ Nothing =
    block-empty c.args.second.now
    (eqb-true (length c.args.second.now) 0 (sym c.is_empty.ensures ∙ c.if-is_empty.true)) in
    let h = left t (goal.at.put_choice-returns-then-is_empty t c).In_ok-noted in
    let set = set-behind c.put_block.new.out.code.items c.set_branch_unless.new.out.code.items _ _
    c.set_branch_unless.ensures.code in
    on_ok_weaker c.put_head_note_unless.result
    (λ more. record {
      emitted =
          choice-emitted f test a b c.args.out.now c.put_guard.new.out c.put.new.self c.put_block.new.out
          c.put_head_note_unless.new.out _
          c.next_place-branch.result c.in_ok-noted.noted c.requires.public c.in_ok-put_guard.ensures.emitted
          c.in_ok-put.ensures.appended
          c.in_ok-noted.ensures.emitted c.next_place-branch.ensures c.in_ok-noted.ensures.noted
          (subst (λ b. ClosesChoice f test.cmp c.next_place-branch.result c.in_ok-noted.noted b c.put_block.new.out
          c.put_head_note_unless.new.out)
          (sym none)
          (closes-bare f test.cmp c.next_place-branch.result c.in_ok-noted.noted c.put_block.new.out
          c.set_branch_unless.new.out
          c.put_head_note_unless.new.out c.set_branch_unless.ensures.code c.set_branch_unless.ensures.notes more));
      short =
          unless-short f c.in_ok-noted.noted
          (length c.args.out.now.code.items + 120 * statement_weight (context_of f.decls) Public
          (choice_of c.args.guard.now c.args.first.now c.args.second.now))
          c.set_branch_unless.new.out c.put_head_note_unless.new.out (omega (arith, h, set)) more;
      words = (c.in_ok-put_guard.ensures.words, (c.in_ok-noted.ensures.words, subst BlockHasWords (sym none) tt));
    })
    c.put_head_note_unless.ensures.appended

pub put_choice-next_place-jump-requires : goal.put_choice-next_place-jump-requires
put_choice-next_place-jump-requires t c =
    let h = left t (goal.at.put_choice-next_place-jump-requires t c).In_ok-noted in
    omega (arith, h, c.requires.fits.room)

pub put_choice-set_branch_unless-requires-2-clause-room : goal.put_choice-set_branch_unless-requires-2-clause-room
put_choice-set_branch_unless-requires-2-clause-room t c =
    let h = left t (goal.at.put_choice-set_branch_unless-requires-2-clause-room t c).In_ok-noted in
    let jump = appended_length c.put_block.new.out c.put-2.new.self _ no_notes c.in_ok-put-2.ensures.appended in
    omega (arith, h, jump, c.requires.fits.room)

pub put_choice-put_head_note-requires : goal.put_choice-put_head_note-requires
put_choice-put_head_note-requires t c =
    let h = left t (goal.at.put_choice-put_head_note-requires t c).In_ok-noted in
    let jump = appended_length c.put_block.new.out c.put-2.new.self _ no_notes c.in_ok-put-2.ensures.appended in
    let set =
    set-behind c.put-2.new.self.code.items c.set_branch_unless-2.new.out.code.items _ _
    c.set_branch_unless-2.ensures.code in
    record { room = omega (arith, h, jump, set, c.requires.fits.room) }

-- and this many the note of the second
left_second : (t : ℕ) (c : put_choice-In_ok-put_head_note t)
    → Leaves c.args.emitter.now (test_of c.args.guard.now) (block_of_all c.args.first.now)
    (block_of_all c.args.second.now) c.requires.public c.args.out.now c.put_head_note.new.out
    (99 + 120 * block_weight (context_of c.args.emitter.now.decls) Public (block_of_all c.args.second.now))
left_second t c =
    behind-head c.args.emitter.now (test_of c.args.guard.now) (block_of_all c.args.first.now)
    (block_of_all c.args.second.now) c.requires.public c.put_block.new.out c.set_branch_unless-2.new.out _ _
    c.in_ok-put_guard.ensures.emitted c.in_ok-put.ensures.appended c.in_ok-noted.ensures.short
    c.in_ok-put-2.ensures.appended c.set_branch_unless-2.ensures.code c.in_ok-put_head_note.ensures.appended

pub put_choice-put_block-requires-2 : goal.put_choice-put_block-requires-2
put_choice-put_block-requires-2 t c =
    let f = c.args.emitter.now in
    let known = context_of f.decls in
    let test = test_of c.args.guard.now in
    let a = block_of_all c.args.first.now in
    let b = block_of_all c.args.second.now in
    let h = left_second t (goal.at.put_choice-put_block-requires-2 t c).In_ok-put_head_note in (
      omega (arith, c.decreases, choice_weight-public known test a b c.requires.public),
      (
        subst (λ l. TypedBlock known l b) c.requires.public c.requires.fits.typed.1.1,
        (c.requires.fits.low.1.1, omega (arith, h, c.requires.fits.room)),
      ),
    )

pub put_choice-set_jump-requires-clause-room : goal.put_choice-set_jump-requires-clause-room
put_choice-set_jump-requires-clause-room t c =
    let h = left_second t (goal.at.put_choice-set_jump-requires-clause-room t c).In_ok-put_head_note in
    omega (arith, h, c.in_ok-noted_at_end.ensures.short, c.requires.fits.room)

pub put_choice-put_head_note_unless-requires-2 : goal.put_choice-put_head_note_unless-requires-2
put_choice-put_head_note_unless-requires-2 t c =
    let h = left_second t (goal.at.put_choice-put_head_note_unless-requires-2 t c).In_ok-put_head_note in
    let last = set-behind c.put_block-2.new.out.code.items c.set_jump.new.self.code.items _ _ c.set_jump.ensures.code in
    record { room = omega (arith, h, c.in_ok-noted_at_end.ensures.short, last, c.requires.fits.room) }

pub put_choice-returns : goal.put_choice-returns
put_choice-returns t c =
    let f = c.args.emitter.now in
    let test = test_of c.args.guard.now in
    let a = block_of_all c.args.first.now in
    let b = block_of_all c.args.second.now in
    let some : 1 ≤ length c.args.second.now =
    some-items (length c.args.second.now) (sym c.is_empty.ensures ∙ c.if-is_empty.false) in
    let longer = appended_length c.put.new.self c.put_block.new.out _ _ c.in_ok-noted.ensures.emitted in
    let branch : length c.put.new.self.code.items ≡ length c.put_guard.new.out.code.items + 1 =
    appended_length c.put_guard.new.out c.put.new.self _ no_notes c.in_ok-put.ensures.appended in
    let before : c.next_place-branch.result < length c.put_block.new.out.code.items =
    omega (arith, longer, branch, c.next_place-branch.ensures) in
    let code = block_code-some f c.args.second.now some in
    let h = left_second t (goal.at.put_choice-returns t c).In_ok-put_head_note in
    let last = set-behind c.put_block-2.new.out.code.items c.set_jump.new.self.code.items _ _ c.set_jump.ensures.code in
    on_ok_weaker c.put_head_note_unless-2.result
    (λ more. record {
      emitted =
          choice-emitted f test a b c.args.out.now c.put_guard.new.out c.put.new.self c.put_block.new.out
          c.put_head_note_unless-2.new.out _
          c.next_place-branch.result c.in_ok-noted.noted c.requires.public c.in_ok-put_guard.ensures.emitted
          c.in_ok-put.ensures.appended
          c.in_ok-noted.ensures.emitted c.next_place-branch.ensures c.in_ok-noted.ensures.noted
          (closes-any f test.cmp c.next_place-branch.result true c.in_ok-noted.noted b c.put_block.new.out
          c.put_head_note_unless-2.new.out code
          (closes-second f test.cmp c.next_place-branch.result c.next_place-jump.result
          c.in_ok-noted_at_end.noted_at_end b _
          c.put_block.new.out c.put-2.new.self c.set_branch_unless-2.new.out c.put_head_note.new.out
          c.put_block-2.new.out c.set_jump.new.self
          c.put_head_note_unless-2.new.out before c.next_place-jump.ensures c.in_ok-noted_at_end.ensures.noted code
          c.in_ok-put-2.ensures.appended c.set_branch_unless-2.ensures.code c.set_branch_unless-2.ensures.notes
          c.in_ok-put_head_note.ensures.appended
          c.in_ok-noted_at_end.ensures.emitted c.set_jump.ensures.code c.set_jump.ensures.notes more));
      short =
          unless-short f c.in_ok-noted_at_end.noted_at_end
          (length c.args.out.now.code.items + 120 * statement_weight (context_of f.decls) Public
          (choice_of c.args.guard.now c.args.first.now c.args.second.now))
          c.set_jump.new.self c.put_head_note_unless-2.new.out
          (omega (arith, h, c.in_ok-noted_at_end.ensures.short, last)) more;
      words = (
        c.in_ok-put_guard.ensures.words,
        (c.in_ok-noted.ensures.words, c.in_ok-noted_at_end.ensures.words),
      );
    })
    c.put_head_note_unless-2.ensures.appended
