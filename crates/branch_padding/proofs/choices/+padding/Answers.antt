use Rattle.std.proofs.lemmas.Result.{on_ok_weaker}
use Rattle.std.proofs.Common.{rules, ◌≡◌, ℕ, ◌+◌, ◌-◌, ◌*◌, ◌≤◌, List, length, refl, sym, ◌∙◌, subst, arith}
use Rattle.lt_isa.specs.Prelude.{most_instructions}
use Rattle.lt_isa.specs.declared.instructions.Instr.{Instr}
use Rattle.lt_isa.specs.declared.instructions.Instr.TheVariants.{Nop}
use Rattle.src_tree.specs.Prelude.{context_of, LowStatement, statement_weight, block_weight, block_of_all, statement_of, test_of, TypedStatement}
use Rattle.block_cache_gen.specs.Prelude.{Appended, no_notes, StatementHasWords}
use Rattle.block_cache_gen.proofs.Emitting.{grows_then, grows_thrice}
use Rattle.branch_padding.specs.Prelude.{idle, padded_code, padded_codes, both_weights, HaveWords, row_between}
use Rattle.branch_padding.proofs.EmittedRegions.{weight-at, choice-appended, first-made, second-made, idling-appended, typed-at, low-at, row-start, row-more, row-room, row-behind, taken-mirrored, untaken-appended, untaken-mirrored, taken-appended_whole}
use Rattle.branch_padding.proofs.RegionLengths.{behind-branch, behind-untaken, parts-fit, guard-behind, idle-behind, one-behind, set-behind, taken-behind}
use Rattle.branch_padding.proofs.GrowingRows.{appended-grows, branch-grows, set-grows, grows-longer, words-none, words-more, words-both, words-all}
use Rattle.branch_padding.proofs.choices.+padding.Goals.{put_choice-In_ok-put_untaken, put_choice-After-set_branch, put_untaken-In_ok-put_idle}
use Rattle.gr_word.specs.declared.variables.Label.TheVariants as label
use Rattle.block_cache_gen.specs.declared.frames.Mode.TheVariants as modes
use Rattle.branch_padding.proofs.choices.+padding.Goals as goal

pub put_choice-next_place-branch-requires : goal.put_choice-next_place-branch-requires
put_choice-next_place-branch-requires t c =
    omega (
      arith,
      c.requires.room,
      guard-behind c.args.emitter.now c.args.mode
          (test_of c.args.guard.now) c.args.out.now c.put_guard.new.out c.in_ok-put_guard.ensures.emitted,
    )

pub put_choice-put_untaken-requires : goal.put_choice-put_untaken-requires
put_choice-put_untaken-requires t c =
    let f = c.args.emitter.now in
    let test = test_of c.args.guard.now in
    let first = block_of_all c.args.first.now in
    let second = block_of_all c.args.second.now in
    let left = behind-branch f c.requires.few c.args.mode test first second c.pair_count.result
    c.in_ok-put_guard.ensures.emitted c.in_ok-put.ensures.appended in (
      search rules,
      (
        parts-fit f c.args.mode c.arm_mode.result test c.args.first.now c.args.second.now c.pair_count.result
            c.pair_count.ensures c.arm_mode.ensures c.requires.few c.requires.typed c.requires.low,
        omega (arith, left, c.requires.room),
      ),
    )

-- this many may still follow the arm that isn't taken
left : (t : ℕ) (c : put_choice-In_ok-put_untaken t)
    → length c.put_untaken.new.out.code.items + 68
    + 120 * both_weights c.args.emitter.now (block_of_all c.args.first.now) (block_of_all c.args.second.now)
    ≤ most_instructions
left t c =
    let behind = behind-untaken c.args.emitter.now c.requires.few c.args.mode (test_of c.args.guard.now)
    (block_of_all c.args.first.now) (block_of_all c.args.second.now) c.pair_count.result c.in_ok-slack.slack
    c.arm_mode.result c.put_untaken.new.out (c.in_ok-slack.ensures {u = tt}) c.in_ok-put_guard.ensures.emitted
    c.in_ok-put.ensures.appended c.in_ok-put_untaken.ensures.emitted in
    omega (arith, behind, c.requires.room)

pub put_choice-next_place-jump-requires : goal.put_choice-next_place-jump-requires
put_choice-next_place-jump-requires t c =
    omega (arith, left t (goal.at.put_choice-next_place-jump-requires t c).In_ok-put_untaken)

pub put_choice-set_branch-requires-clause-room : goal.put_choice-set_branch-requires-clause-room
put_choice-set_branch-requires-clause-room t c =
    omega (
      arith,
      left t (goal.at.put_choice-set_branch-requires-clause-room t c).In_ok-put_untaken,
      one-behind c.put_untaken.new.out c.put-2.new.self Nop c.in_ok-put-2.ensures.appended,
    )

-- the jump after it, and the branch set
one_more : (t : ℕ) (c : put_choice-After-set_branch t)
    → length c.set_branch.new.self.code.items ≡ length c.put_untaken.new.out.code.items + 1
one_more t c =
    set-behind c.put-2.new.self.code.items c.set_branch.new.self.code.items _ _ c.set_branch.ensures.code
    ∙ one-behind c.put_untaken.new.out c.put-2.new.self Nop c.in_ok-put-2.ensures.appended

pub put_choice-put_taken-requires : goal.put_choice-put_taken-requires
put_choice-put_taken-requires t c =
    let at = goal.at.put_choice-put_taken-requires t c in (
      search rules,
      (
        parts-fit c.args.emitter.now c.args.mode c.arm_mode.result (test_of c.args.guard.now) c.args.first.now
            c.args.second.now c.pair_count.result c.pair_count.ensures c.arm_mode.ensures c.requires.few
            c.requires.typed c.requires.low,
        omega (arith, left t at.In_ok-put_untaken, one_more t at.After-set_branch),
      ),
    )

pub put_choice-set_jump-requires-clause-room : goal.put_choice-set_jump-requires-clause-room
put_choice-set_jump-requires-clause-room t c =
    let at = goal.at.put_choice-set_jump-requires-clause-room t c in
    omega (
      arith,
      left t at.In_ok-put_untaken,
      one_more t at.After-set_branch,
      taken-behind c.args.emitter.now c.requires.few c.arm_mode.result (block_of_all c.args.first.now)
          (block_of_all c.args.second.now) c.pair_count.result c.set_branch.new.self c.put_taken.new.out
          c.in_ok-slack.slack (c.in_ok-slack.ensures {u = tt}) c.in_ok-put_taken.ensures.emitted,
    )

pub put_choice-returns : goal.put_choice-returns
put_choice-returns t c =
    let f = c.args.emitter.now in
    let first = block_of_all c.args.first.now in
    let second = block_of_all c.args.second.now in
    record {
      emitted =
          choice-appended f c.args.mode (test_of c.args.guard.now) first second c.next_place-branch.result
          c.next_place-jump.result c.args.out.now c.put_guard.new.out c.put.new.self c.put_untaken.new.out
          c.put-2.new.self
          c.set_branch.new.self c.put_taken.new.out c.set_jump.new.self
          c.next_place-branch.ensures
          c.next_place-jump.ensures c.in_ok-put_guard.ensures.emitted c.in_ok-put.ensures.appended
          (first-made f c.args.mode c.arm_mode.result first second c.in_ok-slack.slack c.pair_count.result
          c.put.new.self c.put_untaken.new.out (c.in_ok-slack.ensures {u = tt}) c.pair_count.ensures c.arm_mode.ensures
          c.in_ok-put_untaken.ensures.emitted)
          c.in_ok-put-2.ensures.appended c.set_branch.ensures.code c.set_branch.ensures.notes
          (second-made f c.args.mode c.arm_mode.result first second c.in_ok-slack.slack c.pair_count.result
          c.set_branch.new.self c.put_taken.new.out (c.in_ok-slack.ensures {u = tt}) c.pair_count.ensures
          c.arm_mode.ensures c.in_ok-put_taken.ensures.emitted)
          c.set_jump.ensures.code c.set_jump.ensures.notes;
      words = (
        c.in_ok-put_guard.ensures.words,
        (c.in_ok-put_taken.ensures.words, c.in_ok-put_untaken.ensures.words),
      );
      grows =
          let to_jump = grows_thrice c.args.out.now c.put_guard.new.out c.put.new.self c.put_untaken.new.out
          c.put_guard.ensures.grows c.put.ensures.grows c.put_untaken.ensures.grows in
          let set_one = branch-grows c.args.out.now c.put_guard.new.out c.put_untaken.new.out c.put-2.new.self
          c.set_branch.new.self c.next_place-branch.result _ c.put_guard.ensures.grows to_jump c.put-2.ensures.grows
          c.next_place-branch.ensures c.set_branch.ensures.code c.set_branch.ensures.notes in
          set-grows c.args.out.now c.put_taken.new.out c.set_jump.new.self c.next_place-jump.result _
          (grows_then c.args.out.now c.set_branch.new.self c.put_taken.new.out set_one c.put_taken.ensures.grows)
          (omega (arith, c.next_place-jump.ensures, grows-longer c.args.out.now c.put_untaken.new.out to_jump))
          c.set_jump.ensures.code c.set_jump.ensures.notes;
    }

pub put_choice-returns-in_err-put_taken-clause-grows : goal.put_choice-returns-in_err-put_taken-clause-grows
put_choice-returns-in_err-put_taken-clause-grows t c =
    let to_jump = grows_thrice c.args.out.now c.put_guard.new.out c.put.new.self c.put_untaken.new.out
    c.put_guard.ensures.grows c.put.ensures.grows c.put_untaken.ensures.grows in
    let set_one = branch-grows c.args.out.now c.put_guard.new.out c.put_untaken.new.out c.put-2.new.self
    c.set_branch.new.self c.next_place-branch.result _ c.put_guard.ensures.grows to_jump c.put-2.ensures.grows
    c.next_place-branch.ensures c.set_branch.ensures.code c.set_branch.ensures.notes in
    grows_then c.args.out.now c.set_branch.new.self c.put_taken.new.out set_one c.put_taken.ensures.grows

pub put_choice-returns-in_err-put-clause-grows : goal.put_choice-returns-in_err-put-clause-grows
put_choice-returns-in_err-put-clause-grows t c =
    grows_then c.args.out.now c.put_guard.new.out c.put.new.self c.put_guard.ensures.grows c.put.ensures.grows

pub put_choice-returns-in_err-put_untaken-clause-grows : goal.put_choice-returns-in_err-put_untaken-clause-grows
put_choice-returns-in_err-put_untaken-clause-grows t c =
    grows_thrice c.args.out.now c.put_guard.new.out c.put.new.self c.put_untaken.new.out c.put_guard.ensures.grows
    c.put.ensures.grows c.put_untaken.ensures.grows

pub put_choice-returns-in_err-put-2-clause-grows : goal.put_choice-returns-in_err-put-2-clause-grows
put_choice-returns-in_err-put-2-clause-grows t c =
    grows_then c.args.out.now c.put_untaken.new.out c.put-2.new.self
    (grows_thrice c.args.out.now c.put_guard.new.out c.put.new.self c.put_untaken.new.out c.put_guard.ensures.grows
    c.put.ensures.grows c.put_untaken.ensures.grows) c.put-2.ensures.grows

pub put_row-loop-i-init : goal.put_row-loop-i-init
put_row-loop-i-init t c = record {
  behind = omega arith;
  made =
      row-start c.args.from (padded_codes c.args.emitter.now c.args.mode (block_of_all c.args.part.now)) c.args.out.now;
  words = words-none c.args.from c.args.part.now;
}

pub put_row-put_padded-requires : goal.put_row-put_padded-requires
put_row-put_padded-requires t c =
    let within : c.loop-i.i + 1 ≤ length c.args.part.now = omega (arith, c.loop-i-test.true, c.requires.within) in (
      let here = weight-at (context_of c.args.emitter.now.decls) c.args.part.now c.loop-i.i c.index-part-i.result
          (omega (arith, within)) in
          let read : statement_weight (context_of c.args.emitter.now.decls) label.Secret
          (statement_of c.index-part-i.result) ≤ block_weight (context_of c.args.emitter.now.decls) label.Secret
          (block_of_all c.args.part.now) =
          subst (λ s.
          statement_weight (context_of c.args.emitter.now.decls) label.Secret (statement_of s) ≤ block_weight
          (context_of c.args.emitter.now.decls) label.Secret (block_of_all c.args.part.now))
          (sym c.index-part-i.is) here in
          first_of (omega (arith, read, c.decreases), search (rules, read)),
      (
        c.requires.arm,
        (
          c.requires.few,
          (
            subst (λ s. TypedStatement (context_of c.args.emitter.now.decls) label.Secret (statement_of s))
                (sym c.index-part-i.is)
                (typed-at (context_of c.args.emitter.now.decls) label.Secret c.args.part.now c.loop-i.i
                c.index-part-i.result
                (omega (arith, within)) c.requires.typed),
            (
              subst (λ s. LowStatement (statement_of s)) (sym c.index-part-i.is)
                  (low-at c.args.part.now c.loop-i.i c.index-part-i.result (omega (arith, within)) c.requires.low),
              subst (λ s. length c.loop-i.out.code.items + 120 * statement_weight
                  (context_of c.args.emitter.now.decls) label.Secret (statement_of s) ≤ most_instructions)
                  (sym c.index-part-i.is)
                  (row-room c.args.emitter.now c.requires.few c.args.mode c.args.part.now c.args.from c.loop-i.i
                  c.index-part-i.result c.args.out.now c.loop-i.out most_instructions
                  c.loop-i.invariant.behind (omega (arith, within)) c.requires.room c.loop-i.invariant.made),
            ),
          ),
        ),
      ),
    )

pub put_row-loop-i-preserved : goal.put_row-loop-i-preserved
put_row-loop-i-preserved t c = record {
  behind = omega (arith, c.loop-i.invariant.behind);
  made =
      row-more c.args.emitter.now c.args.mode c.args.part.now c.args.from c.loop-i.i c.index-part-i.result
      c.args.out.now c.loop-i.out
      c.put_padded.new.out c.loop-i.invariant.behind
      (omega (arith, c.loop-i-test.true, c.requires.within)) c.loop-i.invariant.made
      (subst (λ s. Appended c.loop-i.out c.put_padded.new.out
      (padded_code c.args.emitter.now c.args.mode (statement_of s)) no_notes)
      c.index-part-i.is c.in_ok-put_padded.ensures.emitted);
  words =
      words-more c.args.from c.loop-i.i c.args.part.now c.index-part-i.result
      (omega (arith, c.loop-i-test.true, c.requires.within)) c.loop-i.invariant.words
      (subst (λ s. StatementHasWords (statement_of s)) c.index-part-i.is c.in_ok-put_padded.ensures.words);
}

pub put_row-returns : goal.put_row-returns
put_row-returns t c =
    let end : c.loop-i.i ≡ c.args.to = omega (arith, c.loop-i-test.false, c.loop-i.auto) in
    record {
      emitted =
          subst (λ n. Appended c.args.out.now c.loop-i.out
          (row_between c.args.from n (padded_codes c.args.emitter.now c.args.mode (block_of_all c.args.part.now)))
          no_notes) end c.loop-i.invariant.made;
      words = subst (λ n. HaveWords c.args.from n c.args.part.now) end c.loop-i.invariant.words;
      grows =
          appended-grows c.args.out.now c.loop-i.out
          (row_between c.args.from c.loop-i.i
          (padded_codes c.args.emitter.now c.args.mode (block_of_all c.args.part.now)))
          no_notes c.loop-i.invariant.made;
    }

pub put_taken-put_row-requires-2 : goal.put_taken-put_row-requires-2
put_taken-put_row-requires-2 t c =
    let fit = c.requires.parts in
    let room = c.requires.room in
    let row = row-behind c.args.emitter.now fit.few c.args.p.now.mode c.args.p.now.first.now 0
    (length c.args.p.now.first.now)
    c.args.out.now c.put_row.new.out c.in_ok-put_row.ensures.emitted in (
      search rules,
      (
        fit.second_within,
        (omega arith, (refl, (fit.few, (fit.second_typed, (fit.second_low, omega arith))))),
      ),
    )

pub put_taken-returns-in_err-put_row-2-clause-grows : goal.put_taken-returns-in_err-put_row-2-clause-grows
put_taken-returns-in_err-put_row-2-clause-grows t c =
    grows_then c.args.out.now c.put_row.new.out c.put_row-2.new.out c.put_row.ensures.grows c.put_row-2.ensures.grows

pub put_taken-returns : goal.put_taken-returns
put_taken-returns t c = record {
  emitted =
      on_ok_weaker c.put_idle.result
      (λ x.
      subst (λ (code : List Instr). Appended c.args.out.now c.put_idle.new.out code no_notes)
      (taken-mirrored c.args.p.now.slack c.args.emitter.now.profile.taken c.args.p.now.pairs
      (padded_codes c.args.emitter.now c.args.p.now.mode (block_of_all c.args.p.now.first.now))
      (padded_codes c.args.emitter.now modes.Mirrored (block_of_all c.args.p.now.second.now)) c.in_default.not-Some)
      (taken-appended_whole c.args.emitter.now c.args.p.now.mode c.args.p.now.first.now c.args.p.now.second.now
      c.args.p.now.pairs
      c.args.emitter.now.profile.taken
      (length c.args.p.now.first.now) (length c.args.p.now.second.now) c.args.out.now c.put_row.new.out
      c.put_row-2.new.out
      c.put_idle.new.out refl refl
      c.in_ok-put_row.ensures.emitted c.in_ok-put_row-2.ensures.emitted
      (subst (λ n. Appended c.put_row-2.new.out c.put_idle.new.out (idle n) no_notes) c.taken.ensures.value x)))
      c.put_idle.ensures.appended;
  words =
      on_ok_weaker c.put_idle.result (λ x. words-all c.args.p.now.first.now c.in_ok-put_row.ensures.words)
      c.put_idle.ensures.appended;
  grows =
      grows_then c.args.out.now c.put_row-2.new.out c.put_idle.new.out
      (grows_then c.args.out.now c.put_row.new.out c.put_row-2.new.out c.put_row.ensures.grows
      c.put_row-2.ensures.grows)
      c.put_idle.ensures.grows;
}

-- this many may still follow the idle instructions
left_idle : (t : ℕ) (c : put_untaken-In_ok-put_idle t)
    → length c.put_idle.new.out.code.items
    + 240 * both_weights c.args.emitter.now (block_of_all c.args.p.now.first.now) (block_of_all c.args.p.now.second.now)
    ≤ most_instructions
left_idle t c =
    omega (
      arith,
      c.requires.room,
      c.taken.ensures.most,
      idle-behind c.args.out.now c.put_idle.new.out (c.taken.result - 1) c.in_ok-put_idle.ensures.appended,
    )

pub put_untaken-put_row-requires : goal.put_untaken-put_row-requires
put_untaken-put_row-requires t c =
    let fit = c.requires.parts in
    let idle = left_idle t (goal.at.put_untaken-put_row-requires t c).In_ok-put_idle in (
      search rules,
      (
        omega arith,
        (
          fit.second_within,
          (fit.arm, (fit.few, (fit.second_typed, (fit.second_low, omega arith)))),
        ),
      ),
    )

pub put_untaken-put_row-requires-2 : goal.put_untaken-put_row-requires-2
put_untaken-put_row-requires-2 t c =
    let fit = c.requires.parts in
    let idle = left_idle t (goal.at.put_untaken-put_row-requires-2 t c).In_ok-put_idle in
    let row = row-behind c.args.emitter.now fit.few c.args.p.now.mode c.args.p.now.second.now 0 c.args.p.now.pairs
    c.put_idle.new.out
    c.put_row.new.out c.in_ok-put_row.ensures.emitted in (
      search rules,
      (
        fit.first_within,
        (omega arith, (refl, (fit.few, (fit.first_typed, (fit.first_low, omega arith))))),
      ),
    )

pub put_untaken-put_row-requires-3 : goal.put_untaken-put_row-requires-3
put_untaken-put_row-requires-3 t c =
    let fit = c.requires.parts in
    let idle = left_idle t (goal.at.put_untaken-put_row-requires-3 t c).In_ok-put_idle in
    let row = row-behind c.args.emitter.now fit.few c.args.p.now.mode c.args.p.now.second.now 0 c.args.p.now.pairs
    c.put_idle.new.out
    c.put_row.new.out c.in_ok-put_row.ensures.emitted in
    let mirrored = row-behind c.args.emitter.now fit.few modes.Mirrored c.args.p.now.first.now c.args.p.now.pairs
    (length c.args.p.now.first.now) c.put_row.new.out c.put_row-2.new.out c.in_ok-put_row-2.ensures.emitted in (
      search rules,
      (
        fit.second_within,
        (omega arith, (fit.arm, (fit.few, (fit.second_typed, (fit.second_low, omega arith))))),
      ),
    )

pub put_untaken-returns-in_err-put_row-clause-grows : goal.put_untaken-returns-in_err-put_row-clause-grows
put_untaken-returns-in_err-put_row-clause-grows t c =
    grows_then c.args.out.now c.put_idle.new.out c.put_row.new.out c.put_idle.ensures.grows c.put_row.ensures.grows

pub put_untaken-returns-in_err-put_row-2-clause-grows : goal.put_untaken-returns-in_err-put_row-2-clause-grows
put_untaken-returns-in_err-put_row-2-clause-grows t c =
    grows_thrice c.args.out.now c.put_idle.new.out c.put_row.new.out c.put_row-2.new.out c.put_idle.ensures.grows
    c.put_row.ensures.grows c.put_row-2.ensures.grows

pub put_untaken-returns : goal.put_untaken-returns
put_untaken-returns t c = record {
  emitted =
      on_ok_weaker c.put_row-3.result
      (λ x.
      subst (λ (code : List Instr). Appended c.args.out.now c.put_row-3.new.out code no_notes)
      (untaken-mirrored c.args.p.now.slack c.args.emitter.now.profile.taken c.args.p.now.pairs
      (padded_codes c.args.emitter.now c.args.p.now.mode (block_of_all c.args.p.now.second.now))
      (padded_codes c.args.emitter.now modes.Mirrored (block_of_all c.args.p.now.first.now)) c.in_default.not-Some)
      (untaken-appended c.args.emitter.now c.args.p.now.mode c.args.p.now.first.now c.args.p.now.second.now
      c.args.p.now.pairs
      c.args.emitter.now.profile.taken
      (length c.args.p.now.first.now) (length c.args.p.now.second.now) c.args.out.now c.put_idle.new.out
      c.put_row.new.out
      c.put_row-2.new.out
      c.put_row-3.new.out refl refl
      (subst (λ n. Appended c.args.out.now c.put_idle.new.out (idle (n - 1)) no_notes) c.taken.ensures.value
      c.in_ok-put_idle.ensures.appended)
      c.in_ok-put_row.ensures.emitted c.in_ok-put_row-2.ensures.emitted x))
      c.put_row-3.ensures.emitted;
  words =
      on_ok_weaker c.put_row-3.result
      (λ rest. words-all c.args.p.now.second.now
      (words-both c.args.p.now.pairs (length c.args.p.now.second.now) c.args.p.now.second.now
      c.in_ok-put_row.ensures.words rest))
      c.put_row-3.ensures.words;
  grows =
      grows_then c.args.out.now c.put_row-2.new.out c.put_row-3.new.out
      (grows_then c.args.out.now c.put_row.new.out c.put_row-2.new.out
      (grows_then c.args.out.now c.put_idle.new.out c.put_row.new.out c.put_idle.ensures.grows c.put_row.ensures.grows)
      c.put_row-2.ensures.grows)
      c.put_row-3.ensures.grows;
}

pub put_idling-returns : goal.put_idling-returns
put_idling-returns t c = record {
  emitted =
      on_ok_weaker c.put_idle.result
      (idling-appended c.args.emitter.now c.args.mode c.args.part.now (length c.args.part.now) c.args.cycles
      c.args.out.now c.put_row.new.out c.put_idle.new.out refl c.in_ok-put_row.ensures.emitted)
      c.put_idle.ensures.appended;
  words =
      on_ok_weaker c.put_idle.result (λ x. words-all c.args.part.now c.in_ok-put_row.ensures.words)
      c.put_idle.ensures.appended;
  grows =
      grows_then c.args.out.now c.put_row.new.out c.put_idle.new.out c.put_row.ensures.grows c.put_idle.ensures.grows;
}
