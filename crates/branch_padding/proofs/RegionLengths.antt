-- How long the code is after each part of a branch on a secret: what the branch may take is enough for the rest. Its
-- parts fit their arms.
use Rattle.std.proofs.Common.{◌≡◌, ℕ, ◌+◌, ◌*◌, ◌≤◌, List, [], ◌∷◌, length, Option, sym, subst, arith, set, Some, None, ap, ◌∙◌, ◌++◌, length-append}
use Rattle.std.proofs.lemmas.List.{length-set, length-replicate}
use Rattle.lt_isa.specs.declared.instructions.Instr.TheVariants.{Nop}
use Rattle.lt_isa.specs.declared.instructions.Instr.{Instr}
use Rattle.src_tree.specs.declared.trees.Stmt.{Stmt}
use Rattle.src_tree.specs.Prelude.{context_of, LowStatement, statement_weight, block_weight, test_weight, Test, Choice, Block, block_of_all, TypedStatement}
use Rattle.block_cache_gen.specs.declared.frames.CodeBuf.{CodeBuf}
use Rattle.block_cache_gen.specs.declared.frames.Mode.{Mode}
use Rattle.block_cache_gen.specs.Prelude.{Setting, pair_count, Appended, EmitsGuard, no_notes, notes_in, guard_code, guard_notes}
use Rattle.block_cache_gen.proofs.Emitting.{appended_length}
use Rattle.branch_padding.specs.Prelude.{PartsFit, both_weights, slack_of, most_slack, cycles_of_all, arm_mode, first_arm, padded_codes, idle, in_a_row, untaken_arm, taken_arm, first_padded, second_padded, second_arm}
use Rattle.branch_padding.specs.declared.cycles.Slack.{Slack}
use Rattle.branch_padding.proofs.EmittedRegions.{arm-arm, pairs-within}
use Rattle.branch_padding.proofs.QuietStatements.{slack-between}
use Rattle.branch_padding.proofs.Lengths.{guard-short, first-short, second-short, untaken-short, taken-short, row-short}
use Rattle.gr_word.specs.declared.variables.Label.TheVariants as label
use Rattle.block_cache_gen.specs.declared.frames.Mode.TheVariants as modes

-- how far the code reaches after each part of a branch
pub guard-behind : (f : Setting) (mode : Mode) (t : Test) (a b : CodeBuf) → EmitsGuard f mode 0 t a b
    → length b.code.items ≤ length a.code.items + 48 * test_weight t
guard-behind f mode t a b x =
    omega (
      arith,
      appended_length a b (guard_code f mode 0 t) (λ place. notes_in mode (guard_notes f 0 place t)) x,
      guard-short f mode t,
    )

-- one instruction more
pub one-behind : (a b : CodeBuf) (i : Instr) → Appended a b (i ∷ []) no_notes
    → length b.code.items ≡ length a.code.items + 1
one-behind a b i x = appended_length a b (i ∷ []) no_notes x

-- this many more instructions
pub idle-behind : (a b : CodeBuf) (n : ℕ) → Appended a b (idle n) no_notes
    → length b.code.items ≡ length a.code.items + n
idle-behind a b n x = omega (arith, appended_length a b (idle n) no_notes x, length-replicate n Nop)

-- with one instruction set the code is as long
pub set-behind : (xs ys : List Instr) (k : ℕ) (i : Instr) → ys ≡ set xs k i → length ys ≡ length xs
set-behind xs ys k i is = ap length is ∙ length-set xs k i

module _ (f : Setting) (few : f.profile.taken ≤ 32) (mode : Mode) (first second : Block) (k : ℕ) (a b : CodeBuf) where
  -- how long the code is after an arm of both parts
  arm-behind : (code : List Instr) (one two : Mode)
      → length code
      ≤ f.profile.taken + (length (in_a_row (padded_codes f one first)) + length (in_a_row (padded_codes f two second)))
      → Appended a b code no_notes → length b.code.items ≤ length a.code.items + 32 + 120 * both_weights f first second
  arm-behind code one two short x =
      omega (
        arith,
        appended_length a b code no_notes x,
        few,
        short,
        row-short f few first one,
        row-short f few second two,
      )

  -- and after an arm of one part that idles
  idling-behind : (mode : Mode) (part : Block) (n : ℕ) → n ≤ most_slack
      → Appended a b (in_a_row (padded_codes f mode part) ++ idle n) no_notes
      → length b.code.items ≤ length a.code.items + 50 + 120 * block_weight (context_of f.decls) label.Secret part
  idling-behind mode part n short x =
      let row = in_a_row (padded_codes f mode part) in
      omega (
        arith,
        appended_length a b (row ++ idle n) no_notes x,
        length-append row (idle n),
        length-replicate n Nop,
        short,
        row-short f few part mode,
      )

  -- the arm that isn't taken
  pub untaken-behind : (slack : Option Slack) → slack ≡ slack_of f first second → Appended a b
      (first_arm slack f.profile.taken k (padded_codes f mode second) (padded_codes f modes.Mirrored first)) no_notes
      → length b.code.items ≤ length a.code.items + 50 + 120 * both_weights f first second
  untaken-behind None is x =
      let arm = untaken_arm k (padded_codes f mode second) (padded_codes f modes.Mirrored first) in
      omega (
        arith,
        arm-behind (first_padded f.profile.taken arm) modes.Mirrored mode
            (omega (
              arith,
              first-short f.profile.taken arm,
              untaken-short k (padded_codes f mode second) (padded_codes f modes.Mirrored first),
            )) x,
      )
  untaken-behind (Some slack) is x =
      let even = slack-between f.reduces (cycles_of_all f first) (cycles_of_all f second) slack (sym is) in
      omega (arith, idling-behind mode second slack.untaken even.untaken_few x)

  -- and the one that is
  pub taken-behind : (slack : Option Slack) → slack ≡ slack_of f first second → Appended a b
      (second_arm slack f.profile.taken k (padded_codes f mode first) (padded_codes f modes.Mirrored second)) no_notes
      → length b.code.items ≤ length a.code.items + 50 + 120 * both_weights f first second
  taken-behind None is x =
      let arm = taken_arm k (padded_codes f mode first) (padded_codes f modes.Mirrored second) in
      omega (
        arith,
        arm-behind (second_padded f.profile.taken arm) mode modes.Mirrored
            (omega (
              arith,
              second-short f.profile.taken arm,
              taken-short k (padded_codes f mode first) (padded_codes f modes.Mirrored second),
            )) x,
      )
  taken-behind (Some slack) is x =
      let even = slack-between f.reduces (cycles_of_all f first) (cycles_of_all f second) slack (sym is) in
      omega (arith, idling-behind mode first slack.taken even.taken_few x)

module _ (f : Setting) (few : f.profile.taken ≤ 32) (mode : Mode) (t : Test) (first second : Block) (k : ℕ) where
  abbrev room : ℕ
  room = 120 * both_weights f first second

  -- this many may still follow what there is now, if the branch began after some code
  abbrev LeavesRoom : CodeBuf → CodeBuf → ℕ → Type 0
  LeavesRoom out now rest =
      length now.code.items + rest
      ≤ length out.code.items + 120 * statement_weight (context_of f.decls) label.Secret (Choice t first second)

  -- the arm that isn't taken was appended, in code of a mode
  abbrev PutsUntaken : Option Slack → Mode → CodeBuf → CodeBuf → Type 0
  PutsUntaken slack arm before after =
      Appended before after
      (first_arm slack f.profile.taken k (padded_codes f arm second) (padded_codes f modes.Mirrored first)) no_notes

  -- the guard and its branch
  pub behind-branch : {out guarded branched : CodeBuf} → EmitsGuard f mode 0 t out guarded
      → Appended guarded branched (Nop ∷ []) no_notes → LeavesRoom out branched (119 + (room + room))
  behind-branch {out = out} {guarded = guarded} {branched = branched} emitted branch =
      omega (arith, guard-behind f mode t out guarded emitted, one-behind guarded branched Nop branch)

  -- the arm that isn't taken, and the jump after it
  pub behind-untaken : {out guarded branched : CodeBuf} (slack : Option Slack) (arm : Mode) (untaken : CodeBuf)
      → slack ≡ slack_of f first second
      → EmitsGuard f mode 0 t out guarded → Appended guarded branched (Nop ∷ []) no_notes
      → PutsUntaken slack arm branched untaken → LeavesRoom out untaken (68 + room)
  behind-untaken {branched = branched} slack arm untaken is emitted branch put =
      omega (
        arith,
        behind-branch emitted branch,
        untaken-behind f few arm first second k branched untaken slack is put,
      )

-- the parts of a branch fit the arms of code of a mode
pub parts-fit : (f : Setting) (mode arm : Mode) (t : Test) (first second : List Stmt) (k : ℕ)
    → k ≡ pair_count f (block_of_all first) (block_of_all second) → arm ≡ arm_mode mode → f.profile.taken ≤ 32
    → TypedStatement (context_of f.decls) label.Secret (Choice t (block_of_all first) (block_of_all second))
    → LowStatement (Choice t (block_of_all first) (block_of_all second)) → PartsFit f arm k first second
parts-fit f mode arm t first second k pairs is few typed low =
    let within = pairs-within f first second in
    record {
      first_within = omega (arith, pairs, within.0);
      second_within = omega (arith, pairs, within.1);
      arm = subst (λ m. arm_mode m ≡ m) (sym is) (arm-arm mode);
      few = few;
      first_typed = typed.1.0;
      second_typed = typed.1.1;
      first_low = low.1.0;
      second_low = low.1.1;
    }
