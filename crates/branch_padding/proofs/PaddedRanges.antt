-- The code of statements of secret code, and of a branch on a secret in public code, is in its ranges.
use Rattle.std.proofs.Common.{◌≡◌, ℕ, zero, suc, ◌+◌, ◌-◌, ◌*◌, ◌^◌, ◌<◌, ◌≤◌, pos, List, [], ◌∷◌, ◌++◌, length, length-append, take, drop, Option, Some, None, ap, ◌∙◌, subst, arith}
use Rattle.std.specs.Int.{w32}
use Rattle.std.specs.Prelude.{FitsSigned}
use Rattle.std.proofs.lemmas.Int.{fits_signed_from_abs}
use Rattle.gr_word.specs.declared.operations.Cmp.{Cmp}
use Rattle.gr_word.specs.declared.variables.Label.{Label}
use Rattle.gr_word.specs.declared.variables.Label.TheVariants.{Public, Secret}
use Rattle.lt_isa.specs.declared.instructions.Instr.{Instr}
use Rattle.lt_isa.specs.declared.instructions.Instr.TheVariants.{Nop, Jmp, Br}
use Rattle.src_tree.specs.Prelude.{context_of, label_of_test, max_weight, LowStatement, LowBlock, parts_weight, statement_weight, block_weight, test_weight, Test, Statement, SetVariable, SetElement, Choice, Loop, Block, Nothing, Then, TypedTest, TypedStatement, TypedBlock}
use Rattle.block_cache_gen.specs.declared.frames.Mode.{Mode}
use Rattle.block_cache_gen.specs.Prelude.{Setting, guard_code, pair_count, StatementHasWords, BlockHasWords}
use Rattle.block_cache_gen.proofs.RangesOfCode.{HomesFit, CodeFits, NoCode, Before, code-both, guard-fits, set_variable-fits, set_element-fits}
use Rattle.branch_padding.specs.Prelude.{idle, arm_mode, in_a_row, untaken_arm, taken_arm, first_arm, second_arm, first_of, second_of, region_code, padded_code, padded_codes, slack_of}
use Rattle.branch_padding.specs.declared.cycles.Slack.{Slack}
use Rattle.branch_padding.proofs.Lengths.{statement-short}
use Rattle.block_cache_gen.specs.declared.frames.Mode.TheVariants as modes

-- pieces of code in their ranges
data RowFits (banks : ℕ) : List (List Instr) → Type 0 where
  NoRow : RowFits banks []
  OneMore : (code : List Instr) (rest : List (List Instr)) → CodeFits banks code → RowFits banks rest
      → RowFits banks (code ∷ rest)

module _ (banks : ℕ) where
  row-fits : (codes : List (List Instr)) → RowFits banks codes → CodeFits banks (in_a_row codes)
  row-fits [] NoRow = NoCode
  row-fits (code ∷ rest) (OneMore c r fit more) = code-both banks code (in_a_row rest) fit (row-fits rest more)

  row-take : (k : ℕ) (codes : List (List Instr)) → RowFits banks codes → RowFits banks (take k codes)
  row-take zero codes fit = NoRow
  row-take (suc k) [] NoRow = NoRow
  row-take (suc k) (code ∷ rest) (OneMore c r fit more) = OneMore code (take k rest) fit (row-take k rest more)

  row-drop : (k : ℕ) (codes : List (List Instr)) → RowFits banks codes → RowFits banks (drop k codes)
  row-drop zero codes fit = fit
  row-drop (suc k) [] NoRow = NoRow
  row-drop (suc k) (code ∷ rest) (OneMore c r fit more) = row-drop k rest more

  idle-fits : (n : ℕ) → CodeFits banks (idle n)
  idle-fits zero = NoCode
  idle-fits (suc n) = Before Nop (idle n) tt (idle-fits n)

  offset-fits : (n : ℕ) → n < 2 ^ 31 → FitsSigned w32 (pos n)
  offset-fits n low = fits_signed_from_abs w32 (pos n) low

  arm-fits : (k : ℕ) (whole first second : List (List Instr)) → RowFits banks whole → RowFits banks first
      → RowFits banks second
      → CodeFits banks (in_a_row (take k whole) ++ (in_a_row (drop k first) ++ in_a_row (drop k second)))
  arm-fits k whole first second one two three =
      code-both banks (in_a_row (take k whole)) _ (row-fits (take k whole) (row-take k whole one))
      (code-both banks (in_a_row (drop k first)) (in_a_row (drop k second))
      (row-fits (drop k first) (row-drop k first two)) (row-fits (drop k second) (row-drop k second three)))

  -- both arms, mirrored or idling
  first_arm-fits : (slack : Option Slack) (taken k : ℕ) (second first : List (List Instr)) → RowFits banks second
      → RowFits banks first → CodeFits banks (first_arm slack taken k second first)
  first_arm-fits None taken k second first one two =
      code-both banks (idle (taken - 1)) (untaken_arm k second first) (idle-fits (taken - 1))
      (arm-fits k second first second one two one)
  first_arm-fits (Some w) taken k second first one two =
      code-both banks (in_a_row second) (idle w.untaken) (row-fits second one) (idle-fits w.untaken)

  second_arm-fits : (slack : Option Slack) (taken k : ℕ) (first second : List (List Instr)) → RowFits banks first
      → RowFits banks second → CodeFits banks (second_arm slack taken k first second)
  second_arm-fits None taken k first second one two =
      code-both banks (taken_arm k first second) (idle taken) (arm-fits k first first second one one two)
      (idle-fits taken)
  second_arm-fits (Some w) taken k first second one two =
      code-both banks (in_a_row first) (idle w.taken) (row-fits first one) (idle-fits w.taken)

  region-fits : (cmp : Cmp) (one two : List Instr) → CodeFits banks one → CodeFits banks two
      → length (region_code cmp one two) < 2 ^ 31 → CodeFits banks (region_code cmp one two)
  region-fits cmp one two first second short =
      let jump : List Instr = Jmp (pos (length two + 1)) ∷ two in
      let size : length (one ++ jump) ≡ length one + (length two + 1) = length-append one jump ∙ omega arith in
      Before (Br cmp 0 1 (pos (length one + 2))) (one ++ jump)
      (omega arith, omega arith, offset-fits (length one + 2) (omega arith))
      (code-both banks one jump first
      (Before (Jmp (pos (length two + 1))) two (offset-fits (length two + 1) (omega arith)) second))

  module _ (f : Setting) (few : f.profile.taken ≤ 32) (homes : HomesFit banks f) where
    choice-by : (mode : Mode) (t : Test) (a b : Block) → TypedTest (context_of f.decls) t
        → StatementHasWords (Choice t a b) → LowStatement (Choice t a b)
        → statement_weight (context_of f.decls) Secret (Choice t a b) ≤ max_weight
        → RowFits banks (padded_codes f (arm_mode mode) a) → RowFits banks (padded_codes f modes.Mirrored a)
        → RowFits banks (padded_codes f (arm_mode mode) b) → RowFits banks (padded_codes f modes.Mirrored b)
        → CodeFits banks (padded_code f mode (Choice t a b))
    choice-by mode t a b typed words low light first first_mirrored second second_mirrored =
        let k = pair_count f a b in
        let guard = guard_code f mode 0 t in
        let slack = slack_of f a b in
        let taken = f.profile.taken in
        let before = first_of f mode a b in
        let behind = second_of f mode a b in
        let region = region_code t.cmp before behind in
        let left = low.0.0 in
        let right = low.0.1 in
        let short = statement-short f few (Choice t a b) mode in
        let size = length-append guard region in
        let least : 120 * statement_weight (context_of f.decls) Secret (Choice t a b) ≤ 983040 = omega arith in
        code-both banks guard region
        (guard-fits banks f mode homes 0 t typed words.0.0 words.0.1 (omega arith) (omega arith))
        (region-fits t.cmp before behind
        (first_arm-fits slack taken k (padded_codes f (arm_mode mode) b) (padded_codes f modes.Mirrored a) second
        first_mirrored)
        (second_arm-fits slack taken k (padded_codes f (arm_mode mode) a) (padded_codes f modes.Mirrored b) first
        second_mirrored)
        (omega arith))

    mutual
      -- the code of a statement is in its ranges
      pub padded-fits : (s : Statement) (mode : Mode) → TypedStatement (context_of f.decls) Secret s
          → StatementHasWords s → LowStatement s → statement_weight (context_of f.decls) Secret s ≤ max_weight
          → CodeFits banks (padded_code f mode s)
      padded-fits (SetVariable x e) mode typed words low light =
          set_variable-fits banks f mode homes x typed.0.0 _ e typed.0.1 typed.1.0 words (omega arith)
      padded-fits (SetElement x i e) mode typed words low light =
          let index = low.0 in
          let value = low.1 in
          set_element-fits banks f mode homes x i e typed.0 typed.1.0 words.0 words.1 (omega arith) (omega arith)
      padded-fits (Choice t a b) mode typed words low light =
          let wa : block_weight (context_of f.decls) Secret a ≤ max_weight = omega arith in
          let wb : block_weight (context_of f.decls) Secret b ≤ max_weight = omega arith in
          choice-by mode t a b typed.0 words low light
          (rows-fit a (arm_mode mode) typed.1.0 words.1.0 low.1.0 wa)
          (rows-fit a modes.Mirrored typed.1.0 words.1.0 low.1.0 wa)
          (rows-fit b (arm_mode mode) typed.1.1 words.1.1 low.1.1 wb)
          (rows-fit b modes.Mirrored typed.1.1 words.1.1 low.1.1 wb)
      padded-fits (Loop t a) mode typed words low light = NoCode

      rows-fit : (b : Block) (mode : Mode) → TypedBlock (context_of f.decls) Secret b → BlockHasWords b → LowBlock b
          → block_weight (context_of f.decls) Secret b ≤ max_weight → RowFits banks (padded_codes f mode b)
      rows-fit Nothing mode typed words low light = NoRow
      rows-fit (Then s rest) mode typed words low light =
          let ws : statement_weight (context_of f.decls) Secret s ≤ max_weight = omega arith in
          let wr : block_weight (context_of f.decls) Secret rest ≤ max_weight = omega arith in
          OneMore (padded_code f mode s) (padded_codes f mode rest)
          (padded-fits s mode typed.0 words.0 low.0 ws) (rows-fit rest mode typed.1 words.1 low.1 wr)

    -- a branch on a secret in public code
    pub public_choice-fits : (t : Test) (a b : Block) → label_of_test (context_of f.decls) t ≡ Secret
        → TypedStatement (context_of f.decls) Public (Choice t a b) → StatementHasWords (Choice t a b)
        → LowStatement (Choice t a b) → statement_weight (context_of f.decls) Public (Choice t a b) ≤ max_weight
        → CodeFits banks (padded_code f modes.Public (Choice t a b))
    public_choice-fits t a b secret typed words low light =
        let known = context_of f.decls in
        let weight : statement_weight known Public (Choice t a b) ≡ statement_weight known Secret (Choice t a b) =
        ap (λ (l : Label). 1 + (test_weight t + parts_weight l
        (block_weight known l a + block_weight known l b))) secret in
        let light' : statement_weight known Secret (Choice t a b) ≤ max_weight =
        subst (λ (w : ℕ). w ≤ max_weight) weight light in
        let first : TypedBlock known Secret a = subst (λ (l : Label). TypedBlock known l a) secret typed.1.0 in
        let second : TypedBlock known Secret b = subst (λ (l : Label). TypedBlock known l b) secret typed.1.1 in
        let wa : block_weight known Secret a ≤ max_weight = omega arith in
        let wb : block_weight known Secret b ≤ max_weight = omega arith in
        choice-by modes.Public t a b typed.0 words low light'
        (rows-fit a modes.Real first words.1.0 low.1.0 wa) (rows-fit a modes.Mirrored first words.1.0 low.1.0 wa)
        (rows-fit b modes.Real second words.1.1 low.1.1 wb) (rows-fit b modes.Mirrored second words.1.1 low.1.1 wb)
