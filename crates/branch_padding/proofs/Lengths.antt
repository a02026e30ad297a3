-- How long the code of statements in secret code is.
use Rattle.std.proofs.Common.{◌≡◌, ℕ, ◌+◌, ◌-◌, ◌*◌, ◌≤◌, pos, List, [], ◌∷◌, ◌++◌, length, take, drop, Option, Some, None, refl, sym, ap, ◌∙◌, subst, arith, append_assoc, length-append}
use Rattle.std.proofs.lemmas.List.{take-append-drop, length-replicate}
use Rattle.gr_word.specs.declared.operations.Cmp.{Cmp}
use Rattle.gr_word.specs.declared.variables.Label.{Label}
use Rattle.lt_isa.specs.declared.instructions.Instr.{Instr}
use Rattle.lt_isa.specs.declared.instructions.Instr.TheVariants.{Nop, Jmp}
use Rattle.src_tree.specs.Prelude.{context_of, label_of_test, tree_weight, test_weight, parts_weight, statement_weight, block_weight, Tree, Test, Statement, SetVariable, SetElement, Choice, Loop, Block, Nothing, Then}
use Rattle.block_cache_gen.specs.declared.frames.Mode.{Mode}
use Rattle.block_cache_gen.specs.Prelude.{Setting, expr_code, guard_code, set_code, pair_count}
use Rattle.block_cache_gen.proofs.Sizes.{expr_code_short, set_code_short}
use Rattle.branch_padding.specs.Prelude.{idle, in_a_row, arm_mode, untaken_arm, taken_arm, first_padded, second_padded, first_arm, second_arm, first_of, second_of, region_code, padded_code, padded_codes, most_slack, cycles_of_all, slack_of}
use Rattle.branch_padding.specs.declared.cycles.Slack.{Slack}
use Rattle.branch_padding.proofs.QuietStatements.{slack-between}
use Rattle.gr_word.specs.declared.variables.Label.TheVariants as label
use Rattle.block_cache_gen.specs.declared.frames.Mode.TheVariants as modes

-- an assignment
variable-short : (f : Setting) (mode : Mode) (x : List ℕ) (e : Tree)
    → length (set_code f mode (SetVariable x e)) ≤ 120 * (1 + tree_weight e)
variable-short f mode x e =
    omega (arith, set_code_short f mode (context_of f.decls) label.Public (SetVariable x e) tt)

element-short : (f : Setting) (mode : Mode) (x : List ℕ) (i e : Tree)
    → length (set_code f mode (SetElement x i e)) ≤ 120 * (1 + (tree_weight i + tree_weight e))
element-short f mode x i e =
    omega (arith, set_code_short f mode (context_of f.decls) label.Public (SetElement x i e) tt)

-- at most 48 instructions a unit of a guard's weight
pub guard-short : (f : Setting) (mode : Mode) (t : Test) → length (guard_code f mode 0 t) ≤ 48 * test_weight t
guard-short f mode t =
    omega (
      arith,
      length-append (expr_code f mode 0 t.left) (expr_code f mode 1 t.right),
      expr_code_short f mode 0 t.left,
      expr_code_short f mode 1 t.right,
    )

-- pieces in a row, and a part of them
pub row-append : (xs ys : List (List Instr)) → in_a_row (xs ++ ys) ≡ in_a_row xs ++ in_a_row ys
row-append [] ys = refl
row-append (x ∷ xs) ys =
    ap (λ (code : List Instr). x ++ code) (row-append xs ys) ∙ sym (append_assoc x (in_a_row xs) (in_a_row ys))

pub row-parts : (k : ℕ) (codes : List (List Instr))
    → length (in_a_row codes) ≡ length (in_a_row (take k codes)) + length (in_a_row (drop k codes))
row-parts k codes =
    ap (λ (all : List (List Instr)). length (in_a_row all)) (sym (take-append-drop k codes))
    ∙ ap length (row-append (take k codes) (drop k codes))
    ∙ length-append (in_a_row (take k codes)) (in_a_row (drop k codes))

-- the arms of a branch
arm-short : (k : ℕ) (whole first second : List (List Instr))
    → length (in_a_row (take k whole) ++ (in_a_row (drop k first) ++ in_a_row (drop k second)))
    ≡ length (in_a_row (take k whole)) + (length (in_a_row (drop k first)) + length (in_a_row (drop k second)))
arm-short k whole first second =
    length-append (in_a_row (take k whole)) (in_a_row (drop k first) ++ in_a_row (drop k second))
    ∙ ap (λ (n : ℕ). length (in_a_row (take k whole)) + n)
    (length-append (in_a_row (drop k first)) (in_a_row (drop k second)))

-- the arm that isn't taken is no longer than both parts
pub untaken-short : (k : ℕ) (second first : List (List Instr))
    → length (untaken_arm k second first) ≤ length (in_a_row second) + length (in_a_row first)
untaken-short k second first =
    omega (arith, arm-short k second first second, row-parts k second, row-parts k first)

-- nor is the one that is
pub taken-short : (k : ℕ) (first second : List (List Instr))
    → length (taken_arm k first second) ≤ length (in_a_row first) + length (in_a_row second)
taken-short k first second = omega (arith, arm-short k first first second, row-parts k first, row-parts k second)

-- the arms padded
pub first-short : (taken : ℕ) (code : List Instr) → length (first_padded taken code) ≤ taken + length code
first-short taken code =
    omega (arith, length-append (idle (taken - 1)) code, length-replicate (taken - 1) Nop)

pub second-short : (taken : ℕ) (code : List Instr) → length (second_padded taken code) ≤ taken + length code
second-short taken code = omega (arith, length-append code (idle taken), length-replicate taken Nop)

-- The arms of a branch, both mirrored or idling, where a taken branch takes no longer than a way may idle.
pub first_arm-short : (slack : Option Slack) (taken k : ℕ) (second first : List (List Instr)) → taken ≤ most_slack
    → ((w : Slack) → slack ≡ Some w → w.untaken ≤ most_slack)
    → length (first_arm slack taken k second first)
    ≤ most_slack + (length (in_a_row second) + length (in_a_row first))
first_arm-short None taken k second first few idles =
    omega (arith, few, first-short taken (untaken_arm k second first), untaken-short k second first)
first_arm-short (Some w) taken k second first few idles =
    omega (
      arith,
      length-append (in_a_row second) (idle w.untaken),
      length-replicate w.untaken Nop,
      idles w refl,
    )

pub second_arm-short : (slack : Option Slack) (taken k : ℕ) (first second : List (List Instr)) → taken ≤ most_slack
    → ((w : Slack) → slack ≡ Some w → w.taken ≤ most_slack)
    → length (second_arm slack taken k first second)
    ≤ most_slack + (length (in_a_row first) + length (in_a_row second))
second_arm-short None taken k first second few idles =
    omega (arith, few, second-short taken (taken_arm k first second), taken-short k first second)
second_arm-short (Some w) taken k first second few idles =
    omega (
      arith,
      length-append (in_a_row first) (idle w.taken),
      length-replicate w.taken Nop,
      idles w refl,
    )

-- a region has two more instructions
region-long : (cmp : Cmp) (first second : List Instr)
    → length (region_code cmp first second) ≡ 2 + (length first + length second)
region-long cmp first second = omega (arith, length-append first (Jmp (pos (length second + 1)) ∷ second))

-- no way of a branch idles long
pub untaken-few : (f : Setting) (a b : Block) (w : Slack) → slack_of f a b ≡ Some w → w.untaken ≤ most_slack
untaken-few f a b w is =
    let slack = slack-between f.reduces (cycles_of_all f a) (cycles_of_all f b) w is in slack.untaken_few

pub taken-few : (f : Setting) (a b : Block) (w : Slack) → slack_of f a b ≡ Some w → w.taken ≤ most_slack
taken-few f a b w is =
    let slack = slack-between f.reduces (cycles_of_all f a) (cycles_of_all f b) w is in slack.taken_few

module _ (f : Setting) (few : f.profile.taken ≤ 32) where
  -- a branch whose parts are short
  choice-short : (mode : Mode) (t : Test) (a b : Block) (one two : ℕ)
      → length (in_a_row (padded_codes f (arm_mode mode) a)) ≤ 120 * one
      → length (in_a_row (padded_codes f modes.Mirrored a)) ≤ 120 * one
      → length (in_a_row (padded_codes f (arm_mode mode) b)) ≤ 120 * two
      → length (in_a_row (padded_codes f modes.Mirrored b)) ≤ 120 * two
      → length (padded_code f mode (Choice t a b)) ≤ 120 * (1 + (test_weight t + ((one + two) + (one + two))))
  choice-short mode t a b one two first first_mirrored second second_mirrored =
      let k = pair_count f a b in
      let slack = slack_of f a b in
      let taken = f.profile.taken in
      let guard = guard_code f mode 0 t in
      let before = first_of f mode a b in
      let behind = second_of f mode a b in
      let small : taken ≤ most_slack = omega arith in
      omega (
        arith,
        length-append guard (region_code t.cmp before behind),
        guard-short f mode t,
        region-long t.cmp before behind,
        first_arm-short slack taken k (padded_codes f (arm_mode mode) b) (padded_codes f modes.Mirrored a) small
            (untaken-few f a b),
        second_arm-short slack taken k (padded_codes f (arm_mode mode) a) (padded_codes f modes.Mirrored b) small
            (taken-few f a b),
        first,
        first_mirrored,
        second,
        second_mirrored,
      )

  mutual
    -- at most 120 instructions for each unit of weight
    pub statement-short : (s : Statement) (mode : Mode)
        → length (padded_code f mode s) ≤ 120 * statement_weight (context_of f.decls) label.Secret s
    statement-short (SetVariable x e) mode = variable-short f mode x e
    statement-short (SetElement x i e) mode = element-short f mode x i e
    statement-short (Choice t a b) mode =
        choice-short mode t a b (block_weight (context_of f.decls) label.Secret a)
        (block_weight (context_of f.decls) label.Secret b) (row-short a (arm_mode mode)) (row-short a modes.Mirrored)
        (row-short b (arm_mode mode)) (row-short b modes.Mirrored)
    statement-short (Loop t a) mode = omega arith

    -- at most 120 instructions a unit of a part's weight
    pub row-short : (b : Block) (mode : Mode)
        → length (in_a_row (padded_codes f mode b)) ≤ 120 * block_weight (context_of f.decls) label.Secret b
    row-short Nothing mode = omega arith
    row-short (Then s rest) mode =
        omega (
          arith,
          length-append (padded_code f mode s) (in_a_row (padded_codes f mode rest)),
          statement-short s mode,
          row-short rest mode,
        )

  -- a branch on a secret in public code
  pub public_choice-short : (t : Test) (a b : Block) → label_of_test (context_of f.decls) t ≡ label.Secret
      → length (padded_code f modes.Public (Choice t a b))
      ≤ 120 * statement_weight (context_of f.decls) label.Public (Choice t a b)
  public_choice-short t a b secret =
      let known = context_of f.decls in
      let weight : statement_weight known label.Secret (Choice t a b)
      ≡ statement_weight known label.Public (Choice t a b) =
      sym (ap (λ (l : Label). 1 + (test_weight t + parts_weight l (block_weight known l a + block_weight known l b)))
      secret) in
      subst (λ (w : ℕ). length (padded_code f modes.Public (Choice t a b)) ≤ 120 * w) weight
      (statement-short (Choice t a b) modes.Public)
