-- For proofs, and for a function that code_gen builds on: the instructions that are made of a branch on a secret, and
-- of all secret code. One region has two arms that show the same events: the first statements that pair are side by
-- side; of the rest each arm has both parts, its own with its effect and the other mirrored. Idle instructions make up
-- for the cycles of the branch and of the jump. If the branch is quiet, each arm has only its own part, and the shorter
-- path idles. (This project's own padding.)
use Rattle.std.specs.Prelude.{ℕ, ◌+◌, ◌-◌, pos, List, [], ◌∷◌, ◌++◌, length, replicate, take, drop, Option, Some, None}
use Rattle.gr_word.specs.declared.operations.Cmp.{Cmp}
use Rattle.lt_isa.specs.declared.instructions.Instr.{Instr}
use Rattle.lt_isa.specs.declared.instructions.Instr.TheVariants.{Nop, Jmp, Br}
use Rattle.src_tree.specs.Trees.{Statement, SetVariable, SetElement, Choice, Loop, Block, Nothing, Then}
use Rattle.block_cache_gen.specs.declared.frames.Mode.{Mode}
use Rattle.block_cache_gen.specs.declared.frames.Mode.TheVariants.{Public, Real, Mirrored}
use Rattle.block_cache_gen.specs.Homes.{Setting}
use Rattle.block_cache_gen.specs.Codes.{guard_code, set_code}
use Rattle.block_cache_gen.specs.Alike.{pair_count}
use Rattle.branch_padding.specs.declared.cycles.Slack.{Slack}
use Rattle.branch_padding.specs.Cycles.{slack_of}

-- this many idle instructions
abbrev pub idle : ℕ → List Instr
idle cycles = replicate cycles Nop

-- the code of an arm has its effect, except in mirrored code
abbrev pub arm_mode : Mode → Mode
arm_mode Public = Real
arm_mode Real = Real
arm_mode Mirrored = Mirrored

-- pieces of code in sequence
abbrev pub in_a_row : List (List Instr) → List Instr
in_a_row [] = []
in_a_row (code ∷ codes) = code ++ in_a_row codes

-- the arm of the branch that isn't taken, and that of the one that is, of the codes of two parts of which k pair
abbrev pub untaken_arm : ℕ → (second first_mirrored : List (List Instr)) → List Instr
untaken_arm k second first_mirrored =
    in_a_row (take k second) ++ (in_a_row (drop k first_mirrored) ++ in_a_row (drop k second))

abbrev pub taken_arm : ℕ → (first second_mirrored : List (List Instr)) → List Instr
taken_arm k first second_mirrored =
    in_a_row (take k first) ++ (in_a_row (drop k first) ++ in_a_row (drop k second_mirrored))

-- the arms, padded, if a taken branch takes this many cycles
abbrev pub first_padded : ℕ → List Instr → List Instr
first_padded taken untaken = idle (taken - 1) ++ untaken

abbrev pub second_padded : ℕ → List Instr → List Instr
second_padded taken code = code ++ idle taken

-- the arm after the branch and the arm that the branch jumps to, both mirrored, or idling if the branch is quiet
abbrev pub first_arm : Option Slack → (taken k : ℕ) → (second first_mirrored : List (List Instr)) → List Instr
first_arm None taken k second first_mirrored = first_padded taken (untaken_arm k second first_mirrored)
first_arm (Some slack) taken k second first_mirrored = in_a_row second ++ idle slack.untaken

abbrev pub second_arm : Option Slack → (taken k : ℕ) → (first second_mirrored : List (List Instr)) → List Instr
second_arm None taken k first second_mirrored = second_padded taken (taken_arm k first second_mirrored)
second_arm (Some slack) taken k first second_mirrored = in_a_row first ++ idle slack.taken

-- the region of a branch past the first arm; the jump after it jumps past the second
abbrev pub region_code : Cmp → (first second : List Instr) → List Instr
region_code cmp first second =
    Br cmp 0 1 (pos (length first + 2)) ∷ (first ++ (Jmp (pos (length second + 1)) ∷ second))

-- the code of a statement, and of each statement of a block; the guard of a branch on a secret in public code is public
-- code
abbrev mutual
  pub padded_code : Setting → Mode → Statement → List Instr
  padded_code f mode (SetVariable x e) = set_code f mode (SetVariable x e)
  padded_code f mode (SetElement x i e) = set_code f mode (SetElement x i e)
  padded_code f mode (Choice t a b) =
      guard_code f mode 0 t
      ++ region_code t.cmp
      (first_arm (slack_of f a b) f.profile.taken (pair_count f a b) (padded_codes f (arm_mode mode) b)
      (padded_codes f Mirrored a))
      (second_arm (slack_of f a b) f.profile.taken (pair_count f a b) (padded_codes f (arm_mode mode) a)
      (padded_codes f Mirrored b))
  padded_code f mode (Loop t a) = []

  pub padded_codes : Setting → Mode → Block → List (List Instr)
  padded_codes f mode Nothing = []
  padded_codes f mode (Then s rest) = padded_code f mode s ∷ padded_codes f mode rest

-- the two arms of the branch of two blocks
abbrev pub first_of : Setting → Mode → Block → Block → List Instr
first_of f mode a b =
    first_arm (slack_of f a b) f.profile.taken (pair_count f a b) (padded_codes f (arm_mode mode) b)
    (padded_codes f Mirrored a)

abbrev pub second_of : Setting → Mode → Block → Block → List Instr
second_of f mode a b =
    second_arm (slack_of f a b) f.profile.taken (pair_count f a b) (padded_codes f (arm_mode mode) a)
    (padded_codes f Mirrored b)
