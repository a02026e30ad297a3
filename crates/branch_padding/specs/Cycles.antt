-- Which branches on a secret are quiet, and how many cycles each of their paths idles. With `--fast`, a branch whose
-- arms show no event isn't padded by the other arm's instructions: the shorter path idles, if the difference is small.
-- (GhostRider, ASPLOS 2015: arms are padded so that both show the same events; when they idle is this project's own
-- choice.)
use Rattle.std.specs.Prelude.{ℕ, ◌+◌, ◌-◌, ◌^◌, Bool, true, false, ◌&&◌, nat_lt, nat_le, if◌then◌else◌, List, [], ◌∷◌, Option, Some, None}
use Rattle.lt_isa.specs.declared.profiles.Profile.{Profile}
use Rattle.lt_isa.specs.declared.instructions.Instr.{Instr}
use Rattle.lt_isa.specs.declared.instructions.Instr.TheVariants.{Nop, Halt, Li, Alu, Ldb, Stb, Idb, Ldw, Stw, Jmp, Br}
use Rattle.lt_isa.specs.Costs.{operation_cost}
use Rattle.src_tree.specs.Trees.{Statement, SetVariable, SetElement, Choice, Loop, Block, Nothing, Then}
use Rattle.block_cache_gen.specs.declared.frames.Mode.TheVariants.{Real}
use Rattle.block_cache_gen.specs.Homes.{Setting}
use Rattle.block_cache_gen.specs.Codes.{guard_code, set_code}
use Rattle.branch_padding.specs.declared.cycles.Slack.{Slack}

-- the cycles of an instruction that shows no event in an arm and continues to the next one
abbrev pub quiet_cost : Profile → Instr → Option ℕ
quiet_cost p Nop = Some 1
quiet_cost p (Li rd value) = Some 1
quiet_cost p (Alu op rd ra rb) = Some (operation_cost p op)
quiet_cost p (Ldw rd k ro) = Some p.word
quiet_cost p (Stw rs k ro) = Some p.word
quiet_cost p other = None

-- Two numbers of cycles together. There is none if one is missing or the sum has more than 32 bits.
abbrev pub sum_within : ℕ → ℕ → Option ℕ
sum_within m n = if nat_lt (m + n) (2 ^ 32) then Some (m + n) else None

abbrev pub added : Option ℕ → Option ℕ → Option ℕ
added None n = None
added (Some m) None = None
added (Some m) (Some n) = sum_within m n

-- the cycles of instructions in sequence
abbrev pub quiet_cycles : Profile → List Instr → Option ℕ
quiet_cycles p [] = Some 0
quiet_cycles p (i ∷ code) = added (quiet_cost p i) (quiet_cycles p code)

-- A way idles for at most this many cycles: what this padding may add to the code doesn't depend on the arms.
abbrev pub most_slack : ℕ
most_slack = 50

-- How long each path of a branch idles, by the cycles of its two blocks. The path that isn't taken costs one cycle
-- more: that of the branch.
abbrev pub slack_by : (first second : ℕ) → Option Slack
slack_by first second =
    if nat_le (first - (1 + second)) most_slack && nat_le ((1 + second) - first) most_slack
    then Some (record { untaken = first - (1 + second); taken = (1 + second) - first })
    else None

abbrev pub slack_between : (fast : Bool) → (first second : Option ℕ) → Option Slack
slack_between false first second = None
slack_between true None second = None
slack_between true (Some first) None = None
slack_between true (Some first) (Some second) = slack_by first second

-- the cycles of a quiet region, by those of its first block
abbrev pub region_cycles : (taken : ℕ) → Option Slack → (first : Option ℕ) → Option ℕ
region_cycles taken None first = None
region_cycles taken (Some slack) first = added (Some (taken + slack.taken)) first

-- the cycles of a statement of secret code that shows no event, and of a block of them
abbrev mutual
  pub cycles_of : Setting → Statement → Option ℕ
  cycles_of f (SetVariable x e) = quiet_cycles f.profile (set_code f Real (SetVariable x e))
  cycles_of f (SetElement x i e) = quiet_cycles f.profile (set_code f Real (SetElement x i e))
  cycles_of f (Choice t a b) =
      added (quiet_cycles f.profile (guard_code f Real 0 t))
      (region_cycles f.profile.taken (slack_between f.reduces (cycles_of_all f a) (cycles_of_all f b))
      (cycles_of_all f a))
  cycles_of f (Loop t a) = None

  pub cycles_of_all : Setting → Block → Option ℕ
  cycles_of_all f Nothing = Some 0
  cycles_of_all f (Then s rest) = added (cycles_of f s) (cycles_of_all f rest)

-- how long each path of the branch of two blocks idles, none if it isn't quiet
abbrev pub slack_of : Setting → Block → Block → Option Slack
slack_of f a b = slack_between f.reduces (cycles_of_all f a) (cycles_of_all f b)
