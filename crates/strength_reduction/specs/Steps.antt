-- Steps: constants and operations over a few registers, which are counted from the register of a value. Register 0 has
-- the value before the first step and the result after the last step. The others are scratch registers. (This project's
-- own notion.)
use Rattle.std.specs.Prelude.{◌≡◌, ℕ, zero, suc, ◌+◌, ◌≤◌, Bool, true, false, ◌&&◌, ◌||◌, ◌==◌, if◌then◌else◌, ℤ, List, [], ◌∷◌, length, All, IsTrue, map}
use Rattle.gr_word.specs.Words.{IsWord, applied}
use Rattle.gr_word.specs.declared.operations.Op.{Op}
use Rattle.lt_isa.specs.Costs.{operation_cost}
use Rattle.lt_isa.specs.declared.profiles.Profile.{Profile}
use Rattle.lt_isa.specs.declared.instructions.Instr.{Instr}
use Rattle.lt_isa.specs.declared.instructions.Instr.TheVariants.{Li, Alu}

-- a register becomes a constant, or the result of an operation on two registers
pub data Step : Type 0 where
  Constant : (to : ℕ) (value : ℤ) → Step
  Compute : (op : Op) (to left right : ℕ) → Step

-- registers, of which one has a new value
abbrev pub replaced : {A : Type 0} → (ℕ → A) → ℕ → A → ℕ → A
replaced registers to value i = if i == to then value else registers i

-- What one step leaves in the registers. Registers may have values of any kind, for example words or labels. The first
-- two arguments say which value a constant has, and which value an operation results in.
abbrev pub left_by_step : {A : Type 0} → (ℤ → A) → (Op → A → A → A) → Step → (ℕ → A) → ℕ → A
left_by_step constant operation (Constant to value) registers = replaced registers to (constant value)
left_by_step constant operation (Compute op to left right) registers =
    replaced registers to (operation op (registers left) (registers right))

-- what steps leave in the registers
abbrev pub left_by : {A : Type 0} → (ℤ → A) → (Op → A → A → A) → List Step → (ℕ → A) → ℕ → A
left_by constant operation [] registers = registers
left_by constant operation (step ∷ steps) registers =
    left_by constant operation steps (left_by_step constant operation step registers)

-- the words that steps leave in the registers
abbrev pub words_after : List Step → (ℕ → ℤ) → ℕ → ℤ
words_after steps words = left_by (λ value. value) applied steps words

-- which registers may be secret after steps: a constant is public, and a result is secret if an operand is
abbrev pub secrets_after : List Step → (ℕ → Bool) → ℕ → Bool
secrets_after steps secret = left_by (λ value. false) (λ op left right. left || right) steps secret

-- each register that steps read is known, or an earlier step has written it
abbrev pub reads_known : (ℕ → Bool) → List Step → Bool
reads_known known [] = true
reads_known known (Constant to value ∷ steps) = reads_known (replaced known to true) steps
reads_known known (Compute op to left right ∷ steps) =
    (known left && known right) && reads_known (replaced known to true) steps

-- a step over registers 0 to 2, with a constant that is a word
abbrev pub StepFits : Step → Type 0
StepFits (Constant to value) = (to ≤ 2) × IsWord value
StepFits (Compute op to left right) = (to ≤ 2) × (left ≤ 2) × (right ≤ 2)

-- an operation that isn't a product, a quotient or a remainder
abbrev pub IsQuick : Step → Type 0
IsQuick (Constant to value) = Unit {0}
IsQuick (Compute op to left right) = (profile : Profile) → operation_cost profile op ≡ profile.alu

-- Steps that do what an operation with a constant does, without a product, a quotient or a remainder. The result may be
-- secret exactly if the value may be, even if the result is the same for every value.
pub record Replaces (op : Op) (number : ℤ) (steps : List Step) : Type 0 where
  pub result : (words : ℕ → ℤ) → IsWord (words 0) → words_after steps words 0 ≡ applied op (words 0) number
  pub label : (secret : ℕ → Bool) → secrets_after steps secret 0 ≡ secret 0
  pub reads : IsTrue (reads_known (λ i. i == 0) steps)
  pub fits : All StepFits steps
  pub quick : All IsQuick steps
  pub few : length steps ≤ 24

-- register i of steps, counted from a register of the machine
abbrev pub numbered : ℕ → ℕ → ℕ
numbered base zero = base
numbered base (suc i) = base + suc i

-- a step as an instruction, where the value is in a register of the machine
abbrev pub instruction_of : ℕ → Step → Instr
instruction_of base (Constant to value) = Li (numbered base to) value
instruction_of base (Compute op to left right) =
    Alu op (numbered base to) (numbered base left) (numbered base right)

-- steps as instructions
abbrev pub code_of : ℕ → List Step → List Instr
code_of base steps = map (instruction_of base) steps
