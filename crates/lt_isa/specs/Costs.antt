-- What instructions cost, in cycles.
use Rattle.std.specs.Prelude.{ℕ, ◌+◌, Bool, true, if◌then◌else◌, max, fold, map}
use Rattle.gr_word.specs.declared.operations.Op.{Op}
use Rattle.gr_word.specs.declared.operations.Op.TheVariants.{Add, Sub, Mul, Div, Rem, Remu, And, Or, Xor, Shl, Shr}
use Rattle.lt_isa.specs.declared.profiles.Profile.{Profile}
use Rattle.lt_isa.specs.declared.instructions.Instr.{Instr}
use Rattle.lt_isa.specs.declared.instructions.Instr.TheVariants.{Nop, Halt, Li, Alu, Ldb, Stb, Idb, Ldw, Stw, Jmp, Br}
use Rattle.lt_isa.specs.Object.{Parts, latency_of}
use Rattle.lt_isa.specs.Windows.{most_wait}

-- a product, a quotient and a remainder cost mul; every other operation costs alu
-- Rules: profile/alu, profile/mul.
abbrev pub operation_cost : Profile → Op → ℕ
operation_cost p Mul = p.mul
operation_cost p Div = p.mul
operation_cost p Rem = p.mul
operation_cost p Remu = p.mul
operation_cost p other = p.alu

-- What an instruction costs. Whether it was taken matters only for a branch; the bank that is accessed matters only for
-- loads and stores of a block.
-- Rules: profile/word, profile/taken.
abbrev pub cost_of : Parts → Instr → Bool → ℕ → ℕ
cost_of o (Alu op rd ra rb) taken bank = operation_cost o.profile op
cost_of o (Ldb k b r) taken bank = latency_of o bank
cost_of o (Stb k) taken bank = latency_of o bank
cost_of o (Ldw rd k ro) taken bank = o.profile.word
cost_of o (Stw rs k ro) taken bank = o.profile.word
cost_of o (Jmp offset) taken bank = o.profile.taken
cost_of o (Br cmp ra rb offset) taken bank = if taken then o.profile.taken else 1
cost_of o other taken bank = 1

-- the most that an instruction costs, wherever and whenever it runs: a load or a store of a block may also wait
abbrev pub greatest_cost : Parts → Instr → ℕ
greatest_cost o Nop = cost_of o Nop true 0
greatest_cost o Halt = cost_of o Halt true 0
greatest_cost o (Li rd value) = cost_of o (Li rd value) true 0
greatest_cost o (Alu op rd ra rb) = cost_of o (Alu op rd ra rb) true 0
greatest_cost o (Ldb k b r) = latency_of o b + most_wait o.profile
greatest_cost o (Stb k) = fold max 0 (map (λ b. b.latency) o.banks) + most_wait o.profile
greatest_cost o (Idb rd k) = cost_of o (Idb rd k) true 0
greatest_cost o (Ldw rd k ro) = cost_of o (Ldw rd k ro) true 0
greatest_cost o (Stw rs k ro) = cost_of o (Stw rs k ro) true 0
greatest_cost o (Jmp offset) = cost_of o (Jmp offset) true 0
greatest_cost o (Br cmp ra rb offset) = cost_of o (Br cmp ra rb offset) true 0
