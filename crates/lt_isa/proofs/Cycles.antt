-- Bounds on what instructions cost.
use Rattle.std.proofs.Common.{◌≡◌, ℕ, ◌<◌, ◌≤◌, Bool, true, false, cond, List, [], ◌∷◌, length, get_or, take, max, map, fold, nat_lt, zero, suc, arith}
use Rattle.std.proofs.lemmas.List.{get_or-map, length-map}
use Rattle.gr_word.specs.declared.operations.Op.{Op}
use Rattle.gr_word.specs.declared.operations.Op.TheVariants.{Add, Sub, Mul, Div, Rem, Remu, And, Or, Xor, Shl, Shr}
use Rattle.lt_isa.specs.declared.profiles.Profile.{Profile}
use Rattle.lt_isa.specs.declared.profiles.BankSpec.{BankSpec}
use Rattle.lt_isa.specs.declared.instructions.Instr.{Instr}
use Rattle.lt_isa.specs.declared.instructions.Instr.TheVariants.{Nop, Halt, Li, Alu, Ldb, Stb, Idb, Ldw, Stw, Jmp, Br}
use Rattle.lt_isa.specs.Prelude.{Parts, no_bank, latency_of, blocks_of, IsInRange, ProfileFits, BankFits, cost_of, operation_cost}
use Rattle.gr_base.proofs.EachAfter.{EachAfter-at}

-- each bank of the object is in its ranges
pub bank-fits : (o : Parts) → IsInRange o → (b : ℕ) → b < length o.banks
    → BankFits (take b o.banks) (get_or o.banks b no_bank)
bank-fits o fits b exists = EachAfter-at BankFits [] o.banks fits.banks b no_bank exists

pub latency-least : (o : Parts) → IsInRange o → (b : ℕ) → b < length o.banks → 1 ≤ latency_of o b
latency-least o fits b exists = (bank-fits o fits b exists).latency.0

-- each bank has a block
pub blocks-least : (o : Parts) → IsInRange o → (b : ℕ) → b < length o.banks → 1 ≤ blocks_of o b
blocks-least o fits b exists = (bank-fits o fits b exists).blocks.0

-- no bank has more than 65,536 blocks
pub blocks-most : (o : Parts) → IsInRange o → (b : ℕ) → b < length o.banks → blocks_of o b ≤ 65536
blocks-most o fits b exists = within (nat_lt (length (take b o.banks)) 2) _ (bank-fits o fits b exists).blocks.1
  where
    within : (few : Bool) (n : ℕ) → n ≤ cond few 65536 4096 → n ≤ 65536
    within true n le = le
    within false n le = omega arith

operation_cost-least : (p : Profile) → ProfileFits p → (op : Op) → 1 ≤ operation_cost p op
operation_cost-least p fits Mul = fits.mul.0
operation_cost-least p fits Div = fits.mul.0
operation_cost-least p fits Rem = fits.mul.0
operation_cost-least p fits Remu = fits.mul.0
operation_cost-least p fits other = fits.alu.0

-- an instruction takes at least one cycle
pub cost-least : (o : Parts) → IsInRange o → (i : Instr) (taken : Bool) (bank : ℕ) → bank < length o.banks
    → 1 ≤ cost_of o i taken bank
cost-least o fits (Alu op rd ra rb) taken bank exists = operation_cost-least o.profile fits.profile op
cost-least o fits (Ldb k b r) taken bank exists = latency-least o fits bank exists
cost-least o fits (Stb k) taken bank exists = latency-least o fits bank exists
cost-least o fits (Ldw rd k ro) taken bank exists = fits.profile.word.0
cost-least o fits (Stw rs k ro) taken bank exists = fits.profile.word.0
cost-least o fits (Jmp offset) taken bank exists = fits.profile.taken.0
cost-least o fits (Br cmp ra rb offset) true bank exists = fits.profile.taken.0
cost-least o fits (Br cmp ra rb offset) false bank exists = omega arith
cost-least o fits other taken bank exists = omega arith

-- the greatest of some numbers and a first one is at least the first one
fold_max-start : (a : ℕ) (xs : List ℕ) → a ≤ fold max a xs
fold_max-start a [] = omega arith
fold_max-start a (x ∷ xs) = omega (arith, fold_max-start (max a x) xs)

fold_max-get_or : (a : ℕ) (xs : List ℕ) (k : ℕ) → k < length xs → get_or xs k 0 ≤ fold max a xs
fold_max-get_or a [] k within = absurd (omega arith)
fold_max-get_or a (x ∷ xs) zero within = omega (arith, fold_max-start (max a x) xs)
fold_max-get_or a (x ∷ xs) (suc k) within = fold_max-get_or (max a x) xs k (omega arith)

-- no bank's latency is above the greatest
pub latency-greatest : (o : Parts) (b : ℕ) → b < length o.banks
    → latency_of o b ≤ fold max 0 (map (λ b. b.latency) o.banks)
latency-greatest o b exists =
    let latencies = map (λ (b : BankSpec). b.latency) o.banks in
    let at : get_or latencies b 0 ≡ latency_of o b =
    get_or-map (λ (b : BankSpec). b.latency) o.banks b no_bank 0 exists in
    let within : b < length latencies = simp length-map exists in
    omega (arith, fold_max-get_or 0 latencies b within)
