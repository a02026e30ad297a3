-- Each variable is stored in a zone of its bank: within a zone the places rise with the declarations, and the zones of a
-- bank don't overlap.
use Rattle.std.proofs.Common.{◌≡◌, ℕ, zero, suc, ◌+◌, ◌*◌, ◌-◌, ◌≤◌, Bool, cond, List, ◌++◌, length, refl, ap, ◌∙◌, arith, length-append}
use Rattle.std.specs.Prelude.{min, count_by}
use Rattle.std.proofs.Math.Nat.{mul-le-mul_left}
use Rattle.std.proofs.lemmas.List.Sums.{sum_by-append}
use Rattle.bank_alloc.specs.declared.classes.Class.{Class}
use Rattle.bank_alloc.specs.declared.classes.Class.TheVariants.{PublicScalar, SecretScalar, PublicArray, EncryptedArray, ObliviousArray}
use Rattle.bank_alloc.specs.Prelude.{blocks_for}
use Rattle.resident_alloc.specs.declared.wants.Want.{Want}
use Rattle.resident_alloc.specs.Prelude.{is_of, room_after, room_beside, room_for, left_out, unshared, is_short, short_among, blocks_of_all, own_most, own_secret, without_short, in_oblivious_banks, blocks_in_turn, resident_blocks}
use Rattle.resident_alloc.proofs.Rooms.{room_after-append, room_after-le, left_out-append, without_short-append, blocks_in_turn-append}

-- where a zone begins. Bank 0 has zones of shared arrays, of scalars and of whole blocks; bank 1 of shared arrays with a
-- secret index, of other shared ones, of scalars, of slots' own blocks and of other whole blocks; each other bank has one.
abbrev pub base : (size : ℕ) (all : List Want) (bank zone : ℕ) → ℕ
base size all zero zero = 0
base size all zero (suc zero) = room_beside size all PublicScalar
base size all zero (suc (suc zero)) = size
base size all zero (suc (suc (suc n))) = size * resident_blocks size all 0
base size all (suc zero) zero = 0
base size all (suc zero) (suc zero) = room_beside size all SecretScalar - room_for size all EncryptedArray
base size all (suc zero) (suc (suc zero)) = room_beside size all SecretScalar
base size all (suc zero) (suc (suc (suc zero))) = size
base size all (suc zero) (suc (suc (suc (suc zero)))) = size * (1 + own_secret size all)
base size all (suc zero) (suc (suc (suc (suc (suc n))))) = size * resident_blocks size all 1
base size all (suc (suc turn)) zero = 0
base size all (suc (suc turn)) (suc n) = size * blocks_in_turn size turn 0 (in_oblivious_banks size all all)

-- the words of a zone that some variables take
abbrev pub used : (size : ℕ) (all : List Want) (bank zone : ℕ) → List Want → ℕ
used size all zero zero vs =
    room_beside size all PublicScalar - room_after PublicArray (room_beside size all PublicScalar) vs
used size all zero (suc zero) vs = count_by (is_of PublicScalar) vs
used size all zero (suc (suc zero)) vs = size * blocks_of_all size (unshared size all PublicArray vs)
used size all zero (suc (suc (suc n))) vs = 0
used size all (suc zero) zero vs =
    room_beside size all SecretScalar - room_after ObliviousArray (room_beside size all SecretScalar) vs
used size all (suc zero) (suc zero) vs =
    room_for size all EncryptedArray - room_after EncryptedArray (room_for size all EncryptedArray) vs
used size all (suc zero) (suc (suc zero)) vs = count_by (is_of SecretScalar) vs
used size all (suc zero) (suc (suc (suc zero))) vs =
    size * min (own_most size all ObliviousArray) (short_among size (unshared size all ObliviousArray vs))
used size all (suc zero) (suc (suc (suc (suc zero)))) vs =
    size * blocks_of_all size (unshared size all EncryptedArray vs)
used size all (suc zero) (suc (suc (suc (suc (suc n))))) vs = 0
used size all (suc (suc turn)) zero vs = size * blocks_in_turn size turn 0 (in_oblivious_banks size all vs)
used size all (suc (suc turn)) (suc n) vs = 0

-- further variables take no fewer words

pub counts_rise : {X : Type 0} (f : X → Bool) (xs ys : List X) → count_by f xs ≤ count_by f (xs ++ ys)
counts_rise f xs ys = omega (arith, sum_by-append (λ x. cond (f x) 1 0) xs ys)

room_falls : (c : Class) (room : ℕ) (xs ys : List Want) → room_after c room (xs ++ ys) ≤ room_after c room xs
room_falls c room xs ys =
    omega (arith, room_after-append c room xs ys, room_after-le c (room_after c room xs) ys)

blocks_rise : (size room : ℕ) (c : Class) (xs ys : List Want)
    → blocks_of_all size (left_out c room xs) ≤ blocks_of_all size (left_out c room (xs ++ ys))
blocks_rise size room c xs ys =
    let more = left_out c (room_after c room xs) ys in
    let whole = ap (blocks_of_all size) (left_out-append c room xs ys) in
    let sum = sum_by-append (λ v. blocks_for size v.words) (left_out c room xs) more in
    omega (arith, whole, sum)

pub short_rise : (size room : ℕ) (c : Class) (xs ys : List Want)
    → short_among size (left_out c room xs) ≤ short_among size (left_out c room (xs ++ ys))
short_rise size room c xs ys =
    let more = left_out c (room_after c room xs) ys in
    let whole = ap (short_among size) (left_out-append c room xs ys) in
    let sum = sum_by-append (λ v. cond (is_short size v) 1 0) (left_out c room xs) more in
    omega (arith, whole, sum)

turns_rise : (size turn n room : ℕ) (c : Class) (xs ys : List Want)
    → blocks_in_turn size turn 0 (without_short size n (left_out c room xs))
    ≤ blocks_in_turn size turn 0 (without_short size n (left_out c room (xs ++ ys)))
turns_rise size turn n room c xs ys =
    let front = left_out c room xs in
    let more = left_out c (room_after c room xs) ys in
    let rest = n - short_among size front in
    let whole = ap (λ l. blocks_in_turn size turn 0 (without_short size n l)) (left_out-append c room xs ys) in
    let parts = ap (blocks_in_turn size turn 0) (without_short-append size n rest front more refl) in
    let sum = blocks_in_turn-append size turn 0 (without_short size n front) (without_short size rest more) in
    omega (arith, whole, parts, sum)

pub in_banks_rise : (size : ℕ) (all xs ys : List Want)
    → length (in_oblivious_banks size all xs) ≤ length (in_oblivious_banks size all (xs ++ ys))
in_banks_rise size all xs ys =
    let room = room_for size all ObliviousArray in
    let n = own_most size all ObliviousArray in
    let front = left_out ObliviousArray room xs in
    let more = left_out ObliviousArray (room_after ObliviousArray room xs) ys in
    let rest = n - short_among size front in
    let whole = ap (λ l. length (without_short size n l)) (left_out-append ObliviousArray room xs ys) in
    let parts = ap (λ (l : List Want). length l) (without_short-append size n rest front more refl) in
    let sum = length-append (without_short size n front) (without_short size rest more) in
    omega (arith, whole, parts, sum)

pub used_rise : (size : ℕ) (all : List Want) (bank zone : ℕ) (xs ys : List Want)
    → used size all bank zone xs ≤ used size all bank zone (xs ++ ys)
used_rise size all zero zero xs ys = omega (arith, room_falls PublicArray (room_beside size all PublicScalar) xs ys)
used_rise size all zero (suc zero) xs ys = counts_rise (is_of PublicScalar) xs ys
used_rise size all zero (suc (suc zero)) xs ys =
    mul-le-mul_left size (blocks_rise size (room_for size all PublicArray) PublicArray xs ys)
used_rise size all zero (suc (suc (suc n))) xs ys = omega arith
used_rise size all (suc zero) zero xs ys =
    omega (arith, room_falls ObliviousArray (room_beside size all SecretScalar) xs ys)
used_rise size all (suc zero) (suc zero) xs ys =
    omega (arith, room_falls EncryptedArray (room_for size all EncryptedArray) xs ys)
used_rise size all (suc zero) (suc (suc zero)) xs ys = counts_rise (is_of SecretScalar) xs ys
used_rise size all (suc zero) (suc (suc (suc zero))) xs ys =
    let more = short_rise size (room_for size all ObliviousArray) ObliviousArray xs ys in
    mul-le-mul_left size (omega (arith, more))
used_rise size all (suc zero) (suc (suc (suc (suc zero)))) xs ys =
    mul-le-mul_left size (blocks_rise size (room_for size all EncryptedArray) EncryptedArray xs ys)
used_rise size all (suc zero) (suc (suc (suc (suc (suc n))))) xs ys = omega arith
used_rise size all (suc (suc turn)) zero xs ys =
    mul-le-mul_left size (turns_rise size turn (own_most size all ObliviousArray) (room_for size all ObliviousArray)
    ObliviousArray xs ys)
used_rise size all (suc (suc turn)) (suc n) xs ys = omega arith

-- the scalars of each label fit into a block
pub record ScalarsFitBlock (size : ℕ) (all : List Want) : Type 0 where
  pub public : count_by (is_of PublicScalar) all ≤ size
  pub secret : count_by (is_of SecretScalar) all ≤ size

-- a zone ends where the next begins, or before
pub zones_apart : (size : ℕ) (all : List Want) → ScalarsFitBlock size all → (bank zone : ℕ)
    → base size all bank zone + used size all bank zone all ≤ base size all bank (suc zone)
zones_apart size all fit zero zero = omega arith
zones_apart size all fit zero (suc zero) = omega (arith, fit.public)
zones_apart size all fit zero (suc (suc zero)) = omega arith
zones_apart size all fit zero (suc (suc (suc n))) = omega arith
zones_apart size all fit (suc zero) zero = omega arith
zones_apart size all fit (suc zero) (suc zero) =
    omega (arith, room_after-le ObliviousArray (room_beside size all SecretScalar) all)
zones_apart size all fit (suc zero) (suc (suc zero)) = omega (arith, fit.secret)
zones_apart size all fit (suc zero) (suc (suc (suc zero))) = omega arith
zones_apart size all fit (suc zero) (suc (suc (suc (suc zero)))) = omega arith
zones_apart size all fit (suc zero) (suc (suc (suc (suc (suc n))))) = omega arith
zones_apart size all fit (suc (suc turn)) zero = omega arith
zones_apart size all fit (suc (suc turn)) (suc n) = omega arith

-- later zones begin later
pub base_rises : (size : ℕ) (all : List Want) → ScalarsFitBlock size all → (bank zone more : ℕ)
    → base size all bank zone ≤ base size all bank (zone + more)
base_rises size all fit bank zone zero =
    let same : zone ≡ zone + 0 = omega arith in let here = ap (base size all bank) same in omega (arith, here)
base_rises size all fit bank zone (suc more) =
    let same : suc (zone + more) ≡ zone + suc more = omega arith in
    let here = ap (base size all bank) same in
    let before = base_rises size all fit bank zone more in
    let step = zones_apart size all fit bank (zone + more) in
    omega (arith, here, before, step)

-- every zone is within the bank
last_zone : (size : ℕ) (all : List Want) (bank zone : ℕ) → base size all bank (zone + 5) ≡ size * resident_blocks size all bank
last_zone size all zero zone =
    let same : zone + 5 ≡ suc (suc (suc (zone + 2))) = omega arith in ap (base size all 0) same
last_zone size all (suc zero) zone =
    let same : zone + 5 ≡ suc (suc (suc (suc (suc zone)))) = omega arith in ap (base size all 1) same
last_zone size all (suc (suc turn)) zone =
    let same : zone + 5 ≡ suc (zone + 4) = omega arith in
    let bank : turn ≡ suc (suc turn) - 2 = omega arith in
    ap (base size all (suc (suc turn))) same
    ∙ ap (λ t. size * blocks_in_turn size t 0 (in_oblivious_banks size all all)) bank

pub base_within : (size : ℕ) (all : List Want) → ScalarsFitBlock size all → (bank zone : ℕ)
    → base size all bank zone ≤ size * resident_blocks size all bank
base_within size all fit bank zone =
    omega (arith, base_rises size all fit bank zone 5, last_zone size all bank zone)
