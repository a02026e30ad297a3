-- How each variable is stored, by cases, and in which zone.
use Rattle.std.proofs.Common.{◌≡◌, ℕ, suc, ◌+◌, ◌*◌, ◌-◌, ◌<◌, ◌≤◌, ◌%◌, Bool, true, false, cond, List, [], ◌∷◌, ◌++◌, length, refl, ap, ◌∙◌, arith}
use Rattle.std.specs.Prelude.{nat_le, nat_lt, min}
use Rattle.std.proofs.lemmas.Bool.{leb-true, le-leb, ltb-true, eq-eqb, and_parts}
use Rattle.std.proofs.lemmas.List.Sums.{sum_by_push}
use Rattle.bank_alloc.specs.declared.classes.Class.{Class}
use Rattle.bank_alloc.specs.declared.classes.Class.TheVariants.{PublicScalar, SecretScalar, PublicArray, EncryptedArray, ObliviousArray}
use Rattle.bank_alloc.specs.declared.places.Place.{Place}
use Rattle.bank_alloc.specs.Prelude.{start_of_place, end_of_place, blocks_for}
use Rattle.bank_alloc.proofs.EachPlace.{blocks_for-hold}
use Rattle.resident_alloc.specs.declared.storages.Storage.{Storage}
use Rattle.resident_alloc.specs.declared.storages.Storage.TheVariants.{Scalar, Shared, Own, Cached, Oblivious}
use Rattle.resident_alloc.specs.declared.wants.Want.{Want}
use Rattle.resident_alloc.specs.Prelude.{is_of, room_after, room_beside, room_for, unshared, is_short, short_among, blocks_of_all, own_most, is_own, storage_of, without_short, in_oblivious_banks, blocks_in_turn, place_by}
use Rattle.resident_alloc.proofs.Rooms.{room_after-le, room_after_push, left_out_push, without_short_push, blocks_in_turn-append}
use Rattle.resident_alloc.proofs.Zones.{base, used}

abbrev pub want : Class → ℕ → Want
want c n = record { class = c; words = n }

-- whether an array of a class and n words finds room beside the scalars, after those declared before it
abbrev pub has_room : ℕ → List Want → List Want → ℕ → Class → Bool
has_room size all before n c = nat_le n (room_after c (room_for size all c) before)

abbrev pub short_before : ℕ → List Want → List Want → Class → ℕ
short_before size all before c = short_among size (unshared size all c before)

-- how a variable of a class and of n words is stored, if others are declared before it
pub data IsStored (size : ℕ) (all before : List Want) (n : ℕ) : Class → Storage → Type 0 where
  ScalarOfPublic : IsStored size all before n PublicScalar Scalar
  ScalarOfSecret : IsStored size all before n SecretScalar Scalar
  SharesPublic : has_room size all before n PublicArray ≡ true → IsStored size all before n PublicArray Shared
  SharesEncrypted : has_room size all before n EncryptedArray ≡ true → IsStored size all before n EncryptedArray Shared
  SharesOblivious : has_room size all before n ObliviousArray ≡ true → IsStored size all before n ObliviousArray Shared
  OwnsPublic : has_room size all before n PublicArray ≡ false → n ≤ size
      → short_before size all before PublicArray < own_most size all PublicArray → IsStored size all before n PublicArray Own
  OwnsEncrypted : has_room size all before n EncryptedArray ≡ false → n ≤ size
      → short_before size all before EncryptedArray < own_most size all EncryptedArray
      → IsStored size all before n EncryptedArray Own
  OwnsOblivious : has_room size all before n ObliviousArray ≡ false → n ≤ size
      → short_before size all before ObliviousArray < own_most size all ObliviousArray
      → IsStored size all before n ObliviousArray Own
  CachesPublic : has_room size all before n PublicArray ≡ false → IsStored size all before n PublicArray Cached
  CachesEncrypted : has_room size all before n EncryptedArray ≡ false → IsStored size all before n EncryptedArray Cached
  InObliviousBank : has_room size all before n ObliviousArray ≡ false
      → is_own size all before (want ObliviousArray n) ≡ false → IsStored size all before n ObliviousArray Oblivious

-- by the two tests of an array
by_tests : (P : Storage → Type 0) (other : Storage) (shared own : Bool) → (shared ≡ true → P Shared)
    → (shared ≡ false → own ≡ true → P Own) → (shared ≡ false → own ≡ false → P other)
    → P (cond shared Shared (cond own Own other))
by_tests P other true own first second third = first refl
by_tests P other false true first second third = second refl refl
by_tests P other false false first second third = third refl refl

own_parts : (size : ℕ) (all before : List Want) (n : ℕ) (c : Class) → is_own size all before (want c n) ≡ true
    → (n ≤ size) × (short_before size all before c < own_most size all c)
own_parts size all before n c own =
    let parts = and_parts (nat_le n size) (nat_lt (short_before size all before c) (own_most size all c)) own in
    (leb-true n size parts.0, ltb-true (short_before size all before c) (own_most size all c) parts.1)

-- each variable is stored in one of these ways
pub stored : (size : ℕ) (all before : List Want) (c : Class) (n : ℕ)
    → IsStored size all before n c (storage_of size all before (want c n))
stored size all before PublicScalar n = ScalarOfPublic
stored size all before SecretScalar n = ScalarOfSecret
stored size all before PublicArray n =
    by_tests (IsStored size all before n PublicArray) Cached (has_room size all before n PublicArray)
    (is_own size all before (want PublicArray n)) (λ room. SharesPublic room)
    (λ long own. let parts = own_parts size all before n PublicArray own in OwnsPublic long parts.0 parts.1)
    (λ long other. CachesPublic long)
stored size all before EncryptedArray n =
    by_tests (IsStored size all before n EncryptedArray) Cached (has_room size all before n EncryptedArray)
    (is_own size all before (want EncryptedArray n)) (λ room. SharesEncrypted room)
    (λ long own. let parts = own_parts size all before n EncryptedArray own in OwnsEncrypted long parts.0 parts.1)
    (λ long other. CachesEncrypted long)
stored size all before ObliviousArray n =
    by_tests (IsStored size all before n ObliviousArray) Oblivious (has_room size all before n ObliviousArray)
    (is_own size all before (want ObliviousArray n)) (λ room. SharesOblivious room)
    (λ long own. let parts = own_parts size all before n ObliviousArray own in OwnsOblivious long parts.0 parts.1)
    (λ long other. InObliviousBank long other)

-- a variable at a place is in a zone of its bank, after the variables that are declared before it
pub record LiesIn (size : ℕ) (all before : List Want) (v : Want) (q : Place) : Type 0 where
  pub zone : ℕ
  pub start : base size all q.bank zone + used size all q.bank zone before ≤ start_of_place size q
  pub end : end_of_place size q ≤ base size all q.bank zone + used size all q.bank zone (before ++ v ∷ [])

-- one more array on whole blocks
blocks_push : (size : ℕ) (all : List Want) (c : Class) (before : List Want) (n : ℕ) → is_of c (want c n) ≡ true
    → has_room size all before n c ≡ false
    → size * blocks_of_all size (unshared size all c (before ++ want c n ∷ []))
    ≡ size * (blocks_of_all size (unshared size all c before) + blocks_for size n)
blocks_push size all c before n of long =
    ap (λ l. size * blocks_of_all size l) (left_out_push c (room_for size all c) before (want c n) of long)
    ∙ ap (λ b. size * b) (sum_by_push (λ v. blocks_for size v.words) (unshared size all c before) (want c n))

public_blocks : (size : ℕ) (all before : List Want) (n : ℕ) → 0 < size
    → has_room size all before n PublicArray ≡ false
    → LiesIn size all before (want PublicArray n) (record {
      bank = 0;
      block = 1 + blocks_of_all size (unshared size all PublicArray before);
      word = 0;
      length = n;
    })
public_blocks size all before n some long = record {
  zone = 2;
  start = omega arith;
  end = omega (arith, blocks_push size all PublicArray before n refl long, blocks_for-hold size n some);
}

encrypted_blocks : (size : ℕ) (all before : List Want) (n : ℕ) → 0 < size
    → has_room size all before n EncryptedArray ≡ false
    → LiesIn size all before (want EncryptedArray n) (place_by size all before (want EncryptedArray n) EncryptedArray Cached)
encrypted_blocks size all before n some long = record {
  zone = 4;
  start = omega arith;
  end = omega (arith, blocks_push size all EncryptedArray before n refl long, blocks_for-hold size n some);
}

own_block : (size : ℕ) (all before : List Want) (n : ℕ)
    → has_room size all before n ObliviousArray ≡ false → n ≤ size
    → short_before size all before ObliviousArray < own_most size all ObliviousArray
    → LiesIn size all before (want ObliviousArray n) (place_by size all before (want ObliviousArray n) ObliviousArray Own)
own_block size all before n long short few =
    let most = own_most size all ObliviousArray in
    let front = unshared size all ObliviousArray before in
    let v = want ObliviousArray n in
    let here : min most (short_among size front) ≡ short_among size front = omega arith in
    let next : short_among size (unshared size all ObliviousArray (before ++ v ∷ [])) ≡ short_among size front + 1 =
    ap (short_among size) (left_out_push ObliviousArray (room_for size all ObliviousArray) before v refl long)
    ∙ sum_by_push (λ x. cond (is_short size x) 1 0) front v
    ∙ ap (λ b. short_among size front + cond b 1 0) (le-leb n size short) in
    let more : min most (short_among size (unshared size all ObliviousArray (before ++ v ∷ [])))
    ≡ short_among size front + 1 = omega (arith, next, few) in
    record {
      zone = 3;
      start = let first = ap (λ k. size * k) here in omega (arith, first);
      end = let last = ap (λ k. size * k) more in omega (arith, last, short);
    }

oblivious_blocks : (size : ℕ) (all before : List Want) (n : ℕ) → 0 < size
    → has_room size all before n ObliviousArray ≡ false → is_own size all before (want ObliviousArray n) ≡ false
    → LiesIn size all before (want ObliviousArray n)
    (place_by size all before (want ObliviousArray n) ObliviousArray Oblivious)
oblivious_blocks size all before n some long other =
    let v = want ObliviousArray n in
    let most = own_most size all ObliviousArray in
    let front = in_oblivious_banks size all before in
    let turn = length front % 8 in
    let bank : 2 + turn ≡ suc (suc turn) = omega arith in
    let whole : in_oblivious_banks size all (before ++ v ∷ []) ≡ front ++ v ∷ [] =
    ap (without_short size most) (left_out_push ObliviousArray (room_for size all ObliviousArray) before v refl long)
    ∙ without_short_push size most (unshared size all ObliviousArray before) v other in
    let number : 0 + length front ≡ length front = omega arith in
    let here : blocks_in_turn size turn (0 + length front) (v ∷ []) ≡ blocks_for size n + 0 =
    ap (λ b. cond b (blocks_for size n) 0 + 0) (eq-eqb ((0 + length front) % 8) turn (ap (λ k. k % 8) number)) in
    let all_blocks : blocks_in_turn size turn 0 (in_oblivious_banks size all (before ++ v ∷ []))
    ≡ blocks_in_turn size turn 0 front + blocks_for size n =
    let e = ap (blocks_in_turn size turn 0) whole in
    let f = blocks_in_turn-append size turn 0 front (v ∷ []) in omega (arith, e, f, here) in
    let words = ap (λ k. size * k) all_blocks in
    let used_before = ap (λ b. used size all b 0 before) bank in
    let used_after = ap (λ b. used size all b 0 (before ++ v ∷ [])) bank in
    let begin = ap (λ b. base size all b 0) bank in
    let hold = blocks_for-hold size n some in
    record {
      zone = 0;
      start = omega (arith, used_before, begin);
      end = omega (arith, words, used_after, begin, hold);
    }

-- scalars are of one word
abbrev pub is_scalar_class : Class → Bool
is_scalar_class PublicScalar = true
is_scalar_class SecretScalar = true
is_scalar_class c = false

shared_place_lies : (c : Class) (room n : ℕ) (before : List Want) → is_of c (want c n) ≡ true
    → nat_le n (room_after c room before) ≡ true
    → (room - room_after c room before) + n ≤ room - room_after c room (before ++ want c n ∷ [])
shared_place_lies c room n before of fits =
    omega (
      arith,
      room_after_push c room before (want c n) of fits,
      leb-true n (room_after c room before) fits,
      room_after-le c room before,
    )

pub lies : (size : ℕ) (all before : List Want) (n : ℕ) (c : Class) (s : Storage) → 0 < size
    → (is_scalar_class c ≡ true → n ≡ 1)
    → IsStored size all before n c s → LiesIn size all before (want c n) (place_by size all before (want c n) c s)
lies size all before n c s some one ScalarOfPublic = record {
  zone = 1;
  start = omega arith;
  end = omega (arith, one refl, sum_by_push (λ x. cond (is_of PublicScalar x) 1 0) before (want PublicScalar n));
}
lies size all before n c s some one ScalarOfSecret = record {
  zone = 2;
  start = omega arith;
  end = omega (arith, one refl, sum_by_push (λ x. cond (is_of SecretScalar x) 1 0) before (want SecretScalar n));
}
lies size all before n c s some one (SharesPublic room) = record {
  zone = 0;
  start = omega arith;
  end = omega (arith, shared_place_lies PublicArray (room_for size all PublicArray) n before refl room);
}
lies size all before n c s some one (SharesEncrypted room) =
    let left = room_after-le ObliviousArray (room_beside size all SecretScalar) all in
    let less = room_after-le EncryptedArray (room_for size all EncryptedArray) before in
    record {
      zone = 1;
      start = omega (arith, left, less);
      end = omega (
        arith,
        left,
        less,
        shared_place_lies EncryptedArray (room_for size all EncryptedArray) n before refl room,
      );
    }
lies size all before n c s some one (SharesOblivious room) = record {
  zone = 0;
  start = omega arith;
  end = omega (arith, shared_place_lies ObliviousArray (room_for size all ObliviousArray) n before refl room);
}
lies size all before n c s some one (OwnsPublic long short few) = public_blocks size all before n some long
lies size all before n c s some one (OwnsEncrypted long short few) =
    encrypted_blocks size all before n some long
lies size all before n c s some one (OwnsOblivious long short few) =
    own_block size all before n long short few
lies size all before n c s some one (CachesPublic long) = public_blocks size all before n some long
lies size all before n c s some one (CachesEncrypted long) =
    encrypted_blocks size all before n some long
lies size all before n c s some one (InObliviousBank long other) =
    oblivious_blocks size all before n some long other
