-- The slots 2 to 5 and 7: which number an array has among those that they serve, and that a slot of a single array serves
-- no other.
use Rattle.std.proofs.Common.{◌≡◌, ℕ, zero, suc, ◌+◌, ◌-◌, ◌<◌, ◌≤◌, Bool, true, false, cond, List, [], ◌∷◌, ◌++◌, length, refl, sym, ap, ◌∙◌, arith, length-append}
use Rattle.std.specs.Prelude.{nat_le, min}
use Rattle.std.proofs.Math.Nat.{mod-le, mod-eq_of_lt}
use Rattle.std.proofs.lemmas.Bool.{leb-true, le-leb}
use Rattle.std.proofs.lemmas.List.Sums.{sum_by_push}
use Rattle.bank_alloc.specs.declared.classes.Class.{Class}
use Rattle.bank_alloc.specs.declared.classes.Class.TheVariants.{PublicArray, EncryptedArray, ObliviousArray}
use Rattle.scratch_alloc.specs.Prelude.{alternate_slot}
use Rattle.resident_alloc.specs.declared.storages.Storage.{Storage}
use Rattle.resident_alloc.specs.declared.storages.Storage.TheVariants.{Own, Cached}
use Rattle.resident_alloc.specs.declared.wants.Want.{Want}
use Rattle.resident_alloc.specs.Prelude.{is_of, room_after, room_for, left_out, unshared, is_short, short_among, spare_slot, slot_by}
use Rattle.resident_alloc.proofs.Rooms.{left_out-append, left_out_push}
use Rattle.resident_alloc.proofs.Zones.{short_rise}
use Rattle.resident_alloc.proofs.Stored.{want, has_room, IsStored, OwnsPublic, OwnsEncrypted, OwnsOblivious, CachesPublic, CachesEncrypted}

-- the arrays that slots 2 and 3 serve, those of 4 and 5, and those of the slots that are left
pub data Family : Type 0 where
  PlainArrays : Family
  EncryptedArrays : Family
  SpareArrays : Family

-- how many arrays of a family are among some variables
abbrev pub in_family : (size : ℕ) (all : List Want) → Family → List Want → ℕ
in_family size all PlainArrays vs = length (unshared size all PublicArray vs)
in_family size all EncryptedArrays vs = length (unshared size all EncryptedArray vs)
in_family size all SpareArrays vs = short_among size (unshared size all ObliviousArray vs)

-- the slot of an array by its number in its family
abbrev pub family_slot : Family → ℕ → ℕ
family_slot PlainArrays i = alternate_slot 2 i
family_slot EncryptedArrays i = alternate_slot 4 i
family_slot SpareArrays i = spare_slot i

-- which numbers there are, by the numbers of plain and of encrypted arrays that slots serve
abbrev pub IsNumber : (plain encrypted : ℕ) → Storage → Family → ℕ → Type 0
IsNumber plain encrypted s PlainArrays i = (i < plain) × (s ≡ Own → plain ≤ 2)
IsNumber plain encrypted s EncryptedArrays i = (i < encrypted) × (s ≡ Own → encrypted ≤ 2)
IsNumber plain encrypted s SpareArrays i = i < 3 - min 2 encrypted

pub record IsNumbered (size : ℕ) (all before : List Want) (v : Want) (s : Storage) (slot : ℕ) : Type 0 where
  pub family : Family
  pub slot_is : slot ≡ family_slot family (in_family size all family before)
  pub next : in_family size all family (before ++ v ∷ []) ≡ in_family size all family before + 1
  pub number : IsNumber (in_family size all PlainArrays all) (in_family size all EncryptedArrays all) s family
      (in_family size all family before)

length_rises : (room : ℕ) (c : Class) (xs ys : List Want)
    → length (left_out c room xs) ≤ length (left_out c room (xs ++ ys))
length_rises room c xs ys =
    let more = left_out c (room_after c room xs) ys in
    let whole = ap (λ (l : List Want). length l) (left_out-append c room xs ys) in
    omega (arith, whole, length-append (left_out c room xs) more)

pub family_rises : (size : ℕ) (all : List Want) (f : Family) (xs ys : List Want)
    → in_family size all f xs ≤ in_family size all f (xs ++ ys)
family_rises size all PlainArrays xs ys = length_rises (room_for size all PublicArray) PublicArray xs ys
family_rises size all EncryptedArrays xs ys = length_rises (room_for size all EncryptedArray) EncryptedArray xs ys
family_rises size all SpareArrays xs ys = short_rise size (room_for size all ObliviousArray) ObliviousArray xs ys

length_push : (size : ℕ) (all : List Want) (c : Class) (before : List Want) (n : ℕ) → is_of c (want c n) ≡ true
    → has_room size all before n c ≡ false
    → length (unshared size all c (before ++ want c n ∷ [])) ≡ length (unshared size all c before) + 1
length_push size all c before n of long =
    ap (λ (l : List Want). length l) (left_out_push c (room_for size all c) before (want c n) of long)
    ∙ length-append (unshared size all c before) (want c n ∷ [])

short_push : (size : ℕ) (all : List Want) (c : Class) (before : List Want) (n : ℕ) → is_of c (want c n) ≡ true
    → has_room size all before n c ≡ false → n ≤ size
    → short_among size (unshared size all c (before ++ want c n ∷ [])) ≡ short_among size (unshared size all c before) + 1
short_push size all c before n of long short =
    ap (short_among size) (left_out_push c (room_for size all c) before (want c n) of long)
    ∙ sum_by_push (λ x. cond (is_short size x) 1 0) (unshared size all c before) (want c n)
    ∙ ap (λ b. short_among size (unshared size all c before) + cond b 1 0) (le-leb n size short)

few_by_most : (total n : ℕ) → n < cond (nat_le total 2) 2 0 → total ≤ 2
few_by_most total n less = by (nat_le total 2) refl less where
  by : (b : Bool) → nat_le total 2 ≡ b → n < cond b 2 0 → total ≤ 2
  by true low less = leb-true total 2 low
  by false low less = absurd (omega (arith, less))

plain_numbered : (size : ℕ) (all before : List Want) (n : ℕ) (s : Storage) (rest : List Want)
    → all ≡ (before ++ want PublicArray n ∷ []) ++ rest → has_room size all before n PublicArray ≡ false
    → (s ≡ Own → in_family size all PlainArrays all ≤ 2)
    → IsNumbered size all before (want PublicArray n) s (alternate_slot 2 (length (unshared size all PublicArray before)))
plain_numbered size all before n s rest whole long few =
    let next = length_push size all PublicArray before n refl long in
    let more = family_rises size all PlainArrays (before ++ want PublicArray n ∷ []) rest in
    let total = ap (in_family size all PlainArrays) whole in
    record {
      family = PlainArrays;
      slot_is = refl;
      next = next;
      number = (omega (arith, next, more, total), few);
    }

encrypted_numbered : (size : ℕ) (all before : List Want) (n : ℕ) (s : Storage) (rest : List Want)
    → all ≡ (before ++ want EncryptedArray n ∷ []) ++ rest → has_room size all before n EncryptedArray ≡ false
    → (s ≡ Own → in_family size all EncryptedArrays all ≤ 2)
    → IsNumbered size all before (want EncryptedArray n) s
    (alternate_slot 4 (length (unshared size all EncryptedArray before)))
encrypted_numbered size all before n s rest whole long few =
    let next = length_push size all EncryptedArray before n refl long in
    let more = family_rises size all EncryptedArrays (before ++ want EncryptedArray n ∷ []) rest in
    let total = ap (in_family size all EncryptedArrays) whole in
    record {
      family = EncryptedArrays;
      slot_is = refl;
      next = next;
      number = (omega (arith, next, more, total), few);
    }

-- an array with a slot of its own has a number
pub own_numbered : (size : ℕ) (all before : List Want) (n : ℕ) (rest : List Want) (c : Class) (s : Storage)
    → all ≡ (before ++ want c n ∷ []) ++ rest → s ≡ Own → IsStored size all before n c s
    → IsNumbered size all before (want c n) s (slot_by size all before c s)
own_numbered size all before n rest c s whole own (OwnsPublic long short few) =
    plain_numbered size all before n Own rest whole long (λ is. few_by_most _ _ few)
own_numbered size all before n rest c s whole own (OwnsEncrypted long short few) =
    encrypted_numbered size all before n Own rest whole long (λ is. few_by_most _ _ few)
own_numbered size all before n rest c s whole own (OwnsOblivious long short few) = record {
  family = SpareArrays;
  slot_is = refl;
  next = short_push size all ObliviousArray before n refl long short;
  number = omega (arith, few);
}
own_numbered size all before n rest c s whole own _ = absurd cc

-- and so has one that is cached
pub cached_numbered : (size : ℕ) (all before : List Want) (n : ℕ) (rest : List Want) (c : Class) (s : Storage)
    → all ≡ (before ++ want c n ∷ []) ++ rest → s ≡ Cached → IsStored size all before n c s
    → IsNumbered size all before (want c n) s (slot_by size all before c s)
cached_numbered size all before n rest c s whole cached (CachesPublic long) =
    plain_numbered size all before n Cached rest whole long (λ is. absurd (let e : Cached ≡ Own = is in cc))
cached_numbered size all before n rest c s whole cached (CachesEncrypted long) =
    encrypted_numbered size all before n Cached rest whole long (λ is. absurd (let e : Cached ≡ Own = is in cc))
cached_numbered size all before n rest c s whole cached _ = absurd cc

-- slots of spare arrays

spare_high : (i : ℕ) → (4 ≤ spare_slot i) × (spare_slot i ≤ 7)
spare_high zero = (omega arith, omega arith)
spare_high (suc zero) = (omega arith, omega arith)
spare_high (suc (suc n)) = (omega arith, omega arith)

pub spare_apart : (i : ℕ) → spare_slot i ≡ 6 → ⊥
spare_apart zero is = omega (arith, is)
spare_apart (suc zero) is = omega (arith, is)
spare_apart (suc (suc n)) is = omega (arith, is)

spare_once : (i j : ℕ) → i < 3 → j < 3 → spare_slot i ≡ spare_slot j → i ≡ j
spare_once zero zero a b is = refl
spare_once zero (suc zero) a b is = absurd (omega (arith, is))
spare_once zero (suc (suc n)) a b is = absurd (omega (arith, is))
spare_once (suc zero) zero a b is = absurd (omega (arith, is))
spare_once (suc zero) (suc zero) a b is = refl
spare_once (suc zero) (suc (suc n)) a b is = absurd (omega (arith, is))
spare_once (suc (suc m)) zero a b is = absurd (omega (arith, is))
spare_once (suc (suc m)) (suc zero) a b is = absurd (omega (arith, is))
spare_once (suc (suc m)) (suc (suc n)) a b is = omega (arith, a, b)

alternate_once : (slot i j : ℕ) → i < 2 → j < 2 → alternate_slot slot i ≡ alternate_slot slot j → i ≡ j
alternate_once slot i j a b is = omega (arith, is, mod-eq_of_lt a, mod-eq_of_lt b)

spare_other : (encrypted i j : ℕ) → i < encrypted → j < 3 - min 2 encrypted → alternate_slot 4 i ≡ spare_slot j → ⊥
spare_other encrypted i zero a b is = omega (arith, is, mod-le i 2)
spare_other encrypted i (suc zero) a b is =
    let few : i < 2 = omega arith in omega (arith, is, a, b, mod-eq_of_lt few)
spare_other encrypted i (suc (suc n)) a b is = omega (arith, a, b)

-- a slot that is one array's serves no other
pub same_number : (plain encrypted : ℕ) (s t : Storage) (f g : Family) (i j : ℕ) → s ≡ Own
    → IsNumber plain encrypted s f i → IsNumber plain encrypted t g j → family_slot f i ≡ family_slot g j
    → (f ≡ g) × (i ≡ j)
same_number plain encrypted s t PlainArrays PlainArrays i j own a b is =
    let few = a.1 own in (refl, alternate_once 2 i j (omega (arith, a.0, few)) (omega (arith, b.0, few)) is)
same_number plain encrypted s t PlainArrays EncryptedArrays i j own a b is =
    absurd (omega (arith, is, mod-le i 2, mod-le j 2))
same_number plain encrypted s t PlainArrays SpareArrays i j own a b is =
    absurd (omega (arith, is, mod-le i 2, (spare_high j).0))
same_number plain encrypted s t EncryptedArrays PlainArrays i j own a b is =
    absurd (omega (arith, is, mod-le i 2, mod-le j 2))
same_number plain encrypted s t EncryptedArrays EncryptedArrays i j own a b is =
    let few = a.1 own in (refl, alternate_once 4 i j (omega (arith, a.0, few)) (omega (arith, b.0, few)) is)
same_number plain encrypted s t EncryptedArrays SpareArrays i j own a b is =
    absurd (spare_other encrypted i j a.0 b is)
same_number plain encrypted s t SpareArrays PlainArrays i j own a b is =
    absurd (omega (arith, is, mod-le j 2, (spare_high i).0))
same_number plain encrypted s t SpareArrays EncryptedArrays i j own a b is =
    absurd (spare_other encrypted j i b.0 a (sym is))
same_number plain encrypted s t SpareArrays SpareArrays i j own a b is =
    (refl, spare_once i j (omega (arith, a)) (omega (arith, b)) is)

-- which slots these are
pub numbered_slot : (plain encrypted : ℕ) (s : Storage) (f : Family) (i : ℕ) → IsNumber plain encrypted s f i
    → (2 ≤ family_slot f i) × (family_slot f i < 8) × (family_slot f i ≡ 6 → ⊥)
numbered_slot plain encrypted s PlainArrays i h =
    (omega arith, omega (arith, mod-le i 2), λ is. omega (arith, is, mod-le i 2))
numbered_slot plain encrypted s EncryptedArrays i h =
    (omega arith, omega (arith, mod-le i 2), λ is. omega (arith, is, mod-le i 2))
numbered_slot plain encrypted s SpareArrays i h =
    let high = spare_high i in (omega (arith, high.0), omega (arith, high.1), spare_apart i)
