-- What a variable's storage says of its place and its slot.
use Rattle.std.proofs.Common.{◌≡◌, ℕ, ◌+◌, ◌-◌, ◌<◌, ◌≤◌, ◌%◌, Bool, true, false, cond, List, [], ◌∷◌, ◌++◌, length, Option, Some, None, refl, ap, ◌∙◌, arith, length-append}
use Rattle.std.specs.Prelude.{nat_le, count_by}
use Rattle.std.proofs.Math.Nat.{mod-le}
use Rattle.std.proofs.lemmas.Bool.{leb-true}
use Rattle.std.proofs.lemmas.List.Sums.{sum_by_push}
use Rattle.gr_base.specs.Prelude.{Within}
use Rattle.gr_word.specs.declared.variables.Label.{Label}
use Rattle.gr_word.specs.declared.variables.Label.TheVariants.{Public, Secret}
use Rattle.bank_alloc.specs.declared.classes.Class.{Class}
use Rattle.bank_alloc.specs.declared.classes.Class.TheVariants.{PublicScalar, SecretScalar, PublicArray, EncryptedArray, ObliviousArray}
use Rattle.bank_alloc.specs.declared.places.Place.{Place}
use Rattle.bank_alloc.specs.Prelude.{IsBankOf, scalar_bank, class_by, is_same}
use Rattle.scratch_alloc.specs.Prelude.{Serves, PlainSlot, EncryptedSlot}
use Rattle.resident_alloc.specs.declared.storages.Storage.{Storage}
use Rattle.resident_alloc.specs.declared.storages.Storage.TheVariants.{Scalar, Shared, Own, Cached, Oblivious}
use Rattle.resident_alloc.specs.declared.wants.Want.{Want}
use Rattle.resident_alloc.specs.Prelude.{is_of, room_after, room_beside, room_for, unshared, own_most, without_short, in_oblivious_banks, place_by, slot_by, resident_banks}
use Rattle.resident_alloc.proofs.Rooms.{room_after-le, left_out_push, without_short_push}
use Rattle.resident_alloc.proofs.Zones.{ScalarsFitBlock, counts_rise, in_banks_rise}
use Rattle.resident_alloc.proofs.Stored.{want, is_scalar_class, IsStored, ScalarOfPublic, ScalarOfSecret, SharesPublic, SharesEncrypted, SharesOblivious, OwnsPublic, OwnsEncrypted, OwnsOblivious, CachesPublic, CachesEncrypted, InObliviousBank}
use Rattle.resident_alloc.proofs.Numbered.{IsNumbered, own_numbered, cached_numbered}

-- the label of the variables of a class
abbrev pub class_label : Class → Label
class_label PublicScalar = Public
class_label PublicArray = Public
class_label c = Secret

pub class_label-is : (label : Label) (l : Option ℕ) (indexed : Bool) → class_label (class_by label l indexed) ≡ label
class_label-is Public None indexed = refl
class_label-is Public (Some n) indexed = refl
class_label-is Secret None indexed = refl
class_label-is Secret (Some n) true = refl
class_label-is Secret (Some n) false = refl

pub array_length : (label : Label) (l : Option ℕ) (indexed : Bool) → is_scalar_class (class_by label l indexed) ≡ false
    → (n : ℕ) × (l ≡ Some n)
array_length label (Some n) indexed is = (n, refl)
array_length Public None indexed is = absurd (let e : true ≡ false = is in cc)
array_length Secret None indexed is = absurd (let e : true ≡ false = is in cc)

-- a place of a variable of a class and of n words
pub record IsPlaced (size : ℕ) (all : List Want) (c : Class) (n : ℕ) (q : Place) : Type 0 where
  pub label : IsBankOf (class_label c) q.bank
  pub banks : q.bank < resident_banks size all
  pub words : q.length ≡ n
  pub word : q.word < size

-- a variable in the block of the scalars of its label
pub record IsBeside (size : ℕ) (c : Class) (n : ℕ) (q : Place) (slot : ℕ) : Type 0 where
  pub bank : q.bank ≡ scalar_bank (class_label c)
  pub block : q.block ≡ 0
  pub slot_is : slot ≡ q.bank
  pub inside : q.word + n ≤ size

-- an array with a slot of its own
pub record IsAlone (size : ℕ) (all before : List Want) (c : Class) (n : ℕ) (q : Place) (slot : ℕ) : Type 0 where
  pub bank : q.bank ≡ scalar_bank (class_label c)
  pub block : 1 ≤ q.block
  pub word : q.word ≡ 0
  pub short : n ≤ size
  pub numbered : IsNumbered size all before (want c n) Own slot

-- an array whose blocks are loaded when they are accessed
pub record IsCached (size : ℕ) (all before : List Want) (c : Class) (n : ℕ) (q : Place) (slot : ℕ) : Type 0 where
  pub array : is_scalar_class c ≡ false
  pub visible : is_same ObliviousArray c ≡ false
  pub low : q.bank < 2
  pub block : 1 ≤ q.block
  pub word : q.word ≡ 0
  pub serves : Serves q.bank slot
  pub numbered : IsNumbered size all before (want c n) Cached slot

-- an array of an oblivious bank
pub record IsOblivious (c : Class) (q : Place) (slot : ℕ) : Type 0 where
  pub array : is_scalar_class c ≡ false
  pub bank : 2 ≤ q.bank
  pub word : q.word ≡ 0
  pub slot_is : slot ≡ 6

abbrev pub IsServed : (size : ℕ) (all before : List Want) (c : Class) (n : ℕ) → Storage → Place → ℕ → Type 0
IsServed size all before c n Scalar q slot = IsBeside size c n q slot
IsServed size all before c n Shared q slot = IsBeside size c n q slot
IsServed size all before c n Own q slot = IsAlone size all before c n q slot
IsServed size all before c n Cached q slot = IsCached size all before c n q slot
IsServed size all before c n Oblivious q slot = IsOblivious c q slot

-- scalars

scalar_fits : (size n : ℕ) (all before rest : List Want) (c : Class) → is_of c (want c n) ≡ true
    → all ≡ (before ++ want c n ∷ []) ++ rest → count_by (is_of c) all ≤ size
    → room_beside size all c + count_by (is_of c) before + 1 ≤ size
scalar_fits size n all before rest c of whole fit =
    let one : ◌≡◌ {A = ℕ} (cond (is_of c (want c n)) 1 0) 1 = ap (λ b. cond b 1 0) of in
    let push = sum_by_push (λ x. cond (is_of c x) 1 0) before (want c n) in
    let more = counts_rise (is_of c) (before ++ want c n ∷ []) rest in
    let total = ap (count_by (is_of c)) whole in
    omega (arith, one, push, more, total, fit)

shared_fits : (c : Class) (room size n : ℕ) (before : List Want) → room ≤ size
    → nat_le n (room_after c room before) ≡ true → (room - room_after c room before) + n ≤ room
shared_fits c room size n before low fits =
    omega (arith, leb-true n (room_after c room before) fits, room_after-le c room before)

turn_within : (size : ℕ) (all before : List Want) (n : ℕ) (rest : List Want)
    → all ≡ (before ++ want ObliviousArray n ∷ []) ++ rest
    → IsStored size all before n ObliviousArray Oblivious
    → 2 + length (in_oblivious_banks size all before) % 8 < resident_banks size all
turn_within size all before n rest whole (InObliviousBank long other) =
    let v = want ObliviousArray n in
    let most = own_most size all ObliviousArray in
    let front = in_oblivious_banks size all before in
    let push : in_oblivious_banks size all (before ++ v ∷ []) ≡ front ++ v ∷ [] =
    ap (without_short size most) (left_out_push ObliviousArray (room_for size all ObliviousArray) before v refl long)
    ∙ without_short_push size most (unshared size all ObliviousArray before) v other in
    let one = ap (λ (l : List Want). length l) push in
    let count = length-append front (v ∷ []) in
    let more = in_banks_rise size all (before ++ v ∷ []) rest in
    let total = ap (λ l. length (in_oblivious_banks size all l)) whole in
    omega (arith, one, count, more, total, mod-le (length front) 8)

pub placed : (size : ℕ) (all before : List Want) (n : ℕ) (rest : List Want) (c : Class) (s : Storage)
    → 0 < size → 1 ≤ n → ScalarsFitBlock size all → all ≡ (before ++ want c n ∷ []) ++ rest
    → IsStored size all before n c s → IsPlaced size all c n (place_by size all before (want c n) c s)
placed size all before n rest c s some word fit whole ScalarOfPublic = record {
  label = refl;
  banks = omega arith;
  words = refl;
  word = omega (arith, scalar_fits size n all before rest PublicScalar refl whole fit.public);
}
placed size all before n rest c s some word fit whole ScalarOfSecret = record {
  label = omega arith;
  banks = omega arith;
  words = refl;
  word = omega (arith, scalar_fits size n all before rest SecretScalar refl whole fit.secret);
}
placed size all before n rest c s some word fit whole (SharesPublic room) = record {
  label = refl;
  banks = omega arith;
  words = refl;
  word = omega (
    arith,
    word,
    shared_fits PublicArray (room_for size all PublicArray) size n before (omega arith) room,
  );
}
placed size all before n rest c s some word fit whole (SharesEncrypted room) =
    let low = room_after-le ObliviousArray (room_beside size all SecretScalar) all in
    record {
      label = omega arith;
      banks = omega arith;
      words = refl;
      word = omega (
        arith,
        word,
        low,
        shared_fits EncryptedArray (room_for size all EncryptedArray) size n before (omega (arith, low)) room,
        room_after-le EncryptedArray (room_for size all EncryptedArray) before,
        leb-true n (room_after EncryptedArray (room_for size all EncryptedArray) before) room,
      );
    }
placed size all before n rest c s some word fit whole (SharesOblivious room) = record {
  label = omega arith;
  banks = omega arith;
  words = refl;
  word = omega (
    arith,
    word,
    shared_fits ObliviousArray (room_for size all ObliviousArray) size n before (omega arith) room,
  );
}
placed size all before n rest c s some word fit whole (OwnsPublic long short few) =
    record { label = refl; banks = omega arith; words = refl; word = some }
placed size all before n rest c s some word fit whole (CachesPublic long) =
    record { label = refl; banks = omega arith; words = refl; word = some }
placed size all before n rest c s some word fit whole (InObliviousBank long other) = record {
  label = omega arith;
  banks = turn_within size all before n rest whole (InObliviousBank long other);
  words = refl;
  word = some;
}
placed size all before n rest c s some word fit whole other =
    record { label = omega arith; banks = omega arith; words = refl; word = some }

in_turn_within : (slot arrays : ℕ) → Within slot (slot + 1) (slot + arrays % 2)
in_turn_within slot arrays = (omega arith, omega (arith, mod-le arrays 2))

alone_at : (size : ℕ) (all before : List Want) (n : ℕ) (rest : List Want) (c : Class) (q : Place)
    → all ≡ (before ++ want c n ∷ []) ++ rest → IsStored size all before n c Own
    → q.bank ≡ scalar_bank (class_label c) → 1 ≤ q.block → q.word ≡ 0 → n ≤ size
    → IsAlone size all before c n q (slot_by size all before c Own)
alone_at size all before n rest c q whole how bank block word short = record {
  bank = bank;
  block = block;
  word = word;
  short = short;
  numbered = own_numbered size all before n rest c Own whole refl how;
}

pub served : (size : ℕ) (all before : List Want) (n : ℕ) (rest : List Want) (c : Class) (s : Storage)
    → (is_scalar_class c ≡ true → n ≡ 1) → ScalarsFitBlock size all → all ≡ (before ++ want c n ∷ []) ++ rest
    → IsStored size all before n c s
    → IsServed size all before c n s (place_by size all before (want c n) c s) (slot_by size all before c s)
served size all before n rest c s one fit whole ScalarOfPublic = record {
  bank = refl;
  block = refl;
  slot_is = refl;
  inside = omega (arith, one refl, scalar_fits size n all before rest PublicScalar refl whole fit.public);
}
served size all before n rest c s one fit whole ScalarOfSecret = record {
  bank = refl;
  block = refl;
  slot_is = refl;
  inside = omega (arith, one refl, scalar_fits size n all before rest SecretScalar refl whole fit.secret);
}
served size all before n rest c s one fit whole (SharesPublic room) = record {
  bank = refl;
  block = refl;
  slot_is = refl;
  inside = omega (arith, shared_fits PublicArray (room_for size all PublicArray) size n before (omega arith) room);
}
served size all before n rest c s one fit whole (SharesEncrypted room) =
    let low = room_after-le ObliviousArray (room_beside size all SecretScalar) all in
    record {
      bank = refl;
      block = refl;
      slot_is = refl;
      inside = omega (
        arith,
        low,
        shared_fits EncryptedArray (room_for size all EncryptedArray) size n before (omega (arith, low)) room,
        room_after-le EncryptedArray (room_for size all EncryptedArray) before,
        leb-true n (room_after EncryptedArray (room_for size all EncryptedArray) before) room,
      );
    }
served size all before n rest c s one fit whole (SharesOblivious room) = record {
  bank = refl;
  block = refl;
  slot_is = refl;
  inside = omega (
    arith,
    shared_fits ObliviousArray (room_for size all ObliviousArray) size n before (omega arith) room,
  );
}
served size all before n rest c s one fit whole (OwnsPublic long short few) =
    alone_at size all before n rest PublicArray (place_by size all before (want PublicArray n) PublicArray Own) whole
    (OwnsPublic long short few) refl (omega arith) refl short
served size all before n rest c s one fit whole (OwnsEncrypted long short few) =
    alone_at size all before n rest EncryptedArray
    (place_by size all before (want EncryptedArray n) EncryptedArray Own) whole (OwnsEncrypted long short few) refl
    (omega arith) refl short
served size all before n rest c s one fit whole (OwnsOblivious long short few) =
    alone_at size all before n rest ObliviousArray
    (place_by size all before (want ObliviousArray n) ObliviousArray Own) whole (OwnsOblivious long short few) refl
    (omega arith) refl short
served size all before n rest c s one fit whole (CachesPublic long) = record {
  array = refl;
  visible = refl;
  low = omega arith;
  block = omega arith;
  word = refl;
  serves = PlainSlot _ (in_turn_within 2 (length (unshared size all PublicArray before)));
  numbered = cached_numbered size all before n rest PublicArray Cached whole refl (CachesPublic long);
}
served size all before n rest c s one fit whole (CachesEncrypted long) = record {
  array = refl;
  visible = refl;
  low = omega arith;
  block = omega arith;
  word = refl;
  serves = EncryptedSlot _ (in_turn_within 4 (length (unshared size all EncryptedArray before)));
  numbered = cached_numbered size all before n rest EncryptedArray Cached whole refl (CachesEncrypted long);
}
served size all before n rest c s one fit whole (InObliviousBank long other) =
    record { array = refl; bank = omega arith; word = refl; slot_is = refl }
