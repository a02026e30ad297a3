-- Which variables `compile --fast` keeps in the scratchpad for the whole run: such a variable is resident, and an
-- access of it shows nothing on the bus. (This project's profile.)
--
-- The scalars of a label share one block. What they leave of it is room for arrays of the label, in order of
-- declaration, those with a secret index before other secret ones. A short array that finds no room there may have its
-- own slot. Slots 2 and 3 serve the public arrays that are left, alternately, and 4 and 5 the secret ones without a
-- secret index; if there are at most two of these, each has its own slot. Secret arrays with a secret index may have
-- slot 7, and slots 5 and 4 if no other array is served by them.
use Rattle.std.specs.Prelude.{ℕ, ◌+◌, ◌-◌, nat_le, nat_lt, min, Bool, ◌&&◌, if◌then◌else◌, List, [], ◌∷◌, length, map, count_by, sum_by}
use Rattle.lt_isa.specs.Limits.{most_blocks}
use Rattle.src_tree.specs.Limits.{words_of}
use Rattle.src_tree.specs.Trees.{Source}
use Rattle.bank_alloc.specs.declared.classes.Class.{Class}
use Rattle.bank_alloc.specs.declared.classes.Class.TheVariants.{PublicScalar, SecretScalar, PublicArray, EncryptedArray, ObliviousArray}
use Rattle.bank_alloc.specs.Classes.{class_of}
use Rattle.bank_alloc.specs.Places.{blocks_for}
use Rattle.bank_alloc.specs.PlaceRules.{is_same}
use Rattle.resident_alloc.specs.declared.wants.Want.{Want}
use Rattle.resident_alloc.specs.declared.storages.Storage.{Storage}
use Rattle.resident_alloc.specs.declared.storages.Storage.TheVariants.{Scalar, Shared, Own, Cached, Oblivious}

-- the class and the words of each variable, in order of declaration
abbrev pub wants_of : Source → List Want
wants_of p = map (λ d. record { class = class_of p d; words = words_of d }) p.decls

abbrev pub is_of : Class → Want → Bool
is_of c v = is_same c v.class

-- What is left of a room after the arrays of a class, one after another, have each taken their words of it. An array that
-- is longer than what is left takes nothing.
abbrev pub room_after : Class → ℕ → List Want → ℕ
room_after c room [] = room
room_after c room (v ∷ vs) = room_after c (if is_of c v && nat_le v.words room then room - v.words else room) vs

-- the arrays of a class that took nothing
abbrev pub left_out : Class → ℕ → List Want → List Want
left_out c room [] = []
left_out c room (v ∷ vs) =
    if is_of c v
    then (if nat_le v.words room then left_out c (room - v.words) vs else v ∷ left_out c room vs)
    else left_out c room vs

-- the words of a block of `size` words that its scalars, of a class, leave
abbrev pub room_beside : ℕ → List Want → Class → ℕ
room_beside size all scalar = size - count_by (is_of scalar) all

-- the room for the arrays of a class in the block of their scalars
abbrev pub room_for : ℕ → List Want → Class → ℕ
room_for size all PublicScalar = 0
room_for size all SecretScalar = 0
room_for size all PublicArray = room_beside size all PublicScalar
room_for size all ObliviousArray = room_beside size all SecretScalar
room_for size all EncryptedArray = room_after ObliviousArray (room_beside size all SecretScalar) all

-- whether an array shares the block of the scalars, where others are declared before it
abbrev pub is_shared : ℕ → List Want → List Want → Want → Bool
is_shared size all before v = nat_le v.words (room_after v.class (room_for size all v.class) before)

-- those of a class, among some variables, that don't
abbrev pub unshared : ℕ → List Want → Class → List Want → List Want
unshared size all c vs = left_out c (room_for size all c) vs

-- a short array fits into a block
abbrev pub is_short : ℕ → Want → Bool
is_short size v = nat_le v.words size

abbrev pub short_among : ℕ → List Want → ℕ
short_among size vs = count_by (is_short size) vs

abbrev pub blocks_of_all : ℕ → List Want → ℕ
blocks_of_all size vs = sum_by (λ v. blocks_for size v.words) vs

-- How many short arrays of a class may have their own slot. Those with a secret index take blocks of encrypted memory,
-- which must not exceed its limit.
abbrev pub own_most : ℕ → List Want → Class → ℕ
own_most size all PublicScalar = 0
own_most size all SecretScalar = 0
own_most size all PublicArray = if nat_le (length (unshared size all PublicArray all)) 2 then 2 else 0
own_most size all EncryptedArray = if nat_le (length (unshared size all EncryptedArray all)) 2 then 2 else 0
own_most size all ObliviousArray =
    min (3 - min 2 (length (unshared size all EncryptedArray all)))
    (most_blocks 1 - (1 + blocks_of_all size (unshared size all EncryptedArray all)))

-- whether an array that isn't shared has a slot of its own: fewer short ones of its class than may have one come before it
abbrev pub is_own : ℕ → List Want → List Want → Want → Bool
is_own size all before v =
    is_short size v && nat_lt (short_among size (unshared size all v.class before)) (own_most size all v.class)

-- how an array is stored, if it is neither shared nor has a slot of its own
abbrev pub otherwise_stored : Class → Storage
otherwise_stored ObliviousArray = Oblivious
otherwise_stored c = Cached

abbrev pub array_storage : ℕ → List Want → List Want → Want → Storage
array_storage size all before v =
    if is_shared size all before v then Shared
    else (if is_own size all before v then Own else otherwise_stored v.class)

-- how a variable is stored, where others are declared before it
abbrev pub storage_by : Class → Storage → Storage
storage_by PublicScalar array = Scalar
storage_by SecretScalar array = Scalar
storage_by c array = array

abbrev pub storage_of : ℕ → List Want → List Want → Want → Storage
storage_of size all before v = storage_by v.class (array_storage size all before v)
