-- The places that are computed in sequence are those by the variables that are declared before.
use Rattle.std.proofs.Common.{◌≡◌, ℕ, zero, suc, ◌+◌, ◌%◌, ◌^◌, ◌<◌, ◌≤◌, Bool, true, false, cond, eqb, List, [], ◌∷◌, ◌++◌, length, take, get_or, refl, sym, ap, subst, ◌∙◌, arith}
use Rattle.std.specs.Prelude.{nat_le, ◌&&◌, min, sum_by, count_by}
use Rattle.std.proofs.lemmas.Bool.{le-leb}
use Rattle.std.proofs.lemmas.Bool.Decides.{nat_tests}
use Rattle.std.proofs.lemmas.List.{ext_get_or, take_all, take_more}
use Rattle.std.proofs.lemmas.List.Sums.{sum_by-append, sum_by-cons}
use Rattle.src_tree.specs.declared.trees.Decl.{Decl}
use Rattle.src_tree.specs.Prelude.{words_of, Source}
use Rattle.bank_alloc.specs.declared.classes.Class.{Class}
use Rattle.bank_alloc.specs.declared.classes.Class.TheVariants.{PublicScalar, SecretScalar, PublicArray, EncryptedArray, ObliviousArray}
use Rattle.bank_alloc.specs.declared.places.Place.{Place}
use Rattle.bank_alloc.specs.Prelude.{class_of, blocks_for, is_oblivious, is_scalar_in, is_array_in, scalars_in, oblivious_arrays, blocks_taken, first_free_block, place_behind, places_of, is_same, class_count, blocks_of_class, blocks_in_turn, place_by, ArePlaced, BanksNeed}
use Rattle.bank_alloc.proofs.EachPlace.{any_decl, any_place, length-places, get_or-places, array_block}

-- what a place adds to each count

other_bank : (b t : ℕ) → b < 2 → eqb b (2 + t) ≡ false
other_bank b t h = grind (arith, nat_tests)

bank_other : (b t : ℕ) → b < 2 → eqb (2 + t) b ≡ false
bank_other b t h = grind (arith, nat_tests)

same_turn : (s t : ℕ) → eqb (2 + s) (2 + t) ≡ eqb s t
same_turn s t = grind (arith, nat_tests)

late : (t : ℕ) → nat_le 2 (2 + t) ≡ true
late t = le-leb 2 (2 + t) (omega arith)

module _ (size : ℕ) (before : List Place) (words : ℕ) where
  public_more : (c : Class) → is_scalar_in 0 (place_behind size before c words) ≡ is_same PublicScalar c
  public_more PublicArray = rw (array_block (sum_by (blocks_taken size 0) before)) refl
  public_more ObliviousArray = rw (bank_other 0 (oblivious_arrays before % 8) (omega arith)) refl
  public_more other = refl

  secret_more : (c : Class) → is_scalar_in 1 (place_behind size before c words) ≡ is_same SecretScalar c
  secret_more EncryptedArray = rw (array_block (sum_by (blocks_taken size 1) before)) refl
  secret_more ObliviousArray = rw (bank_other 1 (oblivious_arrays before % 8) (omega arith)) refl
  secret_more other = refl

  oblivious_more : (c : Class) → is_oblivious (place_behind size before c words) ≡ is_same ObliviousArray c
  oblivious_more ObliviousArray = late (oblivious_arrays before % 8)
  oblivious_more other = refl

  plain_more : (c : Class) → is_array_in 0 (place_behind size before c words) ≡ is_same PublicArray c
  plain_more PublicArray = rw (array_block (sum_by (blocks_taken size 0) before)) refl
  plain_more ObliviousArray = rw (bank_other 0 (oblivious_arrays before % 8) (omega arith)) refl
  plain_more other = refl

  encrypted_more : (c : Class) → is_array_in 1 (place_behind size before c words) ≡ is_same EncryptedArray c
  encrypted_more EncryptedArray = rw (array_block (sum_by (blocks_taken size 1) before)) refl
  encrypted_more ObliviousArray = rw (bank_other 1 (oblivious_arrays before % 8) (omega arith)) refl
  encrypted_more other = refl

  turn_more : (t : ℕ) (c : Class) → is_array_in (2 + t) (place_behind size before c words)
      ≡ (is_same ObliviousArray c && eqb (oblivious_arrays before % 8) t)
  turn_more t PublicScalar = rw (other_bank 0 t (omega arith)) refl
  turn_more t SecretScalar = rw (other_bank 1 t (omega arith)) refl
  turn_more t PublicArray = rw (other_bank 0 t (omega arith)) refl
  turn_more t EncryptedArray = rw (other_bank 1 t (omega arith)) refl
  turn_more t ObliviousArray =
      rw (same_turn (oblivious_arrays before % 8) t, late (oblivious_arrays before % 8))
      (both (eqb (oblivious_arrays before % 8) t)) where
        both : (b : Bool) → (b && true) ≡ (true && b)
        both true = refl
        both false = refl

  words_kept : (c : Class) → (place_behind size before c words).length ≡ words
  words_kept PublicScalar = refl
  words_kept SecretScalar = refl
  words_kept PublicArray = refl
  words_kept EncryptedArray = refl
  words_kept ObliviousArray = refl

-- counts of places, and of the variables that are stored there
record Mirrors (class : Decl → Class) (size : ℕ) (ds : List Decl) (places : List Place) : Type 0 where
  public : scalars_in 0 places ≡ class_count class PublicScalar ds
  secret : scalars_in 1 places ≡ class_count class SecretScalar ds
  plain : first_free_block size 0 places ≡ 1 + blocks_of_class class size PublicArray ds
  encrypted : first_free_block size 1 places ≡ 1 + blocks_of_class class size EncryptedArray ds
  oblivious : oblivious_arrays places ≡ class_count class ObliviousArray ds
  turns : (t : ℕ) → first_free_block size (2 + t) places ≡ blocks_in_turn class size t 0 ds

-- the place after others is that by the variables before it
mirrored : (class : Decl → Class) (size : ℕ) (ds : List Decl) (places : List Place) → Mirrors class size ds places
    → (c : Class) (words : ℕ) → place_behind size places c words ≡ place_by class size ds c words
mirrored class size ds places h PublicScalar words = rw h.public refl
mirrored class size ds places h SecretScalar words = rw h.secret refl
mirrored class size ds places h PublicArray words = rw h.plain refl
mirrored class size ds places h EncryptedArray words = rw h.encrypted refl
mirrored class size ds places h ObliviousArray words = rw (h.turns (oblivious_arrays places % 8), h.oblivious) refl

start : (class : Decl → Class) (size : ℕ) → Mirrors class size [] []
start class size = record {
  public = refl;
  secret = refl;
  plain = refl;
  encrypted = refl;
  oblivious = refl;
  turns = λ t. rw (late t) refl;
}

-- one more

count_push : {X : Type 0} (p : X → Bool) (xs : List X) (x : X)
    → count_by p (xs ++ x ∷ []) ≡ count_by p xs + cond (p x) 1 0
count_push p xs x = let sum = sum_by-append (λ y. cond (p y) 1 0) xs (x ∷ []) in omega (arith, sum)

sum_push : {X : Type 0} (f : X → ℕ) (xs : List X) (x : X) → sum_by f (xs ++ x ∷ []) ≡ sum_by f xs + f x
sum_push f xs x = let sum = sum_by-append f xs (x ∷ []) in omega (arith, sum)

abbrev in_turn : ℕ → ℕ → ℕ → Bool → ℕ → ℕ
in_turn size turn words same j = cond (same && eqb (j % 8) turn) (blocks_for size words) 0

none_before : (size turn j words : ℕ) (b : Bool)
    → cond b (cond (eqb (j % 8) turn) (blocks_for size words) 0 + 0) 0 ≡ 0 + in_turn size turn words b (j + 0)
none_before size turn j words true =
    let zero_more : j + 0 ≡ j = omega arith in
    let same = ap (λ m. cond (eqb (m % 8) turn) (blocks_for size words) 0) zero_more in
    omega (arith, same)
none_before size turn j words false = refl

-- an item in front, which has the number j if it is one
turned : (b : Bool) (first taken_all took left_all rest : ℕ) (last : ℕ → ℕ) (j n : ℕ) → taken_all ≡ took + last (j + 1 + n)
    → left_all ≡ rest + last (j + n)
    → cond b (first + taken_all) left_all ≡ cond b (first + took) rest + last (j + (cond b 1 0 + n))
turned true first taken_all took left_all rest last j n p q =
    let e : j + 1 + n ≡ j + (1 + n) = omega arith in
    let same = ap last e in
    omega (arith, p, same)
turned false first taken_all took left_all rest last j n p q =
    let e : j + n ≡ j + (0 + n) = omega arith in
    let same = ap last e in
    omega (arith, q, same)

turn_push : (class : Decl → Class) (size turn j : ℕ) (ds : List Decl) (d : Decl)
    → blocks_in_turn class size turn j (ds ++ d ∷ []) ≡ blocks_in_turn class size turn j ds
    + in_turn size turn (words_of d) (is_same ObliviousArray (class d)) (j + class_count class ObliviousArray ds)
turn_push class size turn j [] d = none_before size turn j (words_of d) (is_same ObliviousArray (class d))
turn_push class size turn j (x ∷ ds) d =
    turned (is_same ObliviousArray (class x)) (cond (eqb (j % 8) turn) (blocks_for size (words_of x)) 0)
    (blocks_in_turn class size turn (j + 1) (ds ++ d ∷ [])) (blocks_in_turn class size turn (j + 1) ds)
    (blocks_in_turn class size turn j (ds ++ d ∷ [])) (blocks_in_turn class size turn j ds)
    (in_turn size turn (words_of d) (is_same ObliviousArray (class d))) j (class_count class ObliviousArray ds)
    (turn_push class size turn (j + 1) ds d) (turn_push class size turn j ds d)
    ∙ ap (λ m. blocks_in_turn class size turn j (x ∷ ds)
    + in_turn size turn (words_of d) (is_same ObliviousArray (class d)) (j + m))
    (sym (sum_by-cons (λ y. cond (is_same ObliviousArray (class y)) 1 0) x ds))

taken : (size bank words : ℕ) (q : Place) (same : Bool) → is_array_in bank q ≡ same → q.length ≡ words
    → blocks_taken size bank q ≡ cond same (blocks_for size words) 0
taken size bank words q same array is =
    ap (λ b. cond b (blocks_for size q.length) 0) array ∙ ap (λ n. cond same (blocks_for size n) 0) is

turns_push : (class : Decl → Class) (size : ℕ) (ds : List Decl) (places : List Place) (d : Decl) (q : Place)
    → Mirrors class size ds places → q ≡ place_behind size places (class d) (words_of d) → q.length ≡ words_of d
    → (t : ℕ) → first_free_block size (2 + t) (places ++ q ∷ []) ≡ blocks_in_turn class size t 0 (ds ++ d ∷ [])
turns_push class size ds places d q h is long t =
    let one = sum_push (blocks_taken size (2 + t)) places q in
    let new =
    taken size (2 + t) (words_of d) q _
    (ap (is_array_in (2 + t)) is ∙ turn_more size places (words_of d) t (class d)) long in
    let number =
    ap (in_turn size t (words_of d) (is_same ObliviousArray (class d)))
    (h.oblivious ∙ (let e : class_count class ObliviousArray ds
    ≡ 0 + class_count class ObliviousArray ds = omega arith in e)) in
    let two = turn_push class size t 0 ds d in
    omega (arith, one, new, number, two, h.turns t)

push : (class : Decl → Class) (size : ℕ) (ds : List Decl) (places : List Place) (d : Decl) (q : Place)
    → Mirrors class size ds places → q ≡ place_behind size places (class d) (words_of d)
    → Mirrors class size (ds ++ d ∷ []) (places ++ q ∷ [])
push class size ds places d q h is =
    let n = words_of d in
    let c = class d in
    let long : q.length ≡ n = ap (λ (x : Place). x.length) is ∙ words_kept size places n c in
    record {
      public = count_push (is_scalar_in 0) places q
          ∙ ap (λ b. scalars_in 0 places + cond b 1 0) (ap (is_scalar_in 0) is ∙ public_more size places n c)
          ∙ ap (λ m. m + cond (is_same PublicScalar c) 1 0) h.public
          ∙ sym (count_push (λ x. is_same PublicScalar (class x)) ds d);
      secret = count_push (is_scalar_in 1) places q
          ∙ ap (λ b. scalars_in 1 places + cond b 1 0) (ap (is_scalar_in 1) is ∙ secret_more size places n c)
          ∙ ap (λ m. m + cond (is_same SecretScalar c) 1 0) h.secret
          ∙ sym (count_push (λ x. is_same SecretScalar (class x)) ds d);
      plain =
          let one = sum_push (blocks_taken size 0) places q in
          let two =
          sum_push (λ x. cond (is_same PublicArray (class x)) (blocks_for size (words_of x)) 0) ds d in
          let new = taken size 0 n q _ (ap (is_array_in 0) is ∙ plain_more size places n c) long in
          omega (arith, one, two, new, h.plain);
      encrypted =
          let one = sum_push (blocks_taken size 1) places q in
          let two =
          sum_push (λ x. cond (is_same EncryptedArray (class x)) (blocks_for size (words_of x)) 0) ds d in
          let new = taken size 1 n q _ (ap (is_array_in 1) is ∙ encrypted_more size places n c) long in
          omega (arith, one, two, new, h.encrypted);
      oblivious = count_push is_oblivious places q
          ∙ ap (λ b. oblivious_arrays places + cond b 1 0) (ap is_oblivious is ∙ oblivious_more size places n c)
          ∙ ap (λ m. m + cond (is_same ObliviousArray c) 1 0) h.oblivious
          ∙ sym (count_push (λ x. is_same ObliviousArray (class x)) ds d);
      turns = turns_push class size ds places d q h is long;
    }

-- the places in order
mirrors : (p : Source) (w k : ℕ) → k ≤ length p.decls
    → Mirrors (class_of p) (2 ^ w) (take k p.decls) (take k (places_of p w))
mirrors p w zero le = start (class_of p) (2 ^ w)
mirrors p w (suc k) le =
    let within : k < length p.decls = omega arith in
    let here : k < length (places_of p w) = omega (arith, within, length-places p w) in
    let next : k + 1 ≡ suc k = omega arith in
    let decls : take (suc k) p.decls ≡ take k p.decls ++ get_or p.decls k any_decl ∷ [] =
    ap (λ n. take n p.decls) (sym next) ∙ take_more p.decls k any_decl within in
    let places : take (suc k) (places_of p w) ≡ take k (places_of p w) ++ get_or (places_of p w) k any_place ∷ [] =
    ap (λ n. take n (places_of p w)) (sym next) ∙ take_more (places_of p w) k any_place here in
    subst (Mirrors (class_of p) (2 ^ w) (take (suc k) p.decls)) (sym places)
    (subst (λ (ds : List Decl). Mirrors (class_of p) (2 ^ w) ds
    (take k (places_of p w) ++ get_or (places_of p w) k any_place ∷ [])) (sym decls)
    (push (class_of p) (2 ^ w) (take k p.decls) (take k (places_of p w)) (get_or p.decls k any_decl)
    (get_or (places_of p w) k any_place) (mirrors p w k (omega arith))
    (get_or-places p w k any_decl any_place within)))

each_place : (p : Source) (w k : ℕ) (d : Decl) (q : Place) → k < length p.decls
    → get_or (places_of p w) k q ≡ place_by (class_of p) (2 ^ w) (take k p.decls)
    (class_of p (get_or p.decls k d)) (words_of (get_or p.decls k d))
each_place p w k d q within =
    get_or-places p w k d q within
    ∙ mirrored (class_of p) (2 ^ w) (take k p.decls) (take k (places_of p w)) (mirrors p w k (omega (arith, within)))
    (class_of p (get_or p.decls k d)) (words_of (get_or p.decls k d))

-- the places that are worked out are by the rules
pub are_placed : (p : Source) (w : ℕ) → ArePlaced p w (places_of p w)
are_placed p w = record { count = length-places p w; each = each_place p w }

-- and no others are
pub placed_so : (p : Source) (w : ℕ) (places : List Place) → ArePlaced p w places → places ≡ places_of p w
placed_so p w places h =
    ext_get_or any_place places (places_of p w) (h.count ∙ sym (length-places p w)) (λ i within.
    let here : i < length p.decls = omega (arith, within, h.count) in
    h.each i any_decl any_place here ∙ sym (each_place p w i any_decl any_place here))

pub placed_as : (p : Source) (w : ℕ) (places : List Place) → places ≡ places_of p w → ArePlaced p w places
placed_as p w places is = subst (ArePlaced p w) (sym is) (are_placed p w)

-- what the banks need
pub banks_need : (p : Source) (w : ℕ) → BanksNeed p w
banks_need p w =
    let places : take (length p.decls) (places_of p w) ≡ places_of p w =
    take_all (length p.decls) (places_of p w) (omega (arith, length-places p w)) in
    let h : Mirrors (class_of p) (2 ^ w) p.decls (places_of p w) =
    subst (Mirrors (class_of p) (2 ^ w) p.decls) places
    (subst (λ (ds : List Decl). Mirrors (class_of p) (2 ^ w) ds (take (length p.decls) (places_of p w)))
    (take_all (length p.decls) p.decls (omega arith)) (mirrors p w (length p.decls) (omega arith))) in
    record {
      plain = h.plain;
      encrypted = h.encrypted;
      oblivious = h.turns;
      banks = ap (λ n. 2 + min 8 n) h.oblivious;
    }
