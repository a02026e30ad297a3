-- A program is rejected for what lacks room first. Nothing lacks room exactly if the program has room.
use Rattle.std.proofs.Common.{◌≡◌, ℕ, ◌+◌, ◌^◌, ◌<◌, ◌≤◌, nat_lt, Bool, true, false, cond, List, [], ◌∷◌, length, map, get_or, Option, Some, None, refl, sym, ap, ◌∙◌, subst, arith}
use Rattle.std.specs.Prelude.{count_by}
use Rattle.std.specs.List.{range_with_len}
use Rattle.std.proofs.lemmas.Bool.{ltb-true, ltb-false}
use Rattle.std.proofs.lemmas.List.Sums.{sum_by-cons}
use Rattle.std.proofs.lemmas.List.FromFn.{get_or-map-range_with_len, length-map-range_with_len}
use Rattle.gr_word.specs.declared.variables.Label.TheVariants.{Public, Secret}
use Rattle.lt_isa.specs.Prelude.{most_blocks}
use Rattle.src_tree.specs.declared.trees.Decl.{Decl}
use Rattle.src_tree.specs.Prelude.{Source}
use Rattle.bank_alloc.specs.declared.classes.Class.{Class}
use Rattle.bank_alloc.specs.declared.classes.Class.TheVariants.{PublicScalar, SecretScalar, PublicArray, EncryptedArray, ObliviousArray}
use Rattle.bank_alloc.specs.declared.places.PlaceError.{PlaceError}
use Rattle.bank_alloc.specs.declared.places.PlaceError.TheVariants.{TooManyScalars, BankFull}
use Rattle.bank_alloc.specs.Prelude.{class_of, is_scalar, ScalarsFit, scalars_of, has_secret_index, first_full, is_same}
use Rattle.bank_alloc.proofs.Refusals.{found_full, is_scalar_class, none_full, scalar_by, some_is}
use Rattle.resident_alloc.specs.declared.wants.Want.{Want}
use Rattle.bank_alloc.specs.declared.places.Places.{Places}
use Rattle.scratch_alloc.specs.Prelude.{Plan, plan_from}
use Rattle.scratch_alloc.specs.declared.plans.PinnedPlan.{PinnedPlan}
use Rattle.resident_alloc.specs.Prelude.{plan_of, scalars_lack, ResidentsFit, ResidentsRefuse, planned, resident_banks, resident_blocks, is_of, wants_of}

-- there are ten banks at most
pub banks_few : (size : ℕ) (all : List Want) → resident_banks size all ≤ 10
banks_few size all = omega arith

-- scalars are as many as the program has
counted_as : (p : Want → Bool) (q : Decl → Bool) (f : Decl → Want) → ((d : Decl) → p (f d) ≡ q d)
    → (ds : List Decl) → count_by p (map f ds) ≡ count_by q ds
counted_as p q f same [] = refl
counted_as p q f same (d ∷ ds) =
    sum_by-cons (λ v. cond (p v) 1 0) (f d) (map f ds)
    ∙ ap (λ b. cond b 1 0 + count_by p (map f ds)) (same d)
    ∙ ap (λ n. cond (q d) 1 0 + n) (counted_as p q f same ds)
    ∙ sym (sum_by-cons (λ x. cond (q x) 1 0) d ds)

public_is : (c : Class) → is_same PublicScalar c ≡ is_scalar_class Public c
public_is PublicScalar = refl
public_is other = refl

secret_is : (c : Class) → is_same SecretScalar c ≡ is_scalar_class Secret c
secret_is PublicScalar = refl
secret_is other = refl

public_counted : (p : Source) → count_by (is_of PublicScalar) (wants_of p) ≡ scalars_of Public p
public_counted p =
    counted_as (is_of PublicScalar) (is_scalar Public) _
    (λ d. public_is (class_of p d) ∙ scalar_by Public d.label d.length (has_secret_index p d.name)) p.decls

secret_counted : (p : Source) → count_by (is_of SecretScalar) (wants_of p) ≡ scalars_of Secret p
secret_counted p =
    counted_as (is_of SecretScalar) (is_scalar Secret) _
    (λ d. secret_is (class_of p d) ∙ scalar_by Secret d.label d.length (has_secret_index p d.name)) p.decls

-- the lack of room among scalars, by the program's counts
lack_by : ℕ → ℕ → ℕ → Option PlaceError
lack_by size public secret =
    cond (nat_lt size public) (Some (TooManyScalars Public))
    (cond (nat_lt size secret) (Some (TooManyScalars Secret)) None)

lack_is : (p : Source) (size : ℕ) → scalars_lack size (wants_of p) ≡ lack_by size (scalars_of Public p) (scalars_of Secret p)
unfolding lack_by
lack_is p size =
    ap (λ n. lack_by size n (count_by (is_of SecretScalar) (wants_of p))) (public_counted p)
    ∙ ap (λ n. lack_by size (scalars_of Public p) n) (secret_counted p)

pub scalars_refused : (p : Source) (w size : ℕ) (e : PlaceError) → size ≡ 2 ^ w
    → scalars_lack size (wants_of p) ≡ Some e → ResidentsRefuse p w e
unfolding lack_by
scalars_refused p w size e is found =
    by (nat_lt (2 ^ w) (scalars_of Public p)) (nat_lt (2 ^ w) (scalars_of Secret p)) refl refl
    (sym (ap (λ s. scalars_lack s (wants_of p)) is ∙ lack_is p (2 ^ w)) ∙ found)
  where
    by : (public secret : Bool) → nat_lt (2 ^ w) (scalars_of Public p) ≡ public
        → nat_lt (2 ^ w) (scalars_of Secret p) ≡ secret
        → cond public (Some (TooManyScalars Public)) (cond secret (Some (TooManyScalars Secret)) None) ≡ Some e
        → ResidentsRefuse p w e
    by true secret many other is =
        subst (ResidentsRefuse p w) (some_is (TooManyScalars Public) e is)
        (ltb-true (2 ^ w) (scalars_of Public p) many)
    by false true few many is =
        subst (ResidentsRefuse p w) (some_is (TooManyScalars Secret) e is)
        (ltb-false (2 ^ w) (scalars_of Public p) few, ltb-true (2 ^ w) (scalars_of Secret p) many)
    by false false few other is = absurd cc

pub scalars_fit : (p : Source) (w size : ℕ) → size ≡ 2 ^ w → scalars_lack size (wants_of p) ≡ None → ScalarsFit p w
unfolding lack_by
scalars_fit p w size is found =
    by (nat_lt (2 ^ w) (scalars_of Public p)) (nat_lt (2 ^ w) (scalars_of Secret p)) refl refl
    (sym (ap (λ s. scalars_lack s (wants_of p)) is ∙ lack_is p (2 ^ w)) ∙ found)
  where
    by : (public secret : Bool) → nat_lt (2 ^ w) (scalars_of Public p) ≡ public
        → nat_lt (2 ^ w) (scalars_of Secret p) ≡ secret
        → cond public (Some (TooManyScalars Public)) (cond secret (Some (TooManyScalars Secret)) None) ≡ None
        → ScalarsFit p w
    by true secret many other is = absurd cc
    by false true few many is = absurd cc
    by false false few other is = record {
      public = ltb-false (2 ^ w) (scalars_of Public p) few;
      secret = ltb-false (2 ^ w) (scalars_of Secret p) other;
    }

-- the blocks of the banks
abbrev pub blocks_of : Source → ℕ → List ℕ
blocks_of p w = map (resident_blocks (2 ^ w) (wants_of p)) (range_with_len 0 (resident_banks (2 ^ w) (wants_of p)))

blocks_at : (p : Source) (w bank : ℕ) → bank < resident_banks (2 ^ w) (wants_of p)
    → get_or (blocks_of p w) bank 0 ≡ resident_blocks (2 ^ w) (wants_of p) bank
blocks_at p w bank within =
    get_or-map-range_with_len (resident_blocks (2 ^ w) (wants_of p)) 0 (resident_banks (2 ^ w) (wants_of p)) bank bank 0
    within (omega arith)

blocks_counted : (p : Source) (w : ℕ) → length (blocks_of p w) ≡ resident_banks (2 ^ w) (wants_of p)
blocks_counted p w =
    length-map-range_with_len (resident_blocks (2 ^ w) (wants_of p)) 0 (resident_banks (2 ^ w) (wants_of p))

pub blocks_are : (p : Source) (w size : ℕ) (all : List Want) (blocks : List ℕ) (places : Places) (slots : PinnedPlan)
    → size ≡ 2 ^ w → all ≡ wants_of p → blocks ≡ places.blocks.items → plan_from places slots ≡ plan_of size all
    → blocks ≡ blocks_of p w
blocks_are p w size all blocks places slots is same read planned =
    read ∙ ap (λ (plan : Plan). plan.blocks) planned
    ∙ ap (λ s. map (resident_blocks s all) (range_with_len 0 (resident_banks s all))) is
    ∙ ap (λ (vs : List Want). map (resident_blocks (2 ^ w) vs) (range_with_len 0 (resident_banks (2 ^ w) vs))) same

pub bank_refused : (p : Source) (w : ℕ) (blocks : List ℕ) (e : PlaceError) → ScalarsFit p w → blocks ≡ blocks_of p w
    → first_full 0 blocks ≡ Some e → ResidentsRefuse p w e
bank_refused p w blocks e fit is found =
    let full = found_full 0 (blocks_of p w) e (sym (ap (first_full 0) is) ∙ found) in
    let within : full.behind < resident_banks (2 ^ w) (wants_of p) = omega (arith, full.within, blocks_counted p w) in
    let same : 0 + full.behind ≡ full.behind = omega arith in
    subst (ResidentsRefuse p w) (sym (full.is ∙ ap (λ n. BankFull n) same)) (
      fit,
      record {
        full = omega (
          arith,
          subst (λ n. most_blocks n < get_or (blocks_of p w) full.behind 0) same full.full,
          blocks_at p w full.behind within,
        );
        first = λ b less.
            let other : 0 + b ≡ b = omega arith in
            omega (
              arith,
              subst (λ n. get_or (blocks_of p w) b 0 ≤ most_blocks n) other (full.first b less),
              blocks_at p w b (omega (arith, less, within)),
            );
      },
    )

pub banks_fit : (p : Source) (w : ℕ) (blocks : List ℕ) → ScalarsFit p w → blocks ≡ blocks_of p w
    → first_full 0 blocks ≡ None → ResidentsFit p w
banks_fit p w blocks fit is none = record {
  scalars = fit;
  banks = λ b within.
      let same : 0 + b ≡ b = omega arith in
      omega (
        arith,
        subst (λ n. get_or (blocks_of p w) b 0 ≤ most_blocks n) same
            (none_full 0 (blocks_of p w) (sym (ap (first_full 0) is) ∙ none) b
            (omega (arith, within, blocks_counted p w))),
        blocks_at p w b within,
      );
}

pub blocks_few : (p : Source) (w : ℕ) (blocks : List ℕ) → blocks ≡ blocks_of p w → length blocks ≤ 10
blocks_few p w blocks is =
    omega (arith, ap (λ (bs : List ℕ). length bs) is, blocks_counted p w, banks_few (2 ^ w) (wants_of p))
