-- The banks of a program: how many there are, and how many blocks each has.
use Rattle.std.proofs.Common.{◌≡◌, ℕ, zero, suc, ◌+◌, ◌%◌, ◌^◌, ◌<◌, ◌≤◌, Bool, true, false, cond, List, [], ◌∷◌, length, map, take, get_or, Option, Some, None, refl, sym, ap, ◌∙◌, subst, arith}
use Rattle.std.specs.Prelude.{count_by}
use Rattle.std.specs.List.{All}
use Rattle.std.proofs.Math.Nat.{mod-eq_of_lt}
use Rattle.std.proofs.lemmas.Nat.{pow_pos}
use Rattle.std.proofs.lemmas.Bool.{leb-true}
use Rattle.std.proofs.lemmas.List.{length-take-le, get_or-map, length-map}
use Rattle.std.proofs.lemmas.List.Sums.{sum_by-cons}
use Rattle.gr_base.specs.Prelude.{Within, EachAfter}
use Rattle.gr_base.proofs.EachAfter.{EachAfter-from_below}
use Rattle.lt_isa.specs.declared.profiles.BankSpec.{BankSpec}
use Rattle.lt_isa.specs.Prelude.{most_blocks, most_latency, BankFits}
use Rattle.src_tree.specs.declared.trees.Decl.{Decl}
use Rattle.src_tree.specs.Prelude.{LengthFits, IsWithinLimits, Source}
use Rattle.bank_alloc.specs.declared.places.Place.{Place}
use Rattle.bank_alloc.specs.Prelude.{blocks_for, is_oblivious, first_free_block, places_of, bank_count, blocks_needed}
use Rattle.bank_alloc.proofs.EachPlace.{any_decl, any_place, length-places, scalar_place_at, array_place_at, blocks_for-some, array_before_free}
use Rattle.bank_alloc.proofs.Apart.{length_at, scalar_bank-lt}

-- a list reaches each count below the last at an item that counts
pub record ReachesAt {X : Type 0} (p : X → Bool) (xs : List X) (n : ℕ) : Type 0 where
  pub at : ℕ
  pub within : at < length xs
  pub before : count_by p (take at xs) ≡ n
  pub counts : (d : X) → p (get_or xs at d) ≡ true

pub count_reaches : {X : Type 0} (p : X → Bool) (xs : List X) (n : ℕ) → n < count_by p xs → ReachesAt p xs n
count_reaches p [] n less = absurd (omega (arith, less))
count_reaches {X} p (x ∷ xs) n less = by (p x) refl n less (count_reaches p xs) where
  whole : count_by p (x ∷ xs) ≡ cond (p x) 1 0 + count_by p xs
  whole = sum_by-cons (λ x. cond (p x) 1 0) x xs

  front : (k : ℕ) → count_by p (x ∷ take k xs) ≡ cond (p x) 1 0 + count_by p (take k xs)
  front k = sum_by-cons (λ x. cond (p x) 1 0) x (take k xs)

  behind : (n m : ℕ) → n ≡ cond (p x) 1 0 + m → ReachesAt p xs m → ReachesAt p (x ∷ xs) n
  behind n m is r = record {
    at = suc r.at;
    within = omega (arith, r.within);
    before = omega (arith, front r.at, r.before, is);
    counts = λ d. r.counts d;
  }

  by : (b : Bool) → p x ≡ b → (n : ℕ) → n < count_by p (x ∷ xs) → ((n : ℕ) → n < count_by p xs → ReachesAt p xs n)
      → ReachesAt p (x ∷ xs) n
  by true here zero less later = record { at = 0; within = omega arith; before = refl; counts = λ d. here }
  by true here (suc n) less later =
      let one : ◌≡◌ {A = ℕ} (cond (p x) 1 0) 1 = ap (λ b. cond b 1 0) here in
      behind (suc n) n (omega (arith, one)) (later n (omega (arith, less, whole, one)))
  by false here n less later =
      let none : ◌≡◌ {A = ℕ} (cond (p x) 1 0) 0 = ap (λ b. cond b 1 0) here in
      behind n n (omega (arith, none)) (later n (omega (arith, less, whole, none)))

-- every oblivious bank has the blocks of an array
oblivious_bank_some : (p : Source) (w m : ℕ) (d : Decl) (q : Place) → IsWithinLimits p → m < 8
    → ReachesAt is_oblivious (places_of p w) m → 1 ≤ blocks_needed p w (2 + m)
oblivious_bank_some p w m d q limits few r = by (get_or p.decls r.at d).length refl where
  here : r.at < length p.decls
  here = omega (arith, r.within, length-places p w)

  past : 2 ≤ (get_or (places_of p w) r.at q).bank
  past = leb-true 2 (get_or (places_of p w) r.at q).bank (r.counts q)

  by : (l : Option ℕ) → (get_or p.decls r.at d).length ≡ l → 1 ≤ blocks_needed p w (2 + m)
  by None none =
      let is = scalar_place_at p w r.at d q here none in
      absurd (omega (arith, past, is.bank, scalar_bank-lt (get_or p.decls r.at d).label))
  by (Some n) some =
      let is = array_place_at p w r.at n d q here some in
      let fits : Within 1 1048576 n = subst LengthFits some (length_at p.decls limits.lengths r.at d here) in
      let bank : (get_or (places_of p w) r.at q).bank ≡ 2 + m =
      is.used past ∙ ap (λ k. 2 + k % 8) r.before ∙ ap (λ k. 2 + k) (mod-eq_of_lt few) in
      let taken : 1 ≤ blocks_for (2 ^ w) (get_or (places_of p w) r.at q).length =
      blocks_for-some (2 ^ w) (get_or (places_of p w) r.at q).length (pow_pos w)
      (omega (arith, is.all_words, fits.0)) in
      omega (
        arith,
        array_before_free (2 ^ w) (places_of p w) r.at q r.within is.array,
        taken,
        ap (λ b. first_free_block (2 ^ w) b (places_of p w)) bank,
      )

-- every bank has a block
pub bank_some : (p : Source) (w bank : ℕ)
    → IsWithinLimits p → bank < bank_count (places_of p w) → 1 ≤ blocks_needed p w bank
bank_some p w zero limits within = omega arith
bank_some p w (suc zero) limits within = omega arith
bank_some p w (suc (suc m)) limits within =
    let same : 2 + m ≡ suc (suc m) = omega arith in
    subst (λ b. 1 ≤ blocks_needed p w b) same
    (oblivious_bank_some p w m any_decl any_place limits (omega (arith, within))
    (count_reaches is_oblivious (places_of p w) m (omega (arith, within))))

-- banks with these numbers of blocks are in range, where their latencies are
pub banks_fit : (blocks : List ℕ) (banks : List BankSpec)
    → ((b : ℕ) → b < length blocks → Within 1 (most_blocks b) (get_or blocks b 0))
    → map (λ b. b.blocks) banks ≡ blocks → All (λ b. Within 1 most_latency b.latency) banks → EachAfter BankFits [] banks
banks_fit blocks banks fit is latencies = EachAfter-from_below BankFits banks (λ k e within.
    let there : k < length blocks =
    omega (arith, within, length-map banks (λ (b : BankSpec). b.blocks), ap (λ (l : List ℕ). length l) is) in
    let same : get_or blocks k 0 ≡ (get_or banks k e).blocks =
    ap (λ (l : List ℕ). get_or l k 0) (sym is) ∙ get_or-map (λ (b : BankSpec). b.blocks) banks k e 0 within in
    record {
      blocks = subst (λ n. Within 1 (most_blocks n) (get_or banks k e).blocks)
          (sym (length-take-le k banks (omega (arith, within))))
          (subst (Within 1 (most_blocks k)) same (fit k there));
      latency = latencies k e within;
    })
