-- A block that is in no bucket of its leaf's path is in the stash.
use Rattle.std.proofs.Common.{◌≡◌, ℕ, zero, suc, ◌+◌, ◌-◌, ◌<◌, ◌≤◌, ◌^◌, List, [], ◌∷◌, ◌++◌, length, get_or, sym, ap, ◌∙◌, subst, ⊎_elim, arith}
use Rattle.std.specs.Prelude.{Contains}
use Rattle.std.specs.List.{flat_map, range_with_len}
use Rattle.std.proofs.lemmas.Bool.{cases_lt, cases_eq}
use Rattle.std.proofs.lemmas.List.Elements.{All-contains, All-contains_itself, Contains-append_cases}
use Rattle.std.proofs.lemmas.List.FromFn.{length-range_with_len, get_or-range_with_len}
use Rattle.std.proofs.lemmas.List.Sorted.{All-permutation, IsPermutation-sym}
use Rattle.path_oram.specs.Prelude.{Places, held, index_on, bucket_number, on_path, IsWhole}
use Rattle.path_oram.proofs.PathNumbers.{twice}

-- a bucket's number has a level and an index
pub record Numbered (height number : ℕ) : Type 0 where
  pub level : ℕ
  pub index : ℕ
  pub within : level ≤ height
  pub small : index < 2 ^ level
  pub is : number ≡ bucket_number level index

pub numbered : (height number : ℕ) → 1 ≤ number → number < 2 ^ suc height → Numbered height number
numbered zero number one less = record {
  level = 0;
  index = 0;
  within = omega arith;
  small = omega arith;
  is = omega (arith, less);
}
numbered (suc height) number one less =
    ⊎_elim
    (λ below. let found = numbered height number one below in record {
      level = found.level;
      index = found.index;
      within = omega (arith, found.within);
      small = found.small;
      is = found.is;
    })
    (λ above. record {
      level = suc height;
      index = number - 2 ^ suc height;
      within = omega arith;
      small = omega (arith, less, twice (suc height), above);
      is = omega (arith, above);
    })
    (cases_lt number (2 ^ suc height))

-- a block that is in some bucket
pub record StandsIn (tree : List (List ℕ)) (block : ℕ) : Type 0 where
  pub number : ℕ
  pub within : number < length tree
  pub there : Contains (held tree number) block

pub stands_in : (tree : List (List ℕ)) (block : ℕ)
    → Contains (flat_map (λ bucket. bucket) tree) block → StandsIn tree block
stands_in [] block there = absurd (omega (arith, there.1))
stands_in (bucket ∷ tree) block there =
    ⊎_elim
    (λ here. record { number = 0; within = omega arith; there = here })
    (λ later. let found = stands_in tree block later in record {
      number = suc found.number;
      within = omega (arith, found.within);
      there = found.there;
    })
    (Contains-append_cases bucket (flat_map (λ b. b) tree) block there)

-- each block is in the stash or in a bucket
pub somewhere : (p : Places)
    → IsWhole p → (block : ℕ) → block < length p.leaves → Contains (p.stash ++ flat_map (λ bucket. bucket) p.tree) block
somewhere p whole block exists =
    let all = p.stash ++ flat_map (λ bucket. bucket) p.tree in
    let count = length p.leaves in
    let numbers =
    All-permutation (Contains all) all (range_with_len 0 count)
    (IsPermutation-sym (range_with_len 0 count) all whole.once) (All-contains_itself all) in
    let within : block < length (range_with_len 0 count) = omega (arith, exists, length-range_with_len 0 count) in
    let sum : 0 + block ≡ block = omega arith in
    let read : get_or (range_with_len 0 count) block 0 ≡ block = get_or-range_with_len 0 count block 0 exists ∙ sum in
    subst (Contains all) read (numbers block 0 within)

-- a block that is on no level of its path is in the stash
pub in_stash : (p : Places) → IsWhole p → (block : ℕ) → block < length p.leaves
    → ((level : ℕ) → level < p.height + 1
    → Contains (held p.tree (on_path p.height (get_or p.leaves block 0) level)) block → ⊥) → Contains p.stash block
unfolding on_path
in_stash p whole block exists never =
    ⊎_elim
    (λ there. there)
    (λ placed.
    let found = stands_in p.tree block placed in
    let some : 1 ≤ found.number =
    ⊎_elim
    (λ is. absurd (nowhere (held p.tree found.number) block (ap (held p.tree) is ∙ whole.unused) found.there))
    (λ other. omega (arith, other))
    (cases_eq found.number 0) in
    let at = numbered p.height found.number some (omega (arith, found.within, whole.buckets)) in
    let here : Contains (held p.tree (bucket_number at.level at.index)) block =
    subst (λ n. Contains (held p.tree n) block) at.is found.there in
    let on : index_on p.height (get_or p.leaves block 0) at.level ≡ at.index =
    All-contains (λ b. index_on p.height (get_or p.leaves b 0) at.level ≡ at.index)
    (held p.tree (bucket_number at.level at.index)) block (whole.placed at.level at.index at.within at.small) here in
    absurd (never at.level (omega (arith, at.within))
    (subst (λ i. Contains (held p.tree (bucket_number at.level i)) block) (sym on) here)))
    (Contains-append_cases p.stash (flat_map (λ bucket. bucket) p.tree) block (somewhere p whole block exists))
  where
    nowhere : (bucket : List ℕ) (b : ℕ) → bucket ≡ [] → Contains bucket b → ⊥
    nowhere bucket b none there = omega (arith, there.1, ap length none)

-- the bucket that the code reads is that of the block's path
pub bucket_read : (p q : Places) (tree : List (List ℕ)) (leaf number level block : ℕ)
    → p ≡ q → tree ≡ p.tree → leaf ≡ get_or p.leaves block 0 → number ≡ on_path p.height leaf level
    → held tree number ≡ held q.tree (on_path q.height (get_or q.leaves block 0) level)
bucket_read p q tree leaf number level block same trees leaves numbers =
    ap (λ n. held tree n) (numbers ∙ ap (λ l. on_path p.height l level) leaves)
    ∙ ap (λ t. held t (on_path p.height (get_or p.leaves block 0) level)) trees
    ∙ ap (λ (r : Places). held r.tree (on_path r.height (get_or r.leaves block 0) level)) same

-- a block that isn't on one more level
pub one_level_more : (bucket : ℕ → List ℕ) (block level : ℕ) → ((l : ℕ) → l < level → Contains (bucket l) block → ⊥)
    → (Contains (bucket level) block → ⊥) → (l : ℕ) → l < level + 1 → Contains (bucket l) block → ⊥
one_level_more bucket block level before here l less there =
    ⊎_elim
    (λ early. before l early there)
    (λ late. let is : l ≡ level = omega (arith, less, late) in here (subst (λ n. Contains (bucket n) block) is there))
    (cases_lt l level)
