-- The numbers of the buckets of a path: within the tree, and different on different levels.
use Rattle.std.proofs.Common.{◌≡◌, ℕ, suc, ◌+◌, ◌-◌, ◌*◌, ◌%◌, ◌^◌, ◌<◌, ◌≤◌, ◌≢◌, sym, ap, subst, ◌∙◌, arith, ⊎_elim}
use Rattle.std.proofs.Math.Pow.{pow_mono}
use Rattle.std.proofs.Math.Nat.{two-pow-succ, div-lt_iff_lt-mul}
use Rattle.std.proofs.lemmas.Nat.{pow-add, pow_pos, one_shl}
use Rattle.std.proofs.lemmas.Bool.{cases_lt}
use Rattle.path_oram.specs.Prelude.{index_on, on_path, bucket_number}

-- a level has 2^level buckets, and the path passes through one of them
pub index_on_bound : (height leaf level : ℕ) → level ≤ height → leaf < 2 ^ height
    → index_on height leaf level < 2 ^ level
unfolding index_on
index_on_bound height leaf level within small =
    let sum : level + (height - level) ≡ height = omega arith in
    let parts : 2 ^ height ≡ 2 ^ level * 2 ^ (height - level) = ap (λ n. 2 ^ n) (sym sum)
    ∙ pow-add 2 level (height - level) in
    (div-lt_iff_lt-mul {k = 2 ^ (height - level)} {x = leaf} {y = 2 ^ level} (pow_pos (height - level))).1
    (subst (λ n. leaf < n) parts small)

-- twice a power is the next one
pub twice : (level : ℕ) → 2 ^ suc level ≡ 2 ^ level + 2 ^ level
twice level = two-pow-succ level

pub number_bound : (height level index : ℕ) → level ≤ height → index < 2 ^ level
    → bucket_number level index < 2 ^ suc height
number_bound height level index within small = omega (arith, twice height, pow_mono {i = level} {j = height} within)

-- a bucket on a path is a bucket of the tree
pub on_path_bound : (height leaf level : ℕ) → level ≤ height → leaf < 2 ^ height
    → on_path height leaf level < 2 ^ suc height
unfolding on_path
on_path_bound height leaf level within small =
    number_bound height level (index_on height leaf level) within (index_on_bound height leaf level within small)

-- the number of a bucket determines its level
pub level_of : (a i b j : ℕ) → i < 2 ^ a → j < 2 ^ b → bucket_number a i ≡ bucket_number b j → a ≡ b
level_of a i b j first second same =
    ⊎_elim
    (λ less. absurd (omega (arith, twice a, pow_mono {i = suc a} {j = b} less)))
    (λ more. ⊎_elim
    (λ less. absurd (omega (arith, twice b, pow_mono {i = suc b} {j = a} less)))
    (λ least. omega arith)
    (cases_lt b a))
    (cases_lt a b)

-- the number of a bucket determines its index on its level
pub index_of : (a i b j : ℕ) → i < 2 ^ a → j < 2 ^ b → bucket_number a i ≡ bucket_number b j → i ≡ j
index_of a i b j first second same =
    let powers : 2 ^ a ≡ 2 ^ b = ap (λ n. 2 ^ n) (level_of a i b j first second same) in omega arith

-- a path has different buckets on different levels
pub path_differs : (height leaf a b : ℕ) → a ≤ height → b ≤ height → leaf < 2 ^ height → a ≢ b
    → on_path height leaf a ≢ on_path height leaf b
unfolding on_path
path_differs height leaf a b first second small differ same =
    differ (level_of a (index_on height leaf a) b (index_on height leaf b) (index_on_bound height leaf a first small)
    (index_on_bound height leaf b second small) same)

-- the first n buckets of a path are in a tree of that size, and all different
pub path_within : (height leaf n size : ℕ) → leaf < 2 ^ height → size ≡ 2 ^ suc height → n ≤ suc height
    → (level : ℕ) → level < n → on_path height leaf level < size
path_within height leaf n size small wide most level less =
    omega (arith, on_path_bound height leaf level (omega arith) small)

pub path_apart : (height leaf n : ℕ) → leaf < 2 ^ height → n ≤ suc height
    → (a b : ℕ) → a < n → b < n → a ≢ b → on_path height leaf a ≢ on_path height leaf b
path_apart height leaf n small most a b first second = path_differs height leaf a b (omega arith) (omega arith) small

-- the number that the code calculates
pub calculated : (height leaf level index : ℕ) → level ≤ height → height ≤ 12 → index ≡ index_on height leaf level
    → 1 * 2 ^ level % 4294967296 + index ≡ on_path height leaf level
unfolding on_path
calculated height leaf level index within low is = omega (arith, one_shl level 32 (omega arith), is)

-- a tree has no more than 8,192 buckets
pub small_numbers : (height : ℕ) → height ≤ 12 → 2 ^ suc height ≤ 8192
small_numbers height low = pow_mono {i = suc height} {j = 13} (omega arith)
