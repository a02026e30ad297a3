-- A branch on a secret weighs twice what its parts weigh, so that only few are nested.
use Rattle.std.proofs.Common.{◌≡◌, ℕ, suc, ◌+◌, ◌*◌, ◌^◌, ◌<◌, ◌≤◌, max, ap, ◌∙◌, subst, ⊎_elim, arith, pow_mono}
use Rattle.std.proofs.Math.Nat.{pow-suc}
use Rattle.std.proofs.lemmas.Bool.{cases_lt}
use Rattle.gr_word.specs.declared.variables.Label.{Label}
use Rattle.gr_word.specs.declared.variables.Label.TheVariants.{Public, Secret}
use Rattle.src_tree.specs.Prelude.{Context, label_of_test, max_weight, test_weight, parts_weight, statement_weight, block_weight, Test, Statement, SetVariable, SetElement, Choice, Loop, Block, Nothing, Then}
use Rattle.trace_patterns.specs.Prelude.{most_regions}
use Rattle.branch_padding.specs.Prelude.{nesting_of, nesting_of_block}

-- the greater of two
doubled : (n : ℕ) → 2 ^ (1 + n) ≡ 2 ^ n * 2
doubled n = let next : 1 + n ≡ suc n = omega arith in ap (λ (m : ℕ). 2 ^ m) next ∙ pow-suc 2 n

either-less : (x y a b : ℕ) → 2 ^ x ≤ 1 + a → 2 ^ y ≤ 1 + b → 2 ^ max x y ≤ 1 + (a + b)
either-less x y a b left right =
    ⊎_elim
    (λ (lt : x < y).
    let greater : y ≡ max x y = omega arith in
    subst (λ (n : ℕ). 2 ^ n ≤ 1 + (a + b)) greater (omega arith))
    (λ (le : y ≤ x).
    let greater : x ≡ max x y = omega arith in
    subst (λ (n : ℕ). 2 ^ n ≤ 1 + (a + b)) greater (omega arith))
    (cases_lt x y)

-- one more branch
one-more : (n parts test : ℕ) → 2 ^ n ≤ 1 + parts → 2 ^ (1 + n) ≤ 1 + (1 + (test + (parts + parts)))
one-more n parts test less = omega (arith, doubled n)

mutual
  pub statement-nesting : (known : Context) (s : Statement) → 2 ^ nesting_of s ≤ 1 + statement_weight known Secret s
  statement-nesting known (SetVariable x e) = omega arith
  statement-nesting known (SetElement x i e) = omega arith
  statement-nesting known (Choice t a b) =
      one-more (max (nesting_of_block a) (nesting_of_block b))
      (block_weight known Secret a + block_weight known Secret b)
      (test_weight t)
      (either-less (nesting_of_block a) (nesting_of_block b) (block_weight known Secret a) (block_weight known Secret b)
      (block-nesting known a) (block-nesting known b))
  statement-nesting known (Loop t a) = let less = block-nesting known a in omega arith

  pub block-nesting : (known : Context) (b : Block) → 2 ^ nesting_of_block b ≤ 1 + block_weight known Secret b
  block-nesting known Nothing = omega arith
  block-nesting known (Then s rest) =
      either-less (nesting_of s) (nesting_of_block rest) (statement_weight known Secret s)
      (block_weight known Secret rest) (statement-nesting known s) (block-nesting known rest)

-- what is within the limit of weight is nested few times
few : (n weight : ℕ) → 2 ^ n ≤ 1 + weight → weight ≤ max_weight → n ≤ most_regions
few n weight less within =
    ⊎_elim
    (λ (lt : most_regions < n).
    let more : 2 ^ 64 ≤ 2 ^ n = pow_mono {i = 64} {j = n} (omega arith) in absurd (omega arith))
    (λ (le : n ≤ most_regions). le)
    (cases_lt most_regions n)

-- a branch on a secret in public code
pub choice-nesting : (known : Context) (t : Test) (a b : Block) → label_of_test known t ≡ Secret
    → statement_weight known Public (Choice t a b) ≤ max_weight → nesting_of (Choice t a b) ≤ most_regions
choice-nesting known t a b secret within =
    let weight : statement_weight known Public (Choice t a b) ≡ statement_weight known Secret (Choice t a b) =
    ap (λ (l : Label). 1 + (test_weight t + parts_weight l (block_weight known l a + block_weight known l b))) secret in
    few (nesting_of (Choice t a b)) (statement_weight known Secret (Choice t a b))
    (statement-nesting known (Choice t a b)) (omega arith)
