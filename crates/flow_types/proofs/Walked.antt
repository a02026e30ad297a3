-- The walk over the statements meets the first error among them, for any kind of error.
use Rattle.std.proofs.Common.{◌≡◌, ℕ, ◌+◌, Option, Some, None, Result, Ok, refl, ap, ◌∙◌, arith}
use Rattle.std.specs.Option.{option_or}
use Rattle.gr_base.specs.Prelude.{◌>>=◌}
use Rattle.gr_word.specs.declared.variables.Label.{Label}
use Rattle.src_tree.specs.Prelude.{Statement, SetVariable, SetElement, Choice, Loop, Block, Nothing, Then, Context, inside, StatementFault, first_among, shown_number, in_order, count_of, block_count, statement_fault, block_fault}
use Rattle.src_tree.specs.declared.faults.TypeError.{TypeError}
use Rattle.flow_types.specs.Prelude.{finish, fault_of, walk_statement, walk_block}
use Rattle.src_tree.proofs.InOrder.{block_first}

-- an error depends on a statement's number only up to 2^64 - 1
abbrev pub IsCapped : StatementFault → Type 0
IsCapped fault = (code : Label) (n : ℕ) (s : Statement) → fault code (shown_number n) s ≡ fault code n s

pub capped_twice : (n m : ℕ) → shown_number (shown_number n + m) ≡ shown_number (n + m)
capped_twice n m = omega arith

-- the error of one statement, and then those of others, which are numbered from the next one on
then_walk : (a b : Option TypeError) (n m : ℕ) (f : ℕ → Result ℕ TypeError) → f (shown_number n) ≡ finish b m
    → (finish a n >>= f) ≡ finish (option_or a b) m
then_walk None b n m f h = h
then_walk (Some e) b n m f h = refl

start : (fault : StatementFault) → IsCapped fault → (code : Label) (n : ℕ) (s : Statement)
    → finish (fault code (shown_number n) s) (shown_number n + 1) ≡ finish (fault code n s) (n + 1)
start fault capped code n s =
    let numbers : finish (fault code (shown_number n) s) (shown_number n + 1)
    ≡ finish (fault code (shown_number n) s) (n + 1) = same
    (fault code (shown_number n) s) in
    numbers ∙ ap (λ a. finish a (n + 1)) (capped code n s)
  where
    same : (a : Option TypeError) → finish a (shown_number n + 1) ≡ finish a (n + 1)
    same None = ap (λ k. let r : Result ℕ TypeError = Ok k in r) (capped_twice n 1)
    same (Some e) = refl

at_number : (a : Option TypeError) (n m : ℕ) → n ≡ m → finish a n ≡ finish a m
at_number a n m e = ap (finish a) e

mutual
  pub walked : (known : Context) (fault : StatementFault) (capped : IsCapped fault) (code : Label) (n : ℕ)
      (s : Statement)
      → walk_statement known fault code (shown_number n) s
      ≡ finish (statement_fault known fault code n s) (n + count_of s)
  walked known fault capped code n (SetVariable x e) = start fault capped code n (SetVariable x e)
  walked known fault capped code n (SetElement x i e) = start fault capped code n (SetElement x i e)
  walked known fault capped code n (Choice t a b) =
      let arms = inside known code t in
      ap (λ r. r >>= λ m. walk_block known fault arms m a >>= λ k. walk_block known fault arms k b)
      (start fault capped code n (Choice t a b))
      ∙ then_walk (fault code n (Choice t a b))
      (option_or (block_fault known fault arms (n + 1) a) (block_fault known fault arms ((n + 1) + block_count a) b))
      (n + 1) (n + (1 + (block_count a + block_count b)))
      (λ m. walk_block known fault arms m a >>= λ k. walk_block known fault arms k b)
      (ap (λ r. r >>= λ k. walk_block known fault arms k b) (block_walked known fault capped arms (n + 1) a)
      ∙ then_walk (block_fault known fault arms (n + 1) a) (block_fault known fault arms ((n + 1) + block_count a) b)
      ((n + 1) + block_count a) (n + (1 + (block_count a + block_count b)))
      (λ k. walk_block known fault arms k b)
      (block_walked known fault capped arms ((n + 1) + block_count a) b
      ∙ at_number (block_fault known fault arms ((n + 1) + block_count a) b) (((n + 1) + block_count a) + block_count b)
      (n + (1 + (block_count a + block_count b))) (omega arith)))
  walked known fault capped code n (Loop t a) =
      ap (λ r. r >>= λ m. walk_block known fault code m a) (start fault capped code n (Loop t a))
      ∙ then_walk (fault code n (Loop t a)) (block_fault known fault code (n + 1) a) (n + 1) (n + (1 + block_count a))
      (λ m. walk_block known fault code m a)
      (block_walked known fault capped code (n + 1) a
      ∙ at_number (block_fault known fault code (n + 1) a) ((n + 1) + block_count a) (n + (1 + block_count a))
      (omega arith))

  pub block_walked : (known : Context) (fault : StatementFault) (capped : IsCapped fault) (code : Label) (n : ℕ)
      (b : Block)
      → walk_block known fault code (shown_number n) b ≡ finish (block_fault known fault code n b) (n + block_count b)
  block_walked known fault capped code n Nothing =
      ap (λ k. let r : Result ℕ TypeError = Ok (shown_number k) in r) (let e : n ≡ n + 0 = omega arith in e)
  block_walked known fault capped code n (Then s rest) =
      ap (λ r. r >>= λ m. walk_block known fault code m rest) (walked known fault capped code n s)
      ∙ then_walk (statement_fault known fault code n s) (block_fault known fault code (n + count_of s) rest)
      (n + count_of s) (n + (count_of s + block_count rest)) (λ m. walk_block known fault code m rest)
      (block_walked known fault capped code (n + count_of s) rest
      ∙ at_number (block_fault known fault code (n + count_of s) rest) ((n + count_of s) + block_count rest)
      (n + (count_of s + block_count rest)) (omega arith))

fault_finished : (a : Option TypeError) (n : ℕ) → fault_of (finish a n) ≡ a
fault_finished None n = refl
fault_finished (Some e) n = refl

-- the walk over a whole program
pub fault_walked : (known : Context) (fault : StatementFault) (capped : IsCapped fault) (code : Label) (b : Block)
    → fault_of (walk_block known fault code 0 b) ≡ block_fault known fault code 0 b
fault_walked known fault capped code b =
    ap fault_of (block_walked known fault capped code 0 b)
    ∙ fault_finished (block_fault known fault code 0 b) (0 + block_count b)

-- the walk over a whole block meets the first error among its statements
pub first_walked : (known : Context) (fault : StatementFault) (capped : IsCapped fault) (code : Label) (b : Block)
    → fault_of (walk_block known fault code 0 b) ≡ first_among fault 0 (in_order known code b)
first_walked known fault capped code b = fault_walked known fault capped code b ∙ block_first known fault code 0 b
