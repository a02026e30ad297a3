use Rattle.std.proofs.Common.{rules}
use Rattle.std.proofs.lemmas.List.Sorted.{IsNonDecreasingBy-from_sort_by_key}
use Rattle.bank_alloc.specs.Prelude.{symbol_key}
use Rattle.bank_alloc.proofs.symbol_lists.sort.Goals as goal

pub returns-in-Ok-clause-order : goal.returns-in-Ok-clause-order
returns-in-Ok-clause-order c =
    IsNonDecreasingBy-from_sort_by_key symbol_key _ c.in-Ok.ensures.sorted (λ a r q k. search rules)
