use Rattle.std.proofs.Common.{◌≤◌, length, Option, Some, None, Result, Ok, Err, IfOk, IfSome}
use Rattle.machine_verbs.specs.declared.bus.BusWords.{BusWords}
use Rattle.machine_verbs.proofs.bus.SharedBusRequest.words.Goals as goal

both : {T E : Type 0} (P Q : T → Type 0) (result : Result (Option T) E) → IfOk result (λ found. IfSome found P)
    → IfOk result (λ found. IfSome found Q) → IfOk result (λ found. IfSome found (λ x. P x × Q x))
both P Q (Ok (Some x)) p q = (p, q)
both P Q (Ok None) p q = tt
both P Q (Err e) p q = tt

pub returns-clause-within : goal.returns-clause-within
returns-clause-within c =
    both (λ (a : BusWords). 1 ≤ a.cycles) (λ (a : BusWords). length a.pairs.items ≤ 8) c.words_in.result
    c.words_in.ensures.some_cycle c.words_in.ensures.most
