use Rattle.std.proofs.Common.{◌≡◌, ◌∷◌, ◌++◌, flat_map, take}
use Rattle.lt_assembler.specs.Prelude.{claim_word}
use Rattle.lt_assembler.proofs.disassembly.put_claims.Given as goal

abbrev pub invariant-loop-claim : goal.invariant-loop-claim
invariant-loop-claim l =
    l.out.items ≡ l.initial.out.items ++ flat_map (λ claim. 32 ∷ claim_word claim) (take l.claim-index l.claims)
