use Rattle.std.proofs.Common.{◌≡◌, ◌++◌, List, ℕ, length, map, take, drop}
use Rattle.std.specs.Borrow.{Bor}
use Rattle.std.specs.Prelude.{option_map}
use Rattle.lt_assembler.specs.Prelude.{claims_of}
use Rattle.lt_assembler.proofs.code_lines.claims_of.Given as goal

abbrev pub invariant-loop-i : goal.invariant-loop-i
invariant-loop-i l = record {
  size : length l.claims ≡ 8;
  claims : claims_of l.banks (map (λ (w : Bor (List ℕ)). w.now) l.words)
      ≡ option_map (λ (rest : List ℕ). take l.i l.claims ++ rest)
      (claims_of l.banks (drop l.i (map (λ (w : Bor (List ℕ)). w.now) l.words)));
}
