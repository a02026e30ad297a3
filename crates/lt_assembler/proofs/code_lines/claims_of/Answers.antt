use Rattle.std.proofs.Common.{◌≡◌, List, ℕ, length, map, take, Some, sym, ap, ◌∙◌, arith}
use Rattle.std.specs.Borrow.{Bor}
use Rattle.std.proofs.lemmas.List.{take_more_set, length-set, length-map, take_all}
use Rattle.lt_assembler.proofs.Claims.{claims_go_on, claims_fail, claims_end}
use Rattle.lt_assembler.proofs.code_lines.claims_of.Goals as goal

pub returns-in_err-claims : goal.returns-in_err-claims
returns-in_err-claims c =
    let words : List (List ℕ) = map (λ (w : Bor (List ℕ)). w.now) c.args.words.now in
    let size : length words ≡ 8 = length-map c.args.words.now (λ (w : Bor (List ℕ)). w.now) ∙ c.requires.all in
    let fails =
    claims_fail c.args.banks words c.loop-i.i (take c.loop-i.i c.loop-i.claims) (omega arith)
    (sym c.claim_at.ensures ∙ c.in_err-claims.was) in
    c.from_residual.ensures ∙ sym (c.loop-i.invariant.claims ∙ fails)

pub loop-i-preserved : goal.loop-i-preserved
loop-i-preserved c =
    let words : List (List ℕ) = map (λ (w : Bor (List ℕ)). w.now) c.args.words.now in
    let size : length words ≡ 8 = length-map c.args.words.now (λ (w : Bor (List ℕ)). w.now) ∙ c.requires.all in
    record {
      size = omega (arith, length-set c.loop-i.claims c.loop-i.i c.in_ok-claims.field-0, c.loop-i.invariant.size);
      claims = rw (take_more_set c.loop-i.claims c.loop-i.i c.in_ok-claims.field-0
          (omega (arith, c.loop-i.invariant.size, c.loop-i-test.true)))
          (c.loop-i.invariant.claims ∙ claims_go_on c.args.banks words c.loop-i.i (take c.loop-i.i c.loop-i.claims)
          c.in_ok-claims.field-0 (omega arith) (sym c.claim_at.ensures ∙ c.in_ok-claims.was));
    }

pub returns : goal.returns
returns c =
    let words : List (List ℕ) = map (λ (w : Bor (List ℕ)). w.now) c.args.words.now in
    let size : length words ≡ 8 = length-map c.args.words.now (λ (w : Bor (List ℕ)). w.now) ∙ c.requires.all in
    let ends = claims_end c.args.banks words c.loop-i.i (take c.loop-i.i c.loop-i.claims) (omega arith) in
    let whole = take_all c.loop-i.i c.loop-i.claims (omega (arith, c.loop-i.invariant.size)) in
    sym (c.loop-i.invariant.claims ∙ ends ∙ ap (λ (cs : List ℕ). Some cs) whole)
