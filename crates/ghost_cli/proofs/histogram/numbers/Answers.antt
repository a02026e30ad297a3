use Rattle.std.proofs.lemmas.Int.{ints}
use Rattle.std.proofs.Common.{◌≡◌, suc, ◌+◌, ◌<◌, to_z, of_z, w64, ℤ, pos, List, [], ◌∷◌, ◌++◌, sym, ap, ap₂, ◌∙◌, arith}
use Rattle.call_steps.specs.Prelude.{next_number, histogram_number}
use Rattle.ghost_cli.proofs.SampleInputs.{number_at-first, number_at-next, number_at-small, numbers-more}
use Rattle.ghost_cli.proofs.histogram.numbers.Goals as goal

pub loop-init : goal.loop-init
loop-init c = record { words = c.in_ok-words.ensures.items; last = sym number_at-first }

pub next_number-last-requires : goal.next_number-last-requires
next_number-last-requires c = omega (arith, c.loop.invariant.last, number_at-small c.loop.counter)

pub loop-preserved : goal.loop-preserved
loop-preserved c =
    let k = c.loop.counter in
    let last : c.next_number-last.result ≡ histogram_number (suc k) =
    c.next_number-last.ensures.value ∙ ap next_number c.loop.invariant.last ∙ sym (number_at-next k) in
    let further : suc k ≡ k + 1 = omega arith in
    let small : c.next_number-last.result < 2147483648 = c.next_number-last.ensures.small in
    let kept : to_z w64 (of_z w64 c.from.result) ≡ pos (histogram_number (suc k)) =
    omega (arith, ints, c.from.ensures, small, last) in
    record {
      words = c.in_ok-push.ensures.items
          ∙ ap₂ (λ (xs : List ℤ) (x : ℤ). xs ++ x ∷ []) c.loop.invariant.words kept
          ∙ sym (numbers-more k);
      last = last ∙ ap histogram_number further;
    }
