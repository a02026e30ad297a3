use Rattle.std.proofs.Common.{◌≡◌, ◌∙◌, ◌+◌, ◌<◌, ℕ, length, get_or, ap, sym, subst, arith}
use Rattle.std.specs.List.{range_with_len}
use Rattle.std.specs.List.Sorted.{IsPermutation}
use Rattle.path_oram.proofs.Paired.{order_length, pairs_order}
use Rattle.path_oram.proofs.runs.rearrange.Goals as goal

pub paired-requires-clause-once : goal.paired-requires-clause-once
paired-requires-clause-once c =
    let n = c.args.count + length c.args.first.now in
    let from = c.in_ok-from.from.items in
    rw c.as_slice.ensures.value
    (subst (λ k. IsPermutation (range_with_len 0 k) from)
    (sym (order_length n from c.in_ok-from.ensures.once)) c.in_ok-from.ensures.once)

pub paired-requires-clause-same : goal.paired-requires-clause-same
paired-requires-clause-same c =
    let first = order_length
    (c.args.count + length c.args.first.now) c.in_ok-from.from.items c.in_ok-from.ensures.once in
    let second = order_length (c.args.count + length c.args.second.now) c.in_ok-to.to.items c.in_ok-to.ensures.once in
    omega (
      arith,
      first,
      second,
      c.requires.same,
      ap length c.as_slice.ensures.value,
      ap length
          c.as_slice-2.ensures.value,
    )

pub returns : goal.returns
returns c =
    let n = c.args.count + length c.args.first.now in
    let from = c.in_ok-from.from.items in
    let to = c.in_ok-to.to.items in
    let pairs = c.in_ok-pairs.pairs.items in
    let long = order_length n from c.in_ok-from.ensures.once in
    let same : c.args.count + length c.args.second.now ≡ n = omega (arith, c.requires.same) in
    let second : IsPermutation (range_with_len 0 n) to = subst
    (λ k. IsPermutation (range_with_len 0 k) to) same c.in_ok-to.ensures.once in
    let size : length pairs ≡ n = c.in_ok-pairs.ensures.size ∙ ap length c.as_slice.ensures.value ∙ long in
    let each : (i : ℕ) → i < n → get_or pairs (get_or from i 0) 0 ≡ get_or to i 0 =
    λ i less.
    let within : i < length c.as_slice.result.now = omega (arith, less, long, ap length c.as_slice.ensures.value) in
    ap (λ l. get_or pairs (get_or l i 0) 0) (sym c.as_slice.ensures.value) ∙ c.in_ok-pairs.ensures.pairs i within
    ∙ ap (λ l. get_or l i 0) c.as_slice-2.ensures.value in
    record {
      from = from;
      to = to;
      from_first = c.in_ok-from.ensures;
      to_second = c.in_ok-to.ensures;
      pairs = each;
      permutation = pairs_order n from to pairs c.in_ok-from.ensures.once second size each;
    }
