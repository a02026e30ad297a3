use Rattle.std.proofs.Common.{◌≡◌, ◌∙◌, ◌+◌, ◌++◌, length, ap, sym, subst}
use Rattle.std.specs.List.Sorted.{IsPermutation}
use Rattle.std.proofs.lemmas.List.Sorted.{IsPermutation-trans, IsPermutation-append_right, IsNonDecreasingBy-from_sort}
use Rattle.std.specs.List.{range_with_len}
use Rattle.path_oram.specs.Prelude.{words_read, words_next}
use Rattle.path_oram.proofs.WordsOnce.{each_word_once}
use Rattle.path_oram.proofs.runs.words_in_order.Goals as goal

pub returns : goal.returns
returns c =
    let count = c.args.count in
    let blocks = c.args.blocks.now in
    let left = c.sort.new.self.items in
    let read = words_read count blocks in
    let next = words_next count blocks in
    let parts : c.extend_from_slice.new.self.items ≡ read ++ left =
    c.in_ok-extend_from_slice.ensures.items ∙ ap (λ l. c.in_ok-order.order.items ++ l) c.as_slice.ensures.value
    ∙ ap (λ l. l ++ left) c.in_ok-order.ensures.numbers in
    let sorted : IsPermutation next left = subst
    (λ l. IsPermutation l left) c.in_ok-order.ensures.next c.in_ok-sort.ensures.permutation in
    record {
      left = left;
      parts = parts;
      rising = IsNonDecreasingBy-from_sort (λ x. x) left c.in_ok-sort.ensures.sorted;
      once = subst (IsPermutation (range_with_len 0 (count + length blocks))) (sym parts)
          (IsPermutation-trans (range_with_len 0 (count + length blocks)) (read ++ next) (read ++ left)
          (each_word_once count blocks c.requires.exist)
          (IsPermutation-append_right read next left sorted));
    }
