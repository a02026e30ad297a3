use Rattle.std.proofs.Common.{◌≡◌, ◌+◌, ◌<◌, ◌∙◌, ◌++◌, ◌∷◌, [], length, get_or, reverse, take, ap, sym, subst, arith, length-set}
use Rattle.std.proofs.lemmas.List.{get_or_default, get_or_read, take_all}
use Rattle.std.proofs.lemmas.List.FromFn.{length-range_with_len, get_or-range_with_len}
use Rattle.path_oram.specs.Prelude.{read_word_number, words_read, words_next}
use Rattle.path_oram.proofs.ReadWords.{read_none, read_more, table_more, table_all}
use Rattle.path_oram.proofs.runs.read_and_next.Goals as goal

pub loop-place-init : goal.loop-place-init
loop-place-init c = record {
  numbers = c.in_ok-numbers.ensures.items ∙ sym (read_none c.args.count);
  size = ap length c.in_ok-last.ensures ∙ length-range_with_len 0 c.args.count;
  table = λ block less.
      let first : 0 + block ≡ block = omega arith in
      ap (λ l. get_or l block 0) c.in_ok-last.ensures ∙ get_or-range_with_len 0 c.args.count block 0 less ∙ first;
}

pub loop-place-preserved : goal.loop-place-preserved
loop-place-preserved c =
    let blocks = c.args.blocks.now in
    let last = c.loop-place.last.items in
    let i = c.loop-place.place in
    let block = get_or blocks i 0 in
    let within : i < length blocks = omega (arith, c.loop-place-test.true) in
    let is : block ≡ get_or blocks i block = get_or_default blocks i 0 block within in
    let exists : block < c.args.count = c.requires.exist i 0 within in
    let inside : block < length last = omega (arith, exists, c.loop-place.invariant.size) in
    let number : c.index.result.now ≡ read_word_number c.args.count (reverse (take i blocks)) block =
    get_or_read last block c.index.result.now inside c.index.ensures 0 ∙ c.loop-place.invariant.table block exists in
    record {
      numbers =
          c.in_ok-push.ensures.items
          ∙ ap (λ l. l ++ c.index.result.now ∷ []) c.loop-place.invariant.numbers
          ∙ ap (λ n. words_read c.args.count (take i blocks) ++ n ∷ []) number
          ∙ sym (read_more c.args.count blocks i block within is);
      size = length-set last block (c.args.count + i) ∙ c.loop-place.invariant.size;
      table = table_more c.args.count blocks last i block within is exists c.loop-place.invariant.size
          c.loop-place.invariant.table;
    }

pub returns-clause-next : goal.returns-clause-next
returns-clause-next c =
    let blocks = c.args.blocks.now in
    let all : take c.loop-place.place blocks ≡ blocks = take_all c.loop-place.place blocks
    (omega (arith, c.loop-place-test.false)) in
    subst (λ b. c.loop-place.last.items ≡ words_next c.args.count b) all
    (table_all c.args.count (reverse
    (take c.loop-place.place blocks)) c.loop-place.last.items c.loop-place.invariant.size c.loop-place.invariant.table)
