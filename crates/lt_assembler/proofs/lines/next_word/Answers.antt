use Rattle.std.proofs.Common.{◌≡◌, ℕ, ◌<◌, List, drop, sym, ap, ◌∙◌, arith}
use Rattle.std.proofs.lemmas.List.Sums.{prefix_len-le-length}
use Rattle.lt_assembler.specs.Prelude.{is_blank, is_part}
use Rattle.lt_assembler.proofs.FirstLine.{IsNextWord, no_next, next_word}
use Rattle.lt_assembler.proofs.lines.next_word.Goals as goal

-- the text after n bytes
behind : (text at : List ℕ) (n m : ℕ) → n ≡ m → at ≡ drop n text → at ≡ drop m text
behind text at n m same is = is ∙ ap (λ k. drop k text) same

some_bytes : (n : ℕ) → (n ≡ 0 → ⊥) → 0 < n
some_bytes n h = omega (arith, h)

pub split_at-requires : goal.split_at-requires
split_at-requires c = rw c.blank_len.ensures (prefix_len-le-length is_blank c.args.text.now)

pub returns-then-len-eq0-clause-words : goal.returns-then-len-eq0-clause-words
returns-then-len-eq0-clause-words c =
    no_next c.args.text.now c.split_at.result.1.now
    (behind c.args.text.now c.split_at.result.1.now _ _ c.blank_len.ensures c.split_at.ensures.back)
    (sym c.part_len-len.ensures ∙ c.if-len-eq0.true)

pub split_at-requires-2 : goal.split_at-requires-2
split_at-requires-2 c = rw c.part_len-len.ensures (prefix_len-le-length is_part c.split_at.result.1.now)

-- the next word
next : (c : goal.After-split_at-2) → IsNextWord c.args.text.now c.split_at.result.1.now
next c =
    let some = some_bytes c.part_len-len.result c.if-len-eq0.false in
    next_word c.args.text.now c.split_at.result.1.now
    (behind c.args.text.now c.split_at.result.1.now _ _ c.blank_len.ensures c.split_at.ensures.back)
    (rw (← c.part_len-len.ensures) some)

pub returns-clause-words : goal.returns-clause-words
returns-clause-words c =
    rw (c.split_at-2.ensures.front, c.split_at-2.ensures.back, c.part_len-len.ensures) (next c).words

pub returns-clause-ascii : goal.returns-clause-ascii
returns-clause-ascii c =
    rw (c.split_at-2.ensures.back, c.part_len-len.ensures) (next c).line.ascii

pub returns-clause-behind : goal.returns-clause-behind
returns-clause-behind c =
    rw (c.split_at-2.ensures.back, c.part_len-len.ensures) (next c).line.behind
