use Rattle.std.proofs.Common.{◌≡◌, ℕ, List, drop, sym, ap, subst, ◌∙◌}
use Rattle.std.proofs.lemmas.List.Sums.{prefix_len-le-length}
use Rattle.lt_assembler.specs.Prelude.{is_comment}
use Rattle.lt_assembler.proofs.FirstLine.{EndsAt, ends, ends_empty, ends_feed, ends_foreign}
use Rattle.lt_assembler.proofs.lines.behind_ascii.Goals as goal

pub split_at-requires : goal.split_at-requires
split_at-requires c = rw c.comment_len.ensures (prefix_len-le-length is_comment c.args.text.now)

end_is : (text at : List ℕ) (n m : ℕ) → n ≡ m → at ≡ drop n text → at ≡ drop m text
end_is text at n m same is = is ∙ ap (λ k. drop k text) same

pub returns-in-empty : goal.returns-in-empty
returns-in-empty c =
    let is = end_is c.args.text.now c.split_at.result.1.now _ _ c.comment_len.ensures c.split_at.ensures.back in
    ends_empty c.args.text.now c.split_at.result.1.now
    (subst (EndsAt c.args.text.now) (sym is) (ends c.args.text.now)) c.in-empty.len_below

pub returns-then-first-eq10 : goal.returns-then-first-eq10
returns-then-first-eq10 c =
    let is = end_is c.args.text.now c.split_at.result.1.now _ _ c.comment_len.ensures c.split_at.ensures.back in
    ends_feed c.args.text.now c.split_at.result.1.now
    (subst (EndsAt c.args.text.now) (sym is) (ends c.args.text.now)) c.in-len1-up.len_at_least c.if-first-eq10.true

pub returns-else-first-eq10 : goal.returns-else-first-eq10
returns-else-first-eq10 c =
    let is = end_is c.args.text.now c.split_at.result.1.now _ _ c.comment_len.ensures c.split_at.ensures.back in
    ends_foreign c.args.text.now c.split_at.result.1.now
    (subst (EndsAt c.args.text.now) (sym is) (ends c.args.text.now)) c.in-len1-up.len_at_least c.if-first-eq10.false
