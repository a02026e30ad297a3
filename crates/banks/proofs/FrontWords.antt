-- Vectors that store the first words of a bank, after words were written at a place of them.
use Rattle.std.proofs.Common.{◌≡◌, ℕ, ◌+◌, ◌-◌, ◌<◌, ◌≤◌, false, cond, ◌&&◌, ℤ, pos, List, ◌++◌, length, get_or, take, replicate, sym, ap, ◌∙◌, ⊎_elim, arith}
use Rattle.std.specs.Prelude.{nat_le, nat_lt}
use Rattle.std.specs.declared.vec.Vec.{Vec}
use Rattle.std.specs.Vec.{with_items}
use Rattle.std.proofs.lemmas.Bool.{cases_lt}
use Rattle.std.proofs.lemmas.Bool.Decides.{nat_tests}
use Rattle.std.proofs.lemmas.List.{get_or_past, take_all, with_items_is}
use Rattle.banks.specs.Prelude.{filled_up}
use Rattle.banks.proofs.Blocks.{IsReplaced, filled_up-more, get_or-filled_up}

-- words that are resized to n, and aren't more, are filled up to n
pub resized : {Z : Type 0} (old : Vec ℤ Z) (n : ℕ) (new : List ℤ)
    → length old.items ≤ n → new ≡ take n old.items ++ replicate (n - old.len) (pos 0) → new ≡ filled_up n old.items
unfolding filled_up
resized old n new within is =
    is
    ∙ (ap (λ l. l ++ replicate (n - old.len) (pos 0)) (take_all n old.items within)
    ∙ ap (λ k. old.items ++ replicate (n - k) (pos 0)) old.ok.0)

module _ {Z : Type 0} (v : Vec ℤ Z) (old held new block : List ℤ) (start : ℕ)
    (filled : v.items ≡ filled_up (start + length block) old) (lent : held ≡ v.items)
    (kept : length new ≡ length held) where
  whole : (with_items v new).items ≡ new
  whole = with_items_is v new (kept ∙ (ap length lent ∙ sym v.ok.0))

  more : length held ≡ length old + (start + length block - length old)
  more = ap length lent ∙ (ap length filled ∙ filled_up-more (start + length block) old)

  -- a block that was written among the first words replaces the words there
  pub written : ((i : ℕ) → i < length held → get_or new i (pos 0) ≡ cond
      (nat_le start i && nat_lt i (start + length block)) (get_or block (i - start) (pos 0)) (get_or held i (pos 0)))
      → IsReplaced (with_items v new).items old start block
  written put i =
      let same : get_or held i (pos 0) ≡ get_or old i (pos 0) =
      ap (λ l. get_or l i (pos 0)) (lent ∙ filled) ∙ get_or-filled_up (start + length block) old i in
      let as_many : length held ≡ length old + (start + length block - length old) = more in
      ap (λ l. get_or l i (pos 0)) whole
      ∙ ⊎_elim
      (λ below. put i below
      ∙ ap (cond (nat_le start i && nat_lt i (start + length block)) (get_or block (i - start) (pos 0))) same)
      (λ past.
      let apart : (nat_le start i && nat_lt i (start + length block)) ≡ false = grind (arith, nat_tests) in
      get_or_past new i (pos 0) (omega (arith, past, kept))
      ∙ (sym (get_or_past old i (pos 0) (omega (arith, past, as_many)))
      ∙ sym (ap (λ b. cond b (get_or block (i - start) (pos 0)) (get_or old i (pos 0))) apart)))
      (cases_lt i (length held))

  -- the stored words stay within the bank
  pub within : (n : ℕ) → length old ≤ n → start + length block ≤ n → length (with_items v new).items ≤ n
  within n few end =
      let long : length (with_items v new).items ≡ length new = ap length whole in omega (arith, long, kept, more)
