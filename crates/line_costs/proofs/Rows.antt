-- Sums over the steps of a run, and the counts of rows.
use Rattle.std.proofs.Common.{◌≡◌, ℕ, ◌+◌, ◌*◌, ◌<◌, ◌≤◌, get_or, replicate, cond, List, [], ◌∷◌, length, sym, ap, ◌∙◌, ⊎_elim, arith}
use Rattle.std.proofs.lemmas.Bool.Decides.{eqb_tells}
use Rattle.std.proofs.lemmas.List.{get_or-set_same, get_or-set_other, length-set, get_or-replicate, length-replicate}
use Rattle.std.proofs.lemmas.List.Folds.{sum_by-replicate}
use Rattle.std.proofs.lemmas.List.Sums.{sum_by-cons, sum_by-set, get_or-le-sum_by}
use Rattle.std.specs.Prelude.{sum_by}
use Rattle.line_costs.specs.Prelude.{AddsUp, Taken, in_row, part_of, total, added}
use Rattle.line_costs.specs.declared.costs.Part.{Part}

-- nothing is counted yet
pub adds-none : (parts : List Part) (rows : ℕ) (f : Taken → ℕ) (counts : List ℕ) → counts ≡ replicate rows 0
    → AddsUp parts rows f [] counts
adds-none parts rows f counts is = record {
  count = ap length is ∙ length-replicate rows 0;
  each = λ r within. ap (λ l. get_or l r 0) is ∙ get_or-replicate rows r 0 0 within;
  all = ap total is ∙ sum_by-replicate (λ (n : ℕ). n) rows 0 ∙ nothing rows;
}
  where
    nothing : (n : ℕ) → n * 0 ≡ 0
    nothing n = omega arith

-- the count of a row is no more than all
pub count-most : (counts : List ℕ) (r : ℕ) → r < length counts → get_or counts r 0 ≤ total counts
count-most counts r within = get_or-le-sum_by (λ (n : ℕ). n) counts r 0 within

module _ (parts : List Part) (rows : ℕ) (f : Taken → ℕ) (taken : List Taken) (counts : List ℕ)
    (adds : AddsUp parts rows f taken counts) (x : Taken) (line : ℕ) (within : line < rows)
    (is : (part_of parts rows x.place).row ≡ line) where
  in-length : line < length counts
  in-length = omega (arith, adds.count, within)

  next-each : (r : ℕ) → r < rows
      → get_or (added counts line (f x)) r 0 ≡ sum_by (in_row parts rows f r) (x ∷ taken)
  next-each r less =
      ⊎_elim
      (λ (hit, same).
      ap (λ k. get_or (added counts line (f x)) k 0) (sym same ∙ is)
      ∙ get_or-set_same counts line (get_or counts line 0 + f x) 0 in-length
      ∙ ap (λ k. get_or counts k 0 + f x) (sym is ∙ same)
      ∙ ap (λ n. n + f x) (adds.each r less)
      ∙ swapped (sum_by (in_row parts rows f r) taken) (f x)
      ∙ ap (λ b. cond b (f x) 0 + sum_by (in_row parts rows f r) taken) (sym hit)
      ∙ sym (sum_by-cons (in_row parts rows f r) x taken))
      (λ (missed, other).
      get_or-set_other counts line r (get_or counts line 0 + f x) 0 (λ same. other (is ∙ sym same))
      ∙ adds.each r less
      ∙ alone (sum_by (in_row parts rows f r) taken)
      ∙ ap (λ b. cond b (f x) 0 + sum_by (in_row parts rows f r) taken) (sym missed)
      ∙ sym (sum_by-cons (in_row parts rows f r) x taken))
      (eqb_tells (part_of parts rows x.place).row r)
    where
      swapped : (a b : ℕ) → a + b ≡ b + a
      swapped a b = omega arith

      alone : (a : ℕ) → a ≡ 0 + a
      alone a = omega arith

  -- a step is counted in its row
  pub adds-next : (more : ℕ) (after : List ℕ) → more ≡ f x → after ≡ added counts line more
      → AddsUp parts rows f (x ∷ taken) after
  adds-next more after amount put =
      let now : after ≡ added counts line (f x) = put ∙ ap (added counts line) amount in
      record {
        count = ap length now ∙ length-set counts line (get_or counts line 0 + f x) ∙ adds.count;
        each = λ r less. ap (λ l. get_or l r 0) now ∙ next-each r less;
        all =
            ap total now
            ∙ (let sums = sum_by-set (λ (n : ℕ). n) counts line (get_or counts line 0 + f x) 0 in-length in
            let cons = sum_by-cons f x taken in omega (arith, sums, cons, adds.all));
      }
