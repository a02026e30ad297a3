-- A program leaves as many variables as there were before.
use Rattle.std.proofs.Common.{◌≡◌, ℕ, length, Option, Some, None, refl, ◌∙◌, subst}
use Rattle.std.specs.Option.{option_map}
use Rattle.std.proofs.lemmas.List.{length-set}
use Rattle.src_tree.specs.Prelude.{Source, Store, Left, run_of_block, meaning}
use Rattle.src_tree.proofs.KeptByRuns.{left, IsKept, block_keeps}

abbrev AsMany : Left → Left → Type 0
AsMany before after = length after.store ≡ length before.store

as_many_kept : IsKept AsMany
as_many_kept = record {
  same = λ before. refl;
  goes_on = λ before between after first second. second ∙ first;
  turn = λ store turns. refl;
}

pub length-meaning : (p : Source) (store after : Store) (turns : ℕ)
    → meaning p store turns ≡ Some after → length after ≡ length store
length-meaning p store after turns is = by (run_of_block p.decls p.body (left store turns)) refl is
  where
    by : (found : Option Left) → run_of_block p.decls p.body (left store turns) ≡ found
        → option_map (λ (l : Left). l.store) found ≡ Some after → length after ≡ length store
    by None found e = absurd (let f : ◌≡◌ {A = Option Store} None (Some after) = e in cc)
    by (Some l) found e =
        subst (λ s. length s ≡ length store) (let same : l.store ≡ after = cc in same)
        (block_keeps AsMany as_many_kept (λ before k at value. length-set before.store k _) p.decls p.body
        (left store turns) l found)
