-- A run shows some paths, and its blocks may have some levels at the end.
use Rattle.std.proofs.Common.{◌≡◌, ℕ, ◌+◌, ◌-◌, ◌*◌, ◌<◌, ◌≤◌, ℤ, List, [], length, map, get_or, Option, refl, sym, ◌∙◌, subst, arith}
use Rattle.std.specs.List.{range_with_len}
use Rattle.std.proofs.lemmas.List.FromFn.{get_or-map-range_with_len, length-map-range_with_len}
use Rattle.lt_isa.specs.Prelude.{Parts, blocks_of, IsInRange, FitsObject, start_state, trace}
use Rattle.lt_isa.proofs.Starts.{IsShaped-start}
use Rattle.banks.specs.declared.bank.Leaves.{Leaves}
use Rattle.banks.specs.Prelude.{one_leaf, accesses_shown}
use Rattle.banks.proofs.AccessBounds.{accesses-counted, blocks-exist}
use Rattle.processor.specs.Prelude.{with_paths}
use Rattle.path_oram.specs.Prelude.{touched, Settles, first_words, leaves_shown}
use Rattle.path_oram.proofs.Ahead.{length-first_words}
use Rattle.path_oram.proofs.Existing.{settles_somehow, some_height}
use Rattle.recursive_oram.specs.Prelude.{Size, rec_leaves, words_made}
use Rattle.recursive_oram.proofs.Counted.{some_sizes}
use Rattle.call_steps.specs.Prelude.{IsShown, OfBank, words_drawn, paths_of_bank, IsShownInTrees, seeded_words, Seen, run_seen}
use Rattle.machine_verbs.proofs.PathsShown.{leaf-count, paths-with_paths, rec-leaf-count, shows-with_paths}

module _ (o : Parts) (range : IsInRange o) (inputs : List (List ℤ)) (fits : FitsObject o inputs) (cycles seed : ℕ) where
  abbrev height : ℕ → ℕ
  height b = (some_height (blocks_of o b)).0

  abbrev paths : ℕ → List Leaves
  paths b =
      map one_leaf
      (leaves_shown (blocks_of o b) (height b) (words_drawn o inputs cycles seed b) (touched o inputs cycles b))

  settled : (b : ℕ) → (levels : List (Option ℕ))
      × Settles (blocks_of o b) (height b) (touched o inputs cycles b) (words_drawn o inputs cycles seed b) levels
  settled b =
      settles_somehow (blocks_of o b) (height b) (touched o inputs cycles b) (words_drawn o inputs cycles seed b)
      (some_height (blocks_of o b)).1
      (blocks-exist o range (start_state o inputs) cycles (IsShaped-start o inputs fits) b)
      (length-first_words (blocks_of o b + length (touched o inputs cycles b)) (seeded_words seed 0 b))

  abbrev levels_of : ℕ → List (Option ℕ)
  levels_of b = (settled b).0

  abbrev levels : List (List (Option ℕ))
  levels = map levels_of (range_with_len 2 (length o.banks - 2))

  -- as many paths as the trace shows accesses
  counted : (b : ℕ) → 2 ≤ b → length (touched o inputs cycles b) ≡ accesses_shown b (trace o inputs cycles)
  counted b two = sym (accesses-counted b two o (start_state o inputs) cycles)

  of-bank : (b : ℕ) → 2 ≤ b → b < length o.banks
      → OfBank o inputs cycles seed b (paths_of_bank b (with_paths (trace o inputs cycles) paths))
      (get_or levels (b - 2) [])
  of-bank b two exists =
      let same : get_or levels (b - 2) [] ≡ levels_of b =
      get_or-map-range_with_len levels_of 2 (length o.banks - 2) (b - 2) b [] (omega (arith, two, exists))
      (omega (arith, two)) in
      record {
        height = height b;
        least = (some_height (blocks_of o b)).1;
        shown =
            paths-with_paths b (trace o inputs cycles) paths
            (leaf-count (blocks_of o b) (height b) (words_drawn o inputs cycles seed b) (touched o inputs cycles b)
            ∙ counted b two);
        settles = subst (Settles (blocks_of o b) (height b) (touched o inputs cycles b)
            (words_drawn o inputs cycles seed b)) (sym same) (settled b).1;
      }

  pub shown-some : (seen : Seen) × IsShown o inputs cycles seed seen
  shown-some = (
    run_seen (with_paths (trace o inputs cycles) paths) levels,
    record {
      shown = shows-with_paths (trace o inputs cycles) paths;
      alone = (refl, refl);
      count = length-map-range_with_len levels_of 2 (length o.banks - 2);
      banks = of-bank;
    },
  )

  abbrev sizes : ℕ → List Size
  sizes b = (some_sizes (blocks_of o b)).0

  abbrev paths_in_trees : ℕ → List Leaves
  paths_in_trees b =
      rec_leaves
      (first_words (words_made (sizes b) + length (touched o inputs cycles b) * length (sizes b))
      (seeded_words seed 0 b)) (sizes b) (touched o inputs cycles b)

  pub shown-in-trees-some : (seen : Seen) × IsShownInTrees o inputs cycles seed seen
  shown-in-trees-some = (
    run_seen (with_paths (trace o inputs cycles) paths_in_trees) [],
    record {
      shown = shows-with_paths (trace o inputs cycles) paths_in_trees;
      alone = (refl, refl);
      none = refl;
      banks = λ b two exists. record {
        sizes = sizes b;
        are = (some_sizes (blocks_of o b)).1;
        shown =
            paths-with_paths b (trace o inputs cycles) paths_in_trees
            (rec-leaf-count _ (sizes b) (touched o inputs cycles b) ∙ counted b two);
      };
    },
  )
