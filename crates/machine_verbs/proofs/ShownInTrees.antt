-- What a run over recursive banks shows.
use Rattle.std.proofs.Common.{◌≡◌, ℕ, ◌+◌, ◌*◌, ◌-◌, ℤ, List, [], length, map, Option, Some, None, refl, sym, ap, ◌∙◌, subst}
use Rattle.std.proofs.lemmas.List.{length-map}
use Rattle.lt_isa.specs.Prelude.{Parts, IsInRange, FitsObject, start_state, trace}
use Rattle.lt_isa.proofs.Starts.{IsShaped-start}
use Rattle.banks.specs.declared.bank.Leaves.{Leaves}
use Rattle.banks.specs.Prelude.{accesses_from}
use Rattle.banks.proofs.AccessBounds.{accesses-counted, blocks-exist}
use Rattle.processor.specs.Prelude.{oram_of, paths_shown, shown_of, run_shown}
use Rattle.path_oram.specs.Prelude.{touched, first_words}
use Rattle.recursive_oram.specs.Prelude.{shown_ahead, rec_leaves, size_of, words_made, Recursive, levels_of, all_trees}
use Rattle.rand_chacha.specs.ChaCha.{ChaCha}
use Rattle.call_steps.specs.Prelude.{RecursiveBegins, BeginFrom, OfOram, IsShownInTrees, OfRecursiveBank, run_seen, seeded_words, stream_from}
use Rattle.call_steps.proofs.Beginnings.{each-begins}
use Rattle.machine_verbs.proofs.PathsShown.{paths-with_paths, rec-leaf-count, shows-with_paths}

-- the leaves that a bank shows for accesses to blocks
abbrev pub shows : Recursive ChaCha → List ℕ → List Leaves
shows oram blocks = shown_ahead (levels_of (all_trees oram)) (stream_from oram.words) blocks

module _ (o : Parts) (range : IsInRange o) (inputs : List (List ℤ)) (fits : FitsObject o inputs) (cycles seed : ℕ)
    (orams : List (Recursive ChaCha)) (count : length orams ≡ length o.banks - 2)
    (begun : BeginFrom (RecursiveBegins o inputs seed 0) 2 orams) where
  of-bank : (b : ℕ) (found : Option (Recursive ChaCha)) → OfOram found (λ oram. RecursiveBegins o inputs seed 0 b oram)
      → OfRecursiveBank o inputs cycles seed b (shown_of shows found (touched o inputs cycles b))
  of-bank b None begins = absurd begins
  of-bank b (Some oram) begins = record {
    sizes = map size_of (all_trees oram);
    are = begins.sizes;
    shown = begins.shown (touched o inputs cycles b)
        (blocks-exist o range (start_state o inputs) cycles (IsShaped-start o inputs fits) b)
        ∙ ap (λ n. rec_leaves
        (first_words (words_made (map size_of (all_trees oram)) + length (touched o inputs cycles b) * n)
        (seeded_words seed 0 b)) (map size_of (all_trees oram)) (touched o inputs cycles b))
        (sym (length-map (all_trees oram) size_of));
  }

  -- the paths of each bank
  abbrev paths : ℕ → List Leaves
  paths = paths_shown shows orams (accesses_from o (start_state o inputs) cycles)

  -- the trace of the run is the answer
  pub is-shown : IsShownInTrees o inputs cycles seed
      (run_seen (run_shown shows o (start_state o inputs) orams cycles) [])
  is-shown = record {
    shown = shows-with_paths (trace o inputs cycles) paths;
    alone = (refl, refl);
    none = refl;
    banks = λ b two exists.
        let bank = of-bank b (oram_of orams b)
        (each-begins (RecursiveBegins o inputs seed 0) (length o.banks) orams count begun b two exists) in
        subst (OfRecursiveBank o inputs cycles seed b)
        (sym (paths-with_paths b (trace o inputs cycles) paths
        (ap length bank.shown ∙ rec-leaf-count _ bank.sizes (touched o inputs cycles b)
        ∙ sym (accesses-counted b two o (start_state o inputs) cycles))))
        bank;
  }
