-- What a run over the banks that it begins with shows, and where it leaves their blocks.
use Rattle.std.proofs.Common.{◌≡◌, ℕ, ◌-◌, ◌<◌, ◌≤◌, ◌^◌, ℤ, List, [], length, map, get_or, Option, Some, None, refl, sym, ap, ◌∙◌, subst, arith}
use Rattle.std.specs.List.{All}
use Rattle.banks.specs.declared.bank.Leaves.{Leaves}
use Rattle.banks.specs.Prelude.{accesses_from}
use Rattle.banks.proofs.AccessBounds.{accesses-counted, blocks-exist}
use Rattle.call_steps.specs.Prelude.{run_seen, BankBegins, BeginFrom, AllStand, MayEndOn, MayRun, OfOram, IsShown, OfBank, words_drawn, seeded_words, stream_from}
use Rattle.std.proofs.lemmas.List.{length-map}
use Rattle.std.proofs.lemmas.List.Elements.{All-map}
use Rattle.std.proofs.lemmas.Nat.{pow_pos}
use Rattle.std.proofs.Math.Nat.{mod-lt}
use Rattle.lt_isa.specs.Prelude.{Parts, blocks_of, IsInRange, FitsObject, start_state, trace}
use Rattle.lt_isa.proofs.Starts.{IsShaped-start}
use Rattle.processor.specs.Prelude.{oram_of, paths_shown, shown_of, run_shown}
use Rattle.path_oram.specs.Prelude.{touched, Oram, paths_ahead, Places, first_places, IsHeightFor, IsWhole, first_words, leaf_of}
use Rattle.path_oram.proofs.Ahead.{length-first_words}
use Rattle.path_oram.proofs.Beginning.{first_whole}
use Rattle.path_oram.proofs.Ending.{settled_after}
use Rattle.rand_chacha.specs.ChaCha.{ChaCha}
use Rattle.call_steps.proofs.Beginnings.{each-begins}
use Rattle.machine_verbs.proofs.PathsShown.{leaf-count, paths-with_paths, shows-with_paths}

-- the leaves that a bank shows for accesses to blocks
abbrev pub shows : Oram ChaCha → List ℕ → List Leaves
shows oram blocks = paths_ahead oram.places (stream_from oram.words) blocks

module _ (o : Parts) (range : IsInRange o) (inputs : List (List ℤ)) (fits : FitsObject o inputs) (cycles seed : ℕ) where
  module _ (orams : List (Oram ChaCha)) (count : length orams ≡ length o.banks - 2)
      (begun : BeginFrom (BankBegins o inputs seed 0) 2 orams) where
    begins : (b : ℕ) → 2 ≤ b → b < length o.banks → OfOram (oram_of orams b) (λ oram. BankBegins o inputs seed 0 b oram)
    begins = each-begins (BankBegins o inputs seed 0) (length o.banks) orams count begun

    exist : (b : ℕ) → All (λ block. block < blocks_of o b) (touched o inputs cycles b)
    exist b = blocks-exist o range (start_state o inputs) cycles (IsShaped-start o inputs fits) b

    -- a bank at the start may be run
    ready : (b : ℕ) (found : Option (Oram ChaCha)) → OfOram found (λ oram. BankBegins o inputs seed 0 b oram)
        → OfOram found
        (λ oram. IsWhole oram.places × All (λ block. block < length oram.places.leaves) (touched o inputs cycles b))
    ready b None begins = begins
    ready b (Some oram) begins =
        let height = oram.places.height in
        let words = first_words (blocks_of o b) (seeded_words seed 0 b) in
        let leaves = map (leaf_of height) words in
        let many : length leaves ≡ blocks_of o b =
        length-map words (leaf_of height) ∙ length-first_words (blocks_of o b) (seeded_words seed 0 b) in
        let whole : IsWhole (first_places height leaves) =
        first_whole height leaves (subst (λ n. IsHeightFor n height) (sym many) begins.height)
        (All-map (λ leaf. leaf < 2 ^ height) (leaf_of height) words (λ k d within. mod-lt _ (pow_pos height))) in
        let count_is : length oram.places.leaves ≡ blocks_of o b =
        ap (λ (p : Places). length p.leaves) begins.first ∙ many in (
          subst IsWhole (sym begins.first) whole,
          subst (λ n. All (λ block. block < n) (touched o inputs cycles b)) (sym count_is) (exist b),
        )

    -- the banks may be accessed as the run does
    pub may-run : MayRun o (start_state o inputs) cycles orams
    may-run b two exists = ready b (oram_of orams b) (begins b two exists)

    -- what a bank shows, and where its blocks are left
    of-bank : (b : ℕ) (found : Option (Oram ChaCha)) (levels : List (Option ℕ))
        → OfOram found (λ oram. BankBegins o inputs seed 0 b oram)
        → OfOram found (λ oram. MayEndOn oram (touched o inputs cycles b) levels)
        → OfBank o inputs cycles seed b (shown_of shows found (touched o inputs cycles b)) levels
    of-bank b None levels begins ends = absurd begins
    of-bank b (Some oram) levels begins ends = record {
      height = oram.places.height;
      least = begins.height;
      shown = begins.shown (touched o inputs cycles b) (exist b);
      settles = settled_after (blocks_of o b) oram.places.height (seeded_words seed 0 b) (stream_from oram.words)
          ends.left
          oram.places ends.after (touched o inputs cycles b) levels begins.first begins.words ends.come ends.are;
    }

    -- the paths of each bank
    abbrev paths : ℕ → List Leaves
    paths = paths_shown shows orams (accesses_from o (start_state o inputs) cycles)

    -- the trace of the run is the answer
    pub is-shown : (levels : List (List (Option ℕ))) → AllStand o (start_state o inputs) cycles orams levels → IsShown o
        inputs cycles seed (run_seen (run_shown shows o (start_state o inputs) orams cycles) levels)
    is-shown levels stand = record {
      shown = shows-with_paths (trace o inputs cycles) paths;
      alone = (refl, refl);
      count = stand.count;
      banks = λ b two exists.
          let bank = of-bank b (oram_of orams b) (get_or levels (b - 2) []) (begins b two exists)
          (stand.banks b two (omega (arith, two, exists, stand.count))) in
          subst (λ l. OfBank o inputs cycles seed b l (get_or levels (b - 2) []))
          (sym (paths-with_paths b (trace o inputs cycles) paths
          (ap length bank.shown
          ∙ leaf-count (blocks_of o b) bank.height (words_drawn o inputs cycles seed b) (touched o inputs cycles b)
          ∙ sym (accesses-counted b two o (start_state o inputs) cycles))))
          bank;
    }
