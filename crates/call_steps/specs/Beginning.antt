-- The oblivious banks of a run as it begins: Path ORAM over the random words that its seed makes. For the contracts of
-- private functions, and for proofs.
use Rattle.std.specs.Prelude.{◌≡◌, ℕ, ◌+◌, ◌-◌, ◌*◌, ◌<◌, ℤ, List, [], ◌∷◌, length, map, IsTrue}
use Rattle.std.specs.List.{All}
use Rattle.lt_isa.specs.Object.{Parts, block_words, blocks_of}
use Rattle.lt_isa.specs.Start.{start_bank, start_state}
use Rattle.banks.specs.Banks.{one_leaf}
use Rattle.processor.specs.Machines.{Running}
use Rattle.path_oram.specs.Orams.{Oram, paths_ahead}
use Rattle.path_oram.specs.Places.{first_places}
use Rattle.path_oram.specs.Whole.{IsHeightFor}
use Rattle.path_oram.specs.Words.{first_words, leaf_of, words_left}
use Rattle.path_oram.specs.WordsRead.{leaves_shown}
use Rattle.recursive_oram.specs.Levels.{shown_ahead}
use Rattle.recursive_oram.specs.RecLeaves.{AreSizes, rec_leaves, size_of, words_made}
use Rattle.recursive_oram.specs.RecursiveOrams.{Recursive, levels_of, all_trees}
use Rattle.rand_chacha.specs.ChaCha.{ChaCha}
use Rattle.call_steps.specs.Seeds.{seeded_words, stream_from}

-- Bank b holds what the object's has at the start. Its first words made the leaves of its blocks, which are all in the
-- stash, and it will show the leaves of the words that accesses read.
pub record BankBegins (o : Parts) (inputs : List (List ℤ)) (seed core b : ℕ) (oram : Oram ChaCha) : Type 0 where
  pub contents : oram.contents ≡ start_bank o inputs b
  pub width : oram.width ≡ block_words o
  pub height : IsHeightFor (blocks_of o b) oram.places.height
  pub first : oram.places ≡ first_places oram.places.height
      (map (leaf_of oram.places.height) (first_words (blocks_of o b) (seeded_words seed core b)))
  pub words : stream_from oram.words ≡ words_left (blocks_of o b) (seeded_words seed core b)
  pub shown : (list : List ℕ) → All (λ block. block < blocks_of o b) list
      → paths_ahead oram.places (stream_from oram.words) list ≡ map one_leaf (leaves_shown (blocks_of o b)
      oram.places.height (first_words (blocks_of o b + length list) (seeded_words seed core b)) list)

-- the same of a recursive bank, which has trees of these sizes
pub record RecursiveBegins (o : Parts) (inputs : List (List ℤ)) (seed core b : ℕ)
    (oram : Recursive ChaCha) : Type 0 where
  pub contents : oram.tree.contents ≡ start_bank o inputs b
  pub width : oram.tree.width ≡ block_words o
  pub sizes : AreSizes (blocks_of o b) (map size_of (all_trees oram))
  pub shown : (list : List ℕ) → All (λ block. block < blocks_of o b) list
      → shown_ahead (levels_of (all_trees oram)) (stream_from oram.words) list
      ≡ rec_leaves
      (first_words (words_made (map size_of (all_trees oram)) + length list * length (all_trees oram))
      (seeded_words seed core b)) (map size_of (all_trees oram)) list

-- banks from number b on, each of which begins so
abbrev pub BeginFrom : {B : Type 0} → (ℕ → B → Type 0) → ℕ → List B → Type 0
BeginFrom Begins b [] = Unit {0}
BeginFrom Begins b (oram ∷ orams) = Begins b oram × BeginFrom Begins (b + 1) orams

-- a machine at the start of a run on inputs, with its oblivious banks
pub record HasBegun {B : Type 0} (Begins : ℕ → B → Type 0) (o : Parts) (inputs : List (List ℤ))
    (machine : Running B) : Type 0 where
  pub object : machine.object ≡ o
  pub state : machine.state ≡ start_state o inputs
  pub live : IsTrue machine.live
  pub count : length machine.orams ≡ length o.banks - 2
  pub orams : BeginFrom Begins 2 machine.orams
