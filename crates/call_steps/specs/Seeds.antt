-- The random words of a run's oblivious banks. Each bank has its own source, made from the run's seed, the number of
-- its core on a bus and the bank's number. (rand_chacha: ChaCha20Rng; rand_core: from_seed and next_u64, which specify
-- its words.)
use Rattle.std.specs.Prelude.{ℕ, List, ◌∷◌, ◌++◌, replicate}
use Rattle.std.specs.Int.{w64, to_le_bytes}
use Rattle.rand_core.specs.Stream.{Stream}
use Rattle.rand_core.specs.Steps.{stream_of, steps_u32}
use Rattle.rand_chacha.specs.ChaCha.{ChaCha, next_word, of_seed}

-- the 32 bytes of a source: the run's seed, its lowest byte first, then the bank's number, the core's, and zeros
unfoldable pub seed_bytes : ℕ → ℕ → ℕ → List ℕ
seed_bytes seed core b = to_le_bytes w64 seed ++ b ∷ core ∷ replicate 22 0

-- the words that a generator of this kind will return
abbrev pub stream_from : ChaCha → Stream
stream_from source = stream_of (steps_u32 (next_word 10)) source

-- the words of bank b of a core in a run with a seed; a run without a bus is that of core 0
abbrev pub seeded_words : ℕ → ℕ → ℕ → Stream
seeded_words seed core b = stream_from (of_seed (seed_bytes seed core b))
