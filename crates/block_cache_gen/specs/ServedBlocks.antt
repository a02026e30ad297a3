-- For proofs, and for functions that code_gen builds on: the block that compiled code loads into each slot before any
-- access.
use Rattle.std.specs.Prelude.{ℕ, ◌==◌, find, List, [], ◌∷◌, Option, Some, None}
use Rattle.std.specs.Option.{option_map}
use Rattle.block_cache_gen.specs.Homes.{Pin, Setting, pin_at}

-- the first block of the first variable that a slot serves
abbrev pub block_served : Setting → ℕ → Option ℕ
block_served f slot = option_map (λ h. h.block) (find (λ h. h.slot == slot) f.homes)

-- a block of this bank, if there is one
abbrev pub pin_in : (bank : ℕ) → Option ℕ → Option Pin
pin_in bank None = None
pin_in bank (Some block) = Some (record { bank = bank; block = block })

-- the block that a slot is pinned to, and another where it isn't pinned
abbrev pub pin_or : Option Pin → Option Pin → Option Pin
pin_or None other = other
pin_or (Some p) other = Some p

-- A pinned slot begins with its block; of the others, slots 2 to 5 begin with the first block that they serve.
abbrev pub first_blocks : Setting → List (Option Pin)
first_blocks f =
    pin_at f 0
    ∷ pin_at f 1
    ∷ pin_or (pin_at f 2) (pin_in 0 (block_served f 2))
    ∷ pin_or (pin_at f 3) (pin_in 0 (block_served f 3))
    ∷ pin_or (pin_at f 4) (pin_in 1 (block_served f 4))
    ∷ pin_or (pin_at f 5) (pin_in 1 (block_served f 5))
    ∷ None
    ∷ pin_at f 7
    ∷ []
