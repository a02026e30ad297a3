-- The homes of a frame's variables are in their ranges.
use Rattle.std.proofs.Common.{◌≡◌, ℕ, Bool, false, List, [], ◌+◌, ◌*◌, ◌^◌, ◌<◌, ◌≤◌, length, get_or, Option, Some, None, ⊎_elim, refl, sym, ap, ◌∙◌, subst, arith}
use Rattle.std.proofs.lemmas.Bool.{cases_lt}
use Rattle.std.proofs.Math.Nat.{mul-le-mul_left}
use Rattle.std.proofs.Math.Pow.{pow_mono}
use Rattle.lt_isa.proofs.SymbolPlaces.{most_blocks-le}
use Rattle.lt_isa.specs.declared.profiles.Profile.{Profile}
use Rattle.held_registers.proofs.Sound.{nothing-sound}
use Rattle.src_tree.specs.Prelude.{variable_number, Source, source_of}
use Rattle.src_tree.proofs.VariableNumbers.{number-below}
use Rattle.src_tree.specs.declared.trees.Decl.{Decl}
use Rattle.bank_alloc.specs.declared.places.Place.{Place}
use Rattle.scratch_alloc.specs.Prelude.{Plan, IsSoundPlan, IsSoundByPin, IsSpread, pin_of_slot, pin_to, no_decl, no_place}
use Rattle.scratch_alloc.proofs.Serving.{serves-within}
use Rattle.block_cache_gen.specs.declared.frames.FastFrame.{FastFrame}
use Rattle.block_cache_gen.specs.declared.frames.Frame.{Frame}
use Rattle.block_cache_gen.specs.Prelude.{Pin, further_slots, no_home, Held, block_served, first_blocks, IsFastFrame, IsFrame, IsSetUp, fast_plan_of, fast_setting, home_at, homes_at, plan_of, setting_for, setting_of}
use Rattle.block_cache_gen.proofs.FurtherSlots.{further_blocks-is, single_place, unpinned_place}
use Rattle.block_cache_gen.proofs.RangesOfCode.{HomeFits, HomesFit}
use Rattle.block_cache_gen.proofs.ServedBlocks.{served-home, first-all}
use Rattle.block_cache_gen.proofs.Settled.{get_or-homes_at, length-homes_at, place-length}

-- there are eight slots
slot-low : (p : Source) (w : ℕ) (plan : Plan) (k : ℕ) → IsSoundPlan p w plan → k < length p.decls
    → get_or plan.slots k 0 < 8
slot-low p w plan k sound below = by (pin_of_slot plan (get_or plan.slots k 0)) refl (sound.served k below)
  where
    by : (pin : Option Pin) → pin_of_slot plan (get_or plan.slots k 0) ≡ pin
        → IsSoundByPin w plan (get_or p.decls k no_decl) (get_or plan.places k no_place) (get_or plan.slots k 0) pin
        → get_or plan.slots k 0 < 8
    by None is served = omega (arith, (serves-within served.served).1)
    by (Some q) is served = (sound.pins (get_or plan.slots k 0) q is).few

-- so is each further slot of a variable
pub further-low : (p : Source) (w : ℕ) (plan : Plan) → IsSoundPlan p w plan → (d : Decl) (q : Place) (slot : ℕ)
    (pin : Option Pin) → pin_of_slot plan slot ≡ pin → IsSoundByPin w plan d q slot pin
    → (j : ℕ) → j < length (further_slots (home_at plan.pins w q slot))
    → get_or (further_slots (home_at plan.pins w q slot)) j 0 < 8
further-low p w plan sound d q slot None is served j within =
    let none = ap length (unpinned_place plan.pins w q slot is) in absurd (omega (arith, none, within))
further-low p w plan sound d q slot (Some pin) is served j within =
    ⊎_elim
    (λ one. let none = ap length (single_place plan.pins w q slot (omega (arith, one))) in absurd (omega (arith, none, within)))
    (λ (spread : IsSpread w plan d q).
    let all = further_blocks-is plan.pins w q slot pin is spread.few in
    let at = spread.pinned (1 + j) (all.needs j within) in
    (sound.pins (get_or (further_slots (home_at plan.pins w q slot)) j 0) (pin_to q.bank (q.block + (1 + j)))
    (all.found j within at.0 at.1)).few)
    served.inside

-- a bank has few blocks
bank-low : (p : Source) (w : ℕ) (plan : Plan) (b : ℕ) → IsSoundPlan p w plan → b < length plan.blocks
    → get_or plan.blocks b 0 ≤ 65536
bank-low p w plan b sound there = omega (arith, (sound.blocks b there).1, most_blocks-le b)

-- the block of a variable is in its bank
block-low : (size block word length blocks : ℕ) → block * size + word + length ≤ blocks * size → 1 ≤ length
    → block < blocks
block-low size block word length blocks inside some =
    ⊎_elim (λ less. less)
    (λ past. let more : size * blocks ≤ size * block = mul-le-mul_left size past in absurd (omega (arith, more, inside, some)))
    (cases_lt block blocks)

module _ (p : Source) (plan : Plan) (profile : Profile) (held : List Held) (is : IsSetUp p plan profile held) where
  same-count : length plan.slots ≡ length plan.places
  same-count = is.plan.slots ∙ sym is.plan.places

  -- the home of variable number k is in its ranges
  home_fits-at : (k : ℕ) → k < length p.decls
      → HomeFits (length plan.blocks) (get_or (homes_at plan.pins profile.block_log plan.places plan.slots) k no_home)
  home_fits-at k below =
      let w = profile.block_log in
      let q = get_or plan.places k no_place in
      let slot = get_or plan.slots k 0 in
      let place = is.plan.place k below in
      let size = place-length p w plan k is.within is.plan below in
      let block = block-low (2 ^ w) q.block q.word q.length (get_or plan.blocks q.bank 0) place.inside size.0 in
      let few = bank-low p w plan q.bank is.plan place.bank in
      let words = width w is.profile.block_log.1 in
      subst (HomeFits (length plan.blocks))
      (sym (get_or-homes_at plan.pins w plan.places plan.slots k same-count (omega (arith, below, is.plan.places))))
      (record {
        bank = place.bank;
        block = omega (arith, block, few);
        word = omega (arith, place.word, words);
        length = size;
        slot = slot-low p w plan k is.plan below;
        more = further-low p w plan is.plan (get_or p.decls k no_decl) q slot (pin_of_slot plan slot) refl
            (is.plan.served k below);
      })
    where
      width : (w : ℕ) → w ≤ 9 → 2 ^ w ≤ 512
      width w low = pow_mono low

  module _ (reduces : Bool) where
    -- each home is in its ranges
    homes-within : HomesFit (length plan.blocks) (setting_for p plan profile reduces held)
    homes-within = record {
      block_log = is.profile.block_log.1;
      held = is.held;
      pins = λ slot pin pinned. (is.plan.pins slot pin pinned).bank;
      homes = λ x label shape known.
          home_fits-at (variable_number p.decls x) (number-below p.decls x (label, shape) known);
    }

    -- so is the block that a slot serves first
    served-within : (slot block : ℕ) → block_served (setting_for p plan profile reduces held) slot ≡ Some block
        → block ≤ 65536
    served-within slot block served =
        let count = length-homes_at plan.pins profile.block_log plan.places plan.slots same-count in
        let home = served-home (setting_for p plan profile reduces held) slot block served in
        let fits = home_fits-at home.0 (omega (arith, home.1, count, is.plan.places)) in
        omega (arith, fits.block, home.2)

    -- and each block that a slot begins with
    first-within : (slot : ℕ) (pin : Pin)
        → get_or (first_blocks (setting_for p plan profile reduces held)) slot None ≡ Some pin
        → (pin.bank < 2) × (pin.block ≤ 65536)
    first-within slot pin begins =
        first-all (setting_for p plan profile reduces held) (λ pin. (pin.bank < 2) × (pin.block ≤ 65536))
        (λ slot q pinned.
        let sound = is.plan.pins slot q pinned in
        let few = bank-low p profile.block_log plan q.bank is.plan (omega (arith, sound.bank, is.plan.banks.0)) in
        (sound.bank, omega (arith, sound.block, few)))
        (λ slot bank block low served. (low, served-within slot block served)) slot pin begins

-- the same of a frame of code with `--fast`
pub homes_fit : (f : FastFrame) → IsFastFrame f → HomesFit (length f.places.now.blocks.items) (fast_setting f)
homes_fit f is = homes-within (source_of f.program.now) (fast_plan_of f) f.profile.now f.held.now is f.reduces

pub first_fits : (f : FastFrame) → IsFastFrame f → (slot : ℕ) (p : Pin)
    → get_or (first_blocks (fast_setting f)) slot None ≡ Some p → (p.bank < 2) × (p.block ≤ 65536)
first_fits f is = first-within (source_of f.program.now) (fast_plan_of f) f.profile.now f.held.now is f.reduces

-- plain and encrypted memory are there
pub frame_banks : (f : FastFrame) → IsFastFrame f → 2 ≤ length f.places.now.blocks.items
frame_banks f is = is.plan.banks.0

-- and of a frame that has nothing of it
pub plain_set_up : (f : Frame) → IsFrame f → IsSetUp (source_of f.program.now) (plan_of f) f.profile.now []
plain_set_up f is = record {
  typed = is.typed;
  within = is.within;
  plan = is.plan;
  profile = is.profile;
  held = nothing-sound (source_of f.program.now).decls;
}

pub plain_fit : (f : Frame) → IsFrame f → HomesFit (length f.places.now.blocks.items) (setting_of f)
plain_fit f is = homes-within (source_of f.program.now) (plan_of f) f.profile.now [] (plain_set_up f is) false

pub plain_banks : (f : Frame) → IsFrame f → 2 ≤ length f.places.now.blocks.items
plain_banks f is = is.plan.banks.0
