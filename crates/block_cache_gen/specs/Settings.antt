-- What a frame of the compiler's calls is made for: the homes of its program's variables, and when its parts belong
-- together. (This project's layout of compiled code.)
use Rattle.std.specs.Prelude.{ℕ, ◌+◌, ◌-◌, ◌^◌, ◌==◌, ◌&&◌, min, Bool, false, is_some, if◌then◌else◌, slice_index_or, take, length, List, [], ◌∷◌, Option, Some, None}
use Rattle.lt_isa.specs.declared.profiles.Profile.{Profile}
use Rattle.lt_isa.specs.Ranges.{ProfileFits}
use Rattle.src_tree.specs.Trees.{Source, source_of}
use Rattle.src_tree.specs.Typing.{IsTyped}
use Rattle.src_tree.specs.Limits.{IsWithinLimits}
use Rattle.bank_alloc.specs.declared.places.Place.{Place}
use Rattle.bank_alloc.specs.Places.{blocks_for}
use Rattle.scratch_alloc.specs.Plans.{Plan, IsSoundPlan, plan_with, scalar_pins}
use Rattle.block_cache_gen.specs.declared.frames.FastFrame.{FastFrame}
use Rattle.block_cache_gen.specs.declared.frames.Frame.{Frame}
use Rattle.held_registers.specs.Held.{IsSoundHeld}
use Rattle.scalar_ranges.specs.Known.{nothing_known}
use Rattle.block_cache_gen.specs.Homes.{Held, Home, Pin, Setting}

-- whether a slot holds one block for the whole run
abbrev pub is_pinned : List (Option Pin) → ℕ → Bool
is_pinned pins slot = is_some (slice_index_or pins slot None)

-- the first slot that is pinned to a block; 8 more than the number of the first one if none is
abbrev pub is_pin_to : Option Pin → (bank block : ℕ) → Bool
is_pin_to None bank block = false
is_pin_to (Some p) bank block = (p.bank == bank) && (p.block == block)

abbrev pub slot_from : ℕ → List (Option Pin) → (bank block : ℕ) → ℕ
slot_from k [] bank block = k
slot_from k (pin ∷ pins) bank block = if is_pin_to pin bank block then k else slot_from (k + 1) pins bank block

-- how many blocks follow the first block of a place whose slot is pinned, and the slots of four blocks that do
abbrev pub further_blocks : List (Option Pin) → ℕ → Place → ℕ → ℕ
further_blocks pins w q slot = if is_pinned pins slot then min 4 (blocks_for (2 ^ w) q.length - 1) else 0

abbrev pub four_slots : List (Option Pin) → Place → List ℕ
four_slots pins q =
    slot_from 0 pins q.bank (q.block + 1)
    ∷ slot_from 0 pins q.bank (q.block + 2)
    ∷ slot_from 0 pins q.bank (q.block + 3)
    ∷ slot_from 0 pins q.bank (q.block + 4)
    ∷ []

-- a place and the slots that serve it, if a block has 2^w words
abbrev pub home_at : List (Option Pin) → ℕ → Place → ℕ → Home
home_at pins w q slot = record {
  bank = q.bank;
  block = q.block;
  word = q.word;
  length = q.length;
  slot = slot;
  resident = is_pinned pins slot;
  more = take (further_blocks pins w q slot) (four_slots pins q);
}

-- each place with its slot, in order
abbrev pub homes_at : List (Option Pin) → ℕ → List Place → List ℕ → List Home
homes_at pins w [] slots = []
homes_at pins w (q ∷ places) [] = []
homes_at pins w (q ∷ places) (slot ∷ slots) = home_at pins w q slot ∷ homes_at pins w places slots

-- what the code of a program is made for: by a plan of its memory, on a machine, and with or without steps in the place
-- of operations by numbers and comparisons before remainders, with what registers hold for the whole run. Nothing is
-- known of the store.
abbrev pub setting_for : Source → Plan → Profile → Bool → List Held → Setting
setting_for p plan profile reduces held = record {
  decls = p.decls;
  homes = homes_at plan.pins profile.block_log plan.places plan.slots;
  blocks = plan.blocks;
  pins = plan.pins;
  held = held;
  profile = profile;
  reduces = reduces;
  ranges = nothing_known (length p.decls);
}

-- The plan of a frame, and what its code is made for: slots hold only the blocks of the scalars for the whole run,
-- registers hold nothing, and no operation is replaced.
abbrev pub plan_of : Frame → Plan
plan_of f = plan_with f.places.now f.slots.now scalar_pins

abbrev pub setting_of : Frame → Setting
setting_of f = setting_for (source_of f.program.now) (plan_of f) f.profile.now false []

-- the same of a frame with what `--fast` adds
abbrev pub fast_plan_of : FastFrame → Plan
fast_plan_of f = plan_with f.places.now f.slots.now f.pins

abbrev pub fast_setting : FastFrame → Setting
fast_setting f = setting_for (source_of f.program.now) (fast_plan_of f) f.profile.now f.reduces f.held.now

-- A program that is well typed and within the limits, with a plan of memory that is sound for it where a block has as
-- many words as the profile says, and a profile in its ranges.
pub record IsFrame (f : Frame) : Type 0 where
  pub typed : IsTyped (source_of f.program.now)
  pub within : IsWithinLimits (source_of f.program.now)
  pub plan : IsSoundPlan (source_of f.program.now) f.profile.now.block_log (plan_of f)
  pub profile : ProfileFits f.profile.now

-- the same with registers that hold what is sound for the program
pub record IsSetUp (p : Source) (memory : Plan) (machine : Profile) (registers : List Held) : Type 0 where
  pub typed : IsTyped p
  pub within : IsWithinLimits p
  pub plan : IsSoundPlan p machine.block_log memory
  pub profile : ProfileFits machine
  pub held : IsSoundHeld p.decls registers

abbrev pub IsFastFrame : FastFrame → Type 0
IsFastFrame f = IsSetUp (source_of f.program.now) (fast_plan_of f) f.profile.now f.held.now
