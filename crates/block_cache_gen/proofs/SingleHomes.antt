-- An array of an oblivious bank has no further slots, since no slot holds one of its blocks for the whole run.
use Rattle.std.proofs.Common.{◌≡◌, ℕ, ◌<◌, ◌≤◌, Bool, false, List, [], length, get_or, Option, Some, None, refl, sym, ◌∙◌, subst, ⊎_elim, arith}
use Rattle.std.proofs.lemmas.Bool.{cases_lt}
use Rattle.std.proofs.lemmas.List.{get_or_past}
use Rattle.lt_isa.specs.declared.profiles.Profile.{Profile}
use Rattle.src_tree.specs.Prelude.{variable_number, Source, source_of}
use Rattle.bank_alloc.proofs.Apart.{scalar_bank-lt}
use Rattle.scratch_alloc.specs.Prelude.{Plan, IsSoundPlan, IsSoundByPin, pin_of_slot, no_decl, no_place}
use Rattle.block_cache_gen.specs.Prelude.{Held, Home, Pin, Setting, further_slots, home_of, no_home, IsFrame, home_at, homes_at, plan_of, setting_for, setting_of}
use Rattle.block_cache_gen.specs.declared.frames.Frame.{Frame}
use Rattle.block_cache_gen.proofs.FurtherSlots.{unpinned_place}
use Rattle.block_cache_gen.proofs.Settled.{get_or-homes_at, length-homes_at}

abbrev pub IsSingleIfOblivious : Home → Type 0
IsSingleIfOblivious h = 2 ≤ h.bank → further_slots h ≡ []

abbrev pub ObliviousAreSingle : Setting → Type 0
ObliviousAreSingle f = (x : List ℕ) → IsSingleIfOblivious (home_of f x)

module _ (p : Source) (w : ℕ) (plan : Plan) (sound : IsSoundPlan p w plan) where
  declared-single : (k : ℕ) → k < length p.decls
      → IsSingleIfOblivious (home_at plan.pins w (get_or plan.places k no_place) (get_or plan.slots k 0))
  declared-single k within high = by (pin_of_slot plan slot) refl (sound.served k within)
    where
      slot : ℕ
      slot = get_or plan.slots k 0

      by : (pin : Option Pin) → pin_of_slot plan slot ≡ pin
          → IsSoundByPin w plan (get_or p.decls k no_decl) (get_or plan.places k no_place) slot pin
          → further_slots (home_at plan.pins w (get_or plan.places k no_place) slot) ≡ []
      by None is served = unpinned_place plan.pins w (get_or plan.places k no_place) slot is
      by (Some q) is served =
          let low = scalar_bank-lt (get_or p.decls k no_decl).label in
          absurd (omega (arith, served.bank, low, high))

  -- the home of any number
  pub number-single : (k : ℕ)
      → IsSingleIfOblivious (get_or (homes_at plan.pins w plan.places plan.slots) k no_home)
  number-single k =
      ⊎_elim
      (λ within.
      subst IsSingleIfOblivious (sym (get_or-homes_at plan.pins w plan.places plan.slots k same (omega (arith, within, sound.places))))
      (declared-single k within))
      (λ past.
      subst IsSingleIfOblivious
      (sym (get_or_past (homes_at plan.pins w plan.places plan.slots) k no_home (omega (arith, past, sound.places, count))))
      (λ high. absurd (omega (arith, high))))
      (cases_lt k (length p.decls))
    where
      same : length plan.slots ≡ length plan.places
      same = sound.slots ∙ sym sound.places

      count : length (homes_at plan.pins w plan.places plan.slots) ≡ length plan.places
      count = length-homes_at plan.pins w plan.places plan.slots same

pub oblivious-single : (p : Source) (plan : Plan) (profile : Profile) (reduces : Bool) (held : List Held)
    → IsSoundPlan p profile.block_log plan → ObliviousAreSingle (setting_for p plan profile reduces held)
oblivious-single p plan profile reduces held sound x =
    number-single p profile.block_log plan sound (variable_number p.decls x)

pub frame-single : (f : Frame) → IsFrame f → ObliviousAreSingle (setting_of f)
frame-single f is =
    oblivious-single (source_of f.program.now) (plan_of f) f.profile.now false [] is.plan
