-- Properties of the object that a program is compiled to.
use Rattle.std.proofs.Common.{◌≡◌, ℕ, suc, zero, ◌+◌, ◌*◌, ◌^◌, ◌<◌, ◌≤◌, Bool, true, false, List, [], ◌∷◌, length, map, get_or, Option, refl, sym, ap, ◌∙◌, subst, arith}
use Rattle.std.specs.Prelude.{All, if◌then◌else◌}
use Rattle.std.proofs.Math.Nat.{zero-add}
use Rattle.std.proofs.lemmas.List.Elements.{All-cons}
use Rattle.gr_base.specs.Prelude.{Within, EachAfter}
use Rattle.lt_isa.specs.declared.profiles.Profile.{Profile}
use Rattle.lt_isa.specs.declared.profiles.Latencies.{Latencies}
use Rattle.lt_isa.specs.declared.profiles.BankSpec.{BankSpec}
use Rattle.lt_isa.specs.Prelude.{most_latency, Parts, no_bank, is_ram, is_eram, ProfileFits, SymbolFits}
use Rattle.src_tree.specs.Prelude.{IsWithinLimits, weight_of, Source, source_of, IsTyped}
use Rattle.trace_patterns.specs.Prelude.{Accepts}
use Rattle.bank_alloc.specs.Prelude.{AreSymbolsAt, IsLaidOut, IsPlacesOf, places_of, blocks_of_banks}
use Rattle.bank_alloc.specs.declared.places.Place.{Place}
use Rattle.bank_alloc.specs.declared.places.Places.{Places}
use Rattle.scratch_alloc.specs.declared.plans.PinnedPlan.{PinnedPlan}
use Rattle.scratch_alloc.specs.declared.plans.Pin.{Pin}
use Rattle.scratch_alloc.specs.Prelude.{Plan, IsSoundPlan, plan_from, scalar_pins, standard_plan, slots_of}
use Rattle.block_cache_gen.specs.declared.frames.FastFrame.{FastFrame}
use Rattle.held_registers.specs.Prelude.{IsSoundHeld}
use Rattle.block_cache_gen.specs.Prelude.{HasSecretSlot, Held, Setting, BlockHasWords, IsFastFrame, fast_plan_of, setting_for, fast_setting, stored_words}
use Rattle.block_cache_gen.proofs.Settled.{IsSettingOf}
use Rattle.block_cache_gen.proofs.SingleHomes.{oblivious-single}
use Rattle.compiled_objects.specs.Prelude.{IsFor, LatenciesFit, latency_for, stores_by, Implements}
use Rattle.code_gen.specs.Prelude.{padding_of, banks_from, IsMadeOf, program_code, program_notes}
use Rattle.code_gen.proofs.AcceptedPrograms.{laid-accepts}
use Rattle.code_gen.proofs.RangesOfObjects.{frame-in_range}
use Rattle.code_gen.proofs.RangesOfPrograms.{program-short}
use Rattle.code_gen.proofs.SecretsFollowed.{laid-code-implements}
use Rattle.code_gen.proofs.StoredStatements.{program-stored}

-- the banks that are made
pub blocks-made : (l : Latencies) (bank : ℕ) (ns : List ℕ)
    → map (λ (b : BankSpec). b.blocks) (banks_from l bank ns) ≡ ns
blocks-made l bank [] = refl
blocks-made l bank (n ∷ ns) = ap (λ xs. n ∷ xs) (blocks-made l (bank + 1) ns)

latency-made : (l : Latencies) (bank : ℕ) (ns : List ℕ) (b : ℕ) → b < length (banks_from l bank ns)
    → (get_or (banks_from l bank ns) b no_bank).latency ≡ latency_for l (bank + b)
latency-made l bank [] b within = absurd (omega arith)
latency-made l bank (n ∷ ns) zero within = let same : bank ≡ bank + zero = omega arith in ap (latency_for l) same
latency-made l bank (n ∷ ns) (suc b) within =
    let same : bank + 1 + b ≡ bank + suc b = omega arith in
    latency-made l (bank + 1) ns b (omega (arith, within)) ∙ ap (latency_for l) same

latency-fits : (l : Latencies) → LatenciesFit l → (ram eram : Bool)
    → Within 1 most_latency (if ram then l.ram else (if eram then l.eram else l.oram))
latency-fits l fits true eram = fits.ram
latency-fits l fits false true = fits.eram
latency-fits l fits false false = fits.oram

latencies-fit : (l : Latencies) → LatenciesFit l → (bank : ℕ) (ns : List ℕ)
    → All (λ b. Within 1 most_latency b.latency) (banks_from l bank ns)
latencies-fit l fits bank [] = λ k d within. absurd (omega (arith, within))
latencies-fit l fits bank (n ∷ ns) =
    All-cons (λ b. Within 1 most_latency b.latency) (record { blocks = n; latency = latency_for l bank })
    (banks_from l (bank + 1) ns) (latency-fits l fits (is_ram bank) (is_eram bank)) (latencies-fit l fits (bank + 1) ns)

-- what is assembled over a frame
pub frame-made : (f : FastFrame) (l : Latencies) (o : Parts) → IsFastFrame f → LatenciesFit l → o.profile ≡ f.profile.now
    → o.banks ≡ banks_from l 0 f.places.now.blocks.items
    → AreSymbolsAt (source_of f.program.now) f.profile.now.block_log f.places.now.of_var.items o.symbols
    → ((banks : List BankSpec) → map (λ b. b.blocks) banks ≡ f.places.now.blocks.items
    → EachAfter (SymbolFits (2 ^ f.profile.now.block_log) banks) [] o.symbols)
    → BlockHasWords (source_of f.program.now).body
    → o.code ≡ program_code (fast_setting f) padding_of (source_of f.program.now).body
    → o.notes ≡ program_notes (fast_setting f) padding_of (source_of f.program.now).body
    → IsMadeOf (source_of f.program.now) (fast_plan_of f) f.profile.now f.reduces f.held.now l o
frame-made f l o frame latencies profile banks symbols named words code notes =
    let blocks : map (λ (b : BankSpec). b.blocks) o.banks ≡ f.places.now.blocks.items =
    ap (map (λ (b : BankSpec). b.blocks)) banks ∙ blocks-made l 0 f.places.now.blocks.items in
    let layout : IsLaidOut (source_of f.program.now) f.profile.now.block_log f.places.now.of_var.items
    f.places.now.blocks.items o = record {
      block_size = ap (λ (q : Profile). q.block_log) profile;
      blocks = blocks;
      symbols = symbols;
    } in
    record {
      in_range
          = frame-in_range f frame o profile layout (named o.banks blocks)
          (subst (All (λ b. Within 1 most_latency b.latency)) (sym banks)
          (latencies-fit l latencies 0 f.places.now.blocks.items)) words code notes;
      profile = profile;
      layout = layout;
      banks = banks;
      code = code;
      notes = notes;
    }

-- the plan of a program's own places and slots
pub plan-standard : (p : Source) (w : ℕ) (places : Places) (slots : PinnedPlan) → IsPlacesOf p w places
    → slots.plan.of_var.items ≡ slots_of places.of_var.items → slots.pins ≡ scalar_pins
    → plan_from places slots ≡ standard_plan p w
plan-standard p w places slots are is pins =
    let plan : List Place → List ℕ → List ℕ → List (Option Pin) → Plan =
    λ qs ss bs ps. record { places = qs; slots = ss; blocks = bs; pins = ps } in
    ap (λ qs. plan qs slots.plan.of_var.items places.blocks.items slots.pins) are.of_var
    ∙ ap (λ ss. plan (places_of p w) ss places.blocks.items slots.pins) (is ∙ ap slots_of are.of_var)
    ∙ ap (λ bs. plan (places_of p w) (slots_of (places_of p w)) bs slots.pins) are.blocks
    ∙ ap (plan (places_of p w) (slots_of (places_of p w)) (blocks_of_banks p w)) pins

-- The contract's clauses for the object that a program is compiled to.
pub record CompilePromises (p : Source) (plan : Plan) (given : Profile) (reduces : Bool) (held : List Held)
    (l : Latencies) (o : Parts) : Type 0 where
  pub accepted : Accepts o
  pub implements : Implements p o
  pub machine : IsFor given l o
  pub size : length o.code ≤ 120 * weight_of p + (64 + 4 * length held)
  pub stores : stored_words reduces o.code ≡ stores_by p plan given reduces held

module _ (p : Source) (plan : Plan) (given : Profile) (reduces : Bool) (held : List Held) (l : Latencies)
    (typed : IsTyped p) (within : IsWithinLimits p) (sound : IsSoundPlan p given.block_log plan)
    (holds : IsSoundHeld p.decls held) (secret_slot : HasSecretSlot (setting_for p plan given reduces held))
    (profile : ProfileFits given) (o : Parts) (made : IsMadeOf p plan given reduces held l o) where
  abbrev setting : Setting
  setting = setting_for p plan given reduces held

  is-setting : IsSettingOf p plan o setting
  is-setting = record {
    decls = refl;
    homes = refl;
    blocks = refl;
    pins = refl;
    held = holds;
    profile = made.profile;
  }

  made-accepted : Accepts o
  made-accepted =
      let taken = profile.taken in
      laid-accepts p given.block_log plan typed within sound o made.layout setting is-setting secret_slot taken.0 made.code
      made.notes

  made-implements : Implements p o
  made-implements =
      laid-code-implements p given.block_log plan typed within sound o made.in_range made.layout setting is-setting
      secret_slot made.code

  made-for : IsFor given l o
  made-for = record {
    profile = made.profile;
    latencies = λ b exists.
        ap (λ banks. (get_or banks b no_bank).latency) made.banks
        ∙ latency-made l 0 plan.blocks b (omega (arith, exists, ap length made.banks))
        ∙ ap (latency_for l) (zero-add b);
  }

  made-short : length o.code ≤ 120 * weight_of p + (64 + 4 * length held)
  made-short =
      let taken = profile.taken in
      omega (
        arith,
        ap length made.code,
        program-short setting p.body taken.1
            (λ slot pin pinned. (sound.pins slot pin pinned).few) holds.few within.weight,
      )

  made-stores : stored_words reduces o.code ≡ stores_by p plan given reduces held
  made-stores =
      let single = oblivious-single p plan given reduces held sound in
      ap (stored_words reduces) made.code ∙ program-stored setting single p.body typed.body

  -- all of it holds of what was made
  pub made-promises : CompilePromises p plan given reduces held l o
  made-promises = record {
    accepted = made-accepted;
    implements = made-implements;
    machine = made-for;
    size = made-short;
    stores = made-stores;
  }
