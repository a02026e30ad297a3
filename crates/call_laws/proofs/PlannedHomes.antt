-- The homes of a sound plan's variables are in their ranges, and so is an object with the code of its program.
use Rattle.std.proofs.Common.{◌≡◌, ℕ, ◌+◌, ◌*◌, ◌^◌, ◌<◌, ◌≤◌, Bool, true, false, List, [], ◌∷◌, length, map, get_or, Option, Some, None, ⊎_elim, refl, sym, ap, ◌∙◌, subst, arith}
use Rattle.std.specs.Prelude.{All, IsTrue, if◌then◌else◌}
use Rattle.std.proofs.lemmas.Bool.{cases_lt}
use Rattle.std.proofs.lemmas.List.{length-map}
use Rattle.std.proofs.lemmas.List.Elements.{All-nil, All-cons, All-head, All-tail}
use Rattle.std.proofs.lemmas.List.Sorted.{length_permutation}
use Rattle.std.proofs.Math.Nat.{mul-le-mul_left}
use Rattle.std.proofs.Math.Pow.{pow_mono}
use Rattle.gr_base.specs.Prelude.{Within}
use Rattle.gr_word.specs.Prelude.{is_name}
use Rattle.lt_isa.specs.declared.profiles.BankSpec.{BankSpec}
use Rattle.lt_isa.specs.declared.profiles.Latencies.{Latencies}
use Rattle.lt_isa.specs.declared.profiles.Profile.{Profile}
use Rattle.lt_isa.specs.declared.symbols.Symbol.{Symbol}
use Rattle.lt_isa.specs.Prelude.{most_latency, Parts, is_eram, is_ram, IsInRange, ProfileFits}
use Rattle.lt_isa.proofs.SymbolPlaces.{most_blocks-le}
use Rattle.src_tree.specs.declared.trees.Decl.{Decl}
use Rattle.src_tree.specs.Prelude.{IsWithinLimits, variable_number, Source, IsTyped}
use Rattle.src_tree.proofs.VariableNumbers.{number-below}
use Rattle.bank_alloc.specs.declared.places.Place.{Place}
use Rattle.bank_alloc.specs.Prelude.{symbol_key, AreSymbolsAt, placed_symbols}
use Rattle.bank_alloc.proofs.BankSizes.{banks_fit}
use Rattle.bank_alloc.proofs.SymbolOrder.{length-symbols_at, symbols_in_range, symbols_sorted}
use Rattle.scratch_alloc.specs.Prelude.{Plan, IsSoundPlan, IsSoundByPin, pin_of_slot, no_decl, no_place}
use Rattle.scratch_alloc.proofs.PlanPlaces.{plan_places}
use Rattle.scratch_alloc.proofs.Serving.{serves-within}
use Rattle.held_registers.specs.declared.registers.Held.{Held}
use Rattle.held_registers.specs.declared.registers.Held.TheVariants.{Number, Scalar}
use Rattle.held_registers.specs.Prelude.{IsSoundHeld}
use Rattle.block_cache_gen.specs.Prelude.{Pin, Setting, no_home, BlockHasWords, block_served, homes_at, setting_for}
use Rattle.block_cache_gen.proofs.HeldBeginning.{held-at}
use Rattle.block_cache_gen.proofs.HomesOfFrames.{further-low}
use Rattle.block_cache_gen.proofs.RangesOfCode.{HomeFits, HomesFit}
use Rattle.block_cache_gen.proofs.ServedBlocks.{served-home, first-all}
use Rattle.block_cache_gen.proofs.Settled.{get_or-homes_at, length-homes_at, place-length}
use Rattle.compiled_objects.specs.Prelude.{LatenciesFit, latency_for}
use Rattle.code_gen.specs.Prelude.{padding_of, banks_from, IsMadeOf, program_code, program_notes}
use Rattle.code_gen.proofs.Assembled.{blocks-made}
use Rattle.code_gen.proofs.ScalarsNumbered.{scalar-numbered}
use Rattle.code_gen.proofs.RangesOfPrograms.{FirstFit, HeldFit, PinsInEight, program-size, program-fits, notes-fit, notes-few, notes-inside}
use Rattle.call_laws.proofs.SortedLists.{sorted-some}
use Rattle.gr_word.specs.declared.variables.Shape.TheVariants as shape

-- the block of a variable is in its bank
block-low : (size block word length blocks : ℕ) → block * size + word + length ≤ blocks * size → 1 ≤ length
    → block < blocks
block-low size block word length blocks inside some =
    ⊎_elim (λ less. less)
    (λ past. let more : size * blocks ≤ size * block = mul-le-mul_left size past in absurd (omega (arith, more, inside, some)))
    (cases_lt block blocks)

width : (w : ℕ) → w ≤ 9 → 2 ^ w ≤ 512
width w low = pow_mono low

-- names of variables, at any places
symbols-named : (ds : List Decl) (places : List Place) → All (λ d. IsTrue (is_name d.name)) ds
    → All (λ s. IsTrue (is_name s.name)) (placed_symbols ds places)
symbols-named [] places named = All-nil (λ (s : Symbol). IsTrue (is_name s.name))
symbols-named (d ∷ ds) [] named = All-nil (λ (s : Symbol). IsTrue (is_name s.name))
symbols-named (d ∷ ds) (q ∷ places) named =
    All-cons (λ (s : Symbol). IsTrue (is_name s.name)) _ (placed_symbols ds places)
    (All-head (λ (x : Decl). IsTrue (is_name x.name)) d ds named)
    (symbols-named ds places (All-tail (λ (x : Decl). IsTrue (is_name x.name)) d ds named))

latency-fits : (l : Latencies) → LatenciesFit l → (bank : ℕ) → Within 1 most_latency (latency_for l bank)
latency-fits l fits bank = by (is_ram bank) (is_eram bank)
  where
    by : (ram eram : Bool) → Within 1 most_latency (if ram then l.ram else (if eram then l.eram else l.oram))
    by true eram = fits.ram
    by false true = fits.eram
    by false false = fits.oram

latencies-fit : (l : Latencies) → LatenciesFit l → (bank : ℕ) (ns : List ℕ)
    → All (λ b. Within 1 most_latency b.latency) (banks_from l bank ns)
latencies-fit l fits bank [] = All-nil (λ (b : BankSpec). Within 1 most_latency b.latency)
latencies-fit l fits bank (n ∷ ns) =
    All-cons (λ (b : BankSpec). Within 1 most_latency b.latency) (record { blocks = n; latency = latency_for l bank })
    (banks_from l (bank + 1) ns) (latency-fits l fits bank) (latencies-fit l fits (bank + 1) ns)

module _ (p : Source) (plan : Plan) (given : Profile) (reduces : Bool) (held : List Held) (typed : IsTyped p)
    (within : IsWithinLimits p) (sound : IsSoundPlan p given.block_log plan) (holds : IsSoundHeld p.decls held)
    (fits : ProfileFits given) where
  abbrev w : ℕ
  w = given.block_log

  abbrev f : Setting
  f = setting_for p plan given reduces held

  same : length plan.slots ≡ length plan.places
  same = sound.slots ∙ sym sound.places

  slot-low : (k : ℕ) → k < length p.decls → get_or plan.slots k 0 < 8
  slot-low k below = by (pin_of_slot plan (get_or plan.slots k 0)) refl (sound.served k below)
    where
      by : (pin : Option Pin) → pin_of_slot plan (get_or plan.slots k 0) ≡ pin
          → IsSoundByPin w plan (get_or p.decls k no_decl) (get_or plan.places k no_place) (get_or plan.slots k 0) pin
          → get_or plan.slots k 0 < 8
      by None is served = omega (arith, (serves-within served.served).1)
      by (Some q) is served = (sound.pins (get_or plan.slots k 0) q is).few

  bank-low : (b : ℕ) → b < length plan.blocks → get_or plan.blocks b 0 ≤ 65536
  bank-low b there = omega (arith, (sound.blocks b there).1, most_blocks-le b)

  home_fits-at : (k : ℕ) → k < length p.decls
      → HomeFits (length plan.blocks) (get_or (homes_at plan.pins w plan.places plan.slots) k no_home)
  home_fits-at k below =
      let q = get_or plan.places k no_place in
      let place = sound.place k below in
      let size = place-length p w plan k within sound below in
      let block = block-low (2 ^ w) q.block q.word q.length (get_or plan.blocks q.bank 0) place.inside size.0 in
      let few = bank-low q.bank place.bank in
      let words = width w fits.block_log.1 in
      subst (HomeFits (length plan.blocks))
      (sym (get_or-homes_at plan.pins w plan.places plan.slots k same (omega (arith, below, sound.places))))
      (record {
        bank = place.bank;
        block = omega (arith, block, few);
        word = omega (arith, place.word, words);
        length = size;
        slot = slot-low k below;
        more = further-low p w plan sound (get_or p.decls k no_decl) q (get_or plan.slots k 0)
            (pin_of_slot plan (get_or plan.slots k 0)) refl (sound.served k below);
      })

  homes-fit : HomesFit (length plan.blocks) f
  homes-fit = record {
    block_log = fits.block_log.1;
    held = holds;
    pins = λ slot pin pinned. (sound.pins slot pin pinned).bank;
    homes = λ x label shape known.
        home_fits-at (variable_number p.decls x) (number-below p.decls x (label, shape) known);
  }

  served-fits : (slot block : ℕ) → block_served f slot ≡ Some block → block ≤ 65536
  served-fits slot block served =
      let count = length-homes_at plan.pins w plan.places plan.slots same in
      let home = served-home f slot block served in
      let at = home_fits-at home.0 (omega (arith, home.1, count, sound.places)) in
      omega (arith, at.block, home.2)

  first-fits : FirstFit f
  first-fits slot pin begins =
      first-all f (λ p. (p.bank < 2) × (p.block ≤ 65536))
      (λ slot p pinned.
      let is = sound.pins slot p pinned in
      let few = bank-low p.bank (omega (arith, is.bank, sound.banks.0)) in
      (is.bank, omega (arith, is.block, few)))
      (λ slot bank block low served. (low, served-fits slot block served)) slot pin begins

  in-eight : PinsInEight f
  in-eight slot pin pinned = (sound.pins slot pin pinned).few

  -- what registers hold
  held-fits : (banks : ℕ) → HomesFit banks f → HeldFit banks f 19 held
  held-fits banks homes = record {
    few = omega (arith, holds.few);
    words = λ i z at. holds.words (19 + i) z (held-at held i (Number z) at);
    homes = λ i n at.
        let named = scalar-numbered f typed.once holds (19 + i) n (held-at held i (Scalar n) at) in
        subst (HomeFits banks) named.home (homes.homes named.name named.label shape.Scalar named.declared);
  }

  -- the object of the plan
  module _ (l : Latencies) (latencies : LatenciesFit l) (symbols : List Symbol) (words : BlockHasWords p.body)
      (named : All (λ d. IsTrue (is_name d.name)) p.decls)
      (sorted : AreSymbolsAt p w plan.places symbols) where
    abbrev object : Parts
    object = record {
      profile = given;
      banks = banks_from l 0 plan.blocks;
      symbols = symbols;
      notes = program_notes f padding_of p.body;
      code = program_code f padding_of p.body;
    }

    blocks-are : map (λ (b : BankSpec). b.blocks) (banks_from l 0 plan.blocks) ≡ plan.blocks
    blocks-are = blocks-made l 0 plan.blocks

    bank-count : length plan.blocks ≡ length (banks_from l 0 plan.blocks)
    bank-count =
        ap (λ (bs : List ℕ). length bs) (sym blocks-are)
        ∙ length-map (banks_from l 0 plan.blocks) (λ (b : BankSpec). b.blocks)

    object-in_range : IsInRange object
    object-in_range =
        let few = fits.taken.1 in
        let light = within.weight in
        let banks = length (banks_from l 0 plan.blocks) in
        let some : 2 ≤ banks = omega (arith, bank-count, sound.banks.0) in
        let homes = subst (λ (n : ℕ). HomesFit n f) bank-count homes-fit in
        let count = length_permutation (placed_symbols p.decls plan.places) symbols sorted.each in
        let variables = within.variables in
        record {
          profile = fits;
          bank_count = (some, omega (arith, bank-count, sound.banks.1));
          banks = banks_fit plan.blocks (banks_from l 0 plan.blocks) sound.blocks blocks-are
              (latencies-fit l latencies 0 plan.blocks);
          symbol_count = omega (arith, count, length-symbols_at p.decls plan.places sound.places, variables);
          symbols = symbols_in_range p w plan.blocks plan.places (banks_from l 0 plan.blocks) symbols typed within
              (plan_places p w plan sound) (symbols-named p.decls plan.places named) sorted blocks-are;
          note_count = notes-few f p.body few in-eight holds.few light;
          notes = notes-fit f p.body few in-eight holds.few light banks some homes.pins;
          code_size = program-size f p.body few in-eight holds.few light;
          behind_notes = notes-inside f p.body few in-eight holds.few light;
          code = program-fits f p.body few in-eight holds.few light banks some homes first-fits
              (held-fits banks homes) typed.body words within.heights;
        }

    object-made : IsMadeOf p plan given reduces held l object
    object-made = record {
      in_range = object-in_range;
      profile = refl;
      layout = record { block_size = refl; blocks = blocks-are; symbols = sorted };
      banks = refl;
      code = refl;
      notes = refl;
    }

  -- there is an object with the plan's places and the program's code
  pub made-some : (l : Latencies) → LatenciesFit l → BlockHasWords p.body
      → All (λ d. IsTrue (is_name d.name)) p.decls → (o : Parts) × IsMadeOf p plan given reduces held l o
  made-some l latencies words named =
      let sort = sorted-some symbol_key (placed_symbols p.decls plan.places) in
      let sorted = symbols_sorted p w plan.blocks plan.places sort.0 typed within fits.block_log
      (plan_places p w plan sound) (symbols-named p.decls plan.places named) sort.1 sort.2 in
      (object l latencies sort.0 words named sorted, object-made l latencies sort.0 words named sorted)
