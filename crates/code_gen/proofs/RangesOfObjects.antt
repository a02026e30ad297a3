-- An object with a program's layout, and with the program's code and notes, is in its ranges.
use Rattle.std.proofs.Common.{◌≡◌, ℕ, ◌+◌, ◌^◌, ◌≤◌, List, [], ◌∷◌, length, sym, ap, ◌∙◌, subst, arith}
use Rattle.std.specs.Prelude.{All}
use Rattle.std.proofs.lemmas.List.{length-map}
use Rattle.std.proofs.lemmas.List.Sorted.{length_permutation}
use Rattle.gr_base.specs.Prelude.{Within, EachAfter}
use Rattle.lt_isa.specs.declared.instructions.Instr.{Instr}
use Rattle.lt_isa.specs.declared.profiles.BankSpec.{BankSpec}
use Rattle.lt_isa.specs.declared.symbols.Note.{Note}
use Rattle.lt_isa.specs.Prelude.{most_latency, most_notes, most_instructions, Parts, ProfileFits, SymbolFits, InstrFits, NoteFits, next_place, IsInRange}
use Rattle.src_tree.specs.declared.trees.Decl.{Decl}
use Rattle.src_tree.specs.Prelude.{source_of}
use Rattle.bank_alloc.specs.declared.places.Place.{Place}
use Rattle.bank_alloc.proofs.BankSizes.{banks_fit}
use Rattle.bank_alloc.specs.Prelude.{IsLaidOut, placed_symbols}
use Rattle.held_registers.specs.declared.registers.Held.TheVariants.{Number, Scalar}
use Rattle.block_cache_gen.specs.declared.frames.FastFrame.{FastFrame}
use Rattle.block_cache_gen.specs.Prelude.{fast_setting, IsFastFrame, BlockHasWords}
use Rattle.block_cache_gen.proofs.HomesOfFrames.{homes_fit, first_fits, frame_banks}
use Rattle.block_cache_gen.proofs.HeldBeginning.{held-at}
use Rattle.block_cache_gen.proofs.RangesOfCode.{HomeFits, HomesFit}
use Rattle.code_gen.specs.Prelude.{padding_of, program_code, program_notes}
use Rattle.code_gen.proofs.ScalarsNumbered.{scalar-numbered}
use Rattle.code_gen.proofs.RangesOfPrograms.{HeldFit, PinsInEight, program-size, program-fits, notes-fit, notes-few, notes-inside}
use Rattle.gr_word.specs.declared.variables.Shape.TheVariants as shape

-- as many symbols as variables
symbols_short : (ds : List Decl) (places : List Place) → length (placed_symbols ds places) ≤ length ds
symbols_short [] places = omega arith
symbols_short (d ∷ ds) [] = omega arith
symbols_short (d ∷ ds) (q ∷ places) = omega (arith, symbols_short ds places)

-- what registers hold in a frame's code
held_fit : (f : FastFrame) → IsFastFrame f → (banks : ℕ) → HomesFit banks (fast_setting f)
    → HeldFit banks (fast_setting f) 19 f.held.now
held_fit f frame banks homes =
    let g = fast_setting f in
    let sound = frame.held in
    record {
      few = omega (arith, sound.few);
      words = λ i z at. sound.words (19 + i) z (held-at f.held.now i (Number z) at);
      homes = λ i n at.
          let typed = frame.typed in
          let named = scalar-numbered g typed.once sound (19 + i) n (held-at f.held.now i (Scalar n) at) in
          subst (HomeFits banks) named.home (homes.homes named.name named.label shape.Scalar named.declared);
    }

-- The frame that the code was made for; symbols and latencies in their ranges; and numbers that are words, as those of
-- every program are.
pub frame-in_range : (f : FastFrame) → IsFastFrame f → (o : Parts) → o.profile ≡ f.profile.now
    → IsLaidOut (source_of f.program.now) f.profile.now.block_log f.places.now.of_var.items f.places.now.blocks.items o
    → EachAfter (SymbolFits (2 ^ f.profile.now.block_log) o.banks) [] o.symbols
    → All (λ b. Within 1 most_latency b.latency) o.banks → BlockHasWords (source_of f.program.now).body
    → o.code ≡ program_code (fast_setting f) padding_of (source_of f.program.now).body
    → o.notes ≡ program_notes (fast_setting f) padding_of (source_of f.program.now).body → IsInRange o
frame-in_range f frame o profile layout named latencies words code notes =
    let p = source_of f.program.now in
    let w = f.profile.now.block_log in
    let g = fast_setting f in
    let few = frame.profile.taken.1 in
    let light = frame.within.weight in
    let eight : PinsInEight g = λ slot pin pinned. (frame.plan.pins slot pin pinned).few in
    let registers = (let sound = frame.held in sound.few) in
    let places = f.places.now.of_var.items in
    let banks : length f.places.now.blocks.items ≡ length o.banks =
    ap length (sym layout.blocks) ∙ length-map o.banks (λ (b : BankSpec). b.blocks) in
    let some : 2 ≤ length o.banks = subst (λ (n : ℕ). 2 ≤ n) banks (frame_banks f frame) in
    let homes = subst (λ (n : ℕ). HomesFit n g) banks (homes_fit f frame) in
    let symbols : length o.symbols ≤ length p.decls =
    omega (
      arith,
      length_permutation (placed_symbols p.decls places) o.symbols layout.symbols.each,
      symbols_short p.decls places,
    ) in
    let variables = frame.within.variables in
    record {
      profile = subst ProfileFits (sym profile) frame.profile;
      bank_count = (some, omega (arith, banks, frame.plan.banks.1));
      banks = banks_fit f.places.now.blocks.items o.banks frame.plan.blocks layout.blocks latencies;
      symbol_count = omega arith;
      symbols
          = subst (λ (n : ℕ). EachAfter (SymbolFits (2 ^ n) o.banks) [] o.symbols) (sym layout.block_size)
          named;
      note_count = subst (λ (ns : List Note). length ns ≤ most_notes) (sym notes)
          (notes-few g p.body few eight registers light);
      notes
          = subst (EachAfter (NoteFits (length o.banks)) []) (sym notes) (notes-fit g p.body few eight registers light
          (length o.banks) some homes.pins);
      code_size
          = subst (λ (c : List Instr). Within 1 most_instructions (length c)) (sym code)
          (program-size g p.body few eight registers light);
      behind_notes
          = subst (λ (ns : List Note). next_place ns ≤ length o.code) (sym notes)
          (subst (λ (c : List Instr). next_place (program_notes g padding_of p.body) ≤ length c) (sym code)
          (notes-inside g p.body few eight registers light));
      code
          = subst (All (InstrFits (length o.banks))) (sym code)
          (program-fits g p.body few eight registers light (length o.banks) some homes
          (first_fits f frame) (held_fit f frame (length o.banks) homes) frame.typed.body words frame.within.heights);
    }
