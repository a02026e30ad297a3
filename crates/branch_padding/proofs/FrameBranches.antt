-- What the code that the call over a frame appends for a branch does, and how the check passes and walks it.
use Rattle.std.proofs.Common.{◌≡◌, ℕ, ◌+◌, ◌*◌, ◌≤◌, pos, ◌++◌, [], ◌∷◌, List, length, refl, sym, ap, ◌∙◌, subst, arith, length-append}
use Rattle.std.specs.List.{All}
use Rattle.std.proofs.lemmas.List.Elements.{All-append, All-cons, All-contains, All-nil}
use Rattle.gr_word.specs.declared.variables.Label.{Label}
use Rattle.lt_isa.specs.declared.instructions.Instr.{Instr}
use Rattle.lt_isa.specs.declared.instructions.Instr.TheVariants.{Jmp}
use Rattle.lt_isa.specs.declared.symbols.Note.{Note}
use Rattle.lt_isa.specs.Prelude.{most_instructions}
use Rattle.src_tree.specs.Prelude.{Context, context_of, inside, IsWithinLimits, LowStatement, max_weight, parts_weight, statement_weight, block_weight, test_weight, with_parts, in_order, Test, Statement, SetVariable, SetElement, Choice, Loop, Block, Nothing, Then, Source, source_of, TypedStatement, variable_number, StandsIn}
use Rattle.src_tree.specs.declared.trees.Decl.{Decl}
use Rattle.scalar_ranges.specs.Prelude.{nothing_known, AreOfPublic}
use Rattle.scalar_ranges.proofs.Coming.{none-at}
use Rattle.scalar_ranges.proofs.Results.{no-range}
use Rattle.block_cache_gen.specs.declared.frames.CodeBuf.{CodeBuf}
use Rattle.block_cache_gen.specs.declared.frames.Frame.{Frame}
use Rattle.block_cache_gen.specs.declared.frames.Mode.{Mode}
use Rattle.block_cache_gen.specs.declared.frames.Mode.TheVariants.{Public, Real, Mirrored}
use Rattle.block_cache_gen.specs.Prelude.{IsEffect, by_mode, code_behind, notes_behind, guard_code, notes_in, Extends, Setting, guard_notes, AtItsPlace, StatementHasWords, IsFrame, setting_of, stored_words}
use Rattle.block_cache_gen.proofs.Extending.{extends}
use Rattle.block_cache_gen.proofs.FrameClauses.{behind-holds, secret_mode}
use Rattle.block_cache_gen.proofs.FrameIndexes.{frame_public}
use Rattle.block_cache_gen.proofs.HomesOfFrames.{plain_fit, plain_banks}
use Rattle.src_tree.proofs.ProgramStatements.{statement_typed, statement_low}
use Rattle.block_cache_gen.proofs.RangesOfNotes.{rise-wider, guard-rises, guard-count}
use Rattle.block_cache_gen.proofs.RunsOf.{guard-evaluates}
use Rattle.branch_padding.specs.Prelude.{code_for, IsBranchFor, IsPassedAsBranch, IsChoice, EmitsChoice, EmitsBranch, effect_of, Makes, padded_code, region_code, first_of, second_of, IsRegionOf, IsWalkedAsStatement, stores_of}
use Rattle.branch_padding.proofs.EffectRuns.{statement-makes}
use Rattle.branch_padding.proofs.EffectsMean.{secret-typed, effect-means}
use Rattle.branch_padding.proofs.Lengths.{statement-short}
use Rattle.branch_padding.proofs.NestingWeights.{choice-nesting}
use Rattle.branch_padding.proofs.PaddedRanges.{padded-fits}
use Rattle.branch_padding.proofs.NestedRegions.{choice-nests}
use Rattle.branch_padding.proofs.PublicRegions.{branch_offset, PassedRegion, region-passes, choice-opens}
use Rattle.branch_padding.proofs.SecretStatementWalks.{statement-walked}
use Rattle.block_cache_gen.proofs.SingleHomes.{ObliviousAreSingle, frame-single}
use Rattle.branch_padding.proofs.StoredRows.{statement-stores, public_choice-stores}
use Rattle.gr_word.specs.declared.variables.Label.TheVariants as label

-- a statement of a program weighs no more than the program
abbrev pub WeighsIn : Context → ℕ → Label × Statement → Type 0
WeighsIn known most p = statement_weight known p.0 p.1 ≤ most

parts-least : (l : Label) (parts most : ℕ) → parts_weight l parts ≤ most → parts ≤ most
parts-least label.Public parts most le = le
parts-least label.Secret parts most le = omega arith

mutual
  parts_weigh : (known : Context) (most : ℕ) (code : Label) (s : Statement) → statement_weight known code s ≤ most
      → All (WeighsIn known most) (with_parts known code s)
  parts_weigh known most code (SetVariable x e) le =
      All-cons (WeighsIn known most) _ [] le (All-nil (WeighsIn known most))
  parts_weigh known most code (SetElement x i e) le =
      All-cons (WeighsIn known most) _ [] le (All-nil (WeighsIn known most))
  parts_weigh known most code (Choice t a b) le =
      let l = inside known code t in
      let both : block_weight known l a + block_weight known l b ≤ most =
      parts-least l (block_weight known l a + block_weight known l b) most (omega arith) in
      All-cons (WeighsIn known most) _ (in_order known l a ++ in_order known l b) le
      (All-append (WeighsIn known most) (in_order known l a) (in_order known l b)
      (block_weighs known most l a (omega arith)) (block_weighs known most l b (omega arith)))
  parts_weigh known most code (Loop t a) le =
      All-cons (WeighsIn known most) _ (in_order known code a) le (block_weighs known most code a (omega arith))

  block_weighs : (known : Context) (most : ℕ) (code : Label) (b : Block) → block_weight known code b ≤ most
      → All (WeighsIn known most) (in_order known code b)
  block_weighs known most code Nothing le = All-nil (WeighsIn known most)
  block_weighs known most code (Then s rest) le =
      All-append (WeighsIn known most) (with_parts known code s) (in_order known code rest)
      (parts_weigh known most code s (omega arith)) (block_weighs known most code rest (omega arith))

pub statement_light : (p : Source) (code : Label) (s : Statement) → IsWithinLimits p → StandsIn p code s
    → statement_weight (context_of p.decls) code s ≤ max_weight
statement_light p code s within stands =
    let known = context_of p.decls in
    All-contains (WeighsIn known max_weight) (in_order known label.Public p.body) (code, s)
    (block_weighs known max_weight label.Public p.body within.weight) stands

-- where the parts are secret code, the choice weighs as in secret code
pub secret-weight : (known : Context) (code : Label) (t : Test) (a b : Block) → inside known code t ≡ label.Secret
    → statement_weight known code (Choice t a b) ≡ statement_weight known label.Secret (Choice t a b)
secret-weight known code t a b secret =
    ap (λ (l : Label). 1 + (test_weight t + parts_weight l (block_weight known l a + block_weight known l b))) secret

-- before a program runs no range is known
pub nothing-public : (decls : List Decl) (count : ℕ) → AreOfPublic decls (nothing_known count)
nothing-public decls count =
    record { public = λ x r found. no-range r (sym (none-at count (variable_number decls x)) ∙ found) }

-- The clauses for the code and the notes that a call made of a branch, with `place` instructions before them.
pub record BranchPromises (f : Setting) (mode : Mode) (s : Statement) (place : ℕ) (code : List Instr)
    (notes : List Note) : Type 0 where
  pub runs : Makes f code (λ store. by_mode mode (effect_of f.decls s store) store)
  pub passes : mode ≡ Public → IsPassedAsBranch f place code notes
  pub walked : ¬ (mode ≡ Public) → IsWalkedAsStatement f s code
  pub region : IsRegionOf f mode s place code notes
  pub stores : stored_words f.reduces code ≡ stores_of f (code_for mode) s

module _ (f : Frame) (is : IsFrame f) (mode : Mode) (t : Test) (a b : Block)
    (branch : IsBranchFor (source_of f.program.now) mode (Choice t a b)) where
  abbrev g : Setting
  g = setting_of f

  abbrev known : Context
  known = context_of f.program.now.decls.items

  typed : TypedStatement known (code_for mode) (Choice t a b)
  typed = statement_typed (source_of f.program.now) (code_for mode) (Choice t a b) is.typed branch.stands

  pub typed_secret : TypedStatement known label.Secret (Choice t a b)
  typed_secret = secret-typed known (code_for mode) t a b branch.secret typed

  pub low : LowStatement (Choice t a b)
  low = statement_low (source_of f.program.now) (code_for mode) (Choice t a b) is.within branch.stands

  light : statement_weight known (code_for mode) (Choice t a b) ≤ max_weight
  light = statement_light (source_of f.program.now) (code_for mode) (Choice t a b) is.within branch.stands

  pub weighs : statement_weight known (code_for mode) (Choice t a b)
      ≡ statement_weight known label.Secret (Choice t a b)
  weighs = secret-weight known (code_for mode) t a b branch.secret

  pub branch-extends : (c d : CodeBuf) → StatementHasWords (Choice t a b)
      → length c.code.items + 120 * statement_weight known (code_for mode) (Choice t a b) ≤ most_instructions
      → EmitsChoice g mode t a b c d
      → Extends (length f.places.now.blocks.items) mode (statement_weight known (code_for mode) (Choice t a b)) c d
  branch-extends c d words room x =
      let banks = length f.places.now.blocks.items in
      let place = length c.code.items in
      let weight = statement_weight known (code_for mode) (Choice t a b) in
      let few : g.profile.taken ≤ 32 = is.profile.taken.1 in
      let short = statement-short g few (Choice t a b) mode in
      let count = guard-count g 0 place t in
      let longer = length-append (guard_code g Public 0 t)
      (region_code t.cmp (first_of g Public a b) (second_of g Public a b)) in
      let heavier : test_weight t ≤ statement_weight known label.Secret (Choice t a b) = omega arith in
      extends g banks mode weight (λ m. padded_code g m (Choice t a b)) (λ p. guard_notes g 0 p t) c d
      (plain_banks f is) (let fit = plain_fit f is in fit.pins) x
      (omega (arith, short, weighs)) (omega (arith, count, weighs, heavier))
      (padded-fits banks g few (plain_fit f is) (Choice t a b) mode typed_secret words low
      (omega (arith, light, weighs)))
      (rise-wider g (place + 1) (place + length (guard_code g Public 0 t)) (place + 1)
      (place + length (padded_code g Public (Choice t a b))) (guard_notes g 0 place t) (omega arith)
      (omega (arith, longer))
      (guard-rises g 0 place t)) room

-- what a branch makes of a store is what it means
pub frame-branch_means : (f : Frame) → IsFrame f → (mode : Mode) (s : Statement)
    → IsBranchFor (source_of f.program.now) mode s
    → IsEffect f.program.now.decls.items s (effect_of f.program.now.decls.items s)
frame-branch_means f is mode (Choice t a b) branch = λ store turns.
    effect-means f.program.now.decls.items (Choice t a b) (typed_secret f is mode t a b branch) store turns
frame-branch_means f is mode other branch = absurd branch.secret

choice-promises : (f : Frame) (is : IsFrame f) (mode : Mode) (t : Test) (a b : Block)
    → IsBranchFor (source_of f.program.now) mode (Choice t a b) → (place : ℕ)
    → BranchPromises (setting_of f) mode (Choice t a b) place (padded_code (setting_of f) mode (Choice t a b))
    (notes_in mode (guard_notes (setting_of f) 0 place t))
choice-promises f is mode t a b branch place =
    let g = setting_of f in
    let s = Choice t a b in
    let code = padded_code g mode s in
    let guard = guard_code g mode 0 t in
    let offset = branch_offset g mode a b in
    let typed = typed_secret f is mode t a b branch in
    let low = low f is mode t a b branch in
    let public = frame_public f is (code_for mode) s branch.stands in
    record {
      runs = statement-makes g (nothing-public g.decls (length g.decls)) s mode typed low;
      passes = λ same o comes holds homes stands here carries.
          region-passes o g a b place guard code offset comes
          (passed mode branch same o comes holds homes stands here carries);
      walked = λ secret.
          statement-walked g mode (secret_mode mode secret) is.profile.taken.0 s typed public low;
      region = record {
        guard = guard;
        offset = offset;
        arms = first_of g mode a b
            ++ (Jmp (pos (length (second_of g mode a b) + 1)) ∷ second_of g mode a b);
        splits = refl;
        evaluates = guard-evaluates g mode 0 t typed.0 (omega (arith, low.0.0)) (omega (arith, low.0.1));
        opens = λ same o comes holds homes stands here carries.
            (passed mode branch same o comes holds homes stands here carries).region;
        nests = λ secret o depth p from homes.
            choice-nests o g homes is.profile.taken.0 mode (secret_mode mode secret) t a b typed public low depth p
            from;
      };
      stores = stored mode branch;
    }
  where
    passed : (m : Mode) → IsBranchFor (source_of f.program.now) m (Choice t a b) → m ≡ Public
        → AtItsPlace (setting_of f) place (padded_code (setting_of f) m (Choice t a b))
        (notes_in m (guard_notes (setting_of f) 0 place t))
        (λ o comes. PassedRegion o (setting_of f) a b place (guard_code (setting_of f) m 0 t)
        (padded_code (setting_of f) m (Choice t a b)) (branch_offset (setting_of f) m a b) comes)
    passed Public at same = λ o comes holds homes stands here carries.
        choice-opens o (setting_of f) homes is.profile.taken.0 t a b (typed f is Public t a b at) at.secret
        (frame_public f is label.Public (Choice t a b) at.stands) (low f is Public t a b at)
        (choice-nesting (context_of f.program.now.decls.items) t a b at.secret (light f is Public t a b at))
        is.typed.once place comes holds stands here carries
    passed Real at same = absurd (let e : ◌≡◌ {A = Mode} Real Public = same in cc)
    passed Mirrored at same = absurd (let e : ◌≡◌ {A = Mode} Mirrored Public = same in cc)

    single : ObliviousAreSingle (setting_of f)
    single = frame-single f is

    stored : (m : Mode) → IsBranchFor (source_of f.program.now) m (Choice t a b)
        → stored_words (setting_of f).reduces (padded_code (setting_of f) m (Choice t a b))
        ≡ stores_of (setting_of f) (code_for m) (Choice t a b)
    stored Public at = public_choice-stores (setting_of f) single t a b (typed f is Public t a b at) at.secret
    stored Real at = statement-stores (setting_of f) single (Choice t a b) Real (typed_secret f is Real t a b at)
    stored Mirrored at =
        statement-stores (setting_of f) single (Choice t a b) Mirrored (typed_secret f is Mirrored t a b at)

pub frame-branch_promises : (f : Frame) (is : IsFrame f) (mode : Mode) (t : Test) (a b : Block)
    → IsBranchFor (source_of f.program.now) mode (Choice t a b) → (c d : CodeBuf)
    → EmitsChoice (setting_of f) mode t a b c d
    → BranchPromises (setting_of f) mode (Choice t a b) (length c.code.items) (code_behind c d) (notes_behind c d)
frame-branch_promises f is mode t a b branch c d x =
    behind-holds c d (padded_code (setting_of f) mode (Choice t a b))
    (λ p. notes_in mode (guard_notes (setting_of f) 0 p t)) x
    (λ code notes. BranchPromises (setting_of f) mode (Choice t a b) (length c.code.items) code notes)
    (choice-promises f is mode t a b branch (length c.code.items))

-- What the call asks of a statement and says of it, by an emitter that is the frame's.
module _ (f : Frame) (is : IsFrame f) (e : Setting) (same : e ≡ setting_of f) (mode : Mode) where
  abbrev IsFor : Statement → Type 0
  IsFor s = IsBranchFor (source_of f.program.now) mode s

  -- a taken branch takes 32 cycles at most
  pub call_few : e.profile.taken ≤ 32
  call_few = let P : Setting → Type 0 = λ u. u.profile.taken ≤ 32 in subst P (sym same) is.profile.taken.1

  -- the statement is a choice
  pub call_choice : (s : Statement) → IsFor s → IsChoice s
  call_choice (Choice t a b) branch = tt
  call_choice other branch = branch.secret

  -- it is typed and low as in secret code, and weighs as much
  pub call_typed : (s : Statement) → IsFor s → TypedStatement (context_of e.decls) label.Secret s
  call_typed (Choice t a b) branch =
      let P : Setting → Type 0 = λ u. TypedStatement (context_of u.decls) label.Secret (Choice t a b) in
      subst P (sym same) (typed_secret f is mode t a b branch)
  call_typed other branch = absurd branch.secret

  -- it is low
  pub call_low : (s : Statement) → IsFor s → LowStatement s
  call_low s branch = statement_low (source_of f.program.now) (code_for mode) s is.within branch.stands

  -- there is room for it
  pub call_room : (s : Statement) → IsFor s → (size : ℕ)
      → size + 120 * statement_weight (context_of f.program.now.decls.items) (code_for mode) s ≤ most_instructions
      → size + 120 * statement_weight (context_of e.decls) label.Secret s ≤ most_instructions
  call_room (Choice t a b) branch size room =
      let P : Setting → Type 0 =
      λ u. size + 120 * statement_weight (context_of u.decls) label.Secret (Choice t a b) ≤ most_instructions in
      subst P (sym same) (subst (λ n. size + 120 * n ≤ most_instructions) (weighs f is mode t a b branch) room)
  call_room other branch size room = absurd branch.secret

  -- what was appended does what the call promises
  pub call_promises : (s : Statement) → IsFor s → (c d : CodeBuf) → EmitsBranch e mode s c d
      → BranchPromises (setting_of f) mode s (length c.code.items) (code_behind c d) (notes_behind c d)
  call_promises (Choice t a b) branch c d emitted =
      let P : Setting → Type 0 = λ u. EmitsChoice u mode t a b c d in
      frame-branch_promises f is mode t a b branch c d (subst P same emitted)
  call_promises other branch c d emitted = absurd emitted

  -- and it extends what was there
  pub call_extends : (s : Statement) → IsFor s → (c d : CodeBuf)
      → length c.code.items + 120 * statement_weight (context_of f.program.now.decls.items) (code_for mode) s
      ≤ most_instructions
      → EmitsBranch e mode s c d → StatementHasWords s
      → Extends (length f.places.now.blocks.items) mode
      (statement_weight (context_of f.program.now.decls.items) (code_for mode) s) c d
  call_extends (Choice t a b) branch c d room emitted words =
      let P : Setting → Type 0 = λ u. EmitsChoice u mode t a b c d in
      branch-extends f is mode t a b branch c d words room (subst P same emitted)
  call_extends other branch c d room emitted words = absurd emitted
