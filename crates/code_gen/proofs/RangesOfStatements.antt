-- The code of statements of public code is short and in its ranges, and it has few notes.
use Rattle.std.proofs.Common.{◌≡◌, ℕ, ◌+◌, ◌-◌, ◌*◌, ◌^◌, ◌<◌, ◌≤◌, Bool, true, false, pos, negsuc, List, [], ◌∷◌, ◌++◌, length, length-append, refl, ap, subst, arith}
use Rattle.std.specs.Int.{w32}
use Rattle.std.specs.Prelude.{FitsSigned}
use Rattle.std.proofs.lemmas.Int.{fits_signed_from_abs}
use Rattle.gr_word.specs.declared.operations.Cmp.{Cmp}
use Rattle.gr_word.specs.declared.variables.Label.{Label}
use Rattle.lt_isa.specs.declared.symbols.Note.{Note}
use Rattle.lt_isa.specs.declared.instructions.Instr.{Instr}
use Rattle.lt_isa.specs.declared.instructions.Instr.TheVariants.{Jmp, Br}
use Rattle.src_tree.specs.Prelude.{Context, context_of, label_of_test, max_weight, LowStatement, LowBlock, parts_weight, statement_weight, block_weight, test_weight, Test, Statement, SetVariable, SetElement, Choice, Loop, Block, Nothing, Then, TypedStatement, TypedBlock}
use Rattle.block_cache_gen.specs.Prelude.{Setting, guard_code, guard_notes, StatementHasWords, BlockHasWords}
use Rattle.block_cache_gen.proofs.Ranged.{homes_fit-ranged}
use Rattle.block_cache_gen.proofs.Sizes.{guard_code_short, set_code_short}
use Rattle.block_cache_gen.proofs.RangesOfCode.{HomesFit, CodeFits, NoCode, Before, code-both, guard-fits, set_variable-fits, set_element-fits}
use Rattle.block_cache_gen.proofs.RangesOfNotes.{guard-count, set_variable-count, set_element-count}
use Rattle.branch_padding.proofs.Lengths.{public_choice-short}
use Rattle.branch_padding.proofs.PaddedRanges.{public_choice-fits}
use Rattle.branch_padding.specs.Prelude.{after, behind_loop, within_loop}
use Rattle.code_gen.specs.Prelude.{padding_of, opposite, second_code, places_over, choice_code, choice_by, loop_code, head_note, head_unless, choice_notes, guard_note, notes_by, statement_code, block_code, statement_notes, block_notes, block_ends_noted}
use Rattle.gr_word.specs.declared.variables.Label.TheVariants as label
use Rattle.block_cache_gen.specs.declared.frames.Mode.TheVariants as modes

-- how long a choice and a loop are
second_short : (ys : List Instr) → length (second_code ys) ≤ 1 + length ys
second_short [] = omega arith
second_short (i ∷ code) = omega arith

choice_short : (guard : List Instr) (cmp : Cmp) (xs ys : List Instr)
    → length (choice_code guard cmp xs ys) ≤ length guard + 2 + (length xs + length ys)
choice_short guard cmp xs ys =
    let behind : List Instr = xs ++ second_code ys in
    omega (
      arith,
      length-append guard (Br (opposite cmp) 0 1 (pos (places_over xs ys)) ∷ behind),
      length-append xs (second_code ys),
      second_short ys,
    )

loop_size : (guard : List Instr) (cmp : Cmp) (xs : List Instr)
    → length (loop_code guard cmp xs) ≡ length guard + 2 + length xs
loop_size guard cmp xs =
    let branch : List Instr = Br cmp 0 1 (negsuc ((length xs + length guard) - 1)) ∷ [] in
    omega (arith, length-append xs (guard ++ branch), length-append guard branch)

-- how many notes they have
unless_count : (ends : Bool) (f : Setting) (p : ℕ) → length (head_unless ends f p) ≤ 1
unless_count true f p = omega arith
unless_count false f p = omega arith

choice_count : (f : Setting) (p : ℕ) (xs ys : List Instr) (first second : List Note) (ends : Bool × Bool)
    → length (choice_notes f p xs ys first second ends) ≤ 2 + (length first + length second)
choice_count f p xs [] first second ends =
    omega (arith, length-append first (head_unless ends.0 f (p + length xs)), unless_count ends.0 f (p + length xs))
choice_count f p xs (i ∷ code) first second ends =
    let q = p + (length xs + (1 + length (i ∷ code))) in
    let tail : List Note = second ++ head_unless ends.1 f q in
    omega (
      arith,
      length-append first (head_note f (p + (length xs + 1)) ∷ tail),
      length-append second (head_unless ends.1 f q),
      unless_count ends.1 f q,
    )

guard_note_count : (f : Setting) (xs : List Instr) (ends : Bool) (p : ℕ) → length (guard_note f xs ends p) ≤ 1
guard_note_count f [] ends p = omega arith
guard_note_count f (i ∷ code) ends p = unless_count ends f p

-- a choice and a loop are in their ranges where their parts are, and they are short
forward_fits : (n : ℕ) → n < 2 ^ 31 → FitsSigned w32 (pos n)
forward_fits n low = fits_signed_from_abs w32 (pos n) low

backward_fits : (n : ℕ) → n + 1 < 2 ^ 31 → FitsSigned w32 (negsuc n)
backward_fits n low = fits_signed_from_abs w32 (negsuc n) (omega arith)

module _ (banks : ℕ) where
  second_fits : (ys : List Instr) → length ys + 2 < 2 ^ 31 → CodeFits banks ys → CodeFits banks (second_code ys)
  second_fits [] short fit = NoCode
  second_fits (i ∷ code) short fit =
      Before (Jmp (pos (length (i ∷ code) + 1))) (i ∷ code) (forward_fits (length (i ∷ code) + 1) (omega arith)) fit

  over_short : (xs ys : List Instr) → places_over xs ys ≤ length xs + 2
  over_short xs [] = omega arith
  over_short xs (i ∷ code) = omega arith

  choice_fits : (guard : List Instr) (cmp : Cmp) (xs ys : List Instr) → length xs + 3 < 2 ^ 31 → length ys + 2 < 2 ^ 31
      → CodeFits banks guard → CodeFits banks xs → CodeFits banks ys → CodeFits banks (choice_code guard cmp xs ys)
  choice_fits guard cmp xs ys short shorter first second third =
      let over = over_short xs ys in
      code-both banks guard _ first
      (Before (Br (opposite cmp) 0 1 (pos (places_over xs ys))) (xs ++ second_code ys)
      (omega arith, omega arith, forward_fits (places_over xs ys) (omega arith))
      (code-both banks xs (second_code ys) second (second_fits ys shorter third)))

  loop_fits : (guard : List Instr) (cmp : Cmp) (xs : List Instr) → length xs + length guard + 2 < 2 ^ 31
      → CodeFits banks guard → CodeFits banks xs → CodeFits banks (loop_code guard cmp xs)
  loop_fits guard cmp xs short first second =
      let back = (length xs + length guard) - 1 in
      Before (Jmp (pos (length xs + 1))) _ (forward_fits (length xs + 1) (omega arith))
      (code-both banks xs _ second
      (code-both banks guard (Br cmp 0 1 (negsuc back) ∷ []) first
      (Before (Br cmp 0 1 (negsuc back)) [] (omega arith, omega arith, backward_fits back (omega arith)) NoCode)))

-- the weight of a public choice
public_weight : (known : Context) (t : Test) (a b : Block) → label_of_test known t ≡ label.Public
    → statement_weight known label.Public (Choice t a b)
    ≡ 1 + (test_weight t + (block_weight known label.Public a + block_weight known label.Public b))
public_weight known t a b public =
    ap (λ (l : Label). 1 + (test_weight t + parts_weight l (block_weight known l a + block_weight known l b))) public

abbrev code : Setting → Statement → List Instr
code f s = statement_code f padding_of s

abbrev codes : Setting → Block → List Instr
codes f b = block_code f padding_of b

-- a choice by its label, with what holds of both kinds
choice_by_short : (l : Label) (public padded : List Instr) (most : ℕ) → (l ≡ label.Public → length public ≤ most)
    → (l ≡ label.Secret → length padded ≤ most) → length (choice_by l public padded) ≤ most
choice_by_short label.Public public padded most first second = first refl
choice_by_short label.Secret public padded most first second = second refl

mutual
  -- at most 120 instructions for each unit of weight
  pub public-short : (f : Setting) → f.profile.taken ≤ 32 → (s : Statement)
      → length (code f s) ≤ 120 * statement_weight (context_of f.decls) label.Public s
  public-short f few (SetVariable x e) =
      omega (arith, set_code_short f modes.Public (context_of f.decls) label.Public (SetVariable x e) tt)
  public-short f few (SetElement x i e) =
      omega (arith, set_code_short f modes.Public (context_of f.decls) label.Public (SetElement x i e) tt)
  public-short f few (Choice t a b) =
      let first = row-public f few a in
      let second = row-public f few b in
      choice_by_short (label_of_test (context_of f.decls) t) _ _ _
      (λ public. omega (
        arith,
        choice_short (guard_code f modes.Public 0 t) t.cmp (codes f a) (codes f b),
        guard_code_short f modes.Public 0 t,
        public_weight (context_of f.decls) t a b public,
        first,
        second,
      ))
      (λ secret. public_choice-short f few t a b secret)
  public-short f few (Loop t a) =
      let g = behind_loop f a in
      let inner = within_loop f t a in
      omega (
        arith,
        loop_size (guard_code g modes.Public 0 t) t.cmp (codes inner a),
        guard_code_short g modes.Public 0 t,
        row-public inner few a,
      )

  -- at most 120 instructions a unit of a block's weight
  pub row-public : (f : Setting) → f.profile.taken ≤ 32 → (b : Block)
      → length (codes f b) ≤ 120 * block_weight (context_of f.decls) label.Public b
  row-public f few Nothing = omega arith
  row-public f few (Then s rest) =
      omega (
        arith,
        length-append (code f s) (codes (after f s) rest),
        public-short f few s,
        row-public (after f s) few rest,
      )

choice_all_count : (l : Label) (guard rest : List Note) (most : ℕ)
    → (l ≡ label.Public → length guard + length rest ≤ most) → (l ≡ label.Secret → length guard ≤ most)
    → length (guard ++ notes_by l rest) ≤ most
choice_all_count label.Public guard rest most first second = omega (arith, length-append guard rest, first refl)
choice_all_count label.Secret guard rest most first second = omega (arith, length-append guard [], second refl)

mutual
  -- at most two notes for each unit of weight
  pub public-count : (f : Setting) (s : Statement) (p : ℕ)
      → length (statement_notes f padding_of p s) ≤ 2 * statement_weight (context_of f.decls) label.Public s
  public-count f (SetVariable x e) p = omega (arith, set_variable-count f p x e)
  public-count f (SetElement x i e) p = omega (arith, set_element-count f p x i e)
  public-count f (Choice t a b) p =
      let g = length (guard_code f modes.Public 0 t) in
      let one = p + (g + 1) in
      let two = p + (g + (1 + (length (codes f a) + 1))) in
      let first = row-count f a one in
      let second = row-count f b two in
      let guard = guard-count f 0 p t in
      let some = choice_count f one (codes f a) (codes f b) (block_notes f padding_of one a)
      (block_notes f padding_of two b) (block_ends_noted f.decls a, block_ends_noted f.decls b) in
      choice_all_count (label_of_test (context_of f.decls) t) (guard_notes f 0 p t) _ _
      (λ public. omega (arith, guard, some, first, second, public_weight (context_of f.decls) t a b public))
      (λ secret. omega (arith, guard))
  public-count f (Loop t a) p =
      let g = behind_loop f a in
      let inner = within_loop f t a in
      let q = p + (1 + length (codes inner a)) in
      let body = block_notes inner padding_of (p + 1) a in
      let turn = guard_note f (codes inner a) (block_ends_noted f.decls a) q in
      omega (
        arith,
        length-append body (turn ++ guard_notes g 0 q t),
        length-append turn (guard_notes g 0 q t),
        guard_note_count f (codes inner a) (block_ends_noted f.decls a) q,
        guard-count g 0 q t,
        row-count inner a (p + 1),
      )

  -- at most two notes a unit of a block's weight
  pub row-count : (f : Setting) (b : Block) (p : ℕ)
      → length (block_notes f padding_of p b) ≤ 2 * block_weight (context_of f.decls) label.Public b
  row-count f Nothing p = omega arith
  row-count f (Then s rest) p =
      omega (
        arith,
        length-append (statement_notes f padding_of p s)
            (block_notes (after f s) padding_of (p + length (code f s)) rest),
        public-count f s p,
        row-count (after f s) rest (p + length (code f s)),
      )

-- all in their ranges
module _ (banks : ℕ) where
  choice_by_fits : (l : Label) (public padded : List Instr) → (l ≡ label.Public → CodeFits banks public)
      → (l ≡ label.Secret → CodeFits banks padded) → CodeFits banks (choice_by l public padded)
  choice_by_fits label.Public public padded first second = first refl
  choice_by_fits label.Secret public padded first second = second refl

  mutual
    pub public-fits : (f : Setting) → f.profile.taken ≤ 32 → HomesFit banks f → (s : Statement)
        → TypedStatement (context_of f.decls) label.Public s → StatementHasWords s → LowStatement s
        → statement_weight (context_of f.decls) label.Public s ≤ max_weight → CodeFits banks (code f s)
    public-fits f few homes (SetVariable x e) typed words low light =
        set_variable-fits banks f modes.Public homes x typed.0.0 _ e typed.0.1 typed.1.0 words (omega arith)
    public-fits f few homes (SetElement x i e) typed words low light =
        let index = low.0 in
        let value = low.1 in
        set_element-fits banks f modes.Public homes x i e typed.0 typed.1.0 words.0 words.1 (omega arith)
        (omega arith)
    public-fits f few homes (Choice t a b) typed words low light =
        let known = context_of f.decls in
        let first = row-public f few a in
        let second = row-public f few b in
        let left = low.0.0 in
        let right = low.0.1 in
        choice_by_fits (label_of_test known t) _ _
        (λ public.
        let weight = public_weight known t a b public in
        let wa : block_weight known label.Public a ≤ max_weight = omega (arith, weight, light) in
        let wb : block_weight known label.Public b ≤ max_weight = omega (arith, weight, light) in
        choice_fits banks (guard_code f modes.Public 0 t) t.cmp (codes f a) (codes f b) (omega arith) (omega arith)
        (guard-fits banks f modes.Public homes 0 t typed.0 words.0.0 words.0.1 (omega arith) (omega arith))
        (rows-fits f few homes a (subst (λ (l : Label). TypedBlock known l a) public typed.1.0) words.1.0 low.1.0 wa)
        (rows-fits f few homes b (subst (λ (l : Label). TypedBlock known l b) public typed.1.1) words.1.1 low.1.1 wb))
        (λ secret. public_choice-fits banks f few homes t a b secret typed words low light)
    public-fits f few homes (Loop t a) typed words low light =
        let g = behind_loop f a in
        let inner = within_loop f t a in
        let first = row-public inner few a in
        let guard = guard_code_short g modes.Public 0 t in
        let left = low.0.0 in
        let right = low.0.1 in
        let wa : block_weight (context_of f.decls) label.Public a ≤ max_weight = omega arith in
        loop_fits banks (guard_code g modes.Public 0 t) t.cmp (codes inner a) (omega arith)
        (guard-fits banks g modes.Public (homes_fit-ranged banks f g.ranges homes) 0 t typed.0 words.0.0 words.0.1
        (omega arith) (omega arith))
        (rows-fits inner few (homes_fit-ranged banks f inner.ranges homes) a typed.1.1.1 words.1 low.1 wa)

    -- the code of a block is in its ranges
    pub rows-fits : (f : Setting) → f.profile.taken ≤ 32 → HomesFit banks f → (b : Block)
        → TypedBlock (context_of f.decls) label.Public b → BlockHasWords b → LowBlock b
        → block_weight (context_of f.decls) label.Public b ≤ max_weight → CodeFits banks (codes f b)
    rows-fits f few homes Nothing typed words low light = NoCode
    rows-fits f few homes (Then s rest) typed words low light =
        let g = after f s in
        let ws : statement_weight (context_of f.decls) label.Public s ≤ max_weight = omega arith in
        let wr : block_weight (context_of f.decls) label.Public rest ≤ max_weight = omega arith in
        code-both banks (code f s) (codes g rest) (public-fits f few homes s typed.0 words.0 low.0 ws)
        (rows-fits g few (homes_fit-ranged banks f g.ranges homes) rest typed.1 words.1 low.1 wr)
