-- In the statements of a frame's program each index of an array of plain or encrypted memory is public.
use Rattle.std.proofs.Common.{[], ◌++◌, refl}
use Rattle.std.specs.List.{All}
use Rattle.std.proofs.lemmas.List.Elements.{All-append, All-cons, All-contains, All-nil}
use Rattle.gr_word.specs.declared.variables.Label.{Label}
use Rattle.gr_word.specs.declared.variables.Label.TheVariants.{Public}
use Rattle.src_tree.specs.Prelude.{Context, context_of, inside, with_parts, in_order, Statement, SetVariable, SetElement, Choice, Loop, Block, Nothing, Then, source_of, StandsIn}
use Rattle.block_cache_gen.specs.declared.frames.Frame.{Frame}
use Rattle.block_cache_gen.specs.Prelude.{Setting, IsFrame, plan_of, setting_of, SetHasPublicIndexes, StatementHasPublicIndexes, BlockHasPublicIndexes}
use Rattle.block_cache_gen.proofs.IndexesOfPrograms.{body-public}

abbrev pub PublicIn : Setting → Label × Statement → Type 0
PublicIn f p = StatementHasPublicIndexes f p.1

mutual
  parts_public : (f : Setting) (known : Context) (code : Label) (s : Statement) → StatementHasPublicIndexes f s
      → All (PublicIn f) (with_parts known code s)
  parts_public f known code (SetVariable x e) is = All-cons (PublicIn f) _ [] is (All-nil (PublicIn f))
  parts_public f known code (SetElement x i e) is = All-cons (PublicIn f) _ [] is (All-nil (PublicIn f))
  parts_public f known code (Choice t a b) is =
      All-cons (PublicIn f) _ (in_order known (inside known code t) a ++ in_order known (inside known code t) b) is
      (All-append (PublicIn f) (in_order known (inside known code t) a) (in_order known (inside known code t) b)
      (block_public f known (inside known code t) a is.1.0) (block_public f known (inside known code t) b is.1.1))
  parts_public f known code (Loop t a) is =
      All-cons (PublicIn f) _ (in_order known code a) is (block_public f known code a is.1)

  block_public : (f : Setting) (known : Context) (code : Label) (b : Block) → BlockHasPublicIndexes f b
      → All (PublicIn f) (in_order known code b)
  block_public f known code Nothing is = All-nil (PublicIn f)
  block_public f known code (Then s rest) is =
      All-append (PublicIn f) (with_parts known code s) (in_order known code rest) (parts_public f known code s is.0)
      (block_public f known code rest is.1)

-- a statement of a frame's program has public indexes where they have to be
pub frame_public : (f : Frame) → IsFrame f → (code : Label) (s : Statement) → StandsIn (source_of f.program.now) code s
    → StatementHasPublicIndexes (setting_of f) s
frame_public f is code s stands =
    let p = source_of f.program.now in
    let known = context_of p.decls in
    All-contains (PublicIn (setting_of f)) (in_order known Public p.body) (code, s)
    (block_public (setting_of f) known Public p.body
    (body-public p f.profile.now.block_log (plan_of f) is.plan (setting_of f) refl refl is.typed.body)) stands

-- the same, said of an assignment
pub set_of_statement : (f : Setting) (s : Statement) → StatementHasPublicIndexes f s → SetHasPublicIndexes f s
set_of_statement f (SetVariable x e) is = is
set_of_statement f (SetElement x i e) is = is
set_of_statement f (Choice t a b) is = tt
set_of_statement f (Loop t a) is = tt
