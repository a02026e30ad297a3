-- The statements of a program that is well typed and within the limits are well typed, and within the height limit.
use Rattle.std.proofs.Common.{[], ◌++◌}
use Rattle.std.specs.List.{All}
use Rattle.std.proofs.lemmas.List.Elements.{All-append, All-cons, All-contains, All-nil}
use Rattle.gr_word.specs.declared.variables.Label.{Label}
use Rattle.gr_word.specs.declared.variables.Label.TheVariants.{Public}
use Rattle.src_tree.specs.Prelude.{Context, context_of, inside, IsWithinLimits, LowStatement, LowBlock, with_parts, in_order, StandsIn, Statement, SetVariable, SetElement, Choice, Loop, Block, Nothing, Then, Source, IsTyped, TypedStatement, TypedBlock}

abbrev pub TypedIn : Context → Label × Statement → Type 0
TypedIn known p = TypedStatement known p.0 p.1

abbrev pub LowIn : Label × Statement → Type 0
LowIn p = LowStatement p.1

mutual
  pub parts_typed : (known : Context) (code : Label) (s : Statement) → TypedStatement known code s
      → All (TypedIn known) (with_parts known code s)
  parts_typed known code (SetVariable x e) typed = All-cons (TypedIn known) _ [] typed (All-nil (TypedIn known))
  parts_typed known code (SetElement x i e) typed = All-cons (TypedIn known) _ [] typed (All-nil (TypedIn known))
  parts_typed known code (Choice t a b) typed =
      All-cons (TypedIn known) _
      (in_order known (inside known code t) a ++ in_order known (inside known code t) b) typed
      (All-append (TypedIn known) (in_order known (inside known code t) a) (in_order known (inside known code t) b)
      (block_typed known (inside known code t) a typed.1.0) (block_typed known (inside known code t) b typed.1.1))
  parts_typed known code (Loop t a) typed =
      All-cons (TypedIn known) _ (in_order known code a) typed (block_typed known code a typed.1.1.1)

  pub block_typed : (known : Context) (code : Label) (b : Block) → TypedBlock known code b
      → All (TypedIn known) (in_order known code b)
  block_typed known code Nothing typed = All-nil (TypedIn known)
  block_typed known code (Then s rest) typed =
      All-append (TypedIn known) (with_parts known code s) (in_order known code rest) (parts_typed known code s typed.0)
      (block_typed known code rest typed.1)

mutual
  pub parts_low : (known : Context) (code : Label) (s : Statement)
      → LowStatement s → All LowIn (with_parts known code s)
  parts_low known code (SetVariable x e) low = All-cons LowIn _ [] low (All-nil LowIn)
  parts_low known code (SetElement x i e) low = All-cons LowIn _ [] low (All-nil LowIn)
  parts_low known code (Choice t a b) low =
      All-cons LowIn _ (in_order known (inside known code t) a ++ in_order known (inside known code t) b) low
      (All-append LowIn (in_order known (inside known code t) a) (in_order known (inside known code t) b)
      (block_low known (inside known code t) a low.1.0) (block_low known (inside known code t) b low.1.1))
  parts_low known code (Loop t a) low =
      All-cons LowIn _ (in_order known code a) low (block_low known code a low.1)

  pub block_low : (known : Context) (code : Label) (b : Block) → LowBlock b → All LowIn (in_order known code b)
  block_low known code Nothing low = All-nil LowIn
  block_low known code (Then s rest) low =
      All-append LowIn (with_parts known code s) (in_order known code rest) (parts_low known code s low.0)
      (block_low known code rest low.1)

-- each statement of a well typed program is well typed in its code
pub statement_typed : (p : Source) (code : Label) (s : Statement) → IsTyped p → StandsIn p code s
    → TypedStatement (context_of p.decls) code s
statement_typed p code s typed stands =
    All-contains (TypedIn (context_of p.decls)) (in_order (context_of p.decls) Public p.body) (code, s)
    (block_typed (context_of p.decls) Public p.body typed.body) stands

-- each statement of a program within the limits is within the height limit
pub statement_low : (p : Source) (code : Label) (s : Statement) → IsWithinLimits p → StandsIn p code s → LowStatement s
statement_low p code s within stands =
    All-contains LowIn (in_order (context_of p.decls) Public p.body) (code, s)
    (block_low (context_of p.decls) Public p.body within.heights) stands
