-- What registers hold for the whole run of a program whose numbers are words is sound.
use Rattle.std.proofs.Common.{ℕ, ◌+◌, ◌-◌, ◌^◌, ◌<◌, ◌≤◌, Bool, true, false, ℤ, pos, List, [], ◌∷◌, ◌++◌, length, length-append, arith}
use Rattle.std.specs.Prelude.{All, is_some, nat_lt, ◌==◌, if◌then◌else◌}
use Rattle.std.proofs.lemmas.List.Elements.{All-from_get_or, All-head, All-tail}
use Rattle.std.proofs.Math.Pow.{pow_mono}
use Rattle.gr_word.specs.Prelude.{IsWord}
use Rattle.bank_alloc.specs.declared.places.Place.{Place}
use Rattle.src_tree.specs.Prelude.{IsWithinLimits, Tree, Number, Variable, Element, Operation, Test, Statement, SetVariable, SetElement, Choice, Loop, Block, Nothing, Then, Source}
use Rattle.scratch_alloc.specs.Prelude.{Plan, IsSoundPlan, no_place}
use Rattle.block_cache_gen.specs.Prelude.{is_masked, home_at, BlockHasWords, StatementHasWords, HasWords, TestHasWords}
use Rattle.block_cache_gen.proofs.RangesOfCode.{small-word}
use Rattle.block_cache_gen.proofs.Settled.{place-length}
use Rattle.src_tree.specs.declared.trees.Decl.{Decl}
use Rattle.held_registers.specs.declared.registers.Held.{Held}
use Rattle.held_registers.specs.Prelude.{held_scalars, register_of_number, scalars_behind, takes_register, with_number, with_scalar, zeros, IsSoundHeld}
use Rattle.held_registers.proofs.Sound.{held_scalars-sound, with_number-sound}
use Rattle.compiled_objects.specs.Prelude.{held_for, reducer_at, with_block, with_place, with_places, with_statement, with_test, with_tree}
use Rattle.held_registers.specs.declared.registers.Held.TheVariants as thing

-- sound, and the zeros are among them
record SoundSome (decls : List Decl) (held : List Held) : Type 0 where
  sound : IsSoundHeld decls held
  some : 0 < length held

-- nothing that is held is taken out
with_number-some : (held : List Held) (z : ℤ) → 0 < length held → 0 < length (with_number held z)
with_number-some held z some = by (is_some (register_of_number held z)) (nat_lt (length held) 13)
  where
    by : (there room : Bool)
        → 0 < length (if there then held else (if room then held ++ thing.Number z ∷ [] else held))
    by true room = some
    by false false = some
    by false true = omega (arith, some, length-append held (thing.Number z ∷ []))

with_scalar-some : (held : List Held) (n : ℕ) (d : Decl) → 0 < length held → 0 < length (with_scalar held n d)
with_scalar-some held n d some = by (takes_register d (length held))
  where
    by : (takes : Bool) → 0 < length (if takes then held ++ thing.Scalar n ∷ [] else held)
    by true = omega (arith, some, length-append held (thing.Scalar n ∷ []))
    by false = some

scalars-some : (held : List Held) (n : ℕ) (ds : List Decl) → 0 < length held → 0 < length (scalars_behind held n ds)
scalars-some held n [] some = some
scalars-some held n (d ∷ ds) some = scalars-some (with_scalar held n d) (n + 1) ds (with_scalar-some held n d some)

held_scalars-some : (decls : List Decl) → 0 < length (held_scalars decls)
unfolding held_scalars
held_scalars-some decls = scalars-some zeros 0 decls (omega arith)

tree-sound : (decls : List Decl) (held : List Held) (e : Tree) → HasWords e → SoundSome decls held
    → SoundSome decls (with_tree held e)
tree-sound decls held (Number z) words is = record {
  sound = with_number-sound decls held z is.some words is.sound;
  some = with_number-some held z is.some;
}
tree-sound decls held (Variable x) words is = is
tree-sound decls held (Element x i) words is = tree-sound decls held i words is
tree-sound decls held (Operation op a b) words is =
    tree-sound decls (with_tree held a) b words.1 (tree-sound decls held a words.0 is)

-- the length and the first word of a place are in their ranges
pub record PlaceFits (q : Place) : Type 0 where
  pub length : q.length < 2 ^ 32
  pub word : q.word < 2 ^ 16

pub places-fit : (p : Source) (w : ℕ) (plan : Plan) → IsWithinLimits p → IsSoundPlan p w plan → w ≤ 9
    → All PlaceFits plan.places
places-fit p w plan limits sound low =
    All-from_get_or PlaceFits plan.places no_place
    (λ k below.
    let there : k < length p.decls = omega (arith, below, sound.places) in
    let size = place-length p w plan k limits sound there in
    let place = sound.place k there in
    let most : 2 ^ w ≤ 2 ^ 9 = pow_mono low in
    record { length = omega (arith, size.1); word = omega (arith, place.word, most) })

reducer-word : (q : Place) → PlaceFits q → IsWord (reducer_at q)
reducer-word q fits = by (is_masked (home_at [] 0 q 0))
  where
    by : (masked : Bool) → IsWord (if masked then pos (q.length - 1) else pos q.length)
    by true = let long = fits.length in small-word (q.length - 1) (omega arith)
    by false = let long = fits.length in small-word q.length (omega arith)

place-sound : (decls : List Decl) (held : List Held) (q : Place) → PlaceFits q → SoundSome decls held
    → SoundSome decls (with_place held q)
place-sound decls held q fits is = by (q.length == 1)
  where
    by : (one : Bool) → SoundSome decls
        (if one then held else with_number (with_number held (reducer_at q)) (pos q.word))
    by true = is
    by false =
        let first = with_number held (reducer_at q) in
        let some = with_number-some held (reducer_at q) is.some in
        let inside = fits.word in
        record {
          sound =
              with_number-sound decls first (pos q.word) some (small-word q.word (omega arith))
              (with_number-sound decls held (reducer_at q) is.some (reducer-word q fits) is.sound);
          some = with_number-some first (pos q.word) some;
        }

places-sound : (decls : List Decl) (held : List Held) (places : List Place) → All PlaceFits places
    → SoundSome decls held → SoundSome decls (with_places held places)
places-sound decls held [] fit is = is
places-sound decls held (q ∷ places) fit is =
    places-sound decls (with_place held q) places (All-tail PlaceFits q places fit)
    (place-sound decls held q (All-head PlaceFits q places fit) is)

test-sound : (decls : List Decl) (held : List Held) (t : Test) → TestHasWords t → SoundSome decls held
    → SoundSome decls (with_test held t)
test-sound decls held t words is =
    tree-sound decls (with_tree held t.left) t.right words.1 (tree-sound decls held t.left words.0 is)

mutual
  statement-sound : (decls : List Decl) (held : List Held) (s : Statement) → StatementHasWords s
      → SoundSome decls held → SoundSome decls (with_statement held s)
  statement-sound decls held (SetVariable x e) words is = tree-sound decls held e words is
  statement-sound decls held (SetElement x i e) words is =
      tree-sound decls (with_tree held e) i words.0 (tree-sound decls held e words.1 is)
  statement-sound decls held (Choice t a b) words is =
      block-sound decls (with_block (with_test held t) a) b words.1.1
      (block-sound decls (with_test held t) a words.1.0 (test-sound decls held t words.0 is))
  statement-sound decls held (Loop t a) words is =
      block-sound decls (with_test held t) a words.1 (test-sound decls held t words.0 is)

  block-sound : (decls : List Decl) (held : List Held) (b : Block) → BlockHasWords b → SoundSome decls held
      → SoundSome decls (with_block held b)
  block-sound decls held Nothing words is = is
  block-sound decls held (Then s rest) words is =
      block-sound decls (with_statement held s) rest words.1 (statement-sound decls held s words.0 is)

pub held_for-sound : (p : Source) (places : List Place) → BlockHasWords p.body → All PlaceFits places
    → IsSoundHeld p.decls (held_for p places)
unfolding held_for
held_for-sound p places words fit =
    let is = block-sound p.decls (with_places (held_scalars p.decls) places) p.body words
    (places-sound p.decls (held_scalars p.decls) places fit
    (record { sound = held_scalars-sound p.decls; some = held_scalars-some p.decls })) in
    is.sound
