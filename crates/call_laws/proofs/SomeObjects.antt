-- Each well-typed program with names and numbers in their ranges is compiled, or something lacks room first.
use Rattle.std.proofs.Common.{ℕ, ◌+◌, ◌*◌, ◌^◌, ◌<◌, ◌≤◌, ℤ, Bool, true, false, List, [], length, ◌⊎◌, inl, inr, Result, Ok, Err, refl, sym, subst, arith}
use Rattle.std.proofs.Math.Facts.{sfits_to_z}
use Rattle.std.proofs.Math.Pow.{pow_mono}
use Rattle.gr_word.specs.Prelude.{IsWord}
use Rattle.gr_word.specs.declared.operations.Op.{Op}
use Rattle.gr_word.proofs.Words.{IsWord-applied}
use Rattle.lt_isa.specs.Prelude.{usual_latencies, ProfileFits}
use Rattle.object_file.specs.Prelude.{spelling}
use Rattle.src_tree.specs.Prelude.{IsWithinLimits, weight_of, Tree, Number, Variable, Element, Operation, Test, Statement, SetVariable, SetElement, Choice, Loop, Block, Nothing, Then, Source, IsTyped}
use Rattle.scratch_alloc.specs.Prelude.{standard_plan}
use Rattle.scratch_alloc.proofs.StandardPlan.{standard_sound_at}
use Rattle.source_folding.specs.Prelude.{folded, folded_block, folded_source, folded_statement, folded_test, mask_of, BlockNumbersFit, NumbersFit, StatementNumbersFit}
use Rattle.source_folding.proofs.FoldedPrograms.{folded-source_typed, folded-within}
use Rattle.source_folding.proofs.FoldedTrees.{IsPower, Made, AsBefore, Computed, Swapped, Shifted, SwappedShift, Masked, is-made}
use Rattle.held_registers.proofs.Sound.{nothing-sound}
use Rattle.block_cache_gen.specs.Prelude.{BlockHasWords, StatementHasWords, HasWords, TestHasWords}
use Rattle.block_cache_gen.proofs.RangesOfCode.{small-word}
use Rattle.compiled_objects.specs.Prelude.{LatenciesFit, fast_plan, held_for}
use Rattle.code_gen.proofs.Assembled.{made-promises}
use Rattle.compiled_objects.proofs.FastPlans.{fast-sound, fast-secret_slot}
use Rattle.code_gen.proofs.HeldNumbers.{held_for-sound, places-fit}
use Rattle.code_gen.proofs.FoldedPlans.{folded-implements, folded-laid, folded-short, folded-sound}
use Rattle.call_replies.specs.declared.source_faults.SourceFault.{SourceFault}
use Rattle.call_steps.specs.declared.targets.Target.{Target}
use Rattle.call_steps.specs.Prelude.{HasRoom, IsCompiled, IsCompiledTo, Spells}
use Rattle.call_laws.proofs.FittingFiles.{file-fits}
use Rattle.call_laws.proofs.FittingPrograms.{ProgramFits, sentence-fits}
use Rattle.call_laws.proofs.FittingTokens.{tokens-fit}
use Rattle.call_laws.proofs.PlannedHomes.{made-some}
use Rattle.call_laws.proofs.SomeRooms.{room-some}

usual-fit : LatenciesFit usual_latencies
usual-fit = record {
  ram = (omega arith, omega arith);
  eram = (omega arith, omega arith);
  oram = (omega arith, omega arith);
}

-- ---- cheaper expressions have words too

mask-word : (z : ℤ) (k : ℕ) → IsPower z k → IsWord (mask_of z)
mask-word z k is =
    let few : k ≤ 62 = omega (arith, is.few) in
    let low : 2 ^ k ≤ 2 ^ 62 = pow_mono few in
    sfits_to_z (record { fits = omega (arith, is.power, low) })

made-words : (op : Op) (a b m : Tree) → Made op a b m → HasWords a → HasWords b → HasWords m
made-words op a b _ AsBefore first second = (first, second)
made-words op a b _ (Computed y z e f) first second =
    IsWord-applied op y z (subst HasWords e first) (subst HasWords f second)
made-words op a b _ (Swapped e) first second = (second, first)
made-words op a b _ (SwappedShift y k f e is) first second = (second, small-word k (omega (arith, is.few)))
made-words op a b _ (Shifted z k f e is) first second = (first, small-word k (omega (arith, is.few)))
made-words op a b _ (Masked z k f e is) first second = (first, mask-word z k is)

folded-words : (e : Tree) → HasWords e → HasWords (folded e)
folded-words (Number z) is = is
folded-words (Variable x) is = tt
folded-words (Element x i) is = folded-words i is
folded-words (Operation op a b) is =
    made-words op (folded a) (folded b) _ (is-made op (folded a) (folded b)) (folded-words a is.0) (folded-words b is.1)

test-folds : (t : Test) → TestHasWords t → TestHasWords (folded_test t)
test-folds t is = (folded-words t.left is.0, folded-words t.right is.1)

mutual
  statement-folds : (s : Statement) → StatementHasWords s → StatementHasWords (folded_statement s)
  statement-folds (SetVariable x e) is = folded-words e is
  statement-folds (SetElement x i e) is = (folded-words i is.0, folded-words e is.1)
  statement-folds (Choice t a b) is = (test-folds t is.0, (block-folds a is.1.0, block-folds b is.1.1))
  statement-folds (Loop t a) is = (test-folds t is.0, block-folds a is.1)

  block-folds : (b : Block) → BlockHasWords b → BlockHasWords (folded_block b)
  block-folds Nothing is = tt
  block-folds (Then s rest) is = (statement-folds s is.0, block-folds rest is.1)

tree-numbers : (e : Tree) → HasWords e → NumbersFit e
tree-numbers (Number z) is = is
tree-numbers (Variable x) is = tt
tree-numbers (Element x i) is = tree-numbers i is
tree-numbers (Operation op a b) is = (tree-numbers a is.0, tree-numbers b is.1)

mutual
  statement-numbers : (s : Statement) → StatementHasWords s → StatementNumbersFit s
  statement-numbers (SetVariable x e) is = tree-numbers e is
  statement-numbers (SetElement x i e) is = (tree-numbers i is.0, tree-numbers e is.1)
  statement-numbers (Choice t a b) is =
      ((tree-numbers t.left is.0.0, tree-numbers t.right is.0.1), (block-numbers a is.1.0, block-numbers b is.1.1))
  statement-numbers (Loop t a) is = ((tree-numbers t.left is.0.0, tree-numbers t.right is.0.1), block-numbers a is.1)

  block-numbers : (b : Block) → BlockHasWords b → BlockNumbersFit b
  block-numbers Nothing is = tt
  block-numbers (Then s rest) is = (statement-numbers s is.0, block-numbers rest is.1)

-- ---- objects

module _ (p : Source) (target : Target) (profile : ProfileFits target.profile) (typed : IsTyped p)
    (within : IsWithinLimits p) (fits : ProgramFits p) where
  abbrev w : ℕ
  w = target.profile.block_log

  abbrev SomeBytes : Bool → Type 0
  SomeBytes fast = (bytes : List ℕ) × IsCompiledTo p (record { profile = target.profile; fast = fast }) bytes

  plain-object : HasRoom false p w → SomeBytes false
  plain-object room =
      let sound = standard_sound_at p w within room in
      let made = made-some p (standard_plan p w) target.profile false [] typed within sound (nothing-sound p.decls) profile
      usual_latencies usual-fit fits.words fits.named in
      let is = made-promises p (standard_plan p w) target.profile false [] usual_latencies typed within sound
      (nothing-sound p.decls) (λ (some : 0 < 0). absurd (omega arith)) profile made.0 made.1 in (
        spelling made.0,
        record {
          room = room;
          o = made.0;
          spells = record { in_range = made.1.in_range; spelled = refl };
          accepted = is.accepted;
          implements = is.implements;
          layout = made.1.layout;
          machine = is.machine;
          stores = is.stores;
          size = is.size;
        },
      )

  fast-object : HasRoom true p w → SomeBytes true
  fast-object room =
      let plan = fast_plan p w in
      let q = folded_source p in
      let words = block-folds p.body fits.words in
      let held = held_for q plan.places in
      let holds = held_for-sound q plan.places words
      (places-fit p w plan within (fast-sound p w within profile.block_log room) profile.block_log.1) in
      let sound = folded-sound p w plan (fast-sound p w within profile.block_log room) in
      let typed' = folded-source_typed p typed in
      let within' = folded-within p within in
      let made = made-some q plan target.profile true held typed' within' sound holds profile usual_latencies usual-fit words
      fits.named in
      let is = made-promises q plan target.profile true held usual_latencies typed' within' sound holds
      (λ some. fast-secret_slot p w) profile made.0 made.1 in (
        spelling made.0,
        record {
          room = room;
          o = made.0;
          spells = record { in_range = made.1.in_range; spelled = refl };
          accepted = is.accepted;
          implements = folded-implements p made.0 (block-numbers p.body fits.words) is.implements;
          layout = folded-laid p w plan made.0 made.1.layout;
          machine = is.machine;
          stores = is.stores;
          size =
              let few : length held ≤ 13 = holds.few in
              let short = folded-short p made.0 (64 + 4 * length held) is.size in
              let bound : length made.0.code ≤ 120 * weight_of p + 116 = omega (arith, short, few) in
              bound;
        },
      )

  some-bytes : (fast : Bool) → HasRoom fast p w → SomeBytes fast
  some-bytes false room = plain-object room
  some-bytes true room = fast-object room

-- a program is compiled, or something lacks room first
pub compiled-some : (p : Source) (target : Target) → ProfileFits target.profile → IsTyped p → IsWithinLimits p
    → ProgramFits p → (a : Result (List ℕ) SourceFault) × IsCompiled p target a
compiled-some p target profile typed within fits = by (room-some p target)
  where
    by : HasRoom target.fast p target.profile.block_log ⊎ ((shown : SourceFault) × IsCompiled p target (Err shown))
        → (a : Result (List ℕ) SourceFault) × IsCompiled p target a
    by (inl room) =
        let bytes = some-bytes p target profile typed within fits target.fast room in (Ok bytes.0, bytes.1)
    by (inr lacks) = (Err lacks.0, lacks.1)

-- what a text parses as has names and numbers in their ranges
pub program-fits : (procs : Bool) (text : List ℕ) (p : Source) → Spells procs text p → ProgramFits p
program-fits false text p spells = sentence-fits spells.sentence (tokens-fit spells.split)
program-fits true text p spells =
    let file = spells.of_file in
    subst ProgramFits (sym file.made) (file-fits file.spelled file.faultless (tokens-fit spells.split))
