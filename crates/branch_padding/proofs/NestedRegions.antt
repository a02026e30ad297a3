-- The code of a branch in an arm is one region: after its guard it is crossed to the end of all of the code.
use Rattle.std.proofs.Common.{◌≡◌, ℕ, ◌+◌, ◌≤◌, false, ◌++◌, length, subst, arith, length-append}
use Rattle.gr_word.specs.declared.variables.Label.TheVariants.{Secret}
use Rattle.lt_isa.specs.Prelude.{Parts}
use Rattle.src_tree.specs.Prelude.{context_of, LowStatement, Test, Choice, Block, TypedStatement}
use Rattle.trace_patterns.specs.Prelude.{most_regions, SymState, common, CrossesTo}
use Rattle.stretches.specs.Prelude.{StandsInArm}
use Rattle.stretches.proofs.ArmCode.{stands-first, stands-rest}
use Rattle.block_cache_gen.specs.declared.frames.Mode.{Mode}
use Rattle.block_cache_gen.specs.Prelude.{CarriesInArm, may_skip_loads, guard_code, Setting, HasHomes, StatementHasPublicIndexes}
use Rattle.block_cache_gen.proofs.ArmExpressions.{guard-leaves}
use Rattle.block_cache_gen.proofs.SecretRegions.{joined-slots, region-crossed}
use Rattle.branch_padding.specs.Prelude.{nesting_of, region_code, padded_code, first_of, second_of, shows_of_region, slots_of_arms, pattern_of_region, NestsRegion}
use Rattle.branch_padding.proofs.PublicRegions.{branch_offset}
use Rattle.branch_padding.proofs.SecretStatements.{arms-go, each-goes}

pub choice-nests : (o : Parts) (f : Setting) → HasHomes o f → 1 ≤ f.profile.taken → (mode : Mode)
    → may_skip_loads mode ≡ false → (t : Test) (a b : Block) → TypedStatement (context_of f.decls) Secret (Choice t a b)
    → StatementHasPublicIndexes f (Choice t a b) → LowStatement (Choice t a b) → (depth p : ℕ) (from : SymState)
    → StandsInArm o p (padded_code f mode (Choice t a b)) → CarriesInArm f from
    → depth + nesting_of (Choice t a b) ≤ most_regions
    → NestsRegion o f t a b depth p from (guard_code f mode 0 t) (padded_code f mode (Choice t a b))
    (branch_offset f mode a b)
choice-nests o f homes some mode secret t a b typed public low depth p from stands carries around =
    let guard = guard_code f mode 0 t in
    let first = first_of f mode a b in
    let second = second_of f mode a b in
    let region = region_code t.cmp first second in
    let both = (guard-leaves o f homes depth mode secret t from 0 typed.0 public.0 (omega arith) (omega arith)
    carries).leaves in
    let arms = arms-go o f homes some mode depth a b typed.1.0 typed.1.1
    (each-goes o f homes some a (depth + 1) typed.1.0 public.1.0 low.1.0 (omega arith))
    (each-goes o f homes some b (depth + 1) typed.1.1 public.1.1 low.1.1 (omega arith)) both.state both.carries
    public.1.0 public.1.1 low.1.0 low.1.1 in
    let mid = p + length guard in
    let same : mid + length region ≡ p + length (guard ++ region) = omega (arith, length-append guard region) in
    let shows = shows_of_region f a b in
    let loads = slots_of_arms f a b in
    record {
      there = both.state;
      walks = both.walked.walks p (stands-first o p guard region stands);
      loaded = both.slots;
      state = common arms.untaken.state arms.taken.state;
      crosses = subst (λ (q : ℕ).
          CrossesTo o depth q mid (branch_offset f mode a b) both.state (pattern_of_region f a b) q
          (common arms.untaken.state arms.taken.state)) same
          (region-crossed o f depth both.state t.cmp 0 1 first second arms.xs arms.ys shows loads (omega arith)
          arms.untaken arms.taken arms.one_way arms.other_way mid (stands-rest o p guard region stands));
      slots = joined-slots o f depth both.state t.cmp 0 1 first second arms.xs arms.ys shows loads (omega arith)
          arms.untaken arms.taken arms.one_way arms.other_way;
    }
