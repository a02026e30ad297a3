-- The code of statements in secret code: walked in an arm it shows what depends only on the statement, whether it has
-- its effect or only looks as if it had.
use Rattle.std.proofs.Common.{◌≡◌, ℕ, suc, ◌+◌, ◌-◌, ◌<◌, ◌≤◌, false, List, ◌∷◌, ◌++◌, take, drop, Option, Some, None, refl, sym, ap, ◌∙◌, subst, arith}
use Rattle.gr_word.specs.declared.variables.Label.TheVariants.{Secret}
use Rattle.lt_isa.specs.declared.instructions.Instr.{Instr}
use Rattle.lt_isa.specs.declared.profiles.Profile.{Profile}
use Rattle.lt_isa.specs.Prelude.{Parts}
use Rattle.src_tree.specs.Prelude.{context_of, LowStatement, LowBlock, Test, Statement, SetVariable, SetElement, Choice, Loop, Block, Nothing, Then, TypedStatement, TypedBlock}
use Rattle.trace_patterns.specs.Prelude.{Shown, no_events, with_gap, joined, TreeEvent, most_regions, gap, SymState, untaken_way, taken_way}
use Rattle.trace_patterns.proofs.PatternLaws.{with_gap-more}
use Rattle.stretches.specs.Prelude.{Show, Gap, pattern_of, region_shows}
use Rattle.stretches.proofs.ArmCode.{walked-then}
use Rattle.stretches.proofs.ArmRegions.{paused, walked-pauses, pattern_of-pause, untaken-shows, taken-shows}
use Rattle.stretches.proofs.ShowLaws.{gaps-joined, pattern_of-alone, pattern_of-append}
use Rattle.block_cache_gen.specs.declared.frames.Mode.{Mode}
use Rattle.block_cache_gen.specs.Prelude.{Setting, HasHomes, may_skip_loads, guard_code, StatementHasPublicIndexes, BlockHasPublicIndexes, CarriesInArm, Loads, no_loads, then_loads, tree_of_expr, shows_of_test, slots_of_test, Pair, ToScalars, ToOblivious, ToResidents, ToSame, StartsPaired, NonePaired, OnePaired, pair_count}
use Rattle.block_cache_gen.proofs.AlikeShows.{pair-shows, pair-slots}
use Rattle.block_cache_gen.proofs.AlikeTests.{counts_pairs}
use Rattle.block_cache_gen.proofs.ArmExpressions.{guard-leaves}
use Rattle.block_cache_gen.proofs.ArmAssignments.{Goes, goes-none, goes-leaves, goes-then, set-goes}
use Rattle.block_cache_gen.proofs.SecretRegions.{goes-region}
use Rattle.branch_padding.specs.Prelude.{nesting_of, nesting_of_block, cycles_of_all, slack_of, idle, arm_mode, in_a_row, untaken_arm, taken_arm, first_arm, second_arm, region_code, padded_code, padded_codes, first_of, second_of, shown_in_a_row, loaded_in_a_row, padded_shows, padded_loads, mirrored_shows, mirrored_loads, shows_of, shows_of_each, shows_of_region, slots_of, slots_of_each, slots_of_arms}
use Rattle.branch_padding.specs.declared.cycles.Slack.{Slack}
use Rattle.branch_padding.proofs.QuietCode.{IsQuiet}
use Rattle.branch_padding.proofs.QuietStatements.{IsSlack, slack-between, taken-cycles, block-quiet}
use Rattle.branch_padding.proofs.SecretRows.{shown-rests, loaded-rests, GoesAnywhere, EachGoes, NoneGoes, OneGoes, row-goes, take-goes, drop-goes, three-go}
use Rattle.block_cache_gen.specs.declared.frames.Mode.TheVariants as modes

-- the arms of a branch are secret code
pub arm-secret : (mode : Mode) → may_skip_loads (arm_mode mode) ≡ false
arm-secret modes.Public = refl
arm-secret modes.Real = refl
arm-secret modes.Mirrored = refl

module _ (o : Parts) (f : Setting) (homes : HasHomes o f) where
  -- statements that pair show the same events and leave the same
  abbrev AreSame : Statement → Statement → Type 0
  AreSame s t = (shows_of f s ≡ shows_of f t) × (slots_of f s ≡ slots_of f t)

  pair-same : (s t : Statement) → Pair f s t → TypedStatement (context_of f.decls) Secret s
      → TypedStatement (context_of f.decls) Secret t → AreSame s t
  pair-same s t (ToScalars x y e g one both alike) left right =
      let pair = ToScalars x y e g one both alike in (
        pair-shows o f homes (SetVariable x e) (SetVariable y g) pair left right,
        pair-slots o f homes (SetVariable x e) (SetVariable y g) pair left right,
      )
  pair-same s t (ToOblivious x y i j e g one index value) left right =
      let pair = ToOblivious x y i j e g one index value in (
        pair-shows o f homes (SetElement x i e) (SetElement y j g) pair left right,
        pair-slots o f homes (SetElement x i e) (SetElement y j g) pair left right,
      )
  pair-same s t (ToResidents x y i j e g one index value) left right =
      let pair = ToResidents x y i j e g one index value in (
        pair-shows o f homes (SetElement x i e) (SetElement y j g) pair left right,
        pair-slots o f homes (SetElement x i e) (SetElement y j g) pair left right,
      )
  pair-same s t (ToSame x i e g encrypted value) left right =
      let pair = ToSame x i e g encrypted value in (
        pair-shows o f homes (SetElement x i e) (SetElement x i g) pair left right,
        pair-slots o f homes (SetElement x i e) (SetElement x i g) pair left right,
      )

  -- so do the first statements of two parts that pair
  paired-same : (k : ℕ) (a b : Block) → StartsPaired f k a b → TypedBlock (context_of f.decls) Secret a
      → TypedBlock (context_of f.decls) Secret b
      → (take k (shows_of_each f a) ≡ take k (shows_of_each f b))
      × (take k (slots_of_each f a) ≡ take k (slots_of_each f b))
  paired-same k a b (NonePaired a' b') left right = (refl, refl)
  paired-same k a b (OnePaired n s t c d pair rest) left right =
      let next : suc n ≡ n + 1 = omega arith in
      let one = pair-same s t pair left.0 right.0 in
      let more = paired-same n c d rest left.1 right.1 in (
        subst (λ (m : ℕ). take m (shows_of f s ∷ shows_of_each f c) ≡ take m (shows_of f t ∷ shows_of_each f d)) next
            (λ i. one.0 i ∷ more.0 i),
        subst (λ (m : ℕ). take m (slots_of f s ∷ slots_of_each f c) ≡ take m (slots_of f t ∷ slots_of_each f d)) next
            (λ i. one.1 i ∷ more.1 i),
      )

  -- the mirrored arms of a branch, of parts whose statements go
  module _ (depth : ℕ) (a b : Block) where
    abbrev PartGoes : Block → List (List Instr) → Type 0
    PartGoes part codes = EachGoes o f depth codes (shows_of_each f part) (slots_of_each f part)

    -- the arm that isn't taken shows what both arms show
    pub untaken-goes : (second first_mirrored : List (List Instr)) → TypedBlock (context_of f.decls) Secret a
        → TypedBlock (context_of f.decls) Secret b → PartGoes b second → PartGoes a first_mirrored
        → GoesAnywhere o f depth (untaken_arm (pair_count f a b) second first_mirrored) (mirrored_shows f a b)
        (mirrored_loads f a b)
    untaken-goes second first_mirrored left right behind before =
        let k = pair_count f a b in
        let paired = (counts_pairs f a b).pairs in
        let xs = shows_of_each f a in
        let ys = shows_of_each f b in
        let ls = slots_of_each f a in
        let ms = slots_of_each f b in
        let shows : shown_in_a_row (take k ys) ++ (shown_in_a_row (drop k xs) ++ shown_in_a_row (drop k ys))
        ≡ mirrored_shows f a b =
        ap (λ (z : List (List Show)). shown_in_a_row z ++ (shown_in_a_row (drop k xs) ++ shown_in_a_row (drop k ys)))
        (sym (paired-same k a b paired left right).0) ∙ sym (shown-rests k xs ys) in
        let loads : then_loads (loaded_in_a_row (take k ms))
        (then_loads (loaded_in_a_row (drop k ls)) (loaded_in_a_row (drop k ms)))
        ≡ mirrored_loads f a b =
        ap (λ (z : List Loads).
        then_loads (loaded_in_a_row z) (then_loads (loaded_in_a_row (drop k ls)) (loaded_in_a_row (drop k ms))))
        (sym (paired-same k a b paired left right).1) ∙ sym (loaded-rests k ls ms) in
        subst (λ (z : List Show).
        GoesAnywhere o f depth (untaken_arm k second first_mirrored) z (mirrored_loads f a b)) shows
        (subst (λ (z : Loads).
        GoesAnywhere o f depth (untaken_arm k second first_mirrored)
        (shown_in_a_row (take k ys) ++ (shown_in_a_row (drop k xs) ++ shown_in_a_row (drop k ys))) z) loads
        (three-go o f depth (in_a_row (take k second)) (in_a_row (drop k first_mirrored)) (in_a_row (drop k second))
        (shown_in_a_row (take k ys)) (shown_in_a_row (drop k xs)) (shown_in_a_row (drop k ys))
        (loaded_in_a_row (take k ms)) (loaded_in_a_row (drop k ls)) (loaded_in_a_row (drop k ms))
        (row-goes o f depth (take k second) (take k ys) (take k ms) (take-goes o f depth k second ys ms behind))
        (row-goes o f depth (drop k first_mirrored) (drop k xs) (drop k ls)
        (drop-goes o f depth k first_mirrored xs ls before))
        (row-goes o f depth (drop k second) (drop k ys) (drop k ms) (drop-goes o f depth k second ys ms behind))))

    -- and so does the one that is
    pub taken-goes : (first second_mirrored : List (List Instr)) → PartGoes a first → PartGoes b second_mirrored
        → GoesAnywhere o f depth (taken_arm (pair_count f a b) first second_mirrored) (mirrored_shows f a b)
        (mirrored_loads f a b)
    taken-goes first second_mirrored before behind =
        let k = pair_count f a b in
        let xs = shows_of_each f a in
        let ys = shows_of_each f b in
        let ls = slots_of_each f a in
        let ms = slots_of_each f b in
        subst (λ (z : List Show). GoesAnywhere o f depth (taken_arm k first second_mirrored) z (mirrored_loads f a b))
        (sym (shown-rests k xs ys))
        (subst (λ (z : Loads).
        GoesAnywhere o f depth (taken_arm k first second_mirrored)
        (shown_in_a_row (take k xs) ++ (shown_in_a_row (drop k xs) ++ shown_in_a_row (drop k ys))) z)
        (sym (loaded-rests k ls ms))
        (three-go o f depth (in_a_row (take k first)) (in_a_row (drop k first)) (in_a_row (drop k second_mirrored))
        (shown_in_a_row (take k xs)) (shown_in_a_row (drop k xs)) (shown_in_a_row (drop k ys))
        (loaded_in_a_row (take k ls)) (loaded_in_a_row (drop k ls)) (loaded_in_a_row (drop k ms))
        (row-goes o f depth (take k first) (take k xs) (take k ls) (take-goes o f depth k first xs ls before))
        (row-goes o f depth (drop k first) (drop k xs) (drop k ls) (drop-goes o f depth k first xs ls before))
        (row-goes o f depth (drop k second_mirrored) (drop k ys) (drop k ms)
        (drop-goes o f depth k second_mirrored ys ms behind))))

  -- a part goes in each mode of secret code
  abbrev PartGoesInArms : ℕ → Block → Type 0
  PartGoesInArms depth part =
      (mode : Mode) → may_skip_loads mode ≡ false
      → EachGoes o f depth (padded_codes f mode part) (shows_of_each f part) (slots_of_each f part)

  -- code that idles before other code, or after it
  idle-before : (depth n : ℕ) (s : SymState) (code : List Instr) (shows : List Show) (loads : Loads)
      → Goes o f depth s code shows loads → Goes o f depth s (idle n ++ code) (paused n ++ shows) loads
  idle-before depth n s code shows loads goes = record {
    state = goes.state;
    walked =
        walked-then o depth s (idle n) (paused n) s code shows goes.state (walked-pauses o depth s n) goes.walked;
    carries = goes.carries;
    slots = goes.slots;
  }

  idle-after : (depth n : ℕ) (s : SymState) (code : List Instr) (shows : List Show) (loads : Loads)
      → Goes o f depth s code shows loads → Goes o f depth s (code ++ idle n) (shows ++ paused n) loads
  idle-after depth n s code shows loads goes = record {
    state = goes.state;
    walked =
        walked-then o depth s code shows goes.state (idle n) (paused n) goes.state goes.walked
        (walked-pauses o depth goes.state n);
    carries = goes.carries;
    slots = goes.slots;
  }

  -- quiet code leaves the slots as they were
  quiet-goes : (depth : ℕ) (s : SymState) (code : List Instr) (shows : List Show) (loads : Loads) (n : ℕ)
      → IsQuiet s shows loads n → Goes o f depth s code shows loads → Goes o f depth s code shows no_loads
  quiet-goes depth s code shows loads n quiet goes = record {
    state = goes.state;
    walked = goes.walked;
    carries = goes.carries;
    slots = λ k. goes.slots k ∙ quiet.slots k;
  }

  -- idle cycles that follow a quiet arm are shown together with its own cycles
  idle-shown : (s : SymState) (shows : List Show) (loads : Loads) (n more : ℕ) → IsQuiet s shows loads n
      → pattern_of (shows ++ paused more) ≡ gap (n + more)
  idle-shown s shows loads n more quiet =
      pattern_of-append shows (paused more)
      ∙ (λ k. joined (quiet.shown k) ((pattern_of-pause more ∙ pattern_of-alone (Gap more)) k))
      ∙ gaps-joined n more

  -- from a state, both arms of a branch go, and both paths show the same events
  pub record ArmsGo (mode : Mode) (depth : ℕ) (a b : Block) (s : SymState) (slack : Option Slack) : Type 0 where
    pub xs : List Show
    pub ys : List Show
    pub untaken : Goes o f (depth + 1) s (first_arm slack f.profile.taken (pair_count f a b)
        (padded_codes f (arm_mode mode) b) (padded_codes f modes.Mirrored a)) xs
        (padded_loads slack (pair_count f a b) (slots_of_each f a) (slots_of_each f b))
    pub taken : Goes o f (depth + 1) s (second_arm slack f.profile.taken (pair_count f a b)
        (padded_codes f (arm_mode mode) a) (padded_codes f modes.Mirrored b)) ys
        (padded_loads slack (pair_count f a b) (slots_of_each f a) (slots_of_each f b))
    pub one_way : untaken_way o (pattern_of xs) ≡ pattern_of
        (padded_shows slack f.profile.taken (pair_count f a b) (shows_of_each f a) (shows_of_each f b))
    pub other_way : taken_way o (pattern_of ys) ≡ pattern_of
        (padded_shows slack f.profile.taken (pair_count f a b) (shows_of_each f a) (shows_of_each f b))

  module _ (some : 1 ≤ f.profile.taken) (mode : Mode) (depth : ℕ) (a b : Block)
      (left : TypedBlock (context_of f.decls) Secret a) (right : TypedBlock (context_of f.decls) Secret b)
      (first : PartGoesInArms (depth + 1) a) (second : PartGoesInArms (depth + 1) b) (s : SymState)
      (carries : CarriesInArm f s) where
    same_taken : o.profile.taken ≡ f.profile.taken
    same_taken = ap (λ (p : Profile). p.taken) homes.profile

    mirrored-go : ArmsGo mode depth a b s None
    mirrored-go =
        let k = pair_count f a b in
        let taken = f.profile.taken in
        let shows = mirrored_shows f a b in
        let loads = mirrored_loads f a b in
        let own = padded_codes f (arm_mode mode) b in
        let one = untaken-goes (depth + 1) a b own (padded_codes f modes.Mirrored a) left right
        (second (arm_mode mode) (arm-secret mode)) (first modes.Mirrored refl) s carries in
        let two = taken-goes (depth + 1) a b (padded_codes f (arm_mode mode) a) (padded_codes f modes.Mirrored b)
        (first (arm_mode mode) (arm-secret mode)) (second modes.Mirrored refl) s carries in
        let enough : 1 ≤ o.profile.taken = omega (arith, some, same_taken) in
        record {
          xs = paused (taken - 1) ++ shows;
          ys = shows ++ paused taken;
          untaken = idle-before (depth + 1) (taken - 1) s (untaken_arm k own (padded_codes f modes.Mirrored a)) shows
              loads one;
          taken = idle-after (depth + 1) taken s
              (taken_arm k (padded_codes f (arm_mode mode) a) (padded_codes f modes.Mirrored b)) shows loads two;
          one_way = subst (λ (n : ℕ).
              untaken_way o (pattern_of (paused (n - 1) ++ shows)) ≡ pattern_of (region_shows n shows)) same_taken
              (untaken-shows o enough shows);
          other_way = subst (λ (n : ℕ).
              taken_way o (pattern_of (shows ++ paused n)) ≡ pattern_of (region_shows n shows)) same_taken
              (taken-shows o enough shows);
        }

    quiet-go : BlockHasPublicIndexes f a → BlockHasPublicIndexes f b → LowBlock a → LowBlock b → (slack : Slack)
        → IsSlack (cycles_of_all f a) (cycles_of_all f b) slack → ArmsGo mode depth a b s (Some slack)
    quiet-go public other_public low other_low slack even =
        let taken = f.profile.taken in
        let xs = shown_in_a_row (shows_of_each f b) in
        let ys = shown_in_a_row (shows_of_each f a) in
        let ls = loaded_in_a_row (slots_of_each f a) in
        let ms = loaded_in_a_row (slots_of_each f b) in
        let one = block-quiet o f homes s carries a even.one left public low even.first in
        let two = block-quiet o f homes s carries b even.two right other_public other_low even.second in
        let row_one = padded_codes f (arm_mode mode) a in
        let row_two = padded_codes f (arm_mode mode) b in
        let goes_one = row-goes o f (depth + 1) row_one (shows_of_each f a) (slots_of_each f a)
        (first (arm_mode mode) (arm-secret mode)) s carries in
        let goes_two = row-goes o f (depth + 1) row_two (shows_of_each f b) (slots_of_each f b)
        (second (arm_mode mode) (arm-secret mode)) s carries in
        let shown = taken-cycles s taken slack.taken even.one ys ls one in
        let sum : 1 + (even.two + slack.untaken) + o.profile.taken ≡ taken + (even.one + slack.taken) =
        omega (arith, even.even, same_taken) in
        let sum_two : o.profile.taken + (even.one + slack.taken) ≡ taken + (even.one + slack.taken) =
        omega (arith, same_taken) in
        record {
          xs = xs ++ paused slack.untaken;
          ys = ys ++ paused slack.taken;
          untaken = idle-after (depth + 1) slack.untaken s (in_a_row row_two) xs no_loads
              (quiet-goes (depth + 1) s (in_a_row row_two) xs ms even.two two goes_two);
          taken = idle-after (depth + 1) slack.taken s (in_a_row row_one) ys no_loads
              (quiet-goes (depth + 1) s (in_a_row row_one) ys ls even.one one goes_one);
          one_way =
              ap (untaken_way o) (idle-shown s xs ms even.two slack.untaken two)
              ∙ ap (λ (q : Shown TreeEvent). with_gap q o.profile.taken) (gaps-joined 1 (even.two + slack.untaken))
              ∙ with_gap-more no_events (1 + (even.two + slack.untaken)) o.profile.taken
              ∙ ap gap sum ∙ sym shown;
          other_way =
              ap (taken_way o) (idle-shown s ys ls even.one slack.taken one)
              ∙ gaps-joined o.profile.taken (even.one + slack.taken) ∙ ap gap sum_two ∙ sym shown;
        }

    pub arms-go : BlockHasPublicIndexes f a → BlockHasPublicIndexes f b → LowBlock a → LowBlock b
        → ArmsGo mode depth a b s (slack_of f a b)
    arms-go one two low high = by (slack_of f a b) refl
      where
        by : (slack : Option Slack) → slack_of f a b ≡ slack → ArmsGo mode depth a b s slack
        by None is = mirrored-go
        by (Some slack) is =
            quiet-go one two low high slack
            (slack-between f.reduces (cycles_of_all f a) (cycles_of_all f b) slack is)

  -- a branch whose parts go
  module _ (some : 1 ≤ f.profile.taken) where
    choice-goes : (mode : Mode) → may_skip_loads mode ≡ false → (depth : ℕ) (t : Test) (a b : Block)
        → TypedStatement (context_of f.decls) Secret (Choice t a b) → StatementHasPublicIndexes f (Choice t a b)
        → LowStatement (Choice t a b) → depth < most_regions → PartGoesInArms (depth + 1) a
        → PartGoesInArms (depth + 1) b
        → GoesAnywhere o f depth (padded_code f mode (Choice t a b)) (shows_of f (Choice t a b))
        (slots_of f (Choice t a b))
    choice-goes mode secret depth t a b typed public low around first second = λ s carries.
        let both = guard-leaves o f homes depth mode secret t s 0 typed.0 public.0 (omega arith) (omega arith)
        carries in
        let guard = goes-leaves o f depth s (guard_code f mode 0 t) (shows_of_test f t) 0 (tree_of_expr f t.left)
        (slots_of_test f t) both.leaves in
        let from = both.leaves.state in
        let arms = arms-go some mode depth a b typed.1.0 typed.1.1 first second from both.leaves.carries public.1.0
        public.1.1 low.1.0 low.1.1 in
        let region = goes-region o f depth from t.cmp 0 1 (first_of f mode a b) (second_of f mode a b) arms.xs arms.ys
        (shows_of_region f a b) (slots_of_arms f a b) around arms.untaken arms.taken arms.one_way arms.other_way in
        goes-then o f depth s (guard_code f mode 0 t) (shows_of_test f t) (slots_of_test f t) guard
        (region_code t.cmp (first_of f mode a b) (second_of f mode a b)) (shows_of_region f a b) (slots_of_arms f a b)
        region

    mutual
      -- the code of a statement shows what its patterns say, in both modes
      pub statement-goes : (s : Statement) (mode : Mode) → may_skip_loads mode ≡ false → (depth : ℕ)
          → TypedStatement (context_of f.decls) Secret s → StatementHasPublicIndexes f s → LowStatement s
          → depth + nesting_of s ≤ most_regions
          → GoesAnywhere o f depth (padded_code f mode s) (shows_of f s) (slots_of f s)
      statement-goes (SetVariable x e) mode secret depth typed public low around = λ s carries.
          set-goes o f homes depth mode secret (SetVariable x e) s typed public low carries
      statement-goes (SetElement x i e) mode secret depth typed public low around = λ s carries.
          set-goes o f homes depth mode secret (SetElement x i e) s typed public low carries
      statement-goes (Choice t a b) mode secret depth typed public low around =
          choice-goes mode secret depth t a b typed public low (omega arith)
          (each-goes a (depth + 1) typed.1.0 public.1.0 low.1.0 (omega arith))
          (each-goes b (depth + 1) typed.1.1 public.1.1 low.1.1 (omega arith))
      statement-goes (Loop t a) mode secret depth typed public low around = λ s carries.
          goes-none o f depth s carries

      -- and so does the code of each statement of a block
      pub each-goes : (b : Block) (depth : ℕ) → TypedBlock (context_of f.decls) Secret b
          → BlockHasPublicIndexes f b → LowBlock b → depth + nesting_of_block b ≤ most_regions
          → PartGoesInArms depth b
      each-goes Nothing depth typed public low around mode secret = NoneGoes
      each-goes (Then s rest) depth typed public low around mode secret =
          OneGoes (padded_code f mode s) (shows_of f s) (slots_of f s) (padded_codes f mode rest)
          (shows_of_each f rest) (slots_of_each f rest)
          (statement-goes s mode secret depth typed.0 public.0 low.0 (omega arith))
          (each-goes rest depth typed.1 public.1 low.1 (omega arith) mode secret)
