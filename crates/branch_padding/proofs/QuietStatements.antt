-- Statements of secret code whose cycles are known show only these cycles, from any state, and leave the slots as they
-- were.
use Rattle.std.proofs.Common.{◌≡◌, ℕ, ◌+◌, ◌-◌, ◌≤◌, Bool, true, false, ◌&&◌, List, [], ◌∷◌, ◌++◌, Option, Some, None, refl, ap, ◌∙◌, subst, arith}
use Rattle.std.specs.Prelude.{if◌then◌else◌, nat_le}
use Rattle.std.proofs.lemmas.Bool.{and_parts, leb-true}
use Rattle.std.proofs.lemmas.Option.{none-some}
use Rattle.gr_word.specs.declared.variables.Label.TheVariants.{Secret}
use Rattle.lt_isa.specs.Prelude.{Parts}
use Rattle.src_tree.specs.Prelude.{context_of, LowStatement, LowBlock, Statement, SetVariable, SetElement, Choice, Loop, Block, Nothing, Then, TypedStatement, TypedBlock}
use Rattle.trace_patterns.specs.Prelude.{joined, SymState, gap}
use Rattle.stretches.specs.Prelude.{Show, Gap, pattern_of}
use Rattle.stretches.proofs.ShowLaws.{gaps-joined, pattern_of-alone, pattern_of-append}
use Rattle.block_cache_gen.specs.Prelude.{pair_count, CarriesInArm, guard_code, set_code, Setting, HasHomes, Loads, tree_of_expr, shows_of_test, slots_of_test, shows_of_set, slots_of_set, StatementHasPublicIndexes, BlockHasPublicIndexes}
use Rattle.block_cache_gen.proofs.ArmAssignments.{Goes, goes-leaves, set-goes}
use Rattle.block_cache_gen.proofs.ArmExpressions.{guard-leaves}
use Rattle.branch_padding.specs.declared.cycles.Slack.{Slack}
use Rattle.branch_padding.specs.Prelude.{most_slack, quiet_cycles, slack_by, slack_between, region_cycles, cycles_of, cycles_of_all, slack_of, shown_in_a_row, loaded_in_a_row, padded_shows, padded_loads, shows_of, shows_of_each, shows_of_region, slots_of, slots_of_each, slots_of_arms}
use Rattle.branch_padding.proofs.QuietCode.{same_number, added-parts, object_of, homes-in, IsQuiet, quiet-none, quiet-then, quiet-code}
use Rattle.block_cache_gen.specs.declared.frames.Mode.TheVariants as modes

-- With what they idle, both paths take the same cycles, and neither idles long.
pub record IsSlack (x y : Option ℕ) (slack : Slack) : Type 0 where
  pub one : ℕ
  pub two : ℕ
  pub first : x ≡ Some one
  pub second : y ≡ Some two
  pub even : 1 + two + slack.untaken ≡ one + slack.taken
  pub untaken_few : slack.untaken ≤ most_slack
  pub taken_few : slack.taken ≤ most_slack

same_slack : (v w : Slack) → ◌≡◌ {A = Option Slack} (Some v) (Some w) → v ≡ w
same_slack v w is = cc

slack-by : (one two : ℕ) (slack : Slack) → slack_by one two ≡ Some slack → IsSlack (Some one) (Some two) slack
slack-by one two slack is = by (nat_le (one - (1 + two)) most_slack && nat_le ((1 + two) - one) most_slack) refl is
  where
    by : (c : Bool) → (nat_le (one - (1 + two)) most_slack && nat_le ((1 + two) - one) most_slack) ≡ c
        → (if c then Some (record { untaken = one - (1 + two); taken = (1 + two) - one }) else None) ≡ Some slack
        → IsSlack (Some one) (Some two) slack
    by false few e = absurd (none-some slack e)
    by true few e =
        let w : Slack = record { untaken = one - (1 + two); taken = (1 + two) - one } in
        let parts = and_parts (nat_le (one - (1 + two)) most_slack) (nat_le ((1 + two) - one) most_slack) few in
        let same = same_slack w slack e in
        let untaken : one - (1 + two) ≡ slack.untaken = ap (λ (v : Slack). v.untaken) same in
        let taken : (1 + two) - one ≡ slack.taken = ap (λ (v : Slack). v.taken) same in
        record {
          one = one;
          two = two;
          first = refl;
          second = refl;
          even = omega (arith, untaken, taken);
          untaken_few = omega (arith, untaken, leb-true (one - (1 + two)) most_slack parts.0);
          taken_few = omega (arith, taken, leb-true ((1 + two) - one) most_slack parts.1);
        }

pub slack-between : (fast : Bool) (x y : Option ℕ) (slack : Slack) → slack_between fast x y ≡ Some slack
    → IsSlack x y slack
slack-between false x y slack is = absurd (none-some slack is)
slack-between true None y slack is = absurd (none-some slack is)
slack-between true (Some one) None slack is = absurd (none-some slack is)
slack-between true (Some one) (Some two) slack is = slack-by one two slack is

-- the cycles of the way that is taken
pub taken-cycles : (s : SymState) (taken idle one : ℕ) (shows : List Show) (loads : Loads) → IsQuiet s shows loads one
    → pattern_of (Gap taken ∷ (shows ++ Gap idle ∷ [])) ≡ gap (taken + (one + idle))
taken-cycles s taken idle one shows loads quiet =
    ap (joined (gap taken))
    (pattern_of-append shows (Gap idle ∷ [])
    ∙ (λ k. joined (quiet.shown k) (pattern_of-alone (Gap idle) k))
    ∙ gaps-joined one idle)
    ∙ gaps-joined taken (one + idle)

-- a quiet region
region-quiet : (s : SymState) (slack : Option Slack) (taken k n : ℕ) (x : Option ℕ) (first second : List (List Show))
    (ls ms : List Loads)
    → region_cycles taken slack x ≡ Some n
    → ((one : ℕ) → x ≡ Some one → IsQuiet s (shown_in_a_row first) (loaded_in_a_row ls) one)
    → IsQuiet s (padded_shows slack taken k first second) (padded_loads slack k ls ms) n
region-quiet s None taken k n x first second ls ms is quiet = absurd (none-some n is)
region-quiet s (Some slack) taken k n x first second ls ms is quiet =
    let parts = added-parts (Some (taken + slack.taken)) x n is in
    let around = same_number (taken + slack.taken) parts.one parts.first in
    let all : taken + (parts.two + slack.taken) ≡ n = omega (arith, around, parts.sum) in
    record {
      shown =
          taken-cycles s taken slack.taken parts.two (shown_in_a_row first) (loaded_in_a_row ls)
          (quiet parts.two parts.second)
          ∙ ap gap all;
      slots = λ k. refl;
    }

module _ (o : Parts) (f : Setting) (homes : HasHomes o f) (s : SymState) (carries : CarriesInArm f s) where
  set-quiet : (a : Statement) (n : ℕ) → TypedStatement (context_of f.decls) Secret a
      → ((p : Parts) → HasHomes p f → Goes p f 0 s (set_code f modes.Real a)
      (shows_of_set f a) (slots_of_set f a))
      → quiet_cycles f.profile (set_code f modes.Real a) ≡ Some n → IsQuiet s (shows_of_set f a) (slots_of_set f a) n
  set-quiet a n typed goes is =
      let code = set_code f modes.Real a in
      quiet-code o f homes s code (shows_of_set f a) (slots_of_set f a) n
      (goes (object_of o code) (homes-in o f code homes)) is

  mutual
    pub statement-quiet : (a : Statement) (n : ℕ) → TypedStatement (context_of f.decls) Secret a
        → StatementHasPublicIndexes f a → LowStatement a → cycles_of f a ≡ Some n
        → IsQuiet s (shows_of f a) (slots_of f a) n
    statement-quiet (SetVariable x e) n typed public low is =
        set-quiet (SetVariable x e) n typed
        (λ p there. set-goes p f there 0 modes.Real refl (SetVariable x e) s typed public low carries) is
    statement-quiet (SetElement x i e) n typed public low is =
        set-quiet (SetElement x i e) n typed
        (λ p there. set-goes p f there 0 modes.Real refl (SetElement x i e) s typed public low carries) is
    statement-quiet (Choice t a b) n typed public low is =
        let guard = guard_code f modes.Real 0 t in
        let p = object_of o guard in
        let slack = slack_of f a b in
        let parts = added-parts (quiet_cycles f.profile guard)
        (region_cycles f.profile.taken slack (cycles_of_all f a)) n is in
        let both = guard-leaves p f (homes-in o f guard homes) 0 modes.Real refl t s 0 typed.0 public.0 (omega arith)
        (omega arith) carries in
        let first = quiet-code o f homes s guard (shows_of_test f t) (slots_of_test f t) parts.one
        (goes-leaves p f 0 s guard (shows_of_test f t) 0 (tree_of_expr f t.left) (slots_of_test f t) both.leaves)
        parts.first in
        let rest = region-quiet s slack f.profile.taken (pair_count f a b) parts.two
        (cycles_of_all f a) (shows_of_each f a) (shows_of_each f b) (slots_of_each f a) (slots_of_each f b) parts.second
        (λ one known. block-quiet a one typed.1.0 public.1.0 low.1.0 known) in
        subst (λ (m : ℕ). IsQuiet s (shows_of f (Choice t a b)) (slots_of f (Choice t a b)) m) parts.sum
        (quiet-then s (shows_of_test f t) (shows_of_region f a b) (slots_of_test f t) (slots_of_arms f a b) parts.one
        parts.two first rest)
    statement-quiet (Loop t a) n typed public low is = absurd (none-some n is)

    pub block-quiet : (b : Block) (n : ℕ) → TypedBlock (context_of f.decls) Secret b → BlockHasPublicIndexes f b
        → LowBlock b → cycles_of_all f b ≡ Some n
        → IsQuiet s (shown_in_a_row (shows_of_each f b)) (loaded_in_a_row (slots_of_each f b)) n
    block-quiet Nothing n typed public low is =
        subst (λ (m : ℕ). IsQuiet s [] (loaded_in_a_row []) m) (same_number 0 n is) (quiet-none s)
    block-quiet (Then a rest) n typed public low is =
        let parts = added-parts (cycles_of f a) (cycles_of_all f rest) n is in
        subst (λ (m : ℕ).
        IsQuiet s (shown_in_a_row (shows_of_each f (Then a rest))) (loaded_in_a_row (slots_of_each f (Then a rest))) m)
        parts.sum
        (quiet-then s (shows_of f a) (shown_in_a_row (shows_of_each f rest)) (slots_of f a)
        (loaded_in_a_row (slots_of_each f rest)) parts.one parts.two
        (statement-quiet a parts.one typed.0 public.0 low.0 parts.first)
        (block-quiet rest parts.two typed.1 public.1 low.1 parts.second))
