-- Where the cores of a bus are once a watcher has failed: each on its way, in a state of its own run.
use Rattle.std.proofs.Common.{◌≡◌, ℕ, ◌≤◌, List, [], ◌++◌, Some, length, sym, ap, ◌∙◌, subst, ⊎_elim}
use Rattle.std.specs.Prelude.{slice_get}
use Rattle.std.proofs.lemmas.Option.{same_Some, slice_get_within}
use Rattle.std.proofs.lemmas.Bool.{cases_eq}
use Rattle.bus_arbiter.specs.Prelude.{Core, OnItsWay, GoOn, JoinedOn, StopOn, Transfer, AllOnTheirWay, TurnStopped}
use Rattle.bus_arbiter.proofs.CoreRuns.{both-way, left-way}
use Rattle.bus_arbiter.proofs.Plays.{get-set_other, get-set_same, length-put}

-- while one core was run
pub turn-stops : {B : Type 0} (between after : List (Core B)) (at n core m : ℕ) → m ≤ n
    → TurnStopped between after core m → StopOn between after at n
turn-stops {B = B} between after at n core m le stopped first told so_far = record {
  count = ap length stopped.put ∙ length-put between core stopped.now ∙ so_far.count;
  each = λ k c d there here.
      ⊎_elim
      (λ (is : k ≡ core).
      subst (λ j. slice_get first j ≡ Some c → slice_get after j ≡ Some d → OnItsWay c n d) (sym is) (own c d)
      there here)
      (λ other.
      let on =
      so_far.onward k c d there
      (sym (get-set_other between core k stopped.now other) ∙ ap (λ l. slice_get l k) (sym stopped.put) ∙ here) in
      left-way c d on.reached n on.within on.ran)
      (cases_eq k core);
}
  where
    own : (c d : Core B) → slice_get first core ≡ Some c → slice_get after core ≡ Some d → OnItsWay c n d
    own c d there here =
        let on = so_far.onward core c stopped.was there stopped.there in
        let within = slice_get_within between core stopped.was stopped.there in
        let same : stopped.now ≡ d =
        same_Some stopped.now d
        (sym (get-set_same between core stopped.now within) ∙ ap (λ l. slice_get l core) (sym stopped.put) ∙ here) in
        subst (λ (x : Core B). OnItsWay c n x) same
        (both-way c stopped.was stopped.now on.reached m n on.in_range on.shaped on.within le on.ran stopped.way)

-- after some slots, and after some periods
pub stops-then : {B : Type 0} (one two three : List (Core B)) (at mid n : ℕ) (heard : List Transfer → Type 0)
    → GoOn one two at mid n heard → StopOn two three mid n → StopOn one three at n
stops-then one two three at mid n heard before after first told so_far =
    let half = before first told so_far in
    after first (told ++ half.more) half.joined

pub joined-stops : {B : Type 0} (first mid after : List (Core B)) (at n : ℕ) (heard : List Transfer → Type 0)
    → JoinedOn first mid [] at n heard → StopOn mid after at n → AllOnTheirWay first (λ k. n) after
joined-stops first mid after at n heard on stops = stops first on.more on.joined
