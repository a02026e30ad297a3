-- The number of reported paths is that of accesses to oblivious banks.
use Rattle.std.proofs.Common.{◌≡◌, ℕ, zero, suc, ◌+◌, ◌≤◌, Bool, true, false, List, [], ◌∷◌, ◌++◌, length, Option, Some, None, refl, sym, ap, ◌∙◌, arith}
use Rattle.std.proofs.lemmas.Bool.{false≢true}
use Rattle.std.proofs.lemmas.List.{length-append}
use Rattle.lt_isa.specs.Prelude.{Halted, Observed, StepResult, Goes, Stops, Faults}
use Rattle.banks.specs.declared.bank.Leaves.{Leaves}
use Rattle.banks.specs.Prelude.{Access, at_most_one, oblivious}
use Rattle.banks.proofs.ShownAccesses.{event_of_outcome, if_oblivious, made_bank, told_bank}
use Rattle.processor.specs.Prelude.{oblivious_count, one_if_oblivious, path_count, may_show, told_of_step, WatcherTold, AnEvent, APath, path_behind}

-- the paths in two stretches
pub path_count-append : (xs ys : List WatcherTold) → path_count (xs ++ ys) ≡ path_count xs + path_count ys
path_count-append [] ys = omega arith
path_count-append (AnEvent event ∷ xs) ys = path_count-append xs ys
path_count-append (APath stamp bank leaves ∷ xs) ys = omega (arith, path_count-append xs ys)

-- the oblivious accesses in two stretches
pub oblivious_count-append : (xs ys : List Access)
    → oblivious_count (xs ++ ys) ≡ oblivious_count xs + oblivious_count ys
oblivious_count-append [] ys = omega arith
oblivious_count-append (x ∷ xs) ys = omega (arith, oblivious_count-append xs ys)

one_if : Option ℕ → ℕ
one_if None = 0
one_if (Some bank) = 1

behind_count : (stamp : ℕ) (bank : Option ℕ) (leaves : Leaves)
    → path_count (path_behind stamp bank leaves) ≡ one_if bank
unfolding one_if
behind_count stamp None leaves = refl
behind_count stamp (Some bank) leaves = omega arith

event_count : (start : ℕ) (event : Option Observed) (leaves : Leaves)
    → path_count (may_show start event leaves) ≡ one_if (told_bank event)
unfolding one_if
event_count start None leaves = refl
event_count start (Some event) leaves = behind_count start (oblivious event) leaves

made_count : (made : Option Access) → oblivious_count (at_most_one made) ≡ one_if (made_bank made)
unfolding one_if
made_count None = refl
made_count (Some access) = by_bank access.bank
  where
    by_bank : (bank : ℕ) → one_if_oblivious bank + 0 ≡ one_if (if_oblivious bank)
    by_bank zero = omega arith
    by_bank (suc zero) = omega arith
    by_bank (suc (suc i)) = omega arith

-- a step makes one oblivious access at most
pub most_one : (made : Option Access) → oblivious_count (at_most_one made) ≤ 1
unfolding one_if
most_one made = let is = made_count made in omega (arith, is, low (made_bank made))
  where
    low : (bank : Option ℕ) → one_if bank ≤ 1
    low None = omega arith
    low (Some bank) = omega arith

-- a step reports as many paths as it makes accesses to oblivious banks
pub step_counted : (start : ℕ) (outcome : StepResult) (leaves : Leaves) (made : Option Access)
    → told_bank (event_of_outcome outcome) ≡ made_bank made
    → oblivious_count (at_most_one made) ≡ path_count (told_of_step start outcome leaves)
unfolding one_if
step_counted start (Goes event t) leaves made same =
    made_count made ∙ ap one_if (sym same) ∙ sym (event_count start event leaves)
step_counted start (Stops t) leaves made same =
    made_count made ∙ ap one_if (sym same) ∙ sym (event_count start (Some Halted) leaves)
step_counted start Faults leaves made same = made_count made ∙ ap one_if (sym same) ∙ nothing
  where
    nothing : one_if None ≡ 0
    nothing = refl

-- as many paths as oblivious accesses, over two stretches
pub counts_on : (made more : List Access) (shown further : List WatcherTold) → oblivious_count made ≡ path_count shown
    → oblivious_count more ≡ path_count further → oblivious_count (made ++ more) ≡ path_count (shown ++ further)
counts_on made more shown further one two =
    omega (arith, one, two, oblivious_count-append made more, path_count-append shown further)

-- a step reports no path before something else of it
starts_with_path : List WatcherTold → Bool
starts_with_path [] = false
starts_with_path (AnEvent event ∷ told) = false
starts_with_path (APath stamp bank leaves ∷ told) = true

few_behind : (stamp : ℕ) (bank : Option ℕ) (leaves : Leaves) → length (path_behind stamp bank leaves) ≤ 1
few_behind stamp None leaves = omega arith
few_behind stamp (Some bank) leaves = omega arith

few_shown : (start : ℕ) (event : Option Observed) (leaves : Leaves) → length (may_show start event leaves) ≤ 2
few_shown start None leaves = omega arith
few_shown start (Some event) leaves = omega (arith, few_behind start (oblivious event) leaves)

few : (start : ℕ) (outcome : StepResult) (leaves : Leaves) → length (told_of_step start outcome leaves) ≤ 2
few start (Goes event t) leaves = few_shown start event leaves
few start (Stops t) leaves = few_shown start (Some Halted) leaves
few start Faults leaves = omega arith

first_shown : (start : ℕ) (event : Option Observed) (leaves : Leaves)
    → starts_with_path (may_show start event leaves) ≡ false
unfolding starts_with_path
first_shown start None leaves = refl
first_shown start (Some event) leaves = refl

first : (start : ℕ) (outcome : StepResult) (leaves : Leaves)
    → starts_with_path (told_of_step start outcome leaves) ≡ false
unfolding starts_with_path
first start (Goes event t) leaves = first_shown start event leaves
first start (Stops t) leaves = first_shown start (Some Halted) leaves
first start Faults leaves = refl

-- no path is reported before the event of its step
pub none_before : (start : ℕ) (outcome : StepResult) (leaves : Leaves) (told : List WatcherTold) (next : WatcherTold)
    (rest : List WatcherTold) → told_of_step start outcome leaves ≡ told ++ next ∷ rest → path_count told ≡ 0
unfolding starts_with_path
none_before start outcome leaves [] next rest is = refl
none_before start outcome leaves (APath stamp bank other ∷ told) next rest is =
    absurd (false≢true (sym (first start outcome leaves) ∙ ap starts_with_path is))
none_before start outcome leaves (AnEvent event ∷ []) next rest is = refl
none_before start outcome leaves (AnEvent event ∷ more ∷ told) next rest is =
    let long : length (told_of_step start outcome leaves) ≡ suc (suc (length (told ++ next ∷ rest))) = ap length is in
    absurd (omega (arith, few start outcome leaves, long, length-append told (next ∷ rest)))
