-- The paths that are reported for a bank are those that it shows; and what two consecutive runs report, paths included.
use Rattle.std.proofs.Common.{◌≡◌, ℕ, zero, suc, ◌+◌, ◌≤◌, ◌⊎◌, inl, inr, Bool, true, false, cond, List, [], ◌∷◌, ◌++◌, length, length-drop, map, drop, get_or, Option, Some, None, refl, sym, ap, ◌∙◌, subst, ⊎_elim, arith, append_assoc}
use Rattle.std.specs.Prelude.{◌==◌}
use Rattle.std.proofs.lemmas.Bool.{eq-eqb, eqb-true}
use Rattle.std.proofs.lemmas.List.{nil_from_length}
use Rattle.lt_isa.specs.Prelude.{Parts, IsInRange, State, IsShaped, Stamped, final_from, trace_from}
use Rattle.banks.specs.declared.bank.Leaves.{Leaves}
use Rattle.banks.specs.Prelude.{Access, accesses_from, in_bank, no_leaves, accesses_shown, if_it_is, oblivious}
use Rattle.banks.proofs.AccessBounds.{accesses-counted}
use Rattle.banks.proofs.InBank.{in_bank-append}
use Rattle.processor.specs.declared.list_watch.ShownPaths.{ShownPaths}
use Rattle.processor.specs.Prelude.{EndsAs, path_at, paths_in, ComeBy, OfBoth, ShowsOn, oram_of, paths_shown, shown_of, ArePathsOf, is_bank, paths_of, places_of, stamps_of, WatcherTold, left_paths, next_of, path_behind, run_shown, with_path, with_paths}
use Rattle.processor.proofs.Joining.{runs_join}
use Rattle.processor.proofs.TellingPaths.{with_paths-same}
use Rattle.processor.specs.declared.ends.End.TheVariants as end

-- a list that isn't empty, from its first item on
split_first : (shows : List Leaves) → 1 ≤ length shows → get_or shows 0 no_leaves ∷ drop 1 shows ≡ shows
split_first [] some = absurd (omega arith)
split_first (leaves ∷ shows) some = refl

-- the paths of one bank, from a place on
record AreTold (b place : ℕ) (events : List Stamped) (shows : List Leaves) (paths : List ShownPaths) : Type 0 where
  leaves : map (λ path. path.leaves) paths ≡ shows
  stamps : map (λ path. path.stamp) paths ≡ stamps_of b events
  places : map (λ path. path.place) paths ≡ places_of b place events

-- an access to a bank in front, whether it is this one or another
told_one : (b place : ℕ) (event : Stamped) (events : List Stamped) (paths : ℕ → List Leaves) (bank : ℕ)
    → oblivious event.event ≡ Some bank → length (paths b) ≡ if_it_is b (Some bank) + accesses_shown b events
    → (one : Leaves) → one ≡ get_or (paths bank) 0 no_leaves → (mine : List ShownPaths)
    → (length (left_paths (Some bank) paths b) ≡ accesses_shown b events
    → AreTold b (place + 1) events (left_paths (Some bank) paths b) mine)
    → (c : Bool) → (b == bank) ≡ c
    → AreTold b place (event ∷ events) (paths b)
    (cond (b == bank) (path_at (place + 1) event.stamp bank one ∷ mine) mine)
told_one b place event events paths bank is counted one first mine later true same =
    let some : length (paths b) ≡ 1 + accesses_shown b events =
    counted ∙ ap (λ c. cond c 1 0 + accesses_shown b events) same in
    let left : left_paths (Some bank) paths b ≡ drop 1 (paths b) =
    ap (λ c. cond c (drop 1 (paths b)) (paths b)) same in
    let short : length (left_paths (Some bank) paths b) ≡ accesses_shown b events =
    ap length left ∙ omega (arith, length-drop 1 (paths b), some) in
    let told = later short in
    subst (AreTold b place (event ∷ events) (paths b))
    (sym (ap (λ c. cond c (path_at (place + 1) event.stamp bank one ∷ mine) mine) same))
    (record {
      leaves =
          ap (λ l. one ∷ l) (told.leaves ∙ left) ∙ ap (λ l. l ∷ drop 1 (paths b)) first
          ∙ ap (λ n. get_or (paths n) 0 no_leaves ∷ drop 1 (paths b)) (sym (eqb-true b bank same))
          ∙ split_first (paths b) (omega (arith, some));
      stamps =
          ap (λ l. event.stamp ∷ l) told.stamps
          ∙ sym (ap (λ f. cond (is_bank b f) (event.stamp ∷ stamps_of b events) (stamps_of b events)) is
          ∙ ap (λ c. cond c (event.stamp ∷ stamps_of b events) (stamps_of b events)) same);
      places =
          ap (λ l. (place + 1) ∷ l) told.places
          ∙ sym (ap (λ f. cond (is_bank b f) ((place + 1) ∷ places_of b (place + 1) events)
          (places_of b (place + 1) events)) is
          ∙ ap (λ c. cond c ((place + 1) ∷ places_of b (place + 1) events) (places_of b (place + 1) events)) same);
    })
told_one b place event events paths bank is counted one first mine later false same =
    let none : length (paths b) ≡ 0 + accesses_shown b events =
    counted ∙ ap (λ c. cond c 1 0 + accesses_shown b events) same in
    let left : left_paths (Some bank) paths b ≡ paths b =
    ap (λ c. cond c (drop 1 (paths b)) (paths b)) same in
    let all : length (left_paths (Some bank) paths b) ≡ accesses_shown b events =
    ap length left ∙ omega (arith, none) in
    let told = later all in
    subst (AreTold b place (event ∷ events) (paths b))
    (sym (ap (λ c. cond c (path_at (place + 1) event.stamp bank one ∷ mine) mine) same))
    (record {
      leaves = told.leaves ∙ left;
      stamps =
          told.stamps
          ∙ sym (ap (λ f. cond (is_bank b f) (event.stamp ∷ stamps_of b events) (stamps_of b events)) is
          ∙ ap (λ c. cond c (event.stamp ∷ stamps_of b events) (stamps_of b events)) same);
      places =
          told.places
          ∙ sym (ap (λ f. cond (is_bank b f) ((place + 1) ∷ places_of b (place + 1) events)
          (places_of b (place + 1) events)) is
          ∙ ap (λ c. cond c ((place + 1) ∷ places_of b (place + 1) events) (places_of b (place + 1) events)) same);
    })

-- one event more, in front
told_first : (b place : ℕ) (event : Stamped) (events : List Stamped) (paths : ℕ → List Leaves) (found : Option ℕ)
    → oblivious event.event ≡ found → length (paths b) ≡ if_it_is b found + accesses_shown b events
    → (rest : List WatcherTold)
    → (length (left_paths found paths b) ≡ accesses_shown b events
    → AreTold b (place + 1) events (left_paths found paths b) (paths_of b (paths_in (place + 1) rest)))
    → AreTold b place (event ∷ events) (paths b)
    (paths_of b (paths_in (place + 1) (path_behind event.stamp found (next_of found paths) ++ rest)))
told_first b place event events paths None is counted rest later =
    let told = later (omega (arith, counted)) in
    record {
      leaves = told.leaves;
      stamps = told.stamps
          ∙ sym (ap (λ f. cond (is_bank b f) (event.stamp ∷ stamps_of b events) (stamps_of b events)) is);
      places = told.places
          ∙ sym (ap (λ f. cond (is_bank b f) ((place + 1) ∷ places_of b (place + 1) events)
          (places_of b (place + 1) events)) is);
    }
told_first b place event events paths (Some bank) is counted rest later =
    told_one b place event events paths bank is counted (get_or (paths bank) 0 no_leaves) refl
    (paths_of b (paths_in (place + 1) rest)) later (b == bank) refl

-- if a bank has a path for each of its accesses, the paths are reported
told_each : (b place : ℕ) (events : List Stamped) (paths : ℕ → List Leaves)
    → length (paths b) ≡ accesses_shown b events
    → AreTold b place events (paths b) (paths_of b (paths_in place (with_paths events paths)))
told_each b place [] paths counted =
    record { leaves = sym (nil_from_length (paths b) counted); stamps = refl; places = refl }
told_each b place (event ∷ events) paths counted =
    let found = oblivious event.event in
    told_first b place event events paths found refl counted (with_paths events (left_paths found paths))
    (λ left. told_each b (place + 1) events (left_paths found paths) left)

-- The paths of a bank for two stretches of events: those of the first, as many as it is accessed there, and those of
-- the second. A bank that isn't there has none.
abbrev SplitsAt : Option ℕ → List Stamped → (first second both : ℕ → List Leaves) → ℕ → Type 0
SplitsAt found events first second both b =
    (both b ≡ first b ++ second b)
    × ((length (first b) ≡ if_it_is b found + accesses_shown b events) ⊎ ((first b ≡ []) × (second b ≡ [])))

abbrev Splits : List Stamped → (first second both : ℕ → List Leaves) → ℕ → Type 0
Splits events first second both b =
    (both b ≡ first b ++ second b)
    × ((length (first b) ≡ accesses_shown b events) ⊎ ((first b ≡ []) × (second b ≡ [])))

-- the first item of a list that isn't empty, and the others
first_of : (xs ys : List Leaves) → 1 ≤ length xs → get_or (xs ++ ys) 0 no_leaves ≡ get_or xs 0 no_leaves
first_of [] ys some = absurd (omega arith)
first_of (x ∷ xs) ys some = refl

others_of : (xs ys : List Leaves) → 1 ≤ length xs → drop 1 (xs ++ ys) ≡ drop 1 xs ++ ys
others_of [] ys some = absurd (omega arith)
others_of (x ∷ xs) ys some = refl

-- the next path is one of the first stretch
next_same : (found : Option ℕ) (events : List Stamped) (first second both : ℕ → List Leaves)
    → ((b : ℕ) → SplitsAt found events first second both b) → next_of found both ≡ next_of found first
next_same None events first second both splits = refl
next_same (Some bank) events first second both splits =
    let s = splits bank in
    ⊎_elim
    (λ counted.
    let one : if_it_is bank (Some bank) ≡ 1 = ap (λ c. cond c 1 0) (eq-eqb bank bank refl) in
    ap (λ l. get_or l 0 no_leaves) s.0 ∙ first_of (first bank) (second bank) (omega (arith, counted, one)))
    (λ none.
    ap (λ l. get_or l 0 no_leaves) (s.0 ∙ ap (λ l. l ++ second bank) none.0 ∙ none.1 ∙ sym none.0))
    s.1

-- the paths that are left after the next one
left_splits : (found : Option ℕ) (events : List Stamped) (first second both : ℕ → List Leaves) (b : ℕ)
    → SplitsAt found events first second both b
    → Splits events (left_paths found first) second (left_paths found both) b
left_splits None events first second both b s =
    (s.0, ⊎_elim (λ counted. inl (omega (arith, counted))) inr s.1)
left_splits (Some bank) events first second both b s = by (b == bank) refl
  where
    by : (c : Bool) → (b == bank) ≡ c
        → Splits events (left_paths (Some bank) first) second (left_paths (Some bank) both) b
    by true same =
        let drops : (paths : ℕ → List Leaves) → left_paths (Some bank) paths b ≡ drop 1 (paths b) =
        λ paths. ap (λ c. cond c (drop 1 (paths b)) (paths b)) same in
        ⊎_elim
        (λ counted.
        let some : length (first b) ≡ 1 + accesses_shown b events =
        counted ∙ ap (λ c. cond c 1 0 + accesses_shown b events) same in (
          drops both ∙ ap (drop 1) s.0 ∙ others_of (first b) (second b) (omega (arith, some))
              ∙ ap (λ l. l ++ second b) (sym (drops first)),
          inl (ap length (drops first) ∙ omega (arith, length-drop 1 (first b), some)),
        ))
        (λ none.
        let nothing : left_paths (Some bank) first b ≡ [] = drops first ∙ ap (drop 1) none.0 in (
          drops both ∙ ap (drop 1) (s.0 ∙ ap (λ l. l ++ second b) none.0 ∙ none.1)
              ∙ sym (ap (λ l. l ++ second b) nothing ∙ none.1),
          inr (nothing, none.1),
        ))
        s.1
    by false same =
        let stays : (paths : ℕ → List Leaves) → left_paths (Some bank) paths b ≡ paths b =
        λ paths. ap (λ c. cond c (drop 1 (paths b)) (paths b)) same in (
          stays both ∙ s.0 ∙ ap (λ l. l ++ second b) (sym (stays first)),
          ⊎_elim
              (λ counted.
              let all : length (first b) ≡ 0 + accesses_shown b events =
              counted ∙ ap (λ c. cond c 1 0 + accesses_shown b events) same in
              inl (ap length (stays first) ∙ omega (arith, all)))
              (λ none. inr (stays first ∙ none.0, none.1))
              s.1,
        )

-- two stretches of events, each with its paths
with_paths-joined : (events more : List Stamped) (first second both : ℕ → List Leaves)
    → ((b : ℕ) → Splits events first second both b)
    → with_paths (events ++ more) both ≡ with_paths events first ++ with_paths more second
with_paths-joined [] more first second both splits = with_paths-same more both second (λ b.
    (splits b).0
    ∙ ap (λ l. l ++ second b)
    (⊎_elim (λ counted. nil_from_length (first b) counted) (λ none. none.0) (splits b).1))
with_paths-joined (event ∷ events) more first second both splits =
    let found = oblivious event.event in
    ap (λ leaves. with_path event leaves ++ with_paths (events ++ more) (left_paths found both))
    (next_same found events first second both splits)
    ∙ ap (λ rest. with_path event (next_of found first) ++ rest)
    (with_paths-joined events more (left_paths found first) second (left_paths found both)
    (λ b. left_splits found events first second both b (splits b)))
    ∙ sym (append_assoc (with_path event (next_of found first)) (with_paths events (left_paths found first))
    (with_paths more second))

module _ {B : Type 0} (shows : B → List ℕ → List Leaves) (each : (bank : B) (blocks : List ℕ)
    → length (shows bank blocks) ≡ length blocks) where
  -- a bank shows as many paths as its accesses are shown
  shown-counted : (b : ℕ) → 2 ≤ b → (o : Parts) (s : State) (n : ℕ) (bank : B)
      → length (shows bank (in_bank b (accesses_from o s n))) ≡ accesses_shown b (trace_from o s n)
  shown-counted b two o s n bank =
      each bank (in_bank b (accesses_from o s n)) ∙ sym (accesses-counted b two o s n)

  -- the paths that a run reports for a bank are those that the bank shows
  pub told_paths : (b : ℕ) → 2 ≤ b → (o : Parts) (s : State) (orams : List B) (n : ℕ) (bank : B)
      → oram_of orams b ≡ Some bank
      → ArePathsOf b (trace_from o s n) (shows bank (in_bank b (accesses_from o s n)))
      (paths_of b (paths_in 0 (run_shown shows o s orams n)))
  told_paths b two o s orams n bank is =
      let paths = paths_shown shows orams (accesses_from o s n) in
      let all : paths b ≡ shows bank (in_bank b (accesses_from o s n)) =
      ap (λ found. shown_of shows found (in_bank b (accesses_from o s n))) is in
      let told = told_each b 0 (trace_from o s n) paths (ap length all ∙ shown-counted b two o s n bank) in
      record { leaves = told.leaves ∙ all; stamps = told.stamps; places = told.places }

  -- oblivious banks are numbered from 2 on
  from_two : (orams : List B) (b : ℕ) (bank : B) → oram_of orams b ≡ Some bank → 2 ≤ b
  from_two orams zero bank is = absurd (let f : ◌≡◌ {A = Option B} None (Some bank) = is in cc)
  from_two orams (suc zero) bank is = absurd (let f : ◌≡◌ {A = Option B} None (Some bank) = is in cc)
  from_two orams (suc (suc i)) bank is = omega arith

  -- two consecutive runs report what one run reports, if the banks continue to show their paths
  module _ (o : Parts) (range : IsInRange o) (s : State) (shaped : IsShaped o s) (n m : ℕ) (le : n ≤ m)
      (spent : EndsAs (trace_from o s n) end.Spent) (before now : List B)
      (on : ComeBy (ShowsOn shows) before (accesses_from o s n) now) where
    abbrev pub made : List Access
    made = accesses_from o s n

    abbrev pub later : List Access
    later = accesses_from o (final_from o s n) m

    bank_splits : (b : ℕ) (old new : Option B) → oram_of before b ≡ old
        → OfBoth old new (λ x y. ShowsOn shows x (in_bank b made) y)
        → (shown_of shows old (in_bank b (accesses_from o s m))
        ≡ shown_of shows old (in_bank b made) ++ shown_of shows new (in_bank b later))
        × ((length (shown_of shows old (in_bank b made)) ≡ accesses_shown b (trace_from o s n))
        ⊎ ((shown_of shows old (in_bank b made) ≡ []) × (shown_of shows new (in_bank b later) ≡ [])))
    bank_splits b None None is shows_on = (refl, inr (refl, refl))
    bank_splits b None (Some new) is shows_on = absurd shows_on
    bank_splits b (Some old) None is shows_on = absurd shows_on
    bank_splits b (Some old) (Some new) is shows_on = (
      ap (shows old)
          (ap (in_bank b) (runs_join o range s shaped n m le spent).accesses ∙ in_bank-append b made later)
          ∙ shows_on (in_bank b later),
      inl (shown-counted b (from_two before b old is) o s n old),
    )

    pub joined_paths : run_shown shows o s before m
        ≡ run_shown shows o s before n ++ run_shown shows o (final_from o s n) now m
    joined_paths =
        ap (λ events. with_paths events (paths_shown shows before (accesses_from o s m)))
        (runs_join o range s shaped n m le spent).events
        ∙ with_paths-joined (trace_from o s n) (trace_from o (final_from o s n) m) (paths_shown shows before made)
        (paths_shown shows now later) (paths_shown shows before (accesses_from o s m))
        (λ b. bank_splits b (oram_of before b) (oram_of now b) refl (on b))
