-- An inlined call does what the call does, at each depth of nested calls.
use Rattle.std.proofs.Common.{◌≡◌, ℕ, zero, suc, ◌+◌, ◌<◌, ◌≤◌, Bool, true, false, if◌then◌else◌, ℤ, pos, List, [], ◌∷◌, length, Option, Some, None, refl, sym, ap, ◌∙◌, subst, arith}
use Rattle.std.specs.Prelude.{bytes_eq}
use Rattle.std.specs.Option.{option_map, unwrap_or}
use Rattle.module_tree.specs.Memory.{Memory, with_scalar, with_words}
use Rattle.module_tree.specs.Trees.{Parameter, OfWord, OfArray, Function, Module}
use Rattle.module_tree.specs.Values.{LocalVariable, Names, Argument, Called}
use Rattle.module_tree.specs.Meaning.{Ended, run_of_block, frame_of, names_of, arrays_in, left_by, called, function_named, calls_at}
use Rattle.module_tree.specs.FirstWords.{number_named}
use Rattle.flat_tree.specs.Trees.{Term}
use Rattle.flat_tree.specs.Meaning.{State, value, restored, run}
use Rattle.flat_tree.specs.Keeps.{Agree}
use Rattle.flat_tree.proofs.Agreeing.{agree_same, agree_then, agree_new, read_here, read_other}
use Rattle.module_calls.specs.Inlining.{Place, Passed, block, set_first, with_parameters, passed_arrays, body_of, inlines_at}
use Rattle.module_calls.specs.Fine.{FineBlock, FineModule}
use Rattle.module_calls.proofs.Places.{Ordered, Holds, BelowIf, NameItems, outer_from, outer_then, holds_above}
use Rattle.module_calls.proofs.Coming.{AreGiven, CallComes, NoCall, OneCall, CallsFollow, ArePure}
use Rattle.module_calls.proofs.Ending.{state, result_words, Ends, NoEnd, OneEnd}
use Rattle.module_calls.proofs.Statements.{block_ends}
use Rattle.flat_tree.specs.Trees as flat

call_restored : {all r k : ℕ} {l : Memory} (w : List ℤ) (c : Option Called) (q : Option State) → all ≤ r → r < k
    → CallComes all r l c q → CallComes all r l c (option_map (restored k w) q)
call_restored w None None le lt NoCall = NoCall
call_restored w None (Some s) le lt e = elim e [ ]
call_restored w (Some c) None le lt e = elim e [ ]
call_restored {k = k} w (Some c) (Some s) le lt (OneCall same a o is) =
    let other : (j : ℕ) → j < k → s.memory j ≡ with_words s.memory k w j =
    λ j less. sym (read_other s.memory k j w (λ e. omega (arith, less, e))) in
    OneCall same (agree_then a (agree_new s.memory k w (omega (arith, le, lt))))
    (record { same = λ j more less. o.same j more less ∙ other j (omega (arith, less, lt)) })
    (sym (other _ lt) ∙ is)

-- the memory at the start of a function's body: its parameters have the words of the arguments
pub record Entered (all r n : ℕ) (memory l h : Memory) (frame : List LocalVariable) (places : List Place) : Type 0 where
  pub agree : Agree all memory h
  pub before : Agree r l h
  pub result : h r ≡ pos 0 ∷ []
  pub holds : Holds h frame places
  pub order : Ordered r n places
  pub behind : r < n

entered_first : {all r : ℕ} {memory l : Memory} (c : Option Called) (turns : ℕ) → all ≤ r → (x : List ℕ) (e : Term) (word : ℤ)
    (frame : List LocalVariable) (body : List Place → ℕ → flat.Statement)
    → ((h : Memory) → Agree r l h → value h e ≡ word)
    → ((places : List Place) (k : ℕ) (j : Memory)
    → Entered all r k memory l j (record { name = x; word = word } ∷ frame) places
    → CallComes all r l c (run (body places k) j turns))
    → (places : List Place) (k : ℕ) (j : Memory) → Entered all r k memory l j frame places
    → CallComes all r l c (run (set_first x e body places k) j turns)
entered_first {all = all} {r = r} {l = l} c turns le x e word frame body is go places k j enter =
    let after = enter.behind in
    let other : (i : ℕ) → i < k → j i ≡ with_scalar j k word i =
    λ i less. sym (read_other j k i (word ∷ []) (λ same. omega (arith, less, same))) in
    subst (λ v. CallComes all r l c
    (option_map (restored k (j k)) (run (body (record { name = x; number = k } ∷ places) (k + 1)) (with_scalar j k v) turns)))
    (sym (is j enter.before))
    (call_restored (j k) c _ le after
    (go (record { name = x; number = k } ∷ places) (k + 1) (with_scalar j k word) (record {
      agree = agree_then enter.agree (agree_new j k (word ∷ []) (omega (arith, le, after)));
      before = agree_then enter.before (agree_new j k (word ∷ []) (omega (arith, after)));
      result = sym (other r after) ∙ enter.result;
      holds =
          (refl, read_here j k (word ∷ []), holds_above frame places le enter.order (λ i more less. other i less) enter.holds);
      order = (after, omega arith, enter.order);
      behind = omega (arith, after);
    })))

parameters_enter : {all r : ℕ} {memory l : Memory} (c : Option Called) (turns : ℕ) → all ≤ r → (ps : List Parameter)
    (arguments : List Argument) (list : List Passed)
    → ((h : Memory) → Agree r l h → AreGiven all arguments list h) → (n : ℕ) (body : List Place → ℕ → flat.Statement)
    (h : Memory) → Entered all r n memory l h [] []
    → ((places : List Place) (k : ℕ) (j : Memory) → Entered all r k memory l j (frame_of ps arguments) places
    → CallComes all r l c (run (body places k) j turns))
    → CallComes all r l c (run (with_parameters ps list n body) h turns)
parameters_enter c turns le [] arguments list good n body h e go = go [] n h e
parameters_enter c turns le (OfWord label x ∷ ps) [] [] good n body h e go =
    parameters_enter c turns le ps [] [] good n (set_first x (flat.Number (pos 0)) body) h e
    (entered_first c turns le x (flat.Number (pos 0)) (pos 0) (frame_of ps []) body (λ j b. refl) go)
parameters_enter c turns le (OfArray x ∷ ps) [] [] good n body h e go =
    parameters_enter c turns le ps [] [] good n body h e go
parameters_enter {l = l} c turns le (p ∷ ps) [] (a ∷ list) good n body h e go = absurd (good l (agree_same _ l))
parameters_enter {l = l} c turns le (p ∷ ps) (a ∷ arguments) [] good n body h e go = absurd (good l (agree_same _ l))
parameters_enter c turns le (OfWord label x ∷ ps) (a ∷ arguments) (p ∷ list) good n body h e go =
    parameters_enter c turns le ps arguments list (λ j b. (good j b).3) n (set_first x p.term body) h e
    (entered_first c turns le x p.term a.word (frame_of ps arguments) body (λ j b. (good j b).0) go)
parameters_enter c turns le (OfArray x ∷ ps) (a ∷ arguments) (p ∷ list) good n body h e go =
    parameters_enter c turns le ps arguments list (λ j b. (good j b).3) n body h e go

arrays_same : (all : ℕ) (h : Memory) (arguments : List Argument) (list : List Passed) → AreGiven all arguments list h
    → arrays_in arguments ≡ passed_arrays list
arrays_same all h [] [] given = refl
arrays_same all h [] (p ∷ list) given = absurd given
arrays_same all h (a ∷ arguments) [] given = absurd given
arrays_same all h (a ∷ arguments) (p ∷ list) given =
    ap (λ o. o ∷ arrays_in arguments) given.1 ∙ ap (λ os. p.array ∷ os) (arrays_same all h arguments list given.3)

names_below : {all : ℕ} (names : Names) → NameItems all names → (h : Memory) (ps : List Parameter)
    (arguments : List Argument) (list : List Passed) → AreGiven all arguments list h → (x : List ℕ)
    → BelowIf all (names_of names ps (passed_arrays list) x)
names_below names items h [] arguments list given x = items.below x
names_below names items h (OfWord label y ∷ ps) [] [] given x = items.below x
names_below names items h (OfArray y ∷ ps) [] [] given x = items.below x
names_below names items h (p ∷ ps) [] (a ∷ list) given x = absurd given
names_below names items h (p ∷ ps) (a ∷ arguments) [] given x = absurd given
names_below names items h (OfWord label y ∷ ps) (a ∷ arguments) (p ∷ list) given x =
    names_below names items h ps arguments list given.3 x
names_below {all = all} names items h (OfArray y ∷ ps) (a ∷ arguments) (p ∷ list) given x =
    by (bytes_eq x y) given.2 (names_below names items h ps arguments list given.3 x)
  where
    by : (b : Bool) → BelowIf all p.array → BelowIf all (names_of names ps (passed_arrays list) x)
        → BelowIf all (if b then p.array else names_of names ps (passed_arrays list) x)
    by true here rest = here
    by false here rest = rest

-- the end of a body is the end of the call
body_ends : {all r : ℕ} {places : List Place} {l h : Memory} {may : Bool} (x : Option Ended) (q : Option State)
    → all ≤ r → Agree r l h → h r ≡ pos 0 ∷ [] → Ends all r places h may x q → CallComes all r l (left_by x) q
body_ends None None le a zero_first NoEnd = NoCall
body_ends None (Some s) le a zero_first e = elim e [ ]
body_ends (Some x) None le a zero_first e = elim e [ ]
body_ends {all = all} {r = r} {h = h} (Some x) (Some s) le a zero_first (OneEnd turns agree own outer result never) =
    OneCall turns agree (outer_then (outer_from all r a) outer) (by x.returned result)
  where
    by : (o : Option ℤ) → s.memory r ≡ result_words o (h r) → s.memory r ≡ unwrap_or o (pos 0) ∷ []
    by None is = is ∙ zero_first
    by (Some word) is = is

module _ (sizes : ℕ → ℕ) (m : Module) (pure : List ℕ → Bool) (known : NameItems (length m.items) (number_named m.items))
    (fine : FineModule pure m)
    (are_pure : (depth : ℕ) → ArePure (length m.items) (calls_at sizes m depth) pure) where
  function_follows : (depth : ℕ) → CallsFollow (length m.items) (calls_at sizes m depth) (inlines_at sizes m depth)
      → (o : Option Function) → ((f : Function) → o ≡ Some f → FineBlock pure f.body)
      → (arguments : List Argument) (list : List Passed) (r : ℕ) (memory l : Memory) (turns : ℕ) → length m.items ≤ r
      → Agree (length m.items) memory l → ((h : Memory) → Agree r l h → AreGiven (length m.items) arguments list h)
      → CallComes (length m.items) r l (called sizes (number_named m.items) (calls_at sizes m depth) o arguments memory turns)
      (run (body_of sizes (number_named m.items) (inlines_at sizes m depth) o list r) (with_scalar l r (pos 0)) turns)
  function_follows depth follow None all_fine arguments list r memory l turns le a good =
      OneCall refl (agree_then a (agree_new l r (pos 0 ∷ []) le))
      (record { same = λ k more less. sym (read_other l r k (pos 0 ∷ []) (λ same. omega (arith, less, same))) })
      (read_here l r (pos 0 ∷ []))
  function_follows depth follow (Some f) all_fine arguments list r memory l turns le a good =
      let names = names_of (number_named m.items) f.parameters (passed_arrays list) in
      let start = with_scalar l r (pos 0) in
      let right_side = called sizes (number_named m.items) (calls_at sizes m depth) (Some f) arguments memory turns in
      parameters_enter right_side turns le f.parameters arguments list good (r + 1)
      (λ places n. block sizes (inlines_at sizes m depth) names r places f.body n) start
      (record {
        agree = agree_then a (agree_new l r (pos 0 ∷ []) le);
        before = agree_new l r (pos 0 ∷ []) (omega arith);
        result = read_here l r (pos 0 ∷ []);
        holds = tt;
        order = tt;
        behind = omega arith;
      })
      (λ places k j enter.
      subst (λ arrays. CallComes (length m.items) r l
      (left_by (run_of_block sizes (calls_at sizes m depth) (names_of (number_named m.items) f.parameters arrays) f.body
      (state (frame_of f.parameters arguments) memory turns)))
      (run (block sizes (inlines_at sizes m depth) names r places f.body k) j turns))
      (sym (arrays_same (length m.items) l arguments list (good l (agree_same _ l))))
      (body_ends _ _ le enter.before enter.result
      (block_ends (length m.items) r sizes (calls_at sizes m depth) (inlines_at sizes m depth) names pure
      (record { below = names_below (number_named m.items) known l f.parameters arguments list (good l (agree_same _ l)) })
      follow (are_pure depth) le places f.body (all_fine f refl) k enter.behind enter.order
      (frame_of f.parameters arguments) memory j turns (record { agree = enter.agree; holds = enter.holds }))))

  pub calls_follow : (depth : ℕ) → CallsFollow (length m.items) (calls_at sizes m depth) (inlines_at sizes m depth)
  unfolding calls_at inlines_at
  calls_follow zero = record {
    follows = λ f arguments list r memory l turns le a good.
        OneCall refl (agree_then a (agree_new l r (pos 0 ∷ []) le))
        (record { same = λ k more less. sym (read_other l r k (pos 0 ∷ []) (λ same. omega (arith, less, same))) })
        (read_here l r (pos 0 ∷ []));
  }
  calls_follow (suc depth) =
      let before = calls_follow depth in
      record {
        follows = λ f arguments list r memory l turns le a good.
            function_follows depth before (function_named m.functions f) (λ g is. fine.fine f g is) arguments list r memory l
            turns le a good;
      }
