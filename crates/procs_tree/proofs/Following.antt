-- What the program does for a file's statements mirrors what these do.
use Rattle.std.proofs.Common.{◌≡◌, ℕ, zero, suc, ◌+◌, ◌≤◌, Bool, true, false, if◌then◌else◌, List, [], ◌∷◌, ◌++◌, length, map, Option, Some, None, refl, sym, subst, arith}
use Rattle.std.specs.Prelude.{bytes_eq}
use Rattle.std.specs.Option.{option_map, option_and_then}
use Rattle.std.proofs.lemmas.List.{length-append}
use Rattle.gr_word.specs.declared.variables.Label.{Label}
use Rattle.src_tree.specs.declared.trees.Decl.{Decl}
use Rattle.src_tree.specs.Prelude.{Tree, Store, Left, Execution, variable_number, evaluated, guard_holds, scalar_set, element_set, in_turn, turn_taken, looped, loop, run_of, run_of_block}
use Rattle.src_tree.proofs.KeptByRuns.{left}
use Rattle.procs_tree.specs.Prelude.{Statement, SetVariable, SetElement, Choice, Loop, Call, Block, Nothing, Then, Procedure, naming_all, new_values, new_labels, Names, RunsOfCalls, valued, passes, with_scalar, with_element, does, does_all, called, calls_of, of_caller, one_word, Renaming, renamed, renamed_test, Inlined, Inlines, blocks_joined, inlined, inlined_all, assigned, inlined_call, inlines_of, new_name, no_name}
use Rattle.procs_tree.proofs.Mirrors.{Sizes, ArePlaces, Mirrors, Match, places_below, valued_same, passes_same, scalar_mirrors, element_mirrors, front_mirrors}
use Rattle.procs_tree.proofs.Entering.{NewNumbers, entered, labels_long, names_match}
use Rattle.src_tree.specs.Trees as plain

-- both are spent, or both are left with as many turns and with stores that mirror
pub data Alike (size : Sizes) (places : List ℕ) : Option Left → Option Left → Type 0 where
  BothSpent : Alike size places None None
  BothLeft : {a b : Left} → a.turns ≡ b.turns → Mirrors size places a.store b.store
      → Alike size places (Some a) (Some b)

-- what the second does mirrors what the first does
pub record Follows (size : Sizes) (places : List ℕ) (run other : Execution) : Type 0 where
  pub alike : (s t : Store) (turns : ℕ) → Mirrors size places s t
      → Alike size places (run (left s turns)) (other (left t turns))

alike_on : {size : Sizes} {places : List ℕ} {second other : Execution} → Follows size places second other
    → (a b : Left) → a.turns ≡ b.turns → Mirrors size places a.store b.store
    → Alike size places (second a) (other b)
alike_on {size} {places} {second} {other} f a b same m =
    subst (λ n. Alike size places (second a) (other (left b.store n))) same (f.alike a.store b.store a.turns m)

alike_then : {size : Sizes} {places : List ℕ} {second other : Execution} {r q : Option Left}
    → Follows size places second other → Alike size places r q
    → Alike size places (option_and_then second r) (option_and_then other q)
alike_then f BothSpent = BothSpent
alike_then f (BothLeft {a = a} {b = b} same m) = alike_on f a b same m

-- in sequence
pub both_follow : {size : Sizes} {places : List ℕ} {first second one other : Execution}
    → Follows size places first one → Follows size places second other
    → Follows size places (in_turn first second) (in_turn one other)
both_follow {first = first} {one = one} f g = record {
  alike = λ s t turns m. alike_then g (f.alike s t turns m);
}

either_alike : {size : Sizes} {places : List ℕ} (b c : Bool) (p q x y : Option Left) → b ≡ c
    → Alike size places p x → Alike size places q y
    → Alike size places (if b then p else q) (if c then x else y)
either_alike {size} {places} b c p q x y e f g =
    subst (λ z. Alike size places (if b then p else q) (if z then x else y)) e (by b)
  where
    by : (d : Bool) → Alike size places (if d then p else q) (if d then x else y)
    by true = f
    by false = g

-- tests that agree on stores that mirror
abbrev pub Agree : Sizes → List ℕ → (Store → Bool) → (Store → Bool) → Type 0
Agree size places test other = (s t : Store) → Mirrors size places s t → test s ≡ other t

taken_alike : {size : Sizes} {places : List ℕ} {body other rest more : Execution} → Follows size places body other
    → Follows size places rest more → (turns : ℕ) (s t : Store) → Mirrors size places s t
    → Alike size places (turn_taken body rest turns s) (turn_taken other more turns t)
taken_alike f g zero s t m = BothSpent
taken_alike f g (suc turns) s t m = (both_follow f g).alike s t turns m

looped_follow : {size : Sizes} {places : List ℕ} (test one : Store → Bool) (body other : Execution)
    → Agree size places test one → Follows size places body other → (most : ℕ)
    → Follows size places (looped test body most) (looped one other most)
unfolding looped
looped_follow test one body other agree f zero = record {
  alike = λ s t turns m. either_alike (test s) (one t) _ _ _ _ (agree s t m) BothSpent (BothLeft refl m);
}
looped_follow test one body other agree f (suc most) =
    let rest = looped_follow test one body other agree f most in
    record {
      alike = λ s t turns m.
          either_alike (test s) (one t) _ _ _ _ (agree s t m) (taken_alike f rest turns s t m) (BothLeft refl m);
    }

pub loop_follow : {size : Sizes} {places : List ℕ} (test one : Store → Bool) (body other : Execution)
    → Agree size places test one → Follows size places body other
    → Follows size places (loop test body) (loop one other)
loop_follow test one body other agree f = record {
  alike = λ s t turns m. (looped_follow test one body other agree f turns).alike s t turns m;
}

-- a single statement, and two blocks
then_nothing : (decls : List Decl) (r : Option Left) → option_and_then (run_of_block decls plain.Nothing) r ≡ r
then_nothing decls None = refl
then_nothing decls (Some a) = refl

single_follow : {size : Sizes} {places : List ℕ} {run : Execution} (decls : List Decl) (s : plain.Statement)
    → Follows size places run (run_of decls s)
    → Follows size places run (run_of_block decls (plain.Then s plain.Nothing))
single_follow {size} {places} {run} decls x f = record {
  alike = λ s t turns m.
      subst (λ r. Alike size places (run (left s turns)) r) (sym (then_nothing decls (run_of decls x (left t turns))))
      (f.alike s t turns m);
}

joined_runs : (decls : List Decl) (a b : plain.Block) (before : Left)
    → run_of_block decls (blocks_joined a b) before ≡ in_turn (run_of_block decls a) (run_of_block decls b) before
joined_runs decls plain.Nothing b before = refl
joined_runs decls (plain.Then s rest) b before = by (run_of decls s before) (joined_runs decls rest b)
  where
    by : (r : Option Left)
        → ((after : Left) → run_of_block decls (blocks_joined rest b) after
        ≡ in_turn (run_of_block decls rest) (run_of_block decls b) after)
        → option_and_then (run_of_block decls (blocks_joined rest b)) r
        ≡ option_and_then (run_of_block decls b) (option_and_then (run_of_block decls rest) r)
    by None same = refl
    by (Some after) same = same after

joined_follow : {size : Sizes} {places : List ℕ} {run : Execution} (decls : List Decl) (a b : plain.Block)
    → Follows size places run (in_turn (run_of_block decls a) (run_of_block decls b))
    → Follows size places run (run_of_block decls (blocks_joined a b))
joined_follow {size} {places} {run} decls a b f = record {
  alike = λ s t turns m.
      subst (λ r. Alike size places (run (left s turns)) r) (sym (joined_runs decls a b (left t turns)))
      (f.alike s t turns m);
}

-- what a call of a name is replaced by mirrors it
pub record CallsFollow (size : Sizes) (decls : List Decl) (calls : RunsOfCalls) (inlines : Inlines) : Type 0 where
  pub follows : (name : List ℕ) (names : Names) (to : Renaming) (arguments : List Tree) (next : ℕ) (places : List ℕ)
      → ArePlaces size next places → Match size decls places names to
      → next + length (inlines name to arguments next).labels ≤ size.new
      → Follows size places (calls name names arguments)
      (run_of_block decls (inlines name to arguments next).block)

mutual
  statement_follows : {size : Sizes} {decls : List Decl} (calls : RunsOfCalls) (inlines : Inlines)
      → CallsFollow size decls calls inlines → (names : Names) (to : Renaming) (s : Statement) (next : ℕ)
      (places : List ℕ) → ArePlaces size next places → Match size decls places names to
      → next + length (inlined inlines to s next).labels ≤ size.new
      → Follows size places (does calls names s) (run_of_block decls (inlined inlines to s next).block)
  statement_follows {size} {decls} calls inlines known names to (SetVariable x e) next places are is few =
      single_follow decls (plain.SetVariable (to x) (renamed to e)) (record {
        alike = λ s t turns m.
            BothLeft refl
            (subst (λ v. Mirrors size places (with_scalar s (names x) (valued names s e))
            (scalar_set t (variable_number decls (to x)) v)) (valued_same decls names to is m e)
            (scalar_mirrors are (omega arith) m (names x) (variable_number decls (to x)) (is.stands x)
            (valued names s e)));
      })
  statement_follows {size} {decls} calls inlines known names to (SetElement x i e) next places are is few =
      single_follow decls (plain.SetElement (to x) (renamed to i) (renamed to e)) (record {
        alike = λ s t turns m.
            BothLeft refl
            (subst (λ v. Mirrors size places (with_element s (names x) (valued names s i) (valued names s e))
            (element_set t (variable_number decls (to x)) (evaluated decls t (renamed to i)) v))
            (valued_same decls names to is m e)
            (subst (λ n. Mirrors size places (with_element s (names x) (valued names s i) (valued names s e))
            (element_set t (variable_number decls (to x)) n (valued names s e))) (valued_same decls names to is m i)
            (element_mirrors are (omega arith) m (names x) (variable_number decls (to x)) (is.stands x)
            (valued names s i) (valued names s e))));
      })
  statement_follows {size} {decls} calls inlines known names to (Choice test a b) next places are is few =
      let one = (inlined_all inlines to a next).labels in
      let two = (inlined_all inlines to b (next + length one)).labels in
      let all = length-append one two in
      let first = block_follows calls inlines known names to a next places are is (omega (arith, few, all)) in
      let second = block_follows calls inlines known names to b (next + length one) places
      (places_below (next + length one) (omega arith) are) is (omega (arith, few, all)) in
      single_follow decls (plain.Choice (renamed_test to test) (inlined_all inlines to a next).block
      (inlined_all inlines to b (next + length one)).block) (record {
        alike = λ s t turns m.
            either_alike (passes names test s) (guard_holds decls t (renamed_test to test)) _ _ _ _
            (passes_same decls names to is m test) (first.alike s t turns m) (second.alike s t turns m);
      })
  statement_follows {size} {decls} calls inlines known names to (Loop test a) next places are is few =
      single_follow decls (plain.Loop (renamed_test to test) (inlined_all inlines to a next).block)
      (loop_follow (passes names test) (λ store. guard_holds decls store (renamed_test to test)) _ _
      (λ s t m. passes_same decls names to is m test)
      (block_follows calls inlines known names to a next places are is few))
  statement_follows calls inlines known names to (Call name arguments) next places are is few =
      known.follows name names to arguments next places are is few

  pub block_follows : {size : Sizes} {decls : List Decl} (calls : RunsOfCalls) (inlines : Inlines)
      → CallsFollow size decls calls inlines → (names : Names) (to : Renaming) (block : Block) (next : ℕ)
      (places : List ℕ) → ArePlaces size next places → Match size decls places names to
      → next + length (inlined_all inlines to block next).labels ≤ size.new
      → Follows size places (does_all calls names block) (run_of_block decls (inlined_all inlines to block next).block)
  block_follows calls inlines known names to Nothing next places are is few =
      record { alike = λ s t turns m. BothLeft refl m }
  block_follows {size} {decls} calls inlines known names to (Then s rest) next places are is few =
      let one = (inlined inlines to s next).labels in
      let two = (inlined_all inlines to rest (next + length one)).labels in
      let all = length-append one two in
      joined_follow decls (inlined inlines to s next).block (inlined_all inlines to rest (next + length one)).block
      (both_follow
      (statement_follows calls inlines known names to s next places are is (omega (arith, few, all)))
      (block_follows calls inlines known names to rest (next + length one) places
      (places_below (next + length one) (omega arith) are) is (omega (arith, few, all))))

-- back in the caller's variables
left_alike : {size : Sizes} {r q : Option Left} (places more : List ℕ) (count : ℕ) → count ≡ length places
    → Alike size (places ++ more) r q → Alike size places (option_map (of_caller count) r) q
left_alike places more count is BothSpent = BothSpent
left_alike places more count is (BothLeft same m) = BothLeft same (front_mirrors places more count is m)

abbrev call_values : Procedure → List Tree → List Tree
call_values p arguments = new_values p.parameters arguments p.locals

abbrev call_labels : Procedure → List Tree → List Label
call_labels p arguments = new_labels p.parameters arguments p.locals

abbrev own_names : Procedure → Renaming → List Tree → ℕ → Renaming
own_names p to arguments next = naming_all new_name no_name to next p.parameters arguments p.locals

abbrev inner : Inlines → Procedure → Renaming → List Tree → ℕ → Inlined
inner inlines p to arguments next =
    inlined_all inlines (own_names p to arguments next) p.body (next + length (call_labels p arguments))

call_alike : {size : Sizes} {decls : List Decl} (calls : RunsOfCalls) (inlines : Inlines) → NewNumbers size decls
    → CallsFollow size decls calls inlines → (p : Procedure) (names : Names) (to : Renaming) (arguments : List Tree)
    (next : ℕ) (places : List ℕ) → ArePlaces size next places → Match size decls places names to
    → next + length (call_labels p arguments ++ (inner inlines p to arguments next).labels) ≤ size.new
    → (s t : Store) (turns : ℕ) → Mirrors size places s t
    → Alike size places (called calls p names arguments (left s turns))
    (in_turn (run_of_block decls (assigned to next (call_values p arguments)))
    (run_of_block decls (inner inlines p to arguments next).block) (left t turns))
call_alike {size} {decls} calls inlines numbers known p names to arguments next places are is few s t turns m =
    let long = labels_long p.parameters arguments p.locals in
    let all = length-append (call_labels p arguments) (inner inlines p to arguments next).labels in
    let e = entered decls numbers names to is s t m next are turns (call_values p arguments)
    (omega (arith, few, all, long)) in
    let agree = names_match decls numbers names to p.parameters arguments p.locals next (length s)
    e.matches e.at (omega (arith, few, all, long)) in
    let f = block_follows calls inlines known
    (naming_all (λ k. Some k) None names (length s) p.parameters arguments p.locals)
    (own_names p to arguments next) p.body (next + length (call_labels p arguments)) (places ++ e.more)
    (places_below (next + length (call_labels p arguments)) (omega (arith, long)) e.are) agree
    (omega (arith, few, all)) in
    subst (λ r. Alike size places (called calls p names arguments (left s turns))
    (option_and_then (run_of_block decls (inner inlines p to arguments next).block) r)) (sym e.run)
    (left_alike places e.more (length s) m.long
    (f.alike (s ++ map (one_word names s) (call_values p arguments)) e.after turns e.mirrors))

called_follows : {size : Sizes} {decls : List Decl} (calls : RunsOfCalls) (inlines : Inlines) → NewNumbers size decls
    → CallsFollow size decls calls inlines → (p : Procedure) (names : Names) (to : Renaming) (arguments : List Tree)
    (next : ℕ) (places : List ℕ) → ArePlaces size next places → Match size decls places names to
    → next + length (inlined_call inlines p to arguments next).labels ≤ size.new
    → Follows size places (called calls p names arguments)
    (run_of_block decls (inlined_call inlines p to arguments next).block)
called_follows {size} {decls} calls inlines numbers known p names to arguments next places are is few =
    joined_follow decls (assigned to next (call_values p arguments)) (inner inlines p to arguments next).block
    (record { alike = call_alike calls inlines numbers known p names to arguments next places are is few })

-- calls of procedures
pub calls_follow : {size : Sizes} {decls : List Decl} → NewNumbers size decls → (procedures : List Procedure)
    → CallsFollow size decls (calls_of procedures) (inlines_of procedures)
calls_follow numbers [] =
    record { follows = λ name names to arguments next places are is few. record { alike = λ s t turns m. BothLeft refl m } }
calls_follow {size} {decls} numbers (p ∷ earlier) =
    let known = calls_follow numbers earlier in
    record {
      follows = λ name names to arguments next places are is few.
          by known name names to arguments next places are is (bytes_eq name p.name) few;
    }
  where
    by : CallsFollow size decls (calls_of earlier) (inlines_of earlier) → (name : List ℕ) (names : Names)
        (to : Renaming) (arguments : List Tree) (next : ℕ) (places : List ℕ) → ArePlaces size next places
        → Match size decls places names to → (b : Bool)
        → next + length (if b then inlined_call (inlines_of earlier) p to arguments next
        else inlines_of earlier name to arguments next).labels ≤ size.new
        → Follows size places
        (λ before. if b then called (calls_of earlier) p names arguments before
        else calls_of earlier name names arguments before)
        (run_of_block decls (if b then inlined_call (inlines_of earlier) p to arguments next
        else inlines_of earlier name to arguments next).block)
    by known name names to arguments next places are is true few =
        called_follows (calls_of earlier) (inlines_of earlier) numbers known p names to arguments next places are is few
    by known name names to arguments next places are is false few =
        known.follows name names to arguments next places are is few
