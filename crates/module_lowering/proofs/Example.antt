-- The example of `module_tree`, lowered to the core and executed there; and all premises of the law hold of it.
use Rattle.std.proofs.Common.{◌≡◌, ℕ, zero, suc, ◌+◌, ◌<◌, ◌≤◌, length, ℤ, pos, Bool, true, false, ◌||◌, List, [], ◌∷◌, Some, None, inl, refl, sym, subst, arith}
use Rattle.std.specs.Prelude.{slice_index_or, ◌-◌, ◌==◌, not}
use Rattle.std.specs.Option.{option_map}
use Rattle.std.specs.Int.{int_wrap}
use Rattle.std.proofs.lemmas.Bool.{eqb-true}
use Rattle.gr_word.specs.declared.variables.Label.TheVariants.{Secret}
use Rattle.src_tree.specs.declared.trees.Decl.{Decl}
use Rattle.src_tree.specs.Prelude.{Store, words_of_number, variable_number, looped, meaning}
use Rattle.module_tree.specs.Operators.{Machine}
use Rattle.module_tree.specs.FirstWords.{known_at}
use Rattle.module_tree.specs.Meaning.{module_meaning}
use Rattle.module_tree.proofs.Example.{example, example_items, example_functions, number, role}
use Rattle.module_tree.proofs.TestedBelow.{all_below, tested}
use Rattle.module_calls.specs.Inlining.{inlines_at}
use Rattle.module_calls.specs.Rules.{ObeysRules, pure_at}
use Rattle.module_calls.specs.FirstAssignments.{before_start}
use Rattle.flat_tree.specs.Trees.{Term, Number, Scalar, Element, Operation, Statement}
use Rattle.flat_core.specs.Promise.{Sized}
use Rattle.module_lowering.specs.Lowering.{lowered_module}
use Rattle.module_lowering.specs.Naming.{single_at, SetsScalars}
use Rattle.module_lowering.specs.Shape.{NamesTheRest}
use Rattle.module_lowering.specs.Promise.{Computes, Declares, locals_of}
use Rattle.module_lowering.proofs.Lowered.{lowers}

-- all that the core lacks becomes a variable
needs_name : Term → Bool
needs_name (Number z) = false
needs_name (Scalar k) = false
needs_name (Element k i) = false
needs_name (Operation (Machine op) a b) = false
needs_name e = true

plain : NamesTheRest needs_name
unfolding needs_name
plain (Number z) e = tt
plain (Scalar k) e = tt
plain (Element k i) e = tt
plain (Operation (Machine op) a b) e = tt
plain e is = absurd (let f : true ≡ false = is in cc)

-- any statement may be written twice
always_light : Statement → Bool
always_light s = true

declared : ℕ → Decl
declared k = record { name = k ∷ []; label = Secret; length = None }

decls : List Decl
unfolding declared
decls =
    declared 0 ∷ declared 1 ∷ declared 2 ∷ declared 3 ∷ declared 4 ∷ declared 5 ∷ declared 6 ∷ declared 7 ∷ declared 8
    ∷ declared 9 ∷ declared 10 ∷ declared 11 ∷ declared 12 ∷ declared 13 ∷ declared 14 ∷ declared 15 ∷ declared 16
    ∷ declared 17 ∷ declared 18 ∷ declared 19 ∷ []

named : ℕ → List ℕ
named k = k ∷ []

scalar : List ℤ
scalar = pos 0 ∷ []

-- zeros in all variables
start : Store
unfolding scalar
start =
    scalar ∷ (pos 0 ∷ pos 0 ∷ pos 0 ∷ pos 0 ∷ []) ∷ scalar ∷ (pos 0 ∷ pos 0 ∷ pos 0 ∷ pos 0 ∷ [])
    ∷ scalar ∷ scalar ∷ scalar ∷ scalar ∷ scalar ∷ scalar ∷ scalar ∷ scalar
    ∷ scalar ∷ scalar ∷ scalar ∷ scalar ∷ scalar ∷ scalar ∷ scalar ∷ scalar ∷ []

outputs : Store → List (List ℤ)
outputs store = slice_index_or store 2 [] ∷ slice_index_or store 3 [] ∷ []

result : option_map outputs (meaning (lowered_module always_light needs_name decls named example (7 ∷ [])) start 4)
    ≡ Some ((pos 10 ∷ []) ∷ (pos 8 ∷ pos 3 ∷ pos 10 ∷ pos 5 ∷ []) ∷ [])
unfolding int_wrap known_at inlines_at looped example example_items example_functions number role needs_name always_light decls declared named start scalar outputs
result = refl

spent : option_map outputs (meaning (lowered_module always_light needs_name decls named example (7 ∷ [])) start 3) ≡ None
unfolding int_wrap known_at inlines_at looped example example_items example_functions number role needs_name always_light decls declared named start scalar outputs
spent = refl

-- the premises
obeys : ObeysRules example
unfolding example example_items example_functions number role pure_at
obeys = refl

sets : SetsScalars example
unfolding example example_items example_functions number role
sets = refl

few : locals_of always_light needs_name example (7 ∷ []) ≡ 8
unfolding inlines_at known_at example example_items example_functions number role needs_name always_light
few = refl

is_named : ℕ → Bool
is_named p = variable_number decls (named p) == p

all_named : all_below is_named 20 ≡ true
unfolding is_named decls declared named
all_named = refl

declares : Declares decls named 4 8
unfolding is_named
declares p lt = eqb-true (variable_number decls (named p)) p (tested is_named 20 p (omega (arith, lt)) all_named)

is_single : ℕ → Bool
is_single p = length (words_of_number start p) == 1

is_fit : ℕ → Bool
is_fit k = not (single_at example_items k) || is_single k

all_fit : all_below is_fit 4 ≡ true
unfolding is_fit is_single example_items number role start scalar
all_fit = refl

single : (k : ℕ) → is_fit k ≡ true → single_at example_items k ≡ true → length (words_of_number start k) ≡ 1
unfolding is_fit is_single
single k fits is = eqb-true (length (words_of_number start k)) 1 (by (single_at example_items k) (is_single k) fits is)
  where
    by : (a b : Bool) → (not a || b) ≡ true → a ≡ true → b ≡ true
    by true b e f = e
    by false b e f = absurd (let g : false ≡ true = f in cc)

is_local : ℕ → Bool
is_local i = length (words_of_number start (4 + i)) == 1

all_local : all_below is_local 16 ≡ true
unfolding is_local start scalar
all_local = refl

local : (p : ℕ) → 4 ≤ p → p < 4 + 8 → length (words_of_number start p) ≡ 1
unfolding is_local
local p le lt =
    let e : 4 + (p - 4) ≡ p = omega (arith, le) in
    let one = eqb-true (length (words_of_number start (4 + (p - 4)))) 1
    (tested is_local 16 (p - 4) (omega (arith, le, lt)) all_local) in
    subst (λ q. length (words_of_number start q) ≡ 1) e one

room : Sized 4 8 (single_at example_items) start
unfolding start scalar
room = record {
  long = omega arith;
  scalars = λ k lt is. single k (tested is_fit 4 k lt all_fit) is;
  locals = local;
}

begins : (k : ℕ) → k < 4 → words_of_number start k ≡ before_start example_items (λ k. None) k
unfolding start scalar known_at example_items number role
begins zero lt = refl
begins (suc zero) lt = refl
begins (suc (suc zero)) lt = refl
begins (suc (suc (suc zero))) lt = refl
begins (suc (suc (suc (suc k)))) lt = absurd (omega (arith, lt))

by_law : (turns : ℕ) → Computes 4 (module_meaning example (7 ∷ []) (λ k. None) turns)
    (meaning (lowered_module always_light needs_name decls named example (7 ∷ [])) start turns)
unfolding example example_items
by_law turns =
    lowers always_light needs_name decls named example (7 ∷ []) plain obeys sets
    (subst (Declares decls named 4) (sym few) declares) (λ k. None) turns start (λ k. inl refl)
    (record { same = begins }) (subst (λ most. Sized 4 most (single_at example_items) start) (sym few) room)
