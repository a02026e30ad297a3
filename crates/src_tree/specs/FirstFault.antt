-- The first error of a program: errors of declarations, then of statements in the order of their first tokens, then the
-- limits (this project's profile).
use Rattle.std.specs.Prelude.{◌≡◌, ℕ, ◌+◌, ◌<◌, ◌-◌, ◌^◌, nat_le, nat_lt, min, Bool, true, false, not, ◌&&◌, ◌||◌, List, [], ◌∷◌, ◌++◌, length, slice_index_or, Option, Some, None, is_some}
use Rattle.std.specs.Option.{option_or}
use Rattle.gr_word.specs.declared.variables.Label.{Label}
use Rattle.gr_word.specs.declared.variables.Label.TheVariants.{Public}
use Rattle.gr_word.specs.declared.variables.Shape.{Shape}
use Rattle.gr_word.specs.declared.variables.Shape.TheVariants.{Scalar, Array}
use Rattle.src_tree.specs.declared.trees.Decl.{Decl}
use Rattle.src_tree.specs.Heights.{height_of}
use Rattle.src_tree.specs.Trees.{Tree, Number, Variable, Element, Operation, Test, Statement, SetVariable, SetElement, Choice, Loop, Source}
use Rattle.src_tree.specs.declared.faults.TypeError.{TypeError}
use Rattle.src_tree.specs.declared.faults.TypeError.TheVariants.{TwiceDeclared, Undeclared, WrongShape, FlowToPublic, SecretIndexOfPublic, SecretGuardOfLoop, LoopInSecret, Limit}
use Rattle.src_tree.specs.declared.faults.Which.TheVariants.{Variables, ArrayLength, TotalWords, Height, Weight}
use Rattle.src_tree.specs.Contexts.{Context, context_of}
use Rattle.src_tree.specs.Labels.{higher, secret_label, label_at, label_of, label_of_test}
use Rattle.src_tree.specs.Statements.{in_order}
use Rattle.src_tree.specs.Limits.{max_variables, max_length, max_words, max_height, max_weight, words_of, weight_of}

-- a place is reported as 2^32 - 1 if it is greater, and the number of a limit as 2^64 - 1
abbrev pub shown_place : ℕ → ℕ
shown_place n = min n (2 ^ 32 - 1)

abbrev pub shown_number : ℕ → ℕ
shown_number n = min n (2 ^ 64 - 1)

-- the first of two errors, or the second if there is no first one
infixr 5 ◌or_else◌
abbrev pub ◌or_else◌ : Option TypeError → Option TypeError → Option TypeError
first or_else second = option_or first second

-- an error if a test is true
abbrev pub where_true : Bool → TypeError → Option TypeError
where_true true e = Some e
where_true false e = None

-- the first declaration whose name was declared before, by its number
abbrev pub twice_fault : List Decl → List Decl → Option TypeError
twice_fault before [] = None
twice_fault before (d ∷ ds) =
    where_true (is_some (context_of before d.name)) (TwiceDeclared (shown_place (length before)))
    or_else twice_fault (before ++ d ∷ []) ds

abbrev pub same_shape : Shape → Shape → Bool
same_shape Scalar Scalar = true
same_shape Scalar Array = false
same_shape Array Scalar = false
same_shape Array Array = true

-- the error of a name in statement n that should be declared with this shape
-- Rule: source/shape.
abbrev pub kind_fault : ℕ → Shape → Option (Label × Shape) → Option TypeError
kind_fault n shape None = Some (Undeclared (shown_place n))
kind_fault n shape (Some kind) = where_true (not (same_shape kind.1 shape)) (WrongShape (shown_place n))

abbrev pub use_fault : Context → ℕ → Shape → List ℕ → Option TypeError
use_fault known n shape name = kind_fault n shape (known name)

-- the first error of the names of an expression, in the order of the text
-- Rule: source/undeclared.
abbrev pub names_fault : Context → ℕ → Tree → Option TypeError
names_fault known n (Number z) = None
names_fault known n (Variable x) = use_fault known n Scalar x
names_fault known n (Element x i) = use_fault known n Array x or_else names_fault known n i
names_fault known n (Operation op a b) = names_fault known n a or_else names_fault known n b

-- a value with the first label must not flow to a variable with the second
abbrev pub leaks : Label → Label → Bool
leaks from to = secret_label from && not (secret_label to)

-- a public array has a secret index, somewhere in an expression
-- Rule: source/index.
abbrev pub has_leaking_index : Context → Tree → Bool
has_leaking_index known (Number z) = false
has_leaking_index known (Variable x) = false
has_leaking_index known (Element x i) = leaks (label_of known i) (label_at known x) || has_leaking_index known i
has_leaking_index known (Operation op a b) = has_leaking_index known a || has_leaking_index known b

-- In an assignment, a secret index of a public array comes first, then a flow to a public variable. In a guard, its
-- names come first, in the order of the text, then a secret index of a public array. In a loop, a secret guard comes
-- first, then that the loop is in secret code.
-- Rule: source/flow.
abbrev pub flow_fault : ℕ → Bool → Label → Label → Option TypeError
flow_fault n indexes value target =
    where_true indexes (SecretIndexOfPublic (shown_place n)) or_else where_true (leaks value target)
    (FlowToPublic (shown_place n))

-- Rule: source/guard.
abbrev pub guard_fault : Context → ℕ → Test → Option TypeError
guard_fault known n t =
    (names_fault known n t.left or_else names_fault known n t.right)
    or_else where_true (has_leaking_index known t.left
    || has_leaking_index known t.right) (SecretIndexOfPublic (shown_place n))

-- Rule: source/loop.
abbrev pub loop_fault : ℕ → Label → Label → Option TypeError
loop_fault n guard code =
    where_true (secret_label guard) (SecretGuardOfLoop (shown_place n)) or_else where_true (secret_label code)
    (LoopInSecret (shown_place n))

-- the error of typing of statement n in code with a label, apart from the statements in its blocks
abbrev pub typing_fault : Context → Label → ℕ → Statement → Option TypeError
typing_fault known code n (SetVariable x e) =
    (use_fault known n Scalar x or_else names_fault known n e)
    or_else flow_fault n (has_leaking_index known e) (higher code (label_of known e)) (label_at known x)
typing_fault known code n (SetElement x i e) =
    (names_fault known n (Element x i) or_else names_fault known n e)
    or_else flow_fault n (has_leaking_index known (Element x i) || has_leaking_index known e)
    (higher code (label_of known e))
    (label_at known x)
typing_fault known code n (Choice t a b) = guard_fault known n t
typing_fault known code n (Loop t a) = guard_fault known n t or_else loop_fault n (label_of_test known t) code

-- an expression of statement n is too high
abbrev pub too_high : Tree → Bool
too_high e = nat_lt max_height (height_of e)

abbrev pub height_fault : Label → ℕ → Statement → Option TypeError
height_fault code n (SetVariable x e) = where_true (too_high e) (Limit Height (shown_number n))
height_fault code n (SetElement x i e) = where_true (too_high i || too_high e) (Limit Height (shown_number n))
height_fault code n (Choice t a b) = where_true (too_high t.left || too_high t.right) (Limit Height (shown_number n))
height_fault code n (Loop t a) = where_true (too_high t.left || too_high t.right) (Limit Height (shown_number n))

-- a kind of error of one statement, from the label of the code and the statement's number
abbrev pub StatementFault : Type 0
StatementFault = Label → ℕ → Statement → Option TypeError

-- the first error of some statements, which are numbered from n on
abbrev pub first_among : StatementFault → ℕ → List (Label × Statement) → Option TypeError
first_among fault n [] = None
first_among fault n (x ∷ xs) = fault x.0 n x.1 or_else first_among fault (n + 1) xs

-- the first error of the statements of a program
abbrev pub statements_fault : StatementFault → Source → Option TypeError
statements_fault fault p = first_among fault 0 (in_order (context_of p.decls) Public p.body)

-- statement k of some, which are numbered from `from` on, is the first with an error
pub record IsFirstAt (fault : StatementFault) (from : ℕ) (statements : List (Label × Statement)) (k : ℕ)
    (e : TypeError) : Type 0 where
  pub within : k < length statements
  pub there : (d : Label × Statement)
      → fault (slice_index_or statements k d).0 (from + k) (slice_index_or statements k d).1 ≡ Some e
  pub none_before : (j : ℕ) (d : Label × Statement) → j < k
      → fault (slice_index_or statements j d).0 (from + j) (slice_index_or statements j d).1 ≡ None

-- the first array whose length isn't within the limits, in declarations that are numbered from n on
abbrev pub length_fits : Option ℕ → Bool
length_fits None = true
length_fits (Some n) = nat_le 1 n && nat_le n max_length

abbrev pub length_fault : ℕ → List Decl → Option TypeError
length_fault n [] = None
length_fault n (d ∷ ds) =
    where_true (not (length_fits d.length)) (Limit ArrayLength (shown_number n)) or_else length_fault (n + 1) ds

-- the first declaration with which there are too many words; the declarations are numbered from n on, and `before` is
-- the number of words of those before them
abbrev pub words_fault : ℕ → ℕ → List Decl → Option TypeError
words_fault n before [] = None
words_fault n before (d ∷ ds) =
    where_true (nat_lt max_words (before + words_of d)) (Limit TotalWords (shown_number n))
    or_else words_fault (n + 1) (before + words_of d) ds

abbrev pub variables_fault : List Decl → Option TypeError
variables_fault decls = where_true (nat_lt max_variables (length decls)) (Limit Variables (shown_number (length decls)))

abbrev pub weight_fault : ℕ → Option TypeError
weight_fault weight = where_true (nat_lt max_weight weight) (Limit Weight (shown_number weight))

abbrev pub limits_fault : Source → Option TypeError
limits_fault p =
    variables_fault p.decls
    or_else length_fault 0 p.decls
    or_else words_fault 0 0 p.decls
    or_else statements_fault height_fault p
    or_else weight_fault (weight_of p)

abbrev pub first_fault : Source → Option TypeError
first_fault p =
    twice_fault [] p.decls
    or_else statements_fault (typing_fault (context_of p.decls)) p
    or_else limits_fault p
