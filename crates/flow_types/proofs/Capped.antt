-- The error of a statement depends on the statement's number only up to 2^64 - 1.
use Rattle.std.proofs.Common.{◌≡◌, ℕ, not, ◌||◌, Option, Some, None, refl, ap, ◌∙◌, arith}
use Rattle.std.specs.Option.{option_or}
use Rattle.gr_word.specs.declared.variables.Label.{Label}
use Rattle.gr_word.specs.declared.variables.Shape.{Shape}
use Rattle.gr_word.specs.declared.variables.Shape.TheVariants.{Scalar, Array}
use Rattle.src_tree.specs.Prelude.{Tree, Number, Variable, Element, Operation, SetVariable, SetElement, Choice, Loop, Context, higher, secret_label, label_at, label_of, label_of_test, shown_place, shown_number, where_true, same_shape, kind_fault, use_fault, names_fault, leaks, has_leaking_index, typing_fault, height_fault, too_high}
use Rattle.src_tree.specs.declared.faults.TypeError.{TypeError}
use Rattle.src_tree.specs.declared.faults.TypeError.TheVariants.{SecretIndexOfPublic, FlowToPublic, SecretGuardOfLoop, LoopInSecret, Limit, Undeclared, WrongShape}
use Rattle.src_tree.specs.declared.faults.Which.TheVariants.{Height}
use Rattle.flow_types.proofs.Walked.{IsCapped}

same_place : (n : ℕ) → shown_place (shown_number n) ≡ shown_place n
same_place n = omega arith

-- capping a number twice is capping it once
pub same_number : (n : ℕ) → shown_number (shown_number n) ≡ shown_number n
same_number n = omega arith

kind_capped : (n : ℕ) (shape : Shape) (kind : Option (Label × Shape))
    → kind_fault (shown_number n) shape kind ≡ kind_fault n shape kind
kind_capped n shape None = ap (λ k. Some (Undeclared k)) (same_place n)
kind_capped n shape (Some kind) = ap (λ k. where_true (not (same_shape kind.1 shape)) (WrongShape k)) (same_place n)

names_capped : (known : Context) (n : ℕ) (e : Tree) → names_fault known (shown_number n) e ≡ names_fault known n e
names_capped known n (Number z) = refl
names_capped known n (Variable x) = kind_capped n Scalar (known x)
names_capped known n (Element x i) =
    ap (λ a. option_or a (names_fault known (shown_number n) i)) (kind_capped n Array (known x))
    ∙ ap (option_or (use_fault known n Array x)) (names_capped known n i)
names_capped known n (Operation op a b) =
    ap (λ f. option_or f (names_fault known (shown_number n) b)) (names_capped known n a)
    ∙ ap (option_or (names_fault known n a)) (names_capped known n b)

both_capped : (a b c d : Option TypeError) → a ≡ b → c ≡ d → option_or a c ≡ option_or b d
both_capped a b c d e f = ap (λ x. option_or x c) e ∙ ap (option_or b) f

-- an error of typing depends only on the capped number of its statement
pub typing_capped : (known : Context) → IsCapped (typing_fault known)
typing_capped known code n (SetVariable x e) =
    both_capped _ _ _ _ (both_capped _ _ _ _ (kind_capped n Scalar (known x)) (names_capped known n e))
    (both_capped _ _ _ _ (ap (λ k. where_true (has_leaking_index known e) (SecretIndexOfPublic k)) (same_place n))
    (ap (λ k. where_true (leaks (higher code (label_of known e)) (label_at known x)) (FlowToPublic k)) (same_place n)))
typing_capped known code n (SetElement x i e) =
    both_capped _ _ _ _ (both_capped _ _ _ _ (names_capped known n (Element x i)) (names_capped known n e))
    (both_capped _ _ _ _ (ap
    (λ k. where_true (has_leaking_index known (Element x i) || has_leaking_index known e) (SecretIndexOfPublic k))
    (same_place n))
    (ap (λ k. where_true (leaks (higher code (label_of known e)) (label_at known x)) (FlowToPublic k)) (same_place n)))
typing_capped known code n (Choice t a b) =
    both_capped _ _ _ _ (both_capped _ _ _ _ (names_capped known n t.left) (names_capped known n t.right))
    (ap (λ k. where_true (has_leaking_index known t.left || has_leaking_index known t.right) (SecretIndexOfPublic k))
    (same_place n))
typing_capped known code n (Loop t a) =
    both_capped _ _ _ _ (both_capped _ _ _ _
    (both_capped _ _ _ _ (names_capped known n t.left) (names_capped known n t.right))
    (ap (λ k. where_true (has_leaking_index known t.left || has_leaking_index known t.right) (SecretIndexOfPublic k))
    (same_place n)))
    (both_capped _ _ _ _ (ap (λ k. where_true (secret_label (label_of_test known t)) (SecretGuardOfLoop k))
    (same_place n))
    (ap (λ k. where_true (secret_label code) (LoopInSecret k)) (same_place n)))

-- an error of heights depends only on the capped number of its statement
pub height_capped : IsCapped height_fault
height_capped code n (SetVariable x e) = ap (λ k. where_true (too_high e) (Limit Height k)) (same_number n)
height_capped code n (SetElement x i e) =
    ap (λ k. where_true (too_high i || too_high e) (Limit Height k)) (same_number n)
height_capped code n (Choice t a b) =
    ap (λ k. where_true (too_high t.left || too_high t.right) (Limit Height k)) (same_number n)
height_capped code n (Loop t a) =
    ap (λ k. where_true (too_high t.left || too_high t.right) (Limit Height k)) (same_number n)
