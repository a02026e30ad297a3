-- There is no error of typing in statements exactly if they are well typed.
use Rattle.std.proofs.Common.{◌≡◌, ℕ, ◌+◌, false, not, ◌||◌, List, Option, Some, None, refl, sym, ap, subst}
use Rattle.std.specs.Option.{option_or}
use Rattle.gr_word.specs.declared.variables.Label.{Label}
use Rattle.gr_word.specs.declared.variables.Label.TheVariants.{Public, Secret}
use Rattle.gr_word.specs.declared.variables.Shape.{Shape}
use Rattle.gr_word.specs.declared.variables.Shape.TheVariants.{Scalar, Array}
use Rattle.src_tree.specs.Prelude.{Tree, Number, Variable, Element, Operation, Test, Statement, SetVariable, SetElement, Choice, Loop, Block, Nothing, Then, Context, higher, inside, secret_label, label_at, label_of, label_of_test, Flows, TypedTree, TypedTest, TypedStatement, TypedBlock, shown_place, where_true, same_shape, kind_fault, use_fault, names_fault, leaks, has_leaking_index, guard_fault, loop_fault, typing_fault, count_of, block_count, statement_fault, block_fault}
use Rattle.src_tree.specs.declared.faults.TypeError.TheVariants.{FlowToPublic, SecretIndexOfPublic, SecretGuardOfLoop, LoopInSecret}
use Rattle.src_tree.proofs.Chains.{Neither, neither, chained, not_true, no_fault, both_false, neither_true}

flows : (from to : Label) → leaks from to ≡ false → Flows from to
flows Public to e = tt
flows Secret Public e = absurd cc
flows Secret Secret e = tt

flows_back : (from to : Label) → Flows from to → leaks from to ≡ false
flows_back Public to f = refl
flows_back Secret Public f = absurd f
flows_back Secret Secret f = refl

-- a label that isn't secret is public
pub public : (l : Label) → secret_label l ≡ false → l ≡ Public
public Public e = refl
public Secret e = absurd cc

public_back : (l : Label) → l ≡ Public → secret_label l ≡ false
public_back Public e = refl
public_back Secret e = absurd cc

shape_is : (a b : Shape) → not (same_shape a b) ≡ false → a ≡ b
shape_is Scalar Scalar e = refl
shape_is Array Array e = refl
shape_is Scalar Array e = absurd cc
shape_is Array Scalar e = absurd cc

same : (a : Shape) → not (same_shape a a) ≡ false
same Scalar = refl
same Array = refl

used_at : (n : ℕ) (shape : Shape) (kind : Option (Label × Shape)) → kind_fault n shape kind ≡ None
    → (label : Label) × (kind ≡ Some (label, shape))
used_at n shape None e = absurd cc
used_at n shape (Some kind) e = (
  kind.0,
  ap (λ (s : Shape). let k : Label × Shape = (kind.0, s) in Some k)
      (shape_is kind.1 shape (not_true (not (same_shape kind.1 shape)) _ e)),
)

used_back : (n : ℕ) (shape : Shape) (kind : Option (Label × Shape)) (label : Label) → kind ≡ Some (label, shape)
    → kind_fault n shape kind ≡ None
used_back n shape kind label e =
    let P : Option (Label × Shape) → Type 0 = λ k. kind_fault n shape k ≡ None in subst P (sym e)
    (no_fault (not (same_shape shape shape)) _ (same shape))

pub typed_tree : (known : Context) (n : ℕ) (e : Tree) → names_fault known n e ≡ None → has_leaking_index known e ≡ false
    → TypedTree known e
typed_tree known n (Number z) a b = tt
typed_tree known n (Variable x) a b = used_at n Scalar (known x) a
typed_tree known n (Element x i) a b =
    let names = neither (use_fault known n Array x) (names_fault known n i) a in
    let index = both_false (leaks (label_of known i) (label_at known x)) (has_leaking_index known i) b in (
      used_at n Array (known x) names.first,
      (typed_tree known n i names.second index.second, flows (label_of known i) (label_at known x) index.first),
    )
typed_tree known n (Operation op l r) a b =
    let names = neither (names_fault known n l) (names_fault known n r) a in
    let index = both_false (has_leaking_index known l) (has_leaking_index known r) b in
    (typed_tree known n l names.first index.first, typed_tree known n r names.second index.second)

pub tree_names : (known : Context) (n : ℕ) (e : Tree) → TypedTree known e → names_fault known n e ≡ None
tree_names known n (Number z) t = refl
tree_names known n (Variable x) t = used_back n Scalar (known x) t.0 t.1
tree_names known n (Element x i) t =
    chained (use_fault known n Array x) (names_fault known n i) (used_back n Array (known x) t.0.0 t.0.1)
    (tree_names known n i t.1.0)
tree_names known n (Operation op l r) t =
    chained (names_fault known n l) (names_fault known n r) (tree_names known n l t.0) (tree_names known n r t.1)

pub tree_indexes : (known : Context) (e : Tree) → TypedTree known e → has_leaking_index known e ≡ false
tree_indexes known (Number z) t = refl
tree_indexes known (Variable x) t = refl
tree_indexes known (Element x i) t =
    neither_true (leaks (label_of known i) (label_at known x)) (has_leaking_index known i)
    (flows_back (label_of known i) (label_at known x) t.1.1) (tree_indexes known i t.1.0)
tree_indexes known (Operation op l r) t =
    neither_true (has_leaking_index known l) (has_leaking_index known r) (tree_indexes known l t.0)
    (tree_indexes known r t.1)

-- a statement's own errors, part by part
set_typed : (known : Context) (code : Label) (n : ℕ) (x : List ℕ) (e : Tree)
    → typing_fault known code n (SetVariable x e) ≡ None → TypedStatement known code (SetVariable x e)
set_typed known code n x e f =
    let a = neither (option_or (use_fault known n Scalar x) (names_fault known n e)) _ f in
    let names = neither (use_fault known n Scalar x) (names_fault known n e) a.first in
    let b = neither (where_true (has_leaking_index known e) (SecretIndexOfPublic (shown_place n))) _ a.second in (
      used_at n Scalar (known x) names.first,
      (
        typed_tree known n e names.second (not_true (has_leaking_index known e) _ b.first),
        flows
            (higher code (label_of known e)) (label_at known x) (not_true _ _ b.second),
      ),
    )

put_typed : (known : Context) (code : Label) (n : ℕ) (x : List ℕ) (i e : Tree)
    → typing_fault known code n (SetElement x i e) ≡ None → TypedStatement known code (SetElement x i e)
put_typed known code n x i e f =
    let a = neither (option_or (names_fault known n (Element x i)) (names_fault known n e)) _ f in
    let names = neither (names_fault known n (Element x i)) (names_fault known n e) a.first in
    let b = neither (where_true (has_leaking_index known (Element x i) || has_leaking_index known e)
    (SecretIndexOfPublic (shown_place n))) _ a.second in
    let index = both_false (has_leaking_index known (Element x i)) (has_leaking_index known e) (not_true _ _ b.first)
    in (
      typed_tree known n (Element x i) names.first index.first,
      (
        typed_tree known n e names.second index.second,
        flows (higher code (label_of known e)) (label_at known x)
            (not_true _ _ b.second),
      ),
    )

test_typed : (known : Context) (n : ℕ) (t : Test)
    → option_or (names_fault known n t.left) (names_fault known n t.right) ≡ None
    → where_true (has_leaking_index known t.left || has_leaking_index known t.right)
    (SecretIndexOfPublic (shown_place n)) ≡ None → TypedTest known t
test_typed known n t f g =
    let names = neither (names_fault known n t.left) (names_fault known n t.right) f in
    let index = both_false (has_leaking_index known t.left) (has_leaking_index known t.right) (not_true _ _ g) in
    (typed_tree known n t.left names.first index.first, typed_tree known n t.right names.second index.second)

choice_typed : (known : Context) (code : Label) (n : ℕ) (t : Test) (a b : Block)
    → typing_fault known code n (Choice t a b) ≡ None → TypedTest known t
choice_typed known code n t a b f =
    let g = neither (option_or (names_fault known n t.left)
    (names_fault known n t.right)) _ f in test_typed known n t g.first g.second

-- what a loop needs, apart from its body
pub record LoopTyped (known : Context) (code : Label) (t : Test) : Type 0 where
  pub test : TypedTest known t
  pub guard : label_of_test known t ≡ Public
  pub place : code ≡ Public

loop_typed : (known : Context) (code : Label) (n : ℕ) (t : Test) (a : Block)
    → typing_fault known code n (Loop t a) ≡ None → LoopTyped known code t
loop_typed known code n t a f =
    let g = neither (guard_fault known n t) (loop_fault n (label_of_test known t) code) f in
    let h = neither (option_or (names_fault known n t.left) (names_fault known n t.right)) _ g.first in
    let k = neither (where_true (secret_label (label_of_test known t)) (SecretGuardOfLoop (shown_place n)))
    (where_true (secret_label code) (LoopInSecret (shown_place n))) g.second in
    record {
      test = test_typed known n t h.first h.second;
      guard = public (label_of_test known t)
          (not_true _ _ k.first);
      place = public code (not_true _ _ k.second);
    }

mutual
  pub statement_typed : (known : Context) (code : Label) (n : ℕ) (s : Statement)
      → statement_fault known (typing_fault known) code n s ≡ None → TypedStatement known code s
  statement_typed known code n (SetVariable x e) f = set_typed known code n x e f
  statement_typed known code n (SetElement x i e) f = put_typed known code n x i e f
  statement_typed known code n (Choice t a b) f =
      let arms = inside known code t in
      let g = neither (typing_fault known code n (Choice t a b)) _ f in
      let h = neither (block_fault known (typing_fault known) arms (n + 1) a)
      (block_fault known (typing_fault known) arms ((n + 1) + block_count a) b) g.second in (
        choice_typed known code n t a b g.first,
        (block_typed known arms (n + 1) a h.first, block_typed known arms ((n + 1) + block_count a) b h.second),
      )
  statement_typed known code n (Loop t a) f =
      let g = neither (typing_fault known code n (Loop t a))
      (block_fault known (typing_fault known) code (n + 1) a) f in
      let l = loop_typed known code n t a g.first in
      (l.test, (l.guard, (l.place, block_typed known code (n + 1) a g.second)))

  -- a block without an error of typing is well typed
  pub block_typed : (known : Context) (code : Label) (n : ℕ) (b : Block)
      → block_fault known (typing_fault known) code n b ≡ None → TypedBlock known code b
  block_typed known code n Nothing f = tt
  block_typed known code n (Then s rest) f =
      let g = neither (statement_fault known (typing_fault known) code n s)
      (block_fault known (typing_fault known) code (n + count_of s) rest) f in
      (statement_typed known code n s g.first, block_typed known code (n + count_of s) rest g.second)

-- what is well typed has no error of typing
test_back : (known : Context) (n : ℕ) (t : Test) → TypedTest known t
    → Neither (option_or (names_fault known n t.left) (names_fault known n t.right) ≡ None)
    (where_true (has_leaking_index known t.left || has_leaking_index known t.right)
    (SecretIndexOfPublic (shown_place n)) ≡ None)
test_back known n t typed = record {
  first = chained (names_fault known n t.left) (names_fault known n t.right) (tree_names known n t.left typed.0)
      (tree_names known n t.right typed.1);
  second = no_fault _ _
      (neither_true (has_leaking_index known t.left) (has_leaking_index known t.right)
      (tree_indexes known t.left typed.0)
      (tree_indexes known t.right typed.1));
}

mutual
  pub statement_back : (known : Context) (code : Label) (n : ℕ) (s : Statement) → TypedStatement known code s
      → statement_fault known (typing_fault known) code n s ≡ None
  statement_back known code n (SetVariable x e) t =
      chained (option_or (use_fault known n Scalar x) (names_fault known n e)) _
      (chained (use_fault known n Scalar x) (names_fault known n e) (used_back n Scalar (known x) t.0.0 t.0.1)
      (tree_names known n e t.1.0))
      (chained (where_true (has_leaking_index known e) (SecretIndexOfPublic (shown_place n))) _
      (no_fault _ _ (tree_indexes known e t.1.0))
      (no_fault (leaks (higher code (label_of known e)) (label_at known x)) (FlowToPublic (shown_place n))
      (flows_back (higher code (label_of known e)) (label_at known x) t.1.1)))
  statement_back known code n (SetElement x i e) t =
      chained (option_or (names_fault known n (Element x i)) (names_fault known n e)) _
      (chained (names_fault known n (Element x i)) (names_fault known n e) (tree_names known n (Element x i) t.0)
      (tree_names known n e t.1.0))
      (chained (where_true (has_leaking_index known (Element x i) || has_leaking_index known e)
      (SecretIndexOfPublic (shown_place n))) _
      (no_fault _ _ (neither_true (has_leaking_index known (Element x i)) (has_leaking_index known e)
      (tree_indexes known (Element x i) t.0) (tree_indexes known e t.1.0)))
      (no_fault (leaks (higher code (label_of known e)) (label_at known x)) (FlowToPublic (shown_place n))
      (flows_back (higher code (label_of known e)) (label_at known x) t.1.1)))
  statement_back known code n (Choice t a b) typed =
      let arms = inside known code t in
      let test = test_back known n t typed.0 in
      chained (typing_fault known code n (Choice t a b)) _
      (chained (option_or (names_fault known n t.left) (names_fault known n t.right)) _ test.first test.second)
      (chained (block_fault known (typing_fault known) arms (n + 1) a)
      (block_fault known (typing_fault known) arms ((n + 1) + block_count a) b)
      (block_back known arms (n + 1) a typed.1.0) (block_back known arms ((n + 1) + block_count a) b typed.1.1))
  statement_back known code n (Loop t a) typed =
      let test = test_back known n t typed.0 in
      chained (typing_fault known code n (Loop t a)) _
      (chained (guard_fault known n t) (loop_fault n (label_of_test known t) code)
      (chained (option_or (names_fault known n t.left) (names_fault known n t.right)) _ test.first test.second)
      (chained (where_true (secret_label (label_of_test known t)) (SecretGuardOfLoop (shown_place n)))
      (where_true (secret_label code) (LoopInSecret (shown_place n)))
      (no_fault _ _ (public_back (label_of_test known t) typed.1.0)) (no_fault _ _ (public_back code typed.1.1.0))))
      (block_back known code (n + 1) a typed.1.1.1)

  -- a well typed block has no error of typing
  pub block_back : (known : Context) (code : Label) (n : ℕ) (b : Block) → TypedBlock known code b
      → block_fault known (typing_fault known) code n b ≡ None
  block_back known code n Nothing t = refl
  block_back known code n (Then s rest) t =
      chained (statement_fault known (typing_fault known) code n s)
      (block_fault known (typing_fault known) code (n + count_of s) rest) (statement_back known code n s t.0)
      (block_back known code (n + count_of s) rest t.1)
