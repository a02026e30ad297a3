-- If a survey finds no statement faulty, no statement has an error of typing or an expression that is too high.
use Rattle.std.proofs.Common.{◌≡◌, ℕ, ◌+◌, List, Bool, false, not, ◌||◌, Option, Some, None, refl, sym, ◌∙◌, ap}
use Rattle.std.specs.Option.{option_or}
use Rattle.gr_word.specs.declared.variables.Label.{Label}
use Rattle.gr_word.specs.declared.variables.Label.TheVariants.{Public}
use Rattle.gr_word.specs.declared.variables.Shape.{Shape}
use Rattle.gr_word.specs.declared.variables.Shape.TheVariants.{Scalar, Array}
use Rattle.src_tree.specs.Prelude.{Tree, Number, Variable, Element, Operation, Test, Statement, SetVariable, SetElement, Choice, Loop, Block, Nothing, Then, Source, Context, higher, inside, secret_label, label_at, label_of, label_of_test, shown_place, where_true, same_shape, kind_fault, use_fault, names_fault, guard_fault, loop_fault, flow_fault, leaks, has_leaking_index, typing_fault, height_fault, too_high, weight_fault, count_of, block_count, statement_fault, block_fault}
use Rattle.src_tree.specs.declared.faults.TypeError.TheVariants.{SecretIndexOfPublic, FlowToPublic, SecretGuardOfLoop, LoopInSecret}
use Rattle.flow_types.specs.Prelude.{has_other_shape, is_wrong, is_faulty, is_faulty_test, is_faulty_statement, is_faulty_block, fault_of, walk_block, sizes_fault, found}
use Rattle.src_tree.proofs.Chains.{Neither, chained, no_fault, both_false, neither_true}
use Rattle.flow_types.proofs.Walked.{fault_walked}
use Rattle.flow_types.proofs.Capped.{typing_capped, height_capped}

kind_right : (n : ℕ) (shape : Shape) (kind : Option (Label × Shape)) → has_other_shape shape kind ≡ false
    → kind_fault n shape kind ≡ None
kind_right n shape None e = absurd cc
kind_right n shape (Some kind) e = no_fault (not (same_shape kind.1 shape)) _ e

-- the names of an expression that isn't wrong have no error, and no public array in it has a secret index
tree_right : (known : Context) (n : ℕ) (e : Tree) → is_wrong known e ≡ false
    → Neither (names_fault known n e ≡ None) (has_leaking_index known e ≡ false)
tree_right known n (Number z) right = record { first = refl; second = refl }
tree_right known n (Variable x) right = record { first = kind_right n Scalar (known x) right; second = refl }
tree_right known n (Element x i) right =
    let both = both_false (has_other_shape Array (known x) || is_wrong known i)
    (leaks (label_of known i) (label_at known x)) right in
    let names = both_false (has_other_shape Array (known x)) (is_wrong known i) both.first in
    let index = tree_right known n i names.second in
    record {
      first = chained (use_fault known n Array x) (names_fault known n i) (kind_right n Array (known x) names.first)
          index.first;
      second = neither_true (leaks (label_of known i) (label_at known x)) (has_leaking_index known i) both.second
          index.second;
    }
tree_right known n (Operation op a b) right =
    let both = both_false (is_wrong known a) (is_wrong known b) right in
    let left = tree_right known n a both.first in
    let other = tree_right known n b both.second in
    record {
      first = chained (names_fault known n a) (names_fault known n b) left.first other.first;
      second = neither_true (has_leaking_index known a) (has_leaking_index known b) left.second other.second;
    }

-- what is known of an expression that isn't faulty
record IsRight (known : Context) (n : ℕ) (e : Tree) : Type 0 where
  pub names : names_fault known n e ≡ None
  pub indexes : has_leaking_index known e ≡ false
  pub low : too_high e ≡ false

part_right : (known : Context) (n : ℕ) (e : Tree) → is_faulty known e ≡ false → IsRight known n e
part_right known n e right =
    let both = both_false (is_wrong known e) (too_high e) right in
    let tree = tree_right known n e both.first in
    record { names = tree.first; indexes = tree.second; low = both.second }

-- no error of typing, and nothing too high
abbrev Sound : Context → Label → ℕ → Statement → Type 0
Sound known code n s = Neither (typing_fault known code n s ≡ None) (height_fault code n s ≡ None)

-- an assignment that would be right but for a flow
assigned : (n : ℕ) (indexes : Bool) (from to : Label) → indexes ≡ false → leaks from to ≡ false
    → flow_fault n indexes from to ≡ None
assigned n indexes from to index flow =
    chained (where_true indexes (SecretIndexOfPublic (shown_place n)))
    (where_true (leaks from to) (FlowToPublic (shown_place n))) (no_fault indexes _ index)
    (no_fault (leaks from to) _ flow)

set_right : (known : Context) (code : Label) (n : ℕ) (x : List ℕ) (e : Tree)
    → is_faulty_statement known code (SetVariable x e) ≡ false → Sound known code n (SetVariable x e)
set_right known code n x e right =
    let all = both_false (has_other_shape Scalar (known x) || is_faulty known e)
    (leaks (higher code (label_of known e)) (label_at known x)) right in
    let some = both_false (has_other_shape Scalar (known x)) (is_faulty known e) all.first in
    let value = part_right known n e some.second in
    record {
      first = chained (option_or (use_fault known n Scalar x) (names_fault known n e))
          (flow_fault n (has_leaking_index known e) (higher code (label_of known e)) (label_at known x))
          (chained (use_fault known n Scalar x) (names_fault known n e) (kind_right n Scalar (known x) some.first)
          value.names)
          (assigned n (has_leaking_index known e) (higher code (label_of known e)) (label_at known x) value.indexes
          all.second);
      second = no_fault (too_high e) _ value.low;
    }

put_right : (known : Context) (code : Label) (n : ℕ) (x : List ℕ) (i e : Tree)
    → is_faulty_statement known code (SetElement x i e) ≡ false → Sound known code n (SetElement x i e)
put_right known code n x i e right =
    let all = both_false ((is_wrong known (Element x i) || too_high i) || is_faulty known e)
    (leaks (higher code (label_of known e)) (label_at known x)) right in
    let some = both_false (is_wrong known (Element x i) || too_high i) (is_faulty known e) all.first in
    let target = both_false (is_wrong known (Element x i)) (too_high i) some.first in
    let element = tree_right known n (Element x i) target.first in
    let value = part_right known n e some.second in
    record {
      first = chained (option_or (names_fault known n (Element x i)) (names_fault known n e))
          (flow_fault n (has_leaking_index known (Element x i) || has_leaking_index known e)
          (higher code (label_of known e)) (label_at known x))
          (chained (names_fault known n (Element x i)) (names_fault known n e) element.first value.names)
          (assigned n (has_leaking_index known (Element x i) || has_leaking_index known e)
          (higher code (label_of known e)) (label_at known x)
          (neither_true (has_leaking_index known (Element x i)) (has_leaking_index known e) element.second
          value.indexes) all.second);
      second = no_fault (too_high i || too_high e) _ (neither_true (too_high i) (too_high e) target.second value.low);
    }

-- a guard that isn't faulty has no error, and neither of its expressions is too high
test_right : (known : Context) (n : ℕ) (t : Test) → is_faulty_test known t ≡ false
    → Neither (guard_fault known n t ≡ None) ((too_high t.left || too_high t.right) ≡ false)
test_right known n t right =
    let both = both_false (is_faulty known t.left) (is_faulty known t.right) right in
    let left = part_right known n t.left both.first in
    let other = part_right known n t.right both.second in
    record {
      first = chained (option_or (names_fault known n t.left) (names_fault known n t.right))
          (where_true (has_leaking_index known t.left || has_leaking_index known t.right)
          (SecretIndexOfPublic (shown_place n)))
          (chained (names_fault known n t.left) (names_fault known n t.right) left.names other.names)
          (no_fault (has_leaking_index known t.left || has_leaking_index known t.right) _
          (neither_true (has_leaking_index known t.left) (has_leaking_index known t.right) left.indexes other.indexes));
      second = neither_true (too_high t.left) (too_high t.right) left.low other.low;
    }

-- no statement of some, which are numbered from n on, has an error of typing or is too high
abbrev SoundStatement : Context → Label → ℕ → Statement → Type 0
SoundStatement known code n s =
    Neither (statement_fault known (typing_fault known) code n s ≡ None)
    (statement_fault known height_fault code n s ≡ None)

abbrev SoundBlock : Context → Label → ℕ → Block → Type 0
SoundBlock known code n b =
    Neither (block_fault known (typing_fault known) code n b ≡ None) (block_fault known height_fault code n b ≡ None)

mutual
  statement_right : (known : Context) (code : Label) (n : ℕ) (s : Statement)
      → is_faulty_statement known code s ≡ false → SoundStatement known code n s
  statement_right known code n (SetVariable x e) right = set_right known code n x e right
  statement_right known code n (SetElement x i e) right = put_right known code n x i e right
  statement_right known code n (Choice t a b) right =
      let arms = inside known code t in
      let all = both_false (is_faulty_test known t || is_faulty_block known arms a) (is_faulty_block known arms b) right
      in
      let some = both_false (is_faulty_test known t) (is_faulty_block known arms a) all.first in
      let test = test_right known n t some.first in
      let first = block_right known arms (n + 1) a some.second in
      let second = block_right known arms ((n + 1) + block_count a) b all.second in
      record {
        first = chained (guard_fault known n t) _ test.first
            (chained (block_fault known (typing_fault known) arms (n + 1) a)
            (block_fault known (typing_fault known) arms ((n + 1) + block_count a) b) first.first second.first);
        second = chained (height_fault code n (Choice t a b)) _
            (no_fault (too_high t.left || too_high t.right) _ test.second)
            (chained (block_fault known height_fault arms (n + 1) a)
            (block_fault known height_fault arms ((n + 1) + block_count a) b) first.second second.second);
      }
  statement_right known code n (Loop t a) right =
      let all = both_false ((is_faulty_test known t || secret_label (label_of_test known t)) || secret_label code)
      (is_faulty_block known code a) right in
      let some = both_false (is_faulty_test known t || secret_label (label_of_test known t)) (secret_label code)
      all.first in
      let guard = both_false (is_faulty_test known t) (secret_label (label_of_test known t)) some.first in
      let test = test_right known n t guard.first in
      let body = block_right known code (n + 1) a all.second in
      record {
        first = chained (typing_fault known code n (Loop t a)) (block_fault known (typing_fault known) code (n + 1) a)
            (chained (guard_fault known n t) (loop_fault n (label_of_test known t) code) test.first
            (chained (where_true (secret_label (label_of_test known t)) (SecretGuardOfLoop (shown_place n)))
            (where_true (secret_label code) (LoopInSecret (shown_place n)))
            (no_fault (secret_label (label_of_test known t)) _ guard.second)
            (no_fault (secret_label code) _ some.second)))
            body.first;
        second = chained (height_fault code n (Loop t a)) (block_fault known height_fault code (n + 1) a)
            (no_fault (too_high t.left || too_high t.right) _ test.second) body.second;
      }

  block_right : (known : Context) (code : Label) (n : ℕ) (b : Block) → is_faulty_block known code b ≡ false
      → SoundBlock known code n b
  block_right known code n Nothing right = record { first = refl; second = refl }
  block_right known code n (Then s rest) right =
      let both = both_false (is_faulty_statement known code s) (is_faulty_block known code rest) right in
      let one = statement_right known code n s both.first in
      let others = block_right known code (n + count_of s) rest both.second in
      record {
        first = chained (statement_fault known (typing_fault known) code n s)
            (block_fault known (typing_fault known) code (n + count_of s) rest) one.first others.first;
        second = chained (statement_fault known height_fault code n s)
            (block_fault known height_fault code (n + count_of s) rest) one.second others.second;
      }

-- if the survey finds no statement faulty, the first error is one of the limits on declarations or the weight's
pub none_faulty : (known : Context) (weight : ℕ) (p : Source) → is_faulty_block known Public p.body ≡ false
    → option_or (sizes_fault p) (weight_fault weight) ≡ found known weight p
none_faulty known weight p right =
    let sound = block_right known Public 0 p.body right in
    let typing = fault_walked known (typing_fault known) (typing_capped known) Public p.body ∙ sound.first in
    let heights = fault_walked known height_fault height_capped Public p.body ∙ sound.second in
    ap (λ e. option_or (sizes_fault p) (option_or e (weight_fault weight))) (sym heights)
    ∙ ap (λ e. option_or e (option_or (sizes_fault p)
    (option_or (fault_of (walk_block known height_fault Public 0 p.body)) (weight_fault weight)))) (sym typing)
