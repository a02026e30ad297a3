-- A small module, executed by its meaning: constants, a table, functions, an array as a parameter, `for`, `&&`, `? :`.
--     const N = 4;  const K[] = { 7, 2, 9, 4 };  out secret int best;  out secret int s[N];
--     int max(int x, int y) { return x > y ? x : y; }
--     void put(int v[], int i) { v[i] = K[i] + 1; best = max(best, v[i]); }
--     void main() { for (int i = 0; i < N && 1; i++) { put(s, i); } }
use Rattle.std.proofs.Common.{◌≡◌, ℕ, ℤ, pos, true, false, List, [], ◌∷◌, Some, None, refl}
use Rattle.std.specs.Option.{option_map}
use Rattle.std.specs.Int.{int_wrap}
use Rattle.gr_word.specs.declared.operations.Op.TheVariants.{Add}
use Rattle.gr_word.specs.declared.operations.Cmp.TheVariants.{Lt, Gt}
use Rattle.gr_word.specs.declared.variables.Label.TheVariants.{Secret}
use Rattle.module_tree.specs.Operators.{Machine, Compare, Conjunction}
use Rattle.module_tree.specs.Memory.{Memory}
use Rattle.module_tree.specs.Trees.{Expression, Number, Named, Element, Operation, Select, Call, NoMore, More, Declare, SetVariable, SetElement, Return, Invoke, Nothing, Then, OfWord, OfArray, Role, Item, Constant, Table, Scalar, Array, Function, Module}
use Rattle.module_tree.specs.Shorthands.{variable_by, for_loop}
use Rattle.module_tree.specs.Meaning.{module_meaning, calls_at, looped}
use Rattle.module_tree.specs.FirstWords.{known_at}

unfoldable pub number : ℕ → Expression
number n = Number (pos n)

unfoldable pub role : Role
role = record { is_input = false; is_output = true; label = Secret }

-- The names are N = 1, K = 2, best = 3, s = 4, max = 5, put = 6, main = 7, x = 8, y = 9, v = 10, i = 11.
unfoldable pub example_items : List Item
unfolding number role
example_items =
    Constant (1 ∷ []) (number 4)
    ∷ Table (2 ∷ []) None (More (number 7) (More (number 2) (More (number 9) (More (number 4) NoMore))))
    ∷ Scalar role (3 ∷ []) (number 0)
    ∷ Array role (4 ∷ []) (Named (1 ∷ [])) NoMore
    ∷ []

unfoldable pub example_functions : List Function
unfolding number
example_functions =
    record {
      name = 5 ∷ [];
      returns_word = true;
      parameters = OfWord None (8 ∷ []) ∷ OfWord None (9 ∷ []) ∷ [];
      body =
          Then
          (Return (Select (Operation (Compare Gt) (Named (8 ∷ [])) (Named (9 ∷ []))) (Named (8 ∷ [])) (Named (9 ∷ []))))
          Nothing;
    }
    ∷ record {
      name = 6 ∷ [];
      returns_word = false;
      parameters = OfArray (10 ∷ []) ∷ OfWord None (11 ∷ []) ∷ [];
      body =
          Then
          (SetElement (10 ∷ []) (Named (11 ∷ [])) (Operation (Machine Add) (Element (2 ∷ []) (Named (11 ∷ []))) (number 1)))
          (Then
          (SetVariable (3 ∷ [])
          (Call (5 ∷ []) (More (Named (3 ∷ [])) (More (Element (10 ∷ []) (Named (11 ∷ []))) NoMore)))) Nothing);
    }
    ∷ record {
      name = 7 ∷ [];
      returns_word = false;
      parameters = [];
      body =
          Then
          (for_loop (Declare None (11 ∷ []) (number 0))
          (Operation Conjunction (Operation (Compare Lt) (Named (11 ∷ [])) (Named (1 ∷ []))) (number 1))
          (Then (variable_by (Machine Add) (11 ∷ []) (number 1)) Nothing)
          (Then (Invoke (6 ∷ []) (More (Named (4 ∷ [])) (More (Named (11 ∷ [])) NoMore))) Nothing))
          Nothing;
    }
    ∷ []

unfoldable pub example : Module
unfolding example_items example_functions
example = record { items = example_items; functions = example_functions }

both_words : Memory → List (List ℤ)
both_words memory = memory 2 ∷ memory 3 ∷ []

-- It needs exactly four iterations.
result : option_map both_words (module_meaning example (7 ∷ []) (λ k. None) 4)
    ≡ Some ((pos 10 ∷ []) ∷ (pos 8 ∷ pos 3 ∷ pos 10 ∷ pos 5 ∷ []) ∷ [])
unfolding int_wrap calls_at known_at looped example example_items example_functions number role both_words
result = refl

spent : option_map both_words (module_meaning example (7 ∷ []) (λ k. None) 3) ≡ None
unfolding int_wrap calls_at known_at looped example example_items example_functions number role both_words
spent = refl
