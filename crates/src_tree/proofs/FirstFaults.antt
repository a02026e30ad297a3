-- The first error of the relation is the one that is computed.
use Rattle.std.proofs.Common.{◌≡◌, ◌+◌, ◌≤◌, nat_lt, Bool, true, false, [], length, Option, Some, None, ◌⊎◌, ⊎_elim, inl, inr, refl, sym, ◌∙◌, subst, arith}
use Rattle.std.specs.Option.{option_or}
use Rattle.std.specs.List.{AllByRecursion}
use Rattle.std.proofs.lemmas.Option.{same_Some}
use Rattle.std.proofs.lemmas.Bool.{ltb-true, ltb-false, lt-ltb, le-ltb}
use Rattle.gr_word.specs.declared.variables.Label.TheVariants.{Public}
use Rattle.src_tree.specs.Prelude.{Source, context_of, in_order, IsTyped, max_variables, max_words, max_weight, total_words, weight_of, LengthFits, LowBlock, StatementFault, shown_number, where_true, twice_fault, typing_fault, height_fault, statements_fault, variables_fault, length_fault, words_fault, weight_fault, limits_fault, first_fault, IsFirstFault, NamedAgain, IllTyped, ManyVariables, BadLength, ManyWords, HighExpression, HeavyBody}
use Rattle.src_tree.specs.declared.faults.TypeError.{TypeError}
use Rattle.src_tree.specs.declared.faults.Which.TheVariants.{Variables}
use Rattle.src_tree.proofs.Chains.{not_true, no_fault}
use Rattle.src_tree.proofs.DeclaredOnce.{declared_once, once_back}
use Rattle.src_tree.proofs.FirstAmong.{found_among, only_among}
use Rattle.src_tree.proofs.FirstDeclaration.{twice_found, twice_only, length_found, length_only, words_found, words_only}
use Rattle.src_tree.proofs.InOrder.{block_first}
use Rattle.src_tree.proofs.NoTypingFault.{block_typed, block_back}
use Rattle.src_tree.proofs.NoLimitPassed.{lengths_fit, lengths_back, words_fit, words_back, block_low, block_low_back}
use Rattle.src_tree.specs.declared.faults.TypeError.TheVariants as error

-- ---- chains of errors

either : (a b : Option TypeError) (e : TypeError) → option_or a b ≡ Some e
    → (a ≡ Some e) ⊎ ((a ≡ None) × (b ≡ Some e))
either None b e h = inr (refl, h)
either (Some x) b e h = inl h

first_is : (a b : Option TypeError) (e : TypeError) → a ≡ Some e → option_or a b ≡ Some e
first_is None b e h = absurd cc
first_is (Some x) b e h = h

behind_none : (a b r : Option TypeError) → a ≡ None → b ≡ r → option_or a b ≡ r
behind_none None b r h k = k
behind_none (Some x) b r h k = absurd cc

true_only : (b : Bool) (x e : TypeError) → where_true b x ≡ Some e → (b ≡ true) × (e ≡ x)
true_only true x e h = (refl, sym (same_Some x e h))
true_only false x e h = absurd cc

true_is : (b : Bool) (x : TypeError) → b ≡ true → where_true b x ≡ Some x
true_is true x h = refl
true_is false x h = absurd cc

module _ (p : Source) where
  abbrev statements : StatementFault → Option TypeError
  statements fault = statements_fault fault p

  -- ---- from the relation to the computation

  typed_none : IsTyped p → (r : Option TypeError) → limits_fault p ≡ r → first_fault p ≡ r
  typed_none typed r h =
      behind_none (twice_fault [] p.decls) _ r (once_back [] p.decls typed.once)
      (behind_none (statements (typing_fault (context_of p.decls))) (limits_fault p) r
      (sym (block_first (context_of p.decls) (typing_fault (context_of p.decls)) Public 0 p.body)
      ∙ block_back (context_of p.decls) Public 0 p.body typed.body) h)

  few_variables : length p.decls ≤ max_variables → variables_fault p.decls ≡ None
  few_variables few =
      no_fault (nat_lt max_variables (length p.decls)) (error.Limit Variables (shown_number (length p.decls)))
      (le-ltb max_variables (length p.decls) few)

  few_words : total_words p.decls ≤ max_words → words_fault 0 0 p.decls ≡ None
  few_words few = words_back 0 0 p.decls (omega (arith, few))

  low_body : LowBlock p.body → statements height_fault ≡ None
  low_body low =
      sym (block_first (context_of p.decls) height_fault Public 0 p.body)
      ∙ block_low_back (context_of p.decls) Public 0 p.body low

  pub caused : (e : TypeError) → IsFirstFault p e → first_fault p ≡ Some e
  caused e (NamedAgain k first) = first_is (twice_fault [] p.decls) _ _ (twice_found p.decls k first)
  caused e (IllTyped once k e' first) =
      behind_none (twice_fault [] p.decls) _ _ (once_back [] p.decls once)
      (first_is (statements (typing_fault (context_of p.decls))) _ _
      (found_among (typing_fault (context_of p.decls)) 0 (in_order (context_of p.decls) Public p.body) k e' first))
  caused e (ManyVariables typed many) =
      typed_none typed _ (first_is (variables_fault p.decls) _ _
      (true_is (nat_lt max_variables (length p.decls)) _ (lt-ltb max_variables (length p.decls) many)))
  caused e (BadLength typed few k first) =
      typed_none typed _ (behind_none (variables_fault p.decls) _ _ (few_variables few)
      (first_is (length_fault 0 p.decls) _ _ (length_found p.decls k first)))
  caused e (ManyWords typed few fit k first) =
      typed_none typed _ (behind_none (variables_fault p.decls) _ _ (few_variables few)
      (behind_none (length_fault 0 p.decls) _ _ (lengths_back 0 p.decls fit)
      (first_is (words_fault 0 0 p.decls) _ _ (words_found p.decls k first))))
  caused e (HighExpression typed few fit words k e' first) =
      typed_none typed _ (behind_none (variables_fault p.decls) _ _ (few_variables few)
      (behind_none (length_fault 0 p.decls) _ _ (lengths_back 0 p.decls fit)
      (behind_none (words_fault 0 0 p.decls) _ _ (few_words words)
      (first_is (statements height_fault) _ _
      (found_among height_fault 0 (in_order (context_of p.decls) Public p.body) k e' first)))))
  caused e (HeavyBody typed few fit words low heavy) =
      typed_none typed _ (behind_none (variables_fault p.decls) _ _ (few_variables few)
      (behind_none (length_fault 0 p.decls) _ _ (lengths_back 0 p.decls fit)
      (behind_none (words_fault 0 0 p.decls) _ _ (few_words words)
      (behind_none (statements height_fault) _ _ (low_body low)
      (true_is (nat_lt max_weight (weight_of p)) _ (lt-ltb max_weight (weight_of p) heavy))))))

  -- ---- from the computation to the relation

  -- a test that is true, and its error
  passed : (b : Bool) (x e : TypeError) → where_true b x ≡ Some e → ((b ≡ true) → IsFirstFault p x) → IsFirstFault p e
  passed b x e h by = let found = true_only b x e h in subst (IsFirstFault p) (sym found.1) (by found.0)

  limit_words : IsTyped p → (e : TypeError) → limits_fault p ≡ Some e → IsFirstFault p e
  limit_words typed e some = ⊎_elim many few (either (variables_fault p.decls) _ e some)
    where
      many : variables_fault p.decls ≡ Some e → IsFirstFault p e
      many h =
          passed (nat_lt max_variables (length p.decls)) _ e h
          (λ t. ManyVariables typed (ltb-true max_variables (length p.decls) t))

      few_is : variables_fault p.decls ≡ None → length p.decls ≤ max_variables
      few_is none = ltb-false max_variables (length p.decls) (not_true _ _ none)

      heavy : length p.decls ≤ max_variables → AllByRecursion (λ d. LengthFits d.length) p.decls
          → total_words p.decls ≤ max_words → (statements height_fault ≡ None) × (weight_fault (weight_of p) ≡ Some e)
          → IsFirstFault p e
      heavy n fit words rest =
          passed (nat_lt max_weight (weight_of p)) _ e rest.1
          (λ t. HeavyBody typed n fit words
          (block_low (context_of p.decls) Public 0 p.body
          (block_first (context_of p.decls) height_fault Public 0 p.body ∙ rest.0))
          (ltb-true max_weight (weight_of p) t))

      high : length p.decls ≤ max_variables → AllByRecursion (λ d. LengthFits d.length) p.decls
          → total_words p.decls ≤ max_words → statements height_fault ≡ Some e → IsFirstFault p e
      high n fit words h =
          let found = only_among height_fault 0 (in_order (context_of p.decls) Public p.body) e h in
          HighExpression typed n fit words found.0 e found.1

      behind_words : length p.decls ≤ max_variables → AllByRecursion (λ d. LengthFits d.length) p.decls
          → (words_fault 0 0 p.decls ≡ None)
          × (option_or (statements height_fault) (weight_fault (weight_of p)) ≡ Some e) → IsFirstFault p e
      behind_words n fit rest =
          let sum : 0 + total_words p.decls ≤ max_words = words_fit 0 0 p.decls (omega arith) rest.0 in
          let words : total_words p.decls ≤ max_words = omega (arith, sum) in
          ⊎_elim (high n fit words) (heavy n fit words)
          (either (statements height_fault) (weight_fault (weight_of p)) e rest.1)

      wordy : length p.decls ≤ max_variables → AllByRecursion (λ d. LengthFits d.length) p.decls
          → words_fault 0 0 p.decls ≡ Some e → IsFirstFault p e
      wordy n fit h =
          let found = words_only p.decls e h in
          subst (IsFirstFault p) (sym found.2) (ManyWords typed n fit found.0 found.1)

      long : length p.decls ≤ max_variables → length_fault 0 p.decls ≡ Some e → IsFirstFault p e
      long n h =
          let found = length_only p.decls e h in
          subst (IsFirstFault p) (sym found.2) (BadLength typed n found.0 found.1)

      behind_lengths : length p.decls ≤ max_variables
          → (length_fault 0 p.decls ≡ None)
          × (option_or (words_fault 0 0 p.decls)
          (option_or (statements height_fault) (weight_fault (weight_of p))) ≡ Some e) → IsFirstFault p e
      behind_lengths n rest =
          let fit = lengths_fit 0 p.decls rest.0 in
          ⊎_elim (wordy n fit) (behind_words n fit) (either (words_fault 0 0 p.decls) _ e rest.1)

      few : (variables_fault p.decls ≡ None)
          × (option_or (length_fault 0 p.decls) (option_or (words_fault 0 0 p.decls)
          (option_or (statements height_fault) (weight_fault (weight_of p)))) ≡ Some e) → IsFirstFault p e
      few rest =
          ⊎_elim (long (few_is rest.0)) (behind_lengths (few_is rest.0)) (either (length_fault 0 p.decls) _ e rest.1)

  pub cause : (e : TypeError) → first_fault p ≡ Some e → IsFirstFault p e
  cause e some = ⊎_elim named behind (either (twice_fault [] p.decls) _ e some)
    where
      named : twice_fault [] p.decls ≡ Some e → IsFirstFault p e
      named h =
          let found = twice_only p.decls e h in
          subst (IsFirstFault p) (sym found.2) (NamedAgain found.0 found.1)

      behind : (twice_fault [] p.decls ≡ None)
          × (option_or (statements (typing_fault (context_of p.decls))) (limits_fault p) ≡ Some e) → IsFirstFault p e
      behind rest =
          let once = declared_once [] p.decls rest.0 in
          ⊎_elim
          (λ ill.
          let found =
          only_among (typing_fault (context_of p.decls)) 0 (in_order (context_of p.decls) Public p.body) e ill in
          IllTyped once found.0 e found.1)
          (λ fine. limit_words (record {
            once = once;
            body = block_typed (context_of p.decls) Public 0 p.body
                (block_first (context_of p.decls) (typing_fault (context_of p.decls)) Public 0 p.body ∙ fine.0);
          }) e fine.1)
          (either (statements (typing_fault (context_of p.decls))) (limits_fault p) e rest.1)
