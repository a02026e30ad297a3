-- A program has no first error exactly if it is well typed and within the limits.
use Rattle.std.proofs.Common.{◌≡◌, ◌+◌, ◌≤◌, nat_lt, [], length, Option, None, sym, ◌∙◌, arith}
use Rattle.std.specs.Option.{option_or}
use Rattle.std.proofs.lemmas.Bool.{ltb-false, le-ltb}
use Rattle.gr_word.specs.declared.variables.Label.TheVariants.{Public}
use Rattle.src_tree.specs.Prelude.{Source, context_of, IsTyped, max_variables, max_words, max_weight, total_words, weight_of, IsWithinLimits, shown_number, twice_fault, typing_fault, height_fault, statements_fault, variables_fault, length_fault, words_fault, weight_fault, limits_fault, first_fault}
use Rattle.src_tree.specs.declared.faults.TypeError.{TypeError}
use Rattle.src_tree.specs.declared.faults.Which.TheVariants.{Variables, Weight}
use Rattle.src_tree.proofs.Chains.{neither, chained, not_true, no_fault}
use Rattle.src_tree.proofs.InOrder.{block_first}
use Rattle.src_tree.proofs.DeclaredOnce.{declared_once, once_back}
use Rattle.src_tree.proofs.NoTypingFault.{block_typed, block_back}
use Rattle.src_tree.proofs.NoLimitPassed.{lengths_fit, lengths_back, words_fit, words_back, block_low, block_low_back}
use Rattle.src_tree.specs.declared.faults.TypeError.TheVariants as error

-- the errors after those of declarations
abbrev pub behind : Source → Option TypeError
behind p =
    option_or (statements_fault (typing_fault (context_of p.decls)) p) (limits_fault p)

-- a program is well typed and within the limits
pub record Fine (p : Source) : Type 0 where
  pub typed : IsTyped p
  pub within : IsWithinLimits p

-- a program without a first error is well typed and within the limits
pub fine : (p : Source) → first_fault p ≡ None → Fine p
fine p e =
    let known = context_of p.decls in
    let a = neither (twice_fault [] p.decls) (behind p) e in
    let b = neither (statements_fault (typing_fault known) p) (limits_fault p) a.second in
    let c = neither (variables_fault p.decls) _ b.second in
    let d = neither (length_fault 0 p.decls) _ c.second in
    let f = neither (words_fault 0 0 p.decls) _ d.second in
    let g = neither (statements_fault height_fault p) (weight_fault (weight_of p)) f.second in
    let words : 0 + total_words p.decls ≤ max_words = words_fit 0 0 p.decls (omega arith) f.first in
    record {
      typed = record {
        once = declared_once [] p.decls a.first;
        body = block_typed known Public 0 p.body
            (block_first known (typing_fault known) Public 0 p.body ∙ b.first);
      };
      within = record {
        variables = ltb-false max_variables (length p.decls) (not_true _ _ c.first);
        lengths = lengths_fit 0 p.decls d.first;
        words = omega arith;
        heights = block_low known Public 0 p.body (block_first known height_fault Public 0 p.body ∙ g.first);
        weight = ltb-false max_weight (weight_of p) (not_true _ _ g.second);
      };
    }

-- a program that is well typed and within the limits has no first error
pub faultless : (p : Source) → Fine p → first_fault p ≡ None
faultless p f =
    let known = context_of p.decls in
    let words : total_words p.decls ≤ max_words = f.within.words in
    chained (twice_fault [] p.decls) (behind p) (once_back [] p.decls f.typed.once)
    (chained (statements_fault (typing_fault known) p) (limits_fault p)
    (sym (block_first known (typing_fault known) Public 0 p.body) ∙ block_back known Public 0 p.body f.typed.body)
    (chained (variables_fault p.decls) _
    (no_fault (nat_lt max_variables (length p.decls)) (error.Limit Variables (shown_number (length p.decls)))
    (le-ltb max_variables (length p.decls) f.within.variables))
    (chained (length_fault 0 p.decls) _ (lengths_back 0 p.decls f.within.lengths)
    (chained (words_fault 0 0 p.decls) _ (words_back 0 0 p.decls (omega arith))
    (chained (statements_fault height_fault p) (weight_fault (weight_of p))
    (sym (block_first known height_fault Public 0 p.body) ∙ block_low_back known Public 0 p.body f.within.heights)
    (no_fault (nat_lt max_weight (weight_of p)) (error.Limit Weight (shown_number (weight_of p)))
    (le-ltb max_weight (weight_of p) f.within.weight)))))))
