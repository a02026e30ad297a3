-- The error that is found in a program is its first error, and none is found exactly if the program is well typed and
-- within the limits.
use Rattle.std.proofs.Common.{◌≡◌, ℕ, ◌≤◌, nat_lt, Bool, true, false, [], Option, Some, None, Result, Ok, Err, refl, sym, ap, ◌∙◌, arith}
use Rattle.std.specs.Option.{option_or}
use Rattle.std.proofs.lemmas.Bool.{ltb-true, ltb-false, lt-ltb, le-ltb}
use Rattle.gr_word.specs.declared.variables.Label.TheVariants.{Public}
use Rattle.src_tree.specs.Prelude.{Source, Context, context_of, max_weight, block_weight, weight_of, shown_number, where_true, twice_fault, typing_fault, height_fault, statements_fault, variables_fault, length_fault, words_fault, weight_fault, first_fault}
use Rattle.src_tree.specs.declared.faults.TypeError.{TypeError}
use Rattle.src_tree.specs.declared.faults.Which.TheVariants.{Weight}
use Rattle.flow_types.specs.Prelude.{ExplainsProgram, nothing_known, names_gathered, IsRefusal, fault_of, walk_block, sizes_fault, found}
use Rattle.src_tree.proofs.Chains.{or_assoc}
use Rattle.src_tree.proofs.Faultless.{behind, fine}
use Rattle.src_tree.proofs.FirstFaults.{cause}
use Rattle.flow_types.proofs.Walked.{first_walked}
use Rattle.flow_types.proofs.Capped.{typing_capped, height_capped, same_number}
use Rattle.flow_types.proofs.KnownNames.{Says, gathers}
use Rattle.src_tree.specs.declared.faults.TypeError.TheVariants as error

said : (p : Source) → Says (twice_fault [] p.decls) p.decls (names_gathered nothing_known 0 p.decls)
said p = gathers [] p.decls

-- an error of declarations is the first error
refused : (p : Source) (e : TypeError) (r : Result Context TypeError) → Says (twice_fault [] p.decls) p.decls r
    → r ≡ Err e → first_fault p ≡ Some e
refused p e (Ok known) s f = absurd cc
refused p e (Err g) s f = ap (λ a. option_or a (behind p)) s ∙ (let h : Err g ≡ Err e = f in cc)

-- an error of declarations explains the program
pub declarations_refused : (p : Source) (e : TypeError) → IsRefusal e (names_gathered nothing_known 0 p.decls)
    → ExplainsProgram e p
declarations_refused p error.Memory h = tt
declarations_refused p e h = cause p e (refused p e (names_gathered nothing_known 0 p.decls) (said p) h)

-- the names of all declarations
pub record Named (p : Source) (known : Context) : Type 0 where
  pub once : twice_fault [] p.decls ≡ None
  pub context : known ≡ context_of p.decls

named_as : (p : Source) (known : Context) (r : Result Context TypeError) → Says (twice_fault [] p.decls) p.decls r
    → r ≡ Ok known → Named p known
named_as p known (Ok k) s e =
    record { once = s.0; context = sym (let f : Ok k ≡ Ok known = e in ok_is k known f) ∙ s.1 } where
      ok_is : (a b : Context) → ◌≡◌ {A = Result Context TypeError} (Ok a) (Ok b) → a ≡ b
      ok_is a b e = cc
named_as p known (Err e) s f = absurd cc

pub named : (p : Source) (known : Context) → names_gathered nothing_known 0 p.decls ≡ Ok known → Named p known
named p known e = named_as p known (names_gathered nothing_known 0 p.decls) (said p) e

-- a weight is tested and reported up to 2^64 - 1
same_test : (w : ℕ) (b : Bool) → nat_lt max_weight w ≡ b → nat_lt max_weight (shown_number w) ≡ nat_lt max_weight w
same_test w true e = lt-ltb max_weight (shown_number w) (let h = ltb-true max_weight w e in omega arith) ∙ sym e
same_test w false e = le-ltb max_weight (shown_number w) (let h = ltb-false max_weight w e in omega arith) ∙ sym e

weighed : (w : ℕ) → weight_fault (shown_number w) ≡ weight_fault w
weighed w =
    ap (λ b. where_true b (error.Limit Weight (shown_number (shown_number w)))) (same_test w (nat_lt max_weight w) refl)
    ∙ ap (λ n. where_true (nat_lt max_weight w) (error.Limit Weight n)) (same_number w)

-- the names of all declarations are known, and so is the weight of the body
pub record IsJudged (p : Source) (known : Context) (w : ℕ) : Type 0 where
  pub names : names_gathered nothing_known 0 p.decls ≡ Ok known
  pub weight : w ≡ shown_number (block_weight known Public p.body)

-- the weight that is known of the body is the program's
pub weight_named : {p : Source} {known : Context} {w : ℕ} → IsJudged p known w → w ≡ shown_number (weight_of p)
weight_named {p} {known} h = h.weight
    ∙ ap (λ k. shown_number (block_weight k Public p.body)) (named p known h.names).context

-- with the names and the weight of the program, the error that is found is the first
pub first_found : {p : Source} {known : Context} {w : ℕ} → IsJudged p known w → found known w p ≡ first_fault p
first_found {p} {known} {w} h =
    let n = named p known h.names in
    ap (λ k. found k w p) n.context
    ∙ ap (λ a. option_or a (option_or (sizes_fault p)
    (option_or (fault_of (walk_block (context_of p.decls) height_fault Public 0 p.body)) (weight_fault w))))
    (first_walked (context_of p.decls) (typing_fault (context_of p.decls))
    (typing_capped (context_of p.decls)) Public p.body)
    ∙ ap (λ a. option_or (typing p) (option_or (sizes_fault p) (option_or a (weight_fault w))))
    (first_walked (context_of p.decls) height_fault height_capped Public p.body)
    ∙ ap (λ a. option_or (typing p) (option_or (sizes_fault p) (option_or (heights p) a)))
    (ap weight_fault (weight_named h) ∙ weighed (weight_of p))
    ∙ ap (option_or (typing p))
    (or_assoc (variables_fault p.decls) (option_or (length_fault 0 p.decls) (words_fault 0 0 p.decls))
    (option_or (heights p) (weight_fault (weight_of p)))
    ∙ ap (option_or (variables_fault p.decls))
    (or_assoc (length_fault 0 p.decls) (words_fault 0 0 p.decls) (option_or (heights p) (weight_fault (weight_of p)))))
    ∙ sym (ap (λ a. option_or a (behind p)) n.once)
  where
    typing : Source → Option TypeError
    typing q = statements_fault (typing_fault (context_of q.decls)) q

    heights : Source → Option TypeError
    heights q = statements_fault height_fault q

-- the first error explains the program
pub explained : (p : Source) (e : TypeError) → first_fault p ≡ Some e → ExplainsProgram e p
explained p error.Memory h = tt
explained p e h = cause p e h

-- the weight of a program without an error is exact
pub weight_exact : (p : Source) (w : ℕ) → w ≡ shown_number (weight_of p) → first_fault p ≡ None → w ≡ weight_of p
weight_exact p w is e = let h : weight_of p ≤ max_weight = (fine p e).within.weight in omega arith
