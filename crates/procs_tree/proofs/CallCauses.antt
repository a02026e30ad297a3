-- The first fault of the relation is the one that is computed.
use Rattle.std.proofs.Common.{◌≡◌, ℕ, nat_lt, Bool, true, false, Option, Some, None, ◌⊎◌, ⊎_elim, inl, inr, refl, sym, ◌∙◌, subst}
use Rattle.std.specs.Option.{option_or}
use Rattle.std.proofs.lemmas.Option.{same_Some}
use Rattle.std.proofs.lemmas.Bool.{ltb-true, lt-ltb}
use Rattle.procs_tree.specs.declared.errors.InlineError.{InlineError}
use Rattle.procs_tree.specs.declared.errors.InlineError.TheVariants.{TooLarge}
use Rattle.procs_tree.specs.Prelude.{File, inlined_file, statements_in, HaveNone, ProcedureFault, max_statements, IsFirstCallFault, InProcedure, InCall, TooMany, none_named, procedures_fault, calls_fault, fault_where, inline_fault}
use Rattle.procs_tree.proofs.NamesAgain.{procedure_found, procedure_only, procedures_clear, procedures_none}
use Rattle.procs_tree.proofs.FaultyCalls.{call_found, call_only, calls_clear, calls_none}

-- ---- chains of faults

either : (a b : Option InlineError) (e : InlineError) → option_or a b ≡ Some e
    → (a ≡ Some e) ⊎ ((a ≡ None) × (b ≡ Some e))
either None b e h = inr (refl, h)
either (Some x) b e h = inl h

first-is : (a b : Option InlineError) (e : InlineError) → a ≡ Some e → option_or a b ≡ Some e
first-is None b e h = absurd cc
first-is (Some x) b e h = h

after-none : (a b r : Option InlineError) → a ≡ None → b ≡ r → option_or a b ≡ r
after-none None b r h k = k
after-none (Some x) b r h k = absurd cc

is-true : (b : Bool) (x e : InlineError) → fault_where b x ≡ Some e → (b ≡ true) × (x ≡ e)
is-true true x e h = (refl, same_Some x e h)
is-true false x e h = absurd cc

fault-is : (b : Bool) (x : InlineError) → b ≡ true → fault_where b x ≡ Some x
fault-is true x h = refl
fault-is false x h = absurd cc

module _ (f : File) where
  abbrev statements : ℕ
  statements = statements_in (inlined_file f).body

  abbrev large : Option InlineError
  large = fault_where (nat_lt max_statements statements) TooLarge

  pub caused : (e : InlineError) → IsFirstCallFault f e → inline_fault f ≡ Some e
  caused e (InProcedure e' first) =
      first-is (procedures_fault none_named 0 f.procedures) _ _ (procedure_found f.procedures e' first)
  caused e (InCall none e' first) =
      after-none (procedures_fault none_named 0 f.procedures) _ _ (procedures_none f.procedures none)
      (first-is (calls_fault f) large _ (call_found f e' none first))
  caused e (TooMany none clear many) =
      after-none (procedures_fault none_named 0 f.procedures) _ _ (procedures_none f.procedures none)
      (after-none (calls_fault f) large _ (calls_none f clear)
      (fault-is (nat_lt max_statements statements) TooLarge (lt-ltb max_statements statements many)))

  in-calls : (e : InlineError) → HaveNone ProcedureFault f.procedures → option_or (calls_fault f) large ≡ Some e
      → IsFirstCallFault f e
  in-calls e none some = ⊎_elim found clear (either (calls_fault f) large e some)
    where
      found : calls_fault f ≡ Some e → IsFirstCallFault f e
      found is = InCall none e (call_only f e none is)

      clear : (calls_fault f ≡ None) × (large ≡ Some e) → IsFirstCallFault f e
      clear rest =
          let is = is-true (nat_lt max_statements statements) TooLarge e rest.1 in
          subst (IsFirstCallFault f) is.1
          (TooMany none (calls_clear f none rest.0) (ltb-true max_statements statements is.0))

  pub cause : (e : InlineError) → inline_fault f ≡ Some e → IsFirstCallFault f e
  cause e some = ⊎_elim found clear (either (procedures_fault none_named 0 f.procedures) _ e some)
    where
      found : procedures_fault none_named 0 f.procedures ≡ Some e → IsFirstCallFault f e
      found is = InProcedure e (procedure_only f.procedures e is)

      clear : (procedures_fault none_named 0 f.procedures ≡ None) × (option_or (calls_fault f) large ≡ Some e)
          → IsFirstCallFault f e
      clear rest = in-calls e (procedures_clear f.procedures rest.0) rest.1

  -- there is one at most
  pub one-cause : (a b : InlineError) → IsFirstCallFault f a → IsFirstCallFault f b → a ≡ b
  one-cause a b one other = same_Some a b (sym (caused a one) ∙ caused b other)

  pub not-caused : inline_fault f ≡ None → (e : InlineError) → IsFirstCallFault f e → ⊥
  not-caused none e first =
      absurd (let is : ◌≡◌ {A = Option InlineError} None (Some e) = sym none ∙ caused e first in cc)

  pub no-fault : ((e : InlineError) → IsFirstCallFault f e → ⊥) → inline_fault f ≡ None
  no-fault none = by (inline_fault f) refl
    where
      by : (o : Option InlineError) → inline_fault f ≡ o → o ≡ None
      by None is = refl
      by (Some e) is = absurd (none e (cause e is))
