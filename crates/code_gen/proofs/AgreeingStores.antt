-- Stores that agree on the public variables of a program are inputs that agree on the public symbols of its object.
use Rattle.std.proofs.Common.{◌≡◌, false, ℕ, zero, suc, ◌<◌, ℤ, List, [], ◌∷◌, length, map, get_or, Option, Some, refl, sym, ap, ◌∙◌, arith}
use Rattle.std.proofs.lemmas.Option.{slice_get-get_or}
use Rattle.gr_word.specs.Prelude.{FitsWants}
use Rattle.gr_word.specs.declared.variables.Label.TheVariants.{Public}
use Rattle.lt_isa.specs.declared.symbols.Symbol.{Symbol}
use Rattle.lt_isa.specs.Prelude.{Parts, Agree, AgreeOn}
use Rattle.src_tree.specs.Prelude.{Source, IsWithinLimits, Store, variable_number, words_of_number, DeclaredOnce}
use Rattle.flow_types.specs.Prelude.{declared_wants}
use Rattle.bank_alloc.specs.Prelude.{IsLaidOut}
use Rattle.src_tree.proofs.VariableNumbers.{number-of_declared}
use Rattle.scratch_alloc.specs.Prelude.{Plan, IsSoundPlan, no_decl}
use Rattle.block_cache_gen.specs.Prelude.{setting_for}
use Rattle.compiled_objects.specs.Prelude.{AgreeOnPublic, by_name}
use Rattle.code_gen.proofs.ByName.{IsVariable, setting-of, symbols-variables, inputs-fit}

some-is : (s t : Symbol) → ◌≡◌ {A = Option Symbol} (Some s) (Some t) → s ≡ t
some-is s t is = cc

agree-each : (one other : Symbol → List ℤ) (symbols : List Symbol)
    → ((k : ℕ) (d : Symbol) → k < length symbols → (get_or symbols k d).label ≡ Public
    → one (get_or symbols k d) ≡ other (get_or symbols k d))
    → AgreeOn symbols (map one symbols) (map other symbols)
agree-each one other [] each k s is public = refl
agree-each one other (s ∷ symbols) each zero t is public =
    ap Some (each 0 s (omega arith) (ap (λ (u : Symbol). u.label) (some-is s t is) ∙ public))
agree-each one other (s ∷ symbols) each (suc k) t is public =
    agree-each one other symbols (λ k d within. each (suc k) d (omega arith)) k t is public

-- the inputs of stores that agree on what is public do so
pub planned-inputs_agree : (p : Source) (w : ℕ) (plan : Plan) → DeclaredOnce p.decls → IsWithinLimits p
    → IsSoundPlan p w plan → (o : Parts) → IsLaidOut p w plan.places plan.blocks o
    → (one other : Store) → FitsWants (declared_wants p.decls) one → FitsWants (declared_wants p.decls) other
    → AgreeOnPublic p.decls one other → Agree o (by_name p o one) (by_name p o other)
planned-inputs_agree p w plan once limits sound o layout one other first second agree = record {
  first_fits = inputs-fit p w plan once limits sound o layout (setting_for p plan o.profile false []) (setting-of p plan o) one first;
  second_fits = inputs-fit p w plan once limits sound o layout (setting_for p plan o.profile false []) (setting-of p plan o) other second;
  public_words = agree-each (named one) (named other) o.symbols (λ k d within public.
      of_variable (get_or o.symbols k d)
      (symbols-variables p w plan once limits sound o layout (setting_for p plan o.profile false []) (setting-of p plan o) k d within) public);
}
  where
    named : Store → Symbol → List ℤ
    named store s = words_of_number store (variable_number p.decls s.name)

    of_variable : (s : Symbol)
        → IsVariable p w plan once limits sound o layout (setting_for p plan o.profile false []) (setting-of p plan o) s → s.label ≡ Public
        → named one s ≡ named other s
    of_variable s variable public =
        let k = variable.number in
        let number : variable_number p.decls s.name ≡ k =
        ap (λ t. variable_number p.decls t.name) variable.is
        ∙ number-of_declared p.decls once k no_decl variable.below in
        ap (words_of_number one) number
        ∙ agree k (get_or p.decls k no_decl) (slice_get-get_or p.decls k no_decl variable.below)
        (sym (ap (λ t. t.label) variable.is) ∙ public)
        ∙ ap (words_of_number other) (sym number)
