-- Inputs that are made of each want by itself are the same for a program and, by name, for its object.
use Rattle.std.proofs.Common.{◌≡◌, false, ℕ, suc, ◌<◌, ℤ, List, [], ◌∷◌, length, map, get_or, refl, sym, ap, ap₂, ◌∙◌, arith}
use Rattle.std.proofs.lemmas.List.{get_or-map, length-map}
use Rattle.gr_word.specs.declared.variables.Want.{Want}
use Rattle.lt_isa.specs.declared.symbols.Symbol.{Symbol}
use Rattle.lt_isa.specs.Prelude.{Parts, want_of, wants_of}
use Rattle.src_tree.specs.declared.trees.Decl.{Decl}
use Rattle.src_tree.specs.Prelude.{shape_of, IsWithinLimits, Store, variable_number, words_of_number, Source, DeclaredOnce}
use Rattle.src_tree.proofs.VariableNumbers.{number-of_declared}
use Rattle.flow_types.specs.Prelude.{declared_want, declared_wants}
use Rattle.bank_alloc.specs.declared.places.Place.{Place}
use Rattle.bank_alloc.specs.Prelude.{IsLaidOut, placed_symbol}
use Rattle.scratch_alloc.specs.Prelude.{Plan, IsSoundPlan, no_decl, no_place}
use Rattle.block_cache_gen.specs.Prelude.{setting_for}
use Rattle.compiled_objects.specs.Prelude.{by_name}
use Rattle.code_gen.proofs.ByName.{IsVariable, setting-of, symbols-variables}

-- what is made of each symbol's want
each-want : (named : Symbol → List ℤ) (words : Want → List ℤ) (symbols : List Symbol) → ((k : ℕ) (d : Symbol)
    → k < length symbols → named (get_or symbols k d) ≡ words (want_of (get_or symbols k d)))
    → map named symbols ≡ map words (map want_of symbols)
each-want named words [] each = refl
each-want named words (s ∷ symbols) each =
    ap₂ (λ (x : List ℤ) (xs : List (List ℤ)). x ∷ xs) (each 0 s (omega arith))
    (each-want named words symbols (λ k d within. each (suc k) d (omega arith)))

module _ (p : Source) (w : ℕ) (plan : Plan) (once : DeclaredOnce p.decls) (limits : IsWithinLimits p)
    (sound : IsSoundPlan p w plan) (o : Parts) (layout : IsLaidOut p w plan.places plan.blocks o) where
  abbrev decl : ℕ → Decl
  decl k = get_or p.decls k no_decl

  abbrev place : ℕ → Place
  place k = get_or plan.places k no_place

  -- what is wanted of it is what its symbol wants
  pub planned-want_is : (k : ℕ) → k < length p.decls → declared_want (decl k) ≡ want_of (placed_symbol (decl k) (place k))
  planned-want_is k below =
      let d = decl k in
      ap (λ n. record { name = d.name; label = d.label; shape = shape_of d.length; length = n })
      (sym (sound.place k below).words)

  -- inputs in the order of the symbols
  pub planned-inputs_wanted : (words : Want → List ℤ)
      → by_name p o (map words (declared_wants p.decls)) ≡ map words (wants_of o)
  planned-inputs_wanted words =
      each-want named words o.symbols (λ k d within. of_variable (get_or o.symbols k d)
      (symbols-variables p w plan once limits sound o layout (setting_for p plan o.profile false []) (setting-of p plan o) k d within))
    where
      store : Store
      store = map words (declared_wants p.decls)

      named : Symbol → List ℤ
      named s = words_of_number store (variable_number p.decls s.name)

      of_variable : (s : Symbol) → IsVariable p w plan once limits sound o layout (setting_for p plan o.profile false []) (setting-of p plan o) s
          → named s ≡ words (want_of s)
      of_variable s variable =
          let k = variable.number in
          let number : variable_number p.decls s.name ≡ k =
          ap (λ (t : Symbol). variable_number p.decls t.name) variable.is
          ∙ number-of_declared p.decls once k no_decl variable.below in
          ap (words_of_number store) number
          ∙ get_or-map words (declared_wants p.decls) k (declared_want no_decl) []
          (omega (arith, variable.below, length-map p.decls declared_want))
          ∙ ap words (get_or-map declared_want p.decls k no_decl (declared_want no_decl) variable.below
          ∙ planned-want_is k variable.below
          ∙ ap want_of (sym variable.is))
