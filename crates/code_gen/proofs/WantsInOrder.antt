-- The symbols of an object that has a program's layout want what the program's declarations want, in another order, and
-- a store's words by name are the words of its variables.
use Rattle.std.proofs.Common.{◌≡◌, ◌≢◌, ℕ, suc, ◌<◌, ℤ, List, [], ◌∷◌, length, map, get_or, refl, sym, ap, ap₂, ◌∙◌, subst, ⊎_elim, arith}
use Rattle.std.specs.List.Sorted.{IsPermutation}
use Rattle.std.proofs.lemmas.Bool.{cases_lt}
use Rattle.std.proofs.lemmas.List.{ext_get_or, get_or-map, length-map}
use Rattle.std.proofs.lemmas.List.Sorted.{IsPermutation-map}
use Rattle.gr_base.proofs.Permuted.{EachTwo}
use Rattle.gr_word.specs.declared.variables.Want.{Want}
use Rattle.lt_isa.specs.Prelude.{Parts, want_of, wants_of}
use Rattle.src_tree.specs.declared.trees.Decl.{Decl}
use Rattle.src_tree.specs.Prelude.{IsWithinLimits, Store, variable_number, words_of_number, Source, DeclaredOnce}
use Rattle.src_tree.proofs.NamesDiffer.{names_differ}
use Rattle.src_tree.proofs.VariableNumbers.{number-of_declared}
use Rattle.flow_types.specs.Prelude.{declared_want, declared_wants}
use Rattle.bank_alloc.specs.declared.places.Place.{Place}
use Rattle.bank_alloc.specs.Prelude.{IsLaidOut, placed_symbol, placed_symbols}
use Rattle.scratch_alloc.specs.Prelude.{Plan, IsSoundPlan, no_decl, no_place}
use Rattle.code_gen.proofs.WantedInputs.{planned-want_is}

-- what variables want is what their symbols want
wants-of_symbols : (ds : List Decl) (places : List Place) → length places ≡ length ds
    → ((k : ℕ) → k < length ds
    → declared_want (get_or ds k no_decl) ≡ want_of (placed_symbol (get_or ds k no_decl) (get_or places k no_place)))
    → declared_wants ds ≡ map want_of (placed_symbols ds places)
wants-of_symbols [] places same each = refl
wants-of_symbols (d ∷ ds) [] same each = absurd (omega (arith, same))
wants-of_symbols (d ∷ ds) (q ∷ places) same each =
    ap₂ (λ (want : Want) (wants : List Want). want ∷ wants) (each 0 (omega arith))
    (wants-of_symbols ds places (omega (arith, same)) (λ k below. each (suc k) (omega (arith, below))))

pub planned-wants_permuted : (p : Source) (w : ℕ) (plan : Plan) → DeclaredOnce p.decls → IsWithinLimits p
    → IsSoundPlan p w plan → (o : Parts) → IsLaidOut p w plan.places plan.blocks o
    → IsPermutation (declared_wants p.decls) (wants_of o)
planned-wants_permuted p w plan once limits sound o layout =
    subst (λ wants. IsPermutation wants (wants_of o))
    (sym (wants-of_symbols p.decls plan.places sound.places (planned-want_is p w plan once limits sound o layout)))
    (IsPermutation-map want_of (placed_symbols p.decls plan.places) o.symbols layout.symbols.each)

module _ (p : Source) (once : DeclaredOnce p.decls) where
  wanted : (k : ℕ) (d : Want) → k < length (declared_wants p.decls)
      → (k < length p.decls) × (get_or (declared_wants p.decls) k d ≡ declared_want (get_or p.decls k no_decl))
  wanted k d within =
      let below : k < length p.decls = omega (arith, within, length-map p.decls declared_want) in
      (below, get_or-map declared_want p.decls k no_decl d below)

  -- the names of what is wanted differ
  pub wants-differ : EachTwo (λ (one other : Want). one.name ≢ other.name) (declared_wants p.decls)
  wants-differ = record {
    at = λ i j d in_i in_j differ.
        let one = wanted i d in_i in
        let other = wanted j d in_j in
        subst (λ (x : Want). x.name ≢ (get_or (declared_wants p.decls) j d).name) (sym one.1)
        (subst (λ (y : Want). (get_or p.decls i no_decl).name ≢ y.name) (sym other.1)
        (⊎_elim (λ less. names_differ p.decls once i j no_decl less other.0)
        (λ past same. names_differ p.decls once j i no_decl (omega (arith, past, differ)) one.0 (sym same))
        (cases_lt i j)));
  }

  -- the words that a store has for what is wanted
  abbrev pub words_named : Store → Want → List ℤ
  words_named store want = words_of_number store (variable_number p.decls want.name)

  pub store-named : (store : Store) → length store ≡ length p.decls
      → map (words_named store) (declared_wants p.decls) ≡ store
  store-named store size =
      ext_get_or [] (map (words_named store) (declared_wants p.decls)) store
      (length-map (declared_wants p.decls) (words_named store) ∙ length-map p.decls declared_want ∙ sym size)
      (λ k within.
      let in_wants : k < length (declared_wants p.decls) =
      omega (arith, within, length-map (declared_wants p.decls) (words_named store)) in
      let here = wanted k (declared_want no_decl) in_wants in
      get_or-map (words_named store) (declared_wants p.decls) k (declared_want no_decl) [] in_wants
      ∙ ap (words_named store) here.1
      ∙ ap (words_of_number store) (number-of_declared p.decls once k no_decl here.0))
