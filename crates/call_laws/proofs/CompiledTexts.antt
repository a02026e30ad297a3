-- The texts that the runs of a compiled object read and write are those of its program.
use Rattle.std.proofs.Common.{◌≡◌, ℕ, ◌+◌, ◌*◌, ◌<◌, ◌≤◌, ℤ, List, length, map, Some, Result, Ok, sym, ap, ◌∙◌, subst, ⊎_elim, arith}
use Rattle.std.specs.Result.{result_map_both}
use Rattle.std.specs.List.Sorted.{IsPermutation}
use Rattle.std.proofs.lemmas.Bool.{cases_lt}
use Rattle.std.proofs.lemmas.List.{length-map}
use Rattle.gr_word.specs.declared.variables.Want.{Want}
use Rattle.call_steps.specs.declared.targets.Target.{Target}
use Rattle.lt_isa.specs.Prelude.{Parts, outputs, Halts, IsShaped, FitsObject, start_state, final, wants_of}
use Rattle.lt_isa.proofs.Ends.{final_halted}
use Rattle.lt_isa.proofs.Starts.{IsShaped-start}
use Rattle.object_file.proofs.ObjectLaws.{spelling-injective}
use Rattle.run_data.specs.Prelude.{json_of, inputs_of, output_of}
use Rattle.run_data.proofs.FaultOrder.{inputs_permuted}
use Rattle.run_data.proofs.MemberOrder.{output_permuted}
use Rattle.run_data.proofs.ReadWords.{inputs_fit}
use Rattle.run_data.proofs.Shown.{fitting_length}
use Rattle.src_tree.specs.Prelude.{IsWithinLimits, Store, meaning, Source, IsTyped}
use Rattle.src_tree.proofs.StoreLengths.{length-meaning}
use Rattle.flow_types.specs.Prelude.{declared_want, declared_wants}
use Rattle.flow_types.proofs.Distinct.{wants_are_variables}
use Rattle.stretches.specs.Prelude.{greatest_costs}
use Rattle.compiled_objects.specs.Prelude.{by_name}
use Rattle.code_gen.proofs.WantedInputs.{planned-inputs_wanted}
use Rattle.code_gen.proofs.WantsInOrder.{planned-wants_permuted, wants-differ, words_named, store-named}
use Rattle.call_steps.specs.Prelude.{IsCompiledTo, plan_for}
use Rattle.call_laws.specs.Prelude.{IsStoreOf, TextsAsMeant, CompiledTexts}
use Rattle.call_laws.proofs.OnTarget.{target-sound}
use Rattle.lt_isa.proofs.Variables as symbols

ok-same : {X E : Type 0} (x y : X) → ◌≡◌ {A = Result X E} (Ok x) (Ok y) → x ≡ y
ok-same x y e = cc

-- the object that was compiled
module _ (p : Source) (target : Target) (bytes : List ℕ) (typed : IsTyped p) (limits : IsWithinLimits p)
    (compiled : IsCompiledTo p target bytes) where
  abbrev o : Parts
  o = compiled.o

  arranges : (words : Want → List ℤ) → by_name p o (map words (declared_wants p.decls)) ≡ map words (wants_of o)
  arranges words =
      planned-inputs_wanted p target.profile.block_log (plan_for target.fast p target.profile.block_log) typed.once limits
      (target-sound p target bytes limits compiled) o compiled.layout words

  permuted : IsPermutation (declared_wants p.decls) (wants_of o)
  permuted =
      planned-wants_permuted p target.profile.block_log (plan_for target.fast p target.profile.block_log) typed.once
      limits (target-sound p target bytes limits compiled) o compiled.layout

  text-given : (text : List ℕ)
      → inputs_of (wants_of o) (json_of text)
      ≡ result_map_both (by_name p o) (λ fault. fault) (inputs_of (declared_wants p.decls) (json_of text))
  text-given text =
      inputs_permuted (declared_wants p.decls) (wants_of o) permuted (wants-differ p typed.once) (by_name p o) arranges
      (json_of text)

  text-fits : (text : List ℕ) (store : Store) → inputs_of (declared_wants p.decls) (json_of text) ≡ Ok store
      → IsStoreOf p store
  text-fits text store is = inputs_fit (declared_wants p.decls) text store (wants_are_variables p typed) is

  text-shown : (store : Store) → length store ≡ length p.decls
      → output_of (wants_of o) (by_name p o store) ≡ output_of (declared_wants p.decls) store
  text-shown store size =
      let words = words_named p typed.once store in
      let is : map words (declared_wants p.decls) ≡ store = store-named p typed.once store size in
      ap (λ s. output_of (wants_of o) (by_name p o s)) (sym is)
      ∙ ap (output_of (wants_of o)) (arranges words)
      ∙ output_permuted words (declared_wants p.decls) (wants_of o) permuted (wants-differ p typed.once)
      ∙ ap (output_of (declared_wants p.decls)) is

  -- a run that has halted leaves what the program does, however many cycles it was given
  outputs-left : (store left : Store) (turns cycles : ℕ) → IsStoreOf p store → FitsObject o (by_name p o store)
      → meaning p store turns ≡ Some left → Halts o (by_name p o store) cycles
      → outputs o (final o (by_name p o store) cycles) ≡ by_name p o left
  outputs-left store left turns cycles fits inputs is halts =
      let start = start_state o (by_name p o store) in
      let shaped : IsShaped o start = IsShaped-start o (by_name p o store) inputs in
      let enough = greatest_costs o o.code * (turns + 1) in
      let done = compiled.implements.halts store left turns fits is in
      ap (outputs o)
      (⊎_elim
      (λ (less : cycles < enough).
      sym (final_halted o compiled.spells.in_range start shaped cycles enough halts.0 (omega (arith, less)) halts.1))
      (λ (past : enough ≤ cycles).
      final_halted o compiled.spells.in_range start shaped enough cycles done.0 past done.1)
      (cases_lt cycles enough))
      ∙ compiled.implements.leaves store left turns fits is

  text-written : (text : List ℕ) (store left : Store) (inputs : List (List ℤ)) (turns cycles : ℕ)
      → inputs_of (declared_wants p.decls) (json_of text) ≡ Ok store → meaning p store turns ≡ Some left
      → inputs_of (wants_of o) (json_of text) ≡ Ok inputs → Halts o inputs cycles
      → output_of (wants_of o) (outputs o (final o inputs cycles)) ≡ output_of (declared_wants p.decls) left
  text-written text store left inputs turns cycles given is read halts =
      let same : inputs ≡ by_name p o store =
      ok-same inputs (by_name p o store)
      (sym read ∙ text-given text ∙ ap (result_map_both (by_name p o) (λ fault. fault)) given) in
      let fits = text-fits text store given in
      let in_object : FitsObject o inputs =
      inputs_fit (wants_of o) text inputs (symbols.wants_are_variables o compiled.spells.in_range) read in
      let count : length store ≡ length p.decls =
      sym (fitting_length (declared_wants p.decls) store fits) ∙ length-map p.decls declared_want in
      ap (λ words. output_of (wants_of o) (outputs o (final o words cycles))) same
      ∙ ap (output_of (wants_of o))
      (outputs-left store left turns cycles fits (subst (FitsObject o) same in_object) is
      (subst (λ words. Halts o words cycles) same halts))
      ∙ text-shown left (length-meaning p store left turns is ∙ count)

  own-texts : TextsAsMeant p compiled.o
  own-texts = record { given = text-given; fits = text-fits; shown = text-shown; written = text-written }

-- it is the only object that its bytes encode
pub compiled-texts : CompiledTexts
compiled-texts p target bytes o typed limits compiled spells =
    subst (TextsAsMeant p)
    (spelling-injective compiled.o o compiled.spells.in_range spells.in_range
    (sym compiled.spells.spelled ∙ spells.spelled))
    (own-texts p target bytes typed limits compiled)
