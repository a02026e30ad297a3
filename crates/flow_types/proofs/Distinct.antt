-- The variables of a well typed program within the limits have different names, and a scalar has one word.
use Rattle.std.proofs.Common.{◌≡◌, ◌≢◌, ℕ, suc, ◌<◌, List, [], ◌∷◌, length, get_or, Option, Some, None, Result, Ok, Err, refl, sym, ap, ◌∙◌, subst, arith}
use Rattle.std.specs.Prelude.{IfOk}
use Rattle.std.specs.declared.vec.Vec.{Vec}
use Rattle.gr_word.specs.declared.variables.Want.{Want}
use Rattle.std.proofs.lemmas.List.Elements.{All-map}
use Rattle.gr_word.specs.declared.variables.Shape.{Shape}
use Rattle.gr_word.specs.declared.variables.Shape.TheVariants.{Scalar, Array}
use Rattle.gr_word.specs.Prelude.{AreDistinct, AreVariables}
use Rattle.src_tree.specs.declared.trees.Decl.{Decl}
use Rattle.src_tree.specs.Prelude.{Source, shape_of, words_of_length, IsTyped}
use Rattle.src_tree.proofs.NamesDiffer.{names_differ}
use Rattle.flow_types.specs.Prelude.{declared_want, declared_wants}

distinct-from : (ds : List Decl)
    → ((i j : ℕ) (d : Decl) → i < j → j < length ds → (get_or ds i d).name ≢ (get_or ds j d).name)
    → AreDistinct (declared_wants ds)
distinct-from [] apart = tt
distinct-from (x ∷ ds) apart = (
  All-map (λ other. x.name ≢ other.name) declared_want ds
      (λ k d within. apart 0 (suc k) d (omega arith) (omega (arith, within))),
  distinct-from ds (λ i j d less within. apart (suc i) (suc j) d (omega (arith, less)) (omega (arith, within))),
)

one-word : (words : Option ℕ) → shape_of words ≡ Scalar → words_of_length words ≡ 1
one-word None is = refl
one-word (Some n) is = absurd (let f : ◌≡◌ {A = Shape} Array Scalar = is in cc)

pub wants_are_variables : (p : Source) → IsTyped p → AreVariables (declared_wants p.decls)
wants_are_variables p typed = record {
  distinct = distinct-from p.decls (names_differ p.decls typed.once);
  scalars = All-map (λ want. want.shape ≡ Scalar → want.length ≡ 1) declared_want p.decls
      (λ k d within. one-word (get_or p.decls k d).length);
}

-- the wants that are made of its declarations are variables
pub made-are-variables : {Z E : Type 0} (made : Result (Vec Want Z) E) (p : Source) (decls : List Decl)
    → decls ≡ p.decls → IsTyped p → IfOk made (λ wants. wants.items ≡ declared_wants decls)
    → IfOk made (λ wants. AreVariables wants.items)
made-are-variables (Ok wants) p decls same typed is =
    subst AreVariables (sym (is ∙ ap declared_wants same)) (wants_are_variables p typed)
made-are-variables (Err e) p decls same typed is = tt
