-- What is true of each verb's name, and of any other text, is true of all texts.
use Rattle.std.proofs.Common.{◌≡◌, ◌⊎◌, inl, inr, Bool, true, false, List, [], ◌∷◌, codes, Option, Some, None, refl, sym, ◌∙◌, subst, ⊎_elim}
use Rattle.std.specs.Str.{bytes_eq}
use Rattle.std.proofs.lemmas.Slice.Eq.{bytes_eq-Decides}
use Rattle.command_words.specs.Prelude.{IsAmong, Text, verb_names}
use Rattle.command_words.proofs.VerbWords.{words-ask}
use Rattle.call_steps.specs.Prelude.{Work}
use Rattle.call_laws.specs.Prelude.{work_of, works}

either : (x y : Text) → (x ≡ y) ⊎ (x ≡ y → ⊥)
either x y = by (bytes_eq x y) refl
  where
    by : (b : Bool) → bytes_eq x y ≡ b → (x ≡ y) ⊎ (x ≡ y → ⊥)
    by true e = inl ((bytes_eq-Decides x y).0 e)
    by false e = inr (λ same. let f : ◌≡◌ {A = Bool} false true = sym e ∙ (bytes_eq-Decides x y).1 same in absurd cc)

among : (names : List Text) (x : Text) → IsAmong names x ⊎ (IsAmong names x → ⊥)
among [] x = inr (λ none. none)
among (y ∷ names) x =
    ⊎_elim (λ is. inl (inl is))
    (λ other. ⊎_elim (λ later. inl (inr later)) (λ none. inr (λ one. elim one [ inl e ↦ other e | inr l ↦ none l ]))
    (among names x))
    (either x y)

module _ (P : Text → Type 0) (check : P (codes "check")) (trace : P (codes "trace")) (run : P (codes "run"))
    (assemble : P (codes "asm")) (disassemble : P (codes "dis")) (evaluate : P (codes "eval"))
    (compile : P (codes "compile")) (sample : P (codes "sample")) (bus : P (codes "bus")) (infer : P (codes "infer"))
    (other : (verb : Text) → (IsAmong verb_names verb → ⊥) → P verb) where
  at : (verb known : Text) → verb ≡ known → P known → P verb
  at verb known is of = subst P (sym is) of

  of-known : (verb : Text) → IsAmong verb_names verb → P verb
  of-known verb (inl is) = at verb _ is check
  of-known verb (inr (inl is)) = at verb _ is trace
  of-known verb (inr (inr (inl is))) = at verb _ is run
  of-known verb (inr (inr (inr (inl is)))) = at verb _ is assemble
  of-known verb (inr (inr (inr (inr (inl is))))) = at verb _ is disassemble
  of-known verb (inr (inr (inr (inr (inr (inl is)))))) = at verb _ is evaluate
  of-known verb (inr (inr (inr (inr (inr (inr (inl is))))))) = at verb _ is compile
  of-known verb (inr (inr (inr (inr (inr (inr (inr (inl is)))))))) = at verb _ is sample
  of-known verb (inr (inr (inr (inr (inr (inr (inr (inr (inl is))))))))) = at verb _ is bus
  of-known verb (inr (inr (inr (inr (inr (inr (inr (inr (inr (inl is)))))))))) = at verb _ is infer
  of-known verb (inr (inr (inr (inr (inr (inr (inr (inr (inr (inr none)))))))))) = absurd none

  pub each-verb : (verb : Text) → P verb
  each-verb verb = ⊎_elim (of-known verb) (other verb) (among verb_names verb)

-- words whose first isn't a verb ask for no work
pub asks-nothing : (verb : Text) (more : List Text) (work : Work) → (IsAmong verb_names verb → ⊥)
    → work_of (verb ∷ more) ≡ Some work → ⊥
asks-nothing verb more work unknown asked =
    let f : ◌≡◌ {A = Option Work} None (Some work) = sym ((words-ask works).no_verb verb more unknown) ∙ asked in cc
