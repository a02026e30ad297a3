-- The tokens of a call that lead to each state of it, and how they can be completed.
use Rattle.std.proofs.Common.{◌≡◌, ℕ, ◌+◌, List, [], ◌∷◌, ◌++◌, Option, Some, None, refl, sym, subst, append_assoc, arith}
use Rattle.std.proofs.lemmas.List.{append-nil}
use Rattle.src_lexer.specs.declared.tokens.Kind.{Kind}
use Rattle.src_tree.specs.Prelude.{Tree}
use Rattle.procs_tree.specs.Prelude.{Statement, Call}
use Rattle.src_parser.specs.Prelude.{Limits, operators, SpellsTree, Reading, At, Wanted, TokenStep, Moves, Stops, Deep, reads, whole, used_of, Advance, Goes}
use Rattle.src_parser.proofs.Held.{HasNoName, no_name_in_both, Start}
use Rattle.src_parser.proofs.Reached.{Reached, Wants, reaches, Ended, ends, Fitting, fitting}
use Rattle.procs_parser.specs.Prelude.{Opened, Argument, Called, CallState, InCall, CallStep, Still, Done, behind_argument, argument_ends, in_argument, first_argument, call_advanced, SpellsTrees, Last, Before, Arguments, NoArgument, Given, operators_of}
use Rattle.src_lexer.specs.declared.tokens.Kind.TheVariants as kind

-- tokens that are a call
pub data IsCall (most : Limits) : List Kind → Statement → Type 0 where
  ACall : {tokens : List Kind} {es : List Tree} (name : List ℕ) → Arguments most tokens es
      → IsCall most (kind.Word name ∷ kind.LParen ∷ (tokens ++ kind.RParen ∷ kind.Semi ∷ [])) (Call name es)

-- these tokens lead to the next argument, after these, with this many used operators
pub data Argues (most : Limits) : (before : List Tree) (start : ℕ) → List Kind → Type 0 where
  IsFirst : Argues most [] 0 []
  IsNext : {tokens : List Kind} {es : List Tree} → SpellsTrees most.brackets tokens es
      → Argues most es (operators_of es) (tokens ++ kind.Semi ∷ [])

-- these tokens after `(` lead to this state of a call
pub data CallStands (most : Limits) : CallState → List Kind → Type 0 where
  IsOpened : CallStands most (InCall [] Opened) []
  IsArgument : {before : List Tree} {start : ℕ} {x : Reading} {ts us : List Kind}
      → Argues most before start ts → Reached most 0 start x us
      → CallStands most (InCall before (Argument x)) (ts ++ us)
  IsCalled : {tokens : List Kind} {es : List Tree} → Arguments most tokens es
      → CallStands most (InCall es Called) (tokens ++ kind.RParen ∷ [])

abbrev pub StepStands : Limits → CallStep → List Kind → Type 0
StepStands most (Still call) tokens = CallStands most call tokens
StepStands most (Done es) tokens = (name : List ℕ) → IsCall most (kind.Word name ∷ kind.LParen ∷ tokens) (Call name es)

-- one expression more
trees_more : {most : ℕ} {tokens us : List Kind} {es : List Tree} {e : Tree} → SpellsTrees most tokens es
    → SpellsTree most 0 0 us e → SpellsTrees most (tokens ++ kind.Semi ∷ us) (es ++ e ∷ [])
trees_more (Last s) t = Before s (Last t)
trees_more {most} {us = us} {e = e} (Before {tokens = tokens} {rest = rest} {e = a} {es = es} s others) t =
    subst (λ z. SpellsTrees most z (a ∷ (es ++ e ∷ []))) (sym (append_assoc tokens (kind.Semi ∷ rest) (kind.Semi ∷ us)))
    (Before s (trees_more others t))

operators_more : (es : List Tree) (e : Tree) → operators_of (es ++ e ∷ []) ≡ operators_of es + operators e
operators_more [] e = omega arith
operators_more (a ∷ es) e = let h = operators_more es e in omega (arith, h)

went : (most : Limits) (tokens : List Kind) (x y : CallStep) → ◌≡◌ {A = Advance CallStep} (Goes x) (Goes y)
    → StepStands most x tokens → StepStands most y tokens
went most tokens x y e s = subst (λ z. StepStands most z tokens) (let f : x ≡ y = cc in f) s

stands_at : {most : Limits} {call : CallState} (ts us : List Kind) → ts ≡ us → CallStands most call ts
    → CallStands most call us
stands_at {most} {call} ts us e s = subst (λ z. CallStands most call z) e s

is_call_at : {most : Limits} {name : List ℕ} {s : Statement} (ts us : List Kind) → ts ≡ us
    → IsCall most (kind.Word name ∷ kind.LParen ∷ ts) s → IsCall most (kind.Word name ∷ kind.LParen ∷ us) s
is_call_at {most} {name} {s} ts us e c = subst (λ z. IsCall most (kind.Word name ∷ kind.LParen ∷ z) s) e c

-- a token after an argument
behind_argument_stands : {most : Limits} {start : ℕ} {ts us : List Kind} {es : List Tree} (tree : Tree) (used : ℕ)
    → Argues most es start ts → Ended most 0 start us tree used → (k : Kind) (next : CallStep)
    → behind_argument (es ++ tree ∷ []) used k ≡ Goes next → StepStands most next ((ts ++ us) ++ k ∷ [])
behind_argument_stands {us = us} tree used IsFirst ended kind.Semi next e =
    let counted = ended.counted in
    went _ _ _ next e (stands_at _ _ (append-nil _)
    (IsArgument (IsNext (Last ended.spells)) (Wants Start (omega arith) ended.fits)))
behind_argument_stands {us = us} tree used IsFirst ended kind.RParen next e =
    let counted = ended.counted in let fits = ended.fits in
    went _ _ _ next e (IsCalled (Given (Last ended.spells) (omega arith)))
behind_argument_stands tree used IsFirst ended _ next e = absurd (cc)
behind_argument_stands {us = us} tree used (IsNext {tokens = tokens} {es = es} read) ended kind.Semi next e =
    let counted = ended.counted in let all = operators_more es tree in
    went _ _ _ next e (stands_at _ _ (simp (append_assoc, append-nil) refl)
    (IsArgument (IsNext (trees_more read ended.spells)) (Wants Start (omega (arith, all, counted)) ended.fits)))
behind_argument_stands {us = us} tree used (IsNext {tokens = tokens} {es = es} read) ended kind.RParen next e =
    let counted = ended.counted in let fits = ended.fits in let all = operators_more es tree in
    went _ _ _ next e (stands_at _ _ (simp append_assoc refl)
    (IsCalled (Given (trees_more read ended.spells) (omega (arith, all, counted, fits)))))
behind_argument_stands tree used (IsNext read) ended _ next e = absurd (cc)

argument_ends_stands : {most : Limits} {start : ℕ} {ts us : List Kind} {es : List Tree} (x y : Reading)
    → Argues most es start ts → Reached most 0 start x us → (k : Kind) → reads most x k ≡ Stops y
    → (w : Option Tree) → whole y ≡ w → (next : CallStep) → argument_ends es w (used_of y) k ≡ Goes next
    → StepStands most next ((ts ++ us) ++ k ∷ [])
argument_ends_stands x y a r k stop None is next e = absurd (cc)
argument_ends_stands x y a r k stop (Some tree) is next e =
    behind_argument_stands tree (used_of y) a (ends r k y tree stop is) k next e

argument_stands : {most : Limits} {start : ℕ} {ts us : List Kind} {es : List Tree} (x : Reading)
    → Argues most es start ts → Reached most 0 start x us → (k : Kind) (step : TokenStep) → reads most x k ≡ step
    → (next : CallStep) → in_argument es k step ≡ Goes next → StepStands most next ((ts ++ us) ++ k ∷ [])
argument_stands {ts = ts} {us = us} x a r k (Moves y) is next e =
    went _ _ _ next e (stands_at _ _ (sym (append_assoc ts us (k ∷ []))) (IsArgument a (reaches r k y is)))
argument_stands x a r k (Stops y) is next e = argument_ends_stands x y a r k is (whole y) refl next e
argument_stands x a r k Deep is next e = absurd (cc)

first_stands : (most : Limits) (k : Kind) (next : CallStep) → first_argument most [] k ≡ Goes next
    → StepStands most next (k ∷ [])
first_stands most kind.RParen next e = went _ _ _ next e (IsCalled NoArgument)
first_stands most k next e =
    argument_stands {ts = []} {us = []} (At [] 0 0 Wanted) IsFirst (Wants Start (omega arith) (omega arith)) k
    (reads most (At [] 0 0 Wanted) k) refl next e

-- a token of a call
pub call_steps : {most : Limits} {call : CallState} {tokens : List Kind} → CallStands most call tokens
    → (k : Kind) (next : CallStep) → call_advanced most call k ≡ Goes next
    → StepStands most next (tokens ++ k ∷ [])
call_steps {most} IsOpened k next e = first_stands most k next e
call_steps {most} (IsArgument {x = x} a r) k next e = argument_stands x a r k (reads most x k) refl next e
call_steps (IsCalled {tokens = tokens} given) kind.Semi next e =
    went _ _ _ next e (λ name. is_call_at _ _ (sym (append_assoc tokens (kind.RParen ∷ []) (kind.Semi ∷ []))) (ACall name given))
call_steps (IsCalled given) _ next e = absurd (cc)

-- some more tokens, of which none is a name, complete the call
pub record CallCompletes (most : Limits) (tokens : List Kind) : Type 0 where
  pub more : List Kind
  pub nameless : HasNoName more
  pub arguments : List Tree
  pub is : (name : List ℕ) → IsCall most (kind.Word name ∷ kind.LParen ∷ (tokens ++ more)) (Call name arguments)

argument_completes : {most : Limits} {start : ℕ} {before : List Tree} {ts us : List Kind}
    → Argues most before start ts → Fitting most 0 start us → CallCompletes most (ts ++ us)
argument_completes {us = us} IsFirst f = let fits = f.fits in record {
  more = f.more ++ kind.RParen ∷ kind.Semi ∷ [];
  nameless = no_name_in_both f.more (kind.RParen ∷ kind.Semi ∷ []) f.nameless tt;
  arguments = f.tree ∷ [];
  is = λ name. is_call_at _ _ (append_assoc us f.more (kind.RParen ∷ kind.Semi ∷ []))
      (ACall name (Given (Last f.spells) (omega arith)));
}
argument_completes {us = us} (IsNext {tokens = tokens} {es = es} read) f =
    let fits = f.fits in let all = operators_more es f.tree in record {
      more = f.more ++ kind.RParen ∷ kind.Semi ∷ [];
      nameless = no_name_in_both f.more (kind.RParen ∷ kind.Semi ∷ []) f.nameless tt;
      arguments = es ++ f.tree ∷ [];
      is = λ name. is_call_at _ _ (simp append_assoc refl)
          (ACall name (Given (trees_more read f.spells) (omega (arith, all, fits))));
    }

pub call_completes : {most : Limits} {call : CallState} {tokens : List Kind} → CallStands most call tokens
    → CallCompletes most tokens
call_completes IsOpened =
    record { more = kind.RParen ∷ kind.Semi ∷ []; nameless = tt; arguments = []; is = λ name. ACall name NoArgument }
call_completes (IsArgument a r) = argument_completes a (fitting r)
call_completes (IsCalled {tokens = tokens} {es = es} given) = record {
  more = kind.Semi ∷ [];
  nameless = tt;
  arguments = es;
  is = λ name. is_call_at _ _ (sym (append_assoc tokens (kind.RParen ∷ []) (kind.Semi ∷ []))) (ACall name given);
}
