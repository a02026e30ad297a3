-- The first call with a fault of the relation is the one at which the walk over the calls stops.
use Rattle.std.proofs.Common.{◌≡◌, ℕ, ◌+◌, ◌==◌, cond, min, Bool, true, false, not, ◌&&◌, ◌||◌, List, [], ◌∷◌, ◌++◌, length, reverse, Contains, Option, Some, None, Result, Ok, Err, ⊎_elim, refl, sym, ap, ◌∙◌, subst, length-append, append_assoc, arith}
use Rattle.std.specs.Prelude.{bytes_eq}
use Rattle.std.specs.Option.{option_or}
use Rattle.std.specs.List.{AllByRecursion, zip}
use Rattle.std.proofs.lemmas.List.{append-nil, reverse-append}
use Rattle.std.proofs.lemmas.Option.{same_Some}
use Rattle.std.proofs.lemmas.Bool.{eqb-true, eq-eqb, ne_eqb}
use Rattle.std.proofs.lemmas.Slice.Eq.{bytes_eq-Decides}
use Rattle.gr_base.specs.Prelude.{◌>>=◌, EachAfter}
use Rattle.gr_base.proofs.ListTests.{bytes_eq-own}
use Rattle.src_tree.specs.Prelude.{shown_place, Tree, Variable}
use Rattle.procs_tree.specs.declared.errors.InlineError.{InlineError}
use Rattle.procs_tree.specs.declared.errors.InlineError.TheVariants.{NoProcedure, WrongCount, NotAnArray}
use Rattle.procs_tree.specs.Prelude.{Statement, SetVariable, SetElement, Choice, Loop, Call, Block, Nothing, Then, Parameter, OfValue, OfVariable, Procedure, File, HaveNone, IsFirst, ProcedureFault, FoundCall, calls_in_statement, calls_in, calls_after, Calls, CallFault, CallsNone, CountDiffers, PassesOther, fault_where, procedure_named, is_bare, names_variable, lacks_name, call_fault, next_call, calls_walked, calls_walked_all, procedures_walked, fault_met, calls_fault}
use Rattle.procs_tree.proofs.Members.{in-none, in-cases, in-here, in-there, in-reverse, from-reverse}
use Rattle.procs_tree.proofs.FirstWith.{Finds, walk, found_first, only_first, found_none, none_found}
use Rattle.procs_tree.proofs.NamesAgain.{AreOnce, once-more}

-- ---- the procedure that a name calls

named-some : (ps : List Procedure) (name : List ℕ) (p : Procedure) → procedure_named ps name ≡ Some p
    → Contains ps p × (p.name ≡ name)
named-some [] name p some = absurd cc
named-some (q ∷ ps) name p some = by (bytes_eq name q.name) refl some (named-some ps name p)
  where
    by : (b : Bool) → bytes_eq name q.name ≡ b → cond b (Some q) (procedure_named ps name) ≡ Some p
        → (procedure_named ps name ≡ Some p → Contains ps p × (p.name ≡ name))
        → Contains (q ∷ ps) p × (p.name ≡ name)
    by true e some rest =
        let is : q ≡ p = same_Some q p some in (
          subst (Contains (q ∷ ps)) is (in-here q ps),
          ap (λ (r : Procedure). r.name) (sym is) ∙ sym ((bytes_eq-Decides name q.name).0 e),
        )
    by false e some rest_of = let rest = rest_of some in (in-there q ps p rest.0, rest.1)

named-none : (ps : List Procedure) (name : List ℕ) → procedure_named ps name ≡ None → (p : Procedure) → Contains ps p
    → p.name ≡ name → ⊥
named-none [] name none p c same = in-none p c
named-none (q ∷ ps) name none p c same = by (bytes_eq name q.name) refl none (named-none ps name)
  where
    by : (b : Bool) → bytes_eq name q.name ≡ b → cond b (Some q) (procedure_named ps name) ≡ None
        → (procedure_named ps name ≡ None → (p : Procedure) → Contains ps p → p.name ≡ name → ⊥) → ⊥
    by true e none rest = absurd cc
    by false e none rest =
        ⊎_elim
        (λ (is : q ≡ p).
        let own : bytes_eq name q.name ≡ true =
        ap (bytes_eq name) (ap (λ (r : Procedure). r.name) is ∙ same) ∙ bytes_eq-own name in
        absurd (let f : ◌≡◌ {A = Bool} true false = sym own ∙ e in cc))
        (λ later. rest none p later same)
        (in-cases q ps p c)

-- ---- arguments for arrays

bare-not : (e : Tree) → is_bare e ≡ false → (y : List ℕ) → e ≡ Variable y → ⊥
bare-not e fails y is = absurd (let f : ◌≡◌ {A = Bool} true false = sym (ap is_bare is) ∙ fails in cc)

not-bare : (e : Tree) → ((y : List ℕ) → e ≡ Variable y → ⊥) → is_bare e ≡ false
not-bare (Variable x) none = absurd (none x refl)
not-bare other none = refl

-- an array's argument that isn't a bare name
record PassesNoName (ps : List Parameter) (es : List Tree) : Type 0 where
  name : List ℕ
  argument : Tree
  there : Contains (zip ps es) (OfVariable name, argument)
  other : (y : List ℕ) → argument ≡ Variable y → ⊥

one-later : (p : Parameter) (ps : List Parameter) (e : Tree) (es : List Tree) → PassesNoName ps es
    → PassesNoName (p ∷ ps) (e ∷ es)
one-later p ps e es found = record {
  name = found.name;
  argument = found.argument;
  there = in-there (p, e) (zip ps es) (OfVariable found.name, found.argument) found.there;
  other = found.other;
}

lacks-only : (ps : List Parameter) (es : List Tree) → lacks_name ps es ≡ true → PassesNoName ps es
lacks-only [] es holds = absurd cc
lacks-only (p ∷ ps) [] holds = absurd cc
lacks-only (OfValue label name ∷ ps) (e ∷ es) holds = one-later (OfValue label name) ps e es (lacks-only ps es holds)
lacks-only (OfVariable name ∷ ps) (e ∷ es) holds = by (is_bare e) refl holds (lacks-only ps es)
  where
    by : (b : Bool) → is_bare e ≡ b → (not b || lacks_name ps es) ≡ true
        → (lacks_name ps es ≡ true → PassesNoName ps es) → PassesNoName (OfVariable name ∷ ps) (e ∷ es)
    by false is holds rest = record {
      name = name;
      argument = e;
      there = in-here (OfVariable name, e) (zip ps es);
      other = bare-not e is;
    }
    by true is holds rest = one-later (OfVariable name) ps e es (rest holds)

either-true : (a b : Bool) → b ≡ true → (a || b) ≡ true
either-true true b is = refl
either-true false b is = is

lacks-has : (ps : List Parameter) (es : List Tree) (x : List ℕ) (e : Tree) → Contains (zip ps es) (OfVariable x, e)
    → ((y : List ℕ) → e ≡ Variable y → ⊥) → lacks_name ps es ≡ true
lacks-has [] es x e c none = absurd (in-none _ c)
lacks-has (p ∷ ps) [] x e c none = absurd (in-none _ c)
lacks-has (p ∷ ps) (f ∷ es) x e c none =
    ⊎_elim
    (λ (is : ◌≡◌ {A = Parameter × Tree} (p, f) (OfVariable x, e)).
    ap (λ (z : Parameter × Tree). (names_variable z.0 && not (is_bare z.1)) || lacks_name ps es) is
    ∙ ap (λ b. not b || lacks_name ps es) (not-bare e none))
    (λ rest. either-true (names_variable p && not (is_bare f)) (lacks_name ps es) (lacks-has ps es x e rest none))
    (in-cases (p, f) (zip ps es) (OfVariable x, e) c)

-- ---- one call

module _ (before : List FoundCall) (c : FoundCall) where
  abbrev number : ℕ
  number = shown_place (length before)

  abbrev called : Option Procedure
  called = procedure_named (reverse c.declared) c.name

  abbrev check : Option InlineError
  check = call_fault number c.arguments called

  as-fault : (x e : InlineError) → ◌≡◌ {A = Option InlineError} (Some x) (Some e) → CallFault before c x
      → CallFault before c e
  as-fault x e same fault = subst (CallFault before c) (same_Some x e same) fault

  calls-some : (p : Procedure) → called ≡ Some p → Calls c p
  calls-some p is =
      let found = named-some (reverse c.declared) c.name p is in (from-reverse c.declared p found.0, found.1)

  calls-none : called ≡ None → (p : Procedure) → Calls c p → ⊥
  calls-none none p calls =
      named-none (reverse c.declared) c.name none p (in-reverse c.declared p calls.0) calls.1

  by-names : (p : Procedure) (e : InlineError) → Calls c p → length c.arguments ≡ length p.parameters → (b : Bool)
      → lacks_name p.parameters c.arguments ≡ b → fault_where b (NotAnArray number) ≡ Some e → CallFault before c e
  by-names p e calls count false has same = absurd cc
  by-names p e calls count true lacks same =
      let found = lacks-only p.parameters c.arguments lacks in
      as-fault (NotAnArray number) e same (PassesOther p calls count found.name found.argument found.there found.other)

  by-count : (p : Procedure) (e : InlineError) → Calls c p → (b : Bool)
      → (length c.arguments == length p.parameters) ≡ b
      → option_or (fault_where (not b) (WrongCount number))
      (fault_where (lacks_name p.parameters c.arguments) (NotAnArray number)) ≡ Some e → CallFault before c e
  by-count p e calls true is same =
      by-names p e calls (eqb-true (length c.arguments) (length p.parameters) is) (lacks_name p.parameters c.arguments) refl
      same
  by-count p e calls false is same =
      as-fault (WrongCount number) e same
      (CountDiffers p calls (λ count.
      absurd (let f : ◌≡◌ {A = Bool} true false = sym (eq-eqb (length c.arguments) (length p.parameters) count) ∙ is in cc)))

  by-called : (e : InlineError) → (o : Option Procedure) → called ≡ o → call_fault number c.arguments o ≡ Some e
      → CallFault before c e
  by-called e None is same = as-fault (NoProcedure number) e same (CallsNone (calls-none is))
  by-called e (Some p) is same =
      by-count p e (calls-some p is) (length c.arguments == length p.parameters) refl same

  called-is : AreOnce c.declared → (p : Procedure) → Calls c p → (o : Option Procedure) → called ≡ o → o ≡ Some p
  called-is once p calls None is = absurd (calls-none is p calls)
  called-is once p calls (Some q) is =
      let other = calls-some q is in ap Some (once q p other.0 calls.0 (other.1 ∙ sym calls.1))

  none-called : ((p : Procedure) → Calls c p → ⊥) → (o : Option Procedure) → called ≡ o → o ≡ None
  none-called none None is = refl
  none-called none (Some p) is = absurd (none p (calls-some p is))

  check-found : (e : InlineError) → AreOnce c.declared → CallFault before c e → check ≡ Some e
  check-found e once (CallsNone none) = ap (call_fault number c.arguments) (none-called none called refl)
  check-found e once (CountDiffers p calls differs) =
      ap (call_fault number c.arguments) (called-is once p calls called refl)
      ∙ ap (λ b. option_or (fault_where (not b) (WrongCount number))
      (fault_where (lacks_name p.parameters c.arguments) (NotAnArray number)))
      (ne_eqb (length c.arguments) (length p.parameters) differs)
  check-found e once (PassesOther p calls count x argument there other) =
      ap (call_fault number c.arguments) (called-is once p calls called refl)
      ∙ (ap (λ b. option_or (fault_where (not b) (WrongCount number))
      (fault_where (lacks_name p.parameters c.arguments) (NotAnArray number)))
      (eq-eqb (length c.arguments) (length p.parameters) count)
      ∙ ap (λ b. fault_where b (NotAnArray number))
      (lacks-has p.parameters c.arguments x argument there other))

abbrev AfterOnce : FoundCall → Type 0
AfterOnce c = AreOnce c.declared

finds : Finds CallFault check AfterOnce
finds = record {
  only = λ before c e. by-called before c e (called before c) refl;
  found = λ before c e fits. check-found before c e fits;
}

-- ---- the list of calls is walked

abbrev walked : ℕ → List FoundCall → Result ℕ InlineError
walked n [] = Ok n
walked n (c ∷ cs) =
    next_call n (call_fault n c.arguments (procedure_named (reverse c.declared) c.name)) >>= λ m. walked m cs

same-after : (r : Result ℕ InlineError) (f g : ℕ → Result ℕ InlineError) → ((m : ℕ) → f m ≡ g m)
    → (r >>= f) ≡ (r >>= g)
same-after (Ok m) f g h = h m
same-after (Err e) f g h = refl

nothing-after : (r : Result ℕ InlineError) → (r >>= λ m. Ok m) ≡ r
nothing-after (Ok m) = refl
nothing-after (Err e) = refl

after-both : (r : Result ℕ InlineError) (f g : ℕ → Result ℕ InlineError) → ((r >>= f) >>= g) ≡ (r >>= λ m. f m >>= g)
after-both (Ok m) f g = refl
after-both (Err e) f g = refl

walked-append : (n : ℕ) (cs ds : List FoundCall) → walked n (cs ++ ds) ≡ (walked n cs >>= λ m. walked m ds)
walked-append n [] ds = refl
walked-append n (c ∷ cs) ds =
    same-after (next_call n (call_fault n c.arguments (procedure_named (reverse c.declared) c.name)))
    (λ m. walked m (cs ++ ds)) (λ m. walked m cs >>= λ k. walked k ds) (λ m. walked-append m cs ds)
    ∙ sym (after-both (next_call n (call_fault n c.arguments (procedure_named (reverse c.declared) c.name)))
    (λ m. walked m cs) (λ k. walked k ds))

-- two parts of statements in sequence
in-parts : (n : ℕ) (r : Result ℕ InlineError) (f : ℕ → Result ℕ InlineError) (cs ds : List FoundCall)
    → r ≡ walked n cs → ((m : ℕ) → f m ≡ walked m ds) → (r >>= f) ≡ walked n (cs ++ ds)
in-parts n r f cs ds e h =
    ap (λ z. z >>= f) e ∙ (same-after (walked n cs) f (λ m. walked m ds) h ∙ sym (walked-append n cs ds))

all-append : (cs ds : List FoundCall) → AllByRecursion AfterOnce cs → AllByRecursion AfterOnce ds
    → AllByRecursion AfterOnce (cs ++ ds)
all-append [] ds one other = other
all-append (c ∷ cs) ds one other = (one.0, all-append cs ds one.1 other)

module _ (declared : List Procedure) where
  abbrev callable : List ℕ → Option Procedure
  callable = procedure_named (reverse declared)

  mutual
    in-statement : (s : Statement) (n : ℕ) → calls_walked callable n s ≡ walked n (calls_in_statement declared s)
    in-statement (SetVariable x e) n = refl
    in-statement (SetElement x i e) n = refl
    in-statement (Choice t a b) n =
        in-parts n (calls_walked_all callable n a) (λ m. calls_walked_all callable m b) (calls_in declared a)
        (calls_in declared b) (in-block a n) (λ m. in-block b m)
    in-statement (Loop t a) n = in-block a n
    in-statement (Call name es) n = sym (nothing-after (next_call n (call_fault n es (callable name))))

    in-block : (b : Block) (n : ℕ) → calls_walked_all callable n b ≡ walked n (calls_in declared b)
    in-block Nothing n = refl
    in-block (Then s rest) n =
        in-parts n (calls_walked callable n s) (λ m. calls_walked_all callable m rest) (calls_in_statement declared s)
        (calls_in declared rest) (in-statement s n) (λ m. in-block rest m)

  -- each of these calls has the same procedures before it
  mutual
    once-statement : AreOnce declared → (s : Statement) → AllByRecursion AfterOnce (calls_in_statement declared s)
    once-statement once (SetVariable x e) = tt
    once-statement once (SetElement x i e) = tt
    once-statement once (Choice t a b) =
        all-append (calls_in declared a) (calls_in declared b) (once-block once a) (once-block once b)
    once-statement once (Loop t a) = once-block once a
    once-statement once (Call name es) = (once, tt)

    once-block : AreOnce declared → (b : Block) → AllByRecursion AfterOnce (calls_in declared b)
    once-block once Nothing = tt
    once-block once (Then s rest) =
        all-append (calls_in_statement declared s) (calls_in declared rest) (once-statement once s)
        (once-block once rest)

in-procedures : (declared ps : List Procedure) (body : Block) (n : ℕ)
    → (procedures_walked (reverse declared) n ps
    >>= λ m. calls_walked_all (procedure_named (reverse (declared ++ ps))) m body)
    ≡ walked n (calls_after declared ps body)
in-procedures declared [] body n =
    ap (λ (all : List Procedure). calls_walked_all (procedure_named (reverse all)) n body) (append-nil declared)
    ∙ in-block declared body n
in-procedures declared (p ∷ ps) body n =
    after-both (calls_walked_all (procedure_named (reverse declared)) n p.body)
    (λ m. procedures_walked (p ∷ reverse declared) m ps)
    (λ m. calls_walked_all (procedure_named (reverse (declared ++ p ∷ ps))) m body)
    ∙ in-parts n (calls_walked_all (procedure_named (reverse declared)) n p.body)
    (λ m. procedures_walked (p ∷ reverse declared) m ps
    >>= λ k. calls_walked_all (procedure_named (reverse (declared ++ p ∷ ps))) k body)
    (calls_in declared p.body) (calls_after (declared ++ p ∷ []) ps body) (in-block declared p.body n)
    (rest (in-procedures (declared ++ p ∷ []) ps body))
  where
    -- the walk of the other procedures, after some
    others : List Procedure → List Procedure → ℕ → Result ℕ InlineError
    others earlier all m =
        procedures_walked earlier m ps >>= λ k. calls_walked_all (procedure_named (reverse all)) k body

    rest : ((m : ℕ) → others (reverse (declared ++ p ∷ [])) ((declared ++ p ∷ []) ++ ps) m
        ≡ walked m (calls_after (declared ++ p ∷ []) ps body))
        → (m : ℕ) → others (p ∷ reverse declared) (declared ++ p ∷ ps) m
        ≡ walked m (calls_after (declared ++ p ∷ []) ps body)
    rest h m =
        ap (λ earlier. others earlier (declared ++ p ∷ ps) m) (sym (reverse-append declared (p ∷ [])))
        ∙ (ap (λ all. others (reverse (declared ++ p ∷ [])) all m) (sym (append_assoc declared (p ∷ []) ps)) ∙ h m)

once-procedures : (declared ps : List Procedure) (body : Block) → AreOnce declared
    → EachAfter (λ before p. (e : InlineError) → ProcedureFault before p e → ⊥) declared ps
    → AllByRecursion AfterOnce (calls_after declared ps body)
once-procedures declared [] body once none = once-block declared once body
once-procedures declared (p ∷ ps) body once none =
    all-append (calls_in declared p.body) (calls_after (declared ++ p ∷ []) ps body) (once-block declared once p.body)
    (once-procedures (declared ++ p ∷ []) ps body (once-more declared p once none.0) none.1)

-- ---- the walk

next-number : (k limit : ℕ) → min (min k limit + 1) limit ≡ min (k + 1) limit
next-number k limit = omega arith

next-shown : (before : List FoundCall) (c : FoundCall)
    → shown_place (shown_place (length before) + 1) ≡ shown_place (length (before ++ c ∷ []))
next-shown before c = next-number (length before) _ ∙ ap shown_place (sym (length-append before (c ∷ [])))

as-walk : (before cs : List FoundCall)
    → fault_met (walked (shown_place (length before)) cs) ≡ walk CallFault check AfterOnce finds before cs
as-walk before [] = refl
as-walk before (c ∷ cs) = by (check before c) (as-walk (before ++ c ∷ []) cs)
  where
    by : (o : Option InlineError)
        → fault_met (walked (shown_place (length (before ++ c ∷ []))) cs)
        ≡ walk CallFault check AfterOnce finds (before ++ c ∷ []) cs
        → fault_met (next_call (shown_place (length before)) o >>= λ m. walked m cs)
        ≡ option_or o (walk CallFault check AfterOnce finds (before ++ c ∷ []) cs)
    by None rest = ap (λ n. fault_met (walked n cs)) (next-shown before c) ∙ rest
    by (Some e) rest = refl

abbrev calls_of : File → List FoundCall
calls_of f = calls_after [] f.procedures f.body

file-walk : (f : File) → calls_fault f ≡ walk CallFault check AfterOnce finds [] (calls_of f)
file-walk f = ap fault_met (in-procedures [] f.procedures f.body 0) ∙ as-walk [] (calls_of f)

none-once : AreOnce []
none-once p q c d same = absurd (in-none p c)

all-once : (f : File) → HaveNone ProcedureFault f.procedures → AllByRecursion AfterOnce (calls_of f)
all-once f none = once-procedures [] f.procedures f.body none-once none

pub call_found : (f : File) (e : InlineError) → HaveNone ProcedureFault f.procedures → IsFirst CallFault (calls_of f) e
    → calls_fault f ≡ Some e
call_found f e none first =
    file-walk f ∙ found_first CallFault check AfterOnce finds (calls_of f) e (all-once f none) first

pub call_only : (f : File) (e : InlineError) → HaveNone ProcedureFault f.procedures → calls_fault f ≡ Some e
    → IsFirst CallFault (calls_of f) e
call_only f e none some =
    only_first CallFault check AfterOnce finds (calls_of f) e (all-once f none) (sym (file-walk f) ∙ some)

pub calls_clear : (f : File) → HaveNone ProcedureFault f.procedures → calls_fault f ≡ None
    → HaveNone CallFault (calls_of f)
calls_clear f none clear =
    found_none CallFault check AfterOnce finds (calls_of f) (all-once f none) (sym (file-walk f) ∙ clear)

pub calls_none : (f : File) → HaveNone CallFault (calls_of f) → calls_fault f ≡ None
calls_none f none = file-walk f ∙ none_found CallFault check AfterOnce finds (calls_of f) none
