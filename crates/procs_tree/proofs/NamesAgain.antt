-- The first procedure with a fault of the relation is the one at which the walk over the procedures stops.
use Rattle.std.proofs.Common.{◌≡◌, ℕ, ◌+◌, Bool, true, false, not, List, [], ◌∷◌, ◌++◌, map, length, Contains, Option, Some, None, ◌⊎◌, inl, inr, refl, sym, ap, ◌∙◌, subst, length-append, arith}
use Rattle.std.specs.Prelude.{is_some}
use Rattle.std.specs.Option.{option_or}
use Rattle.std.specs.List.{AllByRecursion}
use Rattle.std.proofs.lemmas.List.{length-map, map-append}
use Rattle.std.proofs.lemmas.List.Elements.{Contains-push_cases}
use Rattle.std.proofs.lemmas.Option.{same_Some}
use Rattle.src_tree.specs.Prelude.{shown_place}
use Rattle.procs_tree.specs.declared.errors.InlineError.{InlineError}
use Rattle.procs_tree.specs.declared.errors.InlineError.TheVariants.{TwiceNamed, Undeclared}
use Rattle.procs_tree.specs.Prelude.{Names, Procedure, HaveNone, IsFirst, IsNamedAgain, AsEarlier, OwnTwice, ProcedureFault, RepeatsName, UsesOther, own_names, names_in_block, fault_where, none_named, numbered, numbered_all, knows_block, body_fault, procedures_fault}
use Rattle.procs_tree.proofs.Members.{in-map, not-all, some-not}
use Rattle.procs_tree.proofs.NamesKnown.{IsOneOf, added, added-has, added-only, twice-none, none-twice, all-added, in-block}
use Rattle.procs_tree.proofs.FirstWith.{Finds, walk, found_first, only_first, found_none, none_found}

abbrev names_of : List Procedure → List (List ℕ)
names_of ps = map (λ (p : Procedure). p.name) ps

-- the numbers of the names of procedures
abbrev names_before : List Procedure → Names
names_before before = added none_named 0 (names_of before)

clash : {A : Type 0} {b : Bool} → b ≡ true → b ≡ false → A
clash {b = true} holds fails = absurd cc
clash {b = false} holds fails = absurd cc

no-names : {A : Type 0} {o : Option Names} {own : Names} → o ≡ None → o ≡ Some own → A
no-names {o = None} {own = own} none some = absurd (let e : ◌≡◌ {A = Option Names} None (Some own) = some in cc)
no-names {o = Some own} none some = absurd (let e : ◌≡◌ {A = Option Names} (Some own) None = none in cc)

-- a list's own names, without others
only-own : (names : List (List ℕ)) (x : List ℕ) → IsOneOf none_named names x → Contains names x
only-own names x (inl is) = absurd cc
only-own names x (inr c) = c

module _ (before : List Procedure) (p : Procedure) where
  abbrev twice : InlineError
  twice = TwiceNamed (shown_place (length before))

  abbrev unknown : InlineError
  unknown = Undeclared (shown_place (length before))

  abbrev own : Option Names
  own = numbered_all none_named 0 (own_names p)

  abbrev own_fault : Option InlineError
  own_fault = body_fault (length before) own p.body

  abbrev check : Option InlineError
  check = option_or (fault_where (is_some (names_before before p.name)) twice) own_fault

  -- ---- the names are new

  earlier-known : Contains (names_of before) p.name → is_some (names_before before p.name) ≡ true
  earlier-known c = added-has none_named 0 (names_of before) p.name (inr c)

  own-twice : (front : List (List ℕ)) (x : List ℕ) (back : List (List ℕ)) → own_names p ≡ front ++ x ∷ back
      → Contains front x → own ≡ None
  own-twice front x back parts c =
      ap (numbered_all none_named 0) parts ∙ twice-none none_named 0 front x back (inr c)

  are-new : (known : Names) → is_some (names_before before p.name) ≡ false → own ≡ Some known → IsNamedAgain before p → ⊥
  are-new known new is (AsEarlier c) = clash (earlier-known c) new
  are-new known new is (OwnTwice front x back parts c) = no-names (own-twice front x back parts c) is

  -- ---- what the check finds is a fault

  as-fault : (x e : InlineError) → ◌≡◌ {A = Option InlineError} (Some x) (Some e) → ProcedureFault before p x
      → ProcedureFault before p e
  as-fault x e same fault = subst (ProcedureFault before p) (same_Some x e same) fault

  unowned : (known : Names) (x : List ℕ) → own ≡ Some known → is_some (known x) ≡ false → Contains (own_names p) x → ⊥
  unowned known x is fails c =
      clash (added-has none_named 0 (own_names p) x (inr c))
      (ap (λ (k : Names). is_some (k x)) (sym (all-added none_named 0 (own_names p) known is)) ∙ fails)

  in-body : (e : InlineError) (known : Names) → is_some (names_before before p.name) ≡ false → own ≡ Some known
      → (b : Bool) → knows_block known p.body ≡ b → fault_where (not b) unknown ≡ Some e → ProcedureFault before p e
  in-body e known new is true all same = absurd cc
  in-body e known new is false lacks same =
      let found = not-all (λ x. is_some (known x)) (names_in_block p.body) (sym (in-block known p.body) ∙ lacks) in
      as-fault unknown e same
      (UsesOther (are-new known new is) found.0 found.1 (unowned known found.0 is found.2))

  in-own : (e : InlineError) → is_some (names_before before p.name) ≡ false → (o : Option Names) → own ≡ o
      → body_fault (length before) o p.body ≡ Some e → ProcedureFault before p e
  in-own e new None is same =
      let found = none-twice none_named 0 (own_names p) is in
      as-fault twice e same
      (RepeatsName (OwnTwice found.front found.name found.back found.parts
      (only-own found.front found.name found.again)))
  in-own e new (Some known) is same = in-body e known new is (knows_block known p.body) refl same

  earlier-named : is_some (names_before before p.name) ≡ true → Contains (names_of before) p.name
  earlier-named is = only-own (names_of before) p.name (added-only none_named 0 (names_of before) p.name is)

  check-only : (e : InlineError) → check ≡ Some e → ProcedureFault before p e
  check-only e same = by (is_some (names_before before p.name)) refl same
    where
      by : (b : Bool) → is_some (names_before before p.name) ≡ b → option_or (fault_where b twice) own_fault ≡ Some e
          → ProcedureFault before p e
      by true is same = as-fault twice e same (RepeatsName (AsEarlier (earlier-named is)))
      by false is same = in-own e is own refl same

  -- ---- and each fault is found

  either-way : (b : Bool) → own_fault ≡ Some twice → option_or (fault_where b twice) own_fault ≡ Some twice
  either-way true is = refl
  either-way false is = is

  name-new : (IsNamedAgain before p → ⊥) → (b : Bool) → is_some (names_before before p.name) ≡ b → b ≡ false
  name-new fresh true is = absurd (fresh (AsEarlier (earlier-named is)))
  name-new fresh false is = refl

  -- a name that the procedure doesn't have
  is-unknown : (known : Names) (x : List ℕ) → own ≡ Some known → (Contains (own_names p) x → ⊥)
      → (b : Bool) → is_some (known x) ≡ b → b ≡ false
  is-unknown known x is out true has =
      absurd (out (only-own (own_names p) x (added-only none_named 0 (own_names p) x
      (ap (λ (k : Names). is_some (k x)) (sym (all-added none_named 0 (own_names p) known is)) ∙ has))))
  is-unknown known x is out false lacks = refl

  is-other : (IsNamedAgain before p → ⊥) → (x : List ℕ) → Contains (names_in_block p.body) x
      → (Contains (own_names p) x → ⊥) → (o : Option Names) → own ≡ o → body_fault (length before) o p.body ≡ Some unknown
  is-other fresh x c out None is =
      let found = none-twice none_named 0 (own_names p) is in
      absurd (fresh (OwnTwice found.front found.name found.back found.parts
      (only-own found.front found.name found.again)))
  is-other fresh x c out (Some known) is =
      ap (λ b. fault_where (not b) unknown)
      (in-block known p.body
      ∙ some-not (λ y. is_some (known y)) (names_in_block p.body) x c
      (is-unknown known x is out (is_some (known x)) refl))

  check-found : (e : InlineError) → ProcedureFault before p e → check ≡ Some e
  check-found e (RepeatsName (AsEarlier c)) = ap (λ b. option_or (fault_where b twice) own_fault) (earlier-known c)
  check-found e (RepeatsName (OwnTwice front x back parts c)) =
      either-way (is_some (names_before before p.name))
      (ap (λ o. body_fault (length before) o p.body) (own-twice front x back parts c))
  check-found e (UsesOther fresh x c out) =
      ap (λ b. option_or (fault_where b twice) own_fault) (name-new fresh (is_some (names_before before p.name)) refl)
      ∙ is-other fresh x c out own refl

abbrev AnyProcedure : Procedure → Type 0
AnyProcedure p = Unit {0}

finds : Finds ProcedureFault check AnyProcedure
finds = record { only = λ before p e. check-only before p e; found = λ before p e fits. check-found before p e }

any-fit : (ps : List Procedure) → AllByRecursion AnyProcedure ps
any-fit [] = tt
any-fit (p ∷ ps) = (tt, any-fit ps)

-- ---- the walk

one-last : (known : Names) (n : ℕ) (names : List (List ℕ)) (y : List ℕ)
    → added known n (names ++ y ∷ []) ≡ numbered (added known n names) y (n + length names)
one-last known n [] y = ap (λ k. numbered known y k) (omega arith)
one-last known n (x ∷ names) y =
    one-last (numbered known x n) (n + 1) names y
    ∙ ap (λ k. numbered (added (numbered known x n) (n + 1) names) y k) (omega arith)

next-names : (before : List Procedure) (p : Procedure)
    → numbered (names_before before) p.name (length before) ≡ names_before (before ++ p ∷ [])
next-names before p =
    ap (λ k. numbered (names_before before) p.name k)
    (let long = length-map before (λ (q : Procedure). q.name) in omega (arith, long))
    ∙ (sym (one-last none_named 0 (names_of before) p.name)
    ∙ ap (added none_named 0) (sym (map-append (λ (q : Procedure). q.name) before (p ∷ []))))

joined : (a b c : Option InlineError) → option_or a (option_or b c) ≡ option_or (option_or a b) c
joined None b c = refl
joined (Some e) b c = refl

as-walk : (before ps : List Procedure)
    → procedures_fault (names_before before) (length before) ps ≡ walk ProcedureFault check AnyProcedure finds before ps
as-walk before [] = refl
as-walk before (p ∷ ps) =
    joined (fault_where (is_some (names_before before p.name)) (TwiceNamed (shown_place (length before))))
    (own_fault before p) (procedures_fault (numbered (names_before before) p.name (length before)) (length before + 1) ps)
    ∙ ap (option_or (check before p))
    (ap (λ (known : Names). procedures_fault known (length before + 1) ps) (next-names before p)
    ∙ (ap (λ n. procedures_fault (names_before (before ++ p ∷ [])) n ps) (sym (length-append before (p ∷ [])))
    ∙ as-walk (before ++ p ∷ []) ps))

pub procedure_found : (ps : List Procedure) (e : InlineError) → IsFirst ProcedureFault ps e
    → procedures_fault none_named 0 ps ≡ Some e
procedure_found ps e first =
    as-walk [] ps ∙ found_first ProcedureFault check AnyProcedure finds ps e (any-fit ps) first

pub procedure_only : (ps : List Procedure) (e : InlineError) → procedures_fault none_named 0 ps ≡ Some e
    → IsFirst ProcedureFault ps e
procedure_only ps e some =
    only_first ProcedureFault check AnyProcedure finds ps e (any-fit ps) (sym (as-walk [] ps) ∙ some)

pub procedures_clear : (ps : List Procedure) → procedures_fault none_named 0 ps ≡ None → HaveNone ProcedureFault ps
procedures_clear ps none =
    found_none ProcedureFault check AnyProcedure finds ps (any-fit ps) (sym (as-walk [] ps) ∙ none)

pub procedures_none : (ps : List Procedure) → HaveNone ProcedureFault ps → procedures_fault none_named 0 ps ≡ None
procedures_none ps none = as-walk [] ps ∙ none_found ProcedureFault check AnyProcedure finds ps none

-- ---- procedures without a fault differ in their names

abbrev pub AreOnce : List Procedure → Type 0
AreOnce ps = (p q : Procedure) → Contains ps p → Contains ps q → p.name ≡ q.name → p ≡ q

pub once-more : (before : List Procedure) (p : Procedure) → AreOnce before
    → ((e : InlineError) → ProcedureFault before p e → ⊥) → AreOnce (before ++ p ∷ [])
once-more before p once none = λ q r c d same.
    by q r same (Contains-push_cases before p q c) (Contains-push_cases before p r d)
  where
    new : (q : Procedure) → Contains before q → q.name ≡ p.name → ⊥
    new q c same =
        none (TwiceNamed (shown_place (length before)))
        (RepeatsName (AsEarlier (subst (Contains (names_of before)) same
        (in-map (λ (r : Procedure). r.name) before q c))))

    by : (q r : Procedure) → q.name ≡ r.name → Contains before q ⊎ (p ≡ q) → Contains before r ⊎ (p ≡ r) → q ≡ r
    by q r same (inl c) (inl d) = once q r c d same
    by q r same (inl c) (inr is) = absurd (new q c (same ∙ ap (λ (s : Procedure). s.name) (sym is)))
    by q r same (inr is) (inl d) = absurd (new r d (sym same ∙ ap (λ (s : Procedure). s.name) (sym is)))
    by q r same (inr is) (inr other) = sym is ∙ other
