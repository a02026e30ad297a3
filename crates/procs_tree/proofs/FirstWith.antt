-- The fault of the first item that has one is what a walk over the items finds.
use Rattle.std.proofs.Common.{◌≡◌, List, [], ◌∷◌, ◌++◌, Option, Some, None, refl, sym, ap, ◌∙◌, subst}
use Rattle.std.specs.Option.{option_or}
use Rattle.std.specs.List.{AllByRecursion}
use Rattle.std.proofs.lemmas.List.{append_assoc, append-nil}
use Rattle.gr_base.specs.Prelude.{EachAfter}
use Rattle.procs_tree.specs.declared.errors.InlineError.{InlineError}
use Rattle.procs_tree.specs.Prelude.{HaveNone, IsFirst}

-- a check of one item, after others, which finds its fault, for items that it is meant for
pub record Finds {X : Type 0} (Fault : List X → X → InlineError → Type 0) (check : List X → X → Option InlineError)
    (Fits : X → Type 0) : Type 0 where
  pub only : (before : List X) (x : X) (e : InlineError) → check before x ≡ Some e → Fault before x e
  pub found : (before : List X) (x : X) (e : InlineError) → Fits x → Fault before x e → check before x ≡ Some e

some-or-none : {A : Type 0} {B : Type 0} (o : Option A) (a : A) → o ≡ None → o ≡ Some a → B
some-or-none None a none some = absurd cc
some-or-none (Some x) a none some = absurd cc

module _ {X : Type 0} (Fault : List X → X → InlineError → Type 0) (check : List X → X → Option InlineError)
    (Fits : X → Type 0) (finds : Finds Fault check Fits) where
  -- the first fault of items that follow others
  abbrev pub walk : List X → List X → Option InlineError
  walk before [] = None
  walk before (x ∷ xs) = option_or (check before x) (walk (before ++ x ∷ []) xs)

  abbrev clears : (before xs : List X) → Type 0
  clears before xs = EachAfter (λ earlier x. (e : InlineError) → Fault earlier x e → ⊥) before xs

  clear : (before : List X) (x : X) → Fits x → check before x ≡ None → (e : InlineError) → Fault before x e → ⊥
  clear before x fits none e fault = some-or-none (check before x) e none (finds.found before x e fits fault)

  passes : (before : List X) (x : X) → ((e : InlineError) → Fault before x e → ⊥) → check before x ≡ None
  passes before x none = by (check before x) refl
    where
      by : (o : Option InlineError) → check before x ≡ o → o ≡ None
      by None is = refl
      by (Some e) is = absurd (none e (finds.only before x e is))

  found-behind : (before first : List X) (x : X) (xs : List X) (e : InlineError) → clears before first → Fits x
      → Fault (before ++ first) x e → walk before (first ++ x ∷ xs) ≡ Some e
  found-behind before [] x xs e none fits fault =
      ap (λ o. option_or o (walk (before ++ x ∷ []) xs))
      (finds.found before x e fits (subst (λ l. Fault l x e) (append-nil before) fault))
  found-behind before (c ∷ first) x xs e none fits fault =
      ap (λ o. option_or o (walk (before ++ c ∷ []) (first ++ x ∷ xs))) (passes before c none.0)
      ∙ found-behind (before ++ c ∷ []) first x xs e none.1 fits
      (subst (λ l. Fault l x e) (sym (append_assoc before (c ∷ []) first)) fault)

  fits-there : (first : List X) (x : X) (xs : List X) → AllByRecursion Fits (first ++ x ∷ xs) → Fits x
  fits-there [] x xs fits = fits.0
  fits-there (c ∷ first) x xs fits = fits-there first x xs fits.1

  -- the fault of the first item with one is found
  pub found_first : (items : List X) (e : InlineError) → AllByRecursion Fits items → IsFirst Fault items e
      → walk [] items ≡ Some e
  found_first items e fits first =
      ap (walk []) first.parts
      ∙ found-behind [] first.before first.item first.behind e first.none_before
      (fits-there first.before first.item first.behind (subst (AllByRecursion Fits) first.parts fits)) first.faulty

  -- what is found is the fault of the first item with one
  record Behind (before xs : List X) (e : InlineError) : Type 0 where
    first : List X
    item : X
    later : List X
    parts : xs ≡ first ++ item ∷ later
    faulty : Fault (before ++ first) item e
    none : clears before first

  only-behind : (before xs : List X) (e : InlineError) → AllByRecursion Fits xs → walk before xs ≡ Some e
      → Behind before xs e
  only-behind before [] e fits none = absurd cc
  only-behind before (x ∷ xs) e fits some =
      by (check before x) refl some (only-behind (before ++ x ∷ []) xs e fits.1)
    where
      by : (o : Option InlineError) → check before x ≡ o → option_or o (walk (before ++ x ∷ []) xs) ≡ Some e
          → (walk (before ++ x ∷ []) xs ≡ Some e → Behind (before ++ x ∷ []) xs e) → Behind before (x ∷ xs) e
      by (Some f) is same rest_of = record {
        first = [];
        item = x;
        later = xs;
        parts = refl;
        faulty = subst (λ l. Fault l x e) (sym (append-nil before)) (finds.only before x e (is ∙ same));
        none = tt;
      }
      by None is same rest_of =
          let rest = rest_of same in
          record {
            first = x ∷ rest.first;
            item = rest.item;
            later = rest.later;
            parts = ap (λ l. x ∷ l) rest.parts;
            faulty = subst (λ l. Fault l rest.item e) (append_assoc before (x ∷ []) rest.first) rest.faulty;
            none = (clear before x fits.0 is, rest.none);
          }

  pub only_first : (items : List X) (e : InlineError) → AllByRecursion Fits items → walk [] items ≡ Some e
      → IsFirst Fault items e
  only_first items e fits some =
      let found = only-behind [] items e fits some in
      record {
        before = found.first;
        item = found.item;
        behind = found.later;
        parts = found.parts;
        faulty = found.faulty;
        none_before = found.none;
      }

  none-behind : (before xs : List X) → AllByRecursion Fits xs → walk before xs ≡ None → clears before xs
  none-behind before [] fits none = tt
  none-behind before (x ∷ xs) fits none = by (check before x) refl none (none-behind (before ++ x ∷ []) xs fits.1)
    where
      by : (o : Option InlineError) → check before x ≡ o → option_or o (walk (before ++ x ∷ []) xs) ≡ None
          → (walk (before ++ x ∷ []) xs ≡ None → clears (before ++ x ∷ []) xs) → clears before (x ∷ xs)
      by (Some f) is same rest = absurd cc
      by None is same rest = (clear before x fits.0 is, rest same)

  -- no fault is found exactly if no item has one
  pub found_none : (items : List X) → AllByRecursion Fits items → walk [] items ≡ None → HaveNone Fault items
  found_none items fits none = none-behind [] items fits none

  passes-behind : (before xs : List X) → clears before xs → walk before xs ≡ None
  passes-behind before [] none = refl
  passes-behind before (x ∷ xs) none =
      ap (λ o. option_or o (walk (before ++ x ∷ []) xs)) (passes before x none.0)
      ∙ passes-behind (before ++ x ∷ []) xs none.1

  pub none_found : (items : List X) → HaveNone Fault items → walk [] items ≡ None
  none_found items none = passes-behind [] items none
