-- Adjacent names, and options that occur once, are used once each.
use Rattle.std.proofs.Common.{◌≡◌, inl, inr, ⊎_elim, ◌∙◌, refl, sym, ap, Bool, false, cond, List, [], ◌∷◌, ◌++◌, map, append-nil, append_assoc, length, Option, Some, None, true≢false}
use Rattle.std.specs.Str.{bytes_eq}
use Rattle.clap.specs.Kinds.{range_kinds}
use Rattle.clap.specs.Walk.{Row, Text, first_of}
use Rattle.clap.specs.Simple.{Shape}
use Rattle.command_words.specs.Prelude.{AFlag, AName, AnOption, AreOnce, IsAmong, Part, StandTogether, names_in, value_in}
use Rattle.command_words.proofs.BusRead.{runs, within}
use Rattle.command_words.proofs.BusUsed.{AllSet, AllSized, AreNew, ids_of, names-set, option-sets, row_of, rows_of}
use Rattle.command_words.proofs.BusWalks.{names_rule}
use Rattle.command_words.proofs.WordWalks.{option_rule}
use Rattle.command_words.proofs.WordsFound.{PartsOf, first-row, row_of_id, value_of_row}
use Rattle.command_words.proofs.WordsRead.{Use, same-text, use_of}

-- some texts aren't none
no-texts : {X : Type 0} (t : Text) (ts : List Text) → t ∷ ts ≡ [] → X
no-texts t ts e = absurd (let f : ◌≡◌ {A = List Text} (t ∷ ts) [] = e in cc)

module _ (id : Text) (options : List Text) (other : (x : Text) → IsAmong options x → bytes_eq x id ≡ false) where
  differs : (x : Text) → IsAmong options x → x ≡ id → ⊥
  differs x among is = true≢false (sym (ap (λ (t : Text). bytes_eq t id) is ∙ same-text id) ∙ other x among)

  abbrev pub use_names : List Text → Use
  use_names names = use_of (names_rule id) names

  module _ (s : Shape) (plain : s.args_override_self ≡ false) where
    mutual
      pub runs-set : (parts : List Part) → AllSet s plain (runs id parts)
      runs-set [] = tt
      runs-set (AName name ∷ parts) = within-set (name ∷ []) parts
      runs-set (AnOption name value ∷ parts) = (option-sets s plain name value, runs-set parts)
      runs-set (AFlag flag ∷ parts) = runs-set parts

      pub within-set : (names : List Text) (parts : List Part) → AllSet s plain (within id names parts)
      within-set names [] = (names-set s plain id names, tt)
      within-set names (AName name ∷ parts) = within-set (names ++ name ∷ []) parts
      within-set names (AnOption name value ∷ parts) =
          (names-set s plain id names, (option-sets s plain name value, runs-set parts))
      within-set names (AFlag flag ∷ parts) = (names-set s plain id names, runs-set parts)

  -- ---- names that are used once are adjacent

  head-new : (parts : List Part) (names before : List Text) → AreNew before (ids_of (within id names parts))
      → IsAmong before id → ⊥
  head-new [] names before new = new.0
  head-new (AName name ∷ parts) names before new = head-new parts (names ++ name ∷ []) before new
  head-new (AnOption name value ∷ parts) names before new = new.0
  head-new (AFlag flag ∷ parts) names before new = new.0

  -- no names follow after the names
  names-gone : (parts : List Part) (before : List Text) → IsAmong before id → PartsOf options [] parts
      → AreNew before (ids_of (runs id parts)) → names_in parts ≡ []
  names-gone [] before among of new = refl
  names-gone (AName name ∷ parts) before among of new = absurd (head-new parts (name ∷ []) before new among)
  names-gone (AnOption name value ∷ parts) before among of new =
      names-gone parts (name ∷ before) (inr among) of.1 new.1
  names-gone (AFlag flag ∷ parts) before among of new = absurd of.0

  record Goes (parts : List Part) : Type 0 where
    more : List Text
    after : List Part
    are : parts ≡ map AName more ++ after
    none_after : names_in after ≡ []

  goes : (parts : List Part) (names before : List Text) → PartsOf options [] parts
      → AreNew before (ids_of (within id names parts)) → Goes parts
  goes [] names before of new = record { more = []; after = []; are = refl; none_after = refl }
  goes (AName name ∷ parts) names before of new =
      let rest = goes parts (names ++ name ∷ []) before of new in
      record {
        more = name ∷ rest.more;
        after = rest.after;
        are = ap (λ (l : List Part). AName name ∷ l) rest.are;
        none_after = rest.none_after;
      }
  goes (AnOption name value ∷ parts) names before of new = record {
    more = [];
    after = AnOption name value ∷ parts;
    are = refl;
    none_after = names-gone parts (name ∷ id ∷ before) (inr (inl refl)) of.1 new.1.1;
  }
  goes (AFlag flag ∷ parts) names before of new = absurd of.0

  pub new-together : (parts : List Part) (before : List Text) → PartsOf options [] parts
      → AreNew before (ids_of (runs id parts)) → (names : List Text) × StandTogether names parts
  new-together [] before of new =
      ([], record { before = []; after = []; are = refl; none_before = refl; none_after = refl })
  new-together (AName name ∷ parts) before of new =
      let rest = goes parts (name ∷ []) before of new in (
        name ∷ rest.more,
        record {
          before = [];
          after = rest.after;
          are = ap (λ (l : List Part). AName name ∷ l) rest.are;
          none_before = refl;
          none_after = rest.none_after;
        },
      )
  new-together (AnOption name value ∷ parts) before of new =
      let rest = new-together parts (name ∷ before) of.1 new.1 in (
        rest.0,
        record {
          before = AnOption name value ∷ rest.1.before;
          after = rest.1.after;
          are = ap (λ (l : List Part). AnOption name value ∷ l) rest.1.are;
          none_before = rest.1.none_before;
          none_after = rest.1.none_after;
        },
      )
  new-together (AFlag flag ∷ parts) before of new = absurd of.0

  -- and its options occur once
  abbrev IsWithin : List Text → List Text → Type 0
  IsWithin few many = (x : Text) → IsAmong few x → IsAmong many x

  one-more : (few many : List Text) (name : Text) → IsWithin few many → IsWithin (name ∷ few) (name ∷ many)
  one-more few many name all x among =
      ⊎_elim (λ (is : x ≡ name). inl is) (λ (more : IsAmong few x). inr (all x more)) among

  mutual
    pub new-once : (parts : List Part) (few many : List Text) → IsWithin few many → PartsOf options [] parts
        → AreNew many (ids_of (runs id parts)) → AreOnce few parts
    new-once [] few many all of new = tt
    new-once (AName name ∷ parts) few many all of new = within-once parts (name ∷ []) few many all of new
    new-once (AnOption name value ∷ parts) few many all of new = (
      (λ among. new.0 (all name among)),
      new-once parts (name ∷ few) (name ∷ many) (one-more few many name all) of.1 new.1,
    )
    new-once (AFlag flag ∷ parts) few many all of new = absurd of.0

    within-once : (parts : List Part) (names few many : List Text) → IsWithin few many → PartsOf options [] parts
        → AreNew many (ids_of (within id names parts)) → AreOnce few parts
    within-once [] names few many all of new = tt
    within-once (AName name ∷ parts) names few many all of new =
        within-once parts (names ++ name ∷ []) few many all of new
    within-once (AnOption name value ∷ parts) names few many all of new = (
      (λ among. new.1.0 (inr (all name among))),
      new-once parts (name ∷ few) (name ∷ id ∷ many)
          (one-more few (id ∷ many) name (λ x among. inr (all x among))) of.1 new.1.1,
    )
    within-once (AFlag flag ∷ parts) names few many all of new = absurd of.0

  -- ---- adjacent names are used once

  within-split : (more names : List Text) (after : List Part) → names_in after ≡ []
      → PartsOf options [] (map AName more ++ after)
      → within id names (map AName more ++ after) ≡ use_names (names ++ more) ∷ runs id after
  within-split [] names [] none of = ap (λ (l : List Text). use_names l ∷ []) (sym (append-nil names))
  within-split [] names (AName name ∷ parts) none of = no-texts name (names_in parts) none
  within-split [] names (AnOption name value ∷ parts) none of =
      ap (λ (l : List Text). use_names l ∷ use_of (option_rule name) (value ∷ []) ∷ runs id parts)
      (sym (append-nil names))
  within-split [] names (AFlag flag ∷ parts) none of = absurd of.0
  within-split (name ∷ more) names after none of =
      within-split more (names ++ name ∷ []) after none of
      ∙ ap (λ (l : List Text). use_names l ∷ runs id after) (append_assoc names (name ∷ []) more)

  -- the parts, if names are adjacent, and what they use
  abbrev pub split : List Part → Text → List Text → List Part → List Part
  split before name more after = before ++ (map AName (name ∷ more) ++ after)

  abbrev pub split_uses : List Part → Text → List Text → List Part → List Use
  split_uses before name more after = runs id before ++ use_names (name ∷ more) ∷ runs id after

  pub runs-split : (before : List Part) (name : Text) (more : List Text) (after : List Part) → names_in before ≡ []
      → names_in after ≡ [] → PartsOf options [] (split before name more after)
      → runs id (split before name more after) ≡ split_uses before name more after
  runs-split [] name more after none gone of = within-split more (name ∷ []) after gone of
  runs-split (AName x ∷ before) name more after none gone of = no-texts x (names_in before) none
  runs-split (AnOption x value ∷ before) name more after none gone of =
      ap (λ (us : List Use). use_of (option_rule x) (value ∷ []) ∷ us)
      (runs-split before name more after none gone of.1)
  runs-split (AFlag flag ∷ before) name more after none gone of = absurd of.0

  names-of : (more : List Text) (after : List Part) → PartsOf options [] (map AName more ++ after)
      → PartsOf options [] after
  names-of [] after of = of
  names-of (name ∷ more) after of = names-of more after of

  names-once : (more before : List Text) (after : List Part) → AreOnce before (map AName more ++ after)
      → AreOnce before after
  names-once [] before after once = once
  names-once (name ∷ more) before after once = names-once more before after once

  after-new : (parts : List Part) (few many : List Text)
      → ((x : Text) → IsAmong options x → IsAmong many x → IsAmong few x) → names_in parts ≡ []
      → PartsOf options [] parts → AreOnce few parts → AreNew many (ids_of (runs id parts))
  after-new [] few many all none of once = tt
  after-new (AName name ∷ parts) few many all none of once = no-texts name (names_in parts) none
  after-new (AnOption name value ∷ parts) few many all none of once = (
    (λ among. once.0 (all name of.0 among)),
    after-new parts (name ∷ few) (name ∷ many) (λ x is among.
        ⊎_elim (λ (same : x ≡ name). inl same) (λ (more : IsAmong many x). inr (all x is more)) among) none of.1 once.1,
  )
  after-new (AFlag flag ∷ parts) few many all none of once = absurd of.0

  pub split-new : (before : List Part) (name : Text) (more : List Text) (after : List Part) (first : List Text)
      → (IsAmong first id → ⊥) → names_in before ≡ [] → names_in after ≡ []
      → PartsOf options [] (split before name more after) → AreOnce first (split before name more after)
      → AreNew first (ids_of (split_uses before name more after))
  split-new [] name more after first free none gone of once = (
    free,
    after-new after first (id ∷ first) (λ x is among.
        ⊎_elim (λ (same : x ≡ id). absurd (differs x is same)) (λ (m : IsAmong first x). m) among) gone
        (names-of more after of) (names-once more first after once),
  )
  split-new (AName x ∷ before) name more after first free none gone of once = no-texts x (names_in before) none
  split-new (AnOption x value ∷ before) name more after first free none gone of once = (
    once.0,
    split-new before name more after (x ∷ first)
        (λ among. ⊎_elim (λ (same : id ≡ x). differs x of.0 (sym same)) (λ (m : IsAmong first id). free m) among) none
        gone of.1 once.1,
  )
  split-new (AFlag flag ∷ before) name more after first free none gone of once = absurd of.0

  after-sized : (parts : List Part) → names_in parts ≡ [] → AllSized (runs id parts)
  after-sized [] none = tt
  after-sized (AName name ∷ parts) none = no-texts name (names_in parts) none
  after-sized (AnOption name value ∷ parts) none = (refl, after-sized parts none)
  after-sized (AFlag flag ∷ parts) none = after-sized parts none

  pub split-sized : (before : List Part) (name : Text) (more : List Text) (after : List Part)
      → range_kinds 2 16 (length (name ∷ more)) ≡ [] → names_in before ≡ [] → names_in after ≡ []
      → AllSized (split_uses before name more after)
  split-sized [] name more after size none gone = (size, after-sized after gone)
  split-sized (AName x ∷ before) name more after size none gone = no-texts x (names_in before) none
  split-sized (AnOption x value ∷ before) name more after size none gone =
      (refl, split-sized before name more after size none gone)
  split-sized (AFlag flag ∷ before) name more after size none gone =
      split-sized before name more after size none gone

  -- ---- what is found

  abbrev row_found : List Use → Option Row
  row_found us = row_of_id id (rows_of us)

  pub split-found : (before : List Part) (name : Text) (more : List Text) (after : List Part) → names_in before ≡ []
      → PartsOf options [] (split before name more after)
      → row_of_id id (rows_of (split_uses before name more after)) ≡ Some (row_of (use_names (name ∷ more)))
  split-found [] name more after none of =
      ap (λ (b : Bool). cond b (Some (row_of (use_names (name ∷ more)))) (row_found (runs id after))) (same-text id)
  split-found (AName x ∷ before) name more after none of = no-texts x (names_in before) none
  split-found (AnOption x value ∷ before) name more after none of =
      ap (λ (b : Bool). cond b (Some (row_of (use_of (option_rule x) (value ∷ []))))
      (row_found (split_uses before name more after))) (other x of.0)
      ∙ split-found before name more after none of.1
  split-found (AFlag flag ∷ before) name more after none of = absurd of.0

  pub none-found : (parts : List Part) → names_in parts ≡ [] → PartsOf options [] parts
      → row_of_id id (rows_of (runs id parts)) ≡ None
  none-found [] none of = refl
  none-found (AName name ∷ parts) none of = no-texts name (names_in parts) none
  none-found (AnOption name value ∷ parts) none of =
      ap (λ (b : Bool). cond b (Some (row_of (use_of (option_rule name) (value ∷ [])))) (row_found (runs id parts)))
      (other name of.0) ∙ none-found parts none of.1
  none-found (AFlag flag ∷ parts) none of = absurd of.0

  module _ (x : Text) (unlike : bytes_eq id x ≡ false) where
    past-names : (names : List Text) (rows : List Row)
        → first_of x (row_of (use_names names) ∷ rows) ≡ first_of x rows
    past-names names rows =
        ap (λ (b : Bool). value_of_row (cond b (Some (row_of (use_names names))) (row_of_id x rows))) unlike

    past-option : (name value : Text) (rows : List Row) (found : Option Text) → first_of x rows ≡ found
        → first_of x (row_of (use_of (option_rule name) (value ∷ [])) ∷ rows) ≡ cond (bytes_eq name x) (Some value) found
    past-option name value rows found is =
        first-row x name value _ rows ∙ ap (λ (o : Option Text). cond (bytes_eq name x) (Some value) o) is

    mutual
      pub runs-value : (parts : List Part) → first_of x (rows_of (runs id parts)) ≡ value_in x parts
      runs-value [] = refl
      runs-value (AName name ∷ parts) = within-value (name ∷ []) parts
      runs-value (AnOption name value ∷ parts) =
          past-option name value (rows_of (runs id parts)) (value_in x parts) (runs-value parts)
      runs-value (AFlag flag ∷ parts) = runs-value parts

      pub within-value : (names : List Text) (parts : List Part)
          → first_of x (rows_of (within id names parts)) ≡ value_in x parts
      within-value names [] = past-names names []
      within-value names (AName name ∷ parts) = within-value (names ++ name ∷ []) parts
      within-value names (AnOption name value ∷ parts) =
          past-names names (row_of (use_of (option_rule name) (value ∷ [])) ∷ rows_of (runs id parts))
          ∙ past-option name value (rows_of (runs id parts)) (value_in x parts) (runs-value parts)
      within-value names (AFlag flag ∷ parts) = past-names names (rows_of (runs id parts)) ∙ runs-value parts
