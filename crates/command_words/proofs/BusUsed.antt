-- If each rule may be used once, its uses are wrong exactly if a rule is used again or has too few or too many values.
-- Otherwise the uses are the result.
use Rattle.std.proofs.Common.{◌≡◌, inl, inr, ⊎_elim, ◌∙◌, refl, sym, ap, subst, Bool, true, false, ◌||◌, List, [], ◌∷◌, ◌++◌, append-nil, append_assoc, length, true≢false}
use Rattle.std.specs.Str.{bytes_eq}
use Rattle.clap.specs.Facts.{unwrap_or_range}
use Rattle.clap.specs.Kinds.{Kinds, or_else, range_kinds}
use Rattle.clap.specs.Walk.{Row, Text, has_row, most_values, reading_by, used}
use Rattle.clap.specs.Simple.{Shape}
use Rattle.clap.specs.Faults.{repeat_fault, use_fault, values_fault}
use Rattle.command_words.specs.Prelude.{IsAmong}
use Rattle.command_words.proofs.BusWalks.{names_rule}
use Rattle.command_words.proofs.WordWalks.{both-none, option_rule}
use Rattle.command_words.proofs.WordsRead.{Use, same-text, use_of, uses_rows, uses_wrong}
use Rattle.command_words.proofs.WordsUsed.{false-or, fresh-repeat, fresh-values, has-more, or-true, repeat-fresh, row_with, text-is}

abbrev pub ids_of : List Use → List Text
ids_of [] = []
ids_of (u ∷ us) = u.rule.id ∷ ids_of us

-- none occurs twice, given those that occur before
abbrev pub AreNew : List Text → List Text → Type 0
AreNew before [] = Unit {0}
AreNew before (x ∷ xs) = (IsAmong before x → ⊥) × AreNew (x ∷ before) xs

-- what is found of uses
abbrev pub row_of : Use → Row
row_of u = row_with u.rule.id (reading_by u.rule) u.values

abbrev pub rows_of : List Use → List Row
rows_of [] = []
rows_of (u ∷ us) = row_of u ∷ rows_of us

abbrev pub size_fault : Use → Kinds
size_fault u =
    range_kinds (unwrap_or_range u.rule.range).start_inclusive (most_values u.rule) (length u.values)

abbrev pub AllSized : List Use → Type 0
AllSized [] = Unit {0}
AllSized (u ∷ us) = (size_fault u ≡ []) × AllSized us

-- rows have exactly what occurs before
pub record Stands (before : List Text) (rows : List Row) : Type 0 where
  pub has : (x : Text) → IsAmong before x → has_row x rows ≡ true
  pub lacks : (x : Text) → (IsAmong before x → ⊥) → has_row x rows ≡ false

pub none-stands : Stands [] []
none-stands = record { has = λ x among. absurd among; lacks = λ x notin. refl }

stands-more : (before : List Text) (rows : List Row) (r : Row) → Stands before rows
    → Stands (r.id ∷ before) (rows ++ r ∷ [])
stands-more before rows r st = record {
  has = λ x among. ⊎_elim
      (λ (is : x ≡ r.id). has-more x rows r ∙ ap (λ (b : Bool). has_row x rows || b)
      (ap (bytes_eq r.id) is ∙ same-text r.id) ∙ or-true (has_row x rows))
      (λ (more : IsAmong before x). has-more x rows r ∙ (λ i. st.has x more i || bytes_eq r.id x)) among;
  lacks = λ x notin.
      let other : bytes_eq r.id x ≡ false =
      false-or (bytes_eq r.id x) (λ is. notin (inl (sym (text-is r.id x is)))) in
      has-more x rows r ∙ (λ i. st.lacks x (λ among. notin (inr among)) i || other i);
}

texts-pass : (id : Text) (values : List Text) → values_fault (names_rule id) values ≡ []
texts-pass id [] = refl
texts-pass id (v ∷ vs) = texts-pass id vs

module _ (s : Shape) (plain : s.args_override_self ≡ false) where
  -- a use that makes a row
  pub record Sets (u : Use) : Type 0 where
    pub faults : (rows : List Row)
        → use_fault s.args_override_self u.rule u.values rows
        ≡ or_else (size_fault u) (or_else (repeat_fault s.args_override_self u.rule.id rows) [])
    pub makes : (rows : List Row) → has_row u.rule.id rows ≡ false → used u.rule u.values rows ≡ rows ++ row_of u ∷ []

  pub option-sets : (name value : Text) → Sets (use_of (option_rule name) (value ∷ []))
  option-sets name value = record {
    faults = λ rows. refl;
    makes = λ rows none. fresh-values name (reading_by (option_rule name)) (value ∷ []) rows none;
  }

  pub names-set : (id : Text) (names : List Text) → Sets (use_of (names_rule id) names)
  names-set id [] = record {
    faults = λ rows. refl;
    makes = λ rows none. fresh-values id (reading_by (names_rule id)) [] rows none;
  }
  names-set id (name ∷ names) = record {
    faults = λ rows. ap (λ (kinds : Kinds). or_else (size_fault (use_of (names_rule id) (name ∷ names)))
        (or_else (repeat_fault s.args_override_self id rows) kinds)) (texts-pass id names);
    makes = λ rows none. fresh-values id (reading_by (names_rule id)) (name ∷ names) rows none;
  }

  abbrev pub AllSet : List Use → Type 0
  AllSet [] = Unit {0}
  AllSet (u ∷ us) = Sets u × AllSet us

  pub wrong-new : (us : List Use) (before : List Text) (rows : List Row) → AllSet us → Stands before rows
      → uses_wrong s rows us ≡ [] → AreNew before (ids_of us)
  wrong-new [] before rows sets st none = tt
  wrong-new (u ∷ us) before rows sets st none =
      let both = both-none (use_fault s.args_override_self u.rule u.values rows) _ none in
      let fault : or_else (size_fault u) (or_else (repeat_fault s.args_override_self u.rule.id rows) []) ≡ [] =
      sym (sets.0.faults rows) ∙ both.0 in
      let fresh : has_row u.rule.id rows ≡ false =
      repeat-fresh s plain u.rule.id rows
      (both-none (repeat_fault s.args_override_self u.rule.id rows) [] (both-none (size_fault u) _ fault).1).0 in (
        (λ among. true≢false (sym (st.has u.rule.id among) ∙ fresh)),
        wrong-new us (u.rule.id ∷ before) (rows ++ row_of u ∷ []) sets.1 (stands-more before rows (row_of u) st)
            (subst (λ (l : List Row). uses_wrong s l us ≡ []) (sets.0.makes rows fresh) both.1),
      )

  pub new-right : (us : List Use) (before : List Text) (rows : List Row) → AllSet us → AllSized us → Stands before rows
      → AreNew before (ids_of us) → uses_wrong s rows us ≡ []
  new-right [] before rows sets sized st new = refl
  new-right (u ∷ us) before rows sets sized st new =
      let fresh = st.lacks u.rule.id new.0 in
      let here : use_fault s.args_override_self u.rule u.values rows ≡ [] =
      sets.0.faults rows
      ∙ (λ i. or_else (sized.0 i) (or_else (fresh-repeat s plain u.rule.id rows fresh i) [])) in
      let rest : uses_wrong s (used u.rule u.values rows) us ≡ [] =
      ap (λ (l : List Row). uses_wrong s l us) (sets.0.makes rows fresh)
      ∙ new-right us (u.rule.id ∷ before) (rows ++ row_of u ∷ []) sets.1 sized.1
      (stands-more before rows (row_of u) st) new.1 in
      λ i. or_else (here i) (rest i)

  pub new-rows : (us : List Use) (before : List Text) (rows : List Row) → AllSet us → Stands before rows
      → AreNew before (ids_of us) → uses_rows s rows us ≡ rows ++ rows_of us
  new-rows [] before rows sets st new = sym (append-nil rows)
  new-rows (u ∷ us) before rows sets st new =
      ap (λ (l : List Row). uses_rows s l us) (sets.0.makes rows (st.lacks u.rule.id new.0))
      ∙ new-rows us (u.rule.id ∷ before) (rows ++ row_of u ∷ []) sets.1 (stands-more before rows (row_of u) st) new.1
      ∙ append_assoc rows (row_of u ∷ []) (rows_of us)
