-- The use of parts is wrong exactly if an option or a flag occurs twice; otherwise it is what is found.
use Rattle.std.proofs.Common.{◌≡◌, ◌⊎◌, inl, inr, ⊎_elim, ◌∙◌, refl, sym, ap, subst, ℕ, Bool, true, false, cond, not, min, ◌+◌, ◌&&◌, ◌||◌, List, [], ◌∷◌, ◌++◌, append-nil, append_assoc, Some, None, true≢false}
use Rattle.std.specs.Prelude.{codes}
use Rattle.std.specs.Str.{bytes_eq}
use Rattle.std.proofs.lemmas.Slice.Eq.{bytes_eq-Decides}
use Rattle.clap.specs.Lexer.{usize_max}
use Rattle.clap.specs.Kinds.{Kinds, or_else}
use Rattle.clap.specs.Walk.{Row, Text, at_row, has_row, more_values, reading_by, used, with_values, without}
use Rattle.clap.specs.Simple.{Shape}
use Rattle.clap.specs.Faults.{repeat_fault}
use Rattle.clap.specs.declared.parser.matches.ValueSource.TheVariants.{CommandLine}
use Rattle.clap.specs.declared.builder.value_parser.Reading.{Reading}
use Rattle.command_words.specs.Prelude.{AFlag, AName, AnOption, Apart, AreOnce, Behind, Ended, Flagged, IsAmong, IsLine, Joined, Named, Part}
use Rattle.command_words.proofs.WordsRead.{NamesFit, all_names, same-text, uses, uses_rows, uses_wrong}
use Rattle.command_words.proofs.WordWalks.{both-none, flag_rule, name_rule, option_rule}
use Rattle.clap.specs.declared.error.kind.ErrorKind.TheVariants as kind

-- ---- rows

or-first : (a b : Bool) → (a || b) ≡ false → a ≡ false
or-first true b e = e
or-first false b e = refl

or-second : (a b : Bool) → (a || b) ≡ false → b ≡ false
or-second true b e = absurd (true≢false e)
or-second false b e = e

pub at-missing : (id : Text) (change : Row → List Row) (missing rows : List Row) → has_row id rows ≡ false
    → at_row id change missing rows ≡ rows ++ missing
at-missing id change missing [] none = refl
at-missing id change missing (r ∷ rs) none =
    let here : bytes_eq r.id id ≡ false = or-first (bytes_eq r.id id) (has_row id rs) none in
    let rest : has_row id rs ≡ false = or-second (bytes_eq r.id id) (has_row id rs) none in
    rw here (ap (λ (l : List Row). r ∷ l) (at-missing id change missing rs rest))

abbrev pub row_with : Text → Reading → List Text → Row
row_with id how values = record {
  id = id;
  values = values;
  count = None;
  source = Some CommandLine;
  reading = how;
}

pub fresh-values : (id : Text) (how : Reading) (values : List Text) (rows : List Row) → has_row id rows ≡ false
    → with_values id how CommandLine values (without id rows) ≡ rows ++ row_with id how values ∷ []
fresh-values id how values rows none =
    ap (with_values id how CommandLine values) (at-missing id (λ r. []) [] rows none ∙ append-nil rows)
    ∙ at-missing id (more_values CommandLine values) (row_with id how values ∷ []) rows none

abbrev pub text_row : Text → Text → Row
text_row id value = row_with id (reading_by (option_rule id)) (value ∷ [])

abbrev pub flag_row : Text → Row
flag_row id = row_with id (reading_by (flag_rule id)) (codes "true" ∷ [])

-- what is found of parts, whose names are these
abbrev pub rows_of_parts : List Part → List Text → List Row
rows_of_parts [] ids = []
rows_of_parts (AName name ∷ parts) [] = rows_of_parts parts []
rows_of_parts (AName name ∷ parts) (id ∷ ids) = text_row id name ∷ rows_of_parts parts ids
rows_of_parts (AnOption name value ∷ parts) ids = text_row name value ∷ rows_of_parts parts ids
rows_of_parts (AFlag flag ∷ parts) ids = flag_row flag ∷ rows_of_parts parts ids

-- each has no row before it
abbrev pub AllFresh : List Row → List Row → Type 0
AllFresh rows [] = Unit {0}
AllFresh rows (r ∷ more) = (has_row r.id rows ≡ false) × AllFresh (rows ++ r ∷ []) more

module _ (s : Shape) (plain : s.args_override_self ≡ false) where
  pub repeat-fresh : (id : Text) (rows : List Row) → repeat_fault s.args_override_self id rows ≡ []
      → has_row id rows ≡ false
  repeat-fresh id rows none = by (has_row id rows) refl
    where
      kinds : Bool → Bool → Kinds
      kinds has again = cond (has && not again) (kind.ArgumentConflict ∷ []) []

      is_none : Kinds → Bool
      is_none [] = true
      is_none (k ∷ ks) = false

      by : (b : Bool) → has_row id rows ≡ b → has_row id rows ≡ false
      by false e = e
      by true e =
          absurd (true≢false (sym (ap is_none none) ∙ (λ i. is_none (cond (e i && not (plain i)) (kind.ArgumentConflict
          ∷ []) []))))

  pub fresh-repeat : (id : Text) (rows : List Row) → has_row id rows ≡ false
      → repeat_fault s.args_override_self id rows ≡ []
  fresh-repeat id rows none =
      ap (λ (b : Bool). cond (b && not s.args_override_self) (kind.ArgumentConflict ∷ []) []) none

  name-used : (id value : Text) (p : ℕ) (rows : List Row) → has_row id rows ≡ false
      → used (name_rule id p) (value ∷ []) rows ≡ rows ++ text_row id value ∷ []
  name-used id value p rows none = fresh-values id (reading_by (option_rule id)) (value ∷ []) rows none

  option-used : (id value : Text) (rows : List Row) → has_row id rows ≡ false
      → used (option_rule id) (value ∷ []) rows ≡ rows ++ text_row id value ∷ []
  option-used id value rows none = fresh-values id (reading_by (option_rule id)) (value ∷ []) rows none

  flag-used : (id : Text) (rows : List Row) → has_row id rows ≡ false
      → used (flag_rule id) [] rows ≡ rows ++ flag_row id ∷ []
  flag-used id rows none = fresh-values id (reading_by (flag_rule id)) (codes "true" ∷ []) rows none

  -- where nothing is wrong each is fresh
  pub wrong-fresh : (parts : List Part) (p : ℕ) (ids : List Text) (rows : List Row) → NamesFit parts ids
      → uses_wrong s rows (uses parts p ids) ≡ [] → AllFresh rows (rows_of_parts parts ids)
  wrong-fresh [] p ids rows fit none = tt
  wrong-fresh (AName name ∷ parts) p [] rows fit none = absurd fit
  wrong-fresh (AName name ∷ parts) p (id ∷ ids) rows fit none =
      let both = both-none (or_else (repeat_fault s.args_override_self id rows) []) _ none in
      let fresh = repeat-fresh id rows (both-none (repeat_fault s.args_override_self id rows) [] both.0).0 in (
        fresh,
        wrong-fresh parts (min (p + 1) usize_max) ids (rows ++ text_row id name ∷ []) fit
            (subst (λ (l : List Row). uses_wrong s l (uses parts (min (p + 1) usize_max) ids) ≡ [])
            (name-used id name p rows fresh) both.1),
      )
  wrong-fresh (AnOption name value ∷ parts) p ids rows fit none =
      let both = both-none (or_else (repeat_fault s.args_override_self name rows) []) _ none in
      let fresh = repeat-fresh name rows (both-none (repeat_fault s.args_override_self name rows) [] both.0).0 in (
        fresh,
        wrong-fresh parts p ids (rows ++ text_row name value ∷ []) fit
            (subst (λ (l : List Row). uses_wrong s l (uses parts p ids) ≡ []) (option-used name value rows fresh) both.1),
      )
  wrong-fresh (AFlag flag ∷ parts) p ids rows fit none =
      let both = both-none (or_else (repeat_fault s.args_override_self flag rows) []) _ none in
      let fresh = repeat-fresh flag rows (both-none (repeat_fault s.args_override_self flag rows) [] both.0).0 in (
        fresh,
        wrong-fresh parts p ids (rows ++ flag_row flag ∷ []) fit
            (subst (λ (l : List Row). uses_wrong s l (uses parts p ids) ≡ []) (flag-used flag rows fresh) both.1),
      )

  once-more : (id : Text) (rows : List Row) (rest : Kinds) → has_row id rows ≡ false → rest ≡ []
      → or_else (or_else (repeat_fault s.args_override_self id rows) []) rest ≡ []
  once-more id rows rest fresh none = λ i. or_else (or_else (fresh-repeat id rows fresh i) []) (none i)

  -- where each is fresh nothing is wrong, and their rows are found
  pub fresh-right : (parts : List Part) (p : ℕ) (ids : List Text) (rows : List Row) → NamesFit parts ids
      → AllFresh rows (rows_of_parts parts ids)
      → (uses_wrong s rows (uses parts p ids) ≡ [])
      × (uses_rows s rows (uses parts p ids) ≡ rows ++ rows_of_parts parts ids)
  fresh-right [] p ids rows fit fresh = (refl, sym (append-nil rows))
  fresh-right (AName name ∷ parts) p [] rows fit fresh = absurd fit
  fresh-right (AName name ∷ parts) p (id ∷ ids) rows fit fresh =
      let used_so = name-used id name p rows fresh.0 in
      let next = min (p + 1) usize_max in
      let rest = fresh-right parts next ids (rows ++ text_row id name ∷ []) fit fresh.1 in (
        once-more id rows _ fresh.0
            (subst (λ (l : List Row). uses_wrong s l (uses parts next ids) ≡ []) (sym used_so) rest.0),
        ap (λ (l : List Row). uses_rows s l (uses parts next ids)) used_so ∙ rest.1
            ∙ append_assoc rows (text_row id name ∷ []) (rows_of_parts parts ids),
      )
  fresh-right (AnOption name value ∷ parts) p ids rows fit fresh =
      let used_so = option-used name value rows fresh.0 in
      let rest = fresh-right parts p ids (rows ++ text_row name value ∷ []) fit fresh.1 in (
        once-more name rows _ fresh.0
            (subst (λ (l : List Row). uses_wrong s l (uses parts p ids) ≡ []) (sym used_so) rest.0),
        ap (λ (l : List Row). uses_rows s l (uses parts p ids)) used_so ∙ rest.1
            ∙ append_assoc rows (text_row name value ∷ []) (rows_of_parts parts ids),
      )
  fresh-right (AFlag flag ∷ parts) p ids rows fit fresh =
      let used_so = flag-used flag rows fresh.0 in
      let rest = fresh-right parts p ids (rows ++ flag_row flag ∷ []) fit fresh.1 in (
        once-more flag rows _ fresh.0
            (subst (λ (l : List Row). uses_wrong s l (uses parts p ids) ≡ []) (sym used_so) rest.0),
        ap (λ (l : List Row). uses_rows s l (uses parts p ids)) used_so ∙ rest.1
            ∙ append_assoc rows (flag_row flag ∷ []) (rows_of_parts parts ids),
      )

-- ---- fresh rows are those of parts that occur once

pub text-is : (a b : Text) → bytes_eq a b ≡ true → a ≡ b
text-is a b e = (bytes_eq-Decides a b).0 e

pub has-more : (x : Text) (rows : List Row) (r : Row) → has_row x (rows ++ r ∷ []) ≡ (has_row x rows || bytes_eq r.id x)
has-more x [] r = or-none (bytes_eq r.id x)
  where
    or-none : (b : Bool) → (b || false) ≡ b
    or-none true = refl
    or-none false = refl
has-more x (q ∷ rows) r = by (bytes_eq q.id x) (has-more x rows r)
  where
    by : (b : Bool) → has_row x (rows ++ r ∷ []) ≡ (has_row x rows || bytes_eq r.id x)
        → (b || has_row x (rows ++ r ∷ [])) ≡ ((b || has_row x rows) || bytes_eq r.id x)
    by true e = refl
    by false e = e

-- these names differ from one another
abbrev pub DifferFrom : Text → List Text → Type 0
DifferFrom x [] = Unit {0}
DifferFrom x (y ∷ ys) = (bytes_eq x y ≡ false) × DifferFrom x ys

abbrev pub AllDiffer : List Text → Type 0
AllDiffer [] = Unit {0}
AllDiffer (x ∷ xs) = DifferFrom x xs × AllDiffer xs

-- the options and flags that parts have are of these
abbrev pub AreOf : (Text → Type 0) → List Part → Type 0
AreOf Either [] = Unit {0}
AreOf Either (AName name ∷ parts) = AreOf Either parts
AreOf Either (AnOption name value ∷ parts) = Either name × AreOf Either parts
AreOf Either (AFlag flag ∷ parts) = Either flag × AreOf Either parts

-- rows have what occurs before, and none of the names to come
pub record Stand (Either : Text → Type 0) (before ids : List Text) (rows : List Row) : Type 0 where
  pub has : (x : Text) → IsAmong before x → has_row x rows ≡ true
  pub lacks : (x : Text) → Either x → (IsAmong before x → ⊥) → has_row x rows ≡ false
  pub names : (x : Text) → IsAmong ids x → has_row x rows ≡ false

pub differ-at : (x y : Text) (ys : List Text) → DifferFrom x ys → IsAmong ys y → bytes_eq x y ≡ false
differ-at x y [] differ among = absurd among
differ-at x y (z ∷ zs) differ among = ⊎_elim
    (λ (is : y ≡ z). ap (bytes_eq x) is ∙ differ.0) (λ (more : IsAmong zs y). differ-at x y zs differ.1 more) among

pub false-or : (a : Bool) → (a ≡ true → ⊥) → a ≡ false
false-or true e = absurd (e refl)
false-or false e = refl

pub or-true : (b : Bool) → (b || true) ≡ true
or-true true = refl
or-true false = refl

-- texts that differ one way differ the other way
pub differ-back : (x y : Text) → bytes_eq x y ≡ false → bytes_eq y x ≡ false
differ-back x y differ =
    false-or (bytes_eq y x) (λ e. true≢false (sym (same-text x) ∙ ap (bytes_eq x) (sym (text-is y x e)) ∙ differ))

module _ (Either : Text → Type 0) where
  stand-name : (before ids : List Text) (rows : List Row) (id value : Text) → Stand Either before (id ∷ ids) rows
      → ((x : Text) → Either x → DifferFrom x (id ∷ ids)) → DifferFrom id ids
      → Stand Either before ids (rows ++ text_row id value ∷ [])
  stand-name before ids rows id value st apart differ = record {
    has = λ x among. has-more x rows (text_row id value) ∙ (λ i. st.has x among i || bytes_eq id x);
    lacks = λ x either notin.
        has-more x rows (text_row id value)
        ∙ (λ i. st.lacks x either notin i || differ-back x id (apart x either).0 i);
    names = λ x among.
        has-more x rows (text_row id value) ∙ (λ i. st.names x (inr among) i || differ-at id x ids differ among i);
  }

  stand-use : (before ids : List Text) (rows : List Row) (r : Row) → Stand Either before ids rows
      → Either r.id → ((x : Text) → Either x → DifferFrom x ids) → Stand Either (r.id ∷ before) ids (rows ++ r ∷ [])
  stand-use before ids rows r st either apart = record {
    has = λ x among. ⊎_elim
        (λ (is : x ≡ r.id). has-more x rows r ∙ ap (λ (b : Bool). has_row x rows || b)
        (ap (bytes_eq r.id) is ∙ same-text r.id) ∙ or-true (has_row x rows))
        (λ (more : IsAmong before x). has-more x rows r ∙ (λ i. st.has x more i || bytes_eq r.id x)) among;
    lacks = λ x e notin.
        let other : bytes_eq r.id x ≡ false =
        false-or (bytes_eq r.id x) (λ is. notin (inl (sym (text-is r.id x is)))) in
        has-more x rows r ∙ (λ i. st.lacks x e (λ b. notin (inr b)) i || other i);
    names = λ x among.
        has-more x rows r ∙ (λ i. st.names x among i || differ-at r.id x ids (apart r.id either) among i);
  }

  less-apart : (id : Text) (ids : List Text) → ((x : Text) → Either x → DifferFrom x (id ∷ ids))
      → (x : Text) → Either x → DifferFrom x ids
  less-apart id ids apart x either = (apart x either).1

  pub once-fresh : (parts : List Part) (ids before : List Text) (rows : List Row) → Stand Either before ids rows
      → AreOf Either parts → ((x : Text) → Either x → DifferFrom x ids) → AllDiffer ids → NamesFit parts ids
      → AreOnce before parts → AllFresh rows (rows_of_parts parts ids)
  once-fresh [] ids before rows st of apart differ fit once = tt
  once-fresh (AName name ∷ parts) [] before rows st of apart differ fit once = absurd fit
  once-fresh (AName name ∷ parts) (id ∷ ids) before rows st of apart differ fit once = (
    st.names id (inl refl),
    once-fresh parts ids before (rows ++ text_row id name ∷ [])
        (stand-name before ids rows id name st apart differ.0) of (less-apart id ids apart) differ.1 fit once,
  )
  once-fresh (AnOption name value ∷ parts) ids before rows st of apart differ fit once = (
    st.lacks name of.0 once.0,
    once-fresh parts ids (name ∷ before) (rows ++ text_row name value ∷ [])
        (stand-use before ids rows (text_row name value) st of.0 apart) of.1 apart differ fit once.1,
  )
  once-fresh (AFlag flag ∷ parts) ids before rows st of apart differ fit once = (
    st.lacks flag of.0 once.0,
    once-fresh parts ids (flag ∷ before) (rows ++ flag_row flag ∷ [])
        (stand-use before ids rows (flag_row flag) st of.0 apart) of.1 apart differ fit once.1,
  )

  new-one : (x : Text) (before : List Text) (rows : List Row) → ((y : Text) → IsAmong before y → has_row y rows ≡ true)
      → has_row x rows ≡ false → IsAmong before x → ⊥
  new-one x before rows has none among = true≢false (sym (has x among) ∙ none)

  pub fresh-once : (parts : List Part) (ids before : List Text) (rows : List Row) → Stand Either before ids rows
      → AreOf Either parts → ((x : Text) → Either x → DifferFrom x ids) → AllDiffer ids → NamesFit parts ids
      → AllFresh rows (rows_of_parts parts ids) → AreOnce before parts
  fresh-once [] ids before rows st of apart differ fit fresh = tt
  fresh-once (AName name ∷ parts) [] before rows st of apart differ fit fresh = absurd fit
  fresh-once (AName name ∷ parts) (id ∷ ids) before rows st of apart differ fit fresh =
      fresh-once parts ids before (rows ++ text_row id name ∷ [])
      (stand-name before ids rows id name st apart differ.0) of (less-apart id ids apart) differ.1 fit fresh.1
  fresh-once (AnOption name value ∷ parts) ids before rows st of apart differ fit fresh = (
    new-one name before rows st.has fresh.0,
    fresh-once parts ids (name ∷ before) (rows ++ text_row name value ∷ [])
        (stand-use before ids rows (text_row name value) st of.0 apart) of.1 apart differ fit fresh.1,
  )
  fresh-once (AFlag flag ∷ parts) ids before rows st of apart differ fit fresh = (
    new-one flag before rows st.has fresh.0,
    fresh-once parts ids (flag ∷ before) (rows ++ flag_row flag ∷ [])
        (stand-use before ids rows (flag_row flag) st of.0 apart) of.1 apart differ fit fresh.1,
  )

  pub stand-first : (ids : List Text) → Stand Either [] ids []
  stand-first ids =
      record { has = λ x among. absurd among; lacks = λ x either notin. refl; names = λ x among. refl }

-- what a line has is of its options and flags
abbrev pub IsEither : List Text → List Text → Text → Type 0
IsEither options flags x = IsAmong options x ⊎ IsAmong flags x

of-names : (Either : Text → Type 0) (words : List Text) → AreOf Either (all_names words)
of-names Either [] = tt
of-names Either (word ∷ words) = of-names Either words

pub line-of : (options flags words : List Text) (parts : List Part) → IsLine options flags words parts
    → AreOf (IsEither options flags) parts
line-of options flags words parts Ended = tt
line-of options flags words parts (Named word words' parts' plain line) = line-of options flags words' parts' line
line-of options flags words parts (Joined name value words' parts' among line) =
    (inl among, line-of options flags words' parts' line)
line-of options flags words parts (Apart name value words' parts' among plain line) =
    (inl among, line-of options flags words' parts' line)
line-of options flags words parts (Flagged name words' parts' among line) =
    (inr among, line-of options flags words' parts' line)
line-of options flags words parts (Behind words') = of-names (IsEither options flags) words'
