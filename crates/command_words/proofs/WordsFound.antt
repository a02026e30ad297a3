-- What is found for a name, for an option and for a flag.
use Rattle.std.proofs.Common.{◌≡◌, ◌⊎◌, inl, inr, ◌∙◌, refl, sym, ap, subst, Bool, true, false, cond, ◌||◌, List, [], ◌∷◌, ◌++◌, Option, Some, None, fold, true≢false}
use Rattle.std.specs.Prelude.{codes, if◌then◌else◌, is_some, option_and_then, slice_get}
use Rattle.std.specs.List.{find}
use Rattle.std.specs.Option.{option_map_or}
use Rattle.std.specs.Str.{bytes_eq}
use Rattle.clap.specs.Facts.{explicit_source}
use Rattle.clap.specs.Takes.{is_given}
use Rattle.clap.specs.Walk.{Row, Rule, Text, default_rows, first_of, has_row, more_values, reading_by, with_default}
use Rattle.clap.specs.declared.parser.matches.ValueSource.TheVariants.{DefaultValue}
use Rattle.clap.specs.declared.builder.value_parser.Reading.{Reading}
use Rattle.command_words.specs.Prelude.{flag_given, AFlag, AName, AnOption, Apart, Behind, Ended, Flagged, IsAmong, IsLine, Joined, Named, Part, has_flag, names_in, value_in}
use Rattle.command_words.proofs.WordsRead.{NamesFit, all_names}
use Rattle.command_words.proofs.WordsUsed.{at-missing, row_with, rows_of_parts, text-is}
use Rattle.command_words.proofs.WordWalks.{flag_rule}

-- ---- defaults

abbrev pub row_of_id : Text → List Row → Option Row
row_of_id x rows = find (λ r. bytes_eq r.id x) rows

find-append : (x : Text) (rows : List Row) (r : Row) → bytes_eq r.id x ≡ false
    → row_of_id x (rows ++ r ∷ []) ≡ row_of_id x rows
find-append x [] r other = ap (λ (b : Bool). cond b (Some r) None) other
find-append x (q ∷ rows) r other = ap (λ (o : Option Row). cond (bytes_eq q.id x) (Some q) o) (find-append x rows r
    other)

find-none : (x : Text) (rows : List Row) → has_row x rows ≡ false → row_of_id x rows ≡ None
find-none x [] none = refl
find-none x (q ∷ rows) none = by (bytes_eq q.id x) none (find-none x rows)
  where
    by : (b : Bool) → (b || has_row x rows) ≡ false → (has_row x rows ≡ false → row_of_id x rows ≡ None)
        → cond b (Some q) (row_of_id x rows) ≡ None
    by true e rest = absurd (true≢false e)
    by false e rest = rest e

find-new : (x : Text) (rows : List Row) (r : Row) → has_row x rows ≡ false → bytes_eq r.id x ≡ true
    → row_of_id x (rows ++ r ∷ []) ≡ Some r
find-new x [] r none is = ap (λ (b : Bool). cond b (Some r) None) is
find-new x (q ∷ rows) r none is = by (bytes_eq q.id x) none (λ n. find-new x rows r n is)
  where
    by : (b : Bool) → (b || has_row x rows) ≡ false
        → (has_row x rows ≡ false → row_of_id x (rows ++ r ∷ []) ≡ Some r)
        → cond b (Some q) (row_of_id x (rows ++ r ∷ [])) ≡ Some r
    by true e rest = absurd (true≢false e)
    by false e rest = rest e

-- a rule has no default, or is that of a flag
abbrev pub HasDefault : List Text → Rule → Type 0
HasDefault flags a = (a.defaults ≡ []) ⊎ ((f : Text) × IsAmong flags f × (a ≡ flag_rule f))

abbrev pub HaveDefaults : List Text → List Rule → Type 0
HaveDefaults flags [] = Unit {0}
HaveDefaults flags (a ∷ rules) = HasDefault flags a × HaveDefaults flags rules

abbrev default_row : Text → Row
default_row f = record {
  id = f;
  values = codes "false" ∷ [];
  count = None;
  source = Some DefaultValue;
  reading = reading_by (flag_rule f);
}

-- a flag that isn't given gets a row
data FlagDefault (f : Text) (rows : List Row) : List Row → Type 0 where
  Stays : has_row f rows ≡ true → FlagDefault f rows rows
  Grows : has_row f rows ≡ false → FlagDefault f rows (rows ++ default_row f ∷ [])

flag-default : (f : Text) (rows : List Row) → FlagDefault f rows (with_default rows (flag_rule f))
flag-default f rows = by (has_row f rows) refl
  where
    by : (b : Bool) → has_row f rows ≡ b → FlagDefault f rows (with_default rows (flag_rule f))
    by true is =
        subst (λ (b : Bool). FlagDefault f rows
        (cond b rows (default_rows f (reading_by (flag_rule f)) (codes "false" ∷ []) rows))) (sym is) (Stays is)
    by false is =
        subst (λ (b : Bool). FlagDefault f rows
        (cond b rows (default_rows f (reading_by (flag_rule f)) (codes "false" ∷ []) rows))) (sym is)
        (subst (λ (l : List Row). FlagDefault f rows l)
        (sym (at-missing f (more_values DefaultValue (codes "false" ∷ [])) (default_row f ∷ []) rows is)) (Grows is))

pub no-default-kept : (a : Rule) (rows : List Row) → a.defaults ≡ [] → with_default rows a ≡ rows
no-default-kept a rows none =
    ap (λ (d : List Text). cond (has_row a.id rows) rows (default_rows a.id (reading_by a) d rows)) none
    ∙ same (has_row a.id rows)
  where
    same : (b : Bool) → cond b rows rows ≡ rows
    same true = refl
    same false = refl

module _ (flags : List Text) (x : Text) (apart : (f : Text) → IsAmong flags f → bytes_eq f x ≡ false) where
  default-kept : (a : Rule) → HasDefault flags a → (rows : List Row)
      → row_of_id x (with_default rows a) ≡ row_of_id x rows
  default-kept a (inl none) rows = ap (row_of_id x) (no-default-kept a rows none)
  default-kept a (inr flag) rows =
      ap (λ (r : Rule). row_of_id x (with_default rows r)) flag.2
      ∙ by (with_default rows (flag_rule flag.0)) (flag-default flag.0 rows)
    where
      by : (after : List Row) → FlagDefault flag.0 rows after → row_of_id x after ≡ row_of_id x rows
      by after (Stays has) = refl
      by after (Grows lacks) = find-append x rows (default_row flag.0) (apart flag.0 flag.1)

  pub defaults-kept : (rules : List Rule) → HaveDefaults flags rules → (rows : List Row)
      → row_of_id x (fold with_default rows rules) ≡ row_of_id x rows
  defaults-kept [] have rows = refl
  defaults-kept (a ∷ rules) have rows =
      defaults-kept rules have.1 (with_default rows a) ∙ default-kept a have.0 rows

-- ---- flags, by the text that is found

abbrev pub value_of_row : Option Row → Option Text
value_of_row found = option_and_then (λ r. slice_get r.values 0) found

says-new : (x f : Text) (rows : List Row) → has_row f rows ≡ false → (b : Bool) → bytes_eq f x ≡ b
    → flag_given (first_of x (rows ++ default_row f ∷ [])) ≡ flag_given (first_of x rows)
says-new x f rows lacks false other =
    ap (λ (o : Option Row). flag_given (value_of_row o)) (find-append x rows (default_row f) other)
says-new x f rows lacks true is =
    let none : has_row x rows ≡ false = subst (λ (t : Text). has_row t rows ≡ false) (text-is f x is) lacks in
    ap (λ (o : Option Row). flag_given (value_of_row o)) (find-new x rows (default_row f) none is)
    ∙ sym (ap (λ (o : Option Row). flag_given (value_of_row o)) (find-none x rows none))

flag-kept : (flags : List Text) (x : Text) (a : Rule) → HasDefault flags a → (rows : List Row)
    → flag_given (first_of x (with_default rows a)) ≡ flag_given (first_of x rows)
flag-kept flags x a (inl none) rows = ap (λ (l : List Row). flag_given (first_of x l)) (no-default-kept a rows none)
flag-kept flags x a (inr flag) rows =
    ap (λ (r : Rule). flag_given (first_of x (with_default rows r))) flag.2
    ∙ by (with_default rows (flag_rule flag.0)) (flag-default flag.0 rows)
  where
    by : (after : List Row) → FlagDefault flag.0 rows after
        → flag_given (first_of x after) ≡ flag_given (first_of x rows)
    by after (Stays has) = refl
    by after (Grows lacks) = says-new x flag.0 rows lacks (bytes_eq flag.0 x) refl

pub flags-kept : (flags : List Text) (x : Text) (rules : List Rule) → HaveDefaults flags rules → (rows : List Row)
    → flag_given (first_of x (fold with_default rows rules)) ≡ flag_given (first_of x rows)
flags-kept flags x [] have rows = refl
flags-kept flags x (a ∷ rules) have rows =
    flags-kept flags x rules have.1 (with_default rows a) ∙ flag-kept flags x a have.0 rows

-- ---- rows of parts

pub first-row : (x id value : Text) (how : Reading) (rows : List Row)
    → first_of x (row_with id how (value ∷ []) ∷ rows) ≡ cond (bytes_eq id x) (Some value) (first_of x rows)
first-row x id value how rows = by (bytes_eq id x)
  where
    by : (b : Bool) → value_of_row (cond b (Some (row_with id how (value ∷ []))) (row_of_id x rows))
        ≡ cond b (Some value) (value_of_row (row_of_id x rows))
    by true = refl
    by false = refl

first-other : (x id value : Text) (how : Reading) (rows : List Row) → bytes_eq id x ≡ false
    → first_of x (row_with id how (value ∷ []) ∷ rows) ≡ first_of x rows
first-other x id value how rows other =
    first-row x id value how rows ∙ ap (λ (b : Bool). cond b (Some value) (first_of x rows)) other

-- the options and the flags that parts have are these
abbrev pub PartsOf : List Text → List Text → List Part → Type 0
PartsOf options flags [] = Unit {0}
PartsOf options flags (AName name ∷ parts) = PartsOf options flags parts
PartsOf options flags (AnOption name value ∷ parts) = IsAmong options name × PartsOf options flags parts
PartsOf options flags (AFlag flag ∷ parts) = IsAmong flags flag × PartsOf options flags parts

parts-of-names : (options flags : List Text) (words : List Text) → PartsOf options flags (all_names words)
parts-of-names options flags [] = tt
parts-of-names options flags (word ∷ words) = parts-of-names options flags words

pub parts-of : (options flags words : List Text) (parts : List Part) → IsLine options flags words parts
    → PartsOf options flags parts
parts-of options flags words parts Ended = tt
parts-of options flags words parts (Named word words' parts' plain line) = parts-of options flags words' parts' line
parts-of options flags words parts (Joined name value words' parts' among line) =
    (among, parts-of options flags words' parts' line)
parts-of options flags words parts (Apart name value words' parts' among plain line) =
    (among, parts-of options flags words' parts' line)
parts-of options flags words parts (Flagged name words' parts' among line) =
    (among, parts-of options flags words' parts' line)
parts-of options flags words parts (Behind words') = parts-of-names options flags words'

-- the name that has a place
abbrev pub name_at : Text → List Text → List Text → Option Text
name_at x [] names = None
name_at x (id ∷ ids) [] = None
name_at x (id ∷ ids) (name ∷ names) = if bytes_eq id x then Some name else name_at x ids names

no-name : (x : Text) (ids : List Text) → name_at x ids [] ≡ None
no-name x [] = refl
no-name x (id ∷ ids) = refl

module _ (options flags : List Text) (x : Text) where
  abbrev Others : List Text → Type 0
  Others names = (name : Text) → IsAmong names name → bytes_eq name x ≡ false

  pub name-found : Others options → Others flags → (parts : List Part) (ids : List Text) → NamesFit parts ids
      → PartsOf options flags parts → first_of x (rows_of_parts parts ids) ≡ name_at x ids (names_in parts)
  name-found others more [] ids fit of = sym (no-name x ids)
  name-found others more (AName name ∷ parts) [] fit of = absurd fit
  name-found others more (AName name ∷ parts) (id ∷ ids) fit of =
      first-row x id name _ (rows_of_parts parts ids)
      ∙ ap (λ (o : Option Text). cond (bytes_eq id x) (Some name) o) (name-found others more parts ids fit of)
  name-found others more (AnOption name value ∷ parts) ids fit of =
      first-other x name value _ (rows_of_parts parts ids) (others name of.0)
      ∙ name-found others more parts ids fit of.1
  name-found others more (AFlag flag ∷ parts) ids fit of =
      first-other x flag (codes "true") _ (rows_of_parts parts ids) (more flag of.0)
      ∙ name-found others more parts ids fit of.1

  pub value-found : (parts : List Part) (ids : List Text) → Others ids → Others flags → NamesFit parts ids
      → PartsOf options flags parts → first_of x (rows_of_parts parts ids) ≡ value_in x parts
  value-found [] ids names more fit of = refl
  value-found (AName name ∷ parts) [] names more fit of = absurd fit
  value-found (AName name ∷ parts) (id ∷ ids) names more fit of =
      first-other x id name _ (rows_of_parts parts ids) (names id (inl refl))
      ∙ value-found parts ids (λ n among. names n (inr among)) more fit of
  value-found (AnOption name value ∷ parts) ids names more fit of =
      first-row x name value _ (rows_of_parts parts ids)
      ∙ ap (λ (o : Option Text). cond (bytes_eq name x) (Some value) o) (value-found parts ids names more fit of.1)
  value-found (AFlag flag ∷ parts) ids names more fit of =
      first-other x flag (codes "true") _ (rows_of_parts parts ids) (more flag of.0)
      ∙ value-found parts ids names more fit of.1

  pub flag-found : (parts : List Part) (ids : List Text) → Others ids → Others options → NamesFit parts ids
      → PartsOf options flags parts → flag_given (first_of x (rows_of_parts parts ids)) ≡ has_flag x parts
  flag-found [] ids names more fit of = refl
  flag-found (AName name ∷ parts) [] names more fit of = absurd fit
  flag-found (AName name ∷ parts) (id ∷ ids) names more fit of =
      ap flag_given (first-other x id name _ (rows_of_parts parts ids) (names id (inl refl)))
      ∙ flag-found parts ids (λ n among. names n (inr among)) more fit of
  flag-found (AnOption name value ∷ parts) ids names more fit of =
      ap flag_given (first-other x name value _ (rows_of_parts parts ids) (more name of.0))
      ∙ flag-found parts ids names more fit of.1
  flag-found (AFlag flag ∷ parts) ids names more fit of =
      ap flag_given (first-row x flag (codes "true") _ (rows_of_parts parts ids))
      ∙ by (bytes_eq flag x) (flag-found parts ids names more fit of.1)
    where
      by : (b : Bool) → flag_given (first_of x (rows_of_parts parts ids)) ≡ has_flag x parts
          → flag_given (cond b (Some (codes "true")) (first_of x (rows_of_parts parts ids))) ≡ (b || has_flag x parts)
      by true e = refl
      by false e = e

given-row : (x id value : Text) (how : Reading) (rows : List Row) → is_given x rows ≡ is_some (first_of x rows)
    → is_given x (row_with id how (value ∷ []) ∷ rows) ≡ is_some (first_of x (row_with id how (value ∷ []) ∷ rows))
given-row x id value how rows rest = by (bytes_eq id x) rest
  where
    by : (b : Bool) → is_given x rows ≡ is_some (first_of x rows)
        → option_map_or (λ r. explicit_source r.source) (cond b (Some (row_with id how (value ∷ []))) (row_of_id x
        rows))
        false ≡ is_some (value_of_row (cond b (Some (row_with id how (value ∷ []))) (row_of_id x rows)))
    by true e = refl
    by false e = e

-- what is found of parts was given
pub given-found : (x : Text) (parts : List Part) (ids : List Text)
    → is_given x (rows_of_parts parts ids) ≡ is_some (first_of x (rows_of_parts parts ids))
given-found x [] ids = refl
given-found x (AName name ∷ parts) [] = given-found x parts []
given-found x (AName name ∷ parts) (id ∷ ids) = given-row x id name _ (rows_of_parts parts ids) (given-found x parts
    ids)
given-found x (AnOption name value ∷ parts) ids =
    given-row x name value _ (rows_of_parts parts ids) (given-found x parts ids)
given-found x (AFlag flag ∷ parts) ids =
    given-row x flag (codes "true") _ (rows_of_parts parts ids) (given-found x parts ids)
