-- The work that is asked by the words of a verb's command, by the parts that they say.
use Rattle.std.proofs.Common.{◌≡◌, inl, inr, ⊎_elim, ◌∙◌, refl, sym, ap, Bool, true, false, cond, not, ◌||◌, List, [], ◌∷◌, Option, Some, None, true≢false}
use Rattle.std.specs.Prelude.{is_some, option_and_then}
use Rattle.std.specs.List.{list_any}
use Rattle.std.specs.Option.{option_map}
use Rattle.std.specs.Str.{bytes_eq}
use Rattle.clap.specs.Kinds.{Kinds}
use Rattle.clap.specs.Takes.{is_given}
use Rattle.clap.specs.Walk.{Row, Text, first_of, nothing_held, rows_after}
use Rattle.clap.specs.Simple.{App, Shape, built, matches_of}
use Rattle.clap.specs.Faults.{built_fault, check_fault, fault_of}
use Rattle.command_words.specs.Prelude.{asked_by, flag_given, none_wrong, AFlag, AName, AnOption, AreOnce, AreTexts, IsAmong, IsLine, Part, has_flag, names_in, value_in}
use Rattle.command_words.proofs.WordCommands.{Accepts, IsCommand, accepted, accepts, found-flag, found-name, found-value, found_rows, given-name, rows-accepted}
use Rattle.command_words.proofs.WordsFound.{name_at}
use Rattle.command_words.proofs.WordsTaken.{only}
use Rattle.command_words.proofs.WordsRead.{NamesFit, same-text}
use Rattle.command_words.proofs.WordsUsed.{AllDiffer, differ-at}
use Rattle.clap.specs.declared.error.kind.ErrorKind.TheVariants as kind

-- ---- a name for each place

abbrev pub FitNames : List Text → List Text → Type 0
FitNames [] ids = Unit {0}
FitNames (name ∷ names) [] = ⊥
FitNames (name ∷ names) (id ∷ ids) = FitNames names ids

abbrev pub SameLength : List Text → List Text → Type 0
SameLength [] [] = Unit {0}
SameLength [] (id ∷ ids) = ⊥
SameLength (name ∷ names) [] = ⊥
SameLength (name ∷ names) (id ∷ ids) = SameLength names ids

fit-names : (parts : List Part) (ids : List Text) → NamesFit parts ids → FitNames (names_in parts) ids
fit-names [] ids fit = tt
fit-names (AName name ∷ parts) [] fit = absurd fit
fit-names (AName name ∷ parts) (id ∷ ids) fit = fit-names parts ids fit
fit-names (AnOption name value ∷ parts) ids fit = fit-names parts ids fit
fit-names (AFlag flag ∷ parts) ids fit = fit-names parts ids fit

names-fit : (parts : List Part) (ids : List Text) → SameLength (names_in parts) ids → NamesFit parts ids
names-fit parts ids same = by parts ids (loose (names_in parts) ids same)
  where
    loose : (names ids : List Text) → SameLength names ids → FitNames names ids
    loose [] ids same = tt
    loose (name ∷ names) [] same = absurd same
    loose (name ∷ names) (id ∷ ids) same = loose names ids same

    by : (parts : List Part) (ids : List Text) → FitNames (names_in parts) ids → NamesFit parts ids
    by [] ids fit = tt
    by (AName name ∷ parts) [] fit = absurd fit
    by (AName name ∷ parts) (id ∷ ids) fit = by parts ids fit
    by (AnOption name value ∷ parts) ids fit = by parts ids fit
    by (AFlag flag ∷ parts) ids fit = by parts ids fit

-- names that are there for all places are as many
complete : (ids names : List Text) → AllDiffer ids → FitNames names ids
    → ((x : Text) → IsAmong ids x → is_some (name_at x ids names) ≡ true) → SameLength names ids
complete [] [] differ fit all = tt
complete [] (name ∷ names) differ fit all = absurd fit
complete (id ∷ ids) [] differ fit all = absurd (true≢false (sym (all id (inl refl))))
complete (id ∷ ids) (name ∷ names) differ fit all =
    complete ids names differ.1 fit (λ x among.
    ap (λ (b : Bool). is_some (cond b (Some name) (name_at x ids names))) (sym (differ-at id x ids differ.0 among))
    ∙ all x (inr among))

all-there : (ids names : List Text) → SameLength names ids → (x : Text) → IsAmong ids x
    → is_some (name_at x ids names) ≡ true
all-there [] names same x among = absurd among
all-there (id ∷ ids) [] same x among = absurd same
all-there (id ∷ ids) (name ∷ names) same x among =
    by (bytes_eq id x) refl (λ later. all-there ids names same x later)
  where
    by : (b : Bool) → bytes_eq id x ≡ b → (IsAmong ids x → is_some (name_at x ids names) ≡ true)
        → is_some (cond b (Some name) (name_at x ids names)) ≡ true
    by true e rest = refl
    by false e rest = ⊎_elim
        (λ (is : x ≡ id). absurd (true≢false (sym (ap (bytes_eq id) is ∙ same-text id) ∙ e)))
        (λ (later : IsAmong ids x). rest later) among

-- ---- the check for names that are missing

abbrev pub missing : List Text → List Row → Kinds
missing ids rows =
    cond (list_any (λ id. not (is_given id rows)) ids) (kind.MissingRequiredArgument ∷ []) []

no-missing : (ids : List Text) (rows : List Row) → missing ids rows ≡ [] → (x : Text) → IsAmong ids x
    → is_given x rows ≡ true
no-missing ids rows none x among = at ids (none-any (list_any (λ id. not (is_given id rows)) ids) none) among
  where
    is_none : Kinds → Bool
    is_none [] = true
    is_none (k ∷ ks) = false

    none-any : (b : Bool) → cond b (kind.MissingRequiredArgument ∷ []) [] ≡ [] → b ≡ false
    none-any true e = absurd (true≢false (sym (ap is_none e)))
    none-any false e = refl

    given : (b c : Bool) → (not b || c) ≡ false → b ≡ true
    given true c e = refl
    given false c e = absurd (true≢false e)

    others : (b c : Bool) → (not b || c) ≡ false → c ≡ false
    others true c e = e
    others false c e = absurd (true≢false e)

    at : (ids : List Text) → list_any (λ id. not (is_given id rows)) ids ≡ false → IsAmong ids x → is_given x rows ≡
        true
    at [] e among = absurd among
    at (id ∷ ids) e among = ⊎_elim
        (λ (is : x ≡ id). ap (λ (t : Text). is_given t rows) is
        ∙ given (is_given id rows) (list_any (λ i. not (is_given i rows)) ids) e)
        (λ (later : IsAmong ids x). at ids (others (is_given id rows) (list_any (λ i. not (is_given i rows)) ids) e)
        later)
        among

none-missing : (ids : List Text) (rows : List Row) → ((x : Text) → IsAmong ids x → is_given x rows ≡ true)
    → missing ids rows ≡ []
none-missing ids rows all = ap (λ (b : Bool). cond b (kind.MissingRequiredArgument ∷ []) []) (at ids all)
  where
    at : (ids : List Text) → ((x : Text) → IsAmong ids x → is_given x rows ≡ true)
        → list_any (λ id. not (is_given id rows)) ids ≡ false
    at [] all = refl
    at (id ∷ ids) all = λ i. not (all id (inl refl) i) || at ids (λ x later. all x (inr later)) i

-- ---- what is given

pub two-given : {A B C : Type 0} (f : A → B → C) (c : C) (a : Option A) (b : Option B)
    → option_and_then (λ x. option_map (f x) b) a ≡ Some c
    → (x : A) × (y : B) × (a ≡ Some x) × (b ≡ Some y) × (c ≡ f x y)
two-given {C = C} f c None b e = absurd (let g : ◌≡◌ {A = Option C} None (Some c) = e in cc)
two-given {C = C} f c (Some x) None e = absurd (let g : ◌≡◌ {A = Option C} None (Some c) = e in cc)
two-given {C = C} f c (Some x) (Some y) e =
    (x, y, refl, refl, (let g : ◌≡◌ {A = Option C} (Some (f x y)) (Some c) = e in cc))

pub asked-parts : {W : Type 0} (kinds : Kinds) (asked : Option W) (work : W) → cond (none_wrong kinds) asked None ≡ Some work
    → (kinds ≡ []) × (asked ≡ Some work)
asked-parts [] asked work e = (refl, e)
asked-parts {W = W} (k ∷ kinds) asked work e = absurd (let f : ◌≡◌ {A = Option W} None (Some work) = e in cc)

-- ---- a verb's command

module _ (app : App) (options flags ids : List Text) where
  abbrev pub shape : Shape
  shape = (built app).top

  -- the command is one of these names, options and flags
  pub record IsVerb (verb : Text) : Type 0 where
    pub command : IsCommand shape options flags ids
    pub faults : (words : List Text) → fault_of app (verb ∷ words) ≡ built_fault (only shape) nothing_held words
    pub rows : (words : List Text) → matches_of app (verb ∷ words) ≡ rows_after shape.rules [] words
    pub checks : (rows : List Row) → check_fault shape rows false ≡ missing ids rows

  -- words that say a name for each place, and each option and flag once at most
  pub record SaysAll (words : List Text) (parts : List Part) : Type 0 where
    pub line : IsLine options flags words parts
    pub once : AreOnce [] parts
    pub names : SameLength (names_in parts) ids

  abbrev pub rows_behind : List Part → List Row
  rows_behind parts = found_rows shape options flags ids parts

  module _ (verb : Text) (is : IsVerb verb) where
    says-accepts : (words : List Text) (parts : List Part) → SaysAll words parts
        → Accepts shape options flags ids words parts
    says-accepts words parts says =
        let fit = names-fit parts ids says.names in
        record {
          line = says.line;
          fit = fit;
          once = says.once;
          all = is.checks (rows_behind parts)
              ∙ none-missing ids (rows_behind parts) (λ x among.
              given-name shape options flags ids is.command words parts says.line fit x among
              ∙ all-there ids (names_in parts) says.names x among);
        }

    accepts-says : (words : List Text) (parts : List Part) → Accepts shape options flags ids words parts
        → SaysAll words parts
    accepts-says words parts so = record {
      line = so.line;
      once = so.once;
      names = complete ids (names_in parts) is.command.differ (fit-names parts ids so.fit) (λ x among.
          sym (given-name shape options flags ids is.command words parts so.line so.fit x among)
          ∙ no-missing ids (rows_behind parts) (sym (is.checks (rows_behind parts)) ∙ so.all) x among);
    }

    -- what is found for a name
    pub name-said : (words : List Text) (parts : List Part) → SaysAll words parts → (x : Text) → IsAmong ids x
        → first_of x (rows_behind parts) ≡ name_at x ids (names_in parts)
    name-said words parts says x among =
        found-name shape options flags ids is.command words parts says.line (names-fit parts ids says.names) x among

    -- and for an option and a flag
    pub value-said : (words : List Text) (parts : List Part) → SaysAll words parts → (x : Text) → IsAmong options x
        → first_of x (rows_behind parts) ≡ value_in x parts
    value-said words parts says x among =
        found-value shape options flags ids is.command words parts says.line (names-fit parts ids says.names) x among

    pub flag-said : (words : List Text) (parts : List Part) → SaysAll words parts → (x : Text) → IsAmong flags x
        → flag_given (first_of x (rows_behind parts)) ≡ has_flag x parts
    flag-said words parts says x among =
        found-flag shape options flags ids is.command words parts says.line (names-fit parts ids says.names) x among

    module _ {W : Type 0} (asks : List Row → Option W) where
      pub asked-says : (words : List Text) (work : W) → AreTexts words
          → asked_by app asks (verb ∷ words) ≡ Some work
          → (parts : List Part) × SaysAll words parts × (asks (rows_behind parts) ≡ Some work)
      unfolding asked_by
      asked-says words work texts asked =
          let both =
          asked-parts (fault_of app (verb ∷ words)) (asks (matches_of app (verb ∷ words))) work asked in
          let found =
          accepts shape options flags ids is.command words texts (sym (is.faults words) ∙ both.0) in (
            found.0,
            accepts-says words found.0 found.1,
            sym (ap asks (is.rows words ∙ rows-accepted shape options flags ids is.command words found.0 found.1)) ∙
                both.1,
          )

      pub says-asked : (words : List Text) (parts : List Part) → SaysAll words parts
          → asked_by app asks (verb ∷ words) ≡ asks (rows_behind parts)
      unfolding asked_by
      says-asked words parts says =
          let so = says-accepts words parts says in
          ap (λ (kinds : Kinds). cond (none_wrong kinds) (asks (matches_of app (verb ∷ words))) None)
          (is.faults words ∙ accepted shape options flags ids is.command words parts so)
          ∙ ap asks (is.rows words ∙ rows-accepted shape options flags ids is.command words parts so)
