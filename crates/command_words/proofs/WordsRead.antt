-- Words that say something are walked over use by use.
use Rattle.std.proofs.Common.{◌≡◌, ◌⊎◌, ◌∙◌, refl, sym, ap, subst, ℕ, Bool, true, false, min, ◌+◌, List, [], ◌∷◌, ◌++◌, map, Option, Some, None}
use Rattle.std.specs.Prelude.{codes}
use Rattle.std.specs.Option.{option_map_or}
use Rattle.std.specs.Str.{bytes_eq}
use Rattle.std.proofs.lemmas.Slice.Eq.{bytes_eq-Decides}
use Rattle.clap.proofs.CutLemmas.{Lacks}
use Rattle.clap.specs.Lexer.{long_of, usize_max}
use Rattle.clap.specs.Kinds.{Kinds, or_else}
use Rattle.clap.specs.Walk.{Held, Row, Rule, Text, Walk, idle, option, reacted, settled, used, used_by_id, arg_by_long, arg_by_short, arg_by_index, arg_by_id}
use Rattle.clap.specs.Simple.{Shape, filled, help_rule}
use Rattle.clap.specs.Faults.{use_fault, react_fault, walk_fault}
use Rattle.command_words.specs.Prelude.{AFlag, AName, AnOption, Apart, Behind, Ended, Flagged, IsAmong, IsLine, IsPlain, Joined, Named, Part}
use Rattle.command_words.proofs.WordLooks.{long-alone, long-joined}
use Rattle.command_words.proofs.WordWalks.{Leads, apart, at, behind, dashed, flag_rule, flagged, given, hold, joined, last, led-last, led-wrong, name_rule, named, named_held, option_rule, or-assoc, or-nil, plain-word, settling, wrong}

-- one use of an argument
pub record Use : Type 0 where
  pub rule : Rule
  pub values : List Text

abbrev pub use_of : Rule → List Text → Use
use_of rule values = record { rule = rule; values = values }

-- what parts use, where the names from place p on are these
abbrev pub uses : List Part → ℕ → List Text → List Use
uses [] p ids = []
uses (AName name ∷ parts) p [] = uses parts p []
uses (AName name ∷ parts) p (id ∷ ids) =
    use_of (name_rule id p) (name ∷ []) ∷ uses parts (min (p + 1) usize_max) ids
uses (AnOption name value ∷ parts) p ids = use_of (option_rule name) (value ∷ []) ∷ uses parts p ids
uses (AFlag flag ∷ parts) p ids = use_of (flag_rule flag) [] ∷ uses parts p ids

-- there is a place for each name
abbrev pub NamesFit : List Part → List Text → Type 0
NamesFit [] ids = Unit {0}
NamesFit (AName name ∷ parts) [] = ⊥
NamesFit (AName name ∷ parts) (id ∷ ids) = NamesFit parts ids
NamesFit (AnOption name value ∷ parts) ids = NamesFit parts ids
NamesFit (AFlag flag ∷ parts) ids = NamesFit parts ids

-- the names of some words, all of them
abbrev pub all_names : List Text → List Part
all_names words = map AName words

abbrev pub built_help : Rule
built_help = filled help_rule

pub same-text : (id : Text) → bytes_eq id id ≡ true
same-text id = (bytes_eq-Decides id id).1 refl

module _ (s : Shape) where
  abbrev again : Bool
  again = s.args_override_self

  -- the rules of names from place p on
  abbrev pub Places : ℕ → List Text → Type 0
  Places p [] = arg_by_index s.rules p ≡ None
  Places p (id ∷ ids) =
      (arg_by_index s.rules p ≡ Some (name_rule id p)) × (arg_by_id s.rules id ≡ Some (name_rule id p))
      × Places (min (p + 1) usize_max) ids

  pub record Known (name : Text) : Type 0 where
    pub long : arg_by_long s.rules name ≡ Some (option_rule name)
    pub id : arg_by_id s.rules name ≡ Some (option_rule name)
    pub lacks : Lacks 61 name
    pub some : (x : ℕ) × (xs : Text) × (name ≡ x ∷ xs)

  pub record KnownFlag (flag : Text) : Type 0 where
    pub long : arg_by_long s.rules flag ≡ Some (flag_rule flag)
    pub lacks : Lacks 61 flag
    pub some : (x : ℕ) × (xs : Text) × (flag ≡ x ∷ xs)

  -- the rules are those of names, of these options and flags, and of help
  pub record Table (options flags : List Text) : Type 0 where
    pub an_option : (name : Text) → IsAmong options name → Known name
    pub a_flag : (name : Text) → IsAmong flags name → KnownFlag name
    pub other : (name : Text)
        → (arg_by_long s.rules name ≡ None) ⊎ ((arg_by_long s.rules name ≡ Some built_help)
        ⊎ (IsAmong options name ⊎ IsAmong flags name))
    pub short : (c : ℕ) → (arg_by_short s.rules c ≡ None) ⊎ (arg_by_short s.rules c ≡ Some built_help)

  -- ---- uses in turn

  abbrev pub uses_wrong : List Row → List Use → Kinds
  uses_wrong rows [] = []
  uses_wrong rows (u ∷ us) =
      or_else (use_fault again u.rule u.values rows) (uses_wrong (used u.rule u.values rows) us)

  abbrev pub uses_rows : List Row → List Use → List Row
  uses_rows rows [] = rows
  uses_rows rows (u ∷ us) = uses_rows (used u.rule u.values rows) us

  -- the walk over words, from a moment on, is that over uses
  pub record Walks (w : Walk) (words : List Text) (us : List Use) : Type 0 where
    pub faults : wrong s w words ≡ or_else (settling s w.held) (uses_wrong (settled s.rules w.held).rows us)
    pub rows : (settled s.rules (last s w words).held).rows ≡ uses_rows (settled s.rules w.held).rows us
    pub goes_on : (last s w words).stopped ≡ None

  pub pending-wrong : (rows : List Row) (id : Text) (values : List Text) (skip : ℕ) (rule : Rule)
      → arg_by_id s.rules id ≡ Some rule
      → settling s (hold s rows (Some (id, values)) skip) ≡ use_fault again rule values rows
  pending-wrong rows id values skip rule is =
      ap (λ (o : Option Rule). option_map_or (λ a. use_fault again a values rows) o []) is

  pending-rows : (rows : List Row) (id : Text) (values : List Text) (skip : ℕ) (rule : Rule)
      → arg_by_id s.rules id ≡ Some rule
      → (settled s.rules (hold s rows (Some (id, values)) skip)).rows ≡ used rule values rows
  pending-rows rows id values skip rule is = ap (λ (o : Option Rule). used_by_id o values rows) is

  -- a use that is pending
  pub to-pending : (w : Walk) (words : List Text) (rule : Rule) (id : Text) (values : List Text) (rows : List Row) (skip :
      ℕ)
      (us : List Use) → w.held ≡ hold s rows (Some (id, values)) skip → arg_by_id s.rules id ≡ Some rule
      → Walks w words us
      → (wrong s w words ≡ uses_wrong rows (use_of rule values ∷ us))
      × ((settled s.rules (last s w words).held).rows ≡ uses_rows rows (use_of rule values ∷ us))
  to-pending w words rule id values rows skip us held is walks =
      let wrongs : settling s w.held ≡ use_fault again rule values rows =
      ap (λ (h : Held). settling s h) held ∙ pending-wrong rows id values skip rule is in
      let makes : (settled s.rules w.held).rows ≡ used rule values rows =
      ap (λ (h : Held). (settled s.rules h).rows) held ∙ pending-rows rows id values skip rule is in
      (walks.faults ∙ (λ i. or_else (wrongs i) (uses_wrong (makes i) us)), walks.rows ∙ (λ i. uses_rows (makes i) us))

  abbrev pub names_held : Held → Text → Text → Held
  names_held h id word = named_held s h id word

  -- a name, and what follows
  by-name : (h : Held) (p : ℕ) (trailing : Bool) (id word : Text) (words : List Text) (us : List Use)
      → arg_by_id s.rules id ≡ Some (name_rule id p)
      → Leads s (at s h idle p trailing) word (settling s h)
      (at s (names_held h id word) idle (min (p + 1) usize_max) trailing)
      → Walks (at s (names_held h id word) idle (min (p + 1) usize_max) trailing) words us
      → Walks (at s h idle p trailing) (word ∷ words) (use_of (name_rule id p) (word ∷ []) ∷ us)
  by-name h p trailing id word words us is leads walks =
      let next = at s (names_held h id word) idle (min (p + 1) usize_max) trailing in
      let rest = to-pending next words (name_rule id p) id (word ∷ []) (settled s.rules h).rows h.skip us refl is walks
      in
      record {
        faults = led-wrong s (at s h idle p trailing) next word words (settling s h) leads
            ∙ ap (λ (k : Kinds). or_else (settling s h) k) rest.0;
        rows = ap (λ (w : Walk). (settled s.rules w.held).rows)
            (led-last s (at s h idle p trailing) next word words (settling s h) leads) ∙ rest.1;
        goes_on = ap (λ (w : Walk). w.stopped)
            (led-last s (at s h idle p trailing) next word words (settling s h) leads) ∙ walks.goes_on;
      }

  -- names after `--`
  pub walks-behind : (words : List Text) (h : Held) (p : ℕ) (ids : List Text) → Places p ids
      → NamesFit (all_names words) ids → Walks (at s h idle p true) words (uses (all_names words) p ids)
  unfolding walk_fault
  walks-behind [] h p ids places fit = record { faults = sym (or-nil (settling s h)); rows = refl; goes_on = refl }
  walks-behind (word ∷ words) h p [] places fit = absurd fit
  walks-behind (word ∷ words) h p (id ∷ ids) places fit =
      by-name h p true id word words _ places.1 (behind s h p word id places.0)
      (walks-behind words (names_held h id word) (min (p + 1) usize_max) ids places.2 fit)

  or-swap : (a b c : Kinds) → or_else (or_else (or_else a b) []) c ≡ or_else a (or_else b c)
  or-swap a b c = ap (λ (k : Kinds). or_else k c) (or-nil (or_else a b)) ∙ or-assoc a b c

  -- an option or flag that is whole, and what follows
  pub by-use : (h : Held) (p : ℕ) (word : Text) (words : List Text) (rule : Rule) (values : List Text) (us : List Use)
      → Leads s (at s h idle p false) word (or_else (react_fault s.rules again rule values h) [])
      (at s (reacted s.rules rule values h) idle p false)
      → Walks (at s (reacted s.rules rule values h) idle p false) words us
      → Walks (at s h idle p false) (word ∷ words) (use_of rule values ∷ us)
  by-use h p word words rule values us leads walks =
      let now = at s h idle p false in
      let next = at s (reacted s.rules rule values h) idle p false in
      let faults = or_else (react_fault s.rules again rule values h) [] in
      record {
        faults = led-wrong s now next word words faults leads
            ∙ ap (λ (k : Kinds). or_else faults k) walks.faults
            ∙ or-swap (settling s h) (use_fault again rule values (settled s.rules h).rows) _;
        rows = ap (λ (w : Walk). (settled s.rules w.held).rows) (led-last s now next word words faults leads)
            ∙ walks.rows;
        goes_on = ap (λ (w : Walk). w.stopped) (led-last s now next word words faults leads) ∙ walks.goes_on;
      }

  -- an option with its value in the next word
  pub by-apart : (h : Held) (p : ℕ) (word id value : Text) (words : List Text) (us : List Use)
      → bytes_eq word (45 ∷ 45 ∷ []) ≡ false → long_of word ≡ Some (id, None) → Known id → IsPlain value
      → Walks (at s (hold s (settled s.rules h).rows (Some (id, value ∷ [])) h.skip) idle p false) words us
      → Walks (at s h idle p false) (word ∷ value ∷ words) (use_of (option_rule id) (value ∷ []) ∷ us)
  by-apart h p word id value words us dashes long known plain walks =
      let now = at s h idle p false in
      let between = at s (hold s (settled s.rules h).rows (Some (id, [])) h.skip) (option id) p false in
      let next = at s (hold s (settled s.rules h).rows (Some (id, value ∷ [])) h.skip) idle p false in
      let rest =
      to-pending next words (option_rule id) id (value ∷ []) (settled s.rules h).rows h.skip us refl known.id walks in
      let first : Leads s now word (or_else (settling s h) []) between = apart s h p word id dashes long known.long in
      let second : Leads s between value [] next =
      given s (settled s.rules h).rows h.skip p value id (plain-word value plain) known.id (same-text id) in
      let comes : last s now (word ∷ value ∷ words) ≡ last s next words =
      led-last s now between word (value ∷ words) (or_else (settling s h) []) first
      ∙ led-last s between next value words [] second in
      record {
        faults = led-wrong s now between word (value ∷ words) (or_else (settling s h) []) first
            ∙ (λ i. or_else (or-nil (settling s h) i) (led-wrong s between next value words [] second i))
            ∙ ap (λ (k : Kinds). or_else (settling s h) k) rest.0;
        rows = ap (λ (w : Walk). (settled s.rules w.held).rows) comes ∙ rest.1;
        goes_on = ap (λ (w : Walk). w.stopped) comes ∙ walks.goes_on;
      }

  -- a long option isn't `--`
  pub long-isn't-dashes : (word : Text) (pair : Text × Option Text) → long_of word ≡ Some pair
      → bytes_eq word (45 ∷ 45 ∷ []) ≡ false
  long-isn't-dashes word pair long = by (bytes_eq word (45 ∷ 45 ∷ [])) refl
    where
      none : long_of (45 ∷ 45 ∷ []) ≡ None
      none = refl

      by : (b : Bool) → bytes_eq word (45 ∷ 45 ∷ []) ≡ b → bytes_eq word (45 ∷ 45 ∷ []) ≡ false
      by false e = e
      by true e =
          let is : word ≡ 45 ∷ 45 ∷ [] = (bytes_eq-Decides word (45 ∷ 45 ∷ [])).0 e in
          absurd (let f : ◌≡◌ {A = Option (Text × Option Text)} None (Some pair) =
          sym none ∙ ap long_of (sym is) ∙ long in cc)

  pub alone : (name : Text) → Lacks 61 name → (x : ℕ) × (xs : Text) × (name ≡ x ∷ xs)
      → long_of (codes "--" ++ name) ≡ Some (name, None)
  alone name lacks some =
      subst (λ (n : Text). long_of (codes "--" ++ n) ≡ Some (n, None)) (sym some.2)
      (long-alone some.0 some.1 (subst (λ (n : Text). Lacks 61 n) some.2 lacks))

  module _ (options flags : List Text) (table : Table options flags) where
    pub walks-line : (words : List Text) (parts : List Part) → IsLine options flags words parts
        → (h : Held) (p : ℕ) (ids : List Text) → Places p ids → NamesFit parts ids
        → Walks (at s h idle p false) words (uses parts p ids)
    unfolding walk_fault
    walks-line words parts Ended h p ids places fit =
        record { faults = sym (or-nil (settling s h)); rows = refl; goes_on = refl }
    walks-line words parts (Named word words' parts' plain line) h p [] places fit = absurd fit
    walks-line words parts (Named word words' parts' plain line) h p (id ∷ ids) places fit =
        by-name h p false id word words' _ places.1 (named s h p word id (plain-word word plain) places.0)
        (walks-line words' parts' line (names_held h id word) (min (p + 1) usize_max) ids places.2 fit)
    walks-line words parts (Joined name value words' parts' among line) h p ids places fit =
        let known = table.an_option name among in
        let word = codes "--" ++ (name ++ (codes "=" ++ value)) in
        let long = long-joined name value known.lacks in
        by-use h p word words' (option_rule name) (value ∷ []) _
        (joined s h p word name value (long-isn't-dashes word (name, Some value) long) long known.long)
        (walks-line words' parts' line (reacted s.rules (option_rule name) (value ∷ []) h) p ids places fit)
    walks-line words parts (Apart name value words' parts' among plain line) h p ids places fit =
        let known = table.an_option name among in
        let long = alone name known.lacks known.some in
        let word = codes "--" ++ name in
        by-apart h p word name value words' _ (long-isn't-dashes word (name, None) long) long known plain
        (walks-line words' parts' line (hold s (settled s.rules h).rows (Some (name, value ∷ [])) h.skip) p ids places
        fit)
    walks-line words parts (Flagged name words' parts' among line) h p ids places fit =
        let known = table.a_flag name among in
        let long = alone name known.lacks known.some in
        let word = codes "--" ++ name in
        by-use h p word words' (flag_rule name) [] _
        (flagged s h p word name (long-isn't-dashes word (name, None) long) long known.long)
        (walks-line words' parts' line (reacted s.rules (flag_rule name) [] h) p ids places fit)
    walks-line words parts (Behind words') h p ids places fit =
        let now = at s h idle p false in
        let next = at s h idle p true in
        let rest = walks-behind words' h p ids places fit in
        record {
          faults = led-wrong s now next (45 ∷ 45 ∷ []) words' [] (dashed s h idle p) ∙ rest.faults;
          rows = ap (λ (w : Walk). (settled s.rules w.held).rows)
              (led-last s now next (45 ∷ 45 ∷ []) words' [] (dashed s h idle p)) ∙ rest.rows;
          goes_on = ap (λ (w : Walk). w.stopped)
              (led-last s now next (45 ∷ 45 ∷ []) words' [] (dashed s h idle p)) ∙ rest.goes_on;
        }
