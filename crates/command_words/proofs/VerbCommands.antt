-- The command of a verb's row is one of its names, options and flags.
use Rattle.std.proofs.Common.{◌≡◌, ◌⊎◌, inl, inr, ◌∙◌, refl, sym, ap, subst, ℕ, ◌+◌, ◌==◌, Bool, true, false, cond, min, ◌&&◌, ◌||◌, not, List, [], ◌∷◌, ◌++◌, map, Option, Some, true≢false}
use Rattle.std.specs.List.{list_any}
use Rattle.std.specs.Str.{bytes_eq}
use Rattle.std.proofs.lemmas.List.{append_assoc, append-nil}
use Rattle.clap.proofs.CutLemmas.{Lacks}
use Rattle.clap.proofs.WalkLemmas.{both}
use Rattle.clap.specs.Lexer.{usize_max}
use Rattle.clap.specs.Takes.{is_given}
use Rattle.clap.specs.Walk.{Row, Rule, Text, arg_by_id, arg_by_long}
use Rattle.clap.specs.Simple.{App, Shape, filled_from, help_rule, new_app, with_rule}
use Rattle.command_words.specs.declared.verbs.Argument.{Argument}
use Rattle.command_words.specs.declared.verbs.Argument.TheVariants.{Word, Words, Valued, Flag}
use Rattle.command_words.specs.declared.verbs.Verb.{Verb}
use Rattle.command_words.specs.declared.verbs.Verb.TheVariants.{Check, Trace, Run, Assemble, Disassemble, Evaluate, Compile, Sample, Bus, Infer}
use Rattle.command_words.specs.Prelude.{IsAmong, VerbRow, assemble_row, check_row, command_of, compile_row, disassemble_row, evaluate_row, infer_row, row_of, rule_for, run_row, sample_row, trace_row, with_all}
use Rattle.command_words.proofs.WordLooks.{lacks-test}
use Rattle.command_words.proofs.WordCommands.{AllApart, AllKnown, AllKnownFlags, AreRules, apart-of}
use Rattle.command_words.proofs.WordsAsked.{IsVerb, shape}
use Rattle.command_words.proofs.WordsRead.{Known, KnownFlag, Places, built_help, same-text}
use Rattle.command_words.proofs.WordsUsed.{AllDiffer, DifferFrom, differ-at, differ-back, text-is}
use Rattle.command_words.proofs.WordWalks.{flag_rule, name_rule, option_rule}
use Rattle.clap.specs.declared.error.kind.ErrorKind.TheVariants as kind

-- a row's command is one of its names, options and flags
abbrev pub IsVerbRow : VerbRow → Type 0
IsVerbRow row = IsVerb (command_of row) row.options row.flags row.places row.name

-- ---- the rules of a row's command

abbrev pub with_rules : App → List Rule → App
with_rules app rules = record app { top = record app.top { rules = rules } }

all-added : (app : App) (kind : Argument) (names : List Text)
    → with_all app kind names ≡ with_rules app (app.top.rules ++ map (rule_for kind) names)
all-added app kind [] = ap (with_rules app) (sym (append-nil app.top.rules))
all-added app kind (name ∷ names) =
    all-added (with_rule app (rule_for kind name)) kind names
    ∙ ap (with_rules app) (append_assoc app.top.rules (rule_for kind name ∷ []) (map (rule_for kind) names))

abbrev pub plain : VerbRow → App
plain row = with_rules (new_app row.name) (map (rule_for Word) row.places
    ++ (map (rule_for Valued) row.options ++ map (rule_for Flag) row.flags))

command-is : (row : VerbRow) → row.place ≡ Word → command_of row ≡ plain row
command-is row word =
    let named = with_rules (new_app row.name) (map (rule_for row.place) row.places) in
    ap (λ app. with_all (with_all app Valued row.options) Flag row.flags)
    (all-added (new_app row.name) row.place row.places)
    ∙ ap (λ app. with_all app Flag row.flags) (all-added named Valued row.options)
    ∙ all-added (with_rules named (map (rule_for row.place) row.places ++ map (rule_for Valued) row.options)) Flag
    row.flags
    ∙ ap (with_rules (new_app row.name)) (append_assoc (map (rule_for row.place) row.places)
    (map (rule_for Valued) row.options) (map (rule_for Flag) row.flags))
    ∙ ap (λ kind. with_rules (new_app row.name) (map (rule_for kind) row.places
    ++ (map (rule_for Valued) row.options ++ map (rule_for Flag) row.flags))) word

abbrev pub names_from : ℕ → List Text → List Rule
names_from i [] = []
names_from i (id ∷ ids) = name_rule id i ∷ names_from (min (i + 1) usize_max) ids

filled-flags : (i : ℕ) (flags : List Text)
    → filled_from i (map (rule_for Flag) flags ++ help_rule ∷ []) ≡ map flag_rule flags ++ built_help ∷ []
filled-flags i [] = refl
filled-flags i (flag ∷ flags) = ap (λ rules. flag_rule flag ∷ rules) (filled-flags i flags)

filled-options : (i : ℕ) (options : List Text) (rest behind : List Rule) → filled_from i rest ≡ behind
    → filled_from i (map (rule_for Valued) options ++ rest) ≡ map option_rule options ++ behind
filled-options i [] rest behind is = is
filled-options i (option ∷ options) rest behind is =
    ap (λ rules. option_rule option ∷ rules) (filled-options i options rest behind is)

filled-names : (i : ℕ) (ids : List Text) (rest behind : List Rule) → ((j : ℕ) → filled_from j rest ≡ behind)
    → filled_from i (map (rule_for Word) ids ++ rest) ≡ names_from i ids ++ behind
filled-names i [] rest behind is = is i
filled-names i (id ∷ ids) rest behind is =
    ap (λ rules. name_rule id i ∷ rules) (filled-names (min (i + 1) usize_max) ids rest behind is)

abbrev rules_of_all : List Text → List Text → List Text → List Rule
rules_of_all ids options flags =
    names_from 1 ids ++ (map option_rule options ++ (map flag_rule flags ++ built_help ∷ []))

rules-are : (row : VerbRow) → (shape (plain row) row.options row.flags row.places).rules
    ≡ rules_of_all row.places row.options row.flags
rules-are row =
    let names = map (rule_for Word) row.places in
    let options = map (rule_for Valued) row.options in
    let flags = map (rule_for Flag) row.flags in
    ap (filled_from 1) (append_assoc names (options ++ flags) (help_rule ∷ [])
    ∙ ap (λ rules. names ++ rules) (append_assoc options flags (help_rule ∷ [])))
    ∙ filled-names 1 row.places (options ++ (flags ++ help_rule ∷ [])) _ (λ j. filled-options j row.options
    (flags ++ help_rule ∷ []) _ (filled-flags j row.flags))

-- ---- each of them is one of the three kinds, or that of help

module _ (options flags : List Text) where
  are-flags : (some : List Text) → ((x : Text) → IsAmong some x → IsAmong flags x)
      → AreRules options flags (map flag_rule some ++ built_help ∷ [])
  are-flags [] of = (inr (inr (inr refl)), tt)
  are-flags (x ∷ xs) of = (inr (inr (inl (x, of x (inl refl), refl))), are-flags xs (λ y among. of y (inr among)))

  are-options : (some : List Text) → ((x : Text) → IsAmong some x → IsAmong options x) → (rest : List Rule)
      → AreRules options flags rest → AreRules options flags (map option_rule some ++ rest)
  are-options [] of rest are = are
  are-options (x ∷ xs) of rest are =
      (inr (inl (x, of x (inl refl), refl)), are-options xs (λ y among. of y (inr among)) rest are)

  are-names : (i : ℕ) (ids : List Text) (rest : List Rule) → AreRules options flags rest
      → AreRules options flags (names_from i ids ++ rest)
  are-names i [] rest are = are
  are-names i (id ∷ ids) rest are = (inl (id, i, refl), are-names (min (i + 1) usize_max) ids rest are)

-- ---- which is found

-- by a test that the first one passes, or doesn't
first : {X : Type 0} (b : Bool) (x y : X) (rest : Option X) → b ≡ true → x ≡ y → cond b (Some x) rest ≡ Some y
first b x y rest is same = ap (λ (t : Bool). cond t (Some x) rest) is ∙ ap Some same

past : {X : Type 0} (b : Bool) (x : X) (rest found : Option X) → b ≡ false → rest ≡ found
    → cond b (Some x) rest ≡ found
past b x rest found is same = ap (λ (t : Bool). cond t (Some x) rest) is ∙ same

-- a name that differs from the sought one, or is it
either : (o x : Text) → (bytes_eq o x ≡ true) ⊎ (bytes_eq o x ≡ false)
either o x = by (bytes_eq o x) refl
  where
    by : (b : Bool) → bytes_eq o x ≡ b → (bytes_eq o x ≡ true) ⊎ (bytes_eq o x ≡ false)
    by true e = inl e
    by false e = inr e

-- the rule of a name among some, where all rules of them are looked at by their name
module _ (rule : Text → Rule) (look : List Rule → Text → Option Rule)
    (step : (o x : Text) (rest : List Rule) → look (rule o ∷ rest) x ≡ cond (bytes_eq o x) (Some (rule o)) (look rest x))
  where
    look-among : (some : List Text) (rest : List Rule) (x : Text) → IsAmong some x
        → look (map rule some ++ rest) x ≡ Some (rule x)
    look-among [] rest x among = absurd among
    look-among (o ∷ os) rest x among =
        step o x (map rule os ++ rest) ∙ elim (either o x) [
          | inl is ↦ first (bytes_eq o x) (rule o) (rule x) _ is (ap rule (text-is o x is))
          | inr other ↦ past (bytes_eq o x) (rule o) _ _ other (look-among os rest x (later other among))
        ]
      where
        later : bytes_eq o x ≡ false → IsAmong (o ∷ os) x → IsAmong os x
        later other (inl is) = absurd (true≢false (sym (ap (bytes_eq o) is ∙ same-text o) ∙ other))
        later other (inr more) = more

    look-past : (some : List Text) (rest : List Rule) (x : Text)
        → ((o : Text) → IsAmong some o → bytes_eq o x ≡ false) → look (map rule some ++ rest) x ≡ look rest x
    look-past [] rest x others = refl
    look-past (o ∷ os) rest x others =
        step o x (map rule os ++ rest)
        ∙ past (bytes_eq o x) (rule o) _ _ (others o (inl refl))
        (look-past os rest x (λ y among. others y (inr among)))

long-past-names : (i : ℕ) (ids : List Text) (rest : List Rule) (x : Text)
    → arg_by_long (names_from i ids ++ rest) x ≡ arg_by_long rest x
long-past-names i [] rest x = refl
long-past-names i (id ∷ ids) rest x = long-past-names (min (i + 1) usize_max) ids rest x

id-past-names : (i : ℕ) (ids : List Text) (rest : List Rule) (x : Text)
    → ((id : Text) → IsAmong ids id → bytes_eq id x ≡ false)
    → arg_by_id (names_from i ids ++ rest) x ≡ arg_by_id rest x
id-past-names i [] rest x others = refl
id-past-names i (id ∷ ids) rest x others =
    past (bytes_eq id x) (name_rule id i) _ _ (others id (inl refl))
    (id-past-names (min (i + 1) usize_max) ids rest x (λ y among. others y (inr among)))

or-nothing : (b : Bool) → (b || false) ≡ b
or-nothing true = refl
or-nothing false = refl

long-step : (rule : Text → Rule) → ((o x : Text) (rest : List Rule) → arg_by_long (rule o ∷ rest) x
    ≡ cond (bytes_eq o x || false) (Some (rule o)) (arg_by_long rest x)) → (o x : Text) (rest : List Rule)
    → arg_by_long (rule o ∷ rest) x ≡ cond (bytes_eq o x) (Some (rule o)) (arg_by_long rest x)
long-step rule is o x rest =
    is o x rest ∙ ap (λ (b : Bool). cond b (Some (rule o)) (arg_by_long rest x)) (or-nothing (bytes_eq o x))

-- ---- what has to be given

module _ (rows : List Row) where
  abbrev is_missing : Rule → Bool
  is_missing a = a.required && not (is_given a.id rows)

  flags-given : (flags : List Text) → list_any is_missing (map flag_rule flags ++ built_help ∷ []) ≡ false
  flags-given [] = refl
  flags-given (flag ∷ flags) = flags-given flags

  options-given : (options : List Text) (rest : List Rule)
      → list_any is_missing (map option_rule options ++ rest) ≡ list_any is_missing rest
  options-given [] rest = refl
  options-given (option ∷ options) rest = options-given options rest

  names-given : (i : ℕ) (ids : List Text) (rest : List Rule) → list_any is_missing rest ≡ false
      → list_any is_missing (names_from i ids ++ rest) ≡ list_any (λ id. not (is_given id rows)) ids
  names-given i [] rest none = none
  names-given i (id ∷ ids) rest none =
      ap (λ (b : Bool). not (is_given id rows) || b) (names-given (min (i + 1) usize_max) ids rest none)

-- ---- a test of a row's names

not-true : (b : Bool) → not b ≡ true → b ≡ false
not-true true e = absurd (true≢false (sym e))
not-true false e = refl

abbrev pub differs : Text → List Text → Bool
differs x [] = true
differs x (y ∷ ys) = not (bytes_eq x y) && differs x ys

abbrev pub all_differ : List Text → Bool
all_differ [] = true
all_differ (x ∷ xs) = differs x xs && all_differ xs

abbrev pub all_apart : List Text → List Text → Bool
all_apart [] ids = true
all_apart (x ∷ xs) ids = differs x ids && all_apart xs ids

-- not empty, and without `=`
abbrev pub is_plain : Text → Bool
is_plain [] = false
is_plain (c ∷ cs) = not (list_any (λ d. d == 61) (c ∷ cs))

abbrev pub all_plain : List Text → Bool
all_plain [] = true
all_plain (x ∷ xs) = is_plain x && all_plain xs

they-differ : (x : Text) (ys : List Text) → differs x ys ≡ true → DifferFrom x ys
they-differ x [] e = tt
they-differ x (y ∷ ys) e =
    let test = both (not (bytes_eq x y)) (differs x ys) e in
    (not-true (bytes_eq x y) test.0, they-differ x ys test.1)

all-differ : (xs : List Text) → all_differ xs ≡ true → AllDiffer xs
all-differ [] e = tt
all-differ (x ∷ xs) e =
    let test = both (differs x xs) (all_differ xs) e in (they-differ x xs test.0, all-differ xs test.1)

all-apart : (xs ids : List Text) → all_apart xs ids ≡ true → AllApart xs ids
all-apart [] ids e = tt
all-apart (x ∷ xs) ids e =
    let test = both (differs x ids) (all_apart xs ids) e in (they-differ x ids test.0, all-apart xs ids test.1)

plain-among : (xs : List Text) (x : Text) → all_plain xs ≡ true → IsAmong xs x → is_plain x ≡ true
plain-among [] x e among = absurd among
plain-among (y ∷ ys) x e among =
    let test = both (is_plain y) (all_plain ys) e in elim among [
      | inl is ↦ ap is_plain is ∙ test.0
      | inr more ↦ plain-among ys x test.1 more
    ]

plain-lacks : (x : Text) → is_plain x ≡ true → Lacks 61 x
plain-lacks [] e = absurd (true≢false (sym e))
plain-lacks (c ∷ cs) e = lacks-test (c ∷ cs) (not-true _ e)

plain-some : (x : Text) → is_plain x ≡ true → (c : ℕ) × (cs : Text) × (x ≡ c ∷ cs)
plain-some [] e = absurd (true≢false (sym e))
plain-some (c ∷ cs) e = (c, cs, refl)

-- the names of a row differ, and those of its options and flags are plain
abbrev names_pass : VerbRow → Bool
names_pass row =
    all_differ row.places && (all_apart row.options row.places && (all_apart row.flags row.places
    && (all_apart row.options row.flags && (all_plain row.options && all_plain row.flags))))

record Passes (row : VerbRow) : Type 0 where
  differ : AllDiffer row.places
  options_apart : AllApart row.options row.places
  flags_apart : AllApart row.flags row.places
  disjoint : AllApart row.options row.flags
  options_plain : all_plain row.options ≡ true
  flags_plain : all_plain row.flags ≡ true

passes : (row : VerbRow) → names_pass row ≡ true → Passes row
passes row test =
    let one = both (all_differ row.places) _ test in
    let two = both (all_apart row.options row.places) _ one.1 in
    let three = both (all_apart row.flags row.places) _ two.1 in
    let four = both (all_apart row.options row.flags) _ three.1 in
    let five = both (all_plain row.options) _ four.1 in
    record {
      differ = all-differ row.places one.0;
      options_apart = all-apart row.options row.places two.0;
      flags_apart = all-apart row.flags row.places three.0;
      disjoint = all-apart row.options row.flags four.0;
      options_plain = five.0;
      flags_plain = five.1;
    }

-- ---- a row whose words occur one by one

module _ (row : VerbRow) (pass : Passes row) where
  abbrev s : Shape
  s = shape (plain row) row.options row.flags row.places

  an-option : (x : Text) → IsAmong row.options x → Known s x
  an-option x among =
      let test = plain-among row.options x pass.options_plain among in
      record {
        long = ap (λ (rules : List Rule). arg_by_long rules x) (rules-are row) ∙ long-past-names 1 row.places _ x
            ∙ look-among option_rule arg_by_long (long-step option_rule (λ o y rest. refl)) row.options _ x among;
        id = ap (λ (rules : List Rule). arg_by_id rules x) (rules-are row)
            ∙ id-past-names 1 row.places _ x (λ id named. differ-back x id (differ-at x id row.places
            (apart-of row.options row.places x pass.options_apart among) named))
            ∙ look-among option_rule arg_by_id (λ o y rest. refl) row.options _ x among;
        lacks = plain-lacks x test;
        some = plain-some x test;
      }

  a-flag : (x : Text) → IsAmong row.flags x → KnownFlag s x
  a-flag x among =
      let test = plain-among row.flags x pass.flags_plain among in
      record {
        long = ap (λ (rules : List Rule). arg_by_long rules x) (rules-are row) ∙ long-past-names 1 row.places _ x
            ∙ look-past option_rule arg_by_long (long-step option_rule (λ o y rest. refl)) row.options _ x
            (λ o other. differ-at o x row.flags (apart-of row.options row.flags o pass.disjoint other) among)
            ∙ look-among flag_rule arg_by_long (long-step flag_rule (λ o y rest. refl)) row.flags _ x among;
        lacks = plain-lacks x test;
        some = plain-some x test;
      }

  all-options : (some : List Text) → ((x : Text) → IsAmong some x → IsAmong row.options x) → AllKnown s some
  all-options [] of = tt
  all-options (x ∷ xs) of = (an-option x (of x (inl refl)), all-options xs (λ y among. of y (inr among)))

  all-flags : (some : List Text) → ((x : Text) → IsAmong some x → IsAmong row.flags x) → AllKnownFlags s some
  all-flags [] of = tt
  all-flags (x ∷ xs) of = (a-flag x (of x (inl refl)), all-flags xs (λ y among. of y (inr among)))

  plain-verb : Places s 1 row.places → IsVerb (plain row) row.options row.flags row.places row.name
  plain-verb places = record {
    command = record {
      rules = subst (λ (rules : List Rule). AreRules row.options row.flags rules) (sym (rules-are row))
          (are-names row.options row.flags 1 row.places _ (are-options row.options row.flags row.options
          (λ x among. among) _ (are-flags row.options row.flags row.flags (λ x among. among))));
      options_known = all-options row.options (λ x among. among);
      flags_known = all-flags row.flags (λ x among. among);
      places = places;
      plain = refl;
      differ = pass.differ;
      options_apart = pass.options_apart;
      flags_apart = pass.flags_apart;
      disjoint = pass.disjoint;
    };
    faults = λ words. refl;
    rows = λ words. refl;
    checks = λ rows. ap (λ (b : Bool). cond b (kind.MissingRequiredArgument ∷ []) [])
        (ap (list_any (is_missing rows)) (rules-are row)
        ∙ names-given rows 1 row.places _ (options-given rows row.options _ ∙ flags-given rows row.flags));
  }

pub row-verb : (row : VerbRow) → row.place ≡ Word → names_pass row ≡ true
    → Places (shape (plain row) row.options row.flags row.places) 1 row.places → IsVerbRow row
row-verb row word test places =
    subst (λ (app : App). IsVerb app row.options row.flags row.places row.name) (sym (command-is row word))
    (plain-verb row (passes row test) places)

-- ---- the verbs

pub verb-row : (verb : Verb) → (row_of verb).place ≡ Word → IsVerbRow (row_of verb)
verb-row Check word = row-verb check_row word refl (refl, refl, refl)
verb-row Trace word = row-verb trace_row word refl (refl, refl, (refl, refl, refl))
verb-row Run word = row-verb run_row word refl (refl, refl, (refl, refl, (refl, refl, refl)))
verb-row Assemble word = row-verb assemble_row word refl (refl, refl, (refl, refl, refl))
verb-row Disassemble word = row-verb disassemble_row word refl (refl, refl, (refl, refl, refl))
verb-row Evaluate word = row-verb evaluate_row word refl (refl, refl, (refl, refl, (refl, refl, refl)))
verb-row Compile word = row-verb compile_row word refl (refl, refl, (refl, refl, refl))
verb-row Sample word = row-verb sample_row word refl (refl, refl, (refl, refl, refl))
verb-row Bus word = absurd (let e : ◌≡◌ {A = Argument} Words Word = word in cc)
verb-row Infer word = row-verb infer_row word refl (refl, refl, (refl, refl, refl))
