-- What a command of names, options and flags takes, and what it finds.
use Rattle.std.proofs.Common.{◌≡◌, ◌⊎◌, inl, inr, ⊎_elim, ◌∙◌, refl, sym, ap, subst, ℕ, Bool, true, false, cond, ◌==◌, ◌||◌, List, [], ◌∷◌, Option, Some, None, fold}
use Rattle.std.specs.Prelude.{codes, is_some}
use Rattle.std.specs.Option.{option_map_or}
use Rattle.std.specs.Str.{bytes_eq}
use Rattle.clap.specs.Kinds.{Kinds, or_else}
use Rattle.clap.specs.Facts.{explicit_source}
use Rattle.clap.specs.Takes.{is_given}
use Rattle.clap.specs.Walk.{Row, Rule, Text, arg_by_long, arg_by_short, first_of, has_row, is_empty, nothing_held, rows_after, with_default}
use Rattle.clap.specs.Simple.{Shape}
use Rattle.clap.specs.Faults.{built_fault, check_fault, default_fault, defaults_fault, given_default_fault}
use Rattle.command_words.specs.Prelude.{flag_given, AreOnce, AreTexts, IsAmong, IsLine, Part, has_flag, names_in, value_in}
use Rattle.command_words.proofs.WordsFound.{HaveDefaults, HasDefault, defaults-kept, flag-found, flags-kept, given-found, name-found, name_at, parts-of, value-found, value_of_row}
use Rattle.command_words.proofs.WordsTaken.{no-default, only, rows-found, rows_said, taken, takes}
use Rattle.command_words.proofs.WordsRead.{Known, KnownFlag, NamesFit, Places, Table, built_help}
use Rattle.command_words.proofs.WordsUsed.{AllDiffer, AllFresh, DifferFrom, IsEither, differ-at, differ-back, fresh-once, fresh-right, line-of, once-fresh, rows_of_parts, stand-first, text-is, wrong-fresh}
use Rattle.command_words.proofs.WordWalks.{flag_rule, name_rule, option_rule}

-- ---- the rules of a command, one by one

abbrev pub IsRule : List Text → List Text → Rule → Type 0
IsRule options flags a =
    ((id : Text) × (i : ℕ) × (a ≡ name_rule id i))
    ⊎ (((o : Text) × IsAmong options o × (a ≡ option_rule o))
    ⊎ (((f : Text) × IsAmong flags f × (a ≡ flag_rule f)) ⊎ (a ≡ built_help)))

abbrev pub AreRules : List Text → List Text → List Rule → Type 0
AreRules options flags [] = Unit {0}
AreRules options flags (a ∷ rules) = IsRule options flags a × AreRules options flags rules

-- the rule that a name of an option may have
abbrev LongFound : List Text → List Text → Text → Option Rule → Type 0
LongFound options flags name found =
    (found ≡ None) ⊎ ((found ≡ Some built_help) ⊎ (IsAmong options name ⊎ IsAmong flags name))

abbrev ShortFound : Option Rule → Type 0
ShortFound found = (found ≡ None) ⊎ (found ≡ Some built_help)

module _ (options flags : List Text) where
  by-long : (rule : Rule) (rules : List Rule) (name o : Text)
      → arg_by_long (rule ∷ rules) name ≡ cond (bytes_eq o name || false) (Some rule) (arg_by_long rules name)
      → IsAmong options o ⊎ IsAmong flags o → (b : Bool) → bytes_eq o name ≡ b
      → LongFound options flags name (arg_by_long rules name)
      → LongFound options flags name (arg_by_long (rule ∷ rules) name)
  by-long rule rules name o looks among true is rest =
      inr (inr (subst (λ (t : Text). IsAmong options t ⊎ IsAmong flags t) (text-is o name is) among))
  by-long rule rules name o looks among false is rest =
      subst (LongFound options flags name)
      (sym (looks ∙ ap (λ (b : Bool). cond (b || false) (Some rule) (arg_by_long rules name)) is)) rest

  by-help : (rules : List Rule) (name : Text) (b : Bool) → bytes_eq (codes "help") name ≡ b
      → LongFound options flags name (arg_by_long rules name)
      → LongFound options flags name (arg_by_long (built_help ∷ rules) name)
  by-help rules name true is rest =
      subst (λ (b : Bool). LongFound options flags name (cond (b || false) (Some built_help) (arg_by_long rules name)))
      (sym is) (inr (inl refl))
  by-help rules name false is rest =
      subst (λ (b : Bool). LongFound options flags name (cond (b || false) (Some built_help) (arg_by_long rules name)))
      (sym is) rest

  one-long : (a : Rule) → IsRule options flags a → (rules : List Rule) (name : Text)
      → LongFound options flags name (arg_by_long rules name)
      → LongFound options flags name (arg_by_long (a ∷ rules) name)
  one-long a is rules name rest = ⊎_elim
      (λ (named : (id : Text) × (i : ℕ) × (a ≡ name_rule id i)).
      subst (λ (r : Rule). LongFound options flags name (arg_by_long (r ∷ rules) name)) (sym named.2) rest)
      (⊎_elim
      (λ (opt : (o : Text) × IsAmong options o × (a ≡ option_rule o)).
      subst (λ (r : Rule). LongFound options flags name (arg_by_long (r ∷ rules) name)) (sym opt.2)
      (by-long (option_rule opt.0) rules name opt.0 refl (inl opt.1) (bytes_eq opt.0 name) refl rest))
      (⊎_elim
      (λ (flag : (f : Text) × IsAmong flags f × (a ≡ flag_rule f)).
      subst (λ (r : Rule). LongFound options flags name (arg_by_long (r ∷ rules) name)) (sym flag.2)
      (by-long (flag_rule flag.0) rules name flag.0 refl (inr flag.1) (bytes_eq flag.0 name) refl rest))
      (λ (help : a ≡ built_help).
      subst (λ (r : Rule). LongFound options flags name (arg_by_long (r ∷ rules) name)) (sym help)
      (by-help rules name (bytes_eq (codes "help") name) refl rest)))) is

  pub long-found : (rules : List Rule) → AreRules options flags rules → (name : Text)
      → LongFound options flags name (arg_by_long rules name)
  long-found [] are name = inl refl
  long-found (a ∷ rules) are name = one-long a are.0 rules name (long-found rules are.1 name)

  short-help : (rules : List Rule) (c : ℕ) (b : Bool) → (104 == c) ≡ b → ShortFound (arg_by_short rules c)
      → ShortFound (arg_by_short (built_help ∷ rules) c)
  short-help rules c true is rest =
      subst (λ (b : Bool). ShortFound (cond (b || false) (Some built_help) (arg_by_short rules c))) (sym is) (inr refl)
  short-help rules c false is rest =
      subst (λ (b : Bool). ShortFound (cond (b || false) (Some built_help) (arg_by_short rules c))) (sym is) rest

  one-short : (a : Rule) → IsRule options flags a → (rules : List Rule) (c : ℕ) → ShortFound (arg_by_short rules c)
      → ShortFound (arg_by_short (a ∷ rules) c)
  one-short a is rules c rest = ⊎_elim
      (λ (named : (id : Text) × (i : ℕ) × (a ≡ name_rule id i)).
      subst (λ (r : Rule). ShortFound (arg_by_short (r ∷ rules) c)) (sym named.2) rest)
      (⊎_elim
      (λ (opt : (o : Text) × IsAmong options o × (a ≡ option_rule o)).
      subst (λ (r : Rule). ShortFound (arg_by_short (r ∷ rules) c)) (sym opt.2) rest)
      (⊎_elim
      (λ (flag : (f : Text) × IsAmong flags f × (a ≡ flag_rule f)).
      subst (λ (r : Rule). ShortFound (arg_by_short (r ∷ rules) c)) (sym flag.2) rest)
      (λ (help : a ≡ built_help).
      subst (λ (r : Rule). ShortFound (arg_by_short (r ∷ rules) c)) (sym help)
      (short-help rules c (104 == c) refl rest)))) is

  pub short-found : (rules : List Rule) → AreRules options flags rules → (c : ℕ) → ShortFound (arg_by_short rules c)
  short-found [] are c = inl refl
  short-found (a ∷ rules) are c = one-short a are.0 rules c (short-found rules are.1 c)

  one-default : (a : Rule) → IsRule options flags a → HasDefault flags a
  one-default a is = ⊎_elim
      (λ (named : (id : Text) × (i : ℕ) × (a ≡ name_rule id i)). inl (ap (λ (r : Rule). r.defaults) named.2))
      (⊎_elim
      (λ (opt : (o : Text) × IsAmong options o × (a ≡ option_rule o)). inl (ap (λ (r : Rule). r.defaults) opt.2))
      (⊎_elim
      (λ (flag : (f : Text) × IsAmong flags f × (a ≡ flag_rule f)). inr flag)
      (λ (help : a ≡ built_help). inl (ap (λ (r : Rule). r.defaults) help)))) is

  pub their-defaults : (rules : List Rule) → AreRules options flags rules → HaveDefaults flags rules
  their-defaults [] are = tt
  their-defaults (a ∷ rules) are = (one-default a are.0, their-defaults rules are.1)

same-kinds : (b : Bool) (x : Kinds) → cond b x x ≡ x
same-kinds true x = refl
same-kinds false x = refl

default-passes : (flags : List Text) (a : Rule) → HasDefault flags a → (rows : List Row) → default_fault rows a ≡ []
default-passes flags a (inl none) rows =
    ap (λ (d : List Text). cond (has_row a.id rows || is_empty d) [] (given_default_fault a d)) none
    ∙ no-default (has_row a.id rows) _
default-passes flags a (inr flag) rows =
    ap (λ (r : Rule). default_fault rows r) flag.2 ∙ same-kinds (has_row flag.0 rows || false) []

pub defaults-pass : (flags : List Text) (rules : List Rule) → HaveDefaults flags rules → (rows : List Row)
    → defaults_fault rows rules ≡ []
unfolding defaults_fault
defaults-pass flags [] have rows = refl
defaults-pass flags (a ∷ rules) have rows =
    λ i. or_else (default-passes flags a have.0 rows i) (defaults-pass flags rules have.1 (with_default rows a) i)

-- ---- facts of a command

-- these options, and flags, differ from those names
abbrev pub AllApart : List Text → List Text → Type 0
AllApart [] ids = Unit {0}
AllApart (x ∷ xs) ids = DifferFrom x ids × AllApart xs ids

pub apart-of : (xs ids : List Text) (x : Text) → AllApart xs ids → IsAmong xs x → DifferFrom x ids
apart-of [] ids x apart among = absurd among
apart-of (y ∷ ys) ids x apart among = ⊎_elim
    (λ (is : x ≡ y). subst (λ (t : Text). DifferFrom t ids) (sym is) apart.0)
    (λ (more : IsAmong ys x). apart-of ys ids x apart.1 more) among

module _ (s : Shape) where
  abbrev pub AllKnown : List Text → Type 0
  AllKnown [] = Unit {0}
  AllKnown (x ∷ xs) = Known s x × AllKnown xs

  abbrev pub AllKnownFlags : List Text → Type 0
  AllKnownFlags [] = Unit {0}
  AllKnownFlags (x ∷ xs) = KnownFlag s x × AllKnownFlags xs

  known-of : (xs : List Text) (x : Text) → AllKnown xs → IsAmong xs x → Known s x
  known-of [] x known among = absurd among
  known-of (y ∷ ys) x known among = ⊎_elim (λ (is : x ≡ y). subst (λ (t : Text). Known s t) (sym is) known.0)
      (λ (more : IsAmong ys x). known-of ys x known.1 more) among

  flag-of : (xs : List Text) (x : Text) → AllKnownFlags xs → IsAmong xs x → KnownFlag s x
  flag-of [] x known among = absurd among
  flag-of (y ∷ ys) x known among = ⊎_elim (λ (is : x ≡ y). subst (λ (t : Text). KnownFlag s t) (sym is) known.0)
      (λ (more : IsAmong ys x). flag-of ys x known.1 more) among

  module _ (options flags ids : List Text) where
    -- the command has these names, options and flags
    pub record IsCommand : Type 0 where
      pub rules : AreRules options flags s.rules
      pub options_known : AllKnown options
      pub flags_known : AllKnownFlags flags
      pub places : Places s 1 ids
      pub plain : s.args_override_self ≡ false
      pub differ : AllDiffer ids
      pub options_apart : AllApart options ids
      pub flags_apart : AllApart flags ids
      pub disjoint : AllApart options flags

    abbrev pub found_rows : List Part → List Row
    found_rows parts = fold with_default (rows_of_parts parts ids) s.rules

    -- words that say such parts
    pub record Accepts (words : List Text) (parts : List Part) : Type 0 where
      pub line : IsLine options flags words parts
      pub fit : NamesFit parts ids
      pub once : AreOnce [] parts
      pub all : check_fault s (found_rows parts) false ≡ []

    module _ (command : IsCommand) where
      table : Table s options flags
      table = record {
        an_option = λ name among. known-of options name command.options_known among;
        a_flag = λ name among. flag-of flags name command.flags_known among;
        other = long-found options flags s.rules command.rules;
        short = short-found options flags s.rules command.rules;
      }

      apart : (x : Text) → IsEither options flags x → DifferFrom x ids
      apart x either = ⊎_elim (λ (among : IsAmong options x). apart-of options ids x command.options_apart among)
          (λ (among : IsAmong flags x). apart-of flags ids x command.flags_apart among) either

      have : HaveDefaults flags s.rules
      have = their-defaults options flags s.rules command.rules

      rows-are : (parts : List Part) → NamesFit parts ids → AllFresh [] (rows_of_parts parts ids)
          → rows_said s options flags ids table command.places parts ≡ found_rows parts
      rows-are parts fit fresh =
          ap (λ (rows : List Row). fold with_default rows s.rules)
          (fresh-right s command.plain parts 1 ids [] fit fresh).1

      pub accepts : (words : List Text) → AreTexts words → built_fault (only s) nothing_held words ≡ []
          → (parts : List Part) × Accepts words parts
      accepts words texts none =
          let found = taken s options flags ids table command.places words texts none in
          let fit = found.wanted.fit in
          let fresh : AllFresh [] (rows_of_parts found.parts ids) =
          wrong-fresh s command.plain found.parts 1 ids [] fit found.wanted.once in (
            found.parts,
            record {
              line = found.line;
              fit = fit;
              once = fresh-once (IsEither options flags) found.parts ids [] [] (stand-first (IsEither options flags) ids)
                  (line-of options flags words found.parts found.line) apart command.differ fit fresh;
              all = subst (λ (rows : List Row). check_fault s rows false ≡ []) (rows-are found.parts fit fresh)
                  found.wanted.all;
            },
          )

      fresh-of : (words : List Text) (parts : List Part) → Accepts words parts → AllFresh [] (rows_of_parts parts ids)
      fresh-of words parts so =
          once-fresh (IsEither options flags) parts ids [] [] (stand-first (IsEither options flags) ids)
          (line-of options flags words parts so.line) apart command.differ so.fit so.once

      pub accepted : (words : List Text) (parts : List Part) → Accepts words parts
          → built_fault (only s) nothing_held words ≡ []
      accepted words parts so =
          let fresh = fresh-of words parts so in
          takes s options flags ids table command.places (defaults-pass flags s.rules have) words parts so.line
          (record {
            fit = so.fit;
            once = (fresh-right s command.plain parts 1 ids [] so.fit fresh).0;
            all = subst (λ (rows : List Row). check_fault s rows false ≡ []) (sym (rows-are parts so.fit fresh)) so.all;
          })

      pub rows-accepted : (words : List Text) (parts : List Part) → Accepts words parts
          → rows_after s.rules [] words ≡ found_rows parts
      rows-accepted words parts so =
          rows-found s options flags ids table command.places words parts so.line so.fit
          ∙ rows-are parts so.fit (fresh-of words parts so)

      -- ---- what is found

      flags-differ : (x : Text) → IsAmong ids x → (f : Text) → IsAmong flags f → bytes_eq f x ≡ false
      flags-differ x name f among = differ-at f x ids (apart f (inr among)) name

      pub found-name : (words : List Text) (parts : List Part) → IsLine options flags words parts → NamesFit parts ids
          → (x : Text) → IsAmong ids x → first_of x (found_rows parts) ≡ name_at x ids (names_in parts)
      found-name words parts line fit x name =
          ap (λ (o : Option Row). value_of_row o)
          (defaults-kept flags x (flags-differ x name) s.rules have (rows_of_parts parts ids))
          ∙ name-found options flags x (λ o among. differ-at o x ids (apart o (inl among)) name) (flags-differ x name)
          parts ids fit (parts-of options flags words parts line)

      pub given-name : (words : List Text) (parts : List Part) → IsLine options flags words parts → NamesFit parts ids
          → (x : Text) → IsAmong ids x → is_given x (found_rows parts) ≡ is_some (name_at x ids (names_in parts))
      given-name words parts line fit x name =
          ap (λ (o : Option Row). option_map_or (λ r. explicit_source r.source) o false)
          (defaults-kept flags x (flags-differ x name) s.rules have (rows_of_parts parts ids))
          ∙ given-found x parts ids
          ∙ ap is_some (name-found options flags x (λ o among. differ-at o x ids (apart o (inl among)) name)
          (flags-differ x name) parts ids fit (parts-of options flags words parts line))

      pub found-value : (words : List Text) (parts : List Part) → IsLine options flags words parts → NamesFit parts ids
          → (x : Text) → IsAmong options x → first_of x (found_rows parts) ≡ value_in x parts
      found-value words parts line fit x among-options =
          let others : (f : Text) → IsAmong flags f → bytes_eq f x ≡ false =
          λ f among. differ-back x f (differ-at x f flags (apart-of options flags x command.disjoint among-options)
          among) in
          ap (λ (o : Option Row). value_of_row o)
          (defaults-kept flags x others s.rules have (rows_of_parts parts ids))
          ∙ value-found options flags x parts ids
          (λ id among. differ-back x id (differ-at x id ids (apart x (inl among-options)) among)) others fit
          (parts-of options flags words parts line)

      pub found-flag : (words : List Text) (parts : List Part) → IsLine options flags words parts → NamesFit parts ids
          → (x : Text) → IsAmong flags x → flag_given (first_of x (found_rows parts)) ≡ has_flag x parts
      found-flag words parts line fit x flag =
          flags-kept flags x s.rules have (rows_of_parts parts ids)
          ∙ flag-found options flags x parts ids
          (λ id among. differ-back x id (differ-at x id ids (apart x (inr flag)) among))
          (λ o among. differ-at o x flags (apart-of options flags o command.disjoint among) flag) fit
          (parts-of options flags words parts line)
