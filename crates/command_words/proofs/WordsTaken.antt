-- A command of names, options and flags takes just the words that say what it wants.
use Rattle.std.proofs.Common.{◌≡◌, ◌∙◌, refl, sym, ap, subst, Bool, true, false, cond, ◌||◌, List, [], ◌∷◌, Option, None, fold}
use Rattle.std.specs.Prelude.{is_some}
use Rattle.clap.specs.Kinds.{Kinds, or_else}
use Rattle.clap.specs.Walk.{Row, Rule, Text, has_row, idle, is_empty, nothing_held, rows_after, settled, walk, walk_from, with_default}
use Rattle.clap.specs.Simple.{App, Shape, entered}
use Rattle.clap.specs.Faults.{built_fault, check_fault, default_fault, defaults_fault, entered_fault, given_default_fault, walk_fault}
use Rattle.command_words.specs.Prelude.{AreTexts, IsLine, Part}
use Rattle.command_words.proofs.WordsRead.{NamesFit, Places, Table, Walks, uses, uses_rows, uses_wrong, walks-line}
use Rattle.command_words.proofs.WordsRefused.{claims}
use Rattle.command_words.proofs.WordWalks.{at, both-none, settling, wrong}

-- a command without subcommands
abbrev pub only : Shape → App
only s = record { top = s; subs = [] }

-- rules without defaults
pub no-default : (b : Bool) (x : Kinds) → cond (b || true) [] x ≡ []
no-default true x = refl
no-default false x = refl

abbrev pub NoDefaults : List Rule → Type 0
NoDefaults [] = Unit {0}
NoDefaults (a ∷ rules) = (a.defaults ≡ []) × NoDefaults rules

pub no-defaults : (rules : List Rule) → NoDefaults rules → (rows : List Row) → defaults_fault rows rules ≡ []
unfolding defaults_fault
no-defaults [] none rows = refl
no-defaults (a ∷ rules) none rows =
    let here : default_fault rows a ≡ [] =
    ap (λ (d : List Text). cond (has_row a.id rows || is_empty d) [] (given_default_fault a d)) none.0
    ∙ no-default (has_row a.id rows) _ in
    λ i. or_else (here i) (no-defaults rules none.1 (with_default rows a) i)

module _ (s : Shape) (options flags ids : List Text) (table : Table s options flags) (places : Places s 1 ids) where
  -- what is found after the words that consist of these parts
  abbrev pub rows_said : List Part → List Row
  rows_said parts = fold with_default (uses_rows s [] (uses parts 1 ids)) s.rules

  -- the parts are what the command wants
  pub record AreWanted (parts : List Part) : Type 0 where
    pub fit : NamesFit parts ids
    pub once : uses_wrong s [] (uses parts 1 ids) ≡ []
    pub all : check_fault s (rows_said parts) false ≡ []

  pub record Taken (words : List Text) : Type 0 where
    pub parts : List Part
    pub line : IsLine options flags words parts
    pub wanted : AreWanted parts

  walks : (words : List Text) (parts : List Part) → IsLine options flags words parts → NamesFit parts ids
      → Walks s (at s nothing_held idle 1 false) words (uses parts 1 ids)
  walks words parts line fit = walks-line s options flags table words parts line nothing_held 1 ids places fit

  pub rows-found : (words : List Text) (parts : List Part) → IsLine options flags words parts → NamesFit parts ids
      → rows_after s.rules [] words ≡ rows_said parts
  rows-found words parts line fit =
      ap (λ (rows : List Row). fold with_default rows s.rules) (walks words parts line fit).rows

  -- the last checks, by where the walk stopped and what it found
  abbrev checks : Option (Text × List Text) → List Row → Kinds
  checks stop rows = check_fault s (fold with_default rows s.rules) (is_some (entered (only s) stop))

  pub taken : (words : List Text) → AreTexts words → built_fault (only s) nothing_held words ≡ [] → Taken words
  taken words texts none =
      let end = walk s.rules [] nothing_held words in
      let first = both-none (walk_fault s [] (walk_from nothing_held) words) _ none in
      let second = both-none (entered_fault (only s) end.stopped) _ first.1 in
      let third = both-none (settling s end.held) _ second.1 in
      let fourth = both-none (defaults_fault (settled s.rules end.held).rows s.rules) _ third.1 in
      let right : wrong s (at s nothing_held idle 1 false) words ≡ [] = λ i. or_else (first.0 i) (third.0 i) in
      let said = (claims s options flags table words texts).idles [] None 1 ids places right in
      let walked = walks words said.parts said.line said.fit in
      let last_checks : checks end.stopped (settled s.rules end.held).rows ≡ [] = fourth.1 in
      record {
        parts = said.parts;
        line = said.line;
        wanted = record {
          fit = said.fit;
          once = sym walked.faults ∙ right;
          all = subst (λ (rows : List Row). checks None rows ≡ []) walked.rows
              (subst (λ (stop : Option (Text × List Text)). checks stop (settled s.rules end.held).rows ≡ [])
              walked.goes_on last_checks);
        };
      }

  pub takes : ((rows : List Row) → defaults_fault rows s.rules ≡ []) → (words : List Text) (parts : List Part)
      → IsLine options flags words parts → AreWanted parts → built_fault (only s) nothing_held words ≡ []
  takes defaults words parts line wanted =
      let end = walk s.rules [] nothing_held words in
      let walked = walks words parts line wanted.fit in
      let right : wrong s (at s nothing_held idle 1 false) words ≡ [] = walked.faults ∙ wanted.once in
      let faults = both-none (walk_fault s [] (walk_from nothing_held) words) (settling s end.held) right in
      let all : checks end.stopped (settled s.rules end.held).rows ≡ [] =
      subst (λ (stop : Option (Text × List Text)). checks stop (settled s.rules end.held).rows ≡ []) (sym
      walked.goes_on)
      (subst (λ (rows : List Row). checks None rows ≡ []) (sym walked.rows) wanted.all) in
      let below : entered_fault (only s) end.stopped ≡ [] =
      subst (λ (stop : Option (Text × List Text)). entered_fault (only s) stop ≡ []) (sym walked.goes_on) refl in
      λ i. or_else (faults.0 i) (or_else (below i) (or_else (faults.1 i)
      (or_else (defaults (settled s.rules end.held).rows i) (all i))))
