-- A command of many names under one rule, and of options, takes exactly the words whose names are adjacent and whose
-- options occur once.
use Rattle.std.proofs.Common.{◌≡◌, ◌∙◌, refl, sym, ap, subst, Bool, true, false, cond, ◌||◌, List, [], ◌∷◌, Option, Some, None, fold}
use Rattle.std.specs.Prelude.{is_some, not}
use Rattle.std.specs.Str.{bytes_eq}
use Rattle.clap.specs.Kinds.{Kinds, or_else}
use Rattle.clap.specs.Takes.{is_given}
use Rattle.clap.specs.Walk.{Row, Rule, Text, arg_by_id, arg_by_index, idle, nothing_held, rows_after, settled, walk, walk_from, with_default}
use Rattle.clap.specs.Simple.{Shape, entered}
use Rattle.clap.specs.Faults.{built_fault, check_fault, entered_fault, walk_fault}
use Rattle.command_words.specs.Prelude.{AreTexts, IsAmong, IsLine, Part}
use Rattle.command_words.proofs.BusRead.{runs, walks-runs}
use Rattle.command_words.proofs.BusRefused.{claims}
use Rattle.command_words.proofs.BusTogether.{runs-set}
use Rattle.command_words.proofs.BusUsed.{AreNew, ids_of, new-rows, none-stands, rows_of, wrong-new}
use Rattle.command_words.proofs.BusWalks.{names_rule}
use Rattle.command_words.proofs.WordWalks.{at, both-none, settling, wrong}
use Rattle.command_words.proofs.WordsFound.{no-default-kept}
use Rattle.command_words.proofs.WordsRead.{Table, Walks, uses_wrong}
use Rattle.command_words.proofs.WordsTaken.{NoDefaults, no-defaults, only}
use Rattle.clap.specs.declared.error.kind.ErrorKind.TheVariants as kind

kept-all : (rules : List Rule) → NoDefaults rules → (rows : List Row) → fold with_default rows rules ≡ rows
kept-all [] none rows = refl
kept-all (a ∷ rules) none rows =
    kept-all rules none.1 (with_default rows a) ∙ no-default-kept a rows none.0

-- the command has this rule of names, and these options
pub record IsOfNames (s : Shape) (id : Text) (options : List Text) : Type 0 where
  pub index : arg_by_index s.rules 1 ≡ Some (names_rule id)
  pub by_id : arg_by_id s.rules id ≡ Some (names_rule id)
  pub table : Table s options []
  pub other : (x : Text) → IsAmong options x → bytes_eq x id ≡ false
  pub plain : s.args_override_self ≡ false
  pub defaults : NoDefaults s.rules
  pub checks : (rows : List Row) → check_fault s rows false
      ≡ cond (not (is_given id rows) || false) (kind.MissingRequiredArgument ∷ []) []

module _ (s : Shape) (id : Text) (options : List Text) (is : IsOfNames s id options) where
  walks : (words : List Text) (parts : List Part) → IsLine options [] words parts
      → Walks s (at s nothing_held idle 1 false) words (runs id parts)
  walks words parts line = walks-runs s id is.index is.by_id options is.table is.other words parts line nothing_held refl

  -- words that say parts, and use each once
  pub record Uses (words : List Text) (parts : List Part) : Type 0 where
    pub line : IsLine options [] words parts
    pub new : AreNew [] (ids_of (runs id parts))

  -- what is found
  pub rows-used : (words : List Text) (parts : List Part) → Uses words parts
      → rows_after s.rules [] words ≡ rows_of (runs id parts)
  rows-used words parts so =
      ap (λ (rows : List Row). fold with_default rows s.rules) ((walks words parts so.line).rows
      ∙ new-rows s is.plain (runs id parts) [] [] (runs-set id options is.other s is.plain parts) none-stands so.new)
      ∙ kept-all s.rules is.defaults (rows_of (runs id parts))

  -- the last checks, by where the walk stopped and what it found
  abbrev checks : Option (Text × List Text) → List Row → Kinds
  checks stop rows = check_fault s rows (is_some (entered (only s) stop))

  pub uses-of : (words : List Text) → AreTexts words → built_fault (only s) nothing_held words ≡ []
      → (parts : List Part) × Uses words parts
  uses-of words texts none =
      let end = walk s.rules [] nothing_held words in
      let first = both-none (walk_fault s [] (walk_from nothing_held) words) _ none in
      let second = both-none (entered_fault (only s) end.stopped) _ first.1 in
      let third = both-none (settling s end.held) _ second.1 in
      let right : wrong s (at s nothing_held idle 1 false) words ≡ [] = λ i. or_else (first.0 i) (third.0 i) in
      let said = (claims s options is.table id is.index is.by_id is.other words texts).idles [] None right in
      let walked = walks words said.parts said.line in (
        said.parts,
        record {
          line = said.line;
          new = wrong-new s is.plain (runs id said.parts) [] [] (runs-set id options is.other s is.plain said.parts)
              none-stands (sym walked.faults ∙ right);
        },
      )

  pub takes-uses : (words : List Text) (parts : List Part) → Uses words parts → uses_wrong s [] (runs id parts) ≡ []
      → is_given id (rows_of (runs id parts)) ≡ true → built_fault (only s) nothing_held words ≡ []
  takes-uses words parts so once given =
      let end = walk s.rules [] nothing_held words in
      let walked = walks words parts so.line in
      let right : wrong s (at s nothing_held idle 1 false) words ≡ [] = walked.faults ∙ once in
      let faults = both-none (walk_fault s [] (walk_from nothing_held) words) (settling s end.held) right in
      let found : fold with_default (settled s.rules end.held).rows s.rules ≡ rows_of (runs id parts) =
      rows-used words parts so in
      let known : check_fault s (rows_of (runs id parts)) false ≡ [] =
      is.checks (rows_of (runs id parts))
      ∙ ap (λ (b : Bool). cond (not b || false) (kind.MissingRequiredArgument ∷ []) []) given in
      let all : checks end.stopped (fold with_default (settled s.rules end.held).rows s.rules) ≡ [] =
      subst (λ (stop : Option (Text × List Text)).
      checks stop (fold with_default (settled s.rules end.held).rows s.rules) ≡ []) (sym walked.goes_on)
      (subst (λ (rows : List Row). checks None rows ≡ []) (sym found) known) in
      let below : entered_fault (only s) end.stopped ≡ [] =
      subst (λ (stop : Option (Text × List Text)). entered_fault (only s) stop ≡ []) (sym walked.goes_on) refl in
      λ i. or_else (faults.0 i) (or_else (below i) (or_else (faults.1 i)
      (or_else (no-defaults s.rules is.defaults (settled s.rules end.held).rows i) (all i))))
