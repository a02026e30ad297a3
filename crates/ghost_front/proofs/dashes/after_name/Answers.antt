use Rattle.std.proofs.Common.{ap, sym, ◌∙◌}
use Rattle.std.specs.Prelude.{option_and_then}
use Rattle.clap.specs.Words.{found_of, rows_of}
use Rattle.clap.specs.declared.parser.matches.ArgMatches.{ArgMatches}
use Rattle.command_words.specs.Prelude.{asked_for, asks_of, texts}
use Rattle.command_words.specs.declared.verbs.Verb.{Verb}
use Rattle.command_words.proofs.Wording.{verb-found}
use Rattle.ghost_front.specs.Prelude.{dashes, or_no_dashes}
use Rattle.ghost_front.proofs.dashes.after_name.Goals as goal

pub returns-in_default : goal.returns-in_default
returns-in_default c =
    ap or_no_dashes
    (ap (option_and_then (λ (verb : Verb). asked_for dashes verb (texts c.args.words.now)))
    (sym c.in_default.is ∙ c.verb_named.ensures))

pub returns-in_default-2 : goal.returns-in_default-2
returns-in_default-2 c =
    ap or_no_dashes
    (sym (ap (option_and_then (λ (verb : Verb). asked_for dashes verb (texts c.args.words.now)))
    (sym c.verb_named.ensures ∙ c.in-Some.is)
    ∙ (sym (verb-found dashes c.in-Some.verb (texts c.args.words.now) _ c.in_ok-matches.ensures)
    ∙ ap (option_and_then (λ (m : ArgMatches). asks_of dashes c.in-Some.verb (rows_of (found_of m))))
    c.in_default-2.is)))

pub returns : goal.returns
returns c =
    c.or_none.ensures
    ∙ ap or_no_dashes
    (c.of_verb.ensures
    ∙ sym (ap (option_and_then (λ (verb : Verb). asked_for dashes verb (texts c.args.words.now)))
    (sym c.verb_named.ensures ∙ c.in-Some.is)
    ∙ (sym (verb-found dashes c.in-Some.verb (texts c.args.words.now) _ c.in_ok-matches.ensures)
    ∙ ap (option_and_then (λ (m : ArgMatches). asks_of dashes c.in-Some.verb (rows_of (found_of m))))
    c.in-Some-2.is)))
