use Rattle.std.proofs.Common.{ap, refl, sym, ◌∙◌}
use Rattle.std.specs.Prelude.{option_and_then}
use Rattle.clap.specs.Words.{found_of, rows_of}
use Rattle.clap.specs.declared.parser.matches.ArgMatches.{ArgMatches}
use Rattle.command_words.specs.Prelude.{texts, asked_for, asks_of}
use Rattle.call_steps.specs.Prelude.{NothingAsked, NoCalls}
use Rattle.command_words.specs.declared.verbs.Verb.{Verb}
use Rattle.call_laws.specs.Prelude.{works}
use Rattle.command_words.proofs.Wording.{verb-found}
use Rattle.call_steps.proofs.Answering.{told-done, told-left}
use Rattle.call_steps.proofs.CallsMade.{told-made}
use Rattle.ghost_cli.proofs.top.perform.Goals as goal

pub returns-in_default-clause-stopped : goal.returns-in_default-clause-stopped
returns-in_default-clause-stopped g c =
    NothingAsked
    (ap (option_and_then (λ (verb : Verb). asked_for works verb (texts c.args.words.now)))
    (sym c.verb_named.ensures ∙ c.in_default.is)) refl refl

pub returns-in_default-2-clause-stopped : goal.returns-in_default-2-clause-stopped
returns-in_default-2-clause-stopped g c =
    NothingAsked
    (ap (option_and_then (λ (verb : Verb). asked_for works verb (texts c.args.words.now)))
    (sym c.verb_named.ensures ∙ c.in-Some.is)
    ∙ (sym (verb-found works c.in-Some.verb (texts c.args.words.now) _ c.in_ok-matches.ensures)
    ∙ ap (option_and_then (λ (m : ArgMatches). asks_of works c.in-Some.verb (rows_of (found_of m))))
    c.in_default-2.is)) refl refl

pub returns-clause-done : goal.returns-clause-done
returns-clause-done g c =
    told-done (λ verb. asked_for works verb (texts c.args.words.now)) c.verb_named.result c.in-Some.verb _ _ _ c.work.result
    c.in-Some.is (ap (option_and_then (λ verb. asked_for works verb (texts c.args.words.now))) c.verb_named.ensures)
    (told-done (λ m. asks_of works c.in-Some.verb (rows_of (found_of m))) _ _ _ _ _ c.work.result c.in-Some-2.is
    (verb-found works c.in-Some.verb (texts c.args.words.now) _ c.in_ok-matches.ensures) c.work.ensures.done)

pub returns-clause-stopped : goal.returns-clause-stopped
returns-clause-stopped g c =
    told-left (λ verb. asked_for works verb (texts c.args.words.now)) c.verb_named.result c.in-Some.verb _ _ _ c.work.result
    c.in-Some.is (ap (option_and_then (λ verb. asked_for works verb (texts c.args.words.now))) c.verb_named.ensures)
    (told-left (λ m. asks_of works c.in-Some.verb (rows_of (found_of m))) _ _ _ _ _ c.work.result c.in-Some-2.is
    (verb-found works c.in-Some.verb (texts c.args.words.now) _ c.in_ok-matches.ensures) c.work.ensures.stopped)

pub returns-in_default-clause-calls : goal.returns-in_default-clause-calls
returns-in_default-clause-calls g c = NoCalls _ _

pub returns-in_default-2-clause-calls : goal.returns-in_default-2-clause-calls
returns-in_default-2-clause-calls g c = NoCalls _ _

pub returns-in_err-matches-clause-calls : goal.returns-in_err-matches-clause-calls
returns-in_err-matches-clause-calls g c = NoCalls _ _

pub returns-clause-calls : goal.returns-clause-calls
returns-clause-calls g c =
    told-made (λ verb. asked_for works verb (texts c.args.words.now)) c.verb_named.result c.in-Some.verb _ _ _
    c.in-Some.is (ap (option_and_then (λ verb. asked_for works verb (texts c.args.words.now))) c.verb_named.ensures)
    (told-made (λ m. asks_of works c.in-Some.verb (rows_of (found_of m))) _ _ _ _ _ c.in-Some-2.is
    (verb-found works c.in-Some.verb (texts c.args.words.now) _ c.in_ok-matches.ensures) c.work.ensures.calls)
