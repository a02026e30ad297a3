use Rattle.std.proofs.Common.{◌≡◌, Option, None, Bor, option_map, subst}
use Rattle.std.specs.Option.{option_copied}
use Rattle.run_data.specs.declared.members.Given.{Given}
use Rattle.run_data.specs.Prelude.{given_view, entries_view, find_given}
use Rattle.run_data.proofs.Given.{given_at}
use Rattle.run_data.proofs.inputs.words_given.Goals.{After-get}
use Rattle.run_data.proofs.inputs.words_given.Goals as goal

-- what the members give at the variable's name
found : (c : After-get) (value : Option (Bor Given))
    → c.get.result ≡ value
    → find_given c.args.want.now.name (entries_view c.args.members.now.entries)
    ≡ option_map given_view (option_copied value)
found c value is =
    let es = c.args.members.now.entries in
    subst (λ name. find_given name (entries_view es) ≡ option_map given_view (option_copied value)) c.name_text.ensures
    (given_at c.name_text.result.now es c.get.result value c.get.ensures.value is)

pub returns-in_default-clause-given : goal.returns-in_default-clause-given
returns-in_default-clause-given c =
    rw (found (goal.at.returns-in_default-clause-given c).After-get None c.in_default.is) c.zeros.ensures.zeros

pub returns-clause-given : goal.returns-clause-given
returns-clause-given c =
    rw (found (goal.at.returns-clause-given c).After-get _ c.in-Some.is) c.words_of.ensures.given
