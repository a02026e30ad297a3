use Rattle.std.proofs.Common.{◌≡◌, ◌∷◌, arith}
use Rattle.json.specs.Lex.{tokens}
use Rattle.json.specs.Json.{value}
use Rattle.json.specs.Reads.{token_of}
use Rattle.run_data.proofs.JsonReading.{whole_and_more, whole_refused}
use Rattle.run_data.proofs.members.read_whole.Goals as goal

pub returns-in_err-found-clause-none : goal.returns-in_err-found-clause-none
returns-in_err-found-clause-none c = λ refused.
    whole_refused (value 127 (tokens c.args.text.now))
    (rw c.in_ok-reader.ensures.ok at (c.read_object.ensures.none (grind arith)))

pub returns-in-Some-clause-none : goal.returns-in-Some-clause-none
returns-in-Some-clause-none c = λ refused.
    let given = c.in_ok-found.ensures.given in
    let t = token_of c.in-Some.field-0 in
    let first : c.read_object.new.reader ≡ t ∷ c.next.new.self = grind arith in
    whole_and_more (value 127 (tokens c.args.text.now)) given.0 t c.next.new.self
    (rw (c.in_ok-reader.ensures.ok, first) at given.1)
