use Rattle.std.proofs.Common.{◌≡◌, ◌∷◌, true, Some, option_map, refl, ap, ◌∙◌, arith}
use Rattle.json.specs.Json.{parse_map}
use Rattle.json.specs.Reads.{token_of}
use Rattle.serde_json.specs.Data.{array, object}
use Rattle.run_data.specs.Prelude.{least_given}
use Rattle.run_data.proofs.JsonTokens.{is_plain, is_misplaced, plain_read, number_read, number_refused, opened_array, opened_object, no_token, misplaced}
use Rattle.run_data.proofs.members.read_object.Goals as goal

pub returns-in_err-token-clause-none : goal.returns-in_err-token-clause-none
returns-in_err-token-clause-none c = λ other. no_token 127 c.args.reader.now (grind arith)

pub returns-in-String-clause-given : goal.returns-in-String-clause-given
returns-in-String-clause-given c =
    let first : c.args.reader.now ≡ token_of c.in_ok-token.token ∷ c.next.new.self = grind arith in
    let plain : is_plain (token_of c.in_ok-token.token) ≡ true = grind arith in
    let read = plain_read 127 (token_of c.in_ok-token.token) c.args.reader.now c.next.new.self plain first in
    (read.data_is, read.was_read, ap (option_map (least_given c.args.most)) read.no_members_in)

pub returns-in-Some-clause-given : goal.returns-in-Some-clause-given
returns-in-Some-clause-given c =
    let first : c.args.reader.now ≡ token_of c.in_ok-token.token ∷ c.next.new.self = grind arith in
    let is = first ∙ ap (λ k. token_of k ∷ c.next.new.self) c.in-Number.is in
    let read = number_read 127 c.in-Number.text.now c.args.reader.now c.next.new.self c.in-Some.field-0 is c.in-Some.ensures in
    (read.data_is, read.was_read, ap (option_map (least_given c.args.most)) read.no_members_in)

pub returns-in-None-clause-none : goal.returns-in-None-clause-none
returns-in-None-clause-none c = λ other.
    let first : c.args.reader.now ≡ token_of c.in_ok-token.token ∷ c.next.new.self = grind arith in
    let is = first ∙ ap (λ k. token_of k ∷ c.next.new.self) c.in-Number.is in
    number_refused 127 c.in-Number.text.now c.args.reader.now c.next.new.self is c.in-None.ensures

pub returns-in-EndObject-clause-none : goal.returns-in-EndObject-clause-none
returns-in-EndObject-clause-none c = λ other.
    let first : c.args.reader.now ≡ token_of c.in_ok-token.token ∷ c.next.new.self = grind arith in
    let wrong : is_misplaced (token_of c.in_ok-token.token) ≡ true = grind arith in
    misplaced 127 (token_of c.in_ok-token.token) c.args.reader.now c.next.new.self wrong first

pub returns-in_err-pass_items-in-BeginArray-clause-none : goal.returns-in_err-pass_items-in-BeginArray-clause-none
returns-in_err-pass_items-in-BeginArray-clause-none c = λ other.
    let first : c.args.reader.now ≡ token_of c.in_ok-token.token ∷ c.next.new.self = grind arith in
    let is = first ∙ ap (λ k. token_of k ∷ c.next.new.self) c.in-BeginArray.is in
    opened_array 127 c.args.reader.now c.next.new.self (omega arith) is
    ∙ ap (parse_map array) c.in_err-pass_items-in-BeginArray.ensures.invalid

pub returns-in_ok-pass_items-in-BeginArray-clause-given : goal.returns-in_ok-pass_items-in-BeginArray-clause-given
returns-in_ok-pass_items-in-BeginArray-clause-given c =
    let first : c.args.reader.now ≡ token_of c.in_ok-token.token ∷ c.next.new.self = grind arith in
    let is = first ∙ ap (λ k. token_of k ∷ c.next.new.self) c.in-BeginArray.is in
    let passed = c.in_ok-pass_items-in-BeginArray.ensures.passed in (
      array passed.0,
      opened_array 127 c.args.reader.now c.next.new.self (omega arith) is ∙ ap (parse_map array) passed.1,
      refl,
    )

pub returns-in_err-read_members-in-BeginObject-clause-none : goal.returns-in_err-read_members-in-BeginObject-clause-none
returns-in_err-read_members-in-BeginObject-clause-none c = λ other.
    let first : c.args.reader.now ≡ token_of c.in_ok-token.token ∷ c.next.new.self = grind arith in
    let is = first ∙ ap (λ k. token_of k ∷ c.next.new.self) c.in-BeginObject.is in
    opened_object 127 c.args.reader.now c.next.new.self (omega arith) is
    ∙ ap (parse_map object) (c.read_members.ensures.none (grind arith))

pub returns-in_ok-read_members-in-BeginObject-clause-given : goal.returns-in_ok-read_members-in-BeginObject-clause-given
returns-in_ok-read_members-in-BeginObject-clause-given c =
    let first : c.args.reader.now ≡ token_of c.in_ok-token.token ∷ c.next.new.self = grind arith in
    let is = first ∙ ap (λ k. token_of k ∷ c.next.new.self) c.in-BeginObject.is in
    let given = c.in_ok-read_members-in-BeginObject.ensures.given in (
      object given.0,
      opened_object 127 c.args.reader.now c.next.new.self (omega arith) is ∙ ap (parse_map object) given.1,
      ap Some given.2,
    )
