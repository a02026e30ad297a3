use Rattle.std.proofs.Common.{◌≡◌, ◌∷◌, true, refl, ap, ap₂, ◌∙◌, arith}
use Rattle.json.specs.Json.{parse_map}
use Rattle.json.specs.Reads.{token_of}
use Rattle.serde_json.specs.Data.{array, object}
use Rattle.run_data.specs.Prelude.{a_list}
use Rattle.run_data.proofs.JsonTokens.{is_plain, is_misplaced, plain_read, number_read, number_refused, opened_array, opened_object, no_array, no_object, no_token, misplaced}
use Rattle.run_data.proofs.members.read_given.Goals as goal

pub returns-in_err-token-clause-none : goal.returns-in_err-token-clause-none
returns-in_err-token-clause-none c = λ other. no_token c.args.depth c.args.reader.now (grind arith)

pub returns-in-String-clause-given : goal.returns-in-String-clause-given
returns-in-String-clause-given c =
    let first : c.args.reader.now ≡ token_of c.in_ok-token.token ∷ c.next.new.self = grind arith in
    let plain : is_plain (token_of c.in_ok-token.token) ≡ true = grind arith in
    let read = plain_read c.args.depth (token_of c.in_ok-token.token) c.args.reader.now c.next.new.self plain first in
    (read.data_is, read.was_read, read.gives)

pub returns-in-Some-clause-given : goal.returns-in-Some-clause-given
returns-in-Some-clause-given c =
    let first : c.args.reader.now ≡ token_of c.in_ok-token.token ∷ c.next.new.self = grind arith in
    let is = first ∙ ap (λ k. token_of k ∷ c.next.new.self) c.in-Number.is in
    let read = number_read c.args.depth c.in-Number.text.now c.args.reader.now c.next.new.self c.in-Some.word is c.in-Some.ensures in
    (read.data_is, read.was_read, read.gives)

pub returns-in-None-clause-none : goal.returns-in-None-clause-none
returns-in-None-clause-none c = λ other.
    let first : c.args.reader.now ≡ token_of c.in_ok-token.token ∷ c.next.new.self = grind arith in
    let is = first ∙ ap (λ k. token_of k ∷ c.next.new.self) c.in-Number.is in
    number_refused c.args.depth c.in-Number.text.now c.args.reader.now c.next.new.self is c.in-None.ensures

pub returns-in-EndObject-clause-none : goal.returns-in-EndObject-clause-none
returns-in-EndObject-clause-none c = λ other.
    let first : c.args.reader.now ≡ token_of c.in_ok-token.token ∷ c.next.new.self = grind arith in
    let wrong : is_misplaced (token_of c.in_ok-token.token) ≡ true = grind arith in
    misplaced c.args.depth (token_of c.in_ok-token.token) c.args.reader.now c.next.new.self wrong first

pub returns-then-depth-eq0-clause-none : goal.returns-then-depth-eq0-clause-none
returns-then-depth-eq0-clause-none c = λ other.
    let first : c.args.reader.now ≡ token_of c.in_ok-token.token ∷ c.next.new.self = grind arith in
    let is = first ∙ ap (λ k. token_of k ∷ c.next.new.self) c.in-BeginArray.is in
    no_array c.args.depth c.args.reader.now c.next.new.self (omega arith) is

pub returns-then-depth-eq0-2-clause-none : goal.returns-then-depth-eq0-2-clause-none
returns-then-depth-eq0-2-clause-none c = λ other.
    let first : c.args.reader.now ≡ token_of c.in_ok-token.token ∷ c.next.new.self = grind arith in
    let is = first ∙ ap (λ k. token_of k ∷ c.next.new.self) c.in-BeginObject.is in
    no_object c.args.depth c.args.reader.now c.next.new.self (omega arith) is

pub returns-in_err-read_items-in-BeginArray-clause-none : goal.returns-in_err-read_items-in-BeginArray-clause-none
returns-in_err-read_items-in-BeginArray-clause-none c = λ other.
    let first : c.args.reader.now ≡ token_of c.in_ok-token.token ∷ c.next.new.self = grind arith in
    let is = first ∙ ap (λ k. token_of k ∷ c.next.new.self) c.in-BeginArray.is in
    opened_array c.args.depth c.args.reader.now c.next.new.self (omega arith) is
    ∙ ap (parse_map array) (c.read_items.ensures.none (grind arith))

pub returns-in_ok-read_items-in-BeginArray-clause-given : goal.returns-in_ok-read_items-in-BeginArray-clause-given
returns-in_ok-read_items-in-BeginArray-clause-given c =
    let first : c.args.reader.now ≡ token_of c.in_ok-token.token ∷ c.next.new.self = grind arith in
    let is = first ∙ ap (λ k. token_of k ∷ c.next.new.self) c.in-BeginArray.is in
    let listed = c.in_ok-read_items-in-BeginArray.ensures.listed in (
      array listed.0,
      opened_array c.args.depth c.args.reader.now c.next.new.self (omega arith) is ∙ ap (parse_map array) listed.1,
      ap₂ a_list listed.2 listed.3,
    )

pub returns-in_err-pass_members-in-BeginObject-clause-none : goal.returns-in_err-pass_members-in-BeginObject-clause-none
returns-in_err-pass_members-in-BeginObject-clause-none c = λ other.
    let first : c.args.reader.now ≡ token_of c.in_ok-token.token ∷ c.next.new.self = grind arith in
    let is = first ∙ ap (λ k. token_of k ∷ c.next.new.self) c.in-BeginObject.is in
    opened_object c.args.depth c.args.reader.now c.next.new.self (omega arith) is
    ∙ ap (parse_map object) c.in_err-pass_members-in-BeginObject.ensures.invalid

pub returns-in_ok-pass_members-in-BeginObject-clause-given : goal.returns-in_ok-pass_members-in-BeginObject-clause-given
returns-in_ok-pass_members-in-BeginObject-clause-given c =
    let first : c.args.reader.now ≡ token_of c.in_ok-token.token ∷ c.next.new.self = grind arith in
    let is = first ∙ ap (λ k. token_of k ∷ c.next.new.self) c.in-BeginObject.is in
    let passed = c.in_ok-pass_members-in-BeginObject.ensures.passed in (
      object passed.0,
      opened_object c.args.depth c.args.reader.now c.next.new.self (omega arith) is ∙ ap (parse_map object) passed.1,
      refl,
    )
