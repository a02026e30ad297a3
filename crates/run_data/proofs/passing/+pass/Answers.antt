use Rattle.std.proofs.Common.{◌≡◌, ◌-◌, ◌<◌, ◌∷◌, true, length, Some, None, refl, ap, ◌∙◌, arith}
use Rattle.json.specs.Json.{parse_map, after_end_array, read_key, items, value}
use Rattle.json.specs.Reads.{token_of}
use Rattle.json.proofs.Grammar.{read_key-shorter}
use Rattle.serde_json.specs.Data.{array, object, no_items, item, no_members, put}
use Rattle.serde_json.specs.Read.{of_items, converted}
use Rattle.run_data.proofs.JsonReading.{item_read, item_refused, items_over, member_read, member_refused, key_refused, members_over, none_before, one_more}
use Rattle.run_data.proofs.JsonTokens.{is_plain, is_misplaced, plain_read, number_read, number_refused, opened_array, opened_object, no_array, no_object, no_token, misplaced}
use Rattle.run_data.proofs.passing.+pass.Goals as goal

pub pass_value-returns-in_err-token-clause-invalid : goal.pass_value-returns-in_err-token-clause-invalid
pass_value-returns-in_err-token-clause-invalid t c =
    let none = no_token c.args.depth c.args.reader.now (grind arith) in
    grind (arith, none)

pub pass_value-returns-in-String-clause-passed : goal.pass_value-returns-in-String-clause-passed
pass_value-returns-in-String-clause-passed t c =
    let first : c.args.reader.now ≡ token_of c.in_ok-token.token ∷ c.next.new.self = grind arith in
    let plain : is_plain (token_of c.in_ok-token.token) ≡ true = grind arith in
    let read = plain_read c.args.depth (token_of c.in_ok-token.token) c.args.reader.now c.next.new.self plain first in
    (read.data_is, read.was_read, read.has_word)

pub pass_value-returns-in-Some-clause-passed : goal.pass_value-returns-in-Some-clause-passed
pass_value-returns-in-Some-clause-passed t c =
    let first : c.args.reader.now ≡ token_of c.in_ok-token.token ∷ c.next.new.self = grind arith in
    let is = first ∙ ap (λ k. token_of k ∷ c.next.new.self) c.in-Number.is in
    let read = number_read c.args.depth c.in-Number.text.now c.args.reader.now c.next.new.self c.in-Some.word is c.in-Some.ensures in
    (read.data_is, read.was_read, read.has_word)

pub pass_value-returns-in-None-clause-invalid : goal.pass_value-returns-in-None-clause-invalid
pass_value-returns-in-None-clause-invalid t c =
    let first : c.args.reader.now ≡ token_of c.in_ok-token.token ∷ c.next.new.self = grind arith in
    let is = first ∙ ap (λ k. token_of k ∷ c.next.new.self) c.in-Number.is in
    number_refused c.args.depth c.in-Number.text.now c.args.reader.now c.next.new.self is c.in-None.ensures

pub pass_value-returns-in-EndObject-clause-invalid : goal.pass_value-returns-in-EndObject-clause-invalid
pass_value-returns-in-EndObject-clause-invalid t c =
    let first : c.args.reader.now ≡ token_of c.in_ok-token.token ∷ c.next.new.self = grind arith in
    let wrong : is_misplaced (token_of c.in_ok-token.token) ≡ true = grind arith in
    misplaced c.args.depth (token_of c.in_ok-token.token) c.args.reader.now c.next.new.self wrong first

pub pass_value-returns-then-depth-eq0-clause-invalid : goal.pass_value-returns-then-depth-eq0-clause-invalid
pass_value-returns-then-depth-eq0-clause-invalid t c =
    let first : c.args.reader.now ≡ token_of c.in_ok-token.token ∷ c.next.new.self = grind arith in
    let is = first ∙ ap (λ k. token_of k ∷ c.next.new.self) c.in-BeginArray.is in
    no_array c.args.depth c.args.reader.now c.next.new.self (omega arith) is

pub pass_value-returns-then-depth-eq0-2-clause-invalid : goal.pass_value-returns-then-depth-eq0-2-clause-invalid
pass_value-returns-then-depth-eq0-2-clause-invalid t c =
    let first : c.args.reader.now ≡ token_of c.in_ok-token.token ∷ c.next.new.self = grind arith in
    let is = first ∙ ap (λ k. token_of k ∷ c.next.new.self) c.in-BeginObject.is in
    no_object c.args.depth c.args.reader.now c.next.new.self (omega arith) is

pub pass_value-returns-in_err-pass_items-in-BeginArray-clause-invalid : goal.pass_value-returns-in_err-pass_items-in-BeginArray-clause-invalid
pass_value-returns-in_err-pass_items-in-BeginArray-clause-invalid t c =
    let first : c.args.reader.now ≡ token_of c.in_ok-token.token ∷ c.next.new.self = grind arith in
    let is = first ∙ ap (λ k. token_of k ∷ c.next.new.self) c.in-BeginArray.is in
    let none = opened_array c.args.depth c.args.reader.now c.next.new.self (omega arith) is
    ∙ ap (parse_map array) c.in_err-pass_items-in-BeginArray.ensures.invalid in
    grind (arith, none)

pub pass_value-returns-in_ok-pass_items-in-BeginArray-clause-passed : goal.pass_value-returns-in_ok-pass_items-in-BeginArray-clause-passed
pass_value-returns-in_ok-pass_items-in-BeginArray-clause-passed t c =
    let first : c.args.reader.now ≡ token_of c.in_ok-token.token ∷ c.next.new.self = grind arith in
    let is = first ∙ ap (λ k. token_of k ∷ c.next.new.self) c.in-BeginArray.is in
    let passed = c.in_ok-pass_items-in-BeginArray.ensures.passed in (
      array passed.0,
      opened_array c.args.depth c.args.reader.now c.next.new.self (omega arith) is ∙ ap (parse_map array) passed.1,
      refl,
    )

pub pass_value-returns-in_err-pass_members-in-BeginObject-clause-invalid : goal.pass_value-returns-in_err-pass_members-in-BeginObject-clause-invalid
pass_value-returns-in_err-pass_members-in-BeginObject-clause-invalid t c =
    let first : c.args.reader.now ≡ token_of c.in_ok-token.token ∷ c.next.new.self = grind arith in
    let is = first ∙ ap (λ k. token_of k ∷ c.next.new.self) c.in-BeginObject.is in
    let none = opened_object c.args.depth c.args.reader.now c.next.new.self (omega arith) is
    ∙ ap (parse_map object) c.in_err-pass_members-in-BeginObject.ensures.invalid in
    grind (arith, none)

pub pass_value-returns-in_ok-pass_members-in-BeginObject-clause-passed : goal.pass_value-returns-in_ok-pass_members-in-BeginObject-clause-passed
pass_value-returns-in_ok-pass_members-in-BeginObject-clause-passed t c =
    let first : c.args.reader.now ≡ token_of c.in_ok-token.token ∷ c.next.new.self = grind arith in
    let is = first ∙ ap (λ k. token_of k ∷ c.next.new.self) c.in-BeginObject.is in
    let passed = c.in_ok-pass_members-in-BeginObject.ensures.passed in (
      object passed.0,
      opened_object c.args.depth c.args.reader.now c.next.new.self (omega arith) is ∙ ap (parse_map object) passed.1,
      refl,
    )

pub pass_items-items-init : goal.pass_items-items-init
pass_items-items-init t c =
    let all = converted of_items (items (value c.args.depth) (length c.args.reader.now) c.args.reader.now) in
    (length c.args.reader.now, (λ js. js), omega arith, none_before all, omega arith)

pub pass_items-items-preserved : goal.pass_items-items-preserved
pass_items-items-preserved t c =
    let p = value c.args.depth in
    let l = c.items in
    let n = l.invariant.0 in
    let f = l.invariant.1 in
    let going : (after_end_array l.reader ≡ None) × (c.take_end_array.new.self ≡ l.reader) = grind arith in
    let done = c.in_ok-pass_value.ensures in
    let d = done.passed.0 in
    let r = c.pass_value.new.reader in
    let less : length r < length l.reader = rw (← going.1) done.shorter in
    let turn = item_read p n l.reader r d (omega (arith, l.invariant.2)) going.0 (rw (← going.1) done.passed.1) in (
      n - 1,
      (λ js. f (item d js)),
      omega (arith, l.invariant.2),
      l.invariant.3 ∙ ap (parse_map f) turn ∙ one_more f d _,
      omega (arith, l.invariant.4),
    )

pub pass_items-returns-in_err-pass_value-clause-invalid : goal.pass_items-returns-in_err-pass_value-clause-invalid
pass_items-returns-in_err-pass_value-clause-invalid t c =
    let p = value c.args.depth in
    let l = c.items in
    let going : (after_end_array l.reader ≡ None) × (c.take_end_array.new.self ≡ l.reader) = grind arith in
    let none = l.invariant.3
    ∙ ap (parse_map l.invariant.1)
    (item_refused p l.invariant.0 l.reader going.0 (rw (← going.1) c.in_err-pass_value.ensures.invalid)) in
    grind (arith, none)

pub pass_items-returns-clause-passed : goal.pass_items-returns-clause-passed
pass_items-returns-clause-passed t c =
    let p = value c.args.depth in
    let l = c.items in
    let r = c.take_end_array.new.self in (
      l.invariant.1 no_items,
      l.invariant.3
          ∙ ap (parse_map l.invariant.1) (items_over p l.invariant.0 l.reader r l.invariant.2 (grind arith)),
    )

pub pass_members-members-init : goal.pass_members-members-init
pass_members-members-init t c = (length c.args.reader.now, no_members, omega arith, refl, omega arith)

pub pass_members-returns-in_err-next_key-clause-invalid : goal.pass_members-returns-in_err-next_key-clause-invalid
pass_members-returns-in_err-next_key-clause-invalid t c =
    let p = value c.args.depth in
    let l = c.members in
    let none = l.invariant.3 ∙ key_refused p l.invariant.1 l.invariant.0 l.reader c.in_err-next_key.ensures.value in
    grind (arith, none)

pub pass_members-members-preserved : goal.pass_members-members-preserved
pass_members-members-preserved t c =
    let p = value c.args.depth in
    let l = c.members in
    let n = l.invariant.0 in
    let old = l.invariant.1 in
    let k = c.in-Some.field-0.now in
    let s = c.next_key.new.self in
    let named : read_key l.reader ≡ Some (Some k, s) = grind arith in
    let done = c.in_ok-pass_value.ensures in
    let d = done.passed.0 in
    let r = c.pass_value.new.reader in
    let less = read_key-shorter l.reader (Some k) s named in
    let lesser = done.shorter in (
      n - 1,
      put k d old,
      omega (arith, l.invariant.2),
      l.invariant.3 ∙ member_read p old n k l.reader s r d (omega (arith, l.invariant.2)) named done.passed.1,
      omega (arith, l.invariant.4),
    )

pub pass_members-returns-in_err-pass_value-clause-invalid : goal.pass_members-returns-in_err-pass_value-clause-invalid
pass_members-returns-in_err-pass_value-clause-invalid t c =
    let p = value c.args.depth in
    let l = c.members in
    let k = c.in-Some.field-0.now in
    let s = c.next_key.new.self in
    let named : read_key l.reader ≡ Some (Some k, s) = grind arith in
    let none = l.invariant.3
    ∙ member_refused p l.invariant.1 l.invariant.0 k l.reader s named c.in_err-pass_value.ensures.invalid in
    grind (arith, none)

pub pass_members-returns-clause-passed : goal.pass_members-returns-clause-passed
pass_members-returns-clause-passed t c =
    let p = value c.args.depth in
    let l = c.members in (
      l.invariant.1,
      l.invariant.3 ∙ members_over p l.invariant.1 l.invariant.0 l.reader c.next_key.new.self l.invariant.2 (grind arith),
    )
