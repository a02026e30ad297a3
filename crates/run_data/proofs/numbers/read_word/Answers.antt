use Rattle.std.proofs.Common.{to_z, of_z, ◌≡◌, sym, ap, ◌∙◌, subst}
use Rattle.std.proofs.lemmas.Int.{to_z-of_z}
use Rattle.std.specs.Fmt.{signed_decimal}
use Rattle.std.specs.Int.{w64}
use Rattle.std.specs.Str.{IsUtf8}
use Rattle.std.proofs.lemmas.Bool.{false≢true}
use Rattle.std.proofs.lemmas.Fmt.{parse-signed_decimal}
use Rattle.std.proofs.lemmas.Slice.Eq.{bytes_eq-Decides}
use Rattle.run_data.proofs.Numerals.{IsUtf8-signed, mag-word}
use Rattle.run_data.proofs.numbers.read_word.Goals as goal

pub returns-in_default-clause-none : goal.returns-in_default-clause-none
returns-in_default-clause-none c = λ z fits is.
    c.in_default.ensures.cases.0 (subst IsUtf8 (sym is) (IsUtf8-signed z fits))

pub returns-in_default-parse-clause-none : goal.returns-in_default-parse-clause-none
returns-in_default-parse-clause-none c = λ z fits is.
    c.in_default-parse.not-Ok z (parse-signed_decimal w64 z c.in-Ok.text.now c.parse.result fits (mag-word z fits)
    (c.in-Ok.ensures.cases.0 ∙ is) c.parse.ensures.value.0)

pub returns-else-eq-clause-none : goal.returns-else-eq-clause-none
returns-else-eq-clause-none c = λ z fits is.
    let parsed =
    parse-signed_decimal w64 z c.in-Ok.text.now c.parse.result fits (mag-word z fits)
    (c.in-Ok.ensures.cases.0 ∙ is) c.parse.ensures.value.0 in
    let same : c.in-Ok-parse.word ≡ z = let other = c.in-Ok-parse.is in cc in
    let text =
    c.as_bytes.ensures.value ∙ c.format.ensures.text
    ∙ ap signed_decimal (ap (λ word. to_z w64 (of_z w64 word)) same ∙ to_z-of_z w64 z fits) ∙ sym is in
    false≢true (c.if-eq.ensures ∙ (bytes_eq-Decides c.as_bytes.result.now c.args.bytes.now).1 text)
