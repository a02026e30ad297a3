use Rattle.std.proofs.Common.{◌≡◌, List, ℕ, Bool, true, false, cond, None, refl, sym, ap, ◌∙◌, arith}
use Rattle.std.specs.Str.{IsUtf8, is_utf8}
use Rattle.std.proofs.lemmas.Str.{is_utf8-from_IsUtf8, IsUtf8-from_is_utf8}
use Rattle.serde_json.specs.Read.{read}
use Rattle.run_data.specs.Prelude.{json_of}
use Rattle.run_data.proofs.members.read_text.Goals as goal

read_utf8 : (bytes : List ℕ) → IsUtf8 bytes → json_of bytes ≡ read bytes
read_utf8 bytes text = rw (is_utf8-from_IsUtf8 bytes text) refl

unread : (bytes : List ℕ) (b : Bool) → is_utf8 bytes ≡ b → (IsUtf8 bytes → ⊥) → cond b (read bytes) None ≡ None
unread bytes true is other = absurd (other (IsUtf8-from_is_utf8 bytes is))
unread bytes false is other = refl

pub returns-in-Ok-clause-given : goal.returns-in-Ok-clause-given
returns-in-Ok-clause-given c =
    let bytes = c.args.text.now in
    let same : json_of bytes ≡ read c.in-Ok.text.now =
    read_utf8 bytes c.in-Ok.ensures.cases.1 ∙ ap read (sym c.in-Ok.ensures.cases.0) in
    rw same c.read_whole.ensures.given

pub returns-in-Ok-clause-none : goal.returns-in-Ok-clause-none
returns-in-Ok-clause-none c = λ refused.
    let bytes = c.args.text.now in
    read_utf8 bytes c.in-Ok.ensures.cases.1 ∙ ap read (sym c.in-Ok.ensures.cases.0)
    ∙ c.read_whole.ensures.none (grind arith)

pub returns-in-Err-clause-none : goal.returns-in-Err-clause-none
returns-in-Err-clause-none c = λ refused.
    unread c.args.text.now (is_utf8 c.args.text.now) refl c.in-Err.ensures.cases.0
