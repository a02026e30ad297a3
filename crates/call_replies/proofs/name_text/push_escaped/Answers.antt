use Rattle.std.proofs.Common.{◌+◌, ◌-◌, ◌/◌, ◌%◌, ◌++◌, Bool, string_bytes, sym, ap, ◌∙◌}
use Rattle.std.specs.Prelude.{if◌then◌else◌}
use Rattle.std.proofs.lemmas.Bool.{lt-leb}
use Rattle.std.proofs.lemmas.List.{append_assoc}
use Rattle.std.proofs.lemmas.Result.{on_ok_weaker}
use Rattle.call_replies.specs.Prelude.{escaped_unit}
use Rattle.call_replies.proofs.name_text.push_escaped.Goals as goal

pub returns : goal.returns
returns c =
    let code = c.args.code in
    let before = string_bytes c.args.shown.now in
    let high = escaped_unit (55296 + (code - 65536) / 1024) in
    let low = escaped_unit (56320 + (code - 65536) % 1024) in
    on_ok_weaker c.push_unit-3.result
    (λ e. e ∙ ap (λ text. text ++ low) c.in_ok-push_unit.ensures ∙ append_assoc before high low
    ∙ ap (λ (b : Bool). before ++ (if b then escaped_unit code else high ++ low)) (sym (lt-leb code 65535 c.if-code-le65535.false)))
    c.push_unit-3.ensures
