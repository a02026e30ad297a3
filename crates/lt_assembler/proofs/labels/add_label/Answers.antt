use Rattle.std.proofs.Common.{◌∙◌, ap, sym}
use Rattle.std.proofs.Math.Bool.{not-not}
use Rattle.std.specs.Prelude.{not, is_some}
use Rattle.lt_assembler.specs.Prelude.{place_of, with_label, by_name}
use Rattle.lt_assembler.proofs.LabelMaps.{seen_insert, seen_there}
use Rattle.lt_assembler.proofs.labels.add_label.Goals as goal

pub returns-clause-new : goal.returns-clause-new
returns-clause-new c =
    sym (not-not c.is_none.result) ∙ ap not
    (sym c.is_none.ensures ∙ (ap is_some c.in_ok-before.ensures.old
    ∙ seen_there c.args.labels.now.entries c.key_of.result)
    ∙ ap (λ name. is_some (place_of (by_name c.args.labels.now.entries) name)) c.key_of.ensures)

pub returns-clause-added : goal.returns-clause-added
returns-clause-added c =
    ap by_name c.in_ok-before.ensures.entries ∙ seen_insert c.args.labels.now.entries c.key_of.result c.args.place
    ∙ ap (λ name. with_label name c.args.place.number (by_name c.args.labels.now.entries)) c.key_of.ensures
