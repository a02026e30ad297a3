use Rattle.std.proofs.Common.{sym, ◌∙◌}
use Rattle.std.proofs.lemmas.Slice.Eq.{bytes_eq-Decides}
use Rattle.ghost_front.proofs.verb_table.verb_help.Goals as goal

pub returns-then-eq : goal.returns-then-eq
returns-then-eq c =
    sym c.name_of.ensures ∙ (bytes_eq-Decides c.name_of.result.now c.args.name.now).0 (sym c.if-eq.ensures)
