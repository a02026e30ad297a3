use Rattle.std.proofs.Common.{List, ℕ, Bor, ap, sym, ◌∙◌}
use Rattle.std.specs.Option.{option_map}
use Rattle.command_words.specs.Prelude.{texts}
use Rattle.ghost_front.proofs.DashLists.{bus-asked}
use Rattle.ghost_front.proofs.dashes.of_bus.Goals as goal

pub returns : goal.returns
returns c =
    bus-asked _ _ _ _ _ _ _ c.of_names.ensures
    (ap (option_map (λ (list : Bor (List (Bor (List ℕ)))). texts list.now)) (sym c.in_ok-names.was) ∙ c.values.ensures)
    c.value.ensures c.value-2.ensures
