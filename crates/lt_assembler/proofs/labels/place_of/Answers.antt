use Rattle.std.proofs.Common.{◌∙◌, ap}
use Rattle.std.specs.Prelude.{option_map}
use Rattle.lt_assembler.specs.declared.draft.CodePlace.{CodePlace}
use Rattle.lt_assembler.specs.Prelude.{place_of, by_name}
use Rattle.lt_assembler.proofs.LabelMaps.{seen_lookup}
use Rattle.lt_assembler.proofs.labels.place_of.Goals as goal

pub returns : goal.returns
returns c =
    ap (option_map (λ (p : CodePlace). p.number)) (c.copied.ensures ∙ c.get.ensures.value)
    ∙ seen_lookup c.args.labels.now.entries c.key_of.result
    ∙ ap (place_of (by_name c.args.labels.now.entries)) c.key_of.ensures
