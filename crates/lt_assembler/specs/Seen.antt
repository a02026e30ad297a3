-- For the proofs and for private clauses only: the draft of the code as a draft of lists. (This project's profile.)
use Rattle.std.specs.Prelude.{List, [], ◌∷◌, map}
use Rattle.lt_assembler.specs.declared.draft.CodePlace.{CodePlace}
use Rattle.lt_assembler.specs.declared.draft.Use.{Use as CodeUse}
use Rattle.lt_assembler.specs.declared.draft.Draft.{Draft as CodeDraft}
use Rattle.lt_assembler.specs.declared.label_keys.LabelKey.{LabelKey}
use Rattle.lt_assembler.specs.Drafts.{Use, Labels, Draft, with_label}

abbrev pub seen_use : CodeUse → Use
seen_use u = record { name = u.name.now; place = u.place.number; line = u.line }

-- labels in the order of their names
abbrev pub by_name : List (LabelKey × CodePlace) → Labels
by_name [] = []
by_name (e ∷ es) = with_label e.0.name.now e.1.number (by_name es)

abbrev pub draft_of : CodeDraft → Draft
draft_of d = record {
  profile = d.profile;
  banks = d.banks.items;
  symbols = d.symbols.items;
  notes = d.notes.items;
  code = d.code.items;
  labels = by_name d.labels.entries;
  uses = map seen_use d.uses.items;
}
