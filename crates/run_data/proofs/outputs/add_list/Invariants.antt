use Rattle.std.proofs.Common.{◌≡◌, ◌∷◌, ◌++◌, drop, ltb, false}
use Rattle.serde_json.specs.Written.{items_text}
use Rattle.run_data.specs.Prelude.{word_items}
use Rattle.run_data.proofs.outputs.add_list.Given as goal

abbrev pub invariant-loop-i : goal.invariant-loop-i
invariant-loop-i l =
    l.text.items ++ items_text (ltb 0 l.i) (word_items (drop l.i l.words))
    ≡ l.fn.text.items ++ (91 ∷ items_text false (word_items l.words))
