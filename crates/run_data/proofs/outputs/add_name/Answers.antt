use Rattle.std.proofs.Common.{◌++◌, ◌∷◌, [], ap, sym, append_assoc}
use Rattle.run_data.proofs.NameTexts.{escape-name}
use Rattle.run_data.proofs.outputs.add_name.Goals as goal

pub returns : goal.returns
returns c =
    let e = escape-name c.args.name.now c.requires in
    rw
    (e, c.in_ok-extend_from_slice-2.ensures.items, c.in_ok-extend_from_slice.ensures.items, c.in_ok-push.ensures.items)
    (simp append_assoc
    (ap (λ text. c.args.text.now.items ++ 34 ∷ text) (sym (append_assoc c.args.name.now (34 ∷ []) (58 ∷ [])))))
