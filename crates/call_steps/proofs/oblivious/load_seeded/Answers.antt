use Rattle.std.proofs.Common.{rules, ◌≡◌, ◌-◌, map, ap, ◌∙◌, length}
use Rattle.std.specs.List.{range_with_len}
use Rattle.lt_isa.specs.Prelude.{start_bank}
use Rattle.call_steps.proofs.Beginnings.{begin-contents, begin-widths}
use Rattle.call_steps.proofs.oblivious.load_seeded.Goals as goal

pub load_over-requires-clause-banks : goal.load_over-requires-clause-banks
load_over-requires-clause-banks g c =
    let o = c.args.accepted.now in
    let inputs = c.args.inputs.now in
    let count : length c.in_ok-orams.orams.items ≡ length o.banks - 2 = search rules in
    begin-contents (g.B.Seeded.begins o inputs c.args.seed c.args.core) o inputs g.B.Bank.contents
    (λ b oram begun. (g.met.B.Seeded.begins_with o inputs c.args.seed c.args.core b oram begun).0) 2
    c.in_ok-orams.orams.items c.in_ok-orams.ensures.begun
    ∙ ap (λ n. map (start_bank o inputs) (range_with_len 2 n)) count

pub load_over-requires-clause-widths : goal.load_over-requires-clause-widths
load_over-requires-clause-widths g c =
    let o = c.args.accepted.now in
    let inputs = c.args.inputs.now in
    begin-widths (g.B.Seeded.begins o inputs c.args.seed c.args.core) o g.B.Bank.width
    (λ b oram begun. (g.met.B.Seeded.begins_with o inputs c.args.seed c.args.core b oram begun).1) 2
    c.in_ok-orams.orams.items c.in_ok-orams.ensures.begun
