use Rattle.std.proofs.Common.{ap, ◌∙◌, sym}
use Rattle.src_tree.specs.Prelude.{source_of}
use Rattle.resident_alloc.specs.Prelude.{scalars_lack}
use Rattle.resident_alloc.proofs.ResidentLacks.{bank_refused, banks_fit, blocks_are, blocks_few, scalars_fit, scalars_refused}
use Rattle.resident_alloc.proofs.planning.resident_plan.Goals as goal

pub returns-in-Some-clause-refused : goal.returns-in-Some-clause-refused
returns-in-Some-clause-refused c =
    let p = source_of c.args.p.now in
    let size = c.block_words-size.result in
    scalars_refused p c.args.w size c.in-Some.lack c.block_words-size.ensures.words
    (ap (scalars_lack size) (sym (c.as_slice.ensures.value ∙ c.in_ok-wants.ensures.wants)) ∙ sym c.in-Some.ensures)

pub first_full-requires : goal.first_full-requires
first_full-requires c =
    let p = source_of c.args.p.now in
    let all = c.as_slice-in-None.result.now in
    let of = blocks_are p c.args.w c.block_words-size.result all c.as_slice-in-None-2.result.now
    c.in_ok-plan-in-None.plan.places c.in_ok-plan-in-None.plan.slots c.block_words-size.ensures.words
    (c.as_slice-in-None.ensures.value ∙ c.in_ok-wants.ensures.wants) c.as_slice-in-None-2.ensures.value
    c.in_ok-plan-in-None.ensures in
    record { banks = blocks_few p c.args.w c.as_slice-in-None-2.result.now of }

pub returns-in-Some-first_full-clause-refused : goal.returns-in-Some-first_full-clause-refused
returns-in-Some-first_full-clause-refused c =
    let p = source_of c.args.p.now in
    let size = c.block_words-size.result in
    let all = c.as_slice-in-None.result.now in
    let of = blocks_are p c.args.w size all c.as_slice-in-None-2.result.now
    c.in_ok-plan-in-None.plan.places c.in_ok-plan-in-None.plan.slots c.block_words-size.ensures.words
    (c.as_slice-in-None.ensures.value ∙ c.in_ok-wants.ensures.wants) c.as_slice-in-None-2.ensures.value
    c.in_ok-plan-in-None.ensures in
    bank_refused p c.args.w c.as_slice-in-None-2.result.now c.in-Some-first_full.lack
    (scalars_fit p c.args.w size c.block_words-size.ensures.words
    (ap (scalars_lack size) (sym (c.as_slice.ensures.value ∙ c.in_ok-wants.ensures.wants)) ∙ sym c.in-None.ensures))
    of (sym c.in-Some-first_full.ensures.lack)

pub returns-clause-fits : goal.returns-clause-fits
returns-clause-fits c =
    let p = source_of c.args.p.now in
    let size = c.block_words-size.result in
    let all = c.as_slice-in-None.result.now in
    let of = blocks_are p c.args.w size all c.as_slice-in-None-2.result.now
    c.in_ok-plan-in-None.plan.places c.in_ok-plan-in-None.plan.slots c.block_words-size.ensures.words
    (c.as_slice-in-None.ensures.value ∙ c.in_ok-wants.ensures.wants) c.as_slice-in-None-2.ensures.value
    c.in_ok-plan-in-None.ensures in
    banks_fit p c.args.w c.as_slice-in-None-2.result.now
    (scalars_fit p c.args.w size c.block_words-size.ensures.words
    (ap (scalars_lack size) (sym (c.as_slice.ensures.value ∙ c.in_ok-wants.ensures.wants)) ∙ sym c.in-None.ensures))
    of (sym c.in-None-first_full.ensures.lack)
