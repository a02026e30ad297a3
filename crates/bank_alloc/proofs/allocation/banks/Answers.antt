use Rattle.std.proofs.Common.{sym}
use Rattle.src_tree.specs.Prelude.{source_of}
use Rattle.bank_alloc.proofs.Placed.{placed_as}
use Rattle.bank_alloc.proofs.Refusals.{refused, fits, few_banks}
use Rattle.bank_alloc.proofs.allocation.banks.Goals as goal

pub first_lack-requires : goal.first_lack-requires
first_lack-requires c = few_banks (source_of c.args.p.now) c.args.w c.in-Ok.places c.in-Ok.ensures.places

pub returns-in-Some-clause-refused : goal.returns-in-Some-clause-refused
returns-in-Some-clause-refused c =
    refused (source_of c.args.p.now) c.args.w c.block_words.result c.in-Ok.places c.in-Some.lack
    c.block_words.ensures.words
    c.in-Ok.ensures.places (sym c.in-Some.ensures)

pub returns-in-None-clause-fits : goal.returns-in-None-clause-fits
returns-in-None-clause-fits c =
    fits (source_of c.args.p.now) c.args.w c.block_words.result c.in-Ok.places c.block_words.ensures.words
    c.in-Ok.ensures.places
    (sym c.in-None.ensures)

pub returns-in-None-clause-placed : goal.returns-in-None-clause-placed
returns-in-None-clause-placed c =
    placed_as (source_of c.args.p.now) c.args.w c.in-Ok.places.of_var.items c.in-Ok.ensures.places.of_var
