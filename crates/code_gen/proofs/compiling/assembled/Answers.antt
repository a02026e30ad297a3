use Rattle.std.proofs.Common.{refl, sym, subst, ap, ◌∙◌}
use Rattle.lt_isa.specs.Prelude.{Parts}
use Rattle.src_tree.specs.Prelude.{source_of}
use Rattle.scratch_alloc.proofs.PlanPlaces.{plan_places}
use Rattle.block_cache_gen.specs.Prelude.{fast_plan_of}
use Rattle.code_gen.specs.Prelude.{banks_from, IsMadeOf}
use Rattle.code_gen.proofs.Assembled.{frame-made}
use Rattle.code_gen.proofs.compiling.assembled.Goals.{In_ok-banks}
use Rattle.code_gen.proofs.compiling.assembled.Goals as goal

-- the object that is assembled from its parts
abbrev object_of : In_ok-banks → Parts
object_of c = record {
  profile = c.args.f.now.profile.now;
  banks = c.in_ok-banks.banks.items;
  symbols = c.in_ok-symbols.symbols.items;
  notes = c.args.made.notes.items;
  code = c.args.made.code.items;
}

pub symbols-requires-clause-places : goal.symbols-requires-clause-places
symbols-requires-clause-places c =
    plan_places (source_of c.args.f.now.program.now) c.args.f.now.profile.now.block_log (fast_plan_of c.args.f.now)
    c.requires.frame.plan

made : (c : In_ok-banks)
    → IsMadeOf (source_of c.args.f.now.program.now) (fast_plan_of c.args.f.now) c.args.f.now.profile.now c.args.f.now.reduces
    c.args.f.now.held.now c.args.l.now (object_of c)
made c =
    frame-made c.args.f.now c.args.l.now (object_of c) c.requires.frame c.requires.latencies refl
    (c.in_ok-banks.ensures ∙ ap (banks_from c.args.l.now 0) c.as_slice.ensures.value)
    c.in_ok-symbols.ensures.symbols c.in_ok-symbols.ensures.in_range
    c.requires.words c.requires.code c.requires.notes

pub of_parts-requires : goal.of_parts-requires
of_parts-requires c = let h = made (goal.at.of_parts-requires c).In_ok-banks in h.in_range

pub returns : goal.returns
returns c =
    subst (IsMadeOf (source_of c.args.f.now.program.now) (fast_plan_of c.args.f.now) c.args.f.now.profile.now c.args.f.now.reduces
    c.args.f.now.held.now c.args.l.now) (sym c.of_parts.ensures)
    (made (goal.at.returns c).In_ok-banks)
