use Rattle.block_cache_gen.specs.declared.frames.CodeBuf.{CodeBuf}
use Rattle.code_gen.specs.Prelude.{slot_code}
use Rattle.code_gen.proofs.EmittedPrograms.{SlotsAppended}
use Rattle.code_gen.proofs.programs.put_slots.Given as goal

abbrev pub invariant-loop-slot : goal.invariant-loop-slot
invariant-loop-slot l =
    (last : CodeBuf) → SlotsAppended (slot_code l.phase) l.blocks l.slot l.out last
    → SlotsAppended (slot_code l.phase) l.blocks 0 l.fn.out last
