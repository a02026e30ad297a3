use Rattle.block_cache_gen.specs.declared.frames.CodeBuf.{CodeBuf}
use Rattle.block_cache_gen.specs.Prelude.{fast_setting}
use Rattle.code_gen.specs.Prelude.{register_code}
use Rattle.code_gen.proofs.EmittedPrograms.{HeldAppended}
use Rattle.code_gen.proofs.programs.put_registers.Given as goal

abbrev pub invariant-loop-place : goal.invariant-loop-place
invariant-loop-place l =
    (last : CodeBuf) → HeldAppended (register_code l.phase (fast_setting l.f)) l.f.held.now l.place l.out last
    → HeldAppended (register_code l.phase (fast_setting l.f)) l.f.held.now 0 l.fn.out last
