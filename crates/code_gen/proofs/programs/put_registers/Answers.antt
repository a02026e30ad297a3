use Rattle.held_registers.specs.declared.registers.Held.TheVariants.{SecretZero}
use Rattle.block_cache_gen.specs.Prelude.{fast_setting}
use Rattle.code_gen.specs.Prelude.{register_code}
use Rattle.code_gen.proofs.EmittedPrograms.{held-more, held-past, held-declared}
use Rattle.code_gen.proofs.programs.put_registers.Goals as goal

pub put_register-requires-clause-scalar : goal.put_register-requires-clause-scalar
put_register-requires-clause-scalar c =
    held-declared c.args.f.now c.requires.frame c.loop-place.place SecretZero c.loop-place-test.true

pub loop-place-preserved : goal.loop-place-preserved
loop-place-preserved c =
    λ last more.
    c.loop-place.invariant last
    (held-more (register_code c.args.phase (fast_setting c.args.f.now)) c.args.f.now.held.now c.loop-place.place SecretZero c.loop-place.out
    c.put_register.new.out last c.loop-place-test.true c.in_ok-put_register.ensures more)

pub returns : goal.returns
returns c =
    c.loop-place.invariant c.loop-place.out
    (held-past (register_code c.args.phase (fast_setting c.args.f.now)) c.args.f.now.held.now c.loop-place.place c.loop-place.out
    c.loop-place-test.false)
