-- Each arm does what the instruction of its flat form does, over any scratchpad.
use Rattle.std.proofs.Common.{rules, ◌≡◌, ℤ, w32, w64, to_z, of_z}
use Rattle.std.proofs.lemmas.Int.{wraps}
use Rattle.gr_word.specs.Prelude.{IsWord}
use Rattle.lt_isa.specs.Prelude.{IsOffset}
use Rattle.processor.proofs.quick.pass_quickly.Goals as goal

-- a word and an offset as the code hands them on
word : (value : ℤ) → IsWord value → to_z w64 (of_z w64 value) ≡ value
word value fits = search (rules, wraps)

offset : (n : ℤ) → IsOffset n → to_z w32 (of_z w32 n) ≡ n
offset n fits = search (rules, wraps)

pub returns-in-Li : goal.returns-in-Li
returns-in-Li c =
    rw c.in-Li.is (rw (word c.in-Li.value (rw c.in-Li.is at c.requires.fits).1)
    at (c.load_constant.ensures c.args.object.now c.args.pad.now))

pub returns-in-Add : goal.returns-in-Add
returns-in-Add c = rw c.in-Add.is (c.operate.ensures c.args.pad.now)

pub returns-in-Sub : goal.returns-in-Sub
returns-in-Sub c = rw c.in-Sub.is (c.operate-in-Sub.ensures c.args.pad.now)

pub returns-in-Mul : goal.returns-in-Mul
returns-in-Mul c = rw c.in-Mul.is (c.operate-in-Mul.ensures c.args.pad.now)

pub returns-in-Div : goal.returns-in-Div
returns-in-Div c = rw c.in-Div.is (c.operate-in-Div.ensures c.args.pad.now)

pub returns-in-Rem : goal.returns-in-Rem
returns-in-Rem c = rw c.in-Rem.is (c.operate-in-Rem.ensures c.args.pad.now)

pub returns-in-Remu : goal.returns-in-Remu
returns-in-Remu c = rw c.in-Remu.is (c.operate-in-Remu.ensures c.args.pad.now)

pub returns-in-And : goal.returns-in-And
returns-in-And c = rw c.in-And.is (c.operate-in-And.ensures c.args.pad.now)

pub returns-in-Or : goal.returns-in-Or
returns-in-Or c = rw c.in-Or.is (c.operate-in-Or.ensures c.args.pad.now)

pub returns-in-Xor : goal.returns-in-Xor
returns-in-Xor c = rw c.in-Xor.is (c.operate-in-Xor.ensures c.args.pad.now)

pub returns-in-Shl : goal.returns-in-Shl
returns-in-Shl c = rw c.in-Shl.is (c.operate-in-Shl.ensures c.args.pad.now)

pub returns-in-Shr : goal.returns-in-Shr
returns-in-Shr c = rw c.in-Shr.is (c.operate-in-Shr.ensures c.args.pad.now)

pub returns-in-Jmp : goal.returns-in-Jmp
returns-in-Jmp c =
    rw c.in-Jmp.is (rw (offset c.in-Jmp.offset (rw c.in-Jmp.is at c.requires.fits))
    at (c.jump.ensures c.args.registers.now c.args.pad.now))

pub returns-in-Eq : goal.returns-in-Eq
returns-in-Eq c =
    rw c.in-Eq.is (rw (offset c.in-Eq.offset (rw c.in-Eq.is at c.requires.fits).2)
    at (c.branch-object.ensures c.args.pad.now))

pub returns-in-Ne : goal.returns-in-Ne
returns-in-Ne c =
    rw c.in-Ne.is (rw (offset c.in-Ne.offset (rw c.in-Ne.is at c.requires.fits).2)
    at (c.branch-object-in-Ne.ensures c.args.pad.now))

pub returns-in-Lt : goal.returns-in-Lt
returns-in-Lt c =
    rw c.in-Lt.is (rw (offset c.in-Lt.offset (rw c.in-Lt.is at c.requires.fits).2)
    at (c.branch-object-in-Lt.ensures c.args.pad.now))

pub returns-in-Le : goal.returns-in-Le
returns-in-Le c =
    rw c.in-Le.is (rw (offset c.in-Le.offset (rw c.in-Le.is at c.requires.fits).2)
    at (c.branch-object-in-Le.ensures c.args.pad.now))

pub returns-in-Gt : goal.returns-in-Gt
returns-in-Gt c =
    rw c.in-Gt.is (rw (offset c.in-Gt.offset (rw c.in-Gt.is at c.requires.fits).2)
    at (c.branch-object-in-Gt.ensures c.args.pad.now))

pub returns-in-Ge : goal.returns-in-Ge
returns-in-Ge c =
    rw c.in-Ge.is (rw (offset c.in-Ge.offset (rw c.in-Ge.is at c.requires.fits).2)
    at (c.branch-object-in-Ge.ensures c.args.pad.now))
