-- The code of an assignment in secret code depends only on the setting, the assignment and the mode: with the effect it is
-- one list of instructions, and without, what mirrors it. (GhostRider, ASPLOS 2015: the arms of a branch on a secret are
-- padded so that they look alike.)
use Rattle.std.specs.Prelude.{◌≡◌, List}
use Rattle.lt_isa.specs.declared.instructions.Instr.{Instr}
use Rattle.src_tree.specs.Trees.{Statement}
use Rattle.block_cache_gen.specs.declared.frames.Mode.{Mode}
use Rattle.block_cache_gen.specs.declared.frames.Mode.TheVariants.{Public, Real, Mirrored}
use Rattle.block_cache_gen.specs.Homes.{Setting}
use Rattle.block_cache_gen.specs.Codes.{set_code}
use Rattle.block_cache_gen.specs.Twins.{Mirrors}

-- the instructions of the code with the effect
abbrev pub instructions_of_set : Setting → Statement → List Instr
instructions_of_set f s = set_code f Real s

-- code of an assignment in a mode of secret code
abbrev pub IsCodeOfSet : Setting → Mode → Statement → List Instr → Type 0
IsCodeOfSet f Public s code = Unit {0}
IsCodeOfSet f Real s code = code ≡ instructions_of_set f s
IsCodeOfSet f Mirrored s code = Mirrors f.reduces (instructions_of_set f s) code
