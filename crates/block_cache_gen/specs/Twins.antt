-- The code of an assignment that has its effect, and of one that has none: the same, instruction by instruction, but for the
-- registers that are stored or written. (GhostRider, ASPLOS 2015: the arms of a branch on a secret are padded so that they
-- look alike.)
use Rattle.std.specs.Prelude.{◌≡◌, ℕ, Bool, true, List, [], ◌∷◌, ◌++◌}
use Rattle.gr_word.specs.declared.operations.Op.{Op}
use Rattle.lt_isa.specs.declared.instructions.Instr.{Instr}
use Rattle.lt_isa.specs.declared.instructions.Instr.TheVariants.{Alu, Ldw, Stw}
use Rattle.src_tree.specs.Trees.{Statement}
use Rattle.block_cache_gen.specs.declared.frames.Mode.{Mode}
use Rattle.block_cache_gen.specs.declared.frames.Mode.TheVariants.{Public, Real, Mirrored}
use Rattle.block_cache_gen.specs.Homes.{Setting}
use Rattle.block_cache_gen.specs.RunsOf.{Performs}
use Rattle.block_cache_gen.specs.SecretCode.{IsWalkedAsSet}
use Rattle.block_cache_gen.specs.StoredWords.{is_held_register, is_write, written_words}

-- An instruction without effect in place of one with an effect: itself; a store of another register to the same word; if
-- accesses are made once, a read that counts as the store; or what is for a register that holds a scalar, in register 0.
pub data IsInstead (once : Bool) : (one other : Instr) → Type 0 where
  Itself : (i : Instr) → IsInstead once i i
  Stored : (rs old slot ro : ℕ) → IsInstead once (Stw rs slot ro) (Stw old slot ro)
  Read : (rs slot : ℕ) → once ≡ true → IsInstead once (Stw rs slot 1) (Ldw 0 slot 1)
  Dropped : (op : Op) (r ra rb : ℕ) → is_held_register r ≡ true → IsInstead once (Alu op r ra rb) (Alu op 0 ra rb)

-- code without effect in place of code with an effect
pub data Mirrors (once : Bool) : (one other : List Instr) → Type 0 where
  Ends : Mirrors once [] []
  Goes : (i j : Instr) (one other : List Instr) → IsInstead once i j → Mirrors once one other
      → Mirrors once (i ∷ one) (j ∷ other)

-- two codes are the same but for the last instruction of the one that writes a scalar or an element
pub record DifferInLastWritten (once : Bool) (one other : List Instr) : Type 0 where
  pub before : List Instr
  pub after : List Instr
  pub written : Instr
  pub instead : Instr
  pub write : is_write once written ≡ true
  pub mirrors : IsInstead once written instead
  pub first : one ≡ before ++ (written ∷ after)
  pub second : other ≡ before ++ (instead ∷ after)
  pub last : written_words once after ≡ 0

-- the other mode of secret code
abbrev pub other_mode : Mode → Mode
other_mode Public = Public
other_mode Real = Mirrored
other_mode Mirrored = Real

-- code in a mode and the code of the other mode
abbrev pub AreTwins : (once : Bool) → Mode → (code twin : List Instr) → Type 0
AreTwins once Public code twin = code ≡ twin
AreTwins once Real code twin = Mirrors once code twin
AreTwins once Mirrored code twin = Mirrors once twin code

-- other code does in the other mode what an assignment does there, is walked alike, and differs only in registers that
-- are stored or written
pub record HasTwin (f : Setting) (mode : Mode) (assignment : Statement) (code : List Instr) : Type 0 where
  pub twin : List Instr
  pub same : AreTwins f.reduces mode code twin
  pub performs : Performs f (other_mode mode) assignment twin
  pub walked : IsWalkedAsSet f assignment twin
