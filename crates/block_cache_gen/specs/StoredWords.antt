-- The instructions that store a word in a slot, and those that write a scalar in its slot or its register. If accesses are
-- made `once`, a read of the word counts as its store in code without effect. (This project's own padding counts them.)
use Rattle.std.specs.Prelude.{ℕ, ◌==◌, ◌&&◌, nat_lt, is_some, Bool, true, false, if◌then◌else◌, ℤ, List, length, count_by, Option, Some, None}
use Rattle.lt_isa.specs.declared.instructions.Instr.{Instr}
use Rattle.lt_isa.specs.declared.instructions.Instr.TheVariants.{Alu, Ldw, Stw}
use Rattle.src_tree.specs.Trees.{Statement, SetVariable, SetElement, Choice, Loop}
use Rattle.held_registers.specs.Held.{public_zero}
use Rattle.block_cache_gen.specs.Homes.{Home, Setting, home_of, slots_of_home, register_for}
use Rattle.block_cache_gen.specs.declared.frames.Mode.{Mode}
use Rattle.block_cache_gen.specs.Assignments.{by_mode}
use Rattle.block_cache_gen.specs.Codes.{fixed_index}

-- a read of the word that register 1 names, into register 0, counts as a store of it
abbrev pub counts_as_store : (rd ro : ℕ) → Bool
counts_as_store rd ro = ro == 1 && rd == 0

abbrev pub is_store : (once : Bool) → Instr → Bool
is_store once (Stw rs slot ro) = true
is_store once (Ldw rd slot ro) = counts_as_store rd ro && once
is_store once _ = false

-- how many there are among some instructions
abbrev pub stored_words : (once : Bool) → List Instr → ℕ
stored_words once code = count_by (is_store once) code

-- a register that holds a scalar or a number for the whole run is written
abbrev pub is_held_register : ℕ → Bool
is_held_register r = nat_lt public_zero r

abbrev pub is_write : (once : Bool) → Instr → Bool
is_write once (Stw rs slot ro) = true
is_write once (Ldw rd slot ro) = counts_as_store rd ro && once
is_write once (Alu op rd ra rb) = is_held_register rd
is_write once _ = false

abbrev pub written_words : (once : Bool) → List Instr → ℕ
written_words once code = count_by (is_write once) code

-- how many words of an element's array are stored: one of each of its slots if they hold it for the whole run, and the
-- index isn't a number that names the slot
abbrev pub stores_by : (resident : Bool) → Home → Option ℤ → ℕ
stores_by false h fixed = 1
stores_by true h (Some z) = 1
stores_by true h None = length (slots_of_home h)

abbrev pub stores_in : Home → Option ℤ → ℕ
stores_in h fixed = stores_by h.resident h fixed

-- how many words an assignment stores in a slot: none if a register holds its scalar for the whole run
abbrev pub set_stores : Setting → Statement → ℕ
set_stores f (SetVariable x e) = if is_some (register_for f x) then 0 else 1
set_stores f (SetElement x i e) = stores_in (home_of f x) (fixed_index (home_of f x) i)
set_stores f (Choice t a b) = 0
set_stores f (Loop t a) = 0

-- how many words it writes: one of a scalar, in its slot or its register, and those that it stores of an element's array
abbrev pub set_writes : Setting → Statement → ℕ
set_writes f (SetVariable x e) = 1
set_writes f (SetElement x i e) = set_stores f (SetElement x i e)
set_writes f (Choice t a b) = 0
set_writes f (Loop t a) = 0

-- How many words it writes in a mode: without effect it stores as many words, and writes no register that holds a scalar.
abbrev pub mode_writes : Mode → Setting → Statement → ℕ
mode_writes mode f s = by_mode mode (set_writes f s) (set_stores f s)
