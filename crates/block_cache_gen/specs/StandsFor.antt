-- When a state of the machine represents a store of the source language. (GhostRider, ASPLOS 2015: the scratchpad as a
-- cache of blocks; this project's layout of compiled code.)
use Rattle.std.specs.Prelude.{◌≡◌, ℕ, ◌+◌, ◌*◌, ◌%◌, ◌<◌, ◌≤◌, true, false, ℤ, pos, List, length, slice_index_or, Some, None}
use Rattle.gr_base.specs.Lists.{Within}
use Rattle.gr_word.specs.Fitting.{AreWords}
use Rattle.gr_word.specs.declared.variables.Label.{Label}
use Rattle.gr_word.specs.declared.variables.Shape.{Shape}
use Rattle.gr_word.specs.declared.variables.Shape.TheVariants.{Array}
use Rattle.lt_isa.specs.Machine.{Slot, Bound, State, register, slot, block_at, word_in, slot_words}
use Rattle.lt_isa.specs.Outputs.{bank_word_numbered}
use Rattle.src_tree.specs.Contexts.{context_of}
use Rattle.src_tree.specs.Meaning.{Store, variable_number, words_of_number}
use Rattle.held_registers.specs.Held.{held_at, word_held}
use Rattle.block_cache_gen.specs.Homes.{Held, Home, Pin, Setting, register_for, pin_at, home_of, slot_of_word, words_a_block, start_of_home, end_of_home}

-- a slot holds a block
pub record HoldsBlock (bound : Slot) (bank block : ℕ) : Type 0 where
  pub words : List ℤ
  pub holds : bound ≡ Bound bank block words

-- a slot is bound to some block of a bank
pub record HoldsBank (bound : Slot) (bank : ℕ) : Type 0 where
  pub block : ℕ
  pub words : List ℤ
  pub holds : bound ≡ Bound bank block words

-- a block has a word of an array, where a block has w words
pub record IsBlockOf (w : ℕ) (h : Home) (block : ℕ) : Type 0 where
  pub begins : block * w < end_of_home w h
  pub behind : h.block ≤ block

-- the store has as many words for each variable as its home
pub record FitsHomes (f : Setting) (store : Store) : Type 0 where
  pub count : length store ≡ length f.decls
  pub lengths : (x : List ℕ) (label : Label) (shape : Shape) → context_of f.decls x ≡ Some (label, shape)
      → length (words_of_number store (variable_number f.decls x)) ≡ (home_of f x).length
  pub all_words : (n : ℕ) → AreWords (words_of_number store n)

-- Each pinned slot holds its block. The words of the resident variables are in these. The words of any other array are
-- in its bank. Each of the slots 2 to 5 that serves an array is bound to that array's bank. A slot that
-- is bound to a block of an array that it serves holds that block's words as the bank has them; another slot may hold
-- an old copy of a block that it never serves. A register that holds a scalar or a number has its word; the scalar's
-- block has it only at the end.
pub record StandsFor (f : Setting) (s : State) (store : Store) : Type 0 where
  pub pinned : (k : ℕ) (p : Pin) → pin_at f k ≡ Some p → HoldsBlock (slot s k) p.bank p.block
  pub residents : (x : List ℕ) (label : Label) (shape : Shape) (i : ℕ) → context_of f.decls x ≡ Some (label, shape)
      → (home_of f x).resident ≡ true → register_for f x ≡ None → i < (home_of f x).length
      → word_in (slot_words (slot s (slot_of_word f (home_of f x) ((home_of f x).word + i))))
      (((home_of f x).word + i) % words_a_block f)
      ≡ slice_index_or (words_of_number store (variable_number f.decls x)) i (pos 0)
  pub arrays : (x : List ℕ) (label : Label) (i : ℕ) → context_of f.decls x ≡ Some (label, Array)
      → (home_of f x).resident ≡ false → i < (home_of f x).length
      → bank_word_numbered (words_a_block f) s (home_of f x).bank (start_of_home (words_a_block f) (home_of f x) + i)
      ≡ slice_index_or (words_of_number store (variable_number f.decls x)) i (pos 0)
  pub bound : (x : List ℕ) (label : Label) → context_of f.decls x ≡ Some (label, Array)
      → (home_of f x).resident ≡ false → Within 2 5 (home_of f x).slot
      → HoldsBank (slot s (home_of f x).slot) (home_of f x).bank
  pub current : (x : List ℕ) (label : Label) (block : ℕ) (words : List ℤ)
      → context_of f.decls x ≡ Some (label, Array) → (home_of f x).resident ≡ false
      → slot s (home_of f x).slot ≡ Bound (home_of f x).bank block words
      → IsBlockOf (words_a_block f) (home_of f x) block
      → words ≡ block_at s (home_of f x).bank block
  pub held : (r : ℕ) (h : Held) → held_at f.held r ≡ Some h → register s r ≡ word_held store h
