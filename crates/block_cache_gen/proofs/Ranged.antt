-- What holds of a setting holds of it with other ranges too: only the code of an access depends on these. `ranged f
-- f.ranges` is `f`, so each lemma also leads back.
use Rattle.std.proofs.Common.{ℕ, List, inl, inr, ◌⊎◌}
use Rattle.gr_word.specs.declared.variables.Label.{Label}
use Rattle.lt_isa.specs.declared.instructions.Instr.{Instr}
use Rattle.lt_isa.specs.declared.symbols.Note.{Note}
use Rattle.lt_isa.specs.Prelude.{Parts, block_words, State}
use Rattle.src_tree.specs.Prelude.{Store, Tree, Number, Variable, Element, Operation, Test, Statement, SetVariable, SetElement, Choice, Loop, Block, Nothing, Then}
use Rattle.trace_patterns.specs.Prelude.{Known}
use Rattle.scalar_ranges.specs.Prelude.{Ranges}
use Rattle.held_registers.specs.Prelude.{IsSoundHeld}
use Rattle.block_cache_gen.specs.Prelude.{Held, Home, Pin, Setting, ranged, HasHomes, IsArrayHome, IsInOneBlock, IsPin, IsResidentHome, IsSpreadHome, Carries, HasPublicIndexes, TestHasPublicIndexes, StatementHasPublicIndexes, BlockHasPublicIndexes, FitsHomes, StandsFor}
use Rattle.block_cache_gen.proofs.RangesOfCode.{HomesFit}

module _ (f : Setting) (known : Ranges) where
  pub carries-ranged : (k : Known) → Carries f k → Carries (ranged f known) k
  carries-ranged k is = record {
    registers = is.registers;
    slots = is.slots;
    pinned = is.pinned;
    arrays = is.arrays;
    held = is.held;
  }

  pub fits-ranged : (store : Store) → FitsHomes f store → FitsHomes (ranged f known) store
  fits-ranged store is = record { count = is.count; lengths = is.lengths; all_words = is.all_words }

  pub stands-ranged : (s : State) (store : Store) → StandsFor f s store → StandsFor (ranged f known) s store
  stands-ranged s store is = record {
    pinned = is.pinned;
    residents = is.residents;
    arrays = is.arrays;
    bound = is.bound;
    current = is.current;
    held = is.held;
  }

  -- the public indexes
  pub tree-ranged : (e : Tree) → HasPublicIndexes f e → HasPublicIndexes (ranged f known) e
  tree-ranged (Number z) has = has
  tree-ranged (Variable x) has = has
  tree-ranged (Element x i) has = (has.0, tree-ranged i has.1)
  tree-ranged (Operation op a b) has = (tree-ranged a has.0, tree-ranged b has.1)

  pub test-ranged : (t : Test) → TestHasPublicIndexes f t → TestHasPublicIndexes (ranged f known) t
  test-ranged t has = (tree-ranged t.left has.0, tree-ranged t.right has.1)

  mutual
    pub statement-ranged : (s : Statement) → StatementHasPublicIndexes f s
        → StatementHasPublicIndexes (ranged f known) s
    statement-ranged (SetVariable x e) has = tree-ranged e has
    statement-ranged (SetElement x i e) has = (tree-ranged (Element x i) has.0, tree-ranged e has.1)
    statement-ranged (Choice t a b) has =
        (test-ranged t has.0, (block-ranged a has.1.0, block-ranged b has.1.1))
    statement-ranged (Loop t a) has = (test-ranged t has.0, block-ranged a has.1)

    pub block-ranged : (b : Block) → BlockHasPublicIndexes f b → BlockHasPublicIndexes (ranged f known) b
    block-ranged Nothing has = has
    block-ranged (Then s rest) has = (statement-ranged s has.0, block-ranged rest has.1)

-- Homes stay as they are in an object with other notes and other code, and in a setting with other ranges and other
-- registers that are held.
module _ (o : Parts) (f : Setting) (notes : List Note) (code : List Instr) (held : List Held) (known : Ranges) where
  abbrev pub other_object : Parts
  other_object = record o { notes = notes; code = code }

  abbrev pub other_setting : Setting
  other_setting = record f { held = held; ranges = known }

  spread-same : (w : ℕ) (label : Label) (h : Home) → IsSpreadHome f w label h → IsSpreadHome other_setting w label h
  spread-same w label h is = record { secret = is.secret; word = is.word; inside = is.inside; pinned = is.pinned }

  blocks-same : (w : ℕ) (label : Label) (h : Home) → IsInOneBlock w h ⊎ IsSpreadHome f w label h
      → IsInOneBlock w h ⊎ IsSpreadHome other_setting w label h
  blocks-same w label h (inl one) = inl one
  blocks-same w label h (inr spread) = inr (spread-same w label h spread)

  resident-same : (w : ℕ) (label : Label) (h : Home) → IsResidentHome f w label h → IsResidentHome other_setting w label h
  resident-same w label h is = record {
    bank = is.bank;
    pinned = is.pinned;
    length = is.length;
    blocks = blocks-same w label h is.blocks;
  }

  array-same : (label : Label) (h : Home) → IsArrayHome o f label h → IsArrayHome other_object other_setting label h
  array-same label h is = record {
    bank = is.bank;
    plain = is.plain;
    single = is.single;
    slot = is.slot;
    unpinned = is.unpinned;
    apart = is.apart;
    word = is.word;
    length = is.length;
    inside = is.inside;
  }

  pin-same : (slot : ℕ) (p : Pin) → IsPin o slot p → IsPin other_object slot p
  pin-same slot p is = record { few = is.few; apart = is.apart; bank = is.bank; block = is.block }

  pub homes-same : IsSoundHeld f.decls held → HasHomes o f → HasHomes other_object other_setting
  homes-same sound is = record {
    profile = is.profile;
    banks = is.banks;
    blocks = is.blocks;
    count = is.count;
    scalars = is.scalars;
    residents = λ x label shape declared resident.
        resident-same (block_words o) label _ (is.residents x label shape declared resident);
    arrays = λ x label declared other. array-same label _ (is.arrays x label declared other);
    pins = λ slot p pinned. pin-same slot p (is.pins slot p pinned);
    pins_apart = is.pins_apart;
    held = sound;
    apart = is.apart;
  }

pub homes-ranged : (o : Parts) (f : Setting) (known : Ranges) → HasHomes o f → HasHomes o (ranged f known)
homes-ranged o f known is = homes-same o f o.notes o.code f.held known is.held is

pub homes_fit-ranged : (banks : ℕ) (f : Setting) (known : Ranges) → HomesFit banks f → HomesFit banks (ranged f known)
homes_fit-ranged banks f known is =
    record { block_log = is.block_log; held = is.held; pins = is.pins; homes = is.homes }
