-- What code is made for: a program's variables with their homes, each a place in a bank and the slot of the scratchpad
-- that serves it. (This project's layout of compiled code.)
use Rattle.std.specs.Prelude.{◌≡◌, ◌↔◌, ℕ, ◌+◌, ◌-◌, ◌*◌, ◌/◌, ◌^◌, ◌<◌, ◌≤◌, ◌⊎◌, ◌≢◌, Bool, true, false, List, [], ◌∷◌, length, take, slice_index_or, Option, Some, None}
use Rattle.gr_base.specs.Lists.{Within}
use Rattle.gr_word.specs.declared.variables.Label.{Label}
use Rattle.gr_word.specs.declared.variables.Label.TheVariants.{Public, Secret}
use Rattle.gr_word.specs.declared.variables.Shape.{Shape}
use Rattle.gr_word.specs.declared.variables.Shape.TheVariants.{Scalar, Array}
use Rattle.lt_isa.specs.declared.profiles.Profile.{Profile}
use Rattle.lt_isa.specs.Object.{Parts, block_words, blocks_of}
use Rattle.src_tree.specs.declared.trees.Decl.{Decl}
use Rattle.src_tree.specs.Contexts.{context_of}
use Rattle.src_tree.specs.Limits.{max_length}
use Rattle.src_tree.specs.Meaning.{variable_number}
use Rattle.bank_alloc.specs.Apart.{scalar_bank}
use Rattle.held_registers.specs.Held.{held_at, label_held, register_of_scalar, IsSoundHeld}
use Rattle.scalar_ranges.specs.Ranges.{Ranges}
pub use Rattle.held_registers.specs.declared.registers.Held.{Held}
pub use Rattle.scratch_alloc.specs.declared.plans.Pin.{Pin}
pub use Rattle.scratch_alloc.specs.Plans.{pin_to, Serves, PlainSlot, EncryptedSlot, ObliviousSlot}

-- A bank, a block of it and a word of that block, a number of words, a slot, and whether that slot holds the block for
-- the whole run. If the words need further blocks that slots hold for the whole run, these are the slots, in order.
pub record Home : Type 0 where
  pub bank : ℕ
  pub block : ℕ
  pub word : ℕ
  pub length : ℕ
  pub slot : ℕ
  pub resident : Bool
  pub more : List ℕ

-- The declarations with a home for each, in order; the number of blocks of each bank; the pin of each slot, none where
-- it holds other blocks in turn; the machine's profile; whether an operation with a constant is replaced by steps; and
-- what is known of the store at the place of the code.
pub record Setting : Type 0 where
  pub decls : List Decl
  pub homes : List Home
  pub blocks : List ℕ
  pub pins : List (Option Pin)
  pub held : List Held
  pub profile : Profile
  pub reduces : Bool
  pub ranges : Ranges

-- the same for code at a place where other ranges are known
abbrev pub ranged : Setting → Ranges → Setting
ranged f known = record f { ranges = known }

-- the default home, of a name that isn't declared
abbrev pub no_home : Home
no_home = record { bank = 0; block = 0; word = 0; length = 0; slot = 0; resident = false; more = [] }

-- the home of the variable that a name refers to
abbrev pub home_of : Setting → List ℕ → Home
home_of f x = slice_index_or f.homes (variable_number f.decls x) no_home

-- the words of a block, and the blocks of bank b
abbrev pub words_a_block : Setting → ℕ
words_a_block f = 2 ^ f.profile.block_log

abbrev pub blocks_set : Setting → ℕ → ℕ
blocks_set f b = slice_index_or f.blocks b 0

-- the slots of a home's blocks after the first one, of which there are four at most, and of all its blocks
abbrev pub further_slots : Home → List ℕ
further_slots h = take 4 h.more

abbrev pub slots_of_home : Home → List ℕ
slots_of_home h = h.slot ∷ (further_slots h)

-- the slot of the block that has word number n from the first word of the first block on
abbrev pub slot_of_word : Setting → Home → ℕ → ℕ
slot_of_word f h n = slice_index_or (slots_of_home h) (n / words_a_block f) h.slot

-- the block that a slot is pinned to
abbrev pub pin_at : Setting → ℕ → Option Pin
pin_at f slot = slice_index_or f.pins slot None

-- the register that holds a scalar for the whole run, None if none does
abbrev pub register_for : Setting → List ℕ → Option ℕ
register_for f x = register_of_scalar f.held (variable_number f.decls x)

-- The first register that the code of expressions leaves as it is: register 19 if registers from there on hold
-- something for the whole run, and register 28 if none does. Code that leaves the value of an expression in a register
-- uses registers from this one on, two more than the expression's height. So the sum of that register's number and the
-- height may be as great as the room.
abbrev pub first_kept : Setting → ℕ
first_kept f = 19 + (9 - 9 * length f.held)

abbrev pub room_of : Setting → ℕ
room_of f = 17 + (9 - 9 * length f.held)

-- the label that a register has for the whole run, None if it holds nothing for the whole run
abbrev pub label_by : List Decl → Option Held → Option Label
label_by decls None = None
label_by decls (Some h) = label_held decls h

abbrev pub held_label : Setting → ℕ → Option Label
held_label f r = label_by f.decls (held_at f.held r)

-- the block of a home, as a pin
abbrev pub pin_of : Home → Pin
pin_of h = record { bank = h.bank; block = h.block }

-- a pinned block is in plain or encrypted memory; slot 6 is never pinned
pub record IsPin (o : Parts) (slot : ℕ) (p : Pin) : Type 0 where
  pub few : slot < 8
  pub apart : slot ≢ 6
  pub bank : p.bank < 2
  pub block : p.block < blocks_of o p.bank

-- no block is pinned to two slots
abbrev pub PinsApart : Setting → Type 0
PinsApart f =
    (j k : ℕ) (p q : Pin) → pin_at f j ≡ Some p → pin_at f k ≡ Some q → p.bank ≡ q.bank → p.block ≡ q.block → j ≡ k

-- A resident variable is within the block that its slot is pinned to. A secret array may need up to four blocks more,
-- from the first word of the first block on.
pub record IsInOneBlock (w : ℕ) (h : Home) : Type 0 where
  pub single : (further_slots h) ≡ []
  pub inside : h.word + h.length ≤ w

pub record IsSpreadHome (f : Setting) (w : ℕ) (label : Label) (h : Home) : Type 0 where
  pub secret : label ≡ Secret
  pub word : h.word ≡ 0
  pub inside : h.length ≤ (1 + length (further_slots h)) * w
  pub pinned : (j : ℕ) → j < length (further_slots h)
      → pin_at f (slice_index_or (further_slots h) j 0) ≡ Some (pin_to h.bank (h.block + (1 + j)))

pub record IsResidentHome (f : Setting) (w : ℕ) (label : Label) (h : Home) : Type 0 where
  pub bank : h.bank ≡ scalar_bank label
  pub pinned : pin_at f h.slot ≡ Some (pin_of h)
  pub length : Within 1 max_length h.length
  pub blocks : IsInOneBlock w h ⊎ IsSpreadHome f w label h

-- a scalar is a resident variable of one word
pub record IsScalarHome (h : Home) : Type 0 where
  pub resident : h.resident ≡ true
  pub single : (further_slots h) ≡ []
  pub length : h.length ≡ 1

-- any other array has whole blocks of its own, none of which is pinned to a slot
pub record IsArrayHome (o : Parts) (f : Setting) (label : Label) (h : Home) : Type 0 where
  pub bank : h.bank < length o.banks
  pub plain : (h.bank ≡ 0) ↔ (label ≡ Public)
  pub single : (further_slots h) ≡ []
  pub slot : Serves h.bank h.slot
  pub unpinned : pin_at f h.slot ≡ None
  pub apart : (slot : ℕ) (p : Pin) → pin_at f slot ≡ Some p → p.bank ≡ h.bank
      → (p.block < h.block) ⊎ (h.block * block_words o + h.length ≤ p.block * block_words o)
  pub word : h.word ≡ 0
  pub length : Within 1 max_length h.length
  pub inside : h.block * block_words o + h.length ≤ blocks_of o h.bank * block_words o

-- the first word of a home in its bank, if a block has w words, and the word after its last
abbrev pub start_of_home : ℕ → Home → ℕ
start_of_home w h = h.block * w + h.word

abbrev pub end_of_home : ℕ → Home → ℕ
end_of_home w h = start_of_home w h + h.length

-- two homes in one bank have no word in common
abbrev pub HomesApart : ℕ → Home → Home → Type 0
HomesApart w g h =
    g.bank ≡ h.bank → (end_of_home w g ≤ start_of_home w h) ⊎ (end_of_home w h ≤ start_of_home w g)

-- an object has the homes of a setting
pub record HasHomes (o : Parts) (f : Setting) : Type 0 where
  pub profile : o.profile ≡ f.profile
  pub banks : length f.blocks ≡ length o.banks
  pub blocks : (b : ℕ) → b < length o.banks → blocks_of o b ≡ blocks_set f b
  pub count : length f.homes ≡ length f.decls
  pub scalars : (x : List ℕ) (label : Label) → context_of f.decls x ≡ Some (label, Scalar)
      → IsScalarHome (home_of f x)
  pub residents : (x : List ℕ) (label : Label) (shape : Shape) → context_of f.decls x ≡ Some (label, shape)
      → (home_of f x).resident ≡ true → IsResidentHome f (block_words o) label (home_of f x)
  pub arrays : (x : List ℕ) (label : Label) → context_of f.decls x ≡ Some (label, Array)
      → (home_of f x).resident ≡ false → IsArrayHome o f label (home_of f x)
  pub pins : (slot : ℕ) (p : Pin) → pin_at f slot ≡ Some p → IsPin o slot p
  pub pins_apart : PinsApart f
  pub held : IsSoundHeld f.decls f.held
  pub apart : (u v : ℕ) → u < length f.homes → v < length f.homes → ¬ (u ≡ v)
      → HomesApart (block_words o) (slice_index_or f.homes u no_home) (slice_index_or f.homes v no_home)
