-- The values of the trees that name a block of a bank and a word of a block, and what slots hold by their trees.
use Rattle.std.proofs.Common.{◌≡◌, ℕ, ◌<◌, ℤ, pos, List, length, Option, Some, None, refl, sym, ap, ◌∙◌, arith}
use Rattle.std.proofs.lemmas.Nat.{pow_pos, pow_below}
use Rattle.gr_word.specs.declared.operations.Op.{Op}
use Rattle.gr_word.specs.Prelude.{applied}
use Rattle.gr_word.proofs.SmallNumbers.{remu_small}
use Rattle.lt_isa.specs.Prelude.{Parts, blocks_of, block_words, IsInRange, Slot, Bound, State, slot, word_in, block_at, slot_words, block_named, word_named}
use Rattle.lt_isa.proofs.Cycles.{blocks-least, blocks-most}
use Rattle.symbolic_values.specs.Prelude.{Value, Apply, as_number, value_of}
use Rattle.trace_patterns.specs.Prelude.{Origin, Entry, Loaded, SymSlot, AnySlot, RamSlot, EramSlot, OramSlot, named_block, named_word, word_tree, applied_trees, block_held, word_held}
use Rattle.lt_checker.proofs.HeldAnew.{no_tree}
use Rattle.lt_checker.proofs.Singles.{IsKnown, IsHidden}
use Rattle.lt_checker.proofs.Described.{origin_words, Holds}

-- the value of the tree of a block's number
pub named_block-value : (o : Parts) → IsInRange o → (e : State) (b : ℕ) (t : Value) (word : ℤ) → b < length o.banks
    → word ≡ value_of e t → value_of e (named_block o b t) ≡ pos (block_named o b word)
named_block-value o fits e b t word exists is =
    remu_small (value_of e t) (blocks_of o b) (blocks-least o fits b exists)
    (omega (arith, blocks-most o fits b exists)) ∙ ap (λ (v : ℤ). pos (block_named o b v)) (sym is)

pub named_word-value : (o : Parts) → IsInRange o → (e : State) (t : Value) (word : ℤ) → word ≡ value_of e t
    → value_of e (named_word o t) ≡ pos (word_named o word)
named_word-value o fits e t word is =
    let some = pow_pos o.profile.block_log in
    let few = pow_below o.profile.block_log 63 (omega (arith, fits.profile.block_log.1)) in
    remu_small (value_of e t) (block_words o) (omega arith) few ∙ ap (λ (v : ℤ). pos (word_named o v)) (sym is)

-- the value of the tree of an operation, if both operands have trees
pub applied_trees-value : (e : State) (op : Op) (x y : Option Value) (a b : ℤ)
    → ((t : Value) → x ≡ Some t → a ≡ value_of e t) → ((t : Value) → y ≡ Some t → b ≡ value_of e t) → (t : Value)
    → applied_trees op x y ≡ Some t → applied op a b ≡ value_of e t
applied_trees-value e op (Some x) (Some y) a b left right t is =
    let same : Apply op x y ≡ t = cc in
    ap (λ (v : ℤ). applied op v b) (left x refl) ∙ ap (applied op (value_of e x)) (right y refl) ∙ ap (value_of e) same
applied_trees-value e op None y a b left right t is = no_tree t is
applied_trees-value e op (Some x) None a b left right t is = no_tree t is

-- a slot about which something is known is bound; the trees of its block's number and of its words have the right
-- values
pub record Found (o : Parts) (e : State) (known : SymSlot) (x : Slot) : Type 0 where
  pub bank : ℕ
  pub at : ℕ
  pub words : List ℤ
  pub bound : x ≡ Bound bank at words
  pub block : (t : Value) → block_held known ≡ Some t → pos at ≡ value_of e t
  pub word : (place : Option Value) (a : ℤ) → ((t : Value) → place ≡ Some t → a ≡ value_of e t) → (t : Value)
      → word_held o known place ≡ Some t → word_in words (word_named o a) ≡ value_of e t

origin_word : (o : Parts) → IsInRange o → (e : State) (block : Value) (origin : Origin) (at : ℕ) (place : Value) (a : ℤ)
    → value_of e block ≡ pos at → a ≡ value_of e place
    → word_in (origin_words e at origin) (word_named o a) ≡ value_of e (word_tree origin block (named_word o place))
origin_word o fits e block (Entry j) at place a value is =
    ap (λ (v : ℤ). word_in (slot_words (slot e j)) (as_number v)) (sym (named_word-value o fits e place a is))
origin_word o fits e block Loaded at place a value is =
    ap (λ (v : ℤ). word_in (block_at e 0 at) (as_number v)) (sym (named_word-value o fits e place a is))
    ∙ ap (λ (v : ℤ). word_in (block_at e 0 (as_number v)) (as_number (value_of e (named_word o place)))) (sym value)

ram_word : (o : Parts) → IsInRange o → (e : State) (block : Value) (origin : Origin) (at : ℕ) → value_of e block
    ≡ pos at
    → (place : Option Value) (a : ℤ) → ((t : Value) → place ≡ Some t → a ≡ value_of e t) → (t : Value)
    → word_held o (RamSlot block origin) place ≡ Some t
    → word_in (origin_words e at origin) (word_named o a) ≡ value_of e t
ram_word o fits e block origin at value None a is t held = no_tree t held
ram_word o fits e block origin at value (Some place) a is t held =
    let same : word_tree origin block (named_word o place) ≡ t = cc in
    origin_word o fits e block origin at place a value (is place refl) ∙ ap (value_of e) same

-- a slot about which something is known is bound
pub found_by : (o : Parts) → IsInRange o → (e : State) (known : SymSlot) (x : Slot) → IsKnown known → Holds e known x
    → Found o e known x
found_by o fits e AnySlot x is h = absurd is
found_by o fits e (RamSlot block origin) x is h = record {
  bank = 0;
  at = h.at;
  words = origin_words e h.at origin;
  bound = h.bound;
  block = λ t held. let same : block ≡ t = cc in sym h.value ∙ ap (value_of e) same;
  word = ram_word o fits e block origin h.at h.value;
}
found_by o fits e (EramSlot block) x is h = record {
  bank = 1;
  at = h.at;
  words = h.words;
  bound = h.bound;
  block = λ t held. let same : block ≡ t = cc in sym h.value ∙ ap (value_of e) same;
  word = λ place a value t held. no_tree t held;
}
found_by o fits e (OramSlot bank) x is h = record {
  bank = bank;
  at = h.at;
  words = h.words;
  bound = h.bound;
  block = λ t held. no_tree t held;
  word = λ place a value t held. no_tree t held;
}

-- a slot that isn't bound to plain memory is described with any words
pub record Rebound (e : State) (known : SymSlot) (x : Slot) : Type 0 where
  pub bank : ℕ
  pub at : ℕ
  pub words : List ℤ
  pub bound : x ≡ Bound bank at words
  pub holds : (others : List ℤ) → Holds e known (Bound bank at others)

-- a slot whose block an arm may store is described with any words
pub rebound_by : (e : State) (known : SymSlot) (x : Slot) → IsHidden known → Holds e known x → Rebound e known x
rebound_by e AnySlot x is h = absurd is
rebound_by e (RamSlot block origin) x is h = absurd is
rebound_by e (EramSlot block) x is h = record {
  bank = 1;
  at = h.at;
  words = h.words;
  bound = h.bound;
  holds = λ others. record { at = h.at; words = others; value = h.value; bound = refl };
}
rebound_by e (OramSlot bank) x is h = record {
  bank = bank;
  at = h.at;
  words = h.words;
  bound = h.bound;
  holds = λ others. record { at = h.at; words = others; bound = refl; hidden = h.hidden };
}
