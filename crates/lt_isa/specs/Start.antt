-- How a run starts, and which inputs agree. (This project's profile.)
use Rattle.std.specs.Prelude.{◌≡◌, ℕ, ◌+◌, ◌-◌, ◌*◌, Bool, ◌&&◌, ◌==◌, nat_le, nat_lt, if◌then◌else◌, ℤ, pos, List, [], ◌∷◌, length, map, replicate, Some, slice_get, slice_index_or}
use Rattle.std.specs.List.{range_with_len}
use Rattle.gr_word.specs.declared.variables.Label.TheVariants.{Public}
use Rattle.gr_word.specs.declared.variables.Want.{Want}
use Rattle.gr_word.specs.Fitting.{FitsWants}
use Rattle.lt_isa.specs.declared.symbols.Symbol.{Symbol}
use Rattle.lt_isa.specs.Object.{Parts, block_words, blocks_of, first_word, end_word}
use Rattle.lt_isa.specs.Machine.{State, Unbound}
use Rattle.lt_isa.specs.Trace.{Stamped, trace_from, final_from}

-- what the inputs of an object must fit: one variable for each symbol
abbrev pub want_of : Symbol → Want
want_of s = record { name = s.name; label = s.label; shape = s.shape; length = s.length }

abbrev pub wants_of : Parts → List Want
wants_of o = map want_of o.symbols

abbrev pub FitsObject : Parts → List (List ℤ) → Type 0
FitsObject o inputs = FitsWants (wants_of o) inputs

-- the symbol takes word number i of bank b, if a block has w words
abbrev pub covers : ℕ → Symbol → ℕ → ℕ → Bool
covers w s b i = (s.bank == b) && (nat_le (first_word w s) i && nat_lt i (end_word w s))

-- word number i of bank b at the start: the word of the symbol that takes it, or 0 if no symbol does
unfoldable pub start_word : ℕ → List Symbol → List (List ℤ) → ℕ → ℕ → ℤ
start_word w [] inputs b i = pos 0
start_word w (s ∷ symbols) [] b i = pos 0
start_word w (s ∷ symbols) (words ∷ inputs) b i =
    if covers w s b i then slice_index_or words (i - first_word w s) (pos 0) else start_word w symbols inputs b i

-- block a of bank b at the start, and the whole bank
unfoldable pub start_block : Parts → List (List ℤ) → ℕ → ℕ → List ℤ
start_block o inputs b a =
    let w = block_words o in map (λ i. start_word w o.symbols inputs b (a * w + i)) (range_with_len 0 w)

unfoldable pub start_bank : Parts → List (List ℤ) → ℕ → List (List ℤ)
start_bank o inputs b = map (start_block o inputs b) (range_with_len 0 (blocks_of o b))

unfoldable pub start_banks : Parts → List (List ℤ) → List (List (List ℤ))
start_banks o inputs = map (start_bank o inputs) (range_with_len 0 (length o.banks))

-- place 0, cycle 0, registers 0, slots unbound, and the inputs at their places
unfoldable pub start_state : Parts → List (List ℤ) → State
start_state o inputs = record {
  registers = replicate 32 (pos 0);
  slots = replicate 8 Unbound;
  banks = start_banks o inputs;
  place = 0;
  cycle = 0;
}

-- the trace of a run on inputs, and the state that the run leaves
abbrev pub trace : Parts → List (List ℤ) → ℕ → List Stamped
trace o inputs n = trace_from o (start_state o inputs) n

abbrev pub final : Parts → List (List ℤ) → ℕ → State
final o inputs n = final_from o (start_state o inputs) n

-- two inputs have the same words for each public symbol
abbrev pub AgreeOn : List Symbol → List (List ℤ) → List (List ℤ) → Type 0
AgreeOn symbols ds es =
    (k : ℕ) (s : Symbol) → slice_get symbols k ≡ Some s → s.label ≡ Public → slice_get ds k ≡ slice_get es k

-- both fit the object, and they have the same words for each public symbol
pub record Agree (o : Parts) (d e : List (List ℤ)) : Type 0 where
  pub first_fits : FitsObject o d
  pub second_fits : FitsObject o e
  pub public_words : AgreeOn o.symbols d e
