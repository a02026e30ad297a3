-- Where a symbol may be, field by field.
use Rattle.std.proofs.Common.{◌≡◌, ℕ, ◌+◌, ◌-◌, ◌*◌, ◌≤◌, ◌<◌, eqb, List, [], length, take, arith}
use Rattle.std.proofs.lemmas.Bool.{eqb-true, eq-eqb, cond_both, cond-true}
use Rattle.gr_word.specs.declared.variables.Shape.{Shape}
use Rattle.gr_word.specs.declared.variables.Shape.TheVariants.{Scalar, Array}
use Rattle.gr_base.specs.Prelude.{Within, EachAfter}
use Rattle.gr_base.proofs.EachAfter.{EachBelow-from_after}
use Rattle.lt_isa.specs.declared.profiles.BankSpec.{BankSpec}
use Rattle.lt_isa.specs.declared.symbols.Symbol.{Symbol}
use Rattle.lt_isa.specs.Prelude.{most_blocks, most_words, no_bank, first_word, BankFits, LiesBehind, FieldsFit, last_bank, last_end, blocks_in, first_free_word, most_length}

-- a symbol's words are within the limit for any shape
pub most_words-le : (shape : Shape) → most_words shape ≤ 1048576
most_words-le Scalar = omega arith
most_words-le Array = omega arith

-- a bank has no more blocks than the greatest limit
pub most_blocks-le : (index : ℕ) → most_blocks index ≤ 65536
most_blocks-le index = grind arith

-- a bank of an object has blocks
pub blocks_in-banks : (banks : List BankSpec) → EachAfter BankFits [] banks → (b : ℕ) → b < length banks
    → Within 1 65536 (blocks_in banks b)
blocks_in-banks banks each b lt =
    let fits = (EachBelow-from_after BankFits banks each b no_bank lt).blocks in
    (fits.0, omega (arith, fits.1, most_blocks-le (length (take b banks))))

-- a symbol in the bank of the symbol before it begins after that one's end
pub apart_from : (w : ℕ) (before : List Symbol) (bank block word : ℕ) → first_free_word w before bank block ≤ word
    → bank ≡ last_bank before → last_end w before ≤ block * w + word
unfolding first_free_word
apart_from w before bank block word le same =
    let here = cond-true (eqb bank (last_bank before)) (last_end w before - block * w) 0 (eq-eqb _ _ same) in
    omega (arith, here, le)

pub from_apart : (w : ℕ) (before : List Symbol) (bank block word : ℕ)
    → (bank ≡ last_bank before → last_end w before ≤ block * w + word) → first_free_word w before bank block ≤ word
unfolding first_free_word
from_apart w before bank block word apart =
    cond_both (eqb bank (last_bank before)) (last_end w before - block * w) 0 (λ n. n ≤ word)
    (λ same. omega (arith, apart (eqb-true _ _ same))) (λ _. omega arith)

-- a length that both the shape and the bank allow
pub record LengthFits (w : ℕ) (banks : List BankSpec) (shape : Shape) (bank start length : ℕ) : Type 0 where
  pub of_shape : Within 1 (most_words shape) length
  pub inside : start + length ≤ blocks_in banks bank * w

pub length_from : (w : ℕ) (banks : List BankSpec) (shape : Shape) (bank start length : ℕ)
    → Within 1 (most_length w banks shape bank start) length → LengthFits w banks shape bank start length
unfolding most_length
length_from w banks shape bank start length h =
    record { of_shape = (h.0, omega (arith, h.1)); inside = omega (arith, h.0, h.1) }

pub from_length : (w : ℕ) (banks : List BankSpec) (shape : Shape) (bank start length : ℕ)
    → LengthFits w banks shape bank start length → Within 1 (most_length w banks shape bank start) length
unfolding most_length
from_length w banks shape bank start length h = (h.of_shape.0, omega (arith, h.of_shape.1, h.inside))

-- the most words of a symbol are within the limit
pub most_length-le : (w : ℕ) (banks : List BankSpec) (shape : Shape) (bank start : ℕ)
    → most_length w banks shape bank start ≤ 1048576
unfolding most_length
most_length-le w banks shape bank start = omega (arith, most_words-le shape)

-- a symbol may have its place if each of its fields is in its range
pub lies_by_fields : (w : ℕ) (banks : List BankSpec) (before : List Symbol) (s : Symbol)
    → FieldsFit w banks before s → LiesBehind w banks before s
lies_by_fields w banks before s fields =
    let size = length_from w banks s.shape s.bank (first_word w s) s.length fields.length in
    record {
      order = fields.order;
      bank = fields.bank;
      block = fields.block;
      word = fields.word;
      apart = apart_from w before s.bank s.block s.word fields.free;
      length = size.of_shape;
      inside = size.inside;
    }

-- the fields of a symbol that may have its place are in their ranges
pub fields_of_lies : (w : ℕ) (banks : List BankSpec) (before : List Symbol) (s : Symbol)
    → LiesBehind w banks before s → FieldsFit w banks before s
fields_of_lies w banks before s lies =
    let size : LengthFits w banks s.shape s.bank (first_word w s) s.length =
    record { of_shape = lies.length; inside = lies.inside } in
    record {
      order = lies.order;
      bank = lies.bank;
      block = lies.block;
      free = from_apart w before s.bank s.block s.word lies.apart;
      word = lies.word;
      length = from_length w banks s.shape s.bank (first_word w s) s.length size;
    }
