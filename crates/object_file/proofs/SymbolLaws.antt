-- The laws of reading symbols.
use Rattle.std.proofs.Common.{◌≡◌, ℕ, zero, suc, ◌+◌, ◌-◌, ◌*◌, ◌^◌, ◌<◌, ◌≤◌, List, [], ◌++◌, length, Ok, refl, sym, subst, append_assoc, arith}
use Rattle.gr_word.specs.declared.variables.Label.{Label}
use Rattle.gr_word.specs.declared.variables.Label.TheVariants.{Public, Secret}
use Rattle.gr_word.specs.declared.variables.Shape.{Shape}
use Rattle.gr_word.specs.declared.variables.Shape.TheVariants.{Scalar, Array}
use Rattle.lt_isa.specs.declared.profiles.BankSpec.{BankSpec}
use Rattle.lt_isa.specs.declared.symbols.Symbol.{Symbol}
use Rattle.lt_isa.specs.Prelude.{first_word, last_bank, blocks_in, first_free_word, most_length, SymbolFits, total_length}
use Rattle.gr_base.specs.Prelude.{Within, EachAfter, is_within}
use Rattle.lt_isa.proofs.SymbolPlaces.{most_length-le, lies_by_fields, fields_of_lies}
use Rattle.object_file.specs.Prelude.{number, listed, symbol, label_code, shape_code, label_numbered, shape_numbered, most_length_behind, field_at, symbol_at, symbols_at}
use Rattle.object_file.proofs.Numbers.{IsBytes}
use Rattle.gr_base.proofs.Results.{IfRead, read_ok, read_then}
use Rattle.object_file.proofs.Readers.{Takes, Takes-then, Found, IsReader, range}
use Rattle.object_file.proofs.ListLaws.{list}
use Rattle.object_file.proofs.NameLaws.{names}

-- the memory of symbols: blocks of w words, and banks of few blocks
pub record IsMemory (w : ℕ) (banks : List BankSpec) : Type 0 where
  pub words : Within 1 512 w
  pub count : Within 2 10 (length banks)
  pub blocks : (b : ℕ) → b < length banks → Within 1 65536 (blocks_in banks b)

-- codes of labels and shapes

label_code-label_of : (n : ℕ) → n ≤ 1 → label_code (label_numbered n) ≡ n
label_code-label_of zero h = refl
label_code-label_of (suc zero) h = refl
label_code-label_of (suc (suc n)) h = absurd (omega arith)

shape_code-shape_of : (n : ℕ) → n ≤ 1 → shape_code (shape_numbered n) ≡ n
shape_code-shape_of zero h = refl
shape_code-shape_of (suc zero) h = refl
shape_code-shape_of (suc (suc n)) h = absurd (omega arith)

label_of-label_code : (l : Label) → label_numbered (label_code l) ≡ l
label_of-label_code Public = refl
label_of-label_code Secret = refl

shape_of-shape_code : (s : Shape) → shape_numbered (shape_code s) ≡ s
shape_of-shape_code Scalar = refl
shape_of-shape_code Array = refl

label_code-le : (l : Label) → Within 0 1 (label_code l)
label_code-le Public = (omega arith, omega arith)
label_code-le Secret = (omega arith, omega arith)

shape_code-le : (s : Shape) → Within 0 1 (shape_code s)
shape_code-le Scalar = (omega arith, omega arith)
shape_code-le Array = (omega arith, omega arith)

-- a symbol's length

record RoomFits (w : ℕ) (banks : List BankSpec) (before : List Symbol) (shape : Shape)
    (bank start length : ℕ) : Type 0 where
  pub size : Within 1 (most_length w banks shape bank start) length
  pub total : total_length before + length ≤ 4194304

room_from : (w : ℕ) (banks : List BankSpec) (before : List Symbol) (shape : Shape) (bank start length : ℕ)
    → Within 1 (most_length_behind w banks before shape bank start) length
    → RoomFits w banks before shape bank start length
unfolding most_length_behind
room_from w banks before shape bank start length h =
    record { size = (h.0, omega (arith, h.1)); total = omega (arith, h.0, h.1) }

from_room : (w : ℕ) (banks : List BankSpec) (before : List Symbol) (shape : Shape) (bank start length : ℕ)
    → RoomFits w banks before shape bank start length
    → Within 1 (most_length_behind w banks before shape bank start) length
unfolding most_length_behind
from_room w banks before shape bank start length h = (h.size.0, omega (arith, h.size.1, h.total))

most_length_behind-lt : (w : ℕ) (banks : List BankSpec) (before : List Symbol) (shape : Shape) (bank start : ℕ)
    → most_length_behind w banks before shape bank start < 256 ^ 4
unfolding most_length_behind
most_length_behind-lt w banks before shape bank start = omega (arith, most_length-le w banks shape bank start)

label_takes : (bytes : List ℕ) (x : ℕ × List ℕ) → Found (number 1) (Within 0 1) bytes x
    → Takes bytes (number 1 (label_code (label_numbered x.0))) x.1
label_takes bytes x found = subst (λ n. Takes bytes (number 1 n) x.1) (sym (label_code-label_of x.0 found.1.1)) found.0

shape_takes : (bytes : List ℕ) (x : ℕ × List ℕ) → Found (number 1) (Within 0 1) bytes x
    → Takes bytes (number 1 (shape_code (shape_numbered x.0))) x.1
shape_takes bytes x found = subst (λ n. Takes bytes (number 1 n) x.1) (sym (shape_code-shape_of x.0 found.1.1)) found.0

module _ (w : ℕ) (banks : List BankSpec) (all : ℕ) (before : List Symbol) (memory : IsMemory w banks) where
  codes : IsReader (field_at 1 all (is_within 0 1)) (number 1) (Within 0 1)
  codes = range 1 all 0 1 (omega arith)

  of_bank : IsReader (field_at 1 all (is_within (last_bank before) (length banks - 1))) (number 1)
      (Within (last_bank before) (length banks - 1))
  of_bank = range 1 all (last_bank before) (length banks - 1) (omega (arith, memory.count.1))

  has_blocks : (bank : ℕ) → bank ≤ length banks - 1 → Within 1 65536 (blocks_in banks bank)
  has_blocks bank le = memory.blocks bank (omega (arith, le, memory.count.0))

  of_block : (bank : ℕ) → bank ≤ length banks - 1
      → IsReader (field_at 4 all (is_within 0 (blocks_in banks bank - 1))) (number 4)
      (Within 0 (blocks_in banks bank - 1))
  of_block bank le = range 4 all 0 (blocks_in banks bank - 1) (omega (arith, has_blocks bank le))

  of_word : (bank block : ℕ) → IsReader (field_at 2 all (is_within (first_free_word w before bank block) (w - 1)))
      (number 2)
      (Within (first_free_word w before bank block) (w - 1))
  of_word bank block = range 2 all (first_free_word w before bank block) (w - 1) (omega (arith, memory.words.1))

  of_length : (shape : Shape) (bank start : ℕ)
      → IsReader (field_at 4 all (is_within 1 (most_length_behind w banks before shape bank start))) (number 4)
      (Within 1 (most_length_behind w banks before shape bank start))
  of_length shape bank start =
      range 4 all 1 (most_length_behind w banks before shape bank start)
      (most_length_behind-lt w banks before shape bank start)

  symbol_reads : (bytes : List ℕ) → IsBytes bytes
      → IfRead (symbol_at w banks all before bytes) (Found symbol (SymbolFits w banks before) bytes)
  unfolding symbol_at
  symbol_reads bytes fits =
      read_then _ _ _ _ ((names all before).reads bytes fits) (λ name a.
      read_then _ _ _ _ (codes.reads name.1 a.0.rest_fits) (λ label b.
      read_then _ _ _ _ (codes.reads label.1 b.0.rest_fits) (λ shape c.
      read_then _ _ _ _ (of_bank.reads shape.1 c.0.rest_fits) (λ bank d.
      read_then _ _ _ _ ((of_block bank.0 d.1.1).reads bank.1 d.0.rest_fits) (λ block e.
      read_then _ _ _ _ ((of_word bank.0 block.0).reads block.1 e.0.rest_fits) (λ word f.
      read_then _ _ _ _ ((of_length (shape_numbered shape.0) bank.0 (block.0 * w + word.0)).reads word.1 f.0.rest_fits)
      (λ length g.
      let room = room_from w banks before (shape_numbered shape.0) bank.0 (block.0 * w + word.0) length.0 g.1 in
      read_ok _ _ (
        Takes-then (Takes-then (Takes-then (Takes-then
            (Takes-then (Takes-then a.0 (label_takes name.1 label b)) (shape_takes label.1 shape c)) d.0) e.0) f.0) g.0,
        record {
          name = a.1.name;
          new = a.1.new;
          lies = lies_by_fields w banks before _ (record {
            order = d.1.0;
            bank = omega (arith, d.1.1, memory.count.0);
            block = omega (arith, e.1.1, has_blocks bank.0 d.1.1);
            free = f.1.0;
            word = omega (arith, f.1.1, memory.words.0);
            length = room.size;
          });
          total = room.total;
        },
      ))))))))

  symbol_again : (s : Symbol) (rest : List ℕ) → SymbolFits w banks before s
      → symbol_at w banks all before (symbol s ++ rest) ≡ Ok (s, rest)
  unfolding symbol_at
  symbol_again s rest h =
      let start = first_word w s in
      let lies = fields_of_lies w banks before s h.lies in
      let bank : Within (last_bank before) (length banks - 1) s.bank = (lies.order, omega (arith, lies.bank)) in
      let room =
      from_room w banks before s.shape s.bank start s.length (record { size = lies.length; total = h.total }) in
      simp append_assoc (rw (
        (names all before).again s.name _ (record { name = h.name; new = h.new }),
        codes.again (label_code s.label) _ (label_code-le s.label),
        codes.again (shape_code s.shape) _ (shape_code-le s.shape),
        of_bank.again s.bank _ bank,
        (of_block s.bank bank.1).again s.block _ (omega arith, omega (arith, lies.block)),
        (of_word s.bank s.block).again s.word _ (lies.free, omega (arith, lies.word)),
        shape_of-shape_code s.shape,
        label_of-label_code s.label,
        (of_length s.shape s.bank start).again s.length _ room,
      ) refl)

  pub symbol_reader : IsReader (symbol_at w banks all before) symbol (SymbolFits w banks before)
  symbol_reader = record { reads = symbol_reads; again = symbol_again }

-- symbols are read from their encoding, and from nothing else
pub symbols : (w : ℕ) (banks : List BankSpec) (all : ℕ) → IsMemory w banks → IsReader (symbols_at w banks all)
    (listed 2 symbol) (λ ss. Within 0 1024 (length ss) × EachAfter (SymbolFits w banks) [] ss)
unfolding symbols_at
symbols w banks all memory =
    list (symbol_at w banks all) symbol (SymbolFits w banks)
    (λ before. symbol_reader w banks all before memory) 2 all 0 1024 (omega arith)
