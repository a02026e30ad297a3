-- An instruction whose 16 bytes are all there, read at once.
use Rattle.std.proofs.Common.{◌≡◌, ℕ, ◌+◌, ◌-◌, ◌≤◌, ltb, List, length, take, drop, get_or, slice_index, Some, Ok, refl, ap, subst₂, ◌∙◌, arith}
use Rattle.std.specs.Int.{w32, w64, cast_signed}
use Rattle.std.proofs.lemmas.Bool.{le-ltb}
use Rattle.std.proofs.lemmas.List.{get_or-drop, drop-drop, length-drop, take_all}
use Rattle.byteorder.specs.Endian.{little_number}
use Rattle.lt_isa.specs.declared.instructions.Instr.{Instr}
use Rattle.lt_isa.specs.declared.instruction_table.Kind.{Kind}
use Rattle.lt_isa.specs.declared.instruction_table.Limits.{Limits}
use Rattle.lt_isa.specs.Prelude.{kind_named, limits_of, instruction_of}
use Rattle.gr_base.specs.Prelude.{is_within}
use Rattle.object_file.specs.Prelude.{Read, number_at, field_at, kind_at, instruction_at}
use Rattle.gr_base.proofs.ListTests.{is_within-Within}

-- a byte is a number of one byte
pub byte_number : (bytes : List ℕ) (place : ℕ) → slice_index bytes place ≡ little_number 1 (drop place bytes)
byte_number bytes place =
    let same : place + 0 ≡ place = omega arith in
    let byte : get_or (drop place bytes) 0 0 ≡ get_or bytes place 0 =
    get_or-drop place bytes 0 0 ∙ ap (λ i. get_or bytes i 0) same in
    omega (arith, byte)

abbrev valued : ℕ → List ℕ → Read ℕ
valued n rest = Ok (n, rest)

abbrev kinded : Kind → List ℕ → Read Kind
kinded kind rest = Ok (kind, rest)

module _ (all : ℕ) (bytes : List ℕ) where
  number_there : (n place : ℕ) → place + n ≤ length bytes
      → number_at n all (drop place bytes) ≡ valued (little_number n (drop place bytes)) (drop (place + n) bytes)
  unfolding number_at
  number_there n place le =
      let size = length-drop place bytes in
      let long : ltb (length (drop place bytes)) n ≡ _ = le-ltb _ _ (omega (arith, size, le)) in
      rw (long, drop-drop n place bytes) refl

  field_there : (n place high : ℕ) → place + n ≤ length bytes → little_number n (drop place bytes) ≤ high
      → field_at n all (is_within 0 high) (drop place bytes)
      ≡ valued (little_number n (drop place bytes)) (drop (place + n) bytes)
  unfolding field_at
  field_there n place high le small =
      rw (number_there n place le, is_within-Within 0 high (little_number n (drop place bytes)) (omega arith, small))
      refl

  kind_there : (kind : Kind) → 1 ≤ length bytes → kind_named (little_number 1 (drop 0 bytes)) ≡ Some kind
      → kind_at all (drop 0 bytes) ≡ kinded kind (drop 1 bytes)
  unfolding kind_at
  kind_there kind le named = rw (number_there 1 0 le, named) refl

  pub at_once : (banks : ℕ) (kind : Kind) → 16 ≤ length bytes → kind_named (little_number 1 (drop 0 bytes)) ≡ Some kind
      → little_number 1 (drop 1 bytes) ≤ (limits_of banks kind).a
      → little_number 1 (drop 2 bytes) ≤ (limits_of banks kind).b
      → little_number 1 (drop 3 bytes) ≤ (limits_of banks kind).c
      → little_number 4 (drop 4 bytes) ≤ (limits_of banks kind).offset
      → little_number 8 (drop 8 bytes) ≤ (limits_of banks kind).constant
      → instruction_at banks all bytes
      ≡ Ok (
        instruction_of kind (record {
          a = little_number 1 (drop 1 bytes);
          b = little_number 1 (drop 2 bytes);
          c = little_number 1 (drop 3 bytes);
          offset = cast_signed w32 (little_number 4 (drop 4 bytes));
          constant = cast_signed w64 (little_number 8 (drop 8 bytes));
        }),
        drop 16 bytes,
      )
  unfolding instruction_at
  at_once banks kind long named a b c offset constant =
      rw (
        kind_there kind (omega (arith, long)) named,
        field_there 1 1 (limits_of banks kind).a (omega (arith, long)) a,
        field_there 1 2 (limits_of banks kind).b (omega (arith, long)) b,
        field_there 1 3 (limits_of banks kind).c (omega (arith, long)) c,
        field_there 4 4 (limits_of banks kind).offset (omega (arith, long)) offset,
        field_there 8 8 (limits_of banks kind).constant (omega (arith, long)) constant,
      ) refl

  -- a slice of the bytes from a place to their end has the same numbers as the bytes from that place on
  sliced : (n place : ℕ)
      → little_number n (take (length bytes - place) (drop place bytes)) ≡ little_number n (drop place bytes)
  sliced n place =
      ap (little_number n) (take_all (length bytes - place) (drop place bytes) (omega (arith, length-drop place bytes)))

  -- the whole instruction is read, given the values of its fields
  pub whole_read : (banks : ℕ) (kind : Kind) (instr : Instr) (most : Limits) (a b c offset constant : ℕ)
      → 16 ≤ length bytes → kind_named (little_number 1 (drop 0 bytes)) ≡ Some kind
      → most ≡ limits_of banks kind
      → a ≡ little_number 1 (drop 1 bytes) → b ≡ little_number 1 (drop 2 bytes) → c ≡ little_number 1 (drop 3 bytes)
      → offset ≡ little_number 4 (take (length bytes - 4) (drop 4 bytes))
      → constant ≡ little_number 8 (take (length bytes - 8) (drop 8 bytes))
      → a ≤ most.a → b ≤ most.b → c ≤ most.c → offset ≤ most.offset → constant ≤ most.constant
      → instr ≡ instruction_of kind
      (record { a = a; b = b; c = c; offset = cast_signed w32 offset; constant = cast_signed w64 constant })
      → instruction_at banks all bytes ≡ Ok (instr, drop 16 bytes)
  whole_read banks kind instr most a b c offset constant long named m ea eb ec eo ek la lb lc lo lk made =
      let o : offset ≡ little_number 4 (drop 4 bytes) = eo ∙ sliced 4 4 in
      let k : constant ≡ little_number 8 (drop 8 bytes) = ek ∙ sliced 8 8 in
      rw (made, ea, eb, ec, o, k)
      (at_once banks kind long named
      (subst₂ (λ x (l : Limits). x ≤ l.a) ea m la) (subst₂ (λ x (l : Limits). x ≤ l.b) eb m lb)
      (subst₂ (λ x (l : Limits). x ≤ l.c) ec m lc)
      (subst₂ (λ x (l : Limits). x ≤ l.offset) o m lo) (subst₂ (λ x (l : Limits). x ≤ l.constant) k m lk))

-- the bytes after an instruction, as a slice to their end
pub behind_whole : (all banks : ℕ) (bytes : List ℕ) (instr : Instr)
    → instruction_at banks all bytes ≡ Ok (instr, drop 16 bytes)
    → instruction_at banks all bytes ≡ Ok (instr, take (length bytes - 16) (drop 16 bytes))
behind_whole all banks bytes instr read =
    let same = take_all (length bytes - 16) (drop 16 bytes) (omega (arith, length-drop 16 bytes)) in
    rw same read
