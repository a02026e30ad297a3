-- The item of a line of assembly text, which its words encode (this project's profile).
use Rattle.std.specs.Prelude.{ℕ, ◌<◌, ◌^◌, pos, List, [], ◌∷◌, ◌++◌, map, codes, decimal, Option, Some, None, IsTrue}
use Rattle.gr_word.specs.declared.operations.Cmp.{Cmp}
use Rattle.gr_word.specs.Names.{is_name}
use Rattle.lt_isa.specs.declared.profiles.Profile.{Profile}
use Rattle.lt_isa.specs.declared.profiles.BankSpec.{BankSpec}
use Rattle.lt_isa.specs.declared.symbols.Symbol.{Symbol}
use Rattle.lt_isa.specs.declared.instructions.Instr.{Instr}
use Rattle.lt_isa.specs.declared.instructions.Instr.TheVariants.{Jmp, Br}
use Rattle.lt_assembler.specs.Words.{Word, register_word, claim_word, hex_word}
use Rattle.lt_isa.specs.InstructionTable.{cmp_word}
use Rattle.lt_assembler.specs.Canonical.{object_words, words_for_bank, words_for_symbol, instruction_words}

-- the target of an instruction: a place, or the place of a label
pub data Target : Type 0 where
  ToPlace : ℕ → Target
  ToLabel : Word → Target

-- Nothing, the object's profile, a bank, a symbol, a label, a note's mask and claims, or an instruction. An instruction
-- whose target is a place or a label, and not an offset, has the offset 0 here.
pub data Item : Type 0 where
  Nothing : Item
  AnObject : Profile → Item
  ABank : BankSpec → Item
  ASymbol : Symbol → Item
  ALabel : Word → Item
  ANote : ℕ → List ℕ → Item
  AnInstruction : Instr → Option Target → Item

-- a target as a place in digits, or as a name
pub data SpellsTarget : Word → Target → Type 0 where
  InDigits : (place : ℕ) → place < 2 ^ 31 → SpellsTarget (decimal place) (ToPlace place)
  ByName : (name : Word) → IsTrue (is_name name) → SpellsTarget name (ToLabel name)

-- the words of a line encode an item
pub data WordsSpell : List Word → Item → Type 0 where
  Empty : WordsSpell [] Nothing
  Object : (profile : Profile) → WordsSpell (object_words profile) (AnObject profile)
  Bank : (bank : BankSpec) → WordsSpell (words_for_bank bank) (ABank bank)
  Variable : (symbol : Symbol) → WordsSpell (words_for_symbol symbol) (ASymbol symbol)
  Label : (name : Word) → IsTrue (is_name name) → WordsSpell ((name ++ codes ":") ∷ []) (ALabel name)
  Noted : (mask : ℕ)
      → (claims : List ℕ) → WordsSpell (codes ".note" ∷ hex_word 8 mask ∷ map claim_word claims) (ANote mask claims)
  Instruction : (instr : Instr) → WordsSpell (instruction_words instr) (AnInstruction instr None)
  Jump : (word : Word) → (target : Target) → SpellsTarget word target
      → WordsSpell (codes "jmp" ∷ codes "->" ∷ word ∷ []) (AnInstruction (Jmp (pos 0)) (Some target))
  Branch : (cmp : Cmp) → (ra rb : ℕ) → (word : Word) → (target : Target) → SpellsTarget word target
      → WordsSpell (codes "br" ∷ cmp_word cmp ∷ register_word ra ∷ register_word rb ∷ codes "->" ∷ word ∷ [])
      (AnInstruction (Br cmp ra rb (pos 0)) (Some target))
