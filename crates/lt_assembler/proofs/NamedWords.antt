-- The words that name items.
use Rattle.std.proofs.Common.{◌≡◌, Bool, true, false, cond, List, [], ◌∷◌, Option, Some, None, refl, sym, ap, subst, ◌∙◌}
use Rattle.std.specs.Prelude.{bytes_eq, codes, option_map}
use Rattle.std.specs.Option.{option_or}
use Rattle.std.proofs.lemmas.Slice.Eq.{bytes_eq-Decides}
use Rattle.gr_word.specs.declared.operations.Op.{Op}
use Rattle.gr_word.specs.declared.operations.Op.TheVariants.{Add}
use Rattle.lt_assembler.specs.declared.mnemonics.Mnemonic.{Mnemonic}
use Rattle.lt_assembler.specs.declared.mnemonics.Mnemonic.TheVariants.{Alu}
use Rattle.lt_isa.specs.Prelude.{op_word, operations}
use Rattle.lt_assembler.specs.Prelude.{Word, named, op_named, mnemonic_word, mnemonics, mnemonic_named, instruction_read, is_instruction, label_name}
use Rattle.gr_base.proofs.Results.{some_is}

-- words that the test finds equal are equal
pub same_word : (a b : Word) → bytes_eq a b ≡ true → a ≡ b
same_word a b e = (bytes_eq-Decides a b).0 e

-- an item that a word names has that word
pub named_is : {X : Type 0} (word_of : X → Word) (xs : List X) (word : Word) (x : X)
    → named word_of xs word ≡ Some x → word_of x ≡ word
named_is word_of [] word x e = absurd cc
named_is {X} word_of (y ∷ xs) word x e = by_first (bytes_eq (word_of y) word) refl (named_is word_of xs word x) e where
  by_first : (b : Bool) → bytes_eq (word_of y) word ≡ b → (named word_of xs word ≡ Some x → word_of x ≡ word)
      → cond b (Some y) (named word_of xs word) ≡ Some x → word_of x ≡ word
  by_first true pass rest h = subst (λ (z : X). word_of z ≡ word) (some_is y x h) (same_word _ _ pass)
  by_first false pass rest h = rest h

mnemonic_of : (word : Word) (first : Option Mnemonic) (op : Option Op)
    → ((m : Mnemonic) → first ≡ Some m → mnemonic_word m ≡ word) → ((o : Op) → op ≡ Some o → op_word o ≡ word)
    → (m : Mnemonic) → option_or first (option_map Alu op) ≡ Some m → mnemonic_word m ≡ word
mnemonic_of word (Some m) op h k n e = subst (λ x. mnemonic_word x ≡ word) (some_is m n e) (h m refl)
mnemonic_of word None (Some o) h k n e = subst (λ x. mnemonic_word x ≡ word) (some_is (Alu o) n e) (k o refl)
mnemonic_of word None None h k n e = absurd cc

-- the word of the instruction that a word names
pub mnemonic_is : (word : Word) (m : Mnemonic) → mnemonic_named word ≡ Some m → mnemonic_word m ≡ word
unfolding mnemonic_named op_named
mnemonic_is word m e =
    mnemonic_of word _ _ (named_is mnemonic_word mnemonics word) (named_is op_word operations word) m e

-- no instruction's word ends in ':'
no_label : (m : Mnemonic) → label_name (mnemonic_word m) ≡ None
unfolding label_name
no_label (Alu Add) = refl
no_label _ = refl

-- a label's word doesn't begin an instruction
pub label_is_none : (word name : Word) → label_name word ≡ Some name → mnemonic_named word ≡ None
label_is_none word name e = of_option (mnemonic_named word) (mnemonic_is word) where
  of_option : (o : Option Mnemonic) → ((m : Mnemonic) → o ≡ Some m → mnemonic_word m ≡ word) → o ≡ None
  of_option None h = refl
  of_option (Some m) h = absurd (let none : label_name word ≡ None = ap label_name (sym (h m refl)) ∙ no_label m in cc)

-- `.object` doesn't begin an instruction
pub object_is_none : mnemonic_named (codes ".object") ≡ None
unfolding mnemonic_named op_named
object_is_none = refl

-- `.bank` doesn't begin an instruction
pub bank_is_none : mnemonic_named (codes ".bank") ≡ None
unfolding mnemonic_named op_named
bank_is_none = refl

-- `.symbol` doesn't begin an instruction
pub symbol_is_none : mnemonic_named (codes ".symbol") ≡ None
unfolding mnemonic_named op_named
symbol_is_none = refl

-- a line that begins with another word isn't an instruction
pub no_instruction : (word : Word) (words : List Word)
    → mnemonic_named word ≡ None → is_instruction (word ∷ words) ≡ false
unfolding is_instruction instruction_read
no_instruction word words e = rw e refl

-- an empty line isn't an instruction
pub nothing_is_none : is_instruction [] ≡ false
unfolding is_instruction instruction_read
nothing_is_none = refl
