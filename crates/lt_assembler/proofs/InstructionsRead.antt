-- The words of an instruction encode what is read, and it is in range.
use Rattle.std.proofs.Common.{◌≡◌, ℕ, ◌<◌, ◌≤◌, Bool, true, false, cond, ltb, List, [], ◌∷◌, Option, Some, None, Result, refl, sym, ap, subst, arith}
use Rattle.std.specs.Prelude.{ℤ, pos, option_map, bytes_eq, codes, decimal, slice_index}
use Rattle.std.specs.Char.{is_ascii_digit}
use Rattle.std.proofs.lemmas.Bool.{ltb-true}
use Rattle.std.proofs.lemmas.Int.{ints}
use Rattle.gr_word.specs.declared.operations.Op.{Op}
use Rattle.gr_word.specs.declared.operations.Cmp.{Cmp}
use Rattle.gr_word.specs.Prelude.{is_name}
use Rattle.lt_isa.specs.declared.instructions.Instr.{Instr}
use Rattle.lt_isa.specs.Prelude.{IsRegister, IsSlot, IsOffset, InstrFits, cmp_word, comparisons, with_offset}
use Rattle.lt_assembler.specs.declared.mnemonics.Mnemonic.{Mnemonic}
use Rattle.lt_assembler.specs.declared.mnemonics.Mnemonic.TheVariants.{Nop, Halt, Li, Ldb, Stb, Idb, Ldw, Stw, Jmp, Br, Alu}
use Rattle.lt_assembler.specs.declared.faults.Fault.{Fault}
use Rattle.lt_assembler.specs.Prelude.{Word, register_word, offset_word, begins_with, but_first, number_within, mnemonic_word, cmp_named, number_or, instruction_words, Aim, offset_aim, offset_to, aim_read, Coded, li_read, alu_read, ldb_read, stb_read, idb_read, access_read, bare_read, jmp_read, br_read, without_target, untargeted_read, operands_read, instruction_read, Target, ToPlace, ToLabel, SpellsTarget, InDigits, ByName, AnInstruction, WordsSpell, Instruction, Jump, Branch, IsTarget, HasInstructionForm}
use Rattle.lt_assembler.proofs.ReadsForm.{ReadsForm, form_ok, no_form, form_then, named_then, number_then, number_named, form_if, number_if, form_as, or_left, or_right}
use Rattle.lt_assembler.proofs.Found.{number_from, IsSigned, IsNumber, first_byte, constant_from, forward_from, backward_from}
use Rattle.gr_base.proofs.Results.{mapped}
use Rattle.lt_assembler.proofs.Added.{coded_in}
use Rattle.lt_assembler.proofs.NamedWords.{same_word, named_is, mnemonic_is}
use Rattle.lt_assembler.proofs.WordsRead.{register_from, slot_from, bank_from}
use Rattle.lt_isa.specs.declared.instructions.Instr.TheVariants as instr
use Rattle.lt_assembler.specs.Forms as form

-- instructions without a target

abbrev IsPlain : ℕ → List Word → Instr → Type 0
IsPlain banks words i = InstrFits banks i × (words ≡ instruction_words i)

li_read_so : (banks : ℕ) (words : List Word)
    → ReadsForm (li_read words) (HasInstructionForm (codes "li" ∷ words)) (IsPlain banks (codes "li" ∷ words))
unfolding li_read
li_read_so banks (a ∷ b ∷ []) =
    named_then _ _ _ _ _ (register_from a) (λ rd ha.
    let has : HasInstructionForm (codes "li" ∷ a ∷ b ∷ []) = rw ha.1 (form.Li rd b ha.0) in
    number_then _ _ _ _ _ has (constant_from b) (λ value hb.
    form_ok _ _ _ has ((ha.0, hb.0), rw (ha.1, hb.1) refl)))
li_read_so banks _ = no_form _ _

alu_read_so : (banks : ℕ) (op : Op) (words : List Word)
    → ReadsForm (alu_read op words) (HasInstructionForm (mnemonic_word (Alu op) ∷ words))
    (IsPlain banks (mnemonic_word (Alu op) ∷ words))
unfolding alu_read
alu_read_so banks op (a ∷ b ∷ c ∷ []) =
    named_then _ _ _ _ _ (register_from a) (λ rd ha.
    named_then _ _ _ _ _ (register_from b) (λ ra hb.
    named_then _ _ _ _ _ (register_from c) (λ rb hc.
    form_ok _ _ _ (rw (ha.1, hb.1, hc.1) (form.Alu op rd ra rb ha.0 hb.0 hc.0))
    ((ha.0, hb.0, hc.0), rw (ha.1, hb.1, hc.1) refl))))
alu_read_so banks op _ = no_form _ _

ldb_read_so : (banks : ℕ) (words : List Word)
    → ReadsForm (ldb_read banks words) (HasInstructionForm (codes "ldb" ∷ words)) (IsPlain banks (codes "ldb" ∷ words))
unfolding ldb_read
ldb_read_so banks (a ∷ b ∷ c ∷ []) =
    named_then _ _ _ _ _ (bank_from b) (λ bank hb.
    named_then _ _ _ _ _ (register_from c) (λ reg hc.
    let has : HasInstructionForm (codes "ldb" ∷ a ∷ b ∷ c ∷ []) =
    rw (hb.1, hc.1) (form.Ldb a bank reg hb.0 hc.0) in
    number_then _ _ _ _ _ has (slot_from a) (λ slot ha.
    number_if (ltb bank banks) _ _ _ has
    (λ lt. form_ok _ _ _ has ((ha.0, ltb-true bank banks lt, hc.0), rw (ha.1, hb.1, hc.1) refl)))))
ldb_read_so banks _ = no_form _ _

stb_read_so : (banks : ℕ) (words : List Word)
    → ReadsForm (stb_read words) (HasInstructionForm (codes "stb" ∷ words)) (IsPlain banks (codes "stb" ∷ words))
unfolding stb_read
stb_read_so banks (a ∷ []) =
    number_then _ _ _ _ _ (form.Stb a) (slot_from a) (λ slot ha. form_ok _ _ _ (form.Stb a) (ha.0, rw ha.1 refl))
stb_read_so banks _ = no_form _ _

idb_read_so : (banks : ℕ) (words : List Word)
    → ReadsForm (idb_read words) (HasInstructionForm (codes "idb" ∷ words)) (IsPlain banks (codes "idb" ∷ words))
unfolding idb_read
idb_read_so banks (a ∷ b ∷ []) =
    named_then _ _ _ _ _ (register_from a) (λ rd ha.
    let has : HasInstructionForm (codes "idb" ∷ a ∷ b ∷ []) = rw ha.1 (form.Idb rd b ha.0) in
    number_then _ _ _ _ _ has (slot_from b) (λ slot hb.
    form_ok _ _ _ has ((ha.0, hb.0), rw (ha.1, hb.1) refl)))
idb_read_so banks _ = no_form _ _

abbrev IsAccess : List Word → ℕ × ℕ × ℕ → Type 0
IsAccess words x =
    (IsRegister x.0 × IsSlot x.1 × IsRegister x.2) × (words ≡ register_word x.0 ∷ decimal x.1 ∷ register_word x.2 ∷ [])

access_read_so : (F : Type 0) (words : List Word)
    → ((reg off : ℕ) → (slot : Word) → IsRegister reg → IsRegister off
    → words ≡ register_word reg ∷ slot ∷ register_word off ∷ [] → F) → ReadsForm (access_read words) F (IsAccess words)
unfolding access_read
access_read_so F (a ∷ b ∷ c ∷ []) k =
    named_then _ _ _ _ _ (register_from a) (λ reg ha.
    named_then _ _ _ _ _ (register_from c) (λ off hc.
    let has : F = k reg off b ha.0 hc.0 (rw (ha.1, hc.1) refl) in
    number_then _ _ _ _ _ has (slot_from b) (λ slot hb.
    form_ok _ _ _ has ((ha.0, hb.0, hc.0), rw (ha.1, hb.1, hc.1) refl))))
access_read_so F _ k = no_form _ _

bare_read_so : (banks : ℕ) (i : Instr) (word : Word) (words : List Word) → HasInstructionForm (word ∷ [])
    → InstrFits banks i → word ∷ [] ≡ instruction_words i
    → ReadsForm (bare_read i words) (HasInstructionForm (word ∷ words)) (IsPlain banks (word ∷ words))
bare_read_so banks i word [] has h is = form_ok _ _ _ has (h, is)
bare_read_so banks i word (a ∷ words) has h is = no_form _ _

untargeted_read_so : (banks : ℕ) (m : Mnemonic) (words : List Word)
    → ReadsForm (untargeted_read banks m words) (HasInstructionForm (mnemonic_word m ∷ words))
    (IsPlain banks (mnemonic_word m ∷ words))
untargeted_read_so banks Nop words = bare_read_so banks instr.Nop (codes "nop") words form.Nop tt refl
untargeted_read_so banks Halt words = bare_read_so banks instr.Halt (codes "halt") words form.Halt tt refl
untargeted_read_so banks Li words = li_read_so banks words
untargeted_read_so banks Ldb words = ldb_read_so banks words
untargeted_read_so banks Stb words = stb_read_so banks words
untargeted_read_so banks Idb words = idb_read_so banks words
untargeted_read_so banks Ldw words =
    form_then _ _ _ _ _
    (access_read_so (HasInstructionForm (codes "ldw" ∷ words)) words
    (λ reg off slot hr ho is. rw is (form.Ldw reg off slot hr ho)))
    (λ x has h. form_ok _ _ _ has (h.0, ap (λ (ws : List Word). codes "ldw" ∷ ws) h.1))
untargeted_read_so banks Stw words =
    form_then _ _ _ _ _
    (access_read_so (HasInstructionForm (codes "stw" ∷ words)) words
    (λ reg off slot hr ho is. rw is (form.Stw reg off slot hr ho)))
    (λ x has h. form_ok _ _ _ has (h.0, ap (λ (ws : List Word). codes "stw" ∷ ws) h.1))
untargeted_read_so banks Jmp words = no_form _ _
untargeted_read_so banks Br words = no_form _ _
untargeted_read_so banks (Alu op) words = alu_read_so banks op words

-- targets

-- the offset to a place fits
pub offset_to_fits : (target place : ℕ) → target ≤ 2147483647 → place ≤ 1048576 → IsOffset (offset_to target place)
offset_to_fits target place ht hp = omega (arith, ints)

-- 0 fits; it is the offset until a label's place is known
pub none_offset : IsOffset (pos 0)
none_offset = omega (arith, ints)

-- the target of an instruction at a place
abbrev pub aim_in : ℕ → Target → Aim
aim_in place (ToPlace to) = offset_aim (offset_to to place)
aim_in place (ToLabel name) = record { offset = pos 0; label = Some name }

-- a word encodes the target of an instruction at a place
data Aims (place : ℕ) : Word → Aim → Type 0 where
  ByOffset : (z : ℤ) → Aims place (offset_word z) (offset_aim z)
  ByTarget : (word : Word) → (target : Target) → SpellsTarget word target → Aims place word (aim_in place target)

abbrev IsAim : ℕ → Word → Aim → Type 0
IsAim place word aim = IsOffset aim.offset × Aims place word aim

one_of : (b : Bool) (r s : Result Aim Fault) (F : Type 0) (P : Aim → Type 0)
    → (b ≡ true → ReadsForm r F P) → ReadsForm s F P → ReadsForm (cond b r s) F P
one_of true r s F P h k = h refl
one_of false r s F P h k = k

by_offset : (place : ℕ) (word : Word) (z : ℤ) → IsSigned word z → IsAim place word (offset_aim z)
by_offset place word z h = (h.0, subst (λ w. Aims place w (offset_aim z)) (sym h.1) (ByOffset z))

by_place : (place : ℕ) (word : Word) (to : ℕ)
    → place ≤ 1048576 → IsNumber 0 2147483647 word to → IsAim place word (offset_aim (offset_to to place))
by_place place word to few h = (
  offset_to_fits to place h.1 few,
  subst (λ w. Aims place w (offset_aim (offset_to to place))) (sym h.2)
      (ByTarget (decimal to) (ToPlace to) (InDigits to (omega (arith, h.1)))),
)

aim_of : (place : ℕ) (word : Word) (o : Option ℤ) → IsTarget word
    → ((z : ℤ) → o ≡ Some z → IsSigned word z)
    → ReadsForm (number_or (option_map offset_aim o)) (IsTarget word) (IsAim place word)
aim_of place word o has h =
    number_named (option_map offset_aim o) (IsTarget word) (IsAim place word) has
    (mapped o offset_aim (IsSigned word) (IsAim place word) h (by_offset place word))

aim_to : (place : ℕ) (word : Word) (o : Option ℕ)
    → IsTarget word → place ≤ 1048576 → ((n : ℕ) → o ≡ Some n → IsNumber 0 2147483647 word n)
    → ReadsForm (number_or (option_map offset_aim (option_map (λ to. offset_to to place) o))) (IsTarget word)
    (IsAim place word)
aim_to place word None has few h = number_named {X = Aim} None _ _ has (λ x e. absurd cc)
aim_to place word (Some n) has few h = form_ok _ _ _ has (by_place place word n few (h n refl))

behind_sign : (place : ℕ) (sign : ℕ) (word : Word) (o : Option ℤ) → IsTarget word
    → 0 < sign → begins_with sign word ≡ true → ((z : ℤ) → o ≡ Some z → IsSigned (sign ∷ but_first word) z)
    → ReadsForm (number_or (option_map offset_aim o)) (IsTarget word) (IsAim place word)
behind_sign place sign word o has some first h =
    aim_of place word o has (λ z e. subst (λ w. IsSigned w z) (sym (first_byte sign word some first)) (h z e))

aim_read_so : (place : ℕ) (word : Word)
    → place ≤ 1048576 → ReadsForm (aim_read place word) (IsTarget word) (IsAim place word)
unfolding aim_read
aim_read_so place word few =
    one_of (begins_with 43 word) _ _ _ _
    (λ plus.
    behind_sign place 43 word _ (or_left _ _ (or_left _ _ plus)) (omega arith) plus (forward_from (but_first word)))
    (one_of (begins_with 45 word) _ _ _ _
    (λ minus.
    behind_sign place 45 word _ (or_left _ _ (or_right _ _ (or_left _ _ minus))) (omega arith) minus
    (backward_from (but_first word)))
    (one_of (is_ascii_digit (slice_index word 0)) _ _ _ _
    (λ digit.
    aim_to place word (number_within 0 2147483647 word) (or_left _ _ (or_right _ _ (or_right _ _ digit))) few
    (number_from 0 2147483647 word))
    (one_of (is_name word) _ _ _ _
    (λ name. form_ok _ _ _ (or_right _ _ name) (none_offset, ByTarget word (ToLabel word) (ByName word name)))
    (no_form _ _))))

-- what the words of an instruction's line encode
pub record IsCoded (banks place : ℕ) (words : List Word) (c : Coded) : Type 0 where
  pub fits : InstrFits banks c.instr
  pub instr : Instr
  pub target : Option Target
  pub plain : InstrFits banks instr
  pub spells : WordsSpell words (AnInstruction instr target)
  pub is : c ≡ coded_in place instr target

-- an instruction with a target is that of its item
aimed : (place : ℕ) (target : Target) (i : Instr) → with_offset (pos 0) i ≡ i
    → record { instr = with_offset (aim_in place target).offset i; label = (aim_in place target).label }
    ≡ coded_in place i (Some target)
aimed place (ToPlace to) i whole = refl
aimed place (ToLabel name) i whole = ap (λ x. record { instr = x; label = Some name }) whole

jump_is : (banks place : ℕ) (word : Word) (aim : Aim) → IsAim place word aim → IsCoded banks place
    (codes "jmp" ∷ codes "->" ∷ word ∷ []) (record { instr = instr.Jmp aim.offset; label = aim.label })
jump_is banks place word aim h = of_aim word aim h.1 h.0 where
  of_aim : (word : Word) (aim : Aim) → Aims place word aim → IsOffset aim.offset → IsCoded banks place
      (codes "jmp" ∷ codes "->" ∷ word ∷ []) (record { instr = instr.Jmp aim.offset; label = aim.label })
  of_aim _ _ (ByOffset z) fits =
      record {
        fits = fits;
        instr = instr.Jmp z;
        target = None;
        plain = fits;
        spells = Instruction (instr.Jmp z);
        is = refl;
      }
  of_aim _ _ (ByTarget word target s) fits =
      record {
        fits = fits;
        instr = instr.Jmp (pos 0);
        target = Some target;
        plain = none_offset;
        spells = Jump word target s;
        is = aimed place target (instr.Jmp (pos 0)) refl;
      }

branch_is : (banks place : ℕ) (cmp : Cmp) (ra rb : ℕ) (word : Word) (aim : Aim)
    → IsRegister ra → IsRegister rb → IsAim place word aim
    → IsCoded banks place (codes "br" ∷ cmp_word cmp ∷ register_word ra ∷ register_word rb ∷ codes "->" ∷ word ∷ [])
    (record { instr = instr.Br cmp ra rb aim.offset; label = aim.label })
branch_is banks place cmp ra rb word aim ha hb h = of_aim word aim h.1 h.0 where
  of_aim : (word : Word) (aim : Aim) → Aims place word aim → IsOffset aim.offset
      → IsCoded banks place (codes "br" ∷ cmp_word cmp ∷ register_word ra ∷ register_word rb ∷ codes "->" ∷ word ∷ [])
      (record { instr = instr.Br cmp ra rb aim.offset; label = aim.label })
  of_aim _ _ (ByOffset z) fits =
      record {
        fits = (ha, hb, fits);
        instr = instr.Br cmp ra rb z;
        target = None;
        plain = (ha, hb, fits);
        spells = Instruction (instr.Br cmp ra rb z);
        is = refl;
      }
  of_aim _ _ (ByTarget word target s) fits =
      record {
        fits = (ha, hb, fits);
        instr = instr.Br cmp ra rb (pos 0);
        target = Some target;
        plain = (ha, hb, none_offset);
        spells = Branch cmp ra rb word target s;
        is = aimed place target (instr.Br cmp ra rb (pos 0)) refl;
      }

jmp_read_so : (banks place : ℕ) (words : List Word) → place ≤ 1048576
    → ReadsForm (jmp_read place words) (HasInstructionForm (codes "jmp" ∷ words))
    (IsCoded banks place (codes "jmp" ∷ words))
unfolding jmp_read
jmp_read_so banks place (a ∷ b ∷ []) few =
    form_if (bytes_eq a (codes "->")) _ _ _ (λ arrow.
    let is = same_word a (codes "->") arrow in
    form_then _ _ _ _ _ (form_as _ _ _ _ (aim_read_so place b few) (λ t. rw is (form.Jmp b t))) (λ aim has h.
    form_ok _ _ _ has (subst
    (λ w. IsCoded banks place (codes "jmp" ∷ w ∷ b ∷ []) (record { instr = instr.Jmp aim.offset; label = aim.label }))
    (sym is) (jump_is banks place b aim h))))
jmp_read_so banks place _ few = no_form _ _

cmp_from : (word : Word) (cmp : Cmp) → cmp_named word ≡ Some cmp → cmp_word cmp ≡ word
unfolding cmp_named
cmp_from word cmp e = named_is cmp_word comparisons word cmp e

branch_words : (a b c d e : Word) (cmp : Cmp) (ra rb : ℕ)
    → cmp_word cmp ≡ a → b ≡ register_word ra → c ≡ register_word rb → d ≡ codes "->"
    → codes "br" ∷ cmp_word cmp ∷ register_word ra ∷ register_word rb ∷ codes "->" ∷ e ∷ []
    ≡ codes "br" ∷ a ∷ b ∷ c ∷ d ∷ e ∷ []
branch_words a b c d e cmp ra rb ha hb hc hd = rw (hb, hc, hd, sym ha) refl

br_read_so : (banks place : ℕ) (words : List Word) → place ≤ 1048576
    → ReadsForm (br_read place words) (HasInstructionForm (codes "br" ∷ words))
    (IsCoded banks place (codes "br" ∷ words))
unfolding br_read
br_read_so banks place (a ∷ b ∷ c ∷ d ∷ e ∷ []) few =
    named_then _ _ _ _ _ (cmp_from a) (λ cmp ha.
    named_then _ _ _ _ _ (register_from b) (λ ra hb.
    named_then _ _ _ _ _ (register_from c) (λ rb hc.
    form_if (bytes_eq d (codes "->")) _ _ _ (λ arrow.
    let is = branch_words a b c d e cmp ra rb ha hb.1 hc.1 (same_word d (codes "->") arrow) in
    form_then _ _ _ _ _
    (form_as _ _ _ _ (aim_read_so place e few) (λ t. subst HasInstructionForm is (form.Br cmp ra rb e hb.0 hc.0 t)))
    (λ aim has h.
    form_ok _ _ _ has
    (subst (λ ws. IsCoded banks place ws (record { instr = instr.Br cmp ra rb aim.offset; label = aim.label }))
    is (branch_is banks place cmp ra rb e aim hb.0 hc.0 h)))))))
br_read_so banks place _ few = no_form _ _

plain_is : (banks place : ℕ) (words : List Word) (i : Instr)
    → IsPlain banks words i → IsCoded banks place words (record { instr = i; label = None })
plain_is banks place words i h = record {
  fits = h.0;
  instr = i;
  target = None;
  plain = h.0;
  spells = subst (λ ws. WordsSpell ws (AnInstruction i None)) (sym h.1) (Instruction i);
  is = refl;
}

abbrev ReadsInstruction : ℕ → ℕ → Result Coded Fault → List Word → Type 0
ReadsInstruction banks place r words = ReadsForm r (HasInstructionForm words) (IsCoded banks place words)

without_read_so : (banks place : ℕ) (m : Mnemonic) (words : List Word)
    → ReadsInstruction banks place (without_target (untargeted_read banks m words)) (mnemonic_word m ∷ words)
without_read_so banks place m words =
    form_then _ _ _ _ _ (untargeted_read_so banks m words)
    (λ i has h. form_ok _ _ _ has (plain_is banks place (mnemonic_word m ∷ words) i h))

operands_read_so : (banks place : ℕ) (m : Mnemonic) (words : List Word)
    → place ≤ 1048576 → ReadsInstruction banks place (operands_read banks place m words) (mnemonic_word m ∷ words)
operands_read_so banks place Nop words few = without_read_so banks place Nop words
operands_read_so banks place Halt words few = without_read_so banks place Halt words
operands_read_so banks place Li words few = without_read_so banks place Li words
operands_read_so banks place Ldb words few = without_read_so banks place Ldb words
operands_read_so banks place Stb words few = without_read_so banks place Stb words
operands_read_so banks place Idb words few = without_read_so banks place Idb words
operands_read_so banks place Ldw words few = without_read_so banks place Ldw words
operands_read_so banks place Stw words few = without_read_so banks place Stw words
operands_read_so banks place Jmp words few = jmp_read_so banks place words few
operands_read_so banks place Br words few = br_read_so banks place words few
operands_read_so banks place (Alu op) words few = without_read_so banks place (Alu op) words

-- the words encode the instruction that is read
pub instruction_read_so : (banks place : ℕ) (words : List Word)
    → place ≤ 1048576 → ReadsForm (instruction_read banks place words) (HasInstructionForm words)
    (IsCoded banks place words)
unfolding instruction_read
instruction_read_so banks place [] few = no_form _ _
instruction_read_so banks place (a ∷ words) few =
    named_then _ _ _ _ _ (mnemonic_is a) (λ m named.
    subst (λ w. ReadsInstruction banks place (operands_read banks place m words) (w ∷ words)) named
    (operands_read_so banks place m words few))
