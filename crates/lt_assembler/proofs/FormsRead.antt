-- Reading a line that has a form doesn't fail for its form.
use Rattle.std.proofs.Common.{◌≡◌, ℕ, ◌+◌, ◌-◌, ◌*◌, ◌<◌, ◌≤◌, Bool, true, false, not, cond, eqb, ltb, List, [], ◌∷◌, ◌++◌, length, None, Result, Ok, Err, refl, sym, ap, subst, ◌∙◌, arith, inl, inr}
use Rattle.std.specs.Prelude.{◌⊎◌, ◌&&◌, ◌||◌, codes, is_none, slice_index}
use Rattle.std.specs.Char.{is_ascii_digit}
use Rattle.std.proofs.lemmas.Bool.{le-leb, le-ltb, eq-eqb, and_parts, and_from}
use Rattle.gr_word.specs.declared.operations.Op.TheVariants.{Add}
use Rattle.gr_word.specs.declared.operations.Op.{Op}
use Rattle.gr_word.specs.declared.operations.Cmp.{Cmp}
use Rattle.gr_word.specs.declared.variables.Label.{Label}
use Rattle.gr_word.specs.declared.variables.Shape.{Shape}
use Rattle.gr_word.specs.Prelude.{is_name}
use Rattle.lt_isa.specs.declared.profiles.Profile.{Profile}
use Rattle.lt_isa.specs.declared.profiles.BankSpec.{BankSpec}
use Rattle.lt_isa.specs.declared.symbols.Symbol.{Symbol}
use Rattle.lt_isa.specs.declared.instructions.Instr.{Instr}
use Rattle.lt_isa.specs.declared.instructions.Instr.TheVariants.{Ldw, Stw}
use Rattle.lt_isa.specs.Prelude.{op_word, cmp_word, most_blocks, last_bank, blocks_in, first_free_word, most_length, IsRegister, next_place}
use Rattle.lt_assembler.specs.declared.faults.Fault.{Fault}
use Rattle.lt_assembler.specs.declared.faults.Fault.TheVariants.{WrongForm, Number, RepeatedName, Limit, Memory}
use Rattle.lt_assembler.specs.Prelude.{Word, hex_word, label_word, shape_word, register_word, bank_word, words, is_ascii_line, begins_with, number_within, constant_of, mnemonic_named, op_named, cmp_named, label_named, shape_named, register_of, slot_named, bank_named, mask_of, claims_of, Aim, Coded, aim_read, li_read, alu_read, ldb_read, stb_read, idb_read, access_read, ldw_read, stw_read, without_target, jmp_read, br_read, instruction_read, is_of_form, is_instruction, Draft, Labels, place_of, takes_bank, takes_symbol, takes_code, is_noted, is_version, width, is_new, has_room, cycles_read, window_read, profile_read, object_line, bank_read, bank_line, site_read, symbol_read, symbol_line, note_read, note_line, label_name, label_line, code_line, by_first_word, line_read, is_instruction_line, instruction_follows, IsTarget, HasInstructionForm, InstructionFollows, HasForm, IsOfForm}
use Rattle.lt_assembler.proofs.Added.{stage-takes_bank, stage-takes_symbol, stage-is_none}
use Rattle.lt_assembler.proofs.InstructionWords.{op_again, cmp_again}
use Rattle.lt_assembler.proofs.InstructionsRead.{instruction_read_so}
use Rattle.lt_assembler.proofs.ItemsRead.{label_reads, shape_reads, label_name_again, label_reads_by, named}
use Rattle.lt_assembler.proofs.NumberWords.{register_again, bank_again, mask_again}
use Rattle.lt_assembler.proofs.ReadsForm.{or_left, or_right, ReadsForm, Formed, formed_ok, formed_then, formed_number, number_formed, named_formed, if_formed, test_formed, name_formed, limit_formed}
use Rattle.lt_assembler.proofs.Earlier.{earlier_of}
use Rattle.lt_assembler.specs.declared.mnemonics.Mnemonic.TheVariants as mnemonic
use Rattle.lt_assembler.specs.Forms as form

-- targets

first_of : (b : Bool) (r s : Result Aim Fault)
    → (b ≡ true → Formed r) → (b ≡ false → Formed s) → Formed (cond b r s)
first_of true r s h k = h refl
first_of false r s h k = k refl

-- the last of four tests is true if one is and the first three aren't
last_of : (a b c d : Bool) → ((a || (b || c)) || d) ≡ true → a ≡ false → b ≡ false → c ≡ false → d ≡ true
last_of false false false d h p q r = h
last_of true b c d h p q r = absurd cc
last_of false true c d h p q r = absurd cc
last_of false false true d h p q r = absurd cc

target_formed : (place : ℕ) (word : Word) → IsTarget word → Formed (aim_read place word)
unfolding aim_read
target_formed place word h =
    first_of (begins_with 43 word) _ _ (λ _. formed_number _) (λ p.
    first_of (begins_with 45 word) _ _ (λ _. formed_number _) (λ q.
    first_of (is_ascii_digit (slice_index word 0)) _ _ (λ _. formed_number _) (λ r.
    first_of (is_name word) _ _ (λ _. formed_ok _)
    (λ no. absurd (let bad : true ≡ false = sym (last_of _ _ _ _ h p q r) ∙ no in cc)))))

-- instructions

li_formed : (rd : ℕ) (value : Word) → IsRegister rd → Formed (li_read (register_word rd ∷ value ∷ []))
unfolding li_read
li_formed rd value h =
    named_formed (register_of (register_word rd)) rd _ (register_again rd h)
    (number_formed (constant_of value) _ (λ x. formed_ok _))

alu_formed : (op : Op) (rd ra rb : ℕ) → IsRegister rd → IsRegister ra → IsRegister rb
    → Formed (alu_read op (register_word rd ∷ register_word ra ∷ register_word rb ∷ []))
unfolding alu_read
alu_formed op rd ra rb hd ha hb =
    named_formed (register_of (register_word rd)) rd _ (register_again rd hd)
    (named_formed (register_of (register_word ra)) ra _ (register_again ra ha)
    (named_formed (register_of (register_word rb)) rb _ (register_again rb hb) (formed_ok _)))

ldb_formed : (banks : ℕ) (slot : Word) (bank reg : ℕ) → bank < 10 → IsRegister reg
    → Formed (ldb_read banks (slot ∷ bank_word bank ∷ register_word reg ∷ []))
unfolding ldb_read
ldb_formed banks slot bank reg hb hr =
    named_formed (bank_named (bank_word bank)) bank _ (bank_again bank hb)
    (named_formed (register_of (register_word reg)) reg _ (register_again reg hr)
    (number_formed (slot_named slot) _ (λ k. test_formed (ltb bank banks) _ (formed_ok _))))

stb_formed : (slot : Word) → Formed (stb_read (slot ∷ []))
unfolding stb_read
stb_formed slot = number_formed (slot_named slot) _ (λ k. formed_ok _)

idb_formed : (rd : ℕ) (slot : Word) → IsRegister rd → Formed (idb_read (register_word rd ∷ slot ∷ []))
unfolding idb_read
idb_formed rd slot h =
    named_formed (register_of (register_word rd)) rd _ (register_again rd h)
    (number_formed (slot_named slot) _ (λ k. formed_ok _))

access_formed : (reg off : ℕ) (slot : Word) → IsRegister reg → IsRegister off
    → Formed (access_read (register_word reg ∷ slot ∷ register_word off ∷ []))
unfolding access_read
access_formed reg off slot hr ho =
    named_formed (register_of (register_word reg)) reg _ (register_again reg hr)
    (named_formed (register_of (register_word off)) off _ (register_again off ho)
    (number_formed (slot_named slot) _ (λ k. formed_ok _)))

jmp_formed : (place : ℕ) (target : Word) → IsTarget target → Formed (jmp_read place (codes "->" ∷ target ∷ []))
unfolding jmp_read
jmp_formed place target t =
    formed_then (aim_read place target) _ (target_formed place target t) (λ aim. formed_ok _)

br_formed : (place : ℕ) (cmp : Cmp) (ra rb : ℕ) (target : Word) → IsRegister ra → IsRegister rb → IsTarget target
    → Formed (br_read place (cmp_word cmp ∷ register_word ra ∷ register_word rb ∷ codes "->" ∷ target ∷ []))
unfolding br_read
br_formed place cmp ra rb target ha hb t =
    named_formed (cmp_named (cmp_word cmp)) cmp _ (cmp_again cmp)
    (named_formed (register_of (register_word ra)) ra _ (register_again ra ha)
    (named_formed (register_of (register_word rb)) rb _ (register_again rb hb)
    (formed_then (aim_read place target) _ (target_formed place target t) (λ aim. formed_ok _))))

-- an instruction without a target
without_formed : (r : Result Instr Fault) → Formed r → Formed (without_target r)
without_formed r h = formed_then r _ h (λ i. formed_ok _)

alu_of_form : (banks place : ℕ) (op : Op) (ws : List Word) → Formed (alu_read op ws)
    → Formed (instruction_read banks place (op_word op ∷ ws))
unfolding instruction_read
alu_of_form banks place op ws h =
    named_formed (mnemonic_named (op_word op)) (mnemonic.Alu op) _ (op_again op) (without_formed (alu_read op ws) h)

pub instruction_of_form : (banks place : ℕ) (ws : List Word)
    → HasInstructionForm ws → Formed (instruction_read banks place ws)
unfolding instruction_read mnemonic_named op_named
instruction_of_form banks place _ form.Nop = formed_ok _
instruction_of_form banks place _ form.Halt = formed_ok _
instruction_of_form banks place _ (form.Li rd value hd) = without_formed (li_read _) (li_formed rd value hd)
instruction_of_form banks place _ (form.Alu op rd ra rb hd ha hb) =
    alu_of_form banks place op _ (alu_formed op rd ra rb hd ha hb)
instruction_of_form banks place _ (form.Ldb slot bank reg hb hr) =
    without_formed (ldb_read banks _) (ldb_formed banks slot bank reg hb hr)
instruction_of_form banks place _ (form.Stb slot) = without_formed (stb_read _) (stb_formed slot)
instruction_of_form banks place _ (form.Idb rd slot hd) = without_formed (idb_read _) (idb_formed rd slot hd)
instruction_of_form banks place _ (form.Ldw rd ro slot hd ho) =
    without_formed (ldw_read _)
    (formed_then (access_read _) (λ x. Ok (Ldw x.0 x.1 x.2)) (access_formed rd ro slot hd ho) (λ x. formed_ok _))
instruction_of_form banks place _ (form.Stw rs ro slot hs ho) =
    without_formed (stw_read _)
    (formed_then (access_read _) (λ x. Ok (Stw x.0 x.1 x.2)) (access_formed rs ro slot hs ho) (λ x. formed_ok _))
instruction_of_form banks place _ (form.Jmp target t) = jmp_formed place target t
instruction_of_form banks place _ (form.Br cmp ra rb target ha hb t) = br_formed place cmp ra rb target ha hb t

-- the test of an instruction's form

form_true : (r : Result Coded Fault) → Formed r → is_of_form r ≡ true
form_true (Ok x) h = refl
form_true (Err WrongForm) h = absurd h.is
form_true (Err Number) h = refl
form_true (Err RepeatedName) h = refl
form_true (Err Limit) h = refl
form_true (Err Memory) h = refl

form_known : (r : Result Coded Fault) (F : Type 0) (P : Coded → Type 0)
    → ReadsForm r F P → is_of_form r ≡ true → F
form_known (Ok x) F P h e = h.known.0
form_known (Err WrongForm) F P h e = absurd cc
form_known (Err Number) F P h e = h.known
form_known (Err RepeatedName) F P h e = absurd h.known
form_known (Err Limit) F P h e = absurd h.known
form_known (Err Memory) F P h e = absurd h.known

pub form_by_test : (ws : List Word) → is_instruction ws ≡ true → HasInstructionForm ws
unfolding is_instruction
form_by_test ws e = form_known (instruction_read 2 0 ws) _ _ (instruction_read_so 2 0 ws (omega arith)) e

pub test_by_form : (ws : List Word) → HasInstructionForm ws → is_instruction ws ≡ true
unfolding is_instruction
test_by_form ws h = form_true (instruction_read 2 0 ws) (instruction_of_form 2 0 ws h)

form_line : (line : List ℕ) → is_instruction_line line ≡ true
    → (is_ascii_line line ≡ true) × HasInstructionForm (words line)
unfolding is_instruction_line
form_line line e = let p = and_parts _ _ e in (p.0, form_by_test (words line) p.1)

line_form : (line : List ℕ) → is_ascii_line line ≡ true → HasInstructionForm (words line)
    → is_instruction_line line ≡ true
unfolding is_instruction_line
line_form line ascii h = and_from _ _ ascii (test_by_form (words line) h)

by_either : (a b : Bool) (P Q : Type 0) → (a ≡ true → P) → (b ≡ true → Q) → (a || b) ≡ true → P ⊎ Q
by_either true b P Q h k e = inl (h refl)
by_either false b P Q h k e = inr (k e)

pub follows_by_test : (ls : List (List ℕ)) → instruction_follows ls ≡ true → InstructionFollows ls
follows_by_test [] e = absurd cc
follows_by_test (line ∷ ls) e =
    by_either (is_instruction_line line) (instruction_follows ls) _ _ (form_line line) (follows_by_test ls) e

pub test_by_follows : (ls : List (List ℕ)) → InstructionFollows ls → instruction_follows ls ≡ true
test_by_follows [] h = absurd h
test_by_follows (line ∷ ls) (inl h) = or_left _ _ (line_form line h.0 h.1)
test_by_follows (line ∷ ls) (inr h) = or_right _ _ (test_by_follows ls h)

-- lines

is_code : (n : ℕ) (follows : Bool) (ws : List Word) (d : Draft)
    → HasInstructionForm ws → by_first_word n follows ws d ≡ code_line n ws d
unfolding by_first_word label_name
is_code n follows _ d (form.Alu Add rd ra rb hd ha hb) = refl
is_code n follows _ d (form.Alu _ rd ra rb hd ha hb) = refl
is_code n follows _ d _ = refl

code_formed : (n : ℕ) (ws : List Word) (d : Draft)
    → HasInstructionForm ws → takes_code d ≡ true → Formed (code_line n ws d)
unfolding code_line
code_formed n ws d h there =
    if_formed (takes_code d) _ there
    (formed_then (instruction_read (length d.banks) (length d.code) ws) _
    (instruction_of_form (length d.banks) (length d.code) ws h)
    (λ coded. limit_formed (ltb (length d.code) 1048576) _ (formed_ok _)))

cycles_formed : (a b c d e : Word) → Formed (cycles_read a b c d e)
unfolding cycles_read
cycles_formed a b c d e =
    number_formed (number_within 3 9 a) _ (λ p. number_formed (number_within 1 127 b) _ (λ q.
    number_formed (number_within 1 127 c) _ (λ r. number_formed (number_within 1 127 d) _ (λ s.
    number_formed (number_within 1 32 e) _ (λ t. formed_ok _)))))

window_formed : (r : Result Profile Fault) (f g h : Word) → Formed r → Formed (window_read r f g h)
unfolding window_read
window_formed r f g h k =
    formed_then r _ k (λ p.
    number_formed (number_within 2 1000000 f) _ (λ period.
    number_formed (number_within 0 (period - 1) g) _ (λ opens.
    number_formed (number_within (opens + 1) period h) _ (λ closes. formed_ok _))))

profile_formed : (a b c d e f : Word) → Formed (profile_read (a ∷ b ∷ c ∷ d ∷ e ∷ f ∷ []))
unfolding profile_read
profile_formed a b c d e f = test_formed (is_version 1 a) _ (cycles_formed b c d e f)

windowed_formed : (a b c d e f g h i : Word)
    → Formed (profile_read (a ∷ b ∷ c ∷ d ∷ e ∷ f ∷ g ∷ h ∷ i ∷ []))
unfolding profile_read
windowed_formed a b c d e f g h i =
    test_formed (is_version 2 a) _ (window_formed (cycles_read b c d e f) g h i (cycles_formed b c d e f))

object_formed : (ws : List Word) (d : Draft) → Formed (profile_read ws) → d.profile ≡ None → Formed (object_line ws d)
unfolding object_line
object_formed ws d h none =
    if_formed (is_none d.profile) _ (ap is_none none) (formed_then (profile_read ws) _ h (λ p. formed_ok _))

bank_read_formed : (index : ℕ) (a b : Word) → Formed (bank_read index (a ∷ b ∷ []))
unfolding bank_read
bank_read_formed index a b =
    number_formed (number_within 1 (most_blocks index) a) _ (λ blocks.
    number_formed (number_within 1 1000000 b) _ (λ latency. formed_ok _))

bank_formed : (a b : Word) (d : Draft) → takes_bank d ≡ true → Formed (bank_line (a ∷ b ∷ []) d)
unfolding bank_line
bank_formed a b d there =
    if_formed (takes_bank d) _ there
    (formed_then (bank_read (length d.banks) (a ∷ b ∷ [])) _ (bank_read_formed (length d.banks) a b)
    (λ bank. limit_formed (ltb (length d.banks) 10) _ (formed_ok _)))

site_formed : (w : ℕ) (banks : List BankSpec) (before : List Symbol) (shape : Shape) (p q r s : Word)
    → Formed (site_read w banks before shape (p ∷ q ∷ r ∷ s ∷ []))
unfolding site_read
site_formed w banks before shape p q r s =
    number_formed (number_within (last_bank before) (length banks - 1) p) _ (λ bank.
    number_formed (number_within 0 (blocks_in banks bank - 1) q) _ (λ block.
    number_formed (number_within (first_free_word w before bank block) (w - 1) r) _ (λ word.
    number_formed (number_within 1 (most_length w banks shape bank (block * w + word)) s) _ (λ size. formed_ok _))))

symbol_read_formed : (w : ℕ) (banks : List BankSpec) (before : List Symbol) (name : Word) (label : Label)
    (shape : Shape) (p q r s : Word) → is_name name ≡ true → Formed (symbol_read w banks before
    (name ∷ label_word label ∷ shape_word shape ∷ p ∷ q ∷ r ∷ s ∷ []))
unfolding symbol_read
symbol_read_formed w banks before name label shape p q r s fits =
    if_formed (is_name name) _ fits
    (named_formed (label_named (label_word label)) label _ (label_reads label)
    (named_formed (shape_named (shape_word shape)) shape _ (shape_reads shape)
    (formed_then (site_read w banks before shape (p ∷ q ∷ r ∷ s ∷ [])) _
    (site_formed w banks before shape p q r s) (λ site. formed_ok _))))

symbol_formed : (ws : List Word) (d : Draft) → takes_symbol d ≡ true
    → Formed (symbol_read (width d.profile) d.banks d.symbols ws) → Formed (symbol_line ws d)
unfolding symbol_line
symbol_formed ws d there h =
    if_formed (takes_symbol d) _ there
    (formed_then (symbol_read (width d.profile) d.banks d.symbols ws) _ h
    (λ symbol. name_formed (is_new d.symbols symbol.name) _
    (limit_formed (has_room d.symbols symbol) _ (formed_ok _))))

note_read_formed : (banks place mask : ℕ) (claims : List Word) → mask < 4294967296 → length claims ≡ 8
    → Formed (note_read banks place (hex_word 8 mask ∷ claims))
unfolding note_read
note_read_formed banks place mask claims small eight =
    if_formed (eqb (length claims) 8) _ (eq-eqb (length claims) 8 eight)
    (named_formed (mask_of (hex_word 8 mask)) mask _ (mask_again mask small)
    (number_formed (claims_of banks claims) _ (λ slots. formed_ok _)))

note_there : (d : Draft) → takes_code d ≡ true → next_place d.notes ≤ length d.code
    → (takes_code d && (not (is_noted d) && true)) ≡ true
note_there d there only = rw (there, le-ltb (length d.code) (next_place d.notes) only) refl

note_formed : (ws : List Word) (d : Draft) → takes_code d ≡ true → next_place d.notes ≤ length d.code
    → Formed (note_read (length d.banks) (length d.code) ws) → Formed (note_line true ws d)
unfolding note_line
note_formed ws d there only h =
    if_formed (takes_code d && (not (is_noted d) && true)) _ (note_there d there only)
    (formed_then (note_read (length d.banks) (length d.code) ws) _ h
    (λ note. limit_formed (ltb (length d.notes) 262144) _ (formed_ok _)))

label_there : (name : Word) (d : Draft) → takes_code d ≡ true → is_name name ≡ true
    → (takes_code d && (is_name name && true)) ≡ true
label_there name d there fits = rw (there, fits) refl

label_line_formed : (name : Word) (d : Draft) → takes_code d ≡ true → is_name name ≡ true
    → Formed (label_line name [] d)
unfolding label_line
label_line_formed name d there fits =
    if_formed (takes_code d && (is_name name && true)) _ (label_there name d there fits)
    (name_formed (is_none (place_of d.labels name)) _ (formed_ok _))

label_formed : (n : ℕ) (follows : Bool) (d : Draft) (name : Word) → takes_code d ≡ true → is_name name ≡ true
    → Formed (by_first_word n follows ((name ++ codes ":") ∷ []) d)
label_formed n follows d name there fits =
    let h = named name fits in
    let is =
    label_reads_by n follows d (name ++ codes ":") name h.first (h.rest ++ codes ":")
    (ap (λ (w : Word). w ++ codes ":") h.whole) h.byte (label_name_again name) in
    subst Formed (sym is) (label_line_formed name d there fits)

object_by : (n : ℕ) (follows : Bool) (ws : List Word) (d : Draft)
    → Formed (object_line ws d) → Formed (by_first_word n follows (codes ".object" ∷ ws) d)
unfolding by_first_word
object_by n follows ws d h = h

bank_by : (n : ℕ) (follows : Bool) (ws : List Word) (d : Draft)
    → Formed (bank_line ws d) → Formed (by_first_word n follows (codes ".bank" ∷ ws) d)
unfolding by_first_word
bank_by n follows ws d h = h

symbol_by : (n : ℕ) (follows : Bool) (ws : List Word) (d : Draft)
    → Formed (symbol_line ws d) → Formed (by_first_word n follows (codes ".symbol" ∷ ws) d)
unfolding by_first_word
symbol_by n follows ws d h = h

note_by : (n : ℕ) (follows : Bool) (ws : List Word) (d : Draft)
    → Formed (note_line follows ws d) → Formed (by_first_word n follows (codes ".note" ∷ ws) d)
unfolding by_first_word
note_by n follows ws d h = h

nothing_formed : (n : ℕ) (follows : Bool) (d : Draft) → Formed (by_first_word n follows [] d)
unfolding by_first_word
nothing_formed n follows d = formed_ok _

two_there : (d : Draft) → 2 ≤ length d.banks → takes_code d ≡ true
two_there d two = le-leb 2 (length d.banks) two

pub words_formed : (n : ℕ) (after : List (List ℕ)) (ws : List Word) (d : Draft) (labels : Labels)
    → HasForm (earlier_of d labels) after ws → Formed (by_first_word n (instruction_follows after) ws d)
words_formed n after _ d labels form.Empty = nothing_formed n _ d
words_formed n after _ d labels (form.Object a b c x e f first) =
    object_by n _ _ d (object_formed _ d (profile_formed a b c x e f) (stage-is_none d first))
words_formed n after _ d labels (form.Windowed a b c x e f g h i first) =
    object_by n _ _ d (object_formed _ d (windowed_formed a b c x e f g h i) (stage-is_none d first))
words_formed n after _ d labels (form.Bank a b stage) =
    bank_by n _ _ d (bank_formed a b d (stage-takes_bank d stage))
words_formed n after _ d labels (form.Variable name label shape p q r s fits stage two) =
    symbol_by n _ _ d (symbol_formed _ d (stage-takes_symbol d (two_there d two) stage)
    (symbol_read_formed (width d.profile) d.banks d.symbols name label shape p q r s fits))
words_formed n after _ d labels (form.Labelled name fits two) = label_formed n _ d name (two_there d two) fits
words_formed n after _ d labels (form.Noted mask claims small eight two only more) =
    subst (λ follows. Formed (by_first_word n follows (codes ".note" ∷ hex_word 8 mask ∷ claims) d))
    (sym (test_by_follows after more)) (note_by n true _ d (note_formed _ d (two_there d two) only
    (note_read_formed (length d.banks) (length d.code) mask claims small eight)))
words_formed n after _ d labels (form.Instruction ws h two) =
    subst Formed (sym (is_code n (instruction_follows after) ws d h)) (code_formed n ws d h (two_there d two))

pub line_formed : (n : ℕ) (line : List ℕ) (after : List (List ℕ)) (d : Draft) (labels : Labels)
    → IsOfForm (earlier_of d labels) line after → Formed (line_read n (instruction_follows after) line d)
unfolding line_read
line_formed n line after d labels h = rw h.ascii (words_formed n after (words line) d labels h.form)
