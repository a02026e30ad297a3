-- A line of more than ten words has no form.
use Rattle.std.proofs.Common.{◌≡◌, ℕ, ◌<◌, Bool, true, false, cond, List, ◌∷◌, length, Option, Some, None, Result, Err, refl, sym, ap, arith}
use Rattle.std.specs.Prelude.{ok_or, bytes_eq, codes, ◌&&◌, nat_eq, is_none, not}
use Rattle.lt_assembler.specs.declared.mnemonics.Mnemonic.{Mnemonic}
use Rattle.lt_assembler.specs.declared.mnemonics.Mnemonic.TheVariants.{Nop}
use Rattle.lt_assembler.specs.declared.faults.Fault.{Fault}
use Rattle.lt_assembler.specs.declared.faults.Fault.TheVariants.{WrongForm}
use Rattle.lt_assembler.specs.Prelude.{Word, mnemonic_named, unless_not, is_ascii_line, first_line, line_words, Draft, takes_bank, takes_symbol, takes_code, is_noted, profile_read, object_line, bank_read, bank_line, symbol_read, symbol_line, width, note_read, note_line, label_name, label_line, code_line, label_or_code, by_first_word, line_read, is_instruction_line, Coded, li_read, alu_read, ldb_read, stb_read, idb_read, access_read, jmp_read, br_read, operands_read, instruction_read, is_instruction}
use Rattle.gr_base.specs.Prelude.{◌>>=◌}
use Rattle.std.proofs.lemmas.Bool.Decides.{nat_tests}
use Rattle.lt_isa.specs.declared.profiles.BankSpec.{BankSpec}
use Rattle.lt_isa.specs.declared.symbols.Symbol.{Symbol}
use Rattle.lt_assembler.proofs.Splitting.{on_test}
use Rattle.gr_word.specs.Prelude.{is_name}

-- a list of more than ten words, taken apart
data IsLong : List Word → Type 0 where
  Long : (a b c d e f g h : Word) → (rest : List Word) → 2 < length rest → IsLong (a ∷ b ∷ c ∷ d ∷ e ∷ f ∷ g ∷ h ∷ rest)

long : (words : List Word) → 10 < length words → IsLong words
long (a ∷ b ∷ c ∷ d ∷ e ∷ f ∷ g ∷ x ∷ rest) h = Long a b c d e f g x rest (omega arith)
long _ h = absurd (omega arith)

operands_long : (banks place : ℕ) (m : Mnemonic) (b c d e f g : Word) (rest : List Word)
    → operands_read banks place m (b ∷ c ∷ d ∷ e ∷ f ∷ g ∷ rest) ≡ Err WrongForm
unfolding li_read alu_read ldb_read stb_read idb_read access_read jmp_read br_read
operands_long banks place Nop b c d e f g rest = refl
operands_long banks place _ b c d e f g rest = refl

behind_mnemonic : (m : Option Mnemonic) (f : Mnemonic → Result Coded Fault) → ((x : Mnemonic) → f x ≡ Err WrongForm)
    → (ok_or m WrongForm >>= f) ≡ Err WrongForm
behind_mnemonic None f h = refl
behind_mnemonic (Some m) f h = h m

of_long : (banks place : ℕ) (a b c d e f g : Word) (rest : List Word)
    → instruction_read banks place (a ∷ b ∷ c ∷ d ∷ e ∷ f ∷ g ∷ rest) ≡ Err WrongForm
unfolding instruction_read
of_long banks place a b c d e f g rest =
    behind_mnemonic (mnemonic_named a) (λ m. operands_read banks place m (b ∷ c ∷ d ∷ e ∷ f ∷ g ∷ rest))
    (λ m. operands_long banks place m b c d e f g rest)

instruction_of_long : (banks place : ℕ) (words : List Word) → IsLong words
    → instruction_read banks place words ≡ Err WrongForm
instruction_of_long banks place _ (Long a b c d e f g h rest more) = of_long banks place a b c d e f g (h ∷ rest)

pub instruction_long : (banks place : ℕ) (words : List Word) → 10 < length words
    → instruction_read banks place words ≡ Err WrongForm
instruction_long banks place words h = instruction_of_long banks place words (long words h)

-- a line of more than ten words isn't an instruction
pub is_instruction_long : (words : List Word) → 10 < length words → is_instruction words ≡ false
unfolding is_instruction
is_instruction_long words h = rw (instruction_long 2 0 words h) refl

-- a test, and then an error of the line's form
refused : {X : Type 0} (b : Bool) (f : Unit {0} → Result X Fault) → f tt ≡ Err WrongForm
    → (unless_not WrongForm b >>= f) ≡ Err WrongForm
refused true f h = h
refused false f h = refl

-- a test that fails
barred : {X : Type 0} (b : Bool) (f : Unit {0} → Result X Fault)
    → b ≡ false → (unless_not WrongForm b >>= f) ≡ Err WrongForm
barred b f fails = rw fails refl

stopped : {X Y : Type 0} (r : Result X Fault) (f : X → Result Y Fault) → r ≡ Err WrongForm → (r >>= f) ≡ Err WrongForm
stopped r f h = rw h refl

object_long : (d : Draft) (a b c e f g h : Word) (rest : List Word) → 2 < length rest
    → object_line (a ∷ b ∷ c ∷ e ∷ f ∷ g ∷ h ∷ rest) d ≡ Err WrongForm
unfolding object_line profile_read
object_long d a b c e f g h (i ∷ j ∷ k ∷ rest) more = refused (is_none d.profile) _ refl
object_long d a b c e f g h _ more = absurd (omega arith)

bank_long : (d : Draft) (a b c : Word) (rest : List Word) → bank_line (a ∷ b ∷ c ∷ rest) d ≡ Err WrongForm
unfolding bank_line bank_read
bank_long d a b c rest = refused (takes_bank d) _ refl

both_false : (a b : Bool) → a ≡ false → (a && b) ≡ false
both_false a b fails = rw fails refl

last_false : (a b c : Bool) → c ≡ false → (a && (b && c)) ≡ false
last_false true true c fails = fails
last_false true false c fails = refl
last_false false b c fails = refl

symbol_of_long : (w : ℕ) (banks : List BankSpec) (before : List Symbol) (a b c : Word) (site : List Word)
    → 4 < length site → symbol_read w banks before (a ∷ b ∷ c ∷ site) ≡ Err WrongForm
unfolding symbol_read
symbol_of_long w banks before a b c site more =
    let wrong : nat_eq (length site) 4 ≡ false = grind (arith, nat_tests) in
    barred (nat_eq (length site) 4 && is_name a) _ (both_false _ (is_name a) wrong)

symbol_long : (d : Draft) (a b c : Word) (site : List Word) → 4 < length site
    → symbol_line (a ∷ b ∷ c ∷ site) d ≡ Err WrongForm
unfolding symbol_line
symbol_long d a b c site more =
    refused (takes_symbol d) _ (stopped _ _ (symbol_of_long (width d.profile) d.banks d.symbols a b c site more))

note_of_long : (banks place : ℕ) (mask : Word) (claims : List Word) → 8 < length claims
    → note_read banks place (mask ∷ claims) ≡ Err WrongForm
unfolding note_read
note_of_long banks place mask claims more =
    let wrong : nat_eq (length claims) 8 ≡ false = grind (arith, nat_tests) in
    barred (nat_eq (length claims) 8) _ wrong

note_long : (d : Draft) (follows : Bool) (mask : Word) (claims : List Word) → 8 < length claims
    → note_line follows (mask ∷ claims) d ≡ Err WrongForm
unfolding note_line
note_long d follows mask claims more =
    refused (takes_code d && (not (is_noted d) && follows)) _
    (stopped _ _ (note_of_long (length d.banks) (length d.code) mask claims more))

label_long : (d : Draft) (name : Word) (behind : List Word)
    → 0 < length behind → label_line name behind d ≡ Err WrongForm
unfolding label_line
label_long d name behind more =
    let wrong : nat_eq (length behind) 0 ≡ false = grind (arith, nat_tests) in
    barred (takes_code d && (is_name name && nat_eq (length behind) 0)) _
    (last_false (takes_code d) (is_name name) _ wrong)

code_long : (d : Draft) (n : ℕ) (line : List Word) → 10 < length line → code_line n line d ≡ Err WrongForm
unfolding code_line
code_long d n line more =
    refused (takes_code d) _ (stopped _ _ (instruction_long (length d.banks) (length d.code) line more))

other_long : (d : Draft) (n : ℕ) (name : Option Word) (first : Word) (behind : List Word)
    → 10 < length (first ∷ behind) → label_or_code n name first behind d ≡ Err WrongForm
other_long d n None first behind more = code_long d n (first ∷ behind) more
other_long d n (Some name) first behind more = label_long d name behind (omega arith)

either : {X : Type 0} (b : Bool) (x y z : X) → x ≡ z → y ≡ z → cond b x y ≡ z
either true x y z p q = p
either false x y z p q = q

of_long_line : (n : ℕ) (follows : Bool) (d : Draft) (line : List Word) → IsLong line → 10 < length line
    → by_first_word n follows line d ≡ Err WrongForm
unfolding by_first_word
of_long_line n follows d _ (Long a b c e f g h i rest more) long =
    either (bytes_eq a (codes ".object")) _ _ _ (object_long d b c e f g h i rest more)
    (either (bytes_eq a (codes ".bank")) _ _ _ (bank_long d b c e (f ∷ g ∷ h ∷ i ∷ rest))
    (either (bytes_eq a (codes ".symbol")) _ _ _ (symbol_long d b c e (f ∷ g ∷ h ∷ i ∷ rest) (omega arith))
    (either (bytes_eq a (codes ".note")) _ _ _ (note_long d follows b (c ∷ e ∷ f ∷ g ∷ h ∷ i ∷ rest) (omega arith))
    (other_long d n (label_name a) a (b ∷ c ∷ e ∷ f ∷ g ∷ h ∷ i ∷ rest) long))))

-- a line of more than ten words has no form
pub words_long : (n : ℕ) (follows : Bool) (d : Draft) (line : List Word) → 10 < length line
    → by_first_word n follows line d ≡ Err WrongForm
words_long n follows d line h = of_long_line n follows d line (long line h) h

-- a line by its words
pub line_of_words : (n : ℕ) (follows : Bool) (d : Draft) (text : List ℕ) (ws : List Word)
    → is_ascii_line (first_line text) ≡ true → ws ≡ line_words text
    → line_read n follows (first_line text) d ≡ by_first_word n follows ws d
unfolding line_read
line_of_words n follows d text ws ascii is = rw ascii (ap (λ line. by_first_word n follows line d) (sym is))

-- a line that isn't ASCII or has more than ten words has no form
pub line_refused : (n : ℕ) (follows : Bool) (d : Draft) (text : List ℕ)
    → (is_ascii_line (first_line text) ≡ true → 10 < length (line_words text))
    → line_read n follows (first_line text) d ≡ Err WrongForm
unfolding line_read
line_refused n follows d text h = on_test (is_ascii_line (first_line text))
    (λ (ascii : is_ascii_line (first_line text) ≡ true).
    rw ascii (words_long n follows d (line_words text) (h ascii)))
    (λ (other : is_ascii_line (first_line text) ≡ false). rw other refl)

-- whether a line has the form of an instruction
pub form_of_words : (text : List ℕ) (ws : List Word) → is_ascii_line (first_line text) ≡ true → ws ≡ line_words text
    → is_instruction_line (first_line text) ≡ is_instruction ws
unfolding is_instruction_line
form_of_words text ws ascii is = rw ascii (ap is_instruction (sym is))

pub form_refused : (text : List ℕ) → (is_ascii_line (first_line text) ≡ true → 10 < length (line_words text))
    → is_instruction_line (first_line text) ≡ false
unfolding is_instruction_line
form_refused text h = on_test (is_ascii_line (first_line text))
    (λ (ascii : is_ascii_line (first_line text) ≡ true). rw ascii (is_instruction_long (line_words text) (h ascii)))
    (λ (other : is_ascii_line (first_line text) ≡ false). rw other refl)
