-- The lines of a text that are read without an error encode items in order. A note that was read waits for an
-- instruction, and one follows.
use Rattle.std.proofs.Common.{◌≡◌, ℕ, ◌+◌, Bool, true, false, not, ltb, eqb, cond, ◌-◌, ◌<◌, List, [], ◌∷◌, ◌++◌, length, get_or, take, Option, Some, None, Result, Ok, Err, refl, sym, ap, subst, ◌∙◌, arith, length-append}
use Rattle.std.specs.Prelude.{◌&&◌, ◌||◌, bytes_eq, codes, is_none}
use Rattle.std.proofs.lemmas.Bool.{and_parts, ltb-true, eqb-true}
use Rattle.std.proofs.lemmas.Option.{cond_some}
use Rattle.std.proofs.lemmas.List.{take_all, take_more}
use Rattle.gr_word.specs.Prelude.{is_name}
use Rattle.lt_assembler.specs.declared.faults.Fault.{Fault}
use Rattle.lt_assembler.specs.declared.faults.Fault.TheVariants.{WrongForm, RepeatedName, Limit}
use Rattle.lt_assembler.specs.Prelude.{Word, words, is_ascii_line, mnemonic_named, in_line, is_instruction, instruction_read, Draft, place_of, takes_bank, takes_symbol, takes_code, is_noted, profile_read, object_line, bank_read, bank_line, symbol_read, width, is_new, has_room, symbol_line, note_read, note_line, label_name, label_line, code_line, label_or_code, by_first_word, line_read, is_instruction_line, instruction_follows, read_lines, Item, Nothing, Empty, LinesSpell, StagesInOrder, stage_behind}
use Rattle.lt_assembler.proofs.Added.{adds, AreFresh, stage_in, stage-added}
use Rattle.lt_assembler.proofs.Found.{read_if}
use Rattle.gr_base.proofs.Results.{IfRead, read_ok, read_err, read_then, read_weaker}
use Rattle.lt_assembler.proofs.NamedWords.{same_word, label_is_none, object_is_none, bank_is_none, symbol_is_none, no_instruction, nothing_is_none}
use Rattle.lt_assembler.proofs.HeadLines.{DraftFits, Says, object_fits, bank_line_fits, symbol_line_fits}
use Rattle.lt_assembler.proofs.CodeLines.{note_line_fits, label_line_fits, code_line_fits}

-- any value may have been read
any_read : {X E : Type 0} (r : Result X E) → IfRead r (λ _. Unit {0})
any_read r = record { then = λ _ _. tt }

-- the code and the notes are as before
pub record SameCode (d e : Draft) : Type 0 where
  pub noted : is_noted e ≡ is_noted d

object_same : (line : List Word) (d : Draft) → IfRead (object_line line d) (SameCode d)
unfolding object_line
object_same line d =
    read_if WrongForm (is_none d.profile) _ _ (λ _.
    read_then _ _ (λ _. Unit {0}) _ (any_read (profile_read line)) (λ p _. read_ok _ _ (record { noted = refl })))

bank_same : (line : List Word) (d : Draft) → IfRead (bank_line line d) (SameCode d)
unfolding bank_line
bank_same line d =
    read_if WrongForm (takes_bank d) _ _ (λ _.
    read_then _ _ (λ _. Unit {0}) _ (any_read (bank_read (length d.banks) line)) (λ b _.
    read_if Limit (ltb (length d.banks) 10) _ _ (λ _. read_ok _ _ (record { noted = refl }))))

symbol_same : (line : List Word) (d : Draft) → IfRead (symbol_line line d) (SameCode d)
unfolding symbol_line
symbol_same line d =
    read_if WrongForm (takes_symbol d) _ _ (λ _.
    read_then _ _ (λ _. Unit {0}) _ (any_read (symbol_read (width d.profile) d.banks d.symbols line)) (λ s _.
    read_if RepeatedName (is_new d.symbols s.name) _ _ (λ _.
    read_if Limit (has_room d.symbols s) _ _ (λ _. read_ok _ _ (record { noted = refl })))))

label_same : (name : Word) (line : List Word) (d : Draft) → IfRead (label_line name line d) (SameCode d)
unfolding label_line
label_same name line d =
    read_if WrongForm (takes_code d && (is_name name && eqb (length line) 0)) _ _ (λ _.
    read_if RepeatedName (is_none (place_of d.labels name)) _ _ (λ _. read_ok _ _ (record { noted = refl })))

-- if a note waits, an instruction follows
abbrev pub Waits : Bool → Draft → Type 0
Waits follows d = is_noted d ≡ true → follows ≡ true

-- after a line that isn't an instruction
waits_on : (this follows : Bool) (d e : Draft)
    → this ≡ false → Waits (this || follows) d → SameCode d e → Waits follows e
waits_on true follows d e wrong h same = λ noted. absurd cc
waits_on false follows d e wrong h same = λ noted. h (sym same.noted ∙ noted)

passes : (this follows : Bool) (d : Draft) (r : Result Draft Fault)
    → this ≡ false → Waits (this || follows) d → IfRead r (SameCode d) → IfRead r (Waits follows)
passes this follows d r other h same = record { then = λ e read. waits_on this follows d e other h (same.then e read) }

note_waits : (follows : Bool) (line : List Word) (d : Draft) → IfRead (note_line follows line d) (Waits follows)
unfolding note_line
note_waits follows line d =
    read_if WrongForm (takes_code d && (not (is_noted d) && follows)) _ _ (λ there.
    let some = (and_parts _ _ (and_parts _ _ there).1).1 in
    read_then _ _ (λ _. Unit {0}) _ (any_read (note_read (length d.banks) (length d.code) line)) (λ n _.
    read_if Limit (ltb (length d.notes) 262144) _ _ (λ _. read_ok _ _ (λ _. some))))

-- after an instruction no note waits
code_waits : (n : ℕ) (follows : Bool) (line : List Word) (d : Draft)
    → DraftFits d → IfRead (code_line n line d) (Waits follows)
unfolding code_line
code_waits n follows line d fits =
    read_if WrongForm (takes_code d) _ _ (λ _.
    read_then _ _ (λ _. Unit {0}) _ (any_read (instruction_read (length d.banks) (length d.code) line)) (λ coded _.
    read_if Limit (ltb (length d.code) 1048576) _ _ (λ _.
    read_ok _ _
    (λ noted. absurd (omega (
      arith,
      ltb-true _ _ noted,
      fits.lines.last_note,
      length-append d.code (coded.instr
          ∷ []),
    ))))))

-- the draft fits, and if a note waits, an instruction follows
pub record Goes (follows : Bool) (d : Draft) : Type 0 where
  pub fits : DraftFits d
  pub waits : Waits follows d

-- the words of line n yield the next draft, and if a note waits there, an instruction follows
pub record GoesBy (n : ℕ) (follows : Bool) (words : List Word) (d e : Draft) : Type 0 where
  pub says : Says n words d e
  pub waits : Waits follows e

both : {n : ℕ} {follows : Bool} {words : List Word} {d : Draft} (r : Result Draft Fault)
    → IfRead r (Says n words d) → IfRead r (Waits follows) → IfRead r (GoesBy n follows words d)
both r h k = record { then = λ e read. record { says = h.then e read; waits = k.then e read } }

-- a word with a name before its ':'
pub ends_in : (word name : Word) → label_name word ≡ Some name → word ≡ name ++ codes ":"
unfolding label_name
ends_in [] name e = absurd cc
ends_in (b ∷ word) name e =
    let size : 1 + length word ≡ length (b ∷ word) = omega arith in
    let last : length (b ∷ word) - 1 < length (b ∷ word) = omega arith in
    let found =
    cond_some (eqb (get_or (b ∷ word) (length (b ∷ word) - 1) 0) 58) (take (length (b ∷ word) - 1) (b ∷ word)) name e in
    let colon : get_or (b ∷ word) (length (b ∷ word) - 1) 0 ≡ 58 = eqb-true _ _ found.0 in
    let whole : take (length (b ∷ word) - 1 + 1) (b ∷ word) ≡ b ∷ word = take_all _ (b ∷ word) (omega arith) in
    sym whole ∙ take_more (b ∷ word) (length (b ∷ word) - 1) 0 last
    ∙ ap (λ (t : Word). t ++ get_or (b ∷ word) (length (b ∷ word) - 1) 0 ∷ []) found.1 ∙ ap (λ c. name ++ c ∷ []) colon

other_goes : (n : ℕ) (follows : Bool) (name : Option Word) (word : Word) (line : List Word) (d : Draft)
    → ((x : Word) → name ≡ Some x → label_name word ≡ Some x) → Goes (is_instruction (word ∷ line) || follows) d
    → IfRead (label_or_code n name word line d) (GoesBy n follows (word ∷ line) d)
other_goes n follows None word line d named h =
    both (code_line n (word ∷ line) d) (code_line_fits n (word ∷ line) d h.fits)
    (code_waits n follows (word ∷ line) d h.fits)
other_goes n follows (Some name) word line d named h =
    let same = named name refl in
    both (label_line name line d) (label_line_fits n name word line d (ends_in word name same) h.fits)
    (passes (is_instruction (word ∷ line)) follows d _ (no_instruction word line (label_is_none word name same)) h.waits
    (label_same name line d))

-- a line by its first word
on_word : {P : Draft → Type 0} (b : Bool) (r s : Result Draft Fault)
    → (b ≡ true → IfRead r P) → IfRead s P → IfRead (cond b r s) P
on_word true r s h k = h refl
on_word false r s h k = k

is_other : (word text : Word) (line : List Word)
    → mnemonic_named text ≡ None → bytes_eq word text ≡ true → is_instruction (word ∷ line) ≡ false
is_other word text line none e = no_instruction word line (ap mnemonic_named (same_word word text e) ∙ none)

-- the first word is equal to a text
first_is : {n : ℕ} {d : Draft} (word text : Word) (line : List Word) (r : Result Draft Fault)
    → bytes_eq word text ≡ true → IfRead r (Says n (text ∷ line) d) → IfRead r (Says n (word ∷ line) d)
first_is {n = n} {d = d} word text line r e h =
    subst (λ w. IfRead r (Says n (w ∷ line) d)) (sym (same_word word text e)) h

pub words_go : (n : ℕ) (follows : Bool) (line : List Word) (d : Draft)
    → Goes (is_instruction line || follows) d → IfRead (by_first_word n follows line d) (GoesBy n follows line d)
unfolding by_first_word
words_go n follows [] d h =
    read_ok d _ (record {
      says = record { fits = h.fits; item = Nothing; spells = Empty; stands = tt; fresh = tt; is = refl };
      waits = waits_on (is_instruction []) follows d d nothing_is_none h.waits (record { noted = refl });
    })
words_go n follows (word ∷ line) d h =
    on_word (bytes_eq word (codes ".object")) _ _
    (λ e. both _ (first_is word _ line _ e (object_fits n line d h.fits))
    (passes _ follows d _ (is_other word _ line object_is_none e) h.waits (object_same line d)))
    (on_word (bytes_eq word (codes ".bank")) _ _
    (λ e. both _ (first_is word _ line _ e (bank_line_fits n line d h.fits))
    (passes _ follows d _ (is_other word _ line bank_is_none e) h.waits (bank_same line d)))
    (on_word (bytes_eq word (codes ".symbol")) _ _
    (λ e. both _ (first_is word _ line _ e (symbol_line_fits n line d h.fits))
    (passes _ follows d _ (is_other word _ line symbol_is_none e) h.waits (symbol_same line d)))
    (on_word (bytes_eq word (codes ".note")) _ _
    (λ e. both _ (first_is word _ line _ e (note_line_fits n follows line d h.fits)) (note_waits follows line d))
    (other_goes n follows (label_name word) word line d (λ x e. e) h))))

-- the line is ASCII, and its words yield the next draft
pub record LineGoes (n : ℕ) (follows : Bool) (line : List ℕ) (d e : Draft) : Type 0 where
  pub ascii : is_ascii_line line ≡ true
  pub by : GoesBy n follows (words line) d e

-- a line that is read
pub line_goes : (n : ℕ) (follows : Bool) (line : List ℕ) (d : Draft)
    → Goes (is_instruction_line line || follows) d → IfRead (line_read n follows line d) (LineGoes n follows line d)
unfolding line_read is_instruction_line
line_goes n follows line d h = by_bytes (is_ascii_line line) refl h where
  by_bytes : (b : Bool) → is_ascii_line line ≡ b → Goes ((b && is_instruction (words line)) || follows) d
      → IfRead (cond b (by_first_word n follows (words line) d) (Err WrongForm)) (LineGoes n follows line d)
  by_bytes true e g = read_weaker _ _ _ (words_go n follows (words line) d g) (λ x k. record { ascii = e; by = k })
  by_bytes false e g = read_err _ _

read_in_line : {X : Type 0} {P : X → Type 0} (n : ℕ) (r : Result X Fault) → IfRead r P → IfRead (in_line n r) P
read_in_line n (Ok x) h = read_ok _ _ (h.then x refl)
read_in_line n (Err fault) h = read_err _ _

-- The lines from number n on encode items in order, and make draft d draft e, which is in range and has no note that
-- waits.
pub record LinesGo (n : ℕ) (ls : List (List ℕ)) (d e : Draft) : Type 0 where
  pub items : List Item
  pub spell : LinesSpell ls items
  pub ordered : StagesInOrder (stage_in d) items
  pub fresh : AreFresh n items d
  pub is : e ≡ adds n items d
  pub goes : Goes false e

-- one more line
one_more : (n : ℕ) (follows : Bool) (line : List ℕ) (rest : List (List ℕ)) (d e f : Draft)
    → DraftFits d → LineGoes n follows line d e → LinesGo (n + 1) rest e f → LinesGo n (line ∷ rest) d f
one_more n follows line rest d e f fits h k =
    let s = h.by.says in
    let stage : stage_in e ≡ stage_behind (stage_in d) s.item =
    ap stage_in s.is ∙ stage-added n s.item d fits.headed s.stands in
    record {
      items = s.item ∷ k.items;
      spell = (h.ascii, s.spells, k.spell);
      ordered = (s.stands, subst (λ m. StagesInOrder m k.items) stage k.ordered);
      fresh = (s.fresh, subst (AreFresh (n + 1) k.items) s.is k.fresh);
      is = k.is ∙ ap (adds (n + 1) k.items) s.is;
      goes = k.goes;
    }

-- lines that are read reach their end
pub lines_go : (n : ℕ) (ls : List (List ℕ)) (d : Draft)
    → Goes (instruction_follows ls) d → IfRead (read_lines n ls d) (LinesGo n ls d)
unfolding read_lines
lines_go n [] d h = read_ok _ _ (record { items = []; spell = tt; ordered = tt; fresh = tt; is = refl; goes = h })
lines_go n (line ∷ rest) d h =
    read_then _ _ _ _ (read_in_line n _ (line_goes n (instruction_follows rest) line d h)) (λ e g.
    read_weaker _ _ _ (lines_go (n + 1) rest e (record { fits = g.by.says.fits; waits = g.by.waits }))
    (λ f k. one_more n (instruction_follows rest) line rest d e f h.fits g k))
