-- If reading a line doesn't fail for its form, the line has a form that is allowed there; and if its numbers are in
-- range, it encodes an item in range.
use Rattle.std.proofs.Common.{◌≡◌, ℕ, ◌≤◌, Bool, true, false, not, eqb, ltb, cond, List, [], ◌∷◌, ◌++◌, length, Option, Some, None, Result, refl, sym, ap, subst, ◌∙◌}
use Rattle.std.specs.Prelude.{◌&&◌, bytes_eq, codes, is_none}
use Rattle.std.proofs.lemmas.Bool.{and_parts, leb-true, ltb-false, not-true, eqb-true}
use Rattle.std.proofs.lemmas.List.{nil_from_length}
use Rattle.gr_word.specs.Prelude.{is_name}
use Rattle.lt_isa.specs.Prelude.{NoteFits, next_place, LiesBehind}
use Rattle.lt_assembler.specs.declared.faults.Fault.{Fault}
use Rattle.lt_assembler.specs.Prelude.{Word, Labels, Draft, place_of, takes_bank, takes_symbol, takes_code, is_noted, object_line, bank_line, width, is_new, has_room, symbol_line, note_line, label_name, label_line, code_line, label_or_code, by_first_word, instruction_follows, Item, Nothing, AnObject, ABank, ASymbol, ALabel, ANote, AnInstruction, WordsSpell, Empty, Object, Bank, Variable, Label, Noted, HasForm, FitsRanges}
use Rattle.lt_assembler.proofs.Added.{is_none-stage, takes_bank-stage, takes_symbol-stage}
use Rattle.lt_assembler.proofs.CodeLines.{note_fits}
use Rattle.lt_assembler.proofs.Earlier.{earlier_of, width_is}
use Rattle.lt_assembler.proofs.FormsRead.{follows_by_test}
use Rattle.lt_assembler.proofs.HeadLines.{DraftFits, profile_fits, bank_fits, memory_of}
use Rattle.lt_assembler.proofs.InstructionsRead.{instruction_read_so}
use Rattle.lt_assembler.proofs.NamedWords.{same_word}
use Rattle.lt_assembler.proofs.ReadsForm.{form_as, LineReads, line_ok, line_if, line_then, line_name, line_limit}
use Rattle.lt_assembler.proofs.SymbolRanges.{symbol_lies}
use Rattle.lt_assembler.proofs.Waiting.{ends_in}
use Rattle.lt_assembler.specs.Forms as form

-- words encode an item in range
pub record SpellIn (d : Draft) (labels : Labels) (ws : List Word) : Type 0 where
  pub item : Item
  pub spells : WordsSpell ws item
  pub fits : FitsRanges (earlier_of d labels) item

-- an item in range that words encode
spell_in : (d : Draft) (labels : Labels) (ws us : List Word) (item : Item) → WordsSpell us item → ws ≡ us
    → FitsRanges (earlier_of d labels) item → SpellIn d labels ws
spell_in d labels ws us item s is fits =
    record { item = item; spells = subst (λ vs. WordsSpell vs item) (sym is) s; fits = fits }

abbrev ReadsLine : Draft → Labels → List (List ℕ) → Result Draft Fault → List Word → Type 0
ReadsLine d labels after r ws = LineReads r (HasForm (earlier_of d labels) after ws) (SpellIn d labels ws)

module _ (d : Draft) (labels : Labels) (after : List (List ℕ)) (h : DraftFits d) where
  object_reads : (ws : List Word) → ReadsLine d labels after (object_line ws d) (codes ".object" ∷ ws)
  unfolding object_line
  object_reads ws =
      line_if (is_none d.profile) _ _ _ (λ first.
      let start = is_none-stage d first in
      line_then _ _ _ _ _
      (profile_fits (HasForm (earlier_of d labels) after (codes ".object" ∷ ws)) ws
      (λ a b c x e f is. rw is (form.Object a b c x e f start))
      (λ a b c x e f g i j is. rw is (form.Windowed a b c x e f g i j start)))
      (λ p has found.
      line_ok _ _ _ has (spell_in d labels _ _ (AnObject p) (Object p) found.1 found.0)))

  bank_reads : (ws : List Word) → ReadsLine d labels after (bank_line ws d) (codes ".bank" ∷ ws)
  unfolding bank_line
  bank_reads ws =
      line_if (takes_bank d) _ _ _ (λ there.
      let stage = takes_bank-stage d there in
      line_then _ _ _ _ _
      (bank_fits (HasForm (earlier_of d labels) after (codes ".bank" ∷ ws)) (length d.banks) ws
      (λ a b is. rw is (form.Bank a b stage)))
      (λ bank has found.
      let s =
      spell_in d labels _ _ (ABank bank) (Bank bank) found.2 (record { blocks = found.0; latency = found.1 }) in
      line_limit (ltb (length d.banks) 10) _ _ _ has s (line_ok _ _ _ has s)))

  symbol_reads : (ws : List Word) → ReadsLine d labels after (symbol_line ws d) (codes ".symbol" ∷ ws)
  unfolding symbol_line
  symbol_reads ws =
      line_if (takes_symbol d) _ _ _ (λ there.
      let memory = memory_of d h there in
      let stage = takes_symbol-stage d memory.count there in
      line_then _ _ _ _ _
      (symbol_lies (width d.profile) d.banks d.symbols memory
      (HasForm (earlier_of d labels) after (codes ".symbol" ∷ ws)) ws
      (λ name label shape p q r s named is. rw is (form.Variable name label shape p q r s named stage memory.count)))
      (λ symbol has found.
      let lies =
      subst (λ w. LiesBehind w d.banks d.symbols symbol) (sym (width_is d.profile))
      (found.0.site.lies symbol.name symbol.label) in
      let s = spell_in d labels _ _ (ASymbol symbol) (Variable symbol) found.1 (found.0.name, lies) in
      line_name (is_new d.symbols symbol.name) _ _ _ has s
      (line_limit (has_room d.symbols symbol) _ _ _ has s (line_ok _ _ _ has s))))

  note_reads : (ws : List Word)
      → ReadsLine d labels after (note_line (instruction_follows after) ws d) (codes ".note" ∷ ws)
  unfolding note_line
  note_reads ws =
      line_if (takes_code d && (not (is_noted d) && instruction_follows after)) _ _ _ (λ there.
      let p = and_parts _ _ there in
      let q = and_parts _ _ p.1 in
      let two : 2 ≤ length d.banks = leb-true _ _ p.0 in
      let only : next_place d.notes ≤ length d.code = ltb-false _ _ (not-true _ q.0) in
      let more = follows_by_test after q.1 in
      line_then _ _ _ _ _
      (note_fits (HasForm (earlier_of d labels) after (codes ".note" ∷ ws)) (length d.banks) (length d.code) d.notes ws
      two h.head.bank_count only h.lines.code_count
      (λ mask claims small eight is. rw is (form.Noted mask claims small eight two only more)))
      (λ note has found.
      let fits =
      subst
      (λ k. NoteFits (length d.banks) d.notes (record { pc = k; secrets = note.secrets; slots = note.slots }))
      found.1 found.0 in
      let s =
      spell_in d labels _ _ (ANote note.secrets note.slots) (Noted note.secrets note.slots) found.2 fits in
      line_limit (ltb (length d.notes) 262144) _ _ _ has s (line_ok _ _ _ has s)))

  label_reads : (name word : Word) (ws : List Word) → word ≡ name ++ codes ":"
      → ReadsLine d labels after (label_line name ws d) (word ∷ ws)
  unfolding label_line
  label_reads name word ws is =
      line_if (takes_code d && (is_name name && eqb (length ws) 0)) _ _ _ (λ there.
      let p = and_parts _ _ there in
      let q = and_parts _ _ p.1 in
      let none : ws ≡ [] = nil_from_length ws (eqb-true _ _ q.1) in
      let line : word ∷ ws ≡ (name ++ codes ":") ∷ [] =
      ap (λ (w : Word). w ∷ ws) is ∙ ap (λ (vs : List Word). (name ++ codes ":") ∷ vs) none in
      let has = subst (HasForm (earlier_of d labels) after) (sym line) (form.Labelled name q.0 (leb-true _ _ p.0)) in
      let s = spell_in d labels _ _ (ALabel name) (Label name q.0) line tt in
      line_name (is_none (place_of d.labels name)) _ _ _ has s (line_ok _ _ _ has s))

  code_reads : (n : ℕ) (ws : List Word) → ReadsLine d labels after (code_line n ws d) ws
  unfolding code_line
  code_reads n ws =
      line_if (takes_code d) _ _ _ (λ there.
      line_then _ _ _ _ _
      (form_as _ _ _ _ (instruction_read_so (length d.banks) (length d.code) ws h.lines.code_count)
      (λ has. form.Instruction ws has (leb-true _ _ there)))
      (λ coded has found.
      let s : SpellIn d labels ws =
      record { item = AnInstruction found.instr found.target; spells = found.spells; fits = found.plain } in
      line_limit (ltb (length d.code) 1048576) _ _ _ has s (line_ok _ _ _ has s)))

  nothing_reads : (n : ℕ) (follows : Bool) → ReadsLine d labels after (by_first_word n follows [] d) []
  unfolding by_first_word
  nothing_reads n follows =
      line_ok _ _ _ form.Empty (record { item = Nothing; spells = Empty; fits = tt })

  other_reads : (n : ℕ) (name : Option Word) (word : Word) (ws : List Word)
      → ((x : Word) → name ≡ Some x → label_name word ≡ Some x)
      → ReadsLine d labels after (label_or_code n name word ws d) (word ∷ ws)
  other_reads n None word ws named = code_reads n (word ∷ ws)
  other_reads n (Some name) word ws named = label_reads name word ws (ends_in word name (named name refl))

  on_word : (b : Bool) (r s : Result Draft Fault) (ws : List Word)
      → (b ≡ true → ReadsLine d labels after r ws) → ReadsLine d labels after s ws
      → ReadsLine d labels after (cond b r s) ws
  on_word true r s ws k m = k refl
  on_word false r s ws k m = m

  first_is : (word text : Word) (ws : List Word) (r : Result Draft Fault) → bytes_eq word text ≡ true
      → ReadsLine d labels after r (text ∷ ws) → ReadsLine d labels after r (word ∷ ws)
  first_is word text ws r e k = subst (λ w. ReadsLine d labels after r (w ∷ ws)) (sym (same_word word text e)) k

  pub words_read : (n : ℕ) (ws : List Word)
      → ReadsLine d labels after (by_first_word n (instruction_follows after) ws d) ws
  unfolding by_first_word
  words_read n [] = nothing_reads n (instruction_follows after)
  words_read n (word ∷ ws) =
      on_word (bytes_eq word (codes ".object")) _ _ _ (λ e. first_is word _ ws _ e (object_reads ws))
      (on_word (bytes_eq word (codes ".bank")) _ _ _ (λ e. first_is word _ ws _ e (bank_reads ws))
      (on_word (bytes_eq word (codes ".symbol")) _ _ _ (λ e. first_is word _ ws _ e (symbol_reads ws))
      (on_word (bytes_eq word (codes ".note")) _ _ _ (λ e. first_is word _ ws _ e (note_reads ws))
      (other_reads n (label_name word) word ws (λ x e. e)))))
