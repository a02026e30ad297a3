-- The canonical text of an object encodes it.
use Rattle.std.proofs.Common.{◌≡◌, ℕ, ◌+◌, ◌^◌, ◌<◌, ◌≤◌, Bool, true, false, eqb, cond, List, [], ◌∷◌, ◌++◌, length, map, Option, Some, None, refl, sym, ap, subst, ◌∙◌, append_assoc, arith}
use Rattle.std.specs.Prelude.{All}
use Rattle.std.proofs.lemmas.Bool.{eqb-true}
use Rattle.std.proofs.lemmas.Bool.Decides.{nat_tests}
use Rattle.std.proofs.lemmas.List.{append-nil}
use Rattle.std.proofs.lemmas.List.Elements.{All-head, All-tail}
use Rattle.gr_base.specs.Prelude.{EachAfter}
use Rattle.gr_base.proofs.AtLast.{at_last-push}
use Rattle.lt_isa.specs.declared.profiles.Profile.{Profile}
use Rattle.lt_isa.specs.declared.profiles.BankSpec.{BankSpec}
use Rattle.lt_isa.specs.declared.symbols.Symbol.{Symbol}
use Rattle.lt_isa.specs.declared.symbols.Note.{Note}
use Rattle.lt_isa.specs.declared.instructions.Instr.{Instr}
use Rattle.lt_isa.specs.Prelude.{Parts, BankFits, SymbolFits, NoteFits, InstrFits, IsInRange, next_place}
use Rattle.lt_isa.proofs.NotePlaces.{notes-inside}
use Rattle.lt_assembler.specs.Prelude.{Word, words_for_bank, words_for_symbol, note_words, instruction_words, code_words, object_lines, canonical, Item, AnObject, ABank, ASymbol, ANote, AnInstruction, WordsSpell, Object, Bank, Variable, Noted, Instruction, LinesSpell, StagesInOrder, place_after, gathered, bank_in, symbol_in, note_in, label_in, instruction_in, labels_in, AreOnce, ItemsSpell, SpellsInText}
use Rattle.lt_assembler.proofs.PlainWords.{AreLines, joined, lines_of, words_joined, ascii_joined}
use Rattle.lt_assembler.proofs.CanonicalWords.{object_plain, bank_line_plain, symbol_plain, note_plain, instruction_plain}
use Rattle.lt_isa.proofs.SymbolPlaces.{most_blocks-le}
use Rattle.lt_assembler.proofs.SpelledRead.{IsSmall, small_symbol, no_banks, no_profile}

-- the lists of words encode the items, one by one
abbrev pub WordsAre : List (List Word) → List Item → Type 0
WordsAre [] [] = Unit {0}
WordsAre [] (item ∷ items) = ⊥
WordsAre (ws ∷ wss) [] = ⊥
WordsAre (ws ∷ wss) (item ∷ items) = WordsSpell ws item × WordsAre wss items

lines_are : (wss : List (List Word)) (items : List Item)
    → AreLines wss → WordsAre wss items → LinesSpell (map joined wss) items
lines_are [] [] plain are = tt
lines_are [] (item ∷ items) plain are = absurd are
lines_are (ws ∷ wss) [] plain are = absurd are
lines_are (ws ∷ wss) (item ∷ items) plain are = (
  ascii_joined ws plain.0,
  subst (λ us. WordsSpell us item) (sym (words_joined ws plain.0)) are.0,
  lines_are wss items plain.1 are.1,
)

are_append : (xs ys : List (List Word)) (is js : List Item)
    → WordsAre xs is → WordsAre ys js → WordsAre (xs ++ ys) (is ++ js)
are_append [] ys [] js h k = k
are_append [] ys (i ∷ is) js h k = absurd h
are_append (x ∷ xs) ys [] js h k = absurd h
are_append (x ∷ xs) ys (i ∷ is) js h k = (h.0, are_append xs ys is js h.1 k)

banks_are : (bs : List BankSpec) → WordsAre (map words_for_bank bs) (map ABank bs)
banks_are [] = tt
banks_are (b ∷ bs) = (Bank b, banks_are bs)

symbols_are : (ss : List Symbol) → WordsAre (map words_for_symbol ss) (map ASymbol ss)
symbols_are [] = tt
symbols_are (s ∷ ss) = (Variable s, symbols_are ss)

-- what items yield that come before others

none_in_front : {X Y : Type 0} (give : ℕ → Item → List Y) (f : X → Item) (place : ℕ) → ((x : X) → give place (f x) ≡ [])
    → ((x : X) → place_after place (f x) ≡ place) → (xs : List X) (rest : List Item)
    → gathered give place (map f xs ++ rest) ≡ gathered give place rest
none_in_front give f place none same [] rest = refl
none_in_front {Y = Y} give f place none same (x ∷ xs) rest =
    ap (λ (ys : List Y). ys ++ gathered give (place_after place (f x)) (map f xs ++ rest)) (none x)
    ∙ ap (λ p. gathered give p (map f xs ++ rest)) (same x) ∙ none_in_front give f place none same xs rest

all_in_front : {X : Type 0} (give : ℕ → Item → List X) (f : X → Item) (place : ℕ)
    → ((x : X) → give place (f x) ≡ x ∷ []) → ((x : X) → place_after place (f x) ≡ place)
    → (xs : List X) (rest : List Item) → gathered give place (map f xs ++ rest) ≡ xs ++ gathered give place rest
all_in_front give f place one same [] rest = refl
all_in_front {X} give f place one same (x ∷ xs) rest =
    ap (λ (ys : List X). ys ++ gathered give (place_after place (f x)) (map f xs ++ rest)) (one x)
    ∙ ap (λ (ys : List X). x ∷ ys)
    (ap (λ p. gathered give p (map f xs ++ rest)) (same x) ∙ all_in_front give f place one same xs rest)

symbols_order : (ss : List Symbol) (rest : List Item) → StagesInOrder 3 rest → StagesInOrder 3 (map ASymbol ss ++ rest)
symbols_order [] rest h = h
symbols_order (s ∷ ss) rest h = ((omega arith, omega arith), symbols_order ss rest h)

banks_order : (bs : List BankSpec) (rest : List Item) → StagesInOrder 2 rest → StagesInOrder 2 (map ABank bs ++ rest)
banks_order [] rest h = h
banks_order (b ∷ bs) rest h = ((omega arith, omega arith), banks_order bs rest h)

-- symbols or code after the banks
symbols_late : (ss : List Symbol) (rest : List Item)
    → StagesInOrder 3 rest → StagesInOrder 2 rest → StagesInOrder 2 (map ASymbol ss ++ rest)
symbols_late [] rest h k = k
symbols_late (s ∷ ss) rest h k = ((omega arith, omega arith), symbols_order ss rest h)

-- banks after the first line
first_order : (bs : List BankSpec) (rest : List Item)
    → StagesInOrder 2 (map ABank bs ++ rest) → 2 ≤ length bs → StagesInOrder 1 (map ABank bs ++ rest)
first_order [] rest h some = absurd (omega (arith, some))
first_order (b ∷ bs) rest h some = ((omega arith, omega arith), h.1)

-- notes in rising order of place, from one place on and below another
abbrev Rising : List Note → ℕ → ℕ → Type 0
Rising [] from below = Unit {0}
Rising (m ∷ notes) from below = (from ≤ m.pc) × (m.pc < below) × Rising notes (m.pc + 1) below

rising : (banks below : ℕ) (before notes : List Note) → EachAfter (NoteFits banks) before notes
    → All (λ (m : Note). m.pc < below) notes → Rising notes (next_place before) below
rising banks below before [] each all = tt
rising banks below before (m ∷ notes) each all = (
  each.0.pc.0,
  All-head (λ (x : Note). x.pc < below) m notes all,
  subst (λ p. Rising notes p below) (at_last-push (λ (x : Note). x.pc + 1) before m)
      (rising banks below (before ++ m ∷ []) notes each.1 (All-tail (λ (x : Note). x.pc < below) m notes all)),
)

-- the items of lines of code, and what they yield
record CodeGives (wss : List (List Word)) (notes : List Note) (place : ℕ) (code : List Instr) : Type 0 where
  items : List Item
  are : WordsAre wss items
  ordered : (stage : ℕ) → 2 ≤ stage → StagesInOrder stage items
  symbols : gathered symbol_in place items ≡ []
  noted : gathered note_in place items ≡ notes
  labels : gathered label_in place items ≡ []
  given : (labels : List (Word × ℕ)) → gathered (instruction_in labels) place items ≡ map Some code

with_instruction : (wss : List (List Word)) (notes : List Note) (place : ℕ) (i : Instr) (code : List Instr)
    → CodeGives wss notes (place + 1) code → CodeGives (instruction_words i ∷ wss) notes place (i ∷ code)
with_instruction wss notes place i code h = record {
  items = AnInstruction i None ∷ h.items;
  are = (Instruction i, h.are);
  ordered = λ stage late. (late, h.ordered 4 (omega arith));
  symbols = h.symbols;
  noted = h.noted;
  labels = h.labels;
  given = λ labels. ap (λ (xs : List (Option Instr)). Some i ∷ xs) (h.given labels);
}

with_note : (wss : List (List Word)) (notes : List Note) (place : ℕ) (m : Note) (code : List Instr)
    → m.pc ≡ place → CodeGives wss notes place code → CodeGives (note_words m ∷ wss) (m ∷ notes) place code
with_note wss notes place m code here h = record {
  items = ANote m.secrets m.slots ∷ h.items;
  are = (Noted m.secrets m.slots, h.are);
  ordered = λ stage late. (late, h.ordered 4 (omega arith));
  symbols = h.symbols;
  noted = ap (λ p. record { pc = p; secrets = m.secrets; slots = m.slots } ∷ gathered note_in place h.items) (sym here)
      ∙ ap (λ (ns : List Note). m ∷ ns) h.noted;
  labels = h.labels;
  given = h.given;
}

chosen : (b : Bool) (xs ys : List (List Word)) (notes : List Note) (place : ℕ) (code : List Instr)
    → (b ≡ true → CodeGives xs notes place code) → (b ≡ false → CodeGives ys notes place code)
    → CodeGives (cond b xs ys) notes place code
chosen true xs ys notes place code h k = h refl
chosen false xs ys notes place code h k = k refl

past : (a b : ℕ) → eqb a b ≡ false → b ≤ a → b + 1 ≤ a
past a b e le = grind (arith, nat_tests)

code_gives : (notes : List Note) (place : ℕ) (code : List Instr) (below : ℕ)
    → below ≡ place + length code → Rising notes place below → CodeGives (code_words notes place code) notes place code
code_gives [] place [] below end r =
    record {
      items = [];
      are = tt;
      ordered = λ stage late. tt;
      symbols = refl;
      noted = refl;
      labels = refl;
      given = λ labels. refl;
    }
code_gives (m ∷ notes) place [] below end r = absurd (omega (arith, r.0, r.1, end))
code_gives [] place (i ∷ code) below end r =
    with_instruction _ [] place i code (code_gives [] (place + 1) code below (omega (arith, end)) tt)
code_gives (m ∷ notes) place (i ∷ code) below end r = chosen (eqb m.pc place) _ _ (m ∷ notes) place (i ∷ code)
    (λ e.
    let here : m.pc ≡ place = eqb-true _ _ e in
    with_note _ notes place m (i ∷ code) here
    (with_instruction _ notes place i code
    (code_gives notes (place + 1) code below (omega (arith, end)) (subst (λ p. Rising notes (p + 1) below) here r.2))))
    (λ e. with_instruction _ (m ∷ notes) place i code
    (code_gives (m ∷ notes) (place + 1) code below (omega (arith, end)) (past m.pc place e r.0, r.1, r.2)))

-- the words of the lines are plain

lines_append : (xs ys : List (List Word)) → AreLines xs → AreLines ys → AreLines (xs ++ ys)
lines_append [] ys h k = k
lines_append (x ∷ xs) ys h k = (h.0, lines_append xs ys h.1 k)

bank_lines : (before bs : List BankSpec) → EachAfter BankFits before bs → AreLines (map words_for_bank bs)
bank_lines before [] each = tt
bank_lines before (b ∷ bs) each = (
  bank_line_plain b (omega (arith, each.0.blocks.1, most_blocks-le (length before))) each.0.latency.1,
  bank_lines (before ++ b ∷ []) bs each.1,
)

symbol_lines : (p : Profile) (banks : List BankSpec) (before ss : List Symbol)
    → IsSmall p banks → EachAfter (SymbolFits (2 ^ p.block_log) banks) before ss → AreLines (map words_for_symbol ss)
symbol_lines p banks before [] memory each = tt
symbol_lines p banks before (s ∷ ss) memory each = (
  symbol_plain s (small_symbol p banks before s memory each.0),
  symbol_lines p banks (before ++ s ∷ []) ss memory each.1,
)

chosen_lines : (b : Bool) (xs ys : List (List Word)) → AreLines xs → AreLines ys → AreLines (cond b xs ys)
chosen_lines true xs ys h k = h
chosen_lines false xs ys h k = k

code_lines : (banks : ℕ) (before notes : List Note) (place : ℕ) (code : List Instr) → banks ≤ 10
    → EachAfter (NoteFits banks) before notes → All (InstrFits banks) code → AreLines (code_words notes place code)
code_lines banks before notes place [] few each fits = tt
code_lines banks before [] place (i ∷ code) few each fits = (
  instruction_plain banks i few (All-head (InstrFits banks) i code fits),
  code_lines banks before [] (place + 1) code few each (All-tail (InstrFits banks) i code fits),
)
code_lines banks before (m ∷ notes) place (i ∷ code) few each fits =
    let here = instruction_plain banks i few (All-head (InstrFits banks) i code fits) in
    let rest = All-tail (InstrFits banks) i code fits in
    chosen_lines (eqb m.pc place) _ _ (
      note_plain banks m few each.0.secrets each.0.slots,
      (here, code_lines banks (before ++ m ∷ []) notes (place + 1) code few each.1 rest),
    )
    (here, code_lines banks before (m ∷ notes) (place + 1) code few each rest)

object_plain_lines : (o : Parts) → IsInRange o → AreLines (object_lines o)
object_plain_lines o h =
    let memory : IsSmall o.profile o.banks =
    record { words = h.profile.block_log.1; count = h.bank_count; each = h.banks } in (
      object_plain o.profile h.profile,
      lines_append (map words_for_bank o.banks ++ map words_for_symbol o.symbols) (code_words o.notes 0 o.code)
          (lines_append (map words_for_bank o.banks) (map words_for_symbol o.symbols) (bank_lines [] o.banks h.banks)
          (symbol_lines o.profile o.banks [] o.symbols memory h.symbols))
          (code_lines (length o.banks) [] o.notes 0 o.code h.bank_count.1 h.notes h.code),
    )

object_code : (o : Parts) → IsInRange o → CodeGives (code_words o.notes 0 o.code) o.notes 0 o.code
object_code o h =
    code_gives o.notes 0 o.code (length o.code) (omega arith)
    (rising (length o.banks) (length o.code) [] o.notes h.notes (notes-inside o h))

-- the items of an object's lines
record ObjectGives (o : Parts) : Type 0 where
  items : List Item
  are : WordsAre (object_lines o) items
  spell : ItemsSpell items o

object_gives : (o : Parts) → IsInRange o → ObjectGives o
object_gives o h =
    let code = object_code o h in
    let behind_banks = map ASymbol o.symbols ++ code.items in
    let order =
    banks_order o.banks behind_banks
    (symbols_late o.symbols code.items (code.ordered 3 (omega arith)) (code.ordered 2 (omega arith))) in
    let labels : gathered label_in 0 (AnObject o.profile ∷ (map ABank o.banks ++ behind_banks)) ≡ [] =
    none_in_front label_in ABank 0 (λ x. refl) (λ x. refl) o.banks behind_banks
    ∙ none_in_front label_in ASymbol 0 (λ x. refl) (λ x. refl) o.symbols code.items ∙ code.labels in
    record {
      items = AnObject o.profile ∷ (map ABank o.banks ++ behind_banks);
      are = (
        Object o.profile,
        subst (λ wss. WordsAre wss (map ABank o.banks ++ behind_banks))
            (sym (append_assoc (map words_for_bank o.banks) (map words_for_symbol o.symbols)
            (code_words o.notes 0 o.code)))
            (are_append (map words_for_bank o.banks) _ (map ABank o.banks) _ (banks_are o.banks)
            (are_append (map words_for_symbol o.symbols) _ (map ASymbol o.symbols) _ (symbols_are o.symbols) code.are)),
      );
      spell = record {
        ordered = (refl, first_order o.banks behind_banks order h.bank_count.0);
        profile = ap (λ (ps : List Profile). o.profile ∷ ps)
            (no_profile 2 0 (map ABank o.banks ++ behind_banks) (omega arith) order);
        banks = all_in_front bank_in ABank 0 (λ x. refl) (λ x. refl) o.banks behind_banks
            ∙ ap (λ (bs : List BankSpec). o.banks ++ bs)
            (none_in_front bank_in ASymbol 0 (λ x. refl) (λ x. refl) o.symbols code.items
            ∙ no_banks 3 0 code.items (omega arith) (code.ordered 3 (omega arith)))
            ∙ append-nil o.banks;
        symbols = none_in_front symbol_in ABank 0 (λ x. refl) (λ x. refl) o.banks behind_banks
            ∙ all_in_front symbol_in ASymbol 0 (λ x. refl) (λ x. refl) o.symbols code.items
            ∙ ap (λ (ss : List Symbol). o.symbols ++ ss) code.symbols ∙ append-nil o.symbols;
        notes = none_in_front note_in ABank 0 (λ x. refl) (λ x. refl) o.banks behind_banks
            ∙ none_in_front note_in ASymbol 0 (λ x. refl) (λ x. refl) o.symbols code.items ∙ code.noted;
        labels = subst AreOnce (sym labels) tt;
        code = none_in_front (instruction_in (labels_in (AnObject o.profile ∷ (map ABank o.banks ++ behind_banks))))
            ABank 0 (λ x. refl) (λ x. refl) o.banks behind_banks
            ∙ none_in_front (instruction_in (labels_in (AnObject o.profile ∷ (map ABank o.banks ++ behind_banks))))
            ASymbol 0 (λ x. refl) (λ x. refl) o.symbols code.items
            ∙ code.given (labels_in (AnObject o.profile ∷ (map ABank o.banks ++ behind_banks)));
      };
    }

-- the canonical text encodes its object
pub canonical-spells : (o : Parts) → IsInRange o → SpellsInText (canonical o) o
unfolding canonical
canonical-spells o h =
    let plain = object_plain_lines o h in
    let gives = object_gives o h in
    record {
      items = gives.items;
      said = subst (λ ls. LinesSpell ls gives.items) (sym (lines_of (object_lines o) plain))
          (lines_are (object_lines o) gives.items plain gives.are);
      object = gives.spell;
      in_range = h;
    }
