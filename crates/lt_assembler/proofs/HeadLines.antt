-- The first line, banks and symbols: the words encode what is read, and it is in range.
use Rattle.std.proofs.Common.{◌≡◌, ℕ, ◌+◌, ◌-◌, ◌<◌, ◌≤◌, Bool, true, false, not, eqb, ltb, List, [], ◌∷◌, ◌++◌, length, Option, Some, None, Result, refl, sym, ap, subst, ◌∙◌, arith, length-append}
use Rattle.std.specs.Prelude.{◌||◌, All, is_none, is_some, codes, decimal}
use Rattle.std.specs.Map.{values_of}
use Rattle.std.proofs.lemmas.Bool.{and_parts, leb-true, ltb-true, eqb-true}
use Rattle.std.proofs.lemmas.List.{nil_from_length}
use Rattle.std.proofs.lemmas.List.Elements.{All-nil}
use Rattle.std.proofs.lemmas.Nat.{pow_pos}
use Rattle.std.proofs.lemmas.Fmt.{decimal_digit}
use Rattle.lt_isa.specs.declared.profiles.Profile.{Profile}
use Rattle.lt_isa.specs.declared.profiles.BankSpec.{BankSpec}
use Rattle.lt_isa.specs.declared.symbols.Symbol.{Symbol}
use Rattle.lt_isa.specs.declared.symbols.Note.{Note}
use Rattle.lt_isa.specs.declared.instructions.Instr.{Instr}
use Rattle.gr_base.specs.Prelude.{Within, EachAfter}
use Rattle.lt_isa.specs.Prelude.{ProfileFits, BankFits, SymbolFits, NoteFits, InstrFits, next_place, most_blocks, HasUnitPeriod}
use Rattle.lt_isa.proofs.Windows.{IsWindowed, windowed-fits}
use Rattle.gr_base.proofs.EachAfter.{EachAfter-push}
use Rattle.lt_assembler.specs.declared.faults.Fault.{Fault}
use Rattle.lt_assembler.specs.declared.faults.Fault.TheVariants.{WrongForm, RepeatedName, Limit}
use Rattle.lt_assembler.specs.Prelude.{Word, number_within, Draft, Labels, Use, empty_draft, has_code, takes_bank, takes_symbol, is_version, cycles_read, window_read, profile_read, object_line, bank_read, bank_line, width, is_new, has_room, symbol_line, cycles_words, window_words, object_words, words_for_bank, Item, AnObject, ABank, ASymbol, WordsSpell, Object, Bank, Variable, Stands}
use Rattle.lt_assembler.proofs.Added.{added, IsFresh, stage_in, IsHeaded, IsHeaded-added, is_none-stage, stage-is_none, takes_bank-stage, takes_symbol-stage}
use Rattle.lt_assembler.proofs.Found.{read_if, number_from, IsNumber}
use Rattle.lt_assembler.proofs.ReadsForm.{ReadsForm, form_ok, no_form, form_then, number_then, number_if, form_weaker, form_read}
use Rattle.lt_assembler.proofs.CanonicalWords.{open_words, windowed_words}
use Rattle.gr_base.proofs.Results.{IfRead, read_ok, read_then, some_is}
use Rattle.lt_assembler.proofs.SymbolRanges.{IsMemory, blocks_in-some, symbol_lies, symbol_fits}

-- a number that may be a place of the code
abbrev pub IsPlace : ℕ → Type 0
IsPlace n = n ≤ 1048576

-- a profile, banks and symbols in range, as far as they were read
pub record HeadFits (o : Option Profile) (bs : List BankSpec) (ss : List Symbol) : Type 0 where
  pub profile : (p : Profile) → o ≡ Some p → ProfileFits p
  pub bank_count : length bs ≤ 10
  pub banks : EachAfter BankFits [] bs
  pub symbol_count : length ss ≤ 1024
  pub symbols : EachAfter (SymbolFits (width o) bs) [] ss

-- notes and code in range, in an object with this number of banks, as far as they were read
pub record CodeFits (banks : ℕ) (ns : List Note) (is : List Instr) : Type 0 where
  pub note_count : length ns ≤ 262144
  pub notes : EachAfter (NoteFits banks) [] ns
  pub last_note : next_place ns ≤ length is + 1
  pub code_count : length is ≤ 1048576
  pub code : All (InstrFits banks) is

-- labels and uses of labels, all at places of the code
pub record NamesFit (ls : Labels) (us : List Use) : Type 0 where
  pub labels : All IsPlace (values_of ls)
  pub uses : All (λ u. IsPlace u.place) us

-- all parts of a draft are in range
pub record DraftFits (d : Draft) : Type 0 where
  pub head : HeadFits d.profile d.banks d.symbols
  pub headed : IsHeaded d
  pub lines : CodeFits (length d.banks) d.notes d.code
  pub names : NamesFit d.labels d.uses

-- The words of line n encode an item that makes draft d draft e, which is in range.
pub record Says (n : ℕ) (words : List Word) (d e : Draft) : Type 0 where
  pub fits : DraftFits e
  pub item : Item
  pub spells : WordsSpell words item
  pub stands : Stands (stage_in d) item
  pub fresh : IsFresh d item
  pub is : e ≡ added n item d

-- words encode an item, if each part of the draft that it makes is in range
pub said : (n : ℕ) {words ws : List Word} (d e : Draft) (item : Item) → DraftFits d → WordsSpell ws item → ws ≡ words
    → Stands (stage_in d) item → IsFresh d item → e ≡ added n item d → HeadFits e.profile e.banks e.symbols
    → CodeFits (length e.banks) e.notes e.code → NamesFit e.labels e.uses → Says n words d e
said n d e item h spells same stands fresh is head lines names = record {
  fits = record {
    head = head;
    headed = subst IsHeaded (sym is) (IsHeaded-added n item d h.headed stands);
    lines = lines;
    names = names;
  };
  item = item;
  spells = subst (λ ws. WordsSpell ws item) same spells;
  stands = stands;
  fresh = fresh;
  is = is;
}

no_lines : (banks : ℕ) → CodeFits banks [] []
no_lines banks = record {
  note_count = omega arith;
  notes = tt;
  last_note = omega arith;
  code_count = omega arith;
  code = All-nil (InstrFits banks);
}

-- the empty draft is in range
pub nothing_fits : DraftFits empty_draft
nothing_fits = record {
  head = record {
    profile = λ p e. absurd cc;
    bank_count = omega arith;
    banks = tt;
    symbol_count = omega arith;
    symbols = tt;
  };
  headed = λ _. refl;
  lines = no_lines 0;
  names = record { labels = All-nil IsPlace; uses = All-nil (λ u. IsPlace u.place) };
}

-- a list that a test finds to be empty
empty : {X : Type 0} (xs : List X) → eqb (length xs) 0 ≡ true → xs ≡ []
empty xs e = nil_from_length xs (eqb-true _ _ e)

or_first : (a b : Bool) → not (not a || b) ≡ true → a ≡ true
or_first true b e = refl
or_first false b e = absurd cc

or_rest : (a b : Bool) → not (not a || b) ≡ true → not b ≡ true
or_rest true b e = e
or_rest false b e = absurd cc

not_not : (a : Bool) → not (not a) ≡ true → a ≡ true
not_not true e = refl
not_not false e = absurd cc

-- no code line was read
record HasNoCode (d : Draft) : Type 0 where
  code : d.code ≡ []
  notes : d.notes ≡ []
  labels : d.labels ≡ []

no_code : (d : Draft) → not (has_code d) ≡ true → HasNoCode d
no_code d e =
    let rest = or_rest (eqb (length d.code) 0) _ e in
    record {
      code = empty d.code (or_first (eqb (length d.code) 0) _ e);
      notes = empty d.notes (or_first (eqb (length d.notes) 0) _ rest);
      labels = empty d.labels (not_not _ (or_rest (eqb (length d.notes) 0) _ rest));
    }

-- the first line

abbrev pub IsProfile : List Word → Profile → Type 0
IsProfile words p = ProfileFits p × (codes ".object" ∷ words ≡ object_words p)

one : decimal 1 ≡ codes "1"
one = decimal_digit 1 (omega arith)

two : decimal 2 ≡ codes "2"
two = decimal_digit 2 (omega arith)

-- a word that passes the test of a version is its number
only : (version : ℕ) (word : Word) → is_version version word ≡ true → word ≡ decimal version
only version word known = by_number (number_within version version word) (number_from version version word) known
  where
    by_number : (found : Option ℕ) → ((n : ℕ) → found ≡ Some n → IsNumber version version word n) → is_some found ≡ true
        → word ≡ decimal version
    by_number None each known = absurd cc
    by_number (Some n) each known =
        let is = each n refl in
        is.2 ∙ ap decimal (let same : n ≡ version = omega (arith, is.0, is.1) in same)

abbrev AreCycles : List Word → Profile → Type 0
AreCycles words p = ProfileFits p × HasUnitPeriod p × (words ≡ cycles_words p)

cycles_fit : (F : Type 0) (has : F) (b c d e f : Word)
    → ReadsForm (cycles_read b c d e f) F (AreCycles (b ∷ c ∷ d ∷ e ∷ f ∷ []))
unfolding cycles_read
cycles_fit F has b c d e f =
    number_then _ _ _ _ _ has (number_from 3 9 b) (λ block_log hb.
    number_then _ _ _ _ _ has (number_from 1 127 c) (λ alu hc.
    number_then _ _ _ _ _ has (number_from 1 127 d) (λ mul hd.
    number_then _ _ _ _ _ has (number_from 1 127 e) (λ word he.
    number_then _ _ _ _ _ has (number_from 1 32 f) (λ taken hf.
    form_ok _ _ _ has (
      record {
        block_log = (hb.0, hb.1);
        alu = (hc.0, hc.1);
        mul = (hd.0, hd.1);
        word = (he.0, he.1);
        taken = (hf.0, hf.1);
        period = (omega arith, omega arith);
        opens = omega arith;
        closes = (omega arith, omega arith);
      },
      record { period = refl; opens = refl; closes = refl },
      rw (hb.2, hc.2, hd.2, he.2, hf.2) refl,
    ))))))

-- the words of the cycles, and those of the window
record IsWindowRead (words more : List Word) (p : Profile) : Type 0 where
  before : Profile
  cycles : AreCycles words before
  window : IsWindowed before p
  shown : more ≡ window_words p

window_fits : (F : Type 0) (words : List Word) (cycles : Result Profile Fault) (a b c : Word)
    → ReadsForm cycles F (AreCycles words)
    → ReadsForm (window_read cycles a b c) F (IsWindowRead words (a ∷ b ∷ c ∷ []))
unfolding window_read
window_fits F words cycles a b c h =
    form_then _ _ _ _ _ h (λ before has k.
    number_then _ _ _ _ _ has (number_from 2 1000000 a) (λ period ha.
    number_then _ _ _ _ _ has (number_from 0 (period - 1) b) (λ opens hb.
    number_then _ _ _ _ _ has (number_from (opens + 1) period c) (λ closes hc.
    form_ok _ _ _ has (record {
      before = before;
      cycles = k;
      window = record {
        is = refl;
        period = (ha.0, ha.1);
        opens = omega (arith, ha.0, hb.1);
        closes = (hc.0, hc.1);
      };
      shown = rw (ha.2, hb.2, hc.2) refl;
    })))))

open_is : (words : List Word) (a : Word) (p : Profile) → a ≡ decimal 1 → AreCycles words p → IsProfile (a ∷ words) p
open_is words a p first h = (
  h.0,
  ap (λ w. codes ".object" ∷ w ∷ words) (first ∙ one)
      ∙ ap (λ ws. codes ".object" ∷ codes "1" ∷ ws) h.2
      ∙ ap (λ ws. codes ".object" ∷ ws) (sym (open_words p h.1)),
)

windowed_is : (words more : List Word) (a : Word) (p : Profile) → a ≡ decimal 2 → IsWindowRead words more p
    → IsProfile (a ∷ (words ++ more)) p
windowed_is words more a p first h = (
  windowed-fits h.before p h.cycles.0 h.window,
  ap (λ w. codes ".object" ∷ w ∷ (words ++ more)) (first ∙ two)
      ∙ ap (λ ws. codes ".object" ∷ codes "2" ∷ (ws ++ more)) (h.cycles.2 ∙ ap cycles_words (sym h.window.is))
      ∙ ap (λ ws. codes ".object" ∷ codes "2" ∷ (cycles_words p ++ ws)) h.shown
      ∙ ap (λ ws. codes ".object" ∷ ws) (sym (windowed_words p h.window.period.0)),
)

-- the first line has six or nine words after its first
pub profile_fits : (F : Type 0) (words : List Word)
    → ((a b c d e f : Word) → words ≡ a ∷ b ∷ c ∷ d ∷ e ∷ f ∷ [] → F)
    → ((a b c d e f g h i : Word) → words ≡ a ∷ b ∷ c ∷ d ∷ e ∷ f ∷ g ∷ h ∷ i ∷ [] → F)
    → ReadsForm (profile_read words) F (IsProfile words)
unfolding profile_read
profile_fits F (a ∷ b ∷ c ∷ d ∷ e ∷ f ∷ []) six nine =
    let has : F = six a b c d e f refl in
    number_if (is_version 1 a) _ _ _ has (λ known.
    form_weaker _ _ _ _ (cycles_fit F has b c d e f) (λ p h. open_is (b ∷ c ∷ d ∷ e ∷ f ∷ []) a p (only 1 a known) h))
profile_fits F (a ∷ b ∷ c ∷ d ∷ e ∷ f ∷ g ∷ h ∷ i ∷ []) six nine =
    let has : F = nine a b c d e f g h i refl in
    number_if (is_version 2 a) _ _ _ has (λ known.
    form_weaker _ _ _ _ (window_fits F (b ∷ c ∷ d ∷ e ∷ f ∷ []) _ g h i (cycles_fit F has b c d e f)) (λ p window.
    windowed_is (b ∷ c ∷ d ∷ e ∷ f ∷ []) (g ∷ h ∷ i ∷ []) a p (only 2 a known) window))
profile_fits F _ six nine = no_form _ _

profile_says : (words : List Word) → IfRead (profile_read words) (IsProfile words)
profile_says words =
    form_read _ _ _ (profile_fits (Unit {0}) words (λ a b c d e f is. tt) (λ a b c d e f g h i is. tt))

-- the words of the first line encode what is read
pub object_fits : (n : ℕ) (words : List Word) (d : Draft) → DraftFits d
    → IfRead (object_line words d) (Says n (codes ".object" ∷ words) d)
unfolding object_line
object_fits n words d h =
    read_if WrongForm (is_none d.profile) _ _ (λ first.
    read_then _ _ _ _ (profile_says words) (λ p found.
    let start = is_none-stage d first in
    let symbols : d.symbols ≡ [] = ap (λ (x : Draft). x.symbols) (h.headed (stage-is_none d start)) in
    read_ok _ _ (said n d _ (AnObject p) h (Object p) (sym found.1) start tt refl (record {
      profile = λ q e. subst ProfileFits (some_is p q e) found.0;
      bank_count = h.head.bank_count;
      banks = h.head.banks;
      symbol_count = h.head.symbol_count;
      symbols = subst (λ ss. EachAfter (SymbolFits (width (Some p)) d.banks) [] ss) (sym symbols) tt;
    }) h.lines h.names)))

-- banks

abbrev pub IsBank : ℕ → List Word → BankSpec → Type 0
IsBank index words b =
    Within 1 (most_blocks index) b.blocks × Within 1 1000000 b.latency × (codes ".bank" ∷ words ≡ words_for_bank b)

-- a bank's line has two words after its first
pub bank_fits : (F : Type 0) (index : ℕ) (words : List Word) → ((a b : Word) → words ≡ a ∷ b ∷ [] → F)
    → ReadsForm (bank_read index words) F (IsBank index words)
unfolding bank_read
bank_fits F index (a ∷ b ∷ []) two =
    let has : F = two a b refl in
    number_then _ _ _ _ _ has (number_from 1 (most_blocks index) a) (λ blocks ha.
    number_then _ _ _ _ _ has (number_from 1 1000000 b)
    (λ latency hb. form_ok _ _ _ has ((ha.0, ha.1), (hb.0, hb.1), rw (ha.2, hb.2) refl)))
bank_fits F index _ two = no_form _ _

bank_says : (index : ℕ) (words : List Word) → IfRead (bank_read index words) (IsBank index words)
bank_says index words = form_read _ _ _ (bank_fits (Unit {0}) index words (λ a b is. tt))

-- the words of a bank's line encode what is read
pub bank_line_fits : (n : ℕ) (words : List Word) (d : Draft) → DraftFits d
    → IfRead (bank_line words d) (Says n (codes ".bank" ∷ words) d)
unfolding bank_line
bank_line_fits n words d h =
    read_if WrongForm (takes_bank d) _ _ (λ there.
    read_then _ _ _ _ (bank_says (length d.banks) words) (λ bank found.
    read_if Limit (ltb (length d.banks) 10) _ _ (λ room.
    let p = and_parts _ _ there in
    let q = and_parts _ _ p.1 in
    let few : length d.banks < 10 = ltb-true _ _ room in
    let none = no_code d q.1 in
    let banks = d.banks ++ bank ∷ [] in
    read_ok _ _ (said n d _ (ABank bank) h (Bank bank) (sym found.2) (takes_bank-stage d there) tt refl (record {
      profile = h.head.profile;
      bank_count = omega (arith, few, length-append d.banks (bank ∷ []));
      banks = EachAfter-push BankFits [] d.banks bank h.head.banks (record { blocks = found.0; latency = found.1 });
      symbol_count = h.head.symbol_count;
      symbols = subst (λ ss. EachAfter (SymbolFits (width d.profile) banks) [] ss) (sym (empty d.symbols q.0)) tt;
    }) (rw (none.notes, none.code) (no_lines (length banks))) h.names))))

-- symbols

width_some : (o : Option Profile) → is_some o ≡ true → 1 ≤ width o
width_some None e = absurd cc
width_some (Some p) e = pow_pos p.block_log

-- if a symbol is allowed, there are a profile and banks
pub memory_of : (d : Draft) → DraftFits d → takes_symbol d ≡ true → IsMemory (width d.profile) d.banks
memory_of d h there =
    let p = and_parts _ _ there in
    record {
      words = width_some d.profile p.0;
      count = leb-true _ _ (and_parts _ _ p.1).0;
      blocks = blocks_in-some d.banks h.head.banks;
    }

-- the words of a symbol's line encode what is read
pub symbol_line_fits : (n : ℕ) (words : List Word) (d : Draft) → DraftFits d
    → IfRead (symbol_line words d) (Says n (codes ".symbol" ∷ words) d)
unfolding symbol_line
symbol_line_fits n words d h =
    read_if WrongForm (takes_symbol d) _ _ (λ there.
    let memory = memory_of d h there in
    let stands = takes_symbol-stage d memory.count there in
    read_then _ _ _ _
    (form_read _ _ _ (symbol_lies (width d.profile) d.banks d.symbols memory (Unit {0}) words
    (λ name label shape a b c d named is. tt))) (λ s lies.
    read_if RepeatedName (is_new d.symbols s.name) _ _ (λ new.
    read_if Limit (has_room d.symbols s) _ _ (λ room.
    let few : length d.symbols < 1024 = ltb-true _ _ (and_parts _ _ room).0 in
    read_ok _ _ (said n d _ (ASymbol s) h (Variable s) (sym lies.1) stands tt refl (record {
      profile = h.head.profile;
      bank_count = h.head.bank_count;
      banks = h.head.banks;
      symbol_count = omega (arith, few, length-append d.symbols (s ∷ []));
      symbols = EachAfter-push (SymbolFits (width d.profile) d.banks) [] d.symbols s h.head.symbols
          (symbol_fits (width d.profile) d.banks d.symbols memory s lies.0 new room);
    }) h.lines h.names)))))
