-- The object that a text encodes is assembled from it.
use Rattle.std.proofs.Common.{◌≡◌, ℕ, suc, ◌+◌, ◌^◌, ◌<◌, ◌≤◌, Bool, true, not, eqb, List, [], ◌∷◌, ◌++◌, length, map, take, Option, Some, None, Ok, refl, sym, ap, subst, ◌∙◌, append_assoc, arith, length-append}
use Rattle.std.specs.Prelude.{All, pos, option_map, is_none}
use Rattle.std.proofs.Math.Seq.{get_or-append_seam, take-append_seam}
use Rattle.std.proofs.lemmas.Bool.{le-leb, and_from}
use Rattle.std.proofs.lemmas.Bool.Decides.{nat_tests}
use Rattle.std.proofs.lemmas.List.{append-nil, length-map}
use Rattle.std.proofs.lemmas.List.Elements.{All-head, All-tail}
use Rattle.std.proofs.Math.Nat.{pow-le-pow_right}
use Rattle.gr_word.specs.declared.operations.Cmp.{Cmp}
use Rattle.gr_base.specs.Prelude.{Within, EachAfter}
use Rattle.gr_base.proofs.EachAfter.{EachAfter-at, EachBelow-from_after}
use Rattle.lt_isa.specs.declared.profiles.Profile.{Profile}
use Rattle.lt_isa.specs.declared.profiles.BankSpec.{BankSpec}
use Rattle.lt_isa.specs.declared.symbols.Symbol.{Symbol}
use Rattle.lt_isa.specs.declared.symbols.Note.{Note}
use Rattle.lt_isa.specs.declared.instructions.Instr.{Instr}
use Rattle.lt_isa.specs.declared.instructions.Instr.TheVariants.{Br}
use Rattle.lt_isa.specs.Prelude.{Parts, no_bank, ProfileFits, BankFits, SymbolFits, NoteFits, InstrFits, IsInRange, with_offset}
use Rattle.lt_isa.proofs.NotePlaces.{notes-inside}
use Rattle.lt_assembler.specs.Prelude.{Word, lines, words, is_ascii_line, offset_to, is_instruction, Labels, Draft, empty_draft, place_of, takes_code, width, by_first_word, line_read, is_instruction_line, instruction_follows, read_lines, settled, parts_of, is_whole, assembled, Target, ToPlace, ToLabel, Item, Nothing, AnObject, ABank, ASymbol, ALabel, ANote, AnInstruction, WordsSpell, Instruction, Jump, Branch, LinesSpell, Stands, StagesInOrder, gathered, profile_in, bank_in, symbol_in, note_in, leading, instruction_in, labels_in, ItemsSpell, SpellsInText}
use Rattle.lt_assembler.proofs.Added.{added, adds, AreFresh, stage_in, IsHeaded, IsHeaded-added, stage-takes_bank, stage-takes_symbol, stage-is_none}
use Rattle.lt_assembler.proofs.CanonicalWords.{HasSmallNumbers}
use Rattle.gr_base.proofs.Results.{some_is}
use Rattle.lt_assembler.proofs.Gathered.{Gathers, option_list, profile_gathers, banks_gather, symbols_gather, notes_gather, raw_in, code_gathers, place_added, order_behind, SameLabels, ItemsFresh, more_labels}
use Rattle.lt_assembler.proofs.InRange.{finished_is}
use Rattle.lt_assembler.proofs.InstructionsRead.{none_offset}
use Rattle.lt_assembler.proofs.ItemsRead.{ItemFits, item_reads, instruction_form}
use Rattle.lt_isa.proofs.SymbolPlaces.{most_words-le, most_blocks-le}
use Rattle.lt_assembler.proofs.LineByLine.{read_one, read_none}
use Rattle.lt_assembler.proofs.ReadsForm.{or_left, or_right}
use Rattle.lt_assembler.proofs.Settled.{Settles, Known, Unknown}
use Rattle.lt_assembler.proofs.Spelled.{stage_start, headed_start, is_gathered, settling}

-- sizes of blocks and banks

-- blocks and banks have small sizes
pub record IsSmall (p : Profile) (banks : List BankSpec) : Type 0 where
  pub words : p.block_log ≤ 9
  pub count : Within 2 10 (length banks)
  pub each : EachAfter BankFits [] banks

-- the blocks and banks of an object in range have small sizes
pub small_memory : (o : Parts) → IsInRange o → IsSmall o.profile o.banks
small_memory o h = record { words = h.profile.block_log.1; count = h.bank_count; each = h.banks }

-- the fields of a symbol in range are small
pub small_symbol : (p : Profile) (banks : List BankSpec) (before : List Symbol) (s : Symbol)
    → IsSmall p banks → SymbolFits (2 ^ p.block_log) banks before s → HasSmallNumbers s
small_symbol p banks before s memory h =
    let width : 2 ^ p.block_log ≤ 2 ^ 9 =
    pow-le-pow_right {n = 2} (omega arith) {i = p.block_log} {j = 9} memory.words in
    let there : s.bank < length banks = h.lies.bank in
    let blocks = (EachBelow-from_after BankFits banks memory.each s.bank no_bank there).blocks in
    record {
      name = h.name;
      bank = omega (arith, there, memory.count.1);
      block = omega (arith, h.lies.block, blocks.1, most_blocks-le (length (take s.bank banks)));
      word = omega (arith, h.lies.word, width);
      length = omega (arith, h.lies.length.1, most_words-le s.shape);
    }

-- an item between others
between : {X : Type 0} (Fits : List X → X → Type 0) (xs ys : List X) (x : X)
    → EachAfter Fits [] (xs ++ x ∷ ys) → Fits xs x
between Fits xs ys x each =
    let size : length xs < length (xs ++ x ∷ ys) = omega (arith, length-append xs (x ∷ ys)) in
    subst (λ f. Fits f x) (take-append_seam xs (x ∷ ys))
    (subst (Fits (take (length xs) (xs ++ x ∷ ys))) (get_or-append_seam xs x ys x)
    (EachAfter-at Fits [] (xs ++ x ∷ ys) each (length xs) x size))

all_between : {X : Type 0} (P : X → Type 0) (xs ys : List X) (x : X) → All P (xs ++ x ∷ ys) → P x
all_between P [] ys x all = All-head P x ys all
all_between P (y ∷ xs) ys x all = all_between P xs ys x (All-tail P y (xs ++ x ∷ ys) all)

-- the items from a stage on

-- no bank follows a symbol
pub no_banks : (stage place : ℕ) (items : List Item)
    → 3 ≤ stage → StagesInOrder stage items → gathered bank_in place items ≡ []
no_banks stage place [] late order = refl
no_banks stage place (Nothing ∷ items) late order = no_banks stage place items late order.1
no_banks stage place (AnObject p ∷ items) late order = absurd (omega (arith, late, order.0))
no_banks stage place (ABank b ∷ items) late order = absurd (omega (arith, late, order.0.1))
no_banks stage place (ASymbol s ∷ items) late order = no_banks 3 place items (omega arith) order.1
no_banks stage place (ALabel name ∷ items) late order = no_banks 4 place items (omega arith) order.1
no_banks stage place (ANote mask claims ∷ items) late order = no_banks 4 place items (omega arith) order.1
no_banks stage place (AnInstruction i t ∷ items) late order = no_banks 4 (place + 1) items (omega arith) order.1

-- no first line follows the first line
pub no_profile : (stage place : ℕ) (items : List Item)
    → 1 ≤ stage → StagesInOrder stage items → gathered profile_in place items ≡ []
no_profile stage place [] late order = refl
no_profile stage place (Nothing ∷ items) late order = no_profile stage place items late order.1
no_profile stage place (AnObject p ∷ items) late order = absurd (omega (arith, late, order.0))
no_profile stage place (ABank b ∷ items) late order = no_profile 2 place items (omega arith) order.1
no_profile stage place (ASymbol s ∷ items) late order = no_profile 3 place items (omega arith) order.1
no_profile stage place (ALabel name ∷ items) late order = no_profile 4 place items (omega arith) order.1
no_profile stage place (ANote mask claims ∷ items) late order = no_profile 4 place items (omega arith) order.1
no_profile stage place (AnInstruction i t ∷ items) late order = no_profile 4 (place + 1) items (omega arith) order.1

-- an instruction is in range, apart from its target
abbrev pub InstrInRange : ℕ → Item → Type 0
InstrInRange banks (AnInstruction i t) = InstrFits banks i
InstrInRange banks item = Unit {0}

abbrev pub AreInRange : ℕ → List Item → Type 0
AreInRange banks [] = Unit {0}
AreInRange banks (item ∷ items) = InstrInRange banks item × AreInRange banks items

instruction_line : (line : List ℕ)
    → is_ascii_line line ≡ true → is_instruction (words line) ≡ true → is_instruction_line line ≡ true
unfolding is_instruction_line
instruction_line line ascii form = and_from _ _ ascii form

-- if an item is an instruction, some line has the form of one
pub form_follows : (banks place : ℕ) (ls : List (List ℕ)) (items : List Item) → banks ≤ 10 → LinesSpell ls items
    → AreInRange banks items → 1 ≤ length (gathered raw_in place items) → instruction_follows ls ≡ true
form_follows banks place [] [] few said fits some = absurd (omega (arith, some))
form_follows banks place [] (item ∷ items) few said fits some = absurd said
form_follows banks place (line ∷ ls) [] few said fits some = absurd said
form_follows banks place (line ∷ ls) (AnInstruction i t ∷ items) few said fits some =
    or_left _ _ (instruction_line line said.0 (instruction_form banks (words line) i t few fits.0 said.1))
form_follows banks place (line ∷ ls) (_ ∷ items) few said fits some =
    or_right _ _ (form_follows banks place ls items few said.2 fits.1 some)

line_of : (n : ℕ) (follows : Bool) (line : List ℕ) (d e : Draft)
    → is_ascii_line line ≡ true → by_first_word n follows (words line) d ≡ Ok e → line_read n follows line d ≡ Ok e
unfolding line_read
line_of n follows line d e ascii read = rw ascii read

head_of : (none : List Profile) (p : Profile) (rest : List Profile)
    → none ≡ [] → (q : Profile) → none ++ p ∷ rest ≡ q ∷ [] → p ≡ q
head_of [] p rest e q is = cc
head_of (x ∷ xs) p rest e q is = absurd cc

-- what is still to be read

module _ (o : Parts) (range : IsInRange o) where
  pub record Left (n : ℕ) (items : List Item) (d : Draft) : Type 0 where
    pub headed : IsHeaded d
    pub ordered : StagesInOrder (stage_in d) items
    pub fresh : AreFresh n items d
    pub fits : AreInRange (length o.banks) items
    pub profile : option_list d.profile ++ gathered profile_in (length d.code) items ≡ o.profile ∷ []
    pub banks : d.banks ++ gathered bank_in (length d.code) items ≡ o.banks
    pub symbols : d.symbols ++ gathered symbol_in (length d.code) items ≡ o.symbols
    pub notes : d.notes ++ gathered note_in (length d.code) items ≡ o.notes
    pub code : length (d.code ++ gathered raw_in (length d.code) items) ≡ length o.code

  step_gathered : {X : Type 0} (get : Draft → List X) (give : ℕ → Item → List X)
      → Gathers get (λ m. give) → (n : ℕ) (item : Item) (items : List Item) (d : Draft) → Stands (stage_in d) item
      → get d ++ gathered give (length d.code) (item ∷ items)
      ≡ get (added n item d) ++ gathered give (length (added n item d).code) items
  step_gathered {X} get give one n item items d stands =
      ap (λ p. get d ++ (give (length d.code) item ++ gathered give p items)) (sym (place_added n item d))
      ∙ sym (append_assoc (get d) (give (length d.code) item) (gathered give (length (added n item d).code) items))
      ∙ ap (λ (xs : List X). xs ++ gathered give (length (added n item d).code) items) (sym (one n item d stands))

  step : (n : ℕ) (item : Item) (items : List Item) (d : Draft)
      → Left n (item ∷ items) d → Left (n + 1) items (added n item d)
  step n item items d h = record {
    headed = IsHeaded-added n item d h.headed h.ordered.0;
    ordered = order_behind n item items d h.headed h.ordered;
    fresh = h.fresh.1;
    fits = h.fits.1;
    profile = sym (step_gathered (λ x. option_list x.profile) profile_in profile_gathers n item items d h.ordered.0)
        ∙ h.profile;
    banks = sym (step_gathered (λ x. x.banks) bank_in banks_gather n item items d h.ordered.0) ∙ h.banks;
    symbols = sym (step_gathered (λ x. x.symbols) symbol_in symbols_gather n item items d h.ordered.0) ∙ h.symbols;
    notes = sym (step_gathered (λ x. x.notes) note_in notes_gather n item items d h.ordered.0) ∙ h.notes;
    code = ap length (sym (step_gathered (λ x. x.code) raw_in code_gathers n item items d h.ordered.0)) ∙ h.code;
  }

  -- after the banks all of them have been read
  banks_there : (d : Draft) (place : ℕ) (items : List Item) (stage : ℕ)
      → 3 ≤ stage → StagesInOrder stage items → d.banks ++ gathered bank_in place items ≡ o.banks → d.banks ≡ o.banks
  banks_there d place items stage late order is =
      sym (append-nil d.banks)
      ∙ ap (λ (bs : List BankSpec). d.banks ++ bs) (sym (no_banks stage place items late order)) ∙ is

  code_there : (d : Draft) → d.banks ≡ o.banks → takes_code d ≡ true
  code_there d is = le-leb 2 (length d.banks) (omega (arith, ap length is, range.bank_count.0))

  few_banks : (d : Draft) → d.banks ≡ o.banks → length d.banks ≤ 10
  few_banks d is = omega (arith, ap length is, range.bank_count.1)

  profile_there : (p : Option Profile) (rest : List Profile)
      → rest ≡ [] → option_list p ++ rest ≡ o.profile ∷ [] → p ≡ Some o.profile
  profile_there None rest none is = absurd (let bad : [] ≡ o.profile ∷ [] = sym none ∙ is in cc)
  profile_there (Some p) rest none is = let same : p ≡ o.profile = cc in ap (λ q. Some q) same

  bank_fits : (n : ℕ) (follows : Bool) (b : BankSpec) (items : List Item) (d : Draft)
      → Left n (ABank b ∷ items) d → ItemFits follows d (ABank b)
  bank_fits n follows b items d h =
      let rest = gathered bank_in (length d.code) items in
      let size : length (d.banks ++ b ∷ rest) ≤ 10 = omega (arith, ap length h.banks, range.bank_count.1) in (
        stage-takes_bank d h.ordered.0,
        between BankFits d.banks rest b (subst (EachAfter BankFits []) (sym h.banks) range.banks),
        omega (arith, size, length-append d.banks (b ∷ rest)),
      )

  symbol_fits : (n : ℕ) (follows : Bool) (s : Symbol) (items : List Item) (d : Draft)
      → Left n (ASymbol s ∷ items) d → ItemFits follows d (ASymbol s)
  symbol_fits n follows s items d h =
      let rest = gathered symbol_in (length d.code) items in
      let banks : d.banks ≡ o.banks = banks_there d (length d.code) items 3 (omega arith) h.ordered.1 h.banks in
      let profile : d.profile ≡ Some o.profile =
      profile_there d.profile (gathered profile_in (length d.code) items)
      (no_profile 3 (length d.code) items (omega arith) h.ordered.1) h.profile in
      let size : length (d.symbols ++ s ∷ rest) ≤ 1024 = omega (arith, ap length h.symbols, range.symbol_count) in
      let here : SymbolFits (2 ^ o.profile.block_log) o.banks d.symbols s =
      between (SymbolFits (2 ^ o.profile.block_log) o.banks) d.symbols rest s
      (subst (EachAfter (SymbolFits (2 ^ o.profile.block_log) o.banks) []) (sym h.symbols) range.symbols) in (
        stage-takes_symbol d (code_there d banks) h.ordered.0,
        small_symbol o.profile o.banks d.symbols s (small_memory o range) here,
        subst (λ p. SymbolFits (width p) d.banks d.symbols s) (sym profile)
            (subst (λ bs. SymbolFits (2 ^ o.profile.block_log) bs d.symbols s) (sym banks) here),
        omega (arith, size, length-append d.symbols (s ∷ rest)),
      )

  note_fits : (n : ℕ) (ls : List (List ℕ)) (mask : ℕ) (claims : List ℕ) (items : List Item) (d : Draft)
      → LinesSpell ls items → Left n (ANote mask claims ∷ items) d
      → ItemFits (instruction_follows ls) d (ANote mask claims)
  note_fits n ls mask claims items d said h =
      let m : Note = record { pc = length d.code; secrets = mask; slots = claims } in
      let rest = gathered note_in (length d.code) items in
      let banks : d.banks ≡ o.banks = banks_there d (length d.code) items 4 (omega arith) h.ordered.1 h.banks in
      let size : length (d.notes ++ m ∷ rest) ≤ 262144 = omega (arith, ap length h.notes, range.note_count) in
      let inside : m.pc < length o.code =
      all_between (λ (x : Note). x.pc < length o.code) d.notes rest m
      (subst (All (λ (x : Note). x.pc < length o.code)) (sym h.notes) (notes-inside o range)) in
      let more : 1 ≤ length (gathered raw_in (length d.code) items) =
      omega (arith, inside, h.code, length-append d.code (gathered raw_in (length d.code) items)) in
      let here : NoteFits (length o.banks) d.notes m =
      between (NoteFits (length o.banks)) d.notes rest m
      (subst (EachAfter (NoteFits (length o.banks)) []) (sym h.notes) range.notes) in (
        code_there d banks,
        few_banks d banks,
        subst (λ bs. NoteFits (length bs) d.notes m) (sym banks) here,
        omega (arith, size, length-append d.notes (m ∷ rest)),
        form_follows (length o.banks) (length d.code) ls items range.bank_count.1 said h.fits.1 more,
      )

  instr_fits : (n : ℕ) (follows : Bool) (i : Instr) (t : Option Target) (items : List Item) (d : Draft)
      → Left n (AnInstruction i t ∷ items) d → ItemFits follows d (AnInstruction i t)
  instr_fits n follows i t items d h =
      let banks : d.banks ≡ o.banks = banks_there d (length d.code + 1) items 4 (omega arith) h.ordered.1 h.banks in
      let size = length-append d.code (gathered raw_in (length d.code) (AnInstruction i t ∷ items)) in (
        code_there d banks,
        few_banks d banks,
        subst (λ bs. InstrFits (length bs) i) (sym banks) h.fits.0,
        omega (arith, size, h.code, range.code_size.1),
      )

  fits : (n : ℕ) (ls : List (List ℕ)) (item : Item) (items : List Item) (d : Draft)
      → LinesSpell ls items → Left n (item ∷ items) d → ItemFits (instruction_follows ls) d item
  fits n ls Nothing items d said h = tt
  fits n ls (AnObject p) items d said h =
      let first = stage-is_none d h.ordered.0 in
      let same : p ≡ o.profile =
      head_of (option_list d.profile) p (gathered profile_in (length d.code) items)
      (ap option_list first) o.profile h.profile in
      (ap is_none first, subst ProfileFits (sym same) range.profile)
  fits n ls (ABank b) items d said h = bank_fits n (instruction_follows ls) b items d h
  fits n ls (ASymbol s) items d said h = symbol_fits n (instruction_follows ls) s items d h
  fits n ls (ALabel name) items d said h =
      (code_there d (banks_there d (length d.code) items 4 (omega arith) h.ordered.1 h.banks), h.fresh.0)
  fits n ls (ANote mask claims) items d said h = note_fits n ls mask claims items d said h
  fits n ls (AnInstruction i t) items d said h = instr_fits n (instruction_follows ls) i t items d h

  pub lines_read : (n : ℕ) (ls : List (List ℕ)) (items : List Item) (d : Draft)
      → LinesSpell ls items → Left n items d → read_lines n ls d ≡ Ok (adds n items d)
  lines_read n [] [] d said h = read_none n d
  lines_read n [] (item ∷ items) d said h = absurd said
  lines_read n (line ∷ ls) [] d said h = absurd said
  lines_read n (line ∷ ls) (item ∷ items) d said h =
      read_one n line ls d (added n item d) (line_of n (instruction_follows ls) line d (added n item d) said.0
      (item_reads n (instruction_follows ls) (words line) item d said.1 (fits n ls item items d said.2 h)))
      ∙ lines_read (n + 1) ls items (added n item d) said.2 (step n item items d h)

-- if each label is defined once, each is new when it is read
pub fresh_from : (n : ℕ) (items : List Item) (d : Draft) (before : Labels)
    → ItemsFresh (length d.code) before items → SameLabels d.labels before → AreFresh n items d
fresh_from n [] d before once same = tt
fresh_from n (Nothing ∷ items) d before once same = (tt, fresh_from (n + 1) items d before once same)
fresh_from n (AnObject p ∷ items) d before once same =
    (tt, fresh_from (n + 1) items (added n (AnObject p) d) before once same)
fresh_from n (ABank b ∷ items) d before once same =
    (tt, fresh_from (n + 1) items (added n (ABank b) d) before once same)
fresh_from n (ASymbol s ∷ items) d before once same =
    (tt, fresh_from (n + 1) items (added n (ASymbol s) d) before once same)
fresh_from n (ANote mask claims ∷ items) d before once same =
    (tt, fresh_from (n + 1) items (added n (ANote mask claims) d) before once same)
fresh_from n (AnInstruction i t ∷ items) d before once same = (
  tt,
  fresh_from (n + 1) items (added n (AnInstruction i t) d) before
      (subst (λ p. ItemsFresh p before items) (sym (place_added n (AnInstruction i t) d)) once) same,
)
fresh_from n (ALabel key ∷ items) d before once same =
    let here : place_of d.labels key ≡ None = same key ∙ once.0 in (
      here,
      fresh_from (n + 1) items (added n (ALabel key) d) (before ++ (key, length d.code) ∷ []) once.1
          (more_labels d.labels before key (length d.code) here same),
    )

-- the code that the items yield

profile_is : (p : Option Profile) (q : Profile) → option_list p ≡ q ∷ [] → p ≡ Some q
profile_is None q e = absurd cc
profile_is (Some p) q e = let same : p ≡ q = cc in ap (λ x. Some x) same

by_label : (banks place : ℕ) (cmp : Cmp) (ra rb : ℕ) (c : Instr) (o : Option ℕ)
    → option_map (λ to. with_offset (offset_to to place) (Br cmp ra rb (pos 0))) o ≡ Some c → InstrFits banks c
    → InstrFits banks (Br cmp ra rb (pos 0))
by_label banks place cmp ra rb c None e h = absurd cc
by_label banks place cmp ra rb c (Some to) e h =
    let k : InstrFits banks (Br cmp ra rb (offset_to to place)) = subst (InstrFits banks) (sym (some_is _ c e)) h in
    (k.0, k.1, none_offset)

one_in_range : (banks place : ℕ) (labels : Labels) (ws : List Word) (i c : Instr) (t : Option Target)
    → WordsSpell ws (AnInstruction i t) → leading labels place i t ≡ Some c → InstrFits banks c → InstrFits banks i
one_in_range banks place labels _ _ c _ (Instruction i) e h = subst (InstrFits banks) (sym (some_is i c e)) h
one_in_range banks place labels _ _ c _ (Jump word target s) e h = none_offset
one_in_range banks place labels _ _ c _ (Branch cmp ra rb word (ToPlace to) s) e h =
    by_label banks place cmp ra rb c (Some to) e h
one_in_range banks place labels _ _ c _ (Branch cmp ra rb word (ToLabel name) s) e h =
    by_label banks place cmp ra rb c (place_of labels name) e h

are_in_range : (banks place : ℕ) (labels : Labels) (ls : List (List ℕ)) (items : List Item) (code : List Instr)
    → LinesSpell ls items → gathered (instruction_in labels) place items ≡ map Some code
    → All (InstrFits banks) code → AreInRange banks items
are_in_range banks place labels ls [] code said given all = tt
are_in_range banks place labels [] (item ∷ items) code said given all = absurd said
are_in_range banks place labels (l ∷ ls) (Nothing ∷ items) code said given all =
    (tt, are_in_range banks place labels ls items code said.2 given all)
are_in_range banks place labels (l ∷ ls) (AnObject p ∷ items) code said given all =
    (tt, are_in_range banks place labels ls items code said.2 given all)
are_in_range banks place labels (l ∷ ls) (ABank b ∷ items) code said given all =
    (tt, are_in_range banks place labels ls items code said.2 given all)
are_in_range banks place labels (l ∷ ls) (ASymbol s ∷ items) code said given all =
    (tt, are_in_range banks place labels ls items code said.2 given all)
are_in_range banks place labels (l ∷ ls) (ALabel name ∷ items) code said given all =
    (tt, are_in_range banks place labels ls items code said.2 given all)
are_in_range banks place labels (l ∷ ls) (ANote mask claims ∷ items) code said given all =
    (tt, are_in_range banks place labels ls items code said.2 given all)
are_in_range banks place labels (l ∷ ls) (AnInstruction i t ∷ items) [] said given all = absurd cc
are_in_range banks place labels (l ∷ ls) (AnInstruction i t ∷ items) (c ∷ code) said given all =
    let head : leading labels place i t ≡ Some c = cc in
    let tail : gathered (instruction_in labels) (place + 1) items ≡ map Some code = cc in (
      one_in_range banks place labels (words l) i c t said.1 head (All-head (InstrFits banks) c code all),
      are_in_range banks (place + 1) labels ls items code said.2 tail (All-tail (InstrFits banks) c code all),
    )

raw_size : (labels : Labels) (place : ℕ) (items : List Item)
    → length (gathered raw_in place items) ≡ length (gathered (instruction_in labels) place items)
raw_size labels place [] = refl
raw_size labels place (AnInstruction i t ∷ items) = ap suc (raw_size labels (place + 1) items)
raw_size labels place (_ ∷ items) = raw_size labels place items

-- an instruction whose label has no place isn't in the code
pub no_instruction : (labels : Labels) (place : ℕ) (before after : List Item) (i : Instr) (name : Word)
    (code : List Instr) → place_of labels name ≡ None
    → gathered (instruction_in labels) place (before ++ AnInstruction i (Some (ToLabel name)) ∷ after) ≡ map Some code
    → ⊥
no_instruction labels place [] after i name [] none given = absurd cc
no_instruction labels place [] after i name (c ∷ code) none given =
    let head : option_map (λ to. with_offset (offset_to to place) i) (place_of labels name) ≡ Some c = cc in
    let bad : None ≡ Some c = ap (λ o. option_map (λ to. with_offset (offset_to to place) i) o) (sym none) ∙ head in cc
no_instruction labels place (Nothing ∷ before) after i name code none given =
    no_instruction labels place before after i name code none given
no_instruction labels place (AnObject p ∷ before) after i name code none given =
    no_instruction labels place before after i name code none given
no_instruction labels place (ABank b ∷ before) after i name code none given =
    no_instruction labels place before after i name code none given
no_instruction labels place (ASymbol s ∷ before) after i name code none given =
    no_instruction labels place before after i name code none given
no_instruction labels place (ALabel key ∷ before) after i name code none given =
    no_instruction labels place before after i name code none given
no_instruction labels place (ANote mask claims ∷ before) after i name code none given =
    no_instruction labels place before after i name code none given
no_instruction labels place (AnInstruction j t ∷ before) after i name [] none given = absurd cc
no_instruction labels place (AnInstruction j t ∷ before) after i name (c ∷ code) none given =
    let tail : gathered (instruction_in labels) (place + 1) (before ++ AnInstruction i (Some (ToLabel name)) ∷ after)
    ≡ map Some code = cc in
    no_instruction labels (place + 1) before after i name code none tail

same_code : (one two : List Instr) → map Some one ≡ map Some two → one ≡ two
same_code [] [] e = refl
same_code [] (y ∷ two) e = absurd cc
same_code (x ∷ one) [] e = absurd cc
same_code (x ∷ one) (y ∷ two) e =
    let head : x ≡ y = cc in
    let tail : map Some one ≡ map Some two = cc in
    ap (λ (z : Instr). z ∷ one) head ∙ ap (λ (zs : List Instr). y ∷ zs) (same_code one two tail)

code_settles : (labels sorted : Labels) (items : List Item) (d : Draft) (code : List Instr)
    → Settles labels sorted 1 0 items [] d.code d.uses → gathered (instruction_in labels) 0 items ≡ map Some code
    → settled sorted d.uses d.code ≡ Ok code
code_settles labels sorted items d code (Known final given e) is =
    e ∙ ap (λ (xs : List Instr). Ok xs) (same_code final code (sym given ∙ is))
code_settles labels sorted items d code (Unknown line h e) is =
    absurd (no_instruction labels 0 h.before h.after h.instr h.name code h.nowhere
    (ap (gathered (instruction_in labels) 0) (sym h.whole) ∙ is))

pub some_code : (n : ℕ) → 1 ≤ n → not (eqb n 0) ≡ true
some_code n h = grind (arith, nat_tests)

parts_are : (o : Parts) (d : Draft)
    → d.banks ≡ o.banks → d.symbols ≡ o.symbols → d.notes ≡ o.notes → parts_of o.profile d o.code ≡ o
parts_are o d banks symbols notes = rw (banks, symbols, notes) refl

at_start : (items : List Item) (o : Parts) (ls : List (List ℕ)) (range : IsInRange o)
    → LinesSpell ls items → ItemsSpell items o → Left o range 1 items empty_draft
at_start items o ls range said h = record {
  headed = headed_start;
  ordered = subst (λ m. StagesInOrder m items) (sym stage_start) h.ordered;
  fresh = fresh_from 1 items empty_draft [] h.labels (λ name. refl);
  fits = are_in_range (length o.banks) 0 (labels_in items) ls items o.code said h.code range.code;
  profile = h.profile;
  banks = h.banks;
  symbols = h.symbols;
  notes = h.notes;
  code = raw_size (labels_in items) 0 items ∙ ap length h.code ∙ length-map o.code Some;
}

-- the object that a text encodes is assembled
pub spells-assembled : (text : List ℕ) (o : Parts) → SpellsInText text o → assembled text ≡ Ok o
unfolding assembled
spells-assembled text o s =
    let start = at_start s.items o (lines text) s.in_range s.said s.object in
    let d = adds 1 s.items empty_draft in
    let read : read_lines 1 (lines text) empty_draft ≡ Ok d =
    lines_read o s.in_range 1 (lines text) s.items empty_draft s.said start in
    let g = is_gathered s.items d start.ordered start.fresh refl in
    let profile : d.profile ≡ Some o.profile = profile_is d.profile o.profile (sym g.profile ∙ s.object.profile) in
    let banks : d.banks ≡ o.banks = sym g.banks ∙ s.object.banks in
    let size : length d.code ≡ length o.code = ap length (sym g.raw) ∙ start.code in
    let whole : is_whole d ≡ true =
    and_from _ _ (le-leb 2 (length d.banks) (omega (arith, ap length banks, s.in_range.bank_count.0)))
    (some_code (length d.code) (omega (arith, size, s.in_range.code_size.0))) in
    let code = code_settles (labels_in s.items) d.labels s.items d o.code (settling s.items d g) s.object.code in
    rw read (finished_is _ d o.profile o.code profile whole code
    ∙ ap (λ (p : Parts). Ok p) (parts_are o d banks (sym g.symbols ∙ s.object.symbols) (sym g.notes ∙ s.object.notes)))
