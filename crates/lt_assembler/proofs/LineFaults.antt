-- Reading a line results in its item, or in its error, as the rules of lines define them.
use Rattle.std.proofs.Common.{◌≡◌, ℕ, ◌+◌, ◌≤◌, Bool, true, false, List, length, take, Option, Some, None, Result, Ok, Err, refl, sym, ap, subst, ◌∙◌, arith}
use Rattle.std.specs.Prelude.{IsTrue, is_none}
use Rattle.std.proofs.lemmas.Bool.{and_parts, and_from, leb-true, ltb-true, lt-ltb, le-leb}
use Rattle.std.proofs.Math.Nat.{pow-le-pow_right}
use Rattle.gr_word.specs.Prelude.{is_name}
use Rattle.gr_base.proofs.EachAfter.{EachBelow-from_after}
use Rattle.lt_isa.specs.declared.profiles.Profile.{Profile}
use Rattle.lt_isa.specs.declared.symbols.Symbol.{Symbol}
use Rattle.lt_isa.specs.Prelude.{no_bank, ProfileFits, BankFits, total_length, LiesBehind}
use Rattle.lt_isa.proofs.OtherNames.{others}
use Rattle.lt_isa.proofs.SymbolPlaces.{most_words-le, most_blocks-le}
use Rattle.lt_assembler.specs.declared.faults.Fault.{Fault}
use Rattle.lt_assembler.specs.declared.faults.Fault.TheVariants.{WrongForm, Number, RepeatedName, Limit, Memory}
use Rattle.lt_assembler.specs.Prelude.{words, is_ascii_line, Labels, Draft, place_of, width, is_new, by_first_word, line_read, instruction_follows, Item, Nothing, AnObject, ABank, ASymbol, ALabel, ANote, AnInstruction, IsOfForm, FitsRanges, HasNewName, HasRoom, SpellsInRange, Says, HasFault, OtherForm, BadNumber, TwiceNamed, OverLimit, Stands}
use Rattle.lt_assembler.proofs.Added.{added, IsFresh, stage_in, is_none-stage, takes_bank-stage, takes_symbol-stage, takes_code-stage}
use Rattle.lt_assembler.proofs.CanonicalWords.{HasSmallNumbers}
use Rattle.lt_assembler.proofs.CodeLines.{none_is}
use Rattle.lt_assembler.proofs.Earlier.{earlier_of, width_is}
use Rattle.lt_assembler.proofs.FormsRead.{line_formed}
use Rattle.lt_assembler.proofs.Gathered.{SameLabels}
use Rattle.lt_assembler.proofs.HeadLines.{DraftFits, memory_of}
use Rattle.lt_assembler.proofs.ItemsRead.{may_stand, is_new_in, has_room_in, passing, judged, InRange, item_judged, new_reads}
use Rattle.lt_assembler.proofs.LineForms.{SpellIn, words_read}
use Rattle.lt_assembler.proofs.ReadsForm.{false_by, LineReads, Formed}
use Rattle.lt_assembler.proofs.Splitting.{on_test}

-- sizes

width_small : (o : Option Profile) → ((p : Profile) → o ≡ Some p → ProfileFits p) → width o ≤ 512
width_small None h = omega arith
width_small (Some p) h = pow-le-pow_right {n = 2} (omega arith) {i = p.block_log} {j = 9} (h p refl).block_log.1

small_by : (d : Draft) (s : Symbol) → DraftFits d → IsTrue (is_name s.name)
    → LiesBehind (width d.profile) d.banks d.symbols s → HasSmallNumbers s
small_by d s h name lies =
    let blocks = (EachBelow-from_after BankFits d.banks h.head.banks s.bank no_bank lies.bank).blocks in
    record {
      name = name;
      bank = omega (arith, lies.bank, h.head.bank_count);
      block = omega (arith, lies.block, blocks.1, most_blocks-le (length (take s.bank d.banks)));
      word = omega (arith, lies.word, width_small d.profile h.head.profile);
      length = omega (arith, lies.length.1, most_words-le s.shape);
    }

-- three tests

no_number : (b c : Bool) (x : Draft) → Err Number ≡ passing true b c x → ⊥
no_number true true x e = cc
no_number true false x e = cc
no_number false c x e = cc

twice : (b c : Bool) (x : Draft) → Err RepeatedName ≡ passing true b c x → b ≡ false
twice true true x e = absurd cc
twice true false x e = absurd cc
twice false c x e = refl

over : (b c : Bool) (x : Draft) → Err Limit ≡ passing true b c x → (b ≡ true) × (c ≡ false)
over true true x e = absurd cc
over true false x e = (refl, refl)
over false c x e = absurd cc

passed : (b c : Bool) (x y : Draft) → Ok y ≡ passing true b c x → (b ≡ true) × (c ≡ true) × (y ≡ x)
passed true true x y e = (refl, refl, cc)
passed true false x y e = absurd cc
passed false c x y e = absurd cc

stands : (a b c : Bool) (x : Draft) → Formed (passing a b c x) → a ≡ true
stands true b c x h = refl
stands false b c x h = absurd h.is

true_false : (b : Bool) → b ≡ true → b ≡ false → ⊥
true_false true e f = cc
true_false false e f = cc

-- a line by its form and what it encodes

line_as : (r : Result Draft Fault) (F G S T : Type 0) → LineReads r F S → (F → G) → (F → S → T) → LineReads r G T
line_as (Ok d) F G S T h k m = record { known = (k h.known.0, m h.known.0 h.known.1) }
line_as (Err WrongForm) F G S T h k m = record { known = tt }
line_as (Err Number) F G S T h k m = record { known = k h.known }
line_as (Err RepeatedName) F G S T h k m = record { known = (k h.known.0, m h.known.0 h.known.1) }
line_as (Err Limit) F G S T h k m = record { known = (k h.known.0, m h.known.0 h.known.1) }
line_as (Err Memory) F G S T h k m = absurd h.known

only_form : (r : Result Draft Fault) (F S : Type 0) → LineReads r F S → (F → ⊥) → r ≡ Err WrongForm
only_form (Ok d) F S h never = absurd (never h.known.0)
only_form (Err WrongForm) F S h never = refl
only_form (Err Number) F S h never = absurd (never h.known)
only_form (Err RepeatedName) F S h never = absurd (never h.known.0)
only_form (Err Limit) F S h never = absurd (never h.known.0)
only_form (Err Memory) F S h never = absurd h.known

only_number : (r : Result Draft Fault) (F S : Type 0) → LineReads r F S → Formed r → (S → ⊥) → r ≡ Err Number
only_number (Ok d) F S h formed never = absurd (never h.known.1)
only_number (Err WrongForm) F S h formed never = absurd formed.is
only_number (Err Number) F S h formed never = refl
only_number (Err RepeatedName) F S h formed never = absurd (never h.known.1)
only_number (Err Limit) F S h formed never = absurd (never h.known.1)
only_number (Err Memory) F S h formed never = absurd h.known

module _ (d : Draft) (labels : Labels) (after : List (List ℕ)) (h : DraftFits d)
    (same : SameLabels d.labels labels) where
  in_range : (item : Item) → FitsRanges (earlier_of d labels) item → InRange d item
  in_range Nothing f = tt
  in_range (AnObject p) f = f
  in_range (ABank b) f = f
  in_range (ASymbol s) f =
      let lies = subst (λ w. LiesBehind w d.banks d.symbols s) (width_is d.profile) f.1 in
      (small_by d s h f.0 lies, lies)
  in_range (ALabel name) f = tt
  in_range (ANote mask claims) f = (h.head.bank_count, f)
  in_range (AnInstruction i t) f = (h.head.bank_count, f)

  new_by_test : (item : Item) → is_new_in d item ≡ true → HasNewName (earlier_of d labels) item
  unfolding is_new
  new_by_test (ASymbol s) e = others d.symbols s.name e
  new_by_test (ALabel name) e = sym (same name) ∙ none_is (place_of d.labels name) e
  new_by_test other e = tt

  test_by_new : (item : Item) → HasNewName (earlier_of d labels) item → is_new_in d item ≡ true
  test_by_new (ASymbol s) k = new_reads d.symbols s.name k
  test_by_new (ALabel name) k = ap is_none (same name ∙ k)
  test_by_new other k = refl

  room_by_test : (item : Item) → has_room_in d item ≡ true → HasRoom (earlier_of d labels) item
  room_by_test (ASymbol s) e = let p = and_parts _ _ e in (ltb-true _ _ p.0, leb-true _ _ p.1)
  room_by_test Nothing e = tt
  room_by_test (AnObject p) e = tt
  room_by_test (ALabel name) e = tt
  room_by_test other e = ltb-true _ _ e

  test_by_room : (item : Item) → HasRoom (earlier_of d labels) item → has_room_in d item ≡ true
  test_by_room (ABank b) k = lt-ltb (length d.banks) 10 k
  test_by_room (ASymbol s) k =
      and_from _ _ (lt-ltb (length d.symbols) 1024 k.0) (le-leb (total_length d.symbols + s.length) 4194304 k.1)
  test_by_room (ANote mask claims) k = lt-ltb (length d.notes) 262144 k
  test_by_room (AnInstruction i t) k = lt-ltb (length d.code) 1048576 k
  test_by_room other k = refl

  pub record SpellsOne (line : List ℕ) : Type 0 where
    pub item : Item
    pub in_range : SpellsInRange (earlier_of d labels) line after item

  of_line : (line : List ℕ) → is_ascii_line line ≡ true → SpellIn d labels (words line)
      → IsOfForm (earlier_of d labels) line after → SpellsOne line
  of_line line ascii s form =
      record { item = s.item; in_range = record { form = form; spells = s.spells; fits = s.fits } }

  ascii_reads : (n : ℕ) (line : List ℕ) → is_ascii_line line ≡ true
      → LineReads (by_first_word n (instruction_follows after) (words line) d)
      (IsOfForm (earlier_of d labels) line after) (SpellsOne line)
  ascii_reads n line ascii =
      line_as _ _ _ _ _ (words_read d labels after h n (words line)) (λ has. record { ascii = ascii; form = has })
      (λ has s. of_line line ascii s (record { ascii = ascii; form = has }))

  line_reads : (n : ℕ) (line : List ℕ) → LineReads (line_read n (instruction_follows after) line d)
      (IsOfForm (earlier_of d labels) line after) (SpellsOne line)
  unfolding line_read
  line_reads n line = on_test (is_ascii_line line)
      (λ (t : is_ascii_line line ≡ true). rw t (ascii_reads n line t))
      (λ (f : is_ascii_line line ≡ false). rw f (record { known = tt }))

  by_item : (n : ℕ) (line : List ℕ) (item : Item) → SpellsInRange (earlier_of d labels) line after item
      → line_read n (instruction_follows after) line d ≡ judged n (instruction_follows after) item d
  unfolding line_read
  by_item n line item s =
      rw s.form.ascii
      (item_judged n (instruction_follows after) (words line) item d s.spells (in_range item s.fits))

  there_by : (n : ℕ) (line : List ℕ) (item : Item) → SpellsInRange (earlier_of d labels) line after item
      → may_stand (instruction_follows after) d item ≡ true
  there_by n line item s =
      stands _ _ _ _ (subst Formed (by_item n line item s) (line_formed n line after d labels s.form))

  stand_by : (follows : Bool) (item : Item) → may_stand follows d item ≡ true → Stands (stage_in d) item
  stand_by follows Nothing e = tt
  stand_by follows (AnObject p) e = is_none-stage d e
  stand_by follows (ABank b) e = takes_bank-stage d e
  stand_by follows (ASymbol s) e = takes_symbol-stage d (memory_of d h e).count e
  stand_by follows (ALabel name) e = takes_code-stage d h.headed (and_parts _ _ e).0
  stand_by follows (ANote mask claims) e = takes_code-stage d h.headed (and_parts _ _ e).0
  stand_by follows (AnInstruction i t) e = takes_code-stage d h.headed e

  -- the item that a line encodes is in order
  pub spelled_stands : (line : List ℕ) (item : Item)
      → SpellsInRange (earlier_of d labels) line after item → Stands (stage_in d) item
  spelled_stands line item s = stand_by (instruction_follows after) item (there_by 1 line item s)

  -- a label of a line without an error is new
  pub said_fresh : (item : Item) → HasNewName (earlier_of d labels) item → IsFresh d item
  said_fresh (ALabel name) new = same name ∙ new
  said_fresh other new = tt

  -- a line that encodes an item in range is tested for its name and room
  line_judged : (n : ℕ) (line : List ℕ) (item : Item) → SpellsInRange (earlier_of d labels) line after item
      → line_read n (instruction_follows after) line d
      ≡ passing true (is_new_in d item) (has_room_in d item) (added n item d)
  line_judged n line item s =
      by_item n line item s
      ∙ ap (λ b. passing b (is_new_in d item) (has_room_in d item) (added n item d)) (there_by n line item s)

  -- the result of reading is the line's item, or its error
  abbrev pub IsJudged : ℕ → List ℕ → Result Draft Fault → Type 0
  IsJudged n line (Ok x) =
      (item : Item) × Says (earlier_of d labels) line after item × (x ≡ added n item d)
  IsJudged n line (Err fault) = HasFault (earlier_of d labels) line after fault

  judge_ok : (n : ℕ) (line : List ℕ) (x : Draft) (item : Item)
      → SpellsInRange (earlier_of d labels) line after item
      → Ok x ≡ passing true (is_new_in d item) (has_room_in d item) (added n item d) → IsJudged n line (Ok x)
  judge_ok n line x item s e =
      let p = passed _ _ _ _ e in (
        item,
        record { in_range = s; new = new_by_test item p.0; room = room_by_test item p.1 },
        p.2,
      )

  judge : (n : ℕ) (line : List ℕ) (r : Result Draft Fault) → line_read n (instruction_follows after) line d ≡ r
      → LineReads r (IsOfForm (earlier_of d labels) line after) (SpellsOne line) → IsJudged n line r
  judge n line (Ok x) e k =
      let s = k.known.1 in judge_ok n line x s.item s.in_range (sym e ∙ line_judged n line s.item s.in_range)
  judge n line (Err WrongForm) e k =
      OtherForm (λ form.
      let bad : Formed {X = Draft} (Err WrongForm) = subst Formed e (line_formed n line after d labels form) in bad.is)
  judge n line (Err Number) e k =
      BadNumber k.known (λ item s. no_number _ _ _ (sym e ∙ line_judged n line item s))
  judge n line (Err RepeatedName) e k =
      let s = k.known.1 in
      TwiceNamed s.item s.in_range (λ new.
      true_false _ (test_by_new s.item new) (twice _ _ _ (sym e ∙ line_judged n line s.item s.in_range)))
  judge n line (Err Limit) e k =
      let s = k.known.1 in
      let p = over _ _ _ (sym e ∙ line_judged n line s.item s.in_range) in
      OverLimit s.item s.in_range (new_by_test s.item p.0) (λ room. true_false _ (test_by_room s.item room) p.1)
  judge n line (Err Memory) e k = absurd k.known

  pub line_is_judged : (n : ℕ) (line : List ℕ) (r : Result Draft Fault)
      → line_read n (instruction_follows after) line d ≡ r → IsJudged n line r
  line_is_judged n line r e =
      judge n line r e (subst (λ x. LineReads x (IsOfForm (earlier_of d labels) line after) (SpellsOne line)) e
      (line_reads n line))

  -- the item of a line is read
  pub said_is_read : (n : ℕ) (line : List ℕ) (item : Item) → Says (earlier_of d labels) line after item
      → line_read n (instruction_follows after) line d ≡ Ok (added n item d)
  said_is_read n line item s =
      let new = test_by_new item s.new in
      let room = test_by_room item s.room in
      line_judged n line item s.in_range
      ∙ ap (λ b. passing true b (has_room_in d item) (added n item d)) new
      ∙ ap (λ b. passing true true b (added n item d)) room

  -- the error of a line is read
  pub fault_is_read : (n : ℕ) (line : List ℕ) (fault : Fault) → HasFault (earlier_of d labels) line after fault
      → line_read n (instruction_follows after) line d ≡ Err fault
  fault_is_read n line _ (OtherForm never) = only_form _ _ _ (line_reads n line) never
  fault_is_read n line _ (BadNumber form none) =
      only_number _ _ _ (line_reads n line) (line_formed n line after d labels form)
      (λ s. none s.item s.in_range)
  fault_is_read n line _ (TwiceNamed item s never) =
      let old : is_new_in d item ≡ false = false_by _ (λ e. never (new_by_test item e)) in
      line_judged n line item s ∙ ap (λ b. passing true b (has_room_in d item) (added n item d)) old
  fault_is_read n line _ (OverLimit item s new never) =
      let full : has_room_in d item ≡ false = false_by _ (λ e. never (room_by_test item e)) in
      line_judged n line item s
      ∙ ap (λ b. passing true b (has_room_in d item) (added n item d)) (test_by_new item new)
      ∙ ap (λ b. passing true true b (added n item d)) full
