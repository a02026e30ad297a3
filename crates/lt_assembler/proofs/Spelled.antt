-- A text encodes the object that is assembled from it.
use Rattle.std.proofs.Common.{◌≡◌, ℕ, ◌+◌, Bool, true, false, cond, List, [], ◌++◌, length, map, Option, Some, None, Result, Ok, Err, refl, sym, ap, subst, ◌∙◌}
use Rattle.lt_isa.specs.declared.profiles.Profile.{Profile}
use Rattle.lt_isa.specs.declared.instructions.Instr.{Instr}
use Rattle.lt_isa.specs.Prelude.{Parts}
use Rattle.lt_assembler.specs.declared.errors.AsmError.{AsmError}
use Rattle.lt_assembler.specs.declared.errors.AsmError.TheVariants.{BadLine, UnknownName}
use Rattle.lt_assembler.specs.Prelude.{lines, Labels, Draft, empty_draft, read_lines, settled, parts_of, is_whole, finished_with, finished, assembled, Item, StagesInOrder, gathered, profile_in, bank_in, symbol_in, note_in, instruction_in, labels_in, AreOnce, ItemsSpell, SpellsInText}
use Rattle.gr_base.specs.Prelude.{◌>>=◌}
use Rattle.gr_base.proofs.Results.{IfRead, read_ok, read_err, read_then, ok_is}
use Rattle.lt_assembler.proofs.Added.{adds, AreFresh, stage_in, IsHeaded}
use Rattle.lt_assembler.proofs.Gathered.{Gathers, adds-gathered, adds-listed, profile_gathers, banks_gather, symbols_gather, notes_gather, raw_in, code_gathers, use_in, listed, uses_gather, option_list, SameLabels, labels_are}
use Rattle.lt_assembler.proofs.Settled.{Settles, Known, Unknown, settles}
use Rattle.lt_assembler.proofs.Waiting.{LinesGo, lines_go}
use Rattle.lt_assembler.proofs.InRange.{no_object, nothing_goes, spelled_in_range}

-- the empty draft is at the first stage
pub stage_start : stage_in empty_draft ≡ 0
unfolding stage_in
stage_start = refl

-- at the end of a text that yields an object
pub record IsFinished (d : Draft) (o : Parts) : Type 0 where
  pub profile : Profile
  pub code : List Instr
  pub has : d.profile ≡ Some profile
  pub whole : is_whole d ≡ true
  pub settles : settled d.labels d.uses d.code ≡ Ok code
  pub is : parts_of profile d code ≡ o

itself : {X E : Type 0} (r : Result X E) → IfRead r (λ x. r ≡ Ok x)
itself r = record { then = λ x e. e }

finished_so : (n : ℕ) (p : Option Profile) (d : Draft) → d.profile ≡ p → IfRead (finished_with n p d) (IsFinished d)
finished_so n None d e = read_err _ _
finished_so n (Some p) d e = by_test (is_whole d) refl where
  by_test : (b : Bool) → is_whole d ≡ b
      → IfRead (cond b (settled d.labels d.uses d.code >>= (λ code. Ok (parts_of p d code))) (Err (BadLine n)))
      (IsFinished d)
  by_test false t = read_err _ _
  by_test true t =
      read_then _ _ _ _ (itself (settled d.labels d.uses d.code)) (λ code k.
      read_ok _ _ (record { profile = p; code = code; has = e; whole = t; settles = k; is = refl }))

-- a text whose lines were read
pub record IsRead (text : List ℕ) (d : Draft) : Type 0 where
  pub goes : LinesGo 1 (lines text) empty_draft d

-- the lines encode what is read from them
pub lines_read : (text : List ℕ) (d : Draft) → read_lines 1 (lines text) empty_draft ≡ Ok d → IsRead text d
lines_read text d e = record { goes = (lines_go 1 (lines text) empty_draft (nothing_goes _)).then d e }

-- the parts of a draft are what its items yield
pub record IsGathered (items : List Item) (d : Draft) : Type 0 where
  pub ordered : StagesInOrder 0 items
  pub profile : gathered profile_in 0 items ≡ option_list d.profile
  pub banks : gathered bank_in 0 items ≡ d.banks
  pub symbols : gathered symbol_in 0 items ≡ d.symbols
  pub notes : gathered note_in 0 items ≡ d.notes
  pub raw : gathered raw_in 0 items ≡ d.code
  pub uses : listed use_in 1 0 items ≡ d.uses
  pub once : AreOnce (labels_in items)
  pub same : SameLabels d.labels (labels_in items)

-- the empty draft
pub headed_start : IsHeaded empty_draft
headed_start e = refl

from_start : {X : Type 0} (get : Draft → List X) (give : ℕ → Item → List X)
    → Gathers get (λ m. give) → get empty_draft ≡ [] → (items : List Item) (d : Draft)
    → StagesInOrder (stage_in empty_draft) items
    → d ≡ adds 1 items empty_draft → gathered give 0 items ≡ get d
from_start {X} get give one none items d order is =
    sym (ap get is ∙ adds-gathered get give one 1 items empty_draft headed_start order
    ∙ ap (λ (xs : List X). xs ++ gathered give 0 items) none)

-- the parts of a draft of items in order are what the items yield
pub is_gathered : (items : List Item) (d : Draft)
    → StagesInOrder (stage_in empty_draft) items → AreFresh 1 items empty_draft → d ≡ adds 1 items empty_draft
    → IsGathered items d
is_gathered items d order fresh is =
    let labels = labels_are 1 items empty_draft [] fresh (λ name. refl) in
    record {
      ordered = subst (λ m. StagesInOrder m items) stage_start order;
      profile = from_start (λ x. option_list x.profile) profile_in profile_gathers refl items d order is;
      banks = from_start (λ x. x.banks) bank_in banks_gather refl items d order is;
      symbols = from_start (λ x. x.symbols) symbol_in symbols_gather refl items d order is;
      notes = from_start (λ x. x.notes) note_in notes_gather refl items d order is;
      raw = from_start (λ x. x.code) raw_in code_gathers refl items d order is;
      uses = sym (ap (λ (x : Draft). x.uses) is
          ∙ adds-listed (λ x. x.uses) use_in uses_gather 1 items empty_draft headed_start order);
      once = labels.once;
      same = subst (λ (x : Draft). SameLabels x.labels (labels_in items)) (sym is) labels.same;
    }

-- the code is what the items yield, or a label is unknown
pub settling : (items : List Item) (d : Draft)
    → IsGathered items d → Settles (labels_in items) d.labels 1 0 items [] d.code d.uses
settling items d h =
    subst (λ (code : List Instr). Settles (labels_in items) d.labels 1 0 items [] code d.uses) h.raw
    (subst (Settles (labels_in items) d.labels 1 0 items [] (gathered raw_in 0 items)) h.uses
    (settles (labels_in items) d.labels h.same 1 0 items [] refl))

pub code_given : (labels sorted : Labels) (items : List Item) (d : Draft) (code : List Instr)
    → Settles labels sorted 1 0 items [] d.code d.uses → settled sorted d.uses d.code ≡ Ok code
    → gathered (instruction_in labels) 0 items ≡ map Some code
code_given labels sorted items d code (Known final given e) f =
    given ∙ ap (map Some) (ok_is {E = AsmError} final code (sym e ∙ f))
code_given labels sorted items d code (Unknown line h e) f =
    absurd (let bad : ◌≡◌ {A = Result (List Instr) AsmError} (Err (UnknownName line)) (Ok code) = sym e ∙ f in cc)

items_spell : (items : List Item) (d : Draft) (o : Parts) → IsGathered items d → IsFinished d o → ItemsSpell items o
items_spell items d o h f = subst (ItemsSpell items) f.is (record {
  ordered = h.ordered;
  profile = h.profile ∙ ap option_list f.has;
  banks = h.banks;
  symbols = h.symbols;
  notes = h.notes;
  labels = h.once;
  code = code_given (labels_in items) d.labels items d f.code (settling items d h) f.settles;
})

pub is_finished : (n : ℕ) (d : Draft) (o : Parts) → finished n d ≡ Ok o → IsFinished d o
unfolding finished
is_finished n d o e = (finished_so n d.profile d refl).then o e

-- the text encodes the object that is assembled
pub assembled-spells : (text : List ℕ) (o : Parts) → assembled text ≡ Ok o → SpellsInText text o
unfolding assembled
assembled-spells text o h = of_lines (read_lines 1 (lines text) empty_draft) refl h where
  of_lines : (r : Result Draft AsmError)
      → read_lines 1 (lines text) empty_draft ≡ r → (r >>= finished (length (lines text) + 1)) ≡ Ok o
      → SpellsInText text o
  of_lines (Err e) read g = absurd (no_object e o g)
  of_lines (Ok d) read g =
      let k = (lines_read text d read).goes in
      record {
        items = k.items;
        said = k.spell;
        object = items_spell k.items d o (is_gathered k.items d k.ordered k.fresh k.is) (is_finished _ d o g);
        in_range = spelled_in_range text o h;
      }
