-- What items add to a draft is what they yield in sequence.
use Rattle.std.proofs.Common.{◌≡◌, ℕ, ◌+◌, Bool, true, false, cond, List, [], ◌∷◌, ◌++◌, length, Option, Some, None, refl, sym, ap, subst, ◌∙◌, append_assoc, length-append}
use Rattle.std.specs.Prelude.{bytes_eq}
use Rattle.std.specs.Ordering.{nat_cmp, is_eq, match_ordering}
use Rattle.std.specs.declared.cmp.Ordering.{Ordering}
use Rattle.std.specs.declared.cmp.Ordering.TheVariants.{Less, Equal, Greater}
use Rattle.std.specs.Cmp.Lexicographic.{slice_cmp}
use Rattle.std.specs.Map.{lookup}
use Rattle.std.proofs.lemmas.List.{append-nil}
use Rattle.std.proofs.lemmas.Map.Text.{is_eq-slice_cmp}
use Rattle.gr_base.specs.Prelude.{EachAfter}
use Rattle.gr_base.proofs.ListTests.{bytes_eq-own}
use Rattle.lt_isa.specs.declared.instructions.Instr.{Instr}
use Rattle.lt_assembler.specs.Prelude.{Word, Use, Labels, Draft, place_of, with_label, uses_of, Item, AnObject, ABank, ASymbol, ALabel, ANote, AnInstruction, Stands, StagesInOrder, place_after, gathered, profile_in, bank_in, symbol_in, note_in, label_in}
use Rattle.lt_assembler.proofs.Added.{coded_in, added, adds, AreFresh, stage_in, IsHeaded, IsHeaded-added, stage-added, stage-is_none}
use Rattle.lt_assembler.proofs.NamedWords.{same_word}
use Rattle.lt_assembler.proofs.Splitting.{on_test}

-- what items yield, from the number of their line and the place of the next instruction
abbrev pub listed : {X : Type 0} → (ℕ → ℕ → Item → List X) → ℕ → ℕ → List Item → List X
listed give n place [] = []
listed give n place (item ∷ items) = give n place item ++ listed give (n + 1) (place_after place item) items

pub listed-gathered : {X : Type 0} (give : ℕ → Item → List X) (n place : ℕ) (items : List Item)
    → listed (λ m. give) n place items ≡ gathered give place items
listed-gathered give n place [] = refl
listed-gathered {X} give n place (item ∷ items) =
    ap (λ (xs : List X). give place item ++ xs) (listed-gathered give (n + 1) (place_after place item) items)

-- the place after one more item
pub place_added : (n : ℕ) (item : Item) (d : Draft) → length (added n item d).code ≡ place_after (length d.code) item
place_added n (AnInstruction i t) d = length-append d.code ((coded_in (length d.code) i t).instr ∷ [])
place_added n _ d = refl

-- a part of a draft to which each item that is in order adds what it yields
abbrev pub Gathers : {X : Type 0} → (Draft → List X) → (ℕ → ℕ → Item → List X) → Type 0
Gathers get give =
    (n : ℕ) (item : Item) (d : Draft) → Stands (stage_in d) item
    → get (added n item d) ≡ get d ++ give n (length d.code) item

-- the items after the first are in order
pub order_behind : (n : ℕ) (item : Item) (items : List Item) (d : Draft)
    → IsHeaded d → StagesInOrder (stage_in d) (item ∷ items) → StagesInOrder (stage_in (added n item d)) items
order_behind n item items d headed order =
    subst (λ m. StagesInOrder m items) (sym (stage-added n item d headed order.0)) order.1

-- a part of the draft after some items, from their lines
pub adds-listed : {X : Type 0} (get : Draft → List X) (give : ℕ → ℕ → Item → List X) → Gathers get give
    → (n : ℕ) (items : List Item) (d : Draft) → IsHeaded d → StagesInOrder (stage_in d) items
    → get (adds n items d) ≡ get d ++ listed give n (length d.code) items
adds-listed get give one n [] d headed order = sym (append-nil (get d))
adds-listed {X} get give one n (item ∷ items) d headed order =
    let next = added n item d in
    adds-listed get give one (n + 1) items next (IsHeaded-added n item d headed order.0)
    (order_behind n item items d headed order)
    ∙ ap (λ (xs : List X). xs ++ listed give (n + 1) (length next.code) items) (one n item d order.0)
    ∙ append_assoc (get d) (give n (length d.code) item) (listed give (n + 1) (length next.code) items)
    ∙ ap (λ p. get d ++ (give n (length d.code) item ++ listed give (n + 1) p items)) (place_added n item d)

-- the same if the number of the line doesn't matter
pub adds-gathered : {X : Type 0} (get : Draft → List X) (give : ℕ → Item → List X) → Gathers get (λ m. give)
    → (n : ℕ) (items : List Item) (d : Draft) → IsHeaded d → StagesInOrder (stage_in d) items
    → get (adds n items d) ≡ get d ++ gathered give (length d.code) items
adds-gathered {X} get give one n items d headed order =
    adds-listed get (λ m. give) one n items d headed order
    ∙ ap (λ (xs : List X). get d ++ xs) (listed-gathered give n (length d.code) items)

-- the parts

-- an option as a list
abbrev pub option_list : {X : Type 0} → Option X → List X
option_list None = []
option_list (Some x) = x ∷ []

-- the first line yields the profile
pub profile_gathers : Gathers (λ d. option_list d.profile) (λ m. profile_in)
profile_gathers n (AnObject p) d stands = rw (stage-is_none d stands) refl
profile_gathers n _ d stands = sym (append-nil (option_list d.profile))

-- the lines of banks yield the banks
pub banks_gather : Gathers (λ d. d.banks) (λ m. bank_in)
banks_gather n (ABank b) d stands = refl
banks_gather n _ d stands = sym (append-nil d.banks)

-- the lines of symbols yield the symbols
pub symbols_gather : Gathers (λ d. d.symbols) (λ m. symbol_in)
symbols_gather n (ASymbol s) d stands = refl
symbols_gather n _ d stands = sym (append-nil d.symbols)

-- the lines of notes yield the notes
pub notes_gather : Gathers (λ d. d.notes) (λ m. note_in)
notes_gather n (ANote mask claims) d stands = refl
notes_gather n _ d stands = sym (append-nil d.notes)

-- an instruction before its label is known
abbrev pub raw_in : ℕ → Item → List Instr
raw_in place (AnInstruction i t) = (coded_in place i t).instr ∷ []
raw_in place item = []

-- the lines of instructions yield the code
pub code_gathers : Gathers (λ d. d.code) (λ m. raw_in)
code_gathers n (AnInstruction i t) d stands = refl
code_gathers n _ d stands = sym (append-nil d.code)

-- the use of a label by an item
abbrev pub use_in : ℕ → ℕ → Item → List Use
use_in n place (AnInstruction i t) = uses_of place n (coded_in place i t).label
use_in n place item = []

-- the lines of instructions yield the uses of labels
pub uses_gather : Gathers (λ d. d.uses) use_in
uses_gather n (AnInstruction i t) d stands = refl
uses_gather n _ d stands = sym (append-nil d.uses)

-- labels

-- a word that is equal to one of two different words isn't the other
differs : (a b c : Word) → bytes_eq a b ≡ false → c ≡ b → bytes_eq c a ≡ false
differs a b c e same = on_test (bytes_eq c a)
    (λ (t : bytes_eq c a ≡ true).
    absurd (let bad : bytes_eq a b ≡ true = ap (λ w. bytes_eq a w) (sym same ∙ same_word c a t) ∙ bytes_eq-own a in
    let no : true ≡ false = sym bad ∙ e in cc))
    (λ (f : bytes_eq c a ≡ false). f)

-- two look-ups of different names may be exchanged
swap : (name key at : Word) (p q : ℕ) (rest : Option ℕ) → bytes_eq key at ≡ false
    → cond (bytes_eq name at) (Some q) (cond (bytes_eq name key) (Some p) rest)
    ≡ cond (bytes_eq name key) (Some p) (cond (bytes_eq name at) (Some q) rest)
swap name key at p q rest apart = on_test (bytes_eq name at)
    (λ (t : bytes_eq name at ≡ true). rw (t, differs key at name apart (same_word name at t)) refl)
    (λ (f : bytes_eq name at ≡ false). rw f refl)

abbrev pub Found : Word → Word → ℕ → Option ℕ → Option ℕ
Found name key p rest = cond (bytes_eq name key) (Some p) rest

lookup_by : (o : Ordering) (name key : Word) (p : ℕ) (e : Word × ℕ) (es inserted : Labels)
    → is_eq o ≡ bytes_eq key e.0 → lookup (bytes_eq name) inserted ≡ Found name key p (lookup (bytes_eq name) es)
    → lookup (bytes_eq name) (match_ordering o ((key, p) ∷ e ∷ es) ((e.0, p) ∷ es) (e ∷ inserted))
    ≡ Found name key p (lookup (bytes_eq name) (e ∷ es))
lookup_by Less name key p e es inserted same rest = refl
lookup_by Equal name key p e es inserted same rest =
    let is : key ≡ e.0 = same_word key e.0 (sym same) in
    on_test (bytes_eq name e.0)
    (λ (t : bytes_eq name e.0 ≡ true). rw (is, t) refl)
    (λ (f : bytes_eq name e.0 ≡ false). rw (is, f) refl)
lookup_by Greater name key p e es inserted same rest =
    ap (λ (o : Option ℕ). cond (bytes_eq name e.0) (Some e.1) o) rest
    ∙ swap name key e.0 p e.1 (lookup (bytes_eq name) es) (sym same)

pub lookup-inserted : (name key : Word) (p : ℕ) (es : Labels)
    → lookup (bytes_eq name) (with_label key p es) ≡ Found name key p (lookup (bytes_eq name) es)
lookup-inserted name key p [] = refl
lookup-inserted name key p (e ∷ es) =
    lookup_by (slice_cmp nat_cmp key e.0) name key p e es (with_label key p es) (is_eq-slice_cmp key e.0)
    (lookup-inserted name key p es)

-- one more label at the end
none_first : (b : Bool) (q : ℕ) (rest : Option ℕ) → cond b (Some q) rest ≡ None → (b ≡ false) × (rest ≡ None)
none_first true q rest e = absurd cc
none_first false q rest e = (refl, e)

pub lookup-pushed : (name key : Word) (p : ℕ) (es : Labels) → lookup (bytes_eq key) es ≡ None
    → lookup (bytes_eq name) (es ++ (key, p) ∷ []) ≡ Found name key p (lookup (bytes_eq name) es)
lookup-pushed name key p [] none = refl
lookup-pushed name key p (e ∷ es) none =
    let parts = none_first (bytes_eq key e.0) e.1 (lookup (bytes_eq key) es) none in
    ap (λ (o : Option ℕ). cond (bytes_eq name e.0) (Some e.1) o) (lookup-pushed name key p es parts.1)
    ∙ swap name key e.0 p e.1 (lookup (bytes_eq name) es) parts.0

-- labels in the order of their names have the same places as in the order of the text
abbrev pub SameLabels : Labels → Labels → Type 0
SameLabels labels others = (name : Word) → place_of labels name ≡ place_of others name

-- one label more
pub more_labels : (labels others : Labels) (key : Word) (p : ℕ) → place_of labels key ≡ None → SameLabels labels others
    → SameLabels (with_label key p labels) (others ++ (key, p) ∷ [])
more_labels labels others key p fresh same name =
    lookup-inserted name key p labels ∙ ap (λ (o : Option ℕ). Found name key p o) (same name)
    ∙ sym (lookup-pushed name key p others (sym (same key) ∙ fresh))

label_added : (n : ℕ) (item : Item) (items : List Item) (d : Draft) (before : Labels)
    → AreFresh n (item ∷ items) d → SameLabels d.labels before
    → SameLabels (added n item d).labels (before ++ label_in (length d.code) item)
label_added n (ALabel key) items d before fresh same = more_labels d.labels before key (length d.code) fresh.0 same
label_added n _ items d before fresh same = subst (SameLabels d.labels) (sym (append-nil before)) same

abbrev pub IsNew : Labels → Word × ℕ → Type 0
IsNew before label = place_of before label.0 ≡ None

-- no item repeats a label
abbrev pub ItemsFresh : ℕ → Labels → List Item → Type 0
ItemsFresh place before items = EachAfter IsNew before (gathered label_in place items)

once_added : (n : ℕ) (item : Item) (items : List Item) (d : Draft) (before : Labels)
    → AreFresh n (item ∷ items) d → SameLabels d.labels before
    → ItemsFresh (length (added n item d).code) (before ++ label_in (length d.code) item) items
    → ItemsFresh (length d.code) before (item ∷ items)
once_added n (ALabel key) items d before fresh same rest = (sym (same key) ∙ fresh.0, rest)
once_added n (AnInstruction i t) items d before fresh same rest =
    subst (λ p. ItemsFresh p before items) (place_added n (AnInstruction i t) d)
    (subst (λ (ls : Labels). ItemsFresh (length (added n (AnInstruction i t) d).code) ls items)
    (append-nil before) rest)
once_added n other items d before fresh same rest =
    subst (λ (ls : Labels). ItemsFresh (length d.code) ls items) (append-nil before) rest

-- the labels of items
pub record LabelsAre (n : ℕ) (items : List Item) (d : Draft) (before : Labels) : Type 0 where
  pub once : ItemsFresh (length d.code) before items
  pub same : SameLabels (adds n items d).labels (before ++ gathered label_in (length d.code) items)

-- the lines of labels yield the labels
pub labels_are : (n : ℕ) (items : List Item) (d : Draft) (before : Labels)
    → AreFresh n items d → SameLabels d.labels before → LabelsAre n items d before
labels_are n [] d before fresh same =
    record { once = tt; same = subst (SameLabels d.labels) (sym (append-nil before)) same }
labels_are n (item ∷ items) d before fresh same =
    let rest =
    labels_are (n + 1) items (added n item d) (before ++ label_in (length d.code) item) fresh.1
    (label_added n item items d before fresh same) in
    record {
      once = once_added n item items d before fresh same rest.once;
      same = subst (SameLabels (adds n (item ∷ items) d).labels)
          (append_assoc before (label_in (length d.code) item) (gathered label_in (length (added n item d).code) items)
          ∙ ap (λ p. before ++ (label_in (length d.code) item ++ gathered label_in p items)) (place_added n item d))
          rest.same;
    }
