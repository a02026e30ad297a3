-- The contents of the lines before a line, from the draft of the lines that were read.
use Rattle.std.proofs.Common.{◌≡◌, ℕ, ◌+◌, List, [], ◌∷◌, ◌++◌, length, Option, Some, None, refl, sym, ap, ◌∙◌, arith}
use Rattle.lt_isa.specs.declared.profiles.Profile.{Profile}
use Rattle.lt_assembler.specs.Prelude.{Labels, Draft, empty_draft, width, Item, Stands, stage_behind, StagesInOrder, labels_in, Earlier, given, stage_behind_all, place_after_all, block_words_by}
use Rattle.lt_assembler.proofs.Added.{added, adds, IsFresh, AreFresh, stage_in, IsHeaded, IsHeaded-added, stage-added}
use Rattle.lt_assembler.proofs.Gathered.{option_list, place_added, order_behind}
use Rattle.lt_assembler.proofs.Spelled.{IsGathered, is_gathered, stage_start, headed_start}

-- the contents of a draft, with labels in the order of the text
abbrev pub earlier_of : Draft → Labels → Earlier
earlier_of d labels = record {
  stage = stage_in d;
  profile = option_list d.profile;
  banks = d.banks;
  symbols = d.symbols;
  notes = d.notes;
  labels = labels;
  place = length d.code;
}

-- the number of words of a block
pub width_is : (o : Option Profile) → block_words_by (option_list o) ≡ width o
width_is None = refl
width_is (Some p) = refl

place_is : (n : ℕ) (items : List Item) (d : Draft)
    → place_after_all (length d.code) items ≡ length (adds n items d).code
place_is n [] d = refl
place_is n (item ∷ items) d =
    ap (λ p. place_after_all p items) (sym (place_added n item d)) ∙ place_is (n + 1) items (added n item d)

stage_is : (n : ℕ) (items : List Item) (d : Draft) → IsHeaded d → StagesInOrder (stage_in d) items
    → stage_behind_all (stage_in d) items ≡ stage_in (adds n items d)
stage_is n [] d headed order = refl
stage_is n (item ∷ items) d headed order =
    ap (λ m. stage_behind_all m items) (sym (stage-added n item d headed order.0))
    ∙ stage_is (n + 1) items (added n item d) (IsHeaded-added n item d headed order.0)
    (order_behind n item items d headed order)

record_is : (items : List Item) (d : Draft) → IsGathered items d → stage_behind_all 0 items ≡ stage_in d
    → place_after_all 0 items ≡ length d.code → given items ≡ earlier_of d (labels_in items)
record_is items d h stage place = rw (stage, h.profile, h.banks, h.symbols, h.notes, place) refl

-- the contents of items are those of their draft
pub given_is : (items : List Item) (d : Draft) → StagesInOrder (stage_in empty_draft) items
    → AreFresh 1 items empty_draft → d ≡ adds 1 items empty_draft → given items ≡ earlier_of d (labels_in items)
given_is items d order fresh is =
    record_is items d (is_gathered items d order fresh is)
    (ap (λ m. stage_behind_all m items) (sym stage_start) ∙ stage_is 1 items empty_draft headed_start order
    ∙ ap stage_in (sym is))
    (place_is 1 items empty_draft ∙ ap (λ (x : Draft). length x.code) (sym is))

-- one more item

pub adds-push : (n : ℕ) (items : List Item) (item : Item) (d : Draft)
    → adds n (items ++ item ∷ []) d ≡ added (length items + n) item (adds n items d)
adds-push n [] item d = ap (λ m. added m item d) (let same : n ≡ length {A = Item} [] + n = omega arith in same)
adds-push n (x ∷ items) item d =
    adds-push (n + 1) items item (added n x d)
    ∙ ap (λ m. added m item (adds (n + 1) items (added n x d)))
    (let same : length items + (n + 1) ≡ length (x ∷ items) + n = omega arith in same)

pub fresh-push : (n : ℕ) (items : List Item) (item : Item) (d : Draft)
    → AreFresh n items d → IsFresh (adds n items d) item → AreFresh n (items ++ item ∷ []) d
fresh-push n [] item d fresh here = (here, tt)
fresh-push n (x ∷ items) item d fresh here =
    (fresh.0, fresh-push (n + 1) items item (added n x d) fresh.1 here)

pub order-push : (stage : ℕ) (items : List Item) (item : Item) → StagesInOrder stage items
    → Stands (stage_behind_all stage items) item → StagesInOrder stage (items ++ item ∷ [])
order-push stage [] item order here = (here, tt)
order-push stage (x ∷ items) item order here =
    (order.0, order-push (stage_behind stage x) items item order.1 here)

-- the stage of a draft of items in order
pub stage_there : (items : List Item) (d : Draft) → StagesInOrder (stage_in empty_draft) items
    → d ≡ adds 1 items empty_draft → stage_behind_all (stage_in empty_draft) items ≡ stage_in d
stage_there items d order is = stage_is 1 items empty_draft headed_start order ∙ ap stage_in (sym is)
