-- The laws of reading items in sequence, from the laws of reading one.
use Rattle.std.proofs.Common.{◌≡◌, ℕ, zero, suc, ◌^◌, ◌<◌, List, [], ◌∷◌, ◌++◌, length, flat_map, Ok, refl, ap, sym, ◌∙◌, append_assoc}
use Rattle.std.specs.Prelude.{All}
use Rattle.std.proofs.lemmas.List.{append-nil}
use Rattle.std.proofs.lemmas.List.Elements.{All-nil, All-cons, All-head, All-tail}
use Rattle.gr_base.specs.Prelude.{Within, EachAfter, is_within}
use Rattle.object_file.specs.Prelude.{number, listed, Read, items_at, list_at}
use Rattle.object_file.proofs.Numbers.{IsBytes}
use Rattle.gr_base.proofs.Results.{IfRead, read_ok, read_then}
use Rattle.object_file.proofs.Readers.{Takes, Takes-then, IsReader, range}

-- the items that were read after others, their encoding, and that each fits
pub record AreItems {X : Type 0} (text : X → List ℕ) (Fits : List X → X → Type 0) (n : ℕ) (before : List X)
    (bytes : List ℕ) (x : List X × List ℕ) : Type 0 where
  pub items : List X
  pub whole : x.0 ≡ before ++ items
  pub count : length items ≡ n
  pub takes : Takes bytes (flat_map text items) x.1
  pub each : EachAfter Fits before items

module _ {X : Type 0} (read : List X → List ℕ → Read X) (text : X → List ℕ) (Fits : List X → X → Type 0)
    (one : (before : List X) → IsReader (read before) text (Fits before)) where
  -- items that are read are in the bytes, and each is in range
  pub items_read : (n : ℕ) (before : List X) (bytes : List ℕ) → IsBytes bytes
      → IfRead (items_at read n before bytes) (AreItems text Fits n before bytes)
  unfolding items_at
  items_read zero before bytes fits =
      read_ok _ _ (record {
        items = [];
        whole = sym (append-nil before);
        count = refl;
        takes = record { parts = refl; rest_fits = fits };
        each = tt;
      })
  items_read (suc n) before bytes fits =
      read_then _ _ _ _ ((one before).reads bytes fits) (λ x found.
      record {
        then = λ y e.
            let others = (items_read n (before ++ x.0 ∷ []) x.1 found.0.rest_fits).then y e in
            record {
              items = x.0 ∷ others.items;
              whole = others.whole ∙ append_assoc before (x.0 ∷ []) others.items;
              count = ap suc others.count;
              takes = Takes-then found.0 others.takes;
              each = (found.1, others.each);
            };
      })

  -- the encoding of items in range is read
  pub items_again : (items before : List X) (rest : List ℕ) → EachAfter Fits before items
      → items_at read (length items) before (flat_map text items ++ rest) ≡ Ok (before ++ items, rest)
  unfolding items_at
  items_again [] before rest each = ap (λ (xs : List X). Ok (xs, rest)) (sym (append-nil before))
  items_again (x ∷ items) before rest each =
      let bytes : flat_map text (x ∷ items) ++ rest ≡ text x ++ (flat_map text items ++ rest) =
      append_assoc (text x) (flat_map text items) rest in
      let first = (one before).again x (flat_map text items ++ rest) each.0 in
      let others = items_again items (before ++ x ∷ []) rest each.1 in
      ap (items_at read (suc (length items)) before) bytes
      ∙ rw first (others ∙ ap (λ (xs : List X). Ok (xs, rest)) (append_assoc before (x ∷ []) items))

  -- a list of items after its length
  pub list : (n all low high : ℕ) → high < 256 ^ n → IsReader (list_at n all (is_within low high) read) (listed n text)
      (λ items. Within low high (length items) × EachAfter Fits [] items)
  unfolding list_at listed
  list n all low high small = record {
    reads = λ bytes fits. read_then _ _ _ _ ((range n all low high small).reads bytes fits) (λ count found.
        record {
          then = λ x e.
              let read_items = (items_read count.0 [] count.1 found.0.rest_fits).then x e in
              let takes = Takes-then found.0 read_items.takes in
              let whole : x.0 ≡ read_items.items = read_items.whole in
              rw (whole, read_items.count) (takes, (found.1, read_items.each));
        });
    again = λ items rest h.
        let bytes : listed n text items ++ rest ≡ number n (length items) ++ (flat_map text items ++ rest) =
        append_assoc (number n (length items)) (flat_map text items) rest in
        ap (list_at n all (is_within low high) read) bytes
        ∙ rw ((range n all low high small).again (length items) (flat_map text items ++ rest) h.0)
        (items_again items [] rest h.1);
  }

-- if each item follows a rule that doesn't depend on the items before, all items follow it
pub All-EachAfter : {X : Type 0} (P : X → Type 0) (before xs : List X) → EachAfter (λ _. P) before xs → All P xs
All-EachAfter P before [] each = All-nil P
All-EachAfter P before (x ∷ xs) each = All-cons P x xs each.0 (All-EachAfter P (before ++ x ∷ []) xs each.1)

-- if all items follow a rule that doesn't depend on the items before, each item does
pub EachAfter-All : {X : Type 0} (P : X → Type 0) (before xs : List X) → All P xs → EachAfter (λ _. P) before xs
EachAfter-All P before [] all = tt
EachAfter-All P before (x ∷ xs) all = (All-head P x xs all, EachAfter-All P (before ++ x ∷ []) xs (All-tail P x xs all))
