-- The first assignments make the memory of the start.
use Rattle.std.proofs.Common.{◌≡◌, ℕ, zero, suc, ◌+◌, ◌%◌, ◌<◌, ◌≤◌, ◌⊎◌, Bool, true, false, if◌then◌else◌, ℤ, pos, List, [], ◌∷◌, ◌++◌, length, set, Option, Some, None, refl, sym, ap, ◌∙◌, subst, arith, ⊎_elim}
use Rattle.std.specs.Option.{option_and_then, unwrap_or}
use Rattle.std.proofs.Math.Nat.{mod-eq_of_lt}
use Rattle.std.proofs.Math.Seq.{set-append_seam}
use Rattle.std.proofs.lemmas.Bool.{cases_eq}
use Rattle.std.proofs.lemmas.List.{append_assoc, length-append}
use Rattle.module_tree.specs.Memory.{Memory, with_word, with_scalar, with_element}
use Rattle.module_tree.specs.Trees.{Item, Constant, Table, Scalar, Array}
use Rattle.module_tree.specs.Values.{Names}
use Rattle.module_tree.specs.FirstWords.{number_named, words_of, words_at, known_at, at_start}
use Rattle.flat_tree.specs.Trees.{Statement, Skip, Put, Set}
use Rattle.flat_tree.specs.Meaning.{at, onward, run}
use Rattle.flat_tree.specs.Keeps.{Agree}
use Rattle.flat_tree.proofs.Agreeing.{read_here, read_other}
use Rattle.module_calls.specs.FirstAssignments.{zeros, is_null, is_single, elements_set, scalar_set, item_set, items_set, first_assignments, before_start, OnlyForZeros}
use Rattle.flat_tree.specs.Trees as flat

null_is : (word : ℤ) → is_null word ≡ true → word ≡ pos 0
null_is (pos zero) e = refl
null_is word e = absurd (let f : false ≡ true = e in cc)

-- statements that leave certain words in one variable, and the others as they were
record Sets (s : Statement) (k : ℕ) (words : List ℤ) (l : Memory) : Type 0 where
  after : Memory
  done : (turns : ℕ) → run s l turns ≡ Some (at after turns)
  here : after k ≡ words
  others : (j : ℕ) → (j ≡ k → ⊥) → after j ≡ l j

-- an element after some words is replaced
seam : (front : List ℤ) (word : ℤ) (rest : List ℤ) (i : ℕ) → i ≡ length front
    → with_word (front ++ pos 0 ∷ zeros rest) (pos i) word ≡ (front ++ word ∷ []) ++ zeros rest
seam front word rest i same =
    let words = front ++ pos 0 ∷ zeros rest in
    let long = length-append front (pos 0 ∷ zeros rest) in
    let place : i % length words ≡ i = mod-eq_of_lt (omega (arith, long, same)) in
    ap (λ j. set words j word) (place ∙ same)
    ∙ set-append_seam front (pos 0) (zeros rest) word
    ∙ sym (append_assoc front (word ∷ []) (zeros rest))

element_done : (k i : ℕ) (front : List ℤ) (word : ℤ) (rest : List ℤ) (l : Memory) → i ≡ length front
    → l k ≡ front ++ pos 0 ∷ zeros rest
    → Sets (if is_null word then Skip else Put k (flat.Number (pos i)) (flat.Number word)) k
    ((front ++ word ∷ []) ++ zeros rest) l
element_done k i front word rest l same is = by (is_null word) refl
  where
    by : (b : Bool) → is_null word ≡ b
        → Sets (if b then Skip else Put k (flat.Number (pos i)) (flat.Number word)) k
        ((front ++ word ∷ []) ++ zeros rest) l
    by true e = record {
      after = l;
      done = λ turns. refl;
      here =
          is ∙ sym (append_assoc front (pos 0 ∷ []) (zeros rest))
          ∙ ap (λ w. (front ++ w ∷ []) ++ zeros rest) (sym (null_is word e));
      others = λ j ne. refl;
    }
    by false e = record {
      after = with_element l k (pos i) word;
      done = λ turns. refl;
      here =
          read_here l k (with_word (l k) (pos i) word) ∙ ap (λ ws. with_word ws (pos i) word) is
          ∙ seam front word rest i same;
      others = λ j ne. read_other l k j (with_word (l k) (pos i) word) ne;
    }

elements_done : (k i : ℕ) (front words : List ℤ) (l : Memory) → i ≡ length front → l k ≡ front ++ zeros words
    → Sets (elements_set k i words) k (front ++ words) l
elements_done k i front [] l same is = record { after = l; done = λ turns. refl; here = is; others = λ j ne. refl }
elements_done k i front (word ∷ words) l same is =
    let one = element_done k i front word words l same is in
    let long = length-append front (word ∷ []) in
    let more = elements_done k (i + 1) (front ++ word ∷ []) words one.after (omega (arith, long, same)) one.here in
    record {
      after = more.after;
      done = λ turns.
          ap (option_and_then (onward (run (elements_set k (i + 1) words)))) (one.done turns) ∙ more.done turns;
      here = more.here ∙ append_assoc front (word ∷ []) words;
      others = λ j ne. more.others j ne ∙ one.others j ne;
    }

scalar_done : (k : ℕ) (word : ℤ) (l : Memory) → l k ≡ pos 0 ∷ [] → Sets (scalar_set k word) k (word ∷ []) l
scalar_done k word l is = by (is_null word) refl
  where
    by : (b : Bool) → is_null word ≡ b → Sets (if b then Skip else Set k (flat.Number word)) k (word ∷ []) l
    by true e = record {
      after = l;
      done = λ turns. refl;
      here = is ∙ ap (λ w. w ∷ []) (sym (null_is word e));
      others = λ j ne. refl;
    }
    by false e = record {
      after = with_scalar l k word;
      done = λ turns. refl;
      here = read_here l k (word ∷ []);
      others = λ j ne. read_other l k j (word ∷ []) ne;
    }

-- a scalar has one word
abbrev Fits : Bool → List ℤ → Type 0
Fits true (word ∷ []) = Unit {0}
Fits true words = ⊥
Fits false words = Unit {0}

item_done : (single : Bool) (k : ℕ) (words : List ℤ) (l : Memory) → Fits single words → l k ≡ zeros words
    → Sets (item_set single k words) k words l
item_done true k [] l fits is = absurd fits
item_done true k (word ∷ []) l fits is = scalar_done k word l is
item_done true k (word ∷ other ∷ words) l fits is = absurd fits
item_done false k words l fits is = elements_done k 0 [] words l refl is

-- words that are zeros need no assignments
elements_nothing : (k i : ℕ) (words : List ℤ) (l : Memory) (turns : ℕ) → words ≡ zeros words
    → run (elements_set k i words) l turns ≡ Some (at l turns)
elements_nothing k i [] l turns e = refl
elements_nothing k i (word ∷ words) l turns e =
    let both : ◌≡◌ {A = List ℤ} (word ∷ words) (pos 0 ∷ zeros words) = e in
    let first : word ≡ pos 0 = cc in
    let rest : words ≡ zeros words = cc in
    ap (λ b. option_and_then (onward (run (elements_set k (i + 1) words)))
    (run (if b then Skip else Put k (flat.Number (pos i)) (flat.Number word)) l turns)) (ap is_null first)
    ∙ elements_nothing k (i + 1) words l turns rest

item_nothing : (single : Bool) (k : ℕ) (words : List ℤ) (l : Memory) (turns : ℕ) → words ≡ zeros words
    → run (item_set single k words) l turns ≡ Some (at l turns)
item_nothing true k [] l turns e = refl
item_nothing true k (word ∷ words) l turns e =
    let both : ◌≡◌ {A = List ℤ} (word ∷ words) (pos 0 ∷ zeros words) = e in
    let first : word ≡ pos 0 = cc in
    ap (λ b. run (if b then Skip else Set k (flat.Number word)) l turns) (ap is_null first)
item_nothing false k words l turns e = elements_nothing k 0 words l turns e

item_started : (single : Bool) (k : ℕ) (words : List ℤ) (l : Memory) (input : Option (List ℤ)) → Fits single words
    → (input ≡ None) ⊎ (words ≡ zeros words) → l k ≡ unwrap_or input (zeros words)
    → Sets (item_set single k words) k (unwrap_or input words) l
item_started single k words l None fits only is = item_done single k words l fits is
item_started single k words l (Some given) fits only is =
    ⊎_elim (λ e. absurd (let f : ◌≡◌ {A = Option (List ℤ)} (Some given) None = e in cc))
    (λ e. record {
      after = l;
      done = λ turns. item_nothing single k words l turns e;
      here = is;
      others = λ j ne. refl;
    })
    only

-- all items from number k on
abbrev AllFit : Memory → ℕ → List Item → Type 0
AllFit start k [] = Unit {0}
AllFit start k (item ∷ items) = Fits (is_single item) (start k) × AllFit start (k + 1) items

record AllSet (start : Memory) (inputs : ℕ → Option (List ℤ)) (k : ℕ) (items : List Item) (l : Memory) : Type 0 where
  after : Memory
  done : (turns : ℕ) → run (items_set start k items) l turns ≡ Some (at after turns)
  below : (j : ℕ) → j < k → after j ≡ l j
  here : (j : ℕ) → k ≤ j → j < k + length items → after j ≡ unwrap_or (inputs j) (start j)

items_started : (start : Memory) (inputs : ℕ → Option (List ℤ))
    → ((j : ℕ) → (inputs j ≡ None) ⊎ (start j ≡ zeros (start j))) → (k : ℕ) (items : List Item) (l : Memory)
    → AllFit start k items
    → ((j : ℕ) → k ≤ j → j < k + length items → l j ≡ unwrap_or (inputs j) (zeros (start j)))
    → AllSet start inputs k items l
items_started start inputs only k [] l fits is = record {
  after = l;
  done = λ turns. refl;
  below = λ j lt. refl;
  here = λ j le lt. absurd (omega (arith, le, lt));
}
items_started start inputs only k (item ∷ items) l fits is =
    let one = item_started (is_single item) k (start k) l (inputs k) fits.0 (only k)
    (is k (omega arith) (omega arith)) in
    let more = items_started start inputs only (k + 1) items one.after fits.1
    (λ j le lt. one.others j (λ e. omega (arith, le, e)) ∙ is j (omega (arith, le)) (omega (arith, lt))) in
    record {
      after = more.after;
      done = λ turns.
          ap (option_and_then (onward (run (items_set start (k + 1) items)))) (one.done turns) ∙ more.done turns;
      below = λ j lt. more.below j (omega (arith, lt)) ∙ one.others j (λ e. omega (arith, lt, e));
      here = λ j le lt.
          ⊎_elim
          (λ e. subst (λ i. more.after i ≡ unwrap_or (inputs i) (start i)) (sym e)
          (more.below k (omega arith) ∙ one.here))
          (λ ne. more.here j (omega (arith, le, ne)) (omega (arith, lt))) (cases_eq j k);
    }

item_fits : (names : Names) (needed : Memory) (item : Item) → Fits (is_single item) (words_of names needed item)
item_fits names needed (Constant x e) = tt
item_fits names needed (Table x n es) = tt
item_fits names needed (Scalar role x e) = tt
item_fits names needed (Array role x n es) = tt

items_fit : (names : Names) (needed start : Memory) (k : ℕ) (items : List Item)
    → ((i : ℕ) → start (k + i) ≡ words_at names needed items i) → AllFit start k items
items_fit names needed start k [] is = tt
items_fit names needed start k (item ∷ items) is = (
  subst (Fits (is_single item))
      (sym (ap start (let e : k ≡ k + 0 = omega arith in e) ∙ is 0)) (item_fits names needed item),
  items_fit names needed start (k + 1) items
      (λ i. ap start (let e : k + 1 + i ≡ k + suc i = omega arith in e) ∙ is (suc i)),
)

known_fit : (items : List Item) → AllFit (known_at items (length items)) 0 items
unfolding known_at
known_fit [] = tt
known_fit (item ∷ items) =
    items_fit (number_named (item ∷ items)) (known_at (item ∷ items) (length items))
    (known_at (item ∷ items) (suc (length items))) 0 (item ∷ items)
    (λ i. ap (words_at (number_named (item ∷ items)) (known_at (item ∷ items) (length items)) (item ∷ items))
    (let e : 0 + i ≡ i = omega arith in e))

-- the memory after the first assignments
pub record Started (items : List Item) (inputs : ℕ → Option (List ℤ)) (l : Memory) : Type 0 where
  pub after : Memory
  pub done : (turns : ℕ) → run (first_assignments items) l turns ≡ Some (at after turns)
  pub start : Agree (length items) (at_start items inputs) after

pub first_done : (items : List Item) (inputs : ℕ → Option (List ℤ)) (l : Memory) → OnlyForZeros items inputs
    → Agree (length items) (before_start items inputs) l → Started items inputs l
first_done items inputs l only a =
    let start = known_at items (length items) in
    let all = items_started start inputs only 0 items l (known_fit items)
    (λ j le lt. sym (a.same j (omega (arith, lt)))) in
    record {
      after = all.after;
      done = all.done;
      start = record { same = λ j lt. sym (all.here j (omega arith) (omega (arith, lt))) };
    }
