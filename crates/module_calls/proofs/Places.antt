-- Each local variable of a call has a variable of the flat statements, its place. A name is read and written there.
use Rattle.std.proofs.Common.{◌≡◌, ℕ, ◌<◌, ◌≤◌, Bool, true, false, if◌then◌else◌, ℤ, List, [], ◌∷◌, Option, Some, None, refl, sym, ap, ◌∙◌, subst, arith}
use Rattle.std.specs.Prelude.{bytes_eq}
use Rattle.module_tree.specs.Memory.{Memory, first_word, word_at, with_word, with_words, with_scalar}
use Rattle.module_tree.specs.Values.{LocalVariable, Names, words_named, with_named, read, frame_with, memory_with}
use Rattle.flat_tree.specs.Trees.{Term, Scalar, Statement, Set}
use Rattle.flat_tree.specs.Meaning.{value, at, run}
use Rattle.flat_tree.specs.Keeps.{Agree}
use Rattle.flat_tree.proofs.Agreeing.{agree_set, agree_new, agree_then, read_here, read_other}
use Rattle.module_calls.specs.Inlining.{Place, scalar_term, element_term, term_named, set_scalar, set_named, put_named}

-- places above number `low` and below number n, the latest highest
abbrev pub Ordered : ℕ → ℕ → List Place → Type 0
Ordered low n [] = Unit {0}
Ordered low n (p ∷ places) = (low < p.number) × (p.number < n) × Ordered low p.number places

-- they have the names and the words of local variables
abbrev pub Holds : Memory → List LocalVariable → List Place → Type 0
Holds l [] [] = Unit {0}
Holds l (own ∷ frame) (p ∷ places) =
    (own.name ≡ p.name) × (l p.number ≡ own.word ∷ []) × Holds l frame places
Holds l _ _ = ⊥

-- names name items
abbrev pub BelowIf : ℕ → Option ℕ → Type 0
BelowIf all None = Unit {0}
BelowIf all (Some k) = k < all

pub record NameItems (all : ℕ) (names : Names) : Type 0 where
  pub below : (x : List ℕ) → BelowIf all (names x)

-- memories that agree on the numbers from `all` on and below n
pub record Outer (all n : ℕ) (l h : Memory) : Type 0 where
  pub same : (k : ℕ) → all ≤ k → k < n → l k ≡ h k

pub outer_from : (all n : ℕ) {l h : Memory} → Agree n l h → Outer all n l h
outer_from all n a = record { same = λ k low lt. a.same k lt }

pub outer_then : {all n : ℕ} {l h j : Memory} → Outer all n l h → Outer all n h j → Outer all n l j
outer_then a b = record { same = λ k low lt. a.same k low lt ∙ b.same k low lt }

pub outer_fewer : {all n p : ℕ} {l h : Memory} → p ≤ n → Outer all n l h → Outer all p l h
outer_fewer le a = record { same = λ k low lt. a.same k low (omega (arith, le, lt)) }

pub holds_above : {all low n : ℕ} {l h : Memory} (frame : List LocalVariable) (places : List Place) → all ≤ low
    → Ordered low n places → ((k : ℕ) → low < k → k < n → l k ≡ h k) → Holds l frame places → Holds h frame places
holds_above [] [] le o a x = tt
holds_above [] (p ∷ places) le o a x = absurd x
holds_above (own ∷ frame) [] le o a x = absurd x
holds_above (own ∷ frame) (p ∷ places) le o a x =
    let upper = o.1 in (
      x.0,
      sym (a p.number o.0 o.1) ∙ x.1,
      holds_above frame places le o.2 (λ k more lt. a k more (omega (arith, upper, lt))) x.2,
    )

pub holds_same : {all low n : ℕ} {l h : Memory} (frame : List LocalVariable) (places : List Place) → all ≤ low
    → Ordered low n places → Outer all n l h → Holds l frame places → Holds h frame places
holds_same frame places le o a x = holds_above frame places le o (λ k more lt. a.same k (omega (arith, le, more)) lt) x

number_same : {all : ℕ} {memory l : Memory} (o : Option ℕ) → BelowIf all o → Agree all memory l
    → value l (scalar_term o) ≡ first_word (words_named memory o)
number_same None below a = refl
number_same (Some k) below a = ap first_word (sym (a.same k below))

pub read_same : {all : ℕ} {memory l : Memory} (names : Names) (frame : List LocalVariable) (places : List Place)
    → NameItems all names → Agree all memory l → Holds l frame places → (x : List ℕ)
    → value l (term_named names places x) ≡ read names frame memory x
read_same names [] [] known a h x = number_same (names x) (known.below x) a
read_same names [] (p ∷ places) known a h x = absurd h
read_same names (own ∷ frame) [] known a h x = absurd h
read_same {memory = memory} {l = l} names (own ∷ frame) (p ∷ places) known a h x =
    ap (λ name. value l (if bytes_eq x name then Scalar p.number else term_named names places x)) (sym h.0)
    ∙ by (bytes_eq x own.name) (read_same names frame places known a h.2 x)
  where
    by : (b : Bool) → value l (term_named names places x) ≡ read names frame memory x
        → value l (if b then Scalar p.number else term_named names places x)
        ≡ (if b then own.word else read names frame memory x)
    by true rest = ap first_word h.1
    by false rest = rest

pub element_same : {all : ℕ} {memory l : Memory} (o : Option ℕ) → BelowIf all o → Agree all memory l → (i : Term) (index : ℤ)
    → value l i ≡ index → value l (element_term o i) ≡ word_at (words_named memory o) index
element_same None below a i index is = refl
element_same {l = l} (Some k) below a i index is =
    ap (word_at (l k)) is ∙ ap (λ ws. word_at ws index) (sym (a.same k below))

-- an assignment to a name: what it leaves holds the local variables and the module's variables after it
pub record Assigned (all low n : ℕ) (frame : List LocalVariable) (memory : Memory) (places : List Place) (l : Memory) (s : Statement) : Type 0 where
  pub after : Memory
  pub done : (turns : ℕ) → run s l turns ≡ Some (at after turns)
  pub agree : Agree all memory after
  pub holds : Holds after frame places
  pub outer : (k : ℕ) → all ≤ k → k ≤ low → l k ≡ after k
  pub above : (k : ℕ) → all ≤ k → n ≤ k → l k ≡ after k

number_assigned : {all low n : ℕ} {memory l : Memory} (e : Term) (word : ℤ) (o : Option ℕ) → BelowIf all o
    → Agree all memory l → value l e ≡ word → Assigned all low n [] (with_named memory o (word ∷ [])) [] l (set_scalar o e)
number_assigned {l = l} e word None below a is = record {
  after = l;
  done = λ turns. refl;
  agree = a;
  holds = tt;
  outer = λ k le most. refl;
  above = λ k le most. refl;
}
number_assigned {l = l} e word (Some k) below a is =
    let other : (j : ℕ) → _ ≤ j → l j ≡ with_scalar l k word j =
    λ j le. sym (read_other l k j (word ∷ []) (λ same. omega (arith, below, le, same))) in
    record {
      after = with_scalar l k word;
      done = λ turns. ap (λ z. Some (at (with_scalar l k z) turns)) is;
      agree = agree_set k (word ∷ []) a;
      holds = tt;
      outer = λ j le most. other j le;
      above = λ j le most. other j le;
    }

pub assigned : {all low n : ℕ} {memory l : Memory} (names : Names) (frame : List LocalVariable) (places : List Place)
    → NameItems all names → all ≤ low → Ordered low n places → Agree all memory l → Holds l frame places → (x : List ℕ)
    (e : Term) (word : ℤ) → value l e ≡ word
    → Assigned all low n (frame_with frame x word) (memory_with names frame memory x word) places l
    (set_named names places x e)
assigned names [] [] known le o a h x e word is = number_assigned e word (names x) (known.below x) a is
assigned names [] (p ∷ places) known le o a h x e word is = absurd h
assigned names (own ∷ frame) [] known le o a h x e word is = absurd h
assigned {all = all} {low = low} {n = n} {memory = memory} {l = l} names (own ∷ frame) (p ∷ places) known le o a h x e
    word is =
    subst (λ name. Assigned all low n (frame_with (own ∷ frame) x word) (memory_with names (own ∷ frame) memory x word)
    (p ∷ places) l (if bytes_eq x name then Set p.number e else set_named names places x e)) h.0
    (by (bytes_eq x own.name) (assigned names frame places known le o.2 a h.2 x e word is))
  where
    by : (b : Bool)
        → Assigned all low p.number (frame_with frame x word) (memory_with names frame memory x word) places l
        (set_named names places x e)
        → Assigned all low n
        (if b then record { name = own.name; word = word } ∷ frame else own ∷ frame_with frame x word)
        (if b then memory else memory_with names frame memory x word) (p ∷ places) l
        (if b then Set p.number e else set_named names places x e)
    by true d =
        let lower = o.0 in
        let upper = o.1 in
        let other : (j : ℕ) → (j ≡ p.number → ⊥) → l j ≡ with_scalar l p.number word j =
        λ j ne. sym (read_other l p.number j (word ∷ []) ne) in
        record {
          after = with_scalar l p.number word;
          done = λ turns. ap (λ z. Some (at (with_scalar l p.number z) turns)) is;
          agree = agree_then a (agree_new l p.number (word ∷ []) (omega (arith, le, lower)));
          holds = (
            h.0,
            read_here l p.number (word ∷ []),
            holds_same frame places le o.2
                (record { same = λ k more lt. other k (λ same. omega (arith, lt, same)) }) h.2,
          );
          outer = λ k more most. other k (λ same. omega (arith, lower, most, same));
          above = λ k more most. other k (λ same. omega (arith, upper, most, same));
        }
    by false d =
        let lower = o.0 in
        let upper = o.1 in
        record {
          after = d.after;
          done = d.done;
          agree = d.agree;
          holds = (h.0, sym (d.above p.number (omega (arith, le, lower)) (omega arith)) ∙ h.1, d.holds);
          outer = d.outer;
          above = λ k more most. d.above k more (omega (arith, upper, most));
        }

-- an assignment to an element
pub put_assigned : {all low n : ℕ} {memory l : Memory} (frame : List LocalVariable) (places : List Place) → all ≤ low
    → Ordered low n places → Holds l frame places → (i e : Term) (index word : ℤ) (o : Option ℕ) → BelowIf all o
    → Agree all memory l → value l i ≡ index → value l e ≡ word
    → Assigned all low n frame (with_named memory o (with_word (words_named memory o) index word)) places l
    (put_named o i e)
put_assigned {l = l} frame places le order h i e index word None below a first second = record {
  after = l;
  done = λ turns. refl;
  agree = a;
  holds = h;
  outer = λ k le most. refl;
  above = λ k le most. refl;
}
put_assigned {all = all} {memory = memory} {l = l} frame places le order h i e index word (Some k) below a first second =
    let ws = with_word (memory k) index word in
    let other : (j : ℕ) → all ≤ j → l j ≡ with_words l k ws j =
    λ j more. sym (read_other l k j ws (λ same. omega (arith, below, more, same))) in
    record {
      after = with_words l k ws;
      done = λ turns.
          ap (λ z. Some (at (with_words l k (with_word (l k) z (value l e))) turns)) first
          ∙ ap (λ z. Some (at (with_words l k (with_word (l k) index z)) turns)) second
          ∙ ap (λ vs. Some (at (with_words l k (with_word vs index word)) turns)) (sym (a.same k below));
      agree = agree_set k ws a;
      holds = holds_same frame places le order (record { same = λ j more lt. other j more }) h;
      outer = λ j more most. other j more;
      above = λ j more most. other j more;
    }
