-- Labels in a map by keys, as a list in the order of their names.
use Rattle.std.proofs.Common.{◌≡◌, ℕ, Bool, true, false, cond, eqb, List, [], ◌∷◌, length, refl, sym, ap, ◌∙◌, Option, None, Some, arith}
use Rattle.std.specs.Prelude.{option_map, is_some, bytes_eq}
use Rattle.std.specs.declared.cmp.Ordering.{Ordering}
use Rattle.std.specs.declared.cmp.Ordering.TheVariants.{Less, Equal, Greater}
use Rattle.std.specs.Ordering.{nat_cmp, is_eq, ordering_then, ordering_reverse}
use Rattle.std.proofs.lemmas.Cmp.{tied_itself, alike_right, nat_cmp_total, nat_list_cmp_total}
use Rattle.std.specs.Cmp.Lexicographic.{slice_cmp}
use Rattle.std.specs.BTreeMap.{insert_entry}
use Rattle.std.specs.Map.{lookup}
use Rattle.std.proofs.lemmas.Map.Text.{is_eq-slice_cmp}
use Rattle.lt_assembler.specs.declared.draft.CodePlace.{CodePlace}
use Rattle.lt_assembler.specs.declared.label_keys.LabelKey.{LabelKey}
use Rattle.lt_assembler.specs.Prelude.{Word, mark_of, Labels, with_label, by_name}
use Rattle.lt_assembler.proofs.Splitting.{on_test}
use Rattle.lt_assembler.proofs.NamedWords.{same_word}
use Rattle.lt_assembler.proofs.Added.{not_zero, inserted}
use Rattle.lt_assembler.proofs.Gathered.{lookup-inserted}

on_order : {P : Type 0} (o : Ordering) → (o ≡ Less → P) → (o ≡ Equal → P) → (o ≡ Greater → P) → P
on_order Less less equal greater = less refl
on_order Equal less equal greater = equal refl
on_order Greater less equal greater = greater refl

abbrev name_cmp : Word → Word → Ordering
name_cmp a b = slice_cmp nat_cmp a b

-- a label that is inserted before, instead of, or after the first
put_before : (name : Word) (p : ℕ) (e : Word × ℕ) (es : Labels) → name_cmp name e.0 ≡ Less
    → with_label name p (e ∷ es) ≡ (name, p) ∷ e ∷ es
put_before name p e es less = rw less refl

put_over : (name : Word) (p : ℕ) (e : Word × ℕ) (es : Labels) → name_cmp name e.0 ≡ Equal
    → with_label name p (e ∷ es) ≡ (e.0, p) ∷ es
put_over name p e es equal = rw equal refl

put_behind : (name : Word) (p : ℕ) (e : Word × ℕ) (es : Labels) → name_cmp name e.0 ≡ Greater
    → with_label name p (e ∷ es) ≡ e ∷ with_label name p es
put_behind name p e es greater = rw greater refl

-- the second of two places for one name replaces the first
twice : (name : Word) (p q : ℕ) (es : Labels) → with_label name q (with_label name p es) ≡ with_label name q es
twice name p q [] = put_over name q (name, p) [] (tied_itself nat_list_cmp_total name)
twice name p q (e ∷ es) = on_order (name_cmp name e.0)
    (λ (less : name_cmp name e.0 ≡ Less).
    ap (with_label name q) (put_before name p e es less)
    ∙ put_over name q (name, p) (e ∷ es) (tied_itself nat_list_cmp_total name) ∙ sym (put_before name q e es less))
    (λ (equal : name_cmp name e.0 ≡ Equal).
    ap (with_label name q) (put_over name p e es equal)
    ∙ put_over name q (e.0, p) es equal ∙ sym (put_over name q e es equal))
    (λ (greater : name_cmp name e.0 ≡ Greater).
    ap (with_label name q) (put_behind name p e es greater) ∙ put_behind name q e (with_label name p es) greater
    ∙ ap (λ (xs : Labels). e ∷ xs) (twice name p q es) ∙ sym (put_behind name q e es greater))

-- two names in their order
in_order : (a b : Word) (p q : ℕ) (es : Labels) → name_cmp a b ≡ Less → name_cmp b a ≡ Greater
    → with_label a p (with_label b q es) ≡ with_label b q (with_label a p es)
in_order a b p q [] less more = put_before a p (b, q) [] less ∙ sym (put_behind b q (a, p) [] more)
in_order a b p q (e ∷ es) less more = on_order (name_cmp b e.0)
    (λ (first : name_cmp b e.0 ≡ Less).
    let low : name_cmp a e.0 ≡ Less = nat_list_cmp_total.trans a b e.0 less first in
    ap (with_label a p) (put_before b q e es first) ∙ put_before a p (b, q) (e ∷ es) less
    ∙ sym (ap (with_label b q) (put_before a p e es low) ∙ put_behind b q (a, p) (e ∷ es) more
    ∙ ap (λ (xs : Labels). (a, p) ∷ xs) (put_before b q e es first)))
    (λ (equal : name_cmp b e.0 ≡ Equal).
    let low : name_cmp a e.0 ≡ Less = sym (alike_right nat_list_cmp_total b e.0 a equal) ∙ less in
    ap (with_label a p) (put_over b q e es equal) ∙ put_before a p (e.0, q) es low
    ∙ sym (ap (with_label b q) (put_before a p e es low) ∙ put_behind b q (a, p) (e ∷ es) more
    ∙ ap (λ (xs : Labels). (a, p) ∷ xs) (put_over b q e es equal)))
    (λ (behind : name_cmp b e.0 ≡ Greater). on_order (name_cmp a e.0)
    (λ (low : name_cmp a e.0 ≡ Less).
    ap (with_label a p) (put_behind b q e es behind) ∙ put_before a p e (with_label b q es) low
    ∙ sym (ap (with_label b q) (put_before a p e es low) ∙ put_behind b q (a, p) (e ∷ es) more
    ∙ ap (λ (xs : Labels). (a, p) ∷ xs) (put_behind b q e es behind)))
    (λ (equal : name_cmp a e.0 ≡ Equal).
    ap (with_label a p) (put_behind b q e es behind) ∙ put_over a p e (with_label b q es) equal
    ∙ sym (ap (with_label b q) (put_over a p e es equal) ∙ put_behind b q (e.0, p) es behind))
    (λ (high : name_cmp a e.0 ≡ Greater).
    ap (with_label a p) (put_behind b q e es behind) ∙ put_behind a p e (with_label b q es) high
    ∙ ap (λ (xs : Labels). e ∷ xs) (in_order a b p q es less more)
    ∙ sym (ap (with_label b q) (put_behind a p e es high) ∙ put_behind b q e (with_label a p es) behind)))

after : (a b : Word) → name_cmp a b ≡ Less → name_cmp b a ≡ Greater
after a b less = nat_list_cmp_total.antisymm b a ∙ ap ordering_reverse less

-- two names in any order
apart : (a b : Word) (p q : ℕ) (es : Labels) → bytes_eq a b ≡ false
    → with_label a p (with_label b q es) ≡ with_label b q (with_label a p es)
apart a b p q es other = on_order (name_cmp a b)
    (λ (less : name_cmp a b ≡ Less). in_order a b p q es less (after a b less))
    (λ (equal : name_cmp a b ≡ Equal).
    absurd (let same : true ≡ false = ap is_eq (sym equal) ∙ (is_eq-slice_cmp a b ∙ other) in cc))
    (λ (greater : name_cmp a b ≡ Greater).
    let less : name_cmp b a ≡ Less = nat_list_cmp_total.antisymm b a ∙ ap ordering_reverse greater in
    sym (in_order b a q p es less greater))

-- keys are compared by their marks, and then by their names
abbrev pub label_cmp : LabelKey → LabelKey → Ordering
label_cmp a b = ordering_then (nat_cmp a.mark b.mark) (slice_cmp nat_cmp a.name.now b.name.now)

not_both : (o r : Ordering) → is_eq r ≡ false → is_eq (ordering_then o r) ≡ false
not_both Less r h = refl
not_both Equal r h = h
not_both Greater r h = refl

-- keys are equal exactly if their names are
tells : (a b : LabelKey) → is_eq (label_cmp a b) ≡ bytes_eq a.name.now b.name.now
tells a b = on_test (bytes_eq a.name.now b.name.now)
    (λ (same : bytes_eq a.name.now b.name.now ≡ true).
    let marks : a.mark ≡ b.mark = a.marked ∙ ap mark_of (same_word a.name.now b.name.now same) ∙ sym b.marked in
    rw (marks, tied_itself nat_cmp_total b.mark) (is_eq-slice_cmp a.name.now b.name.now))
    (λ (other : bytes_eq a.name.now b.name.now ≡ false).
    not_both (nat_cmp a.mark b.mark) _ (is_eq-slice_cmp a.name.now b.name.now ∙ other) ∙ sym other)

-- one more label in the map
pub seen_insert : (es : List (LabelKey × CodePlace)) (k : LabelKey) (v : CodePlace)
    → by_name (insert_entry label_cmp es k v) ≡ with_label k.name.now v.number (by_name es)
seen_insert [] k v = refl
seen_insert (e ∷ es) k v = on_order (label_cmp k e.0)
    (λ (less : label_cmp k e.0 ≡ Less). rw less refl)
    (λ (equal : label_cmp k e.0 ≡ Equal).
    let is : k.name.now ≡ e.0.name.now = same_word _ _ (sym (tells k e.0) ∙ ap is_eq equal) in
    rw (equal, is) (sym (twice e.0.name.now e.1.number v.number (by_name es))))
    (λ (greater : label_cmp k e.0 ≡ Greater).
    let other : bytes_eq k.name.now e.0.name.now ≡ false = sym (tells k e.0) ∙ ap is_eq greater in
    rw greater (ap (with_label e.0.name.now e.1.number) (seen_insert es k v)
    ∙ sym (apart k.name.now e.0.name.now v.number e.1.number (by_name es) other)))

-- a label's place in the map
pub seen_lookup : (es : List (LabelKey × CodePlace)) (key : LabelKey)
    → option_map (λ (p : CodePlace). p.number) (lookup (λ k. is_eq (label_cmp key k)) es)
    ≡ lookup (bytes_eq key.name.now) (by_name es)
seen_lookup [] key = refl
seen_lookup (e ∷ es) key =
    rw (tells key e.0) (by_test (bytes_eq key.name.now e.0.name.now) (seen_lookup es key))
    ∙ sym (lookup-inserted key.name.now e.0.name.now e.1.number (by_name es))
  where
    by_test : (b : Bool) → option_map (λ (p : CodePlace). p.number) (lookup (λ k. is_eq (label_cmp key k)) es)
        ≡ lookup (bytes_eq key.name.now) (by_name es) → option_map (λ (p : CodePlace). p.number)
        (cond b (Some e.1) (lookup (λ k. is_eq (label_cmp key k)) es))
        ≡ cond b (Some e.1.number) (lookup (bytes_eq key.name.now) (by_name es))
    by_test true h = refl
    by_test false h = h

is_some-mapped : {A B : Type 0} (f : A → B) (x : Option A) → is_some x ≡ is_some (option_map f x)
is_some-mapped f None = refl
is_some-mapped f (Some y) = refl

-- whether a label is in the map
pub seen_there : (es : List (LabelKey × CodePlace)) (key : LabelKey)
    → is_some (lookup (λ k. is_eq (label_cmp key k)) es) ≡ is_some (lookup (bytes_eq key.name.now) (by_name es))
seen_there es key = is_some-mapped (λ (p : CodePlace). p.number) _ ∙ ap is_some (seen_lookup es key)

-- whether there are labels
pub by_name_none : (es : List (LabelKey × CodePlace)) → eqb (length (by_name es)) 0 ≡ eqb (length es) 0
by_name_none [] = refl
by_name_none (e ∷ es) =
    not_zero (length (by_name (e ∷ es))) (inserted (by_name es) e.0.name.now e.1.number)
    ∙ sym (not_zero (length (e ∷ es)) (omega arith))
