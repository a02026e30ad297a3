-- In any order of variables whose names differ, the members of their words are the same.
use Rattle.std.proofs.Common.{◌≡◌, ◌≢◌, ℕ, ℤ, List, map, Ordering, Less, Equal, Greater, is_eq, nat_cmp, refl, sym, ap, ◌∙◌}
use Rattle.std.specs.Ordering.{ordering_reverse}
use Rattle.std.specs.List.Sorted.{IsPermutation}
use Rattle.std.specs.Cmp.Lexicographic.{slice_cmp}
use Rattle.std.proofs.lemmas.Cmp.{nat_list_cmp_total}
use Rattle.std.proofs.lemmas.Map.Text.{is_eq-slice_cmp}
use Rattle.std.proofs.lemmas.Slice.Eq.{bytes_eq-Decides}
use Rattle.serde_json.specs.Data.{Data, object, Members, no_members, member}
use Rattle.serde_json.specs.Written.{compact_text}
use Rattle.gr_base.proofs.Permuted.{EachTwo}
use Rattle.gr_base.proofs.Orderless.{IsCongruence, same_permuted}
use Rattle.gr_word.specs.declared.variables.Want.{Want}
use Rattle.run_data.specs.Prelude.{shown, member_placed, members_with, output_of}

abbrev order : List ℕ → List ℕ → Ordering
order = slice_cmp nat_cmp

same_name : (one other : List ℕ) → order one other ≡ Equal → one ≡ other
same_name one other is = (bytes_eq-Decides one other).0 (sym (is_eq-slice_cmp one other) ∙ ap is_eq is)

back : (one other : List ℕ) (o : Ordering) → order one other ≡ o → order other one ≡ ordering_reverse o
back one other o is = nat_list_cmp_total.antisymm other one ∙ ap ordering_reverse is

module _ (low high : List ℕ) (x y : Data) (less : order low high ≡ Less) where
  abbrev Commutes : Members → Type 0
  Commutes members = member_placed low x (member_placed high y members)
      ≡ member_placed high y (member_placed low x members)

  more : order high low ≡ Greater
  more = back low high Less less

  at_member : (name : List ℕ) (value : Data) (members : Members) → Commutes members → (l h : Ordering)
      → order low name ≡ l → order high name ≡ h → Commutes (member name value members)
  at_member name value rest later Less Less l h = simp (l, h, less, more) refl
  at_member name value rest later Less Equal l h = simp (l, h, more) refl
  at_member name value rest later Less Greater l h = simp (l, h, more) refl
  at_member name value rest later Equal o l h =
      let past : order high name ≡ Greater = sym (ap (order high) (same_name low name l)) ∙ more in
      simp (l, past) refl
  at_member name value rest later Greater o l h =
      let past : order high name ≡ Greater =
      back name high Less (nat_list_cmp_total.trans name low high (back low name Greater l) less) in
      simp (l, past) (ap (member name value) later)

  lower_first : (members : Members) → Commutes members
  lower_first no_members = simp (less, more) refl
  lower_first (member name value members) =
      at_member name value members (lower_first members) (order low name) (order high name) refl refl

-- which of two other names is placed first doesn't matter
placed_turned : (one other : List ℕ) (x y : Data) (members : Members) → one ≢ other
    → member_placed other y (member_placed one x members) ≡ member_placed one x (member_placed other y members)
placed_turned one other x y members differ = by (order one other) refl
  where
    by : (o : Ordering) → order one other ≡ o
        → member_placed other y (member_placed one x members) ≡ member_placed one x (member_placed other y members)
    by Less is = sym (lower_first one other x y is members)
    by Equal is = absurd (differ (same_name one other is))
    by Greater is = lower_first other one y x (back one other Greater is) members

-- names that differ
abbrev pub Differ : Want → Want → Type 0
Differ one other = one.name ≢ other.name

-- the output text
pub output_permuted : (words : Want → List ℤ) (wants others : List Want)
    → IsPermutation wants others → EachTwo Differ wants
    → output_of others (map words others) ≡ output_of wants (map words wants)
output_permuted words wants others permuted differ =
    sym (ap (λ members. compact_text (object members))
    (same_permuted Differ Alike alike (λ one other more apart found.
    ap (λ found. members_with found more (map words more))
    (placed_turned one.name other.name (shown one.shape (words one)) (shown other.shape (words other)) found apart))
    wants others permuted differ no_members))
  where
    Alike : List Want → List Want → Type 0
    Alike ones others = (found : Members)
        → members_with found ones (map words ones) ≡ members_with found others (map words others)

    alike : IsCongruence Alike
    alike = record {
      same = λ ones found. refl;
      goes_on = λ ones others last first second found. first found ∙ second found;
      under = λ want ones others rest found. rest (member_placed want.name (shown want.shape (words want)) found);
    }
