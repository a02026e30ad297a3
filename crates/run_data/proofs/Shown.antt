-- Variables are added to a map in byte order, which is seen as the members of an object.
use Rattle.std.proofs.Common.{◌≡◌, ℕ, suc, ◌+◌, ◌<◌, ℤ, List, [], ◌∷◌, length, get_or, drop, Bor, Ordering, Less, Equal, Greater, IsTrue, refl, ap, ◌∙◌, add-one, drop-cons}
use Rattle.std.specs.Ordering.{match_ordering}
use Rattle.std.specs.BTreeMap.{insert_entry}
use Rattle.serde_json.specs.Data.{Members}
use Rattle.gr_base.proofs.NameMaps.{key_cmp}
use Rattle.gr_word.specs.Prelude.{is_name, FitsWants}
use Rattle.gr_word.specs.declared.variables.Want.{Want}
use Rattle.gr_word.specs.declared.variables.Shape.{Shape}
use Rattle.run_data.specs.Prelude.{shown, member_placed, members_with, members_seen, HaveNames}

abbrev pub Entry : Type 0
Entry = Bor (List ℕ) × (Shape × Bor (List ℤ))

seen-match_ordering : (o : Ordering) (a b c : List Entry)
    → members_seen (match_ordering o a b c) ≡ match_ordering o (members_seen a) (members_seen b) (members_seen c)
seen-match_ordering Less a b c = refl
seen-match_ordering Equal a b c = refl
seen-match_ordering Greater a b c = refl

pub seen-insert_entry : (entries : List Entry) (name : Bor (List ℕ)) (words : Shape × Bor (List ℤ))
    → members_seen (insert_entry key_cmp entries name words)
    ≡ member_placed name.now (shown words.0 words.1.now) (members_seen entries)
seen-insert_entry [] name words = refl
seen-insert_entry (entry ∷ entries) name words =
    seen-match_ordering (key_cmp name entry.0) _ _ _ ∙ rw (seen-insert_entry entries name words) refl

names-match_ordering : (o : Ordering) (a b c : List Entry)
    → HaveNames a → HaveNames b → HaveNames c → HaveNames (match_ordering o a b c)
names-match_ordering Less a b c one two three = one
names-match_ordering Equal a b c one two three = two
names-match_ordering Greater a b c one two three = three

-- a name more among names
pub names-insert_entry : (entries : List Entry) (name : Bor (List ℕ)) (words : Shape × Bor (List ℤ))
    → HaveNames entries → IsTrue (is_name name.now) → HaveNames (insert_entry key_cmp entries name words)
names-insert_entry [] name words have is = (is, tt)
names-insert_entry (entry ∷ entries) name words have is =
    names-match_ordering (key_cmp name entry.0) _ _ _ (is, have) (have.0, have.1)
    (have.0, names-insert_entry entries name words have.1 is)

-- as many lists as variables
pub fitting_length : (wants : List Want) (lists : List (List ℤ)) → FitsWants wants lists → length wants ≡ length lists
fitting_length [] [] fits = refl
fitting_length [] (words ∷ lists) fits = absurd fits
fitting_length (want ∷ wants) [] fits = absurd fits
fitting_length (want ∷ wants) (words ∷ lists) fits = ap suc (fitting_length wants lists fits.2)

-- the next variable's turn
pub members-turn : (found : Members) (wants : List Want) (lists : List (List ℤ)) (i : ℕ) (d : Want)
    → i < length wants → i < length lists → members_with found (drop i wants) (drop i lists)
    ≡ members_with (member_placed (get_or wants i d).name (shown (get_or wants i d).shape (get_or lists i [])) found)
    (drop (i + 1) wants) (drop (i + 1) lists)
members-turn found wants lists i d one two = rw (drop-cons wants i d one, drop-cons lists i [] two, add-one) refl

-- a variable is added in its turn
pub member_put : (entries new : List Entry) (name : Bor (List ℕ)) (words : Bor (List ℤ)) (want : Want)
    (wants : List Want) (lists : List (List ℤ)) (i : ℕ) → i < length wants → i < length lists
    → new ≡ insert_entry key_cmp entries name (want.shape, words) → want ≡ get_or wants i want → name.now ≡ want.name
    → words.now ≡ get_or lists i [] → members_with (members_seen new) (drop (i + 1) wants) (drop (i + 1) lists)
    ≡ members_with (members_seen entries) (drop i wants) (drop i lists)
member_put entries new name words want wants lists i one two new_is want_is name_is words_is =
    rw (
      new_is,
      seen-insert_entry,
      name_is,
      words_is,
      members-turn (members_seen entries) wants lists i want one two,
      ← want_is,
    ) refl
