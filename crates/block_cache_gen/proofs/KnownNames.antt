-- What a map of names says of a program's variables.
use Rattle.std.proofs.Common.{◌≡◌, ℕ, ◌+◌, ◌-◌, ◌^◌, ◌<◌, ◌≤◌, Bool, true, false, cond, suc, List, [], ◌∷◌, length, get_or, drop, Option, Some, None, refl, sym, ap, ◌∙◌, subst, add-one, drop-cons, arith}
use Rattle.std.specs.Prelude.{is_some, bytes_eq, min, ◌==◌, ◌||◌, slice_index_or}
use Rattle.std.specs.List.{AllByRecursion, list_any}
use Rattle.gr_word.specs.declared.variables.Label.{Label}
use Rattle.gr_word.specs.declared.variables.Label.TheVariants.{Public}
use Rattle.gr_word.specs.declared.variables.Shape.{Shape}
use Rattle.src_tree.specs.declared.trees.Decl.{Decl}
use Rattle.src_tree.specs.Prelude.{context_of, label_and_shape, label_at, label_or_public, variable_number}
use Rattle.bank_alloc.specs.declared.places.Place.{Place}
use Rattle.bank_alloc.specs.Prelude.{blocks_for}
use Rattle.src_tree.proofs.Contexts.{swapped}
use Rattle.block_cache_gen.specs.declared.variables.Variable.{Variable}
use Rattle.held_registers.specs.Prelude.{register_of_scalar}
use Rattle.block_cache_gen.specs.Prelude.{Held, Home, Pin, no_home, home_at, homes_at, is_pinned, home_in, variable_at, variable_of}

-- one more declaration in front, from place k on
pub one_more : (pins : List (Option Pin)) (w : ℕ) (held : List Held) (ds : List Decl) (places : List Place) (slots : List ℕ) (k : ℕ) (d : Decl)
    (no_place : Place) (no_slot : ℕ) (new : Variable) (name : List ℕ) (before after : List ℕ → Option Variable)
    → k < length ds → length places ≡ length ds → length slots ≡ length ds → d ≡ get_or ds k d → name ≡ d.name
    → new ≡ variable_at pins w held k d (get_or places k no_place) (get_or slots k no_slot)
    → ((x : List ℕ) → before x ≡ variable_of pins w held (k + 1) (drop (k + 1) ds) (drop (k + 1) places) (drop (k + 1) slots) x)
    → ((x : List ℕ) → after x ≡ cond (bytes_eq name x) (Some new) (before x))
    → (x : List ℕ) → after x ≡ variable_of pins w held k (drop k ds) (drop k places) (drop k slots) x
one_more pins w held ds places slots k d no_place no_slot new name before after below same_places same_slots is_d is_name is_new
    rest added x =
    let in_places : k < length places = omega arith in
    let in_slots : k < length slots = omega arith in
    let v : Variable = variable_at pins w held k d (get_or places k no_place) (get_or slots k no_slot) in
    added x
    ∙ ap (λ u. cond (bytes_eq name x) (Some u) (before x)) is_new
    ∙ ap (λ b. cond b (Some v) (before x)) (ap (λ n. bytes_eq n x) is_name ∙ swapped d.name x)
    ∙ ap (cond (bytes_eq x d.name) (Some v))
    (rest x ∙ ap (λ n. variable_of pins w held (k + 1) (drop n ds) (drop n places) (drop n slots) x) (add-one k))
    ∙ sym
    (ap (λ ys. variable_of pins w held k ys (drop k places) (drop k slots) x)
    (drop-cons ds k d below ∙ ap (λ y. y ∷ drop (suc k) ds) (sym is_d))
    ∙ ap (λ ys. variable_of pins w held k (d ∷ drop (suc k) ds) ys (drop k slots) x) (drop-cons places k no_place in_places)
    ∙ ap (λ ys. variable_of pins w held k (d ∷ drop (suc k) ds) (get_or places k no_place ∷ drop (suc k) places) ys x)
    (drop-cons slots k no_slot in_slots))

behind : (h : Home) (homes : List Home) (n : ℕ)
    → slice_index_or homes n no_home ≡ slice_index_or (h ∷ homes) (1 + n) no_home
behind h homes n = let e : 1 + n ≡ suc n = omega arith in rw e refl

home_by : (b : Bool) (new v : Variable) (rest : Option Variable) (h : Home) (homes : List Home) (n : ℕ)
    → home_in new ≡ h → cond b (Some new) rest ≡ Some v → (rest ≡ Some v → home_in v ≡ slice_index_or homes n no_home)
    → home_in v ≡ slice_index_or (h ∷ homes) (cond b 0 (1 + n)) no_home
home_by true new v rest h homes n is_h e more = let i : new ≡ v = cc in sym (ap home_in i) ∙ is_h
home_by false new v rest h homes n is_h e more = more e ∙ behind h homes n

-- the variable of a name that is declared has the name's home
pub found_home : (pins : List (Option Pin)) (w : ℕ) (held : List Held) (n : ℕ) (ds : List Decl) (places : List Place) (slots : List ℕ) (x : List ℕ) (v : Variable)
    → variable_of pins w held n ds places slots x ≡ Some v
    → home_in v ≡ slice_index_or (homes_at pins w places slots) (variable_number ds x) no_home
found_home pins w held n [] places slots x v e = absurd (cc)
found_home pins w held n (d ∷ ds) [] slots x v e = absurd (cc)
found_home pins w held n (d ∷ ds) (q ∷ places) [] x v e = absurd (cc)
found_home pins w held n (d ∷ ds) (q ∷ places) (slot ∷ slots) x v e =
    home_by (bytes_eq x d.name) (variable_at pins w held n d q slot) v (variable_of pins w held (n + 1) ds places slots x)
    (home_at pins w q slot) (homes_at pins w places slots) (variable_number ds x) refl e (found_home pins w held (n + 1) ds places slots x v)

few_by : (b : Bool) (new v : Variable) (rest : Option Variable) → new.further ≤ 4 → cond b (Some new) rest ≡ Some v
    → (rest ≡ Some v → v.further ≤ 4) → v.further ≤ 4
few_by true new v rest few e more = let i : new ≡ v = cc in subst (λ (w : Variable). w.further ≤ 4) i few
few_by false new v rest few e more = more e

few_blocks : (b : Bool) (n : ℕ) → cond b (min 4 n) 0 ≤ 4
few_blocks true n = omega arith
few_blocks false n = omega arith

-- it has at most four further slots
pub found_few : (pins : List (Option Pin)) (w : ℕ) (held : List Held) (n : ℕ) (ds : List Decl) (places : List Place)
    (slots : List ℕ) (x : List ℕ) (v : Variable) → variable_of pins w held n ds places slots x ≡ Some v → v.further ≤ 4
found_few pins w held n [] places slots x v e = absurd (cc)
found_few pins w held n (d ∷ ds) [] slots x v e = absurd (cc)
found_few pins w held n (d ∷ ds) (q ∷ places) [] x v e = absurd (cc)
found_few pins w held n (d ∷ ds) (q ∷ places) (slot ∷ slots) x v e =
    few_by (bytes_eq x d.name) (variable_at pins w held n d q slot) v (variable_of pins w held (n + 1) ds places slots x)
    (few_blocks (is_pinned pins slot) (blocks_for (2 ^ w) q.length - 1)) e
    (found_few pins w held (n + 1) ds places slots x v)

label_by : (b : Bool) (new v : Variable) (rest : Option Variable) (k : Label × Shape) (kinds : Option (Label × Shape))
    → new.label ≡ k.0 → cond b (Some new) rest ≡ Some v → (rest ≡ Some v → v.label ≡ label_or_public kinds)
    → v.label ≡ label_or_public (cond b (Some k) kinds)
label_by true new v rest k kinds is_k e more = let i : new ≡ v = cc in sym (ap (λ w. w.label) i) ∙ is_k
label_by false new v rest k kinds is_k e more = more e

-- and its label
pub found_label : (pins : List (Option Pin)) (w : ℕ) (held : List Held) (n : ℕ) (ds : List Decl) (places : List Place) (slots : List ℕ) (x : List ℕ) (v : Variable)
    → variable_of pins w held n ds places slots x ≡ Some v → v.label ≡ label_at (context_of ds) x
found_label pins w held n [] places slots x v e = absurd (cc)
found_label pins w held n (d ∷ ds) [] slots x v e = absurd (cc)
found_label pins w held n (d ∷ ds) (q ∷ places) [] x v e = absurd (cc)
found_label pins w held n (d ∷ ds) (q ∷ places) (slot ∷ slots) x v e =
    label_by (bytes_eq x d.name) (variable_at pins w held n d q slot) v (variable_of pins w held (n + 1) ds places slots x)
    (label_and_shape d) (context_of ds x) refl e (found_label pins w held (n + 1) ds places slots x v)

held_by : (b : Bool) (new v : Variable) (rest : Option Variable) (held : List Held) (n m : ℕ)
    → new.held ≡ register_of_scalar held n → cond b (Some new) rest ≡ Some v
    → (rest ≡ Some v → v.held ≡ register_of_scalar held (n + 1 + m))
    → v.held ≡ register_of_scalar held (n + cond b 0 (1 + m))
held_by true new v rest held n m is_held e more =
    let i : new ≡ v = cc in
    sym (ap (λ w. w.held) i) ∙ is_held ∙ ap (register_of_scalar held) (let z : n ≡ n + 0 = omega arith in z)
held_by false new v rest held n m is_held e more =
    more e ∙ ap (register_of_scalar held) (let z : n + 1 + m ≡ n + (1 + m) = omega arith in z)

-- and its register, if one holds it for the whole run
pub found_held : (pins : List (Option Pin)) (w : ℕ) (held : List Held) (n : ℕ) (ds : List Decl) (places : List Place)
    (slots : List ℕ) (x : List ℕ) (v : Variable) → variable_of pins w held n ds places slots x ≡ Some v
    → v.held ≡ register_of_scalar held (n + variable_number ds x)
found_held pins w held n [] places slots x v e = absurd (cc)
found_held pins w held n (d ∷ ds) [] slots x v e = absurd (cc)
found_held pins w held n (d ∷ ds) (q ∷ places) [] x v e = absurd (cc)
found_held pins w held n (d ∷ ds) (q ∷ places) (slot ∷ slots) x v e =
    held_by (bytes_eq x d.name) (variable_at pins w held n d q slot) v (variable_of pins w held (n + 1) ds places slots x)
    held n (variable_number ds x) refl e (found_held pins w held (n + 1) ds places slots x v)

length_by : (b : Bool) (new v : Variable) (rest : Option Variable) → 1 ≤ new.place.length
    → cond b (Some new) rest ≡ Some v → (rest ≡ Some v → 1 ≤ v.place.length) → 1 ≤ v.place.length
length_by true new v rest fits e more =
    let i : new ≡ v = cc in let P : Variable → Type 0 = λ w. 1 ≤ w.place.length in subst P i fits
length_by false new v rest fits e more = more e

-- and one word at least
pub found_length : (pins : List (Option Pin)) (w : ℕ) (held : List Held) (n : ℕ) (ds : List Decl) (places : List Place) (slots : List ℕ) (x : List ℕ) (v : Variable)
    → AllByRecursion (λ q. 1 ≤ q.length) places → variable_of pins w held n ds places slots x ≡ Some v → 1 ≤ v.place.length
found_length pins w held n [] places slots x v fits e = absurd (cc)
found_length pins w held n (d ∷ ds) [] slots x v fits e = absurd (cc)
found_length pins w held n (d ∷ ds) (q ∷ places) [] x v fits e = absurd (cc)
found_length pins w held n (d ∷ ds) (q ∷ places) (slot ∷ slots) x v fits e =
    length_by (bytes_eq x d.name) (variable_at pins w held n d q slot) v (variable_of pins w held (n + 1) ds places slots x)
    fits.0 e (found_length pins w held (n + 1) ds places slots x v fits.1)

declared_by : (b : Bool) (new : Variable) (rest : Option Variable) (k : Label × Shape) (kinds : Option (Label × Shape))
    → is_some (cond b (Some k) kinds) ≡ true → cond b (Some new) rest ≡ None
    → (is_some kinds ≡ true → rest ≡ None → ⊥) → ⊥
declared_by true new rest k kinds declared e more = cc
declared_by false new rest k kinds declared e more = more declared e

-- a name that is declared is found
pub declared_found : (pins : List (Option Pin)) (w : ℕ) (held : List Held) (n : ℕ) (ds : List Decl) (places : List Place) (slots : List ℕ) (x : List ℕ)
    → length places ≡ length ds → length slots ≡ length ds → is_some (context_of ds x) ≡ true
    → variable_of pins w held n ds places slots x ≡ None → ⊥
declared_found pins w held n [] places slots x same_places same_slots declared e = cc
declared_found pins w held n (d ∷ ds) [] slots x same_places same_slots declared e = absurd (omega arith)
declared_found pins w held n (d ∷ ds) (q ∷ places) [] x same_places same_slots declared e = absurd (omega arith)
declared_found pins w held n (d ∷ ds) (q ∷ places) (slot ∷ slots) x same_places same_slots declared e =
    declared_by (bytes_eq x d.name) (variable_at pins w held n d q slot) (variable_of pins w held (n + 1) ds places slots x)
    (label_and_shape d) (context_of ds x) declared e
    (declared_found pins w held (n + 1) ds places slots x (omega arith) (omega arith))

public_by : (b : Bool) (new : Variable) (rest : Option Variable) (k : Label × Shape) (kinds : Option (Label × Shape))
    → cond b (Some new) rest ≡ None → (rest ≡ None → label_or_public kinds ≡ Public)
    → label_or_public (cond b (Some k) kinds) ≡ Public
public_by true new rest k kinds e more = absurd (cc)
public_by false new rest k kinds e more = more e

-- a name that isn't found is public
pub lost_label : (pins : List (Option Pin)) (w : ℕ) (held : List Held) (n : ℕ) (ds : List Decl) (places : List Place) (slots : List ℕ) (x : List ℕ)
    → length places ≡ length ds → length slots ≡ length ds → variable_of pins w held n ds places slots x ≡ None
    → Public ≡ label_at (context_of ds) x
lost_label pins w held n [] places slots x same_places same_slots e = refl
lost_label pins w held n (d ∷ ds) [] slots x same_places same_slots e = absurd (omega arith)
lost_label pins w held n (d ∷ ds) (q ∷ places) [] x same_places same_slots e = absurd (omega arith)
lost_label pins w held n (d ∷ ds) (q ∷ places) (slot ∷ slots) x same_places same_slots e =
    sym (public_by (bytes_eq x d.name) (variable_at pins w held n d q slot)
    (variable_of pins w held (n + 1) ds places slots x) (label_and_shape d) (context_of ds x) e
    (λ r. sym (lost_label pins w held (n + 1) ds places slots x (omega arith) (omega arith) r)))

-- the slots of homes are the slots
pub slots_used : (pins : List (Option Pin)) (w : ℕ) (places : List Place) (slots : List ℕ) (slot : ℕ) → length places ≡ length slots
    → list_any (λ s. s == slot) slots ≡ list_any (λ h. h.slot == slot) (homes_at pins w places slots)
slots_used pins w [] [] slot same = refl
slots_used pins w [] (s ∷ slots) slot same = absurd (omega arith)
slots_used pins w (q ∷ places) [] slot same = absurd (omega arith)
slots_used pins w (q ∷ places) (s ∷ slots) slot same = ap (λ b. (s == slot) || b) (slots_used pins w places slots slot (omega arith))
