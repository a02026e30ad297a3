-- The variables of a program as they are planned: no two share a word, and a slot that holds an array for the whole run
-- serves no other.
use Rattle.std.proofs.Common.{◌≡◌, ℕ, ◌+◌, ◌*◌, ◌^◌, ◌<◌, ◌≤◌, List, [], ◌∷◌, ◌++◌, length, take, drop, get_or, ◌⊎◌, inl, inr, refl, sym, ap, ◌∙◌, subst, arith}
use Rattle.std.proofs.lemmas.Bool.{cases_order}
use Rattle.std.proofs.lemmas.List.{get_or-map, length-map}
use Rattle.std.proofs.lemmas.List.FromFn.{get_or-map-range_with_len, length-map-range_with_len}
use Rattle.src_tree.specs.Prelude.{words_of, IsWithinLimits, Source}
use Rattle.bank_alloc.specs.Prelude.{AreApart, start_of_place, end_of_place, class_of}
use Rattle.scratch_alloc.specs.Prelude.{decl_at, place_at, slot_at, no_decl, no_place}
use Rattle.resident_alloc.specs.declared.storages.Storage.{Storage}
use Rattle.resident_alloc.specs.declared.storages.Storage.TheVariants.{Scalar, Own}
use Rattle.resident_alloc.specs.declared.wants.Want.{Want}
use Rattle.resident_alloc.specs.Prelude.{wants_of, ResidentsFit, Planned, planned_for, resident_blocks, resident_banks, resident_plan}
use Rattle.resident_alloc.proofs.Stored.{want}
use Rattle.resident_alloc.proofs.Served.{IsServed}
use Rattle.resident_alloc.proofs.Numbered.{in_family, family_rises, IsNumbered, same_number}
use Rattle.resident_alloc.proofs.PlannedEach.{IsVariable, variable_at, length-planned_behind, length-wants, wants_split, wants_before, scalars_fit}
use Rattle.resident_alloc.proofs.ApartByZones.{apart_by_zones, lies_inside}

abbrev pub no_planned : Planned
no_planned = record { storage = Scalar; place = no_place; slot = 0 }

-- what is planned for variable number k
abbrev pub item : Source → ℕ → ℕ → Planned
item p w k = get_or (planned_for p w) k no_planned

abbrev pub words_at : Source → ℕ → ℕ
words_at p k = words_of (decl_at p k)

-- the class and the words of variable number k, and those of the variables before it
abbrev pub wanted : Source → ℕ → Want
wanted p k = want (class_of p (decl_at p k)) (words_at p k)

abbrev pub wants_to : Source → ℕ → List Want
wants_to p k = take k (wants_of p)

pub length-planned : (p : Source) (w : ℕ) → length (planned_for p w) ≡ length p.decls
length-planned p w = length-planned_behind (2 ^ w) (wants_of p) [] (wants_of p) ∙ length-wants p

pub length-places : (p : Source) (w : ℕ) → length (resident_plan p w).places ≡ length p.decls
length-places p w = length-map (planned_for p w) (λ (v : Planned). v.place) ∙ length-planned p w

pub length-slots : (p : Source) (w : ℕ) → length (resident_plan p w).slots ≡ length p.decls
length-slots p w = length-map (planned_for p w) (λ (v : Planned). v.slot) ∙ length-planned p w

pub place-is : (p : Source) (w k : ℕ) → k < length p.decls → place_at (resident_plan p w) k ≡ (item p w k).place
place-is p w k within =
    get_or-map (λ (v : Planned). v.place) (planned_for p w) k no_planned no_place
    (omega (arith, within, length-planned p w))

pub slot-is : (p : Source) (w k : ℕ) → k < length p.decls → slot_at (resident_plan p w) k ≡ (item p w k).slot
slot-is p w k within =
    get_or-map (λ (v : Planned). v.slot) (planned_for p w) k no_planned 0 (omega (arith, within, length-planned p w))

pub length-blocks : (p : Source) (w : ℕ)
    → length (resident_plan p w).blocks ≡ resident_banks (2 ^ w) (wants_of p)
length-blocks p w =
    length-map-range_with_len (resident_blocks (2 ^ w) (wants_of p)) 0 (resident_banks (2 ^ w) (wants_of p))

pub blocks-is : (p : Source) (w bank : ℕ) → bank < resident_banks (2 ^ w) (wants_of p)
    → get_or (resident_plan p w).blocks bank 0 ≡ resident_blocks (2 ^ w) (wants_of p) bank
blocks-is p w bank within =
    get_or-map-range_with_len (resident_blocks (2 ^ w) (wants_of p)) 0 (resident_banks (2 ^ w) (wants_of p)) bank bank 0
    within (omega arith)

module _ (p : Source) (w : ℕ) (limits : IsWithinLimits p) (room : ResidentsFit p w) where
  pub known : (k : ℕ) → k < length p.decls
      → IsVariable (2 ^ w) (wants_of p) (wants_to p k) (class_of p (decl_at p k)) (words_at p k) (item p w k)
  known k within = variable_at p w k no_decl no_planned limits room.scalars within

  -- the variable ends within its bank
  pub item_inside : (k : ℕ) → k < length p.decls
      → end_of_place (2 ^ w) (item p w k).place ≤ 2 ^ w * resident_blocks (2 ^ w) (wants_of p) (item p w k).place.bank
  item_inside k within =
      lies_inside (2 ^ w) (wants_of p) (wants_to p k) (drop (k + 1) (wants_of p)) (wanted p k) (item p w k).place
      (scalars_fit p w room.scalars) (wants_split p k no_decl within) (known k within).lies

  -- no two variables share a word
  pub items_apart : (i j : ℕ) → i < j → j < length p.decls
      → AreApart (2 ^ w) (item p w i).place (item p w j).place
  items_apart i j less within =
      let before : i < length p.decls = omega arith in
      apart_by_zones (2 ^ w) (wants_of p) (scalars_fit p w room.scalars) (wants_to p i) (drop (i + 1) (wants_of p))
      (wanted p i) (item p w i).place (wants_to p j) (drop (j + 1) (wants_of p)) (drop (i + 1) (wants_to p j))
      (wanted p j) (item p w j).place (wants_split p i no_decl before) (wants_split p j no_decl within)
      (wants_before p i j no_decl less within) (known i before).lies (known j within).lies

  pub items_apart_any : (i j : ℕ) → (i ≡ j → ⊥) → i < length p.decls → j < length p.decls
      → (item p w i).place.bank ≡ (item p w j).place.bank
      → (end_of_place (2 ^ w) (item p w i).place ≤ start_of_place (2 ^ w) (item p w j).place)
      ⊎ (end_of_place (2 ^ w) (item p w j).place ≤ start_of_place (2 ^ w) (item p w i).place)
  items_apart_any i j other here there same = by (cases_order i j) where
    swap : (end_of_place (2 ^ w) (item p w j).place ≤ start_of_place (2 ^ w) (item p w i).place)
        ⊎ (end_of_place (2 ^ w) (item p w i).place ≤ start_of_place (2 ^ w) (item p w j).place)
        → (end_of_place (2 ^ w) (item p w i).place ≤ start_of_place (2 ^ w) (item p w j).place)
        ⊎ (end_of_place (2 ^ w) (item p w j).place ≤ start_of_place (2 ^ w) (item p w i).place)
    swap (inl h) = inr h
    swap (inr h) = inl h

    by : (i ≡ j) ⊎ ((i < j) ⊎ (j < i))
        → (end_of_place (2 ^ w) (item p w i).place ≤ start_of_place (2 ^ w) (item p w j).place)
        ⊎ (end_of_place (2 ^ w) (item p w j).place ≤ start_of_place (2 ^ w) (item p w i).place)
    by (inl equal) = absurd (other equal)
    by (inr (inl less)) = items_apart i j less there same
    by (inr (inr more)) = swap (items_apart j i more here (sym same))

  -- what is known of a variable that is stored in a known way
  pub served_as : (k : ℕ) (s : Storage) → k < length p.decls → (item p w k).storage ≡ s
      → IsServed (2 ^ w) (wants_of p) (wants_to p k) (class_of p (decl_at p k)) (words_at p k) s (item p w k).place
      (item p w k).slot
  served_as k s within is =
      subst (λ s. IsServed (2 ^ w) (wants_of p) (wants_to p k) (class_of p (decl_at p k)) (words_at p k) s
      (item p w k).place (item p w k).slot) is (known k within).served

  number_rises : (i j : ℕ) (s : Storage) (slot : ℕ) → i < j → j < length p.decls
      → (h : IsNumbered (2 ^ w) (wants_of p) (wants_to p i) (wanted p i) s slot)
      → in_family (2 ^ w) (wants_of p) h.family (wants_to p i) + 1 ≤ in_family (2 ^ w) (wants_of p) h.family (wants_to p j)
  number_rises i j s slot less within h =
      let more =
      family_rises (2 ^ w) (wants_of p) h.family (wants_to p i ++ wanted p i ∷ []) (drop (i + 1) (wants_to p j)) in
      let whole = ap (in_family (2 ^ w) (wants_of p) h.family) (wants_before p i j no_decl less within) in
      let next = h.next in
      omega (arith, more, whole, next)

  -- a slot that is one array's serves no other array
  pub one_array : (i j : ℕ) (s : Storage) → i < length p.decls → j < length p.decls
      → IsNumbered (2 ^ w) (wants_of p) (wants_to p i) (wanted p i) Own (item p w i).slot
      → IsNumbered (2 ^ w) (wants_of p) (wants_to p j) (wanted p j) s (item p w j).slot
      → (item p w i).slot ≡ (item p w j).slot → i ≡ j
  one_array i j s here there a b same = by (cases_order i j) where
    equal : (a.family ≡ b.family) × (in_family (2 ^ w) (wants_of p) a.family (wants_to p i)
        ≡ in_family (2 ^ w) (wants_of p) b.family (wants_to p j))
    equal = same_number _ _ Own s a.family b.family _ _ refl a.number b.number (sym a.slot_is ∙ same ∙ b.slot_is)

    by : (i ≡ j) ⊎ ((i < j) ⊎ (j < i)) → i ≡ j
    by (inl is) = is
    by (inr (inl less)) =
        let later = number_rises i j Own (item p w i).slot less there a in
        let number = equal.1 in
        let family = ap (λ f. in_family (2 ^ w) (wants_of p) f (wants_to p j)) equal.0 in
        absurd (omega (arith, later, number, family))
    by (inr (inr more)) =
        let later = number_rises j i s (item p w j).slot more here b in
        let number = equal.1 in
        let family = ap (λ f. in_family (2 ^ w) (wants_of p) f (wants_to p i)) equal.0 in
        absurd (omega (arith, later, number, family))
