-- An unknown label, from the items of a text.
use Rattle.std.proofs.Common.{◌≡◌, ℕ, suc, true, List, [], ◌∷◌, ◌++◌, length, Some, None, refl, sym, ap, subst, ◌∙◌, arith}
use Rattle.std.specs.Prelude.{All, is_some}
use Rattle.std.proofs.lemmas.List.Elements.{All-head, All-tail}
use Rattle.lt_isa.specs.declared.instructions.Instr.{Instr}
use Rattle.lt_assembler.specs.Prelude.{Word, Labels, place_of, ToLabel, Item, AnInstruction, labels_in, LeadsToKnown, IsUnknown}
use Rattle.lt_assembler.proofs.Settled.{IsUnknownUse}

-- the first item of a list that lacks a property is at one place

first_once : {X : Type 0} (P : X → Type 0) (one two : List X) (x y : X) (xs ys : List X)
    → one ++ x ∷ xs ≡ two ++ y ∷ ys → All P one → All P two → (P x → ⊥) → (P y → ⊥) → length one ≡ length two
first_once P [] [] x y xs ys e h k nx ny = refl
first_once P [] (z ∷ two) x y xs ys e h k nx ny =
    absurd (let same : z ≡ x = cc in nx (subst P same (All-head P z two k)))
first_once P (z ∷ one) [] x y xs ys e h k nx ny =
    absurd (let same : z ≡ y = cc in ny (subst P same (All-head P z one h)))
first_once {X} P (z ∷ one) (w ∷ two) x y xs ys e h k nx ny =
    let rest : one ++ x ∷ xs ≡ two ++ y ∷ ys = cc in
    ap suc (first_once P one two x y xs ys rest (All-tail P z one h) (All-tail P w two k) nx ny)

unknown_item_not : (labels : Labels) (i : Instr) (name : Word) → place_of labels name ≡ None
    → LeadsToKnown labels (AnInstruction i (Some (ToLabel name))) → ⊥
unknown_item_not labels i name none known =
    absurd (let bad : is_some {T = ℕ} None ≡ true = ap is_some (sym none) ∙ known in cc)

-- at most one line has the first use of an unknown label
pub one_unknown : (labels : Labels) (items : List Item) (n m : ℕ) → IsUnknownUse labels 1 items n
    → IsUnknownUse labels 1 items m → n ≡ m
one_unknown labels items n m u v =
    let same =
    first_once (LeadsToKnown labels) u.before v.before _ _ u.after v.after (sym u.whole ∙ v.whole) u.known v.known
    (unknown_item_not labels u.instr u.name u.nowhere) (unknown_item_not labels v.instr v.name v.nowhere) in
    omega (arith, u.number, v.number, same)

-- a line has the first use of an unknown label exactly if it has it by the relation
pub unknown_use : (items : List Item) (n : ℕ) → IsUnknown items n → IsUnknownUse (labels_in items) 1 items n
unknown_use items n u = record {
  before = u.before;
  after = u.after;
  instr = u.instr;
  name = u.name;
  whole = u.whole;
  number = omega (arith, u.number);
  nowhere = u.nowhere;
  known = u.first;
}

pub use_unknown : (items : List Item) (n : ℕ) → IsUnknownUse (labels_in items) 1 items n → IsUnknown items n
use_unknown items n u = record {
  before = u.before;
  instr = u.instr;
  name = u.name;
  after = u.after;
  whole = u.whole;
  number = omega (arith, u.number);
  nowhere = u.nowhere;
  first = u.known;
}
