-- What lacks room first is one thing, and nothing does if there is room.
use Rattle.std.proofs.Common.{◌≡◌, ◌∙◌, ℕ, zero, suc, ◌+◌, ◌-◌, ◌%◌, ◌^◌, ◌<◌, ◌≤◌, ◌==◌, min, cond, Bool, true, false, List, [], ◌∷◌, length, Option, Some, None, refl, sym, ap, ap₂, subst, ⊎_elim, arith}
use Rattle.std.specs.Prelude.{if◌then◌else◌}
use Rattle.std.proofs.lemmas.Bool.{cases_lt, ne_eqb}
use Rattle.std.proofs.lemmas.List.Sums.{sum_by-cons}
use Rattle.gr_word.specs.declared.variables.Label.TheVariants.{Public, Secret}
use Rattle.lt_isa.specs.Prelude.{most_blocks}
use Rattle.src_tree.specs.declared.trees.Decl.{Decl}
use Rattle.src_tree.specs.Prelude.{Source, words_of}
use Rattle.bank_alloc.specs.declared.classes.Class.{Class}
use Rattle.bank_alloc.specs.declared.classes.Class.TheVariants.{ObliviousArray}
use Rattle.bank_alloc.specs.Prelude.{class_of, scalars_of, ScalarsFit, is_same, class_count, blocks_in_turn, blocks_for, places_of, bank_count, blocks_needed}
use Rattle.bank_alloc.proofs.Placed.{banks_need}
use Rattle.resident_alloc.specs.declared.wants.Want.{Want}
use Rattle.resident_alloc.specs.Prelude.{wants_of, in_oblivious_banks, resident_banks, resident_blocks}
use Rattle.compiled_objects.specs.declared.errors.CompileError.{CompileError}
use Rattle.call_replies.specs.declared.source_faults.SourceFault.{SourceFault}
use Rattle.call_steps.specs.Prelude.{HasRoom, LacksRoom, room_fault}
use Rattle.resident_alloc.specs.ResidentPlan as resident
use Rattle.compiled_objects.specs.declared.errors.CompileError.TheVariants as room

some-once : {A : Type 0} (x : Option A) (a b : A) → x ≡ Some a → x ≡ Some b → a ≡ b
some-once {A = A} x a b e f = let g : ◌≡◌ {A = Option A} (Some a) (Some b) = sym e ∙ f in cc

none-some : {A X : Type 0} (a : A) → ◌≡◌ {A = Option A} None (Some a) → X
none-some {A = A} a e = absurd (let f : ◌≡◌ {A = Option A} None (Some a) = e in cc)

-- ---- oblivious banks that no array uses have no blocks

no-turn : (class : Decl → Class) (size turn j : ℕ) (ds : List Decl)
    → min 8 (j + class_count class ObliviousArray ds) ≤ turn → blocks_in_turn class size turn j ds ≡ 0
no-turn class size turn j [] le = refl
no-turn class size turn j (d ∷ ds) le =
    by (is_same ObliviousArray (class d)) refl (λ i few. no-turn class size turn i ds few)
  where
    counted : class_count class ObliviousArray (d ∷ ds)
        ≡ cond (is_same ObliviousArray (class d)) 1 0 + class_count class ObliviousArray ds
    counted = sum_by-cons (λ x. cond (is_same ObliviousArray (class x)) 1 0) d ds

    head : j % 8 < 8 → (j % 8 ≡ turn → ⊥)
        → (let r : ℕ = if j % 8 == turn then blocks_for size (words_of d) else 0 in r) ≡ 0
    head lt ne = ap (λ (b : Bool). let r : ℕ = if b then blocks_for size (words_of d) else 0 in r) (ne_eqb (j % 8) turn ne)

    by : (b : Bool) → is_same ObliviousArray (class d) ≡ b
        → ((i : ℕ) → min 8 (i + class_count class ObliviousArray ds) ≤ turn → blocks_in_turn class size turn i ds ≡ 0)
        → blocks_in_turn class size turn j (d ∷ ds) ≡ 0
    by true is rest =
        let one : class_count class ObliviousArray (d ∷ ds) ≡ 1 + class_count class ObliviousArray ds =
        counted ∙ ap (λ (b : Bool). cond b 1 0 + class_count class ObliviousArray ds) is in
        let few : min 8 (j + (1 + class_count class ObliviousArray ds)) ≤ turn =
        subst (λ (n : ℕ). min 8 (j + n) ≤ turn) one le in
        ap (λ (b : Bool). let r : ℕ = if b
        then (if j % 8 == turn then blocks_for size (words_of d) else 0) + blocks_in_turn class size turn (j + 1) ds
        else blocks_in_turn class size turn j ds in r) is
        ∙ ap₂ (λ (x y : ℕ). x + y) (head (omega arith) (λ e. omega (arith, few, e))) (rest (j + 1) (omega (arith, few)))
    by false is rest =
        let none : class_count class ObliviousArray (d ∷ ds) ≡ 0 + class_count class ObliviousArray ds =
        counted ∙ ap (λ (b : Bool). cond b 1 0 + class_count class ObliviousArray ds) is in
        let few : min 8 (j + (0 + class_count class ObliviousArray ds)) ≤ turn =
        subst (λ (n : ℕ). min 8 (j + n) ≤ turn) none le in
        ap (λ (b : Bool). let r : ℕ = if b
        then (if j % 8 == turn then blocks_for size (words_of d) else 0) + blocks_in_turn class size turn (j + 1) ds
        else blocks_in_turn class size turn j ds in r) is
        ∙ rest j (omega (arith, few))

no-resident-turn : (size turn j : ℕ) (vs : List Want) → min 8 (j + length vs) ≤ turn
    → resident.blocks_in_turn size turn j vs ≡ 0
no-resident-turn size turn j [] le = refl
no-resident-turn size turn j (v ∷ vs) le =
    ap₂ (λ (x y : ℕ). x + y)
    (ap (λ (b : Bool). let r : ℕ = if b then blocks_for size v.words else 0 in r)
    (ne_eqb (j % 8) turn (λ e. omega (arith, le, e))))
    (no-resident-turn size turn (j + 1) vs (omega (arith, le)))

-- ---- what a plan needs

-- the blocks of a bank, and the number of banks
abbrev needs : Bool → Source → ℕ → ℕ → ℕ
needs false p w bank = blocks_needed p w bank
needs true p w bank = resident_blocks (2 ^ w) (wants_of p) bank

abbrev banks : Bool → Source → ℕ → ℕ
banks false p w = bank_count (places_of p w)
banks true p w = resident_banks (2 ^ w) (wants_of p)

within-limit : (bank blocks : ℕ) → blocks ≡ 0 → blocks ≤ most_blocks bank
within-limit bank blocks none = omega (arith, none)

resident-beyond : (size : ℕ) (all : List Want) (bank : ℕ) → resident_banks size all ≤ bank
    → resident_blocks size all bank ≤ most_blocks bank
resident-beyond size all zero le = absurd (omega (arith, le))
resident-beyond size all (suc zero) le = absurd (omega (arith, le))
resident-beyond size all (suc (suc n)) le =
    within-limit (suc (suc n)) (resident_blocks size all (suc (suc n)))
    (no-resident-turn size (suc (suc n) - 2) 0 (in_oblivious_banks size all all) (omega (arith, le)))

beyond : (fast : Bool) (p : Source) (w bank : ℕ) → banks fast p w ≤ bank → needs fast p w bank ≤ most_blocks bank
beyond false p w bank le =
    let n = banks_need p w in
    let two : 2 + (bank - 2) ≡ bank = omega (arith, le) in
    let none : blocks_needed p w (2 + (bank - 2)) ≡ 0 =
    n.oblivious (bank - 2)
    ∙ no-turn (class_of p) (2 ^ w) (bank - 2) 0 p.decls (omega (arith, le, n.banks)) in
    within-limit bank (blocks_needed p w bank) (subst (λ (b : ℕ). blocks_needed p w b ≡ 0) two none)
beyond true p w bank le = resident-beyond (2 ^ w) (wants_of p) bank le

record Rooms (fast : Bool) (p : Source) (w : ℕ) : Type 0 where
  scalars : ScalarsFit p w
  each : (bank : ℕ) → needs fast p w bank ≤ most_blocks bank

rooms : (fast : Bool) (p : Source) (w : ℕ) → HasRoom fast p w → Rooms fast p w
rooms false p w h = record {
  scalars = h.scalars;
  each = λ bank.
      ⊎_elim (λ (lt : bank < bank_count (places_of p w)). h.banks bank lt)
      (λ (le : bank_count (places_of p w) ≤ bank). beyond false p w bank le)
      (cases_lt bank (bank_count (places_of p w)));
}
rooms true p w h = record {
  scalars = h.scalars;
  each = λ bank.
      ⊎_elim (λ (lt : bank < resident_banks (2 ^ w) (wants_of p)). h.banks bank lt)
      (λ (le : resident_banks (2 ^ w) (wants_of p) ≤ bank). beyond true p w bank le)
      (cases_lt bank (resident_banks (2 ^ w) (wants_of p)));
}

-- ---- what lacks room

data Lack (fast : Bool) (p : Source) (w : ℕ) : CompileError → Type 0 where
  PublicScalars : 2 ^ w < scalars_of Public p → Lack fast p w (room.TooManyScalars Public)
  SecretScalars : scalars_of Public p ≤ 2 ^ w → 2 ^ w < scalars_of Secret p → Lack fast p w (room.TooManyScalars Secret)
  Blocks : (bank : ℕ) → ScalarsFit p w → most_blocks bank < needs fast p w bank
      → ((b : ℕ) → b < bank → needs fast p w b ≤ most_blocks b) → Lack fast p w (room.BankFull bank)

lack : (fast : Bool) (e : CompileError) (p : Source) (w : ℕ) (a : SourceFault) → LacksRoom fast e p w
    → room_fault e ≡ Some a → Lack fast p w e
lack false (room.TooManyScalars Public) p w a h is = PublicScalars h
lack false (room.TooManyScalars Secret) p w a h is = SecretScalars h.0 h.1
lack false (room.BankFull bank) p w a h is = Blocks bank h.0 h.1.full h.1.first
lack true (room.TooManyScalars Public) p w a h is = PublicScalars h
lack true (room.TooManyScalars Secret) p w a h is = SecretScalars h.0 h.1
lack true (room.BankFull bank) p w a h is = Blocks bank h.0 h.1.full h.1.first
lack fast room.Memory p w a h is = none-some a is

lack-once : (fast : Bool) (p : Source) (w : ℕ) (e f : CompileError) → Lack fast p w e → Lack fast p w f → e ≡ f
lack-once fast p w e f (PublicScalars many) (PublicScalars also) = refl
lack-once fast p w e f (PublicScalars many) (SecretScalars few also) = absurd (omega (arith, many, few))
lack-once fast p w e f (PublicScalars many) (Blocks bank fit full first) = absurd (omega (arith, many, fit.public))
lack-once fast p w e f (SecretScalars few many) (PublicScalars also) = absurd (omega (arith, also, few))
lack-once fast p w e f (SecretScalars few many) (SecretScalars few' also) = refl
lack-once fast p w e f (SecretScalars few many) (Blocks bank fit full first) = absurd (omega (arith, many, fit.secret))
lack-once fast p w e f (Blocks bank fit full first) (PublicScalars also) = absurd (omega (arith, also, fit.public))
lack-once fast p w e f (Blocks bank fit full first) (SecretScalars few also) = absurd (omega (arith, also, fit.secret))
lack-once fast p w e f (Blocks bank fit full first) (Blocks other fit' full' first') =
    ap room.BankFull (⊎_elim (λ (lt : bank < other). absurd (omega (arith, full, first' bank lt)))
    (λ (le : other ≤ bank). ⊎_elim (λ (lt : other < bank). absurd (omega (arith, full', first other lt)))
    (λ (ge : bank ≤ other). omega (arith, le, ge)) (cases_lt other bank)) (cases_lt bank other))

pub room-once : (fast : Bool) (p : Source) (w : ℕ) (e f : CompileError) (a b : SourceFault) → LacksRoom fast e p w
    → LacksRoom fast f p w → room_fault e ≡ Some a → room_fault f ≡ Some b → a ≡ b
room-once fast p w e f a b h g is is' =
    let same = lack-once fast p w e f (lack fast e p w a h is) (lack fast f p w b g is') in
    some-once (room_fault e) a b is (ap room_fault same ∙ is')

lack-not : (fast : Bool) (p : Source) (w : ℕ) (e : CompileError) → Rooms fast p w → Lack fast p w e → ⊥
lack-not fast p w e r (PublicScalars many) = omega (arith, many, r.scalars.public)
lack-not fast p w e r (SecretScalars few many) = omega (arith, many, r.scalars.secret)
lack-not fast p w e r (Blocks bank fit full first) = omega (arith, full, r.each bank)

pub room-or-not : (fast : Bool) (p : Source) (w : ℕ) (e : CompileError) (a : SourceFault) → HasRoom fast p w
    → LacksRoom fast e p w → room_fault e ≡ Some a → ⊥
room-or-not fast p w e a has h is = lack-not fast p w e (rooms fast p w has) (lack fast e p w a h is)
