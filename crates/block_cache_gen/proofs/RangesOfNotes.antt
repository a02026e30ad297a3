-- The notes of public code rise in place and are in their ranges, and there is one a node at most.
use Rattle.std.proofs.Common.{◌≡◌, ℕ, ◌+◌, ◌-◌, ◌*◌, ◌%◌, ◌^◌, ◌<◌, ◌≤◌, ◌==◌, Bool, true, false, nat_lt, ◌||◌, ℤ, List, [], ◌∷◌, ◌++◌, length, length-append, Option, Some, None, refl, sym, ap, ◌∙◌, subst, arith, w32, zero, suc}
use Rattle.std.specs.Int.{bit_not}
use Rattle.std.specs.Prelude.{if◌then◌else◌, All, IsTrue}
use Rattle.std.proofs.lemmas.Bool.{lt-ltb}
use Rattle.std.proofs.lemmas.Nat.{and_le_l}
use Rattle.std.proofs.lemmas.List.{append-nil}
use Rattle.std.proofs.lemmas.List.Elements.{All-nil, All-cons}
use Rattle.gr_base.specs.Prelude.{EachAfter}
use Rattle.gr_base.proofs.AtLast.{at_last-push}
use Rattle.gr_word.specs.declared.variables.Label.{Label}
use Rattle.lt_isa.specs.declared.symbols.Note.{Note}
use Rattle.lt_isa.specs.declared.instructions.Instr.{Instr}
use Rattle.lt_isa.specs.declared.instructions.Instr.TheVariants.{Alu}
use Rattle.lt_isa.specs.Prelude.{NoteFits, next_place, is_slot_claim}
use Rattle.held_registers.specs.Prelude.{held_at}
use Rattle.src_tree.specs.declared.trees.Decl.{Decl}
use Rattle.src_tree.specs.Prelude.{context_of, label_of, tree_weight, test_weight, Tree, Number, Variable, Element, Operation, Test, Statement, SetVariable, SetElement, Choice, Loop}
use Rattle.block_cache_gen.specs.declared.frames.Mode.TheVariants.{Public}
use Rattle.block_cache_gen.specs.Prelude.{Pin, pin_at, Home, Setting, home_of, Held, label_by, register_for, is_cached, numbering, compared_code, shift_code, load_code, offset_code, access_by, fixed_index, stored_code, access_code, operand, operand_part, operand_register, left_operand, index_operand, operation_code, steps_at, expr_code, guard_code, set_code, write_code, read_code, straight, scalar_set, straight_code, unmarked, marked_by, operand_mask, is_used, claimed_where_used, claim_by, slot_claims, note_of, access_mask, compared_notes, loading_code, loaded_notes, load_notes, index_notes, operation_notes, expr_notes, guard_notes, set_notes, is_public, mask_to, base_mask, scalar_set_notes}
use Rattle.block_cache_gen.specs.declared.indexes.Numbering.{Numbering}
use Rattle.block_cache_gen.specs.declared.indexes.Numbering.TheVariants.{Compared, Reduced, Within}
use Rattle.gr_word.specs.declared.operations.Op.{Op}
use Rattle.strength_reduction.specs.Prelude.{Step, code_of}
use Rattle.block_cache_gen.proofs.ElementCodes.{read-short, stored-short}
use Rattle.block_cache_gen.proofs.NotesOfCode.{index_length, located-longer, access-longer, access-more, loading-behind, expression-longer}
use Rattle.block_cache_gen.proofs.HeldOperands.{operand-short}
use Rattle.block_cache_gen.proofs.Sizes.{shift_some}
use Rattle.block_cache_gen.proofs.PublicAccesses.{array_code, array_notes}
use Rattle.block_cache_gen.proofs.StraightCodes.{straight-length, straight-notes}
use Rattle.gr_word.specs.declared.variables.Label.TheVariants as label

-- Notes from one place on and before another, which rise, with masks of 32 registers, and the claims of a setting.
abbrev pub NotesRise : Setting → (low high : ℕ) → List Note → Type 0
NotesRise f low high [] = Unit {0}
NotesRise f low high (n ∷ notes) =
    ((low ≤ n.pc) × (n.pc < high)) × ((n.secrets < 2 ^ 32) × (n.slots ≡ slot_claims f))
    × NotesRise f (n.pc + 1) high notes

-- rising notes rise between wider bounds
pub rise-wider : (f : Setting) (low high least most : ℕ) (notes : List Note) → least ≤ low → high ≤ most
    → NotesRise f low high notes → NotesRise f least most notes
rise-wider f low high least most [] le ge rise = tt
rise-wider f low high least most (n ∷ notes) le ge rise =
    let at = rise.0 in (
      (omega (arith, at.0), omega (arith, at.1)),
      rise.1,
      rise-wider f (n.pc + 1) high (n.pc + 1) most notes (omega arith) ge rise.2,
    )

-- the notes of one piece and then of the rest rise
pub rise-then : (f : Setting) (low mid high : ℕ) (xs ys : List Note) → low ≤ mid → mid ≤ high → NotesRise f low mid xs
    → NotesRise f mid high ys → NotesRise f low high (xs ++ ys)
rise-then f low mid high [] ys le ge first second = rise-wider f mid high low high ys le (omega arith) second
rise-then f low mid high (n ∷ xs) ys le ge first second =
    let at = first.0 in (
      (at.0, omega (arith, at.1)),
      first.1,
      rise-then f (n.pc + 1) mid high xs ys (omega (arith, at.1)) ge first.2 second,
    )

-- masks
unmarked_below : (mask r : ℕ) → mask < 2 ^ 32 → unmarked mask r < 2 ^ 32
unmarked_below mask r small = omega (arith, and_le_l mask (bit_not w32 (1 * 2 ^ r % 2 ^ 32)))

pub access_mask-below : (mask to : ℕ) → mask < 2 ^ 32 → access_mask mask to < 2 ^ 32
access_mask-below mask to small =
    unmarked_below (unmarked (unmarked mask to) (to + 1)) (to + 2)
    (unmarked_below (unmarked mask to) (to + 1) (unmarked_below mask to small))

pub marked_by-below : (l : Label) (mask r : ℕ) → mask < 2 ^ 32 → marked_by l mask r < 2 ^ 32
marked_by-below label.Public mask r small = unmarked_below mask r small
marked_by-below label.Secret mask r small = small

operand_mask-below : (q : Option ℕ) (l : Label) (mask r : ℕ) → mask < 2 ^ 32 → operand_mask q l mask r < 2 ^ 32
operand_mask-below None l mask r small = marked_by-below l mask r small
operand_mask-below (Some held) l mask r small = small

-- the notes of an access
load_rises : (f : Setting) (mask to behind low high : ℕ) (cached : Bool) → mask < 2 ^ 32 → low ≤ behind → behind < high
    → NotesRise f low high (if cached then note_of f (access_mask mask to) behind ∷ [] else [])
load_rises f mask to behind low high true small le lt = ((le, lt), (access_mask-below mask to small, refl), tt)
load_rises f mask to behind low high false small le lt = tt

loaded_rises : (f : Setting) (h : Home) (mask to from p : ℕ) (b : Bool) (near : Numbering) (fixed : Option ℤ)
    (index : List Instr) → mask < 2 ^ 32
    → NotesRise f (p + index_length fixed index + 1)
    (p + length (access_by b near f Public h to from fixed index) + 1)
    (loaded_notes b near fixed f h mask to
    (p + length (access_by b near f Public h to from fixed index)))
loaded_rises f h mask to from p true near (Some z) index small = tt
loaded_rises f h mask to from p true Compared None index small =
    let size = length-append index (compared_code h to ++ offset_code f h to to) in
    let rest = length-append (compared_code h to) (offset_code f h to to) in
    ((omega (arith, size, rest), omega (arith, size, rest)), (unmarked_below mask to small, refl), tt)
loaded_rises f h mask to from p true Reduced None index small = tt
loaded_rises f h mask to from p true Within None index small = tt
loaded_rises f h mask to from p false near fixed index small = compared near fixed
  where
    load : (near : Numbering) (fixed : Option ℤ) (low : ℕ)
        → low ≤ p + length (access_by false near f Public h to from fixed index)
        → NotesRise f low (p + length (access_by false near f Public h to from fixed index) + 1)
        (if is_cached h then note_of f (access_mask mask to)
        (p + length (access_by false near f Public h to from fixed index)) ∷ [] else [])
    load near fixed low le =
        load_rises f mask to (p + length (access_by false near f Public h to from fixed index)) low _
        (is_cached h) small le (omega arith)

    compared : (near : Numbering) (fixed : Option ℤ)
        → NotesRise f (p + index_length fixed index + 1)
        (p + length (access_by false near f Public h to from fixed index) + 1)
        (loaded_notes false near fixed f h mask to
        (p + length (access_by false near f Public h to from fixed index)))
    compared near (Some z) =
        let longer = located-longer near f h to from (Some z) index in
        let more = access-longer near f h to from (Some z) index in
        load near (Some z) _ (omega arith)
    compared Reduced None =
        let longer = located-longer Reduced f h to from None index in
        let more = access-longer Reduced f h to from None index in
        load Reduced None _ (omega arith)
    compared Within None =
        let longer = located-longer Within f h to from None index in
        let more = access-longer Within f h to from None index in
        load Within None _ (omega arith)
    compared Compared None =
        let place = loading-behind f h to from p index in
        let more = access-longer Compared f h to from None index in
        let some = shift_some f h to in
        let loading = length-append (shift_code f h to) (load_code (is_cached h) h to) in
        let longer = located-longer Compared f h to from None index in (
          (omega (arith, place), omega (arith, place)),
          (unmarked_below mask to small, refl),
          load Compared None _ (omega (arith, place, some, loading)),
        )

index_rises : (f : Setting) (fixed : Option ℤ) (p : ℕ) (index : List Instr) (notes : List Note)
    → NotesRise f (p + 1) (p + length index) notes
    → NotesRise f (p + 1) (p + index_length fixed index) (index_notes fixed notes)
index_rises f (Some z) p index notes rise = tt
index_rises f None p index notes rise = rise

pub access-rises : (f : Setting) (near : Numbering) (h : Home) (mask to from p : ℕ) (fixed : Option ℤ)
    (index : List Instr)
    (notes : List Note) → mask < 2 ^ 32 → NotesRise f (p + 1) (p + length index) notes
    → NotesRise f (p + 1) (p + length (access_code near f Public h to from fixed index) + 1)
    (index_notes fixed notes
    ++ load_notes near fixed f h mask to (p + length (access_code near f Public h to from fixed index)))
access-rises f near h mask to from p fixed index notes small rise =
    let size = length (access_code near f Public h to from fixed index) in
    let mid = p + index_length fixed index + 1 in
    let more = access-more h.resident near f h to from fixed index in
    rise-then f (p + 1) mid (p + size + 1) (index_notes fixed notes) (load_notes near fixed f h mask to (p + size))
    (omega arith) (omega arith)
    (rise-wider f (p + 1) (p + index_length fixed index) (p + 1) mid (index_notes fixed notes) (omega arith)
    (omega arith) (index_rises f fixed p index notes rise))
    (loaded_rises f h mask to from p h.resident near fixed index small)

-- the notes of an operand
operand-rises : (f : Setting) (q : Option ℕ) (p : ℕ) (code : List Instr) (notes : List Note)
    → NotesRise f (p + 1) (p + length code) notes
    → NotesRise f (p + 1) (p + length (operand_part q code)) (operand_part q notes)
operand-rises f (Some r) p code notes rise = tt
operand-rises f None p code notes rise = rise

-- the notes of an operation, by those of its sides
operation-rises : (f : Setting) (op : Op) (to left right p : ℕ) (first : List Instr) (before : List Note)
    (second : List Instr) (later : List Note) (found : Option (List Step))
    → NotesRise f (p + 1) (p + length first) before
    → NotesRise f (p + length first + 1) (p + length first + length second) later
    → NotesRise f (p + 1) (p + length (first ++ operation_code op to left right found second))
    (before ++ operation_notes found later)
operation-rises f op to left right p first before second later None one two =
    let last = Alu op to left right ∷ [] in
    let size : length (first ++ (second ++ last)) ≡ length first + (length second + 1) =
    length-append first (second ++ last) ∙ ap (λ (n : ℕ). length first + n) (length-append second last) in
    let mid = p + length first in
    let whole = p + length (first ++ (second ++ last)) in
    rise-then f (p + 1) (mid + 1) whole before later (omega arith) (omega arith)
    (rise-wider f (p + 1) mid (p + 1) (mid + 1) before (omega arith) (omega arith) one)
    (rise-wider f (mid + 1) (mid + length second) (mid + 1) whole later (omega arith) (omega arith) two)
operation-rises f op to left right p first before second later (Some steps) one two =
    let size = length-append first (code_of to steps) in
    let whole = p + length (first ++ code_of to steps) in
    subst (NotesRise f (p + 1) whole) (sym (append-nil before))
    (rise-wider f (p + 1) (p + length first) (p + 1) whole before (omega arith) (omega arith) one)

-- the notes of an expression, of a guard, and of an assignment
pub expression-rises : (f : Setting) (e : Tree) (mask to p : ℕ) → mask < 2 ^ 32
    → NotesRise f (p + 1) (p + length (expr_code f Public to e)) (expr_notes f mask to p e)
expression-rises f (Number z) mask to p small = tt
expression-rises f (Variable x) mask to p small = tt
expression-rises f (Element x i) mask to p small =
    let h = home_of f x in
    let near = numbering f Public h i in
    let q = index_operand f near h i in
    let code = array_code f to x i in
    let notes = expr_notes f mask to p (Element x i) in
    let read = read_code f h (fixed_index h i) to in
    let size = length-append code read in
    let some = (read-short f h (fixed_index h i) to).0 in
    rise-wider f (p + 1) (p + length code + 1) (p + 1) (p + length (code ++ read)) notes (omega arith)
    (omega arith)
    (access-rises f near h mask to (operand_register q to) p (fixed_index h i)
    (operand_part q (expr_code f Public to i)) (operand_part q (expr_notes f mask to p i)) small
    (operand-rises f q p (expr_code f Public to i) (expr_notes f mask to p i) (expression-rises f i mask to p small)))
expression-rises f (Operation op a b) mask to p small =
    let q = left_operand f op a b in
    let first = operand_part q (expr_code f Public to a) in
    let second = expr_code f Public (to + 1) b in
    let mid = p + length first in
    let l = label_of (context_of f.decls) a in
    let mask' = operand_mask q l mask to in
    operation-rises f op to (operand_register q to) (operand_register (operand f b) (to + 1)) p first
    (operand_part q (expr_notes f mask to p a)) (operand_part (operand f b) second)
    (operand_part (operand f b) (expr_notes f mask' (to + 1) mid b)) (steps_at f op b)
    (operand-rises f q p (expr_code f Public to a) (expr_notes f mask to p a) (expression-rises f a mask to p small))
    (operand-rises f (operand f b) mid second (expr_notes f mask' (to + 1) mid b)
    (expression-rises f b mask' (to + 1) mid (operand_mask-below q l mask to small)))

-- the mask of notes between statements
mask_to-below : (decls : List Decl) (held : List Held) (r : ℕ) → mask_to decls held r < 2 ^ 32
unfolding mask_to
mask_to-below decls held zero = omega arith
mask_to-below decls held (suc r) =
    below (is_public (label_by decls (held_at held r))) (mask_to decls held r) r (mask_to-below decls held r)
  where
    below : (public : Bool) (mask r : ℕ) → mask < 2 ^ 32 → (if public then unmarked mask r else mask) < 2 ^ 32
    below true mask r small = unmarked_below mask r small
    below false mask r small = small

pub base_mask-below : (f : Setting) → base_mask f < 2 ^ 32
base_mask-below f = mask_to-below f.decls f.held 32

-- the notes of a guard rise
pub guard-rises : (f : Setting) (to p : ℕ) (t : Test)
    → NotesRise f (p + 1) (p + length (guard_code f Public to t)) (guard_notes f to p t)
guard-rises f to p t =
    let first = expr_code f Public to t.left in
    let second = expr_code f Public (to + 1) t.right in
    let mask = marked_by (label_of (context_of f.decls) t.left) (base_mask f) to in
    let mid = p + length first in
    let whole = p + length (first ++ second) in
    let some = expression-longer f t.left to in
    let size : length (first ++ second) ≡ length first + length second = length-append first second in
    rise-then f (p + 1) mid whole (expr_notes f (base_mask f) to p t.left) (expr_notes f mask (to + 1) mid t.right)
    (omega arith) (omega arith) (expression-rises f t.left (base_mask f) to p (base_mask-below f))
    (rise-wider f (mid + 1) (mid + length second) mid whole (expr_notes f mask (to + 1) mid t.right) (omega arith)
    (omega arith)
    (expression-rises f t.right mask (to + 1) mid (marked_by-below (label_of
    (context_of f.decls) t.left) (base_mask f) to (base_mask-below f))))

-- the notes of an assignment rise
pub set-rises : (f : Setting) (p : ℕ) (s : Statement)
    → NotesRise f (p + 1) (p + length (set_code f Public s)) (set_notes f p s)
set-rises f p (SetVariable x e) = by (straight f x e) refl
  where
    by : (found : Option ℕ) → straight f x e ≡ found
        → NotesRise f (p + 1) (p + length (scalar_set found f Public x e)) (scalar_set_notes found f p e)
    by (Some r) is =
        subst (NotesRise f (p + 1) (p + length (straight_code f Public r e))) (sym (straight-notes f x e r is p))
        (subst (λ (n : ℕ). NotesRise f (p + 1) (p + n) (expr_notes f (base_mask f) 0 p e))
        (sym (straight-length f x e r is Public r)) (expression-rises f e (base_mask f) 0 p (base_mask-below f)))
    by None is =
        let q = operand f e in
        let first = operand_part q (expr_code f Public 0 e) in
        let notes = operand_part q (expr_notes f (base_mask f) 0 p e) in
        let store = write_code f.reduces (register_for f x) (label_of (context_of f.decls) (Variable x)) Public (home_of f x)
        (operand_register q 0) in
        let size : length (first ++ store) ≡ length first + length store = length-append first store in
        rise-wider f (p + 1) (p + length first) (p + 1) (p + length (first ++ store)) notes
        (omega arith) (omega arith)
        (operand-rises f q p (expr_code f Public 0 e) (expr_notes f (base_mask f) 0 p e)
        (expression-rises f e (base_mask f) 0 p (base_mask-below f)))
set-rises f p (SetElement x i e) =
    let h = home_of f x in
    let near = numbering f Public h i in
    let q = operand f e in
    let q_of_index = index_operand f near h i in
    let first = operand_part q (expr_code f Public 0 e) in
    let before = operand_part q (expr_notes f (base_mask f) 0 p e) in
    let access = array_code f 1 x i in
    let store = stored_code f Public h (fixed_index h i) (operand_register q 0) in
    let some = (stored-short f Public h (fixed_index h i) (operand_register q 0)).0 in
    let l = label_of (context_of f.decls) e in
    let mask = operand_mask q l (base_mask f) 0 in
    let small = operand_mask-below q l (base_mask f) 0 (base_mask-below f) in
    let mid = p + length first in
    let whole = p + length (first ++ (access ++ store)) in
    let size : length (first ++ (access ++ store)) ≡ length first + (length access + length store) =
    length-append first (access ++ store) ∙ ap (λ (n : ℕ). length first + n) (length-append access store) in
    rise-then f (p + 1) (mid + 1) whole before (array_notes f mask 1 mid x i) (omega arith) (omega arith)
    (rise-wider f (p + 1) mid (p + 1) (mid + 1) before (omega arith) (omega arith)
    (operand-rises f q p (expr_code f Public 0 e) (expr_notes f (base_mask f) 0 p e)
    (expression-rises f e (base_mask f) 0 p (base_mask-below f))))
    (rise-wider f (mid + 1) (mid + length access + 1) (mid + 1) whole (array_notes f mask 1 mid x i) (omega arith)
    (omega arith)
    (access-rises f near h mask 1 (operand_register q_of_index 1) mid (fixed_index h i)
    (operand_part q_of_index (expr_code f Public 1 i)) (operand_part q_of_index (expr_notes f mask 1 mid i)) small
    (operand-rises f q_of_index mid (expr_code f Public 1 i) (expr_notes f mask 1 mid i)
    (expression-rises f i mask 1 mid small))))
set-rises f p (Choice t a b) = tt
set-rises f p (Loop t a) = tt

-- each claim is that of a bank, or of any
low_claim : (banks bank : ℕ) → bank < banks → IsTrue (is_slot_claim banks bank)
low_claim banks bank low =
    subst IsTrue (sym (ap (λ (b : Bool). b || (bank == 255)) (lt-ltb bank banks low))) refl

any_claim : (banks : ℕ) → IsTrue (is_slot_claim banks 255)
any_claim banks = subst IsTrue (sym (or_true (nat_lt 255 banks))) refl
  where
    or_true : (b : Bool) → (b || true) ≡ true
    or_true true = refl
    or_true false = refl

used_claim : (used : Bool) (banks bank : ℕ) → bank < banks → IsTrue (is_slot_claim banks (if used then bank else 255))
used_claim true banks bank low = low_claim banks bank low
used_claim false banks bank low = any_claim banks

-- pinned blocks are ones of plain or encrypted memory
abbrev pub PinsLow : Setting → Type 0
PinsLow f = (slot : ℕ) (p : Pin) → pin_at f slot ≡ Some p → p.bank < 2

pub claims-fit : (f : Setting) (banks : ℕ) → 2 ≤ banks → PinsLow f
    → (length (slot_claims f) ≡ 8) × All (λ claim. IsTrue (is_slot_claim banks claim)) (slot_claims f)
claims-fit f banks some pins =
    let C : ℕ → Type 0 = λ claim. IsTrue (is_slot_claim banks claim) in
    let pinned : (slot other : ℕ) → C other → C (claim_by (pin_at f slot) other) =
    λ slot other turn. pin_claim C (pin_at f slot) other turn
    (λ p is. low_claim banks p.bank (omega (arith, pins slot p is))) in
    let c0 = claim_by (pin_at f 0) 255 in
    let c1 = claim_by (pin_at f 1) 255 in
    let c2 = claim_by (pin_at f 2) (claimed_where_used f 2 0) in
    let c3 = claim_by (pin_at f 3) (claimed_where_used f 3 0) in
    let c4 = claim_by (pin_at f 4) (claimed_where_used f 4 1) in
    let c5 = claim_by (pin_at f 5) (claimed_where_used f 5 1) in
    let c7 = claim_by (pin_at f 7) 255 in
    let six : List ℕ = 255 ∷ c7 ∷ [] in
    let five : List ℕ = c5 ∷ six in
    let four : List ℕ = c4 ∷ five in
    let three : List ℕ = c3 ∷ four in
    let two : List ℕ = c2 ∷ three in
    let one : List ℕ = c1 ∷ two in (
      refl,
      All-cons C c0 one (pinned 0 255 (any_claim banks))
          (All-cons C c1 two (pinned 1 255 (any_claim banks))
          (All-cons C c2 three (pinned 2 (claimed_where_used f 2 0) (used_claim (is_used f 2) banks 0 (omega arith)))
          (All-cons C c3 four (pinned 3 (claimed_where_used f 3 0) (used_claim (is_used f 3) banks 0 (omega arith)))
          (All-cons C c4 five (pinned 4 (claimed_where_used f 4 1) (used_claim (is_used f 4) banks 1 (omega arith)))
          (All-cons C c5 six (pinned 5 (claimed_where_used f 5 1) (used_claim (is_used f 5) banks 1 (omega arith)))
          (All-cons C 255 (c7 ∷ []) (any_claim banks)
          (All-cons C c7 [] (pinned 7 255 (any_claim banks)) (All-nil C)))))))),
    )
  where
    pin_claim : (C : ℕ → Type 0) (pin : Option Pin) (other : ℕ) → C other → ((p : Pin) → pin ≡ Some p → C p.bank)
        → C (claim_by pin other)
    pin_claim C None other turn is = turn
    pin_claim C (Some p) other turn is = is p refl

-- notes that rise are in their ranges after others that end before them
pub rise-fits : (f : Setting) (banks : ℕ) → 2 ≤ banks → PinsLow f → (low high : ℕ) (before notes : List Note)
    → next_place before ≤ low → high ≤ 2 ^ 32 → NotesRise f low high notes → EachAfter (NoteFits banks) before notes
rise-fits f banks some pins low high before [] le ge rise = tt
rise-fits f banks some pins low high before (n ∷ notes) le ge rise =
    let at = rise.0 in
    let claims = claims-fit f banks some pins in
    let next : next_place (before ++ n ∷ []) ≡ n.pc + 1 = at_last-push (λ (m : Note). m.pc + 1) before n in (
      record {
        pc = (omega (arith, at.0), omega (arith, at.1));
        secrets = rise.1.0;
        slot_count = ap length rise.1.1 ∙ claims.0;
        slots = subst (All (λ claim. IsTrue (is_slot_claim banks claim))) (sym rise.1.1) claims.1;
      },
      rise-fits f banks some pins (n.pc + 1) high (before ++ n ∷ []) notes (omega (arith, next)) ge rise.2,
    )

-- two notes a node at most
load_count : (f : Setting) (mask to behind : ℕ) (cached : Bool)
    → length (if cached then note_of f (access_mask mask to) behind ∷ [] else []) ≤ 1
load_count f mask to behind true = omega arith
load_count f mask to behind false = omega arith

compared_count : (near : Numbering) (fixed : Option ℤ) (f : Setting) (mask to place : ℕ)
    → length (compared_notes near fixed f mask to place) ≤ 1
compared_count near (Some z) f mask to place = omega arith
compared_count Compared None f mask to place = omega arith
compared_count Reduced None f mask to place = omega arith
compared_count Within None f mask to place = omega arith

loaded_count : (f : Setting) (h : Home) (mask to behind : ℕ) (b : Bool) (near : Numbering) (fixed : Option ℤ)
    → length (loaded_notes b near fixed f h mask to behind) ≤ 2
loaded_count f h mask to behind true near fixed =
    let count = compared_count near fixed f mask to (behind - length (offset_code f h to to)) in omega arith
loaded_count f h mask to behind false near fixed =
    let place = behind - length (loading_code f h to) in
    let load = if is_cached h then note_of f (access_mask mask to) behind ∷ [] else [] in
    omega (
      arith,
      length-append (compared_notes near fixed f mask to place) load,
      compared_count near fixed f mask to place,
      load_count f mask to behind (is_cached h),
    )

index_count : (fixed : Option ℤ) (notes : List Note) → length (index_notes fixed notes) ≤ length notes
index_count (Some z) notes = omega arith
index_count None notes = omega arith

pub access-count : (f : Setting) (near : Numbering) (h : Home) (mask to behind : ℕ) (fixed : Option ℤ)
    (notes : List Note)
    → length (index_notes fixed notes ++ load_notes near fixed f h mask to behind) ≤ length notes + 2
access-count f near h mask to behind fixed notes =
    omega (
      arith,
      length-append (index_notes fixed notes) (load_notes near fixed f h mask to behind),
      index_count fixed notes,
      loaded_count f h mask to behind h.resident near fixed,
    )

operation-count : (found : Option (List Step)) (notes : List Note) → length (operation_notes found notes) ≤ length notes
operation-count None notes = omega arith
operation-count (Some steps) notes = omega arith

-- an expression has at most two notes for each unit of its weight
pub expression-count : (f : Setting) (e : Tree) (mask to p : ℕ) → length (expr_notes f mask to p e) ≤ 2 * tree_weight e
expression-count f (Number z) mask to p = omega arith
expression-count f (Variable x) mask to p = omega arith
expression-count f (Element x i) mask to p =
    let near = numbering f Public (home_of f x) i in
    let q = index_operand f near (home_of f x) i in
    let notes = expr_notes f mask to p i in
    let count = access-count f near (home_of f x) mask to (p + length (array_code f to x i))
    (fixed_index (home_of f x) i) (operand_part q notes) in
    let fewer = operand-short q notes in
    let index = expression-count f i mask to p in
    omega arith
expression-count f (Operation op a b) mask to p =
    let q = left_operand f op a b in
    let before = expr_notes f mask to p a in
    let mid = p + length (operand_part q (expr_code f Public to a)) in
    let mask' = operand_mask q (label_of (context_of f.decls) a) mask to in
    let later = expr_notes f mask' (to + 1) mid b in
    let right = operand_part (operand f b) later in
    omega (
      arith,
      length-append (operand_part q before) (operation_notes (steps_at f op b) right),
      operand-short q before,
      expression-count f a mask to p,
      operand-short (operand f b) later,
      expression-count f b mask' (to + 1) mid,
      operation-count (steps_at f op b) right,
    )

-- so has a guard
pub guard-count : (f : Setting) (to p : ℕ) (t : Test) → length (guard_notes f to p t) ≤ 2 * test_weight t
guard-count f to p t =
    let mid = p + length (expr_code f Public to t.left) in
    let mask = marked_by (label_of (context_of f.decls) t.left) (base_mask f) to in
    let size = length-append (expr_notes f (base_mask f) to p t.left) (expr_notes f mask (to + 1) mid t.right) in
    let first = expression-count f t.left (base_mask f) to p in
    let second = expression-count f t.right mask (to + 1) mid in
    omega arith

-- so has an assignment to a variable
pub set_variable-count : (f : Setting) (p : ℕ) (x : List ℕ) (e : Tree)
    → length (set_notes f p (SetVariable x e)) ≤ 2 * tree_weight e
set_variable-count f p x e = by (straight f x e) refl
  where
    by : (found : Option ℕ) → straight f x e ≡ found → length (scalar_set_notes found f p e) ≤ 2 * tree_weight e
    by (Some r) is =
        omega (arith, ap length (straight-notes f x e r is p), expression-count f e (base_mask f) 0 p)
    by None is =
        let notes = expr_notes f (base_mask f) 0 p e in
        omega (arith, operand-short (operand f e) notes, expression-count f e (base_mask f) 0 p)

-- and one to an element
pub set_element-count : (f : Setting) (p : ℕ) (x : List ℕ) (i e : Tree)
    → length (set_notes f p (SetElement x i e)) ≤ 2 * (1 + (tree_weight i + tree_weight e))
set_element-count f p x i e =
    let near = numbering f Public (home_of f x) i in
    let q = operand f e in
    let q_of_index = index_operand f near (home_of f x) i in
    let mid = p + length (operand_part q (expr_code f Public 0 e)) in
    let mask = operand_mask q (label_of (context_of f.decls) e) (base_mask f) 0 in
    let before = expr_notes f (base_mask f) 0 p e in
    let notes = expr_notes f mask 1 mid i in
    omega (
      arith,
      length-append (operand_part q before) (array_notes f mask 1 mid x i),
      access-count f near (home_of f x) mask 1 (mid + length (array_code f 1 x i)) (fixed_index (home_of f x) i)
          (operand_part q_of_index notes),
      operand-short q before,
      expression-count f e (base_mask f) 0 p,
      operand-short q_of_index notes,
      expression-count f i mask 1 mid,
    )
