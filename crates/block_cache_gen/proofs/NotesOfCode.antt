-- The places of the notes of public code: after its first instruction, each at one of its instructions.
use Rattle.std.proofs.Common.{◌≡◌, ℕ, ◌+◌, ◌-◌, ◌<◌, ◌≤◌, Bool, true, false, ℤ, List, [], ◌∷◌, ◌++◌, length, length-append, Option, Some, None, refl, ap, ◌∙◌, arith}
use Rattle.std.specs.Prelude.{if◌then◌else◌, is_some}
use Rattle.lt_isa.specs.declared.symbols.Note.{Note}
use Rattle.lt_isa.specs.declared.instructions.Instr.{Instr}
use Rattle.lt_isa.specs.declared.instructions.Instr.TheVariants.{Alu}
use Rattle.src_tree.specs.Prelude.{context_of, label_of, Tree, Number, Variable, Element, Operation}
use Rattle.stretches.proofs.Passed.{LieBetween, lie_wider, lie_both}
use Rattle.block_cache_gen.specs.declared.frames.Mode.TheVariants.{Public}
use Rattle.block_cache_gen.specs.Prelude.{further_slots, Home, Setting, home_of, register_for, read_by, read_code, stored_among, stored_by, stored_code, is_cached, numbering, compared_code, numbered_code, numbered_register, fixed_index, shift_code, offset_code, located_code, load_code, skips, access_by, access_code, operand, operand_part, operand_register, operand_unless, left_operand, index_operand, indexed_code, operation_code, steps_at, expr_code, scalar_code, write_code, operand_mask, access_mask, note_of, compared_notes, loading_code, loaded_notes, load_notes, index_notes, operation_notes, expr_notes}
use Rattle.block_cache_gen.specs.declared.indexes.Numbering.{Numbering}
use Rattle.block_cache_gen.specs.declared.indexes.Numbering.TheVariants.{Compared, Reduced, Within}
use Rattle.gr_word.specs.declared.variables.Label.{Label}
use Rattle.block_cache_gen.specs.declared.frames.Mode.{Mode}
use Rattle.gr_word.specs.declared.operations.Op.{Op}
use Rattle.strength_reduction.specs.Prelude.{Step, code_of}
use Rattle.block_cache_gen.proofs.Sizes.{shift_some}

-- a located word takes two instructions at least, and more than its index
abbrev pub index_length : Option ℤ → List Instr → ℕ
index_length (Some z) index = 0
index_length None index = length index

-- at least two instructions follow the index
pub located-longer : (near : Numbering) (f : Setting) (h : Home) (to from : ℕ) (fixed : Option ℤ) (index : List Instr)
    → index_length fixed index + 2 ≤ length (located_code near f h to from fixed index)
located-longer near f h to from (Some z) index = omega arith
located-longer near f h to from None index =
    omega (
      arith,
      length-append index (numbered_code near f h to from ++ shift_code f h to),
      length-append (numbered_code near f h to from) (shift_code f h to),
      shift_some f h to,
    )

load_longer : (skip : Bool) (h : Home) (to : ℕ) → 1 ≤ length (load_code skip h to)
load_longer true h to = omega arith
load_longer false h to = omega arith

-- and one more in an access
pub access-longer : (near : Numbering) (f : Setting) (h : Home) (to from : ℕ) (fixed : Option ℤ) (index : List Instr)
    → length (located_code near f h to from fixed index) + 1
    ≤ length (located_code near f h to from fixed index ++ load_code (skips Public h) h to)
access-longer near f h to from fixed index =
    omega (
      arith,
      length-append (located_code near f h to from fixed index) (load_code (skips Public h) h to),
      load_longer (skips Public h) h to,
    )

-- an access isn't shorter than its index, and longer if it loads
pub access-more : (resident : Bool) (near : Numbering) (f : Setting) (h : Home) (to from : ℕ) (fixed : Option ℤ)
    (index : List Instr)
    → index_length fixed index ≤ length (access_by resident near f Public h to from fixed index)
access-more true near f h to from (Some z) index = omega arith
access-more true near f h to from None index =
    omega (
      arith,
      length-append index (numbered_code near f h to from ++ offset_code f h to (numbered_register near to from)),
      length-append (numbered_code near f h to from) (offset_code f h to (numbered_register near to from)),
    )
access-more false near f h to from fixed index =
    let longer = located-longer near f h to from fixed index in
    let more = access-longer near f h to from fixed index in
    omega arith

-- the note of a load
pub load-lies : (f : Setting) (h : Home) (mask to behind p q : ℕ) (cached : Bool) → p < behind → behind < q
    → LieBetween p q (if cached then note_of f (access_mask mask to) behind ∷ [] else [])
load-lies f h mask to behind p q true low high = ((low, high), tt)
load-lies f h mask to behind p q false low high = tt

-- the note of a comparison
pub compared-lie : (near : Numbering) (f : Setting) (mask to place p q : ℕ) → (near ≡ Compared → p < place)
    → place < q → LieBetween p q (compared_notes near None f mask to place)
compared-lie Compared f mask to place p q low high = ((low refl, high), tt)
compared-lie Reduced f mask to place p q low high = tt
compared-lie Within f mask to place p q low high = tt

-- before the number of the block is computed there is at most the note of a comparison
pub located-lie : (f : Setting) (h : Home) (mask to from p : ℕ) (near : Numbering) (fixed : Option ℤ)
    (index : List Instr)
    → LieBetween p (p + length (located_code near f h to from fixed index))
    (compared_notes near fixed f mask to
    (p + length (located_code near f h to from fixed index)
    - length (shift_code f h to)))
located-lie f h mask to from p near (Some z) index = tt
located-lie f h mask to from p Reduced None index = tt
located-lie f h mask to from p Within None index = tt
located-lie f h mask to from p Compared None index =
    let shift = shift_code f h to in
    let whole = length-append index (compared_code h to ++ shift) in
    let rest = length-append (compared_code h to) shift in
    let some = shift_some f h to in
    compared-lie Compared f mask to _ p _ (λ is. omega arith) (omega arith)

-- the place of the note of a comparison in the code of an access that loads
pub loading-behind : (f : Setting) (h : Home) (to from p : ℕ) (index : List Instr)
    → p + length (access_by false Compared f Public h to from None index) - length (loading_code f h to)
    ≡ p + length index + 6
loading-behind f h to from p index =
    let load = load_code (is_cached h) h to in
    omega (
      arith,
      length-append (index ++ (compared_code h to ++ shift_code f h to)) load,
      length-append index (compared_code h to ++ shift_code f h to),
      length-append (shift_code f h to) load,
    )

-- the note of a comparison, or of a load
pub loaded-lie : (f : Setting) (h : Home) (mask to from p : ℕ) (resident : Bool) (near : Numbering) (fixed : Option ℤ)
    (index : List Instr)
    → LieBetween p (p + length (access_by resident near f Public h to from fixed index) + 1)
    (loaded_notes resident near fixed f h mask to
    (p + length (access_by resident near f Public h to from fixed index)))
loaded-lie f h mask to from p true near (Some z) index = tt
loaded-lie f h mask to from p true Compared None index =
    let size = length-append index (compared_code h to ++ offset_code f h to to) in
    let rest = length-append (compared_code h to) (offset_code f h to to) in
    ((omega (arith, size, rest), omega (arith, size, rest)), tt)
loaded-lie f h mask to from p true Reduced None index = tt
loaded-lie f h mask to from p true Within None index = tt
loaded-lie f h mask to from p false near fixed index =
    let code = access_by false near f Public h to from fixed index in
    let longer = located-longer near f h to from fixed index in
    let more = access-longer near f h to from fixed index in
    lie_both p (p + length code + 1) (compared_notes near fixed f mask to
    (p + length code - length (loading_code f h to)))
    (if is_cached h then note_of f (access_mask mask to) (p + length code) ∷ [] else []) (compared near fixed)
    (load-lies f h mask to (p + length code) p (p + length code + 1) (is_cached h) (omega arith) (omega arith))
  where
    compared : (near : Numbering) (fixed : Option ℤ)
        → LieBetween p (p + length (access_by false near f Public h to from fixed index) + 1)
        (compared_notes near fixed f mask to
        (p + length (access_by false near f Public h to from fixed index)
        - length (loading_code f h to)))
    compared near (Some z) = tt
    compared Reduced None = tt
    compared Within None = tt
    compared Compared None =
        let size = loading-behind f h to from p index in
        compared-lie Compared f mask to _ p _ (λ is. omega (arith, size)) (omega (arith, size))

-- the notes of an index
pub index-lie : (fixed : Option ℤ) (p : ℕ) (index : List Instr) (notes : List Note)
    → LieBetween p (p + length index) notes → LieBetween p (p + index_length fixed index) (index_notes fixed notes)
index-lie (Some z) p index notes lie = tt
index-lie None p index notes lie = lie

-- the notes of an access
pub access-lie : (f : Setting) (near : Numbering) (h : Home) (mask to from p : ℕ) (fixed : Option ℤ)
    (index : List Instr)
    (notes : List Note) → LieBetween p (p + length index) notes
    → LieBetween p (p + length (access_code near f Public h to from fixed index) + 1)
    (index_notes fixed notes
    ++ load_notes near fixed f h mask to
    (p + length (access_code near f Public h to from fixed index)))
access-lie f near h mask to from p fixed index notes lie =
    let size = length (access_code near f Public h to from fixed index) in
    let more = access-more h.resident near f h to from fixed index in
    lie_both p (p + size + 1) (index_notes fixed notes) (load_notes near fixed f h mask to (p + size))
    (lie_wider p (p + index_length fixed index) p (p + size + 1) (index_notes fixed notes) (omega arith)
    (omega arith) (index-lie fixed p index notes lie))
    (loaded-lie f h mask to from p h.resident near fixed index)

-- the notes of an operand
pub operand-lie : (q : Option ℕ) (p : ℕ) (code : List Instr) (notes : List Note) → LieBetween p (p + length code) notes
    → LieBetween p (p + length (operand_part q code)) (operand_part q notes)
operand-lie (Some r) p code notes lie = tt
operand-lie None p code notes lie = lie

scalar_longer : (r : Option ℕ) (h : Home) (to : ℕ) → 1 ≤ length (scalar_code r h to)
scalar_longer None h to = omega arith
scalar_longer (Some r) h to = omega arith

-- what reads a word has some code, and so has what stores one
pub read-longer : (f : Setting) (h : Home) (fixed : Option ℤ) (to : ℕ) → 1 ≤ length (read_code f h fixed to)
read-longer f h fixed to = by h.resident fixed
  where
    by : (b : Bool) (fixed : Option ℤ) → 1 ≤ length (read_by b f h fixed to)
    by false fixed = omega arith
    by true (Some z) = omega arith
    by true None = omega arith

pub store-longer : (f : Setting) (h : Home) (fixed : Option ℤ) (value : ℕ)
    → 1 ≤ length (stored_code f Public h fixed value)
store-longer f h fixed value = by h.resident fixed
  where
    among : (more : List ℕ) → 1 ≤ length (stored_among f Public h.slot more value)
    among [] = omega arith
    among (next ∷ rest) = omega arith

    by : (b : Bool) (fixed : Option ℤ) → 1 ≤ length (stored_by b f Public h fixed value)
    by false fixed = omega arith
    by true (Some z) = omega arith
    by true None = among (further_slots h)

-- An expression has some code. Of an operation whose operands have none the operation is left, and steps follow the
-- code of the left side.
pub expression-longer : (f : Setting) (e : Tree) (to : ℕ) → 1 ≤ length (expr_code f Public to e)
expression-longer f (Number z) to = omega arith
expression-longer f (Variable x) to = scalar_longer (register_for f x) (home_of f x) to
expression-longer f (Element x i) to =
    let h = home_of f x in
    let read = read_code f h (fixed_index h i) to in
    omega (
      arith,
      length-append (indexed_code f (numbering f Public h i) Public h to i (expr_code f Public to i)) read,
      read-longer f h (fixed_index h i) to,
    )
expression-longer f (Operation op a b) to =
    by (operand f a) (operand_register (operand f b) (to + 1)) (operand_part (operand f b) (expr_code f Public (to + 1) b))
    (steps_at f op b) (expression-longer f a to)
  where
    by : (q : Option ℕ) (right : ℕ) (second : List Instr) (found : Option (List Step))
        → 1 ≤ length (expr_code f Public to a)
        → 1 ≤ length (operand_part (operand_unless (is_some found) q) (expr_code f Public to a)
        ++ operation_code op to (operand_register (operand_unless (is_some found) q) to) right found second)
    by q right second None some =
        omega (
          arith,
          length-append (operand_part q (expr_code f Public to a)) (second ++ Alu op to (operand_register q to) right ∷ []),
          length-append second (Alu op to (operand_register q to) right ∷ []),
        )
    by q right second (Some steps) some =
        omega (arith, length-append (expr_code f Public to a) (code_of to steps), some)

-- so has what writes a scalar
pub write-longer : (once : Bool) (r : Option ℕ) (l : Label) (mode : Mode) (h : Home) (value : ℕ)
    → 1 ≤ length (write_code once r l mode h value)
write-longer once (Some r) l mode h value = omega arith
write-longer once None l mode h value = omega arith

-- the notes of an operation, by those of its sides
operation-lie : (f : Setting) (op : Op) (to left right p : ℕ) (first : List Instr) (before : List Note)
    (second : List Instr) (later : List Note) (found : Option (List Step)) → LieBetween p (p + length first) before
    → LieBetween (p + length first) (p + length first + length second) later
    → LieBetween p (p + length (first ++ operation_code op to left right found second))
    (before ++ operation_notes found later)
operation-lie f op to left right p first before second later None one two =
    let behind = second ++ Alu op to left right ∷ [] in
    let size : length (first ++ behind) ≡ length first + (length second + 1) = length-append first behind
    ∙ ap (λ (n : ℕ). length first + n) (length-append second (Alu op to left right ∷ [])) in
    lie_both p (p + length (first ++ behind)) before later
    (lie_wider p (p + length first) p (p + length (first ++ behind)) before (omega arith) (omega arith) one)
    (lie_wider (p + length first) (p + length first + length second) p (p + length (first ++ behind)) later
    (omega arith) (omega arith) two)
operation-lie f op to left right p first before second later (Some steps) one two =
    let size = length-append first (code_of to steps) in
    lie_both p (p + length (first ++ code_of to steps)) before []
    (lie_wider p (p + length first) p (p + length (first ++ code_of to steps)) before (omega arith) (omega arith) one)
    tt

-- the notes of an access to an array, by those of its index
pub array-lie : (f : Setting) (x : List ℕ) (i : Tree) (mask to p : ℕ)
    → LieBetween p (p + length (expr_code f Public to i)) (expr_notes f mask to p i)
    → LieBetween p
    (p + length (indexed_code f (numbering f Public (home_of f x) i) Public (home_of f x) to i
    (expr_code f Public to i)) + 1)
    (expr_notes f mask to p (Element x i))
array-lie f x i mask to p lie =
    let h = home_of f x in
    let near = numbering f Public h i in
    let q = index_operand f near h i in
    access-lie f near h mask to (operand_register q to) p (fixed_index h i) (operand_part q (expr_code f Public to i))
    (operand_part q (expr_notes f mask to p i))
    (operand-lie q p (expr_code f Public to i) (expr_notes f mask to p i) lie)

-- the notes of an expression
pub expression-lies : (f : Setting) (e : Tree) (mask to p : ℕ)
    → LieBetween p (p + length (expr_code f Public to e)) (expr_notes f mask to p e)
expression-lies f (Number z) mask to p = tt
expression-lies f (Variable x) mask to p = tt
expression-lies f (Element x i) mask to p =
    let h = home_of f x in
    let code = indexed_code f (numbering f Public h i) Public h to i (expr_code f Public to i) in
    let read = read_code f h (fixed_index h i) to in
    let some = read-longer f h (fixed_index h i) to in
    let notes = expr_notes f mask to p (Element x i) in
    let size : length (code ++ read) ≡ length code + length read = length-append code read in
    lie_wider p (p + length code + 1) p (p + length (code ++ read)) notes (omega arith) (omega arith)
    (array-lie f x i mask to p (expression-lies f i mask to p))
expression-lies f (Operation op a b) mask to p =
    let q = left_operand f op a b in
    let first = operand_part q (expr_code f Public to a) in
    let second = expr_code f Public (to + 1) b in
    let mid = p + length first in
    let mask' = operand_mask q (label_of (context_of f.decls) a) mask to in
    operation-lie f op to (operand_register q to) (operand_register (operand f b) (to + 1)) p first
    (operand_part q (expr_notes f mask to p a)) (operand_part (operand f b) second)
    (operand_part (operand f b) (expr_notes f mask' (to + 1) mid b)) (steps_at f op b)
    (operand-lie q p (expr_code f Public to a) (expr_notes f mask to p a) (expression-lies f a mask to p))
    (operand-lie (operand f b) mid second (expr_notes f mask' (to + 1) mid b) (expression-lies f b mask' (to + 1) mid))
