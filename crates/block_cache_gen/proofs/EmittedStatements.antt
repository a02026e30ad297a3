-- What is appended for guards and assignments, by their parts.
use Rattle.std.proofs.Common.{Option, ◌≡◌, ℕ, ◌+◌, ◌*◌, ◌≤◌, List, ◌++◌, length, ap, ◌∙◌, subst, arith, [], ◌∷◌}
use Rattle.gr_word.specs.declared.variables.Label.{Label}
use Rattle.lt_isa.specs.Prelude.{most_instructions}
use Rattle.src_tree.specs.Prelude.{context_of, label_of, tree_weight, Tree, SetElement, Operation}
use Rattle.block_cache_gen.specs.declared.frames.CodeBuf.{CodeBuf}
use Rattle.block_cache_gen.specs.declared.frames.Mode.{Mode}
use Rattle.block_cache_gen.specs.declared.frames.Mode.TheVariants.{Public}
use Rattle.block_cache_gen.specs.Prelude.{Home, Setting, home_of, indexed_code, numbering, operand, operand_part, operand_register, expr_code, fixed_index, stored_code, expr_notes, operand_mask, base_mask, Appended, no_notes, notes_in, access_notes, EmitsOperand, EmitsAccess, EmitsSet, EmitsStraight}
use Rattle.block_cache_gen.proofs.Emitting.{silent_behind}
use Rattle.block_cache_gen.proofs.EmittedTrees.{operand_then, room_for_right}
use Rattle.gr_word.specs.declared.operations.Op.{Op}
use Rattle.lt_isa.specs.declared.instructions.Instr.TheVariants.{Alu}

-- what was made with the mask between statements
pub with_base : (f : Setting) (mode : Mode) (q : Option ℕ) (e : Tree) (to base : ℕ) (a b : CodeBuf) → base ≡ base_mask f
    → EmitsOperand f mode base to q e a b → EmitsOperand f mode (base_mask f) to q e a b
with_base f mode q e to base a b is emits = subst (λ m. EmitsOperand f mode m to q e a b) is emits

-- the pieces of an operation whose result is left in the register of a scalar
pub straight_emitted : (f : Setting) (mode : Mode) (to : ℕ) (op : Op) (l r : Tree) (q p : Option ℕ) (label : Label)
    (left right base other : ℕ) (a b c d : CodeBuf)
    → q ≡ operand f l → p ≡ operand f r → left ≡ operand_register q 0 → right ≡ operand_register p 1
    → base ≡ base_mask f → label ≡ label_of (context_of f.decls) l → other ≡ operand_mask q label base 0
    → EmitsOperand f mode base 0 q l a b → EmitsOperand f mode other 1 p r b c
    → Appended c d (Alu op to left right ∷ []) no_notes → EmitsStraight f mode to (Operation op l r) a d
straight_emitted f mode to op l r q p label left right base other a b c d is_q is_p is_left is_right is_base is_label is_other
    first second last =
    let P : Option ℕ → Option ℕ → ℕ → ℕ → ℕ → ℕ → Type 0 = λ q p ra rb m n. Appended a d
    (operand_part q (expr_code f mode 0 l) ++ (operand_part p (expr_code f mode 1 r) ++ Alu op to ra rb ∷ []))
    (λ place. notes_in mode
    (operand_part q (expr_notes f m 0 place l)
    ++ operand_part p (expr_notes f n 1 (place + length (operand_part q (expr_code f Public 0 l))) r))) in
    let own = label_of (context_of f.decls) l in
    let mask = base_mask f in
    subst (λ p. P (operand f l) p (operand_register (operand f l) 0) (operand_register p 1) mask
    (operand_mask (operand f l) own mask 0)) is_p
    (subst (λ q. P q p (operand_register q 0) (operand_register p 1) mask (operand_mask q own mask 0)) is_q
    (subst (λ m. P q p (operand_register q 0) (operand_register p 1) m (operand_mask q own m 0)) is_base
    (subst (λ k. P q p (operand_register q 0) (operand_register p 1) base (operand_mask q k base 0)) is_label
    (subst (P q p (operand_register q 0) (operand_register p 1) base) is_other
    (subst (λ rb. P q p (operand_register q 0) rb base other) is_right
    (subst (λ ra. P q p ra right base other) is_left
    (operand_then f mode base 0 q l (operand_part p (expr_code f mode 1 r) ++ Alu op to left right ∷ [])
    (λ place. operand_part p (expr_notes f other 1 place r)) a b d first
    (silent_behind b c d (operand_part p (expr_code f mode 1 r)) (Alu op to left right ∷ [])
    (λ place. notes_in mode (operand_part p (expr_notes f other 1 place r))) second last))))))))

-- the pieces of an assignment to an element are its code
pub element_set : (f : Setting) (mode : Mode) (x y : List ℕ) (i e : Tree) (h : Home) (label : Label) (q : Option ℕ)
    (value other : ℕ) (a b c last : CodeBuf)
    → y ≡ x → h ≡ home_of f y → label ≡ label_of (context_of f.decls) e
    → q ≡ operand f e → value ≡ operand_register q 0 → other ≡ operand_mask q label (base_mask f) 0
    → EmitsOperand f mode (base_mask f) 0 q e a b → EmitsAccess f mode h other 1 i b c
    → Appended c last (stored_code f mode h (fixed_index h i) value) no_notes
    → EmitsSet f mode (SetElement x i e) a last
element_set f mode x y i e h label q value other a b c last same home is_label is_q is_value is_other emits access store =
    let index = expr_code f mode 1 i in
    let own = label_of (context_of f.decls) e in
    let P : Home → Option ℕ → ℕ → ℕ → Type 0 = λ k p v m. Appended a last
    (operand_part p (expr_code f mode 0 e)
    ++ (indexed_code f (numbering f mode k i) mode k 1 i index ++ stored_code f mode k (fixed_index k i) v))
    (λ place. notes_in mode
    (operand_part p (expr_notes f (base_mask f) 0 place e)
    ++ access_notes f k m 1 i (place + length (operand_part p (expr_code f Public 0 e))))) in
    subst (λ p. P (home_of f x) p (operand_register p 0) (operand_mask p own (base_mask f) 0)) is_q
    (subst (λ v. P (home_of f x) q v (operand_mask q own (base_mask f) 0)) is_value
    (subst (P (home_of f x) q value) (is_other ∙ ap (λ k. operand_mask q k (base_mask f) 0) is_label)
    (subst (λ k. P k q value other) (home ∙ ap (home_of f) same)
    (operand_then f mode (base_mask f) 0 q e
    (indexed_code f (numbering f mode h i) mode h 1 i index ++ stored_code f mode h (fixed_index h i) value)
    (λ place. access_notes f h other 1 i place) a b last emits
    (silent_behind b c last (indexed_code f (numbering f mode h i) mode h 1 i index)
    (stored_code f mode h (fixed_index h i) value)
    (λ place. notes_in mode (access_notes f h other 1 i place)) access store)))))

-- after the value there is room for the access
pub room_for_access : (f : Setting) (mode : Mode) (q : Option ℕ) (i e : Tree) (a b : CodeBuf)
    → length a.code.items + 120 * (1 + (tree_weight i + tree_weight e)) ≤ most_instructions
    → EmitsOperand f mode (base_mask f) 0 q e a b → length b.code.items + 120 * (1 + tree_weight i) ≤ most_instructions
room_for_access f mode q i e a b room x =
    room_for_right f mode (base_mask f) 0 q e (1 + tree_weight i) a b (omega arith) x
