-- What is appended for expressions, by their parts.
use Rattle.std.proofs.Common.{◌≡◌, ℕ, ◌+◌, ◌-◌, ◌*◌, ◌<◌, ◌≤◌, ◌^◌, Bool, true, false, append_assoc, List, [], ◌∷◌, ◌++◌, length, Option, Some, None, ℤ, pos, ◌+ℤ◌, refl, sym, ap, ◌∙◌, subst, arith, length-append, add_assoc}
use Rattle.std.specs.Prelude.{if◌then◌else◌}
use Rattle.gr_word.specs.declared.operations.Op.{Op}
use Rattle.gr_word.specs.declared.variables.Label.{Label}
use Rattle.lt_isa.specs.Prelude.{most_instructions}
use Rattle.lt_isa.specs.declared.instructions.Instr.{Instr}
use Rattle.gr_word.specs.declared.operations.Op.TheVariants.{Add, Remu, Shr}
use Rattle.gr_word.specs.declared.operations.Cmp.TheVariants.{Lt}
use Rattle.lt_isa.specs.declared.instructions.Instr.TheVariants.{Li, Alu, Br}
use Rattle.lt_isa.specs.declared.symbols.Note.{Note}
use Rattle.src_tree.specs.Prelude.{context_of, label_of, height_of, tree_weight, Tree, Element, Operation}
use Rattle.src_tree.proofs.TreeHeights.{height-some}
use Rattle.block_cache_gen.specs.declared.frames.CodeBuf.{CodeBuf}
use Rattle.block_cache_gen.specs.declared.frames.Mode.{Mode}
use Rattle.block_cache_gen.specs.declared.indexes.Numbering.{Numbering}
use Rattle.block_cache_gen.specs.declared.indexes.Numbering.TheVariants.{Reduced}
use Rattle.block_cache_gen.specs.declared.frames.Mode.TheVariants.{Public, Real, Mirrored}
use Rattle.block_cache_gen.specs.Prelude.{Home, Setting, home_of, access_by, applied_code, found_by, is_cached, is_within_home, numbering, numbering_by, compared_code, least_word, numbered_code, numbered_register, offset_code, shift_code, fixed_code, load_code, skips, access_code, indexed_code, index_operand, fixed_index, operand, operand_part, operand_register, left_operand, operation_code, steps_at, expr_code, read_code, expr_notes, operand_mask, operation_notes, index_notes, compared_notes, loaded_notes, load_notes, access_mask, unmarked, note_of, Appended, no_notes, notes_in, access_notes, EmitsOperation, EmitsOperand, EmitsExpr, EmitsAccess, EmitsFixed, EmitsFound, EmitsLoad, room_of}
use Rattle.block_cache_gen.proofs.Emitting.{appended_then, appended_as, appended_length, silent_behind, silent_before, notes_both, notes_by}
use Rattle.block_cache_gen.proofs.HeldOperands.{operand-short}
use Rattle.block_cache_gen.proofs.Sizes.{expr_code_short, offset_length}

-- an access, by what is known of its index
abbrev pub AccessBy : Setting → Mode → (way : Numbering) → Home → (mask to : ℕ) → Tree → Option ℤ → CodeBuf → CodeBuf
    → Type 0
AccessBy f mode way h mask to i fixed a c =
    let q = index_operand f way h i in
    let from = operand_register q to in
    Appended a c (access_code way f mode h to from fixed (operand_part q (expr_code f mode to i)))
    (λ place. notes_in mode
    (index_notes fixed (operand_part q (expr_notes f mask to place i))
    ++ load_notes way fixed f h mask to
    (place + length
    (access_code way f Public h to from fixed (operand_part q (expr_code f Public to i))))))

-- secret code has no notes, so that it is no matter what these are
notes_near : (mode : Mode) (f : Setting) (h : Home) (i : Tree) (notes : Numbering → List Note)
    → notes_in mode (notes (numbering f mode h i)) ≡ notes_in mode (notes (numbering f Public h i))
notes_near Public f h i notes = refl
notes_near Real f h i notes = refl
notes_near Mirrored f h i notes = refl

secret_silent : (within : Bool) (f : Setting) (mask to place : ℕ)
    → compared_notes (numbering_by within false) None f mask to place ≡ []
secret_silent true f mask to place = refl
secret_silent false f mask to place = refl

-- public code has the note of a comparison, and secret code has no comparison
pub compared_in : (mode : Mode) (f : Setting) (h : Home) (i : Tree) (mask to place : ℕ)
    → compared_notes (numbering f mode h i) None f mask to place
    ≡ notes_in mode (compared_notes (numbering f mode h i) None f mask to place)
compared_in Public f h i mask to place = refl
compared_in Real f h i mask to place = secret_silent (is_within_home f h i) f mask to place
compared_in Mirrored f h i mask to place = secret_silent (is_within_home f h i) f mask to place

-- so an access is appended with the notes of public code
access_as : (f : Setting) (mode : Mode) (h : Home) (mask to : ℕ) (i : Tree) (a c : CodeBuf)
    → AccessBy f mode (numbering f mode h i) h mask to i (fixed_index h i) a c → EmitsAccess f mode h mask to i a c
access_as f mode h mask to i a c x =
    let code : List Instr = indexed_code f (numbering f mode h i) mode h to i (expr_code f mode to i) in
    let notes : ℕ → Numbering → List Note = λ place way.
    index_notes (fixed_index h i) (operand_part (index_operand f way h i) (expr_notes f mask to place i))
    ++ load_notes way (fixed_index h i) f h mask to
    (place + length (indexed_code f way Public h to i (expr_code f Public to i))) in
    appended_as a c code code (λ place. notes_in mode (notes place (numbering f mode h i)))
    (λ place. notes_in mode (notes place (numbering f Public h i))) refl (λ place. notes_near mode f h i (notes place)) x

further : (place : ℕ) (xs ys : List Instr) → place + length xs + length ys ≡ place + length (xs ++ ys)
further place xs ys = add_assoc place (length xs) (length ys) ∙ ap (λ n. place + n) (sym (length-append xs ys))

-- the pieces of an access by a number that loads its block
pub fixed_loaded : (f : Setting) (mode : Mode) (h : Home) (mask to : ℕ) (z : ℤ) (a b c : CodeBuf)
    → h.resident ≡ false → Appended a b (fixed_code f.profile.block_log h to z) no_notes
    → EmitsLoad f mode h mask to b c → EmitsFixed f mode h mask to z a c
fixed_loaded f mode h mask to z a b c turn x y =
    let P : Bool → Type 0 = λ r. Appended a c (access_by r Reduced f mode h to to (Some z) [])
    (λ place. notes_in mode
    (loaded_notes r Reduced (Some z) f h mask to (place + length (access_by r Reduced f Public h to to (Some z) [])))) in
    subst P (sym turn)
    (appended_as a c (fixed_code f.profile.block_log h to z ++ load_code (skips mode h) h to)
    (fixed_code f.profile.block_log h to z ++ load_code (skips mode h) h to)
    (λ place. notes_in mode
    (loaded_notes false Reduced None f h mask to
    (place + length (fixed_code f.profile.block_log h to z) + length (load_code (skips Public h) h to))))
    (λ place. notes_in mode
    (loaded_notes false Reduced (Some z) f h mask to
    (place + length (fixed_code f.profile.block_log h to z ++ load_code (skips Public h) h to))))
    refl
    (λ place. ap (λ n. notes_in mode (loaded_notes false Reduced None f h mask to n))
    (further place (fixed_code f.profile.block_log h to z) (load_code (skips Public h) h to)))
    (silent_before a b c (fixed_code f.profile.block_log h to z) (load_code (skips mode h) h to)
    (λ place. notes_in mode
    (loaded_notes false Reduced None f h mask to (place + length (load_code (skips Public h) h to)))) x y))

-- the pieces of an access by a number are its code
pub access_fixed : (f : Setting) (mode : Mode) (h : Home) (mask to : ℕ) (i : Tree) (z : ℤ) (a c : CodeBuf)
    → fixed_index h i ≡ Some z → EmitsFixed f mode h mask to z a c → EmitsAccess f mode h mask to i a c
access_fixed f mode h mask to i z a c is x =
    let P : Option ℤ → Type 0 = λ fixed. AccessBy f mode (numbering f mode h i) h mask to i fixed a c in
    access_as f mode h mask to i a c (subst P (sym is) (by h.resident x))
  where
    q : Option ℕ
    q = index_operand f (numbering f mode h i) h i

    by : (r : Bool)
        → Appended a c (access_by r Reduced f mode h to to (Some z) [])
        (λ place. notes_in mode
        (loaded_notes r Reduced (Some z) f h mask to
        (place + length (access_by r Reduced f Public h to to (Some z) []))))
        → Appended a c
        (access_by r (numbering f mode h i) f mode h to (operand_register q to) (Some z)
        (operand_part q (expr_code f mode to i)))
        (λ place. notes_in mode
        ([] ++ loaded_notes r (numbering f mode h i) (Some z) f h mask to
        (place + length
        (access_by r (numbering f mode h i) f Public h to (operand_register q to) (Some z)
        (operand_part q (expr_code f Public to i))))))
    by true y = y
    by false y = y

-- an operand, and what follows it
pub operand_then : (f : Setting) (mode : Mode) (mask to : ℕ) (q : Option ℕ) (l : Tree) (code : List Instr)
    (second : ℕ → List Note) (a b c : CodeBuf) → EmitsOperand f mode mask to q l a b
    → Appended b c code (λ place. notes_in mode (second place))
    → Appended a c (operand_part q (expr_code f mode to l) ++ code)
    (λ place. notes_in mode
    (operand_part q (expr_notes f mask to place l) ++ second (place + length (operand_part q (expr_code f Public to l)))))
operand_then f mode mask to q l code second a b c x y =
    let first : Mode → List Instr = λ m. operand_part q (expr_code f m to l) in
    let notes : ℕ → List Note = λ place. operand_part q (expr_notes f mask to place l) in
    appended_as a c (first mode ++ code) (first mode ++ code)
    (λ place. notes_in mode (notes place) ++ notes_in mode (second (place + length (first mode))))
    (λ place. notes_in mode (notes place ++ second (place + length (first Public))))
    refl
    (λ place. ap (λ ns. notes_in mode (notes place) ++ ns)
    (notes_by mode first (λ xs. second (place + length xs)))
    ∙ notes_both mode (notes place) (second (place + length (first Public))))
    (appended_then a b c (first mode) code (λ place. notes_in mode (notes place))
    (λ place. notes_in mode (second place)) x y)

-- the pieces of an access by any other index are its code
pub access_worked : (f : Setting) (mode : Mode) (h : Home) (mask to : ℕ) (i : Tree) (a b c : CodeBuf)
    → fixed_index h i ≡ None → EmitsOperand f mode mask to (index_operand f (numbering f mode h i) h i) i a b
    → EmitsFound f mode h mask to i b c → EmitsAccess f mode h mask to i a c
access_worked f mode h mask to i a b c is x y =
    let P : Option ℤ → Type 0 = λ fixed. AccessBy f mode (numbering f mode h i) h mask to i fixed a c in
    access_as f mode h mask to i a c
    (subst P (sym is) (by h.resident (numbering f mode h i) (index_operand f (numbering f mode h i) h i) x y))
  where
    by : (r : Bool) (way : Numbering) (q : Option ℕ) → EmitsOperand f mode mask to q i a b
        → Appended b c (found_by r way f mode h to (operand_register q to))
        (λ place. notes_in mode
        (loaded_notes r way None f h mask to
        (place + length (found_by r way f Public h to (operand_register q to)))))
        → Appended a c
        (access_by r way f mode h to (operand_register q to) None
        (operand_part q (expr_code f mode to i)))
        (λ place. notes_in mode
        (operand_part q (expr_notes f mask to place i)
        ++ loaded_notes r way None f h mask to
        (place + length
        (access_by r way f Public h to (operand_register q to) None
        (operand_part q (expr_code f Public to i))))))
    by true way q x z =
        let found : List Instr = found_by true way f mode h to (operand_register q to) in
        let index : Mode → List Instr = λ m. operand_part q (expr_code f m to i) in
        let first : ℕ → List Note = λ place. operand_part q (expr_notes f mask to place i) in
        let notes : ℕ → List Note = loaded_notes true way None f h mask to in
        appended_as a c (index mode ++ found) (index mode ++ found)
        (λ place. notes_in mode (first place ++ notes (place + length (index Public) + length found)))
        (λ place. notes_in mode (first place ++ notes (place + length (index Public ++ found))))
        refl
        (λ place. ap (λ n. notes_in mode (first place ++ notes n)) (further place (index Public) found))
        (operand_then f mode mask to q i found (λ place. notes (place + length found)) a b c x z)
    by false way q x z =
        let from = operand_register q to in
        let located : List Instr = numbered_code way f h to from ++ shift_code f h to in
        let skipped : List Instr = load_code (skips Public h) h to in
        let index : Mode → List Instr = λ m. operand_part q (expr_code f m to i) in
        let first : ℕ → List Note = λ place. operand_part q (expr_notes f mask to place i) in
        let notes : ℕ → List Note = loaded_notes false way None f h mask to in
        appended_as a c (index mode ++ found_by false way f mode h to from)
        (index mode ++ located ++ load_code (skips mode h) h to)
        (λ place. notes_in mode (first place ++ notes (place + length (index Public) + length (located ++ skipped))))
        (λ place. notes_in mode (first place ++ notes (place + length (index Public ++ located ++ skipped))))
        (sym (append_assoc (index mode) located (load_code (skips mode h) h to)))
        (λ place. ap (λ n. notes_in mode (first place ++ notes n))
        (further place (index Public) (located ++ skipped)
        ∙ ap (λ l. place + length l) (sym (append_assoc (index Public) located skipped))))
        (operand_then f mode mask to q i (found_by false way f mode h to from)
        (λ place. notes (place + length (located ++ skipped))) a b c x z)

-- a comparison and its note
pub compared_noted : (f : Setting) (mask to found : ℕ) (h : Home) (bound size : ℤ) (a b c : CodeBuf)
    → found ≡ unmarked mask to → bound ≡ least_word +ℤ pos h.length → size ≡ pos h.length
    → Appended a b
    (Li (to + 1) least_word
    ∷ Alu Add (to + 1) (to + 1) to
    ∷ Li (to + 2) bound
    ∷ Br Lt (to + 1) (to + 2) (pos 3)
    ∷ Li (to + 1) size
    ∷ Alu Remu to to (to + 1)
    ∷ []) no_notes
    → Appended b c [] (λ place. note_of f found place ∷ [])
    → Appended a c (compared_code h to) (λ place. note_of f (unmarked mask to) (place + 6) ∷ [])
compared_noted f mask to found h bound size a b c is is_bound is_size x y =
    let code : ℤ → ℤ → List Instr = λ v n.
    Li (to + 1) least_word
    ∷ Alu Add (to + 1) (to + 1) to
    ∷ Li (to + 2) v
    ∷ Br Lt (to + 1) (to + 2) (pos 3)
    ∷ Li (to + 1) n
    ∷ Alu Remu to to (to + 1)
    ∷ [] in
    appended_as a c (code bound size ++ []) (compared_code h to)
    (λ place. note_of f found (place + 6) ∷ [])
    (λ place. note_of f (unmarked mask to) (place + 6) ∷ []) (λ k. code (is_bound k) (is_size k))
    (λ place. ap (λ m. note_of f m (place + 6) ∷ []) is)
    (silent_before a b c (code bound size) [] (λ place. note_of f found place ∷ []) x y)

-- the number of a block
pub shift_appended : (f : Setting) (h : Home) (to : ℕ) (log block : ℤ) (a b c : CodeBuf) → log ≡ pos f.profile.block_log
    → block ≡ pos h.block → Appended a b (applied_code f Shr (to + 1) to (to + 1) log) no_notes
    → Appended b c (applied_code f Add (to + 1) (to + 1) (to + 2) block) no_notes
    → Appended a c (shift_code f h to) no_notes
shift_appended f h to log block a b c is_log is_block x y =
    let shift : ℤ → List Instr = applied_code f Shr (to + 1) to (to + 1) in
    let sum : ℤ → List Instr = applied_code f Add (to + 1) (to + 1) (to + 2) in
    appended_as a c (shift log ++ sum block) (shift_code f h to) no_notes no_notes
    (λ k. shift (is_log k) ++ sum (is_block k)) (λ place. refl)
    (silent_behind a b c (shift log) (sum block) no_notes x y)

-- what follows the code of the index of a resident array
pub found_placed : (f : Setting) (mode : Mode) (h : Home) (mask to from : ℕ) (i : Tree) (b c : CodeBuf)
    → from ≡ operand_register (index_operand f (numbering f mode h i) h i) to → h.resident ≡ true
    → Appended b c (numbered_code (numbering f mode h i) f h to from
    ++ offset_code f h to (numbered_register (numbering f mode h i) to from))
    (λ place. compared_notes (numbering f mode h i) None f mask to
    (place + length (numbered_code (numbering f mode h i) f h to from)))
    → EmitsFound f mode h mask to i b c
found_placed f mode h mask to from i b c same is x =
    let way = numbering f mode h i in
    let number : List Instr = numbered_code way f h to from in
    let own = numbered_register way to from in
    let offset : List Instr = offset_code f h to own in
    let shorter : List Instr = offset_code f h to to in
    let R : ℕ → Type 0 = λ own. Appended b c (found_by h.resident way f mode h to own)
    (λ place. notes_in mode
    (loaded_notes h.resident way None f h mask to
    (place + length (found_by h.resident way f Public h to own)))) in
    let P : Bool → Type 0 = λ r. Appended b c (found_by r way f mode h to from)
    (λ place. notes_in mode
    (loaded_notes r way None f h mask to (place + length (found_by r way f Public h to from)))) in
    subst R same
    (subst P (sym is)
    (appended_as b c (number ++ offset) (number ++ offset)
    (λ place. compared_notes way None f mask to (place + length number))
    (λ place. notes_in mode (compared_notes way None f mask to (place + length (number ++ offset) - length shorter)))
    refl
    (λ place.
    ap (compared_notes way None f mask to) (before place number offset shorter (offset_length f h to own))
    ∙ compared_in mode f h i mask to (place + length (number ++ offset) - length shorter))
    x))
  where
    before : (place : ℕ) (xs ys zs : List Instr) → length ys ≡ length zs
        → place + length xs ≡ place + length (xs ++ ys) - length zs
    before place xs ys zs same = let size = length-append xs ys in omega arith

-- what follows the code of any other index
pub found_loaded : (f : Setting) (mode : Mode) (h : Home) (mask to from : ℕ) (i : Tree) (b c d : CodeBuf)
    → from ≡ operand_register (index_operand f (numbering f mode h i) h i) to → h.resident ≡ false
    → Appended b c (numbered_code (numbering f mode h i) f h to from ++ shift_code f h to)
    (λ place. compared_notes (numbering f mode h i) None f mask to
    (place + length (numbered_code (numbering f mode h i) f h to from)))
    → EmitsLoad f mode h mask to c d
    → EmitsFound f mode h mask to i b d
found_loaded f mode h mask to from i b c d same turn x y =
    let way = numbering f mode h i in
    let number : List Instr = numbered_code way f h to from in
    let located : List Instr = number ++ shift_code f h to in
    let skipped : List Instr = load_code (is_cached h) h to in
    let load : ℕ → List Note = λ behind. if is_cached h then note_of f (access_mask mask to) behind ∷ [] else [] in
    let R : ℕ → Type 0 = λ own. Appended b d (found_by h.resident way f mode h to own)
    (λ place. notes_in mode
    (loaded_notes h.resident way None f h mask to (place + length (found_by h.resident way f Public h to own)))) in
    let P : Bool → Type 0 = λ r. Appended b d (found_by r way f mode h to from)
    (λ place. notes_in mode (loaded_notes r way None f h mask to
    (place + length (found_by r way f Public h to from)))) in
    subst R same
    (subst P (sym turn)
    (appended_as b d (located ++ load_code (skips mode h) h to) (located ++ load_code (skips mode h) h to)
    (λ place. compared_notes way None f mask to (place + length number)
    ++ notes_in mode (load (place + length located + length skipped)))
    (λ place. notes_in mode
    (compared_notes way None f mask to (place + length (located ++ skipped) - length (shift_code f h to ++ skipped))
    ++ load (place + length (located ++ skipped))))
    refl
    (λ place.
    (λ k. compared_in mode f h i mask to (before place number (shift_code f h to) skipped k) k
    ++ notes_in mode (load (further place located skipped k)))
    ∙ notes_both mode
    (compared_notes way None f mask to (place + length (located ++ skipped) - length (shift_code f h to ++ skipped)))
    (load (place + length (located ++ skipped))))
    (appended_then b c d located (load_code (skips mode h) h to)
    (λ place. compared_notes way None f mask to (place + length number))
    (λ place. notes_in mode (load (place + length skipped))) x y)))
  where
    before : (place : ℕ) (xs ys zs : List Instr)
        → place + length xs ≡ place + length (xs ++ ys ++ zs) - length (ys ++ zs)
    before place xs ys zs =
        omega (arith, length-append (xs ++ ys) zs, length-append xs ys, length-append ys zs)

pub element_emitted : (f : Setting) (mode : Mode) (mask to : ℕ) (x : List ℕ) (i : Tree) (h : Home) (a b c : CodeBuf)
    → h ≡ home_of f x → EmitsAccess f mode h mask to i a b → Appended b c (read_code f h (fixed_index h i) to) no_notes
    → EmitsExpr f mode mask to (Element x i) a c
element_emitted f mode mask to x i h a b c is y z =
    let P : Home → Type 0 = λ k. Appended a c
    (indexed_code f (numbering f mode k i) mode k to i (expr_code f mode to i) ++ read_code f k (fixed_index k i) to)
    (λ place. notes_in mode (access_notes f k mask to i place)) in
    subst P is
    (silent_behind a b c (indexed_code f (numbering f mode h i) mode h to i (expr_code f mode to i))
    (read_code f h (fixed_index h i) to) (λ place. notes_in mode (access_notes f h mask to i place)) y z)

pub operation_emitted : (f : Setting) (mode : Mode) (mask to : ℕ) (op : Op) (l r : Tree) (q : Option ℕ)
    (left other : ℕ) (a b c : CodeBuf)
    → q ≡ left_operand f op l r → left ≡ operand_register q to
    → other ≡ operand_mask q (label_of (context_of f.decls) l) mask to
    → EmitsOperand f mode mask to q l a b → EmitsOperation f mode other to left op r b c
    → EmitsExpr f mode mask to (Operation op l r) a c
operation_emitted f mode mask to op l r q left other a b c is_q is_left is x y =
    let found = steps_at f op r in
    let label = label_of (context_of f.decls) l in
    let rb = operand_register (operand f r) (to + 1) in
    let right = operand_part (operand f r) (expr_code f mode (to + 1) r) in
    let P : Option ℕ → ℕ → ℕ → Type 0 = λ p ra m. Appended a c
    (operand_part p (expr_code f mode to l) ++ operation_code op to ra rb found right)
    (λ place. notes_in mode
    (operand_part p (expr_notes f mask to place l)
    ++ operation_notes found
    (operand_part (operand f r)
    (expr_notes f m (to + 1) (place + length (operand_part p (expr_code f Public to l))) r)))) in
    subst (λ p. P p (operand_register p to) (operand_mask p label mask to)) is_q
    (subst (λ ra. P q ra (operand_mask q label mask to)) is_left
    (subst (P q left) is
    (operand_then f mode mask to q l (operation_code op to left rb found right)
    (λ place. operation_notes found (operand_part (operand f r) (expr_notes f other (to + 1) place r))) a b c x y)))

-- after the left side there is room for the right one
pub room_for_right : (f : Setting) (mode : Mode) (mask to : ℕ) (q : Option ℕ) (l : Tree) (right : ℕ) (a b : CodeBuf)
    → length a.code.items + 120 * (tree_weight l + right) ≤ most_instructions → EmitsOperand f mode mask to q l a b
    → length b.code.items + 120 * right ≤ most_instructions
room_for_right f mode mask to q l right a b room x =
    let one = appended_length a b (operand_part q (expr_code f mode to l)) _ x in
    let short = operand-short q (expr_code f mode to l) in
    let most = expr_code_short f mode to l in
    omega arith

-- and after an index for the rest of its access
pub room_for_found : (f : Setting) (mode : Mode) (mask to : ℕ) (q : Option ℕ) (i : Tree) (a b : CodeBuf)
    → length a.code.items + 120 * (1 + tree_weight i) ≤ most_instructions → EmitsOperand f mode mask to q i a b
    → length b.code.items + 16 < 2 ^ 32
room_for_found f mode mask to q i a b room x =
    let rest = room_for_right f mode mask to q i 1 a b (omega arith) x in omega arith

-- the same of an expression that is such a tree
pub element_appended : (f : Setting) (mode : Mode) (mask to : ℕ) (e : Tree) (x y : List ℕ) (i j k : Tree) (h : Home)
    (a b c : CodeBuf) → e ≡ Element x i → y ≡ x → j ≡ i → k ≡ i → h ≡ home_of f y → EmitsAccess f mode h mask to j a b
    → Appended b c (read_code f h (fixed_index h k) to) no_notes → EmitsExpr f mode mask to e a c
element_appended f mode mask to e x y i j k h a b c is same_name same_index same_again home access read =
    let P : Tree → Type 0 = λ t. EmitsExpr f mode mask to t a c in
    let Q : Tree → Type 0 = λ t. EmitsAccess f mode h mask to t a b in
    let R : Tree → Type 0 = λ t. Appended b c (read_code f h (fixed_index h t) to) no_notes in
    subst P (sym is)
    (element_emitted f mode mask to x i h a b c (home ∙ ap (home_of f) same_name) (subst Q same_index access)
    (subst R same_again read))

-- steps have the registers that they use
pub steps-low : (f : Setting) (to : ℕ) (e : Tree) (op : Op) (l r : Tree) → e ≡ Operation op l r
    → to + height_of e ≤ room_of f
    → to + 2 < 28
steps-low f to e op l r is high = let h = ap height_of is in omega (arith, height-some r)

-- the pieces of an operation are its code
pub operation_appended : (f : Setting) (mode : Mode) (mask to : ℕ) (e : Tree) (op : Op) (l r one left again right : Tree)
    (label : Label) (q : Option ℕ) (register other : ℕ) (a b c : CodeBuf)
    → e ≡ Operation op l r → one ≡ l → left ≡ l → again ≡ l → right ≡ r → q ≡ left_operand f op one right
    → label ≡ label_of (context_of f.decls) again → register ≡ operand_register q to
    → other ≡ operand_mask q label mask to → EmitsOperand f mode mask to q left a b
    → EmitsOperation f mode other to register op right b c
    → EmitsExpr f mode mask to e a c
operation_appended f mode mask to e op l r one left again right label q register other a b c is is_one is_left is_again
    is_right is_q is_label is_register is_other x y =
    let P : Tree → Type 0 = λ t. EmitsExpr f mode mask to t a c in
    let Q : Tree → Type 0 = λ t. EmitsOperand f mode mask to q t a b in
    let R : Tree → Type 0 = λ t. EmitsOperation f mode other to register op t b c in
    subst P (sym is)
    (operation_emitted f mode mask to op l r q register other a b c
    (is_q ∙ ap (λ t. left_operand f op t right) is_one ∙ ap (left_operand f op l) is_right) is_register
    (is_other ∙ ap (λ k. operand_mask q k mask to) (is_label ∙ ap (label_of (context_of f.decls)) is_again))
    (subst Q is_left x) (subst R is_right y))

-- after the left side of an operation there is room for the right one
pub room_behind_left : (f : Setting) (mode : Mode) (mask to : ℕ) (q : Option ℕ) (e : Tree) (op : Op)
    (l r left right : Tree) (a b : CodeBuf) → length a.code.items + 120 * tree_weight e ≤ most_instructions
    → e ≡ Operation op l r → left ≡ l → right ≡ r → EmitsOperand f mode mask to q left a b
    → length b.code.items + 120 * (1 + tree_weight right) ≤ most_instructions
room_behind_left f mode mask to q e op l r left right a b room is is_left is_right x =
    let w = ap tree_weight is in
    let v = ap tree_weight is_left in
    let u = ap tree_weight is_right in
    room_for_right f mode mask to q left (1 + tree_weight right) a b (omega arith) x
