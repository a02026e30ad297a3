-- What is appended for choices and blocks, by their parts.
use Rattle.std.proofs.Common.{◌≡◌, ℕ, zero, suc, ◌+◌, ◌-◌, ◌<◌, ◌≤◌, Bool, true, false, ◌==◌, pos, List, [], ◌∷◌, ◌++◌, length, set, get_or, drop, refl, sym, ap, ◌∙◌, subst, arith, append_assoc, append-nil, add-one, drop-cons}
use Rattle.std.proofs.lemmas.Bool.{true≢false}
use Rattle.std.proofs.lemmas.List.{length-append, length-set, set-append_left, drop_all}
use Rattle.std.proofs.Math.Seq.{set-append_seam}
use Rattle.gr_word.specs.declared.operations.Cmp.{Cmp}
use Rattle.gr_word.specs.declared.variables.Label.{Label}
use Rattle.lt_isa.specs.declared.symbols.Note.{Note}
use Rattle.lt_isa.specs.declared.instructions.Instr.{Instr}
use Rattle.lt_isa.specs.declared.instructions.Instr.TheVariants.{Jmp, Br}
use Rattle.src_tree.specs.declared.trees.Stmt.{Stmt}
use Rattle.src_tree.specs.Prelude.{Test, Statement, SetVariable, SetElement, Choice, Loop, Block, Nothing, Then, statement_of, block_of_all, context_of, label_of_test}
use Rattle.block_cache_gen.specs.declared.frames.CodeBuf.{CodeBuf}
use Rattle.block_cache_gen.specs.declared.frames.Mode.TheVariants.{Public}
use Rattle.block_cache_gen.specs.Prelude.{Setting, guard_code, guard_notes, Appended, no_notes, EmitsGuard}
use Rattle.block_cache_gen.proofs.Emitting.{appended_length}
use Rattle.block_cache_gen.proofs.SomeCode.{guard_code-some, set_code-some}
use Rattle.branch_padding.specs.Prelude.{region_code, first_of, second_of, after}
use Rattle.code_gen.specs.Prelude.{opposite, second_code, places_over, choice_code, choice_by, statement_code, block_code, block_notes, block_ends_noted, head_note, head_unless, choice_notes, notes_by, padding_of, EmitsStatement, EmitsBlock, ClosesChoice, before_second, second_notes}
use Rattle.code_gen.proofs.EmittedParts.{guard-length}
use Rattle.gr_word.specs.declared.variables.Label.TheVariants as label

-- some code followed by more
pub longer : (xs ys : List Instr) → 1 ≤ length xs → 1 ≤ length (xs ++ ys)
longer xs ys some = omega (arith, length-append xs ys)

-- no statement is made into no code
statement_code-some : (f : Setting) (s : Statement) → 1 ≤ length (statement_code f padding_of s)
statement_code-some f (SetVariable x e) = set_code-some f Public (SetVariable x e) tt
statement_code-some f (SetElement x i e) = set_code-some f Public (SetElement x i e) tt
statement_code-some f (Choice t a b) = by (label_of_test (context_of f.decls) t)
  where
    by : (l : Label)
        → 1 ≤ length (choice_by l (choice_code (guard_code f Public 0 t) t.cmp (block_code f padding_of a)
        (block_code f padding_of b)) (padding_of f t a b))
    by label.Public =
        longer (guard_code f Public 0 t)
        (Br (opposite t.cmp) 0 1 (pos (places_over (block_code f padding_of a) (block_code f padding_of b)))
        ∷ (block_code f padding_of a ++ second_code (block_code f padding_of b)))
        (guard_code-some f Public 0 t)
    by label.Secret =
        longer (guard_code f Public 0 t)
        (region_code t.cmp (first_of f Public a b) (second_of f Public a b))
        (guard_code-some f Public 0 t)
statement_code-some f (Loop t a) = omega arith

-- some statements make some code
pub block_code-some : (f : Setting) (statements : List Stmt) → 1 ≤ length statements
    → 1 ≤ length (block_code f padding_of (block_of_all statements))
block_code-some f [] some = absurd (omega arith)
block_code-some f (s ∷ statements) some =
    longer (statement_code f padding_of (statement_of s))
    (block_code (after f (statement_of s)) padding_of (block_of_all statements))
    (statement_code-some f (statement_of s))

-- statements from one on
pub block-more : (statements : List Stmt) (k : ℕ) (s : Stmt) → k < length statements → s ≡ get_or statements k s
    → block_of_all (drop k statements) ≡ Then (statement_of s) (block_of_all (drop (k + 1) statements))
block-more statements k s below is =
    ap block_of_all
    (drop-cons statements k s below
    ∙ ap (λ n. get_or statements k s ∷ drop n statements) (sym (add-one k))
    ∙ ap (λ x. x ∷ drop (k + 1) statements) (sym is))

-- past the last statement there is none
pub block-past : (statements : List Stmt) (k : ℕ) → length statements ≤ k → block_of_all (drop k statements) ≡ Nothing
block-past statements k past = ap block_of_all (drop_all k statements past)

-- no statements are the empty block
pub block-empty : (statements : List Stmt) → length statements ≡ 0 → block_of_all statements ≡ Nothing
block-empty [] is = refl
block-empty (s ∷ statements) is = absurd (omega (arith, is))

-- a number that isn't 0 is 1 at least
pub some-items : (n : ℕ) → (n == 0) ≡ false → 1 ≤ n
some-items zero is = absurd (true≢false is)
some-items (suc n) is = omega arith

-- the notes from the end of the first block on
choice_notes-is : (f : Setting) (place : ℕ) (first code : List Instr) (notes others : List Note) (ends : Bool × Bool)
    → choice_notes f place first code notes others ends
    ≡ notes ++ second_notes f (place + length first) code others ends
choice_notes-is f place first [] notes others ends = refl
choice_notes-is f place first (i ∷ code) notes others ends =
    let n = length first in
    let second : ◌≡◌ {A = ℕ} (place + (n + 1)) (place + n + 1) = omega arith in
    let last : ◌≡◌ {A = ℕ} (place + (n + (1 + length (i ∷ code)))) (place + n + (1 + length (i ∷ code))) =
    omega arith in
    ap (λ p. notes ++ (head_note f p ∷ (others ++ head_unless ends.1 f (place + (n + (1 + length (i ∷ code))))))) second
    ∙ ap (λ p. notes ++ (head_note f (place + n + 1) ∷ (others ++ head_unless ends.1 f p))) last

places_over-is : (first code : List Instr) → places_over first code ≡ length first + 1 + before_second code
places_over-is first [] = omega arith
places_over-is first (i ∷ code) = omega arith

second_notes-any : (f : Setting) (place : ℕ) (code : List Instr) (others : List Note) (n m e : Bool) → 1 ≤ length code
    → second_notes f place code others (n, e) ≡ second_notes f place code others (m, e)
second_notes-any f place [] others n m e some = absurd (omega arith)
second_notes-any f place (i ∷ code) others n m e some = refl

-- a choice whose second block isn't empty
pub closes-any : (f : Setting) (cmp : Cmp) (branch : ℕ) (n m : Bool) (b : Block) (d e : CodeBuf)
    → 1 ≤ length (block_code f padding_of b) → ClosesChoice f cmp branch n b d e → ClosesChoice f cmp branch m b d e
closes-any f cmp branch n m b d e some closes = record {
  code = closes.code;
  notes =
      closes.notes
      ∙ ap (λ l. d.notes.items ++ l)
      (second_notes-any f (length d.code.items) (block_code f padding_of b)
      (block_notes f padding_of (length d.code.items + 1) b) n m
      (block_ends_noted f.decls b) some);
}

-- one whose second block is empty
pub closes-bare : (f : Setting) (cmp : Cmp) (branch : ℕ) (noted : Bool) (d e g : CodeBuf)
    → e.code.items ≡ set d.code.items branch (Br (opposite cmp) 0 1 (pos (length d.code.items - branch)))
    → e.notes.items ≡ d.notes.items
    → Appended e g [] (λ place. head_unless noted f place) → ClosesChoice f cmp branch noted Nothing d g
closes-bare f cmp branch noted d e g code notes more =
    let same : ◌≡◌ {A = ℕ} (length d.code.items - branch) (length d.code.items - branch + 0) = omega arith in
    let long : length e.code.items ≡ length d.code.items =
    ap (λ l. length l) code
    ∙ length-set d.code.items branch (Br (opposite cmp) 0 1 (pos (length d.code.items - branch))) in
    record {
      code =
          more.code ∙ ap (λ l. l ++ []) code
          ∙ ap (λ n. set d.code.items branch (Br (opposite cmp) 0 1 (pos n)) ++ []) same;
      notes =
          more.notes ∙ ap (λ l. l ++ head_unless noted f (length e.code.items)) notes
          ∙ ap (λ n. d.notes.items ++ head_unless noted f n) long;
    }

-- the second block after its jump
pub closes-second : (f : Setting) (cmp : Cmp) (branch jump : ℕ) (noted : Bool) (b : Block) (old : Instr)
    (d e g h i k l : CodeBuf) → branch < length d.code.items → jump ≡ length d.code.items → noted ≡ block_ends_noted f.decls b
    → 1 ≤ length (block_code f padding_of b) → Appended d e (old ∷ []) no_notes
    → g.code.items ≡ set e.code.items branch (Br (opposite cmp) 0 1 (pos (length e.code.items - branch)))
    → g.notes.items ≡ e.notes.items → Appended g h [] (λ place. head_note f place ∷ []) → EmitsBlock f b h i
    → k.code.items ≡ set i.code.items jump (Jmp (pos (length i.code.items - jump))) → k.notes.items ≡ i.notes.items
    → Appended k l [] (λ place. head_unless noted f place) → ClosesChoice f cmp branch true b d l
closes-second f cmp branch jump noted b old d e g h i k l before is_jump is_noted some x g_code g_notes y z k_code
    k_notes w =
    by (block_code f padding_of b) refl
  where
    by : (code : List Instr) → block_code f padding_of b ≡ code → ClosesChoice f cmp branch true b d l
    by [] is = absurd (omega (arith, some, ap (λ c. length c) is))
    by (j ∷ code) is =
        let all = block_code f padding_of b in
        let D = length d.code.items in
        let E = length e.code.items in
        let e_long : E ≡ D + 1 = appended_length d e (old ∷ []) no_notes x in
        let over = Br (opposite cmp) 0 1 (pos (D - branch + 1)) in
        let g_is : g.code.items ≡ set d.code.items branch over ++ old ∷ [] =
        g_code
        ∙ ap (λ n. set e.code.items branch (Br (opposite cmp) 0 1 (pos n))) (omega (arith, e_long, before))
        ∙ ap (λ l. set l branch over) x.code
        ∙ set-append_left d.code.items (old ∷ []) branch over before in
        let i_is : i.code.items ≡ set d.code.items branch over ++ old ∷ all =
        z.code ∙ ap (λ l. l ++ all) (y.code ∙ append-nil g.code.items ∙ g_is)
        ∙ append_assoc (set d.code.items branch over) (old ∷ []) all in
        let set_long : length (set d.code.items branch over) ≡ D = length-set d.code.items branch over in
        let i_long : length i.code.items ≡ D + 1 + length all =
        omega (arith, ap (λ l. length l) i_is, length-append (set d.code.items branch over) (old ∷ all), set_long) in
        let to = Jmp (pos (length all + 1)) in
        let k_is : k.code.items ≡ set d.code.items branch over ++ to ∷ all =
        k_code
        ∙ ap (λ n. set i.code.items jump (Jmp (pos n))) (omega (arith, i_long, is_jump))
        ∙ ap (λ n. set i.code.items n to) (is_jump ∙ sym set_long)
        ∙ ap (λ l. set l (length (set d.code.items branch over)) to) i_is
        ∙ set-append_seam (set d.code.items branch over) old all to in
        let g_long : length g.code.items ≡ D + 1 =
        omega (arith, ap (λ l. length l) g_is, length-append (set d.code.items branch over) (old ∷ []), set_long) in
        let h_long : length h.code.items ≡ D + 1 =
        omega (arith, appended_length g h [] (λ place. head_note f place ∷ []) y, g_long) in
        let k_long : length k.code.items ≡ D + (1 + length all) =
        omega (arith, ap (λ l. length l) k_is, length-append (set d.code.items branch over) (to ∷ all), set_long) in
        let notes = block_notes f padding_of (D + 1) b in
        let ends = block_ends_noted f.decls b in
        let h_notes : h.notes.items ≡ d.notes.items ++ head_note f (D + 1) ∷ [] =
        y.notes
        ∙ ap (λ l. l ++ head_note f (length g.code.items) ∷ []) (g_notes ∙ x.notes ∙ append-nil d.notes.items)
        ∙ ap (λ n. d.notes.items ++ head_note f n ∷ []) g_long in
        let l_notes : l.notes.items
        ≡ d.notes.items ++ (head_note f (D + 1) ∷ (notes ++ head_unless ends f (D + (1 + length all)))) =
        w.notes
        ∙ ap (λ l. l ++ head_unless noted f (length k.code.items))
        (k_notes ∙ z.notes ∙ ap (λ n. h.notes.items ++ block_notes f padding_of n b) h_long
        ∙ ap (λ l. l ++ notes) h_notes)
        ∙ ap (λ n. (d.notes.items ++ head_note f (D + 1) ∷ [] ++ notes) ++ head_unless noted f n) k_long
        ∙ ap (λ n. (d.notes.items ++ head_note f (D + 1) ∷ [] ++ notes) ++ head_unless n f (D + (1 + length all)))
        is_noted
        ∙ append_assoc (d.notes.items ++ head_note f (D + 1) ∷ []) notes (head_unless ends f (D + (1 + length all)))
        ∙ append_assoc d.notes.items (head_note f (D + 1) ∷ []) (notes ++ head_unless ends f (D + (1 + length all))) in
        let second : second_code all ≡ to ∷ all = ap second_code is ∙ ap (λ c. Jmp (pos (length c + 1)) ∷ c) (sym is) in
        let one : before_second all ≡ 1 = ap before_second is in
        let noted_second : second_notes f D all notes (true, ends)
        ≡ head_note f (D + 1) ∷ (notes ++ head_unless ends f (D + (1 + length all))) =
        ap (λ c. second_notes f D c notes (true, ends)) is
        ∙ ap (λ c. head_note f (D + 1) ∷ (notes ++ head_unless ends f (D + (1 + length c)))) (sym is) in
        record {
          code =
              w.code ∙ append-nil k.code.items ∙ k_is
              ∙ ap (λ n. set d.code.items branch (Br (opposite cmp) 0 1 (pos (D - branch + n))) ++ to ∷ all) (sym one)
              ∙ ap (λ c. set d.code.items branch (Br (opposite cmp) 0 1 (pos (D - branch + before_second all))) ++ c)
              (sym second);
          notes = l_notes ∙ ap (λ ns. d.notes.items ++ ns) (sym noted_second);
        }

-- a choice with a public guard
pub choice-emitted : (f : Setting) (t : Test) (a b : Block) (x0 x1 x2 x3 x4 : CodeBuf) (old : Instr) (branch : ℕ)
    (noted : Bool) → label_of_test (context_of f.decls) t ≡ label.Public → EmitsGuard f Public 0 t x0 x1
    → Appended x1 x2 (old ∷ []) no_notes → EmitsBlock f a x2 x3 → branch ≡ length x1.code.items
    → noted ≡ block_ends_noted f.decls a → ClosesChoice f t.cmp branch noted b x3 x4 → EmitsStatement f (Choice t a b) x0 x4
choice-emitted f t a b x0 x1 x2 x3 x4 old branch noted public x y z is_branch is_noted w =
    let G = guard_code f Public 0 t in
    let F = block_code f padding_of a in
    let S = block_code f padding_of b in
    let X = length x0.code.items in
    let P = X + (length G + 1) in
    let Q = X + (length G + (1 + (length F + 1))) in
    let over = Br (opposite t.cmp) 0 1 (pos (places_over F S)) in
    let one_long : length x1.code.items ≡ X + length G = guard-length f t x0 x1 x in
    let two_long : length x2.code.items ≡ P = omega (arith, appended_length x1 x2 (old ∷ []) no_notes y, one_long) in
    let three : x3.code.items ≡ x1.code.items ++ old ∷ F =
    z.code ∙ ap (λ l. l ++ F) y.code ∙ append_assoc x1.code.items (old ∷ []) F in
    let three_long : length x3.code.items ≡ P + length F =
    omega (arith, ap (λ l. length l) three, length-append x1.code.items (old ∷ F), one_long) in
    let made : set x3.code.items branch
    (Br (opposite t.cmp) 0 1 (pos (length x3.code.items - branch + before_second S))) ≡ x1.code.items ++ over ∷ F =
    ap (λ n. set x3.code.items branch (Br (opposite t.cmp) 0 1 (pos n)))
    (omega (arith, three_long, one_long, is_branch, places_over-is F S))
    ∙ ap (λ n. set x3.code.items n over) is_branch
    ∙ ap (λ l. set l (length x1.code.items) over) three
    ∙ set-append_seam x1.code.items old F over in
    let ends : Bool × Bool = (block_ends_noted f.decls a, block_ends_noted f.decls b) in
    let tail = second_notes f (P + length F) S (block_notes f padding_of Q b) ends in
    let is_tail : second_notes f (length x3.code.items) S (block_notes f padding_of (length x3.code.items + 1) b)
    (noted, block_ends_noted f.decls b) ≡ tail =
    ap (λ n. second_notes f n S (block_notes f padding_of (n + 1) b) (noted, block_ends_noted f.decls b)) three_long
    ∙ ap (λ n. second_notes f (P + length F) S (block_notes f padding_of n b) (noted, block_ends_noted f.decls b))
    (omega arith)
    ∙ ap (λ n. second_notes f (P + length F) S (block_notes f padding_of Q b) (n, block_ends_noted f.decls b)) is_noted in
    let three_notes : x3.notes.items ≡ x0.notes.items ++ (guard_notes f 0 X t ++ block_notes f padding_of P a) =
    z.notes
    ∙ ap (λ n. x2.notes.items ++ block_notes f padding_of n a) two_long
    ∙ ap (λ l. l ++ block_notes f padding_of P a) (y.notes ∙ append-nil x1.notes.items ∙ x.notes)
    ∙ append_assoc x0.notes.items (guard_notes f 0 X t) (block_notes f padding_of P a) in
    let Made : Label → Type 0 = λ l. Appended x0 x4 (choice_by l (choice_code G t.cmp F S) (padding_of f t a b))
    (λ place. guard_notes f 0 place t
    ++ notes_by l
    (choice_notes f (place + (length G + 1)) F S (block_notes f padding_of (place + (length G + 1)) a)
    (block_notes f padding_of (place + (length G + (1 + (length F + 1)))) b) ends)) in
    subst Made (sym public)
    (record {
      code =
          w.code ∙ ap (λ l. l ++ second_code S) made
          ∙ append_assoc x1.code.items (over ∷ F) (second_code S)
          ∙ ap (λ l. l ++ (over ∷ (F ++ second_code S))) x.code
          ∙ append_assoc x0.code.items G (over ∷ (F ++ second_code S));
      notes =
          w.notes ∙ ap (λ l. x3.notes.items ++ l) is_tail ∙ ap (λ l. l ++ tail) three_notes
          ∙ append_assoc x0.notes.items (guard_notes f 0 X t ++ block_notes f padding_of P a) tail
          ∙ ap (λ l. x0.notes.items ++ l) (append_assoc (guard_notes f 0 X t) (block_notes f padding_of P a) tail)
          ∙ ap (λ l. x0.notes.items ++ (guard_notes f 0 X t ++ l))
          (sym (choice_notes-is f P F S (block_notes f padding_of P a) (block_notes f padding_of Q b) ends));
    })
