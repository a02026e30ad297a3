-- How long the public code of guards, assignments and loops is, and what is appended for statements, by their parts.
use Rattle.std.proofs.Common.{◌≡◌, ℕ, ◌+◌, ◌-◌, ◌*◌, ◌≤◌, Bool, true, false, ◌||◌, ◌==◌, pos, negsuc, List, [], ◌∷◌, ◌++◌, length, set, refl, sym, ap, ◌∙◌, arith, append_assoc, append-nil, eq-eqb, Result, Ok, Err}
use Rattle.std.specs.Prelude.{OnOk}
use Rattle.std.proofs.lemmas.Bool.{ne_eqb}
use Rattle.std.proofs.lemmas.List.{length-append, length-set}
use Rattle.std.proofs.Math.Seq.{set-append_seam}
use Rattle.lt_isa.specs.declared.instructions.Instr.{Instr}
use Rattle.lt_isa.specs.declared.instructions.Instr.TheVariants.{Jmp, Br}
use Rattle.src_tree.specs.declared.trees.Decl.{Decl}
use Rattle.src_tree.specs.Prelude.{Tree, Number, Variable, Element, Operation, Test, Statement, SetVariable, SetElement, Choice, Loop, Block, Nothing, Then, Context, context_of, label_of_test, tree_weight, test_weight, parts_weight, statement_weight, block_weight}
use Rattle.block_cache_gen.specs.declared.frames.CodeBuf.{CodeBuf}
use Rattle.block_cache_gen.specs.declared.frames.Mode.TheVariants.{Public}
use Rattle.block_cache_gen.specs.Prelude.{Setting, expr_code, guard_code, set_code, guard_notes, set_notes, Appended, no_notes, EmitsGuard, EmitsSet, BlockHasWords, StatementHasWords, TestHasWords}
use Rattle.block_cache_gen.proofs.Emitting.{appended_then, appended_length}
use Rattle.block_cache_gen.proofs.Sizes.{expr_code_short, set_code_short}
use Rattle.branch_padding.specs.Prelude.{after, behind_loop, within_loop}
use Rattle.code_gen.specs.Prelude.{statement_code, block_code, statement_notes, block_notes, block_ends_noted, head_note, head_unless, guard_note, padding_of, EmitsStatement, EmitsBlock, ClosesLoop, Puts, noted_behind}
use Rattle.gr_word.specs.declared.variables.Label.TheVariants as label

pub tree_weight-some : (e : Tree) → 1 ≤ tree_weight e
tree_weight-some (Number z) = omega arith
tree_weight-some (Variable x) = omega arith
tree_weight-some (Element x i) = omega arith
tree_weight-some (Operation op a b) = omega arith

-- at most 48 instructions a unit of a guard's weight
pub guard_code-short : (f : Setting) (t : Test) → length (guard_code f Public 0 t) ≤ 48 * test_weight t
guard_code-short f t =
    omega (
      arith,
      expr_code_short f Public 0 t.left,
      expr_code_short f Public 1 t.right,
      length-append (expr_code f Public 0 t.left) (expr_code f Public 1 t.right),
    )

pub variable_code-short : (f : Setting) (x : List ℕ) (e : Tree)
    → length (set_code f Public (SetVariable x e)) ≤ 120 * (1 + tree_weight e)
variable_code-short f x e =
    omega (arith, set_code_short f Public (context_of f.decls) label.Public (SetVariable x e) tt)

pub element_code-short : (f : Setting) (x : List ℕ) (i e : Tree)
    → length (set_code f Public (SetElement x i e)) ≤ 120 * (1 + (tree_weight i + tree_weight e))
element_code-short f x i e =
    omega (arith, set_code_short f Public (context_of f.decls) label.Public (SetElement x i e) tt)

-- the weight of a choice by a public guard
pub choice_weight-public : (known : Context) (t : Test) (a b : Block) → label_of_test known t ≡ label.Public
    → statement_weight known label.Public (Choice t a b)
    ≡ 1 + (test_weight t + (block_weight known label.Public a + block_weight known label.Public b))
choice_weight-public known t a b is =
    ap (λ l. 1 + (test_weight t + parts_weight l (block_weight known l a + block_weight known l b))) is

-- the code is longer by that of the guard
pub guard-length : (f : Setting) (t : Test) (a b : CodeBuf) → EmitsGuard f Public 0 t a b
    → length b.code.items ≡ length a.code.items + length (guard_code f Public 0 t)
guard-length f t a b x = appended_length a b (guard_code f Public 0 t) (λ place. guard_notes f 0 place t) x

-- an assignment to a variable keeps within its weight
pub variable-short : (f : Setting) (x : List ℕ) (e : Tree) (a b : CodeBuf) → EmitsSet f Public (SetVariable x e) a b
    → length b.code.items ≤ length a.code.items + 120 * (1 + tree_weight e)
variable-short f x e a b made =
    omega (
      arith,
      variable_code-short f x e,
      appended_length a b (set_code f Public (SetVariable x e)) (λ place. set_notes f place (SetVariable x e)) made,
    )

-- and so does one to an element
pub element-short : (f : Setting) (x : List ℕ) (i e : Tree) (a b : CodeBuf) → EmitsSet f Public (SetElement x i e) a b
    → length b.code.items ≤ length a.code.items + 120 * (1 + (tree_weight i + tree_weight e))
element-short f x i e a b made =
    omega (
      arith,
      element_code-short f x i e,
      appended_length a b (set_code f Public (SetElement x i e)) (λ place. set_notes f place (SetElement x i e)) made,
    )

-- after a jump that was set, a note that may be there, and a guard
pub closing-length : (f g : Setting) (t : Test) (a b c d : CodeBuf) (start : ℕ) (jump : Instr) (noted : Bool)
    → b.code.items ≡ set a.code.items start jump → Appended b c [] (λ place. head_unless noted f place)
    → EmitsGuard g Public 0 t c d → length d.code.items ≡ length a.code.items + length (guard_code g Public 0 t)
closing-length f g t a b c d start jump noted is x y =
    omega (
      arith,
      ap (λ l. length l) is,
      length-set a.code.items start jump,
      appended_length b c [] (λ place. head_unless noted f place) x,
      guard-length g t c d y,
    )

-- the branch after it
pub closing-short : (f : Setting) (t : Test) (n : ℕ) (d e : CodeBuf) (back : Instr)
    → length d.code.items ≡ n + length (guard_code f Public 0 t)
    → Appended d e (back ∷ []) no_notes → length e.code.items ≤ n + 120 * test_weight t
closing-short f t n d e back long x =
    omega (
      arith,
      long,
      appended_length d e (back ∷ []) no_notes x,
      guard_code-short f t,
      tree_weight-some t.left,
      tree_weight-some t.right,
    )

-- a note takes no place
pub unless-short : (f : Setting) (noted : Bool) (n : ℕ) (d e : CodeBuf) → length d.code.items ≤ n
    → Appended d e [] (λ place. head_unless noted f place) → length e.code.items ≤ n
unless-short f noted n d e few x = omega (arith, few, appended_length d e [] (λ place. head_unless noted f place) x)

-- a block, statement by statement
pub noted_behind-none : (decls : List Decl) (b : Block) → noted_behind decls false b ≡ block_ends_noted decls b
noted_behind-none decls Nothing = refl
noted_behind-none decls (Then s Nothing) = refl
noted_behind-none decls (Then s (Then t rest)) = noted_behind-none decls (Then t rest)

-- no statement was made
pub block-none : (f : Setting) (a : CodeBuf) → EmitsBlock f Nothing a a
block-none f a = record { code = sym (append-nil a.code.items); notes = sym (append-nil a.notes.items) }

-- one statement and then the rest
pub block-then : (f : Setting) (s : Statement) (rest : Block) (a b c : CodeBuf)
    → EmitsStatement f s a b → EmitsBlock (after f s) rest b c → EmitsBlock f (Then s rest) a c
block-then f s rest a b c x y =
    appended_then a b c (statement_code f padding_of s) (block_code (after f s) padding_of rest)
    (λ place. statement_notes f padding_of place s) (λ place. block_notes (after f s) padding_of place rest) x y

-- a jump whose target becomes known
set_jump-is : (before more : List Instr) (old new : Instr) (code : List Instr) → code ≡ before ++ old ∷ more
    → set code (length before) new ≡ before ++ new ∷ more
set_jump-is before more old new code is =
    ap (λ l. set l (length before) new) is ∙ set-append_seam before old more new

guard_note-is : (f : Setting) (code : List Instr) (ends : Bool) (start behind : ℕ) → behind ≡ start + 1 + length code
    → head_unless (ends || (behind == start + 1)) f behind ≡ guard_note f code ends behind
guard_note-is f [] ends start behind is =
    ap (λ b. head_unless (ends || b) f behind) (eq-eqb behind (start + 1) (omega arith)) ∙ either ends
  where
    either : (ends : Bool) → head_unless (ends || true) f behind ≡ []
    either true = refl
    either false = refl
guard_note-is f (i ∷ code) ends start behind is =
    ap (λ b. head_unless (ends || b) f behind) (ne_eqb behind (start + 1) (λ same. absurd (omega arith))) ∙ either ends
  where
    either : (ends : Bool) → head_unless (ends || false) f behind ≡ head_unless ends f behind
    either true = refl
    either false = refl

-- a loop
pub loop-emitted : (f : Setting) (t : Test) (body : Block) (a b c d e : CodeBuf) (old : Instr) (start : ℕ)
    (noted : Bool) → start ≡ length a.code.items → noted ≡ block_ends_noted f.decls body → Appended a b (old ∷ []) no_notes
    → Appended b c [] (λ place. head_note f place ∷ []) → EmitsBlock (within_loop f t body) body c d
    → ClosesLoop f (behind_loop f body).ranges t start noted d e → EmitsStatement f (Loop t body) a e
loop-emitted f t body a b c d e old start noted is_start is_noted x y z w =
    let A = length a.code.items in
    let inner = within_loop f t body in
    let behind = behind_loop f body in
    let guard = guard_code behind Public 0 t in
    let code = block_code inner padding_of body in
    let D = length d.code.items in
    let jump = Jmp (pos (length code + 1)) in
    let is_d : d.code.items ≡ a.code.items ++ old ∷ code =
    z.code ∙ ap (λ l. l ++ code) (y.code ∙ append-nil b.code.items ∙ x.code)
    ∙ append_assoc a.code.items (old ∷ []) code in
    let long : D ≡ A + 1 + length code =
    omega (arith, ap (λ l. length l) is_d, length-append a.code.items (old ∷ code)) in
    let first : set d.code.items start (Jmp (pos (D - start))) ≡ a.code.items ++ jump ∷ code =
    ap (λ n. set d.code.items start (Jmp (pos n))) (omega arith)
    ∙ ap (λ k. set d.code.items k jump) is_start
    ∙ set_jump-is a.code.items code old jump d.code.items is_d in
    let back : ◌≡◌ {A = ℕ} ((D + length guard) - (start + 1) - 1) ((length code + length guard) - 1) = omega arith in
    let c_long : length c.code.items ≡ A + 1 =
    omega
    (arith, appended_length a b (old ∷ []) no_notes x, appended_length b c [] (λ place. head_note f place ∷ []) y) in
    let is_notes : d.notes.items ≡ a.notes.items ++ (head_note f (A + 1) ∷ block_notes inner padding_of (A + 1) body) =
    z.notes
    ∙ ap (λ n. c.notes.items ++ block_notes inner padding_of n body) c_long
    ∙ ap (λ l. l ++ block_notes inner padding_of (A + 1) body)
    (y.notes ∙ ap (λ l. l ++ head_note f (length b.code.items) ∷ []) (x.notes ∙ append-nil a.notes.items)
    ∙ ap (λ n. a.notes.items ++ head_note f n ∷ []) (appended_length a b (old ∷ []) no_notes x))
    ∙ append_assoc a.notes.items (head_note f (A + 1) ∷ []) (block_notes inner padding_of (A + 1) body) in
    let at_guard : ◌≡◌ {A = ℕ} D (A + (1 + length code)) = omega arith in
    record {
      code =
          w.code
          ∙ ap (λ l. l ++ (guard ++ Br t.cmp 0 1 (negsuc ((D + length guard) - (start + 1) - 1)) ∷ [])) first
          ∙ ap (λ n. (a.code.items ++ jump ∷ code) ++ (guard ++ Br t.cmp 0 1 (negsuc n) ∷ [])) back
          ∙ append_assoc a.code.items (jump ∷ code)
          (guard ++ Br t.cmp 0 1 (negsuc ((length code + length guard) - 1)) ∷ []);
      notes =
          w.notes
          ∙ ap (λ l. l ++ (head_unless (noted || (D == start + 1)) f D ++ guard_notes behind 0 D t)) is_notes
          ∙ append_assoc a.notes.items (head_note f (A + 1) ∷ block_notes inner padding_of (A + 1) body)
          (head_unless (noted || (D == start + 1)) f D ++ guard_notes behind 0 D t)
          ∙ ap (λ l. a.notes.items
          ++ (head_note f (A + 1) ∷ (block_notes inner padding_of (A + 1) body ++ (l ++ guard_notes behind 0 D t))))
          (guard_note-is f code noted start D (omega arith) ∙ ap (λ n. guard_note f code n D) is_noted)
          ∙ ap (λ n. a.notes.items
          ++ (head_note f (A + 1)
          ∷ (block_notes inner padding_of (A + 1) body
          ++ (guard_note f code (block_ends_noted f.decls body) n ++ guard_notes behind 0 n t)))) at_guard;
    }

-- a statement is put if what was emitted for it is short
pub puts-short : {T E : Type 0} (f : Setting) (s : Statement) (a b : CodeBuf) (r : Result T E)
    → (EmitsStatement f s a b
    → length b.code.items ≤ length a.code.items + 120 * statement_weight (context_of f.decls) label.Public s)
    → OnOk r (EmitsStatement f s a b) → OnOk r (StatementHasWords s) → OnOk r (Puts f s a b)
puts-short f s a b (Ok x) short made words = record { emitted = made; short = short made; words = words }
puts-short f s a b (Err x) short made words = tt

-- the code of a loop is complete once its guard closes it
pub puts-closed : {T E P : Type 0} (f : Setting) (t : Test) (body : Block) (a d e : CodeBuf) (r : Result T E)
    → length d.code.items
    ≤ length a.code.items + 2 + 120 * block_weight (context_of f.decls) label.Public body
    → BlockHasWords body → (P → EmitsStatement f (Loop t body) a e) → OnOk r P
    → OnOk r (length e.code.items ≤ length d.code.items + 120 * test_weight t) → OnOk r (TestHasWords t)
    → OnOk r (Puts f (Loop t body) a e)
puts-closed f t body a d e (Ok x) before words made p short guard = record {
  emitted = made p;
  short = omega (arith, before, short);
  words = (guard, words);
}
puts-closed f t body a d e (Err x) before words made p short guard = tt
