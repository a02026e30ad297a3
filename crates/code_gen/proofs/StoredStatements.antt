-- How many stores of a word the code of statements in public code has, and that of a program.
use Rattle.std.proofs.Common.{◌≡◌, ℕ, ◌+◌, ◌-◌, Bool, pos, negsuc, List, [], ◌∷◌, ◌++◌, length, Option, Some, None, refl, sym, ap, ◌∙◌, subst, arith}
use Rattle.std.specs.Prelude.{cond}
use Rattle.std.proofs.lemmas.List.Sums.{sum_by-append}
use Rattle.gr_word.specs.declared.operations.Cmp.{Cmp}
use Rattle.gr_word.specs.declared.variables.Label.{Label}
use Rattle.lt_isa.specs.declared.instructions.Instr.{Instr}
use Rattle.lt_isa.specs.declared.instructions.Instr.TheVariants.{Jmp, Br, Halt}
use Rattle.src_tree.specs.Prelude.{context_of, label_of_test, Test, Statement, SetVariable, SetElement, Choice, Loop, Block, Nothing, Then, TypedStatement, TypedBlock}
use Rattle.block_cache_gen.specs.declared.frames.Mode.TheVariants.{Public}
use Rattle.scratch_alloc.specs.declared.plans.Pin.{Pin}
use Rattle.held_registers.specs.declared.registers.Held.TheVariants.{SecretZero, Number, Scalar}
use Rattle.block_cache_gen.specs.Prelude.{Held, Setting, begin_code, end_code, each_held, held_beginning, held_ending, guard_code, first_blocks, pair_count, stored_words}
use Rattle.block_cache_gen.proofs.SecretCodes.{stored-append, guard-stores, variable-stores, element-stores}
use Rattle.block_cache_gen.proofs.SingleHomes.{ObliviousAreSingle}
use Rattle.branch_padding.specs.Prelude.{after, behind_loop, within_loop, slack_of, added_up, choice_stores, stores_of, stores_of_each}
use Rattle.branch_padding.proofs.StoredRows.{added-first, public_choice-stores}
use Rattle.code_gen.specs.Prelude.{opposite, second_code, places_over, choice_code, loop_code, choice_by, statement_code, block_code, load_code, pin_store, each_slot, beginning, ending, program_code, padding_of}
use Rattle.compiled_objects.specs.Prelude.{at_start, is_some_scalar, scalars_among}
use Rattle.gr_word.specs.declared.variables.Label.TheVariants as label

module _ (once : Bool) where
  -- a choice has the stores of its blocks, and a loop those of its body
  second-stores : (code : List Instr) → stored_words once (second_code code) ≡ stored_words once code
  second-stores [] = refl
  second-stores (i ∷ code) =
      let jump = Jmp (pos (length (i ∷ code) + 1)) in
      let none : stored_words once (jump ∷ []) ≡ 0 = refl in
      stored-append once (jump ∷ []) (i ∷ code) ∙ omega (arith, none)

  choice-stored : (guard : List Instr) (cmp : Cmp) (first second : List Instr) → stored_words once guard ≡ 0
      → stored_words once (choice_code guard cmp first second) ≡ stored_words once first + stored_words once second
  choice-stored guard cmp first second none =
      let branch = Br (opposite cmp) 0 1 (pos (places_over first second)) in
      let alone : stored_words once (branch ∷ []) ≡ 0 = refl in
      omega (
        arith,
        none,
        alone,
        stored-append once guard (branch ∷ (first ++ second_code second)),
        stored-append once (branch ∷ []) (first ++ second_code second),
        stored-append once first (second_code second),
        second-stores second,
      )

  loop-stored : (guard : List Instr) (cmp : Cmp) (body : List Instr) → stored_words once guard ≡ 0
      → stored_words once (loop_code guard cmp body) ≡ stored_words once body
  loop-stored guard cmp body none =
      let jump = Jmp (pos (length body + 1)) in
      let branch = Br cmp 0 1 (negsuc ((length body + length guard) - 1)) in
      let one : stored_words once (jump ∷ []) ≡ 0 = refl in
      let two : stored_words once (branch ∷ []) ≡ 0 = refl in
      omega (
        arith,
        none,
        one,
        two,
        stored-append once (jump ∷ []) (body ++ (guard ++ branch ∷ [])),
        stored-append once body (guard ++ branch ∷ []),
        stored-append once guard (branch ∷ []),
      )

-- a choice by the label of its guard
choice-by : (f : Setting) (t : Test) (a b : Block) (public : List Instr) (l : Label)
    → label_of_test (context_of f.decls) t ≡ l
    → (label_of_test (context_of f.decls) t ≡ label.Public
    → stored_words f.reduces public ≡ stores_of f label.Public (Choice t a b))
    → (label_of_test (context_of f.decls) t ≡ label.Secret
    → stored_words f.reduces (padding_of f t a b) ≡ stores_of f label.Public (Choice t a b))
    → stored_words f.reduces (choice_by l public (padding_of f t a b)) ≡ stores_of f label.Public (Choice t a b)
choice-by f t a b public label.Public is open_guard closed = open_guard is
choice-by f t a b public label.Secret is open_guard closed = closed is

mutual
  pub statement-stored : (f : Setting) → ObliviousAreSingle f → (s : Statement)
      → TypedStatement (context_of f.decls) label.Public s
      → stored_words f.reduces (statement_code f padding_of s) ≡ stores_of f label.Public s
  statement-stored f single (SetVariable x e) typed = variable-stores f Public x e
  statement-stored f single (SetElement x i e) typed = element-stores f Public x i e
  statement-stored f single (Choice t a b) typed =
      let known = context_of f.decls in
      let guard = guard_code f Public 0 t in
      let first = block_code f padding_of a in
      let second = block_code f padding_of b in
      choice-by f t a b (choice_code guard t.cmp first second) (label_of_test known t) refl
      (λ public.
      choice-stored f.reduces guard t.cmp first second (guard-stores f.reduces f Public 0 t)
      ∙ (λ i.
      block-stored f single a (subst (λ (l : Label). TypedBlock known l a) public typed.1.0) i
      + block-stored f single b (subst (λ (l : Label). TypedBlock known l b) public typed.1.1) i)
      ∙ sym (ap (λ (l : Label).
      choice_stores l (slack_of f a b) (pair_count f a b) (stores_of_each f l a) (stores_of_each f l b)) public))
      (λ secret. public_choice-stores f single t a b typed secret)
  statement-stored f single (Loop t a) typed =
      let g = behind_loop f a in
      let inner = within_loop f t a in
      loop-stored f.reduces (guard_code g Public 0 t) t.cmp (block_code inner padding_of a) (guard-stores f.reduces g Public 0 t)
      ∙ block-stored inner single a typed.1.1.1

  pub block-stored : (f : Setting) → ObliviousAreSingle f → (b : Block)
      → TypedBlock (context_of f.decls) label.Public b
      → stored_words f.reduces (block_code f padding_of b) ≡ added_up (stores_of_each f label.Public b)
  block-stored f single Nothing typed = refl
  block-stored f single (Then s rest) typed =
      let g = after f s in
      stored-append f.reduces (statement_code f padding_of s) (block_code g padding_of rest)
      ∙ (λ i. statement-stored f single s typed.0 i + block-stored g single rest typed.1 i)
      ∙ sym (added-first (stores_of f label.Public s) (stores_of_each g label.Public rest))

module _ (f : Setting) (single : ObliviousAreSingle f) where
  -- a whole program has those of its body
  slots-stored : (code : (slot : ℕ) → Option Pin → List Instr)
      → ((slot : ℕ) (pin : Option Pin) → stored_words f.reduces (code slot pin) ≡ 0) → (slot : ℕ) (pins : List (Option Pin))
      → stored_words f.reduces (each_slot code slot pins) ≡ 0
  slots-stored code none slot [] = refl
  slots-stored code none slot (pin ∷ pins) =
      omega (
        arith,
        stored-append f.reduces (code slot pin) (each_slot code (slot + 1) pins),
        none slot pin,
        slots-stored code none (slot + 1) pins,
      )

  load-stored : (slot : ℕ) (block : Option Pin) → stored_words f.reduces (load_code slot block) ≡ 0
  load-stored slot None = refl
  load-stored slot (Some p) = refl

  pin-stored : (slot : ℕ) (pin : Option Pin) → stored_words f.reduces (pin_store slot pin) ≡ 0
  pin-stored slot None = refl
  pin-stored slot (Some p) = refl

  -- the beginning stores no word, and the end one for each scalar that a register holds
  begin-stored : (r : ℕ) (held : List Held) → stored_words f.reduces (each_held (begin_code f) r held) ≡ 0
  begin-stored r [] = refl
  begin-stored r (h ∷ held) =
      omega (
        arith,
        stored-append f.reduces (begin_code f r h) (each_held (begin_code f) (r + 1) held),
        one h,
        begin-stored (r + 1) held,
      )
    where
      one : (h : Held) → stored_words f.reduces (begin_code f r h) ≡ 0
      one SecretZero = refl
      one (Number z) = refl
      one (Scalar n) = refl

  end-stored : (r : ℕ) (held : List Held) → stored_words f.reduces (each_held (end_code f) r held) ≡ scalars_among held
  end-stored r [] = refl
  end-stored r (h ∷ held) =
      omega (
        arith,
        stored-append f.reduces (end_code f r h) (each_held (end_code f) (r + 1) held),
        sum_by-append (λ (g : Held). cond (is_some_scalar g) 1 0) (h ∷ []) held,
        one h,
        end-stored (r + 1) held,
      )
    where
      one : (h : Held) → stored_words f.reduces (end_code f r h) ≡ scalars_among (h ∷ [])
      one SecretZero = refl
      one (Number z) = refl
      one (Scalar n) = refl

  beginning-stored : stored_words f.reduces (beginning f) ≡ 0
  beginning-stored =
      omega (
        arith,
        stored-append f.reduces (each_slot load_code 0 (first_blocks f)) (held_beginning f),
        slots-stored load_code load-stored 0 (first_blocks f),
        begin-stored 19 f.held,
      )

  ending-stored : stored_words f.reduces (ending f) ≡ scalars_among f.held
  ending-stored =
      let halt : stored_words f.reduces (Halt ∷ []) ≡ 0 = refl in
      omega (
        arith,
        stored-append f.reduces (held_ending f) (each_slot pin_store 0 f.pins ++ Halt ∷ []),
        stored-append f.reduces (each_slot pin_store 0 f.pins) (Halt ∷ []),
        slots-stored pin_store pin-stored 0 f.pins,
        end-stored 19 f.held,
        halt,
      )

  -- the stores of a word in a program's code are those of its statements, and one for each scalar that a register holds
  pub program-stored : (body : Block) → TypedBlock (context_of f.decls) label.Public body
      → stored_words f.reduces (program_code f padding_of body)
      ≡ added_up (stores_of_each (at_start f) label.Public body) + scalars_among f.held
  program-stored body typed =
      let inner = at_start f in
      let code = block_code inner padding_of body in
      omega (
        arith,
        stored-append f.reduces (beginning f) (code ++ ending f),
        stored-append f.reduces code (ending f),
        beginning-stored,
        ending-stored,
        block-stored inner single body typed,
      )
