-- The public code of an assignment is passed, at any place.
use Rattle.std.proofs.Common.{◌≡◌, ◌≢◌, ℕ, ◌+◌, ◌<◌, ◌≤◌, Bool, true, false, ◌||◌, pos, List, [], ◌∷◌, ◌++◌, length, length-append, Option, Some, None, refl, sym, ap, ◌∙◌, subst, arith}
use Rattle.std.specs.Option.{option_map}
use Rattle.std.proofs.lemmas.List.{append-nil}
use Rattle.gr_word.specs.declared.variables.Label.{Label}
use Rattle.gr_word.specs.declared.variables.Shape.TheVariants.{Scalar, Array}
use Rattle.gr_word.specs.declared.operations.Op.{Op}
use Rattle.gr_word.specs.declared.operations.Op.TheVariants.{Add}
use Rattle.lt_isa.specs.declared.instructions.Instr.{Instr}
use Rattle.lt_isa.specs.declared.instructions.Instr.TheVariants.{Alu}
use Rattle.lt_isa.specs.Prelude.{Parts}
use Rattle.src_tree.specs.Prelude.{context_of, height_of, higher, label_or_public, label_at, label_of, secret_label, Tree, Variable, Operation, SetVariable, SetElement, TypedTree, TypedStatement, Flows, DeclaredOnce}
use Rattle.bank_alloc.specs.Prelude.{scalar_bank}
use Rattle.trace_patterns.specs.Prelude.{Known, is_secret, bank_known, set_secret, note_known, claimed_at}
use Rattle.stretches.specs.Prelude.{HoldsAt, NotesBetween, Passes}
use Rattle.stretches.proofs.Standing.{standing-head, standing-first, standing-rest}
use Rattle.stretches.proofs.Passed.{passes-one, passes-then, passes-to, GoesOn, NoMore, One, rules-li, rules-alu, rules-stw, secret-same, secret-other, notes-behind, notes-within, no_note-behind, LieBetween, lie_wider, lie_both}
use Rattle.block_cache_gen.specs.declared.frames.Mode.TheVariants.{Public}
use Rattle.block_cache_gen.specs.Prelude.{Setting, HasHomes, home_of, register_for, fixed_index, numbering, operand, operand_part, operand_register, index_operand, stored_code, expr_code, set_code, zero_of, write_code, keeps_label, straight, straight_code, scalar_set, operand_mask, expr_notes, set_notes, straight_notes, scalar_set_notes, base_mask, Carries, HasPublicIndexes, SetHasPublicIndexes, HasLabel, StandsNoted, PassedSet}
use Rattle.block_cache_gen.proofs.NotesOfCode.{store-longer, write-longer, operand-lie, expression-lies, access-lie}
use Rattle.block_cache_gen.proofs.StraightCodes.{IsStraight, straight-by}
use Rattle.block_cache_gen.proofs.HeldOperands.{operand-apart, operand-outside}
use Rattle.block_cache_gen.proofs.SpreadPasses.{stored, store-passes}
use Rattle.block_cache_gen.proofs.OperandLabels.{is-operand}
use Rattle.block_cache_gen.proofs.OperandPasses.{passes-here, leaves-operand, operand-later, operand-passes}
use Rattle.block_cache_gen.proofs.KeptRegisters.{same-itself, same-set, carries-same, carries-copied}
use Rattle.block_cache_gen.proofs.HeldLabels.{register-label, register-low, zero-label}
use Rattle.held_registers.proofs.Copies.{secret_copy}
use Rattle.block_cache_gen.proofs.PublicAccesses.{array_code, array_notes, access-passes}
use Rattle.block_cache_gen.proofs.PublicExpressions.{expression-passes, higher_label, resident_bound}
use Rattle.block_cache_gen.proofs.HomeFacts.{shows-plain, plain-array}
use Rattle.block_cache_gen.proofs.NoteClaims.{leaves-base}
use Rattle.gr_word.specs.declared.variables.Label.TheVariants as label

-- what flows to a public variable is public
flows_public : (code l : Label) → Flows (higher code l) label.Public → secret_label l ≡ false
flows_public label.Public label.Public flows = refl
flows_public label.Public label.Secret flows = absurd flows
flows_public label.Secret l flows = absurd flows

low_label : (l : Label) → scalar_bank l ≡ 0 → l ≡ label.Public
low_label label.Public e = refl
low_label label.Secret e = absurd (omega arith)

-- a value that is copied by the zero of a scalar's label has that label if it may flow to the scalar
copied_label : (code value l : Label) → Flows (higher code value) l
    → (secret_label value || secret_label l) ≡ secret_label l
copied_label code value label.Public flows = ap (λ (b : Bool). b || false) (flows_public code value flows)
copied_label code value label.Secret flows = secret_copy (secret_label value)

-- a result that keeps the label of a scalar has that label
kept_label : (code value l : Label) → Flows (higher code value) l → keeps_label l value ≡ true
    → secret_label value ≡ secret_label l
kept_label code value label.Public flows keeps = flows_public code value flows
kept_label code value label.Secret flows keeps = keeps

-- code that follows the value of an assignment is passed, and the setting is carried after it
record WritePassed (o : Parts) (f : Setting) (p : ℕ) (code : List Instr) (k : Known) : Type 0 where
  last : Known
  goes : GoesOn o p code k last
  carries : Carries f last

module _ (o : Parts) (f : Setting) (homes : HasHomes o f) (once : DeclaredOnce f.decls) where
  -- a value in a register is written to a scalar, by the register that holds that
  abbrev WritePasses : List ℕ → Option ℕ → Label → Type 0
  WritePasses x found value =
      (from p : ℕ) (k : Known) → from ≢ 1 → Carries f k → HasLabel k from value
      → WritePassed o f p
      (write_code f.reduces found (label_of (context_of f.decls) (Variable x)) Public (home_of f x) from) k

  module _ (code : Label) (x : List ℕ) (l value : Label) (declared : context_of f.decls x ≡ Some (l, Scalar))
      (flows : Flows (higher code value) (label_at (context_of f.decls) x)) where
    label_is : label_at (context_of f.decls) x ≡ l
    label_is = ap label_or_public declared

    copy_passes : (r : ℕ) → register_for f x ≡ Some r → WritePasses x (Some r) value
    copy_passes r is from p k apart carries labelled =
        let own = label_at (context_of f.decls) x in
        let joined = is_secret k from || is_secret k (zero_of own) in
        let zero = carries.held (zero_of own) own (zero-label f homes.held x l Scalar declared r is own) in
        let last = set_secret k r joined in
        record {
          last = last;
          goes = One p _ [] k last last (rules-alu o p k Add r from (zero_of own)) (NoMore (p + 1) last);
          carries
              = carries-copied f k r l joined carries (register-label f homes.held x l Scalar declared r is)
              (register-low f homes.held x l Scalar declared r is)
              (ap (λ (b : Bool). b || is_secret k (zero_of own)) labelled
              ∙ ap (λ (b : Bool). secret_label value || b) zero
              ∙ copied_label code value own flows
              ∙ ap secret_label label_is);
        }

    word_passes : WritePasses x None value
    word_passes from p k apart carries labelled =
        let h = home_of f x in
        let scalar = homes.scalars x l declared in
        let home = homes.residents x l Scalar declared scalar.resident in
        let sized = carries.registers in
        let one = set_secret k 1 false in
        let carried : Carries f one = carries-same f 1 k one carries
        (same-set f 1 k k 1 false (omega arith) (omega arith) (same-itself f 1 k)) in
        let bound : bank_known one h.slot ≡ Some h.bank =
        resident_bound o f homes one x l Scalar declared scalar.resident carried in
        let public : h.bank ≡ 0 → is_secret one from ≡ false = (λ zero.
        let plain : l ≡ label.Public = low_label l (sym home.bank ∙ zero) in
        secret-other k 1 from false apart ∙ labelled
        ∙ flows_public code value (subst (Flows (higher code value)) (label_is ∙ plain) flows)) in
        record {
          last = one;
          goes
              = One p _ _ k one one (rules-li o p k 1 (pos h.word))
              (One (p + 1) _ _ one one one
              (rules-stw o (p + 1) one from h.slot 1 h.bank bound
              (stored h.bank (is_secret one from) (is_secret one 1) public (λ zero. secret-same k 1 false (omega arith))))
              (NoMore (p + 1 + 1) one));
          carries = carried;
        }

    write_passes : (found : Option ℕ) → register_for f x ≡ found → WritePasses x found value
    write_passes None is = word_passes
    write_passes (Some r) is = copy_passes r is

  -- a value is in no register that the code of an index uses
  value_apart : (e : Tree) → operand_register (operand f e) 0 ≢ 1
  value_apart e =
      let apart = operand-apart f e (operand f e) (is-operand f e) 0 in apart.apart 1 (omega arith) (omega arith)

  -- an operation that leaves its result in the register that holds a scalar
  straight_passes : (x : List ℕ) (l : Label) → context_of f.decls x ≡ Some (l, Scalar) → (r : ℕ) (op : Op) (a b : Tree)
      → IsStraight f x r op a b → secret_label (label_of (context_of f.decls) (Operation op a b)) ≡ secret_label l
      → TypedTree (context_of f.decls) (Operation op a b) → HasPublicIndexes f (Operation op a b)
      → height_of (Operation op a b) ≤ 16 → (p : ℕ) (k holds : Known)
      → StandsNoted o p (straight_code f Public r (Operation op a b)) (straight_notes f p (Operation op a b))
      → HoldsAt o p k holds → Carries f holds → PassedSet o f p (straight_code f Public r (Operation op a b)) k
  straight_passes x l declared r op a b is own typed public low p k holds stands here carries =
      let known = context_of f.decls in
      let q = operand f a in
      let q' = operand f b in
      let mask = base_mask f in
      let first = operand_part q (expr_code f Public 0 a) in
      let second = operand_part q' (expr_code f Public 1 b) in
      let from = operand_register q 0 in
      let by = operand_register q' 1 in
      let join = Alu op r from by ∷ [] in
      let size : length (first ++ (second ++ join)) ≡ length first + (length second + 1) = length-append first
      (second ++ join)
      ∙ ap (λ (n : ℕ). length first + n) (length-append second join) in
      let behind = stands.behind in
      let mid = p + length first in
      let end = mid + length second in
      let mask' = operand_mask q (label_of known a) mask 0 in
      let before = operand_part q (expr_notes f mask 0 p a) in
      let later = operand_part q' (expr_notes f mask' 1 mid b) in
      let whole = p + length (first ++ (second ++ join)) in
      let lie_before : LieBetween p mid before =
      operand-lie q p (expr_code f Public 0 a) (expr_notes f mask 0 p a) (expression-lies f a mask 0 p) in
      let lie_end : LieBetween mid end later =
      operand-lie q' mid (expr_code f Public 1 b) (expr_notes f mask' 1 mid b) (expression-lies f b mask' 1 mid) in
      let lie_later : LieBetween mid whole later = lie_wider mid end mid whole later (omega arith) (omega arith) lie_end in
      let rest = standing-rest first (second ++ join) stands.code_stands in
      let leaves = leaves-base f 0 holds in
      let v = operand-passes o f homes a typed.0 q (is-operand f a) (expression-passes o f homes once a typed.0 public.0)
      mask 0 p k holds (omega (arith, low)) (omega arith) whole later (standing-first first (second ++ join) stands.code_stands)
      stands.noted lie_later (omega arith) (omega arith) here carries leaves in
      let leaves' = leaves-operand f q (label_of known a) mask 0 v.held (omega arith) (leaves-base f 0 v.held) v.labelled in
      let between : NotesBetween o mid whole (later ++ []) =
      subst (NotesBetween o mid whole) (sym (append-nil later))
      (notes-behind o p mid whole before later lie_before lie_later stands.noted (omega arith)) in
      let w = operand-passes o f homes b typed.1 q' (is-operand f b) (expression-passes o f homes once b typed.1 public.1)
      mask' 1 mid v.last v.held (omega (arith, low)) (omega arith) whole [] (standing-first second join rest) between tt
      (omega arith) (omega arith) v.here v.kept.carries leaves' in
      let joined = is_secret w.held from || is_secret w.held by in
      let last = set_secret w.held r joined in
      let step : Passes o end w.last (end + 1) last = passes-one o end w.last w.held last (Alu op r from by)
      w.here (standing-head (Alu op r from by) [] (standing-rest second join rest))
      (rules-alu o end w.held op r from by) (omega arith) in
      record {
        last = last;
        passes = passes-then o p k mid v.last v.passes whole last
            (passes-then o mid v.last end w.last w.passes whole last
            (passes-to o end w.last (end + 1) whole last (omega arith) step));
        carries
            = carries-copied f w.held r l joined w.kept.carries (register-label f homes.held x l Scalar declared r is.held)
            (register-low f homes.held x l Scalar declared r is.held)
            (ap (λ (c : Bool). c || is_secret w.held by)
            (operand-later o f homes a typed.0 q (is-operand f a) mask 0 1 v.held w.held (omega arith) (omega arith)
            v.labelled w.kept)
            ∙ ap (λ (c : Bool). secret_label (label_of known a) || c) w.labelled
            ∙ higher_label (label_of known a) (label_of known b)
            ∙ own);
      }

  -- an assignment to a variable whose value is written after it is found
  set_written-passes : (code : Label) (x : List ℕ) (e : Tree)
      → TypedStatement (context_of f.decls) code (SetVariable x e)
      → SetHasPublicIndexes f (SetVariable x e) → height_of e ≤ 16 → (p : ℕ) (k holds : Known)
      → StandsNoted o p (scalar_set None f Public x e) (scalar_set_notes None f p e) → HoldsAt o p k holds
      → Carries f holds → PassedSet o f p (scalar_set None f Public x e) k
  set_written-passes code x e typed public low p k holds stands here carries =
      let known = context_of f.decls in
      let q = operand f e in
      let from = operand_register q 0 in
      let first = operand_part q (expr_code f Public 0 e) in
      let store = write_code f.reduces (register_for f x) (label_of known (Variable x)) Public (home_of f x) from in
      let notes = operand_part q (expr_notes f (base_mask f) 0 p e) in
      let size : length (first ++ store) ≡ length first + length store = length-append first store in
      let inside = stands.behind in
      let mid = p + length first in
      let whole = p + length (first ++ store) in
      let more = write-longer f.reduces (register_for f x) (label_of known (Variable x)) Public (home_of f x) from in
      let lie : LieBetween p mid notes = operand-lie q p (expr_code f Public 0 e) (expr_notes f (base_mask f) 0 p e)
      (expression-lies f e (base_mask f) 0 p) in
      let v = operand-passes o f homes e typed.1.0 q (is-operand f e)
      (expression-passes o f homes once e typed.1.0 public) (base_mask f) 0 p k holds (omega arith) (omega arith)
      whole [] (standing-first first store stands.code_stands)
      (subst (NotesBetween o p whole) (sym (append-nil notes)) stands.noted) tt (omega arith) (omega arith) here carries
      (leaves-base f 0 holds) in
      let w = write_passes code x typed.0.0 (label_of known e) typed.0.1 typed.1.1 (register_for f x) refl from mid v.held
      (value_apart e) v.kept.carries v.labelled in
      let quiet : (r : ℕ) → mid < r → r < mid + length store → claimed_at o r ≡ None = (λ r above below.
      stands.noted r (omega arith) (omega arith)
      ∙ ap (option_map note_known) (no_note-behind p mid r notes lie (omega arith))) in
      let behind : Passes o mid v.last (mid + length store) w.last = passes-here o mid store v.last v.held w.last v.here
      w.goes (standing-rest first store stands.code_stands) more quiet (omega arith) in
      record {
        last = w.last;
        passes
            = passes-to o p k (mid + length store) whole w.last (omega arith)
            (passes-then o p k mid v.last v.passes (mid + length store) w.last behind);
        carries = w.carries;
      }

  -- an assignment to a variable is passed in public code
  pub set_variable-passes : (code : Label) (x : List ℕ) (e : Tree)
      → TypedStatement (context_of f.decls) code (SetVariable x e)
      → SetHasPublicIndexes f (SetVariable x e) → height_of e ≤ 16 → (p : ℕ) (k holds : Known)
      → StandsNoted o p (set_code f Public (SetVariable x e)) (set_notes f p (SetVariable x e)) → HoldsAt o p k holds
      → Carries f holds → PassedSet o f p (set_code f Public (SetVariable x e)) k
  set_variable-passes code x e typed public low p k holds stands here carries = by (straight f x e) refl stands
    where
      by : (found : Option ℕ) → straight f x e ≡ found
          → StandsNoted o p (scalar_set found f Public x e) (scalar_set_notes found f p e)
          → PassedSet o f p (scalar_set found f Public x e) k
      by None is stands = set_written-passes code x e typed public low p k holds stands here carries
      by (Some r) is stands =
          let used = typed.0 in
          let label_is : label_at (context_of f.decls) x ≡ used.0 = ap label_or_public used.1 in
          straight-by f x e r is
          (λ t. Flows (higher code (label_of (context_of f.decls) t)) (label_at (context_of f.decls) x)
          → TypedTree (context_of f.decls) t → HasPublicIndexes f t → height_of t ≤ 16
          → StandsNoted o p (straight_code f Public r t) (straight_notes f p t)
          → PassedSet o f p (straight_code f Public r t) k)
          (λ op a b known flows typed_value public_value low_value standing.
          straight_passes x used.0 used.1 r op a b known
          (kept_label code (label_of (context_of f.decls) (Operation op a b)) (label_at (context_of f.decls) x) flows
          known.keeps
          ∙ ap secret_label label_is)
          typed_value public_value low_value p k holds standing here carries)
          typed.1.1 typed.1.0 public low stands

  -- an assignment to an element is passed in public code
  pub set_element-passes : (code : Label) (x : List ℕ) (i e : Tree)
      → TypedStatement (context_of f.decls) code (SetElement x i e) → SetHasPublicIndexes f (SetElement x i e)
      → height_of i ≤ 16 → height_of e ≤ 16 → (p : ℕ) (k holds : Known)
      → StandsNoted o p (set_code f Public (SetElement x i e)) (set_notes f p (SetElement x i e)) → HoldsAt o p k holds
      → Carries f holds → PassedSet o f p (set_code f Public (SetElement x i e)) k
  set_element-passes code x i e typed public low_index low p k holds stands here carries =
      let known = context_of f.decls in
      let h = home_of f x in
      let near = numbering f Public h i in
      let l = typed.0.0.0 in
      let declared : known x ≡ Some (l, Array) = typed.0.0.1 in
      let plain = plain-array o f homes x l declared in
      let q = operand f e in
      let from = operand_register q 0 in
      let first = operand_part q (expr_code f Public 0 e) in
      let access = array_code f 1 x i in
      let fixed = fixed_index h i in
      let store = stored_code f Public h fixed from in
      let some = store-longer f h fixed from in
      let mask = operand_mask q (label_of known e) (base_mask f) 0 in
      let size : length (first ++ (access ++ store)) ≡ length first + (length access + length store) =
      length-append first (access ++ store) ∙ ap (λ (n : ℕ). length first + n) (length-append access store) in
      let inside = stands.behind in
      let mid = p + length first in
      let r = mid + length access in
      let whole = p + length (first ++ (access ++ store)) in
      let before = operand_part q (expr_notes f (base_mask f) 0 p e) in
      let later = array_notes f mask 1 mid x i in
      let q_of_index = index_operand f near (home_of f x) i in
      let lie_before : LieBetween p mid before = operand-lie q p (expr_code f Public 0 e)
      (expr_notes f (base_mask f) 0 p e) (expression-lies f e (base_mask f) 0 p) in
      let lie_access : LieBetween mid (r + 1) later = access-lie f near h mask 1 (operand_register q_of_index 1) mid _
      (operand_part q_of_index (expr_code f Public 1 i)) (operand_part q_of_index (expr_notes f mask 1 mid i))
      (operand-lie q_of_index mid (expr_code f Public 1 i) (expr_notes f mask 1 mid i)
      (expression-lies f i mask 1 mid)) in
      let lie_later : LieBetween mid whole later = lie_wider mid (r + 1) mid whole later (omega arith)
      (omega arith) lie_access in
      let rest = standing-rest first (access ++ store) stands.code_stands in
      let v = operand-passes o f homes e typed.1.0 q (is-operand f e)
      (expression-passes o f homes once e typed.1.0 public.1) (base_mask f) 0 p k holds (omega arith) (omega arith)
      whole later (standing-first first (access ++ store) stands.code_stands) stands.noted lie_later (omega arith)
      (omega arith) here carries (leaves-base f 0 holds) in
      let a = access-passes o f homes once x l i typed.0.1.0 mask 1 mid v.last v.held declared public.0.0
      (expression-passes o f homes once i typed.0.1.0 public.0.1) (omega arith) (omega arith)
      (standing-first access store rest)
      (notes-within o mid whole mid (r + 1) later (omega arith) (omega arith)
      (notes-behind o p mid whole before later lie_before lie_later stands.noted (omega arith)))
      (omega arith) v.here v.kept.carries
      (leaves-operand f q (label_of known e) (base_mask f) 0 v.held (omega arith) (leaves-base f 0 v.held) v.labelled) in
      let label_is : label_at known x ≡ l = ap label_or_public declared in
      let value : h.bank ≡ 0 → is_secret a.held from ≡ false = (λ zero.
      let public_l : l ≡ label.Public = plain.0 zero in
      operand-later o f homes e typed.1.0 q (is-operand f e) (base_mask f) 0 1 v.held a.held (omega arith) (omega arith)
      v.labelled a.kept
      ∙ flows_public code (label_of known e) (subst (Flows (higher code (label_of known e))) (label_is
      ∙ public_l) typed.1.1)) in
      let w = store-passes o f homes x l declared a.held a.kept.carries a.bound from r
      (operand-outside f e q (is-operand f e)) value (λ zero. a.word (shows-plain h zero)) fixed in
      let quiet : (s : ℕ) → r < s → s < r + length store → claimed_at o s ≡ None = (λ s above below.
      stands.noted s (omega arith) (omega arith)
      ∙ ap (option_map note_known) (no_note-behind p (r + 1) s (before ++ later)
      (lie_both p (r + 1) before later (lie_wider p mid p (r + 1) before (omega arith) (omega arith) lie_before)
      (lie_wider mid (r + 1) p (r + 1) later (omega arith) (omega arith) lie_access)) (omega arith))) in
      let behind : Passes o r a.last (r + length store) w.last = passes-here o r store a.last a.held w.last a.here w.goes
      (standing-rest access store rest) some quiet (omega arith) in
      record {
        last = w.last;
        passes
            = passes-to o p k (r + length store) whole w.last (omega arith)
            (passes-then o p k mid v.last v.passes (r + length store) w.last
            (passes-then o mid v.last r a.last a.passes (r + length store) w.last behind));
        carries = carries-same f 1 a.held w.last a.kept.carries w.same;
      }
