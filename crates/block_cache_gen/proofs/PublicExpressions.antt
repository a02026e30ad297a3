-- The public code of an expression is passed, at any place.
use Rattle.std.proofs.Common.{◌≡◌, ℕ, ◌+◌, ◌<◌, ◌≤◌, max, Bool, true, false, not, ◌||◌, ℤ, pos, List, [], ◌∷◌, ◌++◌, length, length-append, get_or, Option, Some, None, refl, sym, ap, ◌∙◌, subst, arith}
use Rattle.std.specs.Prelude.{is_some}
use Rattle.std.proofs.lemmas.List.{append-nil}
use Rattle.std.specs.Option.{option_map}
use Rattle.std.proofs.lemmas.Bool.{eq-eqb, ne_eqb}
use Rattle.gr_word.specs.declared.variables.Label.{Label}
use Rattle.gr_word.specs.declared.variables.Shape.{Shape}
use Rattle.gr_word.specs.declared.variables.Shape.TheVariants.{Scalar, Array}
use Rattle.gr_word.specs.declared.operations.Op.{Op}
use Rattle.gr_word.specs.declared.operations.Op.TheVariants.{Add}
use Rattle.lt_isa.specs.declared.instructions.Instr.{Instr}
use Rattle.lt_isa.specs.declared.instructions.Instr.TheVariants.{Li, Alu, Ldw}
use Rattle.lt_isa.specs.Prelude.{Parts, is_ram}
use Rattle.src_tree.specs.Prelude.{context_of, higher, label_or_public, label_of, secret_label, Tree, Number, Variable, Element, Operation, TypedTree, DeclaredOnce, height_of}
use Rattle.bank_alloc.specs.Prelude.{scalar_bank}
use Rattle.trace_patterns.specs.Prelude.{Known, is_secret, bank_known, set_secret, note_known, claimed_at}
use Rattle.lt_isa.specs.declared.symbols.Note.{Note}
use Rattle.stretches.specs.Prelude.{HoldsAt, NotesBetween, Passes}
use Rattle.stretches.proofs.Standing.{standing-first, standing-rest, standing-head}
use Rattle.stretches.proofs.Passed.{passes-then, passes-to, passes-one, passes-goes, passes-noted, NoMore, One, rules-li, rules-alu, rules-ldw, secret-same, notes-before, notes-behind, notes-within, no_note-behind, LieBetween, lie_wider, lie_both}
use Rattle.block_cache_gen.specs.declared.frames.Mode.TheVariants.{Public}
use Rattle.block_cache_gen.specs.Prelude.{Setting, HasHomes, home_of, pin_of, register_for, fixed_index, read_code, scalar_code, operand, operand_part, operand_register, operand_unless, operation_code, steps_at, expr_code, operand_mask, operation_notes, expr_notes, Carries, IndexIsPublic, HasPublicIndexes, HasLabel, StandsNoted, first_kept, room_of}
use Rattle.strength_reduction.specs.Prelude.{Step, numbered, code_of}
use Rattle.step_code.proofs.StepPasses.{passes-steps}
use Rattle.block_cache_gen.proofs.StepsAt.{StepsOf, steps-of}
use Rattle.src_tree.proofs.TreeHeights.{height-some}
use Rattle.held_registers.specs.Prelude.{public_zero}
use Rattle.block_cache_gen.proofs.OperandLabels.{is-operand}
use Rattle.block_cache_gen.proofs.HeldLabels.{register-label, zero-label}
use Rattle.block_cache_gen.proofs.KeptBelow.{LeavesPublic, KeptBelow}
use Rattle.block_cache_gen.proofs.OperandPasses.{ExprPasses, passes-here, kept-here, leaves-operand, kept-then, operand-later, operand-passes}
use Rattle.block_cache_gen.proofs.NoteClaims.{leaves-later}
use Rattle.block_cache_gen.proofs.NotesOfCode.{read-longer, expression-longer, array-lie, expression-lies, operand-lie}
use Rattle.block_cache_gen.proofs.KeptRegisters.{SameBelow, same-itself, same-set, kept-same, or_false}
use Rattle.block_cache_gen.proofs.HomeFacts.{shows-plain, plain-array}
use Rattle.block_cache_gen.proofs.SpreadPasses.{read-passes}
use Rattle.block_cache_gen.proofs.PublicAccesses.{array_code, array_notes, access-passes}
use Rattle.gr_word.specs.declared.variables.Label.TheVariants as label

-- the bank of a resident variable
pub resident_bound : (o : Parts) (f : Setting) → HasHomes o f → (k : Known) (x : List ℕ) (l : Label) (shape : Shape)
    → context_of f.decls x ≡ Some (l, shape) → (home_of f x).resident ≡ true → Carries f k
    → bank_known k (home_of f x).slot ≡ Some (home_of f x).bank
resident_bound o f homes k x l shape declared is carries =
    let h = home_of f x in
    let home = homes.residents x l shape declared is in
    let pin = homes.pins h.slot (pin_of h) home.pinned in
    carries.pinned h.slot (pin_of h) home.pinned pin.few pin.apart

ram_scalar : (l : Label) → (not (is_ram (scalar_bank l)) || false) ≡ secret_label l
ram_scalar label.Public = refl
ram_scalar label.Secret = refl

-- the label of an element, by the bank of its array
element_label : (l i : Label) (bank : ℕ) (word : Bool) → ((bank ≡ 0) → l ≡ label.Public) → (l ≡ label.Public → bank ≡ 0)
    → (bank ≡ 0 → i ≡ label.Public) → (bank ≡ 0 → word ≡ false)
    → (not (is_ram bank) || word) ≡ secret_label (higher l i)
element_label label.Public i bank word plain back public known =
    let zero : bank ≡ 0 = back refl in
    ap (λ (b : Bool). not b || word) (eq-eqb bank 0 zero) ∙ known zero
    ∙ ap secret_label (sym (public zero))
element_label label.Secret i bank word plain back public known =
    ap (λ (b : Bool). not b || word)
    (ne_eqb bank 0 (λ e. absurd (let f : ◌≡◌ {A = Label} label.Secret label.Public = plain e in cc)))

pub higher_label : (a b : Label) → (secret_label a || secret_label b) ≡ secret_label (higher a b)
higher_label label.Public b = refl
higher_label label.Secret b = refl

higher_number : (l : Label) → higher l label.Public ≡ l
higher_number label.Public = refl
higher_number label.Secret = refl

-- Code at a place is passed, from what comes to it, where this holds at its first place: registers below `to` are kept,
-- and register `to` has a label.
record PassedCode (o : Parts) (f : Setting) (mask to place : ℕ) (code : List Instr) (l : Label)
    (comes holds : Known) : Type 0 where
  last : Known
  passes : Passes o place comes (place + length code) last
  kept : KeptBelow f mask to holds last
  labelled : HasLabel last to l

module _ (o : Parts) (f : Setting) (homes : HasHomes o f) (once : DeclaredOnce f.decls) where
  number_passes : (z : ℤ) → ExprPasses o f (Number z)
  number_passes z mask to p k holds high stands here carries leaves =
      let sized = carries.registers in
      record {
        last = set_secret holds to false;
        passes
            = passes-noted o p (Li to z) [] k holds (set_secret holds to false) here
            (One p (Li to z) [] holds (set_secret holds to false) (set_secret holds to false) (rules-li o p holds to z)
            (NoMore (p + 1) (set_secret holds to false))) stands.code_stands stands.noted stands.behind;
        kept
            = kept-same f mask to holds holds (set_secret holds to false)
            (kept-here f mask to holds (omega arith) carries leaves)
            (same-set f to holds holds to false (omega arith) (omega arith) (same-itself f to holds));
        labelled = secret-same holds to false (omega arith);
      }

  -- the code of a scalar, by the register that holds it
  abbrev ScalarPasses : List ℕ → Option ℕ → Type 0
  ScalarPasses x found =
      (mask to p : ℕ) (k holds : Known) → to < first_kept f
      → StandsNoted o p (scalar_code found (home_of f x) to) [] → HoldsAt o p k holds → Carries f holds
      → LeavesPublic f mask to holds
      → PassedCode o f mask to p (scalar_code found (home_of f x) to) (label_of (context_of f.decls) (Variable x)) k holds

  copy_passes : (x : List ℕ) (l : Label) → context_of f.decls x ≡ Some (l, Scalar) → (r : ℕ)
      → register_for f x ≡ Some r → ScalarPasses x (Some r)
  copy_passes x l declared r is mask to p k holds low stands here carries leaves =
      let sized = carries.registers in
      let held = register-label f homes.held x l Scalar declared r is in
      let zero = zero-label f homes.held x l Scalar declared r is label.Public in
      let last = set_secret holds to (is_secret holds r || is_secret holds public_zero) in
      record {
        last = last;
        passes
            = passes-noted o p (Alu Add to r public_zero) [] k holds last here
            (One p _ [] holds last last (rules-alu o p holds Add to r public_zero) (NoMore (p + 1) last))
            stands.code_stands stands.noted stands.behind;
        kept
            = kept-same f mask to holds holds last (kept-here f mask to holds low carries leaves)
            (same-set f to holds holds to _ (omega arith) low (same-itself f to holds));
        labelled
            = secret-same holds to (is_secret holds r || is_secret holds public_zero) (omega arith)
            ∙ ap (λ (b : Bool). is_secret holds r || b) (carries.held public_zero label.Public zero)
            ∙ or_false (is_secret holds r)
            ∙ carries.held r l held
            ∙ ap (λ (q : Option (Label × Shape)). secret_label (label_or_public q)) (sym declared);
      }

  word_passes : (x : List ℕ) (l : Label) → context_of f.decls x ≡ Some (l, Scalar) → ScalarPasses x None
  word_passes x l declared mask to p k holds low stands here carries leaves =
      let h = home_of f x in
      let scalar = homes.scalars x l declared in
      let home = homes.residents x l Scalar declared scalar.resident in
      let sized = carries.registers in
      let one = set_secret holds to false in
      let two = set_secret one to (not (is_ram h.bank) || is_secret one to) in
      let first = same-set f to holds holds to false (omega arith) (omega arith) (same-itself f to holds) in
      let size : length one.secret ≡ 32 = first.sized ∙ sized in
      let bound : bank_known one h.slot ≡ Some h.bank =
      resident_bound o f homes holds x l Scalar declared scalar.resident carries in
      record {
        last = two;
        passes
            = passes-noted o p (Li to (pos h.word)) (Ldw to h.slot to ∷ []) k holds two here
            (One p _ _ holds one two (rules-li o p holds to (pos h.word))
            (One (p + 1) _ _ one two two (rules-ldw o (p + 1) one to h.slot to h.bank bound) (NoMore (p + 1 + 1) two)))
            stands.code_stands stands.noted stands.behind;
        kept
            = kept-same f mask to holds holds two (kept-here f mask to holds (omega arith) carries leaves)
            (same-set f to holds one to _ (omega arith) (omega arith) first);
        labelled
            = secret-same one to (not (is_ram h.bank) || is_secret one to) (omega arith)
            ∙ ap (λ (b : Bool). not (is_ram h.bank) || b) (secret-same holds to false (omega arith))
            ∙ ap (λ (b : ℕ). not (is_ram b) || false) home.bank ∙ ram_scalar l
            ∙ ap (λ (q : Option (Label × Shape)). secret_label (label_or_public q)) (sym declared);
      }

  scalar_by : (x : List ℕ) (l : Label) → context_of f.decls x ≡ Some (l, Scalar) → (found : Option ℕ)
      → register_for f x ≡ found → ScalarPasses x found
  scalar_by x l declared None is = word_passes x l declared
  scalar_by x l declared (Some r) is = copy_passes x l declared r is

  scalar_passes : (x : List ℕ) (l : Label) → context_of f.decls x ≡ Some (l, Scalar) → ExprPasses o f (Variable x)
  scalar_passes x l declared mask to p k holds high stands here carries leaves =
      let passed = scalar_by x l declared (register_for f x) refl mask to p k holds (omega arith) stands here carries
      leaves in
      record { last = passed.last; passes = passed.passes; kept = passed.kept; labelled = passed.labelled }

  element_passes : (x : List ℕ) (l : Label) (i : Tree) → TypedTree (context_of f.decls) i
      → context_of f.decls x ≡ Some (l, Array) → IndexIsPublic f x i → ExprPasses o f i
      → ExprPasses o f (Element x i)
  element_passes x l i typed declared public index mask to p k holds high stands here carries leaves =
      let h = home_of f x in
      let code = array_code f to x i in
      let fixed = fixed_index h i in
      let read = read_code f h fixed to in
      let some = read-longer f h fixed to in
      let size : length (code ++ read) ≡ length code + length read = length-append code read in
      let behind = stands.behind in
      let r = p + length code in
      let a = access-passes o f homes once x l i typed mask to p k holds declared public index (omega arith)
      (omega (arith, height-some i))
      (standing-first code read stands.code_stands)
      (notes-within o p (p + length (code ++ read)) p (r + 1) (array_notes f mask to p x i) (omega arith)
      (omega arith) stands.noted)
      (omega arith) here carries leaves in
      let sized = a.kept.carries.registers in
      let plain = plain-array o f homes x l declared in
      let word = read-passes o f homes x l declared a.held a.kept.carries a.bound to r fixed
      (omega (arith, height-some i)) in
      let quiet : (s : ℕ) → r < s → s < r + length read → claimed_at o s ≡ None = (λ s above below.
      stands.noted s (omega arith) (omega arith)
      ∙ ap (option_map note_known) (no_note-behind p (r + 1) s (array_notes f mask to p x i)
      (array-lie f x i mask to p (expression-lies f i mask to p)) (omega arith))) in
      let step : Passes o r a.last (r + length read) word.last = passes-here o r read a.last a.held word.last a.here
      word.goes (standing-rest code read stands.code_stands) some quiet (omega arith) in
      record {
        last = word.last;
        passes
            = passes-to o p k (r + length read) (p + length (code ++ read)) word.last (omega arith)
            (passes-then o p k r a.last a.passes (r + length read) word.last step);
        kept = kept-same f mask to holds a.held word.last a.kept word.same;
        labelled
            = word.value
            ∙ element_label l (label_of (context_of f.decls) i) h.bank (is_secret a.held to)
            (λ e. plain.0 e) (λ e. plain.1 e) (λ zero. public (shows-plain h zero))
            (λ zero. a.word (shows-plain h zero))
            ∙ ap (λ (q : Option (Label
            × Shape)). secret_label (higher (label_or_public q) (label_of (context_of f.decls) i))) (sym declared);
      }

  -- an operation on two operands, by its code and its notes
  abbrev operation_by : Op → Tree → Tree → Option (List Step) → ℕ → List Instr
  operation_by op a b found to =
      let q = operand_unless (is_some found) (operand f a) in
      operand_part q (expr_code f Public to a)
      ++ operation_code op to (operand_register q to) (operand_register (operand f b) (to + 1)) found
      (operand_part (operand f b) (expr_code f Public (to + 1) b))

  abbrev notes_by : Op → Tree → Tree → Option (List Step) → (mask to p : ℕ) → List Note
  notes_by op a b found mask to p =
      let q = operand_unless (is_some found) (operand f a) in
      operand_part q (expr_notes f mask to p a)
      ++ operation_notes found (operand_part (operand f b)
      (expr_notes f (operand_mask q (label_of (context_of f.decls) a) mask to) (to + 1)
      (p + length (operand_part q (expr_code f Public to a))) b))

  abbrev OperationPasses : Op → Tree → Tree → Option (List Step) → Type 0
  OperationPasses op a b found =
      (mask to p : ℕ) (k holds : Known) → to + (max (height_of a) (height_of b) + 1) ≤ room_of f
      → StandsNoted o p (operation_by op a b found to) (notes_by op a b found mask to p)
      → HoldsAt o p k holds → Carries f holds → LeavesPublic f mask to holds
      → PassedCode o f mask to p (operation_by op a b found to)
      (higher (label_of (context_of f.decls) a) (label_of (context_of f.decls) b)) k holds

  operation_passes : (op : Op) (a b : Tree) → TypedTree (context_of f.decls) a → TypedTree (context_of f.decls) b
      → ExprPasses o f a → ExprPasses o f b → OperationPasses op a b None
  operation_passes op a b typed_a typed_b left right mask to p k holds high stands here carries leaves =
      let known = context_of f.decls in
      let q = operand f a in
      let q' = operand f b in
      let first = operand_part q (expr_code f Public to a) in
      let second = operand_part q' (expr_code f Public (to + 1) b) in
      let from = operand_register q to in
      let by = operand_register q' (to + 1) in
      let join = Alu op to from by ∷ [] in
      let size : length (first ++ (second ++ join)) ≡ length first + (length second + 1) = length-append first
      (second ++ join)
      ∙ ap (λ (n : ℕ). length first + n) (length-append second join) in
      let behind = stands.behind in
      let mid = p + length first in
      let end = mid + length second in
      let mask' = operand_mask q (label_of known a) mask to in
      let before = operand_part q (expr_notes f mask to p a) in
      let later = operand_part q' (expr_notes f mask' (to + 1) mid b) in
      let whole = p + length (first ++ (second ++ join)) in
      let lie_before : LieBetween p mid before =
      operand-lie q p (expr_code f Public to a) (expr_notes f mask to p a) (expression-lies f a mask to p) in
      let lie_end : LieBetween mid end later =
      operand-lie q' mid (expr_code f Public (to + 1) b) (expr_notes f mask' (to + 1) mid b)
      (expression-lies f b mask' (to + 1) mid) in
      let lie_later : LieBetween mid whole later = lie_wider mid end mid whole later (omega arith) (omega arith) lie_end in
      let rest = standing-rest first (second ++ join) stands.code_stands in
      let l = operand-passes o f homes a typed_a q (is-operand f a) left mask to p k holds (omega arith) (omega arith)
      whole later (standing-first first (second ++ join) stands.code_stands) stands.noted lie_later (omega arith)
      (omega arith) here carries leaves in
      let leaves' : LeavesPublic f mask' (to + 1) l.held = leaves-operand f q (label_of known a) mask to l.held
      (omega arith) (leaves-later f mask to holds l.held leaves l.kept.publics) l.labelled in
      let between : NotesBetween o mid whole (later ++ []) =
      subst (NotesBetween o mid whole) (sym (append-nil later))
      (notes-behind o p mid whole before later lie_before lie_later stands.noted (omega arith)) in
      let r = operand-passes o f homes b typed_b q' (is-operand f b) right mask' (to + 1) mid l.last l.held (omega arith)
      (omega arith) whole [] (standing-first second join rest) between tt (omega arith) (omega arith) l.here
      l.kept.carries leaves' in
      let sized = r.kept.carries.registers in
      let last = set_secret r.held to (is_secret r.held from || is_secret r.held by) in
      let step : Passes o end r.last (end + 1) last = passes-one o end r.last r.held last (Alu op to from by)
      r.here (standing-head (Alu op to from by) [] (standing-rest second join rest))
      (rules-alu o end r.held op to from by) (omega arith) in
      record {
        last = last;
        passes = passes-then o p k mid l.last l.passes whole last
            (passes-then o mid l.last end r.last r.passes whole last
            (passes-to o end r.last (end + 1) whole last (omega arith) step));
        kept
            = kept-same f mask to holds r.held last
            (kept-then f q (label_of known a) mask to holds l.held r.held (omega arith) l.kept r.kept)
            (same-set f to r.held r.held to _ (omega arith) (omega arith) (same-itself f to r.held));
        labelled
            = secret-same r.held to (is_secret r.held from || is_secret r.held by) (omega arith)
            ∙ ap (λ (b : Bool). b || is_secret r.held by)
            (operand-later o f homes a typed_a q (is-operand f a) mask to (to + 1) l.held r.held (omega arith) (omega arith)
            l.labelled r.kept)
            ∙ ap (λ (b : Bool). secret_label (label_of known a) || b) r.labelled
            ∙ higher_label (label_of known a) (label_of known b);
      }

  -- an operation that steps replace
  stepped_passes : (op : Op) (a b : Tree) (steps : List Step) → StepsOf op b steps → ExprPasses o f a
      → OperationPasses op a b (Some steps)
  stepped_passes op a b steps of left mask to p k holds high stands here carries leaves =
      let known = context_of f.decls in
      let first = expr_code f Public to a in
      let rest = code_of to steps in
      let replaces = of.replaces in
      let size : length (first ++ rest) ≡ length first + length rest = length-append first rest in
      let behind = stands.behind in
      let mid = p + length first in
      let whole = p + length (first ++ rest) in
      let some = expression-longer f a to in
      let before = expr_notes f mask to p a in
      let lie_before : LieBetween p mid before = expression-lies f a mask to p in
      let l = left mask to p k holds (omega arith)
      (record {
        code_stands = standing-first first rest stands.code_stands;
        noted = notes-before o p mid whole before [] lie_before tt stands.noted (omega arith);
        behind = omega arith;
      }) here carries leaves in
      let sized = l.kept.carries.registers in
      let room : to + 2 < first_kept f = omega (arith, height-some b) in
      let inside : to + 2 < 32 = omega arith in
      let secret : ℕ → Bool = λ i. is_secret l.last (numbered to i) in
      let s = passes-steps o to inside steps secret mid l.last replaces.fits sized (λ i low. refl) in
      let quiet : (r : ℕ) → mid ≤ r → r < mid + length rest → claimed_at o r ≡ None = (λ r above below.
      stands.noted r (omega arith) (omega arith)
      ∙ ap (option_map note_known) (no_note-behind p mid r (before ++ [])
      (lie_both p mid before [] lie_before tt) above)) in
      let second : Passes o mid l.last (mid + length rest) s.last = passes-goes o mid rest l.last s.last s.goes
      (standing-rest first rest stands.code_stands) quiet (omega arith) in
      let same : SameBelow f to l.last s.last = record {
        sized = s.count;
        count = ap length s.banks;
        registers = s.below;
        above = λ r high. s.above r (omega arith);
        slots = λ slot apart. ap (λ banks. get_or banks slot None) s.banks;
      } in
      record {
        last = s.last;
        passes = passes-to o p k (mid + length rest) whole s.last (omega arith)
            (passes-then o p k mid l.last l.passes (mid + length rest) s.last second);
        kept = kept-same f mask to holds l.last s.last l.kept same;
        labelled
            = s.own 0 (omega arith)
            ∙ replaces.label secret
            ∙ l.labelled
            ∙ ap secret_label (sym (higher_number (label_of known a))
            ∙ ap (λ (e : Tree). higher (label_of known a) (label_of known e)) (sym of.is));
      }

  either_passes : (op : Op) (a b : Tree) → TypedTree (context_of f.decls) a → TypedTree (context_of f.decls) b
      → ExprPasses o f a → ExprPasses o f b → (found : Option (List Step)) → steps_at f op b ≡ found
      → OperationPasses op a b found
  either_passes op a b typed_a typed_b left right None e = operation_passes op a b typed_a typed_b left right
  either_passes op a b typed_a typed_b left right (Some steps) e = stepped_passes op a b steps (steps-of f op b steps e) left

  operation-passed : (op : Op) (a b : Tree) → OperationPasses op a b (steps_at f op b) → ExprPasses o f (Operation op a b)
  operation-passed op a b passes mask to p k holds high stands here carries leaves =
      let passed = passes mask to p k holds high stands here carries leaves in
      record { last = passed.last; passes = passed.passes; kept = passed.kept; labelled = passed.labelled }

  -- the code of an expression is passed in public code
  pub expression-passes : (e : Tree) → TypedTree (context_of f.decls) e → HasPublicIndexes f e → ExprPasses o f e
  expression-passes (Number z) typed public = number_passes z
  expression-passes (Variable x) typed public = scalar_passes x typed.0 typed.1
  expression-passes (Element x i) typed public =
      let used = typed.0 in
      element_passes x used.0 i typed.1.0 used.1 public.0 (expression-passes i typed.1.0 public.1)
  expression-passes (Operation op a b) typed public =
      operation-passed op a b
      (either_passes op a b typed.0 typed.1 (expression-passes a typed.0 public.0) (expression-passes b typed.1 public.1)
      (steps_at f op b) refl)
