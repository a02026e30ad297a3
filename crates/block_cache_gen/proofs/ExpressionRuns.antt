-- The code of an expression, run, leaves its value, and is seen to make its accesses.
use Rattle.std.proofs.Common.{◌≡◌, ◌≢◌, ℕ, ◌+◌, ◌/◌, ◌%◌, ◌<◌, ◌≤◌, Bool, true, false, ℤ, pos, List, [], ◌∷◌, ◌++◌, append-nil, Option, Some, None, refl, sym, ap, ◌∙◌, subst, arith}
use Rattle.std.specs.Prelude.{is_some}
use Rattle.gr_word.specs.Prelude.{applied, IsWord}
use Rattle.gr_word.specs.declared.variables.Label.{Label}
use Rattle.gr_word.specs.declared.variables.Label.TheVariants.{Public}
use Rattle.gr_word.specs.declared.variables.Shape.TheVariants.{Scalar, Array}
use Rattle.lt_isa.specs.declared.instructions.Instr.{Instr}
use Rattle.lt_isa.specs.declared.instructions.Instr.TheVariants.{Li, Alu, Ldw}
use Rattle.lt_isa.specs.Prelude.{Parts, IsInRange, State, register, block_at, word_in, IsShaped, word_named}
use Rattle.lt_isa.proofs.Shapes.{IsWord-register}
use Rattle.stretches.specs.Prelude.{StandsAt, RunsThrough, Sets}
use Rattle.stretches.proofs.RunningThrough.{runs-cons, runs-one, runs-append, runs-weaker, sets-li, sets-alu, sets-ldw}
use Rattle.src_tree.specs.Prelude.{context_of, height_of, Store, variable_number, scalar, element, evaluated, Tree, Number, Variable, Element, Operation, TypedTree}
use Rattle.src_tree.proofs.TreeHeights.{height-some}
use Rattle.scalar_ranges.specs.Prelude.{AreWithin}
use Rattle.block_cache_gen.specs.declared.frames.Mode.{Mode}
use Rattle.block_cache_gen.specs.declared.indexes.Numbering.{Numbering}
use Rattle.block_cache_gen.specs.Prelude.{Setting, HasHomes, home_of, words_a_block, start_of_home, register_for, further_slots, fixed_index, scalar_code, access_by, placed_code, read_by, index_operand, operand, operand_part, operand_register, operand_unless, left_operand, operation_code, steps_at, expr_code, is_in_place, numbering, copy_code, StandsFor, FitsHomes, access_of, accessed_by, accesses, word_number, block_in, slots_after, seen_of_all, LeavesWord, first_kept, room_of}
use Rattle.gr_word.specs.declared.operations.Op.{Op}
use Rattle.strength_reduction.specs.Prelude.{Step, numbered, words_after, code_of}
use Rattle.step_code.proofs.StepRuns.{Leaves, runs-steps}
use Rattle.held_registers.specs.Prelude.{public_zero}
use Rattle.held_registers.proofs.Copies.{runs-copy}
use Rattle.block_cache_gen.proofs.StepsAt.{StepsOf, steps-of}
use Rattle.block_cache_gen.proofs.AccessLaws.{slots_after-append, seen_of_all-append}
use Rattle.block_cache_gen.proofs.HomeFacts.{block_words-is, word-block, word-place}
use Rattle.block_cache_gen.proofs.HeldScalars.{array-free}
use Rattle.block_cache_gen.proofs.RegisterWrites.{register-word, zero-word}
use Rattle.block_cache_gen.proofs.HeldOperands.{IsOperandOf, operand-apart, operand-stays, operand-unless}
use Rattle.block_cache_gen.proofs.OperandRuns.{LeavesAt, RunsExpr, RunsValue, runs-operand}
use Rattle.block_cache_gen.proofs.Stands.{stands-like, stands-set}
use Rattle.block_cache_gen.proofs.IndexRuns.{FitsNumbering, fits-numbering}
use Rattle.block_cache_gen.proofs.ResidentRuns.{fixed-number, runs-placed, runs-read, resident-within}
use Rattle.block_cache_gen.proofs.SpreadRuns.{Reads, runs-read_by}
use Rattle.block_cache_gen.proofs.WordSlots.{single-slot}
use Rattle.block_cache_gen.proofs.AccessRuns.{Accesses, runs-access, word-within}

-- where one register was set, a word is left and nothing was accessed
leaves-set : {f : Setting} {store : Store} {to : ℕ} {word : ℤ} {s t : State} → to < first_kept f → StandsFor f s store
    → Sets s to word t → LeavesWord f store [] to word s t
leaves-set low stands sets = record {
  value = sets.value;
  below = λ r under. sets.others r (λ same. absurd (omega arith));
  banks = sets.banks;
  slots = sets.slots;
  stands = stands-set sets low stands;
}

module _ (o : Parts) (fits : IsInRange o) (f : Setting) (homes : HasHomes o f) (store : Store)
    (store_fits : FitsHomes f store) where
  -- a scalar that a register holds
  runs-held : (x : List ℕ) (r : ℕ) → register_for f x ≡ Some r → (to : ℕ) → to < first_kept f → (s : State)
      → IsShaped o s
      → StandsFor f s store → StandsAt o s.place (copy_code Public to r)
      → RunsThrough o s (copy_code Public to r) [] (LeavesWord f store [] to (scalar store (variable_number f.decls x)) s)
  runs-held x r held to small s shaped stands at =
      let value = scalar store (variable_number f.decls x) in
      let has = register-word f homes.held s store stands x r held in
      runs-weaker s (copy_code Public to r) [] [] (Sets s to value) (LeavesWord f store [] to value s)
      (runs-copy o fits to r public_zero value s shaped (omega arith) (subst IsWord has (IsWord-register o s shaped r))
      has (zero-word f homes.held s store stands x r held Public) at)
      refl
      (λ t shape sets. leaves-set small stands sets)

  -- a scalar that is read in its slot
  runs-loaded : (x : List ℕ) (label : Label) → context_of f.decls x ≡ Some (label, Scalar) → register_for f x ≡ None
      → (to : ℕ) → to < first_kept f → (s : State) → IsShaped o s → StandsFor f s store
      → StandsAt o s.place (Li to (pos (home_of f x).word) ∷ Ldw to (home_of f x).slot to ∷ [])
      → RunsThrough o s (Li to (pos (home_of f x).word) ∷ Ldw to (home_of f x).slot to ∷ []) []
      (LeavesWord f store [] to (scalar store (variable_number f.decls x)) s)
  runs-loaded x label known free to small s shaped stands at =
      let h = home_of f x in
      let home = homes.scalars x label known in
      let value = scalar store (variable_number f.decls x) in
      let load = Ldw to h.slot to in
      let one = single-slot h.slot (further_slots h) ((h.word + 0) / words_a_block f) home.single in
      runs-cons s (Li to (pos h.word)) (load ∷ []) [] [] (Sets s to (pos h.word)) (LeavesWord f store [] to value s) at
      (sets-li o fits s shaped to (pos h.word) (omega arith))
      (λ t shape sets at'.
      let stands' = stands-set sets small stands in
      let place : register t to ≡ pos (h.word + 0) = sets.value ∙ ap pos (omega arith) in
      runs-weaker t (load ∷ []) [] [] (Sets t to value) (LeavesWord f store [] to value s)
      (subst
      (λ k. StandsAt o t.place (Ldw to k to ∷ []) → RunsThrough o t (Ldw to k to ∷ []) [] (Sets t to value)) one
      (runs-read o fits f homes store store_fits x label Scalar known home.resident to 0 t shape stands'
      (omega (arith, home.length)) free small place) at')
      refl
      (λ u shape' sets'. record {
        value = sets'.value;
        below = λ r under.
            sets'.others r (λ same. absurd (omega arith)) ∙ sets.others r (λ same. absurd (omega arith));
        banks = sets'.banks ∙ sets.banks;
        slots = sets'.slots ∙ sets.slots;
        stands = stands-set sets' small stands';
      }))

  -- a scalar
  runs-scalar : (x : List ℕ) (label : Label) → context_of f.decls x ≡ Some (label, Scalar) → (to : ℕ)
      → to < first_kept f
      → (s : State) → IsShaped o s → StandsFor f s store → (found : Option ℕ) → register_for f x ≡ found
      → StandsAt o s.place (scalar_code found (home_of f x) to)
      → RunsThrough o s (scalar_code found (home_of f x) to) []
      (LeavesWord f store [] to (scalar store (variable_number f.decls x)) s)
  runs-scalar x label known to small s shaped stands (Some r) held at = runs-held x r held to small s shaped stands at
  runs-scalar x label known to small s shaped stands None free at =
      runs-loaded x label known free to small s shaped stands at

  -- the word of an element, in the block that an access leaves
  pub element-word : (x : List ℕ) (label : Label) → context_of f.decls x ≡ Some (label, Array)
      → (home_of f x).resident ≡ false → (s : State) → StandsFor f s store → (index : ℤ)
      → word_in (block_in s.banks (home_of f x).bank (access_of f store x index).block)
      (word_number f store x index % words_a_block f)
      ≡ element store (variable_number f.decls x) index
  element-word x label known turn s stands index =
      let h = home_of f x in
      let home = homes.arrays x label known turn in
      let w = words_a_block f in
      let n = word_number f store x index in
      let block = word-block o fits f homes label h home n in
      let word = word-place o fits f homes label h home n in
      ap (λ b. word_in (block_at s h.bank b) (n % w)) (sym block)
      ∙ ap (λ m. word_in (block_at s h.bank ((start_of_home w h + n) / w)) m) (sym word)
      ∙ stands.arrays x label n known turn (word-within o fits f homes store store_fits x label known turn index)

  -- an element, where what the code of its index does is known
  runs-element : (mode : Mode) (x : List ℕ) (i : Tree) (label : Label) → context_of f.decls x ≡ Some (label, Array)
      → (to from : ℕ) (index : List Instr) → to + 3 < first_kept f → from ≢ to + 1 → (s : State) → IsShaped o s
      → StandsFor f s store → RunsValue o f store mode to from i index s
      → (way : Numbering) (resident : Bool)
      → FitsNumbering way (home_of f x) to from (evaluated f.decls store i) → (home_of f x).resident ≡ resident
      → StandsAt o s.place
      (access_by resident way f mode (home_of f x) to from (fixed_index (home_of f x) i) index
      ++ read_by resident f (home_of f x) (fixed_index (home_of f x) i) to)
      → RunsThrough o s
      (access_by resident way f mode (home_of f x) to from (fixed_index (home_of f x) i) index
      ++ read_by resident f (home_of f x) (fixed_index (home_of f x) i) to)
      (seen_of_all mode s.banks s.slots
      (accesses f store i ++ accessed_by resident (access_of f store x (evaluated f.decls store i))))
      (LeavesWord f store
      (accesses f store i ++ accessed_by resident (access_of f store x (evaluated f.decls store i))) to
      (element store (variable_number f.decls x) (evaluated f.decls store i)) s)
  runs-element mode x i label known to from found small other s shaped stands run way true own resident at =
      let h = home_of f x in
      let index = evaluated f.decls store i in
      let n = word_number f store x index in
      let value = element store (variable_number f.decls x) index in
      let before = accesses f store i in
      let code = placed_code way f h to from (fixed_index h i) found in
      let load = read_by true f h (fixed_index h i) to in
      let seen = seen_of_all mode s.banks s.slots before in
      let same : before ≡ before ++ [] = sym (append-nil before) in
      let Done : State → Type 0 = LeavesWord f store before to value s in
      subst (λ l. RunsThrough o s (code ++ load) (seen_of_all mode s.banks s.slots l)
      (LeavesWord f store l to value s))
      same
      (runs-weaker s (code ++ load) (seen ++ []) seen Done Done
      (runs-append s code load seen [] (LeavesWord f store before to (pos (h.word + n)) s) Done at
      (runs-placed o fits f homes store store_fits x label Array known resident mode to from i found s shaped stands
      (omega (arith, small)) other run way own (fixed_index h i) refl)
      (λ t shape placed at'.
      runs-weaker t load [] [] (Reads f to value t) Done
      (runs-read_by o fits f homes store store_fits x label Array known resident (array-free f homes.held x label known) n
      (resident-within o fits f homes store store_fits x label Array known resident index) t shape placed.stands to small
      placed.value (fixed_index h i)
      (λ z fixed. fixed-number o fits f homes store store_fits x label Array known resident i z fixed) at')
      refl
      (λ u shape' reads. record {
        value = reads.value;
        below = λ r under. reads.below r under ∙ placed.below r under;
        banks = reads.banks ∙ placed.banks;
        slots = reads.slots ∙ placed.slots;
        stands = stands-like f t u store reads.slots reads.banks reads.above placed.stands;
      })))
      (append-nil seen)
      (λ t shape done. done))
  runs-element mode x i label known to from found small other s shaped stands run way false own turn at =
      let h = home_of f x in
      let index = evaluated f.decls store i in
      let n = word_number f store x index in
      let a = access_of f store x index in
      let value = element store (variable_number f.decls x) index in
      let before = accesses f store i in
      let code = access_by false way f mode h to from (fixed_index h i) found in
      let load = Ldw to h.slot to in
      let seen = seen_of_all mode s.banks s.slots (before ++ a ∷ []) in
      let Done : State → Type 0 = LeavesWord f store (before ++ a ∷ []) to value s in
      runs-weaker s (code ++ load ∷ []) (seen ++ []) seen Done Done
      (runs-append s code (load ∷ []) seen [] (Accesses f store before a to n s) Done at
      (runs-access o fits f homes store store_fits x label known turn way mode to from i found s shaped stands
      (omega (arith, small)) other own run)
      (λ t shape accessed at'.
      let named : word_named o (register t to) ≡ n % words_a_block f =
      ap (λ word. word_named o word) accessed.leaves.value ∙ ap (λ w. n % w) (block_words-is homes) in
      let words = block_in s.banks h.bank a.block in
      let reads : word_in words (word_named o (register t to)) ≡ value =
      ap (λ k. word_in words k) named ∙ element-word x label known turn s stands index in
      runs-weaker t (load ∷ []) [] [] (Sets t to value) Done
      (runs-one t load [] (Sets t to value) at'
      (sets-ldw o fits t shape to h.slot to h.bank a.block words value (omega arith) accessed.held reads))
      refl
      (λ u shape' sets. record {
        value = sets.value;
        below = λ r under. sets.others r (λ same. absurd (omega arith)) ∙ accessed.leaves.below r under;
        banks = sets.banks ∙ accessed.leaves.banks;
        slots = sets.slots ∙ accessed.leaves.slots;
        stands = stands-set sets (omega arith) accessed.leaves.stands;
      })))
      (append-nil seen)
      (λ t shape done. done)

  -- an operation on two operands, where what the code of each does is known
  runs-operation : (mode : Mode) (op : Op) (left right : Tree) (to ra rb : ℕ) (first second : List Instr)
      → to + 2 < first_kept f
      → (s : State) → IsShaped o s → StandsFor f s store
      → RunsValue o f store mode to ra left first s
      → ((t : State) → IsShaped o t → StandsFor f t store → RunsValue o f store mode (to + 1) rb right second t)
      → ((t u : State) → StandsFor f t store → StandsFor f u store → ((r : ℕ) → r ≤ to → register u r ≡ register t r)
      → register u ra ≡ register t ra)
      → StandsAt o s.place (first ++ (second ++ Alu op to ra rb ∷ []))
      → RunsThrough o s (first ++ (second ++ Alu op to ra rb ∷ []))
      (seen_of_all mode s.banks s.slots (accesses f store left ++ accesses f store right))
      (LeavesWord f store (accesses f store left ++ accesses f store right) to
      (applied op (evaluated f.decls store left) (evaluated f.decls store right)) s)
  runs-operation mode op left right to ra rb first second room s shaped stands run then_run stays at =
      let a = evaluated f.decls store left in
      let b = evaluated f.decls store right in
      let join = Alu op to ra rb in
      let before = accesses f store left in
      let then = accesses f store right in
      let seen_first = seen_of_all mode s.banks s.slots before in
      let seen_then = seen_of_all mode s.banks (slots_after s.banks s.slots before) then in
      let Done : State → Type 0 = LeavesWord f store (before ++ then) to (applied op a b) s in
      runs-weaker s (first ++ (second ++ join ∷ [])) (seen_first ++ (seen_then ++ []))
      (seen_of_all mode s.banks s.slots (before ++ then)) Done Done
      (runs-append s first (second ++ join ∷ []) seen_first (seen_then ++ []) (LeavesAt f store before to ra a s) Done at
      run
      (λ t shape leaves at'.
      runs-append t second (join ∷ []) seen_then [] (LeavesAt f store then (to + 1) rb b t) Done at'
      (λ at''.
      runs-weaker t second (seen_of_all mode t.banks t.slots then) seen_then (LeavesAt f store then (to + 1) rb b t)
      (LeavesAt f store then (to + 1) rb b t)
      (then_run t shape leaves.stands at'')
      (ap (λ l. seen_of_all mode l t.slots then) leaves.banks ∙ ap (λ l. seen_of_all mode s.banks l then) leaves.slots)
      (λ u shape' h. h))
      (λ u shape' leaves' at''.
      let kept = stays t u leaves.stands leaves'.stands (λ r under. leaves'.below r (omega arith)) in
      let value : applied op (register u ra) (register u rb) ≡ applied op a b =
      ap (λ v. applied op v (register u rb)) (kept ∙ leaves.value)
      ∙ ap (λ v. applied op a v) leaves'.value in
      runs-weaker u (join ∷ []) [] [] (Sets u to (applied op a b)) Done
      (runs-one u join [] (Sets u to (applied op a b)) at''
      (sets-alu o fits u shape' op to ra rb (applied op a b) (omega arith) value))
      refl
      (λ v shape'' sets. record {
        value = sets.value;
        below = λ r under.
            sets.others r (λ same. absurd (omega arith)) ∙ leaves'.below r (omega arith) ∙ leaves.below r under;
        banks = sets.banks ∙ leaves'.banks ∙ leaves.banks;
        slots =
            sets.slots
            ∙ leaves'.slots
            ∙ ap (λ l. slots_after l t.slots then) leaves.banks
            ∙ ap (λ l. slots_after s.banks l then) leaves.slots
            ∙ sym (slots_after-append s.banks s.slots before then);
        stands = stands-set sets (omega arith) leaves'.stands;
      }))))
      (ap (λ l. seen_first ++ l) (append-nil seen_then) ∙ sym (seen_of_all-append mode s.banks s.slots before then))
      (λ t shape done. done)

  -- an operation that steps replace
  runs-stepped : (mode : Mode) (op : Op) (left right : Tree) (steps : List Step) → StepsOf op right steps → (to : ℕ)
      → to + 2 < first_kept f → (s : State) → IsShaped o s → StandsFor f s store
      → (StandsAt o s.place (expr_code f mode to left)
      → RunsThrough o s (expr_code f mode to left) (seen_of_all mode s.banks s.slots (accesses f store left))
      (LeavesWord f store (accesses f store left) to (evaluated f.decls store left) s))
      → StandsAt o s.place (expr_code f mode to left ++ code_of to steps)
      → RunsThrough o s (expr_code f mode to left ++ code_of to steps)
      (seen_of_all mode s.banks s.slots (accesses f store left ++ accesses f store right))
      (LeavesWord f store (accesses f store left ++ accesses f store right) to
      (applied op (evaluated f.decls store left) (evaluated f.decls store right)) s)
  runs-stepped mode op left right steps of to room s shaped stands run at =
      let z = of.number in
      let a = evaluated f.decls store left in
      let first = expr_code f mode to left in
      let before = accesses f store left in
      let seen = seen_of_all mode s.banks s.slots before in
      let replaces = of.replaces in
      let result = applied op a z in
      let same : before ≡ before ++ [] = sym (append-nil before) in
      let Done : State → Type 0 = LeavesWord f store before to result s in
      let runs : RunsThrough o s (first ++ code_of to steps) seen Done =
      runs-weaker s (first ++ code_of to steps) (seen ++ []) seen Done Done
      (runs-append s first (code_of to steps) seen [] (LeavesWord f store before to a s) Done at run
      (λ t shape leaves at'.
      let words : ℕ → ℤ = λ i. register t (numbered to i) in
      runs-weaker t (code_of to steps) [] [] (Leaves to (words_after steps words) t) Done
      (runs-steps o fits to (omega (arith, room)) steps words t replaces.fits shape (λ i low. refl) at')
      refl
      (λ u shape' stepped. record {
        value = stepped.own 0 (omega arith) ∙ replaces.result words (IsWord-register o t shape to)
            ∙ ap (λ v. applied op v z) leaves.value;
        below = λ r under. stepped.below r under ∙ leaves.below r under;
        banks = stepped.banks ∙ leaves.banks;
        slots = stepped.slots ∙ leaves.slots;
        stands =
            stands-like f t u store stepped.slots stepped.banks
            (λ r over. stepped.above r (omega (arith, room, over))) leaves.stands;
      })))
      (append-nil seen)
      (λ t shape done. done) in
      subst (λ (e : Tree). RunsThrough o s (first ++ code_of to steps)
      (seen_of_all mode s.banks s.slots (before ++ accesses f store e))
      (LeavesWord f store (before ++ accesses f store e) to (applied op a (evaluated f.decls store e)) s))
      (sym of.is)
      (subst (λ l. RunsThrough o s (first ++ code_of to steps) (seen_of_all mode s.banks s.slots l)
      (LeavesWord f store l to result s)) same runs)

  -- an operation, whose left side is in a register of its own if steps replace the operation
  runs-either : (mode : Mode) (op : Op) (left right : Tree) (to : ℕ) → to + 2 < first_kept f → (s : State)
      → IsShaped o s
      → StandsFor f s store → (q : Option ℕ) → IsOperandOf f left q
      → RunsExpr o f store mode to left s
      → ((t : State) → IsShaped o t → StandsFor f t store → RunsExpr o f store mode (to + 1) right t)
      → (found : Option (List Step)) → steps_at f op right ≡ found
      → ((steps : List Step) → found ≡ Some steps → q ≡ None)
      → StandsAt o s.place
      (operand_part q (expr_code f mode to left)
      ++ operation_code op to (operand_register q to) (operand_register (operand f right) (to + 1)) found
      (operand_part (operand f right) (expr_code f mode (to + 1) right)))
      → RunsThrough o s
      (operand_part q (expr_code f mode to left)
      ++ operation_code op to (operand_register q to) (operand_register (operand f right) (to + 1)) found
      (operand_part (operand f right) (expr_code f mode (to + 1) right)))
      (seen_of_all mode s.banks s.slots (accesses f store left ++ accesses f store right))
      (LeavesWord f store (accesses f store left ++ accesses f store right) to
      (applied op (evaluated f.decls store left) (evaluated f.decls store right)) s)
  runs-either mode op left right to room s shaped stands q is run then_run None e own at =
      let p = operand f right in
      runs-operation mode op left right to (operand_register q to) (operand_register p (to + 1))
      (operand_part q (expr_code f mode to left)) (operand_part p (expr_code f mode (to + 1) right)) room s shaped stands
      (runs-operand o f store mode left q is to s shaped stands run)
      (λ t shape stands'.
      runs-operand o f store mode right p (λ r held. held) (to + 1) t shape stands' (then_run t shape stands'))
      (operand-stays f store left q is to) at
  runs-either mode op left right to room s shaped stands q is run then_run (Some steps) e own at =
      let first = expr_code f mode to left in
      let before = accesses f store left ++ accesses f store right in
      let Done : State → Type 0 =
      LeavesWord f store before to (applied op (evaluated f.decls store left) (evaluated f.decls store right)) s in
      subst (λ p. StandsAt o s.place (operand_part p first ++ code_of to steps)
      → RunsThrough o s (operand_part p first ++ code_of to steps) (seen_of_all mode s.banks s.slots before) Done)
      (sym (own steps refl))
      (runs-stepped mode op left right steps (steps-of f op right steps e) to room s shaped stands run)
      at

  -- an expression
  pub runs-expression : AreWithin f.ranges store → (mode : Mode) (e : Tree) → TypedTree (context_of f.decls) e
      → (to : ℕ) → to + height_of e ≤ room_of f
      → (s : State) → IsShaped o s → StandsFor f s store → StandsAt o s.place (expr_code f mode to e)
      → RunsThrough o s (expr_code f mode to e) (seen_of_all mode s.banks s.slots (accesses f store e))
      (LeavesWord f store (accesses f store e) to (evaluated f.decls store e) s)
  runs-expression within mode (Number z) typed to room s shaped stands at =
      runs-weaker s (Li to z ∷ []) [] [] (Sets s to z) (LeavesWord f store [] to z s)
      (runs-one s (Li to z) [] (Sets s to z) at (sets-li o fits s shaped to z (omega arith)))
      refl
      (λ t shape sets. leaves-set (omega arith) stands sets)
  runs-expression within mode (Variable x) typed to room s shaped stands at =
      runs-scalar x typed.0 typed.1 to (omega arith) s shaped stands (register_for f x) refl at
  runs-expression within mode (Element x i) typed to room s shaped stands at =
      let way = numbering f mode (home_of f x) i in
      let q = index_operand f way (home_of f x) i in
      let low : to + 3 < first_kept f = omega (arith, height-some i) in
      let apart = operand-apart f i q (operand-unless f i (is_in_place (home_of f x) way)) to in
      runs-element mode x i typed.0.0 typed.0.1 to (operand_register q to) (operand_part q (expr_code f mode to i)) low
      (apart.apart (to + 1) (omega arith) (omega arith)) s shaped stands
      (runs-operand o f store mode i q (operand-unless f i (is_in_place (home_of f x) way)) to s shaped stands
      (runs-expression within mode i typed.1.0 to (omega arith) s shaped stands))
      way (home_of f x).resident (fits-numbering f store within mode (home_of f x) i to) refl at
  runs-expression within mode (Operation op left right) typed to room s shaped stands at =
      runs-either mode op left right to (omega (arith, height-some right)) s shaped stands
      (left_operand f op left right) (operand-unless f left (is_some (steps_at f op right)))
      (runs-expression within mode left typed.0 to (omega arith) s shaped stands)
      (λ t shape stands'. runs-expression within mode right typed.1 (to + 1) (omega arith) t shape stands')
      (steps_at f op right) refl (λ steps e. ap (λ g. operand_unless (is_some g) (operand f left)) e) at
