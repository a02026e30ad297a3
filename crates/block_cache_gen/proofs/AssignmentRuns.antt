-- The code of an assignment, run, leaves the store that it means, or the same store in a mirrored arm.
use Rattle.std.proofs.Common.{◌≡◌, ◌≢◌, ℕ, ◌+◌, ◌/◌, ◌%◌, ◌<◌, ◌≤◌, Bool, true, false, ℤ, pos, List, [], ◌∷◌, ◌++◌, get_or, set, append_assoc, append-nil, Option, Some, None, refl, sym, ap, ◌∙◌, subst, arith}
use Rattle.std.proofs.lemmas.List.{get_or-set_same}
use Rattle.gr_word.specs.Prelude.{applied, IsWord}
use Rattle.gr_word.specs.declared.operations.Op.{Op}
use Rattle.gr_word.specs.declared.variables.Label.{Label}
use Rattle.gr_word.specs.declared.variables.Shape.TheVariants.{Scalar, Array}
use Rattle.lt_isa.specs.declared.instructions.Instr.{Instr}
use Rattle.lt_isa.specs.declared.instructions.Instr.TheVariants.{Li, Alu, Stb}
use Rattle.lt_isa.specs.Prelude.{Parts, block_words, IsInRange, State, Unbound, Bound, register, slot, bank_blocks, word_in, write_event, IsShaped}
use Rattle.stretches.specs.Prelude.{StandsAt, RunsThrough, Sets}
use Rattle.lt_isa.proofs.Shapes.{IsWord-register}
use Rattle.stretches.proofs.Coming.{comes-stb}
use Rattle.stretches.proofs.RunningThrough.{runs-cons, runs-one, runs-append, runs-weaker, sets-li, sets-alu}
use Rattle.src_tree.specs.Prelude.{context_of, height_of, label_of, Store, variable_number, words_of_number, evaluated, with_word, Tree, Variable, Operation, SetVariable, SetElement, TypedTree}
use Rattle.scratch_alloc.proofs.Serving.{serves-within}
use Rattle.scalar_ranges.specs.Prelude.{AreWithin}
use Rattle.block_cache_gen.specs.declared.frames.Mode.{Mode}
use Rattle.block_cache_gen.specs.declared.indexes.Numbering.{Numbering}
use Rattle.block_cache_gen.specs.declared.frames.Mode.TheVariants.{Public, Real, Mirrored}
use Rattle.block_cache_gen.specs.Prelude.{Setting, HasHomes, home_of, words_a_block, register_for, further_slots, fixed_index, access_by, placed_code, index_operand, operand, operand_part, operand_register, expr_code, store_code, stored_by, set_code, is_in_place, numbering, zero_of, copy_code, target, write_code, scalar_set, straight, straight_code, StandsFor, FitsHomes, access_of, accessed_by, accesses, word_number, block_in, slots_after, seen_of_all, Assigns, assigned, by_mode, words_written, write_by, seen_of_set, LeavesWord, room_of}
use Rattle.block_cache_gen.proofs.AccessLaws.{seen_of_all-append}
use Rattle.block_cache_gen.proofs.HomeFacts.{block_words-is}
use Rattle.held_registers.proofs.Copies.{runs-copy}
use Rattle.block_cache_gen.proofs.StraightCodes.{straight-by}
use Rattle.block_cache_gen.proofs.HeldScalars.{array-free}
use Rattle.block_cache_gen.proofs.HeldOperands.{IsApart, operand-apart, operand-outside, operand-stays, operand-unless}
use Rattle.block_cache_gen.proofs.OperandRuns.{LeavesAt, RunsValue, runs-operand}
use Rattle.block_cache_gen.proofs.RegisterWrites.{register-inside, zero-word, stands-scalar_set}
use Rattle.block_cache_gen.proofs.Stands.{stands-set}
use Rattle.block_cache_gen.proofs.Stores.{fits-with_word, with_word-by_mode}
use Rattle.block_cache_gen.proofs.IndexRuns.{FitsNumbering, fits-numbering}
use Rattle.block_cache_gen.proofs.ResidentRuns.{fixed-number, resident-within, runs-placed}
use Rattle.block_cache_gen.proofs.ResidentWrites.{Binds, by_mode-fits, runs-store, runs-put}
use Rattle.block_cache_gen.proofs.SpreadRuns.{runs-stored_by}
use Rattle.block_cache_gen.proofs.WordSlots.{single-slot}
use Rattle.block_cache_gen.proofs.ElementStores.{stands-element_set}
use Rattle.block_cache_gen.proofs.AccessRuns.{Accesses, runs-access, word-within}
use Rattle.block_cache_gen.proofs.ExpressionRuns.{runs-expression, element-word}

module _ (o : Parts) (fits : IsInRange o) (f : Setting) (homes : HasHomes o f) (store : Store)
    (store_fits : FitsHomes f store) where
  -- with the target of a mode set, the machine represents the store with the scalar, or the store as it was
  assigns-left : (mode : Mode) (x : List ℕ) (label : Label) → context_of f.decls x ≡ Some (label, Scalar) → (r : ℕ)
      → register_for f x ≡ Some r → (word : ℤ) (u : State) → StandsFor f u store → (t : State) → IsShaped o t
      → Sets u (target mode r) word t
      → Assigns f (by_mode mode (with_word store (variable_number f.decls x) 0 word) store) t
  assigns-left mode x label known r held word u stands t shape = by mode
    where
      k : ℕ
      k = variable_number f.decls x

      written : Sets u r word t → Assigns f (with_word store k 0 word) t
      written sets =
          let is = subst IsWord sets.value (IsWord-register o t shape r) in
          record {
            stands = stands-scalar_set f homes.held u store stands x r held store_fits o homes label known word t sets;
            fits = fits-with_word f store k 0 word is store_fits;
          }

      by : (m : Mode) → Sets u (target m r) word t → Assigns f (by_mode m (with_word store k 0 word) store) t
      by Public sets = written sets
      by Real sets = written sets
      by Mirrored sets = record { stands = stands-set sets (omega arith) stands; fits = store_fits }

  -- it is one of the machine's registers
  target-inside : (mode : Mode) (x : List ℕ) (r : ℕ) → register_for f x ≡ Some r → (u : State) → StandsFor f u store
      → target mode r < 32
  target-inside Public x r held u stands = register-inside f homes.held u store stands x r held
  target-inside Real x r held u stands = register-inside f homes.held u store stands x r held
  target-inside Mirrored x r held u stands = omega arith

  -- a register that holds a scalar is written
  runs-copied : (mode : Mode) (x : List ℕ) (label : Label) → context_of f.decls x ≡ Some (label, Scalar) → (r : ℕ)
      → register_for f x ≡ Some r → (l : Label) (v : ℕ) (value : ℤ) (u : State) → IsShaped o u → StandsFor f u store
      → register u v ≡ value → StandsAt o u.place (copy_code l (target mode r) v)
      → RunsThrough o u (copy_code l (target mode r) v) []
      (Assigns f (by_mode mode (with_word store (variable_number f.decls x) 0 value) store))
  runs-copied mode x label known r held l v value u shaped stands first at =
      let is : IsWord value = subst IsWord first (IsWord-register o u shaped v) in
      runs-weaker u (copy_code l (target mode r) v) [] [] (Sets u (target mode r) value)
      (Assigns f (by_mode mode (with_word store (variable_number f.decls x) 0 value) store))
      (runs-copy o fits (target mode r) v (zero_of l) value u shaped (target-inside mode x r held u stands) is first
      (zero-word f homes.held u store stands x r held l) at)
      refl
      (λ t shape sets. assigns-left mode x label known r held value u stands t shape sets)

  -- a scalar is written
  runs-written : (mode : Mode) (x : List ℕ) (label : Label) → context_of f.decls x ≡ Some (label, Scalar) → (l : Label)
      (v : ℕ) → IsApart f 0 v → (value : ℤ) (t : State) → IsShaped o t → StandsFor f t store → register t v ≡ value
      → (found : Option ℕ) → register_for f x ≡ found → StandsAt o t.place (write_code f.reduces found l mode (home_of f x) v)
      → RunsThrough o t (write_code f.reduces found l mode (home_of f x) v) []
      (Assigns f (by_mode mode (with_word store (variable_number f.decls x) 0 value) store))
  runs-written mode x label known l v apart value t shaped stands first (Some r) held at =
      runs-copied mode x label known r held l v value t shaped stands first at
  runs-written mode x label known l v apart value t shaped stands first None free at =
      let h = home_of f x in
      let home = homes.scalars x label known in
      let base = Li 1 (pos h.word) in
      let is : IsWord value = subst IsWord first (IsWord-register o t shaped v) in
      runs-cons t base (store_code f.reduces mode h.slot v) [] [] (Sets t 1 (pos h.word))
      (Assigns f (by_mode mode (with_word store (variable_number f.decls x) 0 value) store)) at
      (sets-li o fits t shaped 1 (pos h.word) (omega arith))
      (λ u shape sets at'.
      subst
      (λ k. StandsAt o u.place (store_code f.reduces mode k v) → RunsThrough o u (store_code f.reduces mode k v) []
      (Assigns f (by_mode mode (with_word store (variable_number f.decls x) 0 value) store)))
      (single-slot h.slot (further_slots h) ((h.word + 0) / words_a_block f) home.single)
      (runs-put o fits f homes store store_fits mode x label Scalar known home.resident free 0 (omega (arith, home.length)) v
      (apart.apart 2 (omega arith) (omega arith)) value is u shape
      (stands-set sets (omega arith) stands) (sets.others v (apart.apart 1 (omega arith) (omega arith)) ∙ first)
      (sets.value ∙ ap pos (omega arith)))
      at')

  -- an operation leaves its result in the register that holds a scalar
  runs-straight : AreWithin f.ranges store → (mode : Mode) (x : List ℕ) (label : Label)
      → context_of f.decls x ≡ Some (label, Scalar) → (r : ℕ) → register_for f x ≡ Some r → (op : Op) (a b : Tree)
      → TypedTree (context_of f.decls) (Operation op a b) → height_of (Operation op a b) ≤ room_of f → (s : State)
      → IsShaped o s → StandsFor f s store → StandsAt o s.place (straight_code f mode (target mode r) (Operation op a b))
      → RunsThrough o s (straight_code f mode (target mode r) (Operation op a b))
      (seen_of_set f mode s.banks s.slots store (SetVariable x (Operation op a b)))
      (Assigns f (by_mode mode (assigned f.decls (SetVariable x (Operation op a b)) store) store))
  runs-straight in_ranges mode x label known r held op a b typed room s shaped stands at =
      let q = operand f a in
      let p = operand f b in
      let ra = operand_register q 0 in
      let rb = operand_register p 1 in
      let to = target mode r in
      let left = evaluated f.decls store a in
      let right = evaluated f.decls store b in
      let value = applied op left right in
      let first = operand_part q (expr_code f mode 0 a) in
      let second = operand_part p (expr_code f mode 1 b) in
      let join = Alu op to ra rb in
      let before = accesses f store a in
      let then = accesses f store b in
      let seen_first = seen_of_all mode s.banks s.slots before in
      let seen_then = seen_of_all mode s.banks (slots_after s.banks s.slots before) then in
      let Done : State → Type 0 =
      Assigns f (by_mode mode (with_word store (variable_number f.decls x) 0 value) store) in
      runs-weaker s (first ++ (second ++ join ∷ [])) (seen_first ++ (seen_then ++ []))
      (seen_of_all mode s.banks s.slots (before ++ then) ++ []) Done Done
      (runs-append s first (second ++ join ∷ []) seen_first (seen_then ++ []) (LeavesAt f store before 0 ra left s) Done at
      (runs-operand o f store mode a q (λ r held. held) 0 s shaped stands
      (runs-expression o fits f homes store store_fits in_ranges mode a typed.0 0 (omega (arith, room)) s shaped stands))
      (λ t shape leaves at'.
      runs-append t second (join ∷ []) seen_then [] (LeavesAt f store then 1 rb right t) Done at'
      (λ at''.
      runs-weaker t second (seen_of_all mode t.banks t.slots then) seen_then (LeavesAt f store then 1 rb right t)
      (LeavesAt f store then 1 rb right t)
      (runs-operand o f store mode b p (λ r held. held) 1 t shape leaves.stands
      (runs-expression o fits f homes store store_fits in_ranges mode b typed.1 1 (omega (arith, room)) t shape
      leaves.stands) at'')
      (ap (λ l. seen_of_all mode l t.slots then) leaves.banks ∙ ap (λ l. seen_of_all mode s.banks l then) leaves.slots)
      (λ u shape' h. h))
      (λ u shape' leaves' at''.
      let kept = operand-stays f store a q (λ r held. held) 0 t u leaves.stands leaves'.stands
      (λ r under. leaves'.below r (omega arith)) in
      let result : applied op (register u ra) (register u rb) ≡ value =
      ap (λ v. applied op v (register u rb)) (kept ∙ leaves.value) ∙ ap (λ v. applied op left v) leaves'.value in
      runs-weaker u (join ∷ []) [] [] (Sets u to value) Done
      (runs-one u join [] (Sets u to value) at''
      (sets-alu o fits u shape' op to ra rb value (target-inside mode x r held u leaves'.stands) result))
      refl
      (λ v shape'' sets. assigns-left mode x label known r held value u leaves'.stands v shape'' sets))))
      (ap (λ l. seen_first ++ l) (append-nil seen_then)
      ∙ sym (seen_of_all-append mode s.banks s.slots before then)
      ∙ sym (append-nil (seen_of_all mode s.banks s.slots (before ++ then))))
      (λ t shape done. done)

  -- an assignment whose value is written after it is found
  runs-set_written : AreWithin f.ranges store → (mode : Mode) (x : List ℕ) (label : Label)
      → context_of f.decls x ≡ Some (label, Scalar) → (e : Tree) → TypedTree (context_of f.decls) e
      → height_of e ≤ room_of f
      → (s : State) → IsShaped o s → StandsFor f s store → StandsAt o s.place (scalar_set None f mode x e)
      → RunsThrough o s (scalar_set None f mode x e) (seen_of_set f mode s.banks s.slots store (SetVariable x e))
      (Assigns f (by_mode mode (assigned f.decls (SetVariable x e) store) store))
  runs-set_written in_ranges mode x label known e typed room s shaped stands at =
      let h = home_of f x in
      let l = label_of (context_of f.decls) (Variable x) in
      let value = evaluated f.decls store e in
      let before = accesses f store e in
      let q = operand f e in
      let v = operand_register q 0 in
      let write = write_code f.reduces (register_for f x) l mode h v in
      let Done : State → Type 0 =
      Assigns f (by_mode mode (with_word store (variable_number f.decls x) 0 value) store) in
      runs-append s (operand_part q (expr_code f mode 0 e)) write (seen_of_all mode s.banks s.slots before) []
      (LeavesAt f store before 0 v value s) Done at
      (runs-operand o f store mode e q (λ r held. held) 0 s shaped stands
      (runs-expression o fits f homes store store_fits in_ranges mode e typed 0 (omega arith) s shaped stands))
      (λ t shape leaves at'.
      runs-written mode x label known l v (operand-apart f e q (λ r held. held) 0) value t shape leaves.stands leaves.value
      (register_for f x) refl at')

  -- an assignment to a scalar
  pub runs-set_variable : AreWithin f.ranges store → (mode : Mode) (x : List ℕ) (label : Label)
      → context_of f.decls x ≡ Some (label, Scalar) → (e : Tree) → TypedTree (context_of f.decls) e
      → height_of e ≤ room_of f
      → (s : State) → IsShaped o s → StandsFor f s store → StandsAt o s.place (set_code f mode (SetVariable x e))
      → RunsThrough o s (set_code f mode (SetVariable x e)) (seen_of_set f mode s.banks s.slots store (SetVariable x e))
      (Assigns f (by_mode mode (assigned f.decls (SetVariable x e) store) store))
  runs-set_variable in_ranges mode x label known e typed room s shaped stands = by (straight f x e) refl
    where
      by : (found : Option ℕ) → straight f x e ≡ found → StandsAt o s.place (scalar_set found f mode x e)
          → RunsThrough o s (scalar_set found f mode x e) (seen_of_set f mode s.banks s.slots store (SetVariable x e))
          (Assigns f (by_mode mode (assigned f.decls (SetVariable x e) store) store))
      by None is at = runs-set_written in_ranges mode x label known e typed room s shaped stands at
      by (Some r) is at =
          straight-by f x e r is
          (λ t. TypedTree (context_of f.decls) t → height_of t ≤ room_of f
          → StandsAt o s.place (straight_code f mode (target mode r) t)
          → RunsThrough o s (straight_code f mode (target mode r) t)
          (seen_of_set f mode s.banks s.slots store (SetVariable x t))
          (Assigns f (by_mode mode (assigned f.decls (SetVariable x t) store) store)))
          (λ op a b straight_is typed_value low at_value.
          runs-straight in_ranges mode x label known r straight_is.held op a b typed_value low s shaped stands at_value)
          typed room at

  -- the same where the array is resident or isn't
  runs-set_by : AreWithin f.ranges store → (mode : Mode) (x : List ℕ) (label : Label) → context_of f.decls x ≡ Some (label, Array)
      → (i e : Tree) → TypedTree (context_of f.decls) i → TypedTree (context_of f.decls) e → 1 + height_of i ≤ room_of f
      → height_of e ≤ room_of f → (s : State) → IsShaped o s → StandsFor f s store
      → (way : Numbering) (resident : Bool) (from : ℕ) (index : List Instr) → from ≢ 2
      → FitsNumbering way (home_of f x) 1 from (evaluated f.decls store i)
      → ((t : State) → IsShaped o t → StandsFor f t store → RunsValue o f store mode 1 from i index t)
      → (home_of f x).resident ≡ resident
      → StandsAt o s.place
      (operand_part (operand f e) (expr_code f mode 0 e)
      ++ (access_by resident way f mode (home_of f x) 1 from (fixed_index (home_of f x) i) index
      ++ stored_by resident f mode (home_of f x) (fixed_index (home_of f x) i) (operand_register (operand f e) 0)))
      → RunsThrough o s
      (operand_part (operand f e) (expr_code f mode 0 e)
      ++ (access_by resident way f mode (home_of f x) 1 from (fixed_index (home_of f x) i) index
      ++ stored_by resident f mode (home_of f x) (fixed_index (home_of f x) i) (operand_register (operand f e) 0)))
      (seen_of_all mode s.banks s.slots
      (accesses f store e
      ++ (accesses f store i ++ accessed_by resident (access_of f store x (evaluated f.decls store i))))
      ++ write_by resident
      (write_event (home_of f x).bank (access_of f store x (evaluated f.decls store i)).block
      (words_written mode
      (block_in s.banks (home_of f x).bank (access_of f store x (evaluated f.decls store i)).block)
      (word_number f store x (evaluated f.decls store i) % words_a_block f) (evaluated f.decls store e))))
      (Assigns f (by_mode mode (assigned f.decls (SetElement x i e) store) store))
  runs-set_by in_ranges mode x label known i e typed_index typed room_index room s shaped stands way true from index_code other
      own run resident at =
      let h = home_of f x in
      let k = variable_number f.decls x in
      let value = evaluated f.decls store e in
      let index = evaluated f.decls store i in
      let n = word_number f store x index in
      let within = resident-within o fits f homes store store_fits x label Array known resident index in
      let before = accesses f store e in
      let then = accesses f store i in
      let q = operand f e in
      let v = operand_register q 0 in
      let apart = operand-apart f e q (λ r held. held) 0 in
      let first = operand_part q (expr_code f mode 0 e) in
      let access = placed_code way f h 1 from (fixed_index h i) index_code in
      let store_word = stored_by true f mode h (fixed_index h i) v in
      let seen_first = seen_of_all mode s.banks s.slots before in
      let seen_then = seen_of_all mode s.banks (slots_after s.banks s.slots before) then in
      let Done : State → Type 0 = Assigns f (by_mode mode (with_word store k n value) store) in
      let Placed : State → State → Type 0 = LeavesWord f store then 1 (pos (h.word + n)) in
      let shown : seen_first ++ (seen_then ++ [])
      ≡ seen_of_all mode s.banks s.slots (before ++ (then ++ [])) ++ [] =
      ap (λ l. seen_first ++ l) (append-nil seen_then)
      ∙ sym (seen_of_all-append mode s.banks s.slots before then)
      ∙ ap (λ l. seen_of_all mode s.banks s.slots (before ++ l)) (sym (append-nil then))
      ∙ sym (append-nil (seen_of_all mode s.banks s.slots (before ++ (then ++ [])))) in
      runs-weaker s (first ++ (access ++ store_word)) (seen_first ++ (seen_then ++ []))
      (seen_of_all mode s.banks s.slots (before ++ (then ++ [])) ++ []) Done Done
      (runs-append s first (access ++ store_word) seen_first (seen_then ++ [])
      (LeavesAt f store before 0 v value s) Done at
      (runs-operand o f store mode e q (λ r held. held) 0 s shaped stands
      (runs-expression o fits f homes store store_fits in_ranges mode e typed 0 (omega arith) s shaped stands))
      (λ t shape leaves at'.
      let is : IsWord value = subst IsWord leaves.value (IsWord-register o t shape v) in
      runs-append t access store_word seen_then [] (Placed t) Done at'
      (λ at''.
      runs-weaker t access (seen_of_all mode t.banks t.slots then) seen_then (Placed t) (Placed t)
      (runs-placed o fits f homes store store_fits x label Array known resident mode 1 from i index_code t shape
      leaves.stands (omega arith) other (run t shape leaves.stands) way own (fixed_index h i) refl at'')
      (ap (λ l. seen_of_all mode l t.slots then) leaves.banks ∙ ap (λ l. seen_of_all mode s.banks l then) leaves.slots)
      (λ u shape' done. done))
      (λ u shape' placed at''.
      runs-stored_by o fits f homes store store_fits x label Array known resident (array-free f homes.held x label known) n
      within u shape' placed.stands mode v (operand-outside f e q (λ r held. held)) value is
      (operand-stays f store e q (λ r held. held) 0 t u leaves.stands placed.stands
      (λ r under. placed.below r (omega arith)) ∙ leaves.value) placed.value (fixed_index h i)
      (λ z found. fixed-number o fits f homes store store_fits x label Array known resident i z found) at'')))
      shown
      (λ t shape done. done)
  runs-set_by in_ranges mode x label known i e typed_index typed room_index room s shaped stands way false from index_code other
      own run turn at =
      let h = home_of f x in
      let home = homes.arrays x label known turn in
      let served = serves-within home.slot in
      let k = variable_number f.decls x in
      let value = evaluated f.decls store e in
      let index = evaluated f.decls store i in
      let n = word_number f store x index in
      let a = access_of f store x index in
      let b = a.block in
      let w = words_a_block f in
      let before = accesses f store e in
      let then = accesses f store i ++ access_of f store x index ∷ [] in
      let q = operand f e in
      let v = operand_register q 0 in
      let apart = operand-apart f e q (λ r held. held) 0 in
      let first = operand_part q (expr_code f mode 0 e) in
      let access = access_by false way f mode h 1 from (fixed_index h i) index_code in
      let store_word = store_code f.reduces mode h.slot v in
      let store_block = Stb h.slot in
      let seen_first = seen_of_all mode s.banks s.slots before in
      let seen_then = seen_of_all mode s.banks (slots_after s.banks s.slots before) then in
      let write = write_event a.home.bank b (words_written mode (block_in s.banks a.home.bank b) (n % w) value) ∷ [] in
      let after = by_mode mode (with_word store k n value) store in
      let Done : State → Type 0 = Assigns f after in
      let shown : seen_first ++ (seen_then ++ write) ≡ seen_of_all mode s.banks s.slots (before ++ then) ++ write =
      sym (append_assoc seen_first seen_then write)
      ∙ ap (λ l. l ++ write) (sym (seen_of_all-append mode s.banks s.slots before then)) in
      runs-weaker s (first ++ (access ++ (store_word ++ store_block ∷ []))) (seen_first ++ (seen_then ++ write))
      (seen_of_all mode s.banks s.slots (before ++ then) ++ write) Done Done
      (runs-append s first (access ++ (store_word ++ store_block ∷ [])) seen_first (seen_then ++ write)
      (LeavesAt f store before 0 v value s) Done at
      (runs-operand o f store mode e q (λ r held. held) 0 s shaped stands
      (runs-expression o fits f homes store store_fits in_ranges mode e typed 0 (omega arith) s shaped stands))
      (λ t shape leaves at'.
      let is : IsWord value = subst IsWord leaves.value (IsWord-register o t shape v) in
      runs-append t access (store_word ++ store_block ∷ []) seen_then write
      (Accesses f store (accesses f store i) a 1 n t) Done at'
      (λ at''.
      runs-weaker t access (seen_of_all mode t.banks t.slots then) seen_then
      (Accesses f store (accesses f store i) a 1 n t) (Accesses f store (accesses f store i) a 1 n t)
      (runs-access o fits f homes store store_fits x label known turn way mode 1 from i index_code t shape
      leaves.stands (omega arith) other own (run t shape leaves.stands) at'')
      (ap (λ l. seen_of_all mode l t.slots then) leaves.banks ∙ ap (λ l. seen_of_all mode s.banks l then) leaves.slots)
      (λ u shape' done. done))
      (λ u shape' accessed at''.
      let words = block_in u.banks h.bank b in
      let held : slot u h.slot ≡ Bound h.bank b words =
      accessed.held ∙ ap (λ l. Bound h.bank b (block_in l h.bank b)) (sym accessed.leaves.banks) in
      let written = words_written mode words (n % block_words o) value in
      let found = Bound h.bank b written in
      runs-append u store_word (store_block ∷ []) [] write (Binds h.slot found u) Done at''
      (runs-store o fits f.reduces mode h.slot v h.bank b n words value u shape' held
      (operand-stays f store e q (λ r held'. held') 0 t u leaves.stands accessed.leaves.stands
      (λ r under. accessed.leaves.below r (omega arith)) ∙ leaves.value)
      (apart.apart 2 (omega arith) (omega arith)) accessed.leaves.value)
      (λ after_store shape'' binds at3.
      let bound_here : slot after_store h.slot ≡ found =
      ap (λ l. get_or l h.slot Unbound) binds.slots
      ∙ get_or-set_same u.slots h.slot found Unbound (omega (arith, shape'.slot_count, served)) in
      let reads : word_in words (n % w) ≡ get_or (words_of_number store k) n (pos 0) =
      element-word o fits f homes store store_fits x label known turn u accessed.leaves.stands index in
      let word = by_mode mode value (get_or (words_of_number store k) n (pos 0)) in
      let same_words : written ≡ set words (n % w) word =
      ap (λ m. words_written mode words (n % m) value) (block_words-is homes)
      ∙ ap (λ z. set words (n % w) (by_mode mode value z)) reads in
      let same_write : write_event h.bank b written ∷ [] ≡ write =
      ap (λ m. write_event h.bank b (words_written mode words (n % m) value) ∷ []) (block_words-is homes)
      ∙ ap (λ l. write_event h.bank b (words_written mode (block_in l h.bank b) (n % w) value) ∷ [])
      (accessed.leaves.banks ∙ leaves.banks) in
      let slots : after_store.slots ≡ set u.slots h.slot (Bound h.bank b (set words (n % w) word)) =
      binds.slots ∙ ap (λ l. set u.slots h.slot (Bound h.bank b l)) same_words in
      let banks : set after_store.banks h.bank (set (bank_blocks after_store h.bank) b written)
      ≡ set u.banks h.bank (set (bank_blocks u h.bank) b (set words (n % w) word)) =
      ap (λ l. set l h.bank (set (get_or l h.bank []) b written)) binds.banks
      ∙ ap (λ l. set u.banks h.bank (set (bank_blocks u h.bank) b l)) same_words in
      runs-weaker after_store (store_block ∷ []) (write_event h.bank b written ∷ []) write Done Done
      (runs-one after_store store_block (write_event h.bank b written ∷ []) Done at3
      (λ standing.
      comes-stb o fits after_store shape'' h.slot h.bank b written Done standing bound_here
      (record {
        stands =
            subst (StandsFor f _) (with_word-by_mode mode store k n value)
            (stands-element_set o fits f homes u shape' store store_fits accessed.leaves.stands x label known turn n
            (word-within o fits f homes store store_fits x label known turn index) word _ slots banks
            (λ r over. binds.above r (omega (arith, over))));
        fits = by_mode-fits mode f (with_word store k n value) store
            (fits-with_word f store k n value is store_fits) store_fits;
      })))
      same_write
      (λ x shape''' done. done)))))
      shown
      (λ t shape done. done)

  -- an assignment to an element
  pub runs-set_element : AreWithin f.ranges store → (mode : Mode) (x : List ℕ) (label : Label) → context_of f.decls x ≡ Some (label, Array)
      → (i e : Tree) → TypedTree (context_of f.decls) i → TypedTree (context_of f.decls) e → 1 + height_of i ≤ room_of f
      → height_of e ≤ room_of f
      → (s : State) → IsShaped o s → StandsFor f s store → StandsAt o s.place (set_code f mode (SetElement x i e))
      → RunsThrough o s (set_code f mode (SetElement x i e))
      (seen_of_set f mode s.banks s.slots store (SetElement x i e))
      (Assigns f (by_mode mode (assigned f.decls (SetElement x i e) store) store))
  runs-set_element in_ranges mode x label known i e typed_index typed room_index room s shaped stands at =
      let way = numbering f mode (home_of f x) i in
      let q = index_operand f way (home_of f x) i in
      let apart = operand-apart f i q (operand-unless f i (is_in_place (home_of f x) way)) 1 in
      runs-set_by in_ranges mode x label known i e typed_index typed room_index room s shaped stands way (home_of f x).resident
      (operand_register q 1) (operand_part q (expr_code f mode 1 i)) (apart.apart 2 (omega arith) (omega arith))
      (fits-numbering f store in_ranges mode (home_of f x) i 1)
      (λ t shape stands'. runs-operand o f store mode i q (operand-unless f i (is_in_place (home_of f x) way)) 1 t shape stands'
      (runs-expression o fits f homes store store_fits in_ranges mode i typed_index 1 room_index t shape stands'))
      refl at
