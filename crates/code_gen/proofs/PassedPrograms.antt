-- An object with the code and the notes of a program is accepted.
use Rattle.std.proofs.Common.{◌≡◌, ℕ, zero, suc, ◌+◌, ◌-◌, ◌<◌, ◌≤◌, Bool, true, false, ◌&&◌, pos, List, [], ◌∷◌, ◌++◌, length, length-append, get_or, inl, Option, Some, None, refl, sym, ap, ◌∙◌, subst, arith, append_assoc, length-set}
use Rattle.std.specs.List.{slice_get}
use Rattle.std.specs.Option.{option_map}
use Rattle.lt_isa.specs.declared.symbols.Note.{Note}
use Rattle.lt_isa.specs.declared.instructions.Instr.{Instr}
use Rattle.lt_isa.specs.declared.instructions.Instr.TheVariants.{Li, Ldb, Stb, Halt}
use Rattle.lt_isa.specs.Prelude.{Parts}
use Rattle.src_tree.specs.Prelude.{context_of, max_weight, LowBlock, block_weight, Block, TypedBlock, DeclaredOnce, secret_label}
use Rattle.trace_patterns.specs.Prelude.{Known, is_secret, bank_known, set_secret, set_bank, start_known, note_known, Leaves, shows_block, note_of_place, claimed_at, ruling_of, Accepts, has_secret_in_ram}
use Rattle.stretches.specs.Prelude.{StandsAt, AsItComes, Done, HoldsAt, Passes}
use Rattle.stretches.proofs.Standing.{standing-first, standing-rest, standing-head, standing-whole}
use Rattle.stretches.proofs.Passed.{passes-then, passes-to, passes-goes, passes-noted, GoesOn, NoMore, One, goes-then, ruled-at, rules-li, rules-ldb, rules-stb, secret-same, bank-same, bank-other, LieBetween, no_note-before, no_note-behind}
use Rattle.stretches.proofs.PassedCode.{passes-accepted}
use Rattle.scratch_alloc.specs.declared.plans.Pin.{Pin}
use Rattle.block_cache_gen.specs.Prelude.{Held, Setting, HasHomes, held_label, home_of, label_by, HasSecretSlot, begin_code, end_code, each_held, first_blocks, Carries, BlockHasPublicIndexes}
use Rattle.block_cache_gen.proofs.Ranged.{homes-ranged, block-ranged}
use Rattle.block_cache_gen.proofs.NamesOfHomes.{array-used, array-served}
use Rattle.block_cache_gen.proofs.ServedBlocks.{first-pinned, first-served}
use Rattle.code_gen.specs.Prelude.{Padding, block_code, block_notes, block_ends_noted, load_code, pin_store, each_slot, beginning, ending, program_code, program_notes}
use Rattle.compiled_objects.specs.Prelude.{at_start}
use Rattle.gr_word.specs.declared.variables.Label.{Label}
use Rattle.held_registers.specs.Prelude.{held_at, label_held}
use Rattle.held_registers.proofs.Found.{held-high}
use Rattle.block_cache_gen.proofs.HeldScalars.{held-listed}
use Rattle.code_gen.proofs.PassedRegisters.{KnowsPins, all_held, got_from, stored_scalars}
use Rattle.code_gen.proofs.PassedParts.{IsOpenAt, rise-lies, end-open, held-open, stands-as}
use Rattle.code_gen.proofs.RangedParts.{noted-ranged, passed-ranged}
use Rattle.code_gen.proofs.PassedStatements.{BeginsGuarded, PassesPadded, Relies, block-noted, block-passed}
use Rattle.gr_word.specs.declared.variables.Label.TheVariants as label

-- what is known in the loads of a program's beginning is of all registers and slots
record Loading (k : Known) : Type 0 where
  registers : length k.secret ≡ 32
  slots : length k.banks ≡ 8

-- after the load of a slot, if there is a block
record Loaded (o : Parts) (p : ℕ) (code : List Instr) (block : Option Pin) (slot : ℕ) (k : Known) : Type 0 where
  after : Known
  goes : GoesOn o p code k after
  loading : Loading after
  here : (q : Pin) → block ≡ Some q → bank_known after slot ≡ Some q.bank
  there : (s : ℕ) → (s ≡ slot → ⊥) → bank_known after s ≡ bank_known k s

loaded_if : (o : Parts) (p : ℕ) (block : Option Pin) (slot : ℕ) (k : Known) → slot < 8 → Loading k
    → Loaded o p (load_code slot block) block slot k
loaded_if o p (Some b) slot k low l =
    let sizes = l.slots in
    let registers = l.registers in
    let number = set_secret k 0 false in
    let last = set_bank number slot b.bank in
    record {
      after = last;
      goes
          = One p (Li 0 (pos b.block)) (Ldb slot b.bank 0 ∷ []) k number last (rules-li o p k 0 (pos b.block))
          (One (p + 1) (Ldb slot b.bank 0) [] number last last
          (rules-ldb o (p + 1) number slot b.bank 0
          (hidden (shows_block b.bank) (secret-same k 0 false (omega arith)))) (NoMore (p + 1 + 1) last));
      loading
          = record {
            registers = length-set k.secret 0 false ∙ l.registers;
            slots = length-set k.banks slot (Some b.bank) ∙ l.slots;
          };
      here = λ q e.
          let f : ◌≡◌ {A = Option Pin} (Some b) (Some q) = e in
          let same : b ≡ q = cc in
          bank-same number slot b.bank (omega arith) ∙ ap (λ (r : Pin). Some r.bank) same;
      there = λ s apart. bank-other number slot b.bank s apart;
    }
  where
    hidden : (b : Bool) {s : Bool} → s ≡ false → (b && s) ≡ false
    hidden true e = e
    hidden false e = refl
loaded_if o p None slot k low l = record {
  after = k;
  goes = NoMore p k;
  loading = l;
  here = λ q e. absurd (let f : ◌≡◌ {A = Option Pin} None (Some q) = e in cc);
  there = λ s apart. refl;
}

start_loading : Loading start_known
unfolding start_known
start_loading = record { registers = refl; slots = refl }

-- after the loads of the slots from one on
record LoadedFrom (o : Parts) (p slot : ℕ) (blocks : List (Option Pin)) (k : Known) : Type 0 where
  after : Known
  goes : GoesOn o p (each_slot load_code slot blocks) k after
  loading : Loading after
  loaded : (i : ℕ) (q : Pin) → get_or blocks i None ≡ Some q → bank_known after (slot + i) ≡ Some q.bank
  below : (s : ℕ) → s < slot → bank_known after s ≡ bank_known k s

loaded_from : (o : Parts) (p slot : ℕ) (blocks : List (Option Pin)) (k : Known) → slot + length blocks ≤ 8 → Loading k
    → LoadedFrom o p slot blocks k
loaded_from o p slot [] k few l = record {
  after = k;
  goes = NoMore p k;
  loading = l;
  loaded = λ i q e. absurd (let f : ◌≡◌ {A = Option Pin} None (Some q) = e in cc);
  below = λ s low. refl;
}
loaded_from o p slot (block ∷ blocks) k few l =
    let a = loaded_if o p block slot k (omega (arith, few)) l in
    let code = load_code slot block in
    let rest = loaded_from o (p + length code) (slot + 1) blocks a.after (omega (arith, few)) a.loading in
    record {
      after = rest.after;
      goes
          = goes-then o p code (each_slot load_code (slot + 1) blocks) k a.after rest.after a.goes rest.goes;
      loading = rest.loading;
      loaded = by a.after rest.after a.here rest.loaded rest.below;
      below = λ s low. rest.below s (omega arith) ∙ a.there s (λ e. absurd (omega (arith, e, low)));
    }
  where
    by : (k last : Known) → ((q : Pin) → block ≡ Some q → bank_known k slot ≡ Some q.bank)
        → ((i : ℕ) (q : Pin) → get_or blocks i None ≡ Some q → bank_known last (slot + 1 + i) ≡ Some q.bank)
        → ((s : ℕ) → s < slot + 1 → bank_known last s ≡ bank_known k s)
        → (i : ℕ) (q : Pin) → get_or (block ∷ blocks) i None ≡ Some q → bank_known last (slot + i) ≡ Some q.bank
    by k last here loaded below zero q e =
        let same : slot + 0 ≡ slot = omega arith in
        ap (bank_known last) same ∙ below slot (omega arith) ∙ here q e
    by k last here loaded below (suc i) q e =
        let same : slot + suc i ≡ slot + 1 + i = omega arith in ap (bank_known last) same ∙ loaded i q e

-- the whole beginning
record Begun (o : Parts) (f : Setting) (p : ℕ) (code : List Instr) (k : Known) : Type 0 where
  after : Known
  goes : GoesOn o p code k after
  carries : Carries f after

begun : (o : Parts) (f : Setting) → HasHomes o f → DeclaredOnce f.decls → HasSecretSlot f
    → Begun o f 0 (beginning f) start_known
begun o f homes once slot =
    let a = loaded_from o 0 0 (first_blocks f) start_known (omega arith) start_loading in
    let l = a.loading in
    let loads = each_slot load_code 0 (first_blocks f) in
    let known : (slot : ℕ) (q : Pin) → get_or (first_blocks f) slot None ≡ Some q
    → bank_known a.after slot ≡ Some q.bank = (λ slot q e.
    let same : slot ≡ 0 + slot = omega arith in ap (bank_known a.after) same ∙ a.loaded slot q e) in
    let pins : KnowsPins f a.after = λ slot q is few apart. known slot q (first-pinned f slot q few apart is) in
    let few = homes.held.few in
    let g = got_from o f homes once slot (0 + length loads) 19 f.held a.after (all_held f) (omega arith) (omega arith) l.registers pins in
    let still : (slot : ℕ) → bank_known g.after slot ≡ bank_known a.after slot =
    λ slot. ap (λ (banks : List (Option ℕ)). get_or banks slot None) g.banks in
    record {
      after = g.after;
      goes = goes-then o 0 loads (each_held (begin_code f) 19 f.held) start_known a.after g.after a.goes g.goes;
      carries
          = record {
            registers = g.registers;
            slots = ap length g.banks ∙ l.slots;
            pinned = λ slot q is few apart. still slot ∙ pins slot q is few apart;
            arrays = λ x label declared turn range.
                let h = home_of f x in
                let first =
                first-served f h.slot h.bank (array-served o f homes x label declared turn range)
                (homes.arrays x label declared turn).unpinned (array-used o f homes x label declared) in
                still h.slot ∙ known h.slot (record { bank = h.bank; block = first.0 }) first.1;
            held = held_by g.after g.own;
          };
    }
  where
    held_by : (last : Known)
        → ((i : ℕ) (h : Held) (l : Label) → slice_get f.held i ≡ Some h → label_held f.decls h ≡ Some l
        → is_secret last (19 + i) ≡ secret_label l)
        → (r : ℕ) (l : Label) → held_label f r ≡ Some l → is_secret last r ≡ secret_label l
    held_by last own r l is = by (held_at f.held r) refl is
      where
        by : (q : Option Held) → held_at f.held r ≡ q → label_by f.decls q ≡ Some l
            → is_secret last r ≡ secret_label l
        by None at e = absurd (let g : ◌≡◌ {A = Option Label} None (Some l) = e in cc)
        by (Some h) at e =
            let high = held-high f.held r h at in
            let same : r ≡ 19 + (r - 19) = omega arith in
            ap (is_secret last) same ∙ own (r - 19) h l (held-listed f.held r h at) e

-- the stores of pinned slots from one on
stores-go : (o : Parts) (p slot : ℕ) (pins : List (Option Pin)) (k : Known)
    → ((i : ℕ) (q : Pin) → get_or pins i None ≡ Some q → bank_known k (slot + i) ≡ Some q.bank)
    → GoesOn o p (each_slot pin_store slot pins) k k
stores-go o p slot [] k known = NoMore p k
stores-go o p slot (None ∷ pins) k known =
    stores-go o p (slot + 1) pins k
    (λ i q e. let same : slot + 1 + i ≡ slot + suc i = omega arith in ap (bank_known k) same ∙ known (suc i) q e)
stores-go o p slot (Some r ∷ pins) k known =
    let first : slot ≡ slot + 0 = omega arith in
    One p (Stb slot) (each_slot pin_store (slot + 1) pins) k k k
    (rules-stb o p k slot r.bank (ap (bank_known k) first ∙ known 0 r refl))
    (stores-go o (p + 1) (slot + 1) pins k
    (λ i q e. let same : slot + 1 + i ≡ slot + suc i = omega arith in ap (bank_known k) same ∙ known (suc i) q e))

-- From a place where this holds such code is passed up to the place after it, where that holds.
record Ended (o : Parts) (p q : ℕ) (comes holds : Known) : Type 0 where
  last : Known
  passes : Passes o p comes q last
  here : HoldsAt o q last holds

ended : (o : Parts) (p : ℕ) (code : List Instr) (comes holds after : Known) → HoldsAt o p comes holds
    → GoesOn o p code holds after → StandsAt o p code → ((r : ℕ) → p < r → claimed_at o r ≡ None)
    → p + length code < length o.code → Ended o p (p + length code) comes after
ended o p [] comes holds after here (NoMore q k) at quiet inside =
    let same : p ≡ p + 0 = omega arith in
    record {
      last = comes;
      passes = passes-to o p comes p (p + 0) comes same (Done p comes);
      here = subst (λ q. HoldsAt o q comes holds) same here;
    }
ended o p (i ∷ code) comes holds after here goes at quiet inside = record {
  last = after;
  passes = passes-noted o p i code comes holds after here goes at (λ r over under. quiet r over) inside;
  here = AsItComes after (quiet (p + length (i ∷ code)) (omega arith));
}

-- the end of a program
halts : (o : Parts) (p : ℕ) (k : Known) → ruling_of o p k Halt ≡ Leaves
unfolding ruling_of
halts o p k = refl

notes_claim : (o : Parts) (notes : List Note) (r : ℕ) → o.notes ≡ notes
    → claimed_at o r ≡ option_map note_known (note_of_place notes r)
unfolding claimed_at
notes_claim o notes r same = ap (λ (ns : List Note). option_map note_known (note_of_place ns r)) same

-- an object with a program's code and notes is accepted
pub program-accepts : (o : Parts) (f : Setting) (padded : Padding) (body : Block) → HasHomes o f → DeclaredOnce f.decls
    → HasSecretSlot f → BeginsGuarded padded → PassesPadded o f padded → TypedBlock (context_of f.decls) label.Public body
    → BlockHasPublicIndexes f body → LowBlock body → block_weight (context_of f.decls) label.Public body ≤ max_weight
    → o.code ≡ program_code f padded body → o.notes ≡ program_notes f padded body → has_secret_in_ram o ≡ false
    → Accepts o
program-accepts o f padded body homes once slot begins secret typed indexes low light coded noted symbols =
    let start = beginning f in
    let inner = at_start f in
    let middle = block_code inner padded body in
    let p = length start in
    let q = p + length middle in
    let notes = block_notes inner padded p body in
    let scalars = each_held (end_code f) 19 f.held in
    let blocks = each_slot pin_store 0 f.pins in
    let stores = scalars ++ blocks in
    let last = ending f in
    let regrouped : last ≡ stores ++ Halt ∷ [] = sym (append_assoc scalars blocks (Halt ∷ [])) in
    let size : length (start ++ (middle ++ last)) ≡ p + (length middle + (length stores + 1)) =
    length-append start (middle ++ last)
    ∙ ap (λ (n : ℕ). p + n)
    (length-append middle last
    ∙ ap (λ (n : ℕ). length middle + n) (ap length regrouped ∙ length-append stores (Halt ∷ []))) in
    let whole : length o.code ≡ p + (length middle + (length stores + 1)) = ap length coded ∙ size in
    let stands : StandsAt o 0 (start ++ (middle ++ last)) = standing-whole o (start ++ (middle ++ last)) coded in
    let part = noted-ranged f inner.ranges middle (λ p. block_notes inner padded p body)
    (block_ends_noted f.decls body) (block-noted padded begins inner body) in
    let lie : LieBetween p (q + 1) notes = rise-lies f (p + 1) p (q + 1) notes (omega arith) (part.rises p) in
    let at : (r : ℕ) → claimed_at o r
    ≡ option_map note_known (note_of_place notes r) = (λ r. notes_claim o notes r noted) in
    let none_low : (r : ℕ) → r ≤ p → claimed_at o r ≡ None = (λ r le. at r
    ∙ ap (option_map note_known) (no_note-before p (q + 1) r notes lie le)) in
    let none_high : (r : ℕ) → q < r → claimed_at o r ≡ None = (λ r lt. at r
    ∙ ap (option_map note_known) (no_note-behind p (q + 1) r notes lie (omega arith))) in
    let a = begun o f homes once slot in
    let zero_p : 0 + length start ≡ p = omega arith in
    let first : Passes o 0 start_known p a.after = passes-to o 0 start_known (0 + length start) p a.after zero_p
    (passes-goes o 0 start start_known a.after a.goes (standing-first start (middle ++ last) stands)
    (λ r above below. none_low r (omega arith)) (omega arith)) in
    let rest = stands-as o (0 + length start) p (middle ++ last) zero_p (standing-rest start
    (middle ++ last) stands) in
    let open_body : IsOpenAt o f p = inl (none_low p (omega arith)) in
    let relies : Relies o padded inner = record { homes = homes-ranged o f inner.ranges homes; once = once; secret = secret } in
    let body_passed = passed-ranged o f inner.ranges middle (λ p. block_notes inner padded p body)
    (block-passed padded begins o inner relies body typed (block-ranged f inner.ranges body indexes) low light) in
    let b = body_passed p a.after
    (standing-first middle last rest)
    (record { inner = λ r after under. at r; outer = λ n found. at q ∙ ap (option_map note_known) found })
    (omega arith) open_body a.carries in
    let h = held-open o f homes once q b.last
    (end-open o f (block_ends_noted f.decls body) q (at q ∙ ap (option_map note_known) (part.ended p))) b.carries in
    let close : StandsAt o q (stores ++ Halt ∷ []) =
    subst (λ (code : List Instr). StandsAt o q code) regrouped (standing-rest middle last rest) in
    let w = stored_scalars o f homes once slot q 19 f.held h.held (all_held f) h.carries in
    let goes : GoesOn o q stores h.held w.after =
    goes-then o q scalars blocks h.held w.after w.after w.goes
    (stores-go o (q + length scalars) 0 f.pins w.after
    (λ i pin is.
    let same : 0 + i ≡ i = omega arith in
    let fits = homes.pins i pin is in
    ap (bank_known w.after) same ∙ w.carries.pinned i pin is fits.few fits.apart)) in
    let e = ended o q stores b.last h.held w.after h.here goes (standing-first stores (Halt ∷ []) close)
    (λ r after. none_high r after) (omega arith) in
    let z = q + length stores in
    passes-accepted o z e.last w.after
    (passes-then o 0 start_known p a.after first z e.last (passes-then o p a.after q b.last b.passes z e.last e.passes))
    e.here
    (ruled-at o z w.after Halt (standing-head Halt [] (standing-rest stores (Halt ∷ []) close)) ∙ halts o z w.after)
    (omega arith) symbols
