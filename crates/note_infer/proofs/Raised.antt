-- What is brought to a place can be brought there, and each place can be looked at.
use Rattle.std.proofs.Common.{◌≡◌, ℕ, zero, suc, ◌+◌, ◌<◌, ◌≤◌, ◌||◌, ℤ, Bool, true, false, List, ◌++◌, ◌∷◌, [], length, slice_get, get_or, set, ◌⊎◌, inl, inr, Option, Some, None, refl, ap, ◌∙◌, subst, arith}
use Rattle.std.specs.Prelude.{IfSome}
use Rattle.std.proofs.lemmas.Bool.{cases_lt}
use Rattle.std.proofs.lemmas.Option.{slice_get-get_or}
use Rattle.gr_word.specs.declared.operations.Cmp.{Cmp}
use Rattle.lt_isa.specs.declared.instructions.Instr.{Instr}
use Rattle.lt_isa.specs.declared.instructions.Instr.TheVariants.{Nop, Br}
use Rattle.lt_isa.specs.Prelude.{Parts, target_of}
use Rattle.trace_patterns.specs.Prelude.{Known, start_known, is_secret, bank_known, set_secret, set_bank, fits, known_behind, JoinsIn}
use Rattle.region_walk.specs.Prelude.{BranchStands}
use Rattle.note_infer.specs.Prelude.{is_crossed, IsFull, common_bank, LabelsUpTo, BanksUpTo, IsRaisedTo, at_places, Enough, More, BringsInside, InCode, Outside, AllFull, Looks}
use Rattle.note_infer.proofs.HigherStates.{labels_begun, labels_next, banks_begun, banks_skip, banks_next}
use Rattle.note_infer.proofs.Rooms.{raised_not, raised_both}
use Rattle.note_infer.proofs.Looking.{full_at, full_behind, full_joined, full_brought, looks_on, looks_halt, looks_jump, looks_branch, looks_none, looks_over_at, looks_nowhere_at}
use Rattle.note_infer.proofs.Deciding.{Leads, GoesOn, Halts, Jumps, Branches, leads, IsCarriedSome, carried_or_not}

-- the state that is higher than two
labelled : (one two : Known) (n : ℕ) → n ≤ 32 → (k : Known) × LabelsUpTo n one two k
labelled one two zero le = (start_known, labels_begun one two start_known refl)
labelled one two (suc n) le =
    let h = labelled one two n (omega arith) in
    let known = set_secret h.0 n (is_secret one n || is_secret two n) in
    (known, subst (λ (m : ℕ). LabelsUpTo m one two known) (omega arith) (labels_next one two h.0 n (omega arith) h.1))

bound : (one two : Known) (n : ℕ) → n ≤ 8 → (k : Known) × BanksUpTo n one two k
bound one two zero le =
    let h = labelled one two 32 (omega arith) in (h.0, banks_begun one two h.0 h.1)
bound one two (suc n) le =
    let h = bound one two n (omega arith) in
    by h.0 h.1 (common_bank (bank_known one n) (bank_known two n)) refl
  where
    by : (k : Known) → BanksUpTo n one two k → (b : Option ℕ)
        → common_bank (bank_known one n) (bank_known two n) ≡ b → (k : Known) × BanksUpTo (suc n) one two k
    by k h None e =
        (k, subst (λ (m : ℕ). BanksUpTo m one two k) (omega arith) (banks_skip one two k n h e))
    by k h (Some b) e = (
      set_bank k n b,
      subst (λ (m : ℕ). BanksUpTo m one two (set_bank k n b)) (omega arith)
          (banks_next one two k n b (omega arith) h e),
    )

-- what a place is raised to, if it is
raised : (old : Option Known) (next : Known) → IfSome old IsFull → IsFull next
    → IsRaisedTo old next None ⊎ ((high : Known) × IsRaisedTo old next (Some high))
raised None next full also = inr (next, refl)
raised (Some old) next full also = by (fits next old) refl
  where
    by : (b : Bool) → fits next old ≡ b
        → IsRaisedTo (Some old) next None ⊎ ((high : Known) × IsRaisedTo (Some old) next (Some high))
    by true e = inl (raised_not old next full e)
    by false e = let h = bound old next 8 (omega arith) in inr (h.0, raised_both old next h.0 full also e h.1)

record IsBrought (before : List (Option Known)) (stack : List ℕ) (place : ℕ) (next : Known) : Type 0 where
  after : List (Option Known)
  rest : List ℕ
  brings : BringsInside before stack place next after rest

brought : (before : List (Option Known)) (stack : List ℕ) (place : ℕ) (next : Known) → AllFull before → IsFull next
    → IsBrought before stack place next
brought before stack place next full also = by (cases_lt place (length before))
  where
    at : place < length before → IsRaisedTo (get_or before place None) next None
        ⊎ ((high : Known) × IsRaisedTo (get_or before place None) next (Some high)) → IsBrought before stack place next
    at lt (inl h) =
        record { after = before; rest = stack; brings = InCode before stack lt (Enough h) }
    at lt (inr h) = record {
      after = set before place (Some h.0);
      rest = stack ++ place ∷ [];
      brings = InCode (set before place (Some h.0)) (stack ++ place ∷ []) lt (More h.0 h.1);
    }

    by : (place < length before) ⊎ (length before ≤ place) → IsBrought before stack place next
    by (inl lt) = at lt (raised (get_or before place None) next (full_at before place full) also)
    by (inr le) = record { after = before; rest = stack; brings = Outside le }

-- a place is looked at
pub record IsLookedAt (o : Parts) (crossed : List ℕ) (place : ℕ) (before : List (Option Known)) (stack : List ℕ)
    : Type 0 where
  pub after : List (Option Known)
  pub rest : List ℕ
  pub looks : Looks o crossed place before stack after rest

module _ (o : Parts) (crossed : List ℕ) (place : ℕ) (before : List (Option Known)) (stack : List ℕ)
    (all : AllFull before) (size : length before ≡ length o.code) (here : place < length before) where
  Looked : Type 0
  Looked = IsLookedAt o crossed place before stack

  -- a branch that is crossed, and one that isn't
  crosses : (k : Known) → at_places before place ≡ Some k → (offset : ℤ) → BranchStands o place offset
      → is_crossed crossed place ≡ true
      → IsCarriedSome o place offset k ⊎ ((join : ℕ) (next : Known) → JoinsIn o place offset k join next → ⊥) → Looked
  unfolding Looked
  crosses k at offset b among (inl c) =
      let full = all place k at in
      let m = brought before stack c.join c.next all (full_joined o place offset k c.join c.next full c.carried.joins)
      in
      record {
        after = m.after;
        rest = m.rest;
        looks = looks_over_at o crossed place k before stack at full size here offset c.join c.next m.after m.rest b
            among c.carried m.brings;
      }
  crosses k at offset b among (inr none) = record {
    after = before;
    rest = stack;
    looks = looks_nowhere_at o crossed place k before stack at (all place k at) size here offset b among none;
  }

  divides : (k : Known) → at_places before place ≡ Some k → (cmp : Cmp) (ra rb : ℕ) (offset : ℤ)
      → slice_get o.code place ≡ Some (Br cmp ra rb offset) → is_crossed crossed place ≡ false → Looked
  unfolding Looked
  divides k at cmp ra rb offset code apart =
      let full = all place k at in
      let m = brought before stack (place + 1) k all full in
      let next = full_brought before stack (place + 1) k m.after m.rest all full m.brings in
      let n = brought m.after m.rest (target_of o place offset) k next full in
      record {
        after = n.after;
        rest = n.rest;
        looks = looks_branch o crossed place k before stack at full size here cmp ra rb offset m.after m.rest n.after
            n.rest code apart m.brings n.brings;
      }

  branches : (k : Known) → at_places before place ≡ Some k → (cmp : Cmp) (ra rb : ℕ) (offset : ℤ)
      → slice_get o.code place ≡ Some (Br cmp ra rb offset) → (b : Bool) → is_crossed crossed place ≡ b → Looked
  branches k at cmp ra rb offset code true among =
      crosses k at offset (record { cmp = cmp; ra = ra; rb = rb; at = code }) among (carried_or_not o place offset k)
  branches k at cmp ra rb offset code false apart = divides k at cmp ra rb offset code apart

  by_kind : (k : Known) → at_places before place ≡ Some k → (i : Instr) → slice_get o.code place ≡ Some i → Leads i
      → Looked
  unfolding Looked
  by_kind k at i code (GoesOn g) =
      let full = all place k at in
      let m = brought before stack (place + 1) (known_behind k i) all (full_behind k i full) in
      record {
        after = m.after;
        rest = m.rest;
        looks = looks_on o crossed place k before stack at full size here i m.after m.rest code g m.brings;
      }
  by_kind k at i code (Halts e) = record {
    after = before;
    rest = stack;
    looks = looks_halt o crossed place k before stack at (all place k at) size here (code ∙ ap Some e);
  }
  by_kind k at i code (Jumps offset e) =
      let full = all place k at in
      let m = brought before stack (target_of o place offset) k all full in
      record {
        after = m.after;
        rest = m.rest;
        looks = looks_jump o crossed place k before stack at full size here offset m.after m.rest (code ∙ ap Some e)
            m.brings;
      }
  by_kind k at i code (Branches cmp ra rb offset e) =
      branches k at cmp ra rb offset (code ∙ ap Some e) (is_crossed crossed place) refl

  by_state : (x : Option Known) → at_places before place ≡ x → Looked
  unfolding Looked
  by_state None at = record {
    after = before;
    rest = stack;
    looks = looks_none o crossed place before stack at;
  }
  by_state (Some k) at =
      let i = get_or o.code place Nop in
      by_kind k at i (slice_get-get_or o.code place Nop (omega (arith, here, size))) (leads i)

  pub looked_at : IsLookedAt o crossed place before stack
  unfolding Looked
  looked_at = by_state (at_places before place) refl
