-- The fields of a flat form are in their ranges, and it does what the code does; and how code is made flat.
use Rattle.std.proofs.Common.{◌≡◌, ℕ, ◌-◌, ◌<◌, ℤ, List, [], ◌∷◌, ◌++◌, length, get_or, None, Some, refl, sym, ap, ◌∙◌, subst, ⊎_elim, arith}
use Rattle.std.proofs.lemmas.List.{get_or_append_left, get_or-append_right, length-append}
use Rattle.std.proofs.lemmas.Bool.{cases_lt}
use Rattle.std.proofs.lemmas.Option.{slice_get-get_or}
use Rattle.std.specs.Prelude.{IfSome}
use Rattle.lt_isa.specs.declared.instructions.Instr.{Instr}
use Rattle.lt_isa.specs.declared.instructions.Instr.TheVariants.{Nop, Halt, Ldb, Stb}
use Rattle.lt_isa.specs.Prelude.{State, Parts, InstrFits, Goes, executed}
use Rattle.processor.specs.declared.flat.Flat.{Flat}
use Rattle.processor.specs.declared.flat.Flat.TheVariants.{Access}
use Rattle.processor.specs.declared.quick.Point.{Point}
use Rattle.processor.specs.Prelude.{AreFlatForms, IsFlatForm, IsForStep, instr_of, IsLeft, PassesQuickly, StandsForStep, state_at, Pad}

-- flat code has an entry for each instruction
pub flat-fits : (banks : ℕ) (f : Flat) (i : Instr) → IsFlatForm f i → InstrFits banks i → InstrFits banks (instr_of f)
flat-fits banks f i stands fits =
    ⊎_elim
    (λ access. subst (λ g. InstrFits banks (instr_of g)) (sym access.0) tt)
    (λ is. subst (InstrFits banks) (sym is) fits)
    stands

-- a halt doesn't go on, so what went on is an instruction of the code
pub flat-passes : (o : Parts) (f : Flat) (i : Instr) (registers : List ℤ) (pad : Pad) (at next : Point) (after : List ℤ)
    (left : Pad) → IsFlatForm f i
    → PassesQuickly o (instr_of f) registers pad at (Some next) after left
    → PassesQuickly o i registers pad at (Some next) after left
flat-passes o f i registers pad at next after left stands passes =
    ⊎_elim
    (λ access.
    let halts : executed o (state_at registers pad.slots [] at) Halt ≡ Goes None (state_at after left.slots [] next) =
    subst
    (λ g. executed o (state_at registers pad.slots [] at) (instr_of g) ≡ Goes None (state_at after left.slots [] next))
    access.0 (passes.3 []) in
    absurd cc)
    (λ is. subst (λ j. PassesQuickly o j registers pad at (Some next) after left) is passes)
    stands

-- the instruction of a halt, a load or a store is left for a step
is_left : (o : Parts) (s : State) (i : Instr) → IsForStep i → IsLeft o s i
is_left o s Halt kind = tt
is_left o s (Ldb k b r) kind = tt
is_left o s (Stb k) kind = tt
is_left o s _ kind = absurd kind

-- what wasn't passed at its flat form is left
pub flat-left : (o : Parts) (s : State) (f : Flat) (i : Instr)
    → IsFlatForm f i → IsLeft o s (instr_of f) → IsLeft o s i
flat-left o s f i stands left =
    ⊎_elim
    (λ access. is_left o s i access.1)
    (λ is. subst (λ j. IsLeft o s j) is left)
    stands

-- where it is the next instruction
pub left-here : (o : Parts) (s : State) (d : Instr)
    → s.place < length o.code → IsLeft o s (get_or o.code s.place d) → StandsForStep o s
left-here o s d there left =
    subst (λ found. IfSome found (IsLeft o s)) (sym (slice_get-get_or o.code s.place d there)) left

-- one instruction more
pub flats-more : (flats : List Flat) (code : List Instr) (f : Flat) → AreFlatForms flats code
    → IsFlatForm f (get_or code (length flats) Nop) → AreFlatForms (flats ++ f ∷ []) code
flats-more flats code f so_far stands = λ p exists.
    ⊎_elim
    (λ before. subst (λ g. IsFlatForm g (get_or code p Nop)) (sym (get_or_append_left flats (f ∷ []) Access p before))
    (so_far p before))
    (λ rest.
    let first : length flats - length flats ≡ 0 = omega arith in
    let here : p ≡ length flats = omega (arith, exists, rest, length-append flats (f ∷ [])) in
    subst (λ k. IsFlatForm (get_or (flats ++ f ∷ []) k Access) (get_or code k Nop)) (sym here)
    (subst (λ g. IsFlatForm g (get_or code (length flats) Nop))
    (sym (get_or-append_right flats (f ∷ []) (length flats) (length flats) Access refl (omega arith)
    ∙ ap (λ k. get_or (f ∷ []) k Access) first)) stands))
    (cases_lt p (length flats))
