-- Calls and the procedures that they name, procedure by procedure.
use Rattle.std.proofs.Common.{◌≡◌, ℕ, ◌+◌, ◌<◌, Bool, true, false, cond, List, [], ◌∷◌, length, map, arith, take, drop, reverse, get_or, Some, Result, Ok, Err, refl, sym, ap, ◌∙◌}
use Rattle.std.specs.Prelude.{bytes_eq}
use Rattle.std.specs.Option.{option_map}
use Rattle.std.proofs.Math.Path.{fun_ext}
use Rattle.std.proofs.lemmas.List.{take_more, take_all, length-map, reverse-append, drop_more}
use Rattle.gr_base.specs.Prelude.{◌>>=◌}
use Rattle.procs_tree.specs.declared.errors.InlineError.{InlineError}
use Rattle.procs_tree.specs.declared.trees.Proc.{Proc}
use Rattle.procs_tree.specs.Prelude.{Procedure, Names, AreNumbered, procedure_by_number, procedure_of, Found, found, procedure_named, calls_walked_all, procedures_walked}

-- the procedure that a name calls
named_found : (ps : List Procedure) (name : List ℕ)
    → option_map (λ (f : Found). f.procedure) (found ps name) ≡ procedure_named ps name
named_found [] name = refl
named_found (p ∷ earlier) name = by (bytes_eq name p.name) (named_found earlier name)
  where
    by : (b : Bool) → option_map (λ (f : Found). f.procedure) (found earlier name) ≡ procedure_named earlier name
        → option_map (λ (f : Found). f.procedure)
        (cond b (Some (record { procedure = p; earlier = earlier })) (found earlier name))
        ≡ cond b (Some p) (procedure_named earlier name)
    by true rest = refl
    by false rest = rest

-- by their numbers, names call the procedures that they call
pub same_called : (ps : List Procedure) (numbers : Names) → AreNumbered ps numbers → (callable : ℕ)
    → procedure_by_number ps callable numbers ≡ procedure_named (reverse (take callable ps))
same_called ps numbers h callable =
    fun_ext (λ name. ap (option_map (λ (f : Found). f.procedure)) (sym (h callable name))
    ∙ named_found (reverse (take callable ps)) name)

-- the statements of a file can call all its procedures
pub all_called : (procs : List Proc) (numbers : Names) → AreNumbered (map procedure_of procs) numbers
    → procedure_by_number (map procedure_of procs) (length procs) numbers
    ≡ procedure_named (reverse (map procedure_of procs))
all_called procs numbers h =
    let long = length-map procs procedure_of in
    same_called (map procedure_of procs) numbers h (length procs)
    ∙ ap (λ (ps : List Procedure). procedure_named (reverse ps))
    (take_all (length procs) (map procedure_of procs) (omega (arith, long)))

-- a procedure whose calls have a fault
pub walked_fails : (ps : List Procedure) (i : ℕ) (d : Procedure) (n : ℕ) (e : InlineError) → i < length ps
    → calls_walked_all (procedure_named (reverse (take i ps))) n (get_or ps i d).body ≡ Err e
    → procedures_walked (reverse (take i ps)) n (drop i ps) ≡ Err e
walked_fails ps i d n e lt is =
    ap (λ rest. procedures_walked (reverse (take i ps)) n rest) (drop_more ps i d lt)
    ∙ ap (λ (r : Result ℕ InlineError). r >>= λ k. procedures_walked (get_or ps i d ∷ reverse (take i ps)) k (drop (i + 1) ps)) is

-- one more procedure
pub walked_more : (ps : List Procedure) (i : ℕ) (d : Procedure) (n m : ℕ) → i < length ps
    → calls_walked_all (procedure_named (reverse (take i ps))) n (get_or ps i d).body ≡ Ok m
    → procedures_walked (reverse (take (i + 1) ps)) m (drop (i + 1) ps)
    ≡ procedures_walked (reverse (take i ps)) n (drop i ps)
walked_more ps i d n m lt is =
    ap (λ earlier. procedures_walked earlier m (drop (i + 1) ps))
    (ap reverse (take_more ps i d lt) ∙ reverse-append (take i ps) (get_or ps i d ∷ []))
    ∙ (ap (λ (r : Result ℕ InlineError). r >>= λ k. procedures_walked (get_or ps i d ∷ reverse (take i ps)) k (drop (i + 1) ps)) (sym is)
    ∙ ap (λ rest. procedures_walked (reverse (take i ps)) n rest) (sym (drop_more ps i d lt)))
