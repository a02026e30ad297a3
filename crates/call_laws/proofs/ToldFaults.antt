-- No first fault of a program or of a file's calls is running out of memory.
use Rattle.std.proofs.Common.{ℕ, Bool, true, false, not, ◌||◌, List, [], pos, Option, Some, None, subst}
use Rattle.std.specs.Option.{option_or}
use Rattle.gr_word.specs.declared.variables.Label.{Label}
use Rattle.gr_word.specs.declared.variables.Label.TheVariants.{Public}
use Rattle.gr_word.specs.declared.variables.Shape.{Shape}
use Rattle.gr_word.specs.declared.variables.Shape.TheVariants.{Scalar, Array}
use Rattle.src_tree.specs.Prelude.{Tree, Number, Variable, Element, Operation, Test, Source, IsFirstFault, IllTyped, HighExpression, Context, context_of, higher, secret_label, label_at, label_of, label_of_test, where_true, kind_fault, use_fault, names_fault, leaks, has_leaking_index, flow_fault, guard_fault, loop_fault, typing_fault, height_fault, too_high, same_shape, shown_place, shown_number, StatementFault, IsFirstAt}
use Rattle.src_tree.specs.declared.faults.TypeError.{TypeError}
use Rattle.src_tree.specs.declared.faults.Which.TheVariants.{Height}
use Rattle.procs_tree.specs.Prelude.{FoundCall, ProcedureFault, RepeatsName, UsesOther, CallFault, CallsNone, CountDiffers, PassesOther, IsFirstCallFault, InProcedure, InCall, TooMany, Procedure, File}
use Rattle.procs_tree.specs.declared.errors.InlineError.{InlineError}
use Rattle.src_tree.specs.Trees as plain
use Rattle.src_tree.specs.declared.faults.TypeError.TheVariants as program
use Rattle.procs_tree.specs.declared.errors.InlineError.TheVariants as calls

-- ---- types and limits

abbrev pub IsTold : TypeError → Type 0
IsTold program.Memory = ⊥
IsTold _ = Unit {0}

abbrev ToldIn : Option TypeError → Type 0
ToldIn None = Unit {0}
ToldIn (Some e) = IsTold e

where-told : (b : Bool) (e : TypeError) → IsTold e → ToldIn (where_true b e)
where-told true e told = told
where-told false e told = tt

either-told : (a b : Option TypeError) → ToldIn a → ToldIn b → ToldIn (option_or a b)
either-told None b one other = other
either-told (Some e) b one other = one

kind-told : (n : ℕ) (shape : Shape) (kind : Option (Label × Shape)) → ToldIn (kind_fault n shape kind)
kind-told n shape None = tt
kind-told n shape (Some kind) = where-told (not (same_shape kind.1 shape)) (program.WrongShape (shown_place n)) tt

names-told : (known : Context) (n : ℕ) (e : Tree) → ToldIn (names_fault known n e)
names-told known n (Number z) = tt
names-told known n (Variable x) = kind-told n Scalar (known x)
names-told known n (Element x i) =
    either-told (use_fault known n Array x) (names_fault known n i) (kind-told n Array (known x)) (names-told known n i)
names-told known n (Operation op a b) =
    either-told (names_fault known n a) (names_fault known n b) (names-told known n a) (names-told known n b)

flow-told : (n : ℕ) (indexes : Bool) (value target : Label) → ToldIn (flow_fault n indexes value target)
flow-told n indexes value target =
    either-told (where_true indexes (program.SecretIndexOfPublic (shown_place n))) _
    (where-told indexes (program.SecretIndexOfPublic (shown_place n)) tt)
    (where-told (leaks value target) (program.FlowToPublic (shown_place n)) tt)

guard-told : (known : Context) (n : ℕ) (t : Test) → ToldIn (guard_fault known n t)
guard-told known n t =
    either-told (option_or (names_fault known n t.left) (names_fault known n t.right)) _
    (either-told (names_fault known n t.left) (names_fault known n t.right) (names-told known n t.left)
    (names-told known n t.right))
    (where-told (has_leaking_index known t.left || has_leaking_index known t.right)
    (program.SecretIndexOfPublic (shown_place n)) tt)

loop-told : (n : ℕ) (guard code : Label) → ToldIn (loop_fault n guard code)
loop-told n guard code =
    either-told (where_true (secret_label guard) (program.SecretGuardOfLoop (shown_place n))) _
    (where-told (secret_label guard) (program.SecretGuardOfLoop (shown_place n)) tt)
    (where-told (secret_label code) (program.LoopInSecret (shown_place n)) tt)

typing-told : (known : Context) (code : Label) (n : ℕ) (s : plain.Statement) → ToldIn (typing_fault known code n s)
typing-told known code n (plain.SetVariable x e) =
    either-told (option_or (use_fault known n Scalar x) (names_fault known n e)) _
    (either-told (use_fault known n Scalar x) (names_fault known n e) (kind-told n Scalar (known x))
    (names-told known n e))
    (flow-told n (has_leaking_index known e) (higher code (label_of known e)) (label_at known x))
typing-told known code n (plain.SetElement x i e) =
    either-told (option_or (names_fault known n (Element x i)) (names_fault known n e)) _
    (either-told (names_fault known n (Element x i)) (names_fault known n e) (names-told known n (Element x i))
    (names-told known n e))
    (flow-told n (has_leaking_index known (Element x i) || has_leaking_index known e)
    (higher code (label_of known e)) (label_at known x))
typing-told known code n (plain.Choice t a b) = guard-told known n t
typing-told known code n (plain.Loop t a) =
    either-told (guard_fault known n t) _ (guard-told known n t) (loop-told n (label_of_test known t) code)

height-told : (code : Label) (n : ℕ) (s : plain.Statement) → ToldIn (height_fault code n s)
height-told code n (plain.SetVariable x e) = where-told (too_high e) (program.Limit Height (shown_number n)) tt
height-told code n (plain.SetElement x i e) =
    where-told (too_high i || too_high e) (program.Limit Height (shown_number n)) tt
height-told code n (plain.Choice t a b) =
    where-told (too_high t.left || too_high t.right) (program.Limit Height (shown_number n)) tt
height-told code n (plain.Loop t a) =
    where-told (too_high t.left || too_high t.right) (program.Limit Height (shown_number n)) tt

first-told : (fault : StatementFault) → ((code : Label) (n : ℕ) (s : plain.Statement) → ToldIn (fault code n s))
    → (from k : ℕ) (statements : List (Label × plain.Statement)) (e : TypeError) → IsFirstAt fault from statements k e
    → IsTold e
first-told fault told from k statements e first =
    subst ToldIn (first.there (Public, plain.SetVariable [] (Number (pos 0)))) (told _ _ _)

pub type-told : (p : Source) (e : TypeError) → IsFirstFault p e → IsTold e
type-told p e (IllTyped once k e' first) =
    first-told (typing_fault (context_of p.decls)) (typing-told (context_of p.decls)) 0 k _ e' first
type-told p e (HighExpression typed few fit words k e' first) = first-told height_fault height-told 0 k _ e' first
type-told p e other = tt

-- ---- calls

abbrev pub IsToldCall : InlineError → Type 0
IsToldCall calls.Memory = ⊥
IsToldCall _ = Unit {0}

procedure-told : (before : List Procedure) (p : Procedure) (e : InlineError) → ProcedureFault before p e → IsToldCall e
procedure-told before p e (RepeatsName again) = tt
procedure-told before p e (UsesOther fresh x c out) = tt

call-told : (before : List FoundCall) (c : FoundCall) (e : InlineError) → CallFault before c e → IsToldCall e
call-told before c e (CallsNone none) = tt
call-told before c e (CountDiffers p calls differs) = tt
call-told before c e (PassesOther p calls count x argument there other) = tt

pub inline-told : (f : File) (e : InlineError) → IsFirstCallFault f e → IsToldCall e
inline-told f e (InProcedure e' first) = procedure-told first.before first.item e' first.faulty
inline-told f e (InCall none e' first) = call-told first.before first.item e' first.faulty
inline-told f e (TooMany none clear many) = tt
