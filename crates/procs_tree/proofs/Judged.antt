-- The first fault of a file, by what the code finds.
use Rattle.std.proofs.Common.{◌≡◌, ℕ, ◌<◌, ◌≤◌, ◌^◌, Bool, true, false, length, Option, Some, None, Ok, refl, sym, ap, ◌∙◌, subst, arith}
use Rattle.std.specs.Prelude.{nat_lt}
use Rattle.std.specs.Option.{option_or}
use Rattle.std.proofs.lemmas.Bool.{ltb-false, lt-ltb, le-ltb}
use Rattle.src_tree.specs.Prelude.{shown_number}
use Rattle.procs_tree.specs.declared.errors.InlineError.{InlineError}
use Rattle.procs_tree.specs.declared.errors.InlineError.TheVariants.{TwiceNamed, Undeclared, NoProcedure, WrongCount, NotAnArray, TooLarge, Memory}
use Rattle.procs_tree.specs.Prelude.{File, ExplainsInlining, IsFirstCallFault, max_statements, none_named, procedures_fault, file_walked, calls_fault, fault_met, fault_where, inline_fault, IsFoundFault, inlined_body, inlined_file, statements_in, file_size, ArePlain, KeepsMeaning}
use Rattle.procs_tree.proofs.CallCauses.{cause}
use Rattle.procs_tree.proofs.Counted.{file_sized}
use Rattle.procs_tree.proofs.KeptMeaning.{kept_meaning}
use Rattle.src_tree.specs.Trees as plain

pub explained : (e : InlineError) (f : File) → IsFirstCallFault f e → ExplainsInlining e f
explained Memory f h = tt
explained other f h = h

-- so does what is computed, also of another file with the same first fault
pub found_explains : (e : InlineError) (f g : File) → inline_fault f ≡ inline_fault g → IsFoundFault e f
    → ExplainsInlining e g
found_explains (TwiceNamed n) f g same h = cause g (TwiceNamed n) (sym same ∙ h)
found_explains (Undeclared n) f g same h = cause g (Undeclared n) (sym same ∙ h)
found_explains (NoProcedure n) f g same h = cause g (NoProcedure n) (sym same ∙ h)
found_explains (WrongCount n) f g same h = cause g (WrongCount n) (sym same ∙ h)
found_explains (NotAnArray n) f g same h = cause g (NotAnArray n) (sym same ∙ h)
found_explains TooLarge f g same h = cause g TooLarge (sym same ∙ h)
found_explains Memory f g same h = tt

behind_none : (a b : Option InlineError) → a ≡ None → option_or a b ≡ b
behind_none None b e = refl
behind_none (Some x) b e = absurd (cc)

behind_procedures : (f : File) → None ≡ procedures_fault none_named 0 f.procedures
    → inline_fault f ≡ option_or (calls_fault f)
    (fault_where (nat_lt max_statements (statements_in (inlined_file f).body)) TooLarge)
behind_procedures f h = behind_none _ _ (sym h)

behind_calls : (f : File) (n : ℕ) → None ≡ procedures_fault none_named 0 f.procedures
    → Ok n ≡ file_walked f.procedures f.body
    → inline_fault f ≡ fault_where (nat_lt max_statements (statements_in (inlined_file f).body)) TooLarge
behind_calls f n h g = behind_procedures f h ∙ behind_none _ _ (ap fault_met (sym g))

pub by_size : (f : File) (n size : ℕ) → None ≡ procedures_fault none_named 0 f.procedures
    → Ok n ≡ file_walked f.procedures f.body → size ≡ shown_number (file_size f) → 8192 < size
    → inline_fault f ≡ Some TooLarge
by_size f n size h g is large =
    let c = (file_sized f).count in
    behind_calls f n h g
    ∙ ap (λ b. fault_where b TooLarge)
    (lt-ltb max_statements (statements_in (inlined_file f).body) (omega (arith, c, is, large)))

pub by_nothing : (f : File) (n size : ℕ) → None ≡ procedures_fault none_named 0 f.procedures
    → Ok n ≡ file_walked f.procedures f.body → size ≡ shown_number (file_size f) → size ≤ 8192
    → inline_fault f ≡ None
by_nothing f n size h g is small =
    let c = (file_sized f).count in
    behind_calls f n h g
    ∙ ap (λ b. fault_where b TooLarge) (le-ltb max_statements (statements_in (inlined_file f).body) (omega (arith, c, is, small)))

last_none : (a b c : Option InlineError) → option_or a (option_or b c) ≡ None → c ≡ None
last_none None None c e = e
last_none None (Some x) c e = absurd (cc)
last_none (Some x) b c e = absurd (cc)

no_fault : (b : Bool) (e : InlineError) → fault_where b e ≡ None → b ≡ false
no_fault true e h = absurd (cc)
no_fault false e h = refl

-- a file without a fault has few new variables
pub few_labels : (f : File) → inline_fault f ≡ None → length (inlined_body f).labels ≤ 2 ^ 64
few_labels f h =
    let c = file_sized f in
    let p = c.count in
    let q = c.new in
    let small = ltb-false max_statements (statements_in (inlined_file f).body)
    (no_fault _ TooLarge (last_none (procedures_fault none_named 0 f.procedures) (calls_fault f) _ h)) in
    omega (arith, p, q, small)

-- the program of a file without a fault does what the file means
pub kept_for : (f : File) (p : plain.Source) → ArePlain f.decls → inline_fault f ≡ None → p ≡ inlined_file f
    → KeepsMeaning f p
kept_for f p own none is =
    subst (λ z. KeepsMeaning f z) (sym is) (kept_meaning f own (few_labels f none))
