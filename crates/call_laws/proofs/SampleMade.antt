-- The sample's text is always a program that is compiled and accepted: the only other outcome is that memory ran out.
use Rattle.std.proofs.Common.{◌≡◌, inl, inr, Bool, true, false, ℕ, ◌^◌, ◌<◌, ◌≤◌, List, [], Option, Some, None, Result, Ok, Err, length, sym, ◌∙◌, subst, arith, length-append}
use Rattle.std.specs.Prelude.{codes, decimal, ◌++◌}
use Rattle.std.proofs.lemmas.Fmt.{length-decimal-le}
use Rattle.gr_base.specs.Prelude.{Within}
use Rattle.gr_word.specs.declared.variables.Label.TheVariants.{Public, Secret}
use Rattle.call_steps.specs.declared.targets.Target.{Target}
use Rattle.lt_isa.specs.Prelude.{Parts, IsInRange}
use Rattle.object_file.specs.Prelude.{spelling}
use Rattle.object_file.proofs.ObjectLaws.{spelling-injective}
use Rattle.trace_patterns.specs.Prelude.{Accepts}
use Rattle.trace_patterns.specs.declared.reasons.Reason.{Reason}
use Rattle.lt_checker.proofs.AcceptanceLaws.{refused_is_not_accepted}
use Rattle.src_lexer.specs.declared.tokens.Token.{Token}
use Rattle.src_lexer.proofs.OneReading.{same_tokens}
use Rattle.src_parser.specs.Prelude.{ExplainsTokens, limits, Sentence, token_kinds}
use Rattle.src_parser.specs.declared.errors.ParseFault.{ParseFault}
use Rattle.src_parser.proofs.OneProgram.{one_program, no_fault}
use Rattle.src_parser.proofs.Places.{next_begins}
use Rattle.src_tree.specs.Prelude.{Source, first_fault}
use Rattle.src_tree.specs.declared.faults.TypeError.{TypeError}
use Rattle.src_tree.proofs.Faultless.{faultless}
use Rattle.src_tree.proofs.FirstFaults.{caused}
use Rattle.flow_types.specs.Prelude.{ExplainsProgram}
use Rattle.compiled_objects.specs.declared.errors.CompileError.{CompileError}
use Rattle.call_replies.specs.declared.replies.Done.TheVariants.{Compiled}
use Rattle.call_replies.specs.declared.replies.Verdict.{Verdict}
use Rattle.call_replies.specs.declared.source_faults.SourceFault.{SourceFault}
use Rattle.call_steps.specs.Prelude.{on_compiled, IsCompiledTo, LacksRoom, room_fault, sample_text, sample_target, EndsWorkWith, IsRight, WhichSource, WhichCompiled, WhetherAccepted, nothing_seen, SpellsTyped, IsFirstSourceFault, InPieces, InTokens, InProgram, token_fault, program_fault, source_limit, on_judged, or_ends, Work, Ends, Writes}
use Rattle.call_laws.specs.Prelude.{sample_program}
use Rattle.call_replies.specs.declared.replies.Verdict.TheVariants.{BadSource}
use Rattle.call_replies.specs.Prelude.{Said, no_memory}
use Rattle.call_laws.proofs.SampleProgram.{sample_typed, sample_within, sample_fits, sample_needs, resident_needs}
use Rattle.call_laws.proofs.SampleText.{sample_spells}
use Rattle.src_parser.specs.declared.errors.ParseFault.TheVariants as token
use Rattle.src_tree.specs.declared.faults.TypeError.TheVariants as program
use Rattle.compiled_objects.specs.declared.errors.CompileError.TheVariants as room

-- ---- the text

-- the sample's text is within the limit
pub sample-short : (n : ℕ) → n ≤ 65536 → length (sample_text n) ≤ source_limit
unfolding sample_text
sample-short n few =
    let digits : length (decimal n) ≤ 5 =
    length-decimal-le 5 n (omega arith) (omega (arith, few)) (omega (arith, few)) in
    let front = codes "public int i;\nsecret int a[" in
    let middle = codes "];\nsecret int c[16];\nsecret int t;\ni = 0;\nwhile (i < " in
    let last = codes ") { t = a[i] % 16; c[t] = c[t] + 1; i = i + 1; }\n" in
    omega (
      arith,
      digits,
      length-append (decimal n) last,
      length-append middle (decimal n ++ last),
      length-append (decimal n) (middle ++ (decimal n ++ last)),
      length-append front (decimal n ++ (middle ++ (decimal n ++ last))),
    )

-- any program that it parses as is the tree
pub is-sample : (n : ℕ) → n < 2 ^ 63 → (p : Source) → SpellsTyped false (sample_text n) p → p ≡ sample_program n
is-sample n small p spells = one_program (sample_text n) p (sample_program n) spells.spells (sample_spells n small)

-- ---- faults that a program hasn't

-- a work that isn't a verdict
abbrev elsewhere : Work
elsewhere = Writes [] [] Compiled

not-elsewhere : (verdict : Verdict) → elsewhere ≡ Ends nothing_seen verdict → ⊥
not-elsewhere verdict e = absurd (let f : ◌≡◌ {A = Work} (Writes [] [] Compiled) (Ends nothing_seen verdict) = e in cc)

no-token_fault : (tokens : List Token) (e : ParseFault) (shown : SourceFault) (p : Source)
    → Sentence limits (token_kinds tokens) p → ExplainsTokens e tokens → token_fault e ≡ Some shown → ⊥
no-token_fault tokens (token.Unexpected at) shown p sentence u is =
    u.none limits (next_begins tokens u.before u.after u.token p u.split sentence)
no-token_fault tokens token.EndOfText shown p sentence u is = u.none p sentence
no-token_fault tokens (token.TooDeep at) shown p sentence u is =
    u.none (next_begins tokens u.before u.after u.token p u.split sentence)

none-some : (found : Option TypeError) (e : TypeError) → found ≡ None → found ≡ Some e → ⊥
none-some found e none some = absurd (let f : ◌≡◌ {A = Option TypeError} None (Some e) = sym none ∙ some in cc)

no-program_fault : (p : Source) (e : TypeError) (shown : SourceFault)
    → first_fault p ≡ None → ExplainsProgram e p → program_fault e ≡ Some shown → ⊥
no-program_fault p program.Memory shown none explains is =
    absurd (let f : ◌≡◌ {A = Option SourceFault} None (Some shown) = is in cc)
no-program_fault p e shown none explains is = none-some (first_fault p) e none (caused p e explains)

-- the text has no first fault
no-first : (n : ℕ) → Within 1 65536 n → (shown : SourceFault) → IsFirstSourceFault false (sample_text n) shown → ⊥
no-first n few shown (InPieces e splits is) =
    no_fault (sample_text n) (sample_program n) e (sample_spells n (omega (arith, few.1))) splits
no-first n few shown (InTokens tokens splits wrong) =
    let spells = sample_spells n (omega (arith, few.1)) in
    let same : spells.tokens ≡ tokens = same_tokens 0 (sample_text n) spells.tokens tokens spells.split splits in
    no-token_fault tokens wrong.0 shown (sample_program n)
    (subst (λ (ts : List Token). Sentence limits (token_kinds ts) (sample_program n)) same spells.sentence) wrong.1
    wrong.2
no-first n few shown (InProgram p e spells explains is) =
    let same : p ≡ sample_program n =
    one_program (sample_text n) p (sample_program n) spells (sample_spells n (omega (arith, few.1))) in
    no-program_fault (sample_program n) e shown
    (faultless (sample_program n) (record { typed = sample_typed n; within = sample_within n few }))
    (subst (ExplainsProgram e) same explains) is

-- ---- the printed text

source-starved : (n : ℕ) → Within 1 65536 n → (verdict : Verdict) (answer : Result Source SourceFault)
    → IsRight (WhichSource false (sample_text n)) answer → or_ends BadSource
    (λ p. elsewhere) answer ≡ Ends nothing_seen verdict → ⊥
source-starved n few verdict (Ok p) right ends = not-elsewhere verdict ends
source-starved n few verdict (Err shown) first ends = no-first n few shown first

-- its text is rejected only if memory runs out
pub text-starved : (n : ℕ) → Within 1 65536 n → (text : List ℕ) → text ≡ sample_text n → (said : Said)
    → ((next : Source → Work) → EndsWorkWith (WhichSource false text) (or_ends BadSource next) said) → said ≡ no_memory
text-starved n few text is said refuses =
    elim (subst (λ t. EndsWorkWith (WhichSource false t) (or_ends BadSource (λ p. elsewhere)) said) is (refuses
    (λ p. elsewhere))) [
      | inl starved ↦ starved
      | inr why ↦ absurd (source-starved n few why.1 why.0 why.2 why.3)
    ]

-- there is room for its variables
pub no-room_fault : (fast : Bool) (n : ℕ) → n ≤ 65536 → (e : CompileError) (shown : SourceFault)
    → LacksRoom fast e (sample_program n) 9 → room_fault e ≡ Some shown → ⊥
no-room_fault false n few (room.TooManyScalars Public) shown many is =
    let fits = (sample_fits n few).scalars.public in omega (arith, many, fits)
no-room_fault false n few (room.TooManyScalars Secret) shown many is =
    let fits = (sample_fits n few).scalars.secret in omega (arith, many.1, fits)
no-room_fault false n few (room.BankFull bank) shown full is =
    let needs = sample_needs n bank few in omega (arith, full.1.full, needs)
no-room_fault false n few room.Memory shown none is =
    absurd (let f : ◌≡◌ {A = Option SourceFault} None (Some shown) = is in cc)
no-room_fault true n few (room.TooManyScalars Public) shown many is =
    let fits = (sample_fits n few).scalars.public in omega (arith, many, fits)
no-room_fault true n few (room.TooManyScalars Secret) shown many is =
    let fits = (sample_fits n few).scalars.secret in omega (arith, many.1, fits)
no-room_fault true n few (room.BankFull bank) shown full is =
    let needs = resident_needs n bank few in omega (arith, full.1.full, needs)
no-room_fault true n few room.Memory shown none is =
    absurd (let f : ◌≡◌ {A = Option SourceFault} None (Some shown) = is in cc)

object-starved : (fast : Bool) (n : ℕ) → n ≤ 65536 → (verdict : Verdict) (answer : Result (List ℕ) SourceFault)
    → IsRight (WhichCompiled (sample_program n) (sample_target fast)) answer
    → on_compiled [] answer ≡ Ends nothing_seen verdict → ⊥
object-starved fast n few verdict (Ok bytes) right ends =
    absurd (let f : ◌≡◌ {A = Work} (Writes [] bytes Compiled) (Ends nothing_seen verdict) = ends in cc)
object-starved fast n few verdict (Err shown) why ends = no-room_fault fast n few why.0 shown why.1 why.2

-- so is its compilation
pub compile-starved : (fast : Bool) (n : ℕ) → n ≤ 65536 → (p : Source) → SpellsTyped false (sample_text n) p → (said : Said)
    → ((output : List ℕ) → EndsWorkWith (WhichCompiled p (sample_target fast)) (on_compiled output) said) → said ≡ no_memory
compile-starved fast n few p spells said refuses =
    elim (subst (λ (q : Source). EndsWorkWith (WhichCompiled q (sample_target fast)) (on_compiled []) said)
    (is-sample n (omega (arith, few)) p spells) (refuses [])) [
      | inl starved ↦ starved
      | inr why ↦ absurd (object-starved fast n few why.1 why.0 why.2 why.3)
    ]

-- the object of a compiled program is the one that its bytes encode, and so accepted
pub compiled-object : (p : Source) (target : Target) (o : Parts)
    → IsInRange o → (compiled : IsCompiledTo p target (spelling o)) → compiled.o ≡ o
compiled-object p target o range compiled =
    spelling-injective compiled.o o compiled.spells.in_range range (sym compiled.spells.spelled)

-- a compiled object is accepted
pub compiled-accepted : (p : Source) (target : Target) (o : Parts) → IsInRange o
    → IsCompiledTo p target (spelling o) → Accepts o
compiled-accepted p target o range compiled =
    subst Accepts (compiled-object p target o range compiled) compiled.accepted

judged-starved : (o : Parts)
    → Accepts o → (verdict : Verdict) (answer : Option (ℕ × Reason)) → IsRight (WhetherAccepted o) answer
    → on_judged elsewhere answer ≡ Ends nothing_seen verdict → ⊥
judged-starved o accepts verdict None right ends = not-elsewhere verdict ends
judged-starved o accepts verdict (Some refusal) first ends = refused_is_not_accepted o refusal.0 refusal.1 first accepts

-- so is its check
pub check-starved : (o : Parts)
    → Accepts o → (said : Said) → ((next : Work) → EndsWorkWith (WhetherAccepted o) (on_judged next) said) → said
    ≡ no_memory
check-starved o accepts said refuses = elim (refuses elsewhere) [
  | inl starved ↦ starved
  | inr why ↦ absurd (judged-starved o accepts why.1 why.0 why.2 why.3)
]
