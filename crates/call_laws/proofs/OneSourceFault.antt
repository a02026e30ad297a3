-- A source text has at most one first fault, and none if it spells a program that is well typed and within the limits.
use Rattle.std.proofs.Common.{◌≡◌, ◌∙◌, ℕ, Bool, true, false, List, ◌∷◌, [], ◌++◌, Option, Some, None, Result, Ok, Err, refl, sym, ap, subst}
use Rattle.src_lexer.specs.declared.tokens.Kind.{Kind}
use Rattle.src_lexer.specs.declared.tokens.Token.{Token}
use Rattle.src_lexer.specs.declared.errors.LexFault.{LexFault}
use Rattle.src_lexer.specs.Prelude.{Lexed, Splits}
use Rattle.src_lexer.proofs.OneReading.{one_reading, same_tokens}
use Rattle.src_parser.specs.Prelude.{Limits, limits, Sentence, token_kinds, Begins, Stray, Deeper, Cut, ExplainsTokens}
use Rattle.src_parser.specs.declared.errors.ParseFault.{ParseFault}
use Rattle.src_parser.proofs.OneProgram.{one_program}
use Rattle.src_parser.proofs.OneRefusal.{one_stray, one_deeper, stray_or_deeper, stray_or_cut, deeper_or_cut}
use Rattle.src_parser.proofs.Places.{stray, deeper, cut}
use Rattle.src_parser.proofs.Refused.{program_laws}
use Rattle.src_parser.proofs.Tokenwise.{next_begins}
use Rattle.procs_parser.specs.Prelude.{SpellsFile, ExplainsFile}
use Rattle.procs_parser.proofs.FileLaws.{file_laws}
use Rattle.procs_parser.proofs.ReadFiles.{file_read}
use Rattle.procs_tree.specs.Prelude.{inlined_file, File, IsFirstCallFault, ExplainsInlining}
use Rattle.procs_tree.specs.declared.errors.InlineError.{InlineError}
use Rattle.procs_tree.proofs.CallCauses.{one-cause}
use Rattle.src_tree.specs.Prelude.{Source, first_fault}
use Rattle.src_tree.specs.declared.faults.TypeError.{TypeError}
use Rattle.src_tree.proofs.FirstFaults.{caused}
use Rattle.src_tree.proofs.Faultless.{faultless}
use Rattle.flow_types.specs.Prelude.{ExplainsProgram}
use Rattle.call_replies.specs.declared.source_faults.SourceFault.{SourceFault}
use Rattle.call_laws.specs.Prelude.{OneSource}
use Rattle.call_steps.specs.Prelude.{IsRight, WhichSource, AreProgram, Spells, SpellsTyped, IsFileFault, NoFile, InCalls, IsTokensFault, IsFirstSourceFault, InPieces, InTokens, InProgram, piece_fault, token_fault, shown_call_fault, program_fault}
use Rattle.src_parser.specs.declared.errors.ParseFault.TheVariants as error
use Rattle.procs_tree.specs.declared.errors.InlineError.TheVariants as calls
use Rattle.src_tree.specs.declared.faults.TypeError.TheVariants as program

some-once : {A : Type 0} (x : Option A) (a b : A) → x ≡ Some a → x ≡ Some b → a ≡ b
some-once {A = A} x a b e f = let g : ◌≡◌ {A = Option A} (Some a) (Some b) = sym e ∙ f in cc

none-not : {A X : Type 0} (x : Option A) (a : A) → x ≡ None → x ≡ Some a → X
none-not {A = A} x a e f = absurd (let g : ◌≡◌ {A = Option A} None (Some a) = sym e ∙ f in cc)

-- ---- what a text splits into, and what tokens are

err-same : (a b : LexFault) → ◌≡◌ {A = Lexed} (Err a) (Err b) → a ≡ b
err-same a b e = cc

split-or-not : {X : Type 0} (text : List ℕ) (tokens : List Token) (e : LexFault) → Splits 0 text (Ok tokens)
    → Splits 0 text (Err e) → X
split-or-not text tokens e split fails =
    absurd (let f : ◌≡◌ {A = Lexed} (Ok tokens) (Err e) = one_reading 0 text (Ok tokens) (Err e) split fails in cc)

pub same-file : (tokens : List Token) (f g : File) → SpellsFile limits (token_kinds tokens) f
    → SpellsFile limits (token_kinds tokens) g → f ≡ g
same-file tokens f g one other = let first = file_read one in let second = file_read other in cc

-- a text gives one program
pub program-once : (procs : Bool) (text : List ℕ) (p q : Source) → Spells procs text p → Spells procs text q → p ≡ q
program-once false text p q one other = one_program text p q one other
program-once true text p q one other =
    let tokens = same_tokens 0 text other.tokens one.tokens other.split one.split in
    let files : one.of_file.file ≡ other.of_file.file =
    same-file one.tokens one.of_file.file other.of_file.file one.of_file.spelled
    (subst (λ (ts : List Token). SpellsFile limits (token_kinds ts) other.of_file.file) tokens other.of_file.spelled) in
    one.of_file.made ∙ ap inlined_file files ∙ sym other.of_file.made

record IsSplit (procs : Bool) (text : List ℕ) (p : Source) : Type 0 where
  tokens : List Token
  split : Splits 0 text (Ok tokens)
  program : AreProgram procs tokens p

split-of : (procs : Bool) (text : List ℕ) (p : Source) → Spells procs text p → IsSplit procs text p
split-of false text p s = record { tokens = s.tokens; split = s.split; program = s.sentence }
split-of true text p s = record { tokens = s.tokens; split = s.split; program = s.of_file }

-- ---- errors of tokens, by any grammar

abbrev ExplainsBy : {P : Type 0} → (Limits → List Kind → P → Type 0) → ParseFault → List Token → Type 0
ExplainsBy S (error.Unexpected at) tokens = Stray S tokens at
ExplainsBy S error.EndOfText tokens = Cut S tokens
ExplainsBy S (error.TooDeep at) tokens = Deeper S tokens at

of-tokens : (e : ParseFault) (tokens : List Token) → ExplainsTokens e tokens → ExplainsBy Sentence e tokens
of-tokens (error.Unexpected at) tokens h = stray h
of-tokens error.EndOfText tokens h = cut h
of-tokens (error.TooDeep at) tokens h = deeper h

of-file : (e : ParseFault) (tokens : List Token) → ExplainsFile e tokens → ExplainsBy SpellsFile e tokens
of-file (error.Unexpected at) tokens h = h
of-file error.EndOfText tokens h = h
of-file (error.TooDeep at) tokens h = h

module _ {P : Type 0} (S : Limits → List Kind → P → Type 0) (tokens : List Token) where
  error-once : (a b : ParseFault) → ExplainsBy S a tokens → ExplainsBy S b tokens → a ≡ b
  error-once (error.Unexpected at) (error.Unexpected to) s t = ap error.Unexpected (one_stray s t)
  error-once (error.Unexpected at) (error.TooDeep to) s t = absurd (stray_or_deeper s t)
  error-once (error.Unexpected at) error.EndOfText s t = absurd (stray_or_cut s t)
  error-once (error.TooDeep at) (error.Unexpected to) s t = absurd (stray_or_deeper t s)
  error-once (error.TooDeep at) (error.TooDeep to) s t = ap error.TooDeep (one_deeper s t)
  error-once (error.TooDeep at) error.EndOfText s t = absurd (deeper_or_cut s t)
  error-once error.EndOfText (error.Unexpected to) s t = absurd (stray_or_cut t s)
  error-once error.EndOfText (error.TooDeep to) s t = absurd (deeper_or_cut t s)
  error-once error.EndOfText error.EndOfText s t = refl

  -- no error is true of a sentence
  no-error : ((before after : List Token) (token : Token) (tree : P) → tokens ≡ before ++ token ∷ after
      → S limits (token_kinds tokens) tree → Begins S limits (token_kinds before ++ token.kind ∷ []))
      → (tree : P) → S limits (token_kinds tokens) tree → (e : ParseFault) → ExplainsBy S e tokens → ⊥
  no-error begins tree s (error.Unexpected at) h =
      h.none limits (begins h.before h.after h.token tree h.split s)
  no-error begins tree s error.EndOfText h = h.none tree s
  no-error begins tree s (error.TooDeep at) h = h.none (begins h.before h.after h.token tree h.split s)

no-refusal : (tokens : List Token) (p : Source) (e : ParseFault) (shown : SourceFault)
    → Sentence limits (token_kinds tokens) p → ExplainsTokens e tokens → token_fault e ≡ Some shown → ⊥
no-refusal tokens p e shown s h is =
    no-error Sentence tokens (λ before after token tree split t.
    next_begins program_laws tokens before after token tree split t) p s e (of-tokens e tokens h)

-- and none of a file with procedures
pub no-file-refusal : (tokens : List Token) (f : File) (e : ParseFault) → SpellsFile limits (token_kinds tokens) f
    → ExplainsFile e tokens → ⊥
no-file-refusal tokens f e s h =
    no-error SpellsFile tokens (λ before after token tree split t.
    next_begins file_laws tokens before after token tree split t) f s e (of-file e tokens h)

-- ---- errors of calls and of programs

call-is : (e : InlineError) (f : File) (shown : SourceFault) → ExplainsInlining e f → shown_call_fault e ≡ Some shown
    → IsFirstCallFault f e
call-is calls.Memory f shown h is = none-not None shown refl is
call-is e f shown h is = h

program-is : (e : TypeError) (p : Source) (shown : SourceFault) → ExplainsProgram e p → program_fault e ≡ Some shown
    → first_fault p ≡ Some e
program-is program.Memory p shown h is = none-not None shown refl is
program-is e p shown h is = caused p e h

-- ---- the first fault of tokens

file-fault-once : (tokens : List Token) (a b : SourceFault) → IsFileFault tokens a → IsFileFault tokens b → a ≡ b
file-fault-once tokens a b (NoFile e h is) (NoFile e' h' is') =
    let same = error-once SpellsFile tokens e e' (of-file e tokens h) (of-file e' tokens h') in
    some-once (token_fault e) a b is (ap token_fault same ∙ is')
file-fault-once tokens a b (NoFile e h is) (InCalls f e' spells h' is') =
    absurd (no-file-refusal tokens f e spells h)
file-fault-once tokens a b (InCalls f e' spells h' is') (NoFile e h is) =
    absurd (no-file-refusal tokens f e spells h)
file-fault-once tokens a b (InCalls f e spells h is) (InCalls g e' spells' h' is') =
    let files = same-file tokens g f spells' spells in
    let same = one-cause f e e' (call-is e f a h is)
    (subst (λ (x : File). IsFirstCallFault x e') files (call-is e' g b h' is')) in
    some-once (shown_call_fault e) a b is (ap shown_call_fault same ∙ is')

tokens-fault-once : (procs : Bool) (tokens : List Token) (a b : SourceFault) → IsTokensFault procs tokens a
    → IsTokensFault procs tokens b → a ≡ b
tokens-fault-once false tokens a b one other =
    let same = error-once Sentence tokens one.0 other.0 (of-tokens one.0 tokens one.1) (of-tokens other.0 tokens other.1) in
    some-once (token_fault one.0) a b one.2 (ap token_fault same ∙ other.2)
tokens-fault-once true tokens a b one other = file-fault-once tokens a b one other

-- tokens that give a program have none
file-fault-not : (tokens : List Token) (a : SourceFault) (p : Source) → IsFileFault tokens a → AreProgram true tokens p
    → ⊥
file-fault-not tokens a p (NoFile e h is) made = no-file-refusal tokens made.file e made.spelled h
file-fault-not tokens a p (InCalls f e spells h is) made =
    made.faultless e
    (subst (λ (x : File). IsFirstCallFault x e) (same-file tokens f made.file spells made.spelled) (call-is e f a h is))

tokens-fault-not : (procs : Bool) (tokens : List Token) (a : SourceFault) (p : Source) → IsTokensFault procs tokens a
    → AreProgram procs tokens p → ⊥
tokens-fault-not false tokens a p fault s = no-refusal tokens p fault.0 a s fault.1 fault.2
tokens-fault-not true tokens a p fault made = file-fault-not tokens a p fault made

-- ---- the first fault of a text

module _ (procs : Bool) (text : List ℕ) where
  split-spells : {X : Type 0} (p : Source) (e : LexFault) → Spells procs text p → Splits 0 text (Err e) → X
  split-spells p e spells fails =
      let s = split-of procs text p spells in split-or-not text s.tokens e s.split fails

  tokens-spell : (p : Source) (tokens : List Token) (a : SourceFault) → Spells procs text p → Splits 0 text (Ok tokens)
      → IsTokensFault procs tokens a → ⊥
  tokens-spell p tokens a spells split fault =
      let s = split-of procs text p spells in
      tokens-fault-not procs tokens a p fault
      (subst (λ (ts : List Token). AreProgram procs ts p) (same_tokens 0 text s.tokens tokens s.split split) s.program)

  fault-once : (a b : SourceFault) → IsFirstSourceFault procs text a → IsFirstSourceFault procs text b → a ≡ b
  fault-once a b (InPieces e s is) (InPieces e' s' is') =
      let same = err-same e e' (one_reading 0 text (Err e) (Err e') s s') in
      some-once (piece_fault e) a b is (ap piece_fault same ∙ is')
  fault-once a b (InPieces e s is) (InTokens ts s' t) = split-or-not text ts e s' s
  fault-once a b (InPieces e s is) (InProgram p e' spells h is') = split-spells p e spells s
  fault-once a b (InTokens ts s t) (InPieces e s' is) = split-or-not text ts e s s'
  fault-once a b (InTokens ts s t) (InTokens ts' s' t') =
      tokens-fault-once procs ts a b t
      (subst (λ (x : List Token). IsTokensFault procs x b) (same_tokens 0 text ts' ts s' s) t')
  fault-once a b (InTokens ts s t) (InProgram p e spells h is) = absurd (tokens-spell p ts a spells s t)
  fault-once a b (InProgram p e spells h is) (InPieces e' s is') = split-spells p e' spells s
  fault-once a b (InProgram p e spells h is) (InTokens ts s t) = absurd (tokens-spell p ts b spells s t)
  fault-once a b (InProgram p e spells h is) (InProgram q e' spells' h' is') =
      let programs = program-once procs text p q spells spells' in
      let same = some-once (first_fault p) e e' (program-is e p a h is) (ap first_fault programs ∙ program-is e' q b h' is')
      in
      some-once (program_fault e) a b is (ap program_fault same ∙ is')

  -- a text that spells such a program has none
  fault-not : (p : Source) (a : SourceFault) → SpellsTyped procs text p → IsFirstSourceFault procs text a → ⊥
  fault-not p a typed (InPieces e s is) = split-spells p e typed.spells s
  fault-not p a typed (InTokens ts s t) = tokens-spell p ts a typed.spells s t
  fault-not p a typed (InProgram q e spells h is) =
      let programs = program-once procs text p q typed.spells spells in
      none-not (first_fault p) e (faultless p (record { typed = typed.typed; within = typed.within }))
      (ap first_fault programs ∙ program-is e q a h is)

  pub source-once : (a b : Result Source SourceFault) → IsRight (WhichSource procs text) a
      → IsRight (WhichSource procs text) b → a ≡ b
  source-once (Ok p) (Ok q) one other = ap Ok (program-once procs text p q one.spells other.spells)
  source-once (Ok p) (Err a) one other = absurd (fault-not p a one other)
  source-once (Err a) (Ok p) one other = absurd (fault-not p a other one)
  source-once (Err a) (Err b) one other = ap Err (fault-once a b one other)

pub one-source : OneSource
one-source = record {
  one_file = λ tokens f g. same-file tokens f g;
  no_refusal = λ tokens f e. no-file-refusal tokens f e;
  once = λ procs text a b. source-once procs text a b;
}
