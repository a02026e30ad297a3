-- Every state that tokens lead to has read these tokens.
use Rattle.std.proofs.Common.{◌≡◌, None, ℕ, ◌<◌, List, [], ◌∷◌, ◌++◌, refl, sym, subst, append_assoc}
use Rattle.std.proofs.lemmas.List.{append-nil}
use Rattle.gr_word.specs.declared.variables.Label.{Label}
use Rattle.src_lexer.specs.declared.tokens.Kind.{Kind}
use Rattle.src_tree.specs.declared.trees.Decl.{Decl}
use Rattle.procs_tree.specs.Prelude.{Statement, Block, Parameter, Procedure, File}
use Rattle.procs_parser.specs.Prelude.{SpellsParameter, SpellsParameters, LastOne, Another, Parameters, Locals, NoLocal, Local, proc_word, Procedures, NoProcedure, AProcedure, SpellsBlock, CallState, ParserState, Between, Declaring, Naming, Doing, Calling, HeadPhase, Opening, NoneYet, OneMore, ScalarLabelled, ScalarTyped, ArrayTyped, ArrayTitled, ArrayClosing, Behind, AllRead, LocalFresh, LocalLabelled, LocalTyped, LocalTitled, Front, Outside, InProcedure, front_depth, with_calls}
use Rattle.src_parser.specs.Prelude.{Limits, keyword_of, Declares, Heading, Outer, Blocks}
use Rattle.src_parser.proofs.HeadingTokens.{Heads}
use Rattle.src_parser.proofs.StatementsStanding.{Enclosed, StatementsStand}
use Rattle.procs_parser.proofs.CallTokens.{IsCall, CallStands}
use Rattle.src_lexer.specs.declared.tokens.Kind.TheVariants as kind

-- tokens that are a file, for any names
pub data Sentence (most : Limits) : List Kind → File → Type 0 where
  Program : {first middle back : List Kind} {decls : List Decl} {procedures : List Procedure} {body : Block}
      → Declares first decls → Procedures most middle procedures → SpellsBlock most 0 back body
      → Sentence most ((first ++ middle) ++ back) (record { decls = decls; procedures = procedures; body = body })

-- these tokens lead to these declarations and procedures, and into a procedure where one is open
pub data Begun (most : Limits) : Front → List Kind → Type 0 where
  AtTop : {first middle : List Kind} {decls : List Decl} {procedures : List Procedure} → Declares first decls
      → Procedures most middle procedures → Begun most (Outside decls procedures) (first ++ middle)
  InBody : {before ps ls : List Kind} {decls locals : List Decl} {procedures : List Procedure}
      {parameters : List Parameter} (name : List ℕ) → Begun most (Outside decls procedures) before
      → Parameters ps parameters → 0 < most.braces → Locals ls locals
      → Begun most (InProcedure decls procedures name parameters locals)
      (before ++ (kind.Word proc_word ∷ kind.Word name ∷ kind.LParen ∷ (ps ++ kind.RParen ∷ kind.LBrace ∷ ls)))

-- parameters with a `;` after each
pub data ParametersBefore : List Kind → List Parameter → Type 0 where
  NoneBefore : ParametersBefore [] []
  SomeBefore : {ts : List Kind} {ps : List Parameter} → SpellsParameters ts ps
      → ParametersBefore (ts ++ kind.Semi ∷ []) ps

-- the tokens of a head up to its parameters
abbrev pub head_of : List ℕ → List Kind → List Kind
head_of name ts = kind.Word proc_word ∷ kind.Word name ∷ kind.LParen ∷ ts

-- these tokens of a procedure lead to the phase of its head, or of its locals
pub data Names (most : Limits) (name : List ℕ) : HeadPhase → List Kind → Type 0 where
  IsOpening : Names most name Opening (kind.Word proc_word ∷ kind.Word name ∷ [])
  IsNoneYet : Names most name NoneYet (head_of name [])
  IsOneMore : {ts : List Kind} {ps : List Parameter} → SpellsParameters ts ps
      → Names most name (OneMore ps) (head_of name (ts ++ kind.Semi ∷ []))
  IsScalarLabelled : {ts : List Kind} {ps : List Parameter} (label : Label) → ParametersBefore ts ps
      → Names most name (ScalarLabelled ps label) (head_of name (ts ++ keyword_of label ∷ []))
  IsScalarTyped : {ts : List Kind} {ps : List Parameter} (label : Label) → ParametersBefore ts ps
      → Names most name (ScalarTyped ps label) (head_of name (ts ++ keyword_of label ∷ kind.Int ∷ []))
  IsArrayTyped : {ts : List Kind} {ps : List Parameter} → ParametersBefore ts ps
      → Names most name (ArrayTyped ps) (head_of name (ts ++ kind.Int ∷ []))
  IsArrayTitled : {ts : List Kind} {ps : List Parameter} (x : List ℕ) → ParametersBefore ts ps
      → Names most name (ArrayTitled ps x) (head_of name (ts ++ kind.Int ∷ kind.Word x ∷ []))
  IsArrayClosing : {ts : List Kind} {ps : List Parameter} (x : List ℕ) → ParametersBefore ts ps
      → Names most name (ArrayClosing ps x) (head_of name (ts ++ kind.Int ∷ kind.Word x ∷ kind.LBracket ∷ []))
  IsBehind : {ts : List Kind} {ps : List Parameter} → SpellsParameters ts ps
      → Names most name (Behind ps) (head_of name ts)
  IsAllRead : {ts : List Kind} {ps : List Parameter} → Parameters ts ps
      → Names most name (AllRead ps) (head_of name (ts ++ kind.RParen ∷ []))
  IsLocalFresh : {ts us : List Kind} {ps : List Parameter} {ls : List Decl} → Parameters ts ps
      → 0 < most.braces → Locals us ls
      → Names most name (LocalFresh ps ls) (head_of name (ts ++ kind.RParen ∷ kind.LBrace ∷ us))
  IsLocalLabelled : {ts us : List Kind} {ps : List Parameter} {ls : List Decl} (label : Label)
      → Parameters ts ps → 0 < most.braces → Locals us ls
      → Names most name (LocalLabelled ps ls label)
      (head_of name (ts ++ kind.RParen ∷ kind.LBrace ∷ (us ++ keyword_of label ∷ [])))
  IsLocalTyped : {ts us : List Kind} {ps : List Parameter} {ls : List Decl} (label : Label)
      → Parameters ts ps → 0 < most.braces → Locals us ls
      → Names most name (LocalTyped ps ls label)
      (head_of name (ts ++ kind.RParen ∷ kind.LBrace ∷ (us ++ keyword_of label ∷ kind.Int ∷ [])))
  IsLocalTitled : {ts us : List Kind} {ps : List Parameter} {ls : List Decl} (label : Label) (x : List ℕ)
      → Parameters ts ps → 0 < most.braces → Locals us ls
      → Names most name (LocalTitled ps ls label x)
      (head_of name (ts ++ kind.RParen ∷ kind.LBrace ∷ (us ++ keyword_of label ∷ kind.Int ∷ kind.Word x ∷ [])))

-- one parameter more, and one local more
parameters_then : {ts us : List Kind} {ps : List Parameter} {p : Parameter} → SpellsParameters ts ps
    → SpellsParameter us p → SpellsParameters (ts ++ kind.Semi ∷ us) (ps ++ p ∷ [])
parameters_then (LastOne s) t = Another s (LastOne t)
parameters_then {us = us} {p = p} (Another {tokens = tokens} {rest = rest} {p = a} {ps = ps} s more) t =
    subst (λ z. SpellsParameters z (a ∷ (ps ++ p ∷ []))) (sym (append_assoc tokens (kind.Semi ∷ rest) (kind.Semi ∷ us)))
    (Another s (parameters_then more t))

pub one_parameter : {ts us : List Kind} {ps : List Parameter} {p : Parameter} → ParametersBefore ts ps
    → SpellsParameter us p → SpellsParameters (ts ++ us) (ps ++ p ∷ [])
one_parameter NoneBefore t = LastOne t
one_parameter {us = us} {ps = ps} {p = p} (SomeBefore {ts = ts} s) t =
    subst (λ z. SpellsParameters z (ps ++ p ∷ [])) (sym (append_assoc ts (kind.Semi ∷ []) us)) (parameters_then s t)

pub one_local : {us : List Kind} {ls : List Decl} (label : Label) (x : List ℕ) → Locals us ls
    → Locals (us ++ keyword_of label ∷ kind.Int ∷ kind.Word x ∷ kind.Semi ∷ [])
    (ls ++ record { name = x; label = label; length = None } ∷ [])
one_local label x NoLocal = Local label x NoLocal
one_local label x (Local other y more) = Local other y (one_local label x more)

-- one procedure more
procedures_both : {most : Limits} {ts us : List Kind} {a b : List Procedure} → Procedures most ts a
    → Procedures most us b → Procedures most (ts ++ us) (a ++ b)
procedures_both NoProcedure q = q
procedures_both {most} {us = us} {b = b} (AProcedure {ps = ps} {ls = ls} {body = body} {rest = rest}
    {parameters = parameters}
    {locals = locals} {block = block} {others = others} name p room l w more) q =
    subst (λ z. Procedures most z
    (record { name = name; parameters = parameters; locals = locals; body = block } ∷ (others ++ b)))
    (simp append_assoc refl) (AProcedure name p room l w (procedures_both more q))

begun_at : {most : Limits} {front : Front} (xs ys : List Kind) → xs ≡ ys → Begun most front xs
    → Begun most front ys
begun_at {most} {front} xs ys e b = subst (λ z. Begun most front z) e b

-- a procedure that is closed
pub procedure_ends : {most : Limits} {decls locals : List Decl} {procedures : List Procedure} {name : List ℕ}
    {parameters : List Parameter} {before body : List Kind} {block : Block}
    → Begun most (InProcedure decls procedures name parameters locals) before → SpellsBlock most 1 body block
    → Begun most
    (Outside decls
    (procedures ++ record { name = name; parameters = parameters; locals = locals; body = block } ∷ []))
    ((before ++ body) ++ kind.RBrace ∷ [])
procedure_ends {body = body} (InBody {ps = ps} {ls = ls} name (AtTop {first = first} {middle = middle} d q) p room l)
    w =
    begun_at _ _ (simp (append_assoc, append-nil) refl)
    (AtTop d (procedures_both q (AProcedure name p room l w NoProcedure)))

-- these tokens lead to this state
pub data Standing (most : Limits) : ParserState → List Kind → Type 0 where
  InBetween : {decls : List Decl} {first : List Kind} → Declares first decls
      → Standing most (Between decls) first
  InHeading : {decls : List Decl} {heading : Heading} {first us : List Kind}
      → Declares first decls → Heads heading us → Standing most (Declaring decls heading) (first ++ us)
  InHead : {decls : List Decl} {procedures : List Procedure} {name : List ℕ} {phase : HeadPhase}
      {ts us : List Kind} → Begun most (Outside decls procedures) ts → Names most name phase us
      → Standing most (Naming decls procedures name phase) (ts ++ us)
  InStatements : {front : Front} {blocks : Blocks Statement} {ts us : List Kind} → Begun most front ts
      → StatementsStand with_calls (IsCall most) most (front_depth front) blocks us
      → Standing most (Doing front blocks) (ts ++ us)
  InArguments : {front : Front} {outer : List (Outer Statement)} {depth : ℕ} {here : List Statement} {call : CallState}
      {ts us vs : List Kind} (name : List ℕ) → Begun most front ts
      → Enclosed with_calls (IsCall most) most (front_depth front) outer depth here us → CallStands most call vs
      → Standing most (Calling front outer here name call) (ts ++ (us ++ (kind.Word name ∷ kind.LParen ∷ vs)))
