-- For the proofs and for private clauses only: how a file is read token by token.
use Rattle.std.specs.Prelude.{ℕ, ◌+◌, nat_lt, Bool, true, false, List, [], ◌∷◌, ◌++◌, bytes_eq, if◌then◌else◌, Option, Some, None}
use Rattle.gr_word.specs.declared.variables.Label.{Label}
use Rattle.gr_word.specs.declared.variables.Label.TheVariants.{Public, Secret}
use Rattle.src_lexer.specs.declared.tokens.Kind.{Kind}
use Rattle.src_tree.specs.declared.trees.Decl.{Decl}
use Rattle.procs_tree.specs.Trees.{Statement, SetVariable, SetElement, Choice, Loop, Call, Nothing, Parameter, OfValue, OfVariable, Procedure, File}
use Rattle.procs_tree.specs.Inlined.{is_hidden}
use Rattle.procs_tree.specs.Seen.{block_of}
use Rattle.src_parser.specs.Grammar.{Limits}
use Rattle.src_parser.specs.Headings.{Heading, Labelled, HeadingState, Begun, Declared, declared, heading_advanced}
use Rattle.src_parser.specs.Parts.{Target}
use Rattle.src_parser.specs.Statements.{Makers, Outer, Phase, InPart, Ready, Blocks, Among, performed, is_complete, complete_of, depth_in, depth_of}
use Rattle.src_parser.specs.Tokenwise.{Advance, Goes, Wrong, mapped, with_braces}
use Rattle.procs_parser.specs.Calls.{CallState, InCall, Opened, CallStep, Still, Done, call_advanced}
use Rattle.procs_parser.specs.FileGrammar.{proc_word}
use Rattle.src_lexer.specs.declared.tokens.Kind.TheVariants as kind

-- the statements of files with procedures
abbrev pub with_calls : Makers Statement
with_calls = record {
  variable_set = SetVariable;
  element_set = SetElement;
  choice = λ test first second. Choice test (block_of first) (block_of second);
  repetition = λ test body. Loop test (block_of body);
}

-- the phase in which a procedure's head and its locals are read, by the parameters, and the locals, read so far
pub data HeadPhase : Type 0 where
  Opening : HeadPhase
  NoneYet : HeadPhase
  OneMore : (parameters : List Parameter) → HeadPhase
  ScalarLabelled : (parameters : List Parameter) (label : Label) → HeadPhase
  ScalarTyped : (parameters : List Parameter) (label : Label) → HeadPhase
  ArrayTyped : (parameters : List Parameter) → HeadPhase
  ArrayTitled : (parameters : List Parameter) (name : List ℕ) → HeadPhase
  ArrayClosing : (parameters : List Parameter) (name : List ℕ) → HeadPhase
  Behind : (parameters : List Parameter) → HeadPhase
  AllRead : (parameters : List Parameter) → HeadPhase
  LocalFresh : (parameters : List Parameter) (locals : List Decl) → HeadPhase
  LocalLabelled : (parameters : List Parameter) (locals : List Decl) (label : Label) → HeadPhase
  LocalTyped : (parameters : List Parameter) (locals : List Decl) (label : Label) → HeadPhase
  LocalTitled : (parameters : List Parameter) (locals : List Decl) (label : Label) (name : List ℕ) → HeadPhase

-- what comes before statements: the declarations, the procedures, and the procedure that they are in
pub data Front : Type 0 where
  Outside : (decls : List Decl) (procedures : List Procedure) → Front
  InProcedure : (decls : List Decl) (procedures : List Procedure) (name : List ℕ) (parameters : List Parameter)
      (locals : List Decl) → Front

-- between declarations, in one, in a procedure's head or locals, among statements, or in a call
pub data ParserState : Type 0 where
  Between : (decls : List Decl) → ParserState
  Declaring : (decls : List Decl) (heading : Heading) → ParserState
  Naming : (decls : List Decl) (procedures : List Procedure) (name : List ℕ) (phase : HeadPhase) → ParserState
  Doing : (front : Front) (blocks : Blocks Statement) → ParserState
  Calling : (front : Front) (outer : List (Outer Statement)) (here : List Statement) (name : List ℕ) (call : CallState)
      → ParserState

-- how many braces are open where statements are in no block
abbrev pub front_depth : Front → ℕ
front_depth (Outside decls procedures) = 0
front_depth (InProcedure decls procedures name parameters locals) = 1

-- a token of a statement that isn't a call
abbrev pub performs : Limits → Front → Blocks Statement → Kind → Advance ParserState
performs most front blocks k = mapped (Doing front) (performed with_calls most (front_depth front) blocks k)

-- the closing brace of a procedure
abbrev pub ending : Front → Option (List Statement) → Advance ParserState
ending (InProcedure decls procedures name parameters locals) (Some body) =
    Goes
    (Doing
    (Outside decls
    (procedures ++ record { name = name; parameters = parameters; locals = locals; body = block_of body } ∷ []))
    (Among [] [] Ready))
ending _ _ = Wrong

-- a closing brace, which ends a procedure if the statements are complete
abbrev pub brace_next : Limits → Front → Blocks Statement → Bool → Advance ParserState
brace_next most front blocks true = ending front (complete_of with_calls blocks)
brace_next most front blocks false = performs most front blocks kind.RBrace

-- the name that a statement begins with, if no more of it was read
abbrev pub target_of : Phase Statement → Option (List ℕ)
target_of (InPart (Target name)) = Some name
target_of _ = None

-- `(`, which begins a call after a name
abbrev pub bracket_next : Limits → Front → List (Outer Statement) → List Statement → Phase Statement
    → Option (List ℕ) → Advance ParserState
bracket_next most front outer here phase (Some name) = Goes (Calling front outer here name (InCall [] Opened))
bracket_next most front outer here phase None = performs most front (Among outer here phase) kind.LParen

-- a procedure begins after the name `proc`, if no statement comes before
abbrev pub opening : Front → List (Outer Statement) → List Statement → Bool → List ℕ → Advance ParserState
opening (Outside decls procedures) [] [] true name = Goes (Naming decls procedures name Opening)
opening front outer here b name = Wrong

-- a name, which begins a procedure after the name `proc`
abbrev pub word_next : Limits → Front → List (Outer Statement) → List Statement → Phase Statement → List ℕ
    → Option (List ℕ) → Advance ParserState
word_next most front outer here phase other (Some name) = opening front outer here (bytes_eq name proc_word) other
word_next most front outer here phase other None = performs most front (Among outer here phase) (kind.Word other)

-- a token of a statement
abbrev pub statement_next : Limits → Front → Blocks Statement → Kind → Advance ParserState
statement_next most front (Among outer here phase) kind.LParen =
    bracket_next most front outer here phase (target_of phase)
statement_next most front (Among outer here phase) (kind.Word other) =
    word_next most front outer here phase other (target_of phase)
statement_next most front (Among outer here phase) kind.RBrace =
    brace_next most front (Among outer here phase) (is_complete (Among outer here phase))
statement_next most front (Among outer here phase) k = performs most front (Among outer here phase) k

-- a call, or its statement when it is complete
abbrev pub with_call : Front → List (Outer Statement) → List Statement → List ℕ → CallStep → ParserState
with_call front outer here name (Still call) = Calling front outer here name call
with_call front outer here name (Done es) = Doing front (Among outer (here ++ Call name es ∷ []) Ready)

-- the first token of the statements of a file, or of a procedure
abbrev pub starts : Limits → Front → Kind → Advance ParserState
starts most front k = statement_next most front (Among [] [] Ready) k

-- a token between declarations, or the first of the statements
abbrev pub between : Limits → List Decl → Kind → Advance ParserState
between most decls kind.Public = Goes (Declaring decls (Labelled Public))
between most decls kind.Secret = Goes (Declaring decls (Labelled Secret))
between most decls k = starts most (Outside decls []) k

-- a declaration that is begun, or one more
abbrev pub with_heading : List Decl → HeadingState → ParserState
with_heading decls (Begun heading) = Declaring decls heading
with_heading decls (Declared decl) = Between (decls ++ decl ∷ [])

-- the first token of a parameter
abbrev pub parameter_begins : List Decl → List Procedure → List ℕ → List Parameter → Kind → Advance ParserState
parameter_begins decls procedures name ps kind.Public = Goes (Naming decls procedures name (ScalarLabelled ps Public))
parameter_begins decls procedures name ps kind.Secret = Goes (Naming decls procedures name (ScalarLabelled ps Secret))
parameter_begins decls procedures name ps kind.Int = Goes (Naming decls procedures name (ArrayTyped ps))
parameter_begins decls procedures name ps _ = Wrong

-- a token of a procedure's head, or of its locals
abbrev pub names_next : Limits → List Decl → List Procedure → List ℕ → HeadPhase → Kind → Advance ParserState
names_next most decls procedures name Opening kind.LParen = Goes (Naming decls procedures name NoneYet)
names_next most decls procedures name Opening _ = Wrong
names_next most decls procedures name NoneYet kind.RParen = Goes (Naming decls procedures name (AllRead []))
names_next most decls procedures name NoneYet k = parameter_begins decls procedures name [] k
names_next most decls procedures name (OneMore ps) k = parameter_begins decls procedures name ps k
names_next most decls procedures name (ScalarLabelled ps label) kind.Int =
    Goes (Naming decls procedures name (ScalarTyped ps label))
names_next most decls procedures name (ScalarLabelled ps label) _ = Wrong
names_next most decls procedures name (ScalarTyped ps label) (kind.Word x) =
    Goes (Naming decls procedures name (Behind (ps ++ OfValue label x ∷ [])))
names_next most decls procedures name (ScalarTyped ps label) _ = Wrong
names_next most decls procedures name (ArrayTyped ps) (kind.Word x) =
    Goes (Naming decls procedures name (ArrayTitled ps x))
names_next most decls procedures name (ArrayTyped ps) _ = Wrong
names_next most decls procedures name (ArrayTitled ps x) kind.LBracket =
    Goes (Naming decls procedures name (ArrayClosing ps x))
names_next most decls procedures name (ArrayTitled ps x) _ = Wrong
names_next most decls procedures name (ArrayClosing ps x) kind.RBracket =
    Goes (Naming decls procedures name (Behind (ps ++ OfVariable x ∷ [])))
names_next most decls procedures name (ArrayClosing ps x) _ = Wrong
names_next most decls procedures name (Behind ps) kind.Semi = Goes (Naming decls procedures name (OneMore ps))
names_next most decls procedures name (Behind ps) kind.RParen = Goes (Naming decls procedures name (AllRead ps))
names_next most decls procedures name (Behind ps) _ = Wrong
names_next most decls procedures name (AllRead ps) kind.LBrace =
    with_braces (nat_lt 0 most.braces) (Naming decls procedures name (LocalFresh ps []))
names_next most decls procedures name (AllRead ps) _ = Wrong
names_next most decls procedures name (LocalFresh ps ls) kind.Public =
    Goes (Naming decls procedures name (LocalLabelled ps ls Public))
names_next most decls procedures name (LocalFresh ps ls) kind.Secret =
    Goes (Naming decls procedures name (LocalLabelled ps ls Secret))
names_next most decls procedures name (LocalFresh ps ls) k =
    starts most (InProcedure decls procedures name ps ls) k
names_next most decls procedures name (LocalLabelled ps ls label) kind.Int =
    Goes (Naming decls procedures name (LocalTyped ps ls label))
names_next most decls procedures name (LocalLabelled ps ls label) _ = Wrong
names_next most decls procedures name (LocalTyped ps ls label) (kind.Word x) =
    Goes (Naming decls procedures name (LocalTitled ps ls label x))
names_next most decls procedures name (LocalTyped ps ls label) _ = Wrong
names_next most decls procedures name (LocalTitled ps ls label x) kind.Semi =
    Goes (Naming decls procedures name (LocalFresh ps (ls ++ declared label x None ∷ [])))
names_next most decls procedures name (LocalTitled ps ls label x) _ = Wrong

-- a token, where each name is shown
abbrev pub advanced : Limits → ParserState → Kind → Advance ParserState
advanced most (Between decls) k = between most decls k
advanced most (Declaring decls heading) k = mapped (with_heading decls) (heading_advanced heading k)
advanced most (Naming decls procedures name phase) k = names_next most decls procedures name phase k
advanced most (Doing front blocks) k = statement_next most front blocks k
advanced most (Calling front outer here name call) k =
    mapped (with_call front outer here name) (call_advanced most call k)

-- whether a token is a name that begins with `__`
abbrev pub is_hidden_token : Kind → Bool
is_hidden_token (kind.Word name) = is_hidden name
is_hidden_token k = false

-- a token
abbrev pub taken : Limits → ParserState → Kind → Advance ParserState
taken most state k = if is_hidden_token k then Wrong else advanced most state k

-- the file, where its statements are complete and in no procedure
abbrev pub file_at : Front → Option (List Statement) → Option File
file_at (Outside decls procedures) (Some body) =
    Some (record { decls = decls; procedures = procedures; body = block_of body })
file_at _ _ = None

-- the file that was read, if it is complete
abbrev pub program_of : ParserState → Option File
program_of (Between decls) = Some (record { decls = decls; procedures = []; body = Nothing })
program_of (Doing front blocks) = file_at front (complete_of with_calls blocks)
program_of _ = None

-- how many braces are open in a head or after it
abbrev pub head_depth : HeadPhase → ℕ
head_depth (LocalFresh ps ls) = 1
head_depth (LocalLabelled ps ls label) = 1
head_depth (LocalTyped ps ls label) = 1
head_depth (LocalTitled ps ls label name) = 1
head_depth _ = 0

-- how many braces are open
abbrev pub open_braces : ParserState → ℕ
open_braces (Naming decls procedures name phase) = head_depth phase
open_braces (Doing front blocks) = depth_of (front_depth front) blocks
open_braces (Calling front outer here name call) = depth_in (front_depth front) outer
open_braces _ = 0
