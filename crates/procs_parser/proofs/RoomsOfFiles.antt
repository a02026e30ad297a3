-- What a token does depends on the limits in one way only: it is read where there is room.
use Rattle.std.proofs.Common.{◌≢◌, ℕ, Bool, true, false, List, [], Option, Some, None}
use Rattle.std.specs.Prelude.{bytes_eq, if◌then◌else◌}
use Rattle.src_lexer.specs.declared.tokens.Kind.{Kind}
use Rattle.src_tree.specs.declared.trees.Decl.{Decl}
use Rattle.procs_tree.specs.Prelude.{Statement, Parameter, Procedure}
use Rattle.procs_parser.specs.Prelude.{proc_word, ParserState, Between, Declaring, Doing, Calling, Naming, Front, Outside, InProcedure, HeadPhase, Opening, NoneYet, OneMore, ScalarLabelled, ScalarTyped, ArrayTyped, ArrayTitled, ArrayClosing, Behind, AllRead, LocalFresh, LocalLabelled, LocalTyped, LocalTitled, front_depth, with_calls, performs, ending, brace_next, target_of, bracket_next, opening, word_next, statement_next, with_call, between, parameter_begins, names_next, is_hidden_token, taken, head_depth, with_heading, advanced, open_braces}
use Rattle.src_parser.specs.Prelude.{heading_advanced, Outer, Phase, Ready, Blocks, Among, is_complete, complete_of, depth_in, depth_of, Wrong, TooMuch}
use Rattle.src_parser.proofs.Tokenwise.{Shape}
use Rattle.src_parser.proofs.Rooms.{constant, wrong_not_much, brace_room, mapped_shape, heading_not}
use Rattle.src_parser.proofs.StatementRooms.{statements_shape}
use Rattle.procs_parser.proofs.CallLimits.{call_shape}
use Rattle.src_lexer.specs.declared.tokens.Kind.TheVariants as kind

performs_shape : (front : Front) (blocks : Blocks Statement) (k : Kind)
    → Shape ParserState k (depth_of (front_depth front) blocks) (λ most. performs most front blocks k)
performs_shape front blocks k = mapped_shape (Doing front) (statements_shape with_calls (front_depth front) blocks k)

ending_not : (front : Front) (o : Option (List Statement)) → ending front o ≢ TooMuch
ending_not (InProcedure decls procedures name ps ls) (Some body) e = absurd (cc)
ending_not _ _ e = absurd (cc)

brace_shape : (front : Front) (blocks : Blocks Statement) (b : Bool)
    → Shape ParserState kind.RBrace (depth_of (front_depth front) blocks) (λ most. brace_next most front blocks b)
brace_shape front blocks true = constant _ (ending_not front (complete_of with_calls blocks))
brace_shape front blocks false = performs_shape front blocks kind.RBrace

bracket_shape : (front : Front) (outer : List (Outer Statement)) (here : List Statement) (phase : Phase Statement)
    (o : Option (List ℕ)) → Shape ParserState kind.LParen (depth_in (front_depth front) outer)
    (λ most. bracket_next most front outer here phase o)
bracket_shape front outer here phase (Some name) = constant _ (λ e. absurd (cc))
bracket_shape front outer here phase None = performs_shape front (Among outer here phase) kind.LParen

opening_not : (front : Front) (outer : List (Outer Statement)) (here : List Statement) (b : Bool) (name : List ℕ)
    → opening front outer here b name ≢ TooMuch
opening_not (Outside decls procedures) [] [] true name e = absurd (cc)
opening_not _ _ _ _ name e = absurd (cc)

word_shape : (front : Front) (outer : List (Outer Statement)) (here : List Statement) (phase : Phase Statement)
    (other : List ℕ) (o : Option (List ℕ)) → Shape ParserState (kind.Word other) (depth_in (front_depth front) outer)
    (λ most. word_next most front outer here phase other o)
word_shape front outer here phase other (Some name) =
    constant _ (opening_not front outer here (bytes_eq name proc_word) other)
word_shape front outer here phase other None = performs_shape front (Among outer here phase) (kind.Word other)

statement_shape : (front : Front) (blocks : Blocks Statement) (k : Kind)
    → Shape ParserState k (depth_of (front_depth front) blocks) (λ most. statement_next most front blocks k)
statement_shape front (Among outer here phase) kind.LParen = bracket_shape front outer here phase (target_of phase)
statement_shape front (Among outer here phase) (kind.Word other) =
    word_shape front outer here phase other (target_of phase)
statement_shape front (Among outer here phase) kind.RBrace =
    brace_shape front (Among outer here phase) (is_complete (Among outer here phase))
statement_shape front (Among outer here phase) k = performs_shape front (Among outer here phase) k

between_shape : (decls : List Decl) (k : Kind) → Shape ParserState k 0 (λ most. between most decls k)
between_shape decls kind.Public = constant _ (λ e. absurd (cc))
between_shape decls kind.Secret = constant _ (λ e. absurd (cc))
between_shape decls k = statement_shape (Outside decls []) (Among [] [] Ready) k

parameter_not : (decls : List Decl) (procedures : List Procedure) (name : List ℕ) (ps : List Parameter) (k : Kind)
    → parameter_begins decls procedures name ps k ≢ TooMuch
parameter_not decls procedures name ps kind.Public e = absurd (cc)
parameter_not decls procedures name ps kind.Secret e = absurd (cc)
parameter_not decls procedures name ps kind.Int e = absurd (cc)
parameter_not decls procedures name ps _ e = absurd (cc)

parameter_shape : (decls : List Decl) (procedures : List Procedure) (name : List ℕ) (ps : List Parameter)
    (k : Kind) → Shape ParserState k 0 (λ most. parameter_begins decls procedures name ps k)
parameter_shape decls procedures name ps k = constant _ (parameter_not decls procedures name ps k)

first_shape : (decls : List Decl) (procedures : List Procedure) (name : List ℕ) (k : Kind)
    → Shape ParserState k 0 (λ most. names_next most decls procedures name NoneYet k)
first_shape decls procedures name kind.RParen = constant _ (λ e. absurd (cc))
first_shape decls procedures name k = parameter_shape decls procedures name [] k

local_shape : (decls : List Decl) (procedures : List Procedure) (name : List ℕ) (ps : List Parameter) (ls : List Decl)
    (k : Kind)
    → Shape ParserState k 1 (λ most. names_next most decls procedures name (LocalFresh ps ls) k)
local_shape decls procedures name ps ls kind.Public = constant _ (λ e. absurd (cc))
local_shape decls procedures name ps ls kind.Secret = constant _ (λ e. absurd (cc))
local_shape decls procedures name ps ls k = statement_shape (InProcedure decls procedures name ps ls) (Among [] [] Ready) k

names_shape : (decls : List Decl) (procedures : List Procedure) (name : List ℕ) (phase : HeadPhase) (k : Kind)
    → Shape ParserState k (head_depth phase) (λ most. names_next most decls procedures name phase k)
names_shape decls procedures name Opening kind.LParen = constant _ (λ e. absurd (cc))
names_shape decls procedures name Opening _ = constant Wrong wrong_not_much
names_shape decls procedures name NoneYet k = first_shape decls procedures name k
names_shape decls procedures name (OneMore ps) k = constant _ (parameter_not decls procedures name ps k)
names_shape decls procedures name (ScalarLabelled ps label) kind.Int = constant _ (λ e. absurd (cc))
names_shape decls procedures name (ScalarLabelled ps label) _ = constant Wrong wrong_not_much
names_shape decls procedures name (ScalarTyped ps label) (kind.Word x) = constant _ (λ e. absurd (cc))
names_shape decls procedures name (ScalarTyped ps label) _ = constant Wrong wrong_not_much
names_shape decls procedures name (ArrayTyped ps) (kind.Word x) = constant _ (λ e. absurd (cc))
names_shape decls procedures name (ArrayTyped ps) _ = constant Wrong wrong_not_much
names_shape decls procedures name (ArrayTitled ps x) kind.LBracket = constant _ (λ e. absurd (cc))
names_shape decls procedures name (ArrayTitled ps x) _ = constant Wrong wrong_not_much
names_shape decls procedures name (ArrayClosing ps x) kind.RBracket = constant _ (λ e. absurd (cc))
names_shape decls procedures name (ArrayClosing ps x) _ = constant Wrong wrong_not_much
names_shape decls procedures name (Behind ps) kind.Semi = constant _ (λ e. absurd (cc))
names_shape decls procedures name (Behind ps) kind.RParen = constant _ (λ e. absurd (cc))
names_shape decls procedures name (Behind ps) _ = constant Wrong wrong_not_much
names_shape decls procedures name (AllRead ps) kind.LBrace = brace_room 0 _
names_shape decls procedures name (AllRead ps) _ = constant Wrong wrong_not_much
names_shape decls procedures name (LocalFresh ps ls) k = local_shape decls procedures name ps ls k
names_shape decls procedures name (LocalLabelled ps ls label) kind.Int = constant _ (λ e. absurd (cc))
names_shape decls procedures name (LocalLabelled ps ls label) _ = constant Wrong wrong_not_much
names_shape decls procedures name (LocalTyped ps ls label) (kind.Word x) = constant _ (λ e. absurd (cc))
names_shape decls procedures name (LocalTyped ps ls label) _ = constant Wrong wrong_not_much
names_shape decls procedures name (LocalTitled ps ls label x) kind.Semi = constant _ (λ e. absurd (cc))
names_shape decls procedures name (LocalTitled ps ls label x) _ = constant Wrong wrong_not_much

plain_shape : (state : ParserState) (k : Kind)
    → Shape ParserState k (open_braces state) (λ most. advanced most state k)
plain_shape (Between decls) k = between_shape decls k
plain_shape (Declaring decls heading) k =
    mapped_shape (with_heading decls) (constant (heading_advanced heading k) (heading_not heading k))
plain_shape (Naming decls procedures name phase) k = names_shape decls procedures name phase k
plain_shape (Doing front blocks) k = statement_shape front blocks k
plain_shape (Calling front outer here name call) k =
    mapped_shape (with_call front outer here name) (call_shape call k (depth_in (front_depth front) outer))

shown_shape : (b : Bool) (state : ParserState) (k : Kind)
    → Shape ParserState k (open_braces state) (λ most. if b then Wrong else advanced most state k)
shown_shape true state k = constant Wrong wrong_not_much
shown_shape false state k = plain_shape state k

pub shape : (state : ParserState) (k : Kind) → Shape ParserState k (open_braces state) (λ most. taken most state k)
shape state k = shown_shape (is_hidden_token k) state k
