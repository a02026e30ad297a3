-- The open blocks of a state are the open braces of its tokens.
use Rattle.std.proofs.Common.{◌≡◌, ℕ, ◌+◌, Bool, true, false, List, [], Option, Some, None, refl, sym, ap, ◌∙◌, subst, arith}
use Rattle.std.specs.Prelude.{nat_lt, bytes_eq, if◌then◌else◌}
use Rattle.src_lexer.specs.declared.tokens.Kind.{Kind}
use Rattle.src_tree.specs.declared.trees.Decl.{Decl}
use Rattle.procs_tree.specs.Prelude.{Statement, Parameter, Procedure}
use Rattle.procs_parser.specs.Prelude.{proc_word, CallStep, Still, Done, call_advanced, ParserState, Between, Declaring, Doing, Calling, Naming, Front, Outside, InProcedure, HeadPhase, Opening, NoneYet, OneMore, ScalarLabelled, ScalarTyped, ArrayTyped, ArrayTitled, ArrayClosing, Behind, AllRead, LocalFresh, LocalLabelled, LocalTyped, LocalTitled, front_depth, with_calls, head_depth, performs, ending, brace_next, target_of, bracket_next, opening, word_next, statement_next, with_call, between, parameter_begins, names_next, is_hidden_token, taken, with_heading, advanced, open_braces}
use Rattle.src_parser.specs.Prelude.{Limits, HeadingState, Begun, Declared, heading_advanced, Outer, Phase, Ready, MayElse, Blocks, Among, performed, is_complete, complete_of, depth_in, depth_of, Advance, Goes, Wrong}
use Rattle.src_parser.proofs.Tokenwise.{Counted}
use Rattle.src_parser.proofs.Braces.{same_state, mapped_goes, braces_counted, heading_counted}
use Rattle.src_parser.proofs.StatementBraces.{statements_counted}
use Rattle.procs_parser.proofs.CallLimits.{call_counted}
use Rattle.src_lexer.specs.declared.tokens.Kind.TheVariants as kind

same_count : (x y : ParserState) → ◌≡◌ {A = Advance ParserState} (Goes x) (Goes y) → open_braces y ≡ open_braces x
same_count x y e = ap open_braces (sym (same_state x y e))

performs_counted : (most : Limits) (front : Front) (blocks : Blocks Statement) (k : Kind) (next : ParserState)
    → performs most front blocks k ≡ Goes next
    → Counted k most.braces (depth_of (front_depth front) blocks) (open_braces next)
performs_counted most front blocks k next e =
    mapped_goes (Doing front) (performed with_calls most (front_depth front) blocks k) next e
    (λ x is at. subst (λ z. Counted k most.braces (depth_of (front_depth front) blocks) (open_braces z)) at
    (statements_counted with_calls (front_depth front) most blocks k x is))

-- a procedure has one brace
ending_counted : (front : Front) (o : Option (List Statement)) (next : ParserState) → ending front o ≡ Goes next
    → front_depth front ≡ open_braces next + 1
ending_counted (InProcedure decls procedures name ps ls) (Some body) next e =
    let h = same_count _ next e in omega arith
ending_counted _ _ next e = absurd (cc)

-- complete statements are in no block
complete_depth : (outside : ℕ) (blocks : Blocks Statement) → is_complete blocks ≡ true
    → depth_of outside blocks ≡ outside
complete_depth outside (Among [] here Ready) e = omega arith
complete_depth outside (Among [] here (MayElse test first)) e = omega arith
complete_depth outside _ e = absurd (cc)

brace_counted : (most : Limits) (front : Front) (blocks : Blocks Statement) (b : Bool) → is_complete blocks ≡ b
    → (next : ParserState) → brace_next most front blocks b ≡ Goes next
    → Counted kind.RBrace most.braces (depth_of (front_depth front) blocks) (open_braces next)
brace_counted most front blocks true is next e =
    complete_depth (front_depth front) blocks is ∙ ending_counted front (complete_of with_calls blocks) next e
brace_counted most front blocks false is next e = performs_counted most front blocks kind.RBrace next e

bracket_counted : (most : Limits) (front : Front) (outer : List (Outer Statement)) (here : List Statement)
    (phase : Phase Statement) (o : Option (List ℕ)) (next : ParserState)
    → bracket_next most front outer here phase o ≡ Goes next
    → Counted kind.LParen most.braces (depth_in (front_depth front) outer) (open_braces next)
bracket_counted most front outer here phase (Some name) next e = same_count _ next e
bracket_counted most front outer here phase None next e =
    performs_counted most front (Among outer here phase) kind.LParen next e

opening_counted : (front : Front) (outer : List (Outer Statement)) (here : List Statement) (b : Bool) (name : List ℕ)
    (next : ParserState) → opening front outer here b name ≡ Goes next
    → open_braces next ≡ depth_in (front_depth front) outer
opening_counted (Outside decls procedures) [] [] true name next e = let h = same_count _ next e in omega arith
opening_counted _ _ _ _ name next e = absurd (cc)

word_counted : (most : Limits) (front : Front) (outer : List (Outer Statement)) (here : List Statement)
    (phase : Phase Statement) (other : List ℕ) (o : Option (List ℕ)) (next : ParserState)
    → word_next most front outer here phase other o ≡ Goes next
    → Counted (kind.Word other) most.braces (depth_in (front_depth front) outer) (open_braces next)
word_counted most front outer here phase other (Some name) next e =
    opening_counted front outer here (bytes_eq name proc_word) other next e
word_counted most front outer here phase other None next e =
    performs_counted most front (Among outer here phase) (kind.Word other) next e

statement_counted : (most : Limits) (front : Front) (blocks : Blocks Statement) (k : Kind) (next : ParserState)
    → statement_next most front blocks k ≡ Goes next
    → Counted k most.braces (depth_of (front_depth front) blocks) (open_braces next)
statement_counted most front (Among outer here phase) kind.LParen next e =
    bracket_counted most front outer here phase (target_of phase) next e
statement_counted most front (Among outer here phase) (kind.Word other) next e =
    word_counted most front outer here phase other (target_of phase) next e
statement_counted most front (Among outer here phase) kind.RBrace next e =
    brace_counted most front (Among outer here phase) (is_complete (Among outer here phase)) refl next e
statement_counted most front (Among outer here phase) k next e =
    performs_counted most front (Among outer here phase) k next e

between_counted : (most : Limits) (decls : List Decl) (k : Kind) (next : ParserState)
    → between most decls k ≡ Goes next → Counted k most.braces 0 (open_braces next)
between_counted most decls kind.Public next e = same_count _ next e
between_counted most decls kind.Secret next e = same_count _ next e
between_counted most decls k next e = statement_counted most (Outside decls []) (Among [] [] Ready) k next e

call_count : (front : Front) (outer : List (Outer Statement)) (here : List Statement) (name : List ℕ) (s : CallStep)
    → open_braces (with_call front outer here name s) ≡ depth_in (front_depth front) outer
call_count front outer here name (Still call) = refl
call_count front outer here name (Done es) = refl

heading_count : (decls : List Decl) (s : HeadingState) → open_braces (with_heading decls s) ≡ 0
heading_count decls (Begun heading) = refl
heading_count decls (Declared decl) = refl

parameter_counted : (most : ℕ) (decls : List Decl) (procedures : List Procedure) (name : List ℕ) (ps : List Parameter)
    (k : Kind) (next : ParserState) → parameter_begins decls procedures name ps k ≡ Goes next
    → Counted k most 0 (open_braces next)
parameter_counted most decls procedures name ps kind.Public next e = same_count _ next e
parameter_counted most decls procedures name ps kind.Secret next e = same_count _ next e
parameter_counted most decls procedures name ps kind.Int next e = same_count _ next e
parameter_counted most decls procedures name ps _ next e = absurd (cc)

names_counted : (most : Limits) (decls : List Decl) (procedures : List Procedure) (name : List ℕ) (phase : HeadPhase)
    (k : Kind) (next : ParserState) → names_next most decls procedures name phase k ≡ Goes next
    → Counted k most.braces (head_depth phase) (open_braces next)
names_counted most decls procedures name Opening kind.LParen next e = same_count _ next e
names_counted most decls procedures name Opening _ next e = absurd (cc)
names_counted most decls procedures name NoneYet kind.RParen next e = same_count _ next e
names_counted most decls procedures name NoneYet k next e =
    parameter_counted most.braces decls procedures name [] k next e
names_counted most decls procedures name (OneMore ps) k next e =
    parameter_counted most.braces decls procedures name ps k next e
names_counted most decls procedures name (ScalarLabelled ps label) kind.Int next e = same_count _ next e
names_counted most decls procedures name (ScalarLabelled ps label) _ next e = absurd (cc)
names_counted most decls procedures name (ScalarTyped ps label) (kind.Word x) next e = same_count _ next e
names_counted most decls procedures name (ScalarTyped ps label) _ next e = absurd (cc)
names_counted most decls procedures name (ArrayTyped ps) (kind.Word x) next e = same_count _ next e
names_counted most decls procedures name (ArrayTyped ps) _ next e = absurd (cc)
names_counted most decls procedures name (ArrayTitled ps x) kind.LBracket next e = same_count _ next e
names_counted most decls procedures name (ArrayTitled ps x) _ next e = absurd (cc)
names_counted most decls procedures name (ArrayClosing ps x) kind.RBracket next e = same_count _ next e
names_counted most decls procedures name (ArrayClosing ps x) _ next e = absurd (cc)
names_counted most decls procedures name (Behind ps) kind.Semi next e = same_count _ next e
names_counted most decls procedures name (Behind ps) kind.RParen next e = same_count _ next e
names_counted most decls procedures name (Behind ps) _ next e = absurd (cc)
names_counted most decls procedures name (AllRead ps) kind.LBrace next e =
    braces_counted open_braces most.braces 0 (nat_lt 0 most.braces) _ next refl (omega arith) e
names_counted most decls procedures name (AllRead ps) _ next e = absurd (cc)
names_counted most decls procedures name (LocalFresh ps ls) kind.Public next e = same_count _ next e
names_counted most decls procedures name (LocalFresh ps ls) kind.Secret next e = same_count _ next e
names_counted most decls procedures name (LocalFresh ps ls) k next e =
    statement_counted most (InProcedure decls procedures name ps ls) (Among [] [] Ready) k next e
names_counted most decls procedures name (LocalLabelled ps ls label) kind.Int next e = same_count _ next e
names_counted most decls procedures name (LocalLabelled ps ls label) _ next e = absurd (cc)
names_counted most decls procedures name (LocalTyped ps ls label) (kind.Word x) next e = same_count _ next e
names_counted most decls procedures name (LocalTyped ps ls label) _ next e = absurd (cc)
names_counted most decls procedures name (LocalTitled ps ls label x) kind.Semi next e = same_count _ next e
names_counted most decls procedures name (LocalTitled ps ls label x) _ next e = absurd (cc)

plain_counted : (most : Limits) (state : ParserState) (k : Kind) (next : ParserState)
    → advanced most state k ≡ Goes next → Counted k most.braces (open_braces state) (open_braces next)
plain_counted most (Between decls) k next e = between_counted most decls k next e
plain_counted most (Declaring decls heading) k next e =
    mapped_goes (with_heading decls) (heading_advanced heading k) next e
    (λ s is at. heading_counted most.braces heading k s 0 (open_braces next) is
    (ap open_braces (sym at) ∙ heading_count decls s))
plain_counted most (Naming decls procedures name phase) k next e =
    names_counted most decls procedures name phase k next e
plain_counted most (Doing front blocks) k next e = statement_counted most front blocks k next e
plain_counted most (Calling front outer here name call) k next e =
    mapped_goes (with_call front outer here name) (call_advanced most call k) next e
    (λ s is at. subst (λ n. Counted k most.braces (depth_in (front_depth front) outer) n)
    (sym (ap open_braces (sym at) ∙ call_count front outer here name s))
    (call_counted most call k s (depth_in (front_depth front) outer) is))

-- a name that is hidden isn't taken
pub shown : (b : Bool) (t : Advance ParserState) (next : ParserState) → (if b then Wrong else t) ≡ Goes next
    → (b ≡ false) × (t ≡ Goes next)
shown true t next e = absurd (cc)
shown false t next e = (refl, e)

pub counted : (most : Limits) (state : ParserState) (k : Kind) (next : ParserState)
    → taken most state k ≡ Goes next → Counted k most.braces (open_braces state) (open_braces next)
counted most state k next e = plain_counted most state k next (shown (is_hidden_token k) _ next e).1
