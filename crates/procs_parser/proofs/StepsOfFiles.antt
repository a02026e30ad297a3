-- A token that is read leads from state to state.
use Rattle.std.proofs.Common.{◌≡◌, ℕ, ◌<◌, Bool, true, false, List, [], ◌∷◌, ◌++◌, Option, Some, None, refl, ap, sym, subst, append_assoc}
use Rattle.std.specs.Prelude.{bytes_eq}
use Rattle.std.proofs.lemmas.Slice.Eq.{bytes_eq-Decides}
use Rattle.std.proofs.lemmas.List.{append-nil}
use Rattle.std.proofs.lemmas.Bool.{ltb-true}
use Rattle.gr_word.specs.declared.variables.Label.TheVariants.{Public, Secret}
use Rattle.src_lexer.specs.declared.tokens.Kind.{Kind}
use Rattle.src_tree.specs.declared.trees.Decl.{Decl}
use Rattle.procs_tree.specs.Prelude.{Statement, Parameter, Procedure}
use Rattle.procs_parser.specs.Prelude.{AScalar, AnArray, Parameters, NoParameter, SomeParameters, Locals, NoLocal, NoProcedure, proc_word, CallStep, Still, Done, call_advanced, ParserState, Between, Doing, HeadPhase, NoneYet, LocalFresh, Front, Outside, InProcedure, front_depth, with_calls, performs, ending, brace_next, target_of, bracket_next, opening, word_next, statement_next, with_call, starts, parameter_begins, names_next, between, with_heading, advanced}
use Rattle.src_parser.specs.Prelude.{Limits, Declares, NoMore, HeadingState, Begun, Declared, heading_advanced, Outer, Phase, Ready, Blocks, Among, performed, is_complete, complete_of, Goes, with_braces}
use Rattle.src_parser.proofs.Braces.{mapped_goes}
use Rattle.src_parser.proofs.HeadingTokens.{declares_both, IsLabelled, HeadingStands, heading_steps}
use Rattle.src_parser.proofs.PartTokens.{IsTarget}
use Rattle.src_parser.proofs.Spelled.{Spelled, NoneLeft, Adds, spelled_at}
use Rattle.src_parser.proofs.StatementSteps.{statements_step}
use Rattle.src_parser.proofs.StatementsStanding.{Enclosed, Top, First, Second, Looped, Stands, IsReady, IsPart, StatementsStand, InBlock, one_statement, complete_spelled}
use Rattle.procs_parser.proofs.BlocksSpelled.{spelled_block}
use Rattle.procs_parser.proofs.CallTokens.{IsCall, IsOpened, StepStands, call_steps}
use Rattle.procs_parser.proofs.StandingFiles.{AtTop, InBody, ParametersBefore, NoneBefore, SomeBefore, head_of, Names, IsOpening, IsNoneYet, IsOneMore, IsScalarLabelled, IsScalarTyped, IsArrayTyped, IsArrayTitled, IsArrayClosing, IsBehind, IsAllRead, IsLocalFresh, IsLocalLabelled, IsLocalTyped, IsLocalTitled, one_parameter, one_local, procedure_ends, Standing, InBetween, InHeading, InHead, InStatements, InArguments}
use Rattle.src_lexer.specs.declared.tokens.Kind.TheVariants as kind
use Rattle.procs_parser.proofs.StandingFiles as files

went : {most : Limits} {tokens : List Kind} (x y : ParserState)
    → Goes x ≡ Goes y → Standing most x tokens → Standing most y tokens
went {most} {tokens} x y e s = subst (λ z. Standing most z tokens) (let f : x ≡ y = cc in f) s

standing_at : {most : Limits} {x : ParserState} (ts us : List Kind) → ts ≡ us → Standing most x ts
    → Standing most x us
standing_at {most} {x} ts us e s = subst (λ z. Standing most x z) e s

with_room : {most : Limits} {ts : List Kind} (b : Bool) (x y : ParserState)
    → with_braces b x ≡ Goes y → (b ≡ true → Standing most x ts) → Standing most y ts
with_room true x y e s = went x y e (s refl)
with_room false x y e s = absurd (cc)

-- before the first statement of a file, or of a procedure
no_statement : {most : Limits} {outside : ℕ}
    → StatementsStand with_calls (IsCall most) most outside (Among [] [] Ready) []
no_statement = InBlock {ts = []} {us = []} (Top NoneLeft) IsReady

-- a token of a statement that isn't a call
doing_stands : {most : Limits} {front : Front} {ts : List Kind} (us : List Kind)
    → files.Begun most front ts → (k : Kind) (x : Blocks Statement) → StatementsStand with_calls (IsCall most) most (front_depth front) x (us ++ k ∷ [])
    → (next : ParserState) → Doing front x ≡ next → Standing most next ((ts ++ us) ++ k ∷ [])
doing_stands {most} {ts = ts} us b k x s next e =
    subst (λ z. Standing most z ((ts ++ us) ++ k ∷ [])) e
    (standing_at _ _ (sym (append_assoc ts us (k ∷ []))) (InStatements b s))

performs_stands : {most : Limits} {front : Front} {blocks : Blocks Statement} {ts us : List Kind}
    → files.Begun most front ts → StatementsStand with_calls (IsCall most) most (front_depth front) blocks us
    → (k : Kind) (next : ParserState) → performs most front blocks k ≡ Goes next
    → Standing most next ((ts ++ us) ++ k ∷ [])
performs_stands {most} {front} {blocks} {us = us} b s k next e =
    mapped_goes (Doing front) (performed with_calls most (front_depth front) blocks k) next e
    (λ x is at. doing_stands us b k x (statements_step s k x is) next at)

-- the closing brace of a procedure
ending_stands : {most : Limits} {front : Front} {ts us : List Kind} → files.Begun most front ts
    → (o : Option (List Statement))
    → ((ss : List Statement) → o ≡ Some ss → Spelled with_calls (IsCall most) most (front_depth front) us ss)
    → (next : ParserState) → ending front o ≡ Goes next → Standing most next ((ts ++ us) ++ kind.RBrace ∷ [])
ending_stands (AtTop d p) o spelled next e = absurd (cc)
ending_stands (InBody name b p room l) None spelled next e = absurd (cc)
ending_stands {ts = ts} {us = us} (InBody name b p room l) (Some ss) spelled next e =
    went _ next e (standing_at _ _ (append-nil _)
    (InStatements (procedure_ends (InBody name b p room l) (spelled_block (spelled ss refl))) no_statement))

brace_stands : {most : Limits} {front : Front} {blocks : Blocks Statement} {ts us : List Kind}
    → files.Begun most front ts → StatementsStand with_calls (IsCall most) most (front_depth front) blocks us
    → (b : Bool) (next : ParserState) → brace_next most front blocks b ≡ Goes next
    → Standing most next ((ts ++ us) ++ kind.RBrace ∷ [])
brace_stands {blocks = blocks} b s true next e =
    ending_stands b (complete_of with_calls blocks) (λ ss is. complete_spelled s ss is) next e
brace_stands b s false next e = performs_stands b s kind.RBrace next e

-- the name that a statement begins with is its only token
named_tokens : {most : Limits} {depth : ℕ} {phase : Phase Statement} {us : List Kind}
    → Stands with_calls (IsCall most) most depth phase us → (name : List ℕ) → target_of phase ≡ Some name
    → us ≡ kind.Word name ∷ []
named_tokens (IsPart (IsTarget x)) name e = let f : x ≡ name = cc in ap (λ (z : List ℕ). kind.Word z ∷ []) f
named_tokens _ name e = absurd (cc)

bracket_stands : {most : Limits} {front : Front} {outer : List (Outer Statement)} {depth : ℕ} {here : List Statement}
    {phase : Phase Statement} {ts us vs : List Kind} → files.Begun most front ts
    → Enclosed with_calls (IsCall most) most (front_depth front) outer depth here us
    → Stands with_calls (IsCall most) most depth phase vs
    → (o : Option (List ℕ)) → target_of phase ≡ o
    → (next : ParserState) → bracket_next most front outer here phase o ≡ Goes next
    → Standing most next ((ts ++ (us ++ vs)) ++ kind.LParen ∷ [])
bracket_stands {ts = ts} {us = us} {vs = vs} b o s (Some name) is next e =
    went _ next e (standing_at _ _
    (simp append_assoc (ap (λ z. ts ++ (us ++ (z ++ kind.LParen ∷ []))) (sym (named_tokens s name is))))
    (InArguments name b o IsOpened))
bracket_stands b o s None is next e = performs_stands b (InBlock o s) kind.LParen next e

same_word : (name : List ℕ) → bytes_eq name proc_word ≡ true → name ≡ proc_word
same_word name e = (bytes_eq-Decides name proc_word).0 e

-- no procedure begins in a block, or after a statement
in_block : (front : Front) (o : Outer Statement) (outer : List (Outer Statement)) (here : List Statement) (b : Bool)
    (name : List ℕ) (next : ParserState) → opening front (o ∷ outer) here b name ≡ Goes next → ⊥
in_block (Outside decls procedures) o outer here b name next e = absurd (cc)
in_block (InProcedure decls procedures x ps ls) o outer here b name next e = absurd (cc)

behind_one : (front : Front) (s : Statement) (here : List Statement) (b : Bool) (name : List ℕ) (next : ParserState)
    → opening front [] (s ∷ here) b name ≡ Goes next → ⊥
behind_one (Outside decls procedures) s here b name next e = absurd (cc)
behind_one (InProcedure decls procedures x ps ls) s here b name next e = absurd (cc)

-- a procedure begins
opening_stands : {most : Limits} {front : Front} {outer : List (Outer Statement)} {depth : ℕ} {here : List Statement}
    {ts us : List Kind} (name other : List ℕ) → files.Begun most front ts
    → Enclosed with_calls (IsCall most) most (front_depth front) outer depth here us
    → (b : Bool) → bytes_eq name proc_word ≡ b → (next : ParserState)
    → opening front outer here b other ≡ Goes next
    → Standing most next ((ts ++ (us ++ kind.Word name ∷ [])) ++ kind.Word other ∷ [])
opening_stands name other (AtTop {first = first} {middle = middle} d p) (Top NoneLeft) true is next e =
    went _ next e (standing_at _ _
    (simp append_assoc (ap (λ (w : List ℕ). first ++ (middle ++ (kind.Word w ∷ kind.Word other ∷ [])))
    (sym (same_word name is))))
    (InHead (AtTop d p) IsOpening))
opening_stands {front = front} name other b (Top {here = s ∷ here} w) c is next e =
    absurd (behind_one front s here c other next e)
opening_stands name other (InBody x b p room l) (Top {here = []} w) c is next e = absurd (cc)
opening_stands name other (AtTop d p) (Top {here = []} w) false is next e = absurd (cc)
opening_stands {front = front} {here = here} name other b (First o g room w) c is next e =
    absurd (in_block front _ _ here c other next e)
opening_stands {front = front} {here = here} name other b (Second o g room w v) c is next e =
    absurd (in_block front _ _ here c other next e)
opening_stands {front = front} {here = here} name other b (Looped o g room w) c is next e =
    absurd (in_block front _ _ here c other next e)

word_stands : {most : Limits} {front : Front} {outer : List (Outer Statement)} {depth : ℕ} {here : List Statement}
    {phase : Phase Statement} {ts us vs : List Kind} (other : List ℕ) → files.Begun most front ts
    → Enclosed with_calls (IsCall most) most (front_depth front) outer depth here us
    → Stands with_calls (IsCall most) most depth phase vs
    → (o : Option (List ℕ)) → target_of phase ≡ o
    → (next : ParserState) → word_next most front outer here phase other o ≡ Goes next
    → Standing most next ((ts ++ (us ++ vs)) ++ kind.Word other ∷ [])
word_stands {ts = ts} {us = us} other b o s (Some name) is next e =
    standing_at _ _ (ap (λ z. (ts ++ (us ++ z)) ++ kind.Word other ∷ []) (sym (named_tokens s name is)))
    (opening_stands name other b o (bytes_eq name proc_word) refl next e)
word_stands other b o s None is next e = performs_stands b (InBlock o s) (kind.Word other) next e

-- a token of a statement
statement_stands : {most : Limits} {front : Front} {blocks : Blocks Statement} {ts us : List Kind}
    → files.Begun most front ts → StatementsStand with_calls (IsCall most) most (front_depth front) blocks us
    → (k : Kind) (next : ParserState) → statement_next most front blocks k ≡ Goes next
    → Standing most next ((ts ++ us) ++ k ∷ [])
statement_stands b (InBlock {phase = phase} o s) kind.LParen next e =
    bracket_stands b o s (target_of phase) refl next e
statement_stands b (InBlock {phase = phase} o s) (kind.Word other) next e =
    word_stands other b o s (target_of phase) refl next e
statement_stands b (InBlock {outer = outer} {here = here} {phase = phase} o s) kind.RBrace next e =
    brace_stands b (InBlock o s) (is_complete (Among outer here phase)) next e
statement_stands b (InBlock o s) k next e = performs_stands b (InBlock o s) k next e

starts_stands : {most : Limits} {front : Front} {ts : List Kind} → files.Begun most front ts
    → (k : Kind) (next : ParserState) → starts most front k ≡ Goes next → Standing most next (ts ++ k ∷ [])
starts_stands {ts = ts} b k next e =
    standing_at ((ts ++ []) ++ k ∷ []) _ (ap (λ z. z ++ k ∷ []) (append-nil ts)) (statement_stands b no_statement k next e)

-- a token of a call
call_stands : {most : Limits} {front : Front} {outer : List (Outer Statement)} {depth : ℕ} {here : List Statement}
    {ts us : List Kind} (name : List ℕ) (vs : List Kind) → files.Begun most front ts
    → Enclosed with_calls (IsCall most) most (front_depth front) outer depth here us
    → (step : CallStep) → StepStands most step vs
    → Standing most (with_call front outer here name step) (ts ++ (us ++ (kind.Word name ∷ kind.LParen ∷ vs)))
call_stands name vs b o (Still call) s = InArguments name b o s
call_stands {ts = ts} {us = us} name vs b o (Done es) s =
    standing_at _ _ (ap (λ z. ts ++ z) (append-nil _))
    (InStatements b (InBlock (one_statement o
    (spelled_at _ _ (append-nil (kind.Word name ∷ kind.LParen ∷ vs)) (Adds (s name) NoneLeft))) IsReady))

call_token : {most : Limits} {front : Front} {outer : List (Outer Statement)} {depth : ℕ} {here : List Statement}
    {ts us : List Kind} (name : List ℕ) (vs : List Kind) → files.Begun most front ts
    → Enclosed with_calls (IsCall most) most (front_depth front) outer depth here us
    → (k : Kind) (step : CallStep) → StepStands most step (vs ++ k ∷ []) → (next : ParserState)
    → with_call front outer here name step ≡ next
    → Standing most next ((ts ++ (us ++ (kind.Word name ∷ kind.LParen ∷ vs))) ++ k ∷ [])
call_token {most} {ts = ts} {us = us} name vs b o k step s next e =
    subst (λ z. Standing most z ((ts ++ (us ++ (kind.Word name ∷ kind.LParen ∷ vs))) ++ k ∷ [])) e
    (standing_at _ _ (simp append_assoc refl) (call_stands name (vs ++ k ∷ []) b o step s))

between_stands : {most : Limits} {decls : List Decl} {first : List Kind} → Declares first decls
    → (k : Kind) (next : ParserState) → between most decls k ≡ Goes next → Standing most next (first ++ k ∷ [])
between_stands d kind.Public next e = went _ next e (InHeading d (IsLabelled Public))
between_stands d kind.Secret next e = went _ next e (InHeading d (IsLabelled Secret))
between_stands {first = first} d k next e =
    standing_at ((first ++ []) ++ k ∷ []) _ (ap (λ z. z ++ k ∷ []) (append-nil first))
    (starts_stands (AtTop d NoProcedure) k next e)

-- a declaration that is begun, or one more
declaration_stands : {most : Limits} {decls : List Decl} {first : List Kind} (us : List Kind)
    → Declares first decls
    → (s : HeadingState) → HeadingStands s us → Standing most (with_heading decls s) (first ++ us)
declaration_stands us d (Begun heading) h = InHeading d h
declaration_stands us d (Declared decl) h = InBetween (declares_both d h)

heading_stands : {most : Limits} {decls : List Decl} {first : List Kind} (us : List Kind)
    → Declares first decls
    → (k : Kind) (s : HeadingState) → HeadingStands s (us ++ k ∷ []) → (next : ParserState)
    → with_heading decls s ≡ next → Standing most next ((first ++ us) ++ k ∷ [])
heading_stands {most} {first = first} us d k s h next e =
    subst (λ z. Standing most z ((first ++ us) ++ k ∷ [])) e
    (standing_at _ _ (sym (append_assoc first us (k ∷ []))) (declaration_stands (us ++ k ∷ []) d s h))

parameter_stands : {most : Limits} {decls : List Decl} {procedures : List Procedure} (name : List ℕ)
    {before ts : List Kind} {ps : List Parameter} → files.Begun most (Outside decls procedures) before
    → ParametersBefore ts ps
    → (k : Kind) (next : ParserState) → parameter_begins decls procedures name ps k ≡ Goes next
    → Standing most next ((before ++ head_of name ts) ++ k ∷ [])
parameter_stands name {before = before} {ts = ts} b p kind.Public next e =
    went _ next e (standing_at _ _ (simp append_assoc refl) (InHead b (IsScalarLabelled Public p)))
parameter_stands name {before = before} {ts = ts} b p kind.Secret next e =
    went _ next e (standing_at _ _ (simp append_assoc refl) (InHead b (IsScalarLabelled Secret p)))
parameter_stands name {before = before} {ts = ts} b p kind.Int next e =
    went _ next e (standing_at _ _ (simp append_assoc refl) (InHead b (IsArrayTyped p)))
parameter_stands name b p _ next e = absurd (cc)

first_stands : {most : Limits} {decls : List Decl} {procedures : List Procedure} (name : List ℕ)
    {before : List Kind} → files.Begun most (Outside decls procedures) before
    → (k : Kind) (next : ParserState) → names_next most decls procedures name NoneYet k ≡ Goes next
    → Standing most next ((before ++ head_of name []) ++ k ∷ [])
first_stands name {before = before} b kind.RParen next e =
    went _ next e (standing_at _ _ (simp append_assoc refl) (InHead b (IsAllRead NoParameter)))
first_stands name b k next e = parameter_stands name b NoneBefore k next e

local_stands : {most : Limits} {decls : List Decl} {procedures : List Procedure} (name : List ℕ)
    {before ts us : List Kind} {ps : List Parameter} {ls : List Decl}
    → files.Begun most (Outside decls procedures) before → Parameters ts ps → 0 < most.braces → Locals us ls
    → (k : Kind) (next : ParserState) → names_next most decls procedures name (LocalFresh ps ls) k ≡ Goes next
    → Standing most next ((before ++ head_of name (ts ++ kind.RParen ∷ kind.LBrace ∷ us)) ++ k ∷ [])
local_stands name {before = before} {ts = ts} {us = us} b p room l kind.Public next e =
    went _ next e (standing_at _ _ (simp append_assoc refl) (InHead b (IsLocalLabelled Public p room l)))
local_stands name {before = before} {ts = ts} {us = us} b p room l kind.Secret next e =
    went _ next e (standing_at _ _ (simp append_assoc refl) (InHead b (IsLocalLabelled Secret p room l)))
local_stands name b p room l k next e = starts_stands (InBody name b p room l) k next e

names_stand : {most : Limits} {decls : List Decl} {procedures : List Procedure} {name : List ℕ} {phase : HeadPhase}
    {before us : List Kind} → files.Begun most (Outside decls procedures) before → Names most name phase us
    → (k : Kind) (next : ParserState) → names_next most decls procedures name phase k ≡ Goes next
    → Standing most next ((before ++ us) ++ k ∷ [])
names_stand {before = before} b IsOpening kind.LParen next e =
    went _ next e (standing_at _ _ (simp append_assoc refl) (InHead b IsNoneYet))
names_stand b IsOpening _ next e = absurd (cc)
names_stand b IsNoneYet k next e = first_stands _ b k next e
names_stand b (IsOneMore s) k next e = parameter_stands _ b (SomeBefore s) k next e
names_stand {before = before} b (IsScalarLabelled {ts = ts} label s) kind.Int next e =
    went _ next e (standing_at _ _ (simp append_assoc refl) (InHead b (IsScalarTyped label s)))
names_stand b (IsScalarLabelled label s) _ next e = absurd (cc)
names_stand {before = before} b (IsScalarTyped {ts = ts} label s) (kind.Word x) next e =
    went _ next e (standing_at _ _ (simp append_assoc refl)
    (InHead b (IsBehind (one_parameter s (AScalar label x)))))
names_stand b (IsScalarTyped label s) _ next e = absurd (cc)
names_stand {before = before} b (IsArrayTyped {ts = ts} s) (kind.Word x) next e =
    went _ next e (standing_at _ _ (simp append_assoc refl) (InHead b (IsArrayTitled x s)))
names_stand b (IsArrayTyped s) _ next e = absurd (cc)
names_stand {before = before} b (IsArrayTitled {ts = ts} x s) kind.LBracket next e =
    went _ next e (standing_at _ _ (simp append_assoc refl) (InHead b (IsArrayClosing x s)))
names_stand b (IsArrayTitled x s) _ next e = absurd (cc)
names_stand {before = before} b (IsArrayClosing {ts = ts} x s) kind.RBracket next e =
    went _ next e (standing_at _ _ (simp append_assoc refl) (InHead b (IsBehind (one_parameter s (AnArray x)))))
names_stand b (IsArrayClosing x s) _ next e = absurd (cc)
names_stand {before = before} b (IsBehind {ts = ts} s) kind.Semi next e =
    went _ next e (standing_at _ _ (simp append_assoc refl) (InHead b (IsOneMore s)))
names_stand {before = before} b (IsBehind {ts = ts} s) kind.RParen next e =
    went _ next e (standing_at _ _ (simp append_assoc refl) (InHead b (IsAllRead (SomeParameters s))))
names_stand b (IsBehind s) _ next e = absurd (cc)
names_stand {most} {before = before} b (IsAllRead {ts = ts} p) kind.LBrace next e =
    with_room _ _ next e (λ t. standing_at _ _ (simp append_assoc refl)
    (InHead b (IsLocalFresh p (ltb-true 0 most.braces t) NoLocal)))
names_stand b (IsAllRead p) _ next e = absurd (cc)
names_stand {name = name} b (IsLocalFresh p room l) k next e = local_stands name b p room l k next e
names_stand {before = before} b (IsLocalLabelled {ts = ts} {us = us} label p room l) kind.Int next e =
    went _ next e (standing_at _ _ (simp append_assoc refl) (InHead b (IsLocalTyped label p room l)))
names_stand b (IsLocalLabelled label p room l) _ next e = absurd (cc)
names_stand {before = before} b (IsLocalTyped {ts = ts} {us = us} label p room l) (kind.Word x) next e =
    went _ next e (standing_at _ _ (simp append_assoc refl) (InHead b (IsLocalTitled label x p room l)))
names_stand b (IsLocalTyped label p room l) _ next e = absurd (cc)
names_stand {before = before} b (IsLocalTitled {ts = ts} {us = us} label x p room l) kind.Semi next e =
    went _ next e (standing_at _ _ (simp append_assoc refl)
    (InHead b (IsLocalFresh p room (one_local label x l))))
names_stand b (IsLocalTitled label x p room l) _ next e = absurd (cc)

-- a token continues a file
pub steps : {most : Limits} {state : ParserState} {tokens : List Kind} → Standing most state tokens
    → (k : Kind) (next : ParserState) → advanced most state k ≡ Goes next → Standing most next (tokens ++ k ∷ [])
steps (InBetween d) k next e = between_stands d k next e
steps (InHeading {decls = decls} {heading = heading} d h) k next e =
    mapped_goes (with_heading decls) (heading_advanced heading k) next e
    (λ s is at. heading_stands _ d k s (heading_steps h k s is) next at)
steps (InHead b n) k next e = names_stand b n k next e
steps (InStatements b s) k next e = statement_stands b s k next e
steps {most} (InArguments {front = front} {outer = outer} {here = here} {call = call} {vs = vs} name b o c) k next e =
    mapped_goes (with_call front outer here name) (call_advanced most call k) next e
    (λ s is at. call_token name vs b o k s (call_steps c k s is) next at)

-- before the first token
pub nothing_read : {most : Limits} → Standing most (Between []) []
nothing_read = InBetween NoMore
