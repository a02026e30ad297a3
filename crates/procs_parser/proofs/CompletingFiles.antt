-- Tokens that lead to a state within the braces go on to a file, by tokens in which no name is hidden.
use Rattle.std.proofs.Common.{◌≡◌, ℕ, ◌<◌, List, [], ◌∷◌, ◌++◌, refl, sym, ap, ◌∙◌, subst, append_assoc, arith}
use Rattle.std.proofs.lemmas.List.{append-nil}
use Rattle.src_lexer.specs.declared.tokens.Kind.{Kind}
use Rattle.src_tree.specs.declared.trees.Decl.{Decl}
use Rattle.procs_tree.specs.Prelude.{Statement, Nothing, Parameter, Procedure, File, block_of}
use Rattle.procs_parser.specs.Prelude.{HasNoHiddenName, SpellsParameter, AScalar, AnArray, Parameters, NoParameter, SomeParameters, Locals, NoLocal, proc_word, NoProcedure, SpellsBlock, Ends, ParserState, HeadPhase, Front, Outside, front_depth, with_calls, open_braces}
use Rattle.src_parser.specs.Prelude.{Limits, keyword_of, Declares, Heading, Labelled, Typed, Titled, Sizing, Sized, Closing, Outer}
use Rattle.src_parser.proofs.Held.{HasNoName}
use Rattle.src_parser.proofs.HeadingTokens.{declares_both, rest_of, heading_completes}
use Rattle.src_parser.proofs.Spelled.{NoneLeft, Adds, spelled_at}
use Rattle.src_parser.proofs.StatementsStanding.{Enclosed, Completed, statement_completes, statements_complete}
use Rattle.procs_parser.proofs.BlocksSpelled.{spelled_block}
use Rattle.procs_parser.proofs.CallTokens.{IsCall, CallCompletes, call_completes}
use Rattle.procs_parser.proofs.StandingFiles.{Sentence, Program, Begun, AtTop, InBody, ParametersBefore, SomeBefore, head_of, Names, IsOpening, IsNoneYet, IsOneMore, IsScalarLabelled, IsScalarTyped, IsArrayTyped, IsArrayTitled, IsArrayClosing, IsBehind, IsAllRead, IsLocalFresh, IsLocalLabelled, IsLocalTyped, IsLocalTitled, one_parameter, one_local, procedure_ends, Standing, InBetween, InHeading, InHead, InStatements, InArguments}
use Rattle.src_lexer.specs.declared.tokens.Kind.TheVariants as kind

-- some more tokens, in which no name is hidden, make a file
pub record Complete (most : Limits) (tokens : List Kind) : Type 0 where
  pub more : List Kind
  pub shown : HasNoHiddenName more
  pub tree : File
  pub sentence : Sentence most (tokens ++ more) tree

pub shown_both : (a b : List Kind) → HasNoHiddenName a → HasNoHiddenName b → HasNoHiddenName (a ++ b)
shown_both [] b s t = t
shown_both (kind.Word name ∷ a) b s t = (s.0, shown_both a b s.1 t)
shown_both (_ ∷ a) b s t = shown_both a b s t

-- tokens without names have no hidden one
all_shown : (a : List Kind) → HasNoName a → HasNoHiddenName a
all_shown [] h = tt
all_shown (kind.Word name ∷ a) h = absurd h
all_shown (_ ∷ a) h = all_shown a h

completes_at : {most : Limits} (xs ys : List Kind) → xs ≡ ys → Complete most xs → Complete most ys
completes_at {most} xs ys e c = subst (λ z. Complete most z) e c

shorter : {most : Limits} (ts us : List Kind) → HasNoHiddenName us → Complete most (ts ++ us) → Complete most ts
shorter {most} ts us shown c = record {
  more = us ++ c.more;
  shown = shown_both us c.more shown c.shown;
  tree = c.tree;
  sentence = subst (λ z. Sentence most z c.tree) (append_assoc ts us c.more) c.sentence;
}

outside_completes : {most : Limits} {decls : List Decl} {procedures : List Procedure} {before back : List Kind}
    (here : List Statement) → Begun most (Outside decls procedures) before → SpellsBlock most 0 back (block_of here)
    → Complete most (before ++ back)
outside_completes {most} {back = back} here
    (AtTop {first = first} {middle = middle} {decls = decls} {procedures = procedures} d p) w =
    record {
      more = [];
      shown = tt;
      tree = record { decls = decls; procedures = procedures; body = block_of here };
      sentence = subst (λ z. Sentence most z (record { decls = decls; procedures = procedures; body = block_of here }))
          (sym (append-nil ((first ++ middle) ++ back))) (Program d p w);
    }

top_completes : {most : Limits} {front : Front} {before back : List Kind} (here : List Statement)
    → Begun most front before → SpellsBlock most (front_depth front) back (block_of here) → Complete most (before ++ back)
top_completes here (AtTop d p) w = outside_completes here (AtTop d p) w
top_completes here (InBody name b p room l) w =
    shorter _ (kind.RBrace ∷ []) tt
    (completes_at _ _ (append-nil _) (outside_completes [] (procedure_ends (InBody name b p room l) w) Ends))

-- statements that some more tokens complete
statements_completed : {most : Limits} {front : Front} {ts us : List Kind} → Begun most front ts
    → Completed with_calls (IsCall most) most (front_depth front) us → Complete most (ts ++ us)
statements_completed {ts = ts} {us = us} b c =
    shorter (ts ++ us) c.more (all_shown c.more c.nameless)
    (completes_at _ _ (sym (append_assoc ts us c.more)) (top_completes c.statements b (spelled_block c.spelled)))

-- and a call
call_completed : {most : Limits} {front : Front} {outer : List (Outer Statement)} {depth : ℕ} {here : List Statement}
    {ts us vs : List Kind} (name : List ℕ) → Begun most front ts
    → Enclosed with_calls (IsCall most) most (front_depth front) outer depth here us → CallCompletes most vs
    → Complete most (ts ++ (us ++ (kind.Word name ∷ kind.LParen ∷ vs)))
call_completed {vs = vs} name b o c =
    statements_completed b (statement_completes (kind.Word name ∷ kind.LParen ∷ vs) c.more c.nameless o
    (spelled_at _ _ (append-nil (kind.Word name ∷ kind.LParen ∷ (vs ++ c.more))) (Adds (c.is name) NoneLeft)))

declared_completes : {most : Limits} {decls : List Decl} {first : List Kind} → Declares first decls
    → Complete most first
declared_completes {most} {decls} {first} d = record {
  more = [];
  shown = tt;
  tree = record { decls = decls; procedures = []; body = Nothing };
  sentence = subst (λ z. Sentence most z (record { decls = decls; procedures = []; body = Nothing }))
      (simp append-nil refl) (Program d NoProcedure Ends);
}

-- `x` isn't a hidden name
rest_shown : (heading : Heading) → HasNoHiddenName (rest_of heading (120 ∷ []))
rest_shown (Labelled label) = (refl, tt)
rest_shown (Typed label) = (refl, tt)
rest_shown other = tt

-- a procedure without statements, of which this many tokens were read
head_completes : {most : Limits} {decls locals : List Decl} {procedures : List Procedure} {name : List ℕ}
    {parameters : List Parameter} {before ps ls : List Kind} (us more : List Kind) → HasNoHiddenName more
    → Begun most (Outside decls procedures) before → Parameters ps parameters → 0 < most.braces → Locals ls locals
    → head_of name (ps ++ kind.RParen ∷ kind.LBrace ∷ (ls ++ kind.RBrace ∷ [])) ≡ us ++ more
    → Complete most (before ++ us)
head_completes {name = name} {before = before} {ps = ps} {ls = ls} us more shown b p room l is =
    shorter (before ++ us) more shown
    (completes_at _ _
    (append-nil _ ∙ (simp append_assoc refl ∙ (ap (λ z. before ++ z) is ∙ sym (append_assoc before us more))))
    (top_completes [] (procedure_ends {body = []} (InBody name b p room l) Ends) Ends))

-- a head with its parameters
parameters_complete : {most : Limits} {decls : List Decl} {procedures : List Procedure} (name : List ℕ)
    {parameters : List Parameter} {before ps : List Kind} (us more : List Kind) → HasNoHiddenName more
    → Begun most (Outside decls procedures) before → Parameters ps parameters → 0 < most.braces
    → ps ≡ us ++ more → Complete most (before ++ head_of name us)
parameters_complete name {ps = ps} us more shown b p room is =
    head_completes {name = name} (head_of name us) (more ++ kind.RParen ∷ kind.LBrace ∷ kind.RBrace ∷ [])
    (shown_both more _ shown tt) b p room NoLocal
    (ap (λ z. head_of name (z ++ kind.RParen ∷ kind.LBrace ∷ kind.RBrace ∷ [])) is
    ∙ ap (λ z. head_of name z) (append_assoc us more (kind.RParen ∷ kind.LBrace ∷ kind.RBrace ∷ [])))

one_more : {most : Limits} {decls : List Decl} {procedures : List Procedure} (name : List ℕ)
    {ps : List Parameter} {p : Parameter} {before ts : List Kind} (us more : List Kind) → HasNoHiddenName more
    → Begun most (Outside decls procedures) before → ParametersBefore ts ps → 0 < most.braces
    → SpellsParameter (us ++ more) p → Complete most (before ++ head_of name (ts ++ us))
one_more name {ts = ts} us more shown b before room s =
    parameters_complete name (ts ++ us) more shown b (SomeParameters (one_parameter before s)) room
    (sym (append_assoc ts us more))

pub names_complete : {most : Limits} {decls : List Decl} {procedures : List Procedure} {name : List ℕ}
    {phase : HeadPhase} {before us : List Kind} → Begun most (Outside decls procedures) before
    → Names most name phase us → 0 < most.braces → Complete most (before ++ us)
names_complete {name = name} b IsOpening room =
    head_completes {name = name} (kind.Word proc_word ∷ kind.Word name ∷ [])
    (kind.LParen ∷ kind.RParen ∷ kind.LBrace ∷ kind.RBrace ∷ []) tt b NoParameter room NoLocal refl
names_complete {name = name} b IsNoneYet room = parameters_complete name [] [] tt b NoParameter room refl
names_complete {name = name} b (IsOneMore {ts = ts} s) room =
    completes_at _ _ (simp append-nil refl)
    (one_more name [] (kind.Int ∷ kind.Word (120 ∷ []) ∷ kind.LBracket ∷ kind.RBracket ∷ []) (refl, tt) b (SomeBefore s)
    room (AnArray (120 ∷ [])))
names_complete {name = name} b (IsScalarLabelled label s) room =
    one_more name (keyword_of label ∷ []) (kind.Int ∷ kind.Word (120 ∷ []) ∷ []) (refl, tt) b s room
    (AScalar label (120 ∷ []))
names_complete {name = name} b (IsScalarTyped label s) room =
    one_more name (keyword_of label ∷ kind.Int ∷ []) (kind.Word (120 ∷ []) ∷ []) (refl, tt) b s room
    (AScalar label (120 ∷ []))
names_complete {name = name} b (IsArrayTyped s) room =
    one_more name (kind.Int ∷ []) (kind.Word (120 ∷ []) ∷ kind.LBracket ∷ kind.RBracket ∷ []) (refl, tt) b s room
    (AnArray (120 ∷ []))
names_complete {name = name} b (IsArrayTitled x s) room =
    one_more name (kind.Int ∷ kind.Word x ∷ []) (kind.LBracket ∷ kind.RBracket ∷ []) tt b s room (AnArray x)
names_complete {name = name} b (IsArrayClosing x s) room =
    one_more name (kind.Int ∷ kind.Word x ∷ kind.LBracket ∷ []) (kind.RBracket ∷ []) tt b s room (AnArray x)
names_complete {name = name} b (IsBehind {ts = ts} s) room =
    parameters_complete name ts [] tt b (SomeParameters s) room (sym (append-nil ts))
names_complete {name = name} b (IsAllRead {ts = ts} p) room =
    head_completes {name = name} (head_of name (ts ++ kind.RParen ∷ []))
    (kind.LBrace ∷ kind.RBrace ∷ []) tt b p room NoLocal
    (simp append_assoc refl)
names_complete {name = name} b (IsLocalFresh {ts = ts} {us = us} p fit l) room =
    head_completes {name = name} (head_of name (ts ++ kind.RParen ∷ kind.LBrace ∷ us)) (kind.RBrace ∷ []) tt b p room l
    (simp append_assoc refl)
names_complete {name = name} b (IsLocalLabelled {ts = ts} {us = us} label p fit l) room =
    head_completes {name = name} (head_of name (ts ++ kind.RParen ∷ kind.LBrace ∷ (us ++ keyword_of label ∷ [])))
    (kind.Int ∷ kind.Word (120 ∷ []) ∷ kind.Semi ∷ kind.RBrace ∷ []) (refl, tt) b p room (one_local label (120 ∷ []) l)
    (simp append_assoc refl)
names_complete {name = name} b (IsLocalTyped {ts = ts} {us = us} label p fit l) room =
    head_completes {name = name} (head_of name (ts ++ kind.RParen ∷ kind.LBrace ∷
    (us ++ keyword_of label ∷ kind.Int ∷ [])))
    (kind.Word (120 ∷ []) ∷ kind.Semi ∷ kind.RBrace ∷ []) (refl, tt) b p room (one_local label (120 ∷ []) l)
    (simp append_assoc refl)
names_complete {name = name} b (IsLocalTitled {ts = ts} {us = us} label x p fit l) room =
    head_completes {name = name}
    (head_of name (ts ++ kind.RParen ∷ kind.LBrace ∷ (us ++ keyword_of label ∷ kind.Int ∷ kind.Word x ∷ [])))
    (kind.Semi ∷ kind.RBrace ∷ []) tt b p room (one_local label x l) (simp append_assoc refl)

-- tokens that lead to a state within the braces go on to a file
pub standing_completes : {most : Limits} {state : ParserState} {tokens : List Kind}
    → Standing most state tokens → open_braces state < most.braces → Complete most tokens
standing_completes (InBetween d) room = declared_completes d
standing_completes (InHeading {heading = heading} {first = first} {us = us} d h) room =
    shorter (first ++ us) (rest_of heading (120 ∷ [])) (rest_shown heading)
    (completes_at _ _ (sym (append_assoc first us (rest_of heading (120 ∷ []))))
    (declared_completes (declares_both d (heading_completes h (120 ∷ [])))))
standing_completes (InHead b n) room = names_complete b n (omega arith)
standing_completes (InStatements b s) room = statements_completed b (statements_complete s room)
standing_completes (InArguments name b o c) room = call_completed name b o (call_completes c)
