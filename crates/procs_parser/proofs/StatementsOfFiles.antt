-- The statements of a file by the grammar are read as these statements.
use Rattle.std.proofs.Common.{◌≡◌, ℕ, ◌+◌, ◌≤◌, Bool, true, false, List, [], ◌∷◌, ◌++◌, Option, refl, sym, ap, ◌∙◌, subst, append_assoc, arith}
use Rattle.src_lexer.specs.declared.tokens.Kind.{Kind}
use Rattle.src_tree.specs.Prelude.{Tree, Test}
use Rattle.procs_tree.specs.Prelude.{Statement, Block, File}
use Rattle.src_parser.specs.Prelude.{Limits, operators, SpellsTree, Joined, Reading, At, Wanted, reads, Asked, Inside, Target, in_expression, Outer, Phase, Ready, MayElse, InPart, Blocks, Among, chosen, with_part, performed, is_complete, Goes, after_advance, mapped}
use Rattle.src_parser.proofs.Complete.{Runs, complete}
use Rattle.src_parser.proofs.PartRead.{right_paren, semicolon}
use Rattle.src_parser.proofs.StatementsRead.{NoElse, StatementRuns, settled_kind, settled_end, statements_read}
use Rattle.procs_parser.specs.Prelude.{Opened, Argument, Called, InCall, in_argument, SpellsTrees, Last, Before, NoArgument, Given, operators_of, SpellsBlock, ParserState, Doing, Calling, Front, front_depth, with_calls, brace_next, bracket_next, word_next, target_of, statement_next, with_call, file_at, program_of, advanced}
use Rattle.procs_parser.proofs.BlocksSpelled.{statements_of, block_spelled}
use Rattle.procs_parser.proofs.CallTokens.{IsCall, ACall}
use Rattle.src_lexer.specs.declared.tokens.Kind.TheVariants as kind
use Rattle.src_parser.specs.Tokenwise as tokenwise

abbrev pub parsed : Limits → ParserState → List Kind → Option File
parsed = tokenwise.parsed advanced program_of

-- a token that a statement other than a call goes on with is read so
bracket_goes : (most : Limits) (front : Front) (outer : List (Outer Statement)) (here : List Statement)
    (phase : Phase Statement) (y : Blocks Statement)
    → performed with_calls most (front_depth front) (Among outer here phase) kind.LParen ≡ Goes y
    → bracket_next most front outer here phase (target_of phase) ≡ Goes (Doing front y)
bracket_goes most front outer here (InPart (Target name)) y e = absurd (cc)
bracket_goes most front outer here _ y e = ap (mapped (Doing front)) e

word_goes : (most : Limits) (front : Front) (outer : List (Outer Statement)) (here : List Statement)
    (phase : Phase Statement) (other : List ℕ) (y : Blocks Statement)
    → performed with_calls most (front_depth front) (Among outer here phase) (kind.Word other) ≡ Goes y
    → word_next most front outer here phase other (target_of phase) ≡ Goes (Doing front y)
word_goes most front outer here (InPart (Target name)) other y e = absurd (cc)
word_goes most front outer here _ other y e = ap (mapped (Doing front)) e

-- after complete statements no block is closed
complete_ends : (most : Limits) (outside : ℕ) (x y : Blocks Statement) → is_complete x ≡ true
    → performed with_calls most outside x kind.RBrace ≡ Goes y → ⊥
complete_ends most outside (Among [] here Ready) y is e = cc
complete_ends most outside (Among [] here (MayElse test first)) y is e = cc
complete_ends most outside _ y is e = cc

brace_goes : (most : Limits) (front : Front) (x y : Blocks Statement) (b : Bool) → is_complete x ≡ b
    → performed with_calls most (front_depth front) x kind.RBrace ≡ Goes y
    → brace_next most front x b ≡ Goes (Doing front y)
brace_goes most front x y true is e = absurd (complete_ends most (front_depth front) x y is e)
brace_goes most front x y false is e = ap (mapped (Doing front)) e

statement_goes : (most : Limits) (front : Front) (x y : Blocks Statement) (k : Kind)
    → performed with_calls most (front_depth front) x k ≡ Goes y → statement_next most front x k ≡ Goes (Doing front y)
statement_goes most front (Among outer here phase) y kind.LParen e = bracket_goes most front outer here phase y e
statement_goes most front (Among outer here phase) y (kind.Word other) e =
    word_goes most front outer here phase other y e
statement_goes most front (Among outer here phase) y kind.RBrace e =
    brace_goes most front (Among outer here phase) y (is_complete (Among outer here phase)) refl e
statement_goes most front (Among outer here phase) y _ e = ap (mapped (Doing front)) e

settled_next : (most : Limits) (front : Front) (outer : List (Outer Statement)) (here : List Statement) (test : Test)
    (first : List Statement) (k : Kind) (ks : List Kind) → NoElse (k ∷ ks)
    → statement_next most front (Among outer here (MayElse test first)) k
    ≡ statement_next most front (Among outer (chosen with_calls here test first) Ready) k
settled_next most front [] here test first kind.RBrace ks h = refl
settled_next most front (o ∷ outer) here test first kind.RBrace ks h =
    ap (mapped (Doing front)) (settled_kind with_calls (o ∷ outer) here test first kind.RBrace ks h)
settled_next most front outer here test first k ks h =
    ap (mapped (Doing front)) (settled_kind with_calls outer here test first k ks h)

settled : (most : Limits) (front : Front) (outer : List (Outer Statement)) (here : List Statement) (test : Test)
    (first : List Statement) (ks : List Kind) → NoElse ks
    → parsed most (Doing front (Among outer here (MayElse test first))) ks
    ≡ parsed most (Doing front (Among outer (chosen with_calls here test first) Ready)) ks
settled most front outer here test first [] h = ap (file_at front) (settled_end with_calls outer here test first)
settled most front outer here test first (k ∷ ks) h =
    ap (λ t. after_advance t (λ next. parsed most next ks)) (settled_next most front outer here test first k ks h)

-- an argument of a call continues as its tokens are read
argument_runs : (most : Limits) (front : Front) (outer : List (Outer Statement)) (here : List Statement)
    (name : List ℕ) (before : List Tree)
    → Runs most (λ x ks. parsed most (Calling front outer here name (InCall before (Argument x))) ks)
argument_runs most front outer here name before = record {
  moves = λ x y k ks e. ap (λ s. after_advance (mapped (with_call front outer here name) (in_argument before k s))
      (λ next. parsed most next ks)) e;
  same = λ x y k ks e. ap (λ s. after_advance (mapped (with_call front outer here name) (in_argument before k s))
      (λ next. parsed most next ks)) e;
}

-- tokens that don't begin with `)`
abbrev NoParen : List Kind → Type 0
NoParen [] = ⊥
NoParen (kind.RParen ∷ ks) = ⊥
NoParen (k ∷ ks) = Unit {0}

tree_starts : {most depth level : ℕ} {tokens : List Kind} {tree : Tree} → SpellsTree most depth level tokens tree
    → (more : List Kind) → NoParen (tokens ++ more)
tree_starts (Joined {left = left} {right = right} op sign below is first second) more =
    subst NoParen (sym (append_assoc left (sign ∷ right) more)) (tree_starts first (sign ∷ (right ++ more)))
tree_starts _ more = tt

trees_start : {most : ℕ} {tokens : List Kind} {es : List Tree} → SpellsTrees most tokens es
    → (more : List Kind) → NoParen (tokens ++ more)
trees_start (Last s) more = tree_starts s more
trees_start (Before {tokens = tokens} {rest = rest} s others) more =
    subst NoParen (sym (append_assoc tokens (kind.Semi ∷ rest) more)) (tree_starts s (kind.Semi ∷ (rest ++ more)))

opened_same : (most : Limits) (front : Front) (outer : List (Outer Statement)) (here : List Statement) (name : List ℕ)
    (ks : List Kind) → NoParen ks
    → parsed most (Calling front outer here name (InCall [] Opened)) ks
    ≡ parsed most (Calling front outer here name (InCall [] (Argument (At [] 0 0 Wanted)))) ks
opened_same most front outer here name [] h = absurd h
opened_same most front outer here name (kind.RParen ∷ ks) h = absurd h
opened_same most front outer here name (_ ∷ ks) h = refl

-- arguments are read one by one
arguments_parsed : (most : Limits) {tokens : List Kind} {es : List Tree} → SpellsTrees most.brackets tokens es
    → (front : Front) (outer : List (Outer Statement)) (here : List Statement) (name : List ℕ) (before : List Tree)
    (used : ℕ) (ks : List Kind) → used + operators_of es ≤ most.operators
    → parsed most (Calling front outer here name (InCall before (Argument (At [] 0 used Wanted))))
    (tokens ++ kind.RParen ∷ ks)
    ≡ parsed most (Calling front outer here name (InCall (before ++ es) Called)) ks
arguments_parsed most (Last {e = e} s) front outer here name before used ks fits =
    complete most _ (argument_runs most front outer here name before) s [] used (used + operators e)
    kind.RParen ks (omega arith) right_paren refl (omega arith)
arguments_parsed most (Before {tokens = tokens} {rest = rest} {e = e} {es = es} s more) front outer here name before
    used ks fits =
    rw (append_assoc tokens (kind.Semi ∷ rest) (kind.RParen ∷ ks))
    (complete most _ (argument_runs most front outer here name before) s [] used (used + operators e)
    kind.Semi (rest ++ kind.RParen ∷ ks) (omega arith) semicolon refl (omega arith)
    ∙ (arguments_parsed most more front outer here name (before ++ e ∷ []) (used + operators e) ks (omega arith)
    ∙ ap (λ z. parsed most (Calling front outer here name (InCall z Called)) ks) (append_assoc before (e ∷ []) es)))

-- a call is read as its statement
call_parsed : {most : Limits} {tokens : List Kind} {s : Statement} → IsCall most tokens s → (front : Front)
    (outer : List (Outer Statement)) (here : List Statement) (ks : List Kind)
    → parsed most (Doing front (Among outer here Ready)) (tokens ++ ks)
    ≡ parsed most (Doing front (Among outer (here ++ s ∷ []) Ready)) ks
call_parsed (ACall name NoArgument) front outer here ks = refl
call_parsed {most} (ACall {tokens = tokens} name (Given s fits)) front outer here ks =
    rw (append_assoc tokens (kind.RParen ∷ kind.Semi ∷ []) ks)
    (opened_same most front outer here name (tokens ++ kind.RParen ∷ kind.Semi ∷ ks)
    (trees_start s (kind.RParen ∷ kind.Semi ∷ ks))
    ∙ arguments_parsed most s front outer here name [] 0 (kind.Semi ∷ ks) (omega arith))

call_starts : {most : Limits} {tokens : List Kind} {s : Statement} → IsCall most tokens s → (ks : List Kind)
    → NoElse (tokens ++ ks)
call_starts (ACall name given) ks = tt

-- a token in a part, when the part was read to another expression
same_next : (most : Limits) (front : Front) (outer : List (Outer Statement)) (here : List Statement) (asked : Asked)
    (x y : Reading) (k : Kind) → reads most x k ≡ reads most y k
    → statement_next most front (Among outer here (InPart (Inside asked x))) k
    ≡ statement_next most front (Among outer here (InPart (Inside asked y))) k
same_next most front [] here asked x y kind.RBrace e =
    ap (λ s. mapped (Doing front) (mapped (with_part with_calls [] here) (in_expression asked kind.RBrace s))) e
same_next most front (o ∷ outer) here asked x y kind.RBrace e =
    ap (λ s. mapped (Doing front) (mapped (with_part with_calls (o ∷ outer) here) (in_expression asked kind.RBrace s))) e
same_next most front outer here asked x y k e =
    ap (λ s. mapped (Doing front) (mapped (with_part with_calls outer here) (in_expression asked k s))) e

-- statements of a file are read as its tokens are
statement_runs : (most : Limits) (front : Front)
    → StatementRuns with_calls (IsCall most) most (front_depth front) (λ blocks ks. parsed most (Doing front blocks) ks)
statement_runs most front = record {
  goes = λ x y k ks e. ap (λ t. after_advance t (λ next. parsed most next ks)) (statement_goes most front x y k e);
  same = λ outer here asked x y k ks e.
      ap (λ t. after_advance t (λ next. parsed most next ks)) (same_next most front outer here asked x y k e);
  settles = settled most front;
  own = λ is outer here ks. call_parsed is front outer here ks;
  own_starts = call_starts;
}

-- the statements of a file, or of a procedure, are read as their block
pub body_read : {most : Limits} {depth : ℕ} {tokens : List Kind} {block : Block}
    → SpellsBlock most depth tokens block → (front : Front) → front_depth front ≡ depth → (more : List Kind)
    → NoElse more → parsed most (Doing front (Among [] [] Ready)) (tokens ++ more)
    ≡ parsed most (Doing front (Among [] (statements_of block) Ready)) more
body_read {most} w front is more free =
    statements_read _ (statement_runs most front) (block_spelled w) [] [] more (omega arith) free
