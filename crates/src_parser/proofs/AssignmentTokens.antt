-- An assignment that is read in one go is read as its tokens are, one by one.
use Rattle.std.proofs.Common.{◌≡◌, ℕ, ◌+◌, ◌-◌, ◌<◌, ◌≤◌, suc, List, [], ◌∷◌, ◌++◌, length, take, drop, get_or, sym, ap, ◌∙◌, subst, append_assoc, arith}
use Rattle.std.proofs.Math.Seq.{take-add}
use Rattle.std.proofs.lemmas.List.{length-append, length-map, length-take-le, map-append, take_all}
use Rattle.src_lexer.specs.declared.tokens.Token.{Token}
use Rattle.src_lexer.specs.declared.tokens.Kind.{Kind}
use Rattle.src_tree.specs.declared.trees.Decl.{Decl}
use Rattle.src_tree.specs.Prelude.{Tree, Statement, SetVariable, SetElement}
use Rattle.src_parser.specs.Prelude.{limits, operators, SpellsTree, Numeral, Named, Indexed, Bracketed, Negated, Joined, token_kinds, PartState, in_expression, Outer, Among, Ready, with_part, Advance, mapped, then_advance, advances, ParserState, Doing, programs, advanced, EndedBy, Adds, FoundExpression}
use Rattle.src_parser.specs.Assignments.{Assigned}
use Rattle.src_parser.proofs.TokenPlaces.{kinds_more}
use Rattle.src_parser.proofs.PartRead.{PartRuns, variable_read, element_read}
use Rattle.src_lexer.specs.declared.tokens.Kind.TheVariants as kind

-- an expression has no more operators than tokens
few_operators : {most depth level : ℕ} {tokens : List Kind} {tree : Tree} → SpellsTree most depth level tokens tree
    → operators tree ≤ length tokens
few_operators (Numeral n) = omega arith
few_operators (Named name) = omega arith
few_operators (Indexed {tokens = tokens} name room s) =
    let few = few_operators s in
    let all = length-append tokens (kind.RBracket ∷ []) in omega arith
few_operators (Bracketed {tokens = tokens} room s) =
    let few = few_operators s in
    let all = length-append tokens (kind.RParen ∷ []) in omega arith
few_operators (Negated room s) = let few = few_operators s in omega arith
few_operators (Joined {left = left} {right = right} op sign low is a b) =
    let fewer = few_operators a in
    let few = few_operators b in
    let all = length-append left (sign ∷ right) in omega arith

-- the kinds of some tokens and of the token after them
pub kinds_with : (tokens : List Token) (i : ℕ) (token : Token) (k : Kind) → i < length tokens
    → token ≡ get_or tokens i token → token.kind ≡ k
    → token_kinds (take (i + 1) tokens) ≡ token_kinds (take i tokens) ++ k ∷ []
kinds_with tokens i token k h is same =
    kinds_more tokens i token h is ∙ ap (λ k. token_kinds (take i tokens) ++ k ∷ []) same

-- an expression, and the token after it
pub ended_by : (last : Kind) (tokens : List Token) (opened used count : ℕ) (tree : Tree)
    → FoundExpression tokens opened used tree count
    → token_kinds (take (count + 1) tokens) ≡ token_kinds (take count tokens) ++ last ∷ []
    → EndedBy last opened used (token_kinds (take (count + 1) tokens)) tree
ended_by last tokens opened used count tree found split = record {
  front = token_kinds (take count tokens);
  split = split;
  is = found.is;
}

few_before : (last : Kind) (opened used : ℕ) (tokens : List Kind) (tree : Tree)
    → EndedBy last opened used tokens tree → operators tree ≤ length tokens
few_before last opened used tokens tree e =
    let few = few_operators e.is.spells in
    let split = ap length e.split in
    let all = length-append e.front (last ∷ []) in omega arith

-- the parser's advance after a part of a statement
abbrev part_read : List Decl → List (Outer Statement) → List Statement → PartState → List Kind
    → Advance ParserState
part_read decls outer here s ks = advances advanced limits (Doing decls (with_part programs outer here s)) ks

part_runs : (decls : List Decl) (outer : List (Outer Statement)) (here : List Statement)
    → PartRuns limits (part_read decls outer here)
part_runs decls outer here = record {
  goes = λ part s k ks e.
      ap (λ t. then_advance (mapped (Doing decls) (mapped (with_part programs outer here) t))
      (λ next. advances advanced limits next ks)) e;
  same = λ asked x y k ks e.
      ap (λ s. then_advance (mapped (Doing decls) (mapped (with_part programs outer here) (in_expression asked k s)))
      (λ next. advances advanced limits next ks)) e;
}

variable_adds : (name : List ℕ) (tokens : List Kind) (value : Tree) → EndedBy kind.Semi 0 0 tokens value
    → Adds (kind.Word name ∷ kind.Assign ∷ tokens) (SetVariable name value)
variable_adds name tokens value e = record {
  leads = λ decls outer here. record {
    reads = (let fits = e.is.fits in
        ap (λ ts. advances advanced limits (Doing decls (Among outer here Ready)) (kind.Word name ∷ kind.Assign ∷ ts))
        e.split
        ∙ variable_read limits (part_read decls outer here) (part_runs decls outer here) name e.is.spells
        (omega arith) []);
  };
}

-- an assignment to a variable, with a copy of its name
pub variable_at : (name copied : List ℕ) (tokens : List Kind) (value : Tree) (statement : Statement)
    → copied ≡ name → statement ≡ SetVariable copied value → EndedBy kind.Semi 0 0 tokens value
    → Adds (kind.Word name ∷ kind.Assign ∷ tokens) statement
variable_at name copied tokens value statement same is e =
    subst (λ s. Adds (kind.Word name ∷ kind.Assign ∷ tokens) s) (sym (is ∙ ap (λ n. SetVariable n value) same))
    (variable_adds name tokens value e)

element_adds : (name : List ℕ) (at tokens : List Kind) (index value : Tree) (used : ℕ)
    → EndedBy kind.RBracket 1 0 at index → EndedBy kind.Semi 0 used tokens value → operators index ≤ used
    → Adds (kind.Word name ∷ kind.LBracket ∷ (at ++ kind.Assign ∷ tokens)) (SetElement name index value)
element_adds name at tokens index value used i e few = record {
  leads = λ decls outer here. record {
    reads = (let fits = e.is.fits in
        let all : at ++ kind.Assign ∷ tokens ≡ i.front ++ kind.RBracket ∷ kind.Assign ∷ (e.front ++ kind.Semi ∷ []) =
        ap (λ ts. ts ++ kind.Assign ∷ tokens) i.split
        ∙ (append_assoc i.front (kind.RBracket ∷ []) (kind.Assign ∷ tokens)
        ∙ ap (λ ts. i.front ++ kind.RBracket ∷ kind.Assign ∷ ts) e.split) in
        ap (λ ts. advances advanced limits (Doing decls (Among outer here Ready)) (kind.Word name ∷ kind.LBracket ∷ ts))
        all
        ∙ element_read limits (part_read decls outer here) (part_runs decls outer here) name i.is.spells e.is.spells
        (omega arith) []);
  };
}

-- the tokens after the first one or two, as the pattern of a slice has them
behind_one : (tokens : List Token) → 1 ≤ length tokens → take (length tokens - 1) (drop 1 tokens) ≡ drop 1 tokens
behind_one [] h = absurd (omega arith)
behind_one (token ∷ tokens) h = take_all (length (token ∷ tokens) - 1) tokens (omega arith)

behind_two : (tokens : List Token) → 2 ≤ length tokens → take (length tokens - 2) (drop 2 tokens) ≡ drop 2 tokens
behind_two [] h = absurd (omega arith)
behind_two (token ∷ []) h = absurd (omega arith)
behind_two (token ∷ other ∷ tokens) h = take_all (length (token ∷ other ∷ tokens) - 2) tokens (omega arith)

-- the first token, and the others
front_of : (tokens : List Token) (first : Token) → 1 ≤ length tokens → first ≡ get_or tokens 0 first
    → tokens ≡ first ∷ drop 1 tokens
front_of [] first h is = absurd (omega arith)
front_of (token ∷ tokens) first h is = ap (λ t. t ∷ tokens) (sym is)

two_of : (tokens : List Token) (first second : Token) → 2 ≤ length tokens → first ≡ get_or tokens 0 first
    → second ≡ get_or tokens 1 second → tokens ≡ first ∷ second ∷ drop 2 tokens
two_of [] first second h is also = absurd (omega arith)
two_of (token ∷ []) first second h is also = absurd (omega arith)
two_of (token ∷ other ∷ tokens) first second h is also =
    ap (λ t. t ∷ other ∷ tokens) (sym is) ∙ ap (λ t. first ∷ t ∷ tokens) (sym also)

-- a `=`, and the tokens of a value and its `;`
pub assigned_at : (tokens : List Token) (sign : Token) (used count : ℕ) (value : Tree) → 1 ≤ length tokens
    → sign ≡ get_or tokens 0 sign → sign.kind ≡ kind.Assign
    → EndedBy kind.Semi 0 used (token_kinds (take count (take (length tokens - 1) (drop 1 tokens)))) value
    → Assigned used (token_kinds (take (count + 1) tokens)) value
assigned_at tokens sign used count value some at is e = record {
  rest = token_kinds (take count (drop 1 tokens));
  split = (let more : count + 1 ≡ suc count = omega arith in
      ap (λ ts. token_kinds (take (count + 1) ts)) (front_of tokens sign some at)
      ∙ (ap (λ n. token_kinds (take n (sign ∷ drop 1 tokens))) more
      ∙ ap (λ k. k ∷ token_kinds (take count (drop 1 tokens))) is));
  is = subst (λ ts. EndedBy kind.Semi 0 used (token_kinds (take count ts)) value) (behind_one tokens some) e;
}

-- the tokens of an index and its `]`, and those of a value between a `=` and a `;`
pub element_at : (name : List ℕ) (tokens after : List Token) (inside count : ℕ) (index value : Tree)
    (statement : Statement) → statement ≡ SetElement name index value → inside ≤ length tokens
    → after ≡ drop inside tokens
    → EndedBy kind.RBracket 1 0 (token_kinds (take inside tokens)) index
    → Assigned inside (token_kinds (take count after)) value
    → Adds (kind.Word name ∷ kind.LBracket ∷ token_kinds (take (inside + count) tokens)) statement
element_at name tokens after inside count index value statement made h behind i e =
    let few = few_before kind.RBracket 1 0 (token_kinds (take inside tokens)) index i in
    let kinds = length-map (take inside tokens) (λ (t : Token). t.kind) in
    let all = length-take-le inside tokens h in
    let rest : token_kinds (take count (drop inside tokens)) ≡ kind.Assign ∷ e.rest =
    ap (λ ts. token_kinds (take count ts)) (sym behind) ∙ e.split in
    let whole : token_kinds (take (inside + count) tokens) ≡ token_kinds (take inside tokens) ++ kind.Assign ∷ e.rest =
    ap token_kinds (take-add inside count tokens)
    ∙ (map-append (λ (t : Token). t.kind) (take inside tokens) (take count (drop inside tokens))
    ∙ ap (λ ks. token_kinds (take inside tokens) ++ ks) rest) in
    subst (λ ts. Adds (kind.Word name ∷ kind.LBracket ∷ ts) statement) (sym whole)
    (subst (λ s. Adds (kind.Word name ∷ kind.LBracket ∷ (token_kinds (take inside tokens) ++ kind.Assign ∷ e.rest)) s)
    (sym made) (element_adds name (token_kinds (take inside tokens)) e.rest index value inside i e.is (omega arith)))

-- an assignment that begins with a name and a sign
pub assignment_at : (tokens : List Token) (first second : Token) (name : List ℕ) (count : ℕ) (statement : Statement)
    → 2 ≤ length tokens → first ≡ get_or tokens 0 first → second ≡ get_or tokens 1 second → first.kind ≡ kind.Word name
    → Adds (kind.Word name ∷ second.kind ∷ token_kinds (take count (take (length tokens - 2) (drop 2 tokens)))) statement
    → Adds (token_kinds (take (count + 2) tokens)) statement
assignment_at tokens first second name count statement h at next named adds =
    let more : count + 2 ≡ suc (suc count) = omega arith in
    let whole : token_kinds (take (count + 2) tokens)
    ≡ kind.Word name ∷ second.kind ∷ token_kinds (take count (drop 2 tokens)) =
    ap (λ ts. token_kinds (take (count + 2) ts)) (two_of tokens first second h at next)
    ∙ (ap (λ n. token_kinds (take n (first ∷ second ∷ drop 2 tokens))) more
    ∙ ap (λ k. k ∷ second.kind ∷ token_kinds (take count (drop 2 tokens))) named) in
    subst (λ ts. Adds ts statement) (sym whole)
    (subst (λ ts. Adds (kind.Word name ∷ second.kind ∷ token_kinds (take count ts)) statement) (behind_two tokens h) adds)
