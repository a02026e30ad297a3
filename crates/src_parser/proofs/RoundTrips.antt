-- The canonical text of a printable program is read as that program again.
use Rattle.std.proofs.Common.{◌≡◌, ℕ, ◌+◌, ◌<◌, ◌≤◌, pos, negsuc, List, [], ◌∷◌, ◌++◌, refl, sym, ◌∙◌, subst, append_assoc, arith, Option, Some, None, Ok}
use Rattle.std.proofs.lemmas.List.{append-nil}
use Rattle.src_lexer.specs.declared.tokens.Kind.{Kind}
use Rattle.src_tree.specs.declared.trees.Decl.{Decl}
use Rattle.src_tree.specs.Prelude.{Tree, Number, Variable, Element, Operation, Test, Statement, SetVariable, SetElement, Choice, Loop, Block, Nothing, Then, Source, height_of, in_braces, tree_text, test_text, statement_text, block_text, decls_text, source_text}
use Rattle.src_tree.proofs.TreeHeights.{height-some}
use Rattle.src_parser.specs.Prelude.{limits, level_of, keyword_of, operators, SpellsTree, Numeral, Named, Indexed, Bracketed, Joined, Compares, Compared, Writes, Sets, Puts, ChoosesElse, Repeats, Declares, NoMore, Scalar, Array, Sentence, Program, IsFree, IsPlain, IsLow, TestFits, StatementFits, BlockFits, SizeFits, DeclsFit, IsPrintable, SpellsSource}
use Rattle.src_lexer.specs.Prelude.{Splits, Ends}
use Rattle.src_parser.proofs.Rendered.{Renders, nothing, both}
use Rattle.src_parser.proofs.LoneTokens.{space, line, lone, label_alone, op_alone, cmp_alone, name_alone, number_alone}
use Rattle.src_lexer.specs.declared.tokens.Kind.TheVariants as kind
use Rattle.src_parser.specs.Grammar as grammar

-- an expression's text and its tokens
pub record TreeText (depth : ℕ) (tree : Tree) : Type 0 where
  pub ks : List Kind
  pub renders : Renders (tree_text tree) ks
  pub spells : (level : ℕ) → SpellsTree 32 depth level ks tree

tree_rendered : (tree : Tree) (depth : ℕ) → IsPlain tree → depth + height_of tree ≤ 33 → TreeText depth tree
tree_rendered (Number (pos n)) depth p h =
    record { ks = kind.Num (pos n) ∷ []; renders = space (number_alone n p); spells = λ level. Numeral n }
tree_rendered (Number (negsuc n)) depth p h = absurd p
tree_rendered (Variable name) depth p h =
    record { ks = kind.Word name ∷ []; renders = space (name_alone name p); spells = λ level. Named name }
tree_rendered (Element name index) depth p h =
    let low : 1 ≤ height_of index = height-some index in
    let t = tree_rendered index (depth + 1) p.1 (omega arith) in
    record {
      ks = kind.Word name ∷ kind.LBracket ∷ (t.ks ++ kind.RBracket ∷ []);
      renders = both (space (name_alone name p.0)) (both (space lone.lbracket) (both t.renders (space lone.rbracket)));
      spells = λ level. Indexed name (omega arith) (t.spells 0);
    }
tree_rendered (Operation o a b) depth p h =
    let low : 1 ≤ height_of a = height-some a in
    let t = tree_rendered a (depth + 1) p.1 (omega arith) in
    let u = tree_rendered b (depth + 1) p.2 (omega arith) in
    let s = op_alone o p.0 in
    record {
      ks = kind.LParen ∷ ((t.ks ++ s.k ∷ u.ks) ++ kind.RParen ∷ []);
      renders = subst (λ z. Renders (tree_text (Operation o a b)) (kind.LParen ∷ z))
          (sym (append_assoc t.ks (s.k ∷ u.ks) (kind.RParen ∷ [])))
          (both (space lone.lparen) (both t.renders (both (space s.alone) (both u.renders (space lone.rparen)))));
      spells = λ level.
          Bracketed (omega arith) (Joined o s.k (omega arith) s.is (t.spells (level_of o)) (u.spells (level_of o + 1)));
    }

-- a guard's text and its tokens
pub record TestText (test : Test) : Type 0 where
  pub ks : List Kind
  pub renders : Renders (test_text test) (kind.LParen ∷ (ks ++ kind.RParen ∷ []))
  pub compares : Compares limits ks test

test_rendered : (test : Test) → TestFits test → TestText test
test_rendered test f =
    let low = f.left.low in
    let low2 = f.right.low in
    let a = tree_rendered test.left 0 f.left.plain (omega arith) in
    let b = tree_rendered test.right 0 f.right.plain (omega arith) in
    let s = cmp_alone test.cmp in
    record {
      ks = a.ks ++ s.k ∷ b.ks;
      renders = subst (λ z. Renders (test_text test) (kind.LParen ∷ z))
          (sym (append_assoc a.ks (s.k ∷ b.ks) (kind.RParen ∷ [])))
          (both (space lone.lparen) (both a.renders (both (space s.alone) (both b.renders (space lone.rparen)))));
      compares = Compared test.cmp s.k s.is (a.spells 0) (b.spells 0) f.few;
    }

-- a statement's text and its tokens, before others
pub record StatementText (depth : ℕ) (s : Statement) : Type 0 where
  pub ks : List Kind
  pub renders : Renders (statement_text s) ks
  pub writes : (rest : List Kind) (block : Block)
      → Writes limits depth rest block → Writes limits depth (ks ++ rest) (Then s block)

pub record BlockText (depth : ℕ) (block : Block) : Type 0 where
  pub ks : List Kind
  pub renders : Renders (block_text block) ks
  pub writes : Writes limits depth ks block

writes_at : {depth : ℕ} {block : Block} (xs ys : List Kind)
    → xs ≡ ys → Writes limits depth xs block → Writes limits depth ys block
writes_at {depth} {block} xs ys e w = subst (λ z. Writes limits depth z block) e w

braces_rendered : {text : List ℕ} {ks : List Kind}
    → Renders text ks → Renders (in_braces text) (kind.LBrace ∷ (ks ++ kind.RBrace ∷ []))
braces_rendered r = both (line lone.lbrace) (both r (line lone.rbrace))

set_rendered : (depth : ℕ) (name : List ℕ) (value : Tree)
    → IsFree name → IsLow value → operators value ≤ 256 → StatementText depth (SetVariable name value)
set_rendered depth name value free low few =
    let h = low.low in
    let t = tree_rendered value 0 low.plain (omega arith) in
    record {
      ks = kind.Word name ∷ kind.Assign ∷ (t.ks ++ kind.Semi ∷ []);
      renders = both (space (name_alone name free)) (both (space lone.assign) (both t.renders (line lone.semi)));
      writes = λ rest block w. writes_at _ _ (simp append_assoc refl) (Sets name (t.spells 0) few w);
    }

put_rendered : (depth : ℕ) (name : List ℕ) (index value : Tree) → IsFree name → IsLow index → IsLow value
    → operators index + operators value ≤ 256 → StatementText depth (SetElement name index value)
put_rendered depth name index value free low1 low2 few =
    let h = low1.low in
    let k = low2.low in
    let i = tree_rendered index 1 low1.plain (omega arith) in
    let t = tree_rendered value 0 low2.plain (omega arith) in
    record {
      ks = kind.Word name ∷ kind.LBracket ∷ (i.ks ++ kind.RBracket ∷ kind.Assign ∷ (t.ks ++ kind.Semi ∷ []));
      renders = both (space (name_alone name free)) (both (space lone.lbracket)
          (both i.renders (both (space lone.rbracket) (both (space lone.assign) (both t.renders (line lone.semi))))));
      writes = λ rest block w. writes_at _ _ (simp append_assoc refl) (Puts name (i.spells 0) (t.spells 0) few w);
    }

choice_rendered : (depth : ℕ) (test : Test) (first second : Block) → TestFits test → depth < 32
    → BlockText (depth + 1) first → BlockText (depth + 1) second → StatementText depth (Choice test first second)
choice_rendered depth test first second f room a b =
    let g = test_rendered test f in
    record {
      ks = kind.If ∷ ((kind.LParen ∷ (g.ks ++ kind.RParen ∷ []))
          ++ ((kind.LBrace ∷ (a.ks ++ kind.RBrace ∷ [])) ++ (kind.Else ∷ (kind.LBrace ∷ (b.ks ++ kind.RBrace ∷ [])))));
      renders = both (space lone.if_word)
          (both g.renders (both (braces_rendered a.renders) (both (space lone.else_word) (braces_rendered b.renders))));
      writes = λ rest block w. writes_at _ _ (simp append_assoc refl) (ChoosesElse g.compares room a.writes b.writes w);
    }

loop_rendered : (depth : ℕ) (test : Test) (body : Block)
    → TestFits test → depth < 32 → BlockText (depth + 1) body → StatementText depth (Loop test body)
loop_rendered depth test body f room a =
    let g = test_rendered test f in
    record {
      ks = kind.While ∷ ((kind.LParen ∷ (g.ks ++ kind.RParen ∷ [])) ++ (kind.LBrace ∷ (a.ks ++ kind.RBrace ∷ [])));
      renders = both (space lone.while_word) (both g.renders (braces_rendered a.renders));
      writes = λ rest block w. writes_at _ _ (simp append_assoc refl) (Repeats g.compares room a.writes w);
    }

then_rendered : (depth : ℕ) (s : Statement) (rest : Block)
    → StatementText depth s → BlockText depth rest → BlockText depth (Then s rest)
then_rendered depth s rest a b =
    record { ks = a.ks ++ b.ks; renders = both a.renders b.renders; writes = a.writes b.ks rest b.writes }

mutual
  statement_rendered : (s : Statement) (depth : ℕ) → StatementFits s depth → StatementText depth s
  statement_rendered (SetVariable name value) depth f = set_rendered depth name value f.0 f.1 f.2
  statement_rendered (SetElement name index value) depth f = put_rendered depth name index value f.0 f.1 f.2 f.3
  statement_rendered (Choice test first second) depth f =
      choice_rendered depth test first second f.0 f.1 (block_rendered first (depth + 1) f.2)
      (block_rendered second (depth + 1) f.3)
  statement_rendered (Loop test body) depth f =
      loop_rendered depth test body f.0 f.1 (block_rendered body (depth + 1) f.2)

  block_rendered : (b : Block) (depth : ℕ) → BlockFits b depth → BlockText depth b
  block_rendered Nothing depth f = record { ks = []; renders = nothing; writes = grammar.Ends }
  block_rendered (Then s rest) depth f =
      then_rendered depth s rest (statement_rendered s depth f.0) (block_rendered rest depth f.1)

pub record DeclsText (decls : List Decl) : Type 0 where
  pub ks : List Kind
  pub renders : Renders (decls_text decls) ks
  pub declares : Declares ks decls

decl_rendered : (decl : Decl) (decls : List Decl) (size : Option ℕ)
    → decl.length ≡ size → IsFree decl.name → SizeFits size → DeclsText decls → DeclsText (decl ∷ decls)
decl_rendered decl decls None is free fits rest =
    let all : DeclsText (record { name = decl.name; label = decl.label; length = None } ∷ decls) = record {
      ks = (keyword_of decl.label ∷ kind.Int ∷ kind.Word decl.name ∷ kind.Semi ∷ []) ++ rest.ks;
      renders = both (both (space (label_alone decl.label))
          (both (space lone.int_word) (both (space (name_alone decl.name free)) (both nothing (line lone.semi)))))
          rest.renders;
      declares = Scalar decl.label decl.name rest.declares;
    } in
    subst (λ z. DeclsText (record { name = decl.name; label = decl.label; length = z } ∷ decls)) (sym is) all
decl_rendered decl decls (Some n) is free fits rest =
    let all : DeclsText (record { name = decl.name; label = decl.label; length = Some n } ∷ decls) = record {
      ks = (keyword_of decl.label ∷ kind.Int ∷ kind.Word decl.name ∷ kind.LBracket ∷ kind.Num (pos n) ∷ kind.RBracket
          ∷ kind.Semi ∷ []) ++ rest.ks;
      renders =
          both (both (space (label_alone decl.label))
          (both (space lone.int_word) (both (space (name_alone decl.name free))
          (both (both (space lone.lbracket) (both (space (number_alone n fits)) (space lone.rbracket)))
          (line lone.semi)))))
          rest.renders;
      declares = Array decl.label decl.name n rest.declares;
    } in
    subst (λ z. DeclsText (record { name = decl.name; label = decl.label; length = z } ∷ decls)) (sym is) all

decls_rendered : (decls : List Decl) → DeclsFit decls → DeclsText decls
decls_rendered [] f = record { ks = []; renders = nothing; declares = NoMore }
decls_rendered (decl ∷ decls) f = decl_rendered decl decls decl.length refl f.0 f.1 (decls_rendered decls f.2)

-- what is printed is read as the same program
pub read_again : (p : Source) → IsPrintable p → SpellsSource (source_text p) p
read_again p f =
    let d = decls_rendered p.decls f.decls in
    let b = block_rendered p.body 0 f.body in
    let r = (both d.renders b.renders).render 0 [] [] Ends in
    record {
      tokens = r.tokens;
      split = subst (λ z. Splits 0 z (Ok r.tokens)) (append-nil (source_text p)) r.split;
      sentence =
          subst (λ z. Sentence limits z p) (sym (r.same ∙ append-nil (d.ks ++ b.ks))) (Program d.declares b.writes);
    }
