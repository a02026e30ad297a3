-- A program by the grammar is read as that program.
use Rattle.std.proofs.Common.{◌≡◌, ℕ, List, [], ◌∷◌, ◌++◌, Option, Some, None, refl, sym, ap, ◌∙◌, append_assoc}
use Rattle.std.specs.Prelude.{option_map}
use Rattle.std.proofs.lemmas.List.{append-nil}
use Rattle.gr_word.specs.declared.variables.Label.TheVariants.{Public, Secret}
use Rattle.src_lexer.specs.declared.tokens.Kind.{Kind}
use Rattle.src_tree.specs.declared.trees.Decl.{Decl}
use Rattle.src_tree.specs.Prelude.{Test, Statement, Block, Source}
use Rattle.src_parser.specs.Prelude.{Limits, Writes, Ends, Declares, NoMore, Scalar, Array, Sentence, Program, declared, in_expression, Outer, MayElse, Ready, Among, chosen, with_part, after_advance, mapped, ParserState, Between, Doing, programs, source_made, program_of, advanced}
use Rattle.src_parser.proofs.StatementsRead.{NoElse, StatementRuns, settled_kind, settled_end, statements_read}
use Rattle.src_parser.proofs.Written.{NoOwn, block_again, written_spelled}
use Rattle.src_parser.specs.Tokenwise as tokenwise

abbrev pub parsed : Limits → ParserState → List Kind → Option Source
parsed = tokenwise.parsed advanced program_of

settled : (most : Limits) (decls : List Decl) (outer : List (Outer Statement)) (here : List Statement) (test : Test)
    (first : List Statement) (ks : List Kind) → NoElse ks
    → parsed most (Doing decls (Among outer here (MayElse test first))) ks
    ≡ parsed most (Doing decls (Among outer (chosen programs here test first) Ready)) ks
settled most decls outer here test first [] h =
    ap (option_map (source_made decls)) (settled_end programs outer here test first)
settled most decls outer here test first (k ∷ ks) h =
    ap (λ t. after_advance (mapped (Doing decls) t) (λ next. parsed most next ks))
    (settled_kind programs outer here test first k ks h)

-- statements of a program are read as its tokens are
statement_runs : (most : Limits) (decls : List Decl)
    → StatementRuns programs NoOwn most 0 (λ blocks ks. parsed most (Doing decls blocks) ks)
statement_runs most decls = record {
  goes = λ x y k ks e. ap (λ t. after_advance (mapped (Doing decls) t) (λ next. parsed most next ks)) e;
  same = λ outer here asked x y k ks e.
      ap (λ s. after_advance (mapped (Doing decls) (mapped (with_part programs outer here) (in_expression asked k s)))
      (λ next. parsed most next ks)) e;
  settles = settled most decls;
  own = λ own outer here ks. absurd own;
  own_starts = λ own ks. absurd own;
}

-- before the first statement
starts_kind : (most : Limits) (decls : List Decl) {depth : ℕ} (tokens : List Kind) {block : Block}
    → Writes most depth tokens block
    → parsed most (Between decls) tokens ≡ parsed most (Doing decls (Among [] [] Ready)) tokens
starts_kind most decls tokens Ends = refl
starts_kind most decls tokens _ = refl

-- declarations are read as their list
heads : (most : Limits) {front : List Kind} {decls : List Decl}
    → Declares front decls → (before : List Decl) (back : List Kind)
    → parsed most (Between before) (front ++ back) ≡ parsed most (Between (before ++ decls)) back
heads most NoMore before back = ap (λ z. parsed most (Between z) back) (sym (append-nil before))
heads most (Scalar {decls = decls} Public name rest) before back =
    heads most rest (before ++ declared Public name None ∷ []) back
    ∙ ap (λ z. parsed most (Between z) back) (append_assoc before (declared Public name None ∷ []) decls)
heads most (Scalar {decls = decls} Secret name rest) before back =
    heads most rest (before ++ declared Secret name None ∷ []) back
    ∙ ap (λ z. parsed most (Between z) back) (append_assoc before (declared Secret name None ∷ []) decls)
heads most (Array {decls = decls} Public name n rest) before back =
    heads most rest (before ++ declared Public name (Some n) ∷ []) back
    ∙ ap (λ z. parsed most (Between z) back) (append_assoc before (declared Public name (Some n) ∷ []) decls)
heads most (Array {decls = decls} Secret name n rest) before back =
    heads most rest (before ++ declared Secret name (Some n) ∷ []) back
    ∙ ap (λ z. parsed most (Between z) back) (append_assoc before (declared Secret name (Some n) ∷ []) decls)

-- a program's tokens are read as the program
pub sentence_parsed : {most : Limits} {tokens : List Kind} {source : Source}
    → Sentence most tokens source → parsed most (Between []) tokens ≡ Some source
sentence_parsed {most} (Program {front = front} {back = back} {decls = decls} {body = body} d w) =
    heads most d [] back ∙ (starts_kind most decls back w ∙
    (ap (λ z. parsed most (Doing decls (Among [] [] Ready)) z) (sym (append-nil back)) ∙
    (statements_read _ (statement_runs most decls) (written_spelled w) [] [] [] refl tt ∙
    ap (λ z. Some (record { decls = decls; body = z })) (block_again body))))
