-- Each state to which tokens lead has read these tokens, and they can be completed to a program.
use Rattle.std.proofs.Common.{◌≡◌, ◌<◌, List, [], ◌∷◌, ◌++◌, sym, subst, append_assoc}
use Rattle.src_lexer.specs.declared.tokens.Kind.{Kind}
use Rattle.src_tree.specs.declared.trees.Decl.{Decl}
use Rattle.src_tree.specs.Prelude.{Statement, Nothing, block_of}
use Rattle.src_parser.specs.Prelude.{Limits, Ends, Declares, Sentence, Program, Heading, Blocks, ParserState, Between, Declaring, Doing, programs, open_braces}
use Rattle.src_parser.proofs.HeadingTokens.{declares_both, Heads, rest_of, heading_completes}
use Rattle.src_parser.proofs.StatementsStanding.{StatementsStand, Completed, statements_complete}
use Rattle.src_parser.proofs.Written.{NoOwn, spelled_written}
use Rattle.src_parser.specs.Tokenwise as tokenwise

-- these tokens lead to this state
pub data Standing (most : Limits) : ParserState → List Kind → Type 0 where
  InBetween : {decls : List Decl} {front : List Kind} → Declares front decls
      → Standing most (Between decls) front
  InHeading : {decls : List Decl} {heading : Heading} {front us : List Kind}
      → Declares front decls → Heads heading us → Standing most (Declaring decls heading) (front ++ us)
  InStatements : {decls : List Decl} {blocks : Blocks Statement} {front us : List Kind}
      → Declares front decls → StatementsStand programs NoOwn most 0 blocks us
      → Standing most (Doing decls blocks) (front ++ us)

-- with some more tokens, these are a program
abbrev pub Completes : Limits → List Kind → Type 0
Completes = tokenwise.Completes Sentence

completes_at : {most : Limits} (xs ys : List Kind) → xs ≡ ys → Completes most xs → Completes most ys
completes_at {most} xs ys e c = subst (λ z. Completes most z) e c

shorter : {most : Limits} (ts us : List Kind) → Completes most (ts ++ us) → Completes most ts
shorter {most} ts us c = record {
  more = us ++ c.more;
  tree = c.tree;
  sentence = subst (λ z. Sentence most z c.tree) (append_assoc ts us c.more) c.sentence;
}

declared_completes : {most : Limits} {decls : List Decl} {front : List Kind} → Declares front decls
    → Completes most front
declared_completes {most} {decls} {front} d = record {
  more = [];
  tree = record { decls = decls; body = Nothing };
  sentence = Program d Ends;
}

completed : {most : Limits} {decls : List Decl} {front us : List Kind} → Declares front decls
    → Completed programs NoOwn most 0 us → Completes most (front ++ us)
completed {most} {decls} {front} {us} d c = record {
  more = c.more;
  tree = record { decls = decls; body = block_of c.statements };
  sentence = subst (λ z. Sentence most z (record { decls = decls; body = block_of c.statements }))
      (sym (append_assoc front us c.more)) (Program d (spelled_written c.spelled));
}

-- tokens that lead to a state within the limit of braces can be completed to a program
pub standing_completes : {most : Limits} {state : ParserState} {tokens : List Kind}
    → Standing most state tokens → open_braces state < most.braces → Completes most tokens
standing_completes (InBetween d) room = declared_completes d
standing_completes (InHeading {heading = heading} {front = front} {us = us} d h) room =
    shorter (front ++ us) (rest_of heading (120 ∷ []))
    (completes_at _ _ (sym (append_assoc front us (rest_of heading (120 ∷ []))))
    (declared_completes (declares_both d (heading_completes h (120 ∷ [])))))
standing_completes (InStatements d s) room = completed d (statements_complete s room)
