-- The open blocks of a state are the open braces of its tokens.
use Rattle.std.proofs.Common.{◌≡◌, ℕ, List, [], refl, sym, ap, ◌∙◌, subst}
use Rattle.src_lexer.specs.declared.tokens.Kind.{Kind}
use Rattle.src_tree.specs.declared.trees.Decl.{Decl}
use Rattle.src_parser.specs.Prelude.{Limits, HeadingState, Begun, Declared, heading_advanced, between_statements, performed, depth_of, Goes, ParserState, Between, Declaring, Doing, programs, between, with_heading, advanced, open_braces}
use Rattle.src_parser.proofs.Tokenwise.{Counted}
use Rattle.src_parser.proofs.Braces.{same_state, mapped_goes, heading_counted}
use Rattle.src_parser.proofs.StatementBraces.{beginning_counted, statements_counted}
use Rattle.src_lexer.specs.declared.tokens.Kind.TheVariants as kind

same_count : (x y : ParserState) → Goes x ≡ Goes y → open_braces y ≡ open_braces x
same_count x y e = ap open_braces (sym (same_state x y e))

between_counted : (most : ℕ) (decls : List Decl) (k : Kind) (next : ParserState)
    → between decls k ≡ Goes next → Counted k most 0 (open_braces next)
between_counted most decls kind.Public next e = same_count _ next e
between_counted most decls kind.Secret next e = same_count _ next e
between_counted most decls k next e =
    mapped_goes (Doing decls) (between_statements programs [] [] k) next e
    (λ x is at. subst (λ z. Counted k most 0 (open_braces z)) at (beginning_counted programs 0 most [] [] k x is))

heading_count : (decls : List Decl) (s : HeadingState) → open_braces (with_heading decls s) ≡ 0
heading_count decls (Begun heading) = refl
heading_count decls (Declared decl) = refl

pub counted : (most : Limits) (state : ParserState) (k : Kind) (next : ParserState)
    → advanced most state k ≡ Goes next → Counted k most.braces (open_braces state) (open_braces next)
counted most (Between decls) k next e = between_counted most.braces decls k next e
counted most (Declaring decls heading) k next e =
    mapped_goes (with_heading decls) (heading_advanced heading k) next e
    (λ s is at. heading_counted most.braces heading k s 0 (open_braces next) is
    (ap open_braces (sym at) ∙ heading_count decls s))
counted most (Doing decls blocks) k next e =
    mapped_goes (Doing decls) (performed programs most 0 blocks k) next e
    (λ x is at. subst (λ z. Counted k most.braces (depth_of 0 blocks) (open_braces z)) at
    (statements_counted programs 0 most blocks k x is))
