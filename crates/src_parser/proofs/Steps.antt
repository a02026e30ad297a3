-- A token that is read leads from one state to another, and a complete program is a sentence of the grammar.
use Rattle.std.proofs.Common.{◌≡◌, List, [], ◌∷◌, ◌++◌, Option, Some, None, refl, sym, subst, append_assoc}
use Rattle.std.specs.Prelude.{option_map}
use Rattle.std.proofs.lemmas.List.{append-nil}
use Rattle.gr_word.specs.declared.variables.Label.TheVariants.{Public, Secret}
use Rattle.src_lexer.specs.declared.tokens.Kind.{Kind}
use Rattle.src_tree.specs.declared.trees.Decl.{Decl}
use Rattle.src_tree.specs.Prelude.{Statement, Source}
use Rattle.src_parser.specs.Prelude.{Limits, Ends, Declares, NoMore, Sentence, Program, HeadingState, Begun, Declared, heading_advanced, Blocks, between_statements, performed, complete_of, Goes, mapped, ParserState, Between, Doing, programs, between, with_heading, advanced, source_made, program_of}
use Rattle.src_parser.proofs.Braces.{mapped_goes}
use Rattle.src_parser.proofs.HeadingTokens.{declares_both, IsLabelled, HeadingStands, heading_steps}
use Rattle.src_parser.proofs.Spelled.{Spelled, NoneLeft}
use Rattle.src_parser.proofs.Standing.{Standing, InBetween, InHeading, InStatements}
use Rattle.src_parser.proofs.StatementsStanding.{StatementsStand, Top, complete_spelled}
use Rattle.src_parser.proofs.StatementSteps.{beginning_stands, statements_step}
use Rattle.src_parser.proofs.Written.{NoOwn, spelled_written}
use Rattle.src_lexer.specs.declared.tokens.Kind.TheVariants as kind

went : {most : Limits} {tokens : List Kind} (x y : ParserState)
    → Goes x ≡ Goes y → Standing most x tokens → Standing most y tokens
went {most} {tokens} x y e s = subst (λ z. Standing most z tokens) (let f : x ≡ y = cc in f) s

standing_at : {most : Limits} {x : ParserState} (ts us : List Kind) → ts ≡ us → Standing most x ts
    → Standing most x us
standing_at {most} {x} ts us e s = subst (λ z. Standing most x z) e s

-- a token of the statements
doing_stands : {most : Limits} {decls : List Decl} {front : List Kind} (us : List Kind)
    → Declares front decls → (k : Kind) (x : Blocks Statement) → StatementsStand programs NoOwn most 0 x (us ++ k ∷ [])
    → (next : ParserState) → Doing decls x ≡ next → Standing most next ((front ++ us) ++ k ∷ [])
doing_stands {most} {front = front} us d k x s next e =
    subst (λ z. Standing most z ((front ++ us) ++ k ∷ [])) e
    (standing_at _ _ (sym (append_assoc front us (k ∷ []))) (InStatements d s))

begin_stands : {most : Limits} {decls : List Decl} {front : List Kind} → Declares front decls → (k : Kind)
    (next : ParserState) → mapped (Doing decls) (between_statements programs [] [] k) ≡ Goes next
    → Standing most next (front ++ k ∷ [])
begin_stands {most} {decls} {front} d k next e =
    mapped_goes (Doing decls) (between_statements programs [] [] k) next e
    (λ x is at. subst (λ z. Standing most z (front ++ k ∷ [])) at (InStatements d
    (beginning_stands {make = programs} {Own = NoOwn} {outside = 0} {ts = []} (Top NoneLeft) k x is)))

between_stands : {most : Limits} {decls : List Decl} {front : List Kind} → Declares front decls
    → (k : Kind) (next : ParserState) → between decls k ≡ Goes next → Standing most next (front ++ k ∷ [])
between_stands d kind.Public next e = went _ next e (InHeading d (IsLabelled Public))
between_stands d kind.Secret next e = went _ next e (InHeading d (IsLabelled Secret))
between_stands d k next e = begin_stands d k next e

-- a declaration that has begun, or one more that is complete
declaration_stands : {most : Limits} {decls : List Decl} {front : List Kind} (us : List Kind)
    → Declares front decls
    → (s : HeadingState) → HeadingStands s us → Standing most (with_heading decls s) (front ++ us)
declaration_stands us d (Begun heading) h = InHeading d h
declaration_stands us d (Declared decl) h = InBetween (declares_both d h)

heading_stands : {most : Limits} {decls : List Decl} {front : List Kind} (us : List Kind)
    → Declares front decls
    → (k : Kind) (s : HeadingState) → HeadingStands s (us ++ k ∷ []) → (next : ParserState)
    → with_heading decls s ≡ next → Standing most next ((front ++ us) ++ k ∷ [])
heading_stands {most} {front = front} us d k s h next e =
    subst (λ z. Standing most z ((front ++ us) ++ k ∷ [])) e
    (standing_at _ _ (sym (append_assoc front us (k ∷ []))) (declaration_stands (us ++ k ∷ []) d s h))

-- a token that is read
pub steps : {most : Limits} {state : ParserState} {tokens : List Kind} → Standing most state tokens
    → (k : Kind) (next : ParserState) → advanced most state k ≡ Goes next → Standing most next (tokens ++ k ∷ [])
steps (InBetween d) k next e = between_stands d k next e
steps (InHeading {decls = decls} {heading = heading} d h) k next e =
    mapped_goes (with_heading decls) (heading_advanced heading k) next e
    (λ s is at. heading_stands _ d k s (heading_steps h k s is) next at)
steps {most} (InStatements {decls = decls} {blocks = blocks} {us = us} d s) k next e =
    mapped_goes (Doing decls) (performed programs most 0 blocks k) next e
    (λ x is at. doing_stands us d k x (statements_step s k x is) next at)

-- before the first token
pub nothing_read : {most : Limits} → Standing most (Between []) []
nothing_read = InBetween NoMore

sentence_at : {most : Limits} {source : Source} (xs ys : List Kind)
    → xs ≡ ys → Sentence most xs source → Sentence most ys source
sentence_at {most} {source} xs ys e s = subst (λ z. Sentence most z source) e s

whole : {most : Limits} {decls : List Decl} {front us : List Kind} → Declares front decls → (source : Source)
    (o : Option (List Statement)) → ((ss : List Statement) → o ≡ Some ss → Spelled programs NoOwn most 0 us ss)
    → option_map (source_made decls) o ≡ Some source → Sentence most (front ++ us) source
whole d source None spelled e = absurd (cc)
whole {most} {decls} {front} {us} d source (Some ss) spelled e =
    let f : source_made decls ss ≡ source = cc in
    subst (λ z. Sentence most (front ++ us) z) f (Program d (spelled_written (spelled ss refl)))

-- a state with a complete program has read its tokens
pub finished : {most : Limits} {state : ParserState} {tokens : List Kind}
    → Standing most state tokens → (source : Source) → program_of state ≡ Some source → Sentence most tokens source
finished {most} (InBetween {decls = decls} {front = front} d) source e =
    let f : source_made decls [] ≡ source = cc in
    subst (λ z. Sentence most front z) f (sentence_at _ _ (append-nil front) (Program d Ends))
finished (InHeading d h) source e = absurd (cc)
finished (InStatements {blocks = blocks} d s) source e =
    whole d source (complete_of programs blocks) (λ ss is. complete_spelled s ss is) e
