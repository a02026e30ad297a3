-- The open blocks of a state of statements are the open braces of its tokens.
use Rattle.std.proofs.Common.{◌≡◌, ℕ, ◌+◌, List, [], ◌∷◌, refl, sym, ap, ◌∙◌, arith}
use Rattle.std.specs.Prelude.{nat_lt}
use Rattle.src_lexer.specs.declared.tokens.Kind.{Kind}
use Rattle.src_tree.specs.Prelude.{Test}
use Rattle.src_parser.specs.Prelude.{Limits, Form, VariableSet, ElementSet, GuardRead, PartState, Still, Done, part_advanced, Makers, Outer, InFirst, InSecond, InLoop, Ready, MayElse, InPart, Guarded, Otherwise, Blocks, Among, depth_in, depth_of, leaving, between_statements, chosen, elsing, with_part, entering, otherwise, performed, Advance, Goes}
use Rattle.src_parser.proofs.Tokenwise.{Counted}
use Rattle.src_parser.proofs.Braces.{same_state, mapped_goes, braces_counted, part_counted}
use Rattle.src_lexer.specs.declared.tokens.Kind.TheVariants as kind

module _ {S : Type 0} (make : Makers S) (outside : ℕ) where
  same_count : (x y : Blocks S) → ◌≡◌ {A = Advance (Blocks S)} (Goes x) (Goes y)
      → depth_of outside y ≡ depth_of outside x
  same_count x y e = ap (depth_of outside) (sym (same_state x y e))

  leaving_counted : (outer : List (Outer S)) (here : List S) (next : Blocks S) → leaving make outer here ≡ Goes next
      → depth_in outside outer ≡ depth_of outside next + 1
  leaving_counted [] here next e = absurd (cc)
  leaving_counted (InFirst test before ∷ outer) here next e = let h = same_count _ next e in omega arith
  leaving_counted (InSecond test first before ∷ outer) here next e = let h = same_count _ next e in omega arith
  leaving_counted (InLoop test before ∷ outer) here next e = let h = same_count _ next e in omega arith

  pub beginning_counted : (most : ℕ) (outer : List (Outer S)) (here : List S) (k : Kind) (next : Blocks S)
      → between_statements make outer here k ≡ Goes next
      → Counted k most (depth_in outside outer) (depth_of outside next)
  beginning_counted most outer here (kind.Word name) next e = same_count _ next e
  beginning_counted most outer here kind.If next e = same_count _ next e
  beginning_counted most outer here kind.While next e = same_count _ next e
  beginning_counted most outer here kind.RBrace next e = leaving_counted outer here next e
  beginning_counted most outer here _ next e = absurd (cc)

  elsing_counted : (most : ℕ) (outer : List (Outer S)) (here : List S) (test : Test) (first : List S) (k : Kind)
      (next : Blocks S) → elsing make outer here test first k ≡ Goes next
      → Counted k most (depth_in outside outer) (depth_of outside next)
  elsing_counted most outer here test first kind.Else next e = same_count _ next e
  elsing_counted most outer here test first k next e =
      beginning_counted most outer (chosen make here test first) k next e

  part_count : (outer : List (Outer S)) (here : List S) (s : PartState)
      → depth_of outside (with_part make outer here s) ≡ depth_in outside outer
  part_count outer here (Still part) = refl
  part_count outer here (Done (VariableSet name value)) = refl
  part_count outer here (Done (ElementSet name index value)) = refl
  part_count outer here (Done (GuardRead form test)) = refl

  entering_counted : (most : Limits) (outer : List (Outer S)) (here : List S) (form : Form) (test : Test)
      (k : Kind) (next : Blocks S) → entering most outside outer here form test k ≡ Goes next
      → Counted k most.braces (depth_in outside outer) (depth_of outside next)
  entering_counted most outer here form test kind.LBrace next e =
      braces_counted (depth_of outside) most.braces (depth_in outside outer)
      (nat_lt (depth_in outside outer) most.braces) _ next refl (omega arith) e
  entering_counted most outer here form test _ next e = absurd (cc)

  otherwise_counted : (most : Limits) (outer : List (Outer S)) (here : List S) (test : Test) (first : List S)
      (k : Kind) (next : Blocks S) → otherwise most outside outer here test first k ≡ Goes next
      → Counted k most.braces (depth_in outside outer) (depth_of outside next)
  otherwise_counted most outer here test first kind.LBrace next e =
      braces_counted (depth_of outside) most.braces (depth_in outside outer)
      (nat_lt (depth_in outside outer) most.braces) _ next refl (omega arith) e
  otherwise_counted most outer here test first _ next e = absurd (cc)

  pub statements_counted : (most : Limits) (blocks : Blocks S) (k : Kind) (next : Blocks S)
      → performed make most outside blocks k ≡ Goes next
      → Counted k most.braces (depth_of outside blocks) (depth_of outside next)
  statements_counted most (Among outer here Ready) k next e = beginning_counted most.braces outer here k next e
  statements_counted most (Among outer here (MayElse test first)) k next e =
      elsing_counted most.braces outer here test first k next e
  statements_counted most (Among outer here (InPart part)) k next e =
      mapped_goes (with_part make outer here) (part_advanced most part k) next e
      (λ s is at. part_counted most part k s (depth_in outside outer) (depth_of outside next) is
      (ap (depth_of outside) (sym at) ∙ part_count outer here s))
  statements_counted most (Among outer here (Guarded form test)) k next e =
      entering_counted most outer here form test k next e
  statements_counted most (Among outer here (Otherwise test first)) k next e =
      otherwise_counted most outer here test first k next e
