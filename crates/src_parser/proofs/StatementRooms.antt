-- The effect of a token of statements depends on the limits in only one way: it is read if there is room.
use Rattle.std.proofs.Common.{◌≢◌, ℕ, List, [], ◌∷◌}
use Rattle.src_lexer.specs.declared.tokens.Kind.{Kind}
use Rattle.src_tree.specs.Prelude.{Test}
use Rattle.src_parser.specs.Prelude.{Form, Makers, Outer, InFirst, Ready, MayElse, InPart, Guarded, Otherwise, Blocks, Among, depth_in, depth_of, leaving, between_statements, chosen, elsing, with_part, entering, otherwise, performed, Wrong, TooMuch}
use Rattle.src_parser.proofs.Tokenwise.{Shape}
use Rattle.src_parser.proofs.Rooms.{constant, wrong_not_much, brace_room, mapped_shape, part_shape}
use Rattle.src_lexer.specs.declared.tokens.Kind.TheVariants as kind

module _ {S : Type 0} (make : Makers S) where
  leaving_not : (outer : List (Outer S)) (here : List S) → leaving make outer here ≢ TooMuch
  leaving_not [] here e = absurd (cc)
  leaving_not (InFirst test before ∷ outer) here e = absurd (cc)
  leaving_not (_ ∷ outer) here e = absurd (cc)

  pub beginning_not : (outer : List (Outer S)) (here : List S) (k : Kind)
      → between_statements make outer here k ≢ TooMuch
  beginning_not outer here kind.RBrace e = leaving_not outer here e
  beginning_not outer here _ e = absurd (cc)

  elsing_not : (outer : List (Outer S)) (here : List S) (test : Test) (first : List S) (k : Kind)
      → elsing make outer here test first k ≢ TooMuch
  elsing_not outer here test first kind.Else e = absurd (cc)
  elsing_not outer here test first k e = beginning_not outer (chosen make here test first) k e

  entering_shape : (outside : ℕ) (outer : List (Outer S)) (here : List S) (form : Form) (test : Test) (k : Kind)
      → Shape (Blocks S) k (depth_in outside outer) (λ most. entering most outside outer here form test k)
  entering_shape outside outer here form test kind.LBrace = brace_room (depth_in outside outer) _
  entering_shape outside outer here form test _ = constant Wrong wrong_not_much

  otherwise_shape : (outside : ℕ) (outer : List (Outer S)) (here : List S) (test : Test) (first : List S)
      (k : Kind) → Shape (Blocks S) k (depth_in outside outer) (λ most. otherwise most outside outer here test first k)
  otherwise_shape outside outer here test first kind.LBrace = brace_room (depth_in outside outer) _
  otherwise_shape outside outer here test first _ = constant Wrong wrong_not_much

  pub statements_shape : (outside : ℕ) (blocks : Blocks S) (k : Kind)
      → Shape (Blocks S) k (depth_of outside blocks) (λ most. performed make most outside blocks k)
  statements_shape outside (Among outer here Ready) k = constant _ (beginning_not outer here k)
  statements_shape outside (Among outer here (MayElse test first)) k = constant _ (elsing_not outer here test first k)
  statements_shape outside (Among outer here (InPart part)) k =
      mapped_shape (with_part make outer here) (part_shape part k (depth_in outside outer))
  statements_shape outside (Among outer here (Guarded form test)) k = entering_shape outside outer here form test k
  statements_shape outside (Among outer here (Otherwise test first)) k =
      otherwise_shape outside outer here test first k
