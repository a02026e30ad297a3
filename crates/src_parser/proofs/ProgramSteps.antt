-- Steps of the parser: a token of the statements of a program, and one after the first block of a choice.
use Rattle.std.proofs.Common.{◌≡◌, List, refl, ap}
use Rattle.src_parser.specs.declared.states.Advance.{Advance}
use Rattle.src_tree.specs.declared.trees.Decl.{Decl}
use Rattle.src_lexer.specs.declared.tokens.Kind.{Kind}
use Rattle.src_tree.specs.Prelude.{Statement, Test}
use Rattle.src_parser.specs.Prelude.{Makers, Outer, Blocks, Doing, advance_of, between_statements, chosen, elsing, mapped}
use Rattle.src_parser.specs.Tokenwise as tokenwise
use Rattle.src_lexer.specs.declared.tokens.Kind.TheVariants as kind
use Rattle.src_parser.specs.declared.states.Advance.TheVariants as advance

pub in_program : (t : Advance) (decls : List Decl) (blocks : Blocks Statement)
    (a : tokenwise.Advance (Blocks Statement)) → advance_of t blocks ≡ a
    → advance_of t (Doing decls blocks) ≡ mapped (Doing decls) a
in_program advance.Goes decls blocks a e = ap (mapped (Doing decls)) e
in_program advance.Wrong decls blocks a e = ap (mapped (Doing decls)) e
in_program advance.TooMuch decls blocks a e = ap (mapped (Doing decls)) e

-- any token but `else` after the first block of a choice
pub without_else : {S : Type 0} (make : Makers S) (outer : List (Outer S)) (here : List S) (test : Test)
    (first : List S) (k : Kind) → (k ≡ kind.Else → ⊥)
    → elsing make outer here test first k ≡ between_statements make outer (chosen make here test first) k
without_else make outer here test first kind.Else h = absurd (h refl)
without_else make outer here test first _ h = refl
