-- Only for the proofs and for private clauses: the tree of the program that the sample's text parses as.
use Rattle.std.specs.Prelude.{ℕ, pos, List, [], ◌∷◌, codes, Option, Some, None}
use Rattle.gr_word.specs.declared.operations.Op.TheVariants.{Add, Rem}
use Rattle.gr_word.specs.declared.operations.Cmp.TheVariants.{Lt}
use Rattle.gr_word.specs.declared.variables.Label.{Label}
use Rattle.gr_word.specs.declared.variables.Label.TheVariants.{Public, Secret}
use Rattle.src_tree.specs.declared.trees.Decl.{Decl}
use Rattle.src_tree.specs.Trees.{Number, Variable, Element, Operation, Test, Block, Nothing, Then, SetVariable, SetElement, Loop, Source}

abbrev pub declared : List ℕ → Label → Option ℕ → Decl
declared name label length = record { name = name; label = label; length = length }

abbrev pub sample_decls : ℕ → List Decl
sample_decls n =
    declared (codes "i") Public None
    ∷ declared (codes "a") Secret (Some n)
    ∷ declared (codes "c") Secret (Some 16)
    ∷ declared (codes "t") Secret None
    ∷ []

abbrev pub sample_test : ℕ → Test
sample_test n = record { cmp = Lt; left = Variable (codes "i"); right = Number (pos n) }

abbrev pub sample_turn : Block
sample_turn =
    Then (SetVariable (codes "t") (Operation Rem (Element (codes "a") (Variable (codes "i"))) (Number (pos 16))))
    (Then (SetElement (codes "c") (Variable (codes "t"))
    (Operation Add (Element (codes "c") (Variable (codes "t"))) (Number (pos 1))))
    (Then (SetVariable (codes "i") (Operation Add (Variable (codes "i")) (Number (pos 1)))) Nothing))

abbrev pub sample_body : ℕ → Block
sample_body n = Then (SetVariable (codes "i") (Number (pos 0))) (Then (Loop (sample_test n) sample_turn) Nothing)

abbrev pub sample_program : ℕ → Source
sample_program n = record { decls = sample_decls n; body = sample_body n }
