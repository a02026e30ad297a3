-- The canonical text of a program: each operation is in parentheses, each `if` has a second block, a line feed follows
-- each `;`, `{` and `}`, and a space follows each other token (this project's profile).
use Rattle.std.specs.Prelude.{ℕ, List, [], ◌∷◌, ◌++◌, Option, Some, None, codes, decimal}
use Rattle.std.specs.Fmt.{signed_decimal}
use Rattle.gr_word.specs.declared.operations.Op.{Op}
use Rattle.gr_word.specs.declared.operations.Op.TheVariants.{Add, Sub, Mul, Div, Rem, Remu, And, Or, Xor, Shl, Shr}
use Rattle.gr_word.specs.declared.operations.Cmp.{Cmp}
use Rattle.gr_word.specs.declared.operations.Cmp.TheVariants.{Eq, Ne, Lt, Le, Gt, Ge}
use Rattle.gr_word.specs.declared.variables.Label.{Label}
use Rattle.gr_word.specs.declared.variables.Label.TheVariants.{Public, Secret}
use Rattle.src_tree.specs.declared.trees.Decl.{Decl}
use Rattle.src_tree.specs.Trees.{Tree, Number, Variable, Element, Operation, Test, Statement, SetVariable, SetElement, Choice, Loop, Block, Nothing, Then, Source}

-- a token and a space, and a token and a line feed
abbrev pub spaced : List ℕ → List ℕ
spaced token = token ++ 32 ∷ []

abbrev pub line_of_token : List ℕ → List ℕ
line_of_token token = token ++ 10 ∷ []

-- the source language has every operation except Remu
abbrev pub op_sign : Op → List ℕ
op_sign Add = codes "+"
op_sign Sub = codes "-"
op_sign Mul = codes "*"
op_sign Div = codes "/"
op_sign Rem = codes "%"
op_sign Remu = codes "remu"
op_sign And = codes "&"
op_sign Or = codes "|"
op_sign Xor = codes "^"
op_sign Shl = codes "<<"
op_sign Shr = codes ">>"

abbrev pub cmp_sign : Cmp → List ℕ
cmp_sign Eq = codes "=="
cmp_sign Ne = codes "!="
cmp_sign Lt = codes "<"
cmp_sign Le = codes "<="
cmp_sign Gt = codes ">"
cmp_sign Ge = codes ">="

abbrev pub label_keyword : Label → List ℕ
label_keyword Public = codes "public"
label_keyword Secret = codes "secret"

abbrev pub tree_text : Tree → List ℕ
tree_text (Number z) = spaced (signed_decimal z)
tree_text (Variable x) = spaced x
tree_text (Element x i) = spaced x ++ (spaced (codes "[") ++ (tree_text i ++ spaced (codes "]")))
tree_text (Operation op a b) =
    spaced (codes "(") ++ (tree_text a ++ (spaced (op_sign op) ++ (tree_text b ++ spaced (codes ")"))))

-- a guard between parentheses
abbrev pub test_text : Test → List ℕ
test_text t =
    spaced (codes "(") ++ (tree_text t.left ++ (spaced (cmp_sign t.cmp) ++ (tree_text t.right ++ spaced (codes ")"))))

-- a block between braces
abbrev pub in_braces : List ℕ → List ℕ
in_braces text = line_of_token (codes "{") ++ (text ++ line_of_token (codes "}"))

abbrev mutual
  pub statement_text : Statement → List ℕ
  statement_text (SetVariable x e) = spaced x ++ (spaced (codes "=") ++ (tree_text e ++ line_of_token (codes ";")))
  statement_text (SetElement x i e) =
      spaced x ++ (spaced (codes "[")
      ++ (tree_text i ++ (spaced (codes "]") ++ (spaced (codes "=") ++ (tree_text e ++ line_of_token (codes ";"))))))
  statement_text (Choice t a b) =
      spaced (codes "if")
      ++ (test_text t ++ (in_braces (block_text a) ++ (spaced (codes "else") ++ in_braces (block_text b))))
  statement_text (Loop t a) = spaced (codes "while") ++ (test_text t ++ in_braces (block_text a))

  pub block_text : Block → List ℕ
  block_text Nothing = []
  block_text (Then s rest) = statement_text s ++ block_text rest

-- the length of an array between brackets
abbrev pub size_text : Option ℕ → List ℕ
size_text None = []
size_text (Some n) = spaced (codes "[") ++ (spaced (decimal n) ++ spaced (codes "]"))

abbrev pub decl_text : Decl → List ℕ
decl_text d =
    spaced (label_keyword d.label)
    ++ (spaced (codes "int") ++ (spaced d.name ++ (size_text d.length ++ line_of_token (codes ";"))))

abbrev pub decls_text : List Decl → List ℕ
decls_text [] = []
decls_text (d ∷ ds) = decl_text d ++ decls_text ds

abbrev pub source_text : Source → List ℕ
source_text p = decls_text p.decls ++ block_text p.body
