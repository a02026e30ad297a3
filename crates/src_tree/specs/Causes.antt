-- The first error of a program as a relation: what is wrong, which declaration or statement has the error, and what
-- comes before it and isn't wrong (this project's profile). FirstFault.antt computes the same error.
use Rattle.std.specs.Prelude.{◌≡◌, ℕ, ◌+◌, ◌<◌, ◌≤◌, List, [], ◌∷◌, ◌++◌, length, Some}
use Rattle.std.specs.List.{AllByRecursion}
use Rattle.gr_base.specs.Lists.{EachAfter}
use Rattle.gr_word.specs.declared.variables.Label.{Label}
use Rattle.gr_word.specs.declared.variables.Label.TheVariants.{Public}
use Rattle.gr_word.specs.declared.variables.Shape.{Shape}
use Rattle.src_tree.specs.declared.trees.Decl.{Decl}
use Rattle.src_tree.specs.declared.faults.TypeError.{TypeError}
use Rattle.src_tree.specs.declared.faults.TypeError.TheVariants.{TwiceDeclared, Limit}
use Rattle.src_tree.specs.declared.faults.Which.TheVariants.{Variables, ArrayLength, TotalWords, Weight}
use Rattle.src_tree.specs.Trees.{Source}
use Rattle.src_tree.specs.Contexts.{context_of}
use Rattle.src_tree.specs.Statements.{in_order}
use Rattle.src_tree.specs.Typing.{DeclaredOnce, IsTyped}
use Rattle.src_tree.specs.Limits.{max_variables, max_words, max_weight, words_of, total_words, weight_of, LengthFits, LowBlock}
use Rattle.src_tree.specs.FirstFault.{StatementFault, IsFirstAt, shown_place, shown_number, typing_fault, height_fault}

-- declaration k is the first with an error, which may depend on the declarations before it
pub record IsFirstDeclaration (Faulty : List Decl → Decl → Type 0) (decls : List Decl) (k : ℕ) : Type 0 where
  pub before : List Decl
  pub declaration : Decl
  pub behind : List Decl
  pub parts : decls ≡ before ++ declaration ∷ behind
  pub place : length before ≡ k
  pub faulty : Faulty before declaration
  pub none_before : EachAfter (λ earlier d. Faulty earlier d → ⊥) [] before

-- a declaration has the name of an earlier one
-- Rule: source/twice.
abbrev pub IsNamedAgain : List Decl → Decl → Type 0
IsNamedAgain before d = (kind : Label × Shape) × (context_of before d.name ≡ Some kind)

-- an array has no words, or too many
-- Rule: source/limit-length.
abbrev pub HasBadLength : List Decl → Decl → Type 0
HasBadLength before d = LengthFits d.length → ⊥

-- the variables up to a declaration have too many words
-- Rule: source/limit-words.
abbrev pub PassesWords : List Decl → Decl → Type 0
PassesWords before d = max_words < total_words before + words_of d

-- statement k, in the order of first tokens, is the first with this error
abbrev pub IsFirstStatement : StatementFault → Source → ℕ → TypeError → Type 0
IsFirstStatement fault p k e = IsFirstAt fault 0 (in_order (context_of p.decls) Public p.body) k e

-- A program's first error: a name that is declared again; otherwise that of the first statement with an error of
-- typing; otherwise the first limit that is exceeded, in this order.
pub data IsFirstFault (p : Source) : TypeError → Type 0 where
  NamedAgain : (k : ℕ) → IsFirstDeclaration IsNamedAgain p.decls k → IsFirstFault p (TwiceDeclared (shown_place k))
  IllTyped : DeclaredOnce p.decls → (k : ℕ) (e : TypeError)
      → IsFirstStatement (typing_fault (context_of p.decls)) p k e → IsFirstFault p e
  ManyVariables : IsTyped p → max_variables < length p.decls
      → IsFirstFault p (Limit Variables (shown_number (length p.decls)))
  BadLength : IsTyped p → length p.decls ≤ max_variables → (k : ℕ) → IsFirstDeclaration HasBadLength p.decls k
      → IsFirstFault p (Limit ArrayLength (shown_number k))
  ManyWords : IsTyped p → length p.decls ≤ max_variables → AllByRecursion (λ d. LengthFits d.length) p.decls
      → (k : ℕ) → IsFirstDeclaration PassesWords p.decls k → IsFirstFault p (Limit TotalWords (shown_number k))
  HighExpression : IsTyped p → length p.decls ≤ max_variables → AllByRecursion (λ d. LengthFits d.length) p.decls
      → total_words p.decls ≤ max_words → (k : ℕ) (e : TypeError) → IsFirstStatement height_fault p k e
      → IsFirstFault p e
  HeavyBody : IsTyped p → length p.decls ≤ max_variables → AllByRecursion (λ d. LengthFits d.length) p.decls
      → total_words p.decls ≤ max_words → LowBlock p.body → max_weight < weight_of p
      → IsFirstFault p (Limit Weight (shown_number (weight_of p)))
