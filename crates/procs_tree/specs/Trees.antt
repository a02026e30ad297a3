-- The trees of files with procedures, as contracts see them: the statements of the source language and calls.
use Rattle.std.specs.Prelude.{ℕ, List}
use Rattle.gr_word.specs.declared.variables.Label.{Label}
use Rattle.src_tree.specs.declared.trees.Decl.{Decl}
use Rattle.src_tree.specs.Trees.{Tree, Test}

mutual
  pub data Statement : Type 0 where
    SetVariable : (name : List ℕ) (value : Tree) → Statement
    SetElement : (name : List ℕ) (index value : Tree) → Statement
    Choice : (test : Test) (first second : Block) → Statement
    Loop : (test : Test) (body : Block) → Statement
    Call : (name : List ℕ) (arguments : List Tree) → Statement

  pub data Block : Type 0 where
    Nothing : Block
    Then : (first : Statement) (rest : Block) → Block

-- a parameter: a value, or another name of the caller's variable
pub data Parameter : Type 0 where
  OfValue : (label : Label) (name : List ℕ) → Parameter
  OfVariable : (name : List ℕ) → Parameter

pub record Procedure : Type 0 where
  pub name : List ℕ
  pub parameters : List Parameter
  pub locals : List Decl
  pub body : Block

pub record File : Type 0 where
  pub decls : List Decl
  pub procedures : List Procedure
  pub body : Block
