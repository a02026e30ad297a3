-- The trees of modules, as contracts see them. Names are texts. (The language of modules is this project's own.)
use Rattle.std.specs.Prelude.{ℕ, ℤ, Bool, List, Option}
use Rattle.gr_word.specs.declared.variables.Label.{Label}
use Rattle.module_tree.specs.Operators.{Operator}

-- An expression: a number; a constant or a scalar; an element of an array or of a table; the length of one of these; an
-- operator with two operands; `test ? first : second`; a call.
mutual
  pub data Expression : Type 0 where
    Number : (value : ℤ) → Expression
    Named : (name : List ℕ) → Expression
    Element : (name : List ℕ) (index : Expression) → Expression
    LengthOf : (name : List ℕ) → Expression
    Operation : (operator : Operator) (left right : Expression) → Expression
    Select : (test first second : Expression) → Expression
    Call : (name : List ℕ) (arguments : Expressions) → Expression

  pub data Expressions : Type 0 where
    NoMore : Expressions
    More : (first : Expression) (rest : Expressions) → Expressions

-- A statement. A loop executes its body and then its step as long as its test is true. `Nested` is a block of its own,
-- which is how a `for` keeps the name that its head declares. `return;` returns 0. `Invoke` is a call as a statement.
mutual
  pub data Statement : Type 0 where
    Declare : (label : Option Label) (name : List ℕ) (value : Expression) → Statement
    SetVariable : (name : List ℕ) (value : Expression) → Statement
    SetElement : (name : List ℕ) (index value : Expression) → Statement
    Choice : (test : Expression) (first second : Block) → Statement
    Loop : (test : Expression) (body step : Block) → Statement
    Return : (value : Expression) → Statement
    Invoke : (name : List ℕ) (arguments : Expressions) → Statement
    Nested : (body : Block) → Statement

  pub data Block : Type 0 where
    Nothing : Block
    Then : (first : Statement) (rest : Block) → Block

-- a parameter: a word, or another name for an array of the caller
pub data Parameter : Type 0 where
  OfWord : (label : Option Label) (name : List ℕ) → Parameter
  OfArray : (name : List ℕ) → Parameter

pub record Function : Type 0 where
  pub name : List ℕ
  pub returns_word : Bool
  pub parameters : List Parameter
  pub body : Block

-- what the module's surroundings do with a variable, and its label
pub record Role : Type 0 where
  pub is_input : Bool
  pub is_output : Bool
  pub label : Label

-- An item: a constant; a table, whose words are constants; a scalar with its first word; an array with its length, and
-- with its first words if any are given.
pub data Item : Type 0 where
  Constant : (name : List ℕ) (value : Expression) → Item
  Table : (name : List ℕ) (length : Option Expression) (words : Expressions) → Item
  Scalar : (role : Role) (name : List ℕ) (first : Expression) → Item
  Array : (role : Role) (name : List ℕ) (length : Expression) (words : Expressions) → Item

-- a module: its items and its functions, both in the order of the text
pub record Module : Type 0 where
  pub items : List Item
  pub functions : List Function

-- the name of an item
abbrev pub name_of : Item → List ℕ
name_of (Constant x e) = x
name_of (Table x n es) = x
name_of (Scalar role x e) = x
name_of (Array role x n es) = x
