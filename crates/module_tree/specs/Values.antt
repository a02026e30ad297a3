-- The values of expressions. Words, operations and wrapping indexes are the core's. Every tree has a meaning: a name that
-- isn't declared has no words, and an element or a scalar of no words is 0. (The language of modules is this project's
-- own.)
use Rattle.std.specs.Prelude.{ℕ, ℤ, pos, if◌then◌else◌, List, [], ◌∷◌, bytes_eq, Option, Some, None}
use Rattle.module_tree.specs.Operators.{result, is_true}
use Rattle.module_tree.specs.Memory.{Memory, first_word, word_at, with_words}
use Rattle.module_tree.specs.Trees.{Expression, Number, Named, Element, LengthOf, Operation, Select, Call, Expressions, NoMore, More}

-- the number of the item that a name refers to
abbrev pub Names : Type 0
Names = List ℕ → Option ℕ

abbrev pub words_named : Memory → Option ℕ → List ℤ
words_named memory None = []
words_named memory (Some k) = memory k

abbrev pub size_named : (ℕ → ℕ) → Option ℕ → ℕ
size_named sizes None = 0
size_named sizes (Some k) = sizes k

abbrev pub with_named : Memory → Option ℕ → List ℤ → Memory
with_named memory None words = memory
with_named memory (Some k) words = with_words memory k words

-- the local variables of a call are a list, the latest declaration first
pub record LocalVariable : Type 0 where
  pub name : List ℕ
  pub word : ℤ

-- the word of a name: that of the latest local variable of that name, or the module's if there is none
abbrev pub read : Names → List LocalVariable → Memory → List ℕ → ℤ
read names [] memory x = first_word (words_named memory (names x))
read names (own ∷ frame) memory x = if bytes_eq x own.name then own.word else read names frame memory x

-- the local variables and the module's variables after an assignment to a name
abbrev pub frame_with : List LocalVariable → List ℕ → ℤ → List LocalVariable
frame_with [] x word = []
frame_with (own ∷ frame) x word =
    if bytes_eq x own.name then record { name = own.name; word = word } ∷ frame else own ∷ frame_with frame x word

abbrev pub memory_with : Names → List LocalVariable → Memory → List ℕ → ℤ → Memory
memory_with names [] memory x word = with_named memory (names x) (word ∷ [])
memory_with names (own ∷ frame) memory x word =
    if bytes_eq x own.name then memory else memory_with names frame memory x word

-- A value, and the iterations left after it. There is none if a called function has a loop that needs an iteration when
-- none is left. Evaluating an expression changes no variable.
pub record Valued : Type 0 where
  pub word : ℤ
  pub turns : ℕ

abbrev pub worth : ℤ → ℕ → Option Valued
worth word turns = Some (record { word = word; turns = turns })

abbrev pub for_value : {X : Type 0} → Option Valued → (ℤ → ℕ → Option X) → Option X
for_value None next = None
for_value (Some v) next = next v.word v.turns

-- an argument: its word, and the array that its name refers to
pub record Argument : Type 0 where
  pub word : ℤ
  pub array : Option ℕ

pub record Given : Type 0 where
  pub arguments : List Argument
  pub turns : ℕ

abbrev pub for_given : {X : Type 0} → Option Given → (List Argument → ℕ → Option X) → Option X
for_given None next = None
for_given (Some g) next = next g.arguments g.turns

abbrev pub array_of : Names → Expression → Option ℕ
array_of names (Named x) = names x
array_of names _ = None

-- what a call leaves: the word that it returns, the module's variables, and the iterations that are left
pub record Called : Type 0 where
  pub word : ℤ
  pub memory : Memory
  pub turns : ℕ

abbrev pub for_call : {X : Type 0} → Option Called → (ℤ → Memory → ℕ → Option X) → Option X
for_call None next = None
for_call (Some c) next = next c.word c.memory c.turns

-- what a call of each function does
abbrev pub Calls : Type 0
Calls = List ℕ → List Argument → Memory → ℕ → Option Called

-- the state between two statements: the local variables, the module's variables, and the iterations that are left
pub record State : Type 0 where
  pub frame : List LocalVariable
  pub memory : Memory
  pub turns : ℕ

module _ (sizes : ℕ → ℕ) (calls : Calls) (names : Names) where
  -- The value of an expression, whose parts are evaluated from left to right. Of a call in an expression only the word
  -- counts. What it does to the module's variables is dropped; the checks allow only calls that do nothing to them.
  abbrev mutual
    pub valued : List LocalVariable → Memory → Expression → ℕ → Option Valued
    valued frame memory (Number z) turns = worth z turns
    valued frame memory (Named x) turns = worth (read names frame memory x) turns
    valued frame memory (Element x i) turns =
        for_value (valued frame memory i turns) (λ index left. worth (word_at (words_named memory (names x)) index) left)
    valued frame memory (LengthOf x) turns = worth (pos (size_named sizes (names x))) turns
    valued frame memory (Operation operator a b) turns =
        for_value (valued frame memory a turns)
        (λ v left. for_value (valued frame memory b left) (λ w rest. worth (result operator v w) rest))
    valued frame memory (Select c a b) turns =
        for_value (valued frame memory c turns)
        (λ t left. for_value (valued frame memory a left)
        (λ v rest. for_value (valued frame memory b rest) (λ w end. worth (if is_true t then v else w) end)))
    valued frame memory (Call f es) turns =
        for_given (given frame memory es turns)
        (λ arguments left. for_call (calls f arguments memory left) (λ word changed rest. worth word rest))

    pub given : List LocalVariable → Memory → Expressions → ℕ → Option Given
    given frame memory NoMore turns = Some (record { arguments = []; turns = turns })
    given frame memory (More e es) turns =
        for_value (valued frame memory e turns)
        (λ word left. for_given (given frame memory es left)
        (λ others rest. Some (record {
          arguments = record { word = word; array = array_of names e } ∷ others;
          turns = rest;
        })))

  -- the right side of an assignment or of a return, which may be a call that changes the module's variables
  abbrev pub right_side : State → Expression → Option Called
  right_side s (Call f es) =
      for_given (given s.frame s.memory es s.turns) (λ arguments left. calls f arguments s.memory left)
  right_side s e =
      for_value (valued s.frame s.memory e s.turns)
      (λ word left. Some (record { word = word; memory = s.memory; turns = left }))
