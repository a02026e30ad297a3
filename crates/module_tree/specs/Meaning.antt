-- The meaning of a module: the words of its variables when `main` ends, if its loops may iterate a given number of times
-- in all. A call of an unknown function returns 0 and does nothing. (The language of modules is this project's own.)
use Rattle.std.specs.Prelude.{ℕ, suc, zero, ℤ, pos, if◌then◌else◌, List, [], ◌∷◌, length, drop, bytes_eq, Option, Some, None}
use Rattle.std.specs.Option.{option_map, unwrap_or}
use Rattle.module_tree.specs.Operators.{is_true}
use Rattle.module_tree.specs.Memory.{Memory, with_word}
use Rattle.module_tree.specs.Trees.{Call, Statement, Declare, SetVariable, SetElement, Choice, Loop, Return, Invoke, Nested, Block, Nothing, Then, Parameter, OfWord, OfArray, Function, Module}
use Rattle.module_tree.specs.Values.{Names, words_named, with_named, LocalVariable, frame_with, memory_with, Valued, for_value, Argument, Called, for_call, Calls, State, valued, right_side}
use Rattle.module_tree.specs.FirstWords.{number_named, at_start, sizes_of}

-- The end of an execution: a state, and the word if it is returned. There is none if a loop needed an iteration when
-- none was left.
pub record Ended : Type 0 where
  pub state : State
  pub returned : Option ℤ

abbrev pub Execution : Type 0
Execution = State → Option Ended

abbrev pub ended : List LocalVariable → Memory → ℕ → Option ℤ → Option Ended
ended frame memory turns returned =
    Some (record { state = record { frame = frame; memory = memory; turns = turns }; returned = returned })

-- one execution and then another, unless the first returned
abbrev pub unless_returned : Execution → State → Option ℤ → Option Ended
unless_returned rest s None = rest s
unless_returned rest s (Some word) = Some (record { state = s; returned = Some word })

abbrev pub for_end : Option Ended → Execution → Option Ended
for_end None rest = None
for_end (Some e) rest = unless_returned rest e.state e.returned

abbrev pub in_turn : Execution → Execution → Execution
in_turn first second s = for_end (first s) second

abbrev pub turn_taken : Execution → Execution → List LocalVariable → Memory → ℕ → Option Ended
turn_taken body rest frame memory zero = None
turn_taken body rest frame memory (suc turns) =
    in_turn body rest (record { frame = frame; memory = memory; turns = turns })

-- A loop that iterates at most `most` times. That is no bound if no more iterations than that are left.
unfoldable pub looped : (State → Option Valued) → Execution → ℕ → Execution
looped test body zero s =
    for_value (test s) (λ word left. if is_true word then None else ended s.frame s.memory left None)
looped test body (suc most) s =
    for_value (test s)
    (λ word left. if is_true word then turn_taken body (looped test body most) s.frame s.memory left
    else ended s.frame s.memory left None)

-- the end of a scope, which drops the latest local variable
abbrev pub forgotten : Option Ended → Option Ended
forgotten None = None
forgotten (Some e) = ended (drop 1 e.state.frame) e.state.memory e.state.turns e.returned

module _ (sizes : ℕ → ℕ) (calls : Calls) (names : Names) where
  -- The execution of statements. A declared variable is in scope up to the end of its block.
  abbrev mutual
    pub run_of : Statement → Execution
    run_of (Declare label x e) s =
        for_call (right_side sizes calls names s e) (λ word memory left. ended s.frame memory left None)
    run_of (SetVariable x e) s =
        for_call (right_side sizes calls names s e)
        (λ word memory left. ended (frame_with s.frame x word) (memory_with names s.frame memory x word) left None)
    run_of (SetElement x i e) s =
        for_call (right_side sizes calls names s e)
        (λ word memory left. for_value (valued sizes calls names s.frame memory i left)
        (λ index rest.
        ended s.frame (with_named memory (names x) (with_word (words_named memory (names x)) index word)) rest None))
    run_of (Choice t a b) s =
        for_value (valued sizes calls names s.frame s.memory t s.turns)
        (λ word left. if is_true word then run_of_block a (record s { turns = left })
        else run_of_block b (record s { turns = left }))
    run_of (Loop t body step) s =
        looped (λ now. valued sizes calls names now.frame now.memory t now.turns) (in_turn (run_of_block body) (run_of_block step))
        s.turns s
    run_of (Return e) s =
        for_call (right_side sizes calls names s e) (λ word memory left. ended s.frame memory left (Some word))
    run_of (Invoke f es) s =
        for_call (right_side sizes calls names s (Call f es)) (λ word memory left. ended s.frame memory left None)
    run_of (Nested body) s = run_of_block body s

    pub run_of_block : Block → Execution
    run_of_block Nothing s = ended s.frame s.memory s.turns None
    run_of_block (Then (Declare label x e) rest) s =
        for_call (right_side sizes calls names s e)
        (λ word memory left. forgotten
        (run_of_block rest (record { frame = record { name = x; word = word } ∷ s.frame; memory = memory; turns = left })))
    run_of_block (Then first rest) s = in_turn (run_of first) (run_of_block rest) s

-- the local variables at the start of a call, and the items that names refer to in it; missing arguments are 0
abbrev pub frame_of : List Parameter → List Argument → List LocalVariable
frame_of [] arguments = []
frame_of (OfWord label x ∷ ps) [] = record { name = x; word = pos 0 } ∷ frame_of ps []
frame_of (OfWord label x ∷ ps) (a ∷ others) = record { name = x; word = a.word } ∷ frame_of ps others
frame_of (OfArray x ∷ ps) [] = frame_of ps []
frame_of (OfArray x ∷ ps) (a ∷ others) = frame_of ps others

abbrev pub names_of : Names → List Parameter → List (Option ℕ) → Names
names_of all (OfWord label x ∷ ps) (a ∷ others) name = names_of all ps others name
names_of all (OfArray x ∷ ps) (a ∷ others) name = if bytes_eq name x then a else names_of all ps others name
names_of all _ _ name = all name

abbrev pub arrays_in : List Argument → List (Option ℕ)
arrays_in [] = []
arrays_in (a ∷ others) = a.array ∷ arrays_in others

-- what a call leaves; without a return it returns 0
abbrev pub left_by : Option Ended → Option Called
left_by None = None
left_by (Some e) =
    Some (record { word = unwrap_or e.returned (pos 0); memory = e.state.memory; turns = e.state.turns })

-- a call of a function, from what the calls in its body do
abbrev pub called : (ℕ → ℕ) → Names → Calls → Option Function → List Argument → Memory → ℕ → Option Called
called sizes all calls None arguments memory turns =
    Some (record { word = pos 0; memory = memory; turns = turns })
called sizes all calls (Some f) arguments memory turns =
    left_by
    (run_of_block sizes calls (names_of all f.parameters (arrays_in arguments)) f.body
    (record { frame = frame_of f.parameters arguments; memory = memory; turns = turns }))

abbrev pub function_named : List Function → List ℕ → Option Function
function_named [] name = None
function_named (f ∷ functions) name = if bytes_eq name f.name then Some f else function_named functions name

-- Calls that are nested at most `depth` deep; deeper calls return 0 and do nothing. No function calls itself, directly or
-- through others, so calls are nested at most as deep as there are functions.
unfoldable pub calls_at : (ℕ → ℕ) → Module → ℕ → Calls
calls_at sizes m zero name arguments memory turns =
    Some (record { word = pos 0; memory = memory; turns = turns })
calls_at sizes m (suc depth) name arguments memory turns =
    called sizes (number_named m.items) (calls_at sizes m depth) (function_named m.functions name) arguments memory turns

-- the module's variables when `main` ends; nothing if the iterations don't suffice
abbrev pub module_meaning : Module → List ℕ → (ℕ → Option (List ℤ)) → ℕ → Option Memory
module_meaning m main inputs turns =
    option_map (λ (c : Called). c.memory)
    (calls_at (sizes_of m.items) m (length m.functions) main [] (at_start m.items inputs) turns)
