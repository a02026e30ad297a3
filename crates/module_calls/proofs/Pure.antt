-- Pure functions leave the module's variables as they are.
use Rattle.std.proofs.Common.{◌≡◌, ℕ, zero, suc, Bool, true, false, ◌||◌, if◌then◌else◌, ℤ, List, [], ◌∷◌, length, drop, Option, Some, None, refl, sym, ap, ◌∙◌, subst}
use Rattle.std.specs.Prelude.{bytes_eq}
use Rattle.module_tree.specs.Operators.{is_true}
use Rattle.module_tree.specs.Memory.{Memory}
use Rattle.module_tree.specs.Trees.{Expression, Call, Statement, Declare, SetVariable, SetElement, Choice, Loop, Return, Invoke, Nested, Block, Nothing, Then, Parameter, OfWord, OfArray, Function, Module}
use Rattle.module_tree.specs.Values.{LocalVariable, Names, State, Valued, for_value, Argument, Given, for_given, Called, for_call, Calls, valued, given, right_side, frame_with, memory_with}
use Rattle.module_tree.specs.Meaning.{Ended, Execution, ended, for_end, unless_returned, in_turn, turn_taken, looped, forgotten, frame_of, names_of, arrays_in, left_by, called, run_of, run_of_block, function_named, calls_at}
use Rattle.module_tree.specs.FirstWords.{number_named}
use Rattle.flat_tree.specs.Keeps.{Agree}
use Rattle.module_calls.specs.Fine.{word_names, among, PureRightSide, PureStatement, PureBlock, FineModule}
use Rattle.module_calls.proofs.Coming.{ArePure}

names_in : List LocalVariable → List (List ℕ)
names_in [] = []
names_in (own ∷ frame) = own.name ∷ names_in frame

pub data Unchanged (memory : Memory) : Option Called → Type 0 where
  NoneCalled : Unchanged memory None
  OneCalled : {c : Called} → c.memory ≡ memory → Unchanged memory (Some c)

pub record Keep (calls : Calls) (pure : List ℕ → Bool) : Type 0 where
  pub keeps : (f : List ℕ) (arguments : List Argument) (memory : Memory) (turns : ℕ) → pure f ≡ true
      → Unchanged memory (calls f arguments memory turns)

-- statements that leave the module's variables, and local variables of the same names
data Untouched (own : List (List ℕ)) (memory : Memory) : Option Ended → Type 0 where
  NoneEnds : Untouched own memory None
  OneEnds : {e : Ended} → e.state.memory ≡ memory → names_in e.state.frame ≡ own → Untouched own memory (Some e)

frame_names : (frame : List LocalVariable) (x : List ℕ) (word : ℤ) → names_in (frame_with frame x word) ≡ names_in frame
unfolding names_in
frame_names [] x word = refl
frame_names (own ∷ frame) x word = by (bytes_eq x own.name) (frame_names frame x word)
  where
    by : (b : Bool) → names_in (frame_with frame x word) ≡ names_in frame
        → names_in (if b then record { name = own.name; word = word } ∷ frame else own ∷ frame_with frame x word)
        ≡ names_in (own ∷ frame)
    by true rest = refl
    by false rest = ap (λ ns. own.name ∷ ns) rest

own_written : (names : Names) (frame : List LocalVariable) (memory : Memory) (x : List ℕ) (word : ℤ)
    → among (names_in frame) x ≡ true → memory_with names frame memory x word ≡ memory
unfolding names_in
own_written names [] memory x word e = absurd (let f : false ≡ true = e in cc)
own_written names (own ∷ frame) memory x word e = by (bytes_eq x own.name) e (own_written names frame memory x word)
  where
    by : (b : Bool) → (b || among (names_in frame) x) ≡ true
        → (among (names_in frame) x ≡ true → memory_with names frame memory x word ≡ memory)
        → (if b then memory else memory_with names frame memory x word) ≡ memory
    by true e rest = refl
    by false e rest = rest e

for_call_untouched : {own : List (List ℕ)} {memory : Memory} (c : Option Called) (next : ℤ → Memory → ℕ → Option Ended)
    → Unchanged memory c → ((word : ℤ) (m : Memory) (left : ℕ) → m ≡ memory → Untouched own memory (next word m left))
    → Untouched own memory (for_call c next)
for_call_untouched None next NoneCalled go = NoneEnds
for_call_untouched (Some c) next (OneCalled e) go = go c.word c.memory c.turns e

for_value_untouched : {own : List (List ℕ)} {memory : Memory} (v : Option Valued) (next : ℤ → ℕ → Option Ended)
    → ((word : ℤ) (left : ℕ) → Untouched own memory (next word left)) → Untouched own memory (for_value v next)
for_value_untouched None next go = NoneEnds
for_value_untouched (Some v) next go = go v.word v.turns

IsUntouched : List (List ℕ) → Memory → Execution → Type 0
IsUntouched own memory run = (s : State) → s.memory ≡ memory → names_in s.frame ≡ own → Untouched own memory (run s)

for_end_untouched : {own : List (List ℕ)} {memory : Memory} (x : Option Ended) (rest : Execution) → Untouched own memory x
    → IsUntouched own memory rest → Untouched own memory (for_end x rest)
unfolding IsUntouched
for_end_untouched None rest NoneEnds go = NoneEnds
for_end_untouched {own = own} {memory = memory} (Some x) rest (OneEnds e f) go = by x.returned
  where
    by : (o : Option ℤ) → Untouched own memory (unless_returned rest x.state o)
    by None = go x.state e f
    by (Some word) = OneEnds e f

either_untouched : {own : List (List ℕ)} {memory : Memory} (b : Bool) (x y : Option Ended) → Untouched own memory x
    → Untouched own memory y → Untouched own memory (if b then x else y)
either_untouched true x y e f = e
either_untouched false x y e f = f

looped_untouched : (own : List (List ℕ)) (memory : Memory) (test : State → Option Valued) (body : Execution)
    → IsUntouched own memory body → (most : ℕ) → IsUntouched own memory (looped test body most)
unfolding looped IsUntouched
looped_untouched own memory test body is zero s e f =
    for_value_untouched (test s) _
    (λ word left. either_untouched (is_true word) None _ NoneEnds (OneEnds e f))
looped_untouched own memory test body is (suc most) s e f =
    for_value_untouched (test s) _
    (λ word left. either_untouched (is_true word) _ _ (taken left (looped_untouched own memory test body is most)) (OneEnds e f))
  where
    taken : (left : ℕ) → ((s : State) → s.memory ≡ memory → names_in s.frame ≡ own → Untouched own memory (looped test body most s))
        → Untouched own memory (turn_taken body (looped test body most) s.frame s.memory left)
    taken zero go = NoneEnds
    taken (suc left) go =
        for_end_untouched (body (record { frame = s.frame; memory = s.memory; turns = left })) (looped test body most)
        (is (record { frame = s.frame; memory = s.memory; turns = left }) e f) go

forgotten_untouched : {own : List (List ℕ)} {memory : Memory} (name : List ℕ) (x : Option Ended)
    → Untouched (name ∷ own) memory x → Untouched own memory (forgotten x)
unfolding names_in
forgotten_untouched name None NoneEnds = NoneEnds
forgotten_untouched {own = own} {memory = memory} name (Some x) (OneEnds e f) = by x.state.frame f
  where
    by : (frame : List LocalVariable) → names_in frame ≡ name ∷ own
        → Untouched own memory (ended (drop 1 frame) x.state.memory x.state.turns x.returned)
    by [] f = absurd (let g : ◌≡◌ {A = List (List ℕ)} [] (name ∷ own) = f in cc)
    by (first ∷ frame) f =
        OneEnds e (let g : ◌≡◌ {A = List (List ℕ)} (first.name ∷ names_in frame) (name ∷ own) = f in
        let same : names_in frame ≡ own = cc in same)

as_untouched : (own : List (List ℕ)) (memory : Memory) (run : Execution)
    → ((s : State) → s.memory ≡ memory → names_in s.frame ≡ own → Untouched own memory (run s))
    → IsUntouched own memory run
unfolding IsUntouched
as_untouched own memory run is = is

first_name : (x : List ℕ) (word : ℤ) (frame : List LocalVariable) (own : List (List ℕ)) → names_in frame ≡ own
    → names_in (record { name = x; word = word } ∷ frame) ≡ x ∷ own
unfolding names_in
first_name x word frame own f = ap (λ ns. x ∷ ns) f

loop_untouched : (own : List (List ℕ)) (memory : Memory) (test : State → Option Valued) (body step : Execution)
    → ((s : State) → s.memory ≡ memory → names_in s.frame ≡ own → Untouched own memory (body s))
    → ((s : State) → s.memory ≡ memory → names_in s.frame ≡ own → Untouched own memory (step s))
    → (s : State) → s.memory ≡ memory → names_in s.frame ≡ own
    → Untouched own memory (looped test (in_turn body step) s.turns s)
unfolding IsUntouched
loop_untouched own memory test body step f g s e h =
    looped_untouched own memory test (in_turn body step) (λ z a b. for_end_untouched (body z) step (f z a b) g) s.turns s e h

module _ (sizes : ℕ → ℕ) (calls : Calls) (names : Names) (pure : List ℕ → Bool) (keep : Keep calls pure) where
  given_unchanged : (g : Option Given) (f : List ℕ) (memory : Memory) → pure f ≡ true
      → Unchanged memory (for_given g (λ arguments left. calls f arguments memory left))
  given_unchanged None f memory is = NoneCalled
  given_unchanged (Some g) f memory is = keep.keeps f g.arguments memory g.turns is

  value_unchanged : (v : Option Valued) (memory : Memory)
      → Unchanged memory (for_value v (λ word left. Some (record { word = word; memory = memory; turns = left })))
  value_unchanged None memory = NoneCalled
  value_unchanged (Some v) memory = OneCalled refl

  right_side_unchanged : (s : State) (e : Expression) → PureRightSide pure e → Unchanged s.memory (right_side sizes calls names s e)
  right_side_unchanged s (Call f es) is = given_unchanged (given sizes calls names s.frame s.memory es s.turns) f s.memory is
  right_side_unchanged s e is = value_unchanged (valued sizes calls names s.frame s.memory e s.turns) s.memory

  right_side_then : {own : List (List ℕ)} {memory : Memory} (s : State) (e : Expression) (next : ℤ → Memory → ℕ → Option Ended)
      → PureRightSide pure e → s.memory ≡ memory
      → ((word : ℤ) (m : Memory) (left : ℕ) → m ≡ memory → Untouched own memory (next word m left))
      → Untouched own memory (for_call (right_side sizes calls names s e) next)
  right_side_then s e next is same go =
      for_call_untouched (right_side sizes calls names s e) next
      (subst (λ m. Unchanged m (right_side sizes calls names s e)) same (right_side_unchanged s e is)) go

  mutual
    statement_untouched : (own : List (List ℕ)) (memory : Memory) (t : Statement) → PureStatement pure own t → (s : State)
        → s.memory ≡ memory → names_in s.frame ≡ own → Untouched own memory (run_of sizes calls names t s)
    statement_untouched own memory (Declare label x e) is s same f =
        right_side_then s e _ is same (λ word m left g. OneEnds g f)
    statement_untouched own memory (SetVariable x e) is s same f =
        right_side_then s e _ is.1 same
        (λ word m left g.
        OneEnds (own_written names s.frame m x word (subst (λ ns. among ns x ≡ true) (sym f) is.0) ∙ g)
        (frame_names s.frame x word ∙ f))
    statement_untouched own memory (SetElement x i e) is s same f = absurd is
    statement_untouched own memory (Choice t a b) is s same f =
        for_value_untouched (valued sizes calls names s.frame s.memory t s.turns) _
        (λ word left.
        either_untouched (is_true word) _ _
        (block_untouched own memory a is.0 (record { frame = s.frame; memory = s.memory; turns = left }) same f)
        (block_untouched own memory b is.1 (record { frame = s.frame; memory = s.memory; turns = left }) same f))
    statement_untouched own memory (Loop t body step) is s same f =
        loop_untouched own memory (λ now. valued sizes calls names now.frame now.memory t now.turns)
        (run_of_block sizes calls names body) (run_of_block sizes calls names step)
        (λ z e g. block_untouched own memory body is.0 z e g) (λ z e g. block_untouched own memory step is.1 z e g) s same f
    statement_untouched own memory (Return e) is s same f =
        right_side_then s e _ is same (λ word m left g. OneEnds g f)
    statement_untouched own memory (Invoke f es) is s same g =
        right_side_then s (Call f es) _ is same (λ word m left h. OneEnds h g)
    statement_untouched own memory (Nested body) is s same f = block_untouched own memory body is s same f

    block_untouched : (own : List (List ℕ)) (memory : Memory) (b : Block) → PureBlock pure own b → (s : State)
        → s.memory ≡ memory → names_in s.frame ≡ own → Untouched own memory (run_of_block sizes calls names b s)
    block_untouched own memory Nothing is s same f = OneEnds same f
    block_untouched own memory (Then (Declare label x e) rest) is s same f =
        right_side_then s e _ is.0 same
        (λ word m left g.
        forgotten_untouched x _
        (block_untouched (x ∷ own) memory rest is.1
        (record { frame = record { name = x; word = word } ∷ s.frame; memory = m; turns = left }) g (first_name x word s.frame own f)))
    block_untouched own memory (Then first rest) is s same f =
        for_end_untouched (run_of sizes calls names first s) (run_of_block sizes calls names rest)
        (statement_untouched own memory first is.0 s same f)
        (as_untouched own memory (run_of_block sizes calls names rest)
        (λ z e g. block_untouched own memory rest is.1 z e g))

start_names : (ps : List Parameter) (arguments : List Argument) → names_in (frame_of ps arguments) ≡ word_names ps
unfolding names_in
start_names [] arguments = refl
start_names (OfWord label x ∷ ps) [] = ap (λ ns. x ∷ ns) (start_names ps [])
start_names (OfWord label x ∷ ps) (a ∷ others) = ap (λ ns. x ∷ ns) (start_names ps others)
start_names (OfArray x ∷ ps) [] = start_names ps []
start_names (OfArray x ∷ ps) (a ∷ others) = start_names ps others

left_unchanged : {own : List (List ℕ)} {memory : Memory} (x : Option Ended) → Untouched own memory x → Unchanged memory (left_by x)
left_unchanged None NoneEnds = NoneCalled
left_unchanged (Some x) (OneEnds e f) = OneCalled e

module _ (sizes : ℕ → ℕ) (m : Module) (pure : List ℕ → Bool) (fine : FineModule pure m) where
  function_keeps : (calls : Calls) → Keep calls pure → (o : Option Function)
      → ((f : Function) → o ≡ Some f → PureBlock pure (word_names f.parameters) f.body)
      → (arguments : List Argument) (memory : Memory) (turns : ℕ)
      → Unchanged memory (called sizes (number_named m.items) calls o arguments memory turns)
  function_keeps calls keep None are arguments memory turns = OneCalled refl
  function_keeps calls keep (Some f) are arguments memory turns =
      left_unchanged _
      (block_untouched sizes calls (names_of (number_named m.items) f.parameters (arrays_in arguments)) pure keep
      (word_names f.parameters) memory f.body (are f refl)
      (record { frame = frame_of f.parameters arguments; memory = memory; turns = turns }) refl
      (start_names f.parameters arguments))

  calls_keep : (depth : ℕ) → Keep (calls_at sizes m depth) pure
  unfolding calls_at
  calls_keep zero = record { keeps = λ f arguments memory turns is. OneCalled refl }
  calls_keep (suc depth) =
      let before = calls_keep depth in
      record {
        keeps = λ f arguments memory turns is.
            function_keeps (calls_at sizes m depth) before (function_named m.functions f)
            (λ g found. fine.pure_body f g found is) arguments memory turns;
      }

  from_unchanged : (all : ℕ) (memory : Memory) (c : Called) (q : Option Called) → Unchanged memory q → q ≡ Some c
      → Agree all memory c.memory
  from_unchanged all memory c None u e = absurd (let f : ◌≡◌ {A = Option Called} None (Some c) = e in cc)
  from_unchanged all memory c (Some d) (OneCalled same) e =
      let f : ◌≡◌ {A = Option Called} (Some d) (Some c) = e in
      let alike : d ≡ c = cc in
      record { same = λ k lt. ap (λ (m : Memory). m k) (sym same ∙ ap (λ (x : Called). x.memory) alike) }

  pub are_pure : (depth : ℕ) → ArePure (length m.items) (calls_at sizes m depth) pure
  are_pure depth =
      let keep = calls_keep depth in
      record {
        keeps = λ f arguments memory turns c is e.
            from_unchanged (length m.items) memory c (calls_at sizes m depth f arguments memory turns)
            (keep.keeps f arguments memory turns is) e;
      }
