-- Moving returns to the ends of functions changes no meaning.
use Rattle.std.proofs.Common.{◌≡◌, ℕ, zero, suc, ◌||◌, ◌&&◌, Bool, true, false, if◌then◌else◌, ℤ, List, [], ◌∷◌, length, Option, Some, None, refl, sym, ap, ◌∙◌, subst}
use Rattle.std.specs.Option.{option_map}
use Rattle.std.specs.Prelude.{bytes_eq}
use Rattle.std.proofs.Math.Path.{fun_ext}
use Rattle.module_tree.specs.Operators.{is_true}
use Rattle.module_tree.specs.Memory.{Memory}
use Rattle.module_tree.specs.Trees.{Expression, Statement, Declare, SetVariable, SetElement, Choice, Loop, Return, Invoke, Nested, Block, Nothing, Then, Function, Module}
use Rattle.module_tree.specs.Values.{Names, State, Valued, for_value, Called, for_call, Calls, valued, right_side}
use Rattle.module_tree.specs.Meaning.{Ended, Execution, ended, for_end, unless_returned, forgotten, run_of, run_of_block, frame_of, names_of, arrays_in, left_by, called, function_named, calls_at}
use Rattle.module_tree.specs.FirstWords.{number_named, sizes_of, at_start}
use Rattle.module_calls.specs.Tails.{always, always_in, followed, choice_before, tails, tailed_function, tailed_all, tailed, MeansTheSame}

-- nothing follows
for_nothing : (x : Option Ended) → for_end x (λ s. ended s.frame s.memory s.turns None) ≡ x
for_nothing None = refl
for_nothing (Some e) = by e.returned
  where
    by : (o : Option ℤ) → unless_returned (λ s. ended s.frame s.memory s.turns None) e.state o
        ≡ Some (record { state = e.state; returned = o })
    by None = refl
    by (Some word) = refl

-- an end with a return, or none
abbrev HasWord : Option ℤ → Type 0
HasWord None = ⊥
HasWord (Some word) = Unit {0}

abbrev Returned : Option Ended → Type 0
Returned None = Unit {0}
Returned (Some e) = HasWord e.returned

returned_stays : (x : Option Ended) (rest : Execution) → Returned x → for_end x rest ≡ x
returned_stays None rest r = refl
returned_stays (Some e) rest r = by e.returned r
  where
    by : (o : Option ℤ) → HasWord o → unless_returned rest e.state o ≡ Some (record { state = e.state; returned = o })
    by None r = absurd r
    by (Some word) r = refl

first_returns : (x : Option Ended) (rest : Execution) → Returned x → Returned (for_end x rest)
first_returns x rest r = subst Returned (sym (returned_stays x rest r)) r

rest_returns : (x : Option Ended) (rest : Execution) → ((s : State) → Returned (rest s)) → Returned (for_end x rest)
rest_returns None rest r = tt
rest_returns (Some e) rest r = by e.returned
  where
    by : (o : Option ℤ) → Returned (unless_returned rest e.state o)
    by None = r e.state
    by (Some word) = tt

call_returns : (c : Option Called) (next : ℤ → Memory → ℕ → Option Ended)
    → ((word : ℤ) (m : Memory) (left : ℕ) → Returned (next word m left)) → Returned (for_call c next)
call_returns None next r = tt
call_returns (Some c) next r = r c.word c.memory c.turns

value_returns : (v : Option Valued) (next : ℤ → ℕ → Option Ended)
    → ((word : ℤ) (left : ℕ) → Returned (next word left)) → Returned (for_value v next)
value_returns None next r = tt
value_returns (Some v) next r = r v.word v.turns

either_returns : (b : Bool) (x y : Option Ended) → Returned x → Returned y → Returned (if b then x else y)
either_returns true x y r q = r
either_returns false x y r q = q

forgotten_returns : (x : Option Ended) → Returned x → Returned (forgotten x)
forgotten_returns None r = tt
forgotten_returns (Some e) r = r

left_true : (a b : Bool) → (a && b) ≡ true → a ≡ true
left_true true b e = refl
left_true false b e = absurd (let f : false ≡ true = e in cc)

right_true : (a b : Bool) → (a && b) ≡ true → b ≡ true
right_true true b e = e
right_true false b e = absurd (let f : false ≡ true = e in cc)

by_cases : (sizes : ℕ → ℕ) (calls : Calls) (names : Names) (first : Statement) (rest : Block) (s : State) (x : Bool)
    → (x || always_in rest) ≡ true
    → (x ≡ true → Returned (run_of sizes calls names first s))
    → (always_in rest ≡ true → (z : State) → Returned (run_of_block sizes calls names rest z))
    → Returned (for_end (run_of sizes calls names first s) (run_of_block sizes calls names rest))
by_cases sizes calls names first rest s true is one other =
    first_returns (run_of sizes calls names first s) (run_of_block sizes calls names rest) (one refl)
by_cases sizes calls names first rest s false is one other =
    rest_returns (run_of sizes calls names first s) (run_of_block sizes calls names rest) (other is)

module _ (sizes : ℕ → ℕ) (calls : Calls) (names : Names) where
  mutual
    statement_returns : (t : Statement) → always t ≡ true → (s : State) → Returned (run_of sizes calls names t s)
    statement_returns (Declare label x e) is s = absurd (let f : false ≡ true = is in cc)
    statement_returns (SetVariable x e) is s = absurd (let f : false ≡ true = is in cc)
    statement_returns (SetElement x i e) is s = absurd (let f : false ≡ true = is in cc)
    statement_returns (Choice t a b) is s =
        value_returns (valued sizes calls names s.frame s.memory t s.turns) _
        (λ word left.
        either_returns (is_true word) _ _
        (block_returns a (left_true (always_in a) (always_in b) is) (record s { turns = left }))
        (block_returns b (right_true (always_in a) (always_in b) is) (record s { turns = left })))
    statement_returns (Loop t body step) is s = absurd (let f : false ≡ true = is in cc)
    statement_returns (Return e) is s = call_returns (right_side sizes calls names s e) _ (λ word m left. tt)
    statement_returns (Invoke f es) is s = absurd (let g : false ≡ true = is in cc)
    statement_returns (Nested body) is s = block_returns body is s

    block_returns : (b : Block) → always_in b ≡ true → (s : State) → Returned (run_of_block sizes calls names b s)
    block_returns Nothing is s = absurd (let f : false ≡ true = is in cc)
    block_returns (Then (Declare label x e) rest) is s =
        call_returns (right_side sizes calls names s e) _
        (λ word m left. forgotten_returns _ (block_returns rest is _))
    block_returns (Then first rest) is s =
        by_cases sizes calls names first rest s (always first) is
        (λ e. statement_returns first e s) (λ e z. block_returns rest e z)

  -- what follows a choice
  for_choice : (v : Option Valued) (x y : ℕ → Option Ended) (rest : Execution)
      → for_end (for_value v (λ word left. if is_true word then x left else y left)) rest
      ≡ for_value v (λ word left. if is_true word then for_end (x left) rest else for_end (y left) rest)
  for_choice None x y rest = refl
  for_choice (Some v) x y rest = by (is_true v.word)
    where
      by : (b : Bool) → for_end (if b then x v.turns else y v.turns) rest
          ≡ (if b then for_end (x v.turns) rest else for_end (y v.turns) rest)
      by true = refl
      by false = refl

  followed_same : (b rest : Block) (s : State)
      → run_of_block sizes calls names (followed b rest) s ≡ for_end (run_of_block sizes calls names b s) (run_of_block sizes calls names rest)
  followed_same b Nothing s = sym (for_nothing (run_of_block sizes calls names b s))
  followed_same b (Then first rest) s = refl

  -- a choice with the rest in one of its blocks
  choice_same : (t : Expression) (a b rest : Block) (x y : Bool) (s : State)
      → (x ≡ true → (z : State) → Returned (run_of_block sizes calls names a z))
      → (y ≡ true → (z : State) → Returned (run_of_block sizes calls names b z))
      → run_of_block sizes calls names (choice_before t a b x y rest) s
      ≡ run_of_block sizes calls names (Then (Choice t a b) rest) s
  choice_same t a b rest true y s first second =
      let v = valued sizes calls names s.frame s.memory t s.turns in
      for_nothing _
      ∙ ap (λ (f : ℤ → ℕ → Option Ended). for_value v f)
      (fun_ext (λ word. fun_ext (λ left.
      ap (λ (r : Option Ended). if is_true word then r else run_of_block sizes calls names (followed b rest) (record s { turns = left }))
      (sym (returned_stays _ (run_of_block sizes calls names rest) (first refl (record s { turns = left }))))
      ∙ ap (λ (r : Option Ended). if is_true word then
      for_end (run_of_block sizes calls names a (record s { turns = left })) (run_of_block sizes calls names rest) else r)
      (followed_same b rest (record s { turns = left })))))
      ∙ sym (for_choice v (λ left. run_of_block sizes calls names a (record s { turns = left }))
      (λ left. run_of_block sizes calls names b (record s { turns = left })) (run_of_block sizes calls names rest))
  choice_same t a b rest false true s first second =
      let v = valued sizes calls names s.frame s.memory t s.turns in
      for_nothing _
      ∙ ap (λ (f : ℤ → ℕ → Option Ended). for_value v f)
      (fun_ext (λ word. fun_ext (λ left.
      ap (λ (r : Option Ended). if is_true word then r else run_of_block sizes calls names b (record s { turns = left }))
      (followed_same a rest (record s { turns = left }))
      ∙ ap (λ (r : Option Ended). if is_true word then
      for_end (run_of_block sizes calls names a (record s { turns = left })) (run_of_block sizes calls names rest) else r)
      (sym (returned_stays _ (run_of_block sizes calls names rest) (second refl (record s { turns = left })))))))
      ∙ sym (for_choice v (λ left. run_of_block sizes calls names a (record s { turns = left }))
      (λ left. run_of_block sizes calls names b (record s { turns = left })) (run_of_block sizes calls names rest))
  choice_same t a b rest false false s first second = refl

  abbrev runs : Block → Execution
  runs b = run_of_block sizes calls names b

  -- the blocks of a choice, and what follows it, may be replaced by others that do the same
  parts_same : (t : Expression) (a b rest x y z : Block) → runs a ≡ runs x → runs b ≡ runs y → runs rest ≡ runs z
      → runs (Then (Choice t a b) rest) ≡ runs (Then (Choice t x y) z)
  parts_same t a b rest x y z e f g =
      ap (λ (r : Execution). choose t r (runs b) (runs rest)) e
      ∙ ap (λ (r : Execution). choose t (runs x) r (runs rest)) f
      ∙ ap (λ (r : Execution). choose t (runs x) (runs y) r) g
    where
      choose : Expression → Execution → Execution → Execution → Execution
      choose t p q rest s =
          for_end (for_value (valued sizes calls names s.frame s.memory t s.turns)
          (λ word left. if is_true word then p (record s { turns = left }) else q (record s { turns = left }))) rest

  -- the other statements, before a block
  abbrev declaring : List ℕ → Expression → Execution → Execution
  declaring x e rest s =
      for_call (right_side sizes calls names s e)
      (λ word memory left. forgotten
      (rest (record { frame = record { name = x; word = word } ∷ s.frame; memory = memory; turns = left })))

  abbrev after : Statement → Execution → Execution
  after first rest s = for_end (run_of sizes calls names first s) rest

  tails_same : (b : Block) → runs (tails b) ≡ runs b
  tails_same Nothing = refl
  tails_same (Then (Choice t a b) rest) =
      let e = tails_same a in
      let f = tails_same b in
      fun_ext (λ s. choice_same t (tails a) (tails b) (tails rest) (always_in a) (always_in b) s
      (λ is z. subst (λ (r : Execution). Returned (r z)) (sym e) (block_returns a is z))
      (λ is z. subst (λ (r : Execution). Returned (r z)) (sym f) (block_returns b is z)))
      ∙ parts_same t (tails a) (tails b) (tails rest) a b rest e f (tails_same rest)
  tails_same (Then (Declare label x e) rest) =
      ap (declaring x e) (tails_same rest)
  tails_same (Then first rest) = ap (after first) (tails_same rest)

-- functions and modules
function_same : (sizes : ℕ → ℕ) (all : Names) (calls : Calls) (functions : List Function) (name : List ℕ)
    (arguments : _) (memory : Memory) (turns : ℕ)
    → called sizes all calls (function_named (tailed_all functions) name) arguments memory turns
    ≡ called sizes all calls (function_named functions name) arguments memory turns
function_same sizes all calls [] name arguments memory turns = refl
function_same sizes all calls (f ∷ functions) name arguments memory turns =
    by (bytes_eq name f.name) (function_same sizes all calls functions name arguments memory turns)
  where
    by : (b : Bool)
        → called sizes all calls (function_named (tailed_all functions) name) arguments memory turns
        ≡ called sizes all calls (function_named functions name) arguments memory turns
        → called sizes all calls (if b then Some (tailed_function f) else function_named (tailed_all functions) name) arguments memory turns
        ≡ called sizes all calls (if b then Some f else function_named functions name) arguments memory turns
    by true rest =
        ap (λ (r : Execution). left_by (r (record { frame = frame_of f.parameters arguments; memory = memory; turns = turns })))
        (tails_same sizes calls (names_of all f.parameters (arrays_in arguments)) f.body)
    by false rest = rest

calls_same : (sizes : ℕ → ℕ) (m : Module) (depth : ℕ) → calls_at sizes (tailed m) depth ≡ calls_at sizes m depth
unfolding calls_at
calls_same sizes m zero = refl
calls_same sizes m (suc depth) =
    fun_ext (λ name. fun_ext (λ arguments. fun_ext (λ memory. fun_ext (λ turns.
    function_same sizes (number_named m.items) (calls_at sizes (tailed m) depth) m.functions name arguments memory turns
    ∙ ap (λ (c : Calls). called sizes (number_named m.items) c (function_named m.functions name) arguments memory turns)
    (calls_same sizes m depth)))))

tailed_long : (functions : List Function) → length (tailed_all functions) ≡ length functions
tailed_long [] = refl
tailed_long (f ∷ functions) = ap (λ n. suc n) (tailed_long functions)

pub tailed_meaning : (m : Module) → MeansTheSame m
tailed_meaning m main inputs turns =
    ap (λ n. option_map (λ (c : Called). c.memory)
    (calls_at (sizes_of m.items) (tailed m) n main [] (at_start m.items inputs) turns)) (tailed_long m.functions)
    ∙ ap (λ (c : Calls). option_map (λ (d : Called). d.memory) (c main [] (at_start m.items inputs) turns))
    (calls_same (sizes_of m.items) m (length m.functions))
