-- A module that obeys the rules has what the inliner needs, once its returns moved to the ends of the functions.
use Rattle.std.proofs.Common.{◌≡◌, ℕ, ◌&&◌, ◌||◌, not, Bool, true, false, if◌then◌else◌, List, [], ◌∷◌, Option, Some, None, refl, sym, ap, ◌∙◌, subst}
use Rattle.std.specs.Prelude.{bytes_eq}
use Rattle.std.proofs.lemmas.Slice.Eq.{bytes_eq-Decides}
use Rattle.module_tree.specs.Trees.{Expression, Number, Named, Element, LengthOf, Operation, Select, Call, Expressions, NoMore, More, Statement, Declare, SetVariable, SetElement, Choice, Loop, Return, Invoke, Nested, Block, Nothing, Then, Function, Module}
use Rattle.module_tree.specs.Meaning.{function_named}
use Rattle.module_calls.specs.Tails.{always, always_in, followed, choice_before, tails, tailed_function, tailed_all, tailed}
use Rattle.module_calls.specs.Fine.{returns, returns_in, word_names, among, FineExpression, FineExpressions, FineRightSide, IsLast, FineStatement, FineBlock, PureRightSide, PureStatement, PureBlock, FineModule}
use Rattle.module_calls.specs.Rules.{may_precede, allowed, all_allowed, allowed_right_side, statement_obeys, block_obeys, pure_right_side, pure_statement, pure_block, pure_function, functions_obey}

first_true : (a b : Bool) → (a && b) ≡ true → a ≡ true
first_true true b e = refl
first_true false b e = absurd (let f : false ≡ true = e in cc)

second_true : (a b : Bool) → (a && b) ≡ true → b ≡ true
second_true true b e = e
second_true false b e = absurd (let f : false ≡ true = e in cc)

first_false : (a b : Bool) → (a || b) ≡ false → a ≡ false
first_false true b e = absurd (let f : true ≡ false = e in cc)
first_false false b e = refl

second_false : (a b : Bool) → (a || b) ≡ false → b ≡ false
second_false true b e = absurd (let f : true ≡ false = e in cc)
second_false false b e = e

both_false : (a b : Bool) → a ≡ false → b ≡ false → (a || b) ≡ false
both_false true b e f = absurd (let g : true ≡ false = e in cc)
both_false false b e f = f

not_true : (a : Bool) → not a ≡ true → a ≡ false
not_true true e = absurd (let f : false ≡ true = e in cc)
not_true false e = refl

implied : (a b : Bool) → (not a || b) ≡ true → a ≡ true → b ≡ true
implied true b e is = e
implied false b e is = absurd (let f : false ≡ true = is in cc)

-- what returns always returns
either_true : (a b c d : Bool) → (a ≡ true → c ≡ true) → (b ≡ true → d ≡ true) → (a || b) ≡ true → (c || d) ≡ true
either_true true b true d f g e = refl
either_true true b false d f g e = absurd (let h : false ≡ true = f refl in cc)
either_true false b true d f g e = refl
either_true false b false d f g e = g e

first_or : (a b : Bool) → a ≡ true → (a || b) ≡ true
first_or true b e = refl
first_or false b e = absurd (let f : false ≡ true = e in cc)

mutual
  statement_returns : (s : Statement) → always s ≡ true → returns s ≡ true
  statement_returns (Choice t a b) is =
      first_or (returns_in a) (returns_in b) (block_returns a (first_true (always_in a) (always_in b) is))
  statement_returns (Return e) is = refl
  statement_returns (Nested body) is = block_returns body is
  statement_returns (Declare label x e) is = absurd (let f : false ≡ true = is in cc)
  statement_returns (SetVariable x e) is = absurd (let f : false ≡ true = is in cc)
  statement_returns (SetElement x i e) is = absurd (let f : false ≡ true = is in cc)
  statement_returns (Loop t body step) is = absurd (let f : false ≡ true = is in cc)
  statement_returns (Invoke f es) is = absurd (let g : false ≡ true = is in cc)

  block_returns : (b : Block) → always_in b ≡ true → returns_in b ≡ true
  block_returns Nothing is = absurd (let f : false ≡ true = is in cc)
  block_returns (Then first rest) is =
      either_true (always first) (always_in rest) (returns first) (returns_in rest)
      (statement_returns first) (block_returns rest) is

contrary : (a b : Bool) → (a ≡ true → b ≡ true) → b ≡ false → a ≡ false
contrary true b f e = absurd (let g : b ≡ true = f refl in cc)
contrary false b f e = refl

-- blocks without a return have none after the pass
never_choice : (t : Expression) (a b rest : Block) (x y : Bool) → x ≡ false → y ≡ false → returns_in a ≡ false
    → returns_in b ≡ false → returns_in rest ≡ false → returns_in (choice_before t a b x y rest) ≡ false
never_choice t a b rest true y e f g h i = absurd (let j : true ≡ false = e in cc)
never_choice t a b rest false true e f g h i = absurd (let j : true ≡ false = f in cc)
never_choice t a b rest false false e f g h i =
    both_false (returns_in a || returns_in b) (returns_in rest) (both_false (returns_in a) (returns_in b) g h) i

never_tails : (b : Block) → returns_in b ≡ false → returns_in (tails b) ≡ false
never_tails Nothing e = refl
never_tails (Then (Choice t a b) rest) e =
    let both = first_false (returns_in a || returns_in b) (returns_in rest) e in
    let one = first_false (returns_in a) (returns_in b) both in
    let other = second_false (returns_in a) (returns_in b) both in
    never_choice t (tails a) (tails b) (tails rest) (always_in a) (always_in b)
    (contrary (always_in a) (returns_in a) (block_returns a) one)
    (contrary (always_in b) (returns_in b) (block_returns b) other) (never_tails a one) (never_tails b other)
    (never_tails rest (second_false (returns_in a || returns_in b) (returns_in rest) e))
never_tails (Then first rest) e =
    both_false (returns first) (returns_in (tails rest)) (first_false (returns first) (returns_in rest) e)
    (never_tails rest (second_false (returns first) (returns_in rest) e))

-- what the rule for a choice before other statements says; a and b are whether its blocks return, x and y whether always
second_never : (a b x y : Bool) → (x ≡ true → a ≡ true)
    → (not (a || b) || ((x && not b) || (y && not a))) ≡ true → x ≡ true → b ≡ false
second_never a false x y f may is = refl
second_never false true x y f may is = absurd (let g : false ≡ true = f is in cc)
second_never true true true true f may is = absurd (let g : false ≡ true = may in cc)
second_never true true true false f may is = absurd (let g : false ≡ true = may in cc)
second_never true true false y f may is = absurd (let g : false ≡ true = is in cc)

first_never : (a b x y : Bool) → (y ≡ true → b ≡ true)
    → (not (a || b) || ((x && not b) || (y && not a))) ≡ true → y ≡ true → a ≡ false
first_never false b x y f may is = refl
first_never true false x y f may is = absurd (let g : false ≡ true = f is in cc)
first_never true true true true f may is = absurd (let g : false ≡ true = may in cc)
first_never true true false true f may is = absurd (let g : false ≡ true = may in cc)
first_never true true x false f may is = absurd (let g : false ≡ true = is in cc)

neither_returns : (a b x y : Bool) → (not (a || b) || ((x && not b) || (y && not a))) ≡ true → x ≡ false → y ≡ false
    → (a || b) ≡ false
neither_returns false false x y may e f = refl
neither_returns true b false false may e f = absurd (let g : false ≡ true = may in cc)
neither_returns false true false false may e f = absurd (let g : false ≡ true = may in cc)
neither_returns true b true y may e f = absurd (let g : true ≡ false = e in cc)
neither_returns true b false true may e f = absurd (let g : true ≡ false = f in cc)
neither_returns false true true y may e f = absurd (let g : true ≡ false = e in cc)
neither_returns false true false true may e f = absurd (let g : true ≡ false = f in cc)

module _ (pure : List ℕ → Bool) where
  mutual
    expression_fine : (e : Expression) → allowed pure e ≡ true → FineExpression pure e
    expression_fine (Number z) is = tt
    expression_fine (Named x) is = tt
    expression_fine (Element x i) is = expression_fine i is
    expression_fine (LengthOf x) is = tt
    expression_fine (Operation operator a b) is =
        (expression_fine a (first_true _ _ is), expression_fine b (second_true (allowed pure a) _ is))
    expression_fine (Select c a b) is =
        let rest = second_true (allowed pure c) _ is in (
          expression_fine c (first_true _ _ is),
          expression_fine a (first_true _ _ rest),
          expression_fine b (second_true (allowed pure a) _ rest),
        )
    expression_fine (Call f es) is = (first_true _ _ is, expressions_fine es (second_true (pure f) _ is))

    expressions_fine : (es : Expressions) → all_allowed pure es ≡ true → FineExpressions pure es
    expressions_fine NoMore is = tt
    expressions_fine (More e es) is =
        (expression_fine e (first_true _ _ is), expressions_fine es (second_true (allowed pure e) _ is))

  right_side_fine : (e : Expression) → allowed_right_side pure e ≡ true → FineRightSide pure e
  right_side_fine (Call f es) is = expressions_fine es is
  right_side_fine e is = expression_fine e is

  last_of : (first : Statement) (rest : Block) → returns first ≡ false → IsLast pure first rest
  last_of first Nothing e = tt
  last_of first (Then second rest) e = e

  -- statements without a return are fine as they are
  mutual
    statement_fine : (s : Statement) → statement_obeys pure s ≡ true → returns s ≡ false → FineStatement pure s
    statement_fine (Declare label x e) is never = right_side_fine e is
    statement_fine (SetVariable x e) is never = right_side_fine e is
    statement_fine (SetElement x i e) is never =
        (right_side_fine e (first_true _ _ is), expression_fine i (second_true (allowed_right_side pure e) _ is))
    statement_fine (Choice t a b) is never =
        let rest = second_true (allowed pure t) _ is in (
          expression_fine t (first_true _ _ is),
          block_fine a (first_true _ _ rest) (first_false (returns_in a) (returns_in b) never),
          block_fine b (second_true (block_obeys pure a) _ rest) (second_false (returns_in a) (returns_in b) never),
        )
    statement_fine (Loop t body step) is never =
        let rest = second_true (allowed pure t) _ is in
        let last = second_true (block_obeys pure body) _ rest in
        let both = second_true (block_obeys pure step) _ last in
        let one = not_true (returns_in body) (first_true _ _ both) in
        let other = not_true (returns_in step) (second_true (not (returns_in body)) _ both) in (
          expression_fine t (first_true _ _ is),
          block_fine body (first_true _ _ rest) one,
          block_fine step (first_true _ _ last) other,
          one,
          other,
        )
    statement_fine (Return e) is never = right_side_fine e is
    statement_fine (Invoke f es) is never = expressions_fine es is
    statement_fine (Nested body) is never = block_fine body (first_true _ _ is) never

    block_fine : (b : Block) → block_obeys pure b ≡ true → returns_in b ≡ false → FineBlock pure b
    block_fine Nothing is never = tt
    block_fine (Then first rest) is never =
        let one = first_false (returns first) (returns_in rest) never in (
          statement_fine first (first_true _ _ is) one,
          block_fine rest (first_true _ _ (second_true (statement_obeys pure first) _ is))
              (second_false (returns first) (returns_in rest) never),
          last_of first rest one,
        )

  -- a block and what follows it
  followed_fine : (b rest : Block) → FineBlock pure b → FineBlock pure rest → IsLast pure (Nested b) rest
      → FineBlock pure (followed b rest)
  followed_fine b Nothing one other last = one
  followed_fine b (Then first rest) one other last = (one, other, last)

  choice_fine : (t : Expression) (a b rest : Block) (x y : Bool) → FineExpression pure t → FineBlock pure a → FineBlock pure b
      → FineBlock pure rest → (x ≡ true → IsLast pure (Nested b) rest) → (y ≡ true → IsLast pure (Nested a) rest)
      → (x ≡ false → y ≡ false → IsLast pure (Choice t a b) rest) → FineBlock pure (choice_before t a b x y rest)
  choice_fine t a b rest true y test one other more f g h =
      ((test, one, followed_fine b rest other more (f refl)), tt, tt)
  choice_fine t a b rest false true test one other more f g h =
      ((test, followed_fine a rest one more (g refl), other), tt, tt)
  choice_fine t a b rest false false test one other more f g h = ((test, one, other), more, h refl refl)

  -- a choice with what follows it
  before_rest : (t : Expression) (a b rest : Block) → may_precede (Choice t a b) rest ≡ true
      → FineExpression pure t → FineBlock pure (tails a) → FineBlock pure (tails b) → FineBlock pure (tails rest)
      → FineBlock pure (choice_before t (tails a) (tails b) (always_in a) (always_in b) (tails rest))
  before_rest t a b Nothing may test one other more =
      choice_fine t (tails a) (tails b) Nothing (always_in a) (always_in b) test one other more (λ e. tt) (λ e. tt)
      (λ e f. tt)
  before_rest t a b (Then second rest) may test one other more =
      choice_fine t (tails a) (tails b) (tails (Then second rest)) (always_in a) (always_in b) test one other more
      (λ e. last_of (Nested (tails b)) (tails (Then second rest))
      (never_tails b (second_never (returns_in a) (returns_in b) (always_in a) (always_in b) (block_returns a) may e)))
      (λ e. last_of (Nested (tails a)) (tails (Then second rest))
      (never_tails a (first_never (returns_in a) (returns_in b) (always_in a) (always_in b) (block_returns b) may e)))
      (λ e f.
      let never = neither_returns (returns_in a) (returns_in b) (always_in a) (always_in b) may e f in
      last_of (Choice t (tails a) (tails b)) (tails (Then second rest))
      (both_false (returns_in (tails a)) (returns_in (tails b))
      (never_tails a (first_false (returns_in a) (returns_in b) never))
      (never_tails b (second_false (returns_in a) (returns_in b) never))))

  return_last : (e : Expression) (rest : Block) → may_precede (Return e) rest ≡ true → IsLast pure (Return e) (tails rest)
  return_last e Nothing may = tt
  return_last e (Then second rest) may = absurd (let f : false ≡ true = may in cc)

  tails_fine : (b : Block) → block_obeys pure b ≡ true → FineBlock pure (tails b)
  tails_fine Nothing is = tt
  tails_fine (Then (Choice t a b) rest) is =
      let here = first_true _ _ is in
      let both = second_true (allowed pure t) _ here in
      let later = second_true (statement_obeys pure (Choice t a b)) _ is in
      before_rest t a b rest (second_true (block_obeys pure rest) _ later) (expression_fine t (first_true _ _ here))
      (tails_fine a (first_true _ _ both)) (tails_fine b (second_true (block_obeys pure a) _ both))
      (tails_fine rest (first_true _ _ later))
  tails_fine (Then (Return e) rest) is =
      let later = second_true (allowed_right_side pure e) _ is in (
        right_side_fine e (first_true _ _ is),
        tails_fine rest (first_true _ _ later),
        return_last e rest (second_true (block_obeys pure rest) _ later),
      )
  tails_fine (Then (Nested body) rest) is =
      let here : (block_obeys pure body && not (returns_in body)) ≡ true = first_true _ _ is in
      let never = not_true (returns_in body) (second_true (block_obeys pure body) _ here) in (
        block_fine body (first_true _ _ here) never,
        tails_fine rest (first_true _ _ (second_true (statement_obeys pure (Nested body)) _ is)),
        last_of (Nested body) (tails rest) never,
      )
  tails_fine (Then first rest) is = (
    statement_fine first (first_true _ _ is) refl,
    tails_fine rest (first_true _ _ (second_true (statement_obeys pure first) _ is)),
    last_of first (tails rest) refl,
  )

  -- pure functions
  right_side_pure : (e : Expression) → pure_right_side pure e ≡ true → PureRightSide pure e
  right_side_pure (Call f es) is = is
  right_side_pure e is = tt

  mutual
    statement_pure : (own : List (List ℕ)) (s : Statement) → pure_statement pure own s ≡ true → PureStatement pure own s
    statement_pure own (Declare label x e) is = right_side_pure e is
    statement_pure own (SetVariable x e) is = (first_true _ _ is, right_side_pure e (second_true (among own x) _ is))
    statement_pure own (SetElement x i e) is = absurd (let f : false ≡ true = is in cc)
    statement_pure own (Choice t a b) is =
        (block_pure own a (first_true _ _ is), block_pure own b (second_true (pure_block pure own a) _ is))
    statement_pure own (Loop t body step) is =
        (block_pure own body (first_true _ _ is), block_pure own step (second_true (pure_block pure own body) _ is))
    statement_pure own (Return e) is = right_side_pure e is
    statement_pure own (Invoke f es) is = is
    statement_pure own (Nested body) is = block_pure own body is

    block_pure : (own : List (List ℕ)) (b : Block) → pure_block pure own b ≡ true → PureBlock pure own b
    block_pure own Nothing is = tt
    block_pure own (Then (Declare label x e) rest) is =
        (right_side_pure e (first_true _ _ is), block_pure (x ∷ own) rest (second_true (pure_right_side pure e) _ is))
    block_pure own (Then first rest) is = (
      statement_pure own first (first_true (pure_statement pure own first) (pure_block pure own rest) is),
      block_pure own rest (second_true (pure_statement pure own first) (pure_block pure own rest) is),
    )

  followed_pure : (own : List (List ℕ)) (b rest : Block) → PureBlock pure own b → PureBlock pure own rest
      → PureBlock pure own (followed b rest)
  followed_pure own b Nothing one other = one
  followed_pure own b (Then first rest) one other = (one, other)

  choice_pure : (own : List (List ℕ)) (t : Expression) (a b rest : Block) (x y : Bool) → PureBlock pure own a
      → PureBlock pure own b → PureBlock pure own rest → PureBlock pure own (choice_before t a b x y rest)
  choice_pure own t a b rest true y one other more = ((one, followed_pure own b rest other more), tt)
  choice_pure own t a b rest false true one other more = ((followed_pure own a rest one more, other), tt)
  choice_pure own t a b rest false false one other more = ((one, other), more)

  tails_pure : (own : List (List ℕ)) (b : Block) → pure_block pure own b ≡ true → PureBlock pure own (tails b)
  tails_pure own Nothing is = tt
  tails_pure own (Then (Choice t a b) rest) is =
      let both = first_true (pure_block pure own a && pure_block pure own b) (pure_block pure own rest) is in
      choice_pure own t (tails a) (tails b) (tails rest) (always_in a) (always_in b)
      (tails_pure own a (first_true _ _ both)) (tails_pure own b (second_true (pure_block pure own a) _ both))
      (tails_pure own rest (second_true (pure_block pure own a && pure_block pure own b) (pure_block pure own rest) is))
  tails_pure own (Then (Declare label x e) rest) is =
      (right_side_pure e (first_true _ _ is), tails_pure (x ∷ own) rest (second_true (pure_right_side pure e) _ is))
  tails_pure own (Then first rest) is = (
    statement_pure own first (first_true (pure_statement pure own first) (pure_block pure own rest) is),
    tails_pure own rest (second_true (pure_statement pure own first) (pure_block pure own rest) is),
  )

  -- what is known of a function among those with returns moved to their ends
  Fine : List ℕ → Function → Type 0
  Fine name f = FineBlock pure f.body × (pure name ≡ true → PureBlock pure (word_names f.parameters) f.body)

  functions_fine : (functions : List Function) → functions_obey pure functions ≡ true → (name : List ℕ) (f : Function)
      → function_named (tailed_all functions) name ≡ Some f → Fine name f
  unfolding Fine
  functions_fine [] is name f found = absurd (let g : ◌≡◌ {A = Option Function} None (Some f) = found in cc)
  functions_fine (g ∷ functions) is name f found =
      by (bytes_eq name g.name) refl found
      (functions_fine functions
      (second_true (not (pure g.name) || pure_function pure g) _ (second_true (block_obeys pure g.body) _ is)) name f)
    where
      by : (b : Bool) → bytes_eq name g.name ≡ b
          → (if b then Some (tailed_function g) else function_named (tailed_all functions) name) ≡ Some f
          → (function_named (tailed_all functions) name ≡ Some f
          → FineBlock pure f.body × (pure name ≡ true → PureBlock pure (word_names f.parameters) f.body))
          → FineBlock pure f.body × (pure name ≡ true → PureBlock pure (word_names f.parameters) f.body)
      by true same found rest =
          let both = second_true (block_obeys pure g.body) _ is in
          subst (λ (h : Function). FineBlock pure h.body × (pure name ≡ true → PureBlock pure (word_names h.parameters) h.body))
          (let e : ◌≡◌ {A = Option Function} (Some (tailed_function g)) (Some f) = found in
          let alike : tailed_function g ≡ f = cc in
          alike) (
            tails_fine g.body (first_true _ _ is),
            λ p. tails_pure (word_names g.parameters) g.body
                (implied (pure g.name) _ (first_true _ _ both)
                (ap pure (sym ((bytes_eq-Decides name g.name).0 same)) ∙ p)),
          )
      by false same found rest = rest found

  pub module_fine : (m : Module) → functions_obey pure m.functions ≡ true → FineModule pure (tailed m)
  unfolding Fine
  module_fine m is = record {
    fine = λ name f found. (functions_fine m.functions is name f found).0;
    pure_body = λ name f found p. (functions_fine m.functions is name f found).1 p;
  }
