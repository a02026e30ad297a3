-- The core's statements do what the flat statements do.
use Rattle.std.proofs.Common.{◌≡◌, ℕ, zero, suc, ◌+◌, ◌<◌, ◌≤◌, Bool, true, false, if◌then◌else◌, ℤ, List, [], ◌∷◌, length, set, Option, Some, None, refl, sym, ap, ◌∙◌, subst, ⊎_elim, arith, length-set, get_or-set_same, get_or-set_other}
use Rattle.std.specs.Prelude.{◌==◌}
use Rattle.std.specs.Option.{option_and_then, option_map}
use Rattle.std.proofs.Math.Path.{fun_ext}
use Rattle.std.proofs.lemmas.Bool.{cases_eq, eqb-true}
use Rattle.gr_word.specs.Prelude.{applied, compared}
use Rattle.module_tree.specs.Operators.{Machine, Compare, is_true, bit}
use Rattle.module_tree.specs.Memory.{Memory, with_words, with_scalar, first_word, word_at, with_word}
use Rattle.src_tree.specs.declared.trees.Decl.{Decl}
use Rattle.src_tree.specs.Prelude.{Store, Left, Block, words_of_number, variable_number, scalar_set, element_set, evaluated, guard_holds, run_of, run_of_block}
use Rattle.src_tree.proofs.KeptByRuns.{left}
use Rattle.flat_tree.specs.Trees.{Term, Number, Scalar, Element, Operation, Select, Statement, Skip, Seq, Set, Put, If, While, Local}
use Rattle.flat_tree.specs.Meaning.{State, value, holds, at, onward, restored, run}
use Rattle.flat_tree.proofs.Agreeing.{read_here}
use Rattle.flat_tree.proofs.Writing.{written_twice}
use Rattle.flat_core.specs.Core.{place, joined, core_term, core_test, core_block, InScope, Settable, CoreTerm, CoreTest, CoreStatement}
use Rattle.flat_core.specs.Promise.{Sized, LeftAlike, CoreKeeps}
use Rattle.flat_core.proofs.Standing.{Stands, inner_scope, place_below, words_stand, stands_outside, written_stands}
use Rattle.src_tree.specs.Prelude as core
use Rattle.flat_tree.specs.Meaning as flat
use Rattle.flat_core.specs.Promise as promise

words_set : (t : Store) (n k i : ℕ) (v : ℤ) → n < length t
    → length (words_of_number (set t n (set (words_of_number t n) i v)) k) ≡ length (words_of_number t k)
words_set t n k i v in_range = ⊎_elim same other (cases_eq k n)
  where
    same : k ≡ n → length (words_of_number (set t n (set (words_of_number t n) i v)) k) ≡ length (words_of_number t k)
    same e =
        ap (λ j. length (words_of_number (set t n (set (words_of_number t n) i v)) j)) e
        ∙ ap length (get_or-set_same t n (set (words_of_number t n) i v) [] in_range)
        ∙ length-set (words_of_number t n) i v ∙ ap (λ j. length (words_of_number t j)) (sym e)

    other : (k ≡ n → ⊥) → length (words_of_number (set t n (set (words_of_number t n) i v)) k) ≡ length (words_of_number t k)
    other ne = ap length (get_or-set_other t n k (set (words_of_number t n) i v) [] ne)

sized_set : {all most : ℕ} {is_scalar : ℕ → Bool} {store : Store} (n i : ℕ) (v : ℤ) → n < length store
    → Sized all most is_scalar store → Sized all most is_scalar (set store n (set (words_of_number store n) i v))
sized_set {store = store} n i v lt s =
    let l = length-set store n (set (words_of_number store n) i v) in
    let room = s.long in
    record {
      long = omega (arith, l, room);
      scalars = λ k below is. words_set store n k i v lt ∙ s.scalars k below is;
      locals = λ p low high. words_set store n p i v lt ∙ s.locals p low high;
    }

one_word : (ws : List ℤ) (v : ℤ) → length ws ≡ 1 → set ws 0 v ≡ v ∷ []
one_word [] v e = absurd (omega (arith, e))
one_word (w ∷ []) v e = refl
one_word (w ∷ x ∷ ws) v e = absurd (omega (arith, e))

own_words : (m : Memory) (k : ℕ) → with_words m k (m k) ≡ m
own_words m k = fun_ext (λ j. by j (j == k) refl)
  where
    by : (j : ℕ) (b : Bool) → (j == k) ≡ b → (if b then m k else m j) ≡ m j
    by j true e = ap m (sym (eqb-true j k e))
    by j false e = refl

true_bit : (b : Bool) → is_true (bit b) ≡ b
true_bit true = refl
true_bit false = refl

then_nothing : (decls : List Decl) (r : Option Left) → option_and_then (run_of_block decls core.Nothing) r ≡ r
then_nothing decls None = refl
then_nothing decls (Some a) = refl

joined_runs : (decls : List Decl) (a b : Block) (before : Left)
    → run_of_block decls (joined a b) before ≡ core.in_turn (run_of_block decls a) (run_of_block decls b) before
joined_runs decls core.Nothing b before = refl
joined_runs decls (core.Then s rest) b before = by (run_of decls s before) (joined_runs decls rest b)
  where
    by : (r : Option Left)
        → ((after : Left) → run_of_block decls (joined rest b) after
        ≡ core.in_turn (run_of_block decls rest) (run_of_block decls b) after)
        → option_and_then (run_of_block decls (joined rest b)) r
        ≡ option_and_then (run_of_block decls b) (option_and_then (run_of_block decls rest) r)
    by None same = refl
    by (Some after) same = same after

module _ (decls : List Decl) (all most : ℕ) (name : ℕ → List ℕ) (is_scalar : ℕ → Bool)
    (named : (p : ℕ) → p < all + most → variable_number decls (name p) ≡ p) where
  place_known : (P : ℕ → Type 0) (scope : List ℕ) (k : ℕ) → length scope ≤ most → InScope all P scope k
      → variable_number decls (name (place all scope k)) ≡ place all scope k
  place_known P scope k few is = let below = place_below all P scope k is in named (place all scope k) (omega (arith, below, few))

  -- expressions and tests
  term_same : (scope : List ℕ) (hidden : List (List ℤ)) (m : Memory) (store : Store) → length scope ≤ most
      → Stands all scope hidden m store → (e : Term) → CoreTerm all is_scalar scope e
      → evaluated decls store (core_term all name scope e) ≡ value m e
  term_same scope hidden m store few s (Number z) is = refl
  term_same scope hidden m store few s (Scalar k) is =
      ap (λ n. first_word (words_of_number store n)) (place_known _ scope k few is)
      ∙ ap first_word (words_stand all _ scope hidden m store s k is)
  term_same scope hidden m store few s (Element k i) is =
      ap (λ n. word_at (words_of_number store n) (evaluated decls store (core_term all name scope i)))
      (place_known _ scope k few is.0)
      ∙ ap (λ ws. word_at ws (evaluated decls store (core_term all name scope i)))
      (words_stand all _ scope hidden m store s k is.0)
      ∙ ap (word_at (m k)) (term_same scope hidden m store few s i is.1)
  term_same scope hidden m store few s (Operation (Machine op) a b) is =
      ap (λ z. applied op z (evaluated decls store (core_term all name scope b)))
      (term_same scope hidden m store few s a is.0)
      ∙ ap (applied op (value m a)) (term_same scope hidden m store few s b is.1)
  term_same scope hidden m store few s (Operation operator a b) is = absurd is
  term_same scope hidden m store few s (Select c a b) is = absurd is

  test_same : (scope : List ℕ) (hidden : List (List ℤ)) (m : Memory) (store : Store) → length scope ≤ most
      → Stands all scope hidden m store → (c : Term) → CoreTest all is_scalar scope c
      → holds c m ≡ guard_holds decls store (core_test all name scope c)
  test_same scope hidden m store few s (Operation (Compare cmp) a b) is =
      true_bit (compared cmp (value m a) (value m b))
      ∙ ap (λ z. compared cmp z (value m b)) (sym (term_same scope hidden m store few s a is.0))
      ∙ ap (compared cmp (evaluated decls store (core_term all name scope a)))
      (sym (term_same scope hidden m store few s b is.1))
  test_same scope hidden m store few s c is = ap is_true (sym (term_same scope hidden m store few s c is))

  -- the length of what is set
  settable_one : (scope : List ℕ) (store : Store) → Sized all most is_scalar store → length scope ≤ most → (k : ℕ)
      → Settable all is_scalar scope k → length (words_of_number store (place all scope k)) ≡ 1
  settable_one [] store sized few k is = sized.scalars k is.0 is.1
  settable_one (j ∷ scope) store sized few k is =
      by (k == j) refl (λ x. settable_one scope store sized (omega (arith, few)) k x)
    where
      by : (b : Bool) → (k == j) ≡ b
          → (Settable all is_scalar scope k → length (words_of_number store (place all scope k)) ≡ 1)
          → length (words_of_number store (if b then all + length scope else place all scope k)) ≡ 1
      by true e rest = sized.locals (all + length scope) (omega arith) (omega (arith, few))
      by false e rest = rest (inner_scope all _ scope k j e is)

  -- what is left
  pub data CoreAlike (scope : List ℕ) (hidden : List (List ℤ)) : Option State → Option Left → Type 0 where
    BothSpent : CoreAlike scope hidden None None
    BothLeft : {s : State} {t : Left} → s.turns ≡ t.turns → Stands all scope hidden s.memory t.store
        → Sized all most is_scalar t.store → CoreAlike scope hidden (Some s) (Some t)

  abbrev Follows : List ℕ → List (List ℤ) → flat.Execution → core.Execution → Type 0
  Follows scope hidden one other =
      (m : Memory) (store : Store) (turns : ℕ) → Stands all scope hidden m store → Sized all most is_scalar store
      → CoreAlike scope hidden (one m turns) (other (left store turns))

  then_alike : (scope : List ℕ) (hidden : List (List ℤ)) (one : flat.Execution) (other : core.Execution) (r : Option State) (q : Option Left)
      → CoreAlike scope hidden r q → Follows scope hidden one other
      → CoreAlike scope hidden (option_and_then (onward one) r) (option_and_then other q)
  then_alike scope hidden one other None None BothSpent f = BothSpent
  then_alike scope hidden one other None (Some t) e f = elim e [ ]
  then_alike scope hidden one other (Some s) None e f = elim e [ ]
  then_alike scope hidden one other (Some s) (Some t) (BothLeft same stands sized) f =
      subst (λ n. CoreAlike scope hidden (one s.memory s.turns) (other (left t.store n))) same
      (f s.memory t.store s.turns stands sized)

  either_alike : (scope : List ℕ) (hidden : List (List ℤ)) (b c : Bool) (p q : Option State) (x y : Option Left) → b ≡ c
      → CoreAlike scope hidden p x → CoreAlike scope hidden q y
      → CoreAlike scope hidden (if b then p else q) (if c then x else y)
  either_alike scope hidden b c p q x y e f g =
      subst (λ z. CoreAlike scope hidden (if b then p else q) (if z then x else y)) e (by b)
    where
      by : (d : Bool) → CoreAlike scope hidden (if d then p else q) (if d then x else y)
      by true = f
      by false = g

  looped_alike : (scope : List ℕ) (hidden : List (List ℤ)) (test : Memory → Bool) (one : Store → Bool) (body : flat.Execution)
      (other : core.Execution)
      → ((m : Memory) (store : Store) → Stands all scope hidden m store → test m ≡ one store)
      → Follows scope hidden body other → (bound : ℕ)
      → Follows scope hidden (flat.looped test body bound) (core.looped one other bound)
  unfolding flat.looped core.looped
  looped_alike scope hidden test one body other tests f zero m store turns stands sized =
      either_alike scope hidden (test m) (one store) _ _ _ _ (tests m store stands) BothSpent (BothLeft refl stands sized)
  looped_alike scope hidden test one body other tests f (suc bound) m store turns stands sized =
      either_alike scope hidden (test m) (one store) _ _ _ _ (tests m store stands)
      (taken turns (looped_alike scope hidden test one body other tests f bound)) (BothLeft refl stands sized)
    where
      taken : (turns : ℕ)
          → ((m : Memory) (store : Store) (turns : ℕ) → Stands all scope hidden m store → Sized all most is_scalar store
          → CoreAlike scope hidden (flat.looped test body bound m turns) (core.looped one other bound (left store turns)))
          → CoreAlike scope hidden (flat.turn_taken body (flat.looped test body bound) m turns)
          (core.turn_taken other (core.looped one other bound) turns store)
      taken zero go = BothSpent
      taken (suc turns) go =
          then_alike scope hidden (flat.looped test body bound) (core.looped one other bound) (body m turns)
          (other (left store turns)) (f m store turns stands sized) go

  -- a local is forgotten
  forgotten_alike : (scope : List ℕ) (hidden : List (List ℤ)) (k : ℕ) (w : List ℤ) (r : Option State) (q : Option Left)
      → CoreAlike (k ∷ scope) (w ∷ hidden) r q → CoreAlike scope hidden (option_map (restored k w) r) q
  forgotten_alike scope hidden k w None None BothSpent = BothSpent
  forgotten_alike scope hidden k w None (Some t) e = elim e [ ]
  forgotten_alike scope hidden k w (Some s) None e = elim e [ ]
  forgotten_alike scope hidden k w (Some s) (Some t) (BothLeft same stands sized) = BothLeft same stands.1 sized

  pub block_follows : (s : Statement) (scope : List ℕ) (hidden : List (List ℤ)) → length scope ≤ most
      → CoreStatement all is_scalar most scope s
      → Follows scope hidden (run s) (run_of_block decls (core_block all name scope s))
  block_follows Skip scope hidden few is m store turns stands sized = BothLeft refl stands sized
  block_follows (Seq a b) scope hidden few is m store turns stands sized =
      subst (λ q. CoreAlike scope hidden (run (Seq a b) m turns) q)
      (sym (joined_runs decls (core_block all name scope a) (core_block all name scope b) (left store turns)))
      (then_alike scope hidden (run b) (run_of_block decls (core_block all name scope b)) (run a m turns)
      (run_of_block decls (core_block all name scope a) (left store turns))
      (block_follows a scope hidden few is.0 m store turns stands sized) (block_follows b scope hidden few is.1))
  block_follows (Set k e) scope hidden few is m store turns stands sized =
      let v = value m e in
      let p = place all scope k in
      let below = place_below all _ scope k is.0 in
      let room = sized.long in
      subst (λ n. CoreAlike scope hidden (Some (at (with_scalar m k v) turns))
      (Some (left (scalar_set store n (evaluated decls store (core_term all name scope e))) turns)))
      (sym (place_known _ scope k few is.0))
      (subst (λ z. CoreAlike scope hidden (Some (at (with_scalar m k v) turns)) (Some (left (scalar_set store p z) turns)))
      (sym (term_same scope hidden m store few stands e is.1))
      (BothLeft refl
      (subst (λ ws. Stands all scope hidden (with_scalar m k v) (set store p ws))
      (sym (one_word (words_of_number store p) v (settable_one scope store sized few k is.0)))
      (written_stands all _ scope hidden m store (omega (arith, room, few)) stands k is.0 (v ∷ [])))
      (sized_set p 0 v (omega (arith, below, room, few)) sized)))
  block_follows (Put k i e) scope hidden few is m store turns stands sized =
      let v = value m e in
      let index = value m i in
      let p = place all scope k in
      let below = place_below all _ scope k is.0 in
      let room = sized.long in
      let end = λ (t : Store). CoreAlike scope hidden (Some (at (flat.with_element m k index v) turns)) (Some (left t turns)) in
      subst (λ n. end (element_set store n (evaluated decls store (core_term all name scope i))
      (evaluated decls store (core_term all name scope e)))) (sym (place_known _ scope k few is.0))
      (subst (λ z. end (element_set store p z (evaluated decls store (core_term all name scope e))))
      (sym (term_same scope hidden m store few stands i is.1))
      (subst (λ z. end (element_set store p index z)) (sym (term_same scope hidden m store few stands e is.2))
      (BothLeft refl
      (subst (λ ws. Stands all scope hidden (with_words m k (with_word ws index v))
      (set store p (with_word (words_of_number store p) index v)))
      (words_stand all _ scope hidden m store stands k is.0)
      (written_stands all _ scope hidden m store (omega (arith, room, few)) stands k is.0
      (with_word (words_of_number store p) index v)))
      (sized_set p _ v (omega (arith, below, room, few)) sized))))
  block_follows (If c a b) scope hidden few is m store turns stands sized =
      subst (λ q. CoreAlike scope hidden (run (If c a b) m turns) q)
      (sym (then_nothing decls (run_of decls
      (core.Choice (core_test all name scope c) (core_block all name scope a) (core_block all name scope b)) (left store turns))))
      (either_alike scope hidden (holds c m) (guard_holds decls store (core_test all name scope c)) _ _ _ _
      (test_same scope hidden m store few stands c is.0)
      (block_follows a scope hidden few is.1 m store turns stands sized)
      (block_follows b scope hidden few is.2 m store turns stands sized))
  block_follows (While c a) scope hidden few is m store turns stands sized =
      subst (λ q. CoreAlike scope hidden (run (While c a) m turns) q)
      (sym (then_nothing decls (run_of decls
      (core.Loop (core_test all name scope c) (core_block all name scope a)) (left store turns))))
      (looped_alike scope hidden (holds c) (λ z. guard_holds decls z (core_test all name scope c)) (run a)
      (run_of_block decls (core_block all name scope a))
      (λ h z t. test_same scope hidden h z few t c is.0) (block_follows a scope hidden few is.1) turns m store turns stands sized)
  block_follows (Local k e a) scope hidden few is m store turns stands sized =
      let v = value m e in
      let p = all + length scope in
      let less = is.0 in
      let room = sized.long in
      let inner = core_block all name (k ∷ scope) a in
      let end = λ (t : Store). CoreAlike scope hidden (option_map (restored k (m k)) (run a (with_scalar m k v) turns))
      (run_of_block decls inner (left t turns)) in
      let one = one_word (words_of_number store p) v (sized.locals p (omega arith) (omega (arith, less))) in
      let here : words_of_number (scalar_set store p v) p ≡ v ∷ [] =
      get_or-set_same store p (set (words_of_number store p) 0 v) [] (omega (arith, room, less)) ∙ one in
      subst (λ n. end (scalar_set store n (evaluated decls store (core_term all name scope e))))
      (sym (named p (omega (arith, less))))
      (subst (λ z. end (scalar_set store p z)) (sym (term_same scope hidden m store few stands e is.1))
      (forgotten_alike scope hidden k (m k) _ _
      (block_follows a (k ∷ scope) (m k ∷ hidden) (omega (arith, less)) is.2 (with_scalar m k v) (scalar_set store p v) turns (
        here ∙ sym (read_here m k (v ∷ [])),
        subst (λ h. Stands all scope hidden h (scalar_set store p v))
            (sym (written_twice m k (v ∷ []) (m k) ∙ own_words m k))
            (stands_outside all scope hidden m store p (set (words_of_number store p) 0 v) (omega arith) stands),
      )
      (sized_set p 0 v (omega (arith, room, less)) sized))))

  ends_alike : (r : Option State) (q : Option Left) → CoreAlike [] [] r q → LeftAlike all r q
  ends_alike None None BothSpent = promise.BothSpent
  ends_alike None (Some t) e = elim e [ ]
  ends_alike (Some s) None e = elim e [ ]
  ends_alike (Some s) (Some t) (BothLeft same stands sized) = promise.BothLeft same (record { same = stands })

  pub core_keeps : (s : Statement) → CoreKeeps decls all most name is_scalar s
  core_keeps s is m store turns agrees sized =
      ends_alike _ _ (block_follows s [] [] (omega arith) is m store turns agrees.same sized)
