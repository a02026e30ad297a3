-- Statements without the calls that add nothing make the same code.
use Rattle.std.proofs.Common.{inl, inr, map, ◌≡◌, ◌≢◌, Option, Some, None, ℕ, zero, suc, ◌+◌, ◌<◌, ◌≤◌, List, [], ◌∷◌, ◌++◌, length, take, drop, reverse, get_or, refl, sym, ap, ◌∙◌, subst, arith}
use Rattle.std.proofs.lemmas.Bool.{cases_lt}
use Rattle.std.proofs.lemmas.List.{get_or-map, length-map, length_push, drop_all, get_or_append_left, get_or_push}
use Rattle.gr_word.specs.declared.variables.Label.{Label}
use Rattle.src_tree.specs.Prelude.{shown_number, Tree, Test}
use Rattle.procs_tree.specs.Prelude.{Names, Renaming, Inlines, Inlined, both, choice_of, loop_of, inlined, inlined_all, inlines_of, renamed_test, HasSizes, sizes_by, AreNumbered, by_number, block_of, block_of_all, procedure_of, CallSizes, sizes_of, HasSize, Statement, SetVariable, SetElement, Choice, Loop, Call, Block, Nothing, Then, Procedure, no_procedure}
use Rattle.procs_pruning.specs.Prelude.{ArePruned, IsPruned, SameCode, behind, pruned, unless_none, with_first, LiveBody, no_body, bodies_of, body_of, live_of}
use Rattle.procs_pruning.specs.declared.live.Live.{Live}
use Rattle.procs_pruning.specs.declared.needed.Body.{Body}
use Rattle.procs_tree.specs.declared.trees.Proc.{Proc}
use Rattle.procs_tree.specs.declared.trees.PStmt.{PStmt}
use Rattle.procs_tree.proofs.Counted.{calls_have_size, nothing_of_size}
use Rattle.procs_tree.proofs.Measured.{all_measured, same_call}
use Rattle.src_tree.specs.Trees as plain

pub behind_nothing : (ss : List Statement) → behind ss Nothing ≡ block_of ss
behind_nothing [] = refl
behind_nothing (s ∷ ss) = ap (Then s) (behind_nothing ss)

pub all_behind : (sizes : CallSizes) (front : List Statement) (ss : List PStmt) (i : ℕ) (total : Block)
    → length ss ≤ i → behind front (pruned sizes (block_of_all (drop i ss))) ≡ total → block_of front ≡ total
all_behind sizes front ss i total le is =
    sym (behind_nothing front)
    ∙ (sym (ap (λ (rest : List PStmt). behind front (pruned sizes (block_of_all rest))) (drop_all i ss le)) ∙ is)

pub behind_push : (all : List Live) (x : Live) (b : Block)
    → behind (map live_of (all ++ x ∷ [])) b ≡ behind (map live_of all) (Then (live_of x) b)
behind_push [] x b = refl
behind_push (l ∷ all) x b = ap (Then (live_of l)) (behind_push all x b)

pub dead_call : (counted size : ℕ) (s : Statement) → counted ≡ size → counted ≡ 0
    → ◌≡◌ {A = Option Statement} None (unless_none size s)
dead_call counted size s is none = ap (λ n. unless_none n s) (sym none ∙ is)

pub live_call : (counted size : ℕ) (s : Statement) → counted ≡ size → counted ≢ 0
    → ◌≡◌ {A = Option Statement} (Some s) (unless_none size s)
live_call zero size s is some = absurd (some refl)
live_call (suc n) size s is some = ap (λ m. unless_none m s) is

abbrev no_code : Inlined
no_code = record { block = plain.Nothing; labels = [] }

both_same : (one : Inlined) (f g : ℕ → Inlined) → ((n : ℕ) → f n ≡ g n) → (next : ℕ)
    → both one f next ≡ both one g next
both_same one f g h next = ap (λ (z : Inlined). both one (λ n. z) next) (h (next + length one.labels))

first_same : (a b : Inlined) (f : ℕ → Inlined) → a ≡ b → (next : ℕ) → both a f next ≡ both b f next
first_same a b f e next = ap (λ (z : Inlined). both z f next) e

nothing_first : (f : ℕ → Inlined) (next : ℕ) → f next ≡ both no_code f next
nothing_first f next = let e : next ≡ next + 0 = omega arith in ap f e

-- calls that add nothing
pub record AreDead (sizes : CallSizes) (inlines : Inlines) : Type 0 where
  pub dead : (name : List ℕ) (es : List Tree) → shown_number (sizes name es) ≡ 0 → (names : Renaming) (next : ℕ)
      → inlines name names es next ≡ record { block = plain.Nothing; labels = [] }

call_code : (inlines : Inlines) (name : List ℕ) (es : List Tree) (names : Renaming) (size : ℕ)
    → (size ≡ 0 → (next : ℕ) → inlines name names es next ≡ no_code) → (less rest : Block)
    → ((next : ℕ) → inlined_all inlines names less next ≡ inlined_all inlines names rest next) → (next : ℕ)
    → inlined_all inlines names (with_first (unless_none size (Call name es)) less) next
    ≡ inlined_all inlines names (Then (Call name es) rest) next
call_code inlines name es names zero dead less rest h next =
    h next
    ∙ (nothing_first (inlined_all inlines names rest) next
    ∙ first_same no_code (inlines name names es next) (inlined_all inlines names rest) (sym (dead refl next)) next)
call_code inlines name es names (suc n) dead less rest h next =
    both_same (inlines name names es next) (inlined_all inlines names less) (inlined_all inlines names rest) h next

choice_same : (t : Test) (a b : Inlined) (f g : ℕ → Inlined) → a ≡ b → ((n : ℕ) → f n ≡ g n) → (next : ℕ)
    → choice_of t a (f (next + length a.labels)) ≡ choice_of t b (g (next + length b.labels))
choice_same t a b f g e h next =
    ap (choice_of t a) (h (next + length a.labels))
    ∙ ap (λ (z : Inlined). choice_of t z (g (next + length z.labels))) e

pub same_code : (sizes : CallSizes) (inlines : Inlines) → AreDead sizes inlines → (b : Block) (names : Renaming)
    (next : ℕ) → inlined_all inlines names (pruned sizes b) next ≡ inlined_all inlines names b next
same_code sizes inlines d Nothing names next = refl
same_code sizes inlines d (Then (SetVariable x e) rest) names next =
    both_same (inlined inlines names (SetVariable x e) next) _ _ (same_code sizes inlines d rest names) next
same_code sizes inlines d (Then (SetElement x i e) rest) names next =
    both_same (inlined inlines names (SetElement x i e) next) _ _ (same_code sizes inlines d rest names) next
same_code sizes inlines d (Then (Choice t a b) rest) names next =
    both_same (inlined inlines names (Choice t (pruned sizes a) (pruned sizes b)) next) _ _
    (same_code sizes inlines d rest names) next
    ∙ first_same _ _ (inlined_all inlines names rest)
    (choice_same (renamed_test names t) _ _ (inlined_all inlines names (pruned sizes b)) (inlined_all inlines names b)
    (same_code sizes inlines d a names next) (same_code sizes inlines d b names) next) next
same_code sizes inlines d (Then (Loop t a) rest) names next =
    both_same (inlined inlines names (Loop t (pruned sizes a)) next) _ _ (same_code sizes inlines d rest names) next
    ∙ first_same _ _ (inlined_all inlines names rest)
    (ap (loop_of (renamed_test names t)) (same_code sizes inlines d a names next)) next
same_code sizes inlines d (Then (Call name es) rest) names next =
    call_code inlines name es names (shown_number (sizes name es)) (λ e n. d.dead name es e names n)
    (pruned sizes rest) rest (same_code sizes inlines d rest names) next

nothing : (i : Inlined) → HasSize 0 i → i ≡ no_code
nothing i h =
    let n = nothing_of_size i h in
    ap (λ (b : plain.Block). record { block = b; labels = i.labels }) n.block
    ∙ ap (λ (ls : List Label). record { block = plain.Nothing; labels = ls }) n.labels

nothing_of : (ps : List Procedure) (name : List ℕ) (es : List Tree) → shown_number (sizes_of ps name es) ≡ 0
    → (names : Renaming) (next : ℕ) → inlines_of ps name names es next ≡ no_code
nothing_of ps name es e names next =
    let zero_size : sizes_of ps name es ≡ 0 = omega (arith, e) in
    nothing (inlines_of ps name names es next)
    (subst (λ n. HasSize n (inlines_of ps name names es next)) zero_size
    ((calls_have_size ps).sized name names es next))

-- calls that are counted by number
pub counted_dead : (ps : List Procedure) (sizes : List ℕ) (callable : ℕ) → HasSizes ps sizes → (numbers : Names)
    → AreNumbered ps numbers
    → AreDead (sizes_by sizes (by_number ps callable numbers)) (inlines_of (reverse (take callable ps)))
counted_dead ps sizes callable h numbers known = record {
  dead = λ name es e names next.
      nothing_of (reverse (take callable ps)) name es
      (sym (same_call ps sizes callable (all_measured ps sizes callable h) numbers known name es) ∙ e) names next;
}

-- what is left has the same code
pub left_same : (ps : List Procedure) (sizes : List ℕ) (callable : ℕ) → HasSizes ps sizes → (numbers : Names)
    → AreNumbered ps numbers → (less b : Block) → less ≡ pruned (sizes_by sizes (by_number ps callable numbers)) b
    → SameCode (reverse (take callable ps)) less b
left_same ps sizes callable h numbers known less b e names next =
    ap (λ (z : Block). inlined_all (inlines_of (reverse (take callable ps))) names z next) e
    ∙ same_code (sizes_by sizes (by_number ps callable numbers)) (inlines_of (reverse (take callable ps)))
    (counted_dead ps sizes callable h numbers known) b names next

-- one more body
pub one_body_more : (ps : List Procedure) (bodies : List LiveBody) (b : LiveBody) → ArePruned ps bodies
    → IsPruned (reverse (take (length bodies) ps)) (get_or ps (length bodies) no_procedure) b
    → ArePruned ps (bodies ++ b ∷ [])
one_body_more ps bodies b known same =
    let long = length_push bodies b in
    record {
      each = λ k lt. elim (cases_lt k (length bodies)) [
        | inl below ↦ subst (λ (z : LiveBody). IsPruned (reverse (take k ps)) (get_or ps k no_procedure) z)
            (sym (get_or_append_left bodies (b ∷ []) no_body k below)) (known.each k below)
        | inr from ↦ (let last : k ≡ length bodies = omega (long, lt, from, arith) in
            subst (λ n. IsPruned (reverse (take n ps)) (get_or ps n no_procedure)
            (get_or (bodies ++ b ∷ []) n no_body)) (sym last)
            (subst (λ (z : LiveBody). IsPruned (reverse (take (length bodies) ps))
            (get_or ps (length bodies) no_procedure) z)
            (sym (get_or_push bodies b no_body (length bodies) refl)) same))
      ];
    }

bodies_push : (bodies : List Body) (body : Body) → bodies_of (bodies ++ body ∷ []) ≡ bodies_of bodies ++ body_of body ∷ []
bodies_push [] body = refl
bodies_push (b ∷ bs) body = ap (λ (rest : List LiveBody). body_of b ∷ rest) (bodies_push bs body)

pub one_live_more : (procs : List Proc) (bodies : List Body) (p : Proc) (i : ℕ) (body : Body)
    → length bodies ≡ i → i < length procs → p ≡ get_or procs i p
    → ArePruned (map procedure_of procs) (bodies_of bodies)
    → IsPruned (reverse (take i (map procedure_of procs))) (procedure_of p) (body_of body)
    → ArePruned (map procedure_of procs) (bodies_of (bodies ++ body ∷ []))
one_live_more procs bodies p i body long lt is known left =
    let ps = map procedure_of procs in
    let all = length-map bodies body_of in
    let count : i ≡ length (bodies_of bodies) = omega (all, long, arith) in
    subst (ArePruned ps) (sym (bodies_push bodies body))
    (one_body_more ps (bodies_of bodies) (body_of body) known
    (subst (λ n. IsPruned (reverse (take n ps)) (get_or ps n no_procedure) (body_of body)) count
    (subst (λ (q : Procedure). IsPruned (reverse (take i ps)) q (body_of body))
    (sym (get_or-map procedure_of procs i p no_procedure lt ∙ ap procedure_of (sym is))) left)))
