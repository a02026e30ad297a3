-- The code of what is left of a procedure depends on nothing but what the names that it needs are.
use Rattle.std.proofs.Common.{◌≡◌, ℕ, ◌+◌, ◌<◌, ◌≤◌, pos, Bool, true, false, cond, inl, inr, List, [], ◌∷◌, ◌++◌, length, drop, take, reverse, get_or, Option, Some, None, refl, sym, ap, ◌∙◌, subst, arith, append_assoc}
use Rattle.std.specs.Prelude.{bytes_eq, is_some}
use Rattle.std.specs.Borrow.{Bor}
use Rattle.std.specs.Option.{option_map}
use Rattle.std.proofs.lemmas.Bool.{cases_lt}
use Rattle.std.proofs.lemmas.List.{append-nil, drop_all, drop_more, length-map, length-reverse, length-take-le, get_or-map}
use Rattle.std.proofs.lemmas.Slice.Eq.{bytes_eq-Decides}
use Rattle.gr_base.proofs.ListTests.{bytes_eq-own}
use Rattle.gr_word.specs.declared.variables.Label.{Label}
use Rattle.src_tree.specs.declared.trees.Decl.{Decl}
use Rattle.src_tree.specs.declared.trees.Expr.{Expr}
use Rattle.src_tree.specs.Prelude.{Tree, Number, Variable, Element, Operation, Test, expr_tree}
use Rattle.procs_tree.specs.Prelude.{Names, Found, found, naming_all, named_by, new_values, new_labels, numbered, Renaming, Inlined, Inlines, assigned, both, choice_of, loop_of, only_statement, inlined, inlined_all, inlined_call, inlines_of, new_name, no_name, renamed, renamed_test, AreNumbered, by_number, Statement, SetVariable, SetElement, Choice, Loop, Call, Block, Nothing, Then, Parameter, OfValue, OfVariable, Procedure, found_at}
use Rattle.procs_pruning.specs.Prelude.{argument_seen, AgreeOn, DependsOn, KeptOf, LiveBody, Placed, argument_at, first_tree, keep_where, keeps, kept_by, kept_from, kept_in, marked, marked_all, marked_argument, marked_kept, no_body, ArePruned, IsPruned, SameCode, bodies_of, body_of, trees_seen}
use Rattle.procs_pruning.specs.declared.needed.Body.{Body}
use Rattle.procs_tree.specs.declared.trees.Proc.{Proc}
use Rattle.procs_pruning.proofs.HandedOn.{locals_alike, zeros_alike}
use Rattle.procs_tree.proofs.Measured.{place_of}
use Rattle.procs_tree.proofs.FoundCalls.{inlines_found, inlines_none}
use Rattle.src_tree.specs.Trees as plain

-- names that are known stay known
abbrev pub Extends : Names → Names → Type 0
Extends known more = (y : List ℕ) → is_some (known y) ≡ true → is_some (more y) ≡ true

still_some : (o : Option ℕ) (b : Bool) → is_some o ≡ true → is_some (cond b (Some 0) o) ≡ true
still_some o true e = refl
still_some o false e = e

name_extends : (known : Names) (x : List ℕ) → Extends known (numbered known x 0)
name_extends known x y e = still_some (known y) (bytes_eq x y) e

own_known : (known : Names) (x : List ℕ) → is_some (numbered known x 0 x) ≡ true
own_known known x = ap (λ (b : Bool). is_some (cond b (Some 0) (known x))) (bytes_eq-own x)

marked_extends : (e : Tree) (known : Names) → Extends known (marked known e)
marked_extends (Number z) known y is = is
marked_extends (Variable x) known y is = name_extends known x y is
marked_extends (Element x i) known y is = marked_extends i (numbered known x 0) y (name_extends known x y is)
marked_extends (Operation op a b) known y is = marked_extends b (marked known a) y (marked_extends a known y is)

argument_extends : (o : Option Tree) (known : Names) → Extends known (marked_argument known o)
argument_extends None known y is = is
argument_extends (Some e) known y is = marked_extends e known y is

kept_extends : (ks : List Placed) (es : List Tree) (known : Names) → Extends known (marked_kept known ks es)
kept_extends [] es known y is = is
kept_extends (k ∷ ks) es known y is =
    kept_extends ks es (marked_argument known (argument_at es k.0)) y
    (argument_extends (argument_at es k.0) known y is)

all_extends : (kept : KeptOf) (b : Block) (known : Names) → Extends known (marked_all kept known b)
all_extends kept Nothing known y is = is
all_extends kept (Then (SetVariable x e) rest) known y is =
    all_extends kept rest (marked (numbered known x 0) e) y
    (marked_extends e (numbered known x 0) y (name_extends known x y is))
all_extends kept (Then (SetElement x i e) rest) known y is =
    let first = numbered known x 0 in
    all_extends kept rest (marked (marked first i) e) y
    (marked_extends e (marked first i) y (marked_extends i first y (name_extends known x y is)))
all_extends kept (Then (Choice t a b) rest) known y is =
    let guard = marked (marked known t.left) t.right in
    all_extends kept rest (marked_all kept (marked_all kept guard a) b) y
    (all_extends kept b (marked_all kept guard a) y
    (all_extends kept a guard y (marked_extends t.right (marked known t.left) y (marked_extends t.left known y is))))
all_extends kept (Then (Loop t a) rest) known y is =
    let guard = marked (marked known t.left) t.right in
    all_extends kept rest (marked_all kept guard a) y
    (all_extends kept a guard y (marked_extends t.right (marked known t.left) y (marked_extends t.left known y is)))
all_extends kept (Then (Call name es) rest) known y is =
    all_extends kept rest (marked_kept known (kept name) es) y (kept_extends (kept name) es known y is)

name_agrees : (known more : Names) (x : List ℕ) (one other : Renaming) → Extends (numbered known x 0) more
    → AgreeOn more one other → one x ≡ other x
name_agrees known more x one other wide h = h x (wide x (own_known known x))

-- an expression
renamed_agrees : (e : Tree) (known more : Names) (one other : Renaming) → Extends (marked known e) more
    → AgreeOn more one other → renamed one e ≡ renamed other e
renamed_agrees (Number z) known more one other wide h = refl
renamed_agrees (Variable x) known more one other wide h = ap Variable (name_agrees known more x one other wide h)
renamed_agrees (Element x i) known more one other wide h =
    let first : one x ≡ other x =
    name_agrees known more x one other (λ y is. wide y (marked_extends i (numbered known x 0) y is)) h in
    ap (λ n. Element n (renamed one i)) first
    ∙ ap (Element (other x)) (renamed_agrees i (numbered known x 0) more one other wide h)
renamed_agrees (Operation op a b) known more one other wide h =
    ap (λ t. Operation op t (renamed one b))
    (renamed_agrees a known more one other (λ y is. wide y (marked_extends b (marked known a) y is)) h)
    ∙ ap (Operation op (renamed other a)) (renamed_agrees b (marked known a) more one other wide h)

named_agrees : (e : Tree) (known more : Names) (one other : Renaming) → Extends (marked known e) more
    → AgreeOn more one other → named_by no_name one e ≡ named_by no_name other e
named_agrees (Variable x) known more one other wide h = name_agrees known more x one other wide h
named_agrees rest known more one other wide h = refl

abbrev test_with : Test → Tree → Tree → Test
test_with t l r = record { cmp = t.cmp; left = l; right = r }

test_agrees : (t : Test) (known more : Names) (one other : Renaming)
    → Extends (marked (marked known t.left) t.right) more → AgreeOn more one other
    → renamed_test one t ≡ renamed_test other t
test_agrees t known more one other wide h =
    ap (λ (l : Tree). test_with t l (renamed one t.right))
    (renamed_agrees t.left known more one other
    (λ y is. wide y (marked_extends t.right (marked known t.left) y is)) h)
    ∙ ap (test_with t (renamed other t.left))
    (renamed_agrees t.right (marked known t.left) more one other wide h)

-- the arguments that a procedure needs are the same for two callers
data SameGiven (needed : Names) (one other : Renaming) : List Parameter → List Tree → Type 0 where
  NoParameters : {es : List Tree} → SameGiven needed one other [] es
  NoArguments : {p : Parameter} {ps : List Parameter} → SameGiven needed one other (p ∷ ps) []
  OneValue : {label : Label} {name : List ℕ} {ps : List Parameter} {e : Tree} {es : List Tree}
      → renamed one e ≡ renamed other e → SameGiven needed one other ps es
      → SameGiven needed one other (OfValue label name ∷ ps) (e ∷ es)
  OneVariable : {name : List ℕ} {ps : List Parameter} {e : Tree} {es : List Tree}
      → (is_some (needed name) ≡ true → named_by no_name one e ≡ named_by no_name other e)
      → SameGiven needed one other ps es → SameGiven needed one other (OfVariable name ∷ ps) (e ∷ es)

values_same : (needed : Names) (one other : Renaming) (ps : List Parameter) (es : List Tree)
    → SameGiven needed one other ps es → (n : ℕ) (ls : List Decl)
    → assigned one n (new_values ps es ls) ≡ assigned other n (new_values ps es ls)
values_same needed one other _ _ (NoParameters {es = es}) n ls = locals_alike one other n es es ls
values_same needed one other _ _ NoArguments n [] = refl
values_same needed one other _ _ NoArguments n (l ∷ ls) =
    ap (plain.Then (plain.SetVariable (new_name n) (Number (pos 0)))) (zeros_alike one other (n + 1) ls)
values_same needed one other _ _ (OneValue {ps = ps} {e = e} {es = es} same g) n ls =
    ap (λ v. plain.Then (plain.SetVariable (new_name n) v) (assigned one (n + 1) (new_values ps es ls))) same
    ∙ ap (plain.Then (plain.SetVariable (new_name n) (renamed other e)))
    (values_same needed one other ps es g (n + 1) ls)
values_same needed one other _ _ (OneVariable {ps = ps} {es = es} same g) n ls =
    values_same needed one other ps es g n ls

picked : (b : Bool) (a c r s : List ℕ) → (b ≡ true → a ≡ c) → r ≡ s → cond b a r ≡ cond b c s
picked true a c r s f e = f refl
picked false a c r s f e = e

names_same : (needed : Names) (one other : Renaming) (ps : List Parameter) (es : List Tree)
    → SameGiven needed one other ps es → (n : ℕ) (ls : List Decl)
    → AgreeOn needed (naming_all new_name no_name one n ps es ls) (naming_all new_name no_name other n ps es ls)
names_same needed one other _ _ NoParameters n ls y is = refl
names_same needed one other _ _ NoArguments n ls y is = refl
names_same needed one other _ _ (OneValue {name = name} {ps = ps} {es = es} same g) n ls y is =
    ap (λ t. cond (bytes_eq y name) (new_name n) t) (names_same needed one other ps es g (n + 1) ls y is)
names_same needed one other _ _ (OneVariable {name = name} {ps = ps} {e = e} {es = es} same g) n ls y is =
    picked (bytes_eq y name) (named_by no_name one e) (named_by no_name other e)
    (naming_all new_name no_name one n ps es ls y) (naming_all new_name no_name other n ps es ls y)
    (λ t. same (subst (λ (z : List ℕ). is_some (needed z) ≡ true) ((bytes_eq-Decides y name).0 t) is))
    (names_same needed one other ps es g n ls y is)

both_same : (one : Inlined) (f g : ℕ → Inlined) → ((n : ℕ) → f n ≡ g n) → (next : ℕ)
    → both one f next ≡ both one g next
both_same one f g h next = ap (λ (z : Inlined). both one (λ n. z) next) (h (next + length one.labels))

first_same : (a b : Inlined) (f : ℕ → Inlined) → a ≡ b → (next : ℕ) → both a f next ≡ both b f next
first_same a b f e next = ap (λ (z : Inlined). both z f next) e

abbrev call_of : Inlines → Procedure → ℕ → plain.Block → List Label → Renaming → Inlined
call_of inlines p next block labels names =
    both (record { block = block; labels = labels }) (inlined_all inlines names p.body) next

-- a call of a procedure for two callers
call_same : (inlines : Inlines) (p : Procedure) (needed : Names) (one other : Renaming) (es : List Tree)
    → SameGiven needed one other p.parameters es → DependsOn inlines needed p.body → (next : ℕ)
    → inlined_call inlines p one es next ≡ inlined_call inlines p other es next
call_same inlines p needed one other es g needs next =
    let ps = p.parameters in
    let ls = p.locals in
    let first : Inlined = record {
      block = assigned other next (new_values ps es ls);
      labels = new_labels ps es ls;
    } in
    ap (λ b. call_of inlines p next b (new_labels ps es ls) (naming_all new_name no_name one next ps es ls))
    (values_same needed one other ps es g next ls)
    ∙ both_same first (inlined_all inlines (naming_all new_name no_name one next ps es ls) p.body)
    (inlined_all inlines (naming_all new_name no_name other next ps es ls) p.body)
    (needs (naming_all new_name no_name one next ps es ls) (naming_all new_name no_name other next ps es ls)
    (names_same needed one other ps es g next ls)) next

some_there : (all : List Tree) (i : ℕ) → i < length all
    → argument_at all i ≡ Some (get_or all i (Number (pos 0)))
some_there all i lt = ap first_tree (drop_more all i (Number (pos 0)) lt)

one_given : (needed : Names) (one other : Renaming) (all : List Tree) (i : ℕ) (p : Parameter) (ps : List Parameter)
    (known more : Names) → i < length all → AgreeOn more one other
    → ((now : Names) → Extends (marked_kept now (kept_from needed (i + 1) ps) all) more
    → SameGiven needed one other ps (drop (i + 1) all))
    → Extends (marked_kept known (kept_from needed i (p ∷ ps)) all) more
    → SameGiven needed one other (p ∷ ps) (get_or all i (Number (pos 0)) ∷ drop (i + 1) all)
one_given needed one other all i (OfValue label name) ps known more lt h next wide =
    let e = get_or all i (Number (pos 0)) in
    let rest = kept_from needed (i + 1) ps in
    let far : Extends (marked_kept (marked known e) rest all) more =
    subst (λ (o : Option Tree). Extends (marked_kept (marked_argument known o) rest all) more)
    (some_there all i lt) wide in
    OneValue (renamed_agrees e known more one other (λ y is. far y (kept_extends rest all (marked known e) y is)) h)
    (next (marked known e) far)
one_given needed one other all i (OfVariable name) ps known more lt h next wide =
    by (is_some (needed name)) refl wide
  where
    by : (b : Bool) → is_some (needed name) ≡ b
        → Extends (marked_kept known (keep_where b (i, OfVariable name) (kept_from needed (i + 1) ps)) all) more
        → SameGiven needed one other (OfVariable name ∷ ps) (get_or all i (Number (pos 0)) ∷ drop (i + 1) all)
    by true is w =
        let e = get_or all i (Number (pos 0)) in
        let rest = kept_from needed (i + 1) ps in
        let far : Extends (marked_kept (marked known e) rest all) more =
        subst (λ (o : Option Tree). Extends (marked_kept (marked_argument known o) rest all) more)
        (some_there all i lt) w in
        OneVariable
        (λ t. named_agrees e known more one other (λ y k. far y (kept_extends rest all (marked known e) y k)) h)
        (next (marked known e) far)
    by false is w = OneVariable (λ t. absurd (let f : true ≡ false = sym t ∙ is in cc)) (next known w)

-- what is marked of a call's arguments
given_same : (needed : Names) (one other : Renaming) (all : List Tree) (more : Names) → AgreeOn more one other
    → (ps : List Parameter) (i : ℕ) (known : Names) → Extends (marked_kept known (kept_from needed i ps) all) more
    → SameGiven needed one other ps (drop i all)
given_same needed one other all more h [] i known wide = NoParameters
given_same needed one other all more h (p ∷ ps) i known wide =
    elim (cases_lt i (length all)) [
      | inl lt ↦ subst (λ (es : List Tree). SameGiven needed one other (p ∷ ps) es)
          (sym (drop_more all i (Number (pos 0)) lt))
          (one_given needed one other all i p ps known more lt h
          (given_same needed one other all more h ps (i + 1)) wide)
      | inr past ↦ subst (λ (es : List Tree). SameGiven needed one other (p ∷ ps) es) (sym (drop_all i all past))
          NoArguments
    ]

-- calls need the arguments that they bind, and no others
record CallsNeed (inlines : Inlines) (kept : KeptOf) : Type 0 where
  need : (name : List ℕ) (es : List Tree) (known more : Names) (one other : Renaming)
      → Extends (marked_kept known (kept name) es) more → AgreeOn more one other → (next : ℕ)
      → inlines name one es next ≡ inlines name other es next

then_same : (inlines : Inlines) (one other : Renaming) (s : Statement) (rest : Block)
    → ((next : ℕ) → inlined inlines one s next ≡ inlined inlines other s next)
    → ((next : ℕ) → inlined_all inlines one rest next ≡ inlined_all inlines other rest next)
    → (next : ℕ) → inlined_all inlines one (Then s rest) next ≡ inlined_all inlines other (Then s rest) next
then_same inlines one other s rest f g next =
    first_same (inlined inlines one s next) (inlined inlines other s next) (inlined_all inlines one rest) (f next) next
    ∙ both_same (inlined inlines other s next) (inlined_all inlines one rest) (inlined_all inlines other rest) g next

two_same : (s t : Test) (a b : Inlined) (f g : ℕ → Inlined) → s ≡ t → a ≡ b → ((n : ℕ) → f n ≡ g n) → (next : ℕ)
    → choice_of s a (f (next + length a.labels)) ≡ choice_of t b (g (next + length b.labels))
two_same s t a b f g same e h next =
    ap (λ (q : Test). choice_of q a (f (next + length a.labels))) same
    ∙ (ap (λ (z : Inlined). choice_of t z (f (next + length z.labels))) e
    ∙ ap (choice_of t b) (h (next + length b.labels)))

block_needs : (inlines : Inlines) (kept : KeptOf) → CallsNeed inlines kept → (b : Block) (known more : Names)
    → Extends (marked_all kept known b) more → (one other : Renaming) → AgreeOn more one other → (next : ℕ)
    → inlined_all inlines one b next ≡ inlined_all inlines other b next
block_needs inlines kept calls Nothing known more wide one other h next = refl
block_needs inlines kept calls (Then (SetVariable x e) rest) known more wide one other h next =
    let first = numbered known x 0 in
    let here : Extends (marked first e) more = λ y is. wide y (all_extends kept rest (marked first e) y is) in
    then_same inlines one other (SetVariable x e) rest
    (λ n. ap (λ (z : List ℕ). only_statement (plain.SetVariable z (renamed one e)) [])
    (name_agrees known more x one other (λ y is. here y (marked_extends e first y is)) h)
    ∙ ap (λ (t : Tree). only_statement (plain.SetVariable (other x) t) [])
    (renamed_agrees e first more one other here h))
    (block_needs inlines kept calls rest (marked first e) more wide one other h) next
block_needs inlines kept calls (Then (SetElement x i e) rest) known more wide one other h next =
    let first = numbered known x 0 in
    let second = marked first i in
    let here : Extends (marked second e) more = λ y is. wide y (all_extends kept rest (marked second e) y is) in
    let index : Extends second more = λ y is. here y (marked_extends e second y is) in
    then_same inlines one other (SetElement x i e) rest
    (λ n. ap (λ (z : List ℕ). only_statement (plain.SetElement z (renamed one i) (renamed one e)) [])
    (name_agrees known more x one other (λ y is. index y (marked_extends i first y is)) h)
    ∙ (ap (λ (t : Tree). only_statement (plain.SetElement (other x) t (renamed one e)) [])
    (renamed_agrees i first more one other index h)
    ∙ ap (λ (t : Tree). only_statement (plain.SetElement (other x) (renamed other i) t) [])
    (renamed_agrees e second more one other here h)))
    (block_needs inlines kept calls rest (marked second e) more wide one other h) next
block_needs inlines kept calls (Then (Choice t a b) rest) known more wide one other h next =
    let guard = marked (marked known t.left) t.right in
    let first = marked_all kept guard a in
    let second = marked_all kept first b in
    let wide_b : Extends second more = λ y is. wide y (all_extends kept rest second y is) in
    let wide_a : Extends first more = λ y is. wide_b y (all_extends kept b first y is) in
    let wide_t : Extends guard more = λ y is. wide_a y (all_extends kept a guard y is) in
    then_same inlines one other (Choice t a b) rest
    (λ n. two_same (renamed_test one t) (renamed_test other t) (inlined_all inlines one a n)
    (inlined_all inlines other a n) (inlined_all inlines one b) (inlined_all inlines other b)
    (test_agrees t known more one other wide_t h) (block_needs inlines kept calls a guard more wide_a one other h n)
    (block_needs inlines kept calls b first more wide_b one other h) n)
    (block_needs inlines kept calls rest second more wide one other h) next
block_needs inlines kept calls (Then (Loop t a) rest) known more wide one other h next =
    let guard = marked (marked known t.left) t.right in
    let first = marked_all kept guard a in
    let wide_a : Extends first more = λ y is. wide y (all_extends kept rest first y is) in
    let wide_t : Extends guard more = λ y is. wide_a y (all_extends kept a guard y is) in
    then_same inlines one other (Loop t a) rest
    (λ n. ap (λ (q : Test). loop_of q (inlined_all inlines one a n)) (test_agrees t known more one other wide_t h)
    ∙ ap (loop_of (renamed_test other t)) (block_needs inlines kept calls a guard more wide_a one other h n))
    (block_needs inlines kept calls rest first more wide one other h) next
block_needs inlines kept calls (Then (Call name es) rest) known more wide one other h next =
    let here = marked_kept known (kept name) es in
    then_same inlines one other (Call name es) rest
    (calls.need name es known more one other (λ y is. wide y (all_extends kept rest here y is)) h)
    (block_needs inlines kept calls rest here more wide one other h) next

-- a body needs what is left of it needs
body_needs : (earlier : List Procedure) (p : Procedure) (body : LiveBody) → IsPruned earlier p body
    → DependsOn (inlines_of earlier) body.needed p.body
body_needs earlier p body is one other h next =
    sym (is.same one next) ∙ (is.needs one other h next ∙ is.same other next)

found_same : (ps : List Procedure) (bodies : List LiveBody) (callable : ℕ) → ArePruned ps bodies
    → callable ≤ length bodies → (name : List ℕ) (es : List Tree) (known more : Names) (one other : Renaming)
    → (o : Option Found) → found (reverse (take callable ps)) name ≡ o
    → Extends (marked_kept known (kept_in bodies o) es) more → AgreeOn more one other → (next : ℕ)
    → inlines_of (reverse (take callable ps)) name one es next
    ≡ inlines_of (reverse (take callable ps)) name other es next
found_same ps bodies callable known_bodies long name es known more one other None e wide h next =
    inlines_none (reverse (take callable ps)) name e one es next
    ∙ sym (inlines_none (reverse (take callable ps)) name e other es next)
found_same ps bodies callable known_bodies long name es known more one other (Some f) e wide h next =
    let p = place_of ps callable name f e in
    let before = p.before in
    let within = p.within in
    let place : length f.earlier ≡ p.place =
    ap (λ (qs : List Procedure). length qs) (sym p.earlier)
    ∙ (length-reverse (take p.place ps) ∙ length-take-le p.place ps (omega (arith, within))) in
    let body = get_or bodies p.place no_body in
    let is : IsPruned f.earlier f.procedure body =
    subst (λ (qs : List Procedure). IsPruned qs f.procedure body) p.earlier
    (subst (λ (q : Procedure). IsPruned (reverse (take p.place ps)) q body) p.procedure
    (known_bodies.each p.place (omega (arith, before, long)))) in
    let kept : kept_in bodies (Some f) ≡ kept_from body.needed 0 f.procedure.parameters =
    ap (λ (k : ℕ). (get_or bodies k no_body).kept) place ∙ is.kept in
    let far : Extends (marked_kept known (kept_from body.needed 0 f.procedure.parameters) es) more =
    subst (λ (ks : List Placed). Extends (marked_kept known ks es) more) kept wide in
    inlines_found (reverse (take callable ps)) name f e one es next
    ∙ (call_same (inlines_of f.earlier) f.procedure body.needed one other es
    (given_same body.needed one other es more h f.procedure.parameters 0 known far)
    (body_needs f.earlier f.procedure body is) next
    ∙ sym (inlines_found (reverse (take callable ps)) name f e other es next))

calls_need : (ps : List Procedure) (bodies : List LiveBody) (callable : ℕ) (numbers : Names) → ArePruned ps bodies
    → AreNumbered ps numbers → callable ≤ length bodies
    → CallsNeed (inlines_of (reverse (take callable ps))) (kept_by bodies (by_number ps callable numbers))
calls_need ps bodies callable numbers known numbered_so long = record {
  need = λ name es now more one other wide h next.
      found_same ps bodies callable known long name es now more one other (by_number ps callable numbers name)
      (numbered_so callable name) wide h next;
}

-- what is left of a procedure, with what its statements need
pub left_pruned : (ps : List Procedure) (bodies : List LiveBody) (numbers start : Names) (p : Procedure)
    (body : LiveBody) (k : ℕ) → ArePruned ps bodies → AreNumbered ps numbers → length bodies ≡ k
    → SameCode (reverse (take k ps)) body.statements p.body
    → body.needed ≡ marked_all (kept_by bodies (by_number ps k numbers)) start body.statements
    → body.kept ≡ kept_from body.needed 0 p.parameters
    → IsPruned (reverse (take k ps)) p body
left_pruned ps bodies numbers start p body k known numbered_so long same needs kept = record {
  same = same;
  needs = λ one other h next.
      block_needs (inlines_of (reverse (take k ps))) (kept_by bodies (by_number ps k numbers))
      (calls_need ps bodies k numbers known numbered_so (omega (arith, long))) body.statements start body.needed
      (λ y is. subst (λ (names : Names). is_some (names y) ≡ true) (sym needs) is) one other h next;
  kept = kept;
}

pub argument_there : (arguments : List (Bor Expr)) (at : ℕ) (e : Bor Expr) → at < length arguments
    → e ≡ get_or arguments at e
    → option_map argument_seen (Some e) ≡ argument_at (trees_seen arguments) at
argument_there arguments at e lt is =
    ap (λ (x : Bor Expr). Some (expr_tree x.now)) is
    ∙ (ap Some (sym (get_or-map (λ (b : Bor Expr). expr_tree b.now) arguments at e (Number (pos 0)) lt))
    ∙ sym (some_there (trees_seen arguments) at
    (let long = length-map arguments (λ (b : Bor Expr). expr_tree b.now) in omega (arith, long, lt))))

pub no_argument : (arguments : List (Bor Expr)) (at : ℕ) → length arguments ≤ at
    → ◌≡◌ {A = Option Tree} None (argument_at (trees_seen arguments) at)
no_argument arguments at past =
    let long = length-map arguments (λ (b : Bor Expr). expr_tree b.now) in
    sym (ap first_tree (drop_all at (trees_seen arguments) (omega (arith, long, past))))

kept_split : (b : Bool) (done : List Placed) (p : Placed) (rest : List Placed)
    → (done ++ keep_where b p []) ++ rest ≡ done ++ keep_where b p rest
kept_split true done p rest = append_assoc done (p ∷ []) rest
kept_split false done p rest = ap (λ (ks : List Placed). ks ++ rest) (append-nil done)

-- one parameter more
pub kept_one : (needed : Names) (i : ℕ) (p : Parameter) (ps : List Parameter) (done : List Placed)
    → (done ++ keep_where (keeps needed p) (i, p) []) ++ kept_from needed (i + 1) ps
    ≡ done ++ kept_from needed i (p ∷ ps)
kept_one needed i p ps done = kept_split (keeps needed p) done (i, p) (kept_from needed (i + 1) ps)

-- a call marks what it binds
pub none_marked : (procs : List Proc) (bodies : List Body) (known : Names) (es : List Tree) (o : Option Found)
    → found_at procs None ≡ o → known ≡ marked_kept known (kept_in (bodies_of bodies) o) es
none_marked procs bodies known es o is = ap (λ (q : Option Found). marked_kept known (kept_in (bodies_of bodies) q) es) is

pub as_long : (bodies : List Body) (k : ℕ) → length bodies ≡ k → length (bodies_of bodies) ≡ k
as_long bodies k long = length-map bodies body_of ∙ long
