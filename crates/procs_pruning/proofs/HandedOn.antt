-- A call of a procedure that only hands its arguments on has the code of the call that it comes down to.
use Rattle.std.proofs.Common.{map, ◌≡◌, ◌<◌, Option, Some, None, ℕ, ◌+◌, pos, drop, get_or, length, Bool, true, false, cond, List, [], ◌∷◌, ◌++◌, refl, sym, ap, ◌∙◌, arith}
use Rattle.std.specs.Prelude.{bytes_eq}
use Rattle.std.proofs.Math.Path.{fun_ext}
use Rattle.std.specs.Borrow.{Bor}
use Rattle.std.specs.BTreeMap.{BTreeMap, get, is_at}
use Rattle.std.specs.Option.{option_map}
use Rattle.std.proofs.lemmas.List.{append-nil, drop_more}
use Rattle.gr_base.proofs.NameMaps.{key_cmp, name_added}
use Rattle.gr_base.specs.Prelude.{found_under}
use Rattle.gr_word.specs.declared.variables.Label.{Label}
use Rattle.src_tree.specs.declared.trees.Decl.{Decl}
use Rattle.src_tree.specs.declared.trees.Expr.{Expr}
use Rattle.src_tree.specs.Prelude.{Tree, Number, Variable, Element, Operation}
use Rattle.procs_tree.specs.Prelude.{Found, found, naming_all, named_by, new_values, new_labels, parameter_name, parameter_of, Renaming, Inlined, Inlines, assigned, both, inlined, inlined_all, inlined_call, inlines_of, blocks_joined, new_name, no_name, renamed, scalars, Statement, Block, Call, Nothing, Then, Parameter, OfValue, OfVariable, Procedure}
use Rattle.procs_pruning.specs.Prelude.{Arguments, HandsOn, SameStatement, argument_of, argument_seen, arguments_under, bare, handed, with_argument, trees_seen, SameCode}
use Rattle.procs_tree.specs.declared.trees.Param.{Param}
use Rattle.procs_tree.proofs.NumbersAdded.{flipped}
use Rattle.procs_tree.proofs.FoundCalls.{inlines_found}
use Rattle.src_tree.specs.Trees as plain

-- the arguments of two callers that are the same in the program
pub data Alike (one other : Renaming) : List Tree → List Tree → Type 0 where
  NoneAlike : Alike one other [] []
  OneAlike : {d z : Tree} {ds zs : List Tree} → renamed one d ≡ renamed other z
      → named_by no_name one d ≡ named_by no_name other z → Alike one other ds zs
      → Alike one other (d ∷ ds) (z ∷ zs)

pub zeros_alike : (one other : Renaming) (n : ℕ) (ls : List Decl)
    → assigned one n (new_values [] [] ls) ≡ assigned other n (new_values [] [] ls)
zeros_alike one other n [] = refl
zeros_alike one other n (l ∷ ls) =
    ap (plain.Then (plain.SetVariable (new_name n) (Number (pos 0)))) (zeros_alike one other (n + 1) ls)

pub locals_alike : (one other : Renaming) (n : ℕ) (ds zs : List Tree) (ls : List Decl)
    → assigned one n (new_values [] ds ls) ≡ assigned other n (new_values [] zs ls)
locals_alike one other n ds zs [] = refl
locals_alike one other n ds zs (l ∷ ls) =
    ap (plain.Then (plain.SetVariable (new_name n) (Number (pos 0)))) (zeros_alike one other (n + 1) ls)

values_alike : (one other : Renaming) (ds zs : List Tree) → Alike one other ds zs → (n : ℕ) (ps : List Parameter)
    (ls : List Decl) → assigned one n (new_values ps ds ls) ≡ assigned other n (new_values ps zs ls)
values_alike one other ds zs a n [] ls = locals_alike one other n ds zs ls
values_alike one other _ _ NoneAlike n (p ∷ ps) [] = refl
values_alike one other _ _ NoneAlike n (p ∷ ps) (l ∷ ls) =
    ap (plain.Then (plain.SetVariable (new_name n) (Number (pos 0)))) (zeros_alike one other (n + 1) ls)
values_alike one other _ _ (OneAlike {d = d} {z = z} {ds = ds} {zs = zs} e f a) n (OfValue label name ∷ ps) ls =
    ap (λ v. plain.Then (plain.SetVariable (new_name n) v) (assigned one (n + 1) (new_values ps ds ls))) e
    ∙ ap (plain.Then (plain.SetVariable (new_name n) (renamed other z)))
    (values_alike one other ds zs a (n + 1) ps ls)
values_alike one other _ _ (OneAlike {d = d} {z = z} {ds = ds} {zs = zs} e f a) n (OfVariable name ∷ ps) ls =
    values_alike one other ds zs a n ps ls

labels_of_locals : (ds zs : List Tree) (ls : List Decl) → new_labels [] ds ls ≡ new_labels [] zs ls
labels_of_locals ds zs [] = refl
labels_of_locals ds zs (l ∷ ls) = refl

labels_alike : (one other : Renaming) (ds zs : List Tree) → Alike one other ds zs → (ps : List Parameter)
    (ls : List Decl) → new_labels ps ds ls ≡ new_labels ps zs ls
labels_alike one other ds zs a [] ls = labels_of_locals ds zs ls
labels_alike one other _ _ NoneAlike (p ∷ ps) ls = refl
labels_alike one other _ _ (OneAlike {ds = ds} {zs = zs} e f a) (OfValue label name ∷ ps) ls =
    ap (λ labels. label ∷ labels) (labels_alike one other ds zs a ps ls)
labels_alike one other _ _ (OneAlike {ds = ds} {zs = zs} e f a) (OfVariable name ∷ ps) ls =
    labels_alike one other ds zs a ps ls

names_alike : (one other : Renaming) (ds zs : List Tree) → Alike one other ds zs → (n : ℕ) (ps : List Parameter)
    (ls : List Decl) (y : List ℕ)
    → naming_all new_name no_name one n ps ds ls y ≡ naming_all new_name no_name other n ps zs ls y
names_alike one other ds zs a n [] ls y = refl
names_alike one other _ _ NoneAlike n (p ∷ ps) ls y = refl
names_alike one other _ _ (OneAlike {ds = ds} {zs = zs} e f a) n (OfValue label name ∷ ps) ls y =
    ap (λ t. cond (bytes_eq y name) (new_name n) t) (names_alike one other ds zs a (n + 1) ps ls y)
names_alike one other _ _ (OneAlike {d = d} {z = z} {ds = ds} {zs = zs} e f a) n (OfVariable name ∷ ps) ls y =
    ap (λ t. cond (bytes_eq y name) t (naming_all new_name no_name one n ps ds ls y)) f
    ∙ ap (λ t. cond (bytes_eq y name) (named_by no_name other z) t) (names_alike one other ds zs a n ps ls y)

-- a call by its assignments, its labels and its names
abbrev call_of : Inlines → Procedure → ℕ → plain.Block → List Label → Renaming → Inlined
call_of inlines p next block labels names =
    both (record { block = block; labels = labels }) (inlined_all inlines names p.body) next

call_alike : (inlines : Inlines) (p : Procedure) (one other : Renaming) (ds zs : List Tree) → Alike one other ds zs
    → (next : ℕ) → inlined_call inlines p one ds next ≡ inlined_call inlines p other zs next
call_alike inlines p one other ds zs a next =
    let ps = p.parameters in
    let ls = p.locals in
    ap (λ b. call_of inlines p next b (new_labels ps ds ls) (naming_all new_name no_name one next ps ds ls))
    (values_alike one other ds zs a next ps ls)
    ∙ (ap (λ labels. call_of inlines p next (assigned other next (new_values ps zs ls)) labels
    (naming_all new_name no_name one next ps ds ls)) (labels_alike one other ds zs a ps ls)
    ∙ ap (call_of inlines p next (assigned other next (new_values ps zs ls)) (new_labels ps zs ls))
    (fun_ext (names_alike one other ds zs a next ps ls)))

first_or_other : (caller : Renaming) (b : Bool) (d e : Tree) (o : Option Tree) (name : List ℕ)
    → (o ≡ Some e → name ≡ named_by no_name caller e) → cond b (Some d) o ≡ Some e
    → cond b (named_by no_name caller d) name ≡ named_by no_name caller e
first_or_other caller true d e o name others is =
    let same : ◌≡◌ {A = Tree} d e = cc in ap (named_by no_name caller) same
first_or_other caller false d e o name others is = others is

-- what the name of an array parameter is
named_so : (caller : Renaming) (n : ℕ) (ps : List Parameter) (es : List Tree) (y : List ℕ) (e : Tree)
    → scalars ps ≡ 0 → argument_of ps es y ≡ Some e
    → naming_all new_name no_name caller n ps es [] y ≡ named_by no_name caller e
named_so caller n [] es y e none is = absurd (cc)
named_so caller n (p ∷ ps) [] y e none is = absurd (cc)
named_so caller n (OfValue label name ∷ ps) (d ∷ es) y e none is = absurd (omega (arith, none))
named_so caller n (OfVariable name ∷ ps) (d ∷ es) y e none is =
    ap (λ b. cond b (named_by no_name caller d) (naming_all new_name no_name caller n ps es [] y)) (flipped y name)
    ∙ first_or_other caller (bytes_eq name y) d e (argument_of ps es y)
    (naming_all new_name no_name caller n ps es [] y) (named_so caller n ps es y e none) is

record IsBare (o : Option Tree) (z : Tree) : Type 0 where
  name : List ℕ
  given : o ≡ Some (Variable name)
  is : z ≡ Variable name

bare_so : (o : Option Tree) (z : Tree) → bare o ≡ Some z → IsBare o z
bare_so None z e = absurd (cc)
bare_so (Some (Variable x)) z e =
    let i : ◌≡◌ {A = Tree} (Variable x) z = cc in record { name = x; given = refl; is = sym i }
bare_so (Some (Number k)) z e = absurd (cc)
bare_so (Some (Element x i)) z e = absurd (cc)
bare_so (Some (Operation op a b)) z e = absurd (cc)

one_alike : (caller : Renaming) (n : ℕ) (ps : List Parameter) (es : List Tree) (d z : Tree) → scalars ps ≡ 0
    → handed (argument_of ps es) d ≡ Some z
    → (renamed (naming_all new_name no_name caller n ps es []) d ≡ renamed caller z)
    × (named_by no_name (naming_all new_name no_name caller n ps es []) d ≡ named_by no_name caller z)
one_alike caller n ps es (Variable y) z none is =
    let h = bare_so (argument_of ps es y) z is in
    let s : naming_all new_name no_name caller n ps es [] y ≡ caller h.name =
    named_so caller n ps es y (Variable h.name) none h.given in
    (ap Variable s ∙ sym (ap (renamed caller) h.is), s ∙ sym (ap (named_by no_name caller) h.is))
one_alike caller n ps es other z none is = absurd (cc)

all_alike : (caller : Renaming) (n : ℕ) (ps : List Parameter) (es ds zs : List Tree) → scalars ps ≡ 0
    → map Some zs ≡ map (handed (argument_of ps es)) ds
    → Alike (naming_all new_name no_name caller n ps es []) caller ds zs
all_alike caller n ps es [] [] none is = NoneAlike
all_alike caller n ps es [] (z ∷ zs) none is = absurd (cc)
all_alike caller n ps es (d ∷ ds) [] none is = absurd (cc)
all_alike caller n ps es (d ∷ ds) (z ∷ zs) none is =
    let first : ◌≡◌ {A = Option Tree} (handed (argument_of ps es) d) (Some z) = cc in
    let others : map Some zs ≡ map (handed (argument_of ps es)) ds = cc in
    let h = one_alike caller n ps es d z none first in
    OneAlike h.0 h.1 (all_alike caller n ps es ds zs none others)

no_values : (ps : List Parameter) (es : List Tree) → scalars ps ≡ 0 → new_values ps es [] ≡ []
no_values [] es none = refl
no_values (p ∷ ps) [] none = refl
no_values (OfValue label name ∷ ps) (e ∷ es) none = absurd (omega (arith, none))
no_values (OfVariable name ∷ ps) (e ∷ es) none = no_values ps es none

no_labels : (ps : List Parameter) (es : List Tree) → scalars ps ≡ 0 → new_labels ps es [] ≡ []
no_labels [] es none = refl
no_labels (p ∷ ps) [] none = refl
no_labels (OfValue label name ∷ ps) (e ∷ es) none = absurd (omega (arith, none))
no_labels (OfVariable name ∷ ps) (e ∷ es) none = no_labels ps es none

abbrev no_code : Inlined
no_code = record { block = plain.Nothing; labels = [] }

joined_nothing : (b : plain.Block) → blocks_joined b plain.Nothing ≡ b
joined_nothing plain.Nothing = refl
joined_nothing (plain.Then s rest) = ap (plain.Then s) (joined_nothing rest)

alone : (x : Inlined) (next : ℕ) → both x (λ n. no_code) next ≡ x
alone x next =
    ap (λ (b : plain.Block). record { block = b; labels = x.labels ++ [] }) (joined_nothing x.block)
    ∙ ap (λ (ls : List Label). record { block = x.block; labels = ls }) (append-nil x.labels)

behind_nothing : (f : ℕ → Inlined) (next : ℕ) → both no_code f next ≡ f next
behind_nothing f next = let e : next + 0 ≡ next = omega arith in ap f e

-- a procedure without variables of its own
call_bare : (inlines : Inlines) (p : Procedure) (caller : Renaming) (es : List Tree) (next : ℕ)
    → scalars p.parameters ≡ 0 → p.locals ≡ []
    → inlined_call inlines p caller es next
    ≡ inlined_all inlines (naming_all new_name no_name caller next p.parameters es []) p.body next
call_bare inlines p caller es next none no_locals =
    let ps = p.parameters in
    let names = naming_all new_name no_name caller next ps es [] in
    ap (λ (ls : List Decl). call_of inlines p next (assigned caller next (new_values ps es ls)) (new_labels ps es ls)
    (naming_all new_name no_name caller next ps es ls)) no_locals
    ∙ (ap (λ vs. call_of inlines p next (assigned caller next vs) (new_labels ps es []) names) (no_values ps es none)
    ∙ (ap (λ ls. call_of inlines p next plain.Nothing ls names) (no_labels ps es none)
    ∙ behind_nothing (inlined_all inlines names p.body) next))

mapped_cond : (b : Bool) (e : Bor Expr) (o : Option (Bor Expr))
    → option_map argument_seen (cond b (Some e) o) ≡ cond b (Some (argument_seen e)) (option_map argument_seen o)
mapped_cond true e o = refl
mapped_cond false e o = refl

-- an argument that was added to the map
pub argument_added : (m n : BTreeMap (Bor (List ℕ)) (Bor Expr)) (k : Bor (List ℕ)) (e : Bor Expr)
    → ((q : Bor (List ℕ)) → get key_cmp n q ≡ cond (is_at (key_cmp k) q) (Some e) (get key_cmp m q))
    → arguments_under n ≡ with_argument k.now (argument_seen e) (arguments_under m)
argument_added m n k e h =
    fun_ext (λ y. ap (option_map argument_seen) (name_added m n k e h y)
    ∙ mapped_cond (bytes_eq k.now y) e (found_under m y))

pub handed_so : (given : BTreeMap (Bor (List ℕ)) (Bor Expr)) (x name : List ℕ) (argument : Bor Expr)
    (made : Option Tree) → x ≡ name → Some argument ≡ found_under given x → made ≡ bare (Some (argument_seen argument))
    → made ≡ handed (arguments_under given) (Variable name)
handed_so given x name argument made same is h =
    h ∙ (ap (λ (o : Option (Bor Expr)). bare (option_map argument_seen o)) is
    ∙ ap (λ (y : List ℕ). bare (arguments_under given y)) same)

-- the arguments from one parameter on, by that one and those after it
pub one_before : (params : List Param) (arguments : List (Bor Expr)) (at : ℕ) (p : Param) (e : Bor Expr)
    (name : List ℕ) (given next : Arguments) → at < length params → at < length arguments
    → p ≡ get_or params at p → e ≡ get_or arguments at e → name ≡ parameter_name (parameter_of p)
    → given ≡ argument_of (map parameter_of (drop (at + 1) params)) (trees_seen (drop (at + 1) arguments))
    → next ≡ with_argument name (argument_seen e) given
    → next ≡ argument_of (map parameter_of (drop at params)) (trees_seen (drop at arguments))
one_before params arguments at p e name given next lt less first second named is made =
    made
    ∙ (ap (λ (x : List ℕ). with_argument x (argument_seen e) given) named
    ∙ (ap (with_argument (parameter_name (parameter_of p)) (argument_seen e)) is
    ∙ (ap (λ (ps : List Param). argument_of (map parameter_of ps) (trees_seen (e ∷ drop (at + 1) arguments)))
    (ap (λ (q : Param). q ∷ drop (at + 1) params) first ∙ sym (drop_more params at p lt))
    ∙ ap (λ (es : List (Bor Expr)). argument_of (map parameter_of (drop at params)) (trees_seen es))
    (ap (λ (q : Bor Expr). q ∷ drop (at + 1) arguments) second ∙ sym (drop_more arguments at e less)))))

-- the code of a block is that of its one statement, and that of another that has the same code
pub one_same : (qs : List Procedure) (s t : Statement) (b : Block) → b ≡ Then t Nothing → SameStatement qs s t
    → SameCode qs (Then s Nothing) b
one_same qs s t b is h names next =
    ap (λ (x : Inlined). both x (inlined_all (inlines_of qs) names Nothing) next) (h names next)
    ∙ ap (λ (z : Block). inlined_all (inlines_of qs) names z next) (sym is)

pub one_code : (qs : List Procedure) (less b : Block) (s : Statement) → less ≡ Then s Nothing
    → SameCode qs (Then s Nothing) b → SameCode qs less b
one_code qs less b s is h names next =
    ap (λ (z : Block). inlined_all (inlines_of qs) names z next) is ∙ h names next

-- the call that a call comes down to
pub comes_down : (qs rs : List Procedure) (p : Procedure) (name next : List ℕ) (f : Found) (es ds : List Tree)
    (made : Statement) → found qs name ≡ Some (record { procedure = p; earlier = rs })
    → found rs next ≡ Some f → found qs next ≡ Some f → SameCode rs (Then (Call next ds) Nothing) p.body
    → HandsOn p es next ds made → SameStatement qs made (Call name es)
comes_down qs rs p name next f es ds made one two three same h to n =
    let zs = h.arguments in
    let own = naming_all new_name no_name to n p.parameters es [] in
    let alike = all_alike to n p.parameters es ds zs h.none h.handed in
    ap (λ s. inlined (inlines_of qs) to s n) h.is
    ∙ (inlines_found qs next f three to zs n
    ∙ (sym (call_alike (inlines_of f.earlier) f.procedure own to ds zs alike n)
    ∙ (sym (inlines_found rs next f two own ds n)
    ∙ (sym (alone (inlines_of rs next own ds n) n)
    ∙ (same own n
    ∙ (sym (call_bare (inlines_of rs) p to es n h.none h.locals)
    ∙ sym (inlines_found qs name (record { procedure = p; earlier = rs }) one to es n)))))))
