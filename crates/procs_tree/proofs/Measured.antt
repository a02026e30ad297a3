-- How many statements calls are replaced by, from the sizes of the procedures' bodies.
use Rattle.std.proofs.Common.{inl, inr, map, ◌≡◌, ℕ, zero, suc, ◌+◌, ◌-◌, ◌<◌, ◌≤◌, ◌^◌, Bool, true, false, cond, List, [], ◌∷◌, ◌++◌, length, min, take, reverse, get_or, Option, Some, None, refl, sym, ap, ◌∙◌, subst, arith}
use Rattle.std.specs.Prelude.{bytes_eq}
use Rattle.std.proofs.lemmas.Bool.{cases_lt}
use Rattle.std.proofs.lemmas.List.{get_or-map, get_or_append_left, get_or_push, length-map, length-reverse, length-take-le, length_push, take_all, take-map}
use Rattle.src_tree.specs.Prelude.{shown_number, Tree, expr_tree}
use Rattle.src_tree.specs.declared.trees.Decl.{Decl}
use Rattle.src_tree.specs.declared.trees.Expr.{Expr}
use Rattle.procs_tree.specs.declared.trees.Param.{Param}
use Rattle.procs_tree.specs.declared.trees.Proc.{Proc}
use Rattle.procs_tree.specs.Prelude.{parameter_of, procedure_of, trees_of, no_procedure, found_at, Statement, SetVariable, SetElement, Choice, Loop, Call, Block, Nothing, Then, Parameter, OfValue, OfVariable, Procedure, new_values, Found, found, scalars, AreSizes, HasSizes, IsMeasured, Measured, counted_call, sizes_by, CallSizes, sizes_of, size_of, size_of_all, Names, AreNumbered, by_number}
use Rattle.procs_tree.specs.Measured.{body_size}
use Rattle.procs_tree.proofs.FoundCalls.{found_last}

locals_long : (locals : List Decl) → length (new_values [] [] locals) ≡ length locals
locals_long [] = refl
locals_long (d ∷ ds) = let h = locals_long ds in omega (arith, h)

-- the new variables of a call, counted
pub values_long : (ps : List Parameter) (es : List Tree) (locals : List Decl) (n : ℕ)
    → n ≡ min (length ps) (length es)
    → length (new_values ps es locals) ≡ scalars (take n ps) + length locals
values_long [] es [] zero is = refl
values_long [] es (d ∷ ds) zero is = let h = locals_long ds in omega (arith, h)
values_long [] es locals (suc n) is = absurd (omega (arith, is))
values_long (p ∷ ps) [] [] zero is = refl
values_long (p ∷ ps) [] (d ∷ ds) zero is = let h = locals_long ds in omega (arith, h)
values_long (p ∷ ps) [] locals (suc n) is = absurd (omega (arith, is))
values_long (p ∷ ps) (e ∷ es) locals zero is = absurd (omega (arith, is))
values_long (OfValue label name ∷ ps) (e ∷ es) locals (suc n) is =
    let h = values_long ps es locals n (omega (arith, is)) in omega (arith, h)
values_long (OfVariable name ∷ ps) (e ∷ es) locals (suc n) is =
    values_long ps es locals n (omega (arith, is))

-- a call of a procedure that is found, and of none
pub size_found : (procedures : List Procedure) (name : List ℕ) (f : Found) → found procedures name ≡ Some f
    → (arguments : List Tree) → sizes_of procedures name arguments
    ≡ length (new_values f.procedure.parameters arguments f.procedure.locals)
    + size_of_all (sizes_of f.earlier) f.procedure.body
size_found [] name f e arguments = absurd (cc)
size_found (p ∷ earlier) name f e arguments = by (bytes_eq name p.name) e (size_found earlier name f)
  where
    by : (b : Bool) → cond b (Some (record { procedure = p; earlier = earlier })) (found earlier name) ≡ Some f
        → (found earlier name ≡ Some f → (arguments : List Tree) → sizes_of earlier name arguments
        ≡ length (new_values f.procedure.parameters arguments f.procedure.locals)
        + size_of_all (sizes_of f.earlier) f.procedure.body)
        → cond b (length (new_values p.parameters arguments p.locals) + size_of_all (sizes_of earlier) p.body)
        (sizes_of earlier name arguments)
        ≡ length (new_values f.procedure.parameters arguments f.procedure.locals)
        + size_of_all (sizes_of f.earlier) f.procedure.body
    by true e rest =
        let g : ◌≡◌ {A = Found} (record { procedure = p; earlier = earlier }) f = cc in
        ap (λ (h : Found). length (new_values h.procedure.parameters arguments h.procedure.locals)
        + size_of_all (sizes_of h.earlier) h.procedure.body) g
    by false e rest = rest e arguments

pub size_none : (procedures : List Procedure) (name : List ℕ) → found procedures name ≡ None
    → (arguments : List Tree) → sizes_of procedures name arguments ≡ 0
size_none [] name e arguments = refl
size_none (p ∷ earlier) name e arguments = by (bytes_eq name p.name) e (size_none earlier name)
  where
    by : (b : Bool) → cond b (Some (record { procedure = p; earlier = earlier })) (found earlier name) ≡ None
        → (found earlier name ≡ None → (arguments : List Tree) → sizes_of earlier name arguments ≡ 0)
        → cond b (length (new_values p.parameters arguments p.locals) + size_of_all (sizes_of earlier) p.body)
        (sizes_of earlier name arguments) ≡ 0
    by true e rest = absurd (cc)
    by false e rest = rest e arguments

scalars_taken : (params : List Param) (n : ℕ)
    → scalars (map parameter_of (take n params)) ≡ scalars (take n (map parameter_of params))
scalars_taken params n = ap scalars (sym (take-map parameter_of n params))

-- the new variables of a call, as the code counts them
pub counted_new : (params : List Param) (arguments : List Expr) (locals : List Decl) (n count result : ℕ)
    → n ≡ min (length params) (length arguments)
    → count ≡ shown_number (scalars (map parameter_of (take n params)))
    → result ≡ min (count + length locals) (2 ^ 64 - 1)
    → result ≡ shown_number (length (new_values (map parameter_of params) (trees_of arguments) locals))
counted_new params arguments locals n count result few is sum =
    let p = length-map params parameter_of in
    let q = length-map arguments expr_tree in
    let v = values_long (map parameter_of params) (trees_of arguments) locals n (omega (arith, few, p, q)) in
    let t = scalars_taken params n in
    omega (arith, is, sum, v, t)

-- what a call is replaced by, as the code counts it
pub counted_found : (procs : List Proc) (k : ℕ) (o : Option Found) (es : List Tree) (sizes : List ℕ)
    (p : Procedure) (values result : ℕ) → k < length procs
    → get_or (map procedure_of procs) k no_procedure ≡ p
    → found_at procs (Some k) ≡ o
    → values ≡ shown_number (length (new_values p.parameters es p.locals))
    → result ≡ min (values + get_or sizes k 0) (2 ^ 64 - 1)
    → result ≡ shown_number (counted_call sizes es o)
counted_found procs k o es sizes p values result within at is count sum =
    let ps = map procedure_of procs in
    let all = length-map procs procedure_of in
    let long : length (reverse (take k ps)) ≡ k =
    length-reverse (take k ps) ∙ length-take-le k ps (omega (arith, all, within)) in
    let h : values ≡ shown_number (length (new_values (get_or ps k no_procedure).parameters es
    (get_or ps k no_procedure).locals)) =
    subst (λ (q : Procedure). values ≡ shown_number (length (new_values q.parameters es q.locals))) (sym at) count in
    let g : result ≡ min (values + get_or sizes (length (reverse (take k ps))) 0) (2 ^ 64 - 1) =
    sum ∙ ap (λ n. min (values + get_or sizes n 0) (2 ^ 64 - 1)) (sym long) in
    let f : result ≡ shown_number (counted_call sizes es (found_at procs (Some k))) = omega (arith, h, g) in
    f ∙ ap (λ q. shown_number (counted_call sizes es q)) is

pub counted_none : (procs : List Proc) (o : Option Found) (es : List Tree) (sizes : List ℕ) → found_at procs None ≡ o
    → 0 ≡ shown_number (counted_call sizes es o)
counted_none procs o es sizes is =
    let z : 0 ≡ shown_number 0 = omega arith in
    z ∙ ap (λ q. shown_number (counted_call sizes es q)) is

-- the place of a procedure that is found
pub record IsPlace (ps : List Procedure) (callable : ℕ) (f : Found) : Type 0 where
  pub place : ℕ
  pub before : place < callable
  pub within : place < length ps
  pub procedure : get_or ps place no_procedure ≡ f.procedure
  pub earlier : reverse (take place ps) ≡ f.earlier

later : (ps : List Procedure) (n m : ℕ) (f : Found) → n ≤ m → IsPlace ps n f → IsPlace ps m f
later ps n m f le p =
    let lt = p.before in
    record {
      place = p.place;
      before = omega (arith, le, lt);
      within = p.within;
      procedure = p.procedure;
      earlier = p.earlier;
    }

place_by : (ps : List Procedure) (n : ℕ) (f : Found) (b : Bool) (others : Option Found) → n < length ps
    → (others ≡ Some f → IsPlace ps n f)
    → cond b (Some (record { procedure = get_or ps n no_procedure; earlier = reverse (take n ps) })) others ≡ Some f
    → IsPlace ps (n + 1) f
place_by ps n f true others lt rest e =
    let g : ◌≡◌ {A = Found} (record { procedure = get_or ps n no_procedure; earlier = reverse (take n ps) }) f = cc in
    record {
      place = n;
      before = omega arith;
      within = lt;
      procedure = ap (λ (h : Found). h.procedure) g;
      earlier = ap (λ (h : Found). h.earlier) g;
    }
place_by ps n f false others lt rest e = later ps n (n + 1) f (omega arith) (rest e)

pub place_of : (ps : List Procedure) (callable : ℕ) (name : List ℕ) (f : Found)
    → found (reverse (take callable ps)) name ≡ Some f → IsPlace ps callable f
place_of ps zero name f e = absurd (cc)
place_of ps (suc n) name f e =
    let next : suc n ≡ n + 1 = omega arith in
    let here = sym (ap (λ k. found (reverse (take k ps)) name) next) ∙ e in
    subst (λ k. IsPlace ps k f) (sym next)
    (elim (cases_lt n (length ps)) [
      | inl lt ↦ place_by ps n f (bytes_eq name (get_or ps n no_procedure).name) (found (reverse (take n ps)) name) lt
          (place_of ps n name f) (sym (found_last ps n no_procedure name lt) ∙ here)
      | inr past ↦ later ps n (n + 1) f (omega arith) (place_of ps n name f
          (ap (λ (qs : List Procedure). found (reverse qs) name)
          (take_all n ps (omega (arith, past)) ∙ sym (take_all (n + 1) ps (omega (arith, past)))) ∙ here))
    ])

-- by sizes of the bodies, calls have the sizes that they have
same_found : (ps : List Procedure) (sizes : List ℕ) (callable : ℕ) → IsMeasured ps sizes callable
    → (name : List ℕ) (es : List Tree) (o : Option Found) → found (reverse (take callable ps)) name ≡ o
    → shown_number (counted_call sizes es o) ≡ shown_number (sizes_of (reverse (take callable ps)) name es)
same_found ps sizes callable m name es None e =
    let n = size_none (reverse (take callable ps)) name e es in omega (arith, n)
same_found ps sizes callable (Measured known reach) name es (Some f) e =
    let p = place_of ps callable name f e in
    let n = size_found (reverse (take callable ps)) name f e es in
    let before = p.before in
    let within = p.within in
    let g = known.each p.place (omega (arith, reach, before, within)) in
    let long : length f.earlier ≡ p.place =
    ap (λ (qs : List Procedure). length qs) (sym p.earlier)
    ∙ (length-reverse (take p.place ps) ∙ length-take-le p.place ps (omega (arith, within))) in
    let h : get_or sizes (length f.earlier) 0 ≡ shown_number (size_of_all (sizes_of f.earlier) f.procedure.body) =
    ap (λ k. get_or sizes k 0) long
    ∙ (g ∙ (ap (λ (qs : List Procedure). shown_number (size_of_all (sizes_of qs) (get_or ps p.place no_procedure).body))
    p.earlier
    ∙ ap (λ (q : Procedure). shown_number (size_of_all (sizes_of f.earlier) q.body)) p.procedure)) in
    omega (arith, n, h)

pub same_call : (ps : List Procedure) (sizes : List ℕ) (callable : ℕ) → IsMeasured ps sizes callable
    → (numbers : Names) → AreNumbered ps numbers → (name : List ℕ) (es : List Tree)
    → shown_number (sizes_by sizes (by_number ps callable numbers) name es)
    ≡ shown_number (sizes_of (reverse (take callable ps)) name es)
same_call ps sizes callable m numbers h name es =
    same_found ps sizes callable m name es (by_number ps callable numbers name) (h callable name)

-- calls of the same sizes make statements of the same size
pub record SameSizes (a b : CallSizes) : Type 0 where
  pub same : (name : List ℕ) (es : List Tree) → shown_number (a name es) ≡ shown_number (b name es)

mutual
  one_same : (a b : CallSizes) → SameSizes a b → (s : Statement) → shown_number (size_of a s) ≡ shown_number (size_of b s)
  one_same a b h (SetVariable x e) = refl
  one_same a b h (SetElement x i e) = refl
  one_same a b h (Choice t first second) =
      let f = all_same a b h first in let g = all_same a b h second in omega (arith, f, g)
  one_same a b h (Loop t body) = let f = all_same a b h body in omega (arith, f)
  one_same a b h (Call name es) = h.same name es

  all_same : (a b : CallSizes) → SameSizes a b → (c : Block)
      → shown_number (size_of_all a c) ≡ shown_number (size_of_all b c)
  all_same a b h Nothing = refl
  all_same a b h (Then s rest) = let f = one_same a b h s in let g = all_same a b h rest in omega (arith, f, g)

pub same_block : (ps : List Procedure) (sizes : List ℕ) (callable : ℕ) → IsMeasured ps sizes callable
    → (numbers : Names) → AreNumbered ps numbers → (b : Block)
    → shown_number (size_of_all (sizes_by sizes (by_number ps callable numbers)) b)
    ≡ shown_number (size_of_all (sizes_of (reverse (take callable ps))) b)
same_block ps sizes callable m numbers h b = all_same _ _ (record { same = same_call ps sizes callable m numbers h }) b

-- one more size
one_size_more : (ps : List Procedure) (sizes : List ℕ) (size : ℕ) → AreSizes ps sizes → length sizes < length ps
    → size ≡ body_size ps (length sizes) → AreSizes ps (sizes ++ size ∷ [])
one_size_more ps sizes size known lt is =
    let long = length_push sizes size in
    record {
      short = omega (arith, long, lt);
      each = λ k below. elim (cases_lt k (length sizes)) [
        | inl before ↦ get_or_append_left sizes (size ∷ []) 0 k before ∙ known.each k before
        | inr from ↦ (let last : k ≡ length sizes = omega (long, below, from, arith) in
            get_or_push sizes size 0 k (sym last) ∙ (is ∙ ap (body_size ps) (sym last)))
      ];
    }

-- the size of one more procedure's body
pub one_body_measured : (procs : List Proc) (sizes : List ℕ) (p : Proc) (i size : ℕ) → length sizes ≡ i
    → i < length procs → p ≡ get_or procs i p → AreSizes (map procedure_of procs) sizes
    → size ≡ shown_number (size_of_all (sizes_of (reverse (take i (map procedure_of procs)))) (procedure_of p).body)
    → AreSizes (map procedure_of procs) (sizes ++ size ∷ [])
one_body_measured procs sizes p i size long lt at known is =
    let ps = map procedure_of procs in
    let all = length-map procs procedure_of in
    let same : procedure_of p ≡ get_or ps i no_procedure =
    sym (get_or-map procedure_of procs i p no_procedure lt ∙ ap procedure_of (sym at)) in
    let here : size ≡ body_size ps i =
    is ∙ ap (λ (q : Procedure). shown_number (size_of_all (sizes_of (reverse (take i ps))) q.body)) same in
    one_size_more ps sizes size known (omega (arith, all, long, lt)) (here ∙ ap (body_size ps) (sym long))

pub all_measured : (ps : List Procedure) (sizes : List ℕ) (callable : ℕ) → HasSizes ps sizes
    → IsMeasured ps sizes callable
all_measured ps sizes callable h = let all = h.all in Measured h.known (omega (arith, all))
