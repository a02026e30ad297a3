-- The numbers of procedures by their names, one procedure after the other.
use Rattle.std.proofs.Common.{◌≡◌, ℕ, ◌+◌, ◌<◌, ◌≤◌, Bool, true, false, cond, inl, inr, List, length, min, take, drop, reverse, get_or, Option, Some, None, refl, sym, ap, ◌∙◌, subst, arith}
use Rattle.std.specs.Prelude.{bytes_eq, nat_lt, is_some}
use Rattle.std.specs.Option.{option_or}
use Rattle.std.proofs.lemmas.Bool.{cases_lt, lt-ltb, le-ltb}
use Rattle.std.proofs.lemmas.List.{take_all, drop_more}
use Rattle.std.proofs.lemmas.Slice.Eq.{bytes_eq-Decides}
use Rattle.gr_base.proofs.ListTests.{bytes_eq-own}
use Rattle.procs_tree.specs.declared.errors.InlineError.{InlineError}
use Rattle.procs_tree.specs.Prelude.{Names, Procedure, Found, found, fault_where, numbered, procedures_fault, AreNumbered, by_number, found_before, no_procedure}
use Rattle.procs_tree.proofs.FoundCalls.{found_last}

-- what a name calls, as the code finds it
pub found_so : (ps : List Procedure) (numbers : Names) → AreNumbered ps numbers → (n callable : ℕ) (x name : List ℕ)
    (o : Option Found) → n ≡ callable → x ≡ name → o ≡ found_before ps n (numbers x)
    → found (reverse (take callable ps)) name ≡ o
found_so ps numbers h n callable x name o same is e =
    h callable name
    ∙ sym (e ∙ (ap (λ (k : ℕ). found_before ps k (numbers x)) same
    ∙ ap (λ (y : List ℕ). found_before ps callable (numbers y)) is))

same_tests : (a b : Bool) → (a ≡ true → b ≡ true) → (b ≡ true → a ≡ true) → a ≡ b
same_tests true b f g = sym (f refl)
same_tests false true f g = g refl
same_tests false false f g = refl

equal_then : (x y : List ℕ) → bytes_eq x y ≡ true → bytes_eq y x ≡ true
equal_then x y e = ap (λ z. bytes_eq y z) ((bytes_eq-Decides x y).0 e) ∙ bytes_eq-own y

pub flipped : (x y : List ℕ) → bytes_eq x y ≡ bytes_eq y x
flipped x y = same_tests (bytes_eq x y) (bytes_eq y x) (equal_then x y) (equal_then y x)

-- a number, as a procedure before some place
abbrev placed : List Procedure → ℕ → Bool → Option Found
placed ps k b = cond b (Some (record { procedure = get_or ps k no_procedure; earlier = reverse (take k ps) })) None

is_before : (ps : List Procedure) (callable k : ℕ) → k < callable → k < length ps
    → found_before ps callable (Some k) ≡ placed ps k true
is_before ps callable k lt within =
    ap (placed ps k) (lt-ltb k (min callable (length ps)) (omega (arith, lt, within)))

is_behind : (ps : List Procedure) (callable k : ℕ) → callable ≤ k → found_before ps callable (Some k) ≡ None
is_behind ps callable k le = ap (placed ps k) (le-ltb k (min callable (length ps)) (omega (arith, le)))

-- what is found before some place is found before a later one
pub still_found : (ps : List Procedure) (k callable : ℕ) (o : Option ℕ) (f : Found) → k ≤ callable
    → found_before ps k o ≡ Some f → found_before ps callable o ≡ Some f
still_found ps k callable None f le e = absurd (cc)
still_found ps k callable (Some j) f le e =
    elim (cases_lt j (min k (length ps))) [
      | inl lt ↦ is_before ps callable j (omega (arith, lt, le)) (omega (arith, lt))
          ∙ (sym (is_before ps k j (omega (arith, lt)) (omega (arith, lt))) ∙ e)
      | inr more ↦ (let none : found_before ps k (Some j) ≡ None =
          ap (placed ps j) (le-ltb j (min k (length ps)) more) in absurd (cc))
    ]

-- a new name gets number i, which isn't that of a procedure before place i
kept : (ps : List Procedure) (numbers : Names) (i callable : ℕ) (x name : List ℕ) → callable ≤ i → numbers x ≡ None
    → (b : Bool) → (b ≡ true → x ≡ name)
    → found_before ps callable (numbers name) ≡ found_before ps callable (cond b (Some i) (numbers name))
kept ps numbers i callable x name le new false h = refl
kept ps numbers i callable x name le new true h =
    ap (λ (o : Option ℕ). found_before ps callable o) (ap numbers (sym (h refl)) ∙ new) ∙ sym (is_behind ps callable i le)

wider : (ps : List Procedure) (i : ℕ) (o : Option ℕ) → i < length ps → ((k : ℕ) → o ≡ Some k → k < i)
    → found_before ps i o ≡ found_before ps (i + 1) o
wider ps i None lt h = refl
wider ps i (Some k) lt h =
    let below = h k refl in
    is_before ps i k below (omega (arith, below, lt))
    ∙ sym (is_before ps (i + 1) k (omega (arith, below)) (omega (arith, below, lt)))

last : (ps : List Procedure) (i : ℕ) (o : Option ℕ) → i < length ps → ((k : ℕ) → o ≡ Some k → k < i) → (b : Bool)
    → cond b (Some (record { procedure = get_or ps i no_procedure; earlier = reverse (take i ps) })) (found_before ps i o)
    ≡ found_before ps (i + 1) (cond b (Some i) o)
last ps i o lt h true = sym (is_before ps (i + 1) i (omega arith) lt)
last ps i o lt h false = wider ps i o lt h

below_next : (i : ℕ) (o : Option ℕ) (b : Bool) → ((k : ℕ) → o ≡ Some k → k < i)
    → (k : ℕ) → cond b (Some i) o ≡ Some k → k < i + 1
below_next i o true h k e = let is : ◌≡◌ {A = ℕ} i k = cc in omega (arith, is)
below_next i o false h k e = let lt = h k e in omega (arith, lt)

first_none : (a b : Option InlineError) → option_or a b ≡ None → (a ≡ None) × (b ≡ None)
first_none None b e = (refl, e)
first_none (Some x) b e = absurd (cc)

no_fault : (b : Bool) (e : InlineError) → fault_where b e ≡ None → b ≡ false
no_fault true e h = absurd (cc)
no_fault false e h = refl

none_there : (o : Option ℕ) → is_some o ≡ false → o ≡ None
none_there None e = refl
none_there (Some k) e = absurd (cc)

-- the first procedures have their numbers, and those after them have no fault
pub record AreSoFar (ps : List Procedure) (i : ℕ) (numbers : Names) : Type 0 where
  pub numbered : (callable : ℕ) (name : List ℕ) → callable ≤ i
      → found (reverse (take callable ps)) name ≡ by_number ps callable numbers name
  pub below : (name : List ℕ) (k : ℕ) → numbers name ≡ Some k → k < i
  pub others : procedures_fault numbers i (drop i ps) ≡ None

head_none : (ps : List Procedure) (i : ℕ) (numbers : Names) → i < length ps
    → procedures_fault numbers i (drop i ps) ≡ None
    → (numbers (get_or ps i no_procedure).name ≡ None)
    × (procedures_fault (numbered numbers (get_or ps i no_procedure).name i) (i + 1) (drop (i + 1) ps) ≡ None)
head_none ps i numbers lt e =
    let p = get_or ps i no_procedure in
    let f = first_none _ _ (ap (procedures_fault numbers i) (sym (drop_more ps i no_procedure lt)) ∙ e) in
    (none_there (numbers p.name) (no_fault _ _ f.0), (first_none _ _ f.1).1)

pub one_more_so_far : (ps : List Procedure) (i : ℕ) (numbers : Names) → i < length ps → AreSoFar ps i numbers
    → AreSoFar ps (i + 1) (numbered numbers (get_or ps i no_procedure).name i)
one_more_so_far ps i numbers lt h =
    let p = get_or ps i no_procedure in
    let head = head_none ps i numbers lt h.others in
    record {
      numbered = λ callable name le. elim (cases_lt callable (i + 1)) [
        | inl less ↦ h.numbered callable name (omega (arith, less))
            ∙ kept ps numbers i callable p.name name (omega (arith, less)) head.0 (bytes_eq p.name name)
            ((bytes_eq-Decides p.name name).0)
        | inr more ↦ (let is : callable ≡ i + 1 = omega (arith, le, more) in
            subst (λ (n : ℕ). found (reverse (take n ps)) name
            ≡ found_before ps n (cond (bytes_eq p.name name) (Some i) (numbers name))) (sym is)
            (found_last ps i no_procedure name lt
            ∙ (ap (λ (b : Bool). cond b (Some (record { procedure = p; earlier = reverse (take i ps) }))
            (found (reverse (take i ps)) name)) (flipped name p.name)
            ∙ (ap (λ (o : Option Found). cond (bytes_eq p.name name)
            (Some (record { procedure = p; earlier = reverse (take i ps) })) o) (h.numbered i name (omega arith))
            ∙ last ps i (numbers name) lt (h.below name) (bytes_eq p.name name)))))
      ];
      below = λ name k e. below_next i (numbers name) (bytes_eq p.name name) (h.below name) k e;
      others = head.1;
    }

capped : (ps : List Procedure) (n m : ℕ) (o : Option ℕ) → min n (length ps) ≡ min m (length ps)
    → found_before ps n o ≡ found_before ps m o
capped ps n m None e = refl
capped ps n m (Some k) e = ap (λ (z : ℕ). placed ps k (nat_lt k z)) e

pub all_so_far : (ps : List Procedure) (i : ℕ) (numbers : Names) → length ps ≤ i → AreSoFar ps i numbers
    → AreNumbered ps numbers
all_so_far ps i numbers past h callable name =
    elim (cases_lt i callable) [
      | inl more ↦ ap (λ (qs : List Procedure). found (reverse qs) name)
          (take_all callable ps (omega (arith, past, more)) ∙ sym (take_all i ps past))
          ∙ (h.numbered i name (omega arith) ∙ capped ps i callable (numbers name) (omega (arith, past, more)))
      | inr less ↦ h.numbered callable name less
    ]
