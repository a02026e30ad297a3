-- The start of a call: its assignments give each new variable its value, at a place of its own, and its names refer to
-- the same variables in both stores.
use Rattle.std.proofs.Common.{◌≡◌, inl, inr, ℕ, zero, suc, ◌+◌, ◌<◌, ◌≤◌, ℤ, Bool, true, false, if◌then◌else◌, List, [], ◌∷◌, ◌++◌, length, map, get_or, set, Option, Some, None, refl, sym, ap, ◌∙◌, subst, append_assoc, arith, length-set, get_or-set_same, get_or-set_other}
use Rattle.std.specs.Prelude.{bytes_eq}
use Rattle.std.proofs.lemmas.Bool.{cases_lt}
use Rattle.std.proofs.lemmas.List.{append-nil, length-append, length_push, get_or_append_left, get_or-append-add, get_or_push, take_at}
use Rattle.src_tree.specs.declared.trees.Decl.{Decl}
use Rattle.src_tree.specs.Prelude.{Tree, Variable, Store, variable_number, words_of_number, scalar_set, evaluated, run_of_block}
use Rattle.src_tree.proofs.KeptByRuns.{left}
use Rattle.procs_tree.specs.Prelude.{Parameter, OfValue, OfVariable, naming, named_by, naming_locals, naming_all, new_values, new_labels, Names, valued, one_word, Renaming, renamed, assigned, new_name, no_name}
use Rattle.procs_tree.proofs.Mirrors.{Sizes, ArePlaces, Mirrors, StandsAt, Nowhere, There, Match, valued_same, front_mirrors, words_set}

-- a new variable's number is its place, and a name that refers to nothing has no number
pub record NewNumbers (size : Sizes) (decls : List Decl) : Type 0 where
  pub new : (k : ℕ) → k < size.new → variable_number decls (new_name k) ≡ size.own + k
  pub none : size.own + size.new ≤ variable_number decls no_name

-- the places of new variables
abbrev pub fresh : Sizes → ℕ → List Tree → List ℕ
fresh size next [] = []
fresh size next (e ∷ es) = (size.own + next) ∷ fresh size (next + 1) es

fresh_long : (size : Sizes) (next : ℕ) (es : List Tree) → length (fresh size next es) ≡ length es
fresh_long size next [] = refl
fresh_long size next (e ∷ es) = ap suc (fresh_long size (next + 1) es)

fresh_at : (size : Sizes) (next : ℕ) (es : List Tree) (j : ℕ) → j < length es
    → get_or (fresh size next es) j 0 ≡ size.own + (next + j)
fresh_at size next [] j lt = absurd (omega arith)
fresh_at size next (e ∷ es) zero lt = omega arith
fresh_at size next (e ∷ es) (suc j) lt = let h = fresh_at size (next + 1) es j (omega arith) in omega (arith, h)

-- stores in which some of the new variables are there
pub record Filled (size : Sizes) (next : ℕ) (places done : List ℕ) (s words t : Store) : Type 0 where
  pub mirrors : Mirrors size (places ++ done) (s ++ words) t
  pub are : ArePlaces size next (places ++ done)
  pub long : length s ≡ length places

one_set : (ws : List ℤ) (v : ℤ) → length ws ≡ 1 → set ws 0 v ≡ v ∷ []
one_set [] v h = absurd (omega arith)
one_set (w ∷ []) v h = refl
one_set (w ∷ x ∷ ws) v h = absurd (omega arith)

-- one place more, above all others
place_more : {size : Sizes} {next : ℕ} (places : List ℕ) → ArePlaces size next places
    → ArePlaces size (next + 1) (places ++ (size.own + next) ∷ [])
place_more {size} {next} places are = record { low = low; apart = apart }
  where
    at_last : (j : ℕ) → j < length (places ++ (size.own + next) ∷ []) → (j < length places → ⊥)
        → get_or (places ++ (size.own + next) ∷ []) j 0 ≡ size.own + next
    at_last j lt not = get_or_push places (size.own + next) 0 j
        (let h = length_push places (size.own + next) in elim (cases_lt j (length places)) [
          | inl less ↦ absurd (not less)
          | inr le ↦ omega arith
        ])

    low : (j : ℕ) → j < length (places ++ (size.own + next) ∷ [])
        → get_or (places ++ (size.own + next) ∷ []) j 0 < size.own + (next + 1)
    low j lt = elim (cases_lt j (length places)) [
      | inl less ↦ (let h = are.low j less in
          let e = get_or_append_left places ((size.own + next) ∷ []) 0 j less in omega (arith, h, e))
      | inr le ↦ (let e = at_last j lt (λ less. omega (arith, less, le)) in omega (arith, e))
    ]

    apart : (i j : ℕ) → i < length (places ++ (size.own + next) ∷ [])
        → j < length (places ++ (size.own + next) ∷ [])
        → get_or (places ++ (size.own + next) ∷ []) i 0 ≡ get_or (places ++ (size.own + next) ∷ []) j 0 → i ≡ j
    apart i j first second e = elim (cases_lt i (length places)) [
      | inl less ↦ elim (cases_lt j (length places)) [
        | inl lower ↦ are.apart i j less lower
            (sym (get_or_append_left places ((size.own + next) ∷ []) 0 i less) ∙ (e
            ∙ get_or_append_left places ((size.own + next) ∷ []) 0 j lower))
        | inr le ↦ (let a = are.low i less in
            let b = get_or_append_left places ((size.own + next) ∷ []) 0 i less in
            let c = at_last j second (λ lower. omega (arith, lower, le)) in absurd (omega (arith, a, b, c, e)))
      ]
      | inr le ↦ elim (cases_lt j (length places)) [
        | inl lower ↦ (let a = are.low j lower in
            let b = get_or_append_left places ((size.own + next) ∷ []) 0 j lower in
            let c = at_last i first (λ less. omega (arith, less, le)) in absurd (omega (arith, a, b, c, e)))
        | inr more ↦ (let h = length_push places (size.own + next) in omega (arith, h, first, second, le, more))
      ]
    ]

-- one new variable more
variable_more : {size : Sizes} {next : ℕ} (places : List ℕ) (s t : Store) → ArePlaces size next places
    → Mirrors size places s t → next < size.new → (v : ℤ)
    → Mirrors size (places ++ (size.own + next) ∷ []) (s ++ (v ∷ []) ∷ []) (scalar_set t (size.own + next) v)
variable_more {size} {next} places s t are m few v =
    let room = m.room in
    let long = m.long in
    record {
      long = length_push s (v ∷ []) ∙ (ap (λ n. n + 1) m.long ∙ sym (length_push places (size.own + next)));
      room = length-set t (size.own + next) (set (words_of_number t (size.own + next)) 0 v) ∙ m.room;
      same = same;
      scalars = λ k from below. words_set t (size.own + next) k 0 v (omega arith) ∙ m.scalars k from below;
    }
  where
    same : (j : ℕ) → j < length (places ++ (size.own + next) ∷ [])
        → words_of_number (s ++ (v ∷ []) ∷ []) j
        ≡ words_of_number (scalar_set t (size.own + next) v) (get_or (places ++ (size.own + next) ∷ []) j 0)
    same j lt = elim (cases_lt j (length places)) [
      | inl less ↦ (let long = m.long in let low = are.low j less in
          let e = get_or_append_left places ((size.own + next) ∷ []) 0 j less in
          get_or_append_left s ((v ∷ []) ∷ []) [] j (omega arith)
          ∙ (m.same j less
          ∙ (sym (get_or-set_other t (size.own + next) (get_or places j 0)
          (set (words_of_number t (size.own + next)) 0 v) [] (λ h. absurd (omega (arith, h, low))))
          ∙ ap (λ n. words_of_number (scalar_set t (size.own + next) v) n) (sym e))))
      | inr le ↦ (let long = m.long in let room = m.room in
          let h = length_push places (size.own + next) in
          let is : j ≡ length places = omega (arith, h, lt, le) in
          get_or_push s (v ∷ []) [] j (omega arith)
          ∙ (sym (get_or-set_same t (size.own + next) (set (words_of_number t (size.own + next)) 0 v) []
          (omega arith)
          ∙ one_set (words_of_number t (size.own + next)) v (m.scalars (size.own + next) (omega arith) (omega arith)))
          ∙ ap (λ n. words_of_number (scalar_set t (size.own + next) v) n)
          (sym (get_or_push places (size.own + next) 0 j (sym is)))))
    ]

stands_more : {size : Sizes} {o : Option ℕ} {n : ℕ} (places more : List ℕ) → StandsAt size places o n
    → StandsAt size (places ++ more) o n
stands_more places more (Nowhere past) = Nowhere past
stands_more places more (There {j = j} lt is) =
    let all = length-append places more in
    There (omega (arith, all, lt)) (is ∙ sym (get_or_append_left places more 0 j lt))

-- the names of the caller refer to the same variables if there are more variables
pub match_more : {size : Sizes} {decls : List Decl} {names : Names} {to : Renaming} (places more : List ℕ)
    → Match size decls places names to → Match size decls (places ++ more) names to
match_more places more is = record { stands = λ x. stands_more places more (is.stands x) }

-- only the caller's variables
caller_mirrors : {size : Sizes} {next : ℕ} {places done : List ℕ} {s words t : Store}
    → Filled size next places done s words t → Mirrors size places s t
caller_mirrors {size} {next} {places} {done} {s} {words} {t} f =
    subst (λ z. Mirrors size places z t) (take_at s words (length places) f.long)
    (front_mirrors places done (length places) refl f.mirrors)

filled_more : {size : Sizes} {next : ℕ} {places done : List ℕ} {s words t : Store} (decls : List Decl)
    → NewNumbers size decls → (names : Names) (to : Renaming) → Match size decls places names to
    → Filled size next places done s words t → next < size.new → (e : Tree)
    → Filled size (next + 1) places (done ++ (size.own + next) ∷ []) s (words ++ one_word names s e ∷ [])
    (scalar_set t (variable_number decls (new_name next)) (evaluated decls t (renamed to e)))
filled_more {size} {next} {places} {done} {s} {words} {t} decls numbers names to is f few e =
    let value = valued_same decls names to is (caller_mirrors f) e in
    let m = variable_more (places ++ done) (s ++ words) t f.are f.mirrors few (valued names s e) in
    record {
      mirrors =
          subst (λ k. Mirrors size (places ++ (done ++ (size.own + next) ∷ [])) (s ++ (words ++ one_word names s e ∷ []))
          (scalar_set t k (evaluated decls t (renamed to e)))) (sym (numbers.new next few))
          (subst (λ v. Mirrors size (places ++ (done ++ (size.own + next) ∷ []))
          (s ++ (words ++ one_word names s e ∷ [])) (scalar_set t (size.own + next) v)) value
          (subst (λ z. Mirrors size z (s ++ (words ++ one_word names s e ∷ []))
          (scalar_set t (size.own + next) (valued names s e))) (append_assoc places done ((size.own + next) ∷ []))
          (subst (λ z. Mirrors size ((places ++ done) ++ (size.own + next) ∷ []) z
          (scalar_set t (size.own + next) (valued names s e))) (append_assoc s words (one_word names s e ∷ [])) m)));
      are =
          subst (λ z. ArePlaces size (next + 1) z) (append_assoc places done ((size.own + next) ∷ []))
          (place_more (places ++ done) f.are);
      long = f.long;
    }

-- all new variables of a call
pub record AllFilled (size : Sizes) (decls : List Decl) (to : Renaming) (names : Names) (next : ℕ)
    (places done : List ℕ) (s words t : Store) (turns : ℕ) (values : List Tree) : Type 0 where
  pub after : Store
  pub run : run_of_block decls (assigned to next values) (left t turns) ≡ Some (left after turns)
  pub filled : Filled size (next + length values) places (done ++ fresh size next values) s
      (words ++ map (one_word names s) values) after

all_filled : {size : Sizes} (next : ℕ) {places : List ℕ} (done : List ℕ) {s : Store} (words t : Store)
    (decls : List Decl)
    → NewNumbers size decls → (names : Names) (to : Renaming) → Match size decls places names to
    → Filled size next places done s words t → (turns : ℕ) (values : List Tree)
    → next + length values ≤ size.new
    → AllFilled size decls to names next places done s words t turns values
all_filled {size} next {places} done {s} words t decls numbers names to is f turns [] few = record {
  after = t;
  run = refl;
  filled =
      subst (λ n. Filled size n places (done ++ []) s (words ++ []) t) (let h : next ≡ next + 0 = omega arith in h)
      (subst (λ z. Filled size next places z s (words ++ []) t) (sym (append-nil done))
      (subst (λ z. Filled size next places done s z t) (sym (append-nil words)) f));
}
all_filled {size} next {places} done {s} words t decls numbers names to is f turns (e ∷ es) few =
    let one = filled_more decls numbers names to is f (omega arith) e in
    let rest = all_filled (next + 1) (done ++ (size.own + next) ∷ []) (words ++ one_word names s e ∷ [])
    (scalar_set t (variable_number decls (new_name next)) (evaluated decls t (renamed to e))) decls numbers names to
    is one turns es (omega arith) in
    record {
      after = rest.after;
      run = rest.run;
      filled =
          subst (λ n. Filled size n places (done ++ (size.own + next) ∷ fresh size (next + 1) es) s
          (words ++ one_word names s e ∷ map (one_word names s) es) rest.after)
          (let h : next + 1 + length es ≡ next + suc (length es) = omega arith in h)
          (subst (λ z. Filled size (next + 1 + length es) places z s
          (words ++ one_word names s e ∷ map (one_word names s) es) rest.after)
          (append_assoc done ((size.own + next) ∷ []) (fresh size (next + 1) es))
          (subst (λ z. Filled size (next + 1 + length es) places
          ((done ++ (size.own + next) ∷ []) ++ fresh size (next + 1) es) s z rest.after)
          (append_assoc words (one_word names s e ∷ []) (map (one_word names s) es)) rest.filled));
    }

-- this many new variables from one on have their places
pub record HasPlaces (size : Sizes) (places : List ℕ) (next k count : ℕ) : Type 0 where
  pub low : (j : ℕ) → j < count → k + j < length places
  pub is : (j : ℕ) → j < count → get_or places (k + j) 0 ≡ size.own + (next + j)

-- the start of a call
pub record Entered (size : Sizes) (decls : List Decl) (to : Renaming) (names : Names) (next : ℕ) (places : List ℕ)
    (s t : Store) (turns : ℕ) (values : List Tree) : Type 0 where
  pub more : List ℕ
  pub after : Store
  pub run : run_of_block decls (assigned to next values) (left t turns) ≡ Some (left after turns)
  pub mirrors : Mirrors size (places ++ more) (s ++ map (one_word names s) values) after
  pub are : ArePlaces size (next + length values) (places ++ more)
  pub matches : Match size decls (places ++ more) names to
  pub at : HasPlaces size (places ++ more) next (length s) (length values)

pub entered : {size : Sizes} (decls : List Decl) → NewNumbers size decls → (names : Names) (to : Renaming)
    {places : List ℕ} → Match size decls places names to → (s t : Store) → Mirrors size places s t → (next : ℕ)
    → ArePlaces size next places → (turns : ℕ) (values : List Tree) → next + length values ≤ size.new
    → Entered size decls to names next places s t turns values
entered {size} decls numbers names to {places} is s t m next are turns values few =
    let start : Filled size next places [] s [] t = record {
      mirrors =
          subst (λ z. Mirrors size z (s ++ []) t) (sym (append-nil places))
          (subst (λ z. Mirrors size places z t) (sym (append-nil s)) m);
      are = subst (λ z. ArePlaces size next z) (sym (append-nil places)) are;
      long = m.long;
    } in
    let all = all_filled next [] [] t decls numbers names to is start turns values few in
    let long = m.long in
    record {
      more = fresh size next values;
      after = all.after;
      run = all.run;
      mirrors = all.filled.mirrors;
      are = all.filled.are;
      matches = match_more places (fresh size next values) is;
      at = record {
        low = λ j lt.
            let size_of = length-append places (fresh size next values) in
            let fresh_size = fresh_long size next values in omega (arith, size_of, fresh_size, long, lt);
        is = λ j lt.
            ap (λ n. get_or (places ++ fresh size next values) (n + j) 0) m.long
            ∙ (get_or-append-add places (fresh size next values) j 0 ∙ fresh_at size next values j lt);
      };
    }

pub labels_long : (parameters : List Parameter) (arguments : List Tree) (locals : List Decl)
    → length (new_labels parameters arguments locals) ≡ length (new_values parameters arguments locals)
labels_long [] arguments [] = refl
labels_long [] arguments (d ∷ ds) = ap suc (labels_long [] [] ds)
labels_long (p ∷ ps) [] [] = refl
labels_long (p ∷ ps) [] (d ∷ ds) = ap suc (labels_long [] [] ds)
labels_long (OfValue label name ∷ ps) (e ∷ es) locals = ap suc (labels_long ps es locals)
labels_long (OfVariable name ∷ ps) (e ∷ es) locals = labels_long ps es locals

-- what names refer to, once one more name refers to something
either_stands : {size : Sizes} {places : List ℕ} (decls : List Decl) (b : Bool) (o p : Option ℕ) (x y : List ℕ)
    → StandsAt size places o (variable_number decls x) → StandsAt size places p (variable_number decls y)
    → StandsAt size places (if b then o else p) (variable_number decls (if b then x else y))
either_stands decls true o p x y here there = here
either_stands decls false o p x y here there = there

naming_match : {size : Sizes} {decls : List Decl} {places : List ℕ} (name : List ℕ) (o : Option ℕ) (x : List ℕ)
    (others : Names) (more : Renaming) → StandsAt size places o (variable_number decls x)
    → Match size decls places others more
    → Match size decls places (naming name o others) (naming name x more)
naming_match {decls = decls} name o x others more here there =
    record { stands = λ y. either_stands decls (bytes_eq y name) o (others y) x (more y) here (there.stands y) }

at_first : {size : Sizes} {decls : List Decl} {places : List ℕ} {next k count : ℕ} → NewNumbers size decls
    → HasPlaces size places next k (suc count) → next < size.new
    → StandsAt size places (Some k) (variable_number decls (new_name next))
at_first {size} {decls} {places} {next} {k} numbers at few =
    let low = at.low 0 (omega arith) in
    let e : size.own + next ≡ size.own + (next + 0) = omega arith in
    let f : k + 0 ≡ k = omega arith in
    There (omega (arith, low))
    (numbers.new next few ∙ (e ∙ (sym (at.is 0 (omega arith)) ∙ ap (λ n. get_or places n 0) f)))

at_rest : {size : Sizes} {places : List ℕ} {next k count : ℕ} → HasPlaces size places next k (suc count)
    → HasPlaces size places (next + 1) (k + 1) count
at_rest {size} {places} {next} {k} {count} at = record {
  low = λ j lt. let low = at.low (suc j) (omega arith) in omega (arith, low);
  is = λ j lt.
      let e : k + 1 + j ≡ k + suc j = omega arith in
      let f : size.own + (next + suc j) ≡ size.own + (next + 1 + j) = omega arith in
      ap (λ n. get_or places n 0) e ∙ (at.is (suc j) (omega arith) ∙ f);
}

locals_match : {size : Sizes} {places : List ℕ} (decls : List Decl) → NewNumbers size decls → (locals : List Decl)
    (next k : ℕ) → HasPlaces size places next k (length (new_values [] [] locals))
    → next + length (new_values [] [] locals) ≤ size.new
    → Match size decls places (naming_locals (λ n. Some n) None k locals) (naming_locals new_name no_name next locals)
locals_match decls numbers [] next k at few = record { stands = λ y. Nowhere numbers.none }
locals_match decls numbers (d ∷ ds) next k at few =
    naming_match d.name (Some k) (new_name next) (naming_locals (λ n. Some n) None (k + 1) ds)
    (naming_locals new_name no_name (next + 1) ds) (at_first numbers at (omega arith))
    (locals_match decls numbers ds (next + 1) (k + 1) (at_rest at) (omega arith))

named_stands : {size : Sizes} {decls : List Decl} {places : List ℕ} → NewNumbers size decls → (names : Names)
    (to : Renaming) → Match size decls places names to → (e : Tree)
    → StandsAt size places (named_by None names e) (variable_number decls (named_by no_name to e))
named_stands numbers names to is (Variable x) = is.stands x
named_stands numbers names to is _ = Nowhere numbers.none

no_arguments : (locals : List Decl) (arguments : List Tree)
    → new_values [] arguments locals ≡ new_values [] [] locals
no_arguments [] arguments = refl
no_arguments (d ∷ ds) arguments = refl

no_more : (p : Parameter) (ps : List Parameter) (locals : List Decl)
    → new_values (p ∷ ps) [] locals ≡ new_values [] [] locals
no_more p ps [] = refl
no_more p ps (d ∷ ds) = refl

-- the names of a procedure refer to the same variables
pub names_match : {size : Sizes} {places : List ℕ} (decls : List Decl) → NewNumbers size decls → (names : Names)
    (to : Renaming) (parameters : List Parameter) (arguments : List Tree) (locals : List Decl) (next k : ℕ)
    → Match size decls places names to
    → HasPlaces size places next k (length (new_values parameters arguments locals))
    → next + length (new_values parameters arguments locals) ≤ size.new
    → Match size decls places (naming_all (λ n. Some n) None names k parameters arguments locals)
    (naming_all new_name no_name to next parameters arguments locals)
names_match {size} {places} decls numbers names to [] arguments locals next k is at few =
    let e = ap length (no_arguments locals arguments) in
    locals_match decls numbers locals next k (subst (λ n. HasPlaces size places next k n) e at)
    (subst (λ n. next + n ≤ size.new) e few)
names_match {size} {places} decls numbers names to (p ∷ ps) [] locals next k is at few =
    let e = ap length (no_more p ps locals) in
    locals_match decls numbers locals next k (subst (λ n. HasPlaces size places next k n) e at)
    (subst (λ n. next + n ≤ size.new) e few)
names_match decls numbers names to (OfValue label name ∷ ps) (e ∷ es) locals next k is at few =
    naming_match name (Some k) (new_name next) (naming_all (λ n. Some n) None names (k + 1) ps es locals)
    (naming_all new_name no_name to (next + 1) ps es locals) (at_first numbers at (omega arith))
    (names_match decls numbers names to ps es locals (next + 1) (k + 1) is (at_rest at) (omega arith))
names_match decls numbers names to (OfVariable name ∷ ps) (e ∷ es) locals next k is at few =
    naming_match name (named_by None names e) (named_by no_name to e)
    (naming_all (λ n. Some n) None names k ps es locals) (naming_all new_name no_name to next ps es locals)
    (named_stands numbers names to is e) (names_match decls numbers names to ps es locals next k is at few)
