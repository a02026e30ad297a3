-- New variables that are set one after another, from number n on.
use Rattle.std.proofs.Common.{◌≡◌, ℕ, ◌+◌, ◌≤◌, Bool, ℤ, List, [], ◌∷◌, ◌++◌, length, Option, Some, refl, ap, ◌∙◌, subst, arith}
use Rattle.std.specs.Option.{option_map}
use Rattle.std.proofs.lemmas.List.{length-append}
use Rattle.flat_tree.specs.Trees.{Term, Statement}
use Rattle.flat_tree.specs.Meaning.{Memory, State, value, at, with_scalar, restored, run}
use Rattle.flat_tree.specs.Keeps.{Agree, Alike, BothSpent, BothLeft}
use Rattle.flat_tree.proofs.Agreeing.{agree_same, agree_then, agree_fewer, agree_new}
use Rattle.flat_passes.specs.Values.{with_locals, set_again}

-- the memory after that
abbrev pub temporaries : ℕ → List Term → Memory → Memory
temporaries n [] m = m
temporaries n (e ∷ es) m = temporaries (n + 1) es (with_scalar m n (value m e))

pub temporaries_more : (n : ℕ) (es fs : List Term) (m : Memory)
    → temporaries n (es ++ fs) m ≡ temporaries (n + length es) fs (temporaries n es m)
temporaries_more n [] fs m = ap (λ k. temporaries k fs m) (let e : n ≡ n + 0 = omega arith in e)
temporaries_more n (e ∷ es) fs m =
    temporaries_more (n + 1) es fs (with_scalar m n (value m e))
    ∙ ap (λ k. temporaries k fs (temporaries (n + 1) es (with_scalar m n (value m e))))
    (let same : n + 1 + length es ≡ n + length (e ∷ es) = omega arith in same)

-- the variables before them are as they were
pub before_temporaries : {p : ℕ} (n : ℕ) (es : List Term) (m : Memory) → p ≤ n → Agree p m (temporaries n es m)
before_temporaries n [] m le = agree_same _ m
before_temporaries n (e ∷ es) m le =
    agree_then (agree_new m n _ le) (before_temporaries (n + 1) es (with_scalar m n (value m e)) (omega (arith, le)))

-- some of them, and then others
pub record Split (n : ℕ) (es fs : List Term) (m l : Memory) : Type 0 where
  pub first : Agree (n + length es) (temporaries n es m) l
  pub second : Agree (n + length es + length fs) (temporaries (n + length es) fs (temporaries n es m)) l

pub split : (n : ℕ) (es fs : List Term) (m l : Memory)
    → Agree (n + length (es ++ fs)) (temporaries n (es ++ fs) m) l → Split n es fs m l
split n es fs m l a =
    let long = length-append es fs in
    let all = subst (λ h. Agree (n + length (es ++ fs)) h l) (temporaries_more n es fs m) a in
    record {
      first =
          agree_then (before_temporaries (n + length es) fs (temporaries n es m) (omega arith))
          (agree_fewer (omega (arith, long)) all);
      second = agree_fewer (omega (arith, long)) all;
    }

-- the new variables may be set once more
module _ (needs_name : Term → Bool) where
  pub set_again_run : (n : ℕ) (es : List Term) (m : Memory) (turns : ℕ)
      → run (set_again needs_name n es) m turns ≡ Some (at (temporaries n es m) turns)
  set_again_run n [] m turns = refl
  set_again_run n (e ∷ es) m turns = set_again_run (n + 1) es (with_scalar m n (value m e)) turns

  restored_right : {p : ℕ} {r q : Option State} (n : ℕ) (w : List ℤ) → p ≤ n → Alike p r q
      → Alike p r (option_map (restored n w) q)
  restored_right n w le BothSpent = BothSpent
  restored_right n w le (BothLeft {b = b} same a) = BothLeft same (agree_then a (agree_new b.memory n w le))

  -- a statement in the scope of the new variables
  pub locals_alike : {p : ℕ} {r : Option State} (n : ℕ) (es : List Term) (s : Statement) (l : Memory) (turns : ℕ)
      → p ≤ n → Alike p r (run s (temporaries n es l) turns) → Alike p r (run (with_locals needs_name n es s) l turns)
  locals_alike n [] s l turns le a = a
  locals_alike n (e ∷ es) s l turns le a =
      restored_right n (l n) le
      (locals_alike (n + 1) es s (with_scalar l n (value l e)) turns (omega (arith, le)) a)
