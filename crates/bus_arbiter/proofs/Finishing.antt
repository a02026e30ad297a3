-- Cores that show nothing more are run up to a cycle, in sequence.
use Rattle.std.proofs.Common.{◌≡◌, ℕ, ◌+◌, ◌<◌, ◌≤◌, List, [], ◌∷◌, ◌++◌, length, Some, sym, ap, ◌∙◌, subst, ⊎_elim, arith}
use Rattle.std.specs.Prelude.{slice_get}
use Rattle.std.proofs.lemmas.Option.{same_Some, slice_get_within}
use Rattle.std.proofs.lemmas.Bool.{cases_eq}
use Rattle.bus_arbiter.specs.Prelude.{Core, LeftAt, shows_to, Quiet, FailedAt, Transfer, AllLeft, Turned}
use Rattle.bus_arbiter.proofs.Plays.{get-set_other, get-set_same, length-put}

-- the first i cores have run up to cycle n, the others not yet
pub record FinishedSoFar {B : Type 0} (before now : List (Core B)) (n i : ℕ) : Type 0 where
  pub count : length now ≡ length before
  pub done : (k : ℕ) (c d : Core B) → k < i → slice_get before k ≡ Some c → slice_get now k ≡ Some d → LeftAt c n d
  pub rest : (k : ℕ) → i ≤ k → slice_get now k ≡ slice_get before k

module _ {B : Type 0} (before between after : List (Core B)) (n i : ℕ) (quiet : Quiet before n)
    (so_far : FinishedSoFar before between n i) where
  nothing-left : (c : Core B) → slice_get between i ≡ Some c → shows_to i c n ≡ []
  nothing-left c there = quiet i c (sym (so_far.rest i (omega arith)) ∙ there)

  pub finish-next : (heard : List Transfer → Type 0) → Turned between after i n heard
      → FinishedSoFar before after n (i + 1)
  finish-next heard turned =
      let within = slice_get_within between i turned.was turned.there in
      record {
        count = ap length turned.put ∙ length-put between i turned.now ∙ so_far.count;
        done = λ k c d less there here.
            ⊎_elim
            (λ (is : k ≡ i).
            subst (λ j. slice_get before j ≡ Some c → slice_get after j ≡ Some d → LeftAt c n d) (sym is)
            (λ first last.
            let old : turned.was ≡ c =
            same_Some turned.was c (sym turned.there ∙ so_far.rest i (omega arith) ∙ first) in
            let new : turned.now ≡ d =
            same_Some turned.now d
            (sym (get-set_same between i turned.now within) ∙ ap (λ l. slice_get l i) (sym turned.put) ∙ last) in
            subst (λ (x : Core B). LeftAt c n x) new (subst (λ (x : Core B). LeftAt x n turned.now) old turned.left))
            there here)
            (λ other.
            so_far.done k c d (omega (arith, less, other)) there
            (sym (get-set_other between i k turned.now other) ∙ ap (λ l. slice_get l k) (sym turned.put) ∙ here))
            (cases_eq k i);
        rest = λ k past.
            ap (λ l. slice_get l k) turned.put
            ∙ get-set_other between i k turned.now (λ is. omega (arith, past, is)) ∙ so_far.rest k (omega (arith, past));
      }

  pub finish-heard : (heard : List Transfer → Type 0) → Turned between after i n heard → heard []
  finish-heard heard turned = subst heard (nothing-left turned.was turned.there) turned.told

  pub finish-never : {W : Type 0} (hears : W → List Transfer → W → Type 0) (was is : W) (torn : Transfer → Type 0)
      → (c : Core B) × (slice_get between i ≡ Some c) × FailedAt hears was is torn (shows_to i c n) → ⊥
  finish-never hears was is torn failed =
      let nothing = sym failed.2.front ∙ nothing-left failed.0 failed.1 in
      let counted = ap length nothing in
      none failed.2.told failed.2.next failed.2.rest nothing
    where
      none : (l : List Transfer) (x : Transfer) (r : List Transfer) → l ++ x ∷ r ≡ [] → ⊥
      none [] x r is = omega (arith, ap length is)
      none (y ∷ l) x r is = omega (arith, ap length is)

pub finish-all : {B : Type 0} (before now : List (Core B)) (n i : ℕ) → length before ≤ i
    → FinishedSoFar before now n i → AllLeft before n now
finish-all before now n i past so_far = record {
  count = so_far.count;
  each = λ k c d there here.
      so_far.done k c d (omega (arith, past, slice_get_within before k c there)) there here;
}
