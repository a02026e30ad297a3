-- What holds of the cores of a bus stays where one is run, and where one enters.
use Rattle.std.proofs.Common.{◌≡◌, ℕ, zero, suc, ◌<◌, ◌≤◌, List, [], ◌∷◌, ◌++◌, length, get_or, Some, None, ◌⊎◌, inl, inr, refl, sym, ap, ◌∙◌, subst, ⊎_elim, arith, length-append}
use Rattle.std.specs.Prelude.{slice_get, slice_set, is_none}
use Rattle.std.proofs.lemmas.Option.{none-some, same_Some, slice_get_within, slice_get-get_or}
use Rattle.std.proofs.lemmas.Bool.{cases_eq}
use Rattle.lt_isa.specs.Prelude.{IsInRange, IsShaped, final_from}
use Rattle.processor.specs.Prelude.{EndsAs, Running}
use Rattle.bus_arbiter.specs.declared.shares.Share.{Share}
use Rattle.bus_arbiter.specs.Prelude.{AllStand, AreLive, Core, LeftAt, LeftIf, NoneHalted, OnItsWay, OnItsWayIf, Stands, trace_to, share_at, share_of}
use Rattle.bus_arbiter.proofs.Plays.{get-set_other, get-set_same, length-put}
use Rattle.processor.specs.declared.ends.End.TheVariants as end

-- one item more
pub get-more : {X : Type 0} (xs : List X) (x : X) (k : ℕ) (c : X) → slice_get (xs ++ x ∷ []) k ≡ Some c
    → (slice_get xs k ≡ Some c) ⊎ ((k ≡ length xs) × (x ≡ c))
get-more [] x zero c is = inr (refl, same_Some x c is)
get-more [] x (suc k) c is = absurd (none-some c is)
get-more (y ∷ ys) x zero c is = inl is
get-more (y ∷ ys) x (suc k) c is =
    ⊎_elim (λ old. inl old) (λ last. inr (ap suc last.0, last.1)) (get-more ys x k c is)

-- an item that was read
pub item-there : {X : Type 0} (xs ys : List X) (k : ℕ) (d x : X) → xs ≡ ys → x ≡ get_or xs k d → k < length ys
    → slice_get ys k ≡ Some x
item-there {X = X} xs ys k d x same is within =
    subst (λ (l : List X). k < length l → slice_get l k ≡ Some x) same
    (λ less. slice_get-get_or xs k d less ∙ ap Some (sym is)) within

module _ {B : Type 0} (plan : List Share) (cores : List (Core B)) where
  -- the core that was put
  put-is : (k j : ℕ) (was now c : Core B) → slice_get cores k ≡ Some was → slice_get (slice_set cores k now) j ≡ Some c
      → j ≡ k → now ≡ c
  put-is k j was now c there here is =
      same_Some now c
      (sym (get-set_same cores k now (slice_get_within cores k was there))
      ∙ ap (slice_get (slice_set cores k now)) (sym is) ∙ here)

  -- a core was run
  pub stand-put : (k : ℕ) (was now : Core B) → slice_get cores k ≡ Some was → AllStand plan cores
      → now.machine.object ≡ was.machine.object → IsInRange now.machine.object
      → IsShaped now.machine.object now.machine.state → AllStand plan (slice_set cores k now)
  stand-put k was now there stand object range shaped = record {
    count = omega (arith, stand.count, length-put cores k now);
    each = λ j c here.
        ⊎_elim
        (λ (is : j ≡ k).
        subst (λ (x : Core B). Stands x (share_at plan j)) (put-is k j was now c there here is)
        (record {
          in_range = range;
          shaped = shaped;
          share = ap share_of object ∙ (stand.each k was there).share ∙ ap (share_at plan) (sym is);
        }))
        (λ other. stand.each j c (sym (get-set_other cores k j now other) ∙ here))
        (cases_eq j k);
  }

  pub live-put : (k : ℕ) (was now : Core B) → slice_get cores k ≡ Some was → AreLive cores
      → now.machine.live ≡ is_none now.halted → AreLive (slice_set cores k now)
  live-put k was now there live own j c here =
      ⊎_elim
      (λ (is : j ≡ k).
      subst (λ (x : Core B). x.machine.live ≡ is_none x.halted) (put-is k j was now c there here is) own)
      (λ other. live j c (sym (get-set_other cores k j now other) ∙ here))
      (cases_eq j k)

  -- a core enters
  pub stand-more : (x : Core B) → AllStand plan cores → length cores < length plan
      → Stands x (share_at plan (length cores)) → AllStand plan (cores ++ x ∷ [])
  stand-more x stand room stands = record {
    count = omega (arith, length-append cores (x ∷ []), room);
    each = λ j c here.
        ⊎_elim (stand.each j c)
        (λ last.
        subst (λ (y : Core B). Stands y (share_at plan j)) last.1
        (subst (λ k. Stands x (share_at plan k)) (sym last.0) stands))
        (get-more cores x j c here);
  }

  pub live-more : (x : Core B) → AreLive cores → x.machine.live ≡ is_none x.halted → AreLive (cores ++ x ∷ [])
  live-more x live own j c here =
      ⊎_elim (live j c)
      (λ last. subst (λ (y : Core B). y.machine.live ≡ is_none y.halted) last.1 own) (get-more cores x j c here)

  pub begins-more : (x : Core B) → NoneHalted cores → x.halted ≡ None → NoneHalted (cores ++ x ∷ [])
  begins-more x begins own j c here =
      ⊎_elim (begins j c) (λ last. subst (λ (y : Core B). y.halted ≡ None) last.1 own) (get-more cores x j c here)

-- a core has run to its halt
pub left-halted : {B : Type 0} (before : Core B) (n at : ℕ) (machine : Running B) → before.halted ≡ None
    → machine.object ≡ before.machine.object
    → machine.state ≡ final_from before.machine.object before.machine.state n
    → EndsAs (trace_to before n) (end.Halted at)
    → LeftAt before n (record { machine = machine; halted = Some at })
left-halted before n at machine live object state ends =
    subst (λ h. LeftIf h before n (record { machine = machine; halted = Some at })) (sym live)
    (record { object = object; state = state; ends = ends })

-- a core was stopped on its way
pub left-stopped : {B : Type 0} (before : Core B) (n cut : ℕ) (machine : Running B) → before.halted ≡ None → cut ≤ n
    → machine.object ≡ before.machine.object
    → machine.state ≡ final_from before.machine.object before.machine.state cut
    → OnItsWay before n (record { machine = machine; halted = before.halted })
left-stopped before n cut machine live within object state =
    subst (λ h. OnItsWayIf h before n (record { machine = machine; halted = before.halted })) (sym live)
    (record {
      object = object;
      at = cut;
      within = within;
      state = state;
      halts = λ stamp is. absurd (none-some stamp (sym live ∙ is));
    })

-- the cores that a bus had are in range and shaped
pub all-stood : {B : Type 0} (plan : List Share) (items cores : List (Core B)) → AllStand plan items → items ≡ cores
    → (k : ℕ) (c : Core B) → slice_get cores k ≡ Some c
    → IsInRange c.machine.object × IsShaped c.machine.object c.machine.state
all-stood plan items cores stand same k c there =
    let stands = stand.each k c (ap (λ l. slice_get l k) same ∙ there) in
    (stands.in_range, stands.shaped)
