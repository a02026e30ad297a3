-- The loop: how it begins, one turn, and its end.
use Rattle.std.proofs.Common.{◌≡◌, ℕ, ◌<◌, List, [], ◌∷◌, ◌++◌, length, get_or, set, ◌⊎◌, inl, inr, Option, Some, None, sym, ap, ◌∙◌, subst, arith, get_or-set_same, get_or-set_other, length-set, length-append}
use Rattle.std.proofs.lemmas.Bool.{cases_eq}
use Rattle.lt_isa.specs.Prelude.{Parts, IsInRange}
use Rattle.trace_patterns.specs.Prelude.{Known, start_known}
use Rattle.note_infer.specs.Prelude.{IsLeast, at_places, Waits, Looks, LoopHolds, IsSoundAt, work_left}
use Rattle.note_infer.proofs.Sound.{start-sound}
use Rattle.note_infer.proofs.UnderWay.{begun, under_way-begun, under_way-ended, at-set, off-set}
use Rattle.note_infer.proofs.Brought.{under_way-same, under_way_waits, waits-last, waits-end, waits-more}

-- nothing is known anywhere but at the start
module _ (o : Parts) (crossed : List ℕ) (empty : List (Option Known)) (size : length empty ≡ length o.code)
    (some : 0 < length o.code) (nothing : (p : ℕ) → get_or empty p None ≡ None) where
  first : List (Option Known)
  first = set empty 0 (Some start_known)

  first_size : length first ≡ length o.code
  unfolding first
  first_size = length-set empty 0 (Some start_known) ∙ size

  first_at : get_or first 0 None ≡ Some start_known
  unfolding first
  first_at = get_or-set_same empty 0 (Some start_known) None (omega (arith, size, some))

  inside : (x : ℕ) → Waits (0 ∷ []) x → x < length first
  inside x (inl w) = omega (arith, first_size, some)
  inside x (inr w) = absurd w

  at : (p : ℕ) → (p ≡ 0) ⊎ (p ≡ 0 → ⊥) → begun p ≡ at_places first p
  unfolding first
  at p (inl f) =
      at-set (λ q. None) 0 start_known p f
      ∙ sym (ap (λ (x : ℕ). get_or (set empty 0 (Some start_known)) x None) f ∙ first_at)
  at p (inr f) =
      off-set (λ q. None) 0 start_known p f
      ∙ sym (get_or-set_other empty 0 p (Some start_known) None f ∙ nothing p)

  sound : (p : ℕ) (k : Known) → get_or first p None ≡ Some k → (p ≡ 0) ⊎ (p ≡ 0 → ⊥) → IsSoundAt o p k
  unfolding first
  sound p k e (inl f) =
      let g : ◌≡◌ {A = Option Known} (Some start_known) (Some k) = sym first_at
      ∙ ap (λ (x : ℕ). get_or (set empty 0 (Some start_known)) x None) (sym f) ∙ e in
      let same : start_known ≡ k = cc in
      subst (λ (x : ℕ). IsSoundAt o x k) (sym f) (subst (IsSoundAt o 0) same (start-sound o))
  sound p k e (inr f) =
      absurd (let g : ◌≡◌ {A = Option Known} None (Some k) = sym (get_or-set_other empty 0 p (Some start_known) None f
      ∙ nothing p) ∙ e in cc)

  pub loop_begun : LoopHolds o crossed (set empty 0 (Some start_known)) (0 ∷ [])
  unfolding first
  loop_begun = record {
    size = first_size;
    places = λ x w. inside x w;
    under_way = under_way-same o crossed begun (at_places (set empty 0 (Some start_known))) (Waits (0 ∷ []))
        (λ p. at p (cases_eq p 0))
        (under_way_waits o crossed begun (λ x. x ≡ 0) (Waits (0 ∷ [])) (λ x w. inl (sym w))
        (under_way-begun o crossed));
    sound = λ p k e. sound p k e (cases_eq p 0);
  }

pub loop_turn : (o : Parts) (crossed : List ℕ) (states : List (Option Known)) (stack : List ℕ) (place : ℕ)
    (after : List (Option Known)) (rest : List ℕ)
    → IsInRange o → LoopHolds o crossed states (stack ++ place ∷ []) → Looks o crossed place states stack after rest
    → LoopHolds o crossed after rest
loop_turn o crossed states stack place after rest range h l = record {
  size = l.size ∙ h.size;
  places = λ x w.
      let lt = l.inside (λ y v. h.places y (waits-more stack place y v)) x w in
      omega (arith, lt, l.size);
  under_way = l.under_way (under_way_waits o crossed (at_places states) (Waits (stack ++ place ∷ []))
      (λ x. Waits stack x ⊎ (x ≡ place)) (waits-last stack place) h.under_way);
  sound = l.sound range h.sound;
}

pub loop_shorter : (o : Parts) (crossed : List ℕ) (states : List (Option Known)) (stack : List ℕ) (place : ℕ)
    (after : List (Option Known)) (rest : List ℕ)
    → Looks o crossed place states stack after rest → work_left after rest < work_left states (stack ++ place ∷ [])
loop_shorter o crossed states stack place after rest l = omega (arith, l.room, length-append stack (place ∷ []))

pub loop_place : (o : Parts) (crossed : List ℕ) (states : List (Option Known)) (stack : List ℕ) (place : ℕ)
    → LoopHolds o crossed states (stack ++ place ∷ []) → place < length states
loop_place o crossed states stack place h = h.places place (waits-end stack place)

pub loop_ended : (o : Parts) (crossed : List ℕ) (states : List (Option Known)) → LoopHolds o crossed states []
    → IsLeast o crossed (at_places states)
loop_ended o crossed states h =
    under_way-ended o crossed (at_places states)
    (under_way_waits o crossed (at_places states) (Waits []) (λ x. ⊥) (λ x w. w) h.under_way)
