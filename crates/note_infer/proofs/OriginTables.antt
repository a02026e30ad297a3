-- The lists of places that lead to each place: one more place, their end, and how they are followed. What is forgotten
-- of a region, and the places that wait then.
use Rattle.std.proofs.Common.{◌≡◌, ℕ, ◌+◌, ◌-◌, ◌<◌, ◌≤◌, ℤ, List, [], ◌∷◌, length, get_or, set, slice_get, ◌⊎◌, inl, inr, Option, Some, None, refl, sym, ap, ◌∙◌, subst, ⊎_elim, arith, get_or-set_same, get_or-set_other, length-set}
use Rattle.std.specs.Prelude.{replicate}
use Rattle.std.proofs.lemmas.Bool.{cases_lt, cases_eq}
use Rattle.std.proofs.lemmas.List.{get_or_past, get_or-replicate, length-replicate}
use Rattle.gr_word.specs.declared.operations.Cmp.{Cmp}
use Rattle.lt_isa.specs.declared.instructions.Instr.{Instr}
use Rattle.lt_isa.specs.declared.instructions.Instr.TheVariants.{Halt, Jmp, Br}
use Rattle.lt_isa.specs.Prelude.{Parts, target_of}
use Rattle.trace_patterns.proofs.Carries.{instr-once, offset_once}
use Rattle.trace_patterns.specs.Prelude.{Known}
use Rattle.note_infer.specs.Prelude.{Waits, IsTargetOf, ByJump, ByBranch, IsLinked, LinkedHere, LinkedBefore, OriginsBelow, TellsOrigins, TellsOne, IsFollowed, AwaitsOne, Within, Awaits, AwaitsBelow, IsWithout, link_at}
use Rattle.note_infer.specs.Kept.{Outside}
use Rattle.note_infer.proofs.Brought.{waits-last, waits-end, waits-more}
use Rattle.note_infer.proofs.SameParts.{same_jump}

-- a list of lower places stays as it is when one place more is linked
linked_still : (before : List ℕ) (p v link x : ℕ) → ((r : ℕ) → link_at before r ≤ r) → link ≤ p
    → IsLinked before link x → IsLinked (set before p v) link x
linked_still before p v link x falls le (LinkedHere l y e) = LinkedHere link x e
linked_still before p v link x falls le (LinkedBefore l head y e rest) =
    LinkedBefore link head x e
    (subst (λ (n : ℕ). IsLinked (set before p v) n x)
    (sym (get_or-set_other before p head v 0 (λ (f : head ≡ p). omega (arith, e, le, f))))
    (linked_still before p v (get_or before head 0) x falls (omega (arith, falls head, e, le)) rest))

-- one more place is listed
module _ (o : Parts) (p : ℕ) (last before : List ℕ) (h : OriginsBelow o p last before) where
  target_inside : (r q : ℕ) → IsTargetOf o [] r q → q < length o.code
  target_inside r q (ByJump r' q' offset at to lt) = lt
  target_inside r q (ByBranch r' q' cmp ra rb offset at apart to lt) = lt

  -- where it leads nowhere
  pub origins_none : ((q : ℕ) → IsTargetOf o [] p q → ⊥) → OriginsBelow o (p + 1) last before
  origins_none none = record {
    last_size = h.last_size;
    before_size = h.before_size;
    inside = λ q. omega (arith, h.inside q);
    falls = h.falls;
    told = λ r q lt t. by r q lt t (cases_eq r p);
  }
    where
      by : (r q : ℕ) → r < p + 1 → IsTargetOf o [] r q → (r ≡ p) ⊎ (r ≡ p → ⊥) → IsLinked before (get_or last q 0) r
      by r q lt t (inr ne) = h.told r q (omega (arith, lt, ne)) t
      by r q lt t (inl e) = absurd (none q (subst (λ (x : ℕ). IsTargetOf o [] x q) e t))

  -- the same, if the place leads to only one other place
  module _ (target : ℕ) (only : (q : ℕ) → IsTargetOf o [] p q → q ≡ target) (here : p < length o.code) where
    abbrev link : ℕ
    link = get_or last target 0

    abbrev last_after : List ℕ
    last_after = set last target (p + 1)

    abbrev before_after : List ℕ
    before_after = set before p link

    origins_set : target < length last → OriginsBelow o (p + 1) last_after before_after
    origins_set lt = record {
      last_size = length-set last target (p + 1) ∙ h.last_size;
      before_size = length-set before p link ∙ h.before_size;
      inside = λ q. inside q (cases_eq q target);
      falls = λ x. falls x (cases_eq x p);
      told = λ r q less t. told r q less t (cases_eq r p) (cases_eq q target);
    }
      where
        inside : (q : ℕ) → (q ≡ target) ⊎ (q ≡ target → ⊥) → get_or last_after q 0 ≤ p + 1
        inside q (inl e) =
            omega (arith, ap (λ (x : ℕ). get_or last_after x 0) e, get_or-set_same last target (p + 1) 0 lt)
        inside q (inr ne) = omega (arith, get_or-set_other last target q (p + 1) 0 ne, h.inside q)

        own : get_or before_after p 0 ≡ link
        own = get_or-set_same before p link 0 (omega (arith, here, h.before_size))

        falls : (x : ℕ) → (x ≡ p) ⊎ (x ≡ p → ⊥) → get_or before_after x 0 ≤ x
        falls x (inl e) = omega (arith, ap (λ (y : ℕ). get_or before_after y 0) e, own, h.inside target, e)
        falls x (inr ne) = omega (arith, get_or-set_other before p x link 0 ne, h.falls x)

        still : (r l : ℕ) → l ≤ p → IsLinked before l r → IsLinked before_after l r
        still r l le linked = linked_still before p link l r h.falls le linked

        told : (r q : ℕ) → r < p + 1 → IsTargetOf o [] r q → (r ≡ p) ⊎ (r ≡ p → ⊥) → (q ≡ target) ⊎ (q ≡ target → ⊥)
            → IsLinked before_after (get_or last_after q 0) r
        told r q less t (inl e) same =
            let to = only q (subst (λ (x : ℕ). IsTargetOf o [] x q) e t) in
            LinkedHere (get_or last_after q 0) r
            (ap (λ (x : ℕ). get_or last_after x 0) to ∙ get_or-set_same last target (p + 1) 0 lt
            ∙ ap (λ (x : ℕ). x + 1) (sym e))
        told r q less t (inr ne) (inl e) =
            LinkedBefore (get_or last_after q 0) p r
            (ap (λ (x : ℕ). get_or last_after x 0) e ∙ get_or-set_same last target (p + 1) 0 lt)
            (subst (λ (n : ℕ). IsLinked before_after n r) (sym own)
            (still r link (h.inside target)
            (subst (λ (x : ℕ). IsLinked before (get_or last x 0) r) e (h.told r q (omega (arith, less, ne)) t))))
        told r q less t (inr ne) (inr other) =
            subst (λ (n : ℕ). IsLinked before_after n r) (sym (get_or-set_other last target q (p + 1) 0 other))
            (still r (get_or last q 0) (h.inside q) (h.told r q (omega (arith, less, ne)) t))

    pub origins_told : (last_now before_now : List ℕ) → TellsOne p target last before last_now before_now
        → OriginsBelow o (p + 1) last_now before_now
    origins_told last_now before_now one =
        ⊎_elim
        (λ (lt : target < length last).
        let e = one.inside lt in
        subst (λ (l : List ℕ). OriginsBelow o (p + 1) l before_now) (sym e.0)
        (subst (OriginsBelow o (p + 1) last_after) (sym e.1) (origins_set lt)))
        (λ (le : length last ≤ target).
        let e = one.outside le in
        subst (λ (l : List ℕ). OriginsBelow o (p + 1) l before_now) (sym e.0)
        (subst (OriginsBelow o (p + 1) last) (sym e.1)
        (origins_none (λ q t. omega (arith, le, only q t, target_inside p q t, h.last_size)))))
        (cases_lt target (length last))

no_link : (n q : ℕ) → ◌≡◌ {A = ℕ} (get_or (replicate n 0) q 0) 0
no_link n q =
    ⊎_elim (λ (lt : q < n). get_or-replicate n q 0 0 lt)
    (λ (le : n ≤ q). get_or_past (replicate n 0) q 0 (omega (arith, le, length-replicate {A = ℕ} n 0)))
    (cases_lt q n)

pub origins_begun : (o : Parts) (n m : ℕ) → n ≡ length o.code → m ≡ length o.code
    → OriginsBelow o 0 (replicate n 0) (replicate m 0)
origins_begun o n m e f = record {
  last_size = length-replicate {A = ℕ} n 0 ∙ e;
  before_size = length-replicate {A = ℕ} m 0 ∙ f;
  inside = λ q. omega (arith, no_link n q);
  falls = λ q. omega (arith, no_link m q);
  told = λ p q lt t. absurd (omega (arith, lt));
}

pub origins_ended : (o : Parts) (bound : ℕ) (last before : List ℕ) → bound ≡ length o.code
    → OriginsBelow o bound last before → TellsOrigins o last before
origins_ended o bound last before e h = subst (λ (x : ℕ). OriginsBelow o x last before) e h

-- a list is followed to its end
pub followed_next : (before : List ℕ) (first link : ℕ) (seen more : ℕ → Type 0) → 0 < link
    → IsFollowed before first link seen → ((p : ℕ) → seen p → more p) → more (link - 1)
    → IsFollowed before first (get_or before (link - 1) 0) more
followed_next before first link seen more some h keeps now p linked = by (h p linked)
  where
    by : IsLinked before link p ⊎ seen p → IsLinked before (get_or before (link - 1) 0) p ⊎ more p
    by (inr s) = inr (keeps p s)
    by (inl (LinkedHere l x e)) = let same : link - 1 ≡ p = omega (arith, e) in inr (subst more same now)
    by (inl (LinkedBefore l head x e rest)) =
        let same : head ≡ link - 1 = omega (arith, e) in
        inl (subst (λ (n : ℕ). IsLinked before (get_or before n 0) p) same rest)

pub followed_all : (before : List ℕ) (first link : ℕ) (seen : ℕ → Type 0) → link ≡ 0
    → IsFollowed before first link seen → (p : ℕ) → IsLinked before first p → seen p
followed_all before first link seen none h p linked = by (h p linked)
  where
    by : IsLinked before link p ⊎ seen p → seen p
    by (inr s) = s
    by (inl (LinkedHere l x e)) = absurd (omega (arith, e, none))
    by (inl (LinkedBefore l head x e rest)) = absurd (omega (arith, e, none))

-- one more place waits, if it is outside
pub awaits_one : (place join origin size : ℕ) (stack between after : List ℕ) → origin < size
    → AwaitsOne place join origin between after → ((x : ℕ) → Waits stack x → Waits between x)
    → (((x : ℕ) → Waits stack x → x < size) → (x : ℕ) → Waits between x → x < size)
    → ((x : ℕ) → Waits stack x → Waits after x)
    × (((x : ℕ) → Waits stack x → x < size) → (x : ℕ) → Waits after x → x < size)
    × ((x : ℕ) → Waits between x → Waits after x)
    × (((place ≤ origin) × (origin < join)) ⊎ Waits after origin)
awaits_one place join origin size stack between after lt (Within le less) keeps inside =
    (keeps, inside, λ x w. w, inl (le, less))
awaits_one place join origin size stack between after lt Outside keeps inside = (
  λ x w. waits-more between origin x (keeps x w),
  λ all x w. ⊎_elim (λ (v : Waits between x). inside all x v) (λ (e : x ≡ origin). omega (arith, e, lt))
      (waits-last between origin x w),
  λ x w. waits-more between origin x w,
  inr (waits-end between origin),
)

-- the places that wait for the places of a region so far
pub awaits_begun : (last before : List ℕ) (place join : ℕ) → place < length before
    → AwaitsBelow last before place join (place + 1) (place ∷ [])
awaits_begun last before place join lt = record {
  branch = inl refl;
  inside = λ x w. ⊎_elim (λ (e : place ≡ x). omega (arith, sym e, lt)) (λ (v : ⊥). absurd v) w;
  waits = λ p q less le linked. absurd (omega (arith, less, le));
}

pub awaits_more : (last before : List ℕ) (place join inner : ℕ) (stack after : List ℕ)
    → AwaitsBelow last before place join inner stack
    → Awaits place join (length before) (IsLinked before (get_or last inner 0)) stack after
    → AwaitsBelow last before place join (inner + 1) after
awaits_more last before place join inner stack after h one = record {
  branch = one.keeps place h.branch;
  inside = one.inside h.inside;
  waits = λ p q lt le linked. by p q lt le linked (cases_eq q inner);
}
  where
    by : (p q : ℕ) → place < q → q < inner + 1 → IsLinked before (get_or last q 0) p → (q ≡ inner) ⊎ (q ≡ inner → ⊥)
        → ((place ≤ p) × (p < join)) ⊎ Waits after p
    by p q lt le linked (inl e) = one.waits p (subst (λ (x : ℕ). IsLinked before (get_or last x 0) p) e linked)
    by p q lt le linked (inr ne) =
        ⊎_elim (λ (w : (place ≤ p) × (p < join)). inl w) (λ (w : Waits stack p). inr (one.keeps p w))
        (h.waits p q lt (omega (arith, le, ne)) linked)

-- what an instruction leads to
pub jump_only : (o : Parts) (p : ℕ) (offset : ℤ) → slice_get o.code p ≡ Some (Jmp offset) → (q : ℕ)
    → IsTargetOf o [] p q → q ≡ target_of o p offset
jump_only o p offset at q (ByJump p' q' x c to lt) =
    to ∙ ap (target_of o p) (same_jump x offset (instr-once o p (Jmp x) (Jmp offset) c at))
jump_only o p offset at q (ByBranch p' q' cmp ra rb x c apart to lt) =
    absurd (let f = instr-once o p (Jmp offset) (Br cmp ra rb x) at c in cc)

pub branch_only : (o : Parts) (p : ℕ) (cmp : Cmp) (ra rb : ℕ) (offset : ℤ)
    → slice_get o.code p ≡ Some (Br cmp ra rb offset) → (q : ℕ) → IsTargetOf o [] p q → q ≡ target_of o p offset
branch_only o p cmp ra rb offset at q (ByJump p' q' x c to lt) =
    absurd (let f = instr-once o p (Br cmp ra rb offset) (Jmp x) at c in cc)
branch_only o p cmp ra rb offset at q (ByBranch p' q' d sa sb x c apart to lt) =
    to ∙ ap (target_of o p) (offset_once d cmp sa sb ra rb x offset
    (instr-once o p (Br d sa sb x) (Br cmp ra rb offset) c at))

pub other_none : (o : Parts) (p : ℕ) (i : Instr) → slice_get o.code p ≡ Some i
    → ((offset : ℤ) → i ≡ Jmp offset → ⊥) → ((cmp : Cmp) (ra rb : ℕ) (offset : ℤ) → i ≡ Br cmp ra rb offset → ⊥)
    → (q : ℕ) → IsTargetOf o [] p q → ⊥
other_none o p i at jumps branches q (ByJump p' q' x c to lt) = jumps x (instr-once o p i (Jmp x) at c)
other_none o p i at jumps branches q (ByBranch p' q' d sa sb x c apart to lt) =
    branches d sa sb x (instr-once o p i (Br d sa sb x) at c)

pub halt_none : (o : Parts) (p : ℕ) → slice_get o.code p ≡ Some Halt → (q : ℕ) → IsTargetOf o [] p q → ⊥
halt_none o p at q t =
    other_none o p Halt at (λ offset e. absurd cc) (λ cmp ra rb offset e. absurd cc) q t

-- what was known in a region, as far as it is forgotten
pub without_begun : (place : ℕ) (states : List (Option Known)) → IsWithout place (place + 1) states states
without_begun place states = record {
  size = refl;
  inside = λ q lt le. absurd (omega (arith, lt, le));
  outside = λ q out. refl;
}

pub without_more : (place inner : ℕ) (before after : List (Option Known)) → place < inner → inner < length after
    → IsWithout place inner before after → IsWithout place (inner + 1) before (set after inner None)
without_more place inner before after behind within h = record {
  size = length-set after inner None ∙ h.size;
  inside = λ q lt le. ⊎_elim
      (λ (e : q ≡ inner). ap (λ (x : ℕ). get_or (set after inner None) x None) e
      ∙ get_or-set_same after inner None None within)
      (λ (ne : q ≡ inner → ⊥). get_or-set_other after inner q None None ne ∙ h.inside q lt (omega (arith, le, ne)))
      (cases_eq q inner);
  outside = λ q out.
      get_or-set_other after inner q None None (λ e. out (omega (arith, e, behind)) (omega (arith, e)))
      ∙ h.outside q (λ l m. out l (omega (arith, m)));
}
