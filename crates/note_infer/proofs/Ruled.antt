-- Which instruction is at a place that falls through, and where a region opens; and the rule for a jump.
use Rattle.std.proofs.Common.{◌≡◌, ℕ, ◌-◌, ◌<◌, Bool, true, false, not, ◌||◌, nat_lt, ℤ, length, slice_get, ◌⊎◌, inl, inr, Option, Some, None, refl, sym, ap, ◌∙◌, subst}
use Rattle.std.specs.Prelude.{if◌then◌else◌}
use Rattle.std.specs.Option.{option_map}
use Rattle.std.proofs.lemmas.Bool.{ltb-true, lt-ltb}
use Rattle.gr_word.specs.declared.operations.Cmp.{Cmp}
use Rattle.lt_isa.specs.declared.symbols.Note.{Note}
use Rattle.lt_isa.specs.declared.instructions.Instr.{Instr}
use Rattle.lt_isa.specs.declared.instructions.Instr.TheVariants.{Halt, Jmp, Br}
use Rattle.lt_isa.specs.Prelude.{Parts, target_of}
use Rattle.trace_patterns.specs.declared.reasons.Reason.{Reason}
use Rattle.trace_patterns.specs.declared.reasons.Reason.TheVariants.{JumpOutside, NoNote, NoteTooLow}
use Rattle.trace_patterns.specs.Prelude.{Known, start_known, is_secret, note_known, fits, FitsClaim, at_entry, Ruling, Refused, Falls, Leaves, Opens, note_of_place, claimed_at, refused_if, at_claim, jumped, ruling_of, ruling_if, ruling_at, VisitedAt, Noted, Unnoted, ComesTo, Starts, FallsTo, JoinsAt, only_goes_on, known_behind}
use Rattle.trace_patterns.proofs.Notes.{fits-claim}
use Rattle.trace_patterns.proofs.Masks.{length-marks, length-claims}
use Rattle.trace_patterns.proofs.SymStateLaws.{sized-at_entry}
use Rattle.trace_patterns.proofs.Walks.{crosses-sized}
use Rattle.note_infer.specs.Prelude.{IsFull}
use Rattle.note_infer.proofs.Lower.{lower-own, known-lower, full-after}
use Rattle.note_infer.proofs.RuledLower.{refused_not_falls, opens_not_falls, refused_not_opens, leaves_not_opens, leaves_not_falls, falls_not_opens, falls_once, IsPlainRuling, plain-ruled, ruling-some}

-- what a jump is ruled
pub record Jumped (a : Parts) (target : ℕ) (k : Known) (next : Ruling) : Type 0 where
  pub is : jumped a target k next ≡ next
  pub inside : target < length a.code
  pub claimed : Known
  pub at : claimed_at a target ≡ Some claimed
  pub fit : FitsClaim k claimed

pub jumped-is : (a : Parts) (target : ℕ) (k : Known) (next : Ruling)
    → ((reason : Reason) × (jumped a target k next ≡ Refused reason)) ⊎ Jumped a target k next
jumped-is a target k next = by (nat_lt target (length a.code)) (claimed_at a target) refl refl
  where
    by : (b : Bool) (c : Option Known) → nat_lt target (length a.code) ≡ b → claimed_at a target ≡ c
        → ((reason : Reason) × (jumped a target k next ≡ Refused reason)) ⊎ Jumped a target k next
    by false c is at =
        inl (JumpOutside, ap (λ (b : Bool). refused_if (not b) JumpOutside (at_claim (claimed_at a target) k next)) is)
    by true None is at =
        inl (
          NoNote,
          ap (λ (b : Bool). refused_if (not b) JumpOutside (at_claim (claimed_at a target) k next)) is
              ∙ ap (λ (c : Option Known). at_claim c k next) at,
        )
    by true (Some c) is at = fit (fits k c) refl
      where
        to : jumped a target k next ≡ refused_if (not (fits k c)) NoteTooLow next
        to = ap (λ (b : Bool). refused_if (not b) JumpOutside (at_claim (claimed_at a target) k next)) is
            ∙ ap (λ (c : Option Known). at_claim c k next) at

        fit : (b : Bool) → fits k c ≡ b
            → ((reason : Reason) × (jumped a target k next ≡ Refused reason)) ⊎ Jumped a target k next
        fit false f = inl (NoteTooLow, to ∙ ap (λ (b : Bool). refused_if (not b) NoteTooLow next) f)
        fit true f = inr (record {
          is = to ∙ ap (λ (b : Bool). refused_if (not b) NoteTooLow next) f;
          inside = ltb-true target (length a.code) is;
          claimed = c;
          at = at;
          fit = (fits-claim a target k c at).0 f;
        })

pub jumped-fits : (a : Parts) (target : ℕ) (k claimed : Known) (next : Ruling) → target < length a.code
    → claimed_at a target ≡ Some claimed → FitsClaim k claimed → jumped a target k next ≡ next
jumped-fits a target k claimed next inside at fit =
    ap (λ (b : Bool). refused_if (not b) JumpOutside (at_claim (claimed_at a target) k next))
    (lt-ltb target (length a.code) inside)
    ∙ ap (λ (c : Option Known). at_claim c k next) at
    ∙ ap (λ (b : Bool). refused_if (not b) NoteTooLow next) ((fits-claim a target k claimed at).1 fit)

-- a branch
pub br-ruled : (a : Parts) (p : ℕ) (k : Known) (cmp : Cmp) (ra rb : ℕ) (offset : ℤ) (secret : Bool)
    → (is_secret k ra || is_secret k rb) ≡ secret
    → ruling_of a p k (Br cmp ra rb offset)
    ≡ (if secret then Opens offset else jumped a (target_of a p offset) k (Falls k))
unfolding ruling_of
br-ruled a p k cmp ra rb offset secret is =
    ap (λ (b : Bool). if b then Opens offset else jumped a (target_of a p offset) k (Falls k)) is

pub jmp-ruled : (a : Parts) (p : ℕ) (k : Known) (offset : ℤ)
    → ruling_of a p k (Jmp offset) ≡ jumped a (target_of a p offset) k Leaves
unfolding ruling_of
jmp-ruled a p k offset = refl

halt-ruled : (a : Parts) (p : ℕ) (k : Known) → ruling_of a p k Halt ≡ Leaves
unfolding ruling_of
halt-ruled a p k = refl

-- where a place falls through
pub data FallsBy (a : Parts) (p : ℕ) (k next : Known) : Type 0 where
  Plainly : (i : Instr) → slice_get a.code p ≡ Some i → only_goes_on i ≡ true → next ≡ known_behind k i
      → FallsBy a p k next
  PastBranch : (cmp : Cmp) (ra rb : ℕ) (offset : ℤ) → slice_get a.code p ≡ Some (Br cmp ra rb offset) → next ≡ k
      → (is_secret k ra || is_secret k rb) ≡ false → FallsBy a p k next

-- where a region opens
pub record OpensBy (a : Parts) (p : ℕ) (k : Known) (offset : ℤ) : Type 0 where
  pub cmp : Cmp
  pub ra : ℕ
  pub rb : ℕ
  pub at : slice_get a.code p ≡ Some (Br cmp ra rb offset)
  pub secret : (is_secret k ra || is_secret k rb) ≡ true

module _ (a : Parts) (p : ℕ) (k : Known) where
  plain_falls : (i : Instr) (next : Known) → slice_get a.code p ≡ Some i → only_goes_on i ≡ true
      → ruling_at a p k ≡ Falls next → FallsBy a p k next
  plain_falls i next at goes e = by (plain-ruled a p k i goes)
    where
      by : IsPlainRuling (known_behind k i) (ruling_of a p k i) → FallsBy a p k next
      by (inl is) = refused_not_falls is.0 next (sym is.1 ∙ sym (ruling-some a p k i at) ∙ e)
      by (inr is) = Plainly i at goes (falls_once next (known_behind k i) (sym e ∙ ruling-some a p k i at ∙ is))

  br_falls : (cmp : Cmp) (ra rb : ℕ) (offset : ℤ) (next : Known) → slice_get a.code p ≡ Some (Br cmp ra rb offset)
      → ruling_at a p k ≡ Falls next → FallsBy a p k next
  br_falls cmp ra rb offset next at e = by (is_secret k ra || is_secret k rb) refl (jumped-is a
      (target_of a p offset) k (Falls k))
    where
      ruled : ruling_of a p k (Br cmp ra rb offset) ≡ Falls next
      ruled = sym (ruling-some a p k (Br cmp ra rb offset) at) ∙ e

      by : (b : Bool) → (is_secret k ra || is_secret k rb) ≡ b
          → ((reason : Reason) × (jumped a (target_of a p offset) k (Falls k) ≡ Refused reason))
          ⊎ Jumped a (target_of a p offset) k (Falls k) → FallsBy a p k next
      by true is j = opens_not_falls offset next (sym (br-ruled a p k cmp ra rb offset true is) ∙ ruled)
      by false is (inl r) =
          refused_not_falls r.0 next (sym r.1 ∙ sym (br-ruled a p k cmp ra rb offset false is) ∙ ruled)
      by false is (inr j) =
          PastBranch cmp ra rb offset at
          (falls_once next k (sym ruled ∙ br-ruled a p k cmp ra rb offset false is ∙ j.is)) is

  jmp_never : {A : Type 0} (offset : ℤ) (r : Ruling) → slice_get a.code p ≡ Some (Jmp offset) → ruling_at a p k ≡ r
      → ((reason : Reason) → Refused reason ≡ r → A) → (Leaves ≡ r → A) → A
  jmp_never {A = A} offset r at e no_refusal no_leave = by (jumped-is a (target_of a p offset) k Leaves)
    where
      ruled : jumped a (target_of a p offset) k Leaves ≡ r
      ruled = sym (jmp-ruled a p k offset) ∙ sym (ruling-some a p k (Jmp offset) at) ∙ e

      by : ((reason : Reason) × (jumped a (target_of a p offset) k Leaves ≡ Refused reason))
          ⊎ Jumped a (target_of a p offset) k Leaves → A
      by (inl x) = no_refusal x.0 (sym x.1 ∙ ruled)
      by (inr j) = no_leave (sym j.is ∙ ruled)

  some_falls : (i : Instr) (next : Known) → slice_get a.code p ≡ Some i → ruling_at a p k ≡ Falls next
      → FallsBy a p k next
  some_falls Halt next at e =
      leaves_not_falls next (sym (halt-ruled a p k) ∙ sym (ruling-some a p k Halt at) ∙ e)
  some_falls (Jmp offset) next at e =
      jmp_never offset (Falls next) at e (λ reason f. refused_not_falls reason next f) (λ f. leaves_not_falls next f)
  some_falls (Br cmp ra rb offset) next at e = br_falls cmp ra rb offset next at e
  some_falls i next at e = plain_falls i next at refl e

  pub falls-by : (next : Known) → ruling_at a p k ≡ Falls next → FallsBy a p k next
  unfolding ruling_at
  falls-by next e = by (slice_get a.code p) refl e
    where
      by : (i : Option Instr) → slice_get a.code p ≡ i → ruling_if a p k i ≡ Falls next → FallsBy a p k next
      by None at f = leaves_not_falls next f
      by (Some i) at f = some_falls i next at (ruling-some a p k i at ∙ f)

  plain_opens : {A : Type 0} (i : Instr) (offset : ℤ) → slice_get a.code p ≡ Some i → only_goes_on i ≡ true
      → ruling_at a p k ≡ Opens offset → A
  plain_opens {A = A} i offset at goes e = by (plain-ruled a p k i goes)
    where
      by : IsPlainRuling (known_behind k i) (ruling_of a p k i) → A
      by (inl is) = refused_not_opens is.0 offset (sym is.1 ∙ sym (ruling-some a p k i at) ∙ e)
      by (inr is) = falls_not_opens offset (known_behind k i) (sym is ∙ sym (ruling-some a p k i at) ∙ e)

  offset_is : (x y : ℤ) → ◌≡◌ {A = Ruling} (Opens x) (Opens y) → x ≡ y
  offset_is x y e = cc

  br_opens : (cmp : Cmp) (ra rb : ℕ) (x offset : ℤ) → slice_get a.code p ≡ Some (Br cmp ra rb x)
      → ruling_at a p k ≡ Opens offset → OpensBy a p k offset
  br_opens cmp ra rb x offset at e =
      by (is_secret k ra || is_secret k rb) refl (jumped-is a (target_of a p x) k (Falls k))
    where
      ruled : ruling_of a p k (Br cmp ra rb x) ≡ Opens offset
      ruled = sym (ruling-some a p k (Br cmp ra rb x) at) ∙ e

      by : (b : Bool) → (is_secret k ra || is_secret k rb) ≡ b
          → ((reason : Reason) × (jumped a (target_of a p x) k (Falls k) ≡ Refused reason))
          ⊎ Jumped a (target_of a p x) k (Falls k) → OpensBy a p k offset
      by true is j =
          let same = offset_is x offset (sym (br-ruled a p k cmp ra rb x true is) ∙ ruled) in
          record {
            cmp = cmp;
            ra = ra;
            rb = rb;
            at = subst (λ (z : ℤ). slice_get a.code p ≡ Some (Br cmp ra rb z)) same at;
            secret = is;
          }
      by false is (inl r) =
          refused_not_opens r.0 offset (sym r.1 ∙ sym (br-ruled a p k cmp ra rb x false is) ∙ ruled)
      by false is (inr j) =
          falls_not_opens offset k (sym j.is ∙ sym (br-ruled a p k cmp ra rb x false is) ∙ ruled)

  some_opens : (i : Instr) (offset : ℤ) → slice_get a.code p ≡ Some i → ruling_at a p k ≡ Opens offset
      → OpensBy a p k offset
  some_opens Halt offset at e =
      leaves_not_opens offset (sym (halt-ruled a p k) ∙ sym (ruling-some a p k Halt at) ∙ e)
  some_opens (Jmp x) offset at e =
      jmp_never x (Opens offset) at e (λ reason f. refused_not_opens reason offset f) (λ f. leaves_not_opens offset f)
  some_opens (Br cmp ra rb x) offset at e = br_opens cmp ra rb x offset at e
  some_opens i offset at e = plain_opens i offset at refl e

  pub opens-by : (offset : ℤ) → ruling_at a p k ≡ Opens offset → OpensBy a p k offset
  unfolding ruling_at
  opens-by offset e = by (slice_get a.code p) refl e
    where
      by : (i : Option Instr) → slice_get a.code p ≡ i → ruling_if a p k i ≡ Opens offset → OpensBy a p k offset
      by None at f = leaves_not_opens offset f
      by (Some i) at f = some_opens i offset at (ruling-some a p k i at ∙ f)

-- what is known at a visited place has its registers and slots
claim_full : (n : Option Note) (c : Known) → option_map note_known n ≡ Some c → IsFull c
claim_full None c e = absurd (let f : ◌≡◌ {A = Option Known} None (Some c) = e in cc)
claim_full (Some n) c e =
    let same : note_known n ≡ c = cc in
    subst IsFull same (record { registers = length-marks 32 n.secrets; slots = length-claims 8 n.slots })

pub claimed-full : (a : Parts) (p : ℕ) (c : Known) → claimed_at a p ≡ Some c → IsFull c
unfolding claimed_at
claimed-full a p c e = claim_full (note_of_place a.notes p) c e

pub start-full : IsFull start_known
unfolding start_known
start-full = record { registers = refl; slots = refl }

falls_full : (a : Parts) (p : ℕ) (k next : Known) → IsFull k → FallsBy a p k next → IsFull next
falls_full a p k next full (Plainly i at goes is) =
    subst IsFull (sym is) (known-lower k k i (lower-own k full)).low_full
falls_full a p k next full (PastBranch cmp ra rb offset at is public) = subst IsFull (sym is) full

mutual
  pub visited-full : (a : Parts) (p : ℕ) (k : Known) → VisitedAt a p k → IsFull k
  visited-full a p k (Noted q c at) = claimed-full a p k at
  visited-full a p k (Unnoted q c at comes) = comes-full a p k comes

  pub comes-full : (a : Parts) (p : ℕ) (k : Known) → ComesTo a p k → IsFull k
  comes-full a p k Starts = start-full
  comes-full a p k (FallsTo q known next visited falls) =
      falls_full a q known k (visited-full a q known visited) (falls-by a q known k falls)
  comes-full a p k (JoinsAt q known offset pattern join state visited opens crosses) =
      full-after state (crosses-sized a 0 (length a.code - 1) q offset (at_entry known) pattern join state crosses
      (sized-at_entry known))
