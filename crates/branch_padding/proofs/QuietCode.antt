-- Straight code without events shows its cycles, and leaves the slots as they were. This follows from a walk of it, in an
-- object that has only this code: the given object may not contain it.
use Rattle.std.proofs.Common.{◌≡◌, ℕ, ◌+◌, ◌^◌, Bool, true, false, nat_lt, List, [], ◌∷◌, ◌++◌, length, Option, Some, None, refl, sym, ap, ◌∙◌, subst, arith, length-append}
use Rattle.std.specs.Prelude.{if◌then◌else◌, slice_get}
use Rattle.std.specs.Option.{unwrap_or}
use Rattle.std.proofs.lemmas.Option.{none-some}
use Rattle.lt_isa.specs.declared.instructions.Instr.{Instr}
use Rattle.lt_isa.specs.declared.instructions.Instr.TheVariants.{Nop, Halt, Li, Alu, Ldb, Stb, Idb, Ldw, Stw, Jmp, Br}
use Rattle.lt_isa.specs.declared.profiles.Profile.{Profile}
use Rattle.lt_isa.specs.Prelude.{Parts}
use Rattle.lt_checker.proofs.Singles.{OnSingle, on_single, on_bound, on_stored}
use Rattle.trace_patterns.specs.Prelude.{Shown, joined, TreeEvent, SymState, slot_held, gap, single, WalksTo, AtEnd, Onward, Across}
use Rattle.stretches.specs.Prelude.{StandsInArm, Show, pattern_of, StandsAt}
use Rattle.stretches.proofs.ShowLaws.{no_gap, gaps-joined, pattern_of-append}
use Rattle.stretches.proofs.Standing.{standing-first, standing-head, standing-tail, standing-whole}
use Rattle.block_cache_gen.specs.Prelude.{Setting, HasHomes, Loads, no_loads, then_loads}
use Rattle.block_cache_gen.proofs.ArmAssignments.{Goes}
use Rattle.block_cache_gen.proofs.ArmStates.{then_loads-held}
use Rattle.block_cache_gen.proofs.Ranged.{homes-same}
use Rattle.branch_padding.specs.Prelude.{quiet_cost, added, quiet_cycles}

pub same_number : (m n : ℕ) → ◌≡◌ {A = Option ℕ} (Some m) (Some n) → m ≡ n
same_number m n is = cc

-- a sum has two parts
pub record IsSum (x y : Option ℕ) (n : ℕ) : Type 0 where
  pub one : ℕ
  pub two : ℕ
  pub first : x ≡ Some one
  pub second : y ≡ Some two
  pub sum : one + two ≡ n

pub added-parts : (x y : Option ℕ) (n : ℕ) → added x y ≡ Some n → IsSum x y n
added-parts None y n is = absurd (none-some n is)
added-parts (Some m) None n is = absurd (none-some n is)
added-parts (Some m) (Some k) n is = by (nat_lt (m + k) (2 ^ 32)) is
  where
    by : (c : Bool) → (if c then Some (m + k) else None) ≡ Some n → IsSum (Some m) (Some k) n
    by true e = record { one = m; two = k; first = refl; second = refl; sum = same_number (m + k) n e }
    by false e = absurd (none-some n e)

-- an instruction that shows no event shows its cycles, and keeps the slots
abbrev IsQuietStep : ℕ → SymState → Shown TreeEvent → SymState → Type 0
IsQuietStep cycles s pattern t = (pattern ≡ gap cycles) × ((k : ℕ) → slot_held t k ≡ slot_held s k)

quiet-single : (o : Parts) (s : SymState) (i : Instr) (c : ℕ) → quiet_cost o.profile i ≡ Some c
    → OnSingle (IsQuietStep c s) (single o s i)
unfolding single
quiet-single o s Nop c is = (ap gap (same_number 1 c is), λ k. refl)
quiet-single o s (Li rd value) c is = (ap gap (same_number 1 c is), λ k. refl)
quiet-single o s (Alu op rd ra rb) c is = (ap gap (same_number _ c is), λ k. refl)
quiet-single o s (Ldw rd slot ro) c is =
    on_bound (IsQuietStep c s) (slot_held s slot) _ (λ known. (ap gap (same_number o.profile.word c is), λ k. refl))
quiet-single o s (Stw rs slot ro) c is =
    on_stored (IsQuietStep c s) (slot_held s slot) _ (λ hidden. (ap gap (same_number o.profile.word c is), λ k. refl))
quiet-single o s other c is = absurd (none-some c is)

same_instr : (o : Parts) (p : ℕ) (i j : Instr) (code : List Instr) → slice_get o.code p ≡ Some i
    → StandsAt o p (j ∷ code) → j ≡ i
same_instr o p i j code is at =
    let e : ◌≡◌ {A = Option Instr} (Some j) (Some i) = sym (standing-head j code at) ∙ is in cc

-- a walk of code without events
quiet-walk : (o : Parts) (depth end p : ℕ) (s : SymState) (pattern : Shown TreeEvent) (t : SymState)
    → WalksTo o depth end p s pattern t
    → (code : List Instr) → StandsAt o p code → end ≡ p + length code → (n : ℕ)
    → quiet_cycles o.profile code ≡ Some n → IsQuietStep n s pattern t
quiet-walk o depth end p s pattern t (AtEnd d e s') [] at ends n is =
    (sym no_gap ∙ ap gap (same_number 0 n is), λ k. refl)
quiet-walk o depth end p s pattern t (AtEnd d e s') (i ∷ code) at ends n is = absurd (omega (arith, ends))
quiet-walk o depth end p s pattern t (Onward d e p' s' i shown v rest u before here goes walk) [] at ends n is =
    absurd (omega (arith, ends, before))
quiet-walk o depth end p s pattern t (Onward d e p' s' i shown v rest u before here goes walk) (j ∷ code) at ends n
    is =
    let parts = added-parts (quiet_cost o.profile j) (quiet_cycles o.profile code) n is in
    let step : IsQuietStep parts.one s shown v =
    on_single (IsQuietStep parts.one s) (single o s i) shown v
    (subst (λ (x : Instr). OnSingle (IsQuietStep parts.one s) (single o s x)) (same_instr o p i j code here at)
    (quiet-single o s j parts.one parts.first)) goes in
    let more = quiet-walk o depth end (p + 1) v rest t walk code (standing-tail j code at) (omega (arith, ends)) parts.two
    parts.second in (
      (λ k. joined (step.0 k) (more.0 k)) ∙ gaps-joined parts.one parts.two ∙ ap gap parts.sum,
      λ k. more.1 k ∙ step.1 k,
    )
quiet-walk o depth end p s pattern t (Across d e p' s' cmp ra rb offset shown join v rest u before here crosses walk)
    [] at ends n is =
    absurd (omega (arith, ends, before))
quiet-walk o depth end p s pattern t (Across d e p' s' cmp ra rb offset shown join v rest u before here crosses walk)
    (j ∷ code) at ends n is =
    let parts = added-parts (quiet_cost o.profile j) (quiet_cycles o.profile code) n is in
    let none : None ≡ Some parts.one =
    sym (ap (quiet_cost o.profile) (same_instr o p (Br cmp ra rb offset) j code here at)) ∙ parts.first in
    absurd (none-some parts.one none)

-- an object that has only this code, with the same memory
abbrev pub object_of : Parts → List Instr → Parts
object_of o code = record o { notes = []; code = code ++ Halt ∷ [] }

-- it has the same homes
pub homes-in : (o : Parts) (f : Setting) (code : List Instr) → HasHomes o f → HasHomes (object_of o code) f
homes-in o f code homes = homes-same o f [] (code ++ Halt ∷ []) f.held f.ranges homes.held homes

-- and there the code is in an arm
alone : (o : Parts) (code : List Instr) → StandsInArm (object_of o code) 0 code
alone o code = record {
  at = standing-first code (Halt ∷ []) (standing-whole (object_of o code) (code ++ Halt ∷ []) refl);
  behind = omega (arith, length-append code (Halt ∷ []));
  quiet = refl;
}

-- From a state, only this number of cycles is shown, and the slots hold afterwards what they held before.
pub record IsQuiet (s : SymState) (shows : List Show) (loads : Loads) (cycles : ℕ) : Type 0 where
  pub shown : pattern_of shows ≡ gap cycles
  pub slots : (k : ℕ) → unwrap_or (loads k) (slot_held s k) ≡ slot_held s k

-- nothing
pub quiet-none : (s : SymState) → IsQuiet s [] no_loads 0
quiet-none s = record { shown = sym no_gap; slots = λ k. refl }

-- one and then another
pub quiet-then : (s : SymState) (xs ys : List Show) (l m : Loads) (one two : ℕ) → IsQuiet s xs l one → IsQuiet s ys m two
    → IsQuiet s (xs ++ ys) (then_loads l m) (one + two)
quiet-then s xs ys l m one two first second = record {
  shown =
      pattern_of-append xs ys ∙ (λ k. joined (first.shown k) (second.shown k)) ∙ gaps-joined one two;
  slots = λ k.
      then_loads-held l m k (slot_held s k) ∙ ap (unwrap_or (m k)) (first.slots k) ∙ second.slots k;
}

-- straight code without events that is walked in an object of its own
pub quiet-code : (o : Parts) (f : Setting) → HasHomes o f → (s : SymState) (code : List Instr) (shows : List Show)
    (loads : Loads) (n : ℕ)
    → Goes (object_of o code) f 0 s code shows loads → quiet_cycles f.profile code ≡ Some n → IsQuiet s shows loads n
quiet-code o f homes s code shows loads n goes is =
    let walked = quiet-walk (object_of o code) 0 (0 + length code) 0 s (pattern_of shows) goes.state
    (goes.walked.walks 0 (alone o code)) code (let stands = alone o code in stands.at) refl n
    (ap (λ (p : Profile). quiet_cycles p code) homes.profile ∙ is) in
    record { shown = walked.0; slots = λ k. sym (goes.slots k) ∙ walked.1 k }
