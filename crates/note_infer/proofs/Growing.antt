-- How the branches that are crossed grow.
use Rattle.std.proofs.Common.{◌≡◌, ℕ, zero, suc, ◌==◌, ◌||◌, ◌<◌, ◌≤◌, Bool, true, false, List, [], ◌∷◌, length, take, drop, ◌++◌, slice_get, Option, Some, None, ℤ, refl, sym, ap, ◌∙◌, subst, ⊎_elim, arith}
use Rattle.std.proofs.lemmas.Bool.{cases_eq, eq-eqb, false≢true}
use Rattle.std.proofs.Math.Seq.{take-append_seam}
use Rattle.lt_isa.specs.Prelude.{Parts}
use Rattle.gr_word.specs.declared.operations.Cmp.{Cmp}
use Rattle.lt_isa.specs.declared.instructions.Instr.{Instr}
use Rattle.lt_isa.specs.declared.instructions.Instr.TheVariants.{Br}
use Rattle.trace_patterns.specs.Prelude.{Known, is_secret, JoinsIn}
use Rattle.trace_patterns.proofs.Carries.{instr-once, offset_once}
use Rattle.region_walk.specs.Prelude.{IsCarriedTo}
use Rattle.note_infer.specs.Prelude.{is_crossed, MayJoin, HasGrown, NoneYet, Joins, one_unless, IsBranchOf, BranchIsAt, at_places, LoopHolds, HasLeast, HasLast, MayJoinTo, IsLowestToJoin, GrowthHolds, places_left}
use Rattle.note_infer.specs.declared.joining.Branch.{Branch}
use Rattle.note_infer.proofs.Turns.{loop_ended}

-- where the search has ended
pub least_ended : (o : Parts) (crossed : List ℕ) (states : List (Option Known)) → LoopHolds o crossed states []
    → HasLeast o crossed states
least_ended o crossed states h =
    record { size = h.size; least = loop_ended o crossed states h; sound = h.sound }

-- one more branch
pub growth_more : (o : Parts) (size : ℕ) (crossed : List ℕ) (states next : List (Option Known)) (place join : ℕ)
    → GrowthHolds o size crossed states → IsLowestToJoin o crossed states place join
    → HasLeast o (place ∷ crossed) next → GrowthHolds o size (place ∷ crossed) next
growth_more o size crossed states next place join h lowest has = record {
  grown = Joins crossed (at_places states) place h.grown h.has.least lowest.to.may lowest.lowest;
  size_is = h.size_is;
  has = has;
}

pub growth_ended : (o : Parts) (size : ℕ) (crossed : List ℕ) (states : List (Option Known))
    → GrowthHolds o size crossed states → ((p : ℕ) → ¬ MayJoin o crossed (at_places states) p)
    → HasLast o crossed states
growth_ended o size crossed states h none = record {
  last = record { grown = h.grown; least = h.has.least; done = none };
  has = h.has;
}

one_less : (b c : Bool) → one_unless (b || c) ≤ one_unless c
one_less true true = omega arith
one_less true false = omega arith
one_less false true = omega arith
one_less false false = omega arith

left_no_more : (n : ℕ) (crossed : List ℕ) (place : ℕ) → places_left n (place ∷ crossed) ≤ places_left n crossed
unfolding places_left
left_no_more zero crossed place = omega arith
left_no_more (suc n) crossed place =
    omega (arith, one_less (place == n) (is_crossed crossed n), left_no_more n crossed place)

-- fewer places are left
pub left_less : (n : ℕ) (crossed : List ℕ) (place : ℕ) → place < n → is_crossed crossed place ≡ false
    → places_left n (place ∷ crossed) < places_left n crossed
unfolding places_left
left_less zero crossed place lt apart = absurd (omega arith)
left_less (suc n) crossed place lt apart =
    ⊎_elim
    (λ (e : place ≡ n).
    let now : one_unless ((place == n) || is_crossed crossed n) ≡ 0 =
    ap (λ (b : Bool). one_unless (b || is_crossed crossed n)) (eq-eqb place n e) in
    let was : one_unless (is_crossed crossed n) ≡ 1 =
    ap one_unless (ap (is_crossed crossed) (sym e) ∙ apart) in
    omega (arith, now, was, left_no_more n crossed place))
    (λ (ne : place ≡ n → ⊥).
    omega (arith, one_less (place == n) (is_crossed crossed n), left_less n crossed place (omega arith) apart))
    (cases_eq place n)

-- a branch that may join isn't crossed, and is in the code
pub join_apart : (o : Parts) (crossed : List ℕ) (states : List (Option Known)) (place join : ℕ)
    → IsLowestToJoin o crossed states place join → is_crossed crossed place ≡ false
join_apart o crossed states place join h = h.to.may.apart

-- why a branch doesn't join
pub crossed_stays : (o : Parts) (crossed : List ℕ) (states : List (Option Known)) (place : ℕ)
    → is_crossed crossed place ≡ true → ¬ MayJoin o crossed (at_places states) place
crossed_stays o crossed states place among h = false≢true (sym h.apart ∙ among)

pub unreached_stays : (o : Parts) (crossed : List ℕ) (states : List (Option Known)) (place : ℕ)
    → at_places states place ≡ None → ¬ MayJoin o crossed (at_places states) place
unreached_stays o crossed states place none h =
    let f : ◌≡◌ {A = Option Known} None (Some h.known) = sym none ∙ h.reached in absurd cc

pub other_stays : (o : Parts) (crossed : List ℕ) (states : List (Option Known)) (place : ℕ) (i : Instr)
    → slice_get o.code place ≡ Some i → IsBranchOf i None → ¬ MayJoin o crossed (at_places states) place
other_stays o crossed states place i at none h =
    none h.cmp h.ra h.rb h.offset (instr-once o place i (Br h.cmp h.ra h.rb h.offset) at h.branch)

same_known : (states : List (Option Known)) (place : ℕ) (j k : Known) → at_places states place ≡ Some j
    → at_places states place ≡ Some k → j ≡ k
same_known states place j k e f = let g : ◌≡◌ {A = Option Known} (Some j) (Some k) = sym e ∙ f in cc

left_once : (c d : Cmp) (ra rb sa sb : ℕ) (x y : ℤ) → Br c ra rb x ≡ Br d sa sb y → ra ≡ sa
left_once c d ra rb sa sb x y e = cc

right_once : (c d : Cmp) (ra rb sa sb : ℕ) (x y : ℤ) → Br c ra rb x ≡ Br d sa sb y → rb ≡ sb
right_once c d ra rb sa sb x y e = cc

pub public_stays : (o : Parts) (crossed : List ℕ) (states : List (Option Known)) (place : ℕ) (k : Known) (b : Branch)
    → at_places states place ≡ Some k → BranchIsAt o place b → (is_secret k b.ra || is_secret k b.rb) ≡ false
    → ¬ MayJoin o crossed (at_places states) place
public_stays o crossed states place k b at branch public h =
    let e = instr-once o place (Br h.cmp h.ra h.rb h.offset) (Br branch.cmp b.ra b.rb b.offset) h.branch branch.at in
    let left = left_once h.cmp branch.cmp h.ra h.rb b.ra b.rb h.offset b.offset e in
    let right = right_once h.cmp branch.cmp h.ra h.rb b.ra b.rb h.offset b.offset e in
    let known = same_known states place h.known k h.reached at in
    false≢true (sym public ∙ sym (ap (λ (x : Known). is_secret x h.ra || is_secret x h.rb) known
    ∙ ap (λ (r : ℕ). is_secret k r || is_secret k h.rb) left ∙ ap (λ (r : ℕ). is_secret k b.ra || is_secret k r) right)
    ∙ h.secret)

pub unshaped_stays : (o : Parts) (crossed : List ℕ) (states : List (Option Known)) (place : ℕ) (k : Known) (b : Branch)
    → at_places states place ≡ Some k → BranchIsAt o place b
    → ((join : ℕ) (next : Known) → JoinsIn o place b.offset k join next → ⊥)
    → ¬ MayJoin o crossed (at_places states) place
unshaped_stays o crossed states place k b at branch none h =
    let e = instr-once o place (Br h.cmp h.ra h.rb h.offset) (Br branch.cmp b.ra b.rb b.offset) h.branch branch.at in
    let same = offset_once h.cmp branch.cmp h.ra h.rb b.ra b.rb h.offset b.offset e in
    let known = same_known states place h.known k h.reached at in
    none h.join h.next (subst (λ (x : Known). JoinsIn o place b.offset x h.join h.next) known
    (subst (λ (z : ℤ). JoinsIn o place z h.known h.join h.next) same h.shaped))

pub carried_joins : (o : Parts) (crossed : List ℕ) (states : List (Option Known)) (place : ℕ) (k : Known) (b : Branch)
    (join : ℕ) (next : Known) → at_places states place ≡ Some k → is_crossed crossed place ≡ false
    → BranchIsAt o place b → (is_secret k b.ra || is_secret k b.rb) ≡ true
    → IsCarriedTo o place b.offset k join next → MayJoinTo o crossed states place join
carried_joins o crossed states place k b join next at apart branch secret h = record {
  may = record {
    known = k;
    reached = at;
    cmp = branch.cmp;
    ra = b.ra;
    rb = b.rb;
    offset = b.offset;
    branch = branch.at;
    apart = apart;
    secret = secret;
    join = join;
    next = next;
    shaped = h.joins;
  };
  joins = refl;
}

-- none at first
pub growth_begun : (o : Parts) (size : ℕ) (crossed : List ℕ) (states : List (Option Known)) → size ≡ length o.code
    → crossed ≡ [] → HasLeast o [] states → GrowthHolds o size crossed states
growth_begun o size crossed states e none has = record {
  grown = subst (HasGrown o) (sym none) NoneYet;
  size_is = e;
  has = subst (λ (l : List ℕ). HasLeast o l states) (sym none) has;
}

-- a list that is written back whole
pub kept_whole : {X : Type 0} (n : ℕ) (xs ys : List X) → length xs ≡ n → take n (xs ++ drop (length xs) ys) ≡ xs
kept_whole n xs ys e = ap (λ (m : ℕ). take m (xs ++ drop (length xs) ys)) (sym e) ∙ take-append_seam xs (drop
    (length xs) ys)
