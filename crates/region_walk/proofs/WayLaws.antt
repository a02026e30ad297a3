-- Gaps of patterns, and ways over numbers.
use Rattle.std.proofs.Common.{◌≡◌, ℕ, zero, suc, ◌+◌, ◌<◌, ◌≤◌, List, [], ◌∷◌, length, get_or, Some, refl, sym, ap, ◌∙◌, arith, zero-add}
use Rattle.std.specs.Prelude.{All, slice_get}
use Rattle.std.proofs.lemmas.List.Elements.{All-append, All-push}
use Rattle.lt_isa.specs.declared.instructions.Instr.{Instr}
use Rattle.lt_isa.specs.Prelude.{Parts}
use Rattle.symbolic_values.specs.declared.nodes.Node.{Node}
use Rattle.trace_patterns.specs.declared.events.SymEvent.{SymEvent}
use Rattle.trace_patterns.specs.declared.reasons.Reason.{Reason}
use Rattle.trace_patterns.specs.Prelude.{Shown, no_events, with_gap, with_event, joined, joined_parts, first_gap, first_of, TreeEvent, over_trees, SymState, Single, gap, event, single}
use Rattle.region_walk.specs.Prelude.{WalkFound, Walked, Stops, walk, after_pattern, after_single, from_place, sym_of, GapsWithin, going}
use Rattle.trace_patterns.proofs.PatternLaws.{joined-assoc, joined-no_events, joined-gap, joined-event}
use Rattle.region_walk.proofs.FuelWalks.{walk-end, walk-next}
use Rattle.region_walk.specs.declared.walks.Way.{Way}

-- a greater bound for the gaps of a pattern
pub gaps-more : (m n : ℕ) (p : Shown SymEvent) → m ≤ n → GapsWithin m p → GapsWithin n p
gaps-more m n p le h = record {
  parts = λ k d lt. let small = h.parts k d lt in omega arith;
  last = let small = h.last in omega arith;
}

-- a longer last gap
pub gaps-gap : (m n : ℕ) (p : Shown SymEvent) → GapsWithin m p → GapsWithin (m + n) (with_gap p n)
gaps-gap m n p h = record {
  parts = λ k d lt. let small = h.parts k d lt in omega arith;
  last = let small = h.last in omega arith;
}

-- one more event
pub gaps-event : (m : ℕ) (p : Shown SymEvent) (e : SymEvent) → GapsWithin m p → GapsWithin m (with_event p e)
gaps-event m p e h = record {
  parts = All-push (λ (part : ℕ × SymEvent). part.0 ≤ m) p.parts (p.last, e) h.parts h.last;
  last = omega arith;
}

-- two patterns in sequence
pub gaps-joined : (m n : ℕ) (p q : Shown SymEvent) → GapsWithin m p → GapsWithin n q → GapsWithin (m + n) (joined p q)
gaps-joined m n p q hp hq = by q.parts q.last hq.parts hq.last
  where
    wide : (part : ℕ × SymEvent) (parts : List (ℕ × SymEvent)) → All (λ x. x.0 ≤ n) (part ∷ parts)
        → (k : ℕ) (d : ℕ × SymEvent) → k < length ((p.last + part.0, part.1) ∷ parts)
        → (get_or ((p.last + part.0, part.1) ∷ parts) k d).0 ≤ m + n
    wide part parts h zero d lt = let small = h 0 d (omega arith) in let before = hp.last in omega arith
    wide part parts h (suc k) d lt = let small = h (suc k) d (omega arith) in omega arith

    by : (parts : List (ℕ × SymEvent)) (last : ℕ) → All (λ x. x.0 ≤ n) parts → last ≤ n
        → GapsWithin (m + n) (joined_parts p parts last)
    by [] last h le = gaps-more (m + last) (m + n) (with_gap p last) (omega arith) (gaps-gap m last p hp)
    by (part ∷ parts) last h le = record {
      parts = All-append (λ (x : ℕ × SymEvent). x.0 ≤ m + n) p.parts ((p.last + part.0, part.1) ∷ parts)
          (λ k d lt. let small = hp.parts k d lt in omega arith) (wide part parts h);
      last = omega arith;
    }

-- the first gap is within the bound
pub gaps-first : (m : ℕ) (p : Shown SymEvent) → GapsWithin m p → first_gap p ≤ m
gaps-first m p h = by p.parts p.last h.parts h.last
  where
    by : (parts : List (ℕ × SymEvent)) (last : ℕ) → All (λ x. x.0 ≤ m) parts → last ≤ m → first_of parts last ≤ m
    by [] last h le = le
    by (part ∷ parts) last h le = h 0 part (omega arith)

-- a pattern of one gap
pub gaps-none : (m n : ℕ) → n ≤ m → GapsWithin m (with_gap no_events n)
gaps-none m n le = record { parts = λ k d lt. absurd (omega arith); last = omega (arith, zero-add n) }

-- two patterns before the rest of a walk
pub after-both : (p q : Shown TreeEvent) (f : WalkFound)
    → after_pattern p (after_pattern q f) ≡ after_pattern (joined p q) f
after-both p q (Walked pattern state) = ap (λ (r : Shown TreeEvent). Walked r state) (sym (joined-assoc p q pattern))
after-both p q (Stops place reason) = refl

-- a gap before the rest of a walk
pub after-gap : (p : Shown TreeEvent) (n : ℕ) (f : WalkFound)
    → after_pattern p (after_pattern (gap n) f) ≡ after_pattern (with_gap p n) f
after-gap p n f =
    after-both p (gap n) f ∙ ap (λ (r : Shown TreeEvent). after_pattern r f)
    (joined-gap p no_events n ∙ ap (λ (r : Shown TreeEvent). with_gap r n) (joined-no_events p))

-- an event before the rest of a walk
pub after-event : (p : Shown TreeEvent) (e : TreeEvent) (f : WalkFound)
    → after_pattern p (after_pattern (event e) f) ≡ after_pattern (with_event p e) f
after-event p e f =
    after-both p (event e) f
    ∙ ap (λ (r : Shown TreeEvent). after_pattern r f)
    (joined-event p no_events e ∙ ap (λ (r : Shown TreeEvent). with_event r e) (joined-no_events p))

-- a walk reaches its end, after a pattern that was shown before
pub record WalksOn (first : Shown TreeEvent) (f : WalkFound) (whole : Shown TreeEvent) (state : SymState) : Type 0 where
  pub rest : Shown TreeEvent
  pub walked : f ≡ Walked rest state
  pub whole_is : whole ≡ joined first rest

-- if a pattern and then a walk reach an end, the walk does
pub after-walked : (p : Shown TreeEvent) (f : WalkFound) (q : Shown TreeEvent) (s : SymState)
    → after_pattern p f ≡ Walked q s → WalksOn p f q s
after-walked p (Walked rest state) q s e =
    let f : ◌≡◌ {A = WalkFound} (Walked (joined p rest) state) (Walked q s) = e in
    let patterns : joined p rest ≡ q = cc in
    let states : state ≡ s = cc in
    record { rest = rest; walked = ap (Walked rest) states; whole_is = sym patterns }
after-walked p (Stops place reason) q s e = absurd (let f : ◌≡◌ {A = WalkFound} (Stops place reason) (Walked q s) = e
    in cc)

-- if a pattern and then a walk stop, the walk does
pub after-stops : (p : Shown TreeEvent) (f : WalkFound) (at : ℕ) (reason : Reason) → after_pattern p f ≡ Stops at reason
    → f ≡ Stops at reason
after-stops p (Walked rest state) at reason e =
    absurd (let f : ◌≡◌ {A = WalkFound} (Walked (joined p rest) state) (Stops at reason) = e in cc)
after-stops p (Stops place why) at reason e = e

-- the walk continues
module _ (o : Parts) (depth end place : ℕ) (nodes : List Node) (way : Way) where
  -- what is shown so far, and then the walk from here
  pub going-is : going o depth end place nodes way ≡ after_pattern (over_trees nodes way.pattern)
      (walk o depth end place (sym_of nodes way.state))
  unfolding going
  going-is = refl

  -- at the end nothing more is shown
  pub going-end : end ≤ place
      → going o depth end place nodes way ≡ Walked (over_trees nodes way.pattern) (sym_of nodes way.state)
  going-end le =
      going-is ∙ ap (after_pattern (over_trees nodes way.pattern))
      (walk-end o depth end place (sym_of nodes way.state) le)
      ∙ ap (λ (p : Shown TreeEvent). Walked p (sym_of nodes way.state))
      (joined-no_events (over_trees nodes way.pattern))

  -- the walk over one instruction
  pub going-next : (i : Instr) (made : Single) → place < end → slice_get o.code place ≡ Some i
      → single o (sym_of nodes way.state) i ≡ made
      → going o depth end place nodes way ≡ after_pattern (over_trees nodes way.pattern)
      (after_single o (walk o) depth end place (sym_of nodes way.state) made)
  going-next i made lt at is =
      going-is ∙ ap (after_pattern (over_trees nodes way.pattern))
      (walk-next o depth end place (sym_of nodes way.state) lt
      ∙ ap (from_place o (walk o) depth end place (sym_of nodes way.state)) at
      ∙ ap (after_single o (walk o) depth end place (sym_of nodes way.state)) is)
