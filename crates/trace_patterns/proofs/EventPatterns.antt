-- Patterns over the numbers of a table are equal exactly if the patterns over trees that they represent are equal.
use Rattle.std.proofs.Common.{◌≡◌, ℕ, zero, suc, ◌+◌, ◌<◌, ◌≤◌, List, [], ◌∷◌, length, get_or, map, refl, ap, arith}
use Rattle.std.proofs.lemmas.List.{map-append}
use Rattle.std.proofs.lemmas.List.Elements.{All-append, All-push}
use Rattle.std.specs.Prelude.{All}
use Rattle.symbolic_values.specs.declared.nodes.Node.{Node}
use Rattle.symbolic_values.specs.Prelude.{tree_of, IsTable, KeepsTrees}
use Rattle.trace_patterns.specs.declared.events.SymEvent.{SymEvent}
use Rattle.trace_patterns.specs.Prelude.{Shown, no_events, with_event, joined, joined_parts, TreeEvent, RamRead, EncRead, EncWrite, Oram, tree_event, part_of, over_trees, NumberBelow, NumbersBelow}
use Rattle.trace_patterns.proofs.PatternLaws.{shown-same}
use Rattle.trace_patterns.specs.declared.events.SymEvent.TheVariants as event

module _ (nodes : List Node) (table : IsTable nodes) where
  pub event_of-same : (a b : SymEvent) → NumberBelow (length nodes) a → NumberBelow (length nodes) b
      → tree_event nodes a ≡ tree_event nodes b → a ≡ b
  event_of-same (event.RamRead i) (event.RamRead j) hi hj e =
      let f : ◌≡◌ {A = TreeEvent} (RamRead (tree_of nodes i)) (RamRead (tree_of nodes j)) = e in
      ap (λ (k : ℕ). event.RamRead k) (table.distinct i j hi hj cc)
  event_of-same (event.EncRead i) (event.EncRead j) hi hj e =
      let f : ◌≡◌ {A = TreeEvent} (EncRead (tree_of nodes i)) (EncRead (tree_of nodes j)) = e in
      ap (λ (k : ℕ). event.EncRead k) (table.distinct i j hi hj cc)
  event_of-same (event.EncWrite i) (event.EncWrite j) hi hj e =
      let f : ◌≡◌ {A = TreeEvent} (EncWrite (tree_of nodes i)) (EncWrite (tree_of nodes j)) = e in
      ap (λ (k : ℕ). event.EncWrite k) (table.distinct i j hi hj cc)
  event_of-same (event.Oram a) (event.Oram b) hi hj e =
      let f : ◌≡◌ {A = TreeEvent} (Oram a) (Oram b) = e in
      let g : a ≡ b = cc in
      ap (λ (k : ℕ). event.Oram k) g
  event_of-same a b hi hj e = cc

  parts-same : (ps qs : List (ℕ × SymEvent)) → All (λ part. NumberBelow (length nodes) part.1) ps
      → All (λ part. NumberBelow (length nodes) part.1) qs → map (part_of nodes) ps ≡ map (part_of nodes) qs → ps ≡ qs
  parts-same [] [] hp hq e = refl
  parts-same (x ∷ ps) (y ∷ qs) hp hq e =
      let f : ◌≡◌ {A = List (ℕ × TreeEvent)} (part_of nodes x ∷ map (part_of nodes) ps)
      (part_of nodes y ∷ map (part_of nodes) qs) = e in
      let heads : part_of nodes x ≡ part_of nodes y = cc in
      let tails : map (part_of nodes) ps ≡ map (part_of nodes) qs = cc in
      let gaps : x.0 ≡ y.0 = ap (λ (z : ℕ × TreeEvent). z.0) heads in
      let events : x.1 ≡ y.1 = event_of-same x.1 y.1 (hp 0 x (omega arith)) (hq 0 y (omega arith))
      (ap (λ (z : ℕ × TreeEvent). z.1) heads) in
      let rest : ps ≡ qs = parts-same ps qs (λ k d lt. hp (suc k) d (omega arith))
      (λ k d lt. hq (suc k) d (omega arith)) tails in
      λ i. (gaps i, events i) ∷ rest i
  parts-same [] (y ∷ qs) hp hq e =
      let f : ◌≡◌ {A = List (ℕ × TreeEvent)} [] (part_of nodes y ∷ map (part_of nodes) qs) = e in cc
  parts-same (x ∷ ps) [] hp hq e =
      let f : ◌≡◌ {A = List (ℕ × TreeEvent)} (part_of nodes x ∷ map (part_of nodes) ps) [] = e in cc

  -- patterns that represent equal patterns over trees are equal
  pub over_trees-same : (p q : Shown SymEvent) → NumbersBelow (length nodes) p → NumbersBelow (length nodes) q
      → over_trees nodes p ≡ over_trees nodes q → p ≡ q
  over_trees-same p q hp hq e =
      shown-same p q (parts-same p.parts q.parts hp hq (ap (λ (s : Shown TreeEvent). s.parts) e))
      (ap (λ (s : Shown TreeEvent). s.last) e)

-- adding an event to a pattern over numbers adds its event to the pattern over trees
pub over_trees-event : (nodes : List Node) (p : Shown SymEvent) (e : SymEvent)
    → over_trees nodes (with_event p e) ≡ with_event (over_trees nodes p) (tree_event nodes e)
over_trees-event nodes p e = shown-same _ _ (map-append (part_of nodes) p.parts ((p.last, e) ∷ [])) refl

-- two patterns over numbers in sequence represent the patterns over trees in sequence
pub over_trees-joined : (nodes : List Node) (p q : Shown SymEvent)
    → over_trees nodes (joined p q) ≡ joined (over_trees nodes p) (over_trees nodes q)
over_trees-joined nodes p q = by q.parts q.last
  where
    by : (parts : List (ℕ × SymEvent)) (last : ℕ)
        → over_trees nodes (joined_parts p parts last) ≡ joined_parts (over_trees nodes p)
        (map (part_of nodes) parts) last
    by [] last = refl
    by (part ∷ parts) last =
        shown-same _ _ (map-append (part_of nodes) p.parts ((p.last + part.0, part.1) ∷ parts)) refl

-- an event represents the same in a table that has grown
event_of-keeps : (old new : List Node) → KeepsTrees old new → (e : SymEvent) → NumberBelow (length old) e
    → tree_event new e ≡ tree_event old e
event_of-keeps old new keeps (event.RamRead i) h = ap RamRead (keeps i _ (record { inside = h; tree = refl })).tree
event_of-keeps old new keeps (event.EncRead i) h = ap EncRead (keeps i _ (record { inside = h; tree = refl })).tree
event_of-keeps old new keeps (event.EncWrite i) h = ap EncWrite (keeps i _ (record { inside = h; tree = refl })).tree
event_of-keeps old new keeps (event.Oram b) h = refl

parts-keep : (old new : List Node) → KeepsTrees old new → (ps : List (ℕ × SymEvent))
    → All (λ part. NumberBelow (length old) part.1) ps → map (part_of new) ps ≡ map (part_of old) ps
parts-keep old new keeps [] h = refl
parts-keep old new keeps (x ∷ ps) h =
    let first = event_of-keeps old new keeps x.1 (h 0 x (omega arith)) in
    let rest = parts-keep old new keeps ps (λ k d lt. h (suc k) d (omega arith)) in
    λ i. (x.0, first i) ∷ rest i

-- a pattern represents the same in a table that has grown
pub over_trees-keeps : (old new : List Node) (p : Shown SymEvent) → KeepsTrees old new → NumbersBelow (length old) p
    → over_trees new p ≡ over_trees old p
over_trees-keeps old new p keeps h = shown-same _ _ (parts-keep old new keeps p.parts h) refl

-- a number below a count is below a greater count
below_more : (count more : ℕ) (e : SymEvent) → count ≤ more → NumberBelow count e → NumberBelow more e
below_more count more (event.Oram b) le h = tt
below_more count more other le h = omega arith

-- numbers below a count are below a greater one
pub numbers_below-more : (count more : ℕ) (p : Shown SymEvent) → count ≤ more → NumbersBelow count p
    → NumbersBelow more p
numbers_below-more count more p le h = λ k d lt. below_more count more _ le (h k d lt)

-- a pattern without events has no numbers
pub numbers_below-none : (count : ℕ) → NumbersBelow count no_events
numbers_below-none count = λ k d lt. absurd (omega arith)

-- a pattern with one more event
pub numbers_below-event : (count : ℕ) (p : Shown SymEvent) (e : SymEvent) → NumbersBelow count p → NumberBelow count e
    → NumbersBelow count (with_event p e)
numbers_below-event count p e h he =
    All-push (λ (part : ℕ × SymEvent). NumberBelow count part.1) p.parts (p.last, e) h he

-- two patterns in sequence
pub numbers_below-joined : (count : ℕ) (p q : Shown SymEvent) → NumbersBelow count p → NumbersBelow count q
    → NumbersBelow count (joined p q)
numbers_below-joined count p q hp hq = by q.parts q.last hq
  where
    widened : (gap : ℕ) (part : ℕ × SymEvent) (parts : List (ℕ × SymEvent))
        → All (λ part. NumberBelow count part.1) (part ∷ parts) → (k : ℕ) (d : ℕ × SymEvent)
        → k < length ((gap, part.1) ∷ parts) → NumberBelow count (get_or ((gap, part.1) ∷ parts) k d).1
    widened gap part parts h zero d lt = h 0 d (omega arith)
    widened gap part parts h (suc k) d lt = h (suc k) d (omega arith)

    by : (parts : List (ℕ × SymEvent)) (last : ℕ) → All (λ part. NumberBelow count part.1) parts
        → NumbersBelow count (joined_parts p parts last)
    by [] last h = hp
    by (part ∷ parts) last h =
        All-append (λ (part : ℕ × SymEvent). NumberBelow count part.1) p.parts ((p.last + part.0, part.1) ∷ parts) hp
        (widened (p.last + part.0) part parts h)
