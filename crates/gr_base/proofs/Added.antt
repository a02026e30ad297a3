-- What two calls in sequence added.
use Rattle.std.proofs.Common.{◌+◌, ◌<◌, List, ◌++◌, length, Option, Some, None, refl, arith, length-append, append_assoc}
use Rattle.std.proofs.Math.Seq.{take-append-add}
use Rattle.std.proofs.lemmas.List.{take-append-le}
use Rattle.gr_base.specs.Prelude.{Adds, AddsLess}

-- two additions in sequence
pub Adds-then : {X : Type 0} (old middle new : Option (List X)) (first second : List X)
    → Adds old middle first → Adds middle new second → Adds old new (first ++ second)
Adds-then (Some a) (Some b) (Some c) first second one two = rw (two, one, append_assoc) refl
Adds-then (Some a) (Some b) None first second one two = tt
Adds-then (Some a) None (Some c) first second one two = absurd two
Adds-then (Some a) None None first second one two = tt
Adds-then None (Some b) new first second one two = absurd one
Adds-then None None (Some c) first second one two = absurd two
Adds-then None None None first second one two = tt

-- an addition, and then only a part of another
pub AddsLess-then : {X : Type 0} (old middle new : Option (List X)) (first second : List X)
    → Adds old middle first → 0 < length second → AddsLess middle new second → AddsLess old new (first ++ second)
AddsLess-then (Some a) (Some b) (Some c) first second one some two = (
  length first + two.0,
  omega (arith, two.1, length-append first second),
  rw (two.2, one, take-append-add, append_assoc) refl,
)
AddsLess-then (Some a) (Some b) None first second one some two = tt
AddsLess-then (Some a) None (Some c) first second one some two = absurd two
AddsLess-then (Some a) None None first second one some two = tt
AddsLess-then None (Some b) new first second one some two = absurd one
AddsLess-then None None (Some c) first second one some two = absurd two
AddsLess-then None None None first second one some two = tt

-- a part of some items is a part of those items and more
pub AddsLess-more : {X : Type 0} (old new : Option (List X)) (piece more : List X)
    → AddsLess old new piece → AddsLess old new (piece ++ more)
AddsLess-more (Some a) (Some c) piece more less = (
  less.0,
  omega (arith, less.1, length-append piece more),
  rw (take-append-le less.0 piece more (omega (arith, less.1))) less.2,
)
AddsLess-more (Some a) None piece more less = tt
AddsLess-more None (Some c) piece more less = absurd less
AddsLess-more None None piece more less = tt
