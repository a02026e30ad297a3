-- Texts that are printed in sequence.
use Rattle.std.proofs.Common.{ℕ, ◌<◌, List, ◌++◌, length, Option, Result, Ok, Err, ◌∙◌, subst, arith}
use Rattle.gr_base.proofs.Added.{Adds-then, AddsLess-then, AddsLess-more}
use Rattle.gr_base.specs.Prelude.{Rose}
use Rattle.gr_outside.specs.declared.sink.SinkFailed.{SinkFailed}
use Rattle.run_data.specs.Prelude.{PutsText}

-- a text was printed, and then another one or a prefix of it
pub puts-then : (old middle new : Option (List ℕ)) (before between now : ℕ) (first second : List ℕ)
    (result : Result (Unit {0}) SinkFailed) → PutsText old middle before between first (Ok tt) → 0 < length second
    → PutsText middle new between now second result → PutsText old new before now (first ++ second) result
puts-then old middle new before between now first second (Ok x) one some two = record {
  added = Adds-then old middle new first second one.added two.added;
  calm = two.calm ∙ one.calm;
  cut = tt;
  failed = tt;
  count = omega (arith, one.count, two.count);
  count_stays = λ most. two.count_stays (one.count_stays most);
}
puts-then old middle new before between now first second (Err e) one some two = record {
  added = tt;
  calm = tt;
  cut = AddsLess-then old middle new first second one.added some two.cut;
  failed = subst (λ n. Rose n now) one.calm two.failed;
  count = omega (arith, one.count, two.count);
  count_stays = λ most. two.count_stays (one.count_stays most);
}

-- a prefix of the first text was printed
pub puts-cut : (old new : Option (List ℕ)) (before now : ℕ) (first second : List ℕ) (e : SinkFailed)
    → PutsText old new before now first (Err e) → PutsText old new before now (first ++ second) (Err e)
puts-cut old new before now first second e one = record {
  added = tt;
  calm = tt;
  cut = AddsLess-more old new first second one.cut;
  failed = one.failed;
  count = one.count;
  count_stays = one.count_stays;
}
