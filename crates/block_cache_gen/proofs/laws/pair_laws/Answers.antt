use Rattle.block_cache_gen.proofs.AlikeShows.{alike-patterns, alike-slots, pair-patterns, pair-slots}
use Rattle.block_cache_gen.proofs.AlikeTests.{counts_pairs}
use Rattle.block_cache_gen.proofs.laws.pair_laws.Goals as goal

pub returns : goal.returns
returns c = record {
  counts = counts_pairs;
  alike = λ o f e g homes left right alike.
      (alike-patterns o f homes e g alike left right, alike-slots o f homes e g alike left right);
  pairs = λ o f s t homes left right pair. (
    pair-patterns o f homes s t pair left right,
    pair-slots o f homes s t pair
        left right,
  );
}
