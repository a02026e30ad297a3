use Rattle.std.proofs.Common.{◌≡◌, length, rules}
use Rattle.block_cache_gen.proofs.BlockCounts.{as_many}
use Rattle.block_cache_gen.proofs.alike.as_many_blocks.Goals as goal

pub returns : goal.returns
returns c =
    let long : length c.args.one.more ≡ 4 = search rules in
    let full : length c.args.other.more ≡ 4 = search rules in
    as_many c.args.one.further c.args.other.further c.args.one.more c.args.other.more c.requires.first c.requires.second
    long full
