use Rattle.std.proofs.Common.{◌≤◌, ◌^◌, arith}
use Rattle.std.proofs.Math.Pow.{pow_mono}
use Rattle.lt_isa.proofs.profiles.Profile.block_words.Goals as goal

pub returns-clause-most : goal.returns-clause-most
returns-clause-most c = let most : 2 ^ c.args.self.now.block_log ≤ 2 ^ 9 = pow_mono c.requires in omega arith
