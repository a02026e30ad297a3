use Rattle.std.proofs.Common.{arith}
use Rattle.path_oram.proofs.PathNumbers.{calculated, on_path_bound, small_numbers}
use Rattle.path_oram.proofs.paths.number_at.Goals as goal

pub overflow_add-result : goal.overflow_add-result
overflow_add-result c =
    let number = calculated c.args.height c.args.leaf c.args.level c.index_at.result c.requires.within c.requires.height
    c.index_at.ensures in
    omega (
      arith,
      number,
      on_path_bound c.args.height c.args.leaf c.args.level c.requires.within c.requires.leaf,
      small_numbers c.args.height c.requires.height,
    )

pub returns-clause-inside : goal.returns-clause-inside
returns-clause-inside c =
    let number = calculated c.args.height c.args.leaf c.args.level c.index_at.result c.requires.within c.requires.height
    c.index_at.ensures in
    omega (arith, number, on_path_bound c.args.height c.args.leaf c.args.level c.requires.within c.requires.leaf)
