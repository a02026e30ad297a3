use Rattle.std.proofs.Common.{rules, ◌-◌, ◌<◌, ◌≤◌, length, sym, subst, arith}
use Rattle.src_tree.specs.Prelude.{context_of, LowStatement, block_weight, statement_weight, block_of_all, statement_of, TypedStatement}
use Rattle.branch_padding.proofs.EmittedRegions.{low-at, typed-at, weight-at}
use Rattle.gr_word.specs.declared.variables.Label.TheVariants as label
use Rattle.branch_padding.proofs.cycles.+cycles.Goals as goal

pub block_cycles-statement_cycles-requires : goal.block_cycles-statement_cycles-requires
block_cycles-statement_cycles-requires t c =
    let known = context_of c.args.emitter.now.decls in
    let block = c.args.block.now in
    let at = c.loop-from.from - 1 in
    let s = c.index-block-from.result in
    let within : at < length block = omega (arith, c.loop-from-test.true, c.loop-from.invariant.within) in
    let weight : statement_weight known label.Secret (statement_of s)
    ≤ block_weight known label.Secret (block_of_all block) =
    subst (λ x. statement_weight known label.Secret (statement_of x)
    ≤ block_weight known label.Secret (block_of_all block))
    (sym c.index-block-from.is) (weight-at known block at s within) in (
      first_of (omega (arith, weight, c.decreases), search (rules, weight)),
      (
        subst (λ x. TypedStatement known label.Secret (statement_of x)) (sym c.index-block-from.is)
            (typed-at known label.Secret block at s within c.requires.typed),
        (
          subst (λ x. LowStatement (statement_of x)) (sym c.index-block-from.is)
              (low-at block at s within c.requires.low),
          omega (arith, weight, c.requires.room),
        ),
      ),
    )
