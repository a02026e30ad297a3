use Rattle.std.proofs.Common.{◌≡◌, ◌++◌, drop}
use Rattle.src_tree.specs.Prelude.{block_text, block_of_all}
use Rattle.src_tree.proofs.printing.+put_statements.Given as goal

abbrev pub invariant-put_block-loop-statement : goal.invariant-put_block-loop-statement
invariant-put_block-loop-statement l =
    l.out.items ++ block_text (block_of_all (drop l.statement-index l.statements))
    ≡ l.fn.out.items ++ block_text (block_of_all l.statements)
