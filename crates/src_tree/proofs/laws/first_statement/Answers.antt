use Rattle.gr_word.specs.declared.variables.Label.TheVariants.{Public}
use Rattle.src_tree.specs.Prelude.{context_of, in_order}
use Rattle.src_tree.proofs.FirstAmong.{found_among, only_among}
use Rattle.src_tree.proofs.laws.first_statement.Goals as goal

pub returns : goal.returns
returns c = record {
  found = λ fault p k e first. found_among fault 0 (in_order (context_of p.decls) Public p.body) k e first;
  only = λ fault p e some. only_among fault 0 (in_order (context_of p.decls) Public p.body) e some;
}
