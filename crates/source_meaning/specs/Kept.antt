-- For the proofs and for private clauses only: what an execution keeps of a store, namely the variables that it fits.
use Rattle.std.specs.Prelude.{List}
use Rattle.gr_word.specs.declared.variables.Want.{Want}
use Rattle.gr_word.specs.Fitting.{FitsWants}
use Rattle.src_tree.specs.Meaning.{Store}

pub record KeepsFit (before after : Store) : Type 0 where
  pub fits : (wants : List Want) → FitsWants wants before → FitsWants wants after
