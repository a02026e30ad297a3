use Rattle.scalar_ranges.proofs.Coming.{comes-within, nothing-within}
use Rattle.scalar_ranges.proofs.PublicOnly.{after-public, inside-public}
use Rattle.scalar_ranges.proofs.SecretCode.{secret-within_block}
use Rattle.scalar_ranges.proofs.Values.{within-below}
use Rattle.scalar_ranges.proofs.laws.range_laws.Goals as goal

pub returns : goal.returns
returns c = record {
  comes = comes-within;
  begins = nothing-within;
  within = within-below;
  secret = λ decls known only b before after typed. secret-within_block decls known only b before after typed;
  public = λ decls known only.
      ((λ s. after-public decls known s only), (λ t a. inside-public decls known t a only));
}
