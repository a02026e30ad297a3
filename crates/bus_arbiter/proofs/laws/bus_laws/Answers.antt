use Rattle.bus_arbiter.proofs.JoinedLaws.{agreeing, none-overlap, one-list, own-part, worked-out}
use Rattle.bus_arbiter.proofs.Refusals.{refuses, takes}
use Rattle.bus_arbiter.proofs.laws.bus_laws.Goals as goal

pub returns : goal.returns
returns c = record {
  none_overlap = none-overlap;
  worked_out = worked-out;
  own_part = own-part;
  one_list = one-list;
  agreeing = agreeing;
  takes = λ plan s fits own. takes plan s fits.fits own;
  refuses = λ plan s fits own. refuses plan s fits.fits own;
}
