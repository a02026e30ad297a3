use Rattle.call_laws.proofs.BusAgreeing.{bus-agrees}
use Rattle.call_laws.proofs.laws.bus_agrees.Goals as goal

pub returns : goal.returns
returns c = bus-agrees
