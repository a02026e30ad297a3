use Rattle.call_laws.proofs.ReadBytes.{read-bytes}
use Rattle.call_laws.proofs.laws.read_bytes.Goals as goal

pub returns : goal.returns
returns c = read-bytes
