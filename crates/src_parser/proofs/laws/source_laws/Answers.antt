use Rattle.src_parser.proofs.OneProgram.{one_program, no_fault}
use Rattle.src_parser.proofs.RoundTrips.{read_again}
use Rattle.src_parser.proofs.laws.source_laws.Goals as goal

pub returns : goal.returns
returns c = record { read_again = read_again; one_program = one_program; no_fault = no_fault }
