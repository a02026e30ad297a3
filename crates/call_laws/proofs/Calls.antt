-- A program that is made of a file with procedures does what the file's calls mean.
use Rattle.std.proofs.Common.{Bool, true, false, ℕ, List, subst}
use Rattle.gr_word.specs.Prelude.{FitsWants}
use Rattle.src_tree.specs.Prelude.{Source}
use Rattle.flow_types.specs.Prelude.{declared_wants}
use Rattle.procs_tree.proofs.RoomForInputs.{room_for}
use Rattle.call_laws.specs.Prelude.{CallsAsMeant, MeansItsCalls}
use Rattle.call_steps.specs.Prelude.{Spells}

pub calls-as-meant : CallsAsMeant
calls-as-meant text p spells store turns fits =
    let made = spells.of_file in
    made.means store turns
    (room_for made.file store (subst (λ (q : Source). FitsWants (declared_wants q.decls) store) made.made fits))

pub means-its-calls : (procs : Bool) (text : List ℕ) (p : Source) (spells : Spells procs text p)
    → MeansItsCalls procs text p spells
means-its-calls false text p spells = tt
means-its-calls true text p spells = calls-as-meant text p spells
