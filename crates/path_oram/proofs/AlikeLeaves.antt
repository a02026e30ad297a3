-- The leaves of runs of an oblivious object are alike.
use Rattle.std.proofs.Common.{◌≡◌, length, sym, ap, ◌∙◌}
use Rattle.lt_isa.specs.Prelude.{Parts, blocks_of, IsOblivious, IsInRange, start_state}
use Rattle.lt_isa.proofs.Starts.{IsShaped-start}
use Rattle.banks.specs.Prelude.{accesses_shown}
use Rattle.banks.proofs.AccessBounds.{accesses-counted, blocks-exist}
use Rattle.path_oram.specs.Prelude.{LeavesAlike, touched}
use Rattle.path_oram.proofs.Rearranging.{rearrangement}
use Rattle.path_oram.proofs.ShownAlike.{shows_the_same}

-- runs of an oblivious object on inputs that agree show the same leaves
pub leaves_alike : (o : Parts) → IsInRange o → IsOblivious o → LeavesAlike o
leaves_alike o range oblivious = λ d e agree n b two exists.
    let first = touched o d n b in
    let second = touched o e n b in
    let count = blocks_of o b in
    let long : length second ≡ length first =
    sym (accesses-counted b two o (start_state o e) n)
    ∙ ap (accesses_shown b) (sym (oblivious.same_traces d e agree n))
    ∙ accesses-counted b two o (start_state o d) n in
    let pairs = rearrangement count first second long
    (blocks-exist o range (start_state o d) n (IsShaped-start o d agree.first_fits) b)
    (blocks-exist o range (start_state o e) n (IsShaped-start o e agree.second_fits) b) in
    record {
      as_many = long;
      rearranged = pairs.0;
      is = pairs.1;
      leaves =
          λ height words others moved. shows_the_same count height first second pairs.0 long pairs.1 words others moved;
    }
