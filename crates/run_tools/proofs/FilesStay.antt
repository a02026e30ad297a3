-- A verb that stops before a write leaves the files as they were.
use Rattle.std.proofs.Common.{◌≡◌, ap}
use Rattle.gr_outside.specs.Prelude.{ShelfSeen}
use Rattle.call_steps.specs.Prelude.{LeavesShelf, OnlyReads, NoRoomLeft, Stage, Stops, StopsAt, nothing_seen, Ends, Ending, IsTooLong, IsUnread, IsVerdict, IsWritten, Work}
use Rattle.call_replies.specs.Prelude.{Said}
use Rattle.call_replies.specs.declared.replies.Verdict.TheVariants.{Accepted}

-- a work that follows a read
pub any_work : Work
any_work = Ends nothing_seen Accepted

only-reads : (before after : ShelfSeen) → OnlyReads before after → after.files ≡ before.files
only-reads before after only = ap (λ (s : ShelfSeen). s.files) only.0

ending-leaves : (ending : Ending) (before after : ShelfSeen) → LeavesShelf ending before after
    → after.files ≡ before.files
ending-leaves (IsUnread name) before after leaves = only-reads before after leaves.only
ending-leaves (IsTooLong name limit) before after leaves = ap (λ (s : ShelfSeen). s.files) leaves
ending-leaves (IsVerdict seen verdict) before after leaves = ap (λ (s : ShelfSeen). s.files) leaves
ending-leaves (IsWritten name bytes done) before after leaves = absurd leaves

pub files-stay : (before after : Stage) (work : Work) (said : Said) → Stops before after work said
    → after.seen.files ≡ before.seen.files
files-stay before after work said (NoRoomLeft only is calls) = only-reads before.seen after.seen only
files-stay before after work said (StopsAt ending may calls leaves is) =
    ending-leaves ending before.seen after.seen leaves
