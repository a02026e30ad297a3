use Rattle.std.proofs.Common.{◌≡◌, sym, subst}
use Rattle.std.proofs.lemmas.Result.{IfOk-weaker}
use Rattle.resident_alloc.specs.Prelude.{AreShort, left_out}
use Rattle.resident_alloc.proofs.RoomSteps.{left_out_short}
use Rattle.resident_alloc.proofs.sharing.unshared.Goals as goal

pub returns-clause-short : goal.returns-clause-short
returns-clause-short c =
    IfOk-weaker c.left_out.result (λ out. out.items ≡ left_out c.args.class c.room_for.result c.args.vs.now)
    (λ arrays. AreShort arrays.items)
    (λ out is. subst AreShort (sym is) (left_out_short c.args.class c.room_for.result c.args.vs.now c.requires.short))
    c.left_out.ensures
