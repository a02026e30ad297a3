use Rattle.std.proofs.Common.{◌≡◌, sym, subst}
use Rattle.std.proofs.lemmas.Result.{IfOk-weaker}
use Rattle.resident_alloc.specs.Prelude.{AreShort, without_short}
use Rattle.resident_alloc.proofs.RoomSteps.{without_short_short}
use Rattle.resident_alloc.proofs.owning.in_oblivious_banks.Goals as goal

pub returns-clause-short : goal.returns-clause-short
returns-clause-short c =
    let most = c.in_ok-most.most in
    let arrays = c.as_slice.result.now in
    IfOk-weaker c.without_short.result (λ out. out.items ≡ without_short c.args.size most arrays)
    (λ out. AreShort out.items)
    (λ out is. subst AreShort (sym is) (without_short_short c.args.size most arrays
    (subst AreShort (sym c.as_slice.ensures.value) c.in_ok-arrays.ensures.short)))
    c.without_short.ensures
