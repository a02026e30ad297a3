use Rattle.std.proofs.Common.{rules, ◌≡◌, ◌≤◌, ◌-◌, MatchOption, length, subst}
use Rattle.real_outside.proofs.sink.RealSink.put_first.Goals as goal

-- the writer took fewer bytes than it was handed
pub returns-in-Some-clause-part : goal.returns-in-Some-clause-part
returns-in-Some-clause-part g c =
    let done = c.write_front-count.result in
    let all = length c.args.bytes.now in
    let bound : done.count ≤ all - 1 =
    subst (λ s. MatchOption s (done.count ≡ all) (λ _. done.count ≤ all - 1)) c.in-Some.is c.write_front-count.ensures.whole in
    (done.count, bound, search rules)
