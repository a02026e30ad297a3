-- From the bytes of a file to what they give.
use Rattle.std.proofs.Common.{◌≡◌, ℕ, List, None, Result, Ok, Err, IfOk, OnOk, sym, subst}
use Rattle.lt_isa.specs.Prelude.{Parts}
use Rattle.trace_patterns.specs.Prelude.{Accepts}
use Rattle.call_replies.specs.declared.replies.Reply.{Reply}
use Rattle.call_replies.specs.Prelude.{Said}
use Rattle.call_steps.specs.Prelude.{Question, Answer, IsRight, WhetherAccepted, Work, Reads, Asks, on_judged, with_object, with_accepted, EndsWorkWith, Finds, FindsNone, HasReached, HasStopped, Stage}
use Rattle.call_steps.proofs.Reaching.{with-answer, with-refusal}

-- bytes with a result continue the work
pub bytes-found : {before after : Stage} {name : List ℕ} {limit : ℕ} {bytes slice : List ℕ} (ask : List ℕ → Question)
    (next : (b : List ℕ) → Answer (ask b) → Work) (answer : (b : List ℕ) → Answer (ask b)) → slice ≡ bytes
    → Finds before after (Reads name limit) bytes → IsRight (ask slice) (answer slice)
    → HasReached before after (Reads name limit (λ b. Asks (ask b) (next b))) (next bytes (answer bytes))
bytes-found {bytes = bytes} ask next answer is found right =
    with-answer (ask bytes) (next bytes) (answer bytes) (found (λ b. Asks (ask b) (next b)))
    (subst (λ b. IsRight (ask b) (answer b)) is right)

-- bytes that are refused end the work
pub bytes-refused : {before after : Stage} {name : List ℕ} {limit : ℕ} {bytes slice : List ℕ} {what : Said}
    (ask : List ℕ → Question) (next : (b : List ℕ) → Answer (ask b) → Work) → slice ≡ bytes
    → Finds before after (Reads name limit) bytes → EndsWorkWith (ask slice) (next slice) what
    → HasStopped before after (Reads name limit (λ b. Asks (ask b) (next b))) what
bytes-refused {bytes = bytes} {what = what} ask next is found refuses =
    with-refusal (ask bytes) (next bytes) (found (λ b. Asks (ask b) (next b)))
    (subst (λ b. EndsWorkWith (ask b) (next b) what) is refuses)

-- an object that was found is accepted or refused
pub accepted-found : (result : Result Parts Reply) {before after : Stage} {name : List ℕ} (o : Parts)
    → Finds before after (with_object name) o → IfOk result (λ found. found ≡ o) → OnOk result (Accepts o)
    → IfOk result (λ found. Finds before after (with_accepted name) found)
accepted-found (Err reply) o found is accepts = tt
accepted-found (Ok other) {before} {after} {name} o found is accepts = λ next.
    subst (λ p. HasReached before after (with_accepted name next) (next p)) (sym is)
    (with-answer (WhetherAccepted o) (on_judged (next o)) None
    (found (λ p. Asks (WhetherAccepted p) (on_judged (next p)))) accepts)

-- an object that isn't accepted stops
pub accepted-refused : {before after : Stage} {name : List ℕ} {what : Said} (o : Parts)
    → Finds before after (with_object name) o
    → ((next : Work) → EndsWorkWith (WhetherAccepted o) (on_judged next) what)
    → FindsNone before after (with_accepted name) what
accepted-refused o found refuses next =
    with-refusal (WhetherAccepted o) (on_judged (next o))
    (found (λ p. Asks (WhetherAccepted p) (on_judged (next p)))) (refuses (next o))
