-- The files after an ending, by the root of the work.
use Rattle.std.proofs.Common.{◌≡◌, ◌≢◌, ◌⊎◌, inl, inr, ℕ, List, Option, Some, refl, subst}
use Rattle.call_steps.specs.Prelude.{Answer, IsRight, Work, Ends, Writes, Reads, Asks, Ending, IsUnread, IsTooLong, IsVerdict, IsWritten, MayEnd, Ended, Wrote, Missing, TooLong, Found, Answered, said_at}
use Rattle.call_laws.specs.Prelude.{IsDone}

abbrev pub OfWork : (List ℕ → Option (List ℕ) → Type 0) → Work → Ending → Type 0
OfWork G (Ends seen verdict) ending = ending ≡ IsVerdict seen verdict
OfWork G (Writes name bytes done) ending = ending ≡ IsWritten name bytes done
OfWork G (Reads name limit next) ending =
    (ending ≡ IsUnread name)
    ⊎ ((ending ≡ IsTooLong name limit) ⊎ ((bytes : List ℕ) × G name (Some bytes) × MayEnd G (next bytes) ending))
OfWork G (Asks question next) ending =
    (answer : Answer question) × IsRight question answer × MayEnd G (next answer) ending

-- the ending of a work is one of that work
pub behind-it : (G : List ℕ → Option (List ℕ) → Type 0) (work : Work) (ending : Ending)
    → MayEnd G work ending → OfWork G work ending
behind-it G work ending (Ended seen verdict) = refl
behind-it G work ending (Wrote name bytes done) = refl
behind-it G work ending (Missing name limit next none) = inl refl
behind-it G work ending (TooLong name limit next bytes gives long) = inr (inl refl)
behind-it G work ending (Found name limit next bytes ending' gives short comes) = inr (inr (bytes, gives, comes))
behind-it G work ending (Answered question next answer ending' right comes) = (answer, right, comes)

-- an ending that isn't done
pub not-done : {X : Type 0} (ending other : Ending)
    → ending ≡ other → IsDone (said_at ending).status → ((said_at other).status ≢ 0) → ((said_at other).status ≢ 10) → X
not-done ending other is done zero ten =
    absurd (elim (subst (λ e. IsDone (said_at e).status) is done) [ inl e ↦ zero e | inr e ↦ ten e ])
