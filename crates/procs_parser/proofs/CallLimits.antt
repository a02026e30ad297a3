-- A token of a call is read where there is room, whatever the limits, and opens no brace.
use Rattle.std.proofs.Common.{◌≡◌, ◌≢◌, ℕ, List, [], Option, Some, None, refl}
use Rattle.src_lexer.specs.declared.tokens.Kind.{Kind}
use Rattle.src_tree.specs.Prelude.{Tree}
use Rattle.src_parser.specs.Prelude.{Limits, Reading, At, Wanted, TokenStep, Moves, Stops, Deep, reads, whole, used_of, Goes, TooMuch}
use Rattle.src_parser.proofs.Tokenwise.{Shape, Counted}
use Rattle.src_parser.proofs.Rooms.{constant, step_shape, reads_shape}
use Rattle.src_parser.proofs.Braces.{moves_counted}
use Rattle.procs_parser.specs.Prelude.{Opened, Argument, Called, CallState, InCall, CallStep, Still, behind_argument, argument_ends, in_argument, first_argument, behind_brackets, call_advanced}
use Rattle.src_lexer.specs.declared.tokens.Kind.TheVariants as kind

behind_not : (es : List Tree) (used : ℕ) (k : Kind) → behind_argument es used k ≢ TooMuch
behind_not es used kind.Semi e = absurd (cc)
behind_not es used kind.RParen e = absurd (cc)
behind_not es used _ e = absurd (cc)

ends_not : (es : List Tree) (o : Option Tree) (used : ℕ) (k : Kind) → argument_ends es o used k ≢ TooMuch
ends_not es None used k e = absurd (cc)
ends_not es (Some tree) used k e = behind_not _ used k e

argument_shape : (es : List Tree) (x : Reading) (k : Kind) (count : ℕ)
    → Shape CallStep k count (λ most. in_argument es k (reads most x k))
argument_shape es x k count =
    step_shape (λ y. Still (InCall es (Argument y))) (λ y. argument_ends es (whole y) (used_of y) k)
    (λ y. ends_not es (whole y) (used_of y) k) (reads_shape x k)

first_shape : (es : List Tree) (k : Kind) (count : ℕ) → Shape CallStep k count (λ most. first_argument most es k)
first_shape es kind.RParen count = constant (Goes (Still (InCall es Called))) (λ e. absurd (cc))
first_shape es k count = argument_shape es (At [] 0 0 Wanted) k count

brackets_not : (es : List Tree) (k : Kind) → behind_brackets es k ≢ TooMuch
brackets_not es kind.Semi e = absurd (cc)
brackets_not es _ e = absurd (cc)

pub call_shape : (call : CallState) (k : Kind) (count : ℕ)
    → Shape CallStep k count (λ most. call_advanced most call k)
call_shape (InCall es Opened) k count = first_shape es k count
call_shape (InCall es (Argument x)) k count = argument_shape es x k count
call_shape (InCall es Called) k count = constant _ (brackets_not es k)

behind_counted : (most : ℕ) (es : List Tree) (used : ℕ) (k : Kind) (s : CallStep) (count : ℕ)
    → behind_argument es used k ≡ Goes s → Counted k most count count
behind_counted most es used kind.Semi s count e = refl
behind_counted most es used kind.RParen s count e = refl
behind_counted most es used _ s count e = absurd (cc)

ends_counted : (most : ℕ) (es : List Tree) (o : Option Tree) (used : ℕ) (k : Kind) (s : CallStep) (count : ℕ)
    → argument_ends es o used k ≡ Goes s → Counted k most count count
ends_counted most es None used k s count e = absurd (cc)
ends_counted most es (Some tree) used k s count e = behind_counted most _ used k s count e

argument_counted : (most : Limits) (es : List Tree) (x : Reading) (k : Kind) (step : TokenStep)
    → reads most x k ≡ step → (s : CallStep) (count : ℕ) → in_argument es k step ≡ Goes s
    → Counted k most.braces count count
argument_counted most es x k (Moves y) is s count e = moves_counted most x y k count count is refl
argument_counted most es x k (Stops y) is s count e =
    ends_counted most.braces es (whole y) (used_of y) k s count e
argument_counted most es x k Deep is s count e = absurd (cc)

first_counted : (most : Limits) (es : List Tree) (k : Kind) (s : CallStep) (count : ℕ)
    → first_argument most es k ≡ Goes s → Counted k most.braces count count
first_counted most es kind.RParen s count e = refl
first_counted most es k s count e =
    argument_counted most es (At [] 0 0 Wanted) k (reads most (At [] 0 0 Wanted) k) refl s count e

brackets_counted : (most : ℕ) (es : List Tree) (k : Kind) (s : CallStep) (count : ℕ)
    → behind_brackets es k ≡ Goes s → Counted k most count count
brackets_counted most es kind.Semi s count e = refl
brackets_counted most es _ s count e = absurd (cc)

pub call_counted : (most : Limits) (call : CallState) (k : Kind) (s : CallStep) (count : ℕ)
    → call_advanced most call k ≡ Goes s → Counted k most.braces count count
call_counted most (InCall es Opened) k s count e = first_counted most es k s count e
call_counted most (InCall es (Argument x)) k s count e =
    argument_counted most es x k (reads most x k) refl s count e
call_counted most (InCall es Called) k s count e = brackets_counted most.braces es k s count e
