-- For the proofs and for private clauses only: how a call is read token by token, after its `(`.
use Rattle.std.specs.Prelude.{ℕ, List, [], ◌∷◌, ◌++◌, Option, Some, None}
use Rattle.src_lexer.specs.declared.tokens.Kind.{Kind}
use Rattle.src_tree.specs.Trees.{Tree}
use Rattle.src_parser.specs.Grammar.{Limits}
use Rattle.src_parser.specs.Operands.{Reading, At, Wanted, TokenStep, reads, whole, used_of}
use Rattle.src_parser.specs.Parts.{after_step}
use Rattle.src_parser.specs.Tokenwise.{Advance, Goes, Wrong}
use Rattle.src_lexer.specs.declared.tokens.Kind.TheVariants as kind

-- before the first argument, in one, or after `)`
pub data CallPhase : Type 0 where
  Opened : CallPhase
  Argument : (reading : Reading) → CallPhase
  Called : CallPhase

-- the arguments that are complete, and how far the call was read
pub data CallState : Type 0 where
  InCall : (arguments : List Tree) (phase : CallPhase) → CallState

pub data CallStep : Type 0 where
  Still : (call : CallState) → CallStep
  Done : (arguments : List Tree) → CallStep

-- a token after an argument
abbrev pub behind_argument : List Tree → ℕ → Kind → Advance CallStep
behind_argument es used kind.Semi = Goes (Still (InCall es (Argument (At [] 0 used Wanted))))
behind_argument es used kind.RParen = Goes (Still (InCall es Called))
behind_argument es used _ = Wrong

abbrev pub argument_ends : List Tree → Option Tree → ℕ → Kind → Advance CallStep
argument_ends es None used k = Wrong
argument_ends es (Some tree) used k = behind_argument (es ++ tree ∷ []) used k

-- a token in an argument
abbrev pub in_argument : List Tree → Kind → TokenStep → Advance CallStep
in_argument es k s =
    after_step (λ x. Still (InCall es (Argument x))) (λ x. argument_ends es (whole x) (used_of x) k) s

-- the first token after `(`
abbrev pub first_argument : Limits → List Tree → Kind → Advance CallStep
first_argument most es kind.RParen = Goes (Still (InCall es Called))
first_argument most es k = in_argument es k (reads most (At [] 0 0 Wanted) k)

-- a token after `)`
abbrev pub behind_brackets : List Tree → Kind → Advance CallStep
behind_brackets es kind.Semi = Goes (Done es)
behind_brackets es _ = Wrong

-- a token of a call
abbrev pub call_advanced : Limits → CallState → Kind → Advance CallStep
call_advanced most (InCall es Opened) k = first_argument most es k
call_advanced most (InCall es (Argument x)) k = in_argument es k (reads most x k)
call_advanced most (InCall es Called) k = behind_brackets es k
