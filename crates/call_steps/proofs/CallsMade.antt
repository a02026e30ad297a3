-- The calls of a shelf follow the work, step by step.
use Rattle.std.proofs.Common.{◌≡◌, inl, inr, ℕ, Bool, true, false, List, Option, Some, None, if◌then◌else◌, sym, ap, ◌∙◌, subst}
use Rattle.std.specs.Prelude.{option_and_then}
use Rattle.gr_outside.specs.Prelude.{Log, logged, write_of}
use Rattle.call_replies.specs.declared.replies.Done.{Done}
use Rattle.call_steps.specs.Prelude.{IsWritten, Work, Writes, Follows, HasCalls, StopsHere, WriteFails, WritesLast, Makes, CallsOf, TriesWrite}

-- a write that may have failed is the last call of a work that writes
pub write-tried : (name bytes slice : List ℕ) (done : Done) (before after : Log) → slice ≡ bytes
    → TriesWrite name slice before after → HasCalls (Writes name bytes done) before after
write-tried name bytes slice done before after is tries = elim tries [
  | inl same ↦ (
    None,
    subst (λ (l : Log). Follows (Writes name bytes done) None before l) (sym same)
        (StopsHere (Writes name bytes done) before),
  )
  | inr write ↦ go write.0 write.1
]
  where
    go : (written : Bool) → after ≡ logged (write_of name (if written then Some slice else None)) before
        → HasCalls (Writes name bytes done) before after
    go true noted = (
      Some (IsWritten name bytes done),
      WritesLast name bytes done before after
          (noted ∙ ap (λ (b : List ℕ). logged (write_of name (Some b)) before) is),
    )
    go false noted = (None, WriteFails name bytes done before after noted)

-- the calls of the work that the words ask for
pub work-made : (asked : Option Work) (work : Work) (before after : Log)
    → asked ≡ Some work → HasCalls work before after → Makes asked before after
work-made asked work before after is calls =
    subst (λ a. Makes a before after) (sym is) (CallsOf work before after calls)

-- the same of what was found, where that asks for work or for none
pub told-made : {X : Type 0} (f : X → Option Work) (found : Option X) (x : X) (asked : Option Work)
    (before after : Log) → found ≡ Some x → option_and_then f found ≡ asked
    → Makes (f x) before after → Makes asked before after
told-made f found x asked before after is asks made =
    subst (λ a. Makes a before after) (ap (option_and_then f) (sym is) ∙ asks) made
