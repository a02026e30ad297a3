-- What the result of a call that assembles a text says about the text.
use Rattle.std.proofs.Common.{◌≡◌, ◌≢◌, ℕ, List, Result, Ok, Err, IfOk, MatchResult, refl, sym, ◌∙◌}
use Rattle.lt_isa.specs.Prelude.{Parts}
use Rattle.lt_assembler.specs.declared.errors.AsmError.{AsmError}
use Rattle.lt_assembler.specs.declared.errors.AsmError.TheVariants.{Memory}
use Rattle.lt_assembler.specs.Prelude.{Finds, assembled, SpellsInText}
use Rattle.gr_base.proofs.Results.{ok_is}
use Rattle.lt_assembler.proofs.Spelled.{assembled-spells}
use Rattle.lt_assembler.proofs.SpelledRead.{spells-assembled}

-- the text encodes the object that is found
pub is_spelled : (text : List ℕ) (r : Result Parts AsmError)
    → Finds (λ o. o) r (assembled text) → IfOk r (λ o. SpellsInText text o)
is_spelled text (Ok o) found = assembled-spells text o found
is_spelled text (Err e) found = tt

-- the only error for a text that encodes an object is that memory runs out
only_memory : (e : AsmError) (o : Parts) (r : Result Parts AsmError) → r ≡ Ok o → (e ≢ Memory → r ≡ Err e) → e ≡ Memory
only_memory Memory o r is found = refl
only_memory other o r is found = absurd (let bad = found (λ same. cc) in cc)

-- the object that a text encodes is found
pub is_only : (text : List ℕ) (r : Result Parts AsmError)
    → Finds (λ o. o) r (assembled text) → (o : Parts) → SpellsInText text o
    → MatchResult r (λ p. p ≡ o) (λ e. e ≡ Memory)
is_only text (Ok p) found o spells = ok_is {E = AsmError} p o (sym found ∙ spells-assembled text o spells)
is_only text (Err e) found o spells = only_memory e o (assembled text) (spells-assembled text o spells) found

-- a text encodes at most one object
pub one_object : (text : List ℕ) (o p : Parts) → SpellsInText text o → SpellsInText text p → o ≡ p
one_object text o p ho hp = ok_is {E = AsmError} o p (sym (spells-assembled text o ho) ∙ spells-assembled text p hp)
