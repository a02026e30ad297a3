-- The code of a program's body, at its place in the program's code, follows the body.
use Rattle.std.proofs.Common.{◌≡◌, ◌+◌, ◌++◌, length, sym, subst, arith}
use Rattle.gr_word.specs.declared.variables.Label.TheVariants.{Public}
use Rattle.lt_isa.specs.Prelude.{Parts, IsInRange}
use Rattle.stretches.specs.Prelude.{StandsAt}
use Rattle.stretches.proofs.Standing.{standing-first, standing-rest, standing-whole}
use Rattle.src_tree.specs.Prelude.{Source, context_of, IsWithinLimits, IsTyped, TypedBlock, run_of_block}
use Rattle.block_cache_gen.specs.Prelude.{Setting}
use Rattle.code_gen.specs.Prelude.{Follows, Padding, block_code, beginning, ending, program_code}
use Rattle.compiled_objects.specs.Prelude.{at_start}
use Rattle.code_gen.proofs.AtStart.{start-public}
use Rattle.code_gen.proofs.Followed.{PartsFollow, block-follows}

-- the statements of a program are followed in its object
pub body-follows : (p : Source) (o : Parts)
    → IsInRange o → (f : Setting) (padded : Padding) → f.decls ≡ p.decls → IsTyped p
    → IsWithinLimits p → o.code ≡ program_code f padded p.body → PartsFollow o f padded
    → Follows o f (at_start f).ranges (length (beginning f)) (block_code (at_start f) padded p.body)
    (run_of_block p.decls p.body)
body-follows p o fits f padded decls typed within code_is parts =
    let body = block_code (at_start f) padded p.body in
    let place : 0 + length (beginning f) ≡ length (beginning f) = omega arith in
    subst (λ ds. Follows o f (at_start f).ranges (length (beginning f)) body (run_of_block ds p.body)) decls
    (block-follows o fits f padded parts (at_start f).ranges (start-public f) p.body (length (beginning f))
    (subst (λ ds. TypedBlock (context_of ds) Public p.body) (sym decls) typed.body) within.heights
    (standing-first body (ending f)
    (subst (λ n. StandsAt o n (body ++ ending f)) place
    (standing-rest (beginning f) (body ++ ending f) (standing-whole o (program_code f padded p.body) code_is)))))
