-- What was there stays at the front while an arm is made, and the numbers of all its statements are words.
use Rattle.std.proofs.Common.{⊎_elim, ◌≡◌, ℕ, suc, ◌+◌, ◌-◌, ◌<◌, ◌≤◌, List, [], ◌∷◌, length, get_or, set, refl, ap, ◌∙◌, subst, arith, length-append}
use Rattle.std.proofs.lemmas.Bool.{cases_lt}
use Rattle.std.proofs.lemmas.List.{set-append_right, get_or_default}
use Rattle.lt_isa.specs.declared.symbols.Note.{Note}
use Rattle.lt_isa.specs.declared.instructions.Instr.{Instr}
use Rattle.src_tree.specs.declared.trees.Stmt.{Stmt}
use Rattle.src_tree.specs.Prelude.{statement_of, block_of_all}
use Rattle.block_cache_gen.specs.declared.frames.CodeBuf.{CodeBuf}
use Rattle.block_cache_gen.specs.Prelude.{Appended, CodeGrows, StatementHasWords, BlockHasWords}
use Rattle.block_cache_gen.proofs.Emitting.{grows_then}
use Rattle.branch_padding.specs.Prelude.{HaveWords}

-- what is appended to stays at the front
pub appended-grows : (a b : CodeBuf) (more : List Instr) (noted : ℕ → List Note) → Appended a b more noted
    → CodeGrows a b
appended-grows a b more noted x = record { code = (more, x.code); notes = (noted (length a.code.items), x.notes) }

-- an instruction after what was there is set
pub set-grows : (a b c : CodeBuf) (at : ℕ) (i : Instr) → CodeGrows a b → length a.code.items ≤ at
    → c.code.items ≡ set b.code.items at i → c.notes.items ≡ b.notes.items → CodeGrows a c
set-grows a b c at i grows behind is same =
    let rest = grows.code.0 in
    record {
      code = (
        set rest (at - length a.code.items) i,
        is ∙ ap (λ xs. set xs at i) grows.code.1
            ∙ set-append_right a.code.items rest (length a.code.items) at i refl behind,
      );
      notes = (grows.notes.0, same ∙ grows.notes.1);
    }

-- code that grew isn't shorter
pub grows-longer : (a b : CodeBuf) → CodeGrows a b → length a.code.items ≤ length b.code.items
grows-longer a b grows =
    omega (arith, ap length grows.code.1, length-append a.code.items grows.code.0)

-- an instruction after a prefix is set when more follows it
pub branch-grows : (out before behind more marked : CodeBuf) (at : ℕ) (i : Instr) → CodeGrows out before
    → CodeGrows out behind
    → CodeGrows behind more → at ≡ length before.code.items → marked.code.items ≡ set more.code.items at i
    → marked.notes.items ≡ more.notes.items → CodeGrows out marked
branch-grows out before behind more marked at i first so_far last is code notes =
    set-grows out more marked at i (grows_then out behind more so_far last)
    (omega (arith, is, grows-longer out before first)) code notes

-- no statement, one more, and those after it
pub words-none : (from : ℕ) (part : List Stmt) → HaveWords from from part
words-none from part i d le lt = absurd (omega arith)

-- the numbers of one more statement are words
pub words-more : (from to : ℕ) (part : List Stmt) (e : Stmt) → to < length part → HaveWords from to part
    → StatementHasWords (statement_of (get_or part to e)) → HaveWords from (to + 1) part
words-more from to part e within before at i d le lt =
    ⊎_elim (λ (low : i < to). before i d le low)
    (λ (ge : to ≤ i).
    let here : to ≡ i = omega arith in
    subst (λ (j : ℕ). StatementHasWords (statement_of (get_or part j d))) here
    (subst (λ (s : Stmt). StatementHasWords (statement_of s)) (get_or_default part to e d within) at))
    (cases_lt i to)

-- the numbers of two rows, concatenated, are words
pub words-both : (k to : ℕ) (part : List Stmt) → HaveWords 0 k part → HaveWords k to part → HaveWords 0 to part
words-both k to part front back i d le lt =
    ⊎_elim (λ (low : i < k). front i d le low) (λ (ge : k ≤ i). back i d ge lt) (cases_lt i k)

-- all of them
pub words-all : (part : List Stmt) → HaveWords 0 (length part) part → BlockHasWords (block_of_all part)
words-all [] words = tt
words-all (s ∷ part) words = (
  words 0 s (omega arith) (omega arith),
  words-all part (λ i d le lt. words (suc i) d (omega arith) (omega arith)),
)
