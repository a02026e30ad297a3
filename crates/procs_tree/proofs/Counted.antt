-- The program of a file has as many statements as its sizes say, and no more new variables than statements; so what has
-- no statement adds nothing.
use Rattle.std.proofs.Common.{◌≡◌, ℕ, ◌+◌, ◌≤◌, Bool, true, false, if◌then◌else◌, List, [], ◌∷◌, length, reverse, refl, arith}
use Rattle.std.specs.Prelude.{bytes_eq}
use Rattle.std.proofs.lemmas.List.{length-append}
use Rattle.gr_word.specs.declared.variables.Label.{Label}
use Rattle.src_tree.specs.Prelude.{Tree}
use Rattle.procs_tree.specs.Prelude.{Statement, SetVariable, SetElement, Choice, Loop, Call, Block, Nothing, Then, Procedure, File, naming_all, new_values, new_labels, Renaming, Inlined, Inlines, blocks_joined, inlined, inlined_all, assigned, inlined_call, inlines_of, new_name, no_name, kept_name, inlined_body, statements_in, statements_in_one, CallSizes, size_of, size_of_all, sizes_of, file_size, HasSize}
use Rattle.procs_tree.proofs.Entering.{labels_long}
use Rattle.src_tree.specs.Trees as plain

joined_count : (a b : plain.Block) → statements_in (blocks_joined a b) ≡ statements_in a + statements_in b
joined_count plain.Nothing b = omega arith
joined_count (plain.Then s rest) b = let h = joined_count rest b in omega (arith, h)

assigned_count : (to : Renaming) (next : ℕ) (es : List Tree) → statements_in (assigned to next es) ≡ length es
assigned_count to next [] = refl
assigned_count to next (e ∷ es) = let h = assigned_count to (next + 1) es in omega (arith, h)

pub record CallsHaveSize (sizes : CallSizes) (inlines : Inlines) : Type 0 where
  pub sized : (name : List ℕ) (to : Renaming) (arguments : List Tree) (next : ℕ)
      → HasSize (sizes name arguments) (inlines name to arguments next)

mutual
  statement_size : (sizes : CallSizes) (inlines : Inlines) → CallsHaveSize sizes inlines → (to : Renaming)
      (s : Statement) (next : ℕ) → HasSize (size_of sizes s) (inlined inlines to s next)
  statement_size sizes inlines known to (SetVariable x e) next = record { count = refl; new = omega arith }
  statement_size sizes inlines known to (SetElement x i e) next = record { count = refl; new = omega arith }
  statement_size sizes inlines known to (Choice t a b) next =
      let one = inlined_all inlines to a next in
      let two = inlined_all inlines to b (next + length one.labels) in
      let f = block_size sizes inlines known to a next in
      let g = block_size sizes inlines known to b (next + length one.labels) in
      let all = length-append one.labels two.labels in
      let p = f.count in
      let q = g.count in
      let m = f.new in
      let n = g.new in
      record { count = omega (arith, p, q); new = omega (arith, all, m, n) }
  statement_size sizes inlines known to (Loop t a) next =
      let f = block_size sizes inlines known to a next in
      let p = f.count in
      let m = f.new in
      record { count = omega (arith, p); new = omega (arith, m) }
  statement_size sizes inlines known to (Call name arguments) next = known.sized name to arguments next

  pub block_size : (sizes : CallSizes) (inlines : Inlines) → CallsHaveSize sizes inlines → (to : Renaming)
      (b : Block) (next : ℕ) → HasSize (size_of_all sizes b) (inlined_all inlines to b next)
  block_size sizes inlines known to Nothing next = record { count = refl; new = omega arith }
  block_size sizes inlines known to (Then s rest) next =
      let one = inlined inlines to s next in
      let two = inlined_all inlines to rest (next + length one.labels) in
      let f = statement_size sizes inlines known to s next in
      let g = block_size sizes inlines known to rest (next + length one.labels) in
      let all = length-append one.labels two.labels in
      let both = joined_count one.block two.block in
      let p = f.count in
      let q = g.count in
      let m = f.new in
      let n = g.new in
      record { count = omega (arith, both, p, q); new = omega (arith, all, m, n) }

call_size : (sizes : CallSizes) (inlines : Inlines) → CallsHaveSize sizes inlines → (p : Procedure) (to : Renaming)
    (arguments : List Tree) (next : ℕ)
    → HasSize (length (new_values p.parameters arguments p.locals) + size_of_all sizes p.body)
    (inlined_call inlines p to arguments next)
call_size sizes inlines known p to arguments next =
    let values = new_values p.parameters arguments p.locals in
    let labels = new_labels p.parameters arguments p.locals in
    let own = naming_all new_name no_name to next p.parameters arguments p.locals in
    let inner = inlined_all inlines own p.body (next + length labels) in
    let g = block_size sizes inlines known own p.body (next + length labels) in
    let assigns = assigned_count to next values in
    let long = labels_long p.parameters arguments p.locals in
    let all = length-append labels inner.labels in
    let both = joined_count (assigned to next values) inner.block in
    let q = g.count in
    let n = g.new in
    record { count = omega (arith, both, assigns, q); new = omega (arith, all, long, n) }

pub calls_have_size : (procedures : List Procedure) → CallsHaveSize (sizes_of procedures) (inlines_of procedures)
calls_have_size [] = record { sized = λ name to arguments next. record { count = refl; new = omega arith } }
calls_have_size (p ∷ earlier) =
    let known = calls_have_size earlier in
    record { sized = λ name to arguments next. by known (bytes_eq name p.name) name to arguments next }
  where
    by : CallsHaveSize (sizes_of earlier) (inlines_of earlier) → (b : Bool) (name : List ℕ) (to : Renaming)
        (arguments : List Tree) (next : ℕ)
        → HasSize (if b then length (new_values p.parameters arguments p.locals)
        + size_of_all (sizes_of earlier) p.body else sizes_of earlier name arguments)
        (if b then inlined_call (inlines_of earlier) p to arguments next
        else inlines_of earlier name to arguments next)
    by known true name to arguments next =
        call_size (sizes_of earlier) (inlines_of earlier) known p to arguments next
    by known false name to arguments next = known.sized name to arguments next

-- the program of a file
pub file_sized : (f : File) → HasSize (file_size f) (inlined_body f)
file_sized f =
    block_size (sizes_of (reverse f.procedures)) (inlines_of (reverse f.procedures))
    (calls_have_size (reverse f.procedures)) kept_name f.body 0

no_statements : (b : plain.Block) → statements_in b ≡ 0 → b ≡ plain.Nothing
no_statements plain.Nothing e = refl
no_statements (plain.Then s rest) e = some s e
  where
    some : (s : plain.Statement) → statements_in_one s + statements_in rest ≡ 0 → plain.Then s rest ≡ plain.Nothing
    some (plain.SetVariable x i) h = absurd (omega (arith, h))
    some (plain.SetElement x i j) h = absurd (omega (arith, h))
    some (plain.Choice t a b) h = absurd (omega (arith, h))
    some (plain.Loop t a) h = absurd (omega (arith, h))

-- what has no statement is passed over
pub record IsNothing (i : Inlined) : Type 0 where
  pub block : i.block ≡ plain.Nothing
  pub labels : i.labels ≡ []

pub nothing_of_size : (i : Inlined) → HasSize 0 i → IsNothing i
nothing_of_size i h = record { block = no_statements i.block h.count; labels = none i.labels h.new }
  where
    none : (xs : List Label) → length xs ≤ 0 → xs ≡ []
    none [] le = refl
    none (x ∷ xs) le = absurd (omega arith)
