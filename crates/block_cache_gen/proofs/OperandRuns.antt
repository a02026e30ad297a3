-- Runs of the code of an operand: afterwards its register has its value.
use Rattle.std.proofs.Common.{◌≡◌, ℕ, ◌+◌, ◌<◌, ℤ, List, [], Option, Some, None, refl, sym, ◌∙◌, subst, arith}
use Rattle.lt_isa.specs.declared.instructions.Instr.{Instr}
use Rattle.lt_isa.specs.Prelude.{Parts, State, register, IsShaped}
use Rattle.stretches.specs.Prelude.{StandsAt, greatest_costs, Comes, RunsThrough}
use Rattle.stretches.proofs.Coming.{comes-here}
use Rattle.stretches.proofs.RunningThrough.{runs-weaker}
use Rattle.src_tree.specs.Prelude.{Store, evaluated, Tree}
use Rattle.block_cache_gen.specs.declared.frames.Mode.{Mode}
use Rattle.block_cache_gen.specs.Prelude.{Setting, operand_part, operand_register, expr_code, StandsFor, ArrayAccess, accesses, slots_after, seen_of_all, LeavesWord}
use Rattle.block_cache_gen.proofs.HeldOperands.{HoldsOperand, IsOperandOf, operand-held}

-- From state s to t: a word is in a register, the registers below `to` and the banks are as before, the accesses have
-- left their blocks in the slots, and the state still represents the store.
pub record LeavesAt (f : Setting) (store : Store) (accesses : List ArrayAccess) (to from : ℕ) (word : ℤ)
    (s t : State) : Type 0 where
  pub value : register t from ≡ word
  pub below : (r : ℕ) → r < to → register t r ≡ register s r
  pub banks : t.banks ≡ s.banks
  pub slots : t.slots ≡ slots_after s.banks s.slots accesses
  pub stands : StandsFor f t store

-- no code
pub runs-nothing : {o : Parts} (s : State) (P : State → Type 0) → IsShaped o s → P s → RunsThrough o s [] [] P
runs-nothing {o = o} s P shaped holds =
    subst (λ p. Comes o s [] p (greatest_costs o []) P) (let e : s.place ≡ s.place + 0 = omega arith in e)
    (comes-here s (greatest_costs o []) P shaped holds)

-- What is known of a run of code that finds a value and leaves it in a register.
abbrev pub RunsValue : Parts → Setting → Store → Mode → (to from : ℕ) → Tree → List Instr → State → Type 0
RunsValue o f store mode to from e code s =
    StandsAt o s.place code
    → RunsThrough o s code (seen_of_all mode s.banks s.slots (accesses f store e))
    (LeavesAt f store (accesses f store e) to from (evaluated f.decls store e) s)

-- the same of the code of an expression
abbrev pub RunsExpr : Parts → Setting → Store → Mode → (to : ℕ) → Tree → State → Type 0
RunsExpr o f store mode to e s =
    StandsAt o s.place (expr_code f mode to e)
    → RunsThrough o s (expr_code f mode to e) (seen_of_all mode s.banks s.slots (accesses f store e))
    (LeavesWord f store (accesses f store e) to (evaluated f.decls store e) s)

-- an operand that a register holds has no code
runs-held_operand : (o : Parts) (f : Setting) (store : Store) (mode : Mode) (e : Tree) (r to : ℕ)
    → HoldsOperand f e r → (s : State) → IsShaped o s → StandsFor f s store → RunsValue o f store mode to r e [] s
runs-held_operand o f store mode e r to holds s shaped stands at =
    let value = evaluated f.decls store e in
    subst (λ l. RunsThrough o s [] (seen_of_all mode s.banks s.slots l) (LeavesAt f store l to r value s))
    (sym (holds.quiet store))
    (runs-nothing s (LeavesAt f store [] to r value s) shaped
    (record {
      value = stands.held r holds.thing holds.at ∙ holds.word store;
      below = λ q under. refl;
      banks = refl;
      slots = refl;
      stands = stands;
    }))

-- an operand
pub runs-operand : (o : Parts) (f : Setting) (store : Store) (mode : Mode) (e : Tree) (q : Option ℕ)
    → IsOperandOf f e q → (to : ℕ) (s : State) → IsShaped o s → StandsFor f s store → RunsExpr o f store mode to e s
    → RunsValue o f store mode to (operand_register q to) e (operand_part q (expr_code f mode to e)) s
runs-operand o f store mode e None is to s shaped stands run at =
    let code = expr_code f mode to e in
    let seen = seen_of_all mode s.banks s.slots (accesses f store e) in
    let value = evaluated f.decls store e in
    runs-weaker s code seen seen (LeavesWord f store (accesses f store e) to value s)
    (LeavesAt f store (accesses f store e) to to value s) (run at) refl
    (λ t shape leaves. record {
      value = leaves.value;
      below = leaves.below;
      banks = leaves.banks;
      slots = leaves.slots;
      stands = leaves.stands;
    })
runs-operand o f store mode e (Some r) is to s shaped stands run at =
    runs-held_operand o f store mode e r to (operand-held f e r (is r refl)) s shaped stands at
