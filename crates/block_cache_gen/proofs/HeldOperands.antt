-- An operand in a register that holds its value for the whole run: what the register holds, that it stays, and that the
-- operand makes no access.
use Rattle.std.proofs.Common.{◌≡◌, ℕ, ◌<◌, ◌≤◌, Bool, true, false, List, [], length, Option, Some, None, refl, sym, ◌∙◌, arith, inl, inr}
use Rattle.lt_isa.specs.Prelude.{State, register}
use Rattle.src_tree.specs.Prelude.{Store, variable_number, evaluated, Tree, Number, Variable, Element, Operation}
use Rattle.held_registers.specs.Prelude.{held_at, word_held, IsSoundHeld}
use Rattle.held_registers.proofs.Found.{scalar-held, number-held}
use Rattle.word_selection.specs.Prelude.{IsOutside}
use Rattle.block_cache_gen.specs.Prelude.{Held, Setting, operand, operand_part, operand_register, operand_unless, StandsFor, accesses, first_kept}
use Rattle.block_cache_gen.proofs.HeldLabels.{held-above}
use Rattle.block_cache_gen.proofs.HeldScalars.{held-inside}
use Rattle.held_registers.specs.declared.registers.Held.TheVariants as thing

-- a register holds the word of an expression that accesses nothing
pub record HoldsOperand (f : Setting) (e : Tree) (r : ℕ) : Type 0 where
  pub thing : Held
  pub at : held_at f.held r ≡ Some thing
  pub word : (store : Store) → word_held store thing ≡ evaluated f.decls store e
  pub quiet : (store : Store) → accesses f store e ≡ []

pub operand-held : (f : Setting) (e : Tree) (r : ℕ) → operand f e ≡ Some r → HoldsOperand f e r
operand-held f (Number z) r is =
    record { thing = thing.Number z; at = number-held f.held z r is; word = λ store. refl; quiet = λ store. refl }
operand-held f (Variable x) r is =
    let n = variable_number f.decls x in
    record { thing = thing.Scalar n; at = scalar-held f.held n r is; word = λ store. refl; quiet = λ store. refl }
operand-held f (Element x i) r is = absurd (let g : ◌≡◌ {A = Option ℕ} None (Some r) = is in cc)
operand-held f (Operation op a b) r is = absurd (let g : ◌≡◌ {A = Option ℕ} None (Some r) = is in cc)

-- a register that may hold an operand is the operand's
abbrev pub IsOperandOf : Setting → Tree → Option ℕ → Type 0
IsOperandOf f e q = (r : ℕ) → q ≡ Some r → operand f e ≡ Some r

pub operand-unless : (f : Setting) (e : Tree) (b : Bool) → IsOperandOf f e (operand_unless b (operand f e))
operand-unless f e true r is = absurd (let g : ◌≡◌ {A = Option ℕ} None (Some r) = is in cc)
operand-unless f e false r is = is

-- the register of an operand is one that no expression uses, or the one of its code
pub record IsApart (f : Setting) (to from : ℕ) : Type 0 where
  pub apart : (r : ℕ) → to < r → r < first_kept f → ¬ (from ≡ r)

pub operand-apart : (f : Setting) (e : Tree) (q : Option ℕ) → IsOperandOf f e q → (to : ℕ)
    → IsApart f to (operand_register q to)
operand-apart f e None is to = record { apart = λ r above low same. absurd (omega (arith, above, same)) }
operand-apart f e (Some q) is to =
    let held = operand-held f e q (is q refl) in
    let high = held-above f q held.thing held.at in
    record { apart = λ r above low same. absurd (omega (arith, low, same, high)) }

-- a value that no register holds is in register 0, and one that a register holds in a high one
pub operand-outside : (f : Setting) (e : Tree) (q : Option ℕ) → IsOperandOf f e q
    → IsOutside 1 4 (operand_register q 0)
operand-outside f e None is = inl (omega arith)
operand-outside f e (Some q) is =
    let held = operand-held f e q (is q refl) in
    let high = held-above f q held.thing held.at in
    inr (omega (arith, high))

-- it is one of the machine's
pub operand-low : (f : Setting) → IsSoundHeld f.decls f.held → (e : Tree) (r : ℕ) → operand f e ≡ Some r → r < 32
operand-low f sound e r is = let held = operand-held f e r is in (held-inside sound r held.thing held.at).0

pub operand-inside : (f : Setting) → IsSoundHeld f.decls f.held → (e : Tree) (q : Option ℕ) → IsOperandOf f e q
    → (to : ℕ) → to < 32 → operand_register q to < 32
operand-inside f sound e None is to low = low
operand-inside f sound e (Some q) is to low = operand-low f sound e q (is q refl)

-- an operand stays in its register as long as the registers up to that of its code do
pub operand-stays : (f : Setting) (store : Store) (e : Tree) (q : Option ℕ) → IsOperandOf f e q → (to : ℕ) (s t : State)
    → StandsFor f s store → StandsFor f t store → ((r : ℕ) → r ≤ to → register t r ≡ register s r)
    → register t (operand_register q to) ≡ register s (operand_register q to)
operand-stays f store e None is to s t first second same = same to (omega arith)
operand-stays f store e (Some q) is to s t first second same =
    let held = operand-held f e q (is q refl) in
    second.held q held.thing held.at ∙ sym (first.held q held.thing held.at)

-- an operand's part is no longer than that of an expression
pub operand-short : {X : Type 0} (q : Option ℕ) (part : List X) → length (operand_part q part) ≤ length part
operand-short None part = omega arith
operand-short (Some q) part = omega arith
