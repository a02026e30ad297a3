-- How the check passes the public code of expressions, guards and assignments, and what it knows after it. (GhostRider,
-- ASPLOS 2015: the security types of L_T; that notes claim what is known is this project's profile.)
use Rattle.std.specs.Prelude.{◌≡◌, ℕ, ◌+◌, ◌<◌, List, length}
use Rattle.gr_word.specs.declared.variables.Label.{Label}
use Rattle.lt_isa.specs.declared.symbols.Note.{Note}
use Rattle.lt_isa.specs.declared.instructions.Instr.{Instr}
use Rattle.lt_isa.specs.Object.{Parts}
use Rattle.src_tree.specs.Contexts.{context_of}
use Rattle.src_tree.specs.Labels.{label_of}
use Rattle.src_tree.specs.Trees.{Tree, Test}
use Rattle.trace_patterns.specs.Known.{Known, is_secret}
use Rattle.stretches.specs.Standing.{StandsAt}
use Rattle.stretches.specs.Passing.{HoldsAt, NotesBetween, Passes}
use Rattle.block_cache_gen.specs.Homes.{Setting, HasHomes}
use Rattle.block_cache_gen.specs.Carries.{Carries}
use Rattle.src_tree.specs.Labels as label

-- Code is at a place of an object, with exactly these notes after its first instruction, and with an instruction after
-- it.
pub record StandsNoted (o : Parts) (place : ℕ) (code : List Instr) (notes : List Note) : Type 0 where
  pub code_stands : StandsAt o place code
  pub noted : NotesBetween o place (place + length code) notes
  pub behind : place + length code < length o.code

-- a register is public where what it holds is public, and secret where that is secret
abbrev pub HasLabel : Known → ℕ → Label → Type 0
HasLabel k r l = is_secret k r ≡ label.secret_label l

-- An expression's code at a place is passed from the state on entry: the setting is carried after it, and register `to`
-- has the expression's label.
pub record PassedExpr (o : Parts) (f : Setting) (to place : ℕ) (code : List Instr) (e : Tree)
    (comes : Known) : Type 0 where
  pub last : Known
  pub passes : Passes o place comes (place + length code) last
  pub carries : Carries f last
  pub value : HasLabel last to (label_of (context_of f.decls) e)

-- A guard's code is passed, and both its sides have their labels.
pub record PassedTest (o : Parts) (f : Setting) (to place : ℕ) (code : List Instr) (t : Test)
    (comes : Known) : Type 0 where
  pub last : Known
  pub passes : Passes o place comes (place + length code) last
  pub carries : Carries f last
  pub left : HasLabel last to (label_of (context_of f.decls) t.left)
  pub right : HasLabel last (to + 1) (label_of (context_of f.decls) t.right)

-- An assignment's code is passed, and the setting is carried after it.
pub record PassedSet (o : Parts) (f : Setting) (place : ℕ) (code : List Instr) (comes : Known) : Type 0 where
  pub last : Known
  pub passes : Passes o place comes (place + length code) last
  pub carries : Carries f last

-- at a place of each object that has the homes of a setting, and has there this code with these notes; for any state on
-- entry and any note at that place itself
abbrev pub AtItsPlace : Setting → ℕ → List Instr → List Note → (Parts → Known → Type 0) → Type 0
AtItsPlace f place code notes Passed =
    (o : Parts) (comes holds : Known)
    → HasHomes o f → StandsNoted o place code notes → HoldsAt o place comes holds → Carries f holds → Passed o comes

abbrev pub IsPassedAsExpr : Setting → (to : ℕ) → Tree → (place : ℕ) → List Instr → List Note → Type 0
IsPassedAsExpr f to e place code notes =
    AtItsPlace f place code notes (λ o comes. PassedExpr o f to place code e comes)

abbrev pub IsPassedAsTest : Setting → (to : ℕ) → Test → (place : ℕ) → List Instr → List Note → Type 0
IsPassedAsTest f to t place code notes =
    AtItsPlace f place code notes (λ o comes. PassedTest o f to place code t comes)

abbrev pub IsPassedAsSet : Setting → (place : ℕ) → List Instr → List Note → Type 0
IsPassedAsSet f place code notes = AtItsPlace f place code notes (λ o comes. PassedSet o f place code comes)
