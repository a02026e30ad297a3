-- What registers hold for the whole run of a compiled program, as long as a register is left: its first scalars; then,
-- for each array by declaration, the number that reduces its index and that of its first word; then the numbers of its
-- expressions in the order of their code. (This project's layout of compiled code.)
use Rattle.std.specs.Prelude.{◌==◌, if◌then◌else◌, ℤ, pos, List, [], ◌∷◌}
use Rattle.src_tree.specs.Trees.{Tree, Number, Variable, Element, Operation, Test, Statement, SetVariable, SetElement, Choice, Loop, Block, Nothing, Then, Source}
use Rattle.bank_alloc.specs.declared.places.Place.{Place}
use Rattle.block_cache_gen.specs.Codes.{reducer}
use Rattle.block_cache_gen.specs.Settings.{home_at}
use Rattle.held_registers.specs.declared.registers.Held.{Held}
use Rattle.held_registers.specs.Held.{held_scalars, with_number}

abbrev pub reducer_at : Place → ℤ
reducer_at q = reducer (home_at [] 0 q 0)

abbrev pub with_place : List Held → Place → List Held
with_place held q =
    if q.length == 1 then held else with_number (with_number held (reducer_at q)) (pos q.word)

abbrev pub with_places : List Held → List Place → List Held
with_places held [] = held
with_places held (q ∷ places) = with_places (with_place held q) places

abbrev pub with_tree : List Held → Tree → List Held
with_tree held (Number z) = with_number held z
with_tree held (Variable x) = held
with_tree held (Element x i) = with_tree held i
with_tree held (Operation op a b) = with_tree (with_tree held a) b

abbrev pub with_test : List Held → Test → List Held
with_test held t = with_tree (with_tree held t.left) t.right

abbrev mutual
  pub with_statement : List Held → Statement → List Held
  with_statement held (SetVariable x e) = with_tree held e
  with_statement held (SetElement x i e) = with_tree (with_tree held e) i
  with_statement held (Choice t a b) = with_block (with_block (with_test held t) a) b
  with_statement held (Loop t a) = with_block (with_test held t) a

  pub with_block : List Held → Block → List Held
  with_block held Nothing = held
  with_block held (Then s rest) = with_block (with_statement held s) rest

unfoldable pub held_for : Source → List Place → List Held
held_for p places = with_block (with_places (held_scalars p.decls) places) p.body
