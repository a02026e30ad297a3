-- Pieces of secret code in sequence, each with what it shows and what its loads leave.
use Rattle.std.proofs.Common.{◌≡◌, ℕ, zero, suc, List, [], ◌∷◌, ◌++◌, take, drop, refl, sym, ap, ◌∙◌, append_assoc}
use Rattle.std.proofs.lemmas.List.{take-append-drop}
use Rattle.lt_isa.specs.declared.instructions.Instr.{Instr}
use Rattle.lt_isa.specs.Prelude.{Parts}
use Rattle.src_tree.proofs.Chains.{or_none, or_assoc}
use Rattle.trace_patterns.specs.Prelude.{SymState}
use Rattle.stretches.specs.Prelude.{Show}
use Rattle.block_cache_gen.specs.Prelude.{Setting, CarriesInArm, Loads, no_loads, then_loads}
use Rattle.block_cache_gen.proofs.ArmAssignments.{Goes, goes-none, goes-then}
use Rattle.branch_padding.specs.Prelude.{in_a_row, shown_in_a_row, loaded_in_a_row, both_rests}

-- what is shown in a row, and loaded, is so part by part
pub shown-append : (xs ys : List (List Show)) → shown_in_a_row (xs ++ ys) ≡ shown_in_a_row xs ++ shown_in_a_row ys
shown-append [] ys = refl
shown-append (x ∷ xs) ys =
    ap (λ (shows : List Show). x ++ shows) (shown-append xs ys)
    ∙ sym (append_assoc x (shown_in_a_row xs) (shown_in_a_row ys))

loads-first : (loads : Loads) → loads ≡ then_loads no_loads loads
loads-first loads = λ i k. or_none (loads k) i

loads-assoc : (a b c : Loads) → then_loads (then_loads a b) c ≡ then_loads a (then_loads b c)
loads-assoc a b c = λ i k. sym (or_assoc (c k) (b k) (a k)) i

pub loaded-append : (xs ys : List Loads)
    → loaded_in_a_row (xs ++ ys) ≡ then_loads (loaded_in_a_row xs) (loaded_in_a_row ys)
loaded-append [] ys = loads-first (loaded_in_a_row ys)
loaded-append (x ∷ xs) ys =
    ap (then_loads x) (loaded-append xs ys) ∙ sym (loads-assoc x (loaded_in_a_row xs) (loaded_in_a_row ys))

-- the first k of one part, the rest of it, and the rest of another
pub shown-rests : (k : ℕ) (first second : List (List Show))
    → shown_in_a_row (both_rests k first second)
    ≡ shown_in_a_row (take k first) ++ (shown_in_a_row (drop k first) ++ shown_in_a_row (drop k second))
shown-rests k first second =
    shown-append first (drop k second)
    ∙ ap (λ (xs : List (List Show)). shown_in_a_row xs ++ shown_in_a_row (drop k second))
    (sym (take-append-drop k first))
    ∙ ap (λ (shows : List Show). shows ++ shown_in_a_row (drop k second)) (shown-append (take k first) (drop k first))
    ∙ append_assoc (shown_in_a_row (take k first)) (shown_in_a_row (drop k first)) (shown_in_a_row (drop k second))

-- what the first part and then the rests of both have loaded
pub loaded-rests : (k : ℕ) (first second : List Loads)
    → loaded_in_a_row (both_rests k first second)
    ≡ then_loads (loaded_in_a_row (take k first))
    (then_loads (loaded_in_a_row (drop k first)) (loaded_in_a_row (drop k second)))
loaded-rests k first second =
    loaded-append first (drop k second)
    ∙ ap (λ (xs : List Loads). then_loads (loaded_in_a_row xs) (loaded_in_a_row (drop k second)))
    (sym (take-append-drop k first))
    ∙ ap (λ (loads : Loads). then_loads loads (loaded_in_a_row (drop k second)))
    (loaded-append (take k first) (drop k first))
    ∙ loads-assoc (loaded_in_a_row (take k first)) (loaded_in_a_row (drop k first)) (loaded_in_a_row (drop k second))

-- each piece goes from every state that carries the setting
abbrev pub GoesAnywhere : Parts → Setting → ℕ → List Instr → List Show → Loads → Type 0
GoesAnywhere o f depth code shows loads = (s : SymState) → CarriesInArm f s → Goes o f depth s code shows loads

-- each part of a row continues, at any place
pub data EachGoes (o : Parts) (f : Setting) (depth : ℕ)
    : List (List Instr) → List (List Show) → List Loads → Type 0 where
  NoneGoes : EachGoes o f depth [] [] []
  OneGoes : (code : List Instr) (shows : List Show) (loads : Loads) (codes : List (List Instr))
      (more : List (List Show)) (later : List Loads)
      → GoesAnywhere o f depth code shows loads → EachGoes o f depth codes more later
      → EachGoes o f depth (code ∷ codes) (shows ∷ more) (loads ∷ later)

module _ (o : Parts) (f : Setting) (depth : ℕ) where
  -- pieces in a row are walked one after another
  pub row-goes : (codes : List (List Instr)) (shows : List (List Show)) (loads : List Loads)
      → EachGoes o f depth codes shows loads
      → GoesAnywhere o f depth (in_a_row codes) (shown_in_a_row shows) (loaded_in_a_row loads)
  row-goes codes shows loads NoneGoes = λ s carries. goes-none o f depth s carries
  row-goes codes shows loads (OneGoes code shown left rest more later one each) = λ s carries.
      let first = one s carries in
      goes-then o f depth s code shown left first (in_a_row rest) (shown_in_a_row more) (loaded_in_a_row later)
      (row-goes rest more later each first.state first.carries)

  -- so are the first of them
  pub take-goes : (k : ℕ) (codes : List (List Instr)) (shows : List (List Show)) (loads : List Loads)
      → EachGoes o f depth codes shows loads → EachGoes o f depth (take k codes) (take k shows) (take k loads)
  take-goes zero codes shows loads each = NoneGoes
  take-goes (suc k) codes shows loads NoneGoes = NoneGoes
  take-goes (suc k) codes shows loads (OneGoes code shown left rest more later one each) =
      OneGoes code shown left (take k rest) (take k more) (take k later) one (take-goes k rest more later each)

  -- and the rest
  pub drop-goes : (k : ℕ) (codes : List (List Instr)) (shows : List (List Show)) (loads : List Loads)
      → EachGoes o f depth codes shows loads → EachGoes o f depth (drop k codes) (drop k shows) (drop k loads)
  drop-goes zero codes shows loads each = each
  drop-goes (suc k) codes shows loads NoneGoes = NoneGoes
  drop-goes (suc k) codes shows loads (OneGoes code shown left rest more later one each) =
      drop-goes k rest more later each

  -- three pieces
  pub three-go : (a b c : List Instr) (x y z : List Show) (l m n : Loads) → GoesAnywhere o f depth a x l
      → GoesAnywhere o f depth b y m → GoesAnywhere o f depth c z n
      → GoesAnywhere o f depth (a ++ (b ++ c)) (x ++ (y ++ z)) (then_loads l (then_loads m n))
  three-go a b c x y z l m n one two three = λ s carries.
      let first = one s carries in
      let second = two first.state first.carries in
      goes-then o f depth s a x l first (b ++ c) (y ++ z) (then_loads m n)
      (goes-then o f depth first.state b y m second c z n (three second.state second.carries))
