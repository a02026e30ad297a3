-- The banks that a run starts with are those of its object, and make the start state.
use Rattle.std.proofs.Common.{◌≡◌, ℕ, suc, ◌+◌, ◌-◌, ◌≤◌, ℤ, List, [], ◌∷◌, ◌++◌, length, map, get_or, All, refl, sym, ap, ◌∙◌, subst, arith, Result, true}
use Rattle.std.specs.Result.{IfOk}
use Rattle.std.specs.List.{range_with_len}
use Rattle.lt_isa.specs.Prelude.{State, Parts, block_words, IsInRange, IsShaped, IsBlock, FitsObject, start_bank, start_banks, start_state}
use Rattle.std.proofs.lemmas.Simd.{map-map}
use Rattle.std.proofs.lemmas.List.Elements.{All-map, All-cons}
use Rattle.std.proofs.lemmas.List.FromFn.{map-range_with_len_more}
use Rattle.lt_isa.proofs.Starts.{IsShaped-start}
use Rattle.banks.specs.Prelude.{Blocks}
use Rattle.processor.specs.Prelude.{AreBanksOf, Running, fresh_state, starting_bank}
use Rattle.processor.proofs.Sounds.{fresh_state-start}

-- one oblivious bank more
pub orams-more : (o : Parts) (inputs : List (List ℤ)) (orams : List Blocks) (made : Blocks) (b : ℕ)
    → 2 ≤ b → orams ≡ map (starting_bank o inputs) (range_with_len 2 (b - 2)) → made ≡ starting_bank o inputs b
    → orams ++ made ∷ [] ≡ map (starting_bank o inputs) (range_with_len 2 (b + 1 - 2))
orams-more o inputs orams made b least before is =
    let one : b - 2 + 1 ≡ b + 1 - 2 = omega arith in
    ap (λ list. list ++ made ∷ []) before
    ∙ (ap (λ bank. map (starting_bank o inputs) (range_with_len 2 (b - 2)) ++ bank ∷ []) is
    ∙ (sym (map-range_with_len_more (starting_bank o inputs) 2 (b - 2) b (omega arith))
    ∙ ap (λ n. map (starting_bank o inputs) (range_with_len 2 n)) one))

-- the first two banks and the others are all
pub banks-listed : (o : Parts) (inputs : List (List ℤ)) → 2 ≤ length o.banks
    → start_bank o inputs 0 ∷ start_bank o inputs 1 ∷ map (start_bank o inputs) (range_with_len 2 (length o.banks - 2))
    ≡ start_banks o inputs
unfolding start_banks
banks-listed o inputs some =
    let all : suc (suc (length o.banks - 2)) ≡ length o.banks = omega arith in
    ap (λ n. map (start_bank o inputs) (range_with_len 0 n)) all

start_banks-in_state : (o : Parts) (inputs : List (List ℤ)) → (start_state o inputs).banks ≡ start_banks o inputs
unfolding start_state
start_banks-in_state o inputs = refl

-- the contents and widths of the oblivious banks of the start
pub starting-contents : (o : Parts) (inputs : List (List ℤ)) (orams : List Blocks) (numbers : List ℕ)
    → orams ≡ map (starting_bank o inputs) numbers
    → map (λ bank. bank.contents) orams ≡ map (start_bank o inputs) numbers
starting-contents o inputs orams numbers is =
    ap (map (λ bank. bank.contents)) is ∙ map-map (λ bank. bank.contents) (starting_bank o inputs) numbers

-- oblivious banks have the object's width at the start
pub starting-widths : (o : Parts) (inputs : List (List ℤ)) (orams : List Blocks) (numbers : List ℕ)
    → orams ≡ map (starting_bank o inputs) numbers → All (λ bank. bank.width ≡ block_words o) orams
starting-widths o inputs orams numbers is =
    rw is (All-map (λ bank. bank.width ≡ block_words o) (starting_bank o inputs) numbers (λ k d within. refl))

-- what a machine is loaded with
module _ (o : Parts) (fits : IsInRange o) (inputs : List (List ℤ)) (given : FitsObject o inputs) (ram eram : Blocks)
    {B : Type 0} (contents : B → List (List ℤ)) (width : B → ℕ) (orams : List B)
    (first : ram ≡ starting_bank o inputs 0) (second : eram ≡ starting_bank o inputs 1)
    (others : map contents orams ≡ map (start_bank o inputs) (range_with_len 2 (length o.banks - 2)))
    (wide : All (λ bank. width bank ≡ block_words o) orams) where
  pub loaded-banks : ram.contents ∷ eram.contents ∷ map contents orams ≡ start_banks o inputs
  loaded-banks =
      ap (λ bank. bank.contents ∷ eram.contents ∷ map contents orams) first
      ∙ (ap (λ bank. start_bank o inputs 0 ∷ bank.contents ∷ map contents orams) second
      ∙ (ap (λ rest. start_bank o inputs 0 ∷ start_bank o inputs 1 ∷ rest) others
      ∙ banks-listed o inputs fits.bank_count.0))

  -- the banks that were loaded are those of the start
  pub loaded-state : fresh_state (ram.contents ∷ eram.contents ∷ map contents orams) ≡ start_state o inputs
  loaded-state = ap fresh_state loaded-banks ∙ fresh_state-start o inputs

  equal-widths : All (λ w. w ≡ block_words o) (map width orams)
  equal-widths = All-map (λ w. w ≡ block_words o) width orams wide

  -- and fit the object
  pub loaded-fit : AreBanksOf o (ram.contents ∷ eram.contents ∷ map contents orams)
      (ram.width ∷ eram.width ∷ map width orams)
  loaded-fit =
      let shaped : IsShaped o (start_state o inputs) = IsShaped-start o inputs given in
      let same : (start_state o inputs).banks ≡ ram.contents ∷ eram.contents ∷ map contents orams =
      start_banks-in_state o inputs ∙ sym loaded-banks in
      record {
        bank_count = ap length (sym same) ∙ shaped.bank_count;
        block_counts = λ b exists. ap (λ banks. length (get_or banks b [])) (sym same) ∙ shaped.block_counts b exists;
        blocks = λ b a exists within.
            subst (λ banks. IsBlock o (get_or (get_or banks b []) a [])) same (shaped.blocks b a exists within);
        block_sizes = All-cons (λ w. w ≡ block_words o) ram.width (eram.width ∷ map width orams)
            (ap (λ bank. bank.width) first) (All-cons (λ w. w ≡ block_words o) eram.width (map width orams)
            (ap (λ bank. bank.width) second) equal-widths);
      }

-- a machine in a state that is the start state
pub loaded-running : {B : Type 0} {E : Type 0} (made : Result (Running B) E) (o : Parts) (s t : State) (orams : List B)
    → s ≡ t → IfOk made (λ machine. machine ≡ record { object = o; state = s; orams = orams; live = true })
    → IfOk made (λ machine. machine ≡ record { object = o; state = t; orams = orams; live = true })
loaded-running made o s t orams same holds =
    subst (λ now. IfOk made (λ machine. machine ≡ record { object = o; state = now; orams = orams; live = true }))
    same holds
