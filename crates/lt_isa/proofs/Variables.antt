-- What inputs of an object must fit are variables, and the words that a state holds for them fit them.
use Rattle.std.proofs.Common.{◌≡◌, ◌≢◌, ℕ, zero, suc, ◌<◌, nat_lt, true, false, cond, ℤ, List, [], ◌∷◌, length, map, get_or, refl, sym, subst, ⊎_elim, arith}
use Rattle.std.specs.List.{range_with_len}
use Rattle.std.proofs.lemmas.Bool.{cases_lt}
use Rattle.std.proofs.lemmas.List.{get_or_past, get_or-take, length-take-le}
use Rattle.std.proofs.lemmas.List.Elements.{All-map}
use Rattle.std.proofs.lemmas.List.FromFn.{length-map-range_with_len}
use Rattle.gr_word.specs.declared.variables.Shape.{Shape}
use Rattle.gr_word.specs.declared.variables.Shape.TheVariants.{Scalar, Array}
use Rattle.gr_word.specs.Prelude.{IsWord, FitsWants, AreWords, AreDistinct, AreVariables}
use Rattle.lt_isa.specs.declared.symbols.Symbol.{Symbol}
use Rattle.lt_isa.specs.declared.profiles.BankSpec.{BankSpec}
use Rattle.lt_isa.specs.Prelude.{Parts, block_words, blocks_of, most_words, IsInRange, SymbolFits, State, bank_blocks, block_at, IsShaped, StepResult, Goes, Stops, Faults, step, step_start, left_then, final_within, final_from, want_of, wants_of, FitsObject, start_state, final, symbol_word, symbol_words, outputs}
use Rattle.gr_base.specs.Prelude.{EachAfter, Within}
use Rattle.gr_base.proofs.EachAfter.{EachAfter-at}
use Rattle.lt_isa.proofs.Shapes.{IsWord-at, step-shaped, stop-shaped}
use Rattle.lt_isa.proofs.Starts.{IsShaped-start}

-- each symbol's name differs from the names of those after it
name-new : (w : ℕ) (banks : List BankSpec) (symbols : List Symbol) → EachAfter (SymbolFits w banks) [] symbols
    → (i j : ℕ) (d : Symbol) → i < j → j < length symbols → (get_or symbols i d).name ≢ (get_or symbols j d).name
name-new w banks symbols each i j d less within =
    subst (λ s. s.name ≢ (get_or symbols j d).name) (get_or-take j symbols i d less)
    ((EachAfter-at (SymbolFits w banks) [] symbols each j d within).new i d
    (subst (λ n. i < n) (sym (length-take-le j symbols (omega arith))) less))

distinct-from : (symbols : List Symbol)
    → ((i j : ℕ) (d : Symbol) → i < j → j < length symbols → (get_or symbols i d).name ≢ (get_or symbols j d).name)
    → AreDistinct (map want_of symbols)
distinct-from [] apart = tt
distinct-from (s ∷ symbols) apart = (
  All-map (λ other. s.name ≢ other.name) want_of symbols (λ k d within. apart 0 (suc k) d (omega arith) (omega arith)),
  distinct-from symbols (λ i j d less within. apart (suc i) (suc j) d (omega arith) (omega arith)),
)

-- a scalar has one word
one_word : (shape : Shape) (n : ℕ) → Within 1 (most_words shape) n → shape ≡ Scalar → n ≡ 1
one_word Scalar n within is = omega (arith, within.0, within.1)
one_word Array n within is = absurd (let f : ◌≡◌ {A = Shape} Array Scalar = is in cc)

-- what the inputs of an object must fit are variables
pub wants_are_variables : (o : Parts) → IsInRange o → AreVariables (wants_of o)
wants_are_variables o fits = record {
  distinct = distinct-from o.symbols (name-new (block_words o) o.banks o.symbols fits.symbols);
  scalars = All-map (λ want. want.shape ≡ Scalar → want.length ≡ 1) want_of o.symbols (λ k d within.
      let s = get_or o.symbols k d in
      one_word s.shape s.length
      (EachAfter-at (SymbolFits (block_words o) o.banks) [] o.symbols fits.symbols k d within).lies.length);
}

-- the words of any block of a state are words of the machine
pub AreWords-block_at : (o : Parts) (s : State) → IsShaped o s → (b a : ℕ) → AreWords (block_at s b a)
AreWords-block_at o s shaped b a =
    ⊎_elim
    (λ exists.
    ⊎_elim
    (λ within. (shaped.blocks b a exists within).all_words)
    (λ past.
    subst AreWords (sym (get_or_past (bank_blocks s b) a [] (omega (arith, past, shaped.block_counts b exists))))
    (λ i d below. absurd (omega arith)))
    (cases_lt a (blocks_of o b)))
    (λ none.
    subst (λ bank. AreWords (get_or bank a []))
    (sym (get_or_past s.banks b [] (omega (arith, none, shaped.bank_count))))
    (let empty : List (List ℤ) = [] in
    subst AreWords (sym (get_or_past empty a [] (omega arith))) (λ i d below. absurd (omega arith))))
    (cases_lt b (length o.banks))

pub AreWords-symbol_words : (o : Parts) (s : State) → IsShaped o s → (symbol : Symbol)
    → AreWords (symbol_words o s symbol)
unfolding symbol_words
AreWords-symbol_words o s shaped symbol =
    All-map IsWord (symbol_word o s symbol) (range_with_len 0 symbol.length) (λ k d within.
    IsWord-at (block_at s symbol.bank _) (AreWords-block_at o s shaped symbol.bank _) _)

pub length-symbol_words : (o : Parts) (s : State) (symbol : Symbol) → length (symbol_words o s symbol) ≡ symbol.length
unfolding symbol_words
length-symbol_words o s symbol = length-map-range_with_len (symbol_word o s symbol) 0 symbol.length

symbols-fit : (o : Parts) (s : State) → IsShaped o s → (symbols : List Symbol)
    → FitsWants (map want_of symbols) (map (symbol_words o s) symbols)
symbols-fit o s shaped [] = tt
symbols-fit o s shaped (symbol ∷ symbols) =
    (length-symbol_words o s symbol, AreWords-symbol_words o s shaped symbol, symbols-fit o s shaped symbols)

-- the words that a state holds for the symbols fit them
pub outputs-fit : (o : Parts) (s : State) → IsShaped o s → FitsObject o (outputs o s)
unfolding outputs
outputs-fit o s shaped = symbols-fit o s shaped o.symbols

left-shaped : (o : Parts) → IsInRange o → (s : State) → IsShaped o s → (found : StepResult) → step o s ≡ found
    → (rest : State → State) → ((t : State) → IsShaped o t → IsShaped o (rest t))
    → IsShaped o (left_then s found rest)
left-shaped o fits s shaped (Goes event next) is rest go = go next (step-shaped o fits s shaped event next is)
left-shaped o fits s shaped (Stops last) is rest go = stop-shaped o fits s shaped last is
left-shaped o fits s shaped Faults is rest go = shaped

within-shaped : (steps : ℕ) (o : Parts) → IsInRange o → (s : State) → IsShaped o s → (n : ℕ)
    → IsShaped o (final_within steps o s n)
unfolding final_within
within-shaped zero o fits s shaped n = shaped
within-shaped (suc steps) o fits s shaped n =
    elim (nat_lt (step_start o s) n) as (λ c.
    IsShaped o (cond c (left_then s (step o s) (λ t. final_within steps o t n)) s)) [
      | true ↦ left-shaped o fits s shaped (step o s) refl (λ t. final_within steps o t n)
          (λ t well. within-shaped steps o fits t well n)
      | false ↦ shaped
    ]

-- the final state of a run has the object's shape
pub final-shaped : (o : Parts) → IsInRange o → (s : State) → IsShaped o s → (n : ℕ) → IsShaped o (final_from o s n)
unfolding final_from
final-shaped o fits s shaped n = within-shaped n o fits s shaped n

-- what a run on inputs that fit leaves for the symbols fits them
pub final_outputs-fit : (o : Parts) → IsInRange o → (inputs : List (List ℤ)) → FitsObject o inputs → (n : ℕ)
    → FitsObject o (outputs o (final o inputs n))
final_outputs-fit o fits inputs given n =
    outputs-fit o (final o inputs n) (final-shaped o fits (start_state o inputs) (IsShaped-start o inputs given) n)
