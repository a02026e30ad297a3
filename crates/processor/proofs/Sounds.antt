-- How a machine starts, and where an object's symbols are stored.
use Rattle.std.proofs.Common.{◌≡◌, ℕ, suc, ◌<◌, true, ℤ, pos, List, [], ◌∷◌, length, map, replicate, get_or, All, Some, refl, sym, ap, ◌∙◌, subst, ⊎_elim, arith}
use Rattle.std.specs.Prelude.{IfSome, IsSomeAnd, slice_get}
use Rattle.std.proofs.lemmas.Bool.{cases_lt}
use Rattle.std.proofs.lemmas.List.{length-replicate, length-map, get_or-map}
use Rattle.std.proofs.lemmas.List.Elements.{All-replicate}
use Rattle.std.proofs.lemmas.Option.{slice_get-get_or, slice_get_past}
use Rattle.std.proofs.Math.Facts.{sfits_lit}
use Rattle.gr_word.specs.Prelude.{IsWord}
use Rattle.lt_isa.specs.declared.symbols.Symbol.{Symbol}
use Rattle.lt_isa.specs.Prelude.{Parts, block_words, IsInRange, SymbolFits, Slot, Unbound, IsShaped, SlotFits, start_banks, start_state}
use Rattle.gr_base.proofs.EachAfter.{EachAfter-at}
use Rattle.processor.specs.Prelude.{Running, fresh_state, AreBanksOf, LiesIn, Pad, IsSound}

-- loaded with the banks of the start, a machine is in the start state
pub fresh_state-start : (o : Parts) (inputs : List (List ℤ)) → fresh_state (start_banks o inputs) ≡ start_state o inputs
unfolding fresh_state start_state
fresh_state-start o inputs = refl

-- loaded with banks of the object, it has the object's shape
pub IsShaped-fresh : (o : Parts) (banks : List (List (List ℤ))) (widths : List ℕ)
    → AreBanksOf o banks widths → IsShaped o (fresh_state banks)
unfolding fresh_state
IsShaped-fresh o banks widths fits = record {
  register_count = length-replicate 32 (pos 0);
  registers = All-replicate IsWord 32 (pos 0) (sfits_lit tt);
  slot_count = length-replicate 8 Unbound;
  slots = All-replicate (SlotFits o) 8 Unbound tt;
  bank_count = fits.bank_count;
  block_counts = fits.block_counts;
  blocks = fits.blocks;
}

-- each symbol of an object is within a bank
pub LiesIn-at : (o : Parts)
    → IsInRange o → (k : ℕ) (d : Symbol) → k < length o.symbols → LiesIn o (get_or o.symbols k d)
LiesIn-at o range k d within =
    let fits = EachAfter-at (SymbolFits (block_words o) o.banks) [] o.symbols range.symbols k d within in
    record { bank_exists = fits.lies.bank; inside = fits.lies.inside }

-- what holds of an item that there is
pub there_is : {X : Type 0} (P : X → Type 0) (xs : List X) (i : ℕ) (d : X)
    → IsSomeAnd (slice_get xs i) P → (i < length xs) × P (get_or xs i d)
there_is P xs i d holds =
    ⊎_elim
    (λ within. (within, subst (λ found. IsSomeAnd found P) (slice_get-get_or xs i d within) holds))
    (λ past. absurd (subst (λ found. IsSomeAnd found P) (slice_get_past xs i past) holds))
    (cases_lt i (length xs))

-- what holds of an item within the list
pub if_there_is : {X : Type 0} (P : X → Type 0) (xs : List X) (i : ℕ) (d : X)
    → i < length xs → P (get_or xs i d) → IfSome (slice_get xs i) P
if_there_is P xs i d within holds =
    let there : slice_get xs i ≡ Some (get_or xs i d) = slice_get-get_or xs i d within in
    rw there holds

-- the widths of banks that are all of one width
pub widths_same : {X : Type 0} (f : X → ℕ) (p q n m : ℕ) (xs : List X)
    → All (λ w. w ≡ n) (p ∷ q ∷ map f xs) → m ≡ n → (p ≡ m) × (q ≡ m) × All (λ x. f x ≡ m) xs
widths_same f p q n m xs all same = (
  all 0 0 (omega arith) ∙ sym same,
  all 1 0 (omega arith) ∙ sym same,
  λ k d within.
      sym (get_or-map f xs k d 0 within) ∙ all (suc (suc k)) 0 (omega (arith, length-map xs f)) ∙ sym same,
)

-- a machine is sound where it is loaded with banks of its object
pub IsSound-fresh : (o : Parts) (banks : List (List (List ℤ))) (widths : List ℕ) (pad : Pad) (n : ℕ)
    → AreBanksOf o banks widths → pad ≡ record { words = n; slots = replicate 8 Unbound } → n ≡ block_words o
    → IsSound o
    (record { registers = replicate 32 (pos 0); slots = pad.slots; banks = banks; place = 0; cycle = 0 }) pad.words n
unfolding fresh_state
IsSound-fresh o banks widths pad n fits new words = record {
  shaped =
      subst (λ (p : Pad). IsShaped o
      (record { registers = replicate 32 (pos 0); slots = p.slots; banks = banks; place = 0; cycle = 0 })) (sym new)
      (IsShaped-fresh o banks widths fits);
  pad_words = ap (λ (p : Pad). p.words) new ∙ words;
  bank_words = words;
  far = omega arith;
}

-- how it is seen
pub fresh-view : {B : Type 0} (o p : Parts) (banks : List (List (List ℤ))) (orams : List B) (pad : Pad) (n : ℕ)
    → o ≡ p → pad ≡ record { words = n; slots = replicate 8 Unbound } → ◌≡◌ {A = Running B} (record {
      object = o;
      state = record { registers = replicate 32 (pos 0); slots = pad.slots; banks = banks; place = 0; cycle = 0 };
      orams = orams;
      live = true;
    }) (record { object = p; state = fresh_state banks; orams = orams; live = true })
unfolding fresh_state
fresh-view {B} o p banks orams pad n same new =
    let seen : Parts → List Slot → Running B = λ o slots. record {
      object = o;
      state = record { registers = replicate 32 (pos 0); slots = slots; banks = banks; place = 0; cycle = 0 };
      orams = orams;
      live = true;
    } in
    ap (λ q. seen q pad.slots) same ∙ ap (λ (l : Pad). seen p l.slots) new
