-- Reading items in sequence, as a loop does.
use Rattle.std.proofs.Common.{◌≡◌, ℕ, suc, ◌-◌, ◌+◌, ◌≤◌, ◌<◌, List, [], ◌∷◌, ◌++◌, Ok, Err, refl, sym, ◌∙◌, arith}
use Rattle.object_file.specs.declared.errors.DecodeError.{DecodeError}
use Rattle.object_file.specs.Prelude.{Read, Fails, items_at}

module _ {X : Type 0} (read : List X → List ℕ → Read X) (count i : ℕ) (before : List X) (bytes : List ℕ)
    (total : Read (List X)) where
  -- one item was read
  pub goes_on : (x : X) (rest : List ℕ) → i < count → read before bytes ≡ Ok (x, rest)
      → items_at read (count - i) before bytes ≡ total → items_at read (count - (i + 1)) (before ++ x ∷ []) rest ≡ total
  unfolding items_at
  goes_on x rest lt here so_far =
      let k : count - i ≡ suc (count - (i + 1)) = omega arith in
      let one : items_at read (count - i) before bytes ≡ items_at read (count - (i + 1)) (before ++ x ∷ []) rest =
      rw (k, here) refl in
      sym one ∙ so_far

  -- an item couldn't be read
  pub ends : (e : DecodeError) → i < count → Fails e (read before bytes)
      → items_at read (count - i) before bytes ≡ total → Fails e total
  unfolding items_at
  ends e lt here so_far no_memory =
      let k : count - i ≡ suc (count - (i + 1)) = omega arith in
      let fault = here no_memory in
      let one : items_at read (count - i) before bytes ≡ Err e = rw (k, fault) refl in
      sym so_far ∙ one

  -- all items were read
  pub is_done : count ≤ i → items_at read (count - i) before bytes ≡ total → total ≡ Ok (before, bytes)
  unfolding items_at
  is_done le so_far =
      let k : count - i ≡ 0 = omega arith in
      let one : items_at read (count - i) before bytes ≡ Ok (before, bytes) = rw k refl in
      sym so_far ∙ one
