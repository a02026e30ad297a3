-- The oblivious banks of a machine, and what accesses make of them. (Path ORAM, CCS 2013: an access shows a path and
-- leads to another state of the bank.)
use Rattle.std.specs.Prelude.{◌≡◌, ◌≢◌, ◌≤◌, ℕ, zero, suc, List, [], ◌∷◌, ◌++◌, Option, Some, None, IsSome, slice_get}
use Rattle.banks.specs.declared.bank.Leaves.{Leaves}
use Rattle.banks.specs.Accesses.{Access, in_bank}

-- bank number b of a machine with these oblivious banks, if it is one: they are numbered from 2
abbrev pub oram_of : {B : Type 0} → List B → ℕ → Option B
oram_of orams zero = None
oram_of orams (suc zero) = None
oram_of orams (suc (suc i)) = slice_get orams i

-- a bank is there before and afterwards, and this holds of the two; or it isn't there at all
abbrev pub OfBoth : {B : Type 0} → Option B → Option B → (B → B → Type 0) → Type 0
OfBoth None None holds = Unit {0}
OfBoth (Some before) (Some now) holds = holds before now
OfBoth None (Some now) holds = ⊥
OfBoth (Some before) None holds = ⊥

-- An access showed these paths, and changed no other bank: what its bank would have shown before for it and any later
-- accesses is these paths, followed by what the bank will show now for the later ones; and the bank comes from the one
-- before by this access.
pub record Accessed {B : Type 0} (shows : B → List ℕ → List Leaves) (comes : B → List ℕ → B → Type 0)
    (before now : List B) (access : Access) (leaves : Leaves) : Type 0 where
  pub exists : 2 ≤ access.bank → IsSome (oram_of before access.bank)
  pub others : (b : ℕ) → b ≢ access.bank → oram_of now b ≡ oram_of before b
  pub shown : OfBoth (oram_of before access.bank) (oram_of now access.bank) (λ old new.
      (later : List ℕ) → shows old (access.block ∷ later) ≡ leaves ∷ shows new later)
  pub came : OfBoth (oram_of before access.bank) (oram_of now access.bank) (λ old new.
      comes old (access.block ∷ []) new)

-- an access, or none, and then every bank stays
abbrev pub MayAccess : {B : Type 0} → (B → List ℕ → List Leaves) → (B → List ℕ → B → Type 0)
    → List B → List B → Option Access → Leaves → Type 0
MayAccess shows comes before now None leaves = now ≡ before
MayAccess shows comes before now (Some access) leaves = Accessed shows comes before now access leaves

-- each oblivious bank comes from the one before by the accesses that were made to it
abbrev pub ComeBy : {B : Type 0} → (B → List ℕ → B → Type 0) → List B → List Access → List B → Type 0
ComeBy comes before accesses now =
    (b : ℕ) → OfBoth (oram_of before b) (oram_of now b) (λ old new. comes old (in_bank b accesses) new)

-- What a first bank shows for these accesses and any later ones is what it shows for these, followed by what a second
-- shows for the later ones.
abbrev pub ShowsOn : {B : Type 0} → (B → List ℕ → List Leaves) → B → List ℕ → B → Type 0
ShowsOn shows first blocks second =
    (later : List ℕ) → shows first (blocks ++ later) ≡ shows first blocks ++ shows second later

-- what oblivious bank b shows for the accesses that are made to it
abbrev pub shown_of : {B : Type 0} → (B → List ℕ → List Leaves) → Option B → List ℕ → List Leaves
shown_of shows None blocks = []
shown_of shows (Some bank) blocks = shows bank blocks

abbrev pub paths_shown : {B : Type 0} → (B → List ℕ → List Leaves) → List B → List Access → ℕ → List Leaves
paths_shown shows orams accesses b = shown_of shows (oram_of orams b) (in_bank b accesses)
