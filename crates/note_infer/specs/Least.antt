-- The least states that the ways allow, and which branches are crossed.
-- (This project's profile.)
use Rattle.std.specs.Prelude.{◌≡◌, ℕ, ◌<◌, ◌||◌, ℤ, true, false, List, [], ◌∷◌, length, slice_get, Option, Some}
use Rattle.gr_word.specs.declared.operations.Cmp.{Cmp}
use Rattle.lt_isa.specs.declared.instructions.Instr.TheVariants.{Br}
use Rattle.lt_isa.specs.Object.{Parts}
use Rattle.trace_patterns.specs.Known.{Known, start_known, is_secret, FitsClaim}
use Rattle.trace_patterns.specs.Carries.{JoinsIn}
use Rattle.note_infer.specs.Ways.{PublicWay, is_crossed}

-- what is known at each place that is reached, and nothing of one that isn't
abbrev pub States : Type 0
States = ℕ → Option Known

-- What is known at a place is at least this: each register that is secret in it is secret there, and it has each bank
-- that is known there.
pub record IsAtLeast (states : States) (p : ℕ) (low : Known) : Type 0 where
  pub known : Known
  pub is : states p ≡ Some known
  pub above : FitsClaim low known

-- as many registers and slots as the machine has
pub record IsFull (k : Known) : Type 0 where
  pub registers : length k.secret ≡ 32
  pub slots : length k.banks ≡ 8

-- at the start at least what is known there; and where each way ends, at least what it carries
pub record IsClosed (o : Parts) (crossed : List ℕ) (states : States) : Type 0 where
  pub full : (p : ℕ) (k : Known) → states p ≡ Some k → IsFull k
  pub start : IsAtLeast states 0 start_known
  pub ways : (p q : ℕ) (k next : Known) → states p ≡ Some k → PublicWay o crossed p k q next → IsAtLeast states q next

-- the lowest states that are closed: at no place more is known to be secret than in any others
pub record IsLeast (o : Parts) (crossed : List ℕ) (states : States) : Type 0 where
  pub closed : IsClosed o crossed states
  pub lowest : (others : States) → IsClosed o crossed others
      → (p : ℕ) (k : Known) → states p ≡ Some k → IsAtLeast others p k

-- A branch may join those that are crossed: it is reached, a register that it compares is secret there, and its region
-- and those within have their shape, without a halt and without a further jump.
pub record MayJoin (o : Parts) (crossed : List ℕ) (states : States) (p : ℕ) : Type 0 where
  pub known : Known
  pub reached : states p ≡ Some known
  pub cmp : Cmp
  pub ra : ℕ
  pub rb : ℕ
  pub offset : ℤ
  pub branch : slice_get o.code p ≡ Some (Br cmp ra rb offset)
  pub apart : is_crossed crossed p ≡ false
  pub secret : (is_secret known ra || is_secret known rb) ≡ true
  pub join : ℕ
  pub next : Known
  pub shaped : JoinsIn o p offset known join next

-- Which branches are crossed: none at first; and then, as long as some may join, the one at the lowest place.
pub data HasGrown (o : Parts) : List ℕ → Type 0 where
  NoneYet : HasGrown o []
  Joins : (crossed : List ℕ) (states : States) (p : ℕ)
      → HasGrown o crossed → IsLeast o crossed states → MayJoin o crossed states p
      → ((q : ℕ) → q < p → ¬ MayJoin o crossed states q) → HasGrown o (p ∷ crossed)

-- the last of these, and the least states under them
pub record IsLast (o : Parts) (crossed : List ℕ) (states : States) : Type 0 where
  pub grown : HasGrown o crossed
  pub least : IsLeast o crossed states
  pub done : (p : ℕ) → ¬ MayJoin o crossed states p
