-- What `infer` finds of an object: the object with its least notes, or why it gets none.
use Rattle.std.specs.Prelude.{◌≡◌, ◌≢◌}
use Rattle.lt_isa.specs.Object.{Parts}
use Rattle.lt_isa.specs.Ranges.{IsInRange}
use Rattle.note_infer.specs.Inferred.{IsInferred, IsWhyNot, NoNotesWouldDo}
use Rattle.note_infer.specs.declared.faults.InferError.{InferError}
use Rattle.note_infer.specs.declared.faults.InferError.TheVariants.{Memory}

-- another object with the least notes of this one, whose own aren't looked at; it is accepted
pub record GetsNotes (o found : Parts) : Type 0 where
  pub in_range : IsInRange found
  pub inferred : IsInferred o found

-- Why an object gets none, which is never running out of memory. Where its least notes are refused, so are all others
-- that open the same regions.
pub record GetsNone (o : Parts) (why : InferError) : Type 0 where
  pub told : why ≢ Memory
  pub cause : IsWhyNot o why
  pub suffices : NoNotesWouldDo o why

-- what is found of an object is one object
abbrev pub InferredOnce : Type 0
InferredOnce = (o found other : Parts) → GetsNotes o found → GetsNotes o other → found ≡ other
