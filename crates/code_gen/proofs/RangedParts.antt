-- Parts of public code that are made for a setting with other ranges are parts for the setting itself.
use Rattle.std.proofs.Common.{ℕ, ◌+◌, Bool, List, [], ◌∷◌, length}
use Rattle.lt_isa.specs.declared.symbols.Note.{Note}
use Rattle.lt_isa.specs.declared.instructions.Instr.{Instr}
use Rattle.lt_isa.specs.Prelude.{Parts, State}
use Rattle.src_tree.specs.Prelude.{Store}
use Rattle.scalar_ranges.specs.Prelude.{Ranges}
use Rattle.block_cache_gen.specs.Prelude.{Setting, ranged, Assigns}
use Rattle.block_cache_gen.proofs.Ranged.{carries-ranged, fits-ranged, stands-ranged}
use Rattle.block_cache_gen.proofs.RangesOfNotes.{NotesRise}
use Rattle.code_gen.proofs.PassedParts.{IsNoted, IsPassed}

pub rise-ranged : (f : Setting) (known : Ranges) (low high : ℕ) (notes : List Note)
    → NotesRise (ranged f known) low high notes → NotesRise f low high notes
rise-ranged f known low high [] rise = tt
rise-ranged f known low high (n ∷ notes) rise =
    (rise.0, rise.1, rise-ranged f known (n.pc + 1) high notes rise.2)

pub noted-ranged : (f : Setting) (known : Ranges) (code : List Instr) (notes : ℕ → List Note) (ends : Bool)
    → IsNoted (ranged f known) code notes ends → IsNoted f code notes ends
noted-ranged f known code notes ends part = record {
  rises = λ p. rise-ranged f known (p + 1) (p + length code + 1) (notes p) (part.rises p);
  ended = λ p. part.ended p;
}

pub passed-ranged : (o : Parts) (f : Setting) (known : Ranges) (code : List Instr) (notes : ℕ → List Note)
    → IsPassed o (ranged f known) code notes → IsPassed o f code notes
passed-ranged o f known code notes passed p k stands upto inside open_here carries =
    let a = passed p k stands upto inside open_here (carries-ranged f known k carries) in
    record { last = a.last; passes = a.passes; carries = carries-ranged (ranged f known) f.ranges a.last a.carries }

-- so is a store that code leaves
pub assigns-ranged : (f : Setting) (known : Ranges) (store : Store) (u : State) → Assigns (ranged f known) store u
    → Assigns f store u
assigns-ranged f known store u made = record {
  stands = stands-ranged (ranged f known) f.ranges u store made.stands;
  fits = fits-ranged (ranged f known) f.ranges store made.fits;
}
