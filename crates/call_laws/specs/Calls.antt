-- What a program does that is made of a file with procedures: what the file's calls mean.
use Rattle.std.specs.Prelude.{◌≡◌, ℕ, Bool, true, false, List, length, take}
use Rattle.std.specs.Option.{option_map}
use Rattle.src_tree.specs.Meaning.{Store, meaning}
use Rattle.src_tree.specs.Trees.{Source}
use Rattle.procs_tree.specs.Trees.{File}
use Rattle.procs_tree.specs.CallMeaning.{call_meaning}
use Rattle.call_laws.specs.CompiledRuns.{IsStoreOf}
use Rattle.call_steps.specs.Sources.{Spells, SpellsCalls}

-- On every store of the program, with any values of its new variables, the program exceeds the limit exactly if the
-- file does; otherwise it leaves in the file's own variables what the file leaves in them.
abbrev pub MeansCalls : File → Source → Type 0
MeansCalls f p = (store : Store) (turns : ℕ) → IsStoreOf p store
    → option_map (take (length f.decls)) (meaning p store turns) ≡ call_meaning f (take (length f.decls) store) turns

-- so it is for the program of each text that is read with procedures
abbrev pub CallsAsMeant : Type 0
CallsAsMeant = (text : List ℕ) (p : Source) (spells : SpellsCalls text p) → MeansCalls spells.of_file.file p

-- the same, for a text that is read with procedures or without
abbrev pub MeansItsCalls : (procs : Bool) (text : List ℕ) (p : Source) → Spells procs text p → Type 0
MeansItsCalls false text p spells = Unit {0}
MeansItsCalls true text p spells = MeansCalls spells.of_file.file p
