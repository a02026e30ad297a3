-- How far the code has come with a sample. (Only contracts of private functions and proofs say so.)
use Rattle.std.specs.Prelude.{◌≡◌, Bool, false, ℕ, Option, Some, None}
use Rattle.lt_isa.specs.Object.{Parts}
use Rattle.lt_isa.specs.Ranges.{IsInRange}
use Rattle.lt_isa.specs.Trace.{HaltsAt}
use Rattle.object_file.specs.Spelling.{spelling}
use Rattle.src_tree.specs.Trees.{Source}
use Rattle.call_steps.specs.Compiled.{IsCompiledTo}
use Rattle.call_steps.specs.Counting.{is_plain, is_encrypted, is_second, how_many}
use Rattle.call_steps.specs.Histogram.{Made, IsMade, figures_of, sample_target, sample_text, sample_trace}
use Rattle.processor.specs.Ends.{NoHalt}
use Rattle.call_steps.specs.Sources.{SpellsTyped}
use Rattle.ghost_cli.specs.declared.sample.CountedRun.{CountedRun}
use Rattle.ghost_cli.specs.declared.sample.SampleFile.{SampleFile}

-- a program and its object, which are ready to be run
pub record SampleIsReady (fast : Bool) (n : ℕ) (p : Source) (o : Parts) : Type 0 where
  pub spells : SpellsTyped false (sample_text n) p
  pub in_range : IsInRange o
  pub compiled : IsCompiledTo p (sample_target fast) (spelling o)

-- the run halted at a cycle and showed this many accesses
pub record RanSo (o : Parts) (run : CountedRun) : Type 0 where
  pub halts : HaltsAt (sample_trace o) run.cycles
  pub plain : run.counts.ram ≡ how_many is_plain (sample_trace o)
  pub encrypted : run.counts.eram ≡ how_many is_encrypted (sample_trace o)
  pub second : run.counts.oram2 ≡ how_many is_second (sample_trace o)

-- it halted so, or its cycles were spent
abbrev pub RanCounted : Parts → Option CountedRun → Type 0
RanCounted o (Some run) = RanSo o run
RanCounted o None = NoHalt (sample_trace o)

-- the file and the figures of something that was made, whose run halted
pub record IsFileOf (fast : Bool) (n : ℕ) (file : SampleFile) : Type 0 where
  pub made : Made
  pub is : IsMade fast n made
  pub spelled : file.bytes.items ≡ made.bytes
  pub at : ℕ
  pub halts : HaltsAt (sample_trace made.object) at
  pub figured : file.figures ≡ figures_of n made at

-- its cycles were spent
abbrev pub SampleIsSpent : Bool → ℕ → Type 0
SampleIsSpent fast n = (made : Made) × IsMade fast n made × NoHalt (sample_trace made.object)

abbrev pub SampleCameTo : Bool → ℕ → Option SampleFile → Type 0
SampleCameTo fast n (Some file) = IsFileOf fast n file
SampleCameTo fast n None = SampleIsSpent fast n
