-- In which files of a call the fault may be, by the call's exit status. (This project's profile.)
use Rattle.std.specs.Prelude.{◌≡◌, ℕ, ◌⊎◌}
use Rattle.fault_texts.specs.declared.file_kinds.FileKind.{FileKind}
use Rattle.fault_texts.specs.declared.file_kinds.FileKind.TheVariants.{Object, Source, Inputs, Assembly, Cases}

-- files that a call may have warnings of if it did its work
abbrev pub MayHaveWarnings : FileKind → Type 0
MayHaveWarnings Object = ⊥
MayHaveWarnings Source = Unit {0}
MayHaveWarnings Inputs = Unit {0}
MayHaveWarnings Assembly = ⊥
MayHaveWarnings Cases = ⊥

-- a file of any kind may not fit or be too long
abbrev pub AnyKind : ℕ → Type 0
AnyKind status = (status ≡ 9) ⊎ (status ≡ 11)

-- the statuses at which a file of a kind may have the fault, or warnings
abbrev pub MayHaveFault : ℕ → FileKind → Type 0
MayHaveFault status Object = AnyKind status ⊎ (status ≡ 6) ⊎ (status ≡ 7) ⊎ (status ≡ 13)
MayHaveFault status Source = AnyKind status ⊎ (status ≡ 8) ⊎ (status ≡ 0)
MayHaveFault status Inputs = AnyKind status ⊎ (status ≡ 0)
MayHaveFault status Assembly = AnyKind status ⊎ (status ≡ 12)
MayHaveFault status Cases = AnyKind status
