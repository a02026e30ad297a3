-- Errors of a line, and of a text (this project's profile).
use Rattle.std.specs.Prelude.{◌≡◌, ◌≢◌, ℕ, Bool, if◌then◌else◌, Option, Result, Ok, Err, ok_or}
use Rattle.lt_assembler.specs.declared.faults.Fault.{Fault}
use Rattle.lt_assembler.specs.declared.faults.Fault.TheVariants.{WrongForm, Number, RepeatedName, Limit, Memory}
use Rattle.lt_assembler.specs.declared.errors.AsmError.{AsmError}
use Rattle.lt_assembler.specs.declared.errors.AsmError.TheVariants as error

-- what a word of the line's form names; if it names nothing, the line lacks the form
abbrev pub form : {X : Type 0} → Option X → Result X Fault
form x = ok_or x WrongForm

-- the number of a word
abbrev pub number_or : {X : Type 0} → Option X → Result X Fault
number_or x = ok_or x Number

-- a test, and an error if it fails
abbrev pub unless_not : Fault → Bool → Result (Unit {0}) Fault
unless_not fault holds = if holds then Ok tt else Err fault

-- an error in line n
abbrev pub at_line : ℕ → Fault → AsmError
at_line n WrongForm = error.BadLine n
at_line n Number = error.BadNumber n
at_line n RepeatedName = error.TwiceNamed n
at_line n Limit = error.OverLimit n
at_line n Memory = error.Memory

abbrev pub in_line : {X : Type 0} → ℕ → Result X Fault → Result X AsmError
in_line n (Ok x) = Ok x
in_line n (Err fault) = Err (at_line n fault)

-- The result of a function, after `view` was applied to its value, is the result of reading.
abbrev pub Reads : {X Y : Type 0} → (X → Y) → Result X Fault → Result Y Fault → Type 0
Reads view (Ok x) read = read ≡ Ok (view x)
Reads view (Err fault) read = read ≡ Err fault

-- After a call with this result, a value is the result of reading, unless memory ran out.
abbrev pub Becomes : {X Y : Type 0} → Result X Fault → Y → Result Y Fault → Type 0
Becomes (Ok done) value read = read ≡ Ok value
Becomes (Err fault) value read = fault ≢ Memory → read ≡ Err fault

-- The result of a function that takes memory is the result of reading, unless memory ran out.
abbrev pub Assembles : {X : Type 0} → Result X Fault → Result X Fault → Type 0
Assembles (Ok x) read = read ≡ Ok x
Assembles (Err fault) read = fault ≢ Memory → read ≡ Err fault

-- The result of a function on the whole text, after `view` was applied to its value, is what is found, unless memory
-- ran out.
abbrev pub Finds : {X Y : Type 0} → (X → Y) → Result X AsmError → Result Y AsmError → Type 0
Finds view (Ok x) found = found ≡ Ok (view x)
Finds view (Err e) found = e ≢ error.Memory → found ≡ Err e
