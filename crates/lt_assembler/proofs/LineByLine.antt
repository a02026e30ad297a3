-- Reading a text line by line.
use Rattle.std.proofs.Common.{◌≡◌, ◌≢◌, ℕ, ◌+◌, List, [], ◌∷◌, length, Result, Ok, Err, refl, ap, ◌∙◌}
use Rattle.lt_assembler.specs.declared.faults.Fault.{Fault}
use Rattle.lt_assembler.specs.declared.faults.Fault.TheVariants.{Memory}
use Rattle.lt_assembler.specs.declared.errors.AsmError.{AsmError}
use Rattle.lt_assembler.specs.Prelude.{lines, at_line, Draft, empty_draft, line_read, read_lines, instruction_follows, text_read}
use Rattle.gr_base.specs.Prelude.{◌>>=◌}
use Rattle.gr_base.proofs.Results.{ok_is}
use Rattle.lt_assembler.specs.declared.errors.AsmError.TheVariants as error

-- a line without an error
pub read_one : (n : ℕ) (line : List ℕ) (rest : List (List ℕ)) (d e : Draft)
    → line_read n (instruction_follows rest) line d ≡ Ok e → read_lines n (line ∷ rest) d ≡ read_lines (n + 1) rest e
unfolding read_lines
read_one n line rest d e here = rw here refl

-- a line with an error
pub read_fault : (n : ℕ) (line : List ℕ) (rest : List (List ℕ)) (d : Draft) (fault : Fault)
    → line_read n (instruction_follows rest) line d ≡ Err fault → read_lines n (line ∷ rest) d ≡ Err (at_line n fault)
unfolding read_lines
read_fault n line rest d fault here = rw here refl

-- no lines are left
pub read_none : (n : ℕ) (d : Draft) → read_lines n [] d ≡ Ok d
unfolding read_lines
read_none n d = refl

-- a line's error isn't out of memory if the text's error isn't
pub no_memory : (n : ℕ) (fault : Fault) (e : AsmError) → e ≡ at_line n fault → e ≢ error.Memory → fault ≢ Memory
no_memory n fault e same other bad = other (same ∙ ap (at_line n) bad)

-- the error of a line is the text's
pub text_fault : (text : List ℕ) (e : AsmError) → read_lines 1 (lines text) empty_draft ≡ Err e → text_read text ≡ Err e
text_fault text e fault = rw fault refl

-- lines without an error yield the draft of the text
pub text_fine : (text : List ℕ) (d : Draft) (n : ℕ)
    → read_lines 1 (lines text) empty_draft ≡ Ok d → n ≡ length (lines text) + 1 → text_read text ≡ Ok (d, n)
text_fine text d n fine number = rw (fine, number) refl

-- the draft that was found, with a number
numbered : ℕ → Result Draft AsmError → Result (Draft × ℕ) AsmError
numbered n r = r >>= (λ d. Ok (d, n))

found_of : (n m : ℕ) (r : Result Draft AsmError) (d : Draft) → numbered n r ≡ Ok (d, m) → r ≡ Ok d
unfolding numbered
found_of n m (Err fault) d h = absurd cc
found_of n m (Ok x) d h = ap (λ (y : Draft). Ok y) (ap (λ (p : Draft × ℕ). p.0) (ok_is {E = AsmError} (x, n) (d, m) h))

-- the draft of a text is the one to which its lines lead
pub text_found : (text : List ℕ) (d : Draft) (n : ℕ)
    → text_read text ≡ Ok (d, n) → read_lines 1 (lines text) empty_draft ≡ Ok d
unfolding numbered
text_found text d n e = found_of (length (lines text) + 1) n (read_lines 1 (lines text) empty_draft) d e
