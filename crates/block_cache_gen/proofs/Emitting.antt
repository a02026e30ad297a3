-- What is appended, piece by piece.
use Rattle.std.proofs.Common.{◌≡◌, ℕ, ◌+◌, List, [], ◌++◌, length, refl, ap, ◌∙◌, append_assoc, length-append}
use Rattle.std.proofs.lemmas.List.{append-nil}
use Rattle.lt_isa.specs.declared.instructions.Instr.{Instr}
use Rattle.lt_isa.specs.declared.symbols.Note.{Note}
use Rattle.block_cache_gen.specs.declared.frames.CodeBuf.{CodeBuf}
use Rattle.block_cache_gen.specs.declared.frames.Mode.{Mode}
use Rattle.block_cache_gen.specs.declared.frames.Mode.TheVariants.{Public, Real, Mirrored}
use Rattle.block_cache_gen.specs.Prelude.{Appended, CodeGrows, no_notes, notes_in}

longer : {X : Type 0} (a b c : List X) (m : (more : List X) × (b ≡ a ++ more)) (n : (more : List X) × (c ≡ b ++ more))
    → (more : List X) × (c ≡ a ++ more)
longer a b c m n = (m.0 ++ n.0, n.1 ∙ ap (λ x. x ++ n.0) m.1 ∙ append_assoc a m.0 n.0)

-- what was there stays at the front, one piece after another
pub grows_then : (a b c : CodeBuf) → CodeGrows a b → CodeGrows b c → CodeGrows a c
grows_then a b c one two = record {
  code = longer a.code.items b.code.items c.code.items one.code two.code;
  notes = longer a.notes.items b.notes.items c.notes.items one.notes two.notes;
}

-- three pieces in sequence
pub grows_thrice : (a b c d : CodeBuf) → CodeGrows a b → CodeGrows b c → CodeGrows c d → CodeGrows a d
grows_thrice a b c d one two three = grows_then a c d (grows_then a b c one two) three

-- one piece of code after another
pub appended_then : (a b c : CodeBuf) (one two : List Instr) (first second : ℕ → List Note)
    → Appended a b one first → Appended b c two second
    → Appended a c (one ++ two) (λ place. first place ++ second (place + length one))
appended_then a b c one two first second x y = record {
  code = y.code ∙ ap (λ xs. xs ++ two) x.code ∙ append_assoc a.code.items one two;
  notes =
      y.notes
      ∙ ap (λ xs. xs ++ second (length b.code.items)) x.notes
      ∙ append_assoc a.notes.items (first (length a.code.items)) (second (length b.code.items))
      ∙ ap (λ n. a.notes.items ++ (first (length a.code.items) ++ second n))
      (ap length x.code ∙ length-append a.code.items one);
}

-- the same said otherwise
pub appended_as : (a b : CodeBuf) (one two : List Instr) (first second : ℕ → List Note) → one ≡ two
    → ((place : ℕ) → first place ≡ second place) → Appended a b one first → Appended a b two second
appended_as a b one two first second codes notes x = record {
  code = x.code ∙ ap (λ xs. a.code.items ++ xs) codes;
  notes = x.notes ∙ ap (λ xs. a.notes.items ++ xs) (notes (length a.code.items));
}

-- one piece of code after another, if the second has no notes, and if the first has none
pub silent_behind : (a b c : CodeBuf) (one two : List Instr) (first : ℕ → List Note) → Appended a b one first
    → Appended b c two no_notes → Appended a c (one ++ two) first
silent_behind a b c one two first x y =
    appended_as a c (one ++ two) (one ++ two) (λ place. first place ++ []) first refl
    (λ place. append-nil (first place))
    (appended_then a b c one two first no_notes x y)

-- code without notes and then more
pub silent_before : (a b c : CodeBuf) (one two : List Instr) (second : ℕ → List Note) → Appended a b one no_notes
    → Appended b c two second → Appended a c (one ++ two) (λ place. second (place + length one))
silent_before a b c one two second x y = appended_then a b c one two no_notes second x y

-- the notes of two pieces together, in any mode
pub notes_both : (mode : Mode) (xs ys : List Note) → notes_in mode xs ++ notes_in mode ys ≡ notes_in mode (xs ++ ys)
notes_both Public xs ys = refl
notes_both Real xs ys = refl
notes_both Mirrored xs ys = refl

-- notes go by the code of public code, which is what was appended where there are any
pub notes_by : {X : Type 0} (mode : Mode) (code : Mode → X) (notes : X → List Note)
    → notes_in mode (notes (code mode)) ≡ notes_in mode (notes (code Public))
notes_by Public code notes = refl
notes_by Real code notes = refl
notes_by Mirrored code notes = refl

-- the code is longer by what was appended
pub appended_length : (a b : CodeBuf) (one : List Instr) (first : ℕ → List Note) → Appended a b one first
    → length b.code.items ≡ length a.code.items + length one
appended_length a b one first x = ap length x.code ∙ length-append a.code.items one
