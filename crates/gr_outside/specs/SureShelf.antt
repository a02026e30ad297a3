-- How contracts see a shelf in memory that never fails. (This project's profile.)
use Rattle.std.specs.Prelude.{ℕ, refl}
use Rattle.std.specs.Coded.{Coded, code_by, coded×, coded_ℕ}
use Rattle.gr_outside.specs.Shelf.{Files, files_code}

-- the files, and how many writes ran out of memory
pub record Kept : Type 0 where
  pub files : Files
  pub starved : ℕ

-- the ghost value that represents it: the tuple of its fields
abbrev pub kept_code : Coded Kept
kept_code =
    code_by (Files × ℕ) (coded× files_code coded_ℕ)
    (λ s. (s.files, s.starved))
    (λ p. record { files = p.0; starved = p.1 })
    (λ _. refl)
