-- How contracts see a shelf over another one that keeps a log of its calls. (This project's profile.)
use Rattle.std.specs.Prelude.{ℕ, nat_le, List, length, Option, Some, None, if◌then◌else◌, refl}
use Rattle.std.specs.Coded.{Coded, code_by, coded×, coded_ℕ, coded_list, coded_option}
use Rattle.gr_outside.specs.CallLog.{noted_code}
use Rattle.gr_outside.specs.Shelf.{Files, Noted, ShelfSeen, files_code}

-- the other shelf, the calls that were noted, and the most bytes that the name of an unread file may have to be visible
pub record Logged : Type 0 where
  pub shelf : ShelfSeen
  pub noted : Noted
  pub names : ℕ

-- the name of an unread file, if it is short enough
abbrev pub told_name : ℕ → List ℕ → Option (List ℕ)
told_name names name = if nat_le (length name) names then Some name else None

-- the ghost values that represent what is seen of a shelf, and the two with the log: the tuples of their fields
abbrev pub seen_code : Coded ShelfSeen
seen_code =
    code_by (Option Files × (ℕ × (ℕ × (ℕ × Option (List ℕ)))))
    (coded× (coded_option files_code)
    (coded× coded_ℕ (coded× coded_ℕ (coded× coded_ℕ (coded_option (coded_list coded_ℕ))))))
    (λ s. (s.files, (s.read_faults, (s.write_faults, (s.starved, s.unread)))))
    (λ p. record {
      files = p.0;
      read_faults = p.1.0;
      write_faults = p.1.1.0;
      starved = p.1.1.1.0;
      unread = p.1.1.1.1;
    })
    (λ _. refl)

abbrev pub logged_code : Coded Logged
logged_code =
    code_by (ShelfSeen × (Noted × ℕ)) (coded× seen_code (coded× noted_code coded_ℕ))
    (λ s. (s.shelf, (s.noted, s.names)))
    (λ p. record { shelf = p.0; noted = p.1.0; names = p.1.1 })
    (λ _. refl)
