-- How contracts see a shelf in memory that fails at chosen calls. (This project's profile.)
use Rattle.std.specs.Prelude.{ℕ, List, if◌then◌else◌, refl}
use Rattle.std.specs.Coded.{Coded, code_by, coded×, coded_ℕ, coded_list}
use Rattle.gr_outside.specs.Shelf.{Files, files_code, with_file}
use Rattle.gr_base.specs.Calls.{Calls, next_fails, after_call, one_more}

-- the files; the calls, both reads and writes; how many of each kind failed; and how many writes ran out of memory
pub record Shelved : Type 0 where
  pub files : Files
  pub calls : Calls
  pub read_faults : ℕ
  pub write_faults : ℕ
  pub starved : ℕ

-- the ghost value that represents it: the tuple of its fields
abbrev pub shelved_code : Coded Shelved
shelved_code =
    code_by (Files × (List ℕ × (ℕ × (ℕ × (ℕ × ℕ)))))
    (coded× files_code (coded× (coded_list coded_ℕ) (coded× coded_ℕ (coded× coded_ℕ (coded× coded_ℕ coded_ℕ)))))
    (λ s. (s.files, (s.calls.failing, (s.calls.next, (s.read_faults, (s.write_faults, s.starved))))))
    (λ p. record {
      files = p.0;
      calls = record { failing = p.1.0; next = p.1.1.0 };
      read_faults = p.1.1.1.0;
      write_faults = p.1.1.1.1.0;
      starved = p.1.1.1.1.1;
    })
    (λ _. refl)

-- after a read: one more call and, if the call was to fail, one more failed read
abbrev pub after_read : Shelved → Shelved
after_read shelf = record shelf {
  calls = after_call shelf.calls;
  read_faults = if next_fails shelf.calls then one_more shelf.read_faults else shelf.read_faults;
}

-- after a write that changed no file: it was to fail, or it ran out of memory
abbrev pub after_refused_write : Shelved → Shelved
after_refused_write shelf = record shelf {
  calls = after_call shelf.calls;
  write_faults = if next_fails shelf.calls then one_more shelf.write_faults else shelf.write_faults;
  starved = if next_fails shelf.calls then shelf.starved else one_more shelf.starved;
}

-- after a write that succeeded
abbrev pub after_write : List ℕ → List ℕ → Shelved → Shelved
after_write name bytes shelf = record shelf {
  files = with_file name bytes shelf.files;
  calls = after_call shelf.calls;
}
