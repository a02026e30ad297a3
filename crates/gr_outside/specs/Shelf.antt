-- What a shelf holds: files by their names. (This project's profile.)
use Rattle.std.specs.Prelude.{◌≡◌, ℕ, ◌+◌, ◌-◌, Bool, true, false, ◌&&◌, nat_lt, nat_le, List, [], ◌∷◌, ◌++◌, length, take, Option, None, if◌then◌else◌}
use Rattle.std.specs.Option.{option_map, unwrap_or}
use Rattle.std.specs.Ordering.{nat_cmp}
use Rattle.std.specs.Cmp.Lexicographic.{slice_cmp}
use Rattle.std.specs.FinMap.{FinMap, get, insert, remove, code}
use Rattle.std.specs.Coded.{Coded, coded_ℕ, coded_list}

-- a finite map from names, as the bytes of their text, to contents
abbrev pub Files : Type 0
Files = FinMap {K = List ℕ} (slice_cmp nat_cmp) (List ℕ)

-- the ghost value that represents it
abbrev pub files_code : Coded Files
files_code = code (coded_list coded_ℕ) (coded_list coded_ℕ)

-- the first `most` bytes of a file, or all of them if it has fewer; none if there is no such file
abbrev pub front_of : Files → List ℕ → ℕ → Option (List ℕ)
front_of files name most = option_map (take most) (get files name)

-- the bytes are the contents of the file with the name, and all other files are as before
abbrev pub with_file : List ℕ → List ℕ → Files → Files
with_file name bytes files = insert files name bytes

-- all files but this one are as before, and the files are visible exactly if they were before
abbrev pub SameBut : List ℕ → Option Files → Option Files → Type 0
SameBut name before after =
    option_map (λ files. remove files name) after ≡ option_map (λ files. remove files name) before

-- how contracts see a shelf: its files, if they are visible; how many reads and writes failed; and how many writes ran
-- out of memory; the counts never fall, and stay at 2^64 - 1
pub record ShelfSeen : Type 0 where
  pub files : Option Files
  pub read_faults : ℕ
  pub write_faults : ℕ
  -- why: with it contracts say that status 5 after the write comes only from the write itself
  pub starved : ℕ
  pub unread : Option (List ℕ)

-- A call of a shelf: a write or a read, the name of its file, and the bytes that were written or returned. There are no
-- bytes if the call failed.
pub record ShelfCall : Type 0 where
  pub writes : Bool
  pub name : List ℕ
  pub bytes : Option (List ℕ)

abbrev pub read_of : List ℕ → Option (List ℕ) → ShelfCall
read_of name bytes = record { writes = false; name = name; bytes = bytes }

abbrev pub write_of : List ℕ → Option (List ℕ) → ShelfCall
write_of name bytes = record { writes = true; name = name; bytes = bytes }

-- The calls so far, in order, as long as they fit a room; how many more calls fit, and how many more bytes of their
-- names and contents.
pub record Noted : Type 0 where
  pub calls : Option (List ShelfCall)
  pub room : ℕ
  pub bytes : ℕ

-- how many bytes of the room a call takes
abbrev pub bytes_of : ShelfCall → ℕ
bytes_of call = length call.name + length (unwrap_or call.bytes [])

abbrev pub fits : ShelfCall → Noted → Bool
fits call noted = nat_lt 0 noted.room && nat_le (bytes_of call) noted.bytes

-- after a call: it is the last one if it fits, and otherwise the calls are dropped for good
abbrev pub after_note : ShelfCall → Noted → Noted
after_note call noted =
    if fits call noted
    then record {
      calls = option_map (λ calls. calls ++ call ∷ []) noted.calls;
      room = noted.room - 1;
      bytes = noted.bytes - bytes_of call;
    }
    else record { calls = None; room = 0; bytes = 0 }

-- The log of a shelf: which names' calls it keeps, and the calls.
pub record Log : Type 0 where
  pub keeps : List ℕ → Bool
  pub noted : Noted

-- the log of a shelf whose calls aren't visible
abbrev pub untold : Log
untold = record { keeps = λ _. true; noted = record { calls = None; room = 0; bytes = 0 } }

-- the log after a call
abbrev pub logged : ShelfCall → Log → Log
logged call log = if log.keeps call.name then record log { noted = after_note call log.noted } else log
