-- The files of a call in which `-` is a standard stream: the other files, and `-` with the stream's bytes.
use Rattle.std.specs.Prelude.{ℕ, List, [], ◌∷◌, Option, Some, None, refl}
use Rattle.std.specs.Coded.{Coded, code_by, coded×, coded_ℕ, coded_list, coded_option}
use Rattle.std.specs.Option.{option_map}
use Rattle.std.specs.FinMap.{remove}
use Rattle.gr_outside.specs.Shelf.{Files, ShelfSeen, files_code, with_file}

-- the name `-`
abbrev pub dash : List ℕ
dash = 45 ∷ []

-- the files, with `-` replaced by the stream, or without `-` if there is no stream
abbrev pub overlaid : Option (List ℕ) → Files → Files
overlaid (Some bytes) files = with_file dash bytes files
overlaid None files = remove files dash

-- A shelf with streams, as contracts see it: the other files, if the shelf below tells them; what was read from standard
-- input; what is to go to standard output; and the counts of faults of the whole shelf.
pub record Streams : Type 0 where
  pub files : Option Files
  pub input : Option (List ℕ)
  pub output : Option (List ℕ)
  pub read_faults : ℕ
  pub write_faults : ℕ
  pub starved : ℕ

-- the stream that `-` names: the output once it is written, and the input before that
abbrev pub stream_of : Option (List ℕ) → Option (List ℕ) → Option (List ℕ)
stream_of input (Some bytes) = Some bytes
stream_of input None = input

-- the files as a call sees them, with `-` among them
abbrev pub told : Streams → Option Files
told s = option_map (overlaid (stream_of s.input s.output)) s.files

-- the shelf as a call sees it
abbrev pub as_shelf : Streams → ShelfSeen
as_shelf s = record {
  files = told s;
  read_faults = s.read_faults;
  write_faults = s.write_faults;
  starved = s.starved;
  unread = None;
}

-- a code for what is seen, as a value of contracts
abbrev pub streams_code : Coded Streams
streams_code =
    code_by (Option Files × (Option (List ℕ) × (Option (List ℕ) × (ℕ × (ℕ × ℕ)))))
    (coded× (coded_option files_code) (coded× (coded_option (coded_list coded_ℕ))
    (coded× (coded_option (coded_list coded_ℕ)) (coded× coded_ℕ (coded× coded_ℕ coded_ℕ)))))
    (λ s. (s.files, (s.input, (s.output, (s.read_faults, (s.write_faults, s.starved))))))
    (λ p. record {
      files = p.0;
      input = p.1.0;
      output = p.1.1.0;
      read_faults = p.1.1.1.0;
      write_faults = p.1.1.1.1.0;
      starved = p.1.1.1.1.1;
    })
    (λ _. refl)
