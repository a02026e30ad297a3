-- The files of a list, as a map from names to contents. (This project's profile.)
use Rattle.std.specs.Prelude.{ℕ, Bool, true, not, ◌&&◌, List, [], ◌∷◌, map}
use Rattle.std.specs.List.{list_any}
use Rattle.std.specs.Str.{bytes_eq}
use Rattle.std.specs.FinMap.{from_entries}
use Rattle.gr_outside.specs.declared.files.File.{File}
use Rattle.gr_outside.specs.Shelf.{Files}

-- a file's name and contents
abbrev pub entry_of : File → List ℕ × List ℕ
entry_of file = (file.name.items, file.bytes.items)

-- the map of a list of files
abbrev pub files_of : List File → Files
files_of files = from_entries (map entry_of files)

-- the file has this name
abbrev pub is_named : List ℕ → File → Bool
is_named name file = bytes_eq name file.name.items

-- the names of the files all differ
abbrev pub are_distinct : List File → Bool
are_distinct [] = true
are_distinct (file ∷ files) = not (list_any (is_named file.name.items) files) && are_distinct files
