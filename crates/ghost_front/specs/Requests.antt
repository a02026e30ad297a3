-- The calls that the front program handles itself: for help, for the version and for its path, and its own verbs.
use Rattle.std.specs.Prelude.{ℕ, Bool, false, not, ◌==◌, ◌&&◌, ◌||◌, List, [], ◌∷◌, if◌then◌else◌, codes}
use Rattle.std.specs.List.{before_first}
use Rattle.std.specs.Str.{bytes_eq}

-- the text before the first space
abbrev pub first_word : List ℕ → List ℕ
first_word text = before_first (λ byte. byte == 32) text

-- `--quiet` turns explanations and warnings off; `--json` prints them as lines of JSON
abbrev pub is_manner : List ℕ → Bool
is_manner word = bytes_eq word (codes "--quiet") || bytes_eq word (codes "--json")

-- the words of a call, without `--quiet` or `--json` before them
abbrev pub asked : List (List ℕ) → List (List ℕ)
asked [] = []
asked (word ∷ words) = if is_manner word then words else word ∷ words

abbrev pub is_help_option : List ℕ → Bool
is_help_option word = bytes_eq word (codes "--help") || bytes_eq word (codes "-h")

-- `--help` or `-h` is among the words before `--`
abbrev pub asks_help : List (List ℕ) → Bool
asks_help [] = false
asks_help (word ∷ words) = not (bytes_eq word (codes "--")) && (is_help_option word || asks_help words)

-- the first words of calls for help, for the version and for the program's path
abbrev pub is_about : List ℕ → Bool
is_about word =
    bytes_eq word (codes "help") || is_help_option word || bytes_eq word (codes "version")
    || bytes_eq word (codes "--version") || bytes_eq word (codes "-V") || bytes_eq word (codes "--which")

-- the words of a call that the front handles itself
abbrev pub asks_front : List (List ℕ) → Bool
asks_front [] = false
asks_front (word ∷ words) = is_about word || asks_help words

-- the verbs that the front does itself
abbrev pub is_tool : List ℕ → Bool
is_tool word =
    bytes_eq word (codes "diff")
    || bytes_eq word (codes "count")
    || bytes_eq word (codes "layout")
    || bytes_eq word (codes "listing")
    || bytes_eq word (codes "profile")
    || bytes_eq word (codes "test")
    || bytes_eq word (codes "expand")

-- the words of a call of one of these
abbrev pub asks_tool : List (List ℕ) → Bool
asks_tool [] = false
asks_tool (word ∷ words) = is_tool word
