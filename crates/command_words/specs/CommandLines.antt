-- The words after a verb as people write them: names in their order, options with a value, and flags, in any order.
-- (The usual conventions: POSIX, Utility Syntax Guidelines; GNU, long options.)
use Rattle.std.specs.Prelude.{◌≡◌, ◌≢◌, ◌⊎◌, ℕ, Bool, false, ◌||◌, List, [], ◌∷◌, ◌++◌, map, codes, Option, Some, None, if◌then◌else◌}
use Rattle.std.specs.Str.{IsUtf8, bytes_eq}

abbrev pub Text : Type 0
Text = List ℕ

-- words that are texts
abbrev pub AreTexts : List Text → Type 0
AreTexts [] = Unit {0}
AreTexts (word ∷ words) = IsUtf8 word × AreTexts words

-- a word that isn't an option: it doesn't begin with a hyphen, or is a single hyphen
abbrev pub IsPlain : Text → Type 0
IsPlain [] = Unit {0}
IsPlain (c ∷ []) = Unit {0}
IsPlain (c ∷ d ∷ more) = c ≢ 45

-- what words say: a name, an option with its value, a flag
pub data Part : Type 0 where
  AName : (name : Text) → Part
  AnOption : (option value : Text) → Part
  AFlag : (flag : Text) → Part

-- an option by its name, one of some names
abbrev pub IsAmong : List Text → Text → Type 0
IsAmong [] name = ⊥
IsAmong (x ∷ more) name = (name ≡ x) ⊎ IsAmong more name

-- Words that consist of these parts, given these options and flags. An option's value follows `=` in the same word, or
-- is the next word, which then isn't an option. After `--` all words are names.
pub data IsLine (options flags : List Text) : List Text → List Part → Type 0 where
  Ended : IsLine options flags [] []
  Named : (word : Text) (words : List Text) (parts : List Part) → IsPlain word
      → IsLine options flags words parts → IsLine options flags (word ∷ words) (AName word ∷ parts)
  Joined : (option value : Text) (words : List Text) (parts : List Part) → IsAmong options option
      → IsLine options flags words parts
      → IsLine options flags ((codes "--" ++ (option ++ (codes "=" ++ value))) ∷ words) (AnOption option value ∷ parts)
  Apart : (option value : Text) (words : List Text) (parts : List Part) → IsAmong options option → IsPlain value
      → IsLine options flags words parts
      → IsLine options flags ((codes "--" ++ option) ∷ value ∷ words) (AnOption option value ∷ parts)
  Flagged : (flag : Text) (words : List Text) (parts : List Part) → IsAmong flags flag
      → IsLine options flags words parts
      → IsLine options flags ((codes "--" ++ flag) ∷ words) (AFlag flag ∷ parts)
  Behind : (words : List Text) → IsLine options flags (codes "--" ∷ words) (map AName words)

-- ---- what parts say

-- the names, in order
abbrev pub names_in : List Part → List Text
names_in [] = []
names_in (AName name ∷ parts) = name ∷ names_in parts
names_in (AnOption option value ∷ parts) = names_in parts
names_in (AFlag flag ∷ parts) = names_in parts

-- the value of an option, if it is there, and whether a flag is
abbrev pub value_in : Text → List Part → Option Text
value_in name [] = None
value_in name (AName other ∷ parts) = value_in name parts
value_in name (AnOption option value ∷ parts) = if bytes_eq option name then Some value else value_in name parts
value_in name (AFlag flag ∷ parts) = value_in name parts

abbrev pub has_flag : Text → List Part → Bool
has_flag name [] = false
has_flag name (AName other ∷ parts) = has_flag name parts
has_flag name (AnOption option value ∷ parts) = has_flag name parts
has_flag name (AFlag flag ∷ parts) = bytes_eq flag name || has_flag name parts

-- no option and no flag occurs twice, given those that occur before
abbrev pub AreOnce : List Text → List Part → Type 0
AreOnce before [] = Unit {0}
AreOnce before (AName name ∷ parts) = AreOnce before parts
AreOnce before (AnOption option value ∷ parts) = (IsAmong before option → ⊥) × AreOnce (option ∷ before) parts
AreOnce before (AFlag flag ∷ parts) = (IsAmong before flag → ⊥) × AreOnce (flag ∷ before) parts

-- The words after a verb say these names and parts, if the verb has these options and flags. Each option and flag is
-- there at most once.
pub record Says (options flags words names : List Text) (parts : List Part) : Type 0 where
  pub line : IsLine options flags words parts
  pub once : AreOnce [] parts
  pub are : names_in parts ≡ names

-- the options of verbs that run objects, and of `compile`
abbrev pub run_options : List Text
run_options = codes "cycles" ∷ codes "seed" ∷ []

abbrev pub compile_options : List Text
compile_options = codes "block-log" ∷ codes "window" ∷ []

-- these names are adjacent: options and flags come before the first and after the last, and none between two of them
pub record StandTogether (names : List Text) (parts : List Part) : Type 0 where
  pub before : List Part
  pub after : List Part
  pub are : parts ≡ before ++ (map AName names ++ after)
  pub none_before : names_in before ≡ []
  pub none_after : names_in after ≡ []
