-- The words after a verb, as `clap` states them for the verb's command, and the numbers among them.
use Rattle.std.specs.Prelude.{◌≡◌, ℕ, Bool, true, false, ◌&&◌, nat_lt, nat_le, List, [], ◌∷◌, codes, length, map, Option, Some, None, option_and_then, if◌then◌else◌}
use Rattle.std.specs.Borrow.{Bor}
use Rattle.std.specs.Option.{option_map}
use Rattle.std.specs.Str.{bytes_eq}
use Rattle.std.specs.Str.Parse.{digits_value}
use Rattle.gr_base.specs.Numerals.{are_digits}
use Rattle.clap.specs.Words.{App, Row, Text, fault_of, found_of, matches_of, rows_of}
use Rattle.clap.specs.declared.parser.matches.ArgMatches.{ArgMatches}

-- the words of the command line as texts
abbrev pub texts : List (Bor (List ℕ)) → List (List ℕ)
texts words = map (λ word. word.now) words

-- what a command asks for where it takes the words, the verb first
abbrev pub none_wrong : {X : Type 0} → List X → Bool
none_wrong [] = true
none_wrong (x ∷ more) = false

unfoldable pub asked_by : {W : Type 0} → App → (List Row → Option W) → List Text → Option W
asked_by app asks words = if none_wrong (fault_of app words) then asks (matches_of app words) else None

-- the matches that were found where the command takes the words
abbrev pub IsFound : App → List Text → Option ArgMatches → Type 0
IsFound app words None = none_wrong (fault_of app words) ≡ false
IsFound app words (Some m) = (none_wrong (fault_of app words) ≡ true) × (rows_of (found_of m) ≡ matches_of app words)

-- the work on two names
abbrev pub two_named : {W : Type 0} → (List ℕ → List ℕ → W) → Option (List ℕ) → Option (List ℕ) → Option W
two_named work_on first second = option_and_then (λ name. option_map (work_on name) second) first

-- a number: one to 20 decimal digits, leading zeros allowed
abbrev pub is_option_number : List ℕ → Bool
is_option_number text = nat_lt 0 (length text) && (nat_le (length text) 20 && are_digits text)

-- the number of cycles or of turns that an option gives, 1,000,000,000 where it isn't there; from 1 to 4,294,967,295
abbrev pub usual_number : ℕ
usual_number = 1000000000

abbrev pub option_within : ℕ → ℕ → List ℕ → Option ℕ
option_within least most text =
    if is_option_number text && (nat_le least (digits_value 10 text) && nat_le (digits_value 10 text) most)
    then Some (digits_value 10 text) else None

abbrev pub number_given : Option (List ℕ) → Option ℕ
number_given None = Some usual_number
number_given (Some text) = option_within 1 4294967295 text

-- the logarithm of a block's words that an option gives, 9 where it isn't there; from 3 to 9
abbrev pub block_log_given : Option (List ℕ) → Option ℕ
block_log_given None = Some 9
block_log_given (Some text) = option_within 3 9 text

-- whether a flag is given, which is then said by the text `true`
abbrev pub flag_given : Option (List ℕ) → Bool
flag_given None = false
flag_given (Some text) = bytes_eq text (codes "true")

-- the seed of random words that an option gives, 0 where it isn't there; below 2^64
abbrev pub seed_given : Option (List ℕ) → Option ℕ
seed_given None = Some 0
seed_given (Some text) = option_within 0 18446744073709551615 text

-- the number of items that a word gives, from 1 to 65,536
abbrev pub items_given : List ℕ → Option ℕ
items_given text = option_within 1 65536 text
