-- An outcome of the program over the shelf and the sink made here is one over the page's files.
use Rattle.std.proofs.Common.{◌≡◌, ℕ, List, [], Some, sym, subst}
use Rattle.gr_outside.specs.Prelude.{SinkSeen, Shelved, Held}
use Rattle.call_steps.specs.Prelude.{Outside, outside}
use Rattle.call_laws.specs.Prelude.{Promises, work_of}
use Rattle.ghost_page.specs.Prelude.{IsAnswered, IsFile, IsText, page_outside, page_shelf, shelf_seen, sink_seen, words_in}

-- what is seen of a sink with these bytes and this many faults
abbrev pub seen : List ℕ → ℕ → SinkSeen
seen bytes faults = record { held = Some bytes; faults = faults }

-- what the program promises of a call with these words, over what it begins with
abbrev pub Kept : List (List ℕ) → Shelved → List ℕ → ℕ → Outside → ℕ → Type 0
Kept words shelf bytes faults left answer =
    Promises (work_of words) (outside (shelf_seen shelf) (seen bytes faults)) left answer

-- equals in the place of what a call begins with, and of its status
moved : (lines program input : List ℕ) (words : List (List ℕ)) (before : Shelved) (bytes : List ℕ) (faults : ℕ)
    (left : Outside) (answer status : ℕ)
    → words ≡ words_in lines
    → before ≡ page_shelf program input
    → bytes ≡ []
    → faults ≡ 0
    → status ≡ answer
    → Kept words before bytes faults left answer
    → Promises (work_of (words_in lines)) (page_outside program input) left status
moved lines program input words before bytes faults left answer status by_words by_shelf by_bytes by_faults by_status
    kept =
    let one = subst (λ (x : List (List ℕ)). Kept x before bytes faults left answer) by_words kept in
    let two = subst (λ (x : Shelved). Kept (words_in lines) x bytes faults left answer) by_shelf one in
    let given = page_shelf program input in
    let three = subst (λ (x : List ℕ). Kept (words_in lines) given x faults left answer) by_bytes two in
    let four = subst (λ (x : ℕ). Kept (words_in lines) given [] x left answer) by_faults three in
    subst (λ (x : ℕ). Kept (words_in lines) given [] 0 left x) (sym by_status) four

pub answered : {text output : List ℕ} {written text_size output_size : ℕ}
    (lines program input : List ℕ) (words : List (List ℕ)) (before after : Shelved) (empty held : Held)
    (answer status : ℕ)
    → words ≡ words_in lines
    → before ≡ page_shelf program input
    → empty.bytes ≡ []
    → empty.faults ≡ 0
    → status ≡ answer
    → Kept words before empty.bytes empty.faults (outside (shelf_seen after) (sink_seen held)) answer
    → IsText held text text_size
    → IsFile after output written output_size
    → IsAnswered lines program input text output status written text_size output_size
answered lines program input words before after empty held answer status by_words by_shelf by_bytes by_faults by_status
    promises put left = record {
      shelf = after;
      sink = held;
      promises = moved lines program input words before empty.bytes empty.faults
          (outside (shelf_seen after) (sink_seen held)) answer status by_words by_shelf by_bytes by_faults by_status
          promises;
      put = put;
      left = left;
    }
