use Rattle.std.proofs.Common.{◌≡◌, ℕ, ◌≤◌, ◌&&◌, ◌++◌, length}
use Rattle.std.specs.List.{list_all}
use Rattle.json.specs.Json.{items, value, parse_map}
use Rattle.serde_json.specs.Data.{Items}
use Rattle.serde_json.specs.Read.{of_items, converted}
use Rattle.run_data.specs.Prelude.{list_of, is_word, words_listed}
use Rattle.run_data.proofs.members.read_items.Given as goal

abbrev pub invariant-items : goal.invariant-items
invariant-items l =
    (n : ℕ) × (f : Items → Items) × (length l.reader ≤ n)
    × (converted of_items (items (value l.depth) (length l.initial.reader) l.initial.reader)
    ≡ parse_map f (converted of_items (items (value l.depth) n l.reader)))
    × ((js : Items) → words_listed (list_of (f js)) ≡ l.words.items ++ words_listed (list_of js))
    × ((js : Items) → list_all is_word (list_of (f js)) ≡ (l.are_words && list_all is_word (list_of js)))
    × (length l.reader ≤ length l.initial.reader)

abbrev pub decreases-items : goal.decreases-items
decreases-items l = length l.reader
