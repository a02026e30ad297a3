use Rattle.std.proofs.Common.{◌≡◌, flat_map, string_bytes}
use Rattle.call_replies.specs.Prelude.{shown_char}
use Rattle.call_replies.proofs.name_text.without_hidden.Given as goal

abbrev pub invariant-loop-letter : goal.invariant-loop-letter
invariant-loop-letter l = string_bytes l.shown ≡ flat_map shown_char l.yielded
