-- What a sink gains in several calls.
use Rattle.std.proofs.Common.{◌≡◌, ℕ, List, [], ◌++◌, length, take, Option, Some, None, sym, subst, append-nil, append_assoc, arith}
use Rattle.std.specs.List.{All}
use Rattle.std.proofs.lemmas.List.{take_all}
use Rattle.std.proofs.lemmas.List.Elements.{All-append, All-nil, All-take}
use Rattle.gr_base.specs.Prelude.{Adds, AddsLess}
use Rattle.gr_base.proofs.Added.{Adds-then}
use Rattle.gr_outside.specs.Prelude.{SinkSeen}
use Rattle.fault_texts.specs.Plain.{IsPlain}
use Rattle.ghost_front.specs.Prelude.{Echoes, Gains, SaysPlain}

pub adds_nothing : (held : Option (List ℕ)) → Adds held held []
adds_nothing None = tt
adds_nothing (Some before) = sym (append-nil before)

pub gains_none : (now : SinkSeen) (text : List ℕ) → Gains now now text
gains_none now text = (0, adds_nothing now.held)

less : (before after : Option (List ℕ)) (text : List ℕ) → AddsLess before after text
    → (n : ℕ) × Adds before after (take n text)
less None None text adds = (0, tt)
less None (Some after) text adds = absurd adds
less (Some before) None text adds = (0, tt)
less (Some before) (Some after) text adds = (adds.0, adds.2)

pub gains_front : (before after : SinkSeen) (text : List ℕ) → AddsLess before.held after.held text
    → Gains before after text
gains_front before after text adds = less before.held after.held text adds

pub gains_all : (before mid after : SinkSeen) (text : List ℕ) → Adds before.held mid.held text
    → after.held ≡ mid.held → Gains before after text
gains_all before mid after text adds flushed = (
  length text,
  subst (λ held. Adds before.held held (take (length text) text)) (sym flushed)
      (subst (λ t. Adds before.held mid.held t) (sym (take_all (length text) text (omega arith))) adds),
)

pub says_nothing : (now : SinkSeen) → SaysPlain now now
says_nothing now = ([], All-nil IsPlain, adds_nothing now.held)

pub says_plain : (before after : SinkSeen) (text : List ℕ) → All IsPlain text → Gains before after text
    → SaysPlain before after
says_plain before after text plain gains = (take gains.0 text, All-take IsPlain gains.0 text plain, gains.1)

pub says_then : (before mid after : SinkSeen) → SaysPlain before mid → SaysPlain mid after → SaysPlain before after
says_then before mid after one other = (
  one.0 ++ other.0,
  All-append IsPlain one.0 other.0 one.1 other.1,
  Adds-then before.held mid.held after.held one.0 other.0 one.2 other.2,
)

pub echoes_nothing : (now : SinkSeen) (text : List ℕ) → Echoes now now text
echoes_nothing now text = (0, [], All-nil IsPlain, adds_nothing now.held)

pub echoes_text : (before after : SinkSeen) (text : List ℕ) → Gains before after text → Echoes before after text
echoes_text before after text gains =
    (gains.0, [], All-nil IsPlain, subst (λ t. Adds before.held after.held t) (sym (append-nil (take gains.0 text))) gains.1)

pub echoes_plain : (before after : SinkSeen) (text : List ℕ) → SaysPlain before after → Echoes before after text
echoes_plain before after text says = (0, says.0, says.1, says.2)

pub echoes_then : (before mid after : SinkSeen) (text : List ℕ) → Echoes before mid text → SaysPlain mid after
    → Echoes before after text
echoes_then before mid after text one other = (
  one.0,
  one.1 ++ other.0,
  All-append IsPlain one.1 other.0 one.2 other.1,
  subst (λ t. Adds before.held after.held t) (append_assoc (take one.0 text) one.1 other.0)
      (Adds-then before.held mid.held after.held (take one.0 text ++ one.1) other.0 one.3 other.2),
)

pub echoes_lines : (before after : SinkSeen) (text lines : List ℕ) → All IsPlain lines → Gains before after lines
    → Echoes before after text
echoes_lines before after text lines plain gains =
    echoes_plain before after text (says_plain before after lines plain gains)
