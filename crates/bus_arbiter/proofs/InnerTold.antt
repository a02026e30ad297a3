-- What a machine's watcher hears in one call and in a whole run, as transfers of its core.
use Rattle.std.proofs.Common.{◌≡◌, ℕ, Bool, true, false, List, [], ◌∷◌, ◌++◌, refl, sym, ap, ◌∙◌, subst}
use Rattle.std.proofs.lemmas.Bool.{false≢true}
use Rattle.lt_isa.specs.Prelude.{Observed, RamRead, RamWrite, EncRead, EncWrite, Oram, Halted, seen_at}
use Rattle.processor.specs.Prelude.{events_in-append, WatcherTold, AnEvent, APath, events_in}
use Rattle.bus_arbiter.specs.Prelude.{moves_of, torn_at, torn_by, FailedAt, Transfer, moved_by, transfer_of, transfers_of}
use Rattle.bus_arbiter.proofs.TransferLists.{transfers_of-append}

-- ---- one call

-- an event that is a transfer
abbrev pub is_transfer : Observed → Bool
is_transfer Halted = false
is_transfer other = true

one-transfer : (core at : ℕ) (seen : Observed) → is_transfer seen ≡ true
    → transfer_of core at seen ≡ moved_by core at seen ∷ []
one-transfer core at Halted is = absurd (false≢true is)
one-transfer core at other is = refl

-- a transfer was heard
pub event-heard : (heard : List Transfer → Type 0) (core at : ℕ) (seen : Observed) → is_transfer seen ≡ true
    → heard (moved_by core at seen ∷ []) → heard (moves_of core (AnEvent (seen_at at seen) ∷ []))
event-heard heard core at seen is hears =
    subst heard (sym (ap (λ l. l ++ []) (one-transfer core at seen is))) hears

-- a halt was heard, which isn't a transfer
pub halt-heard : (heard : List Transfer → Type 0) (core at : ℕ) (seen : Observed) → seen ≡ Halted → heard []
    → heard (moves_of core (AnEvent (seen_at at seen) ∷ []))
halt-heard heard core at seen is none = subst heard (sym (ap (λ e. transfer_of core at e ++ []) is)) none

-- ---- a whole run

-- what tears a core's watcher is a transfer
front-torn : (torn : Transfer → Type 0) (core at : ℕ) (event : Observed) → torn_at torn core at event
    → (transfer_of core at event ≡ moved_by core at event ∷ []) × torn (moved_by core at event)
front-torn torn core at Halted is = absurd is
front-torn torn core at other is = (refl, is)

-- a watcher that failed at something failed at a transfer
pub fails-at : {W : Type 0} (hears : W → List Transfer → W → Type 0) (before now : W) (torn : Transfer → Type 0)
    (core : ℕ) (shown told : List WatcherTold) (next : WatcherTold) (rest : List WatcherTold)
    → shown ≡ told ++ next ∷ rest → hears before (moves_of core told) now → torn_by torn core next
    → FailedAt hears before now torn (moves_of core shown)
fails-at hears before now torn core shown told (APath stamp bank leaves) rest front heard at = absurd at
fails-at hears before now torn core shown told (AnEvent e) rest front heard at =
    let found = front-torn torn core e.stamp e.event at in
    record {
      told = moves_of core told;
      next = moved_by core e.stamp e.event;
      rest = moves_of core rest;
      front =
          ap (moves_of core) front
          ∙ ap (transfers_of core) (events_in-append told (AnEvent e ∷ rest))
          ∙ transfers_of-append core (events_in told) (e ∷ events_in rest)
          ∙ ap (λ l. moves_of core told ++ (l ++ moves_of core rest)) found.0;
      heard = heard;
      at = found.1;
    }
