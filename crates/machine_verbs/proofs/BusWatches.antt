-- The bytes of a sink to which a watcher of a bus writes the lines of transfers.
use Rattle.std.proofs.Common.{◌≡◌, ℕ, ◌<◌, true, false, List, [], ◌∷◌, ◌++◌, length, Option, Some, None, sym, ap, ◌∙◌, subst, arith, length-append}
use Rattle.std.proofs.lemmas.List.{append-nil}
use Rattle.std.proofs.lemmas.Grind.{flat_map-append}
use Rattle.std.specs.Prelude.{codes, decimal}
use Rattle.gr_base.specs.Prelude.{Adds, AddsLess}
use Rattle.lt_isa.specs.Prelude.{Observed}
use Rattle.processor.specs.Prelude.{TellsMore}
use Rattle.run_data.specs.Prelude.{event_line, event_text}
use Rattle.bus_arbiter.specs.Prelude.{Transfer}
use Rattle.call_steps.specs.Prelude.{halt_text, transfer_line, transfer_lines}
use Rattle.machine_verbs.specs.Prelude.{Grows, HoldsLines, HoldsTransfers, TearsTransfer}
use Rattle.machine_verbs.proofs.PutLines.{cut_at_next, line_held}

-- ---- no line is empty

pub line-some : (stamp : ℕ) (event : Observed) → 0 < length (event_line stamp event)
line-some stamp event = omega (arith, length-append (decimal stamp ++ codes " " ++ event_text event) (codes "\n"))

pub halt-some : (halt : Option ℕ) → 0 < length (halt_text halt)
halt-some None = omega arith
halt-some (Some at) = omega (arith, length-append (codes " halted " ++ decimal at) (codes "\n"))

transfer-some : (t : Transfer) → 0 < length (transfer_line t)
transfer-some t =
    omega (
      arith,
      length-append (decimal t.core ++ codes " ") (event_line t.stamp t.event),
      line-some t.stamp t.event,
    )

-- ---- one transfer more

lines-more : (told : List Transfer) (t : Transfer)
    → transfer_lines (told ++ t ∷ []) ≡ transfer_lines told ++ transfer_line t
lines-more told t = flat_map-append transfer_line told (t ∷ [])
    ∙ ap (λ l. transfer_lines told ++ l) (append-nil (transfer_line t))

pub transfer_told : (before now : Option (List ℕ)) (start stop mark : ℕ) (t : Transfer)
    → Adds before now (transfer_line t)
    → TellsMore (HoldsTransfers before start stop true) (HoldsTransfers now start mark true) (t ∷ [])
transfer_told before now start stop mark t added told lines =
    subst (HoldsLines now start mark true) (sym (lines-more told t))
    (line_held before now start stop mark (transfer_line t) added (transfer_lines told) lines)

-- ---- a whole run

pub transfers_cut : (before now : Option (List ℕ)) (start stop stop' : ℕ) (joined told : List Transfer)
    (next : Transfer) (rest : List Transfer) → joined ≡ told ++ next ∷ rest
    → HoldsLines before start stop true [] → Grows before now
    → TellsMore (HoldsTransfers before start stop true) (HoldsTransfers now start stop' false) told
    → TearsTransfer now stop' next → AddsLess before now (transfer_lines joined)
transfers_cut (Some b) (Some n) start stop stop' joined told next rest front made grew heard torn =
    subst (AddsLess (Some b) (Some n))
    (sym (ap transfer_lines front ∙ flat_map-append transfer_line told (next ∷ rest)))
    (cut_at_next b n start stop stop' (transfer_lines told) (transfer_line next) (transfer_lines rest)
    (transfer-some next) made grew.0 grew.1 (heard [] made) torn)
transfers_cut (Some b) None start stop stop' joined told next rest front made grew heard torn = tt
transfers_cut None (Some n) start stop stop' joined told next rest front made grew heard torn = absurd grew
transfers_cut None None start stop stop' joined told next rest front made grew heard torn = tt
