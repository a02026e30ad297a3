-- Transfers on a bus that several cores share: each is an event of a core's run, and lasts from its stamp on for the
-- latency of its bank. (This project's profile.)
use Rattle.std.specs.Prelude.{◌≢◌, ℕ, ◌+◌, ◌<◌, ◌≤◌, ◌==◌, ◌↔◌, nat_lt, if◌then◌else◌, List, [], ◌∷◌, ◌++◌, length, slice_index_or, Contains}
use Rattle.lt_isa.specs.Machine.{Observed, RamRead, RamWrite, EncRead, EncWrite, Oram, Halted}
use Rattle.lt_isa.specs.Object.{Parts, latency_of}
use Rattle.lt_isa.specs.Trace.{Stamped, seen_at}

pub record Transfer : Type 0 where
  pub core : ℕ
  pub stamp : ℕ
  pub event : Observed

abbrev pub moved_by : ℕ → ℕ → Observed → Transfer
moved_by core at event = record { core = core; stamp = at; event = event }

-- the transfer that an event of a core is; a halt is none
-- Rule: bus/access.
abbrev pub transfer_of : ℕ → ℕ → Observed → List Transfer
transfer_of core at (RamRead block words) = moved_by core at (RamRead block words) ∷ []
transfer_of core at (RamWrite block words) = moved_by core at (RamWrite block words) ∷ []
transfer_of core at (EncRead block) = moved_by core at (EncRead block) ∷ []
transfer_of core at (EncWrite block) = moved_by core at (EncWrite block) ∷ []
transfer_of core at (Oram bank) = moved_by core at (Oram bank) ∷ []
transfer_of core at Halted = []

-- the transfers of a core whose run shows these events
abbrev pub transfers_of : ℕ → List Stamped → List Transfer
transfers_of core [] = []
transfers_of core (e ∷ es) = transfer_of core e.stamp e.event ++ transfers_of core es

-- those of one core among some transfers
abbrev pub of_core : ℕ → List Transfer → List Transfer
of_core core [] = []
of_core core (t ∷ ts) = if t.core == core then t ∷ of_core core ts else of_core core ts

-- the bank that a transfer goes to or comes from
abbrev pub bank_used : Observed → ℕ
bank_used (EncRead block) = 1
bank_used (EncWrite block) = 1
bank_used (Oram bank) = bank
bank_used other = 0

-- the transfer of a core with this object is on the bus in this cycle
pub record IsDuring (o : Parts) (t : Transfer) (cycle : ℕ) : Type 0 where
  pub begun : t.stamp ≤ cycle
  pub unended : cycle < t.stamp + latency_of o (bank_used t.event)

-- each stamp is above those before it
abbrev pub Rise : List Transfer → Type 0
Rise [] = Unit {0}
Rise (t ∷ ts) = ((later : Transfer) → Contains ts later → t.stamp < later.stamp) × Rise ts

-- a transfer is in the trace of its core
pub record IsTransferIn (traces : List (List Stamped)) (t : Transfer) : Type 0 where
  pub core : t.core < length traces
  pub shown : Contains (slice_index_or traces t.core []) (seen_at t.stamp t.event)
  pub no_halt : t.event ≢ Halted

-- The joined list of some cores' traces: stamps rise, and its members are the transfers in the traces.
pub record IsJoined (traces : List (List Stamped)) (joined : List Transfer) : Type 0 where
  pub rises : Rise joined
  pub each : (t : Transfer) → Contains joined t ↔ IsTransferIn traces t

-- The joined list, computed: all transfers, each inserted by its stamp.
abbrev pub all_transfers : ℕ → List (List Stamped) → List Transfer
all_transfers k [] = []
all_transfers k (es ∷ traces) = transfers_of k es ++ all_transfers (k + 1) traces

abbrev pub inserted : Transfer → List Transfer → List Transfer
inserted t [] = t ∷ []
inserted t (u ∷ us) = if nat_lt t.stamp u.stamp then t ∷ u ∷ us else u ∷ inserted t us

abbrev pub ordered_transfers : List Transfer → List Transfer
ordered_transfers [] = []
ordered_transfers (t ∷ ts) = inserted t (ordered_transfers ts)

abbrev pub joined_of : List (List Stamped) → List Transfer
joined_of traces = ordered_transfers (all_transfers 0 traces)
