-- Whether a plan takes a share, and why not, worked out: what `PlanTakes` and `PlanRefuses` say. (This project's profile.)
use Rattle.std.specs.Prelude.{ℕ, ◌+◌, Bool, ◌&&◌, ◌==◌, nat_lt, if◌then◌else◌, List, [], ◌∷◌, Option, Some, None}
use Rattle.bus_arbiter.specs.declared.shares.Share.{Share}
use Rattle.bus_arbiter.specs.declared.errors.BusError.{BusError}
use Rattle.bus_arbiter.specs.declared.errors.BusError.TheVariants.{NoWindow, OtherPeriod, TooLong, Overlap}
use Rattle.bus_arbiter.specs.Shares.{end_of}

abbrev pub meets : Share → Share → Bool
meets s t = nat_lt s.opens (end_of t) && nat_lt t.opens (end_of s)

abbrev pub of_period : List Share → Share → Option BusError
of_period [] s = None
of_period (first ∷ rest) s = if first.period == s.period then None else Some (OtherPeriod first.period)

abbrev pub of_overlap : ℕ → List Share → Share → Option BusError
of_overlap c [] s = None
of_overlap c (t ∷ ts) s = if meets t s then Some (Overlap c) else of_overlap (c + 1) ts s

abbrev pub or_then : Option BusError → Option BusError → Option BusError
or_then None next = next
or_then (Some e) next = Some e

abbrev pub refusal : List Share → Share → Option BusError
refusal plan s =
    if s.period == 1 then Some NoWindow else or_then (of_period plan s)
    (if nat_lt s.period (end_of s) then Some (TooLong (end_of s)) else of_overlap 0 plan s)
