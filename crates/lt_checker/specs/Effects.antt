-- For the proofs and for private clauses only: the check's results for a place as the definitions have them. In the
-- code what is known is stored separately, once.
use Rattle.std.specs.Prelude.{ℕ}
use Rattle.lt_isa.specs.Ranges.{IsOffset}
use Rattle.trace_patterns.specs.declared.reasons.Reason.{Reason}
use Rattle.trace_patterns.specs.Known.{Known}
use Rattle.lt_checker.specs.declared.rules.Ruling.{Ruling}
use Rattle.lt_checker.specs.declared.effects.Refusal.{Refusal}
use Rattle.lt_checker.specs.declared.effects.Entry.{Entry}
use Rattle.lt_checker.specs.declared.effects.Effect.{Effect}
use Rattle.lt_checker.specs.declared.effects.Effect.TheVariants.{Refused, Falls, Leaves, Joins, Stuck}
use Rattle.lt_checker.specs.declared.effects.Arrival.{Arrival}
use Rattle.lt_checker.specs.declared.effects.Arrival.TheVariants.{Unreached, Here, Inside}
use Rattle.trace_patterns.specs.Rules as rule
use Rattle.lt_checker.specs.ByPlace as place
use Rattle.lt_checker.specs.declared.rules.Ruling.TheVariants as told
use Rattle.lt_checker.specs.declared.effects.Entry.TheVariants as entry

-- the ruling on an instruction after which this is known
abbrev pub ruled : Ruling → Known → rule.Ruling
ruled (told.Refused reason) k = rule.Refused reason
ruled told.Falls k = rule.Falls k
ruled told.Leaves k = rule.Leaves
ruled (told.Opens offset) k = rule.Opens offset

-- a claim about a branch on a secret
abbrev pub WhereItOpens : Ruling → Type 0 → Type 0
WhereItOpens (told.Opens offset) claim = claim
WhereItOpens other claim = Unit {0}

-- the offset of a ruling that opens a region is an instruction's offset
abbrev pub OffsetFits : rule.Ruling → Type 0
OffsetFits (rule.Opens offset) = IsOffset offset
OffsetFits other = Unit {0}

-- the result for a place that was entered, from the result for a visited place at which this is known
abbrev pub on_entered : Entry → Known → (Known → place.Effect) → place.Effect
on_entered (entry.Refused reason) k go = place.Refused reason
on_entered (entry.Passes join) k go = place.Joins join k
on_entered entry.Enters k go = go k

-- the result for a place, if this is known at the next place that is reached
abbrev pub made : Effect → Known → place.Effect
made (Refused reason) k = place.Refused reason
made Falls k = place.Falls k
made Leaves k = place.Leaves
made (Joins join) k = place.Joins join k
made (Stuck at reason) k = place.Stuck at reason

-- how a place is reached, if this is known there or at the join of its region
abbrev pub arrived : Arrival → Known → place.Arrival
arrived Unreached k = place.Unreached
arrived Here k = place.Here k
arrived (Inside join) k = place.Inside join k

-- a place that is refused, and why
abbrev pub refused : Refusal → ℕ × Reason
refused r = (r.pc, r.reason)
