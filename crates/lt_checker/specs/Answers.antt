-- What the check returns if it has no accepted object.
use Rattle.std.specs.Prelude.{◌≡◌}
use Rattle.lt_isa.specs.Object.{Parts}
use Rattle.lt_checker.specs.declared.checks.CheckError.{CheckError}
use Rattle.lt_checker.specs.declared.checks.CheckError.TheVariants.{Refused, Memory}
use Rattle.trace_patterns.specs.Accepts.{Accepts, FirstRefusal}

-- a refusal is the first one of the object, which isn't accepted then; out of memory says nothing
abbrev pub IsRefusalOf : Parts → CheckError → Type 0
IsRefusalOf o (Refused pc reason object) = FirstRefusal o pc reason × ¬ Accepts o
IsRefusalOf o (Memory object) = Unit {0}

-- the object is returned as it was
abbrev pub HandsBack : Parts → CheckError → Type 0
HandsBack o (Refused pc reason object) = object ≡ o
HandsBack o (Memory object) = object ≡ o
