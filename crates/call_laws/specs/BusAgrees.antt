-- What `bus` says is the same for inputs that agree on what is public. (GhostRider, ASPLOS 2015: memory-trace
-- obliviousness; here of all cores that share one bus.)
use Rattle.std.specs.Prelude.{◌≡◌, ℕ, ℤ, List}
use Rattle.gr_outside.specs.Shelf.{Files}
use Rattle.lt_isa.specs.Object.{Parts}
use Rattle.bus_arbiter.specs.Laws.{AllAgree, AllFit, AllOblivious}
use Rattle.bus_arbiter.specs.declared.shares.Share.{Share}
use Rattle.machine_verbs.specs.Bus.{shares_bus}
use Rattle.call_steps.specs.Work.{Ending, Holds, MayEnd, said_at}

-- Two calls have read oblivious objects, each with inputs, and the inputs of each object agree: both calls print the
-- same text and exit with the same status, for any files.
abbrev pub BusAgrees : Type 0
BusAgrees =
    (plan : List Share) (os : List Parts) (ds es : List (List (List ℤ))) (cycles : ℕ) → AllFit os ds → AllOblivious os
    → AllAgree os ds es → (files others : Files) (one other : Ending)
    → MayEnd (Holds files) (shares_bus cycles (record { plan = plan; objects = os; inputs = ds })) one
    → MayEnd (Holds others) (shares_bus cycles (record { plan = plan; objects = os; inputs = es })) other
    → said_at one ≡ said_at other
