-- Where the variables of a program are stored that is compiled with `--fast`, and the layout of its object: its block
-- size, its banks, and a symbol for each variable at its place, in order of bank and place. (This project's profile.)
use Rattle.std.specs.Prelude.{ℕ}
use Rattle.lt_isa.specs.Object.{Parts}
use Rattle.src_tree.specs.Trees.{Source}
use Rattle.bank_alloc.specs.Layout.{IsLaidOut}
use Rattle.scratch_alloc.specs.Plans.{Plan}
use Rattle.resident_alloc.specs.ResidentPlan.{resident_plan}
use Rattle.spread_alloc.specs.Spread.{spread_plan}

-- the plan of its memory, where a block has 2^w words: that with resident variables, and then with spread arrays
unfoldable pub fast_plan : Source → ℕ → Plan
fast_plan p w = spread_plan w (resident_plan p w)

abbrev pub HasFastLayout : Source → ℕ → Parts → Type 0
HasFastLayout p w o = IsLaidOut p w (fast_plan p w).places (fast_plan p w).blocks o
