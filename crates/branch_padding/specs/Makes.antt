-- How running code changes stores, regardless of what is seen of it. (GhostRider, ASPLOS 2015: compiled code computes
-- what the source means.)
use Rattle.std.specs.Prelude.{List}
use Rattle.lt_isa.specs.declared.instructions.Instr.{Instr}
use Rattle.lt_isa.specs.Object.{Parts}
use Rattle.lt_isa.specs.Machine.{State, Observed}
use Rattle.stretches.specs.Coming.{RunsThrough}
use Rattle.src_tree.specs.Meaning.{Store}
use Rattle.block_cache_gen.specs.Homes.{Setting}
use Rattle.block_cache_gen.specs.Assignments.{Assigns}
use Rattle.block_cache_gen.specs.RunsOf.{BeginsCode}

-- code turns one store into another, at any place where what is known of the store holds
pub record Makes (f : Setting) (code : List Instr) (after : Store → Store) : Type 0 where
  pub runs : (o : Parts) (store : Store) (s : State) → BeginsCode o f store s code
      → (shown : List Observed) × RunsThrough o s code shown (Assigns f (after store))
