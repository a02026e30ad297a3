-- The definitions that clauses and proofs above cite, passed on from one place. Declares nothing.
unfoldable pub use Rattle.spread_alloc.specs.Spread.{blocks_in, free_among, free_slots, is_free, is_long, last_bank, may_move, may_spread, pinned_from, place_behind, serves_other, spread_blocks, spread_each, spread_one, spread_over, spread_place, spread_plan, spread_slots, spread_turn, without_empty_banks}
pub use Rattle.spread_alloc.specs.SpreadFits.{PlanFits}
