-- The definitions that clauses and proofs above cite, passed on from one place. Declares nothing.
unfoldable pub use Rattle.lt_checker.specs.Answers.{IsRefusalOf}
pub use Rattle.lt_checker.specs.ByPlace.{Arrival, Effect, Falls, Here, Inside, IsFirstFound, Joins, Leaves, Refused, Stuck, Unreached}
unfoldable pub use Rattle.lt_checker.specs.ByPlace.{NoneBelow, arrival_at, crossing_at, effect_at, effect_from, effect_of, entered, joined_at, on_entry, reached_at, refusal_at, refusal_in}
unfoldable pub use Rattle.lt_checker.specs.Effects.{arrived, refused}
unfoldable pub use Rattle.lt_checker.specs.Tables.{IsEntry}
