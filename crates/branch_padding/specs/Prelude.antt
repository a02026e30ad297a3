-- The definitions that clauses and proofs above cite, passed on from one place. Declares nothing.
unfoldable pub use Rattle.branch_padding.specs.AfterStatements.{after, behind_loop, within_loop}
pub use Rattle.branch_padding.specs.Branches.{IsBranchFor}
unfoldable pub use Rattle.branch_padding.specs.Branches.{IsPassedAsBranch, code_for}
pub use Rattle.branch_padding.specs.Cycles.{cycles_of, cycles_of_all}
unfoldable pub use Rattle.branch_padding.specs.Cycles.{added, most_slack, quiet_cost, quiet_cycles, region_cycles, slack_between, slack_by, slack_of}
pub use Rattle.branch_padding.specs.Effects.{effect_of, effect_of_block}
pub use Rattle.branch_padding.specs.EmittedBranches.{PartsFit}
unfoldable pub use Rattle.branch_padding.specs.EmittedBranches.{EmitsBranch, EmitsChoice, IsChoice, both_weights, choice_of}
pub use Rattle.branch_padding.specs.Makes.{Makes}
pub use Rattle.branch_padding.specs.Nesting.{nesting_of, nesting_of_block}
pub use Rattle.branch_padding.specs.Padded.{padded_code, padded_codes}
unfoldable pub use Rattle.branch_padding.specs.Padded.{arm_mode, first_arm, first_of, first_padded, idle, in_a_row, region_code, second_arm, second_of, second_padded, taken_arm, untaken_arm}
pub use Rattle.branch_padding.specs.PatternsOfChoices.{shows_of, shows_of_each, slots_of, slots_of_each}
unfoldable pub use Rattle.branch_padding.specs.PatternsOfChoices.{both_rests, loaded_in_a_row, mirrored_loads, mirrored_shows, padded_loads, padded_shows, pattern_of_region, shown_in_a_row, shows_of_region, slots_of_arms}
pub use Rattle.branch_padding.specs.Regions.{NestsRegion, OpensRegion}
unfoldable pub use Rattle.branch_padding.specs.Regions.{IsRegionOf}
unfoldable pub use Rattle.branch_padding.specs.Rows.{HaveWords, row_between}
pub use Rattle.branch_padding.specs.SecretChoices.{PassedCode}
unfoldable pub use Rattle.branch_padding.specs.SecretChoices.{IsPassedAnywhere, IsWalkedAsStatement}
pub use Rattle.branch_padding.specs.Stores.{stores_of, stores_of_each}
unfoldable pub use Rattle.branch_padding.specs.Stores.{added_up, arms_stores, choice_stores}
