-- The setting for which code is made at each place of a block of public code: the setting at the beginning of the
-- block, with the ranges of scalars that are known at that place. (This project's compiler.)
use Rattle.gr_word.specs.declared.variables.Label.{Label}
use Rattle.gr_word.specs.declared.variables.Label.TheVariants.{Public, Secret}
use Rattle.src_tree.specs.Trees.{Test, Statement, Block}
use Rattle.scalar_ranges.specs.Known.{after_statement, forgotten_block, inside}
use Rattle.block_cache_gen.specs.Homes.{Setting, ranged}

-- after a statement
abbrev pub after : Setting → Statement → Setting
after f s = ranged f (after_statement f.decls f.ranges s)

-- in the body of a loop, by what is known before the loop
abbrev pub within_loop : Setting → Test → Block → Setting
within_loop f t a = ranged f (inside f.decls f.ranges t a)

-- at the guard of a loop, which is reached from before the loop and from its body
abbrev pub behind_loop : Setting → Block → Setting
behind_loop f a = ranged f (forgotten_block f.decls f.ranges a)

-- Secret code assigns no public scalars, and ranges are known only of these: there it is the same at each place.
abbrev pub after_in : Label → Setting → Statement → Setting
after_in Public f s = after f s
after_in Secret f s = f

abbrev pub within_loop_in : Label → Setting → Test → Block → Setting
within_loop_in Public f t a = within_loop f t a
within_loop_in Secret f t a = f
