use Rattle.ghost_front.proofs.verb_table.verb_help.Given as goal

abbrev pub invariant-loop-verb : goal.invariant-loop-verb
invariant-loop-verb l = Unit {0}
