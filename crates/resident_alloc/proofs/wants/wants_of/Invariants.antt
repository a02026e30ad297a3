use Rattle.std.proofs.Common.{◌≡◌, map, take}
use Rattle.bank_alloc.specs.Prelude.{class_of}
use Rattle.src_tree.specs.Prelude.{words_of, source_of}
use Rattle.resident_alloc.proofs.wants.wants_of.Given as goal

abbrev pub invariant-loop-i : goal.invariant-loop-i
invariant-loop-i l =
    l.wants.items
    ≡ map (λ d. record { class = class_of (source_of l.p) d; words = words_of d }) (take l.i l.decls)
