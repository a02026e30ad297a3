use Rattle.std.proofs.Common.{◌-◌, ◌++◌, ◌∙◌, ap, sym, subst, arith, length, take, drop, length-take}
use Rattle.std.proofs.lemmas.List.{take-take}
use Rattle.std.proofs.Math.Seq.{take-add}
use Rattle.std.specs.Io.KnownBytes.{Appends}
use Rattle.std.proofs.KnownBytes.{Appends-trans, Appends-kept}
use Rattle.real_outside.proofs.sink.write_front.Goals.{in-Ok, in-Err}
use Rattle.real_outside.proofs.sink.write_front.Goals as goal

-- what was written follows what was written before
pub loop-turn-preserved : goal.loop-turn-preserved
loop-turn-preserved g c =
    let xs = c.args.bytes.now in
    let done = c.loop-turn.count in
    let before = c.loop-turn.invariant in
    elim c.match-write.branch [
      | in-Ok w ↦
          let n = w.in-Ok.more in
          let fits = w.in-Ok.ensures.bound in
          let most = length-take (length xs - done) (drop done xs) in
          let joined =
          ap (λ l. take done xs ++ l) (take-take n (length xs - done) (drop done xs) (omega (arith, fits, most)))
          ∙ sym (take-add done n xs) in
          rw w.count-is
          (omega (arith, fits, most, before.0), subst (Appends _ _) joined (Appends-trans _ _ _ _ _ before.1 w.in-Ok.ensures.bytes))
      | in-Err w ↦ rw w.count-is (before.0, Appends-kept _ _ _ _ before.1 w.in-Err.ensures.bytes)
    ]
