use Rattle.std.proofs.Common.{subst, sym, ◌∙◌, IsTrue, arith}
use Rattle.gr_word.specs.Prelude.{is_name}
use Rattle.run_data.specs.Prelude.{HaveNames}
use Rattle.run_data.proofs.Shown.{names-insert_entry, fitting_length, member_put}
use Rattle.run_data.proofs.outputs.ordered_members.Goals as goal

pub words-requires : goal.words-requires
words-requires c = omega (arith, fitting_length c.args.wants.now c.args.values.now c.requires)

pub loop-i-preserved : goal.loop-i-preserved
loop-i-preserved c =
    let key = c.bytes.result in
    record {
      seen = member_put c.loop-i.members.entries _ key c.words.result c.index-wants-i.result c.args.wants.now
          c.args.values.now c.loop-i.i (omega arith)
          (omega (arith, fitting_length c.args.wants.now c.args.values.now c.requires)) c.in-Ok.ensures.entries
          c.index-wants-i.is c.bytes.ensures.bytes c.words.ensures
          ∙ c.loop-i.invariant.seen;
      names = subst HaveNames (sym c.in-Ok.ensures.entries)
          (names-insert_entry c.loop-i.members.entries key
          (c.index-wants-i.result.shape, c.words.result) c.loop-i.invariant.names
          (subst (λ name. IsTrue (is_name name)) (sym c.bytes.ensures.bytes) c.bytes.ensures.fits));
    }
