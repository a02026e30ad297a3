use Rattle.std.proofs.Common.{◌<◌, ◌-◌, [], get_or, vec_len, arith}
use Rattle.std.proofs.lemmas.List.Elements.{All-get_or}
use Rattle.lt_isa.specs.declared.symbols.Note.{Note}
use Rattle.lt_checker.proofs.NoteTables.{entry_more}
use Rattle.lt_checker.proofs.tables.table_of.Goals as goal

pub loop-index-preserved : goal.loop-index-preserved
loop-index-preserved c =
    let notes = c.args.notes.now in
    let table = c.loop-index.table in
    let i = c.loop-index.index - 1 in
    let d : Note = record { pc = 0; secrets = 0; slots = [] } in
    let inside : (get_or notes i d).pc < vec_len table = All-get_or (λ n. n.pc < vec_len table) notes i d
    (omega arith) c.loop-index.invariant.inside in
    record {
      inside = c.loop-index.invariant.inside;
      entries = λ p h. entry_more notes i c.loop-index.index (omega arith) table.items d (omega arith)
          (omega (arith, table.ok.0)) (λ q l. c.loop-index.invariant.entries q (omega (arith, table.ok.0))) p
          (omega (arith, table.ok.0));
    }
