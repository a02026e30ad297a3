use Rattle.run_data.proofs.TraceReading.{plain-read}
use Rattle.run_data.proofs.trace_lines.read_plain.Goals as goal

pub returns-then-same : goal.returns-then-same
returns-then-same c =
    let found = rw c.in-Some-2.is at c.in_ok-words.ensures in
    plain-read 114 c.args.bank.now c.args.way.now c.args.block.now c.args.words.now c.in-Some.block
    c.in-Some-2.words.items c.new.result c.if-not-same.ensures c.if-same.ensures
    c.in-Some.ensures.some found c.new.ensures

pub returns-then-same-2 : goal.returns-then-same-2
returns-then-same-2 c =
    let found = rw c.in-Some-2.is at c.in_ok-words.ensures in
    plain-read 119 c.args.bank.now c.args.way.now c.args.block.now c.args.words.now c.in-Some.block
    c.in-Some-2.words.items c.new-then-same-2.result c.if-not-same.ensures c.if-same-2.ensures c.in-Some.ensures.some
    found c.new-then-same-2.ensures
