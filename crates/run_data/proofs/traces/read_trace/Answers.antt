use Rattle.std.proofs.Common.{◌≡◌, ℕ, length, take, ◌-◌, ⊎_elim, sym, ap, ◌∙◌, arith, ◌^◌, Option, Some, None}
use Rattle.std.proofs.lemmas.List.{length-map, length-take-le}
use Rattle.run_data.specs.Prelude.{file_events, stamped_in, SpellsTrace, BreaksAt, contents, break_of}
use Rattle.run_data.proofs.TraceEnds.{whole-trace, breaks-at}
use Rattle.run_data.proofs.TraceSizes.{number_fits}
use Rattle.run_data.proofs.TraceUnique.{same-trace}
use Rattle.run_data.proofs.TraceWhole.{Reading, reading, parts_some, break_is}
use Rattle.run_data.proofs.traces.read_trace.Goals.{After-break_at}
use Rattle.run_data.proofs.traces.read_trace.Goals as goal

pub slice_bounds-read_events-count : goal.slice_bounds-read_events-count
slice_bounds-read_events-count c =
    omega (
      arith,
      parts_some c.args.text.now c.in_ok-parts.parts.items c.in_ok-parts.ensures,
      c.deref.ensures.len,
      ap length c.deref.ensures.value,
      c.len.ensures,
    )

pub break_at-requires : goal.break_at-requires
break_at-requires c =
    let file = c.in_ok-file.file in
    let items = c.in_ok-parts.parts.items in
    let some = parts_some c.args.text.now items c.in_ok-parts.ensures in
    let lines =
    length-take-le (c.len.result - 1) c.deref.result.now (omega (arith, c.len.ensures, c.deref.ensures.len)) in
    omega (
      arith,
      c.in_ok-file.ensures.within,
      length-map (take (c.len.result - 1) c.deref.result.now) (λ part. part.now),
      lines,
      length-map file.lines.items stamped_in,
      c.len-2.ensures,
      file.lines.ok.0,
      c.len.ensures,
      c.deref.ensures.len,
      ap length c.deref.ensures.value,
      ap length c.deref-2.ensures.value,
      some,
    )

-- the lines were read as events as far as they begin a trace
read : (c : After-break_at)
    → Reading (2 ^ c.args.block_log) c.args.text.now (contents c.in_ok-parts.parts.items)
    (file_events c.in_ok-file.file)
    c.in_ok-file.file.halted
read c =
    reading (2 ^ c.args.block_log) c.args.text.now c.in_ok-parts.parts.items c.deref.result.now c.len.result
    c.in_ok-file.file c.in_ok-parts.ensures c.deref.ensures.value (c.len.ensures ∙ sym c.deref.ensures.len)
    (rw c.block_size-size.ensures.value at c.in_ok-file.ensures)

-- where the text breaks
breaks : (c : After-break_at) (found : Option ℕ)
    → c.break_at.result ≡ found
    → break_of (contents c.in_ok-parts.parts.items) (length (file_events c.in_ok-file.file)) c.in_ok-file.file.halted
    ≡ found
breaks c found is =
    sym (break_is c.in_ok-parts.parts.items c.deref-2.result.now c.len-2.result c.in_ok-file.file
    c.deref-2.ensures.value (c.len-2.ensures ∙ c.in_ok-file.file.lines.ok.0)) ∙ sym c.break_at.ensures ∙ is

whole : (c : After-break_at)
    → c.break_at.result ≡ None
    → SpellsTrace (2 ^ c.args.block_log) c.args.text.now (file_events c.in_ok-file.file) c.in_ok-file.file.halted
whole c none =
    let r = read c in
    whole-trace (2 ^ c.args.block_log) c.args.text.now (contents c.in_ok-parts.parts.items)
    (file_events c.in_ok-file.file) c.in_ok-file.file.halted r.split r.some r.run (breaks c None none)

broken : (c : After-break_at) (line : ℕ)
    → c.break_at.result ≡ Some line → BreaksAt (2 ^ c.args.block_log) c.args.text.now line
broken c line is =
    let r = read c in
    breaks-at (2 ^ c.args.block_log) c.args.text.now (contents c.in_ok-parts.parts.items)
    (file_events c.in_ok-file.file) c.in_ok-file.file.halted line r.split r.some r.run (breaks c (Some line) is)

pub returns-in-None-clause-read : goal.returns-in-None-clause-read
returns-in-None-clause-read c = whole (goal.at.returns-in-None-clause-read c).After-break_at c.in-None.is

pub returns-in-None-clause-exactly : goal.returns-in-None-clause-exactly
returns-in-None-clause-exactly c = λ events halted spells.
    same-trace (2 ^ c.args.block_log) c.args.text.now (file_events c.in_ok-file.file) events c.in_ok-file.file.halted
    halted (whole (goal.at.returns-in-None-clause-exactly c).After-break_at c.in-None.is) spells

pub overflow_cast-result : goal.overflow_cast-result
overflow_cast-result c =
    let place = (goal.at.overflow_cast-result c).After-break_at in
    let r = read place in
    let short = c.requires.short in
    record {
      fits = ⊎_elim (λ one. omega (arith, one)) (λ few. omega (arith, few, short))
          (number_fits (2 ^ c.args.block_log) c.args.text.now (contents c.in_ok-parts.parts.items)
          (file_events c.in_ok-file.file) c.in_ok-file.file.halted c.in-Some.line r.split r.some r.run
          (breaks place (Some c.in-Some.line) c.in-Some.is));
    }

pub returns-clause-exactly : goal.returns-clause-exactly
returns-clause-exactly c = λ events halted spells.
    absurd
    ((broken (goal.at.returns-clause-exactly c).After-break_at c.in-Some.line c.in-Some.is).spells_none events halted
    spells)

pub returns-clause-breaks : goal.returns-clause-breaks
returns-clause-breaks c = broken (goal.at.returns-clause-breaks c).After-break_at c.in-Some.line c.in-Some.is
