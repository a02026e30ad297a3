-- The notes that were found are the least.
use Rattle.std.proofs.Common.{◌∙◌, sym, subst, arith}
use Rattle.trace_patterns.specs.Prelude.{Accepts}
use Rattle.note_infer.proofs.Inferring.{least_found, found_in_range, why_refused, none_would}
use Rattle.note_infer.proofs.inference.accepted_with.Goals as goal

pub overflow_cast-result : goal.overflow_cast-result
overflow_cast-result c =
    omega (arith, c.len-then-len-gt-MOST_NOTES.ensures, c.requires.noted.few, c.requires.range.code_size.1)

pub returns-then-len-gt-MOST_NOTES-clause-why : goal.returns-then-len-gt-MOST_NOTES-clause-why
returns-then-len-gt-MOST_NOTES-clause-why c = record {
  notes = c.args.notes.items;
  least = least_found c.args.object.now c.args.notes.items c.requires;
  many = omega (arith, c.len.ensures, c.if-len-gt-MOST_NOTES.true);
  is = omega (arith, c.len-then-len-gt-MOST_NOTES.ensures);
}

pub copy_with-requires : goal.copy_with-requires
copy_with-requires c = λ range.
    found_in_range c.args.object.now c.args.notes.items c.requires (omega
    (arith, c.len.ensures, c.if-len-gt-MOST_NOTES.false))

pub returns-in-Ok-check-clause-found : goal.returns-in-Ok-check-clause-found
returns-in-Ok-check-clause-found c = record {
  notes = c.args.notes.items;
  least = least_found c.args.object.now c.args.notes.items c.requires;
  few = omega (arith, c.len.ensures, c.if-len-gt-MOST_NOTES.false);
  is = c.into_object.ensures.object ∙ c.in-Ok-check.ensures.object ∙ c.in-Ok.ensures;
  accepts = subst Accepts (sym c.into_object.ensures.object) c.into_object.ensures.accepts;
}

pub returns-in-Err-check-clause-why : goal.returns-in-Err-check-clause-why
returns-in-Err-check-clause-why c =
    why_refused c.args.object.now c.in-Ok.whole c.args.notes.items c.in-Err-check.error c.why_refused.result
    c.in-Ok.ensures c.requires (omega (arith, c.len.ensures, c.if-len-gt-MOST_NOTES.false))
    c.in-Err-check.ensures.refused c.why_refused.ensures

pub returns-in-Err-check-clause-suffices : goal.returns-in-Err-check-clause-suffices
returns-in-Err-check-clause-suffices c =
    none_would c.args.object.now c.in-Ok.whole c.args.notes.items c.in-Err-check.error c.why_refused.result
    c.in-Ok.ensures c.requires c.in-Err-check.ensures.refused c.why_refused.ensures
