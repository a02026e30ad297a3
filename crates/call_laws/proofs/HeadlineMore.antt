-- What the headline says of the verbs and options besides those of its core.
use Rattle.std.proofs.Common.{◌≡◌, inl, ℕ, Bool, true, false, List, [], ◌∷◌, codes, Some, refl, sym, ap, ◌∙◌, subst}
use Rattle.std.proofs.lemmas.Option.{same_Some}
use Rattle.gr_outside.specs.Prelude.{Files}
use Rattle.lt_assembler.specs.Prelude.{canonical}
use Rattle.object_file.specs.Prelude.{spelling}
use Rattle.trace_patterns.specs.Prelude.{Accepts}
use Rattle.call_replies.specs.declared.replies.Done.TheVariants.{Assembled, Disassembled}
use Rattle.command_words.specs.Prelude.{AreTexts, Call, Part, Text, has_flag}
use Rattle.command_words.specs.declared.verbs.Verb.TheVariants.{Assemble, Compile, Disassemble, Evaluate, Run, Sample, Trace}
use Rattle.call_steps.specs.Histogram.{sample_target}
use Rattle.call_steps.specs.Prelude.{HasLayoutFor, Holds, Writes, files_at}
use Rattle.call_laws.specs.Prelude.{Assembles, Compiles, CompilesFast, Disassembles, Evaluates, HidesLeaves, IsDone, IsSafe, Samples, SpellsProgram, assemble_work, disassemble_work, work_of, works}
use Rattle.call_laws.proofs.Behind.{behind-it}
use Rattle.call_laws.proofs.CountedLeaves.{shown_as_often}
use Rattle.call_laws.proofs.DoneWork.{assembled-on, spelled-on}
use Rattle.call_laws.proofs.HeadlineCalls.{Called, asked, asked-by, done-ending, ended}
use Rattle.call_laws.proofs.HeadlineVerbs.{compiled, compiled-program, evaluated, run-safe, safe-object, trace-safe, written-is}
use Rattle.call_laws.proofs.SampleFiles.{sample-of}
use Rattle.command_words.proofs.VerbWords.{words-ask}

hides-leaves : (files : Files) (object : Text) → IsSafe files object → HidesLeaves files object
hides-leaves files object safe = record {
  o = safe.o;
  held = safe-object files object safe;
  alike = safe.leaves;
  often = shown_as_often safe.o safe.spells.in_range safe.oblivious;
}

module _ (words : List Text) (files afterwards : Files) (put : List ℕ) (status : ℕ)
    (called : Called words files afterwards put status) where
  pub compiled-with : (procs : Bool) (source output : Text) (parts : List Part)
      → Call words Compile (source ∷ output ∷ []) parts → has_flag (codes "procs") parts ≡ procs
      → status ≡ 0 → Compiles Accepts (SpellsProgram procs) files afterwards source output parts
  compiled-with procs source output parts call is zero =
      subst (λ (b : Bool). Compiles Accepts (SpellsProgram b) files afterwards source output parts) is
      (compiled words files afterwards put status called source output parts call zero).of

  pub evaluated-with : (procs : Bool) (source input output : Text) (parts : List Part)
      → Call words Evaluate (source ∷ input ∷ output ∷ []) parts → has_flag (codes "procs") parts ≡ procs
      → IsDone status → Evaluates (SpellsProgram procs) files afterwards source input output parts status
  evaluated-with procs source input output parts call is done =
      subst (λ (b : Bool). Evaluates (SpellsProgram b) files afterwards source input output parts status) is
      (evaluated words files afterwards put status called source input output parts call done)

  pub compiled-fast : (source output : Text) (parts : List Part)
      → Call words Compile (source ∷ output ∷ []) parts → has_flag (codes "fast") parts ≡ true
      → status ≡ 0 → CompilesFast Accepts (has_flag (codes "procs") parts) files afterwards source output parts
  compiled-fast source output parts call is zero =
      let found = compiled words files afterwards put status called source output parts call zero in
      record {
        of = found.of;
        layout = subst (λ (b : Bool). HasLayoutFor b found.of.object.p found.of.block_log found.of.object.o) is
            found.layout;
      }

  pub assembled : (text output : Text) (parts : List Part) → Call words Assemble (text ∷ output ∷ []) parts
      → status ≡ 0 → Assembles files afterwards text output
  assembled text output parts call zero =
      let end = ended words files afterwards put status called (inl zero) (assemble_work text output)
      (asked-by words files afterwards put status called (codes "asm") call.more call.are _ (words-ask works).assemble
      (assemble_work text output)
      (record { first = text; second = output; parts = parts; says = call.says; is = refl })) in
      let found = assembled-on files end.ending
      (done-ending words files afterwards put status called (inl zero) _ end) text
      (λ o. Writes output (spelling o) Assembled) end.comes in
      let is = behind-it (Holds files) (Writes output (spelling found.o) Assembled) end.ending found.comes in
      record {
        lines = found.text;
        there = found.there;
        o = found.o;
        spells = found.spells;
        found = record {
          bytes = spelling found.o;
          there = written-is output (spelling found.o) files afterwards (end.leaves ∙ ap (λ e. files_at e files) is);
          spells = record { in_range = found.spells.in_range; spelled = refl };
        };
      }

  pub disassembled : (object output : Text) (parts : List Part)
      → Call words Disassemble (object ∷ output ∷ []) parts → status ≡ 0
      → Disassembles files afterwards object output
  disassembled object output parts call zero =
      let end = ended words files afterwards put status called (inl zero) (disassemble_work object output)
      (asked-by words files afterwards put status called (codes "dis") call.more call.are _
      (words-ask works).disassemble (disassemble_work object output)
      (record { first = object; second = output; parts = parts; says = call.says; is = refl })) in
      let found = spelled-on files end.ending
      (done-ending words files afterwards put status called (inl zero) _ end) object
      (λ o. Writes output (canonical o) Disassembled) end.comes in
      let is = behind-it (Holds files) (Writes output (canonical found.o) Disassembled) end.ending found.comes in
      record {
        o = found.o;
        held = record { bytes = found.bytes; there = found.there; spells = found.spells };
        written = written-is output (canonical found.o) files afterwards (end.leaves ∙ ap (λ e. files_at e files) is);
      }

  pub sampled : (names : List Text) (parts : List Part) → Call words Sample names parts
      → status ≡ 0 → Samples Accepts words afterwards
  sampled names parts call zero =
      let work = asked words files afterwards put status called (inl zero) (codes "sample") call.more call.are in
      let says = ((words-ask works).sample call.more work.0 (subst AreTexts call.are called.texts).1).0 work.1 in
      let fast = has_flag (codes "fast") says.parts in
      let made = sample-of called.promises.explained fast says.items says.output
      (ap work_of call.are ∙ work.1 ∙ ap Some says.is) zero files called.tells.told in
      let file = made.2 in
      record {
        number = says.number;
        output = says.output;
        parts = says.parts;
        call = record { more = call.more; are = call.are; says = says.says };
        items = says.items;
        given = says.items_are;
        bytes = file.bytes;
        written = written-is says.output file.bytes files afterwards
            (same_Some afterwards made.0 (sym called.tells.left ∙ made.1) ∙ file.written);
        object = compiled-program false _ file.p (sample_target fast) file.bytes file.spells file.compiled;
      }

  pub traced-leaves : (object input : Text) (parts : List Part)
      → Call words Trace (object ∷ input ∷ []) parts → IsDone status → HidesLeaves files object
  traced-leaves object input parts call done =
      hides-leaves files object (trace-safe words files afterwards put status called object input parts call done)

  pub run-leaves : (object input output : Text) (parts : List Part)
      → Call words Run (object ∷ input ∷ output ∷ []) parts → IsDone status → HidesLeaves files object
  run-leaves object input output parts call done =
      hides-leaves files object (run-safe words files afterwards put status called object input output parts call done)
