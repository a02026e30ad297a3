-- A source text gives one program or one fault, so the work on it has one answer, but for the free choice of an object.
use Rattle.std.proofs.Common.{◌≡◌, ◌∙◌, ℕ, ℤ, Bool, List, inl, Option, Some, None, Result, Ok, Err, refl, sym, ap, subst}
use Rattle.std.specs.FinMap.{remove}
use Rattle.gr_outside.specs.Prelude.{Files, with_file}
use Rattle.gr_outside.proofs.WrittenFiles.{remove_with_file}
use Rattle.gr_word.specs.declared.variables.Want.{Want}
use Rattle.call_steps.specs.declared.targets.Target.{Target}
use Rattle.src_tree.specs.Prelude.{Source}
use Rattle.flow_types.specs.Prelude.{declared_wants}
use Rattle.call_replies.specs.declared.replies.Done.TheVariants.{Compiled}
use Rattle.call_replies.specs.declared.replies.InputFault.{InputFault}
use Rattle.call_replies.specs.declared.source_faults.SourceFault.{SourceFault}
use Rattle.call_steps.specs.Prelude.{compile_work, compiles_to, on_compiled, IsRight, WhatIsLeft, WhichCompiled, WhichInputs, WhichSource, nothing_seen, source_limit, input_limit, or_ends, with_source, with_variables, Asks, Ending, Holds, IsVerdict, IsWritten, MayEnd, Work, files_at, said_at}
use Rattle.call_laws.specs.Prelude.{evaluate_work, evaluates_on, on_left, AreOneBut, DoneBut, HasOneAnswerBut, OneAnswer, Same, Answers, AnswersSo, IsDone, NoAnswer}
use Rattle.call_replies.specs.Prelude.{Said, usage, wrote}
use Rattle.call_replies.specs.declared.replies.Verdict.TheVariants.{BadInput, BadSource}
use Rattle.call_laws.proofs.OneAnswers.{AnswerOf, Once, assemble-once, bus-once, check-once, disassemble-once, infer-once, one-answer, run-once, trace-once, answer-of, asks-once, ends-once, inputs-once, of-told, reads-once, same-ending, writes-once}
use Rattle.call_laws.proofs.OneRoom.{room-once, room-or-not}
use Rattle.call_laws.proofs.OneSourceFault.{source-once}

-- ---- steps, for any relation of endings

module _ (R : Ending → Ending → Type 0) (own : (ending : Ending) → R ending ending) (files : Files) where
  source-step : (procs : Bool) (name : List ℕ) (next : Source → Work) → ((p : Source) → Once R own files (next p))
      → Once R own files (with_source procs name next)
  source-step procs name next once =
      reads-once R own files name source_limit (λ text. Asks (WhichSource procs text) (or_ends BadSource next))
      (λ text. asks-once R own files (WhichSource procs text) (or_ends BadSource next) (source-once procs text)
      (λ a right. by a))
    where
      by : (a : Result Source SourceFault) → Once R own files (or_ends BadSource next a)
      by (Ok p) = once p
      by (Err fault) = ends-once R own files nothing_seen (BadSource fault)

  variables-step : (wants : List Want) (name : List ℕ) (next : List (List ℤ) → Work)
      → ((d : List (List ℤ)) → Once R own files (next d)) → Once R own files (with_variables wants name next)
  variables-step wants name next once =
      reads-once R own files name input_limit _ (λ json. asks-once R own files (WhichInputs wants json)
      (or_ends BadInput next) (inputs-once wants json) (λ a right. by a))
    where
      by : (a : Result (List (List ℤ)) InputFault) → Once R own files (or_ends BadInput next a)
      by (Ok d) = once d
      by (Err fault) = ends-once R own files nothing_seen (BadInput fault)

  evaluate-once : (source input output : List ℕ) (turns : ℕ) (procs : Bool)
      → Once R own files (evaluate_work source input output turns procs)
  evaluate-once source input output turns procs =
      source-step procs source _ (λ p. variables-step (declared_wants p.decls) input (evaluates_on output turns p)
      (λ d. asks-once R own files (WhatIsLeft p d turns) (on_left p output turns)
      (λ a b first second. sym first ∙ second) (λ a right. by p a)))
    where
      by : (p : Source) (left : Option (List (List ℤ))) → Once R own files (on_left p output turns left)
      by p (Some left) = writes-once R own files output _ _
      by p None = ends-once R own files nothing_seen _

-- ---- a compilation

-- two endings are one, or both wrote an object file to the output
data Alike (output : List ℕ) (one other : Ending) : Type 0 where
  Equal : one ≡ other → Alike output one other
  BothWrote : (a b : List ℕ) → one ≡ IsWritten output a Compiled → other ≡ IsWritten output b Compiled
      → Alike output one other

compiled-once : (files : Files) (output : List ℕ) (target : Target) (p : Source)
    → Once (Alike output) (λ ending. Equal refl) files (compiles_to output target p)
compiled-once files output target p one other first second =
    let a = of-told files (compiles_to output target p) one first in
    let b = of-told files (compiles_to output target p) other second in
    by a.0 b.0 a.1 b.1 a.2 b.2
  where
    by : (a b : Result (List ℕ) SourceFault) → IsRight (WhichCompiled p target) a → IsRight (WhichCompiled p target) b
        → MayEnd (Holds files) (on_compiled output a) one → MayEnd (Holds files) (on_compiled output b) other
        → Alike output one other
    by (Ok x) (Ok y) made made' comes comes' =
        BothWrote x y (of-told files (on_compiled output (Ok x)) one comes)
        (of-told files (on_compiled output (Ok y)) other comes')
    by (Ok x) (Err fault) made lacks comes comes' =
        absurd (room-or-not target.fast p target.profile.block_log lacks.0 fault made.room lacks.1 lacks.2)
    by (Err fault) (Ok x) lacks made comes comes' =
        absurd (room-or-not target.fast p target.profile.block_log lacks.0 fault made.room lacks.1 lacks.2)
    by (Err fault) (Err fault') lacks lacks' comes comes' =
        let same = room-once target.fast p target.profile.block_log lacks.0 lacks'.0 fault fault' lacks.1 lacks'.1 lacks.2
        lacks'.2 in
        Equal (of-told files (on_compiled output (Err fault)) one comes
        ∙ ap (λ (f : SourceFault). IsVerdict nothing_seen (BadSource f)) same
        ∙ sym (of-told files (on_compiled output (Err fault')) other comes'))

pub compile-answers : (source output : List ℕ) (target : Target) (procs : Bool)
    → HasOneAnswerBut output (compile_work source output target procs)
compile-answers source output target procs files said other left right first second =
    let work = compile_work source output target procs in
    let a = answer-of files (Some work) said left first work refl in
    let b = answer-of files (Some work) other right second work refl in
    by a b
    (source-step (Alike output) (λ ending. Equal refl) files procs source (compiles_to output target)
    (compiled-once files output target) a.ending b.ending a.comes b.comes)
  where
    written : (bytes : List ℕ) (left : Files) → left ≡ with_file output bytes files → remove left output ≡ remove files output
    written bytes left is = ap (λ (f : Files). remove f output) is ∙ remove_with_file output bytes files

    by : (a : AnswerOf files (compile_work source output target procs) said left)
        → (b : AnswerOf files (compile_work source output target procs) other right) → Alike output a.ending b.ending
        → AreOneBut output said other left right
    by a b (Equal same) =
        Same (a.is ∙ ap said_at same ∙ sym b.is) (a.leaves ∙ ap (λ (e : Ending). files_at e files) same ∙ sym b.leaves)
    by a b (BothWrote x y one two) =
        let done : said ≡ wrote Compiled = a.is ∙ ap said_at one in
        let done' : other ≡ wrote Compiled = b.is ∙ ap said_at two in
        DoneBut (subst (λ (s : Said). IsDone s.status) (sym done) (inl refl)) (done ∙ sym done')
        (ap (λ (f : Files). Some f)
        (written y right (b.leaves ∙ ap (λ (e : Ending). files_at e files) two)
        ∙ sym (written x left (a.leaves ∙ ap (λ (e : Ending). files_at e files) one))))

-- ---- all verbs

no-work : (files : Files) (asked : Option Work) (said : Said) (left : Files) → Answers files asked said left
    → asked ≡ None → (said ≡ usage) × (left ≡ files)
no-work files asked said left NoAnswer none = (refl, refl)
no-work files asked said left (AnswersSo work ending comes) none =
    absurd (let f : ◌≡◌ {A = Option Work} (Some work) None = none in cc)

pub one-answers : OneAnswer
one-answers = record {
  no_work = λ files said left answers. no-work files None said left answers refl;
  check = λ object. one-answer _ (λ files. check-once same-ending (λ ending. refl) files object);
  trace = λ object input cycles seed recursive.
      one-answer _ (λ files. trace-once same-ending (λ ending. refl) files object input cycles seed recursive);
  run = λ object input output cycles. one-answer _ (λ files. run-once same-ending (λ ending. refl) files object input output cycles);
  assemble = λ text output. one-answer _ (λ files. assemble-once same-ending (λ ending. refl) files text output);
  disassemble = λ object output. one-answer _ (λ files. disassemble-once same-ending (λ ending. refl) files object output);
  bus = λ pairs cycles. one-answer _ (λ files. bus-once same-ending (λ ending. refl) files pairs cycles);
  infer = λ object output. one-answer _ (λ files. infer-once same-ending (λ ending. refl) files object output);
  evaluate = λ source input output turns procs.
      one-answer _ (λ files. evaluate-once same-ending (λ ending. refl) files source input output turns procs);
  compile = compile-answers;
}
