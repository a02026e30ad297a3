-- The definitions that clauses and proofs above cite, passed on from one place. Declares nothing.
unfoldable pub use Rattle.call_laws.specs.Assemble.{assemble_work}
unfoldable pub use Rattle.call_laws.specs.BusAgrees.{BusAgrees}
unfoldable pub use Rattle.call_laws.specs.Calls.{CallsAsMeant, MeansItsCalls}
unfoldable pub use Rattle.call_laws.specs.Check.{check_work}
pub use Rattle.call_laws.specs.CompiledRuns.{RunsAsMeant}
unfoldable pub use Rattle.call_laws.specs.CompiledRuns.{CompiledRuns, IsStoreOf}
pub use Rattle.call_laws.specs.CompiledTexts.{TextsAsMeant}
unfoldable pub use Rattle.call_laws.specs.CompiledTexts.{CompiledTexts}
unfoldable pub use Rattle.call_laws.specs.Counting.{ShownAsOften, all_words, how_often}
unfoldable pub use Rattle.call_laws.specs.Disassemble.{disassemble_work}
unfoldable pub use Rattle.call_laws.specs.Evaluate.{evaluate_work, evaluates_on, on_left}
pub use Rattle.call_laws.specs.Core.{Compiles, Core, Evaluates, GivesInputs, HoldsAccepted, HoldsProgram, IsObjectOf, Progress, AreRunOptions}
unfoldable pub use Rattle.call_laws.specs.Core.{IsDoneOrStarved, SucceedsOrStarves}
pub use Rattle.call_laws.specs.Headline.{Headline}
pub use Rattle.call_laws.specs.More.{Assembles, CompilesFast, Disassembles, HidesLeaves, Infers, More, MoreProgress, Samples, Shares, SpellsForCalls}
unfoldable pub use Rattle.call_laws.specs.More.{AllHeld, SpellsProgram}
pub use Rattle.call_laws.specs.Watched.{HasRun, HoldsInputs, HoldsObject, HoldsOblivious, NameOutput, Runs, Traces, Watched}
unfoldable pub use Rattle.call_laws.specs.Watched.{done_status, with_output}
pub use Rattle.call_laws.specs.HeadlineFollows.{Tells}
unfoldable pub use Rattle.call_laws.specs.HeadlineFollows.{Fails, HasHeadline, HeadlineFollows}
unfoldable pub use Rattle.call_laws.specs.Infer.{infer_work, infers_to, on_inferred}
pub use Rattle.call_laws.specs.ReadBytes.{Gains}
unfoldable pub use Rattle.call_laws.specs.ReadBytes.{AreRead, HasReadBytes, ReadBytes, left_by}
pub use Rattle.call_laws.specs.OneAnswer.{AreOneBut, DoneBut, HoldRun, OneAnswer, OneSource, Same, SomeAnswer}
unfoldable pub use Rattle.call_laws.specs.OneAnswer.{AreBytes, HasOneAnswer, HasOneAnswerBut, HasSomeAnswer, TraceAgrees}
pub use Rattle.call_laws.specs.Promises.{Answers, AnswersSo, CallLaws, IsAnswered, IsCalm, IsCompiledFile, IsInferredFile, IsSafe, IsUnreadable, IsWrittenFor, NoAnswer, NoMemory, NoMemoryCut, OfAnswer, OnlyOutput, Promises, ReadFailed, StandsAtFour, UnreadCut, WriteFailed}
unfoldable pub use Rattle.call_laws.specs.Promises.{Gained, IsDone, IsOutput, PromisesFollow}
unfoldable pub use Rattle.call_laws.specs.Sample.{on_sampled, sample_work, samples_on}
unfoldable pub use Rattle.call_laws.specs.SampleTree.{sample_program, sample_turn}
unfoldable pub use Rattle.call_laws.specs.Verbs.{work_of, works}
