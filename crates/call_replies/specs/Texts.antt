-- The last lines of the program, and their exit statuses (this project's profile).
use Rattle.std.specs.Prelude.{ℕ, true, false, List, [], ◌++◌, codes, decimal}
use Rattle.std.specs.Fmt.{signed_decimal}
use Rattle.object_file.specs.declared.errors.DecodeError.{DecodeError}
use Rattle.trace_patterns.specs.Reasons.{reason_number}
use Rattle.lt_assembler.specs.Words.{label_word}
use Rattle.lt_assembler.specs.declared.errors.AsmError.{AsmError}
use Rattle.bus_arbiter.specs.declared.errors.BusError.{BusError}
use Rattle.note_infer.specs.declared.faults.InferError.{InferError}
use Rattle.src_tree.specs.declared.faults.Which.{Which}
use Rattle.src_tree.specs.declared.faults.Which.TheVariants.{Variables, ArrayLength, TotalWords, Height, Weight}
use Rattle.call_replies.specs.declared.source_faults.SourceFault.{SourceFault}
use Rattle.call_replies.specs.declared.replies.InputFault.{InputFault}
use Rattle.call_replies.specs.declared.replies.Verdict.{Verdict}
use Rattle.call_replies.specs.declared.replies.Verdict.TheVariants.{Accepted, Traced, Malformed, Refused, BadSource, BadInput, Spent, BadAssembly, OffBus, Shared, NoNotes}
use Rattle.call_replies.specs.declared.replies.Done.{Done}
use Rattle.call_replies.specs.declared.replies.Done.TheVariants.{Halted, Assembled, Disassembled, Evaluated, Compiled, Sampled, Inferred}
use Rattle.call_replies.specs.declared.replies.Figures.{Figures}
use Rattle.call_replies.specs.declared.replies.Reply.{Reply}
use Rattle.object_file.specs.declared.errors.DecodeError.TheVariants as object
use Rattle.lt_assembler.specs.declared.errors.AsmError.TheVariants as text
use Rattle.bus_arbiter.specs.declared.errors.BusError.TheVariants as bus
use Rattle.note_infer.specs.declared.faults.InferError.TheVariants as notes
use Rattle.call_replies.specs.declared.source_faults.SourceFault.TheVariants as source
use Rattle.call_replies.specs.declared.replies.InputFault.TheVariants as input
use Rattle.call_replies.specs.declared.replies.Reply.TheVariants as reply

-- why a file doesn't encode an object, and where
-- Rule: call/object.
abbrev pub object_fault : DecodeError → List ℕ
object_fault (object.Truncated at) = codes "truncated " ++ decimal at
object_fault object.BadMagic = codes "magic"
object_fault (object.BadVersion version) = codes "version " ++ decimal version
object_fault (object.BadField at) = codes "field " ++ decimal at
object_fault (object.TrailingBytes at) = codes "trailing " ++ decimal at
object_fault object.Memory = codes "memory"

-- why a text isn't an object, and in which line
-- Rule: call/assembly.
abbrev pub text_fault : AsmError → List ℕ
text_fault (text.BadLine n) = codes "line " ++ decimal n
text_fault (text.BadNumber n) = codes "number " ++ decimal n
text_fault (text.UnknownName n) = codes "unknown " ++ decimal n
text_fault (text.TwiceNamed n) = codes "twice " ++ decimal n
text_fault (text.OverLimit n) = codes "limit " ++ decimal n
text_fault text.Memory = codes "memory"

-- what is wrong with a source text, and where: at a byte, a declaration, a statement, a procedure, a call; or which
-- limit is passed; or what lacks room
abbrev pub limit_name : Which → List ℕ
limit_name Variables = codes "variables"
limit_name ArrayLength = codes "length"
limit_name TotalWords = codes "words"
limit_name Height = codes "height"
limit_name Weight = codes "weight"

-- Rule: call/source.
abbrev pub source_fault : SourceFault → List ℕ
source_fault (source.Byte at) = codes "byte " ++ decimal at
source_fault (source.Number at) = codes "number " ++ decimal at
source_fault (source.Name at) = codes "name " ++ decimal at
source_fault (source.Unexpected at) = codes "unexpected " ++ decimal at
source_fault (source.Deep at) = codes "deep " ++ decimal at
source_fault source.End = codes "end"
source_fault (source.Twice n) = codes "twice " ++ decimal n
source_fault (source.Undeclared n) = codes "undeclared " ++ decimal n
source_fault (source.Shape n) = codes "shape " ++ decimal n
source_fault (source.Flow n) = codes "flow " ++ decimal n
source_fault (source.Index n) = codes "index " ++ decimal n
source_fault (source.Guard n) = codes "guard " ++ decimal n
source_fault (source.Loop n) = codes "loop " ++ decimal n
source_fault (source.Limit which n) = codes "limit " ++ limit_name which ++ codes " " ++ decimal n
source_fault (source.Scalars label) = codes "scalars " ++ label_word label
source_fault (source.BankFull bank) = codes "bank " ++ decimal bank
source_fault (source.ProcedureTwice n) = codes "procs twice " ++ decimal n
source_fault (source.ProcedureUndeclared n) = codes "procs undeclared " ++ decimal n
source_fault (source.CallUnknown n) = codes "procs unknown " ++ decimal n
source_fault (source.CallCount n) = codes "procs count " ++ decimal n
source_fault (source.CallArray n) = codes "procs array " ++ decimal n
source_fault source.CallsLarge = codes "procs large"

-- what is wrong with a file that gives no inputs; the name is its JSON text
-- Rule: call/input.
abbrev pub input_fault : InputFault → List ℕ
input_fault input.Json = codes "json"
input_fault input.Object = codes "object"
input_fault (input.Unknown name) = codes "unknown " ++ name
input_fault (input.Shape name) = codes "shape " ++ name
input_fault (input.Length name) = codes "length " ++ name
input_fault (input.Word name) = codes "word " ++ name

-- why the plan of a bus refuses an object as a core
-- Rule: call/bus.
abbrev pub bus_fault : ℕ → BusError → List ℕ
bus_fault core bus.NoWindow = codes "window " ++ decimal core
bus_fault core (bus.OtherPeriod period) = codes "period " ++ decimal core
bus_fault core (bus.TooLong end) = codes "long " ++ decimal core
bus_fault core (bus.Overlap other) = codes "overlap " ++ decimal other ++ codes " " ++ decimal core
bus_fault core bus.Memory = codes "memory"

-- why an object gets no notes
abbrev pub notes_fault : InferError → List ℕ
notes_fault (notes.Dead pc) = codes "dead " ++ decimal pc
notes_fault (notes.Refused pc reason) = codes "refused " ++ decimal pc ++ codes " " ++ decimal (reason_number reason)
notes_fault (notes.TooMany count) = codes "notes " ++ decimal count
notes_fault notes.Memory = codes "memory"

-- The line about a verb's own work, and its status: never 2 to 5, nor 11. A run of a bus has no line of its own: its
-- last lines are those of its cores.
-- Rules: call/refused, call/spent.
abbrev pub verdict_text : Verdict → List ℕ
verdict_text Accepted = codes "accepted\n"
verdict_text (Traced true) = codes "end halted\n"
verdict_text (Traced false) = codes "end spent\n"
verdict_text (Malformed fault) = codes "fault 6 object " ++ object_fault fault ++ codes "\n"
verdict_text (Refused pc reason) =
    codes "fault 7 refused " ++ decimal pc ++ codes " " ++ decimal (reason_number reason) ++ codes "\n"
verdict_text (BadSource fault) = codes "fault 8 source " ++ source_fault fault ++ codes "\n"
verdict_text (BadInput fault) = codes "fault 9 input " ++ input_fault fault ++ codes "\n"
verdict_text (Spent most) = codes "fault 10 spent " ++ decimal most ++ codes "\n"
verdict_text (BadAssembly fault) = codes "fault 12 assembly " ++ text_fault fault ++ codes "\n"
verdict_text (OffBus core cause) = codes "fault 13 bus " ++ bus_fault core cause ++ codes "\n"
verdict_text (Shared halted) = []
verdict_text (NoNotes why) = codes "fault 7 " ++ notes_fault why ++ codes "\n"

abbrev pub verdict_status : Verdict → ℕ
verdict_status Accepted = 0
verdict_status (Traced true) = 0
verdict_status (Traced false) = 10
verdict_status (Malformed fault) = 6
verdict_status (Refused pc reason) = 7
verdict_status (BadSource fault) = 8
verdict_status (BadInput fault) = 9
verdict_status (Spent most) = 10
verdict_status (BadAssembly fault) = 12
verdict_status (OffBus core cause) = 13
verdict_status (Shared true) = 0
verdict_status (Shared false) = 10
verdict_status (NoNotes why) = 7

-- the six lines of a sample, the last without its line feed
abbrev pub figures_text : Figures → List ℕ
figures_text f =
    codes "items " ++ (decimal f.items ++ (codes "\ncycles " ++ (decimal f.cycles ++ (codes "\nram " ++ (decimal f.ram
    ++ (codes "\neram "
    ++ (decimal f.eram ++ (codes "\noram2 " ++ (decimal f.oram2 ++ (codes "\nsum " ++ signed_decimal f.sum))))))))))

-- the line of a verb that wrote its file, or its lines
-- Rule: call/done.
abbrev pub done_text : Done → List ℕ
done_text (Halted at) = codes "halted " ++ decimal at
done_text Assembled = codes "assembled"
done_text Disassembled = codes "disassembled"
done_text Evaluated = codes "done"
done_text Compiled = codes "compiled"
done_text (Sampled figures) = figures_text figures
done_text (Inferred count) = codes "inferred " ++ decimal count

-- a status and its text
pub record Said : Type 0 where
  pub status : ℕ
  pub text : List ℕ

-- Rule: call/usage.
abbrev pub usage : Said
usage = record { status = 2; text = codes "fault 2 usage\n" }

-- Rule: call/read.
abbrev pub unread : List ℕ → Said
unread name = record { status = 3; text = codes "fault 3 read " ++ name ++ codes "\n" }

-- Rule: call/write.
abbrev pub unwritten : List ℕ → Said
unwritten name = record { status = 4; text = codes "fault 4 write " ++ name ++ codes "\n" }

-- Rule: call/memory.
abbrev pub no_memory : Said
no_memory = record { status = 5; text = codes "fault 5 memory\n" }

-- Rule: call/long.
abbrev pub too_long : List ℕ → ℕ → Said
too_long name limit = record {
  status = 11;
  text = codes "fault 11 long " ++ name ++ codes " " ++ decimal limit ++ codes "\n";
}

abbrev pub comes_to : Verdict → Said
comes_to verdict = record { status = verdict_status verdict; text = verdict_text verdict }

abbrev pub wrote : Done → Said
wrote done = record { status = 0; text = done_text done ++ codes "\n" }

-- the text of a reply
abbrev pub said : Reply → Said
said reply.Usage = usage
said (reply.Unread name) = unread name.now
said (reply.Unwritten name) = unwritten name.now
said reply.NoMemory = no_memory
said (reply.TooLong name limit) = too_long name.now limit
said (reply.Comes verdict) = comes_to verdict
said (reply.Wrote done) = wrote done
