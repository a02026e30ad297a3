-- For private clauses only: the parser's own types as the proofs see them.
use Rattle.std.specs.Prelude.{map, Option, Some, None}
use Rattle.src_lexer.specs.declared.tokens.Kind.{Kind}
use Rattle.src_parser.specs.Grammar.{limits}
use Rattle.src_parser.specs.Seen.{among, heading_of, outers_of, phase_of, reading_of}
use Rattle.src_parser.specs.Tokenwise.{Advance}
use Rattle.procs_tree.specs.declared.trees.PStmt.{PStmt}
use Rattle.procs_tree.specs.Seen.{statement_of, trees_of, parameter_of, procedure_of}
use Rattle.procs_parser.specs.Calls.{CallPhase, Opened, Argument, Called, CallState, InCall, CallStep, Still, Done}
use Rattle.procs_parser.specs.FileAdvances.{HeadPhase, Opening, NoneYet, OneMore, ScalarLabelled, ScalarTyped, ArrayTyped, ArrayTitled, ArrayClosing, Behind, AllRead, LocalFresh, LocalLabelled, LocalTyped, LocalTitled, Front, Outside, InProcedure, ParserState, Between, Declaring, Naming, Doing, Calling, names_next}
use Rattle.procs_parser.specs.declared.states.CallPhase as call_phases
use Rattle.procs_parser.specs.declared.states.CallPhase.TheVariants as call_phase
use Rattle.procs_parser.specs.declared.states.CallAdvance as call_advances
use Rattle.procs_parser.specs.declared.states.CallAdvance.TheVariants as call_advance
use Rattle.procs_parser.specs.declared.states.Mode as modes
use Rattle.procs_parser.specs.declared.states.Mode.TheVariants as mode
use Rattle.procs_parser.specs.declared.states.HeadPhase as head_phases
use Rattle.procs_parser.specs.declared.states.HeadPhase.TheVariants as head
use Rattle.procs_parser.specs.declared.states.Front as fronts
use Rattle.procs_parser.specs.declared.states.Front.TheVariants as front
use Rattle.procs_parser.specs.declared.states.Start as starts
use Rattle.procs_parser.specs.declared.states.Start.TheVariants as start
use Rattle.procs_parser.specs.declared.states.ParserState as states
use Rattle.procs_parser.specs.declared.states.ParserState.TheVariants as state
use Rattle.procs_parser.specs.declared.states.FileAdvance as advances
use Rattle.procs_parser.specs.declared.states.FileAdvance.TheVariants as advance
use Rattle.procs_parser.specs.declared.states.Head as heads
use Rattle.src_parser.specs.declared.states.Blocks as blocks
use Rattle.src_parser.specs.Tokenwise as tokenwise

abbrev pub call_phase_of : call_phases.CallPhase → CallPhase
call_phase_of call_phase.Opened = Opened
call_phase_of (call_phase.Argument reading) = Argument (reading_of reading)
call_phase_of call_phase.Called = Called

-- by the call that is left
abbrev pub call_advance_of : call_advances.CallAdvance → CallState → Advance CallStep
call_advance_of call_advance.Goes call = tokenwise.Goes (Still call)
call_advance_of call_advance.Ends (InCall es phase) = tokenwise.Goes (Done es)
call_advance_of call_advance.Wrong call = tokenwise.Wrong
call_advance_of call_advance.TooMuch call = tokenwise.TooMuch

abbrev pub head_phase_of : head_phases.HeadPhase → HeadPhase
head_phase_of head.Opening = Opening
head_phase_of head.NoneYet = NoneYet
head_phase_of (head.OneMore ps) = OneMore (map parameter_of ps.items)
head_phase_of (head.ScalarLabelled ps label) = ScalarLabelled (map parameter_of ps.items) label
head_phase_of (head.ScalarTyped ps label) = ScalarTyped (map parameter_of ps.items) label
head_phase_of (head.ArrayTyped ps) = ArrayTyped (map parameter_of ps.items)
head_phase_of (head.ArrayTitled ps name) = ArrayTitled (map parameter_of ps.items) name
head_phase_of (head.ArrayClosing ps name) = ArrayClosing (map parameter_of ps.items) name
head_phase_of (head.Behind ps) = Behind (map parameter_of ps.items)
head_phase_of (head.AllRead ps) = AllRead (map parameter_of ps.items)
head_phase_of (head.LocalFresh ps ls) = LocalFresh (map parameter_of ps.items) ls.items
head_phase_of (head.LocalLabelled ps ls label) = LocalLabelled (map parameter_of ps.items) ls.items label
head_phase_of (head.LocalTyped ps ls label) = LocalTyped (map parameter_of ps.items) ls.items label
head_phase_of (head.LocalTitled ps ls label name) = LocalTitled (map parameter_of ps.items) ls.items label name

abbrev pub front_of : fronts.Front → Front
front_of (front.Outside decls procs) = Outside decls.items (map procedure_of procs.items)
front_of (front.InProcedure h ps ls) =
    InProcedure h.decls.items (map procedure_of h.procs.items) h.name (map parameter_of ps.items) ls.items

-- among statements, or in a call
abbrev pub doing : fronts.Front → blocks.Blocks PStmt → modes.Mode → ParserState
doing f b (mode.Reading p) = Doing (front_of f) (among statement_of b (phase_of statement_of p))
doing f b (mode.Calling name arguments p) =
    Calling (front_of f) (outers_of statement_of b.outer.items) (map statement_of b.here.items) name
    (InCall (trees_of arguments.items) (call_phase_of p))

abbrev pub named : heads.Head → HeadPhase → ParserState
named h phase = Naming h.decls.items (map procedure_of h.procs.items) h.name phase

-- the next token of a head, or of its locals
abbrev pub head_next : heads.Head → HeadPhase → Kind → Advance ParserState
head_next h phase = names_next limits h.decls.items (map procedure_of h.procs.items) h.name phase

abbrev pub start_of : starts.Start → ParserState
start_of (start.Between decls) = Between decls.items
start_of (start.Declaring decls heading) = Declaring decls.items (heading_of heading)
start_of (start.Naming h phase) = named h (head_phase_of phase)

abbrev pub state_of : states.ParserState → ParserState
state_of (state.Before s) = start_of s
state_of (state.Doing f b m) = doing f b m

-- a procedure begins, or none
abbrev pub opened : Option heads.Head → Advance ParserState
opened (Some h) = tokenwise.Goes (named h Opening)
opened None = tokenwise.Wrong

-- by the state that is left
abbrev pub advance_of : advances.FileAdvance → ParserState → Advance ParserState
advance_of advance.Goes s = tokenwise.Goes s
advance_of (advance.Opens h) s = tokenwise.Goes (named h Opening)
advance_of advance.Wrong s = tokenwise.Wrong
advance_of advance.TooMuch s = tokenwise.TooMuch
