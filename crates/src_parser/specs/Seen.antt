-- How the proofs see the parser's own types, and how parsers of larger languages see the reading of expressions, of
-- statements and their parts, and of declarations.
use Rattle.std.specs.Prelude.{List, map, reverse}
use Rattle.src_tree.specs.Trees.{expr_tree, test_of, statement_of}
use Rattle.src_parser.specs.Headings.{Heading, Labelled, Typed, Titled, Sizing, Sized, Closing, HeadingState, Begun, Declared}
use Rattle.src_parser.specs.Parts.{Form, ForChoice, ForLoop, Asked, Value, Place, Stored, Left, Right, Part, Target, Placed, Guarding, Inside, Made, VariableSet, ElementSet, GuardRead, PartState, Still, Done}
use Rattle.src_parser.specs.Statements.{Outer, InFirst, InSecond, InLoop, Phase, Ready, MayElse, InPart, Guarded, Otherwise, Blocks, Among}
use Rattle.src_parser.specs.Advances.{ParserState, Between, Declaring, Doing}
use Rattle.src_parser.specs.Tokenwise.{Advance, Goes, Wrong, TooMuch}
use Rattle.src_parser.specs.Operands.{Waiting, Open, Index, Sign, Pending, OperandState, Wanted, Named, Given, Reading, At, TokenStep, Moves, Stops, Deep, Joint, Joins}
use Rattle.src_parser.specs.declared.readings.Waiting.TheVariants as frame
use Rattle.src_parser.specs.declared.readings.OperandState.TheVariants as operand
use Rattle.src_parser.specs.declared.readings.TokenStep.TheVariants as step
use Rattle.src_parser.specs.declared.readings.Waiting as frames
use Rattle.src_parser.specs.declared.readings.OperandState as operands
use Rattle.src_parser.specs.declared.readings.Reading as readings
use Rattle.src_parser.specs.declared.readings.TokenStep as steps
use Rattle.src_parser.specs.declared.readings.Joint as joints
use Rattle.src_parser.specs.declared.parts.Form as forms
use Rattle.src_parser.specs.declared.parts.Form.TheVariants as form
use Rattle.src_parser.specs.declared.parts.Asked as askeds
use Rattle.src_parser.specs.declared.parts.Asked.TheVariants as asked
use Rattle.src_parser.specs.declared.parts.Lead as leads
use Rattle.src_parser.specs.declared.parts.Lead.TheVariants as lead
use Rattle.src_parser.specs.declared.parts.Part as parts
use Rattle.src_parser.specs.declared.parts.Part.TheVariants as part
use Rattle.src_parser.specs.declared.parts.Made as mades
use Rattle.src_parser.specs.declared.parts.Made.TheVariants as made
use Rattle.src_parser.specs.declared.parts.PartAdvance as part_advances
use Rattle.src_parser.specs.declared.parts.PartAdvance.TheVariants as part_advance
use Rattle.src_parser.specs.declared.headings.Heading as headings
use Rattle.src_parser.specs.declared.headings.Heading.TheVariants as heading
use Rattle.src_parser.specs.declared.headings.HeadingAdvance as heading_advances
use Rattle.src_parser.specs.declared.headings.HeadingAdvance.TheVariants as heading_advance
use Rattle.src_parser.specs.declared.states.Outer as outers
use Rattle.src_parser.specs.declared.states.Outer.TheVariants as outer
use Rattle.src_parser.specs.declared.states.Pause as pauses
use Rattle.src_parser.specs.declared.states.Pause.TheVariants as pause
use Rattle.src_parser.specs.declared.states.Phase as phases
use Rattle.src_parser.specs.declared.states.Phase.TheVariants as phase
use Rattle.src_parser.specs.declared.states.ParserState as states
use Rattle.src_parser.specs.declared.states.ParserState.TheVariants as state
use Rattle.src_parser.specs.declared.states.Advance as advances
use Rattle.src_parser.specs.declared.states.Advance.TheVariants as advance
use Rattle.src_parser.specs.declared.states.Blocks as blocks

abbrev pub frame_of : frames.Waiting → Waiting
frame_of (frame.Open depth) = Open depth
frame_of (frame.Index depth name) = Index depth name
frame_of (frame.Sign depth) = Sign depth
frame_of (frame.Pending left op) = Pending (expr_tree left) op

-- the items that wait, the last one first
abbrev pub stack_of : List frames.Waiting → List Waiting
stack_of stack = reverse (map frame_of stack)

abbrev pub operand_of : operands.OperandState → OperandState
operand_of operand.Wanted = Wanted
operand_of (operand.Named name) = Named name
operand_of (operand.Given tree) = Given (expr_tree tree)

abbrev pub reading_of : readings.Reading → Reading
reading_of x = At (stack_of x.stack.items) x.depth x.used (operand_of x.operand)

-- the effect of a token on an expression, with the reading that is left
abbrev pub step_of : steps.TokenStep → Reading → TokenStep
step_of step.Moves x = Moves x
step_of step.Stops x = Stops x
step_of step.Deep x = Deep

abbrev pub joint_of : joints.Joint → Joint
joint_of j = Joins (stack_of j.stack.items) (expr_tree j.tree) j.depth

abbrev pub form_of : forms.Form → Form
form_of form.Choice = ForChoice
form_of form.Loop = ForLoop

abbrev pub asked_seen : askeds.Asked → Asked
asked_seen (asked.Value name) = Value name
asked_seen (asked.Place name) = Place name
asked_seen (asked.Stored name index) = Stored name (expr_tree index)
asked_seen (asked.Left f) = Left (form_of f)
asked_seen (asked.Right f cmp left) = Right (form_of f) cmp (expr_tree left)

abbrev pub lead_of : leads.Lead → Part
lead_of (lead.Target name) = Target name
lead_of (lead.Placed name index used) = Placed name (expr_tree index) used
lead_of (lead.Guarding f) = Guarding (form_of f)

abbrev pub part_of : parts.Part → Part
part_of (part.Before l) = lead_of l
part_of (part.Inside a reading) = Inside (asked_seen a) (reading_of reading)

abbrev pub made_of : mades.Made → Made
made_of (made.Variable name value) = VariableSet name (expr_tree value)
made_of (made.Element name index value) = ElementSet name (expr_tree index) (expr_tree value)
made_of (made.Guard f guard) = GuardRead (form_of f) (test_of guard)

-- the effect of a token on a part, with the part that is left
abbrev pub part_advance_of : part_advances.PartAdvance → Part → Advance PartState
part_advance_of part_advance.Moves p = Goes (Still p)
part_advance_of (part_advance.Ends m) p = Goes (Done (made_of m))
part_advance_of part_advance.Wrong p = Wrong
part_advance_of part_advance.TooMuch p = TooMuch

abbrev pub heading_of : headings.Heading → Heading
heading_of (heading.Labelled label) = Labelled label
heading_of (heading.Typed label) = Typed label
heading_of (heading.Titled label name) = Titled label name
heading_of (heading.Sizing label name) = Sizing label name
heading_of (heading.Sized label name n) = Sized label name n
heading_of (heading.Closing label name n) = Closing label name n

abbrev pub heading_advance_of : heading_advances.HeadingAdvance → Advance HeadingState
heading_advance_of (heading_advance.Goes h) = Goes (Begun (heading_of h))
heading_advance_of (heading_advance.Ends decl) = Goes (Declared decl)
heading_advance_of heading_advance.Wrong = Wrong

-- the open blocks and the phase of a language's statements, by how a statement is seen
abbrev pub outer_of : {A S : Type 0} → (A → S) → outers.Outer A → Outer S
outer_of seen (outer.InFirst guard before) = InFirst (test_of guard) (map seen before.items)
outer_of seen (outer.InSecond guard first before) =
    InSecond (test_of guard) (map seen first.items) (map seen before.items)
outer_of seen (outer.InLoop guard before) = InLoop (test_of guard) (map seen before.items)

-- the innermost first
abbrev pub outers_of : {A S : Type 0} → (A → S) → List (outers.Outer A) → List (Outer S)
outers_of seen outer = reverse (map (outer_of seen) outer)

abbrev pub pause_of : {A S : Type 0} → (A → S) → pauses.Pause A → Phase S
pause_of seen pause.Ready = Ready
pause_of seen (pause.MayElse guard first) = MayElse (test_of guard) (map seen first.items)
pause_of seen (pause.Guarded f guard) = Guarded (form_of f) (test_of guard)
pause_of seen (pause.Otherwise guard first) = Otherwise (test_of guard) (map seen first.items)

abbrev pub phase_of : {A S : Type 0} → (A → S) → phases.Phase A → Phase S
phase_of seen (phase.Between p) = pause_of seen p
phase_of seen (phase.InPart p) = InPart (part_of p)

abbrev pub among : {A S : Type 0} → (A → S) → blocks.Blocks A → Phase S → Blocks S
among seen b phase = Among (outers_of seen b.outer.items) (map seen b.here.items) phase

-- the effect of a token on a state, with the state that is left
abbrev pub advance_of : {S : Type 0} → advances.Advance → S → Advance S
advance_of advance.Goes s = Goes s
advance_of advance.Wrong s = Wrong
advance_of advance.TooMuch s = TooMuch

abbrev pub state_of : states.ParserState → ParserState
state_of (state.Between decls) = Between decls.items
state_of (state.Declaring decls h) = Declaring decls.items (heading_of h)
state_of (state.Doing decls b p) = Doing decls.items (among statement_of b (phase_of statement_of p))
