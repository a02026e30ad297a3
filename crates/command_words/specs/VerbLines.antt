-- The verbs as people write them: the name of each, its options and its flags, and whether it writes a file. (This
-- project's profile.)
use Rattle.std.specs.Prelude.{◌≡◌, List, [], ◌∷◌, codes}
use Rattle.command_words.specs.CommandLines.{Part, Says, Text, compile_options, run_options}
use Rattle.command_words.specs.declared.verbs.Verb.{Verb}
use Rattle.command_words.specs.declared.verbs.Verb.TheVariants.{Assemble, Bus, Check, Compile, Disassemble, Evaluate, Infer, Run, Sample, Trace}

abbrev pub name_of : Verb → Text
name_of Check = codes "check"
name_of Trace = codes "trace"
name_of Run = codes "run"
name_of Assemble = codes "asm"
name_of Disassemble = codes "dis"
name_of Evaluate = codes "eval"
name_of Compile = codes "compile"
name_of Sample = codes "sample"
name_of Bus = codes "bus"
name_of Infer = codes "infer"

abbrev pub options_of : Verb → List Text
options_of Trace = run_options
options_of Run = run_options
options_of Evaluate = codes "turns" ∷ []
options_of Compile = compile_options
options_of Sample = codes "seed" ∷ []
options_of Bus = run_options
options_of other = []

abbrev pub flags_of : Verb → List Text
flags_of Trace = codes "paths" ∷ codes "recursive" ∷ []
flags_of Run = codes "recursive" ∷ []
flags_of Evaluate = codes "procs" ∷ []
flags_of Compile = codes "procs" ∷ codes "fast" ∷ []
flags_of Sample = codes "fast" ∷ []
flags_of other = []

abbrev pub WritesFile : Verb → Type 0
WritesFile Check = ⊥
WritesFile Trace = ⊥
WritesFile Bus = ⊥
WritesFile other = Unit {0}

-- the words are a verb and, after it, these names and parts
pub record Call (words : List Text) (verb : Verb) (names : List Text) (parts : List Part) : Type 0 where
  pub more : List Text
  pub are : words ≡ name_of verb ∷ more
  pub says : Says (options_of verb) (flags_of verb) more names parts
