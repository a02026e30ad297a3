-- The command of each verb's row is one that `clap` states.
use Rattle.std.proofs.Common.{◌≡◌, true, refl}
use Rattle.clap.specs.Words.{is_simple, is_simple_and_free}
use Rattle.clap.proofs.OnLiterals.{clap_on_literals}
use Rattle.command_words.specs.declared.verbs.Verb.{Verb}
use Rattle.command_words.specs.declared.verbs.Verb.TheVariants.{Check, Trace, Run, Assemble, Disassemble, Evaluate, Compile, Sample, Bus, Infer}
use Rattle.command_words.specs.Prelude.{command_of, row_of}

pub stated : (verb : Verb)
    → (is_simple (command_of (row_of verb)) ≡ true) × (is_simple_and_free (command_of (row_of verb)) ≡ true)
unfolding clap_on_literals
stated Check = (refl, refl)
stated Trace = (refl, refl)
stated Run = (refl, refl)
stated Assemble = (refl, refl)
stated Disassemble = (refl, refl)
stated Evaluate = (refl, refl)
stated Compile = (refl, refl)
stated Sample = (refl, refl)
stated Bus = (refl, refl)
stated Infer = (refl, refl)
