-- What an error of `parse` says: the fault of the tokens, or that memory ran out.
use Rattle.gr_base.specs.declared.errors.Fail.{Fail}
use Rattle.gr_base.specs.declared.errors.Fail.TheVariants.{Fault, Memory}
use Rattle.src_parser.specs.declared.errors.ParseError.{ParseError}
use Rattle.src_parser.specs.declared.errors.ParseFault.{ParseFault}
use Rattle.src_parser.specs.declared.errors.ParseError.TheVariants as error
use Rattle.src_parser.specs.declared.errors.ParseFault.TheVariants as fault

abbrev pub fail_of : ParseError → Fail ParseFault
fail_of (error.Unexpected at) = Fault (fault.Unexpected at)
fail_of error.EndOfText = Fault fault.EndOfText
fail_of (error.TooDeep at) = Fault (fault.TooDeep at)
fail_of error.Memory = Memory
