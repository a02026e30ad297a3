-- What an error of `lex` says: the fault of the text, or that memory ran out.
use Rattle.gr_base.specs.declared.errors.Fail.{Fail}
use Rattle.gr_base.specs.declared.errors.Fail.TheVariants.{Fault, Memory}
use Rattle.src_lexer.specs.declared.errors.LexError.{LexError}
use Rattle.src_lexer.specs.declared.errors.LexFault.{LexFault}
use Rattle.src_lexer.specs.declared.errors.LexError.TheVariants as error
use Rattle.src_lexer.specs.declared.errors.LexFault.TheVariants as fault

abbrev pub fail_of : LexError → Fail LexFault
fail_of (error.BadByte at) = Fault (fault.BadByte at)
fail_of (error.NumberTooBig at) = Fault (fault.NumberTooBig at)
fail_of (error.NameTooLong at) = Fault (fault.NameTooLong at)
fail_of error.Memory = Memory
