use Rattle.std.proofs.Common.{rules, append_assoc}
use Rattle.lt_assembler.specs.Prelude.{claim_word, hex_word}
use Rattle.lt_assembler.proofs.Joined.{join-map}
use Rattle.lt_assembler.proofs.disassembly.put_note.Goals as goal

pub returns : goal.returns
returns c = rw (join-map claim_word (hex_word 8 c.args.n.secrets) c.args.n.slots) (search (rules, append_assoc))
