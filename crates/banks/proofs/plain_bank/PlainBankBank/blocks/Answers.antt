use Rattle.banks.proofs.Blocks.{count_of}
use Rattle.banks.proofs.plain_bank.PlainBankBank.blocks.Goals as goal

pub returns : goal.returns
returns c = count_of _ _ _ _ c.self.view_is
