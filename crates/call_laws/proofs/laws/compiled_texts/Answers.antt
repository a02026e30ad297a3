use Rattle.call_laws.proofs.CompiledTexts.{compiled-texts}
use Rattle.call_laws.proofs.laws.compiled_texts.Goals as goal

pub returns : goal.returns
returns c = compiled-texts
