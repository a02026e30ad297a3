use Rattle.std.proofs.Common.{List, [], subst}
use Rattle.std.proofs.lemmas.List.{append-nil}
use Rattle.std.proofs.lemmas.Result.{IfErr-weaker, IfOk-weaker}
use Rattle.gr_base.proofs.Fails.{if_weaker}
use Rattle.src_lexer.specs.declared.tokens.Token.{Token}
use Rattle.src_parser.proofs.readers.read_tree.Goals as goal

pub returns-in-Ok-clause-tree : goal.returns-in-Ok-clause-tree
returns-in-Ok-clause-tree g c =
    IfOk-weaker c.finish.result _ _
    (λ tree whole. whole c.args.tokens.now (c.in-Ok.ensures.read [] c.new-reader.ensures))
    c.finish.ensures.finished

pub returns-in-Ok-clause-refused : goal.returns-in-Ok-clause-refused
returns-in-Ok-clause-refused g c =
    IfErr-weaker c.finish.result _ _
    (λ fail. if_weaker fail (λ fault cut. cut c.args.tokens.now (c.in-Ok.ensures.read [] c.new-reader.ensures)))
    c.finish.ensures.cut

pub returns-in-Err-clause-refused : goal.returns-in-Err-clause-refused
returns-in-Err-clause-refused g c =
    if_weaker c.in-Err.error (λ fault refused.
    subst (λ (ts : List Token). g.R.TokenReader.Explains fault ts) (append-nil c.args.tokens.now)
    (refused [] [] c.new-reader.ensures)) c.in-Err.ensures.refused
