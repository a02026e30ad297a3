use Rattle.std.proofs.Common.{◌≡◌, arith, sym, ap, ◌∙◌, Some, None}
use Rattle.std.specs.Prelude.{option_map}
use Rattle.src_tree.specs.Prelude.{expr_tree}
use Rattle.src_parser.specs.Prelude.{limits, Moves, Stops, Deep, reads, whole, ended, reading_of, step_of}
use Rattle.src_parser.proofs.ExpressionPlaces.{goes_at, found_at, stray_at, deep_at, cut_at, whole_at}
use Rattle.src_parser.proofs.lone_expressions.expression.Goals as goal

pub returns-in-Some-clause-found : goal.returns-in-Some-clause-found
returns-in-Some-clause-found c =
    let h : reads limits (reading_of c.loop-i.reading) c.index-tokens-i.result.kind ≡ Stops
    (reading_of c.read.new.reading) =
    sym c.in-Ok.ensures ∙ ap (λ t. step_of t (reading_of c.read.new.reading)) c.in-Stops.is in
    let w : whole (reading_of c.read.new.reading) ≡ Some (expr_tree c.in-Some.tree) =
    sym c.finish-tree.ensures ∙ ap (option_map expr_tree) c.in-Some.is in
    found_at c.args.tokens.now c.args.opened c.args.used c.loop-i.i c.index-tokens-i.result
    (reading_of c.loop-i.reading) (reading_of c.read.new.reading) (expr_tree c.in-Some.tree) c.requires (omega arith)
    c.index-tokens-i.is c.loop-i.invariant h w

pub returns-in-None-clause-refused : goal.returns-in-None-clause-refused
returns-in-None-clause-refused c =
    let h : reads limits (reading_of c.loop-i.reading) c.index-tokens-i.result.kind ≡ Stops
    (reading_of c.read.new.reading) =
    sym c.in-Ok.ensures ∙ ap (λ t. step_of t (reading_of c.read.new.reading)) c.in-Stops.is in
    let w : whole (reading_of c.read.new.reading) ≡ None =
    sym c.finish-tree.ensures ∙ ap (option_map expr_tree) c.in-None.is in
    stray_at c.args.tokens.now c.args.opened c.args.used c.loop-i.i c.index-tokens-i.result
    (reading_of c.loop-i.reading) (reading_of c.read.new.reading) c.requires (omega arith)
    c.index-tokens-i.is c.loop-i.invariant h w

pub returns-in-Deep-clause-refused : goal.returns-in-Deep-clause-refused
returns-in-Deep-clause-refused c =
    let h : reads limits (reading_of c.loop-i.reading) c.index-tokens-i.result.kind ≡ Deep =
    sym c.in-Ok.ensures ∙ ap (λ t. step_of t (reading_of c.read.new.reading)) c.in-Deep.is in
    deep_at c.args.tokens.now c.args.opened c.args.used c.loop-i.i c.index-tokens-i.result
    (reading_of c.loop-i.reading) c.requires (omega arith) c.index-tokens-i.is c.loop-i.invariant h

pub loop-i-preserved : goal.loop-i-preserved
loop-i-preserved c =
    let h : reads limits (reading_of c.loop-i.reading) c.index-tokens-i.result.kind ≡ Moves
    (reading_of c.read.new.reading) =
    sym c.in-Ok.ensures ∙ ap (λ t. step_of t (reading_of c.read.new.reading)) c.in-Moves.is in
    goes_at c.args.tokens.now c.args.opened c.args.used c.loop-i.i c.index-tokens-i.result
    (reading_of c.loop-i.reading) (reading_of c.read.new.reading) (omega arith) c.index-tokens-i.is c.loop-i.invariant h

pub returns-in-Some-2-clause-found : goal.returns-in-Some-2-clause-found
returns-in-Some-2-clause-found c =
    let h : ended limits (reading_of c.loop-i.reading) ≡ Some (expr_tree c.in-Some-2.tree) =
    sym c.in_ok-tree.ensures ∙ ap (option_map expr_tree) c.in-Some-2.is in
    whole_at c.args.tokens.now c.args.opened c.args.used c.loop-i.i (reading_of c.loop-i.reading)
    (expr_tree c.in-Some-2.tree) c.requires (omega arith) c.loop-i.invariant h

pub returns-in-None-2-clause-refused : goal.returns-in-None-2-clause-refused
returns-in-None-2-clause-refused c =
    let h : ended limits (reading_of c.loop-i.reading) ≡ None =
    sym c.in_ok-tree.ensures ∙ ap (option_map expr_tree) c.in-None-2.is in
    cut_at c.args.tokens.now c.args.opened c.args.used c.loop-i.i (reading_of c.loop-i.reading) c.requires
    (omega arith) c.loop-i.invariant h
