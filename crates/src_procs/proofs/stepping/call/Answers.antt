use Rattle.std.proofs.Common.{◌≡◌, ◌<◌, List, ◌∷◌, Some, None, length, map, take, reverse, get_or, sym, subst, ap, ◌∙◌, arith}
use Rattle.std.proofs.lemmas.List.{get_or-map, length-map}
use Rattle.std.proofs.lemmas.Result.{on_ok_weaker}
use Rattle.gr_base.specs.Prelude.{found_under}
use Rattle.procs_pruning.specs.declared.live.Live.{Live}
use Rattle.procs_tree.specs.Prelude.{Found, procedure_of, Procedure, no_procedure}
use Rattle.procs_pruning.specs.Prelude.{LiveBody, no_body, IsPruned, body_of, live_block, placed_of, trees_seen}
use Rattle.src_procs.specs.Prelude.{finished, Rest, Return, with_locals, with_scope, begun_by, with_kept, held_of, pending_all, scope_of, unbound}
use Rattle.src_tree.specs.declared.trees.Decl.{Decl}
use Rattle.procs_pruning.specs.declared.needed.Kept.{Kept}
use Rattle.procs_tree.proofs.NumbersAdded.{found_so}
use Rattle.src_procs.proofs.OneStep.{none_expanded}
use Rattle.src_procs.proofs.NeededBindings.{called_so}
use Rattle.src_procs.proofs.stepping.call.Goals as goal

pub returns-in-None : goal.returns-in-None
returns-in-None c =
    on_ok_weaker c.scoped.result
    (λ (done : held_of c.args.file.procs.now c.scoped.new.held
    ≡ with_scope (scope_of c.args.file.procs.now c.args.scope) (held_of c.args.file.procs.now c.args.held.now)).
    ap (finished (pending_all c.args.waiting.now.items)) (done
    ∙ none_expanded c.args.name.now (trees_seen c.args.arguments.now) (scope_of c.args.file.procs.now c.args.scope)
    (held_of c.args.file.procs.now c.args.held.now)
    (found_so (map procedure_of c.args.file.procs.now) (found_under c.args.file.numbers.now) c.requires.file.numbers
    c.args.callable c.args.scope.callable c.bytes.result.now c.args.name.now None c.requires.callable c.bytes.ensures.bytes
    c.in-None.ensures.found))) c.scoped.ensures

pub returns-in_ok-begin_call-in-Some : goal.returns-in_ok-begin_call-in-Some
returns-in_ok-begin_call-in-Some c =
    let ps = map procedure_of c.args.file.procs.now in
    let k = c.in-Some.k in
    let f : Found = record { procedure = get_or ps k no_procedure; earlier = reverse (take k ps) } in
    let long = length-map c.args.file.bodies.now body_of in
    let within = c.in-Some.ensures.within in
    let whole = c.requires.file.whole in
    let inside : k < length c.args.file.bodies.now = omega (within, whole, arith) in
    let body = c.index-bodies-k.result in
    let scope = scope_of c.args.file.procs.now c.args.scope in
    let x = held_of c.args.file.procs.now c.args.held.now in
    let start = unbound c.args.held.now.made in
    let es = trees_seen c.args.arguments.now in
    let locals : c.as_slice-locals.result.now ≡ f.procedure.locals =
    c.as_slice-locals.ensures.value
    ∙ ap (λ (q : Procedure). q.locals)
    (sym (get_or-map procedure_of c.args.file.procs.now k c.index-procs-k.result no_procedure within)) in
    on_ok_weaker c.waits_for_call.result
    (λ (waits : pending_all c.waits_for_call.new.waiting.items
    ≡ Rest (live_block c.as_slice-in-Some.result.now) ∷ Return ∷ pending_all c.args.waiting.now.items).
    called_so c.args.name.now es scope x (held_of c.args.file.procs.now c.begin_call.new.held) f
    (pending_all c.args.waiting.now.items) (pending_all c.waits_for_call.new.waiting.items) (body_of body)
    (found_so ps (found_under c.args.file.numbers.now) c.requires.file.numbers c.args.callable
    c.args.scope.callable c.bytes.result.now c.args.name.now (Some f) c.requires.callable c.bytes.ensures.bytes
    c.in-Some.ensures.found)
    (subst (λ (b : LiveBody). IsPruned (reverse (take k ps)) (get_or ps k no_procedure) b)
    (get_or-map body_of c.args.file.bodies.now k body no_body inside ∙ ap body_of (sym c.index-bodies-k.is))
    (c.requires.file.bodies.each k (omega (inside, long, arith))))
    (waits ∙ ap (λ (ss : List Live). Rest (live_block ss) ∷ Return
    ∷ pending_all c.args.waiting.now.items) c.as_slice-in-Some.ensures.value)
    (c.in_ok-begin_call-in-Some.ensures
    ∙ (ap (λ (ks : List Kept). begun_by (with_locals (with_kept scope.names start (map placed_of ks) es)
    c.as_slice-locals.result.now) f.earlier (with_scope scope x)) c.as_slice.ensures.value
    ∙ ap (λ (ds : List Decl). begun_by (with_locals (with_kept scope.names start (map placed_of body.kept.items) es) ds)
    f.earlier (with_scope scope x)) locals))) c.waits_for_call.ensures
