use Rattle.std.proofs.Common.{◌≡◌, ◌<◌, ◌≤◌, List, ◌∷◌, Some, None, length, map, take, reverse, get_or, refl, sym, subst, ap, ◌∙◌, arith}
use Rattle.std.proofs.lemmas.List.{get_or-map, length-map}
use Rattle.gr_base.specs.Prelude.{found_under}
use Rattle.procs_pruning.specs.declared.live.Live.{Live}
use Rattle.procs_pruning.specs.declared.needed.Body.{Body}
use Rattle.procs_tree.specs.Prelude.{Found, kept_name, procedure_of, trees_of, Procedure, no_procedure}
use Rattle.procs_pruning.specs.Prelude.{LiveBody, no_body, IsPruned, body_of, live_block}
use Rattle.src_procs.specs.Prelude.{Rest, Return, begun, held_of, own_held, pending_all}
use Rattle.src_procs.proofs.OwnCalls.{own_called, own_found, own_none_called}
use Rattle.src_procs.specs.declared.expanding.Pending as pendings
use Rattle.src_procs.proofs.own_calls.with_own_call.Goals as goal

pub returns-in-None : goal.returns-in-None
returns-in-None c =
    let procs = c.args.file.procs.now in
    let all : length procs ≤ length procs = omega arith in
    own_none_called procs c.args.name.now (trees_of c.args.arguments.items) c.args.made
    (own_found procs (found_under c.args.file.numbers.now) c.requires.numbers (length procs) c.bytes.result.now
    c.args.name.now None all c.bytes.ensures.bytes c.in-None.ensures.found)

pub returns-in_ok-expand-in-Some : goal.returns-in_ok-expand-in-Some
returns-in_ok-expand-in-Some c =
    let procs = c.args.file.procs.now in
    let ps = map procedure_of procs in
    let k = c.in-Some.k in
    let f : Found = record { procedure = get_or ps k no_procedure; earlier = reverse (take k ps) } in
    let all : length procs ≤ length procs = omega arith in
    let long = length-map c.args.file.bodies.now body_of in
    let within = c.in-Some.ensures.within in
    let whole = c.requires.whole in
    let inside : k < length c.args.file.bodies.now = omega (within, whole, arith) in
    let body = c.index-bodies-k.result in
    let es = trees_of c.args.arguments.items in
    let p : procedure_of c.index-procs-k.result ≡ f.procedure =
    sym (get_or-map procedure_of procs k c.index-procs-k.result no_procedure within
    ∙ ap procedure_of (sym c.index-procs-k.is)) in
    own_called procs c.args.name.now es c.args.made c.expand.new.held.made f (body_of body)
    (held_of procs c.in_ok-held-in-Some.held) (held_of procs c.expand.new.held)
    (pending_all c.waits_for_call.new.waiting.items)
    (own_found procs (found_under c.args.file.numbers.now) c.requires.numbers (length procs) c.bytes.result.now
    c.args.name.now (Some f) all c.bytes.ensures.bytes c.in-Some.ensures.found)
    (subst (λ (b : LiveBody). IsPruned (reverse (take k ps)) (get_or ps k no_procedure) b)
    (get_or-map body_of c.args.file.bodies.now k body no_body inside ∙ ap body_of (sym c.index-bodies-k.is))
    (c.requires.bodies.each k (omega (inside, long, arith))))
    (c.in_ok-held-in-Some.ensures
    ∙ ap (λ (q : Procedure). begun q f.earlier kept_name es (own_held procs c.args.made)) p)
    (c.in_ok-waits_for_call-in-Some.ensures
    ∙ (ap (λ (ss : List Live). Rest (live_block ss) ∷ Return ∷ pending_all c.new-waiting.result.items)
    (c.as_slice-body.ensures.value ∙ ap (λ (b : Body). b.statements.items) (sym c.index-bodies-k.is))
    ∙ ap (λ (ws : List pendings.Pending). Rest (live_block body.statements.items) ∷ Return ∷ pending_all ws)
    c.new-waiting.ensures.items))
    c.in_ok-expand-in-Some.ensures refl
