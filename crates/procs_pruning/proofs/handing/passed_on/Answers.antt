use Rattle.std.proofs.Common.{◌≡◌, Some, map, take, reverse, get_or, refl, sym, subst, ap, ◌∙◌, arith}
use Rattle.std.specs.Prelude.{IfSome}
use Rattle.std.proofs.lemmas.List.{get_or-map, length-map}
use Rattle.std.proofs.lemmas.Option.{IfSome_then}
use Rattle.std.proofs.lemmas.Result.{IfOk-weaker}
use Rattle.gr_base.specs.Prelude.{found_under}
use Rattle.procs_tree.specs.Prelude.{Found, found, procedure_of, Block, Call, Nothing, Then, Procedure, no_procedure}
use Rattle.procs_pruning.specs.Prelude.{LiveBody, no_body, HandsOn, SameStatement, SameCode, body_of, live_block, live_of, trees_seen}
use Rattle.procs_pruning.proofs.HandedOn.{comes_down}
use Rattle.procs_tree.proofs.NumbersAdded.{found_so, still_found}
use Rattle.procs_pruning.proofs.handing.passed_on.Goals as goal

pub returns-in-Some-called : goal.returns-in-Some-called
returns-in-Some-called c =
    let ps = map procedure_of c.args.procs.now in
    let k = c.in-Some.k in
    let m = c.in-Some-called.field-0 in
    let p : Procedure = get_or ps k no_procedure in
    let numbers = found_under c.args.numbers.now in
    let next = c.in-Some-one_call.next in
    let es = trees_seen c.args.arguments.now in
    let ds = trees_seen next.arguments.now in
    let first : Found = record { procedure = p; earlier = reverse (take k ps) } in
    let second : Found = record { procedure = get_or ps m no_procedure; earlier = reverse (take m ps) } in
    let before = c.in-Some.ensures.before in
    let within = c.in-Some.ensures.within in
    let inside = c.if-k-bodies.false in
    let long = length-map c.args.bodies.now body_of in
    let one : found (reverse (take c.args.callable ps)) c.args.name.now ≡ Some first =
    found_so ps numbers c.requires.numbers c.args.callable c.args.callable c.bytes.result.now c.args.name.now
    (Some first) refl c.bytes.ensures.bytes c.in-Some.ensures.found in
    let two : found (reverse (take k ps)) next.name.now ≡ Some second =
    found_so ps numbers c.requires.numbers k k c.bytes-2.result.now next.name.now
    (Some second) refl c.bytes-2.ensures.bytes c.in-Some-called.ensures.found in
    let three : found (reverse (take c.args.callable ps)) next.name.now ≡ Some second =
    c.requires.numbers c.args.callable next.name.now
    ∙ still_found ps k c.args.callable (numbers next.name.now) second (omega (arith, before))
    (sym (c.requires.numbers k next.name.now) ∙ two) in
    let same : SameCode (reverse (take k ps)) (Then (Call next.name.now ds) Nothing) p.body =
    subst (λ (b : Block). SameCode (reverse (take k ps)) b p.body)
    (ap (λ (b : LiveBody). b.statements) (get_or-map body_of c.args.bodies.now k c.index-bodies-k.result no_body
    (omega (arith, inside)))
    ∙ (ap live_block (sym c.as_slice.ensures.value) ∙ c.in-Some-one_call.ensures))
    (c.requires.bodies.each k (omega (arith, inside, long))).same in
    let is : procedure_of c.index-procs-k.result ≡ p =
    sym (get_or-map procedure_of c.args.procs.now k c.index-procs-k.result no_procedure within
    ∙ ap procedure_of (sym c.index-procs-k.is)) in
    IfOk-weaker c.handed_on.result
    (λ o. IfSome o (λ l. HandsOn (procedure_of c.index-procs-k.result) es next.name.now ds (live_of l)))
    (λ o. IfSome o (λ l. SameStatement (reverse (take c.args.callable ps)) (live_of l) (Call c.args.name.now es)))
    (λ o some. IfSome_then o some
    (λ l h. comes_down (reverse (take c.args.callable ps)) (reverse (take k ps)) p c.args.name.now next.name.now second
    es ds (live_of l) one two three same
    (subst (λ (q : Procedure). HandsOn q es next.name.now ds (live_of l)) is h)))
    c.handed_on.ensures
