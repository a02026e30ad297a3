use Rattle.std.proofs.Common.{◌≡◌, ◌<◌, ◌∷◌, ◌++◌, [], length, ap, ◌∙◌, arith, length-append, append_assoc, subst}
use Rattle.run_data.specs.Prelude.{words_text}
use Rattle.gr_base.specs.Prelude.{Rose}
use Rattle.gr_base.proofs.Added.{Adds-then}
use Rattle.run_data.proofs.Pieces.{cut_within, puts_last, goes_on, goes_on_to}
use Rattle.run_data.proofs.events.put_line.Goals.{After-as_slice}
use Rattle.run_data.proofs.events.put_line.Goals as goal

-- with the piece, what is written and the words that are left still make the line
turn : (g : _) (c : After-as_slice g)
    → (c.loop-rest.invariant.put.0 ++ c.as_slice.result.now) ++ words_text c.split_at.result.1.now
    ≡ c.args.line.now.items ++ words_text c.args.words.now
turn g c =
    let put = c.loop-rest.invariant.put in
    goes_on 64 put.0 c.loop-rest.line.items c.as_slice.result.now c.args.line.now.items c.loop-rest.rest.now
    c.args.words.now c.split_at.result.0.now c.split_at.result.1.now
    (c.as_slice.ensures.value ∙ c.push_words.ensures.items) c.split_at.ensures.front c.split_at.ensures.back put.2

pub returns-in-Err : goal.returns-in-Err
returns-in-Err g c =
    let kept = c.loop-rest.invariant in
    let piece = c.as_slice.result.now in
    let some : 0 < length piece = omega (arith, ap length c.as_slice.ensures.value) in
    record {
      added = tt;
      calm = tt;
      cut = cut_within _ _ _ kept.put.0 piece
          (words_text c.split_at.result.1.now ++ 10 ∷ []) _ kept.put.1 some c.in-Err.ensures.cut
          (goes_on_to kept.put.0 piece c.args.line.now.items (10 ∷ []) c.args.words.now c.split_at.result.1.now
          (turn g (goal.at.returns-in-Err g c).After-as_slice));
      failed = subst (λ n. Rose n (g.O.Sink.seen c.put.new.self).faults) kept.calm c.in-Err.ensures.failed;
      count = omega (arith, c.in-Err.ensures.count, kept.calm);
      count_stays = λ full. c.in-Err.ensures.count_stays (kept.calm ∙ full);
    }

pub loop-rest-preserved : goal.loop-rest-preserved
loop-rest-preserved g c =
    let kept = c.loop-rest.invariant in
    let piece = c.as_slice.result.now in
    record {
      put = (
        kept.put.0 ++ piece,
        Adds-then _ _ _ kept.put.0 piece kept.put.1 c.in-Ok.ensures.added,
        rw c.clear.ensures (turn g (goal.at.loop-rest-preserved g c).After-as_slice),
      );
      head = rw c.clear.ensures (omega arith);
      calm = c.in-Ok.ensures.calm ∙ kept.calm;
    }

pub returns : goal.returns
returns g c =
    let kept = c.loop-rest.invariant in
    let piece = c.as_slice-2.result.now in
    let piece_is : piece ≡ (c.loop-rest.line.items ++ words_text c.loop-rest.rest.now) ++ 10 ∷ [] =
    c.as_slice-2.ensures.value ∙ c.push_bytes.ensures ∙ ap (λ text. text ++ 10 ∷ []) c.push_words-2.ensures.items in
    let whole : kept.put.0 ++ piece ≡ (c.args.line.now.items ++ words_text c.args.words.now) ++ 10 ∷ [] =
    rw (piece_is, ← append_assoc) (ap (λ text. text ++ 10 ∷ []) kept.put.2) in
    let some : 0 < length piece = omega
    (arith, ap length piece_is, length-append (c.loop-rest.line.items ++ words_text c.loop-rest.rest.now) (10 ∷ [])) in
    puts_last _ _ _ _ _ _ kept.put.0 piece _ c.put-2.result kept.put.1 some whole kept.calm c.put-2.ensures.added
    c.put-2.ensures.calm c.put-2.ensures.cut c.put-2.ensures.failed c.put-2.ensures.count c.put-2.ensures.count_stays
