use Rattle.std.proofs.Common.{◌∷◌, ◌++◌, [], ap, ◌∙◌}
use Rattle.std.specs.Int.{w64}
use Rattle.std.proofs.lemmas.Int.{to_z-of_z}
use Rattle.run_data.proofs.TraceReading.{no_words, word-read, words-push}
use Rattle.run_data.proofs.trace_lines.read_words.Goals as goal

pub returns-in-None : goal.returns-in-None
returns-in-None c = no_words c.args.pieces.now c.loop-piece.piece-index _ c.loop-piece-test.true c.in-None.ensures.none

pub loop-piece-preserved : goal.loop-piece-preserved
loop-piece-preserved c =
    let read = c.in-Some.ensures.some in
    let words = c.loop-piece.words.items in
    let pushed =
    c.in_ok-push-in-Some.ensures.items ∙ ap (λ word. words ++ word ∷ []) (to_z-of_z w64 c.in-Some.word read.0) in
    record {
      spelled = word-read c.args.pieces.now c.loop-piece.piece-index _ words c.push.new.self.items c.in-Some.word
          c.loop-piece-test.true c.loop-piece.invariant.spelled read.1 pushed;
      words = words-push words c.push.new.self.items c.in-Some.word c.loop-piece.invariant.words read.0 pushed;
    }
