use Rattle.std.proofs.Common.{◌≡◌, ℕ, true, List, map, sym, ◌∙◌, ap, Bor}
use Rattle.lt_assembler.specs.Prelude.{Word, Draft, lines, is_ascii_line, first_line, line_words, behind_line, by_first_word, line_read, instruction_follows, draft_of}
use Rattle.lt_assembler.proofs.LongLines.{line_of_words, line_refused}
use Rattle.lt_assembler.proofs.reading.read_line.Goals as goal

-- the result for a line, from its words and the text after it
by_words : (number : ℕ) (draft : Draft) (text behind : List ℕ) (words : List Word)
    → is_ascii_line (first_line text) ≡ true → words ≡ line_words text → behind ≡ behind_line text
    → line_read number (instruction_follows (lines (behind_line text))) (first_line text) draft
    ≡ by_first_word number (instruction_follows (lines behind)) words draft
by_words number draft text behind words ascii are is =
    line_of_words number (instruction_follows (lines (behind_line text))) draft text words ascii are
    ∙ ap (λ t. by_first_word number (instruction_follows (lines t)) words draft) (sym is)

pub returns-in-Ok-clause-read : goal.returns-in-Ok-clause-read
returns-in-Ok-clause-read c =
    let split = c.in-Some.ensures.split in
    let words = ap (map (λ (w : Bor (List ℕ)). w.now)) c.split_at.ensures.front ∙ split.1 in
    by_words c.args.number (draft_of c.args.draft.now) c.args.text.now c.in-Some.behind.now _ split.0 words
    c.in-Some.ensures.behind ∙ c.in-Ok.ensures

pub returns-in-Err-clause-read : goal.returns-in-Err-clause-read
returns-in-Err-clause-read c = λ other.
    let split = c.in-Some.ensures.split in
    let words = ap (map (λ (w : Bor (List ℕ)). w.now)) c.split_at.ensures.front ∙ split.1 in
    by_words c.args.number (draft_of c.args.draft.now) c.args.text.now c.in-Some.behind.now _ split.0 words
    c.in-Some.ensures.behind ∙ c.in-Err.ensures other

pub returns-in-None-clause-read : goal.returns-in-None-clause-read
returns-in-None-clause-read c = λ _.
    line_refused c.args.number (instruction_follows (lines (behind_line c.args.text.now))) (draft_of c.args.draft.now)
    c.args.text.now c.in-None.ensures.split
