-- The bytes of a sink to which a watcher writes lines in sequence.
use Rattle.std.proofs.Common.{◌≡◌, ℕ, ◌+◌, ◌<◌, Bool, true, false, List, [], ◌++◌, length, take, drop, Option, Some, None, refl, sym, ap, ◌∙◌, arith, length-append, append_assoc}
use Rattle.std.proofs.lemmas.List.{append-nil, take-append-le}
use Rattle.std.proofs.Math.Seq.{take-append-add, take-append_seam, drop-append_seam}
use Rattle.gr_base.specs.Prelude.{Adds, AddsLess}
use Rattle.machine_verbs.specs.Prelude.{Lines, HoldsLines, HoldsPart, Grows}

-- a line was written whole after complete lines
more-lines : (before now : List ℕ) (start stop mark : ℕ) (text line : List ℕ)
    → now ≡ before ++ line → Lines before start stop true text → Lines now start mark true (text ++ line)
more-lines before now start stop mark text line added lines = record {
  head = lines.head;
  tail = [];
  all = added
      ∙ ap (λ l. l ++ line) (lines.all
      ∙ ap (λ t. lines.head ++ text ++ t) (lines.nothing_more refl)
      ∙ append-nil (lines.head ++ text))
      ∙ append_assoc lines.head text line
      ∙ sym (append-nil (lines.head ++ (text ++ line)));
  begins = lines.begins;
  stops = λ e. absurd (let f : ◌≡◌ {A = Bool} true false = e in cc);
  nothing_more = λ e. refl;
}

pub line_held : (before now : Option (List ℕ)) (start stop mark : ℕ) (line : List ℕ)
    → Adds before now line → (text : List ℕ)
    → HoldsLines before start stop true text → HoldsLines now start mark true (text ++ line)
line_held (Some b) (Some n) start stop mark line added text lines = more-lines b n start stop mark text line added lines
line_held (Some b) None start stop mark line added text lines = tt
line_held None (Some n) start stop mark line added text lines = absurd added
line_held None None start stop mark line added text lines = tt

-- what the sink held when the watcher was made is the head of the lines
head-first : (before now : List ℕ) (start stop stop' : ℕ) (whole : Bool) (text : List ℕ)
    → Lines before start stop true [] → (more : List ℕ) → now ≡ before ++ more
    → (lines : Lines now start stop' whole text) → lines.head ≡ before
head-first before now start stop stop' whole text made more grew lines =
    let whole_before : before ≡ made.head =
    made.all ∙ ap (λ t. made.head ++ [] ++ t) (made.nothing_more refl) ∙ append-nil (made.head ++ [])
    ∙ append-nil made.head in
    let same_length : length lines.head ≡ length before =
    lines.begins ∙ sym made.begins ∙ ap length (sym whole_before) in
    let front : take (length before) now ≡ before = ap (take (length before)) grew ∙ take-append_seam before more in
    let front' : take (length lines.head) now ≡ lines.head =
    ap (take (length lines.head)) (lines.all ∙ append_assoc lines.head text lines.tail)
    ∙ take-append_seam lines.head (text ++ lines.tail) in
    sym front' ∙ ap (λ n. take n now) same_length ∙ front

-- all the lines were written
pub lines_put : (before now : Option (List ℕ)) (start stop stop' : ℕ) (text : List ℕ)
    → HoldsLines before start stop true [] → Grows before now → HoldsLines now start stop' true text
    → Adds before now text
lines_put (Some b) (Some n) start stop stop' text made grew lines =
    lines.all ∙ ap (λ t. lines.head ++ text ++ t) (lines.nothing_more refl)
    ∙ append-nil (lines.head ++ text)
    ∙ ap (λ h. h ++ text) (head-first b n start stop stop' true text made grew.0 grew.1 lines)
lines_put (Some b) None start stop stop' text made grew lines = tt
lines_put None (Some n) start stop stop' text made grew lines = absurd grew
lines_put None None start stop stop' text made grew lines = tt

-- the sink failed at the next line
pub cut_at_next : (before now : List ℕ) (start stop stop' : ℕ) (text line rest : List ℕ) → 0 < length line
    → Lines before start stop true [] → (more : List ℕ) → now ≡ before ++ more → Lines now start stop' false text
    → HoldsPart now stop' line → AddsLess (Some before) (Some now) (text ++ (line ++ rest))
cut_at_next before now start stop stop' text line rest some made more grew lines torn =
    let n = torn.0 in
    let head : lines.head ≡ before = head-first before now start stop stop' false text made more grew lines in
    let tail : lines.tail ≡ take n line =
    sym (drop-append_seam (lines.head ++ text) lines.tail)
    ∙ ap (drop (length (lines.head ++ text))) (sym lines.all)
    ∙ ap (λ m. drop m now) (lines.stops refl) ∙ torn.2 in
    let front : take (length text + n) (text ++ (line ++ rest)) ≡ text ++ take n line =
    take-append-add text (line ++ rest) n
    ∙ ap (λ l. text ++ l) (take-append-le n line rest (omega (arith, torn.1))) in (
      length text + n,
      omega (arith, torn.1, some, length-append text (line ++ rest), length-append line rest),
      lines.all ∙ ap (λ t. lines.head ++ text ++ t) tail
          ∙ append_assoc lines.head text (take n line)
          ∙ ap (λ h. h ++ (text ++ take n line)) head ∙ ap (λ l. before ++ l) (sym front),
    )
