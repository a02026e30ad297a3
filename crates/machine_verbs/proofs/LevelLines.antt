-- The lines of levels that were printed so far.
use Rattle.std.proofs.Common.{◌≡◌, ℕ, ◌+◌, ◌-◌, ◌^◌, ◌<◌, ◌≤◌, List, [], ◌∷◌, ◌++◌, length, Option, Some, None, Err, sym, ap, ◌∙◌, subst, arith, append_assoc, length-append}
use Rattle.std.specs.Prelude.{codes, flat_map}
use Rattle.std.proofs.lemmas.List.{append-nil}
use Rattle.std.proofs.lemmas.Grind.{flat_map-append}
use Rattle.gr_base.specs.Prelude.{Rose, Adds, AddsLess}
use Rattle.gr_base.proofs.Added.{AddsLess-then, AddsLess-more}
use Rattle.gr_outside.specs.Prelude.{SinkSeen}
use Rattle.gr_outside.specs.declared.sink.SinkFailed.{SinkFailed}
use Rattle.processor.specs.Prelude.{oram_of}
use Rattle.path_oram.specs.Prelude.{Oram, AreLevels}
use Rattle.rand_chacha.specs.ChaCha.{ChaCha}
use Rattle.run_data.specs.Prelude.{level_text, levels_behind, levels_head, levels_line, PutsText}
use Rattle.run_data.proofs.PathTexts.{behind-text, behind-parts}
use Rattle.call_steps.specs.Prelude.{OfOram, StandNow}

-- part of a text was printed after others
pub cut-so : (old mid new : SinkSeen) (done piece more text : List ℕ) (e : SinkFailed)
    → Adds old.held mid.held done → mid.faults ≡ old.faults → 0 < length piece → AddsLess mid.held new.held piece
    → Rose mid.faults new.faults → mid.faults ≤ new.faults → (mid.faults ≡ 2 ^ 64 - 1 → new.faults ≡ 2 ^ 64 - 1)
    → (done ++ piece) ++ more ≡ text → PutsText old.held new.held old.faults new.faults text (Err e)
cut-so old mid new done piece more text e put calm some less rose count stays is = record {
  added = tt;
  calm = tt;
  cut = subst (AddsLess old.held new.held) is (AddsLess-more old.held new.held (done ++ piece) more
      (AddsLess-then old.held mid.held new.held done piece put some less));
  failed = subst (λ n. Rose n new.faults) calm rose;
  count = omega (arith, count, calm);
  count_stays = λ full. stays (calm ∙ full);
}

-- the head, and the levels after it
pub one-more : (head : List ℕ) (levels : List (Option ℕ)) (level : Option ℕ)
    → head ++ flat_map level_text (levels ++ level ∷ []) ≡ (head ++ flat_map level_text levels) ++ level_text level
one-more head levels level =
    ap (λ text. head ++ text) (flat_map-append level_text levels (level ∷ [])
    ∙ ap (λ text. flat_map level_text levels ++ text) (append-nil (level_text level)))
    ∙ sym (append_assoc head (flat_map level_text levels) (level_text level))

-- a prefix of a line's levels, and the rest of the line
pub line-parts : (b : ℕ) (first more : List (Option ℕ))
    → (levels_head b ++ flat_map level_text first) ++ (flat_map level_text more ++ codes "\n")
    ≡ levels_line b (first ++ more)
line-parts b first more =
    sym (append_assoc (levels_head b ++ flat_map level_text first) (flat_map level_text more) (codes "\n"))
    ∙ ap (λ text. text ++ codes "\n")
    (append_assoc (levels_head b) (flat_map level_text first) (flat_map level_text more)
    ∙ ap (λ text. levels_head b ++ text) (sym (flat_map-append level_text first more)))

-- a level has a text
pub level-some : (level : Option ℕ) → 0 < length (level_text level)
level-some None = omega arith
level-some (Some level) = omega arith

-- the lines of some banks, and of the next one
pub behind-one : (banks : List (List (Option ℕ))) (levels : List (Option ℕ)) (b : ℕ) → b ≡ 2 + length banks
    → levels_behind [] 2 (banks ++ levels ∷ []) ≡ levels_behind [] 2 banks ++ levels_line b levels
behind-one banks levels b is =
    behind-parts [] 2 banks (levels ∷ []) ∙ ap (λ n. levels_behind [] 2 banks ++ levels_line n levels) (sym is)

-- so has the line of a bank's levels
pub line-some : (b : ℕ) (levels : List (Option ℕ)) → 0 < length (levels_line b levels)
line-some b levels = omega (arith, length-append (levels_head b ++ flat_map level_text levels) (codes "\n"))

-- so have the lines of all banks
pub lines-some : (banks : List (List (Option ℕ))) → 1 ≤ length banks → 0 < length (levels_behind [] 2 banks)
lines-some [] some = absurd (omega (arith, some))
lines-some (levels ∷ banks) some =
    omega (
      arith,
      line-some 2 levels,
      ap length (behind-text (levels_line 2 levels) 3 banks),
      length-append (levels_line 2 levels) (levels_behind [] 3 banks),
    )

-- the bank that was lent is that of its number
pub stands : (orams : List (Oram ChaCha)) (b n : ℕ) (oram : Oram ChaCha) (levels : List (Option ℕ))
    → b ≡ n → oram_of orams b ≡ Some oram → AreLevels oram.places levels → StandNow orams n levels
stands orams b n oram levels same is are =
    subst (λ k. OfOram (oram_of orams k) (λ other. AreLevels other.places levels)) same
    (subst (λ found. OfOram found (λ other. AreLevels other.places levels)) (sym is) are)
