-- Pieces of a line that are written in sequence.
use Rattle.std.proofs.Common.{◌≡◌, ◌≤◌, ◌<◌, ◌-◌, ◌^◌, ℕ, ℤ, List, ◌∷◌, ◌++◌, length, take, drop, Option, Result, Ok, Err, OnOk, OnErr, sym, ap, ◌∙◌, subst, arith, length-append, append_assoc}
use Rattle.std.proofs.lemmas.List.{take-append-drop}
use Rattle.std.proofs.lemmas.Grind.{flat_map-append}
use Rattle.std.specs.Fmt.{signed_decimal}
use Rattle.gr_base.specs.Prelude.{Rose, Adds, AddsLess}
use Rattle.gr_base.proofs.Added.{Adds-then, AddsLess-then, AddsLess-more}
use Rattle.gr_outside.specs.declared.sink.SinkFailed.{SinkFailed}
use Rattle.run_data.specs.Prelude.{PutsText, words_text}

-- a piece that breaks off leaves less than the text
pub cut_within : (old middle new : Option (List ℕ)) (done piece more text : List ℕ) → Adds old middle done
    → 0 < length piece → AddsLess middle new piece → done ++ (piece ++ more) ≡ text → AddsLess old new text
cut_within old middle new done piece more text one some less is =
    subst (AddsLess old new) is (AddsLess-then old middle new done (piece ++ more) one
    (omega (arith, length-append piece more)) (AddsLess-more middle new piece more less))

-- the last piece: with it the whole text is written
pub puts_last : (old middle new : Option (List ℕ)) (before mid now : ℕ) (done piece text : List ℕ)
    (r : Result (Unit {0}) SinkFailed) → Adds old middle done → 0 < length piece → done ++ piece ≡ text
    → mid ≡ before → OnOk r (Adds middle new piece) → OnOk r (now ≡ mid) → OnErr r (AddsLess middle new piece)
    → OnErr r (Rose mid now) → mid ≤ now → (mid ≡ 2 ^ 64 - 1 → now ≡ 2 ^ 64 - 1) → PutsText old new before now text r
puts_last old middle new before mid now done piece text
    (Ok done_it) one some is quiet added calm cut failed count count_stays = record {
      added = subst (Adds old new) is (Adds-then old middle new done piece one added);
      calm = calm ∙ quiet;
      cut = tt;
      failed = tt;
      count = omega (arith, quiet, count);
      count_stays = λ full. count_stays (quiet ∙ full);
    }
puts_last old middle new before mid now done piece text
    (Err e) one some is quiet added calm cut failed count count_stays = record {
      added = tt;
      calm = tt;
      cut = subst (AddsLess old new) is (AddsLess-then old middle new done piece one some cut);
      failed = subst (λ n. Rose n now) quiet failed;
      count = omega (arith, quiet, count);
      count_stays = λ full. count_stays (quiet ∙ full);
    }

pub words_text-split : (k : ℕ) (words : List ℤ)
    → words_text (take k words) ++ words_text (drop k words) ≡ words_text words
words_text-split k words =
    sym (flat_map-append (λ word. 32 ∷ signed_decimal word) (take k words) (drop k words))
    ∙ ap words_text (take-append-drop k words)

-- a piece with the first of the words that were left
pub goes_on : (k : ℕ) (done line piece head : List ℕ) (rest words front back : List ℤ)
    → piece ≡ line ++ words_text front → front ≡ take k rest → back ≡ drop k rest
    → done ++ (line ++ words_text rest) ≡ head ++ words_text words
    → (done ++ piece) ++ words_text back ≡ head ++ words_text words
goes_on k done line piece head rest words front back piece_is front_is back_is whole =
    rw (piece_is, front_is, back_is)
    (simp append_assoc (ap (λ text. done ++ (line ++ text)) (words_text-split k rest) ∙ whole))

-- the same, with the end of the line
pub goes_on_to : (done piece head end : List ℕ) (words back : List ℤ)
    → (done ++ piece) ++ words_text back ≡ head ++ words_text words
    → done ++ (piece ++ (words_text back ++ end)) ≡ (head ++ words_text words) ++ end
goes_on_to done piece head end words back whole =
    simp append_assoc (simp append_assoc at (ap (λ text. text ++ end) whole))
