-- Events are equal exactly if their parts are.
use Rattle.std.proofs.Common.{◌≡◌, ℕ, zero, suc, ℤ, List, refl, sym, ap, ◌∙◌}
use Rattle.lt_isa.specs.Prelude.{Observed, RamRead, RamWrite, EncRead, EncWrite, Oram, Halted, Stamped, seen_at}
use Rattle.run_tools.specs.Prelude.{HaveEqualParts, kind_of, number_of, words_of, observed_in, stamped_of}
use Rattle.run_tools.specs.declared.recorder.Recorded.{Recorded}

-- the event of these parts
abbrev rebuilt : ℕ → ℕ → List ℤ → Observed
rebuilt zero number words = RamRead number words
rebuilt (suc zero) number words = RamWrite number words
rebuilt (suc (suc zero)) number words = EncRead number
rebuilt (suc (suc (suc zero))) number words = EncWrite number
rebuilt (suc (suc (suc (suc zero)))) number words = Oram number
rebuilt (suc (suc (suc (suc (suc kind))))) number words = Halted

rebuilt-is : (event : Observed) → rebuilt (kind_of event) (number_of event) (words_of event) ≡ event
rebuilt-is (RamRead block words) = refl
rebuilt-is (RamWrite block words) = refl
rebuilt-is (EncRead block) = refl
rebuilt-is (EncWrite block) = refl
rebuilt-is (Oram bank) = refl
rebuilt-is Halted = refl

same-event : (one other : Observed) → kind_of one ≡ kind_of other → number_of one ≡ number_of other
    → words_of one ≡ words_of other → one ≡ other
same-event one other kinds numbers words =
    sym (rebuilt-is one)
    ∙ ap (λ k. rebuilt k (number_of one) (words_of one)) kinds
    ∙ ap (λ n. rebuilt (kind_of other) n (words_of one)) numbers
    ∙ ap (rebuilt (kind_of other) (number_of other)) words
    ∙ rebuilt-is other

pub same_of_alike : (one other : Recorded) → HaveEqualParts one other → stamped_of one ≡ stamped_of other
same_of_alike one other alike =
    ap (λ at. seen_at at (observed_in one.event)) alike.stamps
    ∙ ap (seen_at other.stamp)
    (same-event (observed_in one.event) (observed_in other.event) alike.kinds alike.numbers alike.words)

pub alike_of_same : (one other : Recorded) → stamped_of one ≡ stamped_of other → HaveEqualParts one other
alike_of_same one other same = record {
  stamps = ap (λ (s : Stamped). s.stamp) same;
  kinds = ap (λ (s : Stamped). kind_of s.event) same;
  numbers = ap (λ (s : Stamped). number_of s.event) same;
  words = ap (λ (s : Stamped). words_of s.event) same;
}
