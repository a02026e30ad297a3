-- If a word of a store is replaced, the store still fits the variables that it fitted.
use Rattle.std.proofs.Common.{ℕ, zero, suc, ℤ, List, [], ◌∷◌, ◌∙◌}
use Rattle.std.proofs.lemmas.List.{length-set}
use Rattle.std.proofs.lemmas.List.Elements.{All-set}
use Rattle.gr_word.specs.declared.variables.Want.{Want}
use Rattle.gr_word.specs.Prelude.{FitsWants, IsWord}
use Rattle.src_tree.specs.Prelude.{Store, with_word}
use Rattle.source_meaning.specs.Prelude.{KeepsFit}

-- a store fits what it fits
pub keeps_same : (store : Store) → KeepsFit store store
keeps_same store = record { fits = λ wants fits. fits }

-- what is kept in two steps is kept
pub keeps_then : (first second third : Store) → KeepsFit first second → KeepsFit second third → KeepsFit first third
keeps_then first second third one two = record { fits = λ wants fits. two.fits wants (one.fits wants fits) }

fits_set : (wants : List Want) (store : Store) (k at : ℕ) (word : ℤ) → IsWord word → FitsWants wants store
    → FitsWants wants (with_word store k at word)
fits_set [] [] k at word is fits = fits
fits_set [] (words ∷ store) k at word is fits = absurd fits
fits_set (want ∷ wants) [] k at word is fits = absurd fits
fits_set (want ∷ wants) (words ∷ store) zero at word is fits =
    (length-set words at word ∙ fits.0, All-set IsWord words at word is fits.1, fits.2)
fits_set (want ∷ wants) (words ∷ store) (suc k) at word is fits =
    (fits.0, fits.1, fits_set wants store k at word is fits.2)

-- a word that is written keeps what the store fits
pub keeps_word : (store : Store) (k at : ℕ) (word : ℤ) → IsWord word → KeepsFit store (with_word store k at word)
keeps_word store k at word is = record { fits = λ wants fits. fits_set wants store k at word is fits }
