-- How the oblivious banks of a machine come from those before by the accesses that were made to them.
use Rattle.std.proofs.Common.{◌≡◌, ◌≢◌, ℕ, cond, List, [], ◌∷◌, ◌++◌, length, Option, Some, None, sym, ap, ◌∙◌, subst, ⊎_elim, append_assoc}
use Rattle.std.proofs.lemmas.List.{append-nil, nil_from_length}
use Rattle.std.proofs.lemmas.Bool.{cases_eq, eq-eqb, ne_eqb}
use Rattle.banks.specs.declared.bank.Leaves.{Leaves}
use Rattle.banks.specs.Prelude.{Access, in_bank, at_most_one}
use Rattle.banks.proofs.InBank.{in_bank-append}
use Rattle.processor.specs.Prelude.{ComeBy, MayAccess, OfBoth, ShowsOn, oram_of}

-- each access continues what its bank shows
module _ {B : Type 0} (shows : B → List ℕ → List Leaves) (shows_each : (bank : B) (blocks : List ℕ)
    → length (shows bank blocks) ≡ length blocks) where
  shows-none : (bank : B) → shows bank [] ≡ []
  shows-none bank = nil_from_length (shows bank []) (shows_each bank [])

  pub shows_on-none : (bank : B) → ShowsOn shows bank [] bank
  shows_on-none bank later = ap (λ l. l ++ shows bank later) (sym (shows-none bank))

  pub shows_on-then : (first second third : B) (blocks more : List ℕ) → ShowsOn shows first blocks second
      → ShowsOn shows second more third → ShowsOn shows first (blocks ++ more) third
  shows_on-then first second third blocks more one two later =
      ap (shows first) (append_assoc blocks more later) ∙ one (more ++ later)
      ∙ ap (λ l. shows first blocks ++ l) (two later)
      ∙ sym (append_assoc (shows first blocks) (shows second more) (shows third later))
      ∙ ap (λ l. l ++ shows third later) (sym (one more))

  one_on : (first second : B) (block : ℕ) (leaves : Leaves)
      → ((later : List ℕ) → shows first (block ∷ later) ≡ leaves ∷ shows second later)
      → ShowsOn shows first (block ∷ []) second
  one_on first second block leaves shown later =
      shown later
      ∙ ap (λ l. leaves ∷ l ++ shows second later) (sym (shows-none second))
      ∙ ap (λ l. l ++ shows second later) (sym (shown []))

  both_on : (first second : Option B) (block : ℕ) (leaves : Leaves)
      → OfBoth first second (λ old new. (later : List ℕ) → shows old (block ∷ later) ≡ leaves ∷ shows new later)
      → OfBoth first second (λ old new. ShowsOn shows old (block ∷ []) new)
  both_on None None block leaves shown = tt
  both_on None (Some new) block leaves shown = absurd shown
  both_on (Some old) None block leaves shown = absurd shown
  both_on (Some old) (Some new) block leaves shown = one_on old new block leaves shown

  -- an access leads to banks that show on
  pub access-shows_on : (comes : B → List ℕ → B → Type 0) (before now : List B) (access : Option Access)
      (leaves : Leaves) → MayAccess shows comes before now access leaves
      → MayAccess shows (ShowsOn shows) before now access leaves
  access-shows_on comes before now None leaves stays = stays
  access-shows_on comes before now (Some access) leaves made = record {
    exists = made.exists;
    others = made.others;
    shown = made.shown;
    came = both_on (oram_of before access.bank) (oram_of now access.bank) access.block leaves made.shown;
  }

module _ {B : Type 0} (shows : B → List ℕ → List Leaves) (comes : B → List ℕ → B → Type 0)
    (none : (bank : B) → comes bank [] bank) (then : (first second third : B) (blocks more : List ℕ)
    → comes first blocks second → comes second more third → comes first (blocks ++ more) third) where
  through : (first second third : Option B) (blocks more : List ℕ)
      → OfBoth first second (λ old new. comes old blocks new) → OfBoth second third (λ old new. comes old more new)
      → OfBoth first third (λ old new. comes old (blocks ++ more) new)
  through None None None blocks more one two = tt
  through None None (Some z) blocks more one two = absurd two
  through None (Some y) z blocks more one two = absurd one
  through (Some x) None z blocks more one two = absurd one
  through (Some x) (Some y) None blocks more one two = absurd two
  through (Some x) (Some y) (Some z) blocks more one two = then x y z blocks more one two

  -- by one access more
  pub come-on : (before mid now : List B) (made : List Access) (access : Option Access) (leaves : Leaves)
      → ComeBy comes before made mid → MayAccess shows comes mid now access leaves
      → ComeBy comes before (made ++ at_most_one access) now
  come-on before mid now made None leaves come stays = λ b.
      subst (λ accesses. OfBoth (oram_of before b) (oram_of now b) (λ old new. comes old (in_bank b accesses) new))
      (sym (append-nil made))
      (subst (λ orams. OfBoth (oram_of before b) (oram_of orams b) (λ old new. comes old (in_bank b made) new))
      (sym stays) (come b))
  come-on before mid now made (Some access) leaves come accessed = λ b.
      let goes : List ℕ → Type 0 =
      λ blocks. OfBoth (oram_of before b) (oram_of now b) (λ old new. comes old blocks new) in
      subst goes (sym (in_bank-append b made (access ∷ [])))
      (⊎_elim (this b) (other b) (cases_eq b access.bank))
    where
      this : (b : ℕ) → b ≡ access.bank
          → OfBoth (oram_of before b) (oram_of now b)
          (λ old new. comes old (in_bank b made ++ in_bank b (access ∷ [])) new)
      this b is =
          subst (λ blocks.
          OfBoth (oram_of before b) (oram_of now b) (λ old new. comes old (in_bank b made ++ blocks) new))
          (sym (ap (λ same. cond same (access.block ∷ []) []) (eq-eqb b access.bank is)))
          (through (oram_of before b) (oram_of mid b) (oram_of now b) (in_bank b made) (access.block ∷ []) (come b)
          (subst (λ n. OfBoth (oram_of mid n) (oram_of now n) (λ old new. comes old (access.block ∷ []) new))
          (sym is) accessed.came))

      other : (b : ℕ) → b ≢ access.bank
          → OfBoth (oram_of before b) (oram_of now b)
          (λ old new. comes old (in_bank b made ++ in_bank b (access ∷ [])) new)
      other b ne =
          subst (λ blocks.
          OfBoth (oram_of before b) (oram_of now b) (λ old new. comes old (in_bank b made ++ blocks) new))
          (sym (ap (λ same. cond same (access.block ∷ []) []) (ne_eqb b access.bank ne)))
          (subst (λ blocks. OfBoth (oram_of before b) (oram_of now b) (λ old new. comes old blocks new))
          (sym (append-nil (in_bank b made)))
          (subst (λ bank. OfBoth (oram_of before b) bank (λ old new. comes old (in_bank b made) new))
          (sym (accessed.others b ne)) (come b)))
