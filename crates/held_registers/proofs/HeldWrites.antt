-- When a register that holds a scalar gets a word, what registers hold is that of the store in which the scalar is set.
use Rattle.std.proofs.Common.{◌≡◌, ◌≢◌, ℕ, ◌<◌, ℤ, pos, List, [], length, Option, Some, get_or, set, sym, ap, refl, ◌∙◌, ⊎_elim, get_or-set_same, get_or-set_other}
use Rattle.std.proofs.lemmas.Bool.{cases_eq}
use Rattle.src_tree.specs.declared.trees.Decl.{Decl}
use Rattle.src_tree.specs.Prelude.{Store, words_of_number, scalar, scalar_set}
use Rattle.held_registers.specs.declared.registers.Held.{Held}
use Rattle.held_registers.specs.declared.registers.Held.TheVariants.{SecretZero, Number, Scalar}
use Rattle.held_registers.specs.Prelude.{held_at, word_held, IsSoundHeld}

-- a scalar is set, and others are as before
scalar-same : (store : Store) (n : ℕ) (word : ℤ) → n < length store → 0 < length (words_of_number store n)
    → scalar (scalar_set store n word) n ≡ word
scalar-same store n word within some =
    ap (λ words. get_or words 0 (pos 0)) (get_or-set_same store n (set (words_of_number store n) 0 word) [] within)
    ∙ get_or-set_same (words_of_number store n) 0 word (pos 0) some

scalar-other : (store : Store) (n m : ℕ) (word : ℤ) → m ≢ n → scalar (scalar_set store n word) m ≡ scalar store m
scalar-other store n m word other =
    ap (λ words. get_or words 0 (pos 0)) (get_or-set_other store n m (set (words_of_number store n) 0 word) [] other)

held-one : (h g : Held) → Some h ≡ Some g → h ≡ g
held-one h g e = let f : ◌≡◌ {A = Option Held} (Some h) (Some g) = e in cc

module _ (decls : List Decl) (held : List Held) (sound : IsSoundHeld decls held) (store : Store) (n r : ℕ) (word : ℤ)
    (at : held_at held r ≡ Some (Scalar n)) (within : n < length store) (some : 0 < length (words_of_number store n))
  where
    -- another register doesn't hold that scalar
    other-word : (q : ℕ) (h : Held) → q ≢ r → held_at held q ≡ Some h
        → word_held (scalar_set store n word) h ≡ word_held store h
    other-word q SecretZero other there = refl
    other-word q (Number z) other there = refl
    other-word q (Scalar m) other there =
        scalar-other store n m word
        (λ same. other (sound.once q r n (there ∙ ap (λ k. Some (Scalar k)) same) at))

    -- so each register holds what it should
    pub held-written : (before after : ℕ → ℤ) → after r ≡ word → ((q : ℕ) → q ≢ r → after q ≡ before q)
        → ((q : ℕ) (h : Held) → held_at held q ≡ Some h → before q ≡ word_held store h)
        → (q : ℕ) (h : Held) → held_at held q ≡ Some h → after q ≡ word_held (scalar_set store n word) h
    held-written before after is others so_far q h there =
        ⊎_elim
        (λ (same : q ≡ r).
        let one : h ≡ Scalar n = held-one h (Scalar n) (sym there ∙ ap (held_at held) same ∙ at) in
        ap after same ∙ is ∙ sym (scalar-same store n word within some)
        ∙ ap (word_held (scalar_set store n word)) (sym one))
        (λ (other : q ≢ r). others q other ∙ so_far q h there ∙ sym (other-word q h other there))
        (cases_eq q r)
