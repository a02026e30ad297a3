-- A state represents a store in which a scalar is changed that a register holds, if that register is changed.
use Rattle.std.proofs.Common.{◌≡◌, ℕ, ◌<◌, ℤ, pos, List, length, get_or, Some, None, sym, ap, ◌∙◌, subst, arith}
use Rattle.gr_word.specs.declared.variables.Label.{Label}
use Rattle.gr_word.specs.declared.variables.Label.TheVariants.{Public, Secret}
use Rattle.gr_word.specs.declared.variables.Shape.TheVariants.{Scalar}
use Rattle.lt_isa.specs.Prelude.{Parts, State, register}
use Rattle.src_tree.specs.Prelude.{context_of, Store, variable_number, words_of_number, scalar, scalar_set}
use Rattle.src_tree.proofs.VariableNumbers.{number-below}
use Rattle.stretches.specs.Prelude.{Sets}
use Rattle.held_registers.specs.Prelude.{secret_zero, public_zero, IsSoundHeld}
use Rattle.held_registers.proofs.Found.{scalar-held}
use Rattle.held_registers.proofs.HeldWrites.{held-written}
use Rattle.block_cache_gen.specs.Prelude.{Setting, HasHomes, register_for, zero_of, StandsFor, FitsHomes}
use Rattle.block_cache_gen.proofs.HeldScalars.{array-free, held-inside, register-same}
use Rattle.block_cache_gen.proofs.Stores.{words-other}
use Rattle.held_registers.specs.declared.registers.Held.TheVariants as thing

module _ (f : Setting) (sound : IsSoundHeld f.decls f.held) (s : State) (store : Store) (stands : StandsFor f s store)
    (x : List ℕ) (r : ℕ) (held : register_for f x ≡ Some r) where
  -- the register is one of the machine's, and has the scalar's word
  pub register-inside : r < 32
  register-inside =
      (held-inside sound r (thing.Scalar (variable_number f.decls x))
      (scalar-held f.held (variable_number f.decls x) r held)).0

  pub register-word : register s r ≡ scalar store (variable_number f.decls x)
  register-word =
      stands.held r (thing.Scalar (variable_number f.decls x)) (scalar-held f.held (variable_number f.decls x) r held)

  -- a zero of each label is in its register
  pub zero-word : (label : Label) → register s (zero_of label) ≡ pos 0
  zero-word label =
      let n = variable_number f.decls x in
      by label (held-inside sound r (thing.Scalar n) (scalar-held f.held n r held)).1
    where
      by : (label : Label) → 0 < length f.held → register s (zero_of label) ≡ pos 0
      by Public some = stands.held public_zero (thing.Number (pos 0)) (sound.public some)
      by Secret some = stands.held secret_zero thing.SecretZero (sound.secret some)

  -- with the register set the machine represents the store with the scalar
  pub stands-scalar_set : FitsHomes f store → (o : Parts) → HasHomes o f → (label : Label)
      → context_of f.decls x ≡ Some (label, Scalar) → (word : ℤ) (t : State) → Sets s r word t
      → StandsFor f t (scalar_set store (variable_number f.decls x) word)
  stands-scalar_set fits o homes label known word t sets =
      subst (λ l. StandsFor f (record t { slots = l }) after) (sym sets.slots)
      (subst (λ b. StandsFor f (record t { slots = s.slots; banks = b }) after) (sym sets.banks) moved)
    where
      n : ℕ
      n = variable_number f.decls x

      after : Store
      after = scalar_set store n word

      -- a variable without a register is as before
      other : (y : List ℕ) (i : ℕ) → register_for f y ≡ None
          → get_or (words_of_number store (variable_number f.decls y)) i (pos 0)
          ≡ get_or (words_of_number after (variable_number f.decls y)) i (pos 0)
      other y i free =
          ap (λ words. get_or words i (pos 0))
          (sym
          (words-other store n 0 (variable_number f.decls y) word (λ same. register-same f x y r same held free)))

      moved : StandsFor f (record t { slots = s.slots; banks = s.banks }) after
      moved =
          let within = number-below f.decls x (label, Scalar) known in
          let long = fits.lengths x label Scalar known in
          let one = (homes.scalars x label known).length in
          record {
            pinned = stands.pinned;
            residents = λ y label' shape i known' resident free inside.
                stands.residents y label' shape i known' resident free inside ∙ other y i free;
            arrays = λ y label' i known' turn inside.
                stands.arrays y label' i known' turn inside ∙ other y i (array-free f sound y label' known');
            bound = stands.bound;
            current = stands.current;
            held =
                held-written f.decls f.held sound store n r word (scalar-held f.held n r held)
                (omega (arith, within, fits.count)) (omega (arith, long, one)) (register s) (register t) sets.value
                sets.others stands.held;
          }
