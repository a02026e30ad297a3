-- The inputs and the outputs of an object that has a program's layout are the words of the program's variables.
use Rattle.std.proofs.Common.{◌≡◌, false, ℕ, zero, suc, ◌+◌, ◌-◌, ◌*◌, ◌^◌, ◌<◌, ◌≤◌, ℤ, pos, List, [], ◌∷◌, length, map, get_or, All, Some, refl, sym, ap, ◌∙◌, subst, ⊎_elim, arith}
use Rattle.std.specs.Prelude.{Contains}
use Rattle.std.proofs.lemmas.Bool.{cases_eq, cases_lt}
use Rattle.std.proofs.lemmas.List.{get_or_past}
use Rattle.std.proofs.lemmas.List.FromFn.{fill_by_all}
use Rattle.std.proofs.lemmas.List.Sorted.{All-permutation, Contains-permutation}
use Rattle.gr_word.specs.Prelude.{FitsWants, AreWords}
use Rattle.lt_isa.specs.declared.symbols.Symbol.{Symbol}
use Rattle.lt_isa.specs.Prelude.{Parts, block_words, blocks_of, first_word, end_word, State, bank_word_numbered, symbol_word, symbol_words, outputs, FitsObject, start_state, want_of}
use Rattle.lt_isa.proofs.StartWords.{Takes, start_word-taken, bank_word-start}
use Rattle.src_tree.specs.declared.trees.Decl.{Decl}
use Rattle.src_tree.specs.Prelude.{Source, context_of, label_and_shape, shape_of, IsWithinLimits, words_of, Store, variable_number, words_of_number, DeclaredOnce}
use Rattle.flow_types.specs.Prelude.{declared_wants}
use Rattle.bank_alloc.specs.declared.places.Place.{Place}
use Rattle.bank_alloc.specs.Prelude.{IsLaidOut, placed_symbol, placed_symbols}
use Rattle.src_tree.proofs.VariableNumbers.{number-of_declared, kind-at_number}
use Rattle.bank_alloc.proofs.SymbolOrder.{length-symbols_at, get_or-symbols_at}
use Rattle.scratch_alloc.specs.Prelude.{Plan, IsSoundPlan, no_decl, no_place}
use Rattle.block_cache_gen.specs.Prelude.{Home, Setting, home_of, words_a_block, start_of_home, no_home, home_at, setting_for, FitsHomes}
use Rattle.held_registers.proofs.Sound.{nothing-sound}
use Rattle.block_cache_gen.proofs.Settled.{IsSettingOf, width, bank-count, bank-blocks, home-at, named-below, homes-apart, place-length}
use Rattle.compiled_objects.specs.Prelude.{HasSymbols, by_name}
use Rattle.code_gen.proofs.Started.{BanksHold}
use Rattle.code_gen.proofs.Implementing.{NamesWords}

-- what inputs that fit declarations have for each
record FitsAt (decls : List Decl) (store : Store) (k : ℕ) : Type 0 where
  size : length (words_of_number store k) ≡ words_of (get_or decls k no_decl)
  words : AreWords (words_of_number store k)

fits-at : (decls : List Decl) (store : Store) → FitsWants (declared_wants decls) store → (k : ℕ) → k < length decls
    → FitsAt decls store k
fits-at [] store fits k within = absurd (omega arith)
fits-at (d ∷ decls) [] fits k within = absurd fits
fits-at (d ∷ decls) (words ∷ store) fits zero within = record { size = fits.0; words = fits.1 }
fits-at (d ∷ decls) (words ∷ store) fits (suc k) within =
    let rest = fits-at decls store fits.2 k (omega arith) in record { size = rest.size; words = rest.words }

fits-count : (decls : List Decl) (store : Store) → FitsWants (declared_wants decls) store → length store ≡ length decls
fits-count [] [] fits = refl
fits-count [] (words ∷ store) fits = absurd fits
fits-count (d ∷ decls) [] fits = absurd fits
fits-count (d ∷ decls) (words ∷ store) fits = ap suc (fits-count decls store fits.2)

no_words : AreWords []
no_words i d within = absurd (omega arith)

fits-words : (decls : List Decl) (store : Store) → FitsWants (declared_wants decls) store → (k : ℕ)
    → AreWords (words_of_number store k)
fits-words decls store fits k =
    ⊎_elim
    (λ within. (fits-at decls store fits k within).words)
    (λ past. subst AreWords (sym (get_or_past store k [] (omega (arith, past, fits-count decls store fits)))) no_words)
    (cases_lt k (length decls))

-- the setting of a program for an object
pub setting-of : (p : Source) (plan : Plan) (o : Parts) → IsSettingOf p plan o (setting_for p plan o.profile false [])
setting-of p plan o = record {
  decls = refl;
  homes = refl;
  blocks = refl;
  pins = refl;
  held = nothing-sound p.decls;
  profile = refl;
}

-- lists for symbols that have each its length
symbols-fit : (words : Symbol → List ℤ) (symbols : List Symbol)
    → ((k : ℕ) (d : Symbol) → k < length symbols
    → (length (words (get_or symbols k d)) ≡ (get_or symbols k d).length) × AreWords (words (get_or symbols k d)))
    → FitsWants (map want_of symbols) (map words symbols)
symbols-fit words [] each = tt
symbols-fit words (s ∷ symbols) each =
    let first = each 0 s (omega arith) in
    (first.0, first.1, symbols-fit words symbols (λ k d within. each (suc k) d (omega arith)))

-- two functions that agree on the items of a list
map-alike : {X Y : Type 0} (f g : X → Y) (xs : List X)
    → ((k : ℕ) (d : X) → k < length xs → f (get_or xs k d) ≡ g (get_or xs k d)) → map f xs ≡ map g xs
map-alike f g [] each = refl
map-alike f g (x ∷ xs) each =
    ap (λ y. y ∷ map f xs) (each 0 x (omega arith))
    ∙ ap (λ ys. g x ∷ ys) (map-alike f g xs (λ k d within. each (suc k) d (omega arith)))

module _ (p : Source) (w : ℕ) (plan : Plan) (once : DeclaredOnce p.decls) (limits : IsWithinLimits p)
    (sound : IsSoundPlan p w plan) (o : Parts) (layout : IsLaidOut p w plan.places plan.blocks o) (f : Setting)
    (setting : IsSettingOf p plan o f) where
  abbrev decl : ℕ → Decl
  decl k = get_or p.decls k no_decl

  abbrev place : ℕ → Place
  place k = get_or plan.places k no_place

  abbrev symbol : ℕ → Symbol
  symbol k = placed_symbol (decl k) (place k)

  -- a symbol is a variable's
  pub record IsVariable (s : Symbol) : Type 0 where
    pub number : ℕ
    pub below : number < length p.decls
    pub is : s ≡ symbol number

  each-variable : All IsVariable (placed_symbols p.decls plan.places)
  each-variable k d within =
      let below : k < length p.decls =
      omega (arith, within, length-symbols_at p.decls plan.places sound.places) in
      record {
        number = k;
        below = below;
        is = get_or-symbols_at p.decls plan.places k no_decl no_place d sound.places below;
      }

  -- each symbol of the object is one, and each variable has its symbol there
  pub symbols-variables : All IsVariable o.symbols
  symbols-variables =
      All-permutation IsVariable (placed_symbols p.decls plan.places) o.symbols layout.symbols.each each-variable

  pub variables-symbols : (k : ℕ) → k < length p.decls → Contains o.symbols (symbol k)
  variables-symbols k below =
      Contains-permutation (placed_symbols p.decls plan.places) o.symbols (symbol k) layout.symbols.each (
        k,
        omega (arith, below, length-symbols_at p.decls plan.places sound.places),
        get_or-symbols_at p.decls plan.places k no_decl no_place (symbol k) sound.places below,
      )

  pub has-symbols : HasSymbols p o
  has-symbols k d below =
      let s = placed_symbol (get_or p.decls k d) (place k) in (
        s,
        Contains-permutation (placed_symbols p.decls plan.places) o.symbols s layout.symbols.each (
          k,
          omega (arith, below, length-symbols_at p.decls plan.places sound.places),
          get_or-symbols_at p.decls plan.places k d no_place s sound.places below,
        ),
        refl,
        refl,
      )

  -- a variable's name refers to it
  name-number : (k : ℕ) → k < length p.decls → variable_number p.decls (decl k).name ≡ k
  name-number k below = number-of_declared p.decls once k no_decl below

  abbrev words_named : Store → Symbol → List ℤ
  words_named store s = words_of_number store (variable_number p.decls s.name)

  symbol-words : (store : Store) (k : ℕ) → k < length p.decls → words_named store (symbol k) ≡ words_of_number store k
  symbol-words store k below = ap (words_of_number store) (name-number k below)

  -- Inputs by name fit the object.
  pub inputs-fit : (store : Store) → FitsWants (declared_wants p.decls) store → FitsObject o (by_name p o store)
  inputs-fit store given =
      symbols-fit (words_named store) o.symbols
      (λ k d within. of_variable (get_or o.symbols k d) (symbols-variables k d within))
    where
      of_variable : (s : Symbol) → IsVariable s
          → (length (words_named store s) ≡ s.length) × AreWords (words_named store s)
      of_variable s variable =
          let k = variable.number in
          let fits = fits-at p.decls store given k variable.below in
          subst (λ s. (length (words_named store s) ≡ s.length) × AreWords (words_named store s)) (sym variable.is) (
            ap length (symbol-words store k variable.below) ∙ fits.size ∙ sym (sound.place k variable.below).words,
            subst AreWords (sym (symbol-words store k variable.below)) fits.words,
          )

  -- the homes by number and by name
  abbrev home : ℕ → Home
  home k = home_at plan.pins f.profile.block_log (place k) (get_or plan.slots k 0)

  home-is : (k : ℕ) → k < length p.decls → get_or f.homes k no_home ≡ home k
  home-is k below = home-at p w plan limits sound o layout f setting k below

  number-in : (k : ℕ) → k < length p.decls → variable_number f.decls (decl k).name ≡ k
  number-in k below = ap (λ ds. variable_number ds (decl k).name) setting.decls ∙ name-number k below

  home-in : (k : ℕ) → k < length p.decls → home_of f (decl k).name ≡ home k
  home-in k below = ap (λ n. get_or f.homes n no_home) (number-in k below) ∙ home-is k below

  known-in : (k : ℕ) → k < length p.decls → context_of f.decls (decl k).name ≡ Some (label_and_shape (decl k))
  known-in k below =
      ap (λ ds. context_of ds (decl k).name) setting.decls
      ∙ kind-at_number p.decls (decl k).name no_decl (omega (arith, below, name-number k below))
      ∙ ap (λ n. Some (label_and_shape (get_or p.decls n no_decl))) (name-number k below)

  wide : block_words o ≡ words_a_block f
  wide = ap (λ profile. 2 ^ profile.block_log) setting.profile

  -- a variable is within its bank
  exists : (k : ℕ) → k < length p.decls → (place k).bank < length o.banks
  exists k below =
      omega (
        arith,
        (sound.place k below).bank,
        bank-count p w plan limits sound o layout f setting,
      )

  inside : (k : ℕ) → k < length p.decls
      → end_word (block_words o) (symbol k) ≤ blocks_of o (place k).bank * block_words o
  inside k below =
      let q = place k in
      let lies = sound.place k below in
      subst (λ n. (q.block * n + q.word) + q.length ≤ blocks_of o q.bank * n)
      (sym (width p w plan limits sound o layout f setting))
      (subst (λ n. (q.block * 2 ^ w + q.word) + q.length ≤ n * 2 ^ w)
      (sym (bank-blocks p w plan limits sound o layout f setting q.bank (exists k below))) lies.inside)

  -- two variables that take one word are one
  alone : (bank at u v : ℕ) → u < length p.decls → v < length p.decls → Takes (block_words o) (symbol u) bank at
      → Takes (block_words o) (symbol v) bank at → u ≡ v
  alone bank at u v one two first second =
      ⊎_elim
      (λ same. same)
      (λ differ.
      ⊎_elim
      (λ apart.
      let before : end_word (block_words o) (symbol u) ≤ first_word (block_words o) (symbol v) = apart in
      absurd (omega (arith, before, first.before, second.behind)))
      (λ apart.
      let before : end_word (block_words o) (symbol v) ≤ first_word (block_words o) (symbol u) = apart in
      absurd (omega (arith, before, second.before, first.behind)))
      (homes-apart p w plan limits sound o layout f setting u v one two differ (first.bank_is ∙ sym second.bank_is)))
      (cases_eq u v)

  -- the words of a variable at the start
  pub word-start : (store : Store) (k i : ℕ) → k < length p.decls → i < (place k).length
      → bank_word_numbered (block_words o) (start_state o (by_name p o store)) (place k).bank
      (first_word (block_words o) (symbol k) + i)
      ≡ get_or (words_of_number store k) i (pos 0)
  word-start store k i below within =
      let s = symbol k in
      let first = first_word (block_words o) s in
      let at = first + i in
      let takes : Takes (block_words o) s (place k).bank at =
      record { bank_is = refl; behind = omega arith; before = omega (arith, within) } in
      let back : at - first ≡ i = omega arith in
      bank_word-start o (by_name p o store) (place k).bank at (exists k below) (omega (arith, within, inside k below))
      ∙ start_word-taken (block_words o) o.symbols (words_named store) s (place k).bank at
      (variables-symbols k below) takes
      (λ j d there taken.
      let variable = symbols-variables j d there in
      variable.is
      ∙ ap symbol (alone (place k).bank at variable.number k variable.below below
      (subst (λ t. Takes (block_words o) t (place k).bank at) variable.is taken) takes))
      ∙ ap (λ n. get_or (words_named store s) n (pos 0)) back
      ∙ ap (λ words. get_or words i (pos 0)) (symbol-words store k below)

  -- The banks at the start hold the store.
  pub banks-start : (store : Store) → FitsWants (declared_wants p.decls) store
      → BanksHold f (start_state o (by_name p o store)) store
  banks-start store given = record {
    words = λ x label shape i known within.
        let k = variable_number f.decls x in
        let below = named-below p w plan limits sound o layout f setting x (label, shape) known in
        let s = start_state o (by_name p o store) in
        let short : i < (place k).length = subst (λ h. i < h.length) (home-is k below) within in
        subst (λ h. bank_word_numbered (words_a_block f) s h.bank (start_of_home (words_a_block f) h + i)
        ≡ get_or (words_of_number store k) i (pos 0)) (sym (home-is k below))
        (subst (λ n. bank_word_numbered n s (place k).bank (((place k).block * n + (place k).word) + i)
        ≡ get_or (words_of_number store k) i (pos 0)) wide
        (word-start store k i below short));
  }

  -- A store that fits the declarations fits the homes.
  pub store-fits : (store : Store) → FitsWants (declared_wants p.decls) store → FitsHomes f store
  store-fits store given = record {
    count = fits-count p.decls store given ∙ ap length (sym setting.decls);
    lengths = λ x label shape known.
        let k = variable_number f.decls x in
        let below = named-below p w plan limits sound o layout f setting x (label, shape) known in
        (fits-at p.decls store given k below).size ∙ sym (sound.place k below).words
        ∙ ap (λ h. h.length) (sym (home-is k below));
    all_words = fits-words p.decls store given;
  }

  -- The words of a variable where the banks hold a store.
  word-held : (u : State) (left : Store) → BanksHold f u left → (k i : ℕ) → k < length p.decls → i < (place k).length
      → bank_word_numbered (block_words o) u (place k).bank (first_word (block_words o) (symbol k) + i)
      ≡ get_or (words_of_number left k) i (pos 0)
  word-held u left hold k i below within =
      let d = decl k in
      let short : i < (home_of f d.name).length = subst (λ h. i < h.length) (sym (home-in k below)) within in
      subst (λ size. bank_word_numbered size u (place k).bank (((place k).block * size + (place k).word) + i)
      ≡ get_or (words_of_number left k) i (pos 0)) (sym wide)
      (subst (λ h. bank_word_numbered (words_a_block f) u h.bank (start_of_home (words_a_block f) h + i)
      ≡ get_or (words_of_number left k) i (pos 0)) (home-in k below)
      (hold.words d.name d.label (shape_of d.length) i (known-in k below) short
      ∙ ap (λ m. get_or (words_of_number left m) i (pos 0)) (number-in k below)))

  symbol-told : (u : State) (left : Store) → BanksHold f u left → FitsHomes f left → (k : ℕ) → k < length p.decls
      → symbol_words o u (symbol k) ≡ words_named left (symbol k)
  unfolding symbol_words
  symbol-told u left hold fit k below =
      let size : length (words_of_number left k) ≡ (place k).length =
      ap (λ n. length (words_of_number left n)) (sym (number-in k below))
      ∙ fit.lengths (decl k).name (decl k).label (shape_of (decl k).length) (known-in k below)
      ∙ ap (λ h. h.length) (home-in k below) in
      sym (fill_by_all (symbol_word o u (symbol k)) (words_of_number left k) (place k).length (pos 0) size
      (λ i within. sym (word-held u left hold k i below within)))
      ∙ sym (symbol-words left k below)

  -- The outputs are the words of the store that the banks hold.
  pub outputs-told : (u : State) (left : Store) → BanksHold f u left → FitsHomes f left → outputs o u ≡ by_name p o left
  unfolding outputs
  outputs-told u left hold fit =
      map-alike (symbol_words o u) (words_named left) o.symbols (λ j d within.
      let variable = symbols-variables j d within in
      subst (λ s. symbol_words o u s ≡ words_named left s) (sym variable.is)
      (symbol-told u left hold fit variable.number variable.below))

  -- each variable has a word
  words-some : (store : Store) → FitsWants (declared_wants p.decls) store → (k : ℕ) → k < length p.decls
      → 0 < length (words_of_number store k)
  words-some store given k below =
      let at = fits-at p.decls store given k below in
      let q = sound.place k below in
      let long = place-length p w plan k limits sound below in
      omega (arith, at.size, q.words, long.0)

  -- the object's inputs and outputs are the words of the program's variables
  pub names-words : NamesWords p o f
  names-words = record {
    decls = setting.decls;
    symbols = has-symbols;
    fit = store-fits;
    some = words-some;
    inputs = inputs-fit;
    hold = banks-start;
    tell = outputs-told;
  }
