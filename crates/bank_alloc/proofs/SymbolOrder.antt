-- The symbols of a program's variables, sorted: they are in order of bank and place, and in range.
use Rattle.std.proofs.Common.{◌≡◌, ◌≢◌, ℕ, zero, suc, ◌+◌, ◌*◌, ◌^◌, ◌<◌, ◌≤◌, List, [], ◌∷◌, length, map, take, get_or, Option, Some, None, ◌⊎◌, inl, inr, ⊎_elim, refl, sym, ap, ◌∙◌, subst, arith}
use Rattle.std.specs.Prelude.{IsTrue}
use Rattle.std.specs.List.{All, AllPairs}
use Rattle.std.specs.List.Sorted.{IsPermutation, IsNonDecreasingBy}
use Rattle.std.proofs.Math.Nat.{mul-le-mul_left}
use Rattle.std.proofs.lemmas.Bool.{cases_lt}
use Rattle.std.proofs.lemmas.List.{get_or-take, get_or_default, length-take-le, get_or-map, length-map}
use Rattle.std.proofs.lemmas.List.Sorted.{All-permutation, sum_by-IsPermutation}
use Rattle.std.proofs.lemmas.List.Sums.{sum_by-cons, sum_by_more_le}
use Rattle.gr_base.specs.Prelude.{Within, EachAfter, at_last}
use Rattle.gr_base.proofs.AtLast.{at_last-get_or}
use Rattle.gr_base.proofs.EachAfter.{EachAfter-from_below}
use Rattle.gr_word.specs.Prelude.{is_name}
use Rattle.lt_isa.specs.declared.profiles.BankSpec.{BankSpec}
use Rattle.lt_isa.specs.declared.symbols.Symbol.{Symbol}
use Rattle.lt_isa.specs.Prelude.{most_words, most_blocks, no_bank, first_word, end_word, SymbolFits, total_length, LiesBehind, last_bank, last_end}
use Rattle.lt_isa.proofs.SymbolPlaces.{most_blocks-le}
use Rattle.src_tree.specs.declared.trees.Decl.{Decl}
use Rattle.src_tree.specs.Prelude.{IsWithinLimits, LengthFits, total_words, words_of, words_of_length, shape_of, Source, IsTyped}
use Rattle.src_tree.proofs.NamesDiffer.{names_differ}
use Rattle.bank_alloc.specs.declared.places.Place.{Place}
use Rattle.bank_alloc.specs.Prelude.{symbol_key, placed_symbol, placed_symbols, StandsBefore, InEarlierBank, AtEarlierWord, AreSymbolsAt, ArePlacesIn, IsWithinBank, no_decl, no_place}
use Rattle.bank_alloc.proofs.Apart.{length_at}
use Rattle.bank_alloc.proofs.PlacedBehind.{block_range}
use Rattle.gr_base.proofs.Permuted.{EachTwo, each_two_permuted}

-- each variable has a symbol
pub length-symbols_at : (ds : List Decl) (places : List Place)
    → length places ≡ length ds → length (placed_symbols ds places) ≡ length ds
length-symbols_at [] places same = refl
length-symbols_at (d ∷ ds) [] same = absurd (omega (arith, same))
length-symbols_at (d ∷ ds) (q ∷ places) same =
    let rest = length-symbols_at ds places (omega (arith, same)) in omega (arith, rest)

-- the symbol of variable number k
pub get_or-symbols_at : (ds : List Decl) (places : List Place) (k : ℕ) (d : Decl) (q : Place) (s : Symbol)
    → length places ≡ length ds → k < length ds
    → get_or (placed_symbols ds places) k s ≡ placed_symbol (get_or ds k d) (get_or places k q)
get_or-symbols_at [] places k d q s same within = absurd (omega (arith, within))
get_or-symbols_at (x ∷ ds) [] k d q s same within = absurd (omega (arith, same))
get_or-symbols_at (x ∷ ds) (y ∷ places) zero d q s same within = refl
get_or-symbols_at (x ∷ ds) (y ∷ places) (suc k) d q s same within =
    get_or-symbols_at ds places k d q s (omega (arith, same)) (omega (arith, within))

-- a symbol is within its bank
record SymbolLies (blocks : List ℕ) (w : ℕ) (s : Symbol) : Type 0 where
  pub bank : s.bank < length blocks
  pub block : s.block < get_or blocks s.bank 0
  pub word : s.word < 2 ^ w
  pub size : Within 1 (most_words s.shape) s.length
  pub inside : end_word (2 ^ w) s ≤ get_or blocks s.bank 0 * 2 ^ w

-- two symbols have different names, and are apart
record AreTwo (size : ℕ) (s t : Symbol) : Type 0 where
  pub names : s.name ≢ t.name
  pub apart : s.bank ≡ t.bank → (end_word size s ≤ first_word size t) ⊎ (end_word size t ≤ first_word size s)

-- what is known of some symbols, in any order
record AreKnown (blocks : List ℕ) (w : ℕ) (symbols : List Symbol) : Type 0 where
  pub lie : All (SymbolLies blocks w) symbols
  pub two : EachTwo (AreTwo (2 ^ w)) symbols
  pub total : total_length symbols ≤ 4194304
  pub names : All (λ s. IsTrue (is_name s.name)) symbols

-- the words of a variable, by its length
size_by : (length : Option ℕ) → LengthFits length → Within 1 (most_words (shape_of length)) (words_of_length length)
size_by None fits = (omega arith, omega arith)
size_by (Some n) fits = fits

symbol_lies : (blocks : List ℕ) (w : ℕ) (d : Decl) (q : Place)
    → LengthFits d.length → IsWithinBank (2 ^ w) blocks d q → SymbolLies blocks w (placed_symbol d q)
symbol_lies blocks w d q fits is =
    let size : Within 1 (most_words (shape_of d.length)) q.length =
    subst (Within 1 (most_words (shape_of d.length))) (sym is.words) (size_by d.length fits) in
    record {
      bank = is.bank;
      block =
          ⊎_elim (λ less. less)
          (λ past. let more : 2 ^ w * get_or blocks q.bank 0 ≤ 2 ^ w * q.block = mul-le-mul_left (2 ^ w) past in
          absurd (omega (arith, more, is.inside, size.0)))
          (cases_lt q.block (get_or blocks q.bank 0));
      word = is.word;
      size = size;
      inside = is.inside;
    }

-- the words of all variables
total_placed : (ds : List Decl) (places : List Place) → length places ≡ length ds
    → ((k : ℕ) → k < length ds → (get_or places k no_place).length ≡ words_of (get_or ds k no_decl))
    → total_length (placed_symbols ds places) ≡ total_words ds
total_placed [] places same long = refl
total_placed (d ∷ ds) [] same long = absurd (omega (arith, same))
total_placed (d ∷ ds) (q ∷ places) same long =
    let more = sum_by-cons (λ (s : Symbol). s.length) (placed_symbol d q) (placed_symbols ds places) in
    let rest = total_placed ds places (omega (arith, same)) (λ k below. long (suc k) (omega (arith, below))) in
    let first : q.length ≡ words_of d = long 0 (omega arith) in
    omega (arith, more, rest, first)

placed_known : (p : Source) (w : ℕ) (blocks : List ℕ) (places : List Place)
    → IsTyped p → IsWithinLimits p → ArePlacesIn p w blocks places
    → All (λ s. IsTrue (is_name s.name)) (placed_symbols p.decls places)
    → AreKnown blocks w (placed_symbols p.decls places)
placed_known p w blocks places typed limits are names =
    let all = placed_symbols p.decls places in
    let in_decls : (k : ℕ) → k < length all → k < length p.decls =
    λ k within. omega (arith, within, length-symbols_at p.decls places are.count) in
    record {
      lie = λ k s within.
          let here = in_decls k within in
          subst (SymbolLies blocks w) (sym (symbol_is k s here))
          (symbol_lies blocks w (decl k) (place k) (length_at p.decls limits.lengths k no_decl here)
          (are.place k here));
      two = record { at = λ i j s in_i in_j differ. two_at i j s (in_decls i in_i) (in_decls j in_j) differ };
      total = omega (
        arith,
        total_placed p.decls places are.count (λ k below. (are.place k below).words),
        limits.words,
      );
      names = names;
    }
  where
    decl : ℕ → Decl
    decl k = get_or p.decls k no_decl

    place : ℕ → Place
    place k = get_or places k no_place

    -- each at its place
    symbol_is : (k : ℕ) (s : Symbol) → k < length p.decls
        → get_or (placed_symbols p.decls places) k s ≡ placed_symbol (decl k) (place k)
    symbol_is k s within = get_or-symbols_at p.decls places k no_decl no_place s are.count within

    two_of : (i j : ℕ) → i < length p.decls → j < length p.decls → i ≢ j
        → AreTwo (2 ^ w) (placed_symbol (decl i) (place i)) (placed_symbol (decl j) (place j))
    two_of i j in_i in_j differ =
        ⊎_elim
        (λ less. record {
          names = names_differ p.decls typed.once i j no_decl less in_j;
          apart = λ same. are.apart i j less in_j same;
        })
        (λ past.
        let less : j < i = omega (arith, past, differ) in
        record {
          names = λ same. names_differ p.decls typed.once j i no_decl less in_i (sym same);
          apart = λ same. ⊎_elim (λ a. inr a) (λ b. inl b) (are.apart j i less in_i (sym same));
        })
        (cases_lt i j)

    two_at : (i j : ℕ) (s : Symbol) → i < length p.decls → j < length p.decls → i ≢ j → AreTwo (2 ^ w)
        (get_or (placed_symbols p.decls places) i s) (get_or (placed_symbols p.decls places) j s)
    two_at i j s in_i in_j differ =
        subst (λ x. AreTwo (2 ^ w) x (get_or (placed_symbols p.decls places) j s)) (sym (symbol_is i s in_i))
        (subst (AreTwo (2 ^ w) (placed_symbol (decl i) (place i))) (sym (symbol_is j s in_j))
        (two_of i j in_i in_j differ))

permuted_known : (blocks : List ℕ) (w : ℕ) (xs ys : List Symbol) → IsPermutation xs ys → AreKnown blocks w xs → AreKnown blocks w ys
permuted_known blocks w xs ys permuted known = record {
  lie = All-permutation (SymbolLies blocks w) xs ys permuted known.lie;
  two = each_two_permuted (AreTwo (2 ^ w)) xs ys permuted known.two;
  total = omega (arith, sum_by-IsPermutation (λ (s : Symbol). s.length) xs ys permuted, known.total);
  names = All-permutation (λ s. IsTrue (is_name s.name)) xs ys permuted known.names;
}

-- of two symbols of one bank that are apart, the one with the lower key ends before the other
ends_before : (blocks : List ℕ) (w : ℕ) (s t : Symbol) → SymbolLies blocks w s → SymbolLies blocks w t → AreTwo (2 ^ w) s t
    → 2 ^ w ≤ 512 → s.bank ≡ t.bank → symbol_key s ≤ symbol_key t → end_word (2 ^ w) s ≤ first_word (2 ^ w) t
ends_before blocks w s t s_lies t_lies two range same less =
    ⊎_elim
    (λ ends. ends)
    (λ other.
    ⊎_elim
    (λ lower.
    let more : 2 ^ w * (s.block + 1) ≤ 2 ^ w * t.block = mul-le-mul_left (2 ^ w) (omega (arith, lower)) in
    absurd (omega (arith, more, other, s_lies.word, t_lies.size.0)))
    (λ no_lower.
    let blocks : s.block ≤ t.block = omega (arith, same, less, t_lies.word, range) in
    let equal : s.block ≡ t.block = omega (arith, blocks, no_lower) in
    let words : s.word ≤ t.word = omega (arith, same, equal, less) in
    absurd (omega (arith, ap (λ b. b * 2 ^ w) equal, words, other, t_lies.size.0)))
    (cases_lt s.block t.block))
    (two.apart same)

-- the banks have as many blocks as they may have
abbrev AreFewBlocks : List ℕ → Type 0
AreFewBlocks blocks = (b : ℕ) → b < length blocks → get_or blocks b 0 ≤ most_blocks b

-- a block's number is small
small_block : (blocks : List ℕ) (w : ℕ) (s : Symbol) → AreFewBlocks blocks → SymbolLies blocks w s → s.block < 65536
small_block blocks w s few lies = omega (arith, lies.block, few s.bank lies.bank, most_blocks-le s.bank)

-- the one with the lower key is before the other
stands_before : (blocks : List ℕ) (w : ℕ) (s t : Symbol)
    → AreFewBlocks blocks → SymbolLies blocks w s → SymbolLies blocks w t → AreTwo (2 ^ w) s t
    → 2 ^ w ≤ 512 → symbol_key s ≤ symbol_key t → StandsBefore (2 ^ w) s t
stands_before blocks w s t few s_lies t_lies two range less =
    ⊎_elim
    (λ earlier. InEarlierBank earlier)
    (λ past.
    let same : s.bank ≡ t.bank = omega (arith, past, less, small_block blocks w t few t_lies, t_lies.word, range) in
    AtEarlierWord same (omega (arith, ends_before blocks w s t s_lies t_lies two range same less, s_lies.size.0)))
    (cases_lt s.bank t.bank)

sorted_order : (blocks : List ℕ) (w : ℕ) (symbols : List Symbol)
    → AreFewBlocks blocks → 2 ^ w ≤ 512 → AreKnown blocks w symbols → IsNonDecreasingBy symbol_key symbols
    → AllPairs (StandsBefore (2 ^ w)) symbols
sorted_order blocks w symbols few range known sorted i j d less within =
    let here : i < length symbols = omega (arith, less, within) in
    stands_before blocks w (get_or symbols i d) (get_or symbols j d) few (known.lie i d here) (known.lie j d within)
    (known.two.at i j d here within (omega (arith, less))) range (sorted i j d (omega (arith, less)) within)

-- what it means to be before another
earlier_bank : (size : ℕ) (s t : Symbol) → StandsBefore size s t → s.bank ≤ t.bank
earlier_bank size s t (InEarlierBank bank) = omega (arith, bank)
earlier_bank size s t (AtEarlierWord bank word) = omega (arith, bank)

earlier_end : (size : ℕ) (s t : Symbol)
    → AreTwo size s t → StandsBefore size s t → s.bank ≡ t.bank → end_word size s ≤ first_word size t
earlier_end size s t two (InEarlierBank bank) same = absurd (omega (arith, bank, same))
earlier_end size s t two (AtEarlierWord bank word) same =
    ⊎_elim (λ ends. ends) (λ other. absurd (omega (arith, other, word))) (two.apart same)

-- the last of the symbols before number k
last_of : (f : Symbol → ℕ) (symbols : List Symbol) (k : ℕ) (d : Symbol) → k < length symbols
    → at_last f (take (suc k) symbols) ≡ f (get_or symbols k d)
last_of f symbols k d within =
    at_last-get_or f (take (suc k) symbols) k d (omega (arith, length-take-le (suc k) symbols (omega (arith, within))))
    ∙ ap f (get_or-take (suc k) symbols k d (omega arith))

lies_behind : (blocks : List ℕ) (w : ℕ) (banks : List BankSpec) (symbols : List Symbol) (k : ℕ) (d : Symbol)
    → map (λ b. b.blocks) banks ≡ blocks → AreKnown blocks w symbols → AllPairs (StandsBefore (2 ^ w)) symbols
    → k < length symbols → LiesBehind (2 ^ w) banks (take k symbols) (get_or symbols k d)
lies_behind blocks w banks symbols k d is known order within =
    let s = get_or symbols k d in
    let lies = known.lie k d within in
    let counted : length banks ≡ length blocks = sym (length-map banks (λ (b : BankSpec). b.blocks)) ∙ ap length is in
    let held : (get_or banks s.bank no_bank).blocks ≡ get_or blocks s.bank 0 =
    sym (get_or-map (λ (b : BankSpec). b.blocks) banks s.bank no_bank 0 (omega (arith, lies.bank, counted)))
    ∙ ap (λ (l : List ℕ). get_or l s.bank 0) is in
    record {
      order = by_order k within;
      bank = omega (arith, lies.bank, counted);
      block = omega (arith, lies.block, held);
      word = lies.word;
      apart = by_apart k within;
      length = lies.size;
      inside = subst (λ n. end_word (2 ^ w) s ≤ n * 2 ^ w) (sym held) lies.inside;
    }
  where
    by_order : (k : ℕ) → k < length symbols → last_bank (take k symbols) ≤ (get_or symbols k d).bank
    by_order zero within = omega arith
    by_order (suc k) within =
        omega (
          arith,
          last_of (λ s. s.bank) symbols k d (omega (arith, within)),
          earlier_bank (2 ^ w) (get_or symbols k d) (get_or symbols (suc k) d) (order k (suc k) d (omega arith) within),
        )

    by_apart : (k : ℕ) → k < length symbols → (get_or symbols k d).bank ≡ last_bank (take k symbols)
        → last_end (2 ^ w) (take k symbols) ≤ first_word (2 ^ w) (get_or symbols k d)
    by_apart zero within same = omega arith
    by_apart (suc k) within same =
        let before : k < length symbols = omega (arith, within) in
        let bank = last_of (λ s. s.bank) symbols k d before in
        let end = last_of (end_word (2 ^ w)) symbols k d before in
        let ends = earlier_end (2 ^ w) (get_or symbols k d) (get_or symbols (suc k) d)
        (known.two.at k (suc k) d before within (omega arith)) (order k (suc k) d (omega arith) within)
        (sym (same ∙ bank)) in
        omega (arith, end, ends)

symbols_fit : (blocks : List ℕ) (w : ℕ) (banks : List BankSpec) (symbols : List Symbol)
    → map (λ b. b.blocks) banks ≡ blocks → AreKnown blocks w symbols → AllPairs (StandsBefore (2 ^ w)) symbols
    → EachAfter (SymbolFits (2 ^ w) banks) [] symbols
symbols_fit blocks w banks symbols is known order =
    EachAfter-from_below (SymbolFits (2 ^ w) banks) symbols (λ k d within. record {
      name = known.names k d within;
      new = λ i e less.
          let low : i < k = omega (arith, less, length-take-le k symbols (omega (arith, within))) in
          subst (λ (x : Symbol). x.name ≢ (get_or symbols k d).name) (sym (get_or-take k symbols i e low))
          (names_at symbols known i k e d low within);
      lies = lies_behind blocks w banks symbols k d is known order within;
      total = omega (arith, sum_by_more_le (λ (s : Symbol). s.length) symbols k d within, known.total);
    })
  where
    names_at : (symbols : List Symbol) → AreKnown blocks w symbols → (i k : ℕ) (e d : Symbol) → i < k → k < length symbols
        → (get_or symbols i e).name ≢ (get_or symbols k d).name
    names_at symbols known i k e d low within =
        subst (λ (x : Symbol). (get_or symbols i e).name ≢ x.name) (get_or_default symbols k e d within)
        (known.two.at i k e (omega (arith, low, within)) within (omega (arith, low))).names

-- the symbols of a program, in order of bank and place
pub symbols_sorted : (p : Source) (w : ℕ) (blocks : List ℕ) (places : List Place) (symbols : List Symbol)
    → IsTyped p → IsWithinLimits p → Within 3 9 w → ArePlacesIn p w blocks places
    → All (λ s. IsTrue (is_name s.name)) (placed_symbols p.decls places)
    → IsPermutation (placed_symbols p.decls places) symbols → IsNonDecreasingBy symbol_key symbols
    → AreSymbolsAt p w places symbols
symbols_sorted p w blocks places symbols typed limits log are names permuted sorted = record {
  each = permuted;
  order = sorted_order blocks w symbols are.limits (block_range w log).1
      (permuted_known blocks w (placed_symbols p.decls places) symbols permuted
      (placed_known p w blocks places typed limits are names)) sorted;
}

-- the symbols of a program are in range, in an object with its banks
pub symbols_in_range : (p : Source) (w : ℕ) (blocks : List ℕ) (places : List Place) (banks : List BankSpec)
    (symbols : List Symbol) → IsTyped p → IsWithinLimits p → ArePlacesIn p w blocks places
    → All (λ s. IsTrue (is_name s.name)) (placed_symbols p.decls places)
    → AreSymbolsAt p w places symbols → map (λ b. b.blocks) banks ≡ blocks
    → EachAfter (SymbolFits (2 ^ w) banks) [] symbols
symbols_in_range p w blocks places banks symbols typed limits are names sorted is =
    symbols_fit blocks w banks symbols is
    (permuted_known blocks w (placed_symbols p.decls places) symbols sorted.each
    (placed_known p w blocks places typed limits are names))
    sorted.order
