-- Alike expressions, and assignments that pair, show the same events in secret code and leave the same in the slots.
use Rattle.std.proofs.Common.{length, suc, ◌≡◌, ℕ, ◌≤◌, ◌==◌, Bool, true, false, not, ◌&&◌, ℤ, pos, List, [], ◌∷◌, ◌++◌, Option, Some, None, refl, sym, ap, ◌∙◌, arith}
use Rattle.std.specs.Prelude.{if◌then◌else◌, is_some}
use Rattle.std.proofs.lemmas.Bool.{le-ltb, ne_eqb}
use Rattle.gr_word.specs.declared.operations.Op.{Op}
use Rattle.gr_word.specs.declared.operations.Op.TheVariants.{Add, Sub, Mul, Div, Rem, Remu, And, Or, Xor, Shl, Shr}
use Rattle.gr_word.specs.declared.variables.Label.TheVariants.{Secret}
use Rattle.gr_word.specs.declared.variables.Shape.TheVariants.{Array}
use Rattle.lt_isa.specs.declared.profiles.Profile.{Profile}
use Rattle.lt_isa.specs.Prelude.{Parts, is_ram, is_eram, operation_cost}
use Rattle.symbolic_values.specs.Prelude.{Value}
use Rattle.src_tree.specs.Prelude.{context_of, Tree, Number, Statement, UsedAs, TypedTree, TypedStatement}
use Rattle.trace_patterns.specs.Prelude.{Oram, SymSlot, OramSlot}
use Rattle.stretches.specs.Prelude.{Show, Gap, Seen, pattern_of}
use Rattle.block_cache_gen.specs.Prelude.{further_slots, Home, Setting, home_of, register_for, HasHomes, has_offset, is_cached, is_masked, is_within_home, is_power, literal, fixed_index, held_number, reducing, reducer, operand, operand_part, operand_unless, left_operand, steps_at, straight, index_by, store_shows, shows_among, read_shows_by, read_shows, stored_shows_by, stored_shows, applied_shows, operand_tree, scalar_shows, write_shows, operation_gap, word_shows, block_tree, found_shows, plain_loaded, encrypted_loaded, block_loaded, load_shows, placed_shows, shows_by, loads_by, Loads, then_loads, one_load, index_loads, no_loads, operation_shows, operation_loads, element_slot, access_shows, access_loads, tree_of_expr, shows_of_expr, slots_of_expr, shows_of_set, slots_of_set, pattern_of_expr, pattern_of_set, scalar_set_shows, is_product, AreNumbersAlike, InOneBank, AreNumberedAlike, BothWithin, BothReduced, AreReducedAlike, Residents, ToResidents, Alike, Numbers, Scalars, Oblivious, Same, Operations, ByNumber, Pair, ToScalars, ToOblivious, ToSame}
use Rattle.strength_reduction.specs.Prelude.{Step}
use Rattle.block_cache_gen.proofs.StepsAt.{not-stepped}
use Rattle.scalar_ranges.specs.Prelude.{is_within}
use Rattle.bank_alloc.proofs.Apart.{scalar_bank-lt}
use Rattle.block_cache_gen.proofs.HomeFacts.{serves-oblivious}
use Rattle.word_selection.specs.Selection as selection

-- operations that are both products, or neither, take the same cycles
abbrev kind_cost : Profile → Bool → ℕ
kind_cost p true = p.mul
kind_cost p false = p.alu

cost-by_kind : (p : Profile) (op : Op) → operation_cost p op ≡ kind_cost p (is_product op)
cost-by_kind p Add = refl
cost-by_kind p Sub = refl
cost-by_kind p Mul = refl
cost-by_kind p Div = refl
cost-by_kind p Rem = refl
cost-by_kind p Remu = refl
cost-by_kind p And = refl
cost-by_kind p Or = refl
cost-by_kind p Xor = refl
cost-by_kind p Shl = refl
cost-by_kind p Shr = refl

alike-cost : (f : Setting) (op oq : Op) → is_product op ≡ is_product oq → operation_gap f op ≡ operation_gap f oq
alike-cost f op oq same =
    ap Gap (cost-by_kind f.profile op ∙ ap (kind_cost f.profile) same ∙ sym (cost-by_kind f.profile oq))

-- an oblivious bank: nothing is cached, an index is always reduced by a remainder, and a load shows only the bank
module _ (f : Setting) (h : Home) (oblivious : 2 ≤ h.bank) where
  not_cached : is_cached h ≡ false
  not_cached = le-ltb h.bank 2 oblivious

  pub oblivious-fixed : (i : Tree) → fixed_index h i ≡ None
  oblivious-fixed i = ap (λ (b : Bool). if b then literal i else None) not_cached

  oblivious-reducing : reducing h ≡ Remu
  oblivious-reducing = ap (λ (b : Bool). if (b && is_power h.length) then And else Remu) not_cached

  -- the cycles of finding a word and its block
  abbrev oblivious-found : Op → List Show → List Show → List Show
  oblivious-found op reduced block =
      (reduced ++ operation_gap f op ∷ [])
      ++ (applied_shows f Shr (pos f.profile.block_log) ++ (block ++ operation_gap f Add ∷ []))

  oblivious-loaded : (block : Option Value) → block_loaded f h.bank block ≡ OramSlot h.bank
  oblivious-loaded block =
      let ram : is_ram h.bank ≡ false = ne_eqb h.bank 0 (λ e. absurd (omega arith)) in
      let eram : is_eram h.bank ≡ false = ne_eqb h.bank 1 (λ e. absurd (omega arith)) in
      λ i. if ram i then plain_loaded f block else (if eram i then encrypted_loaded f block else OramSlot h.bank)

  -- the cycles of a number that an instruction sets, unless a register holds it
  abbrev set_shows : ℤ → List Show
  set_shows z = operand_part (held_number f z) (Gap 1 ∷ [])

  -- what its access shows and loads
  abbrev oblivious_shows : ℕ → (reduced block shows : List Show) → List Show
  oblivious_shows bank reduced block shows =
      (shows ++ oblivious-found Remu reduced block) ++ Seen (Oram bank) ∷ []

  oblivious-slot : (near : Bool) (i : Tree) (index : Option Value)
      → element_slot near f h (fixed_index h i) index ≡ OramSlot h.bank
  oblivious-slot near i index = oblivious-loaded (block_tree near f h (fixed_index h i) index)

  -- no index is taken as it is
  oblivious-within : (i : Tree) → is_within_home f h i ≡ false
  oblivious-within i =
      ap (λ (b : Bool). f.reduces && (b && is_within f.decls f.ranges i h.length)) not_cached ∙ never f.reduces
    where
      never : (b : Bool) → (b && false) ≡ false
      never true = refl
      never false = refl

  oblivious-shows : (i : Tree) (index : Option Value) (shows : List Show)
      → shows_by false false f h (fixed_index h i) index shows
      ≡ oblivious_shows h.bank (set_shows (reducer h)) (set_shows (pos h.block)) shows
  oblivious-shows i index shows =
      let op = oblivious-reducing in
      let fixed = oblivious-fixed i in
      let slot = oblivious-slot false i index in
      (λ j. found_shows false f h (fixed j) shows ++ load_shows (slot j))
      ∙ λ j.
      (shows ++ oblivious-found (op j) (set_shows (reducer h)) (set_shows (pos h.block))) ++ Seen (Oram h.bank) ∷ []

  oblivious-loads : (near : Bool) (i : Tree) (index : Option Value) (loads : Loads)
      → loads_by false near f h (fixed_index h i) index loads ≡ then_loads loads (one_load h.slot (OramSlot h.bank))
  oblivious-loads near i index loads =
      let fixed = oblivious-fixed i in
      let slot = oblivious-slot near i index in
      λ j. then_loads (index_loads (fixed j) loads) (one_load h.slot (slot j))

-- only numbers are alike to a number
pub alike-literal : (f : Setting) (i j : Tree) → Alike f i j → is_some (literal i) ≡ is_some (literal j)
alike-literal f i j (Numbers y z one) = refl
alike-literal f i j (Scalars x y one) = refl
alike-literal f i j (Oblivious x y k l one alike) = refl
alike-literal f i j (Residents x y k l one alike) = refl
alike-literal f i j (Same x k cached) = refl
alike-literal f i j (Operations op oq a b c d plain other kind left right) = refl
alike-literal f i j (ByNumber op a c z left) = refl

pub alike-fixed : (f : Setting) (h g : Home) (i j : Tree) → is_cached h ≡ is_cached g → Alike f i j
    → is_some (fixed_index h i) ≡ is_some (fixed_index g j)
alike-fixed f h g i j low alike =
    by (is_cached h) ∙ ap (λ (b : Bool). is_some (if b then literal j else None)) low
  where
    by : (b : Bool) → is_some (if b then literal i else None) ≡ is_some (if b then literal j else None)
    by true = alike-literal f i j alike
    by false = refl

-- parts of operands that registers hold, or that none holds
part-alike : (one other : Option ℕ) (shows more : List Show) → is_some one ≡ is_some other → shows ≡ more
    → operand_part one shows ≡ operand_part other more
part-alike (Some r) (Some q) shows more held same = refl
part-alike None None shows more held same = same
part-alike (Some r) None shows more held same = absurd (let e : true ≡ false = held in cc)
part-alike None (Some q) shows more held same = absurd (let e : false ≡ true = held in cc)

-- the places of words of two resident arrays are found alike
set-alike : (f : Setting) (y z : ℤ) → AreNumbersAlike f y z
    → operand_part (held_number f y) (Gap 1 ∷ []) ≡ operand_part (held_number f z) (Gap 1 ∷ [])
set-alike f y z held = part-alike (held_number f y) (held_number f z) (Gap 1 ∷ []) (Gap 1 ∷ []) held refl

placed-alike : (f : Setting) (h g : Home) (one other : Option ℤ) (shows more : List Show) → is_masked h ≡ is_masked g
    → (h.word == 0) ≡ (g.word == 0) → AreNumbersAlike f (reducer h) (reducer g)
    → AreNumbersAlike f (pos h.word) (pos g.word) → is_some one ≡ is_some other → shows ≡ more
    → placed_shows false f h one shows ≡ placed_shows false f g other more
placed-alike f h g (Some y) (Some z) shows more masked first reduced word fixed same = refl
placed-alike f h g None None shows more masked first reduced word fixed same =
    let one = set-alike f (reducer h) (reducer g) reduced in
    let two = set-alike f (pos h.word) (pos g.word) word in
    λ k. same k
    ++ ((one k ++ operation_gap f (if masked k then And else Remu) ∷ [])
    ++ (if first k then [] else two k ++ operation_gap f Add ∷ []))
placed-alike f h g (Some y) None shows more masked first reduced word fixed same =
    absurd (let e : true ≡ false = fixed in cc)
placed-alike f h g None (Some z) shows more masked first reduced word fixed same =
    absurd (let e : false ≡ true = fixed in cc)

-- so are those of two whose indexes are the numbers of the words
placed-within : (f : Setting) (h g : Home) (one other : Option ℤ) (shows more : List Show)
    → (h.word == 0) ≡ (g.word == 0) → AreNumbersAlike f (pos h.word) (pos g.word) → is_some one ≡ is_some other
    → shows ≡ more → placed_shows true f h one shows ≡ placed_shows true f g other more
placed-within f h g (Some y) (Some z) shows more first word fixed same = refl
placed-within f h g None None shows more first word fixed same =
    let two = set-alike f (pos h.word) (pos g.word) word in
    λ k. same k ++ ([] ++ (if first k then [] else two k ++ operation_gap f Add ∷ []))
placed-within f h g (Some y) None shows more first word fixed same = absurd (let e : true ≡ false = fixed in cc)
placed-within f h g None (Some z) shows more first word fixed same = absurd (let e : false ≡ true = fixed in cc)

-- their words are read and stored alike
read-alike : (f : Setting) (g h : Home) (one other : Option ℤ) → is_some one ≡ is_some other
    → length (further_slots g) ≡ length (further_slots h) → read_shows_by true f g one ≡ read_shows_by true f h other
read-alike f g h (Some y) (Some z) fixed same = refl
read-alike f g h None None fixed same = ap (λ (n : ℕ). selection.read_shows f.profile (suc n)) same
read-alike f g h (Some y) None fixed same = absurd (let e : true ≡ false = fixed in cc)
read-alike f g h None (Some z) fixed same = absurd (let e : false ≡ true = fixed in cc)

stored-alike : (f : Setting) (g h : Home) (one other : Option ℤ) (bound found : SymSlot) → is_some one ≡ is_some other
    → length (further_slots g) ≡ length (further_slots h) → stored_shows_by true f g one bound ≡ stored_shows_by true f h other found
stored-alike f g h (Some y) (Some z) bound found fixed same = refl
stored-alike f g h None None bound found fixed same = ap (shows_among f) same
stored-alike f g h (Some y) None bound found fixed same = absurd (let e : true ≡ false = fixed in cc)
stored-alike f g h None (Some z) bound found fixed same = absurd (let e : false ≡ true = fixed in cc)

-- what is the same for any register goes by whether one holds the value
by_whether-held : {A : Type 0} (shows : Option ℕ → A) → ((r q : ℕ) → shows (Some r) ≡ shows (Some q))
    → (one other : Option ℕ) → is_some one ≡ is_some other → shows one ≡ shows other
by_whether-held shows all (Some r) (Some q) same = all r q
by_whether-held shows all None None same = refl
by_whether-held shows all (Some r) None same = absurd (let e : true ≡ false = same in cc)
by_whether-held shows all None (Some q) same = absurd (let e : false ≡ true = same in cc)

-- so are two scalars, and the writes to them, if registers hold both or neither
scalar-alike : (f : Setting) (one other : Option ℕ) → is_some one ≡ is_some other
    → scalar_shows f one ≡ scalar_shows f other
scalar-alike f one other same = by_whether-held (scalar_shows f) (λ r q. refl) one other same

write-alike : (f : Setting) (one other : Option ℕ) → is_some one ≡ is_some other
    → write_shows f one ≡ write_shows f other
write-alike f one other same = by_whether-held (write_shows f) (λ r q. refl) one other same

-- registers hold alike expressions for the whole run, or neither
alike-held : (f : Setting) (a b : Tree) → Alike f a b → is_some (operand f a) ≡ is_some (operand f b)
alike-held f a b (Numbers y z one) = one
alike-held f a b (Scalars x y one) = one
alike-held f a b other = refl

unless-alike : (never : Bool) (one other : Option ℕ) → is_some one ≡ is_some other
    → is_some (operand_unless never one) ≡ is_some (operand_unless never other)
unless-alike true one other same = refl
unless-alike false one other same = same

-- operands that are alike
operand-alike : (f : Setting) (a b : Tree) → Alike f a b → shows_of_expr f a ≡ shows_of_expr f b
    → operand_part (operand f a) (shows_of_expr f a) ≡ operand_part (operand f b) (shows_of_expr f b)
operand-alike f a b alike same =
    part-alike (operand f a) (operand f b) (shows_of_expr f a) (shows_of_expr f b) (alike-held f a b alike) same

-- the tree and the cycles of an index, and what the access to an array by it shows
abbrev index_tree : (near : Bool) → Setting → List ℕ → Tree → Option Value
index_tree near f x i = operand_tree f (index_by near f (home_of f x) i) (tree_of_expr f i)

abbrev index_shows : (near : Bool) → Setting → List ℕ → Tree → List Show
index_shows near f x i = operand_part (index_by near f (home_of f x) i) (shows_of_expr f i)

abbrev array_shows : (near : Bool) → Setting → List ℕ → Tree → List Show
array_shows near f x i =
    access_shows near f (home_of f x) (fixed_index (home_of f x) i) (index_tree near f x i) (index_shows near f x i)

-- an index is known to be below the length of an array
abbrev is_near : Setting → List ℕ → Tree → Bool
is_near f x i = is_within_home f (home_of f x) i

loads-alike : (one other : Option ℤ) (loads more : Loads) → is_some one ≡ is_some other → loads ≡ more
    → index_loads one loads ≡ index_loads other more
loads-alike (Some y) (Some z) loads more fixed same = refl
loads-alike None None loads more fixed same = same
loads-alike (Some y) None loads more fixed same = absurd (let e : true ≡ false = fixed in cc)
loads-alike None (Some z) loads more fixed same = absurd (let e : false ≡ true = fixed in cc)

module _ (o : Parts) (f : Setting) (homes : HasHomes o f) where
  -- an array of an oblivious bank isn't resident
  oblivious-turn : (x : List ℕ) → UsedAs (context_of f.decls) x Array → 2 ≤ (home_of f x).bank
      → (home_of f x).resident ≡ false
  oblivious-turn x used oblivious = by (home_of f x).resident refl
    where
      by : (b : Bool) → (home_of f x).resident ≡ b → b ≡ false
      by true is =
          let home = homes.residents x used.0 Array used.1 is in
          let low = scalar_bank-lt used.0 in
          absurd (omega (arith, home.bank))
      by false is = refl

  -- the accesses of two arrays of one oblivious bank
  both-shows : (x y : List ℕ) (i j : Tree) → InOneBank f x y → Alike f i j
      → UsedAs (context_of f.decls) x Array → UsedAs (context_of f.decls) y Array
      → shows_of_expr f i ≡ shows_of_expr f j
      → array_shows (is_near f x i) f x i ≡ array_shows (is_near f y j) f y j
  both-shows x y i j one alike left right shown =
      let g = home_of f x in
      let h = home_of f y in
      let high : 2 ≤ h.bank = omega (arith, one.oblivious, one.same) in
      let reduced = set-alike f (reducer g) (reducer h) one.reduced in
      let block = set-alike f (pos g.block) (pos h.block) one.blocks in
      let same = operand-alike f i j alike shown in
      let index = index_tree false f x i in
      let other = index_tree false f y j in
      let shows = index_shows false f x i in
      let more = index_shows false f y j in
      ap (λ (b : Bool). array_shows b f x i) (oblivious-within f g one.oblivious i)
      ∙ ap (λ (b : Bool). shows_by b false f g (fixed_index g i) index shows) (oblivious-turn x left one.oblivious)
      ∙ oblivious-shows f g one.oblivious i index shows
      ∙ (λ k. oblivious_shows f g one.oblivious (one.same k) (reduced k) (block k) (same k))
      ∙ sym (oblivious-shows f h high j other more)
      ∙ sym (ap (λ (b : Bool). shows_by b false f h (fixed_index h j) other more) (oblivious-turn y right high))
      ∙ sym (ap (λ (b : Bool). array_shows b f y j) (oblivious-within f h high j))

  both-loads : (x y : List ℕ) (i j : Tree) (near far : Bool) (index other : Option Value) → InOneBank f x y
      → UsedAs (context_of f.decls) x Array → UsedAs (context_of f.decls) y Array
      → slots_of_expr f i ≡ slots_of_expr f j
      → access_loads near f (home_of f x) (fixed_index (home_of f x) i) index (slots_of_expr f i)
      ≡ access_loads far f (home_of f y) (fixed_index (home_of f y) j) other (slots_of_expr f j)
  both-loads x y i j near far index other one left right same =
      let g = home_of f x in
      let h = home_of f y in
      let high : 2 ≤ h.bank = omega (arith, one.oblivious, one.same) in
      let turn = oblivious-turn x left one.oblivious in
      let turn' = oblivious-turn y right high in
      let first = serves-oblivious (homes.arrays x left.0 left.1 turn).slot one.oblivious in
      let second = serves-oblivious (homes.arrays y right.0 right.1 turn').slot high in
      let slot = first ∙ sym second in
      ap (λ (b : Bool). loads_by b near f g (fixed_index g i) index (slots_of_expr f i)) turn
      ∙ oblivious-loads f g one.oblivious near i index (slots_of_expr f i)
      ∙ (λ k. then_loads (same k) (one_load (slot k) (OramSlot (one.same k))))
      ∙ sym (oblivious-loads f h high far j other (slots_of_expr f j))
      ∙ sym (ap (λ (b : Bool). loads_by b far f h (fixed_index h j) other (slots_of_expr f j)) turn')

  -- those of two resident arrays
  resident-shows : (x y : List ℕ) (i j : Tree) → AreReducedAlike f x y i j → Alike f i j
      → shows_of_expr f i ≡ shows_of_expr f j
      → array_shows (is_near f x i) f x i ≡ array_shows (is_near f y j) f y j
  resident-shows x y i j one alike shown = by one.numbered
    where
      by : AreNumberedAlike f x y i j → array_shows (is_near f x i) f x i ≡ array_shows (is_near f y j) f y j
      by (BothWithin near far) =
          let g = home_of f x in
          let h = home_of f y in
          let shows = index_shows true f x i in
          let more = index_shows true f y j in
          let turn = one.first ∙ sym one.second in
          let whole = one.offset in
          let same : has_offset g ≡ has_offset h = (λ k. turn k && not (whole k)) in
          let held = ap (λ (b : Bool). is_some (operand_unless (not b) (operand f i))) same
          ∙ unless-alike (not (has_offset h)) (operand f i) (operand f j) (alike-held f i j alike) in
          let part = part-alike (index_by true f g i) (index_by true f h j) (shows_of_expr f i) (shows_of_expr f j) held
          shown in
          ap (λ (b : Bool). array_shows b f x i) near
          ∙ ap (λ (b : Bool). shows_by b true f g (fixed_index g i) (index_tree true f x i) shows) one.first
          ∙ placed-within f g h (fixed_index g i) (fixed_index h j) shows more one.offset one.words
          (alike-fixed f g h i j one.low alike) part
          ∙ sym (ap (λ (b : Bool). shows_by b true f h (fixed_index h j) (index_tree true f y j) more) one.second)
          ∙ sym (ap (λ (b : Bool). array_shows b f y j) far)
      by (BothReduced reduced) =
          let g = home_of f x in
          let h = home_of f y in
          let shows = index_shows false f x i in
          let more = index_shows false f y j in
          ap (λ (b : Bool). array_shows b f x i) reduced.first
          ∙ ap (λ (b : Bool). shows_by b false f g (fixed_index g i) (index_tree false f x i) shows) one.first
          ∙ placed-alike f g h (fixed_index g i) (fixed_index h j) shows more reduced.masked
          one.offset reduced.reduced one.words (alike-fixed f g h i j one.low alike) (operand-alike f i j alike shown)
          ∙ sym (ap (λ (b : Bool). shows_by b false f h (fixed_index h j) (index_tree false f y j) more) one.second)
          ∙ sym (ap (λ (b : Bool). array_shows b f y j) reduced.second)

  resident-loads : (x y : List ℕ) (i j : Tree) (near far : Bool) (index other : Option Value)
      → AreReducedAlike f x y i j → Alike f i j → slots_of_expr f i ≡ slots_of_expr f j
      → access_loads near f (home_of f x) (fixed_index (home_of f x) i) index (slots_of_expr f i)
      ≡ access_loads far f (home_of f y) (fixed_index (home_of f y) j) other (slots_of_expr f j)
  resident-loads x y i j near far index other one alike same =
      let g = home_of f x in
      let h = home_of f y in
      ap (λ (b : Bool). loads_by b near f g (fixed_index g i) index (slots_of_expr f i)) one.first
      ∙ loads-alike (fixed_index g i) (fixed_index h j) (slots_of_expr f i) (slots_of_expr f j)
      (alike-fixed f g h i j one.low alike) same
      ∙ sym (ap (λ (b : Bool). loads_by b far f h (fixed_index h j) other (slots_of_expr f j)) one.second)

  -- reads and stores of words of two resident arrays, and of two that aren't
  resident-reads : (x y : List ℕ) (i j : Tree) → AreReducedAlike f x y i j → Alike f i j
      → read_shows f (home_of f x) (fixed_index (home_of f x) i) ≡ read_shows f (home_of f y) (fixed_index (home_of f y) j)
  resident-reads x y i j one alike =
      let g = home_of f x in
      let h = home_of f y in
      ap (λ (b : Bool). read_shows_by b f g (fixed_index g i)) one.first
      ∙ read-alike f g h (fixed_index g i) (fixed_index h j) (alike-fixed f g h i j one.low alike) one.blocks
      ∙ sym (ap (λ (b : Bool). read_shows_by b f h (fixed_index h j)) one.second)

  resident-stores : (x y : List ℕ) (i j : Tree) (bound other : SymSlot) → AreReducedAlike f x y i j → Alike f i j
      → stored_shows f (home_of f x) (fixed_index (home_of f x) i) bound
      ≡ stored_shows f (home_of f y) (fixed_index (home_of f y) j) other
  resident-stores x y i j bound other one alike =
      let g = home_of f x in
      let h = home_of f y in
      ap (λ (b : Bool). stored_shows_by b f g (fixed_index g i) bound) one.first
      ∙ stored-alike f g h (fixed_index g i) (fixed_index h j) bound other (alike-fixed f g h i j one.low alike) one.blocks
      ∙ sym (ap (λ (b : Bool). stored_shows_by b f h (fixed_index h j) other) one.second)

  both-reads : (x y : List ℕ) (i j : Tree) → InOneBank f x y → UsedAs (context_of f.decls) x Array
      → UsedAs (context_of f.decls) y Array
      → read_shows f (home_of f x) (fixed_index (home_of f x) i) ≡ read_shows f (home_of f y) (fixed_index (home_of f y) j)
  both-reads x y i j one left right =
      let g = home_of f x in
      let h = home_of f y in
      let high : 2 ≤ h.bank = omega (arith, one.oblivious, one.same) in
      ap (λ (b : Bool). read_shows_by b f g (fixed_index g i)) (oblivious-turn x left one.oblivious)
      ∙ sym (ap (λ (b : Bool). read_shows_by b f h (fixed_index h j)) (oblivious-turn y right high))

  -- alike expressions
  pub alike-shows : (a b : Tree) → Alike f a b → TypedTree (context_of f.decls) a → TypedTree (context_of f.decls) b
      → shows_of_expr f a ≡ shows_of_expr f b
  alike-shows a b (Numbers y z one) left right = refl
  alike-shows a b (Scalars x y one) left right = scalar-alike f (register_for f x) (register_for f y) one
  alike-shows a b (Oblivious x y i j one alike) left right =
      let found = both-shows x y i j one alike left.0 right.0 (alike-shows i j alike left.1.0 right.1.0) in
      let reads = both-reads x y i j one left.0 right.0 in
      λ k. found k ++ reads k
  alike-shows a b (Residents x y i j one alike) left right =
      let found = resident-shows x y i j one alike (alike-shows i j alike left.1.0 right.1.0) in
      let reads = resident-reads x y i j one alike in
      λ k. found k ++ reads k
  alike-shows a b (Same x i cached) left right = refl
  alike-shows a b (Operations op oq l r m s plain other kind one two) left right =
      let first = operand-alike f l m one (alike-shows l m one left.0 right.0) in
      let second = operand-alike f r s two (alike-shows r s two left.1 right.1) in
      let gap = alike-cost f op oq kind in
      let none = not-stepped f op r plain in
      let none' = not-stepped f oq s other in
      ap (λ (found : Option (List Step)).
      operand_part (operand_unless (is_some found) (operand f l)) (shows_of_expr f l)
      ++ operation_shows f op found (operand_part (operand f r) (shows_of_expr f r))) none
      ∙ (λ k. first k ++ (second k ++ gap k ∷ []))
      ∙ sym (ap (λ (found : Option (List Step)).
      operand_part (operand_unless (is_some found) (operand f m)) (shows_of_expr f m)
      ++ operation_shows f oq found (operand_part (operand f s) (shows_of_expr f s))) none')
  alike-shows a b (ByNumber op l m z one) left right =
      let by = Number z in
      let never = is_some (steps_at f op by) in
      let held = unless-alike never (operand f l) (operand f m) (alike-held f l m one) in
      ap (λ (shows : List Show). shows ++ operation_shows f op (steps_at f op by) (operand_part (operand f by) (Gap 1 ∷ [])))
      (part-alike (left_operand f op l by) (left_operand f op m by) (shows_of_expr f l) (shows_of_expr f m) held
      (alike-shows l m one left.0 right.0))

  pub alike-slots : (a b : Tree) → Alike f a b → TypedTree (context_of f.decls) a → TypedTree (context_of f.decls) b
      → slots_of_expr f a ≡ slots_of_expr f b
  alike-slots a b (Oblivious x y i j one alike) left right =
      both-loads x y i j (is_near f x i) (is_near f y j) (index_tree (is_near f x i) f x i)
      (index_tree (is_near f y j) f y j)
      one left.0 right.0 (alike-slots i j alike left.1.0 right.1.0)
  alike-slots a b (Residents x y i j one alike) left right =
      resident-loads x y i j (is_near f x i) (is_near f y j) (index_tree (is_near f x i) f x i)
      (index_tree (is_near f y j) f y j) one alike (alike-slots i j alike left.1.0 right.1.0)
  alike-slots a b (Operations op oq l r m s plain other kind one two) left right =
      let first = alike-slots l m one left.0 right.0 in
      let second = alike-slots r s two left.1 right.1 in
      let none = not-stepped f op r plain in
      let none' = not-stepped f oq s other in
      ap (λ (found : Option (List Step)). then_loads (slots_of_expr f l) (operation_loads found (slots_of_expr f r))) none
      ∙ (λ k. then_loads (first k) (second k))
      ∙ sym (ap (λ (found : Option (List Step)).
      then_loads (slots_of_expr f m) (operation_loads found (slots_of_expr f s))) none')
  alike-slots a b (ByNumber op l m z one) left right =
      ap (λ (loads : Loads). then_loads loads (operation_loads (steps_at f op (Number z)) no_loads))
      (alike-slots l m one left.0 right.0)
  alike-slots a b other left right = refl

  pub alike-patterns : (a b : Tree) → Alike f a b → TypedTree (context_of f.decls) a
      → TypedTree (context_of f.decls) b → pattern_of_expr f a ≡ pattern_of_expr f b
  alike-patterns a b alike left right = ap pattern_of (alike-shows a b alike left right)

  -- the block of an element that is assigned to
  abbrev array_slot : List ℕ → Tree → SymSlot
  array_slot x i =
      element_slot (is_near f x i) f (home_of f x) (fixed_index (home_of f x) i) (index_tree (is_near f x i) f x i)

  -- assignments that pair
  pub pair-shows : (s t : Statement) → Pair f s t → TypedStatement (context_of f.decls) Secret s
      → TypedStatement (context_of f.decls) Secret t → shows_of_set f s ≡ shows_of_set f t
  pair-shows s t (ToScalars x y e g one both alike) left right = by (straight f x e) (straight f y g) both
    where
      by : (p q : Option ℕ) → is_some p ≡ is_some q → scalar_set_shows p f x e ≡ scalar_set_shows q f y g
      by None None same =
          let first = operand-alike f e g alike (alike-shows e g alike left.1.0 right.1.0) in
          let last = write-alike f (register_for f x) (register_for f y) one in
          λ k. first k ++ last k
      by (Some p) (Some q) same = alike-shows e g alike left.1.0 right.1.0
      by (Some p) None same = absurd (let e : true ≡ false = same in cc)
      by None (Some q) same = absurd (let e : false ≡ true = same in cc)
  pair-shows s t (ToResidents x y i j e g one index value) left right =
      let first = operand-alike f e g value (alike-shows e g value left.1.0 right.1.0) in
      let second = resident-shows x y i j one index (alike-shows i j index left.0.1.0 right.0.1.0) in
      let last = resident-stores x y i j (array_slot x i) (array_slot y j) one index in
      λ k. first k ++ (second k ++ last k)
  pair-shows s t (ToOblivious x y i j e g one index value) left right =
      let first = operand-alike f e g value (alike-shows e g value left.1.0 right.1.0) in
      let second = both-shows x y i j one index left.0.0 right.0.0 (alike-shows i j index left.0.1.0 right.0.1.0) in
      let turn = oblivious-turn x left.0.0 one.oblivious in
      let turn' = oblivious-turn y right.0.0 (omega (arith, one.oblivious, one.same)) in
      let other : 2 ≤ (home_of f y).bank = omega (arith, one.oblivious, one.same) in
      let near = is_near f x i in
      let far = is_near f y j in
      let slot = oblivious-slot f (home_of f x) one.oblivious near i (index_tree near f x i) ∙ ap OramSlot one.same
      ∙ sym (oblivious-slot f (home_of f y) other far j (index_tree far f y j)) in
      let last : stored_shows f (home_of f x) (fixed_index (home_of f x) i) (array_slot x i)
      ≡ stored_shows f (home_of f y) (fixed_index (home_of f y) j) (array_slot y j) =
      ap (λ (b : Bool). stored_shows_by b f (home_of f x) (fixed_index (home_of f x) i) (array_slot x i)) turn
      ∙ ap (λ (bound : SymSlot). word_shows f.reduces f ++ store_shows bound) slot
      ∙ sym (ap (λ (b : Bool). stored_shows_by b f (home_of f y) (fixed_index (home_of f y) j) (array_slot y j))
      turn') in
      λ k. first k ++ (second k ++ last k)
  pair-shows s t (ToSame x i e g encrypted value) left right =
      ap (λ (shows : List Show).
      shows
      ++ (array_shows (is_near f x i) f x i
      ++ stored_shows f (home_of f x) (fixed_index (home_of f x) i) (array_slot x i)))
      (operand-alike f e g value (alike-shows e g value left.1.0 right.1.0))

  -- two statements that pair leave the slots alike
  pub pair-slots : (s t : Statement) → Pair f s t → TypedStatement (context_of f.decls) Secret s
      → TypedStatement (context_of f.decls) Secret t → slots_of_set f s ≡ slots_of_set f t
  pair-slots s t (ToScalars x y e g one both alike) left right = alike-slots e g alike left.1.0 right.1.0
  pair-slots s t (ToOblivious x y i j e g one index value) left right =
      let first = alike-slots e g value left.1.0 right.1.0 in
      let second = both-loads x y i j (is_near f x i) (is_near f y j) (index_tree (is_near f x i) f x i)
      (index_tree (is_near f y j) f y j) one left.0.0 right.0.0 (alike-slots i j index left.0.1.0 right.0.1.0) in
      λ k. then_loads (first k) (second k)
  pair-slots s t (ToResidents x y i j e g one index value) left right =
      let first = alike-slots e g value left.1.0 right.1.0 in
      let second = resident-loads x y i j (is_near f x i) (is_near f y j) (index_tree (is_near f x i) f x i)
      (index_tree (is_near f y j) f y j) one index (alike-slots i j index left.0.1.0 right.0.1.0) in
      λ k. then_loads (first k) (second k)
  pair-slots s t (ToSame x i e g encrypted value) left right =
      ap (λ (loads : Loads).
      then_loads loads
      (access_loads (is_near f x i) f (home_of f x) (fixed_index (home_of f x) i) (index_tree (is_near f x i) f x i)
      (slots_of_expr f i)))
      (alike-slots e g value left.1.0 right.1.0)

  pub pair-patterns : (s t : Statement) → Pair f s t → TypedStatement (context_of f.decls) Secret s
      → TypedStatement (context_of f.decls) Secret t → pattern_of_set f s ≡ pattern_of_set f t
  pair-patterns s t pairs left right = ap pattern_of (pair-shows s t pairs left right)
