-- How many stores of a word the code of statements has, or also the reads that stand for stores.
use Rattle.std.proofs.Common.{◌≡◌, ℕ, zero, suc, ◌+◌, ◌-◌, ◌≤◌, Bool, true, false, ℤ, pos, List, [], ◌∷◌, ◌++◌, length, map, take, drop, Option, Some, None, refl, sym, ap, ◌∙◌, subst, arith}
use Rattle.std.specs.Prelude.{if◌then◌else◌, is_some}
use Rattle.std.proofs.lemmas.List.{take-map, drop-map}
use Rattle.std.proofs.lemmas.List.Sums.{sum_by-append}
use Rattle.gr_word.specs.declared.operations.Cmp.{Cmp}
use Rattle.gr_word.specs.declared.variables.Label.{Label}
use Rattle.lt_isa.specs.declared.instructions.Instr.{Instr}
use Rattle.lt_isa.specs.declared.instructions.Instr.TheVariants.{Nop, Jmp, Br}
use Rattle.src_tree.specs.Prelude.{context_of, label_of_test, Tree, Test, Statement, SetVariable, SetElement, Choice, Loop, Block, Nothing, Then, TypedStatement, TypedBlock}
use Rattle.block_cache_gen.specs.declared.frames.Mode.{Mode}
use Rattle.block_cache_gen.specs.Prelude.{further_slots, Home, Setting, home_of, fixed_index, guard_code, Alike, AreReducedAlike, InOneBank, Pair, ToScalars, ToOblivious, ToResidents, ToSame, StartsPaired, NonePaired, OnePaired, pair_count, stored_words, stores_by, stores_in}
use Rattle.block_cache_gen.proofs.AlikeShows.{alike-fixed, oblivious-fixed}
use Rattle.block_cache_gen.proofs.AlikeTests.{counts_pairs}
use Rattle.block_cache_gen.proofs.SecretCodes.{stored-append, guard-stores, variable-stores, element-stores}
use Rattle.block_cache_gen.proofs.SingleHomes.{ObliviousAreSingle}
use Rattle.branch_padding.specs.Prelude.{idle, in_a_row, arm_mode, untaken_arm, taken_arm, first_arm, second_arm, first_of, second_of, region_code, padded_code, padded_codes, slack_of, added_up, arms_stores, choice_stores, stores_of, stores_of_each}
use Rattle.branch_padding.specs.declared.cycles.Slack.{Slack}
use Rattle.gr_word.specs.declared.variables.Label.TheVariants as label
use Rattle.block_cache_gen.specs.declared.frames.Mode.TheVariants as modes

module _ (once : Bool) where
  -- pieces in a row have the stores of all
  row-stores : (codes : List (List Instr))
      → stored_words once (in_a_row codes) ≡ added_up (map (stored_words once) codes)
  row-stores [] = refl
  row-stores (code ∷ codes) =
      stored-append once code (in_a_row codes) ∙ ap (λ (n : ℕ). stored_words once code + n) (row-stores codes)
      ∙ sym (sum_by-append (λ n. n) (stored_words once code ∷ []) (map (stored_words once) codes) ∙ one)
    where
      one : added_up (stored_words once code ∷ []) + added_up (map (stored_words once) codes)
          ≡ stored_words once code + added_up (map (stored_words once) codes)
      one = omega arith

  idle-stores : (n : ℕ) → stored_words once (idle n) ≡ 0
  idle-stores zero = refl
  idle-stores (suc n) = stored-append once (Nop ∷ []) (idle n) ∙ ap (λ (m : ℕ). 0 + m) (idle-stores n)

  -- a region has those of its arms
  region-stores : (cmp : Cmp) (first second : List Instr)
      → stored_words once (region_code cmp first second) ≡ stored_words once first + stored_words once second
  region-stores cmp first second =
      let branch = Br cmp 0 1 (pos (length first + 2)) in
      let jump = Jmp (pos (length second + 1)) in
      let none_one : stored_words once (branch ∷ []) ≡ 0 = refl in
      let none_two : stored_words once (jump ∷ []) ≡ 0 = refl in
      omega (
        arith,
        stored-append once (branch ∷ []) (first ++ (jump ∷ second)),
        stored-append once first (jump ∷ second),
        stored-append once (jump ∷ []) second,
        none_one,
        none_two,
      )

  -- the arms of a branch
  arm-stores : (k : ℕ) (whole first second : List (List Instr))
      → stored_words once (in_a_row (take k whole) ++ (in_a_row (drop k first) ++ in_a_row (drop k second)))
      ≡ added_up (take k (map (stored_words once) whole))
      + (added_up (drop k (map (stored_words once) first)) + added_up (drop k (map (stored_words once) second)))
  arm-stores k whole first second =
      let part : (codes : List (List Instr))
      → stored_words once (in_a_row (drop k codes)) ≡ added_up (drop k (map (stored_words once) codes)) =
      λ codes. row-stores (drop k codes) ∙ ap added_up (sym (drop-map (stored_words once) k codes)) in
      let start : stored_words once (in_a_row (take k whole)) ≡ added_up (take k (map (stored_words once) whole)) =
      row-stores (take k whole) ∙ ap added_up (sym (take-map (stored_words once) k whole)) in
      let one = part first in
      let two = part second in
      stored-append once (in_a_row (take k whole)) (in_a_row (drop k first) ++ in_a_row (drop k second))
      ∙ ap (λ (n : ℕ). stored_words once (in_a_row (take k whole)) + n)
      (stored-append once (in_a_row (drop k first)) (in_a_row (drop k second)))
      ∙ λ i. start i + (one i + two i)

-- the counts of several statements
pub added-first : (n : ℕ) (counts : List ℕ) → added_up (n ∷ counts) ≡ n + added_up counts
added-first n counts = sum_by-append (λ n. n) (n ∷ []) counts ∙ alone
  where
    alone : added_up (n ∷ []) + added_up counts ≡ n + added_up counts
    alone = omega arith

-- an element of an array without further slots has one store
single-stores : (h : Home) (resident : Bool) → further_slots h ≡ [] → stores_by resident h None ≡ 1
single-stores h true single = ap (λ (more : List ℕ). length (h.slot ∷ more)) single
single-stores h false single = refl

-- elements of two arrays of as many blocks have as many, if both indexes are numbers or neither is
resident-stores : (g h : Home) (one other : Option ℤ) → is_some one ≡ is_some other
    → length (further_slots g) ≡ length (further_slots h) → stores_by true h other ≡ stores_by true g one
resident-stores g h (Some y) (Some z) fixed same = refl
resident-stores g h None None fixed same = ap suc (sym same)
resident-stores g h (Some y) None fixed same = absurd (let e : true ≡ false = fixed in cc)
resident-stores g h None (Some z) fixed same = absurd (let e : false ≡ true = fixed in cc)

-- two statements that pair have as many stores
module _ (f : Setting) (single : ObliviousAreSingle f) where
  oblivious-stores : (x : List ℕ) (i : Tree) → 2 ≤ (home_of f x).bank
      → stores_in (home_of f x) (fixed_index (home_of f x) i) ≡ 1
  oblivious-stores x i oblivious =
      let h = home_of f x in
      ap (stores_in h) (oblivious-fixed f h oblivious i) ∙ single-stores h h.resident (single x oblivious)

  one-bank-stores : (x y : List ℕ) (i j : Tree) → InOneBank f x y
      → stores_in (home_of f y) (fixed_index (home_of f y) j) ≡ stores_in (home_of f x) (fixed_index (home_of f x) i)
  one-bank-stores x y i j one =
      oblivious-stores y j (omega (arith, one.oblivious, one.same)) ∙ sym (oblivious-stores x i one.oblivious)

  reduced-stores : (x y : List ℕ) (i j : Tree) → AreReducedAlike f x y i j → Alike f i j
      → stores_in (home_of f y) (fixed_index (home_of f y) j) ≡ stores_in (home_of f x) (fixed_index (home_of f x) i)
  reduced-stores x y i j one alike =
      let g = home_of f x in
      let h = home_of f y in
      ap (λ (b : Bool). stores_by b h (fixed_index h j)) one.second
      ∙ resident-stores g h (fixed_index g i) (fixed_index h j) (alike-fixed f g h i j one.low alike) one.blocks
      ∙ sym (ap (λ (b : Bool). stores_by b g (fixed_index g i)) one.first)

  pair-stores : (s t : Statement) → Pair f s t → stores_of f label.Secret t ≡ stores_of f label.Secret s
  pair-stores s t (ToScalars x y e g one both alike) = ap (λ (b : Bool). if b then 0 else 1) (sym one)
  pair-stores s t (ToOblivious x y i j e g one index value) = one-bank-stores x y i j one
  pair-stores s t (ToResidents x y i j e g one index value) = reduced-stores x y i j one index
  pair-stores s t (ToSame x i e g encrypted value) = refl

  -- so have the first statements of two parts that pair
  abbrev CountAlike : ℕ → Block → Block → Type 0
  CountAlike k a b =
      added_up (take k (stores_of_each f label.Secret b)) ≡ added_up (take k (stores_of_each f label.Secret a))

  paired-stores : (k : ℕ) (a b : Block) → StartsPaired f k a b → CountAlike k a b
  paired-stores k a b (NonePaired a' b') = refl
  paired-stores k a b (OnePaired n s t c d pair rest) =
      let more = paired-stores n c d rest in
      let one = pair-stores s t pair in
      let next : suc n ≡ n + 1 = omega arith in
      let both : CountAlike (suc n) (Then s c) (Then t d) =
      added-first (stores_of f label.Secret t) (take n (stores_of_each f label.Secret d))
      ∙ (λ i. one i + more i)
      ∙ sym (added-first (stores_of f label.Secret s) (take n (stores_of_each f label.Secret c))) in
      subst (λ (m : ℕ). CountAlike m (Then s c) (Then t d)) next both

  -- a branch in code of a label, whose arms are secret code
  abbrev PartStores : Block → Mode → Type 0
  PartStores part mode = map (stored_words f.reduces) (padded_codes f mode part) ≡ stores_of_each f label.Secret part

  -- the arms, mirrored or idling
  abbrev before : Option Slack → Mode → Block → Block → List Instr
  before slack mode a b =
      first_arm slack f.profile.taken (pair_count f a b) (padded_codes f (arm_mode mode) b)
      (padded_codes f modes.Mirrored a)

  abbrev behind : Option Slack → Mode → Block → Block → List Instr
  behind slack mode a b =
      second_arm slack f.profile.taken (pair_count f a b) (padded_codes f (arm_mode mode) a)
      (padded_codes f modes.Mirrored b)

  arms-counts : (mode : Mode) (t : Test) (a b : Block) → PartStores a (arm_mode mode) → PartStores a modes.Mirrored
      → PartStores b (arm_mode mode) → PartStores b modes.Mirrored → (slack : Option Slack)
      → stored_words f.reduces (region_code t.cmp (before slack mode a b) (behind slack mode a b))
      ≡ arms_stores slack (pair_count f a b) (stores_of_each f label.Secret a) (stores_of_each f label.Secret b)
  arms-counts mode t a b first first_mirrored second second_mirrored None =
      let k = pair_count f a b in
      let alike = paired-stores k a b (counts_pairs f a b).pairs in
      let xs = stores_of_each f label.Secret a in
      let ys = stores_of_each f label.Secret b in
      let paired = added_up (take k xs) in
      let rests = added_up (drop k xs) + added_up (drop k ys) in
      let untaken = untaken_arm k (padded_codes f (arm_mode mode) b) (padded_codes f modes.Mirrored a) in
      let other = taken_arm k (padded_codes f (arm_mode mode) a) (padded_codes f modes.Mirrored b) in
      let one : stored_words f.reduces untaken ≡ paired + rests =
      arm-stores f.reduces k (padded_codes f (arm_mode mode) b) (padded_codes f modes.Mirrored a)
      (padded_codes f (arm_mode mode) b)
      ∙ (λ i. added_up (take k (second i)) + (added_up (drop k (first_mirrored i)) + added_up (drop k (second i))))
      ∙ ap (λ (n : ℕ). n + rests) alike in
      let two : stored_words f.reduces other ≡ paired + rests =
      arm-stores f.reduces k (padded_codes f (arm_mode mode) a) (padded_codes f (arm_mode mode) a)
      (padded_codes f modes.Mirrored b)
      ∙ (λ i. added_up (take k (first i)) + (added_up (drop k (first i)) + added_up (drop k (second_mirrored i)))) in
      region-stores f.reduces t.cmp (before None mode a b) (behind None mode a b)
      ∙ omega (
        arith,
        stored-append f.reduces (idle (f.profile.taken - 1)) untaken,
        stored-append f.reduces other (idle f.profile.taken),
        idle-stores f.reduces (f.profile.taken - 1),
        idle-stores f.reduces f.profile.taken,
        one,
        two,
      )
  arms-counts mode t a b first first_mirrored second second_mirrored (Some slack) =
      let xs = stores_of_each f label.Secret a in
      let ys = stores_of_each f label.Secret b in
      let own = in_a_row (padded_codes f (arm_mode mode) b) in
      let other = in_a_row (padded_codes f (arm_mode mode) a) in
      let one : stored_words f.reduces own ≡ added_up ys =
      row-stores f.reduces (padded_codes f (arm_mode mode) b) ∙ ap added_up second in
      let two : stored_words f.reduces other ≡ added_up xs =
      row-stores f.reduces (padded_codes f (arm_mode mode) a) ∙ ap added_up first in
      region-stores f.reduces t.cmp (before (Some slack) mode a b) (behind (Some slack) mode a b)
      ∙ omega (
        arith,
        stored-append f.reduces own (idle slack.untaken),
        stored-append f.reduces other (idle slack.taken),
        idle-stores f.reduces slack.untaken,
        idle-stores f.reduces slack.taken,
        one,
        two,
      )

  choice-counts : (mode : Mode) (t : Test) (a b : Block) → PartStores a (arm_mode mode) → PartStores a modes.Mirrored
      → PartStores b (arm_mode mode) → PartStores b modes.Mirrored
      → stored_words f.reduces (padded_code f mode (Choice t a b))
      ≡ choice_stores label.Secret (slack_of f a b) (pair_count f a b) (stores_of_each f label.Secret a)
      (stores_of_each f label.Secret b)
  choice-counts mode t a b first first_mirrored second second_mirrored =
      let guard = guard_code f mode 0 t in
      let region = region_code t.cmp (first_of f mode a b) (second_of f mode a b) in
      let arms = arms-counts mode t a b first first_mirrored second second_mirrored (slack_of f a b) in
      stored-append f.reduces guard region
      ∙ (λ i. guard-stores f.reduces f mode 0 t i + arms i)
      ∙ none (arms_stores (slack_of f a b) (pair_count f a b) (stores_of_each f label.Secret a)
      (stores_of_each f label.Secret b))
    where
      none : (n : ℕ) → 0 + n ≡ n
      none n = omega arith

  mutual
    -- the stores of a statement in secret code
    pub statement-stores : (s : Statement) (mode : Mode) → TypedStatement (context_of f.decls) label.Secret s
        → stored_words f.reduces (padded_code f mode s) ≡ stores_of f label.Secret s
    statement-stores (SetVariable x e) mode typed = variable-stores f mode x e
    statement-stores (SetElement x i e) mode typed = element-stores f mode x i e
    statement-stores (Choice t a b) mode typed =
        choice-counts mode t a b (each-stores a (arm_mode mode) typed.1.0) (each-stores a modes.Mirrored typed.1.0)
        (each-stores b (arm_mode mode) typed.1.1) (each-stores b modes.Mirrored typed.1.1)
    statement-stores (Loop t a) mode typed =
        let wrong : label.Secret ≡ label.Public = typed.1.1.0 in
        absurd (let g : ◌≡◌ {A = Label} label.Secret label.Public = wrong in cc)

    pub each-stores : (b : Block) (mode : Mode) → TypedBlock (context_of f.decls) label.Secret b
        → map (stored_words f.reduces) (padded_codes f mode b) ≡ stores_of_each f label.Secret b
    each-stores Nothing mode typed = refl
    each-stores (Then s rest) mode typed =
        let one = statement-stores s mode typed.0 in
        let more = each-stores rest mode typed.1 in
        λ i. one i ∷ more i

  -- and of a branch on a secret in public code
  pub public_choice-stores : (t : Test) (a b : Block) → TypedStatement (context_of f.decls) label.Public (Choice t a b)
      → label_of_test (context_of f.decls) t ≡ label.Secret
      → stored_words f.reduces (padded_code f modes.Public (Choice t a b)) ≡ stores_of f label.Public (Choice t a b)
  public_choice-stores t a b typed secret =
      let known = context_of f.decls in
      let first = subst (λ (l : Label). TypedBlock known l a) secret typed.1.0 in
      let second = subst (λ (l : Label). TypedBlock known l b) secret typed.1.1 in
      choice-counts modes.Public t a b (each-stores a modes.Real first) (each-stores a modes.Mirrored first)
      (each-stores b modes.Real second) (each-stores b modes.Mirrored second)
      ∙ sym (ap (λ (l : Label).
      choice_stores l (slack_of f a b) (pair_count f a b) (stores_of_each f l a) (stores_of_each f l b)) secret)
