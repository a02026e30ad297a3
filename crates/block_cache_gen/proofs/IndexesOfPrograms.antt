-- In the code of a program each index of an array of plain or encrypted memory is public: a secret array with a secret
-- index is stored in an oblivious bank.
use Rattle.std.proofs.Common.{◌≡◌, ℕ, suc, ◌+◌, ◌<◌, ◌≤◌, Bool, true, false, ◌&&◌, List, [], ◌∷◌, length, get_or, Option, Some, None, refl, sym, ap, ◌∙◌, subst, arith}
use Rattle.std.specs.Prelude.{if◌then◌else◌, bytes_eq, is_some, nat_lt}
use Rattle.std.proofs.lemmas.Bool.{or_parts, false≢true, le-ltb}
use Rattle.std.proofs.lemmas.Slice.Eq.{bytes_eq-Decides}
use Rattle.gr_base.proofs.ListTests.{bytes_eq-own}
use Rattle.gr_word.specs.declared.variables.Label.{Label}
use Rattle.gr_word.specs.declared.variables.Label.TheVariants.{Public, Secret}
use Rattle.gr_word.specs.declared.variables.Shape.{Shape}
use Rattle.gr_word.specs.declared.variables.Shape.TheVariants.{Scalar, Array}
use Rattle.lt_isa.specs.Prelude.{Parts}
use Rattle.src_tree.specs.declared.trees.Decl.{Decl}
use Rattle.src_tree.specs.Prelude.{context_of, label_and_shape, shape_of, inside, label_or_public, label_at, label_of, secret_label, variable_number, Tree, Number, Variable, Element, Operation, Test, Statement, SetVariable, SetElement, Choice, Loop, Block, Nothing, Then, Source, Flows, TypedTree, TypedTest, TypedStatement, TypedBlock}
use Rattle.bank_alloc.specs.declared.classes.Class.TheVariants.{ObliviousArray}
use Rattle.bank_alloc.specs.Prelude.{scalar_bank, class_by, secret_index_in, secret_index_in_test, secret_index_in_statement, secret_index_in_block, has_secret_index}
use Rattle.src_tree.proofs.NoTypingFault.{public}
use Rattle.src_tree.proofs.VariableNumbers.{number-below, kind-of_number}
use Rattle.scratch_alloc.specs.Prelude.{Plan, IsSoundPlan, IsSoundByPin, pin_of_slot, no_decl, no_place}
use Rattle.block_cache_gen.specs.Prelude.{Setting, Pin, home_of, no_home, home_at, homes_at, shows_index, IndexIsPublic, HasPublicIndexes, TestHasPublicIndexes, StatementHasPublicIndexes, BlockHasPublicIndexes}
use Rattle.block_cache_gen.proofs.Settled.{IsSettingOf, get_or-homes_at}

-- secret arrays of plain and encrypted memory
record IsCached (f : Setting) (x : List ℕ) : Type 0 where
  low : shows_index (home_of f x) ≡ true
  declared : context_of f.decls x ≡ Some (Secret, Array)

flows_to : (i l : Label) → Flows i l → l ≡ Public → i ≡ Public
flows_to Public l flows e = refl
flows_to Secret Public flows e = absurd flows
flows_to Secret Secret flows e = absurd (let g : ◌≡◌ {A = Label} Secret Public = e in cc)

module _ (f : Setting) where
  -- an index of one array
  index_public : (x : List ℕ) (i : Tree) (l : Label) → context_of f.decls x ≡ Some (l, Array)
      → Flows (label_of (context_of f.decls) i) (label_at (context_of f.decls) x)
      → (IsCached f x → (bytes_eq x x && secret_label (label_of (context_of f.decls) i)) ≡ false) → IndexIsPublic f x i
  index_public x i Public is flows apart low =
      flows_to (label_of (context_of f.decls) i) (label_at (context_of f.decls) x) flows (ap label_or_public is)
  index_public x i Secret is flows apart low =
      public (label_of (context_of f.decls) i)
      (sym (ap (λ (b : Bool). b && secret_label (label_of (context_of f.decls) i)) (bytes_eq-own x))
      ∙ apart (record { low = low; declared = is }))

  tree-public : (e : Tree) → TypedTree (context_of f.decls) e
      → ((x : List ℕ) → IsCached f x → secret_index_in (context_of f.decls) x e ≡ false) → HasPublicIndexes f e
  tree-public (Number z) typed apart = tt
  tree-public (Variable x) typed apart = tt
  tree-public (Element x i) typed apart = (
    index_public x i typed.0.0 typed.0.1 typed.1.1
        (λ cached. let p = or_parts _ _ (apart x cached) in p.0),
    tree-public i typed.1.0 (λ y cached. let p = or_parts _ _ (apart y cached) in p.1),
  )
  tree-public (Operation op a b) typed apart = (
    tree-public a typed.0 (λ x cached. let p = or_parts _ _ (apart x cached) in p.0),
    tree-public b typed.1 (λ x cached. let p = or_parts _ _ (apart x cached) in p.1),
  )

  test-public : (t : Test) → TypedTest (context_of f.decls) t
      → ((x : List ℕ) → IsCached f x → secret_index_in_test (context_of f.decls) x t ≡ false) → TestHasPublicIndexes f t
  test-public t typed apart = (
    tree-public t.left typed.0 (λ x cached. let p = or_parts _ _ (apart x cached) in p.0),
    tree-public t.right typed.1 (λ x cached. let p = or_parts _ _ (apart x cached) in p.1),
  )

  mutual
    statement-public : (s : Statement) (code : Label) → TypedStatement (context_of f.decls) code s
        → ((x : List ℕ) → IsCached f x → secret_index_in_statement (context_of f.decls) x s ≡ false)
        → StatementHasPublicIndexes f s
    statement-public (SetVariable x e) code typed apart = tree-public e typed.1.0 apart
    statement-public (SetElement x i e) code typed apart = (
      tree-public (Element x i) typed.0 (λ y cached. let p = or_parts _ _ (apart y cached) in p.0),
      tree-public e typed.1.0 (λ y cached. let p = or_parts _ _ (apart y cached) in p.1),
    )
    statement-public (Choice t a b) code typed apart = (
      test-public t typed.0 (λ x cached. let p = or_parts _ _ (apart x cached) in p.0),
      (
        block-public a (inside (context_of f.decls) code t) typed.1.0
            (λ x cached. let p = or_parts _ _ (apart x cached) in let q = or_parts _ _ p.1 in q.0),
        block-public b (inside (context_of f.decls) code t) typed.1.1
            (λ x cached. let p = or_parts _ _ (apart x cached) in let q = or_parts _ _ p.1 in q.1),
      ),
    )
    statement-public (Loop t a) code typed apart = (
      test-public t typed.0 (λ x cached. let p = or_parts _ _ (apart x cached) in p.0),
      block-public a code typed.1.1.1 (λ x cached. let p = or_parts _ _ (apart x cached) in p.1),
    )

    block-public : (b : Block) (code : Label) → TypedBlock (context_of f.decls) code b
        → ((x : List ℕ) → IsCached f x → secret_index_in_block (context_of f.decls) x b ≡ false)
        → BlockHasPublicIndexes f b
    block-public Nothing code typed apart = tt
    block-public (Then s rest) code typed apart = (
      statement-public s code typed.0 (λ x cached. let p = or_parts _ _ (apart x cached) in p.0),
      block-public rest code typed.1 (λ x cached. let p = or_parts _ _ (apart x cached) in p.1),
    )

-- a secret array that a secret indexes is oblivious
oblivious_class : (l : Label) (size_of : Option ℕ) (indexed : Bool) → l ≡ Secret → shape_of size_of ≡ Array
    → indexed ≡ true → class_by l size_of indexed ≡ ObliviousArray
oblivious_class Secret (Some n) true secret array e = refl
oblivious_class Secret (Some n) false secret array e = absurd (false≢true e)
oblivious_class Secret None indexed secret array e = absurd (let g : ◌≡◌ {A = Shape} Scalar Array = array in cc)
oblivious_class Public size_of indexed secret array e = absurd (let g : ◌≡◌ {A = Label} Public Secret = secret in cc)

-- the declaration at a name's number has that name
name_if : (d : Decl) (ds : List Decl) (x : List ℕ) (kind : Label × Shape) (default : Decl) (same : Bool)
    → bytes_eq x d.name ≡ same → (if same then Some (label_and_shape d) else context_of ds x) ≡ Some kind
    → (context_of ds x ≡ Some kind → (get_or ds (variable_number ds x) default).name ≡ x)
    → (get_or (d ∷ ds) (if same then 0 else 1 + variable_number ds x) default).name ≡ x
name_if d ds x kind default true is e behind = let same = bytes_eq-Decides x d.name in sym (same.0 is)
name_if d ds x kind default false is e behind =
    let next : 1 + variable_number ds x ≡ suc (variable_number ds x) = omega arith in
    ap (λ (k : ℕ). (get_or (d ∷ ds) k default).name) next ∙ behind e

name-at_number : (ds : List Decl) (x : List ℕ) (kind : Label × Shape) (default : Decl) → context_of ds x ≡ Some kind
    → (get_or ds (variable_number ds x) default).name ≡ x
name-at_number [] x kind default e = absurd (let g : ◌≡◌ {A = Option (Label × Shape)} None (Some kind) = e in cc)
name-at_number (d ∷ ds) x kind default e =
    name_if d ds x kind default (bytes_eq x d.name) refl e (name-at_number ds x kind default)

module _ (p : Source) (w : ℕ) (plan : Plan) (sound : IsSoundPlan p w plan) (f : Setting) (decls : f.decls ≡ p.decls)
    (homes : f.homes ≡ homes_at plan.pins f.profile.block_log plan.places plan.slots) where
  -- a declared name's number, what is declared there, and its home
  number-inside : (x : List ℕ) (kind : Label × Shape) → context_of f.decls x ≡ Some kind
      → variable_number f.decls x < length p.decls
  number-inside x kind known = omega (arith, number-below f.decls x kind known, ap length decls)

  number-kind : (x : List ℕ) (kind : Label × Shape) → context_of f.decls x ≡ Some kind
      → label_and_shape (get_or p.decls (variable_number f.decls x) no_decl) ≡ kind
  number-kind x kind known =
      ap (λ ds. label_and_shape (get_or ds (variable_number f.decls x) no_decl)) (sym decls)
      ∙ kind-of_number f.decls x no_decl kind known

  number-home : (k : ℕ) → k < length p.decls → get_or f.homes k no_home
      ≡ home_at plan.pins f.profile.block_log (get_or plan.places k no_place) (get_or plan.slots k 0)
  number-home k within =
      ap (λ hs. get_or hs k no_home) homes
      ∙ get_or-homes_at plan.pins f.profile.block_log plan.places plan.slots k (sound.slots ∙ sym sound.places)
      (omega (arith, within, sound.places))

  -- a secret array with a secret index doesn't show it: it is resident, or in an oblivious bank
  array-hidden : (x : List ℕ) → context_of f.decls x ≡ Some (Secret, Array) → has_secret_index p x ≡ true
      → shows_index (home_of f x) ≡ false
  array-hidden x declared indexed =
      let k = variable_number f.decls x in
      let v = get_or p.decls k no_decl in
      let within = number-inside x (Secret, Array) declared in
      let kind = number-kind x (Secret, Array) declared in
      let name : v.name ≡ x = ap (λ (ds : List Decl). (get_or ds k no_decl).name) (sym decls)
      ∙ name-at_number f.decls x (Secret, Array) no_decl declared in
      let secret : v.label ≡ Secret = ap (λ (t : Label × Shape). t.0) kind in
      let class = oblivious_class v.label v.length (has_secret_index p v.name) secret
      (ap (λ (t : Label × Shape). t.1) kind) (ap (has_secret_index p) name ∙ indexed) in
      subst (λ h. shows_index h ≡ false) (sym (number-home k within))
      (by k secret (sound.hidden k within class) (pin_of_slot plan (get_or plan.slots k 0)) refl (sound.served k within))
    where
      by : (k : ℕ) → (get_or p.decls k no_decl).label ≡ Secret
          → (pin_of_slot plan (get_or plan.slots k 0) ≡ None → 2 ≤ (get_or plan.places k no_place).bank)
          → (pin : Option Pin) → pin_of_slot plan (get_or plan.slots k 0) ≡ pin
          → IsSoundByPin w plan (get_or p.decls k no_decl) (get_or plan.places k no_place) (get_or plan.slots k 0) pin
          → shows_index (home_at plan.pins f.profile.block_log (get_or plan.places k no_place) (get_or plan.slots k 0)) ≡ false
      by k secret hidden None is served =
          let q = get_or plan.places k no_place in
          ap (λ (b : Option Pin). nat_lt q.bank (if is_some b then 1 else 2)) is ∙ le-ltb q.bank 2 (hidden is)
      by k secret hidden (Some pin) is served =
          let q = get_or plan.places k no_place in
          let bank : q.bank ≡ 1 = served.bank ∙ ap scalar_bank secret in
          ap (λ (b : Option Pin). nat_lt q.bank (if is_some b then 1 else 2)) is
          ∙ le-ltb q.bank 1 (omega (arith, bank))

  cached-apart : (x : List ℕ) → IsCached f x → (b : Bool) → has_secret_index p x ≡ b → b ≡ false
  cached-apart x cached true is = absurd (false≢true (sym (array-hidden x cached.declared is) ∙ cached.low))
  cached-apart x cached false is = refl

  -- each index of an array of plain or encrypted memory is public
  pub body-public : TypedBlock (context_of p.decls) Public p.body → BlockHasPublicIndexes f p.body
  body-public typed =
      block-public f p.body Public (subst (λ ds. TypedBlock (context_of ds) Public p.body) (sym decls) typed)
      (λ x cached. subst (λ ds. secret_index_in_block (context_of ds) x p.body ≡ false) (sym decls)
      (cached-apart x cached (has_secret_index p x) refl))

-- so it is for the setting of an object
pub program-public : (p : Source) (w : ℕ) (plan : Plan) → IsSoundPlan p w plan → (o : Parts) (f : Setting)
    → IsSettingOf p plan o f → TypedBlock (context_of p.decls) Public p.body → BlockHasPublicIndexes f p.body
program-public p w plan sound o f setting typed = body-public p w plan sound f setting.decls setting.homes typed
