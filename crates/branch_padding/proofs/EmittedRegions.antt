-- What is appended for statements of secret code: part by part, and how much room they take.
use Rattle.std.proofs.Common.{◌≡◌, ℕ, Bool, true, false, cond, zero, suc, ◌+◌, ◌-◌, ◌*◌, ◌<◌, ◌≤◌, pos, List, [], ◌∷◌, ◌++◌, length, take, drop, get_or, set, Option, Some, None, refl, sym, ap, ◌∙◌, subst, arith, append_assoc, length-append, append-nil}
use Rattle.std.proofs.lemmas.List.{take_more, take_all, take-append-drop, length-drop, get_or-drop}
use Rattle.std.proofs.Math.Seq.{set-append_seam}
use Rattle.gr_word.specs.declared.operations.Cmp.{Cmp}
use Rattle.gr_word.specs.declared.variables.Label.{Label}
use Rattle.lt_isa.specs.declared.instructions.Instr.{Instr}
use Rattle.lt_isa.specs.declared.instructions.Instr.TheVariants.{Nop, Jmp, Br}
use Rattle.src_tree.specs.declared.trees.Stmt.{Stmt}
use Rattle.src_tree.specs.Prelude.{Context, context_of, label_of_test, LowStatement, LowBlock, statement_weight, block_weight, test_weight, parts_weight, Test, Block, Choice, statement_of, block_of_all, TypedStatement, TypedBlock}
use Rattle.block_cache_gen.specs.declared.frames.CodeBuf.{CodeBuf}
use Rattle.block_cache_gen.specs.declared.frames.Mode.{Mode}
use Rattle.block_cache_gen.specs.Prelude.{Setting, guard_code, guard_notes, is_pair, pair_count, Appended, EmitsGuard, no_notes, notes_in}
use Rattle.block_cache_gen.proofs.Emitting.{appended_as, appended_length, silent_behind}
use Rattle.branch_padding.specs.declared.cycles.Slack.{Slack}
use Rattle.branch_padding.specs.Prelude.{slack_of, idle, in_a_row, arm_mode, untaken_arm, taken_arm, first_padded, second_padded, first_arm, second_arm, region_code, padded_code, padded_codes, first_of, second_of, row_between}
use Rattle.branch_padding.proofs.Lengths.{row-append, statement-short, row-short}
use Rattle.gr_word.specs.declared.variables.Label.TheVariants as label
use Rattle.block_cache_gen.specs.declared.frames.Mode.TheVariants as modes

-- an arm in an arm, and an arm's code has no notes
pub arm-arm : (mode : Mode) → arm_mode (arm_mode mode) ≡ arm_mode mode
arm-arm modes.Public = refl
arm-arm modes.Real = refl
arm-arm modes.Mirrored = refl

-- nothing was appended
pub appended-none : (a : CodeBuf) → Appended a a [] no_notes
appended-none a = record { code = sym (append-nil a.code.items); notes = sym (append-nil a.notes.items) }

-- instructions that do nothing, one more
idle-back : (n : ℕ) → idle n ++ Nop ∷ [] ≡ idle (suc n)
idle-back zero = refl
idle-back (suc n) = ap (λ code. Nop ∷ code) (idle-back n)

-- one more instruction that does nothing
pub idle-more : (a b c : CodeBuf) (n : ℕ) → Appended a b (idle n) no_notes → Appended b c (Nop ∷ []) no_notes
    → Appended a c (idle (n + 1)) no_notes
idle-more a b c n x y =
    appended_as a c (idle n ++ Nop ∷ []) (idle (n + 1)) no_notes no_notes
    (idle-back n ∙ (let next : suc n ≡ n + 1 = omega arith in ap idle next)) (λ place. refl)
    (silent_behind a b c (idle n) (Nop ∷ []) no_notes x y)

-- the statements of a part
pub length-codes : (f : Setting) (mode : Mode) (part : List Stmt)
    → length (padded_codes f mode (block_of_all part)) ≡ length part
length-codes f mode [] = refl
length-codes f mode (s ∷ part) = ap suc (length-codes f mode part)

pub get_or-codes : (f : Setting) (mode : Mode) (part : List Stmt) (i : ℕ) (d : Stmt) → i < length part
    → get_or (padded_codes f mode (block_of_all part)) i [] ≡ padded_code f mode (statement_of (get_or part i d))
get_or-codes f mode [] i d within = absurd (omega arith)
get_or-codes f mode (s ∷ part) zero d within = refl
get_or-codes f mode (s ∷ part) (suc i) d within = get_or-codes f mode part i d (omega arith)

-- a statement of a typed part is typed
pub typed-at : (known : Context) (code : Label) (part : List Stmt) (i : ℕ) (d : Stmt) → i < length part
    → TypedBlock known code (block_of_all part) → TypedStatement known code (statement_of (get_or part i d))
typed-at known code [] i d within typed = absurd (omega arith)
typed-at known code (s ∷ part) zero d within typed = typed.0
typed-at known code (s ∷ part) (suc i) d within typed = typed-at known code part i d (omega arith) typed.1

-- a statement of a low part is low
pub low-at : (part : List Stmt) (i : ℕ) (d : Stmt) → i < length part → LowBlock (block_of_all part)
    → LowStatement (statement_of (get_or part i d))
low-at [] i d within low = absurd (omega arith)
low-at (s ∷ part) zero d within low = low.0
low-at (s ∷ part) (suc i) d within low = low-at part i d (omega arith) low.1

take_none : {X : Type 0} (n : ℕ) → take {A = X} n [] ≡ []
take_none zero = refl
take_none (suc n) = refl

row_back : (codes : List (List Instr)) (code : List Instr) → in_a_row (codes ++ code ∷ []) ≡ in_a_row codes ++ code
row_back [] code = append-nil code
row_back (x ∷ codes) code = ap (λ l. x ++ l) (row_back codes code) ∙ sym (append_assoc x (in_a_row codes) code)

row-next : (from i : ℕ) (codes : List (List Instr)) → from ≤ i → i < length codes
    → row_between from (i + 1) codes ≡ row_between from i codes ++ get_or codes i []
row-next from i codes below within =
    let count : (i + 1) - from ≡ (i - from) + 1 = omega arith in
    let rest = drop from codes in
    let inside : i - from < length rest = omega (arith, length-drop from codes) in
    let at : get_or rest (i - from) [] ≡ get_or codes i [] =
    get_or-drop from codes (i - from) []
    ∙ (let n : from + (i - from) ≡ i = omega arith in ap (λ k. get_or codes k []) n) in
    ap (λ n. in_a_row (take n rest)) count
    ∙ ap in_a_row (take_more rest (i - from) [] inside)
    ∙ row_back (take (i - from) rest) (get_or rest (i - from) [])
    ∙ ap (λ code. in_a_row (take (i - from) rest) ++ code) at

pub row-none : (from : ℕ) (codes : List (List Instr)) → row_between from from codes ≡ []
row-none from codes = let none : from - from ≡ 0 = omega arith in ap (λ n. in_a_row (take n (drop from codes))) none

-- one statement more
pub row-more : (f : Setting) (mode : Mode) (part : List Stmt) (from i : ℕ) (d : Stmt) (a b c : CodeBuf) → from ≤ i
    → i < length part
    → Appended a b (row_between from i (padded_codes f mode (block_of_all part))) no_notes
    → Appended b c (padded_code f mode (statement_of (get_or part i d))) no_notes
    → Appended a c (row_between from (i + 1) (padded_codes f mode (block_of_all part))) no_notes
row-more f mode part from i d a b c below within x y =
    let codes = padded_codes f mode (block_of_all part) in
    let code = padded_code f mode (statement_of (get_or part i d)) in
    appended_as a c (row_between from i codes ++ code) (row_between from (i + 1) codes) no_notes no_notes
    (ap (λ l. row_between from i codes ++ l) (sym (get_or-codes f mode part i d within))
    ∙ sym (row-next from i codes below (omega (arith, length-codes f mode part, within))))
    (λ place. refl)
    (silent_behind a b c (row_between from i codes) code no_notes x y)

-- all pieces up to one, and all from one on
row-front : (to : ℕ) (codes : List (List Instr)) → row_between 0 to codes ≡ in_a_row (take to codes)
row-front to codes = let count : to - 0 ≡ to = omega arith in ap (λ n. in_a_row (take n codes)) count

row-rest : (from to : ℕ) (codes : List (List Instr)) → to ≡ length codes
    → row_between from to codes ≡ in_a_row (drop from codes)
row-rest from to codes all =
    ap in_a_row (take_all (to - from) (drop from codes) (omega (arith, length-drop from codes, all)))

-- the pieces of an arm
module _ (f : Setting) (mode : Mode) (part : List Stmt) (a b : CodeBuf) where
  front-appended : (to : ℕ) → Appended a b (row_between 0 to (padded_codes f mode (block_of_all part))) no_notes
      → Appended a b (in_a_row (take to (padded_codes f mode (block_of_all part)))) no_notes
  front-appended to x =
      let codes = padded_codes f mode (block_of_all part) in
      appended_as a b (row_between 0 to codes) (in_a_row (take to codes)) no_notes no_notes (row-front to codes)
      (λ place. refl) x

  rest-appended : (from to : ℕ) → to ≡ length part
      → Appended a b (row_between from to (padded_codes f mode (block_of_all part))) no_notes
      → Appended a b (in_a_row (drop from (padded_codes f mode (block_of_all part)))) no_notes
  rest-appended from to all x =
      let codes = padded_codes f mode (block_of_all part) in
      appended_as a b (row_between from to codes) (in_a_row (drop from codes)) no_notes no_notes
      (row-rest from to codes (omega (arith, all, length-codes f mode part))) (λ place. refl) x

-- the arm that isn't taken, and the one that is
pub untaken-appended : (f : Setting) (mode : Mode) (first second : List Stmt) (k taken one two : ℕ)
    (a b c d e : CodeBuf)
    → one ≡ length first → two ≡ length second
    → Appended a b (idle (taken - 1)) no_notes
    → Appended b c (row_between 0 k (padded_codes f mode (block_of_all second))) no_notes
    → Appended c d (row_between k one (padded_codes f modes.Mirrored (block_of_all first))) no_notes
    → Appended d e (row_between k two (padded_codes f mode (block_of_all second))) no_notes
    → Appended a e (first_padded taken
    (untaken_arm k (padded_codes f mode (block_of_all second))
    (padded_codes f modes.Mirrored (block_of_all first)))) no_notes
untaken-appended f mode first second k taken one two a b c d e is_one is_two x y z w =
    let real = padded_codes f mode (block_of_all second) in
    let mirrored = padded_codes f modes.Mirrored (block_of_all first) in
    silent_behind a b e (idle (taken - 1)) (untaken_arm k real mirrored) no_notes x
    (silent_behind b c e (in_a_row (take k real)) (in_a_row (drop k mirrored) ++ in_a_row (drop k real)) no_notes
    (front-appended f mode second b c k y)
    (silent_behind c d e (in_a_row (drop k mirrored)) (in_a_row (drop k real)) no_notes
    (rest-appended f modes.Mirrored first c d k one is_one z) (rest-appended f mode second d e k two is_two w)))

-- A branch: its guard, an instruction that becomes the branch, the arm that isn't taken, one that becomes the jump, and
-- the other arm.
region-made : (front untaken other : List Instr) (cmp : Cmp) (code : List Instr) (behind : List Instr)
    → code ≡ front ++ (Nop ∷ (untaken ++ Nop ∷ []))
    → behind ≡ set code (length front) (Br cmp 0 1 (pos (length code - length front))) ++ other
    → set behind (length front + 1 + length untaken) (Jmp (pos (length behind - (length front + 1 + length untaken))))
    ≡ front ++ (Br cmp 0 1 (pos (length untaken + 2)) ∷ (untaken ++ (Jmp (pos (length other + 1)) ∷ other)))
region-made front untaken other cmp code behind is then =
    let branch = Br cmp 0 1 (pos (length untaken + 2)) in
    let jump = Jmp (pos (length other + 1)) in
    let long : length code ≡ length front + (1 + (length untaken + 1)) =
    ap length is ∙ length-append front (Nop ∷ (untaken ++ Nop ∷ []))
    ∙ ap (λ n. length front + suc n) (length-append untaken (Nop ∷ [])) ∙ omega arith in
    let places : length code - length front ≡ length untaken + 2 = omega (arith, long) in
    let set_one : set code (length front) (Br cmp 0 1 (pos (length code - length front)))
    ≡ front ++ (branch ∷ (untaken ++ Nop ∷ [])) =
    ap (λ n. set code (length front) (Br cmp 0 1 (pos n))) places
    ∙ ap (λ l. set l (length front) branch) is
    ∙ set-append_seam front Nop (untaken ++ Nop ∷ []) branch in
    let head = front ++ (branch ∷ untaken) in
    let all : behind ≡ head ++ (Nop ∷ other) =
    then
    ∙ ap (λ l. l ++ other) (set_one ∙ sym (append_assoc front (branch ∷ untaken) (Nop ∷ [])))
    ∙ append_assoc head (Nop ∷ []) other in
    let at : length front + 1 + length untaken ≡ length head =
    sym (length-append front (branch ∷ untaken) ∙ omega arith) in
    let rest : length behind - (length front + 1 + length untaken) ≡ length other + 1 =
    omega (arith, ap length all ∙ length-append head (Nop ∷ other), at) in
    ap (λ n. set behind (length front + 1 + length untaken) (Jmp (pos n))) rest
    ∙ ap (λ k. set behind k jump) at
    ∙ ap (λ l. set l (length head) jump) all
    ∙ set-append_seam head Nop other jump
    ∙ append_assoc front (branch ∷ untaken) (jump ∷ other)

-- the arms of a branch that isn't quiet
pub untaken-mirrored : (slack : Option Slack) (taken k : ℕ) (second first : List (List Instr))
    → ((w : Slack) → slack ≡ Some w → ⊥)
    → first_padded taken (untaken_arm k second first) ≡ first_arm slack taken k second first
untaken-mirrored None taken k second first never = refl
untaken-mirrored (Some w) taken k second first never = absurd (never w refl)

pub taken-mirrored : (slack : Option Slack) (taken k : ℕ) (first second : List (List Instr))
    → ((w : Slack) → slack ≡ Some w → ⊥)
    → second_padded taken (taken_arm k first second) ≡ second_arm slack taken k first second
taken-mirrored None taken k first second never = refl
taken-mirrored (Some w) taken k first second never = absurd (never w refl)

-- an arm as its pieces were found
pub first-made : (f : Setting) (mode arm : Mode) (first second : Block) (slack : Option Slack) (k : ℕ) (a b : CodeBuf)
    → slack ≡ slack_of f first second → k ≡ pair_count f first second → arm ≡ arm_mode mode
    → Appended a b (first_arm slack f.profile.taken k (padded_codes f arm second) (padded_codes f modes.Mirrored first))
    no_notes
    → Appended a b (first_of f mode first second) no_notes
first-made f mode arm first second slack k a b is_slack is_k is_arm x =
    subst (λ (code : List Instr). Appended a b code no_notes)
    (λ i. first_arm (is_slack i) f.profile.taken (is_k i) (padded_codes f (is_arm i) second)
    (padded_codes f modes.Mirrored first)) x

pub second-made : (f : Setting) (mode arm : Mode) (first second : Block) (slack : Option Slack) (k : ℕ) (a b : CodeBuf)
    → slack ≡ slack_of f first second → k ≡ pair_count f first second → arm ≡ arm_mode mode
    → Appended a b (second_arm slack f.profile.taken k (padded_codes f arm first) (padded_codes f modes.Mirrored second))
    no_notes
    → Appended a b (second_of f mode first second) no_notes
second-made f mode arm first second slack k a b is_slack is_k is_arm x =
    subst (λ (code : List Instr). Appended a b code no_notes)
    (λ i. second_arm (is_slack i) f.profile.taken (is_k i) (padded_codes f (is_arm i) first)
    (padded_codes f modes.Mirrored second)) x

-- the pieces of a branch are its code
pub choice-appended : (f : Setting) (mode : Mode) (t : Test) (first second : Block) (branch jump : ℕ)
    (a b c d e g h i : CodeBuf)
    → branch ≡ length b.code.items → jump ≡ length d.code.items
    → EmitsGuard f mode 0 t a b → Appended b c (Nop ∷ []) no_notes
    → Appended c d (first_of f mode first second) no_notes
    → Appended d e (Nop ∷ []) no_notes
    → g.code.items ≡ set e.code.items branch (Br t.cmp 0 1 (pos (length e.code.items - branch)))
    → g.notes.items ≡ e.notes.items
    → Appended g h (second_of f mode first second) no_notes
    → i.code.items ≡ set h.code.items jump (Jmp (pos (length h.code.items - jump)))
    → i.notes.items ≡ h.notes.items
    → Appended a i (padded_code f mode (Choice t first second)) (λ place. notes_in mode (guard_notes f 0 place t))
choice-appended f mode t first second branch jump a b c d e g h i is_branch is_jump x y z w set_b same_b v set_j
    same_j =
    let guard = guard_code f mode 0 t in
    let untaken = first_of f mode first second in
    let other = second_of f mode first second in
    let front = b.code.items in
    let is_d : d.code.items ≡ front ++ (Nop ∷ untaken) =
    z.code ∙ ap (λ l. l ++ untaken) y.code ∙ append_assoc front (Nop ∷ []) untaken in
    let is_e : e.code.items ≡ front ++ (Nop ∷ (untaken ++ Nop ∷ [])) =
    w.code ∙ ap (λ l. l ++ Nop ∷ []) is_d ∙ append_assoc front (Nop ∷ untaken) (Nop ∷ []) in
    let at_jump : jump ≡ length front + 1 + length untaken =
    is_jump ∙ ap length is_d ∙ length-append front (Nop ∷ untaken) ∙ omega arith in
    let is_h : h.code.items ≡ set e.code.items (length front)
    (Br t.cmp 0 1 (pos (length e.code.items - length front))) ++ other =
    v.code ∙ ap (λ l. l ++ other) (set_b
    ∙ ap (λ n. set e.code.items n (Br t.cmp 0 1 (pos (length e.code.items - n)))) is_branch) in
    let made = region-made front untaken other t.cmp e.code.items h.code.items is_e is_h in
    record {
      code =
          set_j ∙ ap (λ n. set h.code.items n (Jmp (pos (length h.code.items - n)))) at_jump
          ∙ made
          ∙ ap (λ l. l ++ region_code t.cmp untaken other) x.code
          ∙ append_assoc a.code.items guard (region_code t.cmp untaken other);
      notes =
          same_j ∙ v.notes ∙ append-nil g.notes.items ∙ same_b ∙ w.notes ∙ append-nil d.notes.items
          ∙ z.notes ∙ append-nil c.notes.items ∙ y.notes ∙ append-nil b.notes.items ∙ x.notes;
    }

-- no more statements pair than a part has
pub pairs-within : (f : Setting) (first second : List Stmt)
    → (pair_count f (block_of_all first) (block_of_all second) ≤ length first)
    × (pair_count f (block_of_all first) (block_of_all second) ≤ length second)
pairs-within f [] second = (omega arith, omega arith)
pairs-within f (s ∷ first) [] = (omega arith, omega arith)
pairs-within f (s ∷ first) (t ∷ second) =
    by (is_pair f (statement_of s) (statement_of t)) (pairs-within f first second)
  where
    by : (c : Bool)
        → (pair_count f (block_of_all first) (block_of_all second) ≤ length first)
        × (pair_count f (block_of_all first) (block_of_all second) ≤ length second)
        → (cond c (pair_count f (block_of_all first) (block_of_all second) + 1) 0 ≤ suc (length first))
        × (cond c (pair_count f (block_of_all first) (block_of_all second) + 1) 0 ≤ suc (length second))
    by true within = (omega (arith, within), omega (arith, within))
    by false within = (omega arith, omega arith)

-- Room: a part's statements before one, and that one, have room in what the part weighs.
row-take : (n : ℕ) (codes : List (List Instr)) → length (in_a_row (take n codes)) ≤ length (in_a_row codes)
row-take zero codes = omega arith
row-take (suc n) [] = omega arith
row-take (suc n) (code ∷ codes) =
    omega (arith, length-append code (in_a_row (take n codes)), length-append code (in_a_row codes), row-take n codes)

row-drop : (n : ℕ) (codes : List (List Instr)) → length (in_a_row (drop n codes)) ≤ length (in_a_row codes)
row-drop zero codes = omega arith
row-drop (suc n) [] = omega arith
row-drop (suc n) (code ∷ codes) = omega (arith, length-append code (in_a_row codes), row-drop n codes)

pub row-short_between : (from to : ℕ) (codes : List (List Instr))
    → length (row_between from to codes) ≤ length (in_a_row codes)
row-short_between from to codes = omega (arith, row-take (to - from) (drop from codes), row-drop from codes)

row-before : (from i : ℕ) (codes : List (List Instr)) → from ≤ i
    → length (row_between from i codes) ≤ length (in_a_row (take i codes))
row-before zero i codes below = omega (arith, ap length (row-front i codes))
row-before (suc from) zero codes below = absurd (omega arith)
row-before (suc from) (suc i) [] below = omega (arith, ap (λ l. length (in_a_row l)) (take_none (suc i - suc from)))
row-before (suc from) (suc i) (code ∷ codes) below =
    let count : suc i - suc from ≡ i - from = omega arith in
    omega (
      arith,
      ap (λ n. length (in_a_row (take n (drop from codes)))) count,
      row-before from i codes (omega arith),
      length-append code (in_a_row (take i codes)),
    )

module _ (f : Setting) (few : f.profile.taken ≤ 32) (mode : Mode) where
  front-room : (part : List Stmt) (i : ℕ) (d : Stmt) → i < length part
      → length (in_a_row (take i (padded_codes f mode (block_of_all part))))
      + 120 * statement_weight (context_of f.decls) label.Secret (statement_of (get_or part i d))
      ≤ 120 * block_weight (context_of f.decls) label.Secret (block_of_all part)
  front-room [] i d within = absurd (omega arith)
  front-room (s ∷ part) zero d within = omega arith
  front-room (s ∷ part) (suc i) d within =
      omega (
        arith,
        length-append (padded_code f mode (statement_of s))
            (in_a_row (take i (padded_codes f mode (block_of_all part)))),
        statement-short f few (statement_of s) mode,
        front-room part i d (omega arith),
      )

  -- there is room for the next statement of a row
  pub row-room : (part : List Stmt) (from i : ℕ) (d : Stmt) (a b : CodeBuf) (most : ℕ) → from ≤ i → i < length part
      → length a.code.items + 120 * block_weight (context_of f.decls) label.Secret (block_of_all part) ≤ most
      → Appended a b (row_between from i (padded_codes f mode (block_of_all part))) no_notes
      → length b.code.items + 120 * statement_weight (context_of f.decls) label.Secret
      (statement_of (get_or part i d)) ≤ most
  row-room part from i d a b most below within room x =
      let codes = padded_codes f mode (block_of_all part) in
      omega (
        arith,
        room,
        appended_length a b (row_between from i codes) no_notes x,
        row-before from i codes below,
        front-room part i d within,
      )

  -- after some of a part's statements
  pub row-behind : (part : List Stmt) (from to : ℕ) (a b : CodeBuf)
      → Appended a b (row_between from to (padded_codes f mode (block_of_all part))) no_notes
      → length b.code.items ≤ length a.code.items + 120 * block_weight (context_of f.decls) label.Secret
      (block_of_all part)
  row-behind part from to a b x =
      let codes = padded_codes f mode (block_of_all part) in
      omega (
        arith,
        appended_length a b (row_between from to codes) no_notes x,
        row-short_between from to codes,
        row-short f few (block_of_all part) mode,
      )

-- no statement of a row was made
pub row-start : (from : ℕ) (codes : List (List Instr)) (a : CodeBuf)
    → Appended a a (row_between from from codes) no_notes
row-start from codes a =
    appended_as a a [] (row_between from from codes) no_notes no_notes (sym (row-none from codes)) (λ place. refl)
    (appended-none a)

-- the taken arm, whose first part is written at once
pub taken-appended_whole : (f : Setting) (mode : Mode) (first second : List Stmt) (k taken one two : ℕ)
    (a b c d : CodeBuf)
    → one ≡ length first → two ≡ length second
    → Appended a b (row_between 0 one (padded_codes f mode (block_of_all first))) no_notes
    → Appended b c (row_between k two (padded_codes f modes.Mirrored (block_of_all second))) no_notes
    → Appended c d (idle taken) no_notes
    → Appended a d (second_padded taken
    (taken_arm k (padded_codes f mode (block_of_all first)) (padded_codes f modes.Mirrored (block_of_all second))))
    no_notes
taken-appended_whole f mode first second k taken one two a b c d is_one is_two x z w =
    let real = padded_codes f mode (block_of_all first) in
    let mirrored = padded_codes f modes.Mirrored (block_of_all second) in
    let parts : row_between 0 one real ≡ in_a_row (take k real) ++ in_a_row (drop k real) =
    row-rest 0 one real (omega (arith, is_one, length-codes f mode first))
    ∙ ap in_a_row (sym (take-append-drop k real)) ∙ row-append (take k real) (drop k real) in
    let all : row_between 0 one real ++ in_a_row (drop k mirrored) ≡ taken_arm k real mirrored =
    ap (λ l. l ++ in_a_row (drop k mirrored)) parts
    ∙ append_assoc (in_a_row (take k real)) (in_a_row (drop k real)) (in_a_row (drop k mirrored)) in
    silent_behind a c d (taken_arm k real mirrored) (idle taken) no_notes
    (appended_as a c (row_between 0 one real ++ in_a_row (drop k mirrored))
    (taken_arm k real mirrored) no_notes no_notes all (λ place. refl)
    (silent_behind a b c (row_between 0 one real) (in_a_row (drop k mirrored)) no_notes x
    (rest-appended f modes.Mirrored second b c k two is_two z)))
    w

-- an arm of a quiet branch
pub idling-appended : (f : Setting) (mode : Mode) (part : List Stmt) (all cycles : ℕ) (a b c : CodeBuf)
    → all ≡ length part
    → Appended a b (row_between 0 all (padded_codes f mode (block_of_all part))) no_notes
    → Appended b c (idle cycles) no_notes
    → Appended a c (in_a_row (padded_codes f mode (block_of_all part)) ++ idle cycles) no_notes
idling-appended f mode part all cycles a b c is x y =
    silent_behind a b c (in_a_row (padded_codes f mode (block_of_all part))) (idle cycles) no_notes
    (rest-appended f mode part a b 0 all is x) y

-- a statement of a part weighs no more than the part
pub weight-at : (known : Context) (part : List Stmt) (i : ℕ) (d : Stmt) → i < length part
    → statement_weight known label.Secret (statement_of (get_or part i d)) ≤ block_weight known label.Secret
    (block_of_all part)
weight-at known [] i d within = absurd (omega arith)
weight-at known (s ∷ part) zero d within = omega arith
weight-at known (s ∷ part) (suc i) d within = omega (arith, weight-at known part i d (omega arith))

-- a branch on a secret in public code
pub secret-short : (f : Setting) → f.profile.taken ≤ 32
    → (mode : Mode) (t : Test) (first second : Block) (a b : CodeBuf)
    → label_of_test (context_of f.decls) t ≡ label.Secret
    → Appended a b (padded_code f mode (Choice t first second)) (λ place. notes_in mode (guard_notes f 0 place t))
    → length b.code.items ≤ length a.code.items + 120 * statement_weight (context_of f.decls) label.Public
    (Choice t first second)
secret-short f few mode t first second a b secret x =
    let known = context_of f.decls in
    let weight : statement_weight known label.Secret (Choice t first second)
    ≡ statement_weight known label.Public (Choice t first second) =
    sym (ap (λ (l : Label). 1 + (test_weight t + parts_weight l
    (block_weight known l first + block_weight known l second))) secret) in
    omega (
      arith,
      weight,
      appended_length a b (padded_code f mode (Choice t first second))
          (λ place. notes_in mode (guard_notes f 0 place t)) x,
      statement-short f few (Choice t first second) mode,
    )
