-- Stretches that are passed: in sequence, one instruction, and the notes between places.
use Rattle.std.proofs.Common.{◌≡◌, ℕ, ◌+◌, ◌<◌, ◌≤◌, ◌==◌, Bool, true, false, not, ◌||◌, ◌&&◌, ℤ, List, [], ◌∷◌, ◌++◌, length, Option, Some, None, refl, sym, ap, ◌∙◌, subst, arith, get_or-set_same, get_or-set_other}
use Rattle.std.specs.Prelude.{if◌then◌else◌, slice_get}
use Rattle.std.specs.Option.{option_map}
use Rattle.std.specs.List.{AllByRecursion}
use Rattle.std.proofs.lemmas.Bool.{lt-ltb, ne_eqb, eq-eqb}
use Rattle.gr_word.specs.declared.operations.Cmp.{Cmp}
use Rattle.lt_isa.specs.declared.symbols.Note.{Note}
use Rattle.lt_isa.specs.declared.instructions.Instr.{Instr}
use Rattle.gr_word.specs.declared.operations.Op.{Op}
use Rattle.lt_isa.specs.declared.instructions.Instr.TheVariants.{Li, Alu, Ldb, Stb, Idb, Ldw, Stw, Jmp, Br}
use Rattle.lt_isa.specs.Prelude.{Parts, is_ram, target_of}
use Rattle.trace_patterns.specs.declared.reasons.Reason.TheVariants.{JumpOutside, NoteTooLow, SecretAddress, SecretToRam}
use Rattle.trace_patterns.specs.Prelude.{Known, is_secret, bank_known, set_secret, set_bank, FitsClaim, note_known, Ruling, Falls, Leaves, Opens, refused_if, shows_block, at_bank, at_claim, jumped, note_of_place, claimed_at, ruling_if, ruling_of, ruling_at}
use Rattle.stretches.specs.Prelude.{StandsAt, HoldsAt, AsItComes, Passes, Done, Onward, Away, Across, NotesBetween}
use Rattle.trace_patterns.proofs.Notes.{fits-claim}
use Rattle.stretches.proofs.Standing.{standing-head, standing-tail}

-- two stretches in sequence
pub passes-then : (o : Parts) (p : ℕ) (k : Known) (q : ℕ) (l : Known) → Passes o p k q l → (r : ℕ) (m : Known)
    → Passes o q l r m → Passes o p k r m
passes-then o p k q l (Done p' k') r m more = more
passes-then o p k q l (Onward p' k' holds next q' l' here rules inside rest) r m more =
    Onward p k holds next r m here rules inside (passes-then o (p + 1) next q l rest r m more)
passes-then o p k q l (Away p' k' holds claimed q' l' here rules noted rest) r m more =
    Away p k holds claimed r m here rules noted (passes-then o (p + 1) claimed q l rest r m more)
passes-then o p k q l (Across p' k' holds offset pattern join state q' l' here rules crosses rest) r m more =
    Across p k holds offset pattern join state r m here rules crosses
    (passes-then o join _ q l rest r m more)

-- the same up to an equal place
pub passes-to : (o : Parts) (p : ℕ) (k : Known) (q r : ℕ) (l : Known) → q ≡ r → Passes o p k q l → Passes o p k r l
passes-to o p k q r l same h = subst (λ (x : ℕ). Passes o p k x l) same h

-- the ruling on a place is the ruling on its instruction
pub ruled-at : (o : Parts) (p : ℕ) (k : Known) (i : Instr) → slice_get o.code p ≡ Some i
    → ruling_at o p k ≡ ruling_of o p k i
unfolding ruling_at
ruled-at o p k i at = ap (ruling_if o p k) at

-- one instruction that continues to the next place
pub passes-one : (o : Parts) (p : ℕ) (k holds next : Known) (i : Instr) → HoldsAt o p k holds
    → slice_get o.code p ≡ Some i → ruling_of o p holds i ≡ Falls next → p + 1 < length o.code
    → Passes o p k (p + 1) next
passes-one o p k holds next i here at rules inside =
    Onward p k holds next (p + 1) next here (ruled-at o p holds i at ∙ rules) inside (Done (p + 1) next)

-- a jump isn't refused if its target is in the code and has a note, and what is known fits the note
pub jumped-fits : (o : Parts) (target : ℕ) (k claimed : Known) (next : Ruling) → target < length o.code
    → claimed_at o target ≡ Some claimed → FitsClaim k claimed → jumped o target k next ≡ next
jumped-fits o target k claimed next inside noted fit =
    ap (λ (b : Bool). refused_if (not b) JumpOutside (at_claim (claimed_at o target) k next))
    (lt-ltb target (length o.code) inside)
    ∙ ap (λ (c : Option Known). at_claim c k next) noted
    ∙ ap (λ (b : Bool). refused_if (not b) NoteTooLow next) ((fits-claim o target k claimed noted).1 fit)

-- a branch on public registers to such a place falls through
pub branch-falls : (o : Parts) (p : ℕ) (k claimed : Known) (cmp : Cmp) (ra rb : ℕ) (offset : ℤ)
    → is_secret k ra ≡ false → is_secret k rb ≡ false → target_of o p offset < length o.code
    → claimed_at o (target_of o p offset) ≡ Some claimed → FitsClaim k claimed
    → ruling_of o p k (Br cmp ra rb offset) ≡ Falls k
unfolding ruling_of
branch-falls o p k claimed cmp ra rb offset first second inside noted fit =
    let next = jumped o (target_of o p offset) k (Falls k) in
    ap (λ (b : Bool). if b || is_secret k rb then Opens offset else next) first
    ∙ ap (λ (b : Bool). if b then Opens offset else next) second
    ∙ jumped-fits o (target_of o p offset) k claimed (Falls k) inside noted fit

-- a jump to such a place leaves
pub jump-leaves : (o : Parts) (p : ℕ) (k claimed : Known) (offset : ℤ) → target_of o p offset < length o.code
    → claimed_at o (target_of o p offset) ≡ Some claimed → FitsClaim k claimed → ruling_of o p k (Jmp offset) ≡ Leaves
unfolding ruling_of
jump-leaves o p k claimed offset inside noted fit =
    jumped-fits o (target_of o p offset) k claimed Leaves inside noted fit

-- some notes are after one place and before another
abbrev pub LieBetween : ℕ → ℕ → List Note → Type 0
LieBetween p q notes = AllByRecursion (λ n. (p < n.pc) × (n.pc < q)) notes

-- notes between two places are between any two places around these
pub lie_wider : (p q s t : ℕ) (notes : List Note) → s ≤ p → q ≤ t → LieBetween p q notes → LieBetween s t notes
lie_wider p q s t [] low high lie = tt
lie_wider p q s t (n ∷ notes) low high lie =
    (let first = lie.0 in (omega (arith, first.0), omega (arith, first.1)), lie_wider p q s t notes low high lie.1)

-- two lists of notes between two places, in sequence
pub lie_both : (p q : ℕ) (xs ys : List Note) → LieBetween p q xs → LieBetween p q ys → LieBetween p q (xs ++ ys)
lie_both p q [] ys first second = second
lie_both p q (n ∷ xs) ys first second = (first.0, lie_both p q xs ys first.1 second)

-- no note between two places is at the first place or before it
pub no_note-before : (p q r : ℕ) (notes : List Note) → LieBetween p q notes → r ≤ p → note_of_place notes r ≡ None
no_note-before p q r [] lie le = refl
no_note-before p q r (n ∷ notes) lie le =
    let first = lie.0 in
    ap (λ (b : Bool). if b then Some n
    else note_of_place notes r) (ne_eqb n.pc r (λ e. absurd (omega (arith, first.0))))
    ∙ no_note-before p q r notes lie.1 le

-- no note between two places is at the second place or after it
pub no_note-behind : (p q r : ℕ) (notes : List Note) → LieBetween p q notes → q ≤ r → note_of_place notes r ≡ None
no_note-behind p q r [] lie le = refl
no_note-behind p q r (n ∷ notes) lie le =
    let first = lie.0 in
    ap (λ (b : Bool). if b then Some n
    else note_of_place notes r) (ne_eqb n.pc r (λ e. absurd (omega (arith, first.1))))
    ∙ no_note-behind p q r notes lie.1 le

-- a place that none of the last notes has
pub note_at-first : (xs ys : List Note) (r : ℕ) → note_of_place ys r ≡ None → note_of_place (xs ++ ys) r
    ≡ note_of_place xs r
note_at-first [] ys r none = none
note_at-first (n ∷ xs) ys r none = ap (λ (x : Option Note). if n.pc == r then Some n else x)
    (note_at-first xs ys r none)

-- a place that none of the first notes has
pub note_at-second : (xs ys : List Note) (r : ℕ) → note_of_place xs r ≡ None → note_of_place (xs ++ ys) r
    ≡ note_of_place ys r
note_at-second [] ys r none = refl
note_at-second (n ∷ xs) ys r none = by (n.pc == r) refl (note_at-second xs ys r)
  where
    by : (b : Bool) → (n.pc == r) ≡ b → (note_of_place xs r ≡ None → note_of_place (xs ++ ys) r ≡ note_of_place ys r)
        → note_of_place (n ∷ (xs ++ ys)) r ≡ note_of_place ys r
    by true is behind =
        let found : note_of_place (n ∷ xs) r
        ≡ Some n = ap (λ (b : Bool). if b then Some n else note_of_place xs r) is in
        absurd (let e : ◌≡◌ {A = Option Note} None (Some n) = sym none ∙ found in cc)
    by false is behind =
        let rest : note_of_place (n ∷ xs) r
        ≡ note_of_place xs r = ap (λ (b : Bool). if b then Some n else note_of_place xs r) is in
        ap (λ (b : Bool). if b then Some n else note_of_place (xs ++ ys) r) is ∙ behind (sym rest ∙ none)

-- a note of the first notes is found first
pub note_at-found : (xs ys : List Note) (r : ℕ) (m : Note) → note_of_place xs r ≡ Some m → note_of_place (xs ++ ys) r
    ≡ Some m
note_at-found [] ys r m found = absurd (let e : ◌≡◌ {A = Option Note} None (Some m) = found in cc)
note_at-found (n ∷ xs) ys r m found = by (n.pc == r) found (note_at-found xs ys r m)
  where
    by : (b : Bool) → (if b then Some n else note_of_place xs r) ≡ Some m
        → (note_of_place xs r ≡ Some m → note_of_place (xs ++ ys) r ≡ Some m)
        → (if b then Some n else note_of_place (xs ++ ys) r) ≡ Some m
    by true e behind = e
    by false e behind = behind e

-- the place of the first note
pub note_at-head : (n : Note) (notes : List Note) (r : ℕ) → n.pc ≡ r → note_of_place (n ∷ notes) r ≡ Some n
note_at-head n notes r e = ap (λ (b : Bool). if b then Some n else note_of_place notes r) (eq-eqb n.pc r e)

-- a place other than that of the first note
pub note_at-tail : (n : Note) (notes : List Note) (r : ℕ) → (n.pc ≡ r → ⊥) → note_of_place (n ∷ notes) r
    ≡ note_of_place notes r
note_at-tail n notes r apart =
    ap (λ (b : Bool). if b then Some n else note_of_place notes r) (ne_eqb n.pc r (λ e. absurd (apart e)))

-- The notes between two places are some notes and then others: the first notes are before a place between these two,
-- the others are after it, and none is at it.
module _ (o : Parts) (p q s : ℕ) (xs ys : List Note) (first : LieBetween p q xs) (second : LieBetween q s ys)
    (between : NotesBetween o p s (xs ++ ys)) where
  -- the places before it have the claims of the first notes
  pub notes-before : q ≤ s → NotesBetween o p q xs
  notes-before le r low high =
      between r low (omega arith)
      ∙ ap (option_map note_known) (note_at-first xs ys r (no_note-before q s r ys second (omega arith)))

  -- the places after it have the claims of the other notes
  pub notes-behind : p ≤ q → NotesBetween o q s ys
  notes-behind le r low high =
      between r (omega arith) high
      ∙ ap (option_map note_known) (note_at-second xs ys r (no_note-behind p q r xs first (omega arith)))

  -- the place between the two lists of notes has no note
  pub no_note-there : p < q → q < s → claimed_at o q ≡ None
  no_note-there low high =
      between q low high
      ∙ ap (option_map note_known) (note_at-second xs ys q (no_note-behind p q q xs first (omega arith))
      ∙ no_note-before q s q ys second (omega arith))

-- what notes claim between two places, they claim between two places within these
pub notes-within : (o : Parts) (p q s t : ℕ) (notes : List Note) → p ≤ s → t ≤ q → NotesBetween o p q notes
    → NotesBetween o s t notes
notes-within o p q s t notes low high between r after before = between r (omega arith) (omega arith)

-- the only note between two places
pub noted : (o : Parts) (p q : ℕ) (n : Note) → NotesBetween o p q (n ∷ []) → p < n.pc → n.pc < q
    → claimed_at o n.pc ≡ Some (note_known n)
noted o p q n between low high =
    between n.pc low high
    ∙ ap (λ (b : Bool). option_map note_known (if b then Some n else None)) (eq-eqb n.pc n.pc refl)

-- the ruling on each instruction that continues to the next place
module _ (o : Parts) (p : ℕ) (k : Known) where
  -- a number is public
  pub rules-li : (rd : ℕ) (value : ℤ) → ruling_of o p k (Li rd value) ≡ Falls (set_secret k rd false)
  unfolding ruling_of
  rules-li rd value = refl

  -- a result is secret if one of its operands is
  pub rules-alu : (op : Op) (rd ra rb : ℕ)
      → ruling_of o p k (Alu op rd ra rb) ≡ Falls (set_secret k rd (is_secret k ra || is_secret k rb))
  unfolding ruling_of
  rules-alu op rd ra rb = refl

  -- a block is loaded; if the observer sees its number, the number must be public
  pub rules-ldb : (slot bank r : ℕ) → (shows_block bank && is_secret k r) ≡ false
      → ruling_of o p k (Ldb slot bank r) ≡ Falls (set_bank k slot bank)
  unfolding ruling_of
  rules-ldb slot bank r allowed =
      ap (λ (b : Bool). refused_if b SecretAddress (Falls (set_bank k slot bank))) allowed

  -- a block is stored, if its bank is known
  pub rules-stb : (slot bank : ℕ) → bank_known k slot ≡ Some bank → ruling_of o p k (Stb slot) ≡ Falls k
  unfolding ruling_of
  rules-stb slot bank known = ap (λ (b : Option ℕ). at_bank b (λ bank. Falls k)) known

  -- a block's number is public if the observer sees it
  pub rules-idb : (rd slot bank : ℕ) → bank_known k slot ≡ Some bank
      → ruling_of o p k (Idb rd slot) ≡ Falls (set_secret k rd (not (shows_block bank)))
  unfolding ruling_of
  rules-idb rd slot bank known =
      ap (λ (b : Option ℕ). at_bank b (λ bank. Falls (set_secret k rd (not (shows_block bank))))) known

  -- a word of plain memory is secret if its place is; any other word is secret
  pub rules-ldw : (rd slot ro bank : ℕ) → bank_known k slot ≡ Some bank
      → ruling_of o p k (Ldw rd slot ro) ≡ Falls (set_secret k rd (not (is_ram bank) || is_secret k ro))
  unfolding ruling_of
  rules-ldw rd slot ro bank known =
      ap (λ (b : Option ℕ). at_bank b (λ bank. Falls (set_secret k rd (not (is_ram bank) || is_secret k ro)))) known

  -- a word is stored; in plain memory neither the word nor its place may be secret
  pub rules-stw : (rs slot ro bank : ℕ) → bank_known k slot ≡ Some bank
      → (is_ram bank && (is_secret k rs || is_secret k ro)) ≡ false → ruling_of o p k (Stw rs slot ro) ≡ Falls k
  unfolding ruling_of
  rules-stw rs slot ro bank known allowed =
      ap (λ (b : Option ℕ). at_bank b (λ bank. refused_if (is_ram bank &&
      (is_secret k rs || is_secret k ro)) SecretToRam
      (Falls k))) known
      ∙ ap (λ (b : Bool). refused_if b SecretToRam (Falls k)) allowed

-- what is read after a change
pub secret-same : (k : Known) (r : ℕ) (label : Bool) → r < length k.secret → is_secret (set_secret k r label) r ≡ label
secret-same k r label inside = get_or-set_same k.secret r label true inside

-- the label of another register stays
pub secret-other : (k : Known) (r s : ℕ) (label : Bool) → (s ≡ r → ⊥)
    → is_secret (set_secret k r label) s ≡ is_secret k s
secret-other k r s label apart = get_or-set_other k.secret r s label true apart

-- the bank of a slot that was bound
pub bank-same : (k : Known) (slot bank : ℕ) → slot < length k.banks → bank_known (set_bank k slot bank) slot ≡ Some bank
bank-same k slot bank inside = get_or-set_same k.banks slot (Some bank) None inside

-- the bank of another slot stays
pub bank-other : (k : Known) (slot bank s : ℕ) → (s ≡ slot → ⊥) → bank_known (set_bank k slot bank) s ≡ bank_known k s
bank-other k slot bank s apart = get_or-set_other k.banks slot s (Some bank) None apart

-- Instructions from a place on, each of which continues to the next place, from what is known at the first.
pub data GoesOn (o : Parts) : (p : ℕ) → List Instr → Known → Known → Type 0 where
  NoMore : (p : ℕ) (k : Known) → GoesOn o p [] k k
  One : (p : ℕ) (i : Instr) (code : List Instr) (k next last : Known)
      → ruling_of o p k i ≡ Falls next → GoesOn o (p + 1) code next last → GoesOn o p (i ∷ code) k last

-- two parts in sequence
pub goes-then : (o : Parts) (p : ℕ) (xs ys : List Instr) (k l m : Known) → GoesOn o p xs k l
    → GoesOn o (p + length xs) ys l m → GoesOn o p (xs ++ ys) k m
goes-then o p [] ys k l m (NoMore p' k') more =
    let same : p + 0 ≡ p = omega arith in
    subst (λ (q : ℕ). GoesOn o q ys k m) same more
goes-then o p (i ∷ xs) ys k l m (One p' i' code k' next last rules rest) more =
    let same : p + length (i ∷ xs) ≡ (p + 1) + length xs = omega arith in
    One p i (xs ++ ys) k next m rules
    (goes-then o (p + 1) xs ys next l m rest (subst (λ (q : ℕ). GoesOn o q ys l m) same more))

-- instructions that continue are passed if their places have no notes
pub passes-goes : (o : Parts) (p : ℕ) (code : List Instr) (k last : Known) → GoesOn o p code k last
    → StandsAt o p code → ((r : ℕ) → p ≤ r → r < p + length code → claimed_at o r ≡ None)
    → p + length code < length o.code → Passes o p k (p + length code) last
passes-goes o p [] k last (NoMore p' k') stands quiet inside =
    let same : p ≡ p + 0 = omega arith in passes-to o p k p (p + 0) k same (Done p k)
passes-goes o p (i ∷ code) k last (One p' i' code' k' next last' rules rest) stands quiet inside =
    let same : (p + 1) + length code ≡ p + length (i ∷ code) = omega arith in
    passes-to o p k ((p + 1) + length code) (p + length (i ∷ code)) last same
    (Onward p k k next ((p + 1) + length code) last (AsItComes k (quiet p (omega arith) (omega arith)))
    (ruled-at o p k i (standing-head i code stands) ∙ rules) (omega arith)
    (passes-goes o (p + 1) code next last rest (standing-tail i code stands)
    (λ r low high. quiet r (omega arith) (omega arith)) (omega arith)))

-- instructions that continue are passed if at most their first place has a note
pub passes-noted : (o : Parts) (p : ℕ) (i : Instr) (code : List Instr) (k holds last : Known) → HoldsAt o p k holds
    → GoesOn o p (i ∷ code) holds last → StandsAt o p (i ∷ code)
    → ((r : ℕ) → p < r → r < p + length (i ∷ code) → claimed_at o r ≡ None)
    → p + length (i ∷ code) < length o.code → Passes o p k (p + length (i ∷ code)) last
passes-noted o p i code k holds last here (One p' i' code' k' next last' rules rest) stands quiet inside =
    let same : (p + 1) + length code ≡ p + length (i ∷ code) = omega arith in
    passes-to o p k ((p + 1) + length code) (p + length (i ∷ code)) last same
    (Onward p k holds next ((p + 1) + length code) last here
    (ruled-at o p holds i (standing-head i code stands) ∙ rules) (omega arith)
    (passes-goes o (p + 1) code next last rest (standing-tail i code stands)
    (λ r low high. quiet r (omega arith) (omega arith)) (omega arith)))
