-- What is appended for slots and for held registers in order: the code of each after that of those before it.
use Rattle.std.proofs.Common.{◌≡◌, ℕ, ◌+◌, ◌<◌, ◌≤◌, ℤ, pos, List, [], ◌∷◌, length, drop, get_or, Option, Some, refl, sym, ap, ◌∙◌, subst, add-one, drop-cons, arith}
use Rattle.std.proofs.lemmas.List.{drop_all}
use Rattle.std.proofs.lemmas.Option.{slice_get-get_or, slice_get_read, slice_get_within, get_or_from_slice_get}
use Rattle.lt_isa.specs.declared.instructions.Instr.{Instr}
use Rattle.lt_isa.specs.declared.instructions.Instr.TheVariants.{Li}
use Rattle.bank_alloc.specs.declared.places.Place.{Place}
use Rattle.block_cache_gen.specs.declared.frames.CodeBuf.{CodeBuf}
use Rattle.block_cache_gen.specs.Prelude.{Appended, no_notes, home_numbered, each_held, Held, Home, Setting, IsFastFrame, home_at, fast_setting}
use Rattle.scratch_alloc.specs.declared.plans.Pin.{Pin}
use Rattle.scratch_alloc.specs.Prelude.{no_place}
use Rattle.held_registers.specs.declared.registers.Held.TheVariants.{Scalar}
use Rattle.block_cache_gen.specs.declared.frames.FastFrame.{FastFrame}
use Rattle.block_cache_gen.proofs.FrameParts.{frame_places, frame_slots}
use Rattle.block_cache_gen.proofs.HeldBeginning.{held-at}
use Rattle.block_cache_gen.proofs.Settled.{get_or-homes_at}
use Rattle.block_cache_gen.proofs.Emitting.{silent_behind}
use Rattle.branch_padding.proofs.EmittedRegions.{appended-none}
use Rattle.code_gen.specs.declared.programs.Phase.{Phase}
use Rattle.code_gen.specs.declared.programs.Phase.TheVariants.{Beginning, Ending}
use Rattle.code_gen.specs.Prelude.{access, each_slot, register_code}

-- what is appended from a slot on, to the end
abbrev pub SlotsAppended : (ℕ → Option Pin → List Instr) → List (Option Pin) → ℕ → CodeBuf → CodeBuf → Type 0
SlotsAppended code pins slot before after = Appended before after (each_slot code slot (drop slot pins)) no_notes

-- one slot, and then the rest
pub slots-more : (code : ℕ → Option Pin → List Instr) (pins : List (Option Pin)) (slot : ℕ) (d : Option Pin)
    (a b c : CodeBuf) → slot < length pins → Appended a b (code slot (get_or pins slot d)) no_notes
    → SlotsAppended code pins (slot + 1) b c → SlotsAppended code pins slot a c
slots-more code pins slot d a b c below one more =
    let pin = get_or pins slot d in
    let split : drop slot pins ≡ pin ∷ drop (slot + 1) pins =
    drop-cons pins slot d below ∙ ap (λ n. pin ∷ drop n pins) (sym (add-one slot)) in
    subst (λ l. Appended a c (each_slot code slot l) no_notes) (sym split)
    (silent_behind a b c (code slot pin) (each_slot code (slot + 1) (drop (slot + 1) pins)) no_notes one more)

-- past the last slot there is nothing to append
pub slots-past : (code : ℕ → Option Pin → List Instr) (pins : List (Option Pin)) (slot : ℕ) (a : CodeBuf)
    → length pins ≤ slot → SlotsAppended code pins slot a a
slots-past code pins slot a past =
    subst (λ l. Appended a a (each_slot code slot l) no_notes) (sym (drop_all slot pins past)) (appended-none a)

-- the same of the registers that hold something for the whole run
abbrev pub HeldAppended : (ℕ → Held → List Instr) → List Held → ℕ → CodeBuf → CodeBuf → Type 0
HeldAppended code held place before after =
    Appended before after (each_held code (place + 19) (drop place held)) no_notes

pub held-more : (code : ℕ → Held → List Instr) (held : List Held) (place : ℕ) (d : Held) (a b c : CodeBuf)
    → place < length held → Appended a b (code (place + 19) (get_or held place d)) no_notes
    → HeldAppended code held (place + 1) b c → HeldAppended code held place a c
held-more code held place d a b c below one more =
    let h = get_or held place d in
    let split : drop place held ≡ h ∷ drop (place + 1) held =
    drop-cons held place d below ∙ ap (λ n. h ∷ drop n held) (sym (add-one place)) in
    let next : place + 1 + 19 ≡ place + 19 + 1 = omega arith in
    subst (λ l. Appended a c (each_held code (place + 19) l) no_notes) (sym split)
    (silent_behind a b c (code (place + 19) h) (each_held code (place + 19 + 1) (drop (place + 1) held)) no_notes one
    (subst (λ r. Appended b c (each_held code r (drop (place + 1) held)) no_notes) next more))

pub held-past : (code : ℕ → Held → List Instr) (held : List Held) (place : ℕ) (a : CodeBuf)
    → length held ≤ place → HeldAppended code held place a a
held-past code held place a past =
    subst (λ l. Appended a a (each_held code (place + 19) l) no_notes) (sym (drop_all place held past)) (appended-none a)

-- a scalar that a register holds is declared
pub held-declared : (f : FastFrame) → IsFastFrame f → (place : ℕ) (d : Held) → place < length f.held.now → (n : ℕ)
    → get_or f.held.now place d ≡ Scalar n → n < length f.program.now.decls.items
held-declared f frame place d below n same =
    let sound = frame.held in
    let at = held-at f.held.now place (Scalar n)
    (slice_get-get_or f.held.now place d below ∙ ap (λ g. Some g) same) in
    let (decl, found, none) = sound.scalars (19 + place) n at in
    slice_get_within f.program.now.decls.items n decl found

-- the home of a variable, by its place and its slot
pub numbered-home : (f : FastFrame) → IsFastFrame f → (n : ℕ) → n < length f.program.now.decls.items
    → home_numbered (fast_setting f) n
    ≡ home_at f.pins f.profile.now.block_log (get_or f.places.now.of_var.items n no_place)
    (get_or f.slots.now.of_var.items n 0)
numbered-home f frame n below =
    let places = frame_places f frame in
    let slots = frame_slots f frame in
    get_or-homes_at f.pins f.profile.now.block_log f.places.now.of_var.items f.slots.now.of_var.items n
    (slots ∙ sym places)
    (omega (arith, below, places))

-- the word and the slot of a variable's home, as its place and its slot have them
pub scalar-placed : (f : FastFrame) → IsFastFrame f → (n : ℕ) (q : Place) (slot : ℕ) (value : ℤ)
    → n < length f.program.now.decls.items → q ≡ get_or f.places.now.of_var.items n q
    → slot ≡ get_or f.slots.now.of_var.items n slot → value ≡ pos q.word
    → (value ≡ pos (home_numbered (fast_setting f) n).word) × (slot ≡ (home_numbered (fast_setting f) n).slot)
scalar-placed f frame n q slot value below place_is slot_is value_is =
    let places = f.places.now.of_var.items in
    let slots = f.slots.now.of_var.items in
    let home = numbered-home f frame n below in
    let count = frame_places f frame in
    let as_many = frame_slots f frame in
    let place : get_or places n no_place ≡ q =
    get_or_from_slice_get places n q no_place
    (slice_get_read places (length places) n q refl (omega (arith, below, count)) place_is) in
    let served : get_or slots n 0 ≡ slot =
    get_or_from_slice_get slots n slot 0
    (slice_get_read slots (length slots) n slot refl (omega (arith, below, as_many)) slot_is) in (
      value_is ∙ ap (λ (p : Place). pos p.word) (sym place) ∙ ap (λ (h : Home). pos h.word) (sym home),
      sym served ∙ ap (λ (h : Home). h.slot) (sym home),
    )

-- so this is the code for a scalar
scalar-code : (phase : Phase) (f : Setting) (r n : ℕ)
    → Li 0 (pos (home_numbered f n).word) ∷ access phase r (home_numbered f n).slot ∷ []
    ≡ register_code phase f r (Scalar n)
scalar-code Beginning f r n = refl
scalar-code Ending f r n = refl

pub scalar-accessed : (phase : Phase) (f : Setting) (r n : ℕ) (h : Held) (value : ℤ) (slot : ℕ) (i : Instr)
    (a b : CodeBuf) → h ≡ Scalar n → i ≡ access phase r slot
    → (value ≡ pos (home_numbered f n).word) × (slot ≡ (home_numbered f n).slot)
    → Appended a b (Li 0 value ∷ i ∷ []) no_notes → Appended a b (register_code phase f r h) no_notes
scalar-accessed phase f r n h value slot i a b is accessed placed made =
    let code : Li 0 value ∷ i ∷ []
    ≡ Li 0 (pos (home_numbered f n).word) ∷ access phase r (home_numbered f n).slot ∷ [] =
    (λ k. Li 0 (placed.0 k) ∷ (accessed ∙ ap (access phase r) placed.1) k ∷ []) in
    subst (λ l. Appended a b l no_notes) (code ∙ scalar-code phase f r n ∙ ap (register_code phase f r) (sym is)) made
