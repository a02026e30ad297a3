-- What belongs together in a frame: as many places and slots as declarations, and each place has a word.
use Rattle.std.proofs.Common.{◌+◌, ◌≡◌, ℕ, suc, ◌<◌, ◌≤◌, List, [], ◌∷◌, length, get_or, Option, Some, None, sym, ap, ◌∙◌, subst, arith}
use Rattle.std.specs.Prelude.{if◌then◌else◌, is_some, true}
use Rattle.std.specs.List.{AllByRecursion}
use Rattle.gr_word.specs.declared.variables.Label.TheVariants.{Public}
use Rattle.lt_isa.specs.Prelude.{any_bank}
use Rattle.src_tree.specs.declared.trees.Decl.{Decl}
use Rattle.src_tree.specs.Prelude.{source_of, LengthFits, words_of_length, context_of, label_at, variable_number}
use Rattle.bank_alloc.specs.declared.places.Place.{Place}
use Rattle.bank_alloc.proofs.Apart.{length_at}
use Rattle.scratch_alloc.specs.Prelude.{no_decl, no_place}
use Rattle.block_cache_gen.specs.declared.frames.FastFrame.{FastFrame}
use Rattle.block_cache_gen.specs.declared.variables.Variable.{Variable}
use Rattle.held_registers.specs.Prelude.{register_of_scalar}
use Rattle.block_cache_gen.specs.Prelude.{register_for, Setting, home_of, pin_at, claim_by, claimed_where_used, slot_claims, IsFastFrame, fast_setting, claim_in, claims_in, home_in, variable_of}
use Rattle.block_cache_gen.proofs.KnownNames.{found_few, found_held, found_home, found_label, found_length, declared_found, lost_label, slots_used}

some_word : (n : Option ℕ) → LengthFits n → 1 ≤ words_of_length n
some_word None fits = omega arith
some_word (Some n) fits = fits.0

-- each variable has a place
pub frame_places : (f : FastFrame) → IsFastFrame f → length f.places.now.of_var.items ≡ length f.program.now.decls.items
frame_places f is = is.plan.places

-- each variable has a slot
pub frame_slots : (f : FastFrame) → IsFastFrame f → length f.slots.now.of_var.items ≡ length f.program.now.decls.items
frame_slots f is = is.plan.slots

-- what holds of each item holds of all
all_from : {X : Type 0} (P : X → Type 0) (xs : List X) (d : X)
    → ((k : ℕ) → k < length xs → P (get_or xs k d)) → AllByRecursion P xs
all_from P [] d each = tt
all_from P (x ∷ xs) d each =
    (each 0 (omega arith), all_from P xs d (λ k below. each (suc k) (omega (arith, below))))

pub frame_words : (f : FastFrame) → IsFastFrame f → AllByRecursion (λ q. 1 ≤ q.length) f.places.now.of_var.items
frame_words f is =
    let p = source_of f.program.now in
    all_from (λ (q : Place). 1 ≤ q.length) f.places.now.of_var.items no_place
    (λ k below.
    let here : k < length p.decls = omega (arith, below, is.plan.places) in
    subst (λ n. 1 ≤ n) (sym (is.plan.place k here).words)
    (some_word (get_or p.decls k no_decl).length (length_at p.decls is.within.lengths k no_decl here)))

-- What a frame's map says of a name, seen from what the frame's code is made for.
abbrev pub frame_variable : FastFrame → List ℕ → Option Variable
frame_variable f x =
    variable_of f.pins f.profile.now.block_log f.held.now 0 f.program.now.decls.items f.places.now.of_var.items f.slots.now.of_var.items x

-- a name's variable is where its home is
pub frame_home : (f : FastFrame) (s : Setting) (x : List ℕ) (v : Variable) → fast_setting f ≡ s → frame_variable f x ≡ Some v
    → home_in v ≡ home_of s x
frame_home f s x v e is =
    let P : Setting → Type 0 = λ t. home_in v ≡ home_of t x in
    subst P e (found_home f.pins f.profile.now.block_log f.held.now 0 f.program.now.decls.items f.places.now.of_var.items f.slots.now.of_var.items x v is)

-- a name's variable has its label
pub frame_label : (f : FastFrame) (s : Setting) (x : List ℕ) (v : Variable) → fast_setting f ≡ s → frame_variable f x ≡ Some v
    → v.label ≡ label_at (context_of s.decls) x
frame_label f s x v e is =
    let P : Setting → Type 0 = λ t. v.label ≡ label_at (context_of t.decls) x in
    subst P e (found_label f.pins f.profile.now.block_log f.held.now 0 f.program.now.decls.items f.places.now.of_var.items f.slots.now.of_var.items x v is)

-- and its register, if one holds it for the whole run
pub frame_held : (f : FastFrame) (s : Setting) (x : List ℕ) (v : Variable) → fast_setting f ≡ s → frame_variable f x ≡ Some v
    → v.held ≡ register_for s x
frame_held f s x v e is =
    let P : Setting → Type 0 = λ t. v.held ≡ register_for t x in
    let number : 0 + variable_number f.program.now.decls.items x ≡ variable_number f.program.now.decls.items x =
    omega arith in
    subst P e
    (found_held f.pins f.profile.now.block_log f.held.now 0 f.program.now.decls.items f.places.now.of_var.items
    f.slots.now.of_var.items x v is
    ∙ ap (register_of_scalar f.held.now) number)

-- a name that isn't declared is public
pub frame_no_label : (f : FastFrame) (s : Setting) (x : List ℕ) → IsFastFrame f → fast_setting f ≡ s → frame_variable f x ≡ None
    → Public ≡ label_at (context_of s.decls) x
frame_no_label f s x fits e is =
    let P : Setting → Type 0 = λ t. Public ≡ label_at (context_of t.decls) x in
    subst P e
    (lost_label f.pins f.profile.now.block_log f.held.now 0 f.program.now.decls.items f.places.now.of_var.items f.slots.now.of_var.items x (frame_places f fits)
    (frame_slots f fits) is)

-- a variable has a word at least
pub frame_length : (f : FastFrame) (x : List ℕ) (v : Variable) → IsFastFrame f → frame_variable f x ≡ Some v
    → 1 ≤ v.place.length
frame_length f x v fits is =
    found_length f.pins f.profile.now.block_log f.held.now 0 f.program.now.decls.items f.places.now.of_var.items f.slots.now.of_var.items x v
    (frame_words f fits) is

-- and at most four further slots
pub frame_few : (f : FastFrame) (x : List ℕ) (v : Variable) → frame_variable f x ≡ Some v → v.further ≤ 4
frame_few f x v is =
    found_few f.pins f.profile.now.block_log f.held.now 0 f.program.now.decls.items f.places.now.of_var.items f.slots.now.of_var.items x v is

-- a name that is declared has a variable
pub frame_declared : (f : FastFrame) (s : Setting) (x : List ℕ) → IsFastFrame f → fast_setting f ≡ s
    → is_some (context_of s.decls x) ≡ true → frame_variable f x ≡ None → ⊥
frame_declared f s x fits e declared is =
    let P : Setting → Type 0 = λ t. is_some (context_of t.decls x) ≡ true in
    declared_found f.pins f.profile.now.block_log f.held.now 0 f.program.now.decls.items f.places.now.of_var.items f.slots.now.of_var.items x (frame_places f fits)
    (frame_slots f fits) (subst P (sym e) declared) is

-- what is claimed of a slot that the frame's variables may use
frame_claim : (f : FastFrame) (slot bank : ℕ) → IsFastFrame f
    → claim_in f.slots.now.of_var.items slot bank ≡ claimed_where_used (fast_setting f) slot bank
frame_claim f slot bank fits =
    ap (λ b. if b then bank else 255)
    (slots_used f.pins f.profile.now.block_log f.places.now.of_var.items f.slots.now.of_var.items slot
    (frame_places f fits ∙ sym (frame_slots f fits)))

-- the eight claims for the slots
pub frame_claims : (f : FastFrame) (slots : List ℕ) → IsFastFrame f → slots ≡ f.slots.now.of_var.items
    → claims_in f.pins slots ≡ slot_claims (fast_setting f)
frame_claims f slots fits are =
    let g = fast_setting f in
    let all : (a b c d : ℕ) → List ℕ =
    λ a b c d.
    claim_by (pin_at g 0) any_bank
    ∷ claim_by (pin_at g 1) any_bank
    ∷ claim_by (pin_at g 2) a
    ∷ claim_by (pin_at g 3) b
    ∷ claim_by (pin_at g 4) c
    ∷ claim_by (pin_at g 5) d
    ∷ any_bank
    ∷ claim_by (pin_at g 7) any_bank
    ∷ [] in
    let at : (slot bank : ℕ) → claim_in slots slot bank ≡ claimed_where_used g slot bank =
    λ slot bank. ap (λ ss. claim_in ss slot bank) are ∙ frame_claim f slot bank fits in
    ap (λ x. all x (claim_in slots 3 0) (claim_in slots 4 1) (claim_in slots 5 1)) (at 2 0)
    ∙ ap (λ x. all (claimed_where_used g 2 0) x (claim_in slots 4 1) (claim_in slots 5 1)) (at 3 0)
    ∙ ap (λ x. all (claimed_where_used g 2 0) (claimed_where_used g 3 0) x (claim_in slots 5 1)) (at 4 1)
    ∙ ap (λ x. all (claimed_where_used g 2 0) (claimed_where_used g 3 0) (claimed_where_used g 4 1) x) (at 5 1)

-- the names that were gathered are the frame's
pub frame_names : (f : FastFrame) (known : List ℕ → Option Variable) (ds : List Decl) (places : List Place) (slots : List ℕ)
    → ds ≡ f.program.now.decls.items → places ≡ f.places.now.of_var.items → slots ≡ f.slots.now.of_var.items
    → ((x : List ℕ) → known x ≡ variable_of f.pins f.profile.now.block_log f.held.now 0 ds places slots x) → (x : List ℕ) → known x ≡ frame_variable f x
frame_names f known ds places slots is_ds is_places is_slots h x =
    h x
    ∙ ap (λ y. variable_of f.pins f.profile.now.block_log f.held.now 0 y places slots x) is_ds
    ∙ ap (λ y. variable_of f.pins f.profile.now.block_log f.held.now 0 f.program.now.decls.items y slots x) is_places
    ∙ ap (λ y. variable_of f.pins f.profile.now.block_log f.held.now 0 f.program.now.decls.items f.places.now.of_var.items y x) is_slots
