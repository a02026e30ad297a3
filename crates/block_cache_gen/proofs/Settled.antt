-- An object whose variables are at the places of a sound plan has the homes of its code's setting.
use Rattle.std.proofs.Common.{◌≡◌, ◌↔◌, ℕ, zero, suc, ◌+◌, ◌*◌, ◌^◌, ◌<◌, ◌≤◌, true, false, pow_pos, List, [], ◌∷◌, length, get_or, Option, Some, None, inl, inr, refl, sym, ap, ◌∙◌, subst, ⊎_elim, arith}
use Rattle.std.specs.Prelude.{is_some}
use Rattle.std.proofs.lemmas.Bool.{cases_lt, false≢true}
use Rattle.std.proofs.lemmas.List.{get_or-map, length-map}
use Rattle.gr_base.specs.Prelude.{Within}
use Rattle.gr_word.specs.declared.variables.Label.{Label}
use Rattle.gr_word.specs.declared.variables.Label.TheVariants.{Public, Secret}
use Rattle.gr_word.specs.declared.variables.Shape.{Shape}
use Rattle.gr_word.specs.declared.variables.Shape.TheVariants.{Scalar, Array}
use Rattle.lt_isa.specs.declared.profiles.BankSpec.{BankSpec}
use Rattle.lt_isa.specs.declared.profiles.Profile.{Profile}
use Rattle.lt_isa.specs.Prelude.{Parts, no_bank, block_words, blocks_of}
use Rattle.src_tree.specs.declared.trees.Decl.{Decl}
use Rattle.src_tree.specs.Prelude.{Source, source_of, context_of, label_and_shape, shape_of, IsWithinLimits, LengthFits, max_length, words_of_length, variable_number}
use Rattle.src_tree.proofs.VariableNumbers.{number-below, kind-of_number}
use Rattle.bank_alloc.specs.declared.places.Place.{Place}
use Rattle.bank_alloc.specs.Prelude.{IsBankOf, scalar_bank, IsLaidOut}
use Rattle.bank_alloc.proofs.Apart.{length_at}
use Rattle.scratch_alloc.specs.Prelude.{Plan, IsSoundPlan, IsSoundByPin, IsSpread, pin_of_slot, no_decl, no_place}
use Rattle.held_registers.specs.Prelude.{IsSoundHeld}
use Rattle.held_registers.proofs.Sound.{nothing-sound}
use Rattle.block_cache_gen.specs.Prelude.{Home, Pin, Setting, HasHomes, further_slots, IsScalarHome, IsInOneBlock, IsSpreadHome, IsResidentHome, IsArrayHome, pin_at, HomesApart, no_home, home_at, homes_at, setting_of, plan_of, IsFrame}
use Rattle.block_cache_gen.proofs.FurtherSlots.{further_blocks-is, single_place, unpinned_place}
use Rattle.block_cache_gen.specs.declared.frames.Frame.{Frame}

-- a setting is made of a program and a plan, for an object, with registers that hold what is sound
pub record IsSettingOf (p : Source) (plan : Plan) (o : Parts) (f : Setting) : Type 0 where
  pub decls : f.decls ≡ p.decls
  pub homes : f.homes ≡ homes_at plan.pins f.profile.block_log plan.places plan.slots
  pub blocks : f.blocks ≡ plan.blocks
  pub pins : f.pins ≡ plan.pins
  pub held : IsSoundHeld f.decls f.held
  pub profile : o.profile ≡ f.profile

-- as many homes as variables
pub length-homes_at : (pins : List (Option Pin)) (w : ℕ) (places : List Place) (slots : List ℕ)
    → length slots ≡ length places → length (homes_at pins w places slots) ≡ length places
length-homes_at pins w [] slots same = refl
length-homes_at pins w (q ∷ places) [] same = absurd (omega arith)
length-homes_at pins w (q ∷ places) (slot ∷ slots) same = ap suc (length-homes_at pins w places slots (omega arith))

-- the home of variable number k
pub get_or-homes_at : (pins : List (Option Pin)) (w : ℕ) (places : List Place) (slots : List ℕ) (k : ℕ)
    → length slots ≡ length places → k < length places
    → get_or (homes_at pins w places slots) k no_home ≡ home_at pins w (get_or places k no_place) (get_or slots k 0)
get_or-homes_at pins w [] slots k same within = absurd (omega arith)
get_or-homes_at pins w (q ∷ places) [] k same within = absurd (omega arith)
get_or-homes_at pins w (q ∷ places) (slot ∷ slots) zero same within = refl
get_or-homes_at pins w (q ∷ places) (slot ∷ slots) (suc k) same within =
    get_or-homes_at pins w places slots k (omega arith) (omega arith)

-- a shape by a length
pub scalar-length : (length : Option ℕ) → shape_of length ≡ Scalar → length ≡ None
scalar-length None is = refl
scalar-length (Some n) is = absurd (let f : ◌≡◌ {A = Shape} Array Scalar = is in cc)

plain-public : (label : Label) (bank : ℕ) → IsBankOf label bank → (bank ≡ 0) ↔ (label ≡ Public)
plain-public Public bank is = (λ plain. refl, λ public. is)
plain-public Secret bank is = (
  λ plain. absurd (omega (arith, is, plain)),
  λ public. absurd (let f : ◌≡◌ {A = Label} Secret Public = public in cc),
)

-- the words of a variable
words-fit : (l : Option ℕ) → LengthFits l → Within 1 max_length (words_of_length l)
words-fit None fits = (omega arith, omega arith)
words-fit (Some n) fits = fits

pub place-length : (p : Source) (w : ℕ) (plan : Plan) (k : ℕ) → IsWithinLimits p → IsSoundPlan p w plan
    → k < length p.decls → Within 1 max_length (get_or plan.places k no_place).length
place-length p w plan k limits sound below =
    subst (Within 1 max_length) (sym (sound.place k below).words)
    (words-fit (get_or p.decls k no_decl).length (length_at p.decls limits.lengths k no_decl below))

module _ (p : Source) (w : ℕ) (plan : Plan) (limits : IsWithinLimits p) (sound : IsSoundPlan p w plan) (o : Parts)
    (layout : IsLaidOut p w plan.places plan.blocks o) (f : Setting) (setting : IsSettingOf p plan o f) where
  abbrev decl : ℕ → Decl
  decl k = get_or p.decls k no_decl

  abbrev place : ℕ → Place
  place k = get_or plan.places k no_place

  abbrev slot : ℕ → ℕ
  slot k = get_or plan.slots k 0

  abbrev home : ℕ → Home
  home k = home_at plan.pins f.profile.block_log (place k) (slot k)

  -- the setting's blocks have as many words
  logs : f.profile.block_log ≡ w
  logs = ap (λ (x : Profile). x.block_log) (sym setting.profile) ∙ layout.block_size

  -- a block of the object has the words of the setting's
  pub width : block_words o ≡ 2 ^ w
  width = ap (λ n. 2 ^ n) layout.block_size

  -- the object's banks
  pub bank-count : length o.banks ≡ length plan.blocks
  bank-count = sym (length-map o.banks (λ (b : BankSpec). b.blocks)) ∙ ap length layout.blocks

  -- each bank of the object has the blocks that are planned
  pub bank-blocks : (b : ℕ) → b < length o.banks → blocks_of o b ≡ get_or plan.blocks b 0
  bank-blocks b exists =
      sym (get_or-map (λ (b : BankSpec). b.blocks) o.banks b no_bank 0 exists) ∙ ap (λ l. get_or l b 0) layout.blocks

  -- the home of each variable, by its number
  pub home-at : (k : ℕ) → k < length p.decls → get_or f.homes k no_home ≡ home k
  home-at k within =
      ap (λ homes. get_or homes k no_home) setting.homes
      ∙ get_or-homes_at plan.pins f.profile.block_log plan.places plan.slots k (sound.slots ∙ sym sound.places)
      (omega (arith, within, sound.places))

  pub home-count : length f.homes ≡ length p.decls
  home-count =
      ap length setting.homes
      ∙ length-homes_at plan.pins f.profile.block_log plan.places plan.slots (sound.slots ∙ sym sound.places)
      ∙ sound.places

  -- a declared name's number and what is declared there
  pub named-below : (x : List ℕ) (kind : Label × Shape) → context_of f.decls x ≡ Some kind
      → variable_number f.decls x < length p.decls
  named-below x kind known = omega (arith, number-below f.decls x kind known, ap length setting.decls)

  -- a name refers to the variable of its number
  pub named-kind : (x : List ℕ) (kind : Label × Shape) → context_of f.decls x ≡ Some kind
      → label_and_shape (get_or p.decls (variable_number f.decls x) no_decl) ≡ kind
  named-kind x kind known =
      ap (λ ds. label_and_shape (get_or ds (variable_number f.decls x) no_decl)) (sym setting.decls)
      ∙ kind-of_number f.decls x no_decl kind known

  pinned-at : (k : ℕ) → pin_at f k ≡ pin_of_slot plan k
  pinned-at k = ap (λ (l : List (Option Pin)). get_or l k None) setting.pins

  -- a scalar is resident
  scalar-home : (k : ℕ) → k < length p.decls → (decl k).length ≡ None → IsScalarHome (home k)
  scalar-home k within none = by (pin_of_slot plan (slot k)) refl (sound.served k within)
    where
      by : (pin : Option Pin) → pin_of_slot plan (slot k) ≡ pin
          → IsSoundByPin w plan (decl k) (place k) (slot k) pin → IsScalarHome (home k)
      by None is served =
          absurd
          (let e : ◌≡◌ {A = Option ℕ} None (Some served.array.0) = sym none ∙ served.array.1 in cc)
      by (Some q) is served = record {
        resident = ap is_some is;
        single =
            single_place plan.pins f.profile.block_log (place k) (slot k)
            (let one = (sound.place k within).words ∙ ap words_of_length none in
            omega (arith, one, pow_pos f.profile.block_log));
        length = (sound.place k within).words ∙ ap words_of_length none;
      }

  -- a resident variable in one block
  in_one_block : (k : ℕ) → (place k).word + (place k).length ≤ 2 ^ w → IsInOneBlock (block_words o) (home k)
  in_one_block k inside = record {
    single =
        single_place plan.pins f.profile.block_log (place k) (slot k)
        (omega (arith, inside, ap (λ n. 2 ^ n) logs));
    inside = omega (arith, inside, width);
  }

  -- and one in several
  spread_home : (k : ℕ) (label : Label) → (decl k).label ≡ label → {q : Pin} → pin_of_slot plan (slot k) ≡ Some q
      → q.bank ≡ (place k).bank → q.block ≡ (place k).block → IsSpread w plan (decl k) (place k)
      → IsSpreadHome f (block_words o) label (home k)
  spread_home k label labelled {q} is bank block spread =
      let log = f.profile.block_log in
      let size : 2 ^ log ≡ 2 ^ w = ap (λ n. 2 ^ n) logs in
      let further = further_blocks-is plan.pins log (place k) (slot k) q is
      (let few = spread.few in omega (arith, few, ap (λ n. 5 * n) size)) in
      record {
        secret = sym labelled ∙ spread.secret;
        word = spread.word;
        inside =
            let inside = further.inside in
            let wide = ap (λ n. (1 + length (further_slots (home k))) * n) (sym (width ∙ sym size)) in
            omega (arith, inside, wide);
        pinned = λ j within.
            let less : (1 + j) * 2 ^ w < (place k).length =
            let h = further.needs j within in
            let same = ap (λ n. (1 + j) * n) size in omega (arith, h, same) in
            let at = spread.pinned (1 + j) less in
            pinned-at (get_or (further_slots (home k)) j 0)
            ∙ further.found j within at.0 at.1;
      }

  -- a resident variable is in the block of its slot
  resident-home : (k : ℕ) (label : Label) → k < length p.decls → (decl k).label ≡ label
      → (home k).resident ≡ true → IsResidentHome f (block_words o) label (home k)
  resident-home k label within labelled resident = by (pin_of_slot plan (slot k)) refl (sound.served k within)
    where
      by : (pin : Option Pin) → pin_of_slot plan (slot k) ≡ pin
          → IsSoundByPin w plan (decl k) (place k) (slot k) pin → IsResidentHome f (block_words o) label (home k)
      by None is served = absurd (false≢true (sym (ap is_some is) ∙ resident))
      by (Some q) is served = record {
        bank = served.bank ∙ ap scalar_bank labelled;
        pinned =
            pinned-at (slot k)
            ∙ is
            ∙ (λ i. Some (record { bank = served.pinned_bank i; block = served.pinned_block i }));
        length = place-length p w plan k limits sound within;
        blocks =
            ⊎_elim (λ one. inl (in_one_block k one)) (λ spread. inr (spread_home k label labelled is served.pinned_bank served.pinned_block spread))
            served.inside;
      }

  -- any other array has whole blocks
  array-home : (k : ℕ) (label : Label) → k < length p.decls → (decl k).label ≡ label
      → (home k).resident ≡ false → IsArrayHome o f label (home k)
  array-home k label within labelled turn = by (pin_of_slot plan (slot k)) refl (sound.served k within)
    where
      by : (pin : Option Pin) → pin_of_slot plan (slot k) ≡ pin
          → IsSoundByPin w plan (decl k) (place k) (slot k) pin → IsArrayHome o f label (home k)
      by (Some q) is served = absurd (false≢true (sym turn ∙ ap is_some is))
      by None is served =
          let q = place k in
          let here = sound.place k within in
          let exists : q.bank < length o.banks = omega (arith, here.bank, bank-count) in
          let inside : q.block * 2 ^ w + q.length ≤ blocks_of o q.bank * 2 ^ w =
          subst (λ n. q.block * 2 ^ w + q.length ≤ n * 2 ^ w) (sym (bank-blocks q.bank exists))
          (omega (arith, here.inside, served.word)) in
          record {
            bank = exists;
            plain = plain-public label q.bank (subst (λ l. IsBankOf l q.bank) labelled here.label);
            slot = served.served;
            unpinned = pinned-at (slot k) ∙ is;
            single = unpinned_place plan.pins f.profile.block_log (place k) (slot k) is;
            apart = λ j r pinned same.
                ⊎_elim (λ before. inl before)
                (λ after. inr
                (subst (λ n. q.block * n + q.length ≤ r.block * n) (sym width) (omega (arith, after, served.word))))
                (served.apart j r (sym (pinned-at j) ∙ pinned) same);
            word = served.word;
            length = place-length p w plan k limits sound within;
            inside = subst (λ n. q.block * n + q.length ≤ blocks_of o q.bank * n) (sym width) inside;
          }

  -- two homes
  pub homes-apart : (u v : ℕ) → u < length p.decls → v < length p.decls → ¬ (u ≡ v)
      → HomesApart (block_words o) (home u) (home v)
  homes-apart u v one two differ =
      subst (λ n. HomesApart n (home u) (home v)) (sym width)
      (⊎_elim
      (λ less same. sound.apart u v less two same)
      (λ past same.
      ⊎_elim (λ first. inr first) (λ second. inl second)
      (sound.apart v u (omega (arith, past, differ)) one (sym same)))
      (cases_lt u v))

  -- the object has the setting's homes
  pub has-homes : HasHomes o f
  has-homes = record {
    profile = setting.profile;
    banks = ap length setting.blocks ∙ sym bank-count;
    blocks = λ b exists. bank-blocks b exists ∙ ap (λ l. get_or l b 0) (sym setting.blocks);
    count = home-count ∙ ap length (sym setting.decls);
    scalars = λ x label known.
        let k = variable_number f.decls x in
        let within = named-below x (label, Scalar) known in
        let kind = named-kind x (label, Scalar) known in
        subst IsScalarHome (sym (home-at k within))
        (scalar-home k within (scalar-length (decl k).length (ap (λ t. t.1) kind)));
    residents = λ x label shape known resident.
        let k = variable_number f.decls x in
        let within = named-below x (label, shape) known in
        let kind = named-kind x (label, shape) known in
        subst (IsResidentHome f (block_words o) label) (sym (home-at k within))
        (resident-home k label within (ap (λ t. t.0) kind)
        (ap (λ (h : Home). h.resident) (sym (home-at k within)) ∙ resident));
    arrays = λ x label known turn.
        let k = variable_number f.decls x in
        let within = named-below x (label, Array) known in
        let kind = named-kind x (label, Array) known in
        subst (IsArrayHome o f label) (sym (home-at k within))
        (array-home k label within (ap (λ t. t.0) kind)
        (ap (λ (h : Home). h.resident) (sym (home-at k within)) ∙ turn));
    pins = λ slot pin pinned.
        let is = sound.pins slot pin (sym (pinned-at slot) ∙ pinned) in
        let exists : pin.bank < length o.banks = omega (arith, is.bank, bank-count, sound.banks.0) in
        record {
          few = is.few;
          apart = is.apart;
          bank = is.bank;
          block = subst (λ n. pin.block < n) (sym (bank-blocks pin.bank exists)) is.block;
        };
    pins_apart = λ j k q r first second.
        sound.pins_apart j k q r (sym (pinned-at j) ∙ first) (sym (pinned-at k) ∙ second);
    held = setting.held;
    apart = λ u v one two differ.
        let below : u < length p.decls = omega (arith, one, home-count) in
        let under : v < length p.decls = omega (arith, two, home-count) in
        subst (λ g. HomesApart (block_words o) g (get_or f.homes v no_home)) (sym (home-at u below))
        (subst (HomesApart (block_words o) (home u)) (sym (home-at v under)) (homes-apart u v below under differ));
  }

-- the same of the setting of a frame
pub frame-setting : (f : Frame) (o : Parts) → IsFrame f → o.profile ≡ f.profile.now
    → IsSettingOf (source_of f.program.now) (plan_of f) o (setting_of f)
frame-setting f o frame profile = record {
  decls = refl;
  homes = refl;
  blocks = refl;
  pins = refl;
  held = nothing-sound (source_of f.program.now).decls;
  profile = profile;
}

-- an object with the variables of a frame's program at the frame's places has the homes of the frame's variables
pub frame-has_homes : (f : Frame) (o : Parts) → IsFrame f → o.profile ≡ f.profile.now
    → IsLaidOut (source_of f.program.now) f.profile.now.block_log f.places.now.of_var.items f.places.now.blocks.items o
    → HasHomes o (setting_of f)
frame-has_homes f o frame profile layout =
    has-homes (source_of f.program.now) f.profile.now.block_log (plan_of f) frame.within frame.plan o layout
    (setting_of f) (frame-setting f o frame profile)
