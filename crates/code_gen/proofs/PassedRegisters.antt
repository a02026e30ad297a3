-- The check passes the code that gives registers what they hold for the whole run, and the code that stores their scalars.
use Rattle.std.proofs.Common.{◌≡◌, ◌≢◌, ℕ, zero, suc, ◌+◌, ◌-◌, ◌<◌, ◌≤◌, Bool, true, false, not, ◌&&◌, ◌||◌, ℤ, pos, List, [], ◌∷◌, length, get_or, Option, Some, None, refl, sym, ap, ◌∙◌, subst, arith, length-set}
use Rattle.std.specs.List.{slice_get}
use Rattle.lt_isa.specs.declared.instructions.Instr.{Instr}
use Rattle.lt_isa.specs.declared.instructions.Instr.TheVariants.{Li, Alu, Ldw, Stw}
use Rattle.lt_isa.specs.Prelude.{Parts, is_ram}
use Rattle.src_tree.specs.Prelude.{DeclaredOnce, secret_label}
use Rattle.trace_patterns.specs.Prelude.{Known, is_secret, bank_known, set_secret}
use Rattle.stretches.proofs.Passed.{GoesOn, NoMore, One, goes-then, rules-li, rules-alu, rules-ldw, rules-stw, secret-same, secret-other}
use Rattle.scratch_alloc.specs.declared.plans.Pin.{Pin}
use Rattle.block_cache_gen.specs.Prelude.{Held, Home, Setting, HasHomes, held_label, home_of, label_by, pin_at, pin_of, HasSecretSlot, home_numbered, begin_code, end_code, each_held, Carries}
use Rattle.gr_word.specs.declared.operations.Op.TheVariants.{Sub}
use Rattle.gr_word.specs.declared.variables.Label.{Label}
use Rattle.gr_word.specs.declared.variables.Shape.TheVariants.{Scalar}
use Rattle.bank_alloc.specs.Prelude.{scalar_bank}
use Rattle.held_registers.specs.declared.registers.Held.TheVariants.{SecretZero, Number}
use Rattle.held_registers.specs.Prelude.{held_at, label_held}
use Rattle.block_cache_gen.proofs.HeldBeginning.{held-at}
use Rattle.block_cache_gen.proofs.HeldScalars.{held-inside}
use Rattle.block_cache_gen.proofs.KeptRegisters.{same-itself, same-set, carries-same}
use Rattle.code_gen.proofs.ScalarsNumbered.{ScalarNumbered, scalar-numbered}
use Rattle.gr_word.specs.declared.variables.Label.TheVariants as label
use Rattle.held_registers.specs.declared.registers.Held.TheVariants as thing

-- each pinned slot is known to have the bank of its block
abbrev pub KnowsPins : Setting → Known → Type 0
KnowsPins f k =
    (slot : ℕ) (q : Pin) → pin_at f slot ≡ Some q → slot < 8 → slot ≢ 6 → bank_known k slot ≡ Some q.bank

-- the registers from r on hold what the setting lists there
abbrev pub AreHeldFrom : Setting → ℕ → List Held → Type 0
AreHeldFrom f r held = (i : ℕ) (h : Held) → slice_get held i ≡ Some h → held_at f.held (r + i) ≡ Some h

-- the registers from 19 on hold all that the setting lists
pub all_held : (f : Setting) → AreHeldFrom f 19 f.held
all_held f = held-at f.held

-- after a register got what it holds for the whole run
record Got (o : Parts) (f : Setting) (p r : ℕ) (h : Held) (k : Known) : Type 0 where
  after : Known
  goes : GoesOn o p (begin_code f r h) k after
  registers : length after.secret ≡ 32
  banks : after.banks ≡ k.banks
  own : (l : Label) → label_held f.decls h ≡ Some l → is_secret after r ≡ secret_label l
  others : (s : ℕ) → 19 ≤ s → (s ≡ r → ⊥) → is_secret after s ≡ is_secret k s

one_label : (a b : Label) → Some a ≡ Some b → a ≡ b
one_label a b e = let f : ◌≡◌ {A = Option Label} (Some a) (Some b) = e in cc

ram_scalar : (l : Label) → (not (is_ram (scalar_bank l)) || false) ≡ secret_label l
ram_scalar label.Public = refl
ram_scalar label.Secret = refl

-- nothing secret is stored into plain memory
stored_scalar : (l : Label) (bank : ℕ) (word number : Bool) → bank ≡ scalar_bank l → word ≡ secret_label l
    → number ≡ false → (is_ram bank && (word || number)) ≡ false
stored_scalar label.Public bank word number is labelled none =
    (λ i. is_ram (is i) && (labelled i || none i))
stored_scalar label.Secret bank word number is labelled none = ap (λ (b : ℕ). is_ram b && (word || number)) is

module _ (o : Parts) (f : Setting) (homes : HasHomes o f) where
  -- the slot of a scalar, by its number
  scalar-bound : (n : ℕ) (x : ScalarNumbered f n) (k : Known) → KnowsPins f k
      → (bank_known k (home_numbered f n).slot ≡ Some (home_numbered f n).bank)
      × ((home_numbered f n).bank ≡ scalar_bank x.label)
  scalar-bound n x k knows =
      let h = home_of f x.name in
      let scalar = homes.scalars x.name x.label x.declared in
      let home = homes.residents x.name x.label Scalar x.declared scalar.resident in
      let pin = homes.pins h.slot (pin_of h) home.pinned in
      let bound : bank_known k h.slot ≡ Some h.bank = knows h.slot (pin_of h) home.pinned pin.few pin.apart in (
        subst (λ (g : Home). bank_known k g.slot ≡ Some g.bank) x.home bound,
        subst (λ (g : Home). g.bank ≡ scalar_bank x.label) x.home home.bank,
      )

  got_secret : (p r : ℕ) (k : Known) → 19 ≤ r → r < 32 → length k.secret ≡ 32 → bank_known k 1 ≡ Some 1
      → Got o f p r SecretZero k
  got_secret p r k high inside sized bound =
      let one = set_secret k r true in
      let two = set_secret one r (is_secret one r || is_secret one r) in
      let size : length one.secret ≡ 32 = length-set k.secret r true ∙ sized in
      record {
        after = two;
        goes
            = One p (Ldw r 1 0) (Alu Sub r r r ∷ []) k one two (rules-ldw o p k r 1 0 1 bound)
            (One (p + 1) (Alu Sub r r r) [] one two two (rules-alu o (p + 1) one Sub r r r) (NoMore (p + 1 + 1) two));
        registers = length-set one.secret r (is_secret one r || is_secret one r) ∙ size;
        banks = refl;
        own = λ l is.
            secret-same one r (is_secret one r || is_secret one r) (omega arith)
            ∙ ap (λ (b : Bool). b || is_secret one r) (secret-same k r true (omega arith))
            ∙ ap secret_label (one_label label.Secret l is);
        others = λ s over apart.
            secret-other one r s (is_secret one r || is_secret one r) apart ∙ secret-other k r s true apart;
      }

  got_number : (p r : ℕ) (z : ℤ) (k : Known) → r < 32 → length k.secret ≡ 32 → Got o f p r (Number z) k
  got_number p r z k inside sized =
      let one = set_secret k r false in
      record {
        after = one;
        goes = One p (Li r z) [] k one one (rules-li o p k r z) (NoMore (p + 1) one);
        registers = length-set k.secret r false ∙ sized;
        banks = refl;
        own = λ l is. secret-same k r false (omega arith) ∙ ap secret_label (one_label label.Public l is);
        others = λ s over apart. secret-other k r s false apart;
      }

  got_scalar : (p r n : ℕ) (k : Known) → ScalarNumbered f n → 19 ≤ r → r < 32 → length k.secret ≡ 32 → KnowsPins f k
      → Got o f p r (thing.Scalar n) k
  got_scalar p r n k x high inside sized knows =
      let h = home_numbered f n in
      let number = set_secret k 0 false in
      let joined = not (is_ram h.bank) || is_secret number 0 in
      let last = set_secret number r joined in
      let at = scalar-bound n x k knows in
      let size : length number.secret ≡ 32 = length-set k.secret 0 false ∙ sized in
      record {
        after = last;
        goes
            = One p (Li 0 (pos h.word)) (Ldw r h.slot 0 ∷ []) k number last (rules-li o p k 0 (pos h.word))
            (One (p + 1) (Ldw r h.slot 0) [] number last last (rules-ldw o (p + 1) number r h.slot 0 h.bank at.0)
            (NoMore (p + 1 + 1) last));
        registers = length-set number.secret r joined ∙ size;
        banks = refl;
        own = λ l is.
            secret-same number r joined (omega arith)
            ∙ ap (λ (b : Bool). not (is_ram h.bank) || b) (secret-same k 0 false (omega arith))
            ∙ ap (λ (b : ℕ). not (is_ram b) || false) at.1
            ∙ ram_scalar x.label
            ∙ ap secret_label (one_label x.label l (sym x.own ∙ is));
        others = λ s over apart.
            secret-other number r s joined apart
            ∙ secret-other k 0 s false (λ e. absurd (omega (arith, over, e)));
      }

  held-rest : (r : ℕ) (h : Held) (held : List Held) → AreHeldFrom f r (h ∷ held) → AreHeldFrom f (r + 1) held
  held-rest r h held all i g at =
      let same : r + suc i ≡ r + 1 + i = omega arith in
      subst (λ (q : ℕ). held_at f.held q ≡ Some g) same (all (suc i) g at)

  held-first : (r : ℕ) (h : Held) (held : List Held) → AreHeldFrom f r (h ∷ held) → held_at f.held r ≡ Some h
  held-first r h held all =
      let same : r + 0 ≡ r = omega arith in subst (λ (q : ℕ). held_at f.held q ≡ Some h) same (all 0 h refl)

  module _ (once : DeclaredOnce f.decls) (slot : HasSecretSlot f) where
    got : (p r : ℕ) (h : Held) (k : Known) → held_at f.held r ≡ Some h → 19 ≤ r → r < 32 → length k.secret ≡ 32
        → KnowsPins f k → Got o f p r h k
    got p r SecretZero k at high inside sized knows =
        let some = held-inside homes.held r SecretZero at in
        let one = slot some.1 in
        let bound = knows 1 one.0 one.1 (omega arith) (λ e. omega arith) in
        got_secret p r k high inside sized (bound ∙ ap Some one.2)
    got p r (Number z) k at high inside sized knows = got_number p r z k inside sized
    got p r (thing.Scalar n) k at high inside sized knows =
        got_scalar p r n k (scalar-numbered f once homes.held r n at) high inside sized knows

    -- after all of them from one on
    pub record GotFrom (p r : ℕ) (held : List Held) (k : Known) : Type 0 where
      pub after : Known
      pub goes : GoesOn o p (each_held (begin_code f) r held) k after
      pub registers : length after.secret ≡ 32
      pub banks : after.banks ≡ k.banks
      pub own : (i : ℕ) (h : Held) (l : Label) → slice_get held i ≡ Some h → label_held f.decls h ≡ Some l
          → is_secret after (r + i) ≡ secret_label l
      pub below : (s : ℕ) → 19 ≤ s → s < r → is_secret after s ≡ is_secret k s

    pub got_from : (p r : ℕ) (held : List Held) (k : Known) → AreHeldFrom f r held → 19 ≤ r → r + length held ≤ 32
        → length k.secret ≡ 32 → KnowsPins f k → GotFrom p r held k
    got_from p r [] k all high few sized knows = record {
      after = k;
      goes = NoMore p k;
      registers = sized;
      banks = refl;
      own = λ i h l e. absurd (let g : ◌≡◌ {A = Option Held} None (Some h) = e in cc);
      below = λ s over low. refl;
    }
    got_from p r (h ∷ held) k all high few sized knows =
        let a = got p r h k (held-first r h held all) high (omega (arith, few)) sized knows in
        let code = begin_code f r h in
        let still : KnowsPins f a.after =
        λ slot q is low apart.
        ap (λ (banks : List (Option ℕ)). get_or banks slot None) a.banks ∙ knows slot q is low apart in
        let rest = got_from (p + length code) (r + 1) held a.after (held-rest r h held all) (omega (arith, high))
        (omega (arith, few)) a.registers still in
        record {
          after = rest.after;
          goes = goes-then o p code (each_held (begin_code f) (r + 1) held) k a.after rest.after a.goes rest.goes;
          registers = rest.registers;
          banks = rest.banks ∙ a.banks;
          own = by a.after rest.after a.own rest.own rest.below;
          below = λ s over low. rest.below s over (omega arith) ∙ a.others s over (λ e. absurd (omega (arith, e, low)));
        }
      where
        by : (k last : Known) → ((l : Label) → label_held f.decls h ≡ Some l → is_secret k r ≡ secret_label l)
            → ((i : ℕ) (g : Held) (l : Label) → slice_get held i ≡ Some g → label_held f.decls g ≡ Some l
            → is_secret last (r + 1 + i) ≡ secret_label l)
            → ((s : ℕ) → 19 ≤ s → s < r + 1 → is_secret last s ≡ is_secret k s)
            → (i : ℕ) (g : Held) (l : Label) → slice_get (h ∷ held) i ≡ Some g → label_held f.decls g ≡ Some l
            → is_secret last (r + i) ≡ secret_label l
        by k last own rest below zero g l at is =
            let same : r + 0 ≡ r = omega arith in
            let one : h ≡ g = (let e : ◌≡◌ {A = Option Held} (Some h) (Some g) = at in cc) in
            ap (is_secret last) same ∙ below r high (omega arith)
            ∙ own l (ap (label_held f.decls) one ∙ is)
        by k last own rest below (suc i) g l at is =
            let same : r + suc i ≡ r + 1 + i = omega arith in ap (is_secret last) same ∙ rest i g l at is

    -- the scalars that registers hold are stored: the setting is carried on
    pub record Stored (p : ℕ) (code : List Instr) (k : Known) : Type 0 where
      pub after : Known
      pub goes : GoesOn o p code k after
      pub carries : Carries f after

    pub stored_scalars : (p r : ℕ) (held : List Held) (k : Known) → AreHeldFrom f r held → Carries f k
        → Stored p (each_held (end_code f) r held) k
    stored_scalars p r [] k all carries = record { after = k; goes = NoMore p k; carries = carries }
    stored_scalars p r (SecretZero ∷ held) k all carries =
        stored_scalars p (r + 1) held k (held-rest r SecretZero held all) carries
    stored_scalars p r (Number z ∷ held) k all carries =
        stored_scalars p (r + 1) held k (held-rest r (Number z) held all) carries
    stored_scalars p r (thing.Scalar n ∷ held) k all carries =
        let h = home_numbered f n in
        let at = held-first r (thing.Scalar n) held all in
        let x = scalar-numbered f once homes.held r n at in
        let number = set_secret k 0 false in
        let sized = carries.registers in
        let carried : Carries f number = carries-same f 0 k number carries
        (same-set f 0 k k 0 false (omega arith) (omega arith) (same-itself f 0 k)) in
        let bound = scalar-bound n x number (λ slot q is few apart. carried.pinned slot q is few apart) in
        let own : held_label f r ≡ Some x.label = ap (label_by f.decls) at ∙ x.own in
        let rest = stored_scalars (p + 1 + 1) (r + 1) held number (held-rest r (thing.Scalar n) held all) carried in
        record {
          after = rest.after;
          goes
              = One p (Li 0 (pos h.word)) _ k number rest.after (rules-li o p k 0 (pos h.word))
              (One (p + 1) (Stw r h.slot 0) _ number number rest.after
              (rules-stw o (p + 1) number r h.slot 0 h.bank bound.0
              (stored_scalar x.label h.bank (is_secret number r) (is_secret number 0) bound.1
              (carried.held r x.label own) (secret-same k 0 false (omega arith)))) rest.goes);
          carries = rest.carries;
        }
