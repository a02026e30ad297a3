-- What the check decides about an instruction if fewer registers may be secret.
use Rattle.std.proofs.Common.{◌≡◌, ℕ, Bool, true, false, not, ◌&&◌, ◌||◌, ℤ, slice_get, ◌⊎◌, inl, inr, Option, Some, None, refl, sym, ap, ◌∙◌}
use Rattle.std.proofs.lemmas.Bool.{and_parts, and_from, false≢true}
use Rattle.lt_isa.specs.declared.instructions.Instr.{Instr}
use Rattle.lt_isa.specs.declared.instructions.Instr.TheVariants.{Nop, Halt, Li, Alu, Ldb, Stb, Idb, Ldw, Stw, Jmp, Br}
use Rattle.lt_isa.specs.Prelude.{Parts, is_ram}
use Rattle.trace_patterns.specs.declared.reasons.Reason.{Reason}
use Rattle.trace_patterns.specs.declared.reasons.Reason.TheVariants.{SecretAddress, SecretToRam, UnboundSlot}
use Rattle.trace_patterns.specs.Prelude.{Known, is_secret, bank_known, Ruling, Refused, Falls, Leaves, Opens, shows_block, refused_if, at_bank, ruling_of, ruling_if, ruling_at, only_goes_on, known_behind, slot_shows, slot_is_ram}
use Rattle.note_infer.proofs.Keeps.{Keeps}
use Rattle.note_infer.proofs.Lower.{IsLower}

-- rulings differ
pub refused_not_falls : {A : Type 0} (reason : Reason) (k : Known) → ◌≡◌ {A = Ruling} (Refused reason) (Falls k) → A
refused_not_falls reason k e = absurd cc

pub opens_not_falls : {A : Type 0} (offset : ℤ) (k : Known) → ◌≡◌ {A = Ruling} (Opens offset) (Falls k) → A
opens_not_falls offset k e = absurd cc

pub refused_not_opens : {A : Type 0} (reason : Reason) (offset : ℤ) → ◌≡◌ {A = Ruling} (Refused reason)
    (Opens offset) → A
refused_not_opens reason offset e = absurd cc

pub leaves_not_opens : {A : Type 0} (offset : ℤ) → ◌≡◌ {A = Ruling} Leaves (Opens offset) → A
leaves_not_opens offset e = absurd cc

pub leaves_not_falls : {A : Type 0} (k : Known) → ◌≡◌ {A = Ruling} Leaves (Falls k) → A
leaves_not_falls k e = absurd cc

pub falls_not_opens : {A : Type 0} (offset : ℤ) (k : Known) → ◌≡◌ {A = Ruling} (Falls k) (Opens offset) → A
falls_not_opens offset k e = absurd cc

pub falls_once : (j k : Known) → ◌≡◌ {A = Ruling} (Falls j) (Falls k) → j ≡ k
falls_once j k e = cc

pub ruling-some : (a : Parts) (p : ℕ) (k : Known) (i : Instr) → slice_get a.code p ≡ Some i
    → ruling_at a p k ≡ ruling_of a p k i
unfolding ruling_at
ruling-some a p k i at = ap (ruling_if a p k) at

-- an instruction that only continues is refused, or falls through with what is carried
abbrev pub IsPlainRuling : Known → Ruling → Type 0
IsPlainRuling next r = ((reason : Reason) × (r ≡ Refused reason)) ⊎ (r ≡ Falls next)

refused_if_plain : (c : Bool) (reason : Reason) (next : Known) → IsPlainRuling next (refused_if c reason (Falls next))
refused_if_plain true reason next = inl (reason, refl)
refused_if_plain false reason next = inr refl

at_bank_plain : (b : Option ℕ) (go : ℕ → Ruling) (next : Known)
    → ((bank : ℕ) → b ≡ Some bank → IsPlainRuling next (go bank)) → IsPlainRuling next (at_bank b go)
at_bank_plain None go next h = inl (UnboundSlot, refl)
at_bank_plain (Some bank) go next h = h bank refl

pub plain-ruled : (a : Parts) (p : ℕ) (k : Known) (i : Instr) → only_goes_on i ≡ true
    → IsPlainRuling (known_behind k i) (ruling_of a p k i)
unfolding ruling_of known_behind
plain-ruled a p k Halt goes = absurd (false≢true goes)
plain-ruled a p k (Ldb slot bank r) goes = refused_if_plain (shows_block bank && is_secret k r) SecretAddress _
plain-ruled a p k (Stb slot) goes = at_bank_plain (bank_known k slot) (λ bank. Falls k) k (λ bank is. inr refl)
plain-ruled a p k (Idb rd slot) goes =
    at_bank_plain (bank_known k slot) _ _ (λ bank is. inr (ap (λ (b : Option ℕ).
    Falls (record k { secret = Rattle.std.specs.Prelude.slice_set k.secret rd (not (slot_shows b)) })) (sym is)))
plain-ruled a p k (Ldw rd slot ro) goes =
    at_bank_plain (bank_known k slot) _ _ (λ bank is. inr (ap (λ (b : Option ℕ).
    Falls (record k {
      secret = Rattle.std.specs.Prelude.slice_set k.secret rd (not (slot_is_ram b) || is_secret k ro);
    })) (sym is)))
plain-ruled a p k (Stw rs slot ro) goes =
    at_bank_plain (bank_known k slot) _ k (λ bank is.
    refused_if_plain (is_ram bank && (is_secret k rs || is_secret k ro)) SecretToRam k)
plain-ruled a p k (Jmp offset) goes = absurd (false≢true goes)
plain-ruled a p k (Br cmp ra rb offset) goes = absurd (false≢true goes)
plain-ruled a p k other goes = inr refl

-- what isn't refused isn't refused where less is secret
label_up : (x y : Bool) → Keeps true x y → x ≡ true → y ≡ true
label_up x y (inl e) is = e
label_up x y (inr e) is = sym e ∙ is

and_up : (s x y : Bool) → (x ≡ true → y ≡ true) → (s && x) ≡ true → (s && y) ≡ true
and_up s x y h e = let parts = and_parts s x e in and_from s y parts.0 (h parts.1)

pub or_up : (x y x' y' : Bool) → Keeps true x x' → Keeps true y y' → (x || y) ≡ true → (x' || y') ≡ true
or_up true y x' y' h g e = ap (λ (b : Bool). b || y') (label_up true x' h refl)
or_up false y x' y' h g e = right x' (label_up y y' g e)
  where
    right : (b : Bool) → y' ≡ true → (b || y') ≡ true
    right true is = refl
    right false is = is

not_refused : (c d : Bool) (reason : Reason) (x y n : Known) → (c ≡ true → d ≡ true)
    → refused_if d reason (Falls x) ≡ Falls n → refused_if c reason (Falls y) ≡ Falls y
not_refused false d reason x y n h e = refl
not_refused true true reason x y n h e = refused_not_falls reason n e
not_refused true false reason x y n h e = absurd (false≢true (h refl))

pub record IsAtBank (b : Option ℕ) (go : ℕ → Ruling) (n : Known) : Type 0 where
  pub bank : ℕ
  pub is : b ≡ Some bank
  pub goes : go bank ≡ Falls n

at_bank_falls : (b : Option ℕ) (go : ℕ → Ruling) (n : Known) → at_bank b go ≡ Falls n → IsAtBank b go n
at_bank_falls None go n e = refused_not_falls UnboundSlot n e
at_bank_falls (Some bank) go n e = record { bank = bank; is = refl; goes = e }

bank_down : (x y : Option ℕ) (b : ℕ) → Keeps None x y → y ≡ Some b → x ≡ Some b
bank_down x y b (inl e) is = absurd (let f : ◌≡◌ {A = Option ℕ} None (Some b) = sym e ∙ is in cc)
bank_down x y b (inr e) is = e ∙ is

pub plain-again : (a b : Parts) (p : ℕ) (low high n : Known) (i : Instr) → only_goes_on i ≡ true → IsLower low high
    → ruling_of a p high i ≡ Falls n → ruling_of b p low i ≡ Falls (known_behind low i)
unfolding ruling_of
plain-again a b p low high n i goes h e = by (plain-ruled b p low i goes)
  where
    refuses : (i : Instr) (reason : Reason) → only_goes_on i ≡ true → ruling_of a p high i ≡ Falls n
        → ruling_of b p low i ≡ Refused reason → ⊥
    refuses Nop reason goes e f = refused_not_falls reason low (sym f)
    refuses Halt reason goes e f = leaves_not_falls n e
    refuses (Li rd value) reason goes e f = refused_not_falls reason _ (sym f)
    refuses (Alu op rd ra rb) reason goes e f = refused_not_falls reason _ (sym f)
    refuses (Ldb slot bank r) reason goes e f =
        refused_not_falls reason _ (sym f
        ∙ not_refused (shows_block bank && is_secret low r) (shows_block bank && is_secret high r) SecretAddress _ _ n
        (and_up (shows_block bank) _ _ (label_up _ _ (h.labels r))) e)
    refuses (Stb slot) reason goes e f =
        let at = at_bank_falls (bank_known high slot) _ n e in
        refused_not_falls reason low (sym f
        ∙ ap (λ (x : Option ℕ). at_bank x (λ bank. Falls low)) (bank_down _ _ at.bank (h.banks slot) at.is))
    refuses (Idb rd slot) reason goes e f =
        let at = at_bank_falls (bank_known high slot) _ n e in
        refused_not_falls reason _ (sym f
        ∙ ap (λ (x : Option ℕ). at_bank x (λ bank.
        Falls (record low { secret = Rattle.std.specs.Prelude.slice_set low.secret rd (not (shows_block bank)) })))
        (bank_down _ _ at.bank (h.banks slot) at.is))
    refuses (Ldw rd slot ro) reason goes e f =
        let at = at_bank_falls (bank_known high slot) _ n e in
        refused_not_falls reason _ (sym f
        ∙ ap (λ (x : Option ℕ). at_bank x (λ bank.
        Falls (record low {
          secret = Rattle.std.specs.Prelude.slice_set low.secret rd (not (is_ram bank) || is_secret low ro);
        }))) (bank_down _ _ at.bank (h.banks slot) at.is))
    refuses (Stw rs slot ro) reason goes e f =
        let at = at_bank_falls (bank_known high slot) _ n e in
        refused_not_falls reason low (sym f
        ∙ ap (λ (x : Option ℕ). at_bank x (λ bank.
        refused_if (is_ram bank && (is_secret low rs || is_secret low ro)) SecretToRam (Falls low)))
        (bank_down _ _ at.bank (h.banks slot) at.is)
        ∙ not_refused (is_ram at.bank && (is_secret low rs || is_secret low ro))
        (is_ram at.bank && (is_secret high rs || is_secret high ro)) SecretToRam high low n
        (and_up (is_ram at.bank) _ _ (or_up _ _ _ _ (h.labels rs) (h.labels ro))) at.goes)
    refuses (Jmp offset) reason goes e f = false≢true goes
    refuses (Br cmp ra rb offset) reason goes e f = false≢true goes

    by : IsPlainRuling (known_behind low i) (ruling_of b p low i) → ruling_of b p low i ≡ Falls (known_behind low i)
    by (inr is) = is
    by (inl is) = absurd (refuses i is.0 goes e is.1)
