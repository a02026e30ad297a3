-- Each home is that of a name that is declared, where names are declared once.
use Rattle.std.proofs.Common.{◌≡◌, ℕ, zero, suc, ◌+◌, ◌<◌, ◌==◌, Bool, true, false, ◌||◌, List, [], ◌∷◌, ◌++◌, length, Option, Some, None, refl, sym, ap, ◌∙◌, subst, arith}
use Rattle.std.specs.Prelude.{if◌then◌else◌, bytes_eq, slice_index_or}
use Rattle.std.specs.List.{list_any}
use Rattle.std.proofs.lemmas.Bool.{eqb-true, eq-eqb, true≢false, false≢true}
use Rattle.gr_base.specs.Prelude.{EachAfter, Within}
use Rattle.gr_base.proofs.ListTests.{bytes_eq-own}
use Rattle.gr_word.specs.declared.variables.Label.{Label}
use Rattle.gr_word.specs.declared.variables.Shape.{Shape}
use Rattle.gr_word.specs.declared.variables.Shape.TheVariants.{Scalar, Array}
use Rattle.lt_isa.specs.Prelude.{Parts}
use Rattle.src_tree.specs.declared.trees.Decl.{Decl}
use Rattle.src_tree.specs.Prelude.{context_of, label_and_shape, variable_number, DeclaredOnce}
use Rattle.src_tree.proofs.VariableNumbers.{number-below}
use Rattle.trace_patterns.specs.Prelude.{Known, bank_known}
use Rattle.block_cache_gen.specs.Prelude.{Home, Setting, HasHomes, home_of, no_home, pin_at, pin_of, is_used, Carries}
use Rattle.block_cache_gen.proofs.HomeFacts.{bank_served, served_bank, pinned-apart}

-- the name of a declaration by its number
record NamedBy (before decls : List Decl) (n : ℕ) : Type 0 where
  name : List ℕ
  kind : Label × Shape
  declared : context_of decls name ≡ Some kind
  number : variable_number decls name ≡ n
  new : context_of before name ≡ None

none_before : (before : List Decl) (d : Decl) (x : List ℕ) → context_of (before ++ d ∷ []) x ≡ None
    → (context_of before x ≡ None) × (bytes_eq x d.name ≡ false)
none_before [] d x e = (refl, by (bytes_eq x d.name) e)
  where
    by : (same : Bool) → (if same then Some (label_and_shape d) else None) ≡ None → same ≡ false
    by true f = absurd (let g : ◌≡◌ {A = Option (Label × Shape)} (Some (label_and_shape d)) None = f in cc)
    by false f = refl
none_before (b ∷ before) d x e = by (bytes_eq x b.name) e (none_before before d x)
  where
    by : (same : Bool) → (if same then Some (label_and_shape b) else context_of (before ++ d ∷ []) x) ≡ None
        → (context_of (before ++ d ∷ []) x ≡ None → (context_of before x ≡ None) × (bytes_eq x d.name ≡ false))
        → ((if same then Some (label_and_shape b) else context_of before x) ≡ None) × (bytes_eq x d.name ≡ false)
    by true f behind = absurd (let g : ◌≡◌ {A = Option (Label × Shape)} (Some (label_and_shape b)) None = f in cc)
    by false f behind = behind f

named_by : (before decls : List Decl) (n : ℕ) → EachAfter (λ b d. context_of b d.name ≡ None) before decls
    → n < length decls → NamedBy before decls n
named_by before [] n once lt = absurd (omega arith)
named_by before (d ∷ ds) zero once lt = record {
  name = d.name;
  kind = label_and_shape d;
  declared = ap (λ (b : Bool). if b then Some (label_and_shape d) else context_of ds d.name) (bytes_eq-own d.name);
  number = ap (λ (b : Bool). if b then 0 else 1 + variable_number ds d.name) (bytes_eq-own d.name);
  new = once.0;
}
named_by before (d ∷ ds) (suc n) once lt =
    let h = named_by (before ++ d ∷ []) ds n once.1 (omega arith) in
    let apart = none_before before d h.name h.new in
    let next : 1 + variable_number ds h.name ≡ suc n = omega (arith, h.number) in
    record {
      name = h.name;
      kind = h.kind;
      declared
          = ap (λ (b : Bool). if b then Some (label_and_shape d) else context_of ds h.name) apart.1 ∙ h.declared;
      number
          = ap (λ (b : Bool). if b then 0 else 1 + variable_number ds h.name) apart.1 ∙ next;
      new = apart.0;
    }

-- one of a list is found where a test holds of some
record FoundHome (homes : List Home) (slot : ℕ) : Type 0 where
  at : ℕ
  inside : at < length homes
  served : (slice_index_or homes at no_home).slot ≡ slot

found_home : (homes : List Home) (slot : ℕ) → list_any (λ h. h.slot == slot) homes ≡ true → FoundHome homes slot
found_home [] slot e = absurd (false≢true e)
found_home (h ∷ homes) slot e = by (h.slot == slot) refl e (found_home homes slot)
  where
    by : (b : Bool) → (h.slot == slot) ≡ b → (b || list_any (λ h. h.slot == slot) homes) ≡ true
        → (list_any (λ h. h.slot == slot) homes ≡ true → FoundHome homes slot) → FoundHome (h ∷ homes) slot
    by true is any behind = record { at = 0; inside = omega arith; served = eqb-true h.slot slot is }
    by false is any behind =
        let rest = behind any in
        let lt = rest.inside in
        record { at = suc rest.at; inside = omega arith; served = rest.served }

home_found : (homes : List Home) (n slot : ℕ) → n < length homes → (slice_index_or homes n no_home).slot ≡ slot
    → list_any (λ h. h.slot == slot) homes ≡ true
home_found [] n slot lt e = absurd (omega arith)
home_found (h ∷ homes) zero slot lt e =
    ap (λ (b : Bool). b || list_any (λ h. h.slot == slot) homes) (eq-eqb h.slot slot e)
home_found (h ∷ homes) (suc n) slot lt e =
    ap (λ (b : Bool). (h.slot == slot) || b) (home_found homes n slot (omega arith) e) ∙ or_true (h.slot == slot)
  where
    or_true : (b : Bool) → (b || true) ≡ true
    or_true true = refl
    or_true false = refl

module _ (o : Parts) (f : Setting) (homes : HasHomes o f) where
  -- the slot of a declared array is used
  pub array-used : (x : List ℕ) (label : Label) → context_of f.decls x ≡ Some (label, Array)
      → is_used f (home_of f x).slot ≡ true
  array-used x label declared =
      let lt = number-below f.decls x (label, Array) declared in
      let count = homes.count in
      home_found f.homes (variable_number f.decls x) (home_of f x).slot (omega arith) refl

  -- the slot of an array serves its bank
  pub array-served : (x : List ℕ) (label : Label) → context_of f.decls x ≡ Some (label, Array)
      → (home_of f x).resident ≡ false → Within 2 5 (home_of f x).slot
      → bank_served (home_of f x).slot (home_of f x).bank
  array-served x label declared turn range =
      served_bank (homes.arrays x label declared turn).slot range

  -- a slot from 2 to 5 that is used has the bank that it serves
  used_by : (x : List ℕ) (label : Label) (shape : Shape) (slot : ℕ) (k : Known)
      → context_of f.decls x ≡ Some (label, shape) → (home_of f x).slot ≡ slot → Within 2 5 slot → pin_at f slot ≡ None
      → Carries f k → (resident : Bool) → (home_of f x).resident ≡ resident
      → (bank : ℕ) × (bank_known k slot ≡ Some bank) × bank_served slot bank
  used_by x label shape slot k declared is range free carries true resident =
      let h = homes.residents x label shape declared resident in
      absurd (pinned-apart f (home_of f x).slot slot (pin_of (home_of f x)) h.pinned free is)
  used_by x label Scalar slot k declared is range free carries false turn =
      let h = homes.scalars x label declared in absurd (true≢false (sym h.resident ∙ turn))
  used_by x label Array slot k declared is range free carries false turn =
      let range' : Within 2 5 (home_of f x).slot = subst (Within 2 5) (sym is) range in (
        (home_of f x).bank,
        subst (λ (s : ℕ). bank_known k s ≡ Some (home_of f x).bank) is (carries.arrays x label declared turn range'),
        subst (λ (s : ℕ). bank_served s (home_of f x).bank) is (array-served x label declared turn range'),
      )

  -- a slot that is used is known to hold the bank that it serves
  pub used-bank : DeclaredOnce f.decls → (slot : ℕ) (k : Known) → is_used f slot ≡ true → Within 2 5 slot
      → pin_at f slot ≡ None → Carries f k
      → (bank : ℕ) × (bank_known k slot ≡ Some bank) × bank_served slot bank
  used-bank once slot k used range free carries =
      let found = found_home f.homes slot used in
      let inside = found.inside in
      let count = homes.count in
      let name = named_by [] f.decls found.at once (omega arith) in
      used_by name.name name.kind.0 name.kind.1 slot k name.declared
      (ap (λ (n : ℕ). (slice_index_or f.homes n no_home).slot) name.number ∙ found.served) range free carries
      (home_of f name.name).resident refl
