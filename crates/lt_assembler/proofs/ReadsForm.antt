-- Steps in a chain that read words: what their results say about the words.
use Rattle.std.proofs.Common.{◌≡◌, Bool, true, false, Option, Some, None, Result, Ok, Err, refl}
use Rattle.std.specs.Prelude.{◌||◌}
use Rattle.gr_base.specs.Prelude.{◌>>=◌}
use Rattle.gr_base.proofs.Results.{IfRead, read_ok, read_err}
use Rattle.lt_assembler.specs.declared.faults.Fault.{Fault}
use Rattle.lt_assembler.specs.declared.faults.Fault.TheVariants.{WrongForm, Number, RepeatedName, Limit, Memory}
use Rattle.lt_assembler.specs.Prelude.{form, number_or, unless_not, Draft}

-- tests of which one is true, and a test that is false
pub or_left : (a b : Bool) → a ≡ true → (a || b) ≡ true
or_left true b e = refl
or_left false b e = absurd cc

pub or_right : (a b : Bool) → b ≡ true → (a || b) ≡ true
or_right true b e = refl
or_right false b e = e

pub false_by : (b : Bool) → (b ≡ true → ⊥) → b ≡ false
false_by true never = absurd (never refl)
false_by false never = refl

-- Words with a value, or with an invalid number, have the form F, and a value has the property P.
abbrev pub Known : {X : Type 0} → Result X Fault → Type 0 → (X → Type 0) → Type 0
Known (Ok x) F P = F × P x
Known (Err WrongForm) F P = Unit {0}
Known (Err Number) F P = F
Known (Err RepeatedName) F P = ⊥
Known (Err Limit) F P = ⊥
Known (Err Memory) F P = ⊥

pub record ReadsForm {X : Type 0} (r : Result X Fault) (F : Type 0) (P : X → Type 0) : Type 0 where
  pub known : Known r F P

-- a value
pub form_ok : {X : Type 0} (x : X) (F : Type 0) (P : X → Type 0) → F → P x → ReadsForm (Ok x) F P
form_ok x F P f p = record { known = (f, p) }

-- no form
pub no_form : {X : Type 0} (F : Type 0) (P : X → Type 0) → ReadsForm (Err WrongForm) F P
no_form F P = record { known = tt }

-- one step and then others
pub form_then : {X Y : Type 0} (r : Result X Fault) (f : X → Result Y Fault) (F : Type 0) (Q : X → Type 0)
    (P : Y → Type 0) → ReadsForm r F Q → ((x : X) → F → Q x → ReadsForm (f x) F P) → ReadsForm (r >>= f) F P
form_then (Ok x) f F Q P h k = k x h.known.0 h.known.1
form_then (Err WrongForm) f F Q P h k = record { known = tt }
form_then (Err Number) f F Q P h k = record { known = h.known }
form_then (Err RepeatedName) f F Q P h k = absurd h.known
form_then (Err _) f F Q P h k = absurd h.known

-- a word that may name an item
pub named_then : {X Y : Type 0} (o : Option X) (f : X → Result Y Fault) (F : Type 0) (Q : X → Type 0)
    (P : Y → Type 0) → ((x : X) → o ≡ Some x → Q x) → ((x : X) → Q x → ReadsForm (f x) F P)
    → ReadsForm (form o >>= f) F P
named_then (Some x) f F Q P h k = k x (h x refl)
named_then None f F Q P h k = record { known = tt }

-- a word that may be a number
pub number_then : {X Y : Type 0} (o : Option X) (f : X → Result Y Fault) (F : Type 0) (Q : X → Type 0)
    (P : Y → Type 0) → F → ((x : X) → o ≡ Some x → Q x) → ((x : X) → Q x → ReadsForm (f x) F P)
    → ReadsForm (number_or o >>= f) F P
number_then (Some x) f F Q P form h k = k x (h x refl)
number_then None f F Q P form h k = record { known = form }

pub number_named : {X : Type 0} (o : Option X) (F : Type 0) (Q : X → Type 0)
    → F → ((x : X) → o ≡ Some x → Q x) → ReadsForm (number_or o) F Q
number_named (Some x) F Q form h = record { known = (form, h x refl) }
number_named None F Q form h = record { known = form }

-- a test of the form
pub form_if : {Y : Type 0} (b : Bool) (f : Unit {0} → Result Y Fault) (F : Type 0) (P : Y → Type 0)
    → (b ≡ true → ReadsForm (f tt) F P) → ReadsForm (unless_not WrongForm b >>= f) F P
form_if true f F P k = k refl
form_if false f F P k = record { known = tt }

-- a test of a number
pub number_if : {Y : Type 0} (b : Bool) (f : Unit {0} → Result Y Fault) (F : Type 0) (P : Y → Type 0)
    → F → (b ≡ true → ReadsForm (f tt) F P) → ReadsForm (unless_not Number b >>= f) F P
number_if true f F P form k = k refl
number_if false f F P form k = record { known = form }

-- a weaker property of the value
pub form_weaker : {X : Type 0} (r : Result X Fault) (F : Type 0) (Q P : X → Type 0)
    → ReadsForm r F Q → ((x : X) → Q x → P x) → ReadsForm r F P
form_weaker (Ok x) F Q P h k = record { known = (h.known.0, k x h.known.1) }
form_weaker (Err WrongForm) F Q P h k = record { known = tt }
form_weaker (Err Number) F Q P h k = record { known = h.known }
form_weaker (Err RepeatedName) F Q P h k = absurd h.known
form_weaker (Err Limit) F Q P h k = absurd h.known
form_weaker (Err Memory) F Q P h k = absurd h.known

-- another form that follows from the form
pub form_as : {X : Type 0} (r : Result X Fault) (G F : Type 0) (P : X → Type 0)
    → ReadsForm r G P → (G → F) → ReadsForm r F P
form_as (Ok x) G F P h k = record { known = (k h.known.0, h.known.1) }
form_as (Err WrongForm) G F P h k = record { known = tt }
form_as (Err Number) G F P h k = record { known = k h.known }
form_as (Err RepeatedName) G F P h k = absurd h.known
form_as (Err Limit) G F P h k = absurd h.known
form_as (Err Memory) G F P h k = absurd h.known

-- the property of the value
pub form_read : {X : Type 0} (r : Result X Fault) (F : Type 0) (P : X → Type 0) → ReadsForm r F P → IfRead r P
form_read (Ok x) F P h = read_ok x P h.known.1
form_read (Err e) F P h = read_err e P

-- A line whose error isn't its form has the form F; one whose error is neither its form nor a number has the property
-- S.
abbrev pub LineKnown : Result Draft Fault → Type 0 → Type 0 → Type 0
LineKnown (Err WrongForm) F S = Unit {0}
LineKnown (Err Number) F S = F
LineKnown (Err RepeatedName) F S = F × S
LineKnown (Err Limit) F S = F × S
LineKnown (Err Memory) F S = ⊥
LineKnown (Ok d) F S = F × S

pub record LineReads (r : Result Draft Fault) (F S : Type 0) : Type 0 where
  pub known : LineKnown r F S

pub line_ok : (d : Draft) (F S : Type 0) → F → S → LineReads (Ok d) F S
line_ok d F S f s = record { known = (f, s) }

pub line_if : (b : Bool) (f : Unit {0} → Result Draft Fault) (F S : Type 0)
    → (b ≡ true → LineReads (f tt) F S) → LineReads (unless_not WrongForm b >>= f) F S
line_if true f F S k = k refl
line_if false f F S k = record { known = tt }

pub line_then : {X : Type 0} (r : Result X Fault) (f : X → Result Draft Fault) (F S : Type 0) (Q : X → Type 0)
    → ReadsForm r F Q → ((x : X) → F → Q x → LineReads (f x) F S) → LineReads (r >>= f) F S
line_then (Ok x) f F S Q h k = k x h.known.0 h.known.1
line_then (Err WrongForm) f F S Q h k = record { known = tt }
line_then (Err Number) f F S Q h k = record { known = h.known }
line_then (Err RepeatedName) f F S Q h k = absurd h.known
line_then (Err _) f F S Q h k = absurd h.known

-- a test of a name, and of a limit
pub line_name : (b : Bool) (f : Unit {0} → Result Draft Fault) (F S : Type 0)
    → F → S → LineReads (f tt) F S → LineReads (unless_not RepeatedName b >>= f) F S
line_name true f F S form s k = k
line_name false f F S form s k = record { known = (form, s) }

pub line_limit : (b : Bool) (f : Unit {0} → Result Draft Fault) (F S : Type 0)
    → F → S → LineReads (f tt) F S → LineReads (unless_not Limit b >>= f) F S
line_limit true f F S form s k = k
line_limit false f F S form s k = record { known = (form, s) }

-- a result that isn't an error of the form
abbrev pub IsNotForm : {X : Type 0} → Result X Fault → Type 0
IsNotForm (Ok x) = Unit {0}
IsNotForm (Err WrongForm) = ⊥
IsNotForm (Err Number) = Unit {0}
IsNotForm (Err RepeatedName) = Unit {0}
IsNotForm (Err Limit) = Unit {0}
IsNotForm (Err Memory) = Unit {0}

pub record Formed {X : Type 0} (r : Result X Fault) : Type 0 where
  pub is : IsNotForm r

pub formed_ok : {X : Type 0} (x : X) → Formed (Ok x)
formed_ok x = record { is = tt }

pub formed_then : {X Y : Type 0} (r : Result X Fault) (f : X → Result Y Fault)
    → Formed r → ((x : X) → Formed (f x)) → Formed (r >>= f)
formed_then (Ok x) f h k = k x
formed_then (Err WrongForm) f h k = absurd h.is
formed_then (Err Number) f h k = record { is = tt }
formed_then (Err RepeatedName) f h k = record { is = tt }
formed_then (Err Limit) f h k = record { is = tt }
formed_then (Err Memory) f h k = record { is = tt }

pub formed_number : {X : Type 0} (o : Option X) → Formed (number_or o)
formed_number (Some x) = record { is = tt }
formed_number None = record { is = tt }

pub number_formed : {X Y : Type 0} (o : Option X) (f : X → Result Y Fault)
    → ((x : X) → Formed (f x)) → Formed (number_or o >>= f)
number_formed (Some x) f k = k x
number_formed None f k = record { is = tt }

-- a word that names an item, and a test of the form that passes
pub named_formed : {X Y : Type 0} (o : Option X) (x : X) (f : X → Result Y Fault)
    → o ≡ Some x → Formed (f x) → Formed (form o >>= f)
named_formed o x f e k = rw e k

pub if_formed : {Y : Type 0} (b : Bool) (f : Unit {0} → Result Y Fault)
    → b ≡ true → Formed (f tt) → Formed (unless_not WrongForm b >>= f)
if_formed b f e k = rw e k

-- tests of a number, of a name and of a limit
pub test_formed : {Y : Type 0} (b : Bool) (f : Unit {0} → Result Y Fault)
    → Formed (f tt) → Formed (unless_not Number b >>= f)
test_formed true f k = k
test_formed false f k = record { is = tt }

pub name_formed : (b : Bool) (f : Unit {0} → Result Draft Fault)
    → Formed (f tt) → Formed (unless_not RepeatedName b >>= f)
name_formed true f k = k
name_formed false f k = record { is = tt }

pub limit_formed : (b : Bool) (f : Unit {0} → Result Draft Fault) → Formed (f tt) → Formed (unless_not Limit b >>= f)
limit_formed true f k = k
limit_formed false f k = record { is = tt }
