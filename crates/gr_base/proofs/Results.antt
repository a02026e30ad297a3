-- Steps in a chain, each of which may fail: what is known of the value if none failed.
use Rattle.std.proofs.Common.{◌≡◌, Bool, true, false, cond, Option, Some, None, Result, Ok, Err, refl, subst}
use Rattle.std.specs.Prelude.{option_map}
use Rattle.gr_base.specs.Prelude.{◌>>=◌}

-- if there is no error, the value has a property
pub record IfRead {X E : Type 0} (r : Result X E) (P : X → Type 0) : Type 0 where
  pub then : (x : X) → r ≡ Ok x → P x

-- equal results hold equal values
pub ok_is : {X E : Type 0} (x y : X) → ◌≡◌ {A = Result X E} (Ok x) (Ok y) → x ≡ y
ok_is x y e = cc

-- equal options hold equal values
pub some_is : {X : Type 0} (x y : X) → Some x ≡ Some y → x ≡ y
some_is x y e = cc

-- a property of a value that was read
pub read_ok : {X E : Type 0} (x : X) (P : X → Type 0) → P x → IfRead {E = E} (Ok x) P
read_ok {X} {E} x P h = record { then = λ y e. subst P (ok_is {E = E} x y e) h }

-- an error says nothing about a value
pub read_err : {X E : Type 0} (e : E) (P : X → Type 0) → IfRead {X = X} (Err e) P
read_err e P = record { then = λ y bad. absurd cc }

-- one step and then the others
pub read_then : {X Y E : Type 0} (r : Result X E) (f : X → Result Y E) (Q : X → Type 0) (P : Y → Type 0)
    → IfRead r Q → ((x : X) → Q x → IfRead (f x) P) → IfRead (r >>= f) P
read_then (Ok x) f Q P h k = k x (h.then x refl)
read_then (Err e) f Q P h k = read_err e P

-- a value if a test passes, and otherwise an error
pub read_if : {X E : Type 0} (b : Bool) (x : X) (e : E) (P : X → Type 0)
    → (b ≡ true → P x) → IfRead (cond b (Ok x) (Err e)) P
read_if true x e P h = read_ok x P (h refl)
read_if false x e P h = read_err e P

-- an error if a test passes, and otherwise a result
pub read_unless : {X E : Type 0} (b : Bool) (e : E) (r : Result X E) (P : X → Type 0)
    → (b ≡ false → IfRead r P) → IfRead (cond b (Err e) r) P
read_unless true e r P h = read_err e P
read_unless false e r P h = h refl

-- a weaker property of the value
pub read_weaker : {X E : Type 0} (r : Result X E) (P Q : X → Type 0) → IfRead r P → ((x : X) → P x → Q x) → IfRead r Q
read_weaker r P Q h k = record { then = λ x e. k x (h.then x e) }

-- a value that may be missing, after a function was applied to it
pub mapped : {X Y : Type 0} (o : Option X) (f : X → Y) (Q : X → Type 0) (P : Y → Type 0)
    → ((x : X) → o ≡ Some x → Q x) → ((x : X) → Q x → P (f x)) → (y : Y) → option_map f o ≡ Some y → P y
mapped None f Q P h k y e = absurd cc
mapped (Some x) f Q P h k y e = subst P (some_is (f x) y e) (k x (h x refl))
