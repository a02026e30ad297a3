-- The first error that reading meets is the first error of the file, as people read it.
use Rattle.std.proofs.Common.{◌≡◌, ◌≢◌, ℕ, ◌+◌, ◌<◌, ◌≤◌, Bool, true, false, cond, eqb, ltb, List, [], ◌∷◌, ◌++◌, length, take, drop, Result, Ok, Err, IfErr, refl, sym, ap, subst, ◌∙◌, append_assoc, arith}
use Rattle.std.proofs.Math.Seq.{take-append_seam, take-add}
use Rattle.std.proofs.lemmas.Bool.{ltb-false, ltb-true, le-ltb, lt-ltb}
use Rattle.std.proofs.lemmas.Bool.Decides.{nat_tests}
use Rattle.std.proofs.lemmas.List.{take-append-drop, length-take-le, length-append, length-drop, drop_at, take_at}
use Rattle.gr_base.specs.Prelude.{◌>>=◌}
use Rattle.gr_base.proofs.Results.{IfRead}
use Rattle.lt_isa.specs.Prelude.{Parts, IsInRange}
use Rattle.object_file.specs.declared.errors.DecodeError.{DecodeError}
use Rattle.object_file.specs.declared.errors.DecodeError.TheVariants.{Truncated, BadMagic, BadVersion, BadField, TrailingBytes, Memory}
use Rattle.object_file.specs.Prelude.{spelling, Decodes, Read, place, ended, parts_at, object_at, decoded, Telling, NoObject, Version, Place, Field, Fields, NoField, FieldThen, object_fields, Fills, Nothing, OneMore, FieldBegins, IsCutShort, told, IsRefused, end_of_field, HasMore, IsFirstObjectFault, IsTruncated}
use Rattle.object_file.proofs.Numbers.{IsBytes}
use Rattle.object_file.proofs.ObjectLaws.{parts_read, parts_again}
use Rattle.object_file.proofs.FieldLaws.{reading, parts_same}

-- the object of the parts of a file, if no bytes are left after them
abbrev closed : ℕ → Read Parts → Result Parts DecodeError
closed all r = r >>= (λ x. ended all x.0 x.1)

decoded-closed : (bytes : List ℕ) → decoded bytes ≡ closed (length bytes) (reading object_fields (length bytes) bytes)
unfolding decoded object_at
decoded-closed bytes = ap (closed (length bytes)) (parts_same (length bytes) bytes)

-- one field

filled_read : {X : Type 0} (field : Field) (next : List ℕ → Fields X) (all : ℕ) (text rest : List ℕ)
    → length text ≡ field.size → field.allowed text ≡ true
    → reading (FieldThen field next) all (text ++ rest) ≡ reading (next text) all rest
filled_read field next all text rest size allowed =
    let long : ltb (length (text ++ rest)) field.size ≡ false =
    le-ltb _ _ (omega (arith, length-append text rest, size)) in
    rw (long, take_at text rest field.size size, drop_at text rest field.size size, allowed) refl

refused_read : {X : Type 0} (field : Field) (next : List ℕ → Fields X) (all : ℕ) (text rest : List ℕ)
    → length text ≡ field.size → field.allowed text ≡ false
    → reading (FieldThen field next) all (text ++ rest) ≡ Err (told field.telling (place all (text ++ rest)) text)
refused_read field next all text rest size refused =
    let long : ltb (length (text ++ rest)) field.size ≡ false =
    le-ltb _ _ (omega (arith, length-append text rest, size)) in
    rw (long, take_at text rest field.size size, refused) refl

cut_read : {X : Type 0} (field : Field) (next : List ℕ → Fields X) (all : ℕ) (rest : List ℕ) → length rest < field.size
    → reading (FieldThen field next) all rest ≡ Err (Truncated (place all rest))
cut_read field next all rest short = let cut : ltb (length rest) field.size ≡ true = lt-ltb _ _ short in rw cut refl

-- after bytes that fill some fields, reading continues with the fields that are left
fills-read : {X : Type 0} (fields : Fields X) (front : List ℕ) (left : Fields X) → Fills fields front left
    → (all : ℕ) (rest : List ℕ) → reading fields all (front ++ rest) ≡ reading left all rest
fills-read fields front left Nothing all rest = refl
fills-read fields front left (OneMore before text field next filled size allowed) all rest =
    ap (reading fields all) (append_assoc before text rest)
    ∙ fills-read fields before (FieldThen field next) filled all (text ++ rest)
    ∙ filled_read field next all text rest size allowed

-- a field after bytes that fill those before it

module _ (front : List ℕ) (field : Field) (next : List ℕ → Fields Parts)
    (filled : Fills object_fields front (FieldThen field next)) where
  decoded_behind : (rest : List ℕ) (e : DecodeError)
      → reading (FieldThen field next) (length (front ++ rest)) rest ≡ Err e → decoded (front ++ rest) ≡ Err e
  decoded_behind rest e here =
      decoded-closed (front ++ rest)
      ∙ ap (closed (length (front ++ rest)))
      (fills-read object_fields front (FieldThen field next) filled (length (front ++ rest)) rest ∙ here)

  cut_decoded : (rest : List ℕ) → length rest < field.size → decoded (front ++ rest) ≡ Err (Truncated (length front))
  cut_decoded rest short =
      let at : place (length (front ++ rest)) rest ≡ length front = omega (arith, length-append front rest) in
      decoded_behind rest _ (cut_read field next _ rest short ∙ ap (λ p. Err (Truncated p)) at)

  refused_decoded : (text rest : List ℕ) → length text ≡ field.size → field.allowed text ≡ false
      → decoded (front ++ (text ++ rest)) ≡ Err (told field.telling (length front) text)
  refused_decoded text rest size refused =
      let at : place (length (front ++ (text ++ rest))) (text ++ rest) ≡ length front =
      omega (arith, length-append front (text ++ rest)) in
      decoded_behind (text ++ rest) _
      (refused_read field next _ text rest size refused ∙ ap (λ p. Err (told field.telling p text)) at)

-- from the definition that people read to reading

cut-decoded : (bytes : List ℕ) (p : ℕ) → IsCutShort bytes p → decoded bytes ≡ Err (Truncated p)
cut-decoded bytes p h =
    let b = h.begins in
    let whole : bytes ≡ take p bytes ++ drop p bytes = sym (take-append-drop p bytes) in
    let front : length (take p bytes) ≡ p = length-take-le p bytes b.inside in
    let rest = length-drop p bytes in
    ap decoded whole
    ∙ cut_decoded (take p bytes) b.field b.next b.before (drop p bytes) (omega (arith, rest, h.short, b.inside))
    ∙ ap (λ k. Err (Truncated k)) front

-- a field that isn't allowed is reported with any bytes after it
pub stays_refused : (bytes other : List ℕ) (e : DecodeError) (h : IsRefused bytes e)
    → decoded (take (end_of_field h) bytes ++ other) ≡ Err e
stays_refused bytes other e h =
    let b = h.begins in
    let front : List ℕ = take h.place bytes in
    let text : List ℕ = take b.field.size (drop h.place bytes) in
    let parts : take (end_of_field h) bytes ++ other ≡ front ++ (text ++ other) =
    ap (λ (t : List ℕ). t ++ other) (take-add h.place b.field.size bytes) ∙ append_assoc front text other in
    let at : length front ≡ h.place = length-take-le h.place bytes b.inside in
    let rest = length-drop h.place bytes in
    let size : length text ≡ b.field.size =
    length-take-le b.field.size (drop h.place bytes) (omega (arith, rest, h.whole)) in
    ap decoded parts
    ∙ refused_decoded front b.field b.next b.before text other size h.refused
    ∙ ap (λ p. Err (told b.field.telling p text)) at
    ∙ ap Err (sym h.telling)

refused-decoded : (bytes : List ℕ) (e : DecodeError) → IsRefused bytes e → decoded bytes ≡ Err e
refused-decoded bytes e h =
    ap decoded (sym (take-append-drop (end_of_field h) bytes)) ∙ stays_refused bytes (drop (end_of_field h) bytes) e h

-- bytes after an object

some_left : (rest : List ℕ) → eqb (length rest) 0 ≡ false → 1 ≤ length rest
some_left [] e = absurd cc
some_left (b ∷ rest) e = omega arith

left_some : (rest : List ℕ) → 1 ≤ length rest → eqb (length rest) 0 ≡ false
left_some rest h = grind (arith, nat_tests)

has_more : (bytes : List ℕ) (x : Parts × List ℕ) → bytes ≡ spelling x.0 ++ x.1 → IsInRange x.0 → 1 ≤ length x.1
    → HasMore bytes (place (length bytes) x.1)
has_more bytes x whole in_range some =
    let size : length bytes ≡ length (spelling x.0) + length x.1 = ap length whole ∙ length-append (spelling x.0) x.1 in
    let here : place (length bytes) x.1 ≡ length (spelling x.0) = omega (arith, size) in
    record {
      object = x.0;
      in_range = in_range;
      front =
          ap (λ n. take n bytes) here ∙ ap (take (length (spelling x.0))) whole ∙ take-append_seam (spelling x.0) x.1;
      more = omega (arith, size, some);
    }

trailing_by : (all p : ℕ) (o : Parts) (rest : List ℕ) → 1 ≤ length rest → place all rest ≡ p
    → closed all (Ok (o, rest)) ≡ Err (TrailingBytes p)
trailing_by all p o rest some at = rw (left_some rest some) (ap (λ k. Err (TrailingBytes k)) at)

more-decoded : (bytes : List ℕ) (p : ℕ) → HasMore bytes p → decoded bytes ≡ Err (TrailingBytes p)
more-decoded bytes p h =
    let all = length bytes in
    let rest = drop p bytes in
    let whole : bytes ≡ spelling h.object ++ rest =
    sym (take-append-drop p bytes) ∙ ap (λ (t : List ℕ). t ++ rest) h.front in
    let front : length (spelling h.object) ≡ p =
    ap length (sym h.front) ∙ length-take-le p bytes (omega (arith, h.more)) in
    let size : all ≡ p + length rest =
    ap length whole ∙ length-append (spelling h.object) rest ∙ ap (λ n. n + length rest) front in
    let read : reading object_fields all bytes ≡ Ok (h.object, rest) =
    sym (parts_same all bytes) ∙ ap (parts_at all) whole ∙ parts_again all h.object rest h.in_range in
    decoded-closed bytes ∙ ap (closed all) read
    ∙ trailing_by all p h.object rest (omega (arith, size, h.more)) (omega (arith, size))

-- a file's first error is the one that reading meets
pub first-decoded : (bytes : List ℕ) (e : DecodeError) → IsFirstObjectFault bytes e → decoded bytes ≡ Err e
first-decoded bytes (Truncated p) h = cut-decoded bytes p h
first-decoded bytes (TrailingBytes p) h = more-decoded bytes p h
first-decoded bytes BadMagic h = refused-decoded bytes BadMagic h
first-decoded bytes (BadVersion version) h = refused-decoded bytes (BadVersion version) h
first-decoded bytes (BadField p) h = refused-decoded bytes (BadField p) h
first-decoded bytes Memory h = absurd h

-- from reading to the definition that people read

-- the first error is within the fields of a file
abbrev IsInField : List ℕ → DecodeError → Type 0
IsInField bytes (Truncated p) = IsCutShort bytes p
IsInField bytes (TrailingBytes p) = ⊥
IsInField bytes BadMagic = IsRefused bytes BadMagic
IsInField bytes (BadVersion version) = IsRefused bytes (BadVersion version)
IsInField bytes (BadField p) = IsRefused bytes (BadField p)
IsInField bytes Memory = ⊥

in_field-first : (bytes : List ℕ) (e : DecodeError) → IsInField bytes e → IsFirstObjectFault bytes e
in_field-first bytes (TrailingBytes p) h = absurd h
in_field-first bytes Memory h = absurd h
in_field-first bytes other h = h

told-in_field : (bytes : List ℕ) (telling : Telling) (p : ℕ) (text : List ℕ) → IsRefused bytes (told telling p text)
    → IsInField bytes (told telling p text)
told-in_field bytes NoObject p text h = h
told-in_field bytes Version p text h = h
told-in_field bytes Place p text h = h

err_is : {X : Type 0} (e f : DecodeError) → ◌≡◌ {A = Result X DecodeError} (Err e) (Err f) → e ≡ f
err_is e f same = cc

-- a field begins after bytes that fill those before it
abbrev begins_behind : (bytes front rest : List ℕ) (field : Field) (next : List ℕ → Fields Parts)
    → bytes ≡ front ++ rest → Fills object_fields front (FieldThen field next) → FieldBegins bytes (length front)
begins_behind bytes front rest field next whole filled =
    let text : take (length front) bytes ≡ front = ap (take (length front)) whole ∙ take-append_seam front rest in
    record {
      field = field;
      next = next;
      inside = omega (arith, ap length whole, length-append front rest);
      before = subst (λ (t : List ℕ). Fills object_fields t (FieldThen field next)) (sym text) filled;
    }

found_in : (bytes : List ℕ) (fields : Fields Parts) (front rest : List ℕ) → bytes ≡ front ++ rest
    → Fills object_fields front fields → (e : DecodeError)
    → reading fields (length bytes) rest ≡ Err e → IsInField bytes e
found_in bytes (NoField o) front rest whole filled e is =
    absurd (let no : ◌≡◌ {A = Read Parts} (Ok (o, rest)) (Err e) = is in cc)
found_in bytes (FieldThen field next) front rest whole filled e is =
    by_size (λ further on.
    found_in bytes (next (take field.size rest)) (front ++ take field.size rest) (drop field.size rest) further on e)
    (ltb (length rest) field.size) refl is
  where
    size : length bytes ≡ length front + length rest
    size = ap length whole ∙ length-append front rest

    at : place (length bytes) rest ≡ length front
    at = omega (arith, size)

    begins : FieldBegins bytes (length front)
    begins = begins_behind bytes front rest field next whole filled

    drops : drop (length front) bytes ≡ rest
    drops = ap (drop (length front)) whole ∙ drop_at front rest (length front) refl

    by_allowed : (bytes ≡ (front ++ take field.size rest) ++ drop field.size rest
        → Fills object_fields (front ++ take field.size rest) (next (take field.size rest))
        → reading (next (take field.size rest)) (length bytes) (drop field.size rest) ≡ Err e → IsInField bytes e)
        → field.size ≤ length rest → (b : Bool) → field.allowed (take field.size rest) ≡ b
        → cond b (reading (next (take field.size rest)) (length bytes) (drop field.size rest))
        (Err (told field.telling (place (length bytes) rest) (take field.size rest))) ≡ Err e → IsInField bytes e
    by_allowed further long true allowed read =
        let more : bytes ≡ (front ++ take field.size rest) ++ drop field.size rest =
        whole ∙ ap (λ (t : List ℕ). front ++ t) (sym (take-append-drop field.size rest))
        ∙ sym (append_assoc front (take field.size rest) (drop field.size rest)) in
        let on = OneMore front (take field.size rest) field next filled (length-take-le field.size rest long) allowed in
        further more on read
    by_allowed further long false refused read =
        let same : told field.telling (length front) (take field.size rest) ≡ e =
        ap (λ p. told field.telling p (take field.size rest)) (sym at) ∙ err_is {X = Parts × List ℕ} _ e read in
        let here : take field.size (drop (length front) bytes) ≡ take field.size rest = ap (take field.size) drops in
        let h : IsRefused bytes (told field.telling (length front) (take field.size rest)) = record {
          place = length front;
          begins = begins;
          whole = omega (arith, size, long);
          refused = ap field.allowed here ∙ refused;
          telling = ap (told field.telling (length front)) (sym here);
        } in
        subst (IsInField bytes) same (told-in_field bytes field.telling (length front) (take field.size rest) h)

    by_size : (bytes ≡ (front ++ take field.size rest) ++ drop field.size rest
        → Fills object_fields (front ++ take field.size rest) (next (take field.size rest))
        → reading (next (take field.size rest)) (length bytes) (drop field.size rest) ≡ Err e → IsInField bytes e)
        → (b : Bool) → ltb (length rest) field.size ≡ b
        → cond b (Err (Truncated (place (length bytes) rest))) (cond (field.allowed (take field.size rest))
        (reading (next (take field.size rest)) (length bytes) (drop field.size rest))
        (Err (told field.telling (place (length bytes) rest) (take field.size rest)))) ≡ Err e → IsInField bytes e
    by_size further true short read =
        let same : Truncated (length front) ≡ e = ap Truncated (sym at) ∙ err_is {X = Parts × List ℕ} _ e read in
        let less = ltb-true _ _ short in
        let h : IsCutShort bytes (length front) = record { begins = begins; short = omega (arith, size, less) } in
        subst (IsInField bytes) same h
    by_size further false enough read =
        by_allowed further (ltb-false _ _ enough) (field.allowed (take field.size rest)) refl read

first_by : (bytes : List ℕ) (r : Read Parts) → IfRead r (λ x. (bytes ≡ spelling x.0 ++ x.1) × IsInRange x.0)
    → ((e : DecodeError) → r ≡ Err e → IsInField bytes e) → (e : DecodeError)
    → closed (length bytes) r ≡ Err e → IsFirstObjectFault bytes e
first_by bytes (Ok x) h fault e is = by_rest (eqb (length x.1) 0) refl is where
  by_rest : (b : Bool) → eqb (length x.1) 0 ≡ b
      → cond b (Ok x.0) (Err (TrailingBytes (place (length bytes) x.1))) ≡ Err e → IsFirstObjectFault bytes e
  by_rest true none is = absurd cc
  by_rest false some is =
      let found = h.then x refl in
      let same : TrailingBytes (place (length bytes) x.1) ≡ e = err_is {X = Parts} _ e is in
      subst (IsFirstObjectFault bytes) same (has_more bytes x found.0 found.1 (some_left x.1 some))
first_by bytes (Err f) h fault e is = in_field-first bytes e (fault e (ap Err (err_is {X = Parts} f e is)))

-- the error that reading meets is the file's first
pub decoded-first : (bytes : List ℕ) (e : DecodeError) → IsBytes bytes → decoded bytes ≡ Err e
    → IsFirstObjectFault bytes e
decoded-first bytes e fits is =
    let all = length bytes in
    first_by bytes (reading object_fields all bytes)
    (subst (λ r. IfRead r (λ x. (bytes ≡ spelling x.0 ++ x.1) × IsInRange x.0)) (parts_same all bytes)
    (parts_read all bytes fits))
    (λ f. found_in bytes object_fields [] bytes refl Nothing f) e (sym (decoded-closed bytes) ∙ is)

-- a function whose result is that of reading reports the first error
pub is_first : (bytes : List ℕ) (r : Result Parts DecodeError) → IsBytes bytes → Decodes (λ o. o) r (decoded bytes)
    → IfErr r (λ e. e ≢ Memory → IsFirstObjectFault bytes e)
is_first bytes (Ok o) fits read = tt
is_first bytes (Err e) fits read = λ known. decoded-first bytes e fits (read known)

-- each prefix of a truncated file is truncated

record StopsShort {X : Type 0} (r : Read X) : Type 0 where
  stop : ℕ
  is : r ≡ Err (Truncated stop)

told-not_short : (telling : Telling) (p q : ℕ) (text : List ℕ) → told telling p text ≡ Truncated q → ⊥
told-not_short NoObject p q text e = cc
told-not_short Version p q text e = cc
told-not_short Place p q text e = cc

front_short : {X : Type 0} (fields : Fields X) (all all' at : ℕ) (front more : List ℕ)
    → reading fields all' (front ++ more) ≡ Err (Truncated at) → StopsShort (reading fields all front)
front_short {X} (NoField x) all all' at front more is =
    absurd (let no : ◌≡◌ {A = Read X} (Ok (x, front ++ more)) (Err (Truncated at)) = is in cc)
front_short {X} (FieldThen field next) all all' at front more is =
    by_size (front_short (next (take field.size front)) all all' at (drop field.size front) more)
    (ltb (length front) field.size) refl
  where
    by_allowed : (reading (next (take field.size front)) all' (drop field.size front ++ more) ≡ Err (Truncated at)
        → StopsShort (reading (next (take field.size front)) all (drop field.size front)))
        → field.size ≤ length front → (b : Bool) → field.allowed (take field.size front) ≡ b
        → StopsShort (cond b (reading (next (take field.size front)) all (drop field.size front))
        (Err (told field.telling (place all front) (take field.size front))))
    by_allowed further long true allowed =
        let whole : front ++ more ≡ take field.size front ++ (drop field.size front ++ more) =
        ap (λ (t : List ℕ). t ++ more) (sym (take-append-drop field.size front))
        ∙ append_assoc (take field.size front) (drop field.size front) more in
        let size = length-take-le field.size front long in
        let on = filled_read field next all' (take field.size front) (drop field.size front ++ more) size allowed in
        further (sym on ∙ ap (reading (FieldThen field next) all') (sym whole) ∙ is)
    by_allowed further long false refused =
        let whole : front ++ more ≡ take field.size front ++ (drop field.size front ++ more) =
        ap (λ (t : List ℕ). t ++ more) (sym (take-append-drop field.size front))
        ∙ append_assoc (take field.size front) (drop field.size front) more in
        let size = length-take-le field.size front long in
        let stop = refused_read field next all' (take field.size front) (drop field.size front ++ more) size refused in
        absurd (told-not_short field.telling _ at (take field.size front)
        (err_is {X = X × List ℕ} _ _ (sym stop ∙ ap (reading (FieldThen field next) all') (sym whole) ∙ is)))

    by_size : (reading (next (take field.size front)) all' (drop field.size front ++ more) ≡ Err (Truncated at)
        → StopsShort (reading (next (take field.size front)) all (drop field.size front)))
        → (b : Bool) → ltb (length front) field.size ≡ b
        → StopsShort (cond b (Err (Truncated (place all front))) (cond (field.allowed (take field.size front))
        (reading (next (take field.size front)) all (drop field.size front))
        (Err (told field.telling (place all front) (take field.size front)))))
    by_size further true short = record { stop = place all front; is = refl }
    by_size further false enough =
        by_allowed further (ltb-false _ _ enough) (field.allowed (take field.size front)) refl

closed_short : (all at : ℕ) (r : Read Parts) → closed all r ≡ Err (Truncated at) → r ≡ Err (Truncated at)
closed_short all at (Ok x) is = by_rest (eqb (length x.1) 0) is where
  by_rest : (b : Bool) → cond b (Ok x.0) (Err (TrailingBytes (place all x.1))) ≡ Err (Truncated at)
      → ◌≡◌ {A = Read Parts} (Ok x) (Err (Truncated at))
  by_rest true is = absurd cc
  by_rest false is = absurd (let no : TrailingBytes (place all x.1) ≡ Truncated at = err_is {X = Parts} _ _ is in cc)
closed_short all at (Err e) is = ap Err (err_is {X = Parts} e _ is)

-- a prefix of a truncated file is truncated
pub front_truncated : (front more : List ℕ) (at : ℕ)
    → decoded (front ++ more) ≡ Err (Truncated at) → IsTruncated (decoded front)
front_truncated front more at is =
    let long = closed_short _ at _ (sym (decoded-closed (front ++ more)) ∙ is) in
    let short = front_short object_fields (length front) (length (front ++ more)) at front more long in
    record { at = short.stop; fault = decoded-closed front ∙ ap (closed (length front)) short.is }
