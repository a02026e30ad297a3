-- Reading an object is reading the fields of the format in order.
use Rattle.std.proofs.Common.{◌≡◌, ℕ, zero, suc, Bool, true, false, cond, eqb, ltb, List, [], ◌∷◌, ◌++◌, length, take, drop, Option, Some, None, is_some, Ok, Err, refl, sym, ap, ◌∙◌, arith, unwrap_or}
use Rattle.std.specs.Prelude.{◌||◌, ◌==◌}
use Rattle.byteorder.specs.Endian.{little_number}
use Rattle.byteorder.specs.Numbers.{little_from-take}
use Rattle.gr_base.specs.Prelude.{◌>>=◌}
use Rattle.lt_isa.specs.declared.profiles.Profile.{Profile}
use Rattle.lt_isa.specs.declared.profiles.BankSpec.{BankSpec}
use Rattle.lt_isa.specs.declared.symbols.Symbol.{Symbol}
use Rattle.lt_isa.specs.declared.symbols.Note.{Note}
use Rattle.lt_isa.specs.declared.instruction_table.Kind.{Kind}
use Rattle.lt_isa.specs.declared.instruction_table.Kind.TheVariants.{Nop}
use Rattle.lt_isa.specs.Prelude.{kind_named, is_slot_claim}
use Rattle.object_file.specs.declared.errors.DecodeError.{DecodeError}
use Rattle.object_file.specs.declared.errors.DecodeError.TheVariants.{Truncated, BadMagic, BadVersion, BadField}
use Rattle.object_file.specs.Prelude.{magic, Read, place, number_at, field_at, items_at, list_at, magic_at, version_at, cycles_at, window_at, profile_at, bank_at, name_bytes_at, name_at, symbol_at, slots_at, note_at, known, kind_at, instruction_at, banks_at, symbols_at, notes_at, code_at, parts_at, Telling, NoObject, Version, Place, Fields, NoField, FieldThen, followed, number_told, number_field, items_fields, list_fields, magic_field, version_field, cycles_fields, window_fields, profile_fields, bank_fields, name_fields, symbol_fields, note_fields, operand_fields, instruction_fields, object_fields, told}

-- the value of some fields and the bytes after them, or the first error
abbrev pub reading : {X : Type 0} → Fields X → ℕ → List ℕ → Read X
reading (NoField x) all bytes = Ok (x, bytes)
reading (FieldThen field next) all bytes =
    cond (ltb (length bytes) field.size) (Err (Truncated (place all bytes)))
    (cond (field.allowed (take field.size bytes)) (reading (next (take field.size bytes)) all (drop field.size bytes))
    (Err (told field.telling (place all bytes) (take field.size bytes))))

-- fields and then others

pushed : {X Y : Type 0} (b c : Bool) (e f : DecodeError) (r : Read Y) (s : Read X) (l : X × List ℕ → Read Y)
    → r ≡ s >>= l → cond b (Err e) (cond c r (Err f)) ≡ (cond b (Err e) (cond c s (Err f))) >>= l
pushed true c e f r s l h = refl
pushed false true e f r s l h = h
pushed false false e f r s l h = refl

reading-followed : {X Y : Type 0} (fields : Fields X) (others : X → Fields Y) (all : ℕ) (bytes : List ℕ)
    → reading (followed fields others) all bytes ≡ reading fields all bytes >>= (λ x. reading (others x.0) all x.1)
unfolding followed
reading-followed (NoField x) others all bytes = refl
reading-followed (FieldThen field next) others all bytes =
    pushed _ _ _ _ _ _ _ (reading-followed (next (take field.size bytes)) others all (drop field.size bytes))

then_same : {X Y : Type 0} (r : Read X) (k l : X × List ℕ → Read Y)
    → ((x : X × List ℕ) → k x ≡ l x) → (r >>= k) ≡ (r >>= l)
then_same (Ok x) k l h = h x
then_same (Err e) k l h = refl

same_then : {X Y : Type 0} (fields : Fields X) (others : X → Fields Y) (all : ℕ) (bytes : List ℕ) (r : Read X)
    (l : X × List ℕ → Read Y) → r ≡ reading fields all bytes → ((x : X × List ℕ) → l x ≡ reading (others x.0) all x.1)
    → (r >>= l) ≡ reading (followed fields others) all bytes
same_then fields others all bytes r l h next =
    ap (λ t. t >>= l) h ∙ then_same (reading fields all bytes) l _ next ∙ sym (reading-followed fields others all bytes)

-- numbers

abbrev valued : ℕ → List ℕ → Read ℕ
valued n rest = Ok (n, rest)

number_of_text : (n : ℕ) (bytes : List ℕ) → little_number n (take n bytes) ≡ little_number n bytes
number_of_text n bytes = little_from-take 0 n n bytes (omega arith)

number_same : (telling : Telling) (n all : ℕ) (allowed : ℕ → Bool) (bytes : List ℕ) (wrong : ℕ → DecodeError)
    → wrong (little_number n bytes) ≡ told telling (place all bytes) (take n bytes)
    → (number_at n all bytes >>= (λ x. cond (allowed x.0) (Ok x) (Err (wrong x.0))))
    ≡ reading (number_told telling n allowed) all bytes
unfolding number_at
number_same telling n all allowed bytes wrong same = by_size (ltb (length bytes) n) where
  by_size : (b : Bool) → ((cond b (Err (Truncated (place all bytes))) (valued (little_number n bytes) (drop n bytes)))
      >>= (λ x. cond (allowed x.0) (Ok x) (Err (wrong x.0)))) ≡ cond b (Err (Truncated (place all bytes)))
      (cond (allowed (little_number n (take n bytes))) (valued (little_number n (take n bytes)) (drop n bytes))
      (Err (told telling (place all bytes) (take n bytes))))
  by_size true = refl
  by_size false = rw (sym same, number_of_text n bytes) refl

field_same : (n all : ℕ) (allowed : ℕ → Bool) (bytes : List ℕ)
    → field_at n all allowed bytes ≡ reading (number_field n allowed) all bytes
unfolding field_at
field_same n all allowed bytes = number_same Place n all allowed bytes (λ x. BadField (place all bytes)) refl

any_same : (n all : ℕ) (bytes : List ℕ) → number_at n all bytes ≡ reading (number_field n (λ any. true)) all bytes
unfolding number_at
any_same n all bytes = by_size (ltb (length bytes) n) where
  by_size : (b : Bool) → cond b (Err (Truncated (place all bytes))) (valued (little_number n bytes) (drop n bytes))
      ≡ cond b (Err (Truncated (place all bytes))) (valued (little_number n (take n bytes)) (drop n bytes))
  by_size true = refl
  by_size false = rw (number_of_text n bytes) refl

-- items

items_same : {X : Type 0} (all : ℕ) (read : List X → List ℕ → Read X) (item : List X → Fields X)
    → ((before : List X) (bytes : List ℕ) → read before bytes ≡ reading (item before) all bytes)
    → (n : ℕ) (before : List X) (bytes : List ℕ)
    → items_at read n before bytes ≡ reading (items_fields item n before) all bytes
unfolding items_at items_fields
items_same all read item one zero before bytes = refl
items_same all read item one (suc n) before bytes =
    same_then _ _ all bytes _ _ (one before bytes) (λ x. items_same all read item one n (before ++ x.0 ∷ []) x.1)

list_same : {X : Type 0} (n all : ℕ) (allowed : ℕ → Bool) (read : List X → List ℕ → Read X) (item : List X → Fields X)
    → ((before : List X) (bytes : List ℕ) → read before bytes ≡ reading (item before) all bytes)
    → (bytes : List ℕ) → list_at n all allowed read bytes ≡ reading (list_fields n allowed item) all bytes
unfolding list_at list_fields
list_same n all allowed read item one bytes =
    same_then _ _ all bytes _ _ (field_same n all allowed bytes)
    (λ count. items_same all read item one count.0 [] count.1)

-- the fields before the symbols

module _ (all : ℕ) where
  magic_then : {Y : Type 0} (bytes : List ℕ) (l : List ℕ → Read Y) (others : ℕ → Fields Y)
      → ((n : ℕ) (rest : List ℕ) → l rest ≡ reading (others n) all rest)
      → (magic_at all bytes >>= l) ≡ reading (followed magic_field others) all bytes
  unfolding magic_at magic_field
  magic_then bytes l others next =
      only_rest (number_at 4 all bytes)
      ∙ ap (λ t. t >>= (λ x. reading (others x.0) all x.1))
      (number_same NoObject 4 all (λ n. eqb n (little_number 4 magic)) bytes (λ n. BadMagic) refl)
      ∙ sym (reading-followed _ others all bytes)
    where
      by_test : (b : Bool) (x : ℕ × List ℕ) → ((cond b (Ok x.1) (Err BadMagic)) >>= l)
          ≡ ((cond b (Ok x) (Err BadMagic)) >>= (λ y. reading (others y.0) all y.1))
      by_test true x = next x.0 x.1
      by_test false x = refl

      only_rest : (r : Read ℕ) → ((r >>= (λ x. cond (eqb x.0 (little_number 4 magic)) (Ok x.1) (Err BadMagic))) >>= l)
          ≡ ((r >>= (λ x. cond (eqb x.0 (little_number 4 magic)) (Ok x) (Err BadMagic)))
          >>= (λ y. reading (others y.0) all y.1))
      only_rest (Ok x) = by_test (eqb x.0 (little_number 4 magic)) x
      only_rest (Err e) = refl

  version_same : (bytes : List ℕ) → version_at all bytes ≡ reading version_field all bytes
  unfolding version_at version_field
  version_same bytes =
      number_same Version 2 all (λ n. (n == 1) || (n == 2)) bytes BadVersion
      (ap BadVersion (sym (number_of_text 2 bytes)))

  cycles_same : (bytes : List ℕ) → cycles_at all bytes ≡ reading cycles_fields all bytes
  unfolding cycles_at cycles_fields
  cycles_same bytes =
      same_then _ _ all _ _ _ (field_same 1 all _ bytes) (λ a.
      same_then _ _ all _ _ _ (field_same 1 all _ a.1) (λ b.
      same_then _ _ all _ _ _ (field_same 1 all _ b.1) (λ c.
      same_then _ _ all _ _ _ (field_same 1 all _ c.1) (λ d.
      same_then _ _ all _ _ _ (field_same 1 all _ d.1) (λ e. refl)))))

  window_same : (p : Profile) (bytes : List ℕ) → window_at all p bytes ≡ reading (window_fields p) all bytes
  unfolding window_at window_fields
  window_same p bytes =
      same_then _ _ all _ _ _ (field_same 4 all _ bytes) (λ period.
      same_then _ _ all _ _ _ (field_same 4 all _ period.1) (λ opens.
      same_then _ _ all _ _ _ (field_same 4 all _ opens.1) (λ closes. refl)))

  profile_same : (bytes : List ℕ) → profile_at all bytes ≡ reading profile_fields all bytes
  unfolding profile_at profile_fields
  profile_same bytes =
      same_then _ _ all _ _ _ (version_same bytes)
      (λ v. same_then _ _ all _ _ _ (cycles_same v.1) (λ c. by_version (eqb v.0 1) c))
    where
      by_version : (b : Bool) (c : Profile × List ℕ)
          → cond b (Ok c) (window_at all c.0 c.1) ≡ reading (cond b (NoField c.0) (window_fields c.0)) all c.1
      by_version true c = refl
      by_version false c = window_same c.0 c.1

  bank_same : (before : List BankSpec) (bytes : List ℕ)
      → bank_at all before bytes ≡ reading (bank_fields before) all bytes
  unfolding bank_at bank_fields
  bank_same before bytes =
      same_then _ _ all _ _ _ (field_same 4 all _ bytes)
      (λ a. same_then _ _ all _ _ _ (field_same 4 all _ a.1) (λ b. refl))

  -- symbols

  name_same : (before : List Symbol) (bytes : List ℕ)
      → name_at all before bytes ≡ reading (name_fields before) all bytes
  unfolding name_at name_bytes_at name_fields
  name_same before bytes = same_then _ _ all _ _ _ (field_same 1 all _ bytes) (λ n. refl)

  symbol_same : (w : ℕ) (banks : List BankSpec) (before : List Symbol) (bytes : List ℕ)
      → symbol_at w banks all before bytes ≡ reading (symbol_fields w banks before) all bytes
  unfolding symbol_at symbol_fields
  symbol_same w banks before bytes =
      same_then _ _ all _ _ _ (name_same before bytes) (λ a.
      same_then _ _ all _ _ _ (field_same 1 all _ a.1) (λ b.
      same_then _ _ all _ _ _ (field_same 1 all _ b.1) (λ c.
      same_then _ _ all _ _ _ (field_same 1 all _ c.1) (λ d.
      same_then _ _ all _ _ _ (field_same 4 all _ d.1) (λ e.
      same_then _ _ all _ _ _ (field_same 2 all _ e.1) (λ f.
      same_then _ _ all _ _ _ (field_same 4 all _ f.1) (λ g. refl)))))))

  -- notes and instructions

  note_same : (banks : ℕ) (before : List Note) (bytes : List ℕ)
      → note_at banks all before bytes ≡ reading (note_fields banks before) all bytes
  unfolding note_at slots_at note_fields
  note_same banks before bytes =
      same_then _ _ all _ _ _ (field_same 4 all _ bytes) (λ a.
      same_then _ _ all _ _ _ (any_same 4 all a.1) (λ b.
      same_then _ _ all _ _ _
      (items_same all _ _ (λ earlier rest. field_same 1 all (is_slot_claim banks) rest) 8 [] b.1) (λ c. refl)))

  kind_then : {Y : Type 0} (bytes : List ℕ) (l : Kind × List ℕ → Read Y) (others : Kind → Fields Y)
      → ((x : Kind × List ℕ) → l x ≡ reading (others x.0) all x.1) → (kind_at all bytes >>= l)
      ≡ reading (followed (number_field 1 (λ n. is_some (kind_named n)))
      (λ opcode. others (unwrap_or (kind_named opcode) Nop))) all bytes
  unfolding kind_at
  kind_then bytes l others next =
      by_opcode (number_at 1 all bytes)
      ∙ ap (λ t. t >>= (λ x. reading (others (unwrap_or (kind_named x.0) Nop)) all x.1))
      (number_same Place 1 all (λ n. is_some (kind_named n)) bytes (λ n. BadField (place all bytes)) refl)
      ∙ sym (reading-followed _ _ all bytes)
    where
      by_kind : (x : ℕ × List ℕ) (kind : Option Kind) → kind_named x.0 ≡ kind → (known (place all bytes) x.1 kind >>= l)
          ≡ ((cond (is_some kind) (Ok x) (Err (BadField (place all bytes))))
          >>= (λ y. reading (others (unwrap_or (kind_named y.0) Nop)) all y.1))
      by_kind x None e = refl
      by_kind x (Some kind) e = next (kind, x.1) ∙ ap (λ k. reading (others (unwrap_or k Nop)) all x.1) (sym e)

      by_opcode : (r : Read ℕ) → ((r >>= (λ opcode. known (place all bytes) opcode.1 (kind_named opcode.0))) >>= l)
          ≡ ((r >>= (λ x. cond (is_some (kind_named x.0)) (Ok x) (Err (BadField (place all bytes)))))
          >>= (λ y. reading (others (unwrap_or (kind_named y.0) Nop)) all y.1))
      by_opcode (Ok x) = by_kind x (kind_named x.0) refl
      by_opcode (Err e) = refl

  instruction_same : (banks : ℕ) (bytes : List ℕ)
      → instruction_at banks all bytes ≡ reading (instruction_fields banks) all bytes
  unfolding instruction_at instruction_fields operand_fields
  instruction_same banks bytes =
      kind_then bytes _ (operand_fields banks) (λ kind.
      same_then _ _ all _ _ _ (field_same 1 all _ kind.1) (λ a.
      same_then _ _ all _ _ _ (field_same 1 all _ a.1) (λ b.
      same_then _ _ all _ _ _ (field_same 1 all _ b.1) (λ c.
      same_then _ _ all _ _ _ (field_same 4 all _ c.1) (λ d.
      same_then _ _ all _ _ _ (field_same 8 all _ d.1) (λ e. refl))))))

  -- the whole file

  -- reading an object is reading its fields
  pub parts_same : (bytes : List ℕ) → parts_at all bytes ≡ reading object_fields all bytes
  unfolding parts_at banks_at symbols_at notes_at code_at object_fields
  parts_same bytes =
      magic_then bytes _ _ (λ n rest.
      same_then _ _ all _ _ _ (profile_same rest) (λ p.
      same_then _ _ all _ _ _ (list_same 1 all _ _ _ bank_same p.1) (λ bs.
      same_then _ _ all _ _ _ (list_same 2 all _ _ _ (symbol_same _ bs.0) bs.1) (λ ss.
      same_then _ _ all _ _ _ (list_same 4 all _ _ _ (note_same (length bs.0)) ss.1) (λ ns.
      same_then _ _ all _ _ _
      (list_same 4 all _ _ _ (λ before. instruction_same (length bs.0)) ns.1) (λ code. refl))))))
