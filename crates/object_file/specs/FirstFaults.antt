-- The first error of a file, as people read it. (This project's profile.)
use Rattle.std.specs.Prelude.{◌≡◌, ℕ, ◌+◌, ◌<◌, ◌≤◌, true, false, List, [], ◌++◌, length, take, drop, Result, Err}
use Rattle.byteorder.specs.Endian.{little_number}
use Rattle.lt_isa.specs.Object.{Parts}
use Rattle.lt_isa.specs.Ranges.{IsInRange}
use Rattle.object_file.specs.declared.errors.DecodeError.{DecodeError}
use Rattle.object_file.specs.declared.errors.DecodeError.TheVariants.{Truncated, BadMagic, BadVersion, BadField, TrailingBytes, Memory}
use Rattle.object_file.specs.Spelling.{spelling}
use Rattle.object_file.specs.Fields.{Telling, NoObject, Version, Place, Field, Fields, FieldThen, object_fields}

-- The bytes fill the first of some fields with allowed contents, and these fields are left.
pub data Fills {X : Type 0} (fields : Fields X) : List ℕ → Fields X → Type 0 where
  Nothing : Fills fields [] fields
  OneMore : (front text : List ℕ)
      → (field : Field) → (next : List ℕ → Fields X) → Fills fields front (FieldThen field next)
      → length text ≡ field.size → field.allowed text ≡ true → Fills fields (front ++ text) (next text)

-- A field begins at a place of the file, and everything before it is allowed.
pub record FieldBegins (bytes : List ℕ) (place : ℕ) : Type 0 where
  pub field : Field
  pub next : List ℕ → Fields Parts
  pub inside : place ≤ length bytes
  pub before : Fills object_fields (take place bytes) (FieldThen field next)

-- The file ends within the field that begins at a place.
-- Rule: object/truncated.
pub record IsCutShort (bytes : List ℕ) (place : ℕ) : Type 0 where
  pub begins : FieldBegins bytes place
  pub short : length bytes < place + begins.field.size

-- what is reported of a field that isn't allowed, by its place and its contents
abbrev pub told : Telling → ℕ → List ℕ → DecodeError
told NoObject place text = BadMagic
told Version place text = BadVersion (little_number 2 text)
told Place place text = BadField place

-- A field is complete and isn't allowed, and the error reports it.
-- Rule: object/field.
pub record IsRefused (bytes : List ℕ) (fault : DecodeError) : Type 0 where
  pub place : ℕ
  pub begins : FieldBegins bytes place
  pub whole : place + begins.field.size ≤ length bytes
  pub refused : begins.field.allowed (take begins.field.size (drop place bytes)) ≡ false
  pub telling : fault ≡ told begins.field.telling place (take begins.field.size (drop place bytes))

-- the place of the first byte after a field that isn't allowed
abbrev pub end_of_field : {bytes : List ℕ} {fault : DecodeError} → IsRefused bytes fault → ℕ
end_of_field field = field.place + field.begins.field.size

-- The first p bytes encode an object, and more follow.
-- Rule: object/trailing.
pub record HasMore (bytes : List ℕ) (p : ℕ) : Type 0 where
  pub object : Parts
  pub in_range : IsInRange object
  pub front : take p bytes ≡ spelling object
  pub more : p < length bytes

-- The first error of a file: it ends within a field, bytes follow an object, or a field isn't allowed.
abbrev pub IsFirstObjectFault : List ℕ → DecodeError → Type 0
IsFirstObjectFault bytes (Truncated place) = IsCutShort bytes place
IsFirstObjectFault bytes (TrailingBytes place) = HasMore bytes place
IsFirstObjectFault bytes BadMagic = IsRefused bytes BadMagic
IsFirstObjectFault bytes (BadVersion version) = IsRefused bytes (BadVersion version)
IsFirstObjectFault bytes (BadField place) = IsRefused bytes (BadField place)
IsFirstObjectFault bytes Memory = ⊥

-- a file that ends too early, at any place
pub record IsTruncated (file : Result Parts DecodeError) : Type 0 where
  pub at : ℕ
  pub fault : file ≡ Err (Truncated at)
