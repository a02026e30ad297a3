-- A list of files and its map: look-ups, a file that is replaced, a file that is added.
use Rattle.std.proofs.Common.{◌≡◌, ℕ, ◌<◌, Bool, true, false, cond, nat_lt, length, List, [], ◌∷◌, ◌++◌, map, get_or, set, Some, None, refl, sym, ap, ◌∙◌, subst}
use Rattle.std.proofs.lemmas.Bool.{ltb-true, ltb-false}
use Rattle.std.proofs.lemmas.Option.{cond_some, slice_get-get_or, slice_get_past, none-some}
use Rattle.std.proofs.lemmas.List.{map-append}
use Rattle.std.proofs.lemmas.List.Folds.{find_at, find-set, find_past}
use Rattle.std.proofs.lemmas.List.Sums.{passes_at_first}
use Rattle.std.specs.List.{find, position, position_or_len}
use Rattle.std.specs.Option.{option_map}
use Rattle.std.specs.Ordering.{nat_cmp, eq_by_cmp}
use Rattle.std.specs.Cmp.Lexicographic.{slice_cmp, texts_ties, nat_list_cmp_total}
use Rattle.std.specs.FinMap.{get, from_entries, same_map, get-from_entries, get-insert, from_entries_push, slice_cmp-IsAntisymmetric, nat_cmp-IsAntisymmetric}
use Rattle.std.specs.Str.{bytes_eq}
use Rattle.std.proofs.lemmas.Slice.Eq.{bytes_eq-Decides}
use Rattle.gr_outside.specs.declared.files.File.{File}
use Rattle.gr_outside.specs.Prelude.{with_file, entry_of, files_of, is_named}
use Rattle.std.specs.FinMap.Entries as entries

-- the contents of a file
abbrev contents : File → List ℕ
contents file = file.bytes.items

find-entries : (name : List ℕ) (files : List File)
    → entries.find (slice_cmp nat_cmp) name (map entry_of files) ≡ option_map contents (find (is_named name) files)
find-entries name [] = refl
find-entries name (file ∷ files) =
    rw (← texts_ties name file.name.items)
    (elim (bytes_eq name file.name.items) as (λ b.
    cond b (Some (contents file)) (entries.find (slice_cmp nat_cmp) name (map entry_of files))
    ≡ option_map contents (cond b (Some file) (find (is_named name) files))) [
      | true ↦ refl
      | false ↦ find-entries name files
    ])

pub get-files_of : (name : List ℕ) (files : List File)
    → get (files_of files) name ≡ option_map contents (find (is_named name) files)
get-files_of name files = get-from_entries nat_list_cmp_total (map entry_of files) name ∙ find-entries name files

-- the place at which a test first passes
found_place : (test : File → Bool) (files : List File) (place : ℕ)
    → Some place ≡ position test files → (place < length files) × (place ≡ position_or_len test files)
found_place test files place found =
    let parts =
    cond_some (nat_lt (position_or_len test files) (length files)) (position_or_len test files) place (sym found) in
    let within = ltb-true _ _ parts.0 in
    (rw (← parts.1) within, sym parts.1)

find_found : (test : File → Bool) (files : List File) (place : ℕ) (d : File)
    → Some place ≡ position test files → find test files ≡ Some (get_or files place d)
find_found test files place d found =
    let parts = found_place test files place found in
    find_at test files ∙ rw (← parts.1) (slice_get-get_or files place d parts.0)

nowhere : (b : Bool) (n : ℕ) → None ≡ cond b (Some n) None → b ≡ false
nowhere true n e = absurd (none-some n e)
nowhere false n e = refl

find_nowhere : (test : File → Bool) (files : List File) → None ≡ position test files → find test files ≡ None
find_nowhere test files missing =
    find_at test files ∙ slice_get_past files (position_or_len test files) (ltb-false _ _ (nowhere _ _ missing))

-- the file at the place of its name is the one that the map has
pub get_found : (name : List ℕ) (files : List File) (place : ℕ) (d : File)
    → Some place ≡ position (is_named name) files → get (files_of files) name ≡ Some (contents (get_or files place d))
get_found name files place d found =
    get-files_of name files ∙ ap (option_map contents) (find_found (is_named name) files place d found)

-- the map has nothing under a name that no file has
pub get_missing : (name : List ℕ) (files : List File)
    → None ≡ position (is_named name) files → get (files_of files) name ≡ None
get_missing name files missing =
    get-files_of name files ∙ ap (option_map contents) (find_nowhere (is_named name) files missing)

same_name : (name : List ℕ) (file : File) → is_named name file ≡ true → name ≡ file.name.items
same_name name file named = (bytes_eq-Decides name file.name.items).0 named

-- the file at the place of a name has that name
pub found_named : (name : List ℕ) (files : List File) (place : ℕ) (d : File)
    → Some place ≡ position (is_named name) files → is_named name (get_or files place d) ≡ true
found_named name files place d found =
    let parts = found_place (is_named name) files place found in
    rw parts.1 (passes_at_first (is_named name) files d (rw (← parts.1) parts.0))

find-replaced : (name q : List ℕ) (files : List File) (place : ℕ) (file : File)
    → Some place ≡ position (is_named name) files → is_named name file ≡ true → (b : Bool) → bytes_eq q name ≡ b
    → option_map contents (find (is_named q) (set files place file))
    ≡ cond b (Some (contents file)) (option_map contents (find (is_named q) files))
find-replaced name q files place file found named true same =
    let parts = found_place (is_named name) files place found in
    let is : name ≡ q = sym ((bytes_eq-Decides q name).0 same) in
    ap (option_map contents)
    (find-set (is_named q) files place file (subst (λ n. place ≡ position_or_len (is_named n) files) is parts.1) parts.0
    (subst (λ n. is_named n file ≡ true) is named))
find-replaced name q files place file found named false other =
    let there = same_name name (get_or files place file) (found_named name files place file found) in
    let new = same_name name file named in
    ap (option_map contents)
    (find_past (is_named q) files place file file
    (subst (λ (n : List ℕ). bytes_eq q n ≡ false) there other)
    (subst (λ (n : List ℕ). bytes_eq q n ≡ false) new other))

-- a file with the same name replaces the one that is found
pub files_of-replaced : (name : List ℕ) (files : List File) (place : ℕ) (file : File)
    → Some place ≡ position (is_named name) files → is_named name file ≡ true
    → files_of (set files place file) ≡ with_file name (contents file) (files_of files)
files_of-replaced name files place file found named =
    same_map nat_list_cmp_total (slice_cmp-IsAntisymmetric nat_cmp-IsAntisymmetric) _ _
    (λ q. get-files_of q (set files place file)
    ∙ find-replaced name q files place file found named (bytes_eq q name) refl
    ∙ ap (λ b. cond b (Some (contents file)) (option_map contents (find (is_named q) files))) (texts_ties q name)
    ∙ ap (cond (eq_by_cmp (slice_cmp nat_cmp) q name) (Some (contents file))) (sym (get-files_of q files))
    ∙ sym (get-insert nat_list_cmp_total (files_of files) name (contents file) q))

-- a file with a new name is added at the end
pub files_of-added : (files : List File) (file : File) → None ≡ position (is_named file.name.items) files
    → files_of (files ++ file ∷ []) ≡ with_file file.name.items (contents file) (files_of files)
files_of-added files file missing =
    let name = file.name.items in
    ap from_entries (map-append entry_of files (file ∷ []))
    ∙ from_entries_push nat_list_cmp_total (slice_cmp-IsAntisymmetric nat_cmp-IsAntisymmetric) (map entry_of files) name
    (contents file)
    (find-entries name files ∙ ap (option_map contents) (find_nowhere (is_named name) files missing))
