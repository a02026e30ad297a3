-- Files in which `-` is a stream: look-ups, writes, and what a write leaves.
use Rattle.std.proofs.Common.{◌≡◌, ℕ, Bool, true, false, cond, List, Option, Some, None, refl, sym, ap, ◌∙◌}
use Rattle.std.specs.Option.{option_map}
use Rattle.std.proofs.lemmas.Bool.{both_ways}
use Rattle.std.proofs.lemmas.Option.{none-some, same_Some}
use Rattle.std.specs.Ordering.{nat_cmp, eq_by_cmp}
use Rattle.std.specs.Cmp.Lexicographic.{slice_cmp, texts_ties, nat_list_cmp_total}
use Rattle.std.specs.FinMap.{get, remove, same_map, get-insert, get-remove, slice_cmp-IsAntisymmetric, nat_cmp-IsAntisymmetric}
use Rattle.std.specs.Str.{bytes_eq}
use Rattle.std.proofs.lemmas.Slice.Eq.{bytes_eq-Decides}
use Rattle.gr_outside.specs.Prelude.{Files, with_file, front_of, SameBut}
use Rattle.std.specs.Prelude.{IfSome, MatchOption, take}
use Rattle.ghost_front.specs.Prelude.{dash, overlaid}

-- whether two names are one, as the map compares them
abbrev is_one : List ℕ → List ℕ → Bool
is_one a b = eq_by_cmp (slice_cmp nat_cmp) a b

-- a look-up in the overlaid files
pub get-overlaid : (own : Option (List ℕ)) (files : Files) (q : List ℕ)
    → get (overlaid own files) q ≡ cond (is_one q dash) own (get files q)
get-overlaid (Some bytes) files q = get-insert nat_list_cmp_total files dash bytes q
get-overlaid None files q = get-remove nat_list_cmp_total files dash q

same_files : (one two : Files) → ((q : List ℕ) → get one q ≡ get two q) → one ≡ two
same_files one two same =
    same_map nat_list_cmp_total (slice_cmp-IsAntisymmetric nat_cmp-IsAntisymmetric) one two same

pub get_dash : (own : Option (List ℕ)) (files : Files) → get (overlaid own files) dash ≡ own
get_dash own files = get-overlaid own files dash

pub get_other : (own : Option (List ℕ)) (files : Files) (name : List ℕ)
    → bytes_eq name dash ≡ false → get (overlaid own files) name ≡ get files name
get_other own files name other =
    get-overlaid own files name
    ∙ ap (λ b. cond b own (get files name)) (sym (texts_ties name dash) ∙ other)

covered : (same : Bool) (there own : Option (List ℕ)) (bytes : List ℕ)
    → cond same (Some bytes) (cond same own there) ≡ cond same (Some bytes) there
covered true there own bytes = refl
covered false there own bytes = refl

-- `-` written again
pub overlaid_again : (own : Option (List ℕ)) (bytes : List ℕ) (files : Files)
    → with_file dash bytes (overlaid own files) ≡ overlaid (Some bytes) files
overlaid_again own bytes files =
    same_files _ _ (λ q. get-insert nat_list_cmp_total (overlaid own files) dash bytes q
    ∙ ap (cond (is_one q dash) (Some bytes)) (get-overlaid own files q)
    ∙ covered (is_one q dash) (get files q) own bytes
    ∙ sym (get-insert nat_list_cmp_total files dash bytes q))

bare : (same : Bool) (there own : Option (List ℕ)) → cond same None (cond same own there) ≡ cond same None there
bare true there own = refl
bare false there own = refl

-- without `-` they are the files without `-`
pub removed_dash : (own : Option (List ℕ)) (files : Files) → remove (overlaid own files) dash ≡ remove files dash
removed_dash own files =
    same_files _ _ (λ q. get-remove nat_list_cmp_total (overlaid own files) dash q
    ∙ ap (cond (is_one q dash) None) (get-overlaid own files q)
    ∙ bare (is_one q dash) (get files q) own
    ∙ sym (get-remove nat_list_cmp_total files dash q))

-- no name is that of another file and `-`
apart : (q name : List ℕ) → bytes_eq name dash ≡ false → is_one q dash ≡ true → is_one q name ≡ true → ⊥
apart q name other streams named =
    let is_dash : q ≡ dash = (bytes_eq-Decides q dash).0 (texts_ties q dash ∙ streams) in
    let is_name : q ≡ name = (bytes_eq-Decides q name).0 (texts_ties q name ∙ named) in
    both_ways (bytes_eq name dash) other ((bytes_eq-Decides name dash).1 (sym is_name ∙ is_dash))

order : (a b : Bool) → (a ≡ true → b ≡ true → ⊥) → (own new there : Option (List ℕ))
    → cond a own (cond b new there) ≡ cond b new (cond a own there)
order true true both own new there = absurd (both refl refl)
order true false both own new there = refl
order false b both own new there = refl

-- another file written below
pub swapped : (own : Option (List ℕ)) (name bytes : List ℕ) (files : Files) → bytes_eq name dash ≡ false
    → overlaid own (with_file name bytes files) ≡ with_file name bytes (overlaid own files)
swapped own name bytes files other =
    same_files _ _ (λ q. get-overlaid own (with_file name bytes files) q
    ∙ ap (cond (is_one q dash) own) (get-insert nat_list_cmp_total files name bytes q)
    ∙ order (is_one q dash) (is_one q name) (apart q name other) own (Some bytes) (get files q)
    ∙ sym (ap (cond (is_one q name) (Some bytes)) (get-overlaid own files q))
    ∙ sym (get-insert nat_list_cmp_total (overlaid own files) name bytes q))

-- another file removed below
removed_other : (own : Option (List ℕ)) (name : List ℕ) (files : Files) → bytes_eq name dash ≡ false
    → remove (overlaid own files) name ≡ overlaid own (remove files name)
removed_other own name files other =
    same_files _ _ (λ q. get-remove nat_list_cmp_total (overlaid own files) name q
    ∙ ap (cond (is_one q name) None) (get-overlaid own files q)
    ∙ sym (order (is_one q dash) (is_one q name) (apart q name other) own None (get files q))
    ∙ sym (ap (cond (is_one q dash) own) (get-remove nat_list_cmp_total files name q))
    ∙ sym (get-overlaid own (remove files name) q))

-- all but one other file are as before, with `-` over them too
pub same_but : (own : Option (List ℕ)) (name : List ℕ) (before after : Option Files) → bytes_eq name dash ≡ false
    → SameBut name before after → SameBut name (option_map (overlaid own) before) (option_map (overlaid own) after)
same_but own name None None other same = refl
same_but own name None (Some after) other same = absurd (none-some _ (sym same))
same_but own name (Some before) None other same = absurd (none-some _ same)
same_but own name (Some before) (Some after) other same =
    ap Some (removed_other own name after other
    ∙ ap (overlaid own) (same_Some _ _ same)
    ∙ sym (removed_other own name before other))

-- a look-up of `-`
pub front_dash : (own : Option (List ℕ)) (below : Option Files) (most : ℕ) (bytes : List ℕ)
    → option_map (take most) own ≡ Some bytes
    → IfSome (option_map (overlaid own) below) (λ all. front_of all dash most ≡ Some bytes)
front_dash own None most bytes found = tt
front_dash own (Some files) most bytes found = ap (option_map (take most)) (get_dash own files) ∙ found

pub missing_dash : (own : Option (List ℕ)) (below : Option Files) → own ≡ None
    → IfSome (option_map (overlaid own) below) (λ all. get all dash ≡ None)
missing_dash own None missing = tt
missing_dash own (Some files) missing = get_dash own files ∙ missing

-- a look-up of another file
pub front_other : (own : Option (List ℕ)) (below : Option Files) (name : List ℕ) (most : ℕ) (bytes : List ℕ)
    → bytes_eq name dash ≡ false → IfSome below (λ all. front_of all name most ≡ Some bytes)
    → IfSome (option_map (overlaid own) below) (λ all. front_of all name most ≡ Some bytes)
front_other own None name most bytes other found = tt
front_other own (Some files) name most bytes other found =
    ap (option_map (take most)) (get_other own files name other) ∙ found

pub missing_other : (own : Option (List ℕ)) (below : Option Files) (name : List ℕ)
    → bytes_eq name dash ≡ false → IfSome below (λ all. get all name ≡ None)
    → IfSome (option_map (overlaid own) below) (λ all. get all name ≡ None)
missing_other own None name other missing = tt
missing_other own (Some files) name other missing = get_other own files name other ∙ missing

-- a file that is missing, if the files are told
pub missing_if_told : (below : Option Files) (name : List ℕ) (P : Type 0)
    → MatchOption below P (λ all. get all name ≡ None) → IfSome below (λ all. get all name ≡ None)
missing_if_told None name P missing = tt
missing_if_told (Some files) name P missing = missing

-- a write of `-`
pub written_dash : (own : Option (List ℕ)) (below : Option Files) (bytes : List ℕ)
    → option_map (overlaid (Some bytes)) below ≡ option_map (with_file dash bytes) (option_map (overlaid own) below)
written_dash own None bytes = refl
written_dash own (Some files) bytes = ap Some (sym (overlaid_again own bytes files))

pub others_dash : (own now : Option (List ℕ)) (below : Option Files)
    → SameBut dash (option_map (overlaid own) below) (option_map (overlaid now) below)
others_dash own now None = refl
others_dash own now (Some files) = ap Some (removed_dash now files ∙ sym (removed_dash own files))

-- a write of another file
pub written_other : (own : Option (List ℕ)) (below : Option Files) (name bytes : List ℕ) → bytes_eq name dash ≡ false
    → option_map (overlaid own) (option_map (with_file name bytes) below)
    ≡ option_map (with_file name bytes) (option_map (overlaid own) below)
written_other own None name bytes other = refl
written_other own (Some files) name bytes other = ap Some (swapped own name bytes files other)

pub others_other : (own : Option (List ℕ)) (name : List ℕ) (before after : Option Files) → bytes_eq name dash ≡ false
    → SameBut name before after → SameBut name (option_map (overlaid own) before) (option_map (overlaid own) after)
others_other = same_but

pub named_dash : (name : List ℕ) → bytes_eq name dash ≡ true → name ≡ dash
named_dash name same = (bytes_eq-Decides name dash).0 same

-- a file that has neither the name nor `-`
seen_below : (own : Option (List ℕ)) (name q : List ℕ) (files : Files)
    → bytes_eq q dash ≡ false → bytes_eq q name ≡ false → get (remove (overlaid own files) name) q ≡ get files q
seen_below own name q files streams other =
    get-remove nat_list_cmp_total (overlaid own files) name q
    ∙ ap (λ b. cond b None (get (overlaid own files) q)) (sym (texts_ties q name) ∙ other)
    ∙ get_other own files q streams

-- What the top call promises of the files with `-` over them, it promises of the files below: where all but one name are
-- as before, so is each file below that has neither that name nor `-`.
pub kept_below : (own now : Option (List ℕ)) (name q : List ℕ) (before after : Files)
    → bytes_eq q dash ≡ false → bytes_eq q name ≡ false
    → SameBut name (Some (overlaid own before)) (Some (overlaid now after)) → get after q ≡ get before q
kept_below own now name q before after streams other same =
    sym (seen_below now name q after streams other)
    ∙ ap (λ files. get files q) (same_Some _ _ same)
    ∙ seen_below own name q before streams other
