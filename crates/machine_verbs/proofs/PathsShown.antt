-- What a run over banks shows, in the form that computes it, is what the relation says.
use Rattle.std.proofs.Common.{◌≡◌, ◌≢◌, ℕ, suc, ◌+◌, ◌≤◌, Bool, true, false, cond, List, [], ◌∷◌, length, length-drop, map, drop, get_or, refl, sym, ap, ◌∙◌, arith}
use Rattle.std.specs.Prelude.{◌==◌, ◌^◌, ◌%◌, slice_index}
use Rattle.std.proofs.lemmas.Bool.{eqb-true}
use Rattle.std.proofs.lemmas.List.{length-map, nil_from_length}
use Rattle.lt_isa.specs.Prelude.{Observed, RamRead, RamWrite, EncRead, EncWrite, Oram, Halted, Stamped, seen_at}
use Rattle.banks.specs.declared.bank.Leaves.{Leaves}
use Rattle.banks.specs.Prelude.{no_leaves, one_leaf, accesses_shown}
use Rattle.processor.specs.Prelude.{WatcherTold, AnEvent, with_paths}
use Rattle.path_oram.specs.Prelude.{leaves_shown, words_read}
use Rattle.path_oram.proofs.ShownAlike.{read_length}
use Rattle.recursive_oram.specs.Prelude.{Size, leaves_read_after, rec_leaves, words_made}
use Rattle.call_steps.specs.Prelude.{AnAccess, NoAccess, NoMore, ShowsPaths, paths_of_bank}

-- ---- the order of events and paths

plain : (stamp : ℕ) (e : Observed) (events : List Stamped) (shown : List WatcherTold)
    → ((bank : ℕ) → e ≢ Oram bank) → ShowsPaths events shown
    → ShowsPaths (seen_at stamp e ∷ events) (AnEvent (seen_at stamp e) ∷ shown)
plain stamp e events shown other rest = NoAccess (seen_at stamp e) events shown other rest

-- each access is followed by its paths
pub shows-with_paths : (events : List Stamped) (paths : ℕ → List Leaves) → ShowsPaths events (with_paths events paths)
shows-with_paths [] paths = NoMore
shows-with_paths (event ∷ events) paths = first event.stamp event.event paths (λ left. shows-with_paths events left)
  where
    first : (stamp : ℕ) (e : Observed) (paths : ℕ → List Leaves)
        → ((left : ℕ → List Leaves) → ShowsPaths events (with_paths events left))
        → ShowsPaths (seen_at stamp e ∷ events) (with_paths (seen_at stamp e ∷ events) paths)
    first stamp (Oram bank) paths rest = AnAccess stamp bank _ events _ (rest _)
    first stamp Halted paths rest = plain stamp Halted events _ (λ bank is. absurd cc) (rest _)
    first stamp (RamRead block words) paths rest =
        plain stamp (RamRead block words) events _ (λ bank is. absurd cc) (rest _)
    first stamp (RamWrite block words) paths rest =
        plain stamp (RamWrite block words) events _ (λ bank is. absurd cc) (rest _)
    first stamp (EncRead block) paths rest = plain stamp (EncRead block) events _ (λ bank is. absurd cc) (rest _)
    first stamp (EncWrite block) paths rest = plain stamp (EncWrite block) events _ (λ bank is. absurd cc) (rest _)

-- ---- the paths of one bank

-- a list that isn't empty, from its first item on
from_first : (paths : List Leaves) → 1 ≤ length paths → get_or paths 0 no_leaves ∷ drop 1 paths ≡ paths
from_first [] some = absurd (omega arith)
from_first (leaves ∷ paths) some = refl

-- an access to a bank, whether it is this one or another
one_access : (b bank : ℕ) (events : List Stamped) (paths : ℕ → List Leaves) (mine : List Leaves)
    → (is : Bool) → (b == bank) ≡ is
    → length (paths b) ≡ cond is 1 0 + accesses_shown b events
    → (length (cond is (drop 1 (paths b)) (paths b)) ≡ accesses_shown b events
    → mine ≡ cond is (drop 1 (paths b)) (paths b))
    → cond is (get_or (paths bank) 0 no_leaves ∷ mine) mine ≡ paths b
one_access b bank events paths mine true same counted rest =
    let some : 1 ≤ length (paths b) = omega (arith, counted) in
    ap (λ l. get_or (paths bank) 0 no_leaves ∷ l) (rest (omega (arith, length-drop 1 (paths b), counted)))
    ∙ ap (λ n. get_or (paths n) 0 no_leaves ∷ drop 1 (paths b)) (sym (eqb-true b bank same))
    ∙ from_first (paths b) some
one_access b bank events paths mine false same counted rest = rest (omega (arith, counted))

-- a bank that has a path for each of its accesses shows these
pub paths-with_paths : (b : ℕ) (events : List Stamped) (paths : ℕ → List Leaves)
    → length (paths b) ≡ accesses_shown b events → paths_of_bank b (with_paths events paths) ≡ paths b
paths-with_paths b [] paths counted = sym (nil_from_length (paths b) counted)
paths-with_paths b (event ∷ events) paths counted =
    first event.stamp event.event counted (λ left enough. paths-with_paths b events left enough)
  where
    first : (stamp : ℕ) (e : Observed) → length (paths b) ≡ accesses_shown b (seen_at stamp e ∷ events)
        → ((left : ℕ → List Leaves) → length (left b) ≡ accesses_shown b events
        → paths_of_bank b (with_paths events left) ≡ left b)
        → paths_of_bank b (with_paths (seen_at stamp e ∷ events) paths) ≡ paths b
    first stamp (Oram bank) counted rest =
        one_access b bank events paths _ (b == bank) refl counted (λ enough. rest _ enough)
    first stamp Halted counted rest = rest paths (omega (arith, counted))
    first stamp (RamRead block words) counted rest = rest paths (omega (arith, counted))
    first stamp (RamWrite block words) counted rest = rest paths (omega (arith, counted))
    first stamp (EncRead block) counted rest = rest paths (omega (arith, counted))
    first stamp (EncWrite block) counted rest = rest paths (omega (arith, counted))

-- ---- how many paths there are

pub leaf-count : (count height : ℕ) (words blocks : List ℕ)
    → length (map one_leaf (leaves_shown count height words blocks)) ≡ length blocks
leaf-count count height words blocks =
    length-map (leaves_shown count height words blocks) one_leaf
    ∙ length-map (words_read count blocks) (λ number. slice_index words number % 2 ^ height) ∙ read_length count blocks

pub rec-leaf-count : (words : List ℕ) (sizes : List Size) (blocks : List ℕ)
    → length (rec_leaves words sizes blocks) ≡ length blocks
rec-leaf-count words sizes blocks = after [] blocks
  where
    after : (earlier blocks : List ℕ)
        → length (leaves_read_after (words_made sizes) (length sizes) words sizes earlier blocks) ≡ length blocks
    after earlier [] = refl
    after earlier (block ∷ blocks) = ap suc (after (block ∷ earlier) blocks)
