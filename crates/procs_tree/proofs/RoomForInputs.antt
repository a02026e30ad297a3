-- Inputs that fit what a program wants give it room.
use Rattle.std.proofs.Common.{◌≡◌, ℕ, zero, suc, ◌+◌, ◌-◌, ◌<◌, ◌≤◌, List, [], ◌∷◌, ◌++◌, length, get_or, None, refl, ap, ◌∙◌, arith}
use Rattle.std.proofs.lemmas.List.{length-append, get_or-append-add}
use Rattle.gr_word.specs.declared.variables.Label.{Label}
use Rattle.gr_word.specs.Prelude.{FitsWants}
use Rattle.src_tree.specs.declared.trees.Decl.{Decl}
use Rattle.src_tree.specs.Prelude.{words_of, Store}
use Rattle.flow_types.specs.Prelude.{declared_wants}
use Rattle.procs_tree.specs.Prelude.{File, added, inlined_body, inlined_file, HasNewWords}
use Rattle.procs_tree.proofs.NewNames.{added_long}
use Rattle.gr_word.specs.declared.variables.Label.TheVariants as label

fits_long : (ds : List Decl) (store : Store) → FitsWants (declared_wants ds) store → length store ≡ length ds
fits_long [] [] h = refl
fits_long [] (w ∷ ws) h = absurd h
fits_long (d ∷ ds) [] h = absurd h
fits_long (d ∷ ds) (w ∷ ws) h = let r = fits_long ds ws h.2 in omega (arith, r)

fits_at : (ds : List Decl) (store : Store) → FitsWants (declared_wants ds) store → (k : ℕ) (d : Decl) → k < length ds
    → length (get_or store k []) ≡ words_of (get_or ds k d)
fits_at [] store h k d lt = absurd (omega (arith, lt))
fits_at (x ∷ ds) [] h k d lt = absurd h
fits_at (x ∷ ds) (w ∷ ws) h zero d lt = h.0
fits_at (x ∷ ds) (w ∷ ws) h (suc k) d lt = fits_at ds ws h.2 k d (omega (arith, lt))

added_scalar : (next : ℕ) (labels : List Label) (k : ℕ) (d : Decl) → k < length labels
    → words_of (get_or (added next labels) k d) ≡ 1
added_scalar next [] k d lt = absurd (omega (arith, lt))
added_scalar next (label ∷ labels) zero d lt = refl
added_scalar next (label ∷ labels) (suc k) d lt = added_scalar (next + 1) labels k d (omega (arith, lt))

-- a new variable, after the file's own
added_at : (ds : List Decl) (labels : List Label) (k : ℕ) (d : Decl) → length ds ≤ k
    → k < length (ds ++ added 0 labels) → words_of (get_or (ds ++ added 0 labels) k d) ≡ 1
added_at ds labels k d from below =
    let all = length-append ds (added 0 labels) in
    let long = added_long 0 labels in
    let at : k ≡ length ds + (k - length ds) = omega (arith, from) in
    ap (λ n. words_of (get_or (ds ++ added 0 labels) n d)) at
    ∙ (ap words_of (get_or-append-add ds (added 0 labels) (k - length ds) d)
    ∙ added_scalar 0 labels (k - length ds) d (omega (arith, all, long, from, below)))

pub room_for : (f : File) (store : Store) → FitsWants (declared_wants (inlined_file f).decls) store
    → HasNewWords f store
room_for f store h = record {
  long = fits_long (inlined_file f).decls store h;
  scalars = λ k from below.
      fits_at (inlined_file f).decls store h k (record { name = []; label = label.Public; length = None }) below
      ∙ added_at f.decls (inlined_body f).labels k (record { name = []; label = label.Public; length = None }) from
      below;
}
