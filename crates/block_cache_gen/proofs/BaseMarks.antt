-- What the mask of notes between statements marks: every register but those that hold something public for the whole
-- run.
use Rattle.std.proofs.Common.{◌≡◌, ℕ, zero, suc, ◌<◌, ◌≤◌, ◌==◌, Bool, true, false, not, List, Option, Some, None, refl, sym, ap, subst, ◌∙◌, ⊎_elim, arith, w32}
use Rattle.std.specs.Prelude.{if◌then◌else◌}
use Rattle.std.specs.Int.{bit_at, bit_not}
use Rattle.std.proofs.lemmas.Bool.{cases_lt, eq-eqb}
use Rattle.std.proofs.lemmas.Nat.Bits.{bit_at_not, bit_at-zero, bit_at_clear_same, bit_at_clear_other}
use Rattle.gr_word.specs.declared.variables.Label.{Label}
use Rattle.gr_word.specs.declared.variables.Label.TheVariants.{Public, Secret}
use Rattle.src_tree.specs.declared.trees.Decl.{Decl}
use Rattle.src_tree.specs.Prelude.{secret_label}
use Rattle.trace_patterns.specs.Prelude.{is_marked}
use Rattle.held_registers.specs.Prelude.{held_at}
use Rattle.block_cache_gen.specs.Prelude.{Held, Setting, held_label, label_by, all_marked, base_mask, is_public, mask_to, unmarked}

-- a mask without a register marks all others that it did
pub unmarked-same : (mask r : ℕ) → r < 32 → is_marked (unmarked mask r) r ≡ false
unmarked-same mask r inside = ap (λ (n : ℕ). n == 1) (bit_at_clear_same w32 mask r inside)

-- the mark of another register stays
pub unmarked-other : (mask r s : ℕ) → r < 32 → s < 32 → (s ≡ r → ⊥) → is_marked (unmarked mask r) s ≡ is_marked mask s
unmarked-other mask r s inside within apart =
    ap (λ (n : ℕ). n == 1) (bit_at_clear_other w32 mask r inside s within apart)

-- a mask that marks every register
all_bits : (r : ℕ) → r < 32 → bit_at (bit_not w32 0) r ≡ 1
all_bits r inside = omega (arith, bit_at_not w32 0 r (omega arith) inside, bit_at-zero r)

all-marked : (r : ℕ) → r < 32 → is_marked all_marked r ≡ true
all-marked r inside = eq-eqb (bit_at all_marked r) 1 (all_bits r inside)

-- one register more leaves the marks of the others
mark_of_other : (public : Bool) (mask n r : ℕ) → n < 32 → r < 32 → (r ≡ n → ⊥)
    → is_marked (if public then unmarked mask n else mask) r ≡ is_marked mask r
mark_of_other true mask n r low inside apart = unmarked-other mask n r low inside apart
mark_of_other false mask n r low inside apart = refl

mark_of_own : (public : Bool) (mask n : ℕ) → n < 32 → is_marked mask n ≡ true
    → is_marked (if public then unmarked mask n else mask) n ≡ not public
mark_of_own true mask n low so_far = unmarked-same mask n low
mark_of_own false mask n low so_far = so_far

module _ (decls : List Decl) (held : List Held) where
  -- registers that weren't considered are marked
  marks-after : (n r : ℕ) → n ≤ r → r < 32 → is_marked (mask_to decls held n) r ≡ true
  unfolding mask_to
  marks-after zero r above inside = all-marked r inside
  marks-after (suc n) r above inside =
      mark_of_other (is_public (label_by decls (held_at held n))) (mask_to decls held n) n r (omega arith) inside
      (λ e. absurd (omega (arith, e)))
      ∙ marks-after n r (omega arith) inside

  marks-before : (n r : ℕ) → n ≤ 32 → r < n
      → is_marked (mask_to decls held n) r ≡ not (is_public (label_by decls (held_at held r)))
  unfolding mask_to
  marks-before zero r few low = absurd (omega arith)
  marks-before (suc n) r few low =
      ⊎_elim
      (λ (lt : r < n).
      mark_of_other (is_public (label_by decls (held_at held n))) (mask_to decls held n) n r (omega arith) (omega arith)
      (λ e. absurd (omega (arith, e)))
      ∙ marks-before n r (omega arith) lt)
      (λ (le : n ≤ r).
      let same : n ≡ r = omega arith in
      subst (λ (q : ℕ). is_marked (mask_to decls held (suc n)) q ≡ not (is_public (label_by decls (held_at held q))))
      same
      (mark_of_own (is_public (label_by decls (held_at held n))) (mask_to decls held n) n (omega arith)
      (marks-after n n (omega arith) (omega arith))))
      (cases_lt r n)

label_of_mark : (l : Label) → not (is_public (Some l)) ≡ secret_label l
label_of_mark Public = refl
label_of_mark Secret = refl

-- a register with a label for the whole run is marked if that is secret
pub base-held : (f : Setting) (r : ℕ) (l : Label) → r < 32 → held_label f r ≡ Some l
    → is_marked (base_mask f) r ≡ secret_label l
base-held f r l inside is =
    marks-before f.decls f.held 32 r (omega arith) inside ∙ ap (λ (q : Option Label). not (is_public q)) is
    ∙ label_of_mark l

-- a register that isn't marked has the label public
public_only : (q : Option Label) → not (is_public q) ≡ false → q ≡ Some Public
public_only None e = absurd (let g : ◌≡◌ {A = Bool} true false = e in cc)
public_only (Some Public) e = refl
public_only (Some Secret) e = absurd (let g : ◌≡◌ {A = Bool} true false = e in cc)

pub base-public : (f : Setting) (r : ℕ) → r < 32 → is_marked (base_mask f) r ≡ false → held_label f r ≡ Some Public
base-public f r inside unmarks =
    public_only (held_label f r) (sym (marks-before f.decls f.held 32 r (omega arith) inside) ∙ unmarks)
