-- An error of declarations is found at the first declaration that has it, and at no other: one walk for each kind of
-- error.
use Rattle.std.proofs.Common.{◌≡◌, ℕ, ◌+◌, nat_lt, Bool, true, false, not, List, [], ◌∷◌, ◌++◌, length, length-append, Option, Some, None, refl, sym, ap, ◌∙◌, subst, arith}
use Rattle.std.specs.Prelude.{is_some}
use Rattle.std.specs.Option.{option_or}
use Rattle.std.proofs.lemmas.List.{append_assoc, append-nil}
use Rattle.std.proofs.lemmas.Option.{same_Some}
use Rattle.std.proofs.lemmas.Bool.{ltb-true, ltb-false}
use Rattle.gr_base.specs.Prelude.{EachAfter}
use Rattle.gr_word.specs.declared.variables.Label.{Label}
use Rattle.gr_word.specs.declared.variables.Shape.{Shape}
use Rattle.src_tree.specs.declared.trees.Decl.{Decl}
use Rattle.src_tree.specs.declared.faults.TypeError.{TypeError}
use Rattle.src_tree.specs.declared.faults.TypeError.TheVariants.{TwiceDeclared, Limit}
use Rattle.src_tree.specs.declared.faults.Which.TheVariants.{ArrayLength, TotalWords}
use Rattle.src_tree.specs.Prelude.{context_of, max_words, words_of, total_words, shown_place, shown_number, where_true, length_fits, twice_fault, length_fault, words_fault, IsFirstDeclaration, IsNamedAgain, HasBadLength, PassesWords}
use Rattle.src_tree.proofs.NoLimitPassed.{length_is_fit, fits_back}

-- ---- one walk

-- a test that is true exactly for declarations with an error, and the name of the error after some declarations
pub record Finds (Faulty : List Decl → Decl → Type 0) (test : List Decl → Decl → Bool) : Type 0 where
  pub found : (before : List Decl) (d : Decl) → test before d ≡ true → Faulty before d
  pub clear : (before : List Decl) (d : Decl) → test before d ≡ false → Faulty before d → ⊥

module _ (Faulty : List Decl → Decl → Type 0) (test : List Decl → Decl → Bool) (finds : Finds Faulty test)
    (name : ℕ → TypeError) where
  -- the first error in declarations that follow others
  abbrev pub walk : List Decl → List Decl → Option TypeError
  walk before [] = None
  walk before (d ∷ ds) = option_or (where_true (test before d) (name (length before))) (walk (before ++ d ∷ []) ds)

  abbrev pub clears : (before ds : List Decl) → Type 0
  clears before ds = EachAfter (λ earlier d. Faulty earlier d → ⊥) before ds

  -- a test that can't be true
  fails : (before : List Decl) (d : Decl) → (Faulty before d → ⊥) → test before d ≡ false
  fails before d none = by (test before d) refl
    where
      by : (b : Bool) → test before d ≡ b → b ≡ false
      by false e = refl
      by true e = absurd (none (finds.found before d e))

  holds : (before : List Decl) (d : Decl) → Faulty before d → test before d ≡ true
  holds before d faulty = by (test before d) refl
    where
      by : (b : Bool) → test before d ≡ b → b ≡ true
      by true e = refl
      by false e = absurd (finds.clear before d e faulty)

  -- the first declaration with an error is found, after any others
  found_behind : (before clear : List Decl) (d : Decl) (ds : List Decl) → clears before clear
      → Faulty (before ++ clear) d → walk before (clear ++ d ∷ ds) ≡ Some (name (length before + length clear))
  found_behind before [] d ds none faulty =
      ap (λ b. option_or (where_true b (name (length before))) (walk (before ++ d ∷ []) ds))
      (holds before d (subst (λ l. Faulty l d) (append-nil before) faulty))
      ∙ ap (λ n. Some (name n)) (omega arith)
  found_behind before (c ∷ clear) d ds none faulty =
      ap (λ b. option_or (where_true b (name (length before))) (walk (before ++ c ∷ []) (clear ++ d ∷ ds)))
      (fails before c none.0)
      ∙ found_behind (before ++ c ∷ []) clear d ds none.1
      (subst (λ l. Faulty l d) (sym (append_assoc before (c ∷ []) clear)) faulty)
      ∙ ap (λ n. Some (name (n + length clear))) (length-append before (c ∷ []))
      ∙ ap (λ n. Some (name n)) (omega arith)

  pub found_first : (decls : List Decl) (k : ℕ) → IsFirstDeclaration Faulty decls k → walk [] decls ≡ Some (name k)
  found_first decls k first =
      ap (walk []) first.parts
      ∙ found_behind [] first.before first.declaration first.behind first.none_before first.faulty
      ∙ ap (λ n. Some (name n)) (omega (arith, first.place))

  -- what is found is the error of the first declaration with one
  record Behind (before ds : List Decl) (e : TypeError) : Type 0 where
    clear : List Decl
    declaration : Decl
    later : List Decl
    parts : ds ≡ clear ++ declaration ∷ later
    named : e ≡ name (length before + length clear)
    faulty : Faulty (before ++ clear) declaration
    none : clears before clear

  only_behind : (before ds : List Decl) (e : TypeError) → walk before ds ≡ Some e → Behind before ds e
  only_behind before [] e none = absurd cc
  only_behind before (d ∷ ds) e some = by (test before d) refl some (only_behind (before ++ d ∷ []) ds e)
    where
      by : (b : Bool) → test before d ≡ b
          → option_or (where_true b (name (length before))) (walk (before ++ d ∷ []) ds) ≡ Some e
          → (walk (before ++ d ∷ []) ds ≡ Some e → Behind (before ++ d ∷ []) ds e) → Behind before (d ∷ ds) e
      by true is same rest = record {
        clear = [];
        declaration = d;
        later = ds;
        parts = refl;
        named = sym (same_Some (name (length before)) e same) ∙ ap name (omega arith);
        faulty = subst (λ l. Faulty l d) (sym (append-nil before)) (finds.found before d is);
        none = tt;
      }
      by false is same rest_of =
          let rest = rest_of same in
          record {
            clear = d ∷ rest.clear;
            declaration = rest.declaration;
            later = rest.later;
            parts = ap (λ l. d ∷ l) rest.parts;
            named = rest.named ∙ ap (λ n. name (n + length rest.clear)) (length-append before (d ∷ []))
                ∙ ap name (omega arith);
            faulty = subst (λ l. Faulty l rest.declaration) (append_assoc before (d ∷ []) rest.clear) rest.faulty;
            none = (finds.clear before d is, rest.none);
          }

  pub only_first : (decls : List Decl) (e : TypeError) → walk [] decls ≡ Some e
      → (k : ℕ) × IsFirstDeclaration Faulty decls k × (e ≡ name k)
  only_first decls e some =
      let found = only_behind [] decls e some in (
        length found.clear,
        record {
          before = found.clear;
          declaration = found.declaration;
          behind = found.later;
          parts = found.parts;
          place = refl;
          faulty = found.faulty;
          none_before = found.none;
        },
        found.named ∙ ap name (omega arith),
      )

-- ---- a name that is declared again

named_again : Finds IsNamedAgain (λ before d. is_some (context_of before d.name))
named_again = record { found = λ before d e. there (context_of before d.name) e; clear = λ before d e h. gone h.1 e }
  where
    there : (o : Option (Label × Shape)) → is_some o ≡ true → (kind : Label × Shape) × (o ≡ Some kind)
    there (Some kind) e = (kind, refl)
    there None e = absurd cc

    gone : {o : Option (Label × Shape)} {kind : Label × Shape} → o ≡ Some kind → is_some o ≡ false → ⊥
    gone refl e = absurd cc

abbrev twice_name : ℕ → TypeError
twice_name k = TwiceDeclared (shown_place k)

twice_walk : (before ds : List Decl) → twice_fault before ds ≡ walk IsNamedAgain _ named_again twice_name before ds
twice_walk before [] = refl
twice_walk before (d ∷ ds) =
    ap (option_or (where_true (is_some (context_of before d.name)) (twice_name (length before))))
    (twice_walk (before ++ d ∷ []) ds)

pub twice_found : (decls : List Decl) (k : ℕ) → IsFirstDeclaration IsNamedAgain decls k
    → twice_fault [] decls ≡ Some (TwiceDeclared (shown_place k))
twice_found decls k first = twice_walk [] decls ∙ found_first IsNamedAgain _ named_again twice_name decls k first

pub twice_only : (decls : List Decl) (e : TypeError) → twice_fault [] decls ≡ Some e
    → (k : ℕ) × IsFirstDeclaration IsNamedAgain decls k × (e ≡ TwiceDeclared (shown_place k))
twice_only decls e some = only_first IsNamedAgain _ named_again twice_name decls e (sym (twice_walk [] decls) ∙ some)

-- ---- an array with no words, or too many

bad_length : Finds HasBadLength (λ before d. not (length_fits d.length))
bad_length = record {
  found = λ before d e fits. clash _ (fits_back d.length fits) e;
  clear = λ before d e bad. bad (length_is_fit d.length e);
}
  where
    clash : (b : Bool) → b ≡ false → b ≡ true → ⊥
    clash true e f = absurd cc
    clash false e f = absurd cc

abbrev length_name : ℕ → TypeError
length_name k = Limit ArrayLength (shown_number k)

length_walk : (before ds : List Decl)
    → length_fault (length before) ds ≡ walk HasBadLength _ bad_length length_name before ds
length_walk before [] = refl
length_walk before (d ∷ ds) =
    ap (option_or (where_true (not (length_fits d.length)) (length_name (length before))))
    (ap (λ n. length_fault n ds) (sym (length-append before (d ∷ []))) ∙ length_walk (before ++ d ∷ []) ds)

pub length_found : (decls : List Decl) (k : ℕ) → IsFirstDeclaration HasBadLength decls k
    → length_fault 0 decls ≡ Some (Limit ArrayLength (shown_number k))
length_found decls k first = length_walk [] decls ∙ found_first HasBadLength _ bad_length length_name decls k first

pub length_only : (decls : List Decl) (e : TypeError) → length_fault 0 decls ≡ Some e
    → (k : ℕ) × IsFirstDeclaration HasBadLength decls k × (e ≡ Limit ArrayLength (shown_number k))
length_only decls e some = only_first HasBadLength _ bad_length length_name decls e (sym (length_walk [] decls) ∙ some)

-- ---- too many words

passes_words : Finds PassesWords (λ before d. nat_lt max_words (total_words before + words_of d))
passes_words = record {
  found = λ before d e. ltb-true max_words (total_words before + words_of d) e;
  clear = λ before d e h. (let low = ltb-false max_words (total_words before + words_of d) e in omega (arith, low, h));
}

abbrev words_name : ℕ → TypeError
words_name k = Limit TotalWords (shown_number k)

one_more : (before : List Decl) (d : Decl) → total_words (before ++ d ∷ []) ≡ total_words before + words_of d
one_more [] d = omega arith
one_more (b ∷ before) d = ap (λ n. words_of b + n) (one_more before d) ∙ omega arith

words_walk : (before ds : List Decl)
    → words_fault (length before) (total_words before) ds ≡ walk PassesWords _ passes_words words_name before ds
words_walk before [] = refl
words_walk before (d ∷ ds) =
    ap (option_or (where_true (nat_lt max_words (total_words before + words_of d)) (words_name (length before))))
    (ap (λ n. words_fault n (total_words before + words_of d) ds) (sym (length-append before (d ∷ [])))
    ∙ ap (λ n. words_fault (length (before ++ d ∷ [])) n ds) (sym (one_more before d))
    ∙ words_walk (before ++ d ∷ []) ds)

pub words_found : (decls : List Decl) (k : ℕ) → IsFirstDeclaration PassesWords decls k
    → words_fault 0 0 decls ≡ Some (Limit TotalWords (shown_number k))
words_found decls k first = words_walk [] decls ∙ found_first PassesWords _ passes_words words_name decls k first

pub words_only : (decls : List Decl) (e : TypeError) → words_fault 0 0 decls ≡ Some e
    → (k : ℕ) × IsFirstDeclaration PassesWords decls k × (e ≡ Limit TotalWords (shown_number k))
words_only decls e some = only_first PassesWords _ passes_words words_name decls e (sym (words_walk [] decls) ∙ some)
