-- Lists of terms, and new variables with these values.
use Rattle.std.proofs.Common.{◌≡◌, ℕ, ◌+◌, List, [], ◌∷◌, ◌++◌, length, ap, sym, ◌∙◌, add-zero, arith}
use Rattle.std.proofs.lemmas.List.{map-append, length-map}
use Rattle.flat_code.specs.declared.trees.Term.{Term}
use Rattle.flat_code.specs.Owned.{term_of, terms_of}
use Rattle.flat_code.specs.Limits.{needs_name}
use Rattle.flat_passes.specs.Values.{with_locals}
use Rattle.flat_tree.specs.Trees.{Statement, Local}
use Rattle.flat_tree.specs.Trees as tree

pub terms_more : (es : List Term) (e : Term) → terms_of (es ++ e ∷ []) ≡ terms_of es ++ term_of e ∷ []
terms_more es e = map-append term_of es (e ∷ [])

pub terms_append : (es others : List Term) → terms_of (es ++ others) ≡ terms_of es ++ terms_of others
terms_append es others = map-append term_of es others

pub terms_length : (es : List Term) → length (terms_of es) ≡ length es
terms_length es = length-map es term_of

-- a variable that is the last of some
with_last : (n : ℕ) (es : List tree.Term) (e : tree.Term) (s : Statement)
    → with_locals needs_name n (es ++ e ∷ []) s ≡ with_locals needs_name n es (Local (n + length es) e s)
with_last n [] e s = ap (λ k. Local k e s) (sym (add-zero n))
with_last n (first ∷ es) e s =
    ap (Local n first)
    (with_last (n + 1) es e s
    ∙ ap (λ k. with_locals needs_name (n + 1) es (Local k e s))
    (let h : n + 1 + length es ≡ n + length (first ∷ es) = omega arith in h))

-- one more local, from the last value to the first
pub local_more : (n k : ℕ) (left fewer : List Term) (e : Term) (made more whole : Statement) → left ≡ fewer ++ e ∷ []
    → k ≡ n + length fewer → more ≡ Local k (term_of e) made → with_locals needs_name n (terms_of left) made ≡ whole
    → with_locals needs_name n (terms_of fewer) more ≡ whole
local_more n k left fewer e made more whole popped is grown so_far =
    ap (with_locals needs_name n (terms_of fewer)) (grown ∙ ap (λ j. Local j (term_of e) made)
    (is ∙ ap (λ l. n + l) (sym (terms_length fewer))))
    ∙ sym (with_last n (terms_of fewer) (term_of e) made)
    ∙ ap (λ es. with_locals needs_name n es made) (sym (terms_more fewer e))
    ∙ ap (λ es. with_locals needs_name n (terms_of es) made) (sym popped)
    ∙ so_far
