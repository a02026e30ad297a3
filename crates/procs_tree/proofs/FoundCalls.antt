-- What a call of a name becomes, by the procedure that is found.
use Rattle.std.proofs.Common.{◌≡◌, ℕ, ◌+◌, ◌<◌, Bool, true, false, cond, Some, None, take, get_or, reverse, List, [], ◌∷◌, length, refl, ap, ◌∙◌}
use Rattle.std.specs.Prelude.{bytes_eq}
use Rattle.std.proofs.lemmas.List.{take_more, reverse-append}
use Rattle.src_tree.specs.Prelude.{Tree}
use Rattle.procs_tree.specs.Prelude.{Procedure, Renaming, inlines_of, inlined_call, Found, found}
use Rattle.src_tree.specs.Trees as plain

-- a call of a name is one of the procedure that is found
pub inlines_found : (procedures : List Procedure) (name : List ℕ) (f : Found) → found procedures name ≡ Some f
    → (to : Renaming) (arguments : List Tree) (next : ℕ)
    → inlines_of procedures name to arguments next
    ≡ inlined_call (inlines_of f.earlier) f.procedure to arguments next
inlines_found [] name f e to arguments next = absurd (cc)
inlines_found (p ∷ earlier) name f e to arguments next =
    by (bytes_eq name p.name) e (inlines_found earlier name f)
  where
    by : (b : Bool) → cond b (Some (record { procedure = p; earlier = earlier })) (found earlier name) ≡ Some f
        → (found earlier name ≡ Some f → (to : Renaming) (arguments : List Tree) (next : ℕ)
        → inlines_of earlier name to arguments next
        ≡ inlined_call (inlines_of f.earlier) f.procedure to arguments next)
        → cond b (inlined_call (inlines_of earlier) p to arguments next) (inlines_of earlier name to arguments next)
        ≡ inlined_call (inlines_of f.earlier) f.procedure to arguments next
    by true e rest =
        let g : ◌≡◌ {A = Found} (record { procedure = p; earlier = earlier }) f = cc in
        ap (λ (h : Found). inlined_call (inlines_of h.earlier) h.procedure to arguments next) g
    by false e rest = rest e to arguments next

pub inlines_none : (procedures : List Procedure) (name : List ℕ) → found procedures name ≡ None
    → (to : Renaming) (arguments : List Tree) (next : ℕ)
    → inlines_of procedures name to arguments next ≡ record { block = plain.Nothing; labels = [] }
inlines_none [] name e to arguments next = refl
inlines_none (p ∷ earlier) name e to arguments next = by (bytes_eq name p.name) e (inlines_none earlier name)
  where
    by : (b : Bool) → cond b (Some (record { procedure = p; earlier = earlier })) (found earlier name) ≡ None
        → (found earlier name ≡ None → (to : Renaming) (arguments : List Tree) (next : ℕ)
        → inlines_of earlier name to arguments next ≡ record { block = plain.Nothing; labels = [] })
        → cond b (inlined_call (inlines_of earlier) p to arguments next) (inlines_of earlier name to arguments next)
        ≡ record { block = plain.Nothing; labels = [] }
    by true e rest = absurd (cc)
    by false e rest = rest e to arguments next

-- the last of the first procedures comes first
pub found_last : (procedures : List Procedure) (k : ℕ) (d : Procedure) (name : List ℕ) → k < length procedures
    → found (reverse (take (k + 1) procedures)) name
    ≡ cond (bytes_eq name (get_or procedures k d).name)
    (Some (record { procedure = get_or procedures k d; earlier = reverse (take k procedures) }))
    (found (reverse (take k procedures)) name)
found_last procedures k d name lt =
    ap (λ ps. found ps name)
    (ap reverse (take_more procedures k d lt) ∙ reverse-append (take k procedures) (get_or procedures k d ∷ []))
