-- Functions that are taken from the end of a list, one after another.
use Rattle.std.proofs.Common.{◌≡◌, List, [], ◌∷◌, ◌++◌, map, refl, sym, ap, ◌∙◌}
use Rattle.std.specs.Prelude.{reverse}
use Rattle.std.proofs.lemmas.List.{append_assoc, reverse-append}
use Rattle.module_calls.specs.Tails.{tailed_function, tailed_all}
use Rattle.module_passes.specs.declared.trees.Function.{Function}
use Rattle.module_passes.specs.Owned.{function_of}
use Rattle.module_tree.specs.Trees as tree

tailed_last : (functions : List Function) (f : Function)
    → tailed_all (map function_of (functions ++ f ∷ []))
    ≡ tailed_all (map function_of functions) ++ tailed_function (function_of f) ∷ []
tailed_last [] f = refl
tailed_last (g ∷ functions) f = ap (λ fs. tailed_function (function_of g) ∷ fs) (tailed_last functions f)

pub function_more : (left fewer made more : List Function) (f new : Function) (whole : List tree.Function)
    → left ≡ fewer ++ f ∷ [] → more ≡ made ++ new ∷ [] → function_of new ≡ tailed_function (function_of f)
    → tailed_all (map function_of left) ++ map function_of (reverse made) ≡ whole
    → tailed_all (map function_of fewer) ++ map function_of (reverse more) ≡ whole
function_more left fewer made more f new whole popped grown is so_far =
    ap (λ fs. tailed_all (map function_of fewer) ++ map function_of (reverse fs)) grown
    ∙ ap (λ fs. tailed_all (map function_of fewer) ++ map function_of fs) (reverse-append made (new ∷ []))
    ∙ ap (λ g. tailed_all (map function_of fewer) ++ g ∷ map function_of (reverse made)) is
    ∙ sym
    (append_assoc (tailed_all (map function_of fewer)) (tailed_function (function_of f) ∷ [])
    (map function_of (reverse made)))
    ∙ ap (λ fs. fs ++ map function_of (reverse made)) (sym (tailed_last fewer f))
    ∙ ap (λ fs. tailed_all (map function_of fs) ++ map function_of (reverse made)) (sym popped)
    ∙ so_far
