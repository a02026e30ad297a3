-- The sizes of the trees follow from how each keeps the leaves of the one below it. There are sizes over any number of
-- blocks.
use Rattle.std.proofs.Common.{ℕ, zero, suc, ◌<◌, ◌≤◌, List, [], ◌∷◌, length, map, refl, sym, ap, ◌∙◌, subst, ⊎_elim, arith}
use Rattle.std.proofs.lemmas.Bool.{cases_lt}
use Rattle.path_oram.specs.Prelude.{BlockTree, IsTree, IsHeightFor}
use Rattle.path_oram.proofs.Existing.{some_height}
use Rattle.recursive_oram.specs.Prelude.{IsPositionMap, count_above, AreSizes, Size, size_of}

pub tall : (tree : BlockTree) → IsTree tree → IsHeightFor (length tree.contents) tree.places.height
tall tree whole = subst (λ n. IsHeightFor n tree.places.height) (sym whole.count) whole.whole.height

pub map-sizes : (tree : BlockTree) (above : List BlockTree) (last : List ℕ) → IsTree tree
    → IsPositionMap tree.places.leaves above last
    → AreSizes (length tree.contents) (map size_of (tree ∷ above))
map-sizes tree [] last whole is = (refl, tall tree whole, omega (arith, is.1, whole.count))
map-sizes tree (next ∷ above) last whole is = (
  refl,
  tall tree whole,
  omega (arith, is.0.more, whole.count),
  subst (λ n. AreSizes n (map size_of (next ∷ above)))
      (is.0.count ∙ ap count_above (sym whole.count)) (map-sizes next above last is.1 is.2),
)

abbrev size_for : ℕ → Size
size_for count = record { count = count; height = (some_height count).0 }

more_sizes : (count : ℕ) → 4 < count → (sizes : List Size) → AreSizes (count_above count) sizes
    → (all : List Size) × AreSizes count all
more_sizes count more [] are = absurd are
more_sizes count more (next ∷ above) are = (size_for count ∷ next ∷ above, (refl, (some_height count).1, more, are))

one_size : (count : ℕ) → count ≤ 4 → (sizes : List Size) × AreSizes count sizes
one_size count few = (size_for count ∷ [], (refl, (some_height count).1, few))

sizes_within : (most count : ℕ) → count ≤ most → (sizes : List Size) × AreSizes count sizes
sizes_within zero count low = one_size count (omega (arith, low))
sizes_within (suc most) count low =
    ⊎_elim
    (λ more.
    let above = sizes_within most (count_above count) (omega (arith, more, low)) in
    more_sizes count more above.0 above.1)
    (λ few. one_size count few)
    (cases_lt 4 count)

-- the sizes of trees over this many blocks
pub some_sizes : (count : ℕ) → (sizes : List Size) × AreSizes count sizes
some_sizes count = sizes_within count count (omega arith)
