-- Laws of the trees of a list of nodes.
use Rattle.std.proofs.Common.{◌≡◌, ℕ, zero, suc, ◌+◌, ◌<◌, ◌≤◌, pos, List, [], ◌∷◌, ◌++◌, length, slice_get, Option, Some, None, refl, sym, ap, ◌∙◌, subst, arith, length-append}
use Rattle.std.proofs.lemmas.List.{get_or_append_left}
use Rattle.std.proofs.Math.Seq.{get_or-append_seam}
use Rattle.symbolic_values.specs.declared.nodes.Node.{Node}
use Rattle.symbolic_values.specs.Prelude.{Value, Const, Reg, SlotAt, SlotWord, MemWord, Apply, tree_at, built, trees_onto, trees_of, tree_of, NamesBelow}
use Rattle.symbolic_values.specs.declared.nodes.Node.TheVariants as node

pub trees_onto-append : (trees : List Value) (nodes more : List Node)
    → trees_onto trees (nodes ++ more) ≡ trees_onto (trees_onto trees nodes) more
unfolding trees_onto
trees_onto-append trees [] more = refl
trees_onto-append trees (n ∷ nodes) more = trees_onto-append (trees ++ built trees n ∷ []) nodes more

pub length-trees_onto : (trees : List Value) (nodes : List Node)
    → length (trees_onto trees nodes) ≡ length trees + length nodes
unfolding trees_onto
length-trees_onto trees [] = omega arith
length-trees_onto trees (n ∷ nodes) =
    omega (arith, length-trees_onto (trees ++ built trees n ∷ []) nodes, length-append trees (built trees n ∷ []))

pub length-trees_of : (nodes : List Node) → length (trees_of nodes) ≡ length nodes
length-trees_of nodes = omega (arith, length-trees_onto [] nodes)

-- one more node adds one tree
pub trees_of-push : (nodes : List Node) (n : Node)
    → trees_of (nodes ++ n ∷ []) ≡ trees_of nodes ++ built (trees_of nodes) n ∷ []
unfolding trees_onto
trees_of-push nodes n = trees_onto-append [] nodes (n ∷ [])

-- more nodes keep the given trees
pub tree_at-onto : (trees : List Value) (nodes : List Node) (i : ℕ) → i < length trees
    → tree_at (trees_onto trees nodes) i ≡ tree_at trees i
unfolding trees_onto
tree_at-onto trees [] i inside = refl
tree_at-onto trees (n ∷ nodes) i inside =
    tree_at-onto (trees ++ built trees n ∷ []) nodes i (omega (arith, length-append trees (built trees n ∷ [])))
    ∙ get_or_append_left trees (built trees n ∷ []) (Const (pos 0)) i inside

-- more nodes keep each earlier tree
pub tree_of-append : (nodes more : List Node) (i : ℕ) → i < length nodes → tree_of (nodes ++ more) i ≡ tree_of nodes i
tree_of-append nodes more i inside =
    ap (λ (trees : List Value). tree_at trees i) (trees_onto-append [] nodes more)
    ∙ tree_at-onto (trees_of nodes) more i (omega (arith, length-trees_of nodes))

-- the tree of a node that was just added
pub tree_of-push : (nodes : List Node) (n : Node) → tree_of (nodes ++ n ∷ []) (length nodes) ≡ built (trees_of nodes) n
tree_of-push nodes n =
    ap (λ (trees : List Value). tree_at trees (length nodes)) (trees_of-push nodes n)
    ∙ subst (λ (i : ℕ). tree_at (trees_of nodes ++ built (trees_of nodes) n ∷ []) i ≡ built (trees_of nodes) n)
    (length-trees_of nodes) (get_or-append_seam (trees_of nodes) (built (trees_of nodes) n) [] (Const (pos 0)))

-- the tree of a node depends only on the trees that it names
pub built-alike : (count : ℕ) (trees more : List Value) (n : Node) → NamesBelow count n
    → ((i : ℕ) → i < count → tree_at trees i ≡ tree_at more i) → built trees n ≡ built more n
built-alike count trees more (node.SlotWord k place) names same = ap (SlotWord k) (same place names)
built-alike count trees more (node.MemWord block place) names same =
    ap (λ (t : Value). MemWord t (tree_at trees place)) (same block names.0)
    ∙ ap (MemWord (tree_at more block)) (same place names.1)
built-alike count trees more (node.Apply op a b) names same =
    ap (λ (t : Value). Apply op t (tree_at trees b)) (same a names.0) ∙ ap (Apply op (tree_at more a)) (same b names.1)
built-alike count trees more other names same = refl

-- a node among others that names only trees before it has the tree that is made of these
onto_node : (trees : List Value) (nodes : List Node) (i : ℕ) (n : Node) → slice_get nodes i ≡ Some n
    → ((j : ℕ) (m : Node) → slice_get nodes j ≡ Some m → NamesBelow (length trees + j) m)
    → tree_at (trees_onto trees nodes) (length trees + i) ≡ built (trees_onto trees nodes) n
unfolding trees_onto
onto_node trees [] i n at earlier = absurd (let f : ◌≡◌ {A = Option Node} None (Some n) = at in cc)
onto_node trees (m ∷ nodes) zero n at earlier =
    let same : m ≡ n = cc in
    let next = trees ++ built trees m ∷ [] in
    let longer : length next ≡ length trees + 1 = length-append trees (built trees m ∷ []) in
    let names : NamesBelow (length trees) m = subst (λ (k : ℕ). NamesBelow k m) (omega arith) (earlier 0 m refl) in
    let all = trees_onto next nodes in
    subst (λ (k : ℕ). tree_at all k ≡ built all n) (omega arith)
    (tree_at-onto next nodes (length trees) (omega arith) ∙ get_or-append_seam trees (built trees m) [] (Const (pos 0))
    ∙ built-alike (length trees) trees all m names
    (λ j inside. sym (tree_at-onto next nodes j (omega arith)
    ∙ get_or_append_left trees (built trees m ∷ []) (Const (pos 0)) j inside)) ∙ ap (built all) same)
onto_node trees (m ∷ nodes) (suc i) n at earlier =
    let next = trees ++ built trees m ∷ [] in
    let longer : length next ≡ length trees + 1 = length-append trees (built trees m ∷ []) in
    let all = trees_onto next nodes in
    subst (λ (k : ℕ). tree_at all k ≡ built all n) (omega arith)
    (onto_node next nodes i n at (λ j p e. subst (λ (k : ℕ). NamesBelow k p) (omega arith) (earlier (suc j) p e)))

-- the tree of a number is made of the trees that its node names
pub tree_of-node : (nodes : List Node) (i : ℕ) (n : Node) → slice_get nodes i ≡ Some n
    → ((j : ℕ) (m : Node) → slice_get nodes j ≡ Some m → NamesBelow j m) → tree_of nodes i ≡ built (trees_of nodes) n
tree_of-node nodes i n at earlier =
    subst (λ (k : ℕ). tree_of nodes k ≡ built (trees_of nodes) n) (omega arith)
    (onto_node [] nodes i n at (λ j m e. subst (λ (k : ℕ). NamesBelow k m) (omega arith) (earlier j m e)))

-- if different numbers have different trees, different nodes have different trees
module _ (count : ℕ) (trees : List Value)
    (distinct : (i j : ℕ) → i < count → j < count → tree_at trees i ≡ tree_at trees j → i ≡ j) where
  -- nodes with the same tree are equal, if the trees that they name are distinct
  pub built-injective : (m n : Node) → NamesBelow count m → NamesBelow count n → built trees m ≡ built trees n → m ≡ n
  built-injective (node.Const a) (node.Const b) hm hn e = let f : ◌≡◌ {A = Value} (Const a) (Const b) = e in cc
  built-injective (node.Reg a) (node.Reg b) hm hn e = let f : ◌≡◌ {A = Value} (Reg a) (Reg b) = e in cc
  built-injective (node.SlotAt a) (node.SlotAt b) hm hn e = let f : ◌≡◌ {A = Value} (SlotAt a) (SlotAt b) = e in cc
  built-injective (node.SlotWord k a) (node.SlotWord l b) hm hn e =
      let f : ◌≡◌ {A = Value} (SlotWord k (tree_at trees a)) (SlotWord l (tree_at trees b)) = e in
      let slots : k ≡ l = cc in
      let places : a ≡ b = distinct a b hm hn cc in
      cc
  built-injective (node.MemWord a o) (node.MemWord b p) hm hn e =
      let f : ◌≡◌ {A = Value} (MemWord (tree_at trees a) (tree_at trees o))
      (MemWord (tree_at trees b) (tree_at trees p)) = e in
      let blocks : a ≡ b = distinct a b hm.0 hn.0 cc in
      let places : o ≡ p = distinct o p hm.1 hn.1 cc in
      cc
  built-injective (node.Apply op a b) (node.Apply oq c d) hm hn e =
      let f : ◌≡◌ {A = Value} (Apply op (tree_at trees a) (tree_at trees b))
      (Apply oq (tree_at trees c) (tree_at trees d)) = e in
      let ops : op ≡ oq = cc in
      let left : a ≡ c = distinct a c hm.0 hn.0 cc in
      let right : b ≡ d = distinct b d hm.1 hn.1 cc in
      cc
  built-injective m n hm hn e = cc

-- numbers below a count are below a greater one
pub names_below-more : (count more : ℕ) (n : Node) → count ≤ more → NamesBelow count n → NamesBelow more n
names_below-more count more (node.SlotWord k place) le names = omega arith
names_below-more count more (node.MemWord block place) le names = (omega (arith, names.0), omega (arith, names.1))
names_below-more count more (node.Apply op a b) le names = (omega (arith, names.0), omega (arith, names.1))
names_below-more count more other le names = tt
