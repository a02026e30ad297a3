-- The numbers of a program that tokens are, and the names that it declares, are in their ranges.
use Rattle.std.proofs.Common.{ℕ, arith, pos, List, [], ◌∷◌, ◌++◌}
use Rattle.std.specs.Prelude.{All, IsTrue}
use Rattle.std.proofs.lemmas.List.Elements.{All-cons, All-nil}
use Rattle.gr_word.specs.Prelude.{is_name, IsWord}
use Rattle.gr_word.specs.declared.variables.Label.TheVariants.{Public, Secret}
use Rattle.src_lexer.specs.declared.tokens.Kind.{Kind}
use Rattle.src_tree.specs.declared.trees.Decl.{Decl}
use Rattle.src_tree.specs.Prelude.{Block, Source, Test, Tree}
use Rattle.src_parser.specs.Prelude.{Limits, SpellsTree, Numeral, Named, Indexed, Bracketed, Negated, Joined, Compares, Compared, Writes, Ends, Sets, Puts, Chooses, ChoosesElse, Repeats, Declares, NoMore, Scalar, Array, Sentence, Program}
use Rattle.block_cache_gen.specs.Prelude.{BlockHasWords, HasWords, TestHasWords}
use Rattle.block_cache_gen.proofs.RangesOfCode.{small-word}
use Rattle.call_laws.proofs.FittingTokens.{AllFit}
use Rattle.src_lexer.specs.declared.tokens.Kind.TheVariants as kind

pub left-fit : (a b : List Kind) → AllFit (a ++ b) → AllFit a
left-fit [] b all = tt
left-fit (k ∷ a) b all = (all.0, left-fit a b all.1)

pub right-fit : (a b : List Kind) → AllFit (a ++ b) → AllFit b
right-fit [] b all = all
right-fit (k ∷ a) b all = right-fit a b all.1

pub zero-word : IsWord (pos 0)
zero-word = small-word 0 (omega arith)

pub tree-words : {most depth level : ℕ} {ks : List Kind} {t : Tree} → SpellsTree most depth level ks t → AllFit ks
    → HasWords t
tree-words (Numeral n) all = all.0
tree-words (Named name) all = tt
tree-words (Indexed {tokens = tokens} name room s) all =
    tree-words s (left-fit tokens (kind.RBracket ∷ []) all.1.1)
tree-words (Bracketed {tokens = tokens} room s) all = tree-words s (left-fit tokens (kind.RParen ∷ []) all.1)
tree-words (Negated room s) all = (zero-word, tree-words s all.1)
tree-words (Joined {left = left} {right = right} op sign low is s t) all =
    (tree-words s (left-fit left (sign ∷ right) all), tree-words t (right-fit left (sign ∷ right) all).1)

pub test-words : {most : Limits} {ks : List Kind} {t : Test} → Compares most ks t → AllFit ks → TestHasWords t
test-words (Compared {left = left} {right = right} cmp sign is s t few) all =
    (tree-words s (left-fit left (sign ∷ right) all), tree-words t (right-fit left (sign ∷ right) all).1)

block-words : {most : Limits} {depth : ℕ} {ks : List Kind} {b : Block} → Writes most depth ks b → AllFit ks
    → BlockHasWords b
block-words Ends all = tt
block-words (Sets {tokens = tokens} {rest = rest} name s few w) all =
    let parts = all.1.1 in
    (tree-words s (left-fit tokens (kind.Semi ∷ rest) parts), block-words w (right-fit tokens (kind.Semi ∷ rest) parts).1)
block-words (Puts {at = at} {tokens = tokens} {rest = rest} name s t few w) all =
    let after = kind.RBracket ∷ kind.Assign ∷ (tokens ++ kind.Semi ∷ rest) in
    let parts = (right-fit at after all.1.1).1.1 in (
      (tree-words s (left-fit at after all.1.1), tree-words t (left-fit tokens (kind.Semi ∷ rest) parts)),
      block-words w (right-fit tokens (kind.Semi ∷ rest) parts).1,
    )
block-words (Chooses {guard = guard} {tokens = tokens} {rest = rest} g room first w) all =
    let after = kind.RParen ∷ kind.LBrace ∷ (tokens ++ kind.RBrace ∷ rest) in
    let parts = (right-fit guard after all.1.1).1.1 in (
      (
        test-words g (left-fit guard after all.1.1),
        (block-words first (left-fit tokens (kind.RBrace ∷ rest) parts), tt),
      ),
      block-words w (right-fit tokens (kind.RBrace ∷ rest) parts).1,
    )
block-words (ChoosesElse {guard = guard} {tokens = tokens} {others = others} {rest = rest} g room first second w) all =
    let otherwise = kind.RBrace ∷ kind.Else ∷ kind.LBrace ∷ (others ++ kind.RBrace ∷ rest) in
    let after = kind.RParen ∷ kind.LBrace ∷ (tokens ++ otherwise) in
    let parts = (right-fit guard after all.1.1).1.1 in
    let more = (right-fit tokens otherwise parts).1.1.1 in (
      (
        test-words g (left-fit guard after all.1.1),
        (
          block-words first (left-fit tokens otherwise parts),
          block-words second (left-fit others (kind.RBrace ∷ rest) more),
        ),
      ),
      block-words w (right-fit others (kind.RBrace ∷ rest) more).1,
    )
block-words (Repeats {guard = guard} {tokens = tokens} {rest = rest} g room body w) all =
    let after = kind.RParen ∷ kind.LBrace ∷ (tokens ++ kind.RBrace ∷ rest) in
    let parts = (right-fit guard after all.1.1).1.1 in (
      (test-words g (left-fit guard after all.1.1), block-words body (left-fit tokens (kind.RBrace ∷ rest) parts)),
      block-words w (right-fit tokens (kind.RBrace ∷ rest) parts).1,
    )

abbrev IsNamed : Decl → Type 0
IsNamed d = IsTrue (is_name d.name)

pub decls-named : {ks : List Kind} {ds : List Decl} → Declares ks ds → AllFit ks → All IsNamed ds
decls-named NoMore all = All-nil IsNamed
decls-named (Scalar {decls = ds} Public name rest) all =
    All-cons IsNamed _ ds all.1.1.0 (decls-named rest all.1.1.1.1)
decls-named (Scalar {decls = ds} Secret name rest) all =
    All-cons IsNamed _ ds all.1.1.0 (decls-named rest all.1.1.1.1)
decls-named (Array {decls = ds} Public name n rest) all =
    All-cons IsNamed _ ds all.1.1.0 (decls-named rest all.1.1.1.1.1.1.1)
decls-named (Array {decls = ds} Secret name n rest) all =
    All-cons IsNamed _ ds all.1.1.0 (decls-named rest all.1.1.1.1.1.1.1)

-- the numbers of a program and the names of its variables are in their ranges
pub record ProgramFits (p : Source) : Type 0 where
  pub words : BlockHasWords p.body
  pub named : All (λ d. IsTrue (is_name d.name)) p.decls

pub sentence-fits : {most : Limits} {ks : List Kind} {p : Source} → Sentence most ks p → AllFit ks → ProgramFits p
sentence-fits (Program {front = front} {back = back} d w) all = record {
  words = block-words w (right-fit front back all);
  named = decls-named d (left-fit front back all);
}
