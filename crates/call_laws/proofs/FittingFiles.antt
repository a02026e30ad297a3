-- The program of a file with procedures has names and numbers in their ranges.
use Rattle.std.proofs.Common.{ℕ, ◌+◌, ◌≤◌, ◌^◌, Bool, true, false, List, [], ◌∷◌, ◌++◌, length, reverse, sym, subst, arith}
use Rattle.std.specs.Prelude.{All, IsTrue, bytes_eq, if◌then◌else◌}
use Rattle.std.proofs.lemmas.List.Elements.{All-append, All-cons, All-nil}
use Rattle.gr_word.specs.Prelude.{is_name}
use Rattle.gr_word.specs.declared.variables.Label.{Label}
use Rattle.src_lexer.specs.declared.tokens.Kind.{Kind}
use Rattle.src_tree.specs.declared.trees.Decl.{Decl}
use Rattle.src_tree.specs.Prelude.{Tree, Number, Variable, Element, Operation}
use Rattle.src_parser.specs.Prelude.{Limits}
use Rattle.procs_tree.specs.Prelude.{Statement, SetVariable, SetElement, Choice, Loop, Call, Block, Nothing, Then, Parameter, OfValue, OfVariable, Procedure, File, naming_all, new_labels, new_values, Inlined, Inlines, Renaming, added, assigned, blocks_joined, inlined, inlined_all, inlined_body, inlined_call, inlined_file, inlines_of, kept_name, new_name, no_name, renamed, IsFirstCallFault}
use Rattle.procs_tree.specs.declared.errors.InlineError.{InlineError}
use Rattle.procs_tree.proofs.CallCauses.{no-fault}
use Rattle.procs_tree.proofs.Judged.{few_labels}
use Rattle.procs_tree.proofs.NameFits.{new_name_fits}
use Rattle.procs_parser.specs.Prelude.{SpellsTrees, Last, Before, Arguments, NoArgument, Given, SpellsBlock, Ends, Sets, Puts, Calls, Chooses, ChoosesElse, Repeats, Procedures, NoProcedure, AProcedure, SpellsFile, AFile}
use Rattle.block_cache_gen.specs.Prelude.{BlockHasWords, HasWords, TestHasWords}
use Rattle.call_laws.proofs.FittingPrograms.{ProgramFits, decls-named, left-fit, right-fit, test-words, tree-words, zero-word}
use Rattle.call_laws.proofs.FittingTokens.{AllFit}
use mathlib.Core.List.{reverse-cons}
use Rattle.src_lexer.specs.declared.tokens.Kind.TheVariants as kind
use Rattle.src_tree.specs.Trees as plain

abbrev EachHasWords : List Tree → Type 0
EachHasWords [] = Unit {0}
EachHasWords (e ∷ es) = HasWords e × EachHasWords es

abbrev mutual
  StatementFits : Statement → Type 0
  StatementFits (SetVariable x e) = HasWords e
  StatementFits (SetElement x i e) = HasWords i × HasWords e
  StatementFits (Choice t a b) = TestHasWords t × (BlockFits a × BlockFits b)
  StatementFits (Loop t a) = TestHasWords t × BlockFits a
  StatementFits (Call name es) = EachHasWords es

  BlockFits : Block → Type 0
  BlockFits Nothing = Unit {0}
  BlockFits (Then s rest) = StatementFits s × BlockFits rest

abbrev ProceduresFit : List Procedure → Type 0
ProceduresFit [] = Unit {0}
ProceduresFit (p ∷ ps) = BlockFits p.body × ProceduresFit ps

-- ---- by the grammar

trees-words : {most : ℕ} {ks : List Kind} {es : List Tree} → SpellsTrees most ks es → AllFit ks → EachHasWords es
trees-words (Last s) all = (tree-words s all, tt)
trees-words (Before {tokens = tokens} {rest = rest} s more) all = (
  tree-words s (left-fit tokens (kind.Semi ∷ rest) all),
  trees-words more (right-fit tokens (kind.Semi ∷ rest) all).1,
)

arguments-words : {most : Limits} {ks : List Kind} {es : List Tree} → Arguments most ks es → AllFit ks
    → EachHasWords es
arguments-words NoArgument all = tt
arguments-words (Given s few) all = trees-words s all

block-fits : {most : Limits} {depth : ℕ} {ks : List Kind} {b : Block} → SpellsBlock most depth ks b → AllFit ks
    → BlockFits b
block-fits Ends all = tt
block-fits (Sets {tokens = tokens} {rest = rest} name s few w) all =
    let parts = all.1.1 in
    (tree-words s (left-fit tokens (kind.Semi ∷ rest) parts), block-fits w (right-fit tokens (kind.Semi ∷ rest) parts).1)
block-fits (Puts {at = at} {tokens = tokens} {rest = rest} name s t few w) all =
    let after = kind.RBracket ∷ kind.Assign ∷ (tokens ++ kind.Semi ∷ rest) in
    let parts = (right-fit at after all.1.1).1.1 in (
      (tree-words s (left-fit at after all.1.1), tree-words t (left-fit tokens (kind.Semi ∷ rest) parts)),
      block-fits w (right-fit tokens (kind.Semi ∷ rest) parts).1,
    )
block-fits (Calls {tokens = tokens} {rest = rest} name a w) all =
    let after = kind.RParen ∷ kind.Semi ∷ rest in
    (arguments-words a (left-fit tokens after all.1.1), block-fits w (right-fit tokens after all.1.1).1.1)
block-fits (Chooses {guard = guard} {tokens = tokens} {rest = rest} g room first w) all =
    let after = kind.RParen ∷ kind.LBrace ∷ (tokens ++ kind.RBrace ∷ rest) in
    let parts = (right-fit guard after all.1.1).1.1 in (
      (
        test-words g (left-fit guard after all.1.1),
        (block-fits first (left-fit tokens (kind.RBrace ∷ rest) parts), tt),
      ),
      block-fits w (right-fit tokens (kind.RBrace ∷ rest) parts).1,
    )
block-fits (ChoosesElse {guard = guard} {tokens = tokens} {others = others} {rest = rest} g room first second w) all =
    let otherwise = kind.RBrace ∷ kind.Else ∷ kind.LBrace ∷ (others ++ kind.RBrace ∷ rest) in
    let after = kind.RParen ∷ kind.LBrace ∷ (tokens ++ otherwise) in
    let parts = (right-fit guard after all.1.1).1.1 in
    let more = (right-fit tokens otherwise parts).1.1.1 in (
      (
        test-words g (left-fit guard after all.1.1),
        (block-fits first (left-fit tokens otherwise parts), block-fits second (left-fit others (kind.RBrace ∷ rest) more)),
      ),
      block-fits w (right-fit others (kind.RBrace ∷ rest) more).1,
    )
block-fits (Repeats {guard = guard} {tokens = tokens} {rest = rest} g room body w) all =
    let after = kind.RParen ∷ kind.LBrace ∷ (tokens ++ kind.RBrace ∷ rest) in
    let parts = (right-fit guard after all.1.1).1.1 in (
      (test-words g (left-fit guard after all.1.1), block-fits body (left-fit tokens (kind.RBrace ∷ rest) parts)),
      block-fits w (right-fit tokens (kind.RBrace ∷ rest) parts).1,
    )

procedures-fit : {most : Limits} {ks : List Kind} {ps : List Procedure} → Procedures most ks ps → AllFit ks
    → ProceduresFit ps
procedures-fit NoProcedure all = tt
procedures-fit (AProcedure {ps = ps} {ls = ls} {body = body} {rest = rest} name parameters room locals w more) all =
    let behind = ls ++ (body ++ kind.RBrace ∷ rest) in
    let parts = (right-fit ps (kind.RParen ∷ kind.LBrace ∷ behind) all.1.1.1).1.1 in
    let block = right-fit ls (body ++ kind.RBrace ∷ rest) parts in (
      block-fits w (left-fit body (kind.RBrace ∷ rest) block),
      procedures-fit more (right-fit body (kind.RBrace ∷ rest) block).1,
    )

-- ---- calls that are replaced

renamed-words : (to : Renaming) (e : Tree) → HasWords e → HasWords (renamed to e)
renamed-words to (Number z) is = is
renamed-words to (Variable x) is = tt
renamed-words to (Element x i) is = renamed-words to i is
renamed-words to (Operation op a b) is = (renamed-words to a is.0, renamed-words to b is.1)

joined-words : (a b : plain.Block) → BlockHasWords a → BlockHasWords b → BlockHasWords (blocks_joined a b)
joined-words plain.Nothing b first second = second
joined-words (plain.Then s rest) b first second = (first.0, joined-words rest b first.1 second)

-- what a call is replaced by has words, if its arguments do
abbrev Keeps : Inlines → Type 0
Keeps inlines = (name : List ℕ) (to : Renaming) (es : List Tree) (next : ℕ) → EachHasWords es
    → BlockHasWords (inlines name to es next).block

module _ (inlines : Inlines) (keeps : Keeps inlines) where
  mutual
    statement-inlined : (to : Renaming) (s : Statement) (next : ℕ) → StatementFits s
        → BlockHasWords (inlined inlines to s next).block
    statement-inlined to (SetVariable x e) next is = (renamed-words to e is, tt)
    statement-inlined to (SetElement x i e) next is = ((renamed-words to i is.0, renamed-words to e is.1), tt)
    statement-inlined to (Choice t a b) next is = (
      (
        (renamed-words to t.left is.0.0, renamed-words to t.right is.0.1),
        (
          block-inlined to a next is.1.0,
          block-inlined to b (next + length (inlined_all inlines to a next).labels) is.1.1,
        ),
      ),
      tt,
    )
    statement-inlined to (Loop t a) next is =
        (((renamed-words to t.left is.0.0, renamed-words to t.right is.0.1), block-inlined to a next is.1), tt)
    statement-inlined to (Call name es) next is = keeps name to es next is

    block-inlined : (to : Renaming) (b : Block) (next : ℕ) → BlockFits b
        → BlockHasWords (inlined_all inlines to b next).block
    block-inlined to Nothing next is = tt
    block-inlined to (Then s rest) next is =
        joined-words (inlined inlines to s next).block
        (inlined_all inlines to rest (next + length (inlined inlines to s next).labels)).block
        (statement-inlined to s next is.0)
        (block-inlined to rest (next + length (inlined inlines to s next).labels) is.1)

assigned-words : (to : Renaming) (next : ℕ) (es : List Tree) → EachHasWords es → BlockHasWords (assigned to next es)
assigned-words to next [] is = tt
assigned-words to next (e ∷ es) is = (renamed-words to e is.0, assigned-words to (next + 1) es is.1)

values-words : (ps : List Parameter) (es : List Tree) (ls : List Decl) → EachHasWords es
    → EachHasWords (new_values ps es ls)
values-words [] es [] is = tt
values-words [] es (d ∷ ds) is = (zero-word, values-words [] [] ds tt)
values-words (p ∷ ps) [] [] is = tt
values-words (p ∷ ps) [] (d ∷ ds) is = (zero-word, values-words [] [] ds tt)
values-words (OfValue label name ∷ ps) (e ∷ es) ls is = (is.0, values-words ps es ls is.1)
values-words (OfVariable name ∷ ps) (e ∷ es) ls is = values-words ps es ls is.1

choose-words : (c : Bool) (one other : Inlined) → BlockHasWords one.block → BlockHasWords other.block
    → BlockHasWords (if c then one else other).block
choose-words true one other first second = first
choose-words false one other first second = second

inlines-keep : (ps : List Procedure) → ProceduresFit ps → Keeps (inlines_of ps)
inlines-keep [] fit name to es next is = tt
inlines-keep (p ∷ ps) fit name to es next is =
    let values = new_values p.parameters es p.locals in
    let names = naming_all new_name no_name to next p.parameters es p.locals in
    let later = next + length (new_labels p.parameters es p.locals) in
    choose-words (bytes_eq name p.name) (inlined_call (inlines_of ps) p to es next) (inlines_of ps name to es next)
    (joined-words (assigned to next values) (inlined_all (inlines_of ps) names p.body later).block
    (assigned-words to next values (values-words p.parameters es p.locals is))
    (block-inlined (inlines_of ps) (inlines-keep ps fit.1) names p.body later fit.0))
    (inlines-keep ps fit.1 name to es next is)

-- procedures in the other order
reversed-onto : (ps qs : List Procedure) → ProceduresFit ps → ProceduresFit qs → ProceduresFit (ps ++ qs)
reversed-onto [] qs first second = second
reversed-onto (p ∷ ps) qs first second = (first.0, reversed-onto ps qs first.1 second)

reversed-fit : (ps : List Procedure) → ProceduresFit ps → ProceduresFit (reverse ps)
reversed-fit [] fit = tt
reversed-fit (p ∷ ps) fit =
    subst ProceduresFit (sym (reverse-cons p ps))
    (reversed-onto (reverse ps) (p ∷ []) (reversed-fit ps fit.1) (fit.0, tt))

-- ---- the program

abbrev IsNamed : Decl → Type 0
IsNamed d = IsTrue (is_name d.name)

added-named : (next : ℕ) (labels : List Label) → next + length labels ≤ 2 ^ 64 → All IsNamed (added next labels)
added-named next [] few = All-nil IsNamed
added-named next (label ∷ labels) few =
    All-cons IsNamed _ (added (next + 1) labels) (new_name_fits next (omega (arith, few)))
    (added-named (next + 1) labels (omega (arith, few)))

pub file-fits : {most : Limits} {ks : List Kind} {f : File} → SpellsFile most ks f
    → ((e : InlineError) → IsFirstCallFault f e → ⊥) → AllFit ks → ProgramFits (inlined_file f)
file-fits (AFile {front = front} {middle = middle} {back = back} {decls = decls} {procedures = procedures} {body = body}
    shown d ps w) faultless all =
    let f : File = record { decls = decls; procedures = procedures; body = body } in
    let behind = right-fit front (middle ++ back) all in
    let kept = inlines-keep (reverse procedures)
    (reversed-fit procedures (procedures-fit ps (left-fit middle back behind))) in
    record {
      words = block-inlined (inlines_of (reverse procedures)) kept kept_name body 0
          (block-fits w (right-fit middle back behind));
      named = All-append IsNamed decls (added 0 (inlined_body f).labels)
          (decls-named d (left-fit front (middle ++ back) all))
          (added-named 0 (inlined_body f).labels (omega (arith, few_labels f (no-fault f faultless))));
    }
