-- The statements of files by their grammar, as those of any language.
use Rattle.std.proofs.Common.{◌≡◌, ℕ, List, [], ◌∷◌, ◌++◌, refl, ap, subst, append_assoc}
use Rattle.src_lexer.specs.declared.tokens.Kind.{Kind}
use Rattle.procs_tree.specs.Prelude.{Statement, Choice, Loop, Call, Block, Nothing, Then, block_of}
use Rattle.src_parser.specs.Prelude.{Limits}
use Rattle.src_parser.proofs.Spelled.{Spelled, NoneLeft, Assigns, Stores, Decides, DecidesElse, Loops, Adds, spelled_at}
use Rattle.procs_parser.specs.Prelude.{with_calls, SpellsBlock, Ends, Sets, Puts, Calls, Chooses, ChoosesElse, Repeats}
use Rattle.procs_parser.proofs.CallTokens.{IsCall, ACall}
use Rattle.src_lexer.specs.declared.tokens.Kind.TheVariants as kind

-- the statements of a block
abbrev pub statements_of : Block → List Statement
statements_of Nothing = []
statements_of (Then s block) = s ∷ statements_of block

pub block_again : (block : Block) → block_of (statements_of block) ≡ block
block_again Nothing = refl
block_again (Then s block) = ap (Then s) (block_again block)

pub block_spelled : {most : Limits} {depth : ℕ} {tokens : List Kind} {block : Block}
    → SpellsBlock most depth tokens block
    → Spelled with_calls (IsCall most) most depth tokens (statements_of block)
block_spelled Ends = NoneLeft
block_spelled (Sets name s fits w) = Assigns name s fits (block_spelled w)
block_spelled (Puts name i s fits w) = Stores name i s fits (block_spelled w)
block_spelled (Calls {tokens = tokens} {rest = rest} name given w) =
    spelled_at _ _ (simp append_assoc refl) (Adds (ACall name given) (block_spelled w))
block_spelled {most} {depth} {tokens} (Chooses {test = test} {first = first} {block = block} g room inner w) =
    subst (λ z. Spelled with_calls (IsCall most) most depth tokens (Choice test z Nothing ∷ statements_of block))
    (block_again first) (Decides g room (block_spelled inner) (block_spelled w))
block_spelled {most} {depth} {tokens}
    (ChoosesElse {test = test} {first = first} {second = second} {block = block} g room inner other w) =
    subst (λ z. Spelled with_calls (IsCall most) most depth tokens (Choice test first z ∷ statements_of block))
    (block_again second)
    (subst (λ z. Spelled with_calls (IsCall most) most depth tokens
    (Choice test z (block_of (statements_of second)) ∷ statements_of block)) (block_again first)
    (DecidesElse g room (block_spelled inner) (block_spelled other) (block_spelled w)))
block_spelled {most} {depth} {tokens} (Repeats {test = test} {body = body} {block = block} g room inner w) =
    subst (λ z. Spelled with_calls (IsCall most) most depth tokens (Loop test z ∷ statements_of block))
    (block_again body) (Loops g room (block_spelled inner) (block_spelled w))

call_first : {most : Limits} {depth : ℕ} {tokens rest : List Kind} {s : Statement} {block : Block}
    → IsCall most tokens s → SpellsBlock most depth rest block → SpellsBlock most depth (tokens ++ rest) (Then s block)
call_first {most} {depth} {rest = rest} {block = block} (ACall {tokens = tokens} {es = es} name given) w =
    subst (λ z. SpellsBlock most depth (kind.Word name ∷ kind.LParen ∷ z) (Then (Call name es) block))
    (simp append_assoc refl) (Calls name given w)

pub spelled_block : {most : Limits} {depth : ℕ} {tokens : List Kind} {ss : List Statement}
    → Spelled with_calls (IsCall most) most depth tokens ss → SpellsBlock most depth tokens (block_of ss)
spelled_block NoneLeft = Ends
spelled_block (Assigns name s fits w) = Sets name s fits (spelled_block w)
spelled_block (Stores name i s fits w) = Puts name i s fits (spelled_block w)
spelled_block (Decides g room inner w) = Chooses g room (spelled_block inner) (spelled_block w)
spelled_block (DecidesElse g room inner other w) =
    ChoosesElse g room (spelled_block inner) (spelled_block other) (spelled_block w)
spelled_block (Loops g room inner w) = Repeats g room (spelled_block inner) (spelled_block w)
spelled_block (Adds own w) = call_first own (spelled_block w)
