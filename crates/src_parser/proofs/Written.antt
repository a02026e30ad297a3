-- The statements of programs by their grammar, as those of any language.
use Rattle.std.proofs.Common.{◌≡◌, ℕ, List, [], ◌∷◌, refl, ap, subst}
use Rattle.src_lexer.specs.declared.tokens.Kind.{Kind}
use Rattle.src_tree.specs.Prelude.{Statement, Choice, Loop, Block, Nothing, Then, block_of}
use Rattle.src_parser.specs.Prelude.{programs, Limits, Writes, Ends, Sets, Puts, Chooses, ChoosesElse, Repeats}
use Rattle.src_parser.proofs.Spelled.{Spelled, NoneLeft, Assigns, Stores, Decides, DecidesElse, Loops, Adds}

-- programs have no statements besides assignments, choices and loops
abbrev pub NoOwn : List Kind → Statement → Type 0
NoOwn tokens s = ⊥

-- the statements of a block
abbrev pub statements_of : Block → List Statement
statements_of Nothing = []
statements_of (Then s block) = s ∷ statements_of block

pub block_again : (block : Block) → block_of (statements_of block) ≡ block
block_again Nothing = refl
block_again (Then s block) = ap (Then s) (block_again block)

pub written_spelled : {most : Limits} {depth : ℕ} {tokens : List Kind} {block : Block}
    → Writes most depth tokens block → Spelled programs NoOwn most depth tokens (statements_of block)
written_spelled Ends = NoneLeft
written_spelled (Sets name s fits w) = Assigns name s fits (written_spelled w)
written_spelled (Puts name i s fits w) = Stores name i s fits (written_spelled w)
written_spelled {most} {depth} {tokens} (Chooses {test = test} {first = first} {block = block} g room inner w) =
    subst (λ z. Spelled programs NoOwn most depth tokens (Choice test z Nothing ∷ statements_of block))
    (block_again first) (Decides g room (written_spelled inner) (written_spelled w))
written_spelled {most} {depth} {tokens}
    (ChoosesElse {test = test} {first = first} {second = second} {block = block} g room inner other w) =
    subst (λ z. Spelled programs NoOwn most depth tokens (Choice test first z ∷ statements_of block))
    (block_again second)
    (subst (λ z. Spelled programs NoOwn most depth tokens
    (Choice test z (block_of (statements_of second)) ∷ statements_of block)) (block_again first)
    (DecidesElse g room (written_spelled inner) (written_spelled other) (written_spelled w)))
written_spelled {most} {depth} {tokens} (Repeats {test = test} {body = body} {block = block} g room inner w) =
    subst (λ z. Spelled programs NoOwn most depth tokens (Loop test z ∷ statements_of block))
    (block_again body) (Loops g room (written_spelled inner) (written_spelled w))

pub spelled_written : {most : Limits} {depth : ℕ} {tokens : List Kind} {ss : List Statement}
    → Spelled programs NoOwn most depth tokens ss → Writes most depth tokens (block_of ss)
spelled_written NoneLeft = Ends
spelled_written (Assigns name s fits w) = Sets name s fits (spelled_written w)
spelled_written (Stores name i s fits w) = Puts name i s fits (spelled_written w)
spelled_written (Decides g room inner w) = Chooses g room (spelled_written inner) (spelled_written w)
spelled_written (DecidesElse g room inner other w) =
    ChoosesElse g room (spelled_written inner) (spelled_written other) (spelled_written w)
spelled_written (Loops g room inner w) = Repeats g room (spelled_written inner) (spelled_written w)
spelled_written (Adds own w) = absurd own
