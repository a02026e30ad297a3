-- A text encodes at most one program.
use Rattle.std.proofs.Common.{◌≡◌, ℕ, List, subst, Ok, Err}
use Rattle.src_lexer.specs.declared.tokens.Token.{Token}
use Rattle.src_lexer.specs.declared.errors.LexFault.{LexFault}
use Rattle.src_lexer.specs.Prelude.{Lexed, Splits}
use Rattle.src_lexer.proofs.OneReading.{one_reading, same_tokens}
use Rattle.src_tree.specs.Prelude.{Source}
use Rattle.src_parser.specs.Prelude.{limits, Sentence, token_kinds, SpellsSource}
use Rattle.src_parser.proofs.Refused.{one_tree}

-- a text encodes at most one program
pub one_program : (text : List ℕ) (p q : Source) → SpellsSource text p → SpellsSource text q → p ≡ q
one_program text p q s t =
    let e = same_tokens 0 text t.tokens s.tokens t.split s.split in
    one_tree limits (token_kinds s.tokens) p q s.sentence (subst (λ z. Sentence limits (token_kinds z) q) e t.sentence)

no_both : (a : List Token) (e : LexFault) → ◌≡◌ {A = Lexed} (Ok a) (Err e) → ⊥
no_both a e f = cc

-- the text of a program splits into tokens without an error
pub no_fault : (text : List ℕ) (p : Source) (e : LexFault) → SpellsSource text p → Splits 0 text (Err e) → ⊥
no_fault text p e s f = no_both s.tokens e (one_reading 0 text (Ok s.tokens) (Err e) s.split f)
