-- The tokens of an expression, and of a guard, leave the scan as it was.
use Rattle.std.proofs.Common.{◌≡◌, ℕ, ◌+◌, ◌-◌, List, [], ◌∷◌, ◌++◌, Option, Some, length, refl, ◌∙◌, ap, arith}
use Rattle.gr_word.specs.declared.operations.Op.{Op}
use Rattle.gr_word.specs.declared.operations.Cmp.{Cmp}
use Rattle.src_lexer.specs.declared.tokens.Kind.{Kind}
use Rattle.src_tree.specs.Prelude.{Tree, Test}
use Rattle.src_parser.specs.Prelude.{Limits, SpellsTree, Numeral, Named, Indexed, Bracketed, Negated, Joined, Compares, Compared, operator_of, comparison_of}
use Rattle.source_map.specs.declared.mapping.Phase.TheVariants.{Within}
use Rattle.source_map.specs.Scans.{At, scanned, scans}
use Rattle.source_map.proofs.Scanning.{scans_both}
use Rattle.src_lexer.specs.declared.tokens.Kind.TheVariants as kind

-- in a statement, these tokens leave the scan as it was
pub record Passes (tokens : List Kind) : Type 0 where
  pub leaves : (at : ℕ) (starts ends : List ℕ) (outer : List (Option ℕ)) (current : Option ℕ) (round : ℕ)
      → scans at (At starts ends outer current Within round) tokens ≡ At starts ends outer current Within round

pub passes_both : (xs ys : List Kind) → Passes xs → Passes ys → Passes (xs ++ ys)
passes_both xs ys p q = record {
  leaves = λ at starts ends outer current round.
      scans_both at (At starts ends outer current Within round) xs ys
      ∙ ap (λ z. scans (at + length xs) z ys) (p.leaves at starts ends outer current round)
      ∙ q.leaves (at + length xs) starts ends outer current round;
}

-- a token that leaves the scan as it was
pub record IsPlain (k : Kind) : Type 0 where
  pub leaves : (at : ℕ) (starts ends : List ℕ) (outer : List (Option ℕ)) (current : Option ℕ) (round : ℕ)
      → scanned at (At starts ends outer current Within round) k ≡ At starts ends outer current Within round

pub plain_passes : (k : Kind) → IsPlain k → Passes (k ∷ [])
plain_passes k p = record { leaves = λ at starts ends outer current round. p.leaves at starts ends outer current round }

pub operator_plain : (k : Kind) (op : Op) → operator_of k ≡ Some op → IsPlain k
operator_plain kind.If op e = absurd (cc)
operator_plain kind.While op e = absurd (cc)
operator_plain kind.Semi op e = absurd (cc)
operator_plain kind.LParen op e = absurd (cc)
operator_plain kind.RParen op e = absurd (cc)
operator_plain kind.LBrace op e = absurd (cc)
operator_plain kind.RBrace op e = absurd (cc)
operator_plain k op e = record { leaves = λ at starts ends outer current round. refl }

pub comparison_plain : (k : Kind) (cmp : Cmp) → comparison_of k ≡ Some cmp → IsPlain k
comparison_plain kind.If cmp e = absurd (cc)
comparison_plain kind.While cmp e = absurd (cc)
comparison_plain kind.Semi cmp e = absurd (cc)
comparison_plain kind.LParen cmp e = absurd (cc)
comparison_plain kind.RParen cmp e = absurd (cc)
comparison_plain kind.LBrace cmp e = absurd (cc)
comparison_plain kind.RBrace cmp e = absurd (cc)
comparison_plain k cmp e = record { leaves = λ at starts ends outer current round. refl }

-- tokens in parentheses
pub bracketed_passes : (tokens : List Kind) → Passes tokens → Passes (kind.LParen ∷ (tokens ++ kind.RParen ∷ []))
bracketed_passes tokens p = record {
  leaves = λ at starts ends outer current round.
      scans_both (at + 1) (At starts ends outer current Within (round + 1)) tokens (kind.RParen ∷ [])
      ∙ ap (λ z. scans (at + 1 + length tokens) z (kind.RParen ∷ []))
      (p.leaves (at + 1) starts ends outer current (round + 1))
      ∙ ap (At starts ends outer current Within) (let e : round + 1 - 1 ≡ round = omega arith in e);
}

word_passes : (name : List ℕ) → Passes (kind.Word name ∷ [])
word_passes name = record { leaves = λ at starts ends outer current round. refl }

pub expression_passes : {most depth level : ℕ} {tokens : List Kind} {tree : Tree}
    → SpellsTree most depth level tokens tree → Passes tokens
expression_passes (Numeral n) = record { leaves = λ at starts ends outer current round. refl }
expression_passes (Named name) = word_passes name
expression_passes (Indexed {tokens = tokens} name room s) =
    passes_both (kind.Word name ∷ kind.LBracket ∷ []) (tokens ++ kind.RBracket ∷ [])
    (record { leaves = λ at starts ends outer current round. refl })
    (passes_both tokens (kind.RBracket ∷ []) (expression_passes s)
    (record { leaves = λ at starts ends outer current round. refl }))
expression_passes (Bracketed {tokens = tokens} room s) = bracketed_passes tokens (expression_passes s)
expression_passes (Negated {tokens = tokens} room s) =
    passes_both (kind.Minus ∷ []) tokens (record { leaves = λ at starts ends outer current round. refl })
    (expression_passes s)
expression_passes (Joined {left = left} {right = right} op sign low is s t) =
    passes_both left (sign ∷ right) (expression_passes s)
    (passes_both (sign ∷ []) right (plain_passes sign (operator_plain sign op is)) (expression_passes t))

pub guard_passes : {most : Limits} {tokens : List Kind} {test : Test} → Compares most tokens test → Passes tokens
guard_passes (Compared {left = left} {right = right} cmp sign is s t few) =
    passes_both left (sign ∷ right) (expression_passes s)
    (passes_both (sign ∷ []) right (plain_passes sign (comparison_plain sign cmp is)) (expression_passes t))
