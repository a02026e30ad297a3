-- For the proofs and for private clauses only: how the places of statements are found token by token.
use Rattle.std.specs.Prelude.{ℕ, ◌+◌, ◌-◌, nat_eq, List, [], ◌∷◌, ◌++◌, Option, Some, None, length, if◌then◌else◌, slice_set, reverse}
use Rattle.src_lexer.specs.declared.tokens.Kind.{Kind}
use Rattle.source_map.specs.declared.mapping.Mapper.{Mapper}
use Rattle.source_map.specs.declared.mapping.Phase.{Phase}
use Rattle.source_map.specs.declared.mapping.Phase.TheVariants.{Head, Named, Within}
use Rattle.src_lexer.specs.declared.tokens.Kind.TheVariants as kind

-- The state of a `Mapper`, with the innermost open brace first.
pub data Scan : Type 0 where
  At : (starts ends : List ℕ) (open_ones : List (Option ℕ)) (current : Option ℕ) (phase : Phase) (round : ℕ) → Scan

abbrev pub scan_of : Mapper → Scan
scan_of m = At m.starts.items m.ends.items (reverse m.open.items) m.current m.phase m.round

abbrev pub start : Scan
start = At [] [] [] None Head 0

-- the end of a statement is set, if there is one
abbrev pub ended : List ℕ → Option ℕ → ℕ → List ℕ
ended ends None end = ends
ended ends (Some number) end = slice_set ends number end

-- a statement begins at a token
abbrev pub begun : ℕ → Scan → Scan
begun first (At starts ends outer current phase round) =
    At (starts ++ first ∷ []) (ends ++ first ∷ []) outer (Some (length starts)) Within round

-- a semicolon ends what began, unless it is in parentheses
abbrev pub semicolon : ℕ → Scan → Scan
semicolon at (At starts ends outer current phase round) =
    if nat_eq round 0 then At starts (ended ends current (at + 1)) outer current Head round
    else At starts ends outer current Within round

-- a token that isn't the name that begins a statement, nor a name after it
abbrev pub inside : ℕ → Scan → Kind → Scan
inside at scan kind.If = begun at scan
inside at scan kind.While = begun at scan
inside at scan kind.Semi = semicolon at scan
inside at (At starts ends outer current phase round) kind.LParen = At starts ends outer current Within (round + 1)
inside at (At starts ends outer current phase round) kind.RParen = At starts ends outer current Within (round - 1)
inside at (At starts ends outer current phase round) kind.LBrace = At starts ends (current ∷ outer) current Head round
inside at (At starts ends [] current phase round) kind.RBrace = At starts ends [] None Head round
inside at (At starts ends (owner ∷ outer) current phase round) kind.RBrace =
    At starts (ended ends owner (at + 1)) outer owner Head round
inside at (At starts ends outer current phase round) _ = At starts ends outer current Within round

-- the token of a number: two names in a row are the head of a procedure
abbrev pub scanned : ℕ → Scan → Kind → Scan
scanned at (At starts ends outer current Head round) (kind.Word name) = At starts ends outer current (Named at) round
scanned at (At starts ends outer current (Named first) round) (kind.Word name) =
    At starts ends outer None Within round
scanned at (At starts ends outer current (Named first) round) k =
    inside at (begun first (At starts ends outer current (Named first) round)) k
scanned at scan k = inside at scan k

-- tokens in order, the first of which has a number
abbrev pub scans : ℕ → Scan → List Kind → Scan
scans at scan [] = scan
scans at scan (k ∷ ks) = scans (at + 1) (scanned at scan k) ks
