-- The statements of a file with procedures are at the places that the scan finds.
use Rattle.std.proofs.Common.{◌≡◌, ℕ, ◌+◌, ◌<◌, ◌≤◌, List, [], ◌∷◌, ◌++◌, Option, Some, None, length, refl, sym, ◌∙◌, ap, subst, append_assoc, arith}
use Rattle.std.proofs.lemmas.List.{append-nil, length-append}
use Rattle.gr_word.specs.declared.variables.Label.TheVariants.{Public, Secret}
use Rattle.src_lexer.specs.declared.tokens.Kind.{Kind}
use Rattle.src_tree.specs.declared.trees.Decl.{Decl}
use Rattle.src_tree.specs.Prelude.{Tree}
use Rattle.src_parser.specs.Prelude.{limits}
use Rattle.procs_tree.specs.Prelude.{Statement, Block, Procedure, Parameter, File, block_of}
use Rattle.procs_parser.specs.Prelude.{with_calls, SpellsTrees, Last, Before, Arguments, NoArgument, Given, SpellsParameter, AScalar, AnArray, SpellsParameters, LastOne, Another, Parameters, NoParameter, SomeParameters, Locals, NoLocal, Local, Procedures, NoProcedure, AProcedure, SpellsBlock, SpellsFile, AFile, proc_word}
use Rattle.procs_parser.proofs.CallTokens.{IsCall, ACall}
use Rattle.procs_parser.proofs.BlocksSpelled.{block_again, block_spelled, spelled_block}
use Rattle.source_map.specs.declared.mapping.Phase.TheVariants.{Head, Within}
use Rattle.source_map.specs.declared.maps.SourceMap.{SourceMap}
use Rattle.source_map.specs.Maps.{IsMapOf, starts_of, ends_of}
use Rattle.source_map.specs.PlacedFiles.{FilePlaces, IsStatement, statements_in, statements_of_all}
use Rattle.source_map.specs.Places.{Places, NoMore}
use Rattle.source_map.specs.Scans.{At, scans, start}
use Rattle.source_map.proofs.Expressions.{Passes, expression_passes}
use Rattle.source_map.proofs.Laying.{Stand, scan_at, Laid, Closed, closed_simple}
use Rattle.source_map.proofs.PlacesBoth.{places_wider, places_both}
use Rattle.source_map.proofs.ProgramsPlaced.{declarations_pass}
use Rattle.source_map.proofs.Scanning.{scans_both}
use Rattle.source_map.proofs.StatementsLaid.{Numbers, statements_laid}
use Rattle.src_lexer.specs.declared.tokens.Kind.TheVariants as kind

-- in parentheses, these tokens leave the scan as it was
record Stays (tokens : List Kind) : Type 0 where
  leaves : (at : ℕ) (starts ends : List ℕ) (outer : List (Option ℕ)) (current : Option ℕ)
      → scans at (At starts ends outer current Within 1) tokens ≡ At starts ends outer current Within 1

passes_stay : {tokens : List Kind} → Passes tokens → Stays tokens
passes_stay p = record { leaves = λ at starts ends outer current. p.leaves at starts ends outer current 1 }

stays_both : (xs ys : List Kind) → Stays xs → Stays ys → Stays (xs ++ ys)
stays_both xs ys p q = record {
  leaves = λ at starts ends outer current.
      scans_both at (At starts ends outer current Within 1) xs ys
      ∙ ap (λ z. scans (at + length xs) z ys) (p.leaves at starts ends outer current)
      ∙ q.leaves (at + length xs) starts ends outer current;
}

semicolon_stays : Stays (kind.Semi ∷ [])
semicolon_stays = record { leaves = λ at starts ends outer current. refl }

nothing_stays : Stays []
nothing_stays = record { leaves = λ at starts ends outer current. refl }

trees_stay : {most : ℕ} {tokens : List Kind} {es : List Tree} → SpellsTrees most tokens es → Stays tokens
trees_stay (Last s) = passes_stay (expression_passes s)
trees_stay (Before {tokens = tokens} {rest = rest} s others) =
    stays_both tokens (kind.Semi ∷ rest) (passes_stay (expression_passes s))
    (stays_both (kind.Semi ∷ []) rest semicolon_stays (trees_stay others))

arguments_stay : {tokens : List Kind} {es : List Tree} → Arguments limits tokens es → Stays tokens
arguments_stay NoArgument = nothing_stays
arguments_stay (Given s few) = trees_stay s

parameter_stays : {tokens : List Kind} {p : Parameter} → SpellsParameter tokens p → Stays tokens
parameter_stays (AScalar Public name) = record { leaves = λ at starts ends outer current. refl }
parameter_stays (AScalar Secret name) = record { leaves = λ at starts ends outer current. refl }
parameter_stays (AnArray name) = record { leaves = λ at starts ends outer current. refl }

some_stay : {tokens : List Kind} {ps : List Parameter} → SpellsParameters tokens ps → Stays tokens
some_stay (LastOne p) = parameter_stays p
some_stay (Another {tokens = tokens} {rest = rest} p others) =
    stays_both tokens (kind.Semi ∷ rest) (parameter_stays p)
    (stays_both (kind.Semi ∷ []) rest semicolon_stays (some_stay others))

parameters_stay : {tokens : List Kind} {ps : List Parameter} → Parameters tokens ps → Stays tokens
parameters_stay NoParameter = nothing_stays
parameters_stay (SomeParameters s) = some_stay s

locals_pass : {tokens : List Kind} {decls : List Decl} → Locals tokens decls → (at : ℕ) (starts ends : List ℕ)
    (outer : List (Option ℕ))
    → scans at (At starts ends outer None Head 0) tokens ≡ At starts ends outer None Head 0
locals_pass NoLocal at starts ends outer = refl
locals_pass (Local Public name d) at starts ends outer = locals_pass d (at + 1 + 1 + 1 + 1) starts ends outer
locals_pass (Local Secret name d) at starts ends outer = locals_pass d (at + 1 + 1 + 1 + 1) starts ends outer

-- a call is one statement for the scan
call_begins : (x : Stand) (name : List ℕ) (tokens : List Kind) → Stays tokens
    → scans x.at (scan_at x) (kind.Word name ∷ kind.LParen ∷ (tokens ++ kind.RParen ∷ []))
    ≡ At (x.starts ++ x.at ∷ []) (x.ends ++ x.at ∷ []) x.outer (Some (length x.starts)) Within 0
call_begins x name tokens p =
    scans_both (x.at + 1 + 1)
    (At (x.starts ++ x.at ∷ []) (x.ends ++ x.at ∷ []) x.outer (Some (length x.starts)) Within 1) tokens
    (kind.RParen ∷ [])
    ∙ ap (λ z. scans (x.at + 1 + 1 + length tokens) z (kind.RParen ∷ []))
    (p.leaves (x.at + 1 + 1) (x.starts ++ x.at ∷ []) (x.ends ++ x.at ∷ []) x.outer (Some (length x.starts)))

call_closed : (whole tokens : List Kind) (s : Statement) → IsCall limits tokens s → (x : Stand)
    → Closed IsStatement whole x tokens []
call_closed whole tokens s (ACall {tokens = ts} name given) x =
    let front : List Kind = kind.Word name ∷ kind.LParen ∷ (ts ++ kind.RParen ∷ []) in
    let e : front ++ kind.Semi ∷ [] ≡ kind.Word name ∷ kind.LParen ∷ (ts ++ kind.RParen ∷ kind.Semi ∷ []) =
    simp append_assoc refl in
    subst (λ z. Closed IsStatement whole x z []) e
    (closed_simple IsStatement whole x front (omega arith) (call_begins x name ts (arguments_stay given)))

call_some : (tokens : List Kind) (s : Statement) → IsCall limits tokens s → 0 < length tokens
call_some tokens s (ACall name given) = omega arith

abbrev parts : List Statement → List Statement
parts ss = statements_in (block_of ss)

call_parts : (tokens : List Kind) (s : Statement) (others : List Statement) → IsCall limits tokens s
    → parts (s ∷ others) ≡ s ∷ parts others
call_parts tokens s others (ACall name given) = refl

numbers : (whole : List Kind) → Numbers with_calls (IsCall limits) IsStatement whole parts
numbers whole = record {
  none = refl;
  sets = λ name value others. refl;
  puts = λ name index value others. refl;
  chooses = λ test first others.
      ap (λ z. (with_calls.choice test first [] ∷ z) ++ parts others) (append-nil (parts first));
  chooses_else = λ test first second others. refl;
  repeats = λ test body others. refl;
  adds = call_parts;
  simple = call_closed whole;
  some = call_some;
  is = λ depth tokens s w. record { depth = depth; spells = spelled_block w };
}

block_laid : {whole tokens : List Kind} {depth : ℕ} {block : Block} → SpellsBlock limits depth tokens block
    → (x : Stand) (before after : List Kind) → whole ≡ before ++ (tokens ++ after) → x.at ≡ length before
    → Laid IsStatement whole x tokens (statements_in block)
block_laid {whole} {tokens} {block = block} w x before after split place =
    subst (λ z. Laid IsStatement whole x tokens (statements_in z)) (block_again block)
    (statements_laid (numbers whole) (block_spelled w) x before after split place)

-- where the scan stands outside of braces
abbrev outside : (at : ℕ) (starts ends : List ℕ) → length starts ≡ length ends → Stand
outside at starts ends even = record {
  at = at;
  starts = starts;
  ends = ends;
  outer = [];
  current = None;
  even = even;
}

-- these tokens are scanned as these statements of procedures, with their places
record LaidOut (whole : List Kind) (at : ℕ) (old_starts old_ends : List ℕ) (tokens : List Kind)
    (xs : List Statement) : Type 0 where
  starts : List ℕ
  ends : List ℕ
  even : length starts ≡ length ends
  scan : scans at (At old_starts old_ends [] None Head 0) tokens
      ≡ At (old_starts ++ starts) (old_ends ++ ends) [] None Head 0
  places : Places IsStatement whole at (at + length tokens) xs starts ends

even_both : (a b c d : List ℕ) → length a ≡ length b → length c ≡ length d → length (a ++ c) ≡ length (b ++ d)
even_both a b c d e f = length-append a c ∙ ap (λ n. n + length c) e ∙ ap (λ n. length b + n) f
    ∙ sym (length-append b d)

-- the head and the locals of a procedure
head_scans : (at : ℕ) (starts ends : List ℕ) (name : List ℕ) (ps ls : List Kind) → Stays ps
    → ((k : ℕ) → scans k (At starts ends (None ∷ []) None Head 0) ls ≡ At starts ends (None ∷ []) None Head 0)
    → scans at (At starts ends [] None Head 0)
    (kind.Word proc_word ∷ kind.Word name ∷ kind.LParen ∷ (ps ++ kind.RParen ∷ kind.LBrace ∷ ls))
    ≡ At starts ends (None ∷ []) None Head 0
head_scans at starts ends name ps ls p q =
    scans_both (at + 1 + 1 + 1) (At starts ends [] None Within 1) ps (kind.RParen ∷ kind.LBrace ∷ ls)
    ∙ ap (λ z. scans (at + 1 + 1 + 1 + length ps) z (kind.RParen ∷ kind.LBrace ∷ ls))
    (p.leaves (at + 1 + 1 + 1) starts ends [] None)
    ∙ q (at + 1 + 1 + 1 + length ps + 1 + 1)

-- how lists are put together otherwise
in_block : (before head body close rest after : List Kind)
    → before ++ (((head ++ (body ++ close)) ++ rest) ++ after)
    ≡ (before ++ head) ++ (body ++ (close ++ (rest ++ after)))
in_block before head body close rest after = simp append_assoc refl

past_own : (before own rest after : List Kind)
    → before ++ ((own ++ rest) ++ after) ≡ (before ++ own) ++ (rest ++ after)
past_own before own rest after = simp append_assoc refl

flat : (ps middle body close rest : List Kind)
    → ((ps ++ middle) ++ (body ++ close)) ++ rest ≡ ps ++ (middle ++ (body ++ (close ++ rest)))
flat ps middle body close rest = simp append_assoc refl

procedures_laid : {whole tokens : List Kind} {procedures : List Procedure} → Procedures limits tokens procedures
    → (at : ℕ) (starts ends : List ℕ) → length starts ≡ length ends → (before after : List Kind)
    → whole ≡ before ++ (tokens ++ after) → at ≡ length before
    → LaidOut whole at starts ends tokens (statements_of_all procedures)
procedures_laid NoProcedure at starts ends even before after split place = record {
  starts = [];
  ends = [];
  even = refl;
  scan = ap (λ z. At z ends [] None Head 0) (sym (append-nil starts))
      ∙ ap (λ z. At (starts ++ []) z [] None Head 0) (sym (append-nil ends));
  places = NoMore (let e : at ≤ at + 0 = omega arith in e);
}
procedures_laid {whole} {tokens}
    (AProcedure {ps = ps} {ls = ls} {body = body} {rest = rest} {block = block} {others = others} name parameters room
    locals w more)
    at starts ends even before after split place =
    let head : List Kind =
    kind.Word proc_word ∷ kind.Word name ∷ kind.LParen ∷ (ps ++ kind.RParen ∷ kind.LBrace ∷ ls) in
    let own : List Kind = head ++ (body ++ kind.RBrace ∷ []) in
    let e : own ++ rest ≡ tokens =
    ap (λ z. kind.Word proc_word ∷ kind.Word name ∷ kind.LParen ∷ z)
    (flat ps (kind.RParen ∷ kind.LBrace ∷ ls) body (kind.RBrace ∷ []) rest) in
    let split_own : whole ≡ before ++ ((own ++ rest) ++ after) =
    split ∙ ap (λ z. before ++ (z ++ after)) (sym e) in
    let x : Stand = record {
      at = at + length head;
      starts = starts;
      ends = ends;
      outer = None ∷ [];
      current = None;
      even = even;
    } in
    let inner : Laid IsStatement whole x body (statements_in block) =
    block_laid w x (before ++ head) (kind.RBrace ∷ (rest ++ after))
    (split_own ∙ in_block before head body (kind.RBrace ∷ []) rest after)
    (ap (λ k. k + length head) place ∙ sym (length-append before head)) in
    let next : LaidOut whole (at + length own) (starts ++ inner.starts) (ends ++ inner.ends) rest
    (statements_of_all others) =
    procedures_laid more (at + length own) (starts ++ inner.starts) (ends ++ inner.ends)
    (even_both starts ends inner.starts inner.ends even inner.even) (before ++ own) after
    (split_own ∙ past_own before own rest after) (ap (λ k. k + length own) place ∙ sym (length-append before own)) in
    let own_scan : scans at (At starts ends [] None Head 0) own
    ≡ At (starts ++ inner.starts) (ends ++ inner.ends) [] None Head 0 =
    scans_both at (At starts ends [] None Head 0) head (body ++ kind.RBrace ∷ [])
    ∙ ap (λ z. scans (at + length head) z (body ++ kind.RBrace ∷ []))
    (head_scans at starts ends name ps ls (parameters_stay parameters)
    (λ k. locals_pass locals k starts ends (None ∷ [])))
    ∙ scans_both (at + length head) (scan_at x) body (kind.RBrace ∷ [])
    ∙ ap (λ z. scans (at + length head + length body) z (kind.RBrace ∷ [])) inner.scan in
    let long : at + length own ≡ at + length head + length body + 1 =
    omega (arith, length-append head (body ++ kind.RBrace ∷ []), length-append body (kind.RBrace ∷ [])) in
    subst (λ z. LaidOut whole at starts ends z (statements_in block ++ statements_of_all others)) e
    (record {
      starts = inner.starts ++ next.starts;
      ends = inner.ends ++ next.ends;
      even = even_both inner.starts inner.ends next.starts next.ends inner.even next.even;
      scan = scans_both at (At starts ends [] None Head 0) own rest
          ∙ ap (λ z. scans (at + length own) z rest) own_scan ∙ next.scan
          ∙ ap (λ z. At z ((ends ++ inner.ends) ++ next.ends) [] None Head 0)
          (append_assoc starts inner.starts next.starts)
          ∙ ap (λ z. At (starts ++ (inner.starts ++ next.starts)) z [] None Head 0)
          (append_assoc ends inner.ends next.ends);
      places = places_wider at (at + length (own ++ rest)) (let h : at ≤ at = omega arith in h)
          (let h : at + length own + length rest ≤ at + length (own ++ rest) =
          omega (arith, length-append own rest) in h)
          (places_both
          (places_wider at (at + length own) (let h : at ≤ at + length head = omega arith in h)
          (let h : at + length head + length body ≤ at + length own = omega (arith, long) in h) inner.places)
          next.places (let h : at + length own ≤ at + length own + length rest = omega arith in h));
    })

pub file_places : (tokens : List Kind) (file : File) → SpellsFile limits tokens file
    → FilePlaces tokens file (starts_of (scans 0 start tokens)) (ends_of (scans 0 start tokens))
file_places tokens file
    (AFile {front = front} {middle = middle} {back = back} {procedures = procedures} {body = body} hidden d p w) =
    let whole : List Kind = front ++ (middle ++ back) in
    let first : LaidOut whole (length front) [] [] middle (statements_of_all procedures) =
    procedures_laid p (length front) [] [] refl front back refl refl in
    let x : Stand = outside (length front + length middle) first.starts first.ends first.even in
    let laid : Laid IsStatement whole x back (statements_in body) =
    block_laid w x (front ++ middle) []
    (sym (append_assoc front middle back) ∙ ap (λ z. (front ++ middle) ++ z) (sym (append-nil back)))
    (sym (length-append front middle)) in
    let scan : scans 0 start whole ≡ At (first.starts ++ laid.starts) (first.ends ++ laid.ends) [] laid.current Head 0 =
    scans_both 0 start front (middle ++ back)
    ∙ ap (λ z. scans (0 + length front) z (middle ++ back)) (declarations_pass d 0)
    ∙ ap (λ k. scans k start (middle ++ back)) (let e : 0 + length front ≡ length front = omega arith in e)
    ∙ scans_both (length front) start middle back
    ∙ ap (λ z. scans (length front + length middle) z back) first.scan ∙ laid.scan in
    subst (λ z. Places IsStatement whole 0 (length whole) (statements_of_all procedures ++ statements_in body)
    (starts_of z) (ends_of z)) (sym scan)
    (places_wider 0 (length whole) (omega arith)
    (let e : length front + length middle + length back ≤ length whole =
    omega (arith, length-append front (middle ++ back), length-append middle back) in e)
    (places_both first.places laid.places
    (let e : length front + length middle ≤ length front + length middle + length back = omega arith in e)))

-- the places that a map has are those of the file
pub map_places : (tokens : List Kind) (file : File) (map : SourceMap) → SpellsFile limits tokens file
    → IsMapOf tokens map → FilePlaces tokens file map.starts.items map.ends.items
map_places tokens file map spells made =
    subst (λ z. FilePlaces tokens file z map.ends.items) (sym made.starts)
    (subst (λ z. FilePlaces tokens file (starts_of (scans 0 start tokens)) z) (sym made.ends)
    (file_places tokens file spells))
