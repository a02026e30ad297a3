-- The statements of a program are at the places that the scan finds.
use Rattle.std.proofs.Common.{◌≡◌, ℕ, ◌+◌, ◌≤◌, List, [], ◌∷◌, ◌++◌, None, length, refl, sym, ◌∙◌, ap, subst, arith}
use Rattle.std.proofs.lemmas.List.{append-nil, length-append}
use Rattle.src_lexer.specs.declared.tokens.Kind.{Kind}
use Rattle.gr_word.specs.declared.variables.Label.TheVariants.{Public, Secret}
use Rattle.src_tree.specs.declared.trees.Decl.{Decl}
use Rattle.src_tree.specs.Prelude.{Statement, Source, block_of}
use Rattle.src_parser.specs.Prelude.{limits, programs, Declares, NoMore, Scalar, Array, Sentence, Program}
use Rattle.src_parser.proofs.Written.{NoOwn, statements_of, block_again, written_spelled, spelled_written}
use Rattle.source_map.specs.declared.mapping.Phase.TheVariants.{Head}
use Rattle.source_map.specs.Places.{IsStatement, Places, StatementPlaces, statements_in}
use Rattle.source_map.specs.declared.maps.SourceMap.{SourceMap}
use Rattle.source_map.specs.Maps.{IsMapOf, starts_of, ends_of}
use Rattle.source_map.specs.Scans.{At, scans, start}
use Rattle.source_map.proofs.Scanning.{scans_both}
use Rattle.source_map.proofs.Laying.{Stand, Laid}
use Rattle.source_map.proofs.PlacesBoth.{places_wider}
use Rattle.source_map.proofs.StatementsLaid.{Numbers, statements_laid}

-- declarations leave the scan as it was
pub declarations_pass : {tokens : List Kind} {decls : List Decl} → Declares tokens decls → (at : ℕ)
    → scans at start tokens ≡ start
declarations_pass NoMore at = refl
declarations_pass (Scalar Public name d) at = declarations_pass d (at + 1 + 1 + 1 + 1)
declarations_pass (Scalar Secret name d) at = declarations_pass d (at + 1 + 1 + 1 + 1)
declarations_pass (Array Public name n d) at = declarations_pass d (at + 1 + 1 + 1 + 1 + 1 + 1 + 1)
declarations_pass (Array Secret name n d) at = declarations_pass d (at + 1 + 1 + 1 + 1 + 1 + 1 + 1)

abbrev parts : List Statement → List Statement
parts ss = statements_in (block_of ss)

numbers : (whole : List Kind) → Numbers programs NoOwn IsStatement whole parts
numbers whole = record {
  none = refl;
  sets = λ name value others. refl;
  puts = λ name index value others. refl;
  chooses = λ test first others.
      ap (λ z. (programs.choice test first [] ∷ z) ++ parts others) (append-nil (parts first));
  chooses_else = λ test first second others. refl;
  repeats = λ test body others. refl;
  adds = λ tokens s others own. absurd own;
  simple = λ tokens s own x. absurd own;
  some = λ tokens s own. absurd own;
  is = λ depth tokens s w. record { depth = depth; writes = spelled_written w };
}

-- where the statements of a program begin
abbrev stand : (at : ℕ) → Stand
stand at = record { at = at; starts = []; ends = []; outer = []; current = None; even = refl }

pub sentence_places : (tokens : List Kind) (source : Source) → Sentence limits tokens source
    → StatementPlaces tokens source.body (starts_of (scans 0 start tokens)) (ends_of (scans 0 start tokens))
sentence_places tokens source (Program {front = front} {back = back} {body = body} d w) =
    let laid : Laid IsStatement (front ++ back) (stand (length front)) back (parts (statements_of body)) =
    statements_laid (numbers (front ++ back)) (written_spelled w) (stand (length front)) front []
    (ap (λ z. front ++ z) (sym (append-nil back))) refl in
    let scanned : scans 0 start (front ++ back) ≡ At laid.starts laid.ends [] laid.current Head 0 =
    scans_both 0 start front back ∙ ap (λ z. scans (0 + length front) z back) (declarations_pass d 0)
    ∙ ap (λ k. scans k start back) (let e : 0 + length front ≡ length front = omega arith in e) ∙ laid.scan in
    subst (λ z. StatementPlaces (front ++ back) body (starts_of z) (ends_of z)) (sym scanned)
    (subst (λ z. Places IsStatement (front ++ back) 0 (length (front ++ back)) (statements_in z) laid.starts laid.ends)
    (block_again body)
    (places_wider 0 (length (front ++ back)) (omega arith)
    (let e : length front + length back ≤ length (front ++ back) = omega (arith, length-append front back) in e)
    laid.places))

-- the places that a map has are those of the program
pub program_places : (tokens : List Kind) (source : Source) (map : SourceMap) → Sentence limits tokens source
    → IsMapOf tokens map → StatementPlaces tokens source.body map.starts.items map.ends.items
program_places tokens source map sentence made =
    subst (λ z. StatementPlaces tokens source.body z map.ends.items) (sym made.starts)
    (subst (λ z. StatementPlaces tokens source.body (starts_of (scans 0 start tokens)) z) (sym made.ends)
    (sentence_places tokens source sentence))
