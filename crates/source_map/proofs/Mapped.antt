-- A mapper that read some tokens, and then others.
use Rattle.std.proofs.Common.{◌≡◌, ◌+◌, List, ◌++◌, length, sym, ◌∙◌, ap, arith}
use Rattle.std.proofs.lemmas.List.{length-append, length-map, map-append}
use Rattle.src_lexer.specs.declared.tokens.Token.{Token}
use Rattle.src_parser.specs.Refusals.{token_kinds}
use Rattle.source_map.specs.declared.mapping.Mapper.{Mapper}
use Rattle.source_map.specs.Scans.{scan_of, scans, start}
use Rattle.source_map.specs.Maps.{HasMapped}
use Rattle.source_map.proofs.Scanning.{scans_both}

pub mapped_more : (before tokens : List Token) (old new : Mapper) → HasMapped (token_kinds before) old
    → scan_of new ≡ scans old.count (scan_of old) (token_kinds tokens) → new.count ≡ old.count + length tokens
    → HasMapped (token_kinds (before ++ tokens)) new
mapped_more before tokens old new has scan count =
    let both : token_kinds (before ++ tokens) ≡ token_kinds before ++ token_kinds tokens =
    map-append (λ token. token.kind) before tokens in
    let more : length (token_kinds (before ++ tokens)) ≡ length (token_kinds before) + length tokens =
    ap length both ∙ length-append (token_kinds before) (token_kinds tokens)
    ∙ ap (λ n. length (token_kinds before) + n) (length-map tokens (λ token. token.kind)) in
    record {
      scan = scan ∙ ap (λ n. scans n (scan_of old) (token_kinds tokens)) has.count
          ∙ ap (λ z. scans (length (token_kinds before)) z (token_kinds tokens)) has.scan
          ∙ ap (λ n. scans n (scans 0 start (token_kinds before)) (token_kinds tokens))
          (let e : length (token_kinds before) ≡ 0 + length (token_kinds before) = omega arith in e)
          ∙ sym (scans_both 0 start (token_kinds before) (token_kinds tokens))
          ∙ ap (scans 0 start) (sym both);
      count = count ∙ ap (λ n. n + length tokens) has.count ∙ sym more;
    }
