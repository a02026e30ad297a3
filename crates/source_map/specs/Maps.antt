-- For the proofs and for private clauses only: the map that a scan of tokens yields.
use Rattle.std.specs.Prelude.{◌≡◌, ℕ, List, length}
use Rattle.src_lexer.specs.declared.tokens.Kind.{Kind}
use Rattle.source_map.specs.declared.mapping.Mapper.{Mapper}
use Rattle.source_map.specs.declared.maps.SourceMap.{SourceMap}
use Rattle.source_map.specs.Scans.{Scan, At, scan_of, scans, start}

abbrev pub starts_of : Scan → List ℕ
starts_of (At starts ends outer current phase round) = starts

abbrev pub ends_of : Scan → List ℕ
ends_of (At starts ends outer current phase round) = ends

-- this map is made of these tokens
pub record IsMapOf (tokens : List Kind) (map : SourceMap) : Type 0 where
  pub starts : map.starts.items ≡ starts_of (scans 0 start tokens)
  pub ends : map.ends.items ≡ ends_of (scans 0 start tokens)

-- exactly these tokens were read
pub record HasMapped (tokens : List Kind) (mapper : Mapper) : Type 0 where
  pub scan : scan_of mapper ≡ scans 0 start tokens
  pub count : mapper.count ≡ length tokens
