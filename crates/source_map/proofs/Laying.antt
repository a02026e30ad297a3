-- Statements and blocks, as they are scanned and where they are.
use Rattle.std.proofs.Common.{◌≡◌, ℕ, suc, ◌+◌, ◌<◌, ◌≤◌, List, [], ◌∷◌, ◌++◌, Option, Some, length, set, refl, sym, ◌∙◌, ap, append_assoc, arith}
use Rattle.std.proofs.lemmas.List.{append-nil, length-append}
use Rattle.std.proofs.Math.Seq.{set-append_seam}
use Rattle.src_lexer.specs.declared.tokens.Kind.{Kind}
use Rattle.source_map.specs.declared.mapping.Phase.TheVariants.{Head, Within}
use Rattle.source_map.specs.Places.{Places, NoMore, Next}
use Rattle.source_map.specs.Scans.{Scan, At, scanned, scans}
use Rattle.source_map.proofs.Scanning.{scans_both}
use Rattle.source_map.proofs.Expressions.{Passes}
use Rattle.source_map.proofs.PlacesBoth.{places_wider, places_both}
use Rattle.src_lexer.specs.declared.tokens.Kind.TheVariants as kind

-- Where the scan stands between statements.
pub record Stand : Type 0 where
  pub at : ℕ
  pub starts : List ℕ
  pub ends : List ℕ
  pub outer : List (Option ℕ)
  pub current : Option ℕ
  pub even : length starts ≡ length ends

abbrev pub scan_at : Stand → Scan
scan_at x = At x.starts x.ends x.outer x.current Head 0

-- the end of a statement is set, whatever it was
pub end_set : (starts ends others : List ℕ) (first new : ℕ) → length starts ≡ length ends
    → set (ends ++ first ∷ others) (length starts) new ≡ ends ++ new ∷ others
end_set starts ends others first new even =
    ap (λ n. set (ends ++ first ∷ others) n new) even ∙ set-append_seam ends first others new

module _ {S : Type 0} (Is : List Kind → S → Type 0) (whole : List Kind) where
  -- these tokens are scanned as these statements, with their places
  pub record Laid (x : Stand) (tokens : List Kind) (xs : List S) : Type 0 where
    pub starts : List ℕ
    pub ends : List ℕ
    pub current : Option ℕ
    pub even : length starts ≡ length ends
    pub scan : scans x.at (scan_at x) tokens ≡ At (x.starts ++ starts) (x.ends ++ ends) x.outer current Head 0
    pub places : Places Is whole x.at (x.at + length tokens) xs starts ends

  -- these tokens are scanned as one statement, and these are the places of those in its blocks
  pub record Closed (x : Stand) (tokens : List Kind) (xs : List S) : Type 0 where
    pub starts : List ℕ
    pub ends : List ℕ
    pub even : length starts ≡ length ends
    pub scan : scans x.at (scan_at x) tokens
        ≡ At (x.starts ++ x.at ∷ starts) (x.ends ++ (x.at + length tokens) ∷ ends) x.outer
        (Some (length x.starts)) Head 0
    pub places : Places Is whole (x.at + 1) (x.at + length tokens) xs starts ends

  -- the same up to the brace of a block
  pub record Opened (x : Stand) (tokens : List Kind) (xs : List S) : Type 0 where
    pub starts : List ℕ
    pub ends : List ℕ
    pub first : ℕ
    pub even : length starts ≡ length ends
    pub scan : scans x.at (scan_at x) tokens
        ≡ At (x.starts ++ x.at ∷ starts) (x.ends ++ first ∷ ends) (Some (length x.starts) ∷ x.outer)
        (Some (length x.starts)) Head 0
    pub places : Places Is whole (x.at + 1) (x.at + length tokens) xs starts ends

  -- where the scan stands after some statements
  abbrev pub behind : {tokens : List Kind} {xs : List S} (x : Stand) → Laid x tokens xs → Stand
  behind {tokens} x laid = record {
    at = x.at + length tokens;
    starts = x.starts ++ laid.starts;
    ends = x.ends ++ laid.ends;
    outer = x.outer;
    current = laid.current;
    even = length-append x.starts laid.starts ∙ ap (λ n. n + length laid.starts) x.even
        ∙ ap (λ n. length x.ends + n) laid.even ∙ sym (length-append x.ends laid.ends);
  }

  -- where it stands in a block
  abbrev pub within : {tokens : List Kind} {xs : List S} (x : Stand) → Opened x tokens xs → Stand
  within {tokens} x opened = record {
    at = x.at + length tokens;
    starts = x.starts ++ x.at ∷ opened.starts;
    ends = x.ends ++ opened.first ∷ opened.ends;
    outer = Some (length x.starts) ∷ x.outer;
    current = Some (length x.starts);
    even = length-append x.starts (x.at ∷ opened.starts) ∙ ap (λ n. n + length (x.at ∷ opened.starts)) x.even
        ∙ ap (λ n. length x.ends + suc n) opened.even
        ∙ sym (length-append x.ends (opened.first ∷ opened.ends));
  }

  pub laid_nothing : (x : Stand) → Laid x [] []
  laid_nothing x = record {
    starts = [];
    ends = [];
    current = x.current;
    even = refl;
    scan = ap (λ z. At z x.ends x.outer x.current Head 0) (sym (append-nil x.starts))
        ∙ ap (λ z. At (x.starts ++ []) z x.outer x.current Head 0) (sym (append-nil x.ends));
    places = NoMore (let e : x.at ≤ x.at + 0 = omega arith in e);
  }

  pub laid_both : {tokens rest : List Kind} {xs ys : List S} (x : Stand) (first : Laid x tokens xs)
      → Laid (behind x first) rest ys → Laid x (tokens ++ rest) (xs ++ ys)
  laid_both {tokens} {rest} {xs} {ys} x first second = record {
    starts = first.starts ++ second.starts;
    ends = first.ends ++ second.ends;
    current = second.current;
    even = length-append first.starts second.starts ∙ ap (λ n. n + length second.starts) first.even
        ∙ ap (λ n. length first.ends + n) second.even ∙ sym (length-append first.ends second.ends);
    scan = scans_both x.at (scan_at x) tokens rest
        ∙ ap (λ z. scans (x.at + length tokens) z rest) first.scan
        ∙ second.scan
        ∙ ap (λ z. At z ((x.ends ++ first.ends) ++ second.ends) x.outer second.current Head 0)
        (append_assoc x.starts first.starts second.starts)
        ∙ ap (λ z. At (x.starts ++ (first.starts ++ second.starts)) z x.outer second.current Head 0)
        (append_assoc x.ends first.ends second.ends);
    places = places_wider x.at (x.at + length (tokens ++ rest)) (let e : x.at ≤ x.at = omega arith in e)
        (let e : x.at + length tokens + length rest ≤ x.at + length (tokens ++ rest) =
        omega (arith, length-append tokens rest) in e)
        (places_both first.places second.places
        (let e : x.at + length tokens ≤ x.at + length tokens + length rest = omega arith in e));
  }

  -- a statement with those in its blocks
  pub laid_one : {tokens : List Kind} {s : S} {xs : List S} (x : Stand) (before after : List Kind) → Closed x tokens xs
      → Is tokens s → whole ≡ before ++ (tokens ++ after) → x.at ≡ length before → 0 < length tokens
      → Laid x tokens (s ∷ xs)
  laid_one {tokens} {s} {xs} x before after closed is split place some = record {
    starts = x.at ∷ closed.starts;
    ends = (x.at + length tokens) ∷ closed.ends;
    current = Some (length x.starts);
    even = ap suc closed.even;
    scan = closed.scan;
    places = Next (let e : x.at ≤ x.at = omega arith in e)
        (record {
          before = before;
          own = tokens;
          after = after;
          split = split;
          starts = place;
          ends = ap (λ n. n + length tokens) place;
          is = is;
        })
        closed.places;
  }

  -- the closing brace of a block
  pub closed_block : {front tokens : List Kind} {xs ys : List S} (x : Stand) (opened : Opened x front xs)
      → Laid (within x opened) tokens ys → Closed x (front ++ (tokens ++ kind.RBrace ∷ [])) (xs ++ ys)
  closed_block {front} {tokens} {xs} {ys} x opened inner =
      let new : ℕ = x.at + length front + length tokens + 1 in
      let total : new ≡ x.at + length (front ++ (tokens ++ kind.RBrace ∷ [])) =
      omega (arith, length-append front (tokens ++ kind.RBrace ∷ []), length-append tokens (kind.RBrace ∷ [])) in
      record {
        starts = opened.starts ++ inner.starts;
        ends = opened.ends ++ inner.ends;
        even = length-append opened.starts inner.starts ∙ ap (λ n. n + length inner.starts) opened.even
            ∙ ap (λ n. length opened.ends + n) inner.even ∙ sym (length-append opened.ends inner.ends);
        scan = scans_both x.at (scan_at x) front (tokens ++ kind.RBrace ∷ [])
            ∙ ap (λ z. scans (x.at + length front) z (tokens ++ kind.RBrace ∷ [])) opened.scan
            ∙ scans_both (x.at + length front) (scan_at (within x opened)) tokens (kind.RBrace ∷ [])
            ∙ ap (λ z. scans (x.at + length front + length tokens) z (kind.RBrace ∷ [])) inner.scan
            ∙ ap (λ z. At z (set ((x.ends ++ opened.first ∷ opened.ends) ++ inner.ends) (length x.starts) new) x.outer
            (Some (length x.starts)) Head 0) (append_assoc x.starts (x.at ∷ opened.starts) inner.starts)
            ∙ ap (λ z. At (x.starts ++ x.at ∷ (opened.starts ++ inner.starts)) z x.outer
            (Some (length x.starts)) Head 0)
            (ap (λ z. set z (length x.starts) new) (append_assoc x.ends (opened.first ∷ opened.ends) inner.ends)
            ∙ end_set x.starts x.ends (opened.ends ++ inner.ends) opened.first new x.even
            ∙ ap (λ n. x.ends ++ n ∷ (opened.ends ++ inner.ends)) total);
        places = places_wider (x.at + 1) (x.at + length (front ++ (tokens ++ kind.RBrace ∷ [])))
            (let e : x.at + 1 ≤ x.at + 1 = omega arith in e)
            (let e : x.at + length front + length tokens ≤ x.at + length (front ++ (tokens ++ kind.RBrace ∷ [])) =
            omega arith in e)
            (places_both opened.places inner.places
            (let e : x.at + length front ≤ x.at + length front + length tokens = omega arith in e));
      }

  -- an `else` and its brace
  pub opened_again : {tokens : List Kind} {xs : List S} (x : Stand) → Closed x tokens xs
      → Opened x (tokens ++ kind.Else ∷ kind.LBrace ∷ []) xs
  opened_again {tokens} {xs} x closed = record {
    starts = closed.starts;
    ends = closed.ends;
    first = x.at + length tokens;
    even = closed.even;
    scan = scans_both x.at (scan_at x) tokens (kind.Else ∷ kind.LBrace ∷ [])
        ∙ ap (λ z. scans (x.at + length tokens) z (kind.Else ∷ kind.LBrace ∷ [])) closed.scan;
    places = places_wider (x.at + 1) (x.at + length (tokens ++ kind.Else ∷ kind.LBrace ∷ []))
        (let e : x.at + 1 ≤ x.at + 1 = omega arith in e)
        (let e : x.at + length tokens ≤ x.at + length (tokens ++ kind.Else ∷ kind.LBrace ∷ []) =
        omega (arith, length-append tokens (kind.Else ∷ kind.LBrace ∷ [])) in e)
        closed.places;
  }

  -- tokens up to a semicolon, with which a statement begins
  pub closed_simple : (x : Stand) (front : List Kind) → 0 < length front
      → scans x.at (scan_at x) front
      ≡ At (x.starts ++ x.at ∷ []) (x.ends ++ x.at ∷ []) x.outer (Some (length x.starts)) Within 0
      → Closed x (front ++ kind.Semi ∷ []) []
  closed_simple x front some begins =
      let total : x.at + length front + 1 ≡ x.at + length (front ++ kind.Semi ∷ []) =
      omega (arith, length-append front (kind.Semi ∷ [])) in
      record {
        starts = [];
        ends = [];
        even = refl;
        scan = scans_both x.at (scan_at x) front (kind.Semi ∷ [])
            ∙ ap (λ z. scans (x.at + length front) z (kind.Semi ∷ [])) begins
            ∙ ap (λ z. At (x.starts ++ x.at ∷ []) z x.outer (Some (length x.starts)) Head 0)
            (end_set x.starts x.ends [] x.at (x.at + length front + 1) x.even
            ∙ ap (λ n. x.ends ++ n ∷ []) total);
        places = NoMore (let e : x.at + 1 ≤ x.at + length (front ++ kind.Semi ∷ []) = omega arith in e);
      }

  -- a guard and its brace
  pub opened_head : (x : Stand) (k : Kind) (guard : List Kind)
      → scanned x.at (scan_at x) k
      ≡ At (x.starts ++ x.at ∷ []) (x.ends ++ x.at ∷ []) x.outer (Some (length x.starts)) Within 0 → Passes guard
      → Opened x (k ∷ kind.LParen ∷ (guard ++ kind.RParen ∷ kind.LBrace ∷ [])) []
  opened_head x k guard begins p = record {
    starts = [];
    ends = [];
    first = x.at;
    even = refl;
    scan = ap (λ z. scans (x.at + 1) z (kind.LParen ∷ (guard ++ kind.RParen ∷ kind.LBrace ∷ []))) begins
        ∙ scans_both (x.at + 1 + 1)
        (At (x.starts ++ x.at ∷ []) (x.ends ++ x.at ∷ []) x.outer (Some (length x.starts)) Within 1) guard
        (kind.RParen ∷ kind.LBrace ∷ [])
        ∙ ap (λ z. scans (x.at + 1 + 1 + length guard) z (kind.RParen ∷ kind.LBrace ∷ []))
        (p.leaves (x.at + 1 + 1) (x.starts ++ x.at ∷ []) (x.ends ++ x.at ∷ []) x.outer (Some (length x.starts)) 1);
    places = NoMore
        (let e : x.at + 1 ≤ x.at + length (k ∷ kind.LParen ∷ (guard ++ kind.RParen ∷ kind.LBrace ∷ [])) =
        omega arith in e);
  }
