-- Statements by the grammar are read as these statements, for any language and any result.
use Rattle.std.proofs.Common.{◌≡◌, ℕ, ◌<◌, List, [], ◌∷◌, ◌++◌, refl, sym, ap, ◌∙◌, append_assoc, arith}
use Rattle.std.specs.Prelude.{nat_lt}
use Rattle.std.proofs.lemmas.List.{append-nil}
use Rattle.std.proofs.lemmas.Bool.{lt-ltb}
use Rattle.src_lexer.specs.declared.tokens.Kind.{Kind}
use Rattle.src_tree.specs.Prelude.{Test}
use Rattle.src_parser.specs.Prelude.{Limits, Reading, reads, ForChoice, ForLoop, Asked, Target, Guarding, Inside, Makers, Outer, InFirst, InSecond, InLoop, Ready, MayElse, InPart, Guarded, Otherwise, Blocks, Among, depth_in, between_statements, chosen, elsing, with_part, complete_of, performed, Goes, mapped, with_braces}
use Rattle.src_parser.proofs.PartRead.{PartRuns, variable_read, element_read, guard_read}
use Rattle.src_parser.proofs.Spelled.{Spelled, NoneLeft, Assigns, Stores, Decides, DecidesElse, Loops, Adds}
use Rattle.src_lexer.specs.declared.tokens.Kind.TheVariants as kind

-- tokens that don't begin with `else`
abbrev pub NoElse : List Kind → Type 0
NoElse [] = Unit {0}
NoElse (kind.Else ∷ ks) = ⊥
NoElse (k ∷ ks) = Unit {0}

-- a reading of statements that continues with `performed`, and reads the language's own statements
pub record StatementRuns {S : Type 0} (make : Makers S) (Own : List Kind → S → Type 0) (most : Limits)
    (outside : ℕ) {R : Type 0} (go : Blocks S → List Kind → R) : Type 0 where
  pub goes : (x y : Blocks S) (k : Kind) (ks : List Kind) → performed make most outside x k ≡ Goes y
      → go x (k ∷ ks) ≡ go y ks
  pub same : (outer : List (Outer S)) (here : List S) (asked : Asked) (x y : Reading) (k : Kind)
      (ks : List Kind) → reads most x k ≡ reads most y k
      → go (Among outer here (InPart (Inside asked x))) (k ∷ ks) ≡ go (Among outer here (InPart (Inside asked y))) (k ∷ ks)
  pub settles : (outer : List (Outer S)) (here : List S) (test : Test) (first : List S) (ks : List Kind)
      → NoElse ks → go (Among outer here (MayElse test first)) ks ≡ go (Among outer (chosen make here test first) Ready) ks
  pub own : {tokens : List Kind} {s : S} → Own tokens s → (outer : List (Outer S)) (here : List S)
      (ks : List Kind) → go (Among outer here Ready) (tokens ++ ks) ≡ go (Among outer (here ++ s ∷ []) Ready) ks
  pub own_starts : {tokens : List Kind} {s : S} → Own tokens s → (ks : List Kind) → NoElse (tokens ++ ks)

-- a token other than `else` after the first block of a choice
pub settled_kind : {S : Type 0} (make : Makers S) (outer : List (Outer S)) (here : List S) (test : Test)
    (first : List S) (k : Kind) (ks : List Kind) → NoElse (k ∷ ks)
    → elsing make outer here test first k ≡ between_statements make outer (chosen make here test first) k
settled_kind make outer here test first kind.Else ks h = absurd h
settled_kind make outer here test first _ ks h = refl

pub settled_end : {S : Type 0} (make : Makers S) (outer : List (Outer S)) (here : List S) (test : Test)
    (first : List S) → complete_of make (Among outer here (MayElse test first))
    ≡ complete_of make (Among outer (chosen make here test first) Ready)
settled_end make [] here test first = refl
settled_end make (o ∷ outer) here test first = refl

last_in : (tokens rest more : List Kind) (k : Kind) → (tokens ++ k ∷ rest) ++ more ≡ tokens
    ++ (k ∷ (rest ++ more))
last_in tokens rest more k = append_assoc tokens (k ∷ rest) more

module _ {S : Type 0} {make : Makers S} {Own : List Kind → S → Type 0} {most : Limits} {outside : ℕ} {R : Type 0}
    (go : Blocks S → List Kind → R) (runs : StatementRuns make Own most outside go) where
  no_else : {depth : ℕ} {tokens : List Kind} {ss : List S} → Spelled make Own most depth tokens ss
      → (more : List Kind) → NoElse more → NoElse (tokens ++ more)
  no_else NoneLeft more h = h
  no_else (Adds {tokens = tokens} {rest = rest} own w) more h =
      rw (append_assoc tokens rest more) (runs.own_starts own (rest ++ more))
  no_else _ more h = tt

  -- a part in a statement continues as its tokens are read
  part_runs : (outer : List (Outer S)) (here : List S) → PartRuns most (λ s ks. go (with_part make outer here s) ks)
  part_runs outer here = record {
    goes = λ part s k ks e.
        runs.goes (Among outer here (InPart part)) (with_part make outer here s) k ks
        (ap (mapped (with_part make outer here)) e);
    same = runs.same outer here;
  }

  enters : (outer : List (Outer S)) (here : List S) (test : Test) (next : Outer S) (x : Blocks S) (depth : ℕ)
      (ks : List Kind)
      → performed make most outside x kind.LBrace
      ≡ with_braces (nat_lt (depth_in outside outer) most.braces) (Among (next ∷ outer) [] Ready)
      → depth_in outside outer ≡ depth → depth < most.braces
      → go x (kind.LBrace ∷ ks) ≡ go (Among (next ∷ outer) [] Ready) ks
  enters outer here test next x depth ks does is room =
      runs.goes x (Among (next ∷ outer) [] Ready) kind.LBrace ks
      (does ∙ ap (λ b. with_braces b (Among (next ∷ outer) [] Ready))
      (lt-ltb (depth_in outside outer) most.braces (omega arith)))

  more_added : (outer : List (Outer S)) (here : List S) (s : S) (others : List S) (ks : List Kind)
      → go (Among outer ((here ++ s ∷ []) ++ others) Ready) ks ≡ go (Among outer (here ++ (s ∷ others)) Ready) ks
  more_added outer here s others ks =
      ap (λ z. go (Among outer z Ready) ks) (append_assoc here (s ∷ []) others)

  -- statements are read as their list
  pub statements_read : {depth : ℕ} {tokens : List Kind} {ss : List S} → Spelled make Own most depth tokens ss
      → (outer : List (Outer S)) (here : List S) (more : List Kind) → depth_in outside outer ≡ depth
      → NoElse more
      → go (Among outer here Ready) (tokens ++ more) ≡ go (Among outer (here ++ ss) Ready) more
  statements_read NoneLeft outer here more deep free =
      ap (λ z. go (Among outer z Ready) more) (sym (append-nil here))
  statements_read (Assigns {tokens = tokens} {rest = rest} {value = value} {others = others} name s fits w) outer here
      more deep free =
      rw (last_in tokens rest more kind.Semi)
      (runs.goes (Among outer here Ready) (Among outer here (InPart (Target name))) _ _ refl ∙
      (variable_read most _ (part_runs outer here) name s fits (rest ++ more) ∙
      (statements_read w outer (here ++ make.variable_set name value ∷ []) more deep free ∙
      more_added outer here (make.variable_set name value) others more)))
  statements_read (Stores {at = at} {tokens = tokens} {rest = rest} {index = index} {value = value} {others = others}
      name i s fits w) outer here more deep free =
      rw (last_in at (kind.Assign ∷ (tokens ++ kind.Semi ∷ rest)) more kind.RBracket, last_in tokens rest more kind.Semi)
      (runs.goes (Among outer here Ready) (Among outer here (InPart (Target name))) _ _ refl ∙
      (element_read most _ (part_runs outer here) name i s fits (rest ++ more) ∙
      (statements_read w outer (here ++ make.element_set name index value ∷ []) more deep free ∙
      more_added outer here (make.element_set name index value) others more)))
  statements_read {depth} (Decides {guard = guard} {tokens = tokens} {rest = rest} {test = test} {first = first}
      {others = others} g room inner w) outer here more deep free =
      rw (
        last_in guard (kind.LBrace ∷ (tokens ++ kind.RBrace ∷ rest)) more kind.RParen,
        last_in tokens rest more kind.RBrace,
      )
      (runs.goes (Among outer here Ready) (Among outer here (InPart (Guarding ForChoice))) _ _ refl ∙
      (guard_read most _ (part_runs outer here) g ForChoice (kind.LBrace ∷ (tokens ++ kind.RBrace ∷ (rest ++ more))) ∙
      (enters outer here test (InFirst test here) (Among outer here (Guarded ForChoice test)) depth
      (tokens ++ kind.RBrace ∷ (rest ++ more)) refl deep room ∙
      (statements_read inner (InFirst test here ∷ outer) [] (kind.RBrace ∷ (rest ++ more)) (omega arith) tt ∙
      (runs.goes (Among (InFirst test here ∷ outer) first Ready) (Among outer here (MayElse test first)) _ _ refl ∙
      (runs.settles outer here test first (rest ++ more) (no_else w more free) ∙
      (statements_read w outer (here ++ make.choice test first [] ∷ []) more deep free ∙
      more_added outer here (make.choice test first []) others more)))))))
  statements_read {depth} (DecidesElse {guard = guard} {tokens = tokens} {between = between} {rest = rest} {test = test}
      {first = first} {second = second} {others = others} g room inner other w) outer here more deep free =
      rw (
        last_in guard (kind.LBrace ∷ (tokens ++ kind.RBrace ∷ kind.Else ∷ kind.LBrace ∷ (between ++ kind.RBrace ∷ rest)))
            more kind.RParen,
        last_in tokens (kind.Else ∷ kind.LBrace ∷ (between ++ kind.RBrace ∷ rest)) more kind.RBrace,
        last_in between rest more kind.RBrace,
      )
      (runs.goes (Among outer here Ready) (Among outer here (InPart (Guarding ForChoice))) _ _ refl ∙
      (guard_read most _ (part_runs outer here) g ForChoice
      (kind.LBrace ∷ (tokens ++ kind.RBrace ∷ kind.Else ∷ kind.LBrace ∷ (between ++ kind.RBrace ∷ (rest ++ more)))) ∙
      (enters outer here test (InFirst test here) (Among outer here (Guarded ForChoice test)) depth
      (tokens ++ kind.RBrace ∷ kind.Else ∷ kind.LBrace ∷ (between ++ kind.RBrace ∷ (rest ++ more))) refl deep room ∙
      (statements_read inner (InFirst test here ∷ outer) []
      (kind.RBrace ∷ kind.Else ∷ kind.LBrace ∷ (between ++ kind.RBrace ∷ (rest ++ more))) (omega arith) tt ∙
      (runs.goes (Among (InFirst test here ∷ outer) first Ready) (Among outer here (MayElse test first)) _ _ refl ∙
      (runs.goes (Among outer here (MayElse test first)) (Among outer here (Otherwise test first)) _ _ refl ∙
      (enters outer here test (InSecond test first here) (Among outer here (Otherwise test first)) depth
      (between ++ kind.RBrace ∷ (rest ++ more)) refl deep room ∙
      (statements_read other (InSecond test first here ∷ outer) [] (kind.RBrace ∷ (rest ++ more)) (omega arith) tt ∙
      (runs.goes (Among (InSecond test first here ∷ outer) second Ready)
      (Among outer (here ++ make.choice test first second ∷ []) Ready) _ _ refl ∙
      (statements_read w outer (here ++ make.choice test first second ∷ []) more deep free ∙
      more_added outer here (make.choice test first second) others more))))))))))
  statements_read {depth} (Loops {guard = guard} {tokens = tokens} {rest = rest} {test = test} {body = body}
      {others = others} g room inner w) outer here more deep free =
      rw (
        last_in guard (kind.LBrace ∷ (tokens ++ kind.RBrace ∷ rest)) more kind.RParen,
        last_in tokens rest more kind.RBrace,
      )
      (runs.goes (Among outer here Ready) (Among outer here (InPart (Guarding ForLoop))) _ _ refl ∙
      (guard_read most _ (part_runs outer here) g ForLoop (kind.LBrace ∷ (tokens ++ kind.RBrace ∷ (rest ++ more))) ∙
      (enters outer here test (InLoop test here) (Among outer here (Guarded ForLoop test)) depth
      (tokens ++ kind.RBrace ∷ (rest ++ more)) refl deep room ∙
      (statements_read inner (InLoop test here ∷ outer) [] (kind.RBrace ∷ (rest ++ more)) (omega arith) tt ∙
      (runs.goes (Among (InLoop test here ∷ outer) body Ready)
      (Among outer (here ++ make.repetition test body ∷ []) Ready) _ _ refl ∙
      (statements_read w outer (here ++ make.repetition test body ∷ []) more deep free ∙
      more_added outer here (make.repetition test body) others more))))))
  statements_read (Adds {tokens = tokens} {rest = rest} {s = s} {others = others} own w) outer here more deep free =
      rw (append_assoc tokens rest more)
      (runs.own own outer here (rest ++ more) ∙
      (statements_read w outer (here ++ s ∷ []) more deep free ∙ more_added outer here s others more))
