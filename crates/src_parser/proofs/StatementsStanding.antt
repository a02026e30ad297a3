-- Each state of statements to which tokens lead has read these tokens, and they can be completed to statements, for any
-- language.
use Rattle.std.proofs.Common.{◌≡◌, ℕ, ◌+◌, ◌<◌, List, [], ◌∷◌, ◌++◌, Some, refl, sym, ap, ◌∙◌, subst, append_assoc, arith}
use Rattle.std.proofs.lemmas.List.{append-nil}
use Rattle.src_lexer.specs.declared.tokens.Kind.{Kind}
use Rattle.src_tree.specs.Prelude.{Test}
use Rattle.src_parser.specs.Prelude.{Limits, Compares, Form, ForChoice, ForLoop, Part, Made, Makers, Outer, InFirst, InSecond, InLoop, Phase, Ready, MayElse, InPart, Guarded, Otherwise, Blocks, Among, depth_in, depth_of, chosen, complete_of}
use Rattle.src_parser.proofs.Held.{HasNoName, no_name_in_both}
use Rattle.src_parser.proofs.PartTokens.{word_of, PartStands, Makes, MakesVariable, MakesElement, MakesGuard, PartCompletes, part_completes}
use Rattle.src_parser.proofs.Spelled.{Spelled, NoneLeft, Assigns, Stores, Decides, DecidesElse, Loops, spelled_at, spelled_both}
use Rattle.src_lexer.specs.declared.tokens.Kind.TheVariants as kind

-- these tokens lead into these open blocks, of the depth `depth`, with these statements in the innermost
pub data Enclosed {S : Type 0} (make : Makers S) (Own : List Kind → S → Type 0) (most : Limits) (outside : ℕ)
    : List (Outer S) → (depth : ℕ) → List S → List Kind → Type 0 where
  Top : {here : List S} {ts : List Kind} → Spelled make Own most outside ts here
      → Enclosed make Own most outside [] outside here ts
  First : {outer : List (Outer S)} {depth : ℕ} {before here : List S} {tokens guard inner : List Kind}
      {test : Test} → Enclosed make Own most outside outer depth before tokens → Compares most guard test
      → depth < most.braces → Spelled make Own most (depth + 1) inner here
      → Enclosed make Own most outside (InFirst test before ∷ outer) (depth + 1) here
      (tokens ++ (kind.If ∷ kind.LParen ∷ (guard ++ kind.RParen ∷ kind.LBrace ∷ inner)))
  Second : {outer : List (Outer S)} {depth : ℕ} {before first here : List S}
      {tokens guard inner others : List Kind} {test : Test}
      → Enclosed make Own most outside outer depth before tokens → Compares most guard test → depth < most.braces
      → Spelled make Own most (depth + 1) inner first → Spelled make Own most (depth + 1) others here
      → Enclosed make Own most outside (InSecond test first before ∷ outer) (depth + 1) here
      (tokens ++ (kind.If ∷ kind.LParen
      ∷ (guard ++ kind.RParen ∷ kind.LBrace ∷ (inner ++ kind.RBrace ∷ kind.Else ∷ kind.LBrace ∷ others))))
  Looped : {outer : List (Outer S)} {depth : ℕ} {before here : List S} {tokens guard inner : List Kind}
      {test : Test} → Enclosed make Own most outside outer depth before tokens → Compares most guard test
      → depth < most.braces → Spelled make Own most (depth + 1) inner here
      → Enclosed make Own most outside (InLoop test before ∷ outer) (depth + 1) here
      (tokens ++ (kind.While ∷ kind.LParen ∷ (guard ++ kind.RParen ∷ kind.LBrace ∷ inner)))

-- these tokens of a statement lead to this phase
pub data Stands {S : Type 0} (make : Makers S) (Own : List Kind → S → Type 0) (most : Limits) (depth : ℕ)
    : Phase S → List Kind → Type 0 where
  IsReady : Stands make Own most depth Ready []
  IsMayElse : {guard inner : List Kind} {test : Test} {first : List S}
      → Compares most guard test → depth < most.braces → Spelled make Own most (depth + 1) inner first
      → Stands make Own most depth (MayElse test first)
      (kind.If ∷ kind.LParen ∷ (guard ++ kind.RParen ∷ kind.LBrace ∷ (inner ++ kind.RBrace ∷ [])))
  IsPart : {part : Part} {tokens : List Kind} → PartStands most part tokens
      → Stands make Own most depth (InPart part) tokens
  IsGuarded : {guard : List Kind} {test : Test} (form : Form) → Compares most guard test →
      Stands make Own most depth (Guarded form test) (word_of form ∷ kind.LParen ∷ (guard ++ kind.RParen ∷ []))
  IsOtherwise : {guard inner : List Kind} {test : Test} {first : List S}
      → Compares most guard test → depth < most.braces → Spelled make Own most (depth + 1) inner first
      → Stands make Own most depth (Otherwise test first)
      (kind.If ∷ kind.LParen ∷ (guard ++ kind.RParen ∷ kind.LBrace ∷ (inner ++ kind.RBrace ∷ kind.Else ∷ [])))

-- these tokens lead to this state of statements
pub data StatementsStand {S : Type 0} (make : Makers S) (Own : List Kind → S → Type 0) (most : Limits)
    (outside : ℕ) : Blocks S → List Kind → Type 0 where
  InBlock : {outer : List (Outer S)} {depth : ℕ} {here : List S} {phase : Phase S} {ts us : List Kind}
      → Enclosed make Own most outside outer depth here ts → Stands make Own most depth phase us
      → StatementsStand make Own most outside (Among outer here phase) (ts ++ us)

-- with some more tokens, of which none is a name, these are statements
pub record Completed {S : Type 0} (make : Makers S) (Own : List Kind → S → Type 0) (most : Limits)
    (outside : ℕ) (tokens : List Kind) : Type 0 where
  pub more : List Kind
  pub nameless : HasNoName more
  pub statements : List S
  pub spelled : Spelled make Own most outside (tokens ++ more) statements

module _ {S : Type 0} {make : Makers S} {Own : List Kind → S → Type 0} {most : Limits} {outside : ℕ} where
  -- the number of open braces is the depth
  pub enclosed_depth : {outer : List (Outer S)} {depth : ℕ} {here : List S} {ts : List Kind}
      → Enclosed make Own most outside outer depth here ts → depth_in outside outer ≡ depth
  enclosed_depth (Top w) = omega arith
  enclosed_depth (First e g room w) = let h = enclosed_depth e in omega arith
  enclosed_depth (Second e g room w v) = let h = enclosed_depth e in omega arith
  enclosed_depth (Looped e g room w) = let h = enclosed_depth e in omega arith

  enclosed_at : {outer : List (Outer S)} {depth : ℕ} {here : List S} (xs ys : List Kind) → xs ≡ ys
      → Enclosed make Own most outside outer depth here xs → Enclosed make Own most outside outer depth here ys
  enclosed_at {outer} {depth} {here} xs ys e w = subst (λ z. Enclosed make Own most outside outer depth here z) e w

  -- one more statement
  pub one_statement : {outer : List (Outer S)} {depth : ℕ} {here : List S} {ts us : List Kind} {s : S}
      → Enclosed make Own most outside outer depth here ts → Spelled make Own most depth us (s ∷ [])
      → Enclosed make Own most outside outer depth (here ++ s ∷ []) (ts ++ us)
  one_statement (Top w) v = Top (spelled_both w v)
  one_statement {us = us} (First {tokens = tokens} {guard = guard} {inner = inner} e g room w) v =
      enclosed_at _ _ (simp append_assoc refl) (First e g room (spelled_both w v))
  one_statement {us = us}
      (Second {tokens = tokens} {guard = guard} {inner = inner} {others = others} e g room w x) v =
      enclosed_at _ _ (simp append_assoc refl) (Second e g room w (spelled_both x v))
  one_statement {us = us} (Looped {tokens = tokens} {guard = guard} {inner = inner} e g room w) v =
      enclosed_at _ _ (simp append_assoc refl) (Looped e g room (spelled_both w v))

  completed_at : (xs ys : List Kind) → xs ≡ ys → Completed make Own most outside xs
      → Completed make Own most outside ys
  completed_at xs ys e c = subst (λ z. Completed make Own most outside z) e c

  shorter : (ts us : List Kind) → HasNoName us → Completed make Own most outside (ts ++ us)
      → Completed make Own most outside ts
  shorter ts us none c = record {
    more = us ++ c.more;
    nameless = no_name_in_both us c.more none c.nameless;
    statements = c.statements;
    spelled = spelled_at _ _ (append_assoc ts us c.more) c.spelled;
  }

  -- open blocks are closed
  pub block_completes : (outer : List (Outer S)) {depth : ℕ} {here : List S} {ts : List Kind}
      → Enclosed make Own most outside outer depth here ts → Completed make Own most outside ts
  block_completes [] (Top {here = here} {ts = ts} w) = record {
    more = [];
    nameless = tt;
    statements = here;
    spelled = spelled_at _ _ (sym (append-nil ts)) w;
  }
  block_completes (InFirst test before ∷ outer)
      (First {here = here} {tokens = tokens} {guard = guard} {inner = inner} e g room w) =
      shorter _ (kind.RBrace ∷ []) tt (completed_at _ _ (simp append_assoc refl)
      (block_completes outer (one_statement e (Decides g room w NoneLeft))))
  block_completes (InSecond test first before ∷ outer)
      (Second {here = here} {tokens = tokens} {guard = guard} {inner = inner} {others = others} e g room w v) =
      shorter _ (kind.RBrace ∷ []) tt (completed_at _ _ (simp append_assoc refl)
      (block_completes outer (one_statement e (DecidesElse g room w v NoneLeft))))
  block_completes (InLoop test before ∷ outer)
      (Looped {here = here} {tokens = tokens} {guard = guard} {inner = inner} e g room w) =
      shorter _ (kind.RBrace ∷ []) tt (completed_at _ _ (simp append_assoc refl)
      (block_completes outer (one_statement e (Loops g room w NoneLeft))))

  -- a statement that some more tokens complete
  pub statement_completes : {outer : List (Outer S)} {depth : ℕ} {here : List S} {ts : List Kind} {s : S}
      (us more : List Kind) → HasNoName more → Enclosed make Own most outside outer depth here ts
      → Spelled make Own most depth (us ++ more) (s ∷ []) → Completed make Own most outside (ts ++ us)
  statement_completes {outer = outer} {ts = ts} us more none e w =
      shorter (ts ++ us) more none
      (completed_at _ _ (sym (append_assoc ts us more)) (block_completes outer (one_statement e w)))

  -- a guard with an empty block
  form_completes : {outer : List (Outer S)} {depth : ℕ} {here : List S} {ts guard : List Kind} {test : Test}
      (form : Form) (us more : List Kind) → HasNoName more → Enclosed make Own most outside outer depth here ts
      → depth < most.braces → Compares most guard test
      → word_of form ∷ kind.LParen ∷ (guard ++ kind.RParen ∷ kind.LBrace ∷ kind.RBrace ∷ []) ≡ us ++ more
      → Completed make Own most outside (ts ++ us)
  form_completes ForChoice us more none e room g is =
      statement_completes us more none e (spelled_at _ _ is (Decides g room NoneLeft NoneLeft))
  form_completes ForLoop us more none e room g is =
      statement_completes us more none e (spelled_at _ _ is (Loops g room NoneLeft NoneLeft))

  -- a part that some more tokens complete, with an empty block after a guard
  made_completes : {outer : List (Outer S)} {depth : ℕ} {here : List S} {ts all : List Kind} {made : Made}
      (us more : List Kind) → HasNoName more → Enclosed make Own most outside outer depth here ts
      → depth < most.braces → Makes most made all → all ≡ us ++ more → Completed make Own most outside (ts ++ us)
  made_completes us more none e room (MakesVariable name s fits) is =
      statement_completes us more none e (spelled_at _ _ is (Assigns name s fits NoneLeft))
  made_completes us more none e room (MakesElement name i s fits) is =
      statement_completes us more none e (spelled_at _ _ is (Stores name i s fits NoneLeft))
  made_completes us more none e room (MakesGuard {guard = guard} form g) is =
      form_completes form us (more ++ kind.LBrace ∷ kind.RBrace ∷ [])
      (no_name_in_both more (kind.LBrace ∷ kind.RBrace ∷ []) none tt) e room g
      (ap (λ z. word_of form ∷ kind.LParen ∷ z)
      (sym (append_assoc guard (kind.RParen ∷ []) (kind.LBrace ∷ kind.RBrace ∷ [])))
      ∙ (ap (λ z. z ++ kind.LBrace ∷ kind.RBrace ∷ []) is ∙ append_assoc us more (kind.LBrace ∷ kind.RBrace ∷ [])))

  part_stands_completes : {outer : List (Outer S)} {depth : ℕ} {here : List S} {ts us : List Kind}
      → Enclosed make Own most outside outer depth here ts → depth < most.braces → PartCompletes most us
      → Completed make Own most outside (ts ++ us)
  part_stands_completes {us = us} e room c = made_completes us c.more c.nameless e room c.makes refl

  phase_completes : {outer : List (Outer S)} {depth : ℕ} {here : List S} {ts us : List Kind} {phase : Phase S}
      → Enclosed make Own most outside outer depth here ts → depth < most.braces
      → Stands make Own most depth phase us → Completed make Own most outside (ts ++ us)
  phase_completes {outer = outer} {ts = ts} e room IsReady =
      completed_at _ _ (sym (append-nil ts)) (block_completes outer e)
  phase_completes {outer = outer} e room (IsMayElse g fit w) =
      block_completes outer (one_statement e (Decides g fit w NoneLeft))
  phase_completes e room (IsPart p) = part_stands_completes e room (part_completes p)
  phase_completes e room (IsGuarded {guard = guard} form g) =
      form_completes form (word_of form ∷ kind.LParen ∷ (guard ++ kind.RParen ∷ []))
      (kind.LBrace ∷ kind.RBrace ∷ []) tt e room g (simp append_assoc refl)
  phase_completes e room (IsOtherwise {guard = guard} {inner = inner} g fit w) =
      statement_completes
      (kind.If ∷ kind.LParen ∷ (guard ++ kind.RParen ∷ kind.LBrace ∷ (inner ++ kind.RBrace ∷ kind.Else ∷ [])))
      (kind.LBrace ∷ kind.RBrace ∷ []) tt e
      (spelled_at _ _ (simp append_assoc refl) (DecidesElse g fit w NoneLeft NoneLeft))

  -- tokens that lead to a state within the limit of braces can be completed to statements
  pub statements_complete : {blocks : Blocks S} {tokens : List Kind}
      → StatementsStand make Own most outside blocks tokens → depth_of outside blocks < most.braces
      → Completed make Own most outside tokens
  statements_complete (InBlock e s) room = let deep = enclosed_depth e in phase_completes e (omega arith) s

  -- a state with complete statements has read them
  pub complete_spelled : {blocks : Blocks S} {tokens : List Kind}
      → StatementsStand make Own most outside blocks tokens → (ss : List S) → complete_of make blocks ≡ Some ss
      → Spelled make Own most outside tokens ss
  complete_spelled (InBlock (Top {here = here} {ts = ts} w) IsReady) ss e =
      let f : here ≡ ss = cc in
      subst (λ z. Spelled make Own most outside (ts ++ []) z) f (spelled_at _ _ (sym (append-nil ts)) w)
  complete_spelled (InBlock (Top {here = here} {ts = ts} w)
      (IsMayElse {guard = guard} {inner = inner} {test = test} {first = first} g room v)) ss e =
      let f : chosen make here test first ≡ ss = cc in
      subst (λ z. Spelled make Own most outside
      (ts ++ (kind.If ∷ kind.LParen ∷ (guard ++ kind.RParen ∷ kind.LBrace ∷ (inner ++ kind.RBrace ∷ [])))) z)
      f (spelled_both w (Decides g room v NoneLeft))
  complete_spelled _ ss e = absurd (cc)
