-- A token of statements that is read leads from one state to another, for any language.
use Rattle.std.proofs.Common.{◌≡◌, ℕ, ◌+◌, ◌<◌, Bool, true, false, List, [], ◌∷◌, ◌++◌, refl, sym, subst, append_assoc, arith}
use Rattle.std.proofs.lemmas.List.{append-nil}
use Rattle.std.proofs.lemmas.Bool.{ltb-true}
use Rattle.src_lexer.specs.declared.tokens.Kind.{Kind}
use Rattle.src_tree.specs.Prelude.{Test}
use Rattle.src_parser.specs.Prelude.{Limits, Compares, Form, ForChoice, ForLoop, PartState, Still, Done, part_advanced, Makers, Outer, Otherwise, Blocks, Among, depth_in, leaving, between_statements, chosen, elsing, with_part, entering, otherwise, performed, Goes, with_braces}
use Rattle.src_parser.proofs.Braces.{mapped_goes}
use Rattle.src_parser.proofs.PartTokens.{word_of, IsTarget, IsGuarding, MakesVariable, MakesElement, MakesGuard, StateStands, part_steps}
use Rattle.src_parser.proofs.Spelled.{Spelled, NoneLeft, Assigns, Stores, Decides, DecidesElse, Loops}
use Rattle.src_parser.proofs.StatementsStanding.{Enclosed, Top, First, Second, Looped, IsReady, IsMayElse, IsPart, IsGuarded, IsOtherwise, StatementsStand, InBlock, enclosed_depth, one_statement}
use Rattle.src_lexer.specs.declared.tokens.Kind.TheVariants as kind

module _ {S : Type 0} {make : Makers S} {Own : List Kind → S → Type 0} {most : Limits} {outside : ℕ} where
  went : {tokens : List Kind} (x y : Blocks S) → Goes x ≡ Goes y → StatementsStand make Own most outside x tokens → StatementsStand make Own most outside y tokens
  went {tokens} x y e s = subst (λ z. StatementsStand make Own most outside z tokens) (let f : x ≡ y = cc in f) s

  leads_at : {x : Blocks S} (ts us : List Kind) → ts ≡ us → StatementsStand make Own most outside x ts → StatementsStand make Own most outside x us
  leads_at {x} ts us e s = subst (λ z. StatementsStand make Own most outside x z) e s

  leaving_stands : {outer : List (Outer S)} {depth : ℕ} {here : List S} {ts : List Kind}
      → Enclosed make Own most outside outer depth here ts → (next : Blocks S) → leaving make outer here ≡ Goes next
      → StatementsStand make Own most outside next (ts ++ kind.RBrace ∷ [])
  leaving_stands (Top w) next e = absurd (cc)
  leaving_stands (First {tokens = tokens} {guard = guard} {inner = inner} o g room w) next e =
      went _ next e (leads_at _ _ (simp append_assoc refl) (InBlock o (IsMayElse g room w)))
  leaving_stands (Second {tokens = tokens} {guard = guard} {inner = inner} {others = others} o g room w v) next e =
      went _ next e (leads_at _ _ (simp (append_assoc, append-nil) refl)
      (InBlock (one_statement o (DecidesElse g room w v NoneLeft)) IsReady))
  leaving_stands (Looped {tokens = tokens} {guard = guard} {inner = inner} o g room w) next e =
      went _ next e (leads_at _ _ (simp (append_assoc, append-nil) refl)
      (InBlock (one_statement o (Loops g room w NoneLeft)) IsReady))

  -- a token between statements
  pub beginning_stands : {outer : List (Outer S)} {depth : ℕ} {here : List S} {ts : List Kind}
      → Enclosed make Own most outside outer depth here ts → (k : Kind) (next : Blocks S)
      → between_statements make outer here k ≡ Goes next
      → StatementsStand make Own most outside next (ts ++ k ∷ [])
  beginning_stands o (kind.Word name) next e = went _ next e (InBlock o (IsPart (IsTarget name)))
  beginning_stands o kind.If next e = went _ next e (InBlock o (IsPart (IsGuarding ForChoice)))
  beginning_stands o kind.While next e = went _ next e (InBlock o (IsPart (IsGuarding ForLoop)))
  beginning_stands o kind.RBrace next e = leaving_stands o next e
  beginning_stands o _ next e = absurd (cc)

  -- a token after the first block of a choice, which was added as a statement
  elsing_begins : {outer : List (Outer S)} {depth : ℕ} {here : List S} {ts : List Kind} {test : Test}
      (first : List S) → Enclosed make Own most outside outer depth (chosen make here test first) ts
      → StatementsStand make Own most outside (Among outer here (Otherwise test first)) (ts ++ kind.Else ∷ [])
      → (k : Kind) (next : Blocks S) → elsing make outer here test first k ≡ Goes next
      → StatementsStand make Own most outside next (ts ++ k ∷ [])
  elsing_begins first o s kind.Else next e = went _ next e s
  elsing_begins first o s k next e = beginning_stands o k next e

  elsing_stands : {outer : List (Outer S)} {depth : ℕ} {here : List S} {ts guard inner : List Kind} {test : Test}
      (first : List S) → Enclosed make Own most outside outer depth here ts → Compares most guard test
      → depth < most.braces → Spelled make Own most (depth + 1) inner first
      → (k : Kind) (next : Blocks S) → elsing make outer here test first k ≡ Goes next → StatementsStand make Own most outside next
      ((ts ++ (kind.If ∷ kind.LParen ∷ (guard ++ kind.RParen ∷ kind.LBrace ∷ (inner ++ kind.RBrace ∷ [])))) ++ k ∷ [])
  elsing_stands {ts = ts} {guard = guard} {inner = inner} first o g room w k next e =
      elsing_begins first (one_statement o (Decides g room w NoneLeft))
      (leads_at _ _ (simp append_assoc refl) (InBlock o (IsOtherwise g room w))) k next e

  with_room : {ts : List Kind} (b : Bool) (x y : Blocks S)
      → with_braces b x ≡ Goes y → (b ≡ true → StatementsStand make Own most outside x ts) → StatementsStand make Own most outside y ts
  with_room true x y e s = went x y e (s refl)
  with_room false x y e s = absurd (cc)

  entering_stands : {outer : List (Outer S)} {depth : ℕ} {here : List S} {ts guard : List Kind} {test : Test}
      (form : Form) → Enclosed make Own most outside outer depth here ts → Compares most guard test
      → (k : Kind) (next : Blocks S) → entering most outside outer here form test k ≡ Goes next
      → StatementsStand make Own most outside next ((ts ++ (word_of form ∷ kind.LParen ∷ (guard ++ kind.RParen ∷ []))) ++ k ∷ [])
  entering_stands {outer = outer} {ts = ts} {guard = guard} ForChoice o g kind.LBrace next e =
      with_room _ _ next e (λ t. let deep = enclosed_depth o in
      let few = ltb-true (depth_in outside outer) most.braces t in
      leads_at _ _ (simp (append_assoc, append-nil) refl) (InBlock (First o g (omega arith) NoneLeft) IsReady))
  entering_stands {outer = outer} {ts = ts} {guard = guard} ForLoop o g kind.LBrace next e =
      with_room _ _ next e (λ t. let deep = enclosed_depth o in
      let few = ltb-true (depth_in outside outer) most.braces t in
      leads_at _ _ (simp (append_assoc, append-nil) refl) (InBlock (Looped o g (omega arith) NoneLeft) IsReady))
  entering_stands form o g _ next e = absurd (cc)

  otherwise_stands : {outer : List (Outer S)} {depth : ℕ} {here : List S} {ts guard inner : List Kind}
      {test : Test} (first : List S) → Enclosed make Own most outside outer depth here ts → Compares most guard test
      → depth < most.braces → Spelled make Own most (depth + 1) inner first
      → (k : Kind) (next : Blocks S) → otherwise most outside outer here test first k ≡ Goes next → StatementsStand make Own most outside next
      ((ts ++ (kind.If ∷ kind.LParen ∷ (guard ++ kind.RParen ∷ kind.LBrace ∷ (inner ++ kind.RBrace ∷ kind.Else ∷ []))))
      ++ k ∷ [])
  otherwise_stands {ts = ts} {guard = guard} {inner = inner} first o g room w kind.LBrace next e =
      with_room _ _ next e
      (λ t. leads_at _ _ (simp (append_assoc, append-nil) refl) (InBlock (Second o g room w NoneLeft) IsReady))
  otherwise_stands first o g room w _ next e = absurd (cc)

  -- a part, or the statement or the guard that it is when it is complete
  state_stands : {outer : List (Outer S)} {depth : ℕ} {here : List S} {ts : List Kind} (us : List Kind)
      → Enclosed make Own most outside outer depth here ts → (s : PartState) → StateStands most s us
      → StatementsStand make Own most outside (with_part make outer here s) (ts ++ us)
  state_stands us o (Still part) p = InBlock o (IsPart p)
  state_stands {ts = ts} _ o (Done _) (MakesVariable {tokens = tokens} name s fits) =
      leads_at _ _ (append-nil _) (InBlock (one_statement o (Assigns name s fits NoneLeft)) IsReady)
  state_stands {ts = ts} _ o (Done _) (MakesElement {at = at} {tokens = tokens} name i s fits) =
      leads_at _ _ (append-nil _) (InBlock (one_statement o (Stores name i s fits NoneLeft)) IsReady)
  state_stands _ o (Done _) (MakesGuard form g) = InBlock o (IsGuarded form g)

  part_stands : {outer : List (Outer S)} {depth : ℕ} {here : List S} {ts : List Kind} (us : List Kind)
      → Enclosed make Own most outside outer depth here ts → (k : Kind) (s : PartState)
      → StateStands most s (us ++ k ∷ []) → (next : Blocks S) → with_part make outer here s ≡ next
      → StatementsStand make Own most outside next ((ts ++ us) ++ k ∷ [])
  part_stands {ts = ts} us o k s p next e =
      subst (λ z. StatementsStand make Own most outside z ((ts ++ us) ++ k ∷ [])) e
      (leads_at _ _ (sym (append_assoc ts us (k ∷ []))) (state_stands (us ++ k ∷ []) o s p))

  -- a token of statements
  pub statements_step : {blocks : Blocks S} {tokens : List Kind}
      → StatementsStand make Own most outside blocks tokens → (k : Kind) (next : Blocks S)
      → performed make most outside blocks k ≡ Goes next
      → StatementsStand make Own most outside next (tokens ++ k ∷ [])
  statements_step (InBlock {ts = ts} o IsReady) k next e =
      leads_at (ts ++ k ∷ []) _ (rw append-nil refl) (beginning_stands o k next e)
  statements_step (InBlock o (IsMayElse {first = first} g room w)) k next e = elsing_stands first o g room w k next e
  statements_step (InBlock {outer = outer} {here = here} o (IsPart {part = part} p)) k next e =
      mapped_goes (with_part make outer here) (part_advanced most part k) next e
      (λ s is at. part_stands _ o k s (part_steps p k s is) next at)
  statements_step (InBlock o (IsGuarded form g)) k next e = entering_stands form o g k next e
  statements_step (InBlock o (IsOtherwise {first = first} g room w)) k next e =
      otherwise_stands first o g room w k next e
