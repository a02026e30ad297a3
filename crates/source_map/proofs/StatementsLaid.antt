-- The statements of any language, by their grammar, are at the places that the scan finds.
use Rattle.std.proofs.Common.{◌≡◌, ℕ, zero, ◌+◌, ◌<◌, List, [], ◌∷◌, ◌++◌, Some, length, refl, sym, ◌∙◌, ap, subst, append_assoc, arith}
use Rattle.std.proofs.lemmas.List.{append-nil, length-append}
use Rattle.src_lexer.specs.declared.tokens.Kind.{Kind}
use Rattle.src_tree.specs.Prelude.{Tree, Test}
use Rattle.src_parser.specs.Prelude.{limits, Makers}
use Rattle.src_parser.proofs.Spelled.{Spelled, NoneLeft, Assigns, Stores, Decides, DecidesElse, Loops, Adds}
use Rattle.source_map.specs.declared.mapping.Phase.TheVariants.{Within}
use Rattle.source_map.specs.Scans.{At, scans}
use Rattle.source_map.proofs.Expressions.{Passes, expression_passes, guard_passes, passes_both}
use Rattle.source_map.proofs.Laying.{Stand, scan_at, Laid, Closed, Opened, behind, within, laid_nothing, laid_both, laid_one, closed_block, opened_again, closed_simple, opened_head}
use Rattle.src_lexer.specs.declared.tokens.Kind.TheVariants as kind

-- How a language numbers its statements: `parts` are those of a list and of their blocks, in reading order. Tokens of a
-- statement of its own are one statement for the scan.
pub record Numbers {S : Type 0} (make : Makers S) (Own : List Kind → S → Type 0) (Is : List Kind → S → Type 0)
    (whole : List Kind) (parts : List S → List S) : Type 0 where
  pub none : parts [] ≡ []
  pub sets : (name : List ℕ) (value : Tree) (others : List S)
      → parts (make.variable_set name value ∷ others) ≡ make.variable_set name value ∷ parts others
  pub puts : (name : List ℕ) (index value : Tree) (others : List S)
      → parts (make.element_set name index value ∷ others) ≡ make.element_set name index value ∷ parts others
  pub chooses : (test : Test) (first others : List S)
      → parts (make.choice test first [] ∷ others) ≡ (make.choice test first [] ∷ parts first) ++ parts others
  pub chooses_else : (test : Test) (first second others : List S)
      → parts (make.choice test first second ∷ others)
      ≡ (make.choice test first second ∷ (parts first ++ parts second)) ++ parts others
  pub repeats : (test : Test) (body others : List S)
      → parts (make.repetition test body ∷ others) ≡ (make.repetition test body ∷ parts body) ++ parts others
  pub adds : (tokens : List Kind) (s : S) (others : List S) → Own tokens s → parts (s ∷ others) ≡ s ∷ parts others
  pub simple : (tokens : List Kind) (s : S) → Own tokens s → (x : Stand) → Closed Is whole x tokens []
  pub some : (tokens : List Kind) (s : S) → Own tokens s → 0 < length tokens
  pub is : (depth : ℕ) (tokens : List Kind) (s : S) → Spelled make Own limits depth tokens (s ∷ []) → Is tokens s

module _ {S : Type 0} {make : Makers S} {Own : List Kind → S → Type 0} {Is : List Kind → S → Type 0}
    {whole : List Kind} {parts : List S → List S} (n : Numbers make Own Is whole parts) where
  laid_at : {x : Stand} {ts us : List Kind} {xs ys : List S} → ts ≡ us → xs ≡ ys → Laid Is whole x ts xs
      → Laid Is whole x us ys
  laid_at {x} {us = us} {xs = xs} e f laid =
      subst (λ z. Laid Is whole x us z) f (subst (λ z. Laid Is whole x z xs) e laid)

  -- the tokens of an assignment to a variable before its semicolon
  set_begins : (x : Stand) (name : List ℕ) (tokens : List Kind) → Passes tokens
      → scans x.at (scan_at x) (kind.Word name ∷ kind.Assign ∷ tokens)
      ≡ At (x.starts ++ x.at ∷ []) (x.ends ++ x.at ∷ []) x.outer (Some (length x.starts)) Within 0
  set_begins x name tokens p =
      p.leaves (x.at + 1 + 1) (x.starts ++ x.at ∷ []) (x.ends ++ x.at ∷ []) x.outer (Some (length x.starts)) 0

  -- the same of an assignment to an element
  put_begins : (x : Stand) (name : List ℕ) (index tokens : List Kind) → Passes index → Passes tokens
      → scans x.at (scan_at x) (kind.Word name ∷ kind.LBracket ∷ (index ++ kind.RBracket ∷ kind.Assign ∷ tokens))
      ≡ At (x.starts ++ x.at ∷ []) (x.ends ++ x.at ∷ []) x.outer (Some (length x.starts)) Within 0
  put_begins x name index tokens p q =
      (passes_both index (kind.RBracket ∷ kind.Assign ∷ tokens) p
      (passes_both (kind.RBracket ∷ kind.Assign ∷ []) tokens
      (record { leaves = λ at starts ends outer current round. refl }) q)).leaves
      (x.at + 1 + 1) (x.starts ++ x.at ∷ []) (x.ends ++ x.at ∷ []) x.outer (Some (length x.starts)) 0

  -- one statement, and then others
  laid_then : {s : S} {xs ys : List S} (own rest before after : List Kind) (x : Stand)
      (closed : Closed Is whole x own xs) → Is own s → whole ≡ before ++ ((own ++ rest) ++ after)
      → x.at ≡ length before → 0 < length own
      → ((y : Stand) → y.at ≡ length (before ++ own) → Laid Is whole y rest ys)
      → Laid Is whole x (own ++ rest) ((s ∷ xs) ++ ys)
  laid_then {s} {xs} {ys} own rest before after x closed is split place some others =
      let first : Laid Is whole x own (s ∷ xs) =
      laid_one Is whole x before (rest ++ after) closed is
      (split ∙ ap (λ z. before ++ z) (append_assoc own rest after)) place some in
      laid_both Is whole x first
      (others (behind Is whole x first) (ap (λ k. k + length own) place ∙ sym (length-append before own)))

  -- what comes behind a statement
  split_behind : (before own rest after : List Kind) → whole ≡ before ++ ((own ++ rest) ++ after)
      → whole ≡ (before ++ own) ++ (rest ++ after)
  split_behind before own rest after split = split ∙ simp append_assoc refl

  pub statements_laid : {depth : ℕ} {tokens : List Kind} {xs : List S} → Spelled make Own limits depth tokens xs
      → (x : Stand) (before after : List Kind) → whole ≡ before ++ (tokens ++ after) → x.at ≡ length before
      → Laid Is whole x tokens (parts xs)
  statements_laid NoneLeft x before after split place = laid_at refl (sym n.none) (laid_nothing Is whole x)
  statements_laid {depth} (Assigns {tokens = tokens} {rest = rest} {value = value} {others = others} name s fits w)
      x before after split place =
      let own : List Kind = kind.Word name ∷ kind.Assign ∷ (tokens ++ kind.Semi ∷ []) in
      let e : own ++ rest ≡ kind.Word name ∷ kind.Assign ∷ (tokens ++ kind.Semi ∷ rest) = simp append_assoc refl in
      let at : whole ≡ before ++ ((own ++ rest) ++ after) =
      split ∙ ap (λ z. before ++ (z ++ after)) (sym e) in
      laid_at e (sym (n.sets name value others))
      (laid_then own rest before after x
      (closed_simple Is whole x (kind.Word name ∷ kind.Assign ∷ tokens) (omega arith)
      (set_begins x name tokens (expression_passes s)))
      (n.is depth own (make.variable_set name value) (Assigns name s fits NoneLeft)) at place (omega arith)
      (λ y there. statements_laid w y (before ++ own) after (split_behind before own rest after at) there))
  statements_laid {depth}
      (Stores {at = index} {tokens = tokens} {rest = rest} {index = tree} {value = value} {others = others} name i s
      fits w)
      x before after split place =
      let own : List Kind =
      kind.Word name ∷ kind.LBracket ∷ (index ++ kind.RBracket ∷ kind.Assign ∷ (tokens ++ kind.Semi ∷ [])) in
      let front : List Kind = kind.Word name ∷ kind.LBracket ∷ (index ++ kind.RBracket ∷ kind.Assign ∷ tokens) in
      let whole_own : front ++ kind.Semi ∷ [] ≡ own = simp append_assoc refl in
      let e : own ++ rest
      ≡ kind.Word name ∷ kind.LBracket ∷ (index ++ kind.RBracket ∷ kind.Assign ∷ (tokens ++ kind.Semi ∷ rest)) =
      simp append_assoc refl in
      let at : whole ≡ before ++ ((own ++ rest) ++ after) =
      split ∙ ap (λ z. before ++ (z ++ after)) (sym e) in
      laid_at e (sym (n.puts name tree value others))
      (laid_then own rest before after x
      (subst (λ z. Closed Is whole x z []) whole_own
      (closed_simple Is whole x front (omega arith)
      (put_begins x name index tokens (expression_passes i) (expression_passes s))))
      (n.is depth own (make.element_set name tree value) (Stores name i s fits NoneLeft)) at place (omega arith)
      (λ y there. statements_laid w y (before ++ own) after (split_behind before own rest after at) there))
  statements_laid {depth}
      (Decides {guard = guard} {tokens = tokens} {rest = rest} {test = test} {first = first} {others = others} g room
      inner w)
      x before after split place =
      let head : List Kind = kind.If ∷ kind.LParen ∷ (guard ++ kind.RParen ∷ kind.LBrace ∷ []) in
      let own : List Kind = head ++ (tokens ++ kind.RBrace ∷ []) in
      let plain : own ≡ kind.If ∷ kind.LParen ∷ (guard ++ kind.RParen ∷ kind.LBrace ∷ (tokens ++ kind.RBrace ∷ [])) =
      simp append_assoc refl in
      let e : own ++ rest
      ≡ kind.If ∷ kind.LParen ∷ (guard ++ kind.RParen ∷ kind.LBrace ∷ (tokens ++ kind.RBrace ∷ rest)) =
      simp append_assoc refl in
      let at : whole ≡ before ++ ((own ++ rest) ++ after) =
      split ∙ ap (λ z. before ++ (z ++ after)) (sym e) in
      let opened : Opened Is whole x head [] = opened_head Is whole x kind.If guard refl (guard_passes g) in
      laid_at e (sym (n.chooses test first others))
      (laid_then own rest before after x
      (closed_block Is whole x opened
      (statements_laid inner (within Is whole x opened) (before ++ head) (kind.RBrace ∷ (rest ++ after))
      (at ∙ simp append_assoc refl) (ap (λ k. k + length head) place ∙ sym (length-append before head))))
      (n.is depth own (make.choice test first [])
      (subst (λ z. Spelled make Own limits depth z (make.choice test first [] ∷ [])) (sym plain)
      (Decides g room inner NoneLeft)))
      at place (omega arith)
      (λ y there. statements_laid w y (before ++ own) after (split_behind before own rest after at) there))
  statements_laid {depth}
      (DecidesElse {guard = guard} {tokens = tokens} {between = between} {rest = rest} {test = test} {first = first}
      {second = second} {others = others} g room inner other w)
      x before after split place =
      let head : List Kind = kind.If ∷ kind.LParen ∷ (guard ++ kind.RParen ∷ kind.LBrace ∷ []) in
      let block : List Kind = head ++ (tokens ++ kind.RBrace ∷ []) in
      let front : List Kind = block ++ kind.Else ∷ kind.LBrace ∷ [] in
      let own : List Kind = front ++ (between ++ kind.RBrace ∷ []) in
      let plain : own
      ≡ kind.If ∷ kind.LParen ∷ (guard ++ kind.RParen ∷ kind.LBrace ∷
      (tokens ++ kind.RBrace ∷ kind.Else ∷ kind.LBrace ∷ (between ++ kind.RBrace ∷ []))) = simp append_assoc refl in
      let e : own ++ rest
      ≡ kind.If ∷ kind.LParen ∷ (guard ++ kind.RParen ∷ kind.LBrace ∷
      (tokens ++ kind.RBrace ∷ kind.Else ∷ kind.LBrace ∷ (between ++ kind.RBrace ∷ rest))) =
      simp append_assoc refl in
      let at : whole ≡ before ++ ((own ++ rest) ++ after) =
      split ∙ ap (λ z. before ++ (z ++ after)) (sym e) in
      let opened : Opened Is whole x head [] = opened_head Is whole x kind.If guard refl (guard_passes g) in
      let closed : Closed Is whole x block (parts first) =
      closed_block Is whole x opened
      (statements_laid inner (within Is whole x opened) (before ++ head)
      (kind.RBrace ∷ kind.Else ∷ kind.LBrace ∷ (between ++ kind.RBrace ∷ (rest ++ after)))
      (at ∙ simp append_assoc refl) (ap (λ k. k + length head) place ∙ sym (length-append before head))) in
      let again : Opened Is whole x front (parts first) = opened_again Is whole x closed in
      laid_at e (sym (n.chooses_else test first second others))
      (laid_then own rest before after x
      (closed_block Is whole x again
      (statements_laid other (within Is whole x again) (before ++ front) (kind.RBrace ∷ (rest ++ after))
      (at ∙ simp append_assoc refl) (ap (λ k. k + length front) place ∙ sym (length-append before front))))
      (n.is depth own (make.choice test first second)
      (subst (λ z. Spelled make Own limits depth z (make.choice test first second ∷ [])) (sym plain)
      (DecidesElse g room inner other NoneLeft)))
      at place (omega arith)
      (λ y there. statements_laid w y (before ++ own) after (split_behind before own rest after at) there))
  statements_laid {depth}
      (Loops {guard = guard} {tokens = tokens} {rest = rest} {test = test} {body = body} {others = others} g room
      inner w)
      x before after split place =
      let head : List Kind = kind.While ∷ kind.LParen ∷ (guard ++ kind.RParen ∷ kind.LBrace ∷ []) in
      let own : List Kind = head ++ (tokens ++ kind.RBrace ∷ []) in
      let plain : own
      ≡ kind.While ∷ kind.LParen ∷ (guard ++ kind.RParen ∷ kind.LBrace ∷ (tokens ++ kind.RBrace ∷ [])) =
      simp append_assoc refl in
      let e : own ++ rest
      ≡ kind.While ∷ kind.LParen ∷ (guard ++ kind.RParen ∷ kind.LBrace ∷ (tokens ++ kind.RBrace ∷ rest)) =
      simp append_assoc refl in
      let at : whole ≡ before ++ ((own ++ rest) ++ after) =
      split ∙ ap (λ z. before ++ (z ++ after)) (sym e) in
      let opened : Opened Is whole x head [] = opened_head Is whole x kind.While guard refl (guard_passes g) in
      laid_at e (sym (n.repeats test body others))
      (laid_then own rest before after x
      (closed_block Is whole x opened
      (statements_laid inner (within Is whole x opened) (before ++ head) (kind.RBrace ∷ (rest ++ after))
      (at ∙ simp append_assoc refl) (ap (λ k. k + length head) place ∙ sym (length-append before head))))
      (n.is depth own (make.repetition test body)
      (subst (λ z. Spelled make Own limits depth z (make.repetition test body ∷ [])) (sym plain)
      (Loops g room inner NoneLeft)))
      at place (omega arith)
      (λ y there. statements_laid w y (before ++ own) after (split_behind before own rest after at) there))
  statements_laid (Adds {tokens = tokens} {rest = rest} {s = s} {others = others} own w) x before after split place =
      laid_at refl (sym (n.adds tokens s others own))
      (laid_then tokens rest before after x (n.simple tokens s own x)
      (n.is zero tokens s
      (subst (λ z. Spelled make Own limits zero z (s ∷ [])) (append-nil tokens) (Adds own NoneLeft)))
      split place (n.some tokens s own)
      (λ y there. statements_laid w y (before ++ tokens) after (split_behind before tokens rest after split) there))
