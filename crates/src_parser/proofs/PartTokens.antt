-- Each state of a part of a statement has read some tokens, and these are completed to a whole part by tokens that
-- aren't names.
use Rattle.std.proofs.Common.{◌≡◌, ℕ, ◌+◌, ◌≤◌, pos, List, [], ◌∷◌, ◌++◌, Option, Some, None, refl, sym, subst, append_assoc, arith}
use Rattle.std.proofs.lemmas.List.{append-nil}
use Rattle.gr_word.specs.declared.operations.Cmp.{Cmp}
use Rattle.src_lexer.specs.declared.tokens.Kind.{Kind}
use Rattle.src_tree.specs.Prelude.{Tree, Number, Test}
use Rattle.src_parser.specs.Prelude.{Limits, comparison_of, operators, SpellsTree, Numeral, Compares, Compared, Reading, TokenStep, Moves, Stops, Deep, reads, whole, used_of, Goes, Form, ForChoice, ForLoop, Asked, Value, Place, Stored, Left, Right, Part, Target, Placed, Guarding, Inside, Made, VariableSet, ElementSet, GuardRead, PartState, Still, Done, targeting, placing, guarding, comparing, behind_expression, ending_where, in_expression, part_advanced}
use Rattle.src_parser.proofs.Braces.{same_state}
use Rattle.src_parser.proofs.Held.{HasNoName, no_name_in_both, Start}
use Rattle.src_parser.proofs.Reached.{Reached, Wants, reaches, Ended, ends, Fitting, fitting}
use Rattle.gr_word.specs.declared.operations.Cmp.TheVariants as cmps
use Rattle.src_lexer.specs.declared.tokens.Kind.TheVariants as kind

-- the keyword of a guard
abbrev pub word_of : Form → Kind
word_of ForChoice = kind.If
word_of ForLoop = kind.While

-- these tokens of a statement lead to where an expression is expected, with this many open brackets and used operators
pub data Asks (most : Limits) : Asked → (base start : ℕ) → List Kind → Type 0 where
  AsksValue : (name : List ℕ) → Asks most (Value name) 0 0 (kind.Word name ∷ kind.Assign ∷ [])
  AsksPlace : (name : List ℕ) → Asks most (Place name) 1 0 (kind.Word name ∷ kind.LBracket ∷ [])
  AsksStored : {at : List Kind} {index : Tree} (name : List ℕ) → SpellsTree most.brackets 1 0 at index
      → Asks most (Stored name index) 0 (operators index)
      (kind.Word name ∷ kind.LBracket ∷ (at ++ kind.RBracket ∷ kind.Assign ∷ []))
  AsksLeft : (form : Form) → Asks most (Left form) 0 0 (word_of form ∷ kind.LParen ∷ [])
  AsksRight : {left : List Kind} {a : Tree} (form : Form) (cmp : Cmp) (sign : Kind)
      → comparison_of sign ≡ Some cmp → SpellsTree most.brackets 0 0 left a
      → Asks most (Right form cmp a) 0 (operators a) (word_of form ∷ kind.LParen ∷ (left ++ sign ∷ []))

-- these tokens lead to this state of a part
pub data PartStands (most : Limits) : Part → List Kind → Type 0 where
  IsTarget : (name : List ℕ) → PartStands most (Target name) (kind.Word name ∷ [])
  IsPlaced : {at : List Kind} {index : Tree} {used : ℕ} (name : List ℕ)
      → SpellsTree most.brackets 1 0 at index → used ≡ operators index → used ≤ most.operators
      → PartStands most (Placed name index used) (kind.Word name ∷ kind.LBracket ∷ (at ++ kind.RBracket ∷ []))
  IsGuarding : (form : Form) → PartStands most (Guarding form) (word_of form ∷ [])
  IsInside : {asked : Asked} {base start : ℕ} {x : Reading} {ts us : List Kind}
      → Asks most asked base start ts → Reached most base start x us → PartStands most (Inside asked x) (ts ++ us)

-- these tokens are a whole part
pub data Makes (most : Limits) : Made → List Kind → Type 0 where
  MakesVariable : {tokens : List Kind} {value : Tree} (name : List ℕ) → SpellsTree most.brackets 0 0 tokens value
      → operators value ≤ most.operators
      → Makes most (VariableSet name value) (kind.Word name ∷ kind.Assign ∷ (tokens ++ kind.Semi ∷ []))
  MakesElement : {at tokens : List Kind} {index value : Tree} (name : List ℕ)
      → SpellsTree most.brackets 1 0 at index → SpellsTree most.brackets 0 0 tokens value
      → operators index + operators value ≤ most.operators
      → Makes most (ElementSet name index value)
      (kind.Word name ∷ kind.LBracket ∷ (at ++ kind.RBracket ∷ kind.Assign ∷ (tokens ++ kind.Semi ∷ [])))
  MakesGuard : {guard : List Kind} {test : Test} (form : Form) → Compares most guard test
      → Makes most (GuardRead form test) (word_of form ∷ kind.LParen ∷ (guard ++ kind.RParen ∷ []))

abbrev pub StateStands : Limits → PartState → List Kind → Type 0
StateStands most (Still part) tokens = PartStands most part tokens
StateStands most (Done made) tokens = Makes most made tokens

went : (most : Limits) (tokens : List Kind) (x y : PartState) → Goes x ≡ Goes y → StateStands most x tokens
    → StateStands most y tokens
went most tokens x y e s = subst (λ z. StateStands most z tokens) (same_state x y e) s

part_at : {most : Limits} {part : Part} (xs ys : List Kind) → xs ≡ ys → PartStands most part xs
    → PartStands most part ys
part_at {most} {part} xs ys e s = subst (λ z. PartStands most part z) e s

makes_at : {most : Limits} {made : Made} (xs ys : List Kind) → xs ≡ ys → Makes most made xs → Makes most made ys
makes_at {most} {made} xs ys e s = subst (λ z. Makes most made z) e s

targeting_steps : (most : Limits) (name : List ℕ) (k : Kind) (s : PartState) → targeting name k ≡ Goes s
    → StateStands most s (kind.Word name ∷ k ∷ [])
targeting_steps most name kind.Assign s e =
    went _ _ _ s e (IsInside (AsksValue name) (Wants Start (omega arith) (omega arith)))
targeting_steps most name kind.LBracket s e =
    went _ _ _ s e (IsInside (AsksPlace name) (Wants Start (omega arith) (omega arith)))
targeting_steps most name _ s e = absurd (cc)

placing_steps : (most : Limits) {at : List Kind} {index : Tree} {used : ℕ} (name : List ℕ)
    → SpellsTree most.brackets 1 0 at index → used ≡ operators index → used ≤ most.operators
    → (k : Kind) (s : PartState) → placing name index used k ≡ Goes s
    → StateStands most s ((kind.Word name ∷ kind.LBracket ∷ (at ++ kind.RBracket ∷ [])) ++ k ∷ [])
placing_steps most {at} name i is fits kind.Assign s e =
    went _ _ _ s e (part_at _ _ (simp (append_assoc, append-nil) refl)
    (IsInside (AsksStored name i) (Wants Start (omega arith) fits)))
placing_steps most name i is fits _ s e = absurd (cc)

guarding_steps : (most : Limits) (form : Form) (k : Kind) (s : PartState) → guarding form k ≡ Goes s
    → StateStands most s (word_of form ∷ k ∷ [])
guarding_steps most form kind.LParen s e =
    went _ _ _ s e (IsInside (AsksLeft form) (Wants Start (omega arith) (omega arith)))
guarding_steps most form _ s e = absurd (cc)

comparing_steps : {most : Limits} {us : List Kind} (form : Form) (left : Tree) (used : ℕ)
    → Ended most 0 0 us left used → (k : Kind) (o : Option Cmp) → comparison_of k ≡ o → (s : PartState)
    → comparing form left used o ≡ Goes s → StateStands most s (((word_of form ∷ kind.LParen ∷ []) ++ us) ++ k ∷ [])
comparing_steps {most} {us = us} form left used ended k (Some cmp) is s e =
    let counted = ended.counted in
    went _ _ _ s e (part_at _ _ (simp (append_assoc, append-nil) refl)
    (IsInside (AsksRight form cmp k is ended.spells) (Wants Start (omega arith) ended.fits)))
comparing_steps form left used ended k None is s e = absurd (cc)

ending_steps : {most : Limits} {base start : ℕ} {before us : List Kind} {asked : Asked} (tree : Tree) (used : ℕ)
    → Asks most asked base start before → Ended most base start us tree used → (k : Kind) (s : PartState)
    → behind_expression asked tree used k ≡ Goes s → StateStands most s ((before ++ us) ++ k ∷ [])
ending_steps {us = us} tree used (AsksValue name) ended kind.Semi s e =
    let counted = ended.counted in let fits = ended.fits in
    went _ _ _ s e (MakesVariable name ended.spells (omega arith))
ending_steps tree used (AsksValue name) ended _ s e = absurd (cc)
ending_steps {us = us} tree used (AsksPlace name) ended kind.RBracket s e =
    let counted = ended.counted in went _ _ _ s e (IsPlaced name ended.spells (omega arith) ended.fits)
ending_steps tree used (AsksPlace name) ended _ s e = absurd (cc)
ending_steps {us = us} tree used (AsksStored {at = at} name i) ended kind.Semi s e =
    let counted = ended.counted in let fits = ended.fits in
    went _ _ _ s e (makes_at _ _ (simp append_assoc refl) (MakesElement name i ended.spells (omega arith)))
ending_steps tree used (AsksStored name i) ended _ s e = absurd (cc)
ending_steps tree used (AsksLeft form) ended k s e = comparing_steps form tree used ended k (comparison_of k) refl s e
ending_steps {us = us} tree used (AsksRight {left = left} form cmp sign is a) ended kind.RParen s e =
    let counted = ended.counted in let fits = ended.fits in
    went _ _ _ s e (makes_at _ _ (simp append_assoc refl)
    (MakesGuard form (Compared cmp sign is a ended.spells (omega arith))))
ending_steps tree used (AsksRight form cmp sign is a) ended _ s e = absurd (cc)

ending_where_steps : {most : Limits} {base start : ℕ} {before us : List Kind} {asked : Asked} (x y : Reading)
    → Asks most asked base start before → Reached most base start x us → (k : Kind) → reads most x k ≡ Stops y
    → (w : Option Tree) → whole y ≡ w → (s : PartState) → ending_where asked w (used_of y) k ≡ Goes s
    → StateStands most s ((before ++ us) ++ k ∷ [])
ending_where_steps x y a r k stop None is s e = absurd (cc)
ending_where_steps x y a r k stop (Some tree) is s e =
    ending_steps tree (used_of y) a (ends r k y tree stop is) k s e

inside_steps : {most : Limits} {base start : ℕ} {before us : List Kind} {asked : Asked} (x : Reading)
    → Asks most asked base start before → Reached most base start x us → (k : Kind) (step : TokenStep)
    → reads most x k ≡ step → (s : PartState) → in_expression asked k step ≡ Goes s
    → StateStands most s ((before ++ us) ++ k ∷ [])
inside_steps {before = before} {us = us} x a r k (Moves y) is s e =
    went _ _ _ s e (part_at _ _ (sym (append_assoc before us (k ∷ []))) (IsInside a (reaches r k y is)))
inside_steps x a r k (Stops y) is s e = ending_where_steps x y a r k is (whole y) refl s e
inside_steps x a r k Deep is s e = absurd (cc)

-- a token of a part that is read
pub part_steps : {most : Limits} {part : Part} {tokens : List Kind} → PartStands most part tokens
    → (k : Kind) (s : PartState) → part_advanced most part k ≡ Goes s → StateStands most s (tokens ++ k ∷ [])
part_steps {most} (IsTarget name) k s e = targeting_steps most name k s e
part_steps {most} (IsPlaced name i is fits) k s e = placing_steps most name i is fits k s e
part_steps {most} (IsGuarding form) k s e = guarding_steps most form k s e
part_steps {most} (IsInside {x = x} a r) k s e = inside_steps x a r k (reads most x k) refl s e

-- some more tokens, none of which is a name, complete a part
pub record PartCompletes (most : Limits) (tokens : List Kind) : Type 0 where
  pub more : List Kind
  pub nameless : HasNoName more
  pub made : Made
  pub makes : Makes most made (tokens ++ more)

zero_value : (most depth : ℕ) → SpellsTree most depth 0 (kind.Num (pos 0) ∷ []) (Number (pos 0))
zero_value most depth = Numeral 0

asked_completes : {most : Limits} {base start : ℕ} {before us : List Kind} {asked : Asked}
    → Asks most asked base start before → Fitting most base start us → PartCompletes most (before ++ us)
asked_completes {us = us} (AsksValue name) f =
    let fits = f.fits in record {
      more = f.more ++ kind.Semi ∷ [];
      nameless = no_name_in_both f.more _ f.nameless tt;
      made = VariableSet name f.tree;
      makes = makes_at _ _ (simp append_assoc refl) (MakesVariable name f.spells (omega arith));
    }
asked_completes {most} {us = us} (AsksPlace name) f =
    let fits = f.fits in record {
      more = f.more ++ kind.RBracket ∷ kind.Assign ∷ kind.Num (pos 0) ∷ kind.Semi ∷ [];
      nameless = no_name_in_both f.more _ f.nameless tt;
      made = ElementSet name f.tree (Number (pos 0));
      makes = makes_at _ _ (simp append_assoc refl)
          (MakesElement name f.spells (zero_value most.brackets 0) (omega arith));
    }
asked_completes {us = us} (AsksStored {at = at} {index = index} name i) f =
    let fits = f.fits in record {
      more = f.more ++ kind.Semi ∷ [];
      nameless = no_name_in_both f.more _ f.nameless tt;
      made = ElementSet name index f.tree;
      makes = makes_at _ _ (simp append_assoc refl) (MakesElement name i f.spells fits);
    }
asked_completes {most} {us = us} (AsksLeft form) f =
    let fits = f.fits in record {
      more = f.more ++ kind.Eq ∷ kind.Num (pos 0) ∷ kind.RParen ∷ [];
      nameless = no_name_in_both f.more _ f.nameless tt;
      made = GuardRead form (record { cmp = cmps.Eq; left = f.tree; right = Number (pos 0) });
      makes = makes_at _ _ (simp append_assoc refl)
          (MakesGuard form (Compared cmps.Eq kind.Eq refl f.spells (zero_value most.brackets 0) (omega arith)));
    }
asked_completes {us = us} (AsksRight {left = left} {a = a} form cmp sign is first) f =
    let fits = f.fits in record {
      more = f.more ++ kind.RParen ∷ [];
      nameless = no_name_in_both f.more _ f.nameless tt;
      made = GuardRead form (record { cmp = cmp; left = a; right = f.tree });
      makes = makes_at _ _ (simp append_assoc refl) (MakesGuard form (Compared cmp sign is first f.spells fits));
    }

pub part_completes : {most : Limits} {part : Part} {tokens : List Kind} → PartStands most part tokens
    → PartCompletes most tokens
part_completes {most} (IsTarget name) = record {
  more = kind.Assign ∷ kind.Num (pos 0) ∷ kind.Semi ∷ [];
  nameless = tt;
  made = VariableSet name (Number (pos 0));
  makes = MakesVariable name (zero_value most.brackets 0) (omega arith);
}
part_completes {most} (IsPlaced {at = at} {index = index} name i is fits) = record {
  more = kind.Assign ∷ kind.Num (pos 0) ∷ kind.Semi ∷ [];
  nameless = tt;
  made = ElementSet name index (Number (pos 0));
  makes = makes_at _ _ (simp append_assoc refl)
      (MakesElement name i (zero_value most.brackets 0) (omega arith));
}
part_completes {most} (IsGuarding form) = record {
  more = kind.LParen ∷ kind.Num (pos 0) ∷ kind.Eq ∷ kind.Num (pos 0) ∷ kind.RParen ∷ [];
  nameless = tt;
  made = GuardRead form (record { cmp = cmps.Eq; left = Number (pos 0); right = Number (pos 0) });
  makes = MakesGuard form (Compared cmps.Eq kind.Eq refl (zero_value most.brackets 0) (zero_value most.brackets 0)
      (omega arith));
}
part_completes (IsInside a r) = asked_completes a (fitting r)
