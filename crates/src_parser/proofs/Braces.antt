-- The open braces before and after a token: a brace isn't part of an expression, of a part of a statement or of a
-- declaration.
use Rattle.std.proofs.Common.{◌≡◌, ℕ, ◌+◌, ◌<◌, pos, Bool, true, false, List, Option, Some, None, refl, sym, ap, ◌∙◌}
use Rattle.std.specs.Prelude.{nat_lt}
use Rattle.std.proofs.lemmas.Bool.{ltb-true}
use Rattle.src_lexer.specs.declared.tokens.Kind.{Kind}
use Rattle.src_tree.specs.Prelude.{Tree}
use Rattle.src_parser.specs.Prelude.{Limits, comparison_of, Reading, At, Wanted, Given, TokenStep, Moves, Stops, Deep, Joint, Joins, closing, reads, whole, used_of, Advance, Goes, Wrong, TooMuch, mapped, with_braces, Form, Asked, Value, Place, Stored, Left, Right, Part, Target, Placed, Guarding, Inside, PartState, targeting, placing, guarding, comparing, behind_expression, ending_where, in_expression, part_advanced, Heading, Labelled, Typed, Titled, Sizing, Sized, Closing, HeadingState, heading_advanced}
use Rattle.src_parser.specs.Operands.{Named}
use Rattle.src_parser.proofs.Tokenwise.{Counted}
use Rattle.src_lexer.specs.declared.tokens.Kind.TheVariants as kind

pub same_state : {S : Type 0} (x y : S) → ◌≡◌ {A = Advance S} (Goes x) (Goes y) → x ≡ y
same_state x y e = cc

-- an advance of the whole is an advance of its part
pub mapped_goes : {A B R : Type 0} (f : A → B) (t : Advance A) (b : B) → mapped f t ≡ Goes b
    → ((a : A) → t ≡ Goes a → f a ≡ b → R) → R
mapped_goes f (Goes a) b e so = so a refl (same_state (f a) b e)
mapped_goes f Wrong b e so = absurd (cc)
mapped_goes f TooMuch b e so = absurd (cc)

pub braces_counted : {S : Type 0} (open_braces : S → ℕ) (most count : ℕ) (b : Bool) (x next : S) → nat_lt count most ≡ b
    → open_braces x ≡ count + 1 → with_braces b x ≡ Goes next → (count < most) × (open_braces next ≡ count + 1)
braces_counted open_braces most count true x next t is e =
    (ltb-true count most t, ap open_braces (sym (same_state x next e)) ∙ is)
braces_counted open_braces most count false x next t is e = absurd (cc)

-- a brace isn't part of an expression
closing_left : (used : ℕ) (joint : Joint) (y : Reading) → closing used kind.LBrace joint ≡ Moves y → ⊥
closing_left used (Joins stack tree depth) y e = cc

closing_right : (used : ℕ) (joint : Joint) (y : Reading) → closing used kind.RBrace joint ≡ Moves y → ⊥
closing_right used (Joins stack tree depth) y e = cc

reads_left : (most : Limits) (x y : Reading) → reads most x kind.LBrace ≡ Moves y → ⊥
reads_left most (At stack depth used Wanted) y e = cc
reads_left most (At stack depth used (Named name)) y e = closing_left used _ y e
reads_left most (At stack depth used (Given tree)) y e = closing_left used _ y e

reads_right : (most : Limits) (x y : Reading) → reads most x kind.RBrace ≡ Moves y → ⊥
reads_right most (At stack depth used Wanted) y e = cc
reads_right most (At stack depth used (Named name)) y e = closing_right used _ y e
reads_right most (At stack depth used (Given tree)) y e = closing_right used _ y e

pub moves_counted : (most : Limits) (x y : Reading) (k : Kind) (count after : ℕ)
    → reads most x k ≡ Moves y → after ≡ count → Counted k most.braces count after
moves_counted most x y kind.LBrace count after e is = absurd (reads_left most x y e)
moves_counted most x y kind.RBrace count after e is = absurd (reads_right most x y e)
moves_counted most x y _ count after e is = is

pub targeting_counted : (most : ℕ) (name : List ℕ) (k : Kind) (s : PartState) (count after : ℕ)
    → targeting name k ≡ Goes s → after ≡ count → Counted k most count after
targeting_counted most name kind.Assign s count after e is = is
targeting_counted most name kind.LBracket s count after e is = is
targeting_counted most name _ s count after e is = absurd (cc)

placing_counted : (most : ℕ) (name : List ℕ) (index : Tree) (used : ℕ) (k : Kind) (s : PartState)
    (count after : ℕ) → placing name index used k ≡ Goes s → after ≡ count → Counted k most count after
placing_counted most name index used kind.Assign s count after e is = is
placing_counted most name index used _ s count after e is = absurd (cc)

guarding_counted : (most : ℕ) (form : Form) (k : Kind) (s : PartState) (count after : ℕ)
    → guarding form k ≡ Goes s → after ≡ count → Counted k most count after
guarding_counted most form kind.LParen s count after e is = is
guarding_counted most form _ s count after e is = absurd (cc)

comparing_counted : (most : ℕ) (form : Form) (left : Tree) (used : ℕ) (k : Kind) (s : PartState)
    (count after : ℕ) → comparing form left used (comparison_of k) ≡ Goes s → after ≡ count
    → Counted k most count after
comparing_counted most form left used kind.Eq s count after e is = is
comparing_counted most form left used kind.Ne s count after e is = is
comparing_counted most form left used kind.Lt s count after e is = is
comparing_counted most form left used kind.Le s count after e is = is
comparing_counted most form left used kind.Gt s count after e is = is
comparing_counted most form left used kind.Ge s count after e is = is
comparing_counted most form left used _ s count after e is = absurd (cc)

ending_counted : (most : ℕ) (asked : Asked) (tree : Tree) (used : ℕ) (k : Kind) (s : PartState)
    (count after : ℕ) → behind_expression asked tree used k ≡ Goes s → after ≡ count → Counted k most count after
ending_counted most (Value name) tree used kind.Semi s count after e is = is
ending_counted most (Place name) tree used kind.RBracket s count after e is = is
ending_counted most (Stored name index) tree used kind.Semi s count after e is = is
ending_counted most (Left form) tree used k s count after e is =
    comparing_counted most form tree used k s count after e is
ending_counted most (Right form cmp left) tree used kind.RParen s count after e is = is
ending_counted most other tree used _ s count after e is = absurd (cc)

ending_where_counted : (most : ℕ) (asked : Asked) (o : Option Tree) (used : ℕ) (k : Kind) (s : PartState)
    (count after : ℕ) → ending_where asked o used k ≡ Goes s → after ≡ count → Counted k most count after
ending_where_counted most asked None used k s count after e is = absurd (cc)
ending_where_counted most asked (Some tree) used k s count after e is =
    ending_counted most asked tree used k s count after e is

inside_counted : (most : Limits) (asked : Asked) (x : Reading) (k : Kind) (step : TokenStep)
    → reads most x k ≡ step → (s : PartState) (count after : ℕ) → in_expression asked k step ≡ Goes s
    → after ≡ count → Counted k most.braces count after
inside_counted most asked x k (Moves y) r s count after e is = moves_counted most x y k count after r is
inside_counted most asked x k (Stops y) r s count after e is =
    ending_where_counted most.braces asked (whole y) (used_of y) k s count after e is
inside_counted most asked x k Deep r s count after e is = absurd (cc)

pub part_counted : (most : Limits) (part : Part) (k : Kind) (s : PartState) (count after : ℕ)
    → part_advanced most part k ≡ Goes s → after ≡ count → Counted k most.braces count after
part_counted most (Target name) k s count after e is = targeting_counted most.braces name k s count after e is
part_counted most (Placed name index used) k s count after e is =
    placing_counted most.braces name index used k s count after e is
part_counted most (Guarding form) k s count after e is = guarding_counted most.braces form k s count after e is
part_counted most (Inside asked x) k s count after e is =
    inside_counted most asked x k (reads most x k) refl s count after e is

pub heading_counted : (most : ℕ) (heading : Heading) (k : Kind) (s : HeadingState) (count after : ℕ)
    → heading_advanced heading k ≡ Goes s → after ≡ count → Counted k most count after
heading_counted most (Labelled label) kind.Int s count after e is = is
heading_counted most (Typed label) (kind.Word name) s count after e is = is
heading_counted most (Titled label name) kind.Semi s count after e is = is
heading_counted most (Titled label name) kind.LBracket s count after e is = is
heading_counted most (Sizing label name) (kind.Num (pos n)) s count after e is = is
heading_counted most (Sized label name n) kind.RBracket s count after e is = is
heading_counted most (Closing label name n) kind.Semi s count after e is = is
heading_counted most other _ s count after e is = absurd (cc)
