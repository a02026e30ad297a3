-- The effect of a token depends on the limits in only one way: it is read if there is room, and exceeds a limit
-- otherwise. This holds for expressions, for parts of statements and for declarations, and for what is made of them.
use Rattle.std.proofs.Common.{◌≡◌, ◌≢◌, ◌⊎◌, inl, inr, ℕ, ◌+◌, ◌≤◌, pos, Bool, true, false, List, ◌∷◌, Option, Some, None, refl, ap, arith}
use Rattle.std.specs.Prelude.{◌&&◌, nat_lt}
use Rattle.std.proofs.lemmas.Bool.{and_parts, and_from, ltb-true, lt-ltb}
use Rattle.gr_word.specs.declared.operations.Op.{Op}
use Rattle.gr_word.specs.declared.operations.Cmp.{Cmp}
use Rattle.src_lexer.specs.declared.tokens.Kind.{Kind}
use Rattle.src_tree.specs.Prelude.{Tree, Variable}
use Rattle.src_parser.specs.Prelude.{Limits, operator_of, comparison_of, Waiting, Open, Index, Reading, At, Wanted, Given, TokenStep, Moves, Stops, Deep, Joint, Joins, where_room, wanting, pending, closing, having, naming, reads, whole, used_of, Advance, Goes, Wrong, TooMuch, mapped, with_braces, Form, Asked, Value, Place, Stored, Left, Right, Part, Target, Placed, Guarding, Inside, PartState, Still, after_step, targeting, placing, guarding, comparing, behind_expression, ending_where, part_advanced, Heading, Labelled, Typed, Titled, Sizing, Sized, Closing, heading_advanced}
use Rattle.src_parser.specs.Operands.{Named}
use Rattle.src_parser.proofs.Tokenwise.{Shape, Always, Where}
use Rattle.src_lexer.specs.declared.tokens.Kind.TheVariants as kind

-- a token of an expression: the effect is the same for any limits; or it is read if this many brackets may be open and
-- this many operators used
pub data StepShape (f : Limits → TokenStep) : Type 0 where
  Steady : (s : TokenStep) → s ≢ Deep → ((most : Limits) → f most ≡ s) → StepShape f
  Roomy : (brackets operators : ℕ) (y : Reading)
      → ((most : Limits) → brackets ≤ most.brackets → operators ≤ most.operators → f most ≡ Moves y)
      → ((most : Limits) → (f most ≡ Deep) ⊎ ((brackets ≤ most.brackets) × (operators ≤ most.operators))) → StepShape f

moves_not_deep : (x : Reading) → Moves x ≢ Deep
moves_not_deep x e = cc

stops_not_deep : (x : Reading) → Stops x ≢ Deep
stops_not_deep x e = cc

deep_or : {P : Type 0} (b : Bool) (x : Reading) → (b ≡ true → P) → (where_room b x ≡ Deep) ⊎ P
deep_or true x f = inr (f refl)
deep_or false x f = inl refl

bracket_room : (depth : ℕ) (y : Reading) → StepShape (λ most. where_room (nat_lt depth most.brackets) y)
bracket_room depth y = Roomy (depth + 1) 0 y
    (λ most h i. ap (λ t. where_room t y) (lt-ltb depth most.brackets (omega arith)))
    (λ most.
    deep_or (nat_lt depth most.brackets) y (λ t. let h = ltb-true depth most.brackets t in (omega arith, omega arith)))

operator_room : (used : ℕ) (y : Reading) → StepShape (λ most. where_room (nat_lt used most.operators) y)
operator_room used y = Roomy 0 (used + 1) y
    (λ most h i. ap (λ t. where_room t y) (lt-ltb used most.operators (omega arith)))
    (λ most.
    deep_or (nat_lt used most.operators) y (λ t. let h = ltb-true used most.operators t in (omega arith, omega arith)))

sign_room : (depth used : ℕ) (y : Reading)
    → StepShape (λ most. where_room (nat_lt depth most.brackets && nat_lt used most.operators) y)
sign_room depth used y = Roomy (depth + 1) (used + 1) y
    (λ most h i. ap (λ t. where_room t y)
    (and_from _ _ (lt-ltb depth most.brackets (omega arith)) (lt-ltb used most.operators (omega arith))))
    (λ most. deep_or (nat_lt depth most.brackets && nat_lt used most.operators) y
    (λ t. let p = and_parts (nat_lt depth most.brackets) _ t in
    let h = ltb-true depth most.brackets p.0 in let i = ltb-true used most.operators p.1 in (omega arith, omega arith)))

wanting_shape : (stack : List Waiting) (depth used : ℕ) (k : Kind)
    → StepShape (λ most. wanting most stack depth used k)
wanting_shape stack depth used (kind.Num (pos n)) = Steady _ (moves_not_deep _) (λ most. refl)
wanting_shape stack depth used (kind.Word name) = Steady _ (moves_not_deep _) (λ most. refl)
wanting_shape stack depth used kind.LParen = bracket_room depth _
wanting_shape stack depth used kind.Minus = sign_room depth used _
wanting_shape stack depth used _ = Steady _ (stops_not_deep _) (λ most. refl)

pending_shape : (op : Op) (used : ℕ) (joint : Joint) → StepShape (λ most. pending most op used joint)
pending_shape op used (Joins stack tree depth) = operator_room used _

closing_not_deep : (used : ℕ) (k : Kind) (stack : List Waiting) (tree : Tree) (depth : ℕ)
    → closing used k (Joins stack tree depth) ≢ Deep
closing_not_deep used kind.RParen (Open d ∷ stack) tree depth e = absurd (cc)
closing_not_deep used kind.RBracket (Index d name ∷ stack) tree depth e = absurd (cc)
closing_not_deep used _ _ tree depth e = absurd (cc)

closing_shape : (used : ℕ) (k : Kind) (joint : Joint) → StepShape (λ most. closing used k joint)
closing_shape used k (Joins stack tree depth) =
    Steady (closing used k (Joins stack tree depth)) (closing_not_deep used k stack tree depth) (λ most. refl)

having_shape : (stack : List Waiting) (depth used : ℕ) (tree : Tree) (k : Kind) (o : Option Op)
    → StepShape (λ most. having most stack depth used tree k o)
having_shape stack depth used tree k (Some op) = pending_shape op used _
having_shape stack depth used tree k None = closing_shape used k _

naming_shape : (stack : List Waiting) (depth used : ℕ) (name : List ℕ) (k : Kind)
    → StepShape (λ most. naming most stack depth used name k)
naming_shape stack depth used name kind.LBracket = bracket_room depth _
naming_shape stack depth used name k = having_shape stack depth used (Variable name) k (operator_of k)

pub reads_shape : (x : Reading) (k : Kind) → StepShape (λ most. reads most x k)
reads_shape (At stack depth used Wanted) k = wanting_shape stack depth used k
reads_shape (At stack depth used (Named name)) k = naming_shape stack depth used name k
reads_shape (At stack depth used (Given tree)) k = having_shape stack depth used tree k (operator_of k)

-- an advance that is the same for any limits
pub constant : {S : Type 0} {k : Kind} {count : ℕ} (t : Advance S) → t ≢ TooMuch → Shape S k count (λ most. t)
constant t h = Always t h (λ most. refl)

pub wrong_not_much : {S : Type 0} → ◌≢◌ {A = Advance S} Wrong TooMuch
wrong_not_much e = absurd (cc)

much_or : {S P : Type 0} (b : Bool) (x : S) → (b ≡ true → P) → (with_braces b x ≡ TooMuch) ⊎ P
much_or true x f = inr (f refl)
much_or false x f = inl refl

pub brace_room : {S : Type 0} (count : ℕ) (y : S)
    → Shape S kind.LBrace count (λ most. with_braces (nat_lt count most.braces) y)
brace_room count y = Where (record { brackets = 0; braces = count + 1; operators = 0 }) y
    (λ most fits. let h = fits.braces in ap (λ t. with_braces t y) (lt-ltb count most.braces (omega arith)))
    (λ most. much_or (nat_lt count most.braces) y (λ t. let h = ltb-true count most.braces t in
    record { brackets = omega arith; braces = omega arith; operators = omega arith }))
    (inr (refl, refl))

pub mapped_not : {A B : Type 0} (f : A → B) (t : Advance A) → t ≢ TooMuch → mapped f t ≢ TooMuch
mapped_not f (Goes s) h e = absurd (cc)
mapped_not f Wrong h e = absurd (cc)
mapped_not f TooMuch h e = h refl

pub mapped_shape : {A B : Type 0} {k : Kind} {count : ℕ} {g : Limits → Advance A} (f : A → B)
    → Shape A k count g → Shape B k count (λ most. mapped f (g most))
mapped_shape f (Always t h is) = Always (mapped f t) (mapped_not f t h) (λ most. ap (mapped f) (is most))
mapped_shape f (Where need next goes much braces) =
    Where need (f next) (λ most fits. ap (mapped f) (goes most fits))
    (λ most. elim (much most) [ inl e ↦ inl (ap (mapped f) e) | inr w ↦ inr w ]) braces

after_not : {S : Type 0} (on : Reading → S) (over : Reading → Advance S) → ((x : Reading) → over x ≢ TooMuch)
    → (s : TokenStep) → s ≢ Deep → after_step on over s ≢ TooMuch
after_not on over free (Moves x) h e = absurd (cc)
after_not on over free (Stops x) h e = free x e
after_not on over free Deep h e = h refl

pub step_shape : {S : Type 0} {k : Kind} {count : ℕ} {g : Limits → TokenStep} (on : Reading → S)
    (over : Reading → Advance S) → ((x : Reading) → over x ≢ TooMuch) → StepShape g
    → Shape S k count (λ most. after_step on over (g most))
step_shape on over free (Steady s h is) =
    Always (after_step on over s) (after_not on over free s h) (λ most. ap (after_step on over) (is most))
step_shape on over free (Roomy brackets operators y moves deep) =
    Where (record { brackets = brackets; braces = 0; operators = operators }) (on y)
    (λ most fits. ap (after_step on over) (moves most fits.brackets fits.operators))
    (λ most. elim (deep most) [
      | inl e ↦ inl (ap (after_step on over) e)
      | inr r ↦ inr (record { brackets = r.0; braces = omega arith; operators = r.1 })
    ])
    (inl refl)

pub targeting_not : (name : List ℕ) (k : Kind) → targeting name k ≢ TooMuch
targeting_not name kind.Assign e = absurd (cc)
targeting_not name _ e = absurd (cc)

placing_not : (name : List ℕ) (index : Tree) (used : ℕ) (k : Kind) → placing name index used k ≢ TooMuch
placing_not name index used kind.Assign e = absurd (cc)
placing_not name index used _ e = absurd (cc)

guarding_not : (form : Form) (k : Kind) → guarding form k ≢ TooMuch
guarding_not form kind.LParen e = absurd (cc)
guarding_not form _ e = absurd (cc)

comparing_not : (form : Form) (left : Tree) (used : ℕ) (o : Option Cmp) → comparing form left used o ≢ TooMuch
comparing_not form left used (Some cmp) e = absurd (cc)
comparing_not form left used None e = absurd (cc)

ending_not : (asked : Asked) (tree : Tree) (used : ℕ) (k : Kind) → behind_expression asked tree used k ≢ TooMuch
ending_not (Value name) tree used kind.Semi e = absurd (cc)
ending_not (Place name) tree used kind.RBracket e = absurd (cc)
ending_not (Stored name index) tree used kind.Semi e = absurd (cc)
ending_not (Left form) tree used k e = comparing_not form tree used (comparison_of k) e
ending_not (Right form cmp left) tree used kind.RParen e = absurd (cc)
ending_not _ tree used _ e = absurd (cc)

ending_where_not : (asked : Asked) (o : Option Tree) (used : ℕ) (k : Kind)
    → ending_where asked o used k ≢ TooMuch
ending_where_not asked None used k e = absurd (cc)
ending_where_not asked (Some tree) used k e = ending_not asked tree used k e

pub part_shape : (part : Part) (k : Kind) (count : ℕ)
    → Shape PartState k count (λ most. part_advanced most part k)
part_shape (Target name) k count = constant _ (targeting_not name k)
part_shape (Placed name index used) k count = constant _ (placing_not name index used k)
part_shape (Guarding form) k count = constant _ (guarding_not form k)
part_shape (Inside asked x) k count =
    step_shape (λ y. Still (Inside asked y)) (λ y. ending_where asked (whole y) (used_of y) k)
    (λ y. ending_where_not asked (whole y) (used_of y) k) (reads_shape x k)

pub heading_not : (heading : Heading) (k : Kind) → heading_advanced heading k ≢ TooMuch
heading_not (Labelled label) kind.Int e = absurd (cc)
heading_not (Typed label) (kind.Word name) e = absurd (cc)
heading_not (Titled label name) kind.Semi e = absurd (cc)
heading_not (Titled label name) kind.LBracket e = absurd (cc)
heading_not (Sizing label name) (kind.Num (pos n)) e = absurd (cc)
heading_not (Sized label name n) kind.RBracket e = absurd (cc)
heading_not (Closing label name n) kind.Semi e = absurd (cc)
heading_not _ _ e = absurd (cc)
