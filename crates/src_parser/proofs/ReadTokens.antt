-- One expression among tokens: what reading it token by token says about the grammar.
use Rattle.std.proofs.Common.{◌≡◌, ◌⊎◌, inl, inr, ℕ, ◌+◌, ◌≤◌, List, [], ◌∷◌, ◌++◌, pos, Option, Some, None, refl, sym, ap, ◌∙◌, subst, append_assoc, arith}
use Rattle.std.proofs.lemmas.List.{append-nil}
use Rattle.gr_word.specs.declared.operations.Op.{Op}
use Rattle.src_lexer.specs.declared.tokens.Kind.{Kind}
use Rattle.src_tree.specs.Prelude.{Tree, Variable}
use Rattle.src_parser.specs.Prelude.{Limits, operator_of, operators, Waiting, Reading, At, Wanted, Given, TokenStep, Moves, Stops, Deep, Joint, Joins, tree_joined, closing, having, naming, wanting, reads, whole, IsExpression, ExpressionBegins, then_read, reads_all, left_whole, ended, after_read, read_to_end}
use Rattle.src_parser.specs.Operands.{Named}
use Rattle.src_parser.proofs.Complete.{Runs, Follows, closer, complete}
use Rattle.src_parser.proofs.Held.{Start}
use Rattle.src_parser.proofs.Reached.{Reached, Wants, reaches, fitting, ends, stops_with, room_stops, pending_stops}
use Rattle.src_parser.proofs.Rooms.{StepShape, Steady, Roomy, reads_shape}
use Rattle.src_lexer.specs.declared.tokens.Kind.TheVariants as kind

-- the reading before an expression
abbrev pub first : ℕ → ℕ → Reading
first opened used = At [] opened used Wanted

-- the reading to which tokens lead is reached
reach_step : {most : Limits} {base start : ℕ} (tokens : List Kind) (k : Kind) (ks : List Kind)
    (x : Reading) (s : TokenStep) (y : Reading)
    → ((z : Reading) → Reached most base start z (tokens ++ k ∷ []) → reads_all most z ks ≡ Moves y
    → Reached most base start y ((tokens ++ k ∷ []) ++ ks))
    → Reached most base start x tokens → reads most x k ≡ s
    → then_read s (λ z. reads_all most z ks) ≡ Moves y → Reached most base start y (tokens ++ k ∷ ks)
reach_step {most} {base} {start} tokens k ks x (Moves z) y rest r is e =
    subst (λ ts. Reached most base start y ts) (append_assoc tokens (k ∷ []) ks) (rest z (reaches r k z is) e)
reach_step tokens k ks x (Stops z) y rest r is e = absurd (cc)
reach_step tokens k ks x Deep y rest r is e = absurd (cc)

reach_many : {most : Limits} {base start : ℕ} (ks tokens : List Kind) (x y : Reading)
    → Reached most base start x tokens → reads_all most x ks ≡ Moves y → Reached most base start y (tokens ++ ks)
reach_many {most} {base} {start} [] tokens x y r e =
    let f : x ≡ y = cc in
    subst (λ ts. Reached most base start y ts) (sym (append-nil tokens))
    (subst (λ z. Reached most base start z tokens) f r)
reach_many {most} (k ∷ ks) tokens x y r e =
    reach_step tokens k ks x (reads most x k) y
    (λ z s g. reach_many ks (tokens ++ k ∷ []) z y s g) r refl e

pub reached : (most : Limits) (opened used : ℕ) (ks : List Kind) (x : Reading) → used ≤ most.operators
    → reads_all most (first opened used) ks ≡ Moves x → Reached most opened used x ks
reached most opened used ks x few e =
    reach_many ks [] (first opened used) x (Wants Start (omega arith) few) e

-- tokens that are read begin an expression
pub begins : (most : Limits) (opened used : ℕ) (ks : List Kind) (x : Reading) → used ≤ most.operators
    → reads_all most (first opened used) ks ≡ Moves x → ExpressionBegins most opened used ks
begins most opened used ks x few e =
    let f = fitting (reached most opened used ks x few e) in
    record { more = f.more; tree = f.tree; whole = record { spells = f.spells; fits = f.fits } }

-- a token with which no expression continues leaves the expression that was read
pub is_expression : (most : Limits) (opened used : ℕ) (ks : List Kind) (x y : Reading) (k : Kind)
    (tree : Tree) → used ≤ most.operators → reads_all most (first opened used) ks ≡ Moves x
    → reads most x k ≡ Stops y → whole y ≡ Some tree → IsExpression most opened used ks tree
is_expression most opened used ks x y k tree few e stop w =
    let f = ends (reached most opened used ks x few e) k y tree stop w in
    let counted = f.counted in
    let fits = f.fits in
    record { spells = f.spells; fits = omega arith }

-- an expression is read to its end
runs : (most : Limits) → Runs most (read_to_end most)
runs most = record {
  moves = λ x y k ks e. ap (λ s. after_read s ks (λ z. read_to_end most z ks)) e;
  same = λ x y k ks e. ap (λ s. after_read s ks (λ z. read_to_end most z ks)) e;
}

semicolon : Follows 0 kind.Semi
semicolon = closer 0 kind.Semi (λ e. absurd (cc)) refl

pub read_whole : (most : Limits) (opened used : ℕ) (ks : List Kind) (tree : Tree)
    → IsExpression most opened used ks tree → read_to_end most (first opened used) (ks ++ kind.Semi ∷ []) ≡ Some tree
read_whole most opened used ks tree is =
    complete most (read_to_end most) (runs most) is.spells [] used (used + operators tree) kind.Semi []
    (omega arith) semicolon refl is.fits

-- for any limits, a token that is read leads to the same reading, or exceeds a limit
same_shape : {f : Limits → TokenStep} → StepShape f → (most other : Limits) (y : Reading) → f most ≡ Moves y
    → (f other ≡ Moves y) ⊎ (f other ≡ Deep)
same_shape (Steady s h is) most other y e = let a = is most in let b = is other in inl (cc)
same_shape {f = f} (Roomy brackets count z moves deep) most other y e =
    elim (deep most) [
      | inl m ↦ absurd (cc)
      | inr r ↦ elim (deep other) [
        | inl n ↦ inr n
        | inr v ↦ (let a : f other ≡ Moves z = moves other v.0 v.1 in
            let b : f most ≡ Moves z = moves most r.0 r.1 in inl (cc))
      ]
    ]

-- an expression that doesn't continue with a token for some limits doesn't continue with it for any
stop_shape : {f : Limits → TokenStep} → StepShape f → (most other : Limits) (y : Reading) → f most ≡ Stops y
    → f other ≡ Stops y
stop_shape (Steady s h is) most other y e = let a = is most in let b = is other in cc
stop_shape {f = f} (Roomy brackets count z moves deep) most other y e =
    elim (deep most) [
      | inl m ↦ absurd (cc)
      | inr r ↦ (let b : f most ≡ Moves z = moves most r.0 r.1 in absurd (cc))
    ]

-- after tokens that are read, the rest is read from the reading to which they lead
through_step : (most other : Limits) (k : Kind) (ks more : List Kind) (x : Reading) (s : TokenStep)
    (y : Reading) (tree : Tree)
    → ((z : Reading) → reads_all most z ks ≡ Moves y → read_to_end other z (ks ++ more) ≡ Some tree
    → read_to_end other y more ≡ Some tree)
    → reads most x k ≡ s → then_read s (λ z. reads_all most z ks) ≡ Moves y
    → read_to_end other x (k ∷ (ks ++ more)) ≡ Some tree → read_to_end other y more ≡ Some tree
through_step most other k ks more x (Moves z) y tree rest is e w =
    elim (same_shape (reads_shape x k) most other z is) [
      | inl g ↦ rest z e
          (sym (ap (λ s. after_read s (ks ++ more) (λ n. read_to_end other n (ks ++ more))) g) ∙ w)
      | inr g ↦ (let f : None ≡ Some tree =
          sym (ap (λ s. after_read s (ks ++ more) (λ n. read_to_end other n (ks ++ more))) g) ∙ w in absurd (cc))
    ]
through_step most other k ks more x (Stops z) y tree rest is e w = absurd (cc)
through_step most other k ks more x Deep y tree rest is e w = absurd (cc)

through : (most other : Limits) (ks more : List Kind) (x y : Reading) (tree : Tree)
    → reads_all most x ks ≡ Moves y → read_to_end other x (ks ++ more) ≡ Some tree
    → read_to_end other y more ≡ Some tree
through most other [] more x y tree e w =
    let f : x ≡ y = cc in subst (λ z. read_to_end other z more ≡ Some tree) f w
through most other (k ∷ ks) more x y tree e w =
    through_step most other k ks more x (reads most x k) y tree
    (λ z g v. through most other ks more z y tree g v) refl e w

-- an expression that begins with the tokens that were read and one more
goes_on : (most other : Limits) (opened used : ℕ) (ks : List Kind) (x : Reading) (k : Kind)
    (b : ExpressionBegins other opened used (ks ++ k ∷ [])) → reads_all most (first opened used) ks ≡ Moves x
    → read_to_end other x (k ∷ (b.more ++ kind.Semi ∷ [])) ≡ Some b.tree
goes_on most other opened used ks x k b e =
    through most other ks (k ∷ (b.more ++ kind.Semi ∷ [])) (first opened used) x b.tree e
    (subst (λ ts. read_to_end other (first opened used) ts ≡ Some b.tree) (simp append_assoc refl)
    (read_whole other opened used ((ks ++ k ∷ []) ++ b.more) b.tree b.whole))

something : (more : List Kind) (y : Reading) (next : Reading → Option Tree) (tree : Tree)
    → after_read (Stops y) (more ++ kind.Semi ∷ []) next ≡ Some tree → ⊥
something [] y next tree e = absurd (let f : None ≡ Some tree = e in cc)
something (k ∷ more) y next tree e = absurd (let f : None ≡ Some tree = e in cc)

-- the tokens begin no expression together with a token with which it doesn't continue
pub stops_all : (most other : Limits) (opened used : ℕ) (ks : List Kind) (x y : Reading) (k : Kind)
    → reads_all most (first opened used) ks ≡ Moves x → reads most x k ≡ Stops y
    → ExpressionBegins other opened used (ks ++ k ∷ []) → ⊥
stops_all most other opened used ks x y k e stop b =
    something b.more y (λ n. read_to_end other n (b.more ++ kind.Semi ∷ [])) b.tree
    (sym (ap (λ s. after_read s (b.more ++ kind.Semi ∷ [])
    (λ n. read_to_end other n (b.more ++ kind.Semi ∷ []))) (stop_shape (reads_shape x k) most other y stop))
    ∙ goes_on most other opened used ks x k b e)

-- the tokens begin no expression within the limits together with a token that exceeds them
pub deep_none : (most : Limits) (opened used : ℕ) (ks : List Kind) (x : Reading) (k : Kind)
    → reads_all most (first opened used) ks ≡ Moves x → reads most x k ≡ Deep
    → ExpressionBegins most opened used (ks ++ k ∷ []) → ⊥
deep_none most opened used ks x k e deep b =
    let f : None ≡ Some b.tree =
    sym (ap (λ s. after_read s (b.more ++ kind.Semi ∷ []) (λ n. read_to_end most n (b.more ++ kind.Semi ∷ []))) deep)
    ∙ goes_on most most opened used ks x k b e in
    absurd (cc)

-- a reading that doesn't end here hasn't read an expression
pub unfinished : (most : Limits) (opened used : ℕ) (ks : List Kind) (x : Reading) (tree : Tree)
    → reads_all most (first opened used) ks ≡ Moves x → ended most x ≡ None
    → IsExpression most opened used ks tree → ⊥
unfinished most opened used ks x tree e none is =
    let f = through most most ks (kind.Semi ∷ []) (first opened used) x tree e
    (read_whole most opened used ks tree is) in
    last (reads most x kind.Semi) none f
  where
    last : (s : TokenStep) → left_whole s ≡ None
        → after_read s [] (λ y. read_to_end most y []) ≡ Some tree → ⊥
    last (Moves y) n f = absurd (cc)
    last (Stops y) n f = absurd (cc)
    last Deep n f = absurd (cc)

-- a reading has the same result at each token with which it doesn't continue
having_alike : (most : Limits) (stack : List Waiting) (depth used : ℕ) (tree : Tree) (k : Kind) (o : Option Op)
    (y : Reading) → having most stack depth used tree k o ≡ Stops y
    → having most stack depth used tree kind.Semi None ≡ Stops y
having_alike most stack depth used tree k (Some op) y e =
    absurd (pending_stops most op used (tree_joined _ stack tree depth) y e)
having_alike most stack depth used tree k None y e = by (tree_joined 0 stack tree depth) e
  where
    by : (joint : Joint) → closing used k joint ≡ Stops y → closing used kind.Semi joint ≡ Stops y
    by (Joins s t d) f = ap Stops (sym (stops_with used k s t d y f))

naming_alike : (most : Limits) (stack : List Waiting) (depth used : ℕ) (name : List ℕ) (k : Kind)
    (y : Reading) → naming most stack depth used name k ≡ Stops y
    → naming most stack depth used name kind.Semi ≡ Stops y
naming_alike most stack depth used name kind.LBracket y e = absurd (room_stops _ _ y e)
naming_alike most stack depth used name k y e =
    having_alike most stack depth used (Variable name) k (operator_of k) y e

wanting_alike : (most : Limits) (stack : List Waiting) (depth used : ℕ) (k : Kind) (y : Reading)
    → wanting most stack depth used k ≡ Stops y → wanting most stack depth used kind.Semi ≡ Stops y
wanting_alike most stack depth used (kind.Num (pos n)) y e = absurd (cc)
wanting_alike most stack depth used (kind.Word name) y e = absurd (cc)
wanting_alike most stack depth used kind.LParen y e = absurd (room_stops _ _ y e)
wanting_alike most stack depth used kind.Minus y e = absurd (room_stops _ _ y e)
wanting_alike most stack depth used _ y e = e

pub alike : (most : Limits) (x y : Reading) (k : Kind) → reads most x k ≡ Stops y
    → reads most x kind.Semi ≡ Stops y
alike most (At stack depth used Wanted) y k e = wanting_alike most stack depth used k y e
alike most (At stack depth used (Named name)) y k e = naming_alike most stack depth used name k y e
alike most (At stack depth used (Given tree)) y k e = having_alike most stack depth used tree k (operator_of k) y e

-- what was read is read within wider limits too
wide_shape : {f : Limits → TokenStep} → StepShape f → (most wide : Limits) (y : Reading)
    → most.brackets ≤ wide.brackets → most.operators ≤ wide.operators → f most ≡ Moves y → f wide ≡ Moves y
wide_shape (Steady s h is) most wide y p q e = let a = is most in let b = is wide in cc
wide_shape {f = f} (Roomy brackets count z moves deep) most wide y p q e =
    elim (deep most) [
      | inl m ↦ absurd (cc)
      | inr r ↦ (let r0 = r.0 in let r1 = r.1 in
          let a : f wide ≡ Moves z = moves wide (omega arith) (omega arith) in
          let b : f most ≡ Moves z = moves most r.0 r.1 in cc)
    ]

wide_step : (most wide : Limits) (k : Kind) (ks : List Kind) (x : Reading) (s : TokenStep) (y : Reading)
    → most.brackets ≤ wide.brackets → most.operators ≤ wide.operators
    → ((z : Reading) → reads_all most z ks ≡ Moves y → reads_all wide z ks ≡ Moves y) → reads most x k ≡ s
    → then_read s (λ z. reads_all most z ks) ≡ Moves y → reads_all wide x (k ∷ ks) ≡ Moves y
wide_step most wide k ks x (Moves z) y p q rest is e =
    ap (λ s. then_read s (λ n. reads_all wide n ks)) (wide_shape (reads_shape x k) most wide z p q is) ∙ rest z e
wide_step most wide k ks x (Stops z) y p q rest is e = absurd (cc)
wide_step most wide k ks x Deep y p q rest is e = absurd (cc)

wide_all : (most wide : Limits) (ks : List Kind) (x y : Reading) → most.brackets ≤ wide.brackets
    → most.operators ≤ wide.operators → reads_all most x ks ≡ Moves y → reads_all wide x ks ≡ Moves y
wide_all most wide [] x y p q e = e
wide_all most wide (k ∷ ks) x y p q e =
    wide_step most wide k ks x (reads most x k) y p q (λ z g. wide_all most wide ks z y p q g) refl e

-- one more token
more_step : (most : Limits) (k : Kind) (ks : List Kind) (s : TokenStep) (y z : Reading)
    → ((n : Reading) → reads_all most n ks ≡ Moves y → reads_all most n (ks ++ k ∷ []) ≡ Moves z)
    → then_read s (λ n. reads_all most n ks) ≡ Moves y → then_read s (λ n. reads_all most n (ks ++ k ∷ [])) ≡ Moves z
more_step most k ks (Moves n) y z rest e = rest n e
more_step most k ks (Stops n) y z rest e = absurd (cc)
more_step most k ks Deep y z rest e = absurd (cc)

pub one_more : (most : Limits) (ks : List Kind) (k : Kind) (x y z : Reading)
    → reads_all most x ks ≡ Moves y → reads most y k ≡ Moves z → reads_all most x (ks ++ k ∷ []) ≡ Moves z
one_more most [] k x y z e g =
    let f : x ≡ y = cc in
    ap (λ s. then_read s (λ n. Moves n)) (subst (λ n. reads most n k ≡ Moves z) (sym f) g)
one_more most (k1 ∷ ks) k x y z e g =
    more_step most k ks (reads most x k1) y z (λ n h. one_more most ks k n y z h g) e

-- together with a token that exceeds the limits, the tokens begin an expression within wider limits
pub record WiderExpression (opened used : ℕ) (ks : List Kind) : Type 0 where
  pub wide : Limits
  pub begins : ExpressionBegins wide opened used ks

wider_shape : (most : Limits) (opened used : ℕ) (ks : List Kind) (x : Reading) (k : Kind)
    → StepShape (λ limits. reads limits x k) → used ≤ most.operators
    → reads_all most (first opened used) ks ≡ Moves x → reads most x k ≡ Deep
    → WiderExpression opened used (ks ++ k ∷ [])
wider_shape most opened used ks x k (Steady s h is) few e deep = absurd (h (let a = is most in cc))
wider_shape most opened used ks x k (Roomy brackets count z moves room) few e deep =
    let wide : Limits = record {
      brackets = most.brackets + brackets;
      braces = most.braces;
      operators = most.operators + count;
    } in
    let f : reads_all wide (first opened used) ks ≡ Moves x =
    wide_all most wide ks (first opened used) x (omega arith) (omega arith) e in
    let g : reads wide x k ≡ Moves z = moves wide (omega arith) (omega arith) in
    record {
      wide = wide;
      begins = begins wide opened used (ks ++ k ∷ []) z (omega arith)
          (one_more wide ks k (first opened used) x z f g);
    }

pub wider : (most : Limits) (opened used : ℕ) (ks : List Kind) (x : Reading) (k : Kind)
    → used ≤ most.operators → reads_all most (first opened used) ks ≡ Moves x → reads most x k ≡ Deep
    → WiderExpression opened used (ks ++ k ∷ [])
wider most opened used ks x k = wider_shape most opened used ks x k (reads_shape x k)
