-- Each reading to which tokens lead has read these tokens, and they can be completed to an expression.
use Rattle.std.proofs.Common.{◌≡◌, ℕ, ◌+◌, ◌≤◌, pos, negsuc, Bool, true, false, List, [], ◌∷◌, ◌++◌, Option, Some, None, refl, sym, subst, append_assoc, arith}
use Rattle.std.specs.Prelude.{◌&&◌, nat_lt}
use Rattle.std.proofs.lemmas.Bool.{and_parts, ltb-true}
use Rattle.gr_word.specs.declared.operations.Op.{Op}
use Rattle.src_lexer.specs.declared.tokens.Kind.{Kind}
use Rattle.src_tree.specs.Prelude.{Tree, Number, Variable, Element}
use Rattle.src_parser.specs.Prelude.{Limits, operator_of, level_of, operators, SpellsTree, Numeral, Named, Indexed, Bracketed, Waiting, Open, Index, Pending, Wanted, Given, Reading, At, Moves, Stops, Joint, Joins, tree_joined, where_room, wanting, pending, closing, having, naming, reads, whole, used_of}
use Rattle.src_parser.proofs.Levels.{level_low, lower}
use Rattle.src_parser.proofs.Held.{HasNoName, Held, Start, Opened, Chosen, Signed, Waits, weight, closes, takes, Taken}
use Rattle.src_lexer.specs.declared.tokens.Kind.TheVariants as kind
use Rattle.src_parser.specs.Operands as m

-- these tokens lead to this reading, from `base` open brackets and `start` operators and signs on
pub data Reached (most : Limits) (base start : ℕ) : Reading → List Kind → Type 0 where
  Wants : {stack : List Waiting} {depth level used : ℕ} {tokens : List Kind}
      → Held most.brackets base stack depth level tokens → used ≡ start + weight stack → used ≤ most.operators
      → Reached most base start (At stack depth used Wanted) tokens
  Names : {stack : List Waiting} {depth level used : ℕ} {tokens : List Kind} (name : List ℕ)
      → Held most.brackets base stack depth level tokens → used ≡ start + weight stack → used ≤ most.operators
      → Reached most base start (At stack depth used (m.Named name)) (tokens ++ kind.Word name ∷ [])
  Has : {stack : List Waiting} {depth level used : ℕ} {tokens us : List Kind} (tree : Tree)
      → Held most.brackets base stack depth level tokens → SpellsTree most.brackets depth 6 us tree → level ≤ 6
      → used ≡ start + (weight stack + operators tree) → used ≤ most.operators
      → Reached most base start (At stack depth used (Given tree)) (tokens ++ us)

-- no operand has to bind tighter than one without operators
held_level : {most base : ℕ} {stack : List Waiting} {depth level : ℕ} {tokens : List Kind}
    → Held most base stack depth level tokens → level ≤ 6
held_level Start = omega arith
held_level (Waits op sign below is first h) = let l = level_low op in omega arith
held_level _ = omega arith

moved : {most : Limits} {base start : ℕ} {tokens : List Kind} (x y : Reading)
    → Moves x ≡ Moves y → Reached most base start x tokens → Reached most base start y tokens
moved {most} {base} {start} {tokens} x y e r = subst (λ z. Reached most base start z tokens) (let f : x ≡ y = cc in f) r

reached_at : {most : Limits} {base start : ℕ} {x : Reading} (ts us : List Kind)
    → ts ≡ us → Reached most base start x ts → Reached most base start x us
reached_at {most} {base} {start} {x} ts us e r = subst (λ z. Reached most base start x z) e r

-- a reading for which there is room
with_room : {most : Limits} {base start : ℕ} {tokens : List Kind} (b : Bool) (x y : Reading)
    → where_room b x ≡ Moves y → (b ≡ true → Reached most base start x tokens) → Reached most base start y tokens
with_room true x y e r = moved x y e (r refl)
with_room false x y e r = absurd (cc)

wanting_reaches : {most : Limits} {base start : ℕ} {stack : List Waiting} {depth level : ℕ} {tokens : List Kind}
    (used : ℕ) → Held most.brackets base stack depth level tokens
    → used ≡ start + weight stack → used ≤ most.operators → (k : Kind) (y : Reading)
    → wanting most stack depth used k ≡ Moves y → Reached most base start y (tokens ++ k ∷ [])
wanting_reaches used h is fits (kind.Num (pos n)) y e =
    moved _ y e (Has (Number (pos n)) h (Numeral n) (held_level h) (omega arith) fits)
wanting_reaches used h is fits (kind.Num (negsuc n)) y e = absurd (cc)
wanting_reaches used h is fits (kind.Word name) y e = moved _ y e (Names name h is fits)
wanting_reaches {most} {base} {start} {stack} {depth} used h is fits kind.LParen y e =
    with_room (nat_lt depth most.brackets) _ y e (λ t. Wants (Opened (ltb-true depth most.brackets t) h) is fits)
wanting_reaches {most} {base} {start} {stack} {depth} used h is fits kind.Minus y e =
    with_room (nat_lt depth most.brackets && nat_lt used most.operators) _ y e
    (λ t. let p = and_parts (nat_lt depth most.brackets) _ t in let few = ltb-true used most.operators p.1 in
    Wants (Signed (ltb-true depth most.brackets p.0) h) (omega arith) (omega arith))
wanting_reaches used h is fits _ y e = absurd (cc)

pending_reaches : {most : Limits} {base start : ℕ} (used : ℕ) (op : Op) (k : Kind) (count : ℕ)
    (tokens : List Kind)
    (joint : Joint) → operator_of k ≡ Some op
    → used ≡ start + count → used ≤ most.operators → Taken most.brackets base (level_of op) count tokens joint
    → (y : Reading) → pending most op used joint ≡ Moves y → Reached most base start y (tokens ++ k ∷ [])
pending_reaches {most} {base} {start} used op k count tokens joint sign_is is fits t y e =
    let f : pending most op used (Joins t.stack t.tree t.depth) ≡ Moves y =
    subst (λ j. pending most op used j ≡ Moves y) t.is e in
    let counted = t.counted in
    with_room (nat_lt used most.operators) (At (Pending t.tree op ∷ t.stack) t.depth (used + 1) Wanted) y f
    (λ b. let few = ltb-true used most.operators b in
    reached_at (t.front ++ (t.back ++ k ∷ [])) (tokens ++ k ∷ []) (rw (t.same, append_assoc) refl)
    (Wants (Waits op k t.below sign_is t.spells t.held) (omega arith) (omega arith)))

closing_held : {most : Limits} {base start : ℕ} {stack : List Waiting} {depth level : ℕ} {front back : List Kind}
    (used : ℕ) (tree : Tree) (k : Kind) → Held most.brackets base stack depth level front
    → SpellsTree most.brackets depth 0 back tree → used ≡ start + (weight stack + operators tree) → used
    ≤ most.operators
    → (y : Reading) → closing used k (Joins stack tree depth) ≡ Moves y
    → Reached most base start y ((front ++ back) ++ k ∷ [])
closing_held {back = back} used tree kind.RParen (Opened {tokens = ts} fit h) s is fits y e =
    moved _ y e (reached_at (ts ++ (kind.LParen ∷ (back ++ kind.RParen ∷ []))) _ (simp append_assoc refl)
    (Has tree h (Bracketed fit s) (held_level h) is fits))
closing_held {back = back} used tree kind.RBracket (Chosen {tokens = ts} name fit h) s is fits y e =
    moved _ y e (reached_at (ts ++ (kind.Word name ∷ kind.LBracket ∷ (back ++ kind.RBracket ∷ []))) _
    (simp append_assoc refl) (Has (Element name tree) h (Indexed name fit s) (held_level h) is fits))
closing_held used tree _ _ s is fits y e = absurd (cc)

closing_reaches : {most : Limits} {base start : ℕ} (used : ℕ) (k : Kind) (count : ℕ) (tokens : List Kind)
    (joint : Joint) → used ≡ start + count → used ≤ most.operators → Taken most.brackets base 0 count tokens joint
    → (y : Reading) → closing used k joint ≡ Moves y → Reached most base start y (tokens ++ k ∷ [])
closing_reaches {most} {base} {start} used k count tokens joint is fits t y e =
    let f : closing used k (Joins t.stack t.tree t.depth) ≡ Moves y = subst (λ j. closing used k j ≡ Moves y) t.is e in
    let counted = t.counted in
    reached_at ((t.front ++ t.back) ++ k ∷ []) (tokens ++ k ∷ []) (rw t.same refl)
    (closing_held used t.tree k t.held t.spells (omega arith) fits y f)

having_reaches : {most : Limits} {base start : ℕ} {stack : List Waiting} {depth level : ℕ} {tokens us : List Kind}
    (used : ℕ) (tree : Tree)
    → Held most.brackets base stack depth level tokens → SpellsTree most.brackets depth 6 us tree → level ≤ 6
    → used ≡ start + (weight stack + operators tree) → used ≤ most.operators → (k : Kind) (o : Option Op)
    → operator_of k ≡ o → (y : Reading) → having most stack depth used tree k o ≡ Moves y
    → Reached most base start y ((tokens ++ us) ++ k ∷ [])
having_reaches {most} {base} {start} {stack} {depth} {level} {tokens} {us} used tree h s low is fits k
    (Some op) sign_is y e =
    pending_reaches used op k (weight stack + operators tree) (tokens
    ++ us) (tree_joined (level_of op) stack tree depth)
    sign_is is fits (takes h (level_of op) 6 us tree s low (let l = level_low op in omega arith)) y e
having_reaches {most} {base} {start} {stack} {depth} {level} {tokens}
    {us} used tree h s low is fits k None sign_is y e =
    closing_reaches used k (weight stack + operators tree) (tokens ++ us) (tree_joined 0 stack tree depth) is fits
    (takes h 0 6 us tree s low (omega arith)) y e

-- a token after a name: a bracket, or a token after the operand that the name is
naming_by : {most : Limits} {base start : ℕ} (tokens : List Kind) (stack : List Waiting) (depth used : ℕ)
    (name : List ℕ) (k : Kind) (y : Reading)
    → (where_room (nat_lt depth most.brackets) (At (Index depth name ∷ stack) (depth + 1) used Wanted) ≡ Moves y
    → Reached most base start y (tokens ++ kind.LBracket ∷ []))
    → (having most stack depth used (Variable name) k (operator_of k) ≡ Moves y
    → Reached most base start y (tokens ++ k ∷ []))
    → naming most stack depth used name k ≡ Moves y → Reached most base start y (tokens ++ k ∷ [])
naming_by tokens stack depth used name kind.LBracket y index other e = index e
naming_by tokens stack depth used name _ y index other e = other e

naming_reaches : {most : Limits} {base start : ℕ} {stack : List Waiting} {depth level : ℕ} {tokens : List Kind}
    (used : ℕ)
    (name : List ℕ) → Held most.brackets base stack depth level tokens → used ≡ start + weight stack
    → used ≤ most.operators → (k : Kind) → (y : Reading) → naming most stack depth used name k ≡ Moves y
    → Reached most base start y ((tokens ++ kind.Word name ∷ []) ++ k ∷ [])
naming_reaches {most} {base} {start} {stack} {depth} {level} {tokens} used name h is fits k y e =
    naming_by (tokens ++ kind.Word name ∷ []) stack depth used name k y
    (λ f. with_room (nat_lt depth most.brackets) _ y f
    (λ t. reached_at (tokens ++ kind.Word name ∷ kind.LBracket ∷ []) _
    (simp append_assoc refl) (Wants (Chosen name (ltb-true depth most.brackets t) h) is fits)))
    (having_reaches used (Variable name) h (Named name) (held_level h) (omega arith) fits k (operator_of k) refl y) e

-- a token that is read
pub reaches : {most : Limits} {base start : ℕ} {x : Reading} {tokens : List Kind}
    → Reached most base start x tokens →
    (k : Kind) (y : Reading) → reads most x k ≡ Moves y → Reached most base start y (tokens ++ k ∷ [])
reaches (Wants {used = used} h is fits) k y e = wanting_reaches used h is fits k y e
reaches (Names {used = used} name h is fits) k y e = naming_reaches used name h is fits k y e
reaches (Has {used = used} tree h s low is fits) k y e =
    having_reaches used tree h s low is fits k (operator_of k) refl y e

-- the tokens are completed to an expression within the limits, by tokens that aren't names
pub record Fitting (most : Limits) (base start : ℕ) (tokens : List Kind) : Type 0 where
  pub more : List Kind
  pub nameless : HasNoName more
  pub tree : Tree
  pub spells : SpellsTree most.brackets base 0 (tokens ++ more) tree
  pub fits : start + operators tree ≤ most.operators

-- what is reached is within the limits
pub fitting : {most : Limits} {base start : ℕ} {x : Reading} {tokens : List Kind}
    → Reached most base start x tokens → Fitting most base start tokens
fitting {most} {base} (Wants {tokens = ts} h is fits) =
    let g = closes h (kind.Num (pos 0) ∷ []) (Number (pos 0)) (Numeral 0) in
    let counted = g.counted in
    record {
      more = kind.Num (pos 0) ∷ g.more;
      nameless = g.nameless;
      tree = g.tree;
      spells =
          subst (λ z. SpellsTree most.brackets base 0 z g.tree) (append_assoc ts (kind.Num (pos 0) ∷ []) g.more)
          g.spells;
      fits = omega arith;
    }
fitting (Names {tokens = ts} name h is fits) =
    let g = closes h (kind.Word name ∷ []) (Variable name) (Named name) in
    let counted = g.counted in
    record { more = g.more; nameless = g.nameless; tree = g.tree; spells = g.spells; fits = omega arith }
fitting (Has {us = us} tree h s low is fits) =
    let g = closes h us tree (lower _ low s) in
    let counted = g.counted in
    record { more = g.more; nameless = g.nameless; tree = g.tree; spells = g.spells; fits = omega arith }

-- tokens that are a whole expression
pub record Ended (most : Limits) (base start : ℕ) (tokens : List Kind) (tree : Tree) (used : ℕ) : Type 0 where
  pub spells : SpellsTree most.brackets base 0 tokens tree
  pub counted : used ≡ start + operators tree
  pub fits : used ≤ most.operators

ended_held : {most : Limits} {base start : ℕ} {stack : List Waiting} {depth level : ℕ} {front back : List Kind}
    (used : ℕ)
    (tree e : Tree) → Held most.brackets base stack depth level front → SpellsTree most.brackets depth 0 back tree
    → used ≡ start + (weight stack + operators tree) → used ≤ most.operators
    → whole (At stack depth used (Given tree)) ≡ Some e → Ended most base start (front ++ back) e used
ended_held {most} {base} {start} {back = back} used tree e Start s is fits w =
    let f : tree ≡ e = cc in
    subst (λ z. Ended most base start back z used) f (record { spells = s; counted = omega arith; fits = fits })
ended_held used tree e _ s is fits w = absurd (cc)

-- a token after an operand that ends the expression
pub stops_with : (used : ℕ) (k : Kind) (stack : List Waiting) (tree : Tree) (depth : ℕ) (y : Reading)
    → closing used k (Joins stack tree depth) ≡ Stops y → y ≡ At stack depth used (Given tree)
stops_with used kind.RParen (Open d ∷ stack) tree depth y e = absurd (cc)
stops_with used kind.RBracket (Index d name ∷ stack) tree depth y e = absurd (cc)
stops_with used _ _ tree depth y e = cc

pub room_stops : (b : Bool) (x y : Reading) → where_room b x ≡ Stops y → ⊥
room_stops true x y e = cc
room_stops false x y e = cc

pub pending_stops : (most : Limits) (op : Op) (used : ℕ) (joint : Joint) (y : Reading)
    → pending most op used joint ≡ Stops y → ⊥
pending_stops most op used (Joins stack tree depth) y e = room_stops _ _ y e

having_ends : {most : Limits} {base start : ℕ} {stack : List Waiting} {depth level : ℕ} {tokens us : List Kind}
    (used : ℕ)
    (tree : Tree) → Held most.brackets base stack depth level tokens → SpellsTree most.brackets depth 6 us tree → level
    ≤ 6
    → used ≡ start + (weight stack + operators tree) → used ≤ most.operators → (k : Kind) (o : Option Op)
    → (y : Reading) (e : Tree) → having most stack depth used tree k o ≡ Stops y → whole y ≡ Some e
    → Ended most base start (tokens ++ us) e (used_of y)
having_ends {most} used tree h s low is fits k (Some op) y e stop w = absurd (pending_stops most op used _ y stop)
having_ends {most} {base} {start} {stack} {depth} {level} {tokens} {us} used tree h s low is fits k None y e stop w =
    let t = takes h 0 6 us tree s low (omega arith) in
    let f : closing used k (Joins t.stack t.tree t.depth) ≡ Stops y =
    subst (λ j. closing used k j ≡ Stops y) t.is stop in
    let g : y ≡ At t.stack t.depth used (Given t.tree) = stops_with used k t.stack t.tree t.depth y f in
    let v : whole (At t.stack t.depth used (Given t.tree)) ≡ Some e = subst (λ z. whole z ≡ Some e) g w in
    let counted = t.counted in
    let ended : Ended most base start (t.front ++ t.back) e used =
    ended_held used t.tree e t.held t.spells (omega arith) fits v in
    subst (λ z. Ended most base start (tokens ++ us) e (used_of z)) (sym g)
    (subst (λ z. Ended most base start z e used) (sym t.same) ended)

naming_ends : {most : Limits} {base start : ℕ} {stack : List Waiting} {depth level : ℕ} {tokens : List Kind}
    (used : ℕ)
    (name : List ℕ) → Held most.brackets base stack depth level tokens → used ≡ start + weight stack
    → used ≤ most.operators → (k : Kind) → (y : Reading) (e : Tree) → naming most stack depth used name k ≡ Stops y
    → whole y ≡ Some e → Ended most base start (tokens ++ kind.Word name ∷ []) e (used_of y)
naming_ends used name h is fits kind.LBracket y e stop w = absurd (room_stops _ _ y stop)
naming_ends used name h is fits k y e stop w =
    having_ends used (Variable name) h (Named name) (held_level h) (omega arith) fits k (operator_of k) y e stop w

not_whole : (stack : List Waiting) (depth used : ℕ) (y : Reading) (e : Tree)
    → Stops (At stack depth used Wanted) ≡ Stops y → whole y ≡ Some e → ⊥
not_whole [] depth used y e stop w =
    let f : At [] depth used Wanted ≡ y = cc in
    let g : whole (At [] depth used Wanted) ≡ Some e = subst (λ z. whole z ≡ Some e) (sym f) w in absurd (cc)
not_whole (frame ∷ stack) depth used y e stop w =
    let f : At (frame ∷ stack) depth used Wanted ≡ y = cc in
    let g : whole (At (frame ∷ stack) depth used Wanted) ≡ Some e = subst (λ z. whole z ≡ Some e) (sym f) w in
    absurd (cc)

wanting_ends : (most : Limits) (stack : List Waiting) (depth used : ℕ) (k : Kind) (y : Reading) (e : Tree)
    → wanting most stack depth used k ≡ Stops y → whole y ≡ Some e → ⊥
wanting_ends most stack depth used (kind.Num (pos n)) y e stop w = cc
wanting_ends most stack depth used (kind.Word name) y e stop w = cc
wanting_ends most stack depth used kind.LParen y e stop w = room_stops _ _ y stop
wanting_ends most stack depth used kind.Minus y e stop w = room_stops _ _ y stop
wanting_ends most stack depth used _ y e stop w = not_whole stack depth used y e stop w

-- a token after a whole expression finds that expression
pub ends : {most : Limits} {base start : ℕ} {x : Reading} {tokens : List Kind} → Reached most base start x tokens
    → (k : Kind) (y : Reading) (e : Tree) → reads most x k ≡ Stops y → whole y ≡ Some e
    → Ended most base start tokens e (used_of y)
ends {most} (Wants {stack = stack} {depth = depth} {used = used} h is fits) k y e stop w =
    absurd (wanting_ends most stack depth used k y e stop w)
ends (Names {used = used} name h is fits) k y e stop w = naming_ends used name h is fits k y e stop w
ends (Has {used = used} tree h s low is fits) k y e stop w =
    having_ends used tree h s low is fits k (operator_of k) y e stop w
