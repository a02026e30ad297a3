-- The words of `bus` ask exactly for the work that they say.
use Rattle.std.proofs.Common.{◌≡◌, ◌∙◌, inl, inr, ⊎_elim, refl, sym, ap, subst, ℕ, Bool, true, false, cond, ◌==◌, List, [], ◌∷◌, ◌++◌, append-nil, map, length, nat_lt, Option, Some, None, arith}
use Rattle.std.specs.Prelude.{codes, option_and_then}
use Rattle.std.specs.Option.{option_map, option_map_or}
use Rattle.std.specs.Str.{bytes_eq}
use Rattle.std.proofs.lemmas.Bool.{le-ltb, ne_eqb}
use Rattle.clap.specs.Facts.{explicit_source}
use Rattle.clap.specs.Kinds.{Kinds, range_kinds}
use Rattle.clap.specs.Takes.{is_given}
use Rattle.clap.specs.Walk.{Row, Rule, Text, all_of, first_of, nothing_held, rows_after}
use Rattle.clap.specs.Simple.{Shape, built, matches_of}
use Rattle.clap.specs.Faults.{built_fault, fault_of}
use Rattle.command_words.specs.Prelude.{bus_app, bus_asks, bus_named, bus_named_on, bus_of, AFlag, AName, AnOption, AreOnce, AreTexts, IsAmong, IsLine, Part, Says, StandTogether, names_in, run_options, value_in, asked_by, none_wrong, number_given, seed_given, Pair, in_pairs, pairs_of, Works, asked_for, asked_work, verb_named, AskExactly, AsksForBus}
use Rattle.command_words.proofs.BusRead.{runs}
use Rattle.command_words.proofs.BusTaken.{IsOfNames, Uses, rows-used, takes-uses, uses-of}
use Rattle.command_words.proofs.BusTogether.{new-once, new-together, none-found, runs-set, runs-split, runs-value, split, split-found, split-new, split-sized, split_uses, use_names}
use Rattle.command_words.proofs.BusUsed.{AllSized, AreNew, ids_of, new-right, none-stands, row_of, rows_of}
use Rattle.command_words.proofs.WordCommands.{AreRules, long-found, short-found}
use Rattle.command_words.proofs.WordLooks.{lacks-test}
use Rattle.command_words.proofs.WordWalks.{option_rule}
use Rattle.command_words.proofs.WordsAsked.{asked-parts, two-given}
use Rattle.command_words.proofs.WordsFound.{PartsOf, parts-of, row_of_id}
use Rattle.command_words.proofs.WordsRead.{Known, built_help}
use Rattle.command_words.proofs.WordsTaken.{only}

-- ---- the command

abbrev places : Text
places = codes "NAMES"

abbrev shape : Shape
shape = (built bus_app).top

-- the rules of the options, and of help
abbrev option_rules : List Rule
option_rules = option_rule (codes "cycles") ∷ option_rule (codes "seed") ∷ built_help ∷ []

option-rules : AreRules run_options [] option_rules
option-rules = (
  inr (inl (codes "cycles", inl refl, refl)),
  (inr (inl (codes "seed", inr (inl refl), refl)), (inr (inr (inr refl)), tt)),
)

bus-command : IsOfNames shape places run_options
unfolding bus_app
bus-command = record {
  index = refl;
  by_id = refl;
  table = record {
    an_option = λ name among. ⊎_elim
        (λ (is : name ≡ codes "cycles"). subst (λ (t : Text). Known shape t) (sym is)
        (record { long = refl; id = refl; lacks = lacks-test (codes "cycles") refl; some = (_, _, refl) }))
        (⊎_elim
        (λ (is : name ≡ codes "seed"). subst (λ (t : Text). Known shape t) (sym is)
        (record { long = refl; id = refl; lacks = lacks-test (codes "seed") refl; some = (_, _, refl) }))
        (λ (none : IsAmong [] name). absurd none)) among;
    a_flag = λ name among. absurd among;
    other = λ name. long-found run_options [] option_rules option-rules name;
    short = λ c. short-found run_options [] option_rules option-rules c;
  };
  other = λ x among. ⊎_elim
      (λ (is : x ≡ codes "cycles"). ap (λ (t : Text). bytes_eq t places) is)
      (⊎_elim (λ (is : x ≡ codes "seed"). ap (λ (t : Text). bytes_eq t places) is)
      (λ (none : IsAmong [] x). absurd none)) among;
  plain = refl;
  defaults = (refl, (refl, (refl, (refl, tt))));
  checks = λ rows. refl;
}

bus-faults : (words : List Text) → fault_of bus_app (codes "bus" ∷ words) ≡ built_fault (only shape) nothing_held words
unfolding bus_app
bus-faults words = refl

bus-rows : (words : List Text) → matches_of bus_app (codes "bus" ∷ words) ≡ rows_after shape.rules [] words
unfolding bus_app
bus-rows words = refl

other : (x : Text) → IsAmong run_options x → bytes_eq x places ≡ false
other = bus-command.other

-- ---- names and pairs

names-append : (before after : List Part) → names_in (before ++ after) ≡ names_in before ++ names_in after
names-append [] after = refl
names-append (AName name ∷ before) after = ap (λ (l : List Text). name ∷ l) (names-append before after)
names-append (AnOption name value ∷ before) after = names-append before after
names-append (AFlag flag ∷ before) after = names-append before after

names-all : (names : List Text) → names_in (map AName names) ≡ names
names-all [] = refl
names-all (name ∷ names) = ap (λ (l : List Text). name ∷ l) (names-all names)

names-together : (names : List Text) (parts : List Part) → StandTogether names parts → names_in parts ≡ names
names-together names parts st =
    ap names_in st.are ∙ names-append st.before (map AName names ++ st.after)
    ∙ (λ i. st.none_before i ++ names-append (map AName names) st.after i)
    ∙ (λ i. names-all names i ++ st.none_after i) ∙ append-nil names

no-pairs : {X : Type 0} (a b : Text) (found : Option (List Pair))
    → option_map (λ pairs. record { object = a; input = b } ∷ pairs) found ≡ Some [] → X
no-pairs a b None e = absurd (let f : ◌≡◌ {A = Option (List Pair)} None (Some []) = e in cc)
no-pairs a b (Some pairs) e =
    absurd (let f : ◌≡◌ {A = Option (List Pair)} (Some (record { object = a; input = b } ∷ pairs)) (Some []) = e in cc)

-- names that are there make some pairs
some-pairs : (name : Text) (more : List Text) (pairs : List Pair) → pairs_of (name ∷ more) ≡ Some pairs
    → (first : Pair) × (rest : List Pair) × (pairs ≡ first ∷ rest)
some-pairs name more (first ∷ rest) e = (first, rest, refl)
some-pairs name more [] e = by (nat_lt 16 (length (name ∷ more))) more e
  where
    by : (b : Bool) (more : List Text) → cond b None (in_pairs (name ∷ more)) ≡ Some []
        → (first : Pair) × (rest : List Pair) × ([] ≡ first ∷ rest)
    by true more e = absurd (let f : ◌≡◌ {A = Option (List Pair)} None (Some []) = e in cc)
    by false [] e = absurd (let f : ◌≡◌ {A = Option (List Pair)} None (Some []) = e in cc)
    by false (input ∷ more) e = no-pairs name input (in_pairs more) e

-- names that make a pair are two at least, and sixteen at most
pub record Many (names : List Text) : Type 0 where
  pub name : Text
  pub more : List Text
  pub are : names ≡ name ∷ more
  pub size : range_kinds 2 16 (length (name ∷ more)) ≡ []

many : (names : List Text) (first : Pair) (rest : List Pair) → pairs_of names ≡ Some (first ∷ rest) → Many names
many [] first rest e = absurd (let f : ◌≡◌ {A = Option (List Pair)} (Some []) (Some (first ∷ rest)) = e in cc)
many (a ∷ []) first rest e = absurd (let f : ◌≡◌ {A = Option (List Pair)} None (Some (first ∷ rest)) = e in cc)
many (a ∷ b ∷ more) first rest e = record { name = a; more = b ∷ more; are = refl; size = sized }
  where
    within : (x : Bool) → cond x None (in_pairs (a ∷ b ∷ more)) ≡ Some (first ∷ rest) → x ≡ false
    within true e = absurd (let f : ◌≡◌ {A = Option (List Pair)} None (Some (first ∷ rest)) = e in cc)
    within false e = refl

    few : nat_lt 16 (length (a ∷ b ∷ more)) ≡ false
    few = within (nat_lt 16 (length (a ∷ b ∷ more))) e

    enough : nat_lt (length (a ∷ b ∷ more)) 2 ≡ false
    enough = le-ltb (length (a ∷ b ∷ more)) 2 (omega arith)

    some : (length (a ∷ b ∷ more) == 0) ≡ false
    some = ne_eqb (length (a ∷ b ∷ more)) 0 (λ is. omega (arith, is))

    sized : range_kinds 2 16 (length (a ∷ b ∷ more)) ≡ []
    sized = rw (some, enough, few) refl

-- ---- what is asked

then-given : {A C : Type 0} (f : A → Option C) (c : C) (a : Option A) → option_and_then f a ≡ Some c
    → (x : A) × (a ≡ Some x) × (f x ≡ Some c)
then-given {C = C} f c None e = absurd (let g : ◌≡◌ {A = Option C} None (Some c) = e in cc)
then-given f c (Some x) e = (x, refl, e)

module _ {W : Type 0} (works : Works W) where
  -- the rows of parts whose names are adjacent
  module _ (words : List Text) (parts : List Part) (name : Text) (more : List Text)
      (st : StandTogether (name ∷ more) parts) (line : IsLine run_options [] words parts) where
    abbrev rows : List Row
    rows = rows_of (runs places parts)

    of-split : PartsOf run_options [] (split places run_options other st.before name more st.after)
    of-split = subst (λ (ps : List Part). PartsOf run_options [] ps) st.are (parts-of run_options [] words parts line)

    are-split : runs places parts ≡ split_uses places run_options other st.before name more st.after
    are-split =
        ap (runs places) st.are
        ∙ runs-split places run_options other st.before name more st.after st.none_before st.none_after of-split

    row-found : row_of_id places rows ≡ Some (row_of (use_names places run_options other (name ∷ more)))
    row-found =
        (λ i. row_of_id places (rows_of (are-split i)))
        ∙ split-found places run_options other st.before name more st.after st.none_before of-split

    names-given : is_given places rows ≡ true
    names-given = ap (λ (o : Option Row). option_map_or (λ r. explicit_source r.source) o false) row-found

    rows-ask : bus_asks works.bus rows
        ≡ option_and_then (λ pairs. bus_named_on works.bus pairs (value_in (codes "cycles") parts)
        (value_in (codes "seed") parts))
        (pairs_of (name ∷ more))
    rows-ask =
        let all : all_of places rows ≡ Some (name ∷ more) = ap (λ (o : Option Row). option_map (λ r. r.values) o) row-found
        in
        let cycles : first_of (codes "cycles") rows ≡ value_in (codes "cycles") parts =
        runs-value places run_options other (codes "cycles") refl parts in
        let seed : first_of (codes "seed") rows ≡ value_in (codes "seed") parts =
        runs-value places run_options other (codes "seed") refl parts in
        λ i. bus_named works.bus (all i) (cycles i) (seed i)

    uses-new : AreOnce [] parts → AreNew [] (ids_of (runs places parts))
    uses-new once =
        subst (λ us. AreNew [] (ids_of us)) (sym are-split)
        (split-new places run_options other st.before name more st.after [] (λ among. among) st.none_before st.none_after
        of-split (subst (λ (ps : List Part). AreOnce [] ps) st.are once))

    uses-sized : range_kinds 2 16 (length (name ∷ more)) ≡ [] → AllSized (runs places parts)
    uses-sized size =
        subst (λ us. AllSized us) (sym are-split)
        (split-sized places run_options other st.before name more st.after size st.none_before st.none_after)

  -- ---- from the words to the work

  -- without names nothing is asked
  nothing-asked : {X : Type 0} (parts : List Part) (work : W) → names_in parts ≡ [] → PartsOf run_options [] parts
      → bus_asks works.bus (rows_of (runs places parts)) ≡ Some work → X
  nothing-asked parts work none of asked =
      let gone : all_of places (rows_of (runs places parts)) ≡ None =
      ap (λ (o : Option Row). option_map (λ r. r.values) o) (none-found places run_options other parts none of) in
      absurd (let f : ◌≡◌ {A = Option W} None (Some work) =
      sym (ap (λ (o : Option (List Text)).
      bus_named works.bus o (first_of (codes "cycles") (rows_of (runs places parts)))
      (first_of (codes "seed") (rows_of (runs places parts)))) gone) ∙ asked in cc)

  asks-of : (words : List Text) (parts : List Part) (work : W) → IsLine run_options [] words parts
      → AreOnce [] parts → (names : List Text) → StandTogether names parts
      → bus_asks works.bus (rows_of (runs places parts)) ≡ Some work → AsksForBus works words work
  asks-of words parts work line once [] st asked =
      nothing-asked parts work (names-together [] parts st) (parts-of run_options [] words parts line) asked
  asks-of words parts work line once (name ∷ more) st asked =
      let paired =
      then-given
      (λ pairs. bus_named_on works.bus pairs (value_in (codes "cycles") parts) (value_in (codes "seed") parts)) work
      (pairs_of (name ∷ more)) (sym (rows-ask words parts name more st line) ∙ asked) in
      let some = some-pairs name more paired.0 paired.1 in
      let given =
      two-given (λ n (s : ℕ). works.bus paired.0 n) work (number_given (value_in (codes "cycles") parts))
      (seed_given (value_in (codes "seed") parts)) paired.2 in
      record {
        names = name ∷ more;
        parts = parts;
        first = some.0;
        more = some.1;
        cycles = given.0;
        seed = given.1;
        says = record { line = line; once = once; are = names-together (name ∷ more) parts st };
        together = st;
        pairs_are = paired.1 ∙ ap Some some.2;
        cycles_given = given.2;
        seed_is = given.3;
        is = given.4 ∙ ap (λ pairs. works.bus pairs given.0) some.2;
      }

  bus-asks : (words : List Text) (work : W) → AreTexts words → bus_of works.bus (codes "bus" ∷ words) ≡ Some work
      → AsksForBus works words work
  unfolding bus_of asked_by
  bus-asks words work texts asked =
      let both =
      asked-parts (fault_of bus_app (codes "bus" ∷ words))
      (bus_asks works.bus (matches_of bus_app (codes "bus" ∷ words))) work
      asked in
      let found = uses-of shape places run_options bus-command words texts (sym (bus-faults words) ∙ both.0) in
      let of = parts-of run_options [] words found.0 found.1.line in
      let st = new-together places run_options other found.0 [] of found.1.new in
      asks-of words found.0 work found.1.line
      (new-once places run_options other found.0 [] [] (λ x among. among) of found.1.new) st.0 st.1
      (sym (ap (bus_asks works.bus)
      (bus-rows words ∙ rows-used shape places run_options bus-command words found.0 found.1))
      ∙ both.1)

  -- ---- from the work to the words

  -- what words ask for that say these pairs
  said-bus : (words names : List Text) (parts : List Part) (first : Pair) (pairs : List Pair)
      → Says run_options [] words names parts → StandTogether names parts → pairs_of names ≡ Some (first ∷ pairs)
      → bus_of works.bus (codes "bus" ∷ words)
      ≡ bus_named_on works.bus (first ∷ pairs) (value_in (codes "cycles") parts) (value_in (codes "seed") parts)
  unfolding bus_of asked_by
  said-bus words all parts first pairs says together pairs-are =
      let names = many all first pairs pairs-are in
      let line = says.line in
      let st : StandTogether (names.name ∷ names.more) parts =
      subst (λ (l : List Text). StandTogether l parts) names.are together in
      let new = uses-new words parts names.name names.more st line says.once in
      let so : Uses shape places run_options bus-command words parts = record { line = line; new = new } in
      let right =
      new-right shape bus-command.plain (runs places parts) [] []
      (runs-set places run_options other shape bus-command.plain parts)
      (uses-sized words parts names.name names.more st line names.size) none-stands new in
      let none : fault_of bus_app (codes "bus" ∷ words) ≡ [] =
      bus-faults words
      ∙ takes-uses shape places run_options bus-command words parts so right
      (names-given words parts names.name names.more st line) in
      let paired : pairs_of (names.name ∷ names.more) ≡ Some (first ∷ pairs) =
      subst (λ (l : List Text). pairs_of l ≡ Some (first ∷ pairs)) names.are pairs-are in
      ap (λ (kinds : Kinds). cond (none_wrong kinds)
      (bus_asks works.bus (matches_of bus_app (codes "bus" ∷ words))) None) none
      ∙ ap (bus_asks works.bus) (bus-rows words ∙ rows-used shape places run_options bus-command words parts so)
      ∙ rows-ask words parts names.name names.more st line
      ∙ ap (λ (o : Option (List Pair)). option_and_then (λ ps.
      bus_named_on works.bus ps (value_in (codes "cycles") parts) (value_in (codes "seed") parts)) o) paired

  asks-bus : (words : List Text) (work : W) → AsksForBus works words work
      → bus_of works.bus (codes "bus" ∷ words) ≡ Some work
  asks-bus words work asks =
      said-bus words asks.names asks.parts asks.first asks.more asks.says asks.together asks.pairs_are
      ∙ (λ i. option_and_then (λ n. option_map (λ s. works.bus (asks.first ∷ asks.more) n) (asks.seed_is i))
      (asks.cycles_given i)) ∙ ap Some (sym asks.is)

  -- what the options of words give that say these pairs and ask for work
  pub bus-given : (words names : List Text) (parts : List Part) (first : Pair) (pairs : List Pair) (work : W)
      → Says run_options [] words names parts → StandTogether names parts → pairs_of names ≡ Some (first ∷ pairs)
      → asked_work works (codes "bus" ∷ words) ≡ Some work
      → (cycles : ℕ) × (seed : ℕ) × (number_given (value_in (codes "cycles") parts) ≡ Some cycles)
      × (seed_given (value_in (codes "seed") parts) ≡ Some seed) × (work ≡ works.bus (first ∷ pairs) cycles)
  unfolding verb_named asked_for bus_app bus_of
  bus-given words names parts first pairs work says together pairs-are asked =
      two-given (λ n (s : ℕ). works.bus (first ∷ pairs) n) work (number_given (value_in (codes "cycles") parts))
      (seed_given (value_in (codes "seed") parts))
      (sym (said-bus words names parts first pairs says together pairs-are) ∙ asked)

  pub bus-words : AskExactly works (codes "bus") (AsksForBus works)
  unfolding verb_named asked_for bus_app bus_of
  bus-words words work texts = (bus-asks words work texts, asks-bus words work)
