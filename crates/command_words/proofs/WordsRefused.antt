-- Words that are walked over without a fault say something.
use Rattle.std.proofs.Common.{◌≡◌, ◌≢◌, ◌⊎◌, inl, inr, ⊎_elim, ◌∙◌, refl, sym, ap, subst, ℕ, Bool, true, false, cond, min, ◌+◌, List, [], ◌∷◌, ◌++◌, length, Option, Some, None, true≢false}
use Rattle.std.specs.Prelude.{codes, slice_get}
use Rattle.std.specs.Option.{option_map_or}
use Rattle.std.specs.Str.{IsUtf8, bytes_eq, chars}
use Rattle.clap.proofs.OnLiterals.{clap_on_literals}
use Rattle.clap.proofs.LexerLemmas.{name_and_value-at, name_and_value-without}
use Rattle.clap.specs.Lexer.{long_of, name_and_value, usize_max}
use Rattle.clap.specs.Kinds.{Kinds, or_else}
use Rattle.clap.specs.Walk.{Held, Row, Rule, Text, Walk, idle, option, is_pending, settled, arg_by_long, arg_by_short, arg_by_index, word_met}
use Rattle.clap.specs.Simple.{Shape}
use Rattle.clap.specs.Faults.{bundle_fault, bundle_step_fault, flag_word_fault, flags_fault, long_fault, other_fault, react_fault, short_fault, step_fault, stray_fault, turn_fault, use_fault, walk_fault}
use Rattle.command_words.specs.Prelude.{AFlag, AName, AnOption, Apart, AreTexts, Behind, Ended, Flagged, IsAmong, IsLine, IsPlain, Joined, Named, Part}
use Rattle.command_words.proofs.WordLooks.{AtEquals, Cut, Dashes, Long, Looks, Plain, Short, ShortWord, Uncut, cut, first-flag, looks, short-word}
use Rattle.command_words.proofs.WordsRead.{Known, NamesFit, Places, Table, all_names, built_help, names_held, pending-wrong, same-text}
use Rattle.command_words.proofs.WordWalks.{Leads, PlainWord, apart, at, behind, both-none, dashed, flag_rule, flagged, given, hold, joined, last, led-wrong, name_rule, named, option_rule, plain-word, settles-first, settling, wrong}

-- ---- faults

abbrev pub IsFault : Kinds → Type 0
IsFault kinds = kinds ≡ [] → ⊥

abbrev is_none : Kinds → Bool
is_none [] = true
is_none (k ∷ ks) = false

pub a-fault : (kinds : Kinds) → is_none kinds ≡ false → IsFault kinds
a-fault kinds some none = true≢false (sym (ap is_none none) ∙ some)

fault-left : (a b : Kinds) → IsFault a → IsFault (or_else a b)
fault-left a b fault none = fault (both-none a b none).0

fault-right : (a b : Kinds) → IsFault b → IsFault (or_else a b)
fault-right a b fault none = fault (both-none a b none).1

fault-as : (a b : Kinds) → a ≡ b → IsFault b → IsFault a
fault-as a b same fault none = fault (sym same ∙ none)

module _ (s : Shape) where
  abbrev again : Bool
  again = s.args_override_self

  help-fault : (h : Held) → IsFault (react_fault s.rules again built_help [] h)
  help-fault h =
      fault-right (settling s h) (use_fault again built_help [] (settled s.rules h).rows) (a-fault _ refl)

  value-fault : (name : Text) (rows : List Row) → IsFault (use_fault again (option_rule name) [] rows)
  value-fault name rows = a-fault _ refl

  pub unknown-long : (value : Option Text) (h : Held) → IsFault (long_fault s.rules again None value h)
  unknown-long value h = a-fault _ refl

  pub help-long : (value : Option Text) (h : Held) → IsFault (long_fault s.rules again (Some built_help) value h)
  help-long (Some value) h = a-fault _ refl
  help-long None h = help-fault h

  pub flag-value : (name value : Text) (h : Held)
      → IsFault (long_fault s.rules again (Some (flag_rule name)) (Some value) h)
  flag-value name value h = a-fault _ refl

  stray : IsFault (stray_fault s)
  stray = by s.is_leaf refl
    where
      by : (b : Bool) → s.is_leaf ≡ b → IsFault (stray_fault s)
      by true e = a-fault _ (rw e refl)
      by false e = a-fault _ (rw e refl)

  short-fault : (found : Option Rule) (rest : Text) (h : Held) (next : Held → Kinds)
      → (found ≡ None) ⊎ (found ≡ Some built_help) → IsFault (short_fault s.rules again found rest h next)
  short-fault found rest h next is =
      ⊎_elim
      (λ (none : found ≡ None).
      subst (λ (o : Option Rule). IsFault (short_fault s.rules again o rest h next)) (sym none) (a-fault _ refl))
      (λ (help : found ≡ Some built_help).
      subst (λ (o : Option Rule). IsFault (short_fault s.rules again o rest h next)) (sym help)
      (fault-left (react_fault s.rules again built_help [] h) _ (help-fault h))) is

  -- ---- the turn of one word

  pub first-turn : (w : Walk) (word : Text) (words : List Text) → wrong s w (word ∷ words) ≡ []
      → turn_fault s [] w word ≡ []
  unfolding walk_fault
  first-turn w word words none =
      (both-none (turn_fault s [] w word) _
      (both-none (walk_fault s [] w (word ∷ words)) (settling s (last s w (word ∷ words)).held) none).0).0

  pub later : (w next : Walk) (word : Text) (words : List Text) (faults : Kinds) → Leads s w word faults next
      → wrong s w (word ∷ words) ≡ [] → wrong s next words ≡ []
  later w next word words faults leads none =
      (both-none faults (wrong s next words) (sym (led-wrong s w next word words faults leads) ∙ none)).1

  pub flag-idle : (h : Held) (p : ℕ) (word : Text) → bytes_eq word (45 ∷ 45 ∷ []) ≡ false
      → turn_fault s [] (at s h idle p false) word ≡ [] → flag_word_fault s.rules again (long_of word) word h ≡ []
  unfolding clap_on_literals
  flag-idle h p word dashes none =
      subst (λ (b : Bool). cond b [] (flag_word_fault s.rules again (long_of word) word h) ≡ []) dashes
      (both-none (other_fault s None word h) (step_fault s p (word_met s.rules [] false idle p word h).0
      (word_met s.rules [] false idle p word h).1) none).0

  pub flag-waits : (h : Held) (name : Text) (p : ℕ) (word : Text) → bytes_eq word (45 ∷ 45 ∷ []) ≡ false
      → turn_fault s [] (at s h (option name) p false) word ≡ []
      → flag_word_fault s.rules again (long_of word) word h ≡ []
  unfolding clap_on_literals
  flag-waits h name p word dashes none =
      subst (λ (b : Bool). cond b [] (flag_word_fault s.rules again (long_of word) word h) ≡ []) dashes
      (both-none (other_fault s None word h) (step_fault s p (word_met s.rules [] false (option name) p word h).0
      (word_met s.rules [] false (option name) p word h).1) none).0

  pub long-part : (word : Text) (h : Held) (name : Text) (value : Option Text) → long_of word ≡ Some (name, value)
      → flag_word_fault s.rules again (long_of word) word h ≡ []
      → long_fault s.rules again (arg_by_long s.rules name) value h ≡ []
  long-part word h name value long none =
      subst (λ (o : Option (Text × Option Text)). flag_word_fault s.rules again o word h ≡ []) long none

  stray-turn : (h : Held) (p : ℕ) (word : Text) → PlainWord word → arg_by_index s.rules p ≡ None
      → turn_fault s [] (at s h idle p false) word ≡ stray_fault s
  unfolding clap_on_literals
  stray-turn h p word plain is = rw (plain.dashes, plain.long, plain.short, is) refl

  stray-behind : (h : Held) (p : ℕ) (word : Text) → arg_by_index s.rules p ≡ None
      → turn_fault s [] (at s h idle p true) word ≡ stray_fault s
  unfolding clap_on_literals
  stray-behind h p word is = rw is refl

  stray-waits : (h : Held) (name : Text) (p : ℕ) (word : Text) → arg_by_index s.rules p ≡ None
      → turn_fault s [] (at s h (option name) p true) word ≡ stray_fault s
  unfolding clap_on_literals
  stray-waits h name p word is = rw is refl

  settles-waits : (h : Held) (name : Text) (p : ℕ) (word id : Text) → arg_by_index s.rules p ≡ Some (name_rule id p)
      → turn_fault s [] (at s h (option name) p true) word ≡ settling s h
  unfolding clap_on_literals
  settles-waits h name p word id is =
      rw is (settles-first s (is_pending (name_rule id p) h.pending) [] (settling s h))

  pub dashed-waits : (h : Held) (name : Text) (p : ℕ)
      → Leads s (at s h (option name) p false) (45 ∷ 45 ∷ []) [] (at s h (option name) p true)
  unfolding clap_on_literals
  dashed-waits h name p = record { turn = refl; goes = refl }

  short-part : (word : Text) (x : ℕ) (xs : Text) (rows : List Row) (pending : Option (Text × List Text))
      → ShortWord word x xs
      → flag_word_fault s.rules again (long_of word) word (hold s rows pending 0) ≡ []
      → bundle_fault s.rules again (x ∷ xs) (hold s rows pending 0) ≡ []
  short-part word x xs rows pending short none =
      subst (λ (o : Option Text). option_map_or (λ flags. bundle_fault s.rules again flags (hold s rows pending 0)) o []
      ≡ []) short.short
      (subst (λ (o : Option (Text × Option Text)).
      flag_word_fault s.rules again o word (hold s rows pending 0) ≡ []) short.long none)

  bundle-refused : (x : ℕ) (xs : Text) (rows : List Row) (pending : Option (Text × List Text)) (c : ℕ) (cs : List ℕ)
      → chars (x ∷ xs) ≡ c ∷ cs
      → ((found : Option Rule) → found ≡ arg_by_short s.rules c → (found ≡ None) ⊎ (found ≡ Some built_help))
      → IsFault (bundle_fault s.rules again (x ∷ xs) (hold s rows pending 0))
  unfolding flags_fault
  bundle-refused x xs rows pending c cs is known none =
      short-fault (arg_by_short s.rules c) _ (hold s rows pending 0) _ (known _ refl)
      (subst (λ (l : List ℕ). bundle_step_fault s.rules again (slice_get l 0) (x ∷ xs) 0 (hold s rows pending 0)
      (flags_fault s.rules again (length xs)) ≡ []) is none)

  module _ (options flags : List Text) (table : Table s options flags) where
    pub record Said (words ids : List Text) : Type 0 where
      pub parts : List Part
      pub line : IsLine options flags words parts
      pub fit : NamesFit parts ids

    pub record SaidLater (words ids : List Text) : Type 0 where
      pub value : Text
      pub rest : List Text
      pub is : words ≡ value ∷ rest
      pub plain : IsPlain value
      pub said : Said rest ids

    pub refused-short : {X : Type 0} (x : ℕ) (xs : Text) (rows : List Row) (pending : Option (Text × List Text))
        → IsUtf8 (45 ∷ x ∷ xs) → x ≢ 45
        → flag_word_fault s.rules again (long_of (45 ∷ x ∷ xs)) (45 ∷ x ∷ xs) (hold s rows pending 0) ≡ [] → X
    refused-short x xs rows pending text other none =
        let first = first-flag x xs text in
        absurd (bundle-refused x xs rows pending first.0 first.1 first.2
        (λ found is. ⊎_elim
        (λ (gone : arg_by_short s.rules first.0 ≡ None). inl (is ∙ gone))
        (λ (help : arg_by_short s.rules first.0 ≡ Some built_help). inr (is ∙ help)) (table.short first.0))
        (short-part (45 ∷ x ∷ xs) x xs rows pending (short-word x xs other) none))

    -- names after `--`
    fit-behind : (words : List Text) (h : Held) (p : ℕ) (ids : List Text) → Places s p ids
        → wrong s (at s h idle p true) words ≡ [] → NamesFit (all_names words) ids
    fit-behind [] h p ids places none = tt
    fit-behind (word ∷ words) h p [] places none =
        stray (sym (stray-behind h p word places) ∙ first-turn (at s h idle p true) word words none)
    fit-behind (word ∷ words) h p (id ∷ ids) places none =
        fit-behind words (names_held s h id word) (min (p + 1) usize_max) ids places.2
        (later _ _ word words _ (behind s h p word id places.0) none)

    pub waits-fault : (rows : List Row) (name : Text) → Known s name
        → IsFault (settling s (hold s rows (Some (name, [])) 0))
    waits-fault rows name known =
        fault-as _ _ (pending-wrong s rows name [] 0 (option_rule name) known.id) (value-fault name rows)

    waits-behind : {X : Type 0} (words : List Text) (rows : List Row) (name : Text) (p : ℕ) (ids : List Text)
        → Known s name → Places s p ids
        → wrong s (at s (hold s rows (Some (name, [])) 0) (option name) p true) words ≡ [] → X
    unfolding walk_fault
    waits-behind [] rows name p ids known places none = absurd (waits-fault rows name known none)
    waits-behind (word ∷ words) rows name p [] known places none =
        absurd (stray (sym (stray-waits (hold s rows (Some (name, [])) 0) name p word places)
        ∙ first-turn (at s (hold s rows (Some (name, [])) 0) (option name) p true) word words none))
    waits-behind (word ∷ words) rows name p (id ∷ ids) known places none =
        absurd (waits-fault rows name known
        (sym (settles-waits (hold s rows (Some (name, [])) 0) name p word id places.0)
        ∙ first-turn (at s (hold s rows (Some (name, [])) 0) (option name) p true) word words none))

    -- a long option where a value is awaited
    pub long-waits : (rows : List Row) (name other : Text) (value : Option Text) → Known s name
        → IsFault (long_fault s.rules again (arg_by_long s.rules other) value (hold s rows (Some (name, [])) 0))
    long-waits rows name other value known =
        let h = hold s rows (Some (name, [])) 0 in
        let waits : IsFault (settling s h) = waits-fault rows name known in
        ⊎_elim
        (λ (none : arg_by_long s.rules other ≡ None).
        subst (λ (o : Option Rule). IsFault (long_fault s.rules again o value h)) (sym none) (unknown-long value h))
        (⊎_elim
        (λ (help : arg_by_long s.rules other ≡ Some built_help).
        subst (λ (o : Option Rule). IsFault (long_fault s.rules again o value h)) (sym help) (help-long value h))
        (⊎_elim
        (λ (among : IsAmong options other).
        subst (λ (o : Option Rule). IsFault (long_fault s.rules again o value h)) (sym (table.an_option other
        among).long)
        (option-waits h other value waits))
        (λ (among : IsAmong flags other).
        subst (λ (o : Option Rule). IsFault (long_fault s.rules again o value h)) (sym (table.a_flag other among).long)
        (flag-waits' h other value waits)))) (table.other other)
      where
        option-waits : (h : Held) (other : Text) (value : Option Text) → IsFault (settling s h)
            → IsFault (long_fault s.rules again (Some (option_rule other)) value h)
        option-waits h other (Some v) waits = fault-left (settling s h) _ waits
        option-waits h other None waits = waits

        flag-waits' : (h : Held) (other : Text) (value : Option Text) → IsFault (settling s h)
            → IsFault (long_fault s.rules again (Some (flag_rule other)) value h)
        flag-waits' h other (Some v) waits = flag-value other v h
        flag-waits' h other None waits = fault-left (settling s h) _ waits

    -- ---- all words

    pub record Claims (words : List Text) : Type 0 where
      pub idles : (rows : List Row) (pending : Option (Text × List Text)) (p : ℕ) (ids : List Text) → Places s p ids
          → wrong s (at s (hold s rows pending 0) idle p false) words ≡ [] → Said words ids
      pub waits : (rows : List Row) (name : Text) (p : ℕ) (ids : List Text) → Known s name → Places s p ids
          → wrong s (at s (hold s rows (Some (name, [])) 0) (option name) p false) words ≡ [] → SaidLater words ids

    with-name : (word : Text) (words ids : List Text) (id : Text) → IsPlain word → Said words ids
        → Said (word ∷ words) (id ∷ ids)
    with-name word words ids id plain said = record {
      parts = AName word ∷ said.parts;
      line = Named word words said.parts plain said.line;
      fit = said.fit;
    }

    with-joined : (word name value : Text) (words ids : List Text) → word ≡ codes "--" ++ (name ++ (codes "=" ++ value))
        → IsAmong options name → Said words ids → Said (word ∷ words) ids
    with-joined word name value words ids is among said = record {
      parts = AnOption name value ∷ said.parts;
      line = subst (λ (w : Text). IsLine options flags (w ∷ words) (AnOption name value ∷ said.parts)) (sym is)
          (Joined name value words said.parts among said.line);
      fit = said.fit;
    }

    with-apart : (name : Text) (words ids : List Text) → IsAmong options name → SaidLater words ids
        → Said ((codes "--" ++ name) ∷ words) ids
    with-apart name words ids among later = record {
      parts = AnOption name later.value ∷ later.said.parts;
      line = subst (λ (ws : List Text). IsLine options flags ((codes "--" ++ name) ∷ ws)
          (AnOption name later.value ∷ later.said.parts)) (sym later.is)
          (Apart name later.value later.rest later.said.parts among later.plain later.said.line);
      fit = later.said.fit;
    }

    with-flag : (name : Text) (words ids : List Text) → IsAmong flags name → Said words ids
        → Said ((codes "--" ++ name) ∷ words) ids
    with-flag name words ids among said = record {
      parts = AFlag name ∷ said.parts;
      line = Flagged name words said.parts among said.line;
      fit = said.fit;
    }

    module _ (words : List Text) (rest : Claims words) where
      long-idles : (x : ℕ) (xs : Text) (rows : List Row) (pending : Option (Text × List Text)) (p : ℕ) (ids : List Text)
          → Places s p ids → wrong s (at s (hold s rows pending 0) idle p false) ((45 ∷ 45 ∷ x ∷ xs) ∷ words) ≡ []
          → Said ((45 ∷ 45 ∷ x ∷ xs) ∷ words) ids
      long-idles x xs rows pending p ids places none = by (cut (x ∷ xs))
        where
          word : Text
          word = 45 ∷ 45 ∷ x ∷ xs

          h : Held
          h = hold s rows pending 0

          part : flag_word_fault s.rules again (long_of (45 ∷ 45 ∷ x ∷ xs)) (45 ∷ 45 ∷ x ∷ xs) (hold s rows pending 0)
              ≡ []
          part = flag-idle (hold s rows pending 0) p (45 ∷ 45 ∷ x ∷ xs) refl
              (first-turn (at s (hold s rows pending 0) idle p false) (45 ∷ 45 ∷ x ∷ xs) words none)

          refused : (name : Text) (value : Option Text) → long_of (45 ∷ 45 ∷ x ∷ xs) ≡ Some (name, value)
              → (found : Option Rule) → arg_by_long s.rules name ≡ found
              → IsFault (long_fault s.rules again found value (hold s rows pending 0))
              → Said ((45 ∷ 45 ∷ x ∷ xs) ∷ words) ids
          refused name value long found is fault =
              absurd (fault (subst (λ (o : Option Rule). long_fault s.rules again o value (hold s rows pending 0) ≡ [])
              is
              (long-part (45 ∷ 45 ∷ x ∷ xs) (hold s rows pending 0) name value long part)))

          by-value : (name value : Text) → x ∷ xs ≡ name ++ 61 ∷ value
              → long_of (45 ∷ 45 ∷ x ∷ xs) ≡ Some (name, Some value) → Said ((45 ∷ 45 ∷ x ∷ xs) ∷ words) ids
          by-value name value is long =
              ⊎_elim (λ (gone : arg_by_long s.rules name ≡ None).
              refused name (Some value) long None gone (unknown-long (Some value) (hold s rows pending 0)))
              (⊎_elim (λ (help : arg_by_long s.rules name ≡ Some built_help).
              refused name (Some value) long (Some built_help) help (help-long (Some value) (hold s rows pending 0)))
              (⊎_elim
              (λ (among : IsAmong options name).
              with-joined (45 ∷ 45 ∷ x ∷ xs) name value words ids (ap (λ (l : Text). 45 ∷ 45 ∷ l) is) among
              (rest.idles _ None p ids places (later _ _ (45 ∷ 45 ∷ x ∷ xs) words _
              (joined s (hold s rows pending 0) p (45 ∷ 45 ∷ x ∷ xs) name value refl long (table.an_option name
              among).long)
              none)))
              (λ (among : IsAmong flags name).
              refused name (Some value) long (Some (flag_rule name)) (table.a_flag name among).long
              (flag-value name value (hold s rows pending 0)))))
              (table.other name)

          by-none : long_of (45 ∷ 45 ∷ x ∷ xs) ≡ Some (x ∷ xs, None) → Said ((45 ∷ 45 ∷ x ∷ xs) ∷ words) ids
          by-none long =
              ⊎_elim (λ (gone : arg_by_long s.rules (x ∷ xs) ≡ None).
              refused (x ∷ xs) None long None gone (unknown-long None (hold s rows pending 0)))
              (⊎_elim (λ (help : arg_by_long s.rules (x ∷ xs) ≡ Some built_help).
              refused (x ∷ xs) None long (Some built_help) help (help-long None (hold s rows pending 0)))
              (⊎_elim
              (λ (among : IsAmong options (x ∷ xs)).
              with-apart (x ∷ xs) words ids among
              (rest.waits _ (x ∷ xs) p ids (table.an_option (x ∷ xs) among) places
              (later _ _ (45 ∷ 45 ∷ x ∷ xs) words _
              (apart s (hold s rows pending 0) p (45 ∷ 45 ∷ x ∷ xs) (x ∷ xs) refl long
              (table.an_option (x ∷ xs) among).long) none)))
              (λ (among : IsAmong flags (x ∷ xs)).
              with-flag (x ∷ xs) words ids among
              (rest.idles _ None p ids places (later _ _ (45 ∷ 45 ∷ x ∷ xs) words _
              (flagged s (hold s rows pending 0) p (45 ∷ 45 ∷ x ∷ xs) (x ∷ xs) refl long
              (table.a_flag (x ∷ xs) among).long) none)))))
              (table.other (x ∷ xs))

          by : Cut (x ∷ xs) → Said ((45 ∷ 45 ∷ x ∷ xs) ∷ words) ids
          by (AtEquals name value is lacks) =
              by-value name value is
              (ap (λ (t : Text). Some (name_and_value t)) is ∙ ap Some (name_and_value-at name value lacks))
          by (Uncut lacks) = by-none (ap Some (name_and_value-without (x ∷ xs) lacks))

      idles-more : (word : Text) → IsUtf8 word → (rows : List Row) (pending : Option (Text × List Text)) (p : ℕ)
          (ids : List Text) → Places s p ids
          → wrong s (at s (hold s rows pending 0) idle p false) (word ∷ words) ≡ [] → Said (word ∷ words) ids
      idles-more word text rows pending p ids places none = by word (looks word) text none ids places
        where
          by : (word : Text) → Looks word → IsUtf8 word
              → wrong s (at s (hold s rows pending 0) idle p false) (word ∷ words) ≡ []
              → (ids : List Text) → Places s p ids → Said (word ∷ words) ids
          by word (Plain word' plain) text none [] places =
              absurd (stray (sym (stray-turn (hold s rows pending 0) p word' (plain-word word' plain) places)
              ∙ first-turn (at s (hold s rows pending 0) idle p false) word' words none))
          by word (Plain word' plain) text none (id ∷ ids) places =
              with-name word' words ids id plain
              (rest.idles _ _ (min (p + 1) usize_max) ids places.2
              (later _ _ word' words _ (named s (hold s rows pending 0) p word' id (plain-word word' plain) places.0)
              none))
          by word Dashes text none ids places = record {
            parts = all_names words;
            line = Behind words;
            fit = fit-behind words (hold s rows pending 0) p ids places
                (later _ _ (45 ∷ 45 ∷ []) words _ (dashed s (hold s rows pending 0) idle p) none);
          }
          by word (Long x xs) text none ids places = long-idles x xs rows pending p ids places none
          by word (Short x xs other) text none ids places =
              refused-short x xs rows pending text other
              (flag-idle (hold s rows pending 0) p (45 ∷ x ∷ xs) (short-word x xs other).dashes
              (first-turn (at s (hold s rows pending 0) idle p false) (45 ∷ x ∷ xs) words none))

      waits-more : (word : Text) → IsUtf8 word → (rows : List Row) (name : Text) (p : ℕ) (ids : List Text)
          → Known s name
          → Places s p ids
          → wrong s (at s (hold s rows (Some (name, [])) 0) (option name) p false) (word ∷ words) ≡ []
          → SaidLater (word ∷ words) ids
      waits-more word text rows name p ids known places none = by word (looks word) text none
        where
          by : (word : Text) → Looks word → IsUtf8 word
              → wrong s (at s (hold s rows (Some (name, [])) 0) (option name) p false) (word ∷ words) ≡ []
              → SaidLater (word ∷ words) ids
          by word (Plain word' plain) text none = record {
            value = word';
            rest = words;
            is = refl;
            plain = plain;
            said = rest.idles rows (Some (name, word' ∷ [])) p ids places
                (later _ _ word' words _
                (given s rows 0 p word' name (plain-word word' plain) known.id (same-text name)) none);
          }
          by word Dashes text none =
              waits-behind words rows name p ids known places
              (later _ _ (45 ∷ 45 ∷ []) words _ (dashed-waits (hold s rows (Some (name, [])) 0) name p) none)
          by word (Long x xs) text none =
              let long = long-pair x xs in
              absurd (long-waits rows name long.0 long.1 known
              (long-part (45 ∷ 45 ∷ x ∷ xs) (hold s rows (Some (name, [])) 0) long.0 long.1 long.2
              (flag-waits (hold s rows (Some (name, [])) 0) name p (45 ∷ 45 ∷ x ∷ xs) refl
              (first-turn (at s (hold s rows (Some (name, [])) 0) (option name) p false) (45 ∷ 45 ∷ x ∷ xs) words
              none))))
            where
              long-pair : (x : ℕ) (xs : Text)
                  → (other : Text) × (value : Option Text) × (long_of (45 ∷ 45 ∷ x ∷ xs) ≡ Some (other, value))
              long-pair x xs = ((name_and_value (x ∷ xs)).0, (name_and_value (x ∷ xs)).1, refl)
          by word (Short x xs other) text none =
              refused-short x xs rows (Some (name, [])) text other
              (flag-waits (hold s rows (Some (name, [])) 0) name p (45 ∷ x ∷ xs) (short-word x xs other).dashes
              (first-turn (at s (hold s rows (Some (name, [])) 0) (option name) p false) (45 ∷ x ∷ xs) words none))

    waits-none : {X : Type 0} (rows : List Row) (name : Text) (p : ℕ) → Known s name
        → wrong s (at s (hold s rows (Some (name, [])) 0) (option name) p false) [] ≡ [] → X
    unfolding walk_fault
    waits-none rows name p known none = absurd (waits-fault rows name known none)

    pub claims : (words : List Text) → AreTexts words → Claims words
    claims [] texts = record {
      idles = λ rows pending p ids places none. record { parts = []; line = Ended; fit = tt };
      waits = λ rows name p ids known places none. waits-none rows name p known none;
    }
    claims (word ∷ words) texts =
        let rest = claims words texts.1 in
        record {
          idles = λ rows pending p ids places none. idles-more words rest word texts.0 rows pending p ids places none;
          waits = λ rows name p ids known places none. waits-more words rest word texts.0 rows name p ids known places
              none;
        }
