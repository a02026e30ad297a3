-- Words of many names and of options that are walked over without a fault say something.
use Rattle.std.proofs.Common.{◌≡◌, ⊎_elim, ◌∙◌, refl, sym, ap, subst, ℕ, Bool, true, false, List, [], ◌∷◌, ◌++◌, Option, Some, None}
use Rattle.std.specs.Str.{IsUtf8, bytes_eq}
use Rattle.clap.proofs.OnLiterals.{clap_on_literals}
use Rattle.clap.proofs.LexerLemmas.{name_and_value-at, name_and_value-without}
use Rattle.clap.specs.Lexer.{long_of, name_and_value}
use Rattle.clap.specs.Kinds.{Kinds}
use Rattle.clap.specs.Walk.{Held, Row, Rule, Text, Walk, idle, is_pending, option, positional, arg_by_id, arg_by_index, arg_by_long}
use Rattle.clap.specs.Simple.{Shape}
use Rattle.clap.specs.Faults.{flag_word_fault, long_fault, turn_fault, walk_fault}
use Rattle.command_words.specs.Prelude.{AName, AnOption, Apart, AreTexts, Behind, Ended, IsAmong, IsLine, IsPlain, Joined, Named, Part}
use Rattle.command_words.proofs.BusWalks.{Eased, goes-on, names_rule, starts, wrong-alike}
use Rattle.command_words.proofs.WordLooks.{AtEquals, Cut, Dashes, Long, Looks, Plain, Short, Uncut, cut, looks, short-word}
use Rattle.command_words.proofs.WordWalks.{Leads, apart, at, given, hold, joined, plain-word, settling, wrong}
use Rattle.command_words.proofs.WordsRead.{Known, Table, all_names, built_help, same-text}
use Rattle.command_words.proofs.WordsRefused.{dashed-waits, first-turn, flag-idle, flag-waits, help-long, later, long-part, long-waits, refused-short, unknown-long, waits-fault}

-- words say some parts
pub record SaysParts (options words : List Text) : Type 0 where
  pub parts : List Part
  pub line : IsLine options [] words parts

-- words say a value, and then some parts
pub record SaysValue (options words : List Text) : Type 0 where
  pub value : Text
  pub rest : List Text
  pub is : words ≡ value ∷ rest
  pub plain : IsPlain value
  pub says : SaysParts options rest

-- a long option that is taken, with its value in the same word or without
pub data IsTaken (options : List Text) (x : ℕ) (xs : Text) : Type 0 where
  WithValue : (name value : Text) → x ∷ xs ≡ name ++ 61 ∷ value → IsAmong options name
      → long_of (45 ∷ 45 ∷ x ∷ xs) ≡ Some (name, Some value) → IsTaken options x xs
  WithNone : IsAmong options (x ∷ xs) → long_of (45 ∷ 45 ∷ x ∷ xs) ≡ Some (x ∷ xs, None) → IsTaken options x xs

module _ (s : Shape) (options : List Text) (table : Table s options []) where
  abbrev again : Bool
  again = s.args_override_self

  known-long : (name : Text) (value : Option Text) (h : Held)
      → long_fault s.rules again (arg_by_long s.rules name) value h ≡ [] → IsAmong options name
  known-long name value h none =
      ⊎_elim (λ (gone : arg_by_long s.rules name ≡ None).
      absurd (unknown-long s value h
      (subst (λ (o : Option Rule). long_fault s.rules again o value h ≡ []) gone none)))
      (⊎_elim (λ (help : arg_by_long s.rules name ≡ Some built_help).
      absurd (help-long s value h
      (subst (λ (o : Option Rule). long_fault s.rules again o value h ≡ []) help none)))
      (⊎_elim (λ (among : IsAmong options name). among) (λ (among : IsAmong [] name). absurd among)))
      (table.other name)

  taken-long : (x : ℕ) (xs : Text) (h : Held)
      → flag_word_fault s.rules again (long_of (45 ∷ 45 ∷ x ∷ xs)) (45 ∷ 45 ∷ x ∷ xs) h ≡ [] → IsTaken options x xs
  taken-long x xs h none = by (cut (x ∷ xs))
    where
      by : Cut (x ∷ xs) → IsTaken options x xs
      by (AtEquals name value is lacks) =
          let long : long_of (45 ∷ 45 ∷ x ∷ xs) ≡ Some (name, Some value) =
          ap (λ (t : Text). Some (name_and_value t)) is ∙ ap Some (name_and_value-at name value lacks) in
          WithValue name value is
          (known-long name (Some value) h (long-part s (45 ∷ 45 ∷ x ∷ xs) h name (Some value) long none)) long
      by (Uncut lacks) =
          let long : long_of (45 ∷ 45 ∷ x ∷ xs) ≡ Some (x ∷ xs, None) =
          ap Some (name_and_value-without (x ∷ xs) lacks) in
          WithNone (known-long (x ∷ xs) None h (long-part s (45 ∷ 45 ∷ x ∷ xs) h (x ∷ xs) None long none)) long

  module _ (id : Text) (index : arg_by_index s.rules 1 ≡ Some (names_rule id))
      (by_id : arg_by_id s.rules id ≡ Some (names_rule id))
      (other : (x : Text) → IsAmong options x → bytes_eq x id ≡ false) where
    -- a word after `--`, where a value is expected
    settles-waits : (h : Held) (name : Text) (word : Text) → is_pending (names_rule id) h.pending ≡ false
        → turn_fault s [] (at s h (option name) 1 true) word ≡ settling s h
    unfolding clap_on_literals
    settles-waits h name word free = rw (index, free) refl

    waits-behind : {X : Type 0} (words : List Text) (rows : List Row) (name : Text) → Known s name
        → bytes_eq name id ≡ false → wrong s (at s (hold s rows (Some (name, [])) 0) (option name) 1 true) words ≡ [] → X
    unfolding walk_fault
    waits-behind [] rows name known free none = absurd (waits-fault s options [] table rows name known none)
    waits-behind (word ∷ words) rows name known free none =
        absurd (waits-fault s options [] table rows name known
        (sym (settles-waits (hold s rows (Some (name, [])) 0) name word free)
        ∙ first-turn s (at s (hold s rows (Some (name, [])) 0) (option name) 1 true) word words none))

    -- all words
    pub record Claims (words : List Text) : Type 0 where
      pub idles : (rows : List Row) (pending : Option (Text × List Text))
          → wrong s (at s (hold s rows pending 0) idle 1 false) words ≡ [] → SaysParts options words
      pub waits : (rows : List Row) (name : Text) → IsAmong options name
          → wrong s (at s (hold s rows (Some (name, [])) 0) (option name) 1 false) words ≡ [] → SaysValue options words

    -- after a name
    behind-name : (w : Walk) (word : Text) (words : List Text) (faults : Kinds) (rows : List Row)
        (pending : Option (Text × List Text)) → Claims words
        → Leads s w word faults (at s (hold s rows pending 0) positional 1 false)
        → wrong s w (word ∷ words) ≡ [] → IsPlain word → SaysParts options (word ∷ words)
    behind-name w word words faults rows pending rest leads none plain =
        let said =
        rest.idles rows pending
        (sym (wrong-alike s words _ _ (Eased (hold s rows pending 0) 1 false None))
        ∙ later s w (at s (hold s rows pending 0) positional 1 false) word words faults leads none) in
        record { parts = AName word ∷ said.parts; line = Named word words said.parts plain said.line }

    with-name : (word : Text) (words : List Text) → IsPlain word → Claims words → (rows : List Row)
        (pending : Option (Text × List Text))
        → wrong s (at s (hold s rows pending 0) idle 1 false) (word ∷ words) ≡ [] → SaysParts options (word ∷ words)
    with-name word words plain rest rows None none =
        behind-name (at s (hold s rows None 0) idle 1 false) word words _ _ _ rest
        (starts s id index (hold s rows None 0) word (plain-word word plain) refl) none plain
    with-name word words plain rest rows (Some pending) none = by (bytes_eq pending.0 id) refl
      where
        by : (b : Bool) → bytes_eq pending.0 id ≡ b → SaysParts options (word ∷ words)
        by true same =
            behind-name (at s (hold s rows (Some pending) 0) idle 1 false) word words _ _ _ rest
            (goes-on s id index rows pending.0 pending.1 0 word (plain-word word plain) same) none plain
        by false free =
            behind-name (at s (hold s rows (Some pending) 0) idle 1 false) word words _ _ _ rest
            (starts s id index (hold s rows (Some pending) 0) word (plain-word word plain) free) none plain

    with-long : (x : ℕ) (xs : Text) (words : List Text) → Claims words → (rows : List Row)
        (pending : Option (Text × List Text))
        → wrong s (at s (hold s rows pending 0) idle 1 false) ((45 ∷ 45 ∷ x ∷ xs) ∷ words) ≡ []
        → SaysParts options ((45 ∷ 45 ∷ x ∷ xs) ∷ words)
    with-long x xs words rest rows pending none =
        by (taken-long x xs h (flag-idle s h 1 word refl (first-turn s (at s h idle 1 false) word words none)))
      where
        word : Text
        word = 45 ∷ 45 ∷ x ∷ xs

        h : Held
        h = hold s rows pending 0

        by : IsTaken options x xs → SaysParts options ((45 ∷ 45 ∷ x ∷ xs) ∷ words)
        by (WithValue name value is among long) =
            let said =
            rest.idles _ None (later s _ _ word words _
            (joined s h 1 word name value refl long (table.an_option name among).long) none) in
            record {
              parts = AnOption name value ∷ said.parts;
              line = subst (λ (t : Text). IsLine options [] ((45 ∷ 45 ∷ t) ∷ words) (AnOption name value ∷ said.parts))
                  (sym is) (Joined name value words said.parts among said.line);
            }
        by (WithNone among long) =
            let said =
            rest.waits _ (x ∷ xs) among (later s _ _ word words _
            (apart s h 1 word (x ∷ xs) refl long (table.an_option (x ∷ xs) among).long) none) in
            record {
              parts = AnOption (x ∷ xs) said.value ∷ said.says.parts;
              line = subst (λ (ws : List Text). IsLine options [] ((45 ∷ 45 ∷ x ∷ xs) ∷ ws)
                  (AnOption (x ∷ xs) said.value ∷ said.says.parts)) (sym said.is)
                  (Apart (x ∷ xs) said.value said.rest said.says.parts among said.plain said.says.line);
            }

    idles-more : (word : Text) (words : List Text) → Claims words → Looks word → IsUtf8 word → (rows : List Row)
        (pending : Option (Text × List Text))
        → wrong s (at s (hold s rows pending 0) idle 1 false) (word ∷ words) ≡ [] → SaysParts options (word ∷ words)
    idles-more word words rest (Plain word' plain) text rows pending none = with-name word' words plain rest rows pending
        none
    idles-more word words rest Dashes text rows pending none =
        record { parts = all_names words; line = Behind words }
    idles-more word words rest (Long x xs) text rows pending none = with-long x xs words rest rows pending none
    idles-more word words rest (Short x xs unlike) text rows pending none =
        refused-short s options [] table x xs rows pending text unlike
        (flag-idle s (hold s rows pending 0) 1 (45 ∷ x ∷ xs) (short-word x xs unlike).dashes
        (first-turn s (at s (hold s rows pending 0) idle 1 false) (45 ∷ x ∷ xs) words none))

    waits-more : (word : Text) (words : List Text) → Claims words → Looks word → IsUtf8 word → (rows : List Row)
        (name : Text) → IsAmong options name
        → wrong s (at s (hold s rows (Some (name, [])) 0) (option name) 1 false) (word ∷ words) ≡ []
        → SaysValue options (word ∷ words)
    waits-more word words rest (Plain word' plain) text rows name among none = record {
      value = word';
      rest = words;
      is = refl;
      plain = plain;
      says = rest.idles rows (Some (name, word' ∷ []))
          (later s _ _ word' words _
          (given s rows 0 1 word' name (plain-word word' plain) (table.an_option name among).id (same-text name)) none);
    }
    waits-more word words rest Dashes text rows name among none =
        waits-behind words rows name (table.an_option name among) (other name among)
        (later s _ _ (45 ∷ 45 ∷ []) words _ (dashed-waits s (hold s rows (Some (name, [])) 0) name 1) none)
    waits-more word words rest (Long x xs) text rows name among none =
        let h = hold s rows (Some (name, [])) 0 in
        let long = name_and_value (x ∷ xs) in
        absurd (long-waits s options [] table rows name long.0 long.1 (table.an_option name among)
        (long-part s (45 ∷ 45 ∷ x ∷ xs) h long.0 long.1 refl
        (flag-waits s h name 1 (45 ∷ 45 ∷ x ∷ xs) refl
        (first-turn s (at s h (option name) 1 false) (45 ∷ 45 ∷ x ∷ xs) words none))))
    waits-more word words rest (Short x xs unlike) text rows name among none =
        refused-short s options [] table x xs rows (Some (name, [])) text unlike
        (flag-waits s (hold s rows (Some (name, [])) 0) name 1 (45 ∷ x ∷ xs) (short-word x xs unlike).dashes
        (first-turn s (at s (hold s rows (Some (name, [])) 0) (option name) 1 false) (45 ∷ x ∷ xs) words none))

    waits-none : {X : Type 0} (rows : List Row) (name : Text) → Known s name
        → wrong s (at s (hold s rows (Some (name, [])) 0) (option name) 1 false) [] ≡ [] → X
    unfolding walk_fault
    waits-none rows name known none = absurd (waits-fault s options [] table rows name known none)

    pub claims : (words : List Text) → AreTexts words → Claims words
    claims [] texts = record {
      idles = λ rows pending none. record { parts = []; line = Ended };
      waits = λ rows name among none. waits-none rows name (table.an_option name among) none;
    }
    claims (word ∷ words) texts =
        let rest = claims words texts.1 in
        record {
          idles = λ rows pending none. idles-more word words rest (looks word) texts.0 rows pending none;
          waits = λ rows name among none. waits-more word words rest (looks word) texts.0 rows name among none;
        }
