-- How clap walks over the words of a command of many names under one rule, and options.
use Rattle.std.proofs.Common.{◌≡◌, ◌∙◌, refl, sym, ap, subst, ℕ, Bool, true, false, cond, List, [], ◌∷◌, ◌++◌, Option, Some, None}
use Rattle.std.specs.Str.{bytes_eq}
use Rattle.clap.proofs.OnLiterals.{clap_on_literals}
use Rattle.clap.specs.Lexer.{long_of, short_of}
use Rattle.clap.specs.Kinds.{or_else}
use Rattle.clap.specs.Walk.{Held, Outcome, Row, Rule, Step, Text, Walk, after_flag, after_step, arg_by_long, bundle, done, idle, is_pending, long_met, long_or_other, next, positional, short_or_plain, subcommand, to_positional, trailing, value, waits, walked, word_met, arg_by_index}
use Rattle.clap.specs.Simple.{Shape, filled, with_index}
use Rattle.clap.specs.Faults.{step_fault, turn_fault, walk_fault, word_fault}
use Rattle.command_words.specs.declared.verbs.Argument.TheVariants.{Words}
use Rattle.command_words.specs.Prelude.{rule_for}
use Rattle.command_words.proofs.WordWalks.{Leads, PlainWord, at, hold, last, led-wrong, named_held, settling, wrong}

-- the rule of the names, the first positional
abbrev pub names_rule : Text → Rule
names_rule id = with_index 1 (filled (rule_for Words id))

-- ---- a name that may go on is met as any word is

-- two walks that are one, but that in the first a name was met last
pub data AreAlike : Walk → Walk → Type 0 where
  Same : (w : Walk) → AreAlike w w
  Eased : (h : Held) (p : ℕ) (trailing : Bool) (stopped : Option (Text × List Text))
      → AreAlike
      (record { held = h; waiting = positional; position = p; is_trailing = trailing; stopped = stopped })
      (record { held = h; waiting = idle; position = p; is_trailing = trailing; stopped = stopped })

flag-eased : (rules : List Rule) (word : Text) (h : Held) (outcome : Outcome)
    → after_flag rules positional word h outcome ≡ after_flag rules idle word h outcome
flag-eased rules word h done = refl
flag-eased rules word h (waits id) = refl
flag-eased rules word h _ = refl

short-eased : (rules : List Rule) (word : Text) (h : Held) (flags : Option Text)
    → short_or_plain rules positional word flags h ≡ short_or_plain rules idle word flags h
short-eased rules word h None = refl
short-eased rules word h (Some flags) = flag-eased rules word (bundle rules flags h).0 (bundle rules flags h).1

long-eased : (rules : List Rule) (word : Text) (h : Held) (long : Option (Text × Option Text))
    → long_or_other rules positional word long h ≡ long_or_other rules idle word long h
long-eased rules word h None = short-eased rules word h (short_of word)
long-eased rules word h (Some pair) =
    let met = long_met rules (arg_by_long rules pair.0) pair.1 h in flag-eased rules word met.0 met.1

met-eased : (rules : List Rule) (trails : Bool) (p : ℕ) (word : Text) (h : Held)
    → word_met rules [] trails positional p word h ≡ word_met rules [] trails idle p word h
met-eased rules true p word h = refl
met-eased rules false p word h =
    ap (λ (met : Held × Step). cond (bytes_eq word (45 ∷ 45 ∷ [])) (h, trailing p) met)
    (long-eased rules word h (long_of word))

module _ (s : Shape) where
  gone-alike : (w : Held) (p : ℕ) (trails : Bool) (word : Text) (h : Held) (found : Option Rule)
      → AreAlike (to_positional s.rules found word (at s w positional p trails) h)
      (to_positional s.rules found word (at s w idle p trails) h)
  gone-alike w p trails word h None = Eased h p trails None
  gone-alike w p trails word h (Some a) = Same _

  step-alike : (w : Held) (p : ℕ) (trails : Bool) (word : Text) (h : Held) (step : Step)
      → AreAlike (after_step s.rules word (at s w positional p trails) h step)
      (after_step s.rules word (at s w idle p trails) h step)
  step-alike w p trails word h (next waiting) = Same _
  step-alike w p trails word h (trailing position) = Eased h position true None
  step-alike w p trails word h (subcommand name) = Eased h p trails (Some (name, []))
  step-alike w p trails word h value = gone-alike w p trails word h (arg_by_index s.rules p)

  walked-alike : (w v : Walk) (word : Text) → AreAlike w v → AreAlike (walked s.rules [] w word) (walked s.rules [] v word)
  unfolding walked
  walked-alike w v word (Same w') = Same _
  walked-alike w v word (Eased h p trails (Some stop)) = Eased h p trails _
  walked-alike w v word (Eased h p trails None) =
      subst (λ (met : Held × Step).
      AreAlike (after_step s.rules word (at s h positional p trails) met.0 met.1)
      (walked s.rules [] (at s h idle p trails) word)) (sym (met-eased s.rules trails p word h))
      (step-alike h p trails word (word_met s.rules [] trails idle p word h).0
      (word_met s.rules [] trails idle p word h).1)

  turn-alike : (w v : Walk) (word : Text) → AreAlike w v → turn_fault s [] w word ≡ turn_fault s [] v word
  turn-alike w v word (Same w') = refl
  turn-alike w v word (Eased h p trails (Some stop)) = refl
  turn-alike w v word (Eased h p trails None) =
      ap (λ (met : Held × Step). or_else (word_fault s [] trails idle word h) (step_fault s p met.0 met.1))
      (met-eased s.rules trails p word h)

  pub wrong-alike : (words : List Text) (w v : Walk) → AreAlike w v → wrong s w words ≡ wrong s v words
  unfolding walk_fault
  wrong-alike [] w v (Same w') = refl
  wrong-alike [] w v (Eased h p trails stop) = refl
  wrong-alike (word ∷ words) w v alike =
      led-wrong s w (walked s.rules [] w word) word words (turn_fault s [] w word) (record { turn = refl; goes = refl })
      ∙ (λ i. or_else (turn-alike w v word alike i) (wrong-alike words _ _ (walked-alike w v word alike) i))
      ∙ sym (led-wrong s v (walked s.rules [] v word) word words (turn_fault s [] v word)
      (record { turn = refl; goes = refl }))

  pub record EndAlike (w v : Walk) (words : List Text) : Type 0 where
    pub held : (last s w words).held ≡ (last s v words).held
    pub stopped : (last s w words).stopped ≡ (last s v words).stopped

  pub end-alike : (words : List Text) (w v : Walk) → AreAlike w v → EndAlike w v words
  end-alike [] w v (Same w') = record { held = refl; stopped = refl }
  end-alike [] w v (Eased h p trails stop) = record { held = refl; stopped = refl }
  end-alike (word ∷ words) w v alike =
      let rest = end-alike words (walked s.rules [] w word) (walked s.rules [] v word) (walked-alike w v word alike) in
      record { held = rest.held; stopped = rest.stopped }

  -- ---- one name

  module _ (id : Text) (is : arg_by_index s.rules 1 ≡ Some (names_rule id)) where
    -- the first, and one more
    pub starts : (h : Held) (word : Text) → PlainWord word → is_pending (names_rule id) h.pending ≡ false
        → Leads s (at s h idle 1 false) word (settling s h) (at s (named_held s h id word) positional 1 false)
    unfolding clap_on_literals
    starts h word plain other = record {
      turn = rw (plain.dashes, plain.long, plain.short, is, other) refl;
      goes = rw (plain.dashes, plain.long, plain.short, is, other) refl;
    }

    pub starts-behind : (h : Held) (word : Text) → is_pending (names_rule id) h.pending ≡ false
        → Leads s (at s h idle 1 true) word (settling s h) (at s (named_held s h id word) positional 1 true)
    unfolding clap_on_literals
    starts-behind h word other = record { turn = rw (is, other) refl; goes = rw (is, other) refl }

    pub goes-on : (rows : List Row) (x : Text) (values : List Text) (skip : ℕ) (word : Text) → PlainWord word
        → bytes_eq x id ≡ true
        → Leads s (at s (hold s rows (Some (x, values)) skip) idle 1 false) word []
        (at s (hold s rows (Some (x, values ++ word ∷ [])) skip) positional 1 false)
    unfolding clap_on_literals
    goes-on rows x values skip word plain same = record {
      turn = rw (plain.dashes, plain.long, plain.short, is, same) refl;
      goes = rw (plain.dashes, plain.long, plain.short, is, same) refl;
    }

    pub goes-on-behind : (rows : List Row) (x : Text) (values : List Text) (skip : ℕ) (word : Text)
        → bytes_eq x id ≡ true
        → Leads s (at s (hold s rows (Some (x, values)) skip) idle 1 true) word []
        (at s (hold s rows (Some (x, values ++ word ∷ [])) skip) positional 1 true)
    unfolding clap_on_literals
    goes-on-behind rows x values skip word same = record { turn = rw (is, same) refl; goes = rw (is, same) refl }
