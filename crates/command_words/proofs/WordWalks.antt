-- How clap walks over the words of a command of names, options and flags.
use Rattle.std.proofs.Common.{◌≡◌, inl, inr, ◌∙◌, refl, sym, ap, subst, ℕ, Bool, true, false, cond, min, ◌+◌, ◌&&◌, List, [], ◌∷◌, Option, Some, None, fold, true≢false}
use Rattle.std.specs.Str.{bytes_eq}
use Rattle.std.proofs.lemmas.Bool.{cases_eq, ne_eqb}
use Rattle.clap.proofs.OnLiterals.{clap_on_literals}
use Rattle.clap.specs.Lexer.{long_of, short_of, usize_max}
use Rattle.clap.specs.Kinds.{Kinds, or_else}
use Rattle.clap.specs.Walk.{Held, Row, Rule, Text, Walk, Waiting, idle, option, walked, reacted, settled, arg_by_long, arg_by_index, arg_by_id, pushed, is_pending}
use Rattle.clap.specs.Simple.{Shape, filled, with_index, new_rule}
use Rattle.clap.specs.Faults.{walk_fault, turn_fault, settle_fault, react_fault}
use Rattle.clap.specs.declared.builder.action.ArgAction.TheVariants.{SetTrue}
use Rattle.command_words.specs.Prelude.{IsPlain}

-- ---- words

pub record PlainWord (word : Text) : Type 0 where
  pub dashes : bytes_eq word (45 ∷ 45 ∷ []) ≡ false
  pub long : long_of word ≡ None
  pub short : short_of word ≡ None

pub plain-word : (word : Text) → IsPlain word → PlainWord word
plain-word [] plain = record { dashes = refl; long = refl; short = refl }
plain-word (c ∷ []) plain = elim (cases_eq c 45) [
  | inl is ↦ subst (λ x. PlainWord (x ∷ [])) (sym is) (record { dashes = refl; long = refl; short = refl })
  | inr other ↦
      let no = ne_eqb c 45 other in record { dashes = rw no refl; long = rw no refl; short = rw no refl }
]
plain-word (c ∷ d ∷ more) other =
    let no = ne_eqb c 45 other in record { dashes = rw no refl; long = rw no refl; short = rw no refl }

-- ---- rules

abbrev pub name_rule : Text → ℕ → Rule
name_rule id i = with_index i (filled (record (new_rule id) { required = true }))

abbrev pub option_rule : Text → Rule
option_rule id = filled (record (new_rule id) { long = Some id })

abbrev pub flag_rule : Text → Rule
flag_rule id = filled (record (new_rule id) { long = Some id; action = Some SetTrue })

-- ---- kinds

pub or-assoc : (a b c : Kinds) → or_else (or_else a b) c ≡ or_else a (or_else b c)
or-assoc [] b c = refl
or-assoc (k ∷ a) b c = refl

pub or-nil : (a : Kinds) → or_else a [] ≡ a
or-nil [] = refl
or-nil (k ∷ a) = refl

abbrev is_empty_kinds : Kinds → Bool
is_empty_kinds [] = true
is_empty_kinds (k ∷ ks) = false

pub both-none : (a b : Kinds) → or_else a b ≡ [] → (a ≡ []) × (b ≡ [])
both-none [] b none = (refl, none)
both-none (k ∷ a) b none = absurd (true≢false (sym (ap is_empty_kinds none)))

module _ (s : Shape) where
  -- what is wrong with the words from a moment of the walk on, up to the end
  abbrev pub last : Walk → List Text → Walk
  last w words = fold (walked s.rules []) w words

  abbrev pub settling : Held → Kinds
  settling h = settle_fault s.rules s.args_override_self h

  abbrev pub wrong : Walk → List Text → Kinds
  wrong w words = or_else (walk_fault s [] w words) (settling (last w words).held)

  abbrev pub hold : List Row → Option (Text × List Text) → ℕ → Held
  hold rows pending skip = record { rows = rows; pending = pending; skip = skip }

  abbrev pub at : Held → Waiting → ℕ → Bool → Walk
  at h waiting p trailing =
      record { held = h; waiting = waiting; position = p; is_trailing = trailing; stopped = None }

  -- one word leads from a moment to another, with these faults
  pub record Leads (w : Walk) (word : Text) (faults : Kinds) (next : Walk) : Type 0 where
    pub turn : turn_fault s [] w word ≡ faults
    pub goes : walked s.rules [] w word ≡ next

  pub led-wrong : (w next : Walk) (word : Text) (words : List Text) (faults : Kinds) → Leads w word faults next
      → wrong w (word ∷ words) ≡ or_else faults (wrong next words)
  unfolding walk_fault
  led-wrong w next word words faults leads =
      or-assoc (turn_fault s [] w word) _ _
      ∙ (λ i. or_else (leads.turn i) (wrong (leads.goes i) words))

  pub led-last : (w next : Walk) (word : Text) (words : List Text) (faults : Kinds) → Leads w word faults next
      → last w (word ∷ words) ≡ last next words
  led-last w next word words faults leads = ap (λ x. last x words) leads.goes

  pub dashed : (h : Held) (waiting : Waiting) (p : ℕ)
      → Leads (at h idle p false) (45 ∷ 45 ∷ []) [] (at h idle p true)
  unfolding clap_on_literals
  dashed h waiting p = record { turn = refl; goes = refl }

  pub joined : (h : Held) (p : ℕ) (word id value : Text) → bytes_eq word (45 ∷ 45 ∷ []) ≡ false
      → long_of word ≡ Some (id, Some value) → arg_by_long s.rules id ≡ Some (option_rule id)
      → Leads (at h idle p false) word
      (or_else (react_fault s.rules s.args_override_self (option_rule id) (value ∷ []) h) [])
      (at (reacted s.rules (option_rule id) (value ∷ []) h) idle p false)
  unfolding clap_on_literals
  joined h p word id value dashes long is = record {
    turn = rw (dashes, long, is) refl;
    goes = rw (dashes, long, is) refl;
  }

  pub apart : (h : Held) (p : ℕ) (word id : Text) → bytes_eq word (45 ∷ 45 ∷ []) ≡ false
      → long_of word ≡ Some (id, None) → arg_by_long s.rules id ≡ Some (option_rule id)
      → Leads (at h idle p false) word (or_else (settling h) [])
      (at (record (settled s.rules h) { pending = Some (id, []) }) (option id) p false)
  unfolding clap_on_literals
  apart h p word id dashes long is = record {
    turn = rw (dashes, long, is) refl;
    goes = rw (dashes, long, is) refl;
  }

  pub given : (rows : List Row) (skip p : ℕ) (word id : Text) → PlainWord word
      → arg_by_id s.rules id ≡ Some (option_rule id) → bytes_eq id id ≡ true
      → Leads (at (hold rows (Some (id, [])) skip) (option id) p false) word []
      (at (hold rows (Some (id, word ∷ [])) skip) idle p false)
  unfolding clap_on_literals
  given rows skip p word id plain is same = record {
    turn = rw (plain.dashes, plain.long, plain.short) refl;
    goes = rw (plain.dashes, plain.long, plain.short, is, same) refl;
  }

  pub flagged : (h : Held) (p : ℕ) (word id : Text) → bytes_eq word (45 ∷ 45 ∷ []) ≡ false
      → long_of word ≡ Some (id, None) → arg_by_long s.rules id ≡ Some (flag_rule id)
      → Leads (at h idle p false) word
      (or_else (react_fault s.rules s.args_override_self (flag_rule id) [] h) [])
      (at (reacted s.rules (flag_rule id) [] h) idle p false)
  unfolding clap_on_literals
  flagged h p word id dashes long is = record {
    turn = rw (dashes, long, is) refl;
    goes = rw (dashes, long, is) refl;
  }

  -- a name at its position
  pub settles-first : (b : Bool) (x y : Kinds) → cond (b && false) x y ≡ y
  settles-first true x y = refl
  settles-first false x y = refl

  holds-first : (b : Bool) (x y : Held) → cond (b && false) x y ≡ y
  holds-first true x y = refl
  holds-first false x y = refl

  abbrev pub named_held : Held → Text → Text → Held
  named_held h id word = record (settled s.rules h) { pending = Some (id, word ∷ []) }

  pub named : (h : Held) (p : ℕ) (word id : Text) → PlainWord word → arg_by_index s.rules p ≡ Some (name_rule id p)
      → Leads (at h idle p false) word (settling h) (at (named_held h id word) idle (min (p + 1) usize_max) false)
  unfolding clap_on_literals
  named h p word id plain is = record {
    turn = rw (plain.dashes, plain.long, plain.short, is)
        (settles-first (is_pending (name_rule id p) h.pending) [] (settling h));
    goes = rw (plain.dashes, plain.long, plain.short, is)
        (ap (λ k. at (pushed id word k) idle (min (p + 1) usize_max) false)
        (holds-first (is_pending (name_rule id p) h.pending) h (settled s.rules h)));
  }

  pub behind : (h : Held) (p : ℕ) (word id : Text) → arg_by_index s.rules p ≡ Some (name_rule id p)
      → Leads (at h idle p true) word (settling h) (at (named_held h id word) idle (min (p + 1) usize_max) true)
  unfolding clap_on_literals
  behind h p word id is = record {
    turn = rw is (settles-first (is_pending (name_rule id p) h.pending) [] (settling h));
    goes = rw is
        (ap (λ k. at (pushed id word k) idle (min (p + 1) usize_max) true)
        (holds-first (is_pending (name_rule id p) h.pending) h (settled s.rules h)));
  }
