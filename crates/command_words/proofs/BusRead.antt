-- Words of many names and of options are read use by use: adjacent names are one use.
use Rattle.std.proofs.Common.{◌≡◌, ◌∙◌, refl, sym, ap, ℕ, Bool, true, false, List, [], ◌∷◌, ◌++◌, Some, None}
use Rattle.std.specs.Prelude.{codes}
use Rattle.std.specs.Str.{bytes_eq}
use Rattle.clap.specs.Kinds.{Kinds, or_else}
use Rattle.clap.specs.Walk.{Held, Row, Text, Walk, idle, is_pending, positional, reacted, settled, arg_by_id, arg_by_index}
use Rattle.clap.specs.Simple.{Shape}
use Rattle.clap.specs.Faults.{walk_fault}
use Rattle.command_words.specs.Prelude.{AFlag, AName, AnOption, Apart, Behind, Ended, Flagged, IsAmong, IsLine, IsPlain, Joined, Named, Part}
use Rattle.command_words.proofs.BusWalks.{AreAlike, Eased, end-alike, goes-on, goes-on-behind, names_rule, starts, starts-behind, wrong-alike}
use Rattle.command_words.proofs.WordLooks.{long-joined}
use Rattle.command_words.proofs.WordWalks.{Leads, at, dashed, hold, joined, last, led-last, led-wrong, named_held, option_rule, or-nil, plain-word, settling, wrong}
use Rattle.command_words.proofs.WordsRead.{Table, Use, Walks, all_names, alone, by-apart, by-use, long-isn't-dashes, to-pending, use_of, same-text, uses_rows, uses_wrong}

module _ (id : Text) where
  abbrev mutual
    -- what parts use
    pub runs : List Part → List Use
    runs [] = []
    runs (AName name ∷ parts) = within (name ∷ []) parts
    runs (AnOption name value ∷ parts) = use_of (option_rule name) (value ∷ []) ∷ runs parts
    runs (AFlag flag ∷ parts) = runs parts

    -- and what they use after names that they may continue
    pub within : List Text → List Part → List Use
    within names [] = use_of (names_rule id) names ∷ []
    within names (AName name ∷ parts) = within (names ++ name ∷ []) parts
    within names (AnOption name value ∷ parts) =
        use_of (names_rule id) names ∷ use_of (option_rule name) (value ∷ []) ∷ runs parts
    within names (AFlag flag ∷ parts) = use_of (names_rule id) names ∷ runs parts

module _ (s : Shape) (id : Text) (index : arg_by_index s.rules 1 ≡ Some (names_rule id))
    (by_id : arg_by_id s.rules id ≡ Some (names_rule id)) where
  -- from names on, that are pending
  pub record GoesOn (w : Walk) (rows : List Row) (words : List Text) (us : List Use) : Type 0 where
    pub faults : wrong s w words ≡ uses_wrong s rows us
    pub rows_are : (settled s.rules (last s w words).held).rows ≡ uses_rows s rows us
    pub goes_on : (last s w words).stopped ≡ None

  abbrev pub with_names : List Row → List Text → ℕ → Bool → Walk
  with_names rows names skip trailing = at s (hold s rows (Some (id, names)) skip) idle 1 trailing

  -- what follows the names is walked over
  settled-first : (rows : List Row) (names : List Text) (skip : ℕ) (trailing : Bool) (words : List Text) (us : List Use)
      → Walks s (with_names rows names skip trailing) words us
      → GoesOn (with_names rows names skip trailing) rows words (use_of (names_rule id) names ∷ us)
  settled-first rows names skip trailing words us walks =
      let both =
      to-pending s (with_names rows names skip trailing) words (names_rule id) id names rows skip us refl by_id walks in
      record { faults = both.0; rows_are = both.1; goes_on = walks.goes_on }

  -- one name, and what follows
  by-next : (w : Walk) (word : Text) (words : List Text) (faults : Kinds) (rows : List Row) (names : List Text) (skip : ℕ)
      (trailing : Bool) (us : List Use)
      → Leads s w word faults (at s (hold s rows (Some (id, names)) skip) positional 1 trailing)
      → GoesOn (with_names rows names skip trailing) rows words us
      → (wrong s w (word ∷ words) ≡ or_else faults (uses_wrong s rows us))
      × ((settled s.rules (last s w (word ∷ words)).held).rows ≡ uses_rows s rows us)
      × ((last s w (word ∷ words)).stopped ≡ None)
  by-next w word words faults rows names skip trailing us leads rest =
      let held = hold s rows (Some (id, names)) skip in
      let alike : AreAlike (at s held positional 1 trailing) (at s held idle 1 trailing) = Eased held 1 trailing None in
      let ends = end-alike s words _ _ alike in
      let comes : last s w (word ∷ words) ≡ last s (at s held positional 1 trailing) words =
      led-last s w (at s held positional 1 trailing) word words faults leads in (
        led-wrong s w (at s held positional 1 trailing) word words faults leads
            ∙ ap (or_else faults) (wrong-alike s words _ _ alike ∙ rest.faults),
        ap (λ (v : Walk). (settled s.rules v.held).rows) comes
            ∙ ap (λ (h : Held). (settled s.rules h).rows) ends.held ∙ rest.rows_are,
        ap (λ (v : Walk). v.stopped) comes ∙ ends.stopped ∙ rest.goes_on,
      )

  by-first : (h : Held) (word : Text) (words : List Text) (trailing : Bool) (us : List Use)
      → Leads s (at s h idle 1 trailing) word (settling s h) (at s (named_held s h id word) positional 1 trailing)
      → GoesOn (with_names (settled s.rules h).rows (word ∷ []) h.skip trailing) (settled s.rules h).rows words us
      → Walks s (at s h idle 1 trailing) (word ∷ words) us
  by-first h word words trailing us leads rest =
      let so =
      by-next (at s h idle 1 trailing) word words (settling s h) (settled s.rules h).rows (word ∷ []) h.skip trailing us
      leads rest in
      record { faults = so.0; rows = so.1; goes_on = so.2 }

  by-more : (rows : List Row) (names : List Text) (skip : ℕ) (word : Text) (words : List Text) (trailing : Bool)
      (us : List Use)
      → Leads s (with_names rows names skip trailing) word []
      (at s (hold s rows (Some (id, names ++ word ∷ [])) skip) positional 1 trailing)
      → GoesOn (with_names rows (names ++ word ∷ []) skip trailing) rows words us
      → GoesOn (with_names rows names skip trailing) rows (word ∷ words) us
  by-more rows names skip word words trailing us leads rest =
      let so =
      by-next (with_names rows names skip trailing) word words [] rows (names ++ word ∷ []) skip trailing us leads rest
      in
      record { faults = so.0; rows_are = so.1; goes_on = so.2 }

  nothing-more : (h : Held) (trailing : Bool) → Walks s (at s h idle 1 trailing) [] []
  unfolding walk_fault
  nothing-more h trailing = record { faults = sym (or-nil (settling s h)); rows = refl; goes_on = refl }

  -- names after `--`
  more-behind : (words : List Text) (rows : List Row) (names : List Text) (skip : ℕ)
      → GoesOn (with_names rows names skip true) rows words (within id names (all_names words))
  more-behind [] rows names skip =
      settled-first rows names skip true [] [] (nothing-more (hold s rows (Some (id, names)) skip) true)
  more-behind (word ∷ words) rows names skip =
      by-more rows names skip word words true _ (goes-on-behind s id index rows id names skip word (same-text id))
      (more-behind words rows (names ++ word ∷ []) skip)

  names-behind : (words : List Text) (h : Held) → is_pending (names_rule id) h.pending ≡ false
      → Walks s (at s h idle 1 true) words (runs id (all_names words))
  names-behind [] h other = nothing-more h true
  names-behind (word ∷ words) h other =
      by-first h word words true _ (starts-behind s id index h word other)
      (more-behind words (settled s.rules h).rows (word ∷ []) h.skip)

  behind-comes : (h : Held) (words : List Text)
      → last s (at s h idle 1 false) (codes "--" ∷ words) ≡ last s (at s h idle 1 true) words
  behind-comes h words =
      led-last s (at s h idle 1 false) (at s h idle 1 true) (45 ∷ 45 ∷ []) words [] (dashed s h idle 1)

  behind-wrong : (h : Held) (words : List Text)
      → wrong s (at s h idle 1 false) (codes "--" ∷ words) ≡ wrong s (at s h idle 1 true) words
  behind-wrong h words =
      led-wrong s (at s h idle 1 false) (at s h idle 1 true) (45 ∷ 45 ∷ []) words [] (dashed s h idle 1)

  behind-dashes : (h : Held) (words : List Text) (us : List Use) → Walks s (at s h idle 1 true) words us
      → Walks s (at s h idle 1 false) (codes "--" ∷ words) us
  behind-dashes h words us rest = record {
    faults = behind-wrong h words ∙ rest.faults;
    rows = ap (λ (w : Walk). (settled s.rules w.held).rows) (behind-comes h words) ∙ rest.rows;
    goes_on = ap (λ (w : Walk). w.stopped) (behind-comes h words) ∙ rest.goes_on;
  }

  going-behind : (rows : List Row) (names : List Text) (skip : ℕ) (words : List Text) (us : List Use)
      → GoesOn (with_names rows names skip true) rows words us
      → GoesOn (with_names rows names skip false) rows (codes "--" ∷ words) us
  going-behind rows names skip words us rest =
      let h = hold s rows (Some (id, names)) skip in
      record {
        faults = behind-wrong h words ∙ rest.faults;
        rows_are = ap (λ (w : Walk). (settled s.rules w.held).rows) (behind-comes h words) ∙ rest.rows_are;
        goes_on = ap (λ (w : Walk). w.stopped) (behind-comes h words) ∙ rest.goes_on;
      }

  module _ (options : List Text) (table : Table s options [])
      (other : (x : Text) → IsAmong options x → bytes_eq x id ≡ false) where
    walk-joined : (name value : Text) (words : List Text) (us : List Use) → IsAmong options name
        → ((h : Held) → is_pending (names_rule id) h.pending ≡ false → Walks s (at s h idle 1 false) words us) → (h : Held)
        → Walks s (at s h idle 1 false) ((codes "--" ++ (name ++ (codes "=" ++ value))) ∷ words)
        (use_of (option_rule name) (value ∷ []) ∷ us)
    walk-joined name value words us among rest h =
        let known = table.an_option name among in
        let word = codes "--" ++ (name ++ (codes "=" ++ value)) in
        let long = long-joined name value known.lacks in
        by-use s h 1 word words (option_rule name) (value ∷ []) us
        (joined s h 1 word name value (long-isn't-dashes s word (name, Some value) long) long known.long)
        (rest (reacted s.rules (option_rule name) (value ∷ []) h) refl)

    walk-apart : (name value : Text) (words : List Text) (us : List Use) → IsAmong options name → IsPlain value
        → ((h : Held) → is_pending (names_rule id) h.pending ≡ false → Walks s (at s h idle 1 false) words us) → (h : Held)
        → Walks s (at s h idle 1 false) ((codes "--" ++ name) ∷ value ∷ words)
        (use_of (option_rule name) (value ∷ []) ∷ us)
    walk-apart name value words us among plain rest h =
        let known = table.an_option name among in
        let long = alone s name known.lacks known.some in
        let word = codes "--" ++ name in
        by-apart s h 1 word name value words us (long-isn't-dashes s word (name, None) long) long known plain
        (rest (hold s (settled s.rules h).rows (Some (name, value ∷ [])) h.skip) (other name among))

    mutual
      -- the words of a line, if the last word wasn't a name, and after names
      pub walks-runs : (words : List Text) (parts : List Part) → IsLine options [] words parts → (h : Held)
          → is_pending (names_rule id) h.pending ≡ false → Walks s (at s h idle 1 false) words (runs id parts)
      walks-runs words parts Ended h free = nothing-more h false
      walks-runs words parts (Named word words' parts' plain line) h free =
          by-first h word words' false _ (starts s id index h word (plain-word word plain) free)
          (walks-within words' parts' line (settled s.rules h).rows (word ∷ []) h.skip)
      walks-runs words parts (Joined name value words' parts' among line) h free =
          walk-joined name value words' _ among (λ k other. walks-runs words' parts' line k other) h
      walks-runs words parts (Apart name value words' parts' among plain line) h free =
          walk-apart name value words' _ among plain (λ k other. walks-runs words' parts' line k other) h
      walks-runs words parts (Flagged name words' parts' among line) h free = absurd among
      walks-runs words parts (Behind words') h free = behind-dashes h words' _ (names-behind words' h free)

      pub walks-within : (words : List Text) (parts : List Part) → IsLine options [] words parts → (rows : List Row)
          (names : List Text) (skip : ℕ) → GoesOn (with_names rows names skip false) rows words (within id names parts)
      walks-within words parts Ended rows names skip =
          settled-first rows names skip false [] [] (nothing-more (hold s rows (Some (id, names)) skip) false)
      walks-within words parts (Named word words' parts' plain line) rows names skip =
          by-more rows names skip word words' false _
          (goes-on s id index rows id names skip word (plain-word word plain) (same-text id))
          (walks-within words' parts' line rows (names ++ word ∷ []) skip)
      walks-within words parts (Joined name value words' parts' among line) rows names skip =
          settled-first rows names skip false _ _
          (walk-joined name value words' _ among (λ k other. walks-runs words' parts' line k other)
          (hold s rows (Some (id, names)) skip))
      walks-within words parts (Apart name value words' parts' among plain line) rows names skip =
          settled-first rows names skip false _ _
          (walk-apart name value words' _ among plain (λ k other. walks-runs words' parts' line k other)
          (hold s rows (Some (id, names)) skip))
      walks-within words parts (Flagged name words' parts' among line) rows names skip = absurd among
      walks-within words parts (Behind words') rows names skip =
          going-behind rows names skip words' _ (more-behind words' rows names skip)
