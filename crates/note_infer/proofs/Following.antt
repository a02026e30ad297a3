-- A place is looked at: what its ways carry is brought to their ends, one after another.
use Rattle.std.proofs.Common.{◌≡◌, ℕ, ◌+◌, ◌*◌, ◌<◌, ◌≤◌, List, [], ◌∷◌, ◌++◌, length, get_or, set, ◌⊎◌, inl, inr, Option, Some, None, refl, sym, ap, ◌∙◌, subst, ⊎_elim, arith, get_or-set_same, get_or-set_other, length-set}
use Rattle.std.proofs.lemmas.Bool.{cases_eq}
use Rattle.lt_isa.specs.Prelude.{Parts, IsInRange}
use Rattle.trace_patterns.specs.Prelude.{Known, FitsClaim}
use Rattle.note_infer.specs.Prelude.{PublicWay, IsAtLeast, IsFull, IsRaisedTo, IsUnderWay, at_places, Brings, Enough, More, all_room, Waits, Looks, IsSoundAt, AllSound}
use Rattle.note_infer.proofs.Lower.{lower-fits, lower-own}
use Rattle.note_infer.proofs.Tight.{fits-then}
use Rattle.note_infer.proofs.UnderWay.{under_way-left}
use Rattle.note_infer.proofs.Brought.{waits-last, waits-end, waits-more, under_way_waits, brings-under_way, brings-room}
use Rattle.note_infer.proofs.Sound.{way-sound, brings-sound}
use Rattle.note_infer.proofs.Rooms.{raise_room}

-- what is brought is there then, and what was at least this stays so
module _ (before : List (Option Known)) (stack : List ℕ) (place : ℕ) (next : Known)
    (inside : place < length before) (full : IsFull next) where
  raised_fits : (old : Option Known) (high : Known) → IsRaisedTo old next (Some high) → FitsClaim next high
  raised_fits None high e = subst (FitsClaim next) (sym e) (lower-fits next next (lower-own next full))
  raised_fits (Some old) high h = h.0.second

  enough_there : (old : Option Known) → get_or before place None ≡ old → IsRaisedTo old next None
      → IsAtLeast (at_places before) place next
  enough_there None e h = absurd h
  enough_there (Some old) e h = record { known = old; is = e; above = h }

  pub brings-there : (after : List (Option Known)) (rest : List ℕ) → Brings before stack place next after rest
      → IsAtLeast (at_places after) place next
  brings-there after rest (Enough h) = enough_there (get_or before place None) refl h
  brings-there after rest (More high h) = record {
    known = high;
    is = get_or-set_same before place (Some high) None inside;
    above = raised_fits (get_or before place None) high h;
  }

  old_fits : (old : Option Known) (k high : Known) → old ≡ Some k → IsRaisedTo old next (Some high) → FitsClaim k high
  old_fits None k high e h = absurd (let f : ◌≡◌ {A = Option Known} None (Some k) = e in cc)
  old_fits (Some old) k high e h = let same : old ≡ k = cc in subst (λ (x : Known). FitsClaim x high) same h.0.first

  pub brings-keeps : (after : List (Option Known)) (rest : List ℕ) → Brings before stack place next after rest →
      (x : ℕ) (low : Known)
      → IsAtLeast (at_places before) x low → IsAtLeast (at_places after) x low
  brings-keeps after rest (Enough h) x low a = a
  brings-keeps after rest (More high h) x low a =
      ⊎_elim
      (λ (e : x ≡ place). record {
        known = high;
        is = ap (λ (y : ℕ). get_or (set before place (Some high)) y None) e
            ∙ get_or-set_same before place (Some high) None inside;
        above = fits-then low a.known high a.above
            (old_fits (get_or before place None) a.known high
            (ap (λ (y : ℕ). get_or before y None) (sym e) ∙ a.is) h);
      })
      (λ (ne : x ≡ place → ⊥). record {
        known = a.known;
        is = get_or-set_other before place x (Some high) None ne ∙ a.is;
        above = a.above;
      })
      (cases_eq x place)

  -- what is known at a place stays, or the place waits
  pub brings-same : (after : List (Option Known)) (rest : List ℕ) → Brings before stack place next after rest →
      (x : ℕ) → (at_places after x ≡ at_places before x) ⊎ Waits rest x
  brings-same after rest (Enough h) x = inl refl
  brings-same after rest (More high h) x =
      ⊎_elim
      (λ (e : x ≡ place). inr (subst (Waits (stack ++ place ∷ [])) (sym e) (waits-end stack place)))
      (λ (ne : x ≡ place → ⊥). inl (get_or-set_other before place x (Some high) None ne))
      (cases_eq x place)

  pub brings-waits : (after : List (Option Known)) (rest : List ℕ) → Brings before stack place next after rest →
      (x : ℕ) → Waits stack x → Waits rest x
  brings-waits after rest (Enough h) x w = w
  brings-waits after rest (More high h) x w = waits-more stack place x w

  pub brings-inside : (after : List (Option Known)) (rest : List ℕ) → Brings before stack place next after rest →
      (x : ℕ) → Waits rest x → Waits stack x ⊎ (x ≡ place)
  brings-inside after rest (Enough h) x w = inl w
  brings-inside after rest (More high h) x w = waits-last stack place x w

  pub brings-size : (after : List (Option Known)) (rest : List ℕ) → Brings before stack place next after rest
      → length after ≡ length before
  brings-size after rest (Enough h) = refl
  brings-size after rest (More high h) = length-set before place (Some high)

-- What a place's ways carry is brought to some of their ends, one after another.
pub data Follows (o : Parts) (crossed : List ℕ) (place : ℕ) (k : Known) (before : List (Option Known)) (stack : List ℕ)
    : List (Option Known) → List ℕ → Type 0 where
  Nowhere : Follows o crossed place k before stack before stack
  Further : (mid : List (Option Known)) (between : List ℕ) (q : ℕ) (next : Known) (after : List (Option Known))
      (rest : List ℕ)
      → Follows o crossed place k before stack mid between → PublicWay o crossed place k q next → IsFull next
      → q < length before → Brings mid between q next after rest
      → Follows o crossed place k before stack after rest

module _ (o : Parts) (crossed : List ℕ) (place : ℕ) (k : Known) (before : List (Option Known)) (stack : List ℕ)
    (own : IsAtLeast (at_places before) place k) (full : IsFull k) where
  pub record Followed (after : List (Option Known)) (rest : List ℕ) : Type 0 where
    pub size : length after ≡ length before
    pub room : all_room after * 2 + length rest ≤ all_room before * 2 + length stack
    pub keeps : (x : ℕ) (low : Known) → IsAtLeast (at_places before) x low → IsAtLeast (at_places after) x low
    pub same : (x : ℕ) → (at_places after x ≡ at_places before x) ⊎ Waits rest x
    pub waits : (x : ℕ) → Waits stack x → Waits rest x
    pub inside : (x : ℕ) → Waits rest x → Waits stack x ⊎ (x < length before)
    pub under_way : IsUnderWay o crossed (at_places before) (λ x. Waits stack x ⊎ (x ≡ place))
        → IsUnderWay o crossed (at_places after) (λ x. Waits rest x ⊎ (x ≡ place))
    pub sound : IsInRange o → IsSoundAt o place k → AllSound o before → AllSound o after

  pub follows-followed : (after : List (Option Known)) (rest : List ℕ)
      → Follows o crossed place k before stack after rest
      → Followed after rest
  follows-followed after rest Nowhere = record {
    size = refl;
    room = omega arith;
    keeps = λ x low a. a;
    same = λ x. inl refl;
    waits = λ x w. w;
    inside = λ x w. inl w;
    under_way = λ u. u;
    sound = λ range here all. all;
  }
  follows-followed after rest (Further mid between q next a r before_this way next_full inside brings) =
      let h = follows-followed mid between before_this in
      let within : q < length mid = omega (arith, h.size) in
      record {
        size = brings-size mid between q next within next_full after rest brings ∙ h.size;
        room = omega (
          arith,
          h.room,
          brings-room mid between q next after rest brings within
              (λ high r. raise_room (get_or mid q None) next high next_full r),
        );
        keeps = λ x low l. brings-keeps mid between q next within next_full after rest brings x low (h.keeps x low l);
        same = λ x. stays x (h.same x) (brings-same mid between q next within next_full after rest brings x)
            (brings-waits mid between q next within next_full after rest brings x);
        waits = λ x w. brings-waits mid between q next within next_full after rest brings x (h.waits x w);
        inside = λ x w. fits x (h.inside x) (brings-inside mid between q next within next_full after rest brings x w);
        under_way = λ u. under_way_waits o crossed (at_places after) (λ x. (Waits between x ⊎
            (x ≡ place)) ⊎ Waits rest x)
            (λ x. Waits rest x ⊎ (x ≡ place))
            (λ x w. more x w (brings-waits mid between q next within next_full after rest brings x))
            (brings-under_way o crossed mid between q next after rest (λ x. Waits between x ⊎
            (x ≡ place)) place k brings
            within next_full (h.under_way u) full (h.keeps place k own) way);
        sound = λ range here all. brings-sound o mid between q next after rest within brings
            (way-sound o crossed place k q next range way here) (h.sound range here all);
      }
    where
      stays : (x : ℕ) → (at_places mid x ≡ at_places before x) ⊎ Waits between x
          → (at_places after x ≡ at_places mid x) ⊎ Waits rest x → (Waits between x → Waits rest x)
          → (at_places after x ≡ at_places before x) ⊎ Waits rest x
      stays x (inl e) (inl f) w = inl (f ∙ e)
      stays x (inr v) f w = inr (w v)
      stays x (inl e) (inr v) w = inr v

      fits : (x : ℕ) → (Waits between x → Waits stack x ⊎ (x < length before)) → Waits between x ⊎ (x ≡ q)
          → Waits stack x ⊎ (x < length before)
      fits x f (inl w) = f w
      fits x f (inr e) = inr (omega arith)

      more : (x : ℕ) → (Waits between x ⊎ (x ≡ place)) ⊎ Waits rest x → (Waits between x → Waits rest x)
          → Waits rest x ⊎ (x ≡ place)
      more x (inl (inl w)) f = inl (f w)
      more x (inl (inr e)) f = inr e
      more x (inr w) f = inl w

  -- where all ways were followed the place was looked at
  pub looked : (after : List (Option Known)) (rest : List ℕ) → Follows o crossed place k before stack after rest
      → place < length before → at_places before place ≡ Some k
      → ((q : ℕ) (next : Known) → PublicWay o crossed place k q next → IsAtLeast (at_places after) q next)
      → Looks o crossed place before stack after rest
  looked after rest follows within is ends =
      let h = follows-followed after rest follows in
      record {
        size = h.size;
        room = h.room;
        inside = λ old x w. by x old (h.inside x w);
        under_way = λ u. under_way-left o crossed (at_places after) (λ x. Waits rest x ⊎ (x ≡ place)) (Waits rest) place
            (h.under_way u) swap (λ q j next e way. done (h.same place) q j next e way);
        sound = λ range all. h.sound range (all place k is) all;
        waits = h.waits;
        same = h.same;
      }
    where
      by : (x : ℕ) → ((y : ℕ) → Waits stack y → y < length before) → Waits stack x ⊎ (x < length before)
          → x < length before
      by x old (inl w) = old x w
      by x old (inr lt) = lt

      swap : (x : ℕ) → Waits rest x ⊎ (x ≡ place) → (x ≡ place) ⊎ Waits rest x
      swap x (inl w) = inr w
      swap x (inr e) = inl e

      done : (at_places after place ≡ at_places before place) ⊎ Waits rest place → (q : ℕ) (j next : Known)
          → at_places after place ≡ Some j → PublicWay o crossed place j q next
          → IsAtLeast (at_places after) q next ⊎ Waits rest place
      done (inr w) q j next e way = inr w
      done (inl same) q j next e way =
          let f : ◌≡◌ {A = Option Known} (Some j) (Some k) = sym e ∙ same ∙ is in
          let g : j ≡ k = cc in
          inl (ends q next (subst (λ (x : Known). PublicWay o crossed place x q next) g way))
