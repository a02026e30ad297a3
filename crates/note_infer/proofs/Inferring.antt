-- What is inferred: why no notes are found, and what those that are found do.
use Rattle.std.proofs.Common.{◌≡◌, ℕ, ◌<◌, ◌≤◌, Bool, List, [], ◌∷◌, ◌++◌, length, get_or, Option, Some, None, refl, sym, ◌∙◌, subst, arith}
use Rattle.std.proofs.lemmas.Option.{slice_get_within}
use Rattle.gr_base.specs.Prelude.{EachAfter}
use Rattle.lt_isa.specs.declared.symbols.Note.{Note}
use Rattle.lt_isa.specs.declared.instructions.Instr.TheVariants.{Jmp, Br}
use Rattle.lt_isa.specs.Prelude.{Parts, IsInRange, NoteFits, next_place, most_notes}
use Rattle.trace_patterns.specs.Prelude.{Known, claimed_at, known_behind, without_notes, Accepts, FirstRefusal}
use Rattle.note_infer.specs.declared.faults.InferError.{InferError}
use Rattle.note_infer.specs.declared.faults.InferError.TheVariants.{Dead, Refused, TooMany, Memory}
use Rattle.note_infer.specs.Prelude.{LeadsTo, Onward, Past, Branched, Jumped, IsReachable, AtStart, Behind, IsDead, AllReachable, Next, Skips, Branches, Jumps, States, IsLeast, with_notes, IsTarget, OfJump, OfBranch, StandAtTargets, HasLeastNotes, IsWhyNot, WouldDo, NoNotesWouldDo, at_places, HasLeast, HasLast, IsTargetOf, ByJump, ByBranch, claims_at, NothingIsKnown, MarksBelow, NotesBelow, FindsNotes, WhyNoNotes, TellsRefusal}
use Rattle.lt_checker.specs.declared.checks.CheckError.{CheckError}
use Rattle.lt_checker.specs.Prelude.{IsRefusalOf}
use Rattle.note_infer.proofs.LeastAccepted.{reachable_renoted, least_are_accepted}
use Rattle.note_infer.proofs.Once.{least-same, last-once}
use Rattle.lt_checker.specs.declared.checks.CheckError.TheVariants as check

-- where no branch is crossed something is known at each place to which steps lead
known_at : (o : Parts) (states : States) (p : ℕ) → IsLeast o [] states → IsReachable o p
    → (k : Known) × (states p ≡ Some k)
known_at o states p least AtStart = let a = least.closed.start in (a.known, a.is)
known_at o states p least (Behind q p' before leads) =
    let from = known_at o states q least before in
    by from.0 from.1 leads
  where
    by : (k : Known) → states q ≡ Some k → LeadsTo o q p → (j : Known) × (states p ≡ Some j)
    by k e (Onward q' r i at goes to inside) =
        let a = least.closed.ways q p k (known_behind k i) e
        (Next q k p (known_behind k i) i at goes to inside refl) in (a.known, a.is)
    by k e (Past q' r cmp ra rb offset at to inside) =
        let a = least.closed.ways q p k k e (Skips q k p k cmp ra rb offset at refl to inside refl) in (a.known, a.is)
    by k e (Branched q' r cmp ra rb offset at to inside) =
        let a = least.closed.ways q p k k e (Branches q k p k cmp ra rb offset at refl to inside refl) in
        (a.known, a.is)
    by k e (Jumped q' r offset at to inside) =
        let a = least.closed.ways q p k k e (Jumps q k p k offset at to inside refl) in (a.known, a.is)

pub dead_found : (o : Parts) (states : List (Option Known)) (p : ℕ) → HasLeast o [] states → NothingIsKnown states p
    → IsDead o p
dead_found o states p has h = record {
  inside = omega (arith, h.inside, has.size);
  dead = λ r. let k = known_at o (at_places states) p has.least r in
      let f : ◌≡◌ {A = Option Known} None (Some k.0) = sym h.unknown ∙ k.1 in absurd cc;
  lowest = λ q lt. let k = h.lowest q lt in (has.sound q k.0 k.1).reached;
}

pub all_reached : (o : Parts) (states : List (Option Known)) → HasLeast o [] states
    → ((q : ℕ) → q < length states → (k : Known) × (get_or states q None ≡ Some k)) → AllReachable o
all_reached o states has known p lt = let k = known p (omega (arith, lt, has.size)) in (has.sound p k.0 k.1).reached

-- steps lead to the same places for any notes
dead_whole : (o : Parts) (p : ℕ) → IsDead (without_notes o) p → IsDead o p
dead_whole o p h = record {
  inside = h.inside;
  dead = λ r. h.dead (reachable_renoted o [] p r);
  lowest = λ q lt. reachable_renoted (without_notes o) o.notes q (h.lowest q lt);
}

pub why_whole : (o : Parts) (e : InferError) → WhyNoNotes (without_notes o) e → IsWhyNot o e
why_whole o (Dead place) h = dead_whole o place h
why_whole o (Refused pc reason) h = absurd h
why_whole o (TooMany count) h = absurd h
why_whole o Memory h = tt

-- the notes that are found are at the targets
split_target : (o : Parts) (crossed : List ℕ) (states : States) (q : ℕ) → IsTarget o crossed states q
    → (p : ℕ) × (k : Known) × (states p ≡ Some k) × IsTargetOf o crossed p q × (p < length o.code) × (q < length o.code)
split_target o crossed states q (OfJump p q' k offset is at to inside) =
    (p, k, is, ByJump p q offset at to inside, slice_get_within o.code p (Jmp offset) at, inside)
split_target o crossed states q (OfBranch p q' k cmp ra rb offset is at apart to inside) = (
  p,
  k,
  is,
  ByBranch p q cmp ra rb offset at apart to inside,
  slice_get_within o.code p (Br cmp ra rb offset) at,
  inside,
)

pub claims_are : (o : Parts) (notes : List Note) (q : ℕ) → claimed_at (with_notes o notes) q ≡ claims_at notes q
unfolding claimed_at
claims_are o notes q = refl

stands : (o : Parts) (notes : List Note) (f : FindsNotes o notes) → StandAtTargets o f.crossed f.states notes
stands o notes f = record {
  has = λ q k t e. let s = split_target o f.crossed f.states q t in
      claims_are o notes q ∙ f.noted.has q k s.5 (f.marked.all s.0 q s.1 s.4 s.2 s.3) e;
  only = λ q k e. f.marked.only q (f.noted.only q k (sym (claims_are o notes q) ∙ e)).0;
}

rises : (banks : ℕ) (before notes : List Note) → EachAfter (NoteFits banks) before notes
    → EachAfter (λ before n. next_place before ≤ n.pc) before notes
rises banks before [] h = tt
rises banks before (n ∷ notes) h = (h.0.pc.0, rises banks (before ++ n ∷ []) notes h.1)

pub least_found : (o : Parts) (notes : List Note) → FindsNotes (without_notes o) notes → HasLeastNotes o notes
least_found o notes f = record {
  reachable = λ p lt. reachable_renoted (without_notes o) o.notes p (f.reachable p lt);
  listed = record {
    are = record { crossed = f.crossed; states = f.states; last = f.last; stand = stands (without_notes o) notes f };
    rise = rises (length o.banks) [] notes f.noted.fits;
  };
}

pub found_in_range : (o : Parts) (notes : List Note) → FindsNotes (without_notes o) notes → length notes ≤ most_notes
    → IsInRange (with_notes o notes)
found_in_range o notes f few = record {
  profile = f.range.profile;
  bank_count = f.range.bank_count;
  banks = f.range.banks;
  symbol_count = f.range.symbol_count;
  symbols = f.range.symbols;
  note_count = few;
  notes = f.noted.fits;
  code_size = f.range.code_size;
  behind_notes = f.noted.next;
  code = f.range.code;
}

pub bare_in_range : (o : Parts) → IsInRange o → IsInRange (without_notes o)
bare_in_range o r = record {
  profile = r.profile;
  bank_count = r.bank_count;
  banks = r.banks;
  symbol_count = r.symbol_count;
  symbols = r.symbols;
  note_count = omega arith;
  notes = tt;
  code_size = r.code_size;
  behind_notes = omega arith;
  code = r.code;
}

-- the least states are one, and so their targets are
pub same_target : (o : Parts) (crossed : List ℕ) (states others : States) → IsLeast o crossed states
    → IsLeast o crossed others → (q : ℕ) → IsTarget o crossed states q → IsTarget o crossed others q
same_target o crossed states others one two q (OfJump p q' k offset is at to inside) =
    OfJump p q k offset (least-same o crossed states others one two p k is) at to inside
same_target o crossed states others one two q (OfBranch p q' k cmp ra rb offset is at apart to inside) =
    OfBranch p q k cmp ra rb offset (least-same o crossed states others one two p k is) at apart to inside

pub same_stand : (o : Parts) (crossed : List ℕ) (states others : States) (notes : List Note) → IsLeast o crossed states
    → IsLeast o crossed others → StandAtTargets o crossed others notes → StandAtTargets o crossed states notes
same_stand o crossed states others notes one two h = record {
  has = λ q k t e. h.has q k (same_target o crossed states others one two q t)
      (least-same o crossed states others one two q k e);
  only = λ q k e. same_target o crossed others states two one q (h.only q k e);
}

-- where some notes would do the least ones do
pub would_accept : (o : Parts) (notes others : List Note) → FindsNotes (without_notes o) notes → WouldDo o others
    → Accepts (with_notes o notes)
would_accept o notes others f w =
    let bare = without_notes o in
    let same = last-once bare w.crossed f.crossed w.states f.states w.last f.last in
    let least = subst (λ (c : List ℕ). IsLeast bare c f.states) (sym same) f.last.least in
    let stand = subst (λ (c : List ℕ). StandAtTargets bare c f.states notes) (sym same) (stands bare notes f) in
    let some : 0 < length o.code = f.range.code_size.0 in
    least_are_accepted o some others notes w.crossed w.states
    (λ p lt. reachable_renoted bare o.notes p (f.reachable p lt)) w.accepts w.last w.opens
    (same_stand bare w.crossed w.states f.states notes w.last.least least stand)

-- what the check says of the object with the least notes
pub why_refused : (o whole : Parts) (notes : List Note) (error : CheckError) (e : InferError)
    → whole ≡ with_notes o notes
    → FindsNotes (without_notes o) notes → length notes ≤ most_notes → IsRefusalOf whole error → TellsRefusal error e
    → IsWhyNot o e
why_refused o whole notes (check.Refused pc reason object) e is f few h tells =
    subst (IsWhyNot o) (sym tells) (record {
      notes = notes;
      least = least_found o notes f;
      few = few;
      in_range = found_in_range o notes f few;
      refused = subst (λ (a : Parts). FirstRefusal a pc reason) is h.0;
    })
why_refused o whole notes (check.Memory object) e is f few h tells = subst (IsWhyNot o) (sym tells) tt

pub none_would : (o whole : Parts) (notes : List Note) (error : CheckError) (e : InferError)
    → whole ≡ with_notes o notes
    → FindsNotes (without_notes o) notes → IsRefusalOf whole error → TellsRefusal error e → NoNotesWouldDo o e
none_would o whole notes (check.Refused pc reason object) e is f h tells =
    subst (NoNotesWouldDo o) (sym tells)
    (λ others w. h.1 (subst Accepts (sym is) (would_accept o notes others f w)))
none_would o whole notes (check.Memory object) e is f h tells = subst (NoNotesWouldDo o) (sym tells) tt

pub finds : (o : Parts) (crossed : List ℕ) (states : List (Option Known)) (marks : List Bool) (notes : List Note)
    → IsInRange o → AllReachable o → HasLast o crossed states
    → MarksBelow o crossed (at_places states) (length o.code) marks
    → NotesBelow o marks (at_places states) (length o.code) notes → FindsNotes o notes
finds o crossed states marks notes range reachable last marked noted = record {
  range = range;
  reachable = reachable;
  crossed = crossed;
  states = at_places states;
  marks = marks;
  last = last.last;
  marked = marked;
  noted = noted;
}
