-- The events and the cycles of patterns, in a run that entered a region in a given state.
use Rattle.std.proofs.Common.{◌≡◌, ℕ, ◌+◌, ◌≤◌, List, [], ◌∷◌, ◌++◌, refl, sym, ap, ◌∙◌, arith, add_assoc}
use Rattle.std.proofs.lemmas.List.{append-nil}
use Rattle.lt_isa.specs.Prelude.{Parts, latency_of, State, Observed, block_at, access_start, Stamped, seen_at}
use Rattle.lt_isa.proofs.Windows.{access_start-least}
use Rattle.symbolic_values.specs.Prelude.{as_number, value_of}
use Rattle.trace_patterns.specs.Prelude.{Shown, joined, joined_parts, TreeEvent, RamRead, EncRead, EncWrite, Oram, gap}
use Rattle.lt_isa.specs.Machine as seen

-- what an event shows
abbrev pub shown_by : State → TreeEvent → Observed
shown_by e (RamRead block) = seen.RamRead (as_number (value_of e block)) (block_at e 0 (as_number (value_of e block)))
shown_by e (EncRead block) = seen.EncRead (as_number (value_of e block))
shown_by e (EncWrite block) = seen.EncWrite (as_number (value_of e block))
shown_by e (Oram bank) = seen.Oram bank

-- the bank that an event accesses
abbrev pub accessed_bank : TreeEvent → ℕ
accessed_bank (RamRead block) = 0
accessed_bank (EncRead block) = 1
accessed_bank (EncWrite block) = 1
accessed_bank (Oram bank) = bank

-- the cycle after an event, with the gap before it
abbrev pub behind_event : Parts → ℕ → ℕ × TreeEvent → ℕ
behind_event o cycle part = access_start o.profile (cycle + part.0) + latency_of o (accessed_bank part.1)

-- the events of a pattern that begins at a cycle, each with its stamp, and the cycle at its end
abbrev pub played : Parts → State → ℕ → List (ℕ × TreeEvent) → List Stamped
played o e cycle [] = []
played o e cycle (part ∷ parts) =
    seen_at (access_start o.profile (cycle + part.0)) (shown_by e part.1) ∷ played o e (behind_event o cycle part) parts

abbrev pub behind : Parts → ℕ → List (ℕ × TreeEvent) → ℕ
behind o cycle [] = cycle
behind o cycle (part ∷ parts) = behind o (behind_event o cycle part) parts

-- the cycle after a pattern
abbrev pub ends : Parts → ℕ → Shown TreeEvent → ℕ
ends o cycle p = behind o cycle p.parts + p.last

-- two lists of parts in sequence
pub played-append : (o : Parts) (e : State) (cycle : ℕ) (ps qs : List (ℕ × TreeEvent))
    → played o e cycle (ps ++ qs) ≡ played o e cycle ps ++ played o e (behind o cycle ps) qs
played-append o e cycle [] qs = refl
played-append o e cycle (part ∷ ps) qs =
    ap (λ (l : List Stamped). seen_at (access_start o.profile (cycle + part.0)) (shown_by e part.1) ∷ l)
    (played-append o e (behind_event o cycle part) ps qs)

pub behind-append : (o : Parts) (cycle : ℕ) (ps qs : List (ℕ × TreeEvent))
    → behind o cycle (ps ++ qs) ≡ behind o (behind o cycle ps) qs
behind-append o cycle [] qs = refl
behind-append o cycle (part ∷ ps) qs = behind-append o (behind_event o cycle part) ps qs

-- a first gap that is longer is a later beginning
played-wider : (o : Parts) (e : State) (cycle more : ℕ) (part : ℕ × TreeEvent) (parts : List (ℕ × TreeEvent))
    → played o e cycle ((more + part.0, part.1) ∷ parts) ≡ played o e (cycle + more) (part ∷ parts)
played-wider o e cycle more part parts =
    ap (λ (at : ℕ). seen_at (access_start o.profile at) (shown_by e part.1) ∷ played o e
    (access_start o.profile at + latency_of o (accessed_bank part.1)) parts) (sym (add_assoc cycle more part.0))

behind-wider : (o : Parts) (cycle more : ℕ) (part : ℕ × TreeEvent) (parts : List (ℕ × TreeEvent))
    → behind o cycle ((more + part.0, part.1) ∷ parts) ≡ behind o (cycle + more) (part ∷ parts)
behind-wider o cycle more part parts =
    ap (λ (at : ℕ). behind o (access_start o.profile at + latency_of o (accessed_bank part.1)) parts)
    (sym (add_assoc cycle more part.0))

-- two patterns in sequence
pub played-joined : (o : Parts) (e : State) (cycle : ℕ) (p q : Shown TreeEvent)
    → played o e cycle (joined p q).parts ≡ played o e cycle p.parts ++ played o e (ends o cycle p) q.parts
played-joined o e cycle p q = by q.parts q.last
  where
    by : (parts : List (ℕ × TreeEvent)) (last : ℕ)
        → played o e cycle (joined_parts p parts last).parts ≡ played o e cycle p.parts ++ played o e
        (ends o cycle p) parts
    by [] last = sym (append-nil (played o e cycle p.parts))
    by (part ∷ parts) last =
        played-append o e cycle p.parts ((p.last + part.0, part.1) ∷ parts)
        ∙ ap (λ (l : List Stamped). played o e cycle p.parts ++ l)
        (played-wider o e (behind o cycle p.parts) p.last part parts)

-- the cycle after two patterns
pub ends-joined : (o : Parts) (cycle : ℕ) (p q : Shown TreeEvent)
    → ends o cycle (joined p q) ≡ ends o (ends o cycle p) q
ends-joined o cycle p q = by q.parts q.last
  where
    by : (parts : List (ℕ × TreeEvent)) (last : ℕ)
        → ends o cycle (joined_parts p parts last) ≡ behind o (ends o cycle p) parts + last
    by [] last = omega arith
    by (part ∷ parts) last =
        ap (λ (c : ℕ). c + last)
        (behind-append o cycle p.parts ((p.last + part.0, part.1) ∷ parts)
        ∙ behind-wider o (behind o cycle p.parts) p.last part parts)

-- a pattern ends no earlier than it begins
behind-least : (o : Parts) (cycle : ℕ) (parts : List (ℕ × TreeEvent)) → cycle ≤ behind o cycle parts
behind-least o cycle [] = omega arith
behind-least o cycle (part ∷ parts) =
    let rest = behind-least o (behind_event o cycle part) parts in
    let start = access_start-least o.profile (cycle + part.0) in
    omega arith

-- a pattern takes at least its last gap
pub ends-least : (o : Parts) (cycle : ℕ) (p : Shown TreeEvent) → cycle + p.last ≤ ends o cycle p
ends-least o cycle p = omega (arith, behind-least o cycle p.parts)

-- cycles without an event
pub ends-gap : (o : Parts) (cycle n : ℕ) → ends o cycle (gap n) ≡ cycle + n
ends-gap o cycle n = omega arith
