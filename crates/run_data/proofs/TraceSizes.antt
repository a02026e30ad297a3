-- The number of a line that breaks a trace is no greater than the number of the text's bytes, or is 1.
use Rattle.std.proofs.Common.{◌≡◌, ℕ, ◌+◌, ◌<◌, ◌≤◌, Bool, true, false, cond, eqb, bytes_eq, ⊎_elim, ◌⊎◌, inl, inr, List, [], ◌∷◌, ◌++◌, length, get_or, take, Some, sym, ap, ◌∙◌, subst, arith, decimal, length-append}
use Rattle.std.specs.List.{slice_split, onto_first}
use Rattle.std.proofs.lemmas.Bool.{cases_lt, eqb-false}
use Rattle.std.proofs.lemmas.List.{get_or-take}
use Rattle.std.proofs.lemmas.List.Splits.{length-slice_split}
use Rattle.std.proofs.lemmas.List.Sums.{count_by-le-length}
use Rattle.std.proofs.lemmas.Slice.Eq.{bytes_eq-Decides}
use Rattle.lt_isa.specs.Prelude.{Observed, Stamped}
use Rattle.run_data.specs.Prelude.{line_of, ending_text, event_text, front_parts, AreRead, RunStops, break_of}
use Rattle.run_data.proofs.TraceEnds.{broken-if, length-front, front-at}

length-onto_first : (byte : ℕ) (parts : List (List ℕ))
    → 1 ≤ length parts → length (onto_first byte parts) ≡ length parts
length-onto_first byte [] some = absurd (omega arith)
length-onto_first byte (part ∷ parts) some = omega arith

few-if : (b : Bool) (byte : ℕ) (parts : List (List ℕ))
    → 1 ≤ length parts → 0 < length (get_or (cond b ([] ∷ parts) (onto_first byte parts)) 0 [])
    → length (cond b ([] ∷ parts) (onto_first byte parts)) ≡ length parts
few-if true byte parts some first = absurd (omega arith)
few-if false byte parts some first = length-onto_first byte parts some

few-parts : (text : List ℕ) → 0 < length (get_or (slice_split (λ byte. eqb byte 10) text) 0 [])
    → length (slice_split (λ byte. eqb byte 10) text) ≤ length text
few-parts [] first = absurd (omega arith)
few-parts (byte ∷ text) first =
    let rest = slice_split (λ b. eqb b 10) text in
    let count = length-slice_split (λ b. eqb b 10) text in
    let below = count_by-le-length (λ b. eqb b 10) text in
    omega (arith, few-if (eqb byte 10) byte rest (omega arith) first)

line_some : (stamp : ℕ) (event : Observed) → 0 < length (line_of stamp event)
line_some stamp event =
    omega (arith, length-append (decimal stamp ++ 32 ∷ []) (event_text event), length-append (decimal stamp) (32 ∷ []))

end_some : (halted : Bool) → 0 < length (ending_text halted)
end_some true = omega arith
end_some false = omega arith

first_some : (size least : ℕ) (lines : List (List ℕ)) (events : List Stamped) (halts : Bool)
    → AreRead size (take (length events) lines) events halts least → 0 < length events → 0 < length (get_or lines 0 [])
first_some size least lines [] halts read some = absurd (omega arith)
first_some size least lines (s ∷ events) halts read some =
    let first : get_or lines 0 [] ≡ line_of s.stamp s.event =
    sym (get_or-take (length (s ∷ events)) lines 0 [] some) ∙ ap (λ l. get_or l 0 []) read.read in
    subst (λ line. 0 < length line) (sym first) (line_some s.stamp s.event)

first_part : (size : ℕ) (parts : List (List ℕ)) (events : List Stamped) (halts : Bool)
    → RunStops size (front_parts parts) events halts → 0 < length events → 0 < length (get_or parts 0 [])
first_part size parts events halts run some =
    subst (λ part. 0 < length part) (front-at parts 0 (omega (arith, run.within, length-front parts)))
    (first_some size run.least (front_parts parts) events halts run.read some)

-- the first part holds something where the number is above 1
number_small : (size : ℕ) (parts : List (List ℕ)) (events : List Stamped) (halts : Bool) (m : ℕ)
    → 1 ≤ length parts → RunStops size (front_parts parts) events halts → break_of parts (length events) halts ≡ Some m
    → (m ≤ 1) ⊎ ((m ≤ length parts) × (0 < length (get_or parts 0 [])))
number_small size parts events halts m some run is =
    let n = length events in
    let count = length-front parts in
    let inside = run.within in
    let next = λ (m_is : n + 1 ≡ m).
    ⊎_elim {C = (m ≤ 1) ⊎ ((m ≤ length parts) × (0 < length (get_or parts 0 [])))}
    (λ read. inr (omega arith, first_part size parts events halts run read))
    (λ none. inl (omega arith))
    (cases_lt 0 n) in
    ⊎_elim (λ last. next last.0)
    (⊎_elim (λ line. next line.0)
    (λ behind.
    let apart = eqb-false (n + 1) (length parts) behind.1 in
    inr (
      omega arith,
      ⊎_elim
          (λ read. first_part size parts events halts run read)
          (λ none.
          let first : get_or parts 0 [] ≡ ending_text halts =
          ap (λ i. get_or parts i []) (let e : 0 ≡ n = omega arith in e)
          ∙ (bytes_eq-Decides (get_or parts n []) (ending_text halts)).0 behind.2 in
          subst (λ part. 0 < length part) (sym first) (end_some halts))
          (cases_lt 0 n),
    )))
    (broken-if (eqb (n + 1) (length parts)) (bytes_eq (get_or parts n []) (ending_text halts))
    (eqb (n + 2) (length parts))
    (eqb (length (get_or parts (n + 1) [])) 0) (n + 1) (n + 2) m is)

-- the number of the line that breaks fits
pub number_fits : (size : ℕ) (text : List ℕ) (parts : List (List ℕ)) (events : List Stamped) (halts : Bool) (m : ℕ)
    → slice_split (λ byte. eqb byte 10) text ≡ parts → 1 ≤ length parts → RunStops size (front_parts parts) events halts
    → break_of parts (length events) halts ≡ Some m → (m ≤ 1) ⊎ (m ≤ length text)
number_fits size text parts events halts m split some run is =
    ⊎_elim {C = (m ≤ 1) ⊎ (m ≤ length text)}
    (λ low. inl low)
    (λ small.
    let few = few-parts text (subst (λ p. 0 < length (get_or p 0 [])) (sym split) small.1) in
    inr (omega (arith, small.0, ap length split)))
    (number_small size parts events halts m some run is)
