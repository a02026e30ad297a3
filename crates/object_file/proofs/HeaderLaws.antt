-- The laws of reading the fields before the symbols.
use Rattle.std.proofs.Common.{◌≡◌, ℕ, ◌+◌, ◌-◌, ◌≤◌, Bool, true, false, cond, List, [], ◌++◌, length, Ok, refl, sym, ap, subst, ◌∙◌, ⊎_elim, append_assoc, arith}
use Rattle.std.specs.Prelude.{IsTrue, ◌||◌, ◌==◌}
use Rattle.std.proofs.lemmas.Bool.{eqb-true, eq-eqb}
use Rattle.std.proofs.lemmas.List.{append-nil}
use Rattle.byteorder.specs.Endian.{little_number}
use Rattle.lt_isa.specs.declared.profiles.Profile.{Profile}
use Rattle.lt_isa.specs.declared.profiles.BankSpec.{BankSpec}
use Rattle.gr_base.specs.Prelude.{Within, EachAfter}
use Rattle.lt_isa.specs.Prelude.{most_blocks, ProfileFits, BankFits, HasUnitPeriod}
use Rattle.lt_isa.proofs.SymbolPlaces.{most_blocks-le}
use Rattle.lt_isa.proofs.Windows.{by_window, windowed, opened, opened-is, IsWindowed, windowed-fits}
use Rattle.object_file.specs.Prelude.{number, listed, magic, cycles, window, profile, bank, magic_at, version_at, cycles_at, window_at, profile_at, bank_at, banks_at}
use Rattle.object_file.proofs.Numbers.{IsBytes}
use Rattle.gr_base.proofs.Results.{IfRead, read_ok, read_then, read_if, read_weaker}
use Rattle.object_file.proofs.Readers.{Takes, Takes-then, Found, IsReader, number_read, number_again, range}
use Rattle.object_file.proofs.ListLaws.{list}

-- the bytes GRLT are the bytes of the number that is expected
pub magic_is : number 4 (little_number 4 magic) ≡ magic
unfolding number
magic_is = refl

-- after a successful read of the magic bytes, the bytes begin with them
pub magic_read : (all : ℕ) (bytes : List ℕ) → IsBytes bytes
    → IfRead (magic_at all bytes) (λ rest. Takes bytes magic rest)
unfolding magic_at
magic_read all bytes fits =
    read_then _ _ _ _ (number_read 4 all bytes fits) (λ x found. read_if _ _ _ _ (λ same.
    let e = eqb-true _ _ same in
    let text : number 4 x.0 ≡ magic = ap (number 4) e ∙ magic_is in
    rw text at found.0))

-- bytes that begin with the magic bytes are read
pub magic_again : (all : ℕ) (rest : List ℕ) → magic_at all (magic ++ rest) ≡ Ok rest
unfolding magic_at
magic_again all rest =
    let text : magic ++ rest ≡ number 4 (little_number 4 magic) ++ rest =
    ap (λ (t : List ℕ). t ++ rest) (sym magic_is) in
    ap (magic_at all) text ∙ rw (number_again 4 all (little_number 4 magic) rest (omega arith)) refl

abbrev pub is_version : ℕ → Bool
is_version n = (n == 1) || (n == 2)

version_read : (all : ℕ) (bytes : List ℕ) → IsBytes bytes
    → IfRead (version_at all bytes) (Found (number 2) (λ n. IsTrue (is_version n)) bytes)
unfolding version_at
version_read all bytes fits =
    read_then _ _ _ _ (number_read 2 all bytes fits) (λ x found. read_if _ _ _ _ (λ known. (found.0, known)))

version_again : (all n : ℕ) (rest : List ℕ) → n ≤ 2 → is_version n ≡ true
    → version_at all (number 2 n ++ rest) ≡ Ok (n, rest)
unfolding version_at
version_again all n rest small known = rw (number_again 2 all n rest (omega (arith, small)), known) refl

cycles_read : (all : ℕ) (bytes : List ℕ) → IsBytes bytes
    → IfRead (cycles_at all bytes) (Found cycles (λ p. ProfileFits p × HasUnitPeriod p) bytes)
unfolding cycles_at cycles
cycles_read all bytes fits =
    let log = range 1 all 3 9 (omega arith) in
    let some_cycles = range 1 all 1 127 (omega arith) in
    let taken_cycles = range 1 all 1 32 (omega arith) in
    read_then _ _ _ _ (log.reads bytes fits) (λ block_log a.
    read_then _ _ _ _ (some_cycles.reads block_log.1 a.0.rest_fits) (λ alu b.
    read_then _ _ _ _ (some_cycles.reads alu.1 b.0.rest_fits) (λ mul c.
    read_then _ _ _ _ (some_cycles.reads mul.1 c.0.rest_fits) (λ word d.
    read_then _ _ _ _ (taken_cycles.reads word.1 d.0.rest_fits) (λ taken e.
    read_ok _ _ (
      Takes-then (Takes-then (Takes-then (Takes-then a.0 b.0) c.0) d.0) e.0,
      (
        record {
          block_log = a.1;
          alu = b.1;
          mul = c.1;
          word = d.1;
          taken = e.1;
          period = (omega arith, omega arith);
          opens = omega arith;
          closes = (omega arith, omega arith);
        },
        record { period = refl; opens = refl; closes = refl },
      ),
    ))))))

cycles_again : (all : ℕ) (p : Profile) (rest : List ℕ) → ProfileFits p
    → cycles_at all (cycles p ++ rest) ≡ Ok (opened p, rest)
unfolding cycles_at cycles
cycles_again all p rest h =
    let log = range 1 all 3 9 (omega arith) in
    let some_cycles = range 1 all 1 127 (omega arith) in
    let taken_cycles = range 1 all 1 32 (omega arith) in
    simp append_assoc (rw (
      log.again p.block_log _ h.block_log,
      some_cycles.again p.alu _ h.alu,
      some_cycles.again p.mul _ h.mul,
      some_cycles.again p.word _ h.word,
      taken_cycles.again p.taken _ h.taken,
    ) refl)

window_read : (all : ℕ) (before : Profile) (bytes : List ℕ) → IsBytes bytes
    → IfRead (window_at all before bytes) (Found window (IsWindowed before) bytes)
unfolding window_at window
window_read all before bytes fits =
    read_then _ _ _ _ ((range 4 all 2 1000000 (omega arith)).reads bytes fits) (λ period a.
    read_then _ _ _ _ ((range 4 all 0 (period.0 - 1) (omega (arith, a.1))).reads period.1 a.0.rest_fits) (λ opens b.
    read_then _ _ _ _ ((range 4 all (opens.0 + 1) period.0 (omega (arith, a.1))).reads opens.1 b.0.rest_fits)
    (λ closes c.
    read_ok _ _ (
      Takes-then (Takes-then a.0 b.0) c.0,
      record { is = refl; period = a.1; opens = omega (arith, a.1, b.1); closes = c.1 },
    ))))

window_again : (all : ℕ) (before p : Profile) (rest : List ℕ) → ProfileFits p → 2 ≤ p.period
    → window_at all before (window p ++ rest)
    ≡ Ok (record before { period = p.period; opens = p.opens; closes = p.closes }, rest)
unfolding window_at window
window_again all before p rest h long =
    simp append_assoc (rw (
      (range 4 all 2 1000000 (omega arith)).again p.period _ (long, h.period.1),
      (range 4 all 0 (p.period - 1) (omega (arith, h.period))).again p.opens _ (omega arith, omega (arith, h.opens)),
      (range 4 all (p.opens + 1) p.period (omega (arith, h.period))).again p.closes _ h.closes,
    ) refl)

-- the encoding of a profile, by its window
profile-open : (p : Profile) → HasUnitPeriod p → profile p ≡ number 2 1 ++ cycles p
unfolding profile
profile-open p whole = rw (eq-eqb _ _ whole.period) (append-nil (number 2 1 ++ cycles p))

profile-windowed : (p : Profile) → 2 ≤ p.period → profile p ≡ number 2 2 ++ cycles p ++ window p
unfolding profile
profile-windowed p long = rw (windowed p long) refl

same_cycles : (before p : Profile) → IsWindowed before p → cycles before ≡ cycles p
unfolding cycles
same_cycles before p window = ap cycles (sym window.is)

-- a profile is read from its encoding, and from nothing else
pub profiles : (all : ℕ) → IsReader (profile_at all) profile ProfileFits
unfolding profile_at
profiles all = record {
  reads = λ bytes fits.
      read_then _ _ _ _ (version_read all bytes fits) (λ v a.
      read_then _ _ _ _ (cycles_read all v.1 a.0.rest_fits) (λ c b.
      by_version bytes v c a b (v.0 == 1) refl));
  again = λ p rest h. ⊎_elim (open_again p rest h) (windowed_again p rest h) (by_window p h);
}
  where
    by_version : (bytes : List ℕ) (v : ℕ × List ℕ) (c : Profile × List ℕ)
        → Found (number 2) (λ n. IsTrue (is_version n)) bytes v
        → Found cycles (λ p. ProfileFits p × HasUnitPeriod p) v.1 c
        → (one : Bool) → (v.0 == 1) ≡ one
        → IfRead (cond one (Ok c) (window_at all c.0 c.1)) (Found profile ProfileFits bytes)
    by_version bytes v c a b true e =
        let text : number 2 v.0 ++ cycles c.0 ≡ profile c.0 =
        ap (λ n. number 2 n ++ cycles c.0) (eqb-true _ _ e) ∙ sym (profile-open c.0 b.1.1) in
        read_ok _ _ (subst (λ t. Takes bytes t c.1) text (Takes-then a.0 b.0), b.1.0)
    by_version bytes v c a b false e =
        read_weaker _ _ _ (window_read all c.0 c.1 b.0.rest_fits) (λ w d.
        let two : v.0 ≡ 2 = eqb-true _ _ (sym (ap (λ x. x || (v.0 == 2)) e) ∙ a.1) in
        let text : number 2 v.0 ++ cycles c.0 ++ window w.0 ≡ profile w.0 =
        ap (λ n. number 2 n ++ cycles c.0 ++ window w.0) two
        ∙ ap (λ t. number 2 2 ++ t ++ window w.0) (same_cycles c.0 w.0 d.1)
        ∙ sym (profile-windowed w.0 d.1.period.0) in
        (subst (λ t. Takes bytes t w.1) text (Takes-then (Takes-then a.0 b.0) d.0), windowed-fits c.0 w.0 b.1.0 d.1))

    open_again : (p : Profile) (rest : List ℕ) → ProfileFits p → HasUnitPeriod p
        → profile_at all (profile p ++ rest) ≡ Ok (p, rest)
    open_again p rest h whole =
        let text : profile p ++ rest ≡ number 2 1 ++ (cycles p ++ rest) =
        ap (λ (t : List ℕ). t ++ rest) (profile-open p whole) ∙ append_assoc (number 2 1) (cycles p) rest in
        ap (profile_at all) text
        ∙ rw (version_again all 1 (cycles p ++ rest) (omega arith) refl, cycles_again all p rest h)
        (ap (λ (q : Profile). Ok (q, rest)) (opened-is p whole))

    windowed_again : (p : Profile) (rest : List ℕ) → ProfileFits p → 2 ≤ p.period
        → profile_at all (profile p ++ rest) ≡ Ok (p, rest)
    windowed_again p rest h long =
        let text : profile p ++ rest ≡ number 2 2 ++ (cycles p ++ (window p ++ rest)) =
        ap (λ (t : List ℕ). t ++ rest) (profile-windowed p long)
        ∙ append_assoc (number 2 2 ++ cycles p) (window p) rest
        ∙ append_assoc (number 2 2) (cycles p) (window p ++ rest) in
        ap (profile_at all) text
        ∙ rw (
          version_again all 2 (cycles p ++ (window p ++ rest)) (omega arith) refl,
          cycles_again all p (window p ++ rest) h,
          window_again all (opened p) p rest h long,
        ) refl

pub bank_reader : (all : ℕ) (before : List BankSpec) → IsReader (bank_at all before) bank (BankFits before)
unfolding bank_at
bank_reader all before =
    let block_count = range 4 all 1 (most_blocks (length before)) (omega (arith, most_blocks-le (length before))) in
    let latencies = range 4 all 1 1000000 (omega arith) in
    record {
      reads = λ bytes fits.
          read_then _ _ _ _ (block_count.reads bytes fits) (λ blocks a.
          read_then _ _ _ _ (latencies.reads blocks.1 a.0.rest_fits) (λ latency b.
          read_ok _ _ (Takes-then a.0 b.0, record { blocks = a.1; latency = b.1 })));
      again = λ b rest h.
          simp append_assoc (rw (block_count.again b.blocks _ h.blocks, latencies.again b.latency _ h.latency) refl);
    }

-- banks are read from their encoding, and from nothing else
pub banks : (all : ℕ)
    → IsReader (banks_at all) (listed 1 bank) (λ bs. Within 2 10 (length bs) × EachAfter BankFits [] bs)
unfolding banks_at
banks all = list (bank_at all) bank BankFits (bank_reader all) 1 all 2 10 (omega arith)
