-- What follows from the ruling on a visited place of an accepted object: no test refuses it.
use Rattle.std.proofs.Common.{◌≡◌, ℕ, ◌+◌, ◌<◌, Bool, true, false, not, nat_lt, length, Option, Some, None, refl}
use Rattle.std.proofs.lemmas.Bool.{not-false, ltb-true}
use Rattle.lt_isa.specs.Prelude.{Parts}
use Rattle.trace_patterns.specs.declared.reasons.Reason.{Reason}
use Rattle.trace_patterns.specs.declared.reasons.Reason.TheVariants.{UnboundSlot, NoNote, NoteTooLow, JumpOutside}
use Rattle.trace_patterns.specs.Prelude.{Known, FitsClaim, fits, Ruling, Falls, refused_if, at_bank, at_claim, jumped, claimed_at, ruling_at, VisitedAt, ComesTo, FallsTo, Accepts}
use Rattle.trace_patterns.proofs.Notes.{fits-claim}

-- a place of the code is reached
pub record Reached (o : Parts) (p : ℕ) (k : Known) : Type 0 where
  pub inside : p < length o.code
  pub comes : ComesTo o p k

-- a jump leads to a place of the code with a note, and what is known fits the note
pub record LandsAt (o : Parts) (q : ℕ) (k : Known) : Type 0 where
  pub inside : q < length o.code
  pub claimed : Known
  pub claims : claimed_at o q ≡ Some claimed
  pub fits : FitsClaim k claimed

module _ (o : Parts) (accepts : Accepts o) (p : ℕ) (k : Known) (visited : VisitedAt o p k) where
  -- this is the ruling on the place
  abbrev pub Made : Ruling → Type 0
  Made r = ruling_at o p k ≡ r

  -- a test doesn't refuse the place
  pub record Passed (test : Bool) (r : Ruling) : Type 0 where
    pub failed : test ≡ false
    pub made : Made r

  -- no test refuses a place of an accepted object
  pub made_unless : (test : Bool) (reason : Reason) (r : Ruling) → Made (refused_if test reason r) → Passed test r
  made_unless true reason r h = absurd (accepts.allowed p k reason visited h)
  made_unless false reason r h = record { failed = refl; made = h }

  -- a slot's bank is known
  pub record BankIs (known : Option ℕ) (go : ℕ → Ruling) : Type 0 where
    pub bank : ℕ
    pub is : known ≡ Some bank
    pub made : Made (go bank)

  -- a slot's bank is known if an instruction of an accepted object needs it
  pub made_bank : (known : Option ℕ) (go : ℕ → Ruling) → Made (at_bank known go) → BankIs known go
  made_bank None go h = absurd (accepts.allowed p k UnboundSlot visited h)
  made_bank (Some b) go h = record { bank = b; is = refl; made = h }

  pub record Jumped (q : ℕ) (known : Known) (r : Ruling) : Type 0 where
    pub lands : LandsAt o q known
    pub made : Made r

  made_claim : (q : ℕ) (claimed : Option Known) (known : Known) (r : Ruling) → q < length o.code
      → claimed_at o q ≡ claimed → Made (at_claim claimed known r) → Jumped q known r
  made_claim q None known r inside is h = absurd (accepts.allowed p k NoNote visited h)
  made_claim q (Some claimed) known r inside is h =
      let passed = made_unless (not (fits known claimed)) NoteTooLow r h in
      record {
        lands = record {
          inside = inside;
          claimed = claimed;
          claims = is;
          fits = (fits-claim o q known claimed is).0
              (not-false (fits known claimed) passed.failed);
        };
        made = passed.made;
      }

  -- a jump of an accepted object
  pub made_jump : (q : ℕ) (known : Known) (r : Ruling) → Made (jumped o q known r) → Jumped q known r
  made_jump q known r h =
      let passed = made_unless (not (nat_lt q (length o.code))) JumpOutside (at_claim (claimed_at o q) known r) h in
      made_claim q (claimed_at o q) known r
      (ltb-true q (length o.code) (not-false (nat_lt q (length o.code)) passed.failed)) refl passed.made

  -- the next place is reached
  pub made_falls : (next : Known) → Made (Falls next) → Reached o (p + 1) next
  made_falls next h = record { inside = accepts.followed p k next visited h; comes = FallsTo p k next visited h }
