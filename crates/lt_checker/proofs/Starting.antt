-- Two runs on inputs that agree on what is public begin alike, if no secret variable is in plain memory.
use Rattle.std.proofs.Common.{◌≡◌, ℕ, ◌<◌, Bool, true, false, ◌&&◌, ℤ, List, length, get_or, Option, Some, None, refl, sym, ◌∙◌, subst, arith}
use Rattle.std.specs.Prelude.{All}
use Rattle.std.proofs.lemmas.Bool.{true≢false, false≢true, eq-eqb, false_from_ne_true}
use Rattle.std.proofs.lemmas.List.Folds.{list_any_at}
use Rattle.gr_word.specs.declared.variables.Label.{Label}
use Rattle.gr_word.specs.declared.variables.Label.TheVariants.{Public, Secret}
use Rattle.lt_isa.specs.declared.symbols.Symbol.{Symbol}
use Rattle.lt_isa.specs.Prelude.{Parts, is_ram, IsInRange, start_state, AgreeOn, Agree}
use Rattle.lt_isa.proofs.Starts.{register-start, place-start, cycle-start, bank-start, start_bank-same, IsShaped-start}
use Rattle.trace_patterns.specs.Prelude.{start_known, Starts, is_secret_label, has_secret_in_ram, Accepts}
use Rattle.region_walk.proofs.EntryStates.{start-bank}
use Rattle.lt_checker.proofs.Related.{Related}
use Rattle.lt_checker.proofs.Made.{Reached}
use Rattle.lt_checker.proofs.Stands.{Stand, stand_behind}

-- a symbol in plain memory that isn't secret is public
public_label : (label : Label) (ram : Bool) → (ram && is_secret_label label) ≡ false → ram ≡ true → label ≡ Public
public_label Public ram none e = refl
public_label Secret true none e = absurd (true≢false none)
public_label Secret false none e = absurd (false≢true e)

public_in_ram : (o : Parts) → has_secret_in_ram o ≡ false
    → All (λ (s : Symbol). s.bank ≡ 0 → s.label ≡ Public) o.symbols
public_in_ram o none = λ k d inside in_ram.
    let s = get_or o.symbols k d in
    let test = λ (t : Symbol). is_ram t.bank && is_secret_label t.label in
    let not_secret = false_from_ne_true (test s)
    (λ found. false≢true (sym none ∙ list_any_at test o.symbols k d inside found)) in
    public_label s.label (is_ram s.bank) not_secret (eq-eqb s.bank 0 in_ram)

start_related : (o : Parts) (d e : List (List ℤ)) → IsInRange o → has_secret_in_ram o ≡ false → Agree o d e
    → Related start_known (start_state o d) (start_state o e)
start_related o d e range none agree =
    let first = IsShaped-start o d agree.first_fits in
    let second = IsShaped-start o e agree.second_fits in
    let some : 0 < length o.banks = omega (arith, range.bank_count) in
    record {
      place = place-start o d ∙ sym (place-start o e);
      cycle = cycle-start o d ∙ sym (cycle-start o e);
      registers = λ r public. register-start o d r ∙ sym (register-start o e r);
      slots = λ j b known. absurd (let f : ◌≡◌ {A = Option ℕ} None (Some b) = sym (start-bank j) ∙ known in cc);
      ram = bank-start o d 0 some ∙ start_bank-same o d e 0 agree (public_in_ram o none) ∙ sym (bank-start o e 0 some);
      register_count = first.register_count ∙ sym second.register_count;
      first_slots = first.slot_count;
      second_slots = second.slot_count;
      bank_count = first.bank_count ∙ sym second.bank_count;
    }

-- both runs are at the first place
pub starts_alike : (o : Parts) (d e : List (List ℤ)) → IsInRange o → Accepts o → Agree o d e
    → Stand o (start_state o d) (start_state o e)
starts_alike o d e range accepts agree =
    let some : 0 < length o.code = omega (arith, range.code_size) in
    let first : Reached o 0 start_known = record { inside = some; comes = Starts } in
    let here = subst (λ (p : ℕ). Reached o p start_known) (sym (place-start o d)) first in
    stand_behind o start_known (start_state o d) (start_state o e) accepts here
    (start_related o d e range accepts.symbols agree)

-- inputs agree with themselves
agrees_with_itself : (symbols : List Symbol) (d : List (List ℤ)) → AgreeOn symbols d d
agrees_with_itself symbols d = λ k s is public. refl

-- the first of two inputs that agree agrees with itself
pub agree_first : (o : Parts) (d e : List (List ℤ)) → Agree o d e → Agree o d d
agree_first o d e agree =
    record {
      first_fits = agree.first_fits;
      second_fits = agree.first_fits;
      public_words = agrees_with_itself o.symbols
          d;
    }

-- the second of two inputs that agree agrees with itself
pub agree_second : (o : Parts) (d e : List (List ℤ)) → Agree o d e → Agree o e e
agree_second o d e agree =
    record {
      first_fits = agree.second_fits;
      second_fits = agree.second_fits;
      public_words = agrees_with_itself
          o.symbols e;
    }
