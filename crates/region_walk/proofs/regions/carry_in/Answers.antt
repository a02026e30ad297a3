use Rattle.std.proofs.Common.{◌≡◌, ◌-◌, ℕ, ℤ, List, length, to_z, of_z, w32, sym, ap, subst}
use Rattle.lt_isa.proofs.Offsets.{handed_on}
use Rattle.lt_isa.specs.Prelude.{IsOffset}
use Rattle.lt_isa.specs.declared.instructions.Instr.{Instr}
use Rattle.trace_patterns.specs.Prelude.{CarriesOver, SymState}
use Rattle.region_walk.specs.Prelude.{BeginsWithEntries, sym_of, LeadsOver}
use Rattle.region_walk.proofs.EntryTables.{begins-grown}
use Rattle.region_walk.proofs.CarriedOn.{carried-to, not-carried}
use Rattle.region_walk.proofs.regions.carry_in.Goals as goal

pub keep_entries-requires : goal.keep_entries-requires
keep_entries-requires c =
    let table = c.args.table.now in
    subst (λ (n : ℕ). BeginsWithEntries n (record table { values = c.carry_over.new.values }))
    (sym c.len-count.ensures.len)
    (begins-grown table c.carry_over.new.values c.requires.entries c.in-Unshaped.ensures.keeps)

pub keep_entries-requires-in-Reaches : goal.keep_entries-requires-in-Reaches
keep_entries-requires-in-Reaches c =
    let table = c.args.table.now in
    subst (λ (n : ℕ). BeginsWithEntries n (record table { values = c.carry_over.new.values }))
    (sym c.len-count.ensures.len)
    (begins-grown table c.carry_over.new.values c.requires.entries c.in-Reaches.ensures.keeps)

pub returns-in-Reaches : goal.returns-in-Reaches
returns-in-Reaches c =
    let o = c.args.object.now in
    let offset = c.args.offset in
    let nodes = c.args.table.now.values in
    let s = c.at_entry-state.result in
    let new = c.carry_over.new.values in
    let behind = c.carry_over.new.state in
    let small : IsOffset offset = c.requires.offset in
    let same = handed_on offset small in
    let last : length c.code.result.now - 1 ≡ length o.code - 1 = ap
    (λ (l : List Instr). length l - 1) c.code.ensures.value in
    let led = subst (λ (z : ℤ). LeadsOver o 0
    (length c.code.result.now - 1) c.args.place z nodes s c.in-Reaches.join new
    behind) same c.in-Reaches.ensures in
    record {
      carried = carried-to o c.args.place offset c.args.known.now nodes new s behind c.in-Reaches.join
          c.known_after.result
          c.at_entry-state.ensures.state
          (subst (λ (n : ℕ). LeadsOver o 0 n c.args.place offset nodes s c.in-Reaches.join new behind) last led)
          c.known_after.ensures;
      entries = c.keep_entries-in-Reaches.ensures;
    }

pub returns-in-Unshaped : goal.returns-in-Unshaped
returns-in-Unshaped c =
    let o = c.args.object.now in
    let offset = c.args.offset in
    let nodes = c.args.table.now.values in
    let s = c.at_entry-state.result in
    let small : IsOffset offset = c.requires.offset in
    let same = handed_on offset small in
    let last : length c.code.result.now - 1 ≡ length o.code - 1 = ap
    (λ (l : List Instr). length l - 1) c.code.ensures.value in
    record {
      carried = not-carried o c.args.place offset c.args.known.now nodes s c.at_entry-state.ensures.state
          (subst (λ (z : ℤ). (j : ℕ) (t : SymState) → CarriesOver o 0 (length o.code - 1) c.args.place z
          (sym_of nodes s) j t → ⊥)
          same
          (subst (λ (n : ℕ). (j : ℕ) (t : SymState) → CarriesOver o 0 n c.args.place (to_z w32 (of_z w32 offset))
          (sym_of nodes s)
          j t → ⊥) last c.in-Unshaped.ensures.nothing));
      entries = c.keep_entries.ensures;
    }
