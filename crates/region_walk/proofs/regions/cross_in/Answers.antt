use Rattle.std.proofs.Common.{◌≡◌, ◌-◌, ℕ, ℤ, List, length, sym, ap, subst}
use Rattle.lt_isa.proofs.Offsets.{handed_on}
use Rattle.lt_isa.specs.Prelude.{IsOffset}
use Rattle.lt_isa.specs.declared.instructions.Instr.{Instr}
use Rattle.region_walk.specs.Prelude.{BeginsWithEntries, Blocked, crossing, walk, sym_of, IsCrossedBy}
use Rattle.region_walk.proofs.Crossings.{crossed-in_code, blocked-in_code}
use Rattle.region_walk.proofs.EntryTables.{begins-grown}
use Rattle.region_walk.proofs.regions.cross_in.Goals as goal

pub keep_entries-requires : goal.keep_entries-requires
keep_entries-requires c =
    let table = c.args.table.now in
    subst (λ (n : ℕ). BeginsWithEntries n (record table { values = c.region_of.new.values }))
    (sym c.len-count.ensures.len)
    (begins-grown table c.region_of.new.values c.requires.entries c.in-Crosses.ensures.keeps)

pub returns-in-Crosses : goal.returns-in-Crosses
returns-in-Crosses c =
    let o = c.args.object.now in
    let offset = c.args.offset in
    let nodes = c.args.table.now.values in
    let s = c.at_entry-state.result in
    let small : IsOffset offset = c.requires.offset in
    let same = handed_on offset small in
    let last : length c.code.result.now - 1 ≡ length o.code - 1 = ap
    (λ (l : List Instr). length l - 1) c.code.ensures.value in
    let crossed = subst (λ (z : ℤ). IsCrossedBy o 0
    (length c.code.result.now - 1) c.args.place z nodes s c.in-Crosses.join c.in-Crosses.way c.region_of.new.values)
    same
    c.in-Crosses.ensures in
    record {
      crossing = crossed-in_code o (length c.code.result.now - 1) c.args.place offset c.args.known.now nodes
          c.region_of.new.values s c.in-Crosses.join c.in-Crosses.way c.known_after.result last c.requires.place
          c.at_entry-state.ensures.state crossed c.known_after.ensures;
      entries = c.keep_entries.ensures;
    }

pub returns-in-Blocked : goal.returns-in-Blocked
returns-in-Blocked c =
    let o = c.args.object.now in
    let offset = c.args.offset in
    let nodes = c.args.table.now.values in
    let small : IsOffset offset = c.requires.offset in
    let same = handed_on offset small in
    let last : length c.code.result.now - 1 ≡ length o.code - 1 = ap
    (λ (l : List Instr). length l - 1) c.code.ensures.value in
    let s = sym_of nodes c.at_entry-state.result in
    let blocked = Blocked c.in-Blocked.place c.in-Blocked.reason in
    let is : crossing o (walk o) 0 (length c.code.result.now - 1) c.args.place offset s ≡ blocked = subst
    (λ (z : ℤ). crossing o (walk o) 0
    (length c.code.result.now - 1) c.args.place z s ≡ blocked) same c.in-Blocked.ensures in
    record {
      crossing = blocked-in_code o (length c.code.result.now - 1) c.args.place offset c.args.known.now nodes
          c.at_entry-state.result c.in-Blocked.place c.in-Blocked.reason last c.at_entry-state.ensures.state is;
      entries = tt;
    }
