-- What the machine did for the instructions that access a bank.
use Rattle.std.proofs.Common.{◌≡◌, ℕ, ◌+◌, ◌<◌, false, ℤ, List, length, set, Some, sym, ap, subst, ◌∙◌, arith}
use Rattle.std.proofs.lemmas.List.{get_or-set_same}
use Rattle.lt_isa.specs.declared.instructions.Instr.TheVariants.{Ldb, Stb}
use Rattle.lt_isa.specs.Prelude.{cost_of, Slot, Unbound, Bound, slot, register, bank_blocks, block_at, set_block, read_event, write_event, Goes, with_bound, loaded, block_named, access_start}
use Rattle.banks.specs.declared.bank.Leaves.{Leaves}
use Rattle.banks.specs.Prelude.{access_on}
use Rattle.processor.specs.Prelude.{Running, Accessed, MayAccess, IsReady, Executes, on_slot, outcome_of}
use Rattle.processor.specs.declared.done.Untold.TheVariants as done

-- the machine after an access of this many cycles, and the machine with other banks
abbrev pub behind_access : {B : Type 0} → Running B → ℕ → Running B
behind_access m cost = record m {
  state = record (m.state) {
    place = m.state.place + 1;
    cycle = access_start m.object.profile m.state.cycle + cost;
  };
}

abbrev pub with_banks : {B : Type 0} → Running B → List (List (List ℤ)) → List B → Running B
with_banks m banks orams = record m { state = record (m.state) { banks = banks }; orams = orams }

abbrev pub with_slot : {B : Type 0} → Running B → ℕ → ℕ → ℕ → List B → Running B
with_slot m k b a orams = record m { state = loaded (m.state) k b a; orams = orams }

module _ {B : Type 0} (shows : B → List ℕ → List Leaves) (comes : B → List ℕ → B → Type 0) where
  -- the access that was made, of the block that the slot is bound to
  made_on : (before now : List B) (held : Slot) (b a : ℕ) (words : List ℤ) (leaves : Leaves)
      → held ≡ Bound b a words → Accessed shows comes before now (record { bank = b; block = a }) leaves
      → MayAccess shows comes before now (access_on held) leaves
  made_on before now held b a words leaves is made =
      subst (λ slot. MayAccess shows comes before now (access_on slot) leaves) (sym is) made

  -- a block was read into a slot
  pub load_executes : (before mid now : Running B) (k b r block cost : ℕ) (leaves : Leaves) → IsReady before (Ldb k b r)
      → block ≡ block_named before.object b (register before.state r) → cost ≡ cost_of before.object (Ldb k b r) false b
      → mid ≡ with_slot before k b block mid.orams → now ≡ behind_access mid cost
      → Accessed shows comes before.orams mid.orams (record { bank = b; block = block }) leaves
      → Executes shows comes before now (Ldb k b r) (done.Read k leaves)
  load_executes before mid now k b r block cost leaves ready named costs bound went made =
      let o = before.object in
      let s = before.state in
      let a = block_named o b (register s r) in
      let words = block_at s b a in
      let full = cost_of o (Ldb k b r) false b in
      let start : ℕ = access_start o.profile s.cycle in
      let at : ℕ → Running B = λ start. record before {
        state = record (loaded s k b a) { place = s.place + 1; cycle = start + full };
        orams = mid.orams;
      } in
      let is : now ≡ at start =
      went ∙ ap (λ m. behind_access m cost) bound
      ∙ ap (λ n. behind_access (with_slot before k b n mid.orams) cost) named
      ∙ ap (λ n. behind_access (with_slot before k b a mid.orams) n) costs
      in
      let k_exists : k < length s.slots = omega (arith, ready.fits.0, ready.shaped.slot_count) in
      let holds : slot (at start).state k ≡ Bound b a words =
      get_or-set_same s.slots k (Bound b a words) Unbound k_exists in
      let held : slot now.state k ≡ Bound b a words = ap (λ (m : Running B). slot m.state k) is ∙ holds in
      record {
        outcome =
            ap (λ found. Goes (on_slot found read_event) (at start).state) (sym holds)
            ∙ ap (λ (m : Running B). outcome_of (done.Read k leaves) m.state) (sym is);
        object = ap (λ (m : Running B). m.object) is;
        live = ap (λ (m : Running B). m.live) is;
        stays = tt;
        slot = ready.fits.0;
        access = ap access_on (sym held);
        orams =
            made_on before.orams now.orams (slot now.state k) b a words leaves held
            (subst (λ n. Accessed shows comes before.orams now.orams (record { bank = b; block = n }) leaves) named
            (subst (λ orams. Accessed shows comes before.orams orams (record { bank = b; block = block }) leaves)
            (sym (ap (λ (m : Running B). m.orams) is)) made));
      }

  -- a slot's block was written
  pub store_executes : (before view now : Running B) (k b a cost : ℕ) (words : List ℤ) (banks : List (List (List ℤ)))
      (orams : List B) (leaves : Leaves)
      → IsReady before (Stb k) → slot before.state k ≡ Bound b a words → cost ≡ cost_of before.object (Stb k) false b
      → view ≡ before → banks ≡ set view.state.banks b (set (bank_blocks view.state b) a words)
      → now ≡ behind_access (with_banks view banks orams) cost
      → Accessed shows comes view.orams orams (record { bank = b; block = a }) leaves
      → Executes shows comes before now (Stb k) (done.Wrote k leaves)
  store_executes before view now k b a cost words banks orams leaves ready bound costs same written went made =
      let o = before.object in
      let s = before.state in
      let full = cost_of o (Stb k) false b in
      let start : ℕ = access_start o.profile s.cycle in
      let at : ℕ → Running B = λ start. record before {
        state = record (set_block s b a words) { place = s.place + 1; cycle = start + full };
        orams = orams;
      } in
      let is : now ≡ at start =
      went ∙ ap (λ l. behind_access (with_banks view l orams) cost) written
      ∙ ap (λ (m : Running B).
      behind_access (with_banks m (set m.state.banks b (set (bank_blocks m.state b) a words)) orams) cost) same
      ∙ ap (λ n. behind_access (with_banks before (set s.banks b (set (bank_blocks s b) a words)) orams) n) costs
      in
      let held : slot now.state k ≡ Bound b a words = ap (λ (m : Running B). slot m.state k) is ∙ bound in
      record {
        outcome =
            ap (λ found. with_bound found (λ b a words. Goes (Some (write_event b a words)) (set_block
            (record s { place = s.place + 1; cycle = access_start o.profile s.cycle + cost_of o (Stb k) false b }) b a
            words))) bound
            ∙ ap (λ found. Goes (on_slot found write_event) (at start).state) (sym bound)
            ∙ ap (λ (m : Running B). outcome_of (done.Wrote k leaves) m.state) (sym is);
        object = ap (λ (m : Running B). m.object) is;
        live = ap (λ (m : Running B). m.live) is;
        stays = tt;
        slot = ready.fits;
        access = ap access_on (bound ∙ sym held);
        orams =
            made_on before.orams now.orams (slot now.state k) b a words leaves held
            (subst (λ first. Accessed shows comes first now.orams (record { bank = b; block = a }) leaves)
            (ap (λ (m : Running B). m.orams) same)
            (subst (λ last. Accessed shows comes view.orams last (record { bank = b; block = a }) leaves)
            (sym (ap (λ (m : Running B). m.orams) is)) made));
      }
