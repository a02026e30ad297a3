-- Tables whose first nodes are the values of an entry.
use Rattle.std.proofs.Common.{◌≡◌, ℕ, ◌+◌, ◌<◌, List, [], length, get_or, take, set, sym, ap, ◌∙◌, subst, arith, length-take-le}
use Rattle.symbolic_values.specs.declared.nodes.Node.{Node}
use Rattle.symbolic_values.specs.Prelude.{Value, Reg, SlotAt, IsTable, IsNumber, KeepsTrees}
use Rattle.symbolic_values.proofs.TableLaws.{number-first}
use Rattle.region_walk.specs.declared.region_values.EntryTable.{EntryTable}
use Rattle.region_walk.specs.Prelude.{FindsNumber, Numbers, HasEntries, BeginsWithEntries}
use Rattle.region_walk.proofs.TableGrowth.{gains-own, gains-then, keeps-longer}
use Rattle.region_walk.proofs.Numbered.{known_more}

-- no numbers
pub numbers-none : (tree : ℕ → Value) (nodes : List Node) (numbers : List ℕ) → IsTable nodes
    → Numbers 0 tree nodes nodes numbers
numbers-none tree nodes numbers table = record { gains = gains-own nodes table; are = λ i h. absurd (omega arith) }

-- one more number
pub numbers-more : (n : ℕ) (tree : ℕ → Value) (old mid new : List Node) (numbers : List ℕ) (found : ℕ)
    → Numbers n tree old mid numbers → n < length numbers → FindsNumber 1 mid new (tree n) found
    → Numbers (n + 1) tree old new (set numbers n found)
numbers-more n tree old mid new numbers found h inside f = record {
  gains = gains-then n 1 old mid new h.gains f.gains;
  are = known_more (λ i v. IsNumber new v (tree i)) numbers n found 0 inside
      (λ i lt. f.gains.keeps _ (tree i) (h.are i lt)) f.number;
}

-- registers first, and then slots, in a table that was empty
pub entries-from : (old mid new : List Node) (registers slots : List ℕ) → old ≡ [] → Numbers 32 Reg old mid registers
    → Numbers 8 SlotAt mid new slots
    → HasEntries (record { values = new; registers = registers; slots = slots })
entries-from old mid new registers slots empty first second =
    let none : length old ≡ 0 = ap (λ (l : List Node). length l) empty in
    record {
      table = second.gains.table;
      few = omega (arith, none, first.gains.room, second.gains.room);
      registers = λ r h. second.gains.keeps _ (Reg r) (first.are r h);
      slots = second.are;
    }

-- a table that grows still begins with the values of an entry
pub begins-grown : (t : EntryTable) (new : List Node) → HasEntries t → KeepsTrees t.values new
    → BeginsWithEntries (length t.values) (record t { values = new })
begins-grown t new h keeps = record {
  few = h.few;
  inside = keeps-longer t.values new keeps;
  register_numbers = λ r lt. (h.registers r lt).inside;
  slot_numbers = λ k lt. (h.slots k lt).inside;
  registers = λ r lt. keeps _ (Reg r) (h.registers r lt);
  slots = λ k lt. keeps _ (SlotAt k) (h.slots k lt);
}

-- the first nodes of such a table are a table with the values of an entry
pub entries-first : (count : ℕ) (t : EntryTable) (kept : List Node) → kept ≡ take count t.values → IsTable kept
    → BeginsWithEntries count t → HasEntries (record t { values = kept })
entries-first count t kept first table h =
    let size : length (take count t.values) ≡ count = length-take-le count t.values h.inside in
    let kept_size : length kept ≡ count = ap (λ (l : List Node). length l) first ∙ size in
    record {
      table = table;
      few = omega (arith, kept_size, h.few);
      registers = λ r lt. subst (λ (l : List Node). IsNumber l (get_or t.registers r 0) (Reg r)) (sym first)
          (number-first t.values count _ (Reg r) (omega (arith, size, h.register_numbers r lt)) (h.registers r lt));
      slots = λ k lt. subst (λ (l : List Node). IsNumber l (get_or t.slots k 0) (SlotAt k)) (sym first)
          (number-first t.values count _ (SlotAt k) (omega (arith, size, h.slot_numbers k lt)) (h.slots k lt));
    }
