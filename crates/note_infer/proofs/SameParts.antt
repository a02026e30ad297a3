-- Equal things have equal parts: the offsets of instructions, and what is known at a place. A branch may join by what is
-- known at its place only.
use Rattle.std.proofs.Common.{◌≡◌, ℕ, ℤ, List, Option, Some, None}
use Rattle.gr_word.specs.declared.operations.Cmp.{Cmp}
use Rattle.lt_isa.specs.declared.instructions.Instr.TheVariants.{Jmp, Br}
use Rattle.lt_isa.specs.Prelude.{Parts}
use Rattle.trace_patterns.specs.Prelude.{Known}
use Rattle.note_infer.specs.Prelude.{States, MayJoin}

pub same_jump : (x y : ℤ) → Jmp x ≡ Jmp y → x ≡ y
same_jump x y e = cc

pub br_not_jmp : {A : Type 0} (c : Cmp) (ra rb : ℕ) (x y : ℤ) → Br c ra rb x ≡ Jmp y → A
br_not_jmp c ra rb x y e = absurd cc

pub known_once : (j k : Known) → ◌≡◌ {A = Option Known} (Some j) (Some k) → j ≡ k
known_once j k e = cc

pub none_not : {A : Type 0} (k : Known) → ◌≡◌ {A = Option Known} None (Some k) → A
none_not k e = absurd cc

-- a branch may join by other states too that have the same at its place
pub joins_by : (o : Parts) (crossed : List ℕ) (states others : States) (p : ℕ) (may : MayJoin o crossed states p)
    → others p ≡ Some may.known → MayJoin o crossed others p
joins_by o crossed states others p may reached = record {
  known = may.known;
  reached = reached;
  cmp = may.cmp;
  ra = may.ra;
  rb = may.rb;
  offset = may.offset;
  branch = may.branch;
  apart = may.apart;
  secret = may.secret;
  join = may.join;
  next = may.next;
  shaped = may.shaped;
}
