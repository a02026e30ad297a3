-- From a program and its object file to the text that is printed.
use Rattle.std.proofs.Common.{◌≡◌, Bool, inl, inr, ℕ, ◌≤◌, List, length, Result, Ok, Err, IfOk, OnOk, refl, subst}
use Rattle.lt_isa.specs.declared.profiles.Latencies.{Latencies}
use Rattle.lt_isa.specs.Prelude.{Parts, usual_latencies, IsInRange}
use Rattle.object_file.specs.Prelude.{spelling}
use Rattle.src_tree.specs.Prelude.{Source}
use Rattle.trace_patterns.specs.Prelude.{Accepts}
use Rattle.block_cache_gen.specs.Prelude.{stored_words}
use Rattle.compiled_objects.specs.declared.errors.CompileError.{CompileError}
use Rattle.compiled_objects.specs.Prelude.{IsFor, stores_by, Implements}
use Rattle.call_replies.specs.declared.replies.Verdict.TheVariants.{BadSource}
use Rattle.call_replies.specs.Prelude.{Said}
use Rattle.call_steps.specs.Prelude.{WhichCompiled, HasLayoutFor, HasRoom, IsCompiledTo, LacksRoom, held_for, most_code, plan_for, source_for, room_fault, on_compiled, EndsWorkWith, SaysSource}
use Rattle.call_steps.specs.declared.targets.Target.{Target}
use Rattle.compiled_objects.specs.declared.errors.CompileError.TheVariants as room

-- ---- the usual machine

-- the bytes of an object that was compiled for it
pub spelling-compiled : (p : Source) (target : Target) (latencies : Latencies) (o : Parts)
    → latencies ≡ usual_latencies → HasRoom target.fast p target.profile.block_log → IsInRange o → Accepts o
    → Implements p o → HasLayoutFor target.fast p target.profile.block_log o → IsFor target.profile latencies o
    → stored_words target.fast o.code
    ≡ stores_by (source_for target.fast p) (plan_for target.fast p target.profile.block_log) target.profile target.fast
    (held_for target.fast p target.profile.block_log)
    → length o.code ≤ most_code target.fast p → IsCompiledTo p target (spelling o)
spelling-compiled p target latencies o usually room ranges accepted implements layout machine stores size = record {
  room = room;
  o = o;
  spells = record { in_range = ranges; spelled = refl };
  accepted = accepted;
  implements = implements;
  layout = layout;
  machine = subst (λ (l : Latencies). IsFor target.profile l o) usually machine;
  stores = stores;
  size = size;
}

-- the same by whether the target is fast, of what a compiler promises
module _ (p : Source) (target : Target) (latencies : Latencies) (usually : latencies ≡ usual_latencies) where
  abbrev w : ℕ
  w = target.profile.block_log

  abbrev IsMade : Bool → Parts → Type 0
  IsMade fast o =
      HasRoom fast p w → IsInRange o → Accepts o → Implements p o → HasLayoutFor fast p w o
      → IsFor target.profile latencies o
      → stored_words fast o.code
      ≡ stores_by (source_for fast p) (plan_for fast p w) target.profile fast (held_for fast p w)
      → length o.code ≤ most_code fast p → IsCompiledTo p target (spelling o)

  pub compiled-for : (fast : Bool) → target.fast ≡ fast → (r : Result Parts CompileError) → OnOk r (HasRoom fast p w)
      → IfOk r (λ o. IsInRange o) → IfOk r (λ o. Accepts o) → IfOk r (λ o. Implements p o)
      → IfOk r (λ o. HasLayoutFor fast p w o) → IfOk r (λ o. IsFor target.profile latencies o)
      → IfOk r (λ o. stored_words fast o.code
      ≡ stores_by (source_for fast p) (plan_for fast p w) target.profile fast (held_for fast p w))
      → IfOk r (λ o. length o.code ≤ most_code fast p) → IfOk r (λ o. IsCompiledTo p target (spelling o))
  compiled-for fast is (Ok o) room ranges accepted implements layout machine stores size =
      subst (λ (b : Bool). IsMade b o) is (spelling-compiled p target latencies o usually) room ranges accepted implements
      layout machine stores size
  compiled-for fast is (Err e) room ranges accepted implements layout machine stores size = tt

-- ---- the printed text

-- the line about a program that wasn't compiled ends the work
pub room-refuses : (p : Source) (target : Target) (e : CompileError) (said : Said)
    → LacksRoom target.fast e p target.profile.block_log → SaysSource (room_fault e) said → (output : List ℕ)
    → EndsWorkWith (WhichCompiled p target) (on_compiled output) said
room-refuses p target (room.TooManyScalars label) said explains says output =
    inr (Err _, BadSource _, (room.TooManyScalars label, explains, refl), refl, says)
room-refuses p target (room.BankFull bank) said explains says output =
    inr (Err _, BadSource _, (room.BankFull bank, explains, refl), refl, says)
room-refuses p target room.Memory said explains says output = inl says
