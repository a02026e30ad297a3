-- The text of a trace without levels after it.
use Rattle.std.proofs.Common.{◌≡◌, inl, inr, ℕ, ◌≤◌, Bool, true, false, List, [], ◌++◌, length, Option, Some, None, is_some, refl, sym, ◌∙◌, subst, arith}
use Rattle.gr_base.specs.Prelude.{Rose, Adds, AddsLess}
use Rattle.gr_base.proofs.Added.{Adds-then, AddsLess-then, AddsLess-more}
use Rattle.gr_outside.specs.Prelude.{SinkSeen}
use Rattle.lt_isa.specs.Prelude.{Stamped}
use Rattle.processor.specs.Prelude.{WatcherTold}
use Rattle.call_replies.specs.declared.replies.Verdict.TheVariants.{Traced}
use Rattle.call_steps.specs.Prelude.{PutsSaid, HaltOf, shown_lines}
use Rattle.call_replies.specs.Prelude.{comes_to}
use Rattle.machine_verbs.specs.Prelude.{PutsShown, PutsTrace}
use Rattle.call_steps.proofs.Saying.{halts-or-not}

longs : (halted : Bool) → 1 ≤ length (comes_to (Traced halted)).text
longs true = omega arith
longs false = omega arith

module _ (before mid after : SinkSeen) (events : List Stamped) (shown : List WatcherTold) where
  -- the lines were printed, and then a last line
  pub ended : (halt : Option ℕ) → HaltOf events halt → Adds before.held mid.held (shown_lines shown)
      → mid.faults ≡ before.faults → (status answer : ℕ) (line : List ℕ)
      → line ≡ (comes_to (Traced (is_some halt))).text → status ≡ (comes_to (Traced (is_some halt))).status
      → PutsSaid mid after (record { status = status; text = line }) answer
      → PutsTrace before after events shown (λ levels. levels ≡ []) answer
  ended halt is adds calm status answer line text state put =
      let lines = shown_lines shown in
      let some : 1 ≤ length line = subst (λ l. 1 ≤ length l) (sym text) (longs (is_some halt)) in
      elim put [
        | inl done ↦ record {
          halt = halt;
          is = is;
          levels = [];
          are = refl;
          put = inl (
            done.0 ∙ state,
            subst (λ l. Adds before.held after.held (lines ++ l)) text
                (Adds-then before.held mid.held after.held lines line adds done.1),
            done.2 ∙ calm,
          );
        }
        | inr cut ↦ record {
          halt = halt;
          is = is;
          levels = [];
          are = refl;
          put = inr (
            cut.0,
            subst (λ n. Rose n after.faults) calm cut.1,
            subst (λ l. AddsLess before.held after.held (lines ++ l)) text
                (AddsLess-then before.held mid.held after.held lines line adds some cut.2),
          );
        }
      ]

  -- the sink failed at the lines
  pub cut : PutsShown before after events shown None → PutsTrace before after events shown (λ levels. levels ≡ []) 4
  cut less =
      let finish : (halt : Option ℕ) → HaltOf events halt
      → PutsTrace before after events shown (λ levels. levels ≡ []) 4 =
      λ halt is. record {
        halt = halt;
        is = is;
        levels = [];
        are = refl;
        put = inr (
          refl,
          less.0,
          AddsLess-more before.held after.held (shown_lines shown) (comes_to (Traced (is_some halt))).text less.1,
        );
      } in
      elim (halts-or-not events) [
        | inl halts ↦ finish (Some halts.0) halts.1
        | inr none ↦ finish None none
      ]
