-- From the trace of a machine to its text, and the levels after it.
use Rattle.std.proofs.Common.{◌≡◌, ◌≢◌, inl, inr, ℕ, zero, suc, ◌+◌, ◌-◌, ◌<◌, ◌≤◌, Bool, true, false, List, [], ◌∷◌, ◌++◌, length, get_or, All, Option, Some, None, is_some, refl, sym, ap, ◌∙◌, subst, ⊎_elim, arith, append_assoc, length-append}
use Rattle.std.proofs.lemmas.Bool.{cases_lt}
use Rattle.std.proofs.lemmas.List.{append-nil}
use Rattle.std.proofs.Math.ListN.{get_or-append}
use Rattle.std.proofs.Math.Seq.{get_or-append_seam}
use Rattle.gr_base.specs.Prelude.{Rose, Adds, AddsLess}
use Rattle.gr_base.proofs.Added.{Adds-then, AddsLess-then, AddsLess-more}
use Rattle.gr_outside.specs.Prelude.{SinkSeen}
use Rattle.lt_isa.specs.Prelude.{State, Parts, Stamped}
use Rattle.banks.specs.Prelude.{accesses_from, in_bank}
use Rattle.processor.specs.Prelude.{ComeBy, OfBoth, oram_of, WatcherTold}
use Rattle.path_oram.specs.Prelude.{ComesBy, Oram, AreLevels, IsWhole}
use Rattle.path_oram.proofs.Existing.{ends_somehow}
use Rattle.rand_chacha.specs.ChaCha.{ChaCha}
use Rattle.run_data.specs.Prelude.{levels_behind}
use Rattle.run_data.proofs.PathTexts.{behind-text, behind-parts}
use Rattle.call_replies.specs.declared.replies.Verdict.TheVariants.{Traced}
use Rattle.call_steps.specs.Prelude.{AreBehind, FirstBanks, MayEndOn, MayRun, OfOram, PutsLast, StandAfter, StandNow, HaltOf, stream_from, shown_lines}
use Rattle.call_replies.specs.Prelude.{comes_to}
use Rattle.machine_verbs.specs.Prelude.{PutsShown, PutsTrace}
use Rattle.call_steps.proofs.Saying.{halts-or-not}

-- ---- levels of bank after bank

module _ (Are : ℕ → List (Option ℕ) → Type 0) where
  -- one bank more
  pub one-bank : (first : List (List (Option ℕ))) (levels : List (Option ℕ))
      → FirstBanks Are first → Are (length first + 2) levels → FirstBanks Are (first ++ levels ∷ [])
  one-bank first levels are next b two less =
      ⊎_elim
      (λ early. subst (Are b) (sym (get_or-append first (levels ∷ []) [] (b - 2) (omega (arith, early))))
      (are b two (omega (arith, early))))
      (λ late.
      let last : b ≡ length first + 2 = omega (arith, late, less, length-append first (levels ∷ [])) in
      let place : b - 2 ≡ length first = omega (arith, last) in
      subst (λ n. Are n (get_or (first ++ levels ∷ []) (b - 2) [])) (sym last)
      (subst (λ k. Are (length first + 2) (get_or (first ++ levels ∷ []) k [])) (sym place)
      (subst (Are (length first + 2)) (sym (get_or-append_seam first levels [] [])) next)))
      (cases_lt b (length first + 2))

  pub record Completed (first : List (List (Option ℕ))) (banks : ℕ) : Type 0 where
    pub more : List (List (Option ℕ))
    pub are : FirstBanks Are (first ++ more)
    pub count : length (first ++ more) ≡ banks - 2

  -- the banks that are left
  pub completed : (left banks : ℕ)
      → ((b : ℕ) → 2 ≤ b → b < banks → (levels : List (Option ℕ)) × Are b levels) → (first : List (List (Option ℕ)))
      → length first + left ≡ banks - 2 → FirstBanks Are first → Completed first banks
  completed zero banks each first all are = record {
    more = [];
    are = subst (FirstBanks Are) (sym (append-nil first)) are;
    count = omega (arith, ap length (append-nil first), all);
  }
  completed (suc left) banks each first all are =
      let next = each (length first + 2) (omega arith) (omega (arith, all)) in
      let rest =
      completed left banks each (first ++ next.0 ∷ []) (omega (arith, all, length-append first (next.0 ∷ [])))
      (one-bank first next.0 are next.1) in
      let parts : (first ++ next.0 ∷ []) ++ rest.more ≡ first ++ (next.0 ∷ rest.more) =
      append_assoc first (next.0 ∷ []) rest.more in
      record {
        more = next.0 ∷ rest.more;
        are = subst (FirstBanks Are) parts rest.are;
        count = omega (arith, ap length parts, rest.count);
      }

-- ---- the banks of a run

abbrev Advances : Oram ChaCha → List ℕ → Oram ChaCha → Type 0
Advances before blocks now = ComesBy before.places (stream_from before.words) blocks now.places (stream_from now.words)

-- the accesses may have moved the blocks to where they are now
stood : (before now : Option (Oram ChaCha)) (blocks : List ℕ) (levels : List (Option ℕ))
    → OfBoth before now (λ old new. Advances old blocks new) → OfOram now (λ oram. AreLevels oram.places levels)
    → OfOram before (λ oram. MayEndOn oram blocks levels)
stood None None blocks levels come are = are
stood None (Some new) blocks levels come are = absurd come
stood (Some old) None blocks levels come are = absurd come
stood (Some old) (Some new) blocks levels come are =
    record { after = new.places; left = stream_from new.words; come = come; are = are }

-- the accesses lead somewhere
ends : (before : Option (Oram ChaCha)) (blocks : List ℕ)
    → OfOram before (λ oram. IsWhole oram.places × All (λ block. block < length oram.places.leaves) blocks)
    → (levels : List (Option ℕ)) × OfOram before (λ oram. MayEndOn oram blocks levels)
ends None blocks may = absurd may
ends (Some oram) blocks may =
    let found = ends_somehow oram.places (stream_from oram.words) blocks may.0 may.1 in
    (found.levels, record { after = found.after; left = found.left; come = found.come; are = found.are })

module _ (o : Parts) (s : State) (cycles : ℕ) (orams : List (Oram ChaCha)) where
  pub stand-after : (now : List (Oram ChaCha))
      → ComeBy Advances orams (accesses_from o s cycles) now → (levels : List (List (Option ℕ)))
      → FirstBanks (StandNow now) levels → FirstBanks (StandAfter o s cycles orams) levels
  stand-after now come levels are b two less =
      stood (oram_of orams b) (oram_of now b) (in_bank b (accesses_from o s cycles)) (get_or levels (b - 2) [])
      (come b) (are b two less)

  some-levels : MayRun o s cycles orams → (b : ℕ) → 2 ≤ b → b < length o.banks
      → (levels : List (Option ℕ)) × StandAfter o s cycles orams b levels
  some-levels may b two exists = ends (oram_of orams b) (in_bank b (accesses_from o s cycles)) (may b two exists)

  record Behind (paths : Bool) (first : List (List (Option ℕ))) : Type 0 where
    pub more : List (List (Option ℕ))
    pub are : AreBehind paths o s cycles orams (first ++ more)

  -- levels that were printed are followed by those of the other banks
  behind : (paths : Bool) → MayRun o s cycles orams → (first : List (List (Option ℕ))) → (paths ≡ false → first ≡ [])
      → length first ≤ length o.banks - 2 → FirstBanks (StandAfter o s cycles orams) first → Behind paths first
  behind false may first none most are = record { more = []; are = append-nil first ∙ none refl }
  behind true may first none most are =
      let rest =
      completed (StandAfter o s cycles orams) (length o.banks - 2 - length first) (length o.banks)
      (some-levels may) first (omega (arith, most)) are in
      record { more = rest.more; are = record { count = rest.count; banks = rest.are } }

  -- the levels of all banks were printed
  whole-behind : (paths : Bool) → (first : List (List (Option ℕ))) → (paths ≡ false → first ≡ [])
      → (paths ≡ true → length first ≡ length o.banks - 2) → FirstBanks (StandAfter o s cycles orams) first
      → AreBehind paths o s cycles orams first
  whole-behind false first none all are = none refl
  whole-behind true first none all are = record { count = all refl; banks = are }

-- ---- the text

-- the text around a last line
parted : (lines line : List ℕ) (levels : List (List (Option ℕ)))
    → levels_behind (lines ++ line) 2 levels ≡ lines ++ levels_behind line 2 levels
parted lines line levels =
    behind-text (lines ++ line) 2 levels ∙ append_assoc lines line (levels_behind [] 2 levels)
    ∙ ap (λ text. lines ++ text) (sym (behind-text line 2 levels))

-- more levels make the text longer at its end
longer : (text : List ℕ) (first more : List (List (Option ℕ)))
    → levels_behind text 2 (first ++ more) ≡ levels_behind text 2 first ++ levels_behind [] (2 + length first) more
longer text first more =
    behind-parts text 2 first more ∙ behind-text (levels_behind text 2 first) (2 + length first) more

some-text : (line : List ℕ) (levels : List (List (Option ℕ)))
    → 1 ≤ length line → 0 < length (levels_behind line 2 levels)
some-text line levels some =
    omega (arith, some, ap length (behind-text line 2 levels), length-append line (levels_behind [] 2 levels))

module _ (before mid after : SinkSeen) (o : Parts) (s : State) (cycles : ℕ) (orams now : List (Oram ChaCha))
    (paths : Bool) (events : List Stamped) (shown : List WatcherTold) (may : MayRun o s cycles orams) where
  -- the lines were printed, and then a last line with its levels
  pub ended-put : (halt : Option ℕ) → HaltOf events halt → Adds before.held mid.held (shown_lines shown)
      → mid.faults ≡ before.faults → ComeBy Advances orams (accesses_from o s cycles) now
      → (banks status answer : ℕ) (line : List ℕ) → banks ≡ length o.banks
      → line ≡ (comes_to (Traced (is_some halt))).text → status ≡ (comes_to (Traced (is_some halt))).status → status ≢ 4
      → PutsLast mid after paths banks now status line answer
      → PutsTrace before after events shown (AreBehind paths o s cycles orams) answer
  ended-put halt is adds calm come banks status answer line count text state other last =
      let stand = stand-after o s cycles orams now come last.levels last.stand in
      let lines = shown_lines shown in
      let some : 1 ≤ length line = subst (λ l. 1 ≤ length l) (sym text) (longs (is_some halt)) in
      elim last.put [
        | inl done ↦ record {
          halt = halt;
          is = is;
          levels = last.levels;
          are = whole-behind o s cycles orams paths last.levels last.none
              (λ yes. omega (arith, last.all yes (λ four. other (sym done.0 ∙ four)), count)) stand;
          put = inl (
            done.0 ∙ state,
            subst (Adds before.held after.held)
                (sym (parted lines line last.levels) ∙ ap (λ l. levels_behind (lines ++ l) 2 last.levels) text)
                (Adds-then before.held mid.held after.held lines (levels_behind line 2 last.levels) adds done.1),
            done.2 ∙ calm,
          );
        }
        | inr cut ↦ let rest =
            behind o s cycles orams paths may last.levels last.none (omega (arith, last.most, count)) stand in record {
              halt = halt;
              is = is;
              levels = last.levels ++ rest.more;
              are = rest.are;
              put = inr (
                cut.0,
                subst (λ n. Rose n after.faults) calm cut.1,
                subst (AddsLess before.held after.held)
                    (sym (longer (lines ++ line) last.levels rest.more ∙ ap
                    (λ t. t ++ levels_behind [] (2 + length last.levels) rest.more) (parted lines line last.levels))
                    ∙ ap (λ l. levels_behind (lines ++ l) 2 (last.levels ++ rest.more)) text)
                    (AddsLess-more before.held after.held (lines ++ levels_behind line 2 last.levels)
                    (levels_behind [] (2 + length last.levels) rest.more)
                    (AddsLess-then before.held mid.held after.held lines (levels_behind line 2 last.levels) adds
                    (some-text line last.levels some) cut.2)),
              );
            }
      ]
    where
      longs : (halted : Bool) → 1 ≤ length (comes_to (Traced halted)).text
      longs true = omega arith
      longs false = omega arith

  -- the sink failed at the lines
  pub cut-put : PutsShown before after events shown None
      → PutsTrace before after events shown (AreBehind paths o s cycles orams) 4
  cut-put cut =
      let rest =
      behind o s cycles orams paths may [] (λ no. refl) (omega arith)
      (λ b two less. absurd (omega (arith, two, less))) in
      let finish : (halt : Option ℕ) → HaltOf events halt
      → PutsTrace before after events shown (AreBehind paths o s cycles orams) 4 = λ halt is. record {
        halt = halt;
        is = is;
        levels = rest.more;
        are = rest.are;
        put = inr (
          refl,
          cut.0,
          subst (AddsLess before.held after.held)
              (sym (parted (shown_lines shown) (comes_to (Traced (is_some halt))).text rest.more))
              (AddsLess-more before.held after.held (shown_lines shown)
              (levels_behind (comes_to (Traced (is_some halt))).text 2 rest.more) cut.1),
        );
      } in
      elim (halts-or-not events) [
        | inl halts ↦ finish (Some halts.0) halts.1
        | inr none ↦ finish None none
      ]
