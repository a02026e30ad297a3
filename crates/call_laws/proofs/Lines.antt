-- No part of another text is the whole line of a failed write.
use Rattle.std.proofs.Common.{◌≡◌, ◌≢◌, ◌⊎◌, inl, inr, ℕ, zero, suc, ◌+◌, ◌/◌, ◌%◌, ◌<◌, Bool, true, false, cond, nat_lt, ◌==◌, List, [], ◌∷◌, ◌++◌, length, take, Option, Some, None, refl, sym, ap, ◌∙◌, subst, arith}
use Rattle.std.specs.Prelude.{codes, decimal}
use Rattle.std.specs.Fmt.{digits, digits_onto, digit_glyph}
use Rattle.std.proofs.Math.ListN.{get_or}
use Rattle.std.proofs.lemmas.List.{append_cancel_left, get_or-take, length-take}
use Rattle.gr_base.specs.Prelude.{AddsLess, Rose}
use Rattle.lt_isa.specs.Prelude.{Stamped}
use Rattle.bus_arbiter.specs.Prelude.{Transfer}
use Rattle.run_data.specs.Prelude.{event_line, event_text, leaves_text, levels_behind, levels_line}
use Rattle.call_replies.specs.declared.replies.Verdict.{Verdict}
use Rattle.call_replies.specs.declared.replies.Verdict.TheVariants.{Accepted, Traced, Shared}
use Rattle.call_replies.specs.declared.replies.Done.{Done}
use Rattle.call_replies.specs.declared.replies.Done.TheVariants.{Halted, Assembled, Disassembled, Evaluated, Compiled, Sampled, Inferred}
use Rattle.run_data.proofs.PathTexts.{behind-text}
use Rattle.processor.specs.Prelude.{WatcherTold, AnEvent, APath}
use Rattle.call_steps.specs.Prelude.{Seen, core_lines, shown_lines, transfer_lines, Work, IsVerdict, said_at, Outside, Unread, Long, Judged, Written, NotWritten, Starved, Explains, NoWork, NoRoom, Worked}
use Rattle.call_replies.specs.Prelude.{unread, unwritten, no_memory, too_long, comes_to, wrote}
use Rattle.call_laws.specs.Prelude.{Gained}
use Rattle.call_laws.proofs.Promised.{cut, verdict-other}

-- the text doesn't begin with `f`, or its seventh byte isn't `4`
abbrev IsOther : List ℕ → Type 0
IsOther text = (get_or text 0 0 ≢ 102) ⊎ (get_or text 6 0 ≢ 52)

-- ---- a text of events doesn't begin with `f`

abbrev NotF : List ℕ → Type 0
NotF text = get_or text 0 0 ≢ 102

glyph-other : (d : ℕ) (b : Bool) → nat_lt d 10 ≡ b → d < 10 → cond b (48 + d) (cond false (55 + d) (87 + d)) ≢ 102
glyph-other d true is low e = omega (arith, low, e)
glyph-other d false is low e = omega (arith, low, e)

pick-other : (b : Bool) (xs ys : List ℕ) → NotF xs → NotF ys → NotF (cond b xs ys)
pick-other true xs ys first second = first
pick-other false xs ys first second = second

digit-other : (n : ℕ) (acc : List ℕ) → NotF (digit_glyph false (n % 10) ∷ acc)
digit-other n acc = glyph-other (n % 10) (nat_lt (n % 10) 10) refl (omega arith)

onto-other : (k n : ℕ) (acc : List ℕ) → NotF acc → NotF (digits_onto k 10 false n acc)
onto-other zero n acc not = not
onto-other (suc k) n acc not =
    pick-other (n / 10 == 0) (digit_glyph false (n % 10) ∷ acc)
    (digits_onto k 10 false (n / 10) (digit_glyph false (n % 10) ∷ acc)) (digit-other n acc)
    (onto-other k (n / 10) (digit_glyph false (n % 10) ∷ acc) (digit-other n acc))

decimal-other : (n : ℕ) → NotF (decimal n)
unfolding digits
decimal-other n = onto-other 64 n [] (λ e. omega (arith, e))

verdict-line : (verdict : Verdict) (more : List ℕ) → IsOther more → IsOther ((comes_to verdict).text ++ more)
verdict-line Accepted more other = inl (λ e. omega (arith, e))
verdict-line (Traced true) more other = inl (λ e. omega (arith, e))
verdict-line (Traced false) more other = inl (λ e. omega (arith, e))
verdict-line (Shared halted) more other = other
verdict-line rest more other = inr (λ e. omega (arith, e))

levels-other : (levels : List (List (Option ℕ))) → IsOther (levels_behind [] 2 levels)
levels-other [] = inl (λ e. omega (arith, e))
levels-other (first ∷ levels) =
    inl (subst NotF (sym (behind-text (levels_line 2 first) 3 levels)) (λ e. omega (arith, e)))

judged-line : (seen : Seen) (verdict : Verdict) → IsOther (said_at (IsVerdict seen verdict)).text
judged-line seen verdict =
    subst IsOther
    (sym (behind-text
    (transfer_lines seen.transfers ++ (core_lines 0 seen.halts ++ (shown_lines seen.shown ++ (comes_to verdict).text)))
    2 seen.levels))
    (bus seen.transfers seen.halts)
  where
    rest : List ℕ
    rest = levels_behind [] 2 seen.levels

    event : (s : Stamped) (shown : List WatcherTold) (xs : List ℕ) → NotF xs
        → NotF (((((xs ++ codes " " ++ event_text s.event) ++ codes "\n") ++ shown_lines shown)
        ++ (comes_to verdict).text)
        ++ rest)
    event s shown [] first = λ e. omega (arith, e)
    event s shown (x ∷ xs) first = first

    path : (bank : ℕ) (leaves : List ℕ) (shown : List WatcherTold) (xs : List ℕ) → NotF xs
        → NotF ((((((xs ++ codes " P" ++ decimal bank) ++ leaves_text leaves) ++ codes "\n") ++ shown_lines shown)
        ++ (comes_to verdict).text) ++ rest)
    path bank leaves shown [] first = λ e. omega (arith, e)
    path bank leaves shown (x ∷ xs) first = first

    front : (shown : List WatcherTold) → IsOther ((shown_lines shown ++ (comes_to verdict).text) ++ rest)
    front [] = verdict-line verdict rest (levels-other seen.levels)
    front (AnEvent s ∷ shown) = inl (event s shown (decimal s.stamp) (decimal-other s.stamp))
    front (APath stamp bank leaves ∷ shown) =
        inl (path bank (take leaves.len leaves.at) shown (decimal stamp) (decimal-other stamp))

    transfer : (t : Transfer) (ts : List Transfer) (behind xs : List ℕ) → NotF xs
        → NotF (((((xs ++ codes " ") ++ event_line t.stamp t.event) ++ transfer_lines ts) ++ behind) ++ rest)
    transfer t ts behind [] first = λ e. omega (arith, e)
    transfer t ts behind (x ∷ xs) first = first

    bus : (transfers : List Transfer) (halts : List (Option ℕ))
        → IsOther ((transfer_lines transfers ++ (core_lines 0 halts
        ++ (shown_lines seen.shown ++ (comes_to verdict).text))) ++ rest)
    bus [] [] = front seen.shown
    bus [] (halt ∷ halts) = inl (λ e. omega (arith, e))
    bus (t ∷ ts) halts =
        inl (transfer t ts (core_lines 0 halts ++ (shown_lines seen.shown ++ (comes_to verdict).text)) (decimal t.core)
        (decimal-other t.core))

done-line : (done : Done) → IsOther (wrote done).text
done-line (Halted at) = inl (λ e. omega (arith, e))
done-line Assembled = inl (λ e. omega (arith, e))
done-line Disassembled = inl (λ e. omega (arith, e))
done-line Evaluated = inl (λ e. omega (arith, e))
done-line Compiled = inl (λ e. omega (arith, e))
done-line (Sampled figures) = inl (λ e. omega (arith, e))
done-line (Inferred count) = inl (λ e. omega (arith, e))

-- ---- a part of such a text

part-other : (text : List ℕ) (n : ℕ) (name : List ℕ) → IsOther text → take n text ≡ (unwritten name).text → ⊥
part-other text n name other is =
    let long : 6 < n = omega (arith, length-take n text, ap length is) in
    elim other [
      | inl first ↦ first (sym (get_or-take n text 0 0 (omega (arith, long))) ∙ ap (λ t. get_or t 0 0) is)
      | inr seventh ↦ seventh (sym (get_or-take n text 6 0 long) ∙ ap (λ t. get_or t 6 0) is)
    ]

gained-none : (held held' : Option (List ℕ)) (text name : List ℕ)
    → IsOther text → AddsLess held held' text → Gained held held' (unwritten name).text → ⊥
gained-none (Some b) (Some a) text name other less gained =
    part-other text less.0 name other
    (append_cancel_left b (take less.0 text) (unwritten name).text (sym less.2 ∙ gained))
gained-none (Some b) None text name other less gained = gained
gained-none None (Some a) text name other less gained = gained
gained-none None None text name other less gained = gained

-- the line that can't be printed, by the prefix of it that was
pub line-of : {asked : Option Work} {before after : Outside} {status : ℕ} → Explains before after status asked
    → status ≡ 4 → (name : List ℕ) → Gained before.sink.held after.sink.held (unwritten name).text
    → Rose before.shelf.write_faults after.shelf.write_faults
line-of (NoWork same put) four name gained =
    absurd (gained-none _ _ _ name (inr (λ e. omega (arith, e))) (cut put four (λ e. omega (arith, e))).less gained)
line-of (NoRoom asked' same put) four name gained =
    absurd (gained-none _ _ _ name (inr (λ e. omega (arith, e))) (cut put four (λ e. omega (arith, e))).less gained)
line-of (Worked work ending comes calls (Unread other only put)) four name gained =
    absurd (gained-none _ _ (unread other).text name (inr (λ e. omega (arith, e)))
    (cut put four (λ e. omega (arith, e))).less gained)
line-of (Worked work ending comes calls (Long other limit same put)) four name gained =
    absurd (gained-none _ _ (too_long other limit).text name (inr (λ e. omega (arith, e)))
    (cut put four (λ e. omega (arith, e))).less gained)
line-of (Worked work ending comes calls (Judged seen verdict same put)) four name gained =
    absurd (gained-none _ _ (said_at (IsVerdict seen verdict)).text name (judged-line seen verdict)
    (cut put four (verdict-other verdict 4 (omega arith) (omega arith))).less gained)
line-of (Worked work ending comes calls (Written other bytes done written put)) four name gained =
    absurd (gained-none _ _ (wrote done).text name (done-line done) (cut put four (λ e. omega (arith, e))).less gained)
line-of (Worked work ending comes calls (NotWritten other bytes done refused rose calm put)) four name gained = rose
line-of (Worked work ending comes calls (Starved other bytes done refused rose calm put)) four name gained =
    absurd (gained-none _ _ no_memory.text name (inr (λ e. omega (arith, e)))
    (cut put four (λ e. omega (arith, e))).less gained)
