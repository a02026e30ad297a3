-- A plan takes one share more.
use Rattle.std.proofs.Common.{◌≡◌, ℕ, ◌<◌, ◌≤◌, List, [], ◌∷◌, ◌++◌, length, sym, ap, ◌∙◌, subst, ⊎_elim, arith, length-append}
use Rattle.std.proofs.lemmas.Bool.{cases_lt}
use Rattle.std.proofs.Math.ListN.{get_or-append}
use Rattle.std.proofs.Math.Seq.{get_or-append_seam}
use Rattle.bus_arbiter.specs.declared.shares.Share.{Share}
use Rattle.bus_arbiter.specs.Prelude.{IsPlan, Meet, PlanTakes, ShareFits, end_of, no_share, share_at}

-- ---- one share more

module _ (plan : List Share) (s : Share) where
  share-old : (k : ℕ) → k < length plan → share_at (plan ++ s ∷ []) k ≡ share_at plan k
  share-old k within = get_or-append plan (s ∷ []) no_share k within

  share-new : (k : ℕ) → length plan ≤ k → k < length (plan ++ s ∷ []) → share_at (plan ++ s ∷ []) k ≡ s
  share-new k past within =
      let is : k ≡ length plan = omega (arith, past, within, length-append plan (s ∷ [])) in
      ap (share_at (plan ++ s ∷ [])) is ∙ get_or-append_seam plan s [] no_share

  -- what holds of each old share and of the new one
  each-share : (P : Share → Type 0) → ((k : ℕ) → k < length plan → P (share_at plan k)) → P s
      → (k : ℕ) → k < length (plan ++ s ∷ []) → P (share_at (plan ++ s ∷ []) k)
  each-share P old last k within =
      ⊎_elim
      (λ less. subst P (sym (share-old k less)) (old k less))
      (λ past. subst P (sym (share-new k past within)) last)
      (cases_lt k (length plan))

  turned : (t u : Share) → Meet t u → Meet u t
  turned t u meet = (meet.0, meet.2, meet.1)

  pub plan-more : IsPlan plan → length plan < 8 → ShareFits s → PlanTakes plan s → IsPlan (plan ++ s ∷ [])
  plan-more fits room own taken = record {
    count = omega (arith, room, length-append plan (s ∷ []));
    fits = each-share ShareFits fits.fits own;
    period = λ k within.
        ⊎_elim
        (λ (some : 0 < length plan).
        let first = share-old 0 some in
        ⊎_elim
        (λ less. ap (λ (x : Share). x.period) (share-old k less) ∙ fits.period k less
        ∙ ap (λ (x : Share). x.period) (sym first))
        (λ past. ap (λ (x : Share). x.period) (share-new k past within) ∙ taken.period some
        ∙ ap (λ (x : Share). x.period) (sym first))
        (cases_lt k (length plan)))
        (λ none.
        let is : k ≡ 0 = omega (arith, none, within, length-append plan (s ∷ [])) in
        ap (λ j. (share_at (plan ++ s ∷ []) j).period) is)
        (cases_lt 0 (length plan));
    short = each-share (λ x. end_of x ≤ x.period) fits.short taken.short;
    apart = λ j k first second other meet.
        ⊎_elim
        (λ one.
        let left = subst (λ (x : Share). Meet x (share_at (plan ++ s ∷ []) k)) (share-old j one) meet in
        ⊎_elim
        (λ two. fits.apart j k one two other (subst (Meet (share_at plan j)) (share-old k two) left))
        (λ past. taken.apart j one (subst (Meet (share_at plan j)) (share-new k past second) left))
        (cases_lt k (length plan)))
        (λ past.
        let left = subst (λ (x : Share). Meet x (share_at (plan ++ s ∷ []) k)) (share-new j past first) meet in
        ⊎_elim
        (λ two. taken.apart k two (turned s (share_at plan k) (subst (Meet s) (share-old k two) left)))
        (λ late. other (omega (arith, past, late, first, second, length-append plan (s ∷ []))))
        (cases_lt k (length plan)))
        (cases_lt j (length plan));
  }
