-- The states that are kept when one more branch joins: they are under way if the branch waits, and each place that leads
-- into its region from outside.
use Rattle.std.proofs.Common.{◌≡◌, ℕ, ◌<◌, ◌≤◌, List, [], ◌∷◌, length, ◌⊎◌, inl, inr, Option, Some, sym, ◌∙◌, subst, ⊎_elim, arith}
use Rattle.std.specs.List.{Contains}
use Rattle.std.proofs.lemmas.Bool.{cases_lt, cases_eq}
use Rattle.std.proofs.lemmas.Option.{slice_get_within}
use Rattle.lt_isa.specs.declared.instructions.Instr.TheVariants.{Jmp, Br}
use Rattle.lt_isa.specs.Prelude.{Parts}
use Rattle.trace_patterns.specs.Prelude.{Known, start_known, at_entry, JoinsIn}
use Rattle.note_infer.specs.Prelude.{PublicWay, IsAtLeast, MayJoin, IsUnderWay, at_places, Waits, LoopHolds, HasLeast, IsTargetOf, ByJump, ByBranch, TellsOrigins, IsApart, IsAwaiting, IsWithout, ListsJoiners, ListsOthers}
use Rattle.note_infer.proofs.SameParts.{none_not}
use Rattle.note_infer.proofs.RegionWays.{crossed_more, way_fewer, region_at, ways_inside}
use Rattle.note_infer.proofs.LeastOutside.{least_within}

-- a jump or a branch is one of the code
target_from : (o : Parts) (r q : ℕ) → IsTargetOf o [] r q → r < length o.code
target_from o r q (ByJump r' q' offset at to lt) = slice_get_within o.code r (Jmp offset) at
target_from o r q (ByBranch r' q' cmp ra rb offset at apart to lt) = slice_get_within o.code r (Br cmp ra rb offset) at

-- the states that are kept
module _ (o : Parts) (crossed : List ℕ) (states after : List (Option Known)) (place join : ℕ)
    (has : HasLeast o crossed states) (may : MayJoin o crossed (at_places states) place) (to : may.join ≡ join)
    (apart : IsApart o crossed states place join) (kept : IsWithout place join states after) (last before : List ℕ)
    (origins : TellsOrigins o last before) (stack : List ℕ) (waiting : IsAwaiting last before place join stack) where
  -- what is known then was known
  was : (x : ℕ) (k : Known) → at_places after x ≡ Some k
      → ((place < x → x < join → ⊥)) × (at_places states x ≡ Some k)
  was x k e = by (cases_lt place x) (cases_lt x join)
    where
      out : (place < x → x < join → ⊥) → ((place < x → x < join → ⊥)) × (at_places states x ≡ Some k)
      out g = (g, sym (kept.outside x g) ∙ e)

      by : (place < x) ⊎ (x ≤ place) → (x < join) ⊎ (join ≤ x)
          → ((place < x → x < join → ⊥)) × (at_places states x ≡ Some k)
      by (inl lt) (inl le) = none_not k (sym (kept.inside x lt le) ∙ e)
      by (inl lt) (inr more) = out (λ (l : place < x) (m : x < join). absurd (omega (arith, m, more)))
      by (inr le) more = out (λ (l : place < x) (m : x < join). absurd (omega (arith, l, le)))

  stays : (x : ℕ) (low : Known) → (place < x → x < join → ⊥) → IsAtLeast (at_places states) x low
      → IsAtLeast (at_places after) x low
  stays x low out a = record { known = a.known; is = kept.outside x out ∙ a.is; above = a.above }

  joins_at : JoinsIn o place may.offset may.known join may.next
  joins_at = subst (λ (x : ℕ). JoinsIn o place may.offset may.known x may.next) to may.shaped

  -- a place outside waits if a way leads from it into the region
  awaits : (r q : ℕ) (k next : Known) → (place < r → r < join → ⊥) → (r ≡ place → ⊥) → PublicWay o crossed r k q next
      → place < q → q < join → Waits stack r
  awaits r q k next out ne way lt le =
      let region = region_at o place may.offset (at_entry may.known) join joins_at.state joins_at.over in
      let t = ways_inside o crossed place join may.cmp may.ra may.rb may.offset may.branch region.0 region.1 r q k next
      way ne out lt le in
      ⊎_elim
      (λ (w : (place ≤ r) × (r < join)). absurd (out (omega (arith, w.0, ne)) w.1))
      (λ (w : Waits stack r). w)
      (waiting.waits r q lt le (origins.told r q (target_from o r q t) t))

  kept_under_way : IsUnderWay o (place ∷ crossed) (at_places after) (Waits stack)
  kept_under_way = record {
    full = λ x k e. has.least.closed.full x k (was x k e).1;
    start = stays 0 start_known
        (λ (l : place < 0) (m : 0 < join). absurd (omega (arith, l))) has.least.closed.start;
    ways = λ r q k next e way. goes r q k next (was r k e) way (cases_eq r place);
    within = λ others closed x k e.
        least_within o crossed place join may.cmp may.ra may.rb may.offset may.branch may.apart may.known may.next
        joins_at apart.alone others closed (at_places states) has.least apart.first apart.within apart.early apart.known
        x k (was x k e).0 (was x k e).1;
  }
    where
      goes : (r q : ℕ) (k next : Known)
          → ((place < r → r < join → ⊥)) × (at_places states r ≡ Some k) → PublicWay o (place ∷ crossed) r k q next
          → (r ≡ place) ⊎ (r ≡ place → ⊥) → IsAtLeast (at_places after) q next ⊎ Waits stack r
      goes r q k next w way (inl same) = inr (subst (Waits stack) (sym same) waiting.branch)
      goes r q k next w way (inr ne) = by (cases_lt place q) (cases_lt q join)
        where
          old : PublicWay o crossed r k q next
          old = way_fewer o crossed place r k q next ne way

          stay : (place < q → q < join → ⊥) → IsAtLeast (at_places after) q next ⊎ Waits stack r
          stay out = inl (stays q next out (has.least.closed.ways r q k next w.1 old))

          by : (place < q) ⊎ (q ≤ place) → (q < join) ⊎ (join ≤ q)
              → IsAtLeast (at_places after) q next ⊎ Waits stack r
          by (inl lt) (inl le) = inr (awaits r q k next w.0 ne old lt le)
          by (inl lt) (inr more) = stay (λ (l : place < q) (m : q < join). absurd (omega (arith, m, more)))
          by (inr le) more = stay (λ (l : place < q) (m : q < join). absurd (omega (arith, l, le)))

  pub kept_begins : LoopHolds o (place ∷ crossed) after stack
  kept_begins = record {
    size = kept.size ∙ has.size;
    places = λ x w. omega (arith, waiting.inside x w, origins.before_size, kept.size, has.size);
    under_way = kept_under_way;
    sound = λ p k e. has.sound p k (was p k e).1;
  }

  pub kept_listed : (joiners : List ℕ) → ListsOthers o crossed states joiners place
      → ListsJoiners o (place ∷ crossed) after stack joiners
  kept_listed joiners listed = record { each = λ q h. by q h (cases_eq q place) }
    where
      by : (q : ℕ) → MayJoin o (place ∷ crossed) (at_places after) q → (q ≡ place) ⊎ (q ≡ place → ⊥)
          → Contains joiners q ⊎ Waits stack q
      by q h (inl e) = inr (subst (Waits stack) (sym e) waiting.branch)
      by q h (inr ne) =
          ⊎_elim (λ (c : Contains joiners q). inl c) (λ (e : q ≡ place). absurd (ne e))
          (listed.each q (record {
            known = h.known;
            reached = (was q h.known h.reached).1;
            cmp = h.cmp;
            ra = h.ra;
            rb = h.rb;
            offset = h.offset;
            branch = h.branch;
            apart = sym (crossed_more crossed place q ne) ∙ h.apart;
            secret = h.secret;
            join = h.join;
            next = h.next;
            shaped = h.shaped;
          }))
