-- An arm that is walked is walked again from a lower state, under other notes that aren't within: it shows the same
-- events, and less is unknown after it. And it carries what the ways carry.
use Rattle.std.proofs.Common.{◌≡◌, ℕ, ◌+◌, ◌-◌, ◌<◌, ◌≤◌, ◌==◌, Bool, true, false, ◌&&◌, ◌||◌, nat_lt, ℤ, pos, negsuc, List, [], ◌∷◌, length, slice_get, inl, inr, Option, Some, None, refl, sym, ap, ◌∙◌, subst, arith}
use Rattle.std.specs.Prelude.{if◌then◌else◌}
use Rattle.std.specs.List.{list_any}
use Rattle.std.specs.Option.{option_map}
use Rattle.std.proofs.lemmas.Bool.{and_parts, ltb-true, eq-eqb, false≢true}
use Rattle.lt_isa.specs.declared.symbols.Note.{Note}
use Rattle.lt_isa.specs.declared.instructions.Instr.{Instr}
use Rattle.lt_isa.specs.declared.instructions.Instr.TheVariants.{Nop, Halt, Li, Alu, Ldb, Stb, Idb, Ldw, Stw, Jmp, Br}
use Rattle.lt_isa.specs.Prelude.{Parts, is_ram, is_eram, target_of}
use Rattle.symbolic_values.specs.Prelude.{Value}
use Rattle.trace_patterns.specs.declared.reasons.Reason.{Reason}
use Rattle.trace_patterns.specs.Prelude.{Shown, TreeEvent, RamRead, EncRead, Oram, Known, note_known, SymSlot, AnySlot, RamSlot, EramSlot, OramSlot, Loaded, SymState, tree_held, slot_held, hold_slot, common, Arms, shape, has_note_between, Single, Refuses, Goes, Branches, event, at_tree, stores, if_bound, if_stored, named_block, single, note_of_place, claimed_at, WalksTo, AtEnd, Onward, Across, CrossesTo, BothArms, only_goes_on, ram_loaded, eram_loaded, held_behind, without_notes}
use Rattle.trace_patterns.proofs.Shapes.{shape-arms, shape-region}
use Rattle.note_infer.specs.Prelude.{with_notes}
use Rattle.note_infer.proofs.Keeps.{Keeps}
use Rattle.note_infer.proofs.Lower.{IsBelow, held-below, common-below}

-- no note between two places
pub Quiet : Parts → (low high : ℕ) → Type 0
Quiet o low high = (q : ℕ) → low < q → q < high → claimed_at o q ≡ None

noted_between : (notes : List Note) (low high : ℕ)
    → list_any (λ n. nat_lt low n.pc && nat_lt n.pc high) notes ≡ true
    → (q : ℕ) × (n : Note) × (low < q) × (q < high) × (note_of_place notes q ≡ Some n)
noted_between [] low high e = absurd (false≢true e)
noted_between (n ∷ notes) low high e =
    by (nat_lt low n.pc && nat_lt n.pc high) refl e (noted_between notes low high)
  where
    more : (q : ℕ) (same : Bool) → (m : Note) → note_of_place notes q ≡ Some m → (n.pc == q) ≡ same
        → (k : Note) × (note_of_place (n ∷ notes) q ≡ Some k)
    more q true m e is = (n, ap (λ (b : Bool). if b then Some n else note_of_place notes q) is)
    more q false m e is = (m, ap (λ (b : Bool). if b then Some n else note_of_place notes q) is ∙ e)

    by : (b : Bool) → (nat_lt low n.pc && nat_lt n.pc high) ≡ b
        → (b || list_any (λ n. nat_lt low n.pc && nat_lt n.pc high) notes) ≡ true
        → (list_any (λ n. nat_lt low n.pc && nat_lt n.pc high) notes ≡ true
        → (q : ℕ) × (m : Note) × (low < q) × (q < high) × (note_of_place notes q ≡ Some m))
        → (q : ℕ) × (k : Note) × (low < q) × (q < high) × (note_of_place (n ∷ notes) q ≡ Some k)
    by true is e rest =
        let parts = and_parts (nat_lt low n.pc) (nat_lt n.pc high) is in (
          n.pc,
          n,
          ltb-true low n.pc parts.0,
          ltb-true n.pc high parts.1,
          ap (λ (b : Bool). if b then Some n else note_of_place notes n.pc) (eq-eqb n.pc n.pc refl),
        )
    by false is e rest =
        let h = rest e in
        let k = more h.0 (n.pc == h.0) h.1 h.4 refl in
        (h.0, k.0, h.2, h.3, k.1)

pub quiet-no_note : (o : Parts) (low high : ℕ) → Quiet o low high → has_note_between o low high ≡ false
unfolding Quiet claimed_at
quiet-no_note o low high quiet = by (has_note_between o low high) refl
  where
    by : (b : Bool) → has_note_between o low high ≡ b → b ≡ false
    by false is = refl
    by true is =
        let h = noted_between o.notes low high is in
        absurd (let f : ◌≡◌ {A = Option Known} None (Some (note_known h.1)) = sym (quiet h.0 h.2 h.3)
        ∙ ap (option_map note_known) h.4 in cc)

-- a region has its shape under other notes too, where none is within
ahead : (o : Parts) (p : ℕ) (offset : ℤ) (t : ℕ) → target_of o p offset ≡ t → p < t → t < length o.code
    → (n : ℕ) × (offset ≡ pos n) × (p + n ≡ t)
ahead o p (pos n) t e lt inside = (n, refl, e)
ahead o p (negsuc n) t e lt inside = by (nat_lt n p) e
  where
    by : (b : Bool) → (if b then p - (n + 1) else length o.code) ≡ t → (m : ℕ) × (negsuc n ≡ pos m) × (p + m ≡ t)
    by true e = absurd (omega arith)
    by false e = absurd (omega arith)

pub shape-renoted : (o : Parts) (notes : List Note) (depth end p : ℕ) (offset : ℤ) (t join : ℕ)
    → shape o depth end p offset ≡ Arms t join → has_note_between (with_notes o notes) p join ≡ false
    → shape (with_notes o notes) depth end p offset ≡ Arms t join
shape-renoted o notes depth end p offset t join arms none =
    let r = shape-arms o depth end p offset t join arms in
    let on = ahead o p offset t r.target (omega (arith, r.first)) (omega (arith, r.second, r.in_code)) in
    let back = ahead o (t - 1) r.back join r.joins (omega (arith, r.first, r.second)) r.in_code in
    let n = on.0 in
    let m = back.0 in
    let same : p + n ≡ t = on.2 in
    let at : p + n - 1 + m ≡ join = omega (arith, on.2, back.2) in
    let jump : slice_get o.code (p + n - 1) ≡ Some (Jmp (pos m)) =
    subst (λ (q : ℕ). slice_get o.code (q - 1) ≡ Some (Jmp (pos m))) (sym same)
    (subst (λ (z : ℤ). slice_get o.code (t - 1) ≡ Some (Jmp z)) back.1 r.jump) in
    let made = shape-region (with_notes o notes) depth end p n m r.around (omega (arith, r.first, on.2))
    (omega (arith, back.2, r.second, r.first)) jump
    (omega (arith, at, same, r.second)) (omega (arith, at, r.ends)) (omega (arith, at, r.in_code))
    (subst (λ (q : ℕ). has_note_between (with_notes o notes) p q ≡ false) (sym at) none) in
    subst (λ (z : ℤ). shape (with_notes o notes) depth end p z ≡ Arms t join) (sym on.1)
    (made ∙ ap (λ (q : ℕ). Arms q (p + n - 1 + m)) same ∙ ap (Arms t) at)

-- one instruction
module _ (a : Parts) (others : List Note) (s low : SymState) (h : IsBelow low s) where
  -- it continues again
  pub record GoesAgain (i : Instr) (pattern : Shown TreeEvent) (t : SymState) : Type 0 where
    pub goes : only_goes_on i ≡ true
    pub behind : t ≡ held_behind (without_notes a) s i
    pub again : single (with_notes a others) low i ≡ Goes pattern (held_behind (without_notes a) low i)

  refuses_not : {A : Type 0} (reason : Reason) (pattern : Shown TreeEvent) (t : SymState)
      → ◌≡◌ {A = Single} (Refuses reason) (Goes pattern t) → A
  refuses_not reason pattern t e = absurd cc

  slot_again : (b c : SymSlot) → ¬ (b ≡ AnySlot) → Keeps AnySlot c b → c ≡ b
  slot_again b c some (inl e) = absurd (some e)
  slot_again b c some (inr e) = e

  tree_again : (t : Value) (v : Option Value) → Keeps None v (Some t) → v ≡ Some t
  tree_again t v (inl e) = absurd (let f : ◌≡◌ {A = Option Value} (Some t) None = e in cc)
  tree_again t v (inr e) = e

  module _ (pattern : Shown TreeEvent) (t : SymState) where
    again_by : (shown : Shown TreeEvent) (x y : SymState) → ◌≡◌ {A = Single} (Goes shown x) (Goes pattern t)
        → (t ≡ x) × (◌≡◌ {A = Single} (Goes shown y) (Goes pattern y))
    again_by shown x y e =
        let first : shown ≡ pattern = cc in
        let second : x ≡ t = cc in
        (sym second, ap (λ (p : Shown TreeEvent). Goes p y) first)

    bound_again : (b c : SymSlot) (x y : Single) → Keeps AnySlot c b → if_bound b x ≡ Goes pattern t
        → (x ≡ Goes pattern t) × (if_bound c y ≡ y)
    bound_again AnySlot c x y kept e = refuses_not _ pattern t e
    bound_again (RamSlot block origin) c x y kept e =
        (e, ap (λ (b : SymSlot). if_bound b y) (slot_again (RamSlot block origin) c (λ f. absurd cc) kept))
    bound_again (EramSlot block) c x y kept e =
        (e, ap (λ (b : SymSlot). if_bound b y) (slot_again (EramSlot block) c (λ f. absurd cc) kept))
    bound_again (OramSlot bank) c x y kept e =
        (e, ap (λ (b : SymSlot). if_bound b y) (slot_again (OramSlot bank) c (λ f. absurd cc) kept))

    stored_again : (b c : SymSlot) (x y : Single) → Keeps AnySlot c b → if_stored b x ≡ Goes pattern t
        → (x ≡ Goes pattern t) × (if_stored c y ≡ y)
    stored_again AnySlot c x y kept e = refuses_not _ pattern t e
    stored_again (RamSlot block origin) c x y kept e = refuses_not _ pattern t e
    stored_again (EramSlot block) c x y kept e =
        (e, ap (λ (b : SymSlot). if_stored b y) (slot_again (EramSlot block) c (λ f. absurd cc) kept))
    stored_again (OramSlot bank) c x y kept e =
        (e, ap (λ (b : SymSlot). if_stored b y) (slot_again (OramSlot bank) c (λ f. absurd cc) kept))

    block_again : (b c : SymSlot) → Keeps AnySlot c b → stores s b ≡ Goes pattern t
        → (t ≡ s) × (stores low c ≡ Goes pattern low)
    block_again AnySlot c kept e = refuses_not _ pattern t e
    block_again (RamSlot block origin) c kept e = refuses_not _ pattern t e
    block_again (EramSlot block) c kept e =
        let r = again_by _ s low e in
        (r.0, ap (stores low) (slot_again (EramSlot block) c (λ f. absurd cc) kept) ∙ r.1)
    block_again (OramSlot bank) c kept e =
        let r = again_by _ s low e in
        (r.0, ap (stores low) (slot_again (OramSlot bank) c (λ f. absurd cc) kept) ∙ r.1)

    -- a load, by the kind of its bank
    loads_by : (ram eram : Bool) (bank k : ℕ) (x : SymState) (v : Option Value) → Single
    loads_by ram eram bank k x v =
        if ram then at_tree v (λ u. Goes (event (RamRead (named_block (without_notes a) bank u)))
        (hold_slot x k (RamSlot (named_block (without_notes a) bank u) Loaded)))
        else (if eram then at_tree v (λ u. Goes (event (EncRead (named_block (without_notes a) bank u)))
        (hold_slot x k (EramSlot (named_block (without_notes a) bank u))))
        else Goes (event (Oram bank)) (hold_slot x k (OramSlot bank)))

    slot_by : (ram eram : Bool) (bank : ℕ) (v : Option Value) → SymSlot
    slot_by ram eram bank v =
        if ram then ram_loaded (without_notes a) bank v else (if eram then eram_loaded
        (without_notes a) bank v else OramSlot bank)

    loaded_again : (ram eram : Bool) (bank k : ℕ) (v w : Option Value) → Keeps None w v
        → loads_by ram eram bank k s v ≡ Goes pattern t
        → (t ≡ hold_slot s k (slot_by ram eram bank v))
        × (loads_by ram eram bank k low w ≡ Goes pattern (hold_slot low k (slot_by ram eram bank w)))
    unfolding loads_by slot_by
    loaded_again true eram bank k None w kept e = refuses_not _ pattern t e
    loaded_again true eram bank k (Some u) w kept e =
        let r = again_by _ _ (hold_slot low k (RamSlot (named_block (without_notes a) bank u) Loaded)) e in (
          r.0,
          subst (λ (x : Option Value). loads_by true eram bank k low x
              ≡ Goes pattern (hold_slot low k (slot_by true eram bank x))) (sym (tree_again u w kept)) r.1,
        )
    loaded_again false true bank k None w kept e = refuses_not _ pattern t e
    loaded_again false true bank k (Some u) w kept e =
        let r = again_by _ _ (hold_slot low k (EramSlot (named_block (without_notes a) bank u))) e in (
          r.0,
          subst (λ (x : Option Value). loads_by false true bank k low x
              ≡ Goes pattern (hold_slot low k (slot_by false true bank x))) (sym (tree_again u w kept)) r.1,
        )
    loaded_again false false bank k v w kept e = again_by _ _ (hold_slot low k (OramSlot bank)) e

    pub single-again : (i : Instr) → single a s i ≡ Goes pattern t → GoesAgain i pattern t
    unfolding single held_behind loads_by slot_by
    single-again Nop e = let r = again_by _ _ low e in record { goes = refl; behind = r.0; again = r.1 }
    single-again Halt e = refuses_not _ pattern t e
    single-again (Li rd value) e =
        let r = again_by _ _ (held_behind (without_notes a) low (Li rd value)) e in
        record { goes = refl; behind = r.0; again = r.1 }
    single-again (Alu op rd ra rb) e =
        let r = again_by _ _ (held_behind (without_notes a) low (Alu op rd ra rb)) e in
        record { goes = refl; behind = r.0; again = r.1 }
    single-again (Ldb k bank r) e =
        let l = loaded_again (is_ram bank) (is_eram bank) bank k (tree_held s r) (tree_held low r) (h.trees r) e in
        record { goes = refl; behind = l.0; again = l.1 }
    single-again (Stb k) e =
        let b = block_again (slot_held s k) (slot_held low k) (h.slots k) e in
        record { goes = refl; behind = b.0; again = b.1 }
    single-again (Idb rd k) e =
        let b = bound_again (slot_held s k) (slot_held low k) _ _ (h.slots k) e in
        let r = again_by _ _ (held_behind (without_notes a) low (Idb rd k)) b.0 in
        record { goes = refl; behind = r.0; again = b.1 ∙ r.1 }
    single-again (Ldw rd k ro) e =
        let b = bound_again (slot_held s k) (slot_held low k) _ _ (h.slots k) e in
        let r = again_by _ _ (held_behind (without_notes a) low (Ldw rd k ro)) b.0 in
        record { goes = refl; behind = r.0; again = b.1 ∙ r.1 }
    single-again (Stw rs k ro) e =
        let b = stored_again (slot_held s k) (slot_held low k) _ _ (h.slots k) e in
        let r = again_by _ _ low b.0 in
        record { goes = refl; behind = r.0; again = b.1 ∙ r.1 }
    single-again (Jmp offset) e = refuses_not _ pattern t e
    single-again (Br cmp ra rb offset) e =
        absurd (let f : ◌≡◌ {A = Single} (Branches offset) (Goes pattern t) = e in cc)

quiet_at : (o : Parts) (low high : ℕ) → Quiet o low high → (q : ℕ) → low < q → q < high → claimed_at o q ≡ None
unfolding Quiet
quiet_at o low high quiet q a b = quiet q a b

pub quiet_of : (o : Parts) (low high : ℕ) → ((q : ℕ) → low < q → q < high → claimed_at o q ≡ None) → Quiet o low high
unfolding Quiet
quiet_of o low high h = h

pub ends_ahead : (a : Parts) (depth end p : ℕ) (offset : ℤ) (s : SymState) (pattern : Shown TreeEvent)
    (join : ℕ) (t : SymState) → CrossesTo a depth end p offset s pattern join t
    → (p < join) × (join ≤ end)
ends_ahead a depth end p offset s pattern join t
    (BothArms d e p' f s' second j' one left other right arms first behind ways) =
    let r = shape-arms a depth end p offset second join arms in
    (omega (arith, r.first, r.second), r.ends)

-- an arm, and a region
pub record WalkedAgain (a : Parts) (others : List Note) (depth end p : ℕ) (low : SymState)
    (pattern : Shown TreeEvent) (t : SymState) : Type 0 where
  pub state : SymState
  pub walk : WalksTo (with_notes a others) depth end p low pattern state
  pub below : IsBelow state t

pub record CrossedAgain (a : Parts) (others : List Note) (depth end p : ℕ) (offset : ℤ) (low : SymState)
    (pattern : Shown TreeEvent) (join : ℕ) (t : SymState) : Type 0 where
  pub state : SymState
  pub crosses : CrossesTo (with_notes a others) depth end p offset low pattern join state
  pub below : IsBelow state t

mutual
  pub walks-again : (a : Parts) (others : List Note) (depth end p : ℕ) (s : SymState) (pattern : Shown TreeEvent)
      (t low : SymState)
      → WalksTo a depth end p s pattern t → IsBelow low s → (from : ℕ) → from ≤ p
      → Quiet (with_notes a others) from end → WalkedAgain a others depth end p low pattern t
  walks-again a others depth end p s pattern t low (AtEnd d e s') h from le quiet =
      record { state = low; walk = AtEnd depth end low; below = h }
  walks-again a others depth end p s pattern t low
      (Onward d e p' s' i shown u rest v before at goes walk) h from le quiet =
      let one = single-again a others s low h shown u i goes in
      let below : IsBelow (held_behind (without_notes a) low i) u =
      subst (IsBelow (held_behind (without_notes a) low i)) (sym one.behind) (held-below (without_notes a) low s i h) in
      let r = walks-again a others depth end (p + 1) u rest t (held_behind (without_notes a) low i) walk below from
      (omega arith)
      quiet in
      record {
        state = r.state;
        walk = Onward depth end p low i shown (held_behind
            (without_notes a) low i) rest r.state before at one.again r.walk;
        below = r.below;
      }
  walks-again a others depth end p s pattern t low
      (Across d e p' s' cmp ra rb offset shown join u rest v before at crosses walk) h from le quiet =
      let region = ends_ahead a depth end p offset s shown join u crosses in
      let m = crosses-again a others depth end p offset s shown join u low crosses h
      (quiet_of (with_notes a others) p join
      (λ q after before. quiet_at (with_notes a others) from end quiet q (omega arith) (omega
      (arith, region.0, region.1)))) in
      let r = walks-again a others depth end join u rest t m.state walk m.below from (omega
      (arith, region.0, region.1)) quiet in
      record {
        state = r.state;
        walk = Across depth end p low cmp ra rb offset shown join m.state rest r.state before at m.crosses r.walk;
        below = r.below;
      }

  pub crosses-again : (a : Parts) (others : List Note) (depth end p : ℕ) (offset : ℤ) (s : SymState)
      (pattern : Shown TreeEvent) (join : ℕ) (t low : SymState)
      → CrossesTo a depth end p offset s pattern join t → IsBelow low s
      → Quiet (with_notes a others) p join → CrossedAgain a others depth end p offset low pattern join t
  crosses-again a others depth end p offset s pattern join t low
      (BothArms d e p' f s' second j' one left other right arms first behind ways) h quiet =
      let region = shape-arms a depth end p offset second join arms in
      let l = walks-again a others (depth + 1) (second - 1) (p + 1) s one left low first h p (omega arith)
      (quiet_of (with_notes a others) p (second - 1)
      (λ q after before. quiet_at (with_notes a others) p join quiet q after (omega (arith, region.second)))) in
      let r = walks-again a others (depth + 1) join second s other right low behind h p
      (omega (arith, region.first)) quiet in
      record {
        state = common l.state r.state;
        crosses = BothArms depth end p offset low second join one l.state other r.state
            (shape-renoted a others depth end p offset second join arms
            (quiet-no_note (with_notes a others) p join quiet)) l.walk r.walk ways;
        below = common-below l.state left r.state right l.below r.below;
      }
