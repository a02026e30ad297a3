-- A text's error is that of its first line with an error, or of the whole text.
use Rattle.std.proofs.Common.{◌≡◌, ◌≢◌, ℕ, ◌+◌, ◌≤◌, Bool, true, false, cond, List, [], ◌∷◌, ◌++◌, length, Option, Some, None, Result, Ok, Err, IfErr, refl, sym, ap, subst, ◌∙◌, arith, length-append}
use Rattle.std.specs.Prelude.{◌&&◌, is_some}
use Rattle.std.proofs.lemmas.Bool.{and_parts, and_from, leb-true, le-leb, not-true}
use Rattle.gr_base.specs.Prelude.{◌>>=◌}
use Rattle.lt_isa.specs.declared.profiles.Profile.{Profile}
use Rattle.lt_isa.specs.Prelude.{Parts}
use Rattle.lt_assembler.specs.declared.faults.Fault.{Fault}
use Rattle.lt_assembler.specs.declared.errors.AsmError.{AsmError}
use Rattle.lt_assembler.specs.declared.errors.AsmError.TheVariants.{Memory, BadLine, UnknownName}
use Rattle.lt_assembler.specs.Prelude.{lines, at_line, in_line, Finds, Labels, Draft, empty_draft, line_read, read_lines, instruction_follows, settled, parts_of, is_whole, finished_with, finished, assembled, Item, Stands, StagesInOrder, gathered, instruction_in, labels_in, Earlier, given, Says, HasFault, Leads, Here, On, IsFirstFaulty, AreSaid, IsComplete, IsFirstTextFault, InLine, TooShort}
use Rattle.lt_assembler.specs.FirstFaults.{Unknown as UnknownLabel}
use Rattle.lt_assembler.proofs.Added.{added, adds, IsFresh, AreFresh, stage_in}
use Rattle.lt_assembler.proofs.Earlier.{earlier_of, given_is, adds-push, fresh-push, order-push, stage_there}
use Rattle.lt_assembler.proofs.Gathered.{SameLabels, option_list}
use Rattle.lt_assembler.proofs.InRange.{nothing_goes}
use Rattle.lt_assembler.proofs.LineByLine.{read_one, read_fault, read_none}
use Rattle.lt_assembler.proofs.LineFaults.{line_is_judged, said_is_read, fault_is_read, spelled_stands, said_fresh}
use Rattle.lt_assembler.proofs.ReadsForm.{false_by}
use Rattle.lt_assembler.proofs.Settled.{Settles, Known, Unknown, IsUnknownUse}
use Rattle.lt_assembler.proofs.Spelled.{is_gathered, settling}
use Rattle.lt_assembler.proofs.SpelledRead.{no_instruction, some_code}
use Rattle.lt_assembler.proofs.Splitting.{positive}
use Rattle.lt_assembler.proofs.UnknownLabels.{one_unknown, unknown_use, use_unknown}
use Rattle.lt_assembler.proofs.Waiting.{Goes, line_goes}

-- a draft of items, after which these lines come
record IsAt (items : List Item) (ls : List (List ℕ)) (d : Draft) : Type 0 where
  ordered : StagesInOrder (stage_in empty_draft) items
  fresh : AreFresh 1 items empty_draft
  is : d ≡ adds 1 items empty_draft
  goes : Goes (instruction_follows ls) d

at_start : (ls : List (List ℕ)) → IsAt [] ls empty_draft
at_start ls = record { ordered = tt; fresh = tt; is = refl; goes = nothing_goes _ }

given_at : (items : List Item) (ls : List (List ℕ)) (d : Draft)
    → IsAt items ls d → given items ≡ earlier_of d (labels_in items)
given_at items ls d at = given_is items d at.ordered at.fresh at.is

same_at : (items : List Item) (ls : List (List ℕ)) (d : Draft) → IsAt items ls d → SameLabels d.labels (labels_in items)
same_at items ls d at = (is_gathered items d at.ordered at.fresh at.is).same

-- one more line
step : (n : ℕ) (items : List Item) (line : List ℕ) (rest : List (List ℕ)) (d : Draft) (item : Item)
    → n ≡ length items + 1 → IsAt items (line ∷ rest) d → Says (earlier_of d (labels_in items)) line rest item
    → IsAt (items ++ item ∷ []) rest (added n item d)
step n items line rest d item number at says =
    let labels = labels_in items in
    let same = same_at items (line ∷ rest) d at in
    let fits = at.goes.fits in
    let read = said_is_read d labels rest fits same n line item says in
    let next = (line_goes n (instruction_follows rest) line d at.goes).then (added n item d) read in
    let stands = spelled_stands d labels rest fits same line item says.in_range in
    let fresh = said_fresh d labels rest fits same item says.new in
    record {
      ordered = order-push (stage_in empty_draft) items item at.ordered
          (subst (λ m. Stands m item) (sym (stage_there items d at.ordered at.is)) stands);
      fresh = fresh-push 1 items item empty_draft at.fresh (subst (λ x. IsFresh x item) at.is fresh);
      is = ap (λ x. added n item x) at.is ∙ ap (λ m. added m item (adds 1 items empty_draft)) number
          ∙ sym (adds-push 1 items item empty_draft);
      goes = record { fits = next.by.says.fits; waits = next.by.waits };
    }

-- lines that were all read
record AllSaid (before : List Item) (ls : List (List ℕ)) (d : Draft) : Type 0 where
  items : List Item
  leads : Leads before ls items []
  at : IsAt items [] d

-- a line with an error after lines without one
record FaultBehind (before : List Item) (ls : List (List ℕ)) (e : AsmError) : Type 0 where
  items : List Item
  line : List ℕ
  after : List (List ℕ)
  fault : Fault
  leads : Leads before ls items (line ∷ after)
  faulty : HasFault (given items) line after fault
  error : at_line (length items + 1) fault ≡ e

abbrev Outcome : List Item → List (List ℕ) → Result Draft AsmError → Type 0
Outcome before ls (Ok d) = AllSaid before ls d
Outcome before ls (Err e) = FaultBehind before ls e

more_lines : (before : List Item) (line : List ℕ) (rest : List (List ℕ)) (item : Item) (r : Result Draft AsmError)
    → Says (given before) line rest item → Outcome (before ++ item ∷ []) rest r → Outcome before (line ∷ rest) r
more_lines before line rest item (Ok d) says k =
    record { items = k.items; leads = On before line rest item k.items [] says k.leads; at = k.at }
more_lines before line rest item (Err e) says k = record {
  items = k.items;
  line = k.line;
  after = k.after;
  fault = k.fault;
  leads = On before line rest item k.items (k.line ∷ k.after) says k.leads;
  faulty = k.faulty;
  error = k.error;
}

next_number : (n : ℕ) (before : List Item) (item : Item)
    → n ≡ length before + 1 → n + 1 ≡ length (before ++ item ∷ []) + 1
next_number n before item number = omega (arith, number, length-append before (item ∷ []))

lead : (n : ℕ) (before : List Item) (ls : List (List ℕ)) (d : Draft)
    → n ≡ length before + 1 → IsAt before ls d → Outcome before ls (read_lines n ls d)
unfolding read_lines
lead n before [] d number at = record { items = before; leads = Here before []; at = at }
lead n before (line ∷ rest) d number at =
    of_line (line_read n (instruction_follows rest) line d) refl (λ items x. lead (n + 1) items rest x) where
      to_given : (P : Earlier → Type 0) → P (earlier_of d (labels_in before)) → P (given before)
      to_given P p = subst P (sym (given_at before (line ∷ rest) d at)) p

      of_line : (r : Result Draft Fault) → line_read n (instruction_follows rest) line d ≡ r
          → ((items : List Item) (x : Draft) → n + 1 ≡ length items + 1 → IsAt items rest x
          → Outcome items rest (read_lines (n + 1) rest x))
          → Outcome before (line ∷ rest) (in_line n r >>= read_lines (n + 1) rest)
      of_line (Err fault) here more = record {
        items = before;
        line = line;
        after = rest;
        fault = fault;
        leads = Here before (line ∷ rest);
        faulty = to_given (λ e. HasFault e line rest fault)
            (line_is_judged d (labels_in before) rest at.goes.fits (same_at before (line ∷ rest) d at) n line
            (Err fault) here);
        error = ap (λ m. at_line m fault) (sym number);
      }
      of_line (Ok x) here more =
          let found =
          line_is_judged d (labels_in before) rest at.goes.fits (same_at before (line ∷ rest) d at) n line (Ok x)
          here in
          let next = step n before line rest d found.0 number at found.1 in
          more_lines before line rest found.0 (read_lines (n + 1) rest x)
          (to_given (λ e. Says e line rest found.0) found.1)
          (more (before ++ found.0 ∷ []) x (next_number n before found.0 number)
          (subst (IsAt (before ++ found.0 ∷ []) rest) (sym found.2) next))

-- after the items of lines without an error, reading continues with the lines that are left
record Reached (n : ℕ) (ls : List (List ℕ)) (d : Draft) (items : List Item) (after : List (List ℕ)) : Type 0 where
  draft : Draft
  at : IsAt items after draft
  read : read_lines n ls d ≡ read_lines (length items + 1) after draft

reach : (n : ℕ) (before : List Item) (ls : List (List ℕ)) (d : Draft) (items : List Item) (after : List (List ℕ))
    → Leads before ls items after → n ≡ length before + 1 → IsAt before ls d → Reached n ls d items after
reach n _ _ d _ _ (Here items rest) number at =
    record { draft = d; at = at; read = ap (λ m. read_lines m rest d) number }
reach n _ _ d _ _ (On before line rest item items after says leads) number at =
    let here : Says (earlier_of d (labels_in before)) line rest item =
    subst (λ e. Says e line rest item) (given_at before (line ∷ rest) d at) says in
    let read =
    said_is_read d (labels_in before) rest at.goes.fits (same_at before (line ∷ rest) d at) n line item here in
    let next =
    reach (n + 1) (before ++ item ∷ []) rest (added n item d) items after leads (next_number n before item number)
    (step n before line rest d item number at here) in
    record {
      draft = next.draft;
      at = next.at;
      read = read_one n line rest d (added n item d) read ∙ next.read;
    }

-- the end of a text

err_is : {X : Type 0} (a b : AsmError) → ◌≡◌ {A = Result X AsmError} (Err a) (Err b) → a ≡ b
err_is a b e = cc

ok_no_err : {X : Type 0} (x : X) (e : AsmError) → ◌≡◌ {A = Result X AsmError} (Ok x) (Err e) → ⊥
ok_no_err x e h = cc

-- there are a first line, two banks and an instruction
abbrev is_complete : Draft → Bool
is_complete d = is_some d.profile && is_whole d

one_there : (o : Option Profile) → is_some o ≡ true → 1 ≤ length (option_list o)
one_there None e = absurd cc
one_there (Some p) e = omega arith

there_one : (o : Option Profile) → 1 ≤ length (option_list o) → is_some o ≡ true
there_one None h = absurd (omega (arith, h))
there_one (Some p) h = refl

complete_by : (d : Draft) (labels : Labels) → is_complete d ≡ true → IsComplete (earlier_of d labels)
complete_by d labels e =
    let p = and_parts _ _ e in
    let q = and_parts _ _ p.1 in
    record {
      profile = one_there d.profile p.0;
      banks = leb-true _ _ q.0;
      code = positive (length d.code) (not-true _ q.1);
    }

by_complete : (d : Draft) (labels : Labels) → IsComplete (earlier_of d labels) → is_complete d ≡ true
by_complete d labels h =
    and_from _ _ (there_one d.profile h.profile)
    (and_from _ _ (le-leb 2 (length d.banks) h.banks) (some_code (length d.code) h.code))

abbrev end_line : List ℕ → ℕ
end_line text = length (lines text) + 1

-- a text that was read to its end
module _ (text : List ℕ) (d : Draft) (items : List Item) (said : AreSaid text items) (at : IsAt items [] d) where
  is_given : given items ≡ earlier_of d (labels_in items)
  is_given = given_at items [] d at

  settles_so : Settles (labels_in items) d.labels 1 0 items [] d.code d.uses
  settles_so = settling items d (is_gathered items d at.ordered at.fresh at.is)

  complete : is_complete d ≡ true → IsComplete (given items)
  complete e = subst IsComplete (sym is_given) (complete_by d (labels_in items) e)

  complete_back : IsComplete (given items) → is_complete d ≡ true
  complete_back h = by_complete d (labels_in items) (subst IsComplete is_given h)

  short : (e : AsmError) → is_complete d ≡ false
      → ◌≡◌ {A = Result Parts AsmError} (Err (BadLine (end_line text))) (Err e) → IsFirstTextFault text e
  short e lacks h =
      subst (IsFirstTextFault text) (err_is {X = Parts} (BadLine (end_line text)) e h)
      (TooShort items said (λ whole. let bad : true ≡ false = sym (complete_back whole) ∙ lacks in cc))

  unsettled : (p : Profile) (e : AsmError) → is_complete d ≡ true
      → Settles (labels_in items) d.labels 1 0 items [] d.code d.uses
      → (settled d.labels d.uses d.code >>= (λ code. Ok (parts_of p d code))) ≡ Err e → IsFirstTextFault text e
  unsettled p e whole (Known final is s) h =
      absurd (ok_no_err (parts_of p d final) e (sym (ap (λ r. r >>= (λ code. Ok (parts_of p d code))) s) ∙ h))
  unsettled p e whole (Unknown n u s) h =
      let same : UnknownName n ≡ e =
      err_is {X = Parts} (UnknownName n) e (sym (ap (λ r. r >>= (λ code. Ok (parts_of p d code))) s) ∙ h) in
      subst (IsFirstTextFault text) same (UnknownLabel items n said (complete whole) (use_unknown items n u))

  by_whole : (p : Profile) (e : AsmError) → d.profile ≡ Some p → (b : Bool) → is_whole d ≡ b
      → cond b (settled d.labels d.uses d.code >>= (λ code. Ok (parts_of p d code))) (Err (BadLine (end_line text)))
      ≡ Err e → IsFirstTextFault text e
  by_whole p e is false whole h = short e (rw (is, whole) refl) h
  by_whole p e is true whole h = unsettled p e (rw (is, whole) refl) settles_so h

  by_profile : (e : AsmError) (p : Option Profile)
      → d.profile ≡ p → finished_with (end_line text) p d ≡ Err e → IsFirstTextFault text e
  by_profile e None is h = short e (rw is refl) h
  by_profile e (Some p) is h = by_whole p e is (is_whole d) refl h

  at_end : (e : AsmError) → finished (end_line text) d ≡ Err e → IsFirstTextFault text e
  unfolding finished
  at_end e h = by_profile e d.profile refl h

-- an error of a line
line_first : (text : List ℕ) (e : AsmError) → FaultBehind [] (lines text) e → IsFirstTextFault text e
line_first text e k =
    let whole : IsFirstFaulty text (length k.items + 1) k.fault = record {
      items = k.items;
      line = k.line;
      after = k.after;
      before = k.leads;
      number = refl;
      faulty = k.faulty;
    } in
    subst (IsFirstTextFault text) k.error (InLine (length k.items + 1) k.fault whole)

-- the error that is returned is the first
pub first_fault : (text : List ℕ) (e : AsmError) → assembled text ≡ Err e → IsFirstTextFault text e
unfolding assembled
first_fault text e h =
    of_lines (read_lines 1 (lines text) empty_draft)
    (lead 1 [] (lines text) empty_draft refl (at_start (lines text))) h
  where
    of_lines : (r : Result Draft AsmError) → Outcome [] (lines text) r
        → (r >>= finished (length (lines text) + 1)) ≡ Err e → IsFirstTextFault text e
    of_lines (Ok d) k g = at_end text d k.items k.leads k.at e g
    of_lines (Err fault) k g =
        line_first text e (subst (FaultBehind [] (lines text)) (err_is {X = Parts} fault e g) k)

-- the error that a call returned is the first
pub is_first : {X : Type 0} (text : List ℕ) (view : X → Parts) (r : Result X AsmError)
    → Finds view r (assembled text) → IfErr r (λ e. e ≢ Memory → IsFirstTextFault text e)
is_first text view (Ok o) h = tt
is_first text view (Err e) h = λ other. first_fault text e (h other)

-- the first error is the one that is returned

reach_from_start : (text : List ℕ) (items : List Item) (after : List (List ℕ))
    → Leads [] (lines text) items after → Reached 1 (lines text) empty_draft items after
reach_from_start text items after leads =
    reach 1 [] (lines text) empty_draft items after leads refl (at_start (lines text))

in_line_fault : (text : List ℕ) (n : ℕ) (fault : Fault)
    → IsFirstFaulty text n fault → assembled text ≡ Err (at_line n fault)
unfolding assembled
in_line_fault text n fault h =
    let k = reach_from_start text h.items (h.line ∷ h.after) h.before in
    let d = k.draft in
    let faulty : HasFault (earlier_of d (labels_in h.items)) h.line h.after fault =
    subst (λ e. HasFault e h.line h.after fault) (given_at h.items (h.line ∷ h.after) d k.at) h.faulty in
    let here =
    fault_is_read d (labels_in h.items) h.after k.at.goes.fits (same_at h.items (h.line ∷ h.after) d k.at)
    (length h.items + 1) h.line fault faulty in
    let read : read_lines 1 (lines text) empty_draft ≡ Err (at_line n fault) =
    k.read ∙ read_fault (length h.items + 1) h.line h.after d fault here
    ∙ ap (λ m. Err (at_line m fault)) (sym h.number) in
    rw read refl

-- a text that ends too early
complete_first : (p : Option Profile) (whole : Bool)
    → (is_some p && whole) ≡ true → (q : Profile) × (p ≡ Some q) × (whole ≡ true)
complete_first None whole e = absurd cc
complete_first (Some q) whole e = (q, refl, e)

ends_soon : (n : ℕ) (d : Draft) (p : Option Profile) (b : Bool)
    → is_whole d ≡ b → (is_some p && b) ≡ false → finished_with n p d ≡ Err (BadLine n)
ends_soon n d None b whole e = refl
ends_soon n d (Some p) true whole e = absurd cc
ends_soon n d (Some p) false whole e = rw whole refl

too_short : (n : ℕ) (d : Draft) → is_complete d ≡ false → finished n d ≡ Err (BadLine n)
unfolding finished
too_short n d e = ends_soon n d d.profile (is_whole d) refl e

settled_fault : (labels sorted : Labels) (items : List Item) (d : Draft) (n : ℕ)
    → Settles labels sorted 1 0 items [] d.code d.uses → IsUnknownUse labels 1 items n
    → settled sorted d.uses d.code ≡ Err (UnknownName n)
settled_fault labels sorted items d n (Known final given s) u =
    absurd (no_instruction labels 0 u.before u.after u.instr u.name final u.nowhere
    (ap (gathered (instruction_in labels) 0) (sym u.whole) ∙ given))
settled_fault labels sorted items d n (Unknown m v s) u =
    s ∙ ap (λ k. Err (UnknownName k)) (one_unknown labels items m n v u)

ends_unsettled : (n : ℕ) (d : Draft) (p : Profile) (e : AsmError)
    → d.profile ≡ Some p → is_whole d ≡ true → settled d.labels d.uses d.code ≡ Err e → finished n d ≡ Err e
unfolding finished
ends_unsettled n d p e is whole s = rw (is, whole, s) refl

end_fault : (text : List ℕ) (items : List Item) (e : AsmError) → (k : Reached 1 (lines text) empty_draft items [])
    → finished (end_line text) k.draft ≡ Err e → assembled text ≡ Err e
unfolding assembled
end_fault text items e k h =
    let fine : read_lines 1 (lines text) empty_draft ≡ Ok k.draft = k.read ∙ read_none _ k.draft in rw fine h

-- the first error of a text is returned, so it has no other
pub one_fault : (text : List ℕ) (e : AsmError) → IsFirstTextFault text e → assembled text ≡ Err e
one_fault text _ (InLine n fault h) = in_line_fault text n fault h
one_fault text _ (TooShort items said lacks) =
    let k = reach_from_start text items [] said in
    end_fault text items _ k
    (too_short (end_line text) k.draft (false_by _ (λ e. lacks (complete text k.draft items said k.at e))))
one_fault text _ (UnknownLabel items n said whole u) =
    let k = reach_from_start text items [] said in
    let parts =
    complete_first k.draft.profile (is_whole k.draft) (complete_back text k.draft items said k.at whole) in
    end_fault text items _ k
    (ends_unsettled (end_line text) k.draft parts.0 (UnknownName n) parts.1 parts.2
    (settled_fault (labels_in items) k.draft.labels items k.draft n (settles_so text k.draft items said k.at)
    (unknown_use items n u)))
