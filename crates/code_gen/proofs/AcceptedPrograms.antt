-- An object that a program was compiled to is accepted.
use Rattle.std.proofs.Common.{◌≡◌, ℕ, suc, ◌<◌, ◌≤◌, Bool, true, false, ◌||◌, ◌&&◌, List, [], ◌∷◌, ◌++◌, length, length-append, get_or, refl, sym, ap, ◌∙◌, subst, arith}
use Rattle.std.specs.List.{list_any}
use Rattle.std.proofs.lemmas.Bool.{ne_eqb}
use Rattle.std.proofs.lemmas.List.Sorted.{list_any-IsPermutation}
use Rattle.gr_word.specs.declared.variables.Label.{Label}
use Rattle.gr_word.specs.declared.variables.Label.TheVariants.{Public, Secret}
use Rattle.lt_isa.specs.declared.symbols.Symbol.{Symbol}
use Rattle.lt_isa.specs.declared.instructions.Instr.{Instr}
use Rattle.lt_isa.specs.Prelude.{Parts, is_ram}
use Rattle.src_tree.specs.declared.trees.Decl.{Decl}
use Rattle.src_tree.specs.Prelude.{context_of, IsWithinLimits, block_weight, max_weight, Source, IsTyped, DeclaredOnce, TypedBlock}
use Rattle.trace_patterns.specs.Prelude.{Accepts, has_secret_in_ram, is_secret_label}
use Rattle.bank_alloc.specs.declared.places.Place.{Place}
use Rattle.bank_alloc.specs.Prelude.{IsBankOf, IsLaidOut, placed_symbols}
use Rattle.scratch_alloc.specs.Prelude.{Plan, IsSoundPlan, no_decl, no_place}
use Rattle.block_cache_gen.specs.Prelude.{Setting, HasHomes, ranged, guard_code, HasSecretSlot}
use Rattle.block_cache_gen.proofs.Ranged.{homes-ranged}
use Rattle.block_cache_gen.proofs.Settled.{IsSettingOf, has-homes}
use Rattle.block_cache_gen.proofs.IndexesOfPrograms.{program-public}
use Rattle.branch_padding.proofs.NestingWeights.{choice-nesting}
use Rattle.branch_padding.proofs.PublicRegions.{choice-passes}
use Rattle.code_gen.specs.Prelude.{padding_of, program_code, program_notes}
use Rattle.code_gen.proofs.PassedParts.{held-open}
use Rattle.code_gen.proofs.PassedStatements.{BeginsGuarded, PassesPadded}
use Rattle.code_gen.proofs.PassedPrograms.{program-accepts}
use Rattle.block_cache_gen.specs.declared.frames.Mode.TheVariants as modes

-- no secret variable is stored in plain memory
plain_symbol : (label : Label) (bank : ℕ) → IsBankOf label bank → (is_ram bank && is_secret_label label) ≡ false
plain_symbol Public bank is = and_false (is_ram bank)
  where
    and_false : (b : Bool) → (b && false) ≡ false
    and_false true = refl
    and_false false = refl
plain_symbol Secret bank is =
    ap (λ (b : Bool). b && true) (ne_eqb bank 0 (λ e. absurd (omega arith)))

symbols_apart : (ds : List Decl) (places : List Place)
    → ((k : ℕ) → k < length ds → IsBankOf (get_or ds k no_decl).label (get_or places k no_place).bank)
    → list_any (λ (s : Symbol). is_ram s.bank && is_secret_label s.label) (placed_symbols ds places) ≡ false
symbols_apart [] places banks = refl
symbols_apart (d ∷ ds) [] banks = refl
symbols_apart (d ∷ ds) (q ∷ places) banks =
    ap (λ (b : Bool). b || list_any (λ (s : Symbol). is_ram s.bank
    && is_secret_label s.label) (placed_symbols ds places))
    (plain_symbol d.label q.bank (banks 0 (omega arith)))
    ∙ symbols_apart ds places (λ k lt. banks (suc k) (omega arith))

pub laid-plain : (p : Source) (w : ℕ) (plan : Plan) → IsSoundPlan p w plan → (o : Parts)
    → IsLaidOut p w plan.places plan.blocks o → has_secret_in_ram o ≡ false
laid-plain p w plan sound o layout =
    sym (list_any-IsPermutation (λ (s : Symbol). is_ram s.bank && is_secret_label s.label)
    (placed_symbols p.decls plan.places) o.symbols layout.symbols.each)
    ∙ symbols_apart p.decls plan.places (λ k lt. (sound.place k lt).label)

-- the code of a branch on a secret begins with its guard, and is passed
pub begins-guarded : BeginsGuarded padding_of
begins-guarded f t a b =
    longer (guard_code f modes.Public 0 t) _
  where
    longer : (xs ys : List Instr) → length xs ≤ length (xs ++ ys)
    longer xs ys = omega (arith, length-append xs ys)

pub passes-padded : (o : Parts) (f : Setting) → HasHomes o f → DeclaredOnce f.decls → 1 ≤ f.profile.taken
    → PassesPadded o f padding_of
passes-padded o f homes once some known t a b typed public low light secret p k stands notes inside open_here
    carries =
    let g = ranged f known in
    let on = homes-ranged o f known homes in
    let h = held-open o g on once p k open_here carries in
    let c = choice-passes o g on some t a b typed secret public low
    (choice-nesting (context_of f.decls) t a b secret light) once p k h.held
    (record { code_stands = stands; noted = notes.inner; behind = inside }) h.here h.carries in
    record { last = c.last; passes = c.passes; carries = c.carries }

-- an object with a program's variables at the places of a plan, and with the code and the notes of the program
pub laid-accepts : (p : Source) (w : ℕ) (plan : Plan) → IsTyped p → IsWithinLimits p → IsSoundPlan p w plan
    → (o : Parts) → IsLaidOut p w plan.places plan.blocks o
    → (f : Setting) → IsSettingOf p plan o f → HasSecretSlot f → 1 ≤ f.profile.taken → o.code ≡ program_code f padding_of p.body
    → o.notes ≡ program_notes f padding_of p.body → Accepts o
laid-accepts p w plan typed limits sound o layout f setting slot some code notes =
    let homes = has-homes p w plan limits sound o layout f setting in
    let once : DeclaredOnce f.decls = subst DeclaredOnce (sym setting.decls) typed.once in
    program-accepts o f padding_of p.body homes once slot begins-guarded (passes-padded o f homes once some)
    (subst (λ ds. TypedBlock (context_of ds) Public p.body) (sym setting.decls) typed.body)
    (program-public p w plan sound o f setting typed.body) limits.heights
    (subst (λ ds. block_weight (context_of ds) Public p.body ≤ max_weight) (sym setting.decls) limits.weight) code notes
    (laid-plain p w plan sound o layout)
