-- Accesses, one after another: the slots that they leave, and what is seen of them.
use Rattle.std.proofs.Common.{◌≡◌, false, ◌&&◌, cond, List, [], ◌∷◌, ◌++◌, get_or, refl, sym, ap, ◌∙◌, append_assoc}
use Rattle.lt_isa.specs.Prelude.{Slot, Unbound, read_event}
use Rattle.block_cache_gen.specs.declared.frames.Mode.{Mode}
use Rattle.block_cache_gen.specs.declared.frames.Mode.TheVariants.{Public, Real, Mirrored}
use Rattle.block_cache_gen.specs.Prelude.{Home, skips, ArrayAccess, Banks, block_in, slots_after, is_held, may_skip, seen_of, seen_of_all}

-- the slots after some accesses and then others
pub slots_after-append : (banks : Banks) (slots : List Slot) (first bs : List ArrayAccess)
    → slots_after banks slots (first ++ bs) ≡ slots_after banks (slots_after banks slots first) bs
slots_after-append banks slots [] bs = refl
slots_after-append banks slots (a ∷ first) bs = slots_after-append banks (slots_after banks slots (a ∷ [])) first bs

-- what is seen of some accesses and then of others
pub seen_of_all-append : (mode : Mode) (banks : Banks) (slots : List Slot) (first bs : List ArrayAccess)
    → seen_of_all mode banks slots (first ++ bs)
    ≡ seen_of_all mode banks slots first ++ seen_of_all mode banks (slots_after banks slots first) bs
seen_of_all-append mode banks slots [] bs = refl
seen_of_all-append mode banks slots (a ∷ first) bs =
    ap (λ l. seen_of mode banks slots a ++ l)
    (seen_of_all-append mode banks (slots_after banks slots (a ∷ [])) first bs)
    ∙ sym
    (append_assoc (seen_of mode banks slots a) (seen_of_all mode banks (slots_after banks slots (a ∷ [])) first)
    (seen_of_all mode banks (slots_after banks (slots_after banks slots (a ∷ [])) first) bs))

-- the code that skips loads is that of accesses that may be skipped
pub may_skip-is : (mode : Mode) (h : Home) → may_skip mode h ≡ skips mode h
may_skip-is Public h = refl
may_skip-is Real h = refl
may_skip-is Mirrored h = refl

-- an access that isn't skipped is seen
pub seen_of-unskipped : (mode : Mode) (banks : Banks) (slots : List Slot) (a : ArrayAccess) → may_skip mode a.home
    ≡ false
    → seen_of mode banks slots a ≡ read_event a.home.bank a.block (block_in banks a.home.bank a.block) ∷ []
seen_of-unskipped mode banks slots a unskipped =
    ap (λ b. cond (b && is_held (get_or slots a.home.slot Unbound) a.home.bank a.block) []
    (read_event a.home.bank a.block (block_in banks a.home.bank a.block) ∷ [])) unskipped
