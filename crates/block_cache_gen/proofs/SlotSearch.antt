-- The search for the slot of a block, slot by slot.
use Rattle.std.proofs.Common.{◌≡◌, ℕ, suc, ◌+◌, ◌<◌, true, false, cond, List, length, drop, get_or, Option, None, sym, ap, ◌∙◌, add-one, drop-cons}
use Rattle.std.proofs.Math.Seq.{drop-length}
use Rattle.block_cache_gen.specs.Prelude.{Pin, is_pin_to, slot_from}

-- from slot k on, if that slot has the block
pub slot_here : (pins : List (Option Pin)) (k bank block : ℕ) → k < length pins
    → is_pin_to (get_or pins k None) bank block ≡ true → slot_from k (drop k pins) bank block ≡ k
slot_here pins k bank block below is =
    ap (λ rest. slot_from k rest bank block) (drop-cons pins k None below)
    ∙ ap (λ b. cond b k (slot_from (k + 1) (drop (suc k) pins) bank block)) is

-- and if it hasn't
pub slot_later : (pins : List (Option Pin)) (k bank block : ℕ) → k < length pins
    → is_pin_to (get_or pins k None) bank block ≡ false
    → slot_from k (drop k pins) bank block ≡ slot_from (k + 1) (drop (k + 1) pins) bank block
slot_later pins k bank block below is =
    ap (λ rest. slot_from k rest bank block) (drop-cons pins k None below)
    ∙ ap (λ b. cond b k (slot_from (k + 1) (drop (suc k) pins) bank block)) is
    ∙ ap (λ n. slot_from (k + 1) (drop n pins) bank block) (sym (add-one k))

-- after the last slot
pub slot_none : (pins : List (Option Pin)) (bank block : ℕ)
    → slot_from (length pins) (drop (length pins) pins) bank block ≡ length pins
slot_none pins bank block = ap (λ rest. slot_from (length pins) rest bank block) (drop-length pins)
