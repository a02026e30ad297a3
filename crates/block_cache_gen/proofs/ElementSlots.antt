-- The code that selects a word among the slots of a variable's blocks: the first one and as many of the others as count.
use Rattle.std.proofs.Common.{◌≡◌, ℕ, ◌+◌, ◌≤◌, List, [], ◌∷◌, length, take, refl, sym, ap, ◌∙◌, add-one, arith}
use Rattle.std.proofs.lemmas.List.{length-take, take_all}
use Rattle.word_selection.specs.declared.effects.Effect.{Effect}
use Rattle.word_selection.specs.Prelude.{selected_read, selected_write}
use Rattle.block_cache_gen.specs.declared.frames.Mode.{Mode}
use Rattle.block_cache_gen.specs.declared.variables.Variable.{Variable}
use Rattle.block_cache_gen.specs.Prelude.{effect_of, stored_among, Setting, further_slots, slots_of_home, words_a_block, home_in}

-- the slots that count
further-are : (v : Variable) → v.further ≤ 4 → further_slots (home_in v) ≡ take v.further v.more
further-are v few = take_all 4 (take v.further v.more) (omega (arith, length-take v.further v.more, few))

slots-are : (v : Variable) → v.further ≤ 4 → take (v.further + 1) (v.slot ∷ v.more) ≡ slots_of_home (home_in v)
slots-are v few =
    ap (λ n. take n (v.slot ∷ v.more)) (add-one v.further) ∙ ap (λ slots. v.slot ∷ slots) (sym (further-are v few))

-- the code that selects a word among them
pub read_is : (f : Setting) (v : Variable) (to size : ℕ) (slots : List ℕ) → v.further ≤ 4 → size ≡ words_a_block f
    → slots ≡ take (v.further + 1) (v.slot ∷ v.more)
    → selected_read size slots to ≡ selected_read (words_a_block f) (slots_of_home (home_in v)) to
read_is f v to size slots few same are =
    ap (λ w. selected_read w slots to) same ∙ ap (λ l. selected_read (words_a_block f) l to) (are ∙ slots-are v few)

among_is : (f : Setting) (mode : Mode) (slot value : ℕ) (more : List ℕ) → 1 ≤ length more
    → selected_write (effect_of mode) (words_a_block f) value (slot ∷ more) 1 ≡ stored_among f mode slot more value
among_is f mode slot value [] some = absurd (omega (arith, some))
among_is f mode slot value (next ∷ rest) some = refl

pub write_is : (f : Setting) (mode : Mode) (v : Variable) (effect : Effect) (value size : ℕ) (slots : List ℕ)
    → v.further ≤ 4 → 1 ≤ v.further → 1 ≤ length v.more → effect ≡ effect_of mode → size ≡ words_a_block f
    → slots ≡ take (v.further + 1) (v.slot ∷ v.more)
    → selected_write effect size value slots 1 ≡ stored_among f mode v.slot (further_slots (home_in v)) value
write_is f mode v effect value size slots few some more is same are =
    ap (λ e. selected_write e size value slots 1) is
    ∙ ap (λ w. selected_write (effect_of mode) w value slots 1) same
    ∙ ap (λ l. selected_write (effect_of mode) (words_a_block f) value l 1) (are ∙ slots-are v few)
    ∙ among_is f mode v.slot value (further_slots (home_in v))
    (omega (arith, ap length (further-are v few), length-take v.further v.more, some, more))
