use Rattle.std.proofs.Common.{refl, sym, ◌∙◌, inl, inr}
use Rattle.std.proofs.lemmas.Bool.{true≢false}
use Rattle.region_walk.proofs.SlotEquality.{same_slot, own_slot}
use Rattle.region_walk.proofs.states.keep_common_slot.Goals as goal

pub returns-then-eq : goal.returns-then-eq
returns-then-eq c = inl (same_slot c.args.ours.now c.args.theirs (sym c.eq.ensures ∙ c.if-eq.true), refl)

pub returns : goal.returns
returns c =
    inr (λ e. true≢false (sym (own_slot c.args.ours.now c.args.theirs e) ∙ sym c.eq.ensures ∙ c.if-eq.false), refl)
