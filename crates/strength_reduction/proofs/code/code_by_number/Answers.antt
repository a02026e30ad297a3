use Rattle.std.proofs.Common.{◌≡◌, List, Option, option_map, vec_items, IfOk, sym, ap, ◌∙◌, subst, w64}
use Rattle.std.proofs.lemmas.Int.{to_z-of_z}
use Rattle.strength_reduction.specs.Prelude.{set_bits, steps_by_bits, Step, code_of}
use Rattle.strength_reduction.proofs.Replacing.{steps-of_word}
use Rattle.strength_reduction.proofs.code.code_by_number.Goals as goal

pub returns : goal.returns
returns c =
    let word = to_z-of_z w64 c.args.number c.ranges.number in
    let same : c.deref.result.now ≡ set_bits c.args.number =
    c.deref.ensures.value ∙ (c.in_ok-bits.ensures ∙ ap set_bits word) in
    let found : steps_by_bits c.args.op c.deref.result.now ≡ steps_by_bits c.args.op (set_bits c.args.number) =
    ap (λ bits. steps_by_bits c.args.op bits) same in
    record {
      exact = subst
          (λ (steps : Option (List Step)). IfOk c.code_by_bits.result (λ code.
          option_map vec_items code ≡ option_map (code_of c.args.to) steps))
          (found ∙ sym (steps-of_word c.args.op c.args.number c.ranges.number)) c.code_by_bits.ensures;
    }
