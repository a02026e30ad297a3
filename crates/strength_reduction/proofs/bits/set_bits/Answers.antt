use Rattle.std.proofs.Common.{◌≡◌, ◌++◌, cond, eqb, [], ◌∷◌, sym, ap, ◌∙◌, w64, of_z}
use Rattle.std.specs.Int.{bit_at}
use Rattle.std.proofs.lemmas.Int.{to_z-of_z}
use Rattle.gr_word.specs.Prelude.{unsigned_of}
use Rattle.strength_reduction.proofs.SetBits.{bits_below-more, set_bits-found}
use Rattle.strength_reduction.proofs.bits.set_bits.Goals as goal

pub loop-k-preserved : goal.loop-k-preserved
loop-k-preserved c =
    let number = c.cast_unsigned-number.result in
    let k = c.loop-k.k in
    c.in_ok-put_bit.ensures
    ∙ (ap (λ xs. xs ++ cond (eqb (bit_at number k) 1) (k ∷ []) []) c.loop-k.invariant
    ∙ sym (bits_below-more number k))

pub returns : goal.returns
returns c =
    let same = to_z-of_z w64 c.args.word c.ranges.word in
    let is : c.cast_unsigned-number.result ≡ unsigned_of c.args.word =
    c.cast_unsigned-number.ensures ∙ ap (of_z w64) same in
    set_bits-found c.args.word c.cast_unsigned-number.result c.loop-k.k c.loop-k.bits.items c.loop-k.invariant is
    c.loop-k-test.false c.loop-k.auto.k-end
