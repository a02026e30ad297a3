use Rattle.std.proofs.Common.{◌≡◌, ◌<◌, get_or, ap, ◌∙◌, subst, arith}
use Rattle.std.proofs.Math.Nat.{mod-lt}
use Rattle.lt_isa.specs.Prelude.{blocks_of, no_bank, IsInRange}
use Rattle.lt_isa.proofs.Cycles.{blocks-least, blocks-most}
use Rattle.processor.proofs.machine.Machine.block_named.Goals as goal

pub nonzero_rem-result : goal.nonzero_rem-result
nonzero_rem-result g c =
    let blocks : c.from.result ≡ blocks_of c.args.self.now.object c.args.bank =
    c.from.ensures ∙ ap (λ l. (get_or l c.args.bank no_bank).blocks) c.banks.ensures.value
    ∙ ap (λ m. blocks_of m.object c.args.bank) c.self.view_is in
    let range = subst IsInRange (ap (λ m. m.object) c.self.view_is) c.banks.ensures.in_range in
    omega (arith, blocks, blocks-least c.args.self.now.object range c.args.bank c.requires.bank)

pub overflow_cast-result : goal.overflow_cast-result
overflow_cast-result g c =
    let blocks : c.from.result ≡ blocks_of c.args.self.now.object c.args.bank =
    c.from.ensures ∙ ap (λ l. (get_or l c.args.bank no_bank).blocks) c.banks.ensures.value
    ∙ ap (λ m. blocks_of m.object c.args.bank) c.self.view_is in
    let range = subst IsInRange (ap (λ m. m.object) c.self.view_is) c.banks.ensures.in_range in
    let least = blocks-least c.args.self.now.object range c.args.bank c.requires.bank in
    let most = blocks-most c.args.self.now.object range c.args.bank c.requires.bank in
    let some : 0 < c.from.result = omega arith in
    record { fits = omega (arith, mod-lt c.cast_unsigned.result some) }

pub returns-clause-exists : goal.returns-clause-exists
returns-clause-exists g c =
    let blocks : c.from.result ≡ blocks_of c.args.self.now.object c.args.bank =
    c.from.ensures ∙ ap (λ l. (get_or l c.args.bank no_bank).blocks) c.banks.ensures.value
    ∙ ap (λ m. blocks_of m.object c.args.bank) c.self.view_is in
    let range = subst IsInRange (ap (λ m. m.object) c.self.view_is) c.banks.ensures.in_range in
    let least = blocks-least c.args.self.now.object range c.args.bank c.requires.bank in
    let some : 0 < c.from.result = omega arith in
    omega (arith, mod-lt c.cast_unsigned.result some)
