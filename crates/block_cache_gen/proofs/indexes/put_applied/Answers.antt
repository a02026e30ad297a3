use Rattle.std.proofs.Common.{◌≡◌, ℕ, ℤ, [], ◌∷◌, ◌++◌, Option, refl, sym, ap, ◌∙◌, rules, w64, to_z, of_z}
use Rattle.std.proofs.lemmas.Int.{wraps}
use Rattle.std.proofs.lemmas.Result.{on_ok_weaker}
use Rattle.gr_word.specs.declared.operations.Op.{Op}
use Rattle.lt_isa.specs.declared.instructions.Instr.TheVariants.{Li, Alu}
use Rattle.held_registers.specs.Prelude.{register_of_number}
use Rattle.block_cache_gen.specs.Prelude.{Setting, operand_part, operand_register, applied_code, no_notes}
use Rattle.block_cache_gen.proofs.Emitting.{appended_as}
use Rattle.block_cache_gen.proofs.indexes.put_applied.Goals as goal

-- the code by the register that was found
applied-by : (f : Setting) (op : Op) (to from own : ℕ) (number found : ℤ) (q p : Option ℕ) → found ≡ number → q ≡ p
    → p ≡ register_of_number f.held found
    → (operand_part q (Li own number ∷ []) ++ Alu op to from (operand_register q own) ∷ [])
    ≡ applied_code f op to from own number
applied-by f op to from own number found q p same is held =
    ap (λ q. operand_part q (Li own number ∷ []) ++ Alu op to from (operand_register q own) ∷ [])
    (is ∙ held ∙ ap (register_of_number f.held) same)

pub returns-in-Some-clause-appended : goal.returns-in-Some-clause-appended
returns-in-Some-clause-appended c =
    let same : to_z w64 (of_z w64 c.args.number) ≡ c.args.number = search (rules, wraps) in
    let register = c.operand_register.ensures ∙ ap (λ q. operand_register q c.args.own) c.in-Some.is in
    on_ok_weaker c.put.result
    (appended_as c.args.out.now c.put.new.self (Alu c.args.op c.args.to c.args.from c.operand_register.result ∷ [])
    (applied_code c.args.emitter.now c.args.op c.args.to c.args.from c.args.own c.args.number) no_notes no_notes
    (ap (λ r. Alu c.args.op c.args.to c.args.from r ∷ []) register
    ∙ applied-by c.args.emitter.now c.args.op c.args.to c.args.from c.args.own c.args.number _ _ _ same
    (sym c.in-Some.is) c.number_held-held.ensures) (λ place. refl))
    c.put.ensures.appended

pub returns-in-None-clause-appended : goal.returns-in-None-clause-appended
returns-in-None-clause-appended c =
    let same : to_z w64 (of_z w64 c.args.number) ≡ c.args.number = search (rules, wraps) in
    let register = c.operand_register.ensures ∙ ap (λ q. operand_register q c.args.own) c.in-None.is in
    on_ok_weaker c.put-in-None.result
    (appended_as c.args.out.now c.put-in-None.new.self
    (Li c.args.own (to_z w64 (of_z w64 c.args.number))
    ∷ Alu c.args.op c.args.to c.args.from c.operand_register.result
    ∷ [])
    (applied_code c.args.emitter.now c.args.op c.args.to c.args.from c.args.own c.args.number) no_notes no_notes
    ((λ k. Li c.args.own (same k) ∷ Alu c.args.op c.args.to c.args.from (register k) ∷ [])
    ∙ applied-by c.args.emitter.now c.args.op c.args.to c.args.from c.args.own c.args.number _ _ _ same
    (sym c.in-None.is) c.number_held-held.ensures) (λ place. refl))
    c.put-in-None.ensures.appended
