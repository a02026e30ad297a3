use Rattle.std.proofs.Common.{◌≡◌, subst}
use Rattle.std.specs.Prelude.{IfOk, OnErr}
use Rattle.std.proofs.lemmas.Result.{IfOk-weaker}
use Rattle.symbolic_values.specs.Prelude.{IsTable, PlacedAt}
use Rattle.symbolic_values.proofs.TableLaws.{placed_number, placed_keeps, answered_table}
use Rattle.symbolic_values.proofs.values.Values.add.Goals as goal

pub returns-clause-number : goal.returns-clause-number
returns-clause-number c =
    let old = c.args.self.now in
    let table : IsTable old = subst IsTable c.self.view_is c.self.invariant in
    let place : IfOk c.put.result (λ i. PlacedAt old c.args.node i c.put.new.nodes.keys) = rw
    (← c.self.view_is) c.put.ensures.place in
    IfOk-weaker c.put.result _ _ (λ i h. placed_number old table c.args.node c.requires.names i _ h) place

pub returns-clause-keeps : goal.returns-clause-keeps
returns-clause-keeps c =
    let old = c.args.self.now in
    let table : IsTable old = subst IsTable c.self.view_is c.self.invariant in
    let place : IfOk c.put.result (λ i. PlacedAt old c.args.node i c.put.new.nodes.keys) = rw
    (← c.self.view_is) c.put.ensures.place in
    IfOk-weaker c.put.result _ _ (λ i h. placed_keeps old table c.args.node c.requires.names i _ h) place

pub returns-clause-table : goal.returns-clause-table
returns-clause-table c =
    let old = c.args.self.now in
    let table : IsTable old = subst IsTable c.self.view_is c.self.invariant in
    let place : IfOk c.put.result (λ i. PlacedAt old c.args.node i c.put.new.nodes.keys) = rw
    (← c.self.view_is) c.put.ensures.place in
    let kept : OnErr c.put.result (c.put.new.nodes.keys ≡ old) = rw (← c.self.view_is) c.put.ensures.unchanged in
    answered_table old table c.args.node c.requires.names c.put.result _ c.requires.room place kept

pub invariant_of-self : goal.invariant_of-self
invariant_of-self c = returns-clause-table c
