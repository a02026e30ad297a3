use Rattle.std.proofs.Common.{◌≡◌, suc, ◌+◌, ◌<◌, true, false, [], ◌∷◌, ◌++◌, length, get_or, sym, ap, ◌∙◌, subst, arith}
use Rattle.src_tree.specs.declared.trees.Decl.{Decl}
use Rattle.procs_tree.specs.Prelude.{is_hidden}
use Rattle.shown_programs.specs.Prelude.{IsNew}
use Rattle.shown_programs.proofs.ShownNames.{ShownBelow, new_shown, own_shown}
use Rattle.shown_programs.proofs.shown_names.shown_names.Goals.{then-is_hidden+in_ok-wanted+in_ok-free_name+in_ok-push, else-is_hidden+in_ok-copy+in_ok-push-2}
use Rattle.shown_programs.proofs.shown_names.shown_names.Goals as goal

pub loop-decl-preserved : goal.loop-decl-preserved
loop-decl-preserved c = λ once.
    let k = c.loop-decl.decl-index in
    let names = c.loop-decl.names.items in
    let decls = c.args.decls.now in
    let d = c.decl-item.result in
    let within : k < length decls = omega arith in
    let at : get_or decls k d ≡ d = cc in
    let named : is_hidden (get_or decls k d).name ≡ c.is_hidden.result =
    ap (λ (x : Decl). is_hidden x.name) at ∙ ap is_hidden (sym c.bytes.ensures.bytes) ∙ sym c.is_hidden.ensures in
    let next : suc k ≡ k + 1 = omega arith in
    elim c.if-is_hidden.branch [
      | then-is_hidden+in_ok-wanted+in_ok-free_name+in_ok-push w ↦
          let name = w.in_ok-free_name.field-0 in
          let pushed : c.if-is_hidden.names.items ≡ names ++ name ∷ [] = ap (λ v. v.items) w.names-is ∙ w.in_ok-push.ensures.items in
          let new : IsNew decls names name = subst (λ ns. IsNew decls ns name) w.as_slice.ensures.value w.in_ok-free_name.ensures in
          subst (ShownBelow decls (k + 1)) (sym pushed)
          (subst (λ m. ShownBelow decls m (names ++ name ∷ [])) next
          (new_shown decls k names d name (c.loop-decl.invariant once) within (named ∙ w.if-is_hidden.true) new))
      | else-is_hidden+in_ok-copy+in_ok-push-2 w ↦
          let name = w.in_ok-copy.field-0 in
          let pushed : c.if-is_hidden.names.items ≡ names ++ name ∷ [] = ap (λ v. v.items) w.names-is ∙ w.in_ok-push-2.ensures.items in
          let own : name ≡ (get_or decls k d).name = w.in_ok-copy.ensures ∙ ap (λ (x : Decl). x.name) (sym at) in
          subst (ShownBelow decls (k + 1)) (sym (pushed ∙ ap (λ x. names ++ x ∷ []) own))
          (subst (λ m. ShownBelow decls m (names ++ (get_or decls k d).name ∷ [])) next
          (own_shown decls k names d once (c.loop-decl.invariant once) within (named ∙ w.if-is_hidden.false)))
    ]
