use Rattle.std.proofs.Common.{◌≡◌, Some, None, true, sym, ap, subst, ◌∙◌}
use Rattle.std.specs.List.{position}
use Rattle.gr_outside.specs.Prelude.{is_named, files_of}
use Rattle.gr_outside.specs.declared.files.File.{File}
use Rattle.gr_outside.proofs.FileLists.{files_of-replaced, files_of-added, found_named}
use Rattle.gr_outside.proofs.files.FileTable.set.Goals as goal

pub returns-in-Some-clause-ok : goal.returns-in-Some-clause-ok
returns-in-Some-clause-ok c =
    let files = c.self.inside.files.items in
    let name = c.args.name.now in
    let old = c.index_mut.result.now in
    let found : Some c.in-Some.place ≡ position (is_named name) files =
    rw (← c.deref.ensures.value) c.in-Some.ensures in
    let named : is_named name old ≡ true =
    subst (λ (file : File). is_named name file ≡ true) (sym c.index_mut.ensures.value)
    (found_named name files c.in-Some.place old found) in
    rw (← c.self.view_is, ← c.in_ok-bytes.ensures.items)
    (files_of-replaced name files c.in-Some.place (record { name = old.name; bytes = c.in_ok-bytes.bytes }) found named)

pub returns-in_ok-push-in-None-clause-ok : goal.returns-in_ok-push-in-None-clause-ok
returns-in_ok-push-in-None-clause-ok c =
    let files = c.self.inside.files.items in
    let name = c.in_ok-name-in-None.name in
    let file : File = record { name = name; bytes = c.in_ok-bytes.bytes } in
    let missing : None ≡ position (is_named c.args.name.now) files = rw (← c.deref.ensures.value) c.in-None.ensures in
    rw (← c.self.view_is, ← c.in_ok-bytes.ensures.items, ← c.in_ok-name-in-None.ensures.items)
    (ap files_of c.in_ok-push-in-None.ensures.items
    ∙ files_of-added files file (rw c.in_ok-name-in-None.ensures.items missing))
