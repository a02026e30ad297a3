use Rattle.std.proofs.Common.{refl, ◌≡◌, Some, None, sym}
use Rattle.std.specs.List.{position}
use Rattle.gr_outside.specs.Prelude.{is_named}
use Rattle.gr_outside.proofs.FileLists.{get_found, get_missing}
use Rattle.gr_outside.proofs.files.FileTable.bytes.Goals as goal

pub returns-in-Some : goal.returns-in-Some
returns-in-Some c =
    let found : Some c.in-Some.place ≡ position (is_named c.args.name.now) c.self.inside.files.items =
    rw (← c.deref.ensures.value) c.in-Some.ensures in
    rw (
      ← c.self.view_is,
      get_found c.args.name.now c.self.inside.files.items c.in-Some.place c.index.result.now found,
      ← c.index.ensures,
      c.as_slice.ensures.value,
    ) refl

pub returns-in-None : goal.returns-in-None
returns-in-None c =
    let missing : None ≡ position (is_named c.args.name.now) c.self.inside.files.items =
    rw (← c.deref.ensures.value) c.in-None.ensures in
    rw (← c.self.view_is) (sym (get_missing c.args.name.now c.self.inside.files.items missing))
