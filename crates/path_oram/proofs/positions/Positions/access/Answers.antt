use Rattle.std.proofs.Common.{◌≡◌, ◌<◌, ◌++◌, take, drop, length, get_or, sym, subst, arith}
use Rattle.path_oram.proofs.Accessed.{Accessed, accessed}
use Rattle.path_oram.proofs.Found.{places_count}
use Rattle.path_oram.proofs.Written.{whole_length, whole_leaf}
use Rattle.path_oram.proofs.positions.Positions.access.Goals as goal

pub access_path-requires-clause-leaf : goal.access_path-requires-clause-leaf
access_path-requires-clause-leaf c =
    whole_leaf _ c.args.block c.args.old c.self.invariant.whole
    (subst (λ p. c.args.block < length p.leaves) (sym c.self.view_is) c.requires.exists)
    (subst (λ p. c.args.old ≡ get_or p.leaves c.args.block 0) (sym c.self.view_is) c.requires.old)

pub access_path-requires-clause-room : goal.access_path-requires-clause-room
access_path-requires-clause-room c =
    rw c.as_mut_slice.ensures.value
    (omega (
      arith,
      whole_length _ c.self.invariant.whole,
      places_count c.self.inside.count c.self.inside.height c.self.inside.stash.items c.self.inside.tree.items,
      c.self.invariant.reserved,
    ))

-- what the access leaves
accessed_so : (c : goal.After-self-1)
    → Accessed c.self.inside.count c.self.inside.height c.args.self.now c.args.block c.args.old c.args.new
    c.access_path.new.stash.items
    (take c.self.inside.tree.len
    (c.access_path.new.tree ++ drop (length c.access_path.new.tree) c.self.inside.tree.items))
accessed_so c =
    accessed c.self.inside.count c.self.inside.height c.self.inside.stash.items c.self.inside.tree.items
    c.args.self.now c.args.block c.args.new c.args.old c.self.inside.tree.len
    c.as_mut_slice.result.now c.access_path.new.tree c.access_path.new.stash.items c.self.view_is
    c.self.invariant.whole c.self.invariant.stash c.self.invariant.tree c.requires.exists c.requires.new c.requires.old
    c.self.inside.tree.ok.0 c.as_mut_slice.ensures.value c.access_path.ensures.written_back
    c.access_path.ensures.leaves

pub invariant_of-self : goal.invariant_of-self
invariant_of-self c =
    let left = accessed_so c in
    record {
      height = c.self.invariant.height;
      reserved = omega (arith, c.self.invariant.reserved, c.access_path.ensures.capacity);
      whole = left.whole;
      stash = left.in_stash;
      tree = left.in_tree;
    }

pub returns-clause-moved : goal.returns-clause-moved
returns-clause-moved c =
    let left = accessed_so c in
    record { path = left.path; leaves = left.leaves }

pub returns-clause-whole : goal.returns-clause-whole
returns-clause-whole c = (invariant_of-self c).whole
