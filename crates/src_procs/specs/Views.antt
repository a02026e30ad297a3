-- For private clauses only: the types with which a file's program is made, as the proofs see them.
use Rattle.std.specs.Prelude.{ℕ, List, [], ◌∷◌, ◌++◌, map, take, reverse}
use Rattle.std.specs.Borrow.{Bor}
use Rattle.src_tree.specs.Trees.{test_of}
use Rattle.src_tree.specs.declared.trees.Stmt.{Stmt}
use Rattle.std.specs.Global.{Vec}
use Rattle.procs_tree.specs.declared.trees.Proc.{Proc}
use Rattle.std.specs.BTreeMap.{BTreeMap}
use Rattle.gr_base.specs.NameMaps.{found_under}
use Rattle.src_tree.specs.declared.trees.Decl.{Decl}
use Rattle.procs_tree.specs.Inlined.{Renaming, added, kept_name}
use Rattle.procs_tree.specs.Seen.{block_of, block_of_all, procedure_of}
use Rattle.procs_tree.specs.Trees.{Statement}
use Rattle.procs_pruning.specs.LiveSeen.{live_block}
use Rattle.src_procs.specs.Expanding.{Binding, looked_up, first_block, nothing_bound, Pending, Rest, Return, Open, EndChoice, EndLoop, Scope, Held}
use Rattle.src_tree.specs.Trees as plain
use Rattle.src_procs.specs.declared.scopes.Naming as namings
use Rattle.src_procs.specs.declared.scopes.Naming.TheVariants as naming
use Rattle.src_procs.specs.declared.scopes.Scope as scopes
use Rattle.src_procs.specs.declared.expanding.Pending as pendings
use Rattle.src_procs.specs.declared.expanding.Pending.TheVariants as pending
use Rattle.src_procs.specs.declared.expanding.Held as helds
use Rattle.src_procs.specs.declared.expanding.Made as mades
use Rattle.src_procs.specs.declared.own_statements.Own as owns
use Rattle.src_procs.specs.declared.own_statements.Own.TheVariants as own

abbrev pub names_of : namings.Naming → Renaming
names_of naming.Own = kept_name
names_of (naming.Bound bounds) = looked_up (found_under bounds)

abbrev pub scope_of : List Proc → scopes.Scope → Scope
scope_of procs s = record {
  callable = reverse (take s.callable (map procedure_of procs));
  names = names_of s.names;
}

-- the last first
abbrev pub scopes_of : List Proc → List scopes.Scope → List Scope
scopes_of procs scopes = reverse (map (scope_of procs) scopes)

abbrev pub statements_seen : Vec Stmt → List plain.Statement
statements_seen v = map plain.statement_of v.items

-- the innermost first
abbrev pub blocks_of : List (Vec Stmt) → List (List plain.Statement)
blocks_of open_blocks = reverse (map statements_seen open_blocks)

abbrev pub held_of : List Proc → helds.Held → Held
held_of procs x = record {
  scopes = scopes_of procs x.scopes.items;
  open_blocks = blocks_of x.made.open_blocks.items;
  labels = x.made.labels.items;
}

abbrev pub pending_of : pendings.Pending → Pending
pending_of (pending.Rest left) = Rest (live_block left.statements.now)
pending_of pending.Return = Return
pending_of pending.Open = Open
pending_of (pending.EndChoice guard) = EndChoice (test_of guard)
pending_of (pending.EndLoop guard) = EndLoop (test_of guard)

-- the statements that are left of a block are in a list of which the next is the last
abbrev pub own_of : owns.Own → Pending
own_of (own.Rest left) = Rest (block_of_all (reverse left.items))
own_of own.Open = Open
own_of (own.EndChoice guard) = EndChoice (test_of guard)
own_of (own.EndLoop guard) = EndLoop (test_of guard)

-- the next first
abbrev pub owns_all : List owns.Own → List Pending
owns_all waiting = reverse (map own_of waiting)

-- the next first
abbrev pub pending_all : List pendings.Pending → List Pending
pending_all waiting = reverse (map pending_of waiting)

-- what was made of a file's own statements, in the file's scope
abbrev pub own_held : List Proc → mades.Made → Held
own_held procs m = record {
  scopes = record { callable = reverse (map procedure_of procs); names = kept_name } ∷ [];
  open_blocks = blocks_of m.open_blocks.items;
  labels = m.labels.items;
}

-- the program with these declarations, and with what was made
abbrev pub source_made : List Decl → mades.Made → plain.Source
source_made decls m = record {
  decls = decls ++ added 0 m.labels.items;
  body = plain.block_of (first_block (blocks_of m.open_blocks.items));
}

abbrev pub binding_of : BTreeMap (Bor (List ℕ)) (List ℕ) → mades.Made → Binding
binding_of bounds m = record {
  bound = found_under bounds;
  open_blocks = blocks_of m.open_blocks.items;
  labels = m.labels.items;
}

-- before the first name of a call is bound
abbrev pub unbound : mades.Made → Binding
unbound m = record {
  bound = nothing_bound;
  open_blocks = blocks_of m.open_blocks.items;
  labels = m.labels.items;
}
