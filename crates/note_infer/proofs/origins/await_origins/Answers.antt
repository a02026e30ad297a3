-- The list is followed to its end, and its places outside the region wait.
use Rattle.std.proofs.Common.{ℕ, ◌-◌, ◌<◌, ◌≤◌, ◌⊎◌, inl, inr, sym, subst, ⊎_elim, arith, length, get_or}
use Rattle.std.proofs.lemmas.List.{get_or_read_under}
use Rattle.note_infer.specs.Prelude.{Waits, IsLinked, IsFollowed}
use Rattle.note_infer.proofs.OriginTables.{followed_next, followed_all, awaits_one}
use Rattle.note_infer.proofs.origins.await_origins.Goals as goal

pub index-link-requires : goal.index-link-requires
index-link-requires c = omega (arith, c.requires.inside, c.args.origins.now.last.ok)

pub following-init : goal.following-init
following-init c =
    let v = c.args.origins.now.last in
    let read = get_or_read_under v.items c.args.inner v.len c.index-link.result.now 0 c.index-link.ensures
    (omega (arith, c.requires.inside, v.ok)) (omega (arith, v.ok)) in
    record {
      bound = omega (arith, read, c.requires.links.inside c.args.inner);
      keeps = λ x w. w;
      inside = λ all. all;
      followed = λ p linked.
          inl (subst (λ (n : ℕ). IsLinked c.args.origins.now.before.items n p) (sym read) linked);
    }

pub overflow_sub-origin : goal.overflow_sub-origin
overflow_sub-origin c = omega (arith, c.following-test.true)

pub index-link-requires-in-following : goal.index-link-requires-in-following
index-link-requires-in-following c =
    omega (arith, c.following-test.true, c.following.invariant.bound, c.args.origins.now.before.ok)

pub following-smaller : goal.following-smaller
following-smaller c =
    let v = c.args.origins.now.before in
    let read = get_or_read_under v.items (c.following.link - 1) v.len c.index-link-in-following.result.now 0
    c.index-link-in-following.ensures (omega (arith, c.following-test.true, c.following.invariant.bound, v.ok)) (omega (arith, v.ok)) in
    omega (arith, read, c.requires.links.falls (c.following.link - 1), c.following-test.true)

pub following-preserved : goal.following-preserved
following-preserved c =
    let v = c.args.origins.now.before in
    let place = c.args.place in
    let join = c.args.join in
    let first = get_or c.args.origins.now.last.items c.args.inner 0 in
    let held = c.following.invariant in
    let seen : ℕ → Type 0 = λ p. ((place ≤ p) × (p < join)) ⊎ Waits c.following.stack.items p in
    let more : ℕ → Type 0 = λ p. ((place ≤ p) × (p < join)) ⊎ Waits c.await_one.new.stack.items p in
    let read = get_or_read_under v.items (c.following.link - 1) v.len c.index-link-in-following.result.now 0
    c.index-link-in-following.ensures (omega (arith, c.following-test.true, held.bound, v.ok)) (omega (arith, v.ok)) in
    let one = awaits_one place join (c.following.link - 1) (length v.items) c.args.stack.now.items
    c.following.stack.items c.await_one.new.stack.items (omega (arith, c.following-test.true, held.bound))
    c.in-Ok.ensures held.keeps held.inside in
    record {
      bound = omega (arith, read, c.requires.links.falls (c.following.link - 1), held.bound);
      keeps = one.0;
      inside = one.1;
      followed = subst (λ (n : ℕ). IsFollowed v.items first n more) (sym read)
          (followed_next v.items first c.following.link seen more (omega (arith, c.following-test.true)) held.followed
          (λ p. ⊎_elim (λ (w : (place ≤ p) × (p < join)). inl w)
          (λ (w : Waits c.following.stack.items p). inr (one.2 p w))) one.3);
    }

pub returns : goal.returns
returns c =
    let held = c.following.invariant in
    record {
      keeps = held.keeps;
      inside = held.inside;
      waits = followed_all c.args.origins.now.before.items (get_or c.args.origins.now.last.items c.args.inner 0)
          c.following.link
          (λ p. ((c.args.place ≤ p) × (p < c.args.join)) ⊎ Waits c.following.stack.items p)
          (omega (arith, c.following-test.false)) held.followed;
    }
