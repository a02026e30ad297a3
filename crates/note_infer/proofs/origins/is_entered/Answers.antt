-- The list is followed to its end.
use Rattle.std.proofs.Common.{◌≡◌, ℕ, ◌-◌, ◌<◌, ◌≤◌, true, false, inl, sym, subst, arith, get_or}
use Rattle.std.proofs.lemmas.List.{get_or_read_under}
use Rattle.note_infer.specs.Prelude.{IsLinked, IsFollowed}
use Rattle.note_infer.proofs.OriginTables.{followed_next, followed_all}
use Rattle.note_infer.proofs.origins.is_entered.Goals as goal

pub index-link-requires : goal.index-link-requires
index-link-requires c = omega (arith, c.requires.inside, c.args.origins.now.last.ok)

pub following-init : goal.following-init
following-init c =
    let v = c.args.origins.now.last in
    let read = get_or_read_under v.items c.args.inner v.len c.index-link.result.now 0 c.index-link.ensures
    (omega (arith, c.requires.inside, v.ok)) (omega (arith, v.ok)) in
    record {
      bound = omega (arith, read, c.requires.links.inside c.args.inner);
      followed = λ p linked.
          inl (subst (λ (n : ℕ). IsLinked c.args.origins.now.before.items n p) (sym read) linked);
    }

pub overflow_sub-origin : goal.overflow_sub-origin
overflow_sub-origin c = omega (arith, c.following-test.true)

pub returns-then-origin-place : goal.returns-then-origin-place
returns-then-origin-place c = λ e. absurd (let f : true ≡ false = e in cc)

pub returns-then-inner-origin : goal.returns-then-inner-origin
returns-then-inner-origin c = λ e. absurd (let f : true ≡ false = e in cc)

pub index-link-requires-in-following : goal.index-link-requires-in-following
index-link-requires-in-following c =
    omega (arith, c.following-test.true, c.following.invariant.bound, c.args.origins.now.before.ok)

pub following-smaller : goal.following-smaller
following-smaller c =
    let v = c.args.origins.now.before in
    let read = get_or_read_under v.items (c.following.link - 1) v.len c.index-link-in-following.result.now 0
    c.index-link-in-following.ensures (omega (arith, c.following-test.true, c.following.invariant.bound, v.ok)) (omega (arith, v.ok)) in
    omega (arith, read, c.requires.links.falls (c.following.link - 1), c.following-test.true)

pub following-preserved : goal.following-preserved
following-preserved c =
    let v = c.args.origins.now.before in
    let first = get_or c.args.origins.now.last.items c.args.inner 0 in
    let read = get_or_read_under v.items (c.following.link - 1) v.len c.index-link-in-following.result.now 0
    c.index-link-in-following.ensures (omega (arith, c.following-test.true, c.following.invariant.bound, v.ok)) (omega (arith, v.ok)) in
    record {
      bound = omega (arith, read, c.requires.links.falls (c.following.link - 1), c.following.invariant.bound);
      followed = subst (λ (n : ℕ). IsFollowed v.items first n (λ p. (c.args.place ≤ p) × (p < c.args.inner))) (sym read)
          (followed_next v.items first c.following.link (λ p. (c.args.place ≤ p) × (p < c.args.inner))
          (λ p. (c.args.place ≤ p) × (p < c.args.inner)) (omega (arith, c.following-test.true))
          c.following.invariant.followed (λ p s. s)
          (omega (arith, c.if-origin-place.false), omega (arith, c.if-inner-origin.false)));
    }

pub returns : goal.returns
returns c =
    λ e. followed_all c.args.origins.now.before.items (get_or c.args.origins.now.last.items c.args.inner 0)
    c.following.link (λ p. (c.args.place ≤ p) × (p < c.args.inner)) (omega (arith, c.following-test.false))
    c.following.invariant.followed
