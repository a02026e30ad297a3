use Rattle.std.proofs.Common.{◌≡◌, ◌-◌, [], length, Some, string_bytes, refl, sym, ap, ◌∙◌, arith, rules}
use Rattle.std.proofs.lemmas.List.{take_all}
use Rattle.json.specs.Json.{read_key, value}
use Rattle.json.proofs.Grammar.{read_key-shorter}
use Rattle.serde_json.specs.Data.{no_members, put}
use Rattle.run_data.specs.Prelude.{least_given, entries_view}
use Rattle.run_data.proofs.LeastMembers.{put_least_seen, least_few}
use Rattle.run_data.proofs.JsonReading.{member_read, member_refused, key_refused, members_over}
use Rattle.run_data.proofs.members.read_members.Goals as goal

pub members-init : goal.members-init
members-init c = (
  length c.args.reader.now,
  no_members,
  omega arith,
  refl,
  take_all c.args.most [] (omega arith) ∙ ap entries_view (sym c.new-found.ensures.empty),
)

pub returns-in_err-name-clause-none : goal.returns-in_err-name-clause-none
returns-in_err-name-clause-none c = λ other.
    let p = value c.args.depth in
    let l = c.members in
    l.invariant.3 ∙ key_refused p l.invariant.1 l.invariant.0 l.reader c.in_err-name.ensures.value

pub returns-in_err-given-clause-none : goal.returns-in_err-given-clause-none
returns-in_err-given-clause-none c = λ other.
    let p = value c.args.depth in
    let l = c.members in
    let k = c.in-Some.name.now in
    let s = c.next_key.new.self in
    let named : read_key l.reader ≡ Some (Some k, s) = grind arith in
    l.invariant.3
    ∙ member_refused p l.invariant.1 l.invariant.0 k l.reader s named (c.read_given.ensures.none (grind arith))

pub keep-requires : goal.keep-requires
keep-requires c =
    let l = c.members in
    record { few = least_few c.args.most l.invariant.1 l.found.entries l.invariant.4 }

pub members-preserved : goal.members-preserved
members-preserved c =
    let p = value c.args.depth in
    let l = c.members in
    let n = l.invariant.0 in
    let old = l.invariant.1 in
    let k = c.in-Some.name.now in
    let s = c.next_key.new.self in
    let named : read_key l.reader ≡ Some (Some k, s) = grind arith in
    let done = c.in_ok-given.ensures in
    let d = done.given.0 in
    let r = c.read_given.new.reader in
    let less = read_key-shorter l.reader (Some k) s named in
    let lesser = done.shorter in
    let copied : string_bytes c.in_ok-key.key ≡ k = search rules in
    let kept = put_least_seen c.args.most old l.found.entries c.in_ok-key.key d c.in_ok-given.given l.invariant.4 done.given.2 in (
      n - 1,
      put k d old,
      omega (arith, l.invariant.2),
      l.invariant.3 ∙ member_read p old n k l.reader s r d (omega (arith, l.invariant.2)) named done.given.1,
      ap (λ name. least_given c.args.most (put name d old)) (sym copied) ∙ kept
          ∙ ap entries_view (sym c.in_ok-keep.ensures.kept),
    )

pub returns-clause-given : goal.returns-clause-given
returns-clause-given c =
    let p = value c.args.depth in
    let l = c.members in (
      l.invariant.1,
      l.invariant.3 ∙ members_over p l.invariant.1 l.invariant.0 l.reader c.next_key.new.self l.invariant.2 (grind arith),
      l.invariant.4,
    )
