use Rattle.std.proofs.Common.{◌≡◌, ◌+◌, ◌≤◌, ◌∙◌, ap, sym, subst, length, arith}
use Rattle.bank_alloc.specs.Prelude.{class_in, place_behind}
use Rattle.src_tree.specs.Prelude.{max_length, words_of}
use Rattle.bank_alloc.proofs.PlacedBehind.{places_more, places_all, few_more}
use Rattle.bank_alloc.proofs.placing.places_in.Goals as goal

pub loop-decl-preserved : goal.loop-decl-preserved
loop-decl-preserved c =
    let class = class_in c.args.indexed.now in
    let ds = c.args.decls.now in
    let i = c.loop-decl.decl-index in
    let places = c.loop-decl.places.items in
    let q = c.place_behind-place.result in
    let so_far = c.loop-decl.invariant in
    let placed = c.place_behind-place.ensures.place
    ∙ ap (λ qs. place_behind c.args.size qs c.class_in.result c.words_of.result) c.as_slice.ensures.value
    ∙ ap (λ kind. place_behind c.args.size places kind c.words_of.result) c.class_in.ensures
    ∙ ap (λ words. place_behind c.args.size places (class c.decl-item.result) words) c.words_of.ensures.words in
    let one : length c.push.new.self.items ≡ i + 1 = omega (arith, c.in_ok-push.ensures.len, so_far.1) in
    let short =
    subst (λ d. words_of d ≤ max_length) (sym c.decl-item.is)
    (c.requires.lengths i c.decl-item.result c.loop-decl-test.true) in (
      places_more class c.args.size ds i c.decl-item.result places c.push.new.self.items q c.loop-decl-test.true
          c.decl-item.is placed
          c.in_ok-push.ensures.items so_far.0,
      one,
      few_more ds i places c.push.new.self.items q c.requires.count c.loop-decl-test.true so_far.1
          (omega (arith, c.place_behind-place.ensures.length, c.words_of.ensures.words, short))
          c.in_ok-push.ensures.items one so_far.2,
    )

pub returns-clause-places : goal.returns-clause-places
returns-clause-places c =
    places_all (class_in c.args.indexed.now) c.args.size c.args.decls.now c.loop-decl.decl-index
    c.loop-decl.places.items
    (omega (arith, c.loop-decl-test.false)) c.loop-decl.invariant.0
