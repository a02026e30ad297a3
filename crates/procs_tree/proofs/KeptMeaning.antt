-- The program of a file with procedures does with the file's own variables what the file means.
use Rattle.std.proofs.Common.{◌≡◌, ◌+◌, ◌≤◌, ◌^◌, [], ◌++◌, length, take, get_or, reverse, Option, Some, None, refl, sym, ap, ◌∙◌, arith}
use Rattle.std.specs.Option.{option_map}
use Rattle.std.proofs.lemmas.List.{length-append, length-take-le, get_or-take, ext_get_or}
use Rattle.src_tree.specs.Prelude.{Store, Left, words_of_number}
use Rattle.procs_tree.specs.Prelude.{File, declared_names, calls_of, kept_name, inlines_of, inlined_body, inlined_file, added, ArePlain, HasNewWords, KeepsMeaning}
use Rattle.procs_tree.proofs.Mirrors.{Sizes, ArePlaces, Mirrors}
use Rattle.procs_tree.proofs.Following.{Alike, BothSpent, BothLeft, block_follows, calls_follow}
use Rattle.procs_tree.proofs.NewNames.{sizes, new_numbers, own_match, places_from, places_long, place_is, added_long}

own_places : (size : Sizes) → ArePlaces size 0 (places_from 0 size.own)
own_places size = record {
  low = λ j lt. let l = places_long 0 size.own in let p = place_is 0 size.own j (omega (arith, l, lt)) in
      omega (arith, l, p, lt);
  apart = λ i j first second e. let l = places_long 0 size.own in
      let p = place_is 0 size.own i (omega (arith, l, first)) in
      let q = place_is 0 size.own j (omega (arith, l, second)) in omega (arith, p, q, e);
}

start : (f : File) (store : Store) → HasNewWords f store
    → Mirrors (sizes f.decls (inlined_body f).labels) (places_from 0 (length f.decls)) (take (length f.decls) store) store
start f store room =
    let l = places_long 0 (length f.decls) in
    let all = length-append f.decls (added 0 (inlined_body f).labels) in
    let more = added_long 0 (inlined_body f).labels in
    let long = room.long in
    record {
      long = length-take-le (length f.decls) store (omega (arith, all, more, long)) ∙ sym l;
      room = room.long ∙ (all ∙ ap (λ n. length f.decls + n) more);
      same = λ j lt.
          get_or-take (length f.decls) store j [] (omega (arith, l, lt))
          ∙ ap (λ n. words_of_number store n)
          (let p = place_is 0 (length f.decls) j (omega (arith, l, lt)) in
          let e : j ≡ get_or (places_from 0 (length f.decls)) j 0 = omega (arith, p) in e);
      scalars = λ k from below. room.scalars k from (omega (arith, all, more, below));
    }

own_part : (size : Sizes) (a b : Store) → Mirrors size (places_from 0 size.own) a b → take size.own b ≡ a
own_part size a b m =
    let l = places_long 0 size.own in
    let long = m.long in
    let room = m.room in
    let first : length (take size.own b) ≡ size.own = length-take-le size.own b (omega (arith, room)) in
    ext_get_or [] (take size.own b) a (first ∙ sym (long ∙ l))
    (λ i lt.
    get_or-take size.own b i [] (omega (arith, first, lt))
    ∙ (ap (λ n. words_of_number b n)
    (let p = place_is 0 size.own i (omega (arith, first, lt)) in
    let e : i ≡ get_or (places_from 0 size.own) i 0 = omega (arith, p) in e)
    ∙ sym (m.same i (omega (arith, first, l, lt)))))

same_end : (size : Sizes) (r q : Option Left) → Alike size (places_from 0 size.own) r q
    → option_map (take size.own) (option_map (λ (l : Left). l.store) q) ≡ option_map (λ (l : Left). l.store) r
same_end size None None BothSpent = refl
same_end size None (Some b) h = elim h [ ]
same_end size (Some a) None h = elim h [ ]
same_end size (Some a) (Some b) (BothLeft same m) = ap Some (own_part size a.store b.store m)

pub kept_meaning : (f : File) → ArePlain f.decls → length (inlined_body f).labels ≤ 2 ^ 64 → KeepsMeaning f (inlined_file f)
kept_meaning f plain few store turns room =
    let size = sizes f.decls (inlined_body f).labels in
    let decls = f.decls ++ added 0 (inlined_body f).labels in
    let numbers = new_numbers f.decls (inlined_body f).labels plain few in
    let follows = block_follows (calls_of (reverse f.procedures)) (inlines_of (reverse f.procedures))
    (calls_follow numbers (reverse f.procedures)) (declared_names f.decls) kept_name f.body 0
    (places_from 0 (length f.decls)) (own_places size) (own_match f.decls (inlined_body f).labels plain few)
    (omega arith) in
    same_end size _ _ (follows.alike (take (length f.decls) store) store turns (start f store room))
