use Rattle.std.proofs.Common.{rules, ap, subst, ◌∙◌, sym, ◌≡◌, ◌<◌, length, slice_set, slice_index_or, [], to_z, of_z, w64}
use Rattle.std.proofs.lemmas.List.{map-set, get_or-map, length-map}
use Rattle.gr_word.specs.Prelude.{words_at}
use Rattle.gr_word.proofs.input_lists.Inputs.set.Goals as goal

there : (c : goal.After-self-1) → c.args.i < length c.self.inside.lists.items
there c =
    subst (λ n. c.args.i < n) (length-map c.self.inside.lists.items (λ words. words.items))
    (subst (λ lists. c.args.i < length lists) (sym c.self.view_is) c.requires.list)

words_are : (c : goal.After-self-1) → c.index_mut.result.now.items ≡ words_at c.args.self.now c.args.i
words_are c =
    ap (λ words. words.items) c.index_mut.ensures.value
    ∙ sym (get_or-map (λ words. words.items) c.self.inside.lists.items c.args.i _ [] (there c))
    ∙ ap (λ lists. slice_index_or lists c.args.i []) c.self.view_is

word_is : (c : goal.After-self-1) → to_z w64 (of_z w64 c.args.word) ≡ c.args.word
word_is c = search rules

pub returns : goal.returns
returns c =
    map-set (λ words. words.items) c.self.inside.lists.items c.args.i _
    ∙ ap (λ lists. slice_set lists c.args.i
    (slice_set c.index_mut.result.now.items c.args.at (to_z w64 (of_z w64 c.args.word)))) c.self.view_is
    ∙ ap (λ words. slice_set c.args.self.now c.args.i (slice_set words c.args.at (to_z w64 (of_z w64 c.args.word))))
    (words_are c)
    ∙ ap (λ word. slice_set c.args.self.now c.args.i (slice_set (words_at c.args.self.now c.args.i) c.args.at word))
    (word_is c)
