use Rattle.std.proofs.Common.{◌≡◌, ◌-◌, ◌<◌, Bool, true, false, ◌&&◌, ◌++◌, [], ◌∷◌, pos, length, None, unwrap_or, is_some, refl, sym, ap, ◌∙◌, arith, append-nil, append_assoc, rules}
use Rattle.std.specs.List.{list_all}
use Rattle.std.proofs.Math.Bool.{and-true}
use Rattle.json.specs.Json.{parse_map, after_end_array, items, value}
use Rattle.serde_json.specs.Data.{no_items, item}
use Rattle.serde_json.specs.Read.{of_items, converted}
use Rattle.run_data.specs.Prelude.{list_of, is_word, word_of, words_listed}
use Rattle.run_data.proofs.JsonReading.{item_read, item_refused, items_over, none_before, one_more}
use Rattle.run_data.proofs.members.read_items.Goals as goal

pub items-init : goal.items-init
items-init c =
    let all = converted of_items (items (value c.args.depth) (length c.args.reader.now) c.args.reader.now) in (
      length c.args.reader.now,
      (λ js. js),
      omega arith,
      none_before all,
      (λ js. ap (λ ws. ws ++ words_listed (list_of js)) (sym c.new-words.ensures.items)),
      (λ js. refl),
      omega arith,
    )

and_then : (a b c : Bool) → (a && (b && c)) ≡ ((a && b) && c)
and_then true b c = refl
and_then false b c = refl

pub items-preserved : goal.items-preserved
items-preserved c =
    let p = value c.args.depth in
    let l = c.items in
    let n = l.invariant.0 in
    let f = l.invariant.1 in
    let going : (after_end_array l.reader ≡ None) × (c.take_end_array.new.self ≡ l.reader) = grind arith in
    let done = c.in_ok-word.ensures in
    let d = done.passed.0 in
    let r = c.pass_value.new.reader in
    let less : length r < length l.reader = rw (← going.1) done.shorter in
    let turn = item_read p n l.reader r d (omega (arith, l.invariant.2)) going.0 (rw (← going.1) done.passed.1) in
    let word : c.in_ok-word.word ≡ word_of d = done.passed.2 in
    let flag : c.is_some-are_words.result ≡ is_some c.in_ok-word.word = grind arith in
    let one_more_word : c.push.new.self.items ≡ l.words.items ++ unwrap_or c.in_ok-word.word (pos 0) ∷ [] = search rules in
    let pushed : c.push.new.self.items ≡ l.words.items ++ unwrap_or (word_of d) (pos 0) ∷ [] =
    one_more_word ∙ ap (λ o. l.words.items ++ unwrap_or o (pos 0) ∷ []) word in (
      n - 1,
      (λ js. f (item d js)),
      omega (arith, l.invariant.2),
      l.invariant.3 ∙ ap (parse_map f) turn ∙ one_more f d _,
      (λ js. l.invariant.4 (item d js)
          ∙ sym (append_assoc l.words.items (unwrap_or (word_of d) (pos 0) ∷ []) (words_listed (list_of js)))
          ∙ ap (λ ws. ws ++ words_listed (list_of js)) (sym pushed)),
      (λ js. l.invariant.5 (item d js)
          ∙ and_then l.are_words (is_some (word_of d)) (list_all is_word (list_of js))
          ∙ ap (λ o. (l.are_words && is_some o) && list_all is_word (list_of js)) (sym word)
          ∙ ap (λ b. (l.are_words && b) && list_all is_word (list_of js)) (sym flag)),
      omega (arith, l.invariant.6),
    )

pub returns-in_err-word-clause-none : goal.returns-in_err-word-clause-none
returns-in_err-word-clause-none c = λ other.
    let p = value c.args.depth in
    let l = c.items in
    let going : (after_end_array l.reader ≡ None) × (c.take_end_array.new.self ≡ l.reader) = grind arith in
    l.invariant.3
    ∙ ap (parse_map l.invariant.1)
    (item_refused p l.invariant.0 l.reader going.0 (rw (← going.1) c.in_err-word.ensures.invalid))

pub returns-clause-listed : goal.returns-clause-listed
returns-clause-listed c =
    let p = value c.args.depth in
    let l = c.items in
    let r = c.take_end_array.new.self in
    let f = l.invariant.1 in (
      f no_items,
      l.invariant.3 ∙ ap (parse_map f) (items_over p l.invariant.0 l.reader r l.invariant.2 (grind arith)),
      l.invariant.4 no_items ∙ append-nil l.words.items,
      l.invariant.5 no_items ∙ and-true l.are_words,
    )
