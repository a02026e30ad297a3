-- Names in a map, with their numbers.
use Rattle.std.proofs.Common.{◌≡◌, ℕ, cond, List, drop, get_or, length, ◌+◌, ◌<◌, true, Some, None, ap, ◌∙◌}
use Rattle.std.specs.Borrow.{Bor}
use Rattle.std.specs.BTreeMap.{BTreeMap, get, is_at}
use Rattle.std.proofs.Math.Path.{fun_ext}
use Rattle.std.proofs.lemmas.List.{drop_more}
use Rattle.gr_base.proofs.NameMaps.{key_cmp, name_added}
use Rattle.gr_base.specs.Prelude.{found_under}
use Rattle.procs_tree.specs.Prelude.{numbered, numbered_all, Names, names_seen}
use Rattle.std.specs.Prelude.{is_some}

-- a name that was added to the map
pub numbered_one : (m n : BTreeMap (Bor (List ℕ)) ℕ) (k : Bor (List ℕ)) (number : ℕ)
    → ((q : Bor (List ℕ)) → get key_cmp n q ≡ cond (is_at (key_cmp k) q) (Some number) (get key_cmp m q))
    → found_under n ≡ numbered (found_under m) k.now number
numbered_one m n k number h = fun_ext (name_added m n k number h)

-- a name that is known already
pub named_twice : (known : Names) (i : ℕ) (names : List (Bor (List ℕ))) (d : Bor (List ℕ)) → i < length names
    → is_some (known (get_or names i d).now) ≡ true → numbered_all known i (names_seen (drop i names)) ≡ None
named_twice known i names d lt e =
    ap (λ (ns : List (Bor (List ℕ))). numbered_all known i (names_seen ns)) (drop_more names i d lt)
    ∙ ap (λ b. cond b None (numbered_all (numbered known (get_or names i d).now i) (i + 1)
    (names_seen (drop (i + 1) names)))) e
