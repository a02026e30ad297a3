-- Code without effect that mirrors code with an effect, which writes once.
use Rattle.std.proofs.Common.{◌≡◌, Bool, true, false, List, [], ◌∷◌, refl, sym, ap, ◌∙◌, arith}
use Rattle.std.proofs.lemmas.Bool.{true≢false}
use Rattle.lt_isa.specs.declared.instructions.Instr.{Instr}
use Rattle.block_cache_gen.specs.Prelude.{is_write, written_words, IsInstead, Itself, Stored, Read, Dropped, Mirrors, Ends, Goes, DifferInLastWritten}
use Rattle.block_cache_gen.proofs.WrittenWords.{written-append, written-one}

module _ (once : Bool) where
  -- an instruction counts for nothing, and another for one
  plain-counts : (i : Instr) → is_write once i ≡ false → written_words once (i ∷ []) ≡ 0
  plain-counts i is = written-one once i false is

  written-counts : (i : Instr) → is_write once i ≡ true → written_words once (i ∷ []) ≡ 1
  written-counts i is = written-one once i true is

  -- an instruction that writes nothing stays as it is
  plain-same : (i j : Instr) → IsInstead once i j → is_write once i ≡ false → i ≡ j
  plain-same i j (Itself k) is = refl
  plain-same i j (Stored rs old slot ro) is = absurd (true≢false is)
  plain-same i j (Read rs slot only) is = absurd (true≢false is)
  plain-same i j (Dropped op r ra rb held) is = absurd (true≢false (sym held ∙ is))

  -- and so does code that writes nothing
  none-same : (one other : List Instr) → Mirrors once one other → written_words once one ≡ 0 → one ≡ other
  none-same one other Ends none = refl
  none-same one other (Goes i j xs ys instead rest) none = by (is_write once i) refl (none-same xs ys rest)
    where
      by : (b : Bool) → is_write once i ≡ b → (written_words once xs ≡ 0 → xs ≡ ys) → i ∷ xs ≡ j ∷ ys
      by true is more =
          absurd (omega (arith, written-append once (i ∷ []) xs, written-counts i is, none))
      by false is more =
          let head = plain-same i j instead is in
          let tail = more (omega (arith, written-append once (i ∷ []) xs, plain-counts i is, none)) in
          λ k. head k ∷ tail k

  -- so of code that writes once only this instruction may differ
  pub mirrors-differ : (one other : List Instr) → Mirrors once one other → written_words once one ≡ 1
      → DifferInLastWritten once one other
  mirrors-differ one other Ends writes = absurd (omega (arith, writes))
  mirrors-differ one other (Goes i j xs ys instead rest) writes =
      by (is_write once i) refl (mirrors-differ xs ys rest)
    where
      by : (b : Bool) → is_write once i ≡ b → (written_words once xs ≡ 1 → DifferInLastWritten once xs ys)
          → DifferInLastWritten once (i ∷ xs) (j ∷ ys)
      by true is more =
          let none : written_words once xs ≡ 0 =
          omega (arith, written-append once (i ∷ []) xs, written-counts i is, writes) in
          record {
            before = [];
            after = xs;
            written = i;
            instead = j;
            write = is;
            mirrors = instead;
            first = refl;
            second = ap (λ (code : List Instr). j ∷ code) (sym (none-same xs ys rest none));
            last = none;
          }
      by false is more =
          let d = more (omega (arith, written-append once (i ∷ []) xs, plain-counts i is, writes)) in
          let same = sym (plain-same i j instead is) in
          record {
            before = i ∷ d.before;
            after = d.after;
            written = d.written;
            instead = d.instead;
            write = d.write;
            mirrors = d.mirrors;
            first = ap (λ (code : List Instr). i ∷ code) d.first;
            second = let others = d.second in λ k. same k ∷ others k;
            last = d.last;
          }
