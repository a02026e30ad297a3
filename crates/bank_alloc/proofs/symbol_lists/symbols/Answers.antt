use Rattle.std.proofs.Common.{List, length, subst, ap, ◌∙◌, arith}
use Rattle.std.specs.Prelude.{IsTrue}
use Rattle.std.specs.List.{All}
use Rattle.std.specs.List.Sorted.{IsPermutation}
use Rattle.gr_word.specs.Prelude.{is_name}
use Rattle.lt_isa.specs.declared.symbols.Symbol.{Symbol}
use Rattle.src_tree.specs.declared.trees.Decl.{Decl}
use Rattle.src_tree.specs.Prelude.{source_of}
use Rattle.bank_alloc.specs.declared.places.Place.{Place}
use Rattle.bank_alloc.specs.Prelude.{placed_symbols}
use Rattle.bank_alloc.proofs.SymbolOrder.{symbols_sorted, symbols_in_range}
use Rattle.bank_alloc.proofs.symbol_lists.symbols.Goals as goal

pub symbols_at-requires : goal.symbols_at-requires
symbols_at-requires c =
    let places = ap (λ (qs : List Place). length qs) c.as_slice.ensures.value in
    let decls = ap (λ (ds : List Decl). length ds) c.as_slice-decls.ensures.value in
    omega (arith, places, decls, c.requires.places.count)

pub returns : goal.returns
returns c =
    let p = source_of c.args.p.now in
    let places = c.args.places.now.of_var.items in
    let blocks = c.args.places.now.blocks.items in
    let is = c.in_ok-symbols.ensures.symbols
    ∙ ap (λ (ds : List Decl). placed_symbols ds c.as_slice.result.now) c.as_slice-decls.ensures.value
    ∙ ap (placed_symbols p.decls) c.as_slice.ensures.value in
    let names = subst (All (λ (s : Symbol). IsTrue (is_name s.name))) is c.in_ok-symbols.ensures.named in
    let are = symbols_sorted p c.args.w blocks places c.sort.new.symbols.items c.requires.typed c.requires.within
    c.requires.block_log c.requires.places names
    (subst (λ symbols. IsPermutation symbols c.sort.new.symbols.items) is c.in_ok-sort.ensures.same)
    c.in_ok-sort.ensures.order in
    record {
      symbols = are;
      in_range = λ banks same.
          symbols_in_range p c.args.w blocks places banks c.sort.new.symbols.items c.requires.typed c.requires.within
          c.requires.places names are same;
    }
