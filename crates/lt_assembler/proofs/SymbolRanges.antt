-- The words of a symbol encode what is read, and its place after those before it is allowed.
use Rattle.std.proofs.Common.{◌≡◌, ◌≢◌, ℕ, ◌+◌, ◌-◌, ◌*◌, ◌<◌, ◌≤◌, true, List, [], ◌∷◌, length, Some, refl, arith}
use Rattle.std.specs.Prelude.{◌&&◌, All, IsTrue, codes, decimal}
use Rattle.std.proofs.lemmas.Bool.{and_parts, leb-true}
use Rattle.gr_word.specs.declared.variables.Label.{Label}
use Rattle.gr_word.specs.declared.variables.Label.TheVariants.{Public, Secret}
use Rattle.gr_word.specs.declared.variables.Shape.{Shape}
use Rattle.gr_word.specs.declared.variables.Shape.TheVariants.{Scalar, Array}
use Rattle.gr_word.specs.Prelude.{is_name}
use Rattle.lt_isa.specs.declared.profiles.BankSpec.{BankSpec}
use Rattle.lt_isa.specs.declared.symbols.Symbol.{Symbol}
use Rattle.lt_isa.specs.Prelude.{no_bank, BankFits, SymbolFits, LiesBehind, last_bank, blocks_in, first_free_word, most_length}
use Rattle.gr_base.specs.Prelude.{EachAfter}
use Rattle.lt_isa.proofs.OtherNames.{others}
use Rattle.lt_isa.proofs.SymbolPlaces.{lies_by_fields}
use Rattle.gr_base.proofs.EachAfter.{EachBelow-from_after}
use Rattle.lt_assembler.specs.declared.symbol_lines.Site.{Site}
use Rattle.lt_assembler.specs.Prelude.{Word, label_word, shape_word, words_for_symbol, label_named, shape_named, site_read, symbol_read, four, is_new, has_room}
use Rattle.lt_assembler.proofs.Found.{number_from}
use Rattle.lt_assembler.proofs.ReadsForm.{ReadsForm, form_ok, no_form, form_then, named_then, number_then, form_if}
use Rattle.lt_assembler.proofs.NamedWords.{named_is}

-- the memory of symbols: blocks of w words, and some banks of some blocks
pub record IsMemory (w : ℕ) (banks : List BankSpec) : Type 0 where
  pub words : 1 ≤ w
  pub count : 2 ≤ length banks
  pub blocks : (b : ℕ) → b < length banks → 1 ≤ blocks_in banks b

-- each bank has a block
pub blocks_in-some : (banks : List BankSpec)
    → EachAfter BankFits [] banks → (b : ℕ) → b < length banks → 1 ≤ blocks_in banks b
blocks_in-some banks each b lt = (EachBelow-from_after BankFits banks each b no_bank lt).blocks.0

-- a symbol at a place
pub record SiteFits (w : ℕ) (banks : List BankSpec) (before : List Symbol) (shape : Shape) (s : Site) : Type 0 where
  pub lies : (name : List ℕ) (label : Label)
      → LiesBehind w banks before (record {
        name = name;
        label = label;
        shape = shape;
        bank = s.bank;
        block = s.block;
        word = s.word;
        length = s.length;
      })

module _ (w : ℕ) (banks : List BankSpec) (before : List Symbol) (memory : IsMemory w banks) where
  abbrev IsSite : Shape → List Word → Site → Type 0
  IsSite shape words s =
      SiteFits w banks before shape s
      × (words ≡ decimal s.bank ∷ decimal s.block ∷ decimal s.word ∷ decimal s.length ∷ [])

  site_fits : (F : Type 0) (shape : Shape) (words : List Word)
      → ((a b c d : Word) → words ≡ a ∷ b ∷ c ∷ d ∷ [] → F)
      → ReadsForm (site_read w banks before shape words) F (IsSite shape words)
  unfolding site_read
  site_fits F shape (a ∷ b ∷ c ∷ d ∷ []) k =
      let has : F = k a b c d refl in
      number_then _ _ _ _ _ has (number_from (last_bank before) (length banks - 1) a) (λ bank ha.
      number_then _ _ _ _ _ has (number_from 0 (blocks_in banks bank - 1) b) (λ block hb.
      number_then _ _ _ _ _ has (number_from (first_free_word w before bank block) (w - 1) c) (λ word hc.
      number_then _ _ _ _ _ has (number_from 1 (most_length w banks shape bank (block * w + word)) d) (λ size hd.
      form_ok _ _ _ has (
        record {
          lies = λ name label. lies_by_fields w banks before _ (record {
            order = ha.0;
            bank = omega (arith, ha.1, memory.count);
            block = omega (arith, hb.1, memory.blocks bank (omega (arith, ha.1, memory.count)));
            free = hc.0;
            word = omega (arith, hc.1, memory.words);
            length = (hd.0, hd.1);
          });
        },
        rw (ha.2, hb.2, hc.2, hd.2) refl,
      )))))
  site_fits F shape _ k = no_form _ _

  pub record SymbolLies (s : Symbol) : Type 0 where
    pub name : IsTrue (is_name s.name)
    pub site : SiteFits w banks before s.shape
        (record { bank = s.bank; block = s.block; word = s.word; length = s.length })

  label_from : (word : Word) (label : Label) → label_named word ≡ Some label → label_word label ≡ word
  unfolding label_named
  label_from word label e = named_is label_word (Public ∷ Secret ∷ []) word label e

  shape_from : (word : Word) (shape : Shape) → shape_named word ≡ Some shape → shape_word shape ≡ word
  unfolding shape_named
  shape_from word shape e = named_is shape_word (Scalar ∷ Array ∷ []) word shape e

  words_of_symbol : (a b c : Word) (site d : List Word) (label : Label) (shape : Shape)
      → label_word label ≡ b → shape_word shape ≡ c → site ≡ d
      → codes ".symbol" ∷ a ∷ b ∷ c ∷ site ≡ codes ".symbol" ∷ a ∷ label_word label ∷ shape_word shape ∷ d
  words_of_symbol a b c site d label shape hb hc hd = rw (hb, hc, hd) refl

  abbrev pub IsSymbol : List Word → Symbol → Type 0
  IsSymbol words s = SymbolLies s × (codes ".symbol" ∷ words ≡ words_for_symbol s)

  -- the place of a symbol that is read, after those before it, is allowed
  pub symbol_lies : (F : Type 0) (words : List Word)
      → ((name : Word) → (label : Label) → (shape : Shape) → (a b c d : Word) → IsTrue (is_name name)
      → words ≡ name ∷ label_word label ∷ shape_word shape ∷ a ∷ b ∷ c ∷ d ∷ [] → F)
      → ReadsForm (symbol_read w banks before words) F (IsSymbol words)
  unfolding symbol_read
  symbol_lies F (a ∷ b ∷ c ∷ site) k =
      form_if (four site && is_name a) _ _ _ (λ whole.
      let named = (and_parts _ _ whole).1 in
      named_then _ _ _ _ _ (label_from b) (λ label hl.
      named_then _ _ _ _ _ (shape_from c) (λ shape hs.
      form_then _ _ _ _ _
      (site_fits F shape site (λ p q r s is. k a label shape p q r s named (rw (hl, hs, is) refl))) (λ s has h.
      form_ok _ _ _ has
      (record { name = named; site = h.0 }, words_of_symbol a b c site _ label shape hl hs h.1)))))
  symbol_lies F _ k = no_form _ _

  new_name : (text : List ℕ) → is_new before text ≡ true → All (λ s. s.name ≢ text) before
  unfolding is_new
  new_name text e = others before text e

  -- a symbol with a new name, and with room for its words
  pub symbol_fits : (s : Symbol)
      → SymbolLies s → is_new before s.name ≡ true → has_room before s ≡ true → SymbolFits w banks before s
  symbol_fits s lies new room = record {
    name = lies.name;
    new = new_name s.name new;
    lies = lies.site.lies s.name s.label;
    total = leb-true _ _ (and_parts _ _ room).1;
  }
