-- The laws of reading a symbol's name.
use Rattle.std.proofs.Common.{◌≡◌, ◌≢◌, ℕ, true, List, ◌++◌, length, take, Ok, refl, sym, append_assoc, arith}
use Rattle.std.specs.Prelude.{All, IsTrue}
use Rattle.std.proofs.lemmas.Bool.{ltb-false, le-ltb, leb-true, and_parts, and_from}
use Rattle.std.proofs.lemmas.List.{take_at, drop_at, take-append-drop, length-append, length-take-le}
use Rattle.gr_word.specs.Prelude.{is_name}
use Rattle.lt_isa.specs.declared.symbols.Symbol.{Symbol}
use Rattle.gr_base.specs.Prelude.{Within}
use Rattle.lt_isa.proofs.OtherNames.{others, pass_others}
use Rattle.object_file.specs.Prelude.{name, is_new_name, name_bytes_at, name_at}
use Rattle.object_file.proofs.Numbers.{IsBytes, IsBytes-drop}
use Rattle.gr_base.proofs.Results.{IfRead, read_then, read_if, read_unless}
use Rattle.object_file.proofs.Readers.{Takes, Takes-then, IsReader, range}

-- a name that none of these symbols has
pub record IsNewName (before : List Symbol) (text : List ℕ) : Type 0 where
  pub name : IsTrue (is_name text)
  pub new : All (λ s. s.name ≢ text) before

IsNewName-test : (before : List Symbol) (text : List ℕ) → is_new_name before text ≡ true → IsNewName before text
unfolding is_new_name
IsNewName-test before text e = let p = and_parts _ _ e in record { name = p.0; new = others before text p.1 }

test-IsNewName : (before : List Symbol) (text : List ℕ) → IsNewName before text → is_new_name before text ≡ true
unfolding is_new_name
test-IsNewName before text h = and_from _ _ h.name (pass_others before text h.new)

-- a name has 1 to 32 bytes
pub length-name : (text : List ℕ) → IsTrue (is_name text) → Within 1 32 (length text)
length-name text h =
    let p = and_parts _ _ h in
    let q = and_parts _ _ p.1 in
    (leb-true _ _ p.0, leb-true _ _ q.0)

name_bytes_read : (all n : ℕ) (before : List Symbol) (bytes : List ℕ) → IsBytes bytes
    → IfRead (name_bytes_at all n before bytes) (λ x. Takes bytes x.0 x.1 × (length x.0 ≡ n) × IsNewName before x.0)
unfolding name_bytes_at
name_bytes_read all n before bytes fits = read_unless _ _ _ _ (λ enough. read_if _ _ _ _ (λ ok. (
  record { parts = sym (take-append-drop n bytes); rest_fits = IsBytes-drop n bytes fits },
  length-take-le n bytes (ltb-false _ _ enough),
  IsNewName-test before (take n bytes) ok,
)))

name_bytes_again : (all : ℕ) (before : List Symbol) (text rest : List ℕ) → IsNewName before text
    → name_bytes_at all (length text) before (text ++ rest) ≡ Ok (text, rest)
unfolding name_bytes_at
name_bytes_again all before text rest new =
    let enough = le-ltb (length (text ++ rest)) (length text) (omega (arith, length-append text rest)) in
    rw
    (enough, take_at text rest (length text) refl, drop_at text rest (length text) refl, test-IsNewName before text new)
    refl

-- a new name is read from its encoding, and from nothing else
pub names : (all : ℕ) (before : List Symbol) → IsReader (name_at all before) name (IsNewName before)
unfolding name_at name
names all before =
    let size = range 1 all 1 32 (omega arith) in
    record {
      reads = λ bytes fits.
          read_then _ _ _ _ (size.reads bytes fits) (λ n a.
          record {
            then = λ x e.
                let b = (name_bytes_read all n.0 before n.1 a.0.rest_fits).then x e in
                let count = b.1 in
                rw count (Takes-then a.0 b.0, b.2);
          });
      again = λ text rest h. simp append_assoc
          (rw (size.again (length text) _ (length-name text h.name)) (name_bytes_again all before text rest h));
    }
