-- What the compiler knows of scalars at each statement. An assignment to a public scalar sets its range, a choice or a
-- loop forgets what it assigns. In the body of a loop whose guard says that a scalar is below a bound, the scalar is
-- below it, and not below its least at the start, as long as the body doesn't take it below that. (This project's
-- compiler.)
use Rattle.std.specs.Prelude.{ℕ, ◌+◌, ◌-◌, ◌*◌, ◌^◌, ◌&&◌, Bool, false, if◌then◌else◌, ℤ, pos, negsuc, nat_lt, nat_le, List, replicate, slice_set, Option, Some, None}
use Rattle.gr_word.specs.declared.operations.Op.{Op}
use Rattle.gr_word.specs.declared.operations.Op.TheVariants.{Add, Sub, Mul, Div, Rem, Remu, And, Or, Xor, Shl, Shr}
use Rattle.gr_word.specs.declared.operations.Cmp.{Cmp}
use Rattle.gr_word.specs.declared.operations.Cmp.TheVariants.{Eq, Ne, Lt, Le, Gt, Ge}
use Rattle.gr_word.specs.declared.variables.Label.{Label}
use Rattle.gr_word.specs.declared.variables.Label.TheVariants.{Public, Secret}
use Rattle.src_tree.specs.declared.trees.Decl.{Decl}
use Rattle.src_tree.specs.Contexts.{context_of}
use Rattle.src_tree.specs.Labels.{label_at}
use Rattle.src_tree.specs.Meaning.{variable_number}
use Rattle.src_tree.specs.Trees.{Tree, Number, Variable, Element, Operation, Test, Statement, SetVariable, SetElement, Choice, Loop, Block, Nothing, Then}
use Rattle.scalar_ranges.specs.declared.ranges.Range.{Range}
use Rattle.scalar_ranges.specs.Ranges.{Ranges, range_at}

-- before a program runs
abbrev pub nothing_known : ℕ → Ranges
nothing_known count = replicate count None

-- a range whose numbers are words
abbrev pub range_from : (least most : ℕ) → Option Range
range_from least most =
    if nat_le least most && nat_lt most 9223372036854775808 then Some (record { least = least; most = most }) else None

-- the range of a number
abbrev pub natural : ℤ → Option Range
natural (pos n) = range_from n n
natural (negsuc n) = None

-- the range of an operation on two words in ranges
abbrev pub range_by : Op → Range → Range → Option Range
range_by Add a b = range_from (a.least + b.least) (a.most + b.most)
range_by Sub a b = if nat_lt a.least b.most then None else range_from (a.least - b.most) (a.most - b.least)
range_by Mul a b = range_from (a.least * b.least) (a.most * b.most)
range_by Rem a b = if nat_lt 0 b.least then range_from 0 (b.most - 1) else None
range_by And a b = range_from 0 b.most
range_by Shl a b =
    if nat_le b.least b.most && nat_lt b.most 63 then range_from (a.least * 2 ^ b.least) (a.most * 2 ^ b.most) else None
range_by other a b = None

-- the range of an operation on any word and one in a range: that of a mask
abbrev pub range_under : Op → Range → Option Range
range_under And b = range_from 0 b.most
range_under other b = None

abbrev pub operated : Op → Option Range → Option Range → Option Range
operated op a None = None
operated op None (Some b) = range_under op b
operated op (Some a) (Some b) = range_by op a b

-- the range of an expression
abbrev pub range_of : List Decl → Ranges → Tree → Option Range
range_of decls known (Number z) = natural z
range_of decls known (Variable x) = range_at known (variable_number decls x)
range_of decls known (Element x i) = None
range_of decls known (Operation op a b) = operated op (range_of decls known a) (range_of decls known b)

-- an index is known to be below a length
abbrev pub is_below : Option Range → ℕ → Bool
is_below None length = false
is_below (Some r) length = nat_lt r.most length

abbrev pub is_within : List Decl → Ranges → Tree → ℕ → Bool
is_within decls known index length = is_below (range_of decls known index) length

-- what is known of a name becomes this
abbrev pub with_range : List Decl → Ranges → List ℕ → Option Range → Ranges
with_range decls known x r = slice_set known (variable_number decls x) r

-- what is known if the variables that are assigned are forgotten
abbrev mutual
  pub forgotten_statement : List Decl → Ranges → Statement → Ranges
  forgotten_statement decls known (SetVariable x e) = with_range decls known x None
  forgotten_statement decls known (SetElement x i e) = with_range decls known x None
  forgotten_statement decls known (Choice t a b) = forgotten_block decls (forgotten_block decls known a) b
  forgotten_statement decls known (Loop t a) = forgotten_block decls known a

  pub forgotten_block : List Decl → Ranges → Block → Ranges
  forgotten_block decls known Nothing = known
  forgotten_block decls known (Then s rest) = forgotten_block decls (forgotten_statement decls known s) rest

-- What an assignment says of a public scalar. Nothing is known of secret ones, since secret code executes statements
-- without their effect.
abbrev pub learned_as : Label → Option Range → Option Range
learned_as Public r = r
learned_as Secret r = None

abbrev pub learned : List Decl → Ranges → List ℕ → Tree → Option Range
learned decls known x e = learned_as (label_at (context_of decls) x) (range_of decls known e)

-- what is known after a statement, and after a block
abbrev pub after_statement : List Decl → Ranges → Statement → Ranges
after_statement decls known (SetVariable x e) = with_range decls known x (learned decls known x e)
after_statement decls known (SetElement x i e) = with_range decls known x None
after_statement decls known (Choice t a b) = forgotten_block decls (forgotten_block decls known a) b
after_statement decls known (Loop t a) = forgotten_block decls known a

abbrev pub after_block : List Decl → Ranges → Block → Ranges
after_block decls known Nothing = known
after_block decls known (Then s rest) = after_block decls (after_statement decls known s) rest

-- the range of a scalar that isn't below the least of a range and passes a comparison with a word in another range
abbrev pub counted_by : Cmp → (start bound : Range) → Option Range
counted_by Lt start bound = range_from start.least (bound.most - 1)
counted_by Le start bound = range_from start.least bound.most
counted_by other start bound = None

abbrev pub counted : Cmp → (start bound : Option Range) → Option Range
counted cmp None bound = None
counted cmp (Some start) None = None
counted cmp (Some start) (Some bound) = counted_by cmp start bound

-- a scalar isn't below what it was at the start
abbrev pub keeps_least : (start after : Option Range) → Bool
keeps_least None after = false
keeps_least (Some start) None = false
keeps_least (Some start) (Some after) = nat_le start.least after.least

-- what is known in the body of a loop that counts a scalar, by what isn't forgotten, the scalar's range before the
-- loop, and the range that it would have in the body
abbrev pub inside_by : List Decl → Ranges → List ℕ → (start guess : Option Range) → Block → Ranges
inside_by decls forgotten x start None a = forgotten
inside_by decls forgotten x start (Some guess) a =
    if keeps_least start
    (range_at (after_block decls (with_range decls forgotten x (Some guess)) a) (variable_number decls x))
    then with_range decls forgotten x (Some guess)
    else forgotten

-- the same by the left side of the guard
abbrev pub inside_of : List Decl → Ranges → Test → Block → Tree → Ranges
inside_of decls known t a (Variable x) =
    inside_by decls (forgotten_block decls known a) x (range_at known (variable_number decls x))
    (counted t.cmp (range_at known (variable_number decls x))
    (range_of decls (forgotten_block decls known a) t.right))
    a
inside_of decls known t a other = forgotten_block decls known a

-- what is known in the body of a loop, by what is known before the loop
abbrev pub inside : List Decl → Ranges → Test → Block → Ranges
inside decls known t a = inside_of decls known t a t.left
