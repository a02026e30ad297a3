-- The opposite of a comparison holds exactly if the comparison fails.
use Rattle.std.proofs.Common.{◌≡◌, ℕ, Bool, true, false, not, ℤ, pos, negsuc, int_lt, int_le, nat_lt, nat_le, refl, sym, ap, ◌∙◌, arith}
use Rattle.gr_word.specs.Prelude.{compared}
use Rattle.gr_word.specs.declared.operations.Cmp.{Cmp}
use Rattle.gr_word.specs.declared.operations.Cmp.TheVariants.{Eq, Ne, Lt, Le, Gt, Ge}
use Rattle.code_gen.specs.Prelude.{opposite}

twice : (b : Bool) → b ≡ not (not b)
twice true = refl
twice false = refl

nat_turned : (a b : ℕ) → nat_le b a ≡ not (nat_lt a b)
nat_turned a b = grind arith

int_turned : (a b : ℤ) → int_le b a ≡ not (int_lt a b)
int_turned (pos a) (pos b) = nat_turned a b
int_turned (pos a) (negsuc b) = refl
int_turned (negsuc a) (pos b) = refl
int_turned (negsuc a) (negsuc b) = nat_turned b a

-- the opposite comparison holds exactly if the other fails
pub compared-opposite : (cmp : Cmp) (a b : ℤ) → compared (opposite cmp) a b ≡ not (compared cmp a b)
compared-opposite Eq a b = refl
compared-opposite Ne a b = twice (compared Eq a b)
compared-opposite Lt a b = int_turned a b
compared-opposite Le a b = twice (int_lt b a) ∙ ap not (sym (int_turned b a))
compared-opposite Gt a b = int_turned b a
compared-opposite Ge a b = twice (int_lt a b) ∙ ap not (sym (int_turned a b))
