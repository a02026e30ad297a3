-- The classes of variables, by which they are placed (GhostRider, ASPLOS 2015: three kinds of memory).
use Rattle.std.specs.Prelude.{ℕ, Bool, true, false, Option, Some, None, ◌&&◌, not, is_none}
use Rattle.gr_word.specs.declared.variables.Label.{Label}
use Rattle.gr_word.specs.declared.variables.Label.TheVariants.{Public, Secret}
use Rattle.src_tree.specs.declared.trees.Decl.{Decl}
use Rattle.src_tree.specs.Trees.{Source}
use Rattle.src_tree.specs.Labels.{secret_label}
use Rattle.bank_alloc.specs.declared.classes.Class.{Class}
use Rattle.bank_alloc.specs.declared.classes.Class.TheVariants.{PublicScalar, SecretScalar, PublicArray, EncryptedArray, ObliviousArray}
use Rattle.bank_alloc.specs.Indexes.{has_secret_index}

-- by its label, its length, and whether it has a secret index: a secret array that has none is encrypted, and one that
-- has is oblivious
abbrev pub class_by : Label → Option ℕ → Bool → Class
class_by Public None indexed = PublicScalar
class_by Secret None indexed = SecretScalar
class_by Public (Some n) indexed = PublicArray
class_by Secret (Some n) false = EncryptedArray
class_by Secret (Some n) true = ObliviousArray

abbrev pub class_of : Source → Decl → Class
class_of p d = class_by d.label d.length (has_secret_index p d.name)

-- whether one label is another
abbrev pub is_labelled : Label → Label → Bool
is_labelled Public label = not (secret_label label)
is_labelled Secret label = secret_label label

-- whether a variable is a scalar of a label
abbrev pub is_scalar : Label → Decl → Bool
is_scalar label d = is_none d.length && is_labelled label d.label
