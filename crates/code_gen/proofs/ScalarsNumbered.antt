-- The scalar that a register holds for the whole run, by a name of it.
use Rattle.std.proofs.Common.{◌≡◌, ℕ, ◌<◌, List, length, get_or, Option, Some, sym, ap, ◌∙◌, arith}
use Rattle.std.specs.Prelude.{slice_index_or}
use Rattle.std.specs.Option.{option_map}
use Rattle.std.proofs.lemmas.Option.{slice_get_within, get_or_from_slice_get}
use Rattle.gr_word.specs.declared.variables.Label.{Label}
use Rattle.gr_word.specs.declared.variables.Shape.TheVariants.{Scalar}
use Rattle.src_tree.specs.declared.trees.Decl.{Decl}
use Rattle.src_tree.specs.Prelude.{context_of, shape_of, label_and_shape, variable_number, DeclaredOnce}
use Rattle.src_tree.proofs.VariableNumbers.{number-of_declared, kind-at_number}
use Rattle.held_registers.specs.Prelude.{held_at, label_held, IsSoundHeld}
use Rattle.block_cache_gen.specs.Prelude.{Setting, home_of, no_home, home_numbered}
use Rattle.held_registers.specs.declared.registers.Held.TheVariants as thing

pub record ScalarNumbered (f : Setting) (n : ℕ) : Type 0 where
  pub name : List ℕ
  pub label : Label
  pub declared : context_of f.decls name ≡ Some (label, Scalar)
  pub number : variable_number f.decls name ≡ n
  pub home : home_of f name ≡ home_numbered f n
  pub own : label_held f.decls (thing.Scalar n) ≡ Some label

pub scalar-numbered : (f : Setting) → DeclaredOnce f.decls → IsSoundHeld f.decls f.held → (r n : ℕ)
    → held_at f.held r ≡ Some (thing.Scalar n) → ScalarNumbered f n
scalar-numbered f once sound r n at =
    let (d, found, none) = sound.scalars r n at in
    let within = slice_get_within f.decls n d found in
    let here : get_or f.decls n d ≡ d = get_or_from_slice_get f.decls n d d found in
    let number : variable_number f.decls d.name ≡ n =
    ap (λ (e : Decl). variable_number f.decls e.name) (sym here) ∙ number-of_declared f.decls once n d within in
    let below : variable_number f.decls d.name < length f.decls = omega (arith, number, within) in
    record {
      name = d.name;
      label = d.label;
      declared
          = kind-at_number f.decls d.name d below
          ∙ ap (λ (k : ℕ). Some (label_and_shape (get_or f.decls k d))) number
          ∙ ap (λ (e : Decl). Some (label_and_shape e)) here
          ∙ ap (λ (l : Option ℕ). Some (d.label, shape_of l)) none;
      number = number;
      home = ap (λ (k : ℕ). slice_index_or f.homes k no_home) number;
      own = ap (option_map (λ (e : Decl). e.label)) found;
    }
