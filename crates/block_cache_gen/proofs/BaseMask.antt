-- The mask of notes between statements, one register more at a time.
use Rattle.std.proofs.Common.{◌≡◌, ℕ, ◌+◌, suc, Bool, List, refl, ap, ◌∙◌, arith}
use Rattle.std.specs.Prelude.{if◌then◌else◌}
use Rattle.src_tree.specs.declared.trees.Decl.{Decl}
use Rattle.held_registers.specs.Prelude.{held_at}
use Rattle.block_cache_gen.specs.Prelude.{Held, label_by, is_public, mask_to, unmarked, all_marked}

-- before the first register
pub mask-begins : (decls : List Decl) (held : List Held) → all_marked ≡ mask_to decls held 0
unfolding mask_to
mask-begins decls held = refl

-- a register more
pub mask-more : (decls : List Decl) (held : List Held) (r mask : ℕ) (public : Bool)
    → public ≡ is_public (label_by decls (held_at held r)) → mask ≡ mask_to decls held r
    → (if public then unmarked mask r else mask) ≡ mask_to decls held (r + 1)
unfolding mask_to
mask-more decls held r mask public is so_far =
    ap (λ b. if b then unmarked mask r else mask) is
    ∙ ap (λ m. if is_public (label_by decls (held_at held r)) then unmarked m r else m) so_far
    ∙ ap (mask_to decls held) (let e : suc r ≡ r + 1 = omega arith in e)
