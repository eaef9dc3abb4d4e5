-- What holds of the system that the program makes.
use Rattle.std.proofs.Common.{◌≡◌, ◌≢◌, ℕ, ◌+◌, ◌-◌, ◌<◌, List, [], length, sym, ap, ◌∙◌, subst}
use Rattle.cp_rot.specs.Systems.{System, darts, list_of, IsRotation}
use Rattle.cp_rot.specs.Genus.{HasGenusZero}
use Rattle.cp_rot.specs.Tables.{system_of}
use Rattle.cp_rot.specs.Rewrites.{values}
use Rattle.cp_rotlaw.specs.Stars.{IsStarSplit, HaveSameBlocks}
use Rattle.cp_rotlaw.specs.StarParts.{AreEntered, part_of, star_at, AreRows, star_list}
use Rattle.cp_rotlaw.proofs.StarCode.{some_part}
use Rattle.cp_rotlaw.proofs.StarSystems.{star_system, made_star, star_split_is}
use Rattle.cp_rotlaw.proofs.StarGenus.{star_good}
use Rattle.cp_rotlaw.proofs.StarBlocks.{same_blocks}

-- s is r with u split, a rotation system of the same blocks, and of genus zero if r is
pub record HasStar (r : System) (u : ℕ) (s : System) : Type 0 where
  pub rotation : IsRotation s
  pub split : IsStarSplit r u s
  pub genus : HasGenusZero r → HasGenusZero s
  pub blocks : HaveSameBlocks r s

-- the system of the parts is
pub HasStar-system : (r : System) (u parts : ℕ) (entered : List ℕ) → IsRotation r → u < r.vertices → 0 < parts
    → AreEntered r u parts entered → HasStar r u (star_system r u (parts - 1) (part_of r entered))
HasStar-system r u parts entered is ltu some a = record {
  rotation = (star_good r is u ltu parts entered a).0;
  split = star_split_is r u parts entered is ltu some a;
  genus = (star_good r is u ltu parts entered a).1;
  blocks = same_blocks r is u ltu parts entered a (parts - 1);
}

-- so is that of the tables, as the program reads them
pub HasStar-made : (r : System) (u parts : ℕ)
    {entered first second at at_read : List ℕ} {rows rows_read lists lists_read : List (List ℕ)} → IsRotation r
    → u < r.vertices → list_of r u ≢ [] → AreEntered r u parts entered
    → first ≡ entered → second ≡ entered → rows_read ≡ rows → at_read ≡ at → lists_read ≡ lists
    → at ≡ values (darts r) (star_at r u (part_of r first)) → AreRows (part_of r second) (list_of r u) parts rows
    → lists ≡ values (r.vertices + (length rows_read - 1)) (star_list r u rows_read)
    → HasStar r u (system_of at_read lists_read)
HasStar-made r u parts {entered} {at_read = at_read} {rows = rows} {lists_read = lists_read} is ltu some a first_is second_is rows_is at_is lists_is e_at e_rows e_lists =
    subst (HasStar r u) (sym made) (HasStar-system r u parts entered is ltu (some_part r u parts entered is ltu a some) a)
  where
    made : system_of at_read lists_read ≡ star_system r u (parts - 1) (part_of r entered)
    made = made_star r u parts (part_of r entered) is ltu (some_part r u parts entered is ltu a some)
        (subst (λ (xs : List ℕ). AreRows (part_of r xs) (list_of r u) parts rows) second_is e_rows)
        (at_is ∙ e_at ∙ ap (λ (xs : List ℕ). values (darts r) (star_at r u (part_of r xs))) first_is)
        (lists_is ∙ e_lists ∙ ap (λ (xs : List (List ℕ)). values (r.vertices + (length xs - 1)) (star_list r u xs)) rows_is)
