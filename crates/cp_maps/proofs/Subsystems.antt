-- Some of the darts of a flat map, under other names, are flat.
use Rattle.std.proofs.Common.{ℕ, List, ◌*◌, ◌≤◌, Bool, map, ◌↔◌}
use Rattle.std.specs.List.{filter}
use Rattle.cp_maps.specs.Genus.{CanBeFlat, IsFlat, OneGenus}
use Rattle.cp_maps.specs.Maps.{IsMapOf, SameRings}
use Rattle.cp_maps.specs.Names.{Names}
use Rattle.cp_maps.proofs.Genus.{OneGenus-IsFlat, OneGenus-sym}
use Rattle.cp_maps.proofs.KeptDarts.{kept_darts-CanBeFlat}
use Rattle.cp_maps.proofs.Names.{named_lists-OneGenus}

-- a map of m edges whose lists, under the names j, are those of the darts that a test keeps in a flat map
pub subsystem-IsFlat : (m e : ℕ) (j f g : ℕ → ℕ) (keep : ℕ → Bool) (rows others : List (List ℕ)) → m ≤ e → Names m e j
    → IsMapOf (2 * e) f others → IsFlat e f → SameRings (2 * e) (map (filter keep) others) (map (map j) rows)
    → IsMapOf (2 * m) g rows → IsFlat m g
subsystem-IsFlat m e j f g keep rows others le names is flat_f same is_g =
    let kept : CanBeFlat e (map (filter keep) others) = kept_darts-CanBeFlat e f others is flat_f keep in
    OneGenus-IsFlat e kept.0 m g (OneGenus-sym m g e kept.0
    (named_lists-OneGenus m e j g kept.0 rows le names is_g (same kept.0 kept.1))) kept.2

-- a map whose lists are, under other names, all those of another: both are flat or none
pub renamed_lists-IsFlat : (m e : ℕ) (j f g : ℕ → ℕ) (rows others : List (List ℕ)) → m ≤ e → Names m e j
    → IsMapOf (2 * e) f others → SameRings (2 * e) others (map (map j) rows) → IsMapOf (2 * m) g rows
    → IsFlat m g ↔ IsFlat e f
renamed_lists-IsFlat m e j f g rows others le names is same is_g =
    let one : OneGenus m g e f = named_lists-OneGenus m e j g f rows le names is_g (same f is) in
    (OneGenus-IsFlat m g e f one, OneGenus-IsFlat e f m g (OneGenus-sym m g e f one))
