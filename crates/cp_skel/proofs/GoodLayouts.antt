-- Good layouts by their skeleton lists: exactly where these are plane; and the same with loops taken out and put in.
use Rattle.std.proofs.Common.{◌↔◌, ℕ, ◌*◌, Bool, List, [], ◌++◌, map, sym, subst}
use Rattle.std.specs.List.{filter}
use Rattle.std.proofs.lemmas.List.{append-nil}
use Rattle.cp_cgraph.specs.Clustered.{Clustered, IsClustered}
use Rattle.cp_cgraph.specs.declared.layout.Layout.{Layout}
use Rattle.cp_border.specs.Borders.{segments}
use Rattle.cp_border.specs.Good.{IsArranged, IsGood}
use Rattle.cp_maps.specs.Genus.{IsFlat, IsPlane}
use Rattle.cp_maps.specs.Maps.{IsMapOf, next_by}
use Rattle.cp_maps.proofs.Genus.{SameGenus-IsFlat}
use Rattle.cp_maps.proofs.KeptDarts.{kept_darts-IsFlat}
use Rattle.cp_skel.specs.LoopLists.{AllTurned, Looped, bare_lists, looped_lists}
use Rattle.cp_skel.specs.SkeletonLists.{skeleton_lists}
use Rattle.cp_skel.proofs.LoopLists.{looped_lists-SameGenus}
use Rattle.cp_skel.proofs.SkeletonLists.{IsMapOf-skeletons, borders-IsPlane}
use Rattle.cp_skel.proofs.TurnedMaps.{IsMapOf-blocks, IsMapOf-turned}

-- a layout is good exactly where it is arranged and its skeleton lists are plane
pub good_exactly : (g : Clustered) (l : Layout) → IsClustered g
    → IsGood g l ↔ (IsArranged g l × IsPlane (segments g) (skeleton_lists g l))
good_exactly g l is = (
  λ z. (z.arranged, (borders-IsPlane g l is z.arranged).0 z.flat),
  λ z. record { arranged = z.0; flat = (borders-IsPlane g l is z.0).1 z.1 },
)

-- the skeleton lists of a good layout without some segments, as those of loops, have a flat map, too
pub kept_skeletons : (g : Clustered) (l : Layout) → IsClustered g → IsGood g l → (keep : ℕ → Bool) (f : ℕ → ℕ)
    → IsMapOf (2 * segments g) f (map (filter keep) (skeleton_lists g l)) → IsFlat (segments g) f
kept_skeletons g l is good keep f is_f =
    kept_darts-IsFlat (segments g) (next_by (skeleton_lists g l)) (skeleton_lists g l)
    (IsMapOf-skeletons g l is good.arranged) ((good_exactly g l is).0 good).1 keep f is_f

-- an arranged layout is good where, up to turns, its skeleton lists are the lists of a flat map, with loops put in at
-- the ends of some
pub good_from : (g : Clustered) (l : Layout) → IsClustered g → IsArranged g l → (f : ℕ → ℕ) (ps : List Looped)
    (rows : List (List ℕ)) → AllTurned (skeleton_lists g l) (rows ++ looped_lists ps)
    → IsMapOf (2 * segments g) f (bare_lists ps ++ rows) → IsFlat (segments g) f → IsGood g l
good_from g l is ar f ps rows turned is_f flat_f =
    let n : ℕ = 2 * segments g in
    let h : ℕ → ℕ = next_by (skeleton_lists g l) in
    let all : List (List ℕ) = rows ++ looped_lists ps in
    let whole : IsMapOf n h (skeleton_lists g l ++ []) =
    subst (IsMapOf n h) (sym (append-nil (skeleton_lists g l))) (IsMapOf-skeletons g l is ar) in
    let is_h : IsMapOf n h all =
    subst (IsMapOf n h) (append-nil all) (IsMapOf-turned n h (skeleton_lists g l) all [] turned whole) in
    (good_exactly g l is).1 (
      ar,
      SameGenus-IsFlat (segments g) f h
          (looped_lists-SameGenus (segments g) f h ps rows is_f (IsMapOf-blocks n h rows (looped_lists ps) is_h))
          flat_f,
    )
