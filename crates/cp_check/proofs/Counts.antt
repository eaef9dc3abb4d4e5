-- How large the counts of a border graph are, and what they tell of a layout.
use Rattle.std.proofs.Common.{◌≡◌, ℕ, ◌+◌, ◌*◌, ◌/◌, ◌^◌, ◌<◌, Option, None, Some, MatchOption, subst, Fits, w64, arith}
use Rattle.cp_cgraph.specs.Clustered.{Clustered}
use Rattle.cp_cgraph.specs.declared.layout.Layout.{Layout}
use Rattle.cp_rot.specs.Systems.{System, darts}
use Rattle.cp_rot.specs.Genus.{FaceCount, ComponentCount, HasGenusZero}
use Rattle.cp_rot.proofs.Euler.{FaceCount-le, ComponentCount-le}
use Rattle.cp_border.specs.Borders.{borders}
use Rattle.cp_border.specs.Good.{IsArranged, IsGood}
use Rattle.cp_check.specs.Judging.{HasWrongGenus, IsGenusReason, IsLayoutReason}
use Rattle.cp_check.specs.declared.verdict.Reject.{Reject}
use Rattle.cp_check.specs.declared.verdict.Reject.TheVariants.{NoLayout, NodeLine, ClusterLine, Genus}

-- counts that are not too many fit 64 bits
pub small_sums : (r : System) (v n f c : ℕ) → v ≡ r.vertices → n ≡ darts r → v < 2 ^ 60 → n < 2 ^ 60 → FaceCount r f →
    ComponentCount r c → Fits w64 (v + f) × Fits w64 (2 * c) × Fits w64 (n / 2 + 2 * c)
small_sums r v n f c ev en bv bn faces components =
    let few = FaceCount-le r f faces in
    let fewer = ComponentCount-le r c components in
    (omega (arith, ev, en, bv, bn, few), omega (arith, ev, bv, fewer), omega (arith, ev, bv, bn, fewer))

-- what is told of the border graph of an arranged layout is told of the layout
pub layout_told : (g : Clustered) (l : Layout) (r : System) → r ≡ borders g l → IsArranged g l → (o : Option Reject) →
    MatchOption o (HasGenusZero r) (IsGenusReason r) → MatchOption o (IsGood g l) (IsLayoutReason g l)
layout_told g l r is arranged None zero = record { arranged = arranged; flat = subst HasGenusZero is zero }
layout_told g l r is arranged (Some NoLayout) why = why
layout_told g l r is arranged (Some (NodeLine i)) why = absurd why
layout_told g l r is arranged (Some (ClusterLine k)) why = absurd why
layout_told g l r is arranged (Some (Genus v e f c)) why =
    record { arranged = arranged; counts = subst (λ s. HasWrongGenus s v e f c) is why }
