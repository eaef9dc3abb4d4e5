-- What a check answers: a good layout is accepted, and any other report is rejected by its first reason.
use Rattle.std.specs.Prelude.{◌≡◌, ◌≢◌, ℕ, ◌+◌, ◌*◌}
use Rattle.cp_cgraph.specs.Clustered.{Clustered}
use Rattle.cp_cgraph.specs.declared.layout.Layout.{Layout}
use Rattle.cp_rot.specs.Systems.{System, edges}
use Rattle.cp_rot.specs.Genus.{FaceCount, ComponentCount}
use Rattle.cp_border.specs.Borders.{borders}
use Rattle.cp_border.specs.Good.{IsArranged, IsGood, IsFirstWrongNode, IsFirstWrongCluster}
use Rattle.cp_report.specs.declared.report.Report.{Report}
use Rattle.cp_report.specs.declared.report.Report.TheVariants.{Yes, No}
use Rattle.cp_check.specs.declared.verdict.Reject.{Reject}
use Rattle.cp_check.specs.declared.verdict.Reject.TheVariants.{NoLayout, NodeLine, ClusterLine, Genus}
use Rattle.cp_check.specs.declared.verdict.Verdict.{Verdict}
use Rattle.cp_check.specs.declared.verdict.Verdict.TheVariants.{Accepted, Rejected}

-- these are the counts of the system, and they are not those of genus zero
pub record HasWrongGenus (r : System) (v e f c : ℕ) : Type 0 where
  pub vertices : v ≡ r.vertices
  pub edges : e ≡ edges r
  pub faces : FaceCount r f
  pub components : ComponentCount r c
  pub not_zero : v + f ≢ e + 2 * c

-- the reason tells wrong counts of the system
abbrev pub IsGenusReason : System → Reject → Type 0
IsGenusReason r NoLayout = ⊥
IsGenusReason r (NodeLine i) = ⊥
IsGenusReason r (ClusterLine k) = ⊥
IsGenusReason r (Genus v e f c) = HasWrongGenus r v e f c

-- all lines are right, and the counts of the border graph are not those of genus zero
pub record IsWrongGenus (g : Clustered) (l : Layout) (v e f c : ℕ) : Type 0 where
  pub arranged : IsArranged g l
  pub counts : HasWrongGenus (borders g l) v e f c

-- the first reason for which the layout is not good
abbrev pub IsLayoutReason : Clustered → Layout → Reject → Type 0
IsLayoutReason g l NoLayout = ⊥
IsLayoutReason g l (NodeLine i) = IsFirstWrongNode g l i
IsLayoutReason g l (ClusterLine k) = IsFirstWrongCluster g l k
IsLayoutReason g l (Genus v e f c) = IsWrongGenus g l v e f c

-- the first reason for which the report has no good layout
abbrev pub IsReason : Clustered → Report → Reject → Type 0
IsReason g No reason = reason ≡ NoLayout
IsReason g (Yes l) reason = IsLayoutReason g l reason

-- the report has a good layout
abbrev pub IsGoodReport : Clustered → Report → Type 0
IsGoodReport g No = ⊥
IsGoodReport g (Yes l) = IsGood g l

-- the report has a good layout and is accepted, or this is the first reason against it
abbrev pub IsVerdict : Clustered → Report → Verdict → Type 0
IsVerdict g r Accepted = IsGoodReport g r
IsVerdict g r (Rejected reason) = IsReason g r reason
