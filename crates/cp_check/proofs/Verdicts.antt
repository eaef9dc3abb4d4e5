-- A report is accepted exactly where it has a good layout, and has at most one first reason against it.
use Rattle.std.proofs.Common.{◌≡◌, ℕ, ◌<◌, ◌↔◌, refl, sym, ap, ◌∙◌, ⊎_elim, arith}
use Rattle.std.proofs.lemmas.Bool.{cases_lt}
use Rattle.cp_cgraph.specs.Clustered.{Clustered}
use Rattle.cp_cgraph.specs.declared.layout.Layout.{Layout}
use Rattle.cp_rot.specs.Systems.{System}
use Rattle.cp_rot.specs.Genus.{HasGenusZero}
use Rattle.cp_rot.proofs.Euler.{FaceCount-unique, ComponentCount-unique}
use Rattle.cp_border.specs.Borders.{borders}
use Rattle.cp_border.specs.Good.{IsGood, IsRightNode, IsRightCluster}
use Rattle.cp_report.specs.declared.report.Report.{Report}
use Rattle.cp_report.specs.declared.report.Report.TheVariants.{Yes, No}
use Rattle.cp_check.specs.Judging.{HasWrongGenus, IsLayoutReason, IsReason, IsGoodReport, IsVerdict}
use Rattle.cp_check.specs.declared.verdict.Reject.{Reject}
use Rattle.cp_check.specs.declared.verdict.Reject.TheVariants.{NoLayout, NodeLine, ClusterLine, Genus}
use Rattle.cp_check.specs.declared.verdict.Verdict.{Verdict}
use Rattle.cp_check.specs.declared.verdict.Verdict.TheVariants.{Accepted, Rejected}

-- counts of genus zero are no counts of another genus
pub zero_not_wrong : (r : System) (v e f c : ℕ) → HasGenusZero r → HasWrongGenus r v e f c → ⊥
zero_not_wrong r v e f c zero wrong =
    let faces = FaceCount-unique r f zero.faces wrong.faces zero.face_count in
    let components = ComponentCount-unique r c zero.components wrong.components zero.component_count in
    wrong.not_zero (omega (arith, wrong.vertices, wrong.edges, faces, components, zero.euler))

-- a system has one set of counts
pub one_genus : (r : System) (v e f c v' e' f' c' : ℕ) → HasWrongGenus r v e f c → HasWrongGenus r v' e' f' c'
    → Genus v e f c ≡ Genus v' e' f' c'
one_genus r v e f c v' e' f' c' a b =
    let p : v ≡ v' = a.vertices ∙ sym b.vertices in
    let q : e ≡ e' = a.edges ∙ sym b.edges in
    let s : f ≡ f' = FaceCount-unique r f f' a.faces b.faces in
    let t : c ≡ c' = ComponentCount-unique r c c' a.components b.components in
    cc

-- the least number at which something is wrong is one
pub one_first : (Right : ℕ → Type 0) (i j : ℕ) → ¬ Right i → ((k : ℕ) → k < i → Right k) → ¬ Right j
    → ((k : ℕ) → k < j → Right k) → i ≡ j
one_first Right i j wrong_i before_i wrong_j before_j =
    ⊎_elim (λ below. absurd (wrong_i (before_j i below)))
    (λ above. ⊎_elim (λ below. absurd (wrong_j (before_i j below))) (λ above_too. omega (arith, above, above_too))
    (cases_lt j i))
    (cases_lt i j)

-- a layout that is good has no reason against it
layout_no_reason : (g : Clustered) (l : Layout) (reason : Reject) → IsGood g l → IsLayoutReason g l reason → ⊥
layout_no_reason g l NoLayout good is = is
layout_no_reason g l (NodeLine i) good is = is.wrong (good.arranged.nodes_right i)
layout_no_reason g l (ClusterLine k) good is = is.wrong (good.arranged.clusters_right k)
layout_no_reason g l (Genus v e f c) good is = zero_not_wrong (borders g l) v e f c good.flat is.counts

-- a report that is good has no reason against it
pub good_no_reason : (g : Clustered) (r : Report) (reason : Reject) → IsGoodReport g r → IsReason g r reason → ⊥
good_no_reason g No reason good is = good
good_no_reason g (Yes l) reason good is = layout_no_reason g l reason good is

-- there is one first reason
layout_reason : (g : Clustered) (l : Layout) (a b : Reject) → IsLayoutReason g l a → IsLayoutReason g l b → a ≡ b
layout_reason g l NoLayout b is other = absurd is
layout_reason g l (NodeLine i) NoLayout is other = absurd other
layout_reason g l (NodeLine i) (NodeLine j) is other =
    ap NodeLine (one_first (IsRightNode g l) i j is.wrong is.right_before other.wrong other.right_before)
layout_reason g l (NodeLine i) (ClusterLine k) is other = absurd (is.wrong (other.nodes_right i))
layout_reason g l (NodeLine i) (Genus v e f c) is other = absurd (is.wrong (other.arranged.nodes_right i))
layout_reason g l (ClusterLine k) NoLayout is other = absurd other
layout_reason g l (ClusterLine k) (NodeLine j) is other = absurd (other.wrong (is.nodes_right j))
layout_reason g l (ClusterLine k) (ClusterLine m) is other =
    ap ClusterLine (one_first (IsRightCluster g l) k m is.wrong is.right_before other.wrong other.right_before)
layout_reason g l (ClusterLine k) (Genus v e f c) is other = absurd (is.wrong (other.arranged.clusters_right k))
layout_reason g l (Genus v e f c) NoLayout is other = absurd other
layout_reason g l (Genus v e f c) (NodeLine j) is other = absurd (other.wrong (is.arranged.nodes_right j))
layout_reason g l (Genus v e f c) (ClusterLine k) is other = absurd (other.wrong (is.arranged.clusters_right k))
layout_reason g l (Genus v e f c) (Genus v' e' f' c') is other =
    one_genus (borders g l) v e f c v' e' f' c' is.counts other.counts

-- a report has one first reason against it
pub one_reason : (g : Clustered) (r : Report) (a b : Reject) → IsReason g r a → IsReason g r b → a ≡ b
one_reason g No a b is other = is ∙ sym other
one_reason g (Yes l) a b is other = layout_reason g l a b is other

-- a verdict accepts exactly the reports that have a good layout
pub accepted_exactly : (g : Clustered) (r : Report) (v : Verdict) → IsVerdict g r v → (v ≡ Accepted) ↔ IsGoodReport g r
accepted_exactly g r Accepted is = (λ same. is, λ good. refl)
accepted_exactly g r (Rejected reason) is = (
  λ same. let impossible : Rejected reason ≡ Accepted =
      same in cc,
  λ good. absurd (good_no_reason g r reason good is),
)

-- and a report has one verdict
pub one_verdict : (g : Clustered) (r : Report) (v w : Verdict) → IsVerdict g r v → IsVerdict g r w → v ≡ w
one_verdict g r Accepted Accepted is other = refl
one_verdict g r Accepted (Rejected b) is other = absurd (good_no_reason g r b is other)
one_verdict g r (Rejected a) Accepted is other = absurd (good_no_reason g r a other is)
one_verdict g r (Rejected a) (Rejected b) is other = ap Rejected (one_reason g r a b is other)
