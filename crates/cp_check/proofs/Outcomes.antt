-- No report is without a verdict.
use Rattle.std.proofs.Common.{ℕ, zero, suc, ◌+◌, ◌*◌, ◌<◌, ◌≤◌, ⊎_elim, length, refl, arith}
use Rattle.std.proofs.lemmas.Bool.{cases_eq, cases_lt}
use Rattle.cp_lists.specs.Count.{IsCount}
use Rattle.cp_lists.proofs.Counting.{below_next, IsCount-none, IsCount-next_no, IsCount-next_yes}
use Rattle.cp_cgraph.specs.Clustered.{Clustered, nodes, clusters}
use Rattle.cp_cgraph.specs.declared.layout.Layout.{Layout}
use Rattle.cp_orbits.specs.Connected.{IsLeastConnected}
use Rattle.cp_orbits.specs.Orbits.{IsLeastOfOrbit}
use Rattle.cp_rot.specs.Systems.{System, darts, edges}
use Rattle.cp_rot.specs.Genus.{face_step, end_pairs, IsBare, HasGenusZero}
use Rattle.cp_border.specs.Borders.{borders}
use Rattle.cp_border.specs.Good.{IsGood, IsRightNode, IsRightCluster}
use Rattle.cp_report.specs.declared.report.Report.{Report}
use Rattle.cp_report.specs.declared.report.Report.TheVariants.{Yes, No}
use Rattle.cp_check.specs.Judging.{HasWrongGenus, IsLayoutReason, IsReason, IsGoodReport}
use Rattle.cp_check.specs.declared.verdict.Reject.{Reject}
use Rattle.cp_check.specs.declared.verdict.Reject.TheVariants.{NoLayout, NodeLine, ClusterLine, Genus}

-- no property of the numbers below n is without a count
some_count : (P : ℕ → Type 0) (n : ℕ) → ((c : ℕ) → IsCount P n c → ⊥) → ⊥
some_count P zero none = none 0 (IsCount-none P)
some_count P (suc n) none =
    some_count P n (λ c is. none c (IsCount-next_no P n c is (λ here. none (suc c) (IsCount-next_yes P n c is here))))

-- where not all below n are right, some number is the least that is wrong
first_wrong_below : (Right : ℕ → Type 0) (n : ℕ) → (((i : ℕ) → i < n → Right i) → ⊥)
    → ((i : ℕ) → ¬ Right i → ((j : ℕ) → j < i → Right j) → ⊥) → ⊥
first_wrong_below Right zero not_all none = not_all (λ i lt. absurd (omega (arith, lt)))
first_wrong_below Right (suc n) not_all none =
    first_wrong_below Right n (λ before. none n (λ here. not_all (below_next Right n before here)) before) none

-- where all from n on are right and not all are, some number is the least that is wrong
first_wrong : (Right : ℕ → Type 0) (n : ℕ) → ((i : ℕ) → n ≤ i → Right i) → (((i : ℕ) → Right i) → ⊥)
    → ((i : ℕ) → ¬ Right i → ((j : ℕ) → j < i → Right j) → ⊥) → ⊥
first_wrong Right n above not_all none =
    first_wrong_below Right n
    (λ below. not_all (λ i. ⊎_elim (λ lt. below i lt) (λ ge. above i ge) (cases_lt i n)))
    none

module _ (g : Clustered) (l : Layout) where
  -- where there is neither a node nor a list for it, a node line is right
  right_node_above : (i : ℕ) → nodes g + length l.nodes ≤ i → IsRightNode g l i
  right_node_above i high = record {
    present = λ lt. absurd (omega (arith, high, lt));
    expected = λ lt. absurd (omega (arith, high, lt));
  }

  -- where there is neither a cluster nor a list for it, a cluster line is right
  right_cluster_above : (k : ℕ) → clusters g + length l.clusters + 1 ≤ k → IsRightCluster g l k
  right_cluster_above k high = record {
    present = λ positive lt. absurd (omega (arith, high, lt));
    expected = λ lt. absurd (omega (arith, high, lt));
  }

-- no system is without counts: they are those of genus zero or others
some_genus : (r : System) → ¬ HasGenusZero r → ((v e f c : ℕ) → HasWrongGenus r v e f c → ⊥) → ⊥
some_genus r not_zero none =
    some_count (IsLeastOfOrbit (face_step r)) (darts r) (λ least_darts least.
    some_count (IsBare r) r.vertices (λ bare_vertices bare.
    some_count (IsLeastConnected (end_pairs r.at)) r.vertices (λ components connected.
    let faces : ℕ = least_darts + bare_vertices in
    ⊎_elim
    (λ same. not_zero record {
      faces = faces;
      components = components;
      face_count = record {
        least_darts = least_darts;
        bare_vertices = bare_vertices;
        least = least;
        bare = bare;
        sum =
            refl;
      };
      component_count = connected;
      euler = same;
    })
    (λ other. none r.vertices (edges r) faces components record {
      vertices = refl;
      edges = refl;
      faces = record {
        least_darts = least_darts;
        bare_vertices = bare_vertices;
        least = least;
        bare = bare;
        sum =
            refl;
      };
      components = connected;
      not_zero = other;
    })
    (cases_eq (r.vertices + faces) (edges r + 2 * components)))))

-- a layout that is not good has a first reason against it
some_layout_reason : (g : Clustered) (l : Layout) → ¬ IsGood g l → ((reason : Reject) → IsLayoutReason g l reason → ⊥)
    → ⊥
some_layout_reason g l not_good none =
    first_wrong (IsRightNode g l) (nodes g + length l.nodes) (right_node_above g l)
    (λ nodes_right.
    first_wrong (IsRightCluster g l) (clusters g + length l.clusters + 1) (right_cluster_above g l)
    (λ clusters_right.
    some_genus (borders g l)
    (λ zero. not_good record {
      arranged = record { nodes_right = nodes_right; clusters_right = clusters_right };
      flat =
          zero;
    })
    (λ v e f c wrong.
    none (Genus v e f c) record {
      arranged = record { nodes_right = nodes_right; clusters_right = clusters_right };
      counts = wrong;
    }))
    (λ k wrong before. none (ClusterLine k) record { nodes_right = nodes_right; wrong = wrong; right_before = before }))
    (λ i wrong before. none (NodeLine i) record { wrong = wrong; right_before = before })

-- a report that is not good has a first reason against it
pub some_verdict : (g : Clustered) (r : Report) → ¬ IsGoodReport g r → ((reason : Reject) → IsReason g r reason → ⊥) → ⊥
some_verdict g No not_good none = none NoLayout refl
some_verdict g (Yes l) not_good none = some_layout_reason g l not_good none
