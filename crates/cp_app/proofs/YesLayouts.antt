-- A yes of `solve` tells a drawing.
use Rattle.std.proofs.Common.{◌≡◌, ℕ, ◌*◌, ◌<◌, ◌==◌, List, refl}
use Rattle.cp_lists.proofs.DistinctLists.{Exactly-Distinct, Exactly-Has}
use Rattle.cp_cgraph.specs.Clustered.{Clustered, clusters, edges, node_of, nodes}
use Rattle.cp_cgraph.specs.Crossings.{leaves}
use Rattle.cp_cgraph.specs.declared.layout.Layout.{Layout}
use Rattle.cp_report.specs.declared.report.Report.{Report}
use Rattle.cp_report.specs.declared.report.Report.TheVariants.{Yes, No}
use Rattle.cp_report.specs.Texts.{report_text}
use Rattle.cp_border.specs.Borders.{cluster_list, node_list}
use Rattle.cp_border.specs.Good.{IsGood}
use Rattle.cp_app.specs.Answer.{IsSolvedReport, Refusal, Solved, end_of}
use Rattle.cp_app.specs.Answer.Refusal.{grammar, graph}
use Rattle.cp_app.specs.Answer.Solved.{refused, solved}
use Rattle.cp_app.specs.YesLayouts.{IsCrossedOnce, IsDrawing, IsRoundNode, TellsDrawing}
use Rattle.cp_app.specs.declared.end.End.{End}
use Rattle.cp_app.specs.declared.end.End.TheVariants as ends

-- the border of a cluster is crossed by the edges that leave it
good-IsCrossedOnce : (g : Clustered) (l : Layout) → IsGood g l → (k : ℕ) → 0 < k → k < clusters g → IsCrossedOnce g l k
good-IsCrossedOnce g l good k up lt =
    let exact = ((good.arranged.clusters_right k).present up lt).1 in record {
      leaving = Exactly-Has (edges g) (leaves g k) (cluster_list l k) exact;
      once = Exactly-Distinct (edges g) (leaves g k) (cluster_list l k) exact;
    }

-- round a node stand its ends of edges
good-IsRoundNode : (g : Clustered) (l : Layout) → IsGood g l → (i : ℕ) → i < nodes g → IsRoundNode g l i
good-IsRoundNode g l good i lt =
    let exact = ((good.arranged.nodes_right i).present lt).1 in record {
      ends = Exactly-Has (2 * edges g) (λ d. node_of g d == i) (node_list l i) exact;
      once = Exactly-Distinct (2 * edges g) (λ d. node_of g d == i) (node_list l i) exact;
    }

-- a good layout is a drawing
good-IsDrawing : (g : Clustered) (l : Layout) → IsGood g l → IsDrawing g l
good-IsDrawing g l good = record {
  nodes_round = good-IsRoundNode g l good;
  borders_crossed = good-IsCrossedOnce g l good;
  plane = good.flat;
}

-- a refusal is no yes
refused_no_yes : (text : List ℕ) {e : End} {s : List ℕ} → Refusal text e s → ¬ (e ≡ ends.Yes)
refused_no_yes text (grammar kind at is) = λ e. cc
refused_no_yes text (graph kind at is) = λ e. cc

-- what `solve` answers with yes tells a drawing
pub yes-TellsDrawing : (bytes : List ℕ) {e : End} {s : List ℕ} → Solved bytes e s → e ≡ ends.Yes → TellsDrawing bytes s
yes-TellsDrawing bytes (refused is) same = absurd (refused_no_yes bytes is same)
yes-TellsDrawing bytes (solved g is No none) same = absurd (no_is_no_yes same)
  where
    no_is_no_yes : ¬ (ends.No ≡ ends.Yes)
    no_is_no_yes = λ e. cc
yes-TellsDrawing bytes (solved g is (Yes l) good) same = record {
  graph = g;
  read = is;
  layout = l;
  told = refl;
  drawing = good-IsDrawing g l good.0;
}
