-- What a yes tells, in the words of a drawing (Feng, Cohen, Eades 1995).
use Rattle.std.specs.Prelude.{◌≡◌, ℕ, ◌*◌, ◌<◌, ◌==◌, ◌↔◌, true, List}
use Rattle.cp_lists.specs.CyclicLists.{Has, Distinct}
use Rattle.cp_cgraph.specs.Clustered.{Clustered, clusters, edges, node_of, nodes}
use Rattle.cp_cgraph.specs.Crossings.{leaves}
use Rattle.cp_cgraph.specs.GraphTexts.{IsGraphText}
use Rattle.cp_cgraph.specs.declared.layout.Layout.{Layout}
use Rattle.cp_report.specs.declared.report.Report.TheVariants.{Yes}
use Rattle.cp_report.specs.Texts.{report_text}
use Rattle.cp_rot.specs.Genus.{HasGenusZero}
use Rattle.cp_border.specs.Borders.{borders, cluster_list, node_list}

-- each edge that leaves cluster k crosses its border once, and nothing else crosses it
pub record IsCrossedOnce (g : Clustered) (l : Layout) (k : ℕ) : Type 0 where
  pub leaving : (e : ℕ) → Has e (cluster_list l k) ↔ ((e < edges g) × (leaves g k e ≡ true))
  pub once : Distinct (cluster_list l k)

-- the ends of edges at node i stand round it, each once, and nothing else does
pub record IsRoundNode (g : Clustered) (l : Layout) (i : ℕ) : Type 0 where
  pub ends : (d : ℕ) → Has d (node_list l i) ↔ ((d < 2 * edges g) × ((node_of g d == i) ≡ true))
  pub once : Distinct (node_list l i)

-- the layout draws the graph and the borders of its clusters in the plane
pub record IsDrawing (g : Clustered) (l : Layout) : Type 0 where
  pub nodes_round : (i : ℕ) → i < nodes g → IsRoundNode g l i
  pub borders_crossed : (k : ℕ) → 0 < k → k < clusters g → IsCrossedOnce g l k
  pub plane : HasGenusZero (borders g l)

-- the bytes are the text of a graph, and the text tells a drawing of it
pub record TellsDrawing (bytes text : List ℕ) : Type 0 where
  pub graph : Clustered
  pub read : IsGraphText bytes graph
  pub layout : Layout
  pub told : text ≡ report_text (Yes layout)
  pub drawing : IsDrawing graph layout
