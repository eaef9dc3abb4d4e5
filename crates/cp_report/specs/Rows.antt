-- Reports on which the text is tried.
use Rattle.std.specs.Prelude.{◌≡◌, codes, [], ◌∷◌, ◌++◌, refl}
use Rattle.std.specs.Fmt.{digits}
use Rattle.cp_report.specs.declared.report.Report.TheVariants.{Yes, No}
use Rattle.cp_report.specs.Texts.{report_lines, report_text}

-- the layout of the graph without nodes
empty : report_lines (Yes (record { nodes = []; clusters = [] }))
    ≡ codes "cplan-report 1" ∷ codes "yes" ∷ codes "end" ∷ []
empty = refl

-- the report that says no
none : report_text No ≡ codes "cplan-report 1" ++ 10 ∷ codes "no" ++ 10 ∷ codes "end" ++ 10 ∷ []
none = refl

-- three nodes in a cycle
triangle : report_lines (Yes (record { nodes = (0 ∷ 5 ∷ []) ∷ (1 ∷ 2 ∷ []) ∷ (3 ∷ 4 ∷ []) ∷ []; clusters = [] })) ≡
    codes "cplan-report 1" ∷ codes "yes" ∷ codes "node 0: 0s 2t" ∷ codes "node 1: 0t 1s" ∷ codes "node 2: 1t 2s" ∷ codes
    "end" ∷ []
unfolding digits
triangle = refl

-- an edge, a node without edges, and two clusters
lone_nodes : report_lines (Yes (record {
  nodes = (0 ∷ []) ∷ (1 ∷ []) ∷ [] ∷ [];
  clusters = [] ∷ (0 ∷ 4 ∷ 2 ∷ []) ∷ [];
})) ≡
    codes "cplan-report 1" ∷ codes "yes" ∷ codes "node 0: 0s" ∷ codes "node 1: 0t" ∷ codes "node 2:" ∷ codes
    "cluster 1:" ∷ codes "cluster 2: 0 4 2" ∷ codes "end" ∷ []
unfolding digits
lone_nodes = refl
