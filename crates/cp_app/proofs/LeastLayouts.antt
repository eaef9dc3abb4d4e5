-- Layouts whose lists begin with their least items, and reports that have them.
use Rattle.std.proofs.Common.{◌≡◌, ℕ, List, [], ◌∷◌, get_or, map, sym, ap, subst, arith}
use Rattle.std.specs.List.{All}
use Rattle.std.proofs.lemmas.List.Elements.{All-cons}
use Rattle.cp_lists.specs.CyclicLists.{Has}
use Rattle.cp_lists.specs.Turns.{turned_to_least}
use Rattle.cp_lists.proofs.LeastItems.{turned_to_least-head, turned_to_least-IsTurn}
use Rattle.cp_lists.proofs.TurnedLists.{Has-of_turn}
use Rattle.cp_cgraph.specs.Clustered.{Clustered, IsClustered}
use Rattle.cp_cgraph.specs.GraphTexts.{IsGraphText}
use Rattle.cp_cgraph.specs.declared.layout.Layout.{Layout}
use Rattle.cp_cgraph.proofs.Tables.{IsClustered-graph_of}
use Rattle.cp_border.specs.Good.{IsCPlanar, IsGood}
use Rattle.cp_board.specs.Instances.{Synchronized}
use Rattle.cp_board.specs.Solutions.{IsSolvable}
use Rattle.cp_skel.specs.Skeletons.{skeletons}
use Rattle.cp_skel.specs.SolutionLayouts.{from_least}
use Rattle.cp_skel.proofs.PlanarSkeletons.{planar_exactly}
use Rattle.cp_skel.proofs.TurnedLayouts.{from_least-IsTurnedLayout, turned-IsGood}
use Rattle.cp_report.specs.declared.report.Report.{Report}
use Rattle.cp_report.specs.Texts.{report_text}
use Rattle.cp_app.specs.Answer.{AllBeginLeast, BeginsLeast, IsSolvedReport, Solved, end_of}
use Rattle.cp_app.specs.Answer.Solved.{solved}
use Rattle.cp_app.specs.declared.end.End.{End}

-- a text says a clustered graph
pub IsClustered-text : (text : List ℕ) (g : Clustered) → IsGraphText text g → IsClustered g
IsClustered-text text g is = subst IsClustered (sym is.graph.says) (IsClustered-graph_of is.entries)

-- a list from its least item on begins with that
turned-BeginsLeast : (xs : List ℕ) → BeginsLeast (turned_to_least xs)
turned-BeginsLeast xs x has =
    let back : Has x xs = Has-of_turn xs (turned_to_least xs) x (turned_to_least-IsTurn xs) has in
    let w = turned_to_least-head x xs back in
    let first : get_or (turned_to_least xs) 0 x ≡ w.0 = ap (λ ys. get_or ys 0 x) w.2 in
    omega (arith, first, w.3 x back)

-- so do all lists from their least items on
all-BeginLeast : (xss : List (List ℕ)) → All BeginsLeast (map turned_to_least xss)
all-BeginLeast [] = λ k d lt. absurd (omega (arith, lt))
all-BeginLeast (xs ∷ xss) = All-cons BeginsLeast (turned_to_least xs) (map turned_to_least xss) (turned-BeginsLeast xs)
    (all-BeginLeast xss)

-- those of a layout, too
pub from_least-AllBeginLeast : (l : Layout) → AllBeginLeast (from_least l)
from_least-AllBeginLeast l = record { nodes = all-BeginLeast l.nodes; clusters = all-BeginLeast l.clusters }

-- and it stays good
pub least-IsGood : (g : Clustered) (l : Layout) → IsClustered g → IsGood g l → IsGood g (from_least l)
least-IsGood g l is good = turned-IsGood g l (from_least l) is (from_least-IsTurnedLayout l) good

-- where the skeletons have no solution the graph is not c-planar
pub unsolvable-not_planar : (g : Clustered) (i : Synchronized) → IsClustered g → i ≡ skeletons g → ¬ IsSolvable i
    → ¬ IsCPlanar g
unsolvable-not_planar g i is same none planar =
    none (subst IsSolvable (sym same) ((planar_exactly g is).0 planar))

-- the layout of a solution, each list from its least item on, is one that solves the graph
pub solution-IsSolvedReport : (g : Clustered) (l k : Layout) → l ≡ from_least k → IsGood g l
    → IsGood g l × AllBeginLeast l
solution-IsSolvedReport g l k same good = (good, subst AllBeginLeast (sym same) (from_least-AllBeginLeast k))

-- the end and the text of a report that solves a graph answer the text of the graph
pub told-Solved : (text : List ℕ) (g : Clustered) (r : Report) (end : End) (line : List ℕ) → IsGraphText text g
    → IsSolvedReport g r → (end ≡ end_of r) × (line ≡ report_text r) → Solved text end line
told-Solved text g r end line is answer told =
    subst (λ t. Solved text end t) (sym told.1) (subst (λ e. Solved text e (report_text r)) (sym told.0)
    (solved g is r answer))
