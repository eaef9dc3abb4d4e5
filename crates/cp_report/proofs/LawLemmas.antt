-- No text has two readings.
use Rattle.std.proofs.Common.{◌≡◌, ℕ, ◌+◌, List, [], ◌∷◌, ◌++◌, length, codes, refl, sym, ap, ◌∙◌, subst, inl, inr, arith, append_assoc}
use Rattle.std.specs.List.{AllByRecursion}
use Rattle.std.proofs.lemmas.List.{append_cancel_left, append-nil}
use Rattle.cp_report.specs.declared.kind.ReportKind.{ReportKind}
use Rattle.cp_cgraph.specs.declared.layout.Layout.{Layout}
use Rattle.cp_report.specs.declared.report.Report.{Report}
use Rattle.cp_report.specs.declared.report.Report.TheVariants.{Yes, No}
use Rattle.cp_report.specs.declared.row.Row.TheVariants.{Nodes, Clusters}
use Rattle.cp_report.specs.Texts.{report_lines, report_text, IsWithinLimits}
use Rattle.cp_report.specs.Faults.{IsLine, IsBegun, Breaks, wrong, missing, IsFaultOf}
use Rattle.cp_report.proofs.CutLemmas.{lacks_by_test}
use Rattle.cp_report.proofs.TextLemmas.{all-before, all-append, rows, rows_same, rows_are_lines, pieces, pieces-cut, pieces-whole, pieces_of_text, some_piece, lists_compare}
use Rattle.cp_report.proofs.ReportLemmas.{behind_first, verdict_byte, no_not_yes, end_behind_nodes, end_behind_clusters}

-- a layout is its two rows of lists
layout_same : (l m : Layout) → l.nodes ≡ m.nodes → l.clusters ≡ m.clusters → l ≡ m
layout_same l m p q =
    let other : Layout = record { nodes = m.nodes; clusters = l.clusters } in
    let one : l ≡ other = ap (λ (n : List (List ℕ)). let k : Layout = record { nodes = n; clusters = l.clusters } in k)
    p in
    let two : other ≡ m = ap (λ (c : List (List ℕ)). let k : Layout = record { nodes = m.nodes; clusters = c } in k)
    q in
    one ∙ two

-- lines that begin with those of two reports are the same report
pub report_unique : (r s : Report) (x y : List (List ℕ)) → IsWithinLimits r → IsWithinLimits s
    → report_lines r ++ x ≡ report_lines s ++ y → (r ≡ s) × (x ≡ y)
report_unique (Yes l) (Yes m) x y wl wm h =
    let tails = ap (λ ls. behind_first (behind_first ls)) h in
    let left = append_assoc (rows Nodes 0 l.nodes ++ rows Clusters 1 l.clusters) (codes "end" ∷ []) x
    ∙ append_assoc (rows Nodes 0 l.nodes) (rows Clusters 1 l.clusters) (codes "end" ∷ x) in
    let right = append_assoc (rows Nodes 0 m.nodes ++ rows Clusters 1 m.clusters) (codes "end" ∷ []) y
    ∙ append_assoc (rows Nodes 0 m.nodes) (rows Clusters 1 m.clusters) (codes "end" ∷ y) in
    let grouped : rows Nodes 0 l.nodes ++ (rows Clusters 1 l.clusters ++ codes "end" ∷ x) ≡ rows Nodes 0 m.nodes
    ++ (rows Clusters 1 m.clusters ++ codes "end" ∷ y) = sym left ∙ tails ∙ right in
    let nodes = rows_same Nodes l.nodes m.nodes 0 _ _ (omega (arith, wl.nodes)) wl.darts wm.darts
    (end_behind_nodes l.clusters x 1) (end_behind_nodes m.clusters y 1) grouped in
    let clusters = rows_same Clusters l.clusters m.clusters 1 (codes "end" ∷ x) (codes "end" ∷ y)
    (omega (arith, wl.clusters)) wl.edges wm.edges (end_behind_clusters x) (end_behind_clusters y) nodes.1 in
    (ap (λ k. Yes k) (layout_same l m nodes.0 clusters.0), ap behind_first clusters.1)
report_unique (Yes l) No x y wl wm h = absurd (no_not_yes (sym (ap verdict_byte h)))
report_unique No (Yes m) x y wl wm h = absurd (no_not_yes (ap verdict_byte h))
report_unique No No x y wl wm h = (refl, ap (λ ls. behind_first (behind_first (behind_first ls))) h)

-- no line of a report has a line feed in it
report_lines_are_lines : (r : Report) → IsWithinLimits r → AllByRecursion IsLine (report_lines r)
report_lines_are_lines No within = (
  lacks_by_test 10 (codes "cplan-report 1") refl,
  (
    lacks_by_test 10 (codes "no") refl,
    (lacks_by_test 10 (codes "end") refl, tt),
  ),
)
report_lines_are_lines (Yes l) within = (
  lacks_by_test 10 (codes "cplan-report 1") refl,
  (
    lacks_by_test 10 (codes "yes") refl,
    all-append IsLine (rows Nodes 0 l.nodes ++ rows Clusters 1 l.clusters) (codes "end" ∷ [])
        (all-append IsLine (rows Nodes 0 l.nodes) (rows Clusters 1 l.clusters)
        (rows_are_lines Nodes 0 l.nodes (omega (arith, within.nodes)) within.darts)
        (rows_are_lines Clusters 1 l.clusters (omega (arith, within.clusters)) within.edges))
        (lacks_by_test 10 (codes "end") refl, tt),
  ),
)

-- the first law: one text, one report
pub same_reading : (r s : Report) (a b : List ℕ) → IsWithinLimits r → IsWithinLimits s
    → report_text r ++ a ≡ report_text s ++ b → (r ≡ s) × (a ≡ b)
same_reading r s a b wr ws h =
    let cut = sym (pieces_of_text (report_lines r) a (report_lines_are_lines r wr)) ∙ ap pieces h
    ∙ pieces_of_text (report_lines s) b (report_lines_are_lines s ws) in
    let same = (report_unique r s _ _ wr ws cut).0 in
    (same, append_cancel_left (report_text s) a b (ap (λ t. report_text t ++ a) (sym same) ∙ h))

-- no line of a report begun has a line feed in it
begun_lines : (lines : List (List ℕ)) → IsBegun lines → AllByRecursion IsLine lines
begun_lines lines begun = all-before IsLine lines (begun.next ∷ begun.later)
    (subst (AllByRecursion IsLine) begun.begins (report_lines_are_lines begun.report begun.within))

-- nothing stands in an empty row
no_tail : (more : List (List ℕ)) (next : List ℕ) (later : List (List ℕ)) → [] ≡ more ++ next ∷ later → ⊥
no_tail [] next later h = absurd cc
no_tail (m ∷ more) next later h = absurd cc

-- a report does not go on
not_longer : (lines more : List (List ℕ)) (r : Report) → IsWithinLimits r → IsBegun lines
    → lines ≡ report_lines r ++ more → ⊥
not_longer lines more r within begun h =
    let both : report_lines begun.report ++ [] ≡ report_lines r ++ (more ++ begun.next ∷ begun.later) =
    append-nil (report_lines begun.report) ∙ begun.begins ∙ ap (λ ls. ls ++ begun.next ∷ begun.later) h
    ∙ append_assoc (report_lines r) more (begun.next ∷ begun.later) in
    no_tail more begun.next begun.later (report_unique begun.report r [] _ begun.within within both).1

-- bytes that break off behind some lines have no line there with which these begin a report
no_next_line : (lines : List (List ℕ)) (rest : List ℕ) (kind : ReportKind) (line bytes : List ℕ) (more : List (List ℕ))
    → Breaks lines rest kind → pieces rest ≡ line ∷ more ++ pieces bytes → (r : Report) (later : List (List ℕ))
    → IsWithinLimits r → report_lines r ≡ lines ++ line ∷ later → ⊥
no_next_line lines rest kind line bytes more (wrong other after lacks cut wrongly e) h r later within begins =
    let both : line ∷ more ++ pieces bytes ≡ other ∷ pieces after = sym h ∙ ap pieces cut
    ∙ pieces-cut other after lacks in
    let same : line ≡ other = cc in
    wrongly r later within (begins ∙ ap (λ l. lines ++ l ∷ later) same)
no_next_line lines rest kind line bytes more (missing lacks e) h r later within begins =
    let both : line ∷ more ++ pieces bytes ≡ rest ∷ [] = sym h ∙ pieces-whole rest lacks in
    some_piece bytes more cc

-- bytes at fault begin with the lines before the fault
fault_front : (bytes : List ℕ) (kind : ReportKind) (line : ℕ) (f : IsFaultOf bytes kind line)
    → pieces bytes ≡ f.before ++ pieces f.rest
fault_front bytes kind line f = ap pieces f.front ∙ pieces_of_text f.before f.rest (begun_lines f.before f.begun)

-- a fault does not stand behind lines that go on to a report
apart_behind : (more : List (List ℕ)) (r : Report) (a bytes : List ℕ) (kind : ReportKind) (line : ℕ) → IsWithinLimits r
    → (f : IsFaultOf bytes kind line) → report_lines r ≡ f.before ++ more → pieces f.rest ≡ more ++ pieces a → ⊥
apart_behind [] r a bytes kind line within f h k =
    not_longer f.before [] r within f.begun (sym (append-nil f.before) ∙ sym h ∙ sym (append-nil (report_lines r)))
apart_behind (m ∷ more) r a bytes kind line within f h k =
    no_next_line f.before f.rest kind m a more f.breaks k r more within h

-- the second law: bytes that begin with a report have no fault
pub no_fault_in_report : (r : Report) (a bytes : List ℕ) (kind : ReportKind) (line : ℕ) → IsWithinLimits r
    → bytes ≡ report_text r ++ a → IsFaultOf bytes kind line → ⊥
no_fault_in_report r a bytes kind line within h f =
    let cut = sym (fault_front bytes kind line f) ∙ ap pieces h
    ∙ pieces_of_text (report_lines r) a (report_lines_are_lines r within) in
    elim (lists_compare f.before (report_lines r) (pieces f.rest) (pieces a) cut) [
      | inl l ↦ apart_behind l.0 r a bytes kind line within f l.1 l.2
      | inr m ↦ not_longer f.before m.0 r within f.begun m.1
    ]

-- a fault behind given lines has one kind
same_kind : (lines : List (List ℕ)) (q r : List ℕ) (k l : ReportKind) → Breaks lines q k → Breaks lines r l
    → pieces q ≡ pieces r → k ≡ l
same_kind lines q r k l (wrong _ _ _ _ _ e) (wrong _ _ _ _ _ f) h = e ∙ sym f
same_kind lines q r k l (missing _ e) (missing _ f) h = e ∙ sym f
same_kind lines q r k l (wrong line after lacks cut _ e) (missing whole f) h =
    let both : line ∷ pieces after ≡ r ∷ [] = sym (pieces-cut line after lacks) ∙ ap pieces (sym cut) ∙ h
    ∙ pieces-whole r whole in
    absurd (some_piece after [] cc)
same_kind lines q r k l (missing whole e) (wrong line after lacks cut _ f) h =
    let both : line ∷ pieces after ≡ q ∷ [] = sym (pieces-cut line after lacks) ∙ ap pieces (sym cut) ∙ sym h
    ∙ pieces-whole q whole in
    absurd (some_piece after [] cc)

-- of two faults none stands before the other
faults_ordered : (more : List (List ℕ)) (bytes : List ℕ) (k : ReportKind) (a : ℕ) (l : ReportKind) (b : ℕ) (f :
    IsFaultOf bytes k a) (g : IsFaultOf bytes l b) → g.before ≡ f.before ++ more → pieces f.rest ≡ more ++ pieces g.rest
    → (k ≡ l) × (a ≡ b)
faults_ordered [] bytes k a l b f g h e =
    let same : g.before ≡ f.before = h ∙ append-nil f.before in (
      same_kind f.before f.rest g.rest k l f.breaks (subst (λ ls. Breaks ls g.rest l) same g.breaks) e,
      f.place
          ∙ ap (λ ls. length ls + 1) (sym same) ∙ sym g.place,
    )
faults_ordered (m ∷ more) bytes k a l b f g h e =
    let begins = g.begun.begins ∙ ap (λ ls. ls ++ g.begun.next ∷ g.begun.later) h
    ∙ append_assoc f.before (m ∷ more) (g.begun.next ∷ g.begun.later) in
    absurd (no_next_line f.before f.rest k m g.rest more f.breaks e g.begun.report
    (more ++ g.begun.next ∷ g.begun.later) g.begun.within begins)

-- the third law: bytes have one fault
pub one_fault : (bytes : List ℕ) (k : ReportKind) (a : ℕ) (l : ReportKind) (b : ℕ) → IsFaultOf bytes k a
    → IsFaultOf bytes l b → (k ≡ l) × (a ≡ b)
one_fault bytes k a l b f g =
    let cut = sym (fault_front bytes k a f) ∙ fault_front bytes l b g in
    elim (lists_compare f.before g.before (pieces f.rest) (pieces g.rest) cut) [
      | inl m ↦ faults_ordered m.0 bytes k a l b f g m.1 m.2
      | inr m ↦ (let back = faults_ordered m.0 bytes l b k a g f m.1 m.2 in (sym back.0, sym back.1))
    ]
