-- The lines of a report, and where bytes break off.
use Rattle.std.proofs.Common.{◌≡◌, ◌≢◌, ℕ, ◌+◌, ◌≤◌, ◌^◌, List, [], ◌∷◌, ◌++◌, length, codes, refl, sym, ap, ◌∙◌, subst, inl, inr, arith, append_assoc, length-append, suc}
use Rattle.std.specs.List.{AllByRecursion}
use Rattle.cp_report.specs.declared.kind.ReportKind.{ReportKind}
use Rattle.cp_report.specs.declared.kind.ReportKind.TheVariants.{NoHeading, NoVerdict, WrongLine, NoLine}
use Rattle.cp_report.specs.declared.report.Report.TheVariants.{Yes, No}
use Rattle.cp_report.specs.declared.row.Row.TheVariants.{Nodes, Clusters}
use Rattle.cp_report.specs.Texts.{numbered, node_line, cluster_line, text_of, IsLayoutWithinLimits}
use Rattle.cp_report.specs.Faults.{IsBegun, IsWrongBehind, kind_behind, wrong, missing, IsFaultOf}
use Rattle.cp_report.specs.Reading.{Lacks, AreItems, IsListLine, AreListLines, HasNoRow, IsLate, other_line, no_line, behind_heading, behind_yes, behind_no}
use Rattle.cp_report.proofs.CutLemmas.{cut_or_whole}
use Rattle.cp_report.proofs.TextLemmas.{all-behind, text-append, rows, rows_compare, head_byte}

-- the lines of a layout behind the verdict
abbrev pub layout_lines : List (List ℕ) → List (List ℕ) → List (List ℕ)
layout_lines ns cs = codes "cplan-report 1" ∷ codes "yes" ∷ numbered node_line 0 ns ++ numbered cluster_line 1 cs

-- the first of some lines
abbrev pub first_line : List (List ℕ) → List ℕ
first_line [] = []
first_line (line ∷ lines) = line

-- the lines behind the first one
abbrev pub behind_first : List (List ℕ) → List (List ℕ)
behind_first [] = []
behind_first (line ∷ lines) = lines

-- the first byte of the second line
abbrev pub verdict_byte : List (List ℕ) → ℕ
verdict_byte lines = head_byte (behind_first lines)

-- two bytes are equal
abbrev pub Same : ℕ → ℕ → Type 0
Same a b = a ≡ b

-- the letters n and y differ
pub no_not_yes : Same 110 121 → ⊥
no_not_yes e = omega arith

-- no line behind the node lines begins with the letter of one
pub end_behind_nodes : (lists more : List (List ℕ)) (n : ℕ)
    → head_byte (rows Clusters n lists ++ codes "end" ∷ more) ≢ 110
end_behind_nodes [] more n e = (let f : Same 101 110 = e in omega arith)
end_behind_nodes (items ∷ lists) more n e = (let f : Same 99 110 = e in omega arith)

-- the last line does not begin with the letter of a cluster line
pub end_behind_clusters : (more : List (List ℕ)) → head_byte (codes "end" ∷ more) ≢ 99
end_behind_clusters more e = (let f : Same 101 99 = e in omega arith)

-- no report goes on with a line that is neither the next cluster line nor the last line
clusters_last : (more : List (List ℕ)) (n : ℕ) (line : List ℕ) (later : List (List ℕ)) → n + length more ≤ 2 ^ 32
    → AllByRecursion (AreItems Clusters) more → (line ≡ codes "end" → ⊥)
    → ((items : List ℕ) → IsListLine Clusters n line items → ⊥)
    → rows Clusters n more ++ codes "end" ∷ [] ≡ line ∷ later → ⊥
clusters_last [] n line later fits all not_end none h = not_end (ap first_line (sym h))
clusters_last (m ∷ more) n line later fits all not_end none h =
    none m (record { fits = omega arith; items_fit = all.0; spelled = ap first_line (sym h) })

-- nor does one whose cluster lines are some of these
clusters_wrong : (ks cs : List (List ℕ)) (line : List ℕ) (later : List (List ℕ)) → 1 + length ks ≤ 2 ^ 32
    → AllByRecursion (AreItems Clusters) ks → AllByRecursion (AreItems Clusters) cs → (line ≡ codes "end" → ⊥)
    → ((items : List ℕ) → IsListLine Clusters (1 + length cs) line items → ⊥)
    → rows Clusters 1 ks ++ codes "end" ∷ [] ≡ rows Clusters 1 cs ++ line ∷ later → ⊥
clusters_wrong ks cs line later fits all all_read not_end none h =
    let met = rows_compare Clusters ks cs 1 (codes "end" ∷ []) (line ∷ later) fits all all_read (end_behind_clusters [])
    h in
    clusters_last met.0 (1 + length cs) line later
    (omega (arith, ap (length {A = List ℕ}) met.1, length-append cs met.0))
    (all-behind (AreItems Clusters) cs met.0 (subst (AllByRecursion (AreItems Clusters)) met.1 all)) not_end none
    met.2

-- nor does one whose node lines are some of these
nodes_wrong : (more cs ks : List (List ℕ)) (k : ℕ) (line : List ℕ) (later : List (List ℕ)) → k + length more ≤ 2 ^ 32
    → AllByRecursion (AreItems Nodes) more → 1 + length ks ≤ 2 ^ 32 → AllByRecursion (AreItems Clusters) ks
    → AllByRecursion (AreItems Clusters) cs → (line ≡ codes "end" → ⊥)
    → ((items : List ℕ) → IsListLine Clusters (1 + length cs) line items → ⊥)
    → (cs ≡ [] → (items : List ℕ) → IsListLine Nodes k line items → ⊥)
    → rows Nodes k more ++ (rows Clusters 1 ks ++ codes "end" ∷ []) ≡ rows Clusters 1 cs ++ line ∷ later → ⊥
nodes_wrong [] cs ks k line later fits all fits_too all_too all_read not_end none none_node h =
    clusters_wrong ks cs line later fits_too all_too all_read not_end none h
nodes_wrong (m ∷ more) [] ks k line later fits all fits_too all_too all_read not_end none none_node h =
    none_node refl m (record { fits = omega arith; items_fit = all.0; spelled = ap first_line (sym h) })
nodes_wrong (m ∷ more) (c ∷ cs) ks k line later fits all fits_too all_too all_read not_end none none_node h =
    (let e : Same 110 99 = ap head_byte h in omega arith)

-- what follows no layout so far
pub wrong_behind_layout : (ns cs : List (List ℕ)) (line : List ℕ) → AllByRecursion (AreItems Nodes) ns
    → AllByRecursion (AreItems Clusters) cs → (line ≡ codes "end" → ⊥)
    → ((items : List ℕ) → IsListLine Clusters (1 + length cs) line items → ⊥)
    → (cs ≡ [] → (items : List ℕ) → IsListLine Nodes (0 + length ns) line items → ⊥)
    → IsWrongBehind (layout_lines ns cs) line
wrong_behind_layout ns cs line all_nodes all_clusters not_end none none_node No later within h =
    no_not_yes (ap verdict_byte h)
wrong_behind_layout ns cs line all_nodes all_clusters not_end none none_node (Yes layout) later within h =
    let tails = ap (λ ls. behind_first (behind_first ls)) h in
    let grouped : rows Nodes 0 layout.nodes ++ (rows Clusters 1 layout.clusters ++ codes "end" ∷ []) ≡ rows Nodes 0 ns
    ++ (rows Clusters 1 cs ++ line ∷ later) =
    sym (append_assoc (rows Nodes 0 layout.nodes) (rows Clusters 1 layout.clusters) (codes "end" ∷ [])) ∙ tails
    ∙ append_assoc (rows Nodes 0 ns) (rows Clusters 1 cs) (line ∷ later) in
    let met = rows_compare Nodes layout.nodes ns 0 _ _ (omega (arith, within.nodes)) within.darts all_nodes
    (end_behind_nodes layout.clusters [] 1) grouped in
    nodes_wrong met.0 cs layout.clusters (0 + length ns) line later (omega
    (arith, within.nodes, ap (length {A = List ℕ}) met.1, length-append ns met.0))
    (all-behind (AreItems Nodes) ns met.0 (subst (AllByRecursion (AreItems Nodes)) met.1 within.darts))
    (omega (arith, within.clusters)) within.edges all_clusters not_end none none_node met.2

-- what is no heading begins no report
pub wrong_heading : (line : List ℕ) → (line ≡ codes "cplan-report 1" → ⊥) → IsWrongBehind [] line
wrong_heading line other (Yes layout) later within h = other (sym (ap first_line h))
wrong_heading line other No later within h = other (sym (ap first_line h))

-- behind the heading no line but `yes` and `no` goes on
pub wrong_verdict : (line : List ℕ) → (line ≡ codes "yes" → ⊥) → (line ≡ codes "no" → ⊥)
    → IsWrongBehind (codes "cplan-report 1" ∷ []) line
wrong_verdict line not_yes not_no (Yes layout) later within h =
    not_yes (sym (ap (λ ls. first_line (behind_first ls)) h))
wrong_verdict line not_yes not_no No later within h = not_no (sym (ap (λ ls. first_line (behind_first ls)) h))

-- behind `no` no line but `end` goes on
pub wrong_behind_no : (line : List ℕ) → (line ≡ codes "end" → ⊥)
    → IsWrongBehind (codes "cplan-report 1" ∷ codes "no" ∷ []) line
wrong_behind_no line not_end (Yes layout) later within h = no_not_yes (sym (ap verdict_byte h))
wrong_behind_no line not_end No later within h =
    not_end (sym (ap (λ ls. first_line (behind_first (behind_first ls))) h))

-- a fault whose kind does not tell whether the line is whole
pub early_fault : (lines : List (List ℕ)) (rest : List ℕ) (kind : ReportKind) → IsBegun lines
    → ((line after : List ℕ) → rest ≡ line ++ 10 ∷ after → IsWrongBehind lines line)
    → kind ≡ kind_behind lines WrongLine → kind ≡ kind_behind lines NoLine
    → IsFaultOf (text_of lines ++ rest) kind (length lines + 1)
early_fault lines rest kind begun wrongly three four = record {
  before = lines;
  rest = rest;
  front = refl;
  begun = begun;
  breaks = elim (cut_or_whole 10 rest) [
    | inl lacks ↦ missing lacks four
    | inr cut ↦ wrong cut.0 cut.1 cut.2 cut.3
        (wrongly cut.0 cut.1 cut.3) three
  ];
  place = refl;
}

-- a fault behind the verdict
pub late_fault : (lines : List (List ℕ)) (rest : List ℕ) (kind : ReportKind) → IsBegun lines
    → ((line after : List ℕ) → Lacks 10 line → rest ≡ line ++ 10 ∷ after → IsWrongBehind lines line)
    → ((k : ReportKind) → kind_behind lines k ≡ k) → IsLate rest kind
    → IsFaultOf (text_of lines ++ rest) kind (length lines + 1)
late_fault lines rest kind begun wrongly late (other_line line after lacks cut three) = record {
  before = lines;
  rest = rest;
  front = refl;
  begun = begun;
  breaks = wrong line after lacks cut (wrongly line after lacks cut) (three ∙ sym (late WrongLine));
  place = refl;
}
late_fault lines rest kind begun wrongly late (no_line lacks four) = record {
  before = lines;
  rest = rest;
  front = refl;
  begun = begun;
  breaks = missing lacks (four ∙ sym (late NoLine));
  place = refl;
}

-- as many lines as lists
length-numbered : (line : ℕ → List ℕ → List ℕ) (first : ℕ) (lists : List (List ℕ))
    → length (numbered line first lists) ≡ length lists
length-numbered line first [] = refl
length-numbered line first (items ∷ lists) = ap (λ n. suc n) (length-numbered line (first + 1) lists)

-- the lines of a layout begin a report
layout_begun : (ns cs : List (List ℕ)) → IsLayoutWithinLimits (record { nodes = ns; clusters = cs })
    → IsBegun (layout_lines ns cs)
layout_begun ns cs within = record {
  report = Yes (record { nodes = ns; clusters = cs });
  within = within;
  next = codes "end";
  later = [];
  begins = refl;
}

-- the lines before `end` begin a report that says no
no_begun : IsBegun (codes "cplan-report 1" ∷ codes "no" ∷ [])
no_begun = record { report = No; within = tt; next = codes "end"; later = []; begins = refl }

-- lists that are read are within the limits
pub layout_within : (bytes after rest : List ℕ) (ns cs : List (List ℕ)) → AreListLines Nodes 0 bytes ns after
    → AreListLines Clusters 1 after cs rest → IsLayoutWithinLimits (record { nodes = ns; clusters = cs })
layout_within bytes after rest ns cs nodes clusters = record {
  nodes = omega (arith, nodes.fit);
  darts = nodes.items_fit;
  clusters = omega (arith, clusters.fit);
  edges = clusters.items_fit;
}

-- lines that are read are the front of the bytes
layout_front : (bytes after rest : List ℕ) (ns cs : List (List ℕ)) → AreListLines Nodes 0 bytes ns after
    → AreListLines Clusters 1 after cs rest → text_of (layout_lines ns cs) ++ rest ≡ behind_yes bytes
layout_front bytes after rest ns cs nodes clusters =
    let start = codes "cplan-report 1" ∷ codes "yes" ∷ [] in
    text-append (start ++ numbered node_line 0 ns) (numbered cluster_line 1 cs) rest
    ∙ ap (λ t. text_of (start ++ numbered node_line 0 ns) ++ t) (sym clusters.spelled)
    ∙ text-append start (numbered node_line 0 ns) after
    ∙ ap (λ t. text_of start ++ t) (sym nodes.spelled)

-- the line behind those of a layout has this number
layout_length : (ns cs : List (List ℕ)) → length (layout_lines ns cs) + 1 ≡ length ns + length cs + 3
layout_length ns cs = omega (
  arith,
  length-append (numbered node_line 0 ns) (numbered cluster_line 1 cs),
  length-numbered node_line 0 ns,
  length-numbered cluster_line 1 cs,
)

-- the fault where the lists are read, but `end` does not follow
pub layout_fault : (bytes after rest : List ℕ) (ns cs : List (List ℕ)) (kind : ReportKind)
    → AreListLines Nodes 0 bytes ns after × HasNoRow Nodes (0 + length ns) after
    → AreListLines Clusters 1 after cs rest × HasNoRow Clusters (1 + length cs) rest
    → ((t : List ℕ) → rest ≡ codes "end" ++ 10 ∷ t → ⊥) → IsLate rest kind
    → IsFaultOf (behind_yes bytes) kind (length ns + length cs + 3)
layout_fault bytes after rest ns cs kind nodes clusters no_end late =
    let within = layout_within bytes after rest ns cs nodes.0 clusters.0 in
    let same : cs ≡ [] → after ≡ rest = λ e. clusters.0.spelled ∙ ap (λ k. text_of (rows Clusters 1 k) ++ rest) e in
    let wrongly : (line t : List ℕ) → Lacks 10 line → rest ≡ line ++ 10 ∷ t
    → IsWrongBehind (layout_lines ns cs) line = λ line t lacks cut.
    wrong_behind_layout ns cs line nodes.0.items_fit clusters.0.items_fit
    (λ e. no_end t (cut ∙ ap (λ l. l ++ 10 ∷ t) e))
    (λ items it. clusters.1 items t it.fits it.items_fit (cut ∙ ap (λ l. l ++ 10 ∷ t) it.spelled))
    (λ e items it. nodes.1 items t it.fits it.items_fit (same e ∙ cut ∙ ap (λ l. l ++ 10 ∷ t) it.spelled)) in
    let found = late_fault (layout_lines ns cs) rest kind (layout_begun ns cs within) wrongly (λ k. refl) late in
    let placed = subst (λ n. IsFaultOf (text_of (layout_lines ns cs) ++ rest) kind n) (layout_length ns cs) found in
    subst (λ t. IsFaultOf t kind (length ns + length cs + 3)) (layout_front bytes after rest ns cs nodes.0 clusters.0)
    placed

-- where `end` is missing behind `no`, line 3 is at fault
pub no_fault : (bytes : List ℕ) (kind : ReportKind) → ((t : List ℕ) → bytes ≡ codes "end" ++ 10 ∷ t → ⊥)
    → IsLate bytes kind → IsFaultOf (behind_no bytes) kind 3
no_fault bytes kind no_end late =
    late_fault (codes "cplan-report 1" ∷ codes "no" ∷ []) bytes kind no_begun
    (λ line t lacks cut. wrong_behind_no line (λ e. no_end t (cut ∙ ap (λ l. l ++ 10 ∷ t) e))) (λ k. refl) late

-- where neither `yes` nor `no` follows the heading, line 2 is at fault
pub verdict_fault : (bytes : List ℕ) → ((t : List ℕ) → bytes ≡ codes "yes" ++ 10 ∷ t → ⊥)
    → ((t : List ℕ) → bytes ≡ codes "no" ++ 10 ∷ t → ⊥) → IsFaultOf (behind_heading bytes) NoVerdict 2
verdict_fault bytes none_yes none_no =
    early_fault (codes "cplan-report 1" ∷ []) bytes NoVerdict
    (record { report = No; within = tt; next = codes "no"; later = codes "end" ∷ []; begins = refl })
    (λ line t cut. wrong_verdict line (λ e. none_yes t (cut ∙ ap (λ l. l ++ 10 ∷ t) e))
    (λ e. none_no t (cut ∙ ap (λ l. l ++ 10 ∷ t) e)))
    refl refl

-- where the heading is missing, line 1 is at fault
pub heading_fault : (bytes : List ℕ) → ((t : List ℕ) → bytes ≡ codes "cplan-report 1" ++ 10 ∷ t → ⊥)
    → IsFaultOf bytes NoHeading 1
heading_fault bytes none =
    early_fault [] bytes NoHeading
    (record {
      report = No;
      within = tt;
      next = codes "cplan-report 1";
      later = codes "no" ∷ codes "end" ∷ [];
      begins =
          refl;
    })
    (λ line t cut. wrong_heading line (λ e. none t (cut ∙ ap (λ l. l ++ 10 ∷ t) e)))
    refl refl
