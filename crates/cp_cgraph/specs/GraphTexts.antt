-- The clustered graph (Feng, Cohen and Eades 1995) that a text in GML (Himsolt) says, or its first fault: as a list
-- of keys and values, or as a graph.
use Rattle.std.specs.Prelude.{◌≡◌, ℕ, List, length}
use Rattle.cp_gml.specs.Lists as lists
use Rattle.cp_gml.specs.Trees.{tree}
use Rattle.cp_gml.specs.declared.tree.Entry.{Entry}
use Rattle.cp_gml.specs.declared.tree.GmlList.{GmlList, out-GmlList}
use Rattle.cp_cgraph.specs.Clustered.{Clustered}
use Rattle.cp_cgraph.specs.declared.kind.GraphKind.{GraphKind}
use Rattle.cp_cgraph.specs.GraphFaults as graphs
use Rattle.cp_cgraph.specs.GraphOf.{IsGraphOf}
use Rattle.cp_cgraph.specs.declared.graph_text.TextFault.{TextFault}
use Rattle.cp_cgraph.specs.declared.graph_text.TextFault.TheVariants.{Grammar, Graph, Memory}

-- the text is a list that says this graph
pub record IsGraphText (text : List ℕ) (g : Clustered) : Type 0 where
  pub entries : List Entry
  pub list : lists.IsListOf text (tree entries)
  pub graph : IsGraphOf (length text) entries g

-- the text is a list, whose first fault as a graph this is
pub record IsGraphFault (text : List ℕ) (kind : GraphKind) (at : ℕ) : Type 0 where
  pub entries : List Entry
  pub list : lists.IsListOf text (tree entries)
  pub fault : graphs.IsFaultOf (length text) entries kind at

-- the list is the one that the text spells
pub record IsListText (text : List ℕ) (list : GmlList) : Type 0 where
  pub spelled : lists.IsListOf text (tree (out-GmlList list).entries)
  pub end : (out-GmlList list).end ≡ length text

-- the fault is the first one of the text, if it is one of the text
abbrev pub IsTextFault : List ℕ → TextFault → Type 0
IsTextFault text (Grammar kind at) = lists.IsFaultOf text kind at
IsTextFault text (Graph kind at) = IsGraphFault text kind at
IsTextFault text Memory = Unit {0}
